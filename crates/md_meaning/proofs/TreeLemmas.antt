-- The tree of a text by its lines.
use Rattle.std.proofs.Common.{◌≡◌, ℕ, Bool, false, cond, List, ◌∷◌, map, drop, None, ap, ◌∙◌}
use Rattle.md_engine.specs.declared.configuration.ParseOptions.{ParseOptions}
use Rattle.md_meaning.specs.Grouped.{grouped}
use Rattle.md_meaning.specs.Lines.{lines_of}
use Rattle.md_meaning.specs.Meaning.{tree, with_frontmatter}
use Rattle.md_meaning.specs.Preamble.{Preamble, front_of, has_mark, preamble_by, rest_at}
use Rattle.md_meaning.specs.State.{At, Path, closed}
use Rattle.md_meaning.specs.Step.{spot_of, steps}
use Rattle.md_meaning.specs.Tree.{Blocks, End}

-- the tree of a text after its preamble
abbrev pub tree_by : ParseOptions → Preamble → Blocks
tree_by options p = with_frontmatter p.front (grouped (closed options (steps options (At (spot_of End)) p.body)))

-- what is open after the lines of a text
abbrev pub after_lines : ParseOptions → List (List ℕ) → Path
after_lines options lines = steps options (At (spot_of End)) (map (rest_at 0) lines)

-- a text with nothing before its body
pub tree-lines : (options : ParseOptions) (text : List ℕ) (line : List ℕ) (lines : List (List ℕ)) →
    has_mark text ≡ false → front_of options (lines_of text) ≡ None → lines_of text ≡ line ∷ lines →
    tree options text ≡ grouped (closed options (after_lines options (line ∷ lines)))
tree-lines options text line lines mark front e =
    ap
    (λ (m : Bool).
    tree_by options
    (preamble_by (cond m 3 0) (lines_of (cond m (drop 3 text) text))
    (front_of options (lines_of (cond m (drop 3 text) text))))) mark
    ∙ ap (λ o. tree_by options (preamble_by 0 (lines_of text) o)) front
    ∙ ap (λ (ls : List (List ℕ)). tree_by options (preamble_by 0 ls None)) e
