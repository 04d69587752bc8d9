-- The tree of a text, with frontmatter and without.
use Rattle.std.proofs.Common.{◌≡◌, ℕ, List, drop, Option, Some, None, sym, ◌∙◌, ap}
use Rattle.std.specs.Option.{option_map}
use Rattle.md_engine.specs.declared.configuration.ParseOptions.{ParseOptions}
use Rattle.md_meaning.specs.Tree as t
use Rattle.md_meaning.specs.Lines.{lines_of}
use Rattle.md_meaning.specs.Preamble as p
use Rattle.md_meaning.specs.Rest as r
use Rattle.md_meaning.specs.State.{At, closed}
use Rattle.md_meaning.specs.Step.{spot_of, steps}
use Rattle.md_meaning.specs.Grouped.{grouped}
use Rattle.md_meaning.specs.Meaning.{with_frontmatter, tree}
use Rattle.reference_tree.specs.declared.preamble.Front.{Front}
use Rattle.reference_tree.specs.declared.rest.Rest.{Rest}
use Rattle.reference_tree.specs.Fronts.{lines_in, front_meaning, IsEnd}
use Rattle.reference_tree.specs.Rests.{rest_meanings}
use Rattle.reference_tree.specs.Trees.{meaning}
use Rattle.reference_tree.proofs.FrontLemmas.{rests_after, lines_in-rests}

-- the lines of a body, read and closed
abbrev pub body : ParseOptions → List r.Rest → t.Blocks
body options rests = closed options (steps options (At (spot_of t.End)) rests)

-- a tree by its preamble
abbrev tree_by : ParseOptions → p.Preamble → t.Blocks
tree_by options x = with_frontmatter x.front (grouped (body options x.body))

-- These rests are the lines of the text, and this is the frontmatter that was found there.
pub record Reads (options : ParseOptions) (text : List ℕ) (rests : List Rest) (found : Option Front) : Type 0 where
  pub lines : rest_meanings rests ≡ p.rests_at (p.first_column text) (lines_of (p.without_mark text))
  pub front : option_map front_meaning found ≡ p.front_of options (lines_in rests)

tree-found : (options : ParseOptions) (text : List ℕ) (rests : List Rest) (found : Option Front) →
    Reads options text rests found →
    tree options text ≡
    tree_by options
    (p.preamble_by (p.first_column text) (lines_of (p.without_mark text)) (option_map front_meaning found))
tree-found options text rests found h =
    ap (λ o. tree_by options (p.preamble_by (p.first_column text) (lines_of (p.without_mark text)) o))
    (sym
    (h.front
    ∙ ap (p.front_of options) (lines_in-rests (p.first_column text) (lines_of (p.without_mark text)) rests h.lines)))

pub tree-some : (options : ParseOptions) (text : List ℕ) (rests : List Rest) (found : Option Front) (f : Front) →
    Reads options text rests found → found ≡ Some f → IsEnd (drop 1 rests) f.after.now →
    t.More (meaning f.block) (grouped (body options (rest_meanings f.after.now))) ≡ tree options text
tree-some options text rests found f h is end =
    ap (λ xs. t.More (meaning f.block) (grouped (body options xs)))
    (rests_after (p.first_column text) (lines_of (p.without_mark text)) rests f.after.now h.lines end)
    ∙ sym
    (tree-found options text rests found h
    ∙ ap
    (λ o.
    tree_by options
    (p.preamble_by (p.first_column text) (lines_of (p.without_mark text)) (option_map front_meaning o))) is)

pub tree-none : (options : ParseOptions) (text : List ℕ) (rests : List Rest) (found : Option Front) →
    Reads options text rests found → found ≡ None → grouped (body options (rest_meanings rests)) ≡ tree options text
tree-none options text rests found h is =
    ap (λ xs. grouped (body options xs)) h.lines
    ∙ sym
    (tree-found options text rests found h
    ∙ ap
    (λ o.
    tree_by options
    (p.preamble_by (p.first_column text) (lines_of (p.without_mark text)) (option_map front_meaning o))) is)
