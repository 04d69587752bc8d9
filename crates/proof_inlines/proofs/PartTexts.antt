-- What is read of the text parts of a block list are the texts of its tree.
use Rattle.std.proofs.Common.{◌≡◌, ℕ, true, List, [], ◌∷◌, sym, ◌∙◌}
use Rattle.std.specs.List.{list_all}
use Rattle.md_engine.specs.declared.event.Event.{Event}
use Rattle.md_events.specs.Events.Grammar.{Expression, is_whole, keeps_grammar, left_of, unread_text}
use Rattle.md_events.specs.Events.Inline.{Covers, pieces}
use Rattle.md_events.specs.Events.Places.{first_point}
use Rattle.md_events.specs.Events.Spelled.{spelled}
use Rattle.md_events.specs.Events.Tiles.{IsBlockList, end_point, parts}
use Rattle.md_inline_events.specs.TreeTexts.{is_filled_part, part_texts, tree_texts}
use Rattle.proof_inlines.proofs.GrammarWalk.{Runs, runs}
use Rattle.proof_inlines.proofs.Nearby.{near}
use Rattle.proof_inlines.proofs.PartReads.{told-parts}
use Rattle.proof_inlines.proofs.Phases.{Out, phases, phases-keep, top-inside}
use Rattle.proof_inlines.proofs.Spots.{texts-inside}
use Rattle.proof_inlines.proofs.TextsTold.{told-tree}

-- the phases of a block list
phases-run : (bytes : List ℕ) (blocks : List Event) → IsBlockList bytes blocks → Runs phases Out blocks
unfolding keeps_grammar
phases-run bytes blocks list =
    let start = texts-inside (λ (x : Expression). is_whole (left_of unread_text (x ∷ []) blocks)) list.grammar in
    runs phases phases-keep [] (start.0 ∷ []) Out blocks list.nested.balanced.matches start.1 (top-inside start.0)

-- A part has the lines of its leaf: where no line of a paragraph, a heading or a cell is blank, and the last has no
-- ending, what is read of the parts are the texts of the tree, in order.
pub texts-of_parts : (bytes : List ℕ) (blocks : List Event) → IsBlockList bytes blocks →
    Covers first_point (pieces blocks) (end_point bytes) → list_all (is_filled_part bytes) (parts blocks) ≡ true →
    part_texts bytes (parts blocks) ≡ tree_texts (spelled blocks bytes)
texts-of_parts bytes blocks list covers filled =
    sym
    (told-parts bytes blocks first_point 0
    (record {
      near = near bytes blocks list.nested.forward list.placed covers;
      forward = list.nested.forward;
      placed = list.placed;
      whole = list.lines;
      filled = filled;
    })
    (phases-run bytes blocks list) list.chunks)
    ∙ told-tree bytes blocks list
