-- The events of a thematic break by the cells of its line are those by its bytes.
use Rattle.std.proofs.Common.{◌≡◌, ℕ, ◌<◌, ◌^◌, Bool, true, ◌&&◌, List, ◌++◌, length, refl}
use Rattle.std.proofs.lemmas.Bool.{and_parts}
use Rattle.md_engine.specs.declared.configuration.ParseOptions.{ParseOptions}
use Rattle.md_engine.specs.declared.event.Content.{Content}
use Rattle.md_engine.specs.declared.event.Event.{Event}
use Rattle.md_engine.specs.declared.event.Name.TheVariants as n
use Rattle.md_engine.specs.declared.event.Point.{Point}
use Rattle.md_engine.specs.declared.tokenizer.Line.{Line}
use Rattle.md_engine.specs.declared.tokenizer.held_leaf.HeldLeaf.TheVariants as held_leaf
use Rattle.md_engine.specs.Meaning.{Cell}
use Rattle.md_events.specs.Ahead.{begins_white, line_cells, line_end, white_end, white_rest}
use Rattle.md_events.specs.Spaces.{small_indent}
use Rattle.md_meaning.specs.Leaves.{is_rule}
use Rattle.md_meaning.specs.Rest.{Rest, has_small_indent, trim_start}
use Rattle.md_events.proofs.FeedLines.{Stops}
use Rattle.md_events.proofs.RestCells.{RestAt, rest_cells}
use Rattle.md_meaning.proofs.TextsLemmas.{NoEnding}
use Rattle.proof_frame.specs.RestLine.{rest_line}
use Rattle.proof_leaf_laws.specs.Leaf.ThematicBreak.{break_leaf, first_cell, is_ruled}
use Rattle.md_meaning.specs.Texts.{first_byte}
use Rattle.proof_frame.proofs.ContentFacts.{NoContent}
use Rattle.proof_frame.proofs.EachEvent.{Each}
use Rattle.proof_leaf_laws.proofs.MarkRuns.Cells.{line-adds}
use Rattle.proof_frame.proofs.MarkRuns.Each.{Holds, IsNoContent, cell_line-holds, each-no_content}
use Rattle.proof_leaf_laws.proofs.ThematicBreak.Kinds.{break-mark, rule-first}

-- the whole break
pub break-adds :
    (options : ParseOptions) (said : Line) (text following : List ℕ) (r : Rest) (p : Point) (stop : List Cell) →
    RestAt text following r p → NoEnding r.bytes → Stops stop → length (rest_cells said r p ++ stop) < 2 ^ 63 →
    is_ruled options r ≡ true →
    break_leaf.adds options held_leaf.None (rest_cells said r p ++ stop) p ≡
    break_leaf.added options held_leaf.None (rest_line r) p
break-adds options said text following r p stop is h k short starts =
    line-adds n.ThematicBreak n.ThematicBreakSequence options said text following r p stop is h k short small
    (break-mark (first_byte (trim_start r.bytes)) (rule-first (trim_start r.bytes) parts.1))
  where
    parts : (options.constructs.thematic_break && has_small_indent options r ≡ true)
        × (is_rule (trim_start r.bytes) ≡ true)
    parts =
        and_parts (options.constructs.thematic_break && has_small_indent options r) (is_rule (trim_start r.bytes))
        starts

    small : has_small_indent options r ≡ true
    small = (and_parts options.constructs.thematic_break (has_small_indent options r) parts.0).1

-- what holds of its names holds of each of its events, by its cells
break-each : (P : Event → Type 0) → Holds P n.ThematicBreak → Holds P n.SpaceOrTab → Holds P n.ThematicBreakSequence →
    (options : ParseOptions) (cells : List Cell) (p : Point) → Each P (break_leaf.adds options held_leaf.None cells p)
break-each P around_it space mark options cells p =
    let left : List Cell = white_rest (small_indent options) cells in
    cell_line-holds P n.ThematicBreak n.ThematicBreakSequence around_it space mark (begins_white cells)
    (first_cell left) (line_cells left) p (white_end (small_indent options) cells p) (line_end cells p)

-- no content is in it
pub break-no_content : (wants : Content → Bool) (options : ParseOptions) (cells : List Cell) (p : Point) →
    NoContent wants (break_leaf.adds options held_leaf.None cells p)
break-no_content wants options cells p =
    each-no_content wants (break_leaf.adds options held_leaf.None cells p)
    (break-each (IsNoContent wants) (λ q. (refl, refl), λ q. (refl, refl)) (λ q. (refl, refl), λ q. (refl, refl))
    (λ q. (refl, refl), λ q. (refl, refl)) options cells p)
