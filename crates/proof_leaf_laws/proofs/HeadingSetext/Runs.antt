-- The events of an underline by the cells of its line are those by its bytes.
use Rattle.std.proofs.Common.{◌≡◌, ℕ, ◌<◌, ◌^◌, Bool, true, List, ◌++◌, length, refl}
use Rattle.md_engine.specs.declared.configuration.ParseOptions.{ParseOptions}
use Rattle.md_engine.specs.declared.event.Content.{Content}
use Rattle.md_engine.specs.declared.event.Event.{Event}
use Rattle.md_engine.specs.declared.event.Name.TheVariants as n
use Rattle.md_engine.specs.declared.event.Point.{Point}
use Rattle.md_engine.specs.declared.tokenizer.Line.{Line}
use Rattle.md_engine.specs.declared.tokenizer.held_leaf.HeldLeaf.{HeldLeaf}
use Rattle.md_engine.specs.Meaning.{Cell}
use Rattle.md_leaves.specs.HeadingSetextRule.{first_cell}
use Rattle.md_events.specs.Ahead.{begins_white, line_cells, line_end, white_end, white_rest}
use Rattle.md_events.specs.Spaces.{small_indent}
use Rattle.md_events.proofs.FeedLines.{Stops}
use Rattle.md_events.proofs.RestCells.{RestAt, rest_cells}
use Rattle.md_meaning.specs.Rest.{Rest, trim_start}
use Rattle.md_meaning.specs.Texts.{first_byte}
use Rattle.md_meaning.proofs.TextsLemmas.{NoEnding}
use Rattle.proof_frame.specs.RestLine.{rest_line}
use Rattle.proof_leaf_laws.specs.Leaf.HeadingSetext.{setext_leaf}
use Rattle.proof_frame.proofs.ContentFacts.{NoContent}
use Rattle.proof_frame.proofs.EachEvent.{Each}
use Rattle.proof_leaf_laws.proofs.HeadingSetext.Kinds.{Underlines, setext-starts, underline-mark}
use Rattle.proof_leaf_laws.proofs.MarkRuns.Cells.{line-adds}
use Rattle.proof_frame.proofs.MarkRuns.Each.{Holds, IsNoContent, cell_line-holds, each-no_content}

-- the whole underline
pub setext-adds : (options : ParseOptions) (on : HeldLeaf) (said : Line) (text following : List ℕ)
    (r : Rest) (p : Point)
    (stop : List Cell) →
    RestAt text following r p → NoEnding r.bytes → Stops stop → length (rest_cells said r p ++ stop) < 2 ^ 63 →
    setext_leaf.starts options on r ≡ true →
    setext_leaf.adds options on (rest_cells said r p ++ stop) p ≡ setext_leaf.added options on (rest_line r) p
setext-adds options on said text following r p stop at h k short starts =
    let is : Underlines options on r = setext-starts options on r starts in
    line-adds n.HeadingSetextUnderline n.HeadingSetextUnderlineSequence options said text following r p
    stop at h k short
    is.small (underline-mark (first_byte (trim_start r.bytes)) is.mark)

-- what holds of its names holds of each of its events, by its cells
setext-each : (P : Event → Type 0) → Holds P n.HeadingSetextUnderline → Holds P n.SpaceOrTab →
    Holds P n.HeadingSetextUnderlineSequence → (options : ParseOptions) (on : HeldLeaf) (cells : List Cell)
    (p : Point) →
    Each P (setext_leaf.adds options on cells p)
setext-each P around_it space mark options on cells p =
    let left : List Cell = white_rest (small_indent options) cells in
    cell_line-holds P n.HeadingSetextUnderline n.HeadingSetextUnderlineSequence around_it space mark
    (begins_white cells) (first_cell left) (line_cells left) p (white_end (small_indent options) cells p)
    (line_end cells p)

-- no content is in it
pub setext-no_content : (wants : Content → Bool) (options : ParseOptions) (on : HeldLeaf) (cells : List Cell)
    (p : Point) →
    NoContent wants (setext_leaf.adds options on cells p)
setext-no_content wants options on cells p =
    each-no_content wants (setext_leaf.adds options on cells p)
    (setext-each (IsNoContent wants) (λ q. (refl, refl), λ q. (refl, refl)) (λ q. (refl, refl), λ q. (refl, refl))
    (λ q. (refl, refl), λ q. (refl, refl)) options on cells p)
