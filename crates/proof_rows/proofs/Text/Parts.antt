-- The lines of a text are the chunks of a part, and are read in their places: what is known of them.
use Rattle.std.proofs.Common.{◌≡◌, ℕ, true, List, [], ◌∷◌, refl, sym, subst}
use Rattle.md_engine.specs.declared.configuration.ParseOptions.{ParseOptions}
use Rattle.md_engine.specs.declared.event.Point.{Point}
use Rattle.md_events.specs.Events.Tiles.{begins_at}
use Rattle.md_events.proofs.InlineLemmas.{same-refl}
use Rattle.proof_frame.specs.TextLines.{text_leaf}
use Rattle.proof_frame.specs.Row.{Row, after_row, chunks_of, read_lines, last_row}
use Rattle.proof_rows.specs.BlockList.{unread_lines}
use Rattle.proof_rows.proofs.GroupLines.{AreLines}
use Rattle.md_events.specs.declared.inline.PartKind.TheVariants.{Text}
use Rattle.md_events.specs.Events.Inline.{line_end}
use Rattle.proof_rows.proofs.JoinedLemmas.{following-is}
use Rattle.proof_rows.proofs.Text.Order.{line-order, line-before, next-front}
use Rattle.proof_rows.proofs.GroupLemmas.{line_end-alone, line_end-ended}
use Rattle.md_outline.specs.Between.{is_between}
use Rattle.proof_frame.proofs.BetweenFacts.{ending-before, ending-following}
use Rattle.proof_frame.proofs.TextInside.{TextInside, text-line, text-more}
use Rattle.proof_rows.proofs.Text.Pieces.{line-alone, line-ended}

pub lines-inside : (options : ParseOptions) (bytes : List ℕ) (row : Row) (rows : List Row) →
    AreLines options bytes row rows →
    TextInside bytes Text row.first (last_row row rows).end (chunks_of row rows) (unread_lines row rows)
    (read_lines bytes row rows)
lines-inside options bytes row [] h =
    text-line bytes Text text_leaf.link row.first row.end row.end refl (line-alone options bytes h.0 row h.1 h.2)
    (line-order options bytes h.0 row h.1) (line_end-alone options bytes h.0 row h.1) (λ first last. last)
lines-inside options bytes row (next ∷ rows) h =
    let q : Point = after_row row in
    let following : q ≡ h.3 = following-is row h.3 h.4 in
    let ends : line_end bytes (record { first = row.first; after = q }) ≡
    row.end = subst (λ (x : Point). line_end bytes (record { first = row.first; after = x }) ≡ row.end) (sym following)
    (line_end-ended options bytes h.0 row h.3 h.1 h.5) in
    text-more
    (text-line bytes Text text_leaf.link row.first row.end q refl (line-ended options bytes row next rows h)
    (line-before options bytes row next rows h) ends (λ first last. ending-before bytes row.end h.3 h.5))
    (next-front options bytes row next rows h)
    (subst (λ (x : Point). is_between bytes x.index ≡ true) (sym following) (ending-following bytes row.end h.3 h.5))
    (lines-inside options bytes next rows h.7)

-- a text begins with its first chunk
pub chunks-begin : (row : Row) (rows : List Row) → begins_at row.first (chunks_of row rows) ≡ true
chunks-begin row [] = same-refl row.first
chunks-begin row (next ∷ rows) = same-refl row.first
