-- The chunks of the lines of a text.
use Rattle.std.proofs.Common.{◌≡◌, ℕ, List, [], ◌∷◌, ◌++◌, slice_range, refl, ap, sym, ◌∙◌, subst}
use Rattle.md_engine.specs.declared.configuration.ParseOptions.{ParseOptions}
use Rattle.md_engine.specs.declared.event.Event.{Event}
use Rattle.md_engine.specs.declared.event.Point.{Point}
use Rattle.md_events.specs.Events.Inline.{plain_chunk}
use Rattle.proof_frame.specs.Row.{Row, TextRow, after_row, read_lines}
use Rattle.proof_rows.specs.BlockList.{unread_lines}
use Rattle.proof_rows.proofs.GroupLemmas.{text-some}
use Rattle.proof_rows.proofs.GroupLines.{AreLines}
use Rattle.proof_frame.proofs.PieceFacts.{Starts, starts-append}
use Rattle.proof_frame.proofs.ChunkFacts.{Chunked, chunked-alone, chunked-ended}
use Rattle.md_events.proofs.FeedLines.{IsEnding}
use Rattle.proof_rows.proofs.RowFacts.{IsRow}
use Rattle.proof_rows.proofs.JoinedLemmas.{following-is}

-- a line alone
pub line-alone : (options : ParseOptions) (bytes line : List ℕ) (row : Row) → IsRow options bytes line row →
    row.kind ≡ TextRow →
    Chunked bytes row.first row.end
line-alone options bytes line row is text =
    chunked-alone bytes line row.first row.end
    (text-some options bytes line row is text) is.no_ending is.end_whole is.size is.text

-- a line with its ending
pub line-ended : (options : ParseOptions) (bytes : List ℕ) (row next : Row) (rows : List Row) →
    AreLines options bytes row (next ∷ rows) → Chunked bytes row.first (after_row row)
line-ended options bytes row next rows h =
    subst (λ (q : Point). Chunked bytes row.first q) (sym (following-is row h.3 h.4))
    (chunked-ended bytes h.0 row.first h.3 (text-some options bytes h.0 row h.1 h.2) h.1.no_ending
    (ap (λ (r : Point). slice_range bytes row.first.index r.index) (sym h.1.end) ∙ h.1.text)
    (subst (λ (r : Point). IsEnding bytes r h.3) h.1.end h.5))

-- a chunk comes first
pub linked-starts : (row : Row) (rows : List Row) → Starts (unread_lines row rows)
linked-starts row [] = refl
linked-starts row (next ∷ rows) = refl

-- the text of the first line comes first
pub read-starts : (options : ParseOptions) (bytes : List ℕ) (row : Row) (rows : List Row) →
    AreLines options bytes row rows →
    Starts (read_lines bytes row rows)
read-starts options bytes row [] h = (line-alone options bytes h.0 row h.1 h.2).starts
read-starts options bytes row (next ∷ rows) h =
    let chunk : List Event = plain_chunk bytes (record { first = row.first; after = after_row row }) in
    starts-append (chunk ++ next.front) (read_lines bytes next rows)
    (starts-append chunk next.front (line-ended options bytes row next rows h).starts)
