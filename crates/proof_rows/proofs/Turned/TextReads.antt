-- What is read of a text that an underline turns.
use Rattle.std.proofs.Common.{◌≡◌, ℕ, List, [], ap, sym, ◌∙◌}
use Rattle.std.specs.Prelude.{Some, None}
use Rattle.md_meaning.specs.State.{ParagraphLine, texts}
use Rattle.md_events.specs.Events.Spelled.{OfHeadingSetext, Reading, fresh, read}
use Rattle.md_events.proofs.SetextReads.{read-setext_text}
use Rattle.proof_frame.specs.Row.{Row, last_row, read_lines}
use Rattle.proof_frame.proofs.ParagraphLines.{IsRead, lines-recorded}
use Rattle.proof_rows.proofs.Turned.Events.{so_far, text_events}

-- it is read as the lines of that text
pub text-reads : (bytes : List ℕ) (row : Row) (rows : List Row) (lines : List ParagraphLine) (r : Reading) →
    IsRead bytes row rows lines → r.text ≡ None → r.leaf ≡ Some (fresh OfHeadingSetext) →
    read bytes r (text_events row.first (last_row row rows).end (read_lines bytes row rows)) ≡
    record r { leaf = Some (so_far [] (texts lines)) }
text-reads bytes row rows lines r is none opened =
    read-setext_text bytes r row.first (last_row row rows).end (read_lines bytes row rows) is.own none opened is.between
    (lines-recorded bytes row rows lines is)
    ∙ ap (λ (l : List (List ℕ)). record r { leaf = Some (so_far [] l) }) (sym is.texts_are)
