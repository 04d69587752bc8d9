-- All that the frame asks of what is in the place of a text and the line that turns it: definitions at its front, one
-- after the other, and what that line turns the lines that remain into.
use Rattle.std.proofs.Common.{◌≡◌, ℕ, true, List}
use Rattle.md_engine.specs.declared.configuration.ParseOptions.{ParseOptions}
use Rattle.md_engine.specs.declared.event.Event.{Event}
use Rattle.proof_rows.specs.BlockList.{text_unread, turned_unread}
use Rattle.proof_frame.specs.Row.{Row, last_row}
use Rattle.proof_content_laws.specs.Defined.{defined_unread}
use Rattle.proof_rows.specs.Rows.{defined_done, turned_done}
use Rattle.proof_rows.proofs.GroupLines.{AreLines, IsLeft, IsUnder}
use Rattle.proof_frame.proofs.LeafFacts.{EventFacts}
use Rattle.proof_frame.proofs.PartedFacts.{clear}
use Rattle.proof_rows.proofs.Text.Valid.{defined-valid, lines-clear, are_valid-then}
use Rattle.proof_rows.proofs.Turned.Cut.{IsCutHeading, heading-cut, left-remains}
use Rattle.proof_rows.proofs.Turned.Cut.IsCutHeading.{Follows, Turned}
use Rattle.proof_rows.proofs.Turned.Facts.{turned-facts}
use Rattle.proof_rows.proofs.Turned.Under.{text-whole}

-- no tab of a character is cut where its first line begins
cut-clear : (options : ParseOptions) (bytes : List ℕ) (under row : Row) (rows : List Row) (ts es fs : List Event) →
    IsCutHeading options bytes under row rows ts es fs → clear bytes row.first ≡ true
cut-clear options bytes under _ _ _ _ _ (Turned row rows are is) = lines-clear options bytes row rows are
cut-clear options bytes under _ _ _ _ _ (Follows d row own next more q ts es fs are is after ends front following) =
    lines-clear options bytes row own are

-- It is from the begin of its first line to the end of the line that turns it.
cut-valid : (options : ParseOptions) (bytes : List ℕ) (under row : Row) (rows : List Row) (ts es fs : List Event) →
    IsCutHeading options bytes under row rows ts es fs → EventFacts bytes true row.first under.end es fs
cut-valid options bytes under _ _ _ _ _ (Turned row rows are is) =
    (turned-facts options bytes row rows under are is).are_valid
cut-valid options bytes under _ _ _ _ _ (Follows d row own next more q ts es fs are is after ends front following) =
    are_valid-then bytes true row.first (last_row row own).end q next.first under.end next.front
    (defined_unread d row own)
    (defined_done bytes d row own) es fs (defined-valid bytes d row own is) (text-whole options bytes row own are) ends
    front (cut-clear options bytes under next more ts es fs following)
    (cut-valid options bytes under next more ts es fs following)

pub turned-valid : (options : ParseOptions) (bytes : List ℕ) (row : Row) (rows : List Row) (under : Row) →
    (are : AreLines options bytes row rows) → IsUnder options bytes (last_row row rows) under →
    IsLeft options bytes row rows are →
    EventFacts bytes true row.first under.end (turned_unread options bytes row rows under)
    (turned_done options bytes row rows under)
turned-valid options bytes row rows under are is left =
    cut-valid options bytes under row rows (text_unread options bytes row rows)
    (turned_unread options bytes row rows under) (turned_done options bytes row rows under)
    (heading-cut options bytes row rows under are is (left-remains options bytes row rows are left))
