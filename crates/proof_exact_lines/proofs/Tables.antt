-- A whole table: the lines that the exact list has in it are those that flow has read, so its events are theirs with
-- head, body and cells.
use Rattle.std.proofs.Common.{◌≡◌, ℕ, false, subst, List, [], ◌∷◌, ◌++◌, refl, sym, ap, ap₂, ◌∙◌, append_assoc}
use Rattle.std.proofs.Common.{append-nil}
use Rattle.md_engine.specs.declared.event.Event.{Event}
use Rattle.md_engine.specs.declared.event.Name.{Name}
use Rattle.md_engine.specs.declared.event.Name.TheVariants as n
use Rattle.md_engine.specs.declared.event.Point.{Point}
use Rattle.md_meaning.specs.Rest.{is_blank}
use Rattle.md_events.specs.Events.Nested.{around}
use Rattle.md_events.proofs.FeedLines.{slice-front}
use Rattle.md_events.proofs.InlineLemmas.{past-index}
use Rattle.md_tables.specs.DelimiterCells.{delimiter_events}
use Rattle.md_tables.specs.RowCells.{row_events, unread_text}
use Rattle.proof_frame.specs.Row.{Row as FrameRow, ending_events, last_row, row_line}
use Rattle.proof_leaf_laws.specs.Headed.{headed_unread}
use Rattle.proof_leaf_laws.proofs.GfmTable.DelimiterRowCells.{AreDelimiters, columns-cells}
use Rattle.proof_leaf_laws.proofs.GfmTable.TableForm.{AreBodyRows, IsFilledLine, IsTable, body_after, delimiter_part}
use Rattle.proof_leaf_laws.proofs.GfmTable.TableForm.{gap_events, head_events, row_part, rows_after, table_events}
use Rattle.proof_leaf_laws.proofs.GfmTable.TableUnread.{line-dark, table-unread}
use Rattle.md_events.specs.Exact.Leaves.{delimiter_row, joined, last_end, leaf, onto_next, start, table, text_row}
use Rattle.md_events.specs.Exact.Places.{ending, line_end, place}
use Rattle.proof_exact_pieces.proofs.OnLine.{LineIn, OnLine}
use Rattle.md_events.specs.Exact.Rows.{Row}
use Rattle.proof_exact_lines.proofs.BeginsAt.{rest_bytes}
use Rattle.proof_exact_lines.proofs.LeafLines.{end_at}
use Rattle.proof_exact_lines.proofs.OnLine.{on-begins}
use Rattle.proof_exact_lines.proofs.Parts.{three-joined}
use Rattle.proof_exact_lines.proofs.FlowLines.{ReadAs, same-line}
use Rattle.proof_exact_lines.proofs.Spans.{SameLine}
use Rattle.proof_exact_lines.proofs.RowLines.{delimiter-row, text-row}

-- A line of a table as the exact list has it, and as flow has read it: it begins and ends at the same points, with the
-- same ending and the same prefixes, and has the same bytes.
pub record IsTableLine (bytes : List ℕ) (x : Row) (r : FrameRow) : Type 0 where
  pub read : ReadAs x r
  pub same : SameLine x r
  pub line : row_line bytes r ≡ rest_bytes x.rest

-- So it is where the rest of the line is at a point of the text, from which flow has read the line to its end.
pub table-line : (text following : List ℕ) (x : Row) (r : FrameRow) → LineIn text following x.line →
    OnLine text following x.line x.rest r.first → r.end ≡ end_at x.rest r.first →
    ((name : Name) → ending name x.line ≡ ending_events name r) → x.front ≡ r.front → IsTableLine text x r
table-line text following x r is on end endings front = record {
  read = read;
  same = same-line x r read endings front;
  line =
      slice-front text r.first.index r.end.index (rest_bytes x.rest) following on.valid.text_is
      (ap (λ (q : Point). q.index) end ∙ past-index (rest_bytes x.rest) r.first);
}
  where
    read : ReadAs x r
    read = record { at = on-begins text following x.line x.rest r.first is on; end = end }

abbrev pub AreTableLines : List ℕ → List Row → List FrameRow → Type 0
AreTableLines bytes [] [] = Unit {0}
AreTableLines bytes (x ∷ xs) (r ∷ rs) = IsTableLine bytes x r × AreTableLines bytes xs rs
AreTableLines bytes _ _ = ⊥

-- Rows.

filled-dark : (bytes : List ℕ) (x : Row) (r : FrameRow) → IsTableLine bytes x r → IsFilledLine bytes r →
    is_blank (rest_bytes x.rest) ≡ false
filled-dark bytes x r is filled = ap is_blank (sym is.line) ∙ line-dark bytes r filled

row-part : (bytes : List ℕ) (x : Row) (r : FrameRow) → IsTableLine bytes x r → IsFilledLine bytes r →
    text_row x.line x.rest ≡ row_part unread_text bytes r
row-part bytes x r is filled =
    text-row x.line x.rest r.first is.read.at (filled-dark bytes x r is filled)
    ∙ ap₂ (λ (q : Point) (l : List ℕ). around n.GfmTableRow r.first q (row_events unread_text l r.first))
    (sym is.read.end) (sym is.line)

delimiter-part : (bytes : List ℕ) (x : Row) (r : FrameRow) → IsTableLine bytes x r → IsFilledLine bytes r →
    AreDelimiters (row_line bytes r) → delimiter_row x.line x.rest ≡ delimiter_part bytes r
delimiter-part bytes x r is filled are =
    delimiter-row x.line x.rest r.first is.read.at (filled-dark bytes x r is filled)
    (subst AreDelimiters is.line are)
    ∙ ap₂ (λ (q : Point) (l : List ℕ). around n.GfmTableDelimiterRow r.first q (delimiter_events l r.first))
    (sym is.read.end) (sym is.line)

-- between two lines
gap-is : (x y : Row) (ys : List Row) (r next : FrameRow) → SameLine x r → SameLine y next →
    onto_next (x ∷ y ∷ ys) ≡ gap_events r next
gap-is x y ys r next same further = ap₂ (λ (es fs : List Event). es ++ fs) (same.ending n.LineEnding) further.front

-- where the last of some lines ends
last-end : (bytes : List ℕ) (x : Row) (r : FrameRow) (xs : List Row) (rs : List FrameRow) → IsTableLine bytes x r →
    AreTableLines bytes xs rs → start (last_end (x ∷ xs)) ≡ (last_row r rs).end
last-end bytes x r [] [] is are = is.same.end
last-end bytes x r (y ∷ ys) (next ∷ rs) is are = last-end bytes y next ys rs are.0 are.1
last-end bytes x r [] (next ∷ rs) is are = absurd are
last-end bytes x r (y ∷ ys) [] is are = absurd are

-- The body.

-- its rows, from one on
rows-joined : (bytes : List ℕ) (before : FrameRow) (x : Row) (r : FrameRow) (xs : List Row) (rs : List FrameRow) →
    IsTableLine bytes x r → AreTableLines bytes xs rs → AreBodyRows bytes before (r ∷ rs) →
    joined text_row (x ∷ xs) ≡ row_part unread_text bytes r ++ rows_after unread_text bytes r rs
rows-joined bytes before x r [] [] is are body =
    append-nil (text_row x.line x.rest ++ [])
    ∙ ap (λ (es : List Event). es ++ []) (row-part bytes x r is body.0.line)
rows-joined bytes before x r (y ∷ ys) (next ∷ rs) is are body =
    three-joined (row-part bytes x r is body.0.line) (gap-is x y ys r next is.same are.0.same)
    (rows-joined bytes r y next ys rs are.0 are.1 body.1)
rows-joined bytes before x r [] (next ∷ rs) is are body = absurd are
rows-joined bytes before x r (y ∷ ys) [] is are body = absurd are

body-joined : (bytes : List ℕ) (x : Row) (r : FrameRow) (xs : List Row) (rs : List FrameRow) → IsTableLine bytes x r →
    AreTableLines bytes xs rs → AreBodyRows bytes r rs →
    onto_next (x ∷ xs) ++ leaf n.GfmTableBody text_row xs ≡ body_after unread_text bytes r rs
body-joined bytes x r [] [] is are body = refl
body-joined bytes x r (y ∷ ys) (next ∷ rs) is are body =
    ap₂ (λ (es fs : List Event). es ++ fs) (gap-is x y ys r next is.same are.0.same)
    (ap₂ (λ (p q : Point). around n.GfmTableBody p q (joined text_row (y ∷ ys))) are.0.same.begin
    (last-end bytes y next ys rs are.0 are.1)
    ∙ ap (around n.GfmTableBody next.first (last_row next rs).end)
    (rows-joined bytes r y next ys rs are.0 are.1 body))
body-joined bytes x r [] (next ∷ rs) is are body = absurd are
body-joined bytes x r (y ∷ ys) [] is are body = absurd are

-- The table.
pub table-is : (bytes : List ℕ) (x y : Row) (xs : List Row) (r next : FrameRow) (rs : List FrameRow) →
    IsTable bytes r next rs → AreTableLines bytes (x ∷ y ∷ xs) (r ∷ next ∷ rs) →
    table (x ∷ y ∷ xs) ≡ table_events unread_text bytes r next rs
table-is bytes x y xs r next rs is are =
    ap₂ (λ (p q : Point). around n.GfmTable p q inside) head.same.begin (last-end bytes y next xs rs under are.1.1)
    ∙ ap (around n.GfmTable r.first (last_row next rs).end)
    (append_assoc first (onto_next (y ∷ xs)) (leaf n.GfmTableBody text_row xs)
    ∙ ap₂ (λ (es fs : List Event). es ++ fs) first-is (body-joined bytes y next xs rs under are.1.1 is.body))
  where
    head : IsTableLine bytes x r
    head = are.0

    under : IsTableLine bytes y next
    under = are.1.0

    lines : List Event
    lines = text_row x.line x.rest ++ onto_next (x ∷ y ∷ []) ++ delimiter_row y.line y.rest

    first : List Event
    first = around n.GfmTableHead (place x.line x.rest) (place y.line (line_end y.line)) lines

    inside : List Event
    inside = first ++ onto_next (y ∷ xs) ++ leaf n.GfmTableBody text_row xs

    first-is : first ≡ around n.GfmTableHead r.first next.end (head_events unread_text bytes r next)
    first-is =
        ap₂ (λ (p q : Point). around n.GfmTableHead p q lines) head.same.begin under.same.end
        ∙ ap (around n.GfmTableHead r.first next.end)
        (three-joined (row-part bytes x r head is.head) (gap-is x y [] r next head.same under.same)
        (delimiter-part bytes y next under is.delimiter
        (columns-cells (row_line bytes next) is.columns is.asked)))

-- It is what today's list has for these lines, once they are joined and walked over.
pub table-walked : (bytes : List ℕ) (x y : Row) (xs : List Row) (r next : FrameRow) (rs : List FrameRow) →
    IsTable bytes r next rs → AreTableLines bytes (x ∷ y ∷ xs) (r ∷ next ∷ rs) →
    headed_unread bytes r next rs ≡ table (x ∷ y ∷ xs)
table-walked bytes x y xs r next rs is are =
    table-unread bytes r next rs is ∙ sym (table-is bytes x y xs r next rs is are)
