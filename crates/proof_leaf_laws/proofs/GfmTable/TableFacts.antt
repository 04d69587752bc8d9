-- What is known of a whole table, and what it is read as.
use Rattle.std.proofs.Common.{◌≡◌, ℕ, true, false, List, [], ◌∷◌, ◌++◌, drop, refl, sym, ap, ◌∙◌, subst, append-nil}
use Rattle.std.proofs.Common.{subst₂}
use Rattle.std.specs.Prelude.{Some}
use Rattle.md_engine.specs.declared.event.Event.{Event}
use Rattle.md_engine.specs.declared.event.Name.TheVariants as n
use Rattle.md_engine.specs.declared.event.Point.{Point}
use Rattle.md_meaning.specs.Rest.{trim}
use Rattle.md_meaning.specs.Table.{row_cells}
use Rattle.md_events.specs.Events.Grammar.{may_end}
use Rattle.md_events.specs.Events.Nested.{around, exit}
use Rattle.md_events.specs.Events.Spelled.{OfTable}
use Rattle.md_events.specs.Events.Tiles.{plain_read}
use Rattle.md_events.proofs.EndingsLemmas.{AreOthers, Filling, Stays, filling-append, in_leaf, others-lead}
use Rattle.md_events.proofs.EndingsLemmas.{stays-append, stays-others}
use Rattle.md_outline.specs.LinesAllowed.{InTable}
use Rattle.md_outline.specs.TablePlaces.{AtHead, AfterRow}
use Rattle.md_outline.proofs.TablesPass.{passes-table}
use Rattle.md_tables.specs.DelimiterCells.{delimiter_events}
use Rattle.md_tables.specs.RowCells.{read_text, row_events, unread_text}
use Rattle.proof_frame.specs.Row.{Row, ending_events, last_row, row_line}
use Rattle.proof_leaf_laws.specs.Headed.{headed_done, headed_unread}
use Rattle.proof_frame.proofs.FilledAround.{around-fills}
use Rattle.proof_frame.proofs.FillFacts.{filled-read}
use Rattle.proof_frame.proofs.FrontValid.{fronts-others}
use Rattle.proof_leaf_laws.proofs.GfmTable.DelimiterRowCells.{columns-cells}
use Rattle.proof_leaf_laws.proofs.GfmTable.DelimiterRow.{delimiter-others}
use Rattle.proof_leaf_laws.proofs.GfmTable.Row.{row-others}
use Rattle.proof_leaf_laws.proofs.GfmTable.TableForm.{AreBodyRows, IsFilledLine, IsGap, IsTable, body_after}
use Rattle.proof_leaf_laws.proofs.GfmTable.TableForm.{delimiter_part, gap_events, head_events, row_part, rows_after}
use Rattle.proof_leaf_laws.proofs.GfmTable.TableForm.{rows_cells, table_block, table_events, table_inside}
use Rattle.proof_leaf_laws.proofs.GfmTable.TableParts.{line-at, so_far, table-inside, table_begun, table_left}
use Rattle.proof_leaf_laws.proofs.GfmTable.TableUnread.{line-end, table-unread}
use Rattle.proof_frame.proofs.LeafFacts.{LeafFacts}
use Rattle.proof_frame.proofs.PlainFacts.{ArePlain, ArePlainFrom, known-around}
use Rattle.proof_frame.proofs.LeafLines.Cuts.{ending-is}
use Rattle.proof_frame.proofs.LeafLines.Inside.{InsideFacts}
use Rattle.proof_frame.proofs.LeafLines.Leaf.{IsLeafName, inside-leaf}

-- Where its lines end: after each line something is on it.

-- a part with no ending in it fills its line
row-fills : (p q : Point) (es : List Event) → AreOthers (around n.GfmTableRow p q es) →
    Filling (around n.GfmTableRow p q es)
row-fills p q es h = λ from. others-lead (in_leaf true) (es ++ exit n.GfmTableRow q ∷ []) refl h

delimiter-fills : (p q : Point) (es : List Event) → AreOthers (around n.GfmTableDelimiterRow p q es) →
    Filling (around n.GfmTableDelimiterRow p q es)
delimiter-fills p q es h = λ from. others-lead (in_leaf true) (es ++ exit n.GfmTableDelimiterRow q ∷ []) refl h

-- so does the last of some lines
gap-stays : (bytes : List ℕ) (row next : Row) → IsGap bytes row next → Stays (gap_events row next)
gap-stays bytes row next gap =
    stays-append (ending_events n.LineEnding row) next.front
    (subst Stays (sym (ending-is n.LineEnding row gap.following gap.after)) (λ from. (false, λ ys. refl)))
    (stays-others next.front (fronts-others bytes [] gap.following next.first next.front gap.front))

filling-stays : (es : List Event) → Filling es → Stays es
filling-stays es h = λ from. (true, h from)

-- what is said of texts has no ending, in any row
abbrev EachOthers : (Point → Point → List Event) → List ℕ → Type 0
EachOthers said bytes = (row : Row) → IsFilledLine bytes row → AreOthers (row_part said bytes row)

part-fills : (said : Point → Point → List Event) (bytes : List ℕ) (row : Row) → EachOthers said bytes →
    IsFilledLine bytes row → Filling (row_part said bytes row)
part-fills said bytes row each is =
    row-fills row.first row.end (row_events said (row_line bytes row) row.first) (each row is)

rows-fill : (said : Point → Point → List Event) (bytes : List ℕ) (row : Row) (rows : List Row) →
    EachOthers said bytes → IsFilledLine bytes row → AreBodyRows bytes row rows →
    Filling (row_part said bytes row ++ rows_after said bytes row rows)
rows-fill said bytes row [] each is are =
    subst Filling (sym (append-nil (row_part said bytes row))) (part-fills said bytes row each is)
rows-fill said bytes row (next ∷ rows) each is are =
    filling-append (row_part said bytes row) (rows_after said bytes row (next ∷ rows))
    (filling-stays (row_part said bytes row) (part-fills said bytes row each is))
    (filling-append (gap_events row next) (row_part said bytes next ++ rows_after said bytes next rows)
    (gap-stays bytes row next are.0.gap) (rows-fill said bytes next rows each are.0.line are.1))

head-fills : (said : Point → Point → List Event) (bytes : List ℕ) (row next : Row) (rows : List Row) →
    EachOthers said bytes → IsTable bytes row next rows → Filling (head_events said bytes row next)
head-fills said bytes row next rows each is =
    filling-append (row_part said bytes row) (gap_events row next ++ delimiter_part bytes next)
    (filling-stays (row_part said bytes row) (part-fills said bytes row each is.head))
    (filling-append (gap_events row next) (delimiter_part bytes next) (gap-stays bytes row next is.gap)
    (delimiter-fills next.first next.end (delimiter_events (row_line bytes next) next.first)
    (delimiter-others bytes (row_line bytes next) (drop next.end.index bytes) next.first next.end
    (line-at bytes next is.delimiter)
    (columns-cells (row_line bytes next) is.columns is.asked))))

table-fills : (said : Point → Point → List Event) (bytes : List ℕ) (row next : Row) (rows : List Row) →
    EachOthers said bytes → IsTable bytes row next rows → Filling (table_inside said bytes row next rows)
table-fills said bytes row next rows each is = go rows is.body
  where
    head : List Event
    head = around n.GfmTableHead row.first next.end (head_events said bytes row next)

    fills : Filling head
    fills =
        around-fills n.GfmTableHead row.first next.end (head_events said bytes row next) refl refl
        (head-fills said bytes row next rows each is)

    go : (rows : List Row) → AreBodyRows bytes next rows → Filling (head ++ body_after said bytes next rows)
    go [] are = subst Filling (sym (append-nil head)) fills
    go (first ∷ rows) are =
        let body : List Event = row_part said bytes first ++ rows_after said bytes first rows in
        filling-append head (body_after said bytes next (first ∷ rows)) (filling-stays head fills)
        (filling-append (gap_events next first)
        (around n.GfmTableBody first.first (last_row first rows).end body) (gap-stays bytes next first are.0.gap)
        (around-fills n.GfmTableBody first.first (last_row first rows).end body refl refl
        (rows-fill said bytes first rows each are.0.line are.1)))

-- As a leaf.

abbrev table_name : IsLeafName n.GfmTable OfTable
table_name = record {
  named = record { is = refl; leaf = refl; no_part = refl; block = refl };
  begin = table_begun;
  begins = λ text. refl;
}

table-ends : (rows : List Row) → may_end (table_left rows) ≡ true
table-ends [] = refl
table-ends (row ∷ rows) = refl

-- an outline shows it
table-plain : (bytes : List ℕ) (p q : Point) (es : List Event) →
    ArePlainFrom bytes (InTable AtHead) (InTable AfterRow) es → ArePlain bytes (around n.GfmTable p q es)
table-plain bytes p q es h = record {
  known = known-around bytes n.GfmTable p q es refl refl refl h.known;
  lines = passes-table bytes n.GfmTable p q es refl h.lines;
}

-- its texts, as they are read
row-texts : (bytes : List ℕ) → EachOthers unread_text bytes × EachOthers (read_text bytes) bytes
row-texts bytes = (λ row is. (both row is).0, λ row is. (both row is).1)
  where
    both : (row : Row) → IsFilledLine bytes row →
        AreOthers (row_part unread_text bytes row) × AreOthers (row_part (read_text bytes) bytes row)
    both row is =
        row-others bytes (row_line bytes row) (drop row.end.index bytes) row.first row.end (line-at bytes row is)
        (sym (line-end bytes row is))

table-known : (bytes : List ℕ) (row next : Row) (rows : List Row) → IsTable bytes row next rows →
    LeafFacts bytes (Some (table_block bytes row next rows)) true row.first (last_row next rows).end
    (table_events unread_text bytes row next rows) (table_events (read_text bytes) bytes row next rows)
table-known bytes row next rows is =
    inside-leaf n.GfmTable OfTable table_name refl refl h
    (table-fills unread_text bytes row next rows (row-texts bytes).0 is true)
    (table-fills (read_text bytes) bytes row next rows (row-texts bytes).1 is true)
    (table-ends rows)
    (λ whole. table-plain bytes row.first (last_row next rows).end done (h.plain whole))
  where
    done : List Event
    done = table_inside (read_text bytes) bytes row next rows

    h :
        InsideFacts bytes row.first (last_row next rows).end table_begun (table_left rows) (so_far [] [])
        (so_far (trim (row_line bytes next)) (row_cells (row_line bytes row) ∷ rows_cells bytes rows)) (InTable AtHead)
        (InTable AfterRow) (table_inside unread_text bytes row next rows) done
    h = table-inside bytes row next rows is

-- With its texts read, it is the table with what is read in its cells.
pub table-done : (bytes : List ℕ) (row next : Row) (rows : List Row) → IsTable bytes row next rows →
    headed_done bytes row next rows ≡ table_events (read_text bytes) bytes row next rows
table-done bytes row next rows is =
    ap (plain_read bytes) (table-unread bytes row next rows is)
    ∙ filled-read bytes (table_events unread_text bytes row next rows)
    (table_events (read_text bytes) bytes row next rows) (table-known bytes row next rows is).are_valid.stretch.filled

-- All that the frame asks of it.
pub table-leaf : (bytes : List ℕ) (row next : Row) (rows : List Row) → IsTable bytes row next rows →
    LeafFacts bytes (Some (table_block bytes row next rows)) true row.first (last_row next rows).end
    (headed_unread bytes row next rows) (headed_done bytes row next rows)
table-leaf bytes row next rows is =
    subst₂
    (λ (unread done : List Event).
    LeafFacts bytes (Some (table_block bytes row next rows)) true row.first (last_row next rows).end unread done)
    (sym (table-unread bytes row next rows is)) (sym (table-done bytes row next rows is))
    (table-known bytes row next rows is)
