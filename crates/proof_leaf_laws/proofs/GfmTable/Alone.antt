-- The lines of a table, joined: no other block is in it, and none is open after it.
use Rattle.std.proofs.Common.{◌≡◌, ℕ, false, List, [], ◌∷◌, ◌++◌, refl, sym, subst, append_assoc}
use Rattle.md_engine.specs.declared.event.Event.{Event}
use Rattle.md_engine.specs.declared.event.Name.{Name}
use Rattle.md_engine.specs.declared.event.Name.TheVariants as n
use Rattle.md_engine.specs.declared.event.Point.{Point}
use Rattle.md_events.specs.Events.Nested.{enter, exit}
use Rattle.md_events.specs.Events.Places.{past_text}
use Rattle.md_tables.specs.DelimiterCells.{delimiter_runs}
use Rattle.md_tables.specs.DelimiterRule as delimiter
use Rattle.md_tables.specs.RowCells.{row_runs}
use Rattle.md_tables.specs.RowRule as text
use Rattle.md_tables.specs.TableLines.{Table, delimiter_row, lines_read, row_read, text_row}
use Rattle.md_tables.specs.declared.cells.RowKind.TheVariants.{Delimiter, Text}
use Rattle.proof_frame.specs.Row.{Row, ending_events, row_line, span_by}
use Rattle.proof_leaf_laws.specs.Headed.{headed_row}
use Rattle.md_order.specs.Alone.{InTable, closed_by, is_set}
use Rattle.proof_frame.proofs.ClosedFacts.{IsBlock, IsClosed, IsUnset, closed-around, prefixes-unset, stays-open}
use Rattle.proof_frame.proofs.EachEvent.{Each, each-append}
use Rattle.proof_frame.proofs.FrontNames.{fronts-prefixes}
use Rattle.proof_frame.proofs.LeafLines.Cuts.{ending-is}
use Rattle.proof_leaf_laws.proofs.GfmTable.Each.{OfRow, delimiter-bytes, row-bytes}
use Rattle.proof_leaf_laws.proofs.GfmTable.TableForm.{AreBodyRows, IsGap, IsTable, gap_events}
use Rattle.proof_leaf_laws.proofs.GfmTable.TableUnread.{body_lines, table-joined, table_of}

-- Rows.

of-unset : OfRow IsUnset
of-unset = record {
  word = λ q. refl;
  word_ends = λ q. refl;
  row = (λ q. refl, λ q. refl);
  delimiter_row = (λ q. refl, λ q. refl);
  divider = (λ q. refl, λ q. refl);
  marker = (λ q. refl, λ q. refl);
  filler = (λ q. refl, λ q. refl);
  space = (λ q. refl, λ q. refl);
}

text-unset : (line : List ℕ) (p : Point) → Each IsUnset (row_read Text (text_row line p))
text-unset line p = (
  refl,
  each-append IsUnset (row_runs text.Apart line p) (exit n.GfmTableRow (past_text line p) ∷ [])
      (row-bytes IsUnset of-unset text.Apart line p) (refl, tt),
)

delimiter-unset : (line : List ℕ) (p : Point) → Each IsUnset (row_read Delimiter (delimiter_row line p))
delimiter-unset line p = (
  refl,
  each-append IsUnset (delimiter_runs delimiter.Apart line p) (exit n.GfmTableDelimiterRow (past_text line p) ∷ [])
      (delimiter-bytes IsUnset of-unset delimiter.Apart line p) (refl, tt),
)

-- Between two lines.

pub gap-unset : (bytes : List ℕ) (row next : Row) → IsGap bytes row next → Each IsUnset (gap_events row next)
gap-unset bytes row next gap =
    each-append IsUnset (ending_events n.LineEnding row) next.front
    (subst (Each IsUnset) (sym (ending-is n.LineEnding row gap.following gap.after)) (refl, (refl, tt)))
    (prefixes-unset next.front (fronts-prefixes bytes [] gap.following next.first next.front refl gap.front))

lines-unset : (bytes : List ℕ) (row : Row) (rows : List Row) → AreBodyRows bytes row rows →
    Each IsUnset (lines_read (body_lines bytes row rows))
lines-unset bytes row [] are = tt
lines-unset bytes row (next ∷ rows) are =
    let own : List Event = row_read Text (text_row (row_line bytes next) next.first) in
    let more : List Event = lines_read (body_lines bytes next rows) in
    each-append IsUnset (gap_events row next) (own ++ more) (gap-unset bytes row next are.0.gap)
    (each-append IsUnset own more (text-unset (row_line bytes next) next.first) (lines-unset bytes next rows are.1))

-- All of it: no other block ends it.

unset-table : (name : Name) → is_set name ≡ false → closed_by InTable name ≡ false
unset-table n.GfmTable h = cc
unset-table _ h = refl

table-block : IsBlock n.GfmTable
table-block = record {
  inside = InTable;
  opens = refl;
  valid = λ e h proceeds. h;
  stays = λ e h. stays-open InTable e (unset-table e.name h);
  ends = λ q proceeds. cc;
  shuts = λ q. refl;
}

within : (a b c d e : List Event) → ((a ++ (b ++ (c ++ d))) ++ e) ≡ a ++ (b ++ (c ++ (d ++ e)))
within a b c d e = simp append_assoc

pub table-alone : (bytes : List ℕ) (row next : Row) (rows : List Row) → IsTable bytes row next rows →
    IsClosed (span_by (λ (r : Row). r.inside) (headed_row bytes row) (next ∷ rows))
table-alone bytes row next rows is =
    let t : Table = table_of bytes row next rows in
    let head : List Event = row_read Text t.head in
    let gap : List Event = gap_events row next in
    let under : List Event = row_read Delimiter t.delimiter.row in
    let body : List Event = lines_read t.body in
    let end : List Event = exit n.GfmTable t.ends ∷ [] in
    subst IsClosed (sym (table-joined bytes row next rows is))
    (subst (λ (es : List Event). IsClosed (enter n.GfmTable t.begins ∷ es)) (within head gap under body end)
    (closed-around n.GfmTable table-block t.begins t.ends (head ++ (gap ++ (under ++ body)))
    (each-append IsUnset head (gap ++ (under ++ body)) (text-unset (row_line bytes row) row.first)
    (each-append IsUnset gap (under ++ body) (gap-unset bytes row next is.gap)
    (each-append IsUnset under body (delimiter-unset (row_line bytes next) next.first)
    (lines-unset bytes next rows is.body))))))
