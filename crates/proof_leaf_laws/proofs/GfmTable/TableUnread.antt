-- The lines of a table as they are joined, with head, body and cells: the table by its lines, with its texts unread.
use Rattle.std.proofs.Common.{◌≡◌, ℕ, zero, suc, true, false, List, [], ◌∷◌, ◌++◌, refl, sym, ap, ap₂, ◌∙◌, subst}
use Rattle.std.proofs.Common.{append_assoc, append-nil}
use Rattle.std.specs.Prelude.{None}
use Rattle.md_engine.specs.declared.event.Event.{Event}
use Rattle.md_engine.specs.declared.event.Name.{Name}
use Rattle.md_engine.specs.declared.event.Name.TheVariants as n
use Rattle.md_engine.specs.declared.event.Point.{Point}
use Rattle.md_engine.specs.declared.tokenizer.held_leaf.HeldLeaf.TheVariants as held_leaf
use Rattle.md_meaning.specs.Rest.{cut_tab, is_blank}
use Rattle.md_leaves.specs.Further.{further_link}
use Rattle.md_events.specs.Events.Nested.{around, enter, enter_link, exit}
use Rattle.md_events.specs.Events.Places.{past_text}
use Rattle.md_events.specs.Events.Prefix.{is_prefix}
use Rattle.md_tables.specs.DelimiterCells.{delimiter_events, delimiter_runs}
use Rattle.md_tables.specs.DelimiterRule as delimiter
use Rattle.md_engine.specs.declared.tokenizer.TheConstants.Scratch.{REST}
use Rattle.md_tables.specs.GfmTable.{asking_columns}
use Rattle.md_tables.specs.GfmTableLine.{delimiter_line, head_line, table_line}
use Rattle.md_tables.specs.RowCells.{row_events, row_runs, unread_text}
use Rattle.md_tables.specs.RowRule as text
use Rattle.md_tables.specs.TableLines.{Table, TableLine, body_given, delimiter_row, head_celled, lines_celled}
use Rattle.md_tables.specs.TableLines.{lines_read, row_celled, row_read, table_given, table_read, text_row}
use Rattle.md_tables.specs.Tabled.{tabled}
use Rattle.md_tables.specs.declared.cells.RowKind.TheVariants.{Delimiter, Text}
use Rattle.md_tables.proofs.DelimiterBytes.{row_of-columns}
use Rattle.md_tables.proofs.TableRows.{delimiter-parts, delimiter_row-celled, text-celled, text-parts}
use Rattle.md_tables.proofs.TabledLines.{AreFree, AreFreeLines, IsFreeTable, free-append, of_tables, tabled-table}
use Rattle.proof_frame.specs.Row.{Row, but_end, but_ends, end_of, last_row, row_line, ending_events, is_framed, span_by}
use Rattle.proof_leaf_laws.specs.Headed.{headed_row, headed_unread}
use Rattle.proof_frame.proofs.EventNames.{is_lined}
use Rattle.proof_frame.proofs.FrontNames.{fronts-prefixes}
use Rattle.proof_leaf_laws.proofs.GfmTable.TableForm.{AreBodyRows, IsBodyRow, IsFilledLine, IsGap, IsTable, body_after}
use Rattle.proof_leaf_laws.proofs.GfmTable.TableForm.{gap_events, head_events, row_part, rows_after, table_events}
use Rattle.proof_frame.proofs.PrefixNames.{ArePrefixes}
use Rattle.proof_frame.proofs.LeafLines.Cuts.{but_end-is, but_ends-is, end-is, ending-is}
use Rattle.proof_frame.proofs.LeafLines.Framed.{AreFramed, framed_rest, span-framed}

-- The table as a value, line by line.

abbrev pub body_lines : List ℕ → Row → List Row → List TableLine
body_lines bytes row [] = []
body_lines bytes row (next ∷ rows) =
    (record { between = gap_events row next; row = text_row (row_line bytes next) next.first })
    ∷ body_lines bytes next rows

abbrev pub table_of : List ℕ → Row → Row → List Row → Table
table_of bytes row next rows = record {
  begins = row.first;
  ends = (last_row next rows).end;
  link = None;
  head = text_row (row_line bytes row) row.first;
  delimiter = record { between = gap_events row next; row = delimiter_row (row_line bytes next) next.first };
  body = body_lines bytes next rows;
}

-- Each line, from its begin to its end.

-- the events of a row are a row between a begin and an end
row-is : (line : List ℕ) (p : Point) →
    table_line held_leaf.Table line p ≡
    enter_link n.GfmTable p further_link ∷ row_read Text (text_row line p) ++ exit n.GfmTable (past_text line p) ∷ []
row-is line p =
    ap (λ (l : List Event). enter_link n.GfmTable p further_link ∷ enter n.GfmTableRow p ∷ l)
    (sym
    (append_assoc (row_runs text.Apart line p) (exit n.GfmTableRow (past_text line p) ∷ [])
    (exit n.GfmTable (past_text line p) ∷ [])))

-- and so are those of the delimiter row
delimiter-is : (line : List ℕ) (p : Point) →
    delimiter_line line p ≡
    enter_link n.GfmTable p further_link
    ∷ row_read Delimiter (delimiter_row line p) ++ exit n.GfmTable (past_text line p) ∷ []
delimiter-is line p =
    ap (λ (l : List Event). enter_link n.GfmTable p further_link ∷ enter n.GfmTableDelimiterRow p ∷ l)
    (sym
    (append_assoc (delimiter_runs delimiter.Apart line p) (exit n.GfmTableDelimiterRow (past_text line p) ∷ [])
    (exit n.GfmTable (past_text line p) ∷ [])))

-- a further line is such a row
record IsLine (row : Row) (inside : List Event) : Type 0 where
  framed : is_framed row.inside ≡ true
  part : but_ends row.inside ≡ inside
  end : end_of row.inside ≡ exit n.GfmTable row.end ∷ []

of-line : (row : Row) (q : Point) (inside : List Event) →
    row.inside ≡ enter_link n.GfmTable row.first further_link ∷ inside ++ exit n.GfmTable q ∷ [] → q ≡ row.end →
    IsLine row inside
of-line row q inside is at = record {
  framed = ap is_framed is;
  part = ap but_ends is ∙ but_ends-is (enter_link n.GfmTable row.first further_link) inside (exit n.GfmTable q);
  end =
      ap end_of is ∙ end-is (enter_link n.GfmTable row.first further_link ∷ inside) (exit n.GfmTable q)
      ∙ ap (λ (x : Point). exit n.GfmTable x ∷ []) at;
}

-- A line ends after its text.
pub line-end : (bytes : List ℕ) (row : Row) → IsFilledLine bytes row →
    past_text (row_line bytes row) row.first ≡ row.end
line-end bytes row is = ap (λ (line : List ℕ). past_text line row.first) is.at.text ∙ sym is.at.end

body-line : (bytes : List ℕ) (row next : Row) → IsBodyRow bytes row next →
    IsLine next (row_read Text (text_row (row_line bytes next) next.first))
body-line bytes row next is =
    of-line next (past_text (row_line bytes next) next.first)
    (row_read Text (text_row (row_line bytes next) next.first)) (is.inside ∙ row-is (row_line bytes next) next.first)
    (line-end bytes next is.line)

delimiter-line : (bytes : List ℕ) (row next : Row) (rows : List Row) → IsTable bytes row next rows →
    IsLine next (row_read Delimiter (delimiter_row (row_line bytes next) next.first))
delimiter-line bytes row next rows is =
    of-line next (past_text (row_line bytes next) next.first)
    (row_read Delimiter (delimiter_row (row_line bytes next) next.first))
    (is.inside ∙ delimiter-is (row_line bytes next) next.first) (line-end bytes next is.delimiter)

-- Joined.

abbrev inside_of : Row → List Event
inside_of row = row.inside

body-framed : (bytes : List ℕ) (row : Row) (rows : List Row) → AreBodyRows bytes row rows → AreFramed inside_of rows
body-framed bytes row [] are = tt
body-framed bytes row (next ∷ rows) are =
    ((body-line bytes row next are.0).framed, body-framed bytes next rows are.1)

body-joined : (bytes : List ℕ) (row : Row) (rows : List Row) → AreBodyRows bytes row rows →
    framed_rest inside_of row rows ≡ lines_read (body_lines bytes row rows)
body-joined bytes row [] are = refl
body-joined bytes row (next ∷ rows) are =
    let own : List Event = row_read Text (text_row (row_line bytes next) next.first) in
    ap₂ (λ (xs ys : List Event). (gap_events row next ++ xs) ++ ys) (body-line bytes row next are.0).part
    (body-joined bytes next rows are.1)
    ∙ append_assoc (gap_events row next) own (lines_read (body_lines bytes next rows))

last-end : (bytes : List ℕ) (row : Row) (rows : List Row) → end_of row.inside ≡ exit n.GfmTable row.end ∷ [] →
    AreBodyRows bytes row rows →
    end_of (last_row row rows).inside ≡ exit n.GfmTable (last_row row rows).end ∷ []
last-end bytes row [] is are = is
last-end bytes row (next ∷ rows) is are = last-end bytes next rows (body-line bytes row next are.0).end are.1

-- the line of text that is the head, as its states leave it
head-begins : (line : List ℕ) (p : Point) →
    but_end (head_line line p) ≡ enter n.GfmTable p ∷ row_read Text (text_row line p)
head-begins line p =
    but_end-is (enter n.GfmTable p ∷ row_read Text (text_row line p)) (exit n.GfmTable (past_text line p))

one-by-one : (a b c d e : List Event) → (a ++ ((b ++ c) ++ d)) ++ e ≡ a ++ (b ++ (c ++ (d ++ e)))
one-by-one a b c d e = simp append_assoc

pub table-joined : (bytes : List ℕ) (row next : Row) (rows : List Row) → IsTable bytes row next rows →
    span_by inside_of (headed_row bytes row) (next ∷ rows) ≡ table_read (table_of bytes row next rows)
table-joined bytes row next rows is =
    let own = delimiter-line bytes row next rows is in
    let d : List Event = row_read Delimiter (delimiter_row (row_line bytes next) next.first) in
    let h : List Event = row_read Text (text_row (row_line bytes row) row.first) in
    let end : List Event = exit n.GfmTable (last_row next rows).end ∷ [] in
    span-framed inside_of (headed_row bytes row) (next ∷ rows) (own.framed, body-framed bytes next rows is.body)
    ∙ ap₂
    (λ (xs ys : List Event).
    (xs ++ ((gap_events row next ++ but_ends next.inside) ++ framed_rest inside_of next rows)) ++ ys)
    (head-begins (row_line bytes row) row.first) (last-end bytes next rows own.end is.body)
    ∙ ap₂ (λ (xs ys : List Event). ((enter n.GfmTable row.first ∷ h) ++ ((gap_events row next ++ xs) ++ ys)) ++ end)
    own.part (body-joined bytes next rows is.body)
    ∙ one-by-one (enter n.GfmTable row.first ∷ h) (gap_events row next) d (lines_read (body_lines bytes next rows)) end

-- No table and no row begins between two lines.

pub prefix-free : (name : Name) → is_prefix name ≡ true → of_tables name ≡ false
prefix-free n.GfmTable h = cc
prefix-free n.GfmTableRow h = cc
prefix-free n.GfmTableDelimiterRow h = cc
prefix-free _ h = refl

-- nor in a leaf of several lines that is no table
pub lined-free : (name : Name) → is_lined name ≡ true → of_tables name ≡ false
lined-free n.GfmTable h = cc
lined-free n.GfmTableRow h = cc
lined-free n.GfmTableDelimiterRow h = cc
lined-free _ h = refl

prefixes-free : (es : List Event) → ArePrefixes es → AreFree es
prefixes-free [] h = tt
prefixes-free (e ∷ es) h = (prefix-free e.name h.0.0, prefixes-free es h.1)

pub gap-free : (bytes : List ℕ) (row next : Row) → IsGap bytes row next → AreFree (gap_events row next)
gap-free bytes row next gap =
    free-append (ending_events n.LineEnding row) next.front
    (subst AreFree (sym (ending-is n.LineEnding row gap.following gap.after)) (refl, (refl, tt)))
    (prefixes-free next.front (fronts-prefixes bytes [] gap.following next.first next.front refl gap.front))

lines-free : (bytes : List ℕ) (row : Row) (rows : List Row) → AreBodyRows bytes row rows →
    AreFreeLines (body_lines bytes row rows)
lines-free bytes row [] are = tt
lines-free bytes row (next ∷ rows) are = (
  (gap-free bytes row next are.0.gap, (text-parts (row_line bytes next) next.first).1),
  lines-free bytes next rows are.1,
)

table-free : (bytes : List ℕ) (row next : Row) (rows : List Row) → IsTable bytes row next rows →
    IsFreeTable (table_of bytes row next rows)
table-free bytes row next rows is = record {
  head = (text-parts (row_line bytes row) row.first).1;
  delimiter = (gap-free bytes row next is.gap, (delimiter-parts (row_line bytes next) next.first).1);
  body = lines-free bytes next rows is.body;
}

-- With its head, its body and its cells.

-- a line with something on it is not blank, also with a tab that a prefix has cut before it
pub line-dark : (bytes : List ℕ) (row : Row) → IsFilledLine bytes row → is_blank (row_line bytes row) ≡ false
line-dark bytes row is = ap is_blank is.at.text ∙ go is.rest.spaces ∙ is.filled
  where
    go : (spaces : ℕ) → is_blank (cut_tab spaces ++ is.rest.bytes) ≡ is_blank is.rest.bytes
    go zero = refl
    go (suc k) = refl

row-celled : (bytes : List ℕ) (row : Row) → IsFilledLine bytes row →
    row_celled Text (text_row (row_line bytes row) row.first) ≡ row_part unread_text bytes row
row-celled bytes row is =
    text-celled (row_line bytes row) row.first (line-dark bytes row is)
    ∙ ap
    (λ (q : Point).
    around n.GfmTableRow row.first q (row_events unread_text (row_line bytes row) row.first))
    (line-end bytes row is)

rows-celled : (bytes : List ℕ) (row : Row) (rows : List Row) → AreBodyRows bytes row rows →
    lines_celled (body_lines bytes row rows) ≡ rows_after unread_text bytes row rows
rows-celled bytes row [] are = refl
rows-celled bytes row (next ∷ rows) are =
    ap₂ (λ (xs ys : List Event). gap_events row next ++ (xs ++ ys)) (row-celled bytes next are.0.line)
    (rows-celled bytes next rows are.1)

body-given : (bytes : List ℕ) (row : Row) (rows : List Row) → AreBodyRows bytes row rows →
    body_given (body_lines bytes row rows) (last_row row rows).end ≡ body_after unread_text bytes row rows
body-given bytes row [] are = refl
body-given bytes row (next ∷ rows) are =
    ap₂
    (λ (xs ys : List Event).
    gap_events row next ++ around n.GfmTableBody next.first (last_row next rows).end (xs ++ ys))
    (row-celled bytes next are.0.line) (rows-celled bytes next rows are.1)

head-given : (bytes : List ℕ) (row next : Row) (rows : List Row) → IsTable bytes row next rows →
    head_celled (table_of bytes row next rows) ≡ head_events unread_text bytes row next
head-given bytes row next rows is =
    ap₂ (λ (xs ys : List Event). xs ++ (gap_events row next ++ ys)) (row-celled bytes row is.head)
    (delimiter_row-celled (row_line bytes next) next.first (asking_columns is.columns REST)
    (row_of-columns is.columns (row_line bytes next) is.some ∙ is.asked)
    ∙ ap
    (λ (q : Point).
    around n.GfmTableDelimiterRow next.first q (delimiter_events (row_line bytes next) next.first))
    (line-end bytes next is.delimiter))

table-given : (bytes : List ℕ) (row next : Row) (rows : List Row) → IsTable bytes row next rows →
    table_given (table_of bytes row next rows) ≡ table_events unread_text bytes row next rows
table-given bytes row next rows is =
    let end : List Event = exit n.GfmTable (last_row next rows).end ∷ [] in
    let head : List Event = around n.GfmTableHead row.first next.end (head_events unread_text bytes row next) in
    ap₂
    (λ (xs ys : List Event).
    enter n.GfmTable row.first
    ∷ around n.GfmTableHead row.first (past_text (row_line bytes next) next.first) xs ++ (ys ++ end))
    (head-given bytes row next rows is) (body-given bytes next rows is.body)
    ∙ ap
    (λ (q : Point).
    enter n.GfmTable row.first
    ∷ around n.GfmTableHead row.first q (head_events unread_text bytes row next)
    ++ (body_after unread_text bytes next rows ++ end)) (line-end bytes next is.delimiter)
    ∙ ap (λ (l : List Event). enter n.GfmTable row.first ∷ l)
    (sym (append_assoc head (body_after unread_text bytes next rows) end))

-- What the last resolver makes of the lines of a table.

table-read : (bytes : List ℕ) (row next : Row) (rows : List Row) → IsTable bytes row next rows →
    headed_unread bytes row next rows ≡ table_given (table_of bytes row next rows)
table-read bytes row next rows is =
    let t : Table = table_of bytes row next rows in
    ap tabled (table-joined bytes row next rows is ∙ sym (append-nil (table_read t)))
    ∙ tabled-table t [] (table-free bytes row next rows is) ∙ append-nil (table_given t)

pub table-unread : (bytes : List ℕ) (row next : Row) (rows : List Row) → IsTable bytes row next rows →
    headed_unread bytes row next rows ≡ table_events unread_text bytes row next rows
table-unread bytes row next rows is =
    table-read bytes row next rows is ∙ table-given bytes row next rows is

-- It makes the same of them before any others.
pub table-apart : (bytes : List ℕ) (row next : Row) (rows : List Row) (es : List Event) → IsTable bytes row next rows →
    tabled (span_by inside_of (headed_row bytes row) (next ∷ rows) ++ es) ≡
    headed_unread bytes row next rows ++ tabled es
table-apart bytes row next rows es is =
    ap (λ (l : List Event). tabled (l ++ es)) (table-joined bytes row next rows is)
    ∙ tabled-table (table_of bytes row next rows) es (table-free bytes row next rows is)
    ∙ ap (λ (l : List Event). l ++ tabled es) (sym (table-read bytes row next rows is))
