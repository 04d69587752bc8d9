-- The parts of a table one after the other: what is known of its head, and of its body.
use Rattle.std.proofs.Common.{◌≡◌, ℕ, Bool, true, false, cond, List, [], ◌∷◌, ◌++◌, drop, length, refl, sym, subst}
use Rattle.std.proofs.Common.{append_assoc, append-nil, subst₂}
use Rattle.std.specs.Prelude.{nat_lt}
use Rattle.md_engine.specs.declared.event.Event.{Event}
use Rattle.md_engine.specs.declared.event.Name.{Name}
use Rattle.md_engine.specs.declared.event.Name.TheVariants as n
use Rattle.md_engine.specs.declared.event.Point.{Point}
use Rattle.md_meaning.specs.Rest.{trim}
use Rattle.md_meaning.specs.Table.{row_cells}
use Rattle.md_events.specs.Events.Grammar.{Expression, following, inside, may_end, plain_text}
use Rattle.md_events.specs.Events.Nested.{around, enter, exit}
use Rattle.md_events.specs.Events.Spelled.{OpenLeaf, TableLeaf, TableSoFar, next_line, role}
use Rattle.md_events.proofs.SpelledLemmas.{Between, Quiet, Roles, roles-append}
use Rattle.md_outline.specs.LinesAllowed.{InTable, Site}
use Rattle.md_outline.specs.TablePlaces.{AtHead, AfterHead, AfterRow, BodyRow, HeadRow, TablePlace, after_row}
use Rattle.md_outline.specs.TablePlaces as spot
use Rattle.md_outline.proofs.TablesPass.{IsBetweenRows, passes-between_rows}
use Rattle.md_tables.specs.RowCells.{read_text, unread_text}
use Rattle.proof_frame.specs.Row.{Row, ending_events, last_row, row_line}
use Rattle.proof_frame.proofs.BetweenFacts.{ending-before, ending-following}
use Rattle.proof_frame.proofs.ContainerNames.{TakesPrefixes}
use Rattle.proof_frame.proofs.PartsFacts.{IsPartName, PartsFacts, around-reads, parts-around, following_ending}
use Rattle.proof_frame.proofs.PartsFacts.{parts-append, parts-ended, parts-front}
use Rattle.proof_frame.proofs.FrontNames.{fronts-prefixes}
use Rattle.proof_frame.proofs.FrontValid.{fronts-between}
use Rattle.proof_leaf_laws.proofs.GfmTable.DelimiterRowCells.{columns-cells}
use Rattle.proof_leaf_laws.proofs.GfmTable.DelimiterRow.{delimiter-inside}
use Rattle.proof_leaf_laws.proofs.GfmTable.Row.{front_of, row-inside}
use Rattle.proof_leaf_laws.proofs.GfmTable.RowAt.{RowAt, row-at}
use Rattle.proof_leaf_laws.proofs.GfmTable.TableForm.{AreBodyRows, IsFilledLine, IsGap, IsTable, body_after}
use Rattle.proof_leaf_laws.proofs.GfmTable.TableForm.{gap_events, head_events, row_part, rows_after, rows_cells}
use Rattle.proof_leaf_laws.proofs.GfmTable.TableForm.{table_inside}
use Rattle.proof_leaf_laws.proofs.GfmTable.TableUnread.{line-end}
use Rattle.proof_frame.proofs.IndentRemoved.Places.{further-rest}
use Rattle.proof_frame.proofs.IndentRemoved.Shown.{left-clear, whole-clear}
use Rattle.proof_frame.proofs.PartedFacts.{clear}
use Rattle.proof_frame.proofs.PieceFacts.{Starts}
use Rattle.proof_frame.proofs.PlainFacts.{plain-through, quiet-from}
use Rattle.proof_frame.proofs.PrefixNames.{prefixes-roles}
use Rattle.proof_frame.proofs.LeafLines.Cuts.{ending-is}
use Rattle.proof_frame.proofs.LeafLines.Inside.{InsideFacts, Meets, inside-append, inside-none}
use Rattle.proof_frame.proofs.LeafLines.Following.{gap-plain}

-- A part around events inside of a leaf, with a name that the tree does not show.
pub inside-around : (bytes : List ℕ) (name : Name) (p q : Point) (x begin left : Expression) (from to : OpenLeaf)
    (start end : Site) (unread done : List Event) →
    IsPartName name begin → Quiet (role name) → Starts unread → Starts done → may_end left ≡ true →
    InsideFacts bytes p q begin left from to start end unread done →
    InsideFacts bytes p q x (following name x) from to start end (around name p q unread) (around name p q done)
inside-around bytes name p q x begin left from to start end unread done named quiet us starts ends h =
    record {
      parts =
          parts-around bytes name p q x begin left from to from to unread done named us starts ends h.parts
          (around-reads bytes name p q from to done quiet h.parts.reads);
      plain = λ whole.
          plain-through bytes start start end (enter name p ∷ []) (done ++ exit name q ∷ [])
          (quiet-from bytes start (enter name p ∷ []) (quiet, tt))
          (plain-through bytes start end end done (exit name q ∷ []) (h.plain whole)
          (quiet-from bytes end (exit name q ∷ []) (quiet, tt)));
    }

-- A line.

-- it is in the text
pub line-at : (bytes : List ℕ) (row : Row) → IsFilledLine bytes row →
    RowAt bytes (row_line bytes row) (drop row.end.index bytes) row.first
line-at bytes row is =
    subst (λ (line : List ℕ). RowAt bytes line (drop row.end.index bytes) row.first) (sym is.at.text)
    (row-at bytes is.rest row.first row.end is.at is.filled)

-- no tab of a character is cut where it begins, and none where it ends
line-clear : (bytes : List ℕ) (row : Row) → IsFilledLine bytes row → clear bytes row.first ≡ true
line-clear bytes row is =
    left-clear bytes (drop row.end.index bytes) is.rest row.first
    (further-rest bytes is.rest row.first row.end (record { at = is.at; column = is.column }))

end-clear : (bytes : List ℕ) (row : Row) → IsFilledLine bytes row → clear bytes row.end ≡ true
end-clear bytes row is = whole-clear bytes row.end is.at.end_whole

-- a row gives the open table its cells
abbrev pub so_far : List ℕ → List (List (List ℕ)) → OpenLeaf
so_far delimiter rows = TableLeaf (record { delimiter = delimiter; rows = rows })

row-known : (bytes : List ℕ) (row : Row) (place : spot.Row) (x : Expression) (delimiter : List ℕ)
    (rows : List (List (List ℕ))) →
    IsFilledLine bytes row →
    InsideFacts bytes row.first row.end x (following n.GfmTableRow x) (so_far delimiter rows)
    (so_far delimiter (rows ++ row_cells (row_line bytes row) ∷ [])) (InTable (front_of place))
    (InTable (after_row place)) (row_part unread_text bytes row) (row_part (read_text bytes) bytes row)
row-known bytes row place x delimiter rows is =
    row-inside bytes (row_line bytes row) (drop row.end.index bytes) row.first row.end place x delimiter rows
    (line-at bytes row is) (sym (line-end bytes row is))

-- Between two lines.

-- after an ending a table has no line more
ended-table : (bytes : List ℕ) (q : Point) (table : TableSoFar) →
    following_ending bytes q (TableLeaf table) ≡ TableLeaf table
ended-table bytes q table = go (nat_lt q.index (length bytes))
  where
    go : (x : Bool) → cond x (next_line (TableLeaf table)) (TableLeaf table) ≡ TableLeaf table
    go true = refl
    go false = refl

gap-between : (bytes : List ℕ) (row next : Row) → IsGap bytes row next → Roles Between (gap_events row next)
gap-between bytes row next gap =
    roles-append Between (ending_events n.LineEnding row) next.front
    (subst (Roles Between) (sym (ending-is n.LineEnding row gap.following gap.after)) (tt, (tt, tt)))
    (prefixes-roles Between next.front tt tt tt
    (fronts-prefixes bytes [] gap.following next.first next.front refl gap.front))

-- as between the lines of any leaf
gap-inside : (bytes : List ℕ) (row next : Row) (x : Expression) (table : TableSoFar) (spot : TablePlace) →
    IsFilledLine bytes row → IsFilledLine bytes next → IsGap bytes row next → TakesPrefixes (following n.LineEnding x) →
    IsBetweenRows spot →
    InsideFacts bytes row.end next.first x (following n.LineEnding x) (TableLeaf table) (TableLeaf table) (InTable spot)
    (InTable spot) (gap_events row next) (gap_events row next)
gap-inside bytes row next x table spot is more gap takes apart = record {
  parts =
      subst₂
      (λ (es : List Event) (leaf : OpenLeaf).
      PartsFacts bytes row.end next.first x (following n.LineEnding x) (TableLeaf table) leaf (es ++ next.front)
      (es ++ next.front)) (sym (ending-is n.LineEnding row q gap.after)) (ended-table bytes q table)
      (parts-append (parts-ended bytes row.end q x (TableLeaf table) is.at.end_whole gap.ending)
      (parts-front bytes q next.first (following n.LineEnding x) (following_ending bytes q (TableLeaf table))
      next.front takes
      gap.front) (λ first last. ending-following bytes row.end q gap.ending));
  plain = λ whole. record {
    known = (gap-plain bytes (gap_events row next) (gap-between bytes row next gap)).known;
    lines = passes-between_rows bytes spot (gap_events row next) apart (gap-between bytes row next gap);
  };
}
  where
    q : Point
    q = gap.following

-- where a line ends, and others are after it
end-meets : (bytes : List ℕ) (row next : Row) (r : Point) → IsFilledLine bytes row → IsGap bytes row next →
    Meets bytes row.end r
end-meets bytes row next r is gap = record {
  between = λ last. ending-before bytes row.end gap.following gap.ending;
  clear = end-clear bytes row is;
}

-- and where one begins
first-meets : (bytes : List ℕ) (row next : Row) (r : Point) → IsFilledLine bytes next → IsGap bytes row next →
    Meets bytes next.first r
first-meets bytes row next r more gap = record {
  between = λ last.
      (fronts-between bytes [] gap.following next.first next.front
      (ending-following bytes row.end gap.following gap.ending)
      gap.front).1;
  clear = line-clear bytes next more;
}

-- Rows.

-- What is left of the grammar of a body: at its begin, after a row, and where a further row begins.
abbrev body_begun : Expression
body_begun = inside plain_text n.GfmTableBody

abbrev after_body_row : Expression
after_body_row = following n.GfmTableRow body_begun

abbrev in_body : Expression
in_body = following n.LineEnding after_body_row

-- a row, and those after it
rows-inside : (bytes : List ℕ) (row : Row) (rows : List Row) (x : Expression) (delimiter : List ℕ)
    (before : List (List (List ℕ))) →
    following n.GfmTableRow x ≡ after_body_row → IsFilledLine bytes row → AreBodyRows bytes row rows →
    InsideFacts bytes row.first (last_row row rows).end x after_body_row (so_far delimiter before)
    (so_far delimiter (before ++ rows_cells bytes (row ∷ rows))) (InTable AfterRow) (InTable AfterRow)
    (row_part unread_text bytes row ++ rows_after unread_text bytes row rows)
    (row_part (read_text bytes) bytes row ++ rows_after (read_text bytes) bytes row rows)
rows-inside bytes row [] x delimiter before left is are =
    inside-append
    (subst
    (λ (y : Expression).
    InsideFacts bytes row.first row.end x y (so_far delimiter before) to (InTable AfterRow) (InTable AfterRow)
    (row_part unread_text bytes row) (row_part (read_text bytes) bytes row)) left
    (row-known bytes row BodyRow x delimiter before is))
    (inside-none bytes row.end after_body_row to (InTable AfterRow))
    (record { between = λ last. last; clear = end-clear bytes row is })
  where
    to : OpenLeaf
    to = so_far delimiter (before ++ row_cells (row_line bytes row) ∷ [])
rows-inside bytes row (next ∷ rows) x delimiter before left is are =
    subst
    (λ (cells : List (List (List ℕ))).
    InsideFacts bytes row.first last x after_body_row (so_far delimiter before) (so_far delimiter cells)
    (InTable AfterRow) (InTable AfterRow)
    (row_part unread_text bytes row ++ rows_after unread_text bytes row (next ∷ rows))
    (row_part (read_text bytes) bytes row ++ rows_after (read_text bytes) bytes row (next ∷ rows)))
    (append_assoc before (own ∷ []) (rows_cells bytes (next ∷ rows)))
    (inside-append
    (subst
    (λ (y : Expression).
    InsideFacts bytes row.first row.end x y (so_far delimiter before) mid (InTable AfterRow) (InTable AfterRow)
    (row_part unread_text bytes row) (row_part (read_text bytes) bytes row)) left
    (row-known bytes row BodyRow x delimiter before is))
    (inside-append
    (gap-inside bytes row next after_body_row (record { delimiter = delimiter; rows = before ++ own ∷ [] }) AfterRow
    is are.0.line are.0.gap (refl, refl) tt)
    (rows-inside bytes next rows in_body delimiter (before ++ own ∷ []) refl are.0.line are.1)
    (first-meets bytes row next last are.0.line are.0.gap)) (end-meets bytes row next last is are.0.gap))
  where
    last : Point
    last = (last_row next rows).end

    own : List (List ℕ)
    own = row_cells (row_line bytes row)

    mid : OpenLeaf
    mid = so_far delimiter (before ++ own ∷ [])

-- The head.

-- What is left of its grammar: at its begin, after the row, and where the delimiter row begins.
abbrev head_begun : Expression
head_begun = inside plain_text n.GfmTableHead

abbrev after_head_row : Expression
after_head_row = following n.GfmTableRow head_begun

abbrev in_head : Expression
in_head = following n.LineEnding after_head_row

head-inside : (bytes : List ℕ) (row next : Row) (rows : List Row) → IsTable bytes row next rows →
    InsideFacts bytes row.first next.end head_begun (following n.GfmTableDelimiterRow in_head) (so_far [] [])
    (so_far (trim (row_line bytes next)) (row_cells (row_line bytes row) ∷ [])) (InTable AtHead) (InTable AfterRow)
    (head_events unread_text bytes row next) (head_events (read_text bytes) bytes row next)
head-inside bytes row next rows is =
    inside-append (row-known bytes row HeadRow head_begun [] [] is.head)
    (inside-append
    (gap-inside bytes row next after_head_row (record { delimiter = []; rows = cells ∷ [] }) AfterHead is.head
    is.delimiter is.gap (refl, refl) tt)
    (delimiter-inside bytes (row_line bytes next) (drop next.end.index bytes) next.first next.end in_head (cells ∷ [])
    (line-at bytes next is.delimiter) (columns-cells (row_line bytes next) is.columns is.asked)
    (sym (line-end bytes next is.delimiter))) (first-meets bytes row next next.end is.delimiter is.gap))
    (end-meets bytes row next next.end is.head is.gap)
  where
    cells : List (List ℕ)
    cells = row_cells (row_line bytes row)

-- The table.

-- What is left of its grammar: at its begin, after its head, and where its body begins.
abbrev pub table_begun : Expression
table_begun = inside plain_text n.GfmTable

abbrev after_head : Expression
after_head = following n.GfmTableHead table_begun

abbrev at_body : Expression
at_body = following n.LineEnding after_head

-- and after all of it
abbrev pub table_left : List Row → Expression
table_left [] = after_head
table_left (row ∷ rows) = following n.GfmTableBody at_body

body-inside : (bytes : List ℕ) (row : Row) (rows : List Row) (delimiter : List ℕ) (before : List (List (List ℕ))) →
    IsFilledLine bytes row → AreBodyRows bytes row rows →
    InsideFacts bytes row.end (last_row row rows).end after_head (table_left rows) (so_far delimiter before)
    (so_far delimiter (before ++ rows_cells bytes rows)) (InTable AfterRow) (InTable AfterRow)
    (body_after unread_text bytes row rows) (body_after (read_text bytes) bytes row rows)
body-inside bytes row [] delimiter before is are =
    subst
    (λ (cells : List (List (List ℕ))).
    InsideFacts bytes row.end row.end after_head after_head (so_far delimiter before) (so_far delimiter cells)
    (InTable AfterRow) (InTable AfterRow) [] []) (sym (append-nil before))
    (inside-none bytes row.end after_head (so_far delimiter before) (InTable AfterRow))
body-inside bytes row (next ∷ rows) delimiter before is are =
    inside-append
    (gap-inside bytes row next after_head (record { delimiter = delimiter; rows = before }) AfterRow is are.0.line
    are.0.gap (refl, refl) tt)
    (inside-around bytes n.GfmTableBody next.first last at_body body_begun after_body_row from to (InTable AfterRow)
    (InTable AfterRow) (row_part unread_text bytes next ++ rows_after unread_text bytes next rows)
    (row_part (read_text bytes) bytes next ++ rows_after (read_text bytes) bytes next rows)
    (record {
      no_part = refl;
      part = tt;
      still = tt;
      begins = λ text. refl;
      enters = λ p. refl;
      exits = λ p. refl;
    }) tt refl refl refl
    (rows-inside bytes next rows body_begun delimiter before refl are.0.line are.1))
    (first-meets bytes row next last are.0.line are.0.gap)
  where
    last : Point
    last = (last_row next rows).end

    from : OpenLeaf
    from = so_far delimiter before

    to : OpenLeaf
    to = so_far delimiter (before ++ rows_cells bytes (next ∷ rows))

body-meets : (bytes : List ℕ) (row : Row) (rows : List Row) → IsFilledLine bytes row → AreBodyRows bytes row rows →
    Meets bytes row.end (last_row row rows).end
body-meets bytes row [] is are = record { between = λ last. last; clear = end-clear bytes row is }
body-meets bytes row (next ∷ rows) is are = end-meets bytes row next (last_row next rows).end is are.0.gap

-- All that is in a table, and what it is read as.
pub table-inside : (bytes : List ℕ) (row next : Row) (rows : List Row) → IsTable bytes row next rows →
    InsideFacts bytes row.first (last_row next rows).end table_begun (table_left rows) (so_far [] [])
    (so_far (trim (row_line bytes next)) (row_cells (row_line bytes row) ∷ rows_cells bytes rows)) (InTable AtHead)
    (InTable AfterRow) (table_inside unread_text bytes row next rows)
    (table_inside (read_text bytes) bytes row next rows)
table-inside bytes row next rows is =
    inside-append
    (inside-around bytes n.GfmTableHead row.first next.end table_begun head_begun
    (following n.GfmTableDelimiterRow in_head) (so_far [] []) mid (InTable AtHead) (InTable AfterRow)
    (head_events unread_text bytes row next) (head_events (read_text bytes) bytes row next)
    (record {
      no_part = refl;
      part = tt;
      still = tt;
      begins = λ text. refl;
      enters = λ p. refl;
      exits = λ p. refl;
    }) tt refl refl refl (head-inside bytes row next rows is))
    (body-inside bytes next rows (trim (row_line bytes next)) (row_cells (row_line bytes row) ∷ []) is.delimiter
    is.body) (body-meets bytes next rows is.delimiter is.body)
  where
    mid : OpenLeaf
    mid = so_far (trim (row_line bytes next)) (row_cells (row_line bytes row) ∷ [])
