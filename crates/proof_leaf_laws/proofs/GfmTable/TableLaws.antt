-- The laws of a table as the frame asks for them: of a line of text that a line after it takes as its head, and of the
-- rows that continue that.
use Rattle.std.proofs.Common.{◌≡◌, ◌≤◌, ℕ, Bool, true, false, cond, ◌&&◌, List, [], ◌∷◌, ◌++◌, length, refl, sym}
use Rattle.std.proofs.Common.{ap, ap₂, ◌∙◌, subst, append_assoc, append-nil, arith, map}
use Rattle.std.specs.Prelude.{nat_lt, Some}
use Rattle.std.proofs.lemmas.Bool.{and_parts}
use Rattle.std.proofs.lemmas.Bool.Decides.{nat_tests}
use Rattle.md_engine.specs.declared.configuration.ParseOptions.{ParseOptions}
use Rattle.md_engine.specs.declared.tokenizer.held_leaf.HeldLeaf.{HeldLeaf}
use Rattle.md_engine.specs.declared.tokenizer.held_leaf.HeldLeaf.TheVariants as held_leaf
use Rattle.md_engine.specs.declared.tokenizer.held_leaf.OpenText.{OpenText}
use Rattle.md_meaning.specs.Ascii.{pipe}
use Rattle.md_meaning.specs.Bytes.{after_optional}
use Rattle.md_meaning.specs.Leaves.{LeafResult, Opened}
use Rattle.md_meaning.specs.Rest.{has_small_indent, is_blank, is_white, trim, trim_end, trim_start}
use Rattle.md_meaning.specs.State.{OpenTable, shut, then_block}
use Rattle.md_meaning.specs.Step.{became}
use Rattle.md_meaning.specs.Table.{delimiter_columns, pieces, row_cells}
use Rattle.md_meaning.specs.Tree.{Block, Blocks, Table}
use Rattle.md_literal.proofs.HtmlTags.{trim-none}
use Rattle.md_events.proofs.RestLines.{trim-white}
use Rattle.md_tables.specs.GfmTable.{may_head}
use Rattle.md_tables.specs.GfmTableLine.{are_columns, table_line}
use Rattle.proof_frame.specs.RestLine.{rest_line}
use Rattle.proof_leaf_laws.specs.Leaf.GfmTable.{table_leaf}
use Rattle.proof_frame.specs.Row.{Row, last_row, row_line}
use Rattle.proof_leaf_laws.specs.Headed.{headed_done, headed_unread}
use Rattle.proof_frame.proofs.FrontPlaces.{fronts-grow}
use Rattle.proof_leaf_laws.proofs.GfmTable.Cells.{head-some}
use Rattle.proof_leaf_laws.proofs.GfmTable.TableFacts.{table-leaf}
use Rattle.proof_leaf_laws.proofs.GfmTable.TableForm.{AreBodyRows, IsFilledLine, IsTable, rows_cells, table_block}
use Rattle.proof_leaf_laws.proofs.GfmTable.TableUnread.{line-dark}
use Rattle.proof_frame.proofs.LeafFacts.{LeafFacts}
use Rattle.proof_frame.proofs.IndentRemoved.Places.{further-at, line-over}
use Rattle.proof_frame.proofs.RestFacts.{rest-trim}
use Rattle.proof_frame.proofs.SpanLaws.{AreAfter, IsLineOf, becomes_after}

-- Its lines.

-- on each of them something is
abbrev pub AreFilled : (options : ParseOptions) (bytes : List ℕ) (row : Row) (rows : List Row) →
    AreAfter options bytes table_leaf row rows → Type 0
AreFilled options bytes row [] are = Unit {0}
AreFilled options bytes row (next ∷ rows) are =
    (is_blank are.6.rest.bytes ≡ false) × AreFilled options bytes next rows are.7

abbrev filled_line : (options : ParseOptions) (bytes : List ℕ) (row : Row) →
    (is : IsLineOf options bytes table_leaf row) → is_blank is.rest.bytes ≡ false → IsFilledLine bytes row
filled_line options bytes row is filled =
    record { rest = is.rest; at = is.at; column = is.column; filled = filled }

-- what a line adds, by the leaf that it meets
line-adds : (options : ParseOptions) (bytes : List ℕ) (row : Row) (on : HeldLeaf) →
    (is : IsLineOf options bytes table_leaf row) → row.on ≡ on →
    row.inside ≡ table_line on (row_line bytes row) row.first
line-adds options bytes row on is met =
    is.inside
    ∙ ap₂ (λ (held : HeldLeaf) (line : List ℕ). table_line held line row.first) met (sym is.at.text)

-- After a line of a table all are rows.
rows-of : (options : ParseOptions) (bytes : List ℕ) (row : Row) (rows : List Row) →
    (are : AreAfter options bytes table_leaf row rows) → AreFilled options bytes row rows are →
    row.following ≡ held_leaf.Table → AreBodyRows bytes row rows
rows-of options bytes row [] are filled open_table = tt
rows-of options bytes row (next ∷ rows) are filled open_table = (
  record {
    gap = record { following = are.0; after = are.1; ending = are.2; front = are.3 };
    line = filled_line options bytes next are.6 filled.0;
    inside = line-adds options bytes next held_leaf.Table are.6 (are.4 ∙ open_table);
  },
  rows-of options bytes next rows are.7 filled.1 are.6.following,
)

-- outer whitespace is dropped, and with it a tab that a prefix has cut
trim-line : (bytes : List ℕ) (row : Row) → (is : IsFilledLine bytes row) →
    trim (row_line bytes row) ≡ trim is.rest.bytes
trim-line bytes row is = ap trim is.at.text ∙ ap trim_end (rest-trim is.rest)

line-cells : (bytes : List ℕ) (row : Row) → (is : IsFilledLine bytes row) →
    row_cells (row_line bytes row) ≡ row_cells is.rest.bytes
unfolding row_cells
line-cells bytes row is =
    ap (λ (line : List ℕ). map trim (pieces false (after_optional pipe line))) (trim-line bytes row is)

-- so the cells of a line are the same without the whitespace before it
trimmed-twice : (bytes : List ℕ) → trim_start (trim_start bytes) ≡ trim_start bytes
trimmed-twice [] = refl
trimmed-twice (b ∷ bs) = go (is_white b) refl (trimmed-twice bs)
  where
    go : (x : Bool) → is_white b ≡ x → trim_start (trim_start bs) ≡ trim_start bs →
        trim_start (trim_start (b ∷ bs)) ≡ trim_start (b ∷ bs)
    go true e more = ap trim_start (trim-white b bs e) ∙ more ∙ sym (trim-white b bs e)
    go false e more = ap trim_start (trim-none (b ∷ bs) e)

pub cells-trimmed : (bytes : List ℕ) → row_cells (trim_start bytes) ≡ row_cells bytes
unfolding row_cells
cells-trimmed bytes =
    ap (λ (line : List ℕ). map trim (pieces false (after_optional pipe (trim_end line)))) (trimmed-twice bytes)

-- A line on which something is, where a line after it takes it as the head of a table, and rows after that, are a
-- table.
pub table-of : (options : ParseOptions) (bytes : List ℕ) (row next : Row) (rows : List Row) (text : OpenText) →
    IsFilledLine bytes row → (are : AreAfter options bytes table_leaf row (next ∷ rows)) →
    AreFilled options bytes row (next ∷ rows) are → next.on ≡ held_leaf.Text text → IsTable bytes row next rows
table-of options bytes row next rows text is are filled met = record {
  head = is;
  gap = record { following = are.0; after = are.1; ending = are.2; front = are.3 };
  delimiter = own;
  columns = text.columns;
  some =
      head-some options text
      (and_parts (may_head options text) (has_small_indent options are.6.rest)
      (and_parts (may_head options text && has_small_indent options are.6.rest) asked starts).0).0;
  asked =
      ap (λ (line : List ℕ). are_columns (delimiter_columns line) text.columns) (trim-line bytes next own)
      ∙ (and_parts (may_head options text && has_small_indent options are.6.rest) asked starts).1;
  inside = line-adds options bytes next (held_leaf.Text text) are.6 met;
  body = rows-of options bytes next rows are.7 filled.1 are.6.following;
}
  where
    own : IsFilledLine bytes next
    own = filled_line options bytes next are.6 filled.0

    asked : Bool
    asked = are_columns (delimiter_columns (trim are.6.rest.bytes)) text.columns

    starts :
        (may_head options text && has_small_indent options are.6.rest && asked) ≡ true
    starts = subst (λ (on : HeldLeaf). table_leaf.starts options on are.6.rest ≡ true) met are.6.starts

-- The block.

-- the cells of rows, by the rests of their lines
abbrev pub cells_after : (options : ParseOptions) (bytes : List ℕ) (row : Row) (rows : List Row) →
    AreAfter options bytes table_leaf row rows → List (List (List ℕ))
cells_after options bytes row [] are = []
cells_after options bytes row (next ∷ rows) are =
    row_cells are.6.rest.bytes ∷ cells_after options bytes next rows are.7

-- the table, with the cells of this head
abbrev pub table_after : (options : ParseOptions) (bytes : List ℕ) (row next : Row) (rows : List Row) →
    List (List ℕ) → AreAfter options bytes table_leaf row (next ∷ rows) → Block
table_after options bytes row next rows head are =
    Table (trim are.6.rest.bytes) (head ∷ cells_after options bytes next rows are.7)

same-cells : (options : ParseOptions) (bytes : List ℕ) (row : Row) (rows : List Row) →
    (are : AreAfter options bytes table_leaf row rows) → AreFilled options bytes row rows are →
    rows_cells bytes rows ≡ cells_after options bytes row rows are
same-cells options bytes row [] are filled = refl
same-cells options bytes row (next ∷ rows) are filled =
    ap₂ (λ (cells : List (List ℕ)) (more : List (List (List ℕ))). cells ∷ more)
    (line-cells bytes next (filled_line options bytes next are.6 filled.0))
    (same-cells options bytes next rows are.7 filled.1)

same-block : (options : ParseOptions) (bytes : List ℕ) (row next : Row) (rows : List Row) →
    (is : IsFilledLine bytes row) → (are : AreAfter options bytes table_leaf row (next ∷ rows)) →
    AreFilled options bytes row (next ∷ rows) are →
    table_block bytes row next rows ≡ table_after options bytes row next rows (row_cells is.rest.bytes) are
same-block options bytes row next rows is are filled =
    ap₂ Table (trim-line bytes next (filled_line options bytes next are.6 filled.0))
    (ap₂ (λ (cells : List (List ℕ)) (more : List (List (List ℕ))). cells ∷ more) (line-cells bytes row is)
    (same-cells options bytes next rows are.7 filled.1))

-- It is the one to which the line definition comes with the rows.

-- a line on which something is is in the text
in-text : (options : ParseOptions) (bytes : List ℕ) (row next : Row) (rows : List Row) →
    (are : AreAfter options bytes table_leaf row (next ∷ rows)) → is_blank are.6.rest.bytes ≡ false →
    nat_lt are.0.index (length bytes) ≡ true
in-text options bytes row next rows are filled = go (nat_lt are.0.index (length bytes)) refl
  where
    none : length bytes ≤ are.0.index → ⊥
    none over =
        let grows = fronts-grow bytes [] are.0 next.first next.front are.3 in
        let empty : rest_line are.6.rest ≡ [] =
        line-over bytes are.6.rest next.first next.end (further-at options bytes table_leaf next are.6)
        (omega arith) in
        let dark : is_blank (row_line bytes next) ≡ false =
        line-dark bytes next (filled_line options bytes next are.6 filled) in
        let blank : is_blank (row_line bytes next) ≡ true = ap is_blank (are.6.at.text ∙ empty) in cc

    go : (x : Bool) → nat_lt are.0.index (length bytes) ≡ x → x ≡ true
    go true e = refl
    go false e = absurd (none (grind (arith, nat_tests)))

rows-become : (options : ParseOptions) (bytes : List ℕ) (row : Row) (rows : List Row) (delimiter : List ℕ)
    (before : List (List (List ℕ))) →
    (are : AreAfter options bytes table_leaf row rows) → AreFilled options bytes row rows are →
    becomes_after options bytes table_leaf row rows are (Opened (OpenTable delimiter before)) ≡
    Opened (OpenTable delimiter (before ++ cells_after options bytes row rows are))
rows-become options bytes row [] delimiter before are filled =
    ap (λ (cells : List (List (List ℕ))). Opened (OpenTable delimiter cells)) (sym (append-nil before))
rows-become options bytes row (next ∷ rows) delimiter before are filled =
    let own : List (List ℕ) = row_cells are.6.rest.bytes in
    ap
    (λ (x : Bool).
    becomes_after options bytes table_leaf next rows are.7
    (cond x (Opened (OpenTable delimiter (before ++ own ∷ []))) (Opened (OpenTable delimiter before))))
    (in-text options bytes row next rows are filled.0)
    ∙ rows-become options bytes next rows delimiter (before ++ own ∷ []) are.7 filled.1
    ∙ ap (λ (cells : List (List (List ℕ))). Opened (OpenTable delimiter cells))
    (append_assoc before (own ∷ []) (cells_after options bytes next rows are.7))

pub table-shuts : (options : ParseOptions) (bytes : List ℕ) (row next : Row) (rows : List Row)
    (head : List (List ℕ)) (bs : Blocks) →
    (are : AreAfter options bytes table_leaf row (next ∷ rows)) → AreFilled options bytes row (next ∷ rows) are →
    shut options
    (became bs
    (becomes_after options bytes table_leaf next rows are.7
    (Opened (OpenTable (trim are.6.rest.bytes) (head ∷ []))))) ≡
    then_block bs (table_after options bytes row next rows head are)
table-shuts options bytes row next rows head bs are filled =
    ap (λ (c : LeafResult). shut options (became bs c))
    (rows-become options bytes next rows (trim are.6.rest.bytes) (head ∷ []) are.7 filled.1)

-- All that the frame asks of the lines of a table.

pub table-facts : (options : ParseOptions) (bytes : List ℕ) (row next : Row) (rows : List Row) (text : OpenText) →
    (is : IsFilledLine bytes row) → (are : AreAfter options bytes table_leaf row (next ∷ rows)) →
    AreFilled options bytes row (next ∷ rows) are → next.on ≡ held_leaf.Text text →
    LeafFacts bytes (Some (table_after options bytes row next rows (row_cells is.rest.bytes) are)) true row.first
    (last_row next rows).end (headed_unread bytes row next rows) (headed_done bytes row next rows)
table-facts options bytes row next rows text is are filled met =
    subst
    (λ (block : Block).
    LeafFacts bytes (Some block) true row.first (last_row next rows).end (headed_unread bytes row next rows)
    (headed_done bytes row next rows)) (same-block options bytes row next rows is are filled)
    (table-leaf bytes row next rows (table-of options bytes row next rows text is are filled met))
