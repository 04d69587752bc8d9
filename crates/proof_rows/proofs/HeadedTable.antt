-- A group that begins with a line of text which the line after it takes as its head: it is a table, with that line as
-- its delimiter row, and the others as the rows of its body (GFM 4.10).
use Rattle.std.proofs.Common.{◌≡◌, ℕ, true, false, ◌||◌, List, [], ◌∷◌, refl, ap, sym, ◌∙◌, subst}
use Rattle.std.proofs.lemmas.Bool.{or_right}
use Rattle.std.specs.Prelude.{Some}
use Rattle.md_engine.specs.declared.configuration.ParseOptions.{ParseOptions}
use Rattle.md_engine.specs.declared.tokenizer.held_leaf.HeldLeaf.{HeldLeaf}
use Rattle.md_engine.specs.declared.tokenizer.held_leaf.HeldLeaf.TheVariants as held_leaf
use Rattle.md_engine.specs.declared.tokenizer.held_leaf.OpenText.{OpenText}
use Rattle.md_meaning.specs.Rest.{is_blank, trim_start}
use Rattle.md_meaning.specs.State.{kept}
use Rattle.md_meaning.specs.Table.{row_cells}
use Rattle.md_meaning.specs.Tree.{Block}
use Rattle.md_link_definitions.specs.OpenText.{open_text}
use Rattle.md_link_definitions.specs.Progress.{progress_of, step}
use Rattle.proof_leaf_laws.specs.Leaf.GfmTable.{may_be_table, table_leaf}
use Rattle.proof_frame.specs.LeafName.{GfmTable, LeafName}
use Rattle.md_registry.specs.Resolving.{joins_lines}
use Rattle.md_registry.specs.Registry.{further_of, asked_first, leaf}
use Rattle.proof_frame.specs.Row.{LeafRow, Row, RowKind, is_blank_by, last_row}
use Rattle.proof_leaf_laws.specs.Headed.{headed_done, headed_unread}
use Rattle.proof_rows.specs.Rows.{Headed, is_blank_group, line_following}
use Rattle.proof_leaf_laws.proofs.GfmTable.Found.{table-enabled}
use Rattle.proof_leaf_laws.proofs.GfmTable.TableForm.{IsFilledLine, IsTable}
use Rattle.proof_leaf_laws.proofs.GfmTable.TableLaws.{AreFilled, table-facts, table-of, table_after}
use Rattle.proof_rows.proofs.GroupLines.{AreSpan, IsHead, IsSpanLine, line-as, line-further, span-begins}
use Rattle.proof_rows.proofs.GroupLines.{span-following}
use Rattle.proof_rows.proofs.LineAfter.{line-heads}
use Rattle.proof_rows.proofs.KindLemmas.{kind-filled}
use Rattle.proof_frame.proofs.LeafFacts.{LeafFacts}
use Rattle.proof_rows.proofs.RowFacts.{IsRow}
use Rattle.proof_rows.proofs.RowLeaf.{leaf-at, leaf-filled}
use Rattle.proof_frame.proofs.SpanLaws.{AreAfter, IsLineOf}
use Rattle.proof_rows.proofs.SpelledParagraphs.{text-filled}
use Rattle.proof_rows.proofs.TableStarts.{asked-untabled}
use Rattle.md_registry.proofs.UnderNames.{heads-table}

-- something is on a line that continues a text or on a table: no leaf is asked there before blank lines
not-asked : (on : HeldLeaf) (l : LeafName) → may_be_table on ≡ true → asked_first on ≡ Some l → ⊥
not-asked on l proceeds asked =
    let bad : true ≡ false = sym proceeds ∙ asked-untabled on l asked in
    cc

pub line-filled : (options : ParseOptions) (bytes line : List ℕ) (row : Row) (l : LeafName) →
    (is : IsRow options bytes line row) → row.kind ≡ LeafRow l → may_be_table row.on ≡ true →
    is_blank is.rest.bytes ≡ false
line-filled options bytes line row l is kind proceeds =
    kind-filled options row.on is.rest l (sym is.kind ∙ kind) (not-asked row.on l proceeds)

rows-filled : (options : ParseOptions) (bytes : List ℕ) (row : Row) (rows : List Row) →
    (are : AreSpan options bytes row rows) →
    (e : further_of (span-begins options bytes row rows are).name ≡ GfmTable) →
    AreFilled options bytes row rows (span-following options bytes GfmTable row rows refl are e)
rows-filled options bytes row [] are e = tt
rows-filled options bytes row (next ∷ rows) are e =
    let below : IsSpanLine options bytes next = span-begins options bytes next rows are.8 in (
      line-filled options bytes below.line next below.name below.is below.kind
          (span-following options bytes GfmTable row (next ∷ rows) refl are e).5,
      rows-filled options bytes next rows are.8 _,
    )

-- so the last of them ends as a line on which something is
last-filled : (options : ParseOptions) (bytes : List ℕ) (row : Row) (rows : List Row) →
    (are : AreSpan options bytes row rows) → may_be_table row.on ≡ true → AreAfter options bytes table_leaf row rows →
    is_blank_by (last_row row rows).kind (last_row row rows) ≡ false
last-filled options bytes row [] are proceeds following =
    ap (λ (kind : RowKind). is_blank_by kind row) are.kind
    ∙ leaf-filled options bytes are.line row are.name are.is are.kind (not-asked row.on are.name proceeds)
last-filled options bytes row (next ∷ rows) are proceeds following =
    last-filled options bytes next rows are.8 following.5 following.7

-- What the lines of such a group are.
pub record IsHeaded (options : ParseOptions) (bytes : List ℕ) (row next : Row) (rows : List Row) : Type 0 where
  -- something is on the line of text, and the others continue it as lines of a table
  pub head : IsFilledLine bytes row
  pub are : AreAfter options bytes table_leaf row (next ∷ rows)
  pub filled : AreFilled options bytes row (next ∷ rows) are
  pub text : OpenText
  pub on : next.on ≡ held_leaf.Text text
  pub ends : is_blank_group (Headed row next rows) ≡ false

pub headed-is : (options : ParseOptions) (bytes : List ℕ) (row next : Row) (rows : List Row) →
    IsHead options bytes row next → AreSpan options bytes next rows → IsHeaded options bytes row next rows
headed-is options bytes row next rows head are = record {
  head = record {
    rest = head.is.rest;
    at = leaf-at options bytes head.line row head.is;
    column = head.is.column;
    filled = (text-filled options bytes head.line row head.is head.text).filled;
  };
  are = (
    head.after,
    head.after_is,
    head.ending,
    head.front,
    head.on,
    proceeds,
    line-as options bytes next below GfmTable (below.kind ∙ ap LeafRow name),
    following,
  );
  filled = (
    line-filled options bytes below.line next below.name below.is below.kind proceeds,
    rows-filled options bytes next rows are (ap further_of name),
  );
  text = open_text (step (progress_of row.on) (trim_start head.is.rest.bytes)) (kept head.is.rest);
  on = head.on ∙ head.is.following ∙ ap (line_following options row.on head.is.rest) head.text;
  ends = last-filled options bytes next rows are proceeds following;
}
  where
    below : IsSpanLine options bytes next
    below = span-begins options bytes next rows are

    name : below.name ≡ GfmTable
    name = heads-table below.name (line-heads options bytes next below true head.heads)

    proceeds : may_be_table next.on ≡ true
    proceeds =
        subst (λ (l : LeafName). (leaf l).further next.on ≡ true) name
        (line-further options bytes next below true head.further)

    following : AreAfter options bytes table_leaf next rows
    following = span-following options bytes GfmTable next rows refl are (ap further_of name)

-- tables are on
pub headed-on : (options : ParseOptions) (bytes : List ℕ) (row next : Row) (rows : List Row) →
    IsHeaded options bytes row next rows → options.constructs.gfm_table ≡ true
headed-on options bytes row next rows is =
    let line : IsLineOf options bytes table_leaf next = is.are.6 in
    table-enabled options is.text line.rest
    (subst (λ (on : HeldLeaf). table_leaf.starts options on line.rest ≡ true) is.on line.starts)

-- so lines of leaves are joined
pub headed-joins : (options : ParseOptions) (bytes : List ℕ) (row next : Row) (rows : List Row) →
    IsHeaded options bytes row next rows → joins_lines options ≡ true
unfolding joins_lines
headed-joins options bytes row next rows is =
    let c = options.constructs in
    or_right (c.code_fenced || c.math_flow || c.code_indented || c.html_flow) c.gfm_table
    (headed-on options bytes row next rows is)

-- As a table: what the line definition becomes with them, and what is known of their events.

pub headed-table : (options : ParseOptions) (bytes : List ℕ) (row next : Row) (rows : List Row) →
    IsHeaded options bytes row next rows → IsTable bytes row next rows
headed-table options bytes row next rows is =
    table-of options bytes row next rows is.text is.head is.are is.filled is.on

abbrev pub headed_block : (options : ParseOptions) (bytes : List ℕ) (row next : Row) (rows : List Row) →
    IsHeaded options bytes row next rows → Block
headed_block options bytes row next rows is =
    table_after options bytes row next rows (row_cells is.head.rest.bytes) is.are

pub headed-facts : (options : ParseOptions) (bytes : List ℕ) (row next : Row) (rows : List Row) →
    (is : IsHeaded options bytes row next rows) →
    LeafFacts bytes (Some (headed_block options bytes row next rows is)) true row.first (last_row next rows).end
    (headed_unread bytes row next rows) (headed_done bytes row next rows)
headed-facts options bytes row next rows is =
    table-facts options bytes row next rows is.text is.head is.are is.filled is.on
