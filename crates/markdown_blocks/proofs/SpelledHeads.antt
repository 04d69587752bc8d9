-- What a line of text is read as that is the head of a table, with the lines that continue it: the table to which the
-- line definition comes with them, after what the lines of text before the head become.
use Rattle.std.proofs.Common.{◌≡◌, ℕ, Bool, true, false, cond, List, [], ◌∷◌, ◌++◌, refl, ap, sym, ◌∙◌, subst}
use Rattle.std.specs.Prelude.{None}
use Rattle.std.proofs.lemmas.List.{reverse-append}
use Rattle.md_engine.specs.declared.configuration.ParseOptions.{ParseOptions}
use Rattle.md_engine.specs.declared.event.Event.{Event}
use Rattle.md_engine.specs.declared.tokenizer.held_leaf.HeldLeaf.TheVariants as held_leaf
use Rattle.md_engine.specs.declared.tokenizer.held_leaf.OpenText.{OpenText}
use Rattle.md_meaning.specs.Definition.{Defined, cut_at_most, cut_definitions}
use Rattle.md_meaning.specs.Leaves.{LeafResult, Opened}
use Rattle.md_meaning.specs.Rest.{is_blank, trim}
use Rattle.md_meaning.specs.State.{At, ParagraphLine, Leaf, NoLeaf, OpenTable, Path, Within, kept, shut, shut_paragraph}
use Rattle.md_meaning.specs.State.{spot, texts, then_definitions, then_leaf, then_paragraph}
use Rattle.md_meaning.specs.Step.{became}
use Rattle.md_meaning.specs.Table.{row_cells}
use Rattle.md_meaning.specs.Tree.{Blocks}
use Rattle.md_events.specs.Events.Spelled.{OpenContainer, Reading, read}
use Rattle.proof_leaf_laws.specs.Leaf.GfmTable.{first_cells, may_be_table, table_leaf}
use Rattle.proof_frame.specs.Leaf.Paragraph.{held_of}
use Rattle.proof_frame.specs.EndingName.{ending_name}
use Rattle.proof_frame.specs.LeafName.{GfmTable, LeafName}
use Rattle.proof_frame.specs.TextLines.{text_leaf}
use Rattle.md_registry.specs.Registry.{leaf}
use Rattle.proof_frame.specs.Row.{LeafRow, Row, TextRow, is_blank_row, last_row}
use Rattle.proof_leaf_laws.specs.Headed.{headed_done}
use Rattle.proof_rows.specs.Rows.{Group, Headed, groups_events, tail_events}
use Rattle.proof_frame.specs.Around.{around_of}
use Rattle.proof_rows.specs.Valid.{reading, reading_on}
use Rattle.proof_leaf_laws.proofs.GfmTable.TableForm.{IsFilledLine}
use Rattle.proof_leaf_laws.proofs.GfmTable.TableLaws.{AreFilled, cells-trimmed, table-facts, table-shuts}
use Rattle.proof_rows.proofs.HeadedTable.{line-filled}
use Rattle.proof_rows.proofs.LineSteps.{longer, with_result}
use Rattle.md_registry.proofs.Registry.{text-laws}
use Rattle.proof_rows.proofs.RowFacts as f
use Rattle.proof_rows.proofs.RowLeaf.{leaf-at}
use Rattle.proof_frame.proofs.SpanLaws.{AreAfter, becomes_after}
use Rattle.proof_rows.proofs.SpelledParagraphs.{text-filled}
use Rattle.proof_rows.proofs.TextFound.{front-is}
use Rattle.md_registry.proofs.UnderNames.{heads-table}

-- Lines on which something is.

-- one of a leaf, where it meets text
pub met-dark : (options : ParseOptions) (bytes line : List ℕ) (row : Row) (l : LeafName) (at : OpenText) →
    (is : f.IsRow options bytes line row) → row.kind ≡ LeafRow l → row.on ≡ held_leaf.Text at →
    is_blank is.rest.bytes ≡ false
met-dark options bytes line row l at is kind on =
    line-filled options bytes line row l is kind (ap may_be_table on)

-- one of a table
pub heads-dark : (options : ParseOptions) (bytes line : List ℕ) (row : Row) (l : LeafName) →
    (is : f.IsRow options bytes line row) → row.kind ≡ LeafRow l → (leaf l).further row.on ≡ true →
    (leaf l).heads ≡ true → is_blank is.rest.bytes ≡ false
heads-dark options bytes line row l is kind further heads =
    line-filled options bytes line row l is kind
    (subst (λ (m : LeafName). (leaf m).further row.on ≡ true) (heads-table l heads) further)

-- the lines of a leaf after one: on those of a table something is
abbrev pub AreDark : (options : ParseOptions) (bytes : List ℕ) (l : LeafName) (row : Row) (rows : List Row) →
    AreAfter options bytes (leaf l) row rows → Type 0
AreDark options bytes l row [] are = Unit {0}
AreDark options bytes l row (next ∷ rows) are =
    ((leaf l).heads ≡ true → is_blank are.6.rest.bytes ≡ false) × AreDark options bytes l next rows are.7

pub dark-filled : (options : ParseOptions) (bytes : List ℕ) (row : Row) (rows : List Row) →
    (are : AreAfter options bytes table_leaf row rows) → AreDark options bytes GfmTable row rows are →
    AreFilled options bytes row rows are
dark-filled options bytes row [] are dark = tt
dark-filled options bytes row (next ∷ rows) are dark =
    (dark.0 refl, dark-filled options bytes next rows are.7 dark.1)

-- What the line definition becomes.

-- with the lines of a table, after its head
abbrev pub head_becomes : (options : ParseOptions) (bytes : List ℕ) (row next : Row) (rows : List Row) →
    AreAfter options bytes table_leaf row (next ∷ rows) → Leaf → LeafResult
head_becomes options bytes row next rows are open_leaf =
    becomes_after options bytes table_leaf next rows are.7 (table_leaf.becomes options open_leaf are.6.rest)

-- where this text, which continues the open one, is the head
abbrev pub head_path : (options : ParseOptions) (bytes : List ℕ) (row next : Row) (rows : List Row) →
    AreAfter options bytes table_leaf row (next ∷ rows) → Path → Path
head_path options bytes row next rows are q =
    with_result options true q (head_becomes options bytes row next rows are (spot q).leaf)

-- what follows the last line of a leaf of several
abbrev pub span_tail : Row → List Row → List Event
span_tail row rows = tail_events (ending_name (is_blank_row (last_row row rows))) (last_row row rows)

-- A line of text is the head of a table, and with the lines of that and what follows is read as this, where this path
-- is open.
pub record StartsHead (options : ParseOptions) (bytes : List ℕ) (p : Path) (row : Row) (gs : List Group)
    (last : Reading) : Type 0 where
  pub line : List ℕ
  pub is : f.IsRow options bytes line row
  pub text : row.kind ≡ TextRow
  pub next : Row
  pub rows : List Row
  pub below : List Group
  pub groups_are : gs ≡ Headed row next rows ∷ below
  pub are : AreAfter options bytes table_leaf row (next ∷ rows)
  pub filled : AreFilled options bytes row (next ∷ rows) are
  pub at : OpenText
  pub on : next.on ≡ held_leaf.Text at
  pub following : read bytes
      (reading options (head_path options bytes row next rows are (longer p (kept is.rest ∷ []))))
      (span_tail next rows ++ groups_events options bytes below) ≡
      last

-- a leaf that is shut as its lines of text: it is text, or none
abbrev pub IsOfText : ParseOptions → Leaf → Type 0
IsOfText options open_leaf =
    (bs : Blocks) → then_leaf options bs open_leaf ≡ text_leaf.following options bs (texts (held_of open_leaf))

-- no lines become nothing
pub none-of_text : (options : ParseOptions) → IsOfText options NoLeaf
unfolding shut_paragraph cut_definitions cut_at_most
none-of_text options bs = go options.constructs.definition
  where
    by : List Defined × List (List ℕ) → Blocks
    by c = then_paragraph (then_definitions bs c.0) c.1

    go : (x : Bool) → bs ≡ by (cond x (cut_definitions []) ([], []))
    go true = refl
    go false = refl

pub text-of_text : (options : ParseOptions) (lines : List ParagraphLine) → IsOfText options (text_leaf.held lines)
text-of_text options lines bs = text-laws.shut options bs lines

pub longer-spot : (p : Path) (lines : List ParagraphLine) →
    (spot (longer p lines)).leaf ≡ text_leaf.held (held_of (spot p).leaf ++ lines)
longer-spot (At s) lines = refl
longer-spot (Within before container p) lines = longer-spot p lines

-- what is read where the head has been turned: all before it is shut
reading-head : (options : ParseOptions) (outer : List OpenContainer) (p : Path) (k : ParagraphLine) (c : LeafResult) →
    IsOfText options (spot p).leaf →
    reading_on options outer (with_result options true (longer p (k ∷ [])) c) ≡
    record (reading_on options outer p) { here = shut options (became (reading_on options outer p).here c) }
reading-head options outer (At s) k c text =
    ap
    (λ (bs : Blocks). record { outer = outer; here = shut options (became bs c); leaf = None; text = None })
    (ap (λ (l : List ParagraphLine). text_leaf.following options s.here (texts l)) (front-is (held_of s.leaf) k)
    ∙ sym (text s.here))
reading-head options outer (Within before container p) k c text =
    reading-head options (around_of container before ∷ outer) p k c text

-- The table is read so.
pub head-read : (options : ParseOptions) (bytes line : List ℕ) (p : Path) (row next : Row) (rows : List Row)
    (at : OpenText) →
    (is : f.IsRow options bytes line row) → row.kind ≡ TextRow →
    (are : AreAfter options bytes table_leaf row (next ∷ rows)) → AreFilled options bytes row (next ∷ rows) are →
    next.on ≡ held_leaf.Text at → IsOfText options (spot p).leaf →
    read bytes (reading options p) (headed_done bytes row next rows) ≡
    reading options (head_path options bytes row next rows are (longer p (kept is.rest ∷ [])))
head-read options bytes line p row next rows at is text are filled on of_text =
    (table-facts options bytes row next rows at head are filled on).reads s refl refl
    ∙ ap (λ (bs : Blocks). record s { here = bs })
    (sym (table-shuts options bytes row next rows (row_cells is.rest.bytes) s.here are filled))
    ∙ ap (λ (c : LeafResult). record s { here = shut options (became s.here c) }) (sym becomes)
    ∙ sym
    (reading-head options [] p (kept is.rest) (head_becomes options bytes row next rows are (spot q).leaf) of_text)
  where
    s : Reading
    s = reading options p

    q : Path
    q = longer p (kept is.rest ∷ [])

    head : IsFilledLine bytes row
    head = record {
      rest = is.rest;
      at = leaf-at options bytes line row is;
      column = is.column;
      filled = (text-filled options bytes line row is text).filled;
    }

    held : List ParagraphLine
    held = held_of (spot p).leaf

    open_table : List (List ℕ) → LeafResult
    open_table cells =
        becomes_after options bytes table_leaf next rows are.7 (Opened (OpenTable (trim are.6.rest.bytes) (cells ∷ [])))

    becomes : head_becomes options bytes row next rows are (spot q).leaf ≡ open_table (row_cells is.rest.bytes)
    becomes =
        ap (head_becomes options bytes row next rows are) (longer-spot p (kept is.rest ∷ []))
        ∙ ap open_table
        (ap first_cells (reverse-append held (kept is.rest ∷ [])) ∙ cells-trimmed is.rest.bytes)
