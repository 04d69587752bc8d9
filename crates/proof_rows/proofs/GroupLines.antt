-- Lines that belong together: lines of text, with the line that turns them if one does, a line of text that is the
-- head of a table, and the lines of a leaf of several; and the groups of such lines.
use Rattle.std.proofs.Common.{◌≡◌, ◌≢◌, ℕ, Bool, true, false, List, [], ◌∷◌, refl, ap, sym, ◌∙◌, subst}
use Rattle.std.specs.Prelude.{Some}
use Rattle.md_engine.specs.declared.configuration.ParseOptions.{ParseOptions}
use Rattle.md_engine.specs.declared.event.Point.{Point}
use Rattle.md_engine.specs.Progress.{is_whole}
use Rattle.md_meaning.specs.State.{ParagraphLine, kept, texts}
use Rattle.md_link_definitions.specs.Progress.{progress, progress_of, steps}
use Rattle.proof_frame.specs.LeafName.{LeafName}
use Rattle.md_registry.specs.Registry.{further_of, leaf}
use Rattle.proof_frame.specs.Row.{LeafRow, Row, RowKind, TextRow, last_row}
use Rattle.proof_rows.specs.Rows.{Group, Headed, Lines, Single, LeafLines, Turned, first_row, takes_head, is_further}
use Rattle.proof_rows.specs.Rows.{onto_groups}
use Rattle.proof_frame.proofs.FrontFacts.{LinePrefix}
use Rattle.proof_frame.proofs.FrontNames.{HasFront}
use Rattle.proof_rows.proofs.EachRow.{AsSingle, Onto, onto}
use Rattle.proof_rows.proofs.JoinedLemmas.{EachNoContent, HasNoContent}
use Rattle.md_registry.proofs.SpanLeaves.{further-further, further-is}
use Rattle.proof_rows.proofs.RowFacts.{IsRow}
use Rattle.md_events.proofs.FeedLines.{IsEnding}
use Rattle.proof_rows.proofs.RowLeaf.{EndsOnLine, row-as}
use Rattle.proof_frame.proofs.SpanLaws.{AreAfter, IsLineOf}
use Rattle.proof_rows.proofs.TextProgress.{IsFresh}

-- lines of text that follow one another
abbrev pub AreLines : ParseOptions → List ℕ → Row → List Row → Type 0
AreLines options bytes row [] = (line : List ℕ) × (is : IsRow options bytes line row) × (row.kind ≡ TextRow)
AreLines options bytes row (next ∷ rows) =
    (line : List ℕ) × (is : IsRow options bytes line row) × (text : row.kind ≡ TextRow)
    × (q : Point) × (after : row.after ≡ Some q) × (ending : IsEnding bytes row.end q) ×
    (front : LinePrefix bytes [] q next.first next.front) × AreLines options bytes next rows

-- the first of them
pub first-text : (options : ParseOptions) (bytes : List ℕ) (row : Row) (rows : List Row) →
    AreLines options bytes row rows → (line : List ℕ) × IsRow options bytes line row × (row.kind ≡ TextRow)
first-text options bytes row [] h = (h.0, h.1, h.2)
first-text options bytes row (next ∷ rows) h = (h.0, h.1, h.2)

-- as the line definition keeps them
abbrev pub kept-of : (options : ParseOptions) (bytes : List ℕ) (row : Row) (rows : List Row) →
    AreLines options bytes row rows → List ParagraphLine
kept-of options bytes row [] h = kept h.1.rest ∷ []
kept-of options bytes row (next ∷ rows) h = kept h.1.rest ∷ kept-of options bytes next rows h.7

-- Definitions leave something of these lines, if they have come as far before them as the first line says,
abbrev pub Leaves : (options : ParseOptions) (bytes : List ℕ) (row : Row) (rows : List Row) →
    AreLines options bytes row rows → Type 0
Leaves options bytes row rows are =
    options.constructs.definition ≡ true →
    is_whole (steps (progress_of row.on) (texts (kept-of options bytes row rows are))) ≡ false

-- and so they do where the text begins with these lines.
abbrev pub IsLeft : (options : ParseOptions) (bytes : List ℕ) (row : Row) (rows : List Row) →
    AreLines options bytes row rows → Type 0
IsLeft options bytes row rows are =
    options.constructs.definition ≡ true → is_whole (progress (texts (kept-of options bytes row rows are))) ≡ false

-- a line has an ending if more follows
abbrev pub EndsBeforeGroups : Row → List Group → Type 0
EndsBeforeGroups row [] = Unit {0}
EndsBeforeGroups row (group ∷ gs) = (q : Point) × (row.after ≡ Some q)

-- a line that is no text, and no line of a leaf of several
pub record IsSingle (options : ParseOptions) (bytes : List ℕ) (row : Row) : Type 0 where
  pub line : List ℕ
  pub is : IsRow options bytes line row
  pub other : row.kind ≢ TextRow
  pub ends : EndsOnLine row.kind
  pub quiet : HasNoContent row
  pub front : HasFront bytes row

-- a line of a leaf of several
pub record IsSpanLine (options : ParseOptions) (bytes : List ℕ) (row : Row) : Type 0 where
  pub line : List ℕ
  pub is : IsRow options bytes line row
  pub name : LeafName
  pub kind : row.kind ≡ LeafRow name
  pub open_leaf : (leaf name).ends ≡ false
  pub front : HasFront bytes row

-- such lines: one, and others that continue it; each meets what the one before leaves, and between them no container
-- ends or opens
abbrev pub AreSpan : ParseOptions → List ℕ → Row → List Row → Type 0
AreSpan options bytes row [] = IsSpanLine options bytes row
AreSpan options bytes row (next ∷ rows) =
    (is : IsSpanLine options bytes row) × (q : Point) × (after : row.after ≡ Some q)
    × (ending : IsEnding bytes row.end q) × (front : LinePrefix bytes [] q next.first next.front)
    × (leaves : row.closed_after ≡ []) × (on : next.on ≡ row.following)
    × (further : is_further next.kind next.on ≡ true)
    × AreSpan options bytes next rows

-- the line that turns a text, after the last line of that: between them no container ends or opens
pub record IsUnder (options : ParseOptions) (bytes : List ℕ) (last under : Row) : Type 0 where
  pub line : List ℕ
  pub is : IsRow options bytes line under
  pub name : LeafName
  pub kind : under.kind ≡ LeafRow name
  pub open_leaf : (leaf name).ends ≡ false
  pub after : Point
  pub after_is : last.after ≡ Some after
  pub ending : IsEnding bytes last.end after
  pub front : LinePrefix bytes [] after under.first under.front
  pub closed_after : last.closed_after ≡ []
  pub on : under.on ≡ last.following
  pub further : is_further under.kind under.on ≡ true
  pub heads : takes_head under.kind ≡ false
  pub quiet : HasNoContent under

-- a line of text that is a head, before the line that takes it: between them no container ends or opens
pub record IsHead (options : ParseOptions) (bytes : List ℕ) (row next : Row) : Type 0 where
  pub line : List ℕ
  pub is : IsRow options bytes line row
  pub text : row.kind ≡ TextRow
  pub after : Point
  pub after_is : row.after ≡ Some after
  pub ending : IsEnding bytes row.end after
  pub front : LinePrefix bytes [] after next.first next.front
  pub closed_after : row.closed_after ≡ []
  pub on : next.on ≡ row.following
  pub further : is_further next.kind next.on ≡ true
  pub heads : takes_head next.kind ≡ true

-- a line continues no leaf
abbrev pub Begins : Row → Type 0
Begins row = is_further row.kind row.on ≡ false

-- and no definitions have begun before it
abbrev pub BeginsFresh : Row → Type 0
BeginsFresh row = Begins row × IsFresh row.on

-- groups of such lines; the first line of a leaf of several continues none
abbrev pub AreGroups : ParseOptions → List ℕ → List Group → Type 0
AreGroups options bytes [] = Unit {0}
AreGroups options bytes (Single row ∷ gs) = IsSingle options bytes row × AreGroups options bytes gs
AreGroups options bytes (LeafLines row rows ∷ gs) =
    AreSpan options bytes row rows × EndsBeforeGroups (last_row row rows) gs × AreGroups options bytes gs ×
    EachNoContent (row ∷ rows) × Begins row
AreGroups options bytes (Turned row rows under ∷ gs) =
    (are : AreLines options bytes row rows) × (is : IsUnder options bytes (last_row row rows) under)
    × (ends : EndsBeforeGroups under gs) × (front : HasFront bytes row) × (more : AreGroups options bytes gs)
    × IsLeft options bytes row rows are
AreGroups options bytes (Headed row next rows ∷ gs) =
    (head : IsHead options bytes row next) × (are : AreSpan options bytes next rows)
    × (ends : EndsBeforeGroups (last_row next rows) gs) × (front : HasFront bytes row)
    × (more : AreGroups options bytes gs) × EachNoContent (next ∷ rows)
AreGroups options bytes (Lines row rows ∷ gs) =
    AreLines options bytes row rows × EndsBeforeGroups (last_row row rows) gs × HasFront bytes row ×
    AreGroups options bytes gs

-- the first line of groups has this property
abbrev pub FirstIs : (Row → Type 0) → List Group → Type 0
FirstIs P [] = Unit {0}
FirstIs P (group ∷ gs) = P (first_row group)

pub onto-first : (P : Row → Type 0) (row : Row) (kind : RowKind) (gs : List Group) → P row →
    FirstIs P (onto_groups row kind gs)
onto-first P row kind gs h = go gs _ (onto row kind gs)
  where
    go : (gs all : List Group) → Onto row gs all → FirstIs P all
    go _ _ (AsSingle gs) = h
    go _ _ _ = h

abbrev pub span-begins : (options : ParseOptions) (bytes : List ℕ) (row : Row) (rows : List Row) →
    AreSpan options bytes row rows → IsSpanLine options bytes row
span-begins options bytes row [] are = are
span-begins options bytes row (next ∷ rows) are = are.0

-- a line of a leaf of several is one of its leaf
abbrev pub line-as : (options : ParseOptions) (bytes : List ℕ) (row : Row) → IsSpanLine options bytes row →
    (l : LeafName) → row.kind ≡ LeafRow l → IsLineOf options bytes (leaf l) row
line-as options bytes row is l kind = row-as options bytes is.line row is.is l kind

abbrev pub line-of : (options : ParseOptions) (bytes : List ℕ) (row : Row) → (is : IsSpanLine options bytes row) →
    IsLineOf options bytes (leaf is.name) row
line-of options bytes row is = line-as options bytes row is is.name is.kind

-- its leaf says whether it continues the leaf that it meets
pub line-further : (options : ParseOptions) (bytes : List ℕ) (row : Row) → (is : IsSpanLine options bytes row) →
    (x : Bool) → is_further row.kind row.on ≡ x → (leaf is.name).further row.on ≡ x
line-further options bytes row is x f = ap (λ (kind : RowKind). is_further kind row.on) (sym is.kind) ∙ f

-- and the lines after it are lines of the leaf that takes its further ones
abbrev pub span-following : (options : ParseOptions) (bytes : List ℕ) (l : LeafName) (row : Row) (rows : List Row) →
    further_of l ≡ l → (are : AreSpan options bytes row rows) →
    further_of (span-begins options bytes row rows are).name ≡ l → AreAfter options bytes (leaf l) row rows
span-following options bytes l row [] same are e = tt
span-following options bytes l row (next ∷ rows) same are e =
    let below : IsSpanLine options bytes next = span-begins options bytes next rows are.8 in
    let further : (leaf below.name).further next.on ≡ true = line-further options bytes next below true are.7 in
    let above : IsLineOf options bytes (leaf are.0.name) row = line-of options bytes row are.0 in
    let left : next.on ≡ (leaf are.0.name).holds options row.on above.rest = are.6 ∙ above.following in
    let name : below.name ≡ l =
    further-is are.0.name below.name options row.on above.rest
    (ap (leaf below.name).further (sym left) ∙ further)
    ∙ e in (
      are.1,
      are.2,
      are.3,
      are.4,
      are.6,
      subst (λ (m : LeafName). (leaf m).further next.on ≡ true) name further,
      line-as options bytes next below l (below.kind ∙ ap LeafRow name),
      span-following options bytes l next rows same are.8 (ap further_of name ∙ same),
    )

abbrev pub following-first : (options : ParseOptions) (bytes : List ℕ) (row : Row) (rows : List Row) →
    (are : AreSpan options bytes row rows) →
    AreAfter options bytes (leaf (further_of (span-begins options bytes row rows are).name)) row rows
following-first options bytes row rows are =
    let l : LeafName = (span-begins options bytes row rows are).name in
    span-following options bytes (further_of l) row rows (further-further l) are refl
