-- The line after another: where it begins, and whether it continues the leaf that the line before it leaves open.
use Rattle.std.proofs.Common.{◌≡◌, ◌≢◌, ℕ, Bool, true, false, cond, ◌&&◌, List, [], ◌∷◌, refl, ap, ap₂, sym, ◌∙◌, subst}
use Rattle.md_engine.specs.declared.configuration.ParseOptions.{ParseOptions}
use Rattle.md_engine.specs.declared.event.Point.{Point}
use Rattle.md_engine.specs.declared.tokenizer.held_leaf.HeldLeaf.{HeldLeaf}
use Rattle.md_engine.specs.declared.tokenizer.held_leaf.HeldLeaf.TheVariants as held_leaf
use Rattle.md_engine.specs.declared.tokenizer.held_leaf.OpenText.{OpenText}
use Rattle.md_engine.specs.declared.tokenizer.held_leaf.Progress.{Progress}
use Rattle.md_engine.specs.declared.tokenizer.held_leaf.Progress.TheVariants.{Fresh}
use Rattle.md_engine.specs.Progress.{is_whole}
use Rattle.md_meaning.specs.State.{Container, kept, texts}
use Rattle.md_link_definitions.specs.Progress.{progress_of, steps}
use Rattle.proof_frame.specs.Change.{Change, is_none}
use Rattle.proof_rows.specs.Fronted.{contained, rest_from}
use Rattle.proof_frame.specs.HeldLeaf.{may_continue, takes_lazy}
use Rattle.proof_frame.specs.LeafName.{LeafName}
use Rattle.md_registry.specs.Registry.{leaf}
use Rattle.proof_frame.specs.Row.{BlankRow, LeafRow, Row, RowKind, TextRow}
use Rattle.proof_rows.specs.Rows.{Group, LeafLines, Turned, takes_head, is_continued, groups, is_further}
use Rattle.proof_rows.specs.Rows.{line_following, line_kind}
use Rattle.proof_rows.proofs.ContainedLemmas.{contained-met, contained-still}
use Rattle.proof_frame.proofs.FrontFacts.{LinePrefix}
use Rattle.proof_rows.proofs.KindLemmas.{kind-starts}
use Rattle.md_registry.proofs.Registry.{laws}
use Rattle.proof_rows.proofs.RowFacts.{AreRows, IsLine, IsRow}
use Rattle.proof_rows.proofs.RowLeaf.{EndsOnLine}
use Rattle.proof_frame.proofs.SpanLaws.{IsLineOf}
use Rattle.proof_rows.proofs.TextProgress.{IsFresh, IsShut, contained-closed, contained-progress, unlazy-fresh}
use Rattle.md_registry.proofs.UnderNames.{under-shuts}
use Rattle.proof_rows.proofs.GroupLines.{AreLines, AreSpan, Begins, BeginsFresh, FirstIs, IsLeft, IsSpanLine, Leaves}
use Rattle.proof_rows.proofs.GroupLines.{kept-of, line-further, line-of, onto-first, span-begins}

-- what is known of the line after another: it begins after this point; where it continues a leaf it meets what the
-- line before leaves, and no container ends or opens between them; and it continues none where none is open that a
-- line may continue
pub record IsAfter (bytes : List ℕ) (p : Point) (row below : Row) : Type 0 where
  pub front : LinePrefix bytes below.change.opens p below.first below.front
  pub met : is_further below.kind below.on ≡ true →
      (leaves : row.closed_after ≡ []) × (opens : below.change.opens ≡ []) × (below.on ≡ row.following)
  pub begins : may_continue row.following ≡ false → Begins below
  -- where no container opens, definitions have come as far as after the other line; else none have begun
  pub on : progress_of below.on ≡ cond (is_none below.change.opens) (progress_of row.following) Fresh
  -- nor have they where text begins after containers that end
  pub closed : below.kind ≡ TextRow → is_none row.closed_after ≡ false → IsFresh below.on

-- where a line continues the leaf that it meets, it may do so
pub further-may : (options : ParseOptions) (bytes line : List ℕ) (row : Row) → IsRow options bytes line row →
    is_further row.kind row.on ≡ true → may_continue row.on ≡ true
further-may options bytes line row is f = go row.kind refl f
  where
    go : (kind : RowKind) → row.kind ≡ kind → is_further kind row.on ≡ true → may_continue row.on ≡ true
    go BlankRow e f = cc
    go TextRow e f = cc
    go (LeafRow l) e f =
        (laws l).meets options row.on is.rest (kind-starts options row.on is.rest l (sym is.kind ∙ e)) f

-- its leaf says whether it takes the line before it as its head
pub line-heads : (options : ParseOptions) (bytes : List ℕ) (row : Row) → (is : IsSpanLine options bytes row) →
    (x : Bool) → takes_head row.kind ≡ x → (leaf is.name).heads ≡ x
line-heads options bytes row is x h = ap takes_head (sym is.kind) ∙ h

-- a line that continues text, and takes no head, is alone: no line continues it
pub turned-alone : (options : ParseOptions) (bytes : List ℕ) (at : OpenText) (row next : Row) (rows : List Row) →
    row.on ≡ held_leaf.Text at → is_further row.kind row.on ≡ true → takes_head row.kind ≡ false →
    AreSpan options bytes row (next ∷ rows) → ⊥
turned-alone options bytes at row next rows on f h are =
    let is : IsSpanLine options bytes row = are.0 in
    let below : IsSpanLine options bytes next = span-begins options bytes next rows are.8 in
    let above : IsLineOf options bytes (leaf is.name) row = line-of options bytes row is in
    let further : (leaf is.name).further (held_leaf.Text at) ≡ true =
    ap (leaf is.name).further (sym on) ∙ line-further options bytes row is true f in
    let shut : may_continue next.on ≡ false =
    ap may_continue
    (are.6 ∙ above.following
    ∙ under-shuts at is.name further (line-heads options bytes row is false h) options row.on above.rest) in
    let may : may_continue next.on ≡ true = further-may options bytes below.line next below.is are.7 in
    let bad : true ≡ false = sym may ∙ shut in
    cc

-- no line continues a line that is no text and of no leaf of several lines
pub shut-following : (options : ParseOptions) (bytes line : List ℕ) (row : Row) → IsRow options bytes line row →
    EndsOnLine row.kind → row.kind ≢ TextRow → IsShut row.following
shut-following options bytes line row is ends other =
    let none = is.following ∙ go row.kind refl in (ap may_continue none, ap progress_of none)
  where
    go : (kind : RowKind) → row.kind ≡ kind → line_following options row.on is.rest kind ≡ held_leaf.None
    go BlankRow e = refl
    go TextRow e = absurd (other e)
    go (LeafRow l) e = ((laws l).shut (ends l e) options row.on).1 is.rest

-- a line begins a leaf where none is open that a line may continue
pub line-begins : (options : ParseOptions) (bytes : List ℕ) (cs : List Container) (still : HeldLeaf) (p : Point)
    (line : List ℕ) (row : Row) →
    IsLine options bytes cs still p line row → may_continue still ≡ false → Begins row
line-begins options bytes cs still p line row is shut = go (is_further row.kind row.on) refl
  where
    go : (x : Bool) → is_further row.kind row.on ≡ x → x ≡ false
    go false f = refl
    go true f =
        let may = further-may options bytes _ row is.is f in
        let met = contained-still options cs still (rest_from p line) (ap may_continue (sym is.on) ∙ may) in
        let bad : true ≡ false = sym may ∙ ap may_continue (is.on ∙ met) ∙ shut in
        cc

-- and no definitions have begun before it where no text is open
line-fresh : (options : ParseOptions) (bytes : List ℕ) (cs : List Container) (still : HeldLeaf) (p : Point)
    (line : List ℕ) (row : Row) →
    IsLine options bytes cs still p line row → IsFresh still → IsFresh row.on
line-fresh options bytes cs still p line row is fresh =
    ap progress_of is.on ∙ contained-progress options cs still (rest_from p line)
    ∙ go (is_none (contained options cs still (rest_from p line)).change.opens)
  where
    go : (x : Bool) → cond x (progress_of still) Fresh ≡ Fresh
    go true = fresh
    go false = refl

-- where it continues one, no container ends before it, and none opens
pub line-met : (options : ParseOptions) (bytes : List ℕ) (cs : List Container) (still : HeldLeaf) (p : Point)
    (line : List ℕ) (row : Row) →
    IsLine options bytes cs still p line row → is_further row.kind row.on ≡ true →
    (opens : row.change.opens ≡ []) × (closes : row.change.closes ≡ []) × (row.on ≡ still)
line-met options bytes cs still p line row is f =
    let may = ap may_continue (sym is.on) ∙ further-may options bytes _ row is.is f in
    let met = contained-met options cs still (rest_from p line) may in (
      ap (λ (c : Change). c.opens) is.change ∙ met.0,
      ap (λ (c : Change). c.closes) is.change ∙ met.1,
      is.on ∙ contained-still options cs still (rest_from p line) may,
    )

-- the first line, where these containers and this leaf are open
abbrev pub FirstLine : ParseOptions → List ℕ → List Container → HeldLeaf → Point → List (List ℕ) → Row → Type 0
FirstLine options bytes cs still p [] row = ⊥
FirstLine options bytes cs still p (line ∷ lines) row = IsLine options bytes cs still p line row

pub first-line : (options : ParseOptions) (bytes : List ℕ) (cs : List Container) (still : HeldLeaf) (p : Point)
    (lines : List (List ℕ)) (row : Row) (rows : List Row) →
    AreRows options bytes cs still p lines (row ∷ rows) → FirstLine options bytes cs still p lines row
first-line options bytes cs still p (line ∷ []) row [] h = h.0
first-line options bytes cs still p (line ∷ next ∷ lines) row (below ∷ rows) h = h.0
first-line options bytes cs still p lines row rows h = absurd h

line-following : (options : ParseOptions) (bytes : List ℕ) (cs : List Container) (p : Point) (lines : List (List ℕ))
    (row below : Row) →
    FirstLine options bytes cs row.following p lines below → row.closed_after ≡ below.change.closes →
    IsAfter bytes p row below
line-following options bytes cs p [] row below is leaves = absurd is
line-following options bytes cs p (line ∷ lines) row below is leaves = record {
  front = is.front;
  met =
      λ f. let met = line-met options bytes cs row.following p line below is f in (leaves ∙ met.1, met.0, met.2);
  begins = line-begins options bytes cs row.following p line below is;
  on =
      ap progress_of is.on ∙ contained-progress options cs row.following (rest_from p line)
      ∙ ap (λ (change : Change). cond (is_none change.opens) (progress_of row.following) Fresh) (sym is.change);
  closed =
      λ text some. ap progress_of is.on
      ∙ contained-closed options cs row.following (rest_from p line)
      (ap₂ (line_kind options) (sym is.on) (sym is.rest_is) ∙ sym is.is.kind ∙ text)
      (ap (λ (change : Change). is_none change.closes) (sym is.change) ∙ ap is_none (sym leaves) ∙ some);
}

-- the first line of the groups of the lines after one
pub first-following : (options : ParseOptions) (bytes : List ℕ) (cs : List Container) (p : Point)
    (lines : List (List ℕ))
    (row below : Row) (rows : List Row) →
    AreRows options bytes cs row.following p lines (below ∷ rows) → row.closed_after ≡ below.change.closes →
    FirstIs (IsAfter bytes p row) (groups (below ∷ rows))
first-following options bytes cs p lines row below rows are leaves =
    onto-first (IsAfter bytes p row) below below.kind (groups rows)
    (line-following options bytes cs p lines row below
    (first-line options bytes cs row.following p lines below rows are)
    leaves)

-- the first of them continues no leaf
abbrev pub FirstBegins : List Group → Type 0
FirstBegins (LeafLines row rows ∷ gs) = Begins row
FirstBegins (Turned row rows under ∷ gs) = IsFresh row.on
FirstBegins gs = Unit {0}

-- where no definitions have come before them, that is what they leave of the text
pub leaves-left : (options : ParseOptions) (bytes : List ℕ) (row : Row) (rows : List Row) →
    (are : AreLines options bytes row rows) → Leaves options bytes row rows are → IsFresh row.on →
    IsLeft options bytes row rows are
leaves-left options bytes row rows are leaves fresh =
    λ on.
    ap (λ (at : Progress). is_whole (steps at (texts (kept-of options bytes row rows are)))) (sym fresh) ∙ leaves on

first-begin : (gs : List Group) → FirstIs BeginsFresh gs → FirstBegins gs
first-begin (Turned row rows under ∷ gs) h = h.1
first-begin (LeafLines row rows ∷ gs) h = h.0
first-begin _ h = tt

-- after a line that leaves no text open, the next line meets none
pub following-fresh : (bytes : List ℕ) (p : Point) (row below : Row) → IsAfter bytes p row below →
    IsFresh row.following →
    IsFresh below.on
following-fresh bytes p row below is fresh = is.on ∙ go (is_none below.change.opens)
  where
    go : (x : Bool) → cond x (progress_of row.following) Fresh ≡ Fresh
    go true = fresh
    go false = refl

-- nor does the first of the groups after a line that no other continues
pub begins-following : (bytes : List ℕ) (p : Point) (row : Row) (gs : List Group) → FirstIs (IsAfter bytes p row) gs →
    IsShut row.following → FirstBegins gs
begins-following bytes p row (Turned below rows under ∷ gs) first shut = following-fresh bytes p row below first shut.1
begins-following bytes p row (LeafLines below rows ∷ gs) first shut = first.begins shut.0
begins-following bytes p row _ first shut = tt

-- a blank line, and a line of a leaf that always ends there, ends on its line
pub blank-ends : (kind : RowKind) → kind ≡ BlankRow → EndsOnLine kind
blank-ends kind e l k = let bad : BlankRow ≡ LeafRow l = sym e ∙ k in cc

pub leaf-row-ends : (kind : RowKind) (l : LeafName) → kind ≡ LeafRow l → (leaf l).ends ≡ true → EndsOnLine kind
leaf-row-ends kind l e ends m k = go (sym e ∙ k)
  where
    go : LeafRow l ≡ LeafRow m → (leaf m).ends ≡ true
    go same = let name : l ≡ m = cc in subst (λ (n : LeafName). (leaf n).ends ≡ true) name ends

-- a line of a leaf is no text
pub leaf-other : (kind : RowKind) (l : LeafName) → kind ≡ LeafRow l → kind ≢ TextRow
leaf-other kind l e h = let bad : LeafRow l ≡ TextRow = sym e ∙ h in cc

-- where a line continues the text of another, definitions come as far through both as through the second from after
-- the first
pub following-on : (bytes : List ℕ) (p : Point) (row below : Row) → IsAfter bytes p row below →
    below.change.opens ≡ [] → progress_of below.on ≡ progress_of row.following
following-on bytes p row below is none =
    is.on ∙ ap (λ (l : List Container). cond (is_none l) (progress_of row.following) Fresh) none

pub leaves-longer : (options : ParseOptions) (bytes line : List ℕ) (row below : Row) (rows : List Row) →
    (are : AreLines options bytes below rows) → (is : IsRow options bytes line row) → row.kind ≡ TextRow →
    progress_of below.on ≡ progress_of row.following → Leaves options bytes below rows are →
    options.constructs.definition ≡ true →
    is_whole
    (steps (progress_of row.on) ((kept is.rest).text ∷ texts (kept-of options bytes below rows are))) ≡ false
unfolding steps
leaves-longer options bytes line row below rows are is e same leaves on =
    ap (λ (x : Progress). is_whole (steps x (texts (kept-of options bytes below rows are))))
    (sym (same ∙ ap progress_of (is.following ∙ ap (line_following options row.on is.rest) e)))
    ∙ leaves on

-- where it does not, no definitions have begun before the other
pub unjoined-fresh : (bytes : List ℕ) (p : Point) (row below : Row) → IsAfter bytes p row below →
    below.kind ≡ TextRow → is_continued row below ≡ false → IsFresh below.on
unjoined-fresh bytes p row below is text apart = go (is_none row.closed_after) refl below.change.opens refl apart
  where
    go : (x : Bool) → is_none row.closed_after ≡ x → (opens : List Container) → below.change.opens ≡ opens →
        (x && is_none opens) ≡ false → IsFresh below.on
    go true ends [] k apart = cc
    go true ends (c ∷ opens) k apart =
        is.on ∙ ap (λ (l : List Container). cond (is_none l) (progress_of row.following) Fresh) k
    go false ends opens k apart = is.closed text ends

-- after a line of a leaf none have begun
pub leaf-fresh : (options : ParseOptions) (bytes line : List ℕ) (row : Row) (l : LeafName) →
    IsRow options bytes line row → row.kind ≡ LeafRow l → IsFresh row.following
leaf-fresh options bytes line row l is e =
    unlazy-fresh row.following
    (ap takes_lazy (is.following ∙ ap (line_following options row.on is.rest) e)
    ∙ ((laws l).not_lazy options row.on).1 is.rest)

-- The first line of a text begins a leaf, if none is open before it that a line may continue.
pub first-begins : (options : ParseOptions) (bytes : List ℕ) (open_before : List Container) (still : HeldLeaf)
    (p : Point) (lines : List (List ℕ)) (rows : List Row) →
    IsShut still → AreRows options bytes open_before still p lines rows → FirstBegins (groups rows)
first-begins options bytes open_before still p lines [] shut h = tt
first-begins options bytes open_before still p lines (row ∷ rows) shut h =
    first-begin (groups (row ∷ rows))
    (onto-first BeginsFresh row row.kind (groups rows)
    (go lines (first-line options bytes open_before still p lines row rows h)))
  where
    go : (lines : List (List ℕ)) → FirstLine options bytes open_before still p lines row → BeginsFresh row
    go [] is = absurd is
    go (line ∷ lines) is = (
      line-begins options bytes open_before still p line row is shut.0,
      line-fresh options bytes open_before still p line row is shut.1,
    )
