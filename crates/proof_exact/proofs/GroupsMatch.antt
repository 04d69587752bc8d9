-- The lines of the exact list are put together as their rows are grouped, but for blank lines after code, each of which
-- is alone.
use Rattle.std.proofs.Common.{◌≡◌, ℕ, Bool, true, false, cond, List, [], ◌∷◌, ◌++◌, refl, ap, ap₂, sym, ◌∙◌, subst}
use Rattle.std.specs.Prelude.{◌&&◌, ◌||◌, not, if◌then◌else◌}
use Rattle.md_engine.specs.declared.configuration.ParseOptions.{ParseOptions}
use Rattle.md_engine.specs.declared.tokenizer.held_leaf.HeldLeaf.{HeldLeaf}
use Rattle.md_engine.specs.declared.tokenizer.held_leaf.HeldLeaf.TheVariants as held_leaf
use Rattle.md_engine.specs.declared.tokenizer.held_leaf.OpenText.{OpenText}
use Rattle.md_events.specs.Exact.Blocks.{is_continued as role_continues, grouped, onto}
use Rattle.md_events.specs.Exact.Rows as exact
use Rattle.proof_frame.specs.HeldLeaf.{may_continue, takes_lazy}
use Rattle.proof_frame.specs.LeafName.{CodeFurther, FenceFurther, GfmTable, HeadingSetext, HtmlFurther, LeafName}
use Rattle.proof_frame.specs.Row.{BlankRow, LeafRow, Row, RowKind, TextRow, any_framed, is_framed}
use Rattle.proof_frame.proofs.LeafLines.Bare.{inner, outer}
use Rattle.proof_frame.proofs.LeafLines.Rest.{row_unread}
use Rattle.proof_literal_laws.specs.Leaf.CodeIndented.{is_code}
use Rattle.md_meaning.specs.Rest.{Rest}
use Rattle.md_registry.specs.Registry.{further_of, leaf}
use Rattle.md_registry.proofs.SpanLeaves.{further-is}
use Rattle.md_registry.proofs.Registry.{laws}
use Rattle.md_registry.proofs.UnderNames.{under-shuts}
use Rattle.proof_rows.specs.Rows.{Group, Headed, LeafLines, Lines, Single, Turned, is_continued, groups, is_further}
use Rattle.proof_rows.specs.Rows.{is_last, is_text, line_following, onto_groups, onto_leaf, onto_span, onto_underline}
use Rattle.proof_rows.specs.Rows.{takes_head}
use Rattle.proof_rows.proofs.GroupLines.{Begins, FirstIs, onto-first}
use Rattle.proof_rows.proofs.LineAfter.{further-may}
use Rattle.proof_rows.proofs.RowFacts.{IsRow}
use Rattle.proof_exact.proofs.GroupRuns.{after_run, grouped-run, run}
use Rattle.proof_exact.proofs.RowRoles.{following-lazy, code-further, further_rows, in_code, is_headed}
use Rattle.proof_exact.proofs.SpanGroups.{after_further, further-several, head-group, span-alone, span-group}

-- What the lines of a group are.

-- how a line of the exact list and its row fit
abbrev pub Fits : Type 1
Fits = exact.Row → Row → Type 0

abbrev pub Pairs : Fits → List exact.Row → List Row → Type 0
Pairs Fit [] [] = Unit {0}
Pairs Fit (e ∷ es) (row ∷ rows) = Fit e row × Pairs Fit es rows
Pairs Fit es rows = ⊥

-- the first lines that are put together are these, and this holds of the others
abbrev pub TakesLines : Fits → List Row → (List (List exact.Row) → Type 0) → List (List exact.Row) → Type 0
TakesLines Fit rows More [] = ⊥
TakesLines Fit rows More (es ∷ ess) = Pairs Fit es rows × More ess

-- each of these is alone
abbrev pub TakesEach : Fits → List Row → (List (List exact.Row) → Type 0) → List (List exact.Row) → Type 0
TakesEach Fit [] More ess = More ess
TakesEach Fit (row ∷ rows) More ess = TakesLines Fit (row ∷ []) (TakesEach Fit rows More) ess

-- of the further lines of a leaf those that belong to it, and those after it: blank lines after code
abbrev pub within_leaf : Bool → List Row → List Row
within_leaf code [] = []
within_leaf code (row ∷ rows) = if code then inner row_unread (row ∷ rows) else row ∷ rows

abbrev pub following_leaf : Bool → List Row → List Row
following_leaf code [] = []
following_leaf code (row ∷ rows) = if code then outer row_unread (row ∷ rows) else []

abbrev pub GroupsMatch : Fits → List Group → List (List exact.Row) → Type 0
GroupsMatch Fit [] ess = ess ≡ []
GroupsMatch Fit (Single row ∷ gs) ess = TakesLines Fit (row ∷ []) (GroupsMatch Fit gs) ess
GroupsMatch Fit (Lines row rows ∷ gs) ess = TakesLines Fit (row ∷ rows) (GroupsMatch Fit gs) ess
GroupsMatch Fit (Turned row rows under ∷ gs) ess =
    TakesLines Fit (row ∷ (rows ++ under ∷ [])) (GroupsMatch Fit gs) ess
GroupsMatch Fit (Headed row next rows ∷ gs) ess = TakesLines Fit (row ∷ next ∷ rows) (GroupsMatch Fit gs) ess
GroupsMatch Fit (LeafLines row rows ∷ gs) ess =
    TakesLines Fit (row ∷ within_leaf (is_code row.following) rows)
    (TakesEach Fit (following_leaf (is_code row.following) rows) (GroupsMatch Fit gs)) ess

-- What is known of a line and of those after it.

-- whether it continues the leaf before it
abbrev pub kind_continues : Row → List Row → RowKind → Bool
kind_continues row rows BlankRow = false
kind_continues row rows (LeafRow l) = (leaf l).further row.on && (not (is_code row.on) || in_code row rows)
kind_continues row rows TextRow = not (is_headed rows) && takes_lazy row.on

pub record IsAligned (options : ParseOptions) (bytes : List ℕ) (Fit : Fits) (e : exact.Row) (row : Row)
    (rows : List Row) : Type 0 where
  pub line : List ℕ
  pub is : IsRow options bytes line row
  pub proceeds : role_continues e.role ≡ kind_continues row rows row.kind
  pub fits : Fit e row

-- and of the line after it: what it meets is what this one has left open, and it continues text where no container
-- opens on it
pub record IsBelow (row next : Row) : Type 0 where
  pub met : may_continue next.on ≡ true → next.on ≡ row.following
  pub unlazy : takes_lazy row.following ≡ false → takes_lazy next.on ≡ false
  pub text : takes_lazy row.following ≡ true → next.kind ≡ TextRow → takes_lazy next.on ≡ is_continued row next

abbrev pub FirstBelow : Row → List Row → Type 0
FirstBelow row [] = Unit {0}
FirstBelow row (next ∷ rows) = IsBelow row next

abbrev pub AreAligned : ParseOptions → List ℕ → Fits → List exact.Row → List Row → Type 0
AreAligned options bytes Fit [] [] = Unit {0}
AreAligned options bytes Fit (e ∷ es) (row ∷ rows) =
    (is : IsAligned options bytes Fit e row rows) × (below : FirstBelow row rows) × AreAligned options bytes Fit es rows
AreAligned options bytes Fit es rows = ⊥

-- Blank lines after code.

inside-false : (rows : List Row) → within_leaf false rows ≡ rows
inside-false [] = refl
inside-false (row ∷ rows) = refl

outside-false : (rows : List Row) → following_leaf false rows ≡ []
outside-false [] = refl
outside-false (row ∷ rows) = refl

inside-true : (rows : List Row) → within_leaf true rows ≡ inner row_unread rows
inside-true [] = refl
inside-true (row ∷ rows) = refl

outside-true : (rows : List Row) → following_leaf true rows ≡ outer row_unread rows
outside-true [] = refl
outside-true (row ∷ rows) = refl

none-inner : (rows : List Row) → any_framed row_unread rows ≡ false → inner row_unread rows ≡ []
none-inner [] e = refl
none-inner (row ∷ rows) e = ap (λ (x : Bool). cond x (row ∷ inner row_unread rows) []) e

none-outer : (rows : List Row) → any_framed row_unread rows ≡ false → outer row_unread rows ≡ rows
none-outer [] e = refl
none-outer (row ∷ rows) e = ap (λ (x : Bool). cond x (outer row_unread rows) (row ∷ rows)) e

framed-none : (x y : Bool) → (x || y) ≡ false → y ≡ false
framed-none true y e = cc
framed-none false y e = e

-- A line that continues a leaf.

pub code-held : (on : HeldLeaf) → is_code on ≡ true → on ≡ held_leaf.Code
code-held held_leaf.Code e = refl
code-held held_leaf.None e = cc
code-held (held_leaf.Text at) e = cc
code-held (held_leaf.LazyText at) e = cc
code-held (held_leaf.Fence marker size indent) e = cc
code-held (held_leaf.Html kind) e = cc
code-held held_leaf.Table e = cc

-- it leaves code open just if it meets code
other-code : (options : ParseOptions) (on : HeldLeaf) (r : Rest) (l : LeafName) →
    (CodeFurther ≡ further_of l → ⊥) → (leaf l).further on ≡ true →
    is_code ((leaf l).holds options on r) ≡ is_code on
other-code options on r l other further =
    left (is_code ((leaf l).holds options on r)) refl ∙ sym (met (is_code on) refl)
  where
    left : (x : Bool) → is_code ((leaf l).holds options on r) ≡ x → x ≡ false
    left false e = refl
    left true e = absurd (other (further-is l CodeFurther options on r e))

    met : (x : Bool) → is_code on ≡ x → x ≡ false
    met false e = refl
    met true e =
        absurd
        (other
        (sym (ap further_of (code-further l (ap (leaf l).further (sym (code-held on e)) ∙ further)))))

line-code : (options : ParseOptions) (on : HeldLeaf) (r : Rest) (l : LeafName) → (leaf l).further on ≡ true →
    is_code ((leaf l).holds options on r) ≡ is_code on
line-code options on r CodeFurther e = sym e
line-code options on r FenceFurther e = other-code options on r FenceFurther (λ bad. cc) e
line-code options on r HtmlFurther e = other-code options on r HtmlFurther (λ bad. cc) e
line-code options on r HeadingSetext e = other-code options on r HeadingSetext (λ bad. cc) e
line-code options on r GfmTable e = other-code options on r GfmTable (λ bad. cc) e
line-code options on r _ e = cc

further-code : (options : ParseOptions) (bytes line : List ℕ) (row : Row) (l : LeafName) →
    IsRow options bytes line row → row.kind ≡ LeafRow l → is_further row.kind row.on ≡ true →
    is_code row.following ≡ is_code row.on
further-code options bytes line row l is e further =
    ap is_code (is.following ∙ ap (line_following options row.on is.rest) e)
    ∙ line-code options row.on is.rest l (ap (λ (kind : RowKind). is_further kind row.on) (sym e) ∙ further)

-- where nothing is open on which a line may go, none goes
shut-further : (options : ParseOptions) (bytes line : List ℕ) (row next : Row) → IsRow options bytes line next →
    IsBelow row next → may_continue row.following ≡ false → is_further next.kind next.on ≡ false
shut-further options bytes line row next is below shut = go (is_further next.kind next.on) refl
  where
    go : (x : Bool) → is_further next.kind next.on ≡ x → x ≡ false
    go false e = refl
    go true e =
        let may = further-may options bytes line next is e in
        let bad : true ≡ false = sym may ∙ ap may_continue (below.met may) ∙ shut in cc

and-none : (x : Bool) → (x && false) ≡ false
and-none true = refl
and-none false = refl

-- where no text is open, only a line that continues what is open is put together with the line before it
unlazy-proceeds : (row next : Row) (rows : List Row) → IsBelow row next → takes_lazy row.following ≡ false →
    is_further next.kind next.on ≡ false → kind_continues next rows next.kind ≡ false
unlazy-proceeds row next rows below unlazy begins = go next.kind begins
  where
    go : (kind : RowKind) → is_further kind next.on ≡ false → kind_continues next rows kind ≡ false
    go BlankRow e = refl
    go (LeafRow l) e = ap (λ (x : Bool). x && (not (is_code next.on) || in_code next rows)) e
    go TextRow e =
        ap (λ (x : Bool). not (is_headed rows) && x) (below.unlazy unlazy) ∙ and-none (not (is_headed rows))

-- A line before others, of which the first are put together.

abbrev joined : exact.Row → exact.Row → List exact.Row → List (List exact.Row) → Bool → List (List exact.Row)
joined e f fs ess x = cond x ((e ∷ f ∷ fs) ∷ ess) ((e ∷ []) ∷ (f ∷ fs) ∷ ess)

-- it is alone
alone-step : (Fit : Fits) (e f : exact.Row) (fs : List exact.Row) (ess : List (List exact.Row)) (row : Row)
    (gs : List Group) (g : Bool) →
    Fit e row → g ≡ false → GroupsMatch Fit gs ((f ∷ fs) ∷ ess) →
    TakesLines Fit (row ∷ []) (GroupsMatch Fit gs) (joined e f fs ess g)
alone-step Fit e f fs ess row gs g fit alone more =
    subst (λ (x : Bool). TakesLines Fit (row ∷ []) (GroupsMatch Fit gs) (joined e f fs ess x)) (sym alone)
    ((fit, tt), more)

-- it is of a leaf of several lines, of which these are the further ones
span-step : (Fit : Fits) (e f : exact.Row) (fs : List exact.Row) (ess : List (List exact.Row)) (row next : Row)
    (rows : List Row) (More : List (List exact.Row) → Type 0) (code any : Bool) →
    Fit e row → any_framed row_unread (next ∷ rows) ≡ any →
    TakesLines Fit (next ∷ within_leaf code rows) (TakesEach Fit (following_leaf code rows) More) ((f ∷ fs) ∷ ess) →
    TakesLines Fit (row ∷ within_leaf code (next ∷ rows)) (TakesEach Fit (following_leaf code (next ∷ rows)) More)
    (joined e f fs ess (not code || any))
span-step Fit e f fs ess row next rows More false any fit some below = (
  (fit, subst (λ (l : List Row). Pairs Fit (f ∷ fs) (next ∷ l)) (inside-false rows) below.0),
  subst (λ (l : List Row). TakesEach Fit l More ess) (outside-false rows) below.1,
)
span-step Fit e f fs ess row next rows More true true fit some below =
    subst
    (λ (x : Bool).
    TakesLines Fit (row ∷ cond x (next ∷ inner row_unread rows) [])
    (TakesEach Fit (cond x (outer row_unread rows) (next ∷ rows)) More) ((e ∷ f ∷ fs) ∷ ess)) (sym some) (
      (fit, subst (λ (l : List Row). Pairs Fit (f ∷ fs) (next ∷ l)) (inside-true rows) below.0),
      subst (λ (l : List Row). TakesEach Fit l More ess) (outside-true rows) below.1,
    )
span-step Fit e f fs ess row next rows More true false fit none below =
    let last : any_framed row_unread rows ≡ false =
    framed-none (is_framed next.inside) (any_framed row_unread rows) none in
    subst
    (λ (x : Bool).
    TakesLines Fit (row ∷ cond x (next ∷ inner row_unread rows) [])
    (TakesEach Fit (cond x (outer row_unread rows) (next ∷ rows)) More) ((e ∷ []) ∷ (f ∷ fs) ∷ ess)) (sym none) (
      (fit, tt),
      (
        subst (λ (l : List Row). Pairs Fit (f ∷ fs) (next ∷ l)) (inside-true rows ∙ none-inner rows last) below.0,
        subst (λ (l : List Row). TakesEach Fit l More ess) (outside-true rows ∙ none-outer rows last) below.1,
      ),
    )

-- it is text that the next one takes as its head
head-step : (Fit : Fits) (e f : exact.Row) (fs : List exact.Row) (ess : List (List exact.Row)) (row next : Row)
    (rows : List Row) (More : List (List exact.Row) → Type 0) (code : Bool) →
    Fit e row → code ≡ false →
    TakesLines Fit (next ∷ within_leaf code rows) (TakesEach Fit (following_leaf code rows) More) ((f ∷ fs) ∷ ess) →
    TakesLines Fit (row ∷ next ∷ rows) More ((e ∷ f ∷ fs) ∷ ess)
head-step Fit e f fs ess row next rows More true fit other below = cc
head-step Fit e f fs ess row next rows More false fit other below = (
  (fit, subst (λ (l : List Row). Pairs Fit (f ∷ fs) (next ∷ l)) (inside-false rows) below.0),
  subst (λ (l : List Row). TakesEach Fit l More ess) (outside-false rows) below.1,
)

-- Text before text that is no head.

abbrev IsTextFirst : Row → List Group → Type 0
IsTextFirst next (Lines row rows ∷ gs) = row ≡ next
IsTextFirst next (Turned row rows under ∷ gs) = row ≡ next
IsTextFirst next gs = ⊥

text-first : (next : Row) (rows : List Row) → next.kind ≡ TextRow → is_headed rows ≡ false →
    IsTextFirst next (groups (next ∷ rows))
text-first next [] e none = subst (λ (kind : RowKind). IsTextFirst next (onto_groups next kind [])) (sym e) refl
text-first next (row ∷ rows) e none =
    subst (λ (kind : RowKind). IsTextFirst next (onto_groups next kind (groups (row ∷ rows)))) (sym e)
    (go (groups (row ∷ rows)) (onto-first (λ (first : Row). first ≡ row) row row.kind (groups rows) refl))
  where
    either : (x : Bool) (left right : List Group) → IsTextFirst next left → IsTextFirst next right →
        IsTextFirst next (cond x left right)
    either true left right a b = a
    either false left right a b = b

    go : (gs : List Group) → FirstIs (λ (first : Row). first ≡ row) gs → IsTextFirst next (onto_groups next TextRow gs)
    go [] first = refl
    go (Single first_row ∷ gs) first = refl
    go (Headed first_row under more ∷ gs) first = refl
    go (Lines first_row more ∷ gs) first =
        either (is_continued next first_row) (Lines next (first_row ∷ more) ∷ gs)
        (Lines next [] ∷ Lines first_row more ∷ gs) refl refl
    go (Turned first_row more under ∷ gs) first =
        either (is_continued next first_row) (Turned next (first_row ∷ more) under ∷ gs)
        (Lines next [] ∷ Turned first_row more under ∷ gs) refl refl
    go (LeafLines first_row more ∷ gs) first =
        subst
        (λ (x : Bool).
        IsTextFirst next
        (cond x (Headed next first_row more ∷ gs)
        (cond (is_further first_row.kind first_row.on && is_last more) (Turned next [] first_row ∷ gs)
        (Lines next [] ∷ LeafLines first_row more ∷ gs))))
        (sym (ap (λ (r : Row). is_further r.kind r.on && takes_head r.kind) first ∙ none))
        (either (is_further first_row.kind first_row.on && is_last more) (Turned next [] first_row ∷ gs)
        (Lines next [] ∷ LeafLines first_row more ∷ gs) refl refl)

text-step : (Fit : Fits) (e f : exact.Row) (fs : List exact.Row) (ess : List (List exact.Row)) (row next : Row)
    (g : Bool) (gs : List Group) →
    Fit e row → g ≡ is_continued row next → IsTextFirst next gs → GroupsMatch Fit gs ((f ∷ fs) ∷ ess) →
    GroupsMatch Fit (onto_groups row TextRow gs) (joined e f fs ess g)
text-step Fit e f fs ess row next g (Lines first rows ∷ gs) fit proceeds same more =
    subst (λ (x : Bool). GroupsMatch Fit (onto_groups row TextRow (Lines first rows ∷ gs)) (joined e f fs ess x))
    (sym (proceeds ∙ ap (is_continued row) (sym same))) (go (is_continued row first))
  where
    go : (x : Bool) →
        GroupsMatch Fit (cond x (Lines row (first ∷ rows) ∷ gs) (Lines row [] ∷ Lines first rows ∷ gs))
        (joined e f fs ess x)
    go true = ((fit, more.0), more.1)
    go false = ((fit, tt), more)
text-step Fit e f fs ess row next g (Turned first rows under ∷ gs) fit proceeds same more =
    subst
    (λ (x : Bool). GroupsMatch Fit (onto_groups row TextRow (Turned first rows under ∷ gs)) (joined e f fs ess x))
    (sym (proceeds ∙ ap (is_continued row) (sym same))) (go (is_continued row first))
  where
    go : (x : Bool) →
        GroupsMatch Fit
        (cond x (Turned row (first ∷ rows) under ∷ gs) (Lines row [] ∷ Turned first rows under ∷ gs))
        (joined e f fs ess x)
    go true = ((fit, more.0), more.1)
    go false = ((fit, tt), more)
text-step Fit e f fs ess row next g [] fit proceeds same more = absurd same
text-step Fit e f fs ess row next g (Single first ∷ gs) fit proceeds same more = absurd same
text-step Fit e f fs ess row next g (Headed first under rows ∷ gs) fit proceeds same more = absurd same
text-step Fit e f fs ess row next g (LeafLines first rows ∷ gs) fit proceeds same more = absurd same

-- text before a line of a leaf of several that takes no head: no line continues that
stops-further : (options : ParseOptions) (bytes : List ℕ) (Fit : Fits) (next : Row) (es : List exact.Row)
    (rows : List Row) → FirstBelow next rows → AreAligned options bytes Fit es rows →
    may_continue next.following ≡ false →
    further_rows rows ≡ []
stops-further options bytes Fit next es [] first are shut = refl
stops-further options bytes Fit next [] (row ∷ rows) first are shut = absurd are
stops-further options bytes Fit next (e ∷ es) (row ∷ rows) first are shut =
    ap (λ (x : Bool). cond x (row ∷ further_rows rows) [])
    (shut-further options bytes are.0.line next row are.0.is first shut)

record IsTextHeld (on : HeldLeaf) : Type 0 where
  at : OpenText
  is : on ≡ held_leaf.Text at

-- A line before others, of which those after it are put together as their rows are.
record LineStep : Type 1 where
  options : ParseOptions
  bytes : List ℕ
  Fit : Fits
  e : exact.Row
  f : exact.Row
  es : List exact.Row
  fs : List exact.Row
  ess : List (List exact.Row)
  row : Row
  next : Row
  rows : List Row
  are : AreAligned options bytes Fit (e ∷ f ∷ es) (row ∷ next ∷ rows)
  more : GroupsMatch Fit (groups (next ∷ rows)) ((f ∷ fs) ∷ ess)

-- the groups after it, and whether it is put together with the first of them
abbrev groups_after : LineStep → List Group
groups_after s = groups (s.next ∷ s.rows)

abbrev is_joined : LineStep → Bool
is_joined s = kind_continues s.next s.rows s.next.kind

-- the further lines of the leaf of the next line, and the groups after them
abbrev further_lines : LineStep → List Row
further_lines s = further_rows s.rows

abbrev groups_below : LineStep → List Group
groups_below s = groups (after_further s.rows)

abbrev Matches : LineStep → List Group → Bool → Type 0
Matches s here x = GroupsMatch s.Fit here (joined s.e s.f s.fs s.ess x)

-- nothing is open after the line
single-step : (s : LineStep) → s.row.following ≡ held_leaf.None →
    Matches s (Single s.row ∷ groups_after s) (is_joined s)
single-step s none =
    alone-step s.Fit s.e s.f s.fs s.ess s.row (groups_after s) (is_joined s) s.are.0.fits
    (unlazy-proceeds s.row s.next s.rows s.are.1 (ap takes_lazy none)
    (shut-further s.options s.bytes s.are.2.0.line s.row s.next s.are.2.0.is s.are.1 (ap may_continue none))) s.more

-- a line that continues a leaf meets what is open, and is put together with the line before it but for blank lines
meets-open : (s : LineStep) → is_further s.next.kind s.next.on ≡ true → s.next.on ≡ s.row.following
meets-open s y = s.are.1.met (further-may s.options s.bytes s.are.2.0.line s.next s.are.2.0.is y)

joined-further : (s : LineStep) (m : LeafName) → s.next.kind ≡ LeafRow m → is_further s.next.kind s.next.on ≡ true →
    is_joined s ≡ (not (is_code s.next.on) || any_framed row_unread (s.next ∷ further_lines s))
joined-further s m k y =
    ap (kind_continues s.next s.rows) k
    ∙ ap (λ (x : Bool). x && (not (is_code s.next.on) || in_code s.next s.rows))
    (ap (λ (kind : RowKind). is_further kind s.next.on) (sym k) ∙ y)

-- a line of a leaf of several
leaf-step : (s : LineStep) → takes_lazy s.row.following ≡ false → (y : Bool) → is_further s.next.kind s.next.on ≡ y →
    (kind : RowKind) → s.next.kind ≡ kind → Matches s (onto_span s.row (groups_after s)) (is_joined s)
leaf-step s unlazy false y kind k =
    subst (λ (l : List Group). Matches s l (is_joined s))
    (sym (span-alone s.row (groups_after s) (onto-first Begins s.next s.next.kind (groups s.rows) y)))
    (alone-step s.Fit s.e s.f s.fs s.ess s.row (groups_after s) (is_joined s) s.are.0.fits
    (unlazy-proceeds s.row s.next s.rows s.are.1 unlazy y) s.more)
leaf-step s unlazy true y BlankRow k =
    let bad : false ≡ true = ap (λ (kind : RowKind). is_further kind s.next.on) (sym k) ∙ y in absurd (cc)
leaf-step s unlazy true y TextRow k =
    let bad : false ≡ true = ap (λ (kind : RowKind). is_further kind s.next.on) (sym k) ∙ y in absurd (cc)
leaf-step s unlazy true y (LeafRow m) k =
    subst (λ (l : List Group). Matches s l (is_joined s)) (sym (ap (onto_span s.row) same ∙ ap put_together y))
    (subst (λ (x : Bool). Matches s (LeafLines s.row (s.next ∷ further_lines s) ∷ groups_below s) x)
    (sym
    (joined-further s m k y
    ∙ ap (λ (x : Bool). not x || any_framed row_unread (s.next ∷ further_lines s)) (ap is_code (meets-open s y))))
    (span-step s.Fit s.e s.f s.fs s.ess s.row s.next (further_lines s) (GroupsMatch s.Fit (groups_below s))
    (is_code s.row.following) (any_framed row_unread (s.next ∷ further_lines s)) s.are.0.fits refl
    (subst
    (λ (x : Bool).
    TakesLines s.Fit (s.next ∷ within_leaf x (further_lines s))
    (TakesEach s.Fit (following_leaf x (further_lines s)) (GroupsMatch s.Fit (groups_below s))) ((s.f ∷ s.fs) ∷ s.ess))
    (further-code s.options s.bytes s.are.2.0.line s.next m s.are.2.0.is k y ∙ ap is_code (meets-open s y))
    (subst (λ (l : List Group). GroupsMatch s.Fit l ((s.f ∷ s.fs) ∷ s.ess)) same s.more))))
  where
    put_together : Bool → List Group
    put_together x =
        cond x (LeafLines s.row (s.next ∷ further_lines s) ∷ groups_below s)
        (LeafLines s.row [] ∷ LeafLines s.next (further_lines s) ∷ groups_below s)

    same : groups_after s ≡ LeafLines s.next (further_lines s) ∷ groups_below s
    same =
        span-group s.next s.rows m k
        (further-several m s.next.on (ap (λ (kind : RowKind). is_further kind s.next.on) (sym k) ∙ y))

-- Text before a line that begins something.

abbrev WithText : LineStep → Type 0
WithText s = Matches s (onto_groups s.row TextRow (groups_after s)) (is_joined s)

text-alone : (s : LineStep) (first : List Group) → groups_after s ≡ first →
    onto_groups s.row TextRow first ≡ Lines s.row [] ∷ first → is_joined s ≡ false → WithText s
text-alone s first same onto_first none =
    subst (λ (l : List Group). Matches s l (is_joined s)) (sym (ap (onto_groups s.row TextRow) same ∙ onto_first))
    (alone-step s.Fit s.e s.f s.fs s.ess s.row first (is_joined s) s.are.0.fits none
    (subst (λ (l : List Group). GroupsMatch s.Fit l ((s.f ∷ s.fs) ∷ s.ess)) same s.more))

-- that is one line
single-kind : (s : LineStep) (kind : RowKind) → s.next.kind ≡ kind →
    onto_groups s.next kind (groups s.rows) ≡ Single s.next ∷ groups s.rows →
    kind_continues s.next s.rows kind ≡ false →
    WithText s
single-kind s kind k onto_first none =
    text-alone s (Single s.next ∷ groups s.rows)
    (ap (λ (x : RowKind). onto_groups s.next x (groups s.rows)) k ∙ onto_first) refl
    (ap (kind_continues s.next s.rows) k ∙ none)

single-leaf : (s : LineStep) (m : LeafName) → s.next.kind ≡ LeafRow m → (leaf m).ends ≡ true → WithText s
single-leaf s m k ends =
    single-kind s (LeafRow m) k (ap (λ (x : Bool). onto_leaf x s.next (groups s.rows)) ends)
    (ap (λ (x : Bool). x && (not (is_code s.next.on) || in_code s.next s.rows))
    (begins ((leaf m).further s.next.on) refl))
  where
    begins : (x : Bool) → (leaf m).further s.next.on ≡ x → x ≡ false
    begins false y = refl
    begins true y = let bad : true ≡ false = sym ends ∙ further-several m s.next.on y in cc

-- or a line of a leaf of several: it begins that, or continues the text
abbrev underlined : LineStep → Bool → Bool → List Row → List Group
underlined s y h more_rows =
    cond (y && h) (Headed s.row s.next more_rows ∷ groups_below s)
    (cond (y && is_last more_rows) (Turned s.row [] s.next ∷ groups_below s)
    (Lines s.row [] ∷ LeafLines s.next more_rows ∷ groups_below s))

text-held : (s : LineStep) → s.row.kind ≡ TextRow → IsTextHeld s.row.following
text-held s e = record {
  at = _;
  is = s.are.0.is.following ∙ ap (line_following s.options s.row.on s.are.0.is.rest) e;
}

several-leaf : (s : LineStep) → s.row.kind ≡ TextRow → (m : LeafName) → s.next.kind ≡ LeafRow m →
    (leaf m).ends ≡ false → (y : Bool) → is_further s.next.kind s.next.on ≡ y → (h : Bool) →
    takes_head s.next.kind ≡ h → WithText s
several-leaf s text m k several false y h heads =
    text-alone s (LeafLines s.next (further_lines s) ∷ groups_below s) (span-group s.next s.rows m k several)
    (ap (λ (x : Bool). underlined s x (takes_head s.next.kind) (further_lines s)) y)
    (ap (kind_continues s.next s.rows) k
    ∙ ap (λ (x : Bool). x && (not (is_code s.next.on) || in_code s.next s.rows))
    (ap (λ (kind : RowKind). is_further kind s.next.on) (sym k) ∙ y))
several-leaf s text m k several true y h heads =
    subst (λ (x : Bool). Matches s (onto_groups s.row TextRow (groups_after s)) x) (sym is_true)
    (subst (λ (l : List Group). Matches s l true) (sym (ap (onto_groups s.row TextRow) same)) (by h heads))
  where
    held : IsTextHeld s.row.following
    held = text-held s text

    on : s.next.on ≡ held_leaf.Text held.at
    on = meets-open s y ∙ held.is

    is_true : is_joined s ≡ true
    is_true =
        joined-further s m k y
        ∙ ap (λ (met : HeldLeaf). not (is_code met) || any_framed row_unread (s.next ∷ further_lines s)) on

    same : groups_after s ≡ LeafLines s.next (further_lines s) ∷ groups_below s
    same = span-group s.next s.rows m k several

    lines : GroupsMatch s.Fit (LeafLines s.next (further_lines s) ∷ groups_below s) ((s.f ∷ s.fs) ∷ s.ess)
    lines = subst (λ (l : List Group). GroupsMatch s.Fit l ((s.f ∷ s.fs) ∷ s.ess)) same s.more

    continues_text : (leaf m).further (held_leaf.Text held.at) ≡ true
    continues_text =
        ap (leaf m).further (sym on) ∙ ap (λ (kind : RowKind). is_further kind s.next.on) (sym k) ∙ y

    by : (h : Bool) → takes_head s.next.kind ≡ h →
        Matches s (onto_underline s.row s.next (further_lines s) (groups_below s)) true
    by true heads =
        subst (λ (l : List Group). Matches s l true)
        (sym (ap₂ (λ (a b : Bool). underlined s a b (further_lines s)) y heads))
        (head-step s.Fit s.e s.f s.fs s.ess s.row s.next (further_lines s) (GroupsMatch s.Fit (groups_below s))
        (is_code s.next.following) s.are.0.fits
        (further-code s.options s.bytes s.are.2.0.line s.next m s.are.2.0.is k y ∙ ap is_code on) lines)
    by false heads =
        subst (λ (l : List Group). Matches s l true)
        (sym
        (ap₂ (λ (a b : Bool). underlined s a b (further_lines s)) y heads ∙ ap (underlined s true false) none))
        ((s.are.0.fits, under.0), under.1)
      where
        none : further_lines s ≡ []
        none =
            stops-further s.options s.bytes s.Fit s.next s.es s.rows s.are.2.1 s.are.2.2
            (ap may_continue
            (s.are.2.0.is.following ∙ ap (line_following s.options s.next.on s.are.2.0.is.rest) k
            ∙ under-shuts held.at m continues_text (ap takes_head (sym k) ∙ heads) s.options s.next.on
            s.are.2.0.is.rest))

        under : TakesLines s.Fit (s.next ∷ []) (GroupsMatch s.Fit (groups_below s)) ((s.f ∷ s.fs) ∷ s.ess)
        under =
            subst
            (λ (l : List Row). GroupsMatch s.Fit (LeafLines s.next l ∷ groups_below s) ((s.f ∷ s.fs) ∷ s.ess))
            none lines

-- or more text, which may be a head
more-text : (s : LineStep) → s.row.kind ≡ TextRow → s.next.kind ≡ TextRow → (z : Bool) → is_headed s.rows ≡ z →
    WithText s
more-text s text k true headed = head s.rows refl headed
  where
    head : (l : List Row) → s.rows ≡ l → is_headed l ≡ true → WithText s
    head [] same_rows h = cc
    head (under ∷ l) same_rows h =
        text-alone s (Headed s.next under (further_rows l) ∷ groups (after_further l))
        (ap (λ (r : List Row). groups (s.next ∷ r)) same_rows ∙ head-group s.next under l k h) refl
        (ap (kind_continues s.next s.rows) k ∙ ap (λ (x : Bool). not x && takes_lazy s.next.on) headed)
more-text s text k false headed =
    text-step s.Fit s.e s.f s.fs s.ess s.row s.next (is_joined s) (groups_after s) s.are.0.fits
    (ap (kind_continues s.next s.rows) k ∙ ap (λ (x : Bool). not x && takes_lazy s.next.on) headed
    ∙ s.are.1.text (following-lazy s.options s.bytes s.are.0.line s.row s.are.0.is ∙ ap is_text text) k)
    (text-first s.next s.rows k headed) s.more

text-by : (s : LineStep) → s.row.kind ≡ TextRow → (kind : RowKind) → s.next.kind ≡ kind → WithText s
text-by s text BlankRow k = single-kind s BlankRow k refl refl
text-by s text TextRow k = more-text s text k (is_headed s.rows) refl
text-by s text (LeafRow m) k = by_ends (leaf m).ends refl
  where
    by_ends : (x : Bool) → (leaf m).ends ≡ x → WithText s
    by_ends true ends = single-leaf s m k ends
    by_ends false several =
        several-leaf s text m k several (is_further s.next.kind s.next.on) refl (takes_head s.next.kind) refl

-- A line before others is put together with them as its row is.
match-step : (s : LineStep) → Matches s (groups (s.row ∷ s.next ∷ s.rows)) (is_joined s)
match-step s = by_kind s.row.kind refl
  where
    is : IsRow s.options s.bytes s.are.0.line s.row
    is = s.are.0.is

    by_ends : (l : LeafName) → s.row.kind ≡ LeafRow l → (x : Bool) → (leaf l).ends ≡ x →
        Matches s (onto_leaf x s.row (groups_after s)) (is_joined s)
    by_ends l e true ends =
        single-step s
        (is.following ∙ ap (line_following s.options s.row.on is.rest) e
        ∙ ((laws l).shut ends s.options s.row.on).1 is.rest)
    by_ends l e false several =
        leaf-step s (following-lazy s.options s.bytes s.are.0.line s.row is ∙ ap is_text e)
        (is_further s.next.kind s.next.on) refl s.next.kind refl

    by_kind : (kind : RowKind) → s.row.kind ≡ kind →
        Matches s (onto_groups s.row s.row.kind (groups_after s)) (is_joined s)
    by_kind BlankRow e =
        subst (λ (kind : RowKind). Matches s (onto_groups s.row kind (groups_after s)) (is_joined s)) (sym e)
        (single-step s (is.following ∙ ap (line_following s.options s.row.on is.rest) e))
    by_kind (LeafRow l) e =
        subst (λ (kind : RowKind). Matches s (onto_groups s.row kind (groups_after s)) (is_joined s)) (sym e)
        (by_ends l e (leaf l).ends refl)
    by_kind TextRow e =
        subst (λ (kind : RowKind). Matches s (onto_groups s.row kind (groups_after s)) (is_joined s)) (sym e)
        (text-by s e s.next.kind refl)

-- The last line is alone.
last-match : (Fit : Fits) (e : exact.Row) (row : Row) (kind : RowKind) → Fit e row →
    GroupsMatch Fit (onto_groups row kind []) ((e ∷ []) ∷ [])
last-match Fit e row BlankRow fit = ((fit, tt), refl)
last-match Fit e row TextRow fit = ((fit, tt), refl)
last-match Fit e row (LeafRow l) fit = go (leaf l).ends
  where
    go : (x : Bool) → GroupsMatch Fit (onto_leaf x row []) ((e ∷ []) ∷ [])
    go true = ((fit, tt), refl)
    go false = ((fit, tt), refl)

-- So the lines are put together as their rows are.
pub groups-match : (options : ParseOptions) (bytes : List ℕ) (Fit : Fits) (es : List exact.Row) (rows : List Row) →
    AreAligned options bytes Fit es rows → GroupsMatch Fit (groups rows) (grouped es)
groups-match options bytes Fit [] [] are = refl
groups-match options bytes Fit [] (row ∷ rows) are = absurd are
groups-match options bytes Fit (e ∷ es) [] are = absurd are
groups-match options bytes Fit (e ∷ []) (row ∷ []) are = last-match Fit e row row.kind are.0.fits
groups-match options bytes Fit (e ∷ []) (row ∷ next ∷ rows) are = absurd are.2
groups-match options bytes Fit (e ∷ f ∷ es) (row ∷ []) are = absurd are.2
groups-match options bytes Fit (e ∷ f ∷ es) (row ∷ next ∷ rows) are =
    subst (λ (ess : List (List exact.Row)). GroupsMatch Fit (groups (row ∷ next ∷ rows)) ess)
    (sym
    (ap (onto e) (grouped-run f es)
    ∙ ap (joined e f (run es) (grouped (after_run es))) are.2.0.proceeds))
    (match-step
    (record {
      options = options;
      bytes = bytes;
      Fit = Fit;
      e = e;
      f = f;
      es = es;
      fs = run es;
      ess = grouped (after_run es);
      row = row;
      next = next;
      rows = rows;
      are = are;
      more =
          subst (λ (ess : List (List exact.Row)). GroupsMatch Fit (groups (next ∷ rows)) ess) (grouped-run f es)
          (groups-match options bytes Fit (f ∷ es) (next ∷ rows) are.2);
    }))
