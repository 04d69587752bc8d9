-- What the leaf block that is open holds of texts, after each event: the grammar fixes it.
use Rattle.std.proofs.Common.{◌≡◌, ℕ, get_or, Bool, true, false, not, ◌&&◌, ◌||◌, ◌⊎◌, inl, inr, List, [], ◌∷◌, refl, ap, sym, ◌∙◌, subst}
use Rattle.std.specs.Prelude.{Option, Some, None}
use Rattle.std.specs.List.{list_all, list_any}
use Rattle.std.proofs.lemmas.Bool.{and_from, and_parts, both_ways, not-true, or_cases}
use Rattle.md_engine.specs.declared.event.Kind.{Kind}
use Rattle.md_engine.specs.declared.event.Kind.TheVariants.{Enter, Exit}
use Rattle.md_engine.specs.declared.event.Name.{Name}
use Rattle.md_engine.specs.declared.event.Name.TheVariants as n
use Rattle.md_events.specs.Events.Grammar.{Expression, Never, Then, after_block, blocks, following, inside, one, texts}
use Rattle.md_events.specs.Events.Grammar.{unread_text}
use Rattle.md_events.specs.Events.Spelled.{AsCell, AsHeading, AsParagraph, ContainerRole, IsCell, IsRow, LeafRole}
use Rattle.md_events.specs.Events.Spelled.{OfHeadingAtx, OfHeadingSetext, OfTable, Role, TextRole, role}
use Rattle.proof_inlines.proofs.Checks.{each-of, implied}
use Rattle.proof_inlines.proofs.GrammarWalk.{Comes, Keeps, Machine, SameOutside}
use Rattle.proof_inlines.proofs.WordLemmas.{all-comes, all-following, all_names, is_never, none-never, none_of}
use Rattle.proof_inlines.proofs.WordLemmas.{once-comes, once-following, once_of}

-- What a part is to the texts of the tree.
pub data Sort : Type 0 where
  -- the document, or a container
  Around : Sort
  HeadingLeaf : Sort
  TableLeaf : Sort
  -- the head or the body of a table
  Group : Sort
  Row : Sort
  Cell : Sort
  OtherLeaf : Sort
  ParagraphText : Sort
  HeadingText : Sort
  CellText : Sort
  Other : Sort

abbrev pub sort_of : Role → Sort
sort_of (ContainerRole shape) = Around
sort_of (LeafRole OfHeadingAtx) = HeadingLeaf
sort_of (LeafRole OfHeadingSetext) = HeadingLeaf
sort_of (LeafRole OfTable) = TableLeaf
sort_of (LeafRole kind) = OtherLeaf
sort_of (TextRole AsParagraph) = ParagraphText
sort_of (TextRole AsHeading) = HeadingText
sort_of (TextRole AsCell) = CellText
sort_of IsRow = Row
sort_of IsCell = Cell
sort_of _ = Other

abbrev pub sort : Name → Sort
sort n.GfmTableHead = Group
sort n.GfmTableBody = Group
sort name = sort_of (role name)

-- whether one may be directly in another
abbrev pub may_hold : Sort → Sort → Bool
may_hold outer Other = true
may_hold Around Around = true
may_hold Around HeadingLeaf = true
may_hold Around TableLeaf = true
may_hold Around OtherLeaf = true
may_hold Around ParagraphText = true
may_hold HeadingLeaf HeadingText = true
may_hold TableLeaf Group = true
may_hold Group Row = true
may_hold Row Cell = true
may_hold Cell CellText = true
may_hold outer inner = false

-- of which one at most is in a part
abbrev pub is_single : Sort → Bool
is_single HeadingText = true
is_single CellText = true
is_single _ = false

-- What the open leaf holds.
pub data Spot : Type 0 where
  -- no text
  Rests : Spot
  -- a heading without its text, and with it
  Untitled : Spot
  Titled : Spot
  -- a table, outside of its rows and in one
  InTable : Spot
  InRow : Spot
  -- a cell without its text, and with it
  EmptyCell : Spot
  FullCell : Spot

-- whether it is so directly in a part
abbrev pub is_at : Sort → Spot → Bool
is_at Around Rests = true
is_at OtherLeaf Rests = true
is_at ParagraphText Rests = true
is_at HeadingLeaf Untitled = true
is_at HeadingLeaf Titled = true
is_at HeadingText Untitled = true
is_at TableLeaf InTable = true
is_at Group InTable = true
is_at Row InRow = true
is_at Cell EmptyCell = true
is_at Cell FullCell = true
is_at CellText EmptyCell = true
is_at Other s = true
is_at _ _ = false

abbrev pub entered_by : Sort → Spot → Spot
entered_by HeadingLeaf s = Untitled
entered_by TableLeaf s = InTable
entered_by OtherLeaf s = Rests
entered_by Row s = InRow
entered_by Cell s = EmptyCell
entered_by _ s = s

abbrev pub exited_by : Sort → Spot → Spot
exited_by HeadingLeaf s = Rests
exited_by TableLeaf s = Rests
exited_by OtherLeaf s = Rests
exited_by HeadingText s = Titled
exited_by CellText s = FullCell
exited_by Row s = InTable
exited_by Cell s = InRow
exited_by _ s = s

-- where one may begin
abbrev pub may_enter : Sort → Spot → Bool
may_enter HeadingLeaf s = is_at Around s
may_enter TableLeaf s = is_at Around s
may_enter OtherLeaf s = is_at Around s
may_enter Row s = is_at TableLeaf s
may_enter Cell s = is_at Row s
may_enter _ s = true

abbrev pub may_step : Kind → Sort → Spot → Bool
may_step Enter sort s = may_enter sort s
may_step Exit sort s = is_at sort s

-- where no text may come any more
abbrev pub closes : Sort → Spot → Bool
closes HeadingLeaf Titled = true
closes Cell FullCell = true
closes _ _ = false

-- The grammar keeps to it.

abbrev pub holds_name : Sort → Name → Bool
holds_name outer name = may_hold outer (sort name)

abbrev pub single_name : Name → Bool
single_name name = is_single (sort name)

abbrev pub outer_sort : Option Name → Sort
outer_sort None = Around
outer_sort (Some name) = sort name

pub record Inside (outer : Sort) (x : Expression) (s : Spot) : Type 0 where
  pub at : is_at outer s ≡ true
  pub holds : all_names (holds_name outer) x ≡ true
  pub once : once_of single_name x ≡ true
  pub closed : closes outer s ≡ true → none_of single_name x ≡ true

abbrev pub spots : Machine
spots = record {
  State = Spot;
  entered = λ name s. entered_by (sort_of (role name)) s;
  exited = λ name s. exited_by (sort_of (role name)) s;
  may = λ kind name s. may_step kind (sort_of (role name)) s;
  Has = λ outer x s. Inside (outer_sort outer) x s;
}

-- by its role alone a group is like any other
abbrev plain : Sort → Sort
plain Group = Other
plain sort = sort

plain-sort : (name : Name) → sort_of (role name) ≡ plain (sort name)
plain-sort n.GfmTableHead = refl
plain-sort _ = refl

held-names : (name : Name) →
    (all_names (holds_name (sort name)) (inside unread_text name)
    && once_of single_name (inside unread_text name)) ≡ true
held-names n.GfmTableHead = refl
held-names _ = refl

abbrev same_spot : Spot → Spot → Bool
same_spot Rests Rests = true
same_spot Untitled Untitled = true
same_spot Titled Titled = true
same_spot InTable InTable = true
same_spot InRow InRow = true
same_spot EmptyCell EmptyCell = true
same_spot FullCell FullCell = true
same_spot _ _ = false

spot-same : (s t : Spot) → same_spot s t ≡ true → s ≡ t
spot-same Rests Rests h = refl
spot-same Untitled Untitled h = refl
spot-same Titled Titled h = refl
spot-same InTable InTable h = refl
spot-same InRow InRow h = refl
spot-same EmptyCell EmptyCell h = refl
spot-same FullCell FullCell h = refl
spot-same _ _ h = cc

-- a step into a part and out of it
abbrev within : Sort → Spot → Spot
within inner s = entered_by (plain inner) s

abbrev past : Sort → Spot → Spot
past inner s = exited_by (plain inner) (within inner s)

abbrev allows : Sort → Sort → Spot → Bool
allows outer inner s = may_hold outer inner && is_at outer s && not (is_single inner && closes outer s)

abbrev is_right : Sort → Sort → Spot → Bool
is_right outer inner s =
    may_enter (plain inner) s && is_at inner (within inner s) && not (closes inner (within inner s))
    && is_at outer (past inner s) && same_spot (exited_by (plain outer) (past inner s)) (exited_by (plain outer) s)
    && (not (closes outer (past inner s)) || is_single inner || closes outer s)

-- Checks of each sort and each spot.

sorts : List Sort
sorts =
    Around ∷ HeadingLeaf ∷ TableLeaf ∷ Group ∷ Row ∷ Cell ∷ OtherLeaf ∷ ParagraphText ∷ HeadingText ∷ CellText ∷ Other
    ∷ []

abbrev number : Sort → ℕ
number Around = 0
number HeadingLeaf = 1
number TableLeaf = 2
number Group = 3
number Row = 4
number Cell = 5
number OtherLeaf = 6
number ParagraphText = 7
number HeadingText = 8
number CellText = 9
number Other = 10

sort-at : (a : Sort) → get_or sorts (number a) Around ≡ a
unfolding sorts
sort-at Around = refl
sort-at _ = refl

all_spots : List Spot
all_spots = Rests ∷ Untitled ∷ Titled ∷ InTable ∷ InRow ∷ EmptyCell ∷ FullCell ∷ []

abbrev spot_number : Spot → ℕ
spot_number Rests = 0
spot_number Untitled = 1
spot_number Titled = 2
spot_number InTable = 3
spot_number InRow = 4
spot_number EmptyCell = 5
spot_number FullCell = 6

spot-at : (s : Spot) → get_or all_spots (spot_number s) Rests ≡ s
unfolding all_spots
spot-at Rests = refl
spot-at _ = refl

each-sort : (test : Sort → Bool) → list_all test sorts ≡ true → (a : Sort) → test a ≡ true
unfolding sorts
each-sort test h a =
    subst (λ (b : Sort). test b ≡ true) (sort-at a)
    (each-of test sorts Around (number a) (and_parts (test Around) _ h).0 h)

each-spot : (test : Spot → Bool) → list_all test all_spots ≡ true → (s : Spot) → test s ≡ true
unfolding all_spots
each-spot test h s =
    subst (λ (t : Spot). test t ≡ true) (spot-at s)
    (each-of test all_spots Rests (spot_number s) (and_parts (test Rests) _ h).0 h)

right-all :
    list_all (λ (a : Sort).
    list_all (λ (b : Sort). list_all (λ (s : Spot). not (allows a b s) || is_right a b s) all_spots) sorts) sorts ≡ true
unfolding sorts all_spots
right-all = refl

all-right : (outer inner : Sort) (s : Spot) → (not (allows outer inner s) || is_right outer inner s) ≡ true
all-right outer inner s =
    each-spot (λ (s : Spot). not (allows outer inner s) || is_right outer inner s)
    (each-sort (λ (b : Sort). list_all (λ (s : Spot). not (allows outer b s) || is_right outer b s) all_spots)
    (each-sort (λ (a : Sort).
    list_all (λ (b : Sort). list_all (λ (s : Spot). not (allows a b s) || is_right a b s) all_spots) sorts) right-all
    outer) inner) s

exit-all : list_all (λ (a : Sort). list_all (λ (s : Spot). not (is_at a s) || is_at (plain a) s) all_spots) sorts ≡ true
unfolding sorts all_spots
exit-all = refl

exit-at : (inner : Sort) (s : Spot) → (not (is_at inner s) || is_at (plain inner) s) ≡ true
exit-at inner s =
    each-spot (λ (s : Spot). not (is_at inner s) || is_at (plain inner) s)
    (each-sort (λ (a : Sort). list_all (λ (s : Spot). not (is_at a s) || is_at (plain a) s) all_spots) exit-all inner) s

record IsRight (outer inner : Sort) (s : Spot) : Type 0 where
  may : may_enter (plain inner) s ≡ true
  inner_at : is_at inner (within inner s) ≡ true
  open_in : closes inner (within inner s) ≡ false
  at : is_at outer (past inner s) ≡ true
  same : exited_by (plain outer) (past inner s) ≡ exited_by (plain outer) s
  closed : closes outer (past inner s) ≡ true → (is_single inner ≡ true) ⊎ (closes outer s ≡ true)

right-parts : (outer inner : Sort) (s : Spot) → is_right outer inner s ≡ true → IsRight outer inner s
right-parts outer inner s h =
    let may : Bool = may_enter (plain inner) s in
    let inside : Bool = is_at inner (within inner s) in
    let opens : Bool = not (closes inner (within inner s)) in
    let at : Bool = is_at outer (past inner s) in
    let same : Bool = same_spot (exited_by (plain outer) (past inner s)) (exited_by (plain outer) s) in
    let closed : Bool = not (closes outer (past inner s)) || is_single inner || closes outer s in
    let a = and_parts (may && inside && opens && at && same) closed h in
    let b = and_parts (may && inside && opens && at) same a.0 in
    let c = and_parts (may && inside && opens) at b.0 in
    let d = and_parts (may && inside) opens c.0 in
    let e = and_parts may inside d.0 in
    record {
      may = e.0;
      inner_at = e.1;
      open_in = not-true (closes inner (within inner s)) d.1;
      at = c.1;
      same = spot-same (exited_by (plain outer) (past inner s)) (exited_by (plain outer) s) b.1;
      closed = λ k. closing (closes outer (past inner s)) (is_single inner) (closes outer s) a.1 k;
    }
  where
    closing : (a b c : Bool) → (not a || b || c) ≡ true → a ≡ true → (b ≡ true) ⊎ (c ≡ true)
    closing true true c h k = inl refl
    closing true false c h k = inr h
    closing false b c h k = cc

right : (outer inner : Sort) (s : Spot) → may_hold outer inner ≡ true → is_at outer s ≡ true →
    (is_single inner && closes outer s) ≡ false → IsRight outer inner s
right outer inner s holds at apart =
    right-parts outer inner s
    (implied (allows outer inner s) (is_right outer inner s) (all-right outer inner s)
    (and_from (may_hold outer inner && is_at outer s) (not (is_single inner && closes outer s))
    (and_from (may_hold outer inner) (is_at outer s) holds at) (ap not apart)))

-- The machine.

never-is_never : (x : Expression) → x ≡ Never → is_never x ≡ true
never-is_never x e = ap is_never e

-- where a text has come, none comes any more
apart : (outer : Sort) (name : Name) (x : Expression) (s : Spot) → Inside outer x s →
    is_never (following name x) ≡ false → (single_name name && closes outer s) ≡ false
apart outer name x s is live = go (single_name name) refl (closes outer s) refl
  where
    go : (a : Bool) → single_name name ≡ a → (b : Bool) → closes outer s ≡ b → (a && b) ≡ false
    go false e b f = refl
    go true e false f = refl
    go true e true f =
        let gone : is_never (following name x) ≡ true = never-is_never (following name x)
        (none-never single_name name x (is.closed f) e) in
        cc

comes-right : (outer : Sort) (name : Name) (x : Expression) (s : Spot) → Inside outer x s →
    is_never (following name x) ≡ false → IsRight outer (sort name) s
comes-right outer name x s is live =
    right outer (sort name) s (all-comes (holds_name outer) name x is.holds live) is.at (apart outer name x s is live)

inner-inside : (outer : Sort) (name : Name) (s : Spot) → IsRight outer (sort name) s →
    Inside (sort name) (inside unread_text name) (entered_by (sort_of (role name)) s)
inner-inside outer name s r =
    let two = and_parts (all_names (holds_name (sort name)) (inside unread_text name))
    (once_of single_name (inside unread_text name)) (held-names name) in
    subst (λ (p : Sort). Inside (sort name) (inside unread_text name) (entered_by p s)) (sym (plain-sort name))
    (record {
      at = r.inner_at;
      holds = two.0;
      once = two.1;
      closed = λ h. absurd (both_ways (closes (sort name) (within (sort name) s)) r.open_in h);
    })

outer-inside : (outer : Sort) (name : Name) (x : Expression) (s : Spot) → Inside outer x s →
    IsRight outer (sort name) s → Inside outer (following name x) (past (sort name) s)
outer-inside outer name x s is r = record {
  at = r.at;
  holds = all-following (holds_name outer) name x is.holds;
  once = once-following single_name name x is.once;
  closed = λ h. closing (r.closed h);
}
  where
    closing : (is_single (sort name) ≡ true) ⊎ (closes outer s ≡ true) →
        none_of single_name (following name x) ≡ true
    closing (inl e) = once-comes single_name name x is.once e
    closing (inr e) = all-following (λ (m : Name). not (single_name m)) name x (is.closed e)

abbrev out : Name → Spot → Spot
out name s = exited_by (sort_of (role name)) (entered_by (sort_of (role name)) s)

past-out : (name : Name) (s : Spot) → past (sort name) s ≡ out name s
past-out name s = ap (λ (p : Sort). exited_by p (entered_by p s)) (sym (plain-sort name))

outside-same : (outer : Option Name) (name : Name) (s : Spot) → IsRight (outer_sort outer) (sort name) s →
    SameOutside spots outer (out name s) s
outside-same None name s r = tt
outside-same (Some around) name s r =
    ap (λ (t : Spot). exited_by (sort_of (role around)) t) (sym (past-out name s))
    ∙ ap (λ (p : Sort). exited_by p (past (sort name) s)) (plain-sort around)
    ∙ r.same
    ∙ ap (λ (p : Sort). exited_by p s) (sym (plain-sort around))

spots-come : (outer : Option Name) (name : Name) (x : Expression) (s : Spot) → Inside (outer_sort outer) x s →
    is_never (following name x) ≡ false → Comes spots outer name x s
spots-come outer name x s is live =
    let r : IsRight (outer_sort outer) (sort name) s = comes-right (outer_sort outer) name x s is live in
    record {
      may = ap (λ (p : Sort). may_enter p s) (plain-sort name) ∙ r.may;
      inner = inner-inside (outer_sort outer) name s r;
      after =
          subst (Inside (outer_sort outer) (following name x)) (past-out name s)
          (outer-inside (outer_sort outer) name x s is r);
      outside = outside-same outer name s r;
    }

spots-end : (name : Name) (x : Expression) (s : Spot) → Inside (sort name) x s →
    is_at (sort_of (role name)) s ≡ true
spots-end name x s is =
    ap (λ (p : Sort). is_at p s) (plain-sort name)
    ∙ implied (is_at (sort name) s) (is_at (plain (sort name)) s) (exit-at (sort name) s) is.at

pub spots-keep : Keeps spots
spots-keep = record { comes = spots-come; ends = spots-end }

-- a text begins where no leaf is open
top-inside : (x : Expression) →
    (all_names (holds_name Around) x && once_of single_name x) ≡ true → Inside Around x Rests
top-inside x h =
    let two = and_parts (all_names (holds_name Around) x) (once_of single_name x) h in
    record { at = refl; holds = two.0; once = two.1; closed = λ h. cc }

pub texts-inside : (test : Expression → Bool) → list_any test texts ≡ true →
    (x : Expression) × (test x ≡ true) × Inside Around x Rests
texts-inside test h = go (or_cases (test blocks) _ h)
  where
    bom : Expression
    bom = Then (one n.ByteOrderMark) blocks

    front : Expression
    front = Then (one n.Frontmatter) after_block

    both : Expression
    both = Then (one n.ByteOrderMark) (Then (one n.Frontmatter) after_block)

    last : (test both ≡ true) ⊎ (false ≡ true) → (x : Expression) × (test x ≡ true) × Inside Around x Rests
    last (inl e) = (both, e, top-inside both refl)
    last (inr e) = cc

    third : (test front ≡ true) ⊎ ((test both || false) ≡ true) →
        (x : Expression) × (test x ≡ true) × Inside Around x Rests
    third (inl e) = (front, e, top-inside front refl)
    third (inr e) = last (or_cases (test both) false e)

    second : (test bom ≡ true) ⊎ ((test front || (test both || false)) ≡ true) →
        (x : Expression) × (test x ≡ true) × Inside Around x Rests
    second (inl e) = (bom, e, top-inside bom refl)
    second (inr e) = third (or_cases (test front) (test both || false) e)

    go : (test blocks ≡ true) ⊎ ((test bom || (test front || (test both || false))) ≡ true) →
        (x : Expression) × (test x ≡ true) × Inside Around x Rests
    go (inl e) = (blocks, e, top-inside blocks refl)
    go (inr e) = second (or_cases (test bom) (test front || (test both || false)) e)
