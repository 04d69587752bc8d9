-- Events between lines, by the bytes where they are: those up to where a line ends, what is before the next line, and
-- those after.
use Rattle.std.proofs.Common.{◌≡◌, ℕ, ◌<◌, ◌≤◌, Bool, true, false, cond, List, [], ◌∷◌, ◌++◌, refl, sym, ap, ◌∙◌, subst}
use Rattle.std.proofs.Common.{arith}
use Rattle.std.specs.Prelude.{if◌then◌else◌, nat_le, nat_lt, IsTrue}
use Rattle.std.specs.List.{list_all}
use Rattle.std.proofs.lemmas.Bool.Decides.{nat_tests}
use Rattle.md_engine.specs.declared.event.Event.{Event}
use Rattle.md_engine.specs.declared.event.Kind.{Kind}
use Rattle.md_engine.specs.declared.event.Kind.TheVariants.{Enter, Exit}
use Rattle.md_engine.specs.declared.event.Point.{Point}
use Rattle.md_meaning.specs.State.{Container}
use Rattle.md_events.specs.Events.Inline.{Piece, piece_of, pieces, pieces_from}
use Rattle.md_events.specs.Events.Nested.{Forward, last_point}
use Rattle.md_events.specs.Events.Pieces.{is_valid_piece}
use Rattle.md_events.specs.Events.Places.{at_or_before, same_place}
use Rattle.md_events.specs.Substituted.{belongs, belongs_by}
use Rattle.md_events.proofs.NestedLemmas.{at_or_before-trans, forward-last}
use Rattle.proof_frame.specs.Laid.{LineBreak}
use Rattle.proof_frame.proofs.FrontFacts.{Begins, Following, Proceeds, LinePrefix}
use Rattle.proof_frame.proofs.FrontPlaces.{fronts-grow}
use Rattle.proof_frame.proofs.PiecesLemmas as tiles
use Rattle.proof_frame.proofs.PiecesLemmas.{Ends}
use Rattle.proof_frame.proofs.SpanLemmas.{order-grows}
use Rattle.proof_frame.proofs.FrontLemmas.{fronts-order}

-- Where cells are.

-- before the next break
abbrev pub Before : Point → List LineBreak → Type 0
Before p [] = Unit {0}
Before p (b ∷ bs) = p.index < b.after.index

-- breaks with nothing before lines
abbrev pub bared : List LineBreak → List LineBreak
bared [] = []
bared (b ∷ bs) = (record { after = b.after; front = [] }) ∷ bared bs

-- events that belong to the lines of a break, and more after it
abbrev pub put : LineBreak → (List Event → List Event) → List Event → List Event
put b more [] = b.front ++ more []
put b more (e ∷ es) = if belongs b.after.index e then e ∷ put b more es else b.front ++ more (e ∷ es)

-- events, with what is before each line put where they belong to no earlier line
abbrev pub placed : List LineBreak → List Event → List Event
placed [] es = es
placed (b ∷ bs) es = put b (placed bs) es

-- events none of which comes after a point
abbrev pub Upto : Point → List Event → Type 0
Upto q [] = Unit {0}
Upto q (e ∷ es) = (e.point.index ≤ q.index) × Upto q es

-- Events that begin at a point or after it. Where they begin with an end at that very byte, it is not within a tab.
abbrev pub FitsAt : Point → Kind → Point → Type 0
FitsAt p Enter q = p.index ≤ q.index
FitsAt p Exit q = (p.index ≤ q.index) × (p.index ≡ q.index → p.vs ≡ 0)

abbrev pub Fits : Point → List Event → Type 0
Fits p [] = Unit {0}
Fits p (e ∷ es) = FitsAt p e.kind e.point

-- they do so from a point before it
pub fits-from : (p q : Point) (es : List Event) → p.index ≤ q.index → (p.index ≡ q.index → q.vs ≡ 0 → p.vs ≡ 0) →
    Fits q es → Fits p es
fits-from p q [] le same fits = tt
fits-from p q (e ∷ es) le same fits = go e.kind fits
  where
    go : (k : Kind) → FitsAt q k e.point → FitsAt p k e.point
    go Enter h = omega (arith, le, h)
    go Exit h =
        let further = h.0 in
        (omega (arith, le, further), λ at. same (omega (arith, le, further, at)) (h.1 (omega (arith, le, further, at))))

-- and others may be after them
pub fits-append : (p : Point) (xs ys : List Event) → Fits p xs → Fits p ys → Fits p (xs ++ ys)
fits-append p [] ys h k = k
fits-append p (x ∷ xs) ys h k = h

-- Which belong to a line.

belongs-upto : (e : Event) (q : Point) (end : ℕ) → e.point.index ≤ q.index → q.index < end → belongs end e ≡ true
belongs-upto e q end h k = go e.kind
  where
    open_one : nat_lt e.point.index end ≡ true
    open_one = grind (arith, nat_tests)

    shut_one : nat_le e.point.index end ≡ true
    shut_one = grind (arith, nat_tests)

    go : (kind : Kind) → belongs_by end kind e.point.index ≡ true
    go Enter = open_one
    go Exit = shut_one

pub placed-here : (b : LineBreak) (bs : List LineBreak) (e : Event) (es : List Event) → belongs b.after.index e ≡ true →
    placed (b ∷ bs) (e ∷ es) ≡ e ∷ placed (b ∷ bs) es
placed-here b bs e es h =
    ap (λ (x : Bool). cond x (e ∷ put b (placed bs) es) (b.front ++ placed bs (e ∷ es))) h

-- all up to a point before the break
pub placed-upto : (bs : List LineBreak) (q : Point) (es more : List Event) → Upto q es → Before q bs →
    placed bs (es ++ more) ≡ es ++ placed bs more
placed-upto [] q es more upto before = refl
placed-upto (b ∷ bs) q [] more upto before = refl
placed-upto (b ∷ bs) q (e ∷ es) more upto before =
    placed-here b bs e (es ++ more) (belongs-upto e q b.after.index upto.0 before)
    ∙ ap (λ (l : List Event). e ∷ l) (placed-upto (b ∷ bs) q es more upto.1 before)

-- a break with nothing before its line changes nothing
later-belongs : (e : Event) (i j : ℕ) → belongs i e ≡ true → i ≤ j → belongs j e ≡ true
later-belongs e i j h le = go e.kind h
  where
    go : (kind : Kind) → belongs_by i kind e.point.index ≡ true → belongs_by j kind e.point.index ≡ true
    go Enter h = grind (arith, nat_tests)
    go Exit h = grind (arith, nat_tests)

placed-bare : (b : LineBreak) (bs : List LineBreak) (es : List Event) → b.front ≡ [] →
    ((c : LineBreak) (cs : List LineBreak) → bs ≡ c ∷ cs → b.after.index ≤ c.after.index) →
    placed (b ∷ bs) es ≡ placed bs es
placed-bare b bs [] bare le = ap (λ (l : List Event). l ++ placed bs []) bare
placed-bare b bs (e ∷ es) bare le = go (belongs b.after.index e) refl (placed-bare b bs es bare le)
  where
    on : (cs : List LineBreak) → bs ≡ cs → belongs b.after.index e ≡ true → e ∷ placed cs es ≡ placed cs (e ∷ es)
    on [] k h = refl
    on (c ∷ cs) k h =
        sym (placed-here c cs e es (later-belongs e b.after.index c.after.index h (le c cs k)))

    go : (x : Bool) → belongs b.after.index e ≡ x → placed (b ∷ bs) es ≡ placed bs es →
        cond x (e ∷ placed (b ∷ bs) es) (b.front ++ placed bs (e ∷ es)) ≡ placed bs (e ∷ es)
    go true h more = ap (λ (l : List Event). e ∷ l) more ∙ on bs refl h
    go false h more = ap (λ (l : List Event). l ++ placed bs (e ∷ es)) bare

-- At a break events that begin where the next line does belong to that line, unless nothing is between.
pub placed-break : (b : LineBreak) (bs : List LineBreak) (q : Point) (es : List Event) → Fits q es →
    b.after.index ≤ q.index →
    Before q bs → (q.index ≡ b.after.index → q.vs ≡ 0 → b.front ≡ []) →
    placed (b ∷ bs) es ≡ b.front ++ placed bs es
placed-break b bs q [] fits le before bare = refl
placed-break b bs q (e ∷ es) fits le before bare = go (belongs b.after.index e) refl
  where
    sorted : (cs : List LineBreak) → Before q cs → (c : LineBreak) (ds : List LineBreak) → cs ≡ c ∷ ds →
        b.after.index ≤ c.after.index
    sorted [] h c ds k = cc
    sorted (x ∷ xs) h c ds k =
        let lt : q.index < c.after.index = subst (Before q) k h in omega (arith, le, lt)

    none : (kind : Kind) → FitsAt q kind e.point → belongs_by b.after.index kind e.point.index ≡ true → b.front ≡ []
    none Enter h k = absurd (grind (arith, nat_tests))
    none Exit h k =
        let further = h.0 in
        let near : e.point.index ≤ b.after.index = grind (arith, nat_tests) in
        bare (omega (arith, le, further, near)) (h.1 (omega (arith, le, further, near)))

    go : (x : Bool) → belongs b.after.index e ≡ x →
        cond x (e ∷ placed (b ∷ bs) es) (b.front ++ placed bs (e ∷ es)) ≡ b.front ++ placed bs (e ∷ es)
    go true h =
        let empty = none e.kind fits h in
        ap (λ (x : Bool). cond x (e ∷ placed (b ∷ bs) es) (b.front ++ placed bs (e ∷ es))) (sym h)
        ∙ placed-bare b bs (e ∷ es) empty (sorted bs before)
        ∙ ap (λ (l : List Event). l ++ placed bs (e ∷ es)) (sym empty)
    go false h = refl

-- What is before a line.

order-whole : (p q : Point) → IsTrue (at_or_before p q) → q.vs ≡ 0 → q.index ≡ p.index → p.vs ≡ 0
order-whole p q h whole same = grind (arith, nat_tests)

-- events at one place
abbrev Flat : ℕ → List Event → Type 0
Flat i [] = Unit {0}
Flat i (e ∷ es) = (e.point.index ≡ i) × (e.point.vs ≡ 0) × Flat i es

flat-none : (bytes : List ℕ) (i : ℕ) (e : Event) (es : List Event) → e.kind ≡ Enter → Ends e.kind es →
    Flat i (e ∷ es) → list_all (is_valid_piece bytes) (pieces_from e es) ≡ true → ⊥
flat-none bytes i e [] enter ends flat are_valid = let no : Enter ≡ Exit = sym enter ∙ ends in cc
flat-none bytes i e (f ∷ es) enter ends flat are_valid =
    go e.kind f.kind enter refl (λ o k. flat-none bytes i f es o ends flat.2 k) are_valid
  where
    AreValid : List Piece → Type 0
    AreValid l = list_all (is_valid_piece bytes) l ≡ true

    go : (k l : Kind) → k ≡ Enter → f.kind ≡ l → (f.kind ≡ Enter → AreValid (pieces_from f es) → ⊥) →
        AreValid (piece_of e f k l ++ pieces_from f es) → ⊥
    go Enter Enter n o more are_valid = more o are_valid
    go Enter Exit n o more are_valid =
        let first = flat.0 in
        let second = flat.2.0 in
        let here = flat.1 in
        let there = flat.2.1 in
        let same : same_place e.point f.point ≡ true = grind (arith, nat_tests) in
        let no : false ≡ true = rw same at are_valid in
        cc
    go Exit l n o more are_valid = cc

forward-flat : (p q : Point) (es : List Event) → Forward p es → IsTrue (at_or_before (last_point p es) q) →
    q.vs ≡ 0 → q.index ≡ p.index → p.vs ≡ 0 → Flat p.index es
forward-flat p q [] f h whole same first = tt
forward-flat p q (e ∷ es) f h whole same first =
    let last = at_or_before-trans e.point (last_point e.point es) q (forward-last e.point es f.1) h in
    let from = order-grows p e.point f.0 in
    let to = order-grows e.point q last in
    let at : e.point.index ≡ p.index = omega (arith, from, to, same) in
    let end : q.index ≡ e.point.index = omega (arith, same, at) in
    let vs = order-whole e.point q last whole end in
    (at, vs, subst (λ (i : ℕ). Flat i es) at (forward-flat e.point q es f.1 h whole end vs))

-- where no byte is, nothing does
pub bare-front : (bytes : List ℕ) (opens : List Container) (p q : Point) (es : List Event) →
    LinePrefix bytes opens p q es → opens ≡ [] → p.vs ≡ 0 → q.vs ≡ 0 → q.index ≡ p.index → es ≡ []
bare-front bytes opens p q es (Following at) none first last same = refl
bare-front bytes opens p q es (Proceeds open_ones first mid last xs ys is more) none h k same =
    let span = is.common.nested.1 in
    let to = order-grows first mid (at_or_before-trans first (last_point first xs) mid
    (forward-last first xs span.0) span.1) in
    let further = fronts-grow bytes open_ones mid last ys more in
    let at : mid.index ≡ first.index = omega (arith, to, further, same) in
    let order = fronts-order bytes open_ones mid last ys more in
    let whole : mid.vs ≡ 0 = order-whole mid last order k (omega (arith, same, at)) in
    let flat = forward-flat first mid xs span.0 span.1 whole at h in
    let empty : xs ≡ [] = one first.index xs flat is.common.tiled.begins is.common.tiled.ends
    is.common.is_valid.are_valid in
    let following = bare-front bytes open_ones mid last ys more none whole k (omega (arith, same, at)) in
    ap (λ (l : List Event). l ++ ys) empty ∙ following
  where
    one : (i : ℕ) (xs : List Event) → Flat i xs → tiles.Begins xs → Ends Exit xs →
        list_all (is_valid_piece bytes) (pieces xs) ≡ true → xs ≡ []
    one i [] flat begins ends are_valid = refl
    one i (x ∷ xs) flat begins ends are_valid = absurd (flat-none bytes i x xs begins ends flat are_valid)
bare-front bytes opens p q es (Begins c below first mid last xs ys is more) none h k same = cc
