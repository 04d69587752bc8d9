-- Between the pieces of a text its events stay where they are: each but a piece's end is at the point of the one before.
use Rattle.std.proofs.Common.{◌≡◌, ℕ, ◌<◌, ◌≤◌, Bool, true, false, ◌&&◌, ◌||◌, List, [], ◌∷◌, ◌++◌, length, drop}
use Rattle.std.proofs.Common.{refl, ap, sym, ◌∙◌, arith, drop_of_length-le, le_of_eq, ◌⊎◌, inl, inr}
use Rattle.std.specs.Prelude.{◌==◌}
use Rattle.std.proofs.lemmas.Bool.{and_parts, cases_lt}
use Rattle.std.proofs.lemmas.Bool.Decides.{nat_tests}
use Rattle.md_engine.specs.declared.event.Event.{Event}
use Rattle.md_engine.specs.declared.event.Kind.{Kind}
use Rattle.md_engine.specs.declared.event.Kind.TheVariants.{Enter, Exit}
use Rattle.md_engine.specs.declared.event.Point.{Point}
use Rattle.md_meaning.specs.Texts.{first_byte}
use Rattle.md_events.specs.Events.Inline.{Covers, piece_of, pieces, pieces_from}
use Rattle.md_events.specs.Events.Nested.{Forward, last_point}
use Rattle.md_events.specs.Events.Places.{are_placed, at_or_before, first_point, is_placed, same_place}
use Rattle.md_events.specs.Events.Tiles.{end_point}
use Rattle.md_events.proofs.NestedLemmas.{at_or_before-refl, at_or_before-trans}
use Rattle.md_events.proofs.PlacesLemmas.{Placed, placed-facts}

-- whether two events that follow one another are a piece
abbrev pub is_pair : Kind → Kind → Bool
is_pair Enter Exit = true
is_pair kind other = false

-- after an event of a kind at a point
abbrev pub Near : Point → Kind → List Event → Type 0
Near p kind [] = Unit {0}
Near p kind (e ∷ es) = (is_pair kind e.kind ≡ false → same_place p e.point ≡ true) × Near e.point e.kind es

squeeze-first : (p q r : Point) → at_or_before p q ≡ true → at_or_before q r ≡ true → same_place p r ≡ true →
    same_place p q ≡ true
squeeze-first p q r h k e = grind (arith, nat_tests)

squeeze-last : (p q r : Point) → at_or_before p q ≡ true → at_or_before q r ≡ true → same_place p r ≡ true →
    same_place q r ≡ true
squeeze-last p q r h k e = grind (arith, nat_tests)

-- events that are covered from a point begin there
begins-there : (p : Point) (e : Event) (es : List Event) (to : Point) → at_or_before p e.point ≡ true →
    Forward e.point es → Covers p (pieces_from e es) to → at_or_before (last_point e.point es) to ≡ true →
    same_place p e.point ≡ true
begins-there p e [] to before forward covers ends = squeeze-first p e.point to before ends covers
begins-there p e (f ∷ es) to before forward covers ends =
    go e.kind f.kind covers
    (λ covers.
    begins-there p f es to (at_or_before-trans p e.point f.point before forward.0) forward.1 covers ends)
  where
    go : (kind other : Kind) → Covers p (piece_of e f kind other ++ pieces_from f es) to →
        (Covers p (pieces_from f es) to → same_place p f.point ≡ true) → same_place p e.point ≡ true
    go Enter Exit covers next = covers.0
    go Enter Enter covers next = squeeze-first p e.point f.point before forward.0 (next covers)
    go Exit other covers next = squeeze-first p e.point f.point before forward.0 (next covers)

near-from : (p : Point) (e : Event) (es : List Event) (to : Point) → at_or_before p e.point ≡ true →
    Forward e.point es → Covers p (pieces_from e es) to → at_or_before (last_point e.point es) to ≡ true →
    Near e.point e.kind es
near-from p e [] to before forward covers ends = tt
near-from p e (f ∷ es) to before forward covers ends =
    go e.kind f.kind covers
    (λ covers. near-from f.point f es to (at_or_before-refl f.point) forward.1 covers ends)
    (λ covers. near-from p f es to (at_or_before-trans p e.point f.point before forward.0) forward.1 covers ends)
    (λ covers.
    begins-there p f es to (at_or_before-trans p e.point f.point before forward.0) forward.1 covers ends)
  where
    go : (kind other : Kind) → Covers p (piece_of e f kind other ++ pieces_from f es) to →
        (Covers f.point (pieces_from f es) to → Near f.point f.kind es) →
        (Covers p (pieces_from f es) to → Near f.point f.kind es) →
        (Covers p (pieces_from f es) to → same_place p f.point ≡ true) →
        (is_pair kind other ≡ false → same_place e.point f.point ≡ true) × Near f.point f.kind es
    go Enter Exit covers after on there = (λ h. cc, after covers.1)
    go Enter Enter covers after on there =
        (λ h. squeeze-last p e.point f.point before forward.0 (there covers), on covers)
    go Exit other covers after on there =
        (λ h. squeeze-last p e.point f.point before forward.0 (there covers), on covers)

-- a point of the text is not after its end
placed-before : (bytes : List ℕ) (p : Point) → is_placed bytes p ≡ true → at_or_before p (end_point bytes) ≡ true
placed-before bytes p h = go (placed-facts bytes p h)
  where
    last : p.index ≡ length bytes → p.vs ≡ 0 → at_or_before p (end_point bytes) ≡ true
    last e v = grind (arith, nat_tests)

    inner : p.index < length bytes → at_or_before p (end_point bytes) ≡ true
    inner lt = grind (arith, nat_tests)

    whole : (vs : Bool) → (p.vs == 0) ≡ vs → (vs || false) ≡ true → p.vs ≡ 0
    whole true e k = grind (arith, nat_tests)
    whole false e k = cc

    tab : (more : Bool) → p.index ≡ length bytes →
        ((p.vs == 0) || ((first_byte (drop p.index bytes) == 9) && more)) ≡ true → p.vs ≡ 0
    tab more e k =
        let none : drop p.index bytes ≡ [] = drop_of_length-le bytes {i = p.index} (le_of_eq (sym e)) in
        whole (p.vs == 0) refl
        (sym (ap (λ (l : List ℕ). (p.vs == 0) || ((first_byte l == 9) && more)) none) ∙ k)

    go : Placed bytes p → at_or_before p (end_point bytes) ≡ true
    go placed = cases (cases_lt p.index (length bytes))
      where
        cases : (p.index < length bytes) ⊎ (length bytes ≤ p.index) → at_or_before p (end_point bytes) ≡ true
        cases (inl lt) = inner lt
        cases (inr le) =
            let e : p.index ≡ length bytes = let at = placed.index in omega (arith, at, le) in
            last e (tab _ e placed.within)

last-before : (bytes : List ℕ) (e : Event) (es : List Event) → are_placed bytes (e ∷ es) ≡ true →
    at_or_before (last_point e.point es) (end_point bytes) ≡ true
last-before bytes e [] h =
    placed-before bytes e.point (and_parts (is_placed bytes e.point) true h).0
last-before bytes e (f ∷ es) h =
    last-before bytes f es (and_parts (is_placed bytes e.point) (are_placed bytes (f ∷ es)) h).1

-- the events of a text, from its begin
pub near : (bytes : List ℕ) (events : List Event) → Forward first_point events → are_placed bytes events ≡ true →
    Covers first_point (pieces events) (end_point bytes) → Near first_point Exit events
near bytes [] forward placed covers = tt
near bytes (e ∷ es) forward placed covers = (
  λ h.
      begins-there first_point e es (end_point bytes) forward.0 forward.1 covers (last-before bytes e es placed),
  near-from first_point e es (end_point bytes) forward.0 forward.1 covers (last-before bytes e es placed),
)
