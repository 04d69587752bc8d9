-- Lists around items, event by event.
use Rattle.std.proofs.Common.{◌≡◌, ℕ, suc, ◌+◌, Bool, true, false, cond, not, List, [], ◌∷◌, ◌++◌, take, drop, length}
use Rattle.std.proofs.Common.{refl, ap, ◌∙◌, append-nil, arith, ◌≤◌}
use Rattle.std.specs.Prelude.{Option, if◌then◌else◌}
use Rattle.std.specs.List.{prefix_len, All}
use Rattle.std.proofs.lemmas.List.{drop_all, take_all}
use Rattle.std.proofs.lemmas.List.Elements.{All-append, All-cons, All-head, All-nil, All-tail}
use Rattle.md_engine.specs.declared.event.Event.{Event}
use Rattle.md_engine.specs.declared.event.Kind.{Kind}
use Rattle.md_engine.specs.declared.event.Kind.TheVariants.{Enter, Exit}
use Rattle.md_engine.specs.declared.event.Point.{Point}
use Rattle.md_engine.specs.Place.{IsPlaced}
use Rattle.md_containers.specs.Listed.{Begins, Ends, Place, Stays, Turn, given, given_by, is_continued, is_item}
use Rattle.md_containers.specs.Listed.{list_begin, list_end, list_name, listed, listed_from, marker_ahead, next_item}
use Rattle.md_containers.specs.Listed.{outside, passes, place_after, place_by, turn}
use Rattle.md_events.specs.Events.Nested.{enter, exit}
use Rattle.md_events.specs.Events.Spelled.{Role, role}
use Rattle.md_events.specs.Parts.{ArePlaced}

-- Events that pass.

pub turn-stays : (kind : Kind) (x : Role) → is_item x ≡ false → turn kind x ≡ Stays
turn-stays Enter x h = rw h refl
turn-stays Exit x h = rw h refl

-- an event of no item is given as it is
pub passes-given : (bytes : List ℕ) (place : Place) (e : Event) (es : List Event) → is_item (role e.name) ≡ false →
    listed_from bytes place (e ∷ es) ≡ e ∷ listed_from bytes place es
passes-given bytes place e es h =
    ap
    (λ (t : Turn).
    given_by t place (marker_ahead bytes es) (next_item bytes es) e
    ++ listed_from bytes (place_by t place (marker_ahead bytes es) (next_item bytes es)) es)
    (turn-stays e.kind (role e.name) h)

-- and so are all before the next begin or end of an item
listed-passes : (bytes : List ℕ) (place : Place) (es : List Event) →
    listed_from bytes place es
    ≡ take (prefix_len passes es) es ++ listed_from bytes place (drop (prefix_len passes es) es)
listed-passes bytes place [] = refl
listed-passes bytes place (e ∷ es) = go (is_item (role e.name)) refl (listed-passes bytes place es)
  where
    go : (x : Bool) → is_item (role e.name) ≡ x →
        listed_from bytes place es
        ≡ take (prefix_len passes es) es ++ listed_from bytes place (drop (prefix_len passes es) es) →
        listed_from bytes place (e ∷ es)
        ≡ take (cond (not x) (1 + prefix_len passes es) 0) (e ∷ es)
        ++ listed_from bytes place (drop (cond (not x) (1 + prefix_len passes es) 0) (e ∷ es))
    go true h k = refl
    go false h k =
        passes-given bytes place e es h ∙ ap (λ (l : List Event). e ∷ l) k
        ∙ ap (λ (n : ℕ). take n (e ∷ es) ++ listed_from bytes place (drop n (e ∷ es)))
        (let one : suc (prefix_len passes es) ≡ 1 + prefix_len passes es = omega arith in one)

-- where all events pass, they stay as they are
pub listed-none : (bytes : List ℕ) (events : List Event) → prefix_len passes events ≡ length events →
    listed bytes events ≡ events
listed-none bytes events all =
    listed-passes bytes outside events
    ∙ ap (λ (n : ℕ). take n events ++ listed_from bytes outside (drop n events)) all
    ∙ ap (λ (l : List Event). take (length events) events ++ listed_from bytes outside l)
    (drop_all (length events) events (let le : length events ≤ length events = omega arith in le))
    ∙ append-nil (take (length events) events) ∙ take_all (length events) events (omega arith)

-- Points.

-- Lists begin and end where items do, so what holds of the points of events still does.
abbrev AtPoint : (Point → Type 0) → Event → Type 0
AtPoint P e = P e.point

begin-points : (P : Point → Type 0) (within : Bool) (marker : ℕ) (p : Point) → P p →
    All (AtPoint P) (list_begin within marker p)
begin-points P true marker p h = All-nil (AtPoint P)
begin-points P false marker p h = All-cons (AtPoint P) (enter (list_name marker) p) [] h (All-nil (AtPoint P))

end-points : (P : Point → Type 0) (markers : List ℕ) (next : Option ℕ) (p : Point) → P p →
    All (AtPoint P) (list_end markers next p)
end-points P [] next p h = All-nil (AtPoint P)
end-points P (marker ∷ markers) next p h = go (is_continued marker next)
  where
    go : (x : Bool) → All (AtPoint P) (if x then [] else exit (list_name marker) p ∷ [])
    go true = All-nil (AtPoint P)
    go false = All-cons (AtPoint P) (exit (list_name marker) p) [] h (All-nil (AtPoint P))

given-points : (P : Point → Type 0) (t : Turn) (place : Place) (marker : ℕ) (next : Option ℕ) (e : Event) →
    P e.point → All (AtPoint P) (given_by t place marker next e)
given-points P Begins place marker next e h =
    All-append (AtPoint P) (list_begin place.within marker e.point) (e ∷ [])
    (begin-points P place.within marker e.point h) (All-cons (AtPoint P) e [] h (All-nil (AtPoint P)))
given-points P Ends place marker next e h =
    All-cons (AtPoint P) e (list_end place.markers next e.point) h (end-points P place.markers next e.point h)
given-points P Stays place marker next e h = All-cons (AtPoint P) e [] h (All-nil (AtPoint P))

listed-points : (P : Point → Type 0) (bytes : List ℕ) (place : Place) (es : List Event) → All (AtPoint P) es →
    All (AtPoint P) (listed_from bytes place es)
listed-points P bytes place [] h = All-nil (AtPoint P)
listed-points P bytes place (e ∷ es) h =
    All-append (AtPoint P) (given bytes place e es) (listed_from bytes (place_after bytes place e es) es)
    (given-points P (turn e.kind (role e.name)) place (marker_ahead bytes es) (next_item bytes es) e
    (All-head (AtPoint P) e es h))
    (listed-points P bytes (place_after bytes place e es) es (All-tail (AtPoint P) e es h))

-- placed events stay placed
pub listed-are_placed : (text bytes : List ℕ) (events : List Event) → ArePlaced text events →
    ArePlaced text (listed bytes events)
listed-are_placed text bytes events h = listed-points (IsPlaced text) bytes outside events h
