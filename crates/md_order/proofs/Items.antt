-- An event of an item, where one is outside of headings.
use Rattle.std.proofs.Common.{◌≡◌, ℕ, Bool, true, false, cond, List, [], ◌∷◌, ◌++◌, refl, ap, sym, ◌∙◌}
use Rattle.std.specs.Prelude.{Option}
use Rattle.md_engine.specs.declared.event.Event.{Event}
use Rattle.md_containers.specs.Listed.{Begins, Ends, Place as ListPlace, Stays, Turn, given, given_by, is_continued}
use Rattle.md_containers.specs.Listed.{is_item, list_begin, list_end, list_name, listed_from, marker_ahead, next_item}
use Rattle.md_containers.specs.Listed.{place_after, turn}
use Rattle.md_events.specs.Events.Nested.{enter, exit}
use Rattle.md_events.specs.Events.Spelled.{role}
use Rattle.md_order.specs.declared.wanted.Wanted.{Wanted}
use Rattle.md_order.specs.InOrder.{set_if}
use Rattle.md_order.specs.Left.{Situation, left_in}
use Rattle.md_order.proofs.Names.{item-bare, list-bare}
use Rattle.md_order.proofs.Passed.{Passes, bare-passes, after_items, items-past}

abbrev pub AllPass : Wanted → List Event → Type 0
AllPass w [] = Unit {0}
AllPass w (e ∷ es) = Passes w e × AllPass w es

pub all-past : (w : Wanted) (on : Bool) (xs ys : List Event) → AllPass w xs →
    after_items w on (xs ++ ys) ≡ xs ++ after_items w on ys
all-past w on [] ys h = refl
all-past w on (e ∷ xs) ys h =
    items-past w on e (xs ++ ys) h.0 ∙ ap (λ (l : List Event). e ∷ l) (all-past w on xs ys h.1)

-- What is given for an item passes the other resolvers.
pub given-pass : (w : Wanted) (bytes : List ℕ) (place : ListPlace) (e : Event) (es : List Event) →
    is_item (role e.name) ≡ true → AllPass w (given bytes place e es)
given-pass w bytes place e es h = go (turn e.kind (role e.name))
  where
    itself : Passes w e
    itself = bare-passes w e (item-bare e.name h)

    begun : (within : Bool) → AllPass w (list_begin within (marker_ahead bytes es) e.point ++ e ∷ [])
    begun true = (itself, tt)
    begun false = (
      bare-passes w (enter (list_name (marker_ahead bytes es)) e.point) (list-bare (marker_ahead bytes es)),
      (itself, tt),
    )

    closed : (proceeds : Bool) (marker : ℕ) → AllPass w (cond proceeds [] (exit (list_name marker) e.point ∷ []))
    closed true marker = tt
    closed false marker = (bare-passes w (exit (list_name marker) e.point) (list-bare marker), tt)

    ended : (markers : List ℕ) (next : Option ℕ) → AllPass w (list_end markers next e.point)
    ended [] next = tt
    ended (marker ∷ markers) next = closed (is_continued marker next) marker

    go : (t : Turn) → AllPass w (given_by t place (marker_ahead bytes es) (next_item bytes es) e)
    go Begins = begun place.within
    go Ends = (itself, ended place.markers (next_item bytes es))
    go Stays = (itself, tt)

pub item-step : (w : Wanted) (bytes : List ℕ) (at : Situation) (e : Event) (es : List Event) → w.items ≡ true →
    is_item (role e.name) ≡ true →
    left_in w bytes at (e ∷ es)
    ≡ given bytes at.items e es ++ left_in w bytes (record at { items = place_after bytes at.items e es }) es
item-step w bytes at e es on h =
    ap (λ (x : Bool). after_items w at.on (set_if x (listed_from bytes at.items) (e ∷ es))) on
    ∙ all-past w at.on (given bytes at.items e es) (listed_from bytes there es) (given-pass w bytes at.items e es h)
    ∙ ap (λ (l : List Event). given bytes at.items e es ++ l)
    (ap (λ (x : Bool). after_items w at.on (set_if x (listed_from bytes there) es)) (sym on))
  where
    there : ListPlace
    there = place_after bytes at.items e es
