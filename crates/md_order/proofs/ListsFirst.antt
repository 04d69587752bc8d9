-- Lists may be put around items first of all, or after headings and tables.
--
-- The proof goes over the events a segment at a time: an event of an item, of a paragraph or an underline, or of no
-- block that is set, or a whole ATX heading or table. `md_order` says what is given for a segment, and that is the
-- same with lists as without. What is given for a segment of no item stays as it is where lists are put around items.
-- An event of an item sees the same ahead of it with headings and tables set as without.
use Rattle.std.proofs.Common.{◌≡◌, inr, ℕ, zero, suc, Bool, true, false, List, [], ◌∷◌, ◌++◌, take, drop, refl}
use Rattle.std.proofs.Common.{ap, sym, ◌∙◌, subst}
use Rattle.std.specs.Prelude.{Option}
use Rattle.md_engine.specs.declared.event.Event.{Event}
use Rattle.md_containers.specs.Listed.{Place as ListPlace, given, given_by as given_item, listed, listed_from}
use Rattle.md_containers.specs.Listed.{marker_ahead, next_item, outside, place_after, place_by, turn as turn_item}
use Rattle.md_leaves.specs.HeadingText.{begins, headings_resolved, is_heading}
use Rattle.md_leaves.specs.Turned.{given_by, is_turned, on_by, passes as is_unturned, turn, turned}
use Rattle.md_events.specs.Events.Spelled.{role}
use Rattle.md_tables.specs.Tabled.{begins_table, bound_of, tabled}
use Rattle.md_order.specs.Alone.{HoldNoBlock, Nothing}
use Rattle.md_order.specs.Left.{MayStay, Situation, heading_len, is_passed, left_in, table_len}
use Rattle.md_order.proofs.HeadStep.{heading-step}
use Rattle.md_order.proofs.Items.{item-step}
use Rattle.md_order.proofs.Names.{item-bare}
use Rattle.md_order.proofs.Passed.{bare-passes, items-past, passed-one}
use Rattle.md_order.proofs.SetextStep.{setext-step}
use Rattle.md_order.proofs.Stay.{stay-drop}
use Rattle.md_order.proofs.TableStep.{table-step}
use Rattle.md_order.proofs.Plain.{ArePlain, heading-plain, of_item, plain-past, table-plain, turn-plain}
use Rattle.md_order.proofs.Plain.{with_items}
use Rattle.md_order.proofs.Ahead.{SameAhead, leaves_set, same-ahead}
use Rattle.md_order.proofs.Awaited.{Awaits, IsFree, none-open, passed-awaits, turn-awaits}

-- What is given for the events that are left, with lists or without, and that the first is the second with lists.

abbrev at : ListPlace → Bool → Situation
at place on = record { items = place; on = on }

abbrev left : Bool → List ℕ → Situation → List Event → List Event
left i bytes s es = left_in (with_items i) bytes s es

abbrev Agree : List ℕ → Situation → List Event → Type 0
Agree bytes s es = left true bytes s es ≡ listed_from bytes s.items (left false bytes s es)

-- It is so if both give the same events of no item first, and it is so for the rest.
segment : (bytes : List ℕ) (place : ListPlace) (o r : Bool) (es rest front : List Event) → ArePlain front →
    ((i : Bool) → left i bytes (at place o) es ≡ front ++ left i bytes (at place r) rest) →
    Agree bytes (at place r) rest → Agree bytes (at place o) es
segment bytes place o r es rest front plain law more =
    law true ∙ ap (λ (l : List Event). front ++ l) more
    ∙ sym (plain-past bytes place front (left false bytes (at place r) rest) plain)
    ∙ ap (listed_from bytes place) (sym (law false))

-- An event of an item.
item-agrees : (bytes : List ℕ) (place : ListPlace) (e : Event) (es : List Event) → of_item e ≡ true →
    Agree bytes (at (place_after bytes place e es) false) es → Agree bytes (at place false) (e ∷ es)
item-agrees bytes place e es item more =
    item-step (with_items true) bytes (at place false) e es refl item
    ∙ ap (λ (l : List Event). given bytes place e es ++ l) more
    ∙ sym (ap (λ (m : ℕ). by m (next_item bytes set)) same.marker ∙ ap (by (marker_ahead bytes es)) same.next)
    ∙ ap (listed_from bytes place)
    (sym (items-past (with_items false) false e es (bare-passes (with_items false) e (item-bare e.name item))))
  where
    set : List Event
    set = leaves_set es

    same : SameAhead bytes set es
    same = same-ahead bytes es

    by : ℕ → Option ℕ → List Event
    by marker next =
        let t = turn_item e.kind (role e.name) in
        given_item t place marker next e ++ listed_from bytes (place_by t place marker next) set

-- It is so where leaf blocks hold no block and an open setext heading has its underline.
abbrev IsFirst : List ℕ → List Event → Type 0
IsFirst bytes es =
    (place : ListPlace) (on : Bool) → ((i : Bool) → MayStay (with_items i) es) → Awaits on es →
    Agree bytes (at place on) es

event-first : (bytes : List ℕ) (e : Event) (es : List Event) → ((k : ℕ) → IsFirst bytes (drop k es)) →
    IsFirst bytes (e ∷ es)
event-first bytes e es first place on stay awaits =
    go (of_item e) refl (begins is_heading e) refl (is_unturned e) refl (begins_table (bound_of e)) refl
  where
    next : (i : Bool) → MayStay (with_items i) es
    next i = stay-drop (with_items i) (e ∷ es) (stay i) 1

    -- no setext heading is open there
    none : (IsFree e → ⊥) → Agree bytes (at place false) (e ∷ es) → Agree bytes (at place on) (e ∷ es)
    none other agree =
        subst (λ (o : Bool). Agree bytes (at place o) (e ∷ es)) (sym (none-open on e es awaits other)) agree

    at_heading : begins is_heading e ≡ true → Agree bytes (at place false) (e ∷ es)
    at_heading is =
        let n : ℕ = heading_len es in
        segment bytes place false false (e ∷ es) (drop n es) (headings_resolved (take (suc n) (e ∷ es)))
        (heading-plain e es is (stay true))
        (λ i. heading-step (with_items i) bytes (at place false) e es refl is (stay i))
        (first n place false (λ i. stay-drop (with_items i) es (next i) n) tt)

    at_text : of_item e ≡ false → is_unturned e ≡ false → Agree bytes (at place on) (e ∷ es)
    at_text item is =
        let begun : Bool = is_turned es in
        segment bytes place on (on_by (turn e) on begun) (e ∷ es) es (given_by (turn e) on begun e)
        (turn-plain (turn e) on begun e item)
        (λ i. setext-step (with_items i) bytes (at place on) e es refl is (stay i))
        (first 0 place (on_by (turn e) on begun) next (turn-awaits on e es (stay true) awaits))

    at_table : begins_table (bound_of e) ≡ true → Agree bytes (at place false) (e ∷ es)
    at_table is =
        let n : ℕ = table_len es in
        segment bytes place false false (e ∷ es) (drop n es) (tabled (take (suc n) (e ∷ es)))
        (table-plain e es is (stay true))
        (λ i. table-step (with_items i) bytes (at place false) e es refl is (stay i))
        (first n place false (λ i. stay-drop (with_items i) es (next i) n) tt)

    go : (x : Bool) → of_item e ≡ x → (y : Bool) → begins is_heading e ≡ y → (z : Bool) → is_unturned e ≡ z →
        (t : Bool) → begins_table (bound_of e) ≡ t → Agree bytes (at place on) (e ∷ es)
    go true item y heading z text t table =
        none (λ free. let no : false ≡ true = sym free.item ∙ item in cc)
        (item-agrees bytes place e es item (first 0 (place_after bytes place e es) false next tt))
    go false item true heading z text t table =
        none (λ free. let no : false ≡ true = sym free.heading ∙ heading in cc) (at_heading heading)
    go false item false heading false text t table = at_text item text
    go false item false heading true text true table =
        none (λ free. let no : false ≡ true = sym free.table ∙ table in cc) (at_table table)
    go false item false heading true text false table =
        segment bytes place on on (e ∷ es) es (e ∷ []) (item, tt)
        (λ i. passed-one (with_items i) bytes (at place on) e es (passed i))
        (first 0 place on next (passed-awaits on e es text (stay true) awaits))
      where
        passed : (i : Bool) → is_passed (with_items i) e ≡ true
        passed true = rw (item, heading, text, table) refl
        passed false = rw (heading, text, table) refl

all-first : (bytes : List ℕ) (es : List Event) (n : ℕ) → IsFirst bytes (drop n es)
all-first bytes [] zero = λ place on stay awaits. refl
all-first bytes [] (suc n) = λ place on stay awaits. refl
all-first bytes (e ∷ es) zero = event-first bytes e es (λ k. all-first bytes es k)
all-first bytes (e ∷ es) (suc n) = all-first bytes es n

-- Where leaf blocks hold no block, the lists may come first.
pub lists-first : (bytes : List ℕ) (es : List Event) → HoldNoBlock Nothing es →
    tabled (turned (headings_resolved (listed bytes es))) ≡ listed bytes (tabled (turned (headings_resolved es)))
lists-first bytes es alone = all-first bytes es 0 outside false (λ i. (Nothing, inr alone)) tt
