-- Events that lead from some open names to others, and from a point to a point.
use Rattle.std.proofs.Common.{◌≡◌, List, [], ◌∷◌, ◌++◌, refl, ap, sym, ◌∙◌, subst}
use Rattle.std.specs.Prelude.{IsTrue}
use Rattle.md_engine.specs.declared.event.Event.{Event}
use Rattle.md_engine.specs.declared.event.Kind.{Kind}
use Rattle.md_engine.specs.declared.event.Kind.TheVariants.{Enter, Exit}
use Rattle.md_engine.specs.declared.event.Name.{Name}
use Rattle.md_engine.specs.declared.event.Point.{Point}
use Rattle.md_events.specs.Events.Nested.{Fits, Forward, Matches, Nested, last_point, open_after, open_following}
use Rattle.md_events.specs.Events.Places.{at_or_before, first_point}
use Rattle.md_events.proofs.NestedLemmas.{at_or_before-refl, at_or_before-trans, forward-append, forward-from}
use Rattle.md_events.proofs.NestedLemmas.{forward-last, last_point-append, matches-append, matches-under}
use Rattle.md_events.proofs.NestedLemmas.{open_after-append, open_after-under}
use Rattle.md_order.specs.HeadingsNest.{IsByItself}

-- one point is not after another
abbrev pub Before : Point → Point → Type 0
Before p q = IsTrue (at_or_before p q)

pub record Leads (from to : List Name) (p q : Point) (events : List Event) : Type 0 where
  pub matches : Matches from events
  pub opened : open_after from events ≡ to
  pub forward : Forward p events
  pub ends : Before (last_point p events) q

-- Events that end what has these names, nest otherwise, and go forward from a point.
pub record Under (names : List Name) (p : Point) (events : List Event) : Type 0 where
  pub matches : Matches names events
  pub closed : open_after names events ≡ []
  pub forward : Forward p events

-- No events, or one.

pub leads-none : (names : List Name) (p q : Point) → Before p q → Leads names names p q []
leads-none names p q h = record { matches = tt; opened = refl; forward = tt; ends = h }

pub leads-event : (names : List Name) (p : Point) (e : Event) → Fits names e.kind e.name → Before p e.point →
    Leads names (open_following names e.kind e.name) p e.point (e ∷ [])
leads-event names p e fits h = record {
  matches = (fits, tt);
  opened = refl;
  forward = (h, tt);
  ends = at_or_before-refl e.point;
}

-- Some after others.

pub leads-from : {from to : List Name} {q r : Point} (p : Point) (xs : List Event) → Before p q →
    Leads from to q r xs → Leads from to p r xs
leads-from {q = q} {r = r} p [] h k = record {
  matches = k.matches;
  opened = k.opened;
  forward = tt;
  ends = at_or_before-trans p q r h k.ends;
}
leads-from {q = q} p (e ∷ xs) h k = record {
  matches = k.matches;
  opened = k.opened;
  forward = forward-from p q (e ∷ xs) h k.forward;
  ends = k.ends;
}

pub leads-order : {from to : List Name} {p q : Point} (xs : List Event) → Leads from to p q xs → Before p q
leads-order {p = p} {q = q} xs h =
    at_or_before-trans p (last_point p xs) q (forward-last p xs h.forward) h.ends

pub leads-append : {names middle to : List Name} {p q r : Point} (xs ys : List Event) → Leads names middle p q xs →
    Leads middle to q r ys → Leads names to p r (xs ++ ys)
leads-append {names = names} {p = p} {q = q} {r = r} xs ys h k =
    let on = leads-from (last_point p xs) ys h.ends k in
    record {
      matches =
          matches-append names xs ys h.matches (subst (λ (l : List Name). Matches l ys) (sym h.opened) k.matches);
      opened = open_after-append names xs ys ∙ ap (λ (l : List Name). open_after l ys) h.opened ∙ k.opened;
      forward = forward-append p xs ys h.forward on.forward;
      ends = subst (λ (s : Point). Before s r) (sym (last_point-append p xs ys)) on.ends;
    }

-- What is open around them does not matter.
pub leads-under : {from to : List Name} {p q : Point} (outer : List Name) (xs : List Event) → Leads from to p q xs →
    Leads (from ++ outer) (to ++ outer) p q xs
leads-under {from = from} outer xs h = record {
  matches = matches-under from outer xs h.matches;
  opened = open_after-under from outer xs h.matches ∙ ap (λ (l : List Name). l ++ outer) h.opened;
  forward = h.forward;
  ends = h.ends;
}

-- Before the rest.

pub under-leads : {names to : List Name} {p q : Point} (xs ys : List Event) → Leads names to p q xs → Under to q ys →
    Under names p (xs ++ ys)
under-leads {names = names} {p = p} {q = q} xs ys h k = record {
  matches = matches-append names xs ys h.matches (subst (λ (l : List Name). Matches l ys) (sym h.opened) k.matches);
  closed = open_after-append names xs ys ∙ ap (λ (l : List Name). open_after l ys) h.opened ∙ k.closed;
  forward = forward-append p xs ys h.forward (forward-from (last_point p xs) q ys h.ends k.forward);
}

pub under-from : {names : List Name} {q : Point} (p : Point) (xs : List Event) → Before p q → Under names q xs →
    Under names p xs
under-from {q = q} p xs h k = record {
  matches = k.matches;
  closed = k.closed;
  forward = forward-from p q xs h k.forward;
}

-- one event, and what follows it
pub under-event : {names : List Name} {p : Point} (e : Event) (es : List Event) → Fits names e.kind e.name →
    Before p e.point → Under (open_following names e.kind e.name) e.point es → Under names p (e ∷ es)
under-event e es fits h k = record {
  matches = (fits, k.matches);
  closed = k.closed;
  forward = (h, k.forward);
}

pub under-rest : {names : List Name} {p : Point} (e : Event) (es : List Event) → Under names p (e ∷ es) →
    Under (open_following names e.kind e.name) e.point es
under-rest e es h = record { matches = h.matches.1; closed = h.closed; forward = h.forward.1 }

-- Nested lists are those that end nothing.

pub nested-under : (es : List Event) → Nested es → Under [] first_point es
nested-under es h = record { matches = h.balanced.matches; closed = h.balanced.closed; forward = h.forward }

pub under-nested : (es : List Event) → Under [] first_point es → Nested es
under-nested es h = record {
  balanced = record { matches = h.matches; closed = h.closed };
  forward = h.forward;
}

-- One event, among what is open inside of others.
pub following-under : (names outer : List Name) (e : Event) → Fits names e.kind e.name →
    open_following (names ++ outer) e.kind e.name ≡ open_following names e.kind e.name ++ outer
following-under names outer e fits = open_after-under names outer (e ∷ []) (fits, tt)

-- In a part, an event that does not end it fits what is open there.
pub fits-inside : (names : List Name) (name : Name) (outer : List Name) (e : Event) →
    (e.kind ≡ Exit → name ≡ e.name → ⊥) → Fits (names ++ name ∷ outer) e.kind e.name → Fits names e.kind e.name
fits-inside names name outer e inside fits = go names e.kind inside fits
  where
    go : (names : List Name) (kind : Kind) → (kind ≡ Exit → name ≡ e.name → ⊥) →
        Fits (names ++ name ∷ outer) kind e.name → Fits names kind e.name
    go names Enter h k = tt
    go [] Exit h k = absurd (h refl k)
    go (innermost ∷ names) Exit h k = k

-- A part that is by itself: nothing is open where it begins, nor after its end.

pub alone-begun : (names : List Name) (e : Event) → e.kind ≡ Enter → IsByItself names e.kind e.name → names ≡ []
alone-begun names e enters h = subst (λ (k : Kind). IsByItself names k e.name) enters h

pub alone-ended : (names : List Name) (e : Event) → e.kind ≡ Exit → IsByItself names e.kind e.name →
    open_following names e.kind e.name ≡ []
alone-ended names e exits h = go e.kind exits h
  where
    go : (kind : Kind) → kind ≡ Exit → IsByItself names kind e.name → open_following names kind e.name ≡ []
    go Exit k h = h
    go Enter k h = absurd (let no : Enter ≡ Exit = k in cc)
