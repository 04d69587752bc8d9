-- A nested list stays nested where for some of its events that nest others are given that nest.
use Rattle.std.proofs.Common.{◌≡◌, List, [], ◌∷◌, ◌++◌, sym, ◌∙◌, subst}
use Rattle.std.specs.Prelude.{IsTrue}
use Rattle.md_engine.specs.declared.event.Event.{Event}
use Rattle.md_engine.specs.declared.event.Name.{Name}
use Rattle.md_engine.specs.declared.event.Point.{Point}
use Rattle.md_content.specs.ContentNests.{IsGiven, Nothing, Passes, Reads}
use Rattle.md_events.specs.Events.Nested.{Forward, Matches, Nested, last_point, open_after, open_following}
use Rattle.md_events.specs.Events.Places.{at_or_before, first_point}
use Rattle.md_events.proofs.NestedLemmas.{at_or_before-trans, balanced-open, forward-append, forward-from}
use Rattle.md_events.proofs.NestedLemmas.{matches-before, matches-rest, open_after-before}

-- events that end what has these names, nest otherwise, and go forward from a point
record Ends (names : List Name) (p : Point) (es : List Event) : Type 0 where
  matches : Matches names es
  closed : open_after names es ≡ []
  forward : Forward p es

forward-rest : (p : Point) (xs ys : List Event) → Forward p (xs ++ ys) → Forward (last_point p xs) ys
forward-rest p [] ys h = h
forward-rest p (e ∷ xs) ys h = forward-rest e.point xs ys h.1

-- where they end, from a point before
last-before : (p q r : Point) (es : List Event) → IsTrue (at_or_before p q) →
    IsTrue (at_or_before (last_point q es) r) → IsTrue (at_or_before (last_point p es) r)
last-before p q r [] h k = at_or_before-trans p q r h k
last-before p q r (e ∷ es) h k = k

given-ends : (names : List Name) (p : Point) (es out : List Event) → IsGiven es out → Ends names p es →
    Ends names p out
given-ends names p _ _ Nothing h = h
given-ends names p _ _ (Passes e es out more) h =
    let rest : Ends (open_following names e.kind e.name) e.point out =
    given-ends (open_following names e.kind e.name) e.point es out more
    (record { matches = h.matches.1; closed = h.closed; forward = h.forward.1 }) in
    record { matches = (h.matches.0, rest.matches); closed = rest.closed; forward = (h.forward.0, rest.forward) }
given-ends names p _ _ (Reads e lines given es out are nested piece more) h =
    let q : Point = last_point e.point lines in
    let rest : Ends names q out =
    given-ends names q es out more
    (record {
      matches =
          subst (λ (l : List Name). Matches l es) (balanced-open names (e ∷ lines) nested)
          (matches-rest names (e ∷ lines) es h.matches);
      closed = sym (open_after-before names (e ∷ lines) es nested) ∙ h.closed;
      forward = forward-rest p (e ∷ lines) es h.forward;
    }) in
    record {
      matches = matches-before names given out piece.balanced rest.matches;
      closed = open_after-before names given out piece.balanced ∙ rest.closed;
      forward =
          forward-append p given out (forward-from p e.point given h.forward.0 piece.forward)
          (forward-from (last_point p given) q out (last-before p e.point q given h.forward.0 piece.ends) rest.forward);
    }

pub given-nested : (es out : List Event) → IsGiven es out → Nested es → Nested out
given-nested es out given h =
    let ends : Ends [] first_point out =
    given-ends [] first_point es out given
    (record { matches = h.balanced.matches; closed = h.balanced.closed; forward = h.forward }) in
    record { balanced = record { matches = ends.matches; closed = ends.closed }; forward = ends.forward }
