-- Events that nest, before others: some begin or end containers, so what is open between two of them changes.
use Rattle.std.proofs.Common.{List, [], ◌++◌, refl, ap, sym, ◌∙◌, subst}
use Rattle.std.specs.Prelude.{IsTrue, Option, Some, None}
use Rattle.md_engine.specs.declared.event.Event.{Event}
use Rattle.md_engine.specs.declared.event.Name.{Name}
use Rattle.md_engine.specs.declared.event.Point.{Point}
use Rattle.md_events.specs.Events.Nested.{Balanced, Forward, Matches, last_point, open_after}
use Rattle.md_events.specs.Events.Places.{at_or_before}
use Rattle.md_events.proofs.NestedLemmas.{at_or_before-refl, balanced-none, forward-append, forward-from}
use Rattle.md_events.proofs.NestedLemmas.{matches-append, open_after-append}
use Rattle.md_order.proofs.Nests.Leads.{Under}
use Rattle.proof_frame.specs.Row.{Row, after_row, ending_events}
use Rattle.proof_frame.proofs.FrontLemmas.{Turns, turns-balanced}
use Rattle.proof_frame.proofs.SpanLemmas.{Nested_in, Spans}

-- Events that nest, and go forward from a point.
pub record Onward (p : Point) (events : List Event) : Type 0 where
  pub balanced : Balanced events
  pub forward : Forward p events

pub under-none : (p : Point) (events : List Event) → Under [] p events → Onward p events
under-none p events h = record { balanced = record { matches = h.matches; closed = h.closed }; forward = h.forward }

-- events that begin or end containers, before such
pub under-turn : (from to : List Name) (p q : Point) (xs events : List Event) → Turns from to xs → Spans p q xs →
    Under to q events → Under from p (xs ++ events)
under-turn from to p q xs events h spans on = record {
  matches =
      matches-append from xs events h.matches (subst (λ (l : List Name). Matches l events) (sym h.opened) on.matches);
  closed = open_after-append from xs events ∙ ap (λ (l : List Name). open_after l events) h.opened ∙ on.closed;
  forward = forward-append p xs events spans.0 (forward-from (last_point p xs) q events spans.1 on.forward);
}

-- nested events before such
pub under-before : (names : List Name) (p q : Point) (xs events : List Event) → Nested_in p q xs →
    Under names q events → Under names p (xs ++ events)
under-before names p q xs events h on = under-turn names names p q xs events (turns-balanced names xs h.0) h.1 on

-- the ending of a line nests
pub ending-nested : (name : Name) (row : Row) → IsTrue (at_or_before row.end (after_row row)) →
    Nested_in row.end (after_row row) (ending_events name row)
ending-nested name row = go row.after
  where
    go : (after : Option Point) → IsTrue (at_or_before row.end (after_row (record row { after = after }))) →
        Nested_in row.end (after_row (record row { after = after }))
        (ending_events name (record row { after = after }))
    go None h = (balanced-none, (tt, h))
    go (Some q) h = (
      record { matches = (tt, (refl, tt)); closed = refl },
      ((at_or_before-refl row.end, (h, tt)), at_or_before-refl q),
    )
