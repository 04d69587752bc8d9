use Rattle.std.proofs.Common.{◌≡◌, ◌≤◌, ◌++◌, drop, string_bytes}
use Rattle.printing.specs.PrintedEvents.{printed_events, printed_within}
use Rattle.printing.proofs.print.push_events.Given as goal

-- what is left is printed after the lines so far, and no more parts are depth than events were read
abbrev pub invariant-loop-event : goal.invariant-loop-event
invariant-loop-event l = record {
  lines : string_bytes l.text ++ printed_within l.depth (drop l.event-index l.events) ≡
      string_bytes l.initial.text ++ printed_events l.events;
  room : l.depth ≤ l.event-index;
}
