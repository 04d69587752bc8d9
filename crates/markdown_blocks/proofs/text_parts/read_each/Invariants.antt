use Rattle.std.proofs.Common.{List, drop, length}
use Rattle.md_engine.specs.declared.event.Event.{Event}
use Rattle.md_events.specs.Events.Inline.{together}
use Rattle.md_events.specs.TextPart.{document_of, text_readings, wants_text}
use Rattle.md_events.proofs.SubstitutedLemmas.{Leads}
use Rattle.markdown_blocks.specs.PartPlaces.{places_from}
use Rattle.markdown_blocks.specs.Taken.{AreTaken}
use Rattle.markdown_blocks.proofs.PartWalk.{AreNext}
use Rattle.markdown_blocks.proofs.text_parts.read_each.Given as goal

abbrev pub invariant-loop-left : goal.invariant-loop-left
invariant-loop-left g l = record {
  given : List (List Event);
  taken : AreTaken g.S.Sink.takes l.fn.sink given l.sink;
  substituted :
      Leads wants_text (text_readings (g.I.Inline.reads l.parts.inline.now (document_of l.parts.ahead.now.state.now)))
      l.events (drop l.found.placed l.found.events.items) l.found.chunks l.left (together given);
  ahead :
      AreNext (document_of l.parts.ahead.now.state.now) (places_from l.places.blocks.now l.places.at)
      l.found.chunks l.left;
}

abbrev pub decreases-loop-left : goal.decreases-loop-left
decreases-loop-left g l = length l.left
