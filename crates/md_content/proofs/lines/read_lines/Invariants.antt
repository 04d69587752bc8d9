use Rattle.std.proofs.Common.{drop, length}
use Rattle.md_content.specs.ContentReads.{content_readings, wants_content}
use Rattle.md_content.specs.Joined.{joined}
use Rattle.md_content.proofs.lines.read_lines.Given as goal
use Rattle.md_events.specs.Parts.{ArePlaced}
use Rattle.md_events.specs.Rewritten.{given_of, left_of}
use Rattle.md_events.proofs.SubstitutedLemmas.{Leads}

abbrev pub invariant-loop-event : goal.invariant-loop-event
invariant-loop-event l = record {
  given : ArePlaced l.reader.bytes.now (given_of l.all);
  left : ArePlaced l.reader.bytes.now (left_of l.all);
  found : ArePlaced l.reader.bytes.now l.found.events.items;
  substituted : Leads wants_content (content_readings l.reader.bytes.now l.reader.options.now)
      (joined l.fn.events.items)
      (drop l.found.placed l.found.events.items) l.found.chunks (joined (left_of l.all)) (given_of l.all);
}

abbrev pub decreases-loop-event : goal.decreases-loop-event
decreases-loop-event l = length (left_of l.all)
