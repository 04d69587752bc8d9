use Rattle.std.proofs.Common.{drop, length}
use Rattle.md_events.specs.Parts.{ArePlaced}
use Rattle.md_events.specs.Rewritten.{given_of, left_of}
use Rattle.md_events.specs.Substituted.{EachAsked}
use Rattle.md_events.proofs.SubstitutedLemmas.{Leads}
use Rattle.md_events.proofs.subtokenize.read_parts.Given as goal

abbrev pub invariant-loop-event : goal.invariant-loop-event
invariant-loop-event g l = record {
  given : ArePlaced (g.R.Reader.text l.reader) (given_of l.all);
  left : ArePlaced (g.R.Reader.text l.reader) (left_of l.all);
  found : ArePlaced (g.R.Reader.text l.reader) l.found.events.items;
  substituted : Leads (g.R.Reader.wants l.reader) (g.R.Reader.reads_as l.reader) l.fn.events.items
      (drop l.found.placed l.found.events.items) l.found.chunks (left_of l.all) (given_of l.all);
  asked : EachAsked (g.R.Reader.wants l.reader) (g.R.Reader.may_read l.reader) l.found.chunks (left_of l.all);
}

abbrev pub decreases-loop-event : goal.decreases-loop-event
decreases-loop-event g l = length (left_of l.all)
