use Rattle.std.proofs.Common.{◌≡◌, ◌++◌, length}
use Rattle.md_events.specs.Lined.{EachLine, lined}
use Rattle.md_events.specs.Rewritten.{given_of, left_of}
use Rattle.md_events.proofs.subtokenize.read_lines.Given as goal

abbrev pub invariant-loop-chunk : goal.invariant-loop-chunk
invariant-loop-chunk g l = record {
  given : given_of l.all ++ lined (g.R.Reader.wants l.reader) l.bytes (left_of l.all) ≡
      lined (g.R.Reader.wants l.reader) l.bytes l.fn.events.items;
  each : EachLine (g.R.Reader.wants l.reader) l.bytes (left_of l.all);
}

abbrev pub decreases-loop-chunk : goal.decreases-loop-chunk
decreases-loop-chunk g l = length (left_of l.all)
