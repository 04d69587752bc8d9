use Rattle.std.proofs.Common.{◌≡◌, ◌<◌, ◌≤◌, ◌-◌, true, length}
use Rattle.markdown_blocks.specs.PartRead.{is_line_begin}
use Rattle.markdown_blocks.proofs.parts.read_at_least.Given as goal

abbrev pub invariant-loop-to : goal.invariant-loop-to
invariant-loop-to l = record {
  after : l.start.index < l.to;
  within : l.to ≤ length l.text;
  begins : l.to < length l.text → is_line_begin l.text l.to ≡ true;
}

abbrev pub decreases-loop-to : goal.decreases-loop-to
decreases-loop-to l = length l.text - l.to
