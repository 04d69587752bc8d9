use Rattle.std.proofs.Common.{◌≡◌, ◌++◌, length}
use Rattle.md_engine.specs.World.{world}
use Rattle.md_leaves.specs.HeadingRuns.{Apart, line_runs}
use Rattle.md_leaves.specs.OnLine.{IsOnLine}
use Rattle.md_leaves.proofs.heading_text.add_runs.Given as goal

abbrev pub invariant-loop-rest : goal.invariant-loop-rest
invariant-loop-rest l = record {
  on : IsOnLine (world l.initial.tokenizer).setting.bytes l.rest l.point;
  same : record (world l.tokenizer) { events = (world l.initial.tokenizer).events } ≡ world l.initial.tokenizer;
  events : (world l.tokenizer).events ++ line_runs Apart l.rest l.point ≡
      (world l.initial.tokenizer).events ++ line_runs Apart l.piece l.initial.point;
}

abbrev pub decreases-loop-rest : goal.decreases-loop-rest
decreases-loop-rest l = length l.rest
