use Rattle.std.proofs.Common.{◌-◌, ◌≤◌}
use Rattle.md_engine.specs.KnownRun.{AreOfRun}
use Rattle.md_engine.proofs.known_run.KnownRun.found.Given as goal

abbrev pub invariant-loop-end : goal.invariant-loop-end
invariant-loop-end l = record {
  following : l.index ≤ l.end;
  from : l.from ≤ l.index;
  each : AreOfRun l.bytes l.marker l.from l.end;
}

abbrev pub decreases-loop-end : goal.decreases-loop-end
decreases-loop-end l = l.limit - l.end
