use Rattle.std.proofs.Common.{◌-◌, ◌≤◌}
use Rattle.md_engine.specs.KnownContinuing.{AreContinuing}
use Rattle.md_engine.proofs.known_continuing.asked.Given as goal

abbrev pub invariant-loop-to : goal.invariant-loop-to
invariant-loop-to l =
    record { following : l.from ≤ l.to; within : l.to ≤ l.until; each : AreContinuing l.containers l.from l.to }

abbrev pub decreases-loop-to : goal.decreases-loop-to
decreases-loop-to l = l.until - l.to
