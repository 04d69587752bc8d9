use Rattle.std.proofs.Common.{◌-◌, ◌≤◌, length, take}
use Rattle.md_outline.specs.OutlinePart.{IsFewest, least_events}
use Rattle.md_outline.proofs.CountOpen.{Counts, Left}
use Rattle.md_outline.proofs.outline.part.part_end.Given as goal

abbrev pub invariant-loop-rest : goal.invariant-loop-rest
invariant-loop-rest l = Left (take l.most l.fn.events) l.rest l.enters

abbrev pub decreases-loop-rest : goal.decreases-loop-rest
decreases-loop-rest l = length l.rest

abbrev pub invariant-loop-end : goal.invariant-loop-end
invariant-loop-end l = record {
  within : l.end ≤ length l.events;
  most : l.most ≤ least_events;
  counts : Counts l.events l.end l.enters;
  fewest : IsFewest l.events l.end;
}

abbrev pub decreases-loop-end : goal.decreases-loop-end
decreases-loop-end l = length l.events - l.end
