use Rattle.std.proofs.Common.{◌-◌, ◌≡◌, ◌≤◌}
use Rattle.md_engine.specs.World.{world}
use Rattle.md_containers.specs.PlainItem.{moved}
use Rattle.md_containers.proofs.plain_item.take_spaces.Given as goal

abbrev pub invariant-loop-taken : goal.invariant-loop-taken
invariant-loop-taken l = record {
  within : l.taken ≤ l.columns;
  moved : world l.tokenizer ≡ moved l.taken (world l.initial.tokenizer);
}

abbrev pub decreases-loop-taken : goal.decreases-loop-taken
decreases-loop-taken l = l.columns - l.taken
