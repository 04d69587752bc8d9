use Rattle.std.proofs.Common.{◌≡◌, ◌≤◌}
use Rattle.md_engine.specs.declared.state.State.TheVariants.{Next}
use Rattle.md_engine.specs.Scheme.{valid, work}
use Rattle.md_engine.specs.World.{looks, world}
use Rattle.md_engine.proofs.Loops.{ArrivedHere}
use Rattle.md_engine.proofs.table.call_here.Given as goal

abbrev pub invariant-loop-next : goal.invariant-loop-next
invariant-loop-next g l = record {
  current : (world l.tokenizer).current ≡ looks (world l.tokenizer);
  valid : valid g.T.Table.scheme (world l.tokenizer) (Next l.name);
  arrived : ArrivedHere g.T.Table.step l.fn.first (world l.initial.tokenizer) l.name (world l.tokenizer);
  falls : work g.T.Table.scheme (world l.tokenizer) (Next l.name) ≤
      work g.T.Table.scheme (world l.initial.tokenizer) (Next l.fn.first);
  setting : (world l.tokenizer).setting ≡ (world l.initial.tokenizer).setting;
}

abbrev pub decreases-loop-next : goal.decreases-loop-next
decreases-loop-next g l = work g.T.Table.scheme (world l.tokenizer) (Next l.name)
