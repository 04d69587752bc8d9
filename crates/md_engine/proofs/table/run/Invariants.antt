use Rattle.std.proofs.Common.{◌≡◌, ◌≢◌}
use Rattle.md_engine.specs.declared.state.State.TheVariants.{Error}
use Rattle.md_engine.specs.Run.{Runs, plain}
use Rattle.md_engine.specs.Scheme.{valid, work}
use Rattle.md_engine.specs.World.{world}
use Rattle.md_engine.proofs.table.run.Given as goal

abbrev pub invariant-loop-state : goal.invariant-loop-state
invariant-loop-state g l = record {
  runs : l.state ≢ Error →
      Runs g.T.Table.step l.is_end l.fn.start (world l.initial.tokenizer) l.state (world l.tokenizer);
  valid : l.state ≢ Error → valid g.T.Table.scheme (world l.tokenizer) (plain l.state);
  setting : l.state ≢ Error → (world l.tokenizer).setting ≡ (world l.initial.tokenizer).setting;
}

abbrev pub decreases-loop-state : goal.decreases-loop-state
decreases-loop-state g l = work g.T.Table.scheme (world l.tokenizer) (plain l.state)
