use Rattle.std.proofs.Common.{◌≡◌, [], take}
use Rattle.md_engine.specs.Found.{found_in}
use Rattle.md_engine.specs.Run.{Resolved}
use Rattle.md_engine.specs.World.{world}
use Rattle.md_engine.proofs.table.resolve_all.Given as goal

abbrev pub invariant-loop-name : goal.invariant-loop-name
invariant-loop-name g l = record {
  resolved : Resolved g.T.Table.resolves (world l.initial.tokenizer) (take l.name-index l.name-items) (found_in l.found)
      (world l.tokenizer);
  frames : (world l.tokenizer).frames ≡ [];
}
