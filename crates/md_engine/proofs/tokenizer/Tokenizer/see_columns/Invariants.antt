use Rattle.std.proofs.Common.{◌≤◌, ◌-◌}
use Rattle.md_engine.specs.Place.{IsPlaced}
use Rattle.md_engine.specs.Staying.{TookColumns}
use Rattle.md_engine.specs.World.{world}
use Rattle.md_engine.proofs.tokenizer.Tokenizer.see_columns.Given as goal

abbrev pub invariant-loop-count : goal.invariant-loop-count
invariant-loop-count l = record {
  some : TookColumns (world l.initial.self) l.count
      (record (world l.initial.self) { point = l.point; current = l.seen });
  within : l.count ≤ l.most;
  placed : IsPlaced l.initial.self.bytes.now l.point;
}

abbrev pub decreases-loop-count : goal.decreases-loop-count
decreases-loop-count l = l.most - l.count
