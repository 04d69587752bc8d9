use Rattle.std.proofs.Common.{rules}
use Rattle.md_engine.proofs.table.push.Goals as goal

pub run-requires : goal.run-requires
run-requires g c = search rules
