use Rattle.std.proofs.Common.{rules}
use Rattle.std.proofs.lemmas.Slice.{overwrites}
use Rattle.md_events.proofs.moving.copy_piece.Goals as goal

pub returns-clause-following : goal.returns-clause-following
returns-clause-following c = search (rules, overwrites)
