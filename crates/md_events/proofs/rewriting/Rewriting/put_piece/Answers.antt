use Rattle.std.proofs.Common.{rules}
use Rattle.std.proofs.lemmas.Slice.{overwrites}
use Rattle.md_events.proofs.rewriting.Rewriting.put_piece.Goals as goal

pub returns-clause-left : goal.returns-clause-left
returns-clause-left c = search (rules, overwrites)

pub returns-clause-held : goal.returns-clause-held
returns-clause-held c = search (rules, overwrites)
