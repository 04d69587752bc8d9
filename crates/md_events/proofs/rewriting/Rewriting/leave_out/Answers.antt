use Rattle.std.proofs.Common.{arith}
use Rattle.md_events.proofs.RewrittenLemmas.{held-fewer}
use Rattle.md_events.proofs.rewriting.Rewriting.leave_out.Goals as goal

pub returns-clause-held : goal.returns-clause-held
returns-clause-held c =
    held-fewer c.args.self.now.events.items c.args.self.now.done c.args.self.now.read c.args.count (omega arith)
