use Rattle.std.proofs.Common.{arith, length-drop}
use Rattle.md_events.proofs.RewrittenLemmas.{held-set}
use Rattle.md_events.proofs.rewriting.Rewriting.hold_as.Goals as goal

pub returns-clause-held : goal.returns-clause-held
returns-clause-held c =
    held-set c.args.self.now.events.items c.args.self.now.done c.args.self.now.read c.args.event (omega arith)
    (omega (arith, length-drop c.args.self.now.read c.args.self.now.events.items))
