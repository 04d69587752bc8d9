use Rattle.std.proofs.Common.{sym, arith}
use Rattle.md_inline_events.proofs.SpanSteps.{even-past}
use Rattle.md_inline_events.proofs.events.past_run.Goals as goal

pub returns-clause-value : goal.returns-clause-value
returns-clause-value c =
    rw c.saturating_sub.ensures
    (sym (even-past c.args.run.now c.args.point (c.requires.even (grind arith)) c.requires.some))
