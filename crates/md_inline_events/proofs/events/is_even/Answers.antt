use Rattle.std.proofs.Common.{arith}
use Rattle.md_inline_events.proofs.SpanSteps.{even-all}
use Rattle.md_inline_events.proofs.events.is_even.Goals as goal

pub returns : goal.returns
returns c h = even-all c.args.line.now c.span.result c.span.ensures (grind (arith, h))
