use Rattle.std.proofs.Common.{arith}
use Rattle.md_inline_events.specs.SidesOf.{cursor_marks}
use Rattle.md_inline_events.proofs.LineSteps.{ending_name, ending_step}
use Rattle.md_inline_events.proofs.writer.push_ending.Goals as goal

pub returns-clause-events : goal.returns-clause-events
returns-clause-events c =
    ending_step c.args.ending.now (cursor_marks c.args.cursor) (cursor_marks c.in_ok-entered.entered)
    c.args.cursor.name c.in_ok-entered.entered.name c.args.end c.args.after c.args.events.now.items _ _ _ (grind arith)
    c.in_ok-entered.ensures.events c.in_ok-entered.ensures.marks c.in_ok-entered.ensures.name
    c.in_ok-push_unless_empty-2.ensures c.in_ok-left.ensures.events

pub returns-clause-name : goal.returns-clause-name
returns-clause-name c =
    ending_name c.args.ending.now (cursor_marks c.args.cursor) (cursor_marks c.in_ok-entered.entered)
    (cursor_marks c.in_ok-left.left) c.args.cursor.name c.in_ok-entered.entered.name c.in_ok-left.left.name (grind
    arith)
    c.in_ok-entered.ensures.marks c.in_ok-left.ensures.marks c.in_ok-entered.ensures.name c.in_ok-left.ensures.name
