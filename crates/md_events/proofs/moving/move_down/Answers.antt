use Rattle.std.proofs.Common.{◌∙◌, ap, arith, drop}
use Rattle.md_events.proofs.MovingLemmas.{following-moved, unmoved}
use Rattle.md_events.proofs.moving.move_down.Goals as goal

pub returns-then-to-from-clause-moved : goal.returns-then-to-from-clause-moved
returns-then-to-from-clause-moved c = unmoved c.args.events.now c.args.to c.args.from c.args.end (omega arith)

pub returns-else-end-from-clause-following : goal.returns-else-end-from-clause-following
returns-else-end-from-clause-following c =
    ap (drop c.args.end) c.copy_within.ensures.after
    ∙ following-moved c.args.events.now c.args.to c.args.from c.args.end (omega arith) (omega arith) (omega arith)
