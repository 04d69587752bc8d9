use Rattle.std.proofs.Common.{sym, subst, ◌∙◌}
use Rattle.md_events.specs.Parts.{ArePlaced}
use Rattle.md_resolve.proofs.PassLaws.{now_of, passed-done}
use Rattle.md_resolve.proofs.Same.{in_order-placed}
use Rattle.md_resolve.proofs.pass.set_all.Goals as goal

pub returns-clause-placed : goal.returns-clause-placed
returns-clause-placed c = λ text h.
    subst (ArePlaced text)
    (sym
    (c.finish.ensures ∙ c.give.ensures.written
    ∙ passed-done c.args.wanted c.args.bytes.now c.args.events.items (now_of c.loop-event.walk) c.loop-event.invariant
    c.in_default.ensures.none))
    (in_order-placed text c.args.wanted c.args.bytes.now c.args.events.items h)
