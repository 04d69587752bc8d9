use Rattle.std.proofs.Common.{◌∙◌, ◌++◌, List, ap, arith, drop, take}
use Rattle.std.proofs.lemmas.List.{drop_all, length-take-le}
use Rattle.md_engine.specs.declared.event.Event.{Event}
use Rattle.md_events.specs.Rewritten.{left_of}
use Rattle.md_events.proofs.rewriting.Rewriting.skip.Goals as goal

pub returns-clause-held : goal.returns-clause-held
returns-clause-held c =
    c.leave_out.ensures.held
    ∙ ap (drop c.args.count) (c.hold_many.ensures.held
    ∙ ap (λ (l : List Event). l ++ take c.args.count (left_of c.give.new.self)) c.give.ensures.held)
    ∙ drop_all c.args.count (take c.args.count (left_of c.give.new.self))
    (omega (arith, length-take-le c.args.count (left_of c.give.new.self) (rw c.give.ensures.left c.requires)))
