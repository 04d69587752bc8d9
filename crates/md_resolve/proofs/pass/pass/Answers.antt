use Rattle.std.proofs.Common.{◌≡◌, ap, sym, ◌∙◌, subst}
use Rattle.md_engine.specs.World.{World, world}
use Rattle.md_order.specs.declared.wanted.Wanted.{Wanted}
use Rattle.md_order.specs.InOrder.{in_order, wanted_of}
use Rattle.md_order.proofs.Nests.All.{in_order-nested}
use Rattle.md_events.specs.Events.Nested.{Nested}
use Rattle.md_resolve.proofs.pass.pass.Goals as goal

pub set_events-requires-clause-placed : goal.set_events-requires-clause-placed
set_events-requires-clause-placed c =
    rw (ap (λ (w : World). w.setting.bytes) c.take_events-events.ensures.rest)
    (c.in_ok-set.ensures.placed c.args.tokenizer.now.bytes.now c.take_events-events.ensures.placed)

pub returns-clause-nested : goal.returns-clause-nested
returns-clause-nested c = λ may nested.
    let old = world c.args.tokenizer.now in
    let wanted = wanted_of c.args.names.now in
    let events = c.take_events-events.result.items in
    let left = world c.take_events-events.new.self in
    let is : (world c.set_events.new.self).events ≡ in_order wanted old.setting.bytes old.events =
    ap (λ (w : World). w.events) c.set_events.ensures ∙ c.in_ok-set.ensures.events
    ∙ ap (λ (w : Wanted). in_order w left.setting.bytes events) c.wanted_of-wanted.ensures
    ∙ ap (λ (w : World). in_order wanted w.setting.bytes events) c.take_events-events.ensures.rest
    ∙ ap (in_order wanted old.setting.bytes) c.take_events-events.ensures.events in
    subst Nested (sym is) (in_order-nested wanted old.setting.bytes old.events may nested)
