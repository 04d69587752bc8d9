use Rattle.std.proofs.Common.{◌≡◌, List, ap, sym, ◌∙◌, subst}
use Rattle.md_engine.specs.declared.event.Event.{Event}
use Rattle.md_engine.specs.World.{World, world}
use Rattle.md_events.specs.Events.Nested.{Nested}
use Rattle.md_order.specs.InOrder.{every, in_order}
use Rattle.md_order.specs.Nests.{MayNest}
use Rattle.md_order.proofs.Nests.All.{in_order-nested}
use Rattle.md_resolve.proofs.NoUnderline.{pass-less, setext-none}
use Rattle.md_resolve.proofs.pass.pass_all.Goals as goal

pub pass-requires-else-underlines-clause-may : goal.pass-requires-else-underlines-clause-may
pass-requires-else-underlines-clause-may c = pass-less every (world c.args.tokenizer.now).events c.requires.may

-- with all set the events nest
set-nested : (old new : World) →
    new ≡ record old { events = in_order every old.setting.bytes old.events } →
    MayNest every old.setting.bytes old.events → Nested old.events → Nested new.events
set-nested old new is may nested =
    subst Nested (sym (ap (λ (w : World). w.events) is))
    (in_order-nested every old.setting.bytes old.events may nested)

pub returns-in_ok-pass-clause-nested : goal.returns-in_ok-pass-clause-nested
returns-in_ok-pass-clause-nested c =
    set-nested (world c.args.tokenizer.now) (world c.pass.new.tokenizer) c.in_ok-pass.ensures.world

pub returns-in_ok-pass-2-clause-world : goal.returns-in_ok-pass-2-clause-world
returns-in_ok-pass-2-clause-world c =
    let w : World = world c.args.tokenizer.now in
    c.in_ok-pass-2.ensures.world
    ∙ ap (λ (es : List Event). record w { events = es })
    (setext-none every w.setting.bytes w.events (c.requires.underlines c.if-underlines.false))

pub returns-in_ok-pass-2-clause-nested : goal.returns-in_ok-pass-2-clause-nested
returns-in_ok-pass-2-clause-nested c =
    let w : World = world c.args.tokenizer.now in
    set-nested w (world c.pass-else-underlines.new.tokenizer)
    (c.in_ok-pass-2.ensures.world
    ∙ ap (λ (es : List Event). record w { events = es })
    (setext-none every w.setting.bytes w.events (c.requires.underlines c.if-underlines.false)))
