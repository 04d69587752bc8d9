use Rattle.std.proofs.Common.{◌≡◌, List, [], ap, ◌∙◌}
use Rattle.md_engine.specs.declared.event.Event.{Event}
use Rattle.md_engine.specs.World.{World, world}
use Rattle.md_tables.specs.Heads.{headed}
use Rattle.md_tables.proofs.heads.resolve.Goals as goal

pub put_heads-requires : goal.put_heads-requires
put_heads-requires c =
    let taken = c.take_events-events.ensures in
    record { placed = rw (ap (λ (w : World). w.setting.bytes) taken.rest) taken.placed }

pub returns-clause-world : goal.returns-clause-world
returns-clause-world c =
    all-set (world c.args.tokenizer.now) (world c.take_events-events.new.self) (world c.set_events.new.self) _ _
    c.take_events-events.ensures.rest c.take_events-events.ensures.events c.in_ok-headed.ensures.events
    c.set_events.ensures
  where
    all-set : (old taken new : World) (events given : List Event) → taken ≡ record old { events = [] } →
        events ≡ old.events → given ≡ headed taken.setting.bytes taken.setting.options events →
        new ≡ record taken { events = given } →
        new ≡ record old { events = headed old.setting.bytes old.setting.options old.events }
    all-set old taken new events given is all heads set =
        set ∙ ap (λ (w : World). record w { events = given }) is
        ∙ ap (λ (es : List Event). record old { events = es })
        (heads ∙ ap (λ (w : World). headed w.setting.bytes w.setting.options events) is
        ∙ ap (headed old.setting.bytes old.setting.options) all)
