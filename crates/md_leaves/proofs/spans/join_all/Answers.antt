use Rattle.std.proofs.Common.{ap, subst, ◌∙◌}
use Rattle.md_engine.specs.World.{World}
use Rattle.md_leaves.specs.Spanned.{spanned}
use Rattle.md_leaves.specs.Turned.{HoldNoUnderline}
use Rattle.md_leaves.proofs.spans.join_all.Goals as goal

pub set_events-requires-clause-placed : goal.set_events-requires-clause-placed
set_events-requires-clause-placed c =
    rw (ap (λ (w : World). w.setting.bytes) c.take_events-events.ensures.rest)
    (c.in_ok-joined.ensures.placed _ c.take_events-events.ensures.placed)

pub returns-clause-underlines : goal.returns-clause-underlines
returns-clause-underlines c = λ none.
    subst HoldNoUnderline
    (c.in_ok-joined.ensures.events ∙ ap spanned c.take_events-events.ensures.events)
    (c.in_ok-joined.ensures.underlines none)
