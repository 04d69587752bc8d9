use Rattle.std.proofs.Common.{[], ◌∙◌, ap, rules}
use Rattle.md_engine.specs.World.{World, world}
use Rattle.md_content.specs.ContentReads.{content_readings, wants_content}
use Rattle.md_content.specs.Joined.{joined}
use Rattle.md_content.proofs.NestsLemmas.{given-nested}
use Rattle.md_events.specs.Substituted.{Substituted}
use Rattle.md_content.proofs.content.resolve.Goals as goal

pub set_events-requires-clause-placed : goal.set_events-requires-clause-placed
set_events-requires-clause-placed c =
    rw (ap (λ (w : World). w.setting.bytes) c.in_ok-begin.ensures.same
    ∙ ap (λ (w : World). w.setting.bytes) c.take_events-events.ensures.rest) c.in_ok-read.ensures.placed

pub returns-clause-resolves : goal.returns-clause-resolves
returns-clause-resolves c = search rules

pub returns-clause-nested : goal.returns-clause-nested
returns-clause-nested c = λ may nested.
    let old : World = world c.args.tokenizer.now in
    let new : World = world c.set_events.new.self in
    let read : Substituted wants_content (content_readings old.setting.bytes old.setting.options) [] 0
    (joined old.events) new.events = search rules in
    given-nested old.events new.events (may new.events read) nested
