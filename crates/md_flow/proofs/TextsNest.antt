-- Where reading lines of text, heads of tables first, keeps a nested list nested.
use Rattle.std.proofs.Common.{◌≡◌, Option, Result, Ok, Err, subst}
use Rattle.std.specs.Prelude.{IfOk, OnOk}
use Rattle.md_engine.specs.Found.{Found}
use Rattle.md_engine.specs.World.{World}
use Rattle.md_content.proofs.NestsLemmas.{given-nested}
use Rattle.md_content.specs.Resolves.{Resolves}
use Rattle.md_events.specs.Events.Nested.{Nested}
use Rattle.md_flow.specs.Nests.{TextsNest}
use Rattle.proof_leaf_laws.specs.Headed.{heads_read}

-- what is read of a world
reads-nested : (old new : World) (found : Option Found) →
    Resolves (record old { events = heads_read old.setting.options old.setting.bytes old.events }) found new →
    TextsNest old.setting.bytes old.setting.options old.events → Nested old.events → Nested new.events
reads-nested old new found reads may nested = given-nested old.events new.events (may new.events reads.events) nested

pub texts-nested : {X E : Type 0} (answer : Result X E) (of : X → Option Found) (old middle new : World) →
    middle ≡ record old { events = heads_read old.setting.options old.setting.bytes old.events } →
    IfOk answer (λ found. Resolves middle (of found) new) →
    OnOk answer
    (TextsNest old.setting.bytes old.setting.options old.events → Nested old.events → Nested new.events)
texts-nested (Ok x) of old middle new is reads = λ may nested.
    reads-nested old new (of x) (subst (λ (w : World). Resolves w (of x) new) is reads) may nested
texts-nested (Err message) of old middle new is reads = tt
