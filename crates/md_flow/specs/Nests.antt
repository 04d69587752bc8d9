-- Where what the resolver of a name gives nests, if what it gets does.
use Rattle.std.specs.Prelude.{ℕ, List, []}
use Rattle.md_engine.specs.declared.configuration.ParseOptions.{ParseOptions}
use Rattle.md_engine.specs.declared.event.Event.{Event}
use Rattle.md_engine.specs.declared.resolve.name.Name.{Name}
use Rattle.md_engine.specs.declared.resolve.name.Name.TheVariants as r
use Rattle.md_engine.specs.World.{World}
use Rattle.md_content.specs.ContentNests.{IsGiven}
use Rattle.md_content.specs.ContentReads.{content_readings, wants_content}
use Rattle.md_content.specs.Joined.{joined}
use Rattle.md_events.specs.Substituted.{Substituted}
use Rattle.md_order.specs.HeadingsNest.{HeadingsNest}
use Rattle.md_order.specs.Nests.{ListsNest}
use Rattle.md_order.specs.TablesNest.{TablesNest}
use Rattle.md_order.specs.TurnsNest.{TurnsNest}
use Rattle.proof_leaf_laws.specs.Headed.{heads_read}

-- Of lines of text, first of those that are heads of tables and then of the others, all that is read nests where they
-- are.
abbrev pub TextsNest : List ℕ → ParseOptions → List Event → Type 0
TextsNest bytes options events =
    (out : List Event) →
    Substituted wants_content (content_readings bytes options) [] 0 (joined (heads_read options bytes events)) out →
    IsGiven events out

-- What the resolver of a name gets fits it; the names of the inline layer change nothing.
abbrev pub MayNestBy : Name → World → Type 0
MayNestBy r.Content w = TextsNest w.setting.bytes w.setting.options w.events
MayNestBy r.ListItem w = ListsNest w.events
MayNestBy r.HeadingAtx w = HeadingsNest w.events
MayNestBy r.HeadingSetext w = TurnsNest w.events
MayNestBy r.GfmTable w = TablesNest w.events
MayNestBy _ w = Unit {0}
