-- What a layer gives that reads each part of a document by the inline definition.
use Rattle.std.specs.Prelude.{ℕ, Bool, List}
use Rattle.md_engine.specs.declared.event.Event.{Event}
use Rattle.md_meaning.specs.Label.{Labels}
use Rattle.md_events.specs.Events.Inline.{Part}
use Rattle.md_events.specs.declared.inline.PartKind.{PartKind}
use Rattle.md_events.specs.declared.inline.PartKind.TheVariants as kind
use Rattle.md_inline_events.specs.Forest.{Forest}
use Rattle.md_inline_events.specs.Woven.{read_text, woven_events}
use Rattle.md_inlines.specs.declared.InlineOptions.{InlineOptions}
use Rattle.md_inlines.specs.Content.{content}
use Rattle.md_inlines.specs.Targets.{string}

-- the forest of what is read of a part: in a string there are escapes and character references alone
abbrev pub part_forest : InlineOptions → Labels → Bool → PartKind → List ℕ → Forest
part_forest options labels first kind.Text text = content options labels first text
part_forest options labels first kind.String text = string options text

-- its events; `first` says which parts are those of the first paragraph of an item
abbrev pub defined_events : InlineOptions → Labels → (Part → Bool) → List ℕ → Part → List Event
defined_events options labels first bytes held =
    woven_events bytes held (part_forest options labels (first held) held.kind (read_text bytes held))
