-- What the inline layer gives for a part of a document (CommonMark 6, GFM 5.3).
use Rattle.std.specs.Prelude.{◌≡◌, ℕ, Bool, true, false, ◌&&◌, List}
use Rattle.md_engine.specs.declared.event.Event.{Event}
use Rattle.md_meaning.specs.Label as meaning
use Rattle.md_events.specs.Events.Inline.{Part}
use Rattle.md_events.specs.TextPart.{Document, IsTextPartAt}
use Rattle.md_events.specs.declared.inline.PartKind.{PartKind}
use Rattle.md_events.specs.declared.inline.PartKind.TheVariants as kind
use Rattle.md_events.specs.declared.inline.PartPlace.{PartPlace}
use Rattle.md_events.specs.declared.inline.PartPlace.TheVariants.{ItemStart}
use Rattle.md_inline_events.specs.Forest.{Forest}
use Rattle.md_inline_events.specs.Woven.{read_text, woven_events}
use Rattle.md_inlines.specs.declared.InlineOptions.{InlineOptions}
use Rattle.md_inlines.specs.Content.{content}
use Rattle.md_inlines.specs.Task.{is_task}
use Rattle.md_inlines.specs.Targets.{string}

-- the labels of a document
abbrev pub labels_in : Document → meaning.Labels
labels_in document = record { definitions = document.definitions; footnotes = document.footnotes }

-- whether a part is the first paragraph of an item, which may begin with the check of a task (GFM 5.3)
abbrev pub may_have_check : PartPlace → Bool
may_have_check ItemStart = true
may_have_check _ = false

-- the forest of what is read of a part: in a string there are escapes and character references alone
abbrev pub part_forest : InlineOptions → meaning.Labels → PartPlace → PartKind → List ℕ → Forest
part_forest options labels place kind.Text text = content options labels (may_have_check place) text
part_forest options labels place kind.String text = string options text

-- The events of a part of a document that is at this place.
abbrev pub inline_events : InlineOptions → Document → PartPlace → Part → List Event
inline_events options document place held =
    woven_events document.bytes held
    (part_forest options (labels_in document) place held.kind (read_text document.bytes held))

-- What the layer gives for a part of a document: its events, by where it is in the exact list, in which it has one place
-- (`a_part_has_one_list_of_events` of `laws`).
pub record AreEvents (options : InlineOptions) (document : Document) (held : Part) (events : List Event) : Type 0 where
  pub place : PartPlace
  pub at : IsTextPartAt document held place
  pub same : events ≡ inline_events options document place held

-- The layer's own steps.

-- whether it matters where a part with this text is: whether the text begins with a check
abbrev pub place_matters : InlineOptions → PartKind → List ℕ → Bool
place_matters options kind.Text text = options.constructs.gfm_task_list_item && is_task text
place_matters options kind.String text = false

-- A part means the same here as where it is.
pub record MeansAsAt (options : InlineOptions) (document : Document) (held : Part) (place : PartPlace) : Type 0 where
  pub own : PartPlace
  pub at : IsTextPartAt document held own
  pub same : inline_events options document place held ≡ inline_events options document own held
