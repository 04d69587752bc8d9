-- Parts that mean the same: what a text part means depends on its text, on its kind and on the labels of its document,
-- and where its text begins with the check of a task, on whether it may have one (CommonMark 6, GFM 5.3). All else of
-- the document, as container prefixes, columns and other parts, does not matter.
use Rattle.std.specs.Prelude.{◌≡◌, ℕ, Bool, true, List}
use Rattle.std.specs.List.{list_any}
use Rattle.std.specs.Str.{bytes_eq}
use Rattle.md_engine.specs.declared.configuration.ParseOptions.{ParseOptions}
use Rattle.md_engine.specs.declared.event.Event.{Event}
use Rattle.md_engine.specs.declared.parse_state.ParseState.{ParseState}
use Rattle.md_events.specs.Events.Inline.{Part}
use Rattle.md_events.specs.Events.Tiles.{parts}
use Rattle.md_events.specs.TextPart.{AreBlocks, Document}
use Rattle.md_inline_events.specs.Forest.{Forest}
use Rattle.md_inline_events.specs.TreeTexts.{part_texts}
use Rattle.md_inline_events.specs.Woven.{read_text, woven_events}
use Rattle.md_inlines.specs.declared.InlineOptions.{InlineOptions}
use Rattle.md_inlines.specs.Content.{has_form}
use Rattle.markdown_blocks.specs.Parsed.{IsRead}
use Rattle.markdown_inlines.specs.Layer.{AreEvents, may_have_check, place_matters}

-- The same labels are those of definitions in two documents, and the same those of footnotes, in whichever order.
pub record HaveSameLabels (document other : Document) : Type 0 where
  pub definitions : (label : List ℕ) → has_form document.definitions label ≡ has_form other.definitions label
  pub footnotes : (label : List ℕ) → has_form document.footnotes label ≡ has_form other.footnotes label

-- whether a footnote of a document has the label that is in this normal form
abbrev pub has_footnote : List ℕ → Document → Bool
has_footnote form document = list_any (λ known. bytes_eq known form) document.footnotes

-- Two parts, each of a text, are of one kind and have the same text: their lines, without prefixes and indents.
pub record AreReadAlike (bytes other : List ℕ) (held like : Part) : Type 0 where
  pub kind : held.kind ≡ like.kind
  pub text : read_text bytes held ≡ read_text other like

-- Two lists of events are those of one forest, each at the places of a part of its own.
pub record AreOfOneForest (bytes other : List ℕ) (held like : Part) (events found : List Event) : Type 0 where
  pub forest : Forest
  pub events_are : events ≡ woven_events bytes held forest
  pub found_are : found ≡ woven_events other like forest

-- What the layer gives for a part of the one document and for a part of the other that is read alike is of one forest.
-- Where their text begins with the check of a task, this is said of parts that both may have it, or both not.
abbrev pub MeanAlike : InlineOptions → Document → Document → Type 0
MeanAlike options document other =
    (held like : Part) (events found : List Event) (is : AreEvents options document held events)
    (also : AreEvents options other like found) → AreReadAlike document.bytes other.bytes held like →
    (place_matters options held.kind (read_text document.bytes held) ≡ true →
    may_have_check is.place ≡ may_have_check also.place) →
    AreOfOneForest document.bytes other.bytes held like events found

-- The inline content of two documents is the same: their text parts that hold content (those of paragraphs, headings
-- and cells) have the same texts, one for one and in order, and parts with the same texts mean the same.
pub record HaveSameContent (options : InlineOptions) (document other : Document) : Type 0 where
  pub texts : (blocks others : List Event) → AreBlocks document blocks → AreBlocks other others →
      part_texts document.bytes (parts blocks) ≡ part_texts other.bytes (parts others)
  pub mean : MeanAlike options document other

-- what is known of a text that was read with the layer
abbrev pub IsReadBy : InlineOptions → List ℕ → ParseOptions → List Event → ParseState → Type 0
IsReadBy inlines text options events state =
    IsRead (λ document held answer. AreEvents inlines document held answer) text options events state
