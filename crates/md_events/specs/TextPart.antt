-- What an inline layer reads: the text parts of a document, each with all labels of the document.
use Rattle.std.specs.Prelude.{◌≡◌, ℕ, ◌^◌, ◌<◌, Bool, true, false, if◌then◌else◌, List, [], ◌∷◌, ◌++◌, length, map}
use Rattle.std.specs.Prelude.{Option, Some, None, filter}
use Rattle.std.specs.List.{last_or}
use Rattle.std.specs.String.{string_bytes}
use Rattle.md_engine.specs.declared.configuration.ParseOptions.{ParseOptions}
use Rattle.md_engine.specs.declared.event.Content.{Content}
use Rattle.md_engine.specs.declared.event.Content.TheVariants as content
use Rattle.md_engine.specs.declared.event.Event.{Event}
use Rattle.md_engine.specs.declared.event.Kind.{Kind}
use Rattle.md_engine.specs.declared.event.Kind.TheVariants.{Enter}
use Rattle.md_engine.specs.declared.event.Name.{Name}
use Rattle.md_engine.specs.declared.event.Name.TheVariants as n
use Rattle.md_engine.specs.declared.parse_state.ParseState.{ParseState}
use Rattle.md_meaning.specs.Label.{labels}
use Rattle.md_meaning.specs.Meaning.{tree}
use Rattle.md_events.specs.declared.inline.PartKind.{PartKind}
use Rattle.md_events.specs.declared.inline.PartKind.TheVariants as kind
use Rattle.md_events.specs.declared.inline.PartPlace.{PartPlace}
use Rattle.md_events.specs.declared.inline.PartPlace.TheVariants.{TableCell, ItemStart, Elsewhere}
use Rattle.md_events.specs.declared.labels.Labels.{Labels}
use Rattle.md_events.specs.Exact.Blocks.{exact}
use Rattle.md_events.specs.Substituted.{Readings}
use Rattle.md_events.specs.Events.Blocks.{is_block}
use Rattle.md_events.specs.Events.Inline.{Covers, Part, pieces}
use Rattle.md_events.specs.Events.Places.{first_point}
use Rattle.md_events.specs.Events.Spelled.{role, spelled}
use Rattle.md_events.specs.Events.Tiles.{IsBlockList, end_point, part_at, part_kind, parts}

-- Which contents an inline layer reads, and as what.

abbrev pub wants_text : Content → Bool
wants_text content.Text = true
wants_text content.String = true
wants_text _ = false

abbrev pub text_kind : Content → PartKind
text_kind content.Text = kind.Text
text_kind _ = kind.String

-- what a layer may give for a part, by its content and its chunks
abbrev pub text_readings : (Part → List Event → Type 0) → Readings
text_readings reads = λ content chunks answer. reads (record { kind = text_kind content; chunks = chunks }) answer

-- What is known of a document when its text parts are read.
pub record Document : Type 0 where
  pub bytes : List ℕ
  pub options : ParseOptions
  -- the normal forms of the labels of its definitions, and of its footnote definitions
  pub definitions : List (List ℕ)
  pub footnotes : List (List ℕ)

abbrev pub document_of : ParseState → Document
document_of state = record {
  bytes = state.bytes.now;
  options = state.options.now;
  definitions = map string_bytes state.definitions.items;
  footnotes = map string_bytes state.gfm_footnote_definitions.items;
}

-- A document whose blocks are known, before its text parts are read: they are the exact list of its text, which spells
-- its tree and tiles it, and the labels are all labels of that tree, those of definitions after a part too.
pub record AreBlocks (document : Document) (blocks : List Event) : Type 0 where
  pub exact_list : blocks ≡ exact document.options document.bytes
  -- points have room for it
  pub sized : length document.bytes < 2 ^ 61
  pub list : IsBlockList document.bytes blocks
  pub covers : Covers first_point (pieces blocks) (end_point document.bytes)
  pub spells : spelled blocks document.bytes ≡ tree document.options document.bytes
  pub definitions : document.definitions ≡ (labels (tree document.options document.bytes)).definitions
  pub footnotes : document.footnotes ≡ (labels (tree document.options document.bytes)).footnotes

-- A text part of a document.
pub record IsTextPart (document : Document) (part : Part) : Type 0 where
  pub blocks : List Event
  pub are : AreBlocks document blocks
  -- it is among the text parts of these blocks
  pub before : List Part
  pub following : List Part
  pub among : parts blocks ≡ before ++ part ∷ following

-- Where a text part is.

-- whether a block begins or ends with an event
abbrev pub is_of_block : Event → Bool
is_of_block e = is_block (role e.name)

-- the last event among some with which a block begins or ends
abbrev pub last_of_block : List Event → Option Event
last_of_block events = last_or None (filter is_of_block events)

abbrev pub begins_item : Kind → Name → Bool
begins_item Enter n.ListItem = true
begins_item _ _ = false

-- Whether an item has begun, and in it no block yet: the last event of a block is the one with which the item begins.
abbrev pub is_new_item : Option Event → Bool
is_new_item None = false
is_new_item (Some e) = begins_item e.kind e.name

-- where a text part of this name is, by the last event of a block before it
abbrev pub place_by : Option Event → Name → PartPlace
place_by last n.GfmTableCellText = TableCell
place_by last n.Paragraph = if is_new_item last then ItemStart else Elsewhere
place_by last _ = Elsewhere

-- Where the text part is that begins with an event, by the events before it: in a cell, in the paragraph that is the
-- first block of an item, or elsewhere.
abbrev pub place_of : List Event → Event → PartPlace
place_of before begin = place_by (last_of_block before) begin.name

-- A text part of a document, and where it is.
pub record IsTextPartAt (document : Document) (part : Part) (place : PartPlace) : Type 0 where
  pub blocks : List Event
  pub are : AreBlocks document blocks
  -- it begins with one of these events
  pub before : List Event
  pub begin : Event
  pub following : List Event
  pub among : blocks ≡ before ++ begin ∷ following
  pub begins : part_at begin.kind (part_kind begin.name) following ≡ part ∷ []
  pub place_is : place ≡ place_of before begin

-- The labels of a document, to be looked up.
pub record AreLabelsOf (document : Document) (labels : Labels) : Type 0 where
  pub definitions : map string_bytes labels.definitions.forms.now ≡ document.definitions
  pub footnotes : map string_bytes labels.footnotes.forms.now ≡ document.footnotes
