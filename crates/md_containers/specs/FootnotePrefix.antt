-- A footnote definition on a line, by the cells of the line: one that opens, and one that continues (own choice, as on
-- GitHub).
use Rattle.std.specs.Prelude.{◌≡◌, ℕ, false, ◌==◌, if◌then◌else◌, List, [], ◌∷◌, ◌++◌, length, Option, Some, None}
use Rattle.md_engine.specs.declared.configuration.ParseOptions.{ParseOptions}
use Rattle.md_engine.specs.declared.event.Event.{Event}
use Rattle.md_engine.specs.declared.event.Name.TheVariants.{DefinitionMarker, GfmFootnoteDefinition}
use Rattle.md_engine.specs.declared.event.Name.TheVariants.{GfmFootnoteDefinitionPrefix, SpaceOrTab}
use Rattle.md_engine.specs.declared.event.Point.{Point}
use Rattle.md_engine.specs.declared.tokenizer.container.Container.{Container as Held}
use Rattle.md_engine.specs.Meaning.{Accepts, Cell, Here, Outcome, Refuses}
use Rattle.md_containers.specs.Footnote.{footnote_width}
use Rattle.md_containers.specs.FootnoteRule.{LabelCells, bracket_events, caret_events, label_cells, label_ended}
use Rattle.md_containers.specs.FootnoteRule.{may_have}
use Rattle.md_containers.specs.ItemPrefix.{ItemPassed, item_further}
use Rattle.md_containers.specs.QuoteRule.{indent_events}
use Rattle.md_meaning.specs.Ascii.{caret, colon, left_bracket}
use Rattle.md_meaning.specs.State.{Container, InFootnote}
use Rattle.md_events.specs.Ahead.{begins_white, white_end, white_rest}
use Rattle.md_events.specs.Events.Nested.{enter, exit, pair}
use Rattle.md_events.specs.Spaces.{any_size, small_indent}

-- all whitespace after `:`
abbrev pub white_events : List Cell → Point → List Event
white_events cells p = if begins_white cells then pair SpaceOrTab p (white_end any_size cells p) else []

-- A footnote definition with these events in front: after its `:`,
abbrev pub footnote_opened : List ℕ → List Event → List Cell → Point → ItemPassed
footnote_opened label front cells p = record {
  container = InFootnote label;
  events = front ++ (white_events cells p ++ exit GfmFootnoteDefinitionPrefix (white_end any_size cells p) ∷ []);
  cells = white_rest any_size cells;
  point = white_end any_size cells p;
}

-- after its label,
abbrev pub footnote_ended : List ℕ → List Event → List Cell → Point → Option ItemPassed
footnote_ended label front [] p = None
footnote_ended label front (c ∷ cs) p =
    if c.byte == colon
    then Some (footnote_opened label (front ++ pair DefinitionMarker p c.after) cs c.after)
    else None

-- at its label, if it has one,
abbrev pub footnote_labelled : List Event → Option LabelCells → Option ItemPassed
footnote_labelled front None = None
footnote_labelled front (Some l) =
    if may_have (length l.label)
    then footnote_ended l.label (front ++ label_ended l.end l.closer.after) l.rest l.closer.after
    else None

-- after its `[`,
abbrev pub footnote_marked : List Event → List Cell → Point → Option ItemPassed
footnote_marked front [] p = None
footnote_marked front (c ∷ cs) p =
    if c.byte == caret
    then footnote_labelled (front ++ caret_events p c.after) (label_cells false cs c.after)
    else None

-- and after its indent.
abbrev pub footnote_after : List Event → List Cell → Point → Option ItemPassed
footnote_after front [] p = None
footnote_after front (c ∷ cs) p =
    if c.byte == left_bracket then footnote_marked (front ++ bracket_events p c.after) cs c.after else None

-- the footnote definition that opens, if one does
abbrev pub footnote_new : ParseOptions → List Cell → Point → Option ItemPassed
footnote_new options cells p =
    if options.constructs.gfm_footnote_definition
    then footnote_after (enter GfmFootnoteDefinition p ∷ indent_events options cells p)
    (white_rest (small_indent options) cells) (white_end (small_indent options) cells p)
    else None

-- An open one continues as an item of its width does that did not start blank.

abbrev pub as_footnote : List ℕ → Option ItemPassed → Option ItemPassed
as_footnote label None = None
as_footnote label (Some t) = Some (record t { container = InFootnote label })

abbrev pub footnote_further : List ℕ → List Cell → Point → Option ItemPassed
footnote_further label cells p = as_footnote label (item_further [] 0 footnote_width false cells p)

-- How it is held, beside its kind: with the columns that a further line loses.
abbrev pub footnote_as : Held → Held
footnote_as held = record held { width = footnote_width; starts_blank = false }

-- What the tokenizer holds of an open one.
abbrev pub footnote_holds : Held → Container → Type 0
footnote_holds held (InFootnote label) = (held.width ≡ footnote_width) × (held.starts_blank ≡ false)
footnote_holds held _ = ⊥

-- taken where it opens or continues, and refused elsewhere
abbrev pub footnote_by : Option ItemPassed → Here → Outcome
footnote_by None h = Refuses h.scratch h.flags
footnote_by (Some t) h =
    Accepts
    (record h {
      events = h.events ++ t.events;
      point = t.point;
      flags = record h.flags { asked = footnote_as h.flags.asked };
    })
    t.cells
