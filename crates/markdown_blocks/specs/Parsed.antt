-- What a parse asks for, and what it gives.
use Rattle.std.specs.Prelude.{◌≡◌, ℕ, ◌<◌, true, IsTrue, List, [], length, map}
use Rattle.std.specs.String.{string_bytes}
use Rattle.md_engine.specs.declared.configuration.ParseOptions.{ParseOptions}
use Rattle.md_engine.specs.declared.event.Event.{Event}
use Rattle.md_engine.specs.declared.parse_state.ParseState.{ParseState}
use Rattle.md_events.specs.Events.Endings.{endings_are_right}
use Rattle.md_events.specs.Events.Grammar.{keeps_grammar, plain_text}
use Rattle.md_events.specs.Events.Held.{Holds}
use Rattle.md_events.specs.Events.Inline.{Covers, Part, pieces}
use Rattle.md_meaning.specs.Meaning.{tree}
use Rattle.md_events.specs.Events.Nested.{Nested}
use Rattle.md_events.specs.Events.On.{are_on}
use Rattle.md_events.specs.Events.Pieces.{are_valid_pieces}
use Rattle.md_events.specs.Events.Places.{are_placed, first_point}
use Rattle.md_events.specs.Events.Spelled.{spelled}
use Rattle.md_events.specs.Events.Tiles.{Tiles, end_point, plain_read}
use Rattle.md_events.specs.Substituted.{Substituted}
use Rattle.md_events.specs.TextPart.{Document, document_of, text_kind, wants_text}
use Rattle.md_meaning.specs.Label.{labels}
use Rattle.md_meaning.specs.Wrapped.{NestsInItem, NestsInQuote, itemised, quoted}
use Rattle.md_outline.specs.Outlined.{IsOutlined}
use Rattle.md_wrap.specs.Footnoted.{NestsInFootnote, footnoted}
pub use Rattle.md_meaning.specs.Wrapped.{IsItemable, IsQuotable, IsSmall}
pub use Rattle.proof_rows.specs.WithoutMdx.{IsWithoutMdx}
use Rattle.md_events.specs.Exact.Blocks.{exact}
use Rattle.proof_frame.specs.ReadsPlain.{reads_plain}

-- What is known of a text that was read with an inline layer, whatever it is: its events nest, are at its points, spell
-- its tree and tile it, and the labels are those of that tree.
pub record IsRead (reads : Document → Part → List Event → Type 0) (text : List ℕ) (options : ParseOptions)
    (events : List Event) (state : ParseState) : Type 0 where
  pub bytes : state.bytes.now ≡ text
  pub options_are : state.options.now ≡ options
  -- enters and exits match like brackets, and their points never go back
  pub nested : Nested events
  -- each point is one of the text, with the right line and column
  pub placed : IsTrue (are_placed text events)
  -- with `> ` before each line, the text means one block quote with this tree in it, unchanged, and has the same labels
  pub in_quote : NestsInQuote options text (quoted text) (spelled events text)
  -- with `+ ` before its first line and two spaces before each other, it means one list, whose one item has this tree
  -- in it, unchanged, and has the same labels
  pub in_item : NestsInItem options text (itemised text) (spelled events text)
  -- with `[^x]: ` before its first line and four spaces before each other, it means one footnote definition with this
  -- tree in it, unchanged, and has the same labels, after `x`
  pub in_footnote : NestsInFootnote options text (footnoted text) (spelled events text)
  pub tree : spelled events text ≡ tree options text
  -- no construct occurs in it that is off
  pub on : are_on options (spelled events text) ≡ true
  -- one for one, the events are those of the lines of the text, with what the layer reads in the places of the chunks
  -- of each text part
  pub events_are : Substituted wants_text
      (λ content chunks answer. reads (document_of state) (record { kind = text_kind content; chunks = chunks }) answer)
      [] 0 (exact options text) events
  -- every byte is accounted for: what is in the place of each chunk covers it,
  pub tiles : Tiles (reads (document_of state)) text events
  pub blocks_are : tiles.blocks ≡ exact options text
  -- and the innermost pairs of all events lie side by side
  pub covers : Covers first_point (pieces events) (end_point text)
  -- so every byte is in a piece that says what it is, and no block holds bytes of its own
  pub held : (index : ℕ) → index < length text → Holds text (pieces tiles.blocks) index
  -- the labels of its definitions, in their normal forms and in the order of the text, repeats kept, and those of its
  -- footnote definitions
  pub definitions : map string_bytes state.definitions.items ≡ (labels (spelled events text)).definitions
  pub footnotes : map string_bytes state.gfm_footnote_definitions.items ≡ (labels (spelled events text)).footnotes
  -- what `outline` requires of the events; nothing else needs it
  pub outlined : IsOutlined events text

-- What is known of a text that was read with the plain layer.
pub record IsParsed (text : List ℕ) (options : ParseOptions) (events : List Event) (state : ParseState) : Type 0 where
  pub read : IsRead (λ document part answer. reads_plain document.bytes part answer) text options events state
  -- one for one, the events are those of the lines of the text, with what the plain layer reads in the place of each
  -- chunk
  pub events_are : events ≡ plain_read text (exact options text)
  -- each part is where the grammar has it, with what it must hold
  pub grammar : keeps_grammar plain_text events ≡ true
  -- each piece is over what its name says, and no block is a piece
  pub pieces_are : are_valid_pieces text (pieces events) ≡ true
  -- endings of blank lines are distinguished from others
  pub endings : endings_are_right events ≡ true
