-- A part of a text: where it may begin, where it may end, and that the text has what is in it, and then what it has
-- from there on.
use Rattle.std.specs.Prelude.{◌≡◌, ◌⊎◌, ℕ, ◌+◌, ◌-◌, ◌<◌, ◌≤◌, Bool, true, false, ◌&&◌, ◌||◌, not, if◌then◌else◌}
use Rattle.std.specs.Prelude.{IsTrue, List, [], ◌++◌, Option, Some, None, drop, length, map, nat_lt, slice_index, take}
use Rattle.std.specs.String.{string_bytes}
use Rattle.md_engine.specs.declared.configuration.ParseOptions.{ParseOptions}
use Rattle.md_engine.specs.declared.event.Event.{Event}
use Rattle.md_engine.specs.declared.event.Point.{Point}
use Rattle.md_engine.specs.declared.state.State.{State}
use Rattle.md_engine.specs.declared.tokenizer.held_leaf.HeldLeaf.TheVariants as held_leaf
use Rattle.md_engine.specs.declared.tokenizer.held_leaf.OpenText.{OpenText}
use Rattle.md_engine.specs.Place.{IsPlaced, is_ending, is_pair}
use Rattle.md_engine.specs.World.{World}
use Rattle.md_events.specs.Events.Inline.{Covers, pieces}
use Rattle.md_events.specs.Events.Nested.{Nested}
use Rattle.md_events.specs.Events.Places.{are_placed, first_point, same_place}
use Rattle.md_events.specs.Events.Tiles.{IsBlockList, end_point}
use Rattle.md_events.specs.Lined.{lined}
use Rattle.md_events.specs.Parts.{ArePlaced}
use Rattle.md_events.specs.TextPart.{wants_text}
use Rattle.md_events.specs.Exact.Blocks.{exact}
use Rattle.md_meaning.specs.Label.{Labels, both, labels, no_labels}
use Rattle.md_meaning.specs.Lines.{lines_of}
use Rattle.md_meaning.specs.Meaning.{tree}
use Rattle.md_meaning.specs.Preamble.{rests_at}
use Rattle.md_meaning.specs.Rest.{is_white}
use Rattle.md_meaning.specs.State.{closed}
use Rattle.md_meaning.specs.Step.{steps}
use Rattle.md_meaning.specs.Tree.{Blocks}
use Rattle.proof_exact.specs.Parts.{events_from, nothing_open}
use Rattle.markdown_blocks.specs.declared.parts.Part.{Part}
use Rattle.markdown_blocks.specs.Fed.{line_begins}
pub use Rattle.markdown_blocks.specs.TextsRead.{BeginsPart}

-- whether a line begins at this byte, after another line
abbrev pub is_line_begin : List ℕ → ℕ → Bool
is_line_begin text at = is_ending (slice_index text (at - 1)) && not (is_pair text (at - 1))

-- whether the byte before the ending of one byte that is before this place is no space, no tab and of no line ending
abbrev pub is_filled_end : List ℕ → ℕ → Bool
is_filled_end text at = not (is_ending (slice_index text (at - 2)) || is_white (slice_index text (at - 2)))

-- flow waits for a line, in no container, where a text is open
pub record WaitsInText (state : State) (w : World) : Type 0 where
  pub at : state ≡ line_begins
  pub frames : w.frames ≡ []
  pub containers : w.flags.containers ≡ []
  pub held : OpenText
  pub leaf : w.flags.leaf ≡ held_leaf.Text held

-- flow waits for a line where nothing is open
pub record WaitsOutside (state : State) (w : World) : Type 0 where
  pub at : state ≡ line_begins
  pub frames : w.frames ≡ []
  pub containers : w.flags.containers ≡ []
  pub leaf : w.flags.leaf ≡ held_leaf.None

-- Where flow waits after the lines from a point to this place, a part may end: a text is open and the next line is
-- empty, so that it ends the text; or nothing is open and the last line is not blank, so that no item is last.
abbrev pub MayEnd : List ℕ → Point → ℕ → State → World → Type 0
MayEnd text p to state w =
    (WaitsInText state w × (is_ending (slice_index text to) ≡ true))
    ⊎ (WaitsOutside state w × (p.index + 2 ≤ to) × (is_filled_end text to ≡ true))

-- What a text has from a point on, where a line begins and nothing is open.

-- its events, whose text parts are not read,
abbrev pub unread_at : ParseOptions → List ℕ → Point → List Event
unread_at options text p = events_from options text p.line p.index (p.column - 1)

-- and with its text parts read as lines
abbrev pub events_at : ParseOptions → List ℕ → Point → List Event
events_at options text p = lined wants_text text (unread_at options text p)

-- its blocks
abbrev pub blocks_at : ParseOptions → List ℕ → Point → Blocks
blocks_at options text p =
    closed options (steps options nothing_open (rests_at (p.column - 1) (lines_of (drop p.index text))))

-- the labels of its definitions
abbrev pub labels_at : ParseOptions → List ℕ → Point → Labels
labels_at options text p = labels (blocks_at options text p)

-- The same from a point on, if there is one.

abbrev pub unread_after : ParseOptions → List ℕ → Option Point → List Event
unread_after options text None = []
unread_after options text (Some p) = unread_at options text p

abbrev pub events_after : ParseOptions → List ℕ → Option Point → List Event
events_after options text None = []
events_after options text (Some p) = events_at options text p

abbrev pub labels_after : ParseOptions → List ℕ → Option Point → Labels
labels_after options text None = no_labels
labels_after options text (Some p) = labels_at options text p

-- this point, if it is in the text
abbrev pub point_in : List ℕ → Point → Option Point
point_in text p = if nat_lt p.index (length text) then Some p else None

-- where that is, or the end of the text
abbrev pub point_after : List ℕ → Option Point → Point
point_after text None = end_point text
point_after text (Some p) = p

-- the bytes before it, or all
abbrev pub before_next : List ℕ → Option Point → List ℕ
before_next text None = text
before_next text (Some p) = take p.index text

-- A part.

-- its labels
abbrev pub labels_of : Part → Labels
labels_of part = record {
  definitions = map string_bytes part.definitions.items;
  footnotes = map string_bytes part.gfm_footnote_definitions.items;
}

-- events from a point of a text to another: they nest, are at points of the text, and their innermost pairs lie side by
-- side
pub record AreLaid (text : List ℕ) (p : Point) (events : List Event) (q : Point) : Type 0 where
  pub nested : Nested events
  pub placed : IsTrue (are_placed text events)
  pub covers : Covers p (pieces events) q

-- A text has this part from a point on, and then what it has from the next point on, if there is one.
pub record HasPart (options : ParseOptions) (text : List ℕ) (p : Point) (part : Part) (next : Option Point) : Type 0
  where
    pub events : events_at options text p ≡ part.events.items ++ events_after options text next
    pub labels : labels_at options text p ≡ both (labels_of part) (labels_after options text next)
    -- it has some, and reaches from the one point to the other
    pub some : 0 < length part.events.items
    pub laid : AreLaid text p part.events.items (point_after text next)

-- The same before its text parts are read.
pub record HasUnread (options : ParseOptions) (text : List ℕ) (p : Point) (part : Part) (next : Option Point) : Type 0
  where
    pub events : unread_at options text p ≡ part.events.items ++ unread_after options text next
    pub labels : labels_at options text p ≡ both (labels_of part) (labels_after options text next)
    -- it is a block list of its bytes, which are some, and where these end the next part begins
    pub list : IsBlockList (before_next text next) part.events.items
    pub covers : Covers p (pieces part.events.items) (end_point (before_next text next))
    pub some : p.index < length (before_next text next)
    pub place : same_place (end_point (before_next text next)) (point_after text next) ≡ true
    pub within : (q : Point) → IsPlaced (before_next text next) q → IsPlaced text q

-- All blocks of a text, those of its front with them, whose text parts are not read.
pub record AreAllBlocks (options : ParseOptions) (text : List ℕ) (all : Part) : Type 0 where
  pub are : all.events.items ≡ exact options text
  pub placed : ArePlaced text all.events.items
  pub labels_are : labels_of all ≡ labels (tree options text)

-- What is left of a text that is read part by part: all of it before its front is read, and then what it has from the
-- next part on, if there is one.

abbrev pub unread_left : ParseOptions → List ℕ → Bool → Option Point → List Event
unread_left options text false start = exact options text
unread_left options text true start = unread_after options text start

abbrev pub events_left : ParseOptions → List ℕ → Bool → Option Point → List Event
events_left options text false start = lined wants_text text (exact options text)
events_left options text true start = events_after options text start

abbrev pub labels_left : ParseOptions → List ℕ → Bool → Option Point → Labels
labels_left options text false start = labels (tree options text)
labels_left options text true start = labels_after options text start

abbrev pub place_left : List ℕ → Bool → Option Point → Point
place_left text false start = first_point
place_left text true start = point_after text start

-- a part may be read from this point on; where footnote definitions are off, the text has none from there on
pub record MayRead (options : ParseOptions) (text : List ℕ) (p : Point) : Type 0 where
  pub begins : BeginsPart text p
  pub notes : options.constructs.gfm_footnote_definition ≡ false → (labels_at options text p).footnotes ≡ []

-- the labels of some blocks that are listed: those of footnote definitions where these are on
abbrev pub labels_listed : ParseOptions → Labels → Labels
labels_listed options all = record {
  definitions = all.definitions;
  footnotes = if options.constructs.gfm_footnote_definition then all.footnotes else [];
}

-- What was read of a text from a point on to its end is this part, whose text parts are not read.
pub record IsPartRead (options : ParseOptions) (bytes : List ℕ) (p : Point) (part : Part) : Type 0 where
  pub are : part.events.items ≡ unread_at options bytes p
  pub list : IsBlockList bytes part.events.items
  pub covers : Covers p (pieces part.events.items) (end_point bytes)
  pub labels_are : labels_of part ≡ labels_listed options (labels_at options bytes p)

-- What is left of a text begins with these events of its front, if any, and the next part begins after them.
pub record AreAhead (options : ParseOptions) (text : List ℕ) (begun : Bool) (start : Option Point)
    (front : List Event) (next : Option Point) : Type 0 where
  pub blocks : unread_left options text begun start ≡ front ++ unread_after options text next
  pub events : events_left options text begun start ≡ front ++ events_after options text next
  -- none of these has a text part
  pub lines : lined wants_text text front ≡ front
  pub labels : labels_left options text begun start ≡ labels_after options text next
  pub laid : AreLaid text (place_left text begun start) front (point_after text next)
  pub may : (p : Point) → next ≡ Some p → MayRead options text p
