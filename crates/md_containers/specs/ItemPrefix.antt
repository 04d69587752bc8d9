-- A list item on a line, by the cells of the line: one that opens, and one that continues (CommonMark 5.2).
use Rattle.std.specs.Prelude.{◌≡◌, ℕ, zero, suc, ◌≤◌, Bool, true, false, ◌&&◌, ◌||◌, ◌==◌, not, nat_le, nat_lt}
use Rattle.std.specs.Prelude.{if◌then◌else◌, List, [], ◌∷◌, ◌++◌, Option, Some, None}
use Rattle.md_engine.specs.declared.configuration.ParseOptions.{ParseOptions}
use Rattle.md_engine.specs.declared.event.Event.{Event}
use Rattle.md_engine.specs.declared.event.Name.TheVariants.{ListItem, ListItemMarker, ListItemPrefix, ListItemValue}
use Rattle.md_engine.specs.declared.event.Name.TheVariants.{SpaceOrTab}
use Rattle.md_engine.specs.declared.event.Point.{Point}
use Rattle.md_engine.specs.declared.tokenizer.container.Container.{Container as Held}
use Rattle.md_engine.specs.Meaning.{Accepts, Cell, Here, Outcome, Refuses}
use Rattle.md_containers.specs.Item.{ends_value, width_here}
use Rattle.md_containers.specs.ItemRule.{digits_end, digits_rest, digits_size}
use Rattle.md_containers.specs.QuoteRule.{indent_events}
use Rattle.md_meaning.specs.Containers.{is_bullet, is_digit}
use Rattle.md_meaning.specs.Leaves.{is_rule}
use Rattle.md_meaning.specs.Rest.{is_blank}
use Rattle.md_meaning.specs.State.{Container, InItem}
use Rattle.md_events.specs.Ahead.{begins_white, line_bytes, white_end, white_rest, white_size}
use Rattle.md_events.specs.Events.Nested.{enter, exit, pair}
use Rattle.md_events.specs.Look.{first_seen}
use Rattle.md_events.specs.Spaces.{ends_line, small_indent}

-- an item, or a footnote definition, that opens or continues: as the line definition has it, the events before its
-- content, and what is left of the line after them, and where
pub record ItemPassed : Type 0 where
  pub container : Container
  pub events : List Event
  pub cells : List Cell
  pub point : Point

-- What is left after a marker, if that may be there: none, where the rest of the line is blank; else 1 to 4 columns of
-- whitespace, or one of more.
pub record Padded : Type 0 where
  pub events : List Event
  pub cells : List Cell
  pub point : Point
  -- whether the rest of the line is blank
  pub blank : Bool

-- how many columns belong to the item, where whitespace is
abbrev pub padding_room : List Cell → ℕ
padding_room cells = if begins_white (white_rest 4 cells) then 1 else 4

abbrev pub padding : List Cell → Point → Option Padded
padding cells p =
    if is_blank (line_bytes cells) then Some (record { events = []; cells = cells; point = p; blank = true })
    else if begins_white cells
    then Some (record {
      events = pair SpaceOrTab p (white_end (padding_room cells) cells p);
      cells = white_rest (padding_room cells) cells;
      point = white_end (padding_room cells) cells p;
      blank = false;
    })
    else None

-- An item that began at a point, with these digits, this marker and these events in front: after its padding,
abbrev pub item_closed : Bool → Point → List ℕ → ℕ → List Event → Bool → List Cell → Point → Option ItemPassed
item_closed interrupting from digits byte front blank cells p =
    if blank && interrupting then None
    else Some (record {
      container = InItem digits byte (width_here p.column from.column blank) blank;
      events = front ++ exit ListItemPrefix p ∷ [];
      cells = cells;
      point = p;
    })

abbrev pub item_padded : Bool → Point → List ℕ → ℕ → List Event → Option Padded → Option ItemPassed
item_padded interrupting from digits byte front None = None
item_padded interrupting from digits byte front (Some t) =
    item_closed interrupting from digits byte (front ++ t.events) t.blank t.cells t.point

-- at its marker, which is the first cell,
abbrev pub item_marked : Bool → Point → List ℕ → List Event → Cell → List Cell → Point → Option ItemPassed
item_marked interrupting from digits front c cs p =
    item_padded interrupting from digits c.byte (front ++ pair ListItemMarker p c.after) (padding cs c.after)

-- the bytes of the digits that come first, at most so many
abbrev pub digits_of : ℕ → List Cell → List ℕ
digits_of room [] = []
digits_of zero (c ∷ cs) = []
digits_of (suc room) (c ∷ cs) = if is_digit c.byte then c.byte ∷ digits_of room cs else []

-- after its digits, of which there are so many; text is interrupted by one alone,
abbrev pub item_numbered : Bool → Point → List ℕ → ℕ → List Event → List Cell → Point → Option ItemPassed
item_numbered interrupting from digits size front [] p = None
item_numbered interrupting from digits size front (c ∷ cs) p =
    if ends_value c.byte && (not interrupting || nat_lt size 2)
    then item_marked interrupting from digits front c cs p
    else None

-- at its digits,
abbrev pub item_valued : Bool → Point → List Event → List Cell → Point → Option ItemPassed
item_valued interrupting from front cells p =
    item_numbered interrupting from (digits_of 9 cells) (digits_size 9 cells)
    (front ++ enter ListItemPrefix p ∷ pair ListItemValue p (digits_end 9 cells p)) (digits_rest 9 cells)
    (digits_end 9 cells p)

-- and after its indent.
abbrev pub item_after : ParseOptions → Bool → Point → List Event → List Cell → Point → Option ItemPassed
item_after options interrupting from front [] p = None
item_after options interrupting from front (c ∷ cs) p =
    if is_bullet c.byte
    then if options.constructs.thematic_break && is_rule (line_bytes (c ∷ cs)) then None
    else item_marked interrupting from [] (front ++ enter ListItemPrefix p ∷ []) c cs p
    else if is_digit c.byte && (not interrupting || (c.byte == 49))
    then item_valued interrupting from front (c ∷ cs) p
    else None

-- the item that opens, if one does, where it would interrupt text or not
abbrev pub item_new : ParseOptions → Bool → List Cell → Point → Option ItemPassed
item_new options interrupting cells p =
    if options.constructs.list_item
    then item_after options interrupting p (enter ListItem p ∷ indent_events options cells p)
    (white_rest (small_indent options) cells) (white_end (small_indent options) cells p)
    else None

-- one that continues with nothing taken, and with so many columns
abbrev pub item_same : List ℕ → ℕ → ℕ → List Cell → Point → ItemPassed
item_same digits marker width cells p =
    record { container = InItem digits marker width false; events = []; cells = cells; point = p }

abbrev pub item_indented : List ℕ → ℕ → ℕ → List Cell → Point → ItemPassed
item_indented digits marker width cells p = record {
  container = InItem digits marker width false;
  events = pair SpaceOrTab p (white_end width cells p);
  cells = white_rest width cells;
  point = white_end width cells p;
}

-- an open item, if it continues
abbrev pub item_further : List ℕ → ℕ → ℕ → Bool → List Cell → Point → Option ItemPassed
item_further digits marker width blank cells p =
    if ends_line (first_seen cells) then if blank then None else Some (item_same digits marker width cells p)
    else if if is_blank (line_bytes cells) then not blank else nat_le width (white_size width cells)
    then Some (item_indented digits marker width cells p)
    else None

-- How it is held: beside its kind its width, and whether it started blank.
abbrev pub held_as : Held → Container → Held
held_as held (InItem digits marker width blank) = record held { width = width; starts_blank = blank }
held_as held _ = held

-- What the tokenizer holds of an open one: so much, and an item is a column wide at least.
abbrev pub item_holds : Held → Container → Type 0
item_holds held (InItem digits marker width blank) =
    (held.width ≡ width) × (held.starts_blank ≡ blank) × (1 ≤ width)
item_holds held _ = ⊥

-- taken where it opens or continues, and refused elsewhere
abbrev pub item_by : Option ItemPassed → Here → Outcome
item_by None h = Refuses h.scratch h.flags
item_by (Some t) h =
    Accepts
    (record h {
      events = h.events ++ t.events;
      point = t.point;
      flags = record h.flags { asked = held_as h.flags.asked t.container };
    })
    t.cells
