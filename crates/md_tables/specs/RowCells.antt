-- A row of a table with its cells, by the bytes of its line (GFM 4.10).
--
-- The line is cut at its pipes, as the line definition cuts it: a pipe that a backslash takes does not divide, and one
-- at the end begins no cell. The pipe before a cell belongs to it, and the last one to the last cell. In a cell the
-- text reaches from the first word to the last, with whitespace around it, and an empty cell has no text.
use Rattle.std.specs.Prelude.{ℕ, Bool, true, false, ◌==◌, if◌then◌else◌, List, [], ◌∷◌, ◌++◌, take, drop, length}
use Rattle.std.specs.List.{prefix_len}
use Rattle.md_engine.specs.declared.event.Event.{Event}
use Rattle.md_engine.specs.declared.event.Name.{Name}
use Rattle.md_engine.specs.declared.event.Name.TheVariants as n
use Rattle.md_engine.specs.declared.event.Point.{Point}
use Rattle.md_meaning.specs.Ascii.{backslash, pipe}
use Rattle.md_meaning.specs.Bytes.{after_optional}
use Rattle.md_meaning.specs.Lines.{begins_with}
use Rattle.md_meaning.specs.Rest.{is_blank, is_white, trim, trim_end, trim_start}
use Rattle.md_events.specs.declared.inline.PartKind.TheVariants as kind
use Rattle.md_events.specs.Events.Inline.{plain_events}
use Rattle.md_events.specs.Events.Nested.{around, enter_link, exit, pair}
use Rattle.md_events.specs.Events.Places.{past_byte, past_text}
use Rattle.md_tables.specs.Row.{text_link}
pub use Rattle.md_tables.specs.GfmTableLine.{row_runs}

-- The cells of a row after its first pipe, if it begins with one. Each has its text with the whitespace around it.
pub data Cells : Type 0 where
  -- the last one, with which the row ends
  Ends : List ℕ → Cells
  -- the last one, the pipe that ends it, and the whitespace after that
  Shut : List ℕ → List ℕ → Cells
  -- one, and those after the next pipe
  Divides : List ℕ → Cells → Cells

-- with this byte before the first
abbrev pub onto : ℕ → Cells → Cells
onto b (Ends cell) = Ends (b ∷ cell)
onto b (Shut cell white) = Shut (b ∷ cell) white
onto b (Divides cell cells) = Divides (b ∷ cell) cells

-- after a pipe, by these bytes and the cells in them
abbrev pub after_pipe : List ℕ → Cells → Cells
after_pipe bs cells = if is_blank bs then Shut [] bs else Divides [] cells

-- the cells of what is left of a line; `escaped` says that a backslash takes the byte that is next
unfoldable pub cells_of : Bool → List ℕ → Cells
cells_of escaped [] = Ends []
cells_of true (b ∷ bs) = onto b (cells_of false bs)
cells_of false (b ∷ bs) =
    if b == pipe then after_pipe bs (cells_of false bs) else onto b (cells_of (b == backslash) bs)

-- The events.

-- the whitespace before the first word, and after the last
abbrev pub white_front : List ℕ → List ℕ
white_front cell = take (prefix_len is_white cell) cell

abbrev pub white_back : List ℕ → List ℕ
white_back bytes = drop (length (trim_end bytes)) bytes

-- whitespace, if there is some
abbrev pub white_part : List ℕ → Point → List Event
white_part [] p = []
white_part (b ∷ bs) p = pair n.SpaceOrTab p (past_text (b ∷ bs) p)

-- a text, if there is some, by what is said of it from point to point
abbrev pub text_part : (Point → Point → List Event) → List ℕ → Point → List Event
text_part said [] p = []
text_part said (b ∷ bs) p =
    let q = past_text (b ∷ bs) p in around n.GfmTableCellText p q (said p q)

-- what a cell holds: this part, if it holds more than whitespace, with the whitespace around it
abbrev pub cell_by : (List ℕ → Point → List Event) → List ℕ → Point → List Event
cell_by part cell p =
    let q = past_text (white_front cell) p in
    white_part (white_front cell) p
    ++ (part (trim cell) q ++ white_part (white_back (trim_start cell)) (past_text (trim cell) q))

-- where that is a text
abbrev pub cell_inside : (Point → Point → List Event) → List ℕ → Point → List Event
cell_inside said cell p = cell_by (text_part said) cell p

-- a pipe
abbrev pub pipe_part : Point → List Event
pipe_part p = pair n.GfmTableCellDivider p (past_byte pipe p)

-- before a cell, if there is one
abbrev pub first_pipe : Bool → Point → List Event
first_pipe true p = pipe_part p
first_pipe false p = []

abbrev pub past_pipe : Bool → Point → Point
past_pipe true p = past_byte pipe p
past_pipe false p = p

-- the cells from a point on, by their name and what they hold; `piped` says that a pipe is before the first
abbrev pub cells_by : Name → (List ℕ → Point → List Event) → Bool → Cells → Point → List Event
cells_by name part piped (Ends cell) p =
    let q = past_pipe piped p in
    around name p (past_text cell q) (first_pipe piped p ++ cell_by part cell q)
cells_by name part piped (Shut cell white) p =
    let q = past_pipe piped p in
    let end = past_text cell q in
    around name p (past_byte pipe end) (first_pipe piped p ++ (cell_by part cell q ++ pipe_part end))
    ++ white_part white (past_byte pipe end)
cells_by name part piped (Divides cell cells) p =
    let q = past_pipe piped p in
    around name p (past_text cell q) (first_pipe piped p ++ cell_by part cell q)
    ++ cells_by name part true cells (past_text cell q)

-- where they hold texts
abbrev pub cells_events : (Point → Point → List Event) → Bool → Cells → Point → List Event
cells_events said piped cells p = cells_by n.GfmTableCell (text_part said) piped cells p

-- the cells of a line that begins with no whitespace
abbrev pub line_cells : List ℕ → Cells
line_cells line = cells_of false (after_optional pipe line)

-- a row on a line that is not blank, with the whitespace before it
abbrev pub row_by : Name → (List ℕ → Point → List Event) → List ℕ → Point → List Event
row_by name part line p =
    white_part (white_front line) p
    ++ cells_by name part (begins_with pipe (trim_start line)) (line_cells (trim_start line))
    (past_text (white_front line) p)

abbrev pub row_events : (Point → Point → List Event) → List ℕ → Point → List Event
row_events said line p = row_by n.GfmTableCell (text_part said) line p

-- What is said of a text: that it is read later, and what the plain layer reads in it.
abbrev pub unread_text : Point → Point → List Event
unread_text p q = enter_link n.Data p text_link ∷ exit n.Data q ∷ []

abbrev pub read_text : List ℕ → Point → Point → List Event
read_text bytes p q = plain_events bytes (record { kind = kind.Text; chunks = (record { first = p; after = q }) ∷ [] })
