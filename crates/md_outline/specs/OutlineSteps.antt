-- What an outline has read between two events.
use Rattle.std.specs.Prelude.{◌≡◌, ℕ, ◌+◌, ◌-◌, ◌++◌, Bool, true, false, List, [], ◌∷◌, slice_range, Option, Some, None}
use Rattle.std.specs.Prelude.{◌||◌, get_or, if◌then◌else◌, length, nat_lt, option_map, set}
use Rattle.std.specs.Str.{IsUtf8}
use Rattle.md_engine.specs.declared.event.Event.{Event}
use Rattle.md_engine.specs.declared.event.Kind.{Kind}
use Rattle.md_engine.specs.declared.event.Kind.TheVariants.{Enter, Exit}
use Rattle.md_engine.specs.declared.event.Point.{Point}
use Rattle.md_meaning.specs.Outline.{Entry, entries_of, entry, entry_with}
use Rattle.md_meaning.specs.Texts.{first_byte}
use Rattle.md_meaning.specs.declared.outline.Word.{Word}
use Rattle.md_meaning.specs.declared.outline.Word.TheVariants as word
use Rattle.md_events.specs.Events.Spelled.{OpenLeaf, kind_at}
use Rattle.md_events.specs.Events.Spelled as spelled
use Rattle.md_outline.specs.AlertState.{kind_given}
use Rattle.md_outline.specs.Between.{is_between}
use Rattle.md_outline.specs.DefinitionState.{destination_recorded, part_ended, part_parted, part_word}
use Rattle.md_outline.specs.FootnoteState.{container_lines, label_recorded}
use Rattle.md_outline.specs.LinedState.{begin_lines, closed_word, filled_line, form_of, has_own_lines, is_heading}
use Rattle.md_outline.specs.LinedState.{marked_word, now_recorded, shown_spaces, with_head, without_end}
use Rattle.md_outline.specs.ParagraphState.{begin_entries}
use Rattle.md_outline.specs.Roles.{leaf_entries, leaf_of, noted, shown_as}
use Rattle.md_outline.specs.TableState.{cell_recorded, counted_word, with_cell, with_delimiter, with_row}
use Rattle.md_outline.specs.TextLines.{full_entries, text_entries}
use Rattle.md_outline.specs.declared.outline.Reading.{Reading}
use Rattle.md_outline.specs.declared.outline.TextSpan.{TextSpan}
use Rattle.md_outline.specs.declared.outline.lined.Lined.{Lined}
use Rattle.md_outline.specs.declared.outline.role.Note.{Note}
use Rattle.md_outline.specs.declared.outline.role.Note.TheVariants as note
use Rattle.md_outline.specs.declared.outline.role.Purpose.{Purpose}
use Rattle.md_outline.specs.declared.outline.role.Purpose.TheVariants as purpose
use Rattle.md_outline.specs.declared.outline.role.Role.{Role}
use Rattle.md_outline.specs.declared.outline.role.Role.TheVariants as role

-- What was read between two events: how many containers are open, the leaf that is, the text that is read, the list
-- that is not said its marker yet, and the lines so far.
pub record OutlineState : Type 0 where
  pub depth : ℕ
  pub leaf : Option OpenLeaf
  pub text : Option TextSpan
  -- the virtual spaces before it
  pub spaces : ℕ
  -- the leaf block of several lines that is open
  pub lined : Option Lined
  -- the line of a list that has begun, as long as its marker is not known
  pub untold : Option ℕ
  pub lines : List Entry

abbrev pub state_of : Reading → OutlineState
state_of r = record {
  depth = r.depth;
  leaf = option_map leaf_of r.leaf;
  text = r.text;
  spaces = r.spaces;
  lined = r.lined;
  untold = r.untold;
  lines = entries_of r.lines.items;
}

-- before the first event
abbrev pub before_all : OutlineState
before_all = record { depth = 0; leaf = None; text = None; spaces = 0; lined = None; untold = None; lines = [] }

abbrev pub leaf_ended : Option OpenLeaf → OutlineState → OutlineState
leaf_ended None s = s
leaf_ended (Some leaf) s = record s { leaf = None; lines = s.lines ++ leaf_entries s.depth leaf }

-- an open leaf is said of a text
abbrev pub recorded_leaf : Note → List ℕ → OutlineState → OutlineState
recorded_leaf x text s = record s { leaf = option_map (noted x text) s.leaf }

-- the line of a list with its marker
abbrev pub with_marker : ℕ → List ℕ → List Entry → List Entry
with_marker place text lines =
    set lines place (record (get_or lines place (entry 0 word.Item)) { word = word.List (first_byte text) })

-- a list that has begun is said the marker of its first item
abbrev pub marked_at : Option ℕ → List ℕ → OutlineState → OutlineState
marked_at None text s = s
marked_at (Some place) text s = record s { untold = None; lines = with_marker place text s.lines }

abbrev pub recorded_marker : List ℕ → OutlineState → OutlineState
recorded_marker text s = marked_at s.untold text s

-- a heading is open whose lines are shown as they come
abbrev pub is_titled : Option Lined → Bool
is_titled None = false
is_titled (Some lined) = is_heading lined.form

-- the text of a heading ends: its last lines are shown, or all of it is said
abbrev pub title_recorded : Bool → List ℕ → OutlineState → OutlineState
title_recorded true text s = record s { lines = s.lines ++ text_entries (s.depth + 1) text }
title_recorded false text s = recorded_leaf note.Title text s

-- a leaf block of several lines is said the markers of its first fence, or of its underline
abbrev pub head_marked : Option Lined → List ℕ → OutlineState → OutlineState
head_marked None text s = s
head_marked (Some lined) text s = if lined.is_fenced then s else record s {
  lined = Some (record lined { is_fenced = true });
  lines = with_head (marked_word (first_byte text)) lined.place s.lines;
}

-- a fence begins: a further one closes it, and the line on which it is is none
abbrev pub fence_begun : Option Lined → OutlineState → OutlineState
fence_begun None s = s
fence_begun (Some lined) s =
    if lined.is_fenced then record s { lines = with_head closed_word lined.place (without_end s.lines) } else s

-- a line ending opens a line of it if its lines are its own, the text continues after that, and no text is read
abbrev pub line_ended : List ℕ → ℕ → Option Lined → Option TextSpan → OutlineState → OutlineState
line_ended bytes end None text s = s
line_ended bytes end (Some lined) (Some text) s = s
line_ended bytes end (Some lined) None s =
    if has_own_lines lined.form then
    (if nat_lt end (length bytes) then record s { lines = s.lines ++ entry (s.depth + 1) word.Line ∷ [] } else s)
    else s

-- the label of a definition ends: its last lines are shown, and its destination, which is empty yet
abbrev pub label_ended : Bool → List ℕ → OutlineState → OutlineState
label_ended is_parted text s = record s {
  lined = now_recorded s.lined;
  lines =
      part_ended word.Label is_parted (s.depth + 1) text s.lines ++ entry (s.depth + 1) word.Destination ∷ [];
}

-- a cell of a table is counted if it is one of the head: one before the delimiter row
abbrev pub counted_at : Option Lined → OutlineState → OutlineState
counted_at None s = s
counted_at (Some lined) s =
    if lined.is_fenced then s else record s { lines = with_head counted_word lined.place s.lines }

-- a cell begins
abbrev pub with_empty : OutlineState → OutlineState
with_empty s = record s { lines = with_cell s.depth s.lines }

abbrev pub cell_begun : OutlineState → OutlineState
cell_begun s = with_empty (counted_at s.lined s)

-- the delimiter row of a table ends
abbrev pub delimiter_ended : List ℕ → OutlineState → OutlineState
delimiter_ended text s = record s { lined = now_recorded s.lined; lines = with_delimiter s.depth text s.lines }

-- a text has ended, with this piece
abbrev pub recorded : Purpose → Bool → List ℕ → OutlineState → OutlineState
recorded purpose.Block is_shown text s =
    record s { lines = s.lines ++ begin_entries s.depth is_shown ++ text_entries (s.depth + 1) text }
recorded purpose.Title is_shown text s = title_recorded (is_titled s.lined) text s
recorded purpose.Markers is_shown text s = head_marked s.lined text (recorded_leaf note.Markers text s)
recorded (purpose.Part w) is_shown text s = record s { lines = s.lines ++ entry_with (s.depth + 1) w text ∷ [] }
recorded purpose.Line is_shown text s =
    record s { lines = without_end s.lines ++ filled_line (s.depth + 1) (shown_spaces s.lined s.spaces) text ∷ [] }
recorded purpose.Label is_shown text s = label_ended is_shown text s
recorded purpose.Destination is_shown text s = record s { lines = destination_recorded (s.depth + 1) text s.lines }
recorded purpose.DefinitionTitle is_shown text s =
    record s { lines = part_ended word.Title is_shown (s.depth + 1) text s.lines }
recorded purpose.Cell is_shown text s = record s { lines = cell_recorded s.depth text s.lines }
recorded purpose.Delimiter is_shown text s = delimiter_ended text s
recorded purpose.Marker is_shown text s = recorded_marker text s
recorded purpose.Digits is_shown text s = s
recorded purpose.FootnoteLabel is_shown text s = record s { lines = label_recorded s.depth text s.lines }

abbrev pub recorded_at : List ℕ → Purpose → ℕ → Option TextSpan → OutlineState → OutlineState
recorded_at bytes purpose end None s = s
recorded_at bytes purpose end (Some text) s =
    recorded purpose text.is_parted (slice_range bytes text.from end) (record s { text = None })

-- what is before a prefix is shown: in a part of a definition that this word shows, or in another text
abbrev pub piece_shown : Option Word → Bool → Bool → ℕ → List ℕ → List Entry → List Entry
piece_shown None is_begun is_parted depth text lines =
    lines ++ begin_entries depth is_begun ++ full_entries (depth + 1) text
piece_shown (Some w) is_begun is_parted depth text lines = part_parted w is_parted (depth + 1) text lines

-- a prefix begins
abbrev pub parted_at : List ℕ → ℕ → Option TextSpan → OutlineState → OutlineState
parted_at bytes end None s = s
parted_at bytes end (Some text) s = record s {
  text = Some (record text { is_parted = true });
  lines =
      piece_shown (part_word s.lined) (is_titled s.lined || text.is_parted) text.is_parted s.depth
      (slice_range bytes text.from end) s.lines;
}

-- a marker of a quote begins: where no text is read and no leaf block is open, it may give the quote its kind
abbrev pub marker_begun : List ℕ → ℕ → Option TextSpan → Option OpenLeaf → Option Lined → OutlineState → OutlineState
marker_begun bytes index None None None s = record s { lines = kind_given (kind_at bytes index) s.depth s.lines }
marker_begun bytes index text leaf lined s = s

-- a text begins
abbrev pub text_begun : Point → OutlineState → OutlineState
text_begun p s = record s {
  text = Some
      (record { from = spelled.byte_at p; is_parted = false });
  spaces = spelled.columns_left p;
}

abbrev pub state_enter : List ℕ → Role → Point → OutlineState → OutlineState
state_enter bytes (role.Container word) p s = record s {
  depth = s.depth + 1;
  lines = s.lines ++ container_lines s.depth word;
}
state_enter bytes role.List p s = record s {
  depth = s.depth + 1;
  untold = Some (length s.lines);
  lines = s.lines ++ entry s.depth (word.List 0) ∷ [];
}
state_enter bytes role.Prefix p s = parted_at bytes p.index s.text s
state_enter bytes (role.Leaf leaf) p s = record s { leaf = Some (leaf_of leaf) }
state_enter bytes (role.Lined w) p s = record s {
  leaf = None;
  lined = Some (record { place = length s.lines; is_fenced = false; form = form_of w });
  lines = s.lines ++ begin_lines s.depth w;
}
state_enter bytes role.Fence p s = fence_begun s.lined s
state_enter bytes role.Title p s = record s { lines = s.lines ++ entry (s.depth + 1) word.Title ∷ [] }
state_enter bytes role.Row p s = record s { lines = with_row s.depth s.lines }
state_enter bytes role.Cell p s = cell_begun s
state_enter bytes (role.Text purpose) p s = record s {
  text = Some
      (record { from = spelled.byte_at p; is_parted = false });
  spaces = spelled.columns_left p;
}
state_enter bytes role.Ending p s = s
state_enter bytes role.QuoteMarker p s = marker_begun bytes p.index s.text s.leaf s.lined s
state_enter bytes role.Quiet p s = s

abbrev pub state_exit : List ℕ → Role → Point → OutlineState → OutlineState
state_exit bytes (role.Container word) p s = record s { depth = s.depth - 1 }
state_exit bytes role.List p s = record s { depth = s.depth - 1 }
state_exit bytes role.Prefix p s = record s {
  text = option_map
      (λ (t : TextSpan). record t { from = spelled.byte_at p }) s.text;
}
state_exit bytes (role.Leaf leaf) p s = leaf_ended s.leaf s
state_exit bytes (role.Lined w) p s = record s { lined = None }
state_exit bytes role.Fence p s = s
state_exit bytes role.Title p s = s
state_exit bytes role.Row p s = s
state_exit bytes role.Cell p s = s
state_exit bytes role.Ending p s = line_ended bytes p.index s.lined s.text s
state_exit bytes (role.Text purpose) p s = recorded_at bytes purpose p.index s.text s
state_exit bytes role.QuoteMarker p s = s
state_exit bytes role.Quiet p s = s

abbrev pub state_by : List ℕ → Kind → Role → Point → OutlineState → OutlineState
state_by bytes Enter x p s = state_enter bytes x p s
state_by bytes Exit x p s = state_exit bytes x p s

abbrev pub state_after : List ℕ → OutlineState → List Event → OutlineState
state_after bytes s [] = s
state_after bytes s (e ∷ es) = state_after bytes (state_by bytes e.kind (shown_as (spelled.role e.name)) e.point s) es

-- the text that is read begins, or continues, between characters
abbrev pub BeginsBetween : List ℕ → Option TextSpan → Type 0
BeginsBetween bytes None = Unit {0}
BeginsBetween bytes (Some text) = is_between bytes text.from ≡ true

-- and it may be cut here: each part is UTF-8
pub record IsCutAt (bytes : List ℕ) (text : Option TextSpan) (end : ℕ) : Type 0 where
  pub utf8 : IsUtf8 bytes
  pub begins : BeginsBetween bytes text
  pub ends : is_between bytes end ≡ true

-- where the tree reads the point of an event, it may
abbrev pub IsCutBy : Role → List ℕ → Option TextSpan → ℕ → Type 0
IsCutBy role.Ending bytes text end = Unit {0}
IsCutBy role.QuoteMarker bytes text end = Unit {0}
IsCutBy role.Quiet bytes text end = Unit {0}
IsCutBy _ bytes text end = IsCutAt bytes text end
