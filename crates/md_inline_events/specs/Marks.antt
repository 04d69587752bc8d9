-- Marks: what begins before a byte of a text, and what ends after it; and the events that they give.
use Rattle.std.specs.Prelude.{Bool, ◌&&◌, ℕ, not, List, [], ◌∷◌, ◌++◌}
use Rattle.md_engine.specs.declared.event.Event.{Event}
use Rattle.md_engine.specs.declared.event.Name.{Name}
use Rattle.md_engine.specs.declared.event.Point.{Point}
use Rattle.md_events.specs.Events.Inline.{is_inline, is_line_ending, pair_unless_empty}
use Rattle.md_events.specs.Events.Nested.{enter, exit}
use Rattle.md_events.specs.Events.Places.{past_byte}

-- What is before a byte: nothing, or parts that begin there, the outermost first, and the name of the piece that begins
-- with the byte.
pub data Front : Type 0 where
  passes : Front
  begins : List Name → Name → Front

-- What is after a byte: nothing, or the end of its piece and of parts, the innermost first.
pub data Back : Type 0 where
  stays : Back
  ends : List Name → Back

pub record Mark : Type 0 where
  pub front : Front
  pub back : Back

abbrev pub opens_in : Front → List Name
opens_in passes = []
opens_in (begins opens name) = opens

abbrev pub closes_in : Back → List Name
closes_in stays = []
closes_in (ends closes) = closes

-- Whether a name is one that a forest may have: `LineEnding` is given where a line ends, and nowhere else.
abbrev pub is_part_name : Name → Bool
is_part_name name = is_inline name && not (is_line_ending name)

-- Events.

-- parts begin at a point, or end there
abbrev pub entered : List Name → Point → List Event
entered [] p = []
entered (name ∷ names) p = enter name p ∷ entered names p

abbrev pub exited : List Name → Point → List Event
exited [] p = []
exited (name ∷ names) p = exit name p ∷ exited names p

-- what is before a byte at a point gives, where the piece before it has this name and began at `from`
abbrev pub front_events : Front → Name → Point → Point → List Event
front_events passes piece from at = []
front_events (begins opens name) piece from at = pair_unless_empty piece from at ++ entered opens at

-- where the piece of the byte began, and its name
abbrev pub front_from : Front → Point → Point → Point
front_from passes from at = from
front_from (begins opens name) from at = at

abbrev pub front_name : Front → Name → Name
front_name passes piece = piece
front_name (begins opens name) piece = name

-- what is after a byte gives
abbrev pub back_events : Back → Name → Point → Point → List Event
back_events stays piece from following = []
back_events (ends closes) piece from following = pair_unless_empty piece from following ++ exited closes following

abbrev pub back_from : Back → Point → Point → Point
back_from stays from following = from
back_from (ends closes) from following = following

-- The events of bytes on one line, from a point on: the piece that they begin in has this name, and began at `from`.
abbrev pub line_events : List ℕ → List Mark → Name → Point → Point → List Event
line_events [] marks piece from at = pair_unless_empty piece from at
line_events (byte ∷ line) [] piece from at = line_events line [] piece from (past_byte byte at)
line_events (byte ∷ line) (mark ∷ marks) piece from at =
    front_events mark.front piece from at
    ++ (back_events mark.back (front_name mark.front piece) (front_from mark.front from at) (past_byte byte at)
    ++ line_events line marks (front_name mark.front piece)
    (back_from mark.back (front_from mark.front from at) (past_byte byte at)) (past_byte byte at))

-- the name of the piece after some bytes
abbrev pub last_name : Name → List Mark → Name
last_name piece [] = piece
last_name piece (mark ∷ marks) = last_name (front_name mark.front piece) marks
