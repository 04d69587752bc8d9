-- The front of a text, by its lines: its byte order mark and its frontmatter, and where its body begins.
use Rattle.std.specs.Prelude.{ℕ, ◌+◌, if◌then◌else◌, List, [], ◌∷◌, ◌++◌, length, take, drop, Option, Some, None}
use Rattle.std.specs.Option.{option_map}
use Rattle.md_engine.specs.declared.configuration.ParseOptions.{ParseOptions}
use Rattle.md_engine.specs.declared.event.Event.{Event}
use Rattle.md_engine.specs.declared.event.Name.TheVariants as n
use Rattle.md_engine.specs.declared.event.Point.{Point}
use Rattle.md_engine.specs.Place.{first_point}
use Rattle.md_meaning.specs.Lines.{full_lines_of, without_ending}
use Rattle.md_meaning.specs.Preamble.{front_marker, has_mark, is_front_fence, without_mark}
use Rattle.md_events.specs.Events.Nested.{around, enter, exit, pair}
use Rattle.md_events.specs.Events.Places.{past_text}
use Rattle.proof_frame.specs.LineColumns.{part_over}

-- The mark.

-- after a mark: each of its bytes is a column
abbrev pub mark_end : Point
mark_end = record { line = 1; column = 4; index = 3; vs = 0 }

-- after the mark of a text, or where the text begins
abbrev pub mark_point : List ℕ → Point
mark_point text = if has_mark text then mark_end else first_point

-- the events of a mark, if there is one
abbrev pub mark_events : List ℕ → List Event
mark_events text = if has_mark text then pair n.ByteOrderMark first_point mark_end else []

-- The parts of frontmatter.

-- a fence over this line: its three markers, and the whitespace after them
abbrev pub fence_part : List ℕ → Point → List Event
fence_part line p =
    let q = past_text (take 3 line) p in
    let r = past_text line p in
    around n.FrontmatterFence p r (pair n.FrontmatterSequence p q ++ part_over n.SpaceOrTab (drop 3 line) q r)

-- a line between the fences, if it is not empty
abbrev pub line_part : List ℕ → Point → List Event
line_part line p = part_over n.FrontmatterChunk line p (past_text line p)

-- the ending of a line, or nothing where the text ends
abbrev pub ending_of : List ℕ → List ℕ
ending_of full = drop (length (without_ending full)) full

-- after an ending
abbrev pub past_ending : List ℕ → Point → Point
past_ending [] p = p
past_ending (b ∷ bs) p = record { line = p.line + 1; column = 1; index = p.index + length (b ∷ bs); vs = 0 }

abbrev pub ending_part : List ℕ → Point → List Event
ending_part [] p = []
ending_part (b ∷ bs) p = pair n.LineEnding p (past_ending (b ∷ bs) p)

-- The lines, each with its ending.

-- events, and where the body begins after them
pub record FrontRead : Type 0 where
  pub events : List Event
  pub point : Point

abbrev pub after_these : List Event → FrontRead → FrontRead
after_these events f = record f { events = events ++ f.events }

-- what is left of frontmatter with this marker: lines up to the first that is such a fence, and the ending of that
abbrev pub lines_read : ℕ → List (List ℕ) → Point → Option FrontRead
lines_read m [] p = None
lines_read m (full ∷ more) p =
    let line = without_ending full in
    let ending = ending_of full in
    let q = past_text line p in
    if is_front_fence m line
    then Some
    (record {
      events = fence_part line p ++ exit n.Frontmatter q ∷ ending_part ending q;
      point = past_ending ending q;
    })
    else option_map (after_these (line_part line p ++ ending_part ending q))
    (lines_read m more (past_ending ending q))

-- frontmatter whose first line is this, if that is a fence of this marker
abbrev pub front_from : Option ℕ → List ℕ → List (List ℕ) → Point → Option FrontRead
front_from None full more p = None
front_from (Some m) full more p =
    let line = without_ending full in
    let ending = ending_of full in
    let q = past_text line p in
    option_map (after_these (enter n.Frontmatter p ∷ fence_part line p ++ ending_part ending q))
    (lines_read m more (past_ending ending q))

-- that of these lines, if it is on
abbrev pub front_read : ParseOptions → List (List ℕ) → Point → Option FrontRead
front_read options [] p = None
front_read options (full ∷ more) p =
    if options.constructs.frontmatter then front_from (front_marker (without_ending full)) full more p else None

-- The front of a text.

-- its frontmatter, if there is any
unfoldable pub text_front : ParseOptions → List ℕ → Option FrontRead
text_front options text = front_read options (full_lines_of (without_mark text)) (mark_point text)

abbrev pub events_of : Option FrontRead → List Event
events_of None = []
events_of (Some f) = f.events

abbrev pub point_or : Point → Option FrontRead → Point
point_or p None = p
point_or p (Some f) = f.point

-- where the lines of its body begin
abbrev pub body_point : ParseOptions → List ℕ → Point
body_point options text = point_or (mark_point text) (text_front options text)

-- the events before them
abbrev pub front_events : ParseOptions → List ℕ → List Event
front_events options text = mark_events text ++ events_of (text_front options text)
