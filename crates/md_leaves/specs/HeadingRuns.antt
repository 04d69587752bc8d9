-- What is on the line of an ATX heading, as events (CommonMark 4.2): runs of `#` and of whitespace, and the text.
use Rattle.std.specs.Prelude.{ℕ, Bool, false, ◌==◌, not, if◌then◌else◌, List, [], ◌∷◌, ◌++◌, length, take, drop}
use Rattle.std.specs.Prelude.{Option, Some, None}
use Rattle.md_engine.specs.declared.event.Content.TheVariants as content
use Rattle.md_engine.specs.declared.event.Event.{Event}
use Rattle.md_engine.specs.declared.event.Link.{Link}
use Rattle.md_engine.specs.declared.event.Name.TheVariants.{Data, HeadingAtxSequence, SpaceOrTab}
use Rattle.md_engine.specs.declared.event.Point.{Point}
use Rattle.md_meaning.specs.Leaves.{heading_text}
use Rattle.md_meaning.specs.Rest.{is_white}
use Rattle.md_events.specs.declared.inline.Chunk.{Chunk}
use Rattle.md_events.specs.Events.Nested.{enter, enter_link, exit}
use Rattle.md_events.specs.Events.Places.{past_byte, past_text}

-- in which run of a line a place lies
pub data Run : Type 0 where
  -- between two runs
  Apart : Run
  White : Run
  Hashes : Run

-- the run that begins with this byte: around the text of a heading are whitespace and `#` alone
abbrev pub begun : ℕ → Run
begun b = if is_white b then White else Hashes

-- whether a run continues with this byte
abbrev pub is_continued : Run → ℕ → Bool
is_continued Apart b = false
is_continued White b = is_white b
is_continued Hashes b = not (is_white b)

-- the events at the begin and at the end of a run
abbrev pub opens : Run → Point → List Event
opens Apart p = []
opens White p = enter SpaceOrTab p ∷ []
opens Hashes p = enter HeadingAtxSequence p ∷ []

abbrev pub closes : Run → Point → List Event
closes Apart p = []
closes White p = exit SpaceOrTab p ∷ []
closes Hashes p = exit HeadingAtxSequence p ∷ []

-- the runs that are left of a line: each is one part, as long as it can be
abbrev pub line_runs : Run → List ℕ → Point → List Event
line_runs run [] p = closes run p
line_runs run (b ∷ bs) p =
    if is_continued run b then line_runs run bs (past_byte b p)
    else closes run p ++ opens (begun b) p ++ line_runs (begun b) bs (past_byte b p)

-- what is text of a heading is read later
abbrev pub heading_link : Link
heading_link = record { previous = false; next = false; content = content.Text }

-- the chunk of a text of so many bytes, unless it is empty
abbrev pub chunk_unless_empty : ℕ → Point → Point → Option Chunk
chunk_unless_empty size p q = if size == 0 then None else Some (record { first = p; after = q })

-- the text of a heading as one part, before a resolver names it
abbrev pub linked_data : Option Chunk → List Event
linked_data None = []
linked_data (Some chunk) = enter_link Data chunk.first heading_link ∷ exit Data chunk.after ∷ []

-- the rest of a line after the opening sequence and its whitespace: the text, and the runs after it
abbrev pub text_events : List ℕ → Point → List Event
text_events line p =
    let size = length (heading_text line) in
    let end = past_text (take size line) p in
    linked_data (chunk_unless_empty size p end) ++ line_runs Apart (drop size line) end
