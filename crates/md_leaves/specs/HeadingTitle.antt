-- What is in an ATX heading, by the bytes of its line (CommonMark 4.2).
use Rattle.std.specs.Prelude.{ℕ, ◌+◌, List, ◌++◌, length, take, drop, Option}
use Rattle.std.specs.List.{prefix_len}
use Rattle.md_engine.specs.declared.event.Event.{Event}
use Rattle.md_engine.specs.declared.event.Point.{Point}
use Rattle.md_leaves.specs.HeadingRuns.{Apart, chunk_unless_empty, line_runs, linked_data}
use Rattle.md_leaves.specs.HeadingText.{linked_text}
use Rattle.md_events.specs.declared.inline.Chunk.{Chunk}
use Rattle.md_meaning.specs.Leaves.{heading_text}
use Rattle.md_events.specs.Events.Places.{past_text}
use Rattle.md_meaning.specs.Rest.{is_white, run_len}

-- The parts of a heading: its opening sequence with the whitespace around it, its text, and what follows that.
pub record Title : Type 0 where
  pub front : List Event
  pub text : Option Chunk
  pub back : List Event

-- how many bytes are before the text
abbrev pub front_len : List ℕ → ℕ
front_len line =
    let indent = prefix_len is_white line in
    let depth = run_len 35 (drop indent line) in
    indent + depth + prefix_len is_white (drop (indent + depth) line)

-- the text of a heading on this line
abbrev pub text_of : List ℕ → List ℕ
text_of line =
    let indent = prefix_len is_white line in
    let depth = run_len 35 (drop indent line) in
    heading_text (drop (indent + depth) line)

-- the parts of a heading on a line that begins at this point
abbrev pub title_of : List ℕ → Point → Title
title_of line p =
    let first = front_len line in
    let size = length (text_of line) in
    let begin = past_text (take first line) p in
    let end = past_text (take (first + size) line) p in
    record {
      front = line_runs Apart (take first line) p;
      text = chunk_unless_empty size begin end;
      back = line_runs Apart (drop (first + size) line) end;
    }

-- its events, with a text that is not read yet
abbrev pub unread_title : Title → List Event
unread_title title = title.front ++ linked_text title.text ++ title.back

-- and as the states of a heading leave them: its text has no name yet
abbrev pub flow_title : Title → List Event
flow_title title = title.front ++ linked_data title.text ++ title.back
