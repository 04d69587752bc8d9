-- The underline of a setext heading (CommonMark 4.3), as a leaf on one line that continues the text before it: with it
-- that text becomes a heading.
use Rattle.std.specs.Prelude.{ℕ, true, false, ◌&&◌, ◌==◌, if◌then◌else◌, List, []}
use Rattle.md_engine.specs.declared.event.Event.{Event}
use Rattle.md_engine.specs.declared.event.Name.TheVariants as n
use Rattle.md_engine.specs.declared.event.Point.{Point}
use Rattle.md_engine.specs.declared.state.Name.TheVariants as s
use Rattle.md_engine.specs.declared.state.flow.State.TheVariants as flow
use Rattle.md_engine.specs.declared.state.heading_setext.State.TheVariants as its
use Rattle.md_engine.specs.declared.tokenizer.held_leaf.HeldLeaf.TheVariants as held_leaf
use Rattle.md_leaves.specs.HeadingSetext.{is_text, may_begin, may_turn}
use Rattle.md_leaves.specs.HeadingSetextRule.{is_underline, is_underline_line, setext_at, underline_inside}
use Rattle.md_events.specs.Ahead.{line_end}
use Rattle.md_events.specs.Events.Nested.{around}
use Rattle.md_events.specs.Events.Places.{past_text}
use Rattle.md_meaning.specs.Ascii.{equals_sign}
use Rattle.md_meaning.specs.Leaves.{Finished}
use Rattle.md_meaning.specs.Rest.{Rest, has_small_indent, trim_start}
use Rattle.md_meaning.specs.Texts.{first_byte}
use Rattle.md_meaning.specs.Tree.{Block, Heading}
use Rattle.proof_frame.specs.Leaf.Paragraph.{left_of}
use Rattle.proof_frame.specs.LineLeaf.{LineLeaf}
use Rattle.proof_frame.specs.MarkRuns.{Apart, mark_runs}
use Rattle.proof_frame.specs.TurnLeaf.{TurnLeaf}

-- the depth of the heading that this line underlines
abbrev pub depth_of : Rest → ℕ
depth_of r = if first_byte (trim_start r.bytes) == equals_sign then 1 else 2

-- the heading of these lines
abbrev pub heading_of : List (List ℕ) → Rest → Block
heading_of lines r = Heading (depth_of r) lines

-- what it turns the text into
abbrev pub setext_turn : TurnLeaf
setext_turn = record { name = n.HeadingSetext; text = n.HeadingSetextText; block = heading_of }

-- an underline on a line that begins at this point
abbrev pub underline_line : List ℕ → Point → List Event
underline_line line p =
    around n.HeadingSetextUnderline p (past_text line p)
    (mark_runs n.HeadingSetextUnderlineSequence Apart (first_byte (trim_start line)) line p)

abbrev pub setext_leaf : LineLeaf
setext_leaf = record {
  start = s.HeadingSetext its.Start;
  before = flow.BeforeHeadingSetext;
  ends = false;
  stays_blank = false;
  further = is_text;
  asked = λ on. true;
  heads = false;
  may_begin = λ on white. may_begin;
  trial = setext_at;
  takes = λ options on cells. may_turn options on && is_underline_line options cells;
  adds = λ options on cells p. around n.HeadingSetextUnderline p (line_end cells p) (underline_inside options cells p);
  keeps = λ options on cells p. held_leaf.None;
  starts = λ options on r.
      may_turn options on && options.constructs.heading_setext && has_small_indent options r
      && is_underline (trim_start r.bytes);
  holds = λ options on r. held_leaf.None;
  becomes = λ options open_leaf r. Finished (heading_of (left_of options open_leaf) r);
  block = λ r. heading_of [] r;
  added = λ options on line p. underline_line line p;
  unread = underline_line;
  done = λ bytes line p. underline_line line p;
}
