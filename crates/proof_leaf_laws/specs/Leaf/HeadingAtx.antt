-- ATX headings (CommonMark 4.2), as a leaf on one line.
use Rattle.std.specs.Prelude.{ℕ, true, false, ◌&&◌, List, [], ◌∷◌, ◌++◌, drop, Option, Some, None}
use Rattle.md_engine.specs.declared.event.Event.{Event}
use Rattle.md_engine.specs.declared.event.Name.TheVariants as n
use Rattle.md_engine.specs.declared.event.Point.{Point}
use Rattle.md_engine.specs.declared.state.Name.TheVariants as s
use Rattle.md_engine.specs.declared.state.flow.State.TheVariants as flow
use Rattle.md_engine.specs.declared.state.heading_atx.State.TheVariants as its
use Rattle.md_engine.specs.declared.tokenizer.held_leaf.HeldLeaf.TheVariants as held_leaf
use Rattle.md_leaves.specs.Heading.{may_begin}
use Rattle.md_leaves.specs.HeadingRule.{heading_at, heading_inside, is_heading, is_heading_line}
use Rattle.md_leaves.specs.HeadingTitle.{Title, flow_title, title_of, unread_title}
use Rattle.md_events.specs.declared.inline.Chunk.{Chunk}
use Rattle.md_events.specs.declared.inline.PartKind.TheVariants.{Text}
use Rattle.md_events.specs.Ahead.{line_end}
use Rattle.md_events.specs.Events.Inline.{plain_events}
use Rattle.md_events.specs.Events.Nested.{around}
use Rattle.md_events.specs.Events.Places.{past_text}
use Rattle.md_meaning.specs.Leaves.{Finished, heading_lines, heading_text}
use Rattle.md_meaning.specs.Rest.{Rest, has_small_indent, run_len, trim_start}
use Rattle.md_meaning.specs.Tree.{Block, Heading}
use Rattle.proof_frame.specs.LineLeaf.{LineLeaf}

-- the text of a heading, once it is read
abbrev pub read_text : List ℕ → Option Chunk → List Event
read_text bytes None = []
read_text bytes (Some chunk) =
    around n.HeadingAtxText chunk.first chunk.after (plain_events bytes (record { kind = Text; chunks = chunk ∷ [] }))

-- its parts, once its text is read
abbrev pub read_title : List ℕ → Title → List Event
read_title bytes title = title.front ++ read_text bytes title.text ++ title.back

-- the heading after the indent of a line
abbrev pub heading_block : Rest → Block
heading_block r =
    let text = trim_start r.bytes in
    let depth = run_len 35 text in
    Heading depth (heading_lines (heading_text (drop depth text)))

-- a heading with these parts, on a line that begins at this point
abbrev pub heading_around : List ℕ → Point → List Event → List Event
heading_around line p inside = around n.HeadingAtx p (past_text line p) inside

abbrev pub heading_leaf : LineLeaf
heading_leaf = record {
  start = s.HeadingAtx its.Start;
  before = flow.BeforeHeadingAtx;
  ends = true;
  stays_blank = false;
  further = λ on. false;
  asked = λ on. true;
  heads = false;
  may_begin = λ on white. may_begin;
  trial = heading_at;
  takes = λ options on cells. is_heading_line options cells;
  adds = λ options on cells p. around n.HeadingAtx p (line_end cells p) (heading_inside options cells p);
  keeps = λ options on cells p. held_leaf.None;
  starts =
      λ options on r. options.constructs.heading_atx && has_small_indent options r && is_heading (trim_start r.bytes);
  holds = λ options on r. held_leaf.None;
  becomes = λ options open_leaf r. Finished (heading_block r);
  block = heading_block;
  added = λ options on line p. heading_around line p (flow_title (title_of line p));
  unread = λ line p. heading_around line p (unread_title (title_of line p));
  done = λ bytes line p. heading_around line p (read_title bytes (title_of line p));
}
