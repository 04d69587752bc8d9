-- A further line of fenced code and of math (CommonMark 4.5, own choice), as a leaf on one line: a closing fence, or
-- one more line of the block that is open.
use Rattle.std.specs.Prelude.{ℕ, true, false, if◌then◌else◌, List, [], ◌∷◌, ◌++◌, take, drop, None}
use Rattle.md_engine.specs.declared.configuration.ParseOptions.{ParseOptions}
use Rattle.md_engine.specs.declared.event.Event.{Event}
use Rattle.md_engine.specs.declared.event.Name.TheVariants as n
use Rattle.md_engine.specs.declared.event.Point.{Point}
use Rattle.md_engine.specs.declared.state.Name.TheVariants as s
use Rattle.md_engine.specs.declared.state.flow.State.TheVariants as flow
use Rattle.md_engine.specs.declared.state.raw_flow.State.TheVariants as its
use Rattle.md_engine.specs.declared.tokenizer.held_leaf.HeldLeaf.{HeldLeaf}
use Rattle.md_engine.specs.declared.tokenizer.held_leaf.HeldLeaf.TheVariants as held_leaf
use Rattle.md_engine.specs.Meaning.{Cell}
use Rattle.md_literal.specs.Fence.{block_name, chunk_name, fence_name, held_indent, held_marker, held_size}
use Rattle.md_literal.specs.Fence.{sequence_name}
use Rattle.md_literal.specs.FenceLine.{fence_continues, further_events}
use Rattle.md_literal.specs.FenceRule.{further_at}
use Rattle.md_leaves.specs.Further.{further_link}
use Rattle.md_events.specs.Events.Nested.{around, enter_link, exit, pair}
use Rattle.md_events.specs.Events.Places.{past_text}
use Rattle.md_meaning.specs.Leaves.{LeafResult, Opened, closes, fence_continued}
use Rattle.md_meaning.specs.Rest.{Rest, indent, run_len, trim_start}
use Rattle.md_meaning.specs.State.{Leaf, OpenFence, Opening, fence_block}
use Rattle.proof_frame.specs.LineColumns.{columns_part, lost_line, part_over, past_columns, rest_of}
use Rattle.proof_frame.specs.LineLeaf.{LineLeaf}
use Rattle.md_literal.specs.Fence.{is_open as is_fence}

-- What is held of the block.

-- its opening fence, as far as it is held
abbrev pub opening_of : HeldLeaf → Opening
opening_of on = record {
  marker = held_marker on;
  size = held_size on;
  indent = held_indent on;
  info = None;
  meta = None;
}

-- what is held of it after the line, by the cells of the line, and by its rest: nothing after a closing fence
abbrev pub further_keeps : ParseOptions → HeldLeaf → List Cell → HeldLeaf
further_keeps options on cells = if is_fence on then fence_continues options on cells else held_leaf.None

abbrev pub further_holds : ParseOptions → HeldLeaf → Rest → HeldLeaf
further_holds options on r =
    if is_fence on then (if closes options (opening_of on) r then held_leaf.None else on) else held_leaf.None

-- What is in the line, from the point where it begins to its end.

-- a closing fence: its sequence, and the whitespace after it
abbrev pub closing_part : ℕ → List ℕ → Point → Point → List Event
closing_part m text p q =
    let size = run_len m text in
    let end = past_text (take size text) p in
    around (fence_name m) p q (pair (sequence_name m) p end ++ part_over n.SpaceOrTab (drop size text) end q)

-- the line with a closing fence, after its indent, and any other: what it loses, and what is left of it
abbrev pub closing_line : ℕ → Rest → Point → Point → List Event
closing_line m r p q =
    columns_part (indent r) r p ++ closing_part m (trim_start r.bytes) (past_columns (indent r) r p) q

abbrev pub chunk_line : ℕ → ℕ → Rest → Point → Point → List Event
chunk_line m lost r p q = lost_line (chunk_name m) lost r p q

abbrev pub further_parts : ParseOptions → HeldLeaf → Rest → Point → Point → List Event
further_parts options on r p q =
    let m = held_marker on in
    if closes options (opening_of on) r then closing_line m r p q else chunk_line m (held_indent on) r p q

-- the whole line, which is linked to the one in front
abbrev pub further_line : ParseOptions → HeldLeaf → List ℕ → Point → List Event
further_line options on line p =
    let name = block_name (held_marker on) in
    let q = past_text line p in
    enter_link name p further_link ∷ further_parts options on (rest_of p line) p q ++ exit name q ∷ []

-- what an open block becomes with the line
abbrev pub fence_becomes : ParseOptions → Leaf → Rest → LeafResult
fence_becomes options (OpenFence o lines) r = fence_continued options o lines r
fence_becomes options leaf r = Opened leaf

-- By itself it is no block, and it has no text parts: what it is with the lines before it shows when they are joined,
-- so its block and its events after that are not asked.
abbrev pub fence_further : LineLeaf
fence_further = record {
  start = s.RawFlow its.AtNonLazyBreak;
  before = flow.Start;
  ends = false;
  stays_blank = false;
  further = λ on. is_fence on;
  asked = λ on. is_fence on;
  heads = false;
  may_begin = λ on white b. true;
  trial = further_at;
  takes = λ options on cells. is_fence on;
  adds = λ options on cells p. further_events options on cells p;
  keeps = λ options on cells p. further_keeps options on cells;
  starts = λ options on r. is_fence on;
  holds = λ options on r. further_holds options on r;
  becomes = λ options open_leaf r. fence_becomes options open_leaf r;
  block = λ r. fence_block (opening_of held_leaf.None) [] false;
  added = λ options on line p. further_line options on line p;
  unread = λ line p. [];
  done = λ bytes line p. [];
}
