-- Thematic breaks (CommonMark 4.1), as a leaf on one line.
use Rattle.std.specs.Prelude.{ℕ, Bool, true, false, ◌&&◌, not, if◌then◌else◌, List, [], ◌∷◌, ◌++◌}
use Rattle.md_engine.specs.declared.configuration.ParseOptions.{ParseOptions}
use Rattle.md_engine.specs.declared.event.Event.{Event}
use Rattle.md_engine.specs.declared.event.Name.TheVariants as n
use Rattle.md_engine.specs.declared.event.Point.{Point}
use Rattle.md_engine.specs.declared.state.Name.TheVariants as s
use Rattle.md_engine.specs.declared.state.flow.State.TheVariants as flow
use Rattle.md_engine.specs.declared.state.thematic_break.State.TheVariants as its
use Rattle.md_engine.specs.declared.tokenizer.held_leaf.HeldLeaf.{HeldLeaf}
use Rattle.md_engine.specs.declared.tokenizer.held_leaf.HeldLeaf.TheVariants as held_leaf
use Rattle.md_engine.specs.Meaning.{Cell}
use Rattle.md_leaves.specs.Break.{may_begin}
use Rattle.md_leaves.specs.BreakRule.{Apart, break_at, runs}
use Rattle.md_leaves.specs.HeadingSetext.{turns_nothing}
use Rattle.md_leaves.specs.HeadingSetextRule.{is_underline}
use Rattle.md_events.specs.Ahead.{begins_white, line_bytes, line_cells, line_end, white_end, white_rest}
use Rattle.md_events.specs.Events.Nested.{around, pair}
use Rattle.md_events.specs.Events.Places.{past_text}
use Rattle.md_events.specs.Spaces.{small_indent}
use Rattle.md_meaning.specs.Leaves.{Finished, is_rule}
use Rattle.md_meaning.specs.Rest.{Rest, has_small_indent, trim_start}
use Rattle.md_meaning.specs.Texts.{first_byte}
use Rattle.md_meaning.specs.declared.outline.Word.TheVariants.{Break}
use Rattle.md_meaning.specs.Tree.{Bare}
use Rattle.proof_frame.specs.LineLeaf.{LineLeaf}
use Rattle.proof_frame.specs.MarkRuns.{mark_runs}
use Rattle.proof_frame.specs.MarkRuns as mark

-- By the cells of a line.

-- the byte of the markers, and 0 of none
abbrev pub first_cell : List Cell → ℕ
first_cell [] = 0
first_cell (c ∷ cs) = c.byte

-- whether a break is here, with as much whitespace before it as there may be
abbrev pub is_break : ParseOptions → List Cell → Bool
is_break options cells =
    options.constructs.thematic_break && is_rule (line_bytes (white_rest (small_indent options) cells))

-- whether it is an underline of the text that it meets, which has nothing to turn
abbrev pub is_lost : ParseOptions → HeldLeaf → List Cell → Bool
is_lost options on cells =
    turns_nothing options on && is_underline (line_bytes (white_rest (small_indent options) cells))

-- what is in it: its indent, and its runs
abbrev pub break_inside : ParseOptions → List Cell → Point → List Event
break_inside options cells p =
    let room = small_indent options in
    let rest = white_rest room cells in
    let q = white_end room cells p in
    (if begins_white cells then pair n.SpaceOrTab p q else []) ++ runs Apart (first_cell rest) (line_cells rest) q

-- By its bytes.

-- a break on a line that begins at this point
abbrev pub break_line : List ℕ → Point → List Event
break_line line p =
    around n.ThematicBreak p (past_text line p)
    (mark_runs n.ThematicBreakSequence mark.Apart (first_byte (trim_start line)) line p)

-- whether a break is on a line of this rest, if that is no underline
abbrev pub is_ruled : ParseOptions → Rest → Bool
is_ruled options r = options.constructs.thematic_break && has_small_indent options r && is_rule (trim_start r.bytes)

abbrev pub break_leaf : LineLeaf
break_leaf = record {
  start = s.ThematicBreak its.Start;
  before = flow.BeforeThematicBreak;
  ends = true;
  stays_blank = false;
  further = λ on. false;
  asked = λ on. true;
  heads = false;
  may_begin = λ on white. may_begin;
  trial = break_at;
  takes = λ options on cells. is_break options cells && not (is_lost options on cells);
  adds = λ options on cells p. around n.ThematicBreak p (line_end cells p) (break_inside options cells p);
  keeps = λ options on cells p. held_leaf.None;
  starts = λ options on r. is_ruled options r && not (turns_nothing options on && is_underline (trim_start r.bytes));
  holds = λ options on r. held_leaf.None;
  becomes = λ options open_leaf r. Finished (Bare Break);
  block = λ r. Bare Break;
  added = λ options on line p. break_line line p;
  unread = break_line;
  done = λ bytes line p. break_line line p;
}
