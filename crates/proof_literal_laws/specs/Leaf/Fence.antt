-- The opening line of fenced code and of math (CommonMark 4.5, own choice), as a leaf on one line: a block without
-- lines that is open after it.
use Rattle.std.specs.Prelude.{ℕ, Bool, true, false, ◌&&◌, ◌==◌, if◌then◌else◌, List, [], ◌∷◌, ◌++◌, length, take, drop}
use Rattle.std.specs.Prelude.{Option, Some, None}
use Rattle.std.specs.List.{prefix_len}
use Rattle.std.specs.Option.{is_some}
use Rattle.md_engine.specs.declared.configuration.ParseOptions.{ParseOptions}
use Rattle.md_engine.specs.declared.event.Event.{Event}
use Rattle.md_engine.specs.declared.event.Name.{Name}
use Rattle.md_engine.specs.declared.event.Name.TheVariants as n
use Rattle.md_engine.specs.declared.event.Point.{Point}
use Rattle.md_engine.specs.declared.state.Name.TheVariants as s
use Rattle.md_engine.specs.declared.state.flow.State.TheVariants as flow
use Rattle.md_engine.specs.declared.state.raw_flow.State.TheVariants as its
use Rattle.md_engine.specs.declared.tokenizer.held_leaf.HeldLeaf.{HeldLeaf}
use Rattle.md_engine.specs.declared.tokenizer.held_leaf.HeldLeaf.TheVariants as held_leaf
use Rattle.md_engine.specs.Meaning.{Cell}
use Rattle.md_literal.specs.Fence.{block_name, fence_name, is_on, may_begin, meta_name, sequence_name, string_link}
use Rattle.md_literal.specs.FenceLine.{fence_adds, fence_begins, is_opening, marker_at}
use Rattle.md_literal.specs.FenceRule.{fence_at}
use Rattle.md_events.specs.declared.inline.PartKind.TheVariants.{String}
use Rattle.md_events.specs.Ahead.{white_rest}
use Rattle.md_events.specs.Events.Inline.{plain_events}
use Rattle.md_events.specs.Events.Nested.{around, enter_link, exit, pair}
use Rattle.md_events.specs.Events.Places.{past_text}
use Rattle.md_events.specs.Spaces.{small_indent}
use Rattle.md_meaning.specs.Leaves as definition
use Rattle.md_meaning.specs.Leaves.{Opened, first_word, opening}
use Rattle.md_meaning.specs.Rest.{Rest, indent, is_white, run_len, trim_start}
use Rattle.md_meaning.specs.State.{OpenFence, Opening, fence_block}
use Rattle.md_meaning.specs.Texts.{first_byte}
use Rattle.proof_frame.specs.LineLeaf.{LineLeaf}

-- By the cells of a line.

-- whether a fence of the marker that is here does
abbrev pub is_fence_of : Option ℕ → List Cell → Bool
is_fence_of None cells = false
is_fence_of (Some m) cells = is_opening m cells

-- whether a fence is here, with as much whitespace before it as there may be
abbrev pub is_fence : ParseOptions → List Cell → Bool
is_fence options cells =
    let rest = white_rest (small_indent options) cells in is_on options && is_fence_of (marker_at options rest) rest

-- what is held of the block that it opens
abbrev pub or_none : Option HeldLeaf → HeldLeaf
or_none None = held_leaf.None
or_none (Some leaf) = leaf

abbrev pub fence_keeps : ParseOptions → List Cell → Point → HeldLeaf
fence_keeps options cells p = or_none (fence_begins options cells p)

-- By the rest of a line.

-- what the fence after its indent opens
abbrev pub opening_at : Rest → Opening
opening_at r =
    let text = trim_start r.bytes in
    let m = first_byte text in
    let size = run_len m text in
    opening m size (indent r) (trim_start (drop size text))

abbrev pub held_of : Opening → HeldLeaf
held_of o = held_leaf.Fence o.marker o.size o.indent

-- By the bytes of a line.

-- where the whitespace ends that comes first, and its events, if there is any
abbrev pub past_white : List ℕ → Point → Point
past_white bytes p = past_text (take (prefix_len is_white bytes) bytes) p

abbrev pub white_part : List ℕ → Point → List Event
white_part [] p = []
white_part (b ∷ bs) p = if is_white b then pair n.SpaceOrTab p (past_white (b ∷ bs) p) else []

-- What is in info and in meta, between two points: as it is read later, and once it is read.
abbrev pub Inner : Type 0
Inner = Point → Point → List Event

abbrev pub linked : Inner
linked p q = enter_link n.Data p string_link ∷ exit n.Data q ∷ []

abbrev pub read_inner : List ℕ → Inner
read_inner bytes p q =
    plain_events bytes (record { kind = String; chunks = record { first = p; after = q } ∷ [] })

-- info or meta, if there is any text of it
abbrev pub text_part : Inner → Name → List ℕ → Point → List Event
text_part inner name [] p = []
text_part inner name (b ∷ bs) p = around name p (past_text (b ∷ bs) p) (inner p (past_text (b ∷ bs) p))

-- Info, whitespace and meta of a text; math has meta alone.
abbrev pub word_parts : Inner → ℕ → List ℕ → Point → List Event
word_parts inner m text p =
    let word = first_word text in
    let left = drop (length word) text in
    let q = past_text word p in
    text_part inner n.CodeFencedFenceInfo word p
    ++ white_part left q ++ text_part inner (meta_name m) (trim_start left) (past_white left q)

abbrev pub text_parts : Inner → ℕ → List ℕ → Point → List Event
text_parts inner m text p = if m == 36 then text_part inner (meta_name m) text p else word_parts inner m text p

-- what follows the sequence
abbrev pub after_parts : Inner → ℕ → List ℕ → Point → List Event
after_parts inner m bytes p = white_part bytes p ++ text_parts inner m (trim_start bytes) (past_white bytes p)

-- what is in the fence: its sequence, and what is after it
abbrev pub fence_parts : Inner → ℕ → List ℕ → Point → List Event
fence_parts inner m text p =
    let size = run_len m text in
    let q = past_text (take size text) p in
    pair (sequence_name m) p q ++ after_parts inner m (drop size text) q

-- a block with a fence of a marker, which begins here and ends there
abbrev pub fence_around : Inner → ℕ → List ℕ → Point → Point → List Event
fence_around inner m text p q =
    around (block_name m) p q (around (fence_name m) p q (fence_parts inner m text p))

-- an opening line that begins at this point
abbrev pub fence_line : Inner → List ℕ → Point → List Event
fence_line inner line p =
    let text = trim_start line in
    white_part line p ++ fence_around inner (first_byte text) text (past_white line p) (past_text line p)

abbrev pub fence_leaf : LineLeaf
fence_leaf = record {
  start = s.RawFlow its.Start;
  before = flow.BeforeRaw;
  ends = false;
  stays_blank = false;
  further = λ on. false;
  asked = λ on. true;
  heads = false;
  may_begin = λ on white. may_begin;
  trial = fence_at;
  takes = λ options on cells. is_fence options cells;
  adds = λ options on cells p. fence_adds options (fence_keeps options cells p) cells p;
  keeps = λ options on cells p. fence_keeps options cells p;
  starts = λ options on r. is_some (definition.fence_at options r);
  holds = λ options on r. held_of (opening_at r);
  becomes = λ options open_leaf r. Opened (OpenFence (opening_at r) []);
  block = λ r. fence_block (opening_at r) [] false;
  added = λ options on line p. fence_line linked line p;
  unread = λ line p. fence_line linked line p;
  done = λ bytes line p. fence_line (read_inner bytes) line p;
}
