-- Fenced code and math.
use Rattle.std.specs.Prelude.{refl, ℕ, ◌+◌, ◌-◌, ◌≤◌, Bool, true, false, ◌&&◌, ◌||◌, ◌==◌, not, if◌then◌else◌}
use Rattle.std.specs.Prelude.{nat_le, nat_lt, Option, Some, None}
use Rattle.md_engine.specs.declared.configuration.ParseOptions.{ParseOptions}
use Rattle.md_engine.specs.declared.event.Content.TheVariants as content
use Rattle.md_engine.specs.declared.event.Link.{Link}
use Rattle.md_engine.specs.declared.event.Name.{Name}
use Rattle.md_engine.specs.declared.event.Name.TheVariants as part
use Rattle.md_engine.specs.declared.state.Name.{Name as StateName}
use Rattle.md_engine.specs.declared.state.Name.TheVariants as n
use Rattle.md_engine.specs.declared.state.raw_flow.State.{State as RawState}
use Rattle.md_engine.specs.declared.state.raw_flow.State.TheVariants as its
use Rattle.md_engine.specs.declared.state.State.TheVariants.{Ok, Nok, Next, Retry}
use Rattle.md_engine.specs.declared.tokenizer.Scratch.{Scratch}
use Rattle.md_engine.specs.declared.tokenizer.held_leaf.HeldLeaf.{HeldLeaf}
use Rattle.md_engine.specs.declared.tokenizer.held_leaf.HeldLeaf.TheVariants as held_leaf
use Rattle.md_engine.specs.Scheme.{After, Ends, Rank, Scheme, Position, cells_before, ranked, seen}
use Rattle.md_engine.specs.World.{World}
use Rattle.md_meaning.specs.Leaves.{is_fence_marker, least_size}
use Rattle.md_leaves.specs.Further.{further_link}
use Rattle.md_events.specs.Spaces.{any_size, ends_line, IsRest, is_current, sees_white, small_indent, white_then}
use Rattle.md_events.specs.Transition.{Transition, entered, entered_link, exited, taken, tried}

-- what may be first after the indent of an opening fence
abbrev pub may_begin : ℕ → Bool
may_begin b = (b == 96) || (b == 126) || (b == 36)

-- what may not be after an opening sequence: its marker, unless that is a tilde
abbrev pub is_refused : ℕ → ℕ → Bool
is_refused m b = (b == m) && not (m == 126)

-- The names of a block and of its parts: dollars mark math.
abbrev pub block_name : ℕ → Name
block_name m = if m == 36 then part.MathFlow else part.CodeFenced

abbrev pub fence_name : ℕ → Name
fence_name m = if m == 36 then part.MathFlowFence else part.CodeFencedFence

abbrev pub sequence_name : ℕ → Name
sequence_name m = if m == 36 then part.MathFlowFenceSequence else part.CodeFencedFenceSequence

abbrev pub meta_name : ℕ → Name
meta_name m = if m == 36 then part.MathFlowFenceMeta else part.CodeFencedFenceMeta

abbrev pub chunk_name : ℕ → Name
chunk_name m = if m == 36 then part.MathFlowChunk else part.CodeFlowChunk

-- what is kept of an open block; no other leaf is asked
abbrev pub held_marker : HeldLeaf → ℕ
held_marker (held_leaf.Fence m size indent) = m
held_marker _ = 0

abbrev pub held_size : HeldLeaf → ℕ
held_size (held_leaf.Fence m size indent) = size
held_size _ = 0

abbrev pub held_indent : HeldLeaf → ℕ
held_indent (held_leaf.Fence m size indent) = indent
held_indent _ = 0

-- whether this is fenced code or math: its fence has a marker of such a block, and enough of it
abbrev pub is_open : HeldLeaf → Bool
is_open on = may_begin (held_marker on) && nat_le (least_size (held_marker on)) (held_size on)

abbrev pub string_link : Link
string_link = record { previous = false; next = false; content = content.String }

-- without a marker and what was counted
abbrev pub cleared : Scratch → Scratch
cleared s = record s { marker = 0; size = 0; size_c = 0 }

abbrev pub refused : World → Transition
refused w = record { to = Nok; world = record w { scratch = cleared w.scratch } }

-- after a part of a fence, by whether whitespace is here
abbrev pub after_part : World → RawState → Bool → Transition
after_part w state true = white_then w 0 any_size (Next (n.RawFlow state)) Nok
after_part w state false = record { to = Retry (n.RawFlow state); world = w }

-- The opening line.

-- the column where it begins is kept
abbrev pub begun : World → World
begun w = record w { scratch = record w.scratch { size_c = w.point.column } }

-- by whether fenced code or math is on, and whether whitespace is here
abbrev pub start_code : World → Bool → Bool → Transition
start_code w false white = record { to = Nok; world = w }
start_code w true true =
    white_then (begun w) 0 (small_indent w.setting.options) (Next (n.RawFlow its.BeforeSequenceOpen)) Nok
start_code w true false = record { to = Retry (n.RawFlow its.BeforeSequenceOpen); world = begun w }

-- the begin of a block of this marker
abbrev pub block_entered : World → ℕ → World
block_entered w m = entered (entered (entered w (block_name m)) (fence_name m)) (sequence_name m)

-- the columns since the line began, which are those of its indent, are kept
abbrev pub marked : World → ℕ → World
marked w m = record w { scratch = record w.scratch { marker = m; size_c = w.point.column - w.scratch.size_c } }

-- by whether this marker is here
abbrev pub before_open_code : World → ℕ → Bool → Transition
before_open_code w m true = record { to = Retry (n.RawFlow its.SequenceOpen); world = block_entered (marked w m) m }
before_open_code w m false = refused w

abbrev pub before_open : World → Option ℕ → Transition
before_open w None = refused w
before_open w (Some b) = before_open_code w b (is_fence_marker w.setting.options b)

-- one marker more
abbrev pub counted : World → RawState → Transition
counted w state =
    record {
      to = Next (n.RawFlow state);
      world = record (taken w) { scratch = record w.scratch { size = w.scratch.size + 1 } };
    }

-- what follows the opening sequence: math has no info
abbrev pub after_opening : ℕ → RawState
after_opening m = if m == 36 then its.MetaBefore else its.InfoBefore

-- by whether the marker is here, whether there are too few of it, and whether whitespace is here
abbrev pub sequence_open_code : World → Bool → Bool → Bool → Transition
sequence_open_code w true few white = counted w its.SequenceOpen
sequence_open_code w false true white = refused w
sequence_open_code w false false white =
    after_part (exited w (sequence_name w.scratch.marker)) (after_opening w.scratch.marker) white

-- the block is open after the line
abbrev pub opened : World → World
opened w = record (exited (exited w (fence_name w.scratch.marker)) (block_name w.scratch.marker)) {
  scratch = cleared w.scratch;
  flags = record w.flags { leaf = held_leaf.Fence w.scratch.marker w.scratch.size w.scratch.size_c };
}

-- a part that is read later
abbrev pub part_entered : World → Name → World
part_entered w name = entered_link (entered w name) part.Data string_link

abbrev pub part_exited : World → Name → World
part_exited w name = exited (exited w part.Data) name

-- by whether the line ends here, and whether whitespace is here
abbrev pub info_before_code : World → Bool → Bool → Transition
info_before_code w true white = record { to = Ok; world = opened w }
info_before_code w false true = refused w
info_before_code w false false =
    record { to = Retry (n.RawFlow its.Info); world = part_entered w part.CodeFencedFenceInfo }

abbrev pub meta_before_code : World → Bool → Bool → Transition
meta_before_code w true white = record { to = Retry (n.RawFlow its.InfoBefore); world = w }
meta_before_code w false true = refused w
meta_before_code w false false =
    record { to = Retry (n.RawFlow its.Meta); world = part_entered w (meta_name w.scratch.marker) }

-- by whether info ends here, whether whitespace is here, and whether what is here is refused
abbrev pub info_code : World → Bool → Bool → Bool → Transition
info_code w true white bad = after_part (part_exited w part.CodeFencedFenceInfo) its.MetaBefore white
info_code w false white true = refused w
info_code w false white false = record { to = Next (n.RawFlow its.Info); world = taken w }

-- by whether the line ends here, and whether what is here is refused
abbrev pub meta_code : World → Bool → Bool → Transition
meta_code w true bad =
    record { to = Retry (n.RawFlow its.InfoBefore); world = part_exited w (meta_name w.scratch.marker) }
meta_code w false true = refused w
meta_code w false false = record { to = Next (n.RawFlow its.Meta); world = taken w }

-- A further line.

-- it is linked to the line before
abbrev pub line_entered : World → World
line_entered w = entered_link w (block_name (held_marker w.flags.leaf)) further_link

-- by whether a closing fence may begin here
abbrev pub at_non_lazy_break_code : World → Bool → Transition
at_non_lazy_break_code w true =
    record {
      to = Retry (n.RawFlow its.CloseStart);
      world = record (tried (line_entered w) (Next (n.RawFlow its.After)) (Next (n.RawFlow its.ContentStart))) {
        scratch = record w.scratch { marker = held_marker w.flags.leaf };
      };
    }
at_non_lazy_break_code w false = record { to = Retry (n.RawFlow its.ContentStart); world = line_entered w }

-- by whether whitespace is here
abbrev pub close_start_code : World → Bool → Transition
close_start_code w true =
    white_then w 0 (small_indent w.setting.options) (Next (n.RawFlow its.BeforeSequenceClose)) Nok
close_start_code w false = record { to = Retry (n.RawFlow its.BeforeSequenceClose); world = w }

-- by whether the marker is here
abbrev pub before_close_code : World → Bool → Transition
before_close_code w true =
    record {
      to = Retry (n.RawFlow its.SequenceClose);
      world = entered (entered w (fence_name w.scratch.marker)) (sequence_name w.scratch.marker);
    }
before_close_code w false = refused w

-- by whether the marker is here, whether there are too few of it, and whether whitespace is here
abbrev pub sequence_close_code : World → Bool → Bool → Bool → Transition
sequence_close_code w true few white = counted w its.SequenceClose
sequence_close_code w false true white = refused w
sequence_close_code w false false white =
    after_part (record (exited w (sequence_name w.scratch.marker)) { scratch = cleared w.scratch })
    its.SequenceCloseAfter white

-- by whether the line ends here
abbrev pub close_after_code : World → Bool → Transition
close_after_code w true = record { to = Ok; world = exited w (fence_name (held_marker w.flags.leaf)) }
close_after_code w false = record { to = Nok; world = w }

-- by whether whitespace is here that does not belong to the line
abbrev pub content_start_code : World → Bool → Transition
content_start_code w true =
    white_then w 0 (held_indent w.flags.leaf) (Next (n.RawFlow its.BeforeContentChunk)) Nok
content_start_code w false = record { to = Retry (n.RawFlow its.BeforeContentChunk); world = w }

-- by whether the line ends here
abbrev pub before_chunk_code : World → Bool → Transition
before_chunk_code w true = record { to = Ok; world = exited w (block_name (held_marker w.flags.leaf)) }
before_chunk_code w false =
    record { to = Retry (n.RawFlow its.ContentChunk); world = entered w (chunk_name (held_marker w.flags.leaf)) }

abbrev pub chunk_code : World → Bool → Transition
chunk_code w true =
    record {
      to = Retry (n.RawFlow its.BeforeContentChunk);
      world = exited w (chunk_name (held_marker w.flags.leaf));
    }
chunk_code w false = record { to = Next (n.RawFlow its.ContentChunk); world = taken w }

-- each state with what it does, where there is memory
abbrev pub is_on : ParseOptions → Bool
is_on options = options.constructs.code_fenced || options.constructs.math_flow

abbrev pub start_transition : World → Transition
start_transition w = start_code w (is_on w.setting.options) (sees_white w.current)

abbrev pub before_sequence_open_transition : World → Transition
before_sequence_open_transition w = before_open w w.current

abbrev pub sequence_open_transition : World → Transition
sequence_open_transition w =
    sequence_open_code w (is_current w.scratch.marker w.current) (nat_lt w.scratch.size (least_size w.scratch.marker))
    (sees_white w.current)

abbrev pub info_before_transition : World → Transition
info_before_transition w = info_before_code w (ends_line w.current) (sees_white w.current)

-- whether a word ends here
abbrev pub ends_word : Option ℕ → Bool
ends_word o = ends_line o || sees_white o

-- whether what is here may not be after a sequence of this marker
abbrev pub sees_refused : ℕ → Option ℕ → Bool
sees_refused m None = false
sees_refused m (Some b) = is_refused m b

abbrev pub info_transition : World → Transition
info_transition w =
    info_code w (ends_word w.current) (sees_white w.current) (sees_refused w.scratch.marker w.current)

abbrev pub meta_before_transition : World → Transition
meta_before_transition w = meta_before_code w (ends_line w.current) (sees_white w.current)

abbrev pub meta_transition : World → Transition
meta_transition w = meta_code w (ends_line w.current) (sees_refused w.scratch.marker w.current)

abbrev pub may_close : HeldLeaf → Option ℕ → Bool
may_close leaf o = sees_white o || is_current (held_marker leaf) o

abbrev pub at_non_lazy_break_transition : World → Transition
at_non_lazy_break_transition w = at_non_lazy_break_code w (may_close w.flags.leaf w.current)

abbrev pub close_start_transition : World → Transition
close_start_transition w = close_start_code w (sees_white w.current)

abbrev pub before_sequence_close_transition : World → Transition
before_sequence_close_transition w = before_close_code w (is_current w.scratch.marker w.current)

abbrev pub sequence_close_transition : World → Transition
sequence_close_transition w =
    sequence_close_code w (is_current w.scratch.marker w.current) (nat_lt w.scratch.size (held_size w.flags.leaf))
    (sees_white w.current)

abbrev pub sequence_close_after_transition : World → Transition
sequence_close_after_transition w = close_after_code w (ends_line w.current)

-- before a line that is no closing fence, where its ending before it is taken already
abbrev pub content_before_transition : World → Transition
content_before_transition w = record { to = Retry (n.RawFlow its.ContentStart); world = w }

abbrev pub content_start_transition : World → Transition
content_start_transition w = content_start_code w (nat_lt 0 (held_indent w.flags.leaf) && sees_white w.current)

abbrev pub before_content_chunk_transition : World → Transition
before_content_chunk_transition w = before_chunk_code w (ends_line w.current)

abbrev pub content_chunk_transition : World → Transition
content_chunk_transition w = chunk_code w (ends_line w.current)

abbrev pub after_transition : World → Transition
after_transition w =
    record {
      to = Ok;
      world = record (exited w (block_name (held_marker w.flags.leaf))) {
        flags = record w.flags { leaf = held_leaf.None };
      };
    }

-- all of them
abbrev pub fence_transition : RawState → World → Transition
fence_transition its.Start w = start_transition w
fence_transition its.BeforeSequenceOpen w = before_sequence_open_transition w
fence_transition its.SequenceOpen w = sequence_open_transition w
fence_transition its.InfoBefore w = info_before_transition w
fence_transition its.Info w = info_transition w
fence_transition its.MetaBefore w = meta_before_transition w
fence_transition its.Meta w = meta_transition w
fence_transition its.AtNonLazyBreak w = at_non_lazy_break_transition w
fence_transition its.CloseStart w = close_start_transition w
fence_transition its.BeforeSequenceClose w = before_sequence_close_transition w
fence_transition its.SequenceClose w = sequence_close_transition w
fence_transition its.SequenceCloseAfter w = sequence_close_after_transition w
fence_transition its.ContentBefore w = content_before_transition w
fence_transition its.ContentStart w = content_start_transition w
fence_transition its.BeforeContentChunk w = before_content_chunk_transition w
fence_transition its.ContentChunk w = content_chunk_transition w
fence_transition its.After w = after_transition w

-- The markers that were taken lie before the point.
abbrev pub FenceNeeds : StateName → World → Type 0
FenceNeeds (n.RawFlow its.SequenceOpen) w = w.scratch.size ≤ cells_before w.point
FenceNeeds (n.RawFlow its.SequenceClose) w = w.scratch.size ≤ cells_before w.point
FenceNeeds _ w = Unit {0}

-- In a fence: at rest but for the marker and what was counted.
pub record IsFence (x : Position) : Type 0 where
  pub size : x.scratch.size ≤ cells_before x.point
  pub rest : IsRest (cleared x.scratch)

-- what holds at each state of a fence
abbrev pub FenceInvariant : StateName → Position → Type 0
FenceInvariant (n.RawFlow its.BeforeSequenceOpen) x = IsFence x
FenceInvariant (n.RawFlow its.SequenceOpen) x = IsFence x
FenceInvariant (n.RawFlow its.InfoBefore) x = IsFence x
FenceInvariant (n.RawFlow its.Info) x = IsFence x
FenceInvariant (n.RawFlow its.MetaBefore) x = IsFence x
FenceInvariant (n.RawFlow its.Meta) x = IsFence x
FenceInvariant (n.RawFlow its.CloseStart) x = IsFence x
FenceInvariant (n.RawFlow its.BeforeSequenceClose) x = IsFence x
FenceInvariant (n.RawFlow its.SequenceClose) x = IsFence x
FenceInvariant _ x = IsRest x.scratch

abbrev pub in_fence : Position → After → Type 0
in_fence x K = IsFence x × Ends IsRest IsRest x K

abbrev pub fence_ready : StateName → Position → After → Type 0
fence_ready name x K = FenceInvariant name x × Ends IsRest IsRest x K

-- a further line tries a closing fence
abbrev pub fence_level : StateName → ℕ
fence_level (n.RawFlow its.AtNonLazyBreak) = 2
fence_level _ = 1

abbrev pub marker_rank : Position → Rank
marker_rank x = if is_current x.scratch.marker (seen x) then ranked 3 refl else ranked 5 refl

abbrev pub fence_rank : StateName → Position → Rank
fence_rank (n.RawFlow its.Start) x = ranked 8 refl
fence_rank (n.RawFlow its.BeforeSequenceOpen) x = ranked 6 refl
fence_rank (n.RawFlow its.SequenceOpen) x = marker_rank x
fence_rank (n.RawFlow its.InfoBefore) x = if ends_line (seen x) then ranked 0 refl else ranked 2 refl
fence_rank (n.RawFlow its.Info) x = if ends_word (seen x) then ranked 4 refl else ranked 1 refl
fence_rank (n.RawFlow its.MetaBefore) x = if ends_line (seen x) then ranked 1 refl else ranked 2 refl
fence_rank (n.RawFlow its.Meta) x = ranked 1 refl
fence_rank (n.RawFlow its.AtNonLazyBreak) x = ranked 9 refl
fence_rank (n.RawFlow its.CloseStart) x = ranked 8 refl
fence_rank (n.RawFlow its.BeforeSequenceClose) x = ranked 6 refl
fence_rank (n.RawFlow its.SequenceClose) x = marker_rank x
fence_rank (n.RawFlow its.SequenceCloseAfter) x = ranked 1 refl
fence_rank (n.RawFlow its.ContentBefore) x = ranked 7 refl
fence_rank (n.RawFlow its.ContentStart) x = ranked 6 refl
fence_rank (n.RawFlow its.BeforeContentChunk) x = if ends_line (seen x) then ranked 0 refl else ranked 4 refl
fence_rank (n.RawFlow its.ContentChunk) x = ranked 3 refl
fence_rank _ x = ranked 0 refl

abbrev pub fence_tries : StateName → Rank
fence_tries (n.RawFlow its.BeforeSequenceOpen) = ranked 7 refl
fence_tries (n.RawFlow its.BeforeSequenceClose) = ranked 7 refl
fence_tries (n.RawFlow its.BeforeContentChunk) = ranked 5 refl
fence_tries (n.RawFlow its.ContentStart) = ranked 7 refl
fence_tries _ = ranked 3 refl

abbrev pub fence_scheme : Scheme
fence_scheme = record { ready = fence_ready; level = fence_level; rank = fence_rank; tries = fence_tries }
