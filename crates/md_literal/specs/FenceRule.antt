-- The rule of fenced code and math, as what is left of it at each state (CommonMark 4.5).
use Rattle.std.specs.Prelude.{◌≡◌, ℕ, ◌+◌, ◌-◌, ◌&&◌, ◌==◌, not, nat_lt}
use Rattle.std.specs.Prelude.{if◌then◌else◌, List, [], ◌∷◌, ◌++◌}
use Rattle.md_engine.specs.declared.configuration.ParseOptions.{ParseOptions}
use Rattle.md_engine.specs.declared.event.Name.{Name}
use Rattle.md_engine.specs.declared.event.Name.TheVariants as part
use Rattle.md_engine.specs.declared.event.Point.{Point}
use Rattle.md_engine.specs.declared.state.Name.TheVariants as n
use Rattle.md_engine.specs.declared.state.raw_flow.State.{State as RawState}
use Rattle.md_engine.specs.declared.state.raw_flow.State.TheVariants as its
use Rattle.md_engine.specs.declared.tokenizer.held_leaf.HeldLeaf.TheVariants as held_leaf
use Rattle.md_engine.specs.declared.state.State.{State}
use Rattle.md_engine.specs.Meaning.{Accepts, Behaviour, Cell, Fails, Here, Outcome, Refuses}
use Rattle.md_engine.specs.Scheme.{position}
use Rattle.md_engine.specs.Sees.{IsStep}
use Rattle.md_engine.specs.World.{World}
use Rattle.md_meaning.specs.Leaves.{is_fence_marker, least_size}
use Rattle.md_literal.specs.Fence.{FenceInvariant, block_name, chunk_name, cleared, fence_name, held_indent}
use Rattle.md_literal.specs.Fence.{held_marker}
use Rattle.md_literal.specs.Fence.{held_size, is_on, is_refused, meta_name, sequence_name, string_link}
use Rattle.md_literal.specs.Fence.{fence_transition}
use Rattle.md_leaves.specs.CellRuns.{run_size, run_end, run_rest, run_has, is_word, is_line}
use Rattle.md_leaves.specs.CellRuns.{is_end, with_event, after_columns, after_white_of}
use Rattle.md_leaves.specs.Further.{further_link}
use Rattle.md_events.specs.Ahead.{HasWhite, begins_white, white_rest}
use Rattle.md_events.specs.Events.Nested.{enter, enter_link, exit}
use Rattle.md_events.specs.Spaces.{any_size, small_indent}
use Rattle.md_events.specs.States.{IsState}
use Rattle.md_engine.specs.declared.tokenizer.Tokenizer.{Tokenizer}
use Rattle.md_engine.specs.Full.{IsFull}

abbrev pub refuses : Here → Outcome
refuses h = Refuses (cleared h.scratch) h.flags

-- The opening line.

-- at its end
abbrev pub opens : List Cell → Here → Outcome
opens cells h =
    Accepts
    (record (with_event (with_event h (exit (fence_name h.scratch.marker) h.point))
    (exit (block_name h.scratch.marker) h.point)) {
      scratch = cleared h.scratch;
      flags = record h.flags { leaf = held_leaf.Fence h.scratch.marker h.scratch.size h.scratch.size_c };
    })
    cells

-- where a part begins that is read later, and where it ended
abbrev pub part_begun : Name → Here → Here
part_begun name h = with_event (with_event h (enter name h.point)) (enter_link part.Data h.point string_link)

abbrev pub part_ended : Name → Point → Here → Here
part_ended name p h = record (with_event (with_event h (exit part.Data p)) (exit name p)) { point = p }

-- in meta: the rest of the line
unfoldable pub in_meta : List Cell → Here → Outcome
in_meta cells h =
    let m = h.scratch.marker in
    if run_has (is_refused m) is_line cells then refuses h
    else opens (run_rest is_line cells) (part_ended (meta_name m) (run_end is_line cells h.point) h)

-- after the whitespace before meta
unfoldable pub before_meta : List Cell → Here → Outcome
before_meta cells h =
    if is_end cells then opens cells h
    else if begins_white cells then refuses h
    else in_meta cells (part_begun (meta_name h.scratch.marker) h)

-- in info: a word
unfoldable pub in_info : List Cell → Here → Outcome
in_info cells h =
    if run_has (is_refused h.scratch.marker) is_word cells then refuses h
    else after_white_of any_size before_meta (run_rest is_word cells)
    (part_ended part.CodeFencedFenceInfo (run_end is_word cells h.point) h)

-- after the whitespace before info
unfoldable pub before_info : List Cell → Here → Outcome
before_info cells h =
    if is_end cells then opens cells h
    else if begins_white cells then refuses h
    else in_info cells (part_begun part.CodeFencedFenceInfo h)

-- what follows the sequence: math has no info
abbrev pub after_sequence : ℕ → List Cell → Here → Outcome
after_sequence m cells h = if m == 36 then before_meta cells h else before_info cells h

-- in the sequence
unfoldable pub in_sequence : List Cell → Here → Outcome
in_sequence cells h =
    let m = h.scratch.marker in
    let size = h.scratch.size + run_size (λ b. b == m) cells in
    let p = run_end (λ b. b == m) cells h.point in
    if nat_lt size (least_size m) then refuses h
    else after_white_of any_size (after_sequence m) (run_rest (λ b. b == m) cells)
    (record h {
      events = h.events ++ exit (sequence_name m) p ∷ [];
      point = p;
      scratch = record h.scratch { size = size };
    })

-- where a block begins
abbrev pub block_begun : ℕ → Here → Here
block_begun m h =
    with_event (with_event (with_event h (enter (block_name m) h.point)) (enter (fence_name m) h.point))
    (enter (sequence_name m) h.point)

-- after the indent, of which the column is kept where it begins
unfoldable pub before_sequence : ParseOptions → List Cell → Here → Outcome
before_sequence options [] h = refuses h
before_sequence options (c ∷ cs) h =
    if is_fence_marker options c.byte
    then in_sequence (c ∷ cs)
    (record (block_begun c.byte h) {
      scratch = record h.scratch { marker = c.byte; size_c = h.point.column - h.scratch.size_c };
    })
    else refuses h

-- the whole rule of an opening line, if fenced code or math is on: a small indent, and a fence after it
unfoldable pub fence_at : ParseOptions → List Cell → Here → Outcome
fence_at options cells h =
    if is_on options
    then after_white_of (small_indent options) (before_sequence options) cells
    (record h { scratch = record h.scratch { size_c = h.point.column } })
    else Refuses h.scratch h.flags

-- A further line.

-- after a closing sequence and whitespace
unfoldable pub close_end : List Cell → Here → Outcome
close_end cells h =
    if is_end cells
    then Accepts
    (record h { events = h.events ++ exit (fence_name (held_marker h.flags.leaf)) h.point ∷ [] })
    cells
    else Refuses h.scratch h.flags

-- in a closing sequence
unfoldable pub in_close : List Cell → Here → Outcome
in_close cells h =
    let m = h.scratch.marker in
    let p = run_end (λ b. b == m) cells h.point in
    if nat_lt (h.scratch.size + run_size (λ b. b == m) cells) (held_size h.flags.leaf) then refuses h
    else after_white_of any_size close_end (run_rest (λ b. b == m) cells)
    (record h {
      events = h.events ++ exit (sequence_name m) p ∷ [];
      point = p;
      scratch = cleared h.scratch;
    })

-- after the indent
unfoldable pub before_close : List Cell → Here → Outcome
before_close [] h = refuses h
before_close (c ∷ cs) h =
    let m = h.scratch.marker in
    if c.byte == m
    then in_close (c ∷ cs)
    (with_event (with_event h (enter (fence_name m) h.point)) (enter (sequence_name m) h.point))
    else refuses h

-- a closing fence: a small indent, and a sequence after it
unfoldable pub close_at : ParseOptions → List Cell → Here → Outcome
close_at options cells h = after_white_of (small_indent options) before_close cells h

-- where a line ends
abbrev pub line_done : Here → Point → Here
line_done h p = with_event h (exit (block_name (held_marker h.flags.leaf)) p)

-- what is left of a line, to its end
unfoldable pub in_chunk : List Cell → Here → Outcome
in_chunk cells h =
    let p = run_end is_line cells h.point in
    Accepts
    (record (line_done (with_event h (exit (chunk_name (held_marker h.flags.leaf)) p)) p) { point = p })
    (run_rest is_line cells)

-- after the columns that do not belong to it
unfoldable pub before_chunk : List Cell → Here → Outcome
before_chunk cells h =
    if is_end cells then Accepts (line_done h h.point) cells
    else in_chunk cells
    (record h { events = h.events ++ enter (chunk_name (held_marker h.flags.leaf)) h.point ∷ [] })

-- a line that is no closing fence
unfoldable pub content_at : List Cell → Here → Outcome
content_at cells h =
    if nat_lt 0 (held_indent h.flags.leaf) && begins_white cells
    then before_chunk (white_rest (held_indent h.flags.leaf) cells)
    (after_columns (held_indent h.flags.leaf) cells h)
    else before_chunk cells h

-- after a closing fence
abbrev pub shuts : List Cell → Here → Outcome
shuts cells h =
    Accepts
    (record h {
      events = h.events ++ exit (block_name (held_marker h.flags.leaf)) h.point ∷ [];
      flags = record h.flags { leaf = held_leaf.None };
    })
    cells

-- by what a closing fence has become
abbrev pub closed_or_content : Outcome → List Cell → Here → Outcome
closed_or_content (Accepts k rest) cells h = shuts rest k
closed_or_content (Refuses s g) cells h = content_at cells (record h { scratch = s; flags = g })
closed_or_content Fails cells h = Fails

-- where a further line begins, linked to the line before
abbrev pub line_begun : Here → Here
line_begun h = with_event h (enter_link (block_name (held_marker h.flags.leaf)) h.point further_link)

-- the whole rule of a further line: a closing fence, or else a line of the block
unfoldable pub further_at : ParseOptions → List Cell → Here → Outcome
further_at options cells h =
    closed_or_content
    (close_at options cells
    (record (line_begun h) { scratch = record h.scratch { marker = held_marker h.flags.leaf } }))
    cells (line_begun h)

-- what is left at each state
abbrev pub fence_behaves : ParseOptions → RawState → List Cell → Here → Outcome
fence_behaves options its.Start cells h = fence_at options cells h
fence_behaves options its.BeforeSequenceOpen cells h = before_sequence options cells h
fence_behaves options its.SequenceOpen cells h = in_sequence cells h
fence_behaves options its.InfoBefore cells h = before_info cells h
fence_behaves options its.Info cells h = in_info cells h
fence_behaves options its.MetaBefore cells h = before_meta cells h
fence_behaves options its.Meta cells h = in_meta cells h
fence_behaves options its.AtNonLazyBreak cells h = further_at options cells h
fence_behaves options its.CloseStart cells h = close_at options cells h
fence_behaves options its.BeforeSequenceClose cells h = before_close cells h
fence_behaves options its.SequenceClose cells h = in_close cells h
fence_behaves options its.SequenceCloseAfter cells h = close_end cells h
fence_behaves options its.ContentBefore cells h = content_at cells h
fence_behaves options its.ContentStart cells h = content_at cells h
fence_behaves options its.BeforeContentChunk cells h = before_chunk cells h
fence_behaves options its.ContentChunk cells h = in_chunk cells h
fence_behaves options its.After cells h = shuts cells h

pub record HasFence (B : Behaviour) (options : ParseOptions) : Type 0 where
  pub white : HasWhite B
  pub each : (state : RawState) (cells : List Cell) (h : Here) →
      B (n.RawFlow state) cells h ≡ fence_behaves options state cells h

-- what a state of a fence means: where what it needs holds, its call is one step of the rule
unfoldable pub FenceMeans : RawState → World → State → World → Type 0
FenceMeans state old to new =
    FenceInvariant (n.RawFlow state) (position old) →
    IsStep (λ B. HasFence B old.setting.options) (n.RawFlow state) to old new

-- what a state of fenced code and math promises
abbrev pub IsFenceState : RawState → World → State → Tokenizer → Type 0
IsFenceState state old answer new = IsState (fence_transition state old) (FenceMeans state old) (IsFull new) answer new
