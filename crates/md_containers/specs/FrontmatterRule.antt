-- The rule of frontmatter, as what is left of it at each state.
use Rattle.std.specs.Prelude.{◌≡◌, ℕ, ◌+◌, Bool, true, false, ◌==◌, if◌then◌else◌, List, [], ◌∷◌, ◌++◌}
use Rattle.md_engine.specs.declared.configuration.ParseOptions.{ParseOptions}
use Rattle.md_engine.specs.declared.event.Name.TheVariants as part
use Rattle.md_engine.specs.declared.state.Name.TheVariants as n
use Rattle.md_engine.specs.declared.state.frontmatter.State.{State as FrontState}
use Rattle.md_engine.specs.declared.state.frontmatter.State.TheVariants as its
use Rattle.md_engine.specs.declared.state.State.{State}
use Rattle.md_engine.specs.declared.tokenizer.Scratch.{Scratch}
use Rattle.md_engine.specs.Meaning.{Accepts, Behaviour, Cell, Fails, Here, Outcome, Refuses}
use Rattle.md_engine.specs.Sees.{IsStep}
use Rattle.md_engine.specs.World.{Flags, World}
use Rattle.md_leaves.specs.Heading.{without_size}
use Rattle.md_leaves.specs.CellRuns.{after_white_of, is_end, run_end, run_rest, run_size, with_event}
use Rattle.md_events.specs.Ahead.{HasWhite}
use Rattle.md_events.specs.Events.Nested.{enter, exit, pair}
use Rattle.md_events.specs.Look.{first_seen}
use Rattle.md_events.specs.Spaces.{any_size, is_current}
use Rattle.md_containers.specs.Frontmatter.{cleared, is_marker, front_transition}
use Rattle.md_events.specs.States.{IsState}
use Rattle.md_engine.specs.declared.tokenizer.Tokenizer.{Tokenizer}
use Rattle.md_engine.specs.Full.{IsFull}

abbrev pub refuses : Here → Outcome
refuses h = Refuses (cleared h.scratch) h.flags

-- A fence: just three markers, and after them only whitespace. What is left is its sequence, after which something is
-- asked; where there are fewer or more markers, this scratch is left.
unfoldable pub in_sequence : (List Cell → Here → Outcome) → Scratch → List Cell → Here → Outcome
in_sequence following left cells h =
    let m = h.scratch.marker in
    let p = run_end (λ b. b == m) cells h.point in
    if (h.scratch.size + run_size (λ b. b == m) cells) == 3
    then after_white_of any_size following (run_rest (λ b. b == m) cells)
    (record h {
      events = h.events ++ exit part.FrontmatterSequence p ∷ [];
      point = p;
      scratch = without_size h.scratch;
    })
    else Refuses left h.flags

-- where a fence begins
abbrev pub fence_begun : Here → Here
fence_begun h = with_event (with_event h (enter part.FrontmatterFence h.point)) (enter part.FrontmatterSequence h.point)

-- after a line ending
abbrev pub following_ending : Cell → Here → Here
following_ending c h = record h { events = h.events ++ pair part.LineEnding h.point c.after; point = c.after }

-- After the closing fence: its line ending, if there is one.
abbrev pub after_front : List Cell → Here → Outcome
after_front [] h = Accepts h []
after_front (c ∷ cs) h = if c.byte == 10 then Accepts (following_ending c h) cs else Accepts h (c ∷ cs)

abbrev pub shuts : List Cell → Here → Outcome
shuts cells h =
    after_front cells (with_event (record h { scratch = cleared h.scratch }) (exit part.Frontmatter h.point))

-- after a closing fence and its whitespace
unfoldable pub close_end : List Cell → Here → Outcome
close_end cells h =
    if is_end cells then Accepts (with_event h (exit part.FrontmatterFence h.point)) cells
    else Refuses h.scratch h.flags

-- in its sequence
abbrev pub in_close : List Cell → Here → Outcome
in_close cells h = in_sequence close_end (without_size h.scratch) cells h

-- a closing fence, where the marker is
abbrev pub close_at : List Cell → Here → Outcome
close_at cells h =
    if is_current h.scratch.marker (first_seen cells) then in_close cells (fence_begun h)
    else Refuses h.scratch h.flags

-- by what a closing fence has become: frontmatter ends, or a line of it is here
abbrev pub closed_or : (Scratch → Flags → Outcome) → Outcome → Outcome
closed_or content (Accepts k rest) = shuts rest k
closed_or content (Refuses s g) = content s g
closed_or content Fails = Fails

-- The lines: where a chunk has begun, or not.

abbrev pub chunk_begun : Bool → Here → Here
chunk_begun true h = h
chunk_begun false h = with_event h (enter part.FrontmatterChunk h.point)

abbrev pub chunk_ended : Bool → Here → Here
chunk_ended true h = with_event h (exit part.FrontmatterChunk h.point)
chunk_ended false h = h

-- What is left in a line that is no closing fence: a chunk to its end, if something is there; after its ending the
-- closing fence, or else one more such line. The text may not end.
unfoldable pub in_lines : Bool → List Cell → Here → Outcome
in_lines begun [] h = refuses h
in_lines begun (c ∷ cs) h =
    let k = following_ending c (chunk_ended begun h) in
    if c.byte == 10
    then closed_or (λ s g. in_lines false cs (record k { scratch = s; flags = g })) (close_at cs k)
    else in_lines true cs (record (chunk_begun begun h) { point = c.after })

-- before a line: the closing fence, or else a line of the block
abbrev pub at_line : List Cell → Here → Outcome
at_line cells h =
    closed_or (λ s g. in_lines false cells (record h { scratch = s; flags = g })) (close_at cells h)

-- after a line ending that has to be here
abbrev pub following_line : List Cell → Here → Outcome
following_line [] h = refuses h
following_line (c ∷ cs) h = if c.byte == 10 then at_line cs (following_ending c h) else refuses h

-- The opening fence.

-- after it and its whitespace
unfoldable pub open_end : List Cell → Here → Outcome
open_end [] h = refuses h
open_end (c ∷ cs) h =
    if c.byte == 10 then at_line cs (following_ending c (with_event h (exit part.FrontmatterFence h.point)))
    else refuses h

-- in its sequence
abbrev pub in_open : List Cell → Here → Outcome
in_open cells h = in_sequence open_end (cleared h.scratch) cells h

-- where frontmatter with this marker begins
abbrev pub front_begun : ℕ → Here → Here
front_begun m h =
    fence_begun
    (with_event (record h { scratch = record h.scratch { marker = m; size = 0 } }) (enter part.Frontmatter h.point))

unfoldable pub front_here : List Cell → Here → Outcome
front_here [] h = Refuses h.scratch h.flags
front_here (c ∷ cs) h =
    if is_marker c.byte then in_open (c ∷ cs) (front_begun c.byte h) else Refuses h.scratch h.flags

-- the whole rule, if frontmatter is on: a fence, lines, and the first fence with the same marker
abbrev pub front_at : ParseOptions → List Cell → Here → Outcome
front_at options cells h =
    if options.constructs.frontmatter then front_here cells h else Refuses h.scratch h.flags

-- what is left at each state
abbrev pub front_behaves : ParseOptions → FrontState → List Cell → Here → Outcome
front_behaves options its.Start cells h = front_at options cells h
front_behaves options its.OpenSequence cells h = in_open cells h
front_behaves options its.OpenAfter cells h = open_end cells h
front_behaves options its.CloseStart cells h = at_line cells h
front_behaves options its.CloseSequence cells h = in_close cells h
front_behaves options its.CloseAfter cells h = close_end cells h
front_behaves options its.ContentStart cells h = in_lines false cells h
front_behaves options its.ContentInside cells h = in_lines true cells h
front_behaves options its.ContentEnd cells h = following_line cells h
front_behaves options its.After cells h = shuts cells h

pub record HasFront (B : Behaviour) (options : ParseOptions) : Type 0 where
  pub white : HasWhite B
  pub each : (state : FrontState) (cells : List Cell) (h : Here) →
      B (n.Frontmatter state) cells h ≡ front_behaves options state cells h

-- what a state of frontmatter means: its call is one step of the rule
unfoldable pub FrontMeans : FrontState → World → State → World → Type 0
FrontMeans state old to new = IsStep (λ B. HasFront B old.setting.options) (n.Frontmatter state) to old new

-- what a state of frontmatter promises
abbrev pub IsFrontState : FrontState → World → State → Tokenizer → Type 0
IsFrontState state old answer new = IsState (front_transition state old) (FrontMeans state old) (IsFull new) answer new
