-- The rule of indented code, a line at a time, as what is left of it at each state (CommonMark 4.4).
use Rattle.std.specs.Prelude.{◌≡◌, ℕ, Bool, true, ◌&&◌, ◌||◌, not, nat_le, if◌then◌else◌, List, [], ◌∷◌, ◌++◌}
use Rattle.std.specs.Prelude.{Option, Some, None}
use Rattle.md_engine.specs.declared.configuration.ParseOptions.{ParseOptions}
use Rattle.md_engine.specs.declared.event.Event.{Event}
use Rattle.md_engine.specs.declared.event.Name.TheVariants.{CodeFlowChunk, CodeIndented, SpaceOrTab}
use Rattle.md_engine.specs.declared.event.Point.{Point}
use Rattle.md_engine.specs.declared.state.Name.TheVariants as n
use Rattle.md_engine.specs.declared.state.code_indented.State.{State as CodeState}
use Rattle.md_engine.specs.declared.state.code_indented.State.TheVariants as its
use Rattle.md_engine.specs.declared.tokenizer.held_leaf.HeldLeaf.{HeldLeaf}
use Rattle.md_engine.specs.declared.tokenizer.held_leaf.HeldLeaf.TheVariants as held_leaf
use Rattle.md_engine.specs.declared.state.State.{State}
use Rattle.md_engine.specs.Meaning.{Accepts, Behaviour, Cell, Here, Outcome, Refuses}
use Rattle.md_engine.specs.Scheme.{position}
use Rattle.md_engine.specs.Sees.{IsStep}
use Rattle.md_engine.specs.World.{World}
use Rattle.md_literal.specs.Code.{CodeInvariant, chunk_begun, may_open, code_transition}
use Rattle.md_leaves.specs.Further.{further_link}
use Rattle.md_events.specs.Ahead.{HasWhite, begins_white, from_ending, line_bytes, line_end, white_end, white_rest}
use Rattle.md_events.specs.Ahead.{white_size}
use Rattle.md_events.specs.Events.Nested.{enter, enter_link, exit, pair}
use Rattle.md_events.specs.Spaces.{calmed}
use Rattle.md_meaning.specs.Bytes.{is_end}
use Rattle.md_meaning.specs.Rest.{is_blank}
use Rattle.md_events.specs.States.{IsState, IsSureState}
use Rattle.md_engine.specs.declared.tokenizer.Tokenizer.{Tokenizer}
use Rattle.md_engine.specs.Full.{IsFull}

-- after an event
abbrev pub then_here : Event → Here → Here
then_here e h = record h { events = h.events ++ e ∷ [] }

-- after whitespace, at most so many columns
abbrev pub after_columns : ℕ → List Cell → Here → Here
after_columns room cells h =
    let p = white_end room cells h.point in
    record h { events = h.events ++ pair SpaceOrTab h.point p; point = p; scratch = calmed h.scratch }

-- a chunk reaches to the end of the line
abbrev pub after_chunk : List Cell → Here → Here
after_chunk cells h =
    let p = line_end cells h.point in
    record h { events = h.events ++ exit CodeFlowChunk p ∷ []; point = p }

-- a line of code ends here: code is open after it
abbrev pub code_ends : List Cell → Here → Outcome
code_ends cells h =
    Accepts
    (record h { events = h.events ++ exit CodeIndented h.point ∷ []; flags = record h.flags { leaf = held_leaf.Code } })
    cells

-- in a chunk with text
unfoldable pub in_text : List Cell → Here → Outcome
in_text cells h = code_ends (from_ending cells) (after_chunk cells h)

-- in a chunk without text yet
unfoldable pub in_blank : List Cell → Here → Outcome
in_blank cells h = if is_blank (line_bytes cells) then Refuses h.scratch h.flags else in_text cells h

-- after the four columns
abbrev pub at_break : List Cell → Here → Outcome
at_break cells h = in_blank cells (then_here (enter CodeFlowChunk h.point) h)

-- whether four columns of whitespace come first
abbrev pub is_indented : List Cell → Bool
is_indented cells = nat_le 4 (white_size 4 cells)

-- the rule of a line of code with this begin, where it may be here
unfoldable pub line_at : Bool → Event → List Cell → Here → Outcome
line_at may begin cells h =
    if may && is_indented cells then at_break (white_rest 4 cells) (after_columns 4 cells (then_here begin h))
    else Refuses h.scratch h.flags

-- the whole rule of the first line of code, if code is on and this leaf lets it begin
abbrev pub code_at : ParseOptions → List Cell → Here → Outcome
code_at options cells h =
    line_at (options.constructs.code_indented && may_open h.flags.leaf) (enter CodeIndented h.point) cells h

-- and of a further one, where code is open
abbrev pub further_line : List Cell → Here → Outcome
further_line cells h = line_at true (enter_link CodeIndented h.point further_link) cells h

-- a blank line ends here: it continues the code, and is one for the endings still
abbrev pub blank_ends : List Cell → Here → Outcome
blank_ends cells h = Accepts (record h { flags = record h.flags { blank = true } }) cells

-- in what whitespace is left of a blank line
unfoldable pub further_inside : List Cell → Here → Outcome
further_inside cells h =
    if is_blank (line_bytes cells) then blank_ends (from_ending cells) (after_chunk cells h)
    else Refuses h.scratch h.flags

-- after its first columns
unfoldable pub further_after : List Cell → Here → Outcome
further_after cells h =
    if is_end (line_bytes cells) then blank_ends cells h
    else further_inside cells (then_here (enter CodeFlowChunk h.point) h)

-- where it is noted that the chunk of a blank line begins
abbrev pub noted_chunk : List Cell → Here → Outcome
noted_chunk cells h =
    further_inside cells (then_here (enter CodeFlowChunk h.point) (record h { scratch = chunk_begun h.scratch }))

-- where a chunk begins: of a blank line if that is noted, and else of a line of code
abbrev pub chunk_at : List Cell → Here → Outcome
chunk_at cells h = if h.scratch.seen then noted_chunk cells h else at_break cells h

-- a line that is no line of code continues open code if it is blank
unfoldable pub further_begin : List Cell → Here → Outcome
further_begin cells h =
    if begins_white cells then further_after (white_rest 4 cells) (after_columns 4 cells h) else further_after cells h

abbrev pub or_blank : List Cell → Here → Outcome → Outcome
or_blank cells h (Refuses s g) = further_begin cells (record h { scratch = s; flags = g })
or_blank cells h o = o

-- the whole rule of a line that may continue open code
abbrev pub code_further : List Cell → Here → Outcome
code_further cells h = or_blank cells h (further_line cells h)

-- what is left at each state
abbrev pub code_behaves : ParseOptions → CodeState → List Cell → Here → Outcome
code_behaves options its.Start cells h = code_at options cells h
code_behaves options its.AtBreak cells h = chunk_at cells h
code_behaves options its.InsideBlank cells h = in_blank cells h
code_behaves options its.Inside cells h = in_text cells h
code_behaves options its.After cells h = code_ends cells h
code_behaves options its.FurtherStart cells h = code_further cells h
code_behaves options its.FurtherLine cells h = further_line cells h
code_behaves options its.FurtherBegin cells h = further_begin cells h
code_behaves options its.FurtherAfter cells h = further_after cells h
code_behaves options its.FurtherInside cells h = further_inside cells h

pub record HasCode (B : Behaviour) (options : ParseOptions) : Type 0 where
  pub white : HasWhite B
  pub each : (state : CodeState) (cells : List Cell) (h : Here) →
      B (n.CodeIndented state) cells h ≡ code_behaves options state cells h

-- what a state of code means: where what it needs holds, its call is one step of the rule
unfoldable pub CodeMeans : CodeState → World → State → World → Type 0
CodeMeans state old to new =
    CodeInvariant (n.CodeIndented state) (position old) →
    IsStep (λ B. HasCode B old.setting.options) (n.CodeIndented state) to old new

-- A line as a whole.

-- what is kept if it is the first line of code, where this leaf is open: an indent, and text after it
abbrev pub code_begins : ParseOptions → HeldLeaf → List Cell → Option HeldLeaf
code_begins options leaf cells =
    if options.constructs.code_indented && may_open leaf && is_indented cells && not (is_blank (line_bytes cells))
    then Some held_leaf.Code else None

-- what a line of code with this begin adds: its indent, and a chunk over the rest
abbrev pub line_adds : Event → List Cell → Point → List Event
line_adds begin cells p =
    let q = white_end 4 cells p in
    let r = line_end cells p in
    begin ∷ pair SpaceOrTab p q ++ pair CodeFlowChunk q r ++ exit CodeIndented r ∷ []

-- and what the first one adds
abbrev pub code_adds : List Cell → Point → List Event
code_adds cells p = line_adds (enter CodeIndented p) cells p

-- what is kept if a line continues open code: it is blank, or one of code
abbrev pub code_continues : HeldLeaf → List Cell → Option HeldLeaf
code_continues leaf cells =
    if is_blank (line_bytes cells) then Some leaf else if is_indented cells then Some held_leaf.Code else None

-- what a blank line adds: at most four columns of whitespace, and a chunk over the rest, if there are any
abbrev pub blank_adds : List Cell → Point → List Event
blank_adds cells p =
    let q = white_end 4 cells p in
    (if begins_white cells then pair SpaceOrTab p q else [])
    ++ (if is_end (line_bytes (white_rest 4 cells)) then [] else pair CodeFlowChunk q (line_end cells p))

-- and what any line adds that continues
abbrev pub code_adds_on : List Cell → Point → List Event
code_adds_on cells p =
    if is_blank (line_bytes cells) then blank_adds cells p
    else line_adds (enter_link CodeIndented p further_link) cells p

-- a line that is taken with these events, if something is kept, and noted as blank or not
abbrev pub line_by : Bool → List Event → List Cell → Here → Option HeldLeaf → Outcome
line_by blank added cells h None = Refuses h.scratch h.flags
line_by blank added cells h (Some leaf) =
    Accepts
    (record h {
      events = h.events ++ added;
      point = line_end cells h.point;
      flags = record h.flags { leaf = leaf; blank = blank || h.flags.blank };
    })
    (from_ending cells)

-- what a state of indented code promises
abbrev pub IsCodeState : CodeState → World → State → Tokenizer → Type 0
IsCodeState state old answer new = IsState (code_transition state old) (CodeMeans state old) (IsFull new) answer new

-- the same of a state that wants no memory
abbrev pub IsSureCodeState : CodeState → World → State → Tokenizer → Type 0
IsSureCodeState state old answer new = IsSureState (code_transition state old) (CodeMeans state old) answer new
