-- The rule of the underline of a setext heading, as what is left of it at each state (CommonMark 4.3).
use Rattle.std.specs.Prelude.{◌≡◌, ℕ, Bool, false, ◌&&◌, if◌then◌else◌, List, [], ◌∷◌, ◌++◌, drop}
use Rattle.md_engine.specs.Scheme.{position}
use Rattle.md_engine.specs.World.{World}
use Rattle.md_engine.specs.Sees.{IsStep}
use Rattle.md_engine.specs.declared.state.State.{State}
use Rattle.md_engine.specs.declared.configuration.ParseOptions.{ParseOptions}
use Rattle.md_engine.specs.declared.event.Event.{Event}
use Rattle.md_engine.specs.declared.event.Name.TheVariants.{HeadingSetextUnderline, HeadingSetextUnderlineSequence}
use Rattle.md_engine.specs.declared.event.Name.TheVariants.{SpaceOrTab}
use Rattle.md_engine.specs.declared.event.Point.{Point}
use Rattle.md_engine.specs.declared.state.Name.TheVariants as n
use Rattle.md_engine.specs.declared.state.heading_setext.State.{State as SetextState}
use Rattle.md_engine.specs.declared.state.heading_setext.State.TheVariants as its
use Rattle.md_engine.specs.declared.tokenizer.held_leaf.HeldLeaf.TheVariants as held_leaf
use Rattle.md_engine.specs.Meaning.{Accepts, Behaviour, Cell, Here, Outcome, Refuses}
use Rattle.md_leaves.specs.HeadingSetext.{SetextInvariant, is_marker, may_turn, without_marker, setext_transition}
use Rattle.md_leaves.specs.LeafStart.{start_at}
use Rattle.md_leaves.specs.MarkRuns.{Apart, Marks, Run, mark_runs}
use Rattle.md_events.specs.Ahead.{HasWhite, begins_white, from_ending, line_bytes, line_cells, line_end, white_end}
use Rattle.md_events.specs.Ahead.{white_rest}
use Rattle.md_events.specs.Events.Nested.{exit, pair}
use Rattle.md_events.specs.Look.{first_seen}
use Rattle.md_events.specs.Spaces.{ends_line, small_indent}
use Rattle.md_meaning.specs.Rest.{is_blank, run_len}
use Rattle.md_events.specs.States.{IsState}
use Rattle.md_engine.specs.declared.tokenizer.Tokenizer.{Tokenizer}
use Rattle.md_engine.specs.Full.{IsFull}

-- the run of the marker, and the whitespace after it
abbrev pub runs : Run → ℕ → List Cell → Point → List Event
runs run m cells p = mark_runs HeadingSetextUnderlineSequence run m cells p

-- an underline to the end of the line; no leaf is open after it
abbrev pub underlined : Run → ℕ → List Cell → Here → Outcome
underlined run m cells h =
    let p = line_end cells h.point in
    Accepts
    (record h {
      events = h.events ++ runs run m (line_cells cells) h.point ++ exit HeadingSetextUnderline p ∷ [];
      point = p;
      scratch = without_marker h.scratch;
      flags = record h.flags { leaf = held_leaf.None };
    })
    (from_ending cells)

-- whether only the marker is left of a line, and whitespace after it
abbrev pub is_run : ℕ → List ℕ → Bool
is_run m bytes = is_blank (drop (run_len m bytes) bytes)

-- in the run
unfoldable pub in_run : List Cell → Here → Outcome
in_run cells h =
    if is_run h.scratch.marker (line_bytes cells) then underlined Marks h.scratch.marker cells h
    else Refuses (without_marker h.scratch) h.flags

-- after the run, and the whitespace that follows it
unfoldable pub after_run : List Cell → Here → Outcome
after_run cells h =
    if ends_line (first_seen cells)
    then Accepts
    (record h {
      events = h.events ++ exit HeadingSetextUnderline h.point ∷ [];
      flags = record h.flags { leaf = held_leaf.None };
    })
    cells
    else Refuses h.scratch h.flags

-- one or more of `=` or of `-`, and then whitespace alone
abbrev pub is_underline : List ℕ → Bool
is_underline [] = false
is_underline (m ∷ bytes) = is_marker m && is_run m (m ∷ bytes)

-- after the indent
unfoldable pub before_run : List Cell → Here → Outcome
before_run [] h = Refuses h.scratch h.flags
before_run (c ∷ cs) h =
    if is_underline (line_bytes (c ∷ cs)) then underlined Apart c.byte (c ∷ cs) h else Refuses h.scratch h.flags

-- the whole rule, if setext headings are on and one turns what is open: a small indent, and an underline after it
abbrev pub setext_at : ParseOptions → List Cell → Here → Outcome
setext_at options cells h =
    start_at HeadingSetextUnderline (options.constructs.heading_setext && may_turn options h.flags.leaf) before_run
    options cells h

-- what is left at each state
abbrev pub setext_behaves : ParseOptions → SetextState → List Cell → Here → Outcome
setext_behaves options its.Start cells h = setext_at options cells h
setext_behaves options its.Before cells h = before_run cells h
setext_behaves options its.Inside cells h = in_run cells h
setext_behaves options its.After cells h = after_run cells h

pub record HasSetext (B : Behaviour) (options : ParseOptions) : Type 0 where
  pub white : HasWhite B
  pub each : (state : SetextState) (cells : List Cell) (h : Here) →
      B (n.HeadingSetext state) cells h ≡ setext_behaves options state cells h

-- what a state of an underline means: where what it needs holds, its call is one step of the rule
unfoldable pub SetextMeans : SetextState → World → State → World → Type 0
SetextMeans state old to new =
    SetextInvariant (n.HeadingSetext state) (position old) →
    IsStep (λ B. HasSetext B old.setting.options) (n.HeadingSetext state) to old new

-- A line as a whole.

-- whether an underline is on a line of these cells, with as much whitespace before it as there may be
abbrev pub is_underline_line : ParseOptions → List Cell → Bool
is_underline_line options cells =
    options.constructs.heading_setext && is_underline (line_bytes (white_rest (small_indent options) cells))

-- the byte of the markers, and 0 of none
abbrev pub first_cell : List Cell → ℕ
first_cell [] = 0
first_cell (c ∷ cs) = c.byte

-- what is in it: its indent, and its runs
abbrev pub underline_inside : ParseOptions → List Cell → Point → List Event
underline_inside options cells p =
    let room = small_indent options in
    let rest = white_rest room cells in
    let q = white_end room cells p in
    (if begins_white cells then pair SpaceOrTab p q else []) ++ runs Apart (first_cell rest) (line_cells rest) q

-- what a state of an underline promises
abbrev pub IsSetextState : SetextState → World → State → Tokenizer → Type 0
IsSetextState state old answer new =
    IsState (setext_transition state old) (SetextMeans state old) (IsFull new) answer new
