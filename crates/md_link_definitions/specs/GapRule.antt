-- The rule of whitespace with at most one line ending, as what is left of it at each state.
use Rattle.std.specs.Prelude.{◌≡◌, Bool, false, ◌||◌, ◌==◌, if◌then◌else◌, List, [], ◌∷◌, ◌++◌}
use Rattle.md_engine.specs.declared.event.Event.{Event}
use Rattle.md_engine.specs.declared.event.Name.TheVariants.{LineEnding, SpaceOrTab}
use Rattle.md_engine.specs.declared.event.Point.{Point}
use Rattle.md_engine.specs.declared.state.Name.TheVariants as n
use Rattle.md_engine.specs.declared.state.space_or_tab_eol.State.{State as GapState}
use Rattle.md_engine.specs.declared.state.space_or_tab_eol.State.TheVariants as its
use Rattle.md_engine.specs.declared.state.State.{State}
use Rattle.md_engine.specs.Meaning.{Accepts, Behaviour, Cell, Here, Outcome, Refuses}
use Rattle.md_engine.specs.Scheme.{position}
use Rattle.md_engine.specs.Sees.{IsStep}
use Rattle.md_engine.specs.World.{World}
use Rattle.md_link_definitions.specs.Gap.{GapInvariant, with_seen, without_seen, gap_transition}
use Rattle.md_events.specs.Ahead.{HasWhite, begins_white, white_end, white_rest}
use Rattle.md_events.specs.Events.Nested.{enter, exit, pair}
use Rattle.md_events.specs.Spaces.{any_size}
use Rattle.md_events.specs.States.{IsState, IsSureState}
use Rattle.md_engine.specs.declared.tokenizer.Tokenizer.{Tokenizer}
use Rattle.md_engine.specs.Full.{IsFull}

-- all whitespace that comes first is one part, if there is some
abbrev pub white_part : List Cell → Point → List Event
white_part cells p = if begins_white cells then pair SpaceOrTab p (white_end any_size cells p) else []

-- after it
unfoldable pub past_white : List Cell → Here → Here
past_white cells h =
    record h { events = h.events ++ white_part cells h.point; point = white_end any_size cells h.point }

-- where the next line begins, after an ending: its whitespace
unfoldable pub at_line : List Cell → Here → Outcome
at_line cells h =
    Accepts
    (past_white cells (record h { events = h.events ++ exit LineEnding h.point ∷ [] }))
    (white_rest any_size cells)

-- after the first whitespace: an ending, and the whitespace after it; with no ending it holds if there was some
unfoldable pub at_eol : List Cell → Here → Outcome
at_eol [] h =
    if h.scratch.seen then Accepts (record h { scratch = without_seen h.scratch }) []
    else Refuses (without_seen h.scratch) h.flags
at_eol (c ∷ cs) h =
    if c.byte == 10
    then at_line cs (record h {
      events = h.events ++ enter LineEnding h.point ∷ [];
      point = c.after;
      scratch = without_seen h.scratch;
    })
    else if h.scratch.seen then Accepts (record h { scratch = without_seen h.scratch }) (c ∷ cs)
    else Refuses (without_seen h.scratch) h.flags

-- after whitespace that was taken
abbrev pub after_first : List Cell → Here → Outcome
after_first cells h = at_eol cells (record h { scratch = with_seen h.scratch })

-- the whole rule
unfoldable pub gap_at : List Cell → Here → Outcome
gap_at cells h =
    if begins_white cells then after_first (white_rest any_size cells) (past_white cells h) else at_eol cells h

-- what is left at each state
abbrev pub gap_behaves : GapState → List Cell → Here → Outcome
gap_behaves its.Start cells h = gap_at cells h
gap_behaves its.AfterFirst cells h = after_first cells h
gap_behaves its.AtEol cells h = at_eol cells h
gap_behaves its.AfterEol cells h = at_line cells h
gap_behaves its.AfterMore cells h = Accepts h cells

pub record HasGap (B : Behaviour) : Type 0 where
  pub white : HasWhite B
  pub each : (state : GapState) (cells : List Cell) (h : Here) →
      B (n.SpaceOrTabEol state) cells h ≡ gap_behaves state cells h

-- As a whole.

-- whether a line ending comes first
abbrev pub begins_ending : List Cell → Bool
begins_ending [] = false
begins_ending (c ∷ cs) = c.byte == 10

-- it and the whitespace after it: the events,
abbrev pub ending_part : List Cell → Point → List Event
ending_part [] p = []
ending_part (c ∷ cs) p = if c.byte == 10 then pair LineEnding p c.after ++ white_part cs c.after else []

-- where they end,
abbrev pub ending_end : List Cell → Point → Point
ending_end [] p = p
ending_end (c ∷ cs) p = if c.byte == 10 then white_end any_size cs c.after else p

-- and what follows them
abbrev pub ending_rest : List Cell → List Cell
ending_rest [] = []
ending_rest (c ∷ cs) = if c.byte == 10 then white_rest any_size cs else c ∷ cs

-- whether there is a gap: whitespace comes first, or a line ending
abbrev pub begins_gap : List Cell → Bool
begins_gap cells = begins_white cells || begins_ending cells

-- its events, where it ends, and what follows it
abbrev pub gap_part : List Cell → Point → List Event
gap_part cells p = white_part cells p ++ ending_part (white_rest any_size cells) (white_end any_size cells p)

abbrev pub gap_end : List Cell → Point → Point
gap_end cells p = ending_end (white_rest any_size cells) (white_end any_size cells p)

abbrev pub gap_rest : List Cell → List Cell
gap_rest cells = ending_rest (white_rest any_size cells)

-- what a state of such whitespace means: where what it needs holds, its call is one step of the rule
unfoldable pub GapMeans : GapState → World → State → World → Type 0
GapMeans state old to new =
    GapInvariant (n.SpaceOrTabEol state) (position old) →
    IsStep HasGap (n.SpaceOrTabEol state) to old new

-- what a state of whitespace with at most one line ending promises
abbrev pub IsGapState : GapState → World → State → Tokenizer → Type 0
IsGapState state old answer new = IsState (gap_transition state old) (GapMeans state old) (IsFull new) answer new

-- the same of a state that wants no memory
abbrev pub IsSureGapState : GapState → World → State → Tokenizer → Type 0
IsSureGapState state old answer new = IsSureState (gap_transition state old) (GapMeans state old) answer new
