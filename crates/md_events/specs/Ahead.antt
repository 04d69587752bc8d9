-- What is still to come of a line, as a state is fed it: its whitespace, and its end.
use Rattle.std.specs.Prelude.{◌≡◌, ℕ, zero, suc, ◌+◌, ◌-◌, Bool, false, ◌&&◌, ◌==◌, if◌then◌else◌, nat_lt, nat_le, List}
use Rattle.std.specs.Prelude.{[], ◌∷◌, ◌++◌, map}
use Rattle.md_engine.specs.declared.event.Name.TheVariants.{SpaceOrTab}
use Rattle.md_engine.specs.declared.event.Point.{Point}
use Rattle.md_engine.specs.declared.state.Name.TheVariants as n
use Rattle.md_engine.specs.declared.state.space_or_tab.State.{State as WhiteState}
use Rattle.md_engine.specs.declared.state.space_or_tab.State.TheVariants as its
use Rattle.md_engine.specs.declared.state.State.{State}
use Rattle.md_engine.specs.Meaning.{Accepts, Behaviour, Cell, Here, Outcome, Refuses}
use Rattle.md_engine.specs.Sees.{IsStep}
use Rattle.md_engine.specs.World.{World}
use Rattle.md_events.specs.Events.Nested.{enter, exit}
use Rattle.md_meaning.specs.Rest.{is_white}
use Rattle.md_events.specs.Spaces.{asking, calmed, white_transition}
use Rattle.md_events.specs.States.{IsState, IsSureState}
use Rattle.md_engine.specs.declared.tokenizer.Tokenizer.{Tokenizer}
use Rattle.md_engine.specs.Full.{IsFull}

-- the cells of the line, without its ending
abbrev pub line_cells : List Cell → List Cell
line_cells [] = []
line_cells (c ∷ cs) = if c.byte == 10 then [] else c ∷ line_cells cs

-- its bytes, with the columns of a tab after its first as spaces
abbrev pub line_bytes : List Cell → List ℕ
line_bytes cells = map (λ (c : Cell). c.byte) (line_cells cells)

-- from the line's ending on
abbrev pub from_ending : List Cell → List Cell
from_ending [] = []
from_ending (c ∷ cs) = if c.byte == 10 then c ∷ cs else from_ending cs

-- the point after these cells
abbrev pub point_after : List Cell → Point → Point
point_after [] p = p
point_after (c ∷ cs) p = point_after cs c.after

-- where the line ends
abbrev pub line_end : List Cell → Point → Point
line_end cells p = point_after (line_cells cells) p

-- whether whitespace comes first
abbrev pub begins_white : List Cell → Bool
begins_white [] = false
begins_white (c ∷ cs) = is_white c.byte

-- how many columns of whitespace come first, at most so many
abbrev pub white_size : ℕ → List Cell → ℕ
white_size room [] = 0
white_size zero (c ∷ cs) = 0
white_size (suc room) (c ∷ cs) = if is_white c.byte then suc (white_size room cs) else 0

-- where they end
abbrev pub white_end : ℕ → List Cell → Point → Point
white_end room [] p = p
white_end zero (c ∷ cs) p = p
white_end (suc room) (c ∷ cs) p = if is_white c.byte then white_end room cs c.after else p

-- what follows them
abbrev pub white_rest : ℕ → List Cell → List Cell
white_rest room [] = []
white_rest zero (c ∷ cs) = c ∷ cs
white_rest (suc room) (c ∷ cs) = if is_white c.byte then white_rest room cs else c ∷ cs

-- after the whitespace: it holds if that is enough
unfoldable pub after_white : List Cell → Here → Outcome
after_white cells h =
    if nat_le h.scratch.whitespace.min h.scratch.whitespace.size
    then Accepts (record h { scratch = calmed h.scratch }) cells
    else Refuses (calmed h.scratch) h.flags

-- inside whitespace: the rest of it, as far as there is room
unfoldable pub inside_white : List Cell → Here → Outcome
inside_white cells h =
    let white = h.scratch.whitespace in
    let room = white.max - white.size in
    let p = white_end room cells h.point in
    after_white (white_rest room cells)
    (record h {
      events = h.events ++ exit SpaceOrTab p ∷ [];
      point = p;
      scratch = asking white.min white.max (white.size + white_size room cells) h.scratch;
    })

-- the whole rule: all whitespace as far as there is room is one part, if there is any
unfoldable pub white_at : List Cell → Here → Outcome
white_at cells h =
    if begins_white cells && nat_lt 0 h.scratch.whitespace.max
    then inside_white cells (record h { events = h.events ++ enter SpaceOrTab h.point ∷ [] })
    else after_white cells h

-- what is left at each state
abbrev pub white_behaves : WhiteState → List Cell → Here → Outcome
white_behaves its.Start cells h = white_at cells h
white_behaves its.Inside cells h = inside_white cells h
white_behaves its.After cells h = after_white cells h

pub record HasWhite (B : Behaviour) : Type 0 where
  pub each : (state : WhiteState) (cells : List Cell) (h : Here) →
      B (n.SpaceOrTab state) cells h ≡ white_behaves state cells h

-- what a state of whitespace means: its call is one step of the rule
unfoldable pub WhiteMeans : WhiteState → World → State → World → Type 0
WhiteMeans state old to new = IsStep HasWhite (n.SpaceOrTab state) to old new

-- what a state of whitespace promises
abbrev pub IsWhiteState : WhiteState → World → State → Tokenizer → Type 0
IsWhiteState state old answer new = IsState (white_transition state old) (WhiteMeans state old) (IsFull new) answer new

-- the same of a state that wants no memory
abbrev pub IsSureWhiteState : WhiteState → World → State → Tokenizer → Type 0
IsSureWhiteState state old answer new = IsSureState (white_transition state old) (WhiteMeans state old) answer new
