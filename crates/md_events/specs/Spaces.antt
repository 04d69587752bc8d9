-- Spaces and tabs.
use Rattle.std.specs.Prelude.{◌≡◌, refl, ℕ, ◌+◌, ◌-◌, ◌^◌, ◌<◌, ◌≤◌, Bool, true, false, ◌&&◌, ◌==◌, if◌then◌else◌}
use Rattle.std.specs.Prelude.{nat_lt, nat_le, Option, Some, None}
use Rattle.md_engine.specs.declared.event.Name.TheVariants.{SpaceOrTab}
use Rattle.md_engine.specs.declared.state.Name.{Name as StateName}
use Rattle.md_engine.specs.declared.state.Name.TheVariants as n
use Rattle.md_engine.specs.declared.state.space_or_tab.State.{State as WhiteState}
use Rattle.md_engine.specs.declared.state.space_or_tab.State.TheVariants as its
use Rattle.md_engine.specs.declared.state.State.{State}
use Rattle.md_engine.specs.declared.state.State.TheVariants.{Ok, Nok, Next, Retry}
use Rattle.md_engine.specs.declared.tokenizer.Scratch.{Scratch}
use Rattle.md_engine.specs.declared.tokenizer.TheConstants.Scratch.{REST}
use Rattle.md_engine.specs.declared.configuration.ParseOptions.{ParseOptions}
use Rattle.md_engine.specs.Run.{Step}
use Rattle.md_engine.specs.World.{World}
use Rattle.md_engine.specs.Scheme.{Position, After, Rank, Scheme, Ends, EndsLater, cells_before, ranked}
use Rattle.md_meaning.specs.Rest.{is_white}
use Rattle.md_events.specs.Transition.{Transition, entered, exited, taken, tried}

-- whether a space or a column of a tab is here
abbrev pub sees_white : Option ℕ → Bool
sees_white None = false
sees_white (Some b) = is_white b

-- no limit
abbrev pub any_size : ℕ
any_size = 2 ^ 64 - 1

-- the greatest small indent, in columns
abbrev pub small_indent : ParseOptions → ℕ
small_indent options = if options.constructs.code_indented then 3 else any_size

-- so much whitespace is asked for, of which so much was taken
abbrev pub asking : ℕ → ℕ → ℕ → Scratch → Scratch
asking min max size s = record s { whitespace = record { min = min; max = max; size = size } }

abbrev pub calmed : Scratch → Scratch
calmed s = asking 0 0 0 s

-- an attempt at so much whitespace begins
abbrev pub white_then : World → ℕ → ℕ → State → State → Transition
white_then w min max ok nok =
    record {
      to = Retry (n.SpaceOrTab its.Start);
      world = record (tried w ok nok) { scratch = asking min max 0 w.scratch };
    }

-- by whether whitespace is here, and there is room for it
abbrev pub start_code : World → Bool → Transition
start_code w true = record { to = Retry (n.SpaceOrTab its.Inside); world = entered w SpaceOrTab }
start_code w false = record { to = Retry (n.SpaceOrTab its.After); world = w }

abbrev pub inside_code : World → Bool → Transition
inside_code w true =
    record {
      to = Next (n.SpaceOrTab its.Inside);
      world = record (taken w) {
        scratch = asking w.scratch.whitespace.min w.scratch.whitespace.max
            (w.scratch.whitespace.size + 1) w.scratch;
      };
    }
inside_code w false = record { to = Retry (n.SpaceOrTab its.After); world = exited w SpaceOrTab }

-- by whether it is enough
abbrev pub after_code : World → Bool → Transition
after_code w true = record { to = Ok; world = record w { scratch = calmed w.scratch } }
after_code w false = record { to = Nok; world = record w { scratch = calmed w.scratch } }

-- what is taken lies before the point
abbrev pub WhiteNeeds : StateName → World → Type 0
WhiteNeeds (n.SpaceOrTab its.Inside) w = w.scratch.whitespace.size ≤ cells_before w.point
WhiteNeeds _ w = Unit {0}

-- whether whitespace begins here, and some is asked for
abbrev pub begins_white : World → Bool
begins_white w = sees_white w.current && nat_lt 0 w.scratch.whitespace.max

-- each state with what it does, where there is memory
abbrev pub start_transition : World → Transition
start_transition w = start_code w (begins_white w)

abbrev pub inside_transition : World → Transition
inside_transition w = inside_code w (sees_white w.current && nat_lt w.scratch.whitespace.size w.scratch.whitespace.max)

abbrev pub after_transition : World → Transition
after_transition w = after_code w (nat_le w.scratch.whitespace.min w.scratch.whitespace.size)

-- all of them
abbrev pub white_transition : WhiteState → World → Transition
white_transition its.Start w = start_transition w
white_transition its.Inside w = inside_transition w
white_transition its.After w = after_transition w

-- the same, as steps of a table
abbrev pub WhiteStep : Step
WhiteStep (n.SpaceOrTab state) w to new = white_transition state w ≡ record { to = to; world = new }
WhiteStep name w to new = ⊥

-- whether this byte is here
abbrev pub is_current : ℕ → Option ℕ → Bool
is_current m None = false
is_current m (Some b) = b == m

-- whether the line ends here
abbrev pub ends_line : Option ℕ → Bool
ends_line None = true
ends_line (Some b) = b == 10

-- Readiness.

-- whitespace leaves all but its own fields, and refuses only where some is asked for
abbrev pub white_ready : StateName → Position → After → Type 0
white_ready n x K =
    (x.scratch.whitespace.size ≤ cells_before x.point) ×
    Ends (λ s. s ≡ calmed x.scratch) (λ s. (s ≡ calmed x.scratch) × (0 < x.scratch.whitespace.min)) x K

abbrev pub white_rank : StateName → Position → Rank
white_rank (n.SpaceOrTab its.Start) x = ranked 2 refl
white_rank (n.SpaceOrTab its.Inside) x = ranked 1 refl
white_rank _ x = ranked 0 refl

abbrev pub white_scheme : Scheme
white_scheme = record { ready = white_ready; level = λ n. 0; rank = white_rank; tries = λ n. ranked 0 refl }

-- a construct at rest, which ends at rest
abbrev pub IsRest : Scratch → Type 0
IsRest s = s ≡ REST

abbrev pub rest_ready : Position → After → Type 0
rest_ready x K = IsRest x.scratch × Ends IsRest IsRest x K

-- one that accepts only after the point where it begins
abbrev pub later_ready : Position → After → Type 0
later_ready x K = IsRest x.scratch × EndsLater IsRest IsRest x K
