-- The blank line.
use Rattle.std.specs.Prelude.{refl, ℕ, Bool, true, false, ◌==◌}
use Rattle.md_engine.specs.declared.state.Name.{Name as StateName}
use Rattle.md_engine.specs.declared.state.Name.TheVariants as n
use Rattle.md_engine.specs.declared.state.blank_line.State.{State as BlankState}
use Rattle.md_engine.specs.declared.state.blank_line.State.TheVariants as its
use Rattle.md_engine.specs.declared.state.State.TheVariants.{Ok, Nok, Next, Retry}
use Rattle.md_engine.specs.Scheme.{Rank, Scheme, Position, ranked}
use Rattle.md_engine.specs.World.{World}
use Rattle.md_events.specs.Spaces.{any_size, ends_line, rest_ready, sees_white, white_then}
use Rattle.md_events.specs.Transition.{Transition}

-- what may be first after the whitespace of a blank line: its ending
abbrev pub may_begin : ℕ → Bool
may_begin b = b == 10

-- by whether whitespace is here
abbrev pub start_code : World → Bool → Transition
start_code w true = white_then w 1 any_size (Next (n.BlankLine its.After)) Nok
start_code w false = record { to = Retry (n.BlankLine its.After); world = w }

-- by whether the line ends here
abbrev pub after_code : World → Bool → Transition
after_code w true = record { to = Ok; world = w }
after_code w false = record { to = Nok; world = w }

-- each state with what it does, where there is memory
abbrev pub start_transition : World → Transition
start_transition w = start_code w (sees_white w.current)

abbrev pub after_transition : World → Transition
after_transition w = after_code w (ends_line w.current)

-- all of them
abbrev pub blank_transition : BlankState → World → Transition
blank_transition its.Start w = start_transition w
blank_transition its.After w = after_transition w

-- a blank line begins and ends at rest
abbrev pub blank_rank : StateName → Position → Rank
blank_rank (n.BlankLine its.Start) x = ranked 2 refl
blank_rank _ x = ranked 0 refl

abbrev pub blank_scheme : Scheme
blank_scheme = record { ready = λ n x K. rest_ready x K; level = λ n. 1; rank = blank_rank; tries = λ n. ranked 1 refl }
