-- The check that a further line is not lazy.
use Rattle.std.specs.Prelude.{◌≡◌, refl, Bool, true, false}
use Rattle.md_engine.specs.declared.event.Name.TheVariants.{LineEnding}
use Rattle.md_engine.specs.declared.state.Name.TheVariants as n
use Rattle.md_engine.specs.declared.state.non_lazy_continuation.State.{State as NonLazyState}
use Rattle.md_engine.specs.declared.state.non_lazy_continuation.State.TheVariants as its
use Rattle.md_engine.specs.declared.state.State.TheVariants.{Ok, Nok, Next}
use Rattle.md_engine.specs.Scheme.{After, Ends, Scheme, Position, ranked}
use Rattle.md_engine.specs.World.{World}
use Rattle.md_events.specs.Spaces.{is_current}
use Rattle.md_events.specs.Transition.{Transition, entered, exited, taken}

-- by whether the line ends here, with an ending
abbrev pub start_code : World → Bool → Transition
start_code w true =
    record { to = Next (n.NonLazyContinuation its.After); world = exited (taken (entered w LineEnding)) LineEnding }
start_code w false = record { to = Nok; world = w }

-- by whether the line that begins here is lazy
abbrev pub after_code : World → Bool → Transition
after_code w true = record { to = Nok; world = w }
after_code w false = record { to = Ok; world = w }

-- each state with what it does, where there is memory
abbrev pub start_transition : World → Transition
start_transition w = start_code w (is_current 10 w.current)

abbrev pub after_transition : World → Transition
after_transition w = after_code w w.setting.line.lazy

-- both of them
abbrev pub non_lazy_transition : NonLazyState → World → Transition
non_lazy_transition its.Start w = start_transition w
non_lazy_transition its.After w = after_transition w

-- it leaves the scratch of the construct around it as it is, whatever that keeps
abbrev pub non_lazy_ready : Position → After → Type 0
non_lazy_ready x K = Ends (λ s. s ≡ x.scratch) (λ s. s ≡ x.scratch) x K

abbrev pub non_lazy_scheme : Scheme
non_lazy_scheme =
    record {
      ready = λ n x K. non_lazy_ready x K;
      level = λ n. 0;
      rank = λ n x. ranked 0 refl;
      tries = λ n. ranked 0 refl;
    }
