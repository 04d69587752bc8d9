-- Whitespace with at most one line ending, as it is between the parts of a definition (CommonMark 4.7).
use Rattle.std.specs.Prelude.{refl, Bool, true, false}
use Rattle.md_engine.specs.declared.event.Name.TheVariants.{LineEnding}
use Rattle.md_engine.specs.declared.state.Name.{Name as StateName}
use Rattle.md_engine.specs.declared.state.Name.TheVariants as n
use Rattle.md_engine.specs.declared.state.space_or_tab_eol.State.{State as GapState}
use Rattle.md_engine.specs.declared.state.space_or_tab_eol.State.TheVariants as its
use Rattle.md_engine.specs.declared.state.State.TheVariants.{Ok, Nok, Next, Retry}
use Rattle.md_engine.specs.declared.tokenizer.Scratch.{Scratch}
use Rattle.md_engine.specs.Scheme.{After, Ends, Rank, Scheme, Position, ranked}
use Rattle.md_engine.specs.World.{World}
use Rattle.md_events.specs.Spaces.{any_size, IsRest, is_current, sees_white, white_then}
use Rattle.md_events.specs.Transition.{Transition, entered, exited, taken}

-- something was taken, or nothing
abbrev pub with_seen : Scratch → Scratch
with_seen s = record s { seen = true }

abbrev pub without_seen : Scratch → Scratch
without_seen s = record s { seen = false }

-- by whether whitespace is here
abbrev pub start_code : World → Bool → Transition
start_code w true = white_then w 1 any_size (Next (n.SpaceOrTabEol its.AfterFirst)) Nok
start_code w false = record { to = Retry (n.SpaceOrTabEol its.AtEol); world = w }

-- by whether a line ending is here, and whether something was taken
abbrev pub at_eol_code : World → Bool → Bool → Transition
at_eol_code w true some = record {
  to = Next (n.SpaceOrTabEol its.AfterEol);
  world = record (taken (entered w LineEnding)) { scratch = without_seen w.scratch };
}
at_eol_code w false true = record { to = Ok; world = record w { scratch = without_seen w.scratch } }
at_eol_code w false false = record { to = Nok; world = record w { scratch = without_seen w.scratch } }

-- by whether whitespace is here
abbrev pub after_eol_code : World → Bool → Transition
after_eol_code w true = white_then (exited w LineEnding) 1 any_size (Next (n.SpaceOrTabEol its.AfterMore)) Nok
after_eol_code w false = record { to = Retry (n.SpaceOrTabEol its.AfterMore); world = exited w LineEnding }

-- each state with what it does, where there is memory
abbrev pub start_transition : World → Transition
start_transition w = start_code w (sees_white w.current)

abbrev pub after_first_transition : World → Transition
after_first_transition w =
    record { to = Retry (n.SpaceOrTabEol its.AtEol); world = record w { scratch = with_seen w.scratch } }

abbrev pub at_eol_transition : World → Transition
at_eol_transition w = at_eol_code w (is_current 10 w.current) w.scratch.seen

abbrev pub after_eol_transition : World → Transition
after_eol_transition w = after_eol_code w (sees_white w.current)

abbrev pub after_more_transition : World → Transition
after_more_transition w = record { to = Ok; world = w }

-- all of them
abbrev pub gap_transition : GapState → World → Transition
gap_transition its.Start w = start_transition w
gap_transition its.AfterFirst w = after_first_transition w
gap_transition its.AtEol w = at_eol_transition w
gap_transition its.AfterEol w = after_eol_transition w
gap_transition its.AfterMore w = after_more_transition w

-- it is at rest but where it says whether something was taken
abbrev pub GapInvariant : StateName → Position → Type 0
GapInvariant (n.SpaceOrTabEol its.AtEol) x = IsRest (without_seen x.scratch)
GapInvariant _ x = IsRest x.scratch

abbrev pub gap_ready : StateName → Position → After → Type 0
gap_ready name x K = GapInvariant name x × Ends IsRest IsRest x K

abbrev pub gap_rank : StateName → Position → Rank
gap_rank (n.SpaceOrTabEol its.Start) x = ranked 3 refl
gap_rank (n.SpaceOrTabEol its.AfterFirst) x = ranked 1 refl
gap_rank (n.SpaceOrTabEol its.AfterEol) x = ranked 2 refl
gap_rank _ x = ranked 0 refl

abbrev pub gap_tries : StateName → Rank
gap_tries (n.SpaceOrTabEol its.AfterFirst) = ranked 2 refl
gap_tries _ = ranked 1 refl

abbrev pub gap_scheme : Scheme
gap_scheme = record { ready = gap_ready; level = λ n. 1; rank = gap_rank; tries = gap_tries }
