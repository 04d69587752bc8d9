-- The thematic break.
use Rattle.std.specs.Prelude.{◌≡◌, refl, ℕ, ◌+◌, ◌≤◌, Bool, true, false, ◌&&◌, ◌||◌, ◌==◌, if◌then◌else◌, nat_le}
use Rattle.std.specs.Prelude.{Option, Some, None}
use Rattle.md_engine.specs.declared.event.Name.TheVariants.{ThematicBreak, ThematicBreakSequence}
use Rattle.md_engine.specs.declared.state.Name.{Name as StateName}
use Rattle.md_engine.specs.declared.state.Name.TheVariants as n
use Rattle.md_engine.specs.declared.state.thematic_break.State.{State as BreakState}
use Rattle.md_engine.specs.declared.state.thematic_break.State.TheVariants as its
use Rattle.md_engine.specs.declared.state.State.TheVariants.{Ok, Nok, Next, Retry}
use Rattle.md_engine.specs.declared.tokenizer.Scratch.{Scratch}
use Rattle.md_engine.specs.Scheme.{After, Ends, Rank, Scheme, Position, cells_before, ranked, seen}
use Rattle.md_engine.specs.World.{World}
use Rattle.md_leaves.specs.HeadingSetext.{turns_nothing}
use Rattle.md_leaves.specs.LeafStart as leaf
use Rattle.md_events.specs.Spaces.{any_size, ends_line, IsRest, is_current, sees_white, white_then}
use Rattle.md_events.specs.Transition.{Transition, entered, exited, taken}

-- a marker of a break (CommonMark 4.1)
abbrev pub is_marker : ℕ → Bool
is_marker b = (b == 42) || (b == 45) || (b == 95)

-- what may be first after the indent of a break
abbrev pub may_begin : ℕ → Bool
may_begin b = is_marker b

abbrev pub without_marker : Scratch → Scratch
without_marker s = record s { marker = 0; size = 0 }

-- at this marker, by whether a line of one run of it is no break
abbrev pub marked_code : World → ℕ → Bool → Transition
marked_code w b true = record {
  to = Retry (n.ThematicBreak its.OneRun);
  world = record (entered w ThematicBreakSequence) { scratch = record w.scratch { marker = b } };
}
marked_code w b false = record {
  to = Retry (n.ThematicBreak its.AtBreak);
  world = record w { scratch = record w.scratch { marker = b } };
}

-- by what is here, and whether an underline has nothing to turn
abbrev pub before_code : World → Bool → Option ℕ → Transition
before_code w nothing None = record { to = Nok; world = w }
before_code w nothing (Some b) =
    if is_marker b then marked_code w b ((b == 45) && nothing) else record { to = Nok; world = w }

-- by whether the marker is here, and whether the line ends here with enough of it
abbrev pub at_break_code : World → Bool → Bool → Transition
at_break_code w true done =
    record { to = Retry (n.ThematicBreak its.Sequence); world = entered w ThematicBreakSequence }
at_break_code w false true =
    record { to = Ok; world = record (exited w ThematicBreak) { scratch = without_marker w.scratch } }
at_break_code w false false = record { to = Nok; world = record w { scratch = without_marker w.scratch } }

-- by whether the marker is here, and whether whitespace does
abbrev pub sequence_code : World → Bool → Bool → Transition
sequence_code w true white =
    record {
      to = Next (n.ThematicBreak its.Sequence);
      world = record (taken w) { scratch = record w.scratch { size = w.scratch.size + 1 } };
    }
sequence_code w false true =
    white_then (exited w ThematicBreakSequence) 0 any_size (Next (n.ThematicBreak its.AtBreak)) Nok
sequence_code w false false =
    record { to = Retry (n.ThematicBreak its.AtBreak); world = exited w ThematicBreakSequence }

-- in the first run, where it may not be all of the line: by whether the marker is here, and whether whitespace does
abbrev pub one_run_code : World → Bool → Bool → Transition
one_run_code w true white =
    record {
      to = Next (n.ThematicBreak its.OneRun);
      world = record (taken w) { scratch = record w.scratch { size = w.scratch.size + 1 } };
    }
one_run_code w false true =
    white_then (exited w ThematicBreakSequence) 0 any_size (Next (n.ThematicBreak its.OneRunAfter)) Nok
one_run_code w false false =
    record { to = Retry (n.ThematicBreak its.OneRunAfter); world = exited w ThematicBreakSequence }

-- after it and whitespace, by whether the line ends here
abbrev pub one_run_after_code : World → Bool → Transition
one_run_after_code w true = record { to = Nok; world = record w { scratch = without_marker w.scratch } }
one_run_after_code w false = record { to = Retry (n.ThematicBreak its.AtBreak); world = w }

-- each state with what it does, where there is memory
abbrev pub start_transition : World → Transition
start_transition w =
    leaf.start_transition ThematicBreak (n.ThematicBreak its.Before) w.setting.options.constructs.thematic_break w

abbrev pub before_transition : World → Transition
before_transition w = before_code w (turns_nothing w.setting.options w.flags.leaf) w.current

abbrev pub at_break_transition : World → Transition
at_break_transition w =
    at_break_code w (is_current w.scratch.marker w.current) (ends_line w.current && nat_le 3 w.scratch.size)

abbrev pub sequence_transition : World → Transition
sequence_transition w = sequence_code w (is_current w.scratch.marker w.current) (sees_white w.current)

abbrev pub one_run_transition : World → Transition
one_run_transition w = one_run_code w (is_current w.scratch.marker w.current) (sees_white w.current)

abbrev pub one_run_after_transition : World → Transition
one_run_after_transition w = one_run_after_code w (ends_line w.current)

-- all of them
abbrev pub break_transition : BreakState → World → Transition
break_transition its.Start w = start_transition w
break_transition its.Before w = before_transition w
break_transition its.AtBreak w = at_break_transition w
break_transition its.Sequence w = sequence_transition w
break_transition its.OneRun w = one_run_transition w
break_transition its.OneRunAfter w = one_run_after_transition w

-- After the indent there is a marker, and those that were taken lie before the point.
pub record IsMarked (x : Position) : Type 0 where
  pub marker : is_marker x.scratch.marker ≡ true
  pub size : x.scratch.size ≤ cells_before x.point
  pub rest : IsRest (without_marker x.scratch)

abbrev pub BreakNeeds : StateName → World → Type 0
BreakNeeds (n.ThematicBreak its.Sequence) w = w.scratch.size ≤ cells_before w.point
BreakNeeds (n.ThematicBreak its.OneRun) w = w.scratch.size ≤ cells_before w.point
BreakNeeds _ w = Unit {0}

-- what holds at each state of a break
abbrev pub BreakInvariant : StateName → Position → Type 0
BreakInvariant (n.ThematicBreak its.AtBreak) x = IsMarked x
BreakInvariant (n.ThematicBreak its.Sequence) x = IsMarked x
BreakInvariant (n.ThematicBreak its.OneRun) x = IsMarked x
BreakInvariant (n.ThematicBreak its.OneRunAfter) x = IsMarked x
BreakInvariant _ x = IsRest x.scratch

abbrev pub break_ready : StateName → Position → After → Type 0
break_ready name x K = BreakInvariant name x × Ends IsRest IsRest x K

abbrev pub break_rank : StateName → Position → Rank
break_rank (n.ThematicBreak its.Start) x = ranked 6 refl
break_rank (n.ThematicBreak its.Before) x = ranked 4 refl
break_rank (n.ThematicBreak its.AtBreak) x =
    if is_current x.scratch.marker (seen x) then ranked 2 refl else ranked 0 refl
break_rank (n.ThematicBreak its.OneRun) x =
    if is_current x.scratch.marker (seen x) then ranked 1 refl else ranked 3 refl
break_rank (n.ThematicBreak its.OneRunAfter) x =
    if is_current x.scratch.marker (seen x) then ranked 3 refl else ranked 1 refl
break_rank _ x = if is_current x.scratch.marker (seen x) then ranked 1 refl else ranked 2 refl

abbrev pub break_tries : StateName → Rank
break_tries (n.ThematicBreak its.Before) = ranked 5 refl
break_tries (n.ThematicBreak its.OneRunAfter) = ranked 2 refl
break_tries _ = ranked 1 refl

abbrev pub break_scheme : Scheme
break_scheme = record { ready = break_ready; level = λ n. 1; rank = break_rank; tries = break_tries }
