-- The ATX heading.
use Rattle.std.specs.Prelude.{refl, ℕ, ◌+◌, ◌≤◌, Bool, true, false, ◌&&◌, ◌||◌, ◌==◌, not, if◌then◌else◌, nat_lt}
use Rattle.std.specs.Prelude.{List, [], ◌++◌, Option, Some, None}
use Rattle.md_engine.specs.declared.event.Event.{Event}
use Rattle.md_engine.specs.declared.event.Name.TheVariants.{HeadingAtx, HeadingAtxSequence}
use Rattle.md_engine.specs.declared.event.Point.{Point}
use Rattle.md_engine.specs.declared.state.Name.{Name as StateName}
use Rattle.md_engine.specs.declared.state.Name.TheVariants as n
use Rattle.md_engine.specs.declared.state.heading_atx.State.{State as HeadingState}
use Rattle.md_engine.specs.declared.state.heading_atx.State.TheVariants as its
use Rattle.md_engine.specs.declared.state.State.TheVariants.{Ok, Nok, Next, Retry}
use Rattle.md_engine.specs.declared.tokenizer.Scratch.{Scratch}
use Rattle.md_engine.specs.Scheme.{After, Ends, Rank, Scheme, Position, ranked, seen}
use Rattle.md_engine.specs.Place.{first_point}
use Rattle.md_engine.specs.World.{World}
use Rattle.md_leaves.specs.HeadingRuns.{text_events}
use Rattle.md_leaves.specs.LeafStart as leaf
use Rattle.md_meaning.specs.Lines.{without_ending}
use Rattle.md_meaning.specs.Rest.{is_white}
use Rattle.md_events.specs.Events.Nested.{last_point}
use Rattle.md_events.specs.Lent.{whole_from}
use Rattle.md_events.specs.Spaces.{any_size, ends_line, IsRest, is_current, sees_white, white_then}
use Rattle.md_events.specs.Transition.{Transition, entered, exited, taken}
use Rattle.md_events.specs.WholeLine.{line_taken}

-- what may be first after the indent of a heading: `#`
abbrev pub may_begin : ℕ → Bool
may_begin b = b == 35

-- whether something other than whitespace and the line's end is here
abbrev pub sees_text : Option ℕ → Bool
sees_text None = false
sees_text (Some b) = not (is_white b || (b == 10))

abbrev pub without_size : Scratch → Scratch
without_size s = record s { size = 0 }

-- where the text of a heading began, and no more
abbrev pub text_begun : Point → Scratch → Scratch
text_begun p s = record s { start = whole_from p }

abbrev pub text_ended : Scratch → Scratch
text_ended s = record s { start = 0 }

-- the text and what follows it, by the bytes of the line from where it began: that is the last event
abbrev pub text_from : Point → Scratch → List ℕ → List Event
text_from p s line = if (p.vs == 0) && (p.index == s.start) then text_events (without_ending line) p else []

abbrev pub text_following : List Event → Scratch → List ℕ → List Event
text_following events s line = text_from (last_point first_point events) s line

-- by whether `#` is here
abbrev pub before_code : World → Bool → Transition
before_code w true = record { to = Retry (n.HeadingAtx its.SequenceOpen); world = entered w HeadingAtxSequence }
before_code w false = record { to = Nok; world = w }

-- after a run of the line, by whether whitespace is here
abbrev pub after_part : World → Bool → Transition
after_part w true = white_then w 1 any_size (Next (n.HeadingAtx its.AtBreak)) Nok
after_part w false = record { to = Retry (n.HeadingAtx its.AtBreak); world = w }

-- by whether one more `#` is taken, and whether text or whitespace is here
abbrev pub sequence_open_code : World → Bool → Bool → Bool → Transition
sequence_open_code w true text white =
    record {
      to = Next (n.HeadingAtx its.SequenceOpen);
      world = record (taken w) { scratch = record w.scratch { size = w.scratch.size + 1 } };
    }
sequence_open_code w false true white = record { to = Nok; world = record w { scratch = without_size w.scratch } }
sequence_open_code w false false white =
    after_part (record (exited w HeadingAtxSequence) { scratch = without_size w.scratch }) white

-- after the whitespace that follows the opening sequence, by whether text, `#` or the line's end is here
abbrev pub at_break_code : World → Bool → Bool → Bool → Transition
at_break_code w true true ending =
    record {
      to = Retry (n.HeadingAtx its.SequenceFurther);
      world = record w { scratch = text_begun w.point w.scratch };
    }
at_break_code w true false ending =
    record { to = Retry (n.HeadingAtx its.Data); world = record w { scratch = text_begun w.point w.scratch } }
at_break_code w false hash true = record { to = Ok; world = exited w HeadingAtx }
at_break_code w false hash false = record { to = Nok; world = w }

-- by whether `#` is here
abbrev pub sequence_further_code : World → Bool → Transition
sequence_further_code w true = record { to = Next (n.HeadingAtx its.SequenceFurther); world = taken w }
sequence_further_code w false = record { to = Retry (n.HeadingAtx its.Data); world = w }

-- the line of a heading has ended: its text is known
abbrev pub text_added : World → World
text_added w = record w {
  events = w.events ++ text_following w.events w.scratch (line_taken w.setting.bytes w.scratch w.point);
}

-- by whether the line ends here
abbrev pub data_code : World → Bool → Transition
data_code w true =
    record { to = Ok; world = record (exited (text_added w) HeadingAtx) { scratch = text_ended w.scratch } }
data_code w false = record { to = Next (n.HeadingAtx its.Data); world = taken w }

-- each state with what it does, where there is memory
abbrev pub start_transition : World → Transition
start_transition w =
    leaf.start_transition HeadingAtx (n.HeadingAtx its.Before) w.setting.options.constructs.heading_atx w

abbrev pub before_transition : World → Transition
before_transition w = before_code w (is_current 35 w.current)

abbrev pub sequence_open_transition : World → Transition
sequence_open_transition w =
    sequence_open_code w (is_current 35 w.current && nat_lt w.scratch.size 6) (sees_text w.current)
    (sees_white w.current)

abbrev pub at_break_transition : World → Transition
at_break_transition w =
    at_break_code w (sees_text w.current) (is_current 35 w.current) (ends_line w.current)

abbrev pub sequence_further_transition : World → Transition
sequence_further_transition w = sequence_further_code w (is_current 35 w.current)

abbrev pub data_transition : World → Transition
data_transition w = data_code w (ends_line w.current)

-- all of them
abbrev pub heading_transition : HeadingState → World → Transition
heading_transition its.Start w = start_transition w
heading_transition its.Before w = before_transition w
heading_transition its.SequenceOpen w = sequence_open_transition w
heading_transition its.AtBreak w = at_break_transition w
heading_transition its.SequenceFurther w = sequence_further_transition w
heading_transition its.Data w = data_transition w

-- In the opening sequence at most six were taken.
pub record IsOpeningPrefix (x : Position) : Type 0 where
  pub size : x.scratch.size ≤ 6
  pub rest : IsRest (without_size x.scratch)

-- In its text: at rest but for where that began.
pub record IsInText (x : Position) : Type 0 where
  pub begun : x.scratch.start ≤ whole_from x.point
  pub rest : IsRest (text_ended x.scratch)

-- what holds at each state of a heading
abbrev pub HeadingInvariant : StateName → Position → Type 0
HeadingInvariant (n.HeadingAtx its.SequenceOpen) x = IsOpeningPrefix x
HeadingInvariant (n.HeadingAtx its.SequenceFurther) x = IsInText x
HeadingInvariant (n.HeadingAtx its.Data) x = IsInText x
HeadingInvariant _ x = IsRest x.scratch

abbrev pub heading_ready : StateName → Position → After → Type 0
heading_ready name x K = HeadingInvariant name x × Ends IsRest IsRest x K

abbrev pub heading_rank : StateName → Position → Rank
heading_rank (n.HeadingAtx its.Start) x = ranked 5 refl
heading_rank (n.HeadingAtx its.Before) x = ranked 3 refl
heading_rank (n.HeadingAtx its.SequenceOpen) x = ranked 2 refl
heading_rank (n.HeadingAtx its.AtBreak) x = if sees_text (seen x) then ranked 2 refl else ranked 0 refl
heading_rank (n.HeadingAtx its.SequenceFurther) x = ranked 1 refl
heading_rank _ x = ranked 0 refl

abbrev pub heading_tries : StateName → Rank
heading_tries (n.HeadingAtx its.Before) = ranked 4 refl
heading_tries _ = ranked 1 refl

abbrev pub heading_scheme : Scheme
heading_scheme = record { ready = heading_ready; level = λ n. 1; rank = heading_rank; tries = heading_tries }
