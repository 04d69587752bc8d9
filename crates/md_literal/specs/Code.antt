-- Indented code, a line at a time.
use Rattle.std.specs.Prelude.{refl, ℕ, Bool, true, false, ◌&&◌, ◌∷◌, ◌++◌, []}
use Rattle.md_engine.specs.declared.event.Event.{Event}
use Rattle.md_engine.specs.declared.event.Name.TheVariants.{CodeFlowChunk, CodeIndented}
use Rattle.md_engine.specs.declared.state.Name.{Name as StateName}
use Rattle.md_engine.specs.declared.state.Name.TheVariants as n
use Rattle.md_engine.specs.declared.state.code_indented.State.{State as CodeState}
use Rattle.md_engine.specs.declared.state.code_indented.State.TheVariants as its
use Rattle.md_engine.specs.declared.state.State.TheVariants.{Ok, Nok, Next, Retry}
use Rattle.md_engine.specs.declared.tokenizer.Scratch.{Scratch}
use Rattle.md_engine.specs.declared.tokenizer.held_leaf.HeldLeaf.{HeldLeaf}
use Rattle.md_engine.specs.declared.tokenizer.held_leaf.HeldLeaf.TheVariants as held_leaf
use Rattle.md_engine.specs.Scheme.{After, Ends, Rank, Scheme, Position, ranked}
use Rattle.md_engine.specs.World.{World}
use Rattle.md_leaves.specs.Further.{further_link}
use Rattle.md_events.specs.Events.Nested.{enter, enter_link}
use Rattle.md_events.specs.Spaces.{IsRest, ends_line, sees_white, white_then}
use Rattle.md_events.specs.Transition.{Transition, entered, exited, taken, tried}

-- whether code may begin where this leaf is open: text is not interrupted, and any other leaf has ended before
abbrev pub may_open : HeldLeaf → Bool
may_open (held_leaf.Text at) = false
may_open (held_leaf.LazyText at) = false
may_open _ = true

-- a line of code with this begin, by whether it may begin, and whitespace is here
abbrev pub begun_code : World → Event → Bool → Transition
begun_code w begin true =
    white_then (record w { events = w.events ++ begin ∷ [] }) 4 4 (Next (n.CodeIndented its.AtBreak)) Nok
begun_code w begin false = record { to = Nok; world = w }

-- a blank line notes that it has a chunk, until that begins
abbrev pub chunk_noted : Scratch → Scratch
chunk_noted s = record s { seen = true }

abbrev pub chunk_begun : Scratch → Scratch
chunk_begun s = record s { seen = false }

-- by whether that is noted
abbrev pub at_break_code : World → Bool → Transition
at_break_code w true = record {
  to = Retry (n.CodeIndented its.FurtherInside);
  world = record (entered w CodeFlowChunk) { scratch = chunk_begun w.scratch };
}
at_break_code w false = record { to = Retry (n.CodeIndented its.InsideBlank); world = entered w CodeFlowChunk }

-- by whether the line ends here, or whitespace is
abbrev pub inside_blank_code : World → Bool → Bool → Transition
inside_blank_code w true white = record { to = Nok; world = w }
inside_blank_code w false true = record { to = Next (n.CodeIndented its.InsideBlank); world = taken w }
inside_blank_code w false false = record { to = Retry (n.CodeIndented its.Inside); world = w }

-- by whether the line ends here
abbrev pub inside_code : World → Bool → Transition
inside_code w true = record { to = Retry (n.CodeIndented its.After); world = exited w CodeFlowChunk }
inside_code w false = record { to = Next (n.CodeIndented its.Inside); world = taken w }

-- by whether whitespace is here
abbrev pub further_begin_code : World → Bool → Transition
further_begin_code w true = white_then w 0 4 (Next (n.CodeIndented its.FurtherAfter)) Nok
further_begin_code w false = record { to = Retry (n.CodeIndented its.FurtherAfter); world = w }

-- a blank line continues the code, and is one for the endings still
abbrev pub blank_noted : World → World
blank_noted w = record w { flags = record w.flags { blank = true } }

-- by whether the line ends here, or whitespace is
abbrev pub further_after_code : World → Bool → Bool → Transition
further_after_code w true white = record { to = Ok; world = blank_noted w }
further_after_code w false true =
    record { to = Retry (n.CodeIndented its.AtBreak); world = record w { scratch = chunk_noted w.scratch } }
further_after_code w false false = record { to = Nok; world = w }

-- by whether the line ends here, or whitespace is
abbrev pub further_inside_code : World → Bool → Bool → Transition
further_inside_code w true white = record { to = Ok; world = blank_noted (exited w CodeFlowChunk) }
further_inside_code w false true = record { to = Next (n.CodeIndented its.FurtherInside); world = taken w }
further_inside_code w false false = record { to = Nok; world = w }

-- each state with what it does, where there is memory
abbrev pub start_transition : World → Transition
start_transition w =
    begun_code w (enter CodeIndented w.point)
    (w.setting.options.constructs.code_indented && may_open w.flags.leaf && sees_white w.current)

abbrev pub at_break_transition : World → Transition
at_break_transition w = at_break_code w w.scratch.seen

abbrev pub inside_blank_transition : World → Transition
inside_blank_transition w = inside_blank_code w (ends_line w.current) (sees_white w.current)

abbrev pub inside_transition : World → Transition
inside_transition w = inside_code w (ends_line w.current)

abbrev pub after_transition : World → Transition
after_transition w = record {
  to = Ok;
  world = record (exited w CodeIndented) { flags = record w.flags { leaf = held_leaf.Code } };
}

abbrev pub further_start_transition : World → Transition
further_start_transition w = record {
  to = Retry (n.CodeIndented its.FurtherLine);
  world = tried w Ok (Next (n.CodeIndented its.FurtherBegin));
}

abbrev pub further_line_transition : World → Transition
further_line_transition w = begun_code w (enter_link CodeIndented w.point further_link) (sees_white w.current)

abbrev pub further_begin_transition : World → Transition
further_begin_transition w = further_begin_code w (sees_white w.current)

abbrev pub further_after_transition : World → Transition
further_after_transition w = further_after_code w (ends_line w.current) (sees_white w.current)

abbrev pub further_inside_transition : World → Transition
further_inside_transition w = further_inside_code w (ends_line w.current) (sees_white w.current)

-- all of them
abbrev pub code_transition : CodeState → World → Transition
code_transition its.Start w = start_transition w
code_transition its.AtBreak w = at_break_transition w
code_transition its.InsideBlank w = inside_blank_transition w
code_transition its.Inside w = inside_transition w
code_transition its.After w = after_transition w
code_transition its.FurtherStart w = further_start_transition w
code_transition its.FurtherLine w = further_line_transition w
code_transition its.FurtherBegin w = further_begin_transition w
code_transition its.FurtherAfter w = further_after_transition w
code_transition its.FurtherInside w = further_inside_transition w

-- each state of code is at rest, but for what is noted where a chunk begins
abbrev pub CodeInvariant : StateName → Position → Type 0
CodeInvariant (n.CodeIndented its.AtBreak) x = IsRest (chunk_begun x.scratch)
CodeInvariant _ x = IsRest x.scratch

abbrev pub code_ready : StateName → Position → After → Type 0
code_ready name x K = CodeInvariant name x × Ends IsRest IsRest x K

-- a further line is tried as a line of code
abbrev pub code_level : StateName → ℕ
code_level (n.CodeIndented its.FurtherStart) = 2
code_level _ = 1

abbrev pub code_rank : StateName → Position → Rank
code_rank (n.CodeIndented its.Start) x = ranked 6 refl
code_rank (n.CodeIndented its.AtBreak) x = ranked 4 refl
code_rank (n.CodeIndented its.InsideBlank) x = ranked 3 refl
code_rank (n.CodeIndented its.Inside) x = ranked 2 refl
code_rank (n.CodeIndented its.After) x = ranked 1 refl
code_rank (n.CodeIndented its.FurtherStart) x = ranked 9 refl
code_rank (n.CodeIndented its.FurtherLine) x = ranked 6 refl
code_rank (n.CodeIndented its.FurtherBegin) x = ranked 7 refl
code_rank (n.CodeIndented its.FurtherAfter) x = ranked 5 refl
code_rank _ x = ranked 0 refl

abbrev pub code_tries : StateName → Rank
code_tries (n.CodeIndented its.FurtherBegin) = ranked 8 refl
code_tries (n.CodeIndented its.FurtherAfter) = ranked 6 refl
code_tries _ = ranked 5 refl

abbrev pub code_scheme : Scheme
code_scheme = record { ready = code_ready; level = code_level; rank = code_rank; tries = code_tries }
