-- The lines of a text: which containers continue and open on each, and which block starts on the rest of it.
use Rattle.std.specs.Prelude.{refl, ℕ, Bool, true, false, ◌+◌, ◌*◌, ◌==◌, ◌||◌, if◌then◌else◌, length, List, [], ◌∷◌}
use Rattle.std.specs.Prelude.{Option, Some, None}
use Rattle.md_engine.specs.declared.state.document.State.{State as DocumentState}
use Rattle.std.specs.Option.{is_some}
use Rattle.md_engine.specs.declared.state.Name.{Name as StateName}
use Rattle.md_engine.specs.declared.state.Name.TheVariants as s
use Rattle.md_engine.specs.declared.state.flow.State.{State as FlowState}
use Rattle.md_engine.specs.declared.state.flow.State.TheVariants as flow
use Rattle.md_engine.specs.declared.state.blank_line.State.TheVariants as blank_line
use Rattle.md_engine.specs.declared.state.content.State.TheVariants as content
use Rattle.md_engine.specs.declared.state.document.State.TheVariants as document
use Rattle.md_engine.specs.declared.state.State.TheVariants.{Ok, Nok, Next, Retry}
use Rattle.md_engine.specs.declared.tokenizer.container.Container.{Container}
use Rattle.md_engine.specs.declared.tokenizer.container.name.ContainerKind.{ContainerKind}
use Rattle.md_engine.specs.Scheme.{After, Rank, Scheme, Position, ranked}
use Rattle.md_engine.specs.World.{World, closed, container_of}
use Rattle.md_leaves.specs.Blank as blank
use Rattle.md_meaning.specs.Rest.{is_white}
use Rattle.md_events.specs.Look.{looks_after, may_with}
use Rattle.md_events.specs.Spaces.{ends_line, rest_ready, sees_white}
use Rattle.md_events.specs.Transition.{Transition, entered, exited, taken, tried}
use Rattle.proof_frame.specs.EndingName.{ending_name}
use Rattle.md_registry.specs.LineFlags.{asking, begun_line, blanked, next_container, next_line, kept_containers}
use Rattle.md_registry.specs.LineFlags.{blank_here, ended_on, nothing_is_here, shut_leaf, was_continued, with_container}
use Rattle.proof_frame.specs.LeafName.{LeafName}
use Rattle.md_registry.specs.Registry.{front_of, continues_with, asked_first, leaf, may_continue, may_open, next_of}
use Rattle.md_registry.specs.Registry.{next_opener, opener_at, opener_front, opener_rank, opener_tries, openers}
use Rattle.md_registry.specs.Registry.{opens_with, rank_of, row, bars_containers, trials, tried_at, tries_of}

-- What is tried.

-- by whether a construct may begin here: then it is tried by its first state, and flow continues by whether it took
-- what is here; elsewhere it is refused at once
abbrev pub trial_code : StateName → StateName → StateName → World → Bool → Transition
trial_code start ok nok w true = record { to = Retry start; world = tried w (Next ok) (Next nok) }
trial_code start ok nok w false = record { to = Retry nok; world = w }

-- The leaf of a line.

-- by whether the line ends here, and is blank, and by whether it may be blank
abbrev pub blank_line_code : World → Bool → Bool → Transition
blank_line_code w true may = record { to = Retry (s.Flow flow.BlankLineAfter); world = w }
blank_line_code w false may =
    trial_code (s.BlankLine blank_line.Start) (s.Flow flow.BlankLineAfter) (s.Flow (front_of trials)) w may

abbrev pub blank_line_before_transition : World → Transition
blank_line_before_transition w =
    blank_line_code w (ends_line w.current) (may_with blank.may_begin (looks_after w))

-- where one continues after a leaf: one that always ends on its line is shut
abbrev pub leaf_end : Bool → FlowState
leaf_end true = flow.LeafAfter
leaf_end false = flow.After

-- before a leaf
abbrev pub before_transition : LeafName → World → Transition
before_transition l w =
    trial_code (leaf l).start (s.Flow (leaf_end (leaf l).ends)) (s.Flow (next_of l)) w
    (may_with ((leaf l).may_begin w.flags.leaf (sees_white w.current)) (looks_after w))

-- The first of these leaves is tried, and the next where it refuses the line; where none is left, content follows.
abbrev pub row_transition : List LeafName → World → Transition
row_transition [] w = record { to = Retry (s.Flow flow.BeforeContent); world = w }
row_transition (l ∷ ls) w = trial_code (leaf l).start (s.Flow (leaf_end (leaf l).ends)) (s.Flow (front_of ls)) w true

-- by whether this byte is whitespace or ends the line: all leaves may follow it, and else those of its row
abbrev pub start_by : World → ℕ → Bool → Transition
start_by w b true = record { to = Retry (s.Flow flow.BlankLineBefore); world = w }
start_by w b false = row_transition (row b) w

-- by what is here
abbrev pub start_code : World → Option ℕ → Transition
start_code w None = record { to = Retry (s.Flow flow.BlankLineBefore); world = w }
start_code w (Some b) = start_by w b (is_white b || b == 10)

abbrev pub start_transition : World → Transition
start_transition w = start_code w w.current

abbrev pub before_content_transition : World → Transition
before_content_transition w =
    record { to = Retry (s.Content content.ChunkStart); world = tried w (Next (s.Flow flow.After)) Nok }

-- after a line of text
abbrev pub after_transition : World → Transition
after_transition w = record { to = Retry (s.Document document.FlowEnd); world = w }

-- after a leaf on one line none is open
abbrev pub leaf_after_transition : World → Transition
leaf_after_transition w =
    record { to = Retry (s.Document document.FlowEnd); world = record w { flags = shut_leaf w.flags } }

-- after a blank line no paragraph is open
abbrev pub blank_line_after_transition : World → Transition
blank_line_after_transition w =
    record { to = Retry (s.Document document.FlowEnd); world = record w { flags = blanked w.flags } }

-- Containers.

-- where all containers continued, by whether a leaf is open in which none opens
abbrev pub following_all : Bool → DocumentState
following_all true = document.ContainersAfter
following_all false = opener_front openers

-- by whether the line ends here, where none is asked and none opens, and by the container that may continue
abbrev pub existing_before_code : World → Bool → Option Container → Transition
existing_before_code w true o =
    record { to = Retry (s.Document document.ContainersAfter); world = record w { flags = ended_on w.flags } }
existing_before_code w false None =
    record { to = Retry (s.Document (following_all (bars_containers w.flags.leaf))); world = w }
existing_before_code w false (Some c) =
    trial_code (continues_with c.kind) (s.Document document.ContainerExistingAfter)
    (s.Document (opener_front openers)) (asking c w) (may_with (may_continue c.kind) (looks_after w))

abbrev pub existing_before_transition : World → Transition
existing_before_transition w = existing_before_code w (ends_line w.current) (next_container w.flags)

abbrev pub existing_after_transition : World → Transition
existing_after_transition w =
    record {
      to = Retry (s.Document document.ContainerExistingBefore);
      world =
          record w { flags = was_continued w.flags };
    }

-- before a container that may open
abbrev pub new_before_transition : ContainerKind → World → Transition
new_before_transition k w =
    trial_code (opens_with k) (s.Document document.ContainerNewAfter) (s.Document (next_opener k))
    (asking (container_of k) w) (may_with (may_open k) (looks_after w))

-- by the one that is tried at a state; those that are not built refuse
abbrev pub opener_transition : Option ContainerKind → World → Transition
opener_transition None w = record { to = Nok; world = w }
opener_transition (Some k) w = new_before_transition k w

abbrev pub new_after_transition : World → Transition
new_after_transition w =
    let v = closed w w.flags.continued w.flags.line_end in
    record {
      to = Retry (s.Document (opener_front openers));
      world = record v { flags = with_container v.flags };
    }

-- by whether a leaf is asked first whether the line continues it
abbrev pub leaf_front : Bool → StateName
leaf_front true = s.Document document.FlowInside
leaf_front false = s.Flow flow.Start

abbrev pub containers_after_transition : World → Transition
containers_after_transition w =
    let g = begun_line w.flags in
    record { to = Retry (leaf_front (is_some (asked_first g.leaf))); world = record w { flags = g } }

-- by that leaf; the flags have whether nothing is on the line
abbrev pub inside_code : World → Option LeafName → Transition
inside_code w None = record { to = Retry (s.Flow flow.Start); world = w }
inside_code w (Some l) =
    trial_code (leaf l).start (s.Flow flow.After) (s.Flow flow.Start)
    (record w { flags = blank_here (nothing_is_here w.current w.point) w.flags }) true

abbrev pub inside_transition : World → Transition
inside_transition w = inside_code w (asked_first w.flags.leaf)

-- where a line ends: by what is here
abbrev pub flow_end_code : World → Option ℕ → Transition
flow_end_code w None = record { to = Ok; world = closed w 0 (length w.events) }
flow_end_code w (Some b) =
    if b == 10
    then record {
      to = Next (s.Document document.ContainerExistingBefore);
      world =
          record (exited (taken (entered w (ending_name w.flags.blank))) (ending_name w.flags.blank)) {
            flags = next_line (length w.events) w.flags;
          };
    }
    else record { to = Nok; world = w }

abbrev pub flow_end_transition : World → Transition
flow_end_transition w = flow_end_code (closed w (kept_containers w.flags) w.flags.line_end) w.current

-- by the leaf that is tried at a state; those of blocks that are not built refuse
abbrev pub leaf_transition : Option LeafName → World → Transition
leaf_transition None w = record { to = Nok; world = w }
leaf_transition (Some l) w = before_transition l w

-- each state with what it does, where there is memory
abbrev pub flow_own_transition : FlowState → World → Transition
flow_own_transition flow.Start w = start_transition w
flow_own_transition flow.BlankLineBefore w = blank_line_before_transition w
flow_own_transition flow.BeforeContent w = before_content_transition w
flow_own_transition flow.BlankLineAfter w = blank_line_after_transition w
flow_own_transition flow.LeafAfter w = leaf_after_transition w
flow_own_transition flow.After w = after_transition w
flow_own_transition state w = leaf_transition (tried_at state) w

-- all leaves, and all containers that may open, count in what is before them
abbrev leaves : ℕ
leaves = 2 * length trials

abbrev opening : ℕ
opening = leaves + 2 * length openers

abbrev pub leaf_rank : Option LeafName → Rank
leaf_rank None = ranked 0 refl
leaf_rank (Some l) = rank_of l

abbrev pub flow_rank : StateName → Rank
flow_rank (s.Document document.ContainerExistingAfter) = ranked (13 + opening) refl
flow_rank (s.Document document.ContainerExistingBefore) = ranked (12 + opening) refl
flow_rank (s.Document document.ContainerNewAfter) = ranked (11 + opening) refl
flow_rank (s.Document document.ContainersAfter) = ranked (10 + leaves) refl
flow_rank (s.Document document.FlowInside) = ranked (9 + leaves) refl
flow_rank (s.Document state) = opener_rank (opener_at state)
flow_rank (s.Flow flow.Start) = ranked (7 + leaves) refl
flow_rank (s.Flow flow.BlankLineBefore) = ranked (6 + leaves) refl
flow_rank (s.Flow flow.BeforeContent) = ranked 4 refl
flow_rank (s.Flow flow.BlankLineAfter) = ranked 1 refl
flow_rank (s.Flow flow.LeafAfter) = ranked 1 refl
flow_rank (s.Flow flow.After) = ranked 1 refl
flow_rank (s.Flow state) = leaf_rank (tried_at state)
flow_rank _ = ranked 0 refl

abbrev pub leaf_tries : Option LeafName → Rank
leaf_tries None = ranked 2 refl
leaf_tries (Some l) = tries_of l

abbrev pub flow_tries : StateName → Rank
flow_tries (s.Document document.ContainersAfter) = ranked (11 + leaves) refl
flow_tries (s.Document state) = opener_tries (opener_at state)
flow_tries (s.Flow flow.Start) = ranked (8 + leaves) refl
flow_tries (s.Flow flow.BeforeContent) = ranked 5 refl
flow_tries (s.Flow state) = leaf_tries (tried_at state)
flow_tries _ = ranked 2 refl

-- at rest, and with no attempt around: containers end among the events that are there
abbrev pub flow_ready : Position → After → Type 0
flow_ready x K = rest_ready x K × K.outermost

abbrev pub flow_scheme : Scheme
flow_scheme = record { ready = λ n x K. flow_ready x K; level = λ n. 3; rank = λ n x. flow_rank n; tries = flow_tries }
