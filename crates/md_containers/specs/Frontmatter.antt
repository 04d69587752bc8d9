-- Frontmatter.
use Rattle.std.specs.Prelude.{refl, ℕ, ◌+◌, Bool, true, false, ◌&&◌, ◌||◌, ◌==◌, not, if◌then◌else◌, nat_lt}
use Rattle.std.specs.Prelude.{Option, Some, None}
use Rattle.md_engine.specs.declared.event.Name.TheVariants as part
use Rattle.md_engine.specs.declared.state.Name.{Name as StateName}
use Rattle.md_engine.specs.declared.state.Name.TheVariants as n
use Rattle.md_engine.specs.declared.state.frontmatter.State.{State as FrontState}
use Rattle.md_engine.specs.declared.state.frontmatter.State.TheVariants as its
use Rattle.md_engine.specs.declared.state.State.TheVariants.{Ok, Nok, Next, Retry}
use Rattle.md_engine.specs.declared.tokenizer.Scratch.{Scratch}
use Rattle.md_engine.specs.Scheme.{After, Ends, Rank, Scheme, Position, ranked, seen}
use Rattle.md_engine.specs.World.{World}
use Rattle.md_meaning.specs.Ascii.{hyphen, plus}
use Rattle.md_leaves.specs.Heading.{without_size}
use Rattle.md_events.specs.Spaces.{IsRest, any_size, ends_line, is_current, rest_ready, sees_white, white_then}
use Rattle.md_events.specs.Transition.{Transition, entered, exited, taken, tried}

-- what marks a fence
abbrev pub is_marker : ℕ → Bool
is_marker b = (b == hyphen) || (b == plus)

-- without a marker and what was counted
abbrev pub cleared : Scratch → Scratch
cleared s = record s { marker = 0; size = 0 }

-- a fence begins
abbrev pub fence_entered : World → World
fence_entered w = entered (entered w part.FrontmatterFence) part.FrontmatterSequence

-- the line ending that is here is taken
abbrev pub ending_taken : World → World
ending_taken w = exited (taken (entered w part.LineEnding)) part.LineEnding

abbrev pub refused : World → Transition
refused w = record { to = Nok; world = record w { scratch = cleared w.scratch } }

-- The opening fence.

-- frontmatter with this marker begins
abbrev pub begun : World → ℕ → World
begun w m =
    fence_entered (entered (record w { scratch = record w.scratch { marker = m; size = 0 } }) part.Frontmatter)

-- by whether this marks a fence
abbrev pub start_code : World → ℕ → Bool → Transition
start_code w b true = record { to = Retry (n.Frontmatter its.OpenSequence); world = begun w b }
start_code w b false = record { to = Nok; world = w }

abbrev pub start_at : World → Option ℕ → Transition
start_at w None = record { to = Nok; world = w }
start_at w (Some b) = start_code w b (is_marker b)

-- by whether frontmatter is on
abbrev pub start_by : World → Bool → Transition
start_by w true = start_at w w.current
start_by w false = record { to = Nok; world = w }

-- after a sequence, by whether whitespace is here
abbrev pub after_part : World → FrontState → Bool → Transition
after_part w state true = white_then w 0 any_size (Next (n.Frontmatter state)) Nok
after_part w state false = record { to = Retry (n.Frontmatter state); world = w }

-- by whether one more marker is taken, whether there are just three, and whether whitespace is here
abbrev pub sequence_code : FrontState → FrontState → Scratch → World → Bool → Bool → Bool → Transition
sequence_code here next left w true all white =
    record {
      to = Next (n.Frontmatter here);
      world = record (taken w) { scratch = record w.scratch { size = w.scratch.size + 1 } };
    }
sequence_code here next left w false true white =
    after_part (exited (record w { scratch = without_size w.scratch }) part.FrontmatterSequence) next white
sequence_code here next left w false false white = record { to = Nok; world = record w { scratch = left } }

-- whether one more marker is taken, of at most three
abbrev pub takes_one : World → Bool
takes_one w = is_current w.scratch.marker w.current && nat_lt w.scratch.size 3

-- whether just three are before this point
abbrev pub has_three : World → Bool
has_three w = not (is_current w.scratch.marker w.current) && (w.scratch.size == 3)

abbrev pub sequence_transition : FrontState → FrontState → Scratch → World → Transition
sequence_transition here next left w =
    sequence_code here next left w (takes_one w) (has_three w) (sees_white w.current)

-- whether a line ending is here
abbrev pub sees_ending : World → Bool
sees_ending w = is_current 10 w.current

-- by whether a line ending is here
abbrev pub open_after_code : World → Bool → Transition
open_after_code w true =
    record { to = Next (n.Frontmatter its.CloseStart); world = ending_taken (exited w part.FrontmatterFence) }
open_after_code w false = refused w

-- A further line.

-- by whether the marker is here
abbrev pub close_start_code : World → Bool → Transition
close_start_code w true =
    record {
      to = Retry (n.Frontmatter its.CloseSequence);
      world = fence_entered (tried w (Next (n.Frontmatter its.After)) (Next (n.Frontmatter its.ContentStart)));
    }
close_start_code w false = record { to = Retry (n.Frontmatter its.ContentStart); world = w }

-- by whether the line ends here
abbrev pub close_after_code : World → Bool → Transition
close_after_code w true = record { to = Ok; world = exited w part.FrontmatterFence }
close_after_code w false = record { to = Nok; world = w }

abbrev pub content_start_code : World → Bool → Transition
content_start_code w true = record { to = Retry (n.Frontmatter its.ContentEnd); world = w }
content_start_code w false =
    record { to = Retry (n.Frontmatter its.ContentInside); world = entered w part.FrontmatterChunk }

abbrev pub content_inside_code : World → Bool → Transition
content_inside_code w true =
    record { to = Retry (n.Frontmatter its.ContentEnd); world = exited w part.FrontmatterChunk }
content_inside_code w false = record { to = Next (n.Frontmatter its.ContentInside); world = taken w }

-- by whether a line ending is here
abbrev pub content_end_code : World → Bool → Transition
content_end_code w true = record { to = Next (n.Frontmatter its.CloseStart); world = ending_taken w }
content_end_code w false = refused w

-- the block ends
abbrev pub ended : World → World
ended w = exited (record w { scratch = cleared w.scratch }) part.Frontmatter

abbrev pub after_code : World → Bool → Transition
after_code w true = record { to = Ok; world = ending_taken (ended w) }
after_code w false = record { to = Ok; world = ended w }

-- each state with what it does, where there is memory
abbrev pub start_transition : World → Transition
start_transition w = start_by w w.setting.options.constructs.frontmatter

abbrev pub open_sequence_transition : World → Transition
open_sequence_transition w = sequence_transition its.OpenSequence its.OpenAfter (cleared w.scratch) w

abbrev pub open_after_transition : World → Transition
open_after_transition w = open_after_code w (sees_ending w)

abbrev pub close_start_transition : World → Transition
close_start_transition w = close_start_code w (is_current w.scratch.marker w.current)

abbrev pub close_sequence_transition : World → Transition
close_sequence_transition w = sequence_transition its.CloseSequence its.CloseAfter (without_size w.scratch) w

abbrev pub close_after_transition : World → Transition
close_after_transition w = close_after_code w (ends_line w.current)

abbrev pub content_start_transition : World → Transition
content_start_transition w = content_start_code w (ends_line w.current)

abbrev pub content_inside_transition : World → Transition
content_inside_transition w = content_inside_code w (ends_line w.current)

abbrev pub content_end_transition : World → Transition
content_end_transition w = content_end_code w (sees_ending w)

abbrev pub after_transition : World → Transition
after_transition w = after_code w (sees_ending w)

-- all of them
abbrev pub front_transition : FrontState → World → Transition
front_transition its.Start w = start_transition w
front_transition its.OpenSequence w = open_sequence_transition w
front_transition its.OpenAfter w = open_after_transition w
front_transition its.CloseStart w = close_start_transition w
front_transition its.CloseSequence w = close_sequence_transition w
front_transition its.CloseAfter w = close_after_transition w
front_transition its.ContentStart w = content_start_transition w
front_transition its.ContentInside w = content_inside_transition w
front_transition its.ContentEnd w = content_end_transition w
front_transition its.After w = after_transition w

-- Inside, it is at rest but for the marker and what was counted.
abbrev pub IsMarked : Scratch → Type 0
IsMarked s = IsRest (cleared s)

abbrev pub in_front : Position → After → Type 0
in_front x K = IsMarked x.scratch × Ends IsRest IsRest x K

-- a closing fence keeps the marker
abbrev pub in_fence : Position → After → Type 0
in_fence x K = IsMarked x.scratch × Ends IsMarked IsMarked x K

abbrev pub front_ready : StateName → Position → After → Type 0
front_ready (n.Frontmatter its.Start) x K = rest_ready x K
front_ready (n.Frontmatter its.CloseSequence) x K = in_fence x K
front_ready (n.Frontmatter its.CloseAfter) x K = in_fence x K
front_ready _ x K = in_front x K

-- a further line tries a closing fence
abbrev pub front_level : StateName → ℕ
front_level (n.Frontmatter its.CloseSequence) = 1
front_level (n.Frontmatter its.CloseAfter) = 1
front_level _ = 2

abbrev pub front_rank : StateName → Position → Rank
front_rank (n.Frontmatter its.Start) x = ranked 7 refl
front_rank (n.Frontmatter its.OpenSequence) x = ranked 4 refl
front_rank (n.Frontmatter its.OpenAfter) x = ranked 1 refl
front_rank (n.Frontmatter its.CloseStart) x = ranked 7 refl
front_rank (n.Frontmatter its.CloseSequence) x = ranked 4 refl
front_rank (n.Frontmatter its.CloseAfter) x = ranked 1 refl
front_rank (n.Frontmatter its.ContentStart) x = if ends_line (seen x) then ranked 1 refl else ranked 3 refl
front_rank (n.Frontmatter its.ContentInside) x = ranked 2 refl
front_rank (n.Frontmatter its.ContentEnd) x = ranked 0 refl
front_rank _ x = ranked 0 refl

abbrev pub front_tries : StateName → Rank
front_tries (n.Frontmatter its.ContentStart) = ranked 6 refl
front_tries _ = ranked 3 refl

abbrev pub front_scheme : Scheme
front_scheme = record { ready = front_ready; level = front_level; rank = front_rank; tries = front_tries }
