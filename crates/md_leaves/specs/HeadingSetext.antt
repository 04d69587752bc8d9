-- The underline of a setext heading (CommonMark 4.3): it is where text is open of which something is left after the
-- definitions at its front.
use Rattle.std.specs.Prelude.{◌≡◌, refl, ℕ, ◌+◌, ◌≤◌, Bool, true, false, ◌&&◌, ◌||◌, ◌==◌, not, if◌then◌else◌, Option}
use Rattle.std.specs.Prelude.{Some, None}
use Rattle.md_engine.specs.declared.configuration.ParseOptions.{ParseOptions}
use Rattle.md_engine.specs.declared.event.Name.TheVariants.{HeadingSetextUnderline, HeadingSetextUnderlineSequence}
use Rattle.md_engine.specs.declared.state.Name.{Name as StateName}
use Rattle.md_engine.specs.declared.state.Name.TheVariants as n
use Rattle.md_engine.specs.declared.state.heading_setext.State.{State as SetextState}
use Rattle.md_engine.specs.declared.state.heading_setext.State.TheVariants as its
use Rattle.md_engine.specs.declared.state.State.TheVariants.{Ok, Nok, Next, Retry}
use Rattle.md_engine.specs.declared.tokenizer.Scratch.{Scratch}
use Rattle.md_engine.specs.declared.tokenizer.held_leaf.HeldLeaf.{HeldLeaf}
use Rattle.md_engine.specs.declared.tokenizer.held_leaf.HeldLeaf.TheVariants as held_leaf
use Rattle.md_engine.specs.Progress.{is_whole}
use Rattle.md_engine.specs.Scheme.{After, Ends, Rank, Scheme, Position, cells_before, ranked, seen}
use Rattle.md_engine.specs.World.{World}
use Rattle.md_leaves.specs.LeafStart as leaf
use Rattle.md_events.specs.Spaces.{any_size, ends_line, IsRest, is_current, sees_white, white_then}
use Rattle.md_events.specs.Transition.{Transition, entered, exited, taken}

-- a marker of an underline
abbrev pub is_marker : ℕ → Bool
is_marker b = (b == 61) || (b == 45)

-- what may be first after the indent of an underline
abbrev pub may_begin : ℕ → Bool
may_begin b = is_marker b

-- whether this leaf is text for which a line is not lazy
abbrev pub is_text : HeldLeaf → Bool
is_text (held_leaf.Text at) = true
is_text _ = false

-- whether an underline that meets this leaf turns it: it is such text, and something is left after its definitions
abbrev pub may_turn : ParseOptions → HeldLeaf → Bool
may_turn options (held_leaf.Text text) = not (options.constructs.definition && is_whole text.progress)
may_turn options _ = false

-- whether it is such text, and nothing of it is left that an underline could turn, so that one is a line of the text
abbrev pub turns_nothing : ParseOptions → HeldLeaf → Bool
turns_nothing options (held_leaf.Text text) =
    options.constructs.heading_setext && (options.constructs.definition && is_whole text.progress)
turns_nothing options _ = false

abbrev pub without_marker : Scratch → Scratch
without_marker s = record s { marker = 0; size = 0 }

-- by what is here
abbrev pub before_code : World → Option ℕ → Transition
before_code w None = record { to = Nok; world = w }
before_code w (Some b) =
    if is_marker b
    then record {
      to = Retry (n.HeadingSetext its.Inside);
      world = record (entered w HeadingSetextUnderlineSequence) { scratch = record w.scratch { marker = b } };
    }
    else record { to = Nok; world = w }

-- by whether the marker is here, and whether whitespace does
abbrev pub inside_code : World → Bool → Bool → Transition
inside_code w true white = record {
  to = Next (n.HeadingSetext its.Inside);
  world = record (taken w) { scratch = record w.scratch { size = w.scratch.size + 1 } };
}
inside_code w false true =
    white_then (record (exited w HeadingSetextUnderlineSequence) { scratch = without_marker w.scratch }) 0 any_size
    (Next (n.HeadingSetext its.After)) Nok
inside_code w false false = record {
  to = Retry (n.HeadingSetext its.After);
  world = record (exited w HeadingSetextUnderlineSequence) { scratch = without_marker w.scratch };
}

-- by whether the line ends here: no leaf is open after it
abbrev pub after_code : World → Bool → Transition
after_code w true =
    record {
      to = Ok;
      world = record (exited w HeadingSetextUnderline) { flags = record w.flags { leaf = held_leaf.None } };
    }
after_code w false = record { to = Nok; world = w }

-- each state with what it does, where there is memory
abbrev pub start_transition : World → Transition
start_transition w =
    leaf.start_transition HeadingSetextUnderline (n.HeadingSetext its.Before)
    (w.setting.options.constructs.heading_setext && may_turn w.setting.options w.flags.leaf) w

abbrev pub before_transition : World → Transition
before_transition w = before_code w w.current

abbrev pub inside_transition : World → Transition
inside_transition w = inside_code w (is_current w.scratch.marker w.current) (sees_white w.current)

abbrev pub after_transition : World → Transition
after_transition w = after_code w (ends_line w.current)

-- all of them
abbrev pub setext_transition : SetextState → World → Transition
setext_transition its.Start w = start_transition w
setext_transition its.Before w = before_transition w
setext_transition its.Inside w = inside_transition w
setext_transition its.After w = after_transition w

-- In the run the marker is known, and those that were taken lie before the point.
pub record IsMarked (x : Position) : Type 0 where
  pub marker : is_marker x.scratch.marker ≡ true
  pub size : x.scratch.size ≤ cells_before x.point
  pub rest : IsRest (without_marker x.scratch)

abbrev pub SetextNeeds : StateName → World → Type 0
SetextNeeds (n.HeadingSetext its.Inside) w = w.scratch.size ≤ cells_before w.point
SetextNeeds _ w = Unit {0}

-- what holds at each state of an underline
abbrev pub SetextInvariant : StateName → Position → Type 0
SetextInvariant (n.HeadingSetext its.Inside) x = IsMarked x
SetextInvariant _ x = IsRest x.scratch

abbrev pub setext_ready : StateName → Position → After → Type 0
setext_ready name x K = SetextInvariant name x × Ends IsRest IsRest x K

abbrev pub setext_rank : StateName → Position → Rank
setext_rank (n.HeadingSetext its.Start) x = ranked 5 refl
setext_rank (n.HeadingSetext its.Before) x = ranked 3 refl
setext_rank (n.HeadingSetext its.Inside) x =
    if is_current x.scratch.marker (seen x) then ranked 1 refl else ranked 2 refl
setext_rank _ x = ranked 0 refl

abbrev pub setext_tries : StateName → Rank
setext_tries (n.HeadingSetext its.Before) = ranked 4 refl
setext_tries _ = ranked 1 refl

abbrev pub setext_scheme : Scheme
setext_scheme = record { ready = setext_ready; level = λ n. 1; rank = setext_rank; tries = setext_tries }
