-- Definitions, of what links refer to (CommonMark 4.7).
use Rattle.std.specs.Prelude.{refl, ℕ, Bool, true, false, ◌||◌, Option}
use Rattle.md_meaning.specs.Ascii.{colon, left_bracket, line_feed}
use Rattle.md_engine.specs.declared.event.Name.TheVariants.{Definition, DefinitionMarker}
use Rattle.md_engine.specs.declared.state.Name.{Name as StateName}
use Rattle.md_engine.specs.declared.state.Name.TheVariants as n
use Rattle.md_engine.specs.declared.state.definition.State.{State as DefinitionState}
use Rattle.md_engine.specs.declared.state.definition.State.TheVariants as its
use Rattle.md_engine.specs.declared.state.destination.State.TheVariants as destination
use Rattle.md_engine.specs.declared.state.label.State.TheVariants as label
use Rattle.md_engine.specs.declared.state.space_or_tab_eol.State.TheVariants as gap
use Rattle.md_engine.specs.declared.state.title.State.TheVariants as title
use Rattle.md_engine.specs.declared.state.State.{State}
use Rattle.md_engine.specs.declared.state.State.TheVariants.{Ok, Nok, Next, Retry}
use Rattle.md_engine.specs.Scheme.{After, Ends, EndsLater, Rank, Scheme, Position, ranked}
use Rattle.md_engine.specs.World.{World}
use Rattle.md_events.specs.Spaces.{IsRest, any_size, ends_line, is_current, sees_white, white_then}
use Rattle.md_events.specs.Transition.{Transition, entered, exited, taken, tried}

-- it continues with another state of it here
abbrev pub turned : World → DefinitionState → Transition
turned w next = record { to = Retry (n.Definition next); world = w }

-- a part of it is tried here, from the part's first state on
abbrev pub tries_part : World → StateName → State → State → Transition
tries_part w first ok nok = record { to = Retry first; world = tried w ok nok }

-- whitespace is tried, and it continues after it
abbrev pub white_first : World → DefinitionState → Transition
white_first w next = white_then w 1 any_size (Next (n.Definition next)) Nok

-- by whether whitespace is here
abbrev pub following_white : World → DefinitionState → Bool → Transition
following_white w next true = white_first w next
following_white w next false = turned w next

abbrev pub refused : World → Transition
refused w = record { to = Nok; world = w }

-- by whether definitions are on, and whether whitespace is here
abbrev pub start_code : World → Bool → Bool → Transition
start_code w true white = following_white w its.Before white
start_code w false white = refused w

-- by whether `[` is here, where the definition begins
abbrev pub before_code : World → Bool → Transition
before_code w true =
    tries_part (entered w Definition) (n.Label label.Start) (Next (n.Definition its.LabelAfter))
    (Next (n.Definition its.LabelNok))
before_code w false = refused w

-- by whether `:` is here
abbrev pub label_after_code : World → Bool → Transition
label_after_code w true = record {
  to = Next (n.Definition its.MarkerAfter);
  world = exited (taken (entered w DefinitionMarker)) DefinitionMarker;
}
label_after_code w false = refused w

-- whether whitespace or a line ending is here
abbrev pub sees_gap : Option ℕ → Bool
sees_gap o = sees_white o || is_current line_feed o

-- by that
abbrev pub title_before_code : World → Bool → Transition
title_before_code w true =
    tries_part w (n.SpaceOrTabEol gap.Start) (Next (n.Definition its.TitleBeforeMarker)) Nok
title_before_code w false = refused w

-- by whether the line ends here
abbrev pub title_end_code : World → Bool → Transition
title_end_code w true = record { to = Ok; world = w }
title_end_code w false = refused w

abbrev pub end_code : World → Bool → Transition
end_code w true = record { to = Ok; world = exited w Definition }
end_code w false = refused w

-- each state with what it does, where there is memory
abbrev pub start_transition : World → Transition
start_transition w = start_code w w.setting.options.constructs.definition (sees_white w.current)

abbrev pub before_transition : World → Transition
before_transition w = before_code w (is_current left_bracket w.current)

abbrev pub label_after_transition : World → Transition
label_after_transition w = label_after_code w (is_current colon w.current)

abbrev pub label_nok_transition : World → Transition
label_nok_transition w = refused w

abbrev pub marker_after_transition : World → Transition
marker_after_transition w =
    tries_part w (n.SpaceOrTabEol gap.Start) (Next (n.Definition its.DestinationBefore))
    (Next (n.Definition its.DestinationBefore))

abbrev pub destination_before_transition : World → Transition
destination_before_transition w =
    tries_part w (n.Destination destination.Start) (Next (n.Definition its.DestinationAfter))
    (Next (n.Definition its.DestinationMissing))

abbrev pub destination_after_transition : World → Transition
destination_after_transition w =
    tries_part w (n.Definition its.TitleBefore) (Next (n.Definition its.After)) (Next (n.Definition its.After))

abbrev pub destination_missing_transition : World → Transition
destination_missing_transition w = refused w

abbrev pub title_before_transition : World → Transition
title_before_transition w = title_before_code w (sees_gap w.current)

abbrev pub title_before_marker_transition : World → Transition
title_before_marker_transition w = tries_part w (n.Title title.Start) (Next (n.Definition its.TitleAfter)) Nok

abbrev pub title_after_transition : World → Transition
title_after_transition w = following_white w its.TitleAfterOptionalWhitespace (sees_white w.current)

abbrev pub title_after_optional_whitespace_transition : World → Transition
title_after_optional_whitespace_transition w = title_end_code w (ends_line w.current)

abbrev pub after_transition : World → Transition
after_transition w = following_white w its.AfterWhitespace (sees_white w.current)

abbrev pub after_whitespace_transition : World → Transition
after_whitespace_transition w = end_code w (ends_line w.current)

-- all of them
abbrev pub definition_transition : DefinitionState → World → Transition
definition_transition its.Start w = start_transition w
definition_transition its.Before w = before_transition w
definition_transition its.LabelAfter w = label_after_transition w
definition_transition its.LabelNok w = label_nok_transition w
definition_transition its.MarkerAfter w = marker_after_transition w
definition_transition its.DestinationBefore w = destination_before_transition w
definition_transition its.DestinationAfter w = destination_after_transition w
definition_transition its.DestinationMissing w = destination_missing_transition w
definition_transition its.After w = after_transition w
definition_transition its.AfterWhitespace w = after_whitespace_transition w
definition_transition its.TitleBefore w = title_before_transition w
definition_transition its.TitleBeforeMarker w = title_before_marker_transition w
definition_transition its.TitleAfter w = title_after_transition w
definition_transition its.TitleAfterOptionalWhitespace w = title_after_optional_whitespace_transition w

-- It ends after its `[`, and so after the point where it begins.
abbrev pub definition_ends : StateName → Position → After → Type 0
definition_ends (n.Definition its.Start) x K = EndsLater IsRest IsRest x K
definition_ends (n.Definition its.Before) x K = EndsLater IsRest IsRest x K
definition_ends (n.Definition its.LabelNok) x K = EndsLater IsRest IsRest x K
definition_ends _ x K = Ends IsRest IsRest x K

abbrev pub definition_ready : StateName → Position → After → Type 0
definition_ready name x K = IsRest x.scratch × definition_ends name x K

-- A title is tried whole, with the gap before it, so its states are below the others.
abbrev pub definition_level : StateName → ℕ
definition_level (n.Definition its.TitleBefore) = 2
definition_level (n.Definition its.TitleBeforeMarker) = 2
definition_level (n.Definition its.TitleAfter) = 2
definition_level (n.Definition its.TitleAfterOptionalWhitespace) = 2
definition_level _ = 3

abbrev pub definition_rank : StateName → Position → Rank
definition_rank (n.Definition its.Start) x = ranked 4 refl
definition_rank (n.Definition its.Before) x = ranked 2 refl
definition_rank (n.Definition its.MarkerAfter) x = ranked 8 refl
definition_rank (n.Definition its.DestinationBefore) x = ranked 6 refl
definition_rank (n.Definition its.DestinationAfter) x = ranked 4 refl
definition_rank (n.Definition its.After) x = ranked 2 refl
definition_rank (n.Definition its.TitleBefore) x = ranked 6 refl
definition_rank (n.Definition its.TitleBeforeMarker) x = ranked 4 refl
definition_rank (n.Definition its.TitleAfter) x = ranked 2 refl
definition_rank _ x = ranked 0 refl

abbrev pub definition_tries : StateName → Rank
definition_tries (n.Definition its.Before) = ranked 3 refl
definition_tries (n.Definition its.DestinationBefore) = ranked 7 refl
definition_tries (n.Definition its.DestinationMissing) = ranked 5 refl
definition_tries (n.Definition its.After) = ranked 3 refl
definition_tries (n.Definition its.TitleBeforeMarker) = ranked 5 refl
definition_tries (n.Definition its.TitleAfter) = ranked 3 refl
definition_tries _ = ranked 1 refl

abbrev pub definition_scheme : Scheme
definition_scheme = record {
  ready = definition_ready;
  level = definition_level;
  rank = definition_rank;
  tries = definition_tries;
}
