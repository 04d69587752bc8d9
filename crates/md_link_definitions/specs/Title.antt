-- The title of a definition (CommonMark 6.3).
use Rattle.std.specs.Prelude.{◌≡◌, refl, ℕ, Bool, true, false, ◌||◌, ◌==◌, if◌then◌else◌, Option, Some, None}
use Rattle.md_meaning.specs.Ascii.{backslash}
use Rattle.md_meaning.specs.Definition.{title_closer}
use Rattle.md_engine.specs.declared.event.Name.TheVariants.{Data, DefinitionTitle, DefinitionTitleMarker}
use Rattle.md_engine.specs.declared.event.Name.TheVariants.{DefinitionTitleString}
use Rattle.md_engine.specs.declared.state.Name.{Name as StateName}
use Rattle.md_engine.specs.declared.state.Name.TheVariants as n
use Rattle.md_engine.specs.declared.state.title.State.{State as TitleState}
use Rattle.md_engine.specs.declared.state.title.State.TheVariants as its
use Rattle.md_engine.specs.declared.state.State.TheVariants.{Ok, Nok, Next, Retry}
use Rattle.md_engine.specs.declared.tokenizer.Scratch.{Scratch}
use Rattle.md_engine.specs.Scheme.{After, Ends, EndsLater, Rank, Scheme, Position, ranked}
use Rattle.md_engine.specs.World.{World}
use Rattle.md_link_definitions.specs.Chunks.{string_link}
use Rattle.md_events.specs.Spaces.{IsRest, is_current}
use Rattle.md_events.specs.Transition.{Transition, entered, entered_link, exited, taken}

-- between the marks: what closes the title, and what opened it
abbrev pub marked : ℕ → ℕ → Scratch → Scratch
marked opener closer s = record s { marker = closer; marker_b = opener }

abbrev pub unmarked : Scratch → Scratch
unmarked s = record s { marker = 0; marker_b = 0 }

-- no title is here
abbrev pub refused : World → Transition
refused w = record { to = Nok; world = record w { scratch = unmarked w.scratch } }

-- the title ends with the mark that is here
abbrev pub closed : World → Transition
closed w = record {
  to = Ok;
  world = record (exited (exited (taken (entered w DefinitionTitleMarker)) DefinitionTitleMarker) DefinitionTitle) {
    scratch = unmarked w.scratch;
  };
}

-- by what closes a title that begins with this byte, if one does
abbrev pub opened : World → ℕ → Option ℕ → Transition
opened w b None = record { to = Nok; world = w }
opened w b (Some closer) = record {
  to = Next (n.Title its.Begin);
  world = record (exited (taken (entered (entered w DefinitionTitle) DefinitionTitleMarker)) DefinitionTitleMarker) {
    scratch = marked b closer w.scratch;
  };
}

-- by what is here
abbrev pub start_code : World → Option ℕ → Transition
start_code w None = record { to = Nok; world = w }
start_code w (Some b) = opened w b (title_closer b)

-- by whether the closing mark is here
abbrev pub begin_code : World → Bool → Transition
begin_code w true = closed w
begin_code w false = record { to = Retry (n.Title its.AtBreak); world = entered w DefinitionTitleString }

abbrev pub at_break_code : World → Bool → Transition
at_break_code w true = closed (exited w DefinitionTitleString)
at_break_code w false = record { to = Retry (n.Title its.Inside); world = entered_link w Data string_link }

-- by what is here: the end, a mark, a line ending, or a byte of the line
abbrev pub inside_code : World → Option ℕ → Transition
inside_code w None = refused w
inside_code w (Some b) =
    if b == w.scratch.marker then closed (exited (exited w Data) DefinitionTitleString)
    else if b == w.scratch.marker_b then refused w
    else if b == 10 then record { to = Next (n.Title its.AfterEol); world = taken w }
    else if b == backslash then record { to = Next (n.Title its.Escape); world = taken w }
    else record { to = Next (n.Title its.Inside); world = taken w }

-- a mark ends the text of a title, if no backslash takes it
abbrev pub is_mark : ℕ → ℕ → ℕ → Bool
is_mark opener closer b = (b == opener) || (b == closer)

-- whether a backslash makes a pair with what is here
abbrev pub is_escaped : Scratch → Option ℕ → Bool
is_escaped s None = false
is_escaped s (Some b) = is_mark s.marker_b s.marker b || (b == backslash)

-- by that
abbrev pub escape_code : World → Bool → Transition
escape_code w true = record { to = Next (n.Title its.Inside); world = taken w }
escape_code w false = record { to = Retry (n.Title its.Inside); world = w }

-- each state with what it does, where there is memory
abbrev pub start_transition : World → Transition
start_transition w = start_code w w.current

abbrev pub begin_transition : World → Transition
begin_transition w = begin_code w (is_current w.scratch.marker w.current)

abbrev pub at_break_transition : World → Transition
at_break_transition w = at_break_code w (is_current w.scratch.marker w.current)

abbrev pub after_eol_transition : World → Transition
after_eol_transition w = record { to = Retry (n.Title its.AtBreak); world = exited w Data }

abbrev pub inside_transition : World → Transition
inside_transition w = inside_code w w.current

abbrev pub escape_transition : World → Transition
escape_transition w = escape_code w (is_escaped w.scratch w.current)

-- all of them
abbrev pub title_transition : TitleState → World → Transition
title_transition its.Start w = start_transition w
title_transition its.Begin w = begin_transition w
title_transition its.AfterEol w = after_eol_transition w
title_transition its.AtBreak w = at_break_transition w
title_transition its.Inside w = inside_transition w
title_transition its.Escape w = escape_transition w
title_transition its.Nok w = record { to = Nok; world = w }

-- After the opening mark both marks are known.
pub record IsMarked (s : Scratch) : Type 0 where
  pub marks : title_closer s.marker_b ≡ Some s.marker
  pub rest : IsRest (unmarked s)

abbrev pub TitleInvariant : StateName → Position → Type 0
TitleInvariant (n.Title its.Start) x = IsRest x.scratch
TitleInvariant (n.Title its.Nok) x = IsRest x.scratch
TitleInvariant _ x = IsMarked x.scratch

-- It ends after its opening mark, and so after the point where it begins.
abbrev pub title_ends : StateName → Position → After → Type 0
title_ends (n.Title its.Start) x K = EndsLater IsRest IsRest x K
title_ends (n.Title its.Nok) x K = EndsLater IsRest IsRest x K
title_ends _ x K = Ends IsRest IsRest x K

abbrev pub title_ready : StateName → Position → After → Type 0
title_ready name x K = TitleInvariant name x × title_ends name x K

abbrev pub title_rank : StateName → Position → Rank
title_rank (n.Title its.Begin) x = ranked 2 refl
title_rank (n.Title its.AfterEol) x = ranked 2 refl
title_rank (n.Title its.AtBreak) x = ranked 1 refl
title_rank (n.Title its.Escape) x = ranked 1 refl
title_rank _ x = ranked 0 refl

abbrev pub title_scheme : Scheme
title_scheme = record { ready = title_ready; level = λ n. 1; rank = title_rank; tries = λ n. ranked 0 refl }
