-- The label of a definition.
use Rattle.std.specs.Prelude.{refl, ℕ, ◌+◌, ◌≤◌, Bool, true, false, ◌&&◌, ◌||◌, ◌==◌, not, if◌then◌else◌, nat_le}
use Rattle.std.specs.Prelude.{Option, Some, None}
use Rattle.md_meaning.specs.Ascii.{backslash, left_bracket, right_bracket}
use Rattle.md_meaning.specs.Rest.{is_white}
use Rattle.md_engine.specs.declared.event.Name.TheVariants.{Data, DefinitionLabel, DefinitionLabelMarker}
use Rattle.md_engine.specs.declared.event.Name.TheVariants.{DefinitionLabelString}
use Rattle.md_engine.specs.declared.state.Name.{Name as StateName}
use Rattle.md_engine.specs.declared.state.Name.TheVariants as n
use Rattle.md_engine.specs.declared.state.label.State.{State as LabelState}
use Rattle.md_engine.specs.declared.state.label.State.TheVariants as its
use Rattle.md_engine.specs.declared.state.State.TheVariants.{Ok, Nok, Next, Retry}
use Rattle.md_engine.specs.declared.tokenizer.Scratch.{Scratch}
use Rattle.md_engine.specs.Scheme.{After, Ends, EndsLater, Rank, Scheme, Position, ranked}
use Rattle.md_engine.specs.World.{World}
use Rattle.md_link_definitions.specs.Chunks.{string_link}
use Rattle.md_events.specs.Spaces.{IsRest, is_current, sees_white}
use Rattle.md_events.specs.Transition.{Transition, entered, entered_link, exited, taken}

-- a label has at most so many bytes (CommonMark 6.3)
abbrev pub most : ℕ
most = 999

-- a bracket ends the text of a label, if no backslash takes it
abbrev pub is_bracket : ℕ → Bool
is_bracket b = (b == left_bracket) || (b == right_bracket)

-- what a backslash makes a pair with
abbrev pub is_escaped : ℕ → Bool
is_escaped b = is_bracket b || (b == backslash)

-- without what a label keeps
abbrev pub unlabelled : Scratch → Scratch
unlabelled s = record s { size = 0; seen = false; connect = false }

abbrev pub refused : World → Transition
refused w = record { to = Nok; world = record w { scratch = unlabelled w.scratch } }

-- whether there is no room for the byte that begins here; a further column of a tab is none
abbrev pub is_full : World → Bool
is_full w = (w.point.vs == 0) && nat_le most w.scratch.size

-- this byte is counted
abbrev pub counted : World → ℕ → Scratch
counted w b = record w.scratch {
  size = if w.point.vs == 0 then w.scratch.size + 1 else w.scratch.size;
  seen = w.scratch.seen || not (is_white b);
}

-- it is taken, if there is room
abbrev pub taken_as : World → ℕ → LabelState → Transition
taken_as w b state =
    if is_full w then refused w
    else record { to = Next (n.Label state); world = record (taken w) { scratch = counted w b } }

-- after the text, by whether something else than whitespace is in it
abbrev pub close_code : World → Bool → Transition
close_code w true = record {
  to = Ok;
  world = record (exited
      (exited (taken (entered (exited w DefinitionLabelString) DefinitionLabelMarker)) DefinitionLabelMarker)
      DefinitionLabel) { scratch = unlabelled w.scratch };
}
close_code w false = refused w

-- by whether `[` is here
abbrev pub start_code : World → Bool → Transition
start_code w true = record {
  to = Next (n.Label its.AtBreak);
  world = entered
      (exited (taken (entered (entered w DefinitionLabel) DefinitionLabelMarker)) DefinitionLabelMarker)
      DefinitionLabelString;
}
start_code w false = record { to = Nok; world = w }

-- by what is here
abbrev pub at_break_code : World → Option ℕ → Transition
at_break_code w None = refused w
at_break_code w (Some b) =
    if b == right_bracket then close_code w w.scratch.seen
    else if b == left_bracket then refused w
    else record {
      to = Retry (n.Label (if w.scratch.connect then its.EolAfter else its.Inside));
      world = entered_link w Data string_link;
    }

-- by whether whitespace is here
abbrev pub eol_after_code : World → Bool → Transition
eol_after_code w true = record { to = Next (n.Label its.EolAfter); world = taken w }
eol_after_code w false = record { to = Retry (n.Label its.Inside); world = w }

abbrev pub inside_code : World → Option ℕ → Transition
inside_code w None = refused w
inside_code w (Some b) =
    if b == right_bracket then close_code (exited w Data) w.scratch.seen
    else if b == left_bracket then refused w
    else if b == 10 then record {
      to = Next (n.Label its.AtBreak);
      world = record (exited (taken w) Data) { scratch = record w.scratch { connect = true } };
    }
    else taken_as w b (if b == backslash then its.Escape else its.Inside)

abbrev pub escape_code : World → Option ℕ → Transition
escape_code w None = record { to = Retry (n.Label its.Inside); world = w }
escape_code w (Some b) =
    if is_escaped b then taken_as w b its.Inside else record { to = Retry (n.Label its.Inside); world = w }

-- each state with what it does, where there is memory
abbrev pub start_transition : World → Transition
start_transition w = start_code w (is_current left_bracket w.current)

abbrev pub at_break_transition : World → Transition
at_break_transition w = at_break_code w w.current

abbrev pub eol_after_transition : World → Transition
eol_after_transition w = eol_after_code w (sees_white w.current)

abbrev pub inside_transition : World → Transition
inside_transition w = inside_code w w.current

abbrev pub escape_transition : World → Transition
escape_transition w = escape_code w w.current

-- all of them
abbrev pub label_transition : LabelState → World → Transition
label_transition its.Start w = start_transition w
label_transition its.AtBreak w = at_break_transition w
label_transition its.EolAfter w = eol_after_transition w
label_transition its.Inside w = inside_transition w
label_transition its.Escape w = escape_transition w
label_transition its.Nok w = record { to = Nok; world = w }

-- After `[` it keeps what it has counted, which is not too much.
pub record IsInLabel (x : Position) : Type 0 where
  pub size : x.scratch.size ≤ most
  pub rest : IsRest (unlabelled x.scratch)

abbrev pub LabelInvariant : StateName → Position → Type 0
LabelInvariant (n.Label its.Start) x = IsRest x.scratch
LabelInvariant (n.Label its.Nok) x = IsRest x.scratch
LabelInvariant _ x = IsInLabel x

-- It ends after `[`, and so after the point where it begins.
abbrev pub label_ends : StateName → Position → After → Type 0
label_ends (n.Label its.Start) x K = EndsLater IsRest IsRest x K
label_ends (n.Label its.Nok) x K = EndsLater IsRest IsRest x K
label_ends _ x K = Ends IsRest IsRest x K

abbrev pub label_ready : StateName → Position → After → Type 0
label_ready name x K = LabelInvariant name x × label_ends name x K

abbrev pub label_rank : StateName → Position → Rank
label_rank (n.Label its.AtBreak) x = ranked 2 refl
label_rank (n.Label its.EolAfter) x = ranked 1 refl
label_rank (n.Label its.Escape) x = ranked 1 refl
label_rank _ x = ranked 0 refl

abbrev pub label_scheme : Scheme
label_scheme = record { ready = label_ready; level = λ n. 1; rank = label_rank; tries = λ n. ranked 0 refl }
