-- What is called within a definition: once its first state was called, neither that state nor one of content or of a
-- paragraph is, before the attempt at it has ended.
use Rattle.std.proofs.Common.{◌≡◌, ◌⊎◌, inl, inr, ℕ, Bool, true, false, cond, Option, Some, None, List, ◌∷◌, refl, ap}
use Rattle.std.specs.Prelude.{◌==◌, length}
use Rattle.md_engine.specs.declared.event.Name.TheVariants.{Data, DefinitionTitleString, LineEnding}
use Rattle.md_engine.specs.declared.state.Name.{Name as StateName}
use Rattle.md_engine.specs.declared.state.Name.TheVariants as n
use Rattle.md_engine.specs.declared.state.State.{State}
use Rattle.md_engine.specs.declared.state.State.TheVariants.{Next, Retry}
use Rattle.md_engine.specs.declared.state.definition.State.{State as DefinitionState}
use Rattle.md_engine.specs.declared.state.definition.State.TheVariants as definition
use Rattle.md_engine.specs.declared.state.destination.State.{State as DestinationState}
use Rattle.md_engine.specs.declared.state.destination.State.TheVariants as destination
use Rattle.md_engine.specs.declared.state.label.State.{State as LabelState}
use Rattle.md_engine.specs.declared.state.label.State.TheVariants as label
use Rattle.md_engine.specs.declared.state.space_or_tab.State.{State as WhiteState}
use Rattle.md_engine.specs.declared.state.space_or_tab.State.TheVariants as white
use Rattle.md_engine.specs.declared.state.space_or_tab_eol.State.{State as GapState}
use Rattle.md_engine.specs.declared.state.space_or_tab_eol.State.TheVariants as gap
use Rattle.md_engine.specs.declared.state.title.State.{State as TitleState}
use Rattle.md_engine.specs.declared.state.title.State.TheVariants as title
use Rattle.md_engine.specs.declared.tokenizer.Frame.{Frame}
use Rattle.md_engine.specs.World.{World}
use Rattle.md_content.specs.States.{content_transition}
use Rattle.md_events.specs.Spaces as WhiteStates
use Rattle.md_events.specs.Spaces.{any_size, sees_white, white_then}
use Rattle.md_events.specs.Transition.{Transition, exited}
use Rattle.md_link_definitions.specs.Definition as DefinitionStates
use Rattle.md_link_definitions.specs.Destination as DestinationStates
use Rattle.md_link_definitions.specs.Destination.{Begin, Piece}
use Rattle.md_link_definitions.specs.Gap as GapStates
use Rattle.md_link_definitions.specs.Label as LabelStates
use Rattle.md_link_definitions.specs.Title as TitleStates
use Rattle.md_meaning.specs.Definition.{title_closer}

-- the states of definitions and their parts, but the first
abbrev pub is_within : StateName → Bool
is_within (n.Content state) = false
is_within (n.Paragraph state) = false
is_within (n.Definition definition.Start) = false
is_within name = true

abbrev pub StaysWithin : State → Type 0
StaysWithin (Next name) = is_within name ≡ true
StaysWithin (Retry name) = is_within name ≡ true
StaysWithin to = Unit {0}

-- an attempt that continues within
pub record IsInner (f : Frame) : Type 0 where
  pub ok : StaysWithin f.ok
  pub nok : StaysWithin f.nok

-- one was begun
pub record Begins (w new : World) : Type 0 where
  pub frame : Frame
  pub frames : new.frames ≡ frame ∷ w.frames
  pub inner : IsInner frame

-- a call leads to such a state, and begins such an attempt or none
pub record LeadsWithin (w : World) (x : Transition) : Type 0 where
  pub to : StaysWithin x.to
  pub frames : (x.world.frames ≡ w.frames) ⊎ Begins w x.world

-- One of two, by a test.
either : (w : World) (x y : Transition) (t : Bool) → LeadsWithin w x → LeadsWithin w y → LeadsWithin w (cond t x y)
either w x y true h k = h
either w x y false h k = k

-- No attempt begins,
turns : (w v : World) (to : State) → v.frames ≡ w.frames → StaysWithin to →
    LeadsWithin w (record { to = to; world = v })
turns w v to same within = record { to = within; frames = inl same }

-- or one does, at a part or at whitespace.
tries : (w v : World) (first : StateName) (ok nok : State) → v.frames ≡ w.frames → is_within first ≡ true →
    StaysWithin ok → StaysWithin nok → LeadsWithin w (DefinitionStates.tries_part v first ok nok)
tries w v first ok nok same within on otherwise = record {
  to = within;
  frames = inr (record {
    frame = frame;
    frames = ap (λ (fs : List Frame). frame ∷ fs) same;
    inner = record { ok = on; nok = otherwise };
  });
}
  where
    frame : Frame
    frame = record { ok = ok; nok = nok; is_check = false; events_len = length v.events; point = v.point }

whites : (w v : World) (min max : ℕ) (ok nok : State) → v.frames ≡ w.frames → StaysWithin ok → StaysWithin nok →
    LeadsWithin w (white_then v min max ok nok)
whites w v min max ok nok same on otherwise = record {
  to = refl;
  frames = inr (record {
    frame = frame;
    frames = ap (λ (fs : List Frame). frame ∷ fs) same;
    inner = record { ok = on; nok = otherwise };
  });
}
  where
    frame : Frame
    frame = record { ok = ok; nok = nok; is_check = false; events_len = length v.events; point = v.point }

-- Whitespace.

white-start : (w : World) (t : Bool) → LeadsWithin w (WhiteStates.start_code w t)
white-start w true = turns w _ _ refl refl
white-start w false = turns w _ _ refl refl

white-inside : (w : World) (t : Bool) → LeadsWithin w (WhiteStates.inside_code w t)
white-inside w true = turns w _ _ refl refl
white-inside w false = turns w _ _ refl refl

white-after : (w : World) (t : Bool) → LeadsWithin w (WhiteStates.after_code w t)
white-after w true = turns w _ _ refl tt
white-after w false = turns w _ _ refl tt

white-leads : (state : WhiteState) (w : World) → LeadsWithin w (WhiteStates.white_transition state w)
white-leads white.Start w = white-start w (WhiteStates.begins_white w)
white-leads white.Inside w =
    white-inside w _
white-leads white.After w = white-after w _

-- Gaps.

gap-start : (w : World) (t : Bool) → LeadsWithin w (GapStates.start_code w t)
gap-start w true = whites w w 1 any_size _ _ refl refl tt
gap-start w false = turns w _ _ refl refl

gap-eol : (w : World) (t some : Bool) → LeadsWithin w (GapStates.at_eol_code w t some)
gap-eol w true some = turns w _ _ refl refl
gap-eol w false true = turns w _ _ refl tt
gap-eol w false false = turns w _ _ refl tt

gap-after : (w : World) (t : Bool) → LeadsWithin w (GapStates.after_eol_code w t)
gap-after w true = whites w (exited w LineEnding) 1 any_size _ _ refl refl tt
gap-after w false = turns w _ _ refl refl

gap-leads : (state : GapState) (w : World) → LeadsWithin w (GapStates.gap_transition state w)
gap-leads gap.Start w = gap-start w (sees_white w.current)
gap-leads gap.AfterFirst w = turns w _ _ refl refl
gap-leads gap.AtEol w = gap-eol w _ w.scratch.seen
gap-leads gap.AfterEol w = gap-after w (sees_white w.current)
gap-leads gap.AfterMore w = turns w _ _ refl tt

-- Labels.

label-refused : (w v : World) → v.frames ≡ w.frames → LeadsWithin w (LabelStates.refused v)
label-refused w v same = turns w _ _ same tt

label-close : (w v : World) (t : Bool) → v.frames ≡ w.frames → LeadsWithin w (LabelStates.close_code v t)
label-close w v true same = turns w _ _ same tt
label-close w v false same = label-refused w v same

label-start : (w : World) (t : Bool) → LeadsWithin w (LabelStates.start_code w t)
label-start w true = turns w _ _ refl refl
label-start w false = turns w _ _ refl tt

label-taken : (w : World) (b : ℕ) (state : LabelState) → LeadsWithin w (LabelStates.taken_as w b state)
label-taken w b state = either w _ _ (LabelStates.is_full w) (label-refused w w refl) (turns w _ _ refl refl)

label-break : (w : World) (o : Option ℕ) → LeadsWithin w (LabelStates.at_break_code w o)
label-break w None = label-refused w w refl
label-break w (Some b) =
    either w _ _ (b == 93) (label-close w w w.scratch.seen refl)
    (either w _ _ (b == 91) (label-refused w w refl) (turns w _ _ refl refl))

label-eol : (w : World) (t : Bool) → LeadsWithin w (LabelStates.eol_after_code w t)
label-eol w true = turns w _ _ refl refl
label-eol w false = turns w _ _ refl refl

label-inside : (w : World) (o : Option ℕ) → LeadsWithin w (LabelStates.inside_code w o)
label-inside w None = label-refused w w refl
label-inside w (Some b) =
    either w _ _ (b == 93) (label-close w (exited w Data) w.scratch.seen refl)
    (either w _ _ (b == 91) (label-refused w w refl)
    (either w _ _ (b == 10) (turns w _ _ refl refl) (label-taken w b _)))

label-escape : (w : World) (o : Option ℕ) → LeadsWithin w (LabelStates.escape_code w o)
label-escape w None = turns w _ _ refl refl
label-escape w (Some b) = either w _ _ (LabelStates.is_escaped b) (label-taken w b label.Inside) (turns w _ _ refl refl)

label-leads : (state : LabelState) (w : World) → LeadsWithin w (LabelStates.label_transition state w)
label-leads label.Start w = label-start w _
label-leads label.AtBreak w = label-break w w.current
label-leads label.EolAfter w = label-eol w (sees_white w.current)
label-leads label.Inside w = label-inside w w.current
label-leads label.Escape w = label-escape w w.current
label-leads label.Nok w = turns w _ _ refl tt

-- Destinations.

destination-start : (w : World) (b : Begin) → LeadsWithin w (DestinationStates.start_code w b)
destination-start w DestinationStates.Literal = turns w _ _ refl refl
destination-start w DestinationStates.Raw = turns w _ _ refl refl
destination-start w DestinationStates.Neither = turns w _ _ refl tt

destination-before : (w : World) (t : Bool) → LeadsWithin w (DestinationStates.enclosed_before_code w t)
destination-before w true = turns w _ _ refl tt
destination-before w false = turns w _ _ refl refl

destination-enclosed : (w : World) (p : Piece) → LeadsWithin w (DestinationStates.enclosed_code w p)
destination-enclosed w DestinationStates.Opens = turns w _ _ refl tt
destination-enclosed w DestinationStates.Closes = turns w _ _ refl refl
destination-enclosed w DestinationStates.Escapes = turns w _ _ refl refl
destination-enclosed w DestinationStates.Other = turns w _ _ refl refl
destination-enclosed w DestinationStates.Stops = turns w _ _ refl tt

destination-escape : (state : DestinationState) (w : World) (t : Bool) →
    LeadsWithin w (DestinationStates.escape_code state w t)
destination-escape state w true = turns w _ _ refl refl
destination-escape state w false = turns w _ _ refl refl

destination-raw : (w : World) (p : Piece) (some : Bool) → LeadsWithin w (DestinationStates.raw_code w p some)
destination-raw w DestinationStates.Opens some = turns w _ _ refl refl
destination-raw w DestinationStates.Closes true = turns w _ _ refl refl
destination-raw w DestinationStates.Closes false = turns w _ _ refl tt
destination-raw w DestinationStates.Escapes some = turns w _ _ refl refl
destination-raw w DestinationStates.Other some = turns w _ _ refl refl
destination-raw w DestinationStates.Stops true = turns w _ _ refl tt
destination-raw w DestinationStates.Stops false = turns w _ _ refl tt

destination-leads : (state : DestinationState) (w : World) →
    LeadsWithin w (DestinationStates.destination_transition state w)
destination-leads destination.Start w = destination-start w _
destination-leads destination.EnclosedBefore w = destination-before w _
destination-leads destination.Enclosed w = destination-enclosed w _
destination-leads destination.EnclosedEscape w = destination-escape destination.Enclosed w _
destination-leads destination.Raw w = destination-raw w _ _
destination-leads destination.RawEscape w = destination-escape destination.Raw w _

-- Titles.

title-closed : (w v : World) → v.frames ≡ w.frames → LeadsWithin w (TitleStates.closed v)
title-closed w v same = turns w _ _ same tt

title-opened : (w : World) (b : ℕ) (o : Option ℕ) → LeadsWithin w (TitleStates.opened w b o)
title-opened w b None = turns w _ _ refl tt
title-opened w b (Some closer) = turns w _ _ refl refl

title-start : (w : World) (o : Option ℕ) → LeadsWithin w (TitleStates.start_code w o)
title-start w None = turns w _ _ refl tt
title-start w (Some b) = title-opened w b (title_closer b)

title-begin : (w : World) (t : Bool) → LeadsWithin w (TitleStates.begin_code w t)
title-begin w true = title-closed w w refl
title-begin w false = turns w _ _ refl refl

title-break : (w : World) (t : Bool) → LeadsWithin w (TitleStates.at_break_code w t)
title-break w true = title-closed w (exited w DefinitionTitleString) refl
title-break w false = turns w _ _ refl refl

title-inside : (w : World) (o : Option ℕ) → LeadsWithin w (TitleStates.inside_code w o)
title-inside w None = turns w _ _ refl tt
title-inside w (Some b) =
    either w _ _ (b == w.scratch.marker) (title-closed w (exited (exited w Data) DefinitionTitleString) refl)
    (either w _ _ (b == w.scratch.marker_b) (turns w _ _ refl tt)
    (either w _ _ (b == 10) (turns w _ _ refl refl)
    (either w _ _ (b == 92) (turns w _ _ refl refl) (turns w _ _ refl refl))))

title-escape : (w : World) (t : Bool) → LeadsWithin w (TitleStates.escape_code w t)
title-escape w true = turns w _ _ refl refl
title-escape w false = turns w _ _ refl refl

title-leads : (state : TitleState) (w : World) → LeadsWithin w (TitleStates.title_transition state w)
title-leads title.Start w = title-start w w.current
title-leads title.Begin w = title-begin w _
title-leads title.AfterEol w = turns w _ _ refl refl
title-leads title.AtBreak w = title-break w _
title-leads title.Inside w = title-inside w w.current
title-leads title.Escape w = title-escape w _
title-leads title.Nok w = turns w _ _ refl tt

-- Definitions, from their first state on.

following-white : (w : World) (next : DefinitionState) (t : Bool) → is_within (n.Definition next) ≡ true →
    LeadsWithin w (DefinitionStates.following_white w next t)
following-white w next true within = whites w w 1 any_size _ _ refl within tt
following-white w next false within = turns w _ _ refl within

definition-start : (w : World) (on t : Bool) → LeadsWithin w (DefinitionStates.start_code w on t)
definition-start w true t = following-white w definition.Before t refl
definition-start w false t = turns w _ _ refl tt

definition-before : (w : World) (t : Bool) → LeadsWithin w (DefinitionStates.before_code w t)
definition-before w true = tries w _ (n.Label label.Start) _ _ refl refl refl refl
definition-before w false = turns w _ _ refl tt

definition-label : (w : World) (t : Bool) → LeadsWithin w (DefinitionStates.label_after_code w t)
definition-label w true = turns w _ _ refl refl
definition-label w false = turns w _ _ refl tt

definition-title : (w : World) (t : Bool) → LeadsWithin w (DefinitionStates.title_before_code w t)
definition-title w true = tries w w (n.SpaceOrTabEol gap.Start) _ _ refl refl refl tt
definition-title w false = turns w _ _ refl tt

title-end : (w : World) (t : Bool) → LeadsWithin w (DefinitionStates.title_end_code w t)
title-end w true = turns w _ _ refl tt
title-end w false = turns w _ _ refl tt

definition-end : (w : World) (t : Bool) → LeadsWithin w (DefinitionStates.end_code w t)
definition-end w true = turns w _ _ refl tt
definition-end w false = turns w _ _ refl tt

pub definition-leads : (state : DefinitionState) (w : World) →
    LeadsWithin w (DefinitionStates.definition_transition state w)
definition-leads definition.Start w = definition-start w _ (sees_white w.current)
definition-leads definition.Before w = definition-before w _
definition-leads definition.LabelAfter w = definition-label w _
definition-leads definition.LabelNok w = turns w _ _ refl tt
definition-leads definition.MarkerAfter w = tries w w (n.SpaceOrTabEol gap.Start) _ _ refl refl refl refl
definition-leads definition.DestinationBefore w = tries w w (n.Destination destination.Start) _ _ refl refl refl refl
definition-leads definition.DestinationAfter w =
    tries w w (n.Definition definition.TitleBefore) _ _ refl refl refl refl
definition-leads definition.DestinationMissing w = turns w _ _ refl tt
definition-leads definition.TitleBefore w = definition-title w _
definition-leads definition.TitleBeforeMarker w = tries w w (n.Title title.Start) _ _ refl refl refl tt
definition-leads definition.TitleAfter w =
    following-white w definition.TitleAfterOptionalWhitespace (sees_white w.current) refl
definition-leads definition.TitleAfterOptionalWhitespace w = title-end w _
definition-leads definition.After w = following-white w definition.AfterWhitespace (sees_white w.current) refl
definition-leads definition.AfterWhitespace w = definition-end w _

-- All of them.
pub within-leads : (name : StateName) (w : World) → is_within name ≡ true → LeadsWithin w (content_transition name w)
within-leads (n.Content state) w is = cc
within-leads (n.Paragraph state) w is = cc
within-leads (n.Definition state) w is = definition-leads state w
within-leads (n.Destination state) w is = destination-leads state w
within-leads (n.Label state) w is = label-leads state w
within-leads (n.SpaceOrTab state) w is = white-leads state w
within-leads (n.SpaceOrTabEol state) w is = gap-leads state w
within-leads (n.Title state) w is = title-leads state w
within-leads name w is = turns w _ _ refl tt
