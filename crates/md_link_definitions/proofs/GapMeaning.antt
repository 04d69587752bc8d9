-- Each state of whitespace with at most one line ending takes one step of its rule.
use Rattle.std.proofs.Common.{◌≡◌, ℕ, Bool, true, false, List, ◌∷◌, ◌++◌, [], length, Option, Some, None, refl, sym}
use Rattle.std.proofs.Common.{◌∙◌, ap, append-nil, ap₂, arith, nat_eq}
use Rattle.md_engine.specs.declared.event.Event.{Event}
use Rattle.md_engine.specs.declared.event.Name.TheVariants.{LineEnding}
use Rattle.md_engine.specs.declared.state.Name.TheVariants as n
use Rattle.md_engine.specs.declared.state.space_or_tab_eol.State.{State as GapState}
use Rattle.md_engine.specs.declared.state.space_or_tab_eol.State.TheVariants as its
use Rattle.md_engine.specs.declared.state.State.{State}
use Rattle.md_engine.specs.declared.state.State.TheVariants.{Nok, Next}
use Rattle.md_engine.specs.declared.tokenizer.Frame.{Frame}
use Rattle.md_engine.specs.declared.tokenizer.Scratch.{Scratch}
use Rattle.md_engine.specs.Meaning.{Accepts, Behaviour, Cell, Feed, Here, Outcome, Refuses, Steps, here}
use Rattle.md_engine.specs.Scheme.{After, position}
use Rattle.md_engine.specs.World.{World, after}
use Rattle.md_engine.specs.Sees.{Sees, ahead, cell_here}
use Rattle.md_engine.proofs.StepOf.{begins, begins_only, moves, passes, steps-as}
use Rattle.md_link_definitions.specs.Gap.{GapInvariant, after_eol_code, after_first_transition, at_eol_code, gap_ready}
use Rattle.md_link_definitions.specs.Gap.{gap_transition, start_code, without_seen}
use Rattle.md_link_definitions.specs.GapRule.{GapMeans, HasGap, after_first, at_eol, at_line, gap_at, past_white}
use Rattle.md_events.specs.Ahead.{begins_white, white_rest}
use Rattle.md_events.specs.Events.Nested.{enter, exit}
use Rattle.md_events.specs.Spaces.{IsRest, any_size, is_current, sees_white}
use Rattle.md_events.proofs.AheadLemmas.{none-end, none-rest}
use Rattle.md_events.proofs.SpacesTermination.{rest-calm}
use Rattle.md_events.proofs.WhiteMeaning.{begins-seen, following_white, white-tried}

-- Whitespace.

-- at rest, it is as it is after an attempt that took some,
pub past-some : (cells : List Cell) (h : Here) → IsRest h.scratch → begins_white cells ≡ true →
    past_white cells h ≡ following_white any_size cells h
unfolding past_white
past-some cells h is e =
    rw e (ap (λ (t : Scratch). let r : Here = record (following_white any_size cells h) { scratch = t } in r)
    (is ∙ sym (rest-calm h.scratch is)))

-- and where there is none nothing is added
pub past-none : (cells : List Cell) (h : Here) → begins_white cells ≡ false → past_white cells h ≡ h
unfolding past_white
past-none cells h e = rw (e, none-end any_size cells h.point e, append-nil) refl

-- an attempt at whitespace that is here, and continues with this state
abbrev white_frame : GapState → World → List Event → Frame
white_frame next w events = record {
  ok = Next (n.SpaceOrTabEol next);
  nok = Nok;
  is_check = false;
  events_len = length events;
  point = w.point;
}

-- Before whitespace.

-- what is left after it,
pub at-some : (cells : List Cell) (h : Here) → begins_white cells ≡ true →
    gap_at cells h ≡ after_first (white_rest any_size cells) (past_white cells h)
unfolding gap_at
at-some cells h e = rw e refl

-- and where there is none
pub at-none : (cells : List Cell) (h : Here) → begins_white cells ≡ false → gap_at cells h ≡ at_eol cells h
unfolding gap_at
at-none cells h e = rw e refl

-- the state there
start_means : (B : Behaviour) (feed : Feed) (w : World) (x : Bool) → HasGap B → Sees feed w → IsRest w.scratch →
    sees_white w.current ≡ x →
    Steps B feed (Next (n.SpaceOrTabEol its.Start)) w (start_code w x).to (start_code w x).world
start_means B feed w true has s r e =
    let frame : Frame = white_frame its.AfterFirst w w.events in
    let white : begins_white (feed w.point) ≡ true = begins-seen feed w s ∙ e in
    begins_only B feed _ _ w (start_code w true).world frame refl refl
    (has.each its.Start _ _ ∙ at-some (feed w.point) (here w) white
    ∙ ap (after_first (white_rest any_size (feed w.point))) (past-some (feed w.point) (here w) r white)
    ∙ sym (has.each its.AfterFirst _ _)
    ∙ white-tried B feed frame w.events (feed w.point) (here w) 1 any_size has.white white (omega arith) (omega arith)
    refl)
start_means B feed w false has s r e =
    passes B feed _ _ w w refl refl
    (has.each its.Start _ _ ∙ at-none (feed w.point) (here w) (begins-seen feed w s ∙ e) ∙ sym (has.each its.AtEol _ _))

-- After it.
after_first_means : (B : Behaviour) (feed : Feed) (w : World) → HasGap B →
    Steps B feed (Next (n.SpaceOrTabEol its.AfterFirst)) w (after_first_transition w).to
    (after_first_transition w).world
after_first_means B feed w has =
    passes B feed _ _ w (after_first_transition w).world refl refl
    (has.each its.AfterFirst _ _ ∙ sym (has.each its.AtEol _ _))

-- Where an ending may be.

-- one does,
eol-taken : (c : Cell) (cs : List Cell) (h : Here) → nat_eq c.byte 10 ≡ true →
    at_eol (c ∷ cs) h ≡
    at_line cs
    (record h {
      events = h.events ++ enter LineEnding h.point ∷ [];
      point = c.after;
      scratch = without_seen h.scratch;
    })
unfolding at_eol
eol-taken c cs h e = rw e refl

-- or none does, by whether something was taken
without_eol : Bool → List Cell → Here → Outcome
without_eol true cells h = Accepts (record h { scratch = without_seen h.scratch }) cells
without_eol false cells h = Refuses (without_seen h.scratch) h.flags

-- so the rule has it
eol-none : (feed : Feed) (w : World) (h : Here) (o : Option ℕ) (y : Bool) → is_current 10 o ≡ false →
    h.scratch.seen ≡ y → at_eol (ahead feed w o) h ≡ without_eol y (ahead feed w o) h
unfolding at_eol without_eol
eol-none feed w h None true e k = rw k refl
eol-none feed w h None false e k = rw k refl
eol-none feed w h (Some b) true e k = rw (e, k) refl
eol-none feed w h (Some b) false e k = rw (e, k) refl

-- the state there
at_eol_means : (B : Behaviour) (feed : Feed) (w : World) (x y : Bool) → HasGap B → Sees feed w →
    is_current 10 w.current ≡ x → w.scratch.seen ≡ y →
    Steps B feed (Next (n.SpaceOrTabEol its.AtEol)) w (at_eol_code w x y).to (at_eol_code w x y).world
unfolding without_eol
at_eol_means B feed w true y has s e k = go w.current e s.next
  where
    go : (o : Option ℕ) → is_current 10 o ≡ true → feed w.point ≡ ahead feed w o →
        Steps B feed (Next (n.SpaceOrTabEol its.AtEol)) w (at_eol_code w true y).to (at_eol_code w true y).world
    go None f next = cc
    go (Some b) f next =
        moves B feed _ _ w (at_eol_code w true y).world (enter LineEnding w.point ∷ []) refl refl
        (has.each its.AtEol _ _ ∙ ap (λ (x : List Cell). at_eol x (here w)) next
        ∙ eol-taken (cell_here feed w b) (feed (after w.setting w.point)) (here w) f ∙ sym (has.each its.AfterEol _ _))
at_eol_means B feed w false true has s e k =
    passes B feed _ _ w (at_eol_code w false true).world refl refl
    (has.each its.AtEol _ _ ∙ rw s.next (eol-none feed w (here w) w.current true e k))
at_eol_means B feed w false false has s e k =
    passes B feed _ _ w (at_eol_code w false false).world refl refl
    (has.each its.AtEol _ _ ∙ rw s.next (eol-none feed w (here w) w.current false e k))

-- After the ending.

-- whitespace is here,
line-white : (cells : List Cell) (h : Here) → IsRest h.scratch → begins_white cells ≡ true →
    at_line cells h ≡
    Accepts (following_white any_size cells (record h { events = h.events ++ exit LineEnding h.point ∷ [] }))
    (white_rest any_size cells)
unfolding at_line
line-white cells h is e = ap (λ (g : Here). Accepts g (white_rest any_size cells)) (past-some cells _ is e)

-- or none does
line-none : (cells : List Cell) (h : Here) → begins_white cells ≡ false →
    at_line cells h ≡ Accepts (record h { events = h.events ++ exit LineEnding h.point ∷ [] }) cells
unfolding at_line
line-none cells h e = ap₂ Accepts (past-none cells _ e) (none-rest any_size cells e)

-- the state there
after_eol_means : (B : Behaviour) (feed : Feed) (w : World) (x : Bool) → HasGap B → Sees feed w → IsRest w.scratch →
    sees_white w.current ≡ x →
    Steps B feed (Next (n.SpaceOrTabEol its.AfterEol)) w (after_eol_code w x).to (after_eol_code w x).world
after_eol_means B feed w true has s r e =
    let h : Here = record (here w) { events = w.events ++ exit LineEnding w.point ∷ [] } in
    let frame : Frame = white_frame its.AfterMore w h.events in
    let white : begins_white (feed w.point) ≡ true = begins-seen feed w s ∙ e in
    begins B feed _ _ w (after_eol_code w true).world (exit LineEnding w.point ∷ []) frame refl refl
    (has.each its.AfterEol _ _ ∙ line-white (feed w.point) (here w) r white ∙ sym (has.each its.AfterMore _ _)
    ∙ white-tried B feed frame h.events (feed w.point) h 1 any_size has.white white (omega arith) (omega arith) refl)
after_eol_means B feed w false has s r e =
    moves B feed _ _ w (after_eol_code w false).world (exit LineEnding w.point ∷ []) refl refl
    (has.each its.AfterEol _ _ ∙ line-none (feed w.point) (here w) (begins-seen feed w s ∙ e)
    ∙ sym (has.each its.AfterMore _ _))

-- All of them: each state takes one step of what it means.
gap_steps : (B : Behaviour) (feed : Feed) (state : GapState) (w : World) → HasGap B →
    Sees feed w → GapInvariant (n.SpaceOrTabEol state) (position w) →
    Steps B feed (Next (n.SpaceOrTabEol state)) w (gap_transition state w).to (gap_transition state w).world
gap_steps B feed its.Start w has s at = start_means B feed w _ has s at refl
gap_steps B feed its.AfterFirst w has s at = after_first_means B feed w has
gap_steps B feed its.AtEol w has s at = at_eol_means B feed w _ _ has s refl refl
gap_steps B feed its.AfterEol w has s at = after_eol_means B feed w _ has s at refl
gap_steps B feed its.AfterMore w has s at = passes B feed _ _ w w refl refl (has.each its.AfterMore _ _)

-- and so where its attempts end as they have to
pub gap_means : (B : Behaviour) (feed : Feed) (state : GapState) (w : World) (K : After) → HasGap B → Sees feed w →
    gap_ready (n.SpaceOrTabEol state) (position w) K →
    Steps B feed (Next (n.SpaceOrTabEol state)) w (gap_transition state w).to (gap_transition state w).world
gap_means B feed state w K has s at = gap_steps B feed state w has s at.0

-- what answers as the transition of a state does means what the state means
pub gap_rule : (state : GapState) (w new : World) (to : State) → to ≡ (gap_transition state w).to →
    new ≡ (gap_transition state w).world → GapMeans state w to new
unfolding GapMeans
gap_rule state w new to e k at B feed has s =
    steps-as B feed _ _ to w _ new e k (gap_steps B feed state w has s at)
