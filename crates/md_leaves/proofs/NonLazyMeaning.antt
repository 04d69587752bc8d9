-- Each state of the check that a further line is not lazy takes one step of its rule.
use Rattle.std.proofs.Common.{◌≡◌, ℕ, Bool, true, false, List, [], ◌∷◌, ◌++◌, Option, Some, None, refl, sym, ◌∙◌, ap}
use Rattle.std.proofs.Common.{append_assoc}
use Rattle.md_engine.specs.declared.state.State.{State}
use Rattle.md_engine.specs.declared.event.Event.{Event}
use Rattle.md_engine.specs.declared.event.Name.TheVariants.{LineEnding}
use Rattle.md_engine.specs.declared.state.Name.TheVariants as n
use Rattle.md_engine.specs.declared.state.non_lazy_continuation.State.{State as NonLazyState}
use Rattle.md_engine.specs.declared.state.non_lazy_continuation.State.TheVariants as its
use Rattle.md_engine.specs.declared.state.State.TheVariants.{Next}
use Rattle.md_engine.specs.declared.tokenizer.Line.{Line}
use Rattle.md_engine.specs.Meaning.{Accepts, Behaviour, Cell, Feed, Here, Refuses, Steps, here, line_of}
use Rattle.md_engine.specs.World.{World, after}
use Rattle.md_engine.specs.Sees.{Sees, ahead}
use Rattle.md_engine.proofs.StepOf.{steps-as, moves, passes}
use Rattle.md_leaves.specs.NonLazy.{after_code, non_lazy_transition, start_code}
use Rattle.md_leaves.specs.NonLazyRule.{NonLazyMeans, HasNonLazy, after_ending, continuation_at, is_lazy}
use Rattle.md_events.specs.Events.Nested.{enter, exit, pair}
use Rattle.md_events.specs.Spaces.{is_current}

-- The start.

ending-taken : (feed : Feed) (w : World) (none : Line) (h : Here) (o : Option ℕ) → is_current 10 o ≡ true →
    continuation_at none (ahead feed w o) h ≡
    after_ending none (feed (after w.setting w.point))
    (record h {
      events = h.events ++ pair LineEnding h.point (after w.setting w.point);
      point = after w.setting w.point;
    })
unfolding continuation_at after_ending
ending-taken feed w none h None e = cc
ending-taken feed w none h (Some b) e = go (is_lazy none (feed (after w.setting w.point))) refl
  where
    go : (x : Bool) → is_lazy none (feed (after w.setting w.point)) ≡ x →
        continuation_at none (ahead feed w (Some b)) h ≡
        after_ending none (feed (after w.setting w.point))
        (record h {
          events = h.events ++ pair LineEnding h.point (after w.setting w.point);
          point = after w.setting w.point;
        })
    go true k = rw (e, k) refl
    go false k = rw (e, k) refl

ending-none : (feed : Feed) (w : World) (none : Line) (h : Here) (o : Option ℕ) → is_current 10 o ≡ false →
    continuation_at none (ahead feed w o) h ≡ Refuses h.scratch h.flags
unfolding continuation_at
ending-none feed w none h None e = refl
ending-none feed w none h (Some b) e = rw e refl

pub non_lazy_start_means : (B : Behaviour) (none : Line) (feed : Feed) (w : World) (x : Bool) → HasNonLazy B none →
    Sees feed w → is_current 10 w.current ≡ x →
    Steps B feed (Next (n.NonLazyContinuation its.Start)) w (start_code w x).to (start_code w x).world
non_lazy_start_means B none feed w true has s e =
    let q = after w.setting w.point in
    let joined = append_assoc w.events (enter LineEnding w.point ∷ []) (exit LineEnding q ∷ []) in
    moves B feed _ _ w (start_code w true).world (pair LineEnding w.point q) refl joined
    (has.each its.Start _ _ ∙ ap (λ (x : List Cell). continuation_at none x (here w)) s.next ∙ ending-taken feed w none
    (here w) w.current e
    ∙ ap (λ (es : List Event). after_ending none (feed q) (record (here w) { events = es; point = q })) (sym joined)
    ∙ sym (has.each its.After _ _))
non_lazy_start_means B none feed w false has s e =
    passes B feed _ _ w w refl refl
    (has.each its.Start _ _ ∙ ap (λ (x : List Cell). continuation_at none x (here w)) s.next
    ∙ ending-none feed w none (here w) w.current e)

-- After the ending.

following-lazy : (none : Line) (cells : List Cell) (h : Here) → is_lazy none cells ≡ true →
    after_ending none cells h ≡ Refuses h.scratch h.flags
unfolding after_ending
following-lazy none cells h e = rw e refl

following-other : (none : Line) (cells : List Cell) (h : Here) → is_lazy none cells ≡ false →
    after_ending none cells h ≡ Accepts h cells
unfolding after_ending
following-other none cells h e = rw e refl

pub non_lazy_after_means : (B : Behaviour) (none : Line) (feed : Feed) (w : World) (x : Bool) → HasNonLazy B none →
    line_of none (feed w.point) ≡ w.setting.line → w.setting.line.lazy ≡ x →
    Steps B feed (Next (n.NonLazyContinuation its.After)) w (after_code w x).to (after_code w x).world
non_lazy_after_means B none feed w true has said e =
    passes B feed _ _ w w refl refl
    (has.each its.After _ _ ∙ following-lazy none (feed w.point) (here w) (ap (λ (l : Line). l.lazy) said ∙ e))
non_lazy_after_means B none feed w false has said e =
    passes B feed _ _ w w refl refl
    (has.each its.After _ _ ∙ following-other none (feed w.point) (here w) (ap (λ (l : Line). l.lazy) said ∙ e))

-- each state of the check takes one step of what it means, where the next line is the one that the parent speaks of
pub non_lazy_means : (B : Behaviour) (none : Line) (feed : Feed) (state : NonLazyState) (w : World) →
    HasNonLazy B none → Sees feed w → line_of none (feed w.point) ≡ w.setting.line →
    Steps B feed (Next (n.NonLazyContinuation state)) w (non_lazy_transition state w).to
    (non_lazy_transition state w).world
non_lazy_means B none feed its.Start w has s said = non_lazy_start_means B none feed w _ has s refl
non_lazy_means B none feed its.After w has s said = non_lazy_after_means B none feed w _ has said refl

-- what answers as the transition of a state does means what the state means
pub non_lazy_rule : (state : NonLazyState) (w new : World) (to : State) → to ≡ (non_lazy_transition state w).to →
    new ≡ (non_lazy_transition state w).world → NonLazyMeans state w to new
unfolding NonLazyMeans
non_lazy_rule state w new to e k none B feed has s said =
    steps-as B feed _ _ to w _ new e k (non_lazy_means B none feed state w has s said)
