-- Each state of the underline of a setext heading takes one step of its rule.
use Rattle.std.proofs.Common.{◌≡◌, ℕ, Bool, true, false, nat_eq, List, [], ◌∷◌, ◌++◌, Option, Some, None, refl}
use Rattle.std.proofs.Common.{sym, ◌∙◌, ap, arith}
use Rattle.std.proofs.lemmas.Bool.{eqb-true}
use Rattle.md_engine.specs.declared.state.State.{State}
use Rattle.md_engine.specs.declared.configuration.ParseOptions.{ParseOptions}
use Rattle.md_engine.specs.declared.event.Name.TheVariants.{HeadingSetextUnderline, HeadingSetextUnderlineSequence}
use Rattle.md_engine.specs.declared.event.Name.TheVariants.{SpaceOrTab}
use Rattle.md_engine.specs.declared.state.Name.TheVariants as n
use Rattle.md_engine.specs.declared.state.heading_setext.State.{State as SetextState}
use Rattle.md_engine.specs.declared.state.heading_setext.State.TheVariants as its
use Rattle.md_engine.specs.declared.state.State.TheVariants.{Nok, Next, Retry}
use Rattle.md_engine.specs.declared.tokenizer.Frame.{Frame}
use Rattle.md_engine.specs.declared.tokenizer.held_leaf.HeldLeaf.TheVariants as held_leaf
use Rattle.md_engine.specs.Meaning.{Accepts, Behaviour, Cell, Feed, Here, Refuses, Steps, here}
use Rattle.md_engine.specs.Scheme.{After, position}
use Rattle.md_engine.specs.World.{World, after}
use Rattle.md_engine.specs.Sees.{Sees, ahead, cell_here}
use Rattle.md_engine.proofs.StepOf.{steps-as, begins, moves, passes}
use Rattle.md_leaves.specs.HeadingSetext.{SetextInvariant, after_code, before_code, inside_code, is_marker}
use Rattle.md_leaves.specs.HeadingSetext.{setext_ready, setext_transition, without_marker}
use Rattle.md_leaves.specs.HeadingSetextRule.{SetextMeans, HasSetext, before_run, after_run, in_run}
use Rattle.md_leaves.proofs.BreakTermination.{marked-calm, rest-marker}
use Rattle.md_leaves.proofs.LeafStart.{start-steps_here}
use Rattle.md_leaves.proofs.LeafSteps.{following-joined, sees-one, sees-other_white, white-run, white_frame}
use Rattle.md_leaves.proofs.SetextLemmas.{before-mark, before-none, before-other, after_sequence, in_run-ends}
use Rattle.md_leaves.proofs.SetextLemmas.{in_run-mark, in_run-none, in_run-white, in_white, marker-no_ending}
use Rattle.md_leaves.proofs.SetextLemmas.{marker-no_white, takes-white}
use Rattle.md_events.specs.Ahead.{white_rest}
use Rattle.md_events.specs.Events.Nested.{enter, exit}
use Rattle.md_events.specs.Look.{first_seen}
use Rattle.md_events.specs.Spaces.{IsRest, any_size, ends_line, is_current, sees_white}
use Rattle.md_events.proofs.LookLemmas.{first-seen}
use Rattle.md_events.proofs.WhiteMeaning.{begins-seen, white-tried}

-- After the indent.

-- the state there
before_means : (B : Behaviour) (options : ParseOptions) (feed : Feed) (w : World) → HasSetext B options → Sees feed w →
    IsRest w.scratch →
    Steps B feed (Next (n.HeadingSetext its.Before)) w (before_code w w.current).to (before_code w w.current).world
before_means B options feed w has s r = go w.current s.next
  where
    refused : before_run (feed w.point) (here w) ≡ Refuses w.scratch w.flags →
        Steps B feed (Next (n.HeadingSetext its.Before)) w Nok w
    refused e = passes B feed _ Nok w w refl refl (has.each its.Before _ _ ∙ e)

    go : (o : Option ℕ) → feed w.point ≡ ahead feed w o →
        Steps B feed (Next (n.HeadingSetext its.Before)) w (before_code w o).to (before_code w o).world
    go None e = refused (ap (λ (x : List Cell). before_run x (here w)) e ∙ before-none (here w))
    go (Some b) e = by (is_marker b) refl
      where
        by : (x : Bool) → is_marker b ≡ x →
            Steps B feed (Next (n.HeadingSetext its.Before)) w (before_code w (Some b)).to
            (before_code w (Some b)).world
        by true k =
            let c = cell_here feed w b in
            let cs = feed (after w.setting w.point) in
            let new : World = record w {
              events = w.events ++ enter HeadingSetextUnderlineSequence w.point ∷ [];
              scratch = record w.scratch { marker = b };
            } in
            rw k (moves B feed _ (Retry (n.HeadingSetext its.Inside)) w new
            (enter HeadingSetextUnderlineSequence w.point ∷ []) refl refl
            (has.each its.Before _ _ ∙ ap (λ (x : List Cell). before_run x (here w)) e
            ∙ before-mark c cs (here w) k (rest-marker w.scratch r)
            ∙ ap (λ (x : List Cell). in_run x (here new)) (sym e)
            ∙ sym (has.each its.Inside _ _)))
        by false k =
            rw k
            (refused
            (ap (λ (x : List Cell). before_run x (here w)) e
            ∙ before-other (cell_here feed w b) (feed (after w.setting w.point)) (here w) k))

-- In the run.

-- neither the marker nor whitespace is here
run-stops : (feed : Feed) (w : World) (h : Here) (o : Option ℕ) → is_current h.scratch.marker o ≡ false →
    sees_white o ≡ false → in_run (ahead feed w o) h ≡ after_run (ahead feed w o) (after_sequence h)
run-stops feed w h None e f = in_run-none h
run-stops feed w h (Some b) e f = in_run-ends (cell_here feed w b) (feed (after w.setting w.point)) h f e

-- the state there
inside_means : (B : Behaviour) (options : ParseOptions) (feed : Feed) (w : World) (x y : Bool) → HasSetext B options →
    Sees feed w → IsRest (without_marker w.scratch) → is_marker w.scratch.marker ≡ true →
    is_current w.scratch.marker w.current ≡ x → sees_white w.current ≡ y →
    Steps B feed (Next (n.HeadingSetext its.Inside)) w (inside_code w x y).to (inside_code w x y).world
inside_means B options feed w true y has s r mark e f =
    let saw = sees-one feed w (is_current w.scratch.marker) refl s e in
    let ending : nat_eq saw.0 10 ≡
    false = rw (eqb-true saw.0 w.scratch.marker saw.2) (marker-no_ending w.scratch.marker mark) in
    passes B feed _ _ w (inside_code w true y).world refl refl
    (has.each its.Inside _ _ ∙ ap (λ (x : List Cell). in_run x (here w)) saw.1
    ∙ in_run-mark (cell_here feed w saw.0) (feed (after w.setting w.point)) (here w) saw.2 ending
    ∙ sym (has.each its.Inside _ _))
inside_means B options feed w false true has s r mark e f =
    let saw = sees-other_white feed w w.scratch.marker s e f in
    let m = w.scratch.marker in
    let h : Here = after_sequence (here w) in
    let begun : Here = record h { events = h.events ++ enter SpaceOrTab h.point ∷ [] } in
    let frame : Frame = white_frame (Next (n.HeadingSetext its.After)) w h.events in
    begins B feed _ _ w (inside_code w false true).world
    (exit HeadingSetextUnderlineSequence w.point ∷ []) frame refl refl
    (has.each its.Inside _ _ ∙ ap (λ (x : List Cell). in_run x (here w)) saw.1
    ∙ in_run-white (cell_here feed w saw.0) (feed (after w.setting w.point)) (here w) saw.3 saw.2
    ∙ ap (λ (x : List Cell). in_white m x begun) (sym saw.1)
    ∙ white-run _ (in_white m) after_run any_size (feed w.point) begun (takes-white m (marker-no_white m mark)) tt
    (omega (arith, s.short))
    ∙ ap (after_run (white_rest any_size (feed w.point)))
    (following-joined any_size (feed w.point) h (marked-calm (without_marker w.scratch) r))
    ∙ sym (has.each its.After _ _)
    ∙ white-tried B feed frame h.events (feed w.point) h 0 any_size has.white (begins-seen feed w s ∙ f) (omega arith)
    (omega arith) refl)
inside_means B options feed w false false has s r mark e f =
    moves B feed _ _ w (inside_code w false false).world (exit HeadingSetextUnderlineSequence w.point ∷ []) refl refl
    (has.each its.Inside _ _ ∙ ap (λ (x : List Cell). in_run x (here w)) s.next
    ∙ run-stops feed w (here w) w.current e f
    ∙ ap (λ (x : List Cell). after_run x (after_sequence (here w))) (sym s.next) ∙ sym (has.each its.After _ _))

-- After the run and whitespace.

-- where the line ends
following-ends : (cells : List Cell) (h : Here) → ends_line (first_seen cells) ≡ true →
    after_run cells h ≡
    Accepts
    (record h {
      events = h.events ++ exit HeadingSetextUnderline h.point ∷ [];
      flags = record h.flags { leaf = held_leaf.None };
    })
    cells
unfolding after_run
following-ends cells h e = rw e refl

-- and where it continues
following-other : (cells : List Cell) (h : Here) → ends_line (first_seen cells) ≡ false →
    after_run cells h ≡ Refuses h.scratch h.flags
unfolding after_run
following-other cells h e = rw e refl

-- the state there
after_means : (B : Behaviour) (options : ParseOptions) (feed : Feed) (w : World) (x : Bool) → HasSetext B options →
    Sees feed w → ends_line w.current ≡ x →
    Steps B feed (Next (n.HeadingSetext its.After)) w (after_code w x).to (after_code w x).world
after_means B options feed w true has s e =
    moves B feed _ _ w (after_code w true).world (exit HeadingSetextUnderline w.point ∷ []) refl refl
    (has.each its.After _ _ ∙ following-ends (feed w.point) (here w) (ap ends_line (first-seen feed w s) ∙ e))
after_means B options feed w false has s e =
    passes B feed _ _ w w refl refl
    (has.each its.After _ _ ∙ following-other (feed w.point) (here w) (ap ends_line (first-seen feed w s) ∙ e))

-- each state of an underline takes one step of its rule
setext_steps : (B : Behaviour) (feed : Feed) (state : SetextState) (w : World) → HasSetext B w.setting.options →
    Sees feed w → SetextInvariant (n.HeadingSetext state) (position w) →
    Steps B feed (Next (n.HeadingSetext state)) w (setext_transition state w).to (setext_transition state w).world
setext_steps B feed its.Start w has s at =
    start-steps_here B feed HeadingSetextUnderline _ before_run _ _ w _ _ has.white (has.each its.Start _ _)
    (has.each its.Before) s refl refl
setext_steps B feed its.Before w has s at = before_means B _ feed w has s at
setext_steps B feed its.Inside w has s at = inside_means B _ feed w _ _ has s at.rest at.marker refl refl
setext_steps B feed its.After w has s at = after_means B _ feed w _ has s refl

-- and so where its attempts end as they have to
pub setext_means : (B : Behaviour) (feed : Feed) (state : SetextState) (w : World) (K : After) →
    HasSetext B w.setting.options → Sees feed w → setext_ready (n.HeadingSetext state) (position w) K →
    Steps B feed (Next (n.HeadingSetext state)) w (setext_transition state w).to (setext_transition state w).world
setext_means B feed state w K has s at = setext_steps B feed state w has s at.0

-- what answers as the transition of a state does means what the state means
pub setext_rule : (state : SetextState) (w new : World) (to : State) → to ≡ (setext_transition state w).to →
    new ≡ (setext_transition state w).world → SetextMeans state w to new
unfolding SetextMeans
setext_rule state w new to e k at B feed has s =
    steps-as B feed _ _ to w _ new e k (setext_steps B feed state w has s at)
