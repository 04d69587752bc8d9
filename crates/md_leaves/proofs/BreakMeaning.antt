-- Each state of a thematic break takes one step of its rule.
use Rattle.std.proofs.Common.{◌≡◌, ℕ, Bool, true, false, ◌&&◌, nat_eq, List, [], ◌∷◌, ◌++◌, Option, Some, None, refl}
use Rattle.std.proofs.Common.{sym, ◌∙◌, ap, arith, append-nil, add-zero}
use Rattle.std.specs.Prelude.{◌==◌, nat_le}
use Rattle.std.proofs.lemmas.Bool.{eqb-true}
use Rattle.md_engine.specs.declared.configuration.ParseOptions.{ParseOptions}
use Rattle.md_engine.specs.declared.event.Name.TheVariants.{SpaceOrTab, ThematicBreak}
use Rattle.md_engine.specs.declared.event.Name.TheVariants as parts
use Rattle.md_engine.specs.declared.state.Name.TheVariants as n
use Rattle.md_engine.specs.declared.state.thematic_break.State.{State as BreakState}
use Rattle.md_engine.specs.declared.state.thematic_break.State.TheVariants as its
use Rattle.md_engine.specs.declared.state.State.{State}
use Rattle.md_engine.specs.declared.state.State.TheVariants.{Nok, Next, Retry}
use Rattle.md_engine.specs.declared.tokenizer.Frame.{Frame}
use Rattle.md_engine.specs.declared.tokenizer.Scratch.{Scratch}
use Rattle.md_engine.specs.Meaning.{Accepts, Behaviour, Cell, Feed, Here, Refuses, Steps, here}
use Rattle.md_engine.specs.Scheme.{After, position}
use Rattle.md_engine.specs.World.{World, after}
use Rattle.md_engine.specs.Sees.{Sees, ahead, cell_here}
use Rattle.md_engine.proofs.StepOf.{begins, moves, passes, steps-as}
use Rattle.md_leaves.specs.Break.{BreakInvariant, at_break_code, before_code, before_transition, break_ready}
use Rattle.md_leaves.specs.Break.{break_transition, is_marker, marked_code, one_run_after_code}
use Rattle.md_leaves.specs.Break.{one_run_code, sequence_code, without_marker}
use Rattle.md_leaves.specs.BreakRule.{Apart, BreakMeans, HasBreak, Marks, White, at_break}
use Rattle.md_leaves.specs.BreakRule.{before_marker, after_one_run, in_break, in_one_run}
use Rattle.md_leaves.specs.HeadingSetext.{turns_nothing}
use Rattle.md_leaves.specs.HeadingSetextRule.{is_underline}
use Rattle.md_leaves.proofs.BreakLemmas.{apart-mark, before-mark, before-other, in_break-mark, in_break-other}
use Rattle.md_leaves.proofs.BreakLemmas.{marker-no_ending, marker-no_white, marks-at_none, marks-end, marks-none}
use Rattle.md_leaves.proofs.BreakLemmas.{marks-white, takes-white}
use Rattle.md_leaves.proofs.BreakOneRun.{following-by, in_one_white, no-underline, one-mark, one_run-end, one_run-mark}
use Rattle.md_leaves.proofs.BreakOneRun.{one_run-none, one_run-white, takes-one_white}
use Rattle.md_leaves.proofs.BreakTermination.{marked-calm, rest-marker}
use Rattle.md_leaves.proofs.LeafStart.{HasStart, start-steps}
use Rattle.md_leaves.proofs.LeafSteps.{sees-one, sees-other_white, white_frame, following-joined, white-run}
use Rattle.md_events.specs.Ahead.{line_bytes, white_rest}
use Rattle.md_events.specs.Events.Nested.{enter, exit}
use Rattle.md_meaning.specs.Rest.{is_white}
use Rattle.md_events.specs.Spaces.{IsRest, any_size, ends_line, is_current, sees_white}
use Rattle.md_events.proofs.LookLemmas.{first-seen}
use Rattle.md_events.proofs.WhiteMeaning.{begins-seen, white-tried}

abbrev after_marks : Here → Here
after_marks h = record h { events = h.events ++ exit parts.ThematicBreakSequence h.point ∷ [] }

-- neither a marker nor whitespace is here
marks-stop : (feed : Feed) (w : World) (h : Here) (o : Option ℕ) → is_current h.scratch.marker o ≡ false →
    sees_white o ≡ false → in_break Marks (ahead feed w o) h ≡ at_break (ahead feed w o) (after_marks h)
unfolding at_break
marks-stop feed w h None e f = marks-at_none h
marks-stop feed w h (Some b) e f = marks-end (cell_here feed w b) (feed (after w.setting w.point)) h f e ∙ rw f refl

to-white : (cells : List Cell) (c : Cell) (cs : List Cell) (h : Here) → cells ≡ c ∷ cs → is_white c.byte ≡ true →
    nat_eq c.byte h.scratch.marker ≡ false →
    in_break Marks cells h ≡
    in_break White cells
    (record h { events = h.events ++ exit parts.ThematicBreakSequence h.point ∷ [] ++ enter SpaceOrTab h.point ∷ [] })
to-white cells c cs h e s k = ap (λ (x : List Cell). in_break Marks x h) e ∙ marks-white c cs h s k
    ∙ ap
    (λ (x : List Cell).
    in_break White x
    (record h { events = h.events ++ exit parts.ThematicBreakSequence h.point ∷ [] ++ enter SpaceOrTab h.point ∷ [] }))
    (sym e)

sequence_means : (B : Behaviour) (options : ParseOptions) (feed : Feed) (w : World) (x y : Bool) → HasBreak B options →
    Sees feed w → IsRest (without_marker w.scratch) → is_marker w.scratch.marker ≡ true →
    is_current w.scratch.marker w.current ≡ x → sees_white w.current ≡ y →
    Steps B feed (Next (n.ThematicBreak its.Sequence)) w (sequence_code w x y).to (sequence_code w x y).world
sequence_means B options feed w true y has s r mark e f =
    let saw = sees-one feed w (is_current w.scratch.marker) refl s e in
    let ending : nat_eq saw.0 10 ≡
    false = rw (eqb-true saw.0 w.scratch.marker saw.2) (marker-no_ending w.scratch.marker mark) in
    passes B feed _ _ w (sequence_code w true y).world refl refl
    (has.each its.Sequence _ _ ∙ ap (λ (x : List Cell). in_break Marks x (here w)) saw.1
    ∙ in_break-mark (cell_here feed w saw.0) (feed (after w.setting w.point)) (here w) saw.2 ending
    ∙ sym (has.each its.Sequence _ _))
sequence_means B options feed w false true has s r mark e f =
    let saw = sees-other_white feed w w.scratch.marker s e f in
    let h : Here = after_marks (here w) in
    let frame : Frame = white_frame (Next (n.ThematicBreak its.AtBreak)) w h.events in
    begins B feed _ _ w (sequence_code w false true).world
    (exit parts.ThematicBreakSequence w.point ∷ []) frame refl refl
    (has.each its.Sequence _ _
    ∙ to-white (feed w.point) (cell_here feed w saw.0) (feed (after w.setting w.point)) (here w) saw.1 saw.3 saw.2
    ∙ white-run _ (in_break White) at_break any_size (feed w.point)
    (record h { events = h.events ++ enter SpaceOrTab h.point ∷ [] }) takes-white
    (marker-no_white w.scratch.marker mark) (omega (arith, s.short))
    ∙ ap (at_break (white_rest any_size (feed w.point)))
    (following-joined any_size (feed w.point) h (marked-calm w.scratch r))
    ∙ sym (has.each its.AtBreak _ _)
    ∙ white-tried B feed frame h.events (feed w.point) h 0 any_size has.white (begins-seen feed w s ∙ f) (omega arith)
    (omega arith) refl)
sequence_means B options feed w false false has s r mark e f =
    moves B feed _ _ w (sequence_code w false false).world (exit parts.ThematicBreakSequence w.point ∷ []) refl refl
    (has.each its.Sequence _ _ ∙ ap (λ (x : List Cell). in_break Marks x (here w)) s.next
    ∙ marks-stop feed w (here w) w.current e f ∙ ap (λ (x : List Cell). at_break x (after_marks (here w))) (sym s.next)
    ∙ sym (has.each its.AtBreak _ _))

-- no whitespace is before a marker
at_break-mark : (c : Cell) (cs : List Cell) (h : Here) → nat_eq c.byte h.scratch.marker ≡ true →
    is_marker h.scratch.marker ≡ true →
    at_break (c ∷ cs) h ≡
    in_break Marks (c ∷ cs) (record h { events = h.events ++ enter parts.ThematicBreakSequence h.point ∷ [] })
unfolding at_break
at_break-mark c cs h is mark =
    let white : is_white c.byte ≡
    false = rw (eqb-true c.byte h.scratch.marker is) (marker-no_white h.scratch.marker mark) in
    let ending : nat_eq c.byte 10 ≡
    false = rw (eqb-true c.byte h.scratch.marker is) (marker-no_ending h.scratch.marker mark) in
    rw white (apart-mark c cs h is ending)

at_break-end : (feed : Feed) (w : World) (h : Here) (o : Option ℕ) → ends_line o && nat_le 3 h.scratch.size ≡ true →
    at_break (ahead feed w o) h ≡
    Accepts
    (record h {
      events = h.events ++ exit ThematicBreak h.point ∷ [];
      scratch = without_marker h.scratch;
    })
    (ahead feed w o)
unfolding at_break in_break
at_break-end feed w h None e = rw (marks-none, add-zero, e, append-nil) refl
at_break-end feed w h (Some b) e = go (nat_eq b 10) refl e
  where
    go : (x : Bool) → nat_eq b 10 ≡ x → x && nat_le 3 h.scratch.size ≡ true →
        at_break (ahead feed w (Some b)) h ≡
        Accepts
        (record h {
          events = h.events ++ exit ThematicBreak h.point ∷ [];
          scratch = without_marker h.scratch;
        })
        (ahead feed w (Some b))
    go true is e = let ten : b ≡ 10 = eqb-true b 10 is in rw (ten, marks-none, add-zero, e, append-nil) refl
    go false is e = cc

at_break-no : (feed : Feed) (w : World) (h : Here) (o : Option ℕ) → is_current h.scratch.marker o ≡ false →
    ends_line o && nat_le 3 h.scratch.size ≡ false →
    at_break (ahead feed w o) h ≡ Refuses (without_marker h.scratch) h.flags
unfolding at_break in_break
at_break-no feed w h None k e = rw (marks-none, add-zero, e) refl
at_break-no feed w h (Some b) k e = go (is_white b) (nat_eq b 10) refl refl e
  where
    go : (x y : Bool) → is_white b ≡ x → nat_eq b 10 ≡ y → y && nat_le 3 h.scratch.size ≡ false →
        at_break (ahead feed w (Some b)) h ≡ Refuses (without_marker h.scratch) h.flags
    go true y s t e = rw s refl
    go false true s t e = let ten : b ≡ 10 = eqb-true b 10 t in rw (ten, marks-none, add-zero, e) refl
    go false false s t e = rw s (in_break-other Apart (cell_here feed w b) (feed (after w.setting w.point)) h k s t)

at_break_means : (B : Behaviour) (options : ParseOptions) (feed : Feed) (w : World) (x y : Bool) → HasBreak B options →
    Sees feed w → is_marker w.scratch.marker ≡ true →
    is_current w.scratch.marker w.current ≡ x → ends_line w.current && nat_le 3 w.scratch.size ≡ y →
    Steps B feed (Next (n.ThematicBreak its.AtBreak)) w (at_break_code w x y).to (at_break_code w x y).world
at_break_means B options feed w true y has s mark e f =
    let saw = sees-one feed w (is_current w.scratch.marker) refl s e in
    moves B feed _ _ w (at_break_code w true y).world (enter parts.ThematicBreakSequence w.point ∷ []) refl refl
    (has.each its.AtBreak _ _ ∙ ap (λ (x : List Cell). at_break x (here w)) saw.1
    ∙ at_break-mark (cell_here feed w saw.0) (feed (after w.setting w.point)) (here w) saw.2 mark
    ∙ ap
    (λ (x : List Cell).
    in_break Marks x (record (here w) { events = w.events ++ enter parts.ThematicBreakSequence w.point ∷ [] }))
    (sym saw.1)
    ∙ sym (has.each its.Sequence _ _))
at_break_means B options feed w false true has s mark e f =
    moves B feed _ _ w (at_break_code w false true).world (exit ThematicBreak w.point ∷ []) refl refl
    (has.each its.AtBreak _ _ ∙ rw s.next (at_break-end feed w (here w) w.current f))
at_break_means B options feed w false false has s mark e f =
    passes B feed _ _ w (at_break_code w false false).world refl refl
    (has.each its.AtBreak _ _ ∙ rw s.next (at_break-no feed w (here w) w.current e f))

before-none : (options : ParseOptions) (h : Here) →
    before_marker options [] h ≡ Refuses (without_marker h.scratch) h.flags
unfolding before_marker
before-none options h = refl

-- between two runs, where the marker is
at_break-apart : (c : Cell) (cs : List Cell) (h : Here) → is_marker c.byte ≡ true →
    in_break Apart (c ∷ cs) h ≡ at_break (c ∷ cs) h
unfolding at_break
at_break-apart c cs h mark = rw (marker-no_white c.byte mark) refl

-- at a marker, by whether it is a hyphen, and whether an underline has nothing to turn
marked_means : (B : Behaviour) (feed : Feed) (w : World) (b : ℕ) (y x : Bool) → HasBreak B w.setting.options →
    IsRest w.scratch → feed w.point ≡ ahead feed w (Some b) → is_marker b ≡ true → (b == 45) ≡ y →
    turns_nothing w.setting.options w.flags.leaf ≡ x →
    Steps B feed (Next (n.ThematicBreak its.Before)) w (marked_code w b (y && x)).to (marked_code w b (y && x)).world
marked_means B feed w b y x has r e k is turns = go y x is turns
  where
    options : ParseOptions
    options = w.setting.options

    c : Cell
    c = cell_here feed w b

    cs : List Cell
    cs = feed (after w.setting w.point)

    size : w.scratch.size ≡ 0
    size = ap (λ (t : Scratch). t.size) r

    one : (b == 45) ≡ true → turns_nothing w.setting.options w.flags.leaf ≡ true →
        Steps B feed (Next (n.ThematicBreak its.Before)) w (marked_code w b true).to (marked_code w b true).world
    one is turns =
        let new : World = record w {
          events = w.events ++ enter parts.ThematicBreakSequence w.point ∷ [];
          scratch = record w.scratch { marker = b };
        } in
        moves B feed _ (Retry (n.ThematicBreak its.OneRun)) w new (enter parts.ThematicBreakSequence w.point ∷ [])
        refl refl
        (has.each its.Before _ _ ∙ ap (λ (x : List Cell). before_marker options x (here w)) e
        ∙ one-mark options c cs (here w) k is size turns
        ∙ ap (λ (x : List Cell). in_one_run x (here new)) (sym e)
        ∙ sym (has.each its.OneRun _ _))

    apart : turns_nothing w.setting.options w.flags.leaf && is_underline (line_bytes (c ∷ cs)) ≡ false →
        Steps B feed (Next (n.ThematicBreak its.Before)) w (marked_code w b false).to (marked_code w b false).world
    apart none =
        let h : Here = record (here w) { scratch = record w.scratch { marker = b } } in
        passes B feed _ (Retry (n.ThematicBreak its.AtBreak)) w
        (record w { scratch = record w.scratch { marker = b } }) refl refl
        (has.each its.Before _ _ ∙ ap (λ (x : List Cell). before_marker options x (here w)) e
        ∙ before-mark options c cs (here w) k size none
        ∙ at_break-apart c cs h k ∙ ap (λ (x : List Cell). at_break x h) (sym e) ∙ sym (has.each its.AtBreak _ _))

    go : (y x : Bool) → (b == 45) ≡ y → turns_nothing w.setting.options w.flags.leaf ≡ x →
        Steps B feed (Next (n.ThematicBreak its.Before)) w (marked_code w b (y && x)).to
        (marked_code w b (y && x)).world
    go true true is turns = one is turns
    go true false is turns = apart (no-underline options c cs (here w) true false k is turns refl)
    go false x is turns = apart (no-underline options c cs (here w) false x k is turns refl)

before_means : (B : Behaviour) (feed : Feed) (w : World) → HasBreak B w.setting.options → Sees feed w →
    IsRest w.scratch →
    Steps B feed (Next (n.ThematicBreak its.Before)) w (before_transition w).to (before_transition w).world
before_means B feed w has s r = go w.current s.next
  where
    nothing : Bool
    nothing = turns_nothing w.setting.options w.flags.leaf

    refused : before_marker w.setting.options (feed w.point) (here w) ≡ Refuses (without_marker w.scratch) w.flags →
        Steps B feed (Next (n.ThematicBreak its.Before)) w Nok w
    refused e =
        passes B feed _ Nok w w refl refl
        (has.each its.Before _ _ ∙ e ∙ ap (λ (x : Scratch). Refuses x w.flags) (rest-marker w.scratch r))

    go : (o : Option ℕ) → feed w.point ≡ ahead feed w o →
        Steps B feed (Next (n.ThematicBreak its.Before)) w (before_code w nothing o).to
        (before_code w nothing o).world
    go None e =
        refused
        (ap (λ (x : List Cell). before_marker w.setting.options x (here w)) e
        ∙ before-none w.setting.options (here w))
    go (Some b) e = by (is_marker b) refl
      where
        by : (x : Bool) → is_marker b ≡ x →
            Steps B feed (Next (n.ThematicBreak its.Before)) w (before_code w nothing (Some b)).to
            (before_code w nothing (Some b)).world
        by true k = rw k (marked_means B feed w b (b == 45) nothing has r e k refl refl)
        by false k =
            rw k
            (refused
            (ap (λ (x : List Cell). before_marker w.setting.options x (here w)) e
            ∙ before-other w.setting.options (cell_here feed w b) (feed (after w.setting w.point)) (here w) k))

-- The first run, where it may be all of the line.

-- neither a marker nor whitespace is here
run-stops : (feed : Feed) (w : World) (h : Here) (o : Option ℕ) → is_current h.scratch.marker o ≡ false →
    sees_white o ≡ false → in_one_run (ahead feed w o) h ≡ after_one_run (ahead feed w o) (after_marks h)
run-stops feed w h None e f = one_run-none h
run-stops feed w h (Some b) e f = one_run-end (cell_here feed w b) (feed (after w.setting w.point)) h f e

-- whitespace does
to-one_white : (cells : List Cell) (c : Cell) (cs : List Cell) (h : Here) → cells ≡ c ∷ cs → is_white c.byte ≡ true →
    nat_eq c.byte h.scratch.marker ≡ false →
    in_one_run cells h ≡
    in_one_white cells
    (record h { events = h.events ++ exit parts.ThematicBreakSequence h.point ∷ [] ++ enter SpaceOrTab h.point ∷ [] })
to-one_white cells c cs h e s k = ap (λ (x : List Cell). in_one_run x h) e ∙ one_run-white c cs h s k
    ∙ ap
    (λ (x : List Cell).
    in_one_white x
    (record h { events = h.events ++ exit parts.ThematicBreakSequence h.point ∷ [] ++ enter SpaceOrTab h.point ∷ [] }))
    (sym e)

one_run_means : (B : Behaviour) (options : ParseOptions) (feed : Feed) (w : World) (x y : Bool) → HasBreak B options →
    Sees feed w → IsRest (without_marker w.scratch) → is_marker w.scratch.marker ≡ true →
    is_current w.scratch.marker w.current ≡ x → sees_white w.current ≡ y →
    Steps B feed (Next (n.ThematicBreak its.OneRun)) w (one_run_code w x y).to (one_run_code w x y).world
one_run_means B options feed w true y has s r mark e f =
    let saw = sees-one feed w (is_current w.scratch.marker) refl s e in
    let ending : nat_eq saw.0 10 ≡
    false = rw (eqb-true saw.0 w.scratch.marker saw.2) (marker-no_ending w.scratch.marker mark) in
    passes B feed _ _ w (one_run_code w true y).world refl refl
    (has.each its.OneRun _ _ ∙ ap (λ (x : List Cell). in_one_run x (here w)) saw.1
    ∙ one_run-mark (cell_here feed w saw.0) (feed (after w.setting w.point)) (here w) saw.2 ending
    ∙ sym (has.each its.OneRun _ _))
one_run_means B options feed w false true has s r mark e f =
    let saw = sees-other_white feed w w.scratch.marker s e f in
    let h : Here = after_marks (here w) in
    let frame : Frame = white_frame (Next (n.ThematicBreak its.OneRunAfter)) w h.events in
    begins B feed _ _ w (one_run_code w false true).world
    (exit parts.ThematicBreakSequence w.point ∷ []) frame refl refl
    (has.each its.OneRun _ _
    ∙ to-one_white (feed w.point) (cell_here feed w saw.0) (feed (after w.setting w.point)) (here w) saw.1 saw.3 saw.2
    ∙ white-run _ in_one_white after_one_run any_size (feed w.point)
    (record h { events = h.events ++ enter SpaceOrTab h.point ∷ [] }) takes-one_white
    (marker-no_white w.scratch.marker mark) (omega (arith, s.short))
    ∙ ap (after_one_run (white_rest any_size (feed w.point)))
    (following-joined any_size (feed w.point) h (marked-calm w.scratch r))
    ∙ sym (has.each its.OneRunAfter _ _)
    ∙ white-tried B feed frame h.events (feed w.point) h 0 any_size has.white (begins-seen feed w s ∙ f) (omega arith)
    (omega arith) refl)
one_run_means B options feed w false false has s r mark e f =
    moves B feed _ _ w (one_run_code w false false).world (exit parts.ThematicBreakSequence w.point ∷ []) refl refl
    (has.each its.OneRun _ _ ∙ ap (λ (x : List Cell). in_one_run x (here w)) s.next
    ∙ run-stops feed w (here w) w.current e f
    ∙ ap (λ (x : List Cell). after_one_run x (after_marks (here w))) (sym s.next)
    ∙ sym (has.each its.OneRunAfter _ _))

one_run_after_means : (B : Behaviour) (options : ParseOptions) (feed : Feed) (w : World) (x : Bool) →
    HasBreak B options → Sees feed w → ends_line w.current ≡ x →
    Steps B feed (Next (n.ThematicBreak its.OneRunAfter)) w (one_run_after_code w x).to (one_run_after_code w x).world
one_run_after_means B options feed w true has s e =
    passes B feed _ _ w (one_run_after_code w true).world refl refl
    (has.each its.OneRunAfter _ _ ∙ following-by (feed w.point) (here w) true (ap ends_line (first-seen feed w s) ∙ e))
one_run_after_means B options feed w false has s e =
    passes B feed _ _ w w refl refl
    (has.each its.OneRunAfter _ _ ∙ following-by (feed w.point) (here w) false (ap ends_line (first-seen feed w s) ∙ e)
    ∙ sym (has.each its.AtBreak _ _))

has_start : (B : Behaviour) (options : ParseOptions) → HasBreak B options →
    HasStart B options parts.ThematicBreak options.constructs.thematic_break (before_marker options)
    (n.ThematicBreak its.Start) (n.ThematicBreak its.Before)
has_start B options has = record { white = has.white; start_is = has.each its.Start; next_is = has.each its.Before }

-- each state of a break takes one step of its rule
break_steps : (B : Behaviour) (feed : Feed) (state : BreakState) (w : World) → HasBreak B w.setting.options →
    Sees feed w → BreakInvariant (n.ThematicBreak state) (position w) →
    Steps B feed (Next (n.ThematicBreak state)) w (break_transition state w).to (break_transition state w).world
break_steps B feed its.Start w has s at =
    start-steps B feed parts.ThematicBreak _ (before_marker w.setting.options) _ _ w _ _ (has_start B _ has) s refl refl
break_steps B feed its.Before w has s at = before_means B feed w has s at
break_steps B feed its.AtBreak w has s at = at_break_means B _ feed w _ _ has s at.marker refl refl
break_steps B feed its.Sequence w has s at = sequence_means B _ feed w _ _ has s at.rest at.marker refl refl
break_steps B feed its.OneRun w has s at = one_run_means B _ feed w _ _ has s at.rest at.marker refl refl
break_steps B feed its.OneRunAfter w has s at = one_run_after_means B _ feed w _ has s refl

-- and so where its attempts end as they have to
pub break_means : (B : Behaviour) (feed : Feed) (state : BreakState) (w : World) (K : After) →
    HasBreak B w.setting.options → Sees feed w → break_ready (n.ThematicBreak state) (position w) K →
    Steps B feed (Next (n.ThematicBreak state)) w (break_transition state w).to (break_transition state w).world
break_means B feed state w K has s at = break_steps B feed state w has s at.0

-- what answers as the transition of a state does means what the state means
pub break_rule : (state : BreakState) (w new : World) (to : State) → to ≡ (break_transition state w).to →
    new ≡ (break_transition state w).world → BreakMeans state w to new
unfolding BreakMeans
break_rule state w new to e k at B feed has s =
    steps-as B feed _ _ to w _ new e k (break_steps B feed state w has s at)
