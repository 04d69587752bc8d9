-- Each state of a heading takes one step of its rule.
use Rattle.std.proofs.Common.{◌≡◌, ℕ, ◌≤◌, Bool, true, false, cond, ◌&&◌, ◌||◌, nat_eq, nat_lt, List, [], ◌∷◌, ◌++◌}
use Rattle.std.proofs.Common.{Option, Some, None, refl, sym, ◌∙◌, ap, ap₂, arith, append-nil, append_assoc}
use Rattle.std.specs.Prelude.{◌==◌, not}
use Rattle.std.proofs.lemmas.Bool.{eqb-true, and_parts}
use Rattle.std.proofs.lemmas.Bool.Decides.{nat_tests}
use Rattle.md_engine.specs.declared.configuration.ParseOptions.{ParseOptions}
use Rattle.md_engine.specs.declared.event.Name.TheVariants as parts
use Rattle.md_engine.specs.declared.event.Point.{Point}
use Rattle.md_engine.specs.declared.state.Name.TheVariants as n
use Rattle.md_engine.specs.declared.state.heading_atx.State.{State as HeadingState}
use Rattle.md_engine.specs.declared.state.heading_atx.State.TheVariants as its
use Rattle.md_engine.specs.declared.state.State.{State}
use Rattle.md_engine.specs.declared.state.State.TheVariants.{Next}
use Rattle.md_engine.specs.declared.tokenizer.Frame.{Frame}
use Rattle.md_engine.specs.declared.tokenizer.Scratch.{Scratch}
use Rattle.md_engine.specs.Meaning.{Accepts, Behaviour, Cell, Feed, Here, Refuses, Steps, proceeds, here}
use Rattle.md_engine.specs.Place.{first_point}
use Rattle.md_engine.specs.Scheme.{After, position}
use Rattle.md_engine.specs.World.{World, after, looks}
use Rattle.md_engine.specs.Sees.{Sees, ahead, cell_here}
use Rattle.md_engine.proofs.StepOf.{steps-as, begins, moves, passes}
use Rattle.md_leaves.specs.Heading.{HeadingInvariant, at_break_code, before_code, after_part, data_code}
use Rattle.md_leaves.specs.Heading.{heading_ready, heading_transition, sees_text, sequence_further_code}
use Rattle.md_leaves.specs.Heading.{sequence_open_code, text_begun, text_following, text_ended, text_from, without_size}
use Rattle.md_leaves.specs.HeadingRule.{HasHeading, HeadingMeans, before_opening, after_opening, in_opening, in_text}
use Rattle.md_leaves.specs.HeadingRuns.{text_events}
use Rattle.md_leaves.proofs.LeafStart.{HasStart, start-steps}
use Rattle.md_leaves.proofs.LeafSteps.{sees-one, white_frame}
use Rattle.md_leaves.proofs.HeadingLemmas.{before-hash, before-other, after_sequence, break-text, break-white}
use Rattle.md_leaves.proofs.HeadingLemmas.{opening-ends, opening-full, opening-gap, opening-more, opening-no_gap}
use Rattle.md_leaves.proofs.HeadingLemmas.{opening-none, opening-text, opening-white, rest-ended}
use Rattle.md_events.specs.Ahead.{from_ending, line_end}
use Rattle.md_events.specs.Events.Nested.{enter, exit, last_point}
use Rattle.md_events.specs.Lent.{whole_from}
use Rattle.md_meaning.specs.Rest.{is_white}
use Rattle.md_events.specs.Spaces.{IsRest, any_size, ends_line, is_current, sees_white}
use Rattle.md_events.specs.Transition.{Transition, exited}
use Rattle.md_events.specs.WholeLine.{line_taken, whole_line}
use Rattle.md_events.proofs.LineTaken.{bytes-none, taken-more}
use Rattle.md_events.proofs.WhiteMeaning.{begins-seen, white-tried}

not-or : (a b : Bool) → not (a || b) ≡ true → (a ≡ false) × (b ≡ false)
not-or true b e = cc
not-or false true e = cc
not-or false false e = (refl, refl)

or-left : (a b : Bool) → not (a || b) ≡ false → b ≡ false → a ≡ true
or-left true b e k = refl
or-left false true e k = cc
or-left false false e k = cc

-- The start.

has_start : (B : Behaviour) (options : ParseOptions) (bytes : List ℕ) → HasHeading B options bytes →
    HasStart B options parts.HeadingAtx options.constructs.heading_atx before_opening (n.HeadingAtx its.Start)
    (n.HeadingAtx its.Before)
has_start B options bytes has = record {
  white = has.white;
  start_is = has.each its.Start;
  next_is =
      has.each its.Before;
}

-- After the indent.

hash-no_ending : (b : ℕ) → nat_eq b 35 ≡ true → nat_eq b 10 ≡ false
hash-no_ending b e = rw (eqb-true b 35 e) refl

rest-same : (s : Scratch) → IsRest s → without_size s ≡ s
rest-same s r = ap without_size r ∙ sym r

hash-is_continued : (o : Option ℕ) → is_current 35 o ≡ true → ends_line o ≡ false
hash-is_continued None e = cc
hash-is_continued (Some b) e = hash-no_ending b e

other-ahead : (feed : Feed) (w : World) (h : Here) (o : Option ℕ) → is_current 35 o ≡ false →
    before_opening (ahead feed w o) h ≡ Refuses h.scratch h.flags
unfolding before_opening
other-ahead feed w h None e = refl
other-ahead feed w h (Some b) e = before-other (cell_here feed w b) (feed (after w.setting w.point)) h e

heading_before_means : (B : Behaviour) (options : ParseOptions) (bytes : List ℕ) (feed : Feed) (w : World)
    (x : Bool) → HasHeading B options bytes → Sees feed w → IsRest w.scratch → is_current 35 w.current ≡ x →
    Steps B feed (Next (n.HeadingAtx its.Before)) w (before_code w x).to (before_code w x).world
heading_before_means B options bytes feed w true has s r e =
    let saw = sees-one feed w (is_current 35) refl s e in
    let h : Here = record (here w) { events = w.events ++ enter parts.HeadingAtxSequence w.point ∷ [] } in
    moves B feed _ _ w (before_code w true).world (enter parts.HeadingAtxSequence w.point ∷ []) refl refl
    (has.each its.Before _ _ ∙ ap (λ (x : List Cell). before_opening x (here w)) saw.1
    ∙ before-hash (cell_here feed w saw.0) (feed (after w.setting w.point)) (here w) saw.2 (hash-no_ending saw.0 saw.2)
    (ap (λ (t : Scratch). t.size) r) (rest-same w.scratch r)
    ∙ ap (λ (x : List Cell). in_opening x h) (sym saw.1) ∙ sym (has.each its.SequenceOpen _ _))
heading_before_means B options bytes feed w false has s r e =
    passes B feed _ _ w w refl refl (has.each its.Before _ _ ∙ rw s.next (other-ahead feed w (here w) w.current e))

-- After the opening sequence.

-- what is left after it where it ends
following_means : (B : Behaviour) (options : ParseOptions) (bytes : List ℕ) (feed : Feed) (w : World) (x : Bool) →
    HasHeading B options bytes → Sees feed w → IsRest (without_size w.scratch) → sees_white w.current ≡ x →
    proceeds B (Next (n.HeadingAtx its.SequenceOpen)) (feed w.point) (here w) ≡
    after_opening (feed w.point) (after_sequence (here w)) →
    (let left : Transition =
    after_part (record (exited w parts.HeadingAtxSequence) { scratch = without_size w.scratch }) x in
    Steps B feed (Next (n.HeadingAtx its.SequenceOpen)) w left.to left.world)
following_means B options bytes feed w true has s r e same =
    let h : Here = after_sequence (here w) in
    let frame : Frame = white_frame (Next (n.HeadingAtx its.AtBreak)) w h.events in
    begins B feed _ _ w
    (after_part (record (exited w parts.HeadingAtxSequence) { scratch = without_size w.scratch }) true).world
    (exit parts.HeadingAtxSequence w.point ∷ []) frame refl refl
    (same ∙ opening-gap (feed w.point) h (begins-seen feed w s ∙ e) ∙ sym (has.each its.AtBreak _ _)
    ∙ white-tried B feed frame h.events (feed w.point) h 1 any_size has.white (begins-seen feed w s ∙ e) (omega arith)
    (omega arith) refl)
following_means B options bytes feed w false has s r e same =
    moves B feed _ _ w
    (after_part (record (exited w parts.HeadingAtxSequence) { scratch = without_size w.scratch }) false).world
    (exit parts.HeadingAtxSequence w.point ∷ []) refl refl
    (same ∙ opening-no_gap (feed w.point) (after_sequence (here w)) (begins-seen feed w s ∙ e)
    ∙ sym (has.each its.AtBreak _ _))

-- The opening sequence.

opening-refuses : (feed : Feed) (w : World) (h : Here) (o : Option ℕ) →
    is_current 35 o && nat_lt h.scratch.size 6 ≡ false → sees_text o ≡ true →
    in_opening (ahead feed w o) h ≡ Refuses (without_size h.scratch) h.flags
opening-refuses feed w h None e f = cc
opening-refuses feed w h (Some b) e f = go (nat_eq b 35) refl e
  where
    apart : (is_white b ≡ false) × (nat_eq b 10 ≡ false)
    apart = not-or (is_white b) (nat_eq b 10) f

    go : (x : Bool) → nat_eq b 35 ≡ x → x && nat_lt h.scratch.size 6 ≡ false →
        in_opening (ahead feed w (Some b)) h ≡ Refuses (without_size h.scratch) h.flags
    go true k e =
        let full : 6 ≤ h.scratch.size = grind (arith, nat_tests) in
        opening-full (cell_here feed w b) (feed (after w.setting w.point)) h k apart.1 full
    go false k e = opening-text (cell_here feed w b) (feed (after w.setting w.point)) h k apart.1 apart.0

opening-stops : (feed : Feed) (w : World) (h : Here) (o : Option ℕ) → sees_text o ≡ false → h.scratch.size ≤ 6 →
    in_opening (ahead feed w o) h ≡ after_opening (ahead feed w o) (after_sequence h)
opening-stops feed w h None e le = opening-none h le
opening-stops feed w h (Some b) e le = go (nat_eq b 10) refl
  where
    go : (x : Bool) → nat_eq b 10 ≡ x →
        in_opening (ahead feed w (Some b)) h ≡ after_opening (ahead feed w (Some b)) (after_sequence h)
    go true k = opening-ends (cell_here feed w b) (feed (after w.setting w.point)) h k le
    go false k =
        opening-white (cell_here feed w b) (feed (after w.setting w.point)) h
        (or-left (is_white b) (nat_eq b 10) e k) le

sequence_open_means : (B : Behaviour) (options : ParseOptions) (bytes : List ℕ) (feed : Feed) (w : World)
    (x y z : Bool) → HasHeading B options bytes → Sees feed w → IsRest (without_size w.scratch) → w.scratch.size ≤ 6 →
    is_current 35 w.current && nat_lt w.scratch.size 6 ≡ x → sees_text w.current ≡ y → sees_white w.current ≡ z →
    Steps B feed (Next (n.HeadingAtx its.SequenceOpen)) w (sequence_open_code w x y z).to
    (sequence_open_code w x y z).world
sequence_open_means B options bytes feed w true y z has s r le e f g =
    let saw = sees-one feed w (is_current 35) refl s (and_parts _ _ e).0 in
    passes B feed _ _ w (sequence_open_code w true y z).world refl refl
    (has.each its.SequenceOpen _ _ ∙ ap (λ (x : List Cell). in_opening x (here w)) saw.1
    ∙ opening-more (cell_here feed w saw.0) (feed (after w.setting w.point)) (here w) saw.2 (hash-no_ending saw.0 saw.2)
    ∙ sym (has.each its.SequenceOpen _ _))
sequence_open_means B options bytes feed w false true z has s r le e f g =
    passes B feed _ _ w (sequence_open_code w false true z).world refl refl
    (has.each its.SequenceOpen _ _ ∙ rw s.next (opening-refuses feed w (here w) w.current e f))
sequence_open_means B options bytes feed w false false z has s r le e f g =
    following_means B options bytes feed w z has s r g
    (has.each its.SequenceOpen _ _ ∙ rw s.next (opening-stops feed w (here w) w.current f le))

-- At the text.

-- at the line's end nothing is left of it
text-none : (p : Point) (s : Scratch) → text_from p s [] ≡ []
text-none p s = go ((p.vs == 0) && (p.index == s.start))
  where
    go : (x : Bool) → cond x (text_events [] p) [] ≡ []
    go true = refl
    go false = refl

line-ends : (feed : Feed) (w : World) (h : Here) (o : Option ℕ) → ends_line o ≡ true → IsRest h.scratch →
    in_text [] (ahead feed w o) (record h { scratch = text_begun h.point h.scratch }) ≡
    Accepts (record h { events = h.events ++ exit parts.HeadingAtx h.point ∷ [] }) (ahead feed w o)
unfolding in_text
line-ends feed w h None e r =
    rw (text-none (last_point first_point h.events) (text_begun h.point h.scratch), rest-ended h.scratch r)
    (simp append_assoc)
line-ends feed w h (Some b) e r =
    rw (e, text-none (last_point first_point h.events) (text_begun h.point h.scratch), rest-ended h.scratch r)
    (simp append_assoc)

text-no_white : (o : Option ℕ) → sees_text o ≡ true → sees_white o ≡ false
text-no_white None e = cc
text-no_white (Some b) e = (not-or (is_white b) (nat_eq b 10) e).0

ending-no_white : (o : Option ℕ) → ends_line o ≡ true → sees_white o ≡ false
ending-no_white None e = refl
ending-no_white (Some b) e = let is : b ≡ 10 = eqb-true b 10 e in rw is refl

no_text-white : (o : Option ℕ) → sees_text o ≡ false → ends_line o ≡ false → sees_white o ≡ true
no_text-white None e f = cc
no_text-white (Some b) e f = or-left (is_white b) (nat_eq b 10) e f

-- the text begins here, with nothing taken of it yet
text-here : (B : Behaviour) (options : ParseOptions) (feed : Feed) (w : World) →
    HasHeading B options w.setting.bytes → Sees feed w → sees_text w.current ≡ true →
    B (n.HeadingAtx its.AtBreak) (feed w.point) (here w) ≡
    in_text (line_taken w.setting.bytes (text_begun w.point w.scratch) w.point) (feed w.point)
    (record (here w) { scratch = text_begun w.point w.scratch })
text-here B options feed w has s e =
    has.each its.AtBreak _ _
    ∙ break-text (feed w.point) (here w) (begins-seen feed w s ∙ text-no_white w.current e)
    ∙ ap (λ (l : List ℕ). in_text l (feed w.point) (record (here w) { scratch = text_begun w.point w.scratch }))
    (sym (bytes-none w.setting.bytes (whole_from w.point)))

heading_at_break_means : (B : Behaviour) (options : ParseOptions) (feed : Feed) (w : World) (x y z : Bool) →
    HasHeading B options w.setting.bytes → Sees feed w → IsRest w.scratch →
    sees_text w.current ≡ x → is_current 35 w.current ≡ y → ends_line w.current ≡ z →
    Steps B feed (Next (n.HeadingAtx its.AtBreak)) w (at_break_code w x y z).to
    (at_break_code w x y z).world
heading_at_break_means B options feed w true true z has s r e f g =
    passes B feed _ _ w (at_break_code w true true z).world refl refl
    (text-here B options feed w has s e ∙ sym (has.each its.SequenceFurther _ _))
heading_at_break_means B options feed w true false z has s r e f g =
    passes B feed _ _ w (at_break_code w true false z).world refl refl
    (text-here B options feed w has s e ∙ sym (has.each its.Data _ _))
heading_at_break_means B options feed w false y true has s r e f g =
    moves B feed _ _ w (at_break_code w false y true).world (exit parts.HeadingAtx w.point ∷ []) refl refl
    (has.each its.AtBreak _ _
    ∙ break-text (feed w.point) (here w) (begins-seen feed w s ∙ ending-no_white w.current g)
    ∙ rw s.next (line-ends feed w (here w) w.current g r))
heading_at_break_means B options feed w false y false has s r e f g =
    passes B feed _ _ w w refl refl
    (has.each its.AtBreak _ _
    ∙ break-white (feed w.point) (here w) (begins-seen feed w s ∙ no_text-white w.current e g))

-- In the text.

-- after a byte of the line, where all of it is the same
text-passes : (front more : List ℕ) (c : Cell) (cs : List Cell) (h : Here) → nat_eq c.byte 10 ≡ false →
    front ++ whole_line h.point (c ∷ cs) ≡ more ++ whole_line c.after cs →
    in_text front (c ∷ cs) h ≡ in_text more cs (record h { point = c.after })
unfolding in_text
text-passes front more c cs h e same =
    let q = line_end cs c.after in
    let ends : line_end (c ∷ cs) h.point ≡ q = rw e refl in
    let rest : from_ending (c ∷ cs) ≡ from_ending cs = rw e refl in
    ap₂ (λ (p : Point) (l : List ℕ). Accepts
    (record h {
      events = h.events ++ text_following h.events h.scratch l ++ exit parts.HeadingAtx p ∷ [];
      point = p;
      scratch = text_ended h.scratch;
    })
    (from_ending (c ∷ cs)))
    ends same
    ∙ ap (Accepts
    (record h {
      events =
          h.events ++ text_following h.events h.scratch (more ++ whole_line c.after cs) ++ exit parts.HeadingAtx q ∷ [];
      point = q;
      scratch = text_ended h.scratch;
    }))
    rest

text-more : (feed : Feed) (w : World) (h : Here) (o : Option ℕ) → h.point ≡ w.point →
    w.scratch.start ≤ whole_from w.point → o ≡ looks w → ends_line o ≡ false →
    let q = after w.setting w.point in
    in_text (line_taken w.setting.bytes w.scratch w.point) (ahead feed w o) h ≡
    in_text (line_taken w.setting.bytes w.scratch q) (feed q) (record h { point = q })
text-more feed w h None same le c e = cc
text-more feed w h (Some b) same le c e =
    let q = after w.setting w.point in
    let cell = cell_here feed w b in
    let front = line_taken w.setting.bytes w.scratch w.point in
    text-passes front (line_taken w.setting.bytes w.scratch q) cell (feed q) h e
    (ap (λ (p : Point). front ++ whole_line p (cell ∷ feed q)) same
    ∙ taken-more w.setting w.scratch w.point cell (feed q) le refl (sym c) e)

text-ends : (feed : Feed) (w : World) (front : List ℕ) (h : Here) (o : Option ℕ) → ends_line o ≡ true →
    in_text front (ahead feed w o) h ≡
    Accepts
    (record h {
      events = h.events ++ text_following h.events h.scratch front ++ exit parts.HeadingAtx h.point ∷ [];
      scratch = text_ended h.scratch;
    })
    (ahead feed w o)
unfolding in_text
text-ends feed w front h None e = rw (append-nil front) refl
text-ends feed w front h (Some b) e = rw (e, append-nil front) refl

sequence_further_means : (B : Behaviour) (options : ParseOptions) (feed : Feed) (w : World) (x : Bool) →
    HasHeading B options w.setting.bytes → Sees feed w → w.current ≡ looks w →
    w.scratch.start ≤ whole_from w.point → is_current 35 w.current ≡ x →
    Steps B feed (Next (n.HeadingAtx its.SequenceFurther)) w (sequence_further_code w x).to
    (sequence_further_code w x).world
sequence_further_means B options feed w true has s c le e =
    passes B feed _ _ w (sequence_further_code w true).world refl refl
    (has.each its.SequenceFurther _ _
    ∙ ap (λ (l : List Cell). in_text (line_taken w.setting.bytes w.scratch w.point) l (here w)) s.next
    ∙ text-more feed w (here w) w.current refl le c (hash-is_continued w.current e)
    ∙ sym (has.each its.SequenceFurther _ _))
sequence_further_means B options feed w false has s c le e =
    passes B feed _ _ w w refl refl (has.each its.SequenceFurther _ _ ∙ sym (has.each its.Data _ _))

data_means : (B : Behaviour) (options : ParseOptions) (feed : Feed) (w : World) (x : Bool) →
    HasHeading B options w.setting.bytes → Sees feed w → w.current ≡ looks w →
    w.scratch.start ≤ whole_from w.point → ends_line w.current ≡ x →
    Steps B feed (Next (n.HeadingAtx its.Data)) w (data_code w x).to (data_code w x).world
data_means B options feed w true has s c le e =
    moves B feed _ _ w (data_code w true).world
    (text_following w.events w.scratch (line_taken w.setting.bytes w.scratch w.point)
    ++ exit parts.HeadingAtx w.point ∷ [])
    refl
    (append_assoc w.events (text_following w.events w.scratch (line_taken w.setting.bytes w.scratch w.point))
    (exit parts.HeadingAtx w.point ∷ []))
    (has.each its.Data _ _
    ∙ rw s.next (text-ends feed w (line_taken w.setting.bytes w.scratch w.point) (here w) w.current e))
data_means B options feed w false has s c le e =
    passes B feed _ _ w (data_code w false).world refl refl
    (has.each its.Data _ _
    ∙ ap (λ (l : List Cell). in_text (line_taken w.setting.bytes w.scratch w.point) l (here w)) s.next
    ∙ text-more feed w (here w) w.current refl le c e
    ∙ sym (has.each its.Data _ _))

-- each state of a heading takes one step of its rule
heading_steps : (B : Behaviour) (feed : Feed) (state : HeadingState) (w : World) →
    HasHeading B w.setting.options w.setting.bytes → Sees feed w → w.current ≡ looks w →
    HeadingInvariant (n.HeadingAtx state) (position w) →
    Steps B feed (Next (n.HeadingAtx state)) w (heading_transition state w).to (heading_transition state w).world
heading_steps B feed its.Start w has s c at =
    start-steps B feed parts.HeadingAtx _ before_opening _ _ w _ _ (has_start B _ _ has) s refl refl
heading_steps B feed its.Before w has s c at = heading_before_means B _ _ feed w _ has s at refl
heading_steps B feed its.SequenceOpen w has s c at =
    sequence_open_means B _ _ feed w _ _ _ has s at.rest at.size refl refl refl
heading_steps B feed its.AtBreak w has s c at = heading_at_break_means B _ feed w _ _ _ has s at refl refl refl
heading_steps B feed its.SequenceFurther w has s c at = sequence_further_means B _ feed w _ has s c at.begun refl
heading_steps B feed its.Data w has s c at = data_means B _ feed w _ has s c at.begun refl

-- and so where its attempts end as they have to
pub heading_means : (B : Behaviour) (feed : Feed) (state : HeadingState) (w : World) (K : After) →
    HasHeading B w.setting.options w.setting.bytes → Sees feed w → w.current ≡ looks w →
    heading_ready (n.HeadingAtx state) (position w) K →
    Steps B feed (Next (n.HeadingAtx state)) w (heading_transition state w).to (heading_transition state w).world
heading_means B feed state w K has s c at = heading_steps B feed state w has s c at.0

-- what answers as the transition of a state does means what the state means
pub heading_rule : (state : HeadingState) (w new : World) (to : State) → w.current ≡ looks w →
    to ≡ (heading_transition state w).to → new ≡ (heading_transition state w).world → HeadingMeans state w to new
unfolding HeadingMeans
heading_rule state w new to c e k at B feed has s =
    steps-as B feed _ _ to w _ new e k (heading_steps B feed state w has s c at)
