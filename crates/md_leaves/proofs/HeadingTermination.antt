-- A heading is and ends in any table that has it.
use Rattle.std.proofs.Common.{◌≡◌, ℕ, ◌<◌, ◌≤◌, Bool, true, false, cond, ◌&&◌, nat_lt, Option, Some, None, List, refl}
use Rattle.std.proofs.Common.{arith, ap, sym, ◌∙◌}
use Rattle.std.proofs.lemmas.Bool.{and_parts, eqb-true}
use Rattle.std.proofs.lemmas.Bool.Decides.{nat_tests}
use Rattle.md_engine.specs.declared.event.Event.{Event}
use Rattle.md_engine.specs.declared.event.Name.TheVariants as parts
use Rattle.md_engine.specs.declared.state.Name.{Name as StateName}
use Rattle.md_engine.specs.declared.state.Name.TheVariants as n
use Rattle.md_engine.specs.declared.state.heading_atx.State.{State as HeadingState}
use Rattle.md_engine.specs.declared.state.heading_atx.State.TheVariants as its
use Rattle.md_engine.specs.declared.state.State.TheVariants.{Next, Retry}
use Rattle.md_engine.specs.declared.tokenizer.Scratch.{Scratch}
use Rattle.md_engine.specs.Scheme.{Ends, Fits, Grown, Scheme, Position, after_all, ranked, seen, position, spot_at}
use Rattle.md_engine.specs.World.{Setting, World, after, looks}
use Rattle.md_engine.proofs.Falls.{later, later_at, seen_grows}
use Rattle.md_engine.proofs.Local.{accepts, consumes, refuses, turns}
use Rattle.md_engine.proofs.Points.{stays, takes}
use Rattle.md_leaves.specs.Heading.{IsInText, at_break_code, before_code, after_part, data_code, heading_ready}
use Rattle.md_leaves.specs.Heading.{heading_scheme, heading_transition, sees_text, sequence_further_code}
use Rattle.md_leaves.specs.Heading.{sequence_open_code, text_added, text_begun, text_ended, without_size}
use Rattle.md_leaves.proofs.LeafStart.{FitsStart, good-start}
use Rattle.md_events.specs.Lent.{whole_from}
use Rattle.md_events.specs.Spaces.{IsRest, calmed, ends_line, is_current, rest_ready, sees_white, any_size}
use Rattle.md_events.specs.Transition.{entered, exited, taken}
use Rattle.md_events.proofs.LineTaken.{whole-following}
use Rattle.md_events.proofs.SpacesTermination.{Does, WhiteFits, inside-line, rest-calm, rest-none, rest-size, seen-in}
use Rattle.md_events.proofs.SpacesTermination.{white_try}

-- the states in its text
abbrev IsTextState : HeadingState → Type 0
IsTextState its.SequenceFurther = Unit {0}
IsTextState its.Data = Unit {0}
IsTextState _ = ⊥

pub record HeadingFits (T : Scheme) : Type 1 where
  pub white : WhiteFits T
  pub each : (state : HeadingState) → Fits T heading_scheme (n.HeadingAtx state)

pub rest-without : (s : Scratch) → IsRest s → IsRest (without_size s)
rest-without s e = ap without_size e

heading-starts : (T : Scheme) → HeadingFits T →
    FitsStart T heading_scheme (n.HeadingAtx its.Start) (n.HeadingAtx its.Before)
heading-starts T has = record {
  white = has.white;
  start_fits = has.each its.Start;
  next_fits = has.each its.Before;
  ready = λ x K r. r;
  level = omega arith;
  some = omega arith;
  falls = λ x. omega arith;
  tries = λ x. omega arith;
}

heading_before_ends : (T : Scheme) (w : World) (x : Bool) → HeadingFits T →
    rest_ready (position w) (after_all T w.frames) → Does T (n.HeadingAtx its.Before) w (before_code w x)
heading_before_ends T w true has r = (
  turns T heading_scheme _ (n.HeadingAtx its.SequenceOpen) w (entered w parts.HeadingAtxSequence).events w.scratch
      (has.each its.Before) (has.each its.SequenceOpen)
      (record { size = omega (arith, rest-size w.scratch r.0); rest = rest-without w.scratch r.0 }, r.1) (omega arith)
      (omega arith),
  refl,
)
heading_before_ends T w false has r =
    (refuses T _ w _ _ w.events w.scratch r.1 r.0, refl)

-- whitespace is no text, and what is here still does when more may be read
white-no_text : (o : Option ℕ) → sees_white o ≡ true → sees_text o ≡ false
white-no_text None e = cc
white-no_text (Some b) e = rw e refl

still-white : (w : World) (t : Setting) (s : Scratch) → Grown w.setting t → sees_white (seen (position w)) ≡ true →
    sees_text (seen (spot_at t w.point s)) ≡ false
still-white w t s up e = go (seen (position w)) refl e
  where
    go : (o : Option ℕ) → seen (position w) ≡ o → sees_white o ≡ true → sees_text (seen (spot_at t w.point s)) ≡ false
    go None is e = cc
    go (Some b) is e = ap sees_text (seen_grows (position w) t s b up is) ∙ white-no_text (Some b) e

-- after a run of the line, from a state whose rank is above that of what follows
good-following : (T : Scheme) (w : World) (name : StateName) (events : List Event) (s : Scratch) (x : Bool) →
    HeadingFits T → Fits T heading_scheme name → IsRest s → Ends IsRest IsRest (position w) (after_all T w.frames) →
    sees_white (seen (position w)) ≡ x → 1 < (heading_scheme.rank name (position w)).number →
    (cond (sees_text (seen (position w))) (ranked 2 refl) (ranked 0 refl)).number <
    (heading_scheme.rank name (position w)).number →
    Does T name w (after_part (record w { events = events; scratch = s }) x)
good-following T w name events s true has fits r ends e lt less =
    white_try T heading_scheme name (n.HeadingAtx its.AtBreak) w events s 1 any_size IsRest IsRest has.white fits
    (has.each its.AtBreak) (rest-none s r) (λ some. rest-calm s r) ends
    (λ q t up way. (rest-calm s r, later_at _ _ (position w) _ q t _ up way ends))
    (omega arith) (omega arith) (λ t up. rw (still-white w t (calmed s) up e) (omega arith)) lt
good-following T w name events s false has fits r ends e lt less = (
  turns T heading_scheme name (n.HeadingAtx its.AtBreak) w events s fits (has.each its.AtBreak)
      (r, later IsRest IsRest (position w) (after_all T w.frames) w.point s (stays w.setting.limit w.point) ends)
      (omega arith) less,
  refl,
)

-- `#` or text is where the text may be read
hash-in : (x : Position) (more : Bool) → is_current 35 (seen x) && more ≡ true → x.point.index < x.setting.limit
hash-in x more e = seen-in x (λ (o : Option ℕ). is_current 35 o && more) refl e

sequence_open_ends : (T : Scheme) (w : World) (x y z : Bool) → HeadingFits T →
    heading_ready (n.HeadingAtx its.SequenceOpen) (position w) (after_all T w.frames) →
    is_current 35 (seen (position w)) && nat_lt w.scratch.size 6 ≡ x → sees_text (seen (position w)) ≡ y →
    sees_white (seen (position w)) ≡ z → Does T (n.HeadingAtx its.SequenceOpen) w (sequence_open_code w x y z)
sequence_open_ends T w true y z has r e f g =
    let inside = hash-in (position w) (nat_lt w.scratch.size 6) e in
    let few : nat_lt w.scratch.size 6 ≡
    true = (and_parts (is_current 35 (seen (position w))) (nat_lt w.scratch.size 6) e).1 in
    let less : w.scratch.size < 6 = grind (arith, nat_tests) in (
      consumes T heading_scheme _ _ w w.events _ (has.each its.SequenceOpen) (has.each its.SequenceOpen) inside (
        record { size = omega (arith, less); rest = r.0.rest },
        later _ _ (position w) _ _ _ (takes w.setting w.point inside) r.1,
      )
          (omega arith),
      refl,
    )
sequence_open_ends T w false true z has r e f g =
    (refuses T _ w _ _ w.events (without_size w.scratch) r.1 r.0.rest, refl)
sequence_open_ends T w false false z has r e f g =
    good-following T w (n.HeadingAtx its.SequenceOpen) (exited w parts.HeadingAtxSequence).events
    (without_size w.scratch) z has (has.each its.SequenceOpen) r.0.rest r.1 g (omega arith) (rw f (omega arith))

-- where its text begins
text-begins : (T : Scheme) (w : World) → rest_ready (position w) (after_all T w.frames) →
    (next : HeadingState) → HeadingFits T → IsTextState next →
    sees_text (seen (position w)) ≡ true →
    Does T (n.HeadingAtx its.AtBreak) w
    (record { to = Retry (n.HeadingAtx next); world = record w { scratch = text_begun w.point w.scratch } })
text-begins T w r its.SequenceFurther has text e = (
  turns T heading_scheme _ _ w w.events (text_begun w.point w.scratch) (has.each its.AtBreak)
      (has.each its.SequenceFurther) (
        record { begun = omega arith; rest = ap text_ended r.0 },
        later IsRest IsRest (position w) (after_all T w.frames) w.point (text_begun w.point w.scratch)
            (stays w.setting.limit w.point) r.1,
      )
      (omega arith) (rw e (omega arith)),
  refl,
)
text-begins T w r its.Data has text e = (
  turns T heading_scheme _ _ w w.events (text_begun w.point w.scratch) (has.each its.AtBreak)
      (has.each its.Data) (
        record { begun = omega arith; rest = ap text_ended r.0 },
        later IsRest IsRest (position w) (after_all T w.frames) w.point (text_begun w.point w.scratch)
            (stays w.setting.limit w.point) r.1,
      )
      (omega arith) (rw e (omega arith)),
  refl,
)
text-begins T w r state has text e = absurd text

heading_at_break_ends : (T : Scheme) (w : World) (x y z : Bool) → HeadingFits T →
    rest_ready (position w) (after_all T w.frames) →
    sees_text (seen (position w)) ≡ x →
    Does T (n.HeadingAtx its.AtBreak) w (at_break_code w x y z)
heading_at_break_ends T w true true z has r e = text-begins T w r its.SequenceFurther has tt e
heading_at_break_ends T w true false z has r e = text-begins T w r its.Data has tt e
heading_at_break_ends T w false y true has r e =
    (accepts T _ w _ _ (exited w parts.HeadingAtx).events w.scratch r.1 r.0, refl)
heading_at_break_ends T w false y false has r e =
    (refuses T _ w _ _ w.events w.scratch r.1 r.0, refl)

-- a byte of the line lies before the point after it
start-taken : (w : World) (o : Option ℕ) → o ≡ looks w → ends_line o ≡ false → w.scratch.start ≤ whole_from w.point →
    w.scratch.start ≤ whole_from (after w.setting w.point)
start-taken w None c e le = cc
start-taken w (Some b) c e le = omega (arith, le, whole-following w.setting w.point b e (sym c))

-- in its text one byte more is taken
text-is_continued : (T : Scheme) (state : HeadingState) (w : World) → HeadingFits T → IsTextState state →
    IsInText (position w) → Ends IsRest IsRest (position w) (after_all T w.frames) → w.current ≡ looks w →
    ends_line w.current ≡ false →
    Does T (n.HeadingAtx state) w (record { to = Next (n.HeadingAtx state); world = taken w })
text-is_continued T its.SequenceFurther w has text r ends c e =
    let inside = inside-line w c e in (
      consumes T heading_scheme _ _ w w.events w.scratch (has.each its.SequenceFurther)
          (has.each its.SequenceFurther) inside (
            record { begun = start-taken w w.current c e r.begun; rest = r.rest },
            later _ _ (position w) _ _ _ (takes w.setting w.point inside) ends,
          )
          (omega arith),
      refl,
    )
text-is_continued T its.Data w has text r ends c e =
    let inside = inside-line w c e in (
      consumes T heading_scheme _ _ w w.events w.scratch (has.each its.Data) (has.each its.Data) inside (
        record { begun = start-taken w w.current c e r.begun; rest = r.rest },
        later _ _ (position w) _ _ _ (takes w.setting w.point inside) ends,
      )
          (omega arith),
      refl,
    )
text-is_continued T state w has text r ends c e = absurd text

hash-is_continued : (o : Option ℕ) → is_current 35 o ≡ true → ends_line o ≡ false
hash-is_continued None e = cc
hash-is_continued (Some b) e = let is : b ≡ 35 = eqb-true b 35 e in rw is refl

sequence_further_ends : (T : Scheme) (w : World) (x : Bool) → HeadingFits T →
    IsInText (position w) → Ends IsRest IsRest (position w) (after_all T w.frames) → w.current ≡ looks w →
    is_current 35 w.current ≡ x → Does T (n.HeadingAtx its.SequenceFurther) w (sequence_further_code w x)
sequence_further_ends T w true has r ends c e =
    text-is_continued T its.SequenceFurther w has tt r ends c (hash-is_continued w.current e)
sequence_further_ends T w false has r ends c e = (
  turns T heading_scheme _ _ w w.events w.scratch (has.each its.SequenceFurther) (has.each its.Data) (
    r,
    later IsRest IsRest (position w) (after_all T w.frames) w.point w.scratch
        (stays w.setting.limit w.point) ends,
  )
      (omega arith) (omega arith),
  refl,
)

data_ends : (T : Scheme) (w : World) (x : Bool) → HeadingFits T →
    IsInText (position w) → Ends IsRest IsRest (position w) (after_all T w.frames) → w.current ≡ looks w →
    ends_line w.current ≡ x → Does T (n.HeadingAtx its.Data) w (data_code w x)
data_ends T w true has r ends c e = (
  accepts T _ w IsRest IsRest (exited (text_added w) parts.HeadingAtx).events (text_ended w.scratch)
      ends r.rest,
  refl,
)
data_ends T w false has r ends c e = text-is_continued T its.Data w has tt r ends c e

-- each state of a heading
pub heading_terminates : (T : Scheme) (state : HeadingState) (w : World) → HeadingFits T →
    w.current ≡ looks w →
    heading_ready (n.HeadingAtx state) (position w) (after_all T w.frames) →
    Does T (n.HeadingAtx state) w (heading_transition state w)
heading_terminates T its.Start w has c r =
    good-start T heading_scheme parts.HeadingAtx _ _ w _ _ (heading-starts T has) r
heading_terminates T its.Before w has c r = heading_before_ends T w _ has r
heading_terminates T its.SequenceOpen w has c r =
    sequence_open_ends T w _ _ _ has r (ap (λ (o : Option ℕ). is_current 35 o && nat_lt w.scratch.size 6) (sym c))
    (ap sees_text (sym c)) (ap sees_white (sym c))
heading_terminates T its.AtBreak w has c r =
    heading_at_break_ends T w _ _ _ has r (ap sees_text (sym c))
heading_terminates T its.SequenceFurther w has c r = sequence_further_ends T w _ has r.0 r.1 c refl
heading_terminates T its.Data w has c r = data_ends T w _ has r.0 r.1 c refl
