-- Frontmatter is and ends in any table that has it.
use Rattle.std.proofs.Common.{◌≡◌, ℕ, ◌<◌, Bool, true, false, cond, Option, Some, None, List, length, refl}
use Rattle.std.proofs.Common.{arith, ap, sym, ◌∙◌, ◌&&◌}
use Rattle.std.specs.Prelude.{not}
use Rattle.md_engine.specs.declared.event.Event.{Event}
use Rattle.md_engine.specs.declared.event.Point.{Point}
use Rattle.md_engine.specs.declared.state.Name.TheVariants as n
use Rattle.md_engine.specs.declared.state.frontmatter.State.{State as FrontState}
use Rattle.md_engine.specs.declared.state.frontmatter.State.TheVariants as its
use Rattle.md_engine.specs.declared.state.State.TheVariants.{Next}
use Rattle.md_engine.specs.declared.tokenizer.Scratch.{Scratch}
use Rattle.md_engine.specs.Scheme.{After, Ends, Fits, Grown, Reaches, Scheme, after_all}
use Rattle.md_engine.specs.Scheme.{moved_to, ranked, seen, position, spot_at}
use Rattle.md_engine.specs.World.{Setting, World, after, looks}
use Rattle.md_engine.proofs.Falls.{later, later_at}
use Rattle.md_engine.proofs.Local.{accepts, begins_try, consumes, refuses, turns}
use Rattle.md_engine.proofs.Points.{stays, takes}
use Rattle.md_leaves.specs.Heading.{without_size}
use Rattle.md_events.specs.Spaces.{IsRest, any_size, calmed, ends_line, is_current, rest_ready}
use Rattle.md_events.proofs.SpacesTermination.{Does, WhiteFits, accepts-following, seen-in, white_try}
use Rattle.md_containers.specs.Frontmatter.{IsMarked, after_code, begun, after_part, cleared, close_after_code}
use Rattle.md_containers.specs.Frontmatter.{close_start_code, content_end_code, content_inside_code}
use Rattle.md_containers.specs.Frontmatter.{content_start_code, front_level, front_rank, front_ready}
use Rattle.md_containers.specs.Frontmatter.{front_scheme, front_transition, front_tries, in_fence, in_front, is_marker}
use Rattle.md_containers.specs.Frontmatter.{open_after_code, sequence_code, start_at, start_by, start_code}

pub record FrontFits (T : Scheme) : Type 1 where
  pub white : WhiteFits T
  pub each : (state : FrontState) → Fits T front_scheme (n.Frontmatter state)

-- Scratch.

marked-none : (s : Scratch) → IsMarked s → s.whitespace.size ≡ 0
marked-none s e = ap (λ (t : Scratch). t.whitespace.size) e

marked-rest : (s : Scratch) (m : ℕ) → IsRest s → IsMarked (record s { marker = m; size = 0 })
marked-rest s m e = ap (λ (t : Scratch). cleared (record t { marker = m; size = 0 })) e

-- the position after whitespace, or after what is taken, is ready as this one was
front-later : (x : After) (w : World) (P Q : Scratch → Type 0) (s : Scratch) (q : Point) (t : Setting) →
    Grown w.setting t → Reaches t.limit w.point q → Ends P Q (position w) x → Ends P Q (spot_at t q s) x
front-later x w P Q s q t up way e = later_at P Q (position w) x q t s up way e

-- A sequence: in the opening fence, or in the closing one.

-- what a sequence asks for: its two states, which end with these scratches
record IsSequence (T : Scheme) (w : World) (here following : FrontState) (P : Scratch → Type 0) : Type 1 where
  pub ready : (s : Scratch) (q : Point) (t : Setting) → IsMarked s → Ends P P (spot_at t q s) (after_all T w.frames) →
      front_ready (n.Frontmatter here) (spot_at t q s) (after_all T w.frames)
  pub next : (s : Scratch) (q : Point) (t : Setting) → IsMarked s → Ends P P (spot_at t q s) (after_all T w.frames) →
      front_ready (n.Frontmatter following) (spot_at t q s) (after_all T w.frames)
  pub same : front_level (n.Frontmatter following) ≡ front_level (n.Frontmatter here)
  pub level : 0 < front_level (n.Frontmatter here)
  pub rank : (x : _) → (front_rank (n.Frontmatter here) x).number ≡ 4
  pub low : (x : _) → (front_rank (n.Frontmatter following) x).number ≡ 1
  pub tries : (front_tries (n.Frontmatter following)).number ≡ 3

good-following : (T : Scheme) (w : World) (here following : FrontState) (P : Scratch → Type 0) (events : List Event)
    (s : Scratch) (x : Bool) → FrontFits T → IsSequence T w here following P → IsMarked s →
    Ends P P (position w) (after_all T w.frames) →
    Does T (n.Frontmatter here) w (after_part (record w { events = events; scratch = s }) following x)
good-following T w here following P events s true has is marked ends =
    white_try T front_scheme (n.Frontmatter here) (n.Frontmatter following) w events s 0 any_size P P has.white
    (has.each here) (has.each following) (marked-none s marked) (λ some. absurd (omega arith)) ends
    (λ q t up way. is.next (calmed s) q t (ap calmed marked) (front-later _ w P P (calmed s) q t up way ends))
    (let a = is.same in omega (arith, a)) is.level
    (λ t up. let a = is.low (spot_at t w.point (calmed s)) in let b = is.tries in omega (arith, a, b))
    (let a = is.rank (position w) in let b = is.tries in omega (arith, a, b))
good-following T w here following P events s false has is marked ends = (
  turns T front_scheme (n.Frontmatter here) (n.Frontmatter following) w events s (has.each here) (has.each following)
      (is.next s w.point w.setting marked (later P P (position w) _ w.point s (stays w.setting.limit w.point) ends))
      (let a = is.same in omega (arith, a))
      (let a = is.low (moved_to (position w) w.point s) in let b = is.rank (position w) in omega (arith, a, b)),
  refl,
)

good-sequence : (T : Scheme) (w : World) (here following : FrontState) (P : Scratch → Type 0) (left : Scratch)
    (x y z : Bool) → FrontFits T → IsSequence T w here following P → IsMarked w.scratch → P left →
    Ends P P (position w) (after_all T w.frames) →
    (x ≡ true → is_current w.scratch.marker (seen (position w)) ≡ true) →
    Does T (n.Frontmatter here) w (sequence_code here following left w x y z)
good-sequence T w here following P left true y z has is marked gone ends e =
    let inside = seen-in (position w) (is_current w.scratch.marker) refl (e refl) in (
      consumes T front_scheme _ _ w w.events _ (has.each here) (has.each here) inside
          (is.ready _ _ _ marked (later P P (position w) _ _ _ (takes w.setting w.point inside) ends)) (omega arith),
      refl,
    )
good-sequence T w here following P left false true z has is marked gone ends e =
    good-following T w here following P _ (without_size w.scratch) z has is marked ends
good-sequence T w here following P left false false z has is marked gone ends e =
    (refuses T _ w _ _ w.events left ends gone, refl)

opening : (T : Scheme) (w : World) → IsSequence T w its.OpenSequence its.OpenAfter IsRest
opening T w = record {
  ready = λ s q t is ends. (is, ends);
  next = λ s q t is ends. (is, ends);
  same = refl;
  level = omega arith;
  rank = λ x. refl;
  low = λ x. refl;
  tries = refl;
}

closing : (T : Scheme) (w : World) → IsSequence T w its.CloseSequence its.CloseAfter IsMarked
closing T w = record {
  ready = λ s q t is ends. (is, ends);
  next = λ s q t is ends. (is, ends);
  same = refl;
  level = omega arith;
  rank = λ x. refl;
  low = λ x. refl;
  tries = refl;
}

-- The opening fence.

start_ends : (T : Scheme) (w : World) (x : Bool) → FrontFits T → rest_ready (position w) (after_all T w.frames) →
    Does T (n.Frontmatter its.Start) w (start_by w x)
start_ends T w false has r = (refuses T _ w _ _ w.events w.scratch r.1 r.0, refl)
start_ends T w true has r = go w.current
  where
    by : (b : ℕ) (x : Bool) → Does T (n.Frontmatter its.Start) w (start_code w b x)
    by b true = (
      turns T front_scheme _ (n.Frontmatter its.OpenSequence) w (begun w b).events (begun w b).scratch
          (has.each its.Start) (has.each its.OpenSequence) (
            marked-rest w.scratch b r.0,
            later IsRest IsRest (position w) (after_all T w.frames) w.point _ (stays w.setting.limit w.point) r.1,
          )
          (omega arith) (omega arith),
      refl,
    )
    by b false = (refuses T _ w _ _ w.events w.scratch r.1 r.0, refl)

    go : (o : Option ℕ) → Does T (n.Frontmatter its.Start) w (start_at w o)
    go None = (refuses T _ w _ _ w.events w.scratch r.1 r.0, refl)
    go (Some b) = by b (is_marker b)

-- after a line ending, before a further line
to-line : (T : Scheme) (w : World) (state : FrontState) (events : List Event) → FrontFits T →
    w.point.index < w.setting.limit → front_level (n.Frontmatter state) ≡ 2 →
    in_front (position w) (after_all T w.frames) →
    Does T (n.Frontmatter state) w
    (record {
      to = Next (n.Frontmatter its.CloseStart);
      world = record w { events = events; point = after w.setting w.point };
    })
to-line T w state events has inside two r = (
  consumes T front_scheme _ (n.Frontmatter its.CloseStart) w events w.scratch (has.each state)
      (has.each its.CloseStart) inside (r.0, later _ _ (position w) _ _ _ (takes w.setting w.point inside) r.1)
      (omega (arith, two)),
  refl,
)

open_after_ends : (T : Scheme) (w : World) (x : Bool) → FrontFits T → in_front (position w) (after_all T w.frames) →
    is_current 10 (seen (position w)) ≡ x → Does T (n.Frontmatter its.OpenAfter) w (open_after_code w x)
open_after_ends T w true has r e =
    to-line T w its.OpenAfter (open_after_code w true).world.events has
    (seen-in (position w) (is_current 10) refl e) refl r
open_after_ends T w false has r e = (refuses T _ w _ _ w.events (cleared w.scratch) r.1 r.0, refl)

-- A further line.

low-content : (x : Bool) → (cond x (ranked 1 refl) (ranked 3 refl)).number < 4
low-content true = omega arith
low-content false = omega arith

close_start_ends : (T : Scheme) (w : World) (x : Bool) → FrontFits T → in_front (position w) (after_all T w.frames) →
    Does T (n.Frontmatter its.CloseStart) w (close_start_code w x)
close_start_ends T w true has r = (
  begins_try T front_scheme front_scheme (n.Frontmatter its.CloseStart) (n.Frontmatter its.CloseSequence) w IsMarked
      IsMarked (close_start_code w true).world.events w.scratch
      (record {
        ok = Next (n.Frontmatter its.After);
        nok = Next (n.Frontmatter its.ContentStart);
        is_check = false;
        events_len = length w.events;
        point = w.point;
      })
      (has.each its.CloseStart) (has.each its.CloseSequence) (has.each its.After) (has.each its.ContentStart) refl
      (record {
        ok = λ s q t is up way. (is, later_at IsRest IsRest (position w) (after_all T w.frames) q t s up way r.1);
        ok_level = omega arith;
        ok_rank = λ s t is up. omega arith;
        nok = λ s t is up.
            (is, later_at IsRest IsRest (position w) (after_all T w.frames) w.point t s up (stays t.limit w.point) r.1);
        nok_level = omega arith;
        nok_rank = λ s t is up. let a = low-content (ends_line (seen (spot_at t w.point s))) in omega (arith, a);
      })
      (λ K e. (r.0, e)) (omega arith) (omega arith) (omega arith),
  refl,
)
close_start_ends T w false has r = (
  turns T front_scheme _ (n.Frontmatter its.ContentStart) w w.events w.scratch (has.each its.CloseStart)
      (has.each its.ContentStart) r (omega arith)
      (let a = low-content (ends_line (seen (position w))) in omega (arith, a)),
  refl,
)

close_after_ends : (T : Scheme) (w : World) (x : Bool) → in_fence (position w) (after_all T w.frames) →
    Does T (n.Frontmatter its.CloseAfter) w (close_after_code w x)
close_after_ends T w true r = (accepts T _ w _ _ (close_after_code w true).world.events w.scratch r.1 r.0, refl)
close_after_ends T w false r = (refuses T _ w _ _ w.events w.scratch r.1 r.0, refl)

content_start_ends : (T : Scheme) (w : World) (x : Bool) → FrontFits T → in_front (position w) (after_all T w.frames) →
    ends_line (seen (position w)) ≡ x → Does T (n.Frontmatter its.ContentStart) w (content_start_code w x)
content_start_ends T w true has r e = (
  turns T front_scheme _ (n.Frontmatter its.ContentEnd) w w.events w.scratch (has.each its.ContentStart)
      (has.each its.ContentEnd) r (omega arith) (rw e (omega arith)),
  refl,
)
content_start_ends T w false has r e = (
  turns T front_scheme _ (n.Frontmatter its.ContentInside) w (content_start_code w false).world.events w.scratch
      (has.each its.ContentStart) (has.each its.ContentInside) r (omega arith) (rw e (omega arith)),
  refl,
)

content_inside_ends : (T : Scheme) (w : World) (x : Bool) → FrontFits T → in_front (position w) (after_all T w.frames) →
    ends_line (seen (position w)) ≡ x → Does T (n.Frontmatter its.ContentInside) w (content_inside_code w x)
content_inside_ends T w true has r e = (
  turns T front_scheme _ (n.Frontmatter its.ContentEnd) w (content_inside_code w true).world.events w.scratch
      (has.each its.ContentInside) (has.each its.ContentEnd) r (omega arith) (omega arith),
  refl,
)
content_inside_ends T w false has r e =
    let inside = seen-in (position w) (λ (o : Option ℕ). not (ends_line o)) refl (ap not e) in (
      consumes T front_scheme _ _ w w.events w.scratch (has.each its.ContentInside) (has.each its.ContentInside) inside
          (r.0, later _ _ (position w) _ _ _ (takes w.setting w.point inside) r.1) (omega arith),
      refl,
    )

content_end_ends : (T : Scheme) (w : World) (x : Bool) → FrontFits T → in_front (position w) (after_all T w.frames) →
    is_current 10 (seen (position w)) ≡ x → Does T (n.Frontmatter its.ContentEnd) w (content_end_code w x)
content_end_ends T w true has r e =
    to-line T w its.ContentEnd (content_end_code w true).world.events has (seen-in (position w) (is_current 10) refl e)
    refl r
content_end_ends T w false has r e = (refuses T _ w _ _ w.events (cleared w.scratch) r.1 r.0, refl)

after_ends : (T : Scheme) (w : World) (x : Bool) → in_front (position w) (after_all T w.frames) →
    is_current 10 (seen (position w)) ≡ x → Does T (n.Frontmatter its.After) w (after_code w x)
after_ends T w true r e = (
  accepts-following T _ w _ _ (after_code w true).world.events (cleared w.scratch)
      (seen-in (position w) (is_current 10) refl e) r.1 r.0,
  refl,
)
after_ends T w false r e = (accepts T _ w _ _ (after_code w false).world.events (cleared w.scratch) r.1 r.0, refl)

-- whether one more marker is taken, it is here
takes-marker : (x y : Bool) → x && y ≡ true → x ≡ true
takes-marker true y e = refl
takes-marker false y e = cc

marker-seen : (w : World) (y : Bool) → w.current ≡ looks w → is_current w.scratch.marker w.current && y ≡ true →
    is_current w.scratch.marker (seen (position w)) ≡ true
marker-seen w y c e = ap (is_current w.scratch.marker) (sym c) ∙ takes-marker _ y e

-- each state of frontmatter
pub front_terminates : (T : Scheme) (state : FrontState) (w : World) → FrontFits T → w.current ≡ looks w →
    front_ready (n.Frontmatter state) (position w) (after_all T w.frames) →
    Does T (n.Frontmatter state) w (front_transition state w)
front_terminates T its.Start w has c r = start_ends T w _ has r
front_terminates T its.OpenSequence w has c r =
    good-sequence T w its.OpenSequence its.OpenAfter IsRest (cleared w.scratch) _ _ _ has (opening T w) r.0 r.0
    r.1 (marker-seen w _ c)
front_terminates T its.OpenAfter w has c r = open_after_ends T w _ has r (ap (is_current 10) (sym c))
front_terminates T its.CloseStart w has c r = close_start_ends T w _ has r
front_terminates T its.CloseSequence w has c r =
    good-sequence T w its.CloseSequence its.CloseAfter IsMarked (without_size w.scratch) _ _ _ has (closing T w) r.0 r.0
    r.1 (marker-seen w _ c)
front_terminates T its.CloseAfter w has c r = close_after_ends T w _ r
front_terminates T its.ContentStart w has c r = content_start_ends T w _ has r (ap ends_line (sym c))
front_terminates T its.ContentInside w has c r = content_inside_ends T w _ has r (ap ends_line (sym c))
front_terminates T its.ContentEnd w has c r = content_end_ends T w _ has r (ap (is_current 10) (sym c))
front_terminates T its.After w has c r = after_ends T w _ r (ap (is_current 10) (sym c))
