-- Fenced code and math are and end in any table that has them.
use Rattle.std.proofs.Common.{◌≡◌, ℕ, ◌<◌, Bool, true, false, cond, nat_eq, Option, Some, None, List, length, refl}
use Rattle.std.proofs.Common.{arith, ap, sym, ◌∙◌}
use Rattle.std.specs.Prelude.{not}
use Rattle.md_engine.specs.declared.event.Event.{Event}
use Rattle.md_engine.specs.declared.event.Name.TheVariants as part
use Rattle.md_engine.specs.declared.event.Point.{Point}
use Rattle.md_engine.specs.declared.state.Name.TheVariants as n
use Rattle.md_engine.specs.declared.state.raw_flow.State.{State as RawState}
use Rattle.md_engine.specs.declared.state.raw_flow.State.TheVariants as its
use Rattle.md_engine.specs.declared.state.State.TheVariants.{Next}
use Rattle.md_engine.specs.declared.tokenizer.Scratch.{Scratch}
use Rattle.md_engine.specs.Scheme.{Ends, Fits, Grown, Reaches, Scheme, Position, after_all}
use Rattle.md_engine.specs.Scheme.{moved_to, ranked, seen, position, spot_at}
use Rattle.md_engine.specs.World.{Setting, World, looks}
use Rattle.md_engine.proofs.Falls.{later, later_at}
use Rattle.md_engine.proofs.Local.{accepts, begins_try, consumes, refuses, turns}
use Rattle.md_engine.proofs.Points.{cells-grow, stays, takes}
use Rattle.md_meaning.specs.Leaves.{is_fence_marker}
use Rattle.md_literal.specs.Fence.{at_non_lazy_break_code, before_chunk_code, before_close_code}
use Rattle.md_literal.specs.Fence.{before_open, before_open_code, after_part, block_entered, block_name}
use Rattle.md_literal.specs.Fence.{chunk_code, cleared, close_after_code, close_start_code, content_start_code}
use Rattle.md_literal.specs.Fence.{ends_word, fence_rank, fence_ready, fence_scheme, fence_transition}
use Rattle.md_literal.specs.Fence.{fence_level, fence_tries, held_indent, held_marker, in_fence, info_before_code}
use Rattle.md_literal.specs.Fence.{info_code, line_entered, marked, meta_before_code, meta_code, meta_name, opened}
use Rattle.md_literal.specs.Fence.{part_entered, part_exited, sequence_close_code}
use Rattle.md_literal.specs.Fence.{sequence_name, sequence_open_code, start_code}
use Rattle.md_events.specs.Spaces.{IsRest, any_size, calmed, ends_line, is_current, rest_ready, sees_white}
use Rattle.md_events.specs.Spaces.{small_indent}
use Rattle.md_events.specs.Transition.{exited}
use Rattle.md_events.proofs.SpacesTermination.{Does, WhiteFits, rest-calm, rest-none, rest-size, seen-in, white_try}

pub record FenceFits (T : Scheme) : Type 1 where
  pub white : WhiteFits T
  pub each : (state : RawState) → Fits T fence_scheme (n.RawFlow state)

-- Scratch.

-- at rest but for the marker and what was counted, no whitespace is asked for
pub fence-none : (s : Scratch) → IsRest (cleared s) → s.whitespace.size ≡ 0
fence-none s e = ap (λ (t : Scratch). t.whitespace.size) e

-- at rest, nothing is to be cleared
pub rest-clear : (s : Scratch) → IsRest s → cleared s ≡ s
rest-clear s e = ap cleared e ∙ sym e

with-column : (s : Scratch) (c : ℕ) → IsRest s → IsRest (cleared (record s { size_c = c }))
with-column s c e = ap (λ (t : Scratch). cleared (record t { size_c = c })) e

with-marker : (s : Scratch) (m : ℕ) → IsRest s → IsRest (cleared (record s { marker = m }))
with-marker s m e = ap (λ (t : Scratch). cleared (record t { marker = m })) e

-- After a part of a fence.

low-info : (x : Position) → (fence_rank (n.RawFlow its.InfoBefore) x).number < 3
low-info x = go (ends_line (seen x))
  where
    go : (b : Bool) → (cond b (ranked 0 refl) (ranked 2 refl)).number < 3
    go true = omega arith
    go false = omega arith

low-meta : (x : Position) → (fence_rank (n.RawFlow its.MetaBefore) x).number < 3
low-meta x = go (ends_line (seen x))
  where
    go : (b : Bool) → (cond b (ranked 1 refl) (ranked 2 refl)).number < 3
    go true = omega arith
    go false = omega arith

low-marker : (b : Bool) → (cond b (ranked 3 refl) (ranked 5 refl)).number < 6
low-marker true = omega arith
low-marker false = omega arith

low-chunk : (b : Bool) → (cond b (ranked 0 refl) (ranked 4 refl)).number < 5
low-chunk true = omega arith
low-chunk false = omega arith

-- a state that may follow: it is at rest or in a fence, and ranks low
record Follows (T : Scheme) (w : World) (state : RawState) (s : Scratch) : Type 1 where
  pub following : (q : Point) (t : Setting) → Grown w.setting t → Reaches t.limit w.point q →
      fence_ready (n.RawFlow state) (spot_at t q (calmed s)) (after_all T w.frames)
  pub at_once : fence_ready (n.RawFlow state) (moved_to (position w) w.point s) (after_all T w.frames)
  pub level : fence_level (n.RawFlow state) ≡ 1
  pub low : (x : Position) → (fence_rank (n.RawFlow state) x).number < 3
  pub tries : (fence_tries (n.RawFlow state)).number ≡ 3

good-following : (T : Scheme) (w : World) (from state : RawState) (events : List Event) (s : Scratch) (x : Bool) →
    FenceFits T → Follows T w state s → s.whitespace.size ≡ 0 → Ends IsRest IsRest (position w) (after_all T w.frames) →
    fence_level (n.RawFlow from) ≡ 1 → 3 < (fence_rank (n.RawFlow from) (position w)).number →
    Does T (n.RawFlow from) w (after_part (record w { events = events; scratch = s }) state x)
good-following T w from state events s true has next none ends one lt =
    white_try T fence_scheme (n.RawFlow from) (n.RawFlow state) w events s 0 any_size IsRest IsRest has.white
    (has.each from) (has.each state) none (λ some. absurd (omega arith)) ends next.following
    (let a = next.level in omega (arith, a, one)) (omega (arith, one))
    (λ t up. let a = next.low (spot_at t w.point (calmed s)) in let b = next.tries in omega (arith, a, b))
    (let b = next.tries in omega (arith, b, lt))
good-following T w from state events s false has next none ends one lt = (
  turns T fence_scheme (n.RawFlow from) (n.RawFlow state) w events s (has.each from) (has.each state) next.at_once
      (let a = next.level in omega (arith, a, one))
      (let a = next.low (moved_to (position w) w.point s) in omega (arith, a, lt)),
  refl,
)

-- in a fence, after whitespace or at once
in-fence : (T : Scheme) (w : World) (s : Scratch) (q : Point) (t : Setting) → IsRest (cleared s) →
    s.size ≡ w.scratch.size → in_fence (position w) (after_all T w.frames) →
    Grown w.setting t → Reaches t.limit w.point q → in_fence (spot_at t q (calmed s)) (after_all T w.frames)
in-fence T w s q t is same r up way = (
  record { size = let a = r.0.size in omega (arith, a, same, way.before); rest = ap calmed is },
  later_at IsRest IsRest (position w) (after_all T w.frames) q t (calmed s) up way r.1,
)

follows-info : (T : Scheme) (w : World) → in_fence (position w) (after_all T w.frames) →
    Follows T w its.InfoBefore w.scratch
follows-info T w r = record {
  following = λ q t up way. in-fence T w w.scratch q t r.0.rest refl r up way;
  at_once = r;
  level = refl;
  low = low-info;
  tries = refl;
}

follows-meta : (T : Scheme) (w : World) → in_fence (position w) (after_all T w.frames) →
    Follows T w its.MetaBefore w.scratch
follows-meta T w r = record {
  following = λ q t up way. in-fence T w w.scratch q t r.0.rest refl r up way;
  at_once = r;
  level = refl;
  low = low-meta;
  tries = refl;
}

follows-close : (T : Scheme) (w : World) → in_fence (position w) (after_all T w.frames) →
    Follows T w its.SequenceCloseAfter (cleared w.scratch)
follows-close T w r = record {
  following = λ q t up way.
      (ap calmed r.0.rest, later_at IsRest IsRest (position w) (after_all T w.frames) q t _ up way r.1);
  at_once = (
    r.0.rest,
    later IsRest IsRest (position w) (after_all T w.frames) w.point (cleared w.scratch)
        (stays w.setting.limit w.point) r.1,
  );
  level = refl;
  low = λ x. omega arith;
  tries = refl;
}

-- The opening line.

fence_start_ends : (T : Scheme) (w : World) (x y : Bool) → FenceFits T →
    rest_ready (position w) (after_all T w.frames) → Does T (n.RawFlow its.Start) w (start_code w x y)
fence_start_ends T w false y has r = (refuses T _ w _ _ w.events w.scratch r.1 r.0, refl)
fence_start_ends T w true true has r =
    white_try T fence_scheme _ (n.RawFlow its.BeforeSequenceOpen) w w.events
    (record w.scratch { size_c = w.point.column }) 0 (small_indent w.setting.options) IsRest IsRest has.white
    (has.each its.Start) (has.each its.BeforeSequenceOpen) (rest-none w.scratch r.0) (λ some. absurd (omega arith)) r.1
    (λ q t up way. (
      record {
        size = omega (arith, rest-size w.scratch r.0);
        rest = ap calmed (with-column w.scratch w.point.column r.0);
      },
      later_at _ _ (position w) _ q t _ up way r.1,
    ))
    (omega arith) (omega arith) (λ t up. omega arith) (omega arith)
fence_start_ends T w true false has r = (
  turns T fence_scheme _ (n.RawFlow its.BeforeSequenceOpen) w w.events
      (record w.scratch { size_c = w.point.column }) (has.each its.Start) (has.each its.BeforeSequenceOpen) (
        record {
          size = omega (arith, rest-size w.scratch r.0);
          rest = with-column w.scratch w.point.column r.0;
        },
        later IsRest IsRest (position w) (after_all T w.frames) w.point _ (stays w.setting.limit w.point) r.1,
      )
      (omega arith) (omega arith),
  refl,
)

before_open_ends : (T : Scheme) (w : World) (o : Option ℕ) → FenceFits T →
    in_fence (position w) (after_all T w.frames) → Does T (n.RawFlow its.BeforeSequenceOpen) w (before_open w o)
before_open_ends T w None has r = (refuses T _ w _ _ w.events (cleared w.scratch) r.1 r.0.rest, refl)
before_open_ends T w (Some b) has r = go (is_fence_marker w.setting.options b)
  where
    go : (x : Bool) → Does T (n.RawFlow its.BeforeSequenceOpen) w (before_open_code w b x)
    go true = (
      turns T fence_scheme _ (n.RawFlow its.SequenceOpen) w (block_entered (marked w b) b).events (marked w b).scratch
          (has.each its.BeforeSequenceOpen) (has.each its.SequenceOpen) (
            record { size = r.0.size; rest = r.0.rest },
            later IsRest IsRest (position w) (after_all T w.frames) w.point _ (stays w.setting.limit w.point) r.1,
          )
          (omega arith) (low-marker (is_current b (seen (position w)))),
      refl,
    )
    go false = (refuses T _ w _ _ w.events (cleared w.scratch) r.1 r.0.rest, refl)

fence_open_ends : (T : Scheme) (w : World) (x y z : Bool) → FenceFits T → in_fence (position w) (after_all T w.frames) →
    is_current w.scratch.marker (seen (position w)) ≡ x →
    Does T (n.RawFlow its.SequenceOpen) w (sequence_open_code w x y z)
fence_open_ends T w true y z has r e =
    let inside = seen-in (position w) (is_current w.scratch.marker) refl e in (
      consumes T fence_scheme _ _ w w.events _ (has.each its.SequenceOpen) (has.each its.SequenceOpen) inside (
        record { size = let a = r.0.size in omega (arith, a, cells-grow w.setting w.point); rest = r.0.rest },
        later _ _ (position w) _ _ _ (takes w.setting w.point inside) r.1,
      )
          (omega arith),
      refl,
    )
fence_open_ends T w false true z has r e = (refuses T _ w _ _ w.events (cleared w.scratch) r.1 r.0.rest, refl)
fence_open_ends T w false false z has r e = go (nat_eq w.scratch.marker 36)
  where
    go : (math : Bool) →
        Does T (n.RawFlow its.SequenceOpen) w
        (after_part (exited w (sequence_name w.scratch.marker)) (cond math its.MetaBefore its.InfoBefore) z)
    go true =
        good-following T w its.SequenceOpen its.MetaBefore
        (exited w (sequence_name w.scratch.marker)).events w.scratch z
        has (follows-meta T w r) (fence-none w.scratch r.0.rest) r.1 refl (rw e (omega arith))
    go false =
        good-following T w its.SequenceOpen its.InfoBefore
        (exited w (sequence_name w.scratch.marker)).events w.scratch z
        has (follows-info T w r) (fence-none w.scratch r.0.rest) r.1 refl (rw e (omega arith))

info_before_ends : (T : Scheme) (w : World) (x y : Bool) → FenceFits T → in_fence (position w) (after_all T w.frames) →
    ends_line (seen (position w)) ≡ x → sees_white (seen (position w)) ≡ y →
    Does T (n.RawFlow its.InfoBefore) w (info_before_code w x y)
info_before_ends T w true y has r e f =
    (accepts T _ w _ _ (opened w).events (cleared w.scratch) r.1 r.0.rest, refl)
info_before_ends T w false true has r e f = (refuses T _ w _ _ w.events (cleared w.scratch) r.1 r.0.rest, refl)
info_before_ends T w false false has r e f = (
  turns T fence_scheme _ (n.RawFlow its.Info) w (part_entered w part.CodeFencedFenceInfo).events w.scratch
      (has.each its.InfoBefore) (has.each its.Info) r (omega arith) (rw (e, f) (omega arith)),
  refl,
)

info_ends : (T : Scheme) (w : World) (x y z : Bool) → FenceFits T → in_fence (position w) (after_all T w.frames) →
    ends_word (seen (position w)) ≡ x → Does T (n.RawFlow its.Info) w (info_code w x y z)
info_ends T w true y z has r e =
    good-following T w its.Info its.MetaBefore (part_exited w part.CodeFencedFenceInfo).events w.scratch y has
    (follows-meta T w r) (fence-none w.scratch r.0.rest) r.1 refl (rw e (omega arith))
info_ends T w false y true has r e = (refuses T _ w _ _ w.events (cleared w.scratch) r.1 r.0.rest, refl)
info_ends T w false y false has r e =
    let inside = seen-in (position w) (λ (o : Option ℕ). not (ends_word o)) refl (ap not e) in (
      consumes T fence_scheme _ _ w w.events w.scratch (has.each its.Info) (has.each its.Info) inside (
        record { size = let a = r.0.size in omega (arith, a, cells-grow w.setting w.point); rest = r.0.rest },
        later _ _ (position w) _ _ _ (takes w.setting w.point inside) r.1,
      )
          (omega arith),
      refl,
    )

meta_before_ends : (T : Scheme) (w : World) (x y : Bool) → FenceFits T → in_fence (position w) (after_all T w.frames) →
    ends_line (seen (position w)) ≡ x → Does T (n.RawFlow its.MetaBefore) w (meta_before_code w x y)
meta_before_ends T w true y has r e = (
  turns T fence_scheme _ (n.RawFlow its.InfoBefore) w w.events w.scratch (has.each its.MetaBefore)
      (has.each its.InfoBefore) r (omega arith) (rw e (omega arith)),
  refl,
)
meta_before_ends T w false true has r e = (refuses T _ w _ _ w.events (cleared w.scratch) r.1 r.0.rest, refl)
meta_before_ends T w false false has r e = (
  turns T fence_scheme _ (n.RawFlow its.Meta) w (part_entered w (meta_name w.scratch.marker)).events w.scratch
      (has.each its.MetaBefore) (has.each its.Meta) r (omega arith) (rw e (omega arith)),
  refl,
)

meta_ends : (T : Scheme) (w : World) (x y : Bool) → FenceFits T → in_fence (position w) (after_all T w.frames) →
    ends_line (seen (position w)) ≡ x → Does T (n.RawFlow its.Meta) w (meta_code w x y)
meta_ends T w true y has r e = (
  turns T fence_scheme _ (n.RawFlow its.InfoBefore) w (part_exited w (meta_name w.scratch.marker)).events w.scratch
      (has.each its.Meta) (has.each its.InfoBefore) r (omega arith) (rw e (omega arith)),
  refl,
)
meta_ends T w false true has r e = (refuses T _ w _ _ w.events (cleared w.scratch) r.1 r.0.rest, refl)
meta_ends T w false false has r e =
    let inside = seen-in (position w) (λ (o : Option ℕ). not (ends_line o)) refl (ap not e) in (
      consumes T fence_scheme _ _ w w.events w.scratch (has.each its.Meta) (has.each its.Meta) inside (
        record { size = let a = r.0.size in omega (arith, a, cells-grow w.setting w.point); rest = r.0.rest },
        later _ _ (position w) _ _ _ (takes w.setting w.point inside) r.1,
      )
          (omega arith),
      refl,
    )

-- A further line.

further_ends : (T : Scheme) (w : World) (x : Bool) → FenceFits T → rest_ready (position w) (after_all T w.frames) →
    Does T (n.RawFlow its.AtNonLazyBreak) w (at_non_lazy_break_code w x)
further_ends T w true has r = (
  begins_try T fence_scheme fence_scheme (n.RawFlow its.AtNonLazyBreak) (n.RawFlow its.CloseStart) w IsRest IsRest
      (line_entered w).events (record w.scratch { marker = held_marker w.flags.leaf })
      (record {
        ok = Next (n.RawFlow its.After);
        nok = Next (n.RawFlow its.ContentStart);
        is_check = false;
        events_len = length (line_entered w).events;
        point = w.point;
      })
      (has.each its.AtNonLazyBreak) (has.each its.CloseStart) (has.each its.After) (has.each its.ContentStart) refl
      (record {
        ok = λ s q t is up way. (is, later_at IsRest IsRest (position w) (after_all T w.frames) q t s up way r.1);
        ok_level = omega arith;
        ok_rank = λ s t is up. omega arith;
        nok = λ s t is up.
            (is, later_at IsRest IsRest (position w) (after_all T w.frames) w.point t s up (stays t.limit w.point) r.1);
        nok_level = omega arith;
        nok_rank = λ s t is up. omega arith;
      })
      (λ K e. (
        record {
          size = omega (arith, rest-size w.scratch r.0);
          rest = with-marker w.scratch (held_marker w.flags.leaf) r.0;
        },
        e,
      ))
      (omega arith) (omega arith) (omega arith),
  refl,
)
further_ends T w false has r = (
  turns T fence_scheme _ (n.RawFlow its.ContentStart) w (line_entered w).events w.scratch
      (has.each its.AtNonLazyBreak) (has.each its.ContentStart) r (omega arith) (omega arith),
  refl,
)

close_start_ends : (T : Scheme) (w : World) (x : Bool) → FenceFits T → in_fence (position w) (after_all T w.frames) →
    Does T (n.RawFlow its.CloseStart) w (close_start_code w x)
close_start_ends T w true has r =
    white_try T fence_scheme _ (n.RawFlow its.BeforeSequenceClose) w w.events w.scratch 0
    (small_indent w.setting.options) IsRest IsRest has.white (has.each its.CloseStart)
    (has.each its.BeforeSequenceClose) (fence-none w.scratch r.0.rest) (λ some. absurd (omega arith)) r.1
    (λ q t up way. in-fence T w w.scratch q t r.0.rest refl r up way) (omega arith) (omega arith)
    (λ t up. omega arith) (omega arith)
close_start_ends T w false has r = (
  turns T fence_scheme _ (n.RawFlow its.BeforeSequenceClose) w w.events w.scratch (has.each its.CloseStart)
      (has.each its.BeforeSequenceClose) r (omega arith) (omega arith),
  refl,
)

before_close_ends : (T : Scheme) (w : World) (x : Bool) → FenceFits T → in_fence (position w) (after_all T w.frames) →
    Does T (n.RawFlow its.BeforeSequenceClose) w (before_close_code w x)
before_close_ends T w true has r = (
  turns T fence_scheme _ (n.RawFlow its.SequenceClose) w (before_close_code w true).world.events w.scratch
      (has.each its.BeforeSequenceClose) (has.each its.SequenceClose) r (omega arith)
      (low-marker (is_current w.scratch.marker (seen (position w)))),
  refl,
)
before_close_ends T w false has r = (refuses T _ w _ _ w.events (cleared w.scratch) r.1 r.0.rest, refl)

fence_close_ends : (T : Scheme) (w : World) (x y z : Bool) → FenceFits T →
    in_fence (position w) (after_all T w.frames) → is_current w.scratch.marker (seen (position w)) ≡ x →
    Does T (n.RawFlow its.SequenceClose) w (sequence_close_code w x y z)
fence_close_ends T w true y z has r e =
    let inside = seen-in (position w) (is_current w.scratch.marker) refl e in (
      consumes T fence_scheme _ _ w w.events _ (has.each its.SequenceClose) (has.each its.SequenceClose) inside (
        record { size = let a = r.0.size in omega (arith, a, cells-grow w.setting w.point); rest = r.0.rest },
        later _ _ (position w) _ _ _ (takes w.setting w.point inside) r.1,
      )
          (omega arith),
      refl,
    )
fence_close_ends T w false true z has r e = (refuses T _ w _ _ w.events (cleared w.scratch) r.1 r.0.rest, refl)
fence_close_ends T w false false z has r e =
    good-following T w its.SequenceClose its.SequenceCloseAfter (exited w (sequence_name w.scratch.marker)).events
    (cleared w.scratch) z has (follows-close T w r) (fence-none w.scratch r.0.rest) r.1 refl (rw e (omega arith))

close_after_ends : (T : Scheme) (w : World) (x : Bool) → rest_ready (position w) (after_all T w.frames) →
    Does T (n.RawFlow its.SequenceCloseAfter) w (close_after_code w x)
close_after_ends T w true r = (accepts T _ w _ _ (close_after_code w true).world.events w.scratch r.1 r.0, refl)
close_after_ends T w false r = (refuses T _ w _ _ w.events w.scratch r.1 r.0, refl)

content_start_ends : (T : Scheme) (w : World) (x : Bool) → FenceFits T →
    rest_ready (position w) (after_all T w.frames) → Does T (n.RawFlow its.ContentStart) w (content_start_code w x)
content_start_ends T w true has r =
    white_try T fence_scheme _ (n.RawFlow its.BeforeContentChunk) w w.events w.scratch 0 (held_indent w.flags.leaf)
    IsRest IsRest has.white (has.each its.ContentStart) (has.each its.BeforeContentChunk) (rest-none w.scratch r.0)
    (λ some. absurd (omega arith)) r.1
    (λ q t up way. (rest-calm w.scratch r.0, later_at _ _ (position w) _ q t _ up way r.1)) (omega arith) (omega arith)
    (λ t up. low-chunk (ends_line (seen (spot_at t w.point (calmed w.scratch))))) (omega arith)
content_start_ends T w false has r = (
  turns T fence_scheme _ (n.RawFlow its.BeforeContentChunk) w w.events w.scratch (has.each its.ContentStart)
      (has.each its.BeforeContentChunk) r (omega arith)
      (let a = low-chunk (ends_line (seen (position w))) in omega (arith, a)),
  refl,
)

before_chunk_ends : (T : Scheme) (w : World) (x : Bool) → FenceFits T → rest_ready (position w) (after_all T w.frames) →
    ends_line (seen (position w)) ≡ x → Does T (n.RawFlow its.BeforeContentChunk) w (before_chunk_code w x)
before_chunk_ends T w true has r e = (accepts T _ w _ _ (before_chunk_code w true).world.events w.scratch r.1 r.0, refl)
before_chunk_ends T w false has r e = (
  turns T fence_scheme _ (n.RawFlow its.ContentChunk) w (before_chunk_code w false).world.events w.scratch
      (has.each its.BeforeContentChunk) (has.each its.ContentChunk) r (omega arith) (rw e (omega arith)),
  refl,
)

fence_chunk_ends : (T : Scheme) (w : World) (x : Bool) → FenceFits T → rest_ready (position w) (after_all T w.frames) →
    ends_line (seen (position w)) ≡ x → Does T (n.RawFlow its.ContentChunk) w (chunk_code w x)
fence_chunk_ends T w true has r e = (
  turns T fence_scheme _ (n.RawFlow its.BeforeContentChunk) w (chunk_code w true).world.events w.scratch
      (has.each its.ContentChunk) (has.each its.BeforeContentChunk) r (omega arith) (rw e (omega arith)),
  refl,
)
fence_chunk_ends T w false has r e =
    let inside = seen-in (position w) (λ (o : Option ℕ). not (ends_line o)) refl (ap not e) in (
      consumes T fence_scheme _ _ w w.events w.scratch (has.each its.ContentChunk) (has.each its.ContentChunk) inside
          (r.0, later _ _ (position w) _ _ _ (takes w.setting w.point inside) r.1) (omega arith),
      refl,
    )

-- each state of fenced code and math
pub fence_terminates : (T : Scheme) (state : RawState) (w : World) → FenceFits T → w.current ≡ looks w →
    fence_ready (n.RawFlow state) (position w) (after_all T w.frames) →
    Does T (n.RawFlow state) w (fence_transition state w)
fence_terminates T its.Start w has c r = fence_start_ends T w _ _ has r
fence_terminates T its.BeforeSequenceOpen w has c r = before_open_ends T w w.current has r
fence_terminates T its.SequenceOpen w has c r =
    fence_open_ends T w _ _ _ has r (ap (is_current w.scratch.marker) (sym c))
fence_terminates T its.InfoBefore w has c r =
    info_before_ends T w _ _ has r (ap ends_line (sym c)) (ap sees_white (sym c))
fence_terminates T its.Info w has c r = info_ends T w _ _ _ has r (ap ends_word (sym c))
fence_terminates T its.MetaBefore w has c r = meta_before_ends T w _ _ has r (ap ends_line (sym c))
fence_terminates T its.Meta w has c r = meta_ends T w _ _ has r (ap ends_line (sym c))
fence_terminates T its.AtNonLazyBreak w has c r = further_ends T w _ has r
fence_terminates T its.CloseStart w has c r = close_start_ends T w _ has r
fence_terminates T its.BeforeSequenceClose w has c r = before_close_ends T w _ has r
fence_terminates T its.SequenceClose w has c r =
    fence_close_ends T w _ _ _ has r (ap (is_current w.scratch.marker) (sym c))
fence_terminates T its.SequenceCloseAfter w has c r = close_after_ends T w _ r
fence_terminates T its.ContentBefore w has c r = (
  turns T fence_scheme _ (n.RawFlow its.ContentStart) w w.events w.scratch (has.each its.ContentBefore)
      (has.each its.ContentStart) r (omega arith) (omega arith),
  refl,
)
fence_terminates T its.ContentStart w has c r = content_start_ends T w _ has r
fence_terminates T its.BeforeContentChunk w has c r = before_chunk_ends T w _ has r (ap ends_line (sym c))
fence_terminates T its.ContentChunk w has c r = fence_chunk_ends T w _ has r (ap ends_line (sym c))
fence_terminates T its.After w has c r =
    (accepts T _ w _ _ (exited w (block_name (held_marker w.flags.leaf))).events w.scratch r.1 r.0, refl)
