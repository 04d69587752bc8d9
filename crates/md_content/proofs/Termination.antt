-- A line of content is and ends in any table that has it.
use Rattle.std.proofs.Common.{◌≡◌, ℕ, ◌≤◌, Bool, true, false, Option, Some, None, refl, sym, ap, arith}
use Rattle.md_engine.specs.declared.event.Name.TheVariants as parts
use Rattle.md_engine.specs.declared.state.Name.TheVariants as n
use Rattle.md_engine.specs.declared.state.content.State.{State as ContentState}
use Rattle.md_engine.specs.declared.state.content.State.TheVariants as content
use Rattle.md_engine.specs.declared.tokenizer.Scratch.{Scratch}
use Rattle.md_engine.specs.Scheme.{Fits, Scheme, after_all, position}
use Rattle.md_engine.specs.World.{World, after, looks}
use Rattle.md_engine.proofs.Falls.{later}
use Rattle.md_engine.proofs.Local.{accepts, consumes, turns}
use Rattle.md_engine.proofs.Points.{stays, takes}
use Rattle.md_content.specs.Chunks.{begun, chunk_inside_code, chunk_ready, chunk_scheme, chunk_start_transition}
use Rattle.md_content.specs.Chunks.{chunk_transition, content_link, in_chunk, unbegun}
use Rattle.md_events.proofs.LineTaken.{whole-following}
use Rattle.md_events.specs.Lent.{whole_from}
use Rattle.md_events.specs.Spaces.{IsRest, ends_line, rest_ready}
use Rattle.md_events.specs.Transition.{entered_link, exited}
use Rattle.md_events.proofs.SpacesTermination.{Does, inside-line}

pub record ChunkFits (T : Scheme) : Type 1 where
  pub each : (state : ContentState) → Fits T chunk_scheme (n.Content state)

chunk_start_ends : (T : Scheme) (w : World) → ChunkFits T → rest_ready (position w) (after_all T w.frames) →
    Does T (n.Content content.ChunkStart) w (chunk_start_transition w)
chunk_start_ends T w has r = (
  turns T chunk_scheme _ (n.Content content.ChunkInside) w (entered_link w parts.Content content_link).events s
      (has.each content.ChunkStart) (has.each content.ChunkInside) (
        omega arith,
        ap unbegun r.0,
        later IsRest IsRest (position w) (after_all T w.frames) w.point s (stays w.setting.limit w.point) r.1,
      )
      (omega arith) (omega arith),
  refl,
)
  where
    s : Scratch
    s = begun w.point w.scratch

-- a byte of the line lies before the point after it
start-taken : (w : World) (o : Option ℕ) → o ≡ looks w → ends_line o ≡ false → w.scratch.start ≤ whole_from w.point →
    w.scratch.start ≤ whole_from (after w.setting w.point)
start-taken w None c e le = cc
start-taken w (Some b) c e le = omega (arith, le, whole-following w.setting w.point b e (sym c))

chunk_inside_ends : (T : Scheme) (w : World) (x : Bool) → ChunkFits T →
    in_chunk (position w) (after_all T w.frames) → w.current ≡ looks w → ends_line w.current ≡ x →
    Does T (n.Content content.ChunkInside) w (chunk_inside_code w x)
chunk_inside_ends T w true has r c e =
    (accepts T _ w IsRest IsRest (exited w parts.Content).events (unbegun w.scratch) r.2 r.1, refl)
chunk_inside_ends T w false has r c e =
    let inside = inside-line w c e in (
      consumes T chunk_scheme _ (n.Content content.ChunkInside) w w.events w.scratch (has.each content.ChunkInside)
          (has.each content.ChunkInside) inside (
            start-taken w w.current c e r.0,
            r.1,
            later IsRest IsRest (position w) (after_all T w.frames) _ w.scratch (takes w.setting w.point inside) r.2,
          )
          (omega arith),
      refl,
    )

-- each state of a line of content
pub chunk_terminates : (T : Scheme) (state : ContentState) (w : World) → ChunkFits T →
    w.current ≡ looks w → chunk_ready (n.Content state) (position w) (after_all T w.frames) →
    Does T (n.Content state) w (chunk_transition state w)
chunk_terminates T content.ChunkStart w has c r = chunk_start_ends T w has r
chunk_terminates T content.ChunkInside w has c r =
    chunk_inside_ends T w (ends_line w.current) has r c refl
chunk_terminates T state w has c r = absurd r
