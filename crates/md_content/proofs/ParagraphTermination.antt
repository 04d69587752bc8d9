-- A paragraph is and ends in any table that has it.
use Rattle.std.proofs.Common.{◌≡◌, ℕ, ◌<◌, Bool, true, false, nat_eq, Option, Some, None, refl, sym, arith}
use Rattle.md_engine.specs.declared.event.Name.TheVariants as parts
use Rattle.md_engine.specs.declared.state.Name.TheVariants as n
use Rattle.md_engine.specs.declared.state.paragraph.State.{State as ParagraphState}
use Rattle.md_engine.specs.declared.state.paragraph.State.TheVariants as paragraph
use Rattle.md_engine.specs.Scheme.{Fits, Scheme, after_all, seen, position}
use Rattle.md_engine.specs.World.{World, looks}
use Rattle.md_engine.proofs.Falls.{later}
use Rattle.md_engine.proofs.Local.{accepts, consumes, turns}
use Rattle.md_engine.proofs.Points.{takes}
use Rattle.md_content.specs.Paragraph.{inside_code, line_start_transition, paragraph_scheme, paragraph_transition}
use Rattle.md_content.specs.Paragraph.{start_transition, text_link}
use Rattle.md_events.specs.Spaces.{rest_ready}
use Rattle.md_events.specs.Transition.{entered, entered_link, exited, taken}
use Rattle.md_events.proofs.SpacesTermination.{Does, seen-some}

pub record ParagraphFits (T : Scheme) : Type 1 where
  pub each : (state : ParagraphState) → Fits T paragraph_scheme (n.Paragraph state)

start_ends : (T : Scheme) (w : World) → ParagraphFits T → rest_ready (position w) (after_all T w.frames) →
    Does T (n.Paragraph paragraph.Start) w (start_transition w)
start_ends T w has r = (
  turns T paragraph_scheme _ _ w (entered w parts.Paragraph).events w.scratch (has.each paragraph.Start)
      (has.each paragraph.LineStart) r (omega arith) (omega arith),
  refl,
)

line_start_ends : (T : Scheme) (w : World) → ParagraphFits T → rest_ready (position w) (after_all T w.frames) →
    Does T (n.Paragraph paragraph.LineStart) w (line_start_transition w)
line_start_ends T w has r = (
  turns T paragraph_scheme _ _ w (entered_link w parts.Data text_link).events w.scratch
      (has.each paragraph.LineStart) (has.each paragraph.Inside) r (omega arith) (omega arith),
  refl,
)

inside_ends : (T : Scheme) (w : World) (o : Option ℕ) → ParagraphFits T →
    rest_ready (position w) (after_all T w.frames) →
    seen (position w) ≡ o → Does T (n.Paragraph paragraph.Inside) w (inside_code w o)
inside_ends T w None has r e =
    (accepts T _ w _ _ (exited (exited w parts.Data) parts.Paragraph).events w.scratch r.1 r.0, refl)
inside_ends T w (Some b) has r e = go (nat_eq b 10) refl
  where
    inside : w.point.index < w.setting.limit
    inside = seen-some (position w) b e

    go : (x : Bool) → nat_eq b 10 ≡ x → Does T (n.Paragraph paragraph.Inside) w (inside_code w (Some b))
    go true k =
        rw k (
          consumes T paragraph_scheme _ _ w (exited (taken w) parts.Data).events w.scratch (has.each paragraph.Inside)
              (has.each paragraph.LineStart) inside
              (r.0, later _ _ (position w) _ _ _ (takes w.setting w.point inside) r.1)
              (omega arith),
          refl,
        )
    go false k =
        rw k (
          consumes T paragraph_scheme _ _ w w.events w.scratch (has.each paragraph.Inside)
              (has.each paragraph.Inside) inside (
                r.0,
                later _ _ (position w) _ _ _
                    (takes w.setting w.point inside) r.1,
              )
              (omega arith),
          refl,
        )

-- each state of a paragraph
pub paragraph_terminates : (T : Scheme) (state : ParagraphState) (w : World) → ParagraphFits T → w.current ≡ looks w →
    rest_ready (position w) (after_all T w.frames) →
    Does T (n.Paragraph state) w (paragraph_transition state w)
paragraph_terminates T paragraph.Start w has c r = start_ends T w has r
paragraph_terminates T paragraph.LineStart w has c r = line_start_ends T w has r
paragraph_terminates T paragraph.Inside w has c r = inside_ends T w w.current has r (sym c)
