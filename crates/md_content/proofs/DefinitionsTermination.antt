-- What is before a paragraph is and ends in any table that has it, and definitions.
use Rattle.std.proofs.Common.{◌≡◌, ℕ, ◌<◌, Bool, true, false, nat_eq, Option, Some, None, length, refl, sym, arith}
use Rattle.md_meaning.specs.Ascii.{line_feed}
use Rattle.md_engine.specs.declared.state.Name.TheVariants as n
use Rattle.md_engine.specs.declared.state.content.State.{State as ContentState}
use Rattle.md_engine.specs.declared.state.content.State.TheVariants as its
use Rattle.md_engine.specs.declared.state.definition.State.TheVariants as definition
use Rattle.md_engine.specs.declared.state.paragraph.State.TheVariants as paragraph
use Rattle.md_engine.specs.declared.state.State.TheVariants.{Next}
use Rattle.md_engine.specs.declared.tokenizer.Frame.{Frame}
use Rattle.md_engine.specs.Scheme.{After, Fits, Scheme, after_all, seen, position}
use Rattle.md_engine.specs.World.{World, looks}
use Rattle.md_engine.proofs.Falls.{later, later_at}
use Rattle.md_engine.proofs.Local.{accepts, begins_later, consumes, refuses, turns}
use Rattle.md_engine.proofs.Points.{passes-reaches, stays, takes}
use Rattle.md_content.specs.Definitions.{definition_after_code, definition_before_code, definitions_ready}
use Rattle.md_content.specs.Definitions.{definitions_scheme, definitions_transition}
use Rattle.md_content.proofs.ParagraphTermination.{ParagraphFits}
use Rattle.md_link_definitions.specs.Definition.{definition_scheme}
use Rattle.md_link_definitions.proofs.DefinitionTermination.{DefinitionFits}
use Rattle.md_events.specs.Spaces.{IsRest, rest_ready}
use Rattle.md_events.proofs.SpacesTermination.{Does, seen-some}

-- a table that has its states, definitions and the paragraph
pub record DefinitionsFits (T : Scheme) : Type 1 where
  pub definition : DefinitionFits T
  pub paragraph : ParagraphFits T
  pub each : (state : ContentState) → Fits T definitions_scheme (n.Content state)

-- the paragraph that may be next
paragraph-next : (T : Scheme) → DefinitionsFits T → Fits T definitions_scheme (n.Paragraph paragraph.Start)
paragraph-next T has =
    let fits = has.paragraph.each paragraph.Start in
    record { ready = fits.ready; level = fits.level; rank = fits.rank; tries = fits.tries }

before_ends : (T : Scheme) (w : World) (x : Bool) → DefinitionsFits T → rest_ready (position w) (after_all T w.frames) →
    Does T (n.Content its.DefinitionBefore) w (definition_before_code w x)
before_ends T w true has r =
    let K : After = after_all T w.frames in
    let f : Frame = record {
      ok = Next (n.Content its.DefinitionAfter);
      nok = Next (n.Paragraph paragraph.Start);
      is_check = false;
      events_len = length w.events;
      point = w.point;
    } in (
      begins_later T definitions_scheme definition_scheme _ (n.Definition definition.Start) w IsRest IsRest w.events
          w.scratch f (has.each its.DefinitionBefore) (has.definition.each definition.Start)
          (has.each its.DefinitionAfter) (paragraph-next T has) refl
          (record {
            moves_on = refl;
            ok = λ s q t is up way.
                (is, later_at _ _ (position w) K q t s up (passes-reaches t.limit w.point q way) r.1);
            ok_level = omega arith;
            nok = λ s t is up. (is, later_at _ _ (position w) K w.point t s up (stays t.limit w.point) r.1);
            nok_level = omega arith;
            nok_rank = λ s t is up. omega arith;
          })
          (λ K e. (r.0, e)) (omega arith) (omega arith) (omega arith),
      refl,
    )
before_ends T w false has r = (
  turns T definitions_scheme _ _ w w.events w.scratch (has.each its.DefinitionBefore) (paragraph-next T has) r
      (omega arith) (omega arith),
  refl,
)

after_ends : (T : Scheme) (w : World) (o : Option ℕ) → DefinitionsFits T →
    rest_ready (position w) (after_all T w.frames) →
    seen (position w) ≡ o → Does T (n.Content its.DefinitionAfter) w (definition_after_code w o)
after_ends T w None has r e = (accepts T _ w _ _ w.events w.scratch r.1 r.0, refl)
after_ends T w (Some b) has r e = go (nat_eq b line_feed) refl
  where
    inside : w.point.index < w.setting.limit
    inside = seen-some (position w) b e

    go : (x : Bool) → nat_eq b line_feed ≡ x →
        Does T (n.Content its.DefinitionAfter) w (definition_after_code w (Some b))
    go true k =
        rw k (
          consumes T definitions_scheme _ _ w (definition_after_code w (Some line_feed)).world.events w.scratch
              (has.each its.DefinitionAfter) (has.each its.DefinitionBefore) inside
              (r.0, later _ _ (position w) _ _ _ (takes w.setting w.point inside) r.1) (omega arith),
          refl,
        )
    go false k = rw k (refuses T _ w _ _ w.events w.scratch r.1 r.0, refl)

-- each state before a paragraph
pub definitions_terminates : (T : Scheme) (state : ContentState) (w : World) → DefinitionsFits T → w.current ≡ looks w →
    definitions_ready (n.Content state) (position w) (after_all T w.frames) →
    Does T (n.Content state) w (definitions_transition state w)
definitions_terminates T its.DefinitionBefore w has c r = before_ends T w _ has r
definitions_terminates T its.DefinitionAfter w has c r = after_ends T w w.current has r (sym c)
definitions_terminates T its.ChunkStart w has c r = absurd r
definitions_terminates T its.ChunkInside w has c r = absurd r
