use Rattle.std.proofs.Common.{◌++◌, ◌∙◌, List, ℕ, ap, ap₂, arith, length, map, subst, sym}
use Rattle.std.specs.Prelude.{Option}
use Rattle.std.specs.String.{string_bytes}
use Rattle.md_engine.specs.declared.event.Event.{Event}
use Rattle.md_engine.specs.declared.event.Point.{Point}
use Rattle.md_meaning.specs.Label.{Labels}
use Rattle.markdown_blocks.specs.declared.parts.Part.{Part}
use Rattle.markdown_blocks.specs.Definitions.{marked}
use Rattle.markdown_blocks.proofs.AllBlocks.{IsBefore, front-before, next-before}
use Rattle.markdown_blocks.proofs.DefinitionLemmas.{marks-more}
use Rattle.markdown_blocks.proofs.blocks.read_blocks.Goals as goal

pub loop-next-init : goal.loop-next-init
loop-next-init c =
    let all : Part = record {
      events = c.in_ok-front.front.events;
      definitions = c.new.result;
      gfm_footnote_definitions = c.new-2.result;
    } in
    record {
      blocks =
          subst (IsBefore c.args.options.now c.args.text.now all) (sym c.point_in-next.ensures)
          (front-before c.args.options.now c.args.text.now c.in_ok-front.front.point all
          (record {
            starts = c.in_ok-front.ensures.reads.point;
            is = c.in_ok-front.ensures.reads.events;
            are = c.in_ok-front.ensures.front;
            point = rw c.in_ok-front.ensures.reads.bytes_are at c.in_ok-front.front.sound.placed;
            placed = rw c.in_ok-front.ensures.reads.bytes_are at c.in_ok-front.front.sound.right;
          })
          (ap₂
          (λ (d f : List _).
          let l : Labels = record { definitions = map string_bytes d; footnotes = map string_bytes f } in l)
          c.new.ensures.items c.new-2.ensures.items));
      marks = λ wants.
          rw c.deref.ensures.value at c.in_ok-mark_if.ensures wants
          ∙ ap (λ (l : List ℕ). l ++ marked 0 c.in_ok-front.front.events.items) c.new-marks.ensures.items;
    }

pub loop-next-preserved : goal.loop-next-preserved
loop-next-preserved c = record {
  blocks =
      next-before c.args.options.now c.args.text.now c.loop-next.all c.in-Some.start c.in_ok-part.part c.in_ok-part.after
      c.add_part.new.all (omega (arith, c.requires.small))
      (subst (λ (o : Option Point). IsBefore c.args.options.now c.args.text.now c.loop-next.all o) c.in-Some.is
      c.loop-next.invariant.blocks) c.in_ok-part.ensures.part c.in_ok-part.ensures.next c.in_ok-spare-2.ensures.events
      c.in_ok-spare-2.ensures.labels;
  marks = λ wants.
      rw c.deref-in-Some.ensures.value at c.in_ok-mark_if-2.ensures wants
      ∙ ap (λ (k : ℕ). c.loop-next.marks.items ++ marked k c.in_ok-part.part.events.items)
      (c.len.ensures ∙ c.loop-next.all.events.ok.0)
      ∙ ap (λ (l : List ℕ). l ++ marked (length c.loop-next.all.events.items) c.in_ok-part.part.events.items)
      (c.loop-next.invariant.marks wants)
      ∙ sym (marks-more c.loop-next.all.events.items c.in_ok-part.part.events.items)
      ∙ ap (λ (l : List Event). marked 0 l) (sym c.in_ok-spare-2.ensures.events);
}
