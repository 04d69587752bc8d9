use Rattle.std.proofs.Common.{rules, refl, ◌∙◌, ap, drop}
use Rattle.md_meaning.specs.State.{At, then_block}
use Rattle.md_meaning.specs.Step.{spot_of}
use Rattle.reference_tree.specs.Held.{blocks_meaning}
use Rattle.reference_tree.specs.States.{spot_meaning}
use Rattle.reference_tree.proofs.PathLemmas.{closed-within, popped-take, popped-closed}
use Rattle.reference_tree.proofs.close.close_to.Goals as goal

pub loop-frames-init : goal.loop-frames-init
loop-frames-init c = record {
  outer = refl;
  blocks =
      closed-within c.args.options.now (drop c.args.count c.args.path.frames.items)
      (At (spot_of (blocks_meaning c.in_ok-here.here))) (At (spot_meaning c.args.path.spot)) c.in_ok-here.ensures;
}

pub loop-frames-preserved : goal.loop-frames-preserved
loop-frames-preserved c = record {
  outer =
      popped-take c.args.count c.loop-frames.frames.items c.pop.new.self.items c.pop.result c.in-Some.field-0
      c.in-Some.is c.pop.ensures.items
      (search rules)
      ∙ c.loop-frames.invariant.outer;
  blocks =
      popped-closed c.args.options.now c.args.count c.loop-frames.frames.items c.pop.new.self.items c.pop.result
      c.in-Some.field-0
      (blocks_meaning c.loop-frames.here) (blocks_meaning c.push_whole.new.blocks) c.in-Some.is c.pop.ensures.items
      (search rules)
      (c.in_ok-push_whole.ensures ∙ ap (then_block (blocks_meaning c.in-Some.field-0.before)) c.container_block.ensures)
      ∙ c.loop-frames.invariant.blocks;
}
