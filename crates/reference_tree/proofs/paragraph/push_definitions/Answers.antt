use Rattle.std.proofs.Common.{◌∙◌, ap}
use Rattle.md_meaning.specs.State.{then_block}
use Rattle.reference_tree.specs.Held.{blocks_meaning}
use Rattle.reference_tree.proofs.ParagraphLemmas.{definitions-next}
use Rattle.reference_tree.proofs.paragraph.push_definitions.Goals as goal

pub loop-defined-preserved : goal.loop-defined-preserved
loop-defined-preserved c =
    definitions-next (blocks_meaning c.args.blocks.now) (blocks_meaning c.loop-defined.blocks)
    (blocks_meaning c.push_block.new.blocks) c.loop-defined.yielded c.in-Some.defined c.loop-defined.invariant
    (c.in_ok-push_block.ensures ∙ ap (then_block (blocks_meaning c.loop-defined.blocks)) c.definition_block.ensures)
