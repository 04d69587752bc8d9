use Rattle.md_engine.specs.World.{world}
use Rattle.md_leaves.specs.HeadingText.{headings_resolved}
use Rattle.md_order.specs.HeadingsNest.{HeadingsNest}
use Rattle.md_order.proofs.Nests.Headings.{headings-nested}
use Rattle.md_resolve.proofs.Nested.{answers-nested}
use Rattle.md_resolve.proofs.heading_atx.resolve.Goals as goal

pub returns-clause-nested : goal.returns-clause-nested
returns-clause-nested c =
    let old = world c.args.tokenizer.now in
    answers-nested c.pass.result old (world c.pass.new.tokenizer) (headings_resolved old.events)
    (HeadingsNest old.events) (headings-nested old.events) c.pass.ensures.world
