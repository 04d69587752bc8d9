use Rattle.md_engine.specs.World.{world}
use Rattle.md_leaves.specs.Turned.{turned}
use Rattle.md_order.specs.TurnsNest.{TurnsNest}
use Rattle.md_order.proofs.Nests.Turns.{turned-nested}
use Rattle.md_resolve.proofs.Nested.{answers-nested}
use Rattle.md_resolve.proofs.heading_setext.resolve.Goals as goal

pub returns-clause-nested : goal.returns-clause-nested
returns-clause-nested c =
    let old = world c.args.tokenizer.now in
    answers-nested c.pass.result old (world c.pass.new.tokenizer) (turned old.events) (TurnsNest old.events)
    (turned-nested old.events) c.pass.ensures.world
