use Rattle.md_engine.specs.World.{world}
use Rattle.md_containers.specs.Listed.{listed}
use Rattle.md_order.specs.Nests.{ListsNest}
use Rattle.md_order.proofs.Nests.All.{lists-nested}
use Rattle.md_resolve.proofs.Nested.{answers-nested}
use Rattle.md_resolve.proofs.list_item.resolve.Goals as goal

pub returns-clause-nested : goal.returns-clause-nested
returns-clause-nested c =
    let old = world c.args.tokenizer.now in
    answers-nested c.pass.result old (world c.pass.new.tokenizer) (listed old.setting.bytes old.events)
    (ListsNest old.events) (lists-nested old.setting.bytes old.events) c.pass.ensures.world
