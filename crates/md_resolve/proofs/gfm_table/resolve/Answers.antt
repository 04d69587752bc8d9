use Rattle.md_engine.specs.World.{world}
use Rattle.md_order.specs.TablesNest.{TablesNest}
use Rattle.md_order.proofs.Nests.Tables.{tables-nested}
use Rattle.md_resolve.proofs.Nested.{answers-nested}
use Rattle.md_resolve.proofs.gfm_table.resolve.Goals as goal
use Rattle.md_tables.specs.Tabled.{tabled}

pub returns-clause-nested : goal.returns-clause-nested
returns-clause-nested c =
    let old = world c.args.tokenizer.now in
    answers-nested c.pass.result old (world c.pass.new.tokenizer) (tabled old.events) (TablesNest old.events)
    (tables-nested old.events) c.pass.ensures.world
