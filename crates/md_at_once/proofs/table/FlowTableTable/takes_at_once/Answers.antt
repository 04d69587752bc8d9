use Rattle.std.proofs.lemmas.Option.{IfSome_then}
use Rattle.md_engine.specs.declared.state.Name.TheVariants as n
use Rattle.md_registry.proofs.FlowStays.{flow-stays}
use Rattle.md_at_once.proofs.table.FlowTableTable.takes_at_once.Goals as goal

pub returns-in-Content : goal.returns-in-Content
returns-in-Content c =
    rw c.in-Content.is
    (flow-stays (n.Content c.in-Content.state) c.takes_at_once.result
    (IfSome_then c.takes_at_once.result c.takes_at_once.ensures (λ k h. h)))

pub returns-in-SpaceOrTab : goal.returns-in-SpaceOrTab
returns-in-SpaceOrTab c =
    rw c.in-SpaceOrTab.is
    (flow-stays (n.SpaceOrTab c.in-SpaceOrTab.state) c.takes_at_once-in-SpaceOrTab.result
    c.takes_at_once-in-SpaceOrTab.ensures)

pub returns-in_default : goal.returns-in_default
returns-in_default c =
    flow-stays c.args.name c.takes_at_once-in_default.result
    (IfSome_then c.takes_at_once-in_default.result c.takes_at_once-in_default.ensures (λ k h. h))
