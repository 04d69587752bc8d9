use Rattle.md_engine.specs.declared.state.Name.TheVariants as n
use Rattle.md_tables.proofs.HeadStates.{head-stays}
use Rattle.md_tables.proofs.heads.HeadTableTable.takes_at_once.Goals as goal

pub returns-in-GfmTable : goal.returns-in-GfmTable
returns-in-GfmTable c =
    rw c.in-GfmTable.is
    (head-stays (n.GfmTable c.in-GfmTable.state) c.row_stays.result c.row_stays.ensures)

pub returns-in-SpaceOrTab : goal.returns-in-SpaceOrTab
returns-in-SpaceOrTab c =
    rw c.in-SpaceOrTab.is
    (head-stays (n.SpaceOrTab c.in-SpaceOrTab.state) c.takes_at_once.result c.takes_at_once.ensures)
