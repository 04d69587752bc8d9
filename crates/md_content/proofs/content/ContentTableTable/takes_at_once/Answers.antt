use Rattle.md_engine.specs.declared.state.Name.TheVariants as n
use Rattle.md_content.proofs.StaysLemmas.{content-stays}
use Rattle.md_content.proofs.content.ContentTableTable.takes_at_once.Goals as goal

pub returns-in-Destination : goal.returns-in-Destination
returns-in-Destination c =
    rw c.in-Destination.is (content-stays (n.Destination c.in-Destination.state) c.takes_at_once.result
    c.takes_at_once.ensures)

pub returns-in-Label : goal.returns-in-Label
returns-in-Label c =
    rw c.in-Label.is
    (content-stays (n.Label c.in-Label.state) c.takes_at_once-in-Label.result c.takes_at_once-in-Label.ensures)

pub returns-in-Paragraph : goal.returns-in-Paragraph
returns-in-Paragraph c =
    rw c.in-Paragraph.is
    (content-stays (n.Paragraph c.in-Paragraph.state) c.takes_at_once-in-Paragraph.result
    c.takes_at_once-in-Paragraph.ensures)

pub returns-in-SpaceOrTab : goal.returns-in-SpaceOrTab
returns-in-SpaceOrTab c =
    rw c.in-SpaceOrTab.is
    (content-stays (n.SpaceOrTab c.in-SpaceOrTab.state) c.takes_at_once-in-SpaceOrTab.result
    c.takes_at_once-in-SpaceOrTab.ensures)
