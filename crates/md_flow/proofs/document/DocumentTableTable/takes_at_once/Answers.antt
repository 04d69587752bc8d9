use Rattle.md_engine.specs.declared.state.Name.TheVariants as n
use Rattle.md_registry.proofs.DocumentStates.{document-stays}
use Rattle.md_flow.proofs.document.DocumentTableTable.takes_at_once.Goals as goal

pub returns-in-Frontmatter : goal.returns-in-Frontmatter
returns-in-Frontmatter c =
    rw c.in-Frontmatter.is
    (document-stays (n.Frontmatter c.in-Frontmatter.state) c.takes_at_once.result c.takes_at_once.ensures)
