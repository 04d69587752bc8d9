use Rattle.md_content.proofs.ParagraphStays.{paragraph-takes}
use Rattle.md_content.proofs.paragraph.takes_at_once.Goals as goal

pub returns-in-Inside : goal.returns-in-Inside
returns-in-Inside c = rw c.in-Inside.is paragraph-takes
