use Rattle.md_events.proofs.WhiteAtOnce.{inside-takes}
use Rattle.md_events.proofs.space_or_tab.takes_at_once.Goals as goal

pub returns-in-Inside : goal.returns-in-Inside
returns-in-Inside c = rw c.in-Inside.is inside-takes
