use Rattle.std.proofs.Common.{◌-◌, length}
use Rattle.markdown_html.proofs.page.Page.write.Given as goal

abbrev pub decreases-loop-at : goal.decreases-loop-at
decreases-loop-at l = length l.list - l.at
