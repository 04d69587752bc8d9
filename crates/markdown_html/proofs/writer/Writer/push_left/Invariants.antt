use Rattle.std.proofs.Common.{length}
use Rattle.markdown_html.proofs.writer.Writer.push_left.Given as goal

abbrev pub decreases-loop-left : goal.decreases-loop-left
decreases-loop-left l = length l.left

abbrev pub decreases-loop-left-2 : goal.decreases-loop-left-2
decreases-loop-left-2 l = length l.left
