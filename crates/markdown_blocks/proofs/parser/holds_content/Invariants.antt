use Rattle.std.proofs.Common.{◌≡◌, length}
use Rattle.markdown_blocks.specs.ContentRead.{AreSideBySide, holds_content}
use Rattle.markdown_blocks.proofs.parser.holds_content.Given as goal

abbrev pub invariant-loop-left : goal.invariant-loop-left
invariant-loop-left l = (holds_content l.fn.events ≡ holds_content l.left) × AreSideBySide l.left

abbrev pub decreases-loop-left : goal.decreases-loop-left
decreases-loop-left l = length l.left
