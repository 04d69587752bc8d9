use Rattle.std.proofs.Common.{rules}
use Rattle.md_leaves.proofs.thematic_break.is_marker.Goals as goal

pub returns-else-byte-eq45 : goal.returns-else-byte-eq45
returns-else-byte-eq45 c = search rules
