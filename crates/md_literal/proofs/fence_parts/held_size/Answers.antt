use Rattle.std.proofs.Common.{rules}
use Rattle.md_literal.proofs.fence_parts.held_size.Goals as goal

pub returns-in-Fence : goal.returns-in-Fence
returns-in-Fence c = search rules
