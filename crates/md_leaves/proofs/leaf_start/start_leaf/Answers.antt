use Rattle.std.proofs.Common.{rules}
use Rattle.md_leaves.proofs.leaf_start.start_leaf.Goals as goal

pub returns-then-is_space_or_tab-clause-to : goal.returns-then-is_space_or_tab-clause-to
returns-then-is_space_or_tab-clause-to c = search rules

pub returns-then-is_space_or_tab-clause-world : goal.returns-then-is_space_or_tab-clause-world
returns-then-is_space_or_tab-clause-world c = search rules

pub returns-else-is_space_or_tab-clause-to : goal.returns-else-is_space_or_tab-clause-to
returns-else-is_space_or_tab-clause-to c = search rules

pub returns-else-is_space_or_tab-clause-world : goal.returns-else-is_space_or_tab-clause-world
returns-else-is_space_or_tab-clause-world c = search rules
