use Rattle.md_registry.proofs.Dispatch.{outside-end, outside-row}
use Rattle.md_flow.proofs.flow.start.Goals as goal

pub returns-then-is_white-clause-outside : goal.returns-then-is_white-clause-outside
returns-then-is_white-clause-outside c = outside-row

pub returns-in-None-clause-outside : goal.returns-in-None-clause-outside
returns-in-None-clause-outside c = outside-row

pub returns-else-byte-eq10-clause-outside : goal.returns-else-byte-eq10-clause-outside
returns-else-byte-eq10-clause-outside c = outside-row

pub returns-then-is_white-clause-ended : goal.returns-then-is_white-clause-ended
returns-then-is_white-clause-ended c = outside-end

pub returns-in-None-clause-ended : goal.returns-in-None-clause-ended
returns-in-None-clause-ended c = outside-end

pub returns-else-byte-eq10-clause-ended : goal.returns-else-byte-eq10-clause-ended
returns-else-byte-eq10-clause-ended c = outside-end
