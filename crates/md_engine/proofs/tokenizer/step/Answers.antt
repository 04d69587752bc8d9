use Rattle.std.proofs.Common.{rules}
use Rattle.md_engine.proofs.tokenizer.step.Goals as goal

pub returns-else-byte-eq9 : goal.returns-else-byte-eq9
returns-else-byte-eq9 c = search rules
