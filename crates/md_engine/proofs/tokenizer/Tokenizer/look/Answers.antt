use Rattle.std.proofs.Common.{rules}
use Rattle.md_engine.proofs.tokenizer.Tokenizer.look.Goals as goal

pub returns-in_default-2-2 : goal.returns-in_default-2-2
returns-in_default-2-2 c = search rules
