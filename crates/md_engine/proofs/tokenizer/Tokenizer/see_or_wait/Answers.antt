use Rattle.std.proofs.Common.{rules}
use Rattle.md_engine.proofs.tokenizer.Tokenizer.see_or_wait.Goals as goal

pub returns-clause-sees : goal.returns-clause-sees
returns-clause-sees c = search rules
