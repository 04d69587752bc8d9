use Rattle.std.proofs.Common.{rules}
use Rattle.md_engine.proofs.tokenizer.Tokenizer.enter.Goals as goal

pub returns : goal.returns
returns c = search rules
