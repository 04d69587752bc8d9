use Rattle.std.proofs.Common.{rules}
use Rattle.md_engine.proofs.tokenizer.Tokenizer.new.Goals as goal

pub returns : goal.returns
returns c = search rules
