use Rattle.std.proofs.Common.{rules}
use Rattle.md_engine.proofs.tokenizer.Tokenizer.consume.Goals as goal

pub returns-then-byte-eq13 : goal.returns-then-byte-eq13
returns-then-byte-eq13 c = search rules
