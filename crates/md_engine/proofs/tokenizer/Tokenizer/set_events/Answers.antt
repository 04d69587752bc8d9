use Rattle.std.proofs.Common.{rules}
use Rattle.md_engine.proofs.tokenizer.Tokenizer.set_events.Goals as goal

pub returns : goal.returns
returns c = search rules
