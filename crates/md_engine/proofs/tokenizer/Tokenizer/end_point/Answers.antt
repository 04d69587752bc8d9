use Rattle.std.proofs.Common.{◌<◌, length, arith}
use Rattle.md_engine.proofs.tokenizer.Tokenizer.end_point.Goals as goal

pub returns-then-at-len-clause-placed : goal.returns-then-at-len-clause-placed
returns-then-at-len-clause-placed c =
    let inside : c.args.at < length c.args.self.now.events.items = omega arith in
    rw c.index.ensures (c.args.self.now.sound.right c.args.at c.index.result.now inside)
