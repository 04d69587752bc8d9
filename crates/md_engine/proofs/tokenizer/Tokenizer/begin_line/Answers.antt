use Rattle.std.proofs.Common.{arith}
use Rattle.md_engine.specs.World.{setting_of}
use Rattle.md_engine.proofs.Sound.{begun-before, begun-past, skip-placed}
use Rattle.md_engine.proofs.tokenizer.Tokenizer.begin_line.Goals as goal

pub returns-then-point-skip-clause-placed : goal.returns-then-point-skip-clause-placed
returns-then-point-skip-clause-placed c =
    skip-placed _ c.args.self.now.skips.items c.saturating_sub-at.result _ c.args.self.now.sound.begun
    (omega arith) c.index-skip.ensures

pub returns-else-point-skip-clause-value : goal.returns-else-point-skip-clause-value
returns-else-point-skip-clause-value c =
    begun-before
    (setting_of c.args.self.now) c.args.point c.saturating_sub-at.result c.index-skip.result.now
    c.saturating_sub-at.ensures
    (omega arith) c.index-skip.ensures c.if-point-skip.false

pub returns-else-at-len-clause-value : goal.returns-else-at-len-clause-value
returns-else-at-len-clause-value c =
    begun-past (setting_of c.args.self.now) c.args.point c.saturating_sub-at.result c.saturating_sub-at.ensures
    (omega arith)
