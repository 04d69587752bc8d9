use Rattle.md_engine.proofs.Sound.{placed-next}
use Rattle.md_engine.proofs.tokenizer.Tokenizer.next_point.Goals as goal

pub returns-clause-placed : goal.returns-clause-placed
returns-clause-placed c =
    rw (c.step.ensures, c.is_pair.ensures) (placed-next _ c.args.self.now.point c.args.self.now.sound.placed c.requires)
