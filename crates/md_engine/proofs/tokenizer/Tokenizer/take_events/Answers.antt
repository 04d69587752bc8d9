use Rattle.md_engine.proofs.tokenizer.Tokenizer.take_events.Goals as goal

pub returns-clause-placed : goal.returns-clause-placed
returns-clause-placed c = rw c.replace.ensures.value c.args.self.now.sound.right
