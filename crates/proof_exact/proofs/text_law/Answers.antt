use Rattle.proof_exact.proofs.TextCut.{reads-on-text}
use Rattle.proof_exact.proofs.text_law.Goals as goal

pub returns : goal.returns
returns c = reads-on-text c.args.options.now c.args.text.now c.args.bytes.now
