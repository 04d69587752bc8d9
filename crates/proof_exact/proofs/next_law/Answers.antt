use Rattle.proof_exact.proofs.TextParts.{reads-on}
use Rattle.proof_exact.proofs.next_law.Goals as goal

pub returns : goal.returns
returns c = reads-on c.args.options.now c.args.text.now c.args.bytes.now
