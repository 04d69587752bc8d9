use Rattle.proof_exact.proofs.TextParts.{text-parts}
use Rattle.proof_exact.proofs.cut_law.Goals as goal

pub returns : goal.returns
returns c = text-parts c.args.options.now c.args.bytes.now c.args.following.now
