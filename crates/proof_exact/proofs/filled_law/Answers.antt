use Rattle.proof_exact.proofs.Filled.Exact.{exact-filled}
use Rattle.proof_exact.proofs.filled_law.Goals as goal

pub returns : goal.returns
returns c = exact-filled c.args.options.now c.args.bytes.now
