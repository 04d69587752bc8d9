use Rattle.proof_leaf_laws.proofs.MarkLemmas.{placed-first}
use Rattle.test_library.proofs.states.seeing.Goals as goal

pub new-tokenizer-requires : goal.new-tokenizer-requires
new-tokenizer-requires c = placed-first c.args.text.now c.requires
