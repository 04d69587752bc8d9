use Rattle.std.proofs.Common.{arith, take}
use Rattle.std.proofs.lemmas.List.{length-take-le}
use Rattle.md_engine.proofs.AboveCr.{lowest-low}
use Rattle.md_engine.proofs.class.above_cr_of_8.Goals as goal

pub returns : goal.returns
returns c =
    lowest-low (take 8 c.args.bytes.now) 8 c.lowest_bit.result (length-take-le 8 c.args.bytes.now c.requires)
    (omega arith) c.lowest_bit.ensures
