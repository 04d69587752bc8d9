use Rattle.std.proofs.Common.{◌-◌, arith, length, nat_lt}
use Rattle.std.proofs.lemmas.List.Sums.{prefix_len-le-length}
use Rattle.md_engine.proofs.AboveCr.{counted-last, counted-next}
use Rattle.md_engine.proofs.class.above_cr_len.Goals as goal

pub returns-then-bytes-lt16-clause-bound : goal.returns-then-bytes-lt16-clause-bound
returns-then-bytes-lt16-clause-bound c =
    omega (arith, c.few_above_cr_len.ensures, prefix_len-le-length (nat_lt 13) c.args.bytes.now)

pub returns-then-count-lt16-clause-value : goal.returns-then-count-lt16-clause-value
returns-then-count-lt16-clause-value c =
    (counted-next c.args.bytes.now c.loop-at.at 16 c.above_cr_of_16-count.result c.loop-at.invariant
    c.above_cr_of_16-count.ensures).0 c.if-count-lt16.true

pub loop-at-preserved : goal.loop-at-preserved
loop-at-preserved c =
    (counted-next c.args.bytes.now c.loop-at.at 16 c.above_cr_of_16-count.result c.loop-at.invariant
    c.above_cr_of_16-count.ensures).1 c.if-count-lt16.false

pub returns-clause-value : goal.returns-clause-value
returns-clause-value c =
    counted-last c.args.bytes.now (length c.args.bytes.now - 16) 16 c.above_cr_of_16.result (omega arith) (omega arith)
    c.above_cr_of_16.ensures
