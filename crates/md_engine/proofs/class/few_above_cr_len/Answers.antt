use Rattle.std.proofs.Common.{◌-◌, arith, length}
use Rattle.md_engine.proofs.AboveCr.{counted-front, counted-last}
use Rattle.md_engine.proofs.class.few_above_cr_len.Goals as goal

pub returns-then-count-lt8 : goal.returns-then-count-lt8
returns-then-count-lt8 c =
    let front = counted-front c.args.bytes.now 8 in
    let seen = front.1 (omega (arith, c.above_cr_of_8-count.ensures, c.if-count-lt8.true)) in
    omega (arith, c.above_cr_of_8-count.ensures, seen)

pub returns : goal.returns
returns c =
    let seen = (counted-front c.args.bytes.now 8).2 (omega (arith, c.above_cr_of_8-count.ensures)) in
    counted-last c.args.bytes.now (length c.args.bytes.now - 8) 8 c.above_cr_of_8.result (omega (arith, seen))
    (omega arith) c.above_cr_of_8.ensures
