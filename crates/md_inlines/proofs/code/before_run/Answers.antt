use Rattle.std.proofs.Common.{length, ap, arith, rules, tests}
use Rattle.std.proofs.lemmas.List.{length-drop}
use Rattle.md_inlines.proofs.CodeLemmas.{run-step}
use Rattle.md_inlines.proofs.code.before_run.Goals as goal

pub loop-first-preserved-then-first-mark : goal.loop-first-preserved-then-first-mark
loop-first-preserved-then-first-mark c = record {
  front =
      omega (
        arith,
        ap length c.split_at.ensures.back,
        length-drop c.run_len-len.result c.loop-first.rest.now,
        c.loop-first.invariant.front,
      );
  same =
      run-step c.args.mark c.args.size c.in-Some.first.now c.run_len-len.result c.args.text.now c.loop-first.rest.now
      c.in-Some.others.now c.split_at.result.1.now (search rules) (search (rules, tests)) c.run_len-len.ensures.value
      c.if-len-size.false c.run_len-len.ensures.bound c.split_at.ensures.back c.loop-first.invariant.front
      c.loop-first.invariant.same;
}
