use Rattle.std.proofs.Common.{ℕ, List, ap, arith, drop, sym, ◌∙◌}
use Rattle.markdown_inlines.specs.Plain.{is_inner}
use Rattle.markdown_inlines.proofs.InnerLemmas.{inner-further, inner-next}
use Rattle.markdown_inlines.proofs.LaneLemmas.{slice-after}
use Rattle.markdown_inlines.proofs.plain.each_inner_len.Goals as goal

pub loop-at-preserved : goal.loop-at-preserved
loop-at-preserved c = record {
  within = omega (arith, c.loop-at-test.true);
  counted =
      inner-further c.args.literals c.args.text.now c.loop-at.at 1 c.loop-at.invariant.counted
      (inner-next c.args.literals (drop c.loop-at.at c.args.text.now)
      (ap (is_inner c.args.literals) (sym (slice-after c.args.text.now c.loop-at.at))
      ∙ sym c.is_inner.ensures ∙ c.if-is_inner.true));
}
