use Rattle.std.proofs.Common.{◌≡◌, ◌+◌, ℕ, List, arith, drop, subst}
use Rattle.markdown_inlines.specs.Plain.{inner_len}
use Rattle.markdown_inlines.proofs.InnerLemmas.{inner-further}
use Rattle.markdown_inlines.proofs.LaneLemmas.{slice-after}
use Rattle.markdown_inlines.proofs.plain.inner_len.Goals as goal

pub loop-at-preserved : goal.loop-at-preserved
loop-at-preserved c = record {
  within = omega (arith, c.loop-at-test.true, c.loop-at.invariant.within);
  counted =
      inner-further c.args.literals c.args.text.now c.loop-at.at 16 c.loop-at.invariant.counted
      (subst
      (λ (l : List ℕ). 16 + inner_len c.args.literals (drop 16 l) ≡ inner_len c.args.literals l)
      (slice-after c.args.text.now c.loop-at.at)
      (c.inner_of_16-count.ensures.passes (omega (arith, c.if-count-lt16.false))));
}
