use Rattle.std.proofs.Common.{arith, ap, sym, ◌∙◌, List, ℕ}
use Rattle.std.specs.Prelude.{nat_eq}
use Rattle.std.specs.List.{starts_with}
use Rattle.markdown_inlines.proofs.EndLemmas.{word-before}
use Rattle.markdown_inlines.proofs.ends.last_word.Goals as goal

pub loop-at-preserved : goal.loop-at-preserved
loop-at-preserved c = record {
  fits = let fits = c.loop-at.invariant.fits in omega (arith, fits);
  last =
      word-before c.args.word.now c.args.text.now c.loop-at.at c.loop-at-test.true c.loop-at.invariant.fits
      (ap (λ (l : List ℕ). starts_with nat_eq l c.args.word.now) (sym c.after.ensures)
      ∙ sym c.starts_with.ensures.value ∙ c.if-starts_with.false)
      c.loop-at.invariant.last;
}
