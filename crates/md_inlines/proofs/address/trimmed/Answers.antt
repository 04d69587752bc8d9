use Rattle.std.proofs.Common.{◌≡◌, ◌∙◌, ◌==◌, ap, sym, arith}
use Rattle.md_inlines.specs.Literal.{trimmed}
use Rattle.md_inlines.proofs.LiteralLemmas.{count-kept, trim-over, trim-step}
use Rattle.md_inlines.proofs.address.trimmed.Goals as goal

pub loop-len-preserved : goal.loop-len-preserved
loop-len-preserved c = record {
  front = omega (arith, c.split_at.ensures.front_len, c.loop-len.invariant.front);
  opens =
      count-kept (λ b. b == 40) _ _ _ _ _ _ c.split_at.ensures.front c.split_at.ensures.back
      c.loop-len.invariant.opens c.count_of-opening-in-loop-len.ensures.value;
  closes =
      count-kept (λ b. b == 41) _ _ _ _ _ _ c.split_at.ensures.front c.split_at.ensures.back
      c.loop-len.invariant.closes c.count_of-closing-in-loop-len.ensures.value;
  extra = c.extra_len-len-in-loop-len.ensures.value;
  within = c.extra_len-len-in-loop-len.ensures.bound;
  same =
      ap trimmed c.split_at.ensures.front
      ∙ trim-step c.loop-len.rest.now c.loop-len.len c.loop-len-test.true c.loop-len.invariant.extra
      ∙ c.loop-len.invariant.same;
}

pub returns-clause-value : goal.returns-clause-value
returns-clause-value c =
    let none : 0 ≡ c.loop-len.len = omega (arith, c.loop-len-test.false) in
    sym (trim-over c.loop-len.rest.now (none ∙ c.loop-len.invariant.extra)) ∙ c.loop-len.invariant.same
