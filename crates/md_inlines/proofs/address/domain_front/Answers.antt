use Rattle.std.proofs.Common.{◌≡◌, ◌∙◌, Some, sym, arith}
use Rattle.md_inlines.specs.Literal.{after_domain_character}
use Rattle.md_inlines.proofs.LiteralLemmas.{domain-some, length-after_domain_character}
use Rattle.md_inlines.proofs.address.domain_front.Goals as goal

pub loop-more-smaller : goal.loop-more-smaller
loop-more-smaller c =
    let next : after_domain_character c.loop-more.rest.now ≡ Some c.in-Some.more.now = sym c.in-Some.ensures in
    omega (arith, length-after_domain_character _ _ next)

pub loop-more-preserved : goal.loop-more-preserved
loop-more-preserved c =
    let next : after_domain_character c.loop-more.rest.now ≡ Some c.in-Some.more.now = sym c.in-Some.ensures in
    record {
      front = omega (arith, length-after_domain_character _ _ next, c.loop-more.invariant.front);
      same = sym (domain-some _ _ next) ∙ c.loop-more.invariant.same;
    }
