use Rattle.std.proofs.Common.{ap, sym, ◌∙◌, length, arith}
use Rattle.md_meaning.specs.Ascii.{dot}
use Rattle.md_inlines.specs.Literal.{without_last}
use Rattle.md_inlines.proofs.DomainLemmas.{later-empty, later-under}
use Rattle.md_inlines.proofs.address.no_domain_len.Goals as goal

pub returns-then-has_last_underscore-clause-is : goal.returns-then-has_last_underscore-clause-is
returns-then-has_last_underscore-clause-is c k inside here =
    later-under c.args.text.now c.without_last_dots-domain.result.now k
    (c.without_last_dots-domain.ensures.value ∙ ap (without_last dot) c.domain_front-front.ensures.value)
    (sym c.has_last_underscore.ensures ∙ c.if-has_last_underscore.true)
    (omega (arith, inside, ap length c.domain_front-front.ensures.value)) here

pub returns-else-has_last_underscore-clause-is : goal.returns-else-has_last_underscore-clause-is
returns-else-has_last_underscore-clause-is c k inside here =
    later-empty c.args.text.now c.without_last_dots-domain.result.now k c.before_last_empty.result
    (c.without_last_dots-domain.ensures.value ∙ ap (without_last dot) c.domain_front-front.ensures.value)
    (c.before_last_empty.ensures.is (omega (arith, inside))) inside
    (omega (
      arith,
      inside,
      c.before_last_empty.ensures.bound,
      c.without_last_dots-domain.ensures.bound,
      ap length c.domain_front-front.ensures.value,
    )) here
