use Rattle.std.proofs.Common.{◌≡◌, ◌∙◌, Some, sym, arith}
use Rattle.md_inlines.specs.RawHtml.{after_attribute}
use Rattle.md_inlines.proofs.HtmlLemmas.{length-after_attribute, after_attributes-some}
use Rattle.md_inlines.proofs.html.after_attributes.Goals as goal

pub loop-more-smaller : goal.loop-more-smaller
loop-more-smaller c =
    let next : after_attribute c.loop-more.rest.now ≡ Some c.in-Some.more.now = sym c.in-Some.ensures in
    omega (arith, length-after_attribute _ _ next)

pub loop-more-preserved : goal.loop-more-preserved
loop-more-preserved c =
    let next : after_attribute c.loop-more.rest.now ≡ Some c.in-Some.more.now = sym c.in-Some.ensures in
    sym (after_attributes-some _ _ next) ∙ c.loop-more.invariant
