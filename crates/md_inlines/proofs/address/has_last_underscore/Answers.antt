use Rattle.std.proofs.Common.{◌≡◌, sym, ap, refl, ◌∙◌}
use Rattle.std.specs.Prelude.{◌||◌}
use Rattle.md_inlines.proofs.LiteralLemmas.{last-underscore, late-over, late_in}
use Rattle.md_inlines.proofs.address.has_last_underscore.Goals as goal

pub loop-first-preserved : goal.loop-first-preserved
loop-first-preserved c =
    rw (c.earlier_after-earlier.ensures, c.now_after-now.ensures)
    (ap (late_in c.loop-first.earlier c.loop-first.now) (sym c.in-Some.ensures.cases.0) ∙ c.loop-first.invariant)

pub returns-then-earlier : goal.returns-then-earlier
returns-then-earlier c =
    let is : c.loop-first.earlier ≡ (c.loop-first.earlier || c.loop-first.now) = rw c.if-earlier.true refl in
    is ∙ sym (late-over _ _ _ c.in_default.ensures.cases) ∙ c.loop-first.invariant ∙ last-underscore c.args.text.now

pub returns-else-earlier : goal.returns-else-earlier
returns-else-earlier c =
    let is : c.loop-first.now ≡ (c.loop-first.earlier || c.loop-first.now) = rw c.if-earlier.false refl in
    is ∙ sym (late-over _ _ _ c.in_default.ensures.cases) ∙ c.loop-first.invariant ∙ last-underscore c.args.text.now
