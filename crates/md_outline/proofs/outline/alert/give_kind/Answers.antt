use Rattle.std.proofs.Common.{◌∙◌, ap, arith, sym}
use Rattle.md_outline.proofs.KindLemmas.{last-given, last-kept}
use Rattle.md_outline.proofs.outline.alert.give_kind.Goals as goal

pub returns-then-saturating_sub-eq1 : goal.returns-then-saturating_sub-eq1
returns-then-saturating_sub-eq1 c =
    last-given c.args.kind c.args.depth c.args.lines.now.items _ c.in-Some.line.now _
    (omega (arith, c.in-Some.ensures.item.3.0)) c.in-Some.ensures.item.1
    (ap (λ w. record c.in-Some.line.now { word = w }) c.given-line.ensures)
    (sym c.saturating_sub.ensures ∙ c.if-saturating_sub-eq1.true)

pub returns-else-saturating_sub-eq1 : goal.returns-else-saturating_sub-eq1
returns-else-saturating_sub-eq1 c =
    last-kept c.args.kind c.args.depth c.args.lines.now.items _ c.in-Some.line.now
    (omega (arith, c.in-Some.ensures.item.3.0)) c.in-Some.ensures.item.1
    (λ same. c.if-saturating_sub-eq1.false (c.saturating_sub.ensures ∙ same))
