use Rattle.std.proofs.Common.{sym, ◌∙◌, arith, rules}
use Rattle.markdown_inlines.proofs.OwnLemmas.{short-end, short-is, short-none}
use Rattle.markdown_inlines.proofs.labels.is_short.Goals as goal

pub returns-then-left-eq0 : goal.returns-then-left-eq0
returns-then-left-eq0 c =
    sym
    (short-none c.loop-byte.left c.in-Some.byte.now c.in-Some.following.now c.loop-byte.rest.now
    c.in-Some.ensures.cases.0 (search rules) (omega (arith, c.if-left-eq0.true)))
    ∙ c.loop-byte.invariant ∙ short-is c.args.text.now 999

pub returns : goal.returns
returns c =
    sym (short-end c.loop-byte.left c.loop-byte.rest.now c.in_default.ensures.cases) ∙ c.loop-byte.invariant
    ∙ short-is c.args.text.now 999
