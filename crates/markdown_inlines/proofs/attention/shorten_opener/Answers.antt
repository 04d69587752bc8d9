use Rattle.std.proofs.Common.{◌++◌, ◌-◌, sym, ap, ◌∙◌}
use Rattle.markdown_inlines.specs.Filled.{placed}
use Rattle.markdown_inlines.specs.Matching.{stack}
use Rattle.markdown_inlines.proofs.KeyLemmas.{with_left}
use Rattle.markdown_inlines.proofs.LoopLemmas.{shorter-some, stack-put}
use Rattle.markdown_inlines.proofs.attention.shorten_opener.Goals as goal

pub returns-then-count-opener-clause-openers : goal.returns-then-count-opener-clause-openers
returns-then-count-opener-clause-openers c =
    let o = c.args.opener in
    stack-put c.args.runs.now c.args.at (placed (with_left o.run (o.run.left - c.args.count)) o.first o.place)
    c.requires
    ∙ sym
    (ap (λ l. l ++ stack c.args.runs.now c.args.at)
    (shorter-some o.run c.args.count o.first o.place c.if-count-opener.true))
