use Rattle.std.proofs.Common.{Bool, sym, ap, ◌∙◌}
use Rattle.markdown_inlines.specs.Matching.{kept, stack}
use Rattle.markdown_inlines.proofs.LoopLemmas.{stack-put}
use Rattle.markdown_inlines.proofs.attention.keep.Goals as goal

pub returns-then-closer-clause-openers : goal.returns-then-closer-clause-openers
returns-then-closer-clause-openers c =
    stack-put c.args.runs.now c.args.height c.args.closer c.requires
    ∙ ap (λ (x : Bool). kept x c.args.closer (stack c.args.runs.now c.args.height)) (sym c.if-closer.true)
