use Rattle.std.proofs.Common.{rules}
use Rattle.markdown_inlines.specs.Matching.{stack}
use Rattle.markdown_inlines.proofs.LoopLemmas.{never-found}
use Rattle.markdown_inlines.proofs.attention.opener_of.Goals as goal

pub returns-then-not-closer : goal.returns-then-not-closer
returns-then-not-closer c =
    never-found c.args.single c.args.bound c.args.closer.now (stack c.args.runs.now c.args.height) (search rules)
