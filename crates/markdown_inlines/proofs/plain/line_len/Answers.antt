use Rattle.markdown_inlines.proofs.InnerLemmas.{line-bound, line-text}
use Rattle.markdown_inlines.proofs.plain.line_len.Goals as goal

pub returns-clause-text : goal.returns-clause-text
returns-clause-text c =
    line-text c.args.literals c.args.text.now c.split_at.result.0.now c.split_at.result.1.now c.inner_len-len.result
    c.before_white-dark.result c.line_end.result c.inner_len-len.ensures.value c.split_at.ensures.front
    c.split_at.ensures.back c.before_white-dark.ensures.last c.before_white-dark.ensures.bound c.line_end.ensures

pub returns-clause-bound : goal.returns-clause-bound
returns-clause-bound c =
    line-bound c.args.text.now c.split_at.result.0.now c.split_at.result.1.now c.inner_len-len.result
    c.before_white-dark.result c.line_end.result c.inner_len-len.ensures.bound c.split_at.ensures.front
    c.split_at.ensures.back c.before_white-dark.ensures.bound c.line_end.ensures
