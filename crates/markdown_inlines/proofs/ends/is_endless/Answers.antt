use Rattle.markdown_inlines.proofs.EndLemmas.{gone-more, html-instruction, html-marked}
use Rattle.markdown_inlines.proofs.ends.is_endless.Goals as goal

pub is_marked_endless-requires : goal.is_marked_endless-requires
is_marked_endless-requires c =
    gone-more c.args.gone c.in-Some.first.now c.args.text.now c.in-Some.rest.now c.in-Some.ensures.cases.0 c.requires

pub returns-then-first-eq33 : goal.returns-then-first-eq33
returns-then-first-eq33 c = λ g.
    html-marked c.in-Some.first.now c.args.text.now c.in-Some.rest.now c.in-Some.ensures.cases.0 c.if-first-eq33.true
    (c.is_marked_endless.ensures g)

pub returns-then-first-eq63 : goal.returns-then-first-eq63
returns-then-first-eq63 c = λ g.
    html-instruction c.in-Some.first.now c.args.text.now c.in-Some.rest.now c.in-Some.ensures.cases.0
    c.if-first-eq63.true
    ((gone-more c.args.gone c.in-Some.first.now c.args.text.now c.in-Some.rest.now c.in-Some.ensures.cases.0
    c.requires).instruction g 0)
