use Rattle.std.proofs.Common.{suc, ◌+◌, List, sym, ap, subst, ◌∙◌, arith}
use Rattle.std.proofs.lemmas.List.{drop_all}
use Rattle.md_inlines.specs.Emphasis as emphasis
use Rattle.markdown_inlines.specs.declared.span.Span.{Span}
use Rattle.markdown_inlines.specs.Filled.{Shows}
use Rattle.markdown_inlines.proofs.BoundedLemmas.{level-matched, total}
use Rattle.markdown_inlines.proofs.LoopLemmas.{all-done, all_matched, begins, none-turn, ready, some-turn}
use Rattle.markdown_inlines.proofs.attention.match_runs.Goals as goal

pub loop-at-init : goal.loop-at-init
loop-at-init c = begins c.args.single c.args.runs.now c.args.spans.now c.requires

pub loop-at-smaller-in-None : goal.loop-at-smaller-in-None
loop-at-smaller-in-None c =
    (none-turn c.args.single _ c.loop-at.runs c.loop-at.height c.loop-at.at c.loop-at.bounds c.loop-at.spans
    c.kind_of-kind.result c.keep-height.new.runs c.keep-height.result c.raise.new.bounds c.loop-at.invariant
    c.loop-at-test.true c.kind_of-kind.ensures.value c.in-None.ensures c.raise.ensures c.keep-height.ensures.openers
    c.keep-height.ensures.ahead c.keep-height.ensures.bound c.keep-height.auto.runs).1

pub loop-at-preserved-in-None : goal.loop-at-preserved-in-None
loop-at-preserved-in-None c =
    (none-turn c.args.single _ c.loop-at.runs c.loop-at.height c.loop-at.at c.loop-at.bounds c.loop-at.spans
    c.kind_of-kind.result c.keep-height.new.runs c.keep-height.result c.raise.new.bounds c.loop-at.invariant
    c.loop-at-test.true c.kind_of-kind.ensures.value c.in-None.ensures c.raise.ensures c.keep-height.ensures.openers
    c.keep-height.ensures.ahead c.keep-height.ensures.bound c.keep-height.auto.runs).0

pub fill-requires-clause-placed : goal.fill-requires-clause-placed
fill-requires-clause-placed c =
    (ready c.args.single _ c.loop-at.runs c.loop-at.height c.loop-at.at c.loop-at.bounds c.loop-at.spans _
    c.in-Some.found c.taken-count.result c.loop-at.invariant c.loop-at-test.true c.in-Some.ensures.1
    c.taken-count.ensures).placed

pub fill-requires-clause-opens : goal.fill-requires-clause-opens
fill-requires-clause-opens c =
    (ready c.args.single _ c.loop-at.runs c.loop-at.height c.loop-at.at c.loop-at.bounds c.loop-at.spans _
    c.in-Some.found c.taken-count.result c.loop-at.invariant c.loop-at-test.true c.in-Some.ensures.1
    c.taken-count.ensures).opens

pub fill-requires-clause-there : goal.fill-requires-clause-there
fill-requires-clause-there c =
    (ready c.args.single _ c.loop-at.runs c.loop-at.height c.loop-at.at c.loop-at.bounds c.loop-at.spans _
    c.in-Some.found c.taken-count.result c.loop-at.invariant c.loop-at-test.true c.in-Some.ensures.1
    c.taken-count.ensures).there

pub loop-at-smaller : goal.loop-at-smaller
loop-at-smaller c =
    (some-turn c.args.single _ c.loop-at.runs c.loop-at.height c.loop-at.at c.loop-at.bounds c.loop-at.spans
    c.kind_of-kind.result c.in-Some.found c.taken-count.result c.shorten_opener-height.new.runs
    c.shorten_closer-at.new.runs c.shorten_opener-height.result c.shorten_closer-at.result c.fill.new.spans
    c.loop-at.invariant c.loop-at-test.true c.kind_of-kind.ensures.value c.in-Some.ensures.0 c.in-Some.ensures.1
    c.taken-count.ensures c.fill.ensures c.shorten_opener-height.ensures.openers c.shorten_opener-height.ensures.ahead
    c.shorten_opener-height.ensures.bound c.shorten_opener-height.auto.runs c.shorten_closer-at.ensures.ahead
    c.shorten_closer-at.ensures.openers c.shorten_closer-at.ensures.bound c.shorten_closer-at.auto.runs).1

pub loop-at-preserved : goal.loop-at-preserved
loop-at-preserved c =
    (some-turn c.args.single _ c.loop-at.runs c.loop-at.height c.loop-at.at c.loop-at.bounds c.loop-at.spans
    c.kind_of-kind.result c.in-Some.found c.taken-count.result c.shorten_opener-height.new.runs
    c.shorten_closer-at.new.runs c.shorten_opener-height.result c.shorten_closer-at.result c.fill.new.spans
    c.loop-at.invariant c.loop-at-test.true c.kind_of-kind.ensures.value c.in-Some.ensures.0 c.in-Some.ensures.1
    c.taken-count.ensures c.fill.ensures c.shorten_opener-height.ensures.openers c.shorten_opener-height.ensures.ahead
    c.shorten_opener-height.ensures.bound c.shorten_opener-height.auto.runs c.shorten_closer-at.ensures.ahead
    c.shorten_closer-at.ensures.openers c.shorten_closer-at.ensures.bound c.shorten_closer-at.auto.runs).0

pub returns : goal.returns
returns c at others own items same f =
    let single = c.args.single in
    let runs = c.args.runs.now in
    subst (λ (l : List Span). Shows at others (emphasis.emphasis single items) l)
    (sym
    (all-done single (all_matched single runs c.args.spans.now) c.loop-at.runs c.loop-at.height c.loop-at.at
    c.loop-at.bounds c.loop-at.spans c.loop-at.invariant
    (drop_all c.loop-at.at c.loop-at.runs c.loop-at-test.false)
    ∙ ap (all_matched single runs) same))
    (level-matched single (suc (total runs + total runs)) at others items own runs f (omega arith))
