use Rattle.std.proofs.Common.{ap, ◌∙◌, rules, tests}
use Rattle.std.proofs.lemmas.Iterator.Consumers.{YieldsList-end}
use Rattle.std.proofs.lemmas.Iterator.Splits.{YieldsList-from_slice_split}
use Rattle.md_scan.specs.Definitions.{texts}
use Rattle.markdown_inlines.proofs.labels.split_lines.Goals as goal

pub returns : goal.returns
returns c =
    let all = YieldsList-end
    (YieldsList-from_slice_split _ _ c.args.text.now
    (cc) (cc)
    (cc) (λ x b q k. search (rules, tests))) c.loop-line.yielded _ c.loop-line.yielded_by _ _
    c.in-None.is c.next.ensures.steps in
    ap texts c.loop-line.invariant ∙ all.0
