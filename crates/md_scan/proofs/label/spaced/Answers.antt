use Rattle.std.proofs.Common.{◌∙◌, sym, arith}
use Rattle.md_scan.specs.Definitions.{texts}
use Rattle.md_scan.proofs.WordLemmas.{with_words-line, with_words-end, with_words-spaced}
use Rattle.md_scan.proofs.label.spaced.Goals as goal

pub loop-line-preserved : goal.loop-line-preserved
loop-line-preserved c =
    rw c.in_ok-push_words.ensures.words
    (sym (with_words-line _ c.args.lines.now c.loop-line.line-index _ (omega arith)) ∙ c.loop-line.invariant)

pub returns : goal.returns
returns c =
    sym (with_words-end c.loop-line.text.items c.args.lines.now c.loop-line.line-index (omega arith))
    ∙ c.loop-line.invariant ∙ with_words-spaced (texts c.args.lines.now)
