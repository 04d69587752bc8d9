use Rattle.std.proofs.Common.{◌∙◌, sym, arith}
use Rattle.md_scan.specs.Definitions.{texts}
use Rattle.md_scan.proofs.WordLemmas.{with_words-line, with_words-end, with_words-spaced}
use Rattle.md_scan.proofs.label.spaced_text.Goals as goal

pub loop-line-preserved : goal.loop-line-preserved
loop-line-preserved c = record {
  words =
      rw (c.in_ok-push_words.ensures.words, c.as_bytes.ensures.value)
      (sym (with_words-line _ c.args.lines.now c.loop-line.line-index _ (omega arith)) ∙ c.loop-line.invariant.words);
  utf8 = c.in_ok-push_words.ensures.utf8 c.loop-line.invariant.utf8 c.as_bytes.ensures.utf8;
}

pub returns-clause-words : goal.returns-clause-words
returns-clause-words c =
    sym (with_words-end c.loop-line.text.items c.args.lines.now c.loop-line.line-index (omega arith))
    ∙ c.loop-line.invariant.words ∙ with_words-spaced (texts c.args.lines.now)
