use Rattle.std.proofs.Common.{◌∙◌, ap, sym}
use Rattle.md_scan.specs.Words.{with_words}
use Rattle.md_scan.proofs.TextWords.{utf8-past, utf8-with_word, utf8-word}
use Rattle.md_scan.proofs.WordLemmas.{words-next, words-white}
use Rattle.md_scan.proofs.label.push_words.Goals as goal

pub loop-first-preserved-then-is_white : goal.loop-first-preserved-then-is_white
loop-first-preserved-then-is_white c = record {
  words =
      sym
      (ap (with_words c.loop-first.text.items)
      (words-white c.in-Some.first.now c.in-Some.others.now c.loop-first.rest.now c.in-Some.ensures.cases.0
      (sym c.if-is_white.ensures)))
      ∙ c.loop-first.invariant.words;
  utf8 = λ text line.
      let before = c.loop-first.invariant.utf8 text line in (
        before.0,
        utf8-past c.in-Some.first.now c.in-Some.others.now c.loop-first.rest.now c.in-Some.ensures.cases.0
            (sym c.if-is_white.ensures) before.1,
      );
}

pub loop-first-preserved : goal.loop-first-preserved
loop-first-preserved c = record {
  words =
      rw (c.in_ok-push_word.ensures, c.split_at.ensures.front, c.split_at.ensures.back, c.word_len.ensures.value)
      (sym (ap (with_words c.loop-first.text.items) (words-next _ _ _ c.in-Some.ensures.cases.0 c.if-is_white.ensures))
      ∙ c.loop-first.invariant.words);
  utf8 = λ text line.
      let before = c.loop-first.invariant.utf8 text line in
      let parts = utf8-word c.loop-first.rest.now before.1 in
      rw (c.in_ok-push_word.ensures, c.split_at.ensures.front, c.split_at.ensures.back, c.word_len.ensures.value)
      (utf8-with_word c.loop-first.text.items _ before.0 parts.0, parts.1);
}
