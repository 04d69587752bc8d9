use Rattle.std.proofs.Common.{◌≡◌, length}
use Rattle.std.specs.Str.{IsUtf8}
use Rattle.md_meaning.specs.Label.{words}
use Rattle.md_scan.specs.Words.{with_words}
use Rattle.md_scan.proofs.label.push_words.Given as goal

abbrev pub invariant-loop-first : goal.invariant-loop-first
invariant-loop-first l = record {
  words : with_words l.text.items (words l.rest) ≡ with_words l.fn.text.items (words l.fn.line);
  utf8 : IsUtf8 l.fn.text.items → IsUtf8 l.fn.line → IsUtf8 l.text.items × IsUtf8 l.rest;
}

abbrev pub decreases-loop-first : goal.decreases-loop-first
decreases-loop-first l = length l.rest
