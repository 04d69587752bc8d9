use Rattle.std.proofs.Common.{◌≡◌, [], drop, flat_map}
use Rattle.std.specs.Str.{IsUtf8}
use Rattle.md_meaning.specs.Label.{words}
use Rattle.md_scan.specs.Definitions.{texts}
use Rattle.md_scan.specs.Words.{with_words}
use Rattle.md_scan.proofs.label.spaced_text.Given as goal

abbrev pub invariant-loop-line : goal.invariant-loop-line
invariant-loop-line l = record {
  words : with_words l.text.items (flat_map words (texts (drop l.line-index l.lines))) ≡
      with_words [] (flat_map words (texts l.lines));
  utf8 : IsUtf8 l.text.items;
}
