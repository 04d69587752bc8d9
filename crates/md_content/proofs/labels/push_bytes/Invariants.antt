use Rattle.std.proofs.Common.{◌≡◌, ◌++◌, drop}
use Rattle.md_content.specs.LabelTexts.{on_one_line}
use Rattle.md_content.proofs.labels.push_bytes.Given as goal

abbrev pub invariant-loop-byte : goal.invariant-loop-byte
invariant-loop-byte l =
    l.text.items ++ on_one_line (drop l.byte-index l.bytes) ≡ l.initial.text.items ++ on_one_line l.bytes
