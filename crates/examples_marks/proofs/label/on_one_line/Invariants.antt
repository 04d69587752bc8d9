use Rattle.std.proofs.Common.{◌≡◌, ◌++◌, drop}
use Rattle.examples_marks.specs.References.{on_one_line}
use Rattle.examples_marks.proofs.label.on_one_line.Given as goal

abbrev pub invariant-loop-byte : goal.invariant-loop-byte
invariant-loop-byte l = l.line.items ++ on_one_line (drop l.byte-index l.text) ≡ on_one_line l.text
