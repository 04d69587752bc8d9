use Rattle.std.proofs.Common.{◌≡◌, ◌+◌, drop, true}
use Rattle.md_outline.specs.TextLines.{line_len}
use Rattle.md_outline.proofs.outline.lines.is_one_line.Given as goal

abbrev pub invariant-loop-byte : goal.invariant-loop-byte
invariant-loop-byte l = l.is_one ≡ true → line_len l.text ≡ l.byte-index + line_len (drop l.byte-index l.text)
