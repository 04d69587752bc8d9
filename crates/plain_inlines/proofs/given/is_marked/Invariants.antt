use Rattle.std.proofs.Common.{◌≡◌, drop}
use Rattle.md_scan.specs.Definitions.{texts}
use Rattle.plain_inlines.specs.Given.{is_marked}
use Rattle.plain_inlines.proofs.given.is_marked.Given as goal

abbrev pub invariant-loop-line : goal.invariant-loop-line
invariant-loop-line l = is_marked l.mark (texts (drop l.line-index l.lines)) ≡ is_marked l.mark (texts l.lines)
