use Rattle.std.proofs.Common.{◌≡◌, ◌++◌, drop, map, string_bytes}
use Rattle.md_scan.specs.Definitions.{texts}
use Rattle.plain_inlines.specs.Given.{labels_in}
use Rattle.plain_inlines.proofs.given.labels_of.Given as goal

abbrev pub invariant-loop-line : goal.invariant-loop-line
invariant-loop-line l =
    map string_bytes l.made.items ++ labels_in l.mark (texts (drop l.line-index l.lines)) ≡
    labels_in l.mark (texts l.lines)
