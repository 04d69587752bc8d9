use Rattle.std.proofs.Common.{◌≡◌, ◌++◌, map, take}
use Rattle.std.specs.List.{flat_map}
use Rattle.md_meaning.specs.Outline.{entry_of}
use Rattle.md_program.specs.Printed.{printed_line}
use Rattle.md_program.proofs.print.push_lines.Given as goal

-- the lines so far
abbrev pub invariant-loop-line : goal.invariant-loop-line
invariant-loop-line g l =
    g.W.Output.bytes l.text ≡
    g.W.Output.bytes l.initial.text ++ flat_map printed_line (map entry_of (take l.line-index l.lines))
