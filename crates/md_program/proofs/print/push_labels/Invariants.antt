use Rattle.std.proofs.Common.{◌≡◌, ◌++◌, map, take, string_bytes}
use Rattle.std.specs.List.{flat_map}
use Rattle.md_program.specs.Printed.{printed_label}
use Rattle.md_program.proofs.print.push_labels.Given as goal

-- the labels so far
abbrev pub invariant-loop-label : goal.invariant-loop-label
invariant-loop-label g l =
    g.W.Output.bytes l.text
    ≡ g.W.Output.bytes l.initial.text ++ flat_map printed_label (map string_bytes (take l.label-index l.labels))
