use Rattle.std.proofs.Common.{◌≡◌, ◌++◌, length}
use Rattle.std.specs.List.{flat_map}
use Rattle.md_meaning.specs.Outline.{outline}
use Rattle.md_outline.specs.Outlined.{IsOutlined}
use Rattle.md_program.specs.Printed.{printed_line}
use Rattle.md_events.specs.Events.Spelled.{spelled}
use Rattle.md_program.specs.Page.{written_on}
use Rattle.printing.proofs.printed.push_outline.Given as goal

-- the outline of the events that are left is printed after what is there
abbrev pub invariant-loop-rest : goal.invariant-loop-rest
invariant-loop-rest l = record {
  outlined : IsOutlined l.rest l.state.bytes.now;
  lines : written_on l.output ++ flat_map printed_line (outline 0 (spelled l.rest l.state.bytes.now)) ≡
      written_on l.initial.output ++ flat_map printed_line (outline 0 (spelled l.events l.state.bytes.now));
}

abbrev pub decreases-loop-rest : goal.decreases-loop-rest
decreases-loop-rest l = length l.rest
