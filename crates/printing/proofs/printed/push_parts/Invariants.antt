use Rattle.std.proofs.Common.{length}
use Rattle.markdown_blocks.specs.PartsLeft.{left_in}
use Rattle.md_program.specs.Page.{written_on}
use Rattle.printing.proofs.PartsPrinted.{ArePrinted}
use Rattle.printing.proofs.printed.push_parts.Given as goal

abbrev pub invariant-loop-parts : goal.invariant-loop-parts
invariant-loop-parts l =
    ArePrinted l.options l.text (left_in l.parts) (written_on l.initial.output) (written_on l.output)
    l.found.definitions.items l.found.footnotes.items

abbrev pub decreases-loop-parts : goal.decreases-loop-parts
decreases-loop-parts l = length (left_in l.parts).blocks
