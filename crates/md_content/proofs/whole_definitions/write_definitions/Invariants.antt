use Rattle.std.proofs.Common.{◌-◌, length}
use Rattle.md_content.proofs.DefinitionRuns.{Written, no_chunk}
use Rattle.md_content.proofs.whole_definitions.write_definitions.Given as goal

abbrev pub invariant-loop-at : goal.invariant-loop-at
invariant-loop-at l = Written l.bytes l.chunks l.at no_chunk l.events.items

abbrev pub decreases-loop-at : goal.decreases-loop-at
decreases-loop-at l = length l.chunks - l.at
