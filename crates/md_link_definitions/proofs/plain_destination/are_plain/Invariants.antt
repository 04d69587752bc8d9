use Rattle.std.proofs.Common.{◌≡◌, length}
use Rattle.std.specs.List.{list_all}
use Rattle.md_link_definitions.specs.PlainDestination.{is_plain_byte}
use Rattle.md_link_definitions.proofs.plain_destination.are_plain.Given as goal

abbrev pub invariant-loop-rest : goal.invariant-loop-rest
invariant-loop-rest l = list_all is_plain_byte l.rest ≡ list_all is_plain_byte l.fn.bytes

abbrev pub decreases-loop-rest : goal.decreases-loop-rest
decreases-loop-rest l = length l.rest
