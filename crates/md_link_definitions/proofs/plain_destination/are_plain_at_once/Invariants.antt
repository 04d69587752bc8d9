use Rattle.std.proofs.Common.{◌≡◌, take}
use Rattle.std.specs.List.{list_all}
use Rattle.md_link_definitions.specs.PlainDestination.{is_plain_byte}
use Rattle.md_link_definitions.proofs.plain_destination.are_plain_at_once.Given as goal

abbrev pub invariant-loop-byte : goal.invariant-loop-byte
invariant-loop-byte l = l.all ≡ list_all is_plain_byte (take l.byte-index l.bytes)
