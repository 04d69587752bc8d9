use Rattle.std.proofs.Common.{◌≡◌, take}
use Rattle.md_link_definitions.specs.Head.{is_pipeless}
use Rattle.md_link_definitions.proofs.head.are_pipeless.Given as goal

abbrev pub invariant-loop-byte : goal.invariant-loop-byte
invariant-loop-byte l = l.all ≡ is_pipeless (take l.byte-index l.bytes)
