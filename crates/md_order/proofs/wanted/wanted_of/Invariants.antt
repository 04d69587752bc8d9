use Rattle.std.proofs.Common.{◌≡◌, drop}
use Rattle.md_order.specs.InOrder.{wanted_from, wanted_of}
use Rattle.md_order.proofs.wanted.wanted_of.Given as goal

abbrev pub invariant-loop-name : goal.invariant-loop-name
invariant-loop-name l = wanted_from l.wanted (drop l.name-index l.names) ≡ wanted_of l.names
