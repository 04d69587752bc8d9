use Rattle.std.proofs.Common.{◌≡◌, ◌++◌, length}
use Rattle.reference_inlines.specs.Leading.{string_parts}
use Rattle.reference_inlines.specs.Nodes.{nodes}
use Rattle.reference_inlines.proofs.target.string_parts.Given as goal

abbrev pub invariant-loop-byte : goal.invariant-loop-byte
invariant-loop-byte l =
    l.made.items ++ nodes (string_parts l.options l.rest) ≡ nodes (string_parts l.options l.fn.text)

abbrev pub decreases-loop-byte : goal.decreases-loop-byte
decreases-loop-byte l = length l.rest
