use Rattle.std.proofs.Common.{◌≡◌, ◌++◌, drop}
use Rattle.std.specs.List.{flat_map}
use Rattle.plain_inlines.specs.PrintedForest.{shown_byte}
use Rattle.plain_inlines.proofs.printed.push_text.Given as goal

abbrev pub invariant-loop-byte : goal.invariant-loop-byte
invariant-loop-byte l =
    l.made.items ++ flat_map (shown_byte l.depth) (drop l.byte-index l.text) ≡
    l.initial.made.items ++ flat_map (shown_byte l.depth) l.text
