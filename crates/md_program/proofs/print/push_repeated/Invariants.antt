use Rattle.std.proofs.Common.{◌≡◌, ◌++◌}
use Rattle.std.specs.List.{repeat}
use Rattle.md_program.proofs.print.push_repeated.Given as goal

-- the pieces so far
abbrev pub invariant-loop-done : goal.invariant-loop-done
invariant-loop-done g l = g.W.Output.bytes l.text ≡ g.W.Output.bytes l.initial.text ++ repeat l._done l.piece
