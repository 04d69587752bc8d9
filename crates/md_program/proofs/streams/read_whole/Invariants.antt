use Rattle.std.proofs.Common.{◌+◌, ◌-◌, ◌≤◌, vec_len}
use Rattle.std.specs.Io.KnownBytes.{Consumes}
use Rattle.md_program.specs.declared.body.TheConstants.{MOST}
use Rattle.md_program.proofs.streams.read_whole.Given as goal

-- what was read so far has gone from the input, and is not too long
abbrev pub invariant-loop-count : goal.invariant-loop-count
invariant-loop-count g l = record {
  read : Consumes (g.R.Read.remaining l.initial.input) (g.R.Read.remaining l.input) l.bytes.items;
  size : vec_len l.bytes ≤ MOST;
}

abbrev pub decreases-loop-count : goal.decreases-loop-count
decreases-loop-count g l = MOST + 1 - vec_len l.bytes
