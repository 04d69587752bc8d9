-- What is lost or taken of a line leaves no more bytes.
use Rattle.std.proofs.Common.{ℕ, zero, suc, ◌+◌, ◌-◌, ◌%◌, ◌<◌, ◌≤◌, Bool, true, false, cond, ◌==◌, List, [], ◌∷◌}
use Rattle.std.proofs.Common.{length, Option, arith}
use Rattle.md_meaning.specs.Containers.{Taken}
use Rattle.md_meaning.specs.Preamble.{rest_at}
use Rattle.md_meaning.specs.Rest.{Rest, after_indent, indent, lose, without_column}
use Rattle.md_meaning.proofs.FindsLemmas.{Finds}

length-without_column : (column spaces : ℕ) (bytes : List ℕ) →
    length (without_column column spaces bytes).bytes ≤ length bytes
length-without_column column (suc spaces) bytes = omega arith
length-without_column column zero [] = omega arith
length-without_column column zero (b ∷ bytes) = go (b == 9) (b == 32)
  where
    go : (x y : Bool) →
        length
        (cond x (record { column = column + 1; spaces = 4 - column % 4 - 1; bytes = bytes })
        (cond y (rest_at (column + 1) bytes) (rest_at column (b ∷ bytes)))).bytes ≤
        length (b ∷ bytes)
    go true y = omega arith
    go false true = omega arith
    go false false = omega arith

pub length-lose : (n : ℕ) (r : Rest) → length (lose n r).bytes ≤ length r.bytes
length-lose zero r = omega arith
length-lose (suc n) r =
    omega (
      arith,
      length-lose n (without_column r.column r.spaces r.bytes),
      length-without_column r.column r.spaces r.bytes,
    )

-- what is taken leaves fewer bytes than these
abbrev pub Leaves : ℕ → Taken → Type 0
Leaves n t = length t.rest.bytes < n

abbrev pub LeavesFewer : Option Taken → ℕ → Type 0
LeavesFewer o n = Finds o (Leaves n)

-- what is taken after an indent leaves fewer bytes than the line has
pub following-leaves : (o : Option Taken) (r : Rest) → LeavesFewer o (length (after_indent r).bytes) →
    LeavesFewer o (length r.bytes)
following-leaves o r h = λ t e. omega (arith, h t e, length-lose (indent r) r)
