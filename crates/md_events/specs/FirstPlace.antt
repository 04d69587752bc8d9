-- Where a normal form of a label is first.
use Rattle.std.specs.Prelude.{ℕ, List, Option}
use Rattle.std.specs.List.{position}
use Rattle.std.specs.Str.{bytes_eq}

-- how many of the listed forms are before the first that is this one, if it is listed
abbrev pub first_place : List (List ℕ) → List ℕ → Option ℕ
first_place listed form = position (λ other. bytes_eq other form) listed
