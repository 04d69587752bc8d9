-- Lemmas on how the program ends.
use Rattle.std.proofs.Common.{◌≡◌, ℕ, List, Option, None, Some, Result, Ok, Err, MatchResult, sym, subst}
use Rattle.std.specs.Io.KnownBytes.{Appends}
use Rattle.md_program.specs.declared.failure.Failure.{Failure}
use Rattle.md_program.specs.declared.failure.Failure.TheVariants.{WriteFailed}
use Rattle.md_program.specs.declared.set.Set.{Set}
use Rattle.md_program.specs.Ends.{AppendsBeginning, Prints, Ran}

-- a run that becomes its output ends as the writing does
pub Ran-written : {A : Type 0} (shows : Set → List ℕ → Type 0) (asked : Option Set)
    (input left old new : Option (List ℕ)) (bytes : List ℕ) (r : Result A Failure)
    → Prints shows asked bytes
    → MatchResult r (λ _. Appends old new bytes) (λ failure. (failure ≡ WriteFailed) × AppendsBeginning old new bytes)
    → MatchResult r (λ _. Ran shows asked input left old new None)
    (λ failure. Ran shows asked input left old new (Some failure))
Ran-written shows asked input left old new bytes (Ok v) prints written = (bytes, prints, written)
Ran-written shows asked input left old new bytes (Err failure) prints written =
    subst (λ (f : Failure). Ran shows asked input left old new (Some f)) (sym written.0) (bytes, prints, written.1)
