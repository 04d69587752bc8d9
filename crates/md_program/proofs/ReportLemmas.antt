-- Lemmas on what a writer holds when a line was written in two parts.
use Rattle.std.proofs.Common.{◌≡◌, ℕ, List, [], ◌++◌, Option, Result, Ok, Err, MatchResult, sym, subst, ◌∙◌, ap}
use Rattle.std.proofs.Common.{append_assoc}
use Rattle.std.proofs.lemmas.List.{append-nil}
use Rattle.std.proofs.KnownBytes.{Appends-trans}
use Rattle.std.specs.Io.KnownBytes.{Appends}
use Rattle.md_program.specs.declared.failure.Failure.{Failure}
use Rattle.md_program.specs.declared.failure.Failure.TheVariants.{WriteFailed}
use Rattle.md_program.specs.Ends.{AppendsBeginning}

-- however a write of bytes ends, a beginning of them is there
pub begins-written : {A : Type 0} (old new : Option (List ℕ)) (bs : List ℕ) (r : Result A Failure)
    → MatchResult r (λ _. Appends old new bs) (λ failure. (failure ≡ WriteFailed) × AppendsBeginning old new bs)
    → AppendsBeginning old new bs
begins-written old new bs (Ok v) written = (bs, [], sym (append-nil bs), written)
begins-written old new bs (Err failure) written = written.1

-- a beginning of the first part is one of the whole
pub begins-first : (old new : Option (List ℕ)) (bs front cs : List ℕ) → bs ≡ front → AppendsBeginning old new bs →
    AppendsBeginning old new (front ++ cs)
begins-first old new bs front cs same (begin, back, split, appended) =
    (begin, back ++ cs, ap (λ l. l ++ cs) (sym same ∙ split) ∙ append_assoc begin back cs, appended)

-- after the whole first part, a beginning of the second
pub begins-second : (old mid new : Option (List ℕ)) (bs front cs rest : List ℕ) → bs ≡ front → cs ≡ rest →
    Appends old mid bs → AppendsBeginning mid new cs
    → AppendsBeginning old new (front ++ rest)
begins-second old mid new bs front cs rest same others first (begin, back, split, appended) = (
  front ++ begin,
  back,
  ap (λ l. front ++ l) (sym others ∙ split) ∙ sym (append_assoc front begin back),
  subst (λ l. Appends old new (l ++ begin)) same (Appends-trans old mid new bs begin first appended),
)
