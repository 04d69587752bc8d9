-- What is refused, or takes a cell at least.
use Rattle.std.proofs.Common.{ℕ, ◌<◌, Bool, true, false, cond, length}
use Rattle.md_engine.specs.Meaning.{Accepts, Fails, Outcome, Refuses}

-- fewer cells are left than these, or it is refused
abbrev pub Shortens : ℕ → Outcome → Type 0
Shortens n (Accepts h rest) = length rest < n
Shortens n (Refuses s g) = Unit {0}
Shortens n Fails = ⊥

-- so it is whichever of two is chosen
pub cond-shortens : (n : ℕ) (x : Bool) (a b : Outcome) → Shortens n a → Shortens n b → Shortens n (cond x a b)
cond-shortens n true a b p q = p
cond-shortens n false a b p q = q
