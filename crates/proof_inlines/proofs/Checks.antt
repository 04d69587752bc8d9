-- Tests of all values of a small type, which a check computes.
use Rattle.std.proofs.Common.{◌≡◌, ℕ, zero, suc, get_or, Bool, true, false, not, ◌||◌, List, [], ◌∷◌}
use Rattle.std.specs.List.{list_all}
use Rattle.std.proofs.lemmas.Bool.{and_parts}

-- what holds of each of some, and of one, holds of that at any place
pub each-of : {A : Type 0} (test : A → Bool) (xs : List A) (d : A) (k : ℕ) → test d ≡ true → list_all test xs ≡ true →
    test (get_or xs k d) ≡ true
each-of test [] d k e h = e
each-of test (x ∷ xs) d zero e h = (and_parts (test x) (list_all test xs) h).0
each-of test (x ∷ xs) d (suc k) e h = each-of test xs d k e (and_parts (test x) (list_all test xs) h).1

-- what is tested of two is true of the second, if it is of the first
pub implied : (a b : Bool) → (not a || b) ≡ true → a ≡ true → b ≡ true
implied true b h k = h
implied false b h k = cc
