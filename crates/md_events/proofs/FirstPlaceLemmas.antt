-- Where a normal form of a label is first, by a walk from the last label to the first.
use Rattle.std.proofs.Common.{◌≡◌, ℕ, suc, ◌+◌, ◌<◌, Bool, true, false, cond, List, [], ◌∷◌, length, map, refl, ap, sym}
use Rattle.std.proofs.Common.{◌∙◌, arith, bytes_eq, drop, get_or, nat_lt, not}
use Rattle.std.proofs.Common.{Result, Ok, Err}
use Rattle.std.proofs.lemmas.Bool.{false≢true}
use Rattle.std.proofs.Math.Seq.{drop-cons}
use Rattle.std.specs.Prelude.{Some, None, OnOk}
use Rattle.std.specs.Result.{is_ok}
use Rattle.std.specs.List.{position_from, position_or_len}
use Rattle.md_events.specs.FirstPlace.{first_place}

-- the first index that passes, where the list starts at an index
position-from : {K : Type 0} (p : K → Bool) (i : ℕ) (xs : List K) →
    position_from p i xs ≡ cond (nat_lt (position_or_len p xs) (length xs)) (Some (i + position_or_len p xs)) None
position-from p i [] = refl
position-from p i (x ∷ xs) = go (p x) (position-from p (i + 1) xs)
  where
    many : ℕ
    many = position_or_len p xs

    go : (passes : Bool) →
        position_from p (i + 1) xs ≡ cond (nat_lt many (length xs)) (Some (i + 1 + many)) None →
        cond passes (Some i) (position_from p (i + 1) xs) ≡
        cond (nat_lt (cond (not passes) (1 + many) 0) (suc (length xs))) (Some (i + cond (not passes) (1 + many) 0)) None
    go true h = grind arith
    go false h = grind arith

-- from the first one on
pub from-first : (listed : List (List ℕ)) (form : List ℕ) →
    position_from (λ other. bytes_eq other form) 0 listed ≡ first_place listed form
from-first listed form =
    position-from (λ other. bytes_eq other form) 0 listed
    ∙ ap (λ (n : ℕ). cond (nat_lt (position_or_len (λ other. bytes_eq other form) listed) (length listed)) (Some n) None)
    (omega arith)

-- what holds where there is a value
pub on-ok : {T E P : Type 0} (r : Result T E) → is_ok r ≡ true → OnOk r P → P
on-ok (Ok x) h p = p
on-ok (Err e) h p = absurd (false≢true h)

-- from one form earlier on: it is that one, or the first after it
pub form-before : {S : Type 0} (bytes : S → List ℕ) (forms : List S) (i at : ℕ) (s : S) (form : List ℕ) → suc i ≡ at →
    i < length forms → s ≡ get_or forms i s →
    position_from (λ other. bytes_eq other form) i (map bytes (drop i forms)) ≡
    cond (bytes_eq (bytes s) form) (Some i) (position_from (λ other. bytes_eq other form) at (map bytes (drop at forms)))
form-before bytes forms i at s form next within is =
    ap (λ l. position_from (λ other. bytes_eq other form) i (map bytes l)) (drop-cons forms i s within)
    ∙ ap
    (λ x. cond (bytes_eq (bytes x) form) (Some i)
    (position_from (λ other. bytes_eq other form) (i + 1) (map bytes (drop (suc i) forms)))) (sym is)
    ∙ ap
    (λ n. cond (bytes_eq (bytes s) form) (Some i)
    (position_from (λ other. bytes_eq other form) n (map bytes (drop (suc i) forms)))) (omega arith)
    ∙ ap
    (λ n. cond (bytes_eq (bytes s) form) (Some i)
    (position_from (λ other. bytes_eq other form) n (map bytes (drop n forms)))) next
