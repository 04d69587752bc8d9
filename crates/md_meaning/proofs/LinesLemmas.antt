-- Lines without their endings, and lines as what is left of them.
use Rattle.std.proofs.Common.{◌≡◌, ℕ, Bool, false, cond, not, List, [], ◌∷◌, map, refl, ◌∙◌, ap}
use Rattle.std.specs.List.{onto_first}
use Rattle.std.proofs.lemmas.List.Sums.{take_while-cons}
use Rattle.md_meaning.specs.Lines.{is_ending, without_ending}
use Rattle.md_meaning.specs.Preamble.{rest_at, rests_at}

pub without_ending-cons : (b : ℕ) (line : List ℕ) → is_ending b ≡ false →
    without_ending (b ∷ line) ≡ b ∷ without_ending line
without_ending-cons b line e =
    take_while-cons (λ (c : ℕ). not (is_ending c)) b line
    ∙ ap (λ (t : Bool). cond (not t) (b ∷ without_ending line) []) e

-- a byte that ends no line stays in its line
pub without_ending-onto : (b : ℕ) (ls : List (List ℕ)) → is_ending b ≡ false →
    map without_ending (onto_first b ls) ≡ onto_first b (map without_ending ls)
without_ending-onto b [] e = ap (λ (l : List ℕ). l ∷ []) (without_ending-cons b [] e)
without_ending-onto b (l ∷ ls) e = ap (λ (k : List ℕ). k ∷ map without_ending ls) (without_ending-cons b l e)

-- lines of which each begins at the first column
pub rests_at-zero : (ls : List (List ℕ)) → rests_at 0 ls ≡ map (rest_at 0) ls
rests_at-zero [] = refl
rests_at-zero (l ∷ ls) = refl
