-- Where the text of an input ends.
use Rattle.std.proofs.Common.{◌≡◌, ℕ, Bool, true, false, cond, List, [], ◌∷◌, ap}
use Rattle.plain_inlines.specs.Given.{ends_here, left}

pub left_end : (input : List ℕ) → ends_here input ≡ true → left input ≡ input
left_end [] h = cc
left_end (b ∷ rest) h = ap (λ (t : Bool). cond t (b ∷ rest) (left rest)) h

pub left_more : (b : ℕ) (rest : List ℕ) → ends_here (b ∷ rest) ≡ false → left (b ∷ rest) ≡ left rest
left_more b rest h = ap (λ (t : Bool). cond t (b ∷ rest) (left rest)) h
