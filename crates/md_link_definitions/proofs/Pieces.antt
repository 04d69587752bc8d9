-- The pieces between the pipes of a row: there is a first one.
use Rattle.std.proofs.Common.{◌≡◌, ℕ, Bool, true, false, nat_eq, List, [], ◌∷◌, refl}
use Rattle.std.specs.List.{onto_first}
use Rattle.md_meaning.specs.Bytes.{is_end}
use Rattle.md_meaning.specs.Table.{pieces}

-- a first one, and the others
pub record Parted (row : List (List ℕ)) : Type 0 where
  pub first : List ℕ
  pub others : List (List ℕ)
  pub is : row ≡ first ∷ others

pub onto-parted : (b : ℕ) (row : List (List ℕ)) (p : Parted row) → onto_first b row ≡ (b ∷ p.first) ∷ p.others
onto-parted b row p = rw p.is refl

pub pieces-parted : (escaped : Bool) (row : List ℕ) → Parted (pieces escaped row)
unfolding pieces
pieces-parted true [] = record { first = []; others = []; is = refl }
pieces-parted false [] = record { first = []; others = []; is = refl }
pieces-parted true (b ∷ bs) =
    let p = pieces-parted false bs in record { first = b ∷ p.first; others = p.others; is = onto-parted b _ p }
pieces-parted false (b ∷ bs) = go (nat_eq b 124) refl (is_end bs) refl (pieces-parted (nat_eq b 92) bs)
  where
    go : (x : Bool) → nat_eq b 124 ≡ x → (y : Bool) → is_end bs ≡ y → Parted (pieces (nat_eq b 92) bs) →
        Parted (pieces false (b ∷ bs))
    go true e true k p = record { first = p.first; others = p.others; is = rw (e, k) p.is }
    go true e false k p = record { first = []; others = pieces (nat_eq b 92) bs; is = rw (e, k) refl }
    go false e y k p = record { first = b ∷ p.first; others = p.others; is = rw e (onto-parted b _ p) }
