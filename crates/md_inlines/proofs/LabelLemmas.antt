-- Labels by all their bytes, and by their lines.
use Rattle.std.proofs.Common.{◌≡◌, ℕ, suc, ◌+◌, ◌-◌, Bool, true, false, cond, ◌&&◌, List, [], ◌∷◌, length, refl, ap}
use Rattle.std.proofs.Common.{sym, ◌∙◌, arith}
use Rattle.std.specs.Prelude.{◌==◌, not, nat_le, sum_by, count_by}
use Rattle.std.specs.List.{list_all, onto_first, slice_split}
use Rattle.std.proofs.lemmas.List.Splits.{slice_split-cons_no, slice_split-cons_yes}
use Rattle.std.proofs.lemmas.List.Sums.{sum_by-cons}
use Rattle.md_meaning.specs.Rest.{is_blank, is_white}
use Rattle.md_inlines.specs.Characters.{is_gap}
use Rattle.md_inlines.specs.Target.{is_label}

abbrev is_feed : ℕ → Bool
is_feed b = b == 10

sum-onto : (b : ℕ) (parts : List (List ℕ)) → sum_by length (onto_first b parts) ≡ suc (sum_by length parts)
sum-onto b [] = refl
sum-onto b (part ∷ parts) = omega (arith, sum_by-cons length (b ∷ part) parts, sum_by-cons length part parts)

-- the bytes of the lines, and the endings
sum-lines : (text : List ℕ) → sum_by length (slice_split is_feed text) + count_by is_feed text ≡ length text
sum-lines [] = refl
sum-lines (b ∷ text) = go (is_feed b) refl (sum-lines text)
  where
    count : (t : Bool) → is_feed b ≡ t → count_by is_feed (b ∷ text) ≡ cond t 1 0 + count_by is_feed text
    count t e =
        sum_by-cons (λ x. cond (is_feed x) 1 0) b text ∙ ap (λ s. cond s 1 0 + count_by is_feed text) e

    go : (t : Bool) → is_feed b ≡ t →
        sum_by length (slice_split is_feed text) + count_by is_feed text ≡ length text →
        sum_by length (slice_split is_feed (b ∷ text)) + count_by is_feed (b ∷ text) ≡ suc (length text)
    go true e rest =
        omega (
          arith,
          rest,
          ap (sum_by length) (slice_split-cons_yes is_feed b text e),
          sum_by-cons length [] (slice_split is_feed text),
          count true e,
        )
    go false e rest =
        omega (
          arith,
          rest,
          ap (sum_by length) (slice_split-cons_no is_feed b text e),
          sum-onto b (slice_split is_feed text),
          count false e,
        )

blank-onto : (b : ℕ) (parts : List (List ℕ)) → list_all is_blank (onto_first b parts) ≡
    (is_white b && list_all is_blank parts)
blank-onto b [] = go (is_white b)
  where
    go : (t : Bool) → ((t && true) && true) ≡ (t && true)
    go true = refl
    go false = refl
blank-onto b (part ∷ parts) = go (is_white b)
  where
    go : (t : Bool) → ((t && is_blank part) && list_all is_blank parts) ≡
        (t && (is_blank part && list_all is_blank parts))
    go true = refl
    go false = refl

-- lines are blank where all bytes are whitespace
pub blank-lines : (text : List ℕ) → list_all is_blank (slice_split is_feed text) ≡ list_all is_gap text
blank-lines [] = refl
blank-lines (b ∷ text) = go (is_feed b) refl (is_white b) refl (blank-lines text)
  where
    go : (t : Bool) → is_feed b ≡ t → (w : Bool) → is_white b ≡ w →
        list_all is_blank (slice_split is_feed text) ≡ list_all is_gap text →
        list_all is_blank (slice_split is_feed (b ∷ text)) ≡ list_all is_gap (b ∷ text)
    go true e true p rest = rw (p, e) rest
    go true e false p rest = rw (p, e) rest
    go false e true p rest =
        let cut : list_all is_blank (slice_split is_feed (b ∷ text)) ≡
        list_all is_blank (onto_first b (slice_split is_feed text)) = rw e refl in
        let white : (is_white b && list_all is_blank (slice_split is_feed text)) ≡ list_all is_gap text = rw p rest in
        let gap : list_all is_gap (b ∷ text) ≡ list_all is_gap text = rw p refl in
        cut ∙ blank-onto b (slice_split is_feed text) ∙ white ∙ sym gap
    go false e false p rest =
        let cut : list_all is_blank (slice_split is_feed (b ∷ text)) ≡
        list_all is_blank (onto_first b (slice_split is_feed text)) = rw e refl in
        let white : (is_white b && list_all is_blank (slice_split is_feed text)) ≡ false = rw p refl in
        let gap : list_all is_gap (b ∷ text) ≡ false = rw (p, e) refl in
        cut ∙ blank-onto b (slice_split is_feed text) ∙ white ∙ sym gap

pub label_is : (text : List ℕ) → is_label text ≡ (not (list_all is_gap text) && nat_le
    (length text - count_by is_feed text) 999)
label_is text =
    let count : sum_by length (slice_split is_feed text) ≡ length text - count_by is_feed text =
    omega (arith, sum-lines text) in
    ap (λ t. not t && nat_le (sum_by length (slice_split is_feed text)) 999) (blank-lines text)
    ∙ ap (λ n. not (list_all is_gap text) && nat_le n 999) count
