-- What a text that is read gains from one point to the next: the bytes between, without what is left of a cut tab.
use Rattle.std.proofs.Common.{◌≡◌, ℕ, zero, suc, ◌+◌, ◌-◌, ◌<◌, ◌≤◌, Bool, true, false, cond, ◌&&◌, ◌||◌, ◌⊎◌, inl, inr}
use Rattle.std.proofs.Common.{List, [], ◌∷◌, ◌++◌, take, drop, slice_range, refl, ap, sym, ◌∙◌, arith}
use Rattle.std.proofs.Common.{append_assoc, append-nil, drop-drop, nat_lt}
use Rattle.std.specs.Prelude.{◌==◌}
use Rattle.std.proofs.lemmas.Bool.{and_parts, cases_lt, eqb-true}
use Rattle.std.proofs.lemmas.List.{drop-take}
use Rattle.md_engine.specs.declared.event.Point.{Point}
use Rattle.md_meaning.specs.Rest.{is_blank, is_white, tab_columns}
use Rattle.md_meaning.specs.Texts.{first_byte}
use Rattle.md_events.specs.Events.Places.{columns_before, within_tab}
use Rattle.md_events.specs.Events.Spelled.{Text, byte_at, text_to}
use Rattle.md_events.proofs.FeedLines.{slice-split}
use Rattle.md_events.proofs.PlainSteps.{range-none}
use Rattle.proof_inlines.proofs.ReadSteps.{IsSome, Takes}

-- from a byte on
slice-next : (bytes : List ℕ) (i j : ℕ) → i ≤ j → slice_range bytes (i + 1) j ≡ drop 1 (slice_range bytes i j)
slice-next bytes i j le = go (cases_lt i j)
  where
    go : (i < j) ⊎ (j ≤ i) → slice_range bytes (i + 1) j ≡ drop 1 (slice_range bytes i j)
    go (inr ge) =
        range-none bytes (i + 1) j (omega (arith, ge)) ∙ sym (ap (drop 1) (range-none bytes i j ge))
    go (inl lt) =
        let size : 1 + (j - (i + 1)) ≡ j - i = omega (arith, lt) in
        ap (take (j - (i + 1))) (sym (drop-drop 1 i bytes))
        ∙ sym (drop-take 1 (j - (i + 1)) (drop i bytes))
        ∙ ap (λ (n : ℕ). drop 1 (take n (drop i bytes))) size

-- What is gained, where the text begins at a point or before it, or after the tab that the point cuts.
pub record Gains (bytes : List ℕ) (text : Text) (p q : Point) : Type 0 where
  pub more : List ℕ
  pub is : text_to bytes q.index text ≡ text_to bytes p.index text ++ more
  pub from :
      (more ≡ slice_range bytes p.index q.index)
      ⊎ (((p.vs == 0) ≡ false) × (more ≡ drop 1 (slice_range bytes p.index q.index)))

after-byte : (p : Point) (from : ℕ) → from ≤ byte_at p → p.index < from →
    ((p.vs == 0) ≡ false) × (from ≡ p.index + 1)
after-byte p from le lt = go (p.vs == 0) refl le
  where
    go : (b : Bool) → (p.vs == 0) ≡ b → from ≤ cond b p.index (p.index + 1) →
        ((p.vs == 0) ≡ false) × (from ≡ p.index + 1)
    go true e le = absurd (omega (arith, le, lt))
    go false e le = (e, omega (arith, le, lt))

pub gains : (bytes : List ℕ) (text : Text) (p q : Point) → text.from ≤ byte_at p → p.index ≤ q.index →
    Gains bytes text p q
gains bytes text p q le on = go (cases_lt p.index text.from)
  where
    whole : text.from ≤ p.index → Gains bytes text p q
    whole before = record {
      more = slice_range bytes p.index q.index;
      is =
          ap (λ (l : List ℕ). text.front ++ l) (slice-split bytes text.from p.index q.index before on)
          ∙ sym (append_assoc text.front (slice_range bytes text.from p.index) (slice_range bytes p.index q.index));
      from = inl refl;
    }

    cut : ((p.vs == 0) ≡ false) × (text.from ≡ p.index + 1) → Gains bytes text p q
    cut at = record {
      more = drop 1 (slice_range bytes p.index q.index);
      is =
          ap (λ (i : ℕ). text.front ++ slice_range bytes i q.index) at.1
          ∙ ap (λ (l : List ℕ). text.front ++ l) (slice-next bytes p.index q.index on)
          ∙ ap (λ (l : List ℕ). l ++ drop 1 (slice_range bytes p.index q.index))
          (sym (ap (λ (l : List ℕ). text.front ++ l)
          (range-none bytes text.from p.index (let e = at.1 in omega (arith, e))) ∙ append-nil text.front));
      from = inr (at.0, refl);
    }

    go : (p.index < text.from) ⊎ (text.from ≤ p.index) → Gains bytes text p q
    go (inr before) = whole before
    go (inl lt) = cut (after-byte p text.from le lt)

blank-drop : (l : List ℕ) → is_blank l ≡ true → is_blank (drop 1 l) ≡ true
blank-drop [] h = refl
blank-drop (b ∷ l) h = (and_parts (is_white b) (is_blank l) h).1

-- whitespace gains whitespace
pub gains-white : (bytes : List ℕ) (text : Text) (p q : Point) (g : Gains bytes text p q) →
    is_blank (slice_range bytes p.index q.index) ≡ true → is_blank g.more ≡ true
gains-white bytes text p q g h = go g.from
  where
    go : (g.more ≡ slice_range bytes p.index q.index)
        ⊎ (((p.vs == 0) ≡ false) × (g.more ≡ drop 1 (slice_range bytes p.index q.index))) →
        is_blank g.more ≡ true
    go (inl same) = ap is_blank same ∙ h
    go (inr cut) = ap is_blank cut.1 ∙ blank-drop (slice_range bytes p.index q.index) h

tab-first : (n : ℕ) (l : List ℕ) → first_byte l ≡ 9 → IsSome (take n l) → take n l ≡ 9 ∷ drop 1 (take n l)
tab-first zero l e some = absurd some
tab-first (suc n) [] e some = absurd some
tab-first (suc n) (b ∷ l) e some = ap (λ (c : ℕ). c ∷ take n l) e

tab-at : (bytes : List ℕ) (p : Point) → within_tab bytes p ≡ true → (p.vs == 0) ≡ false →
    first_byte (drop p.index bytes) ≡ 9
tab-at bytes p within cut =
    go (p.vs == 0) (nat_lt p.vs (tab_columns (columns_before bytes p.index))) cut within
  where
    go : (b more : Bool) → b ≡ false → (b || ((first_byte (drop p.index bytes) == 9) && more)) ≡ true →
        first_byte (drop p.index bytes) ≡ 9
    go true more e h = cc
    go false more e h =
        eqb-true (first_byte (drop p.index bytes)) 9 (and_parts (first_byte (drop p.index bytes) == 9) more h).0

-- a chunk is taken whole, or without the tab that is cut
pub gains-chunk : (bytes : List ℕ) (text : Text) (p q : Point) (g : Gains bytes text p q) →
    within_tab bytes p ≡ true → IsSome (slice_range bytes p.index q.index) →
    Takes (slice_range bytes p.index q.index) g.more
gains-chunk bytes text p q g within some = go g.from
  where
    chunk : List ℕ
    chunk = slice_range bytes p.index q.index

    go : (g.more ≡ chunk) ⊎ (((p.vs == 0) ≡ false) × (g.more ≡ drop 1 chunk)) → Takes chunk g.more
    go (inl same) = inl same
    go (inr cut) =
        inr (
          9,
          refl,
          tab-first (q.index - p.index) (drop p.index bytes) (tab-at bytes p within cut.0) some
              ∙ ap (λ (l : List ℕ). 9 ∷ l) (sym cut.1),
        )
