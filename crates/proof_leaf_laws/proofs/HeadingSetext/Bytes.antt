-- The bytes of the line of an underline: one run of its marker, and whitespace before it and after.
use Rattle.std.proofs.Common.{◌≡◌, ℕ, Bool, true, false, List, [], ◌∷◌, ◌++◌, drop, refl, ap, sym, ◌∙◌, subst, arith}
use Rattle.std.specs.Prelude.{◌==◌}
use Rattle.std.specs.List.{list_all}
use Rattle.std.proofs.lemmas.Bool.{and_from, and_parts, eq-eqb}
use Rattle.md_meaning.specs.Rest.{is_blank, is_white, trim_start}
use Rattle.md_meaning.specs.Texts.{first_byte}
use Rattle.md_leaves.specs.HeadingSetext.{is_marker}
use Rattle.md_leaves.specs.HeadingSetextRule.{is_run, is_underline}
use Rattle.md_events.proofs.RestLines.{count-none, trim-white}
use Rattle.proof_leaf_laws.proofs.HeadingSetext.Kinds.{run-one, run-other, underline-first, underline-mark}
use Rattle.proof_leaf_laws.proofs.MarkRuns.Cells.{IsMark}
use Rattle.proof_leaf_laws.proofs.MarkRuns.Line.{HasRun}

-- what is left of a run: markers, and whitespace after them
record RunAhead (m : ℕ) (bs : List ℕ) : Type 0 where
  marks : List ℕ
  back : List ℕ
  is : bs ≡ marks ++ back
  all : list_all (λ b. b == m) marks ≡ true
  back_white : is_blank back ≡ true

-- so it is where only the marker is left, and whitespace
run-ahead : (m : ℕ) (bs : List ℕ) → is_run m bs ≡ true → RunAhead m bs
run-ahead m [] e = record { marks = []; back = []; is = refl; all = refl; back_white = refl }
run-ahead m (b ∷ bs) e = go (b == m) refl (run-ahead m bs)
  where
    go : (x : Bool) → (b == m) ≡ x → (is_run m bs ≡ true → RunAhead m bs) → RunAhead m (b ∷ bs)
    go true k more =
        let left : RunAhead m bs = more (sym (run-one m b bs k) ∙ e) in
        record {
          marks = b ∷ left.marks;
          back = left.back;
          is = ap (λ (l : List ℕ). b ∷ l) left.is;
          all = and_from (b == m) (list_all (λ b. b == m) left.marks) k left.all;
          back_white = left.back_white;
        }
    go false k more = record {
      marks = [];
      back = b ∷ bs;
      is = refl;
      all = refl;
      back_white = sym (run-other m b bs k) ∙ e;
    }

-- from the first marker on
run-here : (m : ℕ) (bs : List ℕ) → is_underline (m ∷ bs) ≡ true → HasRun m (m ∷ bs)
run-here m bs e =
    let same : (m == m) ≡ true = eq-eqb m m refl in
    let left : RunAhead m bs =
    run-ahead m bs (sym (run-one m m bs same) ∙ (and_parts (is_marker m) (is_run m (m ∷ bs)) e).1) in
    record {
      front = [];
      marks = m ∷ left.marks;
      back = left.back;
      is = ap (λ (l : List ℕ). m ∷ l) left.is;
      front_white = refl;
      some = omega arith;
      all = and_from (m == m) (list_all (λ b. b == m) left.marks) same left.all;
      back_white = left.back_white;
    }

-- with more whitespace in front
run-following : (m b : ℕ) (bs : List ℕ) → is_white b ≡ true → HasRun m bs → HasRun m (b ∷ bs)
run-following m b bs white is = record {
  front = b ∷ is.front;
  marks = is.marks;
  back = is.back;
  is = ap (λ (l : List ℕ). b ∷ l) is.is;
  front_white = and_from (is_white b) (is_blank is.front) white is.front_white;
  some = is.some;
  all = is.all;
  back_white = is.back_white;
}

-- the whole line
pub underline-run : (line : List ℕ) → is_underline (trim_start line) ≡ true →
    HasRun (first_byte (trim_start line)) line
underline-run [] is = absurd (cc)
underline-run (b ∷ bs) is = go (is_white b) refl (underline-run bs)
  where
    Runs : List ℕ → Type 0
    Runs trimmed = is_underline trimmed ≡ true → HasRun (first_byte trimmed) (b ∷ bs)

    go : (x : Bool) → is_white b ≡ x →
        (is_underline (trim_start bs) ≡ true → HasRun (first_byte (trim_start bs)) bs) →
        HasRun (first_byte (trim_start (b ∷ bs))) (b ∷ bs)
    go true e more =
        subst Runs (sym (trim-white b bs e))
        (λ k. run-following (first_byte (trim_start bs)) b bs e (more k)) is
    go false e more =
        subst Runs (sym (ap (λ (i : ℕ). drop i (b ∷ bs)) (count-none is_white b bs e))) (run-here b bs) is

-- its marker is no whitespace
pub underline-dark : (line : List ℕ) → is_underline (trim_start line) ≡ true →
    is_white (first_byte (trim_start line)) ≡ false
underline-dark line is =
    let mark : IsMark (first_byte (trim_start line)) =
    underline-mark (first_byte (trim_start line)) (underline-first (trim_start line) is) in
    mark.dark
