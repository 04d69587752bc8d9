-- Parts of a line between two rests of it, by the bytes between them.
use Rattle.std.proofs.Common.{◌≡◌, ℕ, zero, suc, ◌+◌, ◌≤◌, Bool, true, false, cond, ◌&&◌, List, [], ◌∷◌, ◌++◌}
use Rattle.std.proofs.Common.{length, take, drop, refl, sym, ap, ◌∙◌, subst, append_assoc, append-nil, length-append}
use Rattle.std.proofs.Common.{length-drop, arith}
use Rattle.std.specs.Prelude.{◌==◌}
use Rattle.std.specs.List.{AllPass, prefix_len}
use Rattle.std.proofs.lemmas.Bool.{and_from, and_right, eq-eqb, false≢true}
use Rattle.std.proofs.lemmas.Bool.Decides.{nat_tests}
use Rattle.std.proofs.lemmas.List.{take-append-drop}
use Rattle.std.proofs.lemmas.List.Elements.{All-cons}
use Rattle.md_engine.specs.declared.event.Content.{Content}
use Rattle.md_engine.specs.declared.event.Event.{Event}
use Rattle.md_engine.specs.declared.event.Name.{Name}
use Rattle.md_engine.specs.declared.event.Point.{Point}
use Rattle.md_leaves.proofs.TitleRuns.{pass-first, pass-rest}
use Rattle.md_leaves.proofs.TitleTexts.{front-passes, front-stops}
use Rattle.md_meaning.specs.Bytes.{begins, is_end}
use Rattle.md_meaning.specs.Rest.{Rest, after_indent, cut_tab, is_white}
use Rattle.md_events.specs.Events.Nested.{around, pair}
use Rattle.md_events.specs.Events.Places.{past_text}
use Rattle.md_events.proofs.InlineLemmas.{past_text-append}
use Rattle.proof_frame.specs.LineColumns.{part_over}
use Rattle.md_events.specs.Exact.Places.{TextLine, chunk, is_same, line_end, past, piece, place, text_part}
use Rattle.proof_exact_lines.proofs.BeginsAt.{BeginsAt, begins-end, begins-past, begins-place, rest_bytes}
use Rattle.proof_exact_lines.proofs.AfterIndent.{indent-past}

-- A run of bytes that pass a test, and what follows it, are known by the bytes.

pub record AreSplit (xs ys front back : List ℕ) : Type 0 where
  pub front_is : xs ≡ front
  pub back_is : ys ≡ back

pub split-one : (f : ℕ → Bool) (xs ys front back : List ℕ) → xs ++ ys ≡ front ++ back → AllPass f xs →
    AllPass f front → begins f ys ≡ false → begins f back ≡ false → AreSplit xs ys front back
split-one f [] ys [] back e h k none stops = record { front_is = refl; back_is = e }
split-one f [] ys (b ∷ front) back e h k none stops =
    let passes : f b ≡ true = pass-first f b front k in
    let first : begins f ys ≡ f b = ap (begins f) e in
    absurd (false≢true (sym none ∙ first ∙ passes))
split-one f (x ∷ xs) ys [] back e h k none stops =
    let passes : f x ≡ true = pass-first f x xs h in
    let first : f x ≡ begins f back = ap (begins f) e in
    absurd (false≢true (sym stops ∙ sym first ∙ passes))
split-one f (x ∷ xs) ys (b ∷ front) back e h k none stops =
    let further = split-one f xs ys front back (ap (drop 1) e) (pass-rest f x xs h) (pass-rest f b front k) none
    stops in
    let same : x ≡ b = cc in
    record {
      front_is = ap (λ (l : List ℕ). x ∷ l) further.front_is ∙ ap (λ (y : ℕ). y ∷ front) same;
      back_is = further.back_is;
    }

-- A rest of these bytes begins at a point, and no tab is cut there.
pub record Valid (line : TextLine) (bytes : List ℕ) (p : Point) (r : Rest) : Type 0 where
  pub at : BeginsAt line r p
  pub whole : r.spaces ≡ 0
  pub bytes_are : r.bytes ≡ bytes

-- a rest is after some bytes of another
pub record IsAfter (line : TextLine) (r : Rest) (xs ys : List ℕ) (p : Point) (s : Rest) : Type 0 where
  pub valid : Valid line ys (past_text xs p) s
  pub fewer : length s.bytes ≤ length r.bytes

pub past-following : (line : TextLine) (r : Rest) (p : Point) (n : ℕ) (xs ys : List ℕ) → BeginsAt line r p →
    cut_tab r.spaces ++ take n r.bytes ≡ xs → drop n r.bytes ≡ ys → IsAfter line r xs ys p (past n r)
past-following line r p n xs ys at front back = record {
  valid = record {
    at =
        subst (BeginsAt line (past n r))
        (sym (past_text-append (cut_tab r.spaces) (take n r.bytes) p) ∙ ap (λ (l : List ℕ). past_text l p) front)
        (begins-past line r p n at);
    whole = refl;
    bytes_are = back;
  };
  fewer = omega (arith, length-drop n r.bytes);
}

white-tab : (spaces : ℕ) (bytes : List ℕ) → AllPass is_white bytes → AllPass is_white (cut_tab spaces ++ bytes)
white-tab zero bytes h = h
white-tab (suc n) bytes h = All-cons (λ (x : ℕ). is_white x ≡ true) 9 bytes refl h

append-cut : (spaces n : ℕ) (bytes : List ℕ) →
    (cut_tab spaces ++ take n bytes) ++ drop n bytes ≡ cut_tab spaces ++ bytes
append-cut zero n bytes = take-append-drop n bytes
append-cut (suc k) n bytes = ap (λ (l : List ℕ). 9 ∷ l) (take-append-drop n bytes)

-- after whitespace
pub white-following : (line : TextLine) (r : Rest) (p : Point) (xs ys : List ℕ) → BeginsAt line r p →
    rest_bytes r ≡ xs ++ ys → AllPass is_white xs → begins is_white ys ≡ false →
    IsAfter line r xs ys p (after_indent r)
white-following line r p xs ys at e white none =
    let n : ℕ = prefix_len is_white r.bytes in
    let same : AreSplit (cut_tab r.spaces ++ take n r.bytes) (drop n r.bytes) xs ys =
    split-one is_white (cut_tab r.spaces ++ take n r.bytes) (drop n r.bytes) xs ys (append-cut r.spaces n r.bytes ∙ e)
    (white-tab r.spaces (take n r.bytes) (front-passes is_white r.bytes)) white (front-stops is_white r.bytes) none in
    subst (IsAfter line r xs ys p) (sym (indent-past r))
    (past-following line r p n xs ys at same.front_is same.back_is)

-- after a run
pub run-following : (f : ℕ → Bool) (line : TextLine) (r : Rest) (p : Point) (xs ys : List ℕ) →
    Valid line (xs ++ ys) p r → AllPass f xs → begins f ys ≡ false →
    IsAfter line r xs ys p (past (prefix_len f r.bytes) r)
run-following f line r p xs ys is passes none =
    let n : ℕ = prefix_len f r.bytes in
    let same : AreSplit (take n r.bytes) (drop n r.bytes) xs ys =
    split-one f (take n r.bytes) (drop n r.bytes) xs ys (take-append-drop n r.bytes ∙ is.bytes_are)
    (front-passes f r.bytes) passes (front-stops f r.bytes) none in
    past-following line r p n xs ys is.at
    (ap (λ (k : ℕ). cut_tab k ++ take n r.bytes) is.whole ∙ same.front_is) same.back_is

-- to the end of the line
pub end-following : (line : TextLine) (r : Rest) (p : Point) (xs : List ℕ) → BeginsAt line r p → rest_bytes r ≡ xs →
    IsAfter line r xs [] p (line_end line)
end-following line r p xs at e = record {
  valid = record {
    at =
        subst (BeginsAt line (line_end line))
        (sym (past_text-append (cut_tab r.spaces) r.bytes p) ∙ ap (λ (l : List ℕ). past_text l p) e)
        (begins-end line r p at);
    whole = refl;
    bytes_are = refl;
  };
  fewer = omega arith;
}

-- the bytes of a rest where no tab is cut
pub valid-bytes : (line : TextLine) (bytes : List ℕ) (p : Point) (r : Rest) → Valid line bytes p r →
    rest_bytes r ≡ bytes
valid-bytes line bytes p r is = ap (λ (k : ℕ). cut_tab k ++ r.bytes) is.whole ∙ is.bytes_are

-- The bytes between, by what they are of those that are left.

-- after all whitespace
pub white-front : (line : TextLine) (r : Rest) (p : Point) (bytes : List ℕ) → BeginsAt line r p →
    rest_bytes r ≡ bytes → let w : ℕ = prefix_len is_white bytes in
    IsAfter line r (take w bytes) (drop w bytes) p (after_indent r)
white-front line r p bytes at e =
    let w : ℕ = prefix_len is_white bytes in
    white-following line r p (take w bytes) (drop w bytes) at (e ∙ sym (take-append-drop w bytes))
    (front-passes is_white bytes) (front-stops is_white bytes)

-- after so many bytes
pub taken-front : (line : TextLine) (r : Rest) (p : Point) (n : ℕ) (bytes : List ℕ) → Valid line bytes p r →
    IsAfter line r (take n bytes) (drop n bytes) p (past n r)
taken-front line r p n bytes is =
    past-following line r p n (take n bytes) (drop n bytes) is.at
    (ap (λ (k : ℕ). cut_tab k ++ take n r.bytes) is.whole ∙ ap (take n) is.bytes_are)
    (ap (drop n) is.bytes_are)

-- after a run
pub run-front : (f : ℕ → Bool) (line : TextLine) (r : Rest) (p : Point) (bytes : List ℕ) → Valid line bytes p r →
    let k : ℕ = prefix_len f bytes in
    IsAfter line r (take k bytes) (drop k bytes) p (past (prefix_len f r.bytes) r)
run-front f line r p bytes is =
    let k : ℕ = prefix_len f bytes in
    subst (λ (n : ℕ). IsAfter line r (take k bytes) (drop k bytes) p (past n r))
    (sym (ap (prefix_len f) is.bytes_are)) (taken-front line r p k bytes is)

-- Parts.

-- two rests begin at one point where nothing is between them
pub same-end : (line : TextLine) (r s : Rest) (p : Point) (xs ys : List ℕ) → rest_bytes r ≡ xs ++ ys →
    IsAfter line r xs ys p s → is_same r s ≡ is_end xs
same-end line r s p xs ys e following = go r.spaces xs e
  where
    back : length s.bytes ≡ length ys
    back = ap (λ (l : List ℕ). length l) following.valid.bytes_are

    none : s.spaces ≡ 0
    none = following.valid.whole

    go : (spaces : ℕ) (xs : List ℕ) → cut_tab spaces ++ r.bytes ≡ xs ++ ys →
        ((length r.bytes == length s.bytes) && (spaces == s.spaces)) ≡ is_end xs
    go zero [] e =
        let size : length r.bytes ≡ length ys = ap (λ (l : List ℕ). length l) e in
        and_from (length r.bytes == length s.bytes) (0 == s.spaces) (eq-eqb _ _ (size ∙ sym back))
        (eq-eqb 0 s.spaces (sym none))
    go zero (x ∷ xs) e =
        let size : length r.bytes ≡ suc (length (xs ++ ys)) = ap (λ (l : List ℕ). length l) e in
        let sum : length (xs ++ ys) ≡ length xs + length ys = length-append xs ys in
        let differ : (length r.bytes == length s.bytes) ≡ false = grind (arith, nat_tests, size, sum, back) in
        ap (λ (t : Bool). t && (0 == s.spaces)) differ
    go (suc n) [] e =
        let size : suc (length r.bytes) ≡ length ys = ap (λ (l : List ℕ). length l) e in
        absurd (omega (arith, size, back, following.fewer))
    go (suc n) (x ∷ xs) e =
        let differ : (suc n == s.spaces) ≡ false = grind (arith, nat_tests, none) in
        and_right (length r.bytes == length s.bytes) (suc n == s.spaces) differ

-- a part from one rest to another
pub piece-is : (line : TextLine) (name : Name) (r s : Rest) (p : Point) (xs ys : List ℕ) → BeginsAt line r p →
    rest_bytes r ≡ xs ++ ys → IsAfter line r xs ys p s → piece line name r s ≡ part_over name xs p (past_text xs p)
piece-is line name r s p xs ys at e following =
    ap (λ (t : Bool). cond t [] (pair name (place line r) (place line s))) (same-end line r s p xs ys e following)
    ∙ ap (λ (q : Point). cond (is_end xs) [] (pair name q (place line s))) (begins-place line r p at)
    ∙ ap (λ (q : Point). cond (is_end xs) [] (pair name p q)) (begins-place line s (past_text xs p) following.valid.at)
    ∙ go xs (past_text xs p)
  where
    go : (xs : List ℕ) (q : Point) → cond (is_end xs) [] (pair name p q) ≡ part_over name xs p q
    go [] q = refl
    go (x ∷ xs) q = refl

-- and a text part
abbrev pub text_over : Content → Name → List ℕ → Point → Point → List Event
text_over kind name [] p q = []
text_over kind name (b ∷ bs) p q = around name p q (chunk kind p q)

pub text-is : (line : TextLine) (kind : Content) (name : Name) (r s : Rest) (p : Point) (xs ys : List ℕ) →
    Valid line (xs ++ ys) p r → IsAfter line r xs ys p s →
    text_part line kind name r s ≡ text_over kind name xs p (past_text xs p)
text-is line kind name r s p xs ys is following =
    ap (λ (t : Bool). cond t [] (over (place line r) (place line s)))
    (same-end line r s p xs ys (valid-bytes line (xs ++ ys) p r is) following)
    ∙ ap (λ (q : Point). cond (is_end xs) [] (over q (place line s))) (begins-place line r p is.at)
    ∙ ap (λ (q : Point). cond (is_end xs) [] (over p q)) (begins-place line s (past_text xs p) following.valid.at)
    ∙ go xs (past_text xs p)
  where
    over : Point → Point → List Event
    over p q = around name p q (chunk kind p q)

    go : (xs : List ℕ) (q : Point) → cond (is_end xs) [] (over p q) ≡ text_over kind name xs p q
    go [] q = refl
    go (x ∷ xs) q = refl

-- up to the end of the line
pub piece-end : (line : TextLine) (name : Name) (r : Rest) (p : Point) (xs : List ℕ) → BeginsAt line r p →
    rest_bytes r ≡ xs → piece line name r (line_end line) ≡ part_over name xs p (past_text xs p)
piece-end line name r p xs at e =
    piece-is line name r (line_end line) p xs [] at (e ∙ sym (append-nil xs)) (end-following line r p xs at e)

pub text-end : (line : TextLine) (kind : Content) (name : Name) (r : Rest) (p : Point) (xs : List ℕ) →
    Valid line xs p r → text_part line kind name r (line_end line) ≡ text_over kind name xs p (past_text xs p)
text-end line kind name r p xs is =
    text-is line kind name r (line_end line) p xs []
    (subst (λ (l : List ℕ). Valid line l p r) (sym (append-nil xs)) is)
    (end-following line r p xs is.at (valid-bytes line xs p r is))

-- three groups of events, one after the other
pub three-joined : {a b c i j k : List Event} → i ≡ a → j ≡ b → k ≡ c → (i ++ j) ++ k ≡ a ++ (b ++ c)
three-joined {a} {b} {c} first second third = rw (first, second, third) (append_assoc a b c)
