-- Two places on one line of a text: no byte between them ends a line, and a place is known by its bytes.
use Rattle.std.proofs.Common.{◌≡◌, ℕ, zero, suc, ◌+◌, ◌-◌, ◌%◌, ◌<◌, ◌≤◌, ◌⊎◌, inl, inr, Bool, true, false, cond, ◌&&◌}
use Rattle.std.proofs.Common.{◌||◌, nat_lt, length-drop, not, List, [], ◌∷◌, ◌++◌, length, take, drop, refl, sym, ◌∙◌}
use Rattle.std.proofs.Common.{ap, subst, arith, append-nil, length-append}
use Rattle.std.specs.Prelude.{◌==◌, slice_index}
use Rattle.std.specs.List.{list_any}
use Rattle.std.proofs.Math.Logic.{∥∥₁_elim}
use Rattle.std.proofs.Props.{props}
use Rattle.std.proofs.lemmas.Bool.{cases_lt}
use Rattle.std.proofs.lemmas.List.{at_drop_more}
use Rattle.std.proofs.lemmas.List.Sums.{take_while-cons}
use Rattle.md_engine.specs.declared.event.Point.{Point}
use Rattle.md_engine.specs.declared.tokenizer.Scratch.{Scratch}
use Rattle.md_engine.specs.Place.{IsPlaced, IsReached, is_pair, next_point, walked}
use Rattle.md_leaves.specs.OnLine.{IsOnLine}
use Rattle.md_leaves.proofs.OnLine.{column-some, on-following, on-next}
use Rattle.md_meaning.proofs.TextsLemmas.{NoEnding}
use Rattle.md_meaning.specs.Lines.{is_ending, without_ending}
use Rattle.md_events.specs.Events.Places.{past_byte, past_text}
use Rattle.md_events.specs.Lent.{whole_from}
use Rattle.md_events.specs.WholeLine.{line_taken}
use Rattle.md_events.proofs.InlineLemmas.{past-index, past_text-append}
use Rattle.md_events.proofs.LineTaken.{taken-slice}
use Rattle.md_events.proofs.PointOrder.{Before, placed-same, walk-before}
use Rattle.md_events.proofs.ReachedLemmas.{same-following}
use Rattle.md_events.proofs.FeedLines.{past_text-whole}

-- Lines never go back.
line-next : (bytes : List ℕ) (p : Point) → p.line ≤ (next_point bytes p).line
line-next bytes p =
    go (is_ending (slice_index bytes p.index)) (is_pair bytes p.index)
    ((slice_index bytes p.index == 9) && not (p.column % 4 == 0))
  where
    go : (x y z : Bool) → p.line ≤
        (cond x (record { line = p.line + 1; column = 1; index = cond y (p.index + 2) (p.index + 1); vs = 0 })
        (cond z (record p { column = p.column + 1; vs = p.vs + 1 })
        (record p { column = p.column + 1; index = p.index + 1; vs = 0 }))).line
    go true y z = omega arith
    go false y true = omega arith
    go false y false = omega arith

walk-line : (bytes : List ℕ) (n m : ℕ) → n ≤ m → (walked bytes n).line ≤ (walked bytes m).line
unfolding walked
walk-line bytes n zero h = let same : n ≡ 0 = omega arith in rw same (omega arith)
walk-line bytes n (suc m) h = elim (cases_lt n (suc m)) [
  | inl lt ↦ let before : (walked bytes n).line ≤ (walked bytes m).line = walk-line bytes n m (omega arith) in
      let next : (walked bytes m).line ≤ (next_point bytes (walked bytes m)).line = line-next bytes (walked bytes m) in
      omega (arith, before, next)
  | inr le ↦ let same : n ≡ suc m = omega arith in
      subst (λ (k : ℕ). (walked bytes k).line ≤ (next_point bytes (walked bytes m)).line) (sym same) (omega arith)
]

reached-line : (bytes : List ℕ) (p q : Point) → IsReached bytes p → IsReached bytes q → p.index < q.index →
    (next_point bytes p).line ≤ q.line
unfolding walked
reached-line bytes p q (n, e) (m, f) h = elim (cases_lt n m) [
  | inl lt ↦ rw (e, f) (walk-line bytes (suc n) m (omega arith))
  | inr le ↦ absurd (back le (cases_lt m n))
]
  where
    never : Before q p → ⊥
    never (inl k) = omega (arith, k, h)
    never (inr k) = omega (arith, k.0, h)

    back : m ≤ n → (m < n) ⊎ (n ≤ m) → ⊥
    back le (inl lt) = let k : Before q p = rw (e, f) (walk-before bytes m n lt) in never k
    back le (inr more) =
        let same : n ≡ m = omega (arith, le, more) in
        let k : p ≡ q = e ∙ ap (walked bytes) same ∙ sym f in
        let i : p.index ≡ q.index = ap (λ (r : Point). r.index) k in
        omega (arith, i, h)

-- a byte before a place on the same line ends none
no-ending-at : (bytes : List ℕ) (p q : Point) → IsPlaced bytes p → IsPlaced bytes q → p.index < q.index →
    p.line ≡ q.line → is_ending (slice_index bytes p.index) ≡ false
no-ending-at bytes p q h k lt same = go (is_ending (slice_index bytes p.index)) refl
  where
    further : (next_point bytes p).line ≤ q.line
    further =
        ∥∥₁_elim h.reached (hlevel props)
        (λ r. ∥∥₁_elim k.reached (hlevel props) (λ s. reached-line bytes p q r s lt))

    go : (x : Bool) → is_ending (slice_index bytes p.index) ≡ x → x ≡ false
    go false e = refl
    go true e =
        let more : (next_point bytes p).line ≡ p.line + 1 = rw e refl in
        absurd (omega (arith, more, further, same))

pub between-lines : (n : ℕ) (bytes : List ℕ) (p q : Point) → IsPlaced bytes p → IsPlaced bytes q →
    p.line ≡ q.line → p.index + n ≡ q.index → NoEnding (take n (drop p.index bytes))
between-lines zero bytes p q h k same at = tt
between-lines (suc n) bytes p q h k same at =
    let b : ℕ = slice_index bytes p.index in
    let inside : p.index < length bytes = omega (arith, at, k.index) in
    let first : drop p.index bytes ≡ b ∷ drop (p.index + 1) bytes =
    at_drop_more (λ (l : List ℕ). l) bytes p.index 0 inside in
    let line : is_ending b ≡ false = no-ending-at bytes p q h k (omega (arith, at)) same in
    let one : IsOnLine bytes (b ∷ []) p =
    record { placed = h; rest = drop (p.index + 1) bytes; here = first; line = (line, tt) } in
    subst (λ (l : List ℕ). NoEnding (take (suc n) l)) (sym first)
    (line, between-lines n bytes (past_byte b p) q (on-next bytes b [] p one).placed k same (omega (arith, at)))

-- What was taken of a line up to a place on it ends none.
pub one-line : (bytes : List ℕ) (s : Scratch) (p q : Point) → IsPlaced bytes p → IsPlaced bytes q →
    p.index ≡ s.start → q.vs ≡ 0 → q.line ≡ p.line → NoEnding (line_taken bytes s q)
one-line bytes s p q h k at whole same =
    let to : whole_from q ≡ q.index = ap (λ (v : ℕ). cond (nat_lt 0 v) (q.index + 1) q.index) whole in
    subst NoEnding (taken-slice bytes s q k)
    (subst (λ (i : ℕ). NoEnding (take (i - s.start) (drop s.start bytes))) (sym to)
    (subst (λ (i : ℕ). NoEnding (take (q.index - i) (drop i bytes))) at (by (cases_lt q.index p.index))))
  where
    by : (q.index < p.index) ⊎ (p.index ≤ q.index) → NoEnding (take (q.index - p.index) (drop p.index bytes))
    by (inl lt) =
        let none : q.index - p.index ≡ 0 = omega (arith, lt) in
        subst (λ (n : ℕ). NoEnding (take n (drop p.index bytes))) (sym none) tt
    by (inr le) =
        let further : p.index + (q.index - p.index) ≡ q.index = omega (arith, le) in
        between-lines (q.index - p.index) bytes p q h k (sym same) further

-- bytes of which none ends a line
pub line-whole : (l : List ℕ) → NoEnding l → without_ending l ≡ l
line-whole [] h = refl
line-whole (b ∷ bs) h =
    take_while-cons (λ (c : ℕ). not (is_ending c)) b bs ∙ rw h.0 (ap (λ (l : List ℕ). b ∷ l) (line-whole bs h.1))

-- After bytes without a tab a point is so many bytes and columns further.

abbrev pub further : ℕ → Point → Point
further n p = record { line = p.line; column = p.column + n; index = p.index + n; vs = 0 }

neither : (x y : Bool) → x || y ≡ false → (x ≡ false) × (y ≡ false)
neither true y e = cc
neither false y e = (refl, e)

pub past-plain : (l : List ℕ) (p : Point) → p.vs ≡ 0 → 1 ≤ p.column → list_any (λ (b : ℕ). b == 9) l ≡ false →
    past_text l p ≡ further (length l) p
past-plain [] p e some none =
    let column : p.column ≡ p.column + 0 = omega arith in
    let index : p.index ≡ p.index + 0 = omega arith in
    ap (λ (v : ℕ). record { line = p.line; column = p.column; index = p.index; vs = v }) e
    ∙ ap (λ (c : ℕ). record { line = p.line; column = c; index = p.index; vs = 0 }) column
    ∙ ap (λ (i : ℕ). record { line = p.line; column = p.column + 0; index = i; vs = 0 }) index
past-plain (b ∷ bs) p e some none =
    let parts = neither (b == 9) (list_any (λ (c : ℕ). c == 9) bs) none in
    let q = past_byte b p in
    let n = length bs in
    let here : q ≡ further 1 p =
    same-following b p some (ap (λ (x : Bool). x && not (p.column % 4 == 0)) parts.0) in
    let more : 1 ≤ q.column = subst (λ (r : Point). 1 ≤ r.column) (sym here) (omega (arith, some)) in
    let column : p.column + 1 + n ≡ p.column + suc n = omega arith in
    let index : p.index + 1 + n ≡ p.index + suc n = omega arith in
    past-plain bs q refl more parts.1
    ∙ ap (further n) here
    ∙ ap (λ (c : ℕ). record { line = p.line; column = c; index = p.index + 1 + n; vs = 0 }) column
    ∙ ap (λ (i : ℕ). record { line = p.line; column = p.column + suc n; index = i; vs = 0 }) index

-- So the point after the text is known by that after all of it.
abbrev pub back_by : ℕ → Point → Point
back_by n q = record { line = q.line; column = q.column - n; index = q.index - n; vs = 0 }

back-further : (n : ℕ) (z q : Point) → z.vs ≡ 0 → further n z ≡ q → z ≡ back_by n q
back-further n z q whole back =
    let column : z.column ≡ z.column + n - n = omega arith in
    let index : z.index ≡ z.index + n - n = omega arith in
    ap (λ (v : ℕ). record { line = z.line; column = z.column; index = z.index; vs = v }) whole
    ∙ ap (λ (c : ℕ). record { line = z.line; column = c; index = z.index; vs = 0 }) column
    ∙ ap (λ (i : ℕ). record { line = z.line; column = z.column + n - n; index = i; vs = 0 }) index
    ∙ ap (back_by n) back

pub end-back : (bytes xs ys : List ℕ) (p q : Point) → IsOnLine bytes (xs ++ ys) p → p.vs ≡ 0 → IsPlaced bytes q →
    q.vs ≡ 0 → q.index ≡ p.index + length xs + length ys → list_any (λ (b : ℕ). b == 9) ys ≡ false →
    past_text xs p ≡ back_by (length ys) q
end-back bytes xs ys p q on e k f at none =
    let z = past_text xs p in
    let all = past_text (xs ++ ys) p in
    let whole : z.vs ≡ 0 = past_text-whole xs p e in
    let placed : IsPlaced bytes all =
    (on-following bytes (xs ++ ys) [] p (subst (λ (l : List ℕ). IsOnLine bytes l p) (sym (append-nil (xs ++ ys)))
    on)).placed in
    let same : all ≡ q =
    placed-same bytes all q placed k
    (omega (arith, past-index (xs ++ ys) p, at, length-append xs ys)) (past_text-whole (xs ++ ys) p e ∙ sym f) in
    let plain : past_text ys z ≡ further (length ys) z =
    past-plain ys z whole (column-some bytes z (on-following bytes xs ys p on).placed) none in
    back-further (length ys) z q whole (sym plain ∙ sym (past_text-append xs ys p) ∙ same)

-- a piece of a line is within its text
pub on-within : (bytes piece : List ℕ) (p : Point) → IsOnLine bytes piece p → p.index + length piece ≤ length bytes
on-within bytes piece p on =
    omega (arith, on.placed.index, ap length on.here, length-drop p.index bytes, length-append piece on.rest)
