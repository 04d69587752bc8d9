-- Pieces of a line of a text, and the points after their bytes, which are points of the text.
use Rattle.std.proofs.Common.{◌≡◌, ℕ, zero, suc, ◌+◌, ◌-◌, ◌%◌, ◌^◌, ◌<◌, ◌≤◌, Bool, true, false, ◌&&◌, not, List, []}
use Rattle.std.proofs.Common.{◌∷◌, ◌++◌, length, refl, sym, ◌∙◌, ap, subst, arith, append_assoc, length-drop}
use Rattle.std.specs.Prelude.{◌==◌, slice_index}
use Rattle.std.proofs.Math.Logic.{∥∥₁_elim}
use Rattle.std.proofs.Props.{props}
use Rattle.std.proofs.lemmas.Bool.{and_parts, eqb-true, eqb-false, not-true}
use Rattle.md_engine.specs.declared.event.Point.{Point}
use Rattle.md_engine.specs.Place.{IsPlaced, next_point}
use Rattle.md_engine.proofs.Sound.{placed-next}
use Rattle.md_leaves.specs.OnLine.{IsOnLine}
use Rattle.md_meaning.proofs.TextsLemmas.{NoEnding}
use Rattle.md_meaning.specs.Lines.{is_ending}
use Rattle.md_events.specs.Events.Places.{past_byte, past_text}
use Rattle.md_events.proofs.FeedLines.{past-next}
use Rattle.md_events.proofs.PlacesLemmas.{at-next}
use Rattle.md_events.proofs.PointOrder.{reached-column}
use Rattle.md_events.proofs.ReachedLemmas.{same-following}

-- a point of a text has a column from 1 on
pub column-some : (bytes : List ℕ) (p : Point) → IsPlaced bytes p → 1 ≤ p.column
column-some bytes p h = ∥∥₁_elim h.reached (hlevel props) (reached-column bytes p)

-- a column of a tab further
abbrev next_column : Point → Point
next_column p = record p { column = p.column + 1; vs = p.vs + 1 }

column-same : (p : Point) → 1 ≤ p.column → (p.column % 4 == 0) ≡ false →
    past_byte 9 (next_column p) ≡ past_byte 9 p
column-same p some inside =
    let apart : ¬ (p.column % 4 ≡ 0) = eqb-false (p.column % 4) 0 inside in
    let same : p.column + 1 - 1 + (4 - (p.column + 1 - 1) % 4) + 1 ≡ p.column - 1 + (4 - (p.column - 1) % 4) + 1 =
    omega (arith, some, apart) in
    ap (λ (c : ℕ). record { line = p.line; column = c; index = p.index + 1; vs = 0 }) same

-- the point after a byte that ends no line: of a tab it is where the columns of that end
record IsByte (bytes : List ℕ) (b : ℕ) (p : Point) : Type 0 where
  placed : IsPlaced bytes p
  inside : p.index < length bytes
  byte : slice_index bytes p.index ≡ b
  line : is_ending b ≡ false

byte-by : (bytes : List ℕ) (b : ℕ) (p : Point) → IsByte bytes b p → (x : Bool) →
    ((b == 9) && not (p.column % 4 == 0)) ≡ x →
    (IsByte bytes b (next_column p) → (p.column % 4 == 0) ≡ false → IsPlaced bytes (past_byte b (next_column p))) →
    IsPlaced bytes (past_byte b p)
byte-by bytes b p is false e more =
    let next : next_point bytes p ≡ past_byte b p =
    rw (is.byte, is.line, e) (sym (same-following b p (column-some bytes p is.placed) e)) in
    subst (IsPlaced bytes) next (placed-next bytes p is.placed is.inside)
byte-by bytes b p is true e more =
    let parts = and_parts (b == 9) (not (p.column % 4 == 0)) e in
    let tab : b ≡ 9 = eqb-true b 9 parts.0 in
    let within : (p.column % 4 == 0) ≡ false = not-true (p.column % 4 == 0) parts.1 in
    let next : next_point bytes p ≡ next_column p = rw (is.byte, is.line, e) refl in
    subst (λ (q : Point). IsPlaced bytes q)
    (ap (λ (c : ℕ). past_byte c (next_column p)) tab ∙ column-same p (column-some bytes p is.placed) within
    ∙ ap (λ (c : ℕ). past_byte c p) (sym tab))
    (more
    (record {
      placed = subst (IsPlaced bytes) next (placed-next bytes p is.placed is.inside);
      inside = is.inside;
      byte = is.byte;
      line = is.line;
    })
    within)

byte-placed : (left : ℕ) (bytes : List ℕ) (b : ℕ) (p : Point) → IsByte bytes b p → (4 - p.column % 4) % 4 ≤ left →
    IsPlaced bytes (past_byte b p)
byte-placed zero bytes b p is le =
    byte-by bytes b p is ((b == 9) && not (p.column % 4 == 0)) refl
    (λ next within.
    let apart : ¬ (p.column % 4 ≡ 0) = eqb-false (p.column % 4) 0 within in
    absurd (omega (arith, le, apart)))
byte-placed (suc left) bytes b p is le =
    byte-by bytes b p is ((b == 9) && not (p.column % 4 == 0)) refl
    (λ next within.
    let apart : ¬ (p.column % 4 ≡ 0) = eqb-false (p.column % 4) 0 within in
    byte-placed left bytes b (next_column p) next (omega (arith, le, apart)))

-- after a byte of a piece
pub on-next : (bytes : List ℕ) (b : ℕ) (bs : List ℕ) (p : Point) → IsOnLine bytes (b ∷ bs) p →
    IsOnLine bytes bs (past_byte b p)
on-next bytes b bs p on = record {
  placed =
      byte-placed 4 bytes b p
      (record {
        placed = on.placed;
        inside =
            omega (arith, ap length on.here, length-drop p.index bytes);
        byte = at-next p.index bytes b (bs ++ on.rest) on.here;
        line = on.line.0;
      })
      (omega arith);
  rest = on.rest;
  here = past-next p.index bytes b (bs ++ on.rest) on.here;
  line = on.line.1;
}

no_ending-front : (xs ys : List ℕ) → NoEnding (xs ++ ys) → NoEnding xs
no_ending-front [] ys h = tt
no_ending-front (x ∷ xs) ys h = (h.0, no_ending-front xs ys h.1)

-- a piece in two
pub on-front : (bytes xs ys : List ℕ) (p : Point) → IsOnLine bytes (xs ++ ys) p → IsOnLine bytes xs p
on-front bytes xs ys p on = record {
  placed = on.placed;
  rest = ys ++ on.rest;
  here = on.here ∙ append_assoc xs ys on.rest;
  line = no_ending-front xs ys on.line;
}

pub on-following : (bytes xs ys : List ℕ) (p : Point) → IsOnLine bytes (xs ++ ys) p →
    IsOnLine bytes ys (past_text xs p)
on-following bytes [] ys p on = on
on-following bytes (x ∷ xs) ys p on = on-following bytes xs ys (past_byte x p) (on-next bytes x (xs ++ ys) p on)

-- its point leaves room to continue
pub record HasRoom (p : Point) : Type 0 where
  pub index : p.index < 2 ^ 61
  pub column : p.column ≤ 2 ^ 63

pub on-room : (bytes piece : List ℕ) (b : ℕ) (p : Point) → IsOnLine bytes (b ∷ piece) p → HasRoom p
on-room bytes piece b p on = record {
  index = omega (arith, on.placed.sized, on.placed.index);
  column = omega (arith, on.placed.sized, on.placed.index, on.placed.column, on.placed.vs);
}
