-- The byte order mark before a text: where the lines begin after it.
use Rattle.std.proofs.Common.{◌≡◌, ℕ, ◌-◌, ◌/◌, ◌^◌, ◌≤◌, Bool, true, false, cond, nat_lt, ◌||◌, ◌==◌, List}
use Rattle.std.proofs.Common.{length, drop, slice_index, refl, arith}
use Rattle.md_engine.specs.Place.{IsPlaced, IsReached, first_point, walked}
use Rattle.md_meaning.specs.Preamble.{has_mark, without_mark}
use Rattle.md_meaning.proofs.PreambleLemmas.{mark-length}
use Rattle.md_outline.specs.Between.{is_between}
use Rattle.proof_leaf_laws.specs.Front.{mark_point, mark_end}

-- The text.

-- the lines of a text are those of what follows the mark
pub without-mark : (bytes : List ℕ) → without_mark bytes ≡ drop (mark_point bytes).index bytes
without-mark bytes = go (has_mark bytes)
  where
    go : (x : Bool) → cond x (drop 3 bytes) bytes ≡ drop (cond x mark_end first_point).index bytes
    go true = refl
    go false = refl

-- Where the lines begin.

pub body-index : (bytes : List ℕ) → (mark_point bytes).index ≤ length bytes
body-index bytes = go (has_mark bytes) refl
  where
    go : (x : Bool) → has_mark bytes ≡ x → (cond x mark_end first_point).index ≤ length bytes
    go true e = mark-length bytes e
    go false e = omega arith

pub body-vs : (bytes : List ℕ) → (mark_point bytes).vs ≡ 0
body-vs bytes = go (has_mark bytes)
  where
    go : (x : Bool) → (cond x mark_end first_point).vs ≡ 0
    go true = refl
    go false = refl

pub body-column : (bytes : List ℕ) → 1 ≤ (mark_point bytes).column
body-column bytes = go (has_mark bytes)
  where
    go : (x : Bool) → 1 ≤ (cond x mark_end first_point).column
    go true = omega arith
    go false = omega arith

-- the first point is a point of a small text
first-reached : (bytes : List ℕ) → IsReached bytes first_point
unfolding walked
first-reached bytes = (0, refl)

pub placed-first : (bytes : List ℕ) → length bytes ≤ (2 ^ 64 - 1) / 8 → IsPlaced bytes first_point
placed-first bytes small = record {
  sized = omega arith;
  index = omega arith;
  line = omega arith;
  column = omega arith;
  vs = omega arith;
  reached = ∣ first-reached bytes ∣₁;
}

-- it is between characters
either : (a b c d e : Bool) → e ≡ true → (a || b || c || d || e) ≡ true
either true b c d e h = refl
either false true c d e h = refl
either false false true d e h = refl
either false false false true e h = refl
either false false false false e h = h

pub between-mark : (bytes : List ℕ) → has_mark bytes ≡ true → is_between bytes 3 ≡ true
between-mark bytes h =
    either false (3 == length bytes) (nat_lt (slice_index bytes 2) 128) (nat_lt (slice_index bytes 3) 128)
    (has_mark bytes) h

pub body-between : (bytes : List ℕ) → is_between bytes (mark_point bytes).index ≡ true
body-between bytes = go (has_mark bytes) refl
  where
    go : (x : Bool) → has_mark bytes ≡ x → is_between bytes (cond x mark_end first_point).index ≡ true
    go true e = between-mark bytes e
    go false e = refl
