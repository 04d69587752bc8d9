-- What was taken of a line, a byte after another.
use Rattle.std.proofs.Common.{◌≡◌, ℕ, zero, suc, ◌+◌, ◌-◌, ◌%◌, ◌<◌, ◌≤◌, Bool, true, false, cond, not, ◌&&◌, nat_eq}
use Rattle.std.proofs.Common.{nat_lt, nat_le, List, [], ◌∷◌, ◌++◌, length, take, drop, Some, None, refl, sym, ◌∙◌, ap}
use Rattle.std.proofs.Common.{ap₂, subst, append_assoc, length-drop, arith}
use Rattle.std.specs.Prelude.{slice_index, slice_range}
use Rattle.std.proofs.Math.Logic.{∥∥₁_elim}
use Rattle.std.proofs.Props.{props}
use Rattle.std.proofs.lemmas.Bool.{eqb-true}
use Rattle.std.proofs.lemmas.Bool.Decides.{nat_tests}
use Rattle.std.proofs.lemmas.List.{get_or_past, get_or-drop, length-take, take_more}
use Rattle.md_engine.specs.declared.event.Point.{Point}
use Rattle.md_engine.specs.declared.tokenizer.Scratch.{Scratch}
use Rattle.md_engine.specs.Meaning.{Cell}
use Rattle.md_engine.specs.Place.{IsPlaced, IsReached, is_ending, is_pair, next_point, seen_at, walked}
use Rattle.md_engine.specs.World.{Setting, after, looks_at}
use Rattle.md_events.specs.Lent.{whole_from}
use Rattle.md_events.specs.WholeLine.{bytes_on, line_taken, whole_line}

-- One byte more.

-- the next byte begins after what is in a line, which is a byte where one begins
record SeesByte (x : Setting) (p : Point) (b : ℕ) : Type 0 where
  pub following : whole_from (after x p) ≡ p.index + 1
  pub byte : p.vs ≡ 0 → slice_index x.bytes p.index ≡ b

sees-byte : (x : Setting) (p : Point) (b : ℕ) → nat_eq b 10 ≡ false → looks_at x p ≡ Some b → SeesByte x p b
sees-byte x p b line e = go (nat_lt p.index x.limit) e
  where
    byte : ℕ
    byte = slice_index x.bytes p.index

    seen : (z v : Bool) → nat_lt 0 p.vs ≡ v → cond (z && v) 32 byte ≡ b → p.vs ≡ 0 → byte ≡ b
    seen false v k is none = is
    seen true false k is none = is
    seen true true k is none = let bad : false ≡ true = rw none at k in cc

    plain : (y z t : Bool) → is_ending byte ≡ y → nat_eq byte 9 ≡ z → nat_eq (p.column % 4) 0 ≡ t →
        cond y 10 (cond (z && nat_lt 0 p.vs) 32 byte) ≡ b → SeesByte x p b
    plain true z t k l m is =
        let bad : nat_eq 10 10 ≡ false = subst (λ (n : ℕ). nat_eq n 10 ≡ false) (sym is) line in cc
    plain false false t k l m is =
        record { following = rw (k, l) refl; byte = seen false (nat_lt 0 p.vs) refl is }
    plain false true true k l m is =
        record { following = rw (k, l, m) refl; byte = seen true (nat_lt 0 p.vs) refl is }
    plain false true false k l m is =
        let more : nat_lt 0 (p.vs + 1) ≡ true = grind (arith, nat_tests) in
        record { following = rw (k, l, m, more) refl; byte = seen true (nat_lt 0 p.vs) refl is }

    go : (y : Bool) → cond y (Some (seen_at x.bytes p)) None ≡ Some b → SeesByte x p b
    go true e =
        let is : seen_at x.bytes p ≡ b = cc in
        plain (is_ending byte) (nat_eq byte 9) (nat_eq (p.column % 4) 0) refl refl refl is
    go false e = cc

-- the first byte that does not begin before a point is that at its index, or the next
pub whole-least : (p : Point) → whole_from p ≤ p.index + 1
whole-least p = go (nat_lt 0 p.vs)
  where
    go : (v : Bool) → cond v (p.index + 1) p.index ≤ p.index + 1
    go true = omega arith
    go false = omega arith

-- after what is taken it comes no earlier
pub whole-following : (x : Setting) (p : Point) (b : ℕ) → nat_eq b 10 ≡ false → looks_at x p ≡ Some b →
    whole_from p ≤ whole_from (after x p)
whole-following x p b line e = rw (sees-byte x p b line e).following (whole-least p)

-- of a text one byte more
bytes-more : (bytes : List ℕ) (from at b : ℕ) → from ≤ at → slice_index bytes at ≡ b →
    bytes_on bytes from (at + 1 - from) ≡ bytes_on bytes from (at - from) ++ b ∷ []
unfolding bytes_on
bytes-more bytes from at b le is =
    let size : at + 1 - from ≡ suc (at - from) = omega arith in
    let there : from + (at - from) ≡ at = omega arith in
    rw size
    (ap (λ (c : ℕ). bytes_on bytes from (at - from) ++ c ∷ []) (ap (slice_index bytes) there ∙ is))

-- none where the line began
pub bytes-none : (bytes : List ℕ) (from : ℕ) → bytes_on bytes from (from - from) ≡ []
unfolding bytes_on
bytes-none bytes from = let none : from - from ≡ 0 = omega arith in rw none refl

-- a byte of a line is taken where it begins, and then all of the line is the same
pub taken-more : (x : Setting) (s : Scratch) (p : Point) (c : Cell) (cs : List Cell) → s.start ≤ whole_from p →
    c.after ≡ after x p → looks_at x p ≡ Some c.byte → nat_eq c.byte 10 ≡ false →
    line_taken x.bytes s p ++ whole_line p (c ∷ cs) ≡ line_taken x.bytes s c.after ++ whole_line c.after cs
taken-more x s p c cs le next is line = go (nat_lt 0 p.vs) refl
  where
    saw : SeesByte x p c.byte
    saw = sees-byte x p c.byte line is

    following : line_taken x.bytes s c.after ≡ bytes_on x.bytes s.start (p.index + 1 - s.start)
    following =
        ap (λ (q : Point). line_taken x.bytes s q) next
        ∙ ap (λ (i : ℕ). bytes_on x.bytes s.start (i - s.start)) saw.following

    rest : List ℕ
    rest = whole_line c.after cs

    go : (v : Bool) → nat_lt 0 p.vs ≡ v →
        line_taken x.bytes s p ++ whole_line p (c ∷ cs) ≡ line_taken x.bytes s c.after ++ rest
    go true k =
        let inside : nat_eq p.vs 0 ≡ false = grind (arith, nat_tests) in
        let here : line_taken x.bytes s p ≡ bytes_on x.bytes s.start (p.index + 1 - s.start) = rw k refl in
        let none : whole_line p (c ∷ cs) ≡ rest = rw (line, inside) refl in
        ap₂ (λ (a b : List ℕ). a ++ b) (here ∙ sym following) none
    go false k =
        let begins : p.vs ≡ 0 = grind (arith, nat_tests) in
        let first : nat_eq p.vs 0 ≡ true = rw begins refl in
        let from : s.start ≤ p.index = subst (λ (v : Bool). s.start ≤ cond v (p.index + 1) p.index) k le in
        let here : line_taken x.bytes s p ≡ bytes_on x.bytes s.start (p.index - s.start) = rw k refl in
        let one : whole_line p (c ∷ cs) ≡ c.byte ∷ rest = rw (line, first) refl in
        ap₂ (λ (a b : List ℕ). a ++ b) here one
        ∙ sym (append_assoc (bytes_on x.bytes s.start (p.index - s.start)) (c.byte ∷ []) rest)
        ∙ ap (λ (a : List ℕ). a ++ rest)
        (sym (bytes-more x.bytes s.start p.index c.byte from (saw.byte begins)) ∙ sym following)

-- All of it is in the text.

abbrev Within : List ℕ → Point → Type 0
Within bytes p = p.index ≤ length bytes → whole_from p ≤ length bytes

next-within : (bytes : List ℕ) (q : Point) → Within bytes (next_point bytes q)
next-within bytes q = step (is_ending byte) (nat_eq byte 9) (not (nat_eq (q.column % 4) 0)) refl
  where
    byte : ℕ
    byte = slice_index bytes q.index

    inside : (y : Bool) → nat_lt q.index (length bytes) ≡ y → nat_eq byte 9 ≡ true → q.index + 1 ≤ length bytes
    inside true e k = grind (arith, nat_tests)
    inside false e k =
        let past : length bytes ≤ q.index = grind (arith, nat_tests) in
        absurd (omega (arith, get_or_past bytes q.index 0 past, eqb-true byte 9 k))

    step : (x z t : Bool) → nat_eq byte 9 ≡ z →
        Within bytes
        (cond x (record {
          line = q.line + 1;
          column = 1;
          index = cond (is_pair bytes q.index) (q.index + 2) (q.index + 1);
          vs = 0;
        })
        (cond (z && t) (record q { column = q.column + 1; vs = q.vs + 1 })
        (record q { column = q.column + 1; index = q.index + 1; vs = 0 })))
    step true z t e = λ le. le
    step false true true e =
        let more : nat_lt 0 (q.vs + 1) ≡ true = grind (arith, nat_tests) in
        λ le. rw more (inside (nat_lt q.index (length bytes)) refl e)
    step false true false e = λ le. le
    step false false t e = λ le. le

reached-within : (bytes : List ℕ) (p : Point) → IsReached bytes p → Within bytes p
unfolding walked
reached-within bytes p (zero, e) = subst (Within bytes) (sym e) (λ le. le)
reached-within bytes p (suc n, e) = subst (Within bytes) (sym e) (next-within bytes (walked bytes n))

-- a byte within which a point lies is in the text
pub placed-within : (bytes : List ℕ) (p : Point) → IsPlaced bytes p → whole_from p ≤ length bytes
placed-within bytes p h = ∥∥₁_elim h.reached (hlevel props) (λ r. reached-within bytes p r h.index)

-- so many bytes that the text has
bytes-slice : (bytes : List ℕ) (from n : ℕ) → from + n ≤ length bytes → bytes_on bytes from n ≡ take n (drop from bytes)
unfolding bytes_on
bytes-slice bytes from zero le = refl
bytes-slice bytes from (suc n) le =
    let size : n + 1 ≡ suc n = omega arith in
    let inside : n < length (drop from bytes) = omega (arith, length-drop from bytes) in
    ap₂ (λ (a : List ℕ) (b : ℕ). a ++ b ∷ []) (bytes-slice bytes from n (omega arith))
    (sym (get_or-drop from bytes n 0))
    ∙ sym (take_more (drop from bytes) n 0 inside)
    ∙ ap (λ (m : ℕ). take m (drop from bytes)) size

-- so what was taken of a line is a part of it
pub taken-slice : (bytes : List ℕ) (s : Scratch) (p : Point) → IsPlaced bytes p →
    slice_range bytes s.start (whole_from p) ≡ line_taken bytes s p
unfolding bytes_on
taken-slice bytes s p h = go (nat_le s.start (whole_from p)) refl
  where
    within : whole_from p ≤ length bytes
    within = placed-within bytes p h

    go : (y : Bool) → nat_le s.start (whole_from p) ≡ y →
        take (whole_from p - s.start) (drop s.start bytes) ≡ bytes_on bytes s.start (whole_from p - s.start)
    go true e =
        let le : s.start ≤ whole_from p = grind (arith, nat_tests) in
        sym (bytes-slice bytes s.start (whole_from p - s.start) (omega (arith, within, le)))
    go false e =
        let none : whole_from p - s.start ≡ 0 = grind (arith, nat_tests) in
        ap (λ (n : ℕ). take n (drop s.start bytes)) none ∙ sym (ap (bytes_on bytes s.start) none)

-- and no longer than it
pub slice-bound : (bytes : List ℕ) (from to : ℕ) → length (slice_range bytes from to) ≤ length bytes
slice-bound bytes from to =
    let rest = drop from bytes in
    omega (arith, length-take (to - from) rest, length-drop from bytes)
