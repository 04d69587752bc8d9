-- Destinations and titles, one byte at a time.
use Rattle.std.proofs.Common.{◌≡◌, ℕ, suc, ◌+◌, ◌-◌, ◌≤◌, Bool, true, false, cond, ◌&&◌, List, [], ◌∷◌, length}
use Rattle.std.proofs.Common.{Option, Some, None, refl, ap, sym, ◌∙◌, arith}
use Rattle.std.specs.Prelude.{◌==◌, nat_lt, option_map}
use Rattle.std.proofs.lemmas.Bool.Decides.{nat_tests}
use Rattle.md_meaning.specs.Enclosed.{Broken, Closed, Enclosed, Open, enclosed, with_byte}
use Rattle.md_inlines.specs.Target.{closed, depth_after, ends_raw, is_escaped_after, is_plain_raw, is_too_deep}
use Rattle.md_inlines.specs.Target.{raw_len}
use Rattle.md_inlines.proofs.CodeLemmas.{further, further-further, further-suc}

-- a text between marks is shorter than what it was cut from
with_byte-length : (b n : ℕ) (e : Enclosed) (text rest : List ℕ) →
    ((t r : List ℕ) → e ≡ Closed t r → length t + suc (length r) ≡ n) → with_byte b e ≡ Closed text rest →
    length text + suc (length rest) ≡ suc n
with_byte-length b n (Closed t r) text rest h is =
    let same_text : b ∷ t ≡ text = cc in
    let same_rest : r ≡ rest = cc in
    omega (arith, ap length same_text, ap length same_rest, h t r refl)
with_byte-length b n Open text rest h is = cc
with_byte-length b n Broken text rest h is = cc

pub closed-length : (opener closer : ℕ) (escaped : Bool) (bytes text rest : List ℕ) →
    enclosed opener closer escaped bytes ≡ Closed text rest → length text + suc (length rest) ≡ length bytes
unfolding enclosed
closed-length opener closer escaped [] text rest is = cc
closed-length opener closer true (b ∷ bytes) text rest is =
    with_byte-length b (length bytes) (enclosed opener closer false bytes) text rest
    (closed-length opener closer false bytes) is
closed-length opener closer false (b ∷ bytes) text rest is =
    go (b == closer) (b == opener) (closed-length opener closer (b == 92) bytes) is
  where
    go : (s t : Bool) →
        ((x y : List ℕ) → enclosed opener closer (b == 92) bytes ≡ Closed x y → length x + suc (length y) ≡
        length bytes) →
        cond s (Closed [] bytes) (cond t Broken (with_byte b (enclosed opener closer (b == 92) bytes))) ≡
        Closed text rest →
        length text + suc (length rest) ≡ suc (length bytes)
    go true t h is =
        let same_text : [] ≡ text = cc in
        let same_rest : bytes ≡ rest = cc in
        omega (arith, ap length same_text, ap length same_rest)
    go false true h is = cc
    go false false h is =
        with_byte-length b (length bytes) (enclosed opener closer (b == 92) bytes) text rest h is

closed-further : (depth n : ℕ) → further n (closed depth 0) ≡ closed depth n
closed-further depth n = go (depth == 0)
  where
    go : (t : Bool) → further n (cond t (Some 0) None) ≡ cond t (Some n) None
    go true = let same : n + 0 ≡ n = omega arith in ap Some same
    go false = refl

raw-ends : (depth b : ℕ) (escaped : Bool) (bs : List ℕ) → ends_raw depth escaped b ≡ true →
    raw_len depth escaped (b ∷ bs) ≡ closed depth 0
unfolding raw_len
raw-ends depth b escaped bs ends = rw ends refl

raw-deep : (depth b : ℕ) (escaped : Bool) (bs : List ℕ) → ends_raw depth escaped b ≡ false →
    is_too_deep depth escaped b ≡ true → raw_len depth escaped (b ∷ bs) ≡ None
unfolding raw_len
raw-deep depth b escaped bs ends deep = rw (ends, deep) refl

raw-byte : (depth b : ℕ) (escaped : Bool) (bs : List ℕ) → ends_raw depth escaped b ≡ false →
    is_too_deep depth escaped b ≡ false → raw_len depth escaped (b ∷ bs) ≡
    option_map suc (raw_len (depth_after depth escaped b) (is_escaped_after escaped b) bs)
unfolding raw_len
raw-byte depth b escaped bs ends deep = rw (ends, deep) refl

raw-none : (depth : ℕ) (escaped : Bool) → raw_len depth escaped [] ≡ closed depth 0
unfolding raw_len
raw-none depth escaped = refl

empty : (bytes : List ℕ) → length bytes ≡ 0 → bytes ≡ []
empty [] none = refl
empty (b ∷ bytes) none = cc

-- What a loop has found, which has read so many bytes of a destination: that it ends, that it is none, and more of it.
module _ (found : Option ℕ) (n depth : ℕ) (escaped : Bool) (rest : List ℕ)
    (before : further n (raw_len depth escaped rest) ≡ found) where
  pub raw-over : length rest ≡ 0 → closed depth n ≡ found
  raw-over none =
      sym (closed-further depth n) ∙ ap (further n) (sym (raw-none depth escaped))
      ∙ ap (λ r. further n (raw_len depth escaped r)) (sym (empty rest none)) ∙ before

  pub raw-stops : (b : ℕ) (bs : List ℕ) → rest ≡ b ∷ bs → ends_raw depth escaped b ≡ true → closed depth n ≡ found
  raw-stops b bs is ends =
      sym (closed-further depth n) ∙ ap (further n) (sym (raw-ends depth b escaped bs ends))
      ∙ ap (λ r. further n (raw_len depth escaped r)) (sym is) ∙ before

  pub raw-fails : (b : ℕ) (bs : List ℕ) → rest ≡ b ∷ bs → ends_raw depth escaped b ≡ false →
      is_too_deep depth escaped b ≡ true → None ≡ found
  raw-fails b bs is ends deep =
      ap (further n) (sym (raw-deep depth b escaped bs ends deep))
      ∙ ap (λ r. further n (raw_len depth escaped r)) (sym is) ∙ before

  pub raw-goes : (b m : ℕ) (bs : List ℕ) → rest ≡ b ∷ bs → ends_raw depth escaped b ≡ false →
      is_too_deep depth escaped b ≡ false → n + 1 ≡ m →
      further m (raw_len (depth_after depth escaped b) (is_escaped_after escaped b) bs) ≡ found
  raw-goes b m bs is ends deep next =
      let left : Option ℕ = raw_len (depth_after depth escaped b) (is_escaped_after escaped b) bs in
      ap (λ k. further k left) (sym next) ∙ sym (further-further n 1 left)
      ∙ ap (further n) (sym (further-suc left)) ∙ ap (further n) (sym (raw-byte depth b escaped bs ends deep))
      ∙ ap (λ r. further n (raw_len depth escaped r)) (sym is) ∙ before

-- no more than 32 parentheses are open
-- A byte that opens and closes nothing.
record PlainRaw (depth : ℕ) (escaped : Bool) (b : ℕ) : Type 0 where
  ends : ends_raw depth escaped b ≡ false
  deep : is_too_deep depth escaped b ≡ false
  same : depth_after depth escaped b ≡ depth
  bare : is_escaped_after escaped b ≡ false

plain-raw : (depth : ℕ) (escaped : Bool) (b : ℕ) → is_plain_raw b ≡ true → PlainRaw depth escaped b
plain-raw depth escaped b h = go escaped
  where
    zero-not : (b == 0) ≡ false
    zero-not = grind (arith, nat_tests)

    more : nat_lt 32 b ≡ true
    more = grind (arith, nat_tests)

    no127 : (b == 127) ≡ false
    no127 = grind (arith, nat_tests)

    no40 : (b == 40) ≡ false
    no40 = grind (arith, nat_tests)

    no41 : (b == 41) ≡ false
    no41 = grind (arith, nat_tests)

    no92 : (b == 92) ≡ false
    no92 = grind (arith, nat_tests)

    go : (escaped : Bool) → PlainRaw depth escaped b
    go true = record {
      ends = rw (zero-not, more, no127) refl;
      deep = refl;
      same = refl;
      bare = refl;
    }
    go false = record {
      ends = rw (zero-not, more, no127, no41) refl;
      deep = rw no40 refl;
      same = rw (no40, no41) refl;
      bare = rw no92 refl;
    }

pub raw-plain : (found : Option ℕ) (n depth : ℕ) (escaped : Bool) (rest : List ℕ) →
    further n (raw_len depth escaped rest) ≡ found → (b m : ℕ) (bs : List ℕ) → rest ≡ b ∷ bs →
    is_plain_raw b ≡ true → n + 1 ≡ m → further m (raw_len depth false bs) ≡ found
raw-plain found n depth escaped rest before b m bs is plain next =
    let p : PlainRaw depth escaped b = plain-raw depth escaped b plain in
    ap (λ (d : ℕ). further m (raw_len d false bs)) (sym p.same)
    ∙ ap (λ (e : Bool). further m (raw_len (depth_after depth escaped b) e bs)) (sym p.bare)
    ∙ raw-goes found n depth escaped rest before b m bs is p.ends p.deep next

pub depth-few : (depth b : ℕ) (escaped : Bool) → depth ≤ 32 → is_too_deep depth escaped b ≡ false →
    depth_after depth escaped b ≤ 32
depth-few depth b true few deep = few
depth-few depth b false few deep = go (b == 40) refl (b == 41) deep
  where
    go : (s : Bool) → (b == 40) ≡ s → (t : Bool) → (s && (depth == 32)) ≡ false →
        cond s (depth + 1) (cond t (depth - 1) depth) ≤ 32
    go true e t deep = grind (arith, nat_tests)
    go false e true deep = omega arith
    go false e false deep = few
