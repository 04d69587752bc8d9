-- What is seen of a byte of HTML: where a line ends, what comes first, and what was read of a name.
use Rattle.std.proofs.Common.{◌≡◌, ℕ, ◌+◌, ◌-◌, ◌<◌, ◌≤◌, Bool, true, false, cond, ◌&&◌, not, nat_eq, nat_lt, nat_le}
use Rattle.std.proofs.Common.{List, [], ◌∷◌, ◌++◌, length, take, drop, Option, Some, None, refl, sym, ◌∙◌, ap, arith}
use Rattle.std.specs.Char.{is_ascii_alphabetic}
use Rattle.std.specs.Prelude.{slice_index}
use Rattle.std.specs.List.{list_all}
use Rattle.std.proofs.lemmas.Bool.{and_parts, eqb-true}
use Rattle.std.proofs.lemmas.Bool.Decides.{nat_tests}
use Rattle.std.proofs.lemmas.List.{get_or_past, get_or-drop, length-drop, take_more}
use Rattle.md_engine.specs.declared.event.Point.{Point}
use Rattle.md_engine.specs.Meaning.{Feed}
use Rattle.md_engine.specs.Place.{is_ending, seen_at}
use Rattle.md_engine.specs.Scheme.{position}
use Rattle.md_engine.specs.World.{Setting, World, after, looks, looks_at}
use Rattle.md_engine.specs.Sees.{Sees, ahead, cell_here}
use Rattle.md_meaning.specs.Bytes.{begins, is_end}
use Rattle.md_literal.specs.Html.{are_letters, in_letters, name_here, sees_letter}
use Rattle.md_events.specs.Ahead.{line_bytes}
use Rattle.md_leaves.proofs.LeafSteps.{ends-seen}
use Rattle.md_events.specs.Lent.{lent}
use Rattle.md_events.specs.Spaces.{ends_line, is_current}
use Rattle.md_events.specs.Transition.{taken}

-- Where a line ends.

-- a byte is here that passes a test
pub sees-here : (feed : Feed) (w : World) (t : Option ℕ → Bool) → t None ≡ false → Sees feed w → t w.current ≡ true →
    (b : ℕ) × (w.current ≡ Some b) × (feed w.point ≡ cell_here feed w b ∷ feed (after w.setting w.point)) ×
    (t (Some b) ≡ true)
sees-here feed w t none s e = go w.current refl e s.next
  where
    go : (o : Option ℕ) → w.current ≡ o → t o ≡ true → feed w.point ≡ ahead feed w o →
        (b : ℕ) × (w.current ≡ Some b) × (feed w.point ≡ cell_here feed w b ∷ feed (after w.setting w.point)) ×
        (t (Some b) ≡ true)
    go None c e k = let bad : true ≡ false = sym e ∙ none in cc
    go (Some b) c e k = (b, c, k, e)

-- a byte of the line is elsewhere
pub line-proceeds : (feed : Feed) (w : World) → Sees feed w → ends_line w.current ≡ false →
    (b : ℕ) × (w.current ≡ Some b) × (feed w.point ≡ cell_here feed w b ∷ feed (after w.setting w.point)) ×
    (nat_eq b 10 ≡ false)
line-proceeds feed w s e =
    let saw = sees-here feed w (λ (o : Option ℕ). not (ends_line o)) refl s (ap not e) in
    (saw.0, saw.1, saw.2, go (nat_eq saw.0 10) saw.3)
  where
    go : (x : Bool) → not x ≡ true → x ≡ false
    go true f = cc
    go false f = refl

pub end-here : (feed : Feed) (w : World) (x : Bool) → Sees feed w → ends_line w.current ≡ x →
    is_end (line_bytes (feed w.point)) ≡ x
end-here feed w true s e = rw (ends-seen feed w s e).line refl
end-here feed w false s e = let saw = line-proceeds feed w s e in rw (saw.2, saw.3) refl

-- What comes first.

-- whether a byte is here that passes
abbrev sees_byte : (ℕ → Bool) → Option ℕ → Bool
sees_byte t None = false
sees_byte t (Some b) = t b

-- what passes here comes first in the line, if no line ending passes
begins-line : (t : ℕ → Bool) (feed : Feed) (w : World) → t 10 ≡ false → Sees feed w →
    begins t (line_bytes (feed w.point)) ≡ sees_byte t w.current
begins-line t feed w none s = rw s.next (go w.current)
  where
    go : (o : Option ℕ) → begins t (line_bytes (ahead feed w o)) ≡ sees_byte t o
    go None = refl
    go (Some b) = by (nat_eq b 10) refl
      where
        by : (x : Bool) → nat_eq b 10 ≡ x → begins t (line_bytes (ahead feed w (Some b))) ≡ t b
        by true e = rw (e, eqb-true b 10 e, none) refl
        by false e = rw e refl

pub begins-current : (m : ℕ) (feed : Feed) (w : World) (x : Bool) → nat_eq 10 m ≡ false → Sees feed w →
    is_current m w.current ≡ x → begins (λ b. nat_eq b m) (line_bytes (feed w.point)) ≡ x
begins-current m feed w x none s e = begins-line (λ b. nat_eq b m) feed w none s ∙ go w.current ∙ e
  where
    go : (o : Option ℕ) → sees_byte (λ b. nat_eq b m) o ≡ is_current m o
    go None = refl
    go (Some b) = refl

pub begins-letter : (feed : Feed) (w : World) (x : Bool) → Sees feed w → sees_letter w.current ≡ x →
    begins is_ascii_alphabetic (line_bytes (feed w.point)) ≡ x
begins-letter feed w x s e = begins-line is_ascii_alphabetic feed w refl s ∙ go w.current ∙ e
  where
    go : (o : Option ℕ) → sees_byte is_ascii_alphabetic o ≡ sees_letter o
    go None = refl
    go (Some b) = refl

-- What was read of a name.

-- a letter is no whitespace
pub letter-dark : (b : ℕ) → is_ascii_alphabetic b ≡ true → 32 < b
letter-dark b e = go (nat_lt 32 b) refl
  where
    go : (x : Bool) → nat_lt 32 b ≡ x → 32 < b
    go true k = grind (arith, nat_tests)
    go false k =
        let upper : nat_le 65 b ≡ false = grind (arith, nat_tests) in
        let lower : nat_le 97 b ≡ false = grind (arith, nat_tests) in
        let bad : false ≡ true = rw (upper, lower) at e in cc

-- a byte that is no whitespace is seen as it is, and the next one is after it
pub record SeesDark (x : Setting) (p : Point) (b : ℕ) : Type 0 where
  pub byte : slice_index x.bytes p.index ≡ b
  pub following : (after x p).index ≡ p.index + 1

pub sees-dark : (x : Setting) (p : Point) (b : ℕ) → 32 < b → looks_at x p ≡ Some b → SeesDark x p b
sees-dark x p b dark e = go (nat_lt p.index x.limit) e
  where
    byte : ℕ
    byte = slice_index x.bytes p.index

    plain : (y z : Bool) → is_ending byte ≡ y → nat_eq byte 9 ≡ z →
        cond y 10 (cond (z && nat_lt 0 p.vs) 32 byte) ≡ b → SeesDark x p b
    plain true z k l is = absurd (omega (arith, is, dark))
    plain false false k l is = record { byte = is; following = rw (k, l) refl }
    plain false true k l is = tab (nat_lt 0 p.vs) is
      where
        nine : byte ≡ 9
        nine = eqb-true byte 9 l

        tab : (v : Bool) → cond v 32 byte ≡ b → SeesDark x p b
        tab true is = absurd (omega (arith, is, dark))
        tab false is = absurd (omega (arith, is, nine, dark))

    go : (y : Bool) → cond y (Some (seen_at x.bytes p)) None ≡ Some b → SeesDark x p b
    go true e = let is : seen_at x.bytes p ≡ b = cc in plain (is_ending byte) (nat_eq byte 9) refl refl is
    go false e = cc

-- one byte more of a text that is lent
lent-more : (text : List ℕ) (i j b : ℕ) → i ≤ j → 0 < b → slice_index text j ≡ b →
    lent text i (j + 1) ≡ lent text i j ++ b ∷ []
lent-more text i j b le some is = go (nat_lt j (length text)) refl
  where
    go : (x : Bool) → nat_lt j (length text) ≡ x → lent text i (j + 1) ≡ lent text i j ++ b ∷ []
    go true e =
        let lt : j < length text = grind (arith, nat_tests) in
        let one : nat_le i j ≡ true = grind (arith, nat_tests) in
        let two : nat_le j (length text) ≡ true = grind (arith, nat_tests) in
        let three : nat_le i (j + 1) ≡ true = grind (arith, nat_tests) in
        let four : nat_le (j + 1) (length text) ≡ true = grind (arith, nat_tests) in
        let size : j + 1 - i ≡ j - i + 1 = omega arith in
        let at : i + (j - i) ≡ j = omega arith in
        let within : j - i < length (drop i text) = omega (arith, length-drop i text, lt) in
        rw (one, two, three, four, size)
        (take_more (drop i text) (j - i) 0 within
        ∙ ap (λ (c : ℕ). take (j - i) (drop i text) ++ c ∷ [])
        (get_or-drop i text (j - i) 0 ∙ ap (slice_index text) at ∙ is))
    go false e =
        let past : length text ≤ j = grind (arith, nat_tests) in
        absurd (omega (arith, get_or_past text j 0 past, is, some))

-- a name is read one byte further
pub name-more : (x : Setting) (p : Point) (b start : ℕ) → 32 < b → looks_at x p ≡ Some b → start ≤ p.index →
    lent x.bytes start (after x p).index ≡ lent x.bytes start p.index ++ b ∷ []
name-more x p b start dark e le =
    let saw = sees-dark x p b dark e in
    rw saw.following (lent-more x.bytes start p.index b le (omega (arith, dark)) saw.byte)

-- one that begins here is empty
pub name-none : (text : List ℕ) (i : ℕ) → lent text i i ≡ []
name-none text i =
    let none : i - i ≡ 0 = omega arith in rw none (go (nat_le i i && nat_le i (length text)) [])
  where
    go : (x : Bool) (xs : List ℕ) → cond x xs xs ≡ xs
    go true xs = refl
    go false xs = refl

-- Names of nothing but letters.

-- one that begins here
pub letters-none : (text : List ℕ) (i : ℕ) → are_letters (lent text i i) ≡ true
letters-none text i = ap are_letters (name-none text i)

-- all bytes of a name pass a test, and one more
pub all-more : (t : ℕ → Bool) (name : List ℕ) (b : ℕ) → list_all t name ≡ true → t b ≡ true →
    list_all t (name ++ b ∷ []) ≡ true
all-more t [] b e f = rw f refl
all-more t (x ∷ xs) b e f =
    let parts = and_parts (t x) (list_all t xs) e in
    rw parts.0 (all-more t xs b parts.1 f)

-- one that is read one letter further
pub letters-more : (w : World) (b : ℕ) → is_ascii_alphabetic b ≡ true → w.current ≡ looks w → w.current ≡ Some b →
    in_letters (position w) → in_letters (position (taken w))
letters-more w b e c here at =
    let dark : 32 < b = letter-dark b e in
    let saw = sees-dark w.setting w.point b dark (sym c ∙ here) in (
      omega (arith, at.0, saw.following),
      ap are_letters (name-more w.setting w.point b w.scratch.start dark (sym c ∙ here) at.0)
          ∙ all-more is_ascii_alphabetic (name_here w) b at.1 e,
    )
