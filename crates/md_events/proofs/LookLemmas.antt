-- What is known of a line by what is first, and by what is first after whitespace.
use Rattle.std.proofs.Common.{◌≡◌, ℕ, zero, suc, ◌+◌, ◌-◌, ◌%◌, ◌<◌, ◌≤◌, ◌⊎◌, inl, inr, Bool, true, false, cond, not}
use Rattle.std.proofs.Common.{◌&&◌, List, [], ◌∷◌, length, take, nat_eq, nat_lt, Option, Some, None, refl, sym, ◌∙◌}
use Rattle.std.proofs.Common.{ap, arith}
use Rattle.std.specs.Prelude.{slice_index, slice_range}
use Rattle.std.proofs.lemmas.Bool.{eqb-true, or_parts}
use Rattle.std.proofs.lemmas.Bool.Decides.{nat_tests}
use Rattle.std.proofs.lemmas.List.{drop_all}
use Rattle.std.proofs.Math.Seq.{take-nil}
use Rattle.md_engine.specs.declared.event.Point.{Point}
use Rattle.md_engine.specs.Meaning.{Cell, Feed, line_of}
use Rattle.md_engine.specs.Place.{is_ending, seen_at}
use Rattle.md_engine.specs.Scheme.{cells_left}
use Rattle.md_engine.specs.World.{Setting, World, after}
use Rattle.md_engine.proofs.Points.{cells-fall}
use Rattle.md_engine.specs.Sees.{Sees, ahead}
use Rattle.md_meaning.specs.Rest.{is_white}
use Rattle.md_events.specs.Ahead.{white_rest}
use Rattle.md_events.specs.Look.{following_code, first_following, first_seen, looks_after, may_with, seen_after}
use Rattle.md_events.proofs.PlainSteps.{range-next, range-none}

-- a tokenizer sees the first of what it is fed
pub first-seen : (feed : Feed) (w : World) → Sees feed w → first_seen (feed w.point) ≡ w.current
first-seen feed w s = rw s.next (go w.current)
  where
    go : (o : Option ℕ) → first_seen (ahead feed w o) ≡ o
    go None = refl
    go (Some b) = refl

-- What a feed that follows the text has after whitespace.

abbrev pub Along : Feed → Setting → Type 0
Along feed x =
    (p : Point) → p.index < x.limit →
    feed p ≡
    (record { byte = seen_at x.bytes p; after = after x p; line = line_of x.line (feed p) } ∷ feed (after x p))

-- the bytes from a point on
abbrev pub left_at : Setting → Point → List ℕ
left_at x p = slice_range x.bytes p.index x.limit

-- there are none from the limit or the end of the text on
pub none-left : (x : Setting) (p : Point) → (x.limit ≤ p.index) ⊎ (length x.bytes ≤ p.index) → left_at x p ≡ []
none-left x p (inl le) = range-none x.bytes p.index x.limit le
none-left x p (inr le) =
    ap (take (x.limit - p.index)) (drop_all p.index x.bytes le) ∙ take-nil (x.limit - p.index)

-- a space, or a column of a tab, is white, and after it the same byte is left or the next
pub record IsWhiteAt (x : Setting) (p : Point) : Type 0 where
  pub white : is_white (seen_at x.bytes p) ≡ true
  pub following : ((after x p).index ≡ p.index) ⊎ ((after x p).index ≡ p.index + 1)

pub white-at : (x : Setting) (p : Point) → is_white (slice_index x.bytes p.index) ≡ true → IsWhiteAt x p
white-at x p e = go (nat_eq (slice_index x.bytes p.index) 9) refl
  where
    byte : ℕ
    byte = slice_index x.bytes p.index

    -- a column of a tab
    seen : (y : Bool) → is_white (cond y 32 9) ≡ true
    seen true = refl
    seen false = refl

    step : (y : Bool) →
        let q : Point = cond (not y) (record p { column = p.column + 1; vs = p.vs + 1 })
        (record p { column = p.column + 1; index = p.index + 1; vs = 0 }) in
        (q.index ≡ p.index) ⊎ (q.index ≡ p.index + 1)
    step true = inr refl
    step false = inl refl

    go : (y : Bool) → nat_eq byte 9 ≡ y → IsWhiteAt x p
    go true k =
        let tab : slice_index x.bytes p.index ≡ 9 = eqb-true byte 9 k in
        record { white = rw tab (seen (nat_lt 0 p.vs)); following = rw tab (step (nat_eq (p.column % 4) 0)) }
    go false k =
        let space : slice_index x.bytes p.index ≡ 32 = grind (arith, nat_tests) in
        record { white = rw space refl; following = inr (rw space refl) }

-- any other byte is seen as it is, and a line ending as LF
pub dark-at : (x : Setting) (p : Point) → is_white (slice_index x.bytes p.index) ≡ false →
    seen_at x.bytes p ≡ cond (is_ending (slice_index x.bytes p.index)) 10 (slice_index x.bytes p.index)
dark-at x p e =
    let byte : ℕ = slice_index x.bytes p.index in
    ap (λ (y : Bool). cond (is_ending byte) 10 (cond (y && nat_lt 0 p.vs) 32 byte))
    (or_parts (nat_eq byte 32) (nat_eq byte 9) e).1

-- and is not white
dark-seen : (byte : ℕ) → is_white byte ≡ false → is_white (cond (is_ending byte) 10 byte) ≡ false
dark-seen byte e = go (is_ending byte)
  where
    go : (y : Bool) → is_white (cond y 10 byte) ≡ false
    go true = refl
    go false = e

-- the first byte after whitespace is fed first after it: a column of a tab at a time
seen-along : (feed : Feed) (x : Setting) (n : ℕ) (p : Point) (b : ℕ) → Along feed x → cells_left x.limit p ≤ n →
    first_following (left_at x p) ≡ Some b → seen_after (feed p) ≡ Some b
seen-along feed x zero p b f le e =
    let none : first_following (left_at x p) ≡ None = ap first_following (none-left x p (inl (omega arith))) in cc
seen-along feed x (suc n) p b f le e =
    go (nat_lt p.index x.limit) (nat_lt p.index (length x.bytes)) refl refl
    (λ less k. seen-along feed x n (after x p) b f less k)
  where
    Next : Type 0
    Next = cells_left x.limit (after x p) ≤ n → first_following (left_at x (after x p)) ≡ Some b →
        seen_after (feed (after x p)) ≡ Some b

    byte : ℕ
    byte = slice_index x.bytes p.index

    rest : List ℕ
    rest = slice_range x.bytes (p.index + 1) x.limit

    left : ((after x p).index ≡ p.index) ⊎ ((after x p).index ≡ p.index + 1) → first_following rest ≡ Some b →
        first_following (left_at x (after x p)) ≡ Some b
    left (inl same) is = ap (λ (i : ℕ). first_following (slice_range x.bytes i x.limit)) same ∙ e
    left (inr more) is = ap (λ (i : ℕ). first_following (slice_range x.bytes i x.limit)) more ∙ is

    first : (y : Bool) → is_white byte ≡ y → p.index < x.limit → first_following (byte ∷ rest) ≡ Some b → Next →
        seen_after (feed p) ≡ Some b
    first true k lt is next =
        let at : IsWhiteAt x p = white-at x p k in
        let less = cells-fall x p lt in
        ap seen_after (f p lt)
        ∙ ap (λ (y : Bool). cond y (seen_after (feed (after x p))) (Some (seen_at x.bytes p))) at.white
        ∙ next (omega (arith, less)) (left at.following (rw k at is))
    first false k lt is next =
        let dark : is_white (seen_at x.bytes p) ≡ false = ap is_white (dark-at x p k) ∙ dark-seen byte k in
        ap seen_after (f p lt)
        ∙ ap (λ (y : Bool). cond y (seen_after (feed (after x p))) (Some (seen_at x.bytes p))) dark
        ∙ ap Some (dark-at x p k) ∙ (rw k at is)

    go : (y z : Bool) → nat_lt p.index x.limit ≡ y → nat_lt p.index (length x.bytes) ≡ z → Next →
        seen_after (feed p) ≡ Some b
    go true true k h next =
        let lt : p.index < x.limit = grind (arith, nat_tests) in
        let inside : p.index < length x.bytes = grind (arith, nat_tests) in
        first (is_white byte) refl lt (sym (ap first_following (range-next x.bytes p.index x.limit lt inside)) ∙ e) next
    go true false k h next =
        let past : length x.bytes ≤ p.index = grind (arith, nat_tests) in
        let none : first_following (left_at x p) ≡ None = ap first_following (none-left x p (inr past)) in cc
    go false z k h next =
        let past : x.limit ≤ p.index = grind (arith, nat_tests) in
        let none : first_following (left_at x p) ≡ None = ap first_following (none-left x p (inl past)) in cc

-- what a tokenizer sees first after whitespace, it is fed first after whitespace
pub seen-first : (feed : Feed) (w : World) (b : ℕ) → Sees feed w → looks_after w ≡ Some b →
    seen_after (feed w.point) ≡ Some b
unfolding looks_after
seen-first feed w b s e = go w.current s.next e
  where
    found : Option ℕ
    found = first_following (left_at w.setting w.point)

    by : (c : ℕ) (y : Bool) → is_white c ≡ y → feed w.point ≡ ahead feed w (Some c) →
        following_code (Some c) found ≡ Some b → seen_after (feed w.point) ≡ Some b
    by c true k next is =
        seen-along feed w.setting (cells_left w.setting.limit w.point) w.point b s.along (omega arith) (rw k at is)
    by c false k next is =
        ap seen_after next ∙ ap (λ (y : Bool). cond y (seen_after (feed (after w.setting w.point))) (Some c)) k
        ∙ (rw k at is)

    go : (o : Option ℕ) → feed w.point ≡ ahead feed w o → following_code o found ≡ Some b →
        seen_after (feed w.point) ≡ Some b
    go None next is = cc
    go (Some c) next is = by c (is_white c) refl next is

-- what refuses what is seen there refuses what is fed
pub refused-first : (begins : ℕ → Bool) (feed : Feed) (w : World) → Sees feed w →
    may_with begins (looks_after w) ≡ false →
    (b : ℕ) × (seen_after (feed w.point) ≡ Some b) × (begins b ≡ false)
refused-first begins feed w s e = go (looks_after w) refl e
  where
    go : (o : Option ℕ) → looks_after w ≡ o → may_with begins o ≡ false →
        (b : ℕ) × (seen_after (feed w.point) ≡ Some b) × (begins b ≡ false)
    go None k e = cc
    go (Some b) k e = (b, seen-first feed w b s k, e)

-- What a line begins with after an indent, of which whitespace may be left.

pub rest-begins : (room : ℕ) (cells : List Cell) (b : ℕ) → seen_after cells ≡ Some b →
    (c : ℕ) × (first_seen (white_rest room cells) ≡ Some c) × ((is_white c ≡ true) ⊎ (c ≡ b))
rest-begins room [] b e = cc
rest-begins zero (c ∷ cs) b e = (c.byte, refl, go (is_white c.byte) refl e)
  where
    go : (y : Bool) → is_white c.byte ≡ y → cond y (seen_after cs) (Some c.byte) ≡ Some b →
        (is_white c.byte ≡ true) ⊎ (c.byte ≡ b)
    go true k is = inl k
    go false k is = inr (cc)
rest-begins (suc room) (c ∷ cs) b e = go (is_white c.byte) e (λ k. rest-begins room cs b k)
  where
    go : (y : Bool) → cond y (seen_after cs) (Some c.byte) ≡ Some b →
        (seen_after cs ≡ Some b →
        (d : ℕ) × (first_seen (white_rest room cs) ≡ Some d) × ((is_white d ≡ true) ⊎ (d ≡ b))) →
        (d : ℕ) × (first_seen (cond y (white_rest room cs) (c ∷ cs)) ≡ Some d) × ((is_white d ≡ true) ⊎ (d ≡ b))
    go true is next = next is
    go false is next = (c.byte, refl, inr (cc))
