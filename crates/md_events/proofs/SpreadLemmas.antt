-- What is known of a line by the first byte that is neither a marker nor whitespace.
use Rattle.std.proofs.Common.{◌≡◌, ℕ, zero, suc, ◌+◌, ◌-◌, ◌<◌, ◌≤◌, ◌⊎◌, inl, inr, Bool, true, false, cond, not, ◌&&◌}
use Rattle.std.proofs.Common.{◌||◌, List, [], ◌∷◌, length, nat_eq, nat_lt, Option, Some, None, refl, sym, ◌∙◌, ap}
use Rattle.std.proofs.Common.{arith}
use Rattle.std.specs.Prelude.{slice_index, slice_range}
use Rattle.std.specs.List.{list_all}
use Rattle.std.proofs.lemmas.Bool.{eqb-true, or_parts}
use Rattle.std.proofs.lemmas.Bool.Decides.{nat_tests}
use Rattle.md_engine.specs.declared.event.Point.{Point}
use Rattle.md_engine.specs.Meaning.{Cell, Feed, line_of}
use Rattle.md_engine.specs.Place.{is_ending, seen_at}
use Rattle.md_engine.specs.Scheme.{cells_left}
use Rattle.md_engine.specs.KnownRun.{EndsRun, is_of_run}
use Rattle.md_engine.specs.World.{Setting, World, after}
use Rattle.md_engine.proofs.Points.{cells-fall}
use Rattle.md_engine.specs.Sees.{Sees}
use Rattle.md_meaning.specs.Rest.{is_white}
use Rattle.md_events.specs.Ahead.{line_bytes}
use Rattle.md_events.specs.Look.{as_seen, following_code, first_following, first_other, is_other, looks_after}
use Rattle.md_events.specs.Look.{sees_other}
use Rattle.md_events.specs.Spaces.{sees_white}
use Rattle.md_events.proofs.LookLemmas.{Along, IsWhiteAt, dark-at, left_at, none-left, white-at}
use Rattle.md_events.proofs.PlainSteps.{range-next, range-none}
use Rattle.md_events.proofs.AheadLemmas.{white-no_ending}

-- where a run ends is the first other byte, as far as the text may be read
pub first-other : (bytes : List ℕ) (marker d from limit n : ℕ) → limit ≤ length bytes → from + d ≡ n →
    EndsRun bytes marker from limit n →
    first_other marker (slice_range bytes from limit) ≡ cond (nat_lt n limit) (Some (slice_index bytes n)) None
first-other bytes marker zero from limit n low at h = go (nat_lt n limit) refl
  where
    same : from ≡ n
    same = omega (arith, at)

    go : (y : Bool) → nat_lt n limit ≡ y →
        first_other marker (slice_range bytes from limit) ≡ cond y (Some (slice_index bytes n)) None
    go false e = ap (first_other marker) (range-none bytes from limit (grind (arith, nat_tests, same)))
    go true e =
        let lt : n < limit = grind (arith, nat_tests) in
        let other : is_of_run marker (slice_index bytes n) ≡ false = h.ends lt in
        ap (λ (i : ℕ). first_other marker (slice_range bytes i limit)) same
        ∙ ap (first_other marker) (range-next bytes n limit lt (omega (arith, lt, low)))
        ∙ ap
        (λ (x : Bool). cond x (first_other marker (slice_range bytes (n + 1) limit)) (Some (slice_index bytes n))) other
first-other bytes marker (suc d) from limit n low at h =
    go (nat_lt from limit) refl
    (first-other bytes marker d (from + 1) limit n low (omega (arith, at)) (record {
      following = omega (arith, at);
      each = λ k le lt. h.each k (omega (arith, le)) lt;
      ends = h.ends;
    }))
  where
    Found : ℕ → Type 0
    Found i = first_other marker (slice_range bytes i limit) ≡ cond (nat_lt n limit) (Some (slice_index bytes n)) None

    go : (y : Bool) → nat_lt from limit ≡ y → Found (from + 1) → Found from
    go false e next =
        let past : nat_lt n limit ≡ false = grind (arith, nat_tests, at) in
        ap (first_other marker) (range-none bytes from limit (grind (arith, nat_tests)))
        ∙ ap (λ (x : Bool). cond x (Some (slice_index bytes n)) None) (sym past)
    go true e next =
        let lt : from < limit = grind (arith, nat_tests) in
        let one : is_of_run marker (slice_index bytes from) ≡ true = h.each from (omega arith) (omega (arith, at)) in
        ap (first_other marker) (range-next bytes from limit lt (omega (arith, lt, low)))
        ∙ ap
        (λ (x : Bool).
        cond x (first_other marker (slice_range bytes (from + 1) limit)) (Some (slice_index bytes from))) one
        ∙ next

-- the same, of what a tokenizer sees
pub other-seen : (w : World) (marker n : ℕ) (b : Bool) → w.setting.limit ≤ length w.setting.bytes →
    EndsRun w.setting.bytes marker w.point.index w.setting.limit n → n < w.setting.limit →
    b ≡ not (is_ending (slice_index w.setting.bytes n)) → b ≡ sees_other w marker
unfolding sees_other
other-seen w marker n b low h lt is =
    let here : nat_lt n w.setting.limit ≡ true = grind (arith, nat_tests) in
    let following = h.following in
    is ∙ ap (λ (y : Bool). is_other (cond y (Some (slice_index w.setting.bytes n)) None)) (sym here)
    ∙ ap is_other
    (sym (first-other w.setting.bytes marker (n - w.point.index) w.point.index w.setting.limit n low
    (omega (arith, following)) h))

pub other-unknown : (w : World) (marker n : ℕ) (b : Bool) → w.setting.limit ≤ length w.setting.bytes →
    EndsRun w.setting.bytes marker w.point.index w.setting.limit n → w.setting.limit ≤ n → b ≡ false →
    b ≡ sees_other w marker
unfolding sees_other
other-unknown w marker n b low h le is =
    let past : nat_lt n w.setting.limit ≡ false = grind (arith, nat_tests) in
    let following = h.following in
    is ∙ ap (λ (y : Bool). is_other (cond y (Some (slice_index w.setting.bytes n)) None)) (sym past)
    ∙ ap is_other
    (sym (first-other w.setting.bytes marker (n - w.point.index) w.point.index w.setting.limit n low
    (omega (arith, following)) h))

-- A run with a space for its marker is whitespace alone.

white-alone : (b : ℕ) → is_of_run 32 b ≡ is_white b
white-alone b = twice (nat_eq b 32) (nat_eq b 9)
  where
    twice : (x y : Bool) → x || (x || y) ≡ x || y
    twice true y = refl
    twice false y = refl

abbrev seen_first : Option ℕ → Option ℕ
seen_first None = None
seen_first (Some b) = Some (as_seen b)

following-white : (bytes : List ℕ) → first_following bytes ≡ seen_first (first_other 32 bytes)
following-white [] = refl
following-white (b ∷ bytes) =
    go (is_white b) (following-white bytes)
    ∙ ap (λ (x : Bool). seen_first (cond x (first_other 32 bytes) (Some b))) (sym (white-alone b))
  where
    go : (x : Bool) → first_following bytes ≡ seen_first (first_other 32 bytes) →
        cond x (first_following bytes) (Some (as_seen b)) ≡ seen_first (cond x (first_other 32 bytes) (Some b))
    go true h = h
    go false h = refl

-- where whitespace is here, the first byte after it is where its run ends
following-first : (w : World) (n : ℕ) → w.setting.limit ≤ length w.setting.bytes →
    EndsRun w.setting.bytes 32 w.point.index w.setting.limit n → sees_white w.current ≡ true →
    seen_first (cond (nat_lt n w.setting.limit) (Some (slice_index w.setting.bytes n)) None) ≡ looks_after w
unfolding looks_after
following-first w n low h white =
    let following = h.following in
    ap seen_first
    (sym
    (first-other w.setting.bytes 32 (n - w.point.index) w.point.index w.setting.limit n low
    (omega (arith, following)) h))
    ∙ sym (following-white (slice_range w.setting.bytes w.point.index w.setting.limit)) ∙ go w.current white
  where
    found : Option ℕ
    found = first_following (slice_range w.setting.bytes w.point.index w.setting.limit)

    go : (o : Option ℕ) → sees_white o ≡ true → found ≡ following_code o found
    go None e = cc
    go (Some b) e = ap (λ (x : Bool). cond x found (Some b)) (sym e)

pub following-seen : (w : World) (n b : ℕ) → w.setting.limit ≤ length w.setting.bytes →
    EndsRun w.setting.bytes 32 w.point.index w.setting.limit n → sees_white w.current ≡ true →
    n < w.setting.limit → b ≡ as_seen (slice_index w.setting.bytes n) → Some b ≡ looks_after w
following-seen w n b low h white lt is =
    let here : nat_lt n w.setting.limit ≡ true = grind (arith, nat_tests) in
    ap Some is
    ∙ ap (λ (x : Bool). seen_first (cond x (Some (slice_index w.setting.bytes n)) None)) (sym here)
    ∙ following-first w n low h white

pub following-unknown : (w : World) (n : ℕ) → w.setting.limit ≤ length w.setting.bytes →
    EndsRun w.setting.bytes 32 w.point.index w.setting.limit n → sees_white w.current ≡ true →
    w.setting.limit ≤ n → None ≡ looks_after w
following-unknown w n low h white le =
    let past : nat_lt n w.setting.limit ≡ false = grind (arith, nat_tests) in
    ap (λ (x : Bool). seen_first (cond x (Some (slice_index w.setting.bytes n)) None)) (sym past)
    ∙ following-first w n low h white

-- What is known of the cells.

-- whether a line has nothing but a marker and whitespace
abbrev pub are_spread : ℕ → List ℕ → Bool
are_spread marker bytes = list_all (λ (b : ℕ). nat_eq b marker || is_white b) bytes

-- the first cell of a line that does not end there
line-next : (marker : ℕ) (c : Cell) (cs : List Cell) → nat_eq c.byte 10 ≡ false →
    are_spread marker (line_bytes (c ∷ cs)) ≡ is_of_run marker c.byte && are_spread marker (line_bytes cs)
line-next marker c cs e = rw e refl

ending-no_line : (b : ℕ) → is_ending b ≡ false → nat_eq b 10 ≡ false
ending-no_line b e = grind (arith, nat_tests)

white-spreads : (marker b : ℕ) → is_white b ≡ true → is_of_run marker b ≡ true
white-spreads marker b e = or-true (nat_eq b marker) (is_white b) e
  where
    or-true : (x y : Bool) → y ≡ true → x || y ≡ true
    or-true true y e = refl
    or-true false y e = e

-- a byte that is no whitespace and ends no line is seen as it is, and after it is the next
record IsDarkAt (x : Setting) (p : Point) : Type 0 where
  seen : seen_at x.bytes p ≡ slice_index x.bytes p.index
  following : (after x p).index ≡ p.index + 1

dark-on : (x : Setting) (p : Point) → is_white (slice_index x.bytes p.index) ≡ false →
    is_ending (slice_index x.bytes p.index) ≡ false → IsDarkAt x p
dark-on x p e f =
    let byte : ℕ = slice_index x.bytes p.index in
    let tab : nat_eq byte 9 ≡ false = (or_parts (nat_eq byte 32) (nat_eq byte 9) e).1 in
    record {
      seen = dark-at x p e ∙ ap (λ (y : Bool). cond y 10 byte) f;
      following = rw (f, tab) refl;
    }

-- the first other byte of the text is on the line that is fed
other-along : (feed : Feed) (x : Setting) (marker n : ℕ) (p : Point) (b : ℕ) → Along feed x →
    is_ending marker ≡ false → cells_left x.limit p ≤ n →
    first_other marker (left_at x p) ≡ Some b → is_ending b ≡ false →
    are_spread marker (line_bytes (feed p)) ≡ false
other-along feed x marker zero p b f dark le e on =
    let none : first_other marker (left_at x p) ≡ None =
    ap (first_other marker) (none-left x p (inl (omega arith))) in
    cc
other-along feed x marker (suc n) p b f dark le e on =
    go (nat_lt p.index x.limit) (nat_lt p.index (length x.bytes)) refl refl
    (λ less k. other-along feed x marker n (after x p) b f dark less k on)
  where
    Next : Type 0
    Next = cells_left x.limit (after x p) ≤ n → first_other marker (left_at x (after x p)) ≡ Some b →
        are_spread marker (line_bytes (feed (after x p))) ≡ false

    byte : ℕ
    byte = slice_index x.bytes p.index

    rest : List ℕ
    rest = slice_range x.bytes (p.index + 1) x.limit

    cell : Cell
    cell = record { byte = seen_at x.bytes p; after = after x p; line = line_of x.line (feed p) }

    left : ((after x p).index ≡ p.index) ⊎ ((after x p).index ≡ p.index + 1) → first_other marker rest ≡ Some b →
        first_other marker (left_at x (after x p)) ≡ Some b
    left (inl same) is = ap (λ (i : ℕ). first_other marker (slice_range x.bytes i x.limit)) same ∙ e
    left (inr more) is = ap (λ (i : ℕ). first_other marker (slice_range x.bytes i x.limit)) more ∙ is

    -- one more of the line, after which the other byte still is
    on-line : p.index < x.limit → nat_eq cell.byte 10 ≡ false →
        are_spread marker (line_bytes (feed (after x p))) ≡ false →
        are_spread marker (line_bytes (feed p)) ≡ false
    on-line lt k is =
        ap (λ (cells : List Cell). are_spread marker (line_bytes cells)) (f p lt)
        ∙ line-next marker cell (feed (after x p)) k
        ∙ ap (λ (y : Bool). is_of_run marker cell.byte && y) is
        ∙ and-false (is_of_run marker cell.byte)
      where
        and-false : (y : Bool) → y && false ≡ false
        and-false true = refl
        and-false false = refl

    -- the other byte itself
    ends : p.index < x.limit → nat_eq cell.byte 10 ≡ false → is_of_run marker cell.byte ≡ false →
        are_spread marker (line_bytes (feed p)) ≡ false
    ends lt k is =
        ap (λ (cells : List Cell). are_spread marker (line_bytes cells)) (f p lt)
        ∙ line-next marker cell (feed (after x p)) k
        ∙ ap (λ (y : Bool). y && are_spread marker (line_bytes (feed (after x p)))) is

    first : (y z : Bool) → is_white byte ≡ y → nat_eq byte marker ≡ z → p.index < x.limit →
        first_other marker (byte ∷ rest) ≡ Some b → Next → are_spread marker (line_bytes (feed p)) ≡ false
    first true z k j lt is next =
        let at : IsWhiteAt x p = white-at x p k in
        let less = cells-fall x p lt in
        on-line lt (white-no_ending cell.byte at.white)
        (next (omega (arith, less)) (left at.following (rw (white-spreads marker byte k) at is)))
    first false true k j lt is next =
        let same : byte ≡ marker = eqb-true byte marker j in
        let plain : is_ending byte ≡ false = ap is_ending same ∙ dark in
        let at : IsDarkAt x p = dark-on x p k plain in
        let less = cells-fall x p lt in
        on-line lt (ap (λ (c : ℕ). nat_eq c 10) at.seen ∙ ending-no_line byte plain)
        (next (omega (arith, less)) (left (inr at.following) (rw j at is)))
    first false false k j lt is next =
        let found : Some byte ≡ Some b = rw (j, k) at is in
        let same : byte ≡ b = cc in
        let plain : is_ending byte ≡ false = ap is_ending same ∙ on in
        let at : IsDarkAt x p = dark-on x p k plain in
        ends lt (ap (λ (c : ℕ). nat_eq c 10) at.seen ∙ ending-no_line byte plain)
        (ap (is_of_run marker) at.seen ∙ (rw (j, k) refl))

    go : (y z : Bool) → nat_lt p.index x.limit ≡ y → nat_lt p.index (length x.bytes) ≡ z → Next →
        are_spread marker (line_bytes (feed p)) ≡ false
    go true true k h next =
        let lt : p.index < x.limit = grind (arith, nat_tests) in
        let inside : p.index < length x.bytes = grind (arith, nat_tests) in
        first (is_white byte) (nat_eq byte marker) refl refl lt
        (sym (ap (first_other marker) (range-next x.bytes p.index x.limit lt inside)) ∙ e) next
    go true false k h next =
        let past : length x.bytes ≤ p.index = grind (arith, nat_tests) in
        let none : first_other marker (left_at x p) ≡ None = ap (first_other marker) (none-left x p (inr past)) in cc
    go false z k h next =
        let past : x.limit ≤ p.index = grind (arith, nat_tests) in
        let none : first_other marker (left_at x p) ≡ None = ap (first_other marker) (none-left x p (inl past)) in cc

-- where a tokenizer sees another byte, the line that is fed has one
pub other-first : (feed : Feed) (w : World) (marker : ℕ) → Sees feed w → is_ending marker ≡ false →
    sees_other w marker ≡ true → are_spread marker (line_bytes (feed w.point)) ≡ false
unfolding sees_other
other-first feed w marker s dark e = go (first_other marker (left_at w.setting w.point)) refl e
  where
    go : (o : Option ℕ) → first_other marker (left_at w.setting w.point) ≡ o → is_other o ≡ true →
        are_spread marker (line_bytes (feed w.point)) ≡ false
    go None k e = cc
    go (Some b) k e =
        other-along feed w.setting marker (cells_left w.setting.limit w.point) w.point b s.along dark (omega arith) k
        (known (is_ending b) e)
      where
        known : (y : Bool) → not y ≡ true → y ≡ false
        known true e = sym e
        known false e = refl
