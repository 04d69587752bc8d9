-- Bytes of text in a line, up to a byte that is neither whitespace nor the end of the line.
use Rattle.std.proofs.Common.{◌≡◌, ℕ, zero, suc, ◌+◌, ◌-◌, ◌<◌, ◌≤◌, Bool, true, false, cond, List, [], ◌∷◌, length}
use Rattle.std.proofs.Common.{take, drop, get_or, refl, ap, sym, subst, ◌∙◌, arith, eqb}
use Rattle.std.specs.Prelude.{◌&&◌, ◌||◌, ◌==◌, not, nat_eq, nat_lt}
use Rattle.std.specs.List.{prefix_len}
use Rattle.std.proofs.lemmas.Bool.{and_parts}
use Rattle.std.proofs.lemmas.Bool.Decides.{nat_tests}
use Rattle.std.proofs.lemmas.List.{drop-drop, get_or-drop, get_or-take, length-drop, length-map, length-take, length-take-le}
use Rattle.md_meaning.specs.Rest.{is_white}
use Rattle.md_inlines.specs.Breaks.{ends_here, trailing_len}
use Rattle.markdown_inlines.specs.Plain.{begins_text, inner_len, is_inner, is_inner_by, is_plain, is_quiet, line_end}
use Rattle.markdown_inlines.proofs.LaneLemmas.{firsts, lowest-fails, of-pairs, pairs}
use lib.Count.{count_trailing_zeros}
use lib.Lanes.{mask_l, zip2}
use Rattle.markdown_inlines.proofs.PlainLemmas.{dark-trailing}

-- a byte that is neither whitespace nor the end of a line
pub record IsDark (b : ℕ) : Type 0 where
  pub dark : is_white b ≡ false
  pub goes : (b == 10) ≡ false

inner-first : (literals : Bool) (b m : ℕ) (text : List ℕ) → suc m ≤ inner_len literals (b ∷ text) →
    (is_inner literals (b ∷ text) ≡ true) × (m ≤ inner_len literals text)
inner-first literals b m text h = go (is_inner literals (b ∷ text)) h
  where
    go : (t : Bool) → suc m ≤ cond t (1 + inner_len literals text) 0 → (t ≡ true) × (m ≤ inner_len literals text)
    go true h = (refl, omega (arith, h))
    go false h = absurd (omega (arith, h))

inner-goes : (literals : Bool) (b : ℕ) (text : List ℕ) → is_inner literals (b ∷ text) ≡ true → (b == 10) ≡ false
inner-goes literals b text h =
    go (b == 10) (and_parts (not (b == 10)) ((literals && is_quiet (b ∷ text)) || is_plain literals b) h).0
  where
    go : (t : Bool) → not t ≡ true → t ≡ false
    go true h = cc
    go false h = refl

inner-begins : (literals : Bool) (b : ℕ) (text : List ℕ) → is_inner literals (b ∷ text) ≡ true →
    (is_plain literals b || is_quiet (b ∷ text)) ≡ true
inner-begins literals b text h =
    go literals (is_quiet (b ∷ text)) (is_plain literals b)
    (and_parts (not (b == 10)) ((literals && is_quiet (b ∷ text)) || is_plain literals b) h).1
  where
    go : (l q p : Bool) → ((l && q) || p) ≡ true → (p || q) ≡ true
    go l q true h = refl
    go true true false h = refl
    go true false false h = cc
    go false q false h = cc

-- as many bytes as are at the front are inner ones, and the next is none
pub inner-within : (literals : Bool) (text : List ℕ) → inner_len literals text ≤ length text
inner-within literals [] = omega arith
inner-within literals (b ∷ text) = go (is_inner literals (b ∷ text)) (inner-within literals text)
  where
    go : (t : Bool) → inner_len literals text ≤ length text → cond t (1 + inner_len literals text) 0 ≤ suc (length text)
    go true h = omega (arith, h)
    go false h = omega arith

inner-passes : (literals : Bool) (text : List ℕ) (k : ℕ) → k < inner_len literals text → (get_or text k 0 == 10) ≡ false
inner-passes literals [] k h = absurd (omega (arith, h))
inner-passes literals (b ∷ text) zero h = inner-goes literals b text (inner-first literals b 0 text (omega (arith, h))).0
inner-passes literals (b ∷ text) (suc k) h =
    inner-passes literals text k
    (let more = (inner-first literals b (suc k) text (omega (arith, h))).1 in omega (arith, more))

inner-stops : (literals : Bool) (text : List ℕ) → inner_len literals text < length text →
    is_inner literals (drop (inner_len literals text) text) ≡ false
inner-stops literals [] h = absurd (omega (arith, h))
inner-stops literals (b ∷ text) h = go (is_inner literals (b ∷ text)) refl h (inner-stops literals text)
  where
    go : (t : Bool) → is_inner literals (b ∷ text) ≡ t → cond t (1 + inner_len literals text) 0 < suc (length text) →
        (inner_len literals text < length text → is_inner literals (drop (inner_len literals text) text) ≡ false) →
        is_inner literals (drop (cond t (1 + inner_len literals text) 0) (b ∷ text)) ≡ false
    go true e h more =
        let next : 1 + inner_len literals text ≡ suc (inner_len literals text) = omega arith in
        ap (λ (n : ℕ). is_inner literals (drop n (b ∷ text))) next ∙ more (omega (arith, h))
    go false e h more = e

-- so many after some of them
pub inner-further : (literals : Bool) (text : List ℕ) (at n : ℕ) →
    at + inner_len literals (drop at text) ≡ inner_len literals text →
    n + inner_len literals (drop n (drop at text)) ≡ inner_len literals (drop at text) →
    at + n + inner_len literals (drop (at + n) text) ≡ inner_len literals text
inner-further literals text at n front more =
    let same = ap (inner_len literals) (drop-drop n at text) in omega (arith, front, more, same)

-- one more
pub inner-next : (literals : Bool) (text : List ℕ) → is_inner literals text ≡ true →
    1 + inner_len literals (drop 1 text) ≡ inner_len literals text
inner-next literals [] h = cc
inner-next literals (b ∷ text) h = sym (ap (λ (t : Bool). cond t (1 + inner_len literals text) 0) h)

-- of so many in front, each with the byte after it
pub inner-pairs : (literals : Bool) (n : ℕ) (text : List ℕ) → n < length text →
    let front = prefix_len (λ (q : ℕ × ℕ). is_inner_by literals q.0 q.1) (pairs (take n text) (take n (drop 1 text))) in
    (front < n → front ≡ inner_len literals text)
    × (n ≤ front → n + inner_len literals (drop n text) ≡ inner_len literals text)
inner-pairs literals zero text long = (λ lt. absurd (omega (arith, lt)), λ le. omega arith)
inner-pairs literals (suc n) [] long = absurd (omega (arith, long))
inner-pairs literals (suc n) (b ∷ []) long = absurd (omega (arith, long))
inner-pairs literals (suc n) (b ∷ c ∷ text) long =
    go (is_inner_by literals b c) (inner-pairs literals n (c ∷ text) (omega (arith, long)))
  where
    front : ℕ
    front =
        prefix_len (λ (q : ℕ × ℕ). is_inner_by literals q.0 q.1)
        (pairs (take n (c ∷ text)) (take n (drop 1 (c ∷ text))))

    go : (t : Bool) →
        (front < n → front ≡ inner_len literals (c ∷ text))
        × (n ≤ front → n + inner_len literals (drop n (c ∷ text)) ≡ inner_len literals (c ∷ text)) →
        (cond t (1 + front) 0 < suc n → cond t (1 + front) 0 ≡ cond t (1 + inner_len literals (c ∷ text)) 0)
        × (suc n ≤ cond t (1 + front) 0 →
        suc n + inner_len literals (drop n (c ∷ text)) ≡ cond t (1 + inner_len literals (c ∷ text)) 0)
    go true more = (
      λ lt. let rest = more.0 (omega (arith, lt)) in omega (arith, rest),
      λ le. let rest = more.1 (omega (arith, le)) in omega (arith, rest),
    )
    go false more = (λ lt. refl, λ le. absurd (omega (arith, le)))

pub inner-sixteen : (literals : Bool) (text : List ℕ) (mask r : ℕ) → 17 ≤ length text →
    mask ≡ mask_l (zip2 (λ b c. not (is_inner_by literals b c)) (take 16 text) (take 16 (drop 1 text))) →
    r ≡ cond (eqb mask 0) 16 (count_trailing_zeros 64 mask) →
    (r < 16 → r ≡ inner_len literals text)
    × (16 ≤ r → 16 + inner_len literals (drop 16 text) ≡ inner_len literals text)
inner-sixteen literals text mask r long e is =
    let all = inner-pairs literals 16 text (omega (arith, long)) in (
      λ lt. front ∙ all.0 (omega (arith, front, lt)),
      λ le. all.1 (omega (arith, front, le)),
    )
  where
    qs : List (ℕ × ℕ)
    qs = pairs (take 16 text) (take 16 (drop 1 text))

    own : length (take 16 text) ≡ 16
    own = length-take-le 16 text (omega (arith, long))

    next : length (take 16 (drop 1 text)) ≡ 16
    next = length-take-le 16 (drop 1 text) (let size = length-drop 1 text in omega (arith, size, long))

    many : length qs ≡ 16
    many =
        sym (length-map qs (λ (q : ℕ × ℕ). q.0))
        ∙ ap length (firsts (take 16 text) (take 16 (drop 1 text)) (own ∙ sym next)) ∙ own

    front : r ≡ prefix_len (λ (q : ℕ × ℕ). is_inner_by literals q.0 q.1) qs
    front =
        lowest-fails (λ (q : ℕ × ℕ). is_inner_by literals q.0 q.1) qs 16 mask r many (omega arith)
        (e ∙ ap mask_l (of-pairs (λ b c. not (is_inner_by literals b c)) (take 16 text) (take 16 (drop 1 text)))) is

-- no line ends after the whitespace at the front
ahead : (literals : Bool) (m : ℕ) (text : List ℕ) → m ≤ inner_len literals text → m < length text →
    IsDark (get_or text m 0) → ends_here (drop (prefix_len is_white text) text) ≡ false
ahead literals m [] run short d = absurd (omega (arith, short))
ahead literals zero (b ∷ text) run short d =
    let white : is_white b ≡ false = d.dark in
    let none : prefix_len is_white (b ∷ text) ≡ 0 = rw white refl in
    ap (λ (k : ℕ). ends_here (drop k (b ∷ text))) none ∙ d.goes
ahead literals (suc m) (b ∷ text) run short d =
    go (is_white b) refl (ahead literals m text inner.1 (omega (arith, short)) d)
  where
    inner : (is_inner literals (b ∷ text) ≡ true) × (m ≤ inner_len literals text)
    inner = inner-first literals b m text run

    go : (t : Bool) → is_white b ≡ t → ends_here (drop (prefix_len is_white text) text) ≡ false →
        ends_here (drop (prefix_len is_white (b ∷ text)) (b ∷ text)) ≡ false
    go true e rest =
        let one : prefix_len is_white (b ∷ text) ≡ 1 + prefix_len is_white text = rw e refl in
        let more : prefix_len is_white (b ∷ text) ≡ suc (prefix_len is_white text) = omega (arith, one) in
        ap (λ (k : ℕ). ends_here (drop k (b ∷ text))) more ∙ rest
    go false e rest =
        let none : prefix_len is_white (b ∷ text) ≡ 0 = rw e refl in
        ap (λ (k : ℕ). ends_here (drop k (b ∷ text))) none ∙ inner-goes literals b text inner.0

none-trailing : (text : List ℕ) → ends_here (drop (prefix_len is_white text) text) ≡ false → trailing_len text ≡ 0
unfolding trailing_len
none-trailing text h = ap (λ (t : Bool). cond t (prefix_len is_white text) 0) h

-- such a byte: each byte before it is text
pub inner-text : (literals : Bool) (m k : ℕ) (text : List ℕ) → k ≤ m → k < inner_len literals text →
    m ≤ inner_len literals text → m < length text → IsDark (get_or text m 0) →
    begins_text literals (drop k text) ≡ true
inner-text literals m k [] within few run short d = absurd (omega (arith, short))
inner-text literals m zero (b ∷ text) within few run short d =
    let inner : (is_inner literals (b ∷ text) ≡ true) × (0 ≤ inner_len literals text) =
    inner-first literals b 0 text (omega (arith, few)) in
    let zero : trailing_len (b ∷ text) ≡ 0 = none-trailing (b ∷ text) (ahead literals m (b ∷ text) run short d) in
    ap (λ (t : Bool). t && (trailing_len (b ∷ text) == 0)) (inner-begins literals b text inner.0)
    ∙ ap (λ (n : ℕ). n == 0) zero
inner-text literals zero (suc k) (b ∷ text) within few run short d = absurd (omega (arith, within))
inner-text literals (suc m) (suc k) (b ∷ text) within few run short d =
    inner-text literals m k text (omega (arith, within))
    (let next = inner-first literals b (suc k) text (omega (arith, few)) in omega (arith, next.1))
    (inner-first literals b m text run).1 (omega (arith, short)) d

-- a byte that is no inner one, and ends no line
pub stop-dark : (literals : Bool) (b : ℕ) (text : List ℕ) → is_inner literals (b ∷ text) ≡ false →
    (b == 10) ≡ false → IsDark b
stop-dark literals b text h goes = record { dark = go (is_white b) refl; goes = goes }
  where
    neither : (x y : Bool) → (x || y) ≡ false → y ≡ false
    neither true y e = cc
    neither false y e = e

    plain : is_plain literals b ≡ false
    plain =
        neither (literals && is_quiet (b ∷ text)) (is_plain literals b)
        (ap (λ (t : Bool). not t && ((literals && is_quiet (b ∷ text)) || is_plain literals b)) (sym goes) ∙ h)

    space : (l : Bool) → is_plain l 32 ≡ true
    space true = refl
    space false = refl

    tab : (l : Bool) → is_plain l 9 ≡ true
    tab true = refl
    tab false = refl

    white-plain : (p q : Bool) → nat_eq b 32 ≡ p → nat_eq b 9 ≡ q → (p || q) ≡ true → is_plain literals b ≡ true
    white-plain true q e f w =
        let is : b ≡ 32 = grind (arith, nat_tests) in
        ap (is_plain literals) is ∙ space literals
    white-plain false true e f w =
        let is : b ≡ 9 = grind (arith, nat_tests) in
        ap (is_plain literals) is ∙ tab literals
    white-plain false false e f w = cc

    go : (t : Bool) → is_white b ≡ t → t ≡ false
    go true e = sym (white-plain (nat_eq b 32) (nat_eq b 9) refl refl e) ∙ plain
    go false e = refl

-- the end of a line is text
pub feed-text : (literals : Bool) (text rest : List ℕ) (k : ℕ) → drop k text ≡ 10 ∷ rest →
    begins_text literals (drop k text) ≡ true
feed-text literals text rest k is = ap (begins_text literals) is ∙ go literals
  where
    none : trailing_len (10 ∷ rest) ≡ 0
    none = dark-trailing 10 rest refl

    go : (l : Bool) → begins_text l (10 ∷ rest) ≡ true
    go true = ap (λ (n : ℕ). n == 0) none
    go false = ap (λ (n : ℕ). n == 0) none

-- text after text is text
pub texts-further : (literals : Bool) (text : List ℕ) (at len : ℕ) →
    ((k : ℕ) → k < at → begins_text literals (drop k text) ≡ true) →
    ((k : ℕ) → k < len → begins_text literals (drop k (drop at text)) ≡ true) →
    (k : ℕ) → k < at + len → begins_text literals (drop k text) ≡ true
texts-further literals text at len front after k few = go (nat_lt k at) refl
  where
    go : (t : Bool) → nat_lt k at ≡ t → begins_text literals (drop k text) ≡ true
    go true e = front k (grind (arith, nat_tests))
    go false e =
        let past : at ≤ k = grind (arith, nat_tests) in
        let is : at + (k - at) ≡ k = omega (arith, past) in
        ap (λ (n : ℕ). begins_text literals (drop n text)) (sym is)
        ∙ ap (begins_text literals) (sym (drop-drop (k - at) at text))
        ∙ after (k - at) (omega (arith, few, past))

-- before whitespace at the end
before-dark : (literals : Bool) (text line : List ℕ) (len dark : ℕ) → len ≡ inner_len literals text →
    line ≡ take len text → (0 < dark → is_white (get_or line (dark - 1) 0) ≡ false) → dark ≤ length line →
    (k : ℕ) → k < dark → begins_text literals (drop k text) ≡ true
before-dark literals text line len dark long line_is last short k few =
    inner-text literals (dark - 1) k text (omega (arith, few)) (omega (arith, few, within, long))
    (omega (arith, within, long)) (omega (arith, few, within, long, inner-within literals text))
    (record {
      dark = ap is_white (sym here) ∙ last (omega (arith, few));
      goes = inner-passes literals text (dark - 1) (omega (arith, few, within, long));
    })
  where
    within : dark ≤ len
    within = omega (arith, short, ap length line_is, length-take len text)

    here : get_or line (dark - 1) 0 ≡ get_or text (dark - 1) 0
    here =
        ap (λ (l : List ℕ). get_or l (dark - 1) 0) line_is
        ∙ get_or-take len text (dark - 1) 0 (omega (arith, few, within))

-- a line, as a function reads it
pub line-text : (literals : Bool) (text line rest : List ℕ) (len dark end : ℕ) →
    len ≡ inner_len literals text → line ≡ take len text → rest ≡ drop len text →
    (0 < dark → is_white (get_or line (dark - 1) 0) ≡ false) → dark ≤ length line → end ≡ line_end dark len rest →
    (k : ℕ) → k < end → begins_text literals (drop k text) ≡ true
line-text literals text line rest len dark end long line_is rest_is last short end_is k few =
    go rest rest_is (omega (arith, few, end_is))
  where
    dark-text : k < dark → begins_text literals (drop k text) ≡ true
    dark-text = before-dark literals text line len dark long line_is last short k

    go : (rest : List ℕ) → rest ≡ drop len text → k < line_end dark len rest →
        begins_text literals (drop k text) ≡ true
    go [] is few = dark-text few
    go (b ∷ rest) is few = by (b == 10) refl (nat_eq dark len) refl few
      where
        first : get_or text len 0 ≡ b
        first =
            let place : len + 0 ≡ len = omega arith in
            ap (λ (n : ℕ). get_or text n 0) (sym place) ∙ sym (get_or-drop len text 0 0)
            ∙ ap (λ (l : List ℕ). get_or l 0 0) (sym is)

        room : len < length text
        room = omega (arith, ap length is, length-drop len text)

        by : (t : Bool) → (b == 10) ≡ t → (d : Bool) → nat_eq dark len ≡ d →
            k < cond (not t) len (cond d (len + 1) dark) → begins_text literals (drop k text) ≡ true
        by false e d f few =
            inner-text literals len k text (omega (arith, few)) (omega (arith, few, long)) (omega (arith, long)) room
            (subst IsDark (sym first)
            (stop-dark literals b rest
            (ap (is_inner literals) is ∙ ap (λ (n : ℕ). is_inner literals (drop n text)) long
            ∙ inner-stops literals text (omega (arith, room, long))) e))
        by true e false f few = dark-text few
        by true e true f few = last-of (nat_lt k dark) refl
          where
            last-of : (t : Bool) → nat_lt k dark ≡ t → begins_text literals (drop k text) ≡ true
            last-of true g = dark-text (grind (arith, nat_tests))
            last-of false g =
                let lower : dark ≤ k = grind (arith, nat_tests) in
                let same : dark ≡ len = grind (arith, nat_tests) in
                let upper : k < len + 1 = few in
                let place : k ≡ len = omega (arith, lower, same, upper) in
                let feed : b ≡ 10 = grind (arith, nat_tests) in
                feed-text literals text rest k
                (ap (λ (n : ℕ). drop n text) place ∙ sym is ∙ ap (λ (c : ℕ). c ∷ rest) feed)

pub line-bound : (text line rest : List ℕ) (len dark end : ℕ) → len ≤ length text → line ≡ take len text →
    rest ≡ drop len text → dark ≤ length line → end ≡ line_end dark len rest → end ≤ length text
line-bound text line rest len dark end fits line_is rest_is short end_is =
    omega (arith, end_is, go rest rest_is)
  where
    within : dark ≤ len
    within = omega (arith, short, ap length line_is, length-take len text)

    go : (rest : List ℕ) → rest ≡ drop len text → line_end dark len rest ≤ length text
    go [] is = omega (arith, within, fits)
    go (b ∷ rest) is = by (b == 10) (nat_eq dark len)
      where
        room : len < length text
        room = omega (arith, ap length is, length-drop len text)

        by : (t d : Bool) → cond (not t) len (cond d (len + 1) dark) ≤ length text
        by false d = fits
        by true true = omega (arith, room)
        by true false = omega (arith, within, fits)
