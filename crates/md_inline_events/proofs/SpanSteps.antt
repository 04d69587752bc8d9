-- Bytes of text are passed at once: each is one column.
use Rattle.std.proofs.Common.{◌≡◌, ℕ, zero, suc, ◌+◌, ◌-◌, ◌<◌, ◌≤◌, Bool, true, false, List, [], ◌∷◌, ◌++◌, length}
use Rattle.std.proofs.Common.{cond, nat_lt, drop, take}
use Rattle.std.proofs.Common.{refl, ap, sym, ◌∙◌, arith}
use Rattle.std.specs.Prelude.{◌==◌, ◌&&◌, slice_index}
use Rattle.std.specs.List.{prefix_len}
use Rattle.std.proofs.lemmas.Bool.Decides.{nat_tests}
use Rattle.std.proofs.lemmas.List.{take-append-drop}
use Rattle.std.proofs.lemmas.List.Folds.{list_all-append}
use Rattle.md_engine.specs.Classes.{IsSpan, has}
use Rattle.md_engine.specs.declared.class.Class.TheVariants.{Text}
use Rattle.md_engine.specs.declared.event.Point.{Point}
use Rattle.md_engine.proofs.ClassLemmas.{no-ending}
use Rattle.md_events.specs.Events.Places.{past_byte, past_text}
use Rattle.md_events.proofs.PlainRuns.{ahead}
use Rattle.md_inline_events.specs.Room.{is_even}

ahead-none : (p : Point) → p ≡ ahead 0 p
ahead-none p =
    let same : (m : ℕ) → m ≡ m + 0 = λ m. omega arith in
    rw (← same p.column, ← same p.index) refl

ahead-more : (b n : ℕ) (p : Point) → 1 ≤ p.column → p.vs ≡ 0 → (b == 9) ≡ false →
    ahead n (past_byte b p) ≡ ahead (suc n) p
ahead-more b n p first none plain =
    let column : p.column - 1 + 1 + 1 + n ≡ p.column + suc n = omega (arith, first) in
    let index : p.index + 1 + n ≡ p.index + suc n = omega arith in
    rw (plain, column, index) (ap (λ (m : ℕ). record (ahead (suc n) p) { vs = m }) (sym none))

span-past : (n : ℕ) (line : List ℕ) (p : Point) → n ≤ length line →
    ((k : ℕ) → k < n → has Text (slice_index line k) ≡ true) → 1 ≤ p.column → p.vs ≡ 0 →
    past_text line p ≡ past_text (drop n line) (ahead n p)
span-past zero line p low each first none = ap (λ (q : Point). past_text line q) (ahead-none p)
span-past (suc n) [] p low each first none = absurd (omega (arith, low))
span-past (suc n) (b ∷ line) p low each first none =
    let plain = no-ending Text b (each 0 (omega arith)) in
    span-past n line (past_byte b p) (omega (arith, low)) (λ k h. each (suc k) (omega (arith, h))) (omega arith) refl
    ∙ ap (λ (q : Point). past_text (drop n line) q) (ahead-more b n p first none plain.1)

pub span_step : (rest following left : List ℕ) (b count : ℕ) (at to next end : Point) → rest ≡ b ∷ following →
    to ≡ past_byte b at → IsSpan Text following count → left ≡ drop count following → next ≡ ahead count to →
    past_text rest at ≡ end → past_text left next ≡ end
span_step rest following left b count at to next end r t span l n all =
    ap (λ (q : Point). past_text left q) (n ∙ ap (λ (q : Point). ahead count q) t)
    ∙ ap (λ (x : List ℕ). past_text x (ahead count (past_byte b at))) l
    ∙ sym (span-past count following (past_byte b at) span.within span.each (omega arith) refl)
    ∙ ap (λ (x : List ℕ). past_text x at) (sym r)
    ∙ all

-- Lines of which each byte is one column.

both-parts : (x y : Bool) → (x && y) ≡ true → (x ≡ true) × (y ≡ true)
both-parts true true h = (refl, refl)
both-parts true false h = cc
both-parts false y h = cc

pub even-all : (line : List ℕ) (count : ℕ) → IsSpan Text line count → length line ≤ count → is_even line ≡ true
even-all line count span all = go line (λ k h. span.each k (omega (arith, h, all)))
  where
    go : (line : List ℕ) → ((k : ℕ) → k < length line → has Text (slice_index line k) ≡ true) → is_even line ≡ true
    go [] each = refl
    go (b ∷ line) each =
        ap (λ (x : Bool). x && is_even line) (each 0 (omega arith))
        ∙ go line (λ k h. each (suc k) (omega (arith, h)))

pub even-parts : (line run following : List ℕ) → line ≡ run ++ following → is_even line ≡ true →
    (is_even run ≡ true) × (is_even following ≡ true)
even-parts line run following is even =
    both-parts (is_even run) (is_even following)
    (sym (list_all-append (has Text) run following) ∙ ap is_even (sym is) ∙ even)

-- bytes greater than CR in front
even-front : (text : List ℕ) (n : ℕ) → n ≤ prefix_len (nat_lt 13) text → is_even (take n text) ≡ true
even-front text zero le = refl
even-front [] (suc n) le = refl
even-front (b ∷ text) (suc n) le = go (nat_lt 13 b) refl le (even-front text n)
  where
    go : (x : Bool) → nat_lt 13 b ≡ x → suc n ≤ cond x (1 + prefix_len (nat_lt 13) text) 0 →
        (n ≤ prefix_len (nat_lt 13) text → is_even (take n text) ≡ true) → is_even (b ∷ take n text) ≡ true
    go false e le more = absurd (omega (arith, le))
    go true e le more =
        let one : has Text b ≡ true = grind (arith, nat_tests) in
        ap (λ (x : Bool). x && is_even (take n text)) one ∙ more (omega (arith, le))

-- the text of a line, all bytes of which are greater than CR
pub even-text : (text line rest side : List ℕ) (at size indent len : ℕ) → at ≡ prefix_len (nat_lt 13) text →
    line ≡ take size text → size ≤ at → rest ≡ drop indent line → side ≡ take len rest → is_even side ≡ true
even-text text line rest side at size indent len counted is within back front =
    let all : is_even line ≡ true = ap is_even is ∙ even-front text size (omega (arith, within, counted)) in
    let last : is_even rest ≡ true = ap is_even back
    ∙ (even-parts line (take indent line) (drop indent line) (sym (take-append-drop indent line)) all).1 in
    ap is_even front ∙ (even-parts rest (take len rest) (drop len rest) (sym (take-append-drop len rest)) last).0

ahead-all : (line : List ℕ) (p : Point) → is_even line ≡ true → 1 ≤ p.column → p.vs ≡ 0 →
    past_text line p ≡ ahead (length line) p
ahead-all [] p even first none = ahead-none p
ahead-all (b ∷ line) p even first none =
    let parts : (has Text b ≡ true) × (is_even line ≡ true) = both-parts (has Text b) (is_even line) even in
    let plain = no-ending Text b parts.0 in
    ahead-all line (past_byte b p) parts.1 (omega arith) refl ∙ ahead-more b (length line) p first none plain.1

-- the point after them
pub even-past : (line : List ℕ) (p : Point) → is_even line ≡ true → 0 < length line →
    past_text line p ≡
    record {
      line = p.line;
      column = p.column - 1 + 1 + length line;
      index = p.index + length line;
      vs = 0;
    }
even-past [] p even some = absurd (omega (arith, some))
even-past (b ∷ line) p even some =
    let parts : (has Text b ≡ true) × (is_even line ≡ true) = both-parts (has Text b) (is_even line) even in
    let plain = no-ending Text b parts.0 in
    let column : p.column - 1 + 1 + 1 + length line ≡ p.column - 1 + 1 + suc (length line) = omega arith in
    let index : p.index + 1 + length line ≡ p.index + suc (length line) = omega arith in
    ahead-all line (past_byte b p) parts.1 (omega arith) refl ∙ rw (plain.1, column, index) refl
