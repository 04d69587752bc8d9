-- The plain layer goes over the text of a line at once.
use Rattle.std.proofs.Common.{◌≡◌, ℕ, zero, suc, ◌+◌, ◌-◌, ◌≤◌, false, List, length, refl, ap, sym, ◌∙◌, subst, arith}
use Rattle.std.specs.Prelude.{◌==◌, slice_index, slice_range}
use Rattle.md_engine.specs.Classes.{IsSpan}
use Rattle.md_engine.specs.declared.class.Class.TheVariants.{Text}
use Rattle.md_engine.specs.declared.event.Point.{Point}
use Rattle.md_engine.proofs.ClassLemmas.{AreHere, fewer-here, further, no-ending, span-here}
use Rattle.md_events.specs.Events.Places.{past_byte, past_text}
use Rattle.md_events.proofs.PlainSteps.{line-step, line_left}

-- the point after bytes that are neither tabs nor endings
abbrev pub ahead : ℕ → Point → Point
ahead n p = record p { column = p.column + n; index = p.index + n }

further-ahead : (n : ℕ) (p : Point) → p.vs ≡ 0 → further n p ≡ ahead n p
further-ahead zero p none =
    let same : (m : ℕ) → m ≡ m + 0 = λ m. omega arith in
    rw (← same p.column, ← same p.index) refl
further-ahead (suc n) p none = ap (λ (m : ℕ). record (ahead (suc n) p) { vs = m }) (sym none)

-- the point after one more
past-further : (b n : ℕ) (p : Point) → 1 ≤ p.column → (b == 9) ≡ false → past_byte b (further n p) ≡ further (suc n) p
past-further b zero p first plain =
    let column : p.column - 1 + 1 + 1 ≡ p.column + 1 = omega (arith, first) in
    rw (plain, column) refl
past-further b (suc n) p first plain =
    let column : p.column + suc n - 1 + 1 + 1 ≡ p.column + suc (suc n) = omega (arith, first) in
    let index : p.index + suc n + 1 ≡ p.index + suc (suc n) = omega arith in
    rw (plain, column, index) refl

line-further : (bytes : List ℕ) (n : ℕ) (end : ℕ) (p : Point) → 1 ≤ p.column → end ≤ length bytes →
    AreHere Text n bytes end p →
    past_text (line_left bytes (further n p) end) (further n p) ≡ past_text (line_left bytes p end) p
line-further bytes zero end p first low h = refl
line-further bytes (suc n) end p first low h =
    let here = h n (omega arith) in
    let plain = no-ending Text (slice_index bytes (further n p).index) here.1 in
    sym (ap (λ (q : Point). past_text (line_left bytes q end) q) (past-further _ n p first plain.1))
    ∙ line-step bytes (further n p) end here.0 low plain.0
    ∙ line-further bytes n end p first low (fewer-here Text n bytes end p h)

-- what is left after them leads to the same end
pub line-run : (bytes : List ℕ) (end n : ℕ) (p : Point) → 1 ≤ p.column → p.vs ≡ 0 → end ≤ length bytes → p.index ≤ end →
    IsSpan Text (slice_range bytes p.index end) n →
    past_text (line_left bytes (ahead n p) end) (ahead n p) ≡ past_text (line_left bytes p end) p
line-run bytes end n p first none low at h =
    subst (λ (q : Point). past_text (line_left bytes q end) q ≡ past_text (line_left bytes p end) p)
    (further-ahead n p none) (line-further bytes n end p first low (span-here Text n bytes end p low at h).0)
