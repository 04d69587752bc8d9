use Rattle.std.proofs.Common.{◌≡◌, ◌≤◌, ◌+◌, ◌<◌, ℕ, List, Bool, arith, drop, length, take, ap, subst, sym, ◌∙◌}
use Rattle.std.specs.Prelude.{◌==◌, ◌&&◌, not, true, false}
use Rattle.std.proofs.lemmas.List.{length-drop, length-take-le}
use Rattle.markdown_inlines.specs.Plain.{inner_len, is_plain}
use Rattle.markdown_inlines.proofs.InnerLemmas.{inner-sixteen}
use Rattle.markdown_inlines.proofs.LaneLemmas.{by-first}
use Rattle.markdown_inlines.proofs.plain.inner_of_16.Goals as goal
use lib.Lanes.{mask_l}

-- what is known of so many bytes
abbrev Counted : Bool → List ℕ → ℕ → Type 0
Counted literals text r =
    (r < 16 → r ≡ inner_len literals text) × (16 ≤ r → 16 + inner_len literals (drop 16 text) ≡ inner_len literals text)

lanes-even : (text : List ℕ) → 17 ≤ length text → length (take 16 text) ≡ length (take 16 (drop 1 text))
lanes-even text long =
    length-take-le 16 text (omega (arith, long))
    ∙ sym (length-take-le 16 (drop 1 text) (let size = length-drop 1 text in omega (arith, size, long)))

pub returns-then-literals-clause-stops : goal.returns-then-literals-clause-stops
returns-then-literals-clause-stops c =
    (let text = c.args.text.now in
    subst (λ (l : Bool). Counted l text c.lowest_bit.result) (sym c.if-literals.true)
    (inner-sixteen true text _ c.lowest_bit.result c.requires
    c.stops_or_addresses.ensures c.lowest_bit.ensures)).0

pub returns-then-literals-clause-passes : goal.returns-then-literals-clause-passes
returns-then-literals-clause-passes c =
    (let text = c.args.text.now in
    subst (λ (l : Bool). Counted l text c.lowest_bit.result) (sym c.if-literals.true)
    (inner-sixteen true text _ c.lowest_bit.result c.requires
    c.stops_or_addresses.ensures c.lowest_bit.ensures)).1

pub returns-else-literals-clause-stops : goal.returns-else-literals-clause-stops
returns-else-literals-clause-stops c =
    (let text = c.args.text.now in
    subst (λ (l : Bool). Counted l text c.lowest_bit-else-literals.result) (sym c.if-literals.false)
    (inner-sixteen false text _ c.lowest_bit-else-literals.result c.requires
    (c.stops.ensures
    ∙ ap mask_l
    (by-first (λ b. not (not (b == 10) && is_plain false b)) (take 16 text) (take 16 (drop 1 text))
    (lanes-even text c.requires))) c.lowest_bit-else-literals.ensures)).0

pub returns-else-literals-clause-passes : goal.returns-else-literals-clause-passes
returns-else-literals-clause-passes c =
    (let text = c.args.text.now in
    subst (λ (l : Bool). Counted l text c.lowest_bit-else-literals.result) (sym c.if-literals.false)
    (inner-sixteen false text _ c.lowest_bit-else-literals.result c.requires
    (c.stops.ensures
    ∙ ap mask_l
    (by-first (λ b. not (not (b == 10) && is_plain false b)) (take 16 text) (take 16 (drop 1 text))
    (lanes-even text c.requires))) c.lowest_bit-else-literals.ensures)).1
