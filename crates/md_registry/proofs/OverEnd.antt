-- Where a line ends those containers continue that the tokenizer shows.
use Rattle.std.proofs.Common.{◌≡◌, ℕ, zero, suc, ◌+◌, Bool, true, false, cond, List, [], ◌∷◌, drop, sym, ◌∙◌, ap, arith}
use Rattle.md_engine.specs.KnownContinuing.{EndsContinuing, continues_over_empty}
use Rattle.md_engine.specs.declared.tokenizer.container.Container.{Container}
use Rattle.md_registry.specs.LineFlags.{over_end}
use Rattle.md_registry.specs.Registry.{continues_over}
use Rattle.md_registry.proofs.Registry.{container-laws}

-- one continues over an empty line as its kind shows
pub proceeds-over-empty : (c : Container) → continues_over_empty c ≡ continues_over c
proceeds-over-empty c = (container-laws c.kind).over_kind c

-- how many continue after one, by whether it does
counted : (c : Container) (cs : List Container) (x : Bool) → continues_over_empty c ≡ x →
    over_end (c ∷ cs) ≡ cond x (suc (over_end cs)) 0
counted c cs x e = ap (λ (y : Bool). cond y (suc (over_end cs)) 0) (sym (proceeds-over-empty c) ∙ e)

-- those that do up to the first that does not are so many
pub over-ends : (cs : List Container) (i n : ℕ) → EndsContinuing cs i n → n ≡ i + over_end (drop i cs)
over-ends [] zero n h = omega (arith, h.within)
over-ends [] (suc i) n h = absurd (omega (arith, h.within, h.following))
over-ends (c ∷ cs) (suc i) zero h = absurd (omega (arith, h.following))
over-ends (c ∷ cs) (suc i) (suc n) h =
    let more : n ≡ i + over_end (drop i cs) = over-ends cs i n (record {
      following = omega (arith, h.following);
      within = omega (arith, h.within);
      each = λ k d from to. h.each (suc k) d (omega (arith, from)) (omega (arith, to));
      ends = λ d lt. h.ends d (omega (arith, lt));
    }) in
    omega (arith, more)
over-ends (c ∷ cs) zero zero h =
    let none : over_end (c ∷ cs) ≡ 0 = counted c cs false (h.ends c (omega arith)) in
    omega (arith, none)
over-ends (c ∷ cs) zero (suc n) h =
    let more : n ≡ 0 + over_end cs = over-ends cs zero n (record {
      following = omega arith;
      within = omega (arith, h.within);
      each = λ k d from to. h.each (suc k) d (omega arith) (omega (arith, to));
      ends = λ d lt. h.ends d (omega (arith, lt));
    }) in
    let one : over_end (c ∷ cs) ≡ suc (over_end cs) = counted c cs true (h.each zero c (omega arith) (omega arith)) in
    omega (arith, more, one)
