use Rattle.std.proofs.Common.{ℕ, ◌≤◌, ◌≢◌, List, length, take, slice_set, sym, ◌∙◌, ap, arith}
use Rattle.std.proofs.lemmas.List.{get_or-set_other, get_or-take, length-set, length-take}
use Rattle.md_engine.specs.declared.tokenizer.container.Container.{Container}
use Rattle.md_engine.specs.declared.known_continuing.KnownContinuing.{KnownContinuing}
use Rattle.md_engine.specs.KnownContinuing.{IsKnownContinuing, continues_over_empty}
use Rattle.md_engine.proofs.known_continuing.KnownContinuing.changed.Goals as goal

-- what is known of the containers before one stays known where that one changes
over-set : (cs : List Container) (o : KnownContinuing) (i : ℕ) (c : Container) → IsKnownContinuing (take i cs) o →
    IsKnownContinuing (slice_set cs i c) o
over-set cs o i c h =
    let front : o.to ≤ length (take i cs) = h.within in
    record {
      within = simp length-set (omega (arith, front, length-take i cs));
      each = λ k d from to.
          let other : k ≢ i = λ same. omega (arith, same, to, front, length-take i cs) in
          ap continues_over_empty (get_or-set_other cs i k c d other
          ∙ sym (get_or-take i cs k d (omega (arith, to, front, length-take i cs))))
          ∙ h.each k d from to;
    }

pub returns-else-continues_over_empty : goal.returns-else-continues_over_empty
returns-else-continues_over_empty c = λ cs h. over-set cs c.cut.result c.args.index c.args.container
    (c.cut.ensures cs h)
