use Rattle.std.proofs.Common.{◌≡◌, ◌-◌, Some, [], length, ap, sym, ◌∙◌, arith}
use Rattle.reference_inlines.specs.Rounds.{pair_from, rounds, with_pair}
use Rattle.reference_inlines.proofs.RoundLemmas.{pair-bounds, rounds-some}
use Rattle.reference_inlines.proofs.emphasis.emphasis.Goals as goal

pub paired-requires-clause-order : goal.paired-requires-clause-order
paired-requires-clause-order c =
    (pair-bounds c.args.single [] c.deref.result.now c.in-Some.pair (sym c.in-Some.ensures)).0

pub paired-requires-clause-within : goal.paired-requires-clause-within
paired-requires-clause-within c =
    omega (
      arith,
      (pair-bounds c.args.single [] c.deref.result.now c.in-Some.pair (sym c.in-Some.ensures)).1,
      ap length c.deref.ensures.value,
      ap length c.deref-in-loop-left.ensures.value,
    )

pub loop-left-preserved : goal.loop-left-preserved
loop-left-preserved c =
    let found : pair_from c.args.single [] c.loop-left.list.items ≡ Some c.in-Some.pair =
    ap (pair_from c.args.single []) (sym c.deref.ensures.value) ∙ sym c.in-Some.ensures in
    ap (rounds c.args.single (c.loop-left.left - 1))
    (c.in_ok-list.ensures ∙ ap (λ l. with_pair l c.in-Some.pair) c.deref-in-loop-left.ensures.value)
    ∙ rounds-some c.args.single c.loop-left.left c.loop-left.list.items c.in-Some.pair c.loop-left-test.true found
    ∙ c.loop-left.invariant
