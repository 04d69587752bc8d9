use Rattle.std.proofs.Common.{◌∙◌, arith, sym, take}
use Rattle.md_outline.proofs.CountOpen.{counts-one, fewest-one, left-counts, left-four}
use Rattle.md_outline.proofs.outline.part.part_end.Goals as goal
use Rattle.md_outline.proofs.outline.part.part_end.Goals.{else-end-most, then-end-most}

pub loop-rest-preserved : goal.loop-rest-preserved
loop-rest-preserved c =
    left-four (take c.min-most.result c.args.events.now) c.loop-rest.rest.now _ c.loop-rest.enters c.entered.result
    c.entered-in-len4-up.result c.entered-in-len4-up-2.result c.entered-in-len4-up-3.result c.in-len4-up.len_at_least
    c.entered.ensures c.entered-in-len4-up.ensures c.entered-in-len4-up-2.ensures c.entered-in-len4-up-3.ensures
    c.loop-rest.invariant

pub loop-end-init : goal.loop-end-init
loop-end-init c = record {
  within = omega (arith, c.min-most.ensures);
  most = omega (arith, c.min-most.ensures);
  fewest = λ balanced k least lt closed.
      let no : ⊥ = omega (arith, least, lt, c.min-most.ensures) in absurd no;
  counts =
      left-counts c.args.events.now c.loop-rest.rest.now c.min-most.result c.loop-rest.enters
      (omega (arith, c.min-most.ensures)) c.loop-rest.invariant;
}

pub loop-end-preserved : goal.loop-end-preserved
loop-end-preserved c = record {
  within = omega (arith, c.loop-end-test.true);
  most = c.loop-end.invariant.most;
  fewest =
      fewest-one c.args.events.now c.loop-end.end c.loop-end.enters c.loop-end.invariant.counts
      (λ least. elim c.if-end-most.branch [
        | then-end-most w ↦ let no : ⊥ = omega (arith, w.if-end-most, c.loop-end.invariant.most, least) in absurd no
        | else-end-most w ↦ sym w.value-is ∙ c.if-end-enters.true
      ]) c.loop-end.invariant.fewest;
  counts =
      counts-one c.args.events.now c.loop-end.end _ c.loop-end.enters c.entered-enters.result
      c.loop-end-test.true c.entered-enters.ensures c.loop-end.invariant.counts;
}
