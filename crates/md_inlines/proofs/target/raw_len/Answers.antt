use Rattle.std.proofs.Common.{◌≡◌, ◌-◌, sym, ap, ◌∙◌, length, arith}
use Rattle.md_inlines.specs.Target.{closed}
use Rattle.md_inlines.proofs.TargetLemmas.{depth-few, raw-fails, raw-goes, raw-over, raw-plain, raw-stops}
use Rattle.md_inlines.proofs.target.raw_len.Goals as goal

pub returns-then-ends_raw-clause-value : goal.returns-then-ends_raw-clause-value
returns-then-ends_raw-clause-value c =
    c.closed.ensures.value
    ∙ raw-stops _ _ _ _ _ c.loop-first.invariant.same _ _ c.in-Some.ensures.cases.0 (sym c.if-ends_raw.ensures)

pub returns-then-is_too_deep-clause-value : goal.returns-then-is_too_deep-clause-value
returns-then-is_too_deep-clause-value c =
    raw-fails _ _ _ _ _ c.loop-first.invariant.same _ _ c.in-Some.ensures.cases.0 (sym c.if-ends_raw.ensures)
    (sym c.if-is_too_deep.ensures)

pub returns-clause-value : goal.returns-clause-value
returns-clause-value c =
    let all : length c.args.text.now ≡ length c.args.text.now - length c.loop-first.rest.now =
    omega (arith, c.in_default.ensures.cases) in
    c.closed-2.ensures.value ∙ ap (closed c.loop-first.depth) all
    ∙ raw-over _ _ _ _ _ c.loop-first.invariant.same c.in_default.ensures.cases

pub loop-first-preserved-then-is_plain_raw : goal.loop-first-preserved-then-is_plain_raw
loop-first-preserved-then-is_plain_raw c = record {
  front = omega (arith, ap length c.in-Some.ensures.cases.0, c.loop-first.invariant.front);
  few = c.loop-first.invariant.few;
  same =
      raw-plain _ _ _ _ _ c.loop-first.invariant.same _ _ _ c.in-Some.ensures.cases.0
      (sym c.if-is_plain_raw.ensures)
      (omega (arith, ap length c.in-Some.ensures.cases.0, c.loop-first.invariant.front));
}

pub loop-first-preserved : goal.loop-first-preserved
loop-first-preserved c = record {
  front = omega (arith, ap length c.in-Some.ensures.cases.0, c.loop-first.invariant.front);
  few =
      rw c.depth_after-depth.ensures
      (depth-few c.loop-first.depth c.in-Some.first.now c.loop-first.escaped c.loop-first.invariant.few
      (sym c.if-is_too_deep.ensures));
  same =
      rw (c.depth_after-depth.ensures, c.is_escaped_after-escaped.ensures)
      (raw-goes _ _ _ _ _ c.loop-first.invariant.same _ _ _ c.in-Some.ensures.cases.0 (sym c.if-ends_raw.ensures)
      (sym c.if-is_too_deep.ensures)
      (omega (arith, ap length c.in-Some.ensures.cases.0, c.loop-first.invariant.front)));
}
