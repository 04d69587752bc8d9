use Rattle.std.proofs.Common.{◌∙◌, length, sym, ap, arith}
use Rattle.md_scan.proofs.DefinitionLemmas.{balanced-stops, balanced-proceeds, balanced-ends, depth_following-le}
use Rattle.md_scan.proofs.definition.is_balanced.Goals as goal

pub returns-in_default-depth_following : goal.returns-in_default-depth_following
returns-in_default-depth_following c =
    sym (balanced-stops _ _ _ _ _ c.in-Some.ensures.cases.0 c.in_default-depth_following.ensures)
    ∙ c.loop-first.invariant.0

pub returns : goal.returns
returns c = sym (balanced-ends _ c.loop-first.escaped _ c.in_default.ensures.cases) ∙ c.loop-first.invariant.0

pub loop-first-preserved : goal.loop-first-preserved
loop-first-preserved c = (
  rw c.is_bare-escaped.ensures
      (sym
      (balanced-proceeds _ c.in-Some-depth_following.following _ _ _ _ c.in-Some.ensures.cases.0
      c.in-Some-depth_following.ensures)
      ∙ c.loop-first.invariant.0),
  omega (
    arith,
    depth_following-le c.loop-first.escaped c.loop-first.depth c.in-Some.first.now c.in-Some-depth_following.following
        c.in-Some-depth_following.ensures,
    c.loop-first.invariant.1,
    ap length c.in-Some.ensures.cases.0,
  ),
)
