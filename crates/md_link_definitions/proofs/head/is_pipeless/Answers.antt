use Rattle.std.proofs.Common.{◌+◌, ◌-◌, ◌∙◌, arith, length, sym}
use Rattle.md_link_definitions.proofs.PipelessLemmas.{pipe-following, pipeless-following, pipeless-more}
use Rattle.md_link_definitions.proofs.head.is_pipeless.Goals as goal

pub returns-then-not-are_pipeless : goal.returns-then-not-are_pipeless
returns-then-not-are_pipeless c =
    sym
    (pipe-following c.args.line.now c.loop-at.at (c.loop-at.at + 32 - c.loop-at.at)
    (sym c.are_pipeless.ensures ∙ c.if-not-are_pipeless.true))

pub loop-at-preserved : goal.loop-at-preserved
loop-at-preserved c = record {
  within = omega arith;
  each =
      pipeless-more c.args.line.now c.loop-at.at (c.loop-at.at + 32) (omega arith) c.loop-at.invariant.each
      (sym c.are_pipeless.ensures ∙ c.if-not-are_pipeless.false);
}

pub returns : goal.returns
returns c =
    pipeless-following c.args.line.now (length c.args.line.now - 32) c.loop-at.at c.are_pipeless-2.result (omega arith)
    c.loop-at.invariant.each c.are_pipeless-2.ensures
