use Rattle.std.proofs.Common.{arith, sym, ◌∙◌}
use Rattle.md_content.proofs.DefinitionRuns.{loop-ends, loop-more}
use Rattle.md_content.proofs.whole_definitions.write_definitions.Goals as goal

pub loop-at-preserved : goal.loop-at-preserved
loop-at-preserved c =
    loop-more c.args.bytes.now c.args.chunks.now c.loop-at.at _ c.in-Some.end c.loop-at.events.items _ _ c.requires
    c.loop-at.invariant (omega (arith, c.loop-at-test.true)) c.if-bytes-after-ne10.false
    (rw c.in-Some.is at c.in_ok-end.ensures.written) c.put_pair.ensures.items

pub returns-clause-events : goal.returns-clause-events
returns-clause-events c = λ some.
    (loop-ends c.args.bytes.now c.args.chunks.now c.loop-at.at _ c.in_ok-last.last c.loop-at.events.items _ c.requires
    (sym c.are_lines.ensures ∙ c.if-not-are_lines.false) c.loop-at.invariant (omega (arith, c.loop-at-test.false))
    c.in_ok-last.ensures.written (sym c.is_some.ensures ∙ some)).0

pub returns-clause-placed : goal.returns-clause-placed
returns-clause-placed c = λ some.
    (loop-ends c.args.bytes.now c.args.chunks.now c.loop-at.at _ c.in_ok-last.last c.loop-at.events.items _ c.requires
    (sym c.are_lines.ensures ∙ c.if-not-are_lines.false) c.loop-at.invariant (omega (arith, c.loop-at-test.false))
    c.in_ok-last.ensures.written (sym c.is_some.ensures ∙ some)).1
