use Rattle.std.proofs.Common.{◌∙◌, arith}
use Rattle.md_outline.specs.OutlineSteps.{state_of, state_after, before_all}
use Rattle.md_outline.proofs.OutlineLemmas.{state-end, state-next}
use Rattle.md_outline.proofs.outline.outline.Goals as goal

pub loop-event-preserved : goal.loop-event-preserved
loop-event-preserved c = record {
  bytes = c.read.ensures.bytes ∙ c.loop-event.invariant.bytes;
  reads = λ is.
      state-next c.args.state.now.bytes.now c.args.events.now c.loop-event.event-index _ (state_of c.loop-event.reading)
      (state_of c.read.new.self) (state_after c.args.state.now.bytes.now before_all c.args.events.now)
      is (omega arith) (c.loop-event.invariant.reads is)
      (rw (c.loop-event.invariant.bytes) at c.in_ok-read.ensures.read);
}

pub returns : goal.returns
returns c = λ is.
    state-end c.args.state.now.bytes.now c.args.events.now c.loop-event.event-index (state_of c.loop-event.reading) is
    (omega arith) (c.loop-event.invariant.reads is).becomes
