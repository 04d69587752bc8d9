use Rattle.std.proofs.Common.{◌≡◌, drop}
use Rattle.md_outline.specs.Outlined.{IsOutlined}
use Rattle.md_outline.specs.OutlineSteps.{state_of, state_after, before_all}
use Rattle.md_outline.proofs.OutlineLemmas.{Proceeds}
use Rattle.md_outline.proofs.outline.outline.Given as goal

abbrev pub invariant-loop-event : goal.invariant-loop-event
invariant-loop-event l = record {
  bytes : l.reading.bytes ≡ l.state.bytes;
  reads : IsOutlined l.events l.state.bytes.now →
      Proceeds l.state.bytes.now (drop l.event-index l.events) (state_of l.reading)
      (state_after l.state.bytes.now before_all l.events);
}
