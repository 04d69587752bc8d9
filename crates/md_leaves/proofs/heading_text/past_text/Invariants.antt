use Rattle.std.proofs.Common.{◌≡◌, drop}
use Rattle.md_leaves.specs.OnLine.{IsOnLine}
use Rattle.md_events.specs.Events.Places.{past_text}
use Rattle.md_leaves.proofs.heading_text.past_text.Given as goal

abbrev pub invariant-loop-byte : goal.invariant-loop-byte
invariant-loop-byte l = record {
  on : IsOnLine l.bytes (drop l.byte-index l.piece) l.point;
  same : past_text (drop l.byte-index l.piece) l.point ≡ past_text l.piece l.initial.point;
}
