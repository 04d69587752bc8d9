use Rattle.std.proofs.Common.{◌≡◌, ◌≤◌, ◌<◌, ◌-◌, true, false, drop, length, take}
use Rattle.markdown_blocks.specs.InPlace.{InPlace, IsFurther}
use Rattle.markdown_blocks.proofs.text_parts.place_chunks.Given as goal

abbrev pub invariant-loop-is_next : goal.invariant-loop-is_next
invariant-loop-is_next l = record {
  events : l.found.events.items ≡ l.initial.found.events.items;
  next : l.is_next ≡ true → IsFurther l.found.chunks l.left;
  fewer : l.is_next ≡ false → length l.left < length l.events;
  within : length l.left ≤ length l.events;
  from : l.initial.found.placed ≤ l.found.placed;
  placed :
      InPlace (drop l.initial.found.placed l.initial.found.events.items) l.initial.found.chunks l.events
      (take (l.found.placed - l.initial.found.placed) (drop l.initial.found.placed l.initial.found.events.items))
      (drop l.found.placed l.initial.found.events.items) l.found.chunks l.left;
}

abbrev pub decreases-loop-is_next : goal.decreases-loop-is_next
decreases-loop-is_next l = length l.left
