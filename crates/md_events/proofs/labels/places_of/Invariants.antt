use Rattle.std.proofs.Common.{◌≡◌, ℕ, ◌≤◌, List, bytes_eq, drop, length, map, nat_cmp, string_bytes}
use Rattle.std.specs.BTreeMap.{get_by}
use Rattle.std.specs.Cmp.Lexicographic.{slice_cmp}
use Rattle.std.specs.List.{position_from}
use Rattle.md_events.proofs.labels.places_of.Given as goal

abbrev pub invariant-loop-at : goal.invariant-loop-at
invariant-loop-at l = record {
  within : l.at ≤ length l.forms;
  first :
      (form : List ℕ) → get_by (λ k. slice_cmp nat_cmp form k.now) l.places ≡
      position_from (λ other. bytes_eq other form) l.at (map string_bytes (drop l.at l.forms));
}

abbrev pub decreases-loop-at : goal.decreases-loop-at
decreases-loop-at l = l.at
