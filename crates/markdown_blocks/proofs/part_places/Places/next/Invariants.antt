use Rattle.std.proofs.Common.{◌≡◌, ◌-◌, length}
use Rattle.markdown_blocks.specs.PartPlaces.{places_from}
use Rattle.markdown_blocks.proofs.part_places.Places.next.Given as goal

abbrev pub invariant-loop-self : goal.invariant-loop-self
invariant-loop-self l =
    places_from l.self.blocks.now l.self.at ≡ places_from l.fn.self.blocks.now l.fn.self.at

abbrev pub decreases-loop-self : goal.decreases-loop-self
decreases-loop-self l = length l.self.blocks.now - l.self.at
