-- The containers around a point.
use Rattle.md_events.specs.Events.Spelled.{OpenContainer}
use Rattle.proof_frame.specs.ContainerNames.{shape_of}
use Rattle.md_meaning.specs.State.{Container}
use Rattle.md_meaning.specs.Tree.{Blocks}

-- an open container after these blocks
abbrev pub around_of : Container → Blocks → OpenContainer
around_of container before = record { shape = shape_of container; before = before }
