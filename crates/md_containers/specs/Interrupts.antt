-- Whether a container that opens here interrupts the leaf that is open (CommonMark 4.8).
use Rattle.std.specs.Prelude.{Bool, true, false, ◌&&◌, ◌==◌, length}
use Rattle.md_engine.specs.declared.tokenizer.held_leaf.HeldLeaf.{HeldLeaf}
use Rattle.md_engine.specs.declared.tokenizer.held_leaf.HeldLeaf.TheVariants as held_leaf
use Rattle.md_engine.specs.World.{Flags}

-- whether a container that opens after all others interrupts it
abbrev pub is_interrupted : HeldLeaf → Bool
is_interrupted (held_leaf.Text at) = true
is_interrupted _ = false

-- the leaf that is open is interrupted by what opens, since all containers continued: where one did not, the leaf ends
-- with it
abbrev pub interrupts : Flags → Bool
interrupts g = is_interrupted g.leaf && (g.continued == length g.containers)
