-- What is between two lines: what was read of the text, what the tokenizer knows, and what is open by the line
-- definition.
--
-- The events before a line, without the ends of the containers that the line closes, spell the finished blocks, and the
-- open leaf as if it ended there. What is still open, and may continue, is known from the flags. What the tokenizer
-- holds of a container is said in `Registry`, and of the open leaf in `HeldLeaf`. Items are meant as they are before
-- their resolver puts lists around them.
use Rattle.proof_frame.specs.HeldLeaf.{MatchesLeaf, kind_of_leaf}
use Rattle.md_registry.specs.OpenSpan.{IsBuiltLeaf}
use Rattle.md_engine.specs.declared.tokenizer.held_leaf.HeldLeaf.{HeldLeaf}
use Rattle.std.specs.Prelude.{◌≡◌, List, [], ◌∷◌, None}
use Rattle.md_engine.specs.declared.configuration.ParseOptions.{ParseOptions}
use Rattle.md_engine.specs.declared.tokenizer.container.Container.{Container as Held}
use Rattle.md_engine.specs.World.{Flags}
use Rattle.md_events.specs.Events.Spelled.{OpenContainer, Reading}
use Rattle.md_registry.specs.Registry.{MatchesContainer}
use Rattle.md_meaning.specs.State.{At, Container, Path, Within, closed, shut, spot}
use Rattle.proof_frame.specs.Around.{around_of}

-- What was read.

-- the containers of a path, the innermost first, inside of these
abbrev pub outer_on : List OpenContainer → Path → List OpenContainer
outer_on outer (At s) = outer
outer_on outer (Within before container p) = outer_on (around_of container before ∷ outer) p

abbrev pub reading_on : ParseOptions → List OpenContainer → Path → Reading
reading_on options outer p = record { outer = outer_on outer p; here = shut options (spot p); leaf = None; text = None }

-- what is read where this path is open; its leaf is read already
abbrev pub reading : ParseOptions → Path → Reading
reading options p = reading_on options [] p

-- where all of it is closed
abbrev pub final_on : ParseOptions → List OpenContainer → Path → Reading
final_on options outer p = record { outer = outer; here = closed options p; leaf = None; text = None }

abbrev pub final : ParseOptions → Path → Reading
final options p = final_on options [] p

-- What the tokenizer knows.

-- those that the tokenizer holds are these, the outermost first
abbrev pub AreOpen : List Held → List Container → Type 0
AreOpen [] [] = Unit {0}
AreOpen (held ∷ more) (container ∷ containers) = MatchesContainer held container × AreOpen more containers
AreOpen more containers = ⊥

-- the open containers of a path, the outermost first
abbrev pub containers_of : Path → List Container
containers_of (At s) = []
containers_of (Within before container p) = container ∷ containers_of p

-- the kind of the leaf that is still open
abbrev pub still_of : Path → HeldLeaf
still_of p = kind_of_leaf (spot p).leaf

-- Between two lines, this was read, and these flags show what is open.
pub record Represents (options : ParseOptions) (g : Flags) (r : Reading) (p : Path) : Type 0 where
  pub containers : AreOpen g.containers (containers_of p)
  pub leaf : MatchesLeaf g.leaf (spot p).leaf
  pub reading : r ≡ reading options p

-- What may be open in what is built, in containers.
abbrev pub IsPlain : Path → Type 0
IsPlain p = IsBuiltLeaf (spot p).leaf
