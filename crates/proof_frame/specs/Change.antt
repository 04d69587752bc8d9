-- What a line does to the containers that are open before it.
use Rattle.md_containers.specs.Interrupts.{is_interrupted}
use Rattle.proof_frame.specs.HeldLeaf.{met_by}
use Rattle.md_engine.specs.declared.tokenizer.held_leaf.HeldLeaf.TheVariants as held_leaf
use Rattle.md_engine.specs.declared.tokenizer.held_leaf.HeldLeaf.{HeldLeaf}
use Rattle.std.specs.Prelude.{Bool, true, false, ◌&&◌, if◌then◌else◌, List, [], ◌∷◌, ◌++◌, length, drop}
use Rattle.md_engine.specs.declared.event.Event.{Event}
use Rattle.md_engine.specs.declared.event.Point.{Point}
use Rattle.md_events.specs.Events.Nested.{exit}
use Rattle.proof_frame.specs.ContainerNames.{container_name}
use Rattle.md_meaning.specs.State.{Container}

-- The containers of a line, the outermost first.
pub record Change : Type 0 where
  -- those open before it that are still open after it, as they are then
  pub stays : List Container
  -- those that end before it
  pub closes : List Container
  -- those that open on it
  pub opens : List Container

-- all that are open after the line
abbrev pub open_following : Change → List Container
open_following c = c.stays ++ c.opens

-- some containers continued, and some open; the others stay too where the line continues the open text, and end where
-- it does not
abbrev pub change_by : Bool → List Container → List Container → List Container → Change
change_by true proceeded others opens = record { stays = proceeded ++ others; closes = []; opens = opens }
change_by false proceeded others opens = record { stays = proceeded; closes = others; opens = opens }

-- those of the open containers that are not among the first, which continued
abbrev pub others_of : List Container → List Container → List Container
others_of open_before proceeded = drop (length proceeded) open_before

abbrev pub is_none : List Container → Bool
is_none [] = true
is_none (c ∷ cs) = false

-- whether a container that opens would interrupt the open leaf: all containers continued
abbrev pub interrupts : HeldLeaf → List Container → Bool
interrupts still others = is_interrupted still && is_none others

-- the leaf that a line meets, which it may continue or is against: of the open one, where these containers did not
-- continue, and these open
abbrev pub against : HeldLeaf → List Container → List Container → HeldLeaf
against still others opens = if is_none opens then met_by (is_none others) still else held_leaf.None

-- the ends of containers at a point, the innermost first
abbrev pub ends_of : List Container → Point → List Event
ends_of [] p = []
ends_of (c ∷ cs) p = ends_of cs p ++ exit (container_name c) p ∷ []
