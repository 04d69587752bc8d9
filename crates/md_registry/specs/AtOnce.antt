-- Containers whose prefixes are taken at once, and lines where one look shows that none opens, or that no leaf begins.
use Rattle.std.specs.Prelude.{◌≡◌, ℕ, Bool, false, not, ◌&&◌, ◌||◌, ◌==◌, List, [], ◌∷◌, Option, None, Some}
use Rattle.std.specs.List.{list_any}
use Rattle.md_meaning.specs.Rest.{is_white}
use Rattle.md_engine.specs.declared.tokenizer.container.name.ContainerKind.{ContainerKind}
use Rattle.md_engine.specs.declared.tokenizer.container.Container.{Container}
use Rattle.md_engine.specs.declared.tokenizer.held_leaf.HeldLeaf.{HeldLeaf}
use Rattle.md_engine.specs.World.{World, container_of}
use Rattle.md_registry.specs.LineFlags.{asking, begun_line, next_container}
use Rattle.proof_frame.specs.LeafName.{GfmTable}
use Rattle.md_registry.specs.Registry.{container_rules, leaf, may_open, openers, is_common}

-- the prefix of a container on a further line is here, by its kind, and can be taken at once
abbrev pub HasPrefix : Container → ContainerKind → World → Type 0
HasPrefix c k w = (container_rules k).plain c w

-- it was taken
abbrev pub prefix_taken : Container → ContainerKind → World → World
prefix_taken c k w = (container_rules k).taken c w

-- a container is open that was not asked yet, and its prefix is here
pub record ContinuesAtOnce (w : World) : Type 0 where
  pub held : Container
  pub next : next_container w.flags ≡ Some held
  pub prefix : HasPrefix held held.kind w

-- it is asked
abbrev pub asking_by : Option Container → World → World
asking_by None w = w
asking_by (Some c) w = asking c w

abbrev pub asking_next : World → World
asking_next w = asking_by (next_container w.flags) w

-- Lines that open nothing.

-- what is here is no whitespace and does not end the line, and no container may open with it
abbrev pub opens_none : Option ℕ → Bool
opens_none None = false
opens_none (Some b) = not (is_white b || b == 10 || list_any (λ k. may_open k b) openers)

-- whether one look shows that the rest of a line is content, where the line meets this leaf: what is here is no
-- whitespace and does not end the line, and only a table may begin with it, which does not
abbrev pub content_alone : HeldLeaf → Option ℕ → Bool
content_alone on None = false
content_alone on (Some b) = not (is_white b || b == 10) && is_common b && not ((leaf GfmTable).may_begin on false b)

-- containers of these kinds were asked one after another whether they open
abbrev pub all_asked : List ContainerKind → World → World
all_asked [] w = w
all_asked (k ∷ ks) w = all_asked ks (asking (container_of k) w)

-- and none opened, so that the leaf of the line follows
abbrev pub openers_passed : World → World
openers_passed w = let v = all_asked openers w in record v { flags = begun_line v.flags }
