-- Open containers that continue over an empty line.
use Rattle.std.specs.Prelude.{◌≡◌, ℕ, ◌<◌, ◌≤◌, Bool, true, false, List, length, get_or}
use Rattle.md_engine.specs.declared.tokenizer.container.Container.{Container}
use Rattle.md_engine.specs.declared.known_continuing.KnownContinuing.{KnownContinuing}
use Rattle.md_engine.specs.ContainerName.{kind_continues_over}

-- whether an open container does, by its kind
abbrev pub continues_over_empty : Container → Bool
continues_over_empty c = kind_continues_over c.kind c.starts_blank

-- each container from an index up to another does
abbrev pub AreContinuing : List Container → ℕ → ℕ → Type 0
AreContinuing cs from to = (k : ℕ) (d : Container) → from ≤ k → k < to → continues_over_empty (get_or cs k d) ≡ true

-- what is kept of open containers is right of them
pub record IsKnownContinuing (cs : List Container) (o : KnownContinuing) : Type 0 where
  pub within : o.to ≤ length cs
  pub each : AreContinuing cs o.from o.to

-- the containers from an index on continue over an empty line up to another, and the one there does not
pub record EndsContinuing (cs : List Container) (from n : ℕ) : Type 0 where
  pub following : from ≤ n
  pub within : n ≤ length cs
  pub each : AreContinuing cs from n
  pub ends : (d : Container) → n < length cs → continues_over_empty (get_or cs n d) ≡ false
