-- The laws of a prefix on a further line that is taken at once: what the frame asks of each container (`plain` and
-- `taken` of `ContainerRules`).
use Rattle.std.proofs.Common.{◌≡◌, ◌<◌, Bool, true, false}
use Rattle.md_engine.specs.declared.state.Name.TheVariants as n
use Rattle.md_engine.specs.declared.state.document.State.TheVariants as document
use Rattle.md_engine.specs.declared.state.State.{State}
use Rattle.md_engine.specs.declared.state.State.TheVariants.{Next}
use Rattle.md_engine.specs.declared.tokenizer.container.Container.{Container}
use Rattle.md_engine.specs.Scheme.{cells_left}
use Rattle.md_engine.specs.World.{World, looks}
use Rattle.md_engine.proofs.Loops.{ArrivedAt}
use Rattle.md_engine.proofs.Walks.{Within}
use Rattle.md_events.specs.Look.{looks_after, may_with}
use Rattle.md_events.specs.Spaces.{ends_line}
use Rattle.md_events.specs.Transition.{tried}
use Rattle.proof_frame.specs.ContainerRules.{ContainerRules}
use Rattle.md_registry.specs.LineFlags.{asking}
use Rattle.md_registry.specs.Registry.{opener_front, openers}
use Rattle.md_registry.specs.States.{FlowStep}

-- the states where one that is tried continues, and where it does not
abbrev pub after-it : State
after-it = Next (n.Document document.ContainerExistingAfter)

abbrev pub others : State
others = Next (n.Document (opener_front openers))

-- After it something may be read, and is seen, and less is left.
pub record TookPrefix (w u : World) : Type 0 where
  pub seen : u.current ≡ looks u
  pub inside : u.point.index < u.setting.limit
  pub less : cells_left u.setting.limit u.point < cells_left w.setting.limit w.point

pub record PlainLaws (rules : ContainerRules) : Type 1 where
  -- what is here does not depend on who is asked
  pub asked : (w : World) (c d : Container) → rules.plain c w → rules.plain c (asking d w)
  -- where it is the container may continue, and the line does not end
  pub may : (w : World) (c : Container) → rules.plain c w → w.current ≡ looks w →
      may_with rules.may_continue (looks_after w) ≡ true
  pub not_end : (w : World) (c : Container) → rules.plain c w → w.current ≡ looks w → ends_line w.current ≡ false
  pub took : (w : World) (c : Container) → rules.plain c w → TookPrefix w (rules.taken c w)
  -- an attempt at the prefix takes it
  pub runs : (is_end : Bool) (s : State) (v a : World) (c : Container) →
      ArrivedAt FlowStep is_end s v rules.further (tried a after-it others) → a.current ≡ looks a → Within a →
      rules.plain c a → a.flags.asked ≡ c →
      ArrivedAt FlowStep is_end s v (n.Document document.ContainerExistingAfter) (rules.taken c a)
