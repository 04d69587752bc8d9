-- What the steps of a table mean where the table is called.
use Rattle.std.specs.Prelude.{◌≡◌, ◌<◌, ◌⊎◌, Bool, true}
use Rattle.md_engine.specs.declared.state.Name.{Name as StateName}
use Rattle.md_engine.specs.declared.state.State.{State}
use Rattle.md_engine.specs.declared.state.State.TheVariants.{Next}
use Rattle.md_engine.specs.Meaning.{Behaviour, Feed, Follows, Steps}
use Rattle.md_engine.specs.Run.{Step, plain, reading}
use Rattle.md_engine.specs.Scheme.{Scheme, valid}
use Rattle.md_engine.specs.World.{Setting, World}

-- a call is at what is at the point or at the end, in this setting, and the tokenizer is at the state
pub record IsCalled (S : Scheme) (under : Setting) (is_end : Bool) (name : StateName) (w : World) : Type 0 where
  pub may : (is_end ≡ true) ⊎ (w.point.index < w.setting.limit)
  pub setting : w.setting ≡ under
  pub valid : valid S w (Next name)

-- the steps of such calls are steps of a behaviour, in each feed that follows the text
abbrev pub MeansAt : Step → Scheme → Setting → Behaviour → Bool → Type 0
MeansAt T S under B is_end =
    (feed : Feed) (name : StateName) (w : World) (to : State) (new : World) → Follows feed w.setting is_end →
    IsCalled S under is_end name w →
    T name (reading w) to new → Steps B feed (Next name) (reading w) to new

-- where the tokenizer is at a state, a step reaches where it is
abbrev pub KeepsValid : Step → Scheme → Type 0
KeepsValid T S =
    (name : StateName) (w : World) (to : State) (new : World) → valid S w (Next name) → T name (reading w) to new →
    valid S new (plain to)
