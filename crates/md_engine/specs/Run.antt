-- What the loop that goes from state to state becomes.
use Rattle.std.specs.Prelude.{◌≡◌, ◌≢◌, ◌<◌, ◌≤◌, ◌⊎◌, Bool, true, false, List, [], ◌∷◌, ◌++◌, Option, length, take}
use Rattle.std.specs.Prelude.{if◌then◌else◌}
use Rattle.std.specs.List.{All}
use Rattle.md_engine.specs.declared.resolve.name.Name.{Name as ResolveName}
use Rattle.md_engine.specs.declared.state.Name.{Name as StateName}
use Rattle.md_engine.specs.declared.state.State.{State}
use Rattle.md_engine.specs.declared.state.State.TheVariants.{Error, Ok, Nok, Next, Retry}
use Rattle.md_engine.specs.declared.tokenizer.Frame.{Frame}
use Rattle.md_engine.specs.Found.{Found, nothing, with_found}
use Rattle.md_engine.specs.World.{World, looks}

-- what a call of a state may do: the state that it answers, and what the tokenizer is then
abbrev pub Step : Type 1
Step = StateName → World → State → World → Type 0

-- what a resolver may do
abbrev pub Resolution : Type 1
Resolution = ResolveName → World → Option Found → World → Type 0

-- a state without the choice between taking what is here and staying at it, which no meaning needs
abbrev pub plain : State → State
plain (Retry name) = Next name
plain Error = Error
plain Ok = Ok
plain Nok = Nok
plain (Next name) = Next name

-- a state that stays at what is here has gone nowhere, and still sees it
abbrev pub Remains : State → World → World → Type 0
Remains (Retry name) w w' = (w'.point ≡ w.point) × (w'.current ≡ w.current)
Remains _ w w' = Unit {0}

abbrev pub IsEnd : State → Type 0
IsEnd Ok = Unit {0}
IsEnd Nok = Unit {0}
IsEnd _ = ⊥

-- a tokenizer that has seen what is at its point
abbrev pub reading : World → World
reading w = record w { current = looks w }

-- the world after an attempt is left, and whether it goes back to what it saved
abbrev pub left : World → List Frame → Frame → Bool → World
left w outer f back =
    if back then record w { frames = outer; events = take f.events_len w.events; point = f.point }
    else record w { frames = outer }

abbrev pub leads_back : Frame → State → Bool
leads_back f Ok = f.is_check
leads_back f _ = true

abbrev pub next_of : Frame → State → State
next_of f Ok = f.ok
next_of f _ = f.nok

-- the innermost attempt is left
pub record Leaves (s : State) (w : World) (s' : State) (w' : World) : Type 0 where
  pub outer : List Frame
  pub frame : Frame
  pub end : IsEnd s
  pub frames : w.frames ≡ frame ∷ outer
  pub next : s' ≡ next_of frame s
  pub new : w' ≡ left w outer frame (leads_back frame s)
  -- the attempts around it go back to no more events
  pub below : All (λ g. g.events_len ≤ frame.events_len) outer

-- a state is called, at what is at the point or at the end
pub record Calls (T : Step) (is_end : Bool) (s : State) (w : World) (s' : State) (w' : World) : Type 0 where
  pub name : StateName
  pub names : plain s ≡ Next name
  pub may : (is_end ≡ true) ⊎ (w.point.index < w.setting.limit)
  pub step : T name (reading w) s' w'
  pub fine : s' ≢ Error
  pub setting : w'.setting ≡ w.setting
  -- all attempts go back to events that are there
  pub within : All (λ f. f.events_len ≤ length w.events) w.frames

-- what one reaches, from a state and a world, by leaving attempts and calling states
pub data Runs (T : Step) (is_end : Bool) (s : State) (w : World) : State → World → Type 0 where
  Stays : Runs T is_end s w s w
  ThenLeaves : (t : State) (v : World) (t' : State) (v' : World) → Runs T is_end s w t v → Leaves t v t' v' →
      Runs T is_end s w t' v'
  ThenCalls : (t : State) (v : World) (t' : State) (v' : World) → Runs T is_end s w t v → Calls T is_end t v t' v' →
      Runs T is_end s w t' v'

-- what one reaches from a state of this name, which may be called and has seen what is here
abbrev pub RunsFrom : Step → Bool → StateName → World → State → World → Type 0
RunsFrom T is_end name w s' w' =
    (s : State) (v : World) → plain s ≡ Next name → reading v ≡ w →
    (is_end ≡ true) ⊎ (v.point.index < v.setting.limit) → Runs T is_end s v s' w'

-- the same, at the end or before
abbrev pub RunsHere : Step → StateName → World → State → World → Type 0
RunsHere T name w s' w' = (is_end : Bool) → RunsFrom T is_end name w s' w'

-- a state that takes what comes next waits for it
abbrev pub IsWaiting : Bool → State → World → Type 0
IsWaiting is_end (Next name) w = (is_end ≡ false) × (w.setting.limit ≤ w.point.index)
IsWaiting is_end _ w = Unit {0}

-- the loop ends where a state waits for more of the text, or where the construct has ended and no attempt is left
abbrev pub IsStopped : Bool → State → World → Type 0
IsStopped is_end Ok w = w.frames ≡ []
IsStopped is_end Nok w = w.frames ≡ []
IsStopped is_end Error w = Unit {0}
IsStopped is_end (Next name) w = (is_end ≡ false) × (w.setting.limit ≤ w.point.index)
IsStopped is_end (Retry name) w = (is_end ≡ false) × (w.setting.limit ≤ w.point.index)

-- resolvers that ran in order, with what they found
pub data Resolved (R : Resolution) (w : World) : List ResolveName → Found → World → Type 0 where
  NoneYet : Resolved R w [] nothing w
  More : (names : List ResolveName) (name : ResolveName) (found : Found) (more : Option Found) (v v' : World) →
      Resolved R w names found v → R name v more v' → Resolved R w (names ++ name ∷ []) (with_found found more) v'

-- all that were registered ran, or none did
abbrev pub ResolvedIf : Resolution → Bool → World → Found → World → Type 0
ResolvedIf R true at found new = Resolved R (record at { resolvers = [] }) at.resolvers found new
ResolvedIf R false at found new = (new ≡ at) × (found ≡ nothing)

-- the end was fed, and the resolvers ran if asked
pub record Flushes (T : Step) (R : Resolution) (from : State) (old : World) (resolve : Bool) (found : Found)
    (new : World) : Type 0 where
  pub end : State
  pub at : World
  pub runs : Runs T true from old end at
  pub ends : IsEnd end
  pub none_left : at.frames ≡ []
  pub resolved : ResolvedIf R resolve at found new
