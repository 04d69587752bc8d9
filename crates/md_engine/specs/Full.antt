-- Why a primitive, and so a state, answers want of memory: a list of the tokenizer is full.
use Rattle.std.specs.Prelude.{◌≤◌, ◌⊎◌, List, [], ◌∷◌}
use Rattle.std.specs.Vec.{vec_capacity, vec_len}
use Rattle.md_engine.specs.declared.state.State.{State}
use Rattle.md_engine.specs.declared.state.State.TheVariants.{Error}
use Rattle.md_engine.specs.declared.tokenizer.Tokenizer.{Tokenizer}

-- the lists that a tokenizer grows
pub data Grown : Type 0 where
  Events : Grown
  Frames : Grown
  Skips : Grown
  Resolvers : Grown
  Containers : Grown

-- this list has no room for one more
unfoldable pub IsFullList : Grown → Tokenizer → Type 0
IsFullList Events t = vec_capacity t.events ≤ vec_len t.events
IsFullList Frames t = vec_capacity t.frames ≤ vec_len t.frames
IsFullList Skips t = vec_capacity t.skips ≤ vec_len t.skips
IsFullList Resolvers t = vec_capacity t.resolvers ≤ vec_len t.resolvers
IsFullList Containers t = vec_capacity t.containers ≤ vec_len t.containers

-- one of these lists has none
abbrev pub IsFullOf : List Grown → Tokenizer → Type 0
IsFullOf [] t = ⊥
IsFullOf (l ∷ ls) t = IsFullList l t ⊎ IsFullOf ls t

-- one of the lists has none that most states grow: events, and attempts
abbrev pub IsFull : Tokenizer → Type 0
IsFull t = IsFullOf (Events ∷ Frames ∷ []) t

-- what is known where a state answers want of memory
abbrev pub OnError : State → Type 0 → Type 0
OnError Error X = X
OnError _ X = Unit {0}
