-- Events among which no part of some names begins.
--
-- A resolver of leaves on one line asks for the begins of the parts that it rewrites.
use Rattle.std.proofs.Common.{◌≡◌, false, ◌&&◌, List, ◌++◌}
use Rattle.md_engine.specs.declared.event.Event.{Event}
use Rattle.md_events.specs.Events.Nested.{is_enter}
use Rattle.proof_frame.proofs.EventNames.{is_own}
use Rattle.proof_frame.proofs.EachEvent.{Each, each-append}

-- no part begins with it that a resolver rewrites
abbrev pub IsOutside : Event → Type 0
IsOutside e = (is_enter e.kind && is_own e.name) ≡ false

abbrev pub AreOutside : List Event → Type 0
AreOutside es = Each IsOutside es

pub outside-append : (xs ys : List Event) → AreOutside xs → AreOutside ys → AreOutside (xs ++ ys)
outside-append xs ys h k = each-append IsOutside xs ys h k

-- The interface of such a resolver: what it makes of events, and that it passes these.
pub record LineResolver : Type 0 where
  pub resolved : List Event → List Event
  pub passes : (xs ys : List Event) → AreOutside xs → resolved (xs ++ ys) ≡ xs ++ resolved ys
