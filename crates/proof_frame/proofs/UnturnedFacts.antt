-- Events of no text, and of no line that turns a text: the walk that turns texts gives them as they are.
use Rattle.std.proofs.Common.{◌≡◌, true, List}
use Rattle.md_engine.specs.declared.event.Event.{Event}
use Rattle.md_leaves.specs.Turned.{passes}
use Rattle.proof_frame.proofs.EventNames.{front-unturned}
use Rattle.proof_frame.proofs.EachEvent.{Each, each-as}
use Rattle.proof_frame.proofs.PrefixNames.{AreFront, IsFrontEvent}

abbrev pub IsUnturned : Event → Type 0
IsUnturned e = passes e ≡ true

abbrev pub AreUnturned : List Event → Type 0
AreUnturned es = Each IsUnturned es

-- prefixes and containers are such
pub fronts-unturned : (es : List Event) → AreFront es → AreUnturned es
fronts-unturned es h = each-as IsFrontEvent IsUnturned (λ e is. front-unturned e.name is.0) es h
