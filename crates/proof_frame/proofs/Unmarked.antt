-- Events none of which gives a quote a kind: those of an inline layer, and endings of lines.
use Rattle.std.proofs.Common.{ℕ, List, [], ◌∷◌}
use Rattle.md_engine.specs.declared.event.Event.{Event}
use Rattle.md_engine.specs.declared.event.Kind.{Kind}
use Rattle.md_engine.specs.declared.event.Kind.TheVariants.{Enter, Exit}
use Rattle.md_engine.specs.declared.event.Point.{Point}
use Rattle.md_events.specs.Events.Spelled.{IsEnding, IsQuiet, Role, role}
use Rattle.md_events.proofs.SpelledLemmas.{Between, IsUnmarked, QuietOrEnding, Roles, Unmarked}

one-unmarked : (bytes : List ℕ) (kind : Kind) (x : Role) (p : Point) → QuietOrEnding x → IsUnmarked bytes kind x p
one-unmarked bytes Enter IsQuiet p h = tt
one-unmarked bytes Enter IsEnding p h = tt
one-unmarked bytes Enter _ p h = absurd h
one-unmarked bytes Exit x p h = tt

pub inline-unmarked : (bytes : List ℕ) (es : List Event) → Roles QuietOrEnding es → Unmarked bytes es
inline-unmarked bytes [] h = tt
inline-unmarked bytes (e ∷ es) h =
    (one-unmarked bytes e.kind (role e.name) e.point h.0, inline-unmarked bytes es h.1)

-- such an event may be between blocks
pub inline-between : (x : Role) → QuietOrEnding x → Between x
inline-between IsQuiet h = tt
inline-between IsEnding h = tt
inline-between _ h = absurd h
