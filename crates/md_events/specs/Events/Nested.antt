-- Lists of events as brackets, and the order of their points.
use Rattle.std.specs.Prelude.{◌≡◌, IsTrue, List, [], ◌∷◌, ◌++◌, Some, None, Bool, true, false}
use Rattle.md_engine.specs.declared.event.Point.{Point}
use Rattle.md_engine.specs.declared.event.Event.{Event}
use Rattle.md_engine.specs.declared.event.Kind.{Kind}
use Rattle.md_engine.specs.declared.event.Kind.TheVariants.{Enter, Exit}
use Rattle.md_engine.specs.declared.event.Link.{Link}
use Rattle.md_engine.specs.declared.event.Name.{Name}
use Rattle.md_events.specs.Events.Places.{first_point, at_or_before}

-- the begin and the end of a part
abbrev pub enter : Name → Point → Event
enter name p = record { kind = Enter; name = name; point = p; link = None }

abbrev pub exit : Name → Point → Event
exit name p = record { kind = Exit; name = name; point = p; link = None }

-- the begin of a part that is read later
abbrev pub enter_link : Name → Point → Link → Event
enter_link name p link = record { kind = Enter; name = name; point = p; link = Some link }

-- a part with nothing inside, and a part around events
abbrev pub pair : Name → Point → Point → List Event
pair name p q = enter name p ∷ exit name q ∷ []

abbrev pub around : Name → Point → Point → List Event → List Event
around name p q inside = enter name p ∷ inside ++ exit name q ∷ []

-- whether a part begins or ends
abbrev pub is_enter : Kind → Bool
is_enter Enter = true
is_enter Exit = false

abbrev pub is_exit : Kind → Bool
is_exit Exit = true
is_exit Enter = false

-- the names that are open after an event, the innermost first
abbrev pub open_following : List Name → Kind → Name → List Name
open_following names Enter name = name ∷ names
open_following [] Exit name = []
open_following (innermost ∷ names) Exit name = names

abbrev pub open_after : List Name → List Event → List Name
open_after names [] = names
open_after names (e ∷ es) = open_after (open_following names e.kind e.name) es

-- an exit has the name of what is open
abbrev pub Fits : List Name → Kind → Name → Type 0
Fits names Enter name = Unit {0}
Fits [] Exit name = ⊥
Fits (innermost ∷ names) Exit name = innermost ≡ name

-- each exit closes the innermost part that is open
abbrev pub Matches : List Name → List Event → Type 0
Matches names [] = Unit {0}
Matches names (e ∷ es) = Fits names e.kind e.name × Matches (open_following names e.kind e.name) es

-- from a point on, the points never go back
abbrev pub Forward : Point → List Event → Type 0
Forward p [] = Unit {0}
Forward p (e ∷ es) = IsTrue (at_or_before p e.point) × Forward e.point es

-- the last point of some events, and this one of none
abbrev pub last_point : Point → List Event → Point
last_point p [] = p
last_point p (e ∷ es) = last_point e.point es

-- Brackets: each exit closes what was entered last, and nothing stays open.
pub record Balanced (events : List Event) : Type 0 where
  pub matches : Matches [] events
  pub closed : open_after [] events ≡ []

-- Enters and exits match by name like brackets, and the points never go back.
pub record Nested (events : List Event) : Type 0 where
  pub balanced : Balanced events
  pub forward : Forward first_point events
