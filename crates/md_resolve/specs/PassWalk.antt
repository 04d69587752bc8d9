-- Where one pass is, and what it gives in all.
use Rattle.std.specs.Prelude.{ℕ, List, ◌++◌, reverse}
use Rattle.md_engine.specs.declared.event.Event.{Event}
use Rattle.md_containers.specs.Listed.{Place}
use Rattle.md_order.specs.Left.{Situation, left_in}
use Rattle.md_order.specs.declared.wanted.Wanted.{Wanted}
use Rattle.md_events.specs.Rewritten.{given_of as given_by, left_of}
use Rattle.md_resolve.specs.declared.pass.Walk.{Walk}

abbrev pub items_of : Walk → Place
items_of w = record { within = w.items.within; markers = reverse w.items.markers.items }

abbrev pub situation_of : Walk → Situation
situation_of w = record { items = items_of w; on = w.on }

-- what is given so far, and what is left
abbrev pub given_of : Walk → List Event
given_of w = given_by w.all

abbrev pub rest_of : Walk → List Event
rest_of w = left_of w.all

abbrev pub whole_of : Wanted → List ℕ → Walk → List Event
whole_of wanted bytes w = given_of w ++ left_in wanted bytes (situation_of w) (rest_of w)
