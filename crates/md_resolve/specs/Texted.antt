-- The text of an ATX heading in the places of the events that it is made of.
use Rattle.std.specs.Prelude.{◌≡◌, ◌-◌, ◌<◌, ◌≤◌, ℕ, zero, suc, false, true, List, [], ◌∷◌, ◌++◌, Option, Some, None}
use Rattle.std.specs.Prelude.{drop, get_or, length}
use Rattle.std.specs.List.{All}
use Rattle.md_engine.specs.declared.event.Event.{Event}
use Rattle.md_engine.specs.declared.event.Point.{Point}
use Rattle.md_leaves.specs.HeadingText.{Within, ends, is_heading, is_run, resolved, text_between}

-- whether no heading ends with an event
abbrev pub IsInside : Event → Type 0
IsInside e = ends is_heading e ≡ false

-- what is given from the first run after the opening sequence on
abbrev pub begun : List Event → List Event
begun [] = []
begun (e ∷ es) = resolved (Within e.point None None [] []) (e ∷ es)

-- the point of the last of so many events, if there is one
abbrev pub point_at : ℕ → List Event → Option Point
point_at n [] = None
point_at zero (e ∷ es) = Some e.point
point_at (suc n) (e ∷ es) = point_at n es

abbrev pub last_point : ℕ → List Event → Option Point
last_point zero es = None
last_point (suc n) es = point_at n es

-- the text, from a point on, in the place of so many events
abbrev pub texted : Point → ℕ → List Event → List Event
texted first n es = text_between first (last_point n es) ++ drop n es

-- so many events are there up to the end of the last run
pub record IsLastRun (n : ℕ) (es : List Event) : Type 0 where
  pub within : n ≤ length es
  pub is_end : 0 < n → (d : Event) → ends is_run (get_or es (n - 1) d) ≡ true
  pub following : All (λ e. ends is_run e ≡ false) (drop n es)
