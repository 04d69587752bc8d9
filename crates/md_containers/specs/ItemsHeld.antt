-- Where items may begin, by the names that are open: directly in a block, or outside of all.
use Rattle.std.specs.Prelude.{◌≡◌, true, List, [], ◌∷◌}
use Rattle.md_engine.specs.declared.event.Event.{Event}
use Rattle.md_engine.specs.declared.event.Name.{Name}
use Rattle.md_containers.specs.Listed.{Begins, Ends, Stays, Turn, turn}
use Rattle.md_events.specs.Events.Blocks.{is_block}
use Rattle.md_events.specs.Events.Nested.{open_following}
use Rattle.md_events.specs.Events.Spelled.{role}

-- whether what is innermost is a block, if anything is open
abbrev pub HoldsItems : List Name → Type 0
HoldsItems [] = Unit {0}
HoldsItems (name ∷ names) = is_block (role name) ≡ true

abbrev pub IsHeld : Turn → List Name → Type 0
IsHeld Begins names = HoldsItems names
IsHeld Ends names = Unit {0}
IsHeld Stays names = Unit {0}

abbrev pub ItemsHeld : List Name → List Event → Type 0
ItemsHeld names [] = Unit {0}
ItemsHeld names (e ∷ es) =
    IsHeld (turn e.kind (role e.name)) names × ItemsHeld (open_following names e.kind e.name) es
