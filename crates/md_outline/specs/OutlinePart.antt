-- The outline of the first blocks of a list of events.
use Rattle.std.specs.Prelude.{◌≡◌, ℕ, ◌<◌, ◌≤◌, List, [], ◌++◌, drop, length, take}
use Rattle.md_engine.specs.declared.event.Event.{Event}
use Rattle.md_meaning.specs.declared.outline.OutlineLine.{OutlineLine}
use Rattle.md_meaning.specs.Outline.{entries_of, outline}
use Rattle.md_events.specs.Events.Nested.{Balanced, open_after}
use Rattle.md_events.specs.Events.Spelled.{spelled}
use Rattle.md_outline.specs.Outlined.{IsOutlined}

-- lines before the outline of some events are the outline of all events, and an outline can show those, too
pub record Begins (events rest : List Event) (bytes : List ℕ) (lines : List OutlineLine) : Type 0 where
  pub outlined : IsOutlined rest bytes
  pub joined : entries_of lines ++ outline 0 (spelled rest bytes) ≡ outline 0 (spelled events bytes)

-- A part of an outline is of so many events at least, if there are so many: its lines need little memory beside the
-- events, and there are few parts.
abbrev pub least_events : ℕ
least_events = 4096

-- of nested events no part is open after the first of them, so many: these are whole blocks, and what is between them
abbrev pub IsWhole : List Event → ℕ → Type 0
IsWhole events count = Balanced events → open_after [] (take count events) ≡ []

-- fewer of them, but as many as a part has at least, are not whole blocks
abbrev pub IsFewest : List Event → ℕ → Type 0
IsFewest events count =
    Balanced events → (k : ℕ) → least_events ≤ k → k < count → open_after [] (take k events) ≡ [] → ⊥

-- the lines are the outline of the blocks that the first events spell out, so many
pub record OutlinesPart (events : List Event) (bytes : List ℕ) (lines : List OutlineLine) (count : ℕ) : Type 0 where
  pub within : count ≤ length events
  -- some events are left out of what is to come, so an outline by parts ends
  pub shorter : 0 < length events → 0 < count
  -- and these are whole blocks, no more than it takes
  pub whole : IsWhole events count
  pub fewest : IsFewest events count
  pub begins : IsOutlined events bytes → Begins events (drop count events) bytes lines
