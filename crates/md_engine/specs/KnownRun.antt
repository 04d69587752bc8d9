-- Runs of one marker and whitespace.
use Rattle.std.specs.Prelude.{◌≡◌, ℕ, ◌<◌, ◌≤◌, Bool, true, false, ◌||◌, ◌==◌, List, slice_index}
use Rattle.md_engine.specs.Classes.{is_white}
use Rattle.md_engine.specs.declared.known_run.KnownRun.{KnownRun}

-- whether a run of a marker and whitespace continues with a byte
abbrev pub is_of_run : ℕ → ℕ → Bool
is_of_run marker b = (b == marker) || is_white b

-- it continues with each byte from an index up to another
abbrev pub AreOfRun : List ℕ → ℕ → ℕ → ℕ → Type 0
AreOfRun bytes marker from end = (k : ℕ) → from ≤ k → k < end → is_of_run marker (slice_index bytes k) ≡ true

-- what is kept of a run is right of the bytes
abbrev pub IsKnownRun : List ℕ → KnownRun → Type 0
IsKnownRun bytes s = AreOfRun bytes s.marker s.from s.end

-- the run from an index on goes up to another: it ends there, or the text may be read no further
pub record EndsRun (bytes : List ℕ) (marker from limit n : ℕ) : Type 0 where
  pub following : from ≤ n
  pub each : AreOfRun bytes marker from n
  pub ends : n < limit → is_of_run marker (slice_index bytes n) ≡ false
