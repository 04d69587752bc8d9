-- Parts that are read after the events around them are.
use Rattle.std.specs.Prelude.{ℕ, ◌<◌, List, length}
use Rattle.std.specs.List.{All}
use Rattle.md_engine.specs.declared.event.Event.{Event}
use Rattle.md_engine.specs.Place.{IsPlaced}
use Rattle.md_events.specs.declared.inline.Chunk.{Chunk}

-- all events are at places of the text
abbrev pub ArePlaced : List ℕ → List Event → Type 0
ArePlaced bytes events = All (λ (e : Event). IsPlaced bytes e.point) events

-- a chunk begins and ends at places of the text
pub record IsChunk (bytes : List ℕ) (chunk : Chunk) : Type 0 where
  pub first : IsPlaced bytes chunk.first
  pub after : IsPlaced bytes chunk.after

-- what is read as one: chunks of the text, at least one
pub record AreChunks (bytes : List ℕ) (chunks : List Chunk) : Type 0 where
  pub some : 0 < length chunks
  pub each : All (IsChunk bytes) chunks
