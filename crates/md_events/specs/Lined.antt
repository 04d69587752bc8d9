-- Parts that are read as the plain layer reads them: each chunk is a line, and has its own events.
use Rattle.std.specs.Prelude.{◌≡◌, ℕ, Bool, true, false, IsTrue, List, [], ◌∷◌, ◌++◌, Some, None}
use Rattle.std.specs.List.{All}
use Rattle.md_engine.specs.declared.event.Content.{Content}
use Rattle.md_engine.specs.declared.event.Event.{Event}
use Rattle.md_engine.specs.declared.event.Point.{Point}
use Rattle.md_events.specs.declared.inline.Chunk.{Chunk}
use Rattle.md_events.specs.Events.Inline.{ends_whole, in_order, is_line, plain_chunk, plain_chunks, together}
use Rattle.md_events.specs.Parts.{ArePlaced, IsChunk}
use Rattle.md_events.specs.Substituted.{Asked, Readings, chunk_of, stays, wanted}

-- A chunk that is a line of the text, with its ending or not.
pub record IsLine (bytes : List ℕ) (chunk : Chunk) : Type 0 where
  pub is : IsChunk bytes chunk
  pub line : IsTrue (is_line bytes chunk)
  pub whole : IsTrue (ends_whole chunk)
  -- its events are at points of the text
  pub placed : ArePlaced bytes (plain_chunk bytes chunk)

-- Lines of the text, one after the other.
pub record AreLines (bytes : List ℕ) (chunks : List Chunk) : Type 0 where
  pub each : All (IsLine bytes) chunks
  pub from : Point
  pub order : in_order from chunks ≡ true

-- each part that a reader may be asked for has lines, and what the plain layer gives for them may be read
abbrev pub ReadsLines : List ℕ → Asked → Readings → Type 0
ReadsLines bytes asked reads =
    (content : Content) (chunks : List Chunk) → asked content chunks →
    AreLines bytes chunks × reads content chunks (together (plain_chunks bytes chunks))

-- a chunk begins with the first of some events, and is wanted
abbrev pub BeginsWith : (Content → Bool) → Chunk → List Event → Type 0
BeginsWith wants chunk [] = ⊥
BeginsWith wants chunk (e ∷ []) = ⊥
BeginsWith wants chunk (e ∷ f ∷ es) = (chunk ≡ chunk_of e f) × (stays wants e ≡ false)

-- some events, with what the plain layer gives in the places of the chunks that are wanted
abbrev pub lined : (Content → Bool) → List ℕ → List Event → List Event
lined wants bytes [] = []
lined wants bytes (e ∷ []) = e ∷ []
lined wants bytes (e ∷ f ∷ es) = elim (wanted wants e) [
  | None ↦ e ∷ lined wants bytes (f ∷ es)
  | Some _ ↦ plain_chunk bytes (chunk_of e f) ++ lined wants bytes es
]

-- each of these chunks is a line
abbrev pub EachLine : (Content → Bool) → List ℕ → List Event → Type 0
EachLine wants bytes [] = Unit {0}
EachLine wants bytes (e ∷ []) = Unit {0}
EachLine wants bytes (e ∷ f ∷ es) = elim (wanted wants e) [
  | None ↦ EachLine wants bytes (f ∷ es)
  | Some _ ↦ IsLine bytes (chunk_of e f) × EachLine wants bytes es
]
