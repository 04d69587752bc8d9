-- What is left of a line of content at each state, before it is read.
use Rattle.std.specs.Prelude.{◌≡◌, ℕ, List, [], ◌∷◌, ◌++◌}
use Rattle.md_engine.specs.declared.event.Name.TheVariants as parts
use Rattle.md_engine.specs.declared.state.Name.TheVariants as n
use Rattle.md_engine.specs.declared.state.content.State.{State as ContentState}
use Rattle.md_engine.specs.declared.state.content.State.TheVariants as its
use Rattle.md_engine.specs.declared.state.State.{State}
use Rattle.md_engine.specs.Meaning.{Accepts, Behaviour, Cell, Here, Outcome, Refuses}
use Rattle.md_engine.specs.Scheme.{position}
use Rattle.md_engine.specs.Sees.{IsStep}
use Rattle.md_engine.specs.World.{World}
use Rattle.md_content.specs.Chunks.{ChunkInvariant, content_link, rest_taken, unbegun, chunk_transition}
use Rattle.md_meaning.specs.Rest.{Rest}
use Rattle.md_link_definitions.specs.OpenText.{text_following}
use Rattle.md_link_definitions.specs.WholeCells.{rest_here, whole_line}
use Rattle.md_events.specs.Ahead.{from_ending, line_end}
use Rattle.md_events.specs.Events.Nested.{enter_link, exit}
use Rattle.md_events.specs.States.{IsState}
use Rattle.md_engine.specs.declared.tokenizer.Tokenizer.{Tokenizer}
use Rattle.md_engine.specs.Full.{IsFullOf}
use Rattle.md_engine.specs.Full.Grown.{Events, Frames, Resolvers}

-- a rest with these bytes after it
abbrev pub longer : Rest → List ℕ → Rest
longer r bytes = record r { bytes = r.bytes ++ bytes }

-- the rest of a line, after this much of it; a text is open then, which is said all of the line
unfoldable pub inside_chunk : Rest → List Cell → Here → Outcome
inside_chunk front cells h =
    let p = line_end cells h.point in
    Accepts
    (record h {
      events = h.events ++ exit parts.Content p ∷ [];
      point = p;
      flags = record h.flags { leaf = text_following h.flags.leaf (longer front (whole_line h.point cells)) };
    })
    (from_ending cells)

-- the whole line
unfoldable pub chunk_at : List Cell → Here → Outcome
chunk_at cells h =
    inside_chunk (rest_here h.point []) cells
    (record h { events = h.events ++ enter_link parts.Content h.point content_link ∷ [] })

-- what is left at each state, by the text of which the line is a part
abbrev pub chunk_behaves : List ℕ → ContentState → List Cell → Here → Outcome
chunk_behaves bytes its.ChunkStart cells h = chunk_at cells h
chunk_behaves bytes its.ChunkInside cells h =
    inside_chunk (rest_taken bytes h.scratch h.point) cells (record h { scratch = unbegun h.scratch })
chunk_behaves bytes _ cells h = Refuses h.scratch h.flags

pub record HasChunk (B : Behaviour) (bytes : List ℕ) : Type 0 where
  pub each : (state : ContentState) (cells : List Cell) (h : Here) →
      B (n.Content state) cells h ≡ chunk_behaves bytes state cells h

-- what a state of a line of content means: where what it needs holds, its call is one step of the rule
unfoldable pub ChunkMeans : ContentState → World → State → World → Type 0
ChunkMeans state old to new =
    ChunkInvariant (n.Content state) (position old) →
    IsStep (λ B. HasChunk B old.setting.bytes) (n.Content state) to old new

-- what a state of a line of content promises
abbrev pub IsChunkState : ContentState → World → State → Tokenizer → Type 0
IsChunkState state old answer new =
    IsState (chunk_transition state old) (ChunkMeans state old)
    (IsFullOf (Resolvers ∷ Events ∷ Frames ∷ []) new) answer new
