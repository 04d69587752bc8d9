use Rattle.std.proofs.Common.{◌≡◌, ◌⊎◌, ◌++◌, [], ◌∷◌, length}
use Rattle.std.specs.List.{All}
use Rattle.md_engine.specs.declared.event.Name.TheVariants as n
use Rattle.md_events.specs.declared.inline.Chunk.{Chunk}
use Rattle.md_events.specs.Events.Inline.{together}
use Rattle.md_inline_events.specs.Cursor.{token_marks}
use Rattle.md_inline_events.specs.Room.{IsStretch}
use Rattle.md_inline_events.specs.SidesOf.{cursor_marks}
use Rattle.md_inline_events.specs.Woven.{chunks_events}
use Rattle.md_inline_events.proofs.writer.push_chunks.Given as goal

abbrev pub invariant-loop-chunk : goal.invariant-loop-chunk
invariant-loop-chunk l = record {
  events :
      l.events.items
      ++ together
      (chunks_events l.bytes l.starts l.leaves_out l.rest (cursor_marks l.cursor) l.cursor.name) ≡
      l.initial.events.items
      ++ together (chunks_events l.bytes l.leaves_out l.leaves_out l.chunks (token_marks [] l.tokens) n.Data);
  each : All (IsStretch l.bytes) l.rest;
  alone : (chunk : Chunk) → l.chunks ≡ chunk ∷ [] → (l.rest ≡ []) ⊎ ((l.rest ≡ chunk ∷ []) × (l.starts ≡ l.leaves_out));
}

abbrev pub decreases-loop-chunk : goal.decreases-loop-chunk
decreases-loop-chunk l = length l.rest
