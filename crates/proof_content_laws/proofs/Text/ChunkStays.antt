-- What the plain layer gives for a line, as a walk over endings reads it.
use Rattle.std.proofs.Common.{ℕ, Bool, true, false, cond, List, [], ◌++◌, refl}
use Rattle.md_engine.specs.declared.event.Name.TheVariants as n
use Rattle.md_engine.specs.declared.event.Point.{Point}
use Rattle.md_events.specs.declared.inline.Chunk.{Chunk}
use Rattle.md_events.specs.Events.Inline.{line_end, plain_chunk}
use Rattle.md_events.specs.Events.Nested.{pair}
use Rattle.md_events.specs.Events.Places.{same_place}
use Rattle.md_events.proofs.EndingsLemmas.{Stays}

-- what the plain layer gives for a line
pub chunk-stays : (bytes : List ℕ) (chunk : Chunk) → Stays (plain_chunk bytes chunk)
chunk-stays bytes chunk =
    go (line_end bytes chunk) (same_place chunk.first (line_end bytes chunk))
    (same_place (line_end bytes chunk) chunk.after)
  where
    go : (end : Point) (x y : Bool) →
        Stays (cond x [] (pair n.Data chunk.first end) ++ cond y [] (pair n.LineEnding end chunk.after))
    go end true true = λ from. (from, λ ys. refl)
    go end true false = λ from. (false, λ ys. refl)
    go end false true = λ from. (true, λ ys. refl)
    go end false false = λ from. (false, λ ys. refl)
