-- The roles of what the plain inline layer gives.
use Rattle.std.proofs.Common.{ℕ, Bool, true, false, cond, List, [], ◌∷◌}
use Rattle.md_engine.specs.declared.event.Name.{Name}
use Rattle.md_engine.specs.declared.event.Name.TheVariants as n
use Rattle.md_engine.specs.declared.event.Point.{Point}
use Rattle.md_events.specs.declared.inline.Chunk.{Chunk}
use Rattle.md_events.specs.Events.Inline.{line_end, pair_unless_empty, plain_chunk, plain_chunks, together}
use Rattle.md_events.specs.Events.Nested.{pair}
use Rattle.md_events.specs.Events.Places.{same_place}
use Rattle.md_events.specs.Events.Spelled.{IsEnding, IsQuiet, Role, role}
use Rattle.md_events.proofs.SpelledLemmas.{Roles, roles-append}

-- what a pair is for
pub pair-roles : (P : Role → Type 0) (name : Name) (p q : Point) → P (role name) → Roles P (pair_unless_empty name p q)
pair-roles P name p q h = go (same_place p q)
  where
    go : (x : Bool) → Roles P (cond x [] (pair name p q))
    go true = tt
    go false = (h, (h, tt))

-- what the plain layer gives is `Data` and line endings
pub chunk-roles : (P : Role → Type 0) (bytes : List ℕ) (chunk : Chunk) → P IsQuiet → P IsEnding →
    Roles P (plain_chunk bytes chunk)
chunk-roles P bytes chunk quiet ending =
    let end : Point = line_end bytes chunk in
    roles-append P (pair_unless_empty n.Data chunk.first end) (pair_unless_empty n.LineEnding end chunk.after)
    (pair-roles P n.Data chunk.first end quiet) (pair-roles P n.LineEnding end chunk.after ending)

pub plain-roles : (P : Role → Type 0) (bytes : List ℕ) (chunks : List Chunk) → P IsQuiet → P IsEnding →
    Roles P (together (plain_chunks bytes chunks))
plain-roles P bytes [] quiet ending = tt
plain-roles P bytes (chunk ∷ chunks) quiet ending =
    roles-append P (plain_chunk bytes chunk) (together (plain_chunks bytes chunks))
    (chunk-roles P bytes chunk quiet ending) (plain-roles P bytes chunks quiet ending)
