use Rattle.std.proofs.Common.{rules, ◌≡◌, ◌<◌, ◌∙◌, List, arith, length, sym, get_or}
use Rattle.std.specs.Prelude.{None}
use Rattle.md_engine.specs.declared.event.Event.{Event}
use Rattle.md_engine.specs.declared.event.Kind.TheVariants.{Enter}
use Rattle.md_engine.specs.declared.event.Name.TheVariants.{Frontmatter}
use Rattle.md_events.specs.declared.inline.Chunk.{Chunk}
use Rattle.markdown_blocks.proofs.PlacedParts.{awaited-here-at, awaited-later-at}
use Rattle.markdown_blocks.proofs.place.has_chunks.Goals as goal

-- what indexing gives past the end of a list
abbrev unset : Event
unset = record {
  kind = Enter;
  name = Frontmatter;
  point = record { line = 0; column = 0; index = 0; vs = 0 };
  link = None;
}

abbrev no_chunk : Chunk
no_chunk = record { first = unset.point; after = unset.point }

pub loop-left-preserved-in_default-chunk_at : goal.loop-left-preserved-in_default-chunk_at
loop-left-preserved-in_default-chunk_at c =
    let left : List Event = c.loop-left.left.now in
    let some : 0 < length left = omega (arith, c.in-len1-up.len_at_least) in
    awaited-later-at left unset _ _ _ some (sym c.ends_part.ensures ∙ c.if-ends_part.false)
    (sym c.chunk_at.ensures ∙ c.in_default-chunk_at.is) c.loop-left.invariant

pub loop-left-preserved : goal.loop-left-preserved
loop-left-preserved c =
    let left : List Event = c.loop-left.left.now in
    let awaited : List Chunk = c.loop-left.awaited.now in
    let some : 0 < length left = omega (arith, c.in-len1-up.len_at_least) in
    let one : 0 < length awaited = omega (arith, c.in-len1-up-awaited.len_at_least) in
    let same : get_or awaited 0 no_chunk ≡ c.in-Some.chunk = search rules in
    awaited-here-at left unset c.in-Some.chunk no_chunk _ awaited _ some (sym c.ends_part.ensures ∙ c.if-ends_part.false)
    (sym c.chunk_at.ensures ∙ c.in-Some.is) one same c.loop-left.invariant
