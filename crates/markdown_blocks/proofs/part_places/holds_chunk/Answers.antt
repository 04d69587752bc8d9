use Rattle.std.proofs.Common.{◌<◌, ◌∙◌, List, arith, length, sym}
use Rattle.std.specs.Prelude.{None}
use Rattle.md_engine.specs.declared.event.Event.{Event}
use Rattle.md_engine.specs.declared.event.Kind.TheVariants.{Enter}
use Rattle.md_engine.specs.declared.event.Name.TheVariants.{Frontmatter}
use Rattle.markdown_blocks.proofs.PlacedParts.{holds-here-at, holds-later-at}
use Rattle.markdown_blocks.proofs.part_places.holds_chunk.Goals as goal

-- what indexing gives past the end of a list
abbrev unset : Event
unset = record {
  kind = Enter;
  name = Frontmatter;
  point = record { line = 0; column = 0; index = 0; vs = 0 };
  link = None;
}

pub returns-then-begins_chunk : goal.returns-then-begins_chunk
returns-then-begins_chunk c =
    let left : List Event = c.loop-left.left.now in
    let some : 0 < length left = omega (arith, c.in-len1-up.len_at_least) in
    sym (c.loop-left.invariant
    ∙ holds-here-at left unset some (sym c.ends_part.ensures ∙ c.if-ends_part.false)
    (sym c.begins_chunk.ensures ∙ c.if-begins_chunk.true))

pub loop-left-preserved : goal.loop-left-preserved
loop-left-preserved c =
    let left : List Event = c.loop-left.left.now in
    let some : 0 < length left = omega (arith, c.in-len1-up.len_at_least) in
    c.loop-left.invariant
    ∙ holds-later-at left unset some (sym c.ends_part.ensures ∙ c.if-ends_part.false)
    (sym c.begins_chunk.ensures ∙ c.if-begins_chunk.false)
