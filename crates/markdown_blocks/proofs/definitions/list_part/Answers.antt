use Rattle.std.proofs.Common.{◌<◌, ◌∙◌, List, arith, length, sym}
use Rattle.std.specs.Prelude.{None}
use Rattle.md_engine.specs.declared.event.Event.{Event}
use Rattle.md_engine.specs.declared.event.Kind.TheVariants.{Enter}
use Rattle.md_engine.specs.declared.event.Name.TheVariants.{Frontmatter}
use Rattle.markdown_blocks.proofs.PlacedParts.{listed-end-at, listed-here-at, listed-later-at}
use Rattle.markdown_blocks.proofs.definitions.list_part.Goals as goal

-- what indexing gives past the end of a list
abbrev unset : Event
unset = record {
  kind = Enter;
  name = Frontmatter;
  point = record { line = 0; column = 0; index = 0; vs = 0 };
  link = None;
}

pub returns-then-ends_part : goal.returns-then-ends_part
returns-then-ends_part c =
    let left : List Event = c.loop-left.left.now in
    let some : 0 < length left = omega (arith, c.in-len1-up.len_at_least) in
    listed-end-at left unset _ _ some (sym c.ends_part.ensures ∙ c.if-ends_part.true) c.loop-left.invariant

pub loop-left-preserved-in_ok-push : goal.loop-left-preserved-in_ok-push
loop-left-preserved-in_ok-push c =
    let left : List Event = c.loop-left.left.now in
    let some : 0 < length left = omega (arith, c.in-len1-up.len_at_least) in
    listed-here-at left unset c.in-Some.chunk _ _ _ some (sym c.ends_part.ensures ∙ c.if-ends_part.false)
    (sym c.chunk_at.ensures ∙ c.in-Some.is) c.in_ok-push.ensures c.loop-left.invariant

pub loop-left-preserved : goal.loop-left-preserved
loop-left-preserved c =
    let left : List Event = c.loop-left.left.now in
    let some : 0 < length left = omega (arith, c.in-len1-up.len_at_least) in
    listed-later-at left unset _ _ some (sym c.ends_part.ensures ∙ c.if-ends_part.false)
    (sym c.chunk_at.ensures ∙ c.in_default-chunk_at.is) c.loop-left.invariant
