use Rattle.std.proofs.Common.{◌≡◌, ◌<◌, ◌∙◌, List, ap, arith, get_or, length, sym}
use Rattle.std.specs.Prelude.{None}
use Rattle.md_engine.specs.declared.event.Event.{Event}
use Rattle.md_engine.specs.declared.event.Kind.TheVariants.{Enter}
use Rattle.md_engine.specs.declared.event.Name.TheVariants.{Frontmatter}
use Rattle.md_events.specs.TextPart.{last_of_block, place_by}
use Rattle.markdown_blocks.proofs.PlacedParts.{no-places, place-found, place-none}
use Rattle.markdown_blocks.proofs.part_places.Places.next.Goals as goal

-- what indexing gives past the end of a list
abbrev unset : Event
unset = record {
  kind = Enter;
  name = Frontmatter;
  point = record { line = 0; column = 0; index = 0; vs = 0 };
  link = None;
}

pub returns-then-holds_chunk : goal.returns-then-holds_chunk
returns-then-holds_chunk c = λ place following are.
    let blocks : List Event = c.loop-self.self.blocks.now in
    let some : 0 < length c.split_at.result.1.now = omega (arith, c.in-len1-up.len_at_least) in
    let found = place-found blocks c.split_at.result.1.now c.loop-self.self.at c.passing.result unset place following
    c.passing.ensures.value c.split_at.ensures.back some (sym c.holds_chunk.ensures ∙ c.if-holds_chunk.true)
    (c.loop-self.invariant ∙ are) in (
      c.place_after.ensures
          ∙ ap (λ (l : List Event). place_by (last_of_block l) (get_or c.split_at.result.1.now 0 unset).name)
          c.split_at.ensures.front
          ∙ found.0,
      found.1,
    )

pub loop-self-preserved : goal.loop-self-preserved
loop-self-preserved c =
    let some : 0 < length c.split_at.result.1.now = omega (arith, c.in-len1-up.len_at_least) in
    place-none c.loop-self.self.blocks.now c.split_at.result.1.now c.loop-self.self.at c.passing.result unset
    c.passing.ensures.value c.split_at.ensures.back some (sym c.holds_chunk.ensures ∙ c.if-holds_chunk.false)
    ∙ c.loop-self.invariant

pub returns-in_default : goal.returns-in_default
returns-in_default c = λ place following are.
    let none : length c.split_at.result.1.now ≡ 0 = omega (arith, c.in_default.len_below) in
    let empty = no-places c.loop-self.self.blocks.now c.split_at.result.1.now c.loop-self.self.at c.passing.result
    unset c.passing.ensures.value c.split_at.ensures.back none in
    let no = sym empty ∙ (c.loop-self.invariant ∙ are) in cc
