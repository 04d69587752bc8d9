use Rattle.std.proofs.Common.{◌<◌, List, arith, drop, length, subst, sym, take, ◌-◌}
use Rattle.std.specs.Prelude.{None, Option, option_copied}
use Rattle.md_engine.specs.declared.event.Event.{Event}
use Rattle.md_engine.specs.declared.event.Kind.TheVariants.{Enter}
use Rattle.md_engine.specs.declared.event.Name.TheVariants.{Frontmatter}
use Rattle.markdown_blocks.proofs.PlacedParts.{IsSearched, search-next}
use Rattle.markdown_blocks.proofs.place.place_among.Goals as goal

-- what indexing gives past the end of a list
abbrev unset : Event
unset = record {
  kind = Enter;
  name = Frontmatter;
  point = record { line = 0; column = 0; index = 0; vs = 0 };
  link = None;
}

pub loop-left-preserved : goal.loop-left-preserved
loop-left-preserved c =
    let events : List Event = c.args.events.now in
    let left : List Event = c.loop-left.left.now in
    let some : 0 < length left = omega (arith, c.in-len1-up.len_at_least) in
    subst (λ (last : Option Event). IsSearched events last (take (length left - 1) (drop 1 left)))
    (sym c.last_after-last.ensures) (search-next events left (option_copied c.loop-left.last) unset some c.loop-left.invariant)
