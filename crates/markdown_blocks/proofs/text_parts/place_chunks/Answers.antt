use Rattle.std.proofs.Common.{◌-◌, ◌<◌, ◌∙◌, ◌≡◌, ℕ, List, ap, arith, drop, get_or, length, length-drop, refl, sym, subst, take}
use Rattle.std.specs.Prelude.{None}
use Rattle.std.proofs.lemmas.List.{take_rest}
use Rattle.md_engine.specs.declared.event.Event.{Event}
use Rattle.md_engine.specs.declared.event.Kind.TheVariants.{Enter}
use Rattle.md_engine.specs.declared.event.Name.TheVariants.{Frontmatter}
use Rattle.md_events.specs.Substituted.{share}
use Rattle.markdown_blocks.specs.InPlace.{InPlace, InPlace.Nothing}
use Rattle.markdown_blocks.proofs.PartWalk.{first-begins, place-more, taken-up}
use Rattle.markdown_blocks.proofs.text_parts.place_chunks.Goals as goal

-- what indexing gives past the end of a list
abbrev unset : Event
unset = record {
  kind = Enter;
  name = Frontmatter;
  point = record { line = 0; column = 0; index = 0; vs = 0 };
  link = None;
}

pub loop-is_next-init : goal.loop-is_next-init
loop-is_next-init c =
    let left : List Event = drop c.args.found.now.placed c.args.found.now.events.items in
    let none : c.args.found.now.placed - c.args.found.now.placed ≡ 0 = omega arith in
    record {
      events = refl;
      next = λ yes. c.requires;
      fewer = λ no. cc;
      within = omega arith;
      from = omega arith;
      placed =
          subst
          (λ (n : ℕ).
          InPlace left c.args.found.now.chunks c.args.events.now (take n left) left c.args.found.now.chunks
          c.args.events.now)
          (sym none) Nothing;
    }

pub loop-is_next-preserved : goal.loop-is_next-preserved
loop-is_next-preserved c =
    let first : ℕ = c.args.found.now.placed in
    let items : List Event = c.args.found.now.events.items in
    let now : ℕ = c.loop-is_next.found.placed in
    let next : ℕ = c.place.new.self.placed in
    let inv = c.loop-is_next.invariant in
    let place = c.place.ensures in
    let is = inv.next c.loop-is_next-test.true in
    let left : List Event = c.loop-is_next.left.now in
    let rest : take (length left - 2) (drop 2 left) ≡ drop 2 left = take_rest left 2 in
    let less : length (take (length left - 2) (drop 2 left)) < length c.args.events.now =
    subst (λ (l : List Event). length l < length c.args.events.now) {x = drop 2 left} (sym rest)
    (omega (arith, is.two, inv.within, length-drop 2 left)) in
    let given : List Event =
    take (share (c.loop-is_next.found.chunks - 1) (drop now items) (get_or left 1 unset).point.index)
    (drop now items) in
    record {
      events = place.events ∙ inv.events;
      next = λ yes. c.is_further-is_next.ensures yes;
      fewer = λ no. less;
      within = omega (arith, less);
      from = omega (arith, inv.from, place.more);
      placed =
          subst
          (InPlace (drop first items) c.args.found.now.chunks c.args.events.now
          (take (next - first) (drop first items)) (drop next items) c.place.new.self.chunks)
          {x = drop 2 left} (sym rest)
          (place-more (drop first items) c.args.events.now (take (now - first) (drop first items)) (drop now items)
          (take (next - first) (drop first items)) (drop next items) left c.args.found.now.chunks
          c.loop-is_next.found.chunks c.place.new.self.chunks unset is.two
          (first-begins left unset is.begins) place.chunks inv.placed
          (taken-up items given first now next inv.from place.more (rw inv.events at place.placed))
          (ap (drop next) (sym (place.events ∙ inv.events)) ∙ rw inv.events at place.left));
    }
