use Rattle.std.proofs.Common.{◌≡◌, ◌+◌, ◌<◌, ◌∙◌, ◌++◌, List, ap, arith, drop, false, length, length-drop, refl, sym}
use Rattle.std.proofs.Common.{true}
use Rattle.std.specs.Prelude.{None}
use Rattle.std.proofs.lemmas.List.{append-nil}
use Rattle.md_engine.specs.declared.event.Event.{Event}
use Rattle.md_engine.specs.declared.event.Kind.TheVariants.{Enter}
use Rattle.md_engine.specs.declared.event.Name.TheVariants.{Frontmatter}
use Rattle.md_content.specs.Joined.{joined_with}
use Rattle.md_content.specs.Lines.{begins_chunk}
use Rattle.md_content.proofs.LinesLemmas.{lines-end, lines-more, lines-past, lines-stop}
use Rattle.md_events.proofs.SubstitutedLemmas.{to-end}
use Rattle.md_content.proofs.lines.list_lines.Goals as goal
use Rattle.md_events.specs.declared.inline.Chunk.{Chunk}

-- what indexing gives past the end of a list
abbrev unset : Event
unset = record {
  kind = Enter;
  name = Frontmatter;
  point = record { line = 0; column = 0; index = 0; vs = 0 };
  link = None;
}

pub loop-at-preserved-then-begins_chunk : goal.loop-at-preserved-then-begins_chunk
loop-at-preserved-then-begins_chunk c =
    let events : List Event = c.args.events.now in
    let at = c.loop-at.at in
    let with = c.joined_with.result in
    let begins : begins_chunk (drop at events) ≡ true =
    sym (rw (to-end events at) at c.begins_chunk.ensures.value) ∙ c.if-begins_chunk.true in
    let is : with ≡ joined_with (drop (at + 1) events) = rw (to-end events (at + 1)) at c.joined_with.ensures.value in
    let low : with < length (drop (at + 1) events) = rw (to-end events (at + 1)) at c.joined_with.ensures.within in
    record {
      within = omega (arith, low, length-drop (at + 1) events);
      chunks =
          lines-more events at with (at + 1 + with) unset c.loop-at.chunks.items
          c.push_chunk.new.chunks.items _ begins is
          refl c.in_ok-push_chunk.ensures c.loop-at.invariant.chunks;
    }

pub loop-at-preserved : goal.loop-at-preserved
loop-at-preserved c =
    let events : List Event = c.args.events.now in
    let at = c.loop-at.at in
    let none : begins_chunk (drop at events) ≡ false =
    sym (rw (to-end events at) at c.begins_chunk.ensures.value) ∙ c.if-begins_chunk.false in
    record {
      within = omega arith;
      chunks =
          ap (λ (l : List Chunk). c.loop-at.chunks.items ++ l)
          (sym (lines-past events at unset (omega arith) none (sym c.is_prefix.ensures ∙ c.if-is_prefix.true)))
          ∙ c.loop-at.invariant.chunks;
    }

pub returns-after-loop-at : goal.returns-after-loop-at
returns-after-loop-at c =
    let none = lines-end c.args.events.now c.loop-at.at (omega arith) in
    sym (append-nil c.loop-at.chunks.items) ∙ (rw none at c.loop-at.invariant.chunks)

pub returns-else-is_prefix : goal.returns-else-is_prefix
returns-else-is_prefix c =
    let events : List Event = c.args.events.now in
    let at = c.loop-at.at in
    let begun : begins_chunk (drop at events) ≡ false =
    sym (rw (to-end events at) at c.begins_chunk.ensures.value) ∙ c.if-begins_chunk.false in
    let none = lines-stop events at unset (omega arith) begun (sym c.is_prefix.ensures ∙ c.if-is_prefix.false) in
    sym (append-nil c.loop-at.chunks.items) ∙ (rw none at c.loop-at.invariant.chunks)
