use Rattle.std.proofs.Common.{◌≡◌, ◌+◌, ◌<◌, ◌∙◌, ℕ, List, [], ap, arith, cond, drop, false, get_or, length}
use Rattle.std.proofs.Common.{length-drop, refl, subst, sym, true}
use Rattle.std.specs.Prelude.{None, nat_lt, slice_range}
use Rattle.std.proofs.lemmas.List.{drop-drop}
use Rattle.md_engine.specs.declared.event.Event.{Event}
use Rattle.md_engine.specs.declared.event.Kind.TheVariants.{Enter}
use Rattle.md_engine.specs.declared.event.Name.TheVariants.{Frontmatter}
use Rattle.md_content.specs.Joined.{joined_with}
use Rattle.md_content.specs.LabelLook.{may_define_in}
use Rattle.md_content.specs.Lines.{begins_chunk, lines_from}
use Rattle.md_content.specs.WholeLines.{is_followed, is_within_line}
use Rattle.md_content.proofs.ParagraphLines.{counts-more, ended-lines, last-below, last-none, last-some, lines-last}
use Rattle.md_content.proofs.ParagraphLines.{paragraph-found, two-first, whole-last, whole-more}
use Rattle.md_events.proofs.SubstitutedLemmas.{to-end}
use Rattle.md_content.proofs.lines.further_lines.Goals as goal
use Rattle.md_content.proofs.lines.further_lines.Goals.{else-more-gt0, then-more-gt0}
use Rattle.md_events.specs.declared.inline.Chunk.{Chunk}
use Rattle.md_events.specs.Parts.{IsChunk}
use Rattle.md_events.specs.Substituted.{chunk_of}

-- what indexing gives past the end of a list
abbrev unset : Event
unset = record {
  kind = Enter;
  name = Frontmatter;
  point = record { line = 0; column = 0; index = 0; vs = 0 };
  link = None;
}

pub loop-following-preserved : goal.loop-following-preserved
loop-following-preserved c =
    let events : List Event = c.args.events.now in
    let at : ℕ = c.loop-following.at in
    let following : ℕ = c.in-Some.following in
    let next : ℕ = at + 1 + following in
    let inv = c.loop-following.invariant in
    let line = rw (to-end events (at + 1)) at c.in-Some.ensures.line in
    let begins : begins_chunk (drop next events) ≡ true =
    ap begins_chunk (sym (drop-drop following (at + 1) events))
    ∙ (rw (to-end events (at + 1)) at c.in-Some.ensures.begins) in
    let e : Event = get_or events next unset in
    let f : Event = get_or events (next + 1) unset in
    let follows : is_followed (chunk_of (get_or events at unset) (get_or events (at + 3) unset)) (chunk_of e f) ≡ true =
    ap (λ (k : Chunk). is_followed k (chunk_of e f)) (sym c.chunk_of-line.ensures)
    ∙ ap (is_followed c.chunk_of-line.result) (sym c.chunk_of.ensures)
    ∙ sym c.is_followed.ensures ∙ c.if-not-is_followed.false in
    record {
      begins = begins;
      lines = counts-more events at following next c.loop-following.more inv.begins line.1 line.0 refl inv.lines;
      whole =
          whole-more events at following next unset f.point inv.begins begins line.1 line.0 refl follows ∙ inv.whole;
      few = omega (arith, inv.few);
    }

pub ends_part-requires : goal.ends_part-requires
ends_part-requires c =
    let events : List Event = c.args.events.now in
    let at : ℕ = c.loop-following.at in
    rw (to-end events (at + 1))
    (omega (
      arith,
      length-drop (at + 1) events,
      length-drop at events,
      two-first (drop at events) c.loop-following.invariant.begins,
    ))

pub bounds-events-at-else-not-ends_part-2 : goal.bounds-events-at-else-not-ends_part-2
bounds-events-at-else-not-ends_part-2 c =
    let events : List Event = c.args.events.now in
    let at : ℕ = c.loop-following.at in
    omega (arith, length-drop at events, two-first (drop at events) c.loop-following.invariant.begins)

pub bounds-events-last : goal.bounds-events-last
bounds-events-last c =
    let events : List Event = c.args.events.now in
    let at : ℕ = c.loop-following.at in
    let more : ℕ = c.loop-following.more in
    let inv = c.loop-following.invariant in
    let alone : joined_with (drop (at + 1) events) ≡ 0 =
    rw (to-end events (at + 1)) at (c.ends_part.ensures.alone c.if-not-ends_part.false) in
    let none : lines_from (drop 1 (drop (at + 1) events)) ≡ [] =
    rw (to-end events (at + 1)) at (c.ends_part.ensures.last c.if-not-ends_part.false) in
    let ended = lines-last events at inv.begins alone none in
    let has = ended-lines events at more inv.lines ended in
    let last : ℕ = c.if-more-gt0.last in
    let is : last ≡ 1 + cond (nat_lt 0 more) 2 0 = elim c.if-more-gt0.branch [
      | then-more-gt0 w ↦ last-some more last (omega arith) w.last-is
      | else-more-gt0 w ↦ last-none more last (omega arith) w.last-is
    ] in
    last-below more last events has is

pub may_define_at-requires : goal.may_define_at-requires
may_define_at-requires c =
    let events : List Event = c.args.events.now in
    let at : ℕ = c.loop-following.at in
    let more : ℕ = c.loop-following.more in
    let inv = c.loop-following.invariant in
    let alone : joined_with (drop (at + 1) events) ≡ 0 =
    rw (to-end events (at + 1)) at (c.ends_part.ensures.alone c.if-not-ends_part.false) in
    let none : lines_from (drop 1 (drop (at + 1) events)) ≡ [] =
    rw (to-end events (at + 1)) at (c.ends_part.ensures.last c.if-not-ends_part.false) in
    let ended = lines-last events at inv.begins alone none in
    let has = ended-lines events at more inv.lines ended in
    let last : ℕ = c.if-more-gt0.last in
    let is : last ≡ 1 + cond (nat_lt 0 more) 2 0 = elim c.if-more-gt0.branch [
      | then-more-gt0 w ↦ last-some more last (omega arith) w.last-is
      | else-more-gt0 w ↦ last-none more last (omega arith) w.last-is
    ] in
    let lt : last < length events = last-below more last events has is in
    subst (IsChunk c.args.bytes.now) (sym c.chunk_of-2.ensures)
    (record {
      first = c.requires.placed 0 unset (omega (arith, lt));
      after = c.requires.placed last unset lt;
    })

pub returns : goal.returns
returns c =
    let bytes : List ℕ = c.args.bytes.now in
    let events : List Event = c.args.events.now in
    let at : ℕ = c.loop-following.at in
    let more : ℕ = c.loop-following.more in
    let inv = c.loop-following.invariant in
    let alone : joined_with (drop (at + 1) events) ≡ 0 =
    rw (to-end events (at + 1)) at (c.ends_part.ensures.alone c.if-not-ends_part.false) in
    let none : lines_from (drop 1 (drop (at + 1) events)) ≡ [] =
    rw (to-end events (at + 1)) at (c.ends_part.ensures.last c.if-not-ends_part.false) in
    let ended = lines-last events at inv.begins alone none in
    let has = ended-lines events at more inv.lines ended in
    let last : ℕ = c.if-more-gt0.last in
    let is : last ≡ 1 + cond (nat_lt 0 more) 2 0 = elim c.if-more-gt0.branch [
      | then-more-gt0 w ↦ last-some more last (omega arith) w.last-is
      | else-more-gt0 w ↦ last-none more last (omega arith) w.last-is
    ] in
    let within : is_within_line (chunk_of (get_or events at unset) (get_or events (at + 1) unset)) ≡ true =
    ap is_within_line (sym c.chunk_of-else-not-ends_part.ensures) ∙ sym c.is_within_line.ensures
    ∙ c.if-not-is_within_line.false in
    let first : ℕ = (get_or events 0 unset).point.index in
    let refused : may_define_in (slice_range bytes first (get_or events last unset).point.index) ≡ false =
    subst (λ (k : Chunk). may_define_in (slice_range bytes k.first.index k.after.index) ≡ false) c.chunk_of-2.ensures
    (c.may_define_at.ensures c.if-may_define_at.false) in
    paragraph-found bytes events more last unset c.requires.placed has
    (sym inv.whole ∙ whole-last events at unset ended within) is refused
