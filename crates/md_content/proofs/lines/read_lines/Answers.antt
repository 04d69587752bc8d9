use Rattle.std.proofs.Common.{◌≡◌, ◌<◌, ◌+◌, ◌++◌, ◌∙◌, ◌∷◌, ℕ, List, [], append-nil, append_assoc, ap, arith, drop}
use Rattle.std.proofs.Common.{false, get_or, length, refl, subst, suc, sym, take, true}
use Rattle.std.specs.List.{prefix_len}
use Rattle.std.specs.Prelude.{None}
use Rattle.std.proofs.lemmas.List.{take_rest}
use Rattle.std.proofs.lemmas.List.Elements.{All-append, All-cons, All-drop, All-nil}
use Rattle.md_engine.specs.declared.event.Event.{Event}
use Rattle.md_engine.specs.declared.event.Kind.TheVariants.{Enter}
use Rattle.md_engine.specs.declared.event.Name.TheVariants.{Frontmatter}
use Rattle.md_engine.specs.Place.{IsPlaced}
use Rattle.md_content.specs.ContentReads.{content_readings, wants_content}
use Rattle.md_content.specs.Joined.{joined, joined_with}
use Rattle.md_content.specs.Lines.{begins_chunk, is_passed}
use Rattle.md_content.specs.ParagraphLines.{IsParagraph, Reached}
use Rattle.md_content.proofs.LinesLemmas.{leads-end, leads-line, leads-passed}
use Rattle.md_content.proofs.ParagraphLines.{from-unbegun, no-chunks, to-unbegun}
use Rattle.md_content.proofs.lines.read_lines.Goals as goal
use Rattle.md_events.specs.Parts.{ArePlaced}
use Rattle.md_events.specs.Rewritten.{given_of, held_of, left_of, written_of}
use Rattle.md_events.proofs.ReadingLemmas.{placed-place}
use Rattle.md_events.proofs.SubstitutedLemmas.{Leads, leads-all, leads-first}

-- what indexing gives past the end of a list
abbrev unset : Event
unset = record {
  kind = Enter;
  name = Frontmatter;
  point = record { line = 0; column = 0; index = 0; vs = 0 };
  link = None;
}

pub loop-event-init : goal.loop-event-init
loop-event-init c =
    let text : List ℕ = c.args.reader.now.bytes.now in
    let all = c.new-all.result in
    let found = c.nothing-found in
    let none : given_of all ≡ [] = ap (λ (l : List Event). l ++ held_of all) c.new-all.ensures.written
    ∙ c.new-all.ensures.held in
    record {
      given = subst (ArePlaced text) (sym none) (All-nil (λ (e : Event). IsPlaced text e.point));
      left = subst (ArePlaced text) (sym c.new-all.ensures.left) c.requires.placed;
      found = subst (ArePlaced text) (sym found.ensures.events) (All-nil (λ (e : Event). IsPlaced text e.point));
      substituted =
          leads-first wants_content (content_readings text c.args.reader.now.options.now) (joined c.args.events.items)
          (joined (left_of all)) found.result.events.items (given_of all) found.result.placed found.result.chunks
          (ap joined c.new-all.ensures.left) found.ensures.events found.ensures.placed found.ensures.chunks none;
    }

pub loop-event-preserved-in-Some-further_lines : goal.loop-event-preserved-in-Some-further_lines
loop-event-preserved-in-Some-further_lines c =
    let text : List ℕ = c.args.reader.now.bytes.now in
    let options = c.args.reader.now.options.now in
    let events : List Event = c.args.events.items in
    let inv = c.loop-event.invariant in
    let old = c.loop-event.all in
    let all = c.put_paragraph.new.all in
    let found = c.loop-event.found in
    let left : List Event = drop found.placed found.events.items in
    let none : found.chunks ≡ 0 = no-chunks found.chunks (sym c.is_begun.ensures ∙ c.if-not-is_begun.true) in
    let reached : Reached text options events (given_of old) (left_of old) = record {
      given = inv.given;
      left = inv.left;
      substituted = to-unbegun text options events left (left_of old) (given_of old) found.chunks none inv.substituted;
    } in
    let is : IsParagraph text c.in-Some-further_lines.more (left_of old) =
    subst (IsParagraph text c.in-Some-further_lines.more) c.left-then-not-is_begun.ensures
    c.in-Some-further_lines.ensures in
    let on = c.in_ok-put_paragraph.ensures.given text options events is reached in
    record {
      given = on.given;
      left = on.left;
      found = inv.found;
      substituted = from-unbegun text options events left (left_of all) (given_of all) found.chunks none on.substituted;
    }

pub or_read-requires-clause-placed : goal.or_read-requires-clause-placed
or_read-requires-clause-placed c =
    subst (ArePlaced c.args.reader.now.bytes.now) (sym c.left-then-begins_chunk.ensures) c.loop-event.invariant.left

pub loop-event-preserved-in-Continue-branch-3 : goal.loop-event-preserved-in-Continue-branch-3
loop-event-preserved-in-Continue-branch-3 c =
    let text : List ℕ = c.args.reader.now.bytes.now in
    let options = c.args.reader.now.options.now in
    let inv = c.loop-event.invariant in
    let rest : List Event = left_of c.loop-event.all in
    let read = c.in_ok-or_read.ensures in
    let place = c.in_ok-place.ensures in
    let all = c.place.new.events in
    let with : ℕ = c.joined_with-last.result in
    let begins : begins_chunk rest ≡ true = ap begins_chunk (sym c.left.ensures) ∙ sym c.begins_chunk.ensures.value
    ∙ c.if-begins_chunk.true in
    let is : with ≡ joined_with (drop 1 rest) = c.joined_with-last.ensures.value
    ∙ ap joined_with
    (take_rest c.left-then-begins_chunk-2.result.now 1 ∙ ap (drop 1) c.left-then-begins_chunk-2.ensures) in
    let left : left_of all ≡ drop (1 + with + 1) rest = place.rest ∙ c.skip.ensures.left in
    let begun = rw c.left-then-begins_chunk.ensures at read.begun in
    let given = ap (λ (l : List Event). written_of all ++ l) (c.place.ensures.held ∙ c.skip.ensures.held)
    ∙ append-nil (written_of all)
    ∙ (rw (c.skip.ensures.written, c.left-then-begins_chunk-3.ensures) at place.placed) in
    let following = rw c.left-then-begins_chunk-3.ensures at place.left in
    record {
      given = placed-place text (given_of c.loop-event.all) (given_of all) _ _ _ given inv.given read.placed;
      left =
          subst (ArePlaced text) (sym left)
          (All-drop (λ (e : Event). IsPlaced text e.point) (1 + with + 1) rest inv.left);
      found = rw c.place.ensures.same read.placed;
      substituted =
          subst
          (λ (l : List Event).
          Leads wants_content (content_readings text options) (joined c.args.events.items)
          (drop c.place.new.self.placed c.place.new.self.events.items) c.place.new.self.chunks (joined l)
          (given_of all)) (sym left)
          (leads-line text options (joined c.args.events.items) rest _ _ _ (given_of c.loop-event.all) (given_of all)
          _ _ _ with (1 + with) unset begins is refl begun place.chunks given following inv.substituted);
    }

pub loop-event-preserved-in-Continue-branch-4 : goal.loop-event-preserved-in-Continue-branch-4
loop-event-preserved-in-Continue-branch-4 c =
    let text : List ℕ = c.args.reader.now.bytes.now in
    let options = c.args.reader.now.options.now in
    let inv = c.loop-event.invariant in
    let old = c.loop-event.all in
    let all = c.push.new.self in
    let rest : List Event = left_of old in
    let left : List Event = drop c.loop-event.found.placed c.loop-event.found.events.items in
    let with : ℕ = c.joined_with-with.result in
    let event : Event = c.in-Some.event in
    let now : Event = record event { point = (get_or rest with unset).point } in
    let is : with ≡ joined_with rest = c.joined_with-with.ensures.value
    ∙ ap joined_with c.left-else-begins_chunk.ensures in
    let low : with < length rest = rw c.left-else-begins_chunk.ensures at c.joined_with-with.ensures.within in
    let more : left_of all ≡ drop (with + 1) rest = c.push.ensures.left ∙ c.skip-then-with-gt0.ensures.left in
    let given : given_of all ≡ given_of old ++ now ∷ [] =
    ap (λ (l : List Event). written_of all ++ l) (c.push.ensures.held ∙ c.skip-then-with-gt0.ensures.held)
    ∙ append-nil (written_of all)
    ∙ (rw (c.skip-then-with-gt0.ensures.written, c.left-then-with-gt0.ensures) at c.in_ok-push.ensures.written) in
    record {
      given =
          subst (ArePlaced text) (sym given)
          (All-append (λ (e : Event). IsPlaced text e.point) (given_of old) (now ∷ []) inv.given
          (All-cons (λ (e : Event). IsPlaced text e.point) now [] (inv.left with unset low)
          (All-nil (λ (e : Event). IsPlaced text e.point))));
      left =
          subst (ArePlaced text) (sym more)
          (All-drop (λ (e : Event). IsPlaced text e.point) (with + 1) rest inv.left);
      found = inv.found;
      substituted =
          subst
          (λ (l : List Event).
          Leads wants_content (content_readings text options) (joined c.args.events.items) left
          c.loop-event.found.chunks (joined l) (given_of all)) (sym more)
          (subst
          (Leads wants_content (content_readings text options) (joined c.args.events.items) left
          c.loop-event.found.chunks (joined (drop (with + 1) rest))) (sym given)
          (leads-end text options (joined c.args.events.items) left rest (given_of old) c.loop-event.found.chunks with
          event unset c.in-Some.ensures.some is (omega arith) inv.substituted));
    }

pub loop-event-preserved : goal.loop-event-preserved
loop-event-preserved c =
    let text : List ℕ = c.args.reader.now.bytes.now in
    let options = c.args.reader.now.options.now in
    let inv = c.loop-event.invariant in
    let old = c.loop-event.all in
    let all = c.hold_many.new.self in
    let rest : List Event = left_of old in
    let left : List Event = drop c.loop-event.found.placed c.loop-event.found.events.items in
    let many : ℕ = 1 + c.passed-many.result in
    let none : begins_chunk rest ≡ false = ap begins_chunk (sym c.left.ensures) ∙ sym c.begins_chunk.ensures.value
    ∙ c.if-begins_chunk.false in
    let zero : c.joined_with-with.result ≡ 0 = omega arith in
    let alone : joined_with rest ≡ 0 = ap joined_with (sym c.left-else-begins_chunk.ensures)
    ∙ sym c.joined_with-with.ensures.value ∙ zero in
    let run : c.passed-many.result ≡ prefix_len is_passed (drop 1 rest) = c.passed-many.ensures.value
    ∙ ap (prefix_len is_passed)
    (take_rest c.left-else-with-gt0.result.now 1 ∙ ap (drop 1) c.left-else-with-gt0.ensures) in
    let count : many ≡ suc (prefix_len is_passed (drop 1 rest)) = omega (arith, run) in
    let given : given_of all ≡ given_of old ++ take many rest =
    ap (λ (l : List Event). l ++ held_of all) c.hold_many.ensures.written
    ∙ ap (λ (l : List Event). written_of old ++ l) c.hold_many.ensures.held
    ∙ sym (append_assoc (written_of old) (held_of old) (take many rest)) in
    record {
      given = placed-place text (given_of old) (given_of all) rest 0 many given inv.given inv.left;
      left =
          subst (ArePlaced text) (sym c.hold_many.ensures.left)
          (All-drop (λ (e : Event). IsPlaced text e.point) many rest inv.left);
      found = inv.found;
      substituted =
          subst
          (λ (l : List Event).
          Leads wants_content (content_readings text options) (joined c.args.events.items) left
          c.loop-event.found.chunks (joined l) (given_of all)) (sym c.hold_many.ensures.left)
          (subst
          (Leads wants_content (content_readings text options) (joined c.args.events.items) left
          c.loop-event.found.chunks (joined (drop many rest))) (sym given)
          (leads-passed text options (joined c.args.events.items) left (given_of old) rest c.loop-event.found.chunks
          many c.in-Some.event c.in-Some.ensures.some none alone count inv.substituted));
    }

pub returns-clause-placed : goal.returns-clause-placed
returns-clause-placed c =
    subst (ArePlaced c.args.reader.now.bytes.now) (sym (c.finish.ensures ∙ c.give.ensures.written))
    c.loop-event.invariant.given

pub returns-clause-substituted : goal.returns-clause-substituted
returns-clause-substituted c =
    rw (c.finish.ensures, c.give.ensures.written)
    (leads-all wants_content (content_readings c.args.reader.now.bytes.now c.args.reader.now.options.now)
    (joined c.args.events.items) _ (joined (left_of c.loop-event.all)) _ _ (ap joined c.in_default.ensures.none)
    c.loop-event.invariant.substituted)
