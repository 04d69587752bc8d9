use Rattle.std.proofs.Common.{◌≡◌, ◌<◌, ◌-◌, ℕ, ◌++◌, ◌⊎◌, ◌∙◌, ◌∷◌, List, [], ap, arith, drop, get_or}
use Rattle.std.proofs.Common.{inl, inr, length, refl, subst, sym, take}
use Rattle.std.specs.Prelude.{None, Some}
use Rattle.std.proofs.lemmas.List.{drop_all, drop_more}
use Rattle.md_engine.specs.declared.event.Kind.TheVariants.{Enter}
use Rattle.md_engine.specs.declared.event.Name.TheVariants.{Frontmatter}
use Rattle.md_engine.specs.declared.event.Event.{Event}
use Rattle.md_events.specs.Substituted.{Readings, wanted}
use Rattle.md_events.specs.Events.Inline.{together}
use Rattle.md_events.specs.TextPart.{Document, document_of, text_readings, wants_text}
use Rattle.md_events.proofs.SubstitutedLemmas.{Leads, leads-all, leads-first}
use Rattle.md_events.specs.declared.inline.PartPlace.{PartPlace}
use Rattle.markdown_blocks.specs.declared.part_places.Places.{Places}
use Rattle.markdown_blocks.specs.PartPlaces.{places_from}
use Rattle.markdown_blocks.proofs.Handed.{none-left, taken-more, together-more}
use Rattle.markdown_blocks.proofs.PartWalk.{AreNext, ahead-begun, ahead-first, ahead-part, ahead-placed, ahead-stays, begins-first, leads-begun}
use Rattle.markdown_blocks.proofs.PartWalk.{leads-placed, leads-stay}
use Rattle.markdown_blocks.proofs.text_parts.read_each.Goals as goal
use Rattle.markdown_blocks.proofs.text_parts.read_each.Goals.{in_default-text_content-via-in-Some+else-left-gt1}
use Rattle.markdown_blocks.proofs.text_parts.read_each.Goals.{in_default-text_content-via-in_default-text_content}

-- what indexing gives past the end of a list
abbrev unset : Event
unset = record {
  kind = Enter;
  name = Frontmatter;
  point = record { line = 0; column = 0; index = 0; vs = 0 };
  link = None;
}

-- the places that are left
abbrev left_places : Places → List PartPlace
left_places places = places_from places.blocks.now places.at

pub loop-left-init : goal.loop-left-init
loop-left-init g c =
    let document : Document = document_of c.args.parts.now.ahead.now.state.now in
    let found = c.nothing-found in
    record {
      given = [];
      taken = refl;
      substituted =
          leads-first wants_text (text_readings (g.I.Inline.reads c.args.parts.now.inline.now document))
          c.args.events.now c.args.events.now found.result.events.items [] found.result.placed found.result.chunks refl
          found.ensures.events found.ensures.placed found.ensures.chunks refl;
      ahead =
          ahead-first document c.args.events.now c.args.events.now (left_places c.of-places.result) found.result.chunks
          c.requires.are refl c.of-places.ensures found.ensures.chunks;
    }

pub or_read-requires-clause-next : goal.or_read-requires-clause-next
or_read-requires-clause-next g c = λ none.
    let rest : List Event = c.loop-left.left.now in
    let some : Some c.in-Some.content ≡ wanted wants_text (get_or rest 0 unset) =
    c.in-Some.ensures in
    let two : 1 < length rest = omega (arith, c.if-left-gt1.true) in
    ahead-part (document_of c.args.parts.now.ahead.now.state.now) (left_places c.loop-left.places)
    c.loop-left.found.chunks rest unset c.in-Some.content two some c.loop-left.invariant.ahead none

pub loop-left-preserved-then-left-gt1 : goal.loop-left-preserved-then-left-gt1
loop-left-preserved-then-left-gt1 g c =
    let document : Document = document_of c.args.parts.now.ahead.now.state.now in
    let reads : Readings = text_readings (g.I.Inline.reads c.args.parts.now.inline.now document) in
    let inv = c.loop-left.invariant in
    let rest : List Event = c.loop-left.left.now in
    let read = c.in_ok-or_read-in-Some.ensures in
    let place = c.place_chunks-left.ensures in
    let some : Some c.in-Some.content ≡ wanted wants_text (get_or rest 0 unset) =
    c.in-Some.ensures in
    let two : 1 < length rest = omega (arith, c.if-left-gt1.true) in
    let before : List Event = drop c.loop-left.found.placed c.loop-left.found.events.items in
    let now : List Event = drop c.or_read.new.found.placed c.or_read.new.found.events.items in
    let many : ℕ = c.place_chunks-left.new.found.placed - c.or_read.new.found.placed in
    let here : List Event = take many (drop c.or_read.new.found.placed c.deref.result.now) in
    let is : here ≡ take many now =
    ap (λ (l : List Event). take many (drop c.or_read.new.found.placed l)) (c.deref.ensures.value ∙ place.events) in
    let after : List Event = drop c.place_chunks-left.new.found.placed c.place_chunks-left.new.found.events.items in
    let ahead : List Event = c.place_chunks-left.result.now in
    let begun : ℕ = c.or_read.new.found.chunks in
    let chunks : ℕ = c.place_chunks-left.new.found.chunks in
    let all : List Event = together inv.given in
    record {
      given = inv.given ++ here ∷ [];
      taken =
          taken-more g.S.Sink.takes c.args.sink.now c.loop-left.sink c.take.new.self inv.given here inv.taken
          c.in_ok-take-in-Some.ensures;
      substituted =
          subst (Leads wants_text reads c.args.events.now after chunks ahead) {x = all ++ take many now}
          (sym (together-more inv.given here ∙ ap (λ (l : List Event). all ++ l) is))
          (leads-placed reads c.args.events.now all now rest (take many now) after ahead begun chunks place.placed
          (leads-begun wants_text reads c.args.events.now rest before now all c.loop-left.found.chunks begun unset
          c.in-Some.content two some read.begun inv.substituted));
      ahead =
          ahead-placed document (left_places c.or_read.new.places) now rest (take many now) after ahead begun chunks
          place.placed
          (ahead-begun document (left_places c.loop-left.places) (left_places c.or_read.new.places)
          c.loop-left.found.chunks begun _ rest before now unset c.in-Some.content two some read.begun read.places
          inv.ahead);
    }

pub loop-left-preserved : goal.loop-left-preserved
loop-left-preserved g c =
    let document : Document = document_of c.args.parts.now.ahead.now.state.now in
    let reads : Readings = text_readings (g.I.Inline.reads c.args.parts.now.inline.now document) in
    let inv = c.loop-left.invariant in
    let rest : List Event = c.loop-left.left.now in
    let left : List Event = drop c.loop-left.found.placed c.loop-left.found.events.items in
    let chunks : ℕ = c.loop-left.found.chunks in
    let many : ℕ = c.staying-many.result in
    let first : rest ≡ get_or rest 0 unset ∷ drop 1 rest =
    drop_more rest 0 unset (omega (arith, c.in-len1-up.len_at_least)) in
    let stay : (wanted wants_text (get_or rest 0 unset) ≡ None) ⊎ (drop 1 rest ≡ []) = elim c.in_default-text_content.branch [
      | in_default-text_content-via-in-Some+else-left-gt1 w ↦
          inr (drop_all 1 rest (omega (arith, w.if-left-gt1.false)))
      | in_default-text_content-via-in_default-text_content w ↦
          inl (sym c.text_content.ensures ∙ w.in_default-text_content.is)
    ] in
    let here : List Event = take (many - 0) rest in
    let all : many - 0 ≡ many = omega arith in
    let is : here ≡ take many rest = ap (λ (n : ℕ). take n rest) all in
    let before : List Event = together inv.given in
    let now : List Event = together (inv.given ++ here ∷ []) in
    record {
      given = inv.given ++ here ∷ [];
      taken =
          taken-more g.S.Sink.takes c.args.sink.now c.loop-left.sink c.take-in_default-text_content.new.self inv.given
          here inv.taken c.in_ok-take-in_default-text_content.ensures;
      substituted =
          subst (λ (l : List Event). Leads wants_text reads c.args.events.now left chunks l now) {x = drop many rest}
          (sym c.split_at.ensures.back)
          (subst (Leads wants_text reads c.args.events.now left chunks (drop many rest)) {x = before ++ take many rest}
          (sym (together-more inv.given here ∙ ap (λ (l : List Event). before ++ l) is))
          (leads-stay wants_text reads c.args.events.now left before rest chunks many (get_or rest 0 unset)
          first stay c.staying-many.ensures.some c.staying-many.ensures.stay inv.substituted));
      ahead =
          subst (AreNext document (left_places c.loop-left.places) chunks) {x = drop many rest}
          (sym c.split_at.ensures.back)
          (ahead-stays document (left_places c.loop-left.places) chunks many rest (get_or rest 0 unset)
          first stay c.staying-many.ensures.some c.staying-many.ensures.stay inv.ahead);
    }

pub returns : goal.returns
returns g c =
    let document : Document = document_of c.args.parts.now.ahead.now.state.now in
    let reads : Readings = text_readings (g.I.Inline.reads c.args.parts.now.inline.now document) in
    let inv = c.loop-left.invariant in
    let none : c.loop-left.left.now ≡ [] = none-left c.loop-left.left.now (omega (arith, c.in_default.len_below)) in (
      inv.given,
      inv.taken,
      leads-all wants_text reads c.args.events.now (drop c.loop-left.found.placed c.loop-left.found.events.items)
          c.loop-left.left.now (together inv.given) c.loop-left.found.chunks none inv.substituted,
    )

pub place_chunks-left-requires : goal.place_chunks-left-requires
place_chunks-left-requires g c = record {
  some = c.in_ok-or_read-in-Some.ensures.chunks;
  two = omega (arith, c.if-left-gt1.true);
  begins = begins-first c.loop-left.left.now unset c.in-Some.content (omega (arith, c.if-left-gt1.true)) c.in-Some.ensures;
}
