use Rattle.std.proofs.lemmas.List.Sums.{prefix_len-le-length}
use Rattle.std.proofs.Common.{ℕ, ◌≡◌, ◌∙◌, ◌++◌, List, ap, arith, drop, false, subst, sym, take}
use Rattle.std.proofs.lemmas.Bool.{or_parts}
use Rattle.md_engine.specs.declared.event.Event.{Event}
use Rattle.md_leaves.specs.declared.spans.Place.TheVariants.{Outside}
use Rattle.md_leaves.specs.declared.spans.Walk.{Walk}
use Rattle.md_leaves.specs.Spanned.{given, is_continued, passes_on, spanned, spanned_from, turn}
use Rattle.md_leaves.specs.SpannedWalk.{given_of, passing, rest_of}
use Rattle.md_leaves.specs.Turned.{HoldNoUnderline, is_underline}
use Rattle.md_events.specs.Rewritten.{held_of, left_of, written_of}
use Rattle.md_events.specs.Parts.{ArePlaced}
use Rattle.md_leaves.proofs.SpannedLemmas.{passing-on, plain-append, plain-given, plain-passed, spanned-placed}
use Rattle.md_leaves.proofs.SpannedLemmas.{spanned-some, walk-done, walk-passed, walk-stepped}
use Rattle.md_leaves.proofs.spans.join.Goals as goal

pub hold_many-requires : goal.hold_many-requires
hold_many-requires c =
    let le = prefix_len-le-length (passes_on Outside) c.args.events.items in
    rw c.new.ensures.left (omega (arith, le, c.requires))

pub loop-event-init : goal.loop-event-init
loop-event-init c =
    let events : List Event = c.args.events.items in
    let many : ℕ = c.args.many in
    let held = c.hold_many.new.self in
    let begun : Walk = record { all = held; place = Outside; underlines = false } in
    let given : given_of begun ≡ take many events =
    ap (λ (l : List Event). l ++ held_of held) (c.hold_many.ensures.written ∙ c.new.ensures.written)
    ∙ c.hold_many.ensures.held
    ∙ ap (λ (l : List Event). l ++ take many (left_of c.new.result)) c.new.ensures.held
    ∙ ap (take many) c.new.ensures.left in
    let rest : rest_of begun ≡ drop many events = c.hold_many.ensures.left ∙ ap (drop many) c.new.ensures.left in
    let on = passing-on Outside events in
    let whole : given_of begun ++ spanned_from Outside (rest_of begun) ≡ spanned events =
    rw (given, rest) (sym (spanned-some Outside events many (omega (arith, on, c.requires)))) in
    record {
      whole = walk-passed Outside c.pass.new.self.place (given_of begun) (rest_of begun) (given_of c.pass.new.self)
          (rest_of c.pass.new.self) (spanned events) (passing begun) (passing-on Outside (rest_of begun))
          c.pass.ensures.given c.pass.ensures.rest c.pass.ensures.place whole;
      plain = λ none.
          subst HoldNoUnderline (sym c.pass.ensures.given)
          (plain-append (given_of begun) (take (passing begun) (rest_of begun))
          (subst HoldNoUnderline (sym given) (plain-passed Outside events many c.requires))
          (plain-passed Outside (rest_of begun) (passing begun) (omega arith)));
    }

pub loop-event-preserved : goal.loop-event-preserved
loop-event-preserved c =
    let old = c.loop-event.walk in
    let new = c.step.new.self in
    let past = c.pass-in-Some.new.self in
    let all = spanned c.args.events.items in
    let left : List Event = drop 1 (rest_of old) in
    record {
      whole =
          walk-passed new.place past.place (given_of new) (rest_of new) (given_of past) (rest_of past) all (passing new)
          (passing-on new.place (rest_of new)) c.pass-in-Some.ensures.given c.pass-in-Some.ensures.rest
          c.pass-in-Some.ensures.place
          (walk-stepped old.place new.place (given_of old) (rest_of old) (given_of new) (rest_of new) all
          c.in-Some.event
          c.in-Some.ensures.some c.in_ok-step.ensures.given c.in_ok-step.ensures.rest c.in_ok-step.ensures.place
          c.loop-event.invariant.whole);
      plain = λ none.
          let both : (old.underlines ≡ false) × (is_underline c.in-Some.event.name ≡ false) =
          or_parts old.underlines (is_underline c.in-Some.event.name)
          (sym c.in_ok-step.ensures.underlines ∙ sym c.pass-in-Some.ensures.underlines ∙ none) in
          subst HoldNoUnderline (sym c.pass-in-Some.ensures.given)
          (plain-append (given_of new) (take (passing new) (rest_of new))
          (subst HoldNoUnderline (sym c.in_ok-step.ensures.given)
          (plain-append (given_of old) (given old.place c.in-Some.event left) (c.loop-event.invariant.plain both.0)
          (plain-given (turn c.in-Some.event) old.place (is_continued left) c.in-Some.event both.1)))
          (plain-passed new.place (rest_of new) (passing new) (omega arith)));
    }

all-walked : (c : goal.After-finish) → written_of c.give.new.self ≡ spanned c.args.events.items
all-walked c =
    c.give.ensures.written
    ∙ walk-done c.loop-event.walk.place (given_of c.loop-event.walk) (rest_of c.loop-event.walk)
    (spanned c.args.events.items) c.in_default.ensures.none c.loop-event.invariant.whole

pub returns-clause-events : goal.returns-clause-events
returns-clause-events c = c.finish.ensures ∙ all-walked c

pub returns-clause-placed : goal.returns-clause-placed
returns-clause-placed c = λ text h.
    subst (ArePlaced text) (sym (c.finish.ensures ∙ all-walked c)) (spanned-placed text c.args.events.items h)

pub returns-clause-underlines : goal.returns-clause-underlines
returns-clause-underlines c = λ none.
    subst HoldNoUnderline (sym (c.finish.ensures ∙ c.give.ensures.written)) (c.loop-event.invariant.plain none)
