use Rattle.std.proofs.Common.{◌≡◌, ◌+◌, List, ap, arith, get_or, subst, sym, ◌∙◌}
use Rattle.md_engine.specs.declared.event.Event.{Event}
use Rattle.md_engine.specs.Place.{IsPlaced}
use Rattle.md_events.specs.Parts.{ArePlaced}
use Rattle.md_events.specs.Rewritten.{left_of}
use Rattle.md_tables.proofs.HeadsWalk.{head-two, leads-all, leads-first, leads-headed, leads-held}
use Rattle.md_tables.proofs.Unset.{unset}
use Rattle.md_tables.proofs.heads.put_heads.Goals as goal

pub loop-event-init : goal.loop-event-init
loop-event-init c =
    let bytes = c.args.bytes.now in
    let options = c.args.options.now in
    let begun = c.new-all.ensures in
    let held = c.hold_many.ensures in
    let passed = rw c.left.ensures at (c.until_head-many.ensures.passed bytes options) in
    leads-held bytes options c.args.events.items c.new-all.result c.hold_many.new.self c.until_head-many.result
    held.left held.held held.written passed
    (leads-first bytes options c.args.events.items c.new-all.result begun.left begun.held begun.written
    c.requires.placed)

pub read_head-requires-clause-first : goal.read_head-requires-clause-first
read_head-requires-clause-first c =
    let is = sym c.is_head.ensures ∙ c.if-not-is_head.false in
    let two = head-two (left_of c.loop-event.all) (rw c.left-in-Some.ensures at is) in
    subst (λ (e : Event). IsPlaced c.args.bytes.now e.point)
    (ap (λ (l : List Event). get_or l 0 unset) c.in-Some.ensures.some)
    (c.loop-event.invariant.left 0 unset (omega (arith, two)))

pub read_head-requires-clause-after : goal.read_head-requires-clause-after
read_head-requires-clause-after c =
    let is = sym c.is_head.ensures ∙ c.if-not-is_head.false in
    let two = head-two (left_of c.loop-event.all) (rw c.left-in-Some.ensures at is) in
    rw c.left-in-Some-2.ensures (c.loop-event.invariant.left 1 unset two)

pub loop-event-preserved-then-not-is_head : goal.loop-event-preserved-then-not-is_head
loop-event-preserved-then-not-is_head c =
    let bytes = c.args.bytes.now in
    let options = c.args.options.now in
    let held = c.hold_many-then-not-is_head.ensures in
    let passed = rw c.left-then-not-is_head.ensures at (c.until_next-many.ensures.passed bytes options) in
    leads-held bytes options c.args.events.items c.loop-event.all c.hold_many-then-not-is_head.new.self
    c.until_next-many.result held.left held.held held.written passed c.loop-event.invariant

pub loop-event-preserved : goal.loop-event-preserved
loop-event-preserved c =
    let bytes = c.args.bytes.now in
    let options = c.args.options.now in
    let put = c.in_ok-push_all.ensures in
    let read = c.in_ok-read_head.ensures in
    let is = sym c.is_head.ensures ∙ c.if-not-is_head.false in
    leads-headed bytes options c.args.events.items c.loop-event.all c.push_all.new.self c.read_head.new.events.items
    c.in-Some.event unset c.in-Some.ensures.some (rw c.left-in-Some.ensures at is) (put.left ∙ c.skip.ensures.left)
    (put.held ∙ c.skip.ensures.held) (rw (c.skip.ensures.written, c.deref.ensures.value) at put.written)
    (rw c.left-in-Some-2.ensures at read.events) read.placed c.loop-event.invariant

pub returns-clause-placed : goal.returns-clause-placed
returns-clause-placed c =
    subst (ArePlaced c.args.bytes.now) (sym (c.finish.ensures ∙ c.give.ensures.written)) c.loop-event.invariant.given

pub returns-clause-events : goal.returns-clause-events
returns-clause-events c =
    c.finish.ensures ∙ c.give.ensures.written
    ∙ leads-all c.args.bytes.now c.args.options.now c.args.events.items c.loop-event.all c.in_default.ensures.none
    c.loop-event.invariant
