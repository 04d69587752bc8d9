use Rattle.std.proofs.Common.{◌≡◌, ℕ, ◌+◌, ◌-◌, List, ◌++◌, take, drop, length, length-append, ap, arith, refl}
use Rattle.std.proofs.Common.{replicate, sym, ◌∙◌}
use Rattle.std.proofs.lemmas.List.{length-replicate, take-append-le, take-take, take_at, with_items_is}
use Rattle.std.specs.Vec.{vec_len, with_items}
use Rattle.md_engine.specs.declared.event.Event.{Event}
use Rattle.md_events.proofs.RewrittenLemmas.{made-longer, moved-following}
use Rattle.md_events.proofs.rewriting.Rewriting.widen.Goals as goal

-- a list is made longer by so many events
record Longer (old new : List Event) (many : ℕ) : Type 0 where
  more : List Event
  size : length more ≡ many
  is : new ≡ old ++ more

made : (old new : List Event) (end len many size : ℕ) (e : Event) → end ≡ len + many → len ≡ length old → size ≡ many →
    new ≡ take end old ++ replicate size e → Longer old new many
made old new end len many size e sum all more is = record {
  more = replicate size e;
  size = length-replicate size e ∙ more;
  is = is ∙ ap (λ (n : ℕ). take n old ++ replicate size e) sum ∙ made-longer old (replicate size e) len many all;
}

long : (old new : List Event) (many : ℕ) → Longer old new many → length new ≡ length old + many
long old new many h = ap length h.is ∙ length-append old h.more ∙ ap (λ (n : ℕ). length old + n) h.size

pub move_up-requires : goal.move_up-requires
move_up-requires c =
    let old : List Event = c.args.self.now.events.items in
    let new : List Event = c.deref_mut.result.now in
    let h : Longer old new c.room_for-many.result =
    made old new c.in-Some.new_end c.len-end.result c.room_for-many.result
    (c.in-Some.new_end - vec_len c.args.self.now.events) _ c.in-Some.ensures.1 (omega arith) (omega arith)
    (c.deref_mut.ensures.value ∙ (rw c.if-is_err.ensures.negation at c.resize.ensures.items)) in
    omega (arith, long old new c.room_for-many.result h, c.room_for-many.ensures.some)

longer : (c : goal.After-self-3-1) →
    Longer c.args.self.now.events.items c.deref_mut.result.now c.room_for-many.result
longer c =
    made c.args.self.now.events.items c.deref_mut.result.now c.in-Some.new_end c.len-end.result c.room_for-many.result
    (c.in-Some.new_end - vec_len c.args.self.now.events) _ c.in-Some.ensures.1 (omega arith) (omega arith)
    (c.deref_mut.ensures.value ∙ (rw c.if-is_err.ensures.negation at c.resize.ensures.items))

back : (c : goal.After-self-3-1) →
    drop (c.args.self.now.done + c.room_for-many.result) c.move_up.new.events
    ≡ drop c.args.self.now.done c.args.self.now.events.items
back c =
    let h = longer c in
    let old : List Event = c.args.self.now.events.items in
    c.move_up.ensures.moved
    ∙ ap (drop c.args.self.now.done)
    (ap (λ (n : ℕ). take n c.deref_mut.result.now)
    (omega (arith, long old c.deref_mut.result.now c.room_for-many.result h))
    ∙ ap (take (length old)) h.is ∙ take_at old h.more (length old) refl)

set : (c : goal.After-self-3-1) →
    (with_items c.resize.new.self c.move_up.new.events).items ≡ c.move_up.new.events
set c =
    with_items_is c.resize.new.self c.move_up.new.events (c.move_up.ensures.many ∙ c.deref_mut.ensures.len)

pub returns-clause-left : goal.returns-clause-left
returns-clause-left c =
    ap (drop (c.args.self.now.read + c.room_for-many.result)) (set c)
    ∙ moved-following c.args.self.now.events.items c.move_up.new.events c.args.self.now.done c.args.self.now.read
    c.room_for-many.result (omega arith) (back c)

pub returns-clause-held : goal.returns-clause-held
returns-clause-held c =
    let new : List Event = c.move_up.new.events in
    let done : ℕ = c.args.self.now.done in
    let read : ℕ = c.args.self.now.read in
    let many : ℕ = c.room_for-many.result in
    ap (λ (l : List Event). take (read + many - (done + many)) (drop (done + many) l)) (set c)
    ∙ ap (λ (n : ℕ). take n (drop (done + many) new)) (omega arith) ∙ ap (take (read - done)) (back c)

pub returns-clause-written : goal.returns-clause-written
returns-clause-written c =
    let h = longer c in
    let old : List Event = c.args.self.now.events.items in
    let written : ℕ = c.args.self.now.written in
    let done : ℕ = c.args.self.now.done in
    ap (take written) (set c)
    ∙ sym (take-take written done c.move_up.new.events (omega arith))
    ∙ ap (take written) c.move_up.ensures.before
    ∙ take-take written done c.deref_mut.result.now (omega arith)
    ∙ ap (take written) h.is
    ∙ take-append-le written old h.more (omega arith)
