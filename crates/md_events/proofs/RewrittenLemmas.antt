-- A list of events that is rewritten in its own place.
use Rattle.std.proofs.Common.{◌≡◌, ℕ, ◌+◌, ◌-◌, ◌≤◌, List, [], ◌∷◌, ◌++◌, take, drop, length, set, sym, ◌∙◌, ap, arith}
use Rattle.std.proofs.Common.{◌<◌}
use Rattle.std.proofs.Math.Seq.{take-add}
use Rattle.std.proofs.lemmas.List.{drop-drop, drop-set, drop-set-add, drop-take, take-set, take_all}
use Rattle.md_engine.specs.declared.event.Event.{Event}

-- one event more is held
pub held-more : (events : List Event) (done read : ℕ) (e : Event) → done ≤ read →
    drop read events ≡ e ∷ drop 1 (drop read events) →
    take (read + 1 - done) (drop done events) ≡ take (read - done) (drop done events) ++ e ∷ []
held-more events done read e le front =
    let k = read - done in
    let at : drop k (drop done events) ≡ drop read events = drop-drop k done events
    ∙ ap (λ (n : ℕ). drop n events) (omega arith) in
    ap (λ (n : ℕ). take n (drop done events)) (omega arith)
    ∙ take-add k 1 (drop done events)
    ∙ ap (λ (es : List Event). take k (drop done events) ++ take 1 es) (at ∙ front)

-- and so is one that is put in its place
pub held-set : (events : List Event) (done read : ℕ) (e : Event) → done ≤ read → read < length events →
    take (read + 1 - done) (drop done (set events read e)) ≡ take (read - done) (drop done events) ++ e ∷ []
held-set events done read e le within =
    let new : List Event = set events read e in
    let following : drop read new ≡ e ∷ drop (read + 1) events = drop-set events read e within in
    let front : drop read new ≡ e ∷ drop 1 (drop read new) =
    following ∙ ap (λ (l : List Event). e ∷ l) (sym (ap (drop 1) following)) in
    let at : read ≡ done + (read - done) = omega arith in
    held-more new done read e le front
    ∙ ap (λ (l : List Event). l ++ e ∷ [])
    (ap (λ (n : ℕ). take (read - done) (drop done (set events n e))) at
    ∙ ap (take (read - done)) (drop-set-add done events (read - done) e)
    ∙ take-set (drop done events) (read - done) e)

-- so many events more are held
pub held-many : (events : List Event) (done read count : ℕ) → done ≤ read →
    take (read + count - done) (drop done events) ≡ take (read - done) (drop done events)
    ++ take count (drop read events)
held-many events done read count le =
    let k = read - done in
    let at : drop k (drop done events) ≡ drop read events = drop-drop k done events
    ∙ ap (λ (n : ℕ). drop n events) (omega arith) in
    ap (λ (n : ℕ). take n (drop done events)) (omega arith)
    ∙ take-add k count (drop done events)
    ∙ ap (λ (es : List Event). take k (drop done events) ++ take count es) at

-- so many fewer are held
pub held-fewer : (events : List Event) (done read count : ℕ) → count ≤ read - done →
    take (read - (done + count)) (drop (done + count) events) ≡ drop count (take (read - done) (drop done events))
held-fewer events done read count le =
    let m = read - (done + count) in
    sym
    (ap (λ (n : ℕ). drop count (take n (drop done events))) (omega arith)
    ∙ drop-take count m (drop done events)
    ∙ ap (take m) (drop-drop count done events ∙ ap (λ (n : ℕ). drop n events) (omega arith)))

-- A list is made longer, and what is after `done` is moved up by so many places.

pub made-longer : (events more : List Event) (end many : ℕ) → end ≡ length events →
    take (end + many) events ++ more ≡ events ++ more
made-longer events more end many is = ap (λ (l : List Event). l ++ more) (take_all (end + many) events (omega arith))

-- then so is what is after it
pub moved-following : (events new : List Event) (done read many : ℕ) → done ≤ read →
    drop (done + many) new ≡ drop done events → drop (read + many) new ≡ drop read events
moved-following events new done read many le moved =
    ap (λ (n : ℕ). drop n new) (omega arith)
    ∙ sym (drop-drop (read - done) (done + many) new)
    ∙ ap (drop (read - done)) moved
    ∙ drop-drop (read - done) done events
    ∙ ap (λ (n : ℕ). drop n events) (omega arith)
