-- Events are moved to the front of their list, and appended to another piece by piece.
use Rattle.std.proofs.Common.{◌≡◌, ℕ, ◌+◌, ◌-◌, ◌≤◌, List, ◌++◌, length, take, drop, refl, sym, ◌∙◌, ap, arith}
use Rattle.std.proofs.Common.{append_assoc, length-drop}
use lib.Seq.{paste}
use Rattle.std.proofs.Math.Seq.{take-add}
use Rattle.std.proofs.lemmas.List.{drop-drop, drop-take, drop_at, length-take-le, take-append-drop, take-append-le}
use Rattle.std.proofs.lemmas.List.{take-take, take_at}
use Rattle.std.proofs.lemmas.List.Edits.{drop-paste}
use Rattle.md_engine.specs.declared.event.Event.{Event}
use Rattle.md_events.proofs.RewrittenLemmas.{held-many}

pub following-moved : (events : List Event) (to from end : ℕ) → to ≤ from → from ≤ end → end ≤ length events →
    drop end (paste events to (drop from events) (end - from)) ≡ drop end events
following-moved events to from end low le within =
    let n = end - from in
    let new : List Event = paste events to (drop from events) n in
    let far = end - (to + n) in
    let at : (es : List Event) → drop far (drop (to + n) es) ≡ drop end es = λ es. drop-drop far (to + n) es
    ∙ ap (λ (k : ℕ). drop k es) (omega arith) in
    sym (at new)
    ∙ ap (drop far) (drop-paste events to (drop from events) n (omega arith) (simp length-drop (omega arith)))
    ∙ at events

-- where they stay
pub unmoved : (events : List Event) (to from end : ℕ) → to ≡ from →
    take (to + (end - from)) events ≡ take to events ++ take (end - from) (drop from events)
unmoved events to from end same =
    take-add to (end - from) events ∙ ap (λ (n : ℕ). take to events ++ take (end - from) (drop n events)) same

-- where they are copied
pub following-copied : (events front back : List Event) (from end : ℕ) → from ≤ end → length front ≡ from →
    back ≡ drop from events → drop end (front ++ back) ≡ drop end events
following-copied events front back from end le long is =
    let far = end - from in
    ap (λ (n : ℕ). drop n (front ++ back)) (omega arith)
    ∙ sym (drop-drop far (length front) (front ++ back))
    ∙ ap (drop far) (drop_at front back (length front) refl ∙ is)
    ∙ drop-drop far from events ∙ ap (λ (n : ℕ). drop n events) (omega arith)

-- so many of the events that are left are appended
pub piece-appended : (events old new all : List Event) (at many : ℕ) → new ≡ old ++ take many (drop at events) →
    old ++ drop at events ≡ all → new ++ drop (at + many) events ≡ all
piece-appended events old new all at many is so_far =
    rw is
    (append_assoc old (take many (drop at events)) (drop (at + many) events)
    ∙ ap (λ (l : List Event). old ++ (take many (drop at events) ++ l)) (sym (drop-drop many at events))
    ∙ ap (λ (l : List Event). old ++ l) (take-append-drop many (drop at events)) ∙ so_far)

-- Events are moved down piece by piece, by so many places.

-- so many more are there,
pub piece-down : (old now front back : List Event) (to from at gap many : ℕ) → gap ≡ from - to → to ≤ from → from ≤ at →
    at + many ≤ length now → many ≤ gap → length front ≡ at → back ≡ drop at now →
    take (at - gap + length (take many back)) front ≡ take (at - gap) (take at now) ++ take many back →
    take (to + (at - from)) now ≡ take to old ++ take (at - from) (drop from old) → drop at now ≡ drop at old →
    take (to + (at + many - from)) (front ++ back) ≡ take to old ++ take (at + many - from) (drop from old)
piece-down old now front back to from at gap many by low reached within small long is copied so_far following =
    let size : length (take many back) ≡ many =
    length-take-le many back (rw is (simp length-drop (omega (arith, within)))) in
    let end : to + (at + many - from) ≡ at - gap + length (take many back) = omega (arith, size) in
    let start : at - gap ≡ to + (at - from) = omega arith in
    ap (λ (n : ℕ). take n (front ++ back)) end
    ∙ take-append-le (at - gap + length (take many back)) front back (omega (arith, size))
    ∙ copied
    ∙ ap (λ (l : List Event). l ++ take many back)
    (take-take (at - gap) at now (omega arith) ∙ ap (λ (n : ℕ). take n now) start ∙ so_far)
    ∙ ap (λ (l : List Event). (take to old ++ take (at - from) (drop from old)) ++ take many l) (is ∙ following)
    ∙ append_assoc (take to old) (take (at - from) (drop from old)) (take many (drop at old))
    ∙ ap (λ (l : List Event). take to old ++ l) (sym (held-many old from at many reached))

-- and after them nothing has changed
pub piece-following : (old now front back : List Event) (at many : ℕ) → length front ≡ at → back ≡ drop at now →
    drop at now ≡ drop at old → drop (at + many) (front ++ back) ≡ drop (at + many) old
piece-following old now front back at many long is following =
    following-copied now front back at (at + many) (omega arith) long is
    ∙ sym (drop-drop many at now) ∙ ap (drop many) following ∙ drop-drop many at old

-- Events are moved up piece by piece, by so many places, the last first.

-- so many more are there,
pub piece-up : (old now front back new : List Event) (end gap many : ℕ) → front ≡ take (end + gap) now →
    back ≡ drop (end + gap) now → many ≤ gap → end + gap + many ≤ length old → length front ≡ end + gap →
    length old ≡ length now →
    take (0 + length (take many (drop end front))) new ≡ take many (drop end front) →
    drop (0 + length (take many (drop end front))) new ≡ drop (0 + length (take many (drop end front))) back →
    take (end + many + gap) now ≡ take (end + many + gap) old →
    drop (end + many + gap) now ≡ drop (end + many) (take (length old - gap) old) →
    drop (end + gap) (front ++ new) ≡ drop end (take (length old - gap) old)
piece-up old now front back new end gap many first is small within long size copied rest before so_far =
    let kept : List Event = take (length old - gap) old in
    let piece : List Event = take many (drop end front) in
    let many' : length piece ≡ many = length-take-le many (drop end front) (simp length-drop (omega (arith, long))) in
    let same : front ≡ take (end + gap) old =
    first ∙ sym (take-take (end + gap) (end + many + gap) now (omega arith))
    ∙ ap (take (end + gap)) before ∙ take-take (end + gap) (end + many + gap) old (omega arith) in
    let moved : piece ≡ take many (drop end kept) =
    ap (λ (l : List Event). take many (drop end l)) same
    ∙ ap (take many) (cut old end gap) ∙ take-take many gap (drop end old) small
    ∙ sym
    (ap (λ (n : ℕ). take many (drop end (take n old))) (omega arith)
    ∙ ap (take many) (cut old end (length old - gap - end))
    ∙ take-take many (length old - gap - end) (drop end old) (omega arith)) in
    let none : 0 + length piece ≡ length piece = omega arith in
    let following : drop (length piece) new ≡ drop many (drop end kept) =
    ap (λ (n : ℕ). drop n new) (sym none) ∙ rest ∙ ap (λ (n : ℕ). drop n back) none ∙ ap (λ (n : ℕ). drop n back) many'
    ∙ ap (drop many) is ∙ drop-drop many (end + gap) now
    ∙ ap (λ (n : ℕ). drop n now) (omega arith) ∙ so_far
    ∙ sym (drop-drop many end kept ∙ ap (λ (n : ℕ). drop n kept) (omega arith)) in
    drop_at front new (end + gap) long
    ∙ sym (take-append-drop (length piece) new)
    ∙ ap (λ (l : List Event). l ++ drop (length piece) new) (ap (λ (n : ℕ). take n new) (sym none) ∙ copied)
    ∙ ap (λ (l : List Event). piece ++ l) following
    ∙ ap (λ (l : List Event). l ++ drop many (drop end kept)) moved
    ∙ take-append-drop many (drop end kept)
  where
    cut : (es : List Event) (n k : ℕ) → drop n (take (n + k) es) ≡ take k (drop n es)
    cut es n k = drop-take n k es

-- and before them nothing has changed
pub piece-before : (old now front new : List Event) (end gap many : ℕ) → front ≡ take (end + gap) now →
    length front ≡ end + gap → take (end + many + gap) now ≡ take (end + many + gap) old →
    take (end + gap) (front ++ new) ≡ take (end + gap) old
piece-before old now front new end gap many first long before =
    take_at front new (end + gap) long ∙ first
    ∙ sym (take-take (end + gap) (end + many + gap) now (omega arith))
    ∙ ap (take (end + gap)) before ∙ take-take (end + gap) (end + many + gap) old (omega arith)
