-- The labels among some events, by parts of them.
use Rattle.std.proofs.Common.{◌≡◌, ℕ, Bool, true, false, not, ◌&&◌, List, [], ◌∷◌, ◌++◌, refl}
use Rattle.std.proofs.lemmas.Bool.{and_parts}
use Rattle.std.specs.List.{list_all}
use Rattle.md_engine.specs.declared.event.Event.{Event}
use Rattle.md_content.specs.Labels.{is_label, labels_in}
use Rattle.md_events.specs.Events.Nested.{is_enter}

-- no label is among these
abbrev pub has_no_label : List Event → Bool
has_no_label es = list_all (λ (e : Event). not (is_label e.name)) es

-- Where none is.

none-begins : (x y : Bool) → not y ≡ true → x && y ≡ false
none-begins true false e = refl
none-begins true true e = cc
none-begins false y e = refl

pub labels-none : (bytes : List ℕ) (es : List Event) → has_no_label es ≡ true → labels_in bytes es ≡ []
labels-none bytes [] h = refl
labels-none bytes (e ∷ es) h =
    let parts = and_parts _ _ h in
    rw (none-begins (is_enter e.kind) (is_label e.name) parts.0) (labels-none bytes es parts.1)

-- such events before others
pub labels-skip : (bytes : List ℕ) (xs ys : List Event) → has_no_label xs ≡ true →
    labels_in bytes (xs ++ ys) ≡ labels_in bytes ys
labels-skip bytes [] ys h = refl
labels-skip bytes (e ∷ es) ys h =
    let parts = and_parts _ _ h in
    rw (none-begins (is_enter e.kind) (is_label e.name) parts.0) (labels-skip bytes es ys parts.1)

-- Parts in which each label ends.

-- A label.

-- Where lines are made to end at their chunks, labels begin and end as before.
