-- Where events lead a walk that shows the endings of blank lines from others.
use Rattle.std.proofs.Common.{◌≡◌, Bool, true, false, ◌&&◌, List, [], ◌∷◌, ◌++◌, refl, ap, ◌∙◌, append_assoc}
use Rattle.std.specs.List.{list_all}
use Rattle.std.proofs.lemmas.Bool.{and_parts}
use Rattle.md_engine.specs.declared.event.Event.{Event}
use Rattle.md_engine.specs.declared.event.Kind.{Kind}
use Rattle.md_engine.specs.declared.event.Kind.TheVariants.{Enter, Exit}
use Rattle.md_engine.specs.declared.event.Name.{Name}
use Rattle.md_engine.specs.declared.event.Point.{Point}
use Rattle.md_events.specs.Events.Endings.{Ends, IsLeaf, IsOther, OnLine, EndingPlace, endings_are_right_from}
use Rattle.md_events.specs.Events.Endings.{ends_as_begun, is_filled, line_start, on_line, spot_after}
use Rattle.md_events.specs.Events.Nested.{around, exit}
use Rattle.md_events.proofs.PlacesLemmas.{all-append}

-- Events that are no ending, and no begin or end of a leaf.

-- whether a name is such an event's
abbrev pub is_other : OnLine → Bool
is_other IsOther = true
is_other x = false

abbrev pub AreOthers : List Event → Type 0
AreOthers es = list_all (λ (e : Event). is_other (on_line e.name)) es ≡ true

-- such events one after the other
pub others-append : (xs ys : List Event) → AreOthers xs → AreOthers ys → AreOthers (xs ++ ys)
others-append xs ys h k = all-append (λ (e : Event). is_other (on_line e.name)) xs ys h k

-- Where events lead.

-- in a leaf, on a line that is filled or not
abbrev pub in_leaf : Bool → EndingPlace
in_leaf filled = record { in_leaf = true; after_leaf = filled }

-- after a leaf, on its last line
abbrev pub following_leaf : EndingPlace
following_leaf = record { in_leaf = false; after_leaf = true }

-- events whose endings are, and that lead from here to there
abbrev pub Leads : EndingPlace → EndingPlace → List Event → Type 0
Leads s t xs = (ys : List Event) → endings_are_right_from s (xs ++ ys) ≡ endings_are_right_from t ys

-- one after the other
pub leads-append : (s t u : EndingPlace) (xs ys : List Event) → Leads s t xs → Leads t u ys → Leads s u (xs ++ ys)
leads-append s t u xs ys h k = λ zs. ap (endings_are_right_from s) (append_assoc xs ys zs) ∙ h (ys ++ zs) ∙ k zs

-- other events lead nowhere, unless a leaf continues over the begin of the line
pub others-lead : (s : EndingPlace) (xs : List Event) → is_filled s ≡ s.after_leaf → AreOthers xs → Leads s s xs
others-lead s [] same h = λ ys. refl
others-lead s (e ∷ xs) same h = λ ys.
    let both : (is_other (on_line e.name) ≡ true) ×
    AreOthers xs = and_parts (is_other (on_line e.name))
    (list_all (λ (e : Event). is_other (on_line e.name)) xs) h in
    one e.kind (on_line e.name) (xs ++ ys) both.0 ∙ others-lead s xs same both.1 ys
  where
    one : (kind : Kind) (x : OnLine) (es : List Event) → is_other x ≡ true →
        (ends_as_begun kind x s && endings_are_right_from (spot_after kind x s) es) ≡ endings_are_right_from s es
    one Enter IsOther es h = ap (λ (filled : Bool). endings_are_right_from (record s { after_leaf = filled }) es) same
    one Exit IsOther es h = refl
    one kind IsLeaf es h = cc
    one kind (Ends blank) es h = cc

-- a leaf
pub leaf-leads : (name : Name) (p q : Point) (inside : List Event) → on_line name ≡ IsLeaf →
    Leads (in_leaf true) (in_leaf true) inside → Leads line_start following_leaf (around name p q inside)
leaf-leads name p q inside leaf h = λ ys.
    ap
    (λ (x : OnLine).
    ends_as_begun Enter x line_start
    && endings_are_right_from (spot_after Enter x line_start) ((inside ++ exit name q ∷ []) ++ ys)) leaf
    ∙ ap (endings_are_right_from (in_leaf true)) (append_assoc inside (exit name q ∷ []) ys)
    ∙ h (exit name q ∷ ys)
    ∙ ap
    (λ (x : OnLine).
    ends_as_begun Exit x (in_leaf true) && endings_are_right_from (spot_after Exit x (in_leaf true)) ys) leaf

-- Inside of a leaf.

-- events that lead out of no leaf,
abbrev pub Stays : List Event → Type 0
Stays xs = (from : Bool) → (to : Bool) × Leads (in_leaf from) (in_leaf to) xs

-- and to a line that is filled
abbrev pub Filling : List Event → Type 0
Filling xs = (from : Bool) → Leads (in_leaf from) (in_leaf true) xs

-- with further ones after them
pub stays-append : (xs ys : List Event) → Stays xs → Stays ys → Stays (xs ++ ys)
stays-append xs ys h k = λ from.
    let mid : Bool = (h from).0 in
    ((k mid).0, leads-append (in_leaf from) (in_leaf mid) (in_leaf (k mid).0) xs ys (h from).1 (k mid).1)

pub filling-append : (xs ys : List Event) → Stays xs → Filling ys → Filling (xs ++ ys)
filling-append xs ys h k =
    λ from. leads-append (in_leaf from) (in_leaf (h from).0) (in_leaf true) xs ys (h from).1 (k (h from).0)

-- so do other events
pub stays-others : (xs : List Event) → AreOthers xs → Stays xs
stays-others [] h = λ from. (from, λ ys. refl)
stays-others (e ∷ xs) h =
    let both : (is_other (on_line e.name) ≡ true) ×
    AreOthers xs = and_parts (is_other (on_line e.name))
    (list_all (λ (e : Event). is_other (on_line e.name)) xs) h in
    stays-append (e ∷ []) xs (λ from. one from e.kind (on_line e.name) both.0) (stays-others xs both.1)
  where
    one : (from : Bool) (kind : Kind) (x : OnLine) → is_other x ≡ true →
        (to : Bool) ×
        ((es : List Event) →
        (ends_as_begun kind x (in_leaf from) && endings_are_right_from (spot_after kind x (in_leaf from)) es) ≡
        endings_are_right_from (in_leaf to) es)
    one from Enter IsOther h = (true, λ es. refl)
    one from Exit IsOther h = (from, λ es. refl)
    one from kind IsLeaf h = cc
    one from kind (Ends blank) h = cc
