-- What is found of events is found after those that have no link and begin no label.
use Rattle.std.proofs.Common.{◌≡◌, ℕ, suc, ◌+◌, Bool, true, false, ◌&&◌, cond, List, [], ◌∷◌, drop, refl, ap, sym, ◌∙◌}
use Rattle.std.proofs.Common.{arith, true≢false}
use Rattle.std.specs.List.{prefix_len}
use Rattle.std.specs.Prelude.{is_none, not}
use Rattle.std.proofs.lemmas.Bool.{and_parts}
use Rattle.md_engine.specs.declared.event.Event.{Event}
use Rattle.md_engine.specs.Found.{Found}
use Rattle.md_content.specs.Labels.{begins_label, labels_in}
use Rattle.md_content.specs.Resolves.{found_in_content, has_neither, is_all_read}

-- the first of some events is passed where it has neither
passed : (A : Type 0) (f : List Event → A) (e : Event) (es : List Event) →
    (has_neither e ≡ true → f (drop (prefix_len has_neither es) es) ≡ f (e ∷ es)) →
    f (drop (prefix_len has_neither (e ∷ es)) (e ∷ es)) ≡ f (e ∷ es)
passed A f e es h = by (has_neither e) refl
  where
    run : ℕ
    run = prefix_len has_neither es

    by : (x : Bool) → has_neither e ≡ x → f (drop (cond (has_neither e) (1 + run) 0) (e ∷ es)) ≡ f (e ∷ es)
    by false is = ap (λ x. f (drop (cond x (1 + run) 0) (e ∷ es))) is
    by true is =
        let more : 1 + run ≡ suc run = omega arith in
        ap (λ x. f (drop (cond x (1 + run) 0) (e ∷ es))) is ∙ ap (λ n. f (drop n (e ∷ es))) more ∙ h is

labels-following : (bytes : List ℕ) (es : List Event) →
    labels_in bytes (drop (prefix_len has_neither es) es) ≡ labels_in bytes es
labels-following bytes [] = refl
labels-following bytes (e ∷ es) =
    passed (List (List ℕ)) (labels_in bytes) e es (λ is.
    labels-following bytes es ∙ unlabelled (begins_label e) refl
    (and_parts (is_none e.link) (not (begins_label e)) is).1)
  where
    unlabelled : (x : Bool) → begins_label e ≡ x → not (begins_label e) ≡ true →
        labels_in bytes es ≡ labels_in bytes (e ∷ es)
    unlabelled false is none = rw is refl
    unlabelled true is none = absurd (true≢false (sym none ∙ ap not is))

read-following : (es : List Event) → is_all_read (drop (prefix_len has_neither es) es) ≡ is_all_read es
read-following [] = refl
read-following (e ∷ es) =
    passed Bool is_all_read e es (λ is.
    read-following es ∙ sym (ap (λ x. x && is_all_read es) (and_parts (is_none e.link) (not (begins_label e)) is).0))

abbrev found_of : Bool → List (List ℕ) → List (List ℕ) → Found
found_of done labels notes = record { done = done; definitions = labels; footnotes = notes }

-- so what is found after them is what is found of all
pub found-following : (bytes : List ℕ) (es : List Event) (done : Bool) (labels notes : List (List ℕ)) →
    done ≡ is_all_read (drop (prefix_len has_neither es) es) →
    labels ≡ labels_in bytes (drop (prefix_len has_neither es) es) → notes ≡ [] →
    found_of done labels notes ≡ found_in_content bytes es
found-following bytes es done labels notes read found none =
    ap (λ x. found_of x labels notes) (read ∙ read-following es)
    ∙ ap (λ x. found_of (is_all_read es) x notes) (found ∙ labels-following bytes es)
    ∙ ap (found_of (is_all_read es) (labels_in bytes es)) none
