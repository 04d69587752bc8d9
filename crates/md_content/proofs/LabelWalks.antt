-- The text of a label, and the labels among events, one event after another.
use Rattle.std.proofs.Common.{◌≡◌, ℕ, suc, ◌+◌, ◌<◌, ◌≤◌, true, false, ◌&&◌, List, [], ◌∷◌, ◌++◌, length, get_or, drop}
use Rattle.std.proofs.Common.{refl, sym, ◌∙◌, ap, add-one, append_assoc, append-nil, drop-cons, arith, length-drop}
use Rattle.std.proofs.Common.{Bool, cond}
use Rattle.std.proofs.lemmas.List.{drop-drop}
use Rattle.std.specs.List.{position_or_len}
use Rattle.std.specs.Prelude.{not}
use Rattle.md_meaning.specs.Label.{normal_form}
use Rattle.md_meaning.specs.Texts.{split_lines}
use Rattle.md_engine.specs.declared.event.Event.{Event}
use Rattle.md_content.specs.LabelTexts.{on_one_line}
use Rattle.md_content.specs.Labels.{begins_label, is_label, label_text, labels_in}
use Rattle.md_content.proofs.LabelTexts.{normal-on_one_line}
use Rattle.md_events.specs.Events.Nested.{is_enter}

-- Bytes on one line.

-- The text of a label.

-- what is read so far, before an event
pub record Reading (bytes : List ℕ) (events : List Event) (i : ℕ) (text : List ℕ) : Type 0 where
  pub so_far : text ++ on_one_line (label_text bytes (drop i events)) ≡ on_one_line (label_text bytes events)

-- where the events do
pub label-cut : (bytes : List ℕ) (events : List Event) (i : ℕ) (text : List ℕ) → length events ≤ i + 1 →
    Reading bytes events i text → text ≡ on_one_line (label_text bytes events)
label-cut bytes events i text le r =
    let none : label_text bytes (drop i events) ≡ [] = short (drop i events) (omega (arith, length-drop i events)) in
    sym (append-nil text) ∙ ap (λ (l : List ℕ). text ++ on_one_line l) (sym none) ∙ r.so_far
  where
    short : (es : List Event) → length es ≤ 1 → label_text bytes es ≡ []
    short [] h = refl
    short (e ∷ []) h = refl
    short (e ∷ f ∷ es) h = absurd (omega arith)

-- All labels.

-- one more that begins here
pub label-found : (bytes : List ℕ) (events : List Event) (i : ℕ) (d : Event) (found : List (List ℕ))
    (text : List ℕ) →
    i < length events →
    is_enter (get_or events i d).kind && is_label (get_or events i d).name ≡ true →
    text ≡ on_one_line (label_text bytes (drop (i + 1) events)) →
    found ++ labels_in bytes (drop i events) ≡ labels_in bytes events →
    (found ++ normal_form (text ∷ []) ∷ []) ++ labels_in bytes (drop (i + 1) events) ≡ labels_in bytes events
label-found bytes events i d found text lt begins read so_far =
    let form : List ℕ = normal_form (split_lines (label_text bytes (drop (i + 1) events))) in
    let is : labels_in bytes (drop i events) ≡ form ∷ labels_in bytes (drop (i + 1) events) =
    ap (labels_in bytes) (drop-cons events i d lt)
    ∙ rw begins
    (ap
    (λ (j : ℕ). normal_form (split_lines (label_text bytes (drop j events))) ∷ labels_in bytes (drop j events))
    (sym (add-one i))) in
    let same : normal_form (text ∷ []) ≡ form =
    ap (λ (l : List ℕ). normal_form (l ∷ [])) read ∙ normal-on_one_line (label_text bytes (drop (i + 1) events)) in
    ap (λ (l : List ℕ). (found ++ l ∷ []) ++ labels_in bytes (drop (i + 1) events)) same
    ∙ append_assoc found (form ∷ []) (labels_in bytes (drop (i + 1) events))
    ∙ ap (λ (l : List (List ℕ)). found ++ l) (sym is) ∙ so_far

-- before the first there are none
labels-before : (bytes : List ℕ) (es : List Event) →
    labels_in bytes (drop (position_or_len begins_label es) es) ≡ labels_in bytes es
labels-before bytes [] = refl
labels-before bytes (e ∷ es) = by (begins_label e) refl (labels-before bytes es)
  where
    run : ℕ
    run = position_or_len begins_label es

    by : (x : Bool) → begins_label e ≡ x → labels_in bytes (drop run es) ≡ labels_in bytes es →
        labels_in bytes (drop (cond (not (begins_label e)) (1 + run) 0) (e ∷ es)) ≡ labels_in bytes (e ∷ es)
    by false none following =
        let more : 1 + run ≡ suc run = omega arith in
        ap (λ x. labels_in bytes (drop (cond (not x) (1 + run) 0) (e ∷ es))) none
        ∙ ap (λ n. labels_in bytes (drop n (e ∷ es))) more
        ∙ following
        ∙ sym
        (ap (λ x. cond x (normal_form (split_lines (label_text bytes es)) ∷ labels_in bytes es) (labels_in bytes es))
        none)
    by true begins following = ap (λ x. labels_in bytes (drop (cond (not x) (1 + run) 0) (e ∷ es))) begins

-- and so after a place
pub labels-passed : (bytes : List ℕ) (events : List Event) (i n : ℕ) (found : List (List ℕ)) →
    n ≡ position_or_len begins_label (drop i events) →
    found ++ labels_in bytes (drop i events) ≡ labels_in bytes events →
    found ++ labels_in bytes (drop (i + n) events) ≡ labels_in bytes events
labels-passed bytes events i n found is so_far =
    ap (λ (l : List Event). found ++ labels_in bytes l) (sym (drop-drop n i events))
    ∙ ap (λ (k : ℕ). found ++ labels_in bytes (drop k (drop i events))) is
    ∙ ap (λ (l : List (List ℕ)). found ++ l) (labels-before bytes (drop i events)) ∙ so_far
