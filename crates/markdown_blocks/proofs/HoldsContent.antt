-- Of events in which the begin and the end of each line of text lie side by side, every other one shows whether a line
-- of text is among them.
use Rattle.std.proofs.Common.{◌≡◌, ℕ, suc, ◌+◌, ◌≤◌, Bool, true, false, cond, not, ◌||◌, List, [], ◌∷◌, ◌++◌, length}
use Rattle.std.proofs.Common.{drop, get_or, inl, inr, refl, sym, ◌∙◌, ap, subst, arith}
use Rattle.std.specs.List.{prefix_len}
use Rattle.std.proofs.lemmas.Bool.{and_parts, or_parts}
use Rattle.std.proofs.lemmas.List.{drop_more}
use Rattle.std.proofs.lemmas.List.Folds.{list_any-append}
use Rattle.md_engine.specs.declared.event.Content.{Content}
use Rattle.md_engine.specs.declared.event.Event.{Event}
use Rattle.md_content.specs.Joined.{is_content}
use Rattle.proof_frame.proofs.ContentFacts.{NoContent}
use Rattle.proof_frame.proofs.EventNames.{recorded-content}
use Rattle.md_leaves.specs.declared.spans.Place.TheVariants.{Outside}
use Rattle.md_leaves.specs.Spanned.{passes_on}
use Rattle.markdown_blocks.specs.Alone.{passes_alone}
use Rattle.markdown_blocks.specs.ContentRead.{AreSideBySide, holds_content, side_by_side}
use Rattle.md_events.proofs.SubstitutedLemmas.{to-end}

-- none is in either of two lists if none is in both
pub held-parts : (xs ys : List Event) → holds_content (xs ++ ys) ≡ false →
    (holds_content xs ≡ false) × (holds_content ys ≡ false)
held-parts xs ys h =
    or_parts (holds_content xs) (holds_content ys) (sym (list_any-append (λ (e : Event). is_content e.name) xs ys) ∙ h)

-- events that are of no line of text change nothing before others
pub quiet-side : (wants : Content → Bool) (xs ys : List Event) → NoContent wants xs →
    side_by_side false (xs ++ ys) ≡ side_by_side false ys
quiet-side wants [] ys h = refl
quiet-side wants (e ∷ xs) ys h =
    ap (λ (x : Bool). side_by_side x (xs ++ ys)) (recorded-content e.name h.1) ∙ quiet-side wants xs ys h.2

-- Two events of which the first is of no line of text are passed,
two-passed : (e f : Event) (es : List Event) → is_content e.name ≡ false → AreSideBySide (e ∷ f ∷ es) →
    AreSideBySide es × (holds_content (e ∷ f ∷ es) ≡ holds_content es)
two-passed e f es other side =
    let found = to-end (is_content f.name) (begun side) in
    (found.0, ap (λ (x : Bool). x || (is_content f.name || holds_content es)) other ∙ found.1)
  where
    begun : AreSideBySide (e ∷ f ∷ es) → side_by_side (is_content f.name) es ≡ true
    begun (inl h) = sym (ap (λ (x : Bool). side_by_side x (f ∷ es)) other) ∙ h
    begun (inr h) =
        let is : is_content e.name ≡ true = (and_parts (is_content e.name) (side_by_side false (f ∷ es)) h).0 in cc

    ends : (es : List Event) → side_by_side true es ≡ true → holds_content es ≡ true
    ends [] h = cc
    ends (g ∷ gs) h =
        ap (λ (x : Bool). x || holds_content gs) (and_parts (is_content g.name) (side_by_side false gs) h).0

    to-end : (x : Bool) → side_by_side x es ≡ true → AreSideBySide es × ((x || holds_content es) ≡ holds_content es)
    to-end false h = (inl h, refl)
    to-end true h = (inr h, sym (ends es h))

-- also where they are after others
pub passed-other : (es : List Event) (at : ℕ) (none : Event) → at + 2 ≤ length es →
    is_content (get_or es at none).name ≡ false → AreSideBySide (drop at es) →
    AreSideBySide (drop (at + 2) es) × (holds_content (drop at es) ≡ holds_content (drop (at + 2) es))
passed-other es at none within other side =
    let e : Event = get_or es at none in
    let f : Event = get_or es (at + 1) none in
    let rest : List Event = drop (at + 1 + 1) es in
    let two : at + 1 + 1 ≡ at + 2 = omega arith in
    let whole : drop at es ≡ e ∷ f ∷ rest =
    drop_more es at none (omega arith) ∙ ap (λ (l : List Event). e ∷ l) (drop_more es (at + 1) none (omega arith)) in
    let passed = two-passed e f rest other (subst AreSideBySide whole side) in (
      subst (λ (n : ℕ). AreSideBySide (drop n es)) two passed.0,
      ap holds_content whole ∙ passed.1 ∙ ap (λ (n : ℕ). holds_content (drop n es)) two,
    )

-- Events before the first that is of a line of text, or may not pass as it is where lines are joined, show nothing.
pub alone-passed : (es : List Event) → AreSideBySide es →
    let rest = drop (prefix_len passes_alone es) es in AreSideBySide rest × (holds_content rest ≡ holds_content es)
alone-passed [] side = (side, refl)
alone-passed (e ∷ es) side = by (passes_alone e) refl (λ other. alone-passed es (one-passed other side))
  where
    run : ℕ
    run = prefix_len passes_alone es

    Passed : ℕ → Type 0
    Passed n =
        AreSideBySide (drop n (e ∷ es)) × (holds_content (drop n (e ∷ es)) ≡ holds_content (e ∷ es))

    one-passed : is_content e.name ≡ false → AreSideBySide (e ∷ es) → AreSideBySide es
    one-passed other (inl h) = inl (sym (ap (λ (x : Bool). side_by_side x es) other) ∙ h)
    one-passed other (inr h) =
        let is : is_content e.name ≡ true = (and_parts (is_content e.name) (side_by_side false es) h).0 in cc

    off : (x : Bool) → not x ≡ true → x ≡ false
    off true h = cc
    off false h = refl

    by : (x : Bool) → passes_alone e ≡ x →
        (is_content e.name ≡ false → AreSideBySide (drop run es) × (holds_content (drop run es) ≡ holds_content es)) →
        Passed (cond (passes_alone e) (1 + run) 0)
    by false here to-end = subst (λ (x : Bool). Passed (cond x (1 + run) 0)) (sym here) (side, refl)
    by true here to-end =
        let other = off (is_content e.name) (and_parts (not (is_content e.name)) (passes_on Outside e) here).0 in
        let rest = to-end other in
        let more : suc run ≡ 1 + run = omega arith in
        subst (λ (x : Bool). Passed (cond x (1 + run) 0)) (sym here)
        (subst Passed more
        (rest.0, rest.1 ∙ sym (ap (λ (x : Bool). x || holds_content es) other)))
