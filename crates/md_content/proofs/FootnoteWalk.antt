-- The labels of footnote definitions among events: before the first event of a label there are none.
use Rattle.std.proofs.Common.{◌≡◌, ◌+◌, ◌&&◌, ℕ, suc, Bool, true, false, cond, List, [], ◌∷◌, drop, refl, ap, arith}
use Rattle.std.proofs.Common.{◌∙◌, sym}
use Rattle.std.specs.Prelude.{if◌then◌else◌, not, slice_range}
use Rattle.std.specs.List.{prefix_len}
use Rattle.md_engine.specs.declared.event.Event.{Event}
use Rattle.md_engine.specs.declared.event.Kind.{Kind}
use Rattle.md_engine.specs.declared.event.Kind.TheVariants.{Enter, Exit}
use Rattle.md_meaning.specs.Label.{normal_form}
use Rattle.md_content.specs.FootnoteLabels.{footnote_labels_from, is_footnote_label}
use Rattle.md_events.specs.Events.Nested.{is_enter, is_exit}
use Rattle.md_events.specs.Events.Spelled.{byte_at}

-- an event that is no label's is passed
label-passed : (bytes : List ℕ) (from : ℕ) (e : Event) (es : List Event) → is_footnote_label e.name ≡ false →
    footnote_labels_from bytes from (e ∷ es) ≡ footnote_labels_from bytes from es
label-passed bytes from e es none = go e.kind (is_footnote_label e.name) none
  where
    following : List (List ℕ)
    following = footnote_labels_from bytes from es

    go : (k : Kind) (is : Bool) → is ≡ false →
        (if is_enter k && is then footnote_labels_from bytes (byte_at e.point) es
        else if is_exit k && is then normal_form (slice_range bytes from e.point.index ∷ []) ∷ following else following)
        ≡ following
    go Enter false h = refl
    go Exit false h = refl
    go k true h = cc

-- and so are all before the first that is
pub footnotes-passed : (bytes : List ℕ) (from : ℕ) (es : List Event) →
    footnote_labels_from bytes from (drop (prefix_len (λ (e : Event). not (is_footnote_label e.name)) es) es)
    ≡ footnote_labels_from bytes from es
footnotes-passed bytes from [] = refl
footnotes-passed bytes from (e ∷ es) = by (is_footnote_label e.name) refl (footnotes-passed bytes from es)
  where
    run : ℕ
    run = prefix_len (λ (e : Event). not (is_footnote_label e.name)) es

    by : (x : Bool) → is_footnote_label e.name ≡ x →
        footnote_labels_from bytes from (drop run es) ≡ footnote_labels_from bytes from es →
        footnote_labels_from bytes from (drop (cond (not (is_footnote_label e.name)) (1 + run) 0) (e ∷ es))
        ≡ footnote_labels_from bytes from (e ∷ es)
    by false none following =
        let more : 1 + run ≡ suc run = omega arith in
        ap (λ x. footnote_labels_from bytes from (drop (cond (not x) (1 + run) 0) (e ∷ es))) none
        ∙ ap (λ n. footnote_labels_from bytes from (drop n (e ∷ es))) more
        ∙ following
        ∙ sym (label-passed bytes from e es none)
    by true begins following =
        ap (λ x. footnote_labels_from bytes from (drop (cond (not x) (1 + run) 0) (e ∷ es))) begins
