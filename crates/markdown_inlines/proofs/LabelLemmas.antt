-- Labels that are looked up.
use Rattle.std.proofs.Common.{◌≡◌, ℕ, ◌+◌, Bool, true, false, cond, List, [], ◌∷◌, refl, ap, sym, ◌∙◌}
use Rattle.std.specs.Prelude.{◌==◌, ◌||◌, Some}
use Rattle.std.specs.List.{list_any, onto_first, position_from}
use Rattle.std.specs.Option.{is_some}
use Rattle.std.specs.Str.{bytes_eq}
use Rattle.std.proofs.lemmas.List.Splits.{slice_split-cons_no}
use Rattle.md_meaning.specs.Ascii.{line_feed}
use Rattle.md_meaning.specs.Label.{normal_form}
use Rattle.md_events.specs.FirstPlace.{first_place}
use Rattle.md_events.proofs.FirstPlaceLemmas.{from-first}
use Rattle.md_inlines.specs.Content.{has_form}
use Rattle.md_inlines.specs.Target.{lines}

-- what is first somewhere is there
some-from : {X : Type 0} (test : X → Bool) (at : ℕ) (items : List X) →
    is_some (position_from test at items) ≡ list_any test items
some-from test at [] = refl
some-from test at (item ∷ items) = go (test item) (some-from test (at + 1) items)
  where
    go : (x : Bool) → is_some (position_from test (at + 1) items) ≡ list_any test items →
        is_some (cond x (Some at) (position_from test (at + 1) items)) ≡ (x || list_any test items)
    go true rest = refl
    go false rest = rest

-- a label has a form that is first somewhere
pub has-first : (forms : List (List ℕ)) (form label : List ℕ) → form ≡ normal_form (lines label) →
    is_some (first_place forms form) ≡ has_form forms label
has-first forms form label is =
    ap (λ (f : List ℕ). is_some (first_place forms f)) is
    ∙ ap is_some (sym (from-first forms (normal_form (lines label))))
    ∙ some-from (λ other. bytes_eq other (normal_form (lines label))) 0 forms

-- a label without a line ending is one line
pub one-line : (label : List ℕ) → list_any (λ b. b == 10) label ≡ false → lines label ≡ label ∷ []
one-line [] h = refl
one-line (b ∷ label) h = go (b == 10) refl h (one-line label)
  where
    go : (x : Bool) → (b == 10) ≡ x → (x || list_any (λ c. c == 10) label) ≡ false →
        (list_any (λ c. c == 10) label ≡ false → lines label ≡ label ∷ []) → lines (b ∷ label) ≡ (b ∷ label) ∷ []
    go true e none below = cc
    go false e none below =
        slice_split-cons_no (λ c. c == line_feed) b label e ∙ ap (onto_first b) (below none)
