-- By the line definition what opens is a footnote definition with a label of one line.
use Rattle.std.proofs.Common.{◌≡◌, ℕ, Bool, true, false, cond, ◌&&◌, ◌||◌, List, [], ◌∷◌, drop, length, refl}
use Rattle.std.specs.List.{starts_with}
use Rattle.std.specs.Prelude.{◌==◌, nat_eq, nat_le, Option, Some, None}
use Rattle.md_engine.specs.declared.configuration.ParseOptions.{ParseOptions}
use Rattle.md_meaning.specs.Ascii.{backslash, caret, colon, left_bracket, right_bracket}
use Rattle.md_meaning.specs.Containers.{Labelled, Taken, footnote_by, footnote_label, is_label_mark, opens_footnote}
use Rattle.md_meaning.specs.Containers.{with_label_byte}
use Rattle.md_meaning.specs.Lines.{begins_with, is_ending}
use Rattle.md_meaning.specs.Rest.{Rest, after_indent, has_small_indent, indent, is_white}
use Rattle.md_meaning.specs.State.{InFootnote}
use Rattle.md_meaning.proofs.TextsLemmas.{NoEnding, no_ending-drop}
use Rattle.md_events.proofs.RestCells.{lose-no_ending}

-- a label, if there is one, is of one line
abbrev IsOneLine : Option Labelled → Type 0
IsOneLine None = Unit {0}
IsOneLine (Some l) = NoEnding l.label

line-if : (x : Bool) (a b : Option Labelled) → IsOneLine a → IsOneLine b → IsOneLine (cond x a b)
line-if true a b h k = h
line-if false a b h k = k

with-line : (b : ℕ) (o : Option Labelled) → is_ending b ≡ false → IsOneLine o → IsOneLine (with_label_byte b o)
with-line b None e h = tt
with-line b (Some l) e h = (e, h)

label-line : (escaped : Bool) (bytes : List ℕ) → NoEnding bytes → IsOneLine (footnote_label escaped bytes)
label-line escaped [] h = tt
label-line escaped (b ∷ bytes) h =
    line-if (escaped && is_label_mark b) _ _ (with-line b (footnote_label false bytes) h.0 (label-line false bytes h.1))
    (line-if (b == right_bracket) _ _ tt
    (line-if (is_white b || (b == left_bracket)) _ _ tt
    (with-line b (footnote_label (b == backslash) bytes) h.0 (label-line (b == backslash) bytes h.1))))

-- a footnote definition, if one opens, with such a label where the line is one
abbrev pub IsFootnote : Type 0 → Option Taken → Type 0
IsFootnote H None = Unit {0}
IsFootnote H (Some t) = (label : List ℕ) × (t.container ≡ InFootnote label) × (H → NoEnding label)

footnote-if : (H : Type 0) (x : Bool) (a b : Option Taken) → IsFootnote H a → IsFootnote H b → IsFootnote H (cond x a b)
footnote-if H true a b h k = h
footnote-if H false a b h k = k

by-label : (H : Type 0) (from : Rest) (o : Option Labelled) → (H → IsOneLine o) → IsFootnote H (footnote_by from o)
by-label H from None h = tt
by-label H from (Some l) h =
    footnote-if H (nat_le 1 (length l.label) && nat_le (length l.label) 999 && begins_with colon l.after) _ _
    (l.label, refl, h) tt

pub opens-one : (options : ParseOptions) (r : Rest) → IsFootnote (NoEnding r.bytes) (opens_footnote options r)
unfolding opens_footnote
opens-one options r =
    let from = after_indent r in
    footnote-if (NoEnding r.bytes)
    (options.constructs.gfm_footnote_definition && has_small_indent options r
    && starts_with nat_eq from.bytes (left_bracket ∷ caret ∷ [])) _ _
    (by-label (NoEnding r.bytes) from (footnote_label false (drop 2 from.bytes))
    (λ h. label-line false (drop 2 from.bytes) (no_ending-drop 2 from.bytes (lose-no_ending (indent r) r h)))) tt
