-- The lines of a paragraph, and of what an underline turns: a chunk for each.
use Rattle.std.proofs.Common.{◌≡◌, suc, Bool, false, cond, List, [], ◌∷◌, ◌++◌, length, refl, sym, ap, ap₂, ◌∙◌, arith}
use Rattle.std.specs.Prelude.{◌==◌}
use Rattle.std.proofs.lemmas.Bool.Decides.{nat_tests}
use Rattle.md_engine.specs.declared.event.Content.{Content}
use Rattle.md_engine.specs.declared.event.Content.TheVariants.{Text}
use Rattle.md_engine.specs.declared.event.Event.{Event}
use Rattle.md_engine.specs.declared.event.Name.{Name}
use Rattle.md_engine.specs.declared.event.Name.TheVariants as n
use Rattle.md_engine.specs.declared.event.Point.{Point}
use Rattle.md_events.specs.Events.Nested.{around, enter_link, exit}
use Rattle.proof_frame.specs.Row.{Row as FrameRow, after_row, last_row}
use Rattle.proof_frame.specs.TextLines.{text_leaf}
use Rattle.proof_frame.specs.UnreadText.{linked_lines}
use Rattle.md_events.specs.Exact.Leaves.{last_end, span}
use Rattle.md_events.specs.Exact.Places.{chunk, is_same, line_end, next_line, place}
use Rattle.md_events.specs.Exact.Rows.{Row}
use Rattle.md_events.specs.Exact.Texts.{chunks, text_span}
use Rattle.proof_exact_lines.proofs.Spans.{SameLine}

-- lines of a text: after the ending of each the next one begins
abbrev pub AreTexts : Row → List Row → FrameRow → List FrameRow → Type 0
AreTexts x [] r [] = SameLine x r
AreTexts x (y ∷ ys) r (next ∷ rs) = SameLine x r × (next_line x.line ≡ after_row r) × AreTexts y ys next rs
AreTexts x _ r _ = ⊥

-- the last line
abbrev pub last_of : Row → List Row → Row
last_of x [] = x
last_of x (y ∷ ys) = last_of y ys

abbrev pub at_end : Row → Row
at_end x = record x { rest = line_end x.line }

pub last-end : (x : Row) (xs : List Row) → last_end (x ∷ xs) ≡ at_end (last_of x xs) ∷ []
last-end x [] = refl
last-end x (y ∷ ys) = last-end y ys

pub first-line : (x : Row) (xs : List Row) (r : FrameRow) (rs : List FrameRow) → AreTexts x xs r rs → SameLine x r
first-line x [] r [] are = are
first-line x (y ∷ ys) r (next ∷ rs) are = are.0
first-line x [] r (next ∷ rs) are = absurd are
first-line x (y ∷ ys) r [] are = absurd are

-- their chunks, up to a place on the last line
chunks-are : (x : Row) (xs : List Row) (r : FrameRow) (rs : List FrameRow) (end : Row) → AreTexts x xs r rs →
    place end.line end.rest ≡ (last_row r rs).end → is_same (last_of x xs).rest end.rest ≡ false →
    chunks Text (x ∷ xs) (end ∷ []) ≡ linked_lines n.Data text_leaf.link r rs
chunks-are x [] r [] end are at some =
    ap (λ (t : Bool). cond t [] (chunk Text (place x.line x.rest) (place end.line end.rest))) some
    ∙ ap₂ (chunk Text) are.begin at
chunks-are x (y ∷ ys) r (next ∷ rs) end are at some =
    ap
    (λ (t : Bool).
    cond t (cond (is_same x.rest end.rest) [] (chunk Text (place x.line x.rest) (place end.line end.rest)))
    (chunk Text (place x.line x.rest) (next_line x.line) ++ y.front ++ chunks Text (y ∷ ys) (end ∷ [])))
    more
    ∙ ap₂ (λ (es fs : List Event). es ++ fs ++ chunks Text (y ∷ ys) (end ∷ [])) (ap₂ (chunk Text) are.0.begin are.1)
    (first-line y ys next rs are.2).front
    ∙ ap (λ (es : List Event). (chunk Text r.first (after_row r) ++ next.front) ++ es)
    (chunks-are y ys next rs end are.2 at some)
  where
    more : (suc (length ys) == 0) ≡ false
    more = grind (arith, nat_tests)
chunks-are x [] r (next ∷ rs) end are at some = absurd are
chunks-are x (y ∷ ys) r [] end are at some = absurd are

-- the last of them
pub last-line : (x : Row) (xs : List Row) (r : FrameRow) (rs : List FrameRow) → AreTexts x xs r rs →
    SameLine (last_of x xs) (last_row r rs)
last-line x [] r [] are = are
last-line x (y ∷ ys) r (next ∷ rs) are = last-line y ys next rs are.2
last-line x [] r (next ∷ rs) are = absurd are
last-line x (y ∷ ys) r [] are = absurd are

-- a text part that is not empty
span-some : (c : Content) (name : Name) (rows ends : List Row) (e : Event) (es : List Event) →
    chunks c rows ends ≡ e ∷ es → text_span c name rows ends ≡ span name rows ends (e ∷ es)
span-some c name rows ends e es h = rw h refl

-- the lines begin with a chunk
first-chunk : (r : FrameRow) (rs : List FrameRow) →
    (es : List Event) × (linked_lines n.Data text_leaf.link r rs ≡ enter_link n.Data r.first text_leaf.link ∷ es)
first-chunk r [] = (exit n.Data r.end ∷ [], refl)
first-chunk r (next ∷ rs) =
    (exit n.Data (after_row r) ∷ next.front ++ linked_lines n.Data text_leaf.link next rs, refl)

-- So the text part over them, if the last is not empty.
pub text-lines : (name : Name) (x : Row) (xs : List Row) (r : FrameRow) (rs : List FrameRow) → AreTexts x xs r rs →
    is_same (last_of x xs).rest (line_end (last_of x xs).line) ≡ false →
    text_span Text name (x ∷ xs) (last_end (x ∷ xs)) ≡
    around name r.first (last_row r rs).end (linked_lines n.Data text_leaf.link r rs)
text-lines name x xs r rs are some =
    ap (text_span Text name (x ∷ xs)) (last-end x xs)
    ∙ span-some Text name (x ∷ xs) (end ∷ []) (enter_link n.Data r.first text_leaf.link) first.0
    (chunks-are x xs r rs end are at some ∙ first.1)
    ∙ ap₂ (λ (p q : Point). around name p q (enter_link n.Data r.first text_leaf.link ∷ first.0))
    (first-line x xs r rs are).begin at
    ∙ ap (around name r.first (last_row r rs).end) (sym first.1)
  where
    end : Row
    end = at_end (last_of x xs)

    at : place end.line end.rest ≡ (last_row r rs).end
    at = (last-line x xs r rs are).end

    first : (es : List Event) ×
        (linked_lines n.Data text_leaf.link r rs ≡ enter_link n.Data r.first text_leaf.link ∷ es)
    first = first-chunk r rs
