-- What remains of a text after its definitions: a paragraph, or what an underline turns it into.
use Rattle.std.proofs.Common.{◌≡◌, false, List, [], ◌∷◌, ◌++◌, sym, ap, ap₂, append_assoc, ◌∙◌}
use Rattle.md_engine.specs.declared.event.Content.TheVariants.{Text}
use Rattle.md_engine.specs.declared.event.Event.{Event}
use Rattle.md_engine.specs.declared.event.Name.TheVariants as n
use Rattle.md_engine.specs.declared.event.Point.{Point}
use Rattle.md_events.specs.Events.Nested.{around}
use Rattle.proof_frame.specs.Row.{Row as FrameRow, ending_events, last_row}
use Rattle.proof_rows.specs.BlockList.{heading_unread, lines_unread, unread_lines}
use Rattle.md_events.specs.Exact.Leaves.{last_end, leaf, onto_next, runs_line}
use Rattle.md_events.specs.Exact.Places.{is_same, line_end}
use Rattle.md_events.specs.Exact.Rows.{Row}
use Rattle.md_events.specs.Exact.Texts.{remaining, text_span}
use Rattle.proof_exact_lines.proofs.Spans.{SameLine}
use Rattle.proof_exact_lines.proofs.TextLines.{AreTexts, first-line, last-end, last-line, last_of, text-lines}

-- lines of a text, of which the last is not empty
pub record IsText (x : Row) (xs : List Row) (r : FrameRow) (rs : List FrameRow) : Type 0 where
  pub are : AreTexts x xs r rs
  pub some : is_same (last_of x xs).rest (line_end (last_of x xs).line) ≡ false

pub paragraph-is : (x : Row) (xs : List Row) (r : FrameRow) (rs : List FrameRow) → IsText x xs r rs →
    remaining [] (x ∷ xs) ≡ lines_unread r rs
paragraph-is x xs r rs is = text-lines n.Paragraph x xs r rs is.are is.some

-- the leaf of the underline is what flow adds for it
pub heading-is : (x : Row) (xs : List Row) (u : Row) (us : List Row) (r : FrameRow) (rs : List FrameRow)
    (under : FrameRow) →
    IsText x xs r rs → SameLine u under →
    leaf n.HeadingSetextUnderline (runs_line n.HeadingSetextUnderlineSequence) (u ∷ []) ≡ under.inside →
    remaining (u ∷ us) (x ∷ xs) ≡ heading_unread under r rs
heading-is x xs u us r rs under is line inside =
    ap₂
    (λ (a b : Point).
    around n.HeadingSetext a b (text ++ onto_next (last ++ u ∷ []) ++ leaf n.HeadingSetextUnderline
    (runs_line n.HeadingSetextUnderlineSequence) (u ∷ [])))
    (first-line x xs r rs is.are).begin line.end
    ∙ ap₂ (λ (es fs : List Event). around n.HeadingSetext r.first under.end (es ++ onto_next (last ++ u ∷ []) ++ fs))
    (text-lines n.HeadingSetextText x xs r rs is.are is.some) inside
    ∙ ap
    (λ (es : List Event).
    around n.HeadingSetext r.first under.end
    (around n.HeadingSetextText r.first (last_row r rs).end (unread_lines r rs) ++ es ++ under.inside)) onto
    ∙ regroup
  where
    last : List Row
    last = last_end (x ∷ xs)

    text : List Event
    text = text_span Text n.HeadingSetextText (x ∷ xs) last

    onto : onto_next (last ++ u ∷ []) ≡ ending_events n.LineEnding (last_row r rs) ++ under.front
    onto =
        ap (λ (l : List Row). onto_next (l ++ u ∷ [])) (last-end x xs)
        ∙ ap₂ (λ (es fs : List Event). es ++ fs) ((last-line x xs r rs is.are).ending n.LineEnding) line.front

    regroup :
        around n.HeadingSetext r.first under.end
        (around n.HeadingSetextText r.first (last_row r rs).end (unread_lines r rs)
        ++ (ending_events n.LineEnding (last_row r rs) ++ under.front) ++ under.inside) ≡
        heading_unread under r rs
    regroup =
        ap (λ (es : List Event). around n.HeadingSetext r.first under.end (es ++ under.inside))
        (sym
        (append_assoc (around n.HeadingSetextText r.first (last_row r rs).end (unread_lines r rs))
        (ending_events n.LineEnding (last_row r rs)) under.front))
