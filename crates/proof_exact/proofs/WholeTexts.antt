-- A text as a whole, as the exact list has it: definitions, and a paragraph or a heading after them.
use Rattle.std.proofs.Common.{◌≡◌, ℕ, ◌^◌, ◌<◌, Bool, true, false, List, [], ◌∷◌, ◌++◌, length, drop, refl, sym, ap}
use Rattle.std.proofs.Common.{◌∙◌, append-nil}
use Rattle.std.specs.List.{before_first}
use Rattle.std.proofs.lemmas.List.{drop_at}
use Rattle.md_engine.specs.declared.configuration.ParseOptions.{ParseOptions}
use Rattle.md_engine.specs.declared.event.Name.TheVariants as n
use Rattle.proof_frame.specs.Row.{Row as FrameRow}
use Rattle.proof_leaf_laws.proofs.Frontmatter.Found.{first-here, first-later}
use Rattle.proof_rows.specs.BlockList.{heading_unread, lines_unread, text_unread, turned_unread}
use Rattle.proof_rows.proofs.GroupLines.{AreLines}
use Rattle.md_events.specs.Exact.Leaves.{leaf, runs_line}
use Rattle.md_events.specs.Exact.Rows.{Row}
use Rattle.md_events.specs.Exact.Texts as Texts
use Rattle.md_events.specs.Exact.Texts.{is_underline, remaining, text_events}
use Rattle.proof_exact_lines.proofs.Spans.{SameLine}
use Rattle.proof_exact.proofs.CutTexts.{AreAt, IsKept, most, texts-cut}
use Rattle.proof_exact.proofs.Remaining.{IsText, heading-is, paragraph-is}

-- What remains after definitions.

text-kept : IsKept IsText
text-kept x y ys r next rs is = record { are = is.are.2; some = is.some }

pub paragraph-cut : (options : ParseOptions) (text : List ℕ) → length text < 2 ^ 61 → (x : Row) (xs : List Row)
    (r : FrameRow) (rs : List FrameRow) → AreLines options text r rs → AreAt text x xs r rs → IsText x xs r rs →
    text_events (remaining []) (most options (x ∷ xs)) (x ∷ xs) ≡ text_unread options text r rs
paragraph-cut options text small x xs r rs lines here is =
    texts-cut options text small (remaining []) lines_unread IsText text-kept refl paragraph-is x xs r rs lines here
    is.are is

pub heading-cut : (options : ParseOptions) (text : List ℕ) → length text < 2 ^ 61 → (x : Row) (xs : List Row)
    (u : Row) (us : List Row) (r : FrameRow) (rs : List FrameRow) (under : FrameRow) → AreLines options text r rs →
    AreAt text x xs r rs → IsText x xs r rs → SameLine u under →
    leaf n.HeadingSetextUnderline (runs_line n.HeadingSetextUnderlineSequence) (u ∷ []) ≡ under.inside →
    text_events (remaining (u ∷ us)) (most options (x ∷ xs)) (x ∷ xs) ≡ turned_unread options text r rs under
heading-cut options text small x xs u us r rs under lines here is line inside =
    texts-cut options text small (remaining (u ∷ us)) (heading_unread under) IsText text-kept refl
    (λ y ys s ss own. heading-is y ys u us s ss under own line inside) x xs r rs lines here is.are is

-- The lines before an underline.

abbrev underlines : Row → Bool
underlines row = is_underline row.role

-- none of these underlines what is before it
abbrev pub NoUnderline : List Row → Type 0
NoUnderline [] = Unit {0}
NoUnderline (x ∷ xs) = (is_underline x.role ≡ false) × NoUnderline xs

before-none : (xs : List Row) → NoUnderline xs → before_first underlines xs ≡ xs
before-none [] none = refl
before-none (x ∷ xs) none =
    (first-later underlines x xs none.0).0 ∙ ap (λ (l : List Row). x ∷ l) (before-none xs none.1)

before-one : (xs : List Row) (u : Row) (us : List Row) → NoUnderline xs → is_underline u.role ≡ true →
    before_first underlines (xs ++ u ∷ us) ≡ xs
before-one [] u us none under = (first-here underlines u us under).0
before-one (x ∷ xs) u us none under =
    (first-later underlines x (xs ++ u ∷ us) none.0).0
    ∙ ap (λ (l : List Row). x ∷ l) (before-one xs u us none.1 under)

-- So texts have the same events.
pub text-paragraph : (options : ParseOptions) (text : List ℕ) → length text < 2 ^ 61 → (x : Row) (xs : List Row)
    (r : FrameRow) (rs : List FrameRow) → NoUnderline (x ∷ xs) → AreLines options text r rs → AreAt text x xs r rs →
    IsText x xs r rs → Texts.text options (x ∷ xs) ≡ text_unread options text r rs
text-paragraph options text small x xs r rs none lines here is =
    ap (λ (l : List Row). text_events (remaining (drop (length l) (x ∷ xs))) (most options l) l)
    (before-none (x ∷ xs) none)
    ∙ ap (λ (l : List Row). text_events (remaining l) (most options (x ∷ xs)) (x ∷ xs))
    (ap (drop (length (x ∷ xs))) (sym (append-nil (x ∷ xs))) ∙ drop_at (x ∷ xs) [] (length (x ∷ xs)) refl)
    ∙ paragraph-cut options text small x xs r rs lines here is

pub text-heading : (options : ParseOptions) (text : List ℕ) → length text < 2 ^ 61 → (x : Row) (xs : List Row)
    (u : Row) (r : FrameRow) (rs : List FrameRow) (under : FrameRow) →
    NoUnderline (x ∷ xs) → is_underline u.role ≡ true → AreLines options text r rs → AreAt text x xs r rs →
    IsText x xs r rs → SameLine u under →
    leaf n.HeadingSetextUnderline (runs_line n.HeadingSetextUnderlineSequence) (u ∷ []) ≡ under.inside →
    Texts.text options ((x ∷ xs) ++ u ∷ []) ≡ turned_unread options text r rs under
text-heading options text small x xs u r rs under none turns lines here is line inside =
    ap (λ (l : List Row). text_events (remaining (drop (length l) ((x ∷ xs) ++ u ∷ []))) (most options l) l)
    (before-one (x ∷ xs) u [] none turns)
    ∙ ap (λ (l : List Row). text_events (remaining l) (most options (x ∷ xs)) (x ∷ xs))
    (drop_at (x ∷ xs) (u ∷ []) (length (x ∷ xs)) refl)
    ∙ heading-cut options text small x xs u [] r rs under lines here is line inside
