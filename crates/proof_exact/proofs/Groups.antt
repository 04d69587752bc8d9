-- The events of a group, and of the groups after it: that of a leaf on one line, and in general.
use Rattle.std.proofs.Common.{◌≡◌, ℕ, true, false, List, [], ◌∷◌, ◌++◌, refl, sym, ap, ap₂, ◌∙◌, append-nil}
use Rattle.md_engine.specs.declared.configuration.ParseOptions.{ParseOptions}
use Rattle.md_engine.specs.declared.event.Event.{Event}
use Rattle.md_engine.specs.declared.event.Name.TheVariants as n
use Rattle.md_events.specs.Exact.Blocks.{events_by, tail, bare_events}
use Rattle.md_events.specs.Exact.Leaves.{content_line}
use Rattle.md_events.specs.Exact.Rows.{Role, Row, First}
use Rattle.proof_frame.specs.LeafName.{CodeFurther, HeadingAtx, LeafName}
use Rattle.proof_frame.specs.Row.{BlankRow, LeafRow, Row as FrameRow, RowKind, TextRow, blank_line}
use Rattle.md_registry.specs.Registry.{leaf}
use Rattle.proof_rows.specs.BlockList.{group_unread, tabled_group}
use Rattle.proof_rows.specs.Rows.{Group, Single, final_row, first_row, group_ending, leaf_unread, tail_events}
use Rattle.proof_rows.proofs.GroupLines.{IsSingle}
use Rattle.proof_exact_lines.proofs.BeginsAt.{rest_bytes}
use Rattle.proof_exact_lines.proofs.BareLine.{bare-one}
use Rattle.proof_exact_lines.proofs.LeafLines.{blank-one, heading-one}
use Rattle.proof_exact_lines.specs.Unlisted.{unlisted_group, without_lists}
use Rattle.proof_exact.proofs.Fit.{Fit}
use Rattle.proof_exact.proofs.FitLines.{MayEnd, blank-role, first-role, leaf-starts, line-is, read-as, tail-same}
use Rattle.md_meaning.specs.State.{NoLeaf}
use Rattle.md_registry.proofs.Registry.{EndsOnLine, IsBare, IsHeading, ends-on_line}

-- A group, by what follows it and by its leaf.
pub group-same : (options : ParseOptions) (bytes : List ℕ) (x : Row) (xs : List Row) (g : Group) →
    Fit options bytes x (first_row g) →
    without_lists (tail (x ∷ xs)) ≡ tail_events (group_ending g) (final_row g) →
    events_by options x.role (x ∷ xs) ≡ group_unread options bytes g →
    unlisted_group options (x ∷ xs) ≡ tabled_group options bytes g
group-same options bytes x xs g fit ends is =
    ap₂ (λ (es fs : List Event). es ++ fs) (ap₂ (λ (es fs : List Event). es ++ fs) fit.front is) ends

-- A leaf on one line, and a blank line.

single-leaf : (options : ParseOptions) (bytes : List ℕ) (x : Row) (r : FrameRow) → Fit options bytes x r →
    (l : LeafName) → r.kind ≡ LeafRow l → (leaf l).ends ≡ true →
    events_by options x.role (x ∷ []) ≡ (leaf l).unread (rest_bytes x.rest) r.first
single-leaf options bytes x r fit l e ends = by l (ends-on_line l ends) e
  where
    by : (l : LeafName) → EndsOnLine l → r.kind ≡ LeafRow l →
        events_by options x.role (x ∷ []) ≡ (leaf l).unread (rest_bytes x.rest) r.first
    by _ IsHeading e =
        ap (λ (role : Role). events_by options role (x ∷ [])) (first-role options bytes x r fit HeadingAtx e refl)
        ∙ heading-one x r.first (read-as options bytes x r fit).at
    by _ (IsBare l bare) e =
        ap (λ (role : Role). events_by options role (x ∷ []))
        (first-role options bytes x r fit l e (bare.begins r.on) ∙ ap First (bare.finishes options NoLeaf x.rest))
        ∙ ap (bare_events (x ∷ [])) bare.names
        ∙ bare-one (leaf l) bare x r.first (read-as options bytes x r fit).at
        (bare.marked options r.on x.rest (leaf-starts options bytes x r fit l e))

single-events : (options : ParseOptions) (bytes : List ℕ) (x : Row) (r : FrameRow) → Fit options bytes x r →
    IsSingle options bytes r → events_by options x.role (x ∷ []) ≡ leaf_unread bytes r.kind r
single-events options bytes x r fit single = go r.kind refl
  where
    go : (kind : RowKind) → r.kind ≡ kind → events_by options x.role (x ∷ []) ≡ leaf_unread bytes kind r
    go BlankRow e =
        ap (λ (role : Role). events_by options role (x ∷ [])) (blank-role options bytes x r fit e)
        ∙ append-nil (content_line n.SpaceOrTab 0 x.line x.rest ++ [])
        ∙ append-nil (content_line n.SpaceOrTab 0 x.line x.rest)
        ∙ blank-one x r.first (read-as options bytes x r fit).at
        ∙ ap (λ (line : List ℕ). blank_line line r.first) (sym (line-is options bytes x r fit) ∙ fit.is.text)
        ∙ sym (fit.is.blank e)
    go (LeafRow l) e =
        single-leaf options bytes x r fit l e (single.ends l e)
        ∙ ap (λ (line : List ℕ). (leaf l).unread line r.first) (sym (line-is options bytes x r fit))
    go TextRow e = absurd (single.other e)

-- it is no further line of code
single-ends : (options : ParseOptions) (bytes : List ℕ) (x : Row) (r : FrameRow) → IsSingle options bytes r → MayEnd x r
single-ends options bytes x r single e = let ends : false ≡ true = single.ends CodeFurther e in cc

pub single-same : (options : ParseOptions) (bytes : List ℕ) (x : Row) (r : FrameRow) → Fit options bytes x r →
    IsSingle options bytes r → unlisted_group options (x ∷ []) ≡ tabled_group options bytes (Single r)
single-same options bytes x r fit single =
    group-same options bytes x [] (Single r) fit
    (tail-same options bytes x r fit (single-ends options bytes x r single))
    (single-events options bytes x r fit single)
