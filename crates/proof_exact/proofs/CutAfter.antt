-- A text may be cut after a line that closes a leaf, where no container is open: no item is last there.
use Rattle.std.proofs.Common.{◌≡◌, ℕ, Bool, true, false, cond, List, [], ◌∷◌, ◌++◌, length, map, refl, ap, sym, ◌∙◌}
use Rattle.std.proofs.Common.{arith}
use Rattle.std.specs.Prelude.{Option, None}
use Rattle.std.proofs.lemmas.List.{length-append, map-append}
use Rattle.md_engine.specs.declared.configuration.ParseOptions.{ParseOptions}
use Rattle.md_meaning.specs.State.{Container, Leaf, NoLeaf, Path, spot}
use Rattle.md_meaning.specs.Step.{steps}
use Rattle.md_events.specs.Exact.Places.{TextLine, whole}
use Rattle.md_events.specs.Exact.Prefixes.{containers}
use Rattle.md_events.specs.Exact.Rows.{Row, is_blank_role, row_of}
use Rattle.proof_exact_lines.specs.Last.{HasLine, last_at, last_after, last_in, last_of}
use Rattle.proof_exact_lines.proofs.ExactListed.{by-new, line-text}
use Rattle.proof_exact_lines.proofs.LineWalk.{after}
use Rattle.proof_exact_lines.proofs.RowLast.{IsOpen, Remains, begins-facts, last-whole, on_of, open-last, remains-facts}
use Rattle.proof_exact_lines.proofs.StepLast.{held_in}
use Rattle.proof_exact.specs.Parts.{IsCut, nothing_open, open_after}
use Rattle.proof_exact.proofs.LinesParts.{steps-append}
use Rattle.proof_exact.proofs.TextParts.{cut-by}

pub text-after : (options : ParseOptions) (p : Path) (lines : List TextLine) → HasLine (spot p).leaf →
    HasLine (spot (open_after options p lines)).leaf
text-after options p [] h = h
text-after options p (line ∷ lines) h = text-after options (after options p line) lines (line-text options p line h)

either-none : (x : Bool) (o : Option ℕ) → o ≡ None → cond x o None ≡ None
either-none true o e = e
either-none false o e = refl

pub last-closed : (options : ParseOptions) (p : Path) (line : TextLine) → HasLine (spot p).leaf → containers p ≡ [] →
    IsOpen (spot p).leaf → containers (after options p line) ≡ [] → last_in (spot (after options p line)) ≡ None
last-closed options p line h none leaf shut =
    by-new options p line
    (λ t ts e.
    let held = (begins-facts options p line [] h t ts e).opens.held in
    absurd
    (omega (
      arith,
      ap (λ (cs : List Container). length cs) (sym shut ∙ held),
      length-append (held_in (on_of options p line)) (held_in (t ∷ ts)),
    )))
    (λ e. by (remains-facts options p line [] h e))
  where
    row : Row
    row = row_of options p line []

    by : Remains options p line [] row → last_in (spot (after options p line)) ≡ None
    by is =
        is.last refl
        ∙ either-none (is_blank_role row.role) (last_at row.stays p)
        (ap (λ (n : ℕ). last_at n p)
        (sym is.size ∙ ap (λ (cs : List Container). length cs) (shut ∙ sym none))
        ∙ last-whole p ∙ open-last (spot p).leaf (spot p).here leaf)

last-filled : (options : ParseOptions) (p : Path) (line : TextLine) → HasLine (spot p).leaf →
    containers (after options p line) ≡ [] → is_blank_role (row_of options p line []).role ≡ false →
    last_in (spot (after options p line)) ≡ None
last-filled options p line h shut filled =
    by-new options p line
    (λ t ts e.
    let held = (begins-facts options p line [] h t ts e).opens.held in
    absurd
    (omega (
      arith,
      ap (λ (cs : List Container). length cs) (sym shut ∙ held),
      length-append (held_in (on_of options p line)) (held_in (t ∷ ts)),
    )))
    (λ e.
    (remains-facts options p line [] h e).last refl
    ∙ ap (λ (x : Bool). cond x (last_at (row_of options p line []).stays p) None) filled)

cut-line : (options : ParseOptions) (lines : List TextLine) (line : TextLine) →
    let p = open_after options nothing_open lines in
    containers (after options p line) ≡ [] → (spot (after options p line)).leaf ≡ NoLeaf →
    last_in (spot (after options p line)) ≡ None → IsCut options (lines ++ line ∷ [])
cut-line options lines line shut closed last =
    cut-by options (lines ++ line ∷ []) (ap containers same ∙ shut) (ap (λ (q : Path). (spot q).leaf) same ∙ closed)
    (ap (λ (q : Path). last_of (spot q).here) same
    ∙ ap (λ (l : Leaf). last_after l (spot (after options p line)).here) (sym closed) ∙ last)
  where
    p : Path
    p = open_after options nothing_open lines

    same : open_after options nothing_open (lines ++ line ∷ []) ≡ after options p line
    same =
        ap (steps options nothing_open) (map-append whole lines (line ∷ []))
        ∙ steps-append options nothing_open (map whole lines) (whole line ∷ [])

-- Before the last line a leaf was open and no container, and after it neither is;
pub cut-after : (options : ParseOptions) (lines : List TextLine) (line : TextLine) →
    let p = open_after options nothing_open lines in
    containers p ≡ [] → IsOpen (spot p).leaf → containers (after options p line) ≡ [] →
    (spot (after options p line)).leaf ≡ NoLeaf → IsCut options (lines ++ line ∷ [])
cut-after options lines line none leaf shut closed =
    cut-line options lines line shut closed
    (last-closed options (open_after options nothing_open lines) line
    (text-after options nothing_open lines tt) none leaf shut)

-- or the last line is not blank, and nothing is open after it.
pub cut-filled : (options : ParseOptions) (lines : List TextLine) (line : TextLine) →
    let p = open_after options nothing_open lines in
    containers (after options p line) ≡ [] → (spot (after options p line)).leaf ≡ NoLeaf →
    is_blank_role (row_of options p line []).role ≡ false → IsCut options (lines ++ line ∷ [])
cut-filled options lines line shut closed filled =
    cut-line options lines line shut closed
    (last-filled options (open_after options nothing_open lines) line
    (text-after options nothing_open lines tt) shut filled)
