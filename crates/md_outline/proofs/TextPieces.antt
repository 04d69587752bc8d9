-- The pieces of a text that prefixes may part, as an outline shows them.
use Rattle.std.proofs.Common.{◌≡◌, ℕ, Bool, true, false, ◌||◌, not, List, [], ◌∷◌, ◌++◌, refl, sym, ◌∙◌, ap}
use Rattle.std.proofs.Common.{append_assoc, append-nil}
use Rattle.std.specs.Prelude.{if◌then◌else◌}
use Rattle.std.proofs.lemmas.Bool.{true≢false}
use Rattle.md_meaning.specs.declared.outline.Word.TheVariants as word
use Rattle.md_meaning.specs.Lines.{begins_with}
use Rattle.md_meaning.specs.Outline.{Entry}
use Rattle.md_events.specs.Events.Places.{last_line}
use Rattle.md_meaning.specs.Rest.{is_blank}
use Rattle.md_meaning.specs.Texts.{split_lines}
use Rattle.md_outline.specs.TextLines.{full_entries, text_entries}
use Rattle.md_outline.proofs.TextCuts.{piece-entries}

-- What was shown of a text: nothing before the first prefix in it, and then the lines with which its block begins, and
-- those before the last prefix; what follows will be shown by its own lines.
abbrev pub Pieces : List Entry → List Entry → ℕ → List Entry → Bool → List ℕ → Type 0
Pieces before begin depth lines false front = (lines ≡ before) × (front ≡ [])
Pieces before begin depth lines true front = (full : List Entry) ×
    ((lines ≡ (before ++ begin) ++ full) ×
    ((rest : List ℕ) → begins_with 10 rest ≡ false →
    text_entries depth (front ++ rest) ≡ full ++ text_entries depth rest))

-- where it is not parted, nothing
pub pieces-none : (before begin : List Entry) (depth : ℕ) (lines : List Entry) (x : Bool) (front : List ℕ) →
    not x ≡ true → Pieces before begin depth lines x front → (lines ≡ before) × (front ≡ [])
pieces-none before begin depth lines true front h k = absurd (true≢false (sym h))
pieces-none before begin depth lines false front h k = k

pub pieces-from : (before begin : List Entry) (depth : ℕ) (lines : List Entry) (x : Bool) (front : List ℕ) →
    not x ≡ true → (lines ≡ before) × (front ≡ []) → Pieces before begin depth lines x front
pieces-from before begin depth lines true front h k = absurd (true≢false (sym h))
pieces-from before begin depth lines false front h k = k

-- a piece that is not the first begins with no line feed
pub begins-following : (piece rest : List ℕ) → begins_with 10 piece ≡ false → begins_with 10 rest ≡ false →
    begins_with 10 (piece ++ rest) ≡ false
begins-following [] rest h k = k
begins-following (b ∷ piece) rest h k = h

begins-other : (x : Bool) → not x ≡ true → x ≡ false
begins-other true h = absurd (true≢false (sym h))
begins-other false h = refl

-- the lines with which its block begins, unless they are shown
abbrev pub begun_by : List Entry → Bool → List Entry
begun_by begin is_shown = if is_shown then [] else begin

-- one piece more is shown
pub pieces-next : (before begin : List Entry) (depth : ℕ) (lines : List Entry) (x : Bool) (front piece : List ℕ) →
    (not x || not (begins_with 10 piece)) ≡ true → is_blank (last_line (split_lines piece)) ≡ true →
    Pieces before begin depth lines x front →
    Pieces before begin depth ((lines ++ begun_by begin x) ++ full_entries depth piece) true (front ++ piece)
pieces-next before begin depth lines false front piece h blank k = (
  full_entries depth piece,
  (
    ap (λ es. (es ++ begin) ++ full_entries depth piece) k.0,
    λ rest no. ap (λ f. text_entries depth ((f ++ piece) ++ rest)) k.1
        ∙ piece-entries word.Line depth piece rest no blank,
  ),
)
pieces-next before begin depth lines true front piece h blank k =
    let shown_full : List Entry = full_entries depth piece in (
      k.0 ++ shown_full,
      (
        ap (λ es. es ++ shown_full) (append-nil lines ∙ k.1.0) ∙ append_assoc (before ++ begin) k.0 shown_full,
        λ rest no.
            ap (text_entries depth) (append_assoc front piece rest)
            ∙ k.1.1 (piece ++ rest) (begins-following piece rest (begins-other (begins_with 10 piece) h) no)
            ∙ ap (λ es. k.0 ++ es) (piece-entries word.Line depth piece rest no blank)
            ∙ sym (append_assoc k.0 shown_full (text_entries depth rest)),
      ),
    )

-- the last piece is shown
pub pieces-last : (before begin : List Entry) (depth : ℕ) (lines : List Entry) (x : Bool) (front piece : List ℕ) →
    (not x || not (begins_with 10 piece)) ≡ true → Pieces before begin depth lines x front →
    (lines ++ begun_by begin x) ++ text_entries depth piece ≡ (before ++ begin) ++ text_entries depth (front ++ piece)
pieces-last before begin depth lines false front piece h k =
    ap (λ es. (es ++ begin) ++ text_entries depth piece) k.0
    ∙ ap (λ f. (before ++ begin) ++ text_entries depth (f ++ piece)) (sym k.1)
pieces-last before begin depth lines true front piece h k =
    let begun : List Entry = before ++ begin in
    ap (λ es. es ++ text_entries depth piece) (append-nil lines ∙ k.1.0)
    ∙ append_assoc begun k.0 (text_entries depth piece)
    ∙ ap (λ es. begun ++ es) (sym (k.1.1 piece (begins-other (begins_with 10 piece) h)))
