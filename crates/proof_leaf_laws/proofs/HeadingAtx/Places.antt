-- Where the parts of a heading are, on its line and in a text.
use Rattle.std.proofs.Common.{◌≡◌, ℕ, ◌+◌, List, ◌++◌, length, take, drop, ap, sym, ◌∙◌, subst, take-add}
use Rattle.std.proofs.Common.{slice_range, arith}
use Rattle.std.proofs.lemmas.List.{length-take-le, take-append-drop}
use Rattle.md_engine.specs.declared.event.Point.{Point}
use Rattle.md_leaves.specs.HeadingTitle.{front_len, text_of}
use Rattle.md_leaves.proofs.TitleLemmas.{title-fits, title-text}
use Rattle.md_events.specs.Events.Places.{past_text}
use Rattle.md_meaning.specs.Rest.{Rest}
use Rattle.md_events.proofs.FeedLines.{slice-inside}
use Rattle.md_events.proofs.InlineLemmas.{past-index, past_text-append}
use Rattle.md_meaning.proofs.TextsLemmas.{NoEnding, no_ending-drop}
use Rattle.proof_frame.proofs.LeafFacts.{LineAt}
use Rattle.proof_frame.proofs.LineTexts.{no_ending-parts}

-- On its line.

-- where its text begins, and where it ends
abbrev pub text_begin : List ℕ → Point → Point
text_begin line p = past_text (take (front_len line) line) p

abbrev pub text_end : List ℕ → Point → Point
text_end line p = past_text (take (front_len line + length (text_of line)) line) p

-- the bytes of the text, and those after it
abbrev pub text_bytes : List ℕ → List ℕ
text_bytes line = take (length (text_of line)) (drop (front_len line) line)

abbrev pub back_bytes : List ℕ → List ℕ
back_bytes line = drop (front_len line + length (text_of line)) line

-- the text ends after its bytes, and the line after those that are left
pub text-end-is : (line : List ℕ) (p : Point) → text_end line p ≡ past_text (text_bytes line) (text_begin line p)
text-end-is line p =
    ap (λ (l : List ℕ). past_text l p) (take-add (front_len line) (length (text_of line)) line)
    ∙ past_text-append (take (front_len line) line) (text_bytes line) p

pub line-end-is : (line : List ℕ) (p : Point) → past_text line p ≡ past_text (back_bytes line) (text_end line p)
line-end-is line p =
    let size : ℕ = front_len line + length (text_of line) in
    ap (λ (l : List ℕ). past_text l p) (sym (take-append-drop size line))
    ∙ past_text-append (take size line) (drop size line) p

-- In a text.

-- the bytes between its begin and its end are the text of the heading
pub record IsTitle (bytes line : List ℕ) (p : Point) : Type 0 where
  pub slice : slice_range bytes (text_begin line p).index (text_end line p).index ≡ text_of line
  pub no_ending : NoEnding (text_of line)

-- so it is in a line with a heading
pub title-is : (bytes : List ℕ) (r : Rest) (line : List ℕ) (p q : Point) → LineAt bytes r line p q →
    IsTitle bytes line p
title-is bytes r line p q is =
    let first : ℕ = front_len line in
    let text : List ℕ = text_of line in
    let size : ℕ = length text in
    let fits = title-fits line in
    let from : (text_begin line p).index ≡ p.index + first = past-index (take first line) p
    ∙ ap (λ (k : ℕ). p.index + k) (length-take-le first line (omega (arith, fits))) in
    let to : (text_end line p).index ≡ p.index + (first + size) = past-index (take (first + size) line) p
    ∙ ap (λ (k : ℕ). p.index + k) (length-take-le (first + size) line fits) in
    let sum : p.index + (first + size) ≡ p.index + first + size = omega arith in
    let parts : drop first line ≡ text ++ drop size (drop first line) = sym (take-append-drop size (drop first line))
    ∙ ap (λ (l : List ℕ). l ++ drop size (drop first line)) (title-text line) in
    let following : NoEnding (drop first line) = no_ending-drop first line is.no_ending in
    record {
      slice =
          ap (λ (k : ℕ). slice_range bytes k (text_end line p).index) from
          ∙ ap (slice_range bytes (p.index + first)) (to ∙ sum)
          ∙ slice-inside bytes line p.index q.index first size is.text is.size fits
          ∙ title-text line;
      no_ending = (no_ending-parts text (drop size (drop first line)) (subst NoEnding parts following)).0;
    }
