-- Where the line of a row is in a text, and bytes of it one after the other.
use Rattle.std.proofs.Common.{◌≡◌, ℕ, ◌+◌, ◌<◌, zero, suc, true, false, ◌||◌, List, [], ◌∷◌, ◌++◌}
use Rattle.std.proofs.Common.{length, drop, ap, ◌∙◌, subst, append_assoc, arith}
use Rattle.std.specs.Prelude.{◌==◌}
use Rattle.std.proofs.lemmas.Bool.Decides.{nat_tests}
use Rattle.md_engine.specs.declared.event.Point.{Point}
use Rattle.md_meaning.specs.Bytes.{begins}
use Rattle.md_meaning.specs.Rest.{Rest, is_blank, is_white, trim_start, cut_tab}
use Rattle.md_meaning.proofs.TextsLemmas.{NoEnding}
use Rattle.md_events.specs.Events.Places.{past_text}
use Rattle.md_events.proofs.FeedLines.{past_text-whole}
use Rattle.md_events.proofs.InlineLemmas.{past-index}
use Rattle.md_tables.specs.RowCells.{white_front}
use Rattle.md_tables.proofs.RowBytes.{front-whole, valid-line}
use Rattle.proof_frame.specs.RestLine.{rest_line}
use Rattle.proof_frame.proofs.LineWalk.{At, past-valid}
use Rattle.proof_frame.proofs.LeafFacts.{LineAt}
use Rattle.proof_frame.proofs.LineTexts.{line-valid, no_ending-parts}
use Rattle.proof_frame.proofs.PieceFacts.{CutsFirst}

-- A line that is not blank is at a point of a text, with this after it; a tab that is cut is its first byte.
pub record RowAt (bytes line rest : List ℕ) (p : Point) : Type 0 where
  pub valid : drop p.index bytes ≡ line ++ rest
  pub none : NoEnding line
  pub cut : CutsFirst p line
  pub some : is_blank line ≡ false

-- so does the rest of a line that is not blank
pub row-at : (bytes : List ℕ) (r : Rest) (p q : Point) → LineAt bytes r (rest_line r) p q → is_blank r.bytes ≡ false →
    RowAt bytes (rest_line r) (drop q.index bytes) p
row-at bytes r p q is some = record {
  valid = line-valid bytes r (rest_line r) p q is;
  none = is.no_ending;
  cut = is.cut_first;
  some = filled r.spaces r.bytes some;
}
  where
    filled : (spaces : ℕ) (xs : List ℕ) → is_blank xs ≡ false → is_blank (cut_tab spaces ++ xs) ≡ false
    filled zero xs h = h
    filled (suc k) xs h = h

-- no tab is cut where it begins with no whitespace
pub row-whole : (line : List ℕ) (p : Point) → CutsFirst p line → is_blank line ≡ false → begins is_white line ≡ false →
    p.vs ≡ 0
row-whole [] p cut some dark = cc
row-whole (b ∷ bs) p cut some dark = here cut dark
  where
    here : ((p.vs == 0) || (b == 9)) ≡ true → is_white b ≡ false → p.vs ≡ 0
    here cut dark = grind (arith, nat_tests)

-- it has some bytes
pub row-later : (line : List ℕ) (p : Point) → is_blank line ≡ false → p.index < (past_text line p).index
row-later [] p some = cc
row-later (b ∷ bs) p some =
    let e : (past_text (b ∷ bs) p).index ≡ p.index + length (b ∷ bs) = past-index (b ∷ bs) p in omega (arith, e)

-- Bytes one after the other.

pub at-first : (bytes xs ys rest : List ℕ) (p : Point) → At bytes (xs ++ ys) p rest → At bytes xs p (ys ++ rest)
at-first bytes xs ys rest p is = record {
  valid = is.valid ∙ append_assoc xs ys rest;
  none = (no_ending-parts xs ys is.none).0;
  whole = is.whole;
}

pub at-following : (bytes xs ys rest : List ℕ) (p : Point) → At bytes (xs ++ ys) p rest →
    At bytes ys (past_text xs p) rest
at-following bytes xs ys rest p is = record {
  valid = past-valid bytes xs (ys ++ rest) p (is.valid ∙ append_assoc xs ys rest);
  none = (no_ending-parts xs ys is.none).1;
  whole = past_text-whole xs p is.whole;
}

-- what is on the line after the whitespace in front
pub row-start : (bytes line rest : List ℕ) (p : Point) → RowAt bytes line rest p →
    At bytes (trim_start line) (past_text (white_front line) p) rest
row-start bytes line rest p is = record {
  valid =
      past-valid bytes (white_front line) (trim_start line ++ rest) p
      (is.valid ∙ ap (λ (xs : List ℕ). xs ++ rest) (front-whole line)
      ∙ append_assoc (white_front line) (trim_start line) rest);
  none = (no_ending-parts (white_front line) (trim_start line) (subst NoEnding (front-whole line) is.none)).1;
  whole = (valid-line bytes line rest p is.valid (row-whole line p is.cut is.some)).whole;
}
