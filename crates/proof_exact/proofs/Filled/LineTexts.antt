-- What is in a line of a text from a rest of it on: it is not blank if the rest is not, and without its ending it is in
-- one line.
use Rattle.std.proofs.Common.{◌≡◌, ℕ, zero, suc, ◌+◌, ◌-◌, ◌≤◌, Bool, true, false, cond, ◌&&◌, not, List, []}
use Rattle.std.proofs.Common.{◌∷◌, ◌++◌, length, take, drop, slice_range, refl, sym, ap, ◌∙◌, subst, append_assoc}
use Rattle.std.proofs.Common.{arith}
use Rattle.std.specs.List.{prefix_len}
use Rattle.std.proofs.lemmas.Bool.{and_from}
use Rattle.std.proofs.lemmas.List.{drop-append-le, drop-drop, length-append, length-drop, take-append-drop}
use Rattle.md_engine.specs.declared.event.Point.{Point}
use Rattle.md_meaning.specs.Bytes.{is_end}
use Rattle.md_meaning.specs.Lines.{is_ending, without_ending}
use Rattle.md_meaning.specs.Rest.{Rest, after_indent, is_blank, is_white}
use Rattle.md_meaning.proofs.LinesLemmas.{without_ending-cons}
use Rattle.md_meaning.proofs.TextsLemmas.{NoEnding, no_ending-drop}
use Rattle.md_events.proofs.FeedLines.{slice-front}
use Rattle.md_events.specs.Events.PieceRules.{is_in_line}
use Rattle.md_events.specs.Exact.Places.{TextLine, line_end, next_line, past, place}
use Rattle.proof_exact_lines.proofs.AfterIndent.{indent-past}
use Rattle.proof_exact_lines.proofs.Markers.{EndsWith, IsIn}
use Rattle.proof_exact_pieces.proofs.PlaceLemmas.{cut_len}

-- Bytes.

-- bytes that are not blank, whatever is after them
dark-front : (xs ys : List ℕ) (size : ℕ) → NoEnding xs → is_blank xs ≡ false → length xs ≤ size →
    is_blank (without_ending (take size (xs ++ ys))) ≡ false
dark-front [] ys size plain dark le = absurd (cc)
dark-front (b ∷ xs) ys zero plain dark le = absurd (omega arith)
dark-front (b ∷ xs) ys (suc size) plain dark le =
    ap is_blank (without_ending-cons b (take size (xs ++ ys)) plain.0)
    ∙ go (is_white b) refl (λ more. dark-front xs ys size plain.1 more (omega arith))
  where
    go : (x : Bool) → is_white b ≡ x →
        (is_blank xs ≡ false → is_blank (without_ending (take size (xs ++ ys))) ≡ false) →
        (is_white b && is_blank (without_ending (take size (xs ++ ys)))) ≡ false
    go true e more =
        ap (λ (x : Bool). x && is_blank (without_ending (take size (xs ++ ys)))) e
        ∙ more (sym (ap (λ (x : Bool). x && is_blank xs) e) ∙ dark)
    go false e more = ap (λ (x : Bool). x && is_blank (without_ending (take size (xs ++ ys)))) e

dark-back : (xs ys : List ℕ) → is_blank ys ≡ false → is_blank (xs ++ ys) ≡ false
dark-back [] ys h = h
dark-back (b ∷ xs) ys h = go (is_white b) (dark-back xs ys h)
  where
    go : (x : Bool) → is_blank (xs ++ ys) ≡ false → (x && is_blank (xs ++ ys)) ≡ false
    go true more = more
    go false more = refl

pub plain-line : (xs : List ℕ) → NoEnding xs → is_in_line xs ≡ true
plain-line [] h = refl
plain-line (b ∷ xs) h =
    and_from (not (is_ending b)) (is_in_line xs) (ap not h.0) (plain-line xs h.1)

-- Rests.

-- a rest of a line of the text
pub record IsRest (bytes : List ℕ) (line : TextLine) (r : Rest) : Type 0 where
  pub within : IsIn bytes line
  pub plain : NoEnding line.bytes
  pub end : EndsWith line.bytes r.bytes

pub rest-past : {bytes : List ℕ} (line : TextLine) (r : Rest) (n : ℕ) → IsRest bytes line r →
    IsRest bytes line (past n r)
rest-past line r n is = record {
  within = is.within;
  plain = is.plain;
  end = record {
    front = is.end.front ++ take n r.bytes;
    is =
        is.end.is ∙ ap (λ (l : List ℕ). is.end.front ++ l) (sym (take-append-drop n r.bytes))
        ∙ sym (append_assoc is.end.front (take n r.bytes) (drop n r.bytes));
  };
}

pub rest-indent : {bytes : List ℕ} (line : TextLine) (r : Rest) → IsRest bytes line r →
    IsRest bytes line (after_indent r)
rest-indent {bytes} line r is =
    subst (IsRest bytes line) (sym (indent-past r)) (rest-past line r (prefix_len is_white r.bytes) is)

-- where it begins on the line
abbrev pub offset : TextLine → Rest → ℕ
offset line r = length line.bytes - length r.bytes - cut_len r.spaces

-- the text from there on
pub rest-text : (bytes : List ℕ) (line : TextLine) (r : Rest) → (is : IsRest bytes line r) →
    drop (place line r).index bytes ≡ drop (offset line r) line.bytes ++ is.within.following
rest-text bytes line r is =
    sym (drop-drop (offset line r) line.index bytes) ∙ ap (drop (offset line r)) is.within.is
    ∙ drop-append-le (offset line r) line.bytes is.within.following (least (cut_len r.spaces))
  where
    least : (c : ℕ) → length line.bytes - length r.bytes - c ≤ length line.bytes
    least c = omega arith

-- and what is on the line from there on is no blank line, if the rest is not
left-dark : (bytes : List ℕ) (line : TextLine) (r : Rest) → IsRest bytes line r → is_blank r.bytes ≡ false →
    is_blank (drop (offset line r) line.bytes) ≡ false
left-dark bytes line r is dark =
    ap (λ (l : List ℕ). is_blank (drop (offset line r) l)) is.end.is
    ∙ ap is_blank (drop-append-le (offset line r) is.end.front r.bytes (fits (cut_len r.spaces)))
    ∙ dark-back (drop (offset line r) is.end.front) r.bytes dark
  where
    fits : (c : ℕ) → length line.bytes - length r.bytes - c ≤ length is.end.front
    fits c =
        omega (arith, ap (λ (l : List ℕ). length l) is.end.is, length-append is.end.front r.bytes)

pub rest-dark : (bytes : List ℕ) (line : TextLine) (r : Rest) (q : Point) → IsRest bytes line r →
    is_blank r.bytes ≡ false → line.index + length line.bytes ≤ q.index →
    is_blank (without_ending (slice_range bytes (place line r).index q.index)) ≡ false
rest-dark bytes line r q is dark le =
    ap (λ (l : List ℕ). is_blank (without_ending (take (q.index - (place line r).index) l))) (rest-text bytes line r is)
    ∙ dark-front (drop (offset line r) line.bytes) is.within.following (q.index - (place line r).index)
    (no_ending-drop (offset line r) line.bytes is.plain) (left-dark bytes line r is dark)
    (size (cut_len r.spaces))
  where
    size : (c : ℕ) →
        length (drop (length line.bytes - length r.bytes - c) line.bytes)
        ≤ q.index - (line.index + (length line.bytes - length r.bytes - c))
    size c = omega (arith, length-drop (length line.bytes - length r.bytes - c) line.bytes)

-- The ends of a line.

pub end-index : (line : TextLine) → (place line (line_end line)).index ≡ line.index + length line.bytes
end-index line = omega arith

pub next-index : (line : TextLine) → line.index + length line.bytes ≤ (next_line line).index
next-index line = go (is_end line.ending)
  where
    go : (x : Bool) →
        line.index + length line.bytes
        ≤ (cond x (place line (line_end line))
        (record {
          line = line.number + 1;
          column = 1;
          index = line.index + length line.bytes + length line.ending;
          vs = 0;
        })).index
    go true = omega arith
    go false = omega arith

-- up to the end of the line all is in it
pub rest-line : (bytes : List ℕ) (line : TextLine) (r : Rest) → IsRest bytes line r →
    is_in_line (slice_range bytes (place line r).index (place line (line_end line)).index) ≡ true
rest-line bytes line r is =
    ap is_in_line
    (slice-front bytes (place line r).index (place line (line_end line)).index (drop (offset line r) line.bytes)
    is.within.following (rest-text bytes line r is) (size (cut_len r.spaces)))
    ∙ plain-line (drop (offset line r) line.bytes) (no_ending-drop (offset line r) line.bytes is.plain)
  where
    size : (c : ℕ) →
        (place line (line_end line)).index
        ≡ line.index + (length line.bytes - length r.bytes - c)
        + length (drop (length line.bytes - length r.bytes - c) line.bytes)
    size c = omega (arith, end-index line, length-drop (length line.bytes - length r.bytes - c) line.bytes)
