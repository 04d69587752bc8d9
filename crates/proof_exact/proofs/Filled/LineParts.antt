-- The text parts that are on one line, of headings and of cells: each begins with no whitespace.
use Rattle.std.proofs.Common.{◌≡◌, ℕ, zero, suc, ◌+◌, ◌-◌, ◌≤◌, Bool, true, false, cond, ◌&&◌, not, List, [], ◌∷◌}
use Rattle.std.proofs.Common.{◌++◌, length, take, drop, slice_range, refl, sym, ap, ◌∙◌, subst, append_assoc}
use Rattle.std.proofs.Common.{arith}
use Rattle.std.specs.Prelude.{◌==◌, Some}
use Rattle.std.specs.List.{prefix_len}
use Rattle.std.proofs.lemmas.Bool.{and_from, eq-eqb}
use Rattle.std.proofs.lemmas.List.{drop-drop, drop_at, length-append, length-take, take-append-drop}
use Rattle.md_engine.specs.declared.event.Content.TheVariants.{Text}
use Rattle.md_engine.specs.declared.event.Name.{Name}
use Rattle.md_engine.specs.declared.event.Point.{Point}
use Rattle.md_leaves.proofs.TitleTexts.{first-front, front-stops}
use Rattle.md_meaning.specs.Bytes.{begins, is_end}
use Rattle.md_meaning.specs.Lines.{without_ending}
use Rattle.md_meaning.specs.Rest.{Rest, after_indent, is_blank, is_white, trim, trim_end, trim_start}
use Rattle.md_meaning.proofs.TextsLemmas.{NoEnding}
use Rattle.md_events.specs.declared.inline.PartKind.TheVariants as kind
use Rattle.md_events.specs.Events.PieceRules.{is_in_line}
use Rattle.md_events.specs.Events.Tiles.{part_kind}
use Rattle.md_events.proofs.FeedLines.{slice-front}
use Rattle.md_events.proofs.RestLines.{count-none, count-one}
use Rattle.md_events.specs.Exact.Places.{TextLine, chunk, is_same, part, past, place, text_part}
use Rattle.md_tables.specs.RowCells.{white_back, white_front}
use Rattle.md_tables.proofs.CellLemmas.{ends_dark, trimmed-dark}
use Rattle.md_tables.proofs.RowBytes.{cell-whole}
use Rattle.md_tables.proofs.WhiteEnds.{back-blank, end-is}
use Rattle.proof_exact_lines.proofs.AfterIndent.{indent-past}
use Rattle.proof_exact_lines.proofs.CellContent.{trim-some}
use Rattle.proof_frame.proofs.LineTexts.{without-none}
use Rattle.proof_exact_pieces.proofs.PlaceLemmas.{cut_len}
use Rattle.proof_exact.proofs.Filled.LineTexts.{IsRest, offset, plain-line, rest-past, rest-text}
use Rattle.proof_exact.proofs.Filled.Parts.{Filled, filled-none, filled-text}

-- bytes of which the first is no whitespace are not blank
first-dark : (b : ℕ) (xs : List ℕ) → is_white b ≡ false → is_blank (b ∷ xs) ≡ false
first-dark b xs h = ap (λ (x : Bool). x && is_blank xs) h

no_ending-front : (xs ys : List ℕ) → NoEnding (xs ++ ys) → NoEnding xs
no_ending-front [] ys h = tt
no_ending-front (b ∷ xs) ys h = (h.0, no_ending-front xs ys h.1)

no_ending-back : (xs ys : List ℕ) → NoEnding (xs ++ ys) → NoEnding ys
no_ending-back [] ys h = h
no_ending-back (b ∷ xs) ys h = no_ending-back xs ys h.1

-- some bytes of one line are filled
one-filled : (xs : List ℕ) → NoEnding xs → begins is_white xs ≡ false → is_end xs ≡ false →
    (not (is_blank (without_ending xs)) && is_in_line xs && true) ≡ true
one-filled [] plain dark some = absurd (cc)
one-filled (b ∷ xs) plain dark some =
    and_from (not (is_blank (without_ending (b ∷ xs))) && is_in_line (b ∷ xs)) true
    (and_from (not (is_blank (without_ending (b ∷ xs)))) (is_in_line (b ∷ xs))
    (ap (λ (l : List ℕ). not (is_blank l)) (without-none (b ∷ xs) plain) ∙ ap not (first-dark b xs dark))
    (plain-line (b ∷ xs) plain))
    refl

-- A part between two rests.
filled-line : {bytes : List ℕ} (line : TextLine) (name : Name) (r s : Rest) (xs : List ℕ) →
    part_kind name ≡ Some kind.Text → IsRest bytes line r → r.spaces ≡ 0 → s.spaces ≡ 0 → r.bytes ≡ xs ++ s.bytes →
    begins is_white xs ≡ false → Filled bytes (text_part line Text name r s)
filled-line {bytes} line name r s xs named is whole ends parts dark = go (is_same r s) refl
  where
    p : Point
    p = place line r

    q : Point
    q = place line s

    some : (xs : List ℕ) → r.bytes ≡ xs ++ s.bytes → is_same r s ≡ false → is_end xs ≡ false
    some [] e f =
        let same : is_same r s ≡ true =
        and_from (length r.bytes == length s.bytes) (r.spaces == s.spaces)
        (eq-eqb _ _ (ap (λ (l : List ℕ). length l) e)) (eq-eqb _ _ (whole ∙ sym ends)) in
        let bad : true ≡ false = sym same ∙ f in
        cc
    some (b ∷ xs) e f = refl

    plain : NoEnding xs
    plain =
        no_ending-front xs s.bytes
        (subst NoEnding parts (no_ending-back is.end.front r.bytes (subst NoEnding is.end.is is.plain)))

    back : length line.bytes ≡ length is.end.front + length r.bytes
    back = ap (λ (l : List ℕ). length l) is.end.is ∙ length-append is.end.front r.bytes

    left : length r.bytes ≡ length xs + length s.bytes
    left = ap (λ (l : List ℕ). length l) parts ∙ length-append xs s.bytes

    cut : (n : ℕ) → n ≡ 0 → cut_len n ≡ 0
    cut n e = ap cut_len e

    from : offset line r ≡ length is.end.front
    from =
        ap (λ (c : ℕ). length line.bytes - length r.bytes - c) (cut r.spaces whole) ∙ omega (arith, back)

    to : q.index ≡ p.index + length xs
    to =
        ap (λ (c : ℕ). line.index + (length line.bytes - length s.bytes - c)) (cut s.spaces ends)
        ∙ omega (arith, back, left, from)

    text : slice_range bytes p.index q.index ≡ xs
    text =
        slice-front bytes p.index q.index xs (s.bytes ++ is.within.following)
        (rest-text bytes line r is
        ∙ ap (λ (n : ℕ). drop n line.bytes ++ is.within.following) from
        ∙ ap (λ (l : List ℕ). drop (length is.end.front) l ++ is.within.following) is.end.is
        ∙ ap (λ (l : List ℕ). l ++ is.within.following) (drop_at is.end.front r.bytes (length is.end.front) refl)
        ∙ ap (λ (l : List ℕ). l ++ is.within.following) parts
        ∙ append_assoc xs s.bytes is.within.following)
        to

    go : (x : Bool) → is_same r s ≡ x → Filled bytes (cond x [] (part line name r s (chunk Text p q)))
    go true e = filled-none
    go false e =
        filled-text name p q (chunk Text p q) named (refl, (refl, tt))
        (ap (λ (l : List ℕ). not (is_blank (without_ending l)) && is_in_line l && true) text
        ∙ one-filled xs plain dark (some xs parts e))

-- after its indent a rest begins with no whitespace
pub indent-whole : (r : Rest) → (after_indent r).spaces ≡ 0
indent-whole r = ap (λ (s : Rest). s.spaces) (indent-past r)

pub indent-dark : (r : Rest) → begins is_white (after_indent r).bytes ≡ false
indent-dark r = ap (λ (s : Rest). begins is_white s.bytes) (indent-past r) ∙ front-stops is_white r.bytes

-- so a part of so many bytes
pub filled-size : {bytes : List ℕ} (line : TextLine) (name : Name) (r : Rest) (size : ℕ) →
    part_kind name ≡ Some kind.Text → IsRest bytes line r → r.spaces ≡ 0 → begins is_white r.bytes ≡ false →
    Filled bytes (text_part line Text name r (past size r))
filled-size line name r size named is whole dark =
    filled-line line name r (past size r) (take size r.bytes) named is whole refl
    (sym (take-append-drop size r.bytes))
    (first-front is_white (take size r.bytes) (drop size r.bytes)
    (ap (begins is_white) (take-append-drop size r.bytes) ∙ dark))

-- Cells.

-- the whitespace in front of bytes that are not blank is that in front of all
prefix-front : (size : ℕ) (xs : List ℕ) → is_blank (take size xs) ≡ false →
    prefix_len is_white xs ≡ prefix_len is_white (take size xs)
prefix-front zero xs h = absurd (cc)
prefix-front (suc size) [] h = absurd (cc)
prefix-front (suc size) (b ∷ xs) h = go (is_white b) refl (prefix-front size xs)
  where
    go : (x : Bool) → is_white b ≡ x →
        (is_blank (take size xs) ≡ false → prefix_len is_white xs ≡ prefix_len is_white (take size xs)) →
        prefix_len is_white (b ∷ xs) ≡ prefix_len is_white (b ∷ take size xs)
    go true e more =
        count-one is_white b xs e
        ∙ ap (λ (n : ℕ). suc n) (more (sym (ap (λ (x : Bool). x && is_blank (take size xs)) e) ∙ h))
        ∙ sym (count-one is_white b (take size xs) e)
    go false e more = count-none is_white b xs e ∙ sym (count-none is_white b (take size xs) e)

prefix-fits : (xs : List ℕ) → prefix_len is_white xs ≤ length xs
prefix-fits [] = omega arith
prefix-fits (b ∷ xs) = go (is_white b) (prefix-fits xs)
  where
    go : (x : Bool) → prefix_len is_white xs ≤ length xs → cond x (1 + prefix_len is_white xs) 0 ≤ suc (length xs)
    go true more = omega arith
    go false more = omega arith

-- and no more than what is up to the whitespace behind
end-some : (xs ys : List ℕ) → is_end ys ≡ false → is_end (xs ++ ys) ≡ false
end-some [] ys h = h
end-some (b ∷ xs) ys h = refl

dark-following : (xs ys : List ℕ) → is_end ys ≡ false → ends_dark (xs ++ ys) ≡ ends_dark ys
dark-following [] ys h = refl
dark-following (b ∷ xs) ys h =
    ap (λ (t : Bool). cond t (not (is_white b)) (ends_dark (xs ++ ys))) (end-some xs ys h) ∙ dark-following xs ys h

end-front : (x : List ℕ) → is_blank x ≡ false → trim_end x ≡ white_front x ++ trim x
end-front x h =
    (end-is x (white_front x ++ trim x) (white_back (trim_start x))
    (cell-whole x ∙ sym (append_assoc (white_front x) (trim x) (white_back (trim_start x))))
    (dark-following (white_front x) (trim x) (trim-some x h) ∙ trimmed-dark (trim_start x))
    (back-blank (trim_start x))).0

front-fits : (xs : List ℕ) → is_blank xs ≡ false → prefix_len is_white xs ≤ length (trim_end xs)
front-fits xs h =
    omega (
      arith,
      ap (λ (l : List ℕ). length l) (end-front xs h),
      length-append (white_front xs) (trim xs),
      length-take (prefix_len is_white xs) xs,
      prefix-fits xs,
    )

-- A part of a cell that is not blank.
pub filled-cell : {bytes : List ℕ} (line : TextLine) (name : Name) (size : ℕ) (r : Rest) →
    part_kind name ≡ Some kind.Text → IsRest bytes line r → is_blank (take size r.bytes) ≡ false →
    Filled bytes (text_part line Text name (after_indent r) (past (length (trim_end (take size r.bytes))) r))
filled-cell {bytes} line name size r named is filled =
    subst (λ (s : Rest). Filled bytes (text_part line Text name s (past m r))) (sym (indent-past r))
    (filled-line line name (past k r) (past m r) (take (m - k) (drop k r.bytes)) named (rest-past line r k is) refl refl
    parts
    (first-front is_white (take (m - k) (drop k r.bytes)) (drop m r.bytes)
    (ap (begins is_white) (sym parts) ∙ front-stops is_white r.bytes)))
  where
    k : ℕ
    k = prefix_len is_white r.bytes

    m : ℕ
    m = length (trim_end (take size r.bytes))

    le : prefix_len is_white r.bytes ≤ length (trim_end (take size r.bytes))
    le = omega (arith, prefix-front size r.bytes filled, front-fits (take size r.bytes) filled)

    sum : prefix_len is_white r.bytes
        + (length (trim_end (take size r.bytes)) - prefix_len is_white r.bytes)
        ≡ length (trim_end (take size r.bytes))
    sum = omega (arith, le)

    parts : drop k r.bytes ≡ take (m - k) (drop k r.bytes) ++ drop m r.bytes
    parts =
        sym (take-append-drop (m - k) (drop k r.bytes))
        ∙ ap (λ (l : List ℕ). take (m - k) (drop k r.bytes) ++ l)
        (drop-drop (m - k) k r.bytes ∙ ap (λ (n : ℕ). drop n r.bytes) sum)
