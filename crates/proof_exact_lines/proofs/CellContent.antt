-- What a cell of a row holds, with the whitespace around it.
use Rattle.std.proofs.Common.{◌≡◌, ℕ, ◌+◌, Bool, true, false, cond, nat_eq, List, [], ◌∷◌, ◌++◌, length, take, drop}
use Rattle.std.proofs.Common.{refl, sym, ap, ap₂, ◌∙◌, subst, append_assoc, append-nil, length-append, arith}
use Rattle.std.specs.Prelude.{not, ◌==◌}
use Rattle.std.proofs.lemmas.Bool.{and_parts, eqb-true}
use Rattle.std.proofs.lemmas.List.{drop_at, take_at}
use Rattle.md_engine.specs.declared.event.Event.{Event}
use Rattle.md_engine.specs.declared.event.Name.TheVariants as n
use Rattle.md_engine.specs.declared.event.Point.{Point}
use Rattle.md_leaves.proofs.TitleTexts.{front-passes, front-stops}
use Rattle.md_leaves.proofs.BreakLemmas.{white-apart}
use Rattle.md_meaning.specs.Bytes.{begins, is_end}
use Rattle.md_meaning.specs.Rest.{Rest, after_indent, cut_tab, is_blank, is_white, trim, trim_end, trim_start}
use Rattle.md_events.specs.Events.Places.{past_text}
use Rattle.md_events.proofs.InlineLemmas.{past_text-append}
use Rattle.md_events.proofs.RestLines.{trim-white}
use Rattle.md_tables.specs.RowCells.{cell_by, white_back, white_front, white_part}
use Rattle.md_tables.proofs.CellLemmas.{ends_dark, trimmed-dark}
use Rattle.md_tables.proofs.RowBytes.{cell-whole, front-whole}
use Rattle.md_tables.proofs.WhiteEnds.{back-blank, blank-first, dark-first, end-is, end-more, end-whole, start-none}
use Rattle.proof_frame.specs.LineColumns.{part_over}
use Rattle.md_events.specs.Exact.Leaves.{Inner, cell_content}
use Rattle.md_events.specs.Exact.Places.{TextLine, past, white}
use Rattle.proof_exact_lines.proofs.BeginsAt.{rest_bytes}
use Rattle.proof_exact_lines.proofs.Parts.{IsAfter, Valid, past-following, piece-is, valid-bytes, three-joined}
use Rattle.proof_exact_lines.proofs.Parts.{white-following}
use Rattle.proof_exact_lines.proofs.FirstCell.{IsPiped}

-- two rests of known bytes, one after the other
pub following-from : (line : TextLine) (r s : Rest) (p : Point) (xs ys : List ℕ) → Valid line (xs ++ ys) p r →
    Valid line ys (past_text xs p) s → IsAfter line r xs ys p s
following-from line r s p xs ys is at = record {
  valid = at;
  fewer =
      let all : length r.bytes ≡ length xs + length ys = ap (λ (l : List ℕ). length l) is.bytes_are
      ∙ length-append xs ys in
      let part : length s.bytes ≡ length ys = ap (λ (l : List ℕ). length l) at.bytes_are in
      omega (arith, all, part);
}

-- The bytes of a cell.

-- whitespace over some bytes
pub over-white : (bytes : List ℕ) (p : Point) → part_over n.SpaceOrTab bytes p (past_text bytes p) ≡ white_part bytes p
over-white [] p = refl
over-white (b ∷ bytes) p = refl

-- after the whitespace in front nothing is just in a blank one
pub start-end : (x : List ℕ) → is_end (trim_start x) ≡ is_blank x
start-end [] = refl
start-end (b ∷ x) = go (is_white b) refl (start-end x)
  where
    go : (t : Bool) → is_white b ≡ t → is_end (trim_start x) ≡ is_blank x →
        is_end (trim_start (b ∷ x)) ≡ is_blank (b ∷ x)
    go true e more = ap is_end (trim-white b x e) ∙ more ∙ sym (blank-first b x e)
    go false e more = ap is_end (start-none b x e) ∙ sym (dark-first b x e)

-- all of a blank one is whitespace in front
record IsBlank (x : List ℕ) : Type 0 where
  front : white_front x ≡ x
  start : trim_start x ≡ []

blank-front : (x : List ℕ) → is_blank x ≡ true → IsBlank x
blank-front x h = record {
  front = sym (front-whole x ∙ ap (λ (l : List ℕ). white_front x ++ l) start ∙ append-nil (white_front x));
  start = start;
}
  where
    none : (l : List ℕ) → is_end l ≡ true → l ≡ []
    none [] k = refl
    none (b ∷ l) k = let no : false ≡ true = k in cc

    start : trim_start x ≡ []
    start = none (trim_start x) (start-end x ∙ h)

-- what is there stays, before more
dark-start : (x back : List ℕ) → is_end x ≡ false → begins is_white x ≡ false → begins is_white (x ++ back) ≡ false
dark-start [] back some h = let no : true ≡ false = some in cc
dark-start (b ∷ x) back some h = h

-- so in a cell that is not blank something is between the whitespace
pub trim-some : (x : List ℕ) → is_blank x ≡ false → is_end (trim x) ≡ false
trim-some x h = by (trim_start x) (start-end x ∙ h) (front-stops is_white x)
  where
    by : (start : List ℕ) → is_end start ≡ false → begins is_white start ≡ false → is_end (trim_end start) ≡ false
    by [] some dark = let no : true ≡ false = some in cc
    by (b ∷ start) some dark = ap is_end (end-more b start (dark-first b start dark)).0

-- up to its end it is the whitespace in front and that
end-some : (xs ys : List ℕ) → is_end ys ≡ false → is_end (xs ++ ys) ≡ false
end-some [] ys h = h
end-some (b ∷ xs) ys h = refl

dark-following : (xs ys : List ℕ) → is_end ys ≡ false → ends_dark (xs ++ ys) ≡ ends_dark ys
dark-following [] ys h = refl
dark-following (b ∷ xs) ys h =
    ap (λ (t : Bool). cond t (not (is_white b)) (ends_dark (xs ++ ys))) (end-some xs ys h) ∙ dark-following xs ys h

end-front : (x : List ℕ) → is_blank x ≡ false → trim_end x ≡ white_front x ++ trim x
end-front x h =
    (end-is x (white_front x ++ trim x) (white_back (trim_start x))
    (cell-whole x ∙ sym (append_assoc (white_front x) (trim x) (white_back (trim_start x))))
    (dark-following (white_front x) (trim x) (trim-some x h) ∙ trimmed-dark (trim_start x))
    (back-blank (trim_start x))).0

-- The events.

-- What is in a cell between two rests, where it is these bytes.
pub record IsInner (inner : Inner) (part : List ℕ → Point → List Event) (Fits : List ℕ → Type 0) : Type 0 where
  pub nothing : (p : Point) → part [] p ≡ []
  pub held : (line : TextLine) (r s : Rest) (p : Point) (xs ys : List ℕ) → Valid line (xs ++ ys) p r →
      IsAfter line r xs ys p s → Fits xs → is_end xs ≡ false → begins (λ (b : ℕ). b == 45) ys ≡ false →
      inner line r s ≡ part xs p

-- after it comes no hyphen, but whitespace, a pipe or nothing
following-apart : (tail back : List ℕ) → is_blank tail ≡ true → IsPiped back →
    begins (λ (b : ℕ). b == 45) (tail ++ back) ≡ false
following-apart [] [] blank piped = refl
following-apart [] (b ∷ bs) blank piped = ap (λ (c : ℕ). nat_eq c 45) (eqb-true b 124 piped)
following-apart (b ∷ tail) back blank piped =
    white-apart b 45 (and_parts (is_white b) (is_blank tail) blank).0 refl

-- in a blank cell
blank-cell : (part : List ℕ → Point → List Event) → ((p : Point) → part [] p ≡ []) → (cell : List ℕ) (p : Point) →
    is_blank cell ≡ true → white_part cell p ≡ cell_by part cell p
blank-cell part none cell p h =
    sym (append-nil (white_part cell p))
    ∙ ap (λ (es : List Event). white_part cell p ++ (es ++ [])) (sym (none (past_text cell p)))
    ∙ sym (ap₂ by is.front is.start)
  where
    is : IsBlank cell
    is = blank-front cell h

    by : List ℕ → List ℕ → List Event
    by w t =
        white_part w p
        ++ (part (trim_end t) (past_text w p) ++ white_part (white_back t) (past_text (trim_end t) (past_text w p)))

-- and in any other
dark-cell : (inner : Inner) (part : List ℕ → Point → List Event) (Fits : List ℕ → Type 0) → IsInner inner part Fits →
    (line : TextLine) (r s : Rest) (p : Point) (cell back : List ℕ) → Valid line (cell ++ back) p r →
    Valid line back (past_text cell p) s → IsPiped back → is_blank cell ≡ false → Fits (trim cell) →
    let end : Rest = past (length (trim_end cell)) r in
    white line r (after_indent r) ++ inner line (after_indent r) end ++ white line end s ≡ cell_by part cell p
dark-cell inner part Fits kind line r s p cell back is at piped dark fits =
    three-joined
    (piece-is line n.SpaceOrTab r begin p front (x ++ back) is.at bytes first ∙ over-white front p)
    (kind.held line begin end q text (tail ++ back) second
    (following-from line begin end q text (tail ++ back) second third) fits (trim-some cell dark)
    (following-apart tail back (back-blank x) piped))
    (piece-is line n.SpaceOrTab end s e tail back third.at (valid-bytes line (tail ++ back) e end third)
    (following-from line end s e tail back third fourth) ∙ over-white tail e)
  where
    front : List ℕ
    front = white_front cell

    x : List ℕ
    x = trim_start cell

    text : List ℕ
    text = trim cell

    tail : List ℕ
    tail = white_back (trim_start cell)

    q : Point
    q = past_text (white_front cell) p

    e : Point
    e = past_text (trim cell) (past_text (white_front cell) p)

    begin : Rest
    begin = after_indent r

    size : ℕ
    size = length (trim_end cell)

    end : Rest
    end = past (length (trim_end cell)) r

    bytes : rest_bytes r ≡ white_front cell ++ (trim_start cell ++ back)
    bytes =
        valid-bytes line (cell ++ back) p r is ∙ ap (λ (l : List ℕ). l ++ back) (front-whole cell)
        ∙ append_assoc front x back

    first : IsAfter line r (white_front cell) (trim_start cell ++ back) p (after_indent r)
    first =
        white-following line r p front (x ++ back) is.at bytes (front-passes is_white cell)
        (dark-start x back (start-end cell ∙ dark) (front-stops is_white cell))

    second : Valid line (trim cell ++ (white_back (trim_start cell) ++ back)) (past_text (white_front cell) p)
        (after_indent r)
    second =
        subst (λ (l : List ℕ). Valid line l q begin)
        (ap (λ (l : List ℕ). l ++ back) (end-whole x) ∙ append_assoc text tail back) first.valid

    whole : cell ++ back ≡ (white_front cell ++ trim cell) ++ (white_back (trim_start cell) ++ back)
    whole =
        ap (λ (l : List ℕ). l ++ back) (cell-whole cell ∙ sym (append_assoc front text tail))
        ∙ append_assoc (front ++ text) tail back

    long : length (white_front cell ++ trim cell) ≡ length (trim_end cell)
    long = ap (λ (l : List ℕ). length l) (sym (end-front cell dark))

    third : Valid line (white_back (trim_start cell) ++ back) (past_text (trim cell) (past_text (white_front cell) p))
        (past (length (trim_end cell)) r)
    third =
        subst (λ (z : Point). Valid line (tail ++ back) z end) (past_text-append front text p)
        (past-following line r p size (front ++ text) (tail ++ back) is.at
        (ap (λ (k : ℕ). cut_tab k ++ take size r.bytes) is.whole ∙ ap (take size) (is.bytes_are ∙ whole)
        ∙ take_at (front ++ text) (tail ++ back) size long)
        (ap (drop size) (is.bytes_are ∙ whole) ∙ drop_at (front ++ text) (tail ++ back) size long)).valid

    fourth : Valid line back (past_text (white_back (trim_start cell)) (past_text (trim cell) (past_text (white_front
        cell) p))) s
    fourth =
        subst (λ (z : Point). Valid line back z s)
        (ap (λ (l : List ℕ). past_text l p) (cell-whole cell) ∙ past_text-append front (text ++ tail) p
        ∙ past_text-append text tail q) at

-- What is in a cell of some bytes, which the first so many of a rest are.
pub content-is : (inner : Inner) (part : List ℕ → Point → List Event) (Fits : List ℕ → Type 0) →
    IsInner inner part Fits →
    (line : TextLine) (r s : Rest) (p : Point) (size : ℕ) (cell back : List ℕ) → Valid line (cell ++ back) p r →
    Valid line back (past_text cell p) s → IsPiped back → take size r.bytes ≡ cell → Fits (trim cell) →
    cell_content inner size line r s ≡ cell_by part cell p
content-is inner part Fits kind line r s p size cell back is at piped same fits = ap by same ∙ go (is_blank cell) refl
  where
    dark : List ℕ → List Event
    dark l =
        let end : Rest = past (length (trim_end l)) r in
        white line r (after_indent r) ++ inner line (after_indent r) end ++ white line end s

    by : List ℕ → List Event
    by l = cond (is_blank l) (white line r s) (dark l)

    go : (t : Bool) → is_blank cell ≡ t → cond t (white line r s) (dark cell) ≡ cell_by part cell p
    go true e =
        piece-is line n.SpaceOrTab r s p cell back is.at (valid-bytes line (cell ++ back) p r is)
        (following-from line r s p cell back is at)
        ∙ over-white cell p ∙ blank-cell part kind.nothing cell p e
    go false e = dark-cell inner part Fits kind line r s p cell back is at piped e fits
