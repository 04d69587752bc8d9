-- The rows of a table: on each line the exact list has the cells that its bytes have.
use Rattle.std.proofs.Common.{◌≡◌, ℕ, ◌≤◌, Bool, true, false, List, [], ◌∷◌, ◌++◌, length, refl, sym, ap, ap₂, ◌∙◌}
use Rattle.std.proofs.Common.{subst, append_assoc, arith}
use Rattle.std.specs.Prelude.{◌==◌}
use Rattle.std.specs.List.{AllPass, list_all}
use Rattle.std.proofs.lemmas.List.Sums.{AllPass-from_list_all}
use Rattle.md_engine.specs.declared.event.Content.TheVariants.{Text}
use Rattle.md_engine.specs.declared.event.Event.{Event}
use Rattle.md_engine.specs.declared.event.Name.{Name}
use Rattle.md_engine.specs.declared.event.Name.TheVariants as n
use Rattle.md_engine.specs.declared.event.Point.{Point}
use Rattle.md_meaning.specs.Bytes.{begins, is_end}
use Rattle.md_meaning.specs.Rest.{Rest, after_indent, is_blank, run_len, trim_start}
use Rattle.md_events.specs.Events.Nested.{around}
use Rattle.md_events.specs.Events.Places.{past_text}
use Rattle.md_events.proofs.InlineLemmas.{past_text-append}
use Rattle.md_tables.specs.DelimiterCells.{delimiter_events, delimiter_runs, value_part}
use Rattle.md_tables.specs.DelimiterRule.{Apart, fits}
use Rattle.md_tables.specs.RowCells as cells
use Rattle.md_tables.specs.RowCells.{Cells, Divides, Ends, Shut, line_cells, row_by, row_events, unread_text}
use Rattle.md_tables.specs.RowCells.{white_front}
use Rattle.md_tables.proofs.RowBytes.{front-whole}
use Rattle.proof_frame.specs.LineColumns.{part_over}
use Rattle.proof_leaf_laws.proofs.GfmTable.DelimiterRowCells.{Aligned, AreDelimiters, IsValue, aligned, values-fit}
use Rattle.proof_leaf_laws.proofs.GfmTable.DelimiterRowCells.{colons, marker, value-runs, value_events}
use Rattle.proof_leaf_laws.proofs.GfmTable.RowCells.{EachFits}
use Rattle.md_events.specs.Exact.Leaves as exact
use Rattle.md_events.specs.Exact.Leaves.{Inner, cell_dashes, cell_text, past_optional, row_line}
use Rattle.md_events.specs.Exact.Places.{TextLine, past, piece, white}
use Rattle.proof_exact_lines.proofs.BeginsAt.{BeginsAt, begins-place, rest_bytes}
use Rattle.proof_exact_lines.proofs.LeafLines.{end_at, ends-at}
use Rattle.proof_exact_lines.proofs.Parts.{IsAfter, Valid, piece-is, run-following, valid-bytes, text-is, text_over}
use Rattle.proof_exact_lines.proofs.Parts.{three-joined, white-front}
use Rattle.proof_exact_lines.proofs.CellContent.{IsInner, following-from, over-white, start-end}
use Rattle.proof_exact_lines.proofs.Cells.{cells-are, optional-front}

-- Texts.

text-over : (xs : List ℕ) (p : Point) →
    text_over Text n.GfmTableCellText xs p (past_text xs p) ≡ cells.text_part unread_text xs p
text-over [] p = refl
text-over (b ∷ xs) p = refl

-- of their bytes nothing is asked
abbrev Any : List ℕ → Type 0
Any xs = Unit {0}

any-fits : (xs : Cells) → EachFits Any xs
any-fits (Ends cell) = tt
any-fits (Shut cell white) = tt
any-fits (Divides cell xs) = (tt, any-fits xs)

text-inner : IsInner cell_text (cells.text_part unread_text) Any
text-inner = record {
  nothing = λ p. refl;
  held =
      λ line r s p xs ys is following fits some apart.
      text-is line Text n.GfmTableCellText r s p xs ys is following ∙ text-over xs p;
}

-- Dashes, with a colon perhaps on either side.

left-following : (left : Bool) (line : TextLine) (r : Rest) (p : Point) (more : List ℕ) →
    Valid line (colons left ++ (45 ∷ more)) p r → IsAfter line r (colons left) (45 ∷ more) p (past_optional 58 r)
left-following true line r p more is = optional-front 58 line r p (58 ∷ 45 ∷ more) is
left-following false line r p more is = optional-front 58 line r p (45 ∷ more) is

over-marker : (some : Bool) (p : Point) →
    part_over n.GfmTableDelimiterMarker (colons some) p (past_text (colons some) p) ≡ marker some p
over-marker true p = refl
over-marker false p = refl

-- after them comes none of them
no-dash : (right : Bool) (ys : List ℕ) → begins (λ (b : ℕ). b == 45) ys ≡ false →
    begins (λ (b : ℕ). b == 45) (colons right ++ ys) ≡ false
no-dash true ys apart = refl
no-dash false ys apart = apart

value-some : (xs : List ℕ) (p : Point) → is_end xs ≡ false →
    value_part xs p ≡ around n.GfmTableDelimiterCellValue p (past_text xs p) (delimiter_runs Apart xs p)
value-some [] p some = let no : true ≡ false = some in cc
value-some (b ∷ xs) p some = refl

-- the three pieces between two rests
dashes-are : (line : TextLine) (r s : Rest) (p : Point) (left right : Bool) (dashes ys : List ℕ) →
    list_all (λ (b : ℕ). b == 45) dashes ≡ true → begins (λ (b : ℕ). b == 45) ys ≡ false →
    Valid line (colons left ++ (45 ∷ (dashes ++ (colons right ++ ys)))) p r →
    Valid line ys (past_text (colons right) (past_text (45 ∷ dashes) (past_text (colons left) p))) s →
    let begin : Rest = past_optional 58 r in
    let end : Rest = past (run_len 45 begin.bytes) begin in
    piece line n.GfmTableDelimiterMarker r begin ++ piece line n.GfmTableDelimiterFiller begin end
    ++ piece line n.GfmTableDelimiterMarker end s ≡
    value_events left dashes right p
dashes-are line r s p left right dashes ys are apart is at =
    three-joined
    (piece-is line n.GfmTableDelimiterMarker r begin p (colons left) (all ++ rest) is.at
    (valid-bytes line (colons left ++ (all ++ rest)) p r is) first ∙ over-marker left p)
    (piece-is line n.GfmTableDelimiterFiller begin end q all rest first.valid.at
    (valid-bytes line (all ++ rest) q begin first.valid) second)
    (piece-is line n.GfmTableDelimiterMarker end s e (colons right) ys second.valid.at
    (valid-bytes line rest e end second.valid)
    (following-from line end s e (colons right) ys second.valid at) ∙ over-marker right e)
  where
    all : List ℕ
    all = 45 ∷ dashes

    rest : List ℕ
    rest = colons right ++ ys

    q : Point
    q = past_text (colons left) p

    e : Point
    e = past_text (45 ∷ dashes) (past_text (colons left) p)

    begin : Rest
    begin = past_optional 58 r

    end : Rest
    end = past (run_len 45 (past_optional 58 r).bytes) (past_optional 58 r)

    first : IsAfter line r (colons left) (45 ∷ (dashes ++ (colons right ++ ys))) p (past_optional 58 r)
    first = left-following left line r p (dashes ++ (colons right ++ ys)) is

    passes : AllPass (λ (b : ℕ). b == 45) (45 ∷ dashes)
    passes = AllPass-from_list_all (λ (b : ℕ). b == 45) (45 ∷ dashes) are

    second : IsAfter line (past_optional 58 r) (45 ∷ dashes) (colons right ++ ys) (past_text (colons left) p)
        (past (run_len 45 (past_optional 58 r).bytes) (past_optional 58 r))
    second =
        run-following (λ (b : ℕ). b == 45) line begin q all rest first.valid passes (no-dash right ys apart)

dashes-inner : IsInner cell_dashes value_part IsValue
dashes-inner = record { nothing = λ p. refl; held = held }
  where
    held : (line : TextLine) (r s : Rest) (p : Point) (xs ys : List ℕ) → Valid line (xs ++ ys) p r →
        IsAfter line r xs ys p s → IsValue xs → is_end xs ≡ false → begins (λ (b : ℕ). b == 45) ys ≡ false →
        cell_dashes line r s ≡ value_part xs p
    held line r s p xs ys is following value some apart =
        ap₂
        (λ (a b : Point).
        around n.GfmTableDelimiterCellValue a b
        (piece line n.GfmTableDelimiterMarker r begin ++ piece line n.GfmTableDelimiterFiller begin end
        ++ piece line n.GfmTableDelimiterMarker end s))
        (begins-place line r p is.at) (begins-place line s (past_text xs p) following.valid.at)
        ∙ ap (around n.GfmTableDelimiterCellValue p (past_text xs p))
        (dashes-are line r s p a.left a.right a.dashes ys a.are apart
        (subst (λ (l : List ℕ). Valid line l p r) bytes is)
        (subst (λ (z : Point). Valid line ys z s) there following.valid)
        ∙ sym (ap (λ (l : List ℕ). delimiter_runs Apart l p) a.is ∙ value-runs a.left a.dashes a.right p a.are))
        ∙ sym (value-some xs p some)
      where
        a : Aligned xs
        a = aligned xs value

        begin : Rest
        begin = past_optional 58 r

        end : Rest
        end = past (run_len 45 (past_optional 58 r).bytes) (past_optional 58 r)

        bytes : xs ++ ys ≡ colons a.left ++ (45 ∷ (a.dashes ++ (colons a.right ++ ys)))
        bytes =
            ap (λ (l : List ℕ). l ++ ys) a.is
            ∙ append_assoc (colons a.left) (45 ∷ (a.dashes ++ colons a.right)) ys
            ∙ ap (λ (l : List ℕ). colons a.left ++ (45 ∷ l)) (append_assoc a.dashes (colons a.right) ys)

        there : past_text xs p ≡
            past_text (colons a.right) (past_text (45 ∷ a.dashes) (past_text (colons a.left) p))
        there =
            ap (λ (l : List ℕ). past_text l p) a.is
            ∙ past_text-append (colons a.left) (45 ∷ (a.dashes ++ colons a.right)) p
            ∙ past_text-append (45 ∷ a.dashes) (colons a.right) (past_text (colons a.left) p)

-- Rows.

-- any row, of a line that is not blank
row-cells : (name cell : Name) (inner : Inner) (held : List ℕ → Point → List Event) (Fits : List ℕ → Type 0) →
    IsInner inner held Fits →
    (line : TextLine) (r : Rest) (p : Point) → BeginsAt line r p → is_blank (rest_bytes r) ≡ false →
    EachFits Fits (line_cells (trim_start (rest_bytes r))) →
    row_line name cell inner line r ≡ around name p (end_at r p) (row_by cell held (rest_bytes r) p)
row-cells name cell inner held Fits known line r p at dark fits =
    ap₂
    (λ (a b : Point).
    around name a b
    (white line r (after_indent r) ++ exact.cells (length r.bytes) cell inner line (after_indent r)))
    (begins-place line r p at) (ends-at line r p at)
    ∙ ap₂ (λ (es fs : List Event). around name p (end_at r p) (es ++ fs))
    (piece-is line n.SpaceOrTab r (after_indent r) p (white_front all) (trim_start all) at (front-whole all) first
    ∙ over-white (white_front all) p)
    (cells-are cell inner held Fits known (length r.bytes) line (after_indent r) (past_text (white_front all) p)
    (trim_start all) first.valid (start-end all ∙ dark) fewer fits)
  where
    all : List ℕ
    all = rest_bytes r

    first : IsAfter line r (white_front (rest_bytes r)) (trim_start (rest_bytes r)) p (after_indent r)
    first = white-front line r p (rest_bytes r) at refl

    fewer : length (trim_start (rest_bytes r)) ≤ length r.bytes
    fewer =
        let same : length (after_indent r).bytes ≡ length (trim_start (rest_bytes r)) =
        ap (λ (l : List ℕ). length l) first.valid.bytes_are in
        let less : length (after_indent r).bytes ≤ length r.bytes = first.fewer in
        omega (arith, same, less)

-- a row of texts,
pub text-row : (line : TextLine) (r : Rest) (p : Point) → BeginsAt line r p → is_blank (rest_bytes r) ≡ false →
    exact.text_row line r ≡ around n.GfmTableRow p (end_at r p) (row_events unread_text (rest_bytes r) p)
text-row line r p at dark =
    row-cells n.GfmTableRow n.GfmTableCell cell_text (cells.text_part unread_text) Any text-inner line r p at dark
    (any-fits (line_cells (trim_start (rest_bytes r))))

-- and a delimiter row
pub delimiter-row : (line : TextLine) (r : Rest) (p : Point) → BeginsAt line r p → is_blank (rest_bytes r) ≡ false →
    AreDelimiters (rest_bytes r) →
    exact.delimiter_row line r ≡ around n.GfmTableDelimiterRow p (end_at r p) (delimiter_events (rest_bytes r) p)
delimiter-row line r p at dark are =
    row-cells n.GfmTableDelimiterRow n.GfmTableDelimiterCell cell_dashes value_part IsValue dashes-inner line r p at
    dark (values-fit (rest_bytes r) are)
