-- The texts of the cells of a row are the cells that the line definition has.
use Rattle.std.proofs.Common.{◌≡◌, ℕ, Bool, true, false, cond, nat_eq, List, [], ◌∷◌, ◌++◌, map, refl, sym, ◌∙◌, ap}
use Rattle.std.specs.List.{onto_first}
use Rattle.std.proofs.lemmas.Bool.{and_parts, eqb-true}
use Rattle.md_meaning.specs.Bytes.{after_optional, is_end}
use Rattle.md_meaning.specs.Rest.{is_blank, is_white, trim, trim_end, trim_start}
use Rattle.md_meaning.specs.Table.{pieces, row_cells}
use Rattle.md_events.proofs.RestLines.{trim-white}
use Rattle.md_tables.specs.RowCells.{Cells, Divides, Ends, Shut, after_pipe, cells_of, line_cells, onto, white_back}
use Rattle.md_tables.proofs.CellLemmas.{dark-next, ends_dark, trimmed-dark}
use Rattle.md_tables.proofs.WhiteEnds.{back-blank, blank-both, blank-light, end-following}
use Rattle.md_tables.proofs.WhiteEnds.{end-blank, end-whole, start-none}
use Rattle.md_leaves.proofs.BreakLemmas.{white-apart}

-- what each cell holds
abbrev pub held_in : Cells → List (List ℕ)
held_in (Ends cell) = cell ∷ []
held_in (Shut cell white) = cell ∷ []
held_in (Divides cell cells) = cell ∷ held_in cells

-- Whitespace at the end of a line.

-- cells with more whitespace after them
abbrev widened : List ℕ → Cells → Cells
widened w (Ends cell) = Ends (cell ++ w)
widened w (Shut cell white) = Shut cell (white ++ w)
widened w (Divides cell cells) = Divides cell (widened w cells)

onto-widened : (w : List ℕ) (b : ℕ) (cells : Cells) → onto b (widened w cells) ≡ widened w (onto b cells)
onto-widened w b (Ends cell) = refl
onto-widened w b (Shut cell white) = refl
onto-widened w b (Divides cell cells) = refl

following-widened : (w bs : List ℕ) (cells : Cells) → is_blank w ≡ true →
    after_pipe (bs ++ w) (widened w cells) ≡ widened w (after_pipe bs cells)
following-widened w bs cells h =
    ap (λ (t : Bool). cond t (Shut [] (bs ++ w)) (Divides [] (widened w cells))) (blank-both bs w h) ∙ go (is_blank bs)
  where
    go : (x : Bool) →
        cond x (Shut [] (bs ++ w)) (Divides [] (widened w cells)) ≡ widened w (cond x (Shut [] bs) (Divides [] cells))
    go true = refl
    go false = refl

cells-blank : (escaped : Bool) (w : List ℕ) → is_blank w ≡ true → cells_of escaped w ≡ Ends w
unfolding cells_of
cells-blank true [] h = refl
cells-blank false [] h = refl
cells-blank true (b ∷ w) h =
    let both = and_parts (is_white b) (is_blank w) h in ap (onto b) (cells-blank false w both.1)
cells-blank false (b ∷ w) h =
    let both = and_parts (is_white b) (is_blank w) h in
    rw (white-apart b 124 both.0 refl, white-apart b 92 both.0 refl) (ap (onto b) (cells-blank false w both.1))

cells-widened : (escaped : Bool) (w bs : List ℕ) → is_blank w ≡ true →
    cells_of escaped (bs ++ w) ≡ widened w (cells_of escaped bs)
unfolding cells_of
cells-widened true w [] h = cells-blank true w h
cells-widened false w [] h = cells-blank false w h
cells-widened true w (b ∷ bs) h =
    ap (onto b) (cells-widened false w bs h) ∙ onto-widened w b (cells_of false bs)
cells-widened false w (b ∷ bs) h = go (nat_eq b 124) (λ x. cells-widened x w bs h)
  where
    go : (y : Bool) → ((x : Bool) → cells_of x (bs ++ w) ≡ widened w (cells_of x bs)) →
        cond y (after_pipe (bs ++ w) (cells_of false (bs ++ w))) (onto b (cells_of (nat_eq b 92) (bs ++ w))) ≡
        widened w (cond y (after_pipe bs (cells_of false bs)) (onto b (cells_of (nat_eq b 92) bs)))
    go true more = ap (after_pipe (bs ++ w)) (more false) ∙ following-widened w bs (cells_of false bs) h
    go false more = ap (onto b) (more (nat_eq b 92)) ∙ onto-widened w b (cells_of (nat_eq b 92) bs)

-- it is none of what a cell has
blank-started : (w : List ℕ) → is_blank w ≡ true → is_blank (trim_start w) ≡ true
blank-started [] h = refl
blank-started (b ∷ w) h =
    let both = and_parts (is_white b) (is_blank w) h in
    ap is_blank (trim-white b w both.0) ∙ blank-started w both.1

trim-following : (x w : List ℕ) → is_blank w ≡ true → trim (x ++ w) ≡ trim x
trim-following [] w h = (end-blank (trim_start w) (blank-started w h)).0
trim-following (b ∷ x) w h = go (is_white b) refl (trim-following x w h)
  where
    go : (t : Bool) → is_white b ≡ t → trim (x ++ w) ≡ trim x → trim (b ∷ x ++ w) ≡ trim (b ∷ x)
    go true e more =
        ap trim_end (trim-white b (x ++ w) e) ∙ more ∙ sym (ap trim_end (trim-white b x e))
    go false e more =
        ap trim_end (start-none b (x ++ w) e) ∙ end-following (b ∷ x) w h ∙ sym (ap trim_end (start-none b x e))

trim-widened : (w : List ℕ) (cells : Cells) → is_blank w ≡ true →
    map trim (held_in (widened w cells)) ≡ map trim (held_in cells)
trim-widened w (Ends cell) h = ap (λ (x : List ℕ). x ∷ []) (trim-following cell w h)
trim-widened w (Shut cell white) h = refl
trim-widened w (Divides cell cells) h = ap (λ (xs : List (List ℕ)). trim cell ∷ xs) (trim-widened w cells h)

-- The pieces between pipes.

held-onto : (b : ℕ) (cells : Cells) → held_in (onto b cells) ≡ onto_first b (held_in cells)
held-onto b (Ends cell) = refl
held-onto b (Shut cell white) = refl
held-onto b (Divides cell cells) = refl

-- bytes that do not end with whitespace are blank just where there are none
dark-blank : (bs : List ℕ) → ends_dark bs ≡ true → is_blank bs ≡ is_end bs
dark-blank [] h = refl
dark-blank (b ∷ bs) h = go (is_blank (b ∷ bs)) refl
  where
    go : (x : Bool) → is_blank (b ∷ bs) ≡ x → is_blank (b ∷ bs) ≡ false
    go true e = let no : false ≡ true = sym (blank-light b bs e) ∙ h in cc
    go false e = e

pieces-end : (escaped : Bool) (bs : List ℕ) → is_end bs ≡ true → pieces escaped bs ≡ [] ∷ []
unfolding pieces
pieces-end true [] h = refl
pieces-end false [] h = refl
pieces-end escaped (b ∷ bs) h = let no : false ≡ true = h in cc

pieces-held : (escaped : Bool) (bs : List ℕ) → ends_dark bs ≡ true → held_in (cells_of escaped bs) ≡ pieces escaped bs
unfolding cells_of pieces
pieces-held true [] h = refl
pieces-held false [] h = refl
pieces-held true (b ∷ bs) h =
    held-onto b (cells_of false bs) ∙ ap (onto_first b) (pieces-held false bs (dark-next b bs h))
pieces-held false (b ∷ bs) h = go (nat_eq b 124) refl (λ x. pieces-held x bs (dark-next b bs h))
  where
    held : Bool → List (List ℕ)
    held last = held_in (cond last (Shut [] bs) (Divides [] (cells_of false bs)))

    wanted : Bool → Bool → List (List ℕ)
    wanted last x = cond last (pieces x bs) ([] ∷ pieces x bs)

    piped : (last : Bool) → is_end bs ≡ last → held_in (cells_of false bs) ≡ pieces false bs →
        held last ≡ wanted last false
    piped true e more = sym (pieces-end false bs e)
    piped false e more = ap (λ (xs : List (List ℕ)). [] ∷ xs) more

    go : (y : Bool) → nat_eq b 124 ≡ y → ((x : Bool) → held_in (cells_of x bs) ≡ pieces x bs) →
        held_in (cond y (after_pipe bs (cells_of false bs)) (onto b (cells_of (nat_eq b 92) bs))) ≡
        cond y (wanted (is_end bs) (nat_eq b 92)) (onto_first b (pieces (nat_eq b 92) bs))
    go true k more =
        let plain : nat_eq b 92 ≡ false = rw (eqb-true b 124 k) refl in
        ap held (dark-blank bs (dark-next b bs h)) ∙ piped (is_end bs) refl (more false)
        ∙ ap (wanted (is_end bs)) (sym plain)
    go false k more = held-onto b (cells_of (nat_eq b 92) bs) ∙ ap (onto_first b) (more (nat_eq b 92))

-- The row.

optional-white : (w : List ℕ) → is_blank w ≡ true → after_optional 124 w ≡ w
optional-white [] h = refl
optional-white (b ∷ w) h =
    let both = and_parts (is_white b) (is_blank w) h in rw (white-apart b 124 both.0 refl) refl

optional-append : (t w : List ℕ) → is_blank w ≡ true → after_optional 124 (t ++ w) ≡ after_optional 124 t ++ w
optional-append [] w h = optional-white w h
optional-append (b ∷ t) w h = go (nat_eq b 124)
  where
    go : (x : Bool) → cond x (t ++ w) (b ∷ t ++ w) ≡ cond x t (b ∷ t) ++ w
    go true = refl
    go false = refl

optional-dark : (t : List ℕ) → ends_dark t ≡ true → ends_dark (after_optional 124 t) ≡ true
optional-dark [] h = refl
optional-dark (b ∷ t) h = go (nat_eq b 124)
  where
    go : (x : Bool) → ends_dark (cond x t (b ∷ t)) ≡ true
    go true = dark-next b t h
    go false = h

-- The cells of a line hold what the line definition says, with whitespace around it.
pub held-cells : (line : List ℕ) → map trim (held_in (line_cells (trim_start line))) ≡ row_cells line
unfolding row_cells
held-cells line =
    ap (λ (l : List ℕ). map trim (held_in (cells_of false l)))
    (ap (after_optional 124) (end-whole (trim_start line)) ∙ optional-append (trim line) w blank)
    ∙ ap (λ (cells : Cells). map trim (held_in cells)) (cells-widened false w (after_optional 124 (trim line)) blank)
    ∙ trim-widened w (cells_of false (after_optional 124 (trim line))) blank
    ∙ ap (map trim)
    (pieces-held false (after_optional 124 (trim line))
    (optional-dark (trim line) (trimmed-dark (trim_start line))))
  where
    w : List ℕ
    w = white_back (trim_start line)

    blank : is_blank w ≡ true
    blank = back-blank (trim_start line)
