-- The lines of the cells of a text: those of the bytes of its lines, further ones without leading spaces and tabs.
use Rattle.std.proofs.Common.{◌≡◌, inl, inr, ℕ, zero, suc, ◌+◌, ◌≤◌, Bool, true, false, cond, nat_eq, List, [], ◌∷◌}
use Rattle.std.proofs.Common.{◌++◌, refl, sym, ◌∙◌, ap, arith, subst, append-nil}
use Rattle.std.specs.List.{onto_first}
use Rattle.std.proofs.lemmas.Bool.{eqb-true, or_parts}
use Rattle.std.proofs.lemmas.Bool.Decides.{nat_tests}
use Rattle.md_meaning.specs.Lines.{is_ending}
use Rattle.md_meaning.specs.Rest.{Rest, is_white, trim_start}
use Rattle.md_meaning.proofs.TextsLemmas.{NoEnding}
use Rattle.md_engine.specs.declared.event.Point.{Point}
use Rattle.md_engine.specs.declared.tokenizer.Line.{Line}
use Rattle.md_engine.specs.Meaning.{Cell}
use Rattle.md_link_definitions.specs.CellLines.{cell_lines}
use Rattle.md_link_definitions.specs.WholeCells.{AreWhole, whole_cells}
use Rattle.md_events.specs.Ahead.{point_after}
use Rattle.md_events.specs.Events.Places.{past_byte, past_text}
use Rattle.md_events.proofs.FeedLines.{Stops, after_last, byte-end, byte_cells, cell, columns_more, next_column}
use Rattle.md_events.proofs.FeedLines.{past_text-whole, spread, spread-end, tab-end, tab_cells, tab_end}
use Rattle.md_events.proofs.RestCells.{Cut, cells_by, past_cut, past_rest, rest-end, rest_cells}
use Rattle.md_events.proofs.RestLines.{trim-white}
use Rattle.md_link_definitions.proofs.GapLines.{whole-first}

-- One piece after another.

-- they are as a text has them,
pub whole-append : (xs ys : List Cell) (p : Point) → AreWhole p xs → AreWhole (point_after xs p) ys →
    AreWhole p (xs ++ ys)
whole-append [] ys p are more = more
whole-append (c ∷ xs) ys p are more = (are.0, whole-append xs ys c.after are.1 more)

-- and bytes begin where they began
pub whole_cells-append : (xs ys : List Cell) (p : Point) →
    whole_cells p (xs ++ ys) ≡ whole_cells p xs ++ whole_cells (point_after xs p) ys
whole_cells-append [] ys p = refl
whole_cells-append (c ∷ xs) ys p = go (nat_eq p.vs 0) (whole_cells-append xs ys c.after)
  where
    go : (x : Bool) →
        whole_cells c.after (xs ++ ys) ≡ whole_cells c.after xs ++ whole_cells (point_after xs c.after) ys →
        cond x (c ∷ whole_cells c.after (xs ++ ys)) (whole_cells c.after (xs ++ ys)) ≡
        cond x (c ∷ whole_cells c.after xs) (whole_cells c.after xs) ++ whole_cells (point_after xs c.after) ys
    go true e = ap (λ (x : List Cell). c ∷ x) e
    go false e = e

-- The cells of a byte, as a text has them.

-- of a tab,
tab-whole : (line : Line) (n b : ℕ) (p q : Point) → is_white b ≡ true → AreWhole q (tab_cells line n b p)
tab-whole line zero b p q w = (inl w, tt)
tab-whole line (suc n) b p q w = (inl w, tab-whole line n 32 (next_column p) (next_column p) refl)

-- and of any
byte-whole : (line : Line) (b : ℕ) (p : Point) → p.vs ≡ 0 → AreWhole p (byte_cells line b p)
byte-whole line b p at = go (nat_eq b 9) refl
  where
    go : (x : Bool) → nat_eq b 9 ≡ x → AreWhole p (byte_cells line b p)
    go true e = rw e (tab-whole line (columns_more p) 9 p p refl)
    go false e = rw e (inr (at, inr refl), tt)

-- The cells of bytes, and of the rest of a line, are as a text has them.
pub spread-whole : (line : Line) (bytes : List ℕ) (p : Point) → p.vs ≡ 0 → 1 ≤ p.column →
    AreWhole p (spread line bytes p)
spread-whole line [] p at one = tt
spread-whole line (b ∷ bs) p at one =
    whole-append (byte_cells line b p) (spread line bs (past_byte b p)) p (byte-whole line b p at)
    (subst (λ (q : Point). AreWhole q (spread line bs (past_byte b p))) (sym (byte-end line b p one))
    (spread-whole line bs (past_byte b p) refl (omega arith)))

-- of a rest, which may begin within a tab
pub rest-whole : (line : Line) (r : Rest) (p : Point) → Cut r.spaces p → 1 ≤ p.column → AreWhole p (rest_cells line r p)
rest-whole line r p cut one = go r.spaces cut
  where
    go : (spaces : ℕ) → Cut spaces p → AreWhole p (cells_by line spaces r.bytes p)
    go zero at = spread-whole line r.bytes p at one
    go (suc n) at =
        whole-append (tab_cells line n 32 p) (spread line r.bytes (tab_end n p)) p (tab-whole line n 32 p p refl)
        (subst (λ (q : Point). AreWhole q (spread line r.bytes (tab_end n p))) (sym (tab-end line n 32 p p))
        (spread-whole line r.bytes (tab_end n p) refl (omega arith)))

-- The lines of bytes.

-- within a tab no byte begins
pub tab-none : (line : Line) (n b : ℕ) (p : Point) → nat_eq p.vs 0 ≡ false → whole_cells p (tab_cells line n b p) ≡ []
tab-none line zero b p e = rw e refl
tab-none line (suc n) b p e =
    let more : nat_eq (p.vs + 1) 0 ≡ false = grind (arith, nat_tests) in rw e (tab-none line n 32 (next_column p) more)

-- one begins with its first cell
abbrev Begins : Line → ℕ → Point → Type 0
Begins line b p = (q : Point) × (whole_cells p (byte_cells line b p) ≡ cell b q line ∷ [])

-- it does
byte-begins : (line : Line) (b : ℕ) (p : Point) → nat_eq p.vs 0 ≡ true → Begins line b p
byte-begins line b p at = go (nat_eq b 9) refl
  where
    tab : (n : ℕ) → (q : Point) × (whole_cells p (tab_cells line n 9 p) ≡ cell 9 q line ∷ [])
    tab zero = (after_last p, rw at refl)
    tab (suc n) =
        let q = next_column p in
        let within : nat_eq (p.vs + 1) 0 ≡ false = grind (arith, nat_tests) in
        (q, rw at (ap (λ (x : List Cell). cell 9 q line ∷ x) (tab-none line n 32 q within)))

    go : (x : Bool) → nat_eq b 9 ≡ x → Begins line b p
    go true e = subst (λ (c : ℕ). Begins line c p) (sym (eqb-true b 9 e)) (tab (columns_more p))
    go false e = (past_byte b p, rw (e, at) refl)

-- these bytes before the first line
abbrev pub onto : List ℕ → List (List ℕ) → List (List ℕ)
onto [] lines = lines
onto (b ∷ bs) lines = onto_first b (onto bs lines)

-- before what is there
onto-line : (bytes line : List ℕ) (lines : List (List ℕ)) → onto bytes (line ∷ lines) ≡ (bytes ++ line) ∷ lines
onto-line [] line lines = refl
onto-line (b ∷ bs) line lines = ap (onto_first b) (onto-line bs line lines)

-- the cells of one byte more
byte-then : (line : Line) (b : ℕ) (bs : List ℕ) (p : Point) (more : List Cell) → p.vs ≡ 0 → 1 ≤ p.column →
    (q : Point) ×
    (whole_cells p (spread line (b ∷ bs) p) ++ more ≡
    cell b q line ∷ whole_cells (past_byte b p) (spread line bs (past_byte b p)) ++ more)
byte-then line b bs p more at one =
    let rest = spread line bs (past_byte b p) in
    let first = byte-begins line b p (rw at refl) in (
      first.0,
      ap (λ (x : List Cell). x ++ more)
          (whole_cells-append (byte_cells line b p) rest p
          ∙ ap (λ (x : List Cell). x ++ whole_cells (point_after (byte_cells line b p) p) rest) first.1
          ∙ ap (λ (q : Point). cell b first.0 line ∷ whole_cells q rest) (byte-end line b p one)),
    )

-- no line ends at it
no-ending : (b : ℕ) → is_ending b ≡ false → nat_eq b 10 ≡ false
no-ending b e = (or_parts (nat_eq b 10) (nat_eq b 13) e).0

-- The lines of bytes,
spread-on : (line : Line) (bytes : List ℕ) (p : Point) (more : List Cell) → NoEnding bytes → p.vs ≡ 0 → 1 ≤ p.column →
    cell_lines false (whole_cells p (spread line bytes p) ++ more) ≡ onto bytes (cell_lines false more)
unfolding cell_lines
spread-on line [] p more none at one = refl
spread-on line (b ∷ bs) p more none at one =
    let then = byte-then line b bs p more at one in
    let plain : nat_eq b 10 ≡ false = no-ending b none.0 in
    ap (cell_lines false) then.1
    ∙ rw plain (ap (onto_first b) (spread-on line bs (past_byte b p) more none.1 refl (omega arith)))

-- and of a further line, without whitespace in front: here none comes first
trim-dark : (b : ℕ) (bs : List ℕ) → is_white b ≡ false → trim_start (b ∷ bs) ≡ b ∷ bs
trim-dark b bs e = rw e refl

-- at the end of a line
led-none : (more : List Cell) → Stops more → cell_lines true more ≡ cell_lines false more
unfolding cell_lines
led-none [] stops = refl
led-none (c ∷ cs) stops = rw stops refl

-- at a byte of it
led-byte : (c : Cell) (cs : List Cell) (x : Bool) → nat_eq c.byte 10 ≡ false → is_white c.byte ≡ x →
    cell_lines true (c ∷ cs) ≡ cond x (cell_lines true cs) (onto_first c.byte (cell_lines false cs))
unfolding cell_lines
led-byte c cs x e w = rw (e, w) refl

-- of bytes,
spread-led : (line : Line) (bytes : List ℕ) (p : Point) (more : List Cell) → NoEnding bytes → p.vs ≡ 0 → 1 ≤ p.column →
    Stops more →
    cell_lines true (whole_cells p (spread line bytes p) ++ more) ≡ onto (trim_start bytes) (cell_lines false more)
spread-led line [] p more none at one stops = led-none more stops
spread-led line (b ∷ bs) p more none at one stops =
    go (is_white b) refl (spread-led line bs (past_byte b p) more none.1 refl (omega arith) stops)
  where
    left : List Cell
    left = whole_cells (past_byte b p) (spread line bs (past_byte b p)) ++ more

    then : (q : Point) × (whole_cells p (spread line (b ∷ bs) p) ++ more ≡ cell b q line ∷ left)
    then = byte-then line b bs p more at one

    plain : nat_eq b 10 ≡ false
    plain = no-ending b none.0

    go : (x : Bool) → is_white b ≡ x → cell_lines true left ≡ onto (trim_start bs) (cell_lines false more) →
        cell_lines true (whole_cells p (spread line (b ∷ bs) p) ++ more) ≡
        onto (trim_start (b ∷ bs)) (cell_lines false more)
    go true e on =
        ap (cell_lines true) then.1 ∙ led-byte (cell b then.0 line) left true plain e ∙ on
        ∙ ap (λ (x : List ℕ). onto x (cell_lines false more)) (sym (trim-white b bs e))
    go false e on =
        ap (cell_lines true) then.1 ∙ led-byte (cell b then.0 line) left false plain e
        ∙ ap (onto_first b) (spread-on line bs (past_byte b p) more none.1 refl (omega arith))
        ∙ ap (λ (x : List ℕ). onto x (cell_lines false more)) (sym (trim-dark b bs e))

-- and of a rest
rest-led : (line : Line) (r : Rest) (p : Point) (more : List Cell) → NoEnding r.bytes → Cut r.spaces p →
    1 ≤ p.column → Stops more →
    cell_lines true (whole_cells p (rest_cells line r p) ++ more) ≡ onto (trim_start r.bytes) (cell_lines false more)
rest-led line r p more none cut one stops = go r.spaces cut
  where
    go : (spaces : ℕ) → Cut spaces p →
        cell_lines true (whole_cells p (cells_by line spaces r.bytes p) ++ more) ≡
        onto (trim_start r.bytes) (cell_lines false more)
    go zero at = spread-led line r.bytes p more none at one stops
    go (suc n) at =
        let q = tab_end n p in
        let rest = spread line r.bytes q in
        let more_columns = at.0 in
        let within : nat_eq p.vs 0 ≡ false = grind (arith, nat_tests) in
        ap (λ (x : List Cell). cell_lines true (x ++ more))
        (whole_cells-append (tab_cells line n 32 p) rest p
        ∙ ap (λ (x : List Cell). x ++ whole_cells (point_after (tab_cells line n 32 p) p) rest)
        (tab-none line n 32 p within)
        ∙ ap (λ (e : Point). whole_cells e rest) (tab-end line n 32 p p))
        ∙ spread-led line r.bytes q more none refl (omega arith) stops

-- these bytes alone on the first line
onto-empty : (bytes : List ℕ) (lines : List (List ℕ)) → onto bytes ([] ∷ lines) ≡ bytes ∷ lines
onto-empty bytes lines = onto-line bytes [] lines ∙ ap (λ (x : List ℕ). x ∷ lines) (append-nil bytes)

-- and the lines before it
ending-next : (bytes : List ℕ) (c : Cell) (cs : List Cell) → nat_eq c.byte 10 ≡ true →
    onto bytes (cell_lines false (c ∷ cs)) ≡ bytes ∷ cell_lines true cs
unfolding cell_lines
ending-next bytes c cs e = rw e (onto-empty bytes (cell_lines true cs))

-- Lines of a text: the last one,
pub spread-last : (line : Line) (bytes : List ℕ) (p : Point) → NoEnding bytes → p.vs ≡ 0 → 1 ≤ p.column →
    cell_lines false (whole_cells p (spread line bytes p)) ≡ bytes ∷ []
unfolding cell_lines
spread-last line bytes p none at one =
    ap (cell_lines false) (sym (append-nil (whole_cells p (spread line bytes p))))
    ∙ spread-on line bytes p [] none at one ∙ onto-empty bytes []

-- and one that others follow;
pub spread-next : (line : Line) (bytes : List ℕ) (p : Point) (c : Cell) (cs : List Cell) → NoEnding bytes → p.vs ≡ 0 →
    1 ≤ p.column → nat_eq c.byte 10 ≡ true →
    cell_lines false (whole_cells p (spread line bytes p ++ c ∷ cs)) ≡
    bytes ∷ cell_lines true (whole_cells c.after cs)
spread-next line bytes p c cs none at one ending =
    let here = spread line bytes p in
    ap (cell_lines false)
    (whole_cells-append here (c ∷ cs) p
    ∙ ap (λ (x : List Cell). whole_cells p here ++ x)
    (ap (λ (q : Point). whole_cells q (c ∷ cs)) (spread-end line bytes p one)
    ∙ whole-first (past_text bytes p) c cs (past_text-whole bytes p at)))
    ∙ spread-on line bytes p (c ∷ whole_cells c.after cs) none at one
    ∙ ending-next bytes c (whole_cells c.after cs) ending

-- the same of a further line, without leading spaces and tabs.
pub rest-last : (line : Line) (r : Rest) (p : Point) → NoEnding r.bytes → Cut r.spaces p → 1 ≤ p.column →
    cell_lines true (whole_cells p (rest_cells line r p)) ≡ trim_start r.bytes ∷ []
unfolding cell_lines
rest-last line r p none cut one =
    ap (cell_lines true) (sym (append-nil (whole_cells p (rest_cells line r p))))
    ∙ rest-led line r p [] none cut one tt ∙ onto-empty (trim_start r.bytes) []

-- and one that others follow
pub rest-next : (line : Line) (r : Rest) (p : Point) (c : Cell) (cs : List Cell) → NoEnding r.bytes → Cut r.spaces p →
    1 ≤ p.column → nat_eq c.byte 10 ≡ true →
    cell_lines true (whole_cells p (rest_cells line r p ++ c ∷ cs)) ≡
    trim_start r.bytes ∷ cell_lines true (whole_cells c.after cs)
rest-next line r p c cs none cut one ending =
    let here = rest_cells line r p in
    ap (cell_lines true)
    (whole_cells-append here (c ∷ cs) p
    ∙ ap (λ (x : List Cell). whole_cells p here ++ x)
    (ap (λ (q : Point). whole_cells q (c ∷ cs)) (rest-end line r p one)
    ∙ whole-first (past_rest r p) c cs (past_text-whole r.bytes (past_cut r.spaces p) (whole r.spaces cut))))
    ∙ rest-led line r p (c ∷ whole_cells c.after cs) none cut one ending
    ∙ ending-next (trim_start r.bytes) c (whole_cells c.after cs) ending
  where
    whole : (spaces : ℕ) → Cut spaces p → (past_cut spaces p).vs ≡ 0
    whole zero at = at
    whole (suc n) at = refl
