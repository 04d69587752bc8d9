-- What is known of the parts of a row holds of its cells one after the other, and of the whole row.
--
-- This goes for rows of texts and for delimiter rows: cells are known from their name, by what they hold before texts
-- are read and once they are, and by what is asked of their bytes.
use Rattle.std.proofs.Common.{◌≡◌, ℕ, ◌+◌, ◌<◌, Bool, true, false, cond, nat_eq, List, [], ◌∷◌, ◌++◌, length, drop}
use Rattle.std.proofs.Common.{refl, sym, ap, ◌∙◌, subst, subst₂, append_assoc, arith}
use Rattle.std.specs.List.{list_all}
use Rattle.std.proofs.lemmas.Bool.{and_parts}
use Rattle.md_engine.specs.declared.event.Event.{Event}
use Rattle.md_engine.specs.declared.event.Name.{Name}
use Rattle.md_engine.specs.declared.event.Point.{Point}
use Rattle.md_meaning.specs.Lines.{begins_with}
use Rattle.md_meaning.specs.Rest.{is_blank, is_white, trim, trim_start}
use Rattle.md_events.specs.Events.Places.{past_byte, past_text}
use Rattle.md_events.proofs.InlineLemmas.{past-index, past_text-append}
use Rattle.md_events.proofs.PlacesLemmas.{at-next}
use Rattle.md_tables.specs.RowCells.{Cells, Divides, Ends, Shut, after_pipe, cell_by, cells_by, cells_of, first_pipe}
use Rattle.md_tables.specs.RowCells.{line_cells, onto, past_pipe, pipe_part, row_by, white_back, white_front}
use Rattle.md_tables.proofs.RowBytes.{cell-whole, cells_bytes, front-blank, front-whole, line-bytes, pipe_bytes}
use Rattle.md_events.proofs.RestLines.{trim-white}
use Rattle.md_tables.proofs.WhiteEnds.{back-blank, blank-first, front-none, front-one, start-none}
use Rattle.proof_frame.proofs.BetweenFacts.{between-before, blank-low, is_low}
use Rattle.proof_frame.proofs.PlaceBetween.{IsPlace, low-following}
use Rattle.proof_frame.proofs.LineWalk.{At}
use Rattle.proof_leaf_laws.proofs.GfmTable.RowAt.{RowAt, at-following, at-first, row-start}
use Rattle.proof_leaf_laws.proofs.GfmTable.RowParts.{IsRowGroup, RowFacts, row-append, row-around, row-none}
use Rattle.proof_leaf_laws.proofs.GfmTable.RowParts.{row-pipe, row-white}
use Rattle.proof_frame.proofs.PieceFacts.{CutsFirst, whole-first}

-- What is asked of cells: of their name, and of what they hold where its bytes are so.
pub record IsCellKind (bytes : List ℕ) (name : Name) (unread done : List ℕ → Point → List Event)
    (Fits : List ℕ → Type 0) : Type 0
  where
    pub group : IsRowGroup name
    pub held : (xs rest : List ℕ) (p : Point) → At bytes xs p rest → Fits xs →
        RowFacts bytes p (past_text xs p) (unread xs p) (done xs p)

-- what each cell holds is so
abbrev pub EachFits : (List ℕ → Type 0) → Cells → Type 0
EachFits Fits (Ends cell) = Fits (trim cell)
EachFits Fits (Shut cell white) = Fits (trim cell)
EachFits Fits (Divides cell cells) = Fits (trim cell) × EachFits Fits cells

-- Places between characters.

-- before a byte of ASCII
pub low-front : (bytes : List ℕ) (b : ℕ) (rest : List ℕ) (p : Point) → drop p.index bytes ≡ b ∷ rest → is_low b ≡ true →
    IsPlace bytes p
low-front bytes b rest p is low =
    between-before bytes p.index (subst (λ (c : ℕ). is_low c ≡ true) (sym (at-next p.index bytes b rest is)) low)

-- before whitespace if after it, and after it if in front
place-front : (bytes w rest : List ℕ) (p : Point) → drop p.index bytes ≡ w ++ rest → is_blank w ≡ true →
    IsPlace bytes (past_text w p) → IsPlace bytes p
place-front bytes [] rest p is blank last = last
place-front bytes (b ∷ w) rest p is blank last =
    low-front bytes b (w ++ rest) p is (and_parts (is_low b) (list_all is_low w) (blank-low (b ∷ w) blank)).0

place-following : (bytes w rest : List ℕ) (p : Point) → drop p.index bytes ≡ w ++ rest → is_blank w ≡ true →
    IsPlace bytes p → IsPlace bytes (past_text w p)
place-following bytes [] rest p is blank first = first
place-following bytes (b ∷ w) rest p is blank first = low-following bytes b w rest p is (blank-low (b ∷ w) blank)

-- A pipe before a cell, if there is one.

pub past-pipe : (piped : Bool) (xs : List ℕ) (p : Point) →
    past_text (pipe_bytes piped ++ xs) p ≡ past_text xs (past_pipe piped p)
past-pipe true xs p = refl
past-pipe false xs p = refl

pub at-pipe : (bytes : List ℕ) (piped : Bool) (xs rest : List ℕ) (p : Point) →
    At bytes (pipe_bytes piped ++ xs) p rest → At bytes xs (past_pipe piped p) rest
at-pipe bytes true xs rest p at = at-following bytes (124 ∷ []) xs rest p at
at-pipe bytes false xs rest p at = at

pipe-front : (bytes : List ℕ) (piped : Bool) (xs rest : List ℕ) (p : Point) → At bytes (pipe_bytes piped ++ xs) p rest →
    RowFacts bytes p (past_pipe piped p) (first_pipe piped p) (first_pipe piped p)
pipe-front bytes true xs rest p at = row-pipe bytes (xs ++ rest) p at.valid at.whole
pipe-front bytes false xs rest p at = row-none bytes p

pipe-following : (bytes : List ℕ) (piped : Bool) (xs rest : List ℕ) (p : Point) →
    At bytes (pipe_bytes piped ++ xs) p rest → IsPlace bytes p → IsPlace bytes (past_pipe piped p)
pipe-following bytes true xs rest p at first = low-following bytes 124 [] (xs ++ rest) p at.valid refl
pipe-following bytes false xs rest p at first = first

-- What a cell holds, with whitespace around it.
inside-facts : (bytes : List ℕ) (name : Name) (u d : List ℕ → Point → List Event) (Fits : List ℕ → Type 0) →
    IsCellKind bytes name u d Fits → (cell rest : List ℕ) (p : Point) → At bytes cell p rest → Fits (trim cell) →
    RowFacts bytes p (past_text cell p) (cell_by u cell p) (cell_by d cell p)
inside-facts bytes name u d Fits is cell rest p at fits =
    subst (λ (e : Point). RowFacts bytes p e (cell_by u cell p) (cell_by d cell p)) (sym end)
    (row-append
    (row-white bytes front ((trim cell ++ back) ++ rest) p at-front.valid (whole-first p front at.whole)
    (front-blank cell))
    (row-append (is.held (trim cell) (back ++ rest) q (at-first bytes (trim cell) back rest q at-text) fits)
    (row-white bytes back rest r at-back.valid (whole-first r back at-back.whole) (back-blank (trim_start cell)))
    (λ first last. place-front bytes back rest r at-back.valid (back-blank (trim_start cell)) last))
    (λ first last. place-following bytes front ((trim cell ++ back) ++ rest) p at-front.valid (front-blank cell) first))
  where
    front : List ℕ
    front = white_front cell

    back : List ℕ
    back = white_back (trim_start cell)

    q : Point
    q = past_text (white_front cell) p

    r : Point
    r = past_text (trim cell) (past_text (white_front cell) p)

    whole : At bytes (white_front cell ++ (trim cell ++ white_back (trim_start cell))) p rest
    whole = subst (λ (xs : List ℕ). At bytes xs p rest) (cell-whole cell) at

    at-front : At bytes (white_front cell) p ((trim cell ++ white_back (trim_start cell)) ++ rest)
    at-front = at-first bytes front (trim cell ++ back) rest p whole

    at-text : At bytes (trim cell ++ white_back (trim_start cell)) (past_text (white_front cell) p) rest
    at-text = at-following bytes front (trim cell ++ back) rest p whole

    at-back : At bytes (white_back (trim_start cell)) (past_text (trim cell) (past_text (white_front cell) p)) rest
    at-back = at-following bytes (trim cell) back rest q at-text

    end : past_text cell p ≡
        past_text (white_back (trim_start cell)) (past_text (trim cell) (past_text (white_front cell) p))
    end =
        ap (λ (xs : List ℕ). past_text xs p) (cell-whole cell) ∙ past_text-append front (trim cell ++ back) p
        ∙ past_text-append (trim cell) back q

-- A cell with the pipe before it.
piped-facts : (bytes : List ℕ) (name : Name) (u d : List ℕ → Point → List Event) (Fits : List ℕ → Type 0) →
    IsCellKind bytes name u d Fits → (piped : Bool) (cell rest : List ℕ) (p : Point) →
    At bytes (pipe_bytes piped ++ cell) p rest → Fits (trim cell) →
    let q = past_pipe piped p in
    RowFacts bytes p (past_text cell q) (first_pipe piped p ++ cell_by u cell q)
    (first_pipe piped p ++ cell_by d cell q)
piped-facts bytes name u d Fits is piped cell rest p at fits =
    let q = past_pipe piped p in
    row-append (pipe-front bytes piped cell rest p at)
    (inside-facts bytes name u d Fits is cell rest q (at-pipe bytes piped cell rest p at) fits)
    (λ first last. pipe-following bytes piped cell rest p at first)

-- it has some bytes, if there is one or it is not empty
end-later : (piped : Bool) (cell : List ℕ) (p : Point) → 0 < length (pipe_bytes piped ++ cell) →
    p.index < (past_text cell (past_pipe piped p)).index
end-later piped cell p some =
    let e : (past_text cell (past_pipe piped p)).index ≡
    p.index + length (pipe_bytes piped ++ cell) = ap (λ (r : Point). r.index) (sym (past-pipe piped cell p))
    ∙ past-index (pipe_bytes piped ++ cell) p in
    omega (arith, e, some)

-- Cells.

-- each has a byte at least, with its pipes, and whitespace alone is after the last pipe
abbrev AreCut : Bool → Cells → Type 0
AreCut piped (Ends cell) = 0 < length (pipe_bytes piped ++ cell)
AreCut piped (Shut cell white) = is_blank white ≡ true
AreCut piped (Divides cell cells) = (0 < length (pipe_bytes piped ++ cell)) × AreCut true cells

-- so it is with those of bytes after a pipe,
cut-onto : (piped : Bool) (b : ℕ) (cells : Cells) → AreCut true cells → AreCut piped (onto b cells)
cut-onto true b (Ends cell) h = omega arith
cut-onto false b (Ends cell) h = omega arith
cut-onto piped b (Shut cell white) h = h
cut-onto true b (Divides cell cells) h = (omega arith, h.1)
cut-onto false b (Divides cell cells) h = (omega arith, h.1)

cut-following : (bs : List ℕ) (cells : Cells) → AreCut true cells → AreCut true (after_pipe bs cells)
cut-following bs cells h = go (is_blank bs) refl
  where
    go : (x : Bool) → is_blank bs ≡ x → AreCut true (cond x (Shut [] bs) (Divides [] cells))
    go true e = e
    go false e = (omega arith, h)

cut-of : (escaped : Bool) (bs : List ℕ) → AreCut true (cells_of escaped bs)
unfolding cells_of
cut-of true [] = omega arith
cut-of false [] = omega arith
cut-of true (b ∷ bs) = cut-onto true b (cells_of false bs) (cut-of false bs)
cut-of false (b ∷ bs) = go (nat_eq b 124) (λ x. cut-of x bs)
  where
    go : (y : Bool) → ((x : Bool) → AreCut true (cells_of x bs)) →
        AreCut true (cond y (after_pipe bs (cells_of false bs)) (onto b (cells_of (nat_eq b 92) bs)))
    go true more = cut-following bs (cells_of false bs) (more false)
    go false more = cut-onto true b (cells_of (nat_eq b 92) bs) (more (nat_eq b 92))

-- and with those of a line that is not blank
line-cut : (line : List ℕ) → is_blank line ≡ false → AreCut (begins_with 124 line) (line_cells line)
unfolding cells_of
line-cut [] h = cc
line-cut (b ∷ bs) h = go (nat_eq b 124) refl
  where
    plain : nat_eq b 124 ≡ false → AreCut false (cells_of false (b ∷ bs))
    plain k =
        subst
        (λ (x : Bool).
        AreCut false (cond x (after_pipe bs (cells_of false bs)) (onto b (cells_of (nat_eq b 92) bs)))) (sym k)
        (cut-onto false b (cells_of (nat_eq b 92) bs) (cut-of (nat_eq b 92) bs))

    go : (y : Bool) → nat_eq b 124 ≡ y → AreCut y (cells_of false (cond y bs (b ∷ bs)))
    go true k = cut-of false bs
    go false k = plain k

-- a pipe that divides is between characters
piped-place : (bytes : List ℕ) (cells : Cells) (rest : List ℕ) (p : Point) → At bytes (cells_bytes true cells) p rest →
    IsPlace bytes p
piped-place bytes (Ends cell) rest p at = low-front bytes 124 (cell ++ rest) p at.valid refl
piped-place bytes (Shut cell white) rest p at = low-front bytes 124 ((cell ++ 124 ∷ white) ++ rest) p at.valid refl
piped-place bytes (Divides cell cells) rest p at =
    low-front bytes 124 ((cell ++ cells_bytes true cells) ++ rest) p at.valid refl

cells-facts : (bytes : List ℕ) (name : Name) (u d : List ℕ → Point → List Event) (Fits : List ℕ → Type 0) →
    IsCellKind bytes name u d Fits → (piped : Bool) (cells : Cells) (rest : List ℕ) (p : Point) →
    At bytes (cells_bytes piped cells) p rest → AreCut piped cells → EachFits Fits cells →
    RowFacts bytes p (past_text (cells_bytes piped cells) p) (cells_by name u piped cells p)
    (cells_by name d piped cells p)
cells-facts bytes name u d Fits is piped (Ends cell) rest p at cut fits =
    subst
    (λ (e : Point).
    RowFacts bytes p e (cells_by name u piped (Ends cell) p) (cells_by name d piped (Ends cell) p))
    (sym (past-pipe piped cell p))
    (row-around name is.group (end-later piped cell p cut)
    (piped-facts bytes name u d Fits is piped cell rest p at fits))
  where
    q : Point
    q = past_pipe piped p
cells-facts bytes name u d Fits is piped (Shut cell white) rest p at cut fits =
    subst
    (λ (e : Point).
    RowFacts bytes p e (cells_by name u piped (Shut cell white) p) (cells_by name d piped (Shut cell white) p))
    (sym end)
    (row-append
    (row-around name is.group later
    (subst₂ (RowFacts bytes p over) (append_assoc (first_pipe piped p) (cell_by u cell q) (pipe_part mid))
    (append_assoc (first_pipe piped p) (cell_by d cell q) (pipe_part mid))
    (row-append (piped-facts bytes name u d Fits is piped cell ((124 ∷ white) ++ rest) p at-cell fits)
    (row-pipe bytes (white ++ rest) mid at-pipes.valid at-pipes.whole)
    (λ first last. low-front bytes 124 (white ++ rest) mid at-pipes.valid refl))))
    (row-white bytes white rest over at-white.valid (whole-first over white refl) cut)
    (λ first last. low-following bytes 124 [] (white ++ rest) mid at-pipes.valid refl))
  where
    q : Point
    q = past_pipe piped p

    mid : Point
    mid = past_text cell (past_pipe piped p)

    over : Point
    over = past_byte 124 (past_text cell (past_pipe piped p))

    at-all : At bytes ((pipe_bytes piped ++ cell) ++ 124 ∷ white) p rest
    at-all =
        subst (λ (xs : List ℕ). At bytes xs p rest) (sym (append_assoc (pipe_bytes piped) cell (124 ∷ white))) at

    at-cell : At bytes (pipe_bytes piped ++ cell) p ((124 ∷ white) ++ rest)
    at-cell = at-first bytes (pipe_bytes piped ++ cell) (124 ∷ white) rest p at-all

    at-pipes : At bytes (124 ∷ white) (past_text cell (past_pipe piped p)) rest
    at-pipes =
        subst (λ (r : Point). At bytes (124 ∷ white) r rest) (past-pipe piped cell p)
        (at-following bytes (pipe_bytes piped ++ cell) (124 ∷ white) rest p at-all)

    at-white : At bytes white (past_byte 124 (past_text cell (past_pipe piped p))) rest
    at-white = at-following bytes (124 ∷ []) white rest mid at-pipes

    end : past_text (cells_bytes piped (Shut cell white)) p ≡ past_text white over
    end = past-pipe piped (cell ++ 124 ∷ white) p ∙ past_text-append cell (124 ∷ white) q

    later : p.index < over.index
    later =
        let e : (past_text cell (past_pipe piped p)).index ≡
        p.index + length (pipe_bytes piped ++ cell) = ap (λ (r : Point). r.index) (sym (past-pipe piped cell p))
        ∙ past-index (pipe_bytes piped ++ cell) p in
        omega (arith, e)
cells-facts bytes name u d Fits is piped (Divides cell cells) rest p at cut fits =
    subst
    (λ (e : Point).
    RowFacts bytes p e (cells_by name u piped (Divides cell cells) p) (cells_by name d piped (Divides cell cells) p))
    (sym end)
    (row-append
    (row-around name is.group (end-later piped cell p cut.0)
    (piped-facts bytes name u d Fits is piped cell (cells_bytes true cells ++ rest) p at-cell fits.0))
    (cells-facts bytes name u d Fits is true cells rest mid at-next-cells cut.1 fits.1)
    (λ first last. piped-place bytes cells rest mid at-next-cells))
  where
    q : Point
    q = past_pipe piped p

    mid : Point
    mid = past_text cell (past_pipe piped p)

    at-all : At bytes ((pipe_bytes piped ++ cell) ++ cells_bytes true cells) p rest
    at-all =
        subst (λ (xs : List ℕ). At bytes xs p rest)
        (sym (append_assoc (pipe_bytes piped) cell (cells_bytes true cells))) at

    at-cell : At bytes (pipe_bytes piped ++ cell) p (cells_bytes true cells ++ rest)
    at-cell = at-first bytes (pipe_bytes piped ++ cell) (cells_bytes true cells) rest p at-all

    at-next-cells : At bytes (cells_bytes true cells) (past_text cell (past_pipe piped p)) rest
    at-next-cells =
        subst (λ (r : Point). At bytes (cells_bytes true cells) r rest) (past-pipe piped cell p)
        (at-following bytes (pipe_bytes piped ++ cell) (cells_bytes true cells) rest p at-all)

    end : past_text (cells_bytes piped (Divides cell cells)) p ≡ past_text (cells_bytes true cells) mid
    end =
        past-pipe piped (cell ++ cells_bytes true cells) p ∙ past_text-append cell (cells_bytes true cells) q

-- A row.

-- a tab that is cut belongs to the whitespace in front
cut-front : (line : List ℕ) (p : Point) → CutsFirst p line → CutsFirst p (white_front line)
cut-front [] p h = tt
cut-front (b ∷ bs) p h = go (is_white b) refl
  where
    go : (x : Bool) → is_white b ≡ x → CutsFirst p (white_front (b ∷ bs))
    go true e = subst (CutsFirst p) (sym (front-one b bs e)) h
    go false e = subst (CutsFirst p) (sym (front-none b bs e)) tt

-- after it something is
start-some : (line : List ℕ) → is_blank line ≡ false → is_blank (trim_start line) ≡ false
start-some [] h = h
start-some (b ∷ bs) h = go (is_white b) refl (start-some bs)
  where
    go : (x : Bool) → is_white b ≡ x → (is_blank bs ≡ false → is_blank (trim_start bs) ≡ false) →
        is_blank (trim_start (b ∷ bs)) ≡ false
    go true e more = ap is_blank (trim-white b bs e) ∙ more (sym (blank-first b bs e) ∙ h)
    go false e more = ap is_blank (start-none b bs e) ∙ h

pub row-facts : (bytes : List ℕ) (name : Name) (u d : List ℕ → Point → List Event) (Fits : List ℕ → Type 0) →
    IsCellKind bytes name u d Fits → (line rest : List ℕ) (p : Point) → RowAt bytes line rest p →
    EachFits Fits (line_cells (trim_start line)) →
    RowFacts bytes p (past_text line p) (row_by name u line p) (row_by name d line p)
row-facts bytes name u d Fits is line rest p at fits =
    subst (λ (e : Point). RowFacts bytes p e (row_by name u line p) (row_by name d line p)) (sym end)
    (row-append (row-white bytes front (start ++ rest) p valid (cut-front line p at.cut) (front-blank line))
    (subst
    (λ (xs : List ℕ). RowFacts bytes q (past_text xs q) (cells_by name u piped cells q) (cells_by name d piped cells q))
    (line-bytes start)
    (cells-facts bytes name u d Fits is piped cells rest q
    (subst (λ (xs : List ℕ). At bytes xs q rest) (sym (line-bytes start)) (row-start bytes line rest p at))
    (line-cut start (start-some line at.some)) fits))
    (λ first last. place-following bytes front (start ++ rest) p valid (front-blank line) first))
  where
    front : List ℕ
    front = white_front line

    start : List ℕ
    start = trim_start line

    q : Point
    q = past_text (white_front line) p

    piped : Bool
    piped = begins_with 124 (trim_start line)

    cells : Cells
    cells = line_cells (trim_start line)

    valid : drop p.index bytes ≡ white_front line ++ (trim_start line ++ rest)
    valid =
        at.valid ∙ ap (λ (xs : List ℕ). xs ++ rest) (front-whole line) ∙ append_assoc front start rest

    end : past_text line p ≡ past_text (trim_start line) (past_text (white_front line) p)
    end = ap (λ (xs : List ℕ). past_text xs p) (front-whole line) ∙ past_text-append front start p
