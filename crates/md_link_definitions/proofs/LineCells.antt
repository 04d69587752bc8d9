-- The cells of a line, and what follows it.
use Rattle.std.proofs.Common.{◌≡◌, ℕ, Bool, true, false, cond, nat_eq, List, [], ◌∷◌, ◌++◌, length, refl, ◌∙◌}
use Rattle.std.proofs.Common.{append-nil, ap₂, ap, arith}
use Rattle.std.specs.List.{onto_first}
use Rattle.std.proofs.lemmas.Bool.{eqb-true}
use Rattle.md_meaning.specs.Enclosed.{Broken, Closed, Enclosed, Open, enclosed, with_byte}
use Rattle.md_engine.specs.declared.event.Point.{Point}
use Rattle.md_engine.specs.Meaning.{Cell}
use Rattle.md_link_definitions.specs.CellLines.{cell_lines}
use Rattle.md_link_definitions.specs.Chunks.{before_mark, from_mark}
use Rattle.md_link_definitions.specs.Title.{is_mark}
use Rattle.md_link_definitions.specs.WholeCells.{AreWhole, whole_cells}
use Rattle.md_link_definitions.proofs.CellLineLemmas.{lines-byte, lines-ending}
use Rattle.md_link_definitions.proofs.GapLines.{whole-first}
use Rattle.md_link_definitions.proofs.WholeCellLemmas.{whole-at}
use Rattle.md_events.specs.Ahead.{from_ending, line_cells, point_after}
use Rattle.md_events.proofs.FeedLines.{NoFeed, Stops, bytes_of, from_ending-append, line_cells-append}
use Rattle.md_events.proofs.RestLines.{stops-line}

-- How they lie.

-- each cell has a byte
pub bytes-length : (cells : List Cell) → length (bytes_of cells) ≡ length cells
bytes-length [] = refl
bytes-length (c ∷ cs) = let more = bytes-length cs in omega arith

-- a line, and what follows it
pub line-split : (cells : List Cell) → line_cells cells ++ from_ending cells ≡ cells
line-split [] = refl
line-split (c ∷ cs) = go (nat_eq c.byte 10) refl (line-split cs)
  where
    go : (x : Bool) → nat_eq c.byte 10 ≡ x → line_cells cs ++ from_ending cs ≡ cs →
        line_cells (c ∷ cs) ++ from_ending (c ∷ cs) ≡ c ∷ cs
    go true e more = rw e refl
    go false e more = rw e (ap (λ (l : List Cell). c ∷ l) more)

-- the cells up to a mark, and from it on
pub mark-split : (is : ℕ → Bool) (escaped : Bool) (cells : List Cell) →
    before_mark is escaped cells ++ from_mark is escaped cells ≡ cells
mark-split is escaped [] = refl
mark-split is true (c ∷ cs) = ap (λ (l : List Cell). c ∷ l) (mark-split is false cs)
mark-split is false (c ∷ cs) = go (is c.byte) refl (mark-split is (nat_eq c.byte 92) cs)
  where
    go : (x : Bool) → is c.byte ≡ x → before_mark is (nat_eq c.byte 92) cs ++ from_mark is (nat_eq c.byte 92) cs ≡ cs →
        before_mark is false (c ∷ cs) ++ from_mark is false (c ∷ cs) ≡ c ∷ cs
    go true e more = rw e refl
    go false e more = rw e (ap (λ (l : List Cell). c ∷ l) more)

-- What is enclosed on a line of cells, by the cells up to the first mark and those from it on.
abbrev pub enclosed_by : ℕ → List Cell → List Cell → Enclosed
enclosed_by closer text [] = Open
enclosed_by closer text (d ∷ ds) = cond (nat_eq d.byte closer) (Closed (bytes_of text) (bytes_of ds)) Broken

-- with one cell more before the mark
with-by : (closer : ℕ) (c : Cell) (text rest : List Cell) →
    with_byte c.byte (enclosed_by closer text rest) ≡ enclosed_by closer (c ∷ text) rest
with-by closer c text [] = refl
with-by closer c text (d ∷ ds) = go (nat_eq d.byte closer)
  where
    go : (x : Bool) →
        with_byte c.byte (cond x (Closed (bytes_of text) (bytes_of ds)) Broken) ≡
        cond x (Closed (bytes_of (c ∷ text)) (bytes_of ds)) Broken
    go true = refl
    go false = refl

-- so it is
pub enclosed-marks : (opener closer : ℕ) (escaped : Bool) (cells : List Cell) →
    let is = is_mark opener closer in
    enclosed opener closer escaped (bytes_of cells) ≡
    enclosed_by closer (before_mark is escaped cells) (from_mark is escaped cells)
unfolding enclosed
enclosed-marks opener closer escaped [] = refl
enclosed-marks opener closer true (c ∷ cs) =
    let is = is_mark opener closer in
    ap (with_byte c.byte) (enclosed-marks opener closer false cs)
    ∙ with-by closer c (before_mark is false cs) (from_mark is false cs)
enclosed-marks opener closer false (c ∷ cs) =
    go (nat_eq c.byte closer) (nat_eq c.byte opener) refl refl (enclosed-marks opener closer (nat_eq c.byte 92) cs)
  where
    is : ℕ → Bool
    is = is_mark opener closer

    go : (x y : Bool) → nat_eq c.byte closer ≡ x → nat_eq c.byte opener ≡ y →
        enclosed opener closer (nat_eq c.byte 92) (bytes_of cs) ≡
        enclosed_by closer (before_mark (is_mark opener closer) (nat_eq c.byte 92) cs)
        (from_mark (is_mark opener closer) (nat_eq c.byte 92) cs) →
        enclosed opener closer false (bytes_of (c ∷ cs)) ≡
        enclosed_by closer (before_mark (is_mark opener closer) false (c ∷ cs))
        (from_mark (is_mark opener closer) false (c ∷ cs))
    go true true e k more = rw (e, k, e) refl
    go true false e k more = rw (e, k, e) refl
    go false true e k more = rw (e, k, e) refl
    go false false e k more =
        rw (e, k)
        (ap (with_byte c.byte) more
        ∙ with-by closer c (before_mark is (nat_eq c.byte 92) cs) (from_mark is (nat_eq c.byte 92) cs))

-- No cell of a line ends it,
pub line-no_feed : (cells : List Cell) → NoFeed (line_cells cells)
line-no_feed [] = tt
line-no_feed (c ∷ cs) = go (nat_eq c.byte 10) refl (line-no_feed cs)
  where
    go : (x : Bool) → nat_eq c.byte 10 ≡ x → NoFeed (line_cells cs) → NoFeed (line_cells (c ∷ cs))
    go true e more = rw e tt
    go false e more = rw e (e, more)

-- nor does one of a piece of it
pub no_feed-split : (xs ys : List Cell) → NoFeed (xs ++ ys) → NoFeed xs × NoFeed ys
no_feed-split [] ys h = (tt, h)
no_feed-split (c ∷ xs) ys h = let more = no_feed-split xs ys h.1 in ((h.0, more.0), more.1)

-- and after it nothing comes, or an ending.
pub line-stops : (cells : List Cell) → Stops (from_ending cells)
line-stops [] = tt
line-stops (c ∷ cs) = go (nat_eq c.byte 10) refl (line-stops cs)
  where
    go : (x : Bool) → nat_eq c.byte 10 ≡ x → Stops (from_ending cs) → Stops (from_ending (c ∷ cs))
    go true e more = rw e e
    go false e more = rw e more

-- What is as a text has it is so in pieces.
pub whole-split : (xs ys : List Cell) (p : Point) → AreWhole p (xs ++ ys) →
    AreWhole p xs × AreWhole (point_after xs p) ys
whole-split [] ys p are = (tt, are)
whole-split (c ∷ xs) ys p are = let more = whole-split xs ys c.after are.1 in ((are.0, more.0), more.1)

-- The lines of cells: the first, and those after it.
abbrev pub further : List Cell → List (List ℕ)
further [] = []
further (c ∷ cs) = cell_lines true (whole_cells c.after cs)

-- so they are
pub lines-first : (p : Point) (cells : List Cell) → AreWhole p cells →
    cell_lines false (whole_cells p cells) ≡ bytes_of (whole_cells p (line_cells cells)) ∷ further (from_ending cells)
unfolding cell_lines
lines-first p [] are = refl
lines-first p (c ∷ cs) are =
    go (nat_eq c.byte 10) (nat_eq p.vs 0) refl refl (lines-first c.after cs are.1)
  where
    left : List Cell
    left = whole_cells c.after cs

    go : (x y : Bool) → nat_eq c.byte 10 ≡ x → nat_eq p.vs 0 ≡ y →
        cell_lines false left ≡ bytes_of (whole_cells c.after (line_cells cs)) ∷ further (from_ending cs) →
        cell_lines false (whole_cells p (c ∷ cs)) ≡
        bytes_of (whole_cells p (line_cells (c ∷ cs))) ∷ further (from_ending (c ∷ cs))
    go true y e k more =
        let at : p.vs ≡ 0 = whole-at p c are.0 (rw (eqb-true c.byte 10 e) refl) in
        ap (cell_lines false) (whole-first p c cs at) ∙ lines-ending false c left e ∙ rw e refl
    go false true e k more =
        ap (cell_lines false) (whole-first p c cs (eqb-true p.vs 0 k)) ∙ lines-byte false c left e refl
        ∙ ap (onto_first c.byte) more ∙ rw (e, k) refl
    go false false e k more = ap (cell_lines false) within ∙ more ∙ rw (e, k) refl
      where
        within : whole_cells p (c ∷ cs) ≡ left
        within = rw k refl

-- So are those of a line that others may follow.
stops-left : (more : List Cell) → Stops more → from_ending more ≡ more
stops-left [] stops = refl
stops-left (c ∷ cs) stops = rw stops refl

-- for a line and what comes after it
pub lines-following : (p : Point) (line more : List Cell) → NoFeed line → Stops more → AreWhole p (line ++ more) →
    cell_lines false (whole_cells p (line ++ more)) ≡ bytes_of (whole_cells p line) ∷ further more
lines-following p line more none stops are =
    lines-first p (line ++ more) are
    ∙ ap₂ (λ (x y : List Cell). bytes_of (whole_cells p x) ∷ further y)
    (line_cells-append line more none ∙ ap (λ (l : List Cell). line ++ l) (stops-line more stops) ∙ append-nil line)
    (from_ending-append line more none ∙ stops-left more stops)
