-- A line by its cells is its rest: of its text a tab counts once, and what is left of a tab that a prefix has cut does
-- not count; where it begins, its point shows.
use Rattle.std.proofs.Common.{◌≡◌, ℕ, zero, suc, ◌+◌, ◌-◌, ◌≤◌, Bool, true, false, cond, nat_eq, nat_lt, List, [], ◌∷◌}
use Rattle.std.proofs.Common.{◌++◌, append-nil, refl, ap, ap₂, sym, ◌∙◌, arith}
use Rattle.std.proofs.lemmas.Bool.Decides.{nat_tests}
use Rattle.md_meaning.specs.Rest.{Rest, tab_columns}
use Rattle.md_meaning.proofs.TextsLemmas.{NoEnding}
use Rattle.md_engine.specs.declared.event.Point.{Point}
use Rattle.md_engine.specs.declared.tokenizer.Line.{Line}
use Rattle.md_engine.specs.Meaning.{Cell}
use Rattle.md_link_definitions.specs.WholeCells.{rest_here, whole_cells, whole_line, whole_rest}
use Rattle.md_link_definitions.proofs.LineCells.{further, lines-first}
use Rattle.md_link_definitions.proofs.SpreadLines.{spread-last, spread-whole, tab-none, whole_cells-append}
use Rattle.md_events.specs.Ahead.{from_ending, line_cells, point_after}
use Rattle.md_events.proofs.FeedLines.{NoFeed, Stops, bytes_of, line_cells-append, no_feed-spread}
use Rattle.md_events.proofs.FeedLines.{spread, tab-end, tab_cells, tab_end}
use Rattle.md_events.proofs.RestCells.{Cut, cells_by, rest_cells}
use Rattle.md_events.proofs.RestLines.{rest-line}

-- the cells of a line without an ending are all of them
line-all : (cells : List Cell) → NoFeed cells → line_cells cells ≡ cells
line-all cells none =
    ap line_cells (sym (append-nil cells)) ∙ line_cells-append cells [] none ∙ append-nil cells

-- the first of two lists with equal first lines
first-same : (x y : List ℕ) (xs ys : List (List ℕ)) → x ∷ xs ≡ y ∷ ys → x ≡ y
first-same x y xs ys e = cc

-- of bytes
spread-bytes : (line : Line) (bytes : List ℕ) (p : Point) → NoEnding bytes → p.vs ≡ 0 → 1 ≤ p.column →
    bytes_of (whole_cells p (spread line bytes p)) ≡ bytes
spread-bytes line bytes p none at one =
    let cells = spread line bytes p in
    ap (λ (l : List Cell). bytes_of (whole_cells p l)) (sym (line-all cells (no_feed-spread line bytes p none)))
    ∙ first-same (bytes_of (whole_cells p (line_cells cells))) bytes (further (from_ending cells)) []
    (sym (lines-first p cells (spread-whole line bytes p at one)) ∙ spread-last line bytes p none at one)

-- and of a rest
rest-bytes : (line : Line) (spaces : ℕ) (bytes : List ℕ) (p : Point) → NoEnding bytes → Cut spaces p → 1 ≤ p.column →
    bytes_of (whole_cells p (cells_by line spaces bytes p)) ≡ bytes
rest-bytes line zero bytes p none cut one = spread-bytes line bytes p none cut one
rest-bytes line (suc n) bytes p none cut one =
    let q = tab_end n p in
    let rest = spread line bytes q in
    let more_columns = cut.0 in
    let within : nat_eq p.vs 0 ≡ false = grind (arith, nat_tests) in
    ap bytes_of
    (whole_cells-append (tab_cells line n 32 p) rest p
    ∙ ap (λ (x : List Cell). x ++ whole_cells (point_after (tab_cells line n 32 p) p) rest)
    (tab-none line n 32 p within)
    ∙ ap (λ (e : Point). whole_cells e rest) (tab-end line n 32 p p))
    ∙ spread-bytes line bytes q none refl (omega arith)

rest-line_bytes : (line : Line) (r : Rest) (p : Point) (stop : List Cell) → NoEnding r.bytes → Cut r.spaces p →
    1 ≤ p.column → Stops stop → whole_line p (rest_cells line r p ++ stop) ≡ r.bytes
rest-line_bytes line r p stop none cut one stops =
    ap (λ (l : List Cell). bytes_of (whole_cells p l)) (rest-line line r p stop none stops)
    ∙ rest-bytes line r.spaces r.bytes p none cut one

-- how many columns of a tab are left before it, its point shows
cut-spaces : (spaces column : ℕ) (p : Point) → p.column ≡ column + 1 → Cut spaces p →
    cond (nat_lt 0 p.vs) (tab_columns (p.column - 1)) 0 ≡ spaces
cut-spaces zero column p at cut = rw cut refl
cut-spaces (suc n) column p at cut =
    let more_columns = cut.0 in
    let within : nat_lt 0 p.vs ≡ true = grind (arith, nat_tests) in
    ap (λ (x : Bool). cond x (tab_columns (p.column - 1)) 0) within ∙ omega (arith, at, cut.1)

rest-begun : (r : Rest) (p : Point) → p.column ≡ r.column + 1 → Cut r.spaces p → rest_here p r.bytes ≡ r
rest-begun r p at cut =
    ap₂ (λ (column spaces : ℕ). record { column = column; spaces = spaces; bytes = r.bytes }) (omega (arith, at))
    (cut-spaces r.spaces r.column p at cut)

pub whole-rest : (line : Line) (r : Rest) (p : Point) (stop : List Cell) → NoEnding r.bytes → Cut r.spaces p →
    p.column ≡ r.column + 1 → Stops stop → whole_rest p (rest_cells line r p ++ stop) ≡ r
whole-rest line r p stop none cut at stops =
    ap (rest_here p) (rest-line_bytes line r p stop none cut (omega arith) stops) ∙ rest-begun r p at cut
