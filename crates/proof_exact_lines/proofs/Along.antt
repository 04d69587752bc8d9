-- Rows of a text that are where the cells of its lines do.
use Rattle.std.proofs.Common.{◌≡◌, ℕ, zero, suc, true, false, List, [], ◌∷◌, ◌++◌, map, refl, sym, ap, ◌∙◌, subst}
use Rattle.std.proofs.Common.{arith, append-nil, inl, inr, ◌≤◌}
use Rattle.std.proofs.lemmas.Bool.{eqb-true}
use Rattle.md_events.specs.Ahead.{point_after}
use Rattle.md_events.specs.Exact.Leaves.{start}
use Rattle.std.specs.Prelude.{◌==◌}
use Rattle.md_engine.specs.declared.event.Point.{Point}
use Rattle.md_engine.specs.Meaning.{Cell}
use Rattle.md_meaning.specs.Bytes.{is_end}
use Rattle.md_meaning.specs.Texts.{trim_each}
use Rattle.md_meaning.proofs.TextsLemmas.{NoEnding}
use Rattle.md_link_definitions.specs.CellLines.{cell_lines}
use Rattle.md_link_definitions.specs.WholeCells.{AreWhole, whole_cells}
use Rattle.md_link_definitions.proofs.SpreadLines.{rest-last, rest-next, rest-whole, spread-last, spread-next}
use Rattle.md_link_definitions.proofs.SpreadLines.{whole-append}
use Rattle.md_events.proofs.FeedLines.{NoFeed, Stops, next_column, no_feed-spread, past_text-whole, spread}
use Rattle.md_events.proofs.FeedLines.{tab_cells, tab_end}
use Rattle.md_events.proofs.RestCells.{Cut, cells_by, past_cut, rest-end, rest_cells}
use Rattle.md_events.specs.Exact.Places.{next_line, place}
use Rattle.md_events.specs.Exact.Rows.{Row}
use Rattle.md_events.specs.Exact.Texts.{lines_left}
use Rattle.proof_exact_pieces.proofs.OnLine.{LineIn, OnLine, place-on}
use Rattle.proof_content_laws.proofs.Defined.Along.{Turn, no_line}

-- the rest of a row begins at a point of the text
pub record Begins (text : List ℕ) (row : Row) (p : Point) : Type 0 where
  pub following : List ℕ
  pub line_in : LineIn text following row.line
  pub on : OnLine text following row.line row.rest p
  pub plain : NoEnding row.rest.bytes

pub begins-place : (text : List ℕ) (row : Row) (p : Point) → Begins text row p → place row.line row.rest ≡ p
begins-place text row p is = place-on text is.following row.line row.rest p is.line_in is.on

-- no line ends in its cells
pub row-plain : (text : List ℕ) (row : Row) (p : Point) → Begins text row p → NoFeed (rest_cells no_line row.rest p)
row-plain text row p is = go row.rest.spaces
  where
    tab : (n : ℕ) (p : Point) (more : List Cell) → NoFeed more → NoFeed (tab_cells no_line n 32 p ++ more)
    tab zero p more none = (refl, none)
    tab (suc n) p more none = (refl, tab n (next_column p) more none)

    go : (spaces : ℕ) → NoFeed (cells_by no_line spaces row.rest.bytes p)
    go zero = no_feed-spread no_line row.rest.bytes p is.plain
    go (suc n) =
        tab n p (spread no_line row.rest.bytes (tab_end n p))
        (no_feed-spread no_line row.rest.bytes (tab_end n p) is.plain)

-- after a row is its ending, and the next row with what its containers have before it
pub record Over (Next : Point → List Cell → List Turn → Type 0) (row further : Row) (stop : List Cell)
    (turns : List Turn) : Type 0 where
  pub d : Cell
  pub more : List Cell
  pub turn : Turn
  pub left : List Turn
  pub stop_is : stop ≡ d ∷ more
  pub ten : (d.byte == 10) ≡ true
  pub turns_are : turns ≡ turn ∷ left
  pub ends : is_end row.line.ending ≡ false
  pub after : turn.break.after ≡ next_line row.line
  pub front : turn.break.front ≡ further.front
  pub along : Next d.after more left

pub record Stopped (text : List ℕ) (row : Row) (p : Point) (cells : List Cell)
    (Next : List Cell → Type 0) : Type 0 where
  pub begins : Begins text row p
  pub stop : List Cell
  pub cells_are : cells ≡ rest_cells no_line row.rest p ++ stop
  pub following : Next stop

-- these rows are from a point on, where these cells are left and these turns are still to come
abbrev pub Along : List ℕ → List Row → Point → List Cell → List Turn → Type 0
Along text [] p cells turns = ⊥
Along text (row ∷ []) p cells turns = Stopped text row p cells (λ stop. (stop ≡ []) × (turns ≡ []))
Along text (row ∷ next ∷ rows) p cells turns =
    Stopped text row p cells (λ stop. Over (Along text (next ∷ rows)) row next stop turns)

-- the first begins there
pub row-place : (text : List ℕ) (row : Row) (rows : List Row) (p : Point) (cells : List Cell) (turns : List Turn) →
    Along text (row ∷ rows) p cells turns → place row.line row.rest ≡ p
row-place text row [] p cells turns h = begins-place text row p h.begins
row-place text row (next ∷ rows) p cells turns h = begins-place text row p h.begins

pub rows-start : (text : List ℕ) (rows : List Row) (p : Point) (cells : List Cell) (turns : List Turn) →
    Along text rows p cells turns → start rows ≡ p
rows-start text [] p cells turns h = absurd h
rows-start text (row ∷ rows) p cells turns h = row-place text row rows p cells turns h

-- Cells as a text has them.

rest-ends : (row : Row) (p : Point) → Cut row.rest.spaces p → 1 ≤ p.column →
    (point_after (rest_cells no_line row.rest p) p).vs ≡ 0
rest-ends row p cut one =
    ap (λ (q : Point). q.vs) (rest-end no_line row.rest p one)
    ∙ past_text-whole row.rest.bytes (past_cut row.rest.spaces p) (whole row.rest.spaces cut)
  where
    whole : (spaces : ℕ) → Cut spaces p → (past_cut spaces p).vs ≡ 0
    whole zero at = at
    whole (suc n) at = refl

pub rows-whole : (text : List ℕ) (rows : List Row) (p : Point) (cells : List Cell) (turns : List Turn) →
    Along text rows p cells turns → AreWhole p cells
rows-whole text [] p cells turns h = absurd h
rows-whole text (row ∷ []) p cells turns h =
    let on = h.begins.on in
    let column = on.valid.column in
    subst (AreWhole p)
    (sym
    (h.cells_are ∙ ap (λ (l : List Cell). rest_cells no_line row.rest p ++ l) h.following.0
    ∙ append-nil (rest_cells no_line row.rest p)))
    (rest-whole no_line row.rest p on.valid.cut (omega (arith, column)))
rows-whole text (row ∷ next ∷ rows) p cells turns h =
    let on = h.begins.on in
    let o = h.following in
    let column = on.valid.column in
    subst (AreWhole p) (sym (h.cells_are ∙ ap (λ (l : List Cell). rest_cells no_line row.rest p ++ l) o.stop_is))
    (whole-append (rest_cells no_line row.rest p) (o.d ∷ o.more) p
    (rest-whole no_line row.rest p on.valid.cut (omega (arith, column))) (
      inr (rest-ends row p on.valid.cut (omega (arith, column)), inl (eqb-true o.d.byte 10 o.ten)),
      rows-whole text (next ∷ rows) o.d.after o.more o.left o.along,
    ))

-- Lines.

-- those of further rows
pub rows-led : (text : List ℕ) (row : Row) (rows : List Row) (p : Point) (cells : List Cell) (turns : List Turn) →
    Along text (row ∷ rows) p cells turns →
    cell_lines true (whole_cells p cells) ≡ trim_each (map (λ (x : Row). x.rest.bytes) (row ∷ rows))
rows-led text row [] p cells turns h =
    let on = h.begins.on in
    ap (λ (l : List Cell). cell_lines true (whole_cells p l))
    (h.cells_are ∙ ap (λ (l : List Cell). rest_cells no_line row.rest p ++ l) h.following.0
    ∙ append-nil (rest_cells no_line row.rest p))
    ∙ rest-last no_line row.rest p h.begins.plain on.valid.cut
    (let column = on.valid.column in omega (arith, column))
rows-led text row (next ∷ rows) p cells turns h =
    let on = h.begins.on in
    let o = h.following in
    ap (λ (l : List Cell). cell_lines true (whole_cells p l))
    (h.cells_are ∙ ap (λ (l : List Cell). rest_cells no_line row.rest p ++ l) o.stop_is)
    ∙ rest-next no_line row.rest p o.d o.more h.begins.plain on.valid.cut
    (let column = on.valid.column in omega (arith, column)) o.ten
    ∙ ap (λ (l : List (List ℕ)). trim l) (rows-led text next rows o.d.after o.more o.left o.along)
  where
    trim : List (List ℕ) → List (List ℕ)
    trim l = trim_each (row.rest.bytes ∷ []) ++ l

-- where a byte begins no tab is cut
uncut : (spaces : ℕ) (bytes : List ℕ) (p : Point) → Cut spaces p → p.vs ≡ 0 →
    cells_by no_line spaces bytes p ≡ spread no_line bytes p
uncut zero bytes p cut whole = refl
uncut (suc n) bytes p cut whole = let some = cut.0 in absurd (omega (arith, some, whole))

-- and all
pub rows-lines : (text : List ℕ) (rows : List Row) (p : Point) (cells : List Cell) (turns : List Turn) →
    Along text rows p cells turns → p.vs ≡ 0 → cell_lines false (whole_cells p cells) ≡ lines_left rows
rows-lines text [] p cells turns h whole = absurd h
rows-lines text (row ∷ []) p cells turns h whole =
    let on = h.begins.on in
    ap (λ (l : List Cell). cell_lines false (whole_cells p l))
    (h.cells_are ∙ ap (λ (l : List Cell). rest_cells no_line row.rest p ++ l) h.following.0
    ∙ append-nil (rest_cells no_line row.rest p) ∙ uncut row.rest.spaces row.rest.bytes p on.valid.cut whole)
    ∙ spread-last no_line row.rest.bytes p h.begins.plain whole
    (let column = on.valid.column in omega (arith, column))
rows-lines text (row ∷ next ∷ rows) p cells turns h whole =
    let on = h.begins.on in
    let o = h.following in
    ap (λ (l : List Cell). cell_lines false (whole_cells p l))
    (h.cells_are ∙ ap (λ (l : List Cell). rest_cells no_line row.rest p ++ l) o.stop_is
    ∙ ap (λ (l : List Cell). l ++ o.d ∷ o.more) (uncut row.rest.spaces row.rest.bytes p on.valid.cut whole))
    ∙ spread-next no_line row.rest.bytes p o.d o.more h.begins.plain whole
    (let column = on.valid.column in omega (arith, column)) o.ten
    ∙ ap (λ (l : List (List ℕ)). row.rest.bytes ∷ l) (rows-led text next rows o.d.after o.more o.left o.along)

-- Cells of two lines are the same where both end.

pub same-split : (xs ys s t : List Cell) → NoFeed xs → NoFeed ys → Stops s → Stops t → xs ++ s ≡ ys ++ t →
    (xs ≡ ys) × (s ≡ t)
same-split [] [] s t h k stops stops' e = (refl, e)
same-split [] (y ∷ ys) [] t h k stops stops' e = cc
same-split [] (y ∷ ys) (c ∷ cs) t h k stops stops' e =
    let same : c ≡ y = cc in
    let no : true ≡ false = sym stops ∙ ap (λ (d : Cell). d.byte == 10) same ∙ k.0 in cc
same-split (x ∷ xs) [] s [] h k stops stops' e = cc
same-split (x ∷ xs) [] s (c ∷ cs) h k stops stops' e =
    let same : x ≡ c = cc in
    let no : true ≡ false = sym stops' ∙ ap (λ (d : Cell). d.byte == 10) (sym same) ∙ h.0 in cc
same-split (x ∷ xs) (y ∷ ys) s t h k stops stops' e =
    let same : x ≡ y = cc in
    let more = same-split xs ys s t h.1 k.1 stops stops' (tail x y e) in
    (ap (λ (c : Cell). c ∷ xs) same ∙ ap (λ (l : List Cell). y ∷ l) more.0, more.1)
  where
    tail : (x y : Cell) → x ∷ (xs ++ s) ≡ y ∷ (ys ++ t) → xs ++ s ≡ ys ++ t
    tail x y e = cc
