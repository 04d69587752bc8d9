-- The lines of a text by their cells, and what is put into their places.
use Rattle.std.proofs.Common.{◌≡◌, ℕ, inl, inr, true, false, List, [], ◌∷◌, ◌++◌, refl, sym, ap, ap₂, ◌∙◌}
use Rattle.std.proofs.Common.{subst, arith}
use Rattle.std.specs.Prelude.{◌==◌}
use Rattle.std.proofs.lemmas.Bool.{eqb-true}
use Rattle.md_engine.specs.declared.event.Event.{Event}
use Rattle.md_engine.specs.declared.event.Name.TheVariants as n
use Rattle.md_engine.specs.declared.event.Point.{Point}
use Rattle.md_engine.specs.Meaning.{Cell}
use Rattle.md_events.proofs.FeedLines.{NoFeed}
use Rattle.md_events.proofs.RestCells.{rest_cells}
use Rattle.md_events.specs.Ahead.{point_after}
use Rattle.md_events.specs.Events.Nested.{exit}
use Rattle.md_events.specs.Exact.Places.{next_line, place}
use Rattle.md_events.specs.Exact.Rows.{Row}
use Rattle.md_meaning.specs.Rest.{is_blank}
use Rattle.markdown_blocks.specs.TextRule.{breaks_of, cells_of, no_line}
use Rattle.proof_content_laws.proofs.Defined.Along.{IsCell, Turn, breaks}
use Rattle.proof_content_laws.proofs.Defined.Placed.{Before}
use Rattle.proof_content_laws.proofs.Defined.Runs.{step-line, step-valid}
use Rattle.proof_content_laws.proofs.Defined.Takes.{OverEnd, Takes, Walk, before-from, on-line, over-end, takes-then}
use Rattle.proof_content_laws.proofs.Defined.Takes.{turn-grows}
use Rattle.proof_content_laws.proofs.Defined.Takes as Line
use Rattle.proof_exact_lines.proofs.Along.{Along, row-place, row-plain}
use Rattle.proof_exact_lines.proofs.Strands.{NextOn, next-on}
use Rattle.proof_frame.specs.Laid.{LineBreak, laid}

-- none of these lines is blank
abbrev pub AreFilled : List Row → Type 0
AreFilled [] = Unit {0}
AreFilled (row ∷ rows) = (is_blank row.rest.bytes ≡ false) × AreFilled rows

-- from a point on these cells are what is left of the first, its ending, and the others
pub record AreNext (text : List ℕ) (rows : List Row) (p : Point) (cells : List Cell) : Type 0 where
  pub last : Point
  pub turns : List Turn
  pub walk : Walk text last p cells turns
  pub along : Along text rows p cells turns
  pub filled : AreFilled rows

-- each break is still to come
walk-before : (text : List ℕ) (last p : Point) (cells : List Cell) (turns : List Turn) →
    Walk text last p cells turns → Before p (breaks turns)
walk-before text last p [] turns walk = subst (λ (l : List Turn). Before p (breaks l)) (sym walk.walks.1) tt
walk-before text last p (c ∷ cs) turns walk =
    go walk.walks.1 (λ next. walk-before text last c.after cs walk.walks.0 next)
  where
    go : IsCell text p c cs turns walk.walks.0 →
        (Walk text last c.after cs walk.walks.0 → Before c.after (breaks walk.walks.0)) → Before p (breaks turns)
    go (inl (step, same)) more =
        let small = walk.small in
        let line = step-line text p c walk.valid step in
        subst (λ (l : List Turn). Before p (breaks l)) (sym same)
        (before-from p c.after (breaks walk.walks.0) line.1
        (more
        (record {
          valid = step-valid text p c walk.valid step;
          walks = walk.walks.2;
          small = omega (arith, small);
          whole = walk.whole;
        })))
    go (inr turn) more =
        subst (λ (l : List Turn). Before p (breaks l)) (sym turn.turns_are)
        (turn-grows text p c cs turns walk.walks.0 turn).0

-- those of turns one after another
breaks-both : (ts us : List Turn) → breaks (ts ++ us) ≡ breaks ts ++ breaks us
breaks-both [] us = refl
breaks-both (t ∷ ts) us = ap (λ (l : List LineBreak). t.break ∷ l) (breaks-both ts us)

-- events that are taken before others, over all lines
pub lays-all : (text : List ℕ) (last p : Point) (turns : List Turn) (q : Point) (rest : List Cell) (left : List Turn)
    (es fs more : List Event) → Takes text last p turns q rest left es fs →
    laid (breaks turns) (es ++ more) ≡ fs ++ laid (breaks left) more
lays-all text last p turns q rest left es fs more takes =
    ap (λ (l : List LineBreak). laid l (es ++ more))
    (ap (λ (l : List Turn). breaks l) takes.turns_are ∙ breaks-both takes.took left)
    ∙ takes.lays (breaks left) (walk-before text last q rest left takes.walk) more

-- where nothing is left to add
pub laid-none : (bs : List LineBreak) → laid bs [] ≡ []
laid-none [] = refl
laid-none (b ∷ bs) = refl

-- what is between the lines is between the turns
pub breaks-are : (text : List ℕ) (rows : List Row) (p : Point) (cells : List Cell) (turns : List Turn) →
    Along text rows p cells turns → breaks_of rows ≡ breaks turns
breaks-are text [] p cells turns h = absurd h
breaks-are text (row ∷ []) p cells turns h = ap (λ (l : List Turn). breaks l) (sym h.following.1)
breaks-are text (row ∷ next ∷ rows) p cells turns h =
    let o = h.following in
    ap₂ (λ (b : LineBreak) (bs : List LineBreak). b ∷ bs) (break_is o.turn.break o.after o.front)
    (breaks-are text (next ∷ rows) o.d.after o.more o.left o.along)
    ∙ ap (λ (l : List Turn). breaks l) (sym o.turns_are)
  where
    break_is : (b : LineBreak) → b.after ≡ next_line row.line → b.front ≡ next.front →
        (let c : LineBreak = record { after = next_line row.line; front = next.front } in c) ≡ b
    break_is b after front = rw (← after, ← front) refl

-- Where a line ends and the next begins.
pub record NextLine (text : List ℕ) (last p : Point) (row next : Row) (rows : List Row) (cells : List Cell)
    (turns : List Turn) : Type 0 where
  pub d : Cell
  pub ds : List Cell
  pub here : cells ≡ rest_cells no_line row.rest p ++ d ∷ ds
  pub ten : (d.byte == 10) ≡ true
  pub said : d.line ≡ no_line
  pub left : List Turn
  pub turn : Turn
  pub takes : Takes text last p turns d.after ds left (exit n.Data d.after ∷ [])
      (exit n.Data turn.break.after ∷ turn.break.front)
  pub along : Along text (next ∷ rows) d.after ds left
  pub after : turn.break.after ≡ next_line row.line
  pub front : turn.break.front ≡ next.front

pub next-line : (text : List ℕ) (last p : Point) (row next : Row) (rows : List Row) (cells : List Cell)
    (turns : List Turn) → Walk text last p cells turns → Along text (row ∷ next ∷ rows) p cells turns →
    NextLine text last p row next rows cells turns
next-line text last p row next rows cells turns walk h = record {
  d = d;
  ds = ds;
  here = here;
  ten = ten;
  said = over.turn.said;
  left = over.left;
  turn = over.turn.turn;
  takes =
      takes-then text last p turns (point_after xs p) (d ∷ ds) turns [] [] d.after ds over.left
      (exit n.Data d.after ∷ []) (exit n.Data over.turn.turn.break.after ∷ over.turn.turn.break.front) line.takes
      over.takes;
  along = subst (λ (l : List Row). Along text l d.after ds over.left) (sym found.rows_are) found.along;
  after = found.after;
  front = found.front ∙ ap (λ (r : Row). r.front) (same found.next found.further found.rows_are);
}
  where
    xs : List Cell
    xs = rest_cells no_line row.rest p

    d : Cell
    d = h.following.d

    ds : List Cell
    ds = h.following.more

    ten : (d.byte == 10) ≡ true
    ten = h.following.ten

    none : NoFeed xs
    none = row-plain text row p h.begins

    here : cells ≡ xs ++ d ∷ ds
    here = h.cells_are ∙ ap (λ (l : List Cell). xs ++ l) h.following.stop_is

    line : Line.OnLine text last p xs turns (d ∷ ds)
    line = on-line text last p xs (d ∷ ds) turns none (subst (λ (l : List Cell). Walk text last p l turns) here walk)

    over : OverEnd text last (point_after xs p) d ds turns n.Data
    over = over-end text last (point_after xs p) d ds turns n.Data refl ten line.takes.walk

    found : NextOn text row (next ∷ rows) d ds over.turn.turn over.left
    found =
        next-on text row (next ∷ rows) p (point_after xs p) xs d ds turns over.left none ten
        (subst (λ (l : List Cell). Along text (row ∷ next ∷ rows) p l turns) here h) over.turn

    same : (y : Row) (ys : List Row) → next ∷ rows ≡ y ∷ ys → y ≡ next
    same y ys e = cc

-- a cell of an ending
pub cell-is : (d : Cell) (q : Point) → (d.byte == 10) ≡ true → d.line ≡ no_line → q ≡ d.after →
    d ≡ record { byte = 10; after = q; line = no_line }
cell-is d q ten said at = rw (← eqb-true d.byte 10 ten, ← said, at) refl

-- The cells from a point on are those of the lines.
pub cells-are : (text : List ℕ) (last p : Point) (row : Row) (rows : List Row) (cells : List Cell)
    (turns : List Turn) → Walk text last p cells turns → Along text (row ∷ rows) p cells turns →
    cells ≡ cells_of (row ∷ rows)
cells-are text last p row [] cells turns walk h =
    h.cells_are ∙ ap (λ (l : List Cell). rest_cells no_line row.rest p ++ l) h.following.0
    ∙ ap (λ (q : Point). rest_cells no_line row.rest q ++ []) (sym (row-place text row [] p cells turns h))
cells-are text last p row (next ∷ rows) cells turns walk h =
    on.here
    ∙ ap (λ (q : Point). rest_cells no_line row.rest q ++ on.d ∷ on.ds)
    (sym (row-place text row (next ∷ rows) p cells turns h))
    ∙ ap₂ (λ (c : Cell) (cs : List Cell). rest_cells no_line row.rest (place row.line row.rest) ++ c ∷ cs)
    (cell-is on.d (place next.line next.rest) on.ten on.said
    (row-place text next rows on.d.after on.ds on.left on.along))
    (cells-are text last on.d.after next rows on.ds on.left on.takes.walk on.along)
  where
    on : NextLine text last p row next rows cells turns
    on = next-line text last p row next rows cells turns walk h
