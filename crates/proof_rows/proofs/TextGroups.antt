-- Lines of text before the groups of the lines after them.
use Rattle.std.proofs.Common.{◌≡◌, Bool, true, false, cond, ◌&&◌, List, [], ◌∷◌, refl}
use Rattle.std.specs.Prelude.{Option, Some, None}
use Rattle.proof_frame.specs.Row.{Row, RowKind, TextRow}
use Rattle.proof_rows.proofs.EachRow.{AsSpan, OfSpan, Onto, onto}
use Rattle.proof_rows.specs.Rows.{Group, Headed, Lines, Single, LeafLines, Turned, is_continued, groups, is_further}
use Rattle.proof_rows.specs.Rows.{is_last, onto_groups, takes_head}

-- lines of text, and the line that turns them if one does
abbrev pub text_group : Option Row → Row → List Row → Group
text_group None row rows = Lines row rows
text_group (Some under) row rows = Turned row rows under

-- a line of text before such
abbrev pub onto_text : Option Row → Row → Row → List Row → List Group → List Group
onto_text o row next rows gs =
    cond (is_continued row next) (text_group o row (next ∷ rows) ∷ gs) (Lines row [] ∷ text_group o next rows ∷ gs)

pub text-onto : (o : Option Row) (row next : Row) (rows : List Row) (gs : List Group) →
    onto_groups row TextRow (text_group o next rows ∷ gs) ≡ onto_text o row next rows gs
text-onto None row next rows gs = refl
text-onto (Some under) row next rows gs = refl

-- a line of text begins a text with those after it, or is the head of a table
pub lines-first : (Q : List Group → Type 0) (row : Row) (gs : List Group) →
    ((o : Option Row) (more : List Row) (rest : List Group) → Q (text_group o row more ∷ rest)) →
    ((next : Row) (more : List Row) (rest : List Group) → gs ≡ LeafLines next more ∷ rest →
    (is_further next.kind next.on && takes_head next.kind) ≡ true → Q (Headed row next more ∷ rest)) →
    Q (onto_groups row TextRow gs)
lines-first Q row [] h k = h None [] []
lines-first Q row (Single first ∷ gs) h k = h None [] (Single first ∷ gs)
lines-first Q row (Headed first next rows ∷ gs) h k = h None [] (Headed first next rows ∷ gs)
lines-first Q row (Turned first rows under ∷ gs) h k = go (is_continued row first)
  where
    go : (x : Bool) →
        Q (cond x (Turned row (first ∷ rows) under ∷ gs) (Lines row [] ∷ Turned first rows under ∷ gs))
    go true = h (Some under) (first ∷ rows) gs
    go false = h None [] (Turned first rows under ∷ gs)
lines-first Q row (LeafLines first rows ∷ gs) h k =
    go (is_further first.kind first.on && takes_head first.kind) refl (is_further first.kind first.on && is_last rows)
  where
    go : (x : Bool) → (is_further first.kind first.on && takes_head first.kind) ≡ x → (y : Bool) →
        Q
        (cond x (Headed row first rows ∷ gs)
        (cond y (Turned row [] first ∷ gs) (Lines row [] ∷ LeafLines first rows ∷ gs)))
    go true heads y = k first rows gs refl heads
    go false heads true = h (Some first) [] gs
    go false heads false = h None [] (LeafLines first rows ∷ gs)
lines-first Q row (Lines first rows ∷ gs) h k = go (is_continued row first)
  where
    go : (x : Bool) → Q (cond x (Lines row (first ∷ rows) ∷ gs) (Lines row [] ∷ Lines first rows ∷ gs))
    go true = h None (first ∷ rows) gs
    go false = h None [] (Lines first rows ∷ gs)

-- Heads of tables.

-- no line takes the line of text before it as its head
abbrev pub NoHead : Row → Row → Type 0
NoHead row below = row.kind ≡ TextRow → (is_further below.kind below.on && takes_head below.kind) ≡ false

abbrev pub NoHeads : List Row → Type 0
NoHeads [] = Unit {0}
NoHeads (row ∷ []) = Unit {0}
NoHeads (row ∷ below ∷ rows) = NoHead row below × NoHeads (below ∷ rows)

-- no line of these takes one before it as its head
abbrev pub HeadsNone : List Group → Type 0
HeadsNone (LeafLines first rows ∷ gs) = (is_further first.kind first.on && takes_head first.kind) ≡ false
HeadsNone gs = Unit {0}

pub onto-unheaded : (row : Row) (kind : RowKind) (gs : List Group) →
    (is_further row.kind row.on && takes_head row.kind) ≡ false → HeadsNone (onto_groups row kind gs)
onto-unheaded row kind gs none = go gs _ (onto row kind gs)
  where
    go : (gs all : List Group) → Onto row gs all → HeadsNone all
    go _ _ (AsSpan gs) = none
    go _ _ (OfSpan below rows gs) = none
    go _ _ _ = tt

pub groups-unheaded : (row : Row) (rows : List Row) → row.kind ≡ TextRow → NoHeads (row ∷ rows) →
    HeadsNone (groups rows)
groups-unheaded row [] e none = tt
groups-unheaded row (below ∷ rows) e none = onto-unheaded below below.kind (groups rows) (none.0 e)
