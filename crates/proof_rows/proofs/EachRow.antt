-- What holds of each line of a text holds of each line of its groups.
use Rattle.std.proofs.Common.{Bool, true, false, cond, ◌&&◌, List, [], ◌∷◌}
use Rattle.proof_frame.specs.Row.{BlankRow, LeafRow, Row, RowKind, TextRow, last_row}
use Rattle.proof_rows.specs.Rows.{Group, Lines, Single, final_row, first_row, is_continued, groups, Headed, LeafLines}
use Rattle.proof_rows.specs.Rows.{Turned, is_further, is_last, onto_groups, onto_leaf, takes_head}
use Rattle.md_registry.specs.Registry.{leaf}

abbrev pub EachRow : (Row → Type 0) → List Row → Type 0
EachRow P [] = Unit {0}
EachRow P (row ∷ rows) = P row × EachRow P rows

abbrev pub OfGroup : (Row → Type 0) → Group → Type 0
OfGroup P (Single row) = P row
OfGroup P (Lines row rows) = P row × EachRow P rows
OfGroup P (Turned row rows under) = P row × EachRow P rows × P under
OfGroup P (Headed row next rows) = P row × P next × EachRow P rows
OfGroup P (LeafLines row rows) = P row × EachRow P rows

abbrev pub EachGroup : (Row → Type 0) → List Group → Type 0
EachGroup P [] = Unit {0}
EachGroup P (group ∷ groups) = OfGroup P group × EachGroup P groups

-- What a line is before the groups of the lines after it: a group of its own, or the first line of the first of these.
pub data Onto (row : Row) : List Group → List Group → Type 0 where
  AsSingle : (gs : List Group) → Onto row gs (Single row ∷ gs)
  AsText : (gs : List Group) → Onto row gs (Lines row [] ∷ gs)
  AsSpan : (gs : List Group) → Onto row gs (LeafLines row [] ∷ gs)
  OfText : (below : Row) (rows : List Row) (gs : List Group) →
      Onto row (Lines below rows ∷ gs) (Lines row (below ∷ rows) ∷ gs)
  OfTurned : (below : Row) (rows : List Row) (under : Row) (gs : List Group) →
      Onto row (Turned below rows under ∷ gs) (Turned row (below ∷ rows) under ∷ gs)
  OfSpan : (below : Row) (rows : List Row) (gs : List Group) →
      Onto row (LeafLines below rows ∷ gs) (LeafLines row (below ∷ rows) ∷ gs)
  OfTable : (below : Row) (rows : List Row) (gs : List Group) →
      Onto row (LeafLines below rows ∷ gs) (Headed row below rows ∷ gs)
  OverLine : (under : Row) (gs : List Group) → Onto row (LeafLines under [] ∷ gs) (Turned row [] under ∷ gs)

leaf-onto : (row : Row) (ends : Bool) (gs : List Group) → Onto row gs (onto_leaf ends row gs)
leaf-onto row true gs = AsSingle gs
leaf-onto row false (LeafLines below rows ∷ gs) = go (is_further below.kind below.on)
  where
    go : (x : Bool) →
        Onto row (LeafLines below rows ∷ gs)
        (cond x (LeafLines row (below ∷ rows) ∷ gs) (LeafLines row [] ∷ LeafLines below rows ∷ gs))
    go true = OfSpan below rows gs
    go false = AsSpan (LeafLines below rows ∷ gs)
leaf-onto row false gs = AsSpan gs

pub onto : (row : Row) (kind : RowKind) (gs : List Group) → Onto row gs (onto_groups row kind gs)
onto row BlankRow gs = AsSingle gs
onto row (LeafRow l) gs = leaf-onto row (leaf l).ends gs
onto row TextRow (Turned below rows under ∷ gs) = go (is_continued row below)
  where
    go : (x : Bool) →
        Onto row (Turned below rows under ∷ gs)
        (cond x (Turned row (below ∷ rows) under ∷ gs) (Lines row [] ∷ Turned below rows under ∷ gs))
    go true = OfTurned below rows under gs
    go false = AsText (Turned below rows under ∷ gs)
onto row TextRow (LeafLines below rows ∷ gs) = go (is_further below.kind below.on) (takes_head below.kind) rows
  where
    go : (x y : Bool) (rows : List Row) →
        Onto row (LeafLines below rows ∷ gs)
        (cond (x && y) (Headed row below rows ∷ gs)
        (cond (x && is_last rows) (Turned row [] below ∷ gs) (Lines row [] ∷ LeafLines below rows ∷ gs)))
    go true true rows = OfTable below rows gs
    go true false [] = OverLine below gs
    go true false (next ∷ rows) = AsText (LeafLines below (next ∷ rows) ∷ gs)
    go false y rows = AsText (LeafLines below rows ∷ gs)
onto row TextRow (Lines below rows ∷ gs) = go (is_continued row below)
  where
    go : (x : Bool) →
        Onto row (Lines below rows ∷ gs)
        (cond x (Lines row (below ∷ rows) ∷ gs) (Lines row [] ∷ Lines below rows ∷ gs))
    go true = OfText below rows gs
    go false = AsText (Lines below rows ∷ gs)
onto row TextRow gs = AsText gs

onto-each : (P : Row → Type 0) (row : Row) (gs all : List Group) → Onto row gs all → P row → EachGroup P gs →
    EachGroup P all
onto-each P row _ _ (AsSingle gs) h k = (h, k)
onto-each P row _ _ (AsText gs) h k = ((h, tt), k)
onto-each P row _ _ (AsSpan gs) h k = ((h, tt), k)
onto-each P row _ _ (OfTurned below rows under gs) h k = ((h, (k.0.0, k.0.1), k.0.2), k.1)
onto-each P row _ _ (OfTable below rows gs) h k = ((h, k.0.0, k.0.1), k.1)
onto-each P row _ _ (OverLine under gs) h k = ((h, tt, k.0.0), k.1)
onto-each P row _ _ _ h k = ((h, k.0), k.1)

pub groups-each : (P : Row → Type 0) (rows : List Row) → EachRow P rows → EachGroup P (groups rows)
groups-each P [] h = tt
groups-each P (row ∷ rows) h =
    onto-each P row (groups rows) _ (onto row row.kind (groups rows)) h.0 (groups-each P rows h.1)

pub last-each : (P : Row → Type 0) (row : Row) (rows : List Row) → P row → EachRow P rows → P (last_row row rows)
last-each P row [] h k = h
last-each P row (next ∷ rows) h k = last-each P next rows k.0 k.1

-- of a group, the first line and the last
pub first-each : (P : Row → Type 0) (group : Group) → OfGroup P group → P (first_row group)
first-each P (Single row) h = h
first-each P _ h = h.0

pub final-each : (P : Row → Type 0) (group : Group) → OfGroup P group → P (final_row group)
final-each P (Single row) h = h
final-each P (Turned row rows under) h = h.2
final-each P (Headed row next rows) h = last-each P next rows h.1 h.2
final-each P (Lines row rows) h = last-each P row rows h.0 h.1
final-each P (LeafLines row rows) h = last-each P row rows h.0 h.1
