-- The events of a table, one after the other: from where in it to where they go.
use Rattle.std.proofs.Common.{◌≡◌, ℕ, List, refl}
use Rattle.md_engine.specs.declared.event.Event.{Event}
use Rattle.md_engine.specs.declared.event.Name.{Name}
use Rattle.md_engine.specs.declared.event.Point.{Point}
use Rattle.md_events.specs.Events.Nested.{around}
use Rattle.md_events.specs.Events.Spelled.{AsCell, AsDelimiter, IsCell, IsRow, OfTable, LeafRole, TextRole, role}
use Rattle.md_events.proofs.SpelledLemmas.{Between, Quiet, Roles}
use Rattle.md_outline.specs.LinesAllowed.{InTable, Outside}
use Rattle.md_outline.specs.TablePlaces.{AtCell, AtHead, AfterCell, AfterHead, AfterRow, BodyRow, HeadRow, InCell}
use Rattle.md_outline.specs.TablePlaces.{InDelimiter, InRow, Row, TablePlace}
use Rattle.md_outline.proofs.LinesPass.{Passes, passes-around, passes-quiet, TakesLines, passes-lines}

-- events that go from a spot to a spot
abbrev pub PassesIn : List ℕ → TablePlace → TablePlace → List Event → Type 0
PassesIn bytes from to es = Passes bytes (InTable from) (InTable to) es

-- All of it.
pub passes-table : (bytes : List ℕ) (name : Name) (p q : Point) (es : List Event) → role name ≡ LeafRole OfTable →
    PassesIn bytes AtHead AfterRow es → Passes bytes Outside Outside (around name p q es)
passes-table bytes name p q es is h =
    passes-around bytes Outside (InTable AtHead) (InTable AfterRow) Outside (LeafRole OfTable) name p q es is
    (tt, refl) h
    (tt, refl)

-- What the tree does not show may be everywhere,
pub passes-unshown : (bytes : List ℕ) (spot : TablePlace) (es : List Event) → Roles Quiet es →
    PassesIn bytes spot spot es
passes-unshown bytes spot es h = passes-quiet bytes (InTable spot) es h

-- and endings and prefixes between its rows.
abbrev pub IsBetweenRows : TablePlace → Type 0
IsBetweenRows spot = TakesLines (InTable spot)

pub passes-between_rows : (bytes : List ℕ) (spot : TablePlace) (es : List Event) → IsBetweenRows spot →
    Roles Between es → PassesIn bytes spot spot es
passes-between_rows bytes spot es between h = passes-lines bytes (InTable spot) es between h

-- Its rows: the head,
pub passes-head : (bytes : List ℕ) (name : Name) (p q : Point) (es : List Event) → role name ≡ IsRow →
    PassesIn bytes (InRow HeadRow) (InRow HeadRow) es → PassesIn bytes AtHead AfterHead (around name p q es)
passes-head bytes name p q es is h =
    passes-around bytes (InTable AtHead) (InTable (InRow HeadRow)) (InTable (InRow HeadRow)) (InTable AfterHead) IsRow
    name p q es is (tt, refl) h (tt, refl)

-- the delimiter row,
pub passes-delimiter : (bytes : List ℕ) (name : Name) (p q : Point) (es : List Event) →
    role name ≡ TextRole AsDelimiter → Roles Quiet es → PassesIn bytes AfterHead AfterRow (around name p q es)
passes-delimiter bytes name p q es is h =
    passes-around bytes (InTable AfterHead) (InTable InDelimiter) (InTable InDelimiter) (InTable AfterRow)
    (TextRole AsDelimiter) name p q es is (tt, refl) (passes-unshown bytes InDelimiter es h) (tt, refl)

-- and a further row.
pub passes-body_row : (bytes : List ℕ) (name : Name) (p q : Point) (es : List Event) → role name ≡ IsRow →
    PassesIn bytes (InRow BodyRow) (InRow BodyRow) es → PassesIn bytes AfterRow AfterRow (around name p q es)
passes-body_row bytes name p q es is h =
    passes-around bytes (InTable AfterRow) (InTable (InRow BodyRow)) (InTable (InRow BodyRow))
    (InTable AfterRow) IsRow
    name p q es is (tt, refl) h (tt, refl)

-- A cell of a row, around its text,
pub passes-cell : (bytes : List ℕ) (row : Row) (name : Name) (p q : Point) (es : List Event) → role name ≡ IsCell →
    PassesIn bytes (AtCell row) (AfterCell row) es → PassesIn bytes (InRow row) (InRow row) (around name p q es)
passes-cell bytes row name p q es is h =
    passes-around bytes (InTable (InRow row)) (InTable (AtCell row)) (InTable (AfterCell row)) (InTable (InRow row))
    IsCell name p q es is (tt, refl) h (tt, refl)

pub passes-cell_text : (bytes : List ℕ) (row : Row) (name : Name) (p q : Point) (es : List Event) →
    role name ≡ TextRole AsCell → Roles Quiet es → PassesIn bytes (AtCell row) (AfterCell row) (around name p q es)
passes-cell_text bytes row name p q es is h =
    passes-around bytes (InTable (AtCell row)) (InTable (InCell row)) (InTable (InCell row)) (InTable (AfterCell row))
    (TextRole AsCell) name p q es is (tt, refl) (passes-unshown bytes (InCell row) es h) (tt, refl)

-- or with none
pub passes-empty_cell : (bytes : List ℕ) (row : Row) (name : Name) (p q : Point) (es : List Event) →
    role name ≡ IsCell → Roles Quiet es → PassesIn bytes (InRow row) (InRow row) (around name p q es)
passes-empty_cell bytes row name p q es is h =
    passes-around bytes (InTable (InRow row)) (InTable (AtCell row)) (InTable (AtCell row)) (InTable (InRow row)) IsCell
    name p q es is (tt, refl) (passes-unshown bytes (AtCell row) es h) (tt, refl)
