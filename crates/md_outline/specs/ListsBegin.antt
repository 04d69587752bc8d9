-- Lists whose word an outline can show: each begins with an item that begins with its marker. And footnote definitions
-- whose label it can: each begins with that, before its blocks.
--
-- A walk over the events by their roles, which knows what a list or a footnote definition that has begun still has to
-- show. It asks no more of a footnote definition than the walk over items does (`InLabel` of `ItemsAllowed`), so it
-- holds where that does (`listed-outlined`).
use Rattle.std.specs.Prelude.{◌≡◌, ℕ, Bool, true, false, List, [], ◌∷◌, slice_range}
use Rattle.md_engine.specs.declared.event.Event.{Event}
use Rattle.md_engine.specs.declared.event.Kind.{Kind}
use Rattle.md_engine.specs.declared.event.Kind.TheVariants.{Enter, Exit}
use Rattle.md_engine.specs.declared.event.Point.{Point}
use Rattle.md_meaning.specs.Containers.{is_bullet}
use Rattle.md_meaning.specs.Texts.{first_byte}
use Rattle.md_events.specs.Events.Spelled.{AsDigits, AsFootnoteLabel, AsItemMarker, FootnoteShape, ContainerRole}
use Rattle.md_events.specs.Events.Spelled.{IsEnding, IsPrefix, IsQuiet, IsQuoteMarker, ItemShape, OrderedShape, Role}
use Rattle.md_events.specs.Events.Spelled.{Shape, TextRole, UnorderedShape, byte_at, is_ordered, role}

-- whether a byte is the marker of items of such a list (CommonMark 5.2)
abbrev pub marks : Shape → ℕ → Bool
marks OrderedShape b = is_ordered b
marks UnorderedShape b = is_bullet b
marks _ b = false

-- What is to come of a list or a footnote definition that has begun.
pub data Stage : Type 0 where
  -- nothing: each list has said its marker, and each footnote definition its label
  AllRecorded : Stage
  -- its first item
  AtItem : Shape → Stage
  -- the marker of that, which has begun
  AtMarker : Shape → Stage
  -- the end of the marker, which begins at this point
  InMarker : Shape → Point → Stage
  -- the label of a footnote definition, up to its end
  AtLabel : Stage

-- what may be there: an item whose marker is not said yet, what is before a marker, and one of such a list; and before
-- the label of a footnote definition and in it no block begins or ends
abbrev pub MayFollow : List ℕ → Stage → Kind → Role → Point → Type 0
MayFollow bytes AllRecorded kind (TextRole AsFootnoteLabel) p = ⊥
MayFollow bytes AllRecorded kind x p = Unit {0}
MayFollow bytes (AtItem shape) Enter (ContainerRole (ItemShape marker digits)) p = marker ≡ 0
MayFollow bytes (AtItem shape) _ _ p = ⊥
MayFollow bytes (AtMarker shape) kind IsQuiet p = Unit {0}
MayFollow bytes (AtMarker shape) kind (TextRole AsDigits) p = Unit {0}
MayFollow bytes (AtMarker shape) Enter (TextRole AsItemMarker) p = Unit {0}
MayFollow bytes (AtMarker shape) _ _ p = ⊥
MayFollow bytes (InMarker shape q) Exit (TextRole AsItemMarker) p =
    marks shape (first_byte (slice_range bytes (byte_at q) p.index)) ≡ true
MayFollow bytes (InMarker shape q) _ _ p = ⊥
MayFollow bytes AtLabel kind IsPrefix p = Unit {0}
MayFollow bytes AtLabel kind IsEnding p = Unit {0}
MayFollow bytes AtLabel kind IsQuiet p = Unit {0}
MayFollow bytes AtLabel kind IsQuoteMarker p = Unit {0}
MayFollow bytes AtLabel kind (TextRole AsFootnoteLabel) p = Unit {0}
MayFollow bytes AtLabel _ _ p = ⊥

-- what is to come after an event
abbrev pub stage_by : Stage → Kind → Role → Point → Stage
stage_by AllRecorded Enter (ContainerRole OrderedShape) p = AtItem OrderedShape
stage_by AllRecorded Enter (ContainerRole UnorderedShape) p = AtItem UnorderedShape
stage_by AllRecorded Enter (ContainerRole (FootnoteShape label)) p = AtLabel
stage_by AllRecorded _ _ p = AllRecorded
stage_by (AtItem shape) kind x p = AtMarker shape
stage_by (AtMarker shape) Enter (TextRole AsItemMarker) p = InMarker shape p
stage_by (AtMarker shape) _ _ p = AtMarker shape
stage_by (InMarker shape q) kind x p = AllRecorded
stage_by AtLabel Exit (TextRole AsFootnoteLabel) p = AllRecorded
stage_by AtLabel kind x p = AtLabel

-- whether lists and footnote definitions begin so from a stage on
abbrev pub ListsBegin : List ℕ → Stage → List Event → Type 0
ListsBegin bytes stage [] = Unit {0}
ListsBegin bytes stage (e ∷ es) =
    MayFollow bytes stage e.kind (role e.name) e.point
    × ListsBegin bytes (stage_by stage e.kind (role e.name) e.point) es
