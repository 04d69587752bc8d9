-- Events that fit all four resolvers, one after the other.
--
-- It is asked of the events before the first of them; what each gets then fits it too (`fits-nest`). So besides, no
-- item is in an ATX heading, in a setext heading or in a table, and none of these is in another.
use Rattle.std.proofs.Common.{◌≡◌, true, false, cond, List, [], ◌∷◌, Option, Some, None}
use Rattle.std.proofs.lemmas.Bool.{and_right}
use Rattle.md_engine.specs.declared.event.Event.{Event}
use Rattle.md_engine.specs.declared.event.Name.{Name}
use Rattle.md_leaves.specs.HeadingText.{begins, ends, is_heading, is_run}
use Rattle.md_leaves.specs.Turned.{is_paragraph, is_turned, is_underline, passes as is_unturned}
use Rattle.md_events.specs.Events.Nested.{is_enter, open_following}
use Rattle.md_order.specs.Alone.{HoldNoBlock, Nothing, is_set}
use Rattle.md_order.specs.HeadingsNest.{IsByItself}
use Rattle.md_order.specs.Nests.{ListsNest}
use Rattle.md_order.specs.TablesNest.{MayOccur, Outside, Place, place_following}
use Rattle.md_order.specs.TurnsNest.{Apart, MayBeAt, Spot, spot_by}
use Rattle.md_order.proofs.Names.{unset-bare, unset-item}
use Rattle.md_order.proofs.Plain.{of_item}

-- an event of no item, with which no ATX heading begins
pub record IsClear (e : Event) : Type 0 where
  pub item : of_item e ≡ false
  pub heading : begins is_heading e ≡ false

-- as one of no block that is set is
pub unset-clear : (e : Event) → is_set e.name ≡ false → IsClear e
unset-clear e h = record {
  item = unset-item e.name h;
  heading = and_right (is_enter e.kind) (is_heading e.name) (unset-bare e.name h).heading;
}

-- ATX headings

abbrev pub RunsAlone : Option (List Name) → List Event → Type 0
RunsAlone heading [] = Unit {0}
RunsAlone None (e ∷ es) = RunsAlone (cond (begins is_heading e) (Some []) None) es
RunsAlone (Some names) (e ∷ es) =
    (of_item e ≡ false) × (is_run e.name ≡ true → IsByItself names e.kind e.name)
    × RunsAlone (cond (ends is_heading e) None (Some (open_following names e.kind e.name))) es

-- setext headings

abbrev pub IsClearAt : Spot → Event → Type 0
IsClearAt Apart e = Unit {0}
IsClearAt spot e = IsClear e

abbrev pub TurnsAlone : Spot → List Event → Type 0
TurnsAlone spot [] = spot ≡ Apart
TurnsAlone spot (e ∷ es) =
    IsClearAt spot e × MayBeAt spot e.kind (is_paragraph e.name) (is_underline e.name)
    × TurnsAlone (spot_by spot e.kind (is_paragraph e.name) (is_underline e.name) (is_turned es)) es

-- tables

abbrev pub IsOtherAt : Place → Event → Type 0
IsOtherAt Outside e = Unit {0}
IsOtherAt place e = IsClear e × (is_unturned e ≡ true)

abbrev pub RowsAlone : Place → List Event → Type 0
RowsAlone place [] = Unit {0}
RowsAlone place (e ∷ es) = IsOtherAt place e × MayOccur place e × RowsAlone (place_following place e) es

-- all of it
pub record FitsAll (es : List Event) : Type 0 where
  pub lists : ListsNest es
  pub headings : RunsAlone None es
  pub turns : TurnsAlone Apart es
  pub tables : RowsAlone Outside es
  pub alone : HoldNoBlock Nothing es
