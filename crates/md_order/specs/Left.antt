-- What one pass gives for the events that are left, where it is.
use Rattle.std.specs.Prelude.{◌≡◌, ◌⊎◌, ℕ, suc, Bool, true, ◌||◌, ◌&&◌, not, List}
use Rattle.std.specs.List.{prefix_len}
use Rattle.md_engine.specs.declared.event.Event.{Event}
use Rattle.md_containers.specs.Listed.{Place as ListPlace, is_item, listed_from}
use Rattle.md_leaves.specs.HeadingText.{begins, ends, headings_resolved, is_heading}
use Rattle.md_leaves.specs.Turned.{is_underline, passes as is_unturned, turned_from}
use Rattle.md_events.specs.Events.Nested.{is_exit}
use Rattle.md_events.specs.Events.Spelled.{role}
use Rattle.md_tables.specs.Heads.{is_table}
use Rattle.md_tables.specs.Tabled.{begins_table, bound_of, tabled}
use Rattle.md_order.specs.declared.wanted.Wanted.{Wanted}
use Rattle.md_order.specs.Alone.{HoldNoBlock, Open, is_one}
use Rattle.md_order.specs.InOrder.{set_if}

-- Where it is: among items, and whether a setext heading is open. ATX headings and tables are set whole.
pub record Situation : Type 0 where
  pub items : ListPlace
  pub on : Bool

abbrev pub left_in : Wanted → List ℕ → Situation → List Event → List Event
left_in w bytes at es =
    set_if w.tables tabled
    (set_if w.setext (turned_from at.on)
    (set_if w.atx headings_resolved (set_if w.items (listed_from bytes at.items) es)))

-- Outside of ATX headings an event passes as it is if it is of no block that is set.
abbrev pub is_passed : Wanted → Event → Bool
is_passed w e =
    not
    ((w.items && is_item (role e.name)) || (w.atx && begins is_heading e) || (w.setext && not (is_unturned e))
    || (w.tables && begins_table (bound_of e)))

-- Where all events are so, they stay as they are: they are of no item, heading, underline or table that is set.
abbrev pub is_same : Wanted → Event → Bool
is_same w e =
    not
    ((w.items && is_item (role e.name)) || (w.atx && begins is_heading e) || (w.setext && is_underline e.name)
    || (w.tables && begins_table (bound_of e)))

-- what is asked of the events that are left, by what is open, and whatever is
abbrev pub MayBeLeft : Wanted → Open → List Event → Type 0
MayBeLeft w leaf es = (is_one w ≡ true) ⊎ HoldNoBlock leaf es

abbrev pub MayStay : Wanted → List Event → Type 0
MayStay w es = (leaf : Open) × MayBeLeft w leaf es

-- whether a table ends with an event, and how many events there are up to the first that does so, with it
abbrev pub ends_table : Event → Bool
ends_table e = is_exit e.kind && is_table e.name

abbrev pub table_len : List Event → ℕ
table_len es = suc (prefix_len (λ (e : Event). not (ends_table e)) es)

-- how many events there are before the first end of an ATX heading
abbrev pub heading_len : List Event → ℕ
heading_len es = prefix_len (λ (e : Event). not (ends is_heading e)) es
