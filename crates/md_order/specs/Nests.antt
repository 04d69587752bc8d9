-- Where what the resolvers give nests, if what they get does.
use Rattle.std.specs.Prelude.{◌≡◌, ℕ, true, List, []}
use Rattle.md_engine.specs.declared.event.Event.{Event}
use Rattle.md_containers.specs.ItemsHeld.{ItemsHeld}
use Rattle.md_containers.specs.Listed.{listed}
use Rattle.md_leaves.specs.HeadingText.{headings_resolved}
use Rattle.md_leaves.specs.Turned.{turned}
use Rattle.md_order.specs.declared.wanted.Wanted.{Wanted}
use Rattle.md_order.specs.HeadingsNest.{HeadingsNest}
use Rattle.md_order.specs.InOrder.{set_if}
use Rattle.md_order.specs.TablesNest.{TablesNest}
use Rattle.md_order.specs.TurnsNest.{TurnsNest}

-- Lists may be around items: each begins directly in a block, or outside of all.
abbrev pub ListsNest : List Event → Type 0
ListsNest events = ItemsHeld [] events

-- What each function that is wanted gets fits it, in the order of their names.
pub record MayNest (w : Wanted) (bytes : List ℕ) (events : List Event) : Type 0 where
  pub lists : w.items ≡ true → ListsNest events
  pub headings : w.atx ≡ true → HeadingsNest (set_if w.items (listed bytes) events)
  pub turns : w.setext ≡ true → TurnsNest (set_if w.atx headings_resolved (set_if w.items (listed bytes) events))
  pub tables :
      w.tables ≡ true →
      TablesNest (set_if w.setext turned (set_if w.atx headings_resolved (set_if w.items (listed bytes) events)))
