-- What the resolvers of items, headings and tables make of events, in the order of their names: `ListItem`,
-- `HeadingAtx`, `HeadingSetext`, `GfmTable`.
use Rattle.std.specs.Prelude.{ℕ, Bool, true, false, List, [], ◌∷◌}
use Rattle.md_engine.specs.declared.event.Event.{Event}
use Rattle.md_engine.specs.declared.resolve.name.Name.{Name as ResolveName}
use Rattle.md_engine.specs.declared.resolve.name.Name.TheVariants as resolver
use Rattle.md_containers.specs.Listed.{listed}
use Rattle.md_leaves.specs.HeadingText.{headings_resolved}
use Rattle.md_leaves.specs.Turned.{turned}
use Rattle.md_tables.specs.Tabled.{tabled}
use Rattle.md_order.specs.declared.wanted.Wanted.{Wanted}

-- those that are wanted, and the one of this name
abbrev pub with_name : ResolveName → Wanted → Wanted
with_name resolver.ListItem w = record w { items = true }
with_name resolver.HeadingAtx w = record w { atx = true }
with_name resolver.HeadingSetext w = record w { setext = true }
with_name resolver.GfmTable w = record w { tables = true }
with_name name w = w

-- and those of these names
abbrev pub wanted_from : Wanted → List ResolveName → Wanted
wanted_from w [] = w
wanted_from w (name ∷ names) = wanted_from (with_name name w) names

abbrev pub wanted_of : List ResolveName → Wanted
wanted_of names = wanted_from (record { items = false; atx = false; setext = false; tables = false }) names

-- all four
abbrev pub every : Wanted
every = record { items = true; atx = true; setext = true; tables = true }

-- a function, if it is wanted
abbrev pub set_if : Bool → (List Event → List Event) → List Event → List Event
set_if true f es = f es
set_if false f es = es

-- the events with what is wanted set
abbrev pub in_order : Wanted → List ℕ → List Event → List Event
in_order w bytes es =
    set_if w.tables tabled (set_if w.setext turned (set_if w.atx headings_resolved (set_if w.items (listed bytes) es)))
