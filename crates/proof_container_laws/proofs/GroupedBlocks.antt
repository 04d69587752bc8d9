-- Events of no leaf of several lines: no table begins with them.
use Rattle.std.proofs.Common.{◌≡◌, true, ◌&&◌, refl}
use Rattle.std.specs.Prelude.{not}
use Rattle.md_engine.specs.declared.event.Kind.{Kind}
use Rattle.md_engine.specs.declared.event.Kind.TheVariants.{Enter, Exit}
use Rattle.md_engine.specs.declared.event.Name.{Name}
use Rattle.md_engine.specs.declared.event.Name.TheVariants as n
use Rattle.md_leaves.specs.declared.spans.Place.TheVariants.{Outside}
use Rattle.md_leaves.specs.Spanned.{has_lines, is_renamed}
use Rattle.md_events.specs.Events.Spelled.{role}
use Rattle.md_tables.specs.Tabled.{begins_table, bound_by}

pub no-table : (kind : Kind) (name : Name) → (not (has_lines (role name)) && not (is_renamed Outside name)) ≡ true →
    not (begins_table (bound_by kind name)) ≡ true
no-table Enter n.GfmTable h = cc
no-table Enter n.GfmTableRow h = refl
no-table Enter _ h = refl
no-table Exit n.GfmTable h = refl
no-table Exit n.GfmTableDelimiterRow h = refl
no-table Exit _ h = refl
