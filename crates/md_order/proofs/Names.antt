-- What the names of events show.
use Rattle.std.proofs.Common.{◌≡◌, ℕ, Bool, true, false, cond, refl}
use Rattle.md_engine.specs.declared.event.Event.{Event}
use Rattle.md_engine.specs.declared.event.Kind.{Kind}
use Rattle.md_engine.specs.declared.event.Kind.TheVariants.{Enter, Exit}
use Rattle.md_engine.specs.declared.event.Name.{Name}
use Rattle.md_engine.specs.declared.event.Name.TheVariants as n
use Rattle.md_containers.specs.Listed.{is_item, list_name}
use Rattle.md_leaves.specs.HeadingText.{is_heading}
use Rattle.md_leaves.specs.Turned.{is_paragraph, is_underline, passes as is_unturned}
use Rattle.md_events.specs.Events.Prefix.{is_prefix}
use Rattle.md_events.specs.Events.Spelled.{is_ordered, role}
use Rattle.md_tables.specs.Heads.{is_table}
use Rattle.md_tables.specs.Tabled.{begins_table, bound_by, bound_of}
use Rattle.md_order.specs.Alone.{is_set}

-- A name of no block that is set.

pub record IsBare (name : Name) : Type 0 where
  pub heading : is_heading name ≡ false
  pub paragraph : is_paragraph name ≡ false
  pub underline : is_underline name ≡ false
  pub table : is_table name ≡ false

-- items are no leaves
pub item-bare : (name : Name) → is_item (role name) ≡ true → IsBare name
item-bare n.ListItem h = record { heading = refl; paragraph = refl; underline = refl; table = refl }
item-bare _ h = absurd (cc)

-- nor are lists
pub list-bare : (marker : ℕ) → IsBare (list_name marker)
list-bare marker = go (is_ordered marker)
  where
    go : (x : Bool) → IsBare (cond x n.ListOrdered n.ListUnordered)
    go true = record { heading = refl; paragraph = refl; underline = refl; table = refl }
    go false = record { heading = refl; paragraph = refl; underline = refl; table = refl }

pub unset-bare : (name : Name) → is_set name ≡ false → IsBare name
unset-bare n.HeadingAtx h = absurd (let no : true ≡ false = h in cc)
unset-bare n.Paragraph h = absurd (let no : true ≡ false = h in cc)
unset-bare n.HeadingSetextUnderline h = absurd (let no : true ≡ false = h in cc)
unset-bare n.GfmTable h = absurd (let no : true ≡ false = h in cc)
unset-bare _ h = record { heading = refl; paragraph = refl; underline = refl; table = refl }

pub unset-item : (name : Name) → is_set name ≡ false → is_item (role name) ≡ false
unset-item n.ListItem h = absurd (let no : true ≡ false = h in cc)
unset-item _ h = refl

-- what is of none of them passes
pub bare-unturned : (e : Event) → IsBare e.name → is_unturned e ≡ true
bare-unturned e h = rw (h.paragraph, h.underline) refl

-- the begin of a table alone is such
pub tableless : (kind : Kind) (name : Name) → is_table name ≡ false → begins_table (bound_by kind name) ≡ false
tableless Enter n.GfmTable h = absurd (let no : true ≡ false = h in cc)
tableless Enter _ h = refl
tableless Exit n.GfmTable h = refl
tableless Exit n.GfmTableDelimiterRow h = refl
tableless Exit _ h = refl

pub table-begin : (e : Event) → begins_table (bound_of e) ≡ true → (e.kind ≡ Enter) × (e.name ≡ n.GfmTable)
table-begin e h = go e.kind e.name h
  where
    go : (kind : Kind) (name : Name) → begins_table (bound_by kind name) ≡ true →
        (kind ≡ Enter) × (name ≡ n.GfmTable)
    go Enter n.GfmTable h = (refl, refl)
    go Enter _ h = absurd (let no : false ≡ true = h in cc)
    go Exit n.GfmTable h = absurd (let no : false ≡ true = h in cc)
    go Exit n.GfmTableDelimiterRow h = absurd (let no : false ≡ true = h in cc)
    go Exit _ h = absurd (let no : false ≡ true = h in cc)

-- a prefix is of no item and no heading
pub prefix-item : (name : Name) → is_prefix name ≡ true → is_item (role name) ≡ false
prefix-item n.ListItem h = absurd (let no : false ≡ true = h in cc)
prefix-item _ h = refl

pub prefix-heading : (name : Name) → is_prefix name ≡ true → is_heading name ≡ false
prefix-heading n.HeadingAtx h = absurd (let no : false ≡ true = h in cc)
prefix-heading _ h = refl
