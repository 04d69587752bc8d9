-- Prefixes part no text but that of lines, and that at the begins of these.
use Rattle.md_engine.specs.declared.tokenizer.held_leaf.HeldLeaf.TheVariants as held_leaf
use Rattle.std.proofs.Common.{◌≡◌, ℕ, true, List, [], ◌++◌, refl}
use Rattle.std.specs.Prelude.{Option, Some, None, Bool, false}
use Rattle.md_engine.specs.declared.configuration.ParseOptions.{ParseOptions}
use Rattle.md_engine.specs.declared.event.Event.{Event}
use Rattle.md_engine.specs.declared.event.Name.{Name}
use Rattle.md_engine.specs.declared.event.Point.{Point}
use Rattle.md_events.specs.Events.Nested.{pair}
use Rattle.md_events.specs.Events.Spelled.{role}
use Rattle.md_events.proofs.SpelledLemmas.{Roles, roles-append}
use Rattle.md_outline.specs.Outlined.{are_parted}
use Rattle.proof_frame.specs.EndingName.{ending_name}
use Rattle.proof_frame.specs.Change.{ends_of}
use Rattle.proof_frame.specs.Row.{Row, ending_events}
use Rattle.proof_rows.specs.Rows.{final_row, first_row, front_done, group_done, Group, groups, groups_events}
use Rattle.proof_rows.specs.Rows.{tail_events, group_ending, is_blank_group}
use Rattle.proof_frame.proofs.FrontLemmas.{ends-roles}
use Rattle.proof_frame.proofs.FrontValid.{fronts-sit}
use Rattle.proof_rows.proofs.RowFacts.{AreRows}
use Rattle.proof_frame.proofs.PartedFacts.{PrefixesAtLineStart, Still, sits-append, sits-still}
use Rattle.proof_rows.proofs.NestedRows.{ByGroups, rows-hold}
use Rattle.proof_frame.proofs.ContainerNames.{container-facts}

-- Events outside of texts.

-- the ends of containers, and an ending
sits-tail : (bytes : List ℕ) (name : Name) (row : Row) → Still (role name) →
    PrefixesAtLineStart bytes (tail_events name row)
sits-tail bytes name row h =
    sits-still bytes (tail_events name row)
    (roles-append Still (ends_of row.closed_after row.end) (ending_events name row)
    (ends-roles Still row.closed_after row.end (λ c. (container-facts c).still)) (go row.after))
  where
    go : (o : Option Point) → Roles Still (elim o [ None ↦ [] | Some q ↦ pair name row.end q ])
    go None = tt
    go (Some q) = (h, (h, tt))

-- A line.

-- whatever ends it
ending-still : (blank : Bool) → Still (role (ending_name blank))
ending-still true = tt
ending-still false = tt

-- what is before it, its leaf, and what follows it
line-sits : (bytes : List ℕ) (name : Name) (front inside : List Event) (row : Row) → Still (role name) →
    PrefixesAtLineStart bytes front → PrefixesAtLineStart bytes inside →
    PrefixesAtLineStart bytes (front ++ inside ++ tail_events name row)
line-sits bytes name front inside row u h k =
    sits-append bytes (front ++ inside) (tail_events name row) (sits-append bytes front inside h k)
    (sits-tail bytes name row u)

-- Groups.

abbrev Parted : ParseOptions → List ℕ → List Name → Point → List Group → Type 0
Parted options bytes names p gs = are_parted bytes None (groups_events options bytes gs) ≡ true

parted-by_groups : (options : ParseOptions) (bytes : List ℕ) → ByGroups options bytes (Parted options bytes)
parted-by_groups options bytes = record {
  none = λ p. refl;
  group = λ names kept p group gs o keeps on.
      let row : Row = first_row group in
      let front : PrefixesAtLineStart bytes (front_done bytes row) =
      fronts-sit bytes row.change.opens p row.first (front_done bytes row) o.front_read.is in
      line-sits bytes (group_ending group) (front_done bytes row) (group_done options bytes group) (final_row group)
      (ending-still (is_blank_group group)) front o.leaf.1.stretch.parted (groups_events options bytes gs) on;
}

-- no text of a whole text is parted but those of lines, where these begin
pub rows-parted : (options : ParseOptions) (bytes : List ℕ) (p : Point) (lines : List (List ℕ)) (rows : List Row) →
    AreRows options bytes [] held_leaf.None p lines rows →
    are_parted bytes None (groups_events options bytes (groups rows)) ≡ true
rows-parted options bytes p lines rows are =
    rows-hold options bytes (Parted options bytes) (parted-by_groups options bytes) p lines rows are
