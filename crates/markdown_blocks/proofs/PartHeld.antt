-- Items of the lines of a text from a point on begin directly in blocks, or outside of all.
use Rattle.md_engine.specs.declared.tokenizer.held_leaf.HeldLeaf.TheVariants as held_leaf
use Rattle.std.proofs.Common.{ℕ, List, []}
use Rattle.md_engine.specs.declared.configuration.ParseOptions.{ParseOptions}
use Rattle.md_engine.specs.declared.event.Name.{Name}
use Rattle.md_engine.specs.declared.event.Point.{Point}
use Rattle.md_containers.specs.ItemsHeld.{ItemsHeld}
use Rattle.proof_frame.specs.Row.{Row}
use Rattle.proof_rows.specs.Rows.{Group, first_row, groups}
use Rattle.proof_rows.specs.BlockList.{group_unread, tabled_groups}
use Rattle.proof_frame.proofs.NestFacts.{balanced-items}
use Rattle.proof_frame.proofs.LeafAllowed.{roles-unlisted}
use Rattle.proof_rows.proofs.NestedRows.{ByGroups, rows-hold}
use Rattle.proof_rows.proofs.HeldRows.{AreBlocks, group-held}
use Rattle.proof_rows.proofs.RowFacts.{AreRows}

-- before text parts are read
abbrev UnreadHeld : ParseOptions → List ℕ → List Name → Point → List Group → Type 0
UnreadHeld options bytes names p gs = AreBlocks names → ItemsHeld names (tabled_groups options bytes gs)

unread-by_groups : (options : ParseOptions) (bytes : List ℕ) → ByGroups options bytes (UnreadHeld options bytes)
unread-by_groups options bytes = record {
  none = λ p blocks. tt;
  group = λ names kept p group gs o keeps on blocks.
      group-held options bytes names kept p group (first_row group).front (group_unread options bytes group)
      (tabled_groups options bytes gs) o.front keeps blocks
      (balanced-items (group_unread options bytes group) o.leaf.1.stretch.unread_nested.0
      (roles-unlisted (group_unread options bytes group) o.leaf.1.stretch.unread_roles)) on;
}

pub part-held : (options : ParseOptions) (bytes : List ℕ) (p : Point) (lines : List (List ℕ)) (rows : List Row) →
    AreRows options bytes [] held_leaf.None p lines rows → ItemsHeld [] (tabled_groups options bytes (groups rows))
part-held options bytes p lines rows are =
    rows-hold options bytes (UnreadHeld options bytes) (unread-by_groups options bytes) p lines rows are tt
