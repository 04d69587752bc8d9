-- Leaf blocks hold no block once the lines of each leaf of several are joined.
use Rattle.std.proofs.Common.{ℕ, false, List, [], ◌∷◌, refl, sym, subst}
use Rattle.md_engine.specs.declared.configuration.ParseOptions.{ParseOptions}
use Rattle.md_engine.specs.declared.event.Name.TheVariants as n
use Rattle.md_engine.specs.declared.event.Point.{Point}
use Rattle.md_engine.specs.declared.tokenizer.held_leaf.HeldLeaf.{HeldLeaf}
use Rattle.md_meaning.specs.State.{Container}
use Rattle.md_order.specs.Alone.{HoldNoBlock, Nothing}
use Rattle.md_events.specs.Events.Nested.{pair}
use Rattle.md_registry.specs.Resolving.{lines_joined}
use Rattle.proof_frame.specs.Row.{Row, last_row, span_by}
use Rattle.proof_leaf_laws.specs.Headed.{headed_row}
use Rattle.proof_frame.specs.TextLines.{text_leaf}
use Rattle.proof_rows.specs.BlockList.{unread_lines}
use Rattle.proof_rows.specs.Rows.{Group, Headed, LeafLines, Lines, Single, Turned, groups, row_events}
use Rattle.proof_rows.specs.Unread.{spanned_group, spanned_groups, unread_group, unread_groups}
use Rattle.proof_frame.proofs.ClosedFacts.{IsClosed, IsUnset, OpensNothing, closed-append, closed-around, closed-each}
use Rattle.proof_frame.proofs.ClosedFacts.{closed-ending, closed-front, closed-holds, paragraph-block, prefixes-unset}
use Rattle.proof_frame.proofs.EachEvent.{each-as}
use Rattle.proof_frame.proofs.FrontNames.{HasFront}
use Rattle.proof_frame.proofs.LinedFacts.{IsLined, lined-opens}
use Rattle.proof_leaf_laws.proofs.GfmTable.Alone.{table-alone}
use Rattle.md_registry.proofs.Registry.{laws}
use Rattle.proof_rows.proofs.GroupLemmas.{lines-prefixed}
use Rattle.proof_rows.proofs.GroupLines.{AreGroups, AreLines, AreSpan, Begins, IsHead, IsSingle, IsUnder}
use Rattle.proof_rows.proofs.GroupsAre.{groups-are}
use Rattle.proof_rows.proofs.HeadedTable.{headed-is, headed-table}
use Rattle.proof_rows.proofs.JoinedLemmas.{EachNoContent}
use Rattle.proof_rows.proofs.RowFacts.{AreRows}
use Rattle.proof_rows.proofs.RowHolds.{OfRows, around-holds, each-linked, single-holds, span-holds, text-holds}
use Rattle.proof_rows.proofs.RowHolds.{turned-holds}
use Rattle.proof_rows.proofs.SpannedGroups.{lines-joined}
use Rattle.proof_rows.proofs.Text.Names.{closed-of}
use Rattle.proof_rows.proofs.TextProgress.{IsShut}
use Rattle.proof_leaf_laws.proofs.HeadingSetext.Line.{underline-alone}
use Rattle.proof_rows.proofs.Underlines.{under-holds}

-- Around the leaf of a line.
pub closed-rows : OfRows IsClosed
closed-rows = record {
  append = closed-append;
  fronts = closed-front;
  ending = closed-ending;
  blank_ending = λ p q. closed-each (pair n.BlankLineEnding p q) (refl, (refl, tt));
  white = λ p q. closed-each (pair n.SpaceOrTab p q) (refl, (refl, tt));
}

-- Groups.

single-closed : (options : ParseOptions) (bytes : List ℕ) (row : Row) → IsSingle options bytes row →
    IsClosed (row_events row)
single-closed = single-holds IsClosed closed-rows (λ l. (laws l).alone)

-- a text is a paragraph after definitions
text-closed : (options : ParseOptions) (bytes : List ℕ) (row : Row) (rows : List Row) →
    AreLines options bytes row rows → HasFront bytes row → IsClosed (unread_group options bytes (Lines row rows))
text-closed options bytes =
    text-holds IsClosed closed-rows closed-of options bytes
    (λ row rows are. closed-around n.Paragraph paragraph-block row.first (last_row row rows).end (unread_lines row rows)
    (each-linked IsUnset (λ p link. refl) (λ q. refl) prefixes-unset text_leaf.link row rows
    (lines-prefixed options bytes row rows are)))

-- with the line that turns it
underlined-closed : (options : ParseOptions) (bytes : List ℕ) (row : Row) (rows : List Row) (under : Row) →
    AreLines options bytes row rows → IsUnder options bytes (last_row row rows) under → HasFront bytes row →
    IsClosed (unread_group options bytes (Turned row rows under))
underlined-closed options bytes row rows under are is front =
    turned-holds IsClosed closed-rows options bytes row rows under is (text-closed options bytes row rows are front)
    (under-holds IsClosed underline-alone options bytes row rows under are is)

-- the lines of a leaf of several
span-closed : (options : ParseOptions) (bytes : List ℕ) (row : Row) (rows : List Row) →
    AreSpan options bytes row rows → Begins row → IsClosed (spanned_group options bytes (LeafLines row rows))
span-closed =
    span-holds IsClosed closed-rows (λ es h. closed-each es (each-as IsLined OpensNothing lined-opens es h))

-- and those of a table with its head
headed-closed : (options : ParseOptions) (bytes : List ℕ) (row next : Row) (rows : List Row) →
    IsHead options bytes row next → AreSpan options bytes next rows → HasFront bytes row →
    IsClosed (spanned_group options bytes (Headed row next rows))
headed-closed options bytes row next rows head are front =
    around-holds IsClosed closed-rows bytes row (last_row next rows) false
    (span_by (λ (r : Row). r.inside) (headed_row bytes row) (next ∷ rows)) front
    (table-alone bytes row next rows
    (headed-table options bytes row next rows (headed-is options bytes row next rows head are)))

pub groups-closed : (options : ParseOptions) (bytes : List ℕ) (gs : List Group) → AreGroups options bytes gs →
    IsClosed (spanned_groups options bytes gs)
groups-closed options bytes [] are = closed-each [] tt
groups-closed options bytes (Single row ∷ gs) are =
    closed-append (spanned_group options bytes (Single row)) (spanned_groups options bytes gs)
    (single-closed options bytes row are.0) (groups-closed options bytes gs are.1)
groups-closed options bytes (Lines row rows ∷ gs) are =
    closed-append (spanned_group options bytes (Lines row rows)) (spanned_groups options bytes gs)
    (text-closed options bytes row rows are.0 are.2) (groups-closed options bytes gs are.3)
groups-closed options bytes (Turned row rows under ∷ gs) are =
    closed-append (spanned_group options bytes (Turned row rows under)) (spanned_groups options bytes gs)
    (underlined-closed options bytes row rows under are.0 are.1 are.3) (groups-closed options bytes gs are.4)
groups-closed options bytes (Headed row next rows ∷ gs) are =
    closed-append (spanned_group options bytes (Headed row next rows)) (spanned_groups options bytes gs)
    (headed-closed options bytes row next rows are.0 are.1 are.3) (groups-closed options bytes gs are.4)
groups-closed options bytes (LeafLines row rows ∷ gs) are =
    closed-append (spanned_group options bytes (LeafLines row rows)) (spanned_groups options bytes gs)
    (span-closed options bytes row rows are.0 are.4) (groups-closed options bytes gs are.2)

pub leaves-alone : (options : ParseOptions) (bytes : List ℕ) (open_before : List Container) (still : HeldLeaf)
    (p : Point) (lines : List (List ℕ)) (rows : List Row) →
    IsShut still → AreRows options bytes open_before still p lines rows → EachNoContent rows →
    HoldNoBlock Nothing (lines_joined options (unread_groups options bytes (groups rows)))
leaves-alone options bytes open_before still p lines rows shut are quiet =
    subst (HoldNoBlock Nothing) (sym (lines-joined options bytes open_before still p lines rows shut are quiet))
    (closed-holds (spanned_groups options bytes (groups rows))
    (groups-closed options bytes (groups rows)
    (groups-are options bytes open_before still p lines rows shut are quiet)))
