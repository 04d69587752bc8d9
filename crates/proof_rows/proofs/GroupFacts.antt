-- What is known of the leaf of a group, be it one line, the lines of a text, or those of a leaf of several.
use Rattle.std.proofs.Common.{◌≢◌, ℕ, List, ◌∷◌, Bool, true, false}
use Rattle.proof_rows.proofs.GroupLines.{AreSpan, Begins, IsUnder, following-first, line-further, line-of, span-begins}
use Rattle.proof_rows.proofs.GroupLines.{AreGroups, AreLines, IsHead, IsLeft}
use Rattle.md_registry.proofs.SpanLeaves.{span-laws}
use Rattle.std.specs.Prelude.{not}
use Rattle.md_engine.specs.declared.configuration.ParseOptions.{ParseOptions}
use Rattle.md_meaning.specs.Tree.{Block}
use Rattle.proof_frame.specs.Row.{last_row, Row, TextRow, is_blank_row}
use Rattle.proof_rows.specs.Rows.{Headed, LeafLines, Turned, Group, Lines, Single, final_row, first_row}
use Rattle.proof_rows.specs.Rows.{group_done, leaf_done, leaf_unread}
use Rattle.proof_rows.specs.BlockList.{group_unread}
use Rattle.proof_frame.proofs.FrontNames.{HasFront}
use Rattle.proof_rows.proofs.HeadedTable.{headed-facts, headed-is}
use Rattle.proof_frame.proofs.LeafFacts.{EventFacts}
use Rattle.proof_rows.proofs.RowFacts.{IsRow}
use Rattle.proof_rows.proofs.RowLeaf.{EndsOnLine, row-facts}
use Rattle.proof_rows.proofs.Text.Valid.{text-valid}
use Rattle.proof_rows.proofs.Turned.Valid as turned

-- it is from the begin of its first line to the end of its last, whatever it is read as
abbrev pub IsGroupLeaf : ParseOptions → List ℕ → Group → Type 0
IsGroupLeaf options bytes group =
    (full : Bool) ×
    EventFacts bytes full (first_row group).first (final_row group).end (group_unread options bytes group)
    (group_done options bytes group)

pub single-valid : (options : ParseOptions) (bytes line : List ℕ) (row : Row) → IsRow options bytes line row →
    row.kind ≢ TextRow → EndsOnLine row.kind →
    EventFacts bytes (not (is_blank_row row)) row.first row.end (leaf_unread bytes row.kind row)
    (leaf_done bytes row.kind row)
single-valid options bytes line row is other ends =
    (row-facts options bytes line row is other ends).are_valid

pub single-leaf : (options : ParseOptions) (bytes line : List ℕ) (row : Row) → IsRow options bytes line row →
    row.kind ≢ TextRow → EndsOnLine row.kind → IsGroupLeaf options bytes (Single row)
single-leaf options bytes line row is other ends =
    (not (is_blank_row row), single-valid options bytes line row is other ends)

pub text-leaf : (options : ParseOptions) (bytes : List ℕ) (row : Row) (rows : List Row) →
    AreLines options bytes row rows → IsGroupLeaf options bytes (Lines row rows)
text-leaf options bytes row rows h = (true, text-valid options bytes row rows h)

pub turned-valid : (options : ParseOptions) (bytes : List ℕ) (row : Row) (rows : List Row) (under : Row) →
    (are : AreLines options bytes row rows) → IsUnder options bytes (last_row row rows) under →
    IsLeft options bytes row rows are →
    EventFacts bytes true row.first under.end (group_unread options bytes (Turned row rows under))
    (group_done options bytes (Turned row rows under))
turned-valid options bytes row rows under h is left = turned.turned-valid options bytes row rows under h is left

pub turned-leaf : (options : ParseOptions) (bytes : List ℕ) (row : Row) (rows : List Row) (under : Row) →
    (are : AreLines options bytes row rows) → IsUnder options bytes (last_row row rows) under →
    IsLeft options bytes row rows are → IsGroupLeaf options bytes (Turned row rows under)
turned-leaf options bytes row rows under h is left = (true, turned-valid options bytes row rows under h is left)

-- the block that the lines of a leaf of several show, and what is known of their events
abbrev pub span-block : (options : ParseOptions) (bytes : List ℕ) (row : Row) (rows : List Row) →
    AreSpan options bytes row rows → Block
span-block options bytes row rows are =
    let is = span-begins options bytes row rows are in
    (span-laws is.name is.open_leaf).block options bytes row rows (line-of options bytes row is)
    (following-first options bytes row rows are)

pub span-valid : (options : ParseOptions) (bytes : List ℕ) (row : Row) (rows : List Row) →
    AreSpan options bytes row rows → Begins row →
    EventFacts bytes (not (last_row row rows).empty) row.first (last_row row rows).end
    (group_unread options bytes (LeafLines row rows)) (group_done options bytes (LeafLines row rows))
span-valid options bytes row rows are begins =
    let is = span-begins options bytes row rows are in
    ((span-laws is.name is.open_leaf).facts options bytes row rows (line-of options bytes row is)
    (line-further options bytes row is false begins) (following-first options bytes row rows are)).are_valid

pub span-group : (options : ParseOptions) (bytes : List ℕ) (row : Row) (rows : List Row) →
    AreSpan options bytes row rows → Begins row → IsGroupLeaf options bytes (LeafLines row rows)
span-group options bytes row rows are begins =
    (not (last_row row rows).empty, span-valid options bytes row rows are begins)

-- the lines of a table, from its head on
pub headed-valid : (options : ParseOptions) (bytes : List ℕ) (row next : Row) (rows : List Row) →
    IsHead options bytes row next → AreSpan options bytes next rows →
    EventFacts bytes true row.first (last_row next rows).end (group_unread options bytes (Headed row next rows))
    (group_done options bytes (Headed row next rows))
headed-valid options bytes row next rows head are =
    (headed-facts options bytes row next rows (headed-is options bytes row next rows head are)).are_valid

pub headed-leaf : (options : ParseOptions) (bytes : List ℕ) (row next : Row) (rows : List Row) →
    IsHead options bytes row next → AreSpan options bytes next rows → IsGroupLeaf options bytes (Headed row next rows)
headed-leaf options bytes row next rows head are = (true, headed-valid options bytes row next rows head are)

-- that of the first of groups, what is before it, and the others
pub group-leaf : (options : ParseOptions) (bytes : List ℕ) (group : Group) (gs : List Group) →
    AreGroups options bytes (group ∷ gs) → IsGroupLeaf options bytes group
group-leaf options bytes (Single row) gs are =
    single-leaf options bytes are.0.line row are.0.is are.0.other are.0.ends
group-leaf options bytes (Lines row rows) gs are = text-leaf options bytes row rows are.0
group-leaf options bytes (Turned row rows under) gs are =
    turned-leaf options bytes row rows under are.0 are.1 are.5
group-leaf options bytes (Headed row next rows) gs are = headed-leaf options bytes row next rows are.0 are.1
group-leaf options bytes (LeafLines row rows) gs are = span-group options bytes row rows are.0 are.4

pub group-front : (options : ParseOptions) (bytes : List ℕ) (group : Group) (gs : List Group) →
    AreGroups options bytes (group ∷ gs) → HasFront bytes (first_row group)
group-front options bytes (Single row) gs are = are.0.front
group-front options bytes (Lines row rows) gs are = are.2
group-front options bytes (Turned row rows under) gs are = are.3
group-front options bytes (Headed row next rows) gs are = are.3
group-front options bytes (LeafLines row rows) gs are = (span-begins options bytes row rows are.0).front

pub more-groups : (options : ParseOptions) (bytes : List ℕ) (group : Group) (gs : List Group) →
    AreGroups options bytes (group ∷ gs) → AreGroups options bytes gs
more-groups options bytes (Single row) gs are = are.1
more-groups options bytes (Lines row rows) gs are = are.3
more-groups options bytes (Turned row rows under) gs are = are.4
more-groups options bytes (Headed row next rows) gs are = are.4
more-groups options bytes (LeafLines row rows) gs are = are.2
