-- The lines of each leaf of several are joined, and all else stays.
use Rattle.std.proofs.Common.{◌≡◌, ℕ, Bool, true, false, cond, List, [], ◌∷◌, ◌++◌, refl, ap, sym, ◌∙◌}
use Rattle.md_engine.specs.declared.configuration.ParseOptions.{ParseOptions}
use Rattle.md_engine.specs.declared.event.Event.{Event}
use Rattle.md_engine.specs.declared.event.Name.TheVariants as n
use Rattle.md_engine.specs.declared.event.Point.{Point}
use Rattle.md_engine.specs.declared.tokenizer.held_leaf.HeldLeaf.{HeldLeaf}
use Rattle.md_meaning.specs.State.{Container}
use Rattle.md_leaves.specs.Spanned.{is_continued, spanned}
use Rattle.md_leaves.proofs.SpannedLines.{IsBegin}
use Rattle.md_registry.specs.Resolving.{lines_joined, joins_lines}
use Rattle.proof_frame.specs.EndingName.{ending_name}
use Rattle.proof_frame.specs.LeafName.{GfmTable}
use Rattle.proof_frame.specs.Row.{Row, RowKind, TextRow, ending_of, last_row, row_line, span_by}
use Rattle.proof_leaf_laws.specs.Headed.{headed_row}
use Rattle.proof_rows.specs.Rows.{Group, Headed, LeafLines, Lines, Single, Turned, groups, rows_events, tail_events}
use Rattle.proof_rows.specs.BlockList.{tabled_group}
use Rattle.proof_rows.specs.Unread.{headed_lines, spanned_group, spanned_groups, unread_group, unread_groups}
use Rattle.proof_frame.proofs.FrontNames.{HasFront}
use Rattle.proof_frame.proofs.SpanLaws.{IsSpanned}
use Rattle.proof_frame.proofs.SpannedFacts.{AreUnspanned, unspanned-lines}
use Rattle.proof_leaf_laws.proofs.GfmTable.Head.{head-spanned}
use Rattle.md_registry.proofs.SpanLeaves.{lines-join, span-laws}
use Rattle.proof_rows.proofs.GroupLines.{AreGroups, AreSpan, Begins, IsHead, IsSpanLine, span-begins}
use Rattle.proof_rows.proofs.GroupsAre.{groups-are}
use Rattle.proof_rows.proofs.HeadedTable.{IsHeaded, headed-is, headed-joins}
use Rattle.proof_rows.proofs.JoinedLeaves.{AreOfLeaf, span-leaf}
use Rattle.proof_rows.proofs.JoinedLemmas.{EachNoContent}
use Rattle.proof_rows.proofs.RowFacts.{AreRows}
use Rattle.proof_rows.proofs.SpanJoined.{apart, begun-ahead, begun-joined, ending_at, front-unspanned, its_events}
use Rattle.proof_rows.proofs.SpanJoined.{passed, plain-ahead, row-apart, span-together}
use Rattle.proof_rows.proofs.TextProgress.{IsShut}
use Rattle.proof_rows.proofs.UnspannedGroups.{row-unspanned, text-unspanned, underlined-unspanned}

-- The lines of a leaf.

-- the first of them, with what follows it
span-apart : (options : ParseOptions) (bytes : List ℕ) (row : Row) (rows : List Row) (rest : List Event) →
    AreSpan options bytes row rows →
    rows_events (row ∷ rows) ++ rest ≡
    row.front ++ (row.inside ++ (tail_events (ending_at row) row ++ (rows_events rows ++ rest)))
span-apart options bytes row rows rest are =
    let is : IsSpanLine options bytes row = span-begins options bytes row rows are in
    row-apart row is.name (rows_events rows) rest is.kind

span-front : (options : ParseOptions) (bytes : List ℕ) (row : Row) (rows : List Row) → AreSpan options bytes row rows →
    AreUnspanned row.front
span-front options bytes row rows are =
    front-unspanned bytes row (span-begins options bytes row rows are).front

span-first : (options : ParseOptions) (bytes : List ℕ) (row : Row) (rows : List Row) → AreSpan options bytes row rows →
    Begins row → IsSpanned AreUnspanned IsBegin row.inside
span-first options bytes row rows are begins =
    let of_leaf : AreOfLeaf options bytes row rows = span-leaf options bytes row rows are begins in
    (span-laws of_leaf.name of_leaf.open_leaf).first_spanned options bytes row of_leaf.is of_leaf.first

span-joined : (options : ParseOptions) (bytes : List ℕ) (row : Row) (rows : List Row) (rest : List Event) →
    AreSpan options bytes row rows → Begins row → is_continued rest ≡ false →
    spanned (rows_events (row ∷ rows) ++ rest) ≡ tabled_group options bytes (LeafLines row rows) ++ spanned rest
span-joined options bytes row rows rest are begins ahead =
    let of_leaf : AreOfLeaf options bytes row rows = span-leaf options bytes row rows are begins in
    ap spanned (span-apart options bytes row rows rest are)
    ∙ begun-joined options bytes of_leaf.name row rows rest of_leaf.open_leaf (span-together options bytes row rows are)
    of_leaf.following (span-front options bytes row rows are) (span-first options bytes row rows are begins) ahead

-- A line of text that is a head, and the lines of its table.

-- the head, with what follows it
headed-apart : (options : ParseOptions) (bytes : List ℕ) (row next : Row) (rows : List Row) (rest : List Event) →
    row.kind ≡ TextRow →
    headed_lines bytes row next rows ++ rest ≡
    row.front
    ++ ((headed_row bytes row).inside
    ++ (tail_events (ending_at (headed_row bytes row)) (headed_row bytes row) ++ (rows_events (next ∷ rows) ++ rest)))
headed-apart options bytes row next rows rest text =
    let head : Row = headed_row bytes row in
    apart row.front head.inside (tail_events n.LineEnding row) (rows_events (next ∷ rows)) rest
    ∙ ap
    (λ (kind : RowKind).
    row.front ++ (head.inside ++ (tail_events (ending_of kind head) head ++ (rows_events (next ∷ rows) ++ rest))))
    (sym text)

headed-joined : (options : ParseOptions) (bytes : List ℕ) (row next : Row) (rows : List Row) (rest : List Event) →
    IsHead options bytes row next → AreSpan options bytes next rows → HasFront bytes row → is_continued rest ≡ false →
    spanned (headed_lines bytes row next rows ++ rest) ≡
    spanned_group options bytes (Headed row next rows) ++ spanned rest
headed-joined options bytes row next rows rest head are front ahead =
    let is : IsHeaded options bytes row next rows = headed-is options bytes row next rows head are in
    let below : IsSpanLine options bytes next = span-begins options bytes next rows are in
    let joined : List Event = row.front ++ span_by its_events (headed_row bytes row) (next ∷ rows) in
    let last : Row = last_row next rows in
    ap spanned (headed-apart options bytes row next rows rest head.text)
    ∙ begun-joined options bytes GfmTable (headed_row bytes row) (next ∷ rows) rest refl
    (head.closed_after, below.name, below.kind, span-together options bytes next rows are) is.are
    (front-unspanned bytes row front) (head-spanned (row_line bytes row) row.first) ahead
    ∙ ap (λ (blank : Bool). (joined ++ tail_events (ending_name blank) last) ++ spanned rest) is.ends

-- Groups.

-- no group begins with a further line
groups-ahead : (options : ParseOptions) (bytes : List ℕ) (gs : List Group) → AreGroups options bytes gs →
    is_continued (unread_groups options bytes gs) ≡ false
groups-ahead options bytes [] are = refl
groups-ahead options bytes (Single row ∷ gs) are =
    plain-ahead (unread_group options bytes (Single row)) (unread_groups options bytes gs)
    (unspanned-lines (unread_group options bytes (Single row)) (row-unspanned options bytes row are.0))
    (groups-ahead options bytes gs are.1)
groups-ahead options bytes (Lines row rows ∷ gs) are =
    plain-ahead (unread_group options bytes (Lines row rows)) (unread_groups options bytes gs)
    (unspanned-lines (unread_group options bytes (Lines row rows))
    (text-unspanned options bytes row rows are.0 are.2))
    (groups-ahead options bytes gs are.3)
groups-ahead options bytes (Turned row rows under ∷ gs) are =
    plain-ahead (unread_group options bytes (Turned row rows under)) (unread_groups options bytes gs)
    (unspanned-lines (unread_group options bytes (Turned row rows under))
    (underlined-unspanned options bytes row rows under are.0 are.1 are.3))
    (groups-ahead options bytes gs are.4)
groups-ahead options bytes (Headed row next rows ∷ gs) are =
    let head : Row = headed_row bytes row in
    ap is_continued (headed-apart options bytes row next rows (unread_groups options bytes gs) are.0.text)
    ∙ begun-ahead row.front head.inside
    (tail_events (ending_at head) head ++ (rows_events (next ∷ rows) ++ unread_groups options bytes gs))
    (front-unspanned bytes row are.3) (head-spanned (row_line bytes row) row.first)
groups-ahead options bytes (LeafLines row rows ∷ gs) are =
    ap is_continued (span-apart options bytes row rows (unread_groups options bytes gs) are.0)
    ∙ begun-ahead row.front row.inside
    (tail_events (ending_at row) row ++ (rows_events rows ++ unread_groups options bytes gs))
    (span-front options bytes row rows are.0) (span-first options bytes row rows are.0 are.4)

-- so each leaf of several lines is joined by itself
groups-joined : (options : ParseOptions) (bytes : List ℕ) (gs : List Group) → AreGroups options bytes gs →
    spanned (unread_groups options bytes gs) ≡ spanned_groups options bytes gs
groups-joined options bytes [] are = refl
groups-joined options bytes (Single row ∷ gs) are =
    passed (unread_group options bytes (Single row)) (unread_groups options bytes gs)
    (row-unspanned options bytes row are.0)
    ∙ ap (λ (l : List Event). unread_group options bytes (Single row) ++ l) (groups-joined options bytes gs are.1)
groups-joined options bytes (Lines row rows ∷ gs) are =
    passed (unread_group options bytes (Lines row rows)) (unread_groups options bytes gs)
    (text-unspanned options bytes row rows are.0 are.2)
    ∙ ap (λ (l : List Event). unread_group options bytes (Lines row rows) ++ l) (groups-joined options bytes gs are.3)
groups-joined options bytes (Turned row rows under ∷ gs) are =
    passed (unread_group options bytes (Turned row rows under)) (unread_groups options bytes gs)
    (underlined-unspanned options bytes row rows under are.0 are.1 are.3)
    ∙ ap (λ (l : List Event). unread_group options bytes (Turned row rows under) ++ l)
    (groups-joined options bytes gs are.4)
groups-joined options bytes (Headed row next rows ∷ gs) are =
    headed-joined options bytes row next rows (unread_groups options bytes gs) are.0 are.1 are.3
    (groups-ahead options bytes gs are.4)
    ∙ ap (λ (l : List Event). spanned_group options bytes (Headed row next rows) ++ l)
    (groups-joined options bytes gs are.4)
groups-joined options bytes (LeafLines row rows ∷ gs) are =
    span-joined options bytes row rows (unread_groups options bytes gs) are.0 are.4
    (groups-ahead options bytes gs are.2)
    ∙ ap (λ (l : List Event). tabled_group options bytes (LeafLines row rows) ++ l)
    (groups-joined options bytes gs are.2)

-- where none is read there is nothing to join
groups-apart : (options : ParseOptions) (bytes : List ℕ) (gs : List Group) → joins_lines options ≡ false →
    AreGroups options bytes gs → unread_groups options bytes gs ≡ spanned_groups options bytes gs
groups-apart options bytes [] none are = refl
groups-apart options bytes (Single row ∷ gs) none are =
    ap (λ (l : List Event). unread_group options bytes (Single row) ++ l) (groups-apart options bytes gs none are.1)
groups-apart options bytes (Lines row rows ∷ gs) none are =
    ap (λ (l : List Event). unread_group options bytes (Lines row rows) ++ l) (groups-apart options bytes gs none are.3)
groups-apart options bytes (Turned row rows under ∷ gs) none are =
    ap (λ (l : List Event). unread_group options bytes (Turned row rows under) ++ l)
    (groups-apart options bytes gs none are.4)
groups-apart options bytes (Headed row next rows ∷ gs) none are =
    let joins = headed-joins options bytes row next rows (headed-is options bytes row next rows are.0 are.1) in
    let bad : true ≡ false = sym joins ∙ none in
    cc
groups-apart options bytes (LeafLines row rows ∷ gs) none are =
    let of_leaf : AreOfLeaf options bytes row rows = span-leaf options bytes row rows are.0 are.4 in
    let joins =
    lines-join of_leaf.name of_leaf.open_leaf options row.on of_leaf.is.rest of_leaf.is.starts of_leaf.first in
    let bad : true ≡ false = sym joins ∙ none in
    cc

-- The lines of each leaf of several are joined, where one may be on.
pub lines-joined : (options : ParseOptions) (bytes : List ℕ) (open_before : List Container) (still : HeldLeaf)
    (p : Point) (lines : List (List ℕ)) (rows : List Row) →
    IsShut still → AreRows options bytes open_before still p lines rows → EachNoContent rows →
    lines_joined options (unread_groups options bytes (groups rows)) ≡ spanned_groups options bytes (groups rows)
lines-joined options bytes open_before still p lines rows shut are quiet = go (joins_lines options) refl
  where
    gs : List Group
    gs = groups rows

    laid : AreGroups options bytes gs
    laid = groups-are options bytes open_before still p lines rows shut are quiet

    go : (x : Bool) → joins_lines options ≡ x →
        cond x (spanned (unread_groups options bytes gs)) (unread_groups options bytes gs) ≡
        spanned_groups options bytes gs
    go true e = groups-joined options bytes gs laid
    go false e = groups-apart options bytes gs e laid
