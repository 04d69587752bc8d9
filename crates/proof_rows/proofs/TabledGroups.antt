-- Tables get their heads, bodies and cells after all other resolvers of leaves, and all else stays; and what all of
-- these make of a text.
use Rattle.std.proofs.Common.{◌≡◌, ℕ, Bool, List, [], ◌∷◌, ◌++◌, refl, ap, sym, ◌∙◌, append_assoc, subst}
use Rattle.md_engine.specs.declared.configuration.ParseOptions.{ParseOptions}
use Rattle.md_engine.specs.declared.event.Event.{Event}
use Rattle.md_engine.specs.declared.event.Name.TheVariants as n
use Rattle.md_engine.specs.declared.event.Point.{Point}
use Rattle.md_engine.specs.declared.tokenizer.held_leaf.HeldLeaf.{HeldLeaf}
use Rattle.md_meaning.specs.State.{Container}
use Rattle.md_leaves.specs.Turned.{turned}
use Rattle.md_tables.specs.Tabled.{tabled}
use Rattle.md_tables.proofs.TabledLines.{AreFree, AreUntabled, free-untabled, tabled-passes, untabled-append}
use Rattle.proof_frame.specs.EndingName.{ending_name}
use Rattle.md_registry.specs.Resolving.{lines_joined, resolved}
use Rattle.proof_frame.specs.Row.{Row, ending_of, last_row, span_by}
use Rattle.proof_leaf_laws.specs.Headed.{headed_row, headed_unread}
use Rattle.proof_rows.specs.BlockList.{tabled_group, tabled_groups}
use Rattle.proof_rows.specs.Rows.{Group, Headed, LeafLines, Lines, Single, Turned, groups, tail_events}
use Rattle.proof_rows.specs.Unread.{spanned_group, turned_groups, unread_groups}
use Rattle.proof_frame.proofs.FrontNames.{HasFront}
use Rattle.proof_frame.proofs.LinedFacts.{AreLined, lined-gaps}
use Rattle.proof_leaf_laws.proofs.GfmTable.TableUnread.{lined-free, table-apart}
use Rattle.proof_frame.proofs.SpannedFacts.{AreUnspanned}
use Rattle.proof_container_laws.proofs.GroupedBlocks.{no-table}
use Rattle.proof_rows.proofs.GroupLines.{AreGroups, AreSpan, Begins, IsHead, span-begins}
use Rattle.proof_rows.proofs.GroupsAre.{groups-are}
use Rattle.proof_rows.proofs.GroupsSet.{leaves-set}
use Rattle.proof_rows.proofs.HeadedTable.{IsHeaded, headed-is, headed-table}
use Rattle.proof_rows.proofs.JoinedLeaves.{lines-hold}
use Rattle.proof_rows.proofs.JoinedLemmas.{EachNoContent}
use Rattle.proof_rows.proofs.RowFacts.{AreRows}
use Rattle.proof_rows.proofs.SpanJoined.{front-unspanned, tail-unspanned}
use Rattle.proof_rows.proofs.SpannedGroups.{lines-joined}
use Rattle.proof_rows.proofs.TextProgress.{IsShut}
use Rattle.proof_rows.proofs.TurnedGroups.{headings-set}
use Rattle.proof_rows.proofs.UnspannedGroups.{single-unspanned, text-unspanned, turned-unspanned}

-- a table is a leaf of several lines, so none begins outside of those
pub unspanned-untabled : (es : List Event) → AreUnspanned es → AreUntabled es
unspanned-untabled [] h = tt
unspanned-untabled (e ∷ es) h = (no-table e.kind e.name h.0, unspanned-untabled es h.1)

-- nor in one that is no table
lines-free : (es : List Event) → AreLined es → AreFree es
lines-free [] h = tt
lines-free (e ∷ es) h = (lined-free e.name h.0, lines-free es h.1)

pub span-passes : (options : ParseOptions) (bytes : List ℕ) (row : Row) (rows : List Row) →
    AreSpan options bytes row rows → Begins row → AreUntabled (tabled_group options bytes (LeafLines row rows))
span-passes options bytes row rows are begins =
    let last : Row = last_row row rows in
    let joined : List Event = span_by (λ (r : Row). r.inside) row rows in
    untabled-append (row.front ++ joined) (tail_events (ending_of last.kind last) last)
    (untabled-append row.front joined
    (unspanned-untabled row.front
    (front-unspanned bytes row (span-begins options bytes row rows are).front))
    (lines-hold AreUntabled
    (lined-gaps AreUntabled (λ es h. free-untabled es (lines-free es h)) untabled-append (λ p q. (refl, (refl, tt))))
    options bytes row rows are begins))
    (unspanned-untabled (tail_events (ending_of last.kind last) last) (tail-unspanned last.kind last))

-- the lines of a table: between what is before its head, and what follows its last line
headed-tabled : (options : ParseOptions) (bytes : List ℕ) (row next : Row) (rows : List Row) (es : List Event) →
    IsHead options bytes row next → AreSpan options bytes next rows → HasFront bytes row →
    tabled (spanned_group options bytes (Headed row next rows) ++ es) ≡
    tabled_group options bytes (Headed row next rows) ++ tabled es
headed-tabled options bytes row next rows es head are front =
    let is : IsHeaded options bytes row next rows = headed-is options bytes row next rows head are in
    let last : Row = last_row next rows in
    let joined : List Event = span_by (λ (r : Row). r.inside) (headed_row bytes row) (next ∷ rows) in
    let table : List Event = headed_unread bytes row next rows in
    let tail : List Event = tail_events n.LineEnding last in
    let passes : AreUntabled row.front = unspanned-untabled row.front (front-unspanned bytes row front) in
    let ends : AreUntabled tail = unspanned-untabled tail
    (subst (λ (blank : Bool). AreUnspanned (tail_events (ending_name blank) last)) is.ends
    (tail-unspanned last.kind last)) in
    ap tabled (append_assoc (row.front ++ joined) tail es ∙ append_assoc row.front joined (tail ++ es))
    ∙ tabled-passes row.front (joined ++ (tail ++ es)) passes
    ∙ ap (λ (l : List Event). row.front ++ l)
    (table-apart bytes row next rows (tail ++ es) (headed-table options bytes row next rows is)
    ∙ ap (λ (l : List Event). table ++ l) (tabled-passes tail es ends))
    ∙ sym (append_assoc row.front table (tail ++ tabled es))
    ∙ sym (append_assoc (row.front ++ table) tail (tabled es))
    ∙ ap (λ (blank : Bool). (row.front ++ table ++ tail_events (ending_name blank) last) ++ tabled es) (sym is.ends)

groups-tabled : (options : ParseOptions) (bytes : List ℕ) (gs : List Group) → AreGroups options bytes gs →
    tabled (turned_groups options bytes gs) ≡ tabled_groups options bytes gs
groups-tabled options bytes [] are = refl
groups-tabled options bytes (Single row ∷ gs) are =
    tabled-passes (tabled_group options bytes (Single row)) (turned_groups options bytes gs)
    (unspanned-untabled (tabled_group options bytes (Single row))
    (single-unspanned options bytes row are.0))
    ∙ ap (λ (l : List Event). tabled_group options bytes (Single row) ++ l) (groups-tabled options bytes gs are.1)
groups-tabled options bytes (Lines row rows ∷ gs) are =
    tabled-passes (tabled_group options bytes (Lines row rows)) (turned_groups options bytes gs)
    (unspanned-untabled (tabled_group options bytes (Lines row rows))
    (text-unspanned options bytes row rows are.0 are.2))
    ∙ ap (λ (l : List Event). tabled_group options bytes (Lines row rows) ++ l) (groups-tabled options bytes gs are.3)
groups-tabled options bytes (Turned row rows under ∷ gs) are =
    tabled-passes (tabled_group options bytes (Turned row rows under)) (turned_groups options bytes gs)
    (unspanned-untabled (tabled_group options bytes (Turned row rows under))
    (turned-unspanned options bytes row rows under are.0 are.1 are.5 are.3))
    ∙ ap (λ (l : List Event). tabled_group options bytes (Turned row rows under) ++ l)
    (groups-tabled options bytes gs are.4)
groups-tabled options bytes (Headed row next rows ∷ gs) are =
    headed-tabled options bytes row next rows (turned_groups options bytes gs) are.0 are.1 are.3
    ∙ ap (λ (l : List Event). tabled_group options bytes (Headed row next rows) ++ l)
    (groups-tabled options bytes gs are.4)
groups-tabled options bytes (LeafLines row rows ∷ gs) are =
    tabled-passes (tabled_group options bytes (LeafLines row rows)) (turned_groups options bytes gs)
    (span-passes options bytes row rows are.0 are.4)
    ∙ ap (λ (l : List Event). tabled_group options bytes (LeafLines row rows) ++ l)
    (groups-tabled options bytes gs are.2)

-- So each table of a text is set, and all else stays.
pub tables-set : (options : ParseOptions) (bytes : List ℕ) (open_before : List Container) (still : HeldLeaf)
    (p : Point) (lines : List (List ℕ)) (rows : List Row) →
    IsShut still → AreRows options bytes open_before still p lines rows → EachNoContent rows →
    tabled (turned_groups options bytes (groups rows)) ≡ tabled_groups options bytes (groups rows)
tables-set options bytes open_before still p lines rows shut are quiet =
    groups-tabled options bytes (groups rows) (groups-are options bytes open_before still p lines rows shut are quiet)

-- The lines of leaves of several are joined, then the resolvers of leaves run, and setext headings and tables are set.
pub chain : (options : ParseOptions) (bytes : List ℕ) (open_before : List Container) (still : HeldLeaf) (p : Point)
    (lines : List (List ℕ)) (rows : List Row) →
    IsShut still → AreRows options bytes open_before still p lines rows → EachNoContent rows →
    tabled (turned (resolved (lines_joined options (unread_groups options bytes (groups rows))))) ≡
    tabled_groups options bytes (groups rows)
chain options bytes open_before still p lines rows shut are quiet =
    ap (λ (l : List Event). tabled (turned (resolved l)))
    (lines-joined options bytes open_before still p lines rows shut are quiet)
    ∙ ap (λ (l : List Event). tabled (turned l))
    (leaves-set options bytes open_before still p lines rows shut are quiet)
    ∙ ap tabled (headings-set options bytes open_before still p lines rows shut are quiet)
    ∙ tables-set options bytes open_before still p lines rows shut are quiet
