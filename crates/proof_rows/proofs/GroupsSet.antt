-- The resolvers of leaves set each leaf on one line, and all else stays, with the lines of leaves of several joined.
use Rattle.std.proofs.Common.{◌≡◌, ℕ, List, [], ◌∷◌, ◌++◌, refl, ap, sym, ◌∙◌, subst}
use Rattle.std.proofs.lemmas.Bool.{and_right}
use Rattle.md_engine.specs.declared.configuration.ParseOptions.{ParseOptions}
use Rattle.md_engine.specs.declared.event.Event.{Event}
use Rattle.md_engine.specs.declared.event.Name.TheVariants as n
use Rattle.md_engine.specs.declared.event.Point.{Point}
use Rattle.md_engine.specs.declared.tokenizer.held_leaf.HeldLeaf.{HeldLeaf}
use Rattle.md_content.specs.Paragraph.{text_link}
use Rattle.md_meaning.specs.State.{Container}
use Rattle.md_events.specs.Events.Nested.{is_enter}
use Rattle.md_registry.specs.Resolving.{resolved}
use Rattle.proof_frame.proofs.EventNames.{is_own}
use Rattle.proof_frame.specs.Row.{BlankRow, LeafRow, Row, RowKind, TextRow, ending_of, is_blank_by, last_row}
use Rattle.proof_frame.specs.TextLines.{text_leaf}
use Rattle.md_registry.specs.Registry.{leaf as line_leaf}
use Rattle.proof_rows.specs.BlockList.{tabled_row_by, unread_lines}
use Rattle.proof_rows.specs.Rows.{Group, Headed, LeafLines, Lines, Single, Turned, groups, leaf_events, leaf_unread}
use Rattle.proof_rows.specs.Rows.{row_events_by, tail_events}
use Rattle.proof_rows.specs.Unread.{set_groups, spanned_group, spanned_groups, unread_group}
use Rattle.proof_frame.proofs.AroundOutside.{around-outside}
use Rattle.proof_frame.proofs.EachEvent.{each-as}
use Rattle.proof_frame.proofs.FrontNames.{HasFront}
use Rattle.proof_frame.proofs.LinedFacts.{IsLined, lined-outside, prefix-lined}
use Rattle.proof_frame.proofs.OutsideFacts.{AreOutside, IsOutside}
use Rattle.proof_frame.proofs.PrefixNames.{prefixes-front}
use Rattle.proof_content_laws.proofs.Defined.Names.{outside-of}
use Rattle.proof_leaf_laws.proofs.GfmTable.Each.{of-outside}
use Rattle.md_registry.proofs.Registry.{laws, outside-passes}
use Rattle.proof_rows.proofs.GroupLemmas.{lines-prefixed}
use Rattle.proof_rows.proofs.GroupLines.{AreGroups, AreLines, AreSpan, Begins, IsHead, IsSingle, IsUnder}
use Rattle.proof_rows.proofs.GroupsAre.{groups-are}
use Rattle.proof_rows.proofs.JoinedLemmas.{EachNoContent}
use Rattle.proof_rows.proofs.KindLemmas.{kind-starts}
use Rattle.proof_rows.proofs.OutsideLemmas.{front-outside, leaf-set, outside-rows}
use Rattle.proof_rows.proofs.RowFacts.{AreRows}
use Rattle.proof_rows.proofs.RowHolds.{blank-holds, each-linked, front-holds, headed-holds, span-holds, tail-holds}
use Rattle.proof_rows.proofs.RowHolds.{text-holds, turned-holds}
use Rattle.proof_rows.proofs.Text.Names.{of-each}
use Rattle.proof_rows.proofs.TextProgress.{IsShut}
use Rattle.proof_leaf_laws.proofs.HeadingSetext.Line.{underline-outside}
use Rattle.proof_rows.proofs.Underlines.{under-holds}

-- a line that is no text is set
single-set : (options : ParseOptions) (bytes : List ℕ) (row : Row) (es : List Event) → IsSingle options bytes row →
    (kind : RowKind) → row.kind ≡ kind →
    resolved (row_events_by kind row ++ es) ≡ tabled_row_by bytes kind row ++ resolved es
single-set options bytes row es is kind e =
    leaf-set row.front (leaf_events kind row) (leaf_unread bytes kind row) (tail_events (ending_of kind row) row) es
    (front-holds AreOutside outside-rows bytes row is.front)
    (tail-holds AreOutside outside-rows (is_blank_by kind row) row) (leaf kind e)
  where
    leaf : (kind : RowKind) → row.kind ≡ kind → (es : List Event) →
        resolved (leaf_events kind row ++ es) ≡ leaf_unread bytes kind row ++ resolved es
    leaf BlankRow e es =
        outside-passes row.inside es (subst AreOutside (sym (is.is.blank e))
        (blank-holds AreOutside outside-rows is.line row.first))
    leaf (LeafRow l) e es =
        ap (λ (added : List Event). resolved (added ++ es))
        (is.is.leaf_is l e ∙ ap (λ (line : List ℕ). (line_leaf l).added options row.on line row.first) is.is.line_is)
        ∙ (laws l).set (is.ends l e) options row.on is.is.rest row.first es
        (kind-starts options row.on is.is.rest l (sym is.is.kind ∙ e))
        ∙ ap (λ (line : List ℕ). (line_leaf l).unread line row.first ++ resolved es)
        (sym is.is.line_is ∙ sym is.is.text)
    leaf TextRow e es = absurd (is.other e)

-- The lines of a leaf of several, joined, are left as they are,
pub span-outside : (options : ParseOptions) (bytes : List ℕ) (row : Row) (rows : List Row) →
    AreSpan options bytes row rows → Begins row → AreOutside (spanned_group options bytes (LeafLines row rows))
span-outside options bytes row rows are begins =
    span-holds AreOutside outside-rows (λ es h. each-as IsLined IsOutside lined-outside es h) options bytes row rows are
    begins

-- and so are those of a table with its head.
pub headed-outside : (options : ParseOptions) (bytes : List ℕ) (row next : Row) (rows : List Row) →
    IsHead options bytes row next → AreSpan options bytes next rows → HasFront bytes row →
    AreOutside (spanned_group options bytes (Headed row next rows))
headed-outside options bytes row next rows head are front =
    headed-holds IsOutside outside-rows of-outside (λ q. refl) (λ e is. lined-outside e (prefix-lined e is))
    (λ e. and_right (is_enter e.kind) (is_own n.SpaceOrTab) refl) options bytes row next rows head are front

-- Texts are left as they are too: no name of a definition is of a resolver,
pub text-outside : (options : ParseOptions) (bytes : List ℕ) (row : Row) (rows : List Row) →
    AreLines options bytes row rows → HasFront bytes row → AreOutside (unread_group options bytes (Lines row rows))
text-outside options bytes =
    text-holds AreOutside outside-rows (of-each IsOutside outside-of) options bytes
    (λ row rows are. around-outside text_leaf.name row.first (last_row row rows).end (unread_lines row rows) refl
    (each-linked IsOutside (λ p link. refl) (λ q. refl) (λ es h. front-outside es (prefixes-front es h)) text_link row
    rows
    (lines-prefixed options bytes row rows are)))

-- nor is that of an underline
pub underlined-outside : (options : ParseOptions) (bytes : List ℕ) (row : Row) (rows : List Row) (under : Row) →
    AreLines options bytes row rows → IsUnder options bytes (last_row row rows) under → HasFront bytes row →
    AreOutside (unread_group options bytes (Turned row rows under))
underlined-outside options bytes row rows under are is front =
    turned-holds AreOutside outside-rows options bytes row rows under is (text-outside options bytes row rows are front)
    (under-holds AreOutside underline-outside options bytes row rows under are is)

pub groups-set : (options : ParseOptions) (bytes : List ℕ) (gs : List Group) → AreGroups options bytes gs →
    resolved (spanned_groups options bytes gs) ≡ set_groups options bytes gs
groups-set options bytes [] are = refl
groups-set options bytes (Single row ∷ gs) are =
    single-set options bytes row (spanned_groups options bytes gs) are.0 row.kind refl
    ∙ ap (λ (l : List Event). tabled_row_by bytes row.kind row ++ l) (groups-set options bytes gs are.1)
groups-set options bytes (Lines row rows ∷ gs) are =
    outside-passes (spanned_group options bytes (Lines row rows)) (spanned_groups options bytes gs)
    (text-outside options bytes row rows are.0 are.2)
    ∙ ap (λ (l : List Event). spanned_group options bytes (Lines row rows) ++ l) (groups-set options bytes gs are.3)
groups-set options bytes (Turned row rows under ∷ gs) are =
    outside-passes (spanned_group options bytes (Turned row rows under)) (spanned_groups options bytes gs)
    (underlined-outside options bytes row rows under are.0 are.1 are.3)
    ∙ ap (λ (l : List Event). spanned_group options bytes (Turned row rows under) ++ l)
    (groups-set options bytes gs are.4)
groups-set options bytes (Headed row next rows ∷ gs) are =
    outside-passes (spanned_group options bytes (Headed row next rows)) (spanned_groups options bytes gs)
    (headed-outside options bytes row next rows are.0 are.1 are.3)
    ∙ ap (λ (l : List Event). spanned_group options bytes (Headed row next rows) ++ l)
    (groups-set options bytes gs are.4)
groups-set options bytes (LeafLines row rows ∷ gs) are =
    outside-passes (spanned_group options bytes (LeafLines row rows)) (spanned_groups options bytes gs)
    (span-outside options bytes row rows are.0 are.4)
    ∙ ap (λ (l : List Event). spanned_group options bytes (LeafLines row rows) ++ l) (groups-set options bytes gs are.2)

-- Each leaf on one line is set, and all else stays.
pub leaves-set : (options : ParseOptions) (bytes : List ℕ) (open_before : List Container) (still : HeldLeaf) (p : Point)
    (lines : List (List ℕ)) (rows : List Row) →
    IsShut still → AreRows options bytes open_before still p lines rows → EachNoContent rows →
    resolved (spanned_groups options bytes (groups rows)) ≡ set_groups options bytes (groups rows)
leaves-set options bytes open_before still p lines rows shut are quiet =
    groups-set options bytes (groups rows) (groups-are options bytes open_before still p lines rows shut are quiet)
