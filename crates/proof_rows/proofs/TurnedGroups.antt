-- Setext headings are set: the lines of each text that an underline turns are one heading with it, and all else stays.
use Rattle.std.proofs.Common.{◌≡◌, ℕ, Bool, true, false, cond, ◌&&◌, List, [], ◌∷◌, ◌++◌, refl, ap, sym, ◌∙◌, subst}
use Rattle.std.proofs.Common.{ap₂, append_assoc}
use Rattle.std.specs.Prelude.{Option, Some, None}
use Rattle.md_engine.specs.declared.configuration.ParseOptions.{ParseOptions}
use Rattle.md_engine.specs.declared.event.Event.{Event}
use Rattle.md_engine.specs.declared.event.Link.{Link}
use Rattle.md_engine.specs.declared.event.Name.TheVariants as n
use Rattle.md_engine.specs.declared.event.Point.{Point}
use Rattle.md_engine.specs.declared.tokenizer.held_leaf.HeldLeaf.{HeldLeaf}
use Rattle.md_meaning.specs.State.{Container}
use Rattle.md_leaves.specs.Turned.{has_underline, is_underline, turned, underline_after}
use Rattle.md_leaves.proofs.TurnedLemmas.{Unlined, no-ending, passes-parts, turned-passes, turned-text}
use Rattle.md_leaves.proofs.TurnedLemmas.{turned-underlined}
use Rattle.md_leaves.proofs.TurnedLemmas as turns
use Rattle.md_link_definitions.specs.DefinitionRule.{DefinitionParts}
use Rattle.md_events.specs.Events.Nested.{around, exit, is_enter, pair}
use Rattle.md_events.specs.Events.Places.{past_text, same_place}
use Rattle.md_events.specs.Events.Prefix.{is_prefix}
use Rattle.proof_frame.specs.Change.{ends_of}
use Rattle.proof_frame.specs.ContainerNames.{container_name}
use Rattle.proof_frame.specs.EndingName.{ending_name}
use Rattle.proof_frame.specs.LeafName.{LeafName}
use Rattle.proof_frame.specs.Row.{Row, RowKind, ending_events, ending_of, is_blank_by, last_row}
use Rattle.proof_content_laws.specs.Defined.{defined_unread}
use Rattle.proof_frame.specs.TextLines.{text_leaf}
use Rattle.md_registry.specs.Registry.{turn_leaf, leaf}
use Rattle.proof_frame.specs.UnreadText.{linked_lines}
use Rattle.proof_rows.specs.BlockList.{heading_unread, lines_unread, tabled_group, tabled_row_by, text_unread}
use Rattle.proof_rows.specs.BlockList.{turned_unread, unread_lines}
use Rattle.proof_rows.specs.Rows.{Group, Headed, LeafLines, Lines, Single, Turned, groups, leaf_events, row_events}
use Rattle.proof_rows.specs.Rows.{tail_events, text_done, turned_done}
use Rattle.proof_rows.specs.Unread.{set_groups, spanned_group, turned_groups, unread_group}
use Rattle.proof_frame.proofs.ContainerNames.{container-facts}
use Rattle.proof_frame.proofs.EachEvent.{each-append, each-as}
use Rattle.proof_frame.proofs.FrontNames.{HasFront, ends-first}
use Rattle.proof_frame.proofs.LeafLines.Cuts.{ending-is}
use Rattle.proof_frame.proofs.LinedFacts.{IsLined, lined-unturned, prefix-lined}
use Rattle.proof_frame.proofs.PrefixNames.{ArePrefixes, prefixes-front}
use Rattle.proof_frame.proofs.SubstitutedLemmas.{EachPrefixed}
use Rattle.proof_frame.proofs.UnturnedFacts.{AreUnturned, IsUnturned, fronts-unturned}
use Rattle.proof_leaf_laws.proofs.HeadingSetext.Line.{underline-unturned, underline_parts}
use Rattle.proof_content_laws.proofs.Defined.Form.{Form, form_unread, inside_by, strand_unread, string_unread}
use Rattle.proof_content_laws.proofs.Defined.Is.{IsDefined}
use Rattle.proof_leaf_laws.proofs.GfmTable.Each.{of-unturned}
use Rattle.md_registry.proofs.Registry.{laws}
use Rattle.proof_rows.proofs.GroupLemmas.{lines-prefixed, under-prefixed}
use Rattle.proof_rows.proofs.GroupLines.{AreGroups, AreLines, AreSpan, Begins, EndsBeforeGroups, IsHead, IsLeft}
use Rattle.proof_rows.proofs.GroupLines.{IsSingle, IsUnder}
use Rattle.proof_rows.proofs.GroupsAre.{groups-are}
use Rattle.proof_rows.proofs.JoinedLemmas.{EachNoContent}
use Rattle.proof_rows.proofs.RowFacts.{AreRows}
use Rattle.proof_rows.proofs.RowHolds.{OfRows, each-linked, front-holds, headed-holds, set-holds, span-holds}
use Rattle.proof_rows.proofs.RowHolds.{tail-holds}
use Rattle.proof_rows.proofs.Text.Cut.{IsCutText, between}
use Rattle.proof_rows.proofs.Text.Cut.IsCutText.{Defines, Follows, Remains}
use Rattle.proof_rows.proofs.Text.Cuts.{cut-is}
use Rattle.proof_rows.proofs.Text.Names.{between-of, defined-of, unturned-of}
use Rattle.proof_rows.proofs.TextProgress.{IsShut}
use Rattle.proof_rows.proofs.Turned.Cut.{IsCutHeading, heading-cut, left-remains, IsCutHeading as cut_heading}
use Rattle.proof_rows.proofs.Turned.Under.{under-is}
use Rattle.proof_rows.proofs.ContentCut.{last-split}
use Rattle.proof_rows.proofs.SpanJoined.{apart}

-- Events that pass.

each-unturned : (es : List Event) → AreUnturned es → turns.AreUnturned es
each-unturned [] h = tt
each-unturned (e ∷ es) h = (h.0, each-unturned es h.1)

-- they are given as they are
passed : (xs ys : List Event) → AreUnturned xs → turned (xs ++ ys) ≡ xs ++ turned ys
passed xs ys h = turned-passes false xs ys (each-unturned xs h)

-- and no underline begins among them
unlined-passed : (xs ys : List Event) → AreUnturned xs → Unlined ys → Unlined (xs ++ ys)
unlined-passed [] ys h k = k
unlined-passed (e ∷ xs) ys h k = go (is_prefix e.name) (is_enter e.kind) (unlined-passed xs ys h.1 k)
  where
    go : (x y : Bool) → underline_after (xs ++ ys) ≡ false →
        cond x (underline_after (xs ++ ys)) (y && is_underline e.name) ≡ false
    go true y more = more
    go false true more = (passes-parts e h.0).1
    go false false more = refl

pub prefixes-are : (es : List Event) → ArePrefixes es → turns.ArePrefixes es
prefixes-are [] h = tt
prefixes-are (e ∷ es) h = (h.0.0, prefixes-are es h.1)

-- What is around the leaf of a line, and lines that are no text.

pub unturned-rows : OfRows AreUnturned
unturned-rows = record {
  append = each-append IsUnturned;
  fronts = fronts-unturned;
  ending = λ p q. (refl, (refl, tt));
  blank_ending = λ p q. (refl, (refl, tt));
  white = λ p q. (refl, (refl, tt));
}

pub front-unturned : (bytes : List ℕ) (row : Row) → HasFront bytes row → AreUnturned row.front
front-unturned = front-holds AreUnturned unturned-rows

pub tail-unturned : (blank : Bool) (row : Row) → AreUnturned (tail_events (ending_name blank) row)
tail-unturned = tail-holds AreUnturned unturned-rows

single-unturned : (options : ParseOptions) (bytes : List ℕ) (row : Row) → IsSingle options bytes row →
    AreUnturned (tabled_row_by bytes row.kind row)
single-unturned = set-holds AreUnturned unturned-rows (λ l. (laws l).unturned)

-- Lines of leaves of several, joined.

pub span-unturned : (options : ParseOptions) (bytes : List ℕ) (row : Row) (rows : List Row) →
    AreSpan options bytes row rows → Begins row → AreUnturned (tabled_group options bytes (LeafLines row rows))
span-unturned =
    span-holds AreUnturned unturned-rows (λ es h. each-as IsLined IsUnturned lined-unturned es h)

pub headed-unturned : (options : ParseOptions) (bytes : List ℕ) (row next : Row) (rows : List Row) →
    IsHead options bytes row next → AreSpan options bytes next rows → HasFront bytes row →
    AreUnturned (spanned_group options bytes (Headed row next rows))
headed-unturned =
    headed-holds IsUnturned unturned-rows of-unturned (λ q. refl) (λ e is. lined-unturned e (prefix-lined e is))
    (λ e. refl)

-- Texts.

linked-unturned : (link : Link) (row : Row) (rows : List Row) → EachPrefixed rows →
    AreUnturned (linked_lines n.Data link row rows)
linked-unturned =
    each-linked IsUnturned (λ p link. refl) (λ q. refl) (λ es h. fronts-unturned es (prefixes-front es h))

-- the line that turns one is an underline
record IsUnderline (under : Row) : Type 0 where
  end : Point
  marks : List Event
  leaf_is : leaf_events under.kind under ≡ under.inside
  is : under.inside ≡ around n.HeadingSetextUnderline under.first end marks
  end_is : end ≡ under.end
  marks_unturned : AreUnturned marks

under-line : (options : ParseOptions) (bytes : List ℕ) (row : Row) (rows : List Row) (under : Row) →
    AreLines options bytes row rows → IsUnder options bytes (last_row row rows) under → IsUnderline under
under-line options bytes row rows under are is = record {
  end = past_text is.line under.first;
  marks = underline_parts is.line under.first;
  leaf_is = ap (λ (kind : RowKind). leaf_events kind under) is.kind;
  is =
      is.is.leaf_is is.name is.kind
      ∙ ap (λ (l : LeafName). (leaf l).added options under.on is.line under.first)
      (under-is options bytes row rows under are is);
  end_is = sym is.is.end;
  marks_unturned = underline-unturned is.line under.first;
}

-- What follows a text.

-- what is in the place of a text begins with no underline: a definition does not
form-unlined : (x : Form) (es : List Event) → Unlined (form_unread x ++ es)
form-unlined x es = go (same_place x.first x.p)
  where
    go : (y : Bool) →
        Unlined
        ((cond y [] (pair n.SpaceOrTab x.first x.p)
        ++ around n.Definition x.p x.last (inside_by strand_unread string_unread x))
        ++ es)
    go true = refl
    go false = refl

defined-unlined : (bytes : List ℕ) (d : DefinitionParts) (row : Row) (rows : List Row) (es : List Event) →
    IsDefined bytes d row rows → Unlined (defined_unread d row rows ++ es)
defined-unlined bytes d row rows es is =
    subst (λ (l : List Event). Unlined (l ++ es)) (sym is.unread) (form-unlined is.form es)

-- and no paragraph
cut-unlined : (options : ParseOptions) (bytes : List ℕ) (row : Row) (rows : List Row) (es fs more : List Event) →
    IsCutText options bytes row rows es fs → Unlined (es ++ more)
cut-unlined options bytes row rows es fs more (Remains first below are) = refl
cut-unlined options bytes row rows es fs more (Defines d first below are is) =
    defined-unlined bytes d first below more is
cut-unlined options bytes row rows es fs more
    (Follows d first own next below q left done are is after ending front rest) =
    let own_events : List Event = defined_unread d first own in
    let gap : List Event = between (last_row first own).end q next.front in
    subst Unlined (sym (append_assoc (own_events ++ gap) left more ∙ append_assoc own_events gap (left ++ more)))
    (defined-unlined bytes d first own (gap ++ (left ++ more)) is)

-- no group begins with an underline
text-unlined : (options : ParseOptions) (bytes : List ℕ) (row : Row) (rows : List Row) (es : List Event) →
    AreLines options bytes row rows → HasFront bytes row → Unlined (unread_group options bytes (Lines row rows) ++ es)
text-unlined options bytes row rows es are front =
    let text : List Event = text_unread options bytes row rows in
    let tail : List Event = tail_events n.LineEnding (last_row row rows) in
    subst Unlined
    (sym (append_assoc (row.front ++ text) tail es ∙ append_assoc row.front text (tail ++ es)))
    (unlined-passed row.front (text ++ (tail ++ es)) (front-unturned bytes row front)
    (cut-unlined options bytes row rows text (text_done options bytes row rows) (tail ++ es)
    (cut-is options bytes row rows are)))

pub groups-unlined : (options : ParseOptions) (bytes : List ℕ) (gs : List Group) → AreGroups options bytes gs →
    Unlined (set_groups options bytes gs)
groups-unlined options bytes [] are = refl
groups-unlined options bytes (Single row ∷ gs) are =
    unlined-passed (tabled_group options bytes (Single row)) (set_groups options bytes gs)
    (single-unturned options bytes row are.0) (groups-unlined options bytes gs are.1)
groups-unlined options bytes (Lines row rows ∷ gs) are =
    text-unlined options bytes row rows (set_groups options bytes gs) are.0 are.2
groups-unlined options bytes (Turned row rows under ∷ gs) are =
    subst Unlined
    (sym (append_assoc (unread_group options bytes (Lines row rows)) (row_events under) (set_groups options bytes gs)))
    (text-unlined options bytes row rows (row_events under ++ set_groups options bytes gs) are.0 are.3)
groups-unlined options bytes (Headed row next rows ∷ gs) are =
    unlined-passed (spanned_group options bytes (Headed row next rows)) (set_groups options bytes gs)
    (headed-unturned options bytes row next rows are.0 are.1 are.3) (groups-unlined options bytes gs are.4)
groups-unlined options bytes (LeafLines row rows ∷ gs) are =
    unlined-passed (tabled_group options bytes (LeafLines row rows)) (set_groups options bytes gs)
    (span-unturned options bytes row rows are.0 are.4)
    (groups-unlined options bytes gs are.2)

-- so no underline follows lines of text
pub no-underline : (options : ParseOptions) (bytes : List ℕ) (row : Row) (gs : List Group) → EndsBeforeGroups row gs →
    Unlined (set_groups options bytes gs) →
    has_underline (tail_events n.LineEnding row ++ set_groups options bytes gs) ≡ false
no-underline options bytes row gs ends none = go row.closed_after
  where
    es : List Event
    es = set_groups options bytes gs

    ending : (gs : List Group) → EndsBeforeGroups row gs → Unlined (set_groups options bytes gs) →
        has_underline (ending_events n.LineEnding row ++ set_groups options bytes gs) ≡ false
    ending [] ends none = last row.after
      where
        last : (after : Option Point) →
            has_underline (elim after [ None ↦ [] | Some q ↦ pair n.LineEnding row.end q ] ++ []) ≡ false
        last None = refl
        last (Some q) = refl
    ending (group ∷ gs) ends none =
        ap (λ (l : List Event). has_underline (l ++ set_groups options bytes (group ∷ gs)))
        (ending-is n.LineEnding row ends.0 ends.1)
        ∙ none

    go : (leaves : List Container) →
        has_underline ((ends_of leaves row.end ++ ending_events n.LineEnding row) ++ es) ≡ false
    go [] = ending gs ends none
    go (c ∷ leaves) =
        ap has_underline (append_assoc (ends_of (c ∷ leaves) row.end) (ending_events n.LineEnding row) es)
        ∙ ends-first (λ (l : List Event). has_underline l ≡ false) c leaves row.end
        (ending_events n.LineEnding row ++ es)
        (λ d fs. no-ending (exit (container_name d) row.end) fs (container-facts d).no_ending)

-- Groups.

-- a text that nothing turns: its definitions pass, and what remains of it is a paragraph without an underline
cut-turned : (options : ParseOptions) (bytes : List ℕ) (row : Row) (rows : List Row) (es fs more : List Event) →
    IsCutText options bytes row rows es fs → has_underline more ≡ false → turned (es ++ more) ≡ es ++ turned more
cut-turned options bytes row rows es fs more (Remains first below are) none =
    turned-text first.first (last_row first below).end (unread_lines first below) more
    (each-unturned (unread_lines first below)
    (linked-unturned text_leaf.link first below (lines-prefixed options bytes first below are))) none
cut-turned options bytes row rows es fs more (Defines d first below are is) none =
    passed (defined_unread d first below) more (defined-of AreUnturned unturned-of bytes d first below is)
cut-turned options bytes row rows es fs more (Follows d first own next below q left done are is after ending front rest)
    none =
    let own_events : List Event = defined_unread d first own in
    let gap : List Event = between (last_row first own).end q next.front in
    let begun : List Event = own_events ++ gap in
    let pass : AreUnturned begun = each-append IsUnturned own_events gap
    (defined-of AreUnturned unturned-of bytes d first own is)
    (between-of AreUnturned unturned-of bytes (last_row first own).end q next.first next.front front) in
    ap turned (append_assoc begun left more)
    ∙ passed begun (left ++ more) pass
    ∙ ap (λ (l : List Event). begun ++ l) (cut-turned options bytes next below left done more rest none)
    ∙ sym (append_assoc begun left (turned more))

text-turned : (options : ParseOptions) (bytes : List ℕ) (row : Row) (rows : List Row) (es : List Event) →
    AreLines options bytes row rows → HasFront bytes row →
    has_underline (tail_events n.LineEnding (last_row row rows) ++ es) ≡ false →
    turned (tabled_group options bytes (Lines row rows) ++ es) ≡
    tabled_group options bytes (Lines row rows) ++ turned es
text-turned options bytes row rows es are front none =
    let text : List Event = text_unread options bytes row rows in
    let tail : List Event = tail_events n.LineEnding (last_row row rows) in
    ap turned (append_assoc (row.front ++ text) tail es ∙ append_assoc row.front text (tail ++ es))
    ∙ passed row.front (text ++ (tail ++ es)) (front-unturned bytes row front)
    ∙ ap (λ (l : List Event). row.front ++ l)
    (cut-turned options bytes row rows text (text_done options bytes row rows) (tail ++ es)
    (cut-is options bytes row rows are) none
    ∙ ap (λ (l : List Event). text ++ l) (passed tail es (tail-unturned false (last_row row rows))))
    ∙ sym (append_assoc row.front text (tail ++ turned es))
    ∙ sym (append_assoc (row.front ++ text) tail (turned es))

-- a text, its ending, what is before its underline, the underline, and what follows it
laid : (text ending before under tail es : List Event) →
    text ++ (ending ++ ((before ++ under ++ tail) ++ es)) ≡ text ++ ((ending ++ before) ++ (under ++ (tail ++ es)))
laid text ending before under tail es = simp append_assoc

laid-turned : (text ending before under : List Event) →
    text ++ ((ending ++ before) ++ under) ≡ text ++ ending ++ before ++ under
laid-turned text ending before under = simp append_assoc

-- the lines of a text with their underline
lines-headed : (options : ParseOptions) (bytes : List ℕ) (row : Row) (rows : List Row) (under : Row)
    (es : List Event) → AreLines options bytes row rows → IsUnder options bytes (last_row row rows) under →
    turned (lines_unread row rows ++ (tail_events n.LineEnding (last_row row rows) ++ (row_events under ++ es))) ≡
    heading_unread under row rows ++ (tail_events (ending_of under.kind under) under ++ turned es)
lines-headed options bytes row rows under es are is =
    let u : IsUnderline under = under-line options bytes row rows under are is in
    let U : List Event = around n.HeadingSetextUnderline under.first u.end u.marks in
    let text : List Event = around turn_leaf.text row.first last.end (unread_lines row rows) in
    let heading : List Event → List Event → Point → List Event =
    λ e line q. around turn_leaf.name row.first q (text ++ e ++ under.front ++ line) in
    ap₂
    (λ (e line : List Event). turned (lines_unread row rows ++ (e ++ ((under.front ++ line ++ tail) ++ es))))
    tail-is (u.leaf_is ∙ u.is)
    ∙ ap turned (laid (lines_unread row rows) E under.front U tail es)
    ∙ turned-underlined row.first last.end last.end is.after under.first u.end (unread_lines row rows) under.front
    u.marks (tail ++ es)
    (each-unturned (unread_lines row rows)
    (linked-unturned text_leaf.link row rows (lines-prefixed options bytes row rows are)))
    (prefixes-are under.front (under-prefixed options bytes last under is))
    (each-unturned u.marks u.marks_unturned)
    ∙ ap₂
    (λ (inside following : List Event). around turn_leaf.name row.first u.end inside ++ following)
    (laid-turned text E under.front U) (passed tail es (tail-unturned (is_blank_by under.kind under) under))
    ∙ ap (λ (q : Point). heading E U q ++ (tail ++ turned es)) u.end_is
    ∙ ap₂ (λ (e line : List Event). heading e line under.end ++ (tail ++ turned es)) (sym ending-last) (sym u.is)
  where
    last : Row
    last = last_row row rows

    E : List Event
    E = pair n.LineEnding last.end is.after

    tail : List Event
    tail = tail_events (ending_of under.kind under) under

    ending-last : ending_events n.LineEnding last ≡ E
    ending-last = ending-is n.LineEnding last is.after is.after_is

    tail-is : tail_events n.LineEnding last ≡ E
    tail-is =
        ap (λ (leaves : List Container). ends_of leaves last.end ++ ending_events n.LineEnding last) is.closed_after
        ∙ ending-last

-- a text that an underline turns: its definitions pass, and what remains of it is a heading with its underline
cut-headed : (options : ParseOptions) (bytes : List ℕ) (under row : Row) (rows : List Row)
    (before following done more : List Event) → IsCutHeading options bytes under row rows before following done →
    turned (before ++ (tail_events n.LineEnding (last_row row rows) ++ (row_events under ++ more))) ≡
    following ++ (tail_events (ending_of under.kind under) under ++ turned more)
cut-headed options bytes under row rows before following done more (cut_heading.Turned first below are is) =
    lines-headed options bytes first below under more are is
cut-headed options bytes under row rows before following done more
    (cut_heading.Follows d first own next below q left turns read are is after ending front rest) =
    let own_events : List Event = defined_unread d first own in
    let gap : List Event = between (last_row first own).end q next.front in
    let begun : List Event = own_events ++ gap in
    let pass : AreUnturned begun = each-append IsUnturned own_events gap
    (defined-of AreUnturned unturned-of bytes d first own is)
    (between-of AreUnturned unturned-of bytes (last_row first own).end q next.first next.front front) in
    let line : List Event = row_events under ++ more in
    let follows : List Event = tail_events n.LineEnding (last_row next below) ++ line in
    let tail : List Event = tail_events (ending_of under.kind under) under in
    ap (λ (last : Row). turned ((begun ++ left) ++ (tail_events n.LineEnding last ++ line)))
    (last-split first own next below)
    ∙ ap turned (append_assoc begun left follows)
    ∙ passed begun (left ++ follows) pass
    ∙ ap (λ (l : List Event). begun ++ l) (cut-headed options bytes under next below left turns read more rest)
    ∙ sym (append_assoc begun turns (tail ++ turned more))

-- with what is before it, and after it
heading-turned : (options : ParseOptions) (bytes : List ℕ) (row : Row) (rows : List Row) (under : Row)
    (es : List Event) →
    (are : AreLines options bytes row rows) → IsUnder options bytes (last_row row rows) under →
    IsLeft options bytes row rows are → HasFront bytes row →
    turned (unread_group options bytes (Turned row rows under) ++ es) ≡
    tabled_group options bytes (Turned row rows under) ++ turned es
heading-turned options bytes row rows under es are is left front =
    let text : List Event = text_unread options bytes row rows in
    let ending : List Event = tail_events n.LineEnding (last_row row rows) in
    let heading : List Event = turned_unread options bytes row rows under in
    let tail : List Event = tail_events (ending_of under.kind under) under in
    ap turned (apart row.front text ending (row_events under) es)
    ∙ passed row.front (text ++ (ending ++ (row_events under ++ es))) (front-unturned bytes row front)
    ∙ ap (λ (l : List Event). row.front ++ l)
    (cut-headed options bytes under row rows text heading (turned_done options bytes row rows under) es
    (heading-cut options bytes row rows under are is (left-remains options bytes row rows are left)))
    ∙ sym (append_assoc row.front heading (tail ++ turned es))
    ∙ sym (append_assoc (row.front ++ heading) tail (turned es))

groups-turned : (options : ParseOptions) (bytes : List ℕ) (gs : List Group) → AreGroups options bytes gs →
    turned (set_groups options bytes gs) ≡ turned_groups options bytes gs
groups-turned options bytes [] are = refl
groups-turned options bytes (Single row ∷ gs) are =
    passed (tabled_group options bytes (Single row)) (set_groups options bytes gs)
    (single-unturned options bytes row are.0)
    ∙ ap (λ (l : List Event). tabled_group options bytes (Single row) ++ l) (groups-turned options bytes gs are.1)
groups-turned options bytes (Lines row rows ∷ gs) are =
    text-turned options bytes row rows (set_groups options bytes gs) are.0 are.2
    (no-underline options bytes (last_row row rows) gs are.1 (groups-unlined options bytes gs are.3))
    ∙ ap (λ (l : List Event). tabled_group options bytes (Lines row rows) ++ l)
    (groups-turned options bytes gs are.3)
groups-turned options bytes (Turned row rows under ∷ gs) are =
    heading-turned options bytes row rows under (set_groups options bytes gs) are.0 are.1 are.5 are.3
    ∙ ap (λ (l : List Event). tabled_group options bytes (Turned row rows under) ++ l)
    (groups-turned options bytes gs are.4)
groups-turned options bytes (Headed row next rows ∷ gs) are =
    passed (spanned_group options bytes (Headed row next rows)) (set_groups options bytes gs)
    (headed-unturned options bytes row next rows are.0 are.1 are.3)
    ∙ ap (λ (l : List Event). spanned_group options bytes (Headed row next rows) ++ l)
    (groups-turned options bytes gs are.4)
groups-turned options bytes (LeafLines row rows ∷ gs) are =
    passed (tabled_group options bytes (LeafLines row rows)) (set_groups options bytes gs)
    (span-unturned options bytes row rows are.0 are.4)
    ∙ ap (λ (l : List Event). tabled_group options bytes (LeafLines row rows) ++ l)
    (groups-turned options bytes gs are.2)

-- Setext headings are set, and all else stays.
pub headings-set : (options : ParseOptions) (bytes : List ℕ) (open_before : List Container) (still : HeldLeaf)
    (p : Point) (lines : List (List ℕ)) (rows : List Row) →
    IsShut still → AreRows options bytes open_before still p lines rows → EachNoContent rows →
    turned (set_groups options bytes (groups rows)) ≡ turned_groups options bytes (groups rows)
headings-set options bytes open_before still p lines rows shut are quiet =
    groups-turned options bytes (groups rows)
    (groups-are options bytes open_before still p lines rows shut are quiet)
