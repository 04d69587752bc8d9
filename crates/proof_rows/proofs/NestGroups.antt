-- The events of a text, once the lines of each leaf of several are joined, fit the resolvers of items, headings and
-- tables: items begin directly in blocks; runs of a heading, rows and parts of cells are by themselves; and what begins
-- between a paragraph and its underline ends there.
use Rattle.std.proofs.Common.{◌≡◌, ℕ, Bool, true, false, cond, List, [], ◌∷◌, ◌++◌, length, refl, ap, sym, ◌∙◌, subst}
use Rattle.std.proofs.Common.{append_assoc}
use Rattle.std.specs.Prelude.{None}
use Rattle.md_engine.specs.declared.configuration.ParseOptions.{ParseOptions}
use Rattle.md_engine.specs.declared.event.Event.{Event}
use Rattle.md_engine.specs.declared.event.Kind.{Kind}
use Rattle.md_engine.specs.declared.event.Kind.TheVariants.{Enter, Exit}
use Rattle.md_engine.specs.declared.event.Name.{Name}
use Rattle.md_engine.specs.declared.event.Name.TheVariants as n
use Rattle.md_engine.specs.declared.event.Point.{Point}
use Rattle.md_engine.specs.declared.tokenizer.held_leaf.HeldLeaf.TheVariants as held_leaf
use Rattle.md_containers.specs.Listed.{outside}
use Rattle.md_leaves.specs.Turned.{has_underline, is_paragraph, is_turned, is_underline}
use Rattle.md_leaves.proofs.TurnedLemmas.{ending-underline, passes-parts}
use Rattle.md_meaning.specs.State.{Container}
use Rattle.md_events.specs.Events.Nested.{Balanced, Fits, Matches, around, exit, open_after, open_following, pair}
use Rattle.md_events.specs.Events.Places.{past_text}
use Rattle.md_tables.specs.Tabled.{begins_table, bound_of}
use Rattle.md_tables.proofs.TabledLines.{AreUntabled}
use Rattle.md_order.specs.Alone.{is_set}
use Rattle.md_order.specs.InOrder.{every}
use Rattle.md_order.specs.Nests.{MayNest}
use Rattle.md_order.specs.TablesNest.{InTable, Outside}
use Rattle.md_order.specs.TurnsNest.{Apart, Between, InText, InUnderline, IsOther, MayBeAt, Spot, spot_by}
use Rattle.md_order.proofs.Names.{bare-unturned, unset-bare, unset-item}
use Rattle.md_order.proofs.Nests.Fits.{FitsAll, IsClear, IsClearAt, RowsAlone, RunsAlone, TurnsAlone, unset-clear}
use Rattle.md_order.proofs.Nests.FitsInOrder.{apart-spot, fits-nest}
use Rattle.md_order.proofs.Passed.{not-all}
use Rattle.md_order.proofs.SetextLook.{has-ahead, past-one}
use Rattle.proof_frame.specs.Change.{ends_of}
use Rattle.proof_frame.specs.EndingName.{ending_name}
use Rattle.proof_frame.specs.Row.{Row, RowKind, blank_line, ending_events, ending_of, is_blank_by, last_row, span_by}
use Rattle.proof_frame.specs.TextLines.{text_leaf}
use Rattle.proof_leaf_laws.specs.Leaf.HeadingSetext.{underline_line}
use Rattle.md_link_definitions.specs.DefinitionRule.{DefinitionParts}
use Rattle.proof_content_laws.specs.Defined.{defined_unread}
use Rattle.proof_content_laws.proofs.Defined.Is.{IsDefined}
use Rattle.proof_leaf_laws.specs.Headed.{headed_row}
use Rattle.md_registry.specs.Resolving.{lines_joined}
use Rattle.proof_rows.specs.BlockList.{lines_unread, text_unread, turned_unread, unread_lines}
use Rattle.proof_rows.specs.Rows.{Group, Headed, LeafLines, Lines, Single, Turned, final_row, first_row, group_ending}
use Rattle.proof_rows.specs.Rows.{groups, leaf_events, row_events, tail_events, text_done, turned_done}
use Rattle.proof_rows.specs.Unread.{spanned_group, spanned_groups, unread_group, unread_groups}
use Rattle.proof_frame.proofs.ClosedFacts.{IsClosed, IsUnset, closed-append, closed-holds, prefixes-unset}
use Rattle.proof_frame.proofs.EachEvent.{Each, each-append, each-as}
use Rattle.proof_frame.proofs.FrontFacts.{LinePrefix}
use Rattle.proof_frame.proofs.FrontLemmas.{fronts-balanced}
use Rattle.proof_frame.proofs.FrontNames.{HasFront}
use Rattle.proof_frame.proofs.LeafAllowed.{roles-unlisted}
use Rattle.proof_frame.proofs.LeafLines.Cuts.{ending-is}
use Rattle.proof_frame.proofs.NestFacts.{IsNoItem, Keeps, KeepsItems, KeepsRuns, balanced-items, items-append}
use Rattle.proof_frame.proofs.NestFacts.{keeps-append, outside-runs, plain-items}
use Rattle.proof_frame.proofs.OutsideFacts.{AreOutside}
use Rattle.proof_frame.proofs.PrefixNames.{ArePrefixes}
use Rattle.proof_frame.proofs.SpannedFacts.{AreUnspanned}
use Rattle.proof_frame.proofs.UnturnedFacts.{AreUnturned, IsUnturned}
use Rattle.proof_leaf_laws.proofs.HeadingSetext.Line.{underline-items, underline-unset, underline_parts}
use Rattle.proof_leaf_laws.proofs.GfmTable.Nests.{table-items, table-rows}
use Rattle.md_registry.proofs.Registry.{laws, outside-passes}
use Rattle.proof_rows.proofs.AloneGroups.{closed-rows, groups-closed}
use Rattle.proof_rows.proofs.ContentCut.{last-split}
use Rattle.proof_rows.proofs.GroupFacts.{more-groups, span-valid, text-leaf}
use Rattle.proof_rows.proofs.GroupLemmas.{lines-prefixed, under-prefixed}
use Rattle.proof_rows.proofs.GroupLines.{AreGroups, AreLines, EndsBeforeGroups, IsLeft, IsUnder}
use Rattle.proof_rows.proofs.GroupsAre.{groups-are}
use Rattle.proof_rows.proofs.GroupsSet.{groups-set, headed-outside, span-outside, text-outside, underlined-outside}
use Rattle.proof_rows.proofs.HeadedTable.{IsHeaded, headed-is, headed-table}
use Rattle.proof_rows.proofs.HeldRows.{AreBlocks, group-held}
use Rattle.md_containers.specs.ItemsHeld.{ItemsHeld}
use Rattle.proof_rows.proofs.JoinedLemmas.{EachNoContent}
use Rattle.proof_rows.proofs.NestedRows.{ByGroups, rows-hold}
use Rattle.proof_rows.proofs.OutsideLemmas.{front-outside, outside-rows}
use Rattle.proof_rows.proofs.RowFacts.{AreRows}
use Rattle.proof_rows.proofs.RowHolds.{OfRows, each-linked, single-holds, single-inside, tail-holds}
use Rattle.proof_rows.proofs.SpanJoined.{apart, front-unspanned, tail-unspanned}
use Rattle.proof_rows.proofs.SpannedGroups.{lines-joined}
use Rattle.proof_rows.proofs.TabledGroups.{span-passes, unspanned-untabled}
use Rattle.proof_rows.proofs.Text.Cut.{IsCutText, between}
use Rattle.proof_rows.proofs.Text.Cut.IsCutText.{Defines, Follows, Remains}
use Rattle.proof_rows.proofs.Text.Cuts.{cut-is}
use Rattle.proof_rows.proofs.Text.Names.{between-of, defined-of, unturned-of}
use Rattle.proof_rows.proofs.Turned.Cut.{IsCutHeading, heading-cut, left-remains, IsCutHeading as cut_heading}
use Rattle.proof_rows.proofs.TurnedGroups.{front-unturned, groups-unlined, headed-unturned, no-underline}
use Rattle.proof_rows.proofs.TurnedGroups.{prefixes-are, span-unturned, tail-unturned, unturned-rows}
use Rattle.proof_rows.proofs.Underlines.{under-holds}
use Rattle.proof_rows.proofs.UnspannedGroups.{row-unspanned, text-unspanned, underlined-unspanned}

-- Texts of ATX headings.

runs-rows : OfRows KeepsRuns
runs-rows = record {
  append = keeps-append (RunsAlone None);
  fronts = λ es h. outside-runs es (front-outside es h);
  ending = λ p q. outside-runs (pair n.LineEnding p q) (refl, (refl, tt));
  blank_ending = λ p q. outside-runs (pair n.BlankLineEnding p q) (refl, (refl, tt));
  white = λ p q. outside-runs (pair n.SpaceOrTab p q) (refl, (refl, tt));
}

group-runs : (options : ParseOptions) (bytes : List ℕ) (group : Group) (gs : List Group) →
    AreGroups options bytes (group ∷ gs) → KeepsRuns (spanned_group options bytes group)
group-runs options bytes (Single row) gs are =
    single-holds KeepsRuns runs-rows (λ l ends options on r p starts. ((laws l).nests ends options on r p starts).runs)
    options bytes row are.0
group-runs options bytes (Lines row rows) gs are =
    outside-runs (spanned_group options bytes (Lines row rows)) (text-outside options bytes row rows are.0 are.2)
group-runs options bytes (Turned row rows under) gs are =
    outside-runs (spanned_group options bytes (Turned row rows under))
    (underlined-outside options bytes row rows under are.0 are.1 are.3)
group-runs options bytes (Headed row next rows) gs are =
    outside-runs (spanned_group options bytes (Headed row next rows))
    (headed-outside options bytes row next rows are.0 are.1 are.3)
group-runs options bytes (LeafLines row rows) gs are =
    outside-runs (spanned_group options bytes (LeafLines row rows)) (span-outside options bytes row rows are.0 are.4)

groups-runs : (options : ParseOptions) (bytes : List ℕ) (gs : List Group) → AreGroups options bytes gs →
    RunsAlone None (spanned_groups options bytes gs)
groups-runs options bytes [] are = tt
groups-runs options bytes (group ∷ gs) are =
    group-runs options bytes group gs are (spanned_groups options bytes gs)
    (groups-runs options bytes gs (more-groups options bytes group gs are))

-- Tables.

untabled-rows : (es : List Event) → AreUntabled es → Keeps (RowsAlone Outside) es
untabled-rows [] h = λ ys k. k
untabled-rows (e ∷ es) h = λ ys k. (
  tt,
  tt,
  subst (λ (x : Bool). RowsAlone (cond x (InTable false []) Outside) (es ++ ys))
      (sym (not-all (begins_table (bound_of e)) h.0)) (untabled-rows es h.1 ys k),
)

group-rows : (options : ParseOptions) (bytes : List ℕ) (group : Group) (gs : List Group) →
    AreGroups options bytes (group ∷ gs) → Keeps (RowsAlone Outside) (spanned_group options bytes group)
group-rows options bytes (Single row) gs are =
    let es : List Event = spanned_group options bytes (Single row) in
    untabled-rows es (unspanned-untabled es (row-unspanned options bytes row are.0))
group-rows options bytes (Lines row rows) gs are =
    let es : List Event = spanned_group options bytes (Lines row rows) in
    untabled-rows es (unspanned-untabled es (text-unspanned options bytes row rows are.0 are.2))
group-rows options bytes (Turned row rows under) gs are =
    let es : List Event = spanned_group options bytes (Turned row rows under) in
    untabled-rows es (unspanned-untabled es (underlined-unspanned options bytes row rows under are.0 are.1 are.3))
group-rows options bytes (Headed row next rows) gs are =
    let is : IsHeaded options bytes row next rows = headed-is options bytes row next rows are.0 are.1 in
    let last : Row = last_row next rows in
    let joined : List Event = span_by (λ (r : Row). r.inside) (headed_row bytes row) (next ∷ rows) in
    let tail : List Event = tail_events n.LineEnding last in
    keeps-append (RowsAlone Outside) (row.front ++ joined) tail
    (keeps-append (RowsAlone Outside) row.front joined
    (untabled-rows row.front (unspanned-untabled row.front (front-unspanned bytes row are.3)))
    (table-rows bytes row next rows (headed-table options bytes row next rows is)))
    (untabled-rows tail
    (unspanned-untabled tail
    (subst (λ (blank : Bool). AreUnspanned (tail_events (ending_name blank) last)) is.ends
    (tail-unspanned last.kind last))))
group-rows options bytes (LeafLines row rows) gs are =
    untabled-rows (spanned_group options bytes (LeafLines row rows)) (span-passes options bytes row rows are.0 are.4)

groups-rows : (options : ParseOptions) (bytes : List ℕ) (gs : List Group) → AreGroups options bytes gs →
    RowsAlone Outside (spanned_groups options bytes gs)
groups-rows options bytes [] are = tt
groups-rows options bytes (group ∷ gs) are =
    group-rows options bytes group gs are (spanned_groups options bytes gs)
    (groups-rows options bytes gs (more-groups options bytes group gs are))

-- Setext headings.

-- apart from them
unturned-alone : (es : List Event) → AreUnturned es → Keeps (TurnsAlone Apart) es
unturned-alone [] h = λ ys k. k
unturned-alone (e ∷ es) h = λ ys k. (
  tt,
  tt,
  subst (λ (spot : Spot). TurnsAlone spot (es ++ ys)) (sym (apart-spot e (es ++ ys) h.0)) (unturned-alone es h.1 ys k),
)

unset-other : (e : Event) → is_set e.name ≡ false → IsOther (is_paragraph e.name) (is_underline e.name)
unset-other e h = ((unset-bare e.name h).paragraph, (unset-bare e.name h).underline)

-- A spot at which such events leave one: in the text, and in the underline.
record IsWithin (spot : Spot) : Type 0 where
  clear : (e : Event) → IsClear e → IsClearAt spot e
  may : (kind : Kind) (x y : Bool) → IsOther x y → MayBeAt spot kind x y
  stays : (kind : Kind) (x y t : Bool) → IsOther x y → spot_by spot kind x y t ≡ spot

in-text : IsWithin InText
in-text = record { clear = λ e h. h; may = may; stays = stays }
  where
    may : (kind : Kind) (x y : Bool) → IsOther x y → MayBeAt InText kind x y
    may Enter x y h = h
    may Exit x y h = tt

    stays : (kind : Kind) (x y t : Bool) → IsOther x y → spot_by InText kind x y t ≡ InText
    stays Enter x y t h = refl
    stays Exit x y t h = ap (λ (b : Bool). cond b (Between 0) InText) h.0

in-underline : IsWithin InUnderline
in-underline = record { clear = λ e h. h; may = may; stays = stays }
  where
    may : (kind : Kind) (x y : Bool) → IsOther x y → MayBeAt InUnderline kind x y
    may Enter x y h = h
    may Exit x y h = tt

    stays : (kind : Kind) (x y t : Bool) → IsOther x y → spot_by InUnderline kind x y t ≡ InUnderline
    stays Enter x y t h = refl
    stays Exit x y t h = ap (λ (b : Bool). cond b Apart InUnderline) h.1

inside-alone : (spot : Spot) → IsWithin spot → (es ys : List Event) → Each IsUnset es → TurnsAlone spot ys →
    TurnsAlone spot (es ++ ys)
inside-alone spot is [] ys h k = k
inside-alone spot is (e ∷ es) ys h k =
    let other = unset-other e h.0 in (
      is.clear e (unset-clear e h.0),
      is.may e.kind (is_paragraph e.name) (is_underline e.name) other,
      subst (λ (s : Spot). TurnsAlone s (es ++ ys))
          (sym (is.stays e.kind (is_paragraph e.name) (is_underline e.name) (is_turned (es ++ ys)) other))
          (inside-alone spot is es ys h.1 k),
    )

-- between them, where what begins ends
record BetweenOn (names : List Name) (kind : Kind) (name : Name) (x y t : Bool) : Type 0 where
  may : MayBeAt (Between (length names)) kind x y
  next : spot_by (Between (length names)) kind x y t ≡ Between (length (open_following names kind name))

between-on : (names : List Name) (kind : Kind) (name : Name) (x y t : Bool) → IsOther x y → Fits names kind name →
    BetweenOn names kind name x y t
between-on [] Enter name x y t h fits = record {
  may = h.0;
  next = ap (λ (b : Bool). cond b InUnderline (Between 1)) h.1;
}
between-on [] Exit name x y t h fits = absurd fits
between-on (m ∷ ms) Enter name x y t h fits = record { may = h; next = refl }
between-on (m ∷ ms) Exit name x y t h fits = record { may = tt; next = refl }

gap-alone : (names : List Name) (es ys : List Event) → Each IsUnset es → Matches names es → open_after names es ≡ [] →
    TurnsAlone (Between 0) ys → TurnsAlone (Between (length names)) (es ++ ys)
gap-alone names [] ys h matches closed k =
    subst (λ (l : List Name). TurnsAlone (Between (length l)) ys) (sym closed) k
gap-alone names (e ∷ es) ys h matches closed k =
    let on = between-on names e.kind e.name (is_paragraph e.name) (is_underline e.name) (is_turned (es ++ ys))
    (unset-other e h.0) matches.0 in (
      unset-clear e h.0,
      on.may,
      subst (λ (s : Spot). TurnsAlone s (es ++ ys)) (sym on.next)
          (gap-alone (open_following names e.kind e.name) es ys h.1 matches.1 closed k),
    )

-- A paragraph, by what is after it.

turned-past : (es ys : List Event) → AreUnturned es → is_turned (es ++ ys) ≡ is_turned ys
turned-past [] ys h = refl
turned-past (e ∷ es) ys h = past-one e (es ++ ys) (passes-parts e h.0).0 ∙ turned-past es ys h.1

paragraph-ahead : (q : Point) (inside more : List Event) → AreUnturned inside →
    is_turned ((inside ++ exit n.Paragraph q ∷ []) ++ more) ≡ has_underline more
paragraph-ahead q inside more h =
    ap is_turned (append_assoc inside (exit n.Paragraph q ∷ []) more)
    ∙ turned-past inside (exit n.Paragraph q ∷ more) h

each-unturned : (es : List Event) → Each IsUnset es → AreUnturned es
each-unturned es h = each-as IsUnset IsUnturned (λ e k. bare-unturned e (unset-bare e.name k)) es h

-- without an underline
paragraph-alone : (p q : Point) (inside more : List Event) → Each IsUnset inside → has_underline more ≡ false →
    TurnsAlone Apart more → TurnsAlone Apart (around n.Paragraph p q inside ++ more)
paragraph-alone p q inside more h none k = (
  tt,
  tt,
  subst (λ (t : Bool). TurnsAlone (cond t InText Apart) ((inside ++ exit n.Paragraph q ∷ []) ++ more))
      (sym (paragraph-ahead q inside more (each-unturned inside h) ∙ none))
      (subst (TurnsAlone Apart) (sym (append_assoc inside (exit n.Paragraph q ∷ []) more))
      (unturned-alone inside (each-unturned inside h) (exit n.Paragraph q ∷ more) (tt, tt, k))),
)

-- with one
heading-alone : (p q x y a : Point) (inside front : List Event) (line : List ℕ) (ys : List Event) →
    Each IsUnset inside → ArePrefixes front → Balanced front → TurnsAlone Apart ys →
    TurnsAlone Apart
    (around n.Paragraph p q inside ++ (pair n.LineEnding x y ++ (front ++ (underline_line line a ++ ys))))
heading-alone p q x y a inside front line ys h prefixes nested k = (
  tt,
  tt,
  subst (λ (t : Bool). TurnsAlone (cond t InText Apart) ((inside ++ exit n.Paragraph q ∷ []) ++ rest)) (sym ahead)
      (subst (TurnsAlone InText) (sym (append_assoc inside (exit n.Paragraph q ∷ []) rest))
      (inside-alone InText in-text inside (exit n.Paragraph q ∷ rest) h (
        record { item = refl; heading = refl },
        tt,
        (record { item = refl; heading = refl }, refl, (record { item = refl; heading = refl }, tt, gap)),
      ))),
)
  where
    last : List Event
    last = exit n.HeadingSetextUnderline (past_text line a) ∷ []

    under : List Event
    under = underline_line line a ++ ys

    rest : List Event
    rest = pair n.LineEnding x y ++ (front ++ under)

    ahead : is_turned ((inside ++ exit n.Paragraph q ∷ []) ++ rest) ≡ true
    ahead =
        paragraph-ahead q inside rest (each-unturned inside h)
        ∙ ending-underline x y a front ((underline_parts line a ++ last) ++ ys) (prefixes-are front prefixes)

    line_is : TurnsAlone (Between 0) under
    line_is = (
      record { item = refl; heading = refl },
      refl,
      subst (TurnsAlone InUnderline) (sym (append_assoc (underline_parts line a) last ys))
          (inside-alone InUnderline in-underline (underline_parts line a) (last ++ ys) (underline-unset line a)
          (record { item = refl; heading = refl }, tt, k)),
    )

    gap : TurnsAlone (Between 0) (front ++ under)
    gap = gap-alone [] front under (prefixes-unset front prefixes) nested.matches nested.closed line_is

-- Texts.

-- the lines of one
lines-unset : (options : ParseOptions) (bytes : List ℕ) (row : Row) (rows : List Row) →
    AreLines options bytes row rows → Each IsUnset (unread_lines row rows)
lines-unset options bytes row rows are =
    each-linked IsUnset (λ p link. refl) (λ q. refl) prefixes-unset text_leaf.link row rows
    (lines-prefixed options bytes row rows are)

-- a definition and what is between it and the next block of the text pass
begun-unturned : (bytes : List ℕ) (d : DefinitionParts) (first : Row) (own : List Row) (next : Row) (q : Point) →
    IsDefined bytes d first own → LinePrefix bytes [] q next.first next.front →
    AreUnturned (defined_unread d first own ++ between (last_row first own).end q next.front)
begun-unturned bytes d first own next q is front =
    each-append IsUnturned (defined_unread d first own) (between (last_row first own).end q next.front)
    (defined-of AreUnturned unturned-of bytes d first own is)
    (between-of AreUnturned unturned-of bytes (last_row first own).end q next.first next.front front)

cut-alone : (options : ParseOptions) (bytes : List ℕ) (row : Row) (rows : List Row) (es fs more : List Event) →
    IsCutText options bytes row rows es fs → has_underline more ≡ false → TurnsAlone Apart more →
    TurnsAlone Apart (es ++ more)
cut-alone options bytes row rows es fs more (Remains first below are) none k =
    paragraph-alone first.first (last_row first below).end (unread_lines first below) more
    (lines-unset options bytes first below are) none k
cut-alone options bytes row rows es fs more (Defines d first below are is) none k =
    unturned-alone (defined_unread d first below) (defined-of AreUnturned unturned-of bytes d first below is) more k
cut-alone options bytes row rows es fs more (Follows d first own next below q left done are is after ending front rest)
    none k =
    let begun : List Event = defined_unread d first own ++ between (last_row first own).end q next.front in
    subst (TurnsAlone Apart) (sym (append_assoc begun left more))
    (unturned-alone begun (begun-unturned bytes d first own next q is front) (left ++ more)
    (cut-alone options bytes next below left done more rest none k))

-- no underline follows one
none-follows : (options : ParseOptions) (bytes : List ℕ) (row : Row) (gs : List Group) → EndsBeforeGroups row gs →
    AreGroups options bytes gs → has_underline (tail_events n.LineEnding row ++ spanned_groups options bytes gs) ≡ false
none-follows options bytes row gs ends are =
    sym
    (has-ahead true false bytes outside (tail ++ all)
    (closed-holds (tail ++ all)
    (closed-append tail all (tail-holds IsClosed closed-rows false row) (groups-closed options bytes gs are))))
    ∙ ap has_underline
    (outside-passes tail all (tail-holds AreOutside outside-rows false row)
    ∙ ap (λ (l : List Event). tail ++ l) (groups-set options bytes gs are))
    ∙ no-underline options bytes row gs ends (groups-unlined options bytes gs are)
  where
    tail : List Event
    tail = tail_events n.LineEnding row

    all : List Event
    all = spanned_groups options bytes gs

text-turns : (options : ParseOptions) (bytes : List ℕ) (row : Row) (rows : List Row) (es : List Event) →
    AreLines options bytes row rows → HasFront bytes row →
    has_underline (tail_events n.LineEnding (last_row row rows) ++ es) ≡ false → TurnsAlone Apart es →
    TurnsAlone Apart (unread_group options bytes (Lines row rows) ++ es)
text-turns options bytes row rows es are front none k =
    let text : List Event = text_unread options bytes row rows in
    let tail : List Event = tail_events n.LineEnding (last_row row rows) in
    subst (TurnsAlone Apart)
    (sym (append_assoc (row.front ++ text) tail es ∙ append_assoc row.front text (tail ++ es)))
    (unturned-alone row.front (front-unturned bytes row front) (text ++ (tail ++ es))
    (cut-alone options bytes row rows text (text_done options bytes row rows) (tail ++ es)
    (cut-is options bytes row rows are) none
    (unturned-alone tail (tail-unturned false (last_row row rows)) es k)))

-- between one and its underline no container ends
under-tail : (options : ParseOptions) (bytes : List ℕ) (last under : Row) → (is : IsUnder options bytes last under) →
    tail_events n.LineEnding last ≡ pair n.LineEnding last.end is.after
under-tail options bytes last under is =
    ap (λ (leaves : List Container). ends_of leaves last.end ++ ending_events n.LineEnding last) is.closed_after
    ∙ ending-is n.LineEnding last is.after is.after_is

-- the lines of one with their underline
lines-turns : (options : ParseOptions) (bytes : List ℕ) (row : Row) (rows : List Row) (under : Row)
    (es : List Event) → AreLines options bytes row rows → IsUnder options bytes (last_row row rows) under →
    TurnsAlone Apart es →
    TurnsAlone Apart
    (lines_unread row rows ++ (tail_events n.LineEnding (last_row row rows) ++ (row_events under ++ es)))
lines-turns options bytes row rows under es are is k =
    subst (λ (l : List Event). TurnsAlone Apart (lines_unread row rows ++ (l ++ (row_events under ++ es))))
    (sym (under-tail options bytes last under is))
    (subst
    (λ (l : List Event).
    TurnsAlone Apart (lines_unread row rows ++ (pair n.LineEnding last.end is.after ++ l)))
    (sym (append_assoc (under.front ++ inside) tail es ∙ append_assoc under.front inside (tail ++ es)))
    (subst (λ (kind : RowKind). Before (leaf_events kind under)) (sym is.kind)
    (under-holds Before
    (λ line a.
    heading-alone row.first last.end last.end is.after a (unread_lines row rows) under.front line (tail ++ es)
    (lines-unset options bytes row rows are) (under-prefixed options bytes last under is)
    (fronts-balanced bytes [] is.after under.first under.front is.front refl)
    (unturned-alone tail (tail-unturned (is_blank_by under.kind under) under) es k))
    options bytes row rows under are is)))
  where
    last : Row
    last = last_row row rows

    tail : List Event
    tail = tail_events (ending_of under.kind under) under

    Before : List Event → Type 0
    Before line =
        TurnsAlone Apart
        (lines_unread row rows ++ (pair n.LineEnding last.end is.after ++ (under.front ++ (line ++ (tail ++ es)))))

    inside : List Event
    inside = leaf_events under.kind under

cut-turns : (options : ParseOptions) (bytes : List ℕ) (under row : Row) (rows : List Row)
    (before following done more : List Event) → IsCutHeading options bytes under row rows before following done →
    TurnsAlone Apart more →
    TurnsAlone Apart (before ++ (tail_events n.LineEnding (last_row row rows) ++ (row_events under ++ more)))
cut-turns options bytes under row rows before following done more (cut_heading.Turned first below are is) k =
    lines-turns options bytes first below under more are is k
cut-turns options bytes under row rows before following done more
    (cut_heading.Follows d first own next below q left turns read are is after ending front rest) k =
    let begun : List Event = defined_unread d first own ++ between (last_row first own).end q next.front in
    let line : List Event = row_events under ++ more in
    subst (λ (last : Row). TurnsAlone Apart ((begun ++ left) ++ (tail_events n.LineEnding last ++ line)))
    (sym (last-split first own next below))
    (subst (TurnsAlone Apart)
    (sym (append_assoc begun left (tail_events n.LineEnding (last_row next below) ++ line)))
    (unturned-alone begun (begun-unturned bytes d first own next q is front)
    (left ++ (tail_events n.LineEnding (last_row next below) ++ line))
    (cut-turns options bytes under next below left turns read more rest k)))

turned-turns : (options : ParseOptions) (bytes : List ℕ) (row : Row) (rows : List Row) (under : Row)
    (es : List Event) → (are : AreLines options bytes row rows) → IsUnder options bytes (last_row row rows) under →
    IsLeft options bytes row rows are → HasFront bytes row → TurnsAlone Apart es →
    TurnsAlone Apart (unread_group options bytes (Turned row rows under) ++ es)
turned-turns options bytes row rows under es are is left front k =
    let text : List Event = text_unread options bytes row rows in
    let ending : List Event = tail_events n.LineEnding (last_row row rows) in
    subst (TurnsAlone Apart) (sym (apart row.front text ending (row_events under) es))
    (unturned-alone row.front (front-unturned bytes row front) (text ++ (ending ++ (row_events under ++ es)))
    (cut-turns options bytes under row rows text (turned_unread options bytes row rows under)
    (turned_done options bytes row rows under) es
    (heading-cut options bytes row rows under are is (left-remains options bytes row rows are left)) k))

groups-turns : (options : ParseOptions) (bytes : List ℕ) (gs : List Group) → AreGroups options bytes gs →
    TurnsAlone Apart (spanned_groups options bytes gs)
groups-turns options bytes [] are = refl
groups-turns options bytes (Single row ∷ gs) are =
    unturned-alone (spanned_group options bytes (Single row))
    (single-holds AreUnturned unturned-rows
    (λ l ends options on r p starts. ((laws l).nests ends options on r p starts).turns) options bytes row are.0)
    (spanned_groups options bytes gs) (groups-turns options bytes gs are.1)
groups-turns options bytes (Lines row rows ∷ gs) are =
    text-turns options bytes row rows (spanned_groups options bytes gs) are.0 are.2
    (none-follows options bytes (last_row row rows) gs are.1 are.3) (groups-turns options bytes gs are.3)
groups-turns options bytes (Turned row rows under ∷ gs) are =
    turned-turns options bytes row rows under (spanned_groups options bytes gs) are.0 are.1 are.5 are.3
    (groups-turns options bytes gs are.4)
groups-turns options bytes (Headed row next rows ∷ gs) are =
    unturned-alone (spanned_group options bytes (Headed row next rows))
    (headed-unturned options bytes row next rows are.0 are.1 are.3) (spanned_groups options bytes gs)
    (groups-turns options bytes gs are.4)
groups-turns options bytes (LeafLines row rows ∷ gs) are =
    unturned-alone (spanned_group options bytes (LeafLines row rows)) (span-unturned options bytes row rows are.0 are.4)
    (spanned_groups options bytes gs) (groups-turns options bytes gs are.2)

-- Items.

-- what is between the front of a group and its tail
record IsApart (options : ParseOptions) (bytes : List ℕ) (group : Group) : Type 0 where
  inside : List Event
  is : spanned_group options bytes group ≡
      (first_row group).front ++ inside ++ tail_events (group_ending group) (final_row group)
  items : KeepsItems inside

text-items : (options : ParseOptions) (bytes : List ℕ) (row : Row) (rows : List Row) →
    AreLines options bytes row rows → KeepsItems (text_unread options bytes row rows)
text-items options bytes row rows are =
    let stretch = (text-leaf options bytes row rows are).1.stretch in
    balanced-items (text_unread options bytes row rows) stretch.unread_nested.0
    (roles-unlisted (text_unread options bytes row rows) stretch.unread_roles)

blank-items : (line : List ℕ) (p : Point) → KeepsItems (blank_line line p)
blank-items [] p = λ names ys h. h
blank-items (b ∷ line) p = λ names ys h. (tt, (tt, h))

-- from the text to its underline
turned-items : (options : ParseOptions) (bytes : List ℕ) (row : Row) (rows : List Row) (under : Row) →
    AreLines options bytes row rows → IsUnder options bytes (last_row row rows) under →
    KeepsItems
    (text_unread options bytes row rows
    ++ (tail_events n.LineEnding (last_row row rows) ++ (under.front ++ leaf_events under.kind under)))
turned-items options bytes row rows under are is =
    items-append (text_unread options bytes row rows)
    (tail_events n.LineEnding last ++ (under.front ++ leaf_events under.kind under))
    (text-items options bytes row rows are)
    (items-append (tail_events n.LineEnding last) (under.front ++ leaf_events under.kind under)
    (subst KeepsItems (sym (under-tail options bytes last under is)) (λ names ys h. (tt, (tt, h))))
    (items-append under.front (leaf_events under.kind under)
    (plain-items under.front (fronts-balanced bytes [] is.after under.first under.front is.front refl)
    (each-as IsUnset IsNoItem (λ e h. unset-item e.name h) under.front
    (prefixes-unset under.front (under-prefixed options bytes last under is))))
    (subst (λ (kind : RowKind). KeepsItems (leaf_events kind under)) (sym is.kind)
    (under-holds KeepsItems underline-items options bytes row rows under are is))))
  where
    last : Row
    last = last_row row rows

regrouped : (front text ending before line tail : List Event) →
    front ++ text ++ ending ++ (before ++ line ++ tail) ≡ front ++ (text ++ (ending ++ (before ++ line))) ++ tail
regrouped front text ending before line tail = simp append_assoc

group-apart : (options : ParseOptions) (bytes : List ℕ) (group : Group) (gs : List Group) →
    AreGroups options bytes (group ∷ gs) → IsApart options bytes group
group-apart options bytes (Single row) gs are = record {
  inside = leaf_events row.kind row;
  is = refl;
  items =
      single-inside KeepsItems blank-items
      (λ l ends options on r p starts. ((laws l).nests ends options on r p starts).items) options bytes row are.0;
}
group-apart options bytes (Lines row rows) gs are = record {
  inside = text_unread options bytes row rows;
  is = refl;
  items = text-items options bytes row rows are.0;
}
group-apart options bytes (Turned row rows under) gs are =
    let last : Row = last_row row rows in
    record {
      inside =
          text_unread options bytes row rows
          ++ (tail_events n.LineEnding last ++ (under.front ++ leaf_events under.kind under));
      is =
          regrouped row.front (text_unread options bytes row rows) (tail_events n.LineEnding last) under.front
          (leaf_events under.kind under) (tail_events (ending_of under.kind under) under);
      items = turned-items options bytes row rows under are.0 are.1;
    }
group-apart options bytes (Headed row next rows) gs are =
    let is : IsHeaded options bytes row next rows = headed-is options bytes row next rows are.0 are.1 in
    let last : Row = last_row next rows in
    let joined : List Event = span_by (λ (r : Row). r.inside) (headed_row bytes row) (next ∷ rows) in
    record {
      inside = joined;
      is =
          ap (λ (blank : Bool). row.front ++ joined ++ tail_events (ending_name blank) last) (sym is.ends);
      items = table-items bytes row next rows (headed-table options bytes row next rows is);
    }
group-apart options bytes (LeafLines row rows) gs are =
    let stretch = (span-valid options bytes row rows are.0 are.4).stretch in
    let joined : List Event = span_by (λ (r : Row). r.inside) row rows in
    record {
      inside = joined;
      is = refl;
      items = balanced-items joined stretch.unread_nested.0 (roles-unlisted joined stretch.unread_roles);
    }

abbrev SpannedHeld : ParseOptions → List ℕ → List Name → Point → List Group → Type 0
SpannedHeld options bytes names p gs =
    AreGroups options bytes gs → AreBlocks names → ItemsHeld names (spanned_groups options bytes gs)

spanned-by_groups : (options : ParseOptions) (bytes : List ℕ) → ByGroups options bytes (SpannedHeld options bytes)
spanned-by_groups options bytes = record {
  none = λ p are blocks. tt;
  group = λ names kept p group gs o keeps on are blocks.
      let apart : IsApart options bytes group = group-apart options bytes group gs are in
      subst (λ (l : List Event). ItemsHeld names (l ++ spanned_groups options bytes gs)) (sym apart.is)
      (group-held options bytes names kept p group (first_row group).front apart.inside
      (spanned_groups options bytes gs) o.front keeps blocks apart.items
      (on (more-groups options bytes group gs are)));
}

-- All of them.

pub groups-fit : (options : ParseOptions) (bytes : List ℕ) (p : Point) (lines : List (List ℕ)) (rows : List Row) →
    AreRows options bytes [] held_leaf.None p lines rows → EachNoContent rows →
    FitsAll (spanned_groups options bytes (groups rows))
groups-fit options bytes p lines rows are quiet = record {
  lists =
      rows-hold options bytes (SpannedHeld options bytes) (spanned-by_groups options bytes) p lines rows are laid tt;
  headings = groups-runs options bytes (groups rows) laid;
  turns = groups-turns options bytes (groups rows) laid;
  tables = groups-rows options bytes (groups rows) laid;
  alone =
      closed-holds (spanned_groups options bytes (groups rows)) (groups-closed options bytes (groups rows) laid);
}
  where
    laid : AreGroups options bytes (groups rows)
    laid = groups-are options bytes [] held_leaf.None p lines rows (refl, refl) are quiet

-- So each resolver gets what fits it, one after the other.
pub leaves-nest : (options : ParseOptions) (bytes : List ℕ) (p : Point) (lines : List (List ℕ)) (rows : List Row) →
    AreRows options bytes [] held_leaf.None p lines rows → EachNoContent rows →
    MayNest every bytes (lines_joined options (unread_groups options bytes (groups rows)))
leaves-nest options bytes p lines rows are quiet =
    subst (MayNest every bytes)
    (sym (lines-joined options bytes [] held_leaf.None p lines rows (refl, refl) are quiet))
    (fits-nest bytes (spanned_groups options bytes (groups rows)) (groups-fit options bytes p lines rows are quiet))
