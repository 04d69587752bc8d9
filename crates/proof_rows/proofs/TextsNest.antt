-- What is read of lines of text nests: heads of tables, and the definitions and the paragraph of each text. So where
-- the events of the lines nest, those that are read do.
use Rattle.std.proofs.Common.{◌≡◌, ℕ, Bool, true, false, cond, ◌&&◌, ◌||◌, List, [], ◌∷◌, ◌++◌, refl, ap, ap₂, sym, ◌∙◌}
use Rattle.std.proofs.Common.{subst, subst₂, append_assoc, append-nil}
use Rattle.std.specs.Prelude.{IsTrue}
use Rattle.std.specs.List.{list_all}
use Rattle.std.proofs.lemmas.Bool.{and_from, and_parts, or_right}
use Rattle.md_engine.specs.declared.configuration.ParseOptions.{ParseOptions}
use Rattle.md_engine.specs.declared.event.Event.{Event}
use Rattle.md_engine.specs.declared.event.Name.TheVariants as n
use Rattle.md_engine.specs.declared.event.Point.{Point}
use Rattle.md_engine.specs.declared.tokenizer.held_leaf.HeldLeaf.TheVariants as held_leaf
use Rattle.md_content.specs.Chunks.{content_link}
use Rattle.md_content.specs.ContentNests.{IsGiven, NestsTo, Nothing, Passes, Reads, is_of_lines}
use Rattle.md_content.specs.Joined.{is_content}
use Rattle.md_events.specs.Events.Inline.{is_line_ending}
use Rattle.md_events.specs.Events.Prefix.{is_prefix}
use Rattle.md_meaning.specs.State.{Container}
use Rattle.md_events.specs.Events.Nested.{Balanced, enter_link, exit, last_point}
use Rattle.md_events.specs.Events.Places.{at_or_before, past_text}
use Rattle.md_events.proofs.NestedLemmas.{balanced-append, last_point-append}
use Rattle.proof_frame.specs.Change.{ends_of, is_none}
use Rattle.proof_frame.specs.Row.{BlankRow, LeafRow, Row, RowKind, TextRow, ending_events, last_row, row_line}
use Rattle.proof_leaf_laws.specs.Headed.{headed_row, heads_read}
use Rattle.md_registry.specs.Registry.{leaf}
use Rattle.proof_rows.specs.BlockList.{text_unread}
use Rattle.proof_rows.specs.Rows.{Group, Headed, LeafLines, Lines, Single, Turned, groups, is_continued, is_further}
use Rattle.proof_rows.specs.Rows.{is_last, onto_groups, onto_leaf, row_events, row_events_by, rows_events, tail_events}
use Rattle.proof_rows.specs.Rows.{takes_head}
use Rattle.proof_rows.specs.Unread.{unread_group, unread_groups}
use Rattle.proof_frame.proofs.FrontLemmas.{fronts-balanced}
use Rattle.proof_frame.proofs.FrontNames.{fronts-prefixes}
use Rattle.proof_frame.proofs.PrefixNames.{ArePrefixes}
use Rattle.proof_frame.proofs.LeafLines.Cuts.{ending-is}
use Rattle.proof_frame.proofs.SpanLemmas.{Nested_in}
use Rattle.proof_leaf_laws.proofs.GfmTable.Nests.{head-nests}
use Rattle.proof_leaf_laws.proofs.GfmTable.TableUnread.{line-end}
use Rattle.proof_rows.proofs.ContainedLemmas.{none-nil}
use Rattle.proof_rows.proofs.EachRow.{AsSingle, AsSpan, AsText, OfSpan, OfTable, OfText, OfTurned, Onto, OverLine, onto}
use Rattle.proof_rows.proofs.GroupFacts.{more-groups, text-leaf}
use Rattle.proof_rows.proofs.GroupLines.{AreGroups, AreLines, IsHead}
use Rattle.proof_rows.proofs.GroupsAre.{groups-are}
use Rattle.proof_rows.proofs.HeadJoined.{heads-rows}
use Rattle.proof_rows.proofs.HeadRows.{again-groups, as_span, as_spans, head_rows}
use Rattle.proof_rows.proofs.HeadedTable.{IsHeaded, headed-is}
use Rattle.proof_rows.proofs.JoinedLemmas.{EachNoContent}
use Rattle.proof_rows.proofs.RowFacts.{AreRows}

-- Events that are given for others, one list after the other.

given-same : (es : List Event) → IsGiven es es
given-same [] = Nothing
given-same (e ∷ es) = Passes e es es (given-same es)

given-append : (xs out ys more : List Event) → IsGiven xs out → IsGiven ys more → IsGiven (xs ++ ys) (out ++ more)
given-append _ _ ys more Nothing k = k
given-append _ _ ys more (Passes e es out h) k = Passes e (es ++ ys) (out ++ more) (given-append es out ys more h k)
given-append _ _ ys more (Reads e lines given es out are nested piece h) k =
    subst₂ IsGiven (sym (append_assoc (e ∷ lines) es ys)) (sym (append_assoc given out more))
    (Reads e lines given (es ++ ys) (out ++ more) are nested piece (given-append es out ys more h k))

given-one : (e : Event) (lines given : List Event) → list_all is_of_lines (e ∷ lines) ≡ true → Balanced (e ∷ lines) →
    NestsTo e.point (last_point e.point lines) given → IsGiven (e ∷ lines) given
given-one e lines given are nested piece =
    subst₂ IsGiven (append-nil (e ∷ lines)) (append-nil given) (Reads e lines given [] [] are nested piece Nothing)

-- The events of the lines of a group, as flow leaves them.

abbrev flat_group : Group → List Event
flat_group (Single row) = row_events row
flat_group (Lines row rows) = rows_events (row ∷ rows)
flat_group (Turned row rows under) = rows_events (row ∷ rows) ++ row_events under
flat_group (Headed row next rows) = rows_events (row ∷ next ∷ rows)
flat_group (LeafLines row rows) = rows_events (row ∷ rows)

abbrev flat_groups : List Group → List Event
flat_groups [] = []
flat_groups (group ∷ gs) = flat_group group ++ flat_groups gs

onto-flat : (row : Row) (gs all : List Group) → Onto row gs all → row_events row ++ flat_groups gs ≡ flat_groups all
onto-flat row _ _ (AsSingle gs) = refl
onto-flat row _ _ (AsText gs) = ap (λ (l : List Event). l ++ flat_groups gs) (sym (append-nil (row_events row)))
onto-flat row _ _ (AsSpan gs) = ap (λ (l : List Event). l ++ flat_groups gs) (sym (append-nil (row_events row)))
onto-flat row _ _ (OfText below rows gs) =
    sym (append_assoc (row_events row) (rows_events (below ∷ rows)) (flat_groups gs))
onto-flat row _ _ (OfTurned below rows under gs) =
    sym (append_assoc (row_events row) (rows_events (below ∷ rows) ++ row_events under) (flat_groups gs))
    ∙ ap (λ (l : List Event). l ++ flat_groups gs)
    (sym (append_assoc (row_events row) (rows_events (below ∷ rows)) (row_events under)))
onto-flat row _ _ (OfSpan below rows gs) =
    sym (append_assoc (row_events row) (rows_events (below ∷ rows)) (flat_groups gs))
onto-flat row _ _ (OfTable below rows gs) =
    sym (append_assoc (row_events row) (rows_events (below ∷ rows)) (flat_groups gs))
onto-flat row _ _ (OverLine under gs) =
    ap₂ (λ (xs ys : List Event). xs ++ (ys ++ flat_groups gs)) (sym (append-nil (row_events row)))
    (append-nil (row_events under))
    ∙ sym (append_assoc (row_events row ++ []) (row_events under) (flat_groups gs))

groups-flat : (rows : List Row) → rows_events rows ≡ flat_groups (groups rows)
groups-flat [] = refl
groups-flat (row ∷ rows) =
    ap (λ (l : List Event). row_events row ++ l) (groups-flat rows)
    ∙ onto-flat row (groups rows) _ (onto row row.kind (groups rows))

-- No container ends between the lines of a text.

abbrev AreInner : Row → List Row → Type 0
AreInner row [] = Unit {0}
AreInner row (next ∷ rows) = (row.closed_after ≡ []) × AreInner next rows

abbrev IsInner : Group → Type 0
IsInner (Lines row rows) = AreInner row rows
IsInner (Turned row rows under) = AreInner row rows
IsInner group = Unit {0}

abbrev EachInner : List Group → Type 0
EachInner [] = Unit {0}
EachInner (group ∷ gs) = IsInner group × EachInner gs

leaf-inner : (row : Row) (ends : Bool) (gs : List Group) → EachInner gs → EachInner (onto_leaf ends row gs)
leaf-inner row true gs h = (tt, h)
leaf-inner row false (LeafLines next rows ∷ gs) h = go (is_further next.kind next.on)
  where
    go : (x : Bool) →
        EachInner (cond x (LeafLines row (next ∷ rows) ∷ gs) (LeafLines row [] ∷ LeafLines next rows ∷ gs))
    go true = (tt, h.1)
    go false = (tt, h)
leaf-inner row false [] h = (tt, h)
leaf-inner row false (Single next ∷ gs) h = (tt, h)
leaf-inner row false (Lines next rows ∷ gs) h = (tt, h)
leaf-inner row false (Turned next rows under ∷ gs) h = (tt, h)
leaf-inner row false (Headed next below rows ∷ gs) h = (tt, h)

closed-between : (row next : Row) → is_continued row next ≡ true → row.closed_after ≡ []
closed-between row next h =
    none-nil row.closed_after (and_parts (is_none row.closed_after) (is_none next.change.opens) h).0

onto-inner : (row : Row) (kind : RowKind) (gs : List Group) → EachInner gs → EachInner (onto_groups row kind gs)
onto-inner row BlankRow gs h = (tt, h)
onto-inner row (LeafRow l) gs h = leaf-inner row (leaf l).ends gs h
onto-inner row TextRow (Lines next rows ∷ gs) h = go (is_continued row next) refl
  where
    go : (x : Bool) → is_continued row next ≡ x →
        EachInner (cond x (Lines row (next ∷ rows) ∷ gs) (Lines row [] ∷ Lines next rows ∷ gs))
    go true e = ((closed-between row next e, h.0), h.1)
    go false e = (tt, h)
onto-inner row TextRow (Turned next rows under ∷ gs) h = go (is_continued row next) refl
  where
    go : (x : Bool) → is_continued row next ≡ x →
        EachInner (cond x (Turned row (next ∷ rows) under ∷ gs) (Lines row [] ∷ Turned next rows under ∷ gs))
    go true e = ((closed-between row next e, h.0), h.1)
    go false e = (tt, h)
onto-inner row TextRow (LeafLines next rows ∷ gs) h =
    go (is_further next.kind next.on && takes_head next.kind) (is_further next.kind next.on && is_last rows)
  where
    go : (x y : Bool) →
        EachInner
        (cond x (Headed row next rows ∷ gs)
        (cond y (Turned row [] next ∷ gs) (Lines row [] ∷ LeafLines next rows ∷ gs)))
    go true y = (tt, h.1)
    go false true = (tt, h.1)
    go false false = (tt, h)
onto-inner row TextRow [] h = (tt, h)
onto-inner row TextRow (Single next ∷ gs) h = (tt, h)
onto-inner row TextRow (Headed next below rows ∷ gs) h = (tt, h)

groups-inner : (rows : List Row) → EachInner (groups rows)
groups-inner [] = tt
groups-inner (row ∷ rows) = onto-inner row row.kind (groups rows) (groups-inner rows)

-- The lines of a text, from the begin of the first to the end of the last.

abbrev begun_lines : Row → List Row → List Event
begun_lines row [] = exit n.Content row.end ∷ []
begun_lines row (next ∷ rows) =
    exit n.Content row.end
    ∷ ending_events n.LineEnding row
    ++ (next.front ++ (enter_link n.Content next.first content_link ∷ begun_lines next rows))

abbrev text_lines : Row → List Row → List Event
text_lines row rows = enter_link n.Content row.first content_link ∷ begun_lines row rows

lines-apart : (front line tail : List Event) (e x : Event) →
    (front ++ (e ∷ x ∷ []) ++ tail) ++ line ≡ front ++ (e ∷ x ∷ (tail ++ line))
lines-apart front line tail e x = simp append_assoc

laid-out : (front ending next lines tail : List Event) (e x : Event) →
    front ++ (e ∷ x ∷ (ending ++ (next ++ (lines ++ tail)))) ≡ front ++ ((e ∷ x ∷ (ending ++ (next ++ lines))) ++ tail)
laid-out front ending next lines tail e x = simp append_assoc

-- they are these
lines-flat : (options : ParseOptions) (bytes : List ℕ) (row : Row) (rows : List Row) →
    AreLines options bytes row rows → AreInner row rows →
    rows_events (row ∷ rows) ≡ row.front ++ (text_lines row rows ++ tail_events n.LineEnding (last_row row rows))
lines-flat options bytes row [] are inner =
    ap (λ (kind : RowKind). row_events_by kind row ++ []) are.2
    ∙ append-nil (row_events_by TextRow row)
    ∙ append_assoc row.front (text_lines row []) (tail_events n.LineEnding row)
lines-flat options bytes row (next ∷ rows) are inner =
    let begin : Event = enter_link n.Content row.first content_link in
    let end : Event = exit n.Content row.end in
    let ending : List Event = ending_events n.LineEnding row in
    let tail : List Event = tail_events n.LineEnding (last_row next rows) in
    ap (λ (kind : RowKind). row_events_by kind row ++ rows_events (next ∷ rows)) are.2
    ∙ lines-apart row.front (rows_events (next ∷ rows)) (tail_events n.LineEnding row) begin end
    ∙ ap₂ (λ (xs ys : List Event). row.front ++ (begin ∷ end ∷ (xs ++ ys)))
    (ap (λ (leaves : List Container). ends_of leaves row.end ++ ending) inner.0)
    (lines-flat options bytes next rows are.7 inner.1)
    ∙ laid-out row.front ending next.front (text_lines next rows) tail begin end

-- each event is of a line, of an ending or of a prefix
all-append : (xs ys : List Event) → list_all is_of_lines xs ≡ true → list_all is_of_lines ys ≡ true →
    list_all is_of_lines (xs ++ ys) ≡ true
all-append [] ys h k = k
all-append (e ∷ xs) ys h k =
    let parts = and_parts (is_of_lines e) (list_all is_of_lines xs) h in
    and_from (is_of_lines e) (list_all is_of_lines (xs ++ ys)) parts.0 (all-append xs ys parts.1 k)

prefixes-all : (es : List Event) → ArePrefixes es → list_all is_of_lines es ≡ true
prefixes-all [] h = refl
prefixes-all (e ∷ es) h =
    and_from (is_of_lines e) (list_all is_of_lines es)
    (or_right (is_content e.name || is_line_ending e.name) (is_prefix e.name) h.0.0) (prefixes-all es h.1)

lines-are : (options : ParseOptions) (bytes : List ℕ) (row : Row) (rows : List Row) →
    AreLines options bytes row rows → list_all is_of_lines (text_lines row rows) ≡ true
lines-are options bytes row [] are = refl
lines-are options bytes row (next ∷ rows) are =
    all-append (ending_events n.LineEnding row) (next.front ++ text_lines next rows)
    (subst (λ (l : List Event). list_all is_of_lines l ≡ true) (sym (ending-is n.LineEnding row are.3 are.4)) refl)
    (all-append next.front (text_lines next rows)
    (prefixes-all next.front (fronts-prefixes bytes [] are.3 next.first next.front refl are.6))
    (lines-are options bytes next rows are.7))

-- they nest
line-balanced : (p q : Point) → Balanced (enter_link n.Content p content_link ∷ exit n.Content q ∷ [])
line-balanced p q = record { matches = (tt, (refl, tt)); closed = refl }

lines-balanced : (options : ParseOptions) (bytes : List ℕ) (row : Row) (rows : List Row) →
    AreLines options bytes row rows → Balanced (text_lines row rows)
lines-balanced options bytes row [] are = line-balanced row.first row.end
lines-balanced options bytes row (next ∷ rows) are =
    balanced-append (enter_link n.Content row.first content_link ∷ exit n.Content row.end ∷ [])
    (ending_events n.LineEnding row ++ (next.front ++ text_lines next rows)) (line-balanced row.first row.end)
    (balanced-append (ending_events n.LineEnding row) (next.front ++ text_lines next rows)
    (subst Balanced (sym (ending-is n.LineEnding row are.3 are.4))
    (record { matches = (tt, (refl, tt)); closed = refl }))
    (balanced-append next.front (text_lines next rows)
    (fronts-balanced bytes [] are.3 next.first next.front are.6 refl) (lines-balanced options bytes next rows are.7)))

-- and end with the last
lines-end : (p : Point) (row : Row) (rows : List Row) →
    last_point p (begun_lines row rows) ≡ (last_row row rows).end
lines-end p row [] = refl
lines-end p row (next ∷ rows) =
    last_point-append row.end (ending_events n.LineEnding row)
    (next.front ++ (enter_link n.Content next.first content_link ∷ begun_lines next rows))
    ∙ last_point-append (last_point row.end (ending_events n.LineEnding row)) next.front
    (enter_link n.Content next.first content_link ∷ begun_lines next rows)
    ∙ lines-end next.first next rows

-- Groups.

nests-to : (p q r : Point) (es : List Event) → q ≡ r → Nested_in p q es → NestsTo p r es
nests-to p q r es same h = record {
  balanced = h.0;
  forward = h.1.0;
  ends = subst (λ (x : Point). IsTrue (at_or_before (last_point p es) x)) same h.1.1;
}

text-given : (options : ParseOptions) (bytes : List ℕ) (row : Row) (rows : List Row) →
    AreLines options bytes row rows → AreInner row rows →
    IsGiven (rows_events (row ∷ rows)) (unread_group options bytes (Lines row rows))
text-given options bytes row rows are inner =
    let text : List Event = text_unread options bytes row rows in
    let tail : List Event = tail_events n.LineEnding (last_row row rows) in
    subst₂ IsGiven (sym (lines-flat options bytes row rows are inner)) (sym (append_assoc row.front text tail))
    (given-append row.front row.front (text_lines row rows ++ tail) (text ++ tail) (given-same row.front)
    (given-append (text_lines row rows) text tail tail
    (given-one (enter_link n.Content row.first content_link) (begun_lines row rows) text
    (lines-are options bytes row rows are) (lines-balanced options bytes row rows are)
    (nests-to row.first (last_row row rows).end (last_point row.first (begun_lines row rows)) text
    (sym (lines-end row.first row rows)) (text-leaf options bytes row rows are).1.stretch.unread_nested))
    (given-same tail)))

head-given : (options : ParseOptions) (bytes : List ℕ) (row next : Row) (rows : List Row) →
    IsHead options bytes row next → IsHeaded options bytes row next rows →
    IsGiven (row_events row) (row.front ++ (headed_row bytes row).inside ++ tail_events n.LineEnding row)
head-given options bytes row next rows head is =
    let line : List Event = enter_link n.Content row.first content_link ∷ exit n.Content row.end ∷ [] in
    let inside : List Event = (headed_row bytes row).inside in
    let tail : List Event = tail_events n.LineEnding row in
    subst (λ (kind : RowKind). IsGiven (row_events_by kind row) (row.front ++ inside ++ tail)) (sym head.text)
    (given-append (row.front ++ line) (row.front ++ inside) tail tail
    (given-append row.front row.front line inside (given-same row.front)
    (given-one (enter_link n.Content row.first content_link) (exit n.Content row.end ∷ []) inside refl
    (line-balanced row.first row.end)
    (nests-to row.first (past_text (row_line bytes row) row.first) row.end inside (line-end bytes row is.head)
    (head-nests (row_line bytes row) row.first)))) (given-same tail))

group-given : (options : ParseOptions) (bytes : List ℕ) (group : Group) (gs : List Group) →
    AreGroups options bytes (group ∷ gs) → IsInner group → IsGiven (flat_group group) (unread_group options bytes group)
group-given options bytes (Single row) gs are inner = given-same (row_events row)
group-given options bytes (Lines row rows) gs are inner = text-given options bytes row rows are.0 inner
group-given options bytes (Turned row rows under) gs are inner =
    given-append (rows_events (row ∷ rows)) (unread_group options bytes (Lines row rows)) (row_events under)
    (row_events under) (text-given options bytes row rows are.0 inner) (given-same (row_events under))
group-given options bytes (Headed row next rows) gs are inner =
    given-append (row_events row) (row.front ++ (headed_row bytes row).inside ++ tail_events n.LineEnding row)
    (rows_events (next ∷ rows)) (rows_events (next ∷ rows))
    (head-given options bytes row next rows are.0 (headed-is options bytes row next rows are.0 are.1))
    (given-same (rows_events (next ∷ rows)))
group-given options bytes (LeafLines row rows) gs are inner = given-same (rows_events (row ∷ rows))

groups-given : (options : ParseOptions) (bytes : List ℕ) (gs : List Group) → AreGroups options bytes gs →
    EachInner gs → IsGiven (flat_groups gs) (unread_groups options bytes gs)
groups-given options bytes [] are inner = Nothing
groups-given options bytes (group ∷ gs) are inner =
    given-append (flat_group group) (unread_group options bytes group) (flat_groups gs) (unread_groups options bytes gs)
    (group-given options bytes group gs are inner.0)
    (groups-given options bytes gs (more-groups options bytes group gs are) inner.1)

-- All lines.
pub texts-given : (options : ParseOptions) (bytes : List ℕ) (p : Point) (lines : List (List ℕ)) (rows : List Row) →
    AreRows options bytes [] held_leaf.None p lines rows → EachNoContent rows →
    IsGiven (rows_events rows) (unread_groups options bytes (groups rows))
texts-given options bytes p lines rows are quiet =
    subst (λ (l : List Event). IsGiven l (unread_groups options bytes (groups rows))) (sym (groups-flat rows))
    (groups-given options bytes (groups rows)
    (groups-are options bytes [] held_leaf.None p lines rows (refl, refl) are quiet) (groups-inner rows))

-- Where heads were read again, what is read of the other lines nests.

spans-given : (options : ParseOptions) (bytes : List ℕ) (gs : List Group) → AreGroups options bytes gs →
    EachInner gs → IsGiven (flat_groups (as_spans bytes gs)) (unread_groups options bytes gs)
spans-given options bytes [] are inner = Nothing
spans-given options bytes (group ∷ gs) are inner =
    given-append (flat_group (as_span bytes group)) (unread_group options bytes group)
    (flat_groups (as_spans bytes gs)) (unread_groups options bytes gs) (one group are inner.0)
    (spans-given options bytes gs (more-groups options bytes group gs are) inner.1)
  where
    one : (group : Group) → AreGroups options bytes (group ∷ gs) → IsInner group →
        IsGiven (flat_group (as_span bytes group)) (unread_group options bytes group)
    one (Headed row next rows) are inner = given-same (unread_group options bytes (Headed row next rows))
    one (Single row) are inner = group-given options bytes (Single row) gs are inner
    one (Lines row rows) are inner = group-given options bytes (Lines row rows) gs are inner
    one (Turned row rows under) are inner = group-given options bytes (Turned row rows under) gs are inner
    one (LeafLines row rows) are inner = group-given options bytes (LeafLines row rows) gs are inner

pub lines-given : (options : ParseOptions) (bytes : List ℕ) (p : Point) (lines : List (List ℕ)) (rows : List Row) →
    AreRows options bytes [] held_leaf.None p lines rows → EachNoContent rows →
    IsGiven (heads_read options bytes (rows_events rows)) (unread_groups options bytes (groups rows))
lines-given options bytes p lines rows are quiet =
    subst (λ (l : List Event). IsGiven l (unread_groups options bytes (groups rows)))
    (sym
    (heads-rows options bytes [] held_leaf.None p lines rows are quiet ∙ groups-flat (head_rows bytes rows)
    ∙ ap flat_groups (again-groups bytes rows)))
    (spans-given options bytes (groups rows)
    (groups-are options bytes [] held_leaf.None p lines rows (refl, refl) are quiet) (groups-inner rows))
