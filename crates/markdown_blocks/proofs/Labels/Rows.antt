-- The labels of a text: those among the events of its groups are those of the blocks that these are read as.
use Rattle.std.proofs.Common.{◌≡◌, ◌≢◌, ℕ, Bool, true, false, List, [], ◌∷◌, ◌++◌, length, refl, ap, sym, ◌∙◌}
use Rattle.std.proofs.Common.{append_assoc, append-nil, subst, subst₂}
use Rattle.std.specs.Prelude.{Option, Some, None, not}
use Rattle.md_engine.specs.declared.configuration.ParseOptions.{ParseOptions}
use Rattle.md_engine.specs.declared.event.Event.{Event}
use Rattle.md_engine.specs.declared.event.Name.TheVariants as n
use Rattle.md_engine.specs.declared.event.Point.{Point}
use Rattle.md_content.specs.ContentReads.{wants_content}
use Rattle.md_content.specs.Labels.{is_label, labels_in}
use Rattle.md_content.proofs.LabelsLemmas.{has_no_label, labels-skip}
use Rattle.md_meaning.specs.Leaves.{LeafResult}
use Rattle.md_meaning.specs.State.{Container, NoLeaf, shut, texts}
use Rattle.md_meaning.specs.Tree.{Block, End}
use Rattle.md_link_definitions.specs.DefinitionRule.{DefinitionParts}
use Rattle.md_events.specs.Events.Nested.{exit, pair}
use Rattle.md_events.specs.Events.Spelled.{OpenContainer, Reading, add_block, read, role, spelled, unread}
use Rattle.md_events.proofs.PlacesLemmas.{all-append}
use Rattle.md_events.proofs.SpelledLemmas.{Between, QuietOrEnding, read-between, read-from, roles-append}
use Rattle.md_events.proofs.SpelledLemmas.{unmarked-append}
use Rattle.proof_rows.specs.BlockList.{lines_unread, text_unread, turned_unread, unread_lines}
use Rattle.proof_frame.specs.Closed.{close_containers}
use Rattle.proof_frame.specs.EndingName.{ending_name}
use Rattle.proof_frame.specs.TextLines.{text_leaf}
use Rattle.md_registry.specs.Registry.{further_of, leaf}
use Rattle.proof_rows.specs.Rows.{front_done, Group, Headed, Lines, Single, LeafLines, Turned, defined_done}
use Rattle.proof_rows.specs.Rows.{group_events, leaf_done, leaf_events, groups_events, lines_done, heading_done}
use Rattle.proof_rows.specs.Rows.{row_events, rows_events, tail_events, text_done, turned_done}
use Rattle.proof_frame.specs.Row.{BlankRow, LeafRow, Row, RowKind, TextRow, is_blank_by, span_done, ending_of, last_row}
use Rattle.proof_content_laws.specs.Defined.{defined_unread}
use Rattle.proof_leaf_laws.specs.Headed.{headed_done}
use Rattle.proof_rows.specs.Unread.{headed_lines, unread_group, unread_groups}
use Rattle.proof_frame.proofs.ContentFacts.{content-alone, no_content-label}
use Rattle.proof_content_laws.proofs.Defined.Facts.{defined-facts}
use Rattle.proof_content_laws.proofs.Defined.Form.{form_block, form_done}
use Rattle.proof_content_laws.proofs.Defined.Is.{IsDefined}
use Rattle.proof_frame.proofs.FrontFacts.{LinePrefix}
use Rattle.proof_frame.proofs.FrontNames.{HasFront, fronts-unmarked}
use Rattle.proof_rows.proofs.GroupFacts.{span-block}
use Rattle.proof_rows.proofs.GroupLines.{AreGroups, AreLines, AreSpan, Begins, IsHead, IsLeft, IsSingle, IsUnder}
use Rattle.proof_rows.proofs.GroupLines.{following-first, line-further, line-of, span-begins, kept-of}
use Rattle.proof_rows.proofs.GroupLemmas.{headed-quiet, spans-quiet, under-quiet}
use Rattle.proof_rows.proofs.HeadedTable.{IsHeaded, headed-facts, headed-is, headed_block}
use Rattle.proof_rows.proofs.JoinedLemmas.{EachNoContent, HasNoContent, ending-other, has_front-no_content}
use Rattle.proof_rows.proofs.JoinedLemmas.{tail-no_content}
use Rattle.proof_content_laws.proofs.Labels.Groups.{form-label, front-none}
use Rattle.proof_rows.proofs.Labels.Leaves.{line-unlabelled, lines-unlabelled, shut-unlabelled}
use Rattle.proof_content_laws.proofs.Labels.Reading.{labels-added, labels-closed, labels-enters, labels-shown}
use Rattle.proof_content_laws.proofs.Labels.Reading.{read_labels, outer_labels, shown_labels}
use Rattle.proof_content_laws.proofs.Labels.Trees.{defined_by, defined_in}
use Rattle.proof_frame.proofs.LeafFacts.{shown}
use Rattle.md_registry.proofs.SpanLeaves.{span-laws}
use Rattle.proof_rows.proofs.RowLeaf.{block_of, row-facts}
use Rattle.proof_frame.proofs.SpanLaws.{becomes_after}
use Rattle.markdown_blocks.proofs.SpelledLines.{read-fronts, read-tail}
use Rattle.proof_frame.proofs.ParagraphLines.{fronts-between}
use Rattle.proof_frame.proofs.Enters.{enters}
use Rattle.markdown_blocks.proofs.SpelledPaths.{close_containers-between}
use Rattle.proof_rows.proofs.Text.Cut.{IsCutText, between}
use Rattle.proof_rows.proofs.Text.Cut.IsCutText.{Defines, Follows, Remains}
use Rattle.proof_rows.proofs.Text.Cuts.{cut-is}
use Rattle.proof_rows.proofs.Text.Facts.{text-facts}
use Rattle.proof_rows.proofs.Text.Valid.{done-is}
use Rattle.proof_rows.proofs.Turned.Cut as headings
use Rattle.proof_rows.proofs.Turned.Cut.{IsCutHeading, heading-cut, left-remains}
use Rattle.proof_rows.proofs.Turned.Facts.{turned-block, turned-facts}

-- Events in which these labels are, and those once their texts are read: read between blocks, they show blocks with
-- these labels.
record Labelled (bytes : List ℕ) (unread done : List Event) : Type 0 where
  own : List (List ℕ)
  recorded : (more : List Event) → labels_in bytes (unread ++ more) ≡ own ++ labels_in bytes more
  reads : (r : Reading) → r.text ≡ None → r.leaf ≡ None →
      (labels : read_labels (read bytes r done) ≡ read_labels r ++ own) × (text : (read bytes r done).text ≡ None)
      × ((read bytes r done).leaf ≡ None)

labelled-append : (bytes : List ℕ) (us ds vs es : List Event) → Labelled bytes us ds → Labelled bytes vs es →
    Labelled bytes (us ++ vs) (ds ++ es)
labelled-append bytes us ds vs es h k = record {
  own = h.own ++ k.own;
  recorded = λ more.
      ap (labels_in bytes) (append_assoc us vs more) ∙ h.recorded (vs ++ more)
      ∙ ap (λ (l : List (List ℕ)). h.own ++ l) (k.recorded more)
      ∙ sym (append_assoc h.own k.own (labels_in bytes more));
  reads = λ r text shut.
      let first = h.reads r text shut in
      let mid : Reading = read bytes r ds in
      let second = k.reads mid first.1 first.2 in
      let same : read bytes r (ds ++ es) ≡ read bytes mid es = read-from bytes r mid ds es refl in (
        ap read_labels same ∙ second.0 ∙ ap (λ (l : List (List ℕ)). l ++ k.own) first.0
            ∙ append_assoc (read_labels r) h.own k.own,
        ap (λ (x : Reading). x.text) same ∙ second.1,
        ap (λ (x : Reading). x.leaf) same ∙ second.2,
      );
}

-- Events that show no block with a label.
abbrev Quiet : List ℕ → List Event → Type 0
Quiet bytes ds =
    (r : Reading) → r.text ≡ None → r.leaf ≡ None →
    (labels : read_labels (read bytes r ds) ≡ read_labels r) × (text : (read bytes r ds).text ≡ None)
    × ((read bytes r ds).leaf ≡ None)

quiet-append : (bytes : List ℕ) (ds es : List Event) → Quiet bytes ds → Quiet bytes es → Quiet bytes (ds ++ es)
quiet-append bytes ds es h k = λ r text shut.
    let first = h r text shut in
    let mid : Reading = read bytes r ds in
    let second = k mid first.1 first.2 in
    let same : read bytes r (ds ++ es) ≡ read bytes mid es = read-from bytes r mid ds es refl in (
      ap read_labels same ∙ second.0 ∙ first.0,
      ap (λ (x : Reading). x.text) same ∙ second.1,
      ap (λ (x : Reading). x.leaf) same ∙ second.2,
    )

-- with no label among them
none-labelled : (bytes : List ℕ) (us ds : List Event) → has_no_label us ≡ true → Quiet bytes ds → Labelled bytes us ds
none-labelled bytes us ds none reads = record {
  own = [];
  recorded = λ more. labels-skip bytes us more none;
  reads = λ r text shut.
      let is = reads r text shut in (is.0 ∙ sym (append-nil (read_labels r)), is.1, is.2);
}

-- so of a leaf that shows this block, or none
leaf-quiet : (bytes : List ℕ) (ds : List Event) (block : Option Block) → shown_labels block ≡ [] →
    ((r : Reading) → r.text ≡ None → r.leaf ≡ None → read bytes r ds ≡ shown block r) → Quiet bytes ds
leaf-quiet bytes ds block quiet reads = λ r text shut.
    let is = reads r text shut in
    let kept = go block r text shut in (
      ap read_labels is ∙ labels-shown block r ∙ ap (λ (l : List (List ℕ)). read_labels r ++ l) quiet
          ∙ append-nil (read_labels r),
      ap (λ (x : Reading). x.text) is ∙ kept.0,
      ap (λ (x : Reading). x.leaf) is ∙ kept.1,
    )
  where
    go : (block : Option Block) (r : Reading) → r.text ≡ None → r.leaf ≡ None →
        (text : (shown block r).text ≡ None) × ((shown block r).leaf ≡ None)
    go None r text shut = (text, shut)
    go (Some b) r text shut = (text, shut)

leaf-labelled : (bytes : List ℕ) (us ds : List Event) (block : Option Block) → has_no_label us ≡ true →
    shown_labels block ≡ [] →
    ((r : Reading) → r.text ≡ None → r.leaf ≡ None → read bytes r ds ≡ shown block r) →
    Labelled bytes us ds
leaf-labelled bytes us ds block none quiet reads =
    none-labelled bytes us ds none (leaf-quiet bytes ds block quiet reads)

-- OpenContainer leaves.

enters-between : (cs : List Container) (r : Reading) → r.text ≡ None → r.leaf ≡ None →
    (text : (enters cs r).text ≡ None) × ((enters cs r).leaf ≡ None)
enters-between [] r text shut = (text, shut)
enters-between (c ∷ cs) r text shut = enters-between cs _ text shut

front-quiet : (bytes : List ℕ) (row : Row) → HasFront bytes row → Quiet bytes (front_done bytes row)
front-quiet bytes row front = λ r text shut.
    let is : read bytes r (front_done bytes row) ≡ enters row.change.opens r =
    read-fronts bytes row.change.opens front.0 row.first (front_done bytes row) r front.2.is text shut in
    let kept = enters-between row.change.opens r text shut in (
      ap read_labels is ∙ labels-enters row.change.opens r,
      ap (λ (x : Reading). x.text) is ∙ kept.0,
      ap (λ (x : Reading). x.leaf) is ∙ kept.1,
    )

front-labelled : (bytes : List ℕ) (row : Row) → HasFront bytes row → Labelled bytes row.front (front_done bytes row)
front-labelled bytes row front =
    none-labelled bytes row.front (front_done bytes row)
    (no_content-label wants_content row.front (has_front-no_content wants_content content-alone bytes row front))
    (front-quiet bytes row front)

tail-quiet : (bytes : List ℕ) (blank : Bool) (row : Row) → Quiet bytes (tail_events (ending_name blank) row)
tail-quiet bytes blank row = λ r text shut.
    let is : read bytes r (tail_events (ending_name blank) row) ≡ close_containers (length row.closed_after) r =
    read-tail bytes (ending_name blank) row r (role-between blank) text shut in
    let kept = close_containers-between (length row.closed_after) r text shut in (
      ap read_labels is ∙ labels-closed (length row.closed_after) r,
      ap (λ (x : Reading). x.text) is ∙ kept.0,
      ap (λ (x : Reading). x.leaf) is ∙ kept.1,
    )
  where
    role-between : (blank : Bool) → QuietOrEnding (role (ending_name blank))
    role-between true = tt
    role-between false = tt

tail-labelled : (bytes : List ℕ) (blank : Bool) (row : Row) →
    Labelled bytes (tail_events (ending_name blank) row) (tail_events (ending_name blank) row)
tail-labelled bytes blank row =
    none-labelled bytes (tail_events (ending_name blank) row) (tail_events (ending_name blank) row)
    (no_content-label wants_content (tail_events (ending_name blank) row)
    (tail-no_content wants_content (ending_name blank) row (ending-other blank)))
    (tail-quiet bytes blank row)

-- between two blocks of a text
between-labelled : (bytes : List ℕ) (p q r : Point) (front : List Event) → LinePrefix bytes [] q r front →
    Labelled bytes (between p q front) (between p q front)
between-labelled bytes p q r front is =
    none-labelled bytes (between p q front) (between p q front)
    (all-append (λ (e : Event). not (is_label e.name)) (pair n.LineEnding p q) front refl
    (front-none bytes q r front is))
    (λ r text shut.
    let same : read bytes r (between p q front) ≡ r =
    read-between bytes r (between p q front) text shut
    (roles-append Between (pair n.LineEnding p q) front (tt, (tt, tt)) (fronts-between bytes [] q _ front is refl))
    (unmarked-append bytes (pair n.LineEnding p q) front (tt, (tt, tt)) (fronts-unmarked bytes q _ front is)) in (
      ap read_labels same,
      ap (λ (x : Reading). x.text) same ∙ text,
      ap (λ (x : Reading). x.leaf) same ∙ shut,
    ))

-- The lines of a text.

lines-none : (options : ParseOptions) (bytes : List ℕ) (row : Row) (rows : List Row) →
    AreLines options bytes row rows → has_no_label (unread_lines row rows) ≡ true
lines-none options bytes row [] are = refl
lines-none options bytes row (next ∷ rows) are =
    all-append (λ (e : Event). not (is_label e.name)) next.front (unread_lines next rows)
    (front-none bytes are.3 next.first next.front are.6) (lines-none options bytes next rows are.7)

text-none : (options : ParseOptions) (bytes : List ℕ) (row : Row) (rows : List Row) → AreLines options bytes row rows →
    has_no_label (lines_unread row rows) ≡ true
text-none options bytes row rows are =
    all-append (λ (e : Event). not (is_label e.name)) (unread_lines row rows)
    (exit text_leaf.name (last_row row rows).end ∷ []) (lines-none options bytes row rows are) refl

text-labelled : (options : ParseOptions) (bytes : List ℕ) (row : Row) (rows : List Row) →
    AreLines options bytes row rows → Labelled bytes (lines_unread row rows) (lines_done bytes row rows)
text-labelled options bytes row rows are =
    leaf-labelled bytes (lines_unread row rows) (lines_done bytes row rows)
    (Some (text_leaf.block (texts (kept-of options bytes row rows are)))) (text-none options bytes row rows are) refl
    (text-facts options bytes row rows are).reads

defined-labelled : (bytes : List ℕ) (d : DefinitionParts) (row : Row) (rows : List Row) → IsDefined bytes d row rows →
    Labelled bytes (defined_unread d row rows) (defined_done bytes d row rows)
defined-labelled bytes d row rows is =
    subst₂ (Labelled bytes) (sym is.unread) (sym (done-is bytes d row rows is))
    (record {
      own = defined_by (form_block is.form);
      recorded = λ more. form-label bytes is.form is.following_gap is.after_target is.is more;
      reads = λ r text shut.
          let reads : read bytes r (form_done bytes is.form) ≡ add_block (form_block is.form) r =
          (defined-facts bytes is.form is.following_gap is.after_target is.is).reads r text shut in (
            ap read_labels reads ∙ labels-added (form_block is.form) r,
            ap (λ (x : Reading). x.text) reads ∙ text,
            ap (λ (x : Reading). x.leaf) reads ∙ shut,
          );
    })

-- with what follows after it
definition-labelled : (bytes : List ℕ) (d : DefinitionParts) (row : Row) (own : List Row) (next : Row) (q : Point)
    (us ds : List Event) →
    IsDefined bytes d row own → LinePrefix bytes [] q next.first next.front → Labelled bytes us ds →
    Labelled bytes (defined_unread d row own ++ between (last_row row own).end q next.front ++ us)
    (defined_done bytes d row own ++ between (last_row row own).end q next.front ++ ds)
definition-labelled bytes d row own next q us ds is front more =
    let gap : List Event = between (last_row row own).end q next.front in
    labelled-append bytes (defined_unread d row own ++ gap) (defined_done bytes d row own ++ gap) us ds
    (labelled-append bytes (defined_unread d row own) (defined_done bytes d row own) gap gap
    (defined-labelled bytes d row own is)
    (between-labelled bytes (last_row row own).end q next.first next.front front))
    more

cut-labelled : (options : ParseOptions) (bytes : List ℕ) (row : Row) (rows : List Row) (us ds : List Event) →
    IsCutText options bytes row rows us ds → Labelled bytes us ds
cut-labelled options bytes row rows _ _ (Remains _ _ are) = text-labelled options bytes row rows are
cut-labelled options bytes row rows _ _ (Defines d _ _ are is) = defined-labelled bytes d row rows is
cut-labelled options bytes row _ _ _ (Follows d _ own next more q es fs are is after ending front cut) =
    definition-labelled bytes d row own next q es fs is front (cut-labelled options bytes next more es fs cut)

-- Groups.

inside-none : (row : Row) (kind : RowKind) → kind ≢ TextRow → HasNoContent row →
    has_no_label (leaf_events kind row) ≡ true
inside-none row BlankRow other quiet = no_content-label wants_content row.inside (quiet wants_content content-alone)
inside-none row (LeafRow l) other quiet = no_content-label wants_content row.inside (quiet wants_content content-alone)
inside-none row TextRow other quiet = absurd (other refl)

single-labelled : (options : ParseOptions) (bytes : List ℕ) (row : Row) → IsSingle options bytes row →
    Labelled bytes (unread_group options bytes (Single row)) (group_events options bytes (Single row))
single-labelled options bytes row is =
    let us : List Event = leaf_events row.kind row in
    let ds : List Event = leaf_done bytes row.kind row in
    let tail : List Event = tail_events (ending_of row.kind row) row in
    labelled-append bytes (row.front ++ us) (front_done bytes row ++ ds) tail tail
    (labelled-append bytes row.front (front_done bytes row) us ds (front-labelled bytes row is.front)
    (leaf-labelled bytes us ds (block_of row.kind is.is.rest) (inside-none row row.kind is.other is.quiet)
    (line-unlabelled row.kind is.is.rest) (row-facts options bytes is.line row is.is is.other is.ends).reads))
    (tail-labelled bytes (is_blank_by row.kind row) row)

-- the lines of a leaf of several show no block with a label
span-quiet : (options : ParseOptions) (bytes : List ℕ) (row : Row) (rows : List Row) →
    (are : AreSpan options bytes row rows) → Begins row → defined_by (span-block options bytes row rows are) ≡ []
span-quiet options bytes row rows are begins =
    let is = span-begins options bytes row rows are in
    let line = line-of options bytes row is in
    let following = following-first options bytes row rows are in
    let block : Block = span-block options bytes row rows are in
    let c : LeafResult = becomes_after options bytes (leaf (further_of is.name)) row rows following
    ((leaf is.name).becomes options NoLeaf line.rest) in
    sym (append-nil (defined_by block))
    ∙ ap defined_in
    (sym ((span-laws is.name is.open_leaf).shuts options bytes row rows line
    (line-further options bytes row is false begins) following End))
    ∙ shut-unlabelled options End c (lines-unlabelled options bytes is.name (further_of is.name) row
    rows following line.rest)

span-labelled : (options : ParseOptions) (bytes : List ℕ) (row : Row) (rows : List Row) →
    AreSpan options bytes row rows → EachNoContent (row ∷ rows) → Begins row →
    Labelled bytes (unread_group options bytes (LeafLines row rows)) (group_events options bytes (LeafLines row rows))
span-labelled options bytes row rows are quiet begins =
    let is = span-begins options bytes row rows are in
    let last : Row = last_row row rows in
    let ds : List Event = span_done bytes row rows in
    let tail : List Event = tail_events (ending_of last.kind last) last in
    let facts = (span-laws is.name is.open_leaf).facts options bytes row rows (line-of options bytes row is)
    (line-further options bytes row is false begins) (following-first options bytes row rows are) in
    none-labelled bytes (rows_events (row ∷ rows)) ((front_done bytes row ++ ds) ++ tail)
    (no_content-label wants_content (rows_events (row ∷ rows))
    (spans-quiet options bytes wants_content row rows are quiet content-alone))
    (quiet-append bytes (front_done bytes row ++ ds) tail
    (quiet-append bytes (front_done bytes row) ds (front-quiet bytes row is.front)
    (leaf-quiet bytes ds (Some (span-block options bytes row rows are)) (span-quiet options bytes row rows are begins)
    facts.reads))
    (tail-quiet bytes (is_blank_by last.kind last) last))

-- a text and the line that turns it, where no definition is at its front
heading-labelled : (options : ParseOptions) (bytes : List ℕ) (row : Row) (rows : List Row) (under : Row) →
    AreLines options bytes row rows → IsUnder options bytes (last_row row rows) under →
    Labelled bytes (lines_unread row rows) (heading_done bytes under row rows)
heading-labelled options bytes row rows under are is =
    leaf-labelled bytes (lines_unread row rows) (heading_done bytes under row rows)
    (Some (turned-block options bytes row rows under are is)) (text-none options bytes row rows are) refl
    (turned-facts options bytes row rows under are is).reads

-- and where some do
cut_heading-labelled : (options : ParseOptions) (bytes : List ℕ) (under row : Row) (rows : List Row)
    (ts es fs : List Event) →
    IsCutHeading options bytes under row rows ts es fs → Labelled bytes ts fs
cut_heading-labelled options bytes under row rows _ _ _ (headings.Turned _ _ are is) =
    heading-labelled options bytes row rows under are is
cut_heading-labelled options bytes under row _ _ _ _
    (headings.Follows d _ own next more q ts es fs are is after ending front cut) =
    definition-labelled bytes d row own next q ts fs is front
    (cut_heading-labelled options bytes under next more ts es fs cut)

turned-labelled : (options : ParseOptions) (bytes : List ℕ) (row : Row) (rows : List Row) (under : Row) →
    (are : AreLines options bytes row rows) → IsUnder options bytes (last_row row rows) under →
    IsLeft options bytes row rows are → HasFront bytes row →
    Labelled bytes (unread_group options bytes (Turned row rows under))
    (group_events options bytes (Turned row rows under))
turned-labelled options bytes row rows under are is left front =
    let last : Row = last_row row rows in
    let ts : List Event = text_unread options bytes row rows in
    let fs : List Event = turned_done options bytes row rows under in
    let line : List Event = tail_events n.LineEnding last in
    let tail : List Event = tail_events (ending_of under.kind under) under in
    subst (λ (us : List Event). Labelled bytes us ((front_done bytes row ++ fs) ++ tail))
    (sym (append_assoc (row.front ++ ts) line (row_events under)))
    (labelled-append bytes (row.front ++ ts) (front_done bytes row ++ fs) (line ++ row_events under) tail
    (labelled-append bytes row.front (front_done bytes row) ts fs (front-labelled bytes row front)
    (cut_heading-labelled options bytes under row rows ts (turned_unread options bytes row rows under) fs
    (heading-cut options bytes row rows under are is (left-remains options bytes row rows are left))))
    (none-labelled bytes (line ++ row_events under) tail
    (all-append (λ (e : Event). not (is_label e.name)) line (row_events under)
    (no_content-label wants_content line (tail-no_content wants_content n.LineEnding last refl))
    (no_content-label wants_content (row_events under)
    (under-quiet options bytes wants_content last under is content-alone)))
    (tail-quiet bytes (is_blank_by under.kind under) under)))

-- a line of text that is the head of a table, with the lines of that
headed-labelled : (options : ParseOptions) (bytes : List ℕ) (row next : Row) (rows : List Row) →
    IsHead options bytes row next → AreSpan options bytes next rows → HasFront bytes row → EachNoContent (next ∷ rows) →
    Labelled bytes (unread_group options bytes (Headed row next rows))
    (group_events options bytes (Headed row next rows))
headed-labelled options bytes row next rows head are front quiet =
    let is : IsHeaded options bytes row next rows = headed-is options bytes row next rows head are in
    let last : Row = last_row next rows in
    let ds : List Event = headed_done bytes row next rows in
    let tail : List Event = tail_events (ending_of last.kind last) last in
    none-labelled bytes (headed_lines bytes row next rows) ((front_done bytes row ++ ds) ++ tail)
    (no_content-label wants_content (headed_lines bytes row next rows)
    (headed-quiet options bytes wants_content row next rows are front quiet content-alone))
    (quiet-append bytes (front_done bytes row ++ ds) tail
    (quiet-append bytes (front_done bytes row) ds (front-quiet bytes row front)
    (leaf-quiet bytes ds (Some (headed_block options bytes row next rows is)) refl
    (headed-facts options bytes row next rows is).reads))
    (tail-quiet bytes (is_blank_by last.kind last) last))

groups-labelled : (options : ParseOptions) (bytes : List ℕ) (gs : List Group) → AreGroups options bytes gs →
    Labelled bytes (unread_groups options bytes gs) (groups_events options bytes gs)
groups-labelled options bytes [] are = none-labelled bytes [] [] refl (λ r text shut. (refl, text, shut))
groups-labelled options bytes (Single row ∷ gs) are =
    labelled-append bytes (unread_group options bytes (Single row)) (group_events options bytes (Single row))
    (unread_groups options bytes gs) (groups_events options bytes gs) (single-labelled options bytes row are.0)
    (groups-labelled options bytes gs are.1)
groups-labelled options bytes (Lines row rows ∷ gs) are =
    let us : List Event = text_unread options bytes row rows in
    let ds : List Event = text_done options bytes row rows in
    let tail : List Event = tail_events n.LineEnding (last_row row rows) in
    labelled-append bytes (unread_group options bytes (Lines row rows)) (group_events options bytes (Lines row rows))
    (unread_groups options bytes gs) (groups_events options bytes gs)
    (labelled-append bytes (row.front ++ us) (front_done bytes row ++ ds) tail tail
    (labelled-append bytes row.front (front_done bytes row) us ds (front-labelled bytes row are.2)
    (cut-labelled options bytes row rows us ds (cut-is options bytes row rows are.0)))
    (tail-labelled bytes false (last_row row rows)))
    (groups-labelled options bytes gs are.3)
groups-labelled options bytes (Turned row rows under ∷ gs) are =
    labelled-append bytes (unread_group options bytes (Turned row rows under))
    (group_events options bytes (Turned row rows under)) (unread_groups options bytes gs)
    (groups_events options bytes gs) (turned-labelled options bytes row rows under are.0 are.1 are.5 are.3)
    (groups-labelled options bytes gs are.4)
groups-labelled options bytes (Headed row next rows ∷ gs) are =
    labelled-append bytes (unread_group options bytes (Headed row next rows))
    (group_events options bytes (Headed row next rows)) (unread_groups options bytes gs)
    (groups_events options bytes gs) (headed-labelled options bytes row next rows are.0 are.1 are.3 are.5)
    (groups-labelled options bytes gs are.4)
groups-labelled options bytes (LeafLines row rows ∷ gs) are =
    labelled-append bytes (unread_group options bytes (LeafLines row rows))
    (group_events options bytes (LeafLines row rows))
    (unread_groups options bytes gs) (groups_events options bytes gs)
    (span-labelled options bytes row rows are.0 are.3 are.4) (groups-labelled options bytes gs are.2)

-- What is found among the events of a text that is read as this tree is what the tree has.
pub rows-labels : (options : ParseOptions) (bytes : List ℕ) (gs : List Group) → AreGroups options bytes gs →
    (read bytes unread (groups_events options bytes gs)).outer ≡ [] →
    labels_in bytes (unread_groups options bytes gs) ≡ defined_in (spelled (groups_events options bytes gs) bytes)
unfolding spelled
rows-labels options bytes gs are none =
    let h = groups-labelled options bytes gs are in
    let us : List Event = unread_groups options bytes gs in
    let r : Reading = read bytes unread (groups_events options bytes gs) in
    ap (labels_in bytes) (sym (append-nil us)) ∙ h.recorded [] ∙ append-nil h.own
    ∙ sym (h.reads unread refl refl).0
    ∙ ap (λ (outer : List OpenContainer). outer_labels outer ++ defined_in r.here) none
