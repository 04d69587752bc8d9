-- Lines of text that follow one another, joined.
use Rattle.md_engine.specs.declared.tokenizer.held_leaf.HeldLeaf.{HeldLeaf}
use Rattle.std.proofs.Common.{◌≡◌, ◌≢◌, ℕ, zero, suc, Bool, true, false, cond, ◌&&◌, List, [], ◌∷◌, ◌++◌, refl, ap, sym}
use Rattle.std.proofs.Common.{append-nil, ◌∙◌, subst, append_assoc}
use Rattle.proof_frame.specs.EndingName.{ending_name}
use Rattle.md_registry.specs.Registry.{leaf}
use Rattle.proof_rows.specs.Rows.{Headed, LeafLines, Turned, is_further, is_last, onto_leaf, onto_underline, takes_head}
use Rattle.proof_rows.specs.Rows.{after_held, Group, Held, Lines, Single, groups, held_at, inside_of, leaf_events}
use Rattle.proof_rows.specs.Rows.{onto_groups, row_events, row_events_by, row_kind, rows_at, rows_by, rows_events}
use Rattle.proof_rows.specs.Rows.{tail_events}
use Rattle.std.specs.Prelude.{Option, Some, None, not}
use Rattle.std.proofs.lemmas.Bool.{and_parts, and_right}
use Rattle.md_engine.specs.declared.configuration.ParseOptions.{ParseOptions}
use Rattle.md_engine.specs.declared.event.Content.{Content}
use Rattle.md_engine.specs.declared.event.Content.TheVariants as content
use Rattle.md_engine.specs.declared.event.Event.{Event}
use Rattle.md_engine.specs.declared.event.Kind.{Kind}
use Rattle.md_engine.specs.declared.event.Kind.TheVariants.{Enter, Exit}
use Rattle.md_engine.specs.declared.event.Link.{Link}
use Rattle.md_engine.specs.declared.event.Name.{Name}
use Rattle.md_engine.specs.declared.event.Name.TheVariants as n
use Rattle.md_engine.specs.declared.event.Point.{Point}
use Rattle.md_engine.specs.Meaning.{Cell}
use Rattle.md_content.specs.Chunks.{content_link}
use Rattle.md_content.specs.Joined.{content_after, is_continued, is_content, joined}
use Rattle.md_events.specs.Ahead.{begins_white, from_ending, line_end}
use Rattle.md_events.specs.Events.Inline.{is_line_ending}
use Rattle.md_events.specs.Events.Nested.{enter_link, exit, pair, is_enter, is_exit}
use Rattle.md_meaning.specs.State.{Container}
use Rattle.md_events.specs.Events.Prefix.{is_prefix}
use Rattle.md_events.specs.Substituted.{wanted, wanted_at}
use Rattle.proof_frame.specs.Change.{ends_of, is_none, open_following}
use Rattle.proof_frame.specs.Row.{BlankRow, Row, RowKind, TextRow, after_row, ending_events, ending_of, last_row}
use Rattle.proof_frame.specs.Row.{LeafRow, is_blank_by}
use Rattle.proof_rows.specs.Unread.{joined_groups}
use Rattle.proof_frame.specs.UnreadText.{linked_lines}
use Rattle.proof_frame.proofs.FrontNames.{HasFront, ends-first, fronts-are, fronts-prefixes, fronts-stop}
use Rattle.proof_frame.proofs.FrontNames.{prefixes-content}
use Rattle.proof_frame.proofs.EventNames.{front-content, is_recorded, recorded-content}
use Rattle.proof_frame.proofs.LeafLines.Cuts.{ending-is}
use Rattle.md_registry.proofs.Registry.{laws}
use Rattle.proof_rows.proofs.TextGroups.{HeadsNone, NoHeads, groups-unheaded, onto_text}
use Rattle.proof_rows.proofs.TextGroups.{lines-first, text-onto, text_group}
use Rattle.proof_frame.proofs.ContentFacts.{NoContent, WantsContent, no_content-append, nothing, nothing-wanted}
use Rattle.proof_frame.proofs.PrefixNames.{AreFront, is_alone, is_string}
use Rattle.proof_frame.proofs.ContainerNames.{container-facts, end-stops}
use Rattle.proof_frame.specs.ContainerNames.{container_name}

-- no content is inside a line, and its links are to text
abbrev pub HasNoContent : Row → Type 0
HasNoContent row = (wants : Content → Bool) → WantsContent wants → NoContent wants row.inside

abbrev pub EachNoContent : List Row → Type 0
EachNoContent [] = Unit {0}
EachNoContent (row ∷ rows) = HasNoContent row × EachNoContent rows

-- Lines as flow reads them.

white-no_content : (wants : Content → Bool) (x : Bool) (p q : Point) →
    NoContent wants (cond x (pair n.SpaceOrTab p q) [])
white-no_content wants true p q = (refl, refl, (refl, refl, tt))
white-no_content wants false p q = tt

inside-no_content : (wants : Content → Bool) → WantsContent wants →
    (options : ParseOptions) (on : HeldLeaf) (cells : List Cell) (p : Point) (kind : RowKind) →
    NoContent wants (inside_of options on cells p kind)
inside-no_content wants w options on cells p BlankRow = white-no_content wants (begins_white cells) p (line_end cells p)
inside-no_content wants w options on cells p (LeafRow l) = (laws l).no_content wants w options on cells p
inside-no_content wants w options on cells p TextRow = tt

-- no content is inside the lines that flow reads
pub rows_at-no_content : (options : ParseOptions) (size : ℕ) (open_before : List Container) (still : HeldLeaf)
    (cells : List Cell) (p : Point) →
    EachNoContent (rows_at options size open_before still cells p)
rows_at-no_content options zero open_before still cells p = tt
rows_at-no_content options (suc size) open_before still cells p =
    by (rows_at-no_content options size) (held_at options open_before still cells p)
  where
    by : ((open_before : List Container) (still : HeldLeaf) (cells : List Cell) (p : Point) →
        EachNoContent (rows_at options size open_before still cells p)) →
        (h : Held) → EachNoContent (rows_by options h (rows_at options size))
    by further h = (
      λ wants w.
          inside-no_content wants w options h.on h.cells h.point (row_kind options h.on h.cells),
      go (from_ending h.cells),
    )
      where
        go : (rest : List Cell) →
            EachNoContent
            (elim rest [
              | [] ↦ []
              | c ∷ cs ↦ rows_at options size (open_following h.change) (after_held options h) cs c.after
            ])
        go [] = tt
        go (c ∷ cs) = further (open_following h.change) (after_held options h) cs c.after

-- Their events.

pub ending-no_content : (wants : Content → Bool) (name : Name) (row : Row) → is_recorded name ≡ false →
    NoContent wants (ending_events name row)
ending-no_content wants name row h = go row.after
  where
    go : (after : Option Point) → NoContent wants (elim after [ None ↦ [] | Some q ↦ pair name row.end q ])
    go None = tt
    go (Some q) = (refl, h, (refl, h, tt))

-- a chunk that is read as a string is no content
alone-unwanted : (wants : Content → Bool) → WantsContent wants → (e : Event) → is_alone e.link ≡ true →
    wanted wants e ≡ None
alone-unwanted wants w e h = go e.kind e.link h
  where
    string : (link : Link) → (c : Content) → link.content ≡ c → is_string c ≡ true → wants c ≡ false
    string link content.String e h = w.string
    string link _ e h = cc

    go : (kind : Kind) (link : Option Link) → is_alone link ≡ true → wanted_at wants kind link ≡ None
    go Exit link h = refl
    go Enter None h = refl
    go Enter (Some link) h =
        ap (λ (x : Bool). cond x (Some link.content) None)
        (string link link.content refl (and_parts (is_string link.content) (not link.previous) h).0)

-- what is before a line
pub front-no_content : (wants : Content → Bool) → WantsContent wants → (es : List Event) → AreFront es →
    NoContent wants es
front-no_content wants w [] h = tt
front-no_content wants w (e ∷ es) h =
    (alone-unwanted wants w e h.0.1, front-content e.name h.0.0, front-no_content wants w es h.1)

pub has_front-no_content : (wants : Content → Bool) → WantsContent wants → (bytes : List ℕ) (row : Row) →
    HasFront bytes row → NoContent wants row.front
has_front-no_content wants w bytes row h =
    front-no_content wants w row.front (fronts-are bytes row.change.opens h.0 row.first row.front h.1)

pub ends-no_content : (wants : Content → Bool) (cs : List Container) (p : Point) → NoContent wants (ends_of cs p)
ends-no_content wants [] p = tt
ends-no_content wants (c ∷ cs) p =
    no_content-append wants (ends_of cs p) (exit (container_name c) p ∷ []) (ends-no_content wants cs p)
    (refl, front-content (container_name c) (container-facts c).front, tt)

-- and after it
pub tail-no_content : (wants : Content → Bool) (name : Name) (row : Row) → is_recorded name ≡ false →
    NoContent wants (tail_events name row)
tail-no_content wants name row h =
    no_content-append wants (ends_of row.closed_after row.end) (ending_events name row)
    (ends-no_content wants row.closed_after row.end) (ending-no_content wants name row h)

-- the name of an ending is not that of content
pub ending-other : (blank : Bool) → is_recorded (ending_name blank) ≡ false
ending-other true = refl
ending-other false = refl

-- what a line adds that is not text
pub events-no_content : (wants : Content → Bool) (row : Row) (kind : RowKind) → row.kind ≡ kind → kind ≢ TextRow →
    NoContent wants row.front → NoContent wants row.inside → NoContent wants (row_events row)
events-no_content wants row kind e other front h =
    subst (λ (k : RowKind). NoContent wants (row_events_by k row)) (sym e)
    (no_content-append wants (row.front ++ leaf_events kind row) (tail_events (ending_of kind row) row)
    (no_content-append wants row.front (leaf_events kind row) front (leaf kind other))
    (tail-no_content wants (ending_of kind row) row (ending-other (is_blank_by kind row))))
  where
    leaf : (kind : RowKind) → kind ≢ TextRow → NoContent wants (leaf_events kind row)
    leaf BlankRow other = h
    leaf (LeafRow l) other = h
    leaf TextRow other = absurd (other refl)

-- Joining.

joined-one : (e : Event) (es : List Event) → (is_exit e.kind && is_content e.name) ≡ false →
    joined (e ∷ es) ≡ e ∷ joined es
joined-one e [] h = refl
joined-one e (f ∷ []) h = refl
joined-one e (f ∷ g ∷ es) h =
    ap
    (λ (x : Bool).
    cond (x && is_continued (f ∷ g ∷ es)) (record e { point = g.point } ∷ joined es) (e ∷ joined (f ∷ g ∷ es))) h

-- what is not content stays as it is
pub joined-passes : (xs ys : List Event) → NoContent nothing xs → joined (xs ++ ys) ≡ xs ++ joined ys
joined-passes [] ys h = refl
joined-passes (e ∷ xs) ys h =
    joined-one e (xs ++ ys) (and_right (is_exit e.kind) (is_content e.name) (recorded-content e.name h.1))
    ∙ ap (λ (l : List Event). e ∷ l) (joined-passes xs ys h.2)

-- and no line of content continues over it
following-passes : (xs ys : List Event) → NoContent nothing xs → content_after ys ≡ false →
    content_after (xs ++ ys) ≡ false
following-passes [] ys h k = k
following-passes (e ∷ xs) ys h k = go (is_prefix e.name) (following-passes xs ys h.2 k)
  where
    go : (x : Bool) → content_after (xs ++ ys) ≡ false →
        cond x (content_after (xs ++ ys)) (is_enter e.kind && is_content e.name) ≡ false
    go true k = k
    go false k = and_right (is_enter e.kind) (is_content e.name) (recorded-content e.name h.1)

-- each line but the last has an ending
abbrev pub EachEnds : List Row → Type 0
EachEnds [] = Unit {0}
EachEnds (row ∷ []) = Unit {0}
EachEnds (row ∷ below ∷ rows) = (q : Point) × (after : row.after ≡ Some q) × EachEnds (below ∷ rows)

-- after a line is the end of its ending
pub following-is : (row : Row) (q : Point) → row.after ≡ Some q → after_row row ≡ q
following-is row q after = ap (λ (x : Option Point). elim x [ None ↦ row.end | Some q ↦ q ]) after

pub following-none : (row : Row) → row.after ≡ None → after_row row ≡ row.end
following-none row after = ap (λ (x : Option Point). elim x [ None ↦ row.end | Some q ↦ q ]) after

-- before each line are prefixes and begins of containers
abbrev pub EachFront : List ℕ → List Row → Type 0
EachFront bytes [] = Unit {0}
EachFront bytes (row ∷ rows) = HasFront bytes row × EachFront bytes rows

-- the events of a line of text
abbrev text_events : Row → List Event
text_events row = enter_link n.Content row.first content_link ∷ exit n.Content row.end ∷ []

-- a line of content that continues takes its ending
text-is_continued : (first end q : Point) (es : List Event) → content_after es ≡ true →
    joined (enter_link n.Content first content_link ∷ exit n.Content end ∷ pair n.LineEnding end q ++ es) ≡
    enter_link n.Content first content_link ∷ exit n.Content q ∷ joined es
text-is_continued first end q es h =
    ap
    (λ (x : Bool).
    enter_link n.Content first content_link
    ∷ cond x (exit n.Content q ∷ joined es) (exit n.Content end ∷ joined (pair n.LineEnding end q ++ es))) h

-- an event that is not joined with what follows
joined-keeps : (e : Event) (es : List Event) → is_continued es ≡ false → joined (e ∷ es) ≡ e ∷ joined es
joined-keeps e [] h = refl
joined-keeps e (f ∷ []) h = refl
joined-keeps e (f ∷ g ∷ es) h =
    ap (λ (x : Bool). cond x (record e { point = g.point } ∷ joined es) (e ∷ joined (f ∷ g ∷ es)))
    (and_right (is_exit e.kind && is_content e.name) (is_continued (f ∷ g ∷ es)) h)

-- nothing continues over what is no line ending
no_ending-stops : (e : Event) (es : List Event) → is_line_ending e.name ≡ false → is_continued (e ∷ es) ≡ false
no_ending-stops e [] h = refl
no_ending-stops e (f ∷ es) h = ap (λ (x : Bool). x && content_after es) h

ends-stop : (c : Container) (cs : List Container) (p : Point) (es : List Event) →
    is_continued (ends_of (c ∷ cs) p ++ es) ≡ false
ends-stop c cs p es =
    ends-first (λ (l : List Event). is_continued l ≡ false) c cs p es
    (λ d fs. no_ending-stops (exit (container_name d) p) fs (container-facts d).no_ending)

-- a line of text that does not continue
text-ends : (row : Row) (es : List Event) → is_continued (tail_events n.LineEnding row ++ es) ≡ false →
    joined ((text_events row ++ tail_events n.LineEnding row) ++ es) ≡
    (text_events row ++ tail_events n.LineEnding row) ++ joined es
text-ends row es h =
    let tail = tail_events n.LineEnding row in
    joined-one (enter_link n.Content row.first content_link) (exit n.Content row.end ∷ tail ++ es) refl
    ∙ ap (λ (l : List Event). enter_link n.Content row.first content_link ∷ l)
    (joined-keeps (exit n.Content row.end) (tail ++ es) h
    ∙ ap (λ (l : List Event). exit n.Content row.end ∷ l)
    (joined-passes tail es (tail-no_content nothing n.LineEnding row refl)))

-- where a container ends after a line, or no line of content follows, it does not continue
tail-stops : (row : Row) (es : List Event) (q : Point) → row.after ≡ Some q →
    (is_none row.closed_after && content_after es) ≡ false → is_continued (tail_events n.LineEnding row ++ es) ≡ false
tail-stops row es q after h =
    ap (λ (l : List Event). is_continued ((ends_of row.closed_after row.end ++ l) ++ es))
    (ending-is n.LineEnding row q after)
    ∙ go row.closed_after h
  where
    ending : List Event
    ending = pair n.LineEnding row.end q

    go : (leaves : List Container) → (is_none leaves && content_after es) ≡ false →
        is_continued ((ends_of leaves row.end ++ ending) ++ es) ≡ false
    go [] h = h
    go (c ∷ leaves) h =
        ap is_continued (append_assoc (ends_of (c ∷ leaves) row.end) ending es)
        ∙ ends-stop c leaves row.end (ending ++ es)

-- what follows the front of a line
abbrev after_front : Row → List Event → List Event
after_front row es = (leaf_events row.kind row ++ tail_events (ending_of row.kind row) row) ++ es

events-front : (row : Row) (es : List Event) → row_events row ++ es ≡ row.front ++ after_front row es
events-front row es =
    ap (λ (l : List Event). l ++ es)
    (append_assoc row.front (leaf_events row.kind row) (tail_events (ending_of row.kind row) row))
    ∙ append_assoc row.front (leaf_events row.kind row ++ tail_events (ending_of row.kind row) row) es

-- and what is before it
text-apart : (bytes : List ℕ) (row : Row) (es : List Event) → HasFront bytes row →
    is_continued (tail_events n.LineEnding row ++ es) ≡ false →
    joined (row_events_by TextRow row ++ es) ≡ row_events_by TextRow row ++ joined es
text-apart bytes row es front h =
    let tail = tail_events n.LineEnding row in
    let text = text_events row in
    ap joined
    (ap (λ (l : List Event). l ++ es) (append_assoc row.front text tail) ∙ append_assoc row.front (text ++ tail) es)
    ∙ joined-passes row.front ((text ++ tail) ++ es) (has_front-no_content nothing nothing-wanted bytes row front)
    ∙ ap (λ (l : List Event). row.front ++ l) (text-ends row es h)
    ∙ sym
    (ap (λ (l : List Event). l ++ joined es) (append_assoc row.front text tail)
    ∙ append_assoc row.front (text ++ tail) (joined es))

-- no line of content continues after the ending of a line that is no text
ending-stops : (blank : Bool) (p q : Point) (es : List Event) →
    content_after (pair (ending_name blank) p q ++ es) ≡ false
ending-stops true p q es = refl
ending-stops false p q es = refl

-- after a line that is no text the one before does not continue
other-following : (bytes : List ℕ) (row : Row) (rows : List Row) → EachEnds (row ∷ rows) → HasFront bytes row →
    NoContent nothing row.inside → (kind : RowKind) → row.kind ≡ kind → kind ≢ TextRow →
    content_after (rows_events (row ∷ rows)) ≡ false
other-following bytes row rows ends front h kind e other =
    ap content_after (events-front row (rows_events rows))
    ∙ ap
    (λ (k : RowKind).
    content_after (row.front ++ ((leaf_events k row ++ tail_events (ending_of k row) row) ++ rows_events rows))) e
    ∙ following-passes row.front ((leaf_events kind row ++ tail_events (ending_of kind row) row) ++ rows_events rows)
    (has_front-no_content nothing nothing-wanted bytes row front) (go kind other)
  where
    ending : (kind : RowKind) (rows : List Row) → EachEnds (row ∷ rows) →
        content_after (ending_events (ending_of kind row) row ++ rows_events rows) ≡ false
    ending kind [] ends = last row.after
      where
        last : (after : Option Point) →
            content_after (elim after [ None ↦ [] | Some q ↦ pair (ending_of kind row) row.end q ] ++ []) ≡ false
        last None = refl
        last (Some q) = ending-stops (is_blank_by kind row) row.end q []
    ending kind (below ∷ rows) ends =
        ap (λ (l : List Event). content_after (l ++ rows_events (below ∷ rows)))
        (ending-is (ending_of kind row) row ends.0 ends.1)
        ∙ ending-stops (is_blank_by kind row) row.end ends.0 (rows_events (below ∷ rows))

    tail : (kind : RowKind) (leaves : List Container) →
        content_after ((ends_of leaves row.end ++ ending_events (ending_of kind row) row) ++ rows_events rows) ≡ false
    tail kind [] = ending kind rows ends
    tail kind (c ∷ leaves) =
        ap content_after
        (append_assoc (ends_of (c ∷ leaves) row.end) (ending_events (ending_of kind row) row) (rows_events rows))
        ∙ ends-first (λ (l : List Event). content_after l ≡ false) c leaves row.end
        (ending_events (ending_of kind row) row ++ rows_events rows) (λ d fs. end-stops d row.end fs)

    inside : (kind : RowKind) →
        content_after ((row.inside ++ tail_events (ending_of kind row) row) ++ rows_events rows) ≡ false
    inside kind =
        ap content_after (append_assoc row.inside (tail_events (ending_of kind row) row) (rows_events rows))
        ∙ following-passes row.inside (tail_events (ending_of kind row) row ++ rows_events rows) h
        (tail kind row.closed_after)

    go : (kind : RowKind) → kind ≢ TextRow →
        content_after ((leaf_events kind row ++ tail_events (ending_of kind row) row) ++ rows_events rows) ≡ false
    go BlankRow other = inside BlankRow
    go (LeafRow l) other = inside (LeafRow l)
    go TextRow other = absurd (other refl)

-- what such a line adds
abbrev under_events : Option Row → List Event
under_events None = []
under_events (Some under) = row_events under

-- what the lines add, before others
abbrev before_lines : Row → List Row → List Event → List Event
before_lines row rows es =
    ((row.front ++ linked_lines n.Content content_link row rows) ++ tail_events n.LineEnding (last_row row rows)) ++ es

group-text : (bytes : List ℕ) (o : Option Row) (row : Row) (rows : List Row) (gs : List Group) →
    joined_groups bytes (text_group o row rows ∷ gs) ≡ before_lines row rows (under_events o ++ joined_groups bytes gs)
group-text bytes None row rows gs = refl
group-text bytes (Some under) row rows gs =
    append_assoc
    ((row.front ++ linked_lines n.Content content_link row rows) ++ tail_events n.LineEnding (last_row row rows))
    (row_events under) (joined_groups bytes gs)

-- a line that continues
line-joins : (front below parts tail rest : List Event) (e f : Event) →
    front ++ (e ∷ f ∷ ((below ++ parts) ++ tail) ++ rest) ≡ ((front ++ (e ∷ f ∷ below ++ parts)) ++ tail) ++ rest
line-joins front below parts tail rest e f =
    sym
    (append_assoc (front ++ (e ∷ f ∷ below ++ parts)) tail rest
    ∙ append_assoc front (e ∷ f ∷ below ++ parts) (tail ++ rest)
    ∙ ap (λ (l : List Event). front ++ (e ∷ f ∷ l)) (sym (append_assoc (below ++ parts) tail rest)))

-- a line of text before a text
text-lines : (bytes : List ℕ) (o : Option Row) (row below : Row) (more rows : List Row) (gs : List Group) (q : Point) →
    row.after ≡ Some q → HasFront bytes row → HasFront bytes below → below.kind ≡ TextRow →
    joined (rows_events (below ∷ rows)) ≡ joined_groups bytes (text_group o below more ∷ gs) →
    joined (row_events_by TextRow row ++ rows_events (below ∷ rows)) ≡
    joined_groups bytes (onto_groups row TextRow (text_group o below more ∷ gs))
text-lines bytes o row below more rows gs q after front under text same =
    go row.closed_after refl below.change.opens refl ∙ ap (joined_groups bytes) (sym (text-onto o row below more gs))
  where
    es : List Event
    es = rows_events (below ∷ rows)

    proceeds : Bool → List Group
    proceeds x = cond x (text_group o row (below ∷ more) ∷ gs) (Lines row [] ∷ text_group o below more ∷ gs)

    apart : (is_none row.closed_after && content_after es) ≡ false →
        joined (row_events_by TextRow row ++ es) ≡ joined_groups bytes (Lines row [] ∷ text_group o below more ∷ gs)
    apart h =
        text-apart bytes row es front (tail-stops row es q after h)
        ∙ ap (λ (l : List Event). row_events_by TextRow row ++ l) same

    following : is_none below.change.opens ≡ false → content_after es ≡ false
    following k =
        ap content_after (events-front below (rows_events rows))
        ∙ fronts-stop bytes below.change.opens under.0 below.first below.front
        (after_front below (rows_events rows)) k under.1

    joins : row.closed_after ≡ [] → below.change.opens ≡ [] →
        joined (row_events_by TextRow row ++ es) ≡ joined_groups bytes (text_group o row (below ∷ more) ∷ gs)
    joins none opens_none =
        let following : List Event = under_events o ++ joined_groups bytes gs in
        let begin = enter_link n.Content row.first content_link in
        let tail = tail_events n.LineEnding row in
        let continues_after : content_after es ≡ true =
        ap content_after (events-front below (rows_events rows))
        ∙ prefixes-content below.front (after_front below (rows_events rows))
        (fronts-prefixes bytes below.change.opens under.0 below.first below.front opens_none under.1)
        ∙ ap
        (λ (kind : RowKind).
        content_after ((leaf_events kind below ++ tail_events (ending_of kind below) below) ++ rows_events rows)) text
        in
        ap joined
        (ap (λ (l : List Event). l ++ es) (append_assoc row.front (text_events row) tail)
        ∙ append_assoc row.front (text_events row ++ tail) es)
        ∙ joined-passes row.front ((text_events row ++ tail) ++ es)
        (has_front-no_content nothing nothing-wanted bytes row front)
        ∙ ap (λ (l : List Event). row.front ++ joined ((text_events row ++ l) ++ es))
        (ap (λ (leaves : List Container). ends_of leaves row.end ++ ending_events n.LineEnding row) none
        ∙ ending-is n.LineEnding row q after)
        ∙ ap (λ (l : List Event). row.front ++ l) (text-is_continued row.first row.end q es continues_after)
        ∙ ap (λ (l : List Event). row.front ++ (begin ∷ exit n.Content q ∷ l)) (same ∙ group-text bytes o below more gs)
        ∙ ap (λ (p : Point). row.front ++ (begin ∷ exit n.Content p ∷ before_lines below more following))
        (sym (following-is row q after))
        ∙ line-joins row.front below.front (linked_lines n.Content content_link below more)
        (tail_events n.LineEnding (last_row below more)) following begin (exit n.Content (after_row row))
        ∙ sym (group-text bytes o row (below ∷ more) gs)

    chosen : (leaves : List Container) → row.closed_after ≡ leaves → (opens : List Container) →
        below.change.opens ≡ opens →
        joined_groups bytes (onto_text o row below more gs) ≡
        joined_groups bytes (proceeds (is_none leaves && is_none opens))
    chosen leaves e opens k =
        ap (λ (l : List Container). joined_groups bytes (proceeds (is_none l && is_none below.change.opens))) e
        ∙ ap (λ (l : List Container). joined_groups bytes (proceeds (is_none leaves && is_none l))) k

    go : (leaves : List Container) → row.closed_after ≡ leaves → (opens : List Container) → below.change.opens ≡ opens →
        joined (row_events_by TextRow row ++ es) ≡ joined_groups bytes (onto_text o row below more gs)
    go [] e [] k = joins e k ∙ sym (chosen [] e [] k)
    go [] e (c ∷ opens) k =
        apart (ap (λ (l : List Container). is_none l && content_after es) e ∙ following (ap is_none k))
        ∙ sym (chosen [] e (c ∷ opens) k)
    go (c ∷ leaves) e opens k =
        apart (ap (λ (l : List Container). is_none l && content_after es) e) ∙ sym (chosen (c ∷ leaves) e opens k)

-- A line of a leaf.

-- before groups, it adds its own events
leaf-joined : (bytes : List ℕ) (ends : Bool) (row : Row) (gs : List Group) →
    joined_groups bytes (onto_leaf ends row gs) ≡ row_events row ++ joined_groups bytes gs
leaf-joined bytes true row gs = refl
leaf-joined bytes false row (LeafLines below rows ∷ gs) = go (is_further below.kind below.on)
  where
    go : (x : Bool) →
        joined_groups bytes (cond x (LeafLines row (below ∷ rows) ∷ gs)
        (LeafLines row [] ∷ LeafLines below rows ∷ gs)) ≡
        row_events row ++ joined_groups bytes (LeafLines below rows ∷ gs)
    go true = append_assoc (row_events row) (rows_events (below ∷ rows)) (joined_groups bytes gs)
    go false =
        ap (λ (l : List Event). l ++ joined_groups bytes (LeafLines below rows ∷ gs)) (append-nil (row_events row))
leaf-joined bytes false row gs = ap (λ (l : List Event). l ++ joined_groups bytes gs) (append-nil (row_events row))

-- a line of text before the lines of a leaf, of which the first may be its underline
span-first : (bytes : List ℕ) (row below : Row) (rows : List Row) (gs : List Group) →
    (is_further below.kind below.on && takes_head below.kind) ≡ false →
    joined_groups bytes (onto_underline row below rows gs) ≡
    row_events_by TextRow row ++ joined_groups bytes (LeafLines below rows ∷ gs)
span-first bytes row below rows gs none =
    ap
    (λ (x : Bool).
    joined_groups bytes
    (cond x (Headed row below rows ∷ gs)
    (cond (is_further below.kind below.on && is_last rows) (Turned row [] below ∷ gs)
    (Lines row [] ∷ LeafLines below rows ∷ gs))))
    none
    ∙ go (is_further below.kind below.on) rows
  where
    go : (x : Bool) (rows : List Row) →
        joined_groups bytes
        (cond (x && is_last rows) (Turned row [] below ∷ gs) (Lines row [] ∷ LeafLines below rows ∷ gs)) ≡
        row_events_by TextRow row ++ joined_groups bytes (LeafLines below rows ∷ gs)
    go true [] =
        append_assoc (row_events_by TextRow row) (row_events below) (joined_groups bytes gs)
        ∙ ap (λ (l : List Event). row_events_by TextRow row ++ (l ++ joined_groups bytes gs))
        (sym (append-nil (row_events below)))
    go true (next ∷ rows) = refl
    go false rows = refl

pub leaf-first : (bytes : List ℕ) (ends : Bool) (row below : Row) (gs : List Group) →
    (is_further below.kind below.on && takes_head below.kind) ≡ false →
    joined_groups bytes (onto_groups row TextRow (onto_leaf ends below gs)) ≡
    row_events_by TextRow row ++ joined_groups bytes (onto_leaf ends below gs)
leaf-first bytes true row below gs none = refl
leaf-first bytes false row below (LeafLines next rows ∷ gs) none = go (is_further next.kind next.on)
  where
    go : (x : Bool) →
        let gs' = cond x (LeafLines below (next ∷ rows) ∷ gs) (LeafLines below [] ∷ LeafLines next rows ∷ gs) in
        joined_groups bytes (onto_groups row TextRow gs') ≡ row_events_by TextRow row ++ joined_groups bytes gs'
    go true = span-first bytes row below (next ∷ rows) gs none
    go false = span-first bytes row below [] (LeafLines next rows ∷ gs) none
leaf-first bytes false row below gs none = span-first bytes row below [] gs none

-- a line of text before others
text-rows : (bytes : List ℕ) (row below : Row) (rows : List Row) (q : Point) → row.after ≡ Some q →
    EachFront bytes (row ∷ below ∷ rows) → EachEnds (below ∷ rows) → NoContent nothing below.inside →
    (is_further below.kind below.on && takes_head below.kind) ≡ false → NoHeads (below ∷ rows) → (kind : RowKind) →
    below.kind ≡ kind →
    joined (rows_events (below ∷ rows)) ≡ joined_groups bytes (onto_groups below kind (groups rows)) →
    joined (row_events_by TextRow row ++ rows_events (below ∷ rows)) ≡
    joined_groups bytes (onto_groups row TextRow (onto_groups below kind (groups rows)))
text-rows bytes row below rows q after fronts ends h none heads kind e same = go kind e same
  where
    es : List Event
    es = rows_events (below ∷ rows)

    other : (kind : RowKind) → below.kind ≡ kind → kind ≢ TextRow → (gs : List Group) →
        joined es ≡ joined_groups bytes gs →
        joined (row_events_by TextRow row ++ es) ≡ row_events_by TextRow row ++ joined_groups bytes gs
    other kind e apart gs same =
        text-apart bytes row es fronts.0
        (tail-stops row es q after
        (and_right (is_none row.closed_after) (content_after es)
        (other-following bytes below rows ends fronts.1.0 h kind e apart)))
        ∙ ap (λ (l : List Event). row_events_by TextRow row ++ l) same

    go : (kind : RowKind) → below.kind ≡ kind →
        joined es ≡ joined_groups bytes (onto_groups below kind (groups rows)) →
        joined (row_events_by TextRow row ++ es) ≡
        joined_groups bytes (onto_groups row TextRow (onto_groups below kind (groups rows)))
    go BlankRow e same = other BlankRow e (λ k. cc) (Single below ∷ groups rows) same
    go (LeafRow l) e same =
        other (LeafRow l) e (λ k. cc) (onto_leaf (leaf l).ends below (groups rows)) same
        ∙ sym (leaf-first bytes (leaf l).ends row below (groups rows) none)
    go TextRow e same =
        lines-first
        (λ (gs : List Group).
        joined es ≡ joined_groups bytes gs →
        joined (row_events_by TextRow row ++ es) ≡ joined_groups bytes (onto_groups row TextRow gs)) below
        (groups rows)
        (λ o more rest same. text-lines bytes o row below more rows rest q after fronts.0 fronts.1.0 e same)
        (λ next more rest is head same. absurd (headless next more rest is head)) same
      where
        headless : (next : Row) (more : List Row) (rest : List Group) → groups rows ≡ LeafLines next more ∷ rest →
            (is_further next.kind next.on && takes_head next.kind) ≡ true → ⊥
        headless next more rest is head =
            let bad : true ≡ false = sym head ∙ subst HeadsNone is (groups-unheaded below rows e heads) in cc

-- a line that is not text, and what follows it
single-rows : (bytes : List ℕ) (row : Row) (rows : List Row) → HasFront bytes row → HasNoContent row →
    (kind : RowKind) →
    row.kind ≡ kind → kind ≢ TextRow → joined (rows_events rows) ≡ joined_groups bytes (groups rows) →
    joined (row_events row ++ rows_events rows) ≡ joined_groups bytes (onto_groups row kind (groups rows))
single-rows bytes row rows front quiet kind e apart same = passes ∙ by kind apart
  where
    passes : joined (row_events row ++ rows_events rows) ≡ row_events row ++ joined_groups bytes (groups rows)
    passes =
        joined-passes (row_events row) (rows_events rows)
        (events-no_content nothing row kind e apart (has_front-no_content nothing nothing-wanted bytes row front)
        (quiet nothing nothing-wanted))
        ∙ ap (λ (l : List Event). row_events row ++ l) same

    by : (kind : RowKind) → kind ≢ TextRow →
        row_events row ++ joined_groups bytes (groups rows) ≡
        joined_groups bytes (onto_groups row kind (groups rows))
    by BlankRow apart = refl
    by (LeafRow l) apart = sym (leaf-joined bytes (leaf l).ends row (groups rows))
    by TextRow apart = absurd (apart refl)

-- the last line is text
text-last : (bytes : List ℕ) (row : Row) → HasFront bytes row →
    joined (row_events_by TextRow row ++ []) ≡ joined_groups bytes (Lines row [] ∷ [])
text-last bytes row front = text-apart bytes row [] front (go row.closed_after row.after)
  where
    go : (leaves : List Container) (after : Option Point) →
        is_continued ((ends_of leaves row.end ++ elim after [ None ↦ [] | Some q ↦ pair n.LineEnding row.end q ]) ++ [])
        ≡
        false
    go [] None = refl
    go [] (Some q) = refl
    go (c ∷ leaves) after =
        let ending : List Event = elim after [ None ↦ [] | Some q ↦ pair n.LineEnding row.end q ] in
        ap is_continued (append_assoc (ends_of (c ∷ leaves) row.end) ending [])
        ∙ ends-stop c leaves row.end (ending ++ [])

-- a line before others
joined-row : (bytes : List ℕ) (row : Row) (rows : List Row) → EachFront bytes (row ∷ rows) → EachEnds (row ∷ rows) →
    EachNoContent (row ∷ rows) → NoHeads (row ∷ rows) → joined (rows_events rows) ≡ joined_groups bytes (groups rows) →
    joined (rows_events (row ∷ rows)) ≡ joined_groups bytes (groups (row ∷ rows))
joined-row bytes row rows fronts ends h none same = go row.kind refl
  where
    text : (rows : List Row) → EachFront bytes (row ∷ rows) → EachEnds (row ∷ rows) → EachNoContent (row ∷ rows) →
        NoHeads (row ∷ rows) → joined (rows_events rows) ≡ joined_groups bytes (groups rows) → row.kind ≡ TextRow →
        joined (row_events_by TextRow row ++ rows_events rows) ≡
        joined_groups bytes (onto_groups row TextRow (groups rows))
    text [] fronts ends h none same e = text-last bytes row fronts.0
    text (below ∷ rows) fronts ends h none same e =
        text-rows bytes row below rows ends.0 ends.1 fronts ends.2 (h.1.0 nothing nothing-wanted) (none.0 e) none.1
        below.kind refl same

    go : (kind : RowKind) → row.kind ≡ kind →
        joined (row_events row ++ rows_events rows) ≡ joined_groups bytes (onto_groups row kind (groups rows))
    go TextRow e =
        ap (λ (kind : RowKind). joined (row_events_by kind row ++ rows_events rows)) e
        ∙ text rows fronts ends h none same e
    go BlankRow e = single-rows bytes row rows fronts.0 h.0 BlankRow e (λ k. cc) same
    go (LeafRow l) e = single-rows bytes row rows fronts.0 h.0 (LeafRow l) e (λ k. cc) same

-- Joined, the events of lines are those of their groups: lines of text that follow one another in the same containers
-- are joined.
pub joined-rows : (bytes : List ℕ) (rows : List Row) → EachFront bytes rows → EachEnds rows → EachNoContent rows →
    NoHeads rows →
    joined (rows_events rows) ≡ joined_groups bytes (groups rows)
joined-rows bytes [] fronts ends h none = refl
joined-rows bytes (row ∷ []) fronts ends h none = joined-row bytes row [] fronts ends h none refl
joined-rows bytes (row ∷ below ∷ rows) fronts ends h none =
    joined-row bytes row (below ∷ rows) fronts ends h none
    (joined-rows bytes (below ∷ rows) fronts.1 ends.2 h.1 none.1)
