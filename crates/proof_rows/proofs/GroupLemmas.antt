-- Once the content in the events of the groups of a text is read, texts are there that are not read yet.
use Rattle.md_engine.specs.declared.tokenizer.held_leaf.HeldLeaf.{HeldLeaf}
use Rattle.std.proofs.Common.{◌≡◌, ◌≢◌, ℕ, ◌<◌, ◌≤◌, Bool, true, false, cond, ◌&&◌, List, [], ◌∷◌, ◌++◌, length, drop}
use Rattle.proof_rows.specs.BlockList.{lines_unread, text_unread, unread_lines}
use Rattle.proof_rows.specs.Rows.{Headed, LeafLines, Turned, Group, Lines, Single, groups, kind_of, line_kind}
use Rattle.proof_rows.specs.Rows.{row_events, rows_events, tail_events}
use Rattle.std.proofs.Common.{slice_range, refl, ap, sym, ◌∙◌, subst, append_assoc, arith, length-append}
use Rattle.std.specs.Prelude.{Option, Some, None}
use Rattle.std.proofs.lemmas.Bool.{and_from, eq-eqb}
use Rattle.std.proofs.lemmas.Bool.Decides.{nat_tests}
use Rattle.md_engine.specs.declared.configuration.ParseOptions.{ParseOptions}
use Rattle.md_engine.specs.declared.event.Content.{Content}
use Rattle.md_engine.specs.declared.event.Content.TheVariants as content
use Rattle.md_engine.specs.declared.event.Event.{Event}
use Rattle.md_engine.specs.declared.event.Link.{Link}
use Rattle.md_engine.specs.declared.event.Name.{Name}
use Rattle.md_engine.specs.declared.event.Name.TheVariants as n
use Rattle.md_engine.specs.declared.event.Point.{Point}
use Rattle.md_content.specs.Chunks.{content_link}
use Rattle.md_content.specs.Paragraph.{text_link}
use Rattle.md_events.specs.Events.Inline.{are_lines, is_none, is_one_line, line_end}
use Rattle.md_meaning.specs.Lines.{without_ending}
use Rattle.md_events.specs.Events.Nested.{around, enter, enter_link, exit, pair}
use Rattle.md_events.specs.Events.Places.{past_text, same_place}
use Rattle.md_meaning.specs.State.{Container}
use Rattle.md_events.specs.Substituted.{Readings, Substituted, belongs, chunks_after}
use Rattle.md_meaning.specs.Texts.{split_lines}
use Rattle.proof_frame.specs.Change.{ends_of}
use Rattle.proof_frame.specs.LeafName.{first_of, LeafName}
use Rattle.proof_frame.specs.TextLines.{text_leaf}
use Rattle.proof_frame.specs.ContainerNames.{container_name}
use Rattle.md_registry.specs.Registry.{leaf as line_leaf, trials}
use Rattle.proof_frame.specs.Row.{BlankRow, LeafRow, Row, RowKind, TextRow, after_row, chunks_of, ending_events}
use Rattle.proof_frame.specs.Row.{ending_of, last_row, row_line, is_blank_by}
use Rattle.proof_leaf_laws.specs.Headed.{headed_row}
use Rattle.md_meaning.specs.Rest.{cut_tab, Rest as LineRest, is_blank}
use Rattle.proof_frame.specs.Linked.{linked}
use Rattle.proof_rows.specs.Unread.{headed_lines, joined_groups, unread_group, unread_groups}
use Rattle.proof_frame.specs.UnreadText.{linked_lines}
use Rattle.md_events.proofs.FeedLines.{ending-some, IsEnding}
use Rattle.proof_rows.proofs.GroupLines.{AreGroups, AreLines, AreSpan, EndsBeforeGroups, IsSingle, IsSpanLine, IsUnder}
use Rattle.proof_frame.proofs.FrontNames.{HasFront, ends-first, fronts-prefixes}
use Rattle.proof_rows.proofs.GroupsAre.{groups-are}
use Rattle.proof_frame.proofs.FrontPlaces.{fronts-grow}
use Rattle.proof_leaf_laws.proofs.GfmTable.Head.{head-no_content}
use Rattle.proof_rows.proofs.JoinedLemmas.{EachEnds, EachFront, EachNoContent, HasNoContent, following-is, ending-other}
use Rattle.proof_rows.proofs.JoinedLemmas.{events-no_content, has_front-no_content, front-no_content, tail-no_content}
use Rattle.proof_frame.proofs.LeafLines.Cuts.{ending-is}
use Rattle.proof_rows.proofs.RowFacts.{AreRows, IsRow, following_line, line-text}
use Rattle.proof_frame.proofs.SubstitutedLemmas.{AllBelong, CutAt, EachPrefixed, NextBelongs, Rest, Unwanted}
use Rattle.proof_frame.proofs.SubstitutedLemmas.{following-exit, line_after, passes, places}
use Rattle.proof_frame.proofs.ContentFacts.{NoContent, WantsContent, no_content-append, no_content-unwanted}
use Rattle.proof_frame.proofs.ContainerNames.{container-facts}
use Rattle.proof_frame.proofs.LineTexts.{one-last, one-next, piece, without-none, without-one}
use Rattle.proof_frame.proofs.PrefixNames.{ArePrefixes, prefixes-front}
use Rattle.proof_rows.proofs.KindLemmas.{kind-text}
use Rattle.proof_rows.proofs.TextProgress.{IsShut}

-- each line of a text but the last has an ending
pub rows-end : (options : ParseOptions) (bytes : List ℕ) (open_before : List Container) (still : HeldLeaf) (p : Point)
    (lines : List (List ℕ)) (rows : List Row) →
    AreRows options bytes open_before still p lines rows → EachEnds rows
rows-end options bytes open_before still p (line ∷ []) (row ∷ []) h = tt
rows-end options bytes open_before still p (line ∷ next ∷ lines) (row ∷ below ∷ rows) h = (
  h.2,
  h.3,
  rows-end options bytes (following_line options open_before still p line) row.following h.2 (next ∷ lines)
      (below ∷ rows) h.5,
)
rows-end options bytes open_before still p lines rows h = absurd h

-- before each line of a text are prefixes and begins of containers
pub rows-front : (options : ParseOptions) (bytes : List ℕ) (open_before : List Container) (still : HeldLeaf) (p : Point)
    (lines : List (List ℕ)) (rows : List Row) →
    AreRows options bytes open_before still p lines rows → EachFront bytes rows
rows-front options bytes open_before still p (line ∷ []) (row ∷ []) h = ((p, h.0.front, h.0.front_read), tt)
rows-front options bytes open_before still p (line ∷ next ∷ lines) (row ∷ below ∷ rows) h = (
  (p, h.0.front, h.0.front_read),
  rows-front options bytes (following_line options open_before still p line) row.following h.2
      (next ∷ lines) (below ∷ rows) h.5,
)
rows-front options bytes open_before still p lines rows h = absurd h

-- Where the lines are.

pub row-line : (options : ParseOptions) (bytes line : List ℕ) (row : Row) → IsRow options bytes line row →
    drop row.first.index bytes ≡ line ++ drop row.end.index bytes
row-line options bytes line row is =
    piece bytes row.first.index row.end.index (omega (arith, is.size))
    ∙ ap (λ (l : List ℕ). l ++ drop row.end.index bytes) is.text

-- The chunks of a text are lines.

-- a line of text is not empty
rest-some : (options : ParseOptions) (on : HeldLeaf) (r : LineRest) (bytes : List ℕ) → r.bytes ≡ bytes →
    line_kind options on r ≡ TextRow → 0 < length bytes
rest-some options on r [] e h =
    let blank : BlankRow ≡
    TextRow = sym
    (ap
    (λ (l : List ℕ).
    cond (is_blank l) BlankRow (kind_of (first_of (λ (l : LeafName). (line_leaf l).starts options on r) trials))) e)
    ∙ kind-text options on r h in
    cc
rest-some options on r (b ∷ bs) e h = omega arith

pub text-some : (options : ParseOptions) (bytes line : List ℕ) (row : Row) → IsRow options bytes line row →
    row.kind ≡ TextRow → 0 < length line
text-some options bytes line row is text =
    let r : LineRest = is.rest in
    let some = rest-some options row.on r r.bytes refl (sym is.kind ∙ text) in
    let size = ap length is.line_is ∙ length-append (cut_tab r.spaces) r.bytes in
    omega arith

pub chunks-lines : (options : ParseOptions) (bytes : List ℕ) (row : Row) (rows : List Row) →
    AreLines options bytes row rows → are_lines bytes (last_row row rows).end (chunks_of row rows) ≡ true
chunks-lines options bytes row [] h =
    and_from _ _
    (ap (λ (l : List ℕ). is_one_line (split_lines l) (same_place row.end row.end)) h.1.text
    ∙ one-last h.0 (text-some options bytes h.0 row h.1 h.2) h.1.no_ending (same_place row.end row.end)
    (and_from _ _ (eq-eqb row.end.index row.end.index refl) (eq-eqb row.end.vs row.end.vs refl)))
    refl
chunks-lines options bytes row (next ∷ rows) h =
    let ends : Bool = is_none (chunks_of next rows) && same_place (after_row row) (last_row next rows).end in
    and_from _ _
    (ap (λ (l : List ℕ). is_one_line (split_lines l) ends)
    (ap (λ (p : Point). slice_range bytes row.first.index p.index) (following-is row h.3 h.4) ∙ line-text options bytes
    h.0 row h.3 h.1 h.5)
    ∙ one-next h.0 h.5.ending h.1.no_ending ends)
    (chunks-lines options bytes next rows h.7)

-- Reading.

-- after the containers that end there, and an ending, no more of a text is
following-tail : (wants : Content → Bool) (row : Row) (es : List Event) →
    chunks_after wants (ending_events n.LineEnding row ++ es) ≡ [] →
    chunks_after wants (tail_events n.LineEnding row ++ es) ≡ []
following-tail wants row es h = go row.closed_after
  where
    go : (leaves : List Container) →
        chunks_after wants ((ends_of leaves row.end ++ ending_events n.LineEnding row) ++ es) ≡ []
    go [] = h
    go (c ∷ leaves) =
        ap (chunks_after wants)
        (append_assoc (ends_of (c ∷ leaves) row.end) (ending_events n.LineEnding row) es)
        ∙ ends-first (λ (l : List Event). chunks_after wants l ≡ []) c leaves row.end
        (ending_events n.LineEnding row ++ es)
        (λ d es. following-exit wants (container_name d) row.end es (container-facts d).no_prefix)

following-ended : (wants : Content → Bool) (row : Row) (q : Point) (es : List Event) → row.after ≡ Some q →
    chunks_after wants (tail_events n.LineEnding row ++ es) ≡ []
following-ended wants row q es after =
    following-tail wants row es
    (ap (λ (l : List Event). chunks_after wants (l ++ es)) (ending-is n.LineEnding row q after))

following-lines : (bytes : List ℕ) (wants : Content → Bool) (row : Row) (gs : List Group) → EndsBeforeGroups row gs →
    chunks_after wants (tail_events n.LineEnding row ++ joined_groups bytes gs) ≡ []
following-lines bytes wants row [] h = following-tail wants row [] (go row.after)
  where
    go : (after : Option Point) →
        chunks_after wants (elim after [ None ↦ [] | Some q ↦ pair n.LineEnding row.end q ] ++ []) ≡ []
    go None = refl
    go (Some q) = refl
following-lines bytes wants row (group ∷ gs) h = following-ended wants row h.0 (joined_groups bytes (group ∷ gs)) h.1

-- what is around the parts of a line is not read later
pub tail-unwanted : (wants : Content → Bool) (kind : RowKind) (row : Row) →
    Unwanted wants (tail_events (ending_of kind row) row)
tail-unwanted wants kind row =
    no_content-unwanted wants (tail_events (ending_of kind row) row)
    (tail-no_content wants (ending_of kind row) row (ending-other (is_blank_by kind row)))

-- a line that is no text, of which a reader reads no text
single-quiet : (options : ParseOptions) (bytes : List ℕ) (wants : Content → Bool) (row : Row) →
    IsSingle options bytes row → WantsContent wants → NoContent wants (row_events row)
single-quiet options bytes wants row is w =
    events-no_content wants row row.kind refl is.other (has_front-no_content wants w bytes row is.front)
    (is.quiet wants w)

span-quiet : (options : ParseOptions) (bytes : List ℕ) (wants : Content → Bool) (row : Row) →
    IsSpanLine options bytes row → HasNoContent row → WantsContent wants → NoContent wants (row_events row)
span-quiet options bytes wants row is quiet w =
    events-no_content wants row row.kind refl (λ h. let bad : LeafRow is.name ≡ TextRow = sym is.kind ∙ h in cc)
    (has_front-no_content wants w bytes row is.front) (quiet wants w)

pub spans-quiet : (options : ParseOptions) (bytes : List ℕ) (wants : Content → Bool) (row : Row) (rows : List Row) →
    AreSpan options bytes row rows → EachNoContent (row ∷ rows) → WantsContent wants →
    NoContent wants (rows_events (row ∷ rows))
spans-quiet options bytes wants row [] are quiet w =
    no_content-append wants (row_events row) [] (span-quiet options bytes wants row are quiet.0 w) tt
spans-quiet options bytes wants row (next ∷ rows) are quiet w =
    no_content-append wants (row_events row) (rows_events (next ∷ rows))
    (span-quiet options bytes wants row are.0 quiet.0 w) (spans-quiet options bytes wants next rows are.8 quiet.1 w)

-- a head that was read again, with the lines that continue it
pub headed-quiet : (options : ParseOptions) (bytes : List ℕ) (wants : Content → Bool) (row next : Row)
    (rows : List Row) →
    AreSpan options bytes next rows → HasFront bytes row → EachNoContent (next ∷ rows) → WantsContent wants →
    NoContent wants (headed_lines bytes row next rows)
headed-quiet options bytes wants row next rows are front quiet w =
    let head : List Event = (headed_row bytes row).inside in
    let tail : List Event = tail_events n.LineEnding row in
    no_content-append wants (row.front ++ head ++ tail) (rows_events (next ∷ rows))
    (no_content-append wants (row.front ++ head) tail
    (no_content-append wants row.front head (has_front-no_content wants w bytes row front)
    (head-no_content wants w (row_line bytes row) row.first))
    (tail-no_content wants n.LineEnding row refl))
    (spans-quiet options bytes wants next rows are quiet w)

-- nor the line that turns a text
pub under-other : (options : ParseOptions) (bytes : List ℕ) (last under : Row) → IsUnder options bytes last under →
    under.kind ≢ TextRow
under-other options bytes last under is h = let bad : LeafRow is.name ≡ TextRow = sym is.kind ∙ h in cc

-- before it are prefixes alone
pub under-prefixed : (options : ParseOptions) (bytes : List ℕ) (last under : Row) → IsUnder options bytes last under →
    ArePrefixes under.front
under-prefixed options bytes last under is =
    fronts-prefixes bytes [] is.after under.first under.front refl is.front

pub under-quiet : (options : ParseOptions) (bytes : List ℕ) (wants : Content → Bool) (last under : Row) →
    IsUnder options bytes last under → WantsContent wants → NoContent wants (row_events under)
under-quiet options bytes wants last under is w =
    events-no_content wants under under.kind refl (under-other options bytes last under is)
    (front-no_content wants w under.front (prefixes-front under.front (under-prefixed options bytes last under is)))
    (is.quiet wants w)

-- before the further lines of a text are prefixes alone
pub lines-prefixed : (options : ParseOptions) (bytes : List ℕ) (row : Row) (rows : List Row) →
    AreLines options bytes row rows → EachPrefixed rows
lines-prefixed options bytes row [] h = tt
lines-prefixed options bytes row (next ∷ rows) h =
    (fronts-prefixes bytes [] h.3 next.first next.front refl h.6, lines-prefixed options bytes next rows h.7)

-- Where the lines of a text are.

-- a line of text is not empty
pub line-grows : (options : ParseOptions) (bytes line : List ℕ) (row : Row) → IsRow options bytes line row →
    row.kind ≡ TextRow → row.first.index < row.end.index
line-grows options bytes line row is text =
    let some = text-some options bytes line row is text in omega (arith, is.size)

-- a line, its ending, and the next line
pub record AreApart (row next : Row) : Type 0 where
  pub line : row.first.index < row.end.index
  pub ending : row.end.index < (after_row row).index
  pub front : (after_row row).index ≤ next.first.index

pub are-apart : (options : ParseOptions) (bytes : List ℕ) (row next : Row) (rows : List Row) →
    AreLines options bytes row (next ∷ rows) → AreApart row next
are-apart options bytes row next rows h =
    let following : (after_row row).index ≡ h.3.index = ap (λ (p : Point). p.index) (following-is row h.3 h.4) in
    let some = ending-some h.5.ending in
    let grows = fronts-grow bytes [] h.3 next.first next.front h.6 in
    record { line = line-grows options bytes h.0 row h.1 h.2; ending = omega (arith, h.5.size); front = omega arith }

first-grows : (options : ParseOptions) (bytes : List ℕ) (row : Row) (rows : List Row) →
    AreLines options bytes row rows → row.first.index < (line_after row rows).index
first-grows options bytes row [] h = line-grows options bytes h.0 row h.1 h.2
first-grows options bytes row (next ∷ rows) h =
    let apart = are-apart options bytes row next rows h in omega (arith, apart.line, apart.ending)

-- which events belong to a chunk that ends at a byte
begins-before : (name : Name) (p : Point) (end : ℕ) → p.index < end → belongs end (enter name p) ≡ true
begins-before name p end h = grind (arith, nat_tests)

ends-before : (name : Name) (p : Point) (end : ℕ) → p.index ≤ end → belongs end (exit name p) ≡ true
ends-before name p end h = grind (arith, nat_tests)

begins-following : (name : Name) (p : Point) (end : ℕ) → end ≤ p.index → belongs end (enter name p) ≡ false
begins-following name p end h = grind (arith, nat_tests)

all_belong-append : (end : ℕ) (xs ys : List Event) → AllBelong end xs → AllBelong end ys → AllBelong end (xs ++ ys)
all_belong-append end [] ys h k = k
all_belong-append end (e ∷ xs) ys h k = (h.0, all_belong-append end xs ys h.1 k)

-- what is before the events of the first line is of it too
cut-front : (row : Row) (rows : List Row) (xs left done : List Event) → AllBelong (line_after row rows).index xs →
    CutAt row rows left done → CutAt row rows (xs ++ left) (xs ++ done)
cut-front row [] xs left done h cut = ap (λ (l : List Event). xs ++ l) cut
cut-front row (next ∷ rows) xs left done h cut = (
  xs ++ cut.0,
  cut.1,
  cut.2,
  ap (λ (l : List Event). xs ++ l) cut.3 ∙ sym (append_assoc xs cut.0 cut.1),
  all_belong-append (after_row row).index xs cut.0 h cut.4,
  cut.5,
  ap (λ (l : List Event). xs ++ l) cut.6 ∙ sym (append_assoc xs cut.0 (next.front ++ cut.2)),
  cut.7,
)

-- Reading content.

-- the next chunk begins where its line does
linked-next : (name : Name) (link : Link) (row : Row) (rows : List Row) (zs : List Event) (end : ℕ) →
    end ≤ row.first.index → NextBelongs end (linked name link (chunks_of row rows) ++ zs)
linked-next name link row [] zs end h = begins-following name row.first end h
linked-next name link row (next ∷ rows) zs end h = begins-following name row.first end h

-- the chunks of a text, cut at the ends of its lines
linked-cut : (options : ParseOptions) (bytes : List ℕ) (name : Name) (link : Link) (row : Row) (rows : List Row)
    (zs : List Event) →
    AreLines options bytes row rows →
    CutAt row rows (linked name link (chunks_of row rows) ++ zs) (linked_lines name link row rows ++ zs)
linked-cut options bytes name link row [] zs h = refl
linked-cut options bytes name link row (next ∷ rows) zs h =
    let apart = are-apart options bytes row next rows h in
    let end : ℕ = (after_row row).index in
    let begin = enter_link name row.first link in (
      begin ∷ exit name (after_row row) ∷ [],
      linked name link (chunks_of next rows) ++ zs,
      linked_lines name link next rows ++ zs,
      refl,
      (
        begins-before name row.first end (omega (arith, apart.line, apart.ending)),
        (ends-before name (after_row row) end (omega arith), tt),
      ),
      linked-next name link next rows zs end apart.front,
      ap (λ (l : List Event). begin ∷ exit name (after_row row) ∷ l)
          (append_assoc next.front (linked_lines name link next rows) zs),
      linked-cut options bytes name link next rows zs h.7,
    )

-- A reader of content gives for lines of text what is in the place of these lines, once that is cut at their ends.
abbrev pub ReadsContent : ParseOptions → List ℕ → Readings → Type 0
ReadsContent options bytes reads =
    (row : Row) (rows : List Row) → AreLines options bytes row rows → (answer : List Event) →
    reads content.Content (chunks_of row rows) answer → CutAt row rows answer (text_unread options bytes row rows)

-- the leaf of lines that are not read yet, cut so
pub unread-cut : (options : ParseOptions) (bytes : List ℕ) (row : Row) (rows : List Row) →
    AreLines options bytes row rows →
    CutAt row rows
    (around text_leaf.name row.first (last_row row rows).end (linked n.Data text_link (chunks_of row rows)))
    (lines_unread row rows)
unread-cut options bytes row rows h =
    let end = exit text_leaf.name (last_row row rows).end ∷ [] in
    cut-front row rows (enter text_leaf.name row.first ∷ []) (linked n.Data text_link (chunks_of row rows) ++ end)
    (unread_lines row rows ++ end)
    (begins-before text_leaf.name row.first (line_after row rows).index (first-grows options bytes row rows h), tt)
    (linked-cut options bytes n.Data text_link row rows end h)

group-joins : (front given tail rest out one two three : List Event) → out ≡ front ++ one → one ≡ given ++ two →
    two ≡ tail ++ three → three ≡ rest → out ≡ ((front ++ given) ++ tail) ++ rest
group-joins front given tail rest out one two three h i j k =
    h
    ∙ ap (λ (l : List Event). front ++ l)
    (i ∙ ap (λ (l : List Event). given ++ l) (j ∙ ap (λ (l : List Event). tail ++ l) k))
    ∙ sym (append_assoc front given (tail ++ rest))
    ∙ sym (append_assoc (front ++ given) tail rest)

-- lines of text before others: what is read of them is in the places of their chunks
text-content : (options : ParseOptions) (bytes : List ℕ) (wants : Content → Bool) (reads : Readings) →
    wants content.Content ≡ true → WantsContent wants → ReadsContent options bytes reads →
    (row : Row) (rows : List Row) → AreLines options bytes row rows → HasFront bytes row → (es left out : List Event) →
    chunks_after wants (tail_events n.LineEnding (last_row row rows) ++ es) ≡ [] →
    Substituted wants reads left 0
    (((row.front ++ linked_lines n.Content content_link row rows) ++ tail_events n.LineEnding (last_row row rows))
    ++ es) out →
    Rest wants reads (unread_group options bytes (Lines row rows)) es out
text-content options bytes wants reads w other unique row rows are front es left out none s =
    let tail : List Event = tail_events n.LineEnding (last_row row rows) in
    let inside : List Event = linked_lines n.Content content_link row rows in
    let ys : List Event = tail ++ es in
    let given : List Event = text_unread options bytes row rows in
    let begun : (rest : List Event) × (is : out ≡ row.front ++ rest) ×
    Substituted wants reads left 0 (inside ++ ys) rest =
    passes wants reads left 0 row.front (inside ++ ys) out
    (no_content-unwanted wants row.front (has_front-no_content wants other bytes row front))
    (subst (λ (l : List Event). Substituted wants reads left 0 l out)
    (append_assoc (row.front ++ inside) tail es ∙ append_assoc row.front inside ys) s) in
    let rest : Rest wants reads given ys begun.0 =
    places wants reads left n.Content content_link row rows ys given begun.0 w none
    (lines-prefixed options bytes row rows are)
    (unique row rows are) begun.2 in
    let two : (more : List Event) × (is : rest.0 ≡ tail ++ more) ×
    Substituted wants reads rest.1 0 es more = passes wants reads rest.1 0 tail es rest.0
    (tail-unwanted wants TextRow (last_row row rows)) rest.3 in (
      two.0,
      rest.1,
      group-joins row.front given tail two.0 out begun.0 rest.0 two.0 begun.1 rest.2 two.1
          (refl {a = two.0}),
      two.2,
    )

-- events without content before others stay
then-content : (wants : Content → Bool) (reads : Readings) (xs ys rest : List Event)
    (left out : List Event) →
    NoContent wants xs → ((more : List Event) → Substituted wants reads left 0 ys more → more ≡ rest) →
    Substituted wants reads left 0 (xs ++ ys) out → out ≡ xs ++ rest
then-content wants reads xs ys rest left out quiet following s =
    let one : (more : List Event) × (is : out ≡ xs ++ more) × Substituted wants reads left 0 ys more =
    passes wants reads left 0 xs ys out (no_content-unwanted wants xs quiet) s in
    one.1 ∙ ap (λ (l : List Event). xs ++ l) (following one.0 one.2)

groups-content : (options : ParseOptions) (bytes : List ℕ) (wants : Content → Bool) (reads : Readings) →
    wants content.Content ≡ true → WantsContent wants → ReadsContent options bytes reads →
    (gs : List Group) → AreGroups options bytes gs → (left out : List Event) →
    Substituted wants reads left 0 (joined_groups bytes gs) out → out ≡ unread_groups options bytes gs
groups-content options bytes wants reads w other unique [] are left out s = s
groups-content options bytes wants reads w other unique (Single row ∷ gs) are left out s =
    then-content wants reads (row_events row) (joined_groups bytes gs) (unread_groups options bytes gs) left
    out (single-quiet options bytes wants row are.0 other)
    (groups-content options bytes wants reads w other unique gs are.1 left) s
groups-content options bytes wants reads w other unique (Turned row rows under ∷ gs) are left out s =
    let text : List Event = unread_group options bytes (Lines row rows) in
    let following : List Event = row_events under ++ joined_groups bytes gs in
    let one : Rest wants reads text following out =
    text-content options bytes wants reads w other unique row rows are.0 are.3 following left out
    (following-ended wants (last_row row rows) are.1.after following are.1.after_is)
    (subst (λ (l : List Event). Substituted wants reads left 0 l out)
    (append_assoc
    ((row.front ++ linked_lines n.Content content_link row rows) ++ tail_events n.LineEnding (last_row row rows))
    (row_events under) (joined_groups bytes gs)) s) in
    one.2
    ∙ ap (λ (l : List Event). text ++ l)
    (then-content wants reads (row_events under) (joined_groups bytes gs) (unread_groups options bytes gs)
    one.1 one.0 (under-quiet options bytes wants (last_row row rows) under are.1 other)
    (groups-content options bytes wants reads w other unique gs are.4 one.1) one.3)
    ∙ sym (append_assoc text (row_events under) (unread_groups options bytes gs))
groups-content options bytes wants reads w other unique (Headed row next rows ∷ gs) are left out s =
    then-content wants reads (headed_lines bytes row next rows) (joined_groups bytes gs)
    (unread_groups options bytes gs) left out (headed-quiet options bytes wants row next rows are.1 are.3 are.5 other)
    (groups-content options bytes wants reads w other unique gs are.4 left) s
groups-content options bytes wants reads w other unique (LeafLines row rows ∷ gs) are left out s =
    then-content wants reads (rows_events (row ∷ rows)) (joined_groups bytes gs)
    (unread_groups options bytes gs) left out (spans-quiet options bytes wants row rows are.0 are.3 other)
    (groups-content options bytes wants reads w other unique gs are.2 left) s
groups-content options bytes wants reads w other unique (Lines row rows ∷ gs) are left out s =
    let text : List Event = unread_group options bytes (Lines row rows) in
    let one : Rest wants reads text (joined_groups bytes gs) out =
    text-content options bytes wants reads w other unique row rows are.0 are.2 (joined_groups bytes gs) left out
    (following-lines bytes wants (last_row row rows) gs are.1) s in
    one.2
    ∙ ap (λ (l : List Event). text ++ l)
    (groups-content options bytes wants reads w other unique gs are.3 one.1 one.0 one.3)

-- The events of the lines of a text, joined, and their content read: texts that are not read yet.
pub content-read : (options : ParseOptions) (bytes : List ℕ) (open_before : List Container) (still : HeldLeaf)
    (p : Point) (lines : List (List ℕ)) (rows : List Row) →
    IsShut still → AreRows options bytes open_before still p lines rows → EachNoContent rows →
    (wants : Content → Bool) (reads : Readings) → wants content.Content ≡ true → WantsContent wants →
    ReadsContent options bytes reads →
    (unread : List Event) → Substituted wants reads [] 0 (joined_groups bytes (groups rows)) unread →
    unread ≡ unread_groups options bytes (groups rows)
content-read options bytes open_before still p lines rows shut are quiet wants reads w other unique unread s =
    groups-content options bytes wants reads w other unique (groups rows)
    (groups-are options bytes open_before still p lines rows shut are quiet) [] unread s

-- The ends of lines.

-- the plain layer finds the end of a line, without its ending and with it
pub line_end-alone : (options : ParseOptions) (bytes line : List ℕ) (row : Row) → IsRow options bytes line row →
    line_end bytes (record { first = row.first; after = row.end }) ≡ row.end
line_end-alone options bytes line row is =
    ap (λ (l : List ℕ). past_text (without_ending l) row.first) is.text
    ∙ ap (λ (l : List ℕ). past_text l row.first) (without-none line is.no_ending) ∙ sym is.end

pub line_end-ended : (options : ParseOptions) (bytes line : List ℕ) (row : Row) (q : Point) →
    IsRow options bytes line row → IsEnding bytes row.end q →
    line_end bytes (record { first = row.first; after = q }) ≡ row.end
line_end-ended options bytes line row q is ending =
    ap (λ (l : List ℕ). past_text (without_ending l) row.first) (line-text options bytes line row q is ending)
    ∙ ap (λ (l : List ℕ). past_text l row.first) (without-one line ending.ending is.no_ending)
    ∙ sym is.end
