-- What is met after a line of text by a look for a table that takes it as its head: a line of a table, if one continues
-- it, and else another line of text, a blank line, a container or another block.
use Rattle.std.proofs.Common.{◌≡◌, ℕ, Bool, true, false, cond, ◌&&◌, List, [], ◌∷◌, ◌++◌, refl, ap, sym, ◌∙◌, subst}
use Rattle.std.proofs.Common.{append_assoc}
use Rattle.std.specs.Prelude.{◌||◌, Option, Some, None, not}
use Rattle.std.proofs.lemmas.Bool.{and_parts, and_right}
use Rattle.md_engine.specs.declared.configuration.ParseOptions.{ParseOptions}
use Rattle.md_engine.specs.declared.event.Event.{Event}
use Rattle.md_engine.specs.declared.event.Link.{Link}
use Rattle.md_engine.specs.declared.event.Name.{Name}
use Rattle.md_engine.specs.declared.event.Name.TheVariants as n
use Rattle.md_engine.specs.declared.event.Point.{Point}
use Rattle.md_engine.specs.declared.tokenizer.held_leaf.HeldLeaf.{HeldLeaf}
use Rattle.md_engine.specs.declared.tokenizer.held_leaf.HeldLeaf.TheVariants as held_leaf
use Rattle.md_engine.specs.declared.tokenizer.held_leaf.OpenText.{OpenText}
use Rattle.md_meaning.specs.Rest.{trim_start}
use Rattle.md_meaning.specs.Texts.{first_byte}
use Rattle.md_meaning.specs.State.{Container, kept}
use Rattle.md_leaves.specs.Spanned.{has_lines, is_blank_ending, links_back}
use Rattle.md_leaves.proofs.SpannedLines.{IsBegin, NoLines, lines-block}
use Rattle.md_link_definitions.specs.OpenText.{open_text}
use Rattle.md_link_definitions.specs.Progress.{progress_of, step}
use Rattle.md_events.specs.Events.Blocks.{is_block}
use Rattle.md_events.specs.Events.Nested.{enter, exit, is_enter, pair}
use Rattle.md_events.specs.Events.Places.{past_text}
use Rattle.md_events.specs.Events.Spelled.{role}
use Rattle.md_tables.specs.GfmTableLine.{table_line}
use Rattle.md_tables.specs.Heads.{begins_further_row, is_chunk, is_table, meets_table, stops_look}
use Rattle.md_tables.proofs.HeadsLemmas.{meets-other, prefix-passed}
use Rattle.proof_frame.specs.Change.{ends_of}
use Rattle.proof_frame.specs.HeldLeaf.{may_continue}
use Rattle.proof_frame.specs.LeafName.{CodeFurther, CodeIndented, Fence, FenceFurther, GfmTable, HeadingSetext}
use Rattle.proof_frame.specs.LeafName.{HtmlFlow, HtmlFurther, LeafName}
use Rattle.md_registry.specs.Registry.{leaf}
use Rattle.proof_frame.specs.Row.{BlankRow, LeafRow, Row, RowKind, TextRow, ending_events, ending_of}
use Rattle.proof_rows.specs.Rows.{is_further, leaf_events, line_following, row_events, row_events_by, rows_events}
use Rattle.proof_rows.specs.Rows.{tail_events, takes_head}
use Rattle.proof_frame.specs.MarkRuns.{Apart, mark_runs}
use Rattle.proof_frame.proofs.BlankLine.{blank-unlinked}
use Rattle.proof_frame.proofs.EachEvent.{Each, each-append, each-as}
use Rattle.proof_frame.proofs.FrontNames.{ends-are, fronts-are, fronts-prefixes, HasFront}
use Rattle.proof_rows.proofs.GroupLemmas.{rows-end, rows-front}
use Rattle.proof_rows.proofs.GroupLines.{Begins}
use Rattle.proof_rows.proofs.LineAfter.{FirstLine, first-line, line-begins, line-met}
use Rattle.proof_rows.proofs.JoinedLemmas.{EachEnds}
use Rattle.proof_frame.proofs.LeafLines.Cuts.{ending-is}
use Rattle.proof_frame.proofs.MarkRuns.Each.{runs-hold}
use Rattle.proof_frame.proofs.PartFacts.{IsUnlinked, NoLinks}
use Rattle.proof_frame.proofs.PrefixNames.{AreFront, ArePrefixes, IsFrontEvent, is_alone, is_string}
use Rattle.md_registry.proofs.SpanLeaves.{span-laws}
use Rattle.proof_rows.proofs.RowFacts.{AreRows, IsRow, following_line}
use Rattle.proof_rows.proofs.RowLeaf.{row-as}
use Rattle.proof_frame.proofs.SpanLaws.{IsLineOf, IsSpanned}
use Rattle.proof_frame.proofs.SpannedFacts.{AreUnspanned, unspanned-lines}
use Rattle.proof_rows.proofs.SpanJoined.{line-apart}
use Rattle.md_registry.proofs.UnderNames.{further-text, heads-table, under-shuts}

-- Events with which no line of a table begins that continues another.

abbrev IsNoRow : Event → Type 0
IsNoRow e = begins_further_row e ≡ false

abbrev NoRows : List Event → Type 0
NoRows es = Each IsNoRow es

unlinked-row : (e : Event) → e.link ≡ None → IsNoRow e
unlinked-row e none =
    and_right (is_enter e.kind) (is_table e.name && links_back e.link)
    (and_right (is_table e.name) (links_back e.link) (ap links_back none))

unlinked-rows : (es : List Event) → NoLinks es → NoRows es
unlinked-rows es h = each-as IsUnlinked IsNoRow unlinked-row es h

-- a chunk that is alone continues no other
alone-row : (link : Option Link) → is_alone link ≡ true → links_back link ≡ false
alone-row None h = refl
alone-row (Some link) h = go link.previous (and_parts (is_string link.content) (not link.previous) h).1
  where
    go : (x : Bool) → not x ≡ true → x ≡ false
    go true h = cc
    go false h = refl

front-rows : (es : List Event) → AreFront es → NoRows es
front-rows es h =
    each-as IsFrontEvent IsNoRow
    (λ e is.
    and_right (is_enter e.kind) (is_table e.name && links_back e.link)
    (and_right (is_table e.name) (links_back e.link) (alone-row e.link is.1))) es h

lined-table : (name : Name) → has_lines (role name) ≡ false → is_table name ≡ false
lined-table n.GfmTable h = cc
lined-table _ h = refl

lined-rows : (es : List Event) → NoLines es → NoRows es
lined-rows [] h = tt
lined-rows (e ∷ es) h = (
  and_right (is_enter e.kind) (is_table e.name && links_back e.link)
      (ap (λ (x : Bool). x && links_back e.link) (lined-table e.name h.0)),
  lined-rows es h.1,
)

-- a look that goes past them meets what it meets after them, or nothing
meets-past : (xs ys : List Event) → NoRows xs → meets_table ys ≡ false → meets_table (xs ++ ys) ≡ false
meets-past [] ys h none = none
meets-past (e ∷ xs) ys h none = go (stops_look e) (meets-past xs ys h.1 none)
  where
    go : (x : Bool) → meets_table (xs ++ ys) ≡ false → cond x (begins_further_row e) (meets_table (xs ++ ys)) ≡ false
    go true more = h.0
    go false more = more

-- what follows a line
tail-rows : (name : Name) (row : Row) → NoRows (tail_events name row)
tail-rows name row =
    each-append IsNoRow (ends_of row.closed_after row.end) (ending_events name row)
    (front-rows (ends_of row.closed_after row.end) (ends-are row.closed_after row.end)) (go row.after)
  where
    go : (after : Option Point) → NoRows (elim after [ None ↦ [] | Some q ↦ pair name row.end q ])
    go None = tt
    go (Some q) = (unlinked-row (enter name row.end) refl, (unlinked-row (exit name q) refl, tt))

pub tail-met : (name : Name) (row : Row) (es : List Event) → meets_table es ≡ false →
    meets_table (tail_events name row ++ es) ≡ false
tail-met name row es none = meets-past (tail_events name row) es (tail-rows name row) none

-- and before it
has_front-rows : (bytes : List ℕ) (row : Row) → HasFront bytes row → NoRows row.front
has_front-rows bytes row front =
    front-rows row.front (fronts-are bytes row.change.opens front.0 row.first row.front front.1)

-- A line, before others.

pub row-parts : (row : Row) (kind : RowKind) (es : List Event) → row.kind ≡ kind →
    row_events row ++ es ≡ row.front ++ (leaf_events kind row ++ (tail_events (ending_of kind row) row ++ es))
row-parts row kind es e =
    ap (λ (k : RowKind). row_events_by k row ++ es) e
    ∙ append_assoc (row.front ++ leaf_events kind row) (tail_events (ending_of kind row) row) es
    ∙ append_assoc row.front (leaf_events kind row) (tail_events (ending_of kind row) row ++ es)

-- no line of a table is met in what is before it
following-front : (bytes : List ℕ) (row : Row) (kind : RowKind) (es : List Event) → row.kind ≡ kind →
    HasFront bytes row →
    meets_table (leaf_events kind row ++ (tail_events (ending_of kind row) row ++ es)) ≡ false →
    meets_table (row_events row ++ es) ≡ false
following-front bytes row kind es e front none =
    ap meets_table (row-parts row kind es e)
    ∙ meets-past row.front (leaf_events kind row ++ (tail_events (ending_of kind row) row ++ es))
    (has_front-rows bytes row front) none

-- nor before the ending of a blank line
blank-met : (row : Row) (rows : List Row) → EachEnds (row ∷ rows) →
    meets_table (tail_events n.BlankLineEnding row ++ rows_events rows) ≡ false
blank-met row [] ends = tail-met n.BlankLineEnding row [] refl
blank-met row (below ∷ rows) ends =
    let es : List Event = rows_events (below ∷ rows) in
    let ending : List Event = pair n.BlankLineEnding row.end ends.0 in
    let leaves : List Event = ends_of row.closed_after row.end in
    ap (λ (l : List Event). meets_table ((leaves ++ l) ++ es)) (ending-is n.BlankLineEnding row ends.0 ends.1)
    ∙ ap meets_table (append_assoc leaves ending es)
    ∙ meets-past leaves (ending ++ es) (front-rows leaves (ends-are row.closed_after row.end)) refl

-- A leaf that always ends on its line begins with its own begin.
single-met : (l : LeafName) → (leaf l).ends ≡ true → (options : ParseOptions) (on : HeldLeaf) (line : List ℕ)
    (p : Point) (es : List Event) → meets_table ((leaf l).added options on line p ++ es) ≡ false
single-met CodeIndented e options on line p es = absurd (cc)
single-met CodeFurther e options on line p es = absurd (cc)
single-met Fence e options on line p es = absurd (cc)
single-met FenceFurther e options on line p es = absurd (cc)
single-met HtmlFlow e options on line p es = absurd (cc)
single-met HtmlFurther e options on line p es = absurd (cc)
single-met HeadingSetext e options on line p es = absurd (cc)
single-met GfmTable e options on line p es = absurd (cc)
single-met _ e options on line p es = refl

-- the begin of a leaf of several lines stops a look, and is no further line
begin-met : (e : Event) (es : List Event) → IsBegin e → meets_table (e ∷ es) ≡ false
begin-met e es is =
    meets-other e es (stops (is_chunk e.name) (is_blank_ending e.name) (lines-block (role e.name) is.lines))
    (and_right (is_enter e.kind) (is_table e.name && links_back e.link)
    (and_right (is_table e.name) (links_back e.link) is.link))
  where
    stops : (x y : Bool) → is_block (role e.name) ≡ true → (x || y || is_block (role e.name)) ≡ true
    stops false false h = h
    stops _ _ h = refl

-- A line that continues no leaf, before others: no line of a table is met there.
begins-met : (options : ParseOptions) (bytes line : List ℕ) (row : Row) (rows : List Row) →
    IsRow options bytes line row → HasFront bytes row → EachEnds (row ∷ rows) → Begins row →
    meets_table (rows_events (row ∷ rows)) ≡ false
begins-met options bytes line row rows is front ends begins = go row.kind refl
  where
    es : List Event
    es = rows_events rows

    leaf_line : (l : LeafName) → row.kind ≡ LeafRow l → (x : Bool) → (leaf l).ends ≡ x →
        meets_table (row.inside ++ (tail_events (ending_of (LeafRow l) row) row ++ es)) ≡ false
    leaf_line l e true k =
        let following : List Event = tail_events (ending_of (LeafRow l) row) row ++ es in
        ap (λ (l : List Event). meets_table (l ++ following)) (is.leaf_is l e)
        ∙ single-met l k options row.on line row.first following
    leaf_line l e false k =
        let of : IsLineOf options bytes (leaf l) row = row-as options bytes line row is l e in
        let s : IsSpanned AreUnspanned IsBegin row.inside =
        (span-laws l k).first_spanned options bytes row of
        (ap (λ (kind : RowKind). is_further kind row.on) (sym e) ∙ begins) in
        let following : List Event = tail_events (ending_of (LeafRow l) row) row ++ es in
        ap meets_table (line-apart AreUnspanned IsBegin row.inside following s)
        ∙ meets-past s.lead (s.begin ∷ (s.inside ++ s.end ∷ following))
        (lined-rows s.lead (unspanned-lines s.lead s.lead_plain))
        (begin-met s.begin (s.inside ++ s.end ∷ following) s.begins)

    go : (kind : RowKind) → row.kind ≡ kind → meets_table (row_events row ++ es) ≡ false
    go TextRow e = following-front bytes row TextRow es e front refl
    go BlankRow e =
        following-front bytes row BlankRow es e front
        (meets-past row.inside (tail_events n.BlankLineEnding row ++ es)
        (unlinked-rows row.inside (subst NoLinks (sym (is.blank e)) (blank-unlinked line row.first)))
        (blank-met row rows ends))
    go (LeafRow l) e = following-front bytes row (LeafRow l) es e front (leaf_line l e (leaf l).ends refl)

-- The first line of some, where no leaf is open that a line may continue,
shut-met : (options : ParseOptions) (bytes : List ℕ) (cs : List Container) (still : HeldLeaf) (p : Point)
    (lines : List (List ℕ)) (rows : List Row) →
    may_continue still ≡ false → AreRows options bytes cs still p lines rows → meets_table (rows_events rows) ≡ false
shut-met options bytes cs still p lines [] shut are = refl
shut-met options bytes cs still p lines (row ∷ rows) shut are =
    go lines (first-line options bytes cs still p lines row rows are)
  where
    go : (lines : List (List ℕ)) → FirstLine options bytes cs still p lines row →
        meets_table (rows_events (row ∷ rows)) ≡ false
    go [] is = absurd is
    go (line ∷ lines) is =
        begins-met options bytes _ row rows is.is (rows-front options bytes cs still p _ (row ∷ rows) are).0
        (rows-end options bytes cs still p _ (row ∷ rows) are) (line-begins options bytes cs still p line row is shut)

-- and those after one, where none is open after that.
rest-met : (options : ParseOptions) (bytes : List ℕ) (cs : List Container) (still : HeldLeaf) (p : Point)
    (lines : List (List ℕ)) (row : Row) (rows : List Row) →
    AreRows options bytes cs still p lines (row ∷ rows) → may_continue row.following ≡ false →
    meets_table (rows_events rows) ≡ false
rest-met options bytes cs still p lines row [] are shut = refl
rest-met options bytes cs still p (line ∷ next ∷ lines) row (below ∷ rows) are shut =
    shut-met options bytes (following_line options cs still p line) row.following are.2 (next ∷ lines)
    (below ∷ rows) shut
    are.5
rest-met options bytes cs still p lines row rows are shut = absurd are

-- After a line of text.

-- the line after it, where that continues it
record IsOn (options : ParseOptions) (bytes : List ℕ) (row below : Row) : Type 0 where
  line : List ℕ
  is : IsRow options bytes line below
  at : OpenText
  on : below.on ≡ held_leaf.Text at
  opens : below.change.opens ≡ []
  closes : below.change.closes ≡ []

is-on : (options : ParseOptions) (bytes line : List ℕ) (row : Row) (cs : List Container) (p : Point)
    (lines : List (List ℕ)) (below : Row) →
    IsRow options bytes line row → row.kind ≡ TextRow → FirstLine options bytes cs row.following p lines below →
    is_further below.kind below.on ≡ true → IsOn options bytes row below
is-on options bytes line row cs p [] below is text first f = absurd first
is-on options bytes line row cs p (next ∷ lines) below is text first f =
    let met = line-met options bytes cs row.following p next below first f in
    record {
      line = _;
      is = first.is;
      at = open_text (step (progress_of row.on) (trim_start is.rest.bytes)) (kept is.rest);
      on = met.2 ∙ is.following ∙ ap (line_following options row.on is.rest) text;
      opens = met.0;
      closes = met.1;
    }

-- with an underline no line of a table begins
underline-rows : (options : ParseOptions) (on : HeldLeaf) (line : List ℕ) (p : Point) →
    NoRows ((leaf HeadingSetext).added options on line p)
underline-rows options on line p = (
  refl,
  each-append IsNoRow
      (mark_runs n.HeadingSetextUnderlineSequence Apart (first_byte (trim_start line)) line p)
      (exit n.HeadingSetextUnderline (past_text line p) ∷ [])
      (runs-hold IsNoRow n.HeadingSetextUnderlineSequence (λ q. refl, λ q. refl) (λ q. refl, λ q. refl) Apart
      (first_byte (trim_start line)) line p)
      (refl, tt),
)

-- So no table is met that continues it, where the line after it does not take it as its head.
pub text-met : (options : ParseOptions) (bytes line : List ℕ) (row : Row) (cs : List Container) (p : Point)
    (lines : List (List ℕ)) (below : Row) (rows : List Row) →
    IsRow options bytes line row → row.kind ≡ TextRow → AreRows options bytes cs row.following p lines (below ∷ rows) →
    (is_further below.kind below.on && takes_head below.kind) ≡ false →
    meets_table (rows_events (below ∷ rows)) ≡ false
text-met options bytes line row cs p lines below rows is text are none =
    go (is_further below.kind below.on) refl none
  where
    first : FirstLine options bytes cs row.following p lines below
    first = first-line options bytes cs row.following p lines below rows are

    front : HasFront bytes below
    front = (rows-front options bytes cs row.following p lines (below ∷ rows) are).0

    begun : (lines : List (List ℕ)) → FirstLine options bytes cs row.following p lines below → Begins below →
        meets_table (rows_events (below ∷ rows)) ≡ false
    begun [] first begins = absurd first
    begun (next ∷ more) first begins =
        begins-met options bytes _ below rows first.is front
        (rows-end options bytes cs row.following p lines (below ∷ rows) are) begins

    under : (kind : RowKind) → below.kind ≡ kind → is_further kind below.on ≡ true → takes_head kind ≡ false →
        IsOn options bytes row below → meets_table (rows_events (below ∷ rows)) ≡ false
    under BlankRow k f h of = cc
    under TextRow k f h of = cc
    under (LeafRow l) k f h of =
        let further : (leaf l).further (held_leaf.Text of.at) ≡ true = ap (leaf l).further (sym of.on) ∙ f in
        let name : l ≡ HeadingSetext = further-text of.at l further h in
        let plain : NoRows below.inside =
        subst NoRows (sym (of.is.leaf_is HeadingSetext (k ∙ ap LeafRow name)))
        (underline-rows options below.on of.line below.first) in
        let shut : may_continue below.following ≡ false =
        ap may_continue
        (of.is.following ∙ ap (line_following options below.on of.is.rest) k
        ∙ under-shuts of.at l further h options below.on of.is.rest) in
        let tail : List Event = tail_events (ending_of (LeafRow l) below) below in
        following-front bytes below (LeafRow l) (rows_events rows) k front
        (meets-past below.inside (tail ++ rows_events rows) plain
        (tail-met (ending_of (LeafRow l) below) below (rows_events rows)
        (rest-met options bytes cs row.following p lines below rows are shut)))

    go : (x : Bool) → is_further below.kind below.on ≡ x → (x && takes_head below.kind) ≡ false →
        meets_table (rows_events (below ∷ rows)) ≡ false
    go false f h = begun lines first f
    go true f h = under below.kind refl f h (is-on options bytes line row cs p lines below is text first f)

-- a look goes past prefixes
prefixes-met : (xs ys : List Event) → ArePrefixes xs → meets_table (xs ++ ys) ≡ meets_table ys
prefixes-met [] ys h = refl
prefixes-met (e ∷ xs) ys h =
    ap (λ (x : Bool). cond x (begins_further_row e) (meets_table (xs ++ ys))) (prefix-passed e h.0.0)
    ∙ prefixes-met xs ys h.1

-- Where it does, one is met, after the ending of the line and the prefixes of containers.
pub head-met : (options : ParseOptions) (bytes line : List ℕ) (row : Row) (cs : List Container) (p : Point)
    (lines : List (List ℕ)) (below : Row) (rows : List Row) →
    IsRow options bytes line row → row.kind ≡ TextRow → AreRows options bytes cs row.following p lines (below ∷ rows) →
    row.closed_after ≡ below.change.closes → (q : Point) → row.after ≡ Some q →
    is_further below.kind below.on ≡ true → takes_head below.kind ≡ true →
    meets_table (tail_events n.LineEnding row ++ rows_events (below ∷ rows)) ≡ true
head-met options bytes line row cs p lines below rows is text are leaves q after f h = go below.kind refl h
  where
    of : IsOn options bytes row below
    of =
        is-on options bytes line row cs p lines below is text
        (first-line options bytes cs row.following p lines below rows are) f

    es : List Event
    es = rows_events (below ∷ rows)

    front : HasFront bytes below
    front = (rows-front options bytes cs row.following p lines (below ∷ rows) are).0

    go : (kind : RowKind) → below.kind ≡ kind → takes_head kind ≡ true →
        meets_table (tail_events n.LineEnding row ++ es) ≡ true
    go BlankRow k h = cc
    go TextRow k h = cc
    go (LeafRow l) k h =
        let kind : below.kind ≡ LeafRow GfmTable = k ∙ ap LeafRow (heads-table l h) in
        let inside : below.inside ≡ table_line (held_leaf.Text of.at) of.line below.first =
        of.is.leaf_is GfmTable kind ∙ ap (λ (on : HeldLeaf). table_line on of.line below.first) of.on in
        let following : List Event = tail_events (ending_of (LeafRow GfmTable) below) below ++ rows_events rows in
        ap (λ (cs : List Container). meets_table ((ends_of cs row.end ++ ending_events n.LineEnding row) ++ es))
        (leaves ∙ of.closes)
        ∙ ap (λ (l : List Event). meets_table (l ++ es)) (ending-is n.LineEnding row q after)
        ∙ ap meets_table (row-parts below (LeafRow GfmTable) (rows_events rows) kind)
        ∙ prefixes-met below.front (below.inside ++ following)
        (fronts-prefixes bytes below.change.opens front.0 below.first below.front of.opens front.1)
        ∙ ap (λ (l : List Event). meets_table (l ++ following)) inside
