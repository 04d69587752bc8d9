-- The lines of a leaf of several, joined: from one that begins it by itself to the last that continues it.
use Rattle.std.proofs.Common.{◌≡◌, ℕ, Bool, true, false, cond, ◌&&◌, map, List, [], ◌∷◌, ◌++◌, refl, ap, ap₂, sym, ◌∙◌}
use Rattle.std.proofs.Common.{◌⊎◌, inl, inr, ◌||◌, append_assoc}
use Rattle.std.proofs.lemmas.Bool.{and_right, or_parts, true≢false}
use Rattle.std.proofs.lemmas.List.{map-append}
use Rattle.std.specs.Prelude.{Option, Some, None}
use Rattle.md_engine.specs.declared.configuration.ParseOptions.{ParseOptions}
use Rattle.md_engine.specs.declared.event.Event.{Event}
use Rattle.md_engine.specs.declared.event.Name.{Name}
use Rattle.md_engine.specs.declared.event.Name.TheVariants as n
use Rattle.md_engine.specs.declared.event.Point.{Point}
use Rattle.md_meaning.specs.State.{Container}
use Rattle.md_leaves.specs.Spanned.{begins_further, is_continued, has_lines, links_back, name_at, renamed, spanned}
use Rattle.md_leaves.specs.Spanned.{spanned_from}
use Rattle.md_leaves.specs.declared.spans.Place.TheVariants.{Between, Inside, Outside}
use Rattle.md_leaves.proofs.SpannedLines.{IsBegin, IsEnd, NoBlocks, NoLines, is_continued-other, line-begins}
use Rattle.md_leaves.proofs.SpannedLines.{line-joined, IsFurther, blocks-lines, line-last, lines-block, spanned-passes}
use Rattle.md_leaves.proofs.SpannedLines.{spanned-stays}
use Rattle.md_events.specs.Events.Blocks.{is_block}
use Rattle.md_events.specs.Events.Nested.{exit, is_enter, pair}
use Rattle.md_events.specs.Events.Prefix.{is_prefix}
use Rattle.md_events.specs.Events.Spelled.{role}
use Rattle.proof_frame.specs.Change.{ends_of}
use Rattle.proof_frame.specs.EndingName.{ending_name}
use Rattle.proof_frame.specs.LeafName.{LeafName}
use Rattle.md_registry.specs.Registry.{further_of, leaf}
use Rattle.proof_frame.specs.Row.{LeafRow, Row, RowKind, any_framed, but_end, but_ends, end_of, ending_events}
use Rattle.proof_frame.specs.Row.{ending_of, is_blank_by, is_framed, last_row, span_after, span_by, span_rest}
use Rattle.proof_rows.specs.Rows.{leaf_events, row_events, rows_events, tail_events}
use Rattle.proof_frame.proofs.EachEvent.{each-append}
use Rattle.proof_frame.proofs.FrontNames.{HasFront, ends-are, fronts-are, fronts-prefixes}
use Rattle.proof_rows.proofs.GroupLines.{AreSpan, IsSpanLine, span-begins}
use Rattle.proof_frame.proofs.PrefixNames.{ArePrefixes, prefixes-front}
use Rattle.md_registry.proofs.SpanLeaves.{span-laws}
use Rattle.proof_frame.proofs.LeafLines.Cuts.{but_end-is, but_ends-is, end-is}
use Rattle.proof_frame.proofs.LeafLines.Framed.{plain-unframed, rest-bare, rest-following, rest-framed, spanned-framed}
use Rattle.proof_frame.proofs.SpanLaws.{AreAfter, IsBare, IsNone, IsSpanned}
use Rattle.proof_frame.proofs.SpannedFacts.{AreUnspanned, IsUnspanned, fronts-unspanned, unspanned-lines}
use Rattle.proof_frame.proofs.SpannedFacts.{unspanned-pass}

-- Endings.

-- the name of the ending of a line: it begins and ends no block, and between two lines of a leaf it is an ending like
-- any other
pub record IsEndingName (name : Name) : Type 0 where
  unspanned : (p : Point) → IsUnspanned (exit name p)
  no_block : is_block (role name) ≡ false
  between : name_at Between name ≡ n.LineEnding

abbrev pub ending_at : Row → Name
ending_at row = ending_of row.kind row

pub ending-name : (kind : RowKind) (row : Row) → IsEndingName (ending_of kind row)
ending-name kind row = go (is_blank_by kind row)
  where
    go : (blank : Bool) → IsEndingName (ending_name blank)
    go true = record { unspanned = λ p. refl; no_block = refl; between = refl }
    go false = record { unspanned = λ p. refl; no_block = refl; between = refl }

pub ending-unspanned : (name : Name) (row : Row) → IsEndingName name → AreUnspanned (ending_events name row)
ending-unspanned name row is = go row.after
  where
    go : (after : Option Point) → AreUnspanned (elim after [ None ↦ [] | Some q ↦ pair name row.end q ])
    go None = tt
    go (Some q) = (is.unspanned row.end, (is.unspanned q, tt))

ending-no_blocks : (name : Name) (row : Row) → IsEndingName name → NoBlocks (ending_events name row)
ending-no_blocks name row is = go row.after
  where
    go : (after : Option Point) → NoBlocks (elim after [ None ↦ [] | Some q ↦ pair name row.end q ])
    go None = tt
    go (Some q) = (is.no_block, (is.no_block, tt))

ending-between : (name : Name) (row : Row) → IsEndingName name →
    map (renamed Between) (ending_events name row) ≡ ending_events n.LineEnding row
ending-between name row is = go row.after
  where
    go : (after : Option Point) →
        map (renamed Between) (elim after [ None ↦ [] | Some q ↦ pair name row.end q ])
        ≡ elim after [ None ↦ [] | Some q ↦ pair n.LineEnding row.end q ]
    go None = refl
    go (Some q) = ap (λ (m : Name). pair m row.end q) is.between

-- what follows a line
pub tail-unspanned : (kind : RowKind) (row : Row) → AreUnspanned (tail_events (ending_of kind row) row)
tail-unspanned kind row =
    each-append IsUnspanned (ends_of row.closed_after row.end) (ending_events (ending_of kind row) row)
    (fronts-unspanned (ends_of row.closed_after row.end) (ends-are row.closed_after row.end))
    (ending-unspanned (ending_of kind row) row (ending-name kind row))

-- where no container ends there
tail-none : (name : Name) (row : Row) → row.closed_after ≡ [] → tail_events name row ≡ ending_events name row
tail-none name row none = ap (λ (cs : List Container). ends_of cs row.end ++ ending_events name row) none

-- and before one
pub front-unspanned : (bytes : List ℕ) (row : Row) → HasFront bytes row → AreUnspanned row.front
front-unspanned bytes row h =
    fronts-unspanned row.front (fronts-are bytes row.change.opens h.0 row.first row.front h.1)

-- Prefixes between two lines of a leaf stay.

prefix-no_block : (name : Name) → is_prefix name ≡ true → is_block (role name) ≡ false
prefix-no_block n.Data h = refl
prefix-no_block _ h = cc

prefix-between : (name : Name) → is_prefix name ≡ true → name_at Between name ≡ name
prefix-between n.BlankLineEnding h = cc
prefix-between _ h = refl

prefixes-no_blocks : (es : List Event) → ArePrefixes es → NoBlocks es
prefixes-no_blocks [] h = tt
prefixes-no_blocks (e ∷ es) h = (prefix-no_block e.name h.0.0, prefixes-no_blocks es h.1)

no_blocks-append : (xs ys : List Event) → NoBlocks xs → NoBlocks ys → NoBlocks (xs ++ ys)
no_blocks-append [] ys h k = k
no_blocks-append (x ∷ xs) ys h k = (h.0, no_blocks-append xs ys h.1 k)

prefixes-between : (es : List Event) → ArePrefixes es → map (renamed Between) es ≡ es
prefixes-between [] h = refl
prefixes-between (e ∷ es) h =
    ap₂ (λ (name : Name) (l : List Event). record e { name = name } ∷ l) (prefix-between e.name h.0.0)
    (prefixes-between es h.1)

-- What is between two lines of a leaf, and what is left of it there.
record IsGap (gap given : List Event) : Type 0 where
  no_blocks : NoBlocks gap
  between : map (renamed Between) gap ≡ given

no-gap : IsGap [] []
no-gap = record { no_blocks = tt; between = refl }

gap-append : (xs given ys more : List Event) → IsGap xs given → IsGap ys more → IsGap (xs ++ ys) (given ++ more)
gap-append xs given ys more h k = record {
  no_blocks = no_blocks-append xs ys h.no_blocks k.no_blocks;
  between = map-append (renamed Between) xs ys ∙ ap₂ (λ (a b : List Event). a ++ b) h.between k.between;
}

ending-gap : (row : Row) → IsGap (ending_events (ending_at row) row) (ending_events n.LineEnding row)
ending-gap row = record {
  no_blocks = ending-no_blocks (ending_at row) row (ending-name row.kind row);
  between = ending-between (ending_at row) row (ending-name row.kind row);
}

prefixes-gap : (es : List Event) → ArePrefixes es → IsGap es es
prefixes-gap es h = record { no_blocks = prefixes-no_blocks es h; between = prefixes-between es h }

bare-unframed : (es : List Event) → IsBare es → is_framed es ≡ false
bare-unframed es h = plain-unframed es (blocks-lines es h.no_blocks)

bare-gap : (es : List Event) → IsBare es → IsGap es es
bare-gap es h = record { no_blocks = h.no_blocks; between = h.between }

-- a gap, with the ending of a line after it and the prefixes of the next
front-gap : (gap given : List Event) (row next : Row) → IsGap gap given → ArePrefixes next.front →
    IsGap (gap ++ ending_events (ending_at row) row ++ next.front)
    (given ++ ending_events n.LineEnding row ++ next.front)
front-gap gap given row next is prefixes =
    let ending : List Event = ending_events (ending_at row) row in
    let as_line : List Event = ending_events n.LineEnding row in
    gap-append (gap ++ ending) (given ++ as_line) next.front next.front
    (gap-append gap given ending as_line is (ending-gap row)) (prefixes-gap next.front prefixes)

-- What is ahead.

-- events of no such leaf are no further line
pub plain-ahead : (es rest : List Event) → NoLines es → is_continued rest ≡ false → is_continued (es ++ rest) ≡ false
plain-ahead [] rest h k = k
plain-ahead (e ∷ es) rest h k = go (is_block (role e.name)) refl (plain-ahead es rest h.1 k)
  where
    go : (x : Bool) → is_block (role e.name) ≡ x → is_continued (es ++ rest) ≡ false →
        is_continued (e ∷ (es ++ rest)) ≡ false
    go true block none =
        is_continued-other e (es ++ rest) block
        (and_right (is_enter e.kind) (has_lines (role e.name) && links_back e.link)
        (ap (λ (x : Bool). x && links_back e.link) h.0))
    go false block none = ap (λ (x : Bool). cond x (begins_further e) (is_continued (es ++ rest))) block ∙ none

-- nor is the begin of a first line
begin-ahead : (e : Event) (es : List Event) → IsBegin e → is_continued (e ∷ es) ≡ false
begin-ahead e es is =
    is_continued-other e es (lines-block (role e.name) is.lines)
    (ap (λ (x : Bool). is_enter e.kind && (has_lines (role e.name) && x)) is.link
    ∙ and_right (is_enter e.kind) (has_lines (role e.name) && false)
    (and_right (has_lines (role e.name)) false refl))

-- The lines of a leaf.

-- rows of leaves after a line, between which no container ends
abbrev pub AreTogether : Row → List Row → Type 0
AreTogether row [] = Unit {0}
AreTogether row (next ∷ rows) =
    (leaves : row.closed_after ≡ []) × (l : LeafName) × (kind : next.kind ≡ LeafRow l) × AreTogether next rows

pub span-together : (options : ParseOptions) (bytes : List ℕ) (row : Row) (rows : List Row) →
    AreSpan options bytes row rows → AreTogether row rows
span-together options bytes row [] are = tt
span-together options bytes row (next ∷ rows) are =
    let below : IsSpanLine options bytes next = span-begins options bytes next rows are.8 in
    (are.5, below.name, below.kind, span-together options bytes next rows are.8)

-- events one after the other
pub apart : (a b c d e : List Event) → (a ++ b ++ c ++ d) ++ e ≡ a ++ (b ++ (c ++ (d ++ e)))
apart a b c d e =
    append_assoc (a ++ b ++ c) d e ∙ append_assoc (a ++ b) c (d ++ e) ∙ append_assoc a b (c ++ (d ++ e))

gathered : (a b c d e f : List Event) → (a ++ b ++ c) ++ (d ++ (e ++ f)) ≡ a ++ ((b ++ c ++ d ++ e) ++ f)
gathered a b c d e f =
    append_assoc (a ++ b) c (d ++ (e ++ f)) ∙ append_assoc a b (c ++ (d ++ (e ++ f)))
    ∙ ap (λ (l : List Event). a ++ l) (sym (apart b c d e f))

-- The events of a line of a leaf, and what follows it.
pub row-apart : (row : Row) (l : LeafName) (more rest : List Event) → row.kind ≡ LeafRow l →
    (row_events row ++ more) ++ rest
    ≡ row.front ++ (row.inside ++ (tail_events (ending_at row) row ++ (more ++ rest)))
row-apart row l more rest kind =
    let tail : List Event = tail_events (ending_at row) row in
    ap (λ (k : RowKind). ((row.front ++ leaf_events k row ++ tail) ++ more) ++ rest) kind
    ∙ apart row.front row.inside tail more rest

-- what it adds, if it is as a block by itself: its begin, what is inside, and its end
pub line-apart : (Lead : List Event → Type 0) (Begins : Event → Type 0) (es following : List Event) →
    (s : IsSpanned Lead Begins es) → es ++ following ≡ s.lead ++ s.begin ∷ (s.inside ++ s.end ∷ following)
line-apart Lead Begins es following s =
    ap (λ (l : List Event). l ++ following) s.is
    ∙ append_assoc (s.lead ++ s.begin ∷ s.inside) (s.end ∷ []) following
    ∙ append_assoc s.lead (s.begin ∷ s.inside) (s.end ∷ following)

-- after the last line
abbrev pub last_tail : Row → List Row → List Event
last_tail row rows = tail_events (ending_at (last_row row rows)) (last_row row rows)

abbrev pub its_events : Row → List Event
its_events row = row.inside

-- a line of a leaf is after another: no container ends between them, and prefixes alone are before it
record Follows (row next : Row) : Type 0 where
  closed_after : row.closed_after ≡ []
  name : LeafName
  kind : next.kind ≡ LeafRow name
  prefixes : ArePrefixes next.front

next-apart : (row next : Row) (more rest : List Event) → Follows row next →
    tail_events (ending_at row) row ++ ((row_events next ++ more) ++ rest)
    ≡ ending_events (ending_at row) row
    ++ (next.front ++ (next.inside ++ (tail_events (ending_at next) next ++ (more ++ rest))))
next-apart row next more rest is =
    ap₂ (λ (x y : List Event). x ++ y) (tail-none (ending_at row) row is.closed_after)
    (row-apart next is.name more rest is.kind)

-- Bare lines, after the last one that has a begin and an end.

abbrev AreBare : Row → List Row → Type 0
AreBare row [] = Unit {0}
AreBare row (next ∷ rows) = Follows row next × NoBlocks next.inside × AreBare next rows

pub passed : (es rest : List Event) → AreUnspanned es → spanned (es ++ rest) ≡ es ++ spanned rest
passed es rest h = spanned-passes Outside es rest (unspanned-pass es h)

unspanned-ahead : (es rest : List Event) → AreUnspanned es → is_continued rest ≡ false →
    is_continued (es ++ rest) ≡ false
unspanned-ahead es rest h ahead = plain-ahead es rest (unspanned-lines es h) ahead

pub prefixes-unspanned : (es : List Event) → ArePrefixes es → AreUnspanned es
prefixes-unspanned es h = fronts-unspanned es (prefixes-front es h)

-- none of them begins a further line,
bare-ahead : (row : Row) (rows : List Row) (rest : List Event) → AreBare row rows → is_continued rest ≡ false →
    is_continued (tail_events (ending_at row) row ++ (rows_events rows ++ rest)) ≡ false
bare-ahead row [] rest are ahead =
    unspanned-ahead (tail_events (ending_at row) row) rest (tail-unspanned row.kind row) ahead
bare-ahead row (next ∷ rows) rest are ahead =
    let ending : List Event = ending_events (ending_at row) row in
    let following : List Event = tail_events (ending_at next) next ++ (rows_events rows ++ rest) in
    ap is_continued (next-apart row next (rows_events rows) rest are.0)
    ∙ unspanned-ahead ending (next.front ++ (next.inside ++ following))
    (ending-unspanned (ending_at row) row (ending-name row.kind row))
    (unspanned-ahead next.front (next.inside ++ following) (prefixes-unspanned next.front are.0.prefixes)
    (plain-ahead next.inside following (blocks-lines next.inside are.1) (bare-ahead next rows rest are.2 ahead)))

-- and what is left of each is whitespace
bare-following : (row : Row) (rows : List Row) (rest : List Event) → AreBare row rows →
    spanned (tail_events (ending_at row) row ++ (rows_events rows ++ rest))
    ≡ span_after its_events row rows ++ (last_tail row rows ++ spanned rest)
bare-following row [] rest are = passed (tail_events (ending_at row) row) rest (tail-unspanned row.kind row)
bare-following row (next ∷ rows) rest are =
    let ending : List Event = ending_events (ending_at row) row in
    let following : List Event = tail_events (ending_at next) next ++ (rows_events rows ++ rest) in
    let white : List Event = map (renamed Outside) next.inside in
    let S : List Event = span_after its_events next rows in
    let Z : List Event = last_tail next rows ++ spanned rest in
    ap spanned (next-apart row next (rows_events rows) rest are.0)
    ∙ passed ending (next.front ++ (next.inside ++ following))
    (ending-unspanned (ending_at row) row (ending-name row.kind row))
    ∙ ap (λ (l : List Event). ending ++ l)
    (passed next.front (next.inside ++ following) (prefixes-unspanned next.front are.0.prefixes)
    ∙ ap (λ (l : List Event). next.front ++ l)
    (spanned-stays Outside next.inside following (blocks-lines next.inside are.1)
    ∙ ap (λ (l : List Event). white ++ l) (bare-following next rows rest are.2)))
    ∙ sym (apart ending next.front white S Z)

-- Lines after the begin of one: what is left of them, after what is inside of that line, and what is left of a gap
-- after its end.
abbrev Joins : Row → List Row → List Event → Event → List Event → List Event → List Event → Type 0
Joins row rows inside e gap given rest =
    spanned_from Inside (inside ++ e ∷ (gap ++ (tail_events (ending_at row) row ++ (rows_events rows ++ rest))))
    ≡ inside ++ (given ++ (span_rest its_events (e ∷ []) row rows ++ (last_tail row rows ++ spanned rest)))

-- bare lines alone: the leaf ends as that line does
bare-joined : (row : Row) (rows : List Row) (inside : List Event) (e : Event) (rest : List Event) →
    AreBare row rows → any_framed its_events rows ≡ false → NoLines inside → IsEnd e → is_continued rest ≡ false →
    Joins row rows inside e [] [] rest
bare-joined row rows inside e rest are none plain end ahead =
    let Z : List Event = last_tail row rows ++ spanned rest in
    line-last inside e (tail_events (ending_at row) row ++ (rows_events rows ++ rest)) plain end
    (bare-ahead row rows rest are ahead)
    ∙ ap (λ (l : List Event). inside ++ e ∷ l) (bare-following row rows rest are)
    ∙ ap (λ (l : List Event). inside ++ (l ++ Z)) (sym (rest-following its_events (e ∷ []) row rows none))

-- one that has a begin and an end: the leaf continues
framed-joined : (row next : Row) (rows : List Row) (inside : List Event) (e : Event) (gap given rest : List Event) →
    Follows row next → NoLines inside → IsEnd e → IsGap gap given → (s : IsSpanned IsNone IsFurther next.inside) →
    Joins next rows s.inside s.end [] [] rest → Joins row (next ∷ rows) inside e gap given rest
framed-joined row next rows inside e gap given rest is plain end free s on =
    let ending : List Event = ending_events (ending_at row) row in
    let as_line : List Event = ending_events n.LineEnding row in
    let following : List Event = tail_events (ending_at next) next ++ (rows_events rows ++ rest) in
    let further : List Event = s.begin ∷ (s.inside ++ s.end ∷ following) in
    let between : IsGap (gap ++ ending ++ next.front) (given ++ as_line ++ next.front) =
    front-gap gap given row next free is.prefixes in
    let next_is : next.inside ≡ s.begin ∷ s.inside ++ s.end ∷ [] = s.is
    ∙ ap (λ (lead : List Event). lead ++ s.begin ∷ s.inside ++ s.end ∷ []) s.lead_plain in
    let S : List Event = span_rest its_events (s.end ∷ []) next rows in
    let Z : List Event = last_tail next rows ++ spanned rest in
    let left : span_rest its_events (e ∷ []) row (next ∷ rows) ≡ as_line ++ next.front ++ s.inside ++ S =
    rest-framed its_events (e ∷ []) row next rows (spanned-framed IsNone IsFurther next.inside s)
    ∙ ap₂ (λ (es : List Event) (last : List Event). as_line ++ next.front ++ es ++ span_rest its_events last next rows)
    (ap but_ends next_is ∙ but_ends-is s.begin s.inside s.end)
    (ap end_of next_is ∙ end-is (s.begin ∷ s.inside) s.end) in
    ap (λ (l : List Event). spanned_from Inside (inside ++ e ∷ (gap ++ l)))
    (next-apart row next (rows_events rows) rest is
    ∙ ap (λ (l : List Event). ending ++ (next.front ++ l))
    (line-apart IsNone IsFurther next.inside following s
    ∙ ap (λ (lead : List Event). lead ++ further) s.lead_plain))
    ∙ ap (λ (l : List Event). spanned_from Inside (inside ++ e ∷ l))
    (sym (append_assoc gap ending (next.front ++ further)) ∙ sym (append_assoc (gap ++ ending) next.front further))
    ∙ line-joined inside e (gap ++ ending ++ next.front) s.begin (s.inside ++ s.end ∷ following) plain end
    between.no_blocks s.begins
    ∙ ap₂ (λ (x y : List Event). inside ++ (x ++ y)) between.between on
    ∙ ap (λ (l : List Event). inside ++ l)
    (gathered given as_line next.front s.inside S Z ∙ ap (λ (l : List Event). given ++ (l ++ Z)) (sym left))

-- a bare one, before one that has them: it is one more part of the gap
bare-passed : (row next : Row) (rows : List Row) (inside : List Event) (e : Event) (gap given rest : List Event) →
    Follows row next → IsBare next.inside → any_framed its_events rows ≡ true →
    Joins next rows inside e (gap ++ ending_events (ending_at row) row ++ next.front ++ next.inside)
    (given ++ ending_events n.LineEnding row ++ next.front ++ next.inside) rest →
    Joins row (next ∷ rows) inside e gap given rest
bare-passed row next rows inside e gap given rest is bare more on =
    let ending : List Event = ending_events (ending_at row) row in
    let as_line : List Event = ending_events n.LineEnding row in
    let following : List Event = tail_events (ending_at next) next ++ (rows_events rows ++ rest) in
    let S : List Event = span_rest its_events (e ∷ []) next rows in
    let Z : List Event = last_tail next rows ++ spanned rest in
    ap (λ (l : List Event). spanned_from Inside (inside ++ e ∷ l))
    (ap (λ (l : List Event). gap ++ l) (next-apart row next (rows_events rows) rest is)
    ∙ sym (apart gap ending next.front next.inside following))
    ∙ on
    ∙ ap (λ (l : List Event). inside ++ l)
    (append_assoc (given ++ as_line ++ next.front) next.inside (S ++ Z)
    ∙ gathered given as_line next.front next.inside S Z
    ∙ ap (λ (l : List Event). given ++ (l ++ Z))
    (sym (rest-bare its_events (e ∷ []) row next rows (bare-unframed next.inside bare) more)))

-- The lines of a leaf, after the begin of one of them.

follows-from : (options : ParseOptions) (bytes : List ℕ) (name : LeafName) (row next : Row) (rows : List Row) →
    AreTogether row (next ∷ rows) → AreAfter options bytes (leaf (further_of name)) row (next ∷ rows) →
    Follows row next
follows-from options bytes name row next rows together are =
    record {
      closed_after = together.0;
      name = together.1;
      kind = together.2;
      prefixes = fronts-prefixes bytes [] are.0 next.first next.front refl are.3;
    }

-- those that have no begin and no end are bare
are-bare : (options : ParseOptions) (bytes : List ℕ) (name : LeafName) (row : Row) (rows : List Row) →
    (leaf name).ends ≡ false → AreTogether row rows → AreAfter options bytes (leaf (further_of name)) row rows →
    any_framed its_events rows ≡ false → AreBare row rows
are-bare options bytes name row [] open_leaf together are none = tt
are-bare options bytes name row (next ∷ rows) open_leaf together are none =
    let each = or_parts (is_framed next.inside) (any_framed its_events rows) none in (
      follows-from options bytes name row next rows together are,
      bare ((span-laws name open_leaf).further_spanned options bytes next are.6 are.5) each.0,
      are-bare options bytes name next rows open_leaf together.3 are.7 each.1,
    )
  where
    bare : IsSpanned IsNone IsFurther next.inside ⊎ IsBare next.inside → is_framed next.inside ≡ false →
        NoBlocks next.inside
    bare (inl s) h = absurd (true≢false (sym (spanned-framed IsNone IsFurther next.inside s) ∙ h))
    bare (inr b) h = b.no_blocks

-- so the leaf ends, or continues
joined-by : (row : Row) (rows : List Row) (inside : List Event) (e : Event) (rest : List Event) →
    (any_framed its_events rows ≡ false → AreBare row rows) →
    (any_framed its_events rows ≡ true → Joins row rows inside e [] [] rest) →
    NoLines inside → IsEnd e → is_continued rest ≡ false → Joins row rows inside e [] [] rest
joined-by row rows inside e rest bare more plain end ahead = go (any_framed its_events rows) refl
  where
    go : (x : Bool) → any_framed its_events rows ≡ x → Joins row rows inside e [] [] rest
    go true h = more h
    go false h = bare-joined row rows inside e rest (bare h) h plain end ahead

-- it continues over what is between two lines that have a begin and an end
gaps-joined : (options : ParseOptions) (bytes : List ℕ) (name : LeafName) (row : Row) (rows : List Row)
    (inside : List Event) (e : Event) (gap given rest : List Event) →
    (leaf name).ends ≡ false → AreTogether row rows → AreAfter options bytes (leaf (further_of name)) row rows →
    any_framed its_events rows ≡ true → NoLines inside → IsEnd e → IsGap gap given → is_continued rest ≡ false →
    Joins row rows inside e gap given rest
gaps-joined options bytes name row [] inside e gap given rest open_leaf together are more plain end free ahead =
    absurd (let bad : false ≡ true = more in cc)
gaps-joined options bytes name row (next ∷ rows) inside e gap given rest open_leaf together are more plain end free
    ahead =
    go ((span-laws name open_leaf).further_spanned options bytes next are.6 are.5)
    (λ inside e gap given more plain end free.
    gaps-joined options bytes name next rows inside e gap given rest open_leaf together.3 are.7 more plain end free
    ahead)
  where
    Following : Type 0
    Following =
        (inside : List Event) (e : Event) (gap given : List Event) → any_framed its_events rows ≡ true →
        NoLines inside → IsEnd e → IsGap gap given → Joins next rows inside e gap given rest

    follows : Follows row next
    follows = follows-from options bytes name row next rows together are

    go : IsSpanned IsNone IsFurther next.inside ⊎ IsBare next.inside → Following →
        Joins row (next ∷ rows) inside e gap given rest
    go (inl s) following =
        framed-joined row next rows inside e gap given rest follows plain end free s
        (joined-by next rows s.inside s.end rest
        (are-bare options bytes name next rows open_leaf together.3 are.7)
        (λ more. following s.inside s.end [] [] more s.inside_plain s.ends no-gap) s.inside_plain s.ends ahead)
    go (inr b) following =
        let further : any_framed its_events rows ≡ true =
        ap (λ (x : Bool). x || any_framed its_events rows) (sym (bare-unframed next.inside b)) ∙ more in
        bare-passed row next rows inside e gap given rest follows b further
        (following inside e (gap ++ ending_events (ending_at row) row ++ next.front ++ next.inside)
        (given ++ ending_events n.LineEnding row ++ next.front ++ next.inside) further plain end
        (gap-append (gap ++ ending_events (ending_at row) row ++ next.front)
        (given ++ ending_events n.LineEnding row ++ next.front) next.inside next.inside
        (front-gap gap given row next free follows.prefixes) (bare-gap next.inside b)))

lines-from : (options : ParseOptions) (bytes : List ℕ) (name : LeafName) (row : Row) (rows : List Row)
    (inside : List Event) (e : Event) (rest : List Event) →
    (leaf name).ends ≡ false → AreTogether row rows → AreAfter options bytes (leaf (further_of name)) row rows →
    NoLines inside → IsEnd e → is_continued rest ≡ false → Joins row rows inside e [] [] rest
lines-from options bytes name row rows inside e rest open_leaf together are plain end ahead =
    joined-by row rows inside e rest (are-bare options bytes name row rows open_leaf together are)
    (λ more.
    gaps-joined options bytes name row rows inside e [] [] rest open_leaf together are more plain end no-gap ahead)
    plain end ahead

-- A line that begins a leaf by itself, with what is before it: no line in front continues,
pub begun-ahead : (front inside following : List Event) → AreUnspanned front → IsSpanned AreUnspanned IsBegin inside →
    is_continued (front ++ (inside ++ following)) ≡ false
begun-ahead front inside following passes s =
    let more : List Event = s.begin ∷ (s.inside ++ s.end ∷ following) in
    ap (λ (l : List Event). is_continued (front ++ l)) (line-apart AreUnspanned IsBegin inside following s)
    ∙ plain-ahead front (s.lead ++ more) (unspanned-lines front passes)
    (plain-ahead s.lead more (unspanned-lines s.lead s.lead_plain)
    (begin-ahead s.begin (s.inside ++ s.end ∷ following) s.begins))

-- and it is joined with those after it, up to the last.
pub begun-joined : (options : ParseOptions) (bytes : List ℕ) (name : LeafName) (row : Row) (rows : List Row)
    (rest : List Event) →
    (leaf name).ends ≡ false → AreTogether row rows → AreAfter options bytes (leaf (further_of name)) row rows →
    AreUnspanned row.front → IsSpanned AreUnspanned IsBegin row.inside → is_continued rest ≡ false →
    spanned (row.front ++ (row.inside ++ (tail_events (ending_at row) row ++ (rows_events rows ++ rest)))) ≡
    (row.front ++ span_by its_events row rows ++ last_tail row rows) ++ spanned rest
begun-joined options bytes name row rows rest open_leaf together following passes s ahead =
    let front : List Event = row.front in
    let begun : List Event = s.lead ++ s.begin ∷ s.inside in
    let tail : List Event = tail_events (ending_at row) row ++ (rows_events rows ++ rest) in
    let more : List Event = s.inside ++ s.end ∷ tail in
    let R : List Event = span_rest its_events (s.end ∷ []) row rows in
    let Z : List Event = last_tail row rows ++ spanned rest in
    let whole : span_by its_events row rows ≡ begun ++ R =
    ap₂ (λ (es last : List Event). es ++ span_rest its_events last row rows)
    (ap but_end s.is ∙ but_end-is begun s.end) (ap end_of s.is ∙ end-is begun s.end) in
    ap (λ (l : List Event). spanned (front ++ l)) (line-apart AreUnspanned IsBegin row.inside tail s)
    ∙ passed front (s.lead ++ s.begin ∷ more) passes
    ∙ ap (λ (l : List Event). front ++ l)
    (passed s.lead (s.begin ∷ more) s.lead_plain
    ∙ ap (λ (l : List Event). s.lead ++ l)
    (line-begins Outside s.begin more s.begins
    ∙ ap (λ (l : List Event). s.begin ∷ l)
    (lines-from options bytes name row rows s.inside s.end rest open_leaf together following s.inside_plain
    s.ends ahead))
    ∙ sym (append_assoc s.lead (s.begin ∷ s.inside) (R ++ Z)) ∙ sym (append_assoc begun R Z)
    ∙ ap (λ (l : List Event). l ++ Z) (sym whole))
    ∙ sym (append_assoc front (span_by its_events row rows) Z)
    ∙ sym (append_assoc (front ++ span_by its_events row rows) (last_tail row rows) (spanned rest))
