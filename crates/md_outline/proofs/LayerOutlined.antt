-- An inline layer changes nothing that an outline needs: where the events that the plain layer gives may be outlined,
-- so may those of any layer.
use Rattle.std.proofs.Common.{◌≡◌, ℕ, zero, suc, Bool, true, false, cond, ◌&&◌, ◌||◌, not, List, [], ◌∷◌, ◌++◌, refl}
use Rattle.std.proofs.Common.{ap, sym, ◌∙◌, subst}
use Rattle.std.specs.Prelude.{◌==◌, Option, None}
use Rattle.std.specs.List.{list_all}
use Rattle.std.proofs.lemmas.Bool.{and_from, and_parts, not-true}
use Rattle.md_engine.specs.declared.event.Event.{Event}
use Rattle.md_engine.specs.declared.event.Kind.{Kind}
use Rattle.md_engine.specs.declared.event.Kind.TheVariants.{Enter, Exit}
use Rattle.md_engine.specs.declared.event.Name.{Name}
use Rattle.md_engine.specs.declared.event.Name.TheVariants as n
use Rattle.md_engine.specs.declared.event.Point.{Point}
use Rattle.md_events.specs.declared.inline.Chunk.{Chunk}
use Rattle.md_events.specs.Events.Inline.{KeepsFrame, Part, is_linked, pair_unless_empty, plain_chunks}
use Rattle.md_events.specs.Events.Inline.{line_end, together}
use Rattle.md_events.specs.Events.Nested.{Balanced, is_exit, pair}
use Rattle.md_events.specs.Events.Places.{same_place}
use Rattle.md_events.specs.Events.Spelled.{AsCell, AsDelimiter, AsDestination, AsDigits, AsFootnoteLabel, AsHeading}
use Rattle.md_events.specs.Events.Spelled.{AsInfo, AsItemMarker, AsLabel, AsLine, AsMarkers, AsMeta, AsParagraph}
use Rattle.md_events.specs.Events.Spelled.{AsTitle, IsEnding, IsPrefix, IsQuiet, IsQuoteMarker, Purpose, Role, TextRole}
use Rattle.md_events.specs.Events.Spelled.{byte_at, role, LeafRole}
use Rattle.md_events.specs.Events.Tiles.{Tiles, chunks_in_parts, depth_following, filled, filled_from, first_list}
use Rattle.md_events.specs.Events.Tiles.{further_lists, is_chunk, is_part, parts, plain_lists, plain_read}
use Rattle.md_events.specs.Events.Tiles.{may_be_in_part}
use Rattle.md_events.proofs.FilledLemmas.{EachInline, chunk-following, first-inline, further-inline, spelled-filled}
use Rattle.md_events.proofs.FilledLemmas.{valid-role}
use Rattle.md_events.proofs.NestsLemmas.{tiles-nested}
use Rattle.md_events.proofs.PartsLemmas.{inline-append, parts-are, read-inline_lists}
use Rattle.md_events.proofs.SpelledLemmas.{QuietOrEnding, QuietOrPrefix, Roles, roles-append}
use Rattle.md_outline.specs.Between.{is_between}
use Rattle.md_outline.specs.HeadingDepths.{are_shallow}
use Rattle.md_outline.specs.LinesAllowed.{InTable, LinesAllowed, MayBeHere, Outside, Site, site_by, table_site}
use Rattle.md_outline.specs.ListsBegin.{AllRecorded, AtLabel as AtFootnoteLabel, ListsBegin, MayFollow, Stage, stage_by}
use Rattle.md_outline.specs.Outlined.{IsOutlined, OpenTextSpan, are_parted, has_shown_name, parts_by, span_by}
use Rattle.md_outline.specs.Outlined.{is_between_characters, text_begins_between}
use Rattle.md_outline.specs.Roles.{is_seen, is_shown, is_recorded, shown_as}
use Rattle.md_outline.specs.TablePlaces.{AtHead, MayBe, TablePlace, spot_by}
use Rattle.md_outline.proofs.LinesPass.{keeps-quiet, keeps-quote_marker, text-keeps, IsTextSite}

-- Text parts.

-- what text parts are read as
abbrev IsPartText : Purpose → Type 0
IsPartText AsMarkers = ⊥
IsPartText AsLine = ⊥
IsPartText AsDelimiter = ⊥
IsPartText AsDigits = ⊥
IsPartText AsItemMarker = ⊥
IsPartText _ = Unit {0}

part-text : (name : Name) → is_part name ≡ true → (x : Purpose) × (role name ≡ TextRole x) × IsPartText x
part-text n.Paragraph h = (AsParagraph, refl, tt)
part-text n.HeadingAtxText h = (AsHeading, refl, tt)
part-text n.HeadingSetextText h = (AsHeading, refl, tt)
part-text n.GfmTableCellText h = (AsCell, refl, tt)
part-text n.CodeFencedFenceInfo h = (AsInfo, refl, tt)
part-text n.CodeFencedFenceMeta h = (AsMeta, refl, tt)
part-text n.MathFlowFenceMeta h = (AsMeta, refl, tt)
part-text n.DefinitionLabelString h = (AsLabel, refl, tt)
part-text n.DefinitionDestinationString h = (AsDestination, refl, tt)
part-text n.DefinitionTitleString h = (AsTitle, refl, tt)
part-text n.GfmFootnoteDefinitionLabelString h = (AsFootnoteLabel, refl, tt)
part-text _ h = cc

-- Walks.

-- A walk over events, which knows where it is: what may be there, and where it is after that. In a text part it does
-- not mind what an inline layer gives.
record Walk (S : Type 0) (W : S → List Event → Type 0) : Type 1 where
  May : S → Kind → Role → Point → Type 0
  next : S → Kind → Role → Point → S
  -- whether it may be in a text part there
  IsText : S → Type 0
  takes : (s : S) (e : Event) (es : List Event) → W s (e ∷ es) →
      May s e.kind (role e.name) e.point × W (next s e.kind (role e.name) e.point) es
  joins : (s : S) (e : Event) (es : List Event) → May s e.kind (role e.name) e.point →
      W (next s e.kind (role e.name) e.point) es → W s (e ∷ es)
  begins : (s : S) (x : Purpose) (p : Point) → IsPartText x → May s Enter (TextRole x) p →
      IsText (next s Enter (TextRole x) p)
  proceeds : (s : S) (kind : Kind) (x : Role) (p : Point) → IsText s → QuietOrPrefix x → May s kind x p →
      IsText (next s kind x p)
  keeps : (s : S) (kind : Kind) (x : Role) (p : Point) → IsText s → QuietOrEnding x →
      May s kind x p × (next s kind x p ≡ s)

-- what a layer gives in a text part may be left out
left-out : (S : Type 0) (W : S → List Event → Type 0) (walk : Walk S W) (s : S) (xs ys : List Event) →
    walk.IsText s → Roles QuietOrEnding xs → W s (xs ++ ys) → W s ys
left-out S W walk s [] ys text h k = k
left-out S W walk s (e ∷ xs) ys text h k =
    left-out S W walk s xs ys text h.1
    (subst (λ (t : S). W t (xs ++ ys)) (walk.keeps s e.kind (role e.name) e.point text h.0).1
    (walk.takes s e (xs ++ ys) k).1)

-- and put in
put-in : (S : Type 0) (W : S → List Event → Type 0) (walk : Walk S W) (s : S) (xs ys : List Event) →
    walk.IsText s → Roles QuietOrEnding xs → W s ys → W s (xs ++ ys)
put-in S W walk s [] ys text h k = k
put-in S W walk s (e ∷ xs) ys text h k =
    let keeps = walk.keeps s e.kind (role e.name) e.point text h.0 in
    walk.joins s e (xs ++ ys) keeps.0
    (subst (λ (t : S). W t (xs ++ ys)) (sym keeps.1) (put-in S W walk s xs ys text h.1 k))

-- at this depth inside a text part
abbrev TextAt : (S : Type 0) → (S → Type 0) → ℕ → S → Type 0
TextAt S T zero s = Unit {0}
TextAt S T (suc depth) s = T s

text-at : (S : Type 0) (T : S → Type 0) (depth : ℕ) (s : S) → T s → TextAt S T depth s
text-at S T zero s text = tt
text-at S T (suc depth) s text = text

abbrev Kept : (S : Type 0) (W : S → List Event → Type 0) → Walk S W → List Event → Type 0
Kept S W walk es =
    (depth : ℕ) (s : S) (plain lists : List (List Event)) → chunks_in_parts depth es ≡ true →
    TextAt S walk.IsText depth s → EachInline plain → EachInline lists → W s (filled_from false es plain) →
    W s (filled_from false es lists)

abbrev KeptFollowing : (S : Type 0) (W : S → List Event → Type 0) → Walk S W → List Event → Type 0
KeptFollowing S W walk [] = Unit {0}
KeptFollowing S W walk (e ∷ es) = Kept S W walk es

-- an event with no link stays as it is
kept-unlinked : (S : Type 0) (W : S → List Event → Type 0) (walk : Walk S W) (e : Event) (es : List Event) (depth : ℕ)
    (s : S) (plain lists : List (List Event)) → Kept S W walk es → is_linked e ≡ false →
    chunks_in_parts depth es ≡ true →
    (walk.May s e.kind (role e.name) e.point →
    TextAt S walk.IsText depth (walk.next s e.kind (role e.name) e.point)) →
    EachInline plain → EachInline lists → W s (filled_from false (e ∷ es) plain) →
    W s (filled_from false (e ∷ es) lists)
kept-unlinked S W walk e es depth s plain lists kept unlinked valid text before each h =
    let here = walk.takes s e (filled_from false es plain) (subst (W s) (at plain) h) in
    subst (W s) (sym (at lists))
    (walk.joins s e (filled_from false es lists) here.0
    (kept depth (walk.next s e.kind (role e.name) e.point) plain lists valid (text here.0) before each here.1))
  where
    at : (ls : List (List Event)) → filled_from false (e ∷ es) ls ≡ e ∷ filled_from false es ls
    at ls =
        ap
        (λ (x : Bool). cond x (first_list ls ++ filled_from true es (further_lists ls)) (e ∷ filled_from false es ls))
        unlinked

-- a chunk gives way to what an inline layer makes of it
kept-linked : (S : Type 0) (W : S → List Event → Type 0) (walk : Walk S W) (e : Event) (es : List Event) (depth : ℕ)
    (s : S) (plain lists : List (List Event)) → KeptFollowing S W walk es → is_linked e ≡ true → is_chunk e es ≡ true →
    chunks_in_parts (depth_following e.kind (suc depth)) es ≡ true → walk.IsText s → EachInline plain →
    EachInline lists →
    W s (filled_from false (e ∷ es) plain) → W s (filled_from false (e ∷ es) lists)
kept-linked S W walk e [] depth s plain lists kept linked chunk valid text before each h = cc
kept-linked S W walk e (f ∷ es) depth s plain lists kept linked chunk valid text before each h =
    subst (W s) (sym (at lists))
    (put-in S W walk s (first_list lists) (filled_from false es (further_lists lists)) text (first-inline lists each)
    (kept (suc depth) s (further_lists plain) (further_lists lists) (chunk-following depth e f es chunk valid) text
    (further-inline plain before) (further-inline lists each)
    (left-out S W walk s (first_list plain) (filled_from false es (further_lists plain)) text
    (first-inline plain before) (subst (W s) (at plain) h))))
  where
    at : (ls : List (List Event)) →
        filled_from false (e ∷ f ∷ es) ls ≡ first_list ls ++ filled_from false es (further_lists ls)
    at ls =
        ap
        (λ (x : Bool).
        cond x (first_list ls ++ filled_from false es (further_lists ls)) (e ∷ filled_from false (f ∷ es) ls))
        linked

-- a text part begins, or another event outside of text parts
enters : (S : Type 0) (W : S → List Event → Type 0) (walk : Walk S W) (s : S) (kind : Kind) (name : Name) (p : Point) →
    walk.May s kind (role name) p →
    TextAt S walk.IsText (cond (is_part name && not (is_exit kind)) 1 0) (walk.next s kind (role name) p)
enters S W walk s Enter name p may = go (is_part name) refl
  where
    go : (x : Bool) → is_part name ≡ x →
        TextAt S walk.IsText (cond (x && true) 1 0) (walk.next s Enter (role name) p)
    go true h =
        let records = part-text name h in
        subst (λ (x : Role). walk.May s Enter x p → walk.IsText (walk.next s Enter x p)) (sym records.1)
        (walk.begins s records.0 p records.2) may
    go false h = tt
enters S W walk s Exit name p may = go (is_part name)
  where
    go : (x : Bool) → TextAt S walk.IsText (cond (x && false) 1 0) (walk.next s Exit (role name) p)
    go true = tt
    go false = tt

kept-step : (S : Type 0) (W : S → List Event → Type 0) (walk : Walk S W) (e : Event) (es : List Event) →
    Kept S W walk es → KeptFollowing S W walk es → Kept S W walk (e ∷ es)
kept-step S W walk e es kept following zero s plain lists valid text before each h =
    let both : (not (is_linked e) ≡ true) ×
    (chunks_in_parts (cond (is_part e.name && not (is_exit e.kind)) 1 0) es ≡ true) = and_parts (not (is_linked e))
    (chunks_in_parts (cond (is_part e.name && not (is_exit e.kind)) 1 0) es) valid in
    kept-unlinked S W walk e es (cond (is_part e.name && not (is_exit e.kind)) 1 0) s plain lists kept
    (not-true (is_linked e) both.0) both.1 (enters S W walk s e.kind e.name e.point) before each h
kept-step S W walk e es kept following (suc depth) s plain lists valid text before each h =
    go (is_part e.name) (is_linked e) refl valid
  where
    go : (x y : Bool) → is_linked e ≡ y →
        cond x (is_exit e.kind && (depth == 0) && not (is_linked e) && chunks_in_parts 0 es)
        (cond (is_linked e) ((depth == 0) && is_chunk e es) (may_be_in_part e.kind e.name)
        && chunks_in_parts (depth_following e.kind (suc depth)) es) ≡
        true →
        W s (filled_from false (e ∷ es) lists)
    go true y linked k =
        let outer : (is_exit e.kind && (depth == 0) && not (is_linked e) ≡ true) ×
        (chunks_in_parts 0 es ≡ true) = and_parts (is_exit e.kind && (depth == 0) && not (is_linked e))
        (chunks_in_parts 0 es) k in
        kept-unlinked S W walk e es 0 s plain lists kept
        (not-true (is_linked e) (and_parts (is_exit e.kind && (depth == 0)) (not (is_linked e)) outer.0).1) outer.1
        (λ may. tt) before each h
    go false y linked k =
        let outer : (cond (is_linked e) ((depth == 0) && is_chunk e es) (may_be_in_part e.kind e.name) ≡ true) ×
        (chunks_in_parts (depth_following e.kind (suc depth)) es ≡ true) =
        and_parts (cond (is_linked e) ((depth == 0) && is_chunk e es) (may_be_in_part e.kind e.name))
        (chunks_in_parts (depth_following e.kind (suc depth)) es) k in
        by y linked
        (subst
        (λ (x : Bool). cond x ((depth == 0) && is_chunk e es) (may_be_in_part e.kind e.name) ≡ true) linked outer.0)
        outer.1
      where
        by : (y : Bool) → is_linked e ≡ y →
            cond y ((depth == 0) && is_chunk e es) (may_be_in_part e.kind e.name) ≡ true →
            chunks_in_parts (depth_following e.kind (suc depth)) es ≡ true → W s (filled_from false (e ∷ es) lists)
        by false linked inside on =
            kept-unlinked S W walk e es (depth_following e.kind (suc depth)) s plain lists kept linked on
            (λ may.
            text-at S walk.IsText (depth_following e.kind (suc depth)) (walk.next s e.kind (role e.name) e.point)
            (walk.proceeds s e.kind (role e.name) e.point text (valid-role e.kind e.name inside) may))
            before each h
        by true linked chunk on =
            kept-linked S W walk e es depth s plain lists following linked
            (and_parts (depth == 0) (is_chunk e es) chunk).1 on text before each h

kept-both : (S : Type 0) (W : S → List Event → Type 0) (walk : Walk S W) (es : List Event) →
    (inner : Kept S W walk es) × KeptFollowing S W walk es
kept-both S W walk [] = ((λ depth s plain lists valid text before each h. h), tt)
kept-both S W walk (e ∷ es) =
    let both : (inner : Kept S W walk es) × KeptFollowing S W walk es = kept-both S W walk es in
    (kept-step S W walk e es both.0 both.1, both.0)

-- whatever is in the places of chunks, a walk may go over the events
walk-filled : (S : Type 0) (W : S → List Event → Type 0) → Walk S W → (s : S) (blocks : List Event)
    (plain lists : List (List Event)) → chunks_in_parts 0 blocks ≡ true → EachInline plain → EachInline lists →
    W s (filled blocks plain) → W s (filled blocks lists)
walk-filled S W walk s blocks plain lists valid before each h =
    (kept-both S W walk blocks).0 0 s plain lists valid tt before each h

-- The walks of an outline.

-- over what holds of each event
all-walk : (P : Role → Point → Bool) → ((x : Role) (p : Point) → QuietOrEnding x → P x p ≡ true) →
    Walk (Unit {0}) (λ s es. list_all (λ (e : Event). P (role e.name) e.point) es ≡ true)
all-walk P inline = record {
  May = λ s kind x p. P x p ≡ true;
  next = λ s kind x p. s;
  IsText = λ s. Unit {0};
  takes = λ s e es h. and_parts (P (role e.name) e.point) (list_all (λ (e : Event). P (role e.name) e.point) es) h;
  joins = λ s e es h k. and_from (P (role e.name) e.point) (list_all (λ (e : Event). P (role e.name) e.point) es) h k;
  begins = λ s x p is may. tt;
  proceeds = λ s kind x p text is may. tt;
  keeps = λ s kind x p text is. (inline x p is, refl);
}

-- over the texts that are parted
parts-keep : (bytes : List ℕ) (span : Option OpenTextSpan) (kind : Kind) (x : Role) (p : Point) → QuietOrEnding x →
    (parts_by bytes kind x p span ≡ true) × (span_by kind x p span ≡ span)
parts-keep bytes span kind (LeafRole k) p is = absurd is
parts-keep bytes None Enter x p is = search
parts-keep bytes None Exit x p is = search
parts-keep bytes _ Enter x p is = search
parts-keep bytes _ Exit x p is = search

parts-walk : (bytes : List ℕ) → Walk (Option OpenTextSpan) (λ span es. are_parted bytes span es ≡ true)
parts-walk bytes = record {
  May = λ span kind x p. parts_by bytes kind x p span ≡ true;
  next = λ span kind x p. span_by kind x p span;
  IsText = λ span. Unit {0};
  takes = λ span e es h.
      and_parts (parts_by bytes e.kind (role e.name) e.point span)
      (are_parted bytes (span_by e.kind (role e.name) e.point span) es) h;
  joins = λ span e es h k.
      and_from (parts_by bytes e.kind (role e.name) e.point span)
      (are_parted bytes (span_by e.kind (role e.name) e.point span) es) h k;
  begins = λ span x p is may. tt;
  proceeds = λ span kind x p text is may. tt;
  keeps = λ span kind x p text is. parts-keep bytes span kind x p is;
}

-- over lists and footnote definitions that begin: a text part is where all is said, or is the label of a footnote
-- definition
abbrev IsRecordedText : Stage → Type 0
IsRecordedText AllRecorded = Unit {0}
IsRecordedText AtFootnoteLabel = Unit {0}
IsRecordedText _ = ⊥

lists-begin : (bytes : List ℕ) (stage : Stage) (x : Purpose) (p : Point) → IsPartText x →
    MayFollow bytes stage Enter (TextRole x) p → IsRecordedText (stage_by stage Enter (TextRole x) p)
lists-begin bytes stage AsMarkers p is may = absurd is
lists-begin bytes AllRecorded x p is may = search
lists-begin bytes _ x p is may = search

lists-go : (bytes : List ℕ) (stage : Stage) (kind : Kind) (x : Role) (p : Point) → IsRecordedText stage →
    QuietOrPrefix x → IsRecordedText (stage_by stage kind x p)
lists-go bytes stage kind (LeafRole k) p text is = absurd is
lists-go bytes AllRecorded Enter x p text is = search
lists-go bytes AllRecorded Exit x p text is = search
lists-go bytes _ Enter x p text is = search
lists-go bytes _ Exit x p text is = search

lists-keep : (bytes : List ℕ) (stage : Stage) (kind : Kind) (x : Role) (p : Point) → IsRecordedText stage →
    QuietOrEnding x → MayFollow bytes stage kind x p × (stage_by stage kind x p ≡ stage)
lists-keep bytes stage kind (LeafRole k) p text is = absurd is
lists-keep bytes AllRecorded Enter x p text is = search
lists-keep bytes AllRecorded Exit x p text is = search
lists-keep bytes _ Enter x p text is = search
lists-keep bytes _ Exit x p text is = search

lists-walk : (bytes : List ℕ) → Walk Stage (ListsBegin bytes)
lists-walk bytes = record {
  May = MayFollow bytes;
  next = stage_by;
  IsText = IsRecordedText;
  takes = λ stage e es h. h;
  joins = λ stage e es h k. (h, k);
  begins = lists-begin bytes;
  proceeds = λ stage kind x p text is may. lists-go bytes stage kind x p text is;
  keeps = lists-keep bytes;
}

-- over leaf blocks of several lines
cell-begins : (spot : TablePlace) (x : Purpose) → IsPartText x → MayBe spot Enter (TextRole x) →
    IsTextSite (table_site (spot_by spot Enter (TextRole x)))
cell-begins spot AsMarkers is may = absurd is
cell-begins AtHead x is may = absurd may
cell-begins _ x is may = search

lines-begin : (bytes : List ℕ) (site : Site) (x : Purpose) (p : Point) → IsPartText x →
    MayBeHere bytes site Enter (TextRole x) p → IsTextSite (site_by bytes site Enter (TextRole x) p)
lines-begin bytes site AsMarkers p is may = absurd is
lines-begin bytes (InTable spot) x p is may = cell-begins spot x is may
lines-begin bytes _ x p is may = search

lines-go : (bytes : List ℕ) (site : Site) (kind : Kind) (x : Role) (p : Point) → IsTextSite site →
    QuietOrPrefix x → MayBeHere bytes site kind x p → IsTextSite (site_by bytes site kind x p)
lines-go bytes site kind IsQuiet p text is may =
    subst IsTextSite (sym (keeps-quiet bytes site kind p).1) text
lines-go bytes site kind IsQuoteMarker p text is may =
    subst IsTextSite (sym (keeps-quote_marker bytes site kind p).1) text
lines-go bytes Outside Enter IsPrefix p text is may = tt
lines-go bytes (InTable AtHead) Enter IsPrefix p text is may = absurd text
lines-go bytes (InTable AtHead) Exit IsPrefix p text is may = absurd text
lines-go bytes _ Enter IsPrefix p text is may = search
lines-go bytes _ Exit IsPrefix p text is may = search
lines-go bytes site kind _ p text is may = absurd is

lines-walk : (bytes : List ℕ) → Walk Site (LinesAllowed bytes)
lines-walk bytes = record {
  May = MayBeHere bytes;
  next = site_by bytes;
  IsText = IsTextSite;
  takes = λ site e es h. taken bytes site e es h;
  joins = λ site e es h k. joined bytes site e es h k;
  begins = lines-begin bytes;
  proceeds = lines-go bytes;
  keeps = λ site kind x p text is. text-keeps bytes site x text is kind p;
}
  where
    taken : (bytes : List ℕ) (site : Site) (e : Event) (es : List Event) → LinesAllowed bytes site (e ∷ es) →
        MayBeHere bytes site e.kind (role e.name) e.point
        × LinesAllowed bytes (site_by bytes site e.kind (role e.name) e.point) es
    taken bytes site e es h = h

    joined : (bytes : List ℕ) (site : Site) (e : Event) (es : List Event) →
        MayBeHere bytes site e.kind (role e.name) e.point →
        LinesAllowed bytes (site_by bytes site e.kind (role e.name) e.point) es → LinesAllowed bytes site (e ∷ es)
    joined bytes site e es h k = (h, k)

-- Any layer.

names-inline : (x : Role) → QuietOrEnding x → is_shown x ≡ true
names-inline IsQuiet is = refl
names-inline IsEnding is = refl
names-inline _ is = absurd is

between-inline : (bytes : List ℕ) (x : Role) (p : Point) → QuietOrEnding x →
    (not (is_seen (shown_as x)) || is_between bytes p.index) ≡ true
between-inline bytes IsQuiet p is = refl
between-inline bytes IsEnding p is = refl
between-inline bytes _ p is = absurd is

texts-inline : (bytes : List ℕ) (x : Role) (p : Point) → QuietOrEnding x →
    (not (is_recorded x) || is_between bytes (byte_at p)) ≡ true
texts-inline bytes IsQuiet p is = refl
texts-inline bytes IsEnding p is = refl
texts-inline bytes _ p is = absurd is

-- If a block list may be outlined with what one layer gives in the places of its chunks, it may be with what another
-- gives.
pub outlined-filled : (bytes : List ℕ) (blocks : List Event) (plain lists : List (List Event)) →
    chunks_in_parts 0 blocks ≡ true → EachInline plain → EachInline lists → Balanced (filled blocks lists) →
    IsOutlined (filled blocks plain) bytes → IsOutlined (filled blocks lists) bytes
outlined-filled bytes blocks plain lists valid before each balanced is = record {
  balanced = balanced;
  names =
      walk-filled (Unit {0}) (λ s es. list_all has_shown_name es ≡ true)
      (all-walk (λ x p. is_shown x) (λ x p inline. names-inline x inline)) tt blocks plain lists valid before each
      is.names;
  text = is.text;
  between =
      walk-filled (Unit {0}) (λ s es. list_all (is_between_characters bytes) es ≡ true)
      (all-walk (λ x p. not (is_seen (shown_as x)) || is_between bytes p.index) (between-inline bytes)) tt blocks plain
      lists valid before each is.between;
  texts =
      walk-filled (Unit {0}) (λ s es. list_all (text_begins_between bytes) es ≡ true)
      (all-walk (λ x p. not (is_recorded x) || is_between bytes (byte_at p)) (texts-inline bytes)) tt blocks plain lists
      valid before each is.texts;
  parted =
      walk-filled (Option OpenTextSpan) (λ span es. are_parted bytes span es ≡ true) (parts-walk bytes) None
      blocks plain lists
      valid before each is.parted;
  lists =
      walk-filled Stage (ListsBegin bytes) (lists-walk bytes) AllRecorded blocks plain lists valid before each is.lists;
  lines =
      walk-filled Site (LinesAllowed bytes) (lines-walk bytes) Outside blocks plain lists valid before each is.lines;
  depths =
      ap are_shallow
      (spelled-filled bytes blocks lists valid each ∙ sym (spelled-filled bytes blocks plain valid before))
      ∙ is.depths;
}

-- What the plain layer gives.

pair-inline : (name : Name) (p q : Point) → QuietOrEnding (role name) → Roles QuietOrEnding (pair_unless_empty name p q)
pair-inline name p q is = go (same_place p q)
  where
    go : (x : Bool) → Roles QuietOrEnding (cond x [] (pair name p q))
    go true = tt
    go false = (is, (is, tt))

chunks-inline : (bytes : List ℕ) (chunks : List Chunk) → EachInline (plain_chunks bytes chunks)
chunks-inline bytes [] = tt
chunks-inline bytes (chunk ∷ chunks) = (
  roles-append QuietOrEnding (pair_unless_empty n.Data chunk.first (line_end bytes chunk))
      (pair_unless_empty n.LineEnding (line_end bytes chunk) chunk.after)
      (pair-inline n.Data chunk.first (line_end bytes chunk) tt)
      (pair-inline n.LineEnding (line_end bytes chunk) chunk.after tt),
  chunks-inline bytes chunks,
)

plain-inline : (bytes : List ℕ) (parts : List Part) → EachInline (together (plain_lists bytes parts))
plain-inline bytes [] = tt
plain-inline bytes (part ∷ parts) =
    inline-append (plain_chunks bytes part.chunks) (together (plain_lists bytes parts))
    (chunks-inline bytes part.chunks) (plain-inline bytes parts)

-- Events that are read by a layer that keeps the promise of all layers may be outlined if those of the plain layer may.
pub outlined-layer : (bytes : List ℕ) (reads : Part → List Event → Type 0) (events : List Event) →
    KeepsFrame bytes reads → (tiles : Tiles reads bytes events) → IsOutlined (plain_read bytes tiles.blocks) bytes →
    IsOutlined events bytes
outlined-layer bytes reads events frame tiles is =
    let nested : Balanced (filled tiles.blocks (together tiles.lists)) =
    subst Balanced tiles.read (tiles-nested bytes reads events frame tiles).balanced in
    subst (λ (es : List Event). IsOutlined es bytes) (sym tiles.read)
    (outlined-filled bytes tiles.blocks (together (plain_lists bytes (parts tiles.blocks))) (together tiles.lists)
    tiles.block_list.chunks (plain-inline bytes (parts tiles.blocks))
    (read-inline_lists bytes reads frame (parts tiles.blocks) tiles.lists
    (parts-are bytes tiles.blocks tiles.block_list) tiles.each)
    nested is)
