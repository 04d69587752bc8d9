-- Lists around items change no label of a footnote definition, and nor does what is read in the places of chunks.
use Rattle.std.proofs.Common.{◌≡◌, ℕ, zero, suc, Bool, true, false, cond, ◌&&◌, not, List, [], ◌∷◌, ◌++◌, refl, ap, sym}
use Rattle.std.proofs.Common.{◌∙◌, ◌⊎◌, append-nil, inl, inr, subst}
use Rattle.std.specs.Prelude.{◌==◌, if◌then◌else◌, slice_range}
use Rattle.std.proofs.lemmas.Bool.{and_parts}
use Rattle.md_engine.specs.declared.event.Event.{Event}
use Rattle.md_engine.specs.declared.event.Kind.{Kind}
use Rattle.md_engine.specs.declared.event.Kind.TheVariants.{Enter, Exit}
use Rattle.md_engine.specs.declared.event.Name.{Name}
use Rattle.md_engine.specs.declared.event.Name.TheVariants as n
use Rattle.md_engine.specs.declared.event.Point.{Point}
use Rattle.md_containers.specs.Listed.{Place, is_continued, is_item, list_begin, list_end, list_name, listed}
use Rattle.md_containers.specs.Listed.{listed_from, marker_ahead, next_item, outside, place_following}
use Rattle.md_containers.proofs.ListedKept.{by-turn}
use Rattle.md_containers.proofs.ListedLemmas.{passes-given}
use Rattle.md_content.specs.FootnoteLabels.{footnote_labels_from, footnote_labels_in, is_footnote_label}
use Rattle.md_meaning.specs.Label.{normal_form}
use Rattle.md_events.specs.declared.inline.Chunk.{Chunk}
use Rattle.md_events.specs.Events.Inline.{Part, is_linked, line_end, plain_chunk, plain_chunks, together}
use Rattle.md_events.specs.Events.Nested.{enter, exit, is_enter, is_exit, pair}
use Rattle.md_events.specs.Events.Places.{same_place}
use Rattle.md_events.specs.Events.Spelled.{byte_at, is_ordered, role}
use Rattle.md_events.specs.Events.Tiles.{chunks_in_parts, depth_following, filled_from, first_list, further_lists}
use Rattle.md_events.specs.Events.Tiles.{is_chunk, is_data, is_part, parts, plain_lists, plain_read, may_be_in_part}
use Rattle.md_events.proofs.FilledLemmas.{data-no_part}

-- One event.

-- what follows it may be anything with the same labels
step-same : (text : List ℕ) (from : ℕ) (e : Event) (xs ys : List Event) →
    ((i : ℕ) → footnote_labels_from text i xs ≡ footnote_labels_from text i ys) →
    footnote_labels_from text from (e ∷ xs) ≡ footnote_labels_from text from (e ∷ ys)
step-same text from e xs ys h =
    go (is_enter e.kind && is_footnote_label e.name) (is_exit e.kind && is_footnote_label e.name)
  where
    form : List ℕ
    form = normal_form (slice_range text from e.point.index ∷ [])

    go : (x y : Bool) →
        cond x (footnote_labels_from text (byte_at e.point) xs)
        (cond y (form ∷ footnote_labels_from text from xs) (footnote_labels_from text from xs)) ≡
        cond x (footnote_labels_from text (byte_at e.point) ys)
        (cond y (form ∷ footnote_labels_from text from ys) (footnote_labels_from text from ys))
    go true y = h (byte_at e.point)
    go false true = ap (λ (l : List (List ℕ)). form ∷ l) (h from)
    go false false = h from

-- and one with another name shows nothing
skip : (text : List ℕ) (from : ℕ) (e : Event) (es : List Event) → is_footnote_label e.name ≡ false →
    footnote_labels_from text from (e ∷ es) ≡ footnote_labels_from text from es
skip text from e es h =
    ap
    (λ (x : Bool).
    cond (is_enter e.kind && x) (footnote_labels_from text (byte_at e.point) es)
    (cond (is_exit e.kind && x)
    (normal_form (slice_range text from e.point.index ∷ []) ∷ footnote_labels_from text from es)
    (footnote_labels_from text from es))) h
    ∙ go e.kind
  where
    go : (kind : Kind) →
        cond (is_enter kind && false) (footnote_labels_from text (byte_at e.point) es)
        (cond (is_exit kind && false)
        (normal_form (slice_range text from e.point.index ∷ []) ∷ footnote_labels_from text from es)
        (footnote_labels_from text from es)) ≡
        footnote_labels_from text from es
    go Enter = refl
    go Exit = refl

-- Lists.

list-unlabelled : (m : ℕ) → is_footnote_label (list_name m) ≡ false
list-unlabelled m = go (is_ordered m)
  where
    go : (x : Bool) → is_footnote_label (if x then n.ListOrdered else n.ListUnordered) ≡ false
    go true = refl
    go false = refl

list-kept : (text bytes : List ℕ) (place : Place) (es : List Event) (from : ℕ) →
    footnote_labels_from text from (listed_from bytes place es) ≡ footnote_labels_from text from es
list-kept text bytes place [] from = refl
list-kept text bytes place (e ∷ es) from =
    by-turn
    (λ (kind : Kind) (name : Name).
    footnote_labels_from text from (listed_from bytes place (record e { kind = kind; name = name } ∷ es)) ≡
    footnote_labels_from text from (record e { kind = kind; name = name } ∷ es))
    (begins place.within
    (list-kept text bytes (record { within = false; markers = marker_ahead bytes es ∷ place.markers }) es from))
    (ends place.markers
    (listed_from bytes (place_following place (next_item bytes es)) es)
    ∙ list-kept text bytes (place_following place (next_item bytes es)) es from)
    (passed (λ i. list-kept text bytes place es i)) e.kind e.name
  where
    begins : (within : Bool) →
        footnote_labels_from text from
        (listed_from bytes (record { within = false; markers = marker_ahead bytes es ∷ place.markers }) es)
        ≡ footnote_labels_from text from es →
        footnote_labels_from text from
        ((list_begin within (marker_ahead bytes es) e.point ++ record e { kind = Enter; name = n.ListItem } ∷ [])
        ++ listed_from bytes (record { within = false; markers = marker_ahead bytes es ∷ place.markers }) es)
        ≡ footnote_labels_from text from es
    begins true h = h
    begins false h =
        skip text from (enter (list_name (marker_ahead bytes es)) e.point)
        (record e { kind = Enter; name = n.ListItem }
        ∷ listed_from bytes (record { within = false; markers = marker_ahead bytes es ∷ place.markers }) es)
        (list-unlabelled (marker_ahead bytes es))
        ∙ h

    ends : (markers : List ℕ) (rest : List Event) →
        footnote_labels_from text from (list_end markers (next_item bytes es) e.point ++ rest)
        ≡ footnote_labels_from text from rest
    ends [] rest = refl
    ends (m ∷ markers) rest = go (is_continued m (next_item bytes es))
      where
        go : (x : Bool) →
            footnote_labels_from text from (cond x [] (exit (list_name m) e.point ∷ []) ++ rest)
            ≡ footnote_labels_from text from rest
        go true = refl
        go false = skip text from (exit (list_name m) e.point) rest (list-unlabelled m)

    passed : ((i : ℕ) → footnote_labels_from text i (listed_from bytes place es) ≡ footnote_labels_from text i es) →
        (kind : Kind) (name : Name) → is_item (role name) ≡ false →
        footnote_labels_from text from (listed_from bytes place (record e { kind = kind; name = name } ∷ es))
        ≡ footnote_labels_from text from (record e { kind = kind; name = name } ∷ es)
    passed h kind name i =
        ap (footnote_labels_from text from)
        (passes-given bytes place (record e { kind = kind; name = name }) es i)
        ∙ step-same text from (record e { kind = kind; name = name }) (listed_from bytes place es) es h

pub listed-labels : (text bytes : List ℕ) (events : List Event) →
    footnote_labels_in text (listed bytes events) ≡ footnote_labels_in text events
listed-labels text bytes events = list-kept text bytes outside events 0

-- Chunks.

-- events none of which is of a label
abbrev Unlabelled : List Event → Type 0
Unlabelled [] = Unit {0}
Unlabelled (e ∷ es) = (is_footnote_label e.name ≡ false) × Unlabelled es

abbrev AllUnlabelled : List (List Event) → Type 0
AllUnlabelled [] = Unit {0}
AllUnlabelled (es ∷ lists) = Unlabelled es × AllUnlabelled lists

skip-all : (text : List ℕ) (from : ℕ) (xs ys : List Event) → Unlabelled xs →
    footnote_labels_from text from (xs ++ ys) ≡ footnote_labels_from text from ys
skip-all text from [] ys h = refl
skip-all text from (e ∷ xs) ys h = skip text from e (xs ++ ys) h.0 ∙ skip-all text from xs ys h.1

first-unlabelled : (lists : List (List Event)) → AllUnlabelled lists → Unlabelled (first_list lists)
first-unlabelled [] h = tt
first-unlabelled (es ∷ lists) h = h.0

further-unlabelled : (lists : List (List Event)) → AllUnlabelled lists → AllUnlabelled (further_lists lists)
further-unlabelled [] h = tt
further-unlabelled (es ∷ lists) h = h.1

data-unlabelled : (name : Name) → is_data name ≡ true → is_footnote_label name ≡ false
data-unlabelled n.Data h = refl
data-unlabelled _ h = cc

-- what the plain layer reads is text and endings
pair-unlabelled : (name : Name) (p q : Point) (rest : List Event) → is_footnote_label name ≡ false → Unlabelled rest →
    Unlabelled (cond (same_place p q) [] (pair name p q) ++ rest)
pair-unlabelled name p q rest is h = go (same_place p q)
  where
    go : (x : Bool) → Unlabelled (cond x [] (pair name p q) ++ rest)
    go true = h
    go false = (is, (is, h))

chunk-unlabelled : (bytes : List ℕ) (chunk : Chunk) → Unlabelled (plain_chunk bytes chunk)
chunk-unlabelled bytes chunk =
    pair-unlabelled n.Data chunk.first (line_end bytes chunk) _ refl
    (subst Unlabelled
    (append-nil
    (cond (same_place (line_end bytes chunk) chunk.after) []
    (pair n.LineEnding (line_end bytes chunk) chunk.after)))
    (pair-unlabelled n.LineEnding (line_end bytes chunk) chunk.after [] refl tt))

chunks-unlabelled : (bytes : List ℕ) (list : List Chunk) (more : List (List Event)) → AllUnlabelled more →
    AllUnlabelled (plain_chunks bytes list ++ more)
chunks-unlabelled bytes [] more h = h
chunks-unlabelled bytes (chunk ∷ list) more h =
    (chunk-unlabelled bytes chunk, chunks-unlabelled bytes list more h)

parts-unlabelled : (bytes : List ℕ) (list : List Part) → AllUnlabelled (together (plain_lists bytes list))
parts-unlabelled bytes [] = tt
parts-unlabelled bytes (part ∷ list) =
    chunks-unlabelled bytes part.chunks (together (plain_lists bytes list)) (parts-unlabelled bytes list)

-- an event that begins no chunk stays
unlinked-kept : (text : List ℕ) (from : ℕ) (e : Event) (es : List Event) (lists : List (List Event)) →
    is_linked e ≡ false →
    ((i : ℕ) → footnote_labels_from text i (filled_from false es lists) ≡ footnote_labels_from text i es) →
    footnote_labels_from text from (filled_from false (e ∷ es) lists) ≡ footnote_labels_from text from (e ∷ es)
unlinked-kept text from e es lists plain h =
    ap
    (λ (x : Bool).
    footnote_labels_from text from
    (cond x (first_list lists ++ filled_from true es (further_lists lists)) (e ∷ filled_from false es lists))) plain
    ∙ step-same text from e (filled_from false es lists) es h

-- what a chunk is: its begin, and its end after it
record IsChunk (e f : Event) : Type 0 where
  kind : e.kind ≡ Enter
  name : is_data e.name ≡ true
  end_kind : f.kind ≡ Exit
  end_name : is_data f.name ≡ true

chunk-is : (e f : Event) (es : List Event) → is_chunk e (f ∷ es) ≡ true → IsChunk e f
chunk-is e f es h =
    let a = and_parts _ _ h in
    let b = and_parts _ _ a.0 in
    let c = and_parts _ _ b.0 in
    record { kind = enters e.kind c.0; name = c.1; end_kind = exits f.kind b.1; end_name = a.1 }
  where
    enters : (kind : Kind) → not (is_exit kind) ≡ true → kind ≡ Enter
    enters Enter h = refl
    enters Exit h = cc

    exits : (kind : Kind) → is_exit kind ≡ true → kind ≡ Exit
    exits Exit h = refl
    exits Enter h = cc

-- the events after it are as before it
chunk-following : (depth : ℕ) (e f : Event) (es : List Event) → IsChunk e f →
    chunks_in_parts (depth_following e.kind (suc depth)) (f ∷ es) ≡ true → chunks_in_parts (suc depth) es ≡ true
chunk-following depth e f es is h =
    let inside : chunks_in_parts (suc (suc depth)) (f ∷ es) ≡ true =
    subst (λ (k : Kind). chunks_in_parts (depth_following k (suc depth)) (f ∷ es) ≡ true) is.kind h in
    let apart : (valid f && chunks_in_parts (depth_following f.kind (suc (suc depth))) es) ≡ true =
    sym
    (ap
    (λ (x : Bool).
    cond x (is_exit f.kind && (suc depth == 0) && not (is_linked f) && chunks_in_parts 0 es)
    (valid f && chunks_in_parts (depth_following f.kind (suc (suc depth))) es)) (data-no_part f.name is.end_name))
    ∙ inside in
    subst (λ (k : Kind). chunks_in_parts (depth_following k (suc (suc depth))) es ≡ true) is.end_kind
    (and_parts _ _ apart).1
  where
    valid : Event → Bool
    valid f = cond (is_linked f) ((suc depth == 0) && is_chunk f es) (may_be_in_part f.kind f.name)

-- in the place of a chunk is nothing of a label
linked-kept : (text : List ℕ) (from : ℕ) (e f : Event) (es : List Event) (lists : List (List Event)) →
    is_linked e ≡ true → IsChunk e f → AllUnlabelled lists →
    footnote_labels_from text from (filled_from false es (further_lists lists)) ≡ footnote_labels_from text from es →
    footnote_labels_from text from (filled_from false (e ∷ f ∷ es) lists) ≡ footnote_labels_from text from (e ∷ f ∷ es)
linked-kept text from e f es lists linked is none h =
    ap
    (λ (x : Bool).
    footnote_labels_from text from
    (cond x (first_list lists ++ filled_from false es (further_lists lists)) (e ∷ filled_from false (f ∷ es) lists)))
    linked
    ∙ skip-all text from (first_list lists) (filled_from false es (further_lists lists)) (first-unlabelled lists none)
    ∙ h
    ∙ sym (skip text from f es (data-unlabelled f.name is.end_name))
    ∙ sym (skip text from e (f ∷ es) (data-unlabelled e.name is.name))

-- an event is linked or not
linked-or : (x : Bool) → (x ≡ true) ⊎ (x ≡ false)
linked-or true = inl refl
linked-or false = inr refl

-- one that is in a part is a chunk if it is linked,
chunk-in : (depth : ℕ) (e : Event) (es : List Event) → chunks_in_parts depth (e ∷ es) ≡ true → is_linked e ≡ true →
    (under : ℕ) × (depth ≡ suc under) × (is_chunk e es ≡ true)
    × (chunks_in_parts (depth_following e.kind (suc under)) es ≡ true)
chunk-in zero e es h linked =
    let bad : false ≡ true = ap not (sym linked) ∙ (and_parts _ _ h).0 in absurd (cc)
chunk-in (suc depth) e es h linked = go (is_part e.name) (is_linked e) linked h
  where
    go : (x y : Bool) → y ≡ true →
        cond x (is_exit e.kind && (depth == 0) && not y && chunks_in_parts 0 es)
        (cond y ((depth == 0) && is_chunk e es) (may_be_in_part e.kind e.name)
        && chunks_in_parts (depth_following e.kind (suc depth)) es) ≡
        true →
        (under : ℕ) × (suc depth ≡ suc under) × (is_chunk e es ≡ true)
        × (chunks_in_parts (depth_following e.kind (suc under)) es ≡ true)
    go true true l k =
        let front : (is_exit e.kind && (depth == 0) && false) ≡ true = (and_parts _ _ k).0 in
        let bad : false ≡ true = (and_parts (is_exit e.kind && (depth == 0)) false front).1 in absurd (cc)
    go false true l k =
        let a = and_parts _ _ k in (depth, refl, (and_parts _ _ a.0).1, a.1)
    go x false l k = absurd (cc)

-- and after any other the rest is
rest-valid : (depth : ℕ) (e : Event) (es : List Event) → chunks_in_parts depth (e ∷ es) ≡ true → is_linked e ≡ false →
    (following : ℕ) × (chunks_in_parts following es ≡ true)
rest-valid zero e es h plain = (_, (and_parts _ _ h).1)
rest-valid (suc depth) e es h plain = go (is_part e.name) h
  where
    go : (x : Bool) →
        cond x (is_exit e.kind && (depth == 0) && not (is_linked e) && chunks_in_parts 0 es)
        (cond (is_linked e) ((depth == 0) && is_chunk e es) (may_be_in_part e.kind e.name)
        && chunks_in_parts (depth_following e.kind (suc depth)) es) ≡
        true →
        (following : ℕ) × (chunks_in_parts following es ≡ true)
    go true k = (0, (and_parts _ _ k).1)
    go false k = (_, (and_parts _ _ k).1)

filled-kept : (text : List ℕ) (depth : ℕ) (es : List Event) (lists : List (List Event)) (from : ℕ) →
    chunks_in_parts depth es ≡ true → AllUnlabelled lists →
    footnote_labels_from text from (filled_from false es lists) ≡ footnote_labels_from text from es
filled-kept text depth [] lists from h none = refl
filled-kept text depth (e ∷ []) lists from h none = by (linked-or (is_linked e))
  where
    by : (is_linked e ≡ true) ⊎ (is_linked e ≡ false) →
        footnote_labels_from text from (filled_from false (e ∷ []) lists) ≡ footnote_labels_from text from (e ∷ [])
    by (inl linked) = let is = chunk-in depth e [] h linked in absurd (cc)
    by (inr plain) = unlinked-kept text from e [] lists plain (λ i. refl)
filled-kept text depth (e ∷ f ∷ es) lists from h none =
    by (linked-or (is_linked e)) (λ d i s. filled-kept text d (f ∷ es) lists i s none)
    (λ d s. filled-kept text d es (further_lists lists) from s (further-unlabelled lists none))
  where
    by : (is_linked e ≡ true) ⊎ (is_linked e ≡ false) →
        ((d i : ℕ) → chunks_in_parts d (f ∷ es) ≡ true →
        footnote_labels_from text i (filled_from false (f ∷ es) lists) ≡ footnote_labels_from text i (f ∷ es)) →
        ((d : ℕ) → chunks_in_parts d es ≡ true →
        footnote_labels_from text from (filled_from false es (further_lists lists)) ≡
        footnote_labels_from text from es) →
        footnote_labels_from text from (filled_from false (e ∷ f ∷ es) lists) ≡
        footnote_labels_from text from (e ∷ f ∷ es)
    by (inl linked) next following =
        let in_part = chunk-in depth e (f ∷ es) h linked in
        let is : IsChunk e f = chunk-is e f es in_part.2 in
        linked-kept text from e f es lists linked is none
        (following (suc in_part.0) (chunk-following in_part.0 e f es is in_part.3))
    by (inr plain) next following =
        let rest = rest-valid depth e (f ∷ es) h plain in
        unlinked-kept text from e (f ∷ es) lists plain (λ i. next rest.0 i rest.1)

-- What is read in the places of chunks shows nothing of labels.
pub read-labels : (bytes : List ℕ) (blocks : List Event) → chunks_in_parts 0 blocks ≡ true →
    footnote_labels_in bytes (plain_read bytes blocks) ≡ footnote_labels_in bytes blocks
read-labels bytes blocks h =
    filled-kept bytes 0 blocks (together (plain_lists bytes (parts blocks))) 0 h (parts-unlabelled bytes (parts blocks))
