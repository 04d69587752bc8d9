-- Lists around items, and what a layer reads in the place of chunks: either may be done first.
use Rattle.std.proofs.Common.{◌≡◌, ℕ, zero, suc, Bool, true, false, cond, ◌&&◌, List, [], ◌∷◌, ◌++◌, refl, ap, sym, ◌∙◌}
use Rattle.std.proofs.Common.{subst, append_assoc}
use Rattle.std.specs.Prelude.{Option, ◌==◌, not, if◌then◌else◌, get_or}
use Rattle.std.proofs.lemmas.Bool.{and_parts, not-true}
use Rattle.md_engine.specs.declared.event.Event.{Event}
use Rattle.md_engine.specs.declared.event.Kind.{Kind}
use Rattle.md_engine.specs.declared.event.Kind.TheVariants.{Enter, Exit}
use Rattle.md_engine.specs.declared.event.Name.{Name}
use Rattle.md_engine.specs.declared.event.Name.TheVariants as n
use Rattle.md_engine.specs.declared.event.Point.{Point}
use Rattle.md_containers.specs.Listed.{Begins, Ends, Place, Stays, Turn, given, given_by, is_item, list_begin, list_end}
use Rattle.md_containers.specs.Listed.{listed, listed_from, marker_ahead, marker_by, next_by, next_item, outside}
use Rattle.md_containers.specs.Listed.{place_after, place_by, turn}
use Rattle.md_containers.proofs.ListedLemmas.{passes-given}
use Rattle.md_containers.proofs.ListedParts.{listed-parts}
use Rattle.md_events.specs.declared.inline.Chunk.{Chunk}
use Rattle.md_events.specs.Events.Inline.{Part, is_linked, line_end, pair_unless_empty, plain_chunks, together}
use Rattle.md_events.specs.Events.Nested.{is_exit, pair}
use Rattle.md_events.specs.Events.Places.{same_place}
use Rattle.md_events.specs.Events.Spelled.{IsEnding, IsQuiet, Role, role, LeafRole}
use Rattle.md_events.specs.Events.Tiles.{chunks_in_parts, depth_following, filled, filled_from, first_list}
use Rattle.md_events.specs.Events.Tiles.{further_lists, is_chunk, is_data, is_part, parts, plain_lists, plain_read}
use Rattle.md_events.specs.Events.Tiles.{may_be_in_part}
use Rattle.md_events.proofs.FilledLemmas.{EachInline, first-inline, further-inline}
use Rattle.md_events.proofs.SpelledLemmas.{QuietOrEnding, Roles, roles-append}
use Rattle.md_containers.proofs.ListedKept.{with-begin, with-end}
use Rattle.md_events.proofs.PartsLemmas.{inline-append}

-- What an inline layer gives.

pub inline-item : (x : Role) → QuietOrEnding x → is_item x ≡ false
inline-item IsQuiet h = refl
inline-item IsEnding h = refl
inline-item _ h = absurd h

-- what is ahead of these events and of those is the same
abbrev pub SameAhead : List ℕ → List Event → List Event → Type 0
SameAhead bytes xs ys =
    (marker_ahead bytes xs ≡ marker_ahead bytes ys) × (next_item bytes xs ≡ next_item bytes ys)

ahead-trans : (bytes : List ℕ) (xs ys zs : List Event) → SameAhead bytes xs ys → SameAhead bytes ys zs →
    SameAhead bytes xs zs
ahead-trans bytes xs ys zs h k = (h.0 ∙ k.0, h.1 ∙ k.1)

pub ahead-more : (bytes : List ℕ) (e : Event) (xs ys : List Event) → SameAhead bytes xs ys →
    SameAhead bytes (e ∷ xs) (e ∷ ys)
ahead-more bytes e xs ys h = (
  ap (marker_by e.kind (role e.name) (get_or bytes e.point.index 0)) h.0,
  ap (λ (m : ℕ). next_by e.kind (role e.name) m (next_item bytes xs)) h.0
      ∙ ap (next_by e.kind (role e.name) (marker_ahead bytes ys)) h.1,
)

-- an event of no block says nothing of what comes next
pub inline-one : (bytes : List ℕ) (e : Event) → QuietOrEnding (role e.name) → (es : List Event) →
    SameAhead bytes (e ∷ es) es
inline-one bytes e h es = go e.kind (role e.name) h
  where
    go : (kind : Kind) (x : Role) → QuietOrEnding x →
        (marker_by kind x (get_or bytes e.point.index 0) (marker_ahead bytes es) ≡ marker_ahead bytes es)
        × (next_by kind x (marker_ahead bytes es) (next_item bytes es) ≡ next_item bytes es)
    go kind (LeafRole k) h = absurd h
    go Enter x h = search
    go Exit x h = search

pub inline-ahead : (bytes : List ℕ) (xs : List Event) → Roles QuietOrEnding xs → (es : List Event) →
    SameAhead bytes (xs ++ es) es
inline-ahead bytes [] h es = (refl, refl)
inline-ahead bytes (e ∷ xs) h es =
    ahead-trans bytes (e ∷ xs ++ es) (xs ++ es) es (inline-one bytes e h.0 (xs ++ es)) (inline-ahead bytes xs h.1 es)

pub inline-listed : (bytes : List ℕ) (place : Place) (xs : List Event) → Roles QuietOrEnding xs → (es : List Event) →
    listed_from bytes place (xs ++ es) ≡ xs ++ listed_from bytes place es
inline-listed bytes place [] h es = refl
inline-listed bytes place (e ∷ xs) h es =
    passes-given bytes place e (xs ++ es) (inline-item (role e.name) h.0)
    ∙ ap (λ (l : List Event). e ∷ l) (inline-listed bytes place xs h.1 es)

-- Chunks.

-- each chunk ends with the next event
abbrev pub Chunked : List Event → Type 0
Chunked [] = Unit {0}
Chunked (e ∷ es) = (is_linked e ≡ true → is_chunk e es ≡ true) × Chunked es

pub are_valid-chunked : (depth : ℕ) (es : List Event) → chunks_in_parts depth es ≡ true → Chunked es
are_valid-chunked depth [] h = tt
are_valid-chunked zero (e ∷ es) h =
    let two = and_parts (not (is_linked e))
    (chunks_in_parts (if is_part e.name && not (is_exit e.kind) then 1 else 0) es) h in (
      (λ l. absurd (let no : true ≡ false = sym l ∙ not-true (is_linked e) two.0 in cc)),
      are_valid-chunked (if is_part e.name && not (is_exit e.kind) then 1 else 0) es two.1,
    )
are_valid-chunked (suc depth) (e ∷ es) h =
    go (is_part e.name) h (are_valid-chunked 0 es) (are_valid-chunked (depth_following e.kind (suc depth)) es)
  where
    go : (x : Bool) →
        cond x (is_exit e.kind && (depth == 0) && not (is_linked e) && chunks_in_parts 0 es)
        (cond (is_linked e) ((depth == 0) && is_chunk e es) (may_be_in_part e.kind e.name)
        && chunks_in_parts (depth_following e.kind (suc depth)) es) ≡
        true → (chunks_in_parts 0 es ≡ true → Chunked es) →
        (chunks_in_parts (depth_following e.kind (suc depth)) es ≡ true → Chunked es) →
        Chunked (e ∷ es)
    go true h k l =
        let two = and_parts (is_exit e.kind && (depth == 0) && not (is_linked e)) (chunks_in_parts 0 es) h in
        let one = and_parts (is_exit e.kind && (depth == 0)) (not (is_linked e)) two.0 in
        ((λ i. absurd (let no : true ≡ false = sym i ∙ not-true (is_linked e) one.1 in cc)), k two.1)
    go false h k l =
        let two = and_parts (cond (is_linked e) ((depth == 0) && is_chunk e es) (may_be_in_part e.kind e.name))
        (chunks_in_parts (depth_following e.kind (suc depth)) es) h in (
          (λ i.
              (and_parts (depth == 0) (is_chunk e es)
              (subst
              (λ (x : Bool). cond x ((depth == 0) && is_chunk e es) (may_be_in_part e.kind e.name) ≡ true) i two.0)).1),
          l two.1,
        )

data-quiet : (name : Name) → is_data name ≡ true → QuietOrEnding (role name)
data-quiet n.Data h = tt
data-quiet _ h = cc

-- both ends of a chunk are quiet
pub chunk-quiet : (e f : Event) (es : List Event) → is_chunk e (f ∷ es) ≡ true →
    QuietOrEnding (role e.name) × QuietOrEnding (role f.name)
chunk-quiet e f es h =
    let outer = and_parts (not (is_exit e.kind) && is_data e.name && is_exit f.kind) (is_data f.name) h in
    let middle = and_parts (not (is_exit e.kind) && is_data e.name) (is_exit f.kind) outer.0 in
    (data-quiet e.name (and_parts (not (is_exit e.kind)) (is_data e.name) middle.0).1, data-quiet f.name outer.1)

-- what is ahead is the same once chunks are read
ahead-filled : (bytes : List ℕ) (es : List Event) → Chunked es → (lists : List (List Event)) → EachInline lists →
    SameAhead bytes (filled_from false es lists) es
ahead-filled bytes [] h lists each = (refl, refl)
ahead-filled bytes (e ∷ []) h lists each = go (is_linked e) refl
  where
    go : (x : Bool) → is_linked e ≡ x →
        SameAhead bytes (cond x (first_list lists ++ []) (e ∷ [])) (e ∷ [])
    go true l = absurd (let no : false ≡ true = h.0 l in cc)
    go false l = (refl, refl)
ahead-filled bytes (e ∷ f ∷ es) h lists each =
    go (is_linked e) refl (ahead-filled bytes (f ∷ es) h.1 lists each)
    (ahead-filled bytes es h.1.1 (further_lists lists) (further-inline lists each))
  where
    go : (x : Bool) → is_linked e ≡ x → SameAhead bytes (filled_from false (f ∷ es) lists) (f ∷ es) →
        SameAhead bytes (filled_from false es (further_lists lists)) es →
        SameAhead bytes
        (cond x (first_list lists ++ filled_from false es (further_lists lists)) (e ∷ filled_from false (f ∷ es) lists))
        (e ∷ f ∷ es)
    go true l i j =
        let quiet = chunk-quiet e f es (h.0 l) in
        let rest : List Event = filled_from false es (further_lists lists) in
        let one = inline-one bytes e quiet.0 (f ∷ es) in
        let two = inline-one bytes f quiet.1 es in
        let front = inline-ahead bytes (first_list lists) (first-inline lists each) rest in
        (front.0 ∙ j.0 ∙ sym two.0 ∙ sym one.0, front.1 ∙ j.1 ∙ sym two.1 ∙ sym one.1)
    go false l i j = ahead-more bytes e (filled_from false (f ∷ es) lists) (f ∷ es) i

-- Begins and ends of lists are no chunks.

filled-begin : (within : Bool) (m : ℕ) (p : Point) (es : List Event) (lists : List (List Event)) →
    filled_from false (list_begin within m p ++ es) lists ≡ list_begin within m p ++ filled_from false es lists
filled-begin within m p es lists =
    with-begin (λ (xs : List Event). filled_from false (xs ++ es) lists ≡ xs ++ filled_from false es lists)
    within m p refl
    refl refl

filled-end : (markers : List ℕ) (next : Option ℕ) (p : Point) (es : List Event) (lists : List (List Event)) →
    filled_from false (list_end markers next p ++ es) lists ≡ list_end markers next p ++ filled_from false es lists
filled-end markers next p es lists =
    with-end (λ (xs : List Event). filled_from false (xs ++ es) lists ≡ xs ++ filled_from false es lists) markers next p
    refl refl refl

-- an event that is no chunk stays
filled-one : (e : Event) → is_linked e ≡ false → (es : List Event) (lists : List (List Event)) →
    filled_from false (e ∷ es) lists ≡ e ∷ filled_from false es lists
filled-one e h es lists =
    ap
    (λ (x : Bool).
    cond x (first_list lists ++ filled_from true es (further_lists lists)) (e ∷ filled_from false es lists)) h

filled-given : (t : Turn) (place : Place) (m : ℕ) (next : Option ℕ) (e : Event) → is_linked e ≡ false →
    (es : List Event) (lists : List (List Event)) →
    filled_from false (given_by t place m next e ++ es) lists ≡ given_by t place m next e ++ filled_from false es lists
filled-given Begins place m next e h es lists =
    ap (λ (l : List Event). filled_from false l lists)
    (append_assoc (list_begin place.within m e.point) (e ∷ []) es)
    ∙ filled-begin place.within m e.point (e ∷ es) lists
    ∙ ap (λ (l : List Event). list_begin place.within m e.point ++ l) (filled-one e h es lists)
    ∙ sym (append_assoc (list_begin place.within m e.point) (e ∷ []) (filled_from false es lists))
filled-given Ends place m next e h es lists =
    filled-one e h (list_end place.markers next e.point ++ es) lists
    ∙ ap (λ (l : List Event). e ∷ l) (filled-end place.markers next e.point es lists)
filled-given Stays place m next e h es lists = filled-one e h es lists

-- an event is given the same before events with the same ahead
pub given-same : (bytes : List ℕ) (place : Place) (e : Event) (es read : List Event) → SameAhead bytes read es →
    given bytes place e es ++ listed_from bytes (place_after bytes place e es) read ≡ listed_from bytes place (e ∷ read)
given-same bytes place e es read same =
    let t : Turn = turn e.kind (role e.name) in
    ap
    (λ (m : ℕ).
    given_by t place m (next_item bytes es) e ++ listed_from bytes (place_by t place m (next_item bytes es)) read)
    (sym same.0)
    ∙ ap
    (λ (o : Option ℕ).
    given_by t place (marker_ahead bytes read) o e
    ++ listed_from bytes (place_by t place (marker_ahead bytes read) o) read)
    (sym same.1)

-- Lists may be put around items before chunks are read or after:

-- before an event that is no chunk,
filled-other : (bytes : List ℕ) (place : Place) (e : Event) (es : List Event) → Chunked es → is_linked e ≡ false →
    (lists : List (List Event)) → EachInline lists →
    ((now : Place) →
    filled_from false (listed_from bytes now es) lists ≡ listed_from bytes now (filled_from false es lists)) →
    filled_from false (listed_from bytes place (e ∷ es)) lists
    ≡ listed_from bytes place (filled_from false (e ∷ es) lists)
filled-other bytes place e es h l lists each rec =
    let t : Turn = turn e.kind (role e.name) in
    let read : List Event = filled_from false es lists in
    let same = ahead-filled bytes es h lists each in
    let now : Place = place_by t place (marker_ahead bytes es) (next_item bytes es) in
    filled-given t place (marker_ahead bytes es) (next_item bytes es) e l (listed_from bytes now es) lists
    ∙ ap (λ (l : List Event). given_by t place (marker_ahead bytes es) (next_item bytes es) e ++ l) (rec now)
    ∙ given-same bytes place e es read same
    ∙ ap (listed_from bytes place) (sym (filled-one e l es lists))

-- and before all
filled-listed : (bytes : List ℕ) (place : Place) (es : List Event) → Chunked es → (lists : List (List Event)) →
    EachInline lists →
    filled_from false (listed_from bytes place es) lists ≡ listed_from bytes place (filled_from false es lists)
filled-listed bytes place [] h lists each = refl
filled-listed bytes place (e ∷ []) h lists each = go (is_linked e) refl
  where
    go : (x : Bool) → is_linked e ≡ x →
        filled_from false (listed_from bytes place (e ∷ [])) lists
        ≡ listed_from bytes place (filled_from false (e ∷ []) lists)
    go true l = absurd (let no : false ≡ true = h.0 l in cc)
    go false l = filled-other bytes place e [] tt l lists each (λ now. refl)
filled-listed bytes place (e ∷ f ∷ es) h lists each =
    go (is_linked e) refl (λ now. filled-listed bytes now (f ∷ es) h.1 lists each)
    (filled-listed bytes place es h.1.1 (further_lists lists) (further-inline lists each))
  where
    go : (x : Bool) → is_linked e ≡ x →
        ((now : Place) →
        filled_from false (listed_from bytes now (f ∷ es)) lists
        ≡ listed_from bytes now (filled_from false (f ∷ es) lists)) →
        filled_from false (listed_from bytes place es) (further_lists lists)
        ≡ listed_from bytes place (filled_from false es (further_lists lists)) →
        filled_from false (listed_from bytes place (e ∷ f ∷ es)) lists
        ≡ listed_from bytes place (filled_from false (e ∷ f ∷ es) lists)
    go true l i j =
        let quiet = chunk-quiet e f es (h.0 l) in
        let read : List Event = filled_from false es (further_lists lists) in
        ap (λ (l : List Event). filled_from false l lists)
        (passes-given bytes place e (f ∷ es) (inline-item (role e.name) quiet.0)
        ∙ ap (λ (l : List Event). e ∷ l) (passes-given bytes place f es (inline-item (role f.name) quiet.1)))
        ∙ ap
        (λ (x : Bool).
        cond x (first_list lists ++ filled_from false (listed_from bytes place es) (further_lists lists))
        (e ∷ filled_from false (f ∷ listed_from bytes place es) lists)) l
        ∙ ap (λ (l : List Event). first_list lists ++ l) j
        ∙ sym (inline-listed bytes place (first_list lists) (first-inline lists each) read)
        ∙ ap (listed_from bytes place)
        (sym
        (ap
        (λ (x : Bool).
        cond x (first_list lists ++ read) (e ∷ filled_from false (f ∷ es) lists)) l))
    go false l i j = filled-other bytes place e (f ∷ es) h.1 l lists each i

-- The plain layer.

unless-inline : (name : Name) → QuietOrEnding (role name) → (p q : Point) →
    Roles QuietOrEnding (pair_unless_empty name p q)
unless-inline name h p q = go (same_place p q)
  where
    go : (x : Bool) → Roles QuietOrEnding (if x then [] else pair name p q)
    go true = tt
    go false = (h, (h, tt))

chunks-inline : (text : List ℕ) (chunks : List Chunk) → EachInline (plain_chunks text chunks)
chunks-inline text [] = tt
chunks-inline text (chunk ∷ chunks) = (
  roles-append QuietOrEnding (pair_unless_empty n.Data chunk.first (line_end text chunk))
      (pair_unless_empty n.LineEnding (line_end text chunk) chunk.after)
      (unless-inline n.Data tt chunk.first (line_end text chunk))
      (unless-inline n.LineEnding tt (line_end text chunk) chunk.after),
  chunks-inline text chunks,
)

pub plain-inline : (text : List ℕ) (parts : List Part) → EachInline (together (plain_lists text parts))
plain-inline text [] = tt
plain-inline text (part ∷ parts) =
    inline-append (plain_chunks text part.chunks) (together (plain_lists text parts)) (chunks-inline text part.chunks)
    (plain-inline text parts)

-- the plain layer reads text parts before lists are put around items or after
pub listed-plain : (text bytes : List ℕ) (events : List Event) → chunks_in_parts 0 events ≡ true →
    plain_read text (listed bytes events) ≡ listed bytes (plain_read text events)
listed-plain text bytes events valid =
    ap (λ (ps : List Part). filled (listed bytes events) (together (plain_lists text ps))) (listed-parts bytes events)
    ∙ filled-listed bytes outside events (are_valid-chunked 0 events valid) (together (plain_lists text (parts events)))
    (plain-inline text (parts events))
