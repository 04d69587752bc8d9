-- Where text parts are: what is found event by event is true of each part of a document.
use Rattle.std.proofs.Common.{◌≡◌, ℕ, zero, suc, ◌<◌, ◌≤◌, ◌+◌, ◌-◌, take, Bool, true, false, cond, ◌&&◌, ◌||◌, not, List, []}
use Rattle.std.proofs.Common.{◌∷◌, ◌++◌, length, get_or, drop, length-drop, nat_lt, refl, ap, sym, ◌∙◌, subst, append-nil, append_assoc, arith}
use Rattle.std.specs.Prelude.{Option, Some, None, filter}
use Rattle.std.specs.List.{last_or, prefix_len}
use Rattle.std.proofs.lemmas.Bool.Decides.{nat_tests}
use Rattle.std.proofs.lemmas.List.{drop_all, drop_more, take_rest}
use Rattle.md_engine.specs.declared.event.Event.{Event}
use Rattle.md_engine.specs.declared.event.Kind.{Kind}
use Rattle.md_engine.specs.declared.event.Kind.TheVariants.{Enter, Exit}
use Rattle.md_events.specs.declared.inline.Chunk.{Chunk}
use Rattle.md_events.specs.declared.inline.PartKind.{PartKind}
use Rattle.md_events.specs.declared.inline.PartPlace.{PartPlace}
use Rattle.md_events.specs.Events.Inline.{Part, is_linked, is_none, piece_of, pieces, pieces_from}
use Rattle.md_events.specs.Events.Nested.{is_exit}
use Rattle.md_events.specs.Events.Tiles.{chunks, inside_part, is_part, part_at, part_kind, part_of, parts}
use Rattle.md_events.specs.Substituted.{chunk_of}
use Rattle.md_events.specs.TextPart.{AreBlocks, Document, IsTextPartAt, is_of_block, last_of_block, place_by}
use Rattle.markdown_blocks.specs.PartPlaces.{IsNext, begins_chunk, begins_no_part, begins_part, chunk_at, chunks_in}
use Rattle.markdown_blocks.specs.PartPlaces.{holds_chunk, last_after, part_places, places_at, places_from}

-- Chunks of a part.

-- chunks, with one before them, if there is one
abbrev listed : Option Chunk → List Chunk → List Chunk
listed None list = list
listed (Some chunk) list = chunk ∷ list

-- those from an event, by the kinds of two events of which the second may end the part
some-chunk : (e f : Event) (es : List Event) (at next : Kind) (ends linked : Bool) → is_linked e ≡ linked →
    cond (ends && is_exit next) [] (chunks (piece_of e f at next ++ pieces_from f (inside_part es))) ≡
    listed (cond (not (is_exit at) && linked && is_exit next && not ends) (Some (chunk_of e f)) None)
    (cond (ends && is_exit next) [] (chunks (pieces_from f (inside_part es))))
some-chunk e f es Enter Enter true true is = refl
some-chunk e f es Enter Enter true false is = refl
some-chunk e f es Enter Enter false true is = refl
some-chunk e f es Enter Enter false false is = refl
some-chunk e f es Enter Exit true true is = refl
some-chunk e f es Enter Exit true false is = refl
some-chunk e f es Enter Exit false true is =
    ap
    (λ (x : Bool).
    cond x (chunk_of e f ∷ chunks (pieces_from f (inside_part es))) (chunks (pieces_from f (inside_part es)))) is
some-chunk e f es Enter Exit false false is =
    ap
    (λ (x : Bool).
    cond x (chunk_of e f ∷ chunks (pieces_from f (inside_part es))) (chunks (pieces_from f (inside_part es)))) is
some-chunk e f es Exit Enter true true is = refl
some-chunk e f es Exit Enter true false is = refl
some-chunk e f es Exit Enter false true is = refl
some-chunk e f es Exit Enter false false is = refl
some-chunk e f es Exit Exit true true is = refl
some-chunk e f es Exit Exit true false is = refl
some-chunk e f es Exit Exit false true is = refl
some-chunk e f es Exit Exit false false is = refl

-- where it does not end the part
chunks-begin : (e : Event) (es : List Event) →
    chunks (pieces (e ∷ inside_part es)) ≡ listed (chunk_at e es) (chunks_in es)
chunks-begin e [] = refl
chunks-begin e (f ∷ es) =
    cut (is_part f.name && is_exit f.kind)
    ∙ some-chunk e f es e.kind f.kind (is_part f.name) (is_linked e) refl
    ∙ ap (listed (chunk_at e (f ∷ es))) (uncut (is_part f.name && is_exit f.kind))
  where
    cut : (x : Bool) →
        chunks (pieces_from e (cond x [] (f ∷ inside_part es))) ≡
        cond x [] (chunks (piece_of e f e.kind f.kind ++ pieces_from f (inside_part es)))
    cut true = refl
    cut false = refl

    uncut : (x : Bool) →
        cond x [] (chunks (pieces_from f (inside_part es))) ≡ chunks (pieces (cond x [] (f ∷ inside_part es)))
    uncut true = refl
    uncut false = refl

-- the chunks of a part, an event later
chunks-next : (e : Event) (es : List Event) →
    chunks_in (e ∷ es) ≡ cond (is_part e.name && is_exit e.kind) [] (listed (chunk_at e es) (chunks_in es))
chunks-next e es = go (is_part e.name && is_exit e.kind)
  where
    go : (x : Bool) →
        chunks (pieces (cond x [] (e ∷ inside_part es))) ≡ cond x [] (listed (chunk_at e es) (chunks_in es))
    go true = refl
    go false = chunks-begin e es

-- where it does not end, the one that begins with the event is the first,
chunks-here : (e : Event) (es : List Event) (chunk : Chunk) → (is_part e.name && is_exit e.kind) ≡ false →
    chunk_at e es ≡ Some chunk → chunks_in (e ∷ es) ≡ chunk ∷ chunks_in es
chunks-here e es chunk inside begins =
    chunks-next e es ∙ ap (λ (x : Bool). cond x [] (listed (chunk_at e es) (chunks_in es))) inside
    ∙ ap (λ (o : Option Chunk). listed o (chunks_in es)) begins

-- and where none does, all are among the events after this one
chunks-later : (e : Event) (es : List Event) → (is_part e.name && is_exit e.kind) ≡ false →
    chunk_at e es ≡ None → chunks_in (e ∷ es) ≡ chunks_in es
chunks-later e es inside begins =
    chunks-next e es ∙ ap (λ (x : Bool). cond x [] (listed (chunk_at e es) (chunks_in es))) inside
    ∙ ap (λ (o : Option Chunk). listed o (chunks_in es)) begins

-- whether there is one, an event later
holds-next : (e : Event) (es : List Event) →
    holds_chunk (e ∷ es) ≡ cond (is_part e.name && is_exit e.kind) false (begins_chunk e es || holds_chunk es)
holds-next e es =
    ap (λ (list : List Chunk). not (is_none list)) (chunks-next e es) ∙ go es (is_part e.name && is_exit e.kind)
  where
    some : (begins : Bool) (chunk : Chunk) (list : List Chunk) →
        not (is_none (listed (cond begins (Some chunk) None) list)) ≡ begins || not (is_none list)
    some true chunk list = refl
    some false chunk list = refl

    go : (es : List Event) (x : Bool) →
        not (is_none (cond x [] (listed (chunk_at e es) (chunks_in es)))) ≡
        cond x false (begins_chunk e es || holds_chunk es)
    go es true = refl
    go [] false = refl
    go (f ∷ es) false = some (begins_chunk e (f ∷ es)) (chunk_of e f) (chunks_in (f ∷ es))

-- where a chunk begins there is one
holds-here : (e : Event) (es : List Event) → (is_part e.name && is_exit e.kind) ≡ false → begins_chunk e es ≡ true →
    holds_chunk (e ∷ es) ≡ true
holds-here e es inside begins =
    holds-next e es
    ∙ ap (λ (x : Bool). cond x false (begins_chunk e es || holds_chunk es)) inside
    ∙ ap (λ (x : Bool). x || holds_chunk es) begins

-- where none does, it is among the events after this one
holds-later : (e : Event) (es : List Event) → (is_part e.name && is_exit e.kind) ≡ false →
    begins_chunk e es ≡ false → holds_chunk (e ∷ es) ≡ holds_chunk es
holds-later e es inside begins =
    holds-next e es
    ∙ ap (λ (x : Bool). cond x false (begins_chunk e es || holds_chunk es)) inside
    ∙ ap (λ (x : Bool). x || holds_chunk es) begins

-- Parts.

-- a part that begins is one of the list
part-begins : (e : Event) (es : List Event) → begins_part e es ≡ true →
    (part : Part) × (part_at e.kind (part_kind e.name) es ≡ part ∷ [])
part-begins e es begins = go e.kind (part_kind e.name) begins
  where
    some : (kind : PartKind) (list : List Chunk) → not (is_none list) ≡ true →
        (part : Part) × (part_of kind list ≡ part ∷ [])
    some kind [] h = cc
    some kind (chunk ∷ list) h = (record { kind = kind; chunks = chunk ∷ list }, refl)

    go : (at : Kind) (x : Option PartKind) →
        (not (is_exit at) && (elim x [ None ↦ false | Some kind ↦ true ]) && holds_chunk es) ≡ true →
        (part : Part) × (part_at at x es ≡ part ∷ [])
    go Enter None h = cc
    go Enter (Some kind) h = some kind (chunks (pieces (inside_part es))) h
    go Exit None h = cc
    go Exit (Some kind) h = cc

-- and no other event begins one
part-none : (e : Event) (es : List Event) → begins_part e es ≡ false → part_at e.kind (part_kind e.name) es ≡ []
part-none e es begins = go e.kind (part_kind e.name) begins
  where
    none : (kind : PartKind) (list : List Chunk) → not (is_none list) ≡ false → part_of kind list ≡ []
    none kind [] h = refl
    none kind (chunk ∷ list) h = cc

    go : (at : Kind) (x : Option PartKind) →
        (not (is_exit at) && (elim x [ None ↦ false | Some kind ↦ true ]) && holds_chunk es) ≡ false →
        part_at at x es ≡ []
    go Enter None h = refl
    go Enter (Some kind) h = none kind (chunks (pieces (inside_part es))) h
    go Exit x h = refl

-- the last event of a block, an event later
last-from : (o : Option Event) (before : List Event) (e : Event) →
    last_or o (filter is_of_block (before ++ e ∷ [])) ≡ last_after (last_or o (filter is_of_block before)) e
last-from o [] e = go (is_of_block e)
  where
    go : (x : Bool) → last_or o (cond x (e ∷ []) []) ≡ cond x (Some e) o
    go true = refl
    go false = refl
last-from o (b ∷ before) e = go (is_of_block b) (last-from (Some b) before e) (last-from o before e)
  where
    go : (x : Bool) →
        last_or (Some b) (filter is_of_block (before ++ e ∷ [])) ≡
        last_after (last_or (Some b) (filter is_of_block before)) e →
        last_or o (filter is_of_block (before ++ e ∷ [])) ≡ last_after (last_or o (filter is_of_block before)) e →
        last_or o (cond x (b ∷ filter is_of_block (before ++ e ∷ [])) (filter is_of_block (before ++ e ∷ []))) ≡
        last_after (last_or o (cond x (b ∷ filter is_of_block before) (filter is_of_block before))) e
    go true taken passed = taken
    go false taken passed = passed

-- Each part is at the place at the same index.
abbrev pub ArePlacedAt : Document → List Part → List PartPlace → Type 0
ArePlacedAt document [] [] = Unit {0}
ArePlacedAt document (part ∷ parts) (place ∷ places) =
    IsTextPartAt document part place × ArePlacedAt document parts places
ArePlacedAt document [] (place ∷ places) = ⊥
ArePlacedAt document (part ∷ parts) [] = ⊥

placed-from : (document : Document) (blocks before es : List Event) → AreBlocks document blocks →
    blocks ≡ before ++ es → ArePlacedAt document (parts es) (part_places (last_of_block before) es)
placed-from document blocks before [] are is = tt
placed-from document blocks before (e ∷ es) are is =
    go (begins_part e es) refl
    (subst (λ (last : Option Event). ArePlacedAt document (parts es) (part_places last es)) (last-from None before e)
    (placed-from document blocks (before ++ e ∷ []) es are (is ∙ sym (append_assoc before (e ∷ []) es))))
  where
    go : (x : Bool) → begins_part e es ≡ x →
        ArePlacedAt document (parts es) (part_places (last_after (last_of_block before) e) es) →
        ArePlacedAt document (part_at e.kind (part_kind e.name) es ++ parts es)
        (cond x (place_by (last_of_block before) e.name ∷ []) []
        ++ part_places (last_after (last_of_block before) e) es)
    go true begins following =
        let part : (part : Part) × (part_at e.kind (part_kind e.name) es ≡ part ∷ []) = part-begins e es begins in
        subst
        (λ (list : List Part).
        ArePlacedAt document (list ++ parts es)
        (place_by (last_of_block before) e.name ∷ part_places (last_after (last_of_block before) e) es))
        (sym part.1) (
          record {
            blocks = blocks;
            are = are;
            before = before;
            begin = e;
            following = es;
            among = is;
            begins = part.1;
            place_is = refl;
          },
          following,
        )
    go false begins following =
        subst
        (λ (list : List Part).
        ArePlacedAt document (list ++ parts es) (part_places (last_after (last_of_block before) e) es))
        (sym (part-none e es begins)) following

-- each part of a document is where it is found to be
pub placed-parts : (document : Document) (blocks : List Event) → AreBlocks document blocks →
    ArePlacedAt document (parts blocks) (part_places None blocks)
placed-parts document blocks are = placed-from document blocks [] blocks are refl

-- The next of them.
pub next-part : (document : Document) (part : Part) (following : List Part) (places : List PartPlace) →
    ArePlacedAt document (part ∷ following) places → IsNext document places part
next-part document part following [] placed = absurd placed
next-part document part following (place ∷ places) placed =
    record { place = place; following = places; are = refl; at = placed.0 }

pub following-parts : (document : Document) (part : Part) (following : List Part) (places : List PartPlace) →
    ArePlacedAt document (part ∷ following) places → ArePlacedAt document following (drop 1 places)
following-parts document part following [] placed = absurd placed
following-parts document part following (place ∷ places) placed = placed.1

-- At the front of a list.

pub holds-here-at : (left : List Event) (d : Event) → 0 < length left →
    (is_part (get_or left 0 d).name && is_exit (get_or left 0 d).kind) ≡ false →
    begins_chunk (get_or left 0 d) (take (length left - 1) (drop 1 left)) ≡ true → holds_chunk left ≡ true
holds-here-at [] d some inside begins = absurd (omega arith)
holds-here-at (e ∷ es) d some inside begins =
    holds-here e es inside (ap (begins_chunk e) (sym (take_rest (e ∷ es) 1)) ∙ begins)

pub holds-later-at : (left : List Event) (d : Event) → 0 < length left →
    (is_part (get_or left 0 d).name && is_exit (get_or left 0 d).kind) ≡ false →
    begins_chunk (get_or left 0 d) (take (length left - 1) (drop 1 left)) ≡ false →
    holds_chunk left ≡ holds_chunk (take (length left - 1) (drop 1 left))
holds-later-at [] d some inside begins = absurd (omega arith)
holds-later-at (e ∷ es) d some inside begins =
    holds-later e es inside (ap (begins_chunk e) (sym (take_rest (e ∷ es) 1)) ∙ begins)
    ∙ ap holds_chunk (sym (take_rest (e ∷ es) 1))

-- From a place on.

take-more : (l : List Event) (at : ℕ) (d : Event) → at < length l → take (at + 1) l ≡ take at l ++ get_or l at d ∷ []
take-more [] at d h = absurd (omega arith)
take-more (e ∷ l) zero d h = refl
take-more (e ∷ l) (suc at) d h =
    let more : suc at + 1 ≡ suc (at + 1) = omega arith in
    ap (λ (n : ℕ). take n (e ∷ l)) more ∙ ap (λ (t : List Event). e ∷ t) (take-more l at d (omega arith))

-- the last event of a block, an event later
last-later : (blocks : List Event) (at : ℕ) (d : Event) → at < length blocks →
    last_of_block (take (at + 1) blocks) ≡ last_after (last_of_block (take at blocks)) (get_or blocks at d)
last-later blocks at d h = ap last_of_block (take-more blocks at d h) ∙ last-from None (take at blocks) (get_or blocks at d)

-- what is found from the end
pub last-found : (events : List Event) (at : ℕ) (d : Event) → 0 < at → at ≤ length events →
    is_of_block (get_or events (at - 1) d) ≡ true → last_of_block (take at events) ≡ last_of_block events →
    Some (get_or events (at - 1) d) ≡ last_of_block events
last-found events at d some within block same =
    sym
    (sym same ∙ ap (λ (n : ℕ). last_of_block (take n events)) (omega (arith, some))
    ∙ last-later events (at - 1) d (omega arith)
    ∙ ap (λ (x : Bool). cond x (Some (get_or events (at - 1) d)) (last_of_block (take (at - 1) events))) block)

place-step : (blocks : List Event) (at : ℕ) (d : Event) → at < length blocks →
    places_from blocks at ≡
    places_at (last_of_block (take at blocks)) (get_or blocks at d) (drop (at + 1) blocks) ++ places_from blocks (at + 1)
place-step blocks at d h =
    ap (part_places (last_of_block (take at blocks))) (drop_more blocks at d h)
    ∙ ap
    (λ (last : Option Event).
    places_at (last_of_block (take at blocks)) (get_or blocks at d) (drop (at + 1) blocks)
    ++ part_places last (drop (at + 1) blocks)) (sym (last-later blocks at d h))

no-place : (last : Option Event) (e : Event) (es : List Event) → begins_no_part e ≡ true → places_at last e es ≡ []
no-place last e es none = go (not (is_exit e.kind) && is_part e.name) none
  where
    go : (x : Bool) → not x ≡ true → cond (x && holds_chunk es) (place_by last e.name ∷ []) [] ≡ []
    go true h = cc
    go false h = refl

-- events with which no part begins have no place
pub places-past : (blocks : List Event) (at n : ℕ) (d : Event) → n ≤ prefix_len begins_no_part (drop at blocks) →
    places_from blocks (at + n) ≡ places_from blocks at
places-past blocks at zero d within = ap (places_from blocks) (omega arith)
places-past blocks at (suc n) d within = go (nat_lt at (length blocks)) refl
    (λ less. places-past blocks (at + 1) n d less)
  where
    e : Event
    e = get_or blocks at d

    go : (x : Bool) → nat_lt at (length blocks) ≡ x →
        (n ≤ prefix_len begins_no_part (drop (at + 1) blocks) →
        places_from blocks (at + 1 + n) ≡ places_from blocks (at + 1)) →
        places_from blocks (at + suc n) ≡ places_from blocks at
    go false past following =
        let none : suc n ≤ prefix_len begins_no_part [] =
        subst (λ (l : List Event). suc n ≤ prefix_len begins_no_part l)
        (drop_all at blocks (grind (arith, nat_tests))) within in
        absurd (omega (arith, none))
    go true before following =
        let h : at < length blocks = grind (arith, nat_tests) in
        let here : suc n ≤ prefix_len begins_no_part (e ∷ drop (at + 1) blocks) =
        subst (λ (l : List Event). suc n ≤ prefix_len begins_no_part l) (drop_more blocks at d h) within in
        by (begins_no_part e) refl here
      where
        by : (y : Bool) → begins_no_part e ≡ y → suc n ≤ prefix_len begins_no_part (e ∷ drop (at + 1) blocks) →
            places_from blocks (at + suc n) ≡ places_from blocks at
        by false begins here =
            let none : suc n ≤ 0 =
            subst (λ (x : Bool). suc n ≤ cond x (1 + prefix_len begins_no_part (drop (at + 1) blocks)) 0) begins here in
            absurd (omega (arith, none))
        by true none here =
            let h : at < length blocks = grind (arith, nat_tests) in
            let less : suc n ≤ 1 + prefix_len begins_no_part (drop (at + 1) blocks) =
            subst (λ (x : Bool). suc n ≤ cond x (1 + prefix_len begins_no_part (drop (at + 1) blocks)) 0) none here in
            let same : at + suc n ≡ at + 1 + n = omega arith in
            ap (places_from blocks) same ∙ following (omega (arith, less))
            ∙ sym
            (place-step blocks at d h
            ∙ ap (λ (l : List PartPlace). l ++ places_from blocks (at + 1))
            (no-place (last_of_block (take at blocks)) e (drop (at + 1) blocks) none))

-- The first place is that of the part that begins here, if one does,
pub place-here : (blocks : List Event) (at : ℕ) (d : Event) (place : PartPlace) (following : List PartPlace) →
    at < length blocks → begins_no_part (get_or blocks at d) ≡ false → holds_chunk (drop (at + 1) blocks) ≡ true →
    places_from blocks at ≡ place ∷ following →
    (place_by (last_of_block (take at blocks)) (get_or blocks at d).name ≡ place) ×
    (places_from blocks (at + 1) ≡ following)
place-here blocks at d place following h begins holds are =
    let first : place_by (last_of_block (take at blocks)) (get_or blocks at d).name ∷ places_from blocks (at + 1) ≡
    place ∷ following =
    ap (λ (x : Bool).
    cond x (place_by (last_of_block (take at blocks)) (get_or blocks at d).name ∷ []) [] ++ places_from blocks (at + 1))
    (sym (both (not (is_exit (get_or blocks at d).kind) && is_part (get_or blocks at d).name) begins holds))
    ∙ sym (place-step blocks at d h) ∙ are in (
      ap (λ (l : List PartPlace). get_or l 0 place) first,
      ap (drop 1) first,
    )
  where
    both : (x : Bool) → not x ≡ false → holds_chunk (drop (at + 1) blocks) ≡ true →
        (x && holds_chunk (drop (at + 1) blocks)) ≡ true
    both true off holds = holds
    both false off holds = cc

-- and no part without chunks has one
pub place-later : (blocks : List Event) (at : ℕ) (d : Event) → at < length blocks →
    holds_chunk (drop (at + 1) blocks) ≡ false → places_from blocks (at + 1) ≡ places_from blocks at
place-later blocks at d h holds =
    sym
    (place-step blocks at d h
    ∙ ap (λ (l : List PartPlace). l ++ places_from blocks (at + 1))
    (go (not (is_exit (get_or blocks at d).kind) && is_part (get_or blocks at d).name) holds))
  where
    go : (x : Bool) → holds_chunk (drop (at + 1) blocks) ≡ false →
        cond (x && holds_chunk (drop (at + 1) blocks))
        (place_by (last_of_block (take at blocks)) (get_or blocks at d).name ∷ []) [] ≡ []
    go true none =
        ap
        (λ (y : Bool).
        cond y (place_by (last_of_block (take at blocks)) (get_or blocks at d).name ∷ []) []) none
    go false none = refl

-- Where some fail a test, the first after those that pass does.
pub first-fails : (p : Event → Bool) (es : List Event) (d : Event) → prefix_len p es < length es →
    p (get_or es (prefix_len p es) d) ≡ false
first-fails p [] d h = absurd (omega arith)
first-fails p (e ∷ es) d h = go (p e) refl h (λ less. first-fails p es d less)
  where
    go : (x : Bool) → p e ≡ x → prefix_len p (e ∷ es) < length (e ∷ es) →
        (prefix_len p es < length es → p (get_or es (prefix_len p es) d) ≡ false) →
        p (get_or (e ∷ es) (prefix_len p (e ∷ es)) d) ≡ false
    go false fails h on =
        subst (λ (x : Bool). p (get_or (e ∷ es) (cond x (1 + prefix_len p es) 0) d) ≡ false) (sym fails) fails
    go true passes h on =
        let more : 1 + prefix_len p es ≡ suc (prefix_len p es) = omega arith in
        let less : 1 + prefix_len p es < suc (length es) =
        subst (λ (x : Bool). cond x (1 + prefix_len p es) 0 < suc (length es)) passes h in
        subst (λ (x : Bool). p (get_or (e ∷ es) (cond x (1 + prefix_len p es) 0) d) ≡ false) (sym passes)
        (subst (λ (n : ℕ). p (get_or (e ∷ es) n d) ≡ false) (sym more) (on (omega (arith, less))))

get-at : (l : List Event) (at n : ℕ) (d : Event) → get_or (drop at l) n d ≡ get_or l (at + n) d
get-at l zero n d = ap (λ (k : ℕ). get_or l k d) (omega arith)
get-at [] (suc at) n d = refl
get-at (e ∷ l) (suc at) n d =
    let more : suc (at + n) ≡ suc at + n = omega arith in
    get-at l at n d ∙ ap (λ (k : ℕ). get_or (e ∷ l) k d) more

-- The next event with which a part begins is after so many others.
record IsFirst (blocks rest : List Event) (k : ℕ) (d : Event) : Type 0 where
  within : k < length blocks
  begin : get_or rest 0 d ≡ get_or blocks k d
  following : take (length rest - 1) (drop 1 rest) ≡ drop (k + 1) blocks
  begins : begins_no_part (get_or blocks k d) ≡ false

is-first : (blocks rest : List Event) (at n : ℕ) (d : Event) →
    n ≡ prefix_len begins_no_part (take (length blocks - at) (drop at blocks)) → rest ≡ drop (at + n) blocks →
    0 < length rest → IsFirst blocks rest (at + n) d
is-first blocks rest at n d run is some = record {
  within = within;
  begin = ap (λ (l : List Event). get_or l 0 d) whole;
  following = take_rest rest 1 ∙ ap (drop 1) whole;
  begins =
      subst (λ (e : Event). begins_no_part e ≡ false) (get-at blocks at n d)
      (subst (λ (k : ℕ). begins_no_part (get_or (drop at blocks) k d) ≡ false) (sym count)
      (first-fails begins_no_part (drop at blocks) d
      (omega (arith, count, length-drop at blocks, within))));
}
  where
    count : n ≡ prefix_len begins_no_part (drop at blocks)
    count = run ∙ ap (prefix_len begins_no_part) (take_rest blocks at)

    within : at + n < length blocks
    within =
        let long : 0 < length (drop (at + n) blocks) = subst (λ (l : List Event). 0 < length l) is some in
        omega (arith, long, length-drop (at + n) blocks)

    whole : rest ≡ get_or blocks (at + n) d ∷ drop (at + n + 1) blocks
    whole = is ∙ drop_more blocks (at + n) d within

past : (blocks : List Event) (at n : ℕ) (d : Event) →
    n ≡ prefix_len begins_no_part (take (length blocks - at) (drop at blocks)) →
    places_from blocks (at + n) ≡ places_from blocks at
past blocks at n d run =
    let count : n ≡ prefix_len begins_no_part (drop at blocks) =
    run ∙ ap (prefix_len begins_no_part) (take_rest blocks at) in
    places-past blocks at n d (omega (arith, count))

-- So the first place is where it is, if it has a chunk,
pub place-found : (blocks rest : List Event) (at n : ℕ) (d : Event) (place : PartPlace) (following : List PartPlace) →
    n ≡ prefix_len begins_no_part (take (length blocks - at) (drop at blocks)) → rest ≡ drop (at + n) blocks →
    0 < length rest → holds_chunk (take (length rest - 1) (drop 1 rest)) ≡ true →
    places_from blocks at ≡ place ∷ following →
    (place_by (last_of_block (take (at + n) blocks)) (get_or rest 0 d).name ≡ place) ×
    (places_from blocks (at + n + 1) ≡ following)
place-found blocks rest at n d place following run is some holds are =
    let first : IsFirst blocks rest (at + n) d = is-first blocks rest at n d run is some in
    let here = place-here blocks (at + n) d place following first.within first.begins
    (ap holds_chunk (sym first.following) ∙ holds) (past blocks at n d run ∙ are) in (
      ap (λ (e : Event). place_by (last_of_block (take (at + n) blocks)) e.name) first.begin ∙ here.0,
      here.1,
    )

-- and else it has none,
pub place-none : (blocks rest : List Event) (at n : ℕ) (d : Event) →
    n ≡ prefix_len begins_no_part (take (length blocks - at) (drop at blocks)) → rest ≡ drop (at + n) blocks →
    0 < length rest → holds_chunk (take (length rest - 1) (drop 1 rest)) ≡ false →
    places_from blocks (at + n + 1) ≡ places_from blocks at
place-none blocks rest at n d run is some holds =
    let first : IsFirst blocks rest (at + n) d = is-first blocks rest at n d run is some in
    place-later blocks (at + n) d first.within (ap holds_chunk (sym first.following) ∙ holds)
    ∙ past blocks at n d run

-- and where there is no such event there is no place.
pub no-places : (blocks rest : List Event) (at n : ℕ) (d : Event) →
    n ≡ prefix_len begins_no_part (take (length blocks - at) (drop at blocks)) → rest ≡ drop (at + n) blocks →
    length rest ≡ 0 → places_from blocks at ≡ []
no-places blocks rest at n d run is none =
    sym (past blocks at n d run)
    ∙ ap (part_places (last_of_block (take (at + n) blocks))) (sym is)
    ∙ go rest none
  where
    go : (rest : List Event) → length rest ≡ 0 → part_places (last_of_block (take (at + n) blocks)) rest ≡ []
    go [] none = refl
    go (e ∷ rest) none = absurd (omega arith)

-- One part that is looked for.

-- Some events are left of blocks that are searched, with the last event of a block before them.
pub record IsSearched (blocks : List Event) (last : Option Event) (left : List Event) : Type 0 where
  pub before : List Event
  pub are : blocks ≡ before ++ left
  pub last_is : last ≡ last_of_block before

pub search-next : (blocks left : List Event) (last : Option Event) (d : Event) → 0 < length left →
    IsSearched blocks last left →
    IsSearched blocks (last_after last (get_or left 0 d)) (take (length left - 1) (drop 1 left))
search-next blocks [] last d some at = absurd (omega arith)
search-next blocks (e ∷ es) last d some at =
    subst (IsSearched blocks (last_after last e)) (sym (take_rest (e ∷ es) 1))
    (record {
      before = at.before ++ e ∷ [];
      are = at.are ∙ sym (append_assoc at.before (e ∷ []) es);
      last_is = ap (λ (o : Option Event). last_after o e) at.last_is ∙ sym (last-from None at.before e);
    })

-- Chunks of a part that are compared.

pub awaited-here-at : (left : List Event) (d : Event) (chunk x : Chunk) (all awaited list : List Chunk) →
    0 < length left → (is_part (get_or left 0 d).name && is_exit (get_or left 0 d).kind) ≡ false →
    chunk_at (get_or left 0 d) (take (length left - 1) (drop 1 left)) ≡ Some chunk → 0 < length awaited →
    get_or awaited 0 x ≡ chunk → (chunks_in left ≡ awaited → all ≡ list) →
    chunks_in (take (length left - 1) (drop 1 left)) ≡ take (length awaited - 1) (drop 1 awaited) → all ≡ list
awaited-here-at [] d chunk x all awaited list some inside begins one same on are = absurd (omega arith)
awaited-here-at (e ∷ es) d chunk x all [] list some inside begins one same on are = absurd (omega arith)
awaited-here-at (e ∷ es) d chunk x all (first ∷ others) list some inside begins one same on are =
    let rest : take (length (e ∷ es) - 1) (drop 1 (e ∷ es)) ≡ es = take_rest (e ∷ es) 1 in
    on
    (chunks-here e es chunk inside (ap (chunk_at e) (sym rest) ∙ begins)
    ∙ ap (λ (l : List Chunk). chunk ∷ l) (ap chunks_in (sym rest) ∙ are ∙ take_rest (first ∷ others) 1)
    ∙ ap (λ (c : Chunk). c ∷ others) (sym same))

pub awaited-later-at : (left : List Event) (d : Event) (all awaited list : List Chunk) → 0 < length left →
    (is_part (get_or left 0 d).name && is_exit (get_or left 0 d).kind) ≡ false →
    chunk_at (get_or left 0 d) (take (length left - 1) (drop 1 left)) ≡ None →
    (chunks_in left ≡ awaited → all ≡ list) →
    chunks_in (take (length left - 1) (drop 1 left)) ≡ awaited → all ≡ list
awaited-later-at [] d all awaited list some inside begins on are = absurd (omega arith)
awaited-later-at (e ∷ es) d all awaited list some inside begins on are =
    let rest : take (length (e ∷ es) - 1) (drop 1 (e ∷ es)) ≡ es = take_rest (e ∷ es) 1 in
    on (chunks-later e es inside (ap (chunk_at e) (sym rest) ∙ begins) ∙ ap chunks_in (sym rest) ∙ are)

pub listed-here-at : (left : List Event) (d : Event) (chunk : Chunk) (have new all : List Chunk) →
    0 < length left → (is_part (get_or left 0 d).name && is_exit (get_or left 0 d).kind) ≡ false →
    chunk_at (get_or left 0 d) (take (length left - 1) (drop 1 left)) ≡ Some chunk → new ≡ have ++ chunk ∷ [] →
    have ++ chunks_in left ≡ all → new ++ chunks_in (take (length left - 1) (drop 1 left)) ≡ all
listed-here-at [] d chunk have new all some inside begins is are = absurd (omega arith)
listed-here-at (e ∷ es) d chunk have new all some inside begins is are =
    let rest : take (length (e ∷ es) - 1) (drop 1 (e ∷ es)) ≡ es = take_rest (e ∷ es) 1 in
    ap (λ (l : List Event). new ++ chunks_in l) rest
    ∙ ap (λ (l : List Chunk). l ++ chunks_in es) is
    ∙ append_assoc have (chunk ∷ []) (chunks_in es)
    ∙ ap (λ (l : List Chunk). have ++ l) (sym (chunks-here e es chunk inside (ap (chunk_at e) (sym rest) ∙ begins)))
    ∙ are

pub listed-later-at : (left : List Event) (d : Event) (have all : List Chunk) → 0 < length left →
    (is_part (get_or left 0 d).name && is_exit (get_or left 0 d).kind) ≡ false →
    chunk_at (get_or left 0 d) (take (length left - 1) (drop 1 left)) ≡ None →
    have ++ chunks_in left ≡ all → have ++ chunks_in (take (length left - 1) (drop 1 left)) ≡ all
listed-later-at [] d have all some inside begins are = absurd (omega arith)
listed-later-at (e ∷ es) d have all some inside begins are =
    let rest : take (length (e ∷ es) - 1) (drop 1 (e ∷ es)) ≡ es = take_rest (e ∷ es) 1 in
    ap (λ (l : List Event). have ++ chunks_in l) rest
    ∙ ap (λ (l : List Chunk). have ++ l) (sym (chunks-later e es inside (ap (chunk_at e) (sym rest) ∙ begins)))
    ∙ are

-- a part that ends has no more
pub listed-end-at : (left : List Event) (d : Event) (have all : List Chunk) → 0 < length left →
    (is_part (get_or left 0 d).name && is_exit (get_or left 0 d).kind) ≡ true → have ++ chunks_in left ≡ all →
    have ≡ all
listed-end-at [] d have all some ends are = absurd (omega arith)
listed-end-at (e ∷ es) d have all some ends are =
    sym (append-nil have)
    ∙ ap (λ (l : List Chunk). have ++ l)
    (sym
    (chunks-next e es ∙ ap (λ (x : Bool). cond x [] (listed (chunk_at e es) (chunks_in es))) ends))
    ∙ are
