-- The text parts of a block list may be read, and the tree does not depend on how.
use Rattle.std.proofs.Common.{◌≡◌, ℕ, Bool, true, false, cond, not, ◌&&◌, ◌||◌, List, [], ◌∷◌, ◌++◌, refl, ap, ◌∙◌}
use Rattle.std.proofs.Common.{arith}
use Rattle.std.specs.Prelude.{◌==◌, Option, Some, None, IsTrue}
use Rattle.std.specs.List.{list_all}
use Rattle.std.proofs.lemmas.Bool.{and_parts, and_from}
use Rattle.md_engine.specs.declared.event.Point.{Point}
use Rattle.md_engine.specs.declared.event.Event.{Event}
use Rattle.md_engine.specs.declared.event.Kind.{Kind}
use Rattle.md_engine.specs.declared.event.Kind.TheVariants.{Enter, Exit}
use Rattle.md_engine.specs.declared.event.Name.{Name}
use Rattle.md_engine.specs.declared.event.Name.TheVariants as n
use Rattle.md_meaning.specs.Texts.{split_lines}
use Rattle.md_events.specs.declared.inline.PartKind.{PartKind}
use Rattle.md_events.specs.declared.inline.Chunk.{Chunk}
use Rattle.md_events.specs.Events.Pieces.{begins_in_tab, ends_in_tab, is_valid_piece, piece_text, are_valid_pieces}
use Rattle.md_events.specs.Events.Pieces.{may_cover}
use Rattle.md_events.specs.Events.Places.{first_point, is_placed, are_placed, at_or_before, same_place}
use Rattle.md_events.specs.Events.Nested.{Forward, is_exit}
use Rattle.md_events.specs.Events.Spelled.{Role, spelled}
use Rattle.md_events.specs.Events.Inline.{Part, Piece, IsPart, KeepsFrame, is_linked, is_inline, together, piece_of}
use Rattle.md_events.specs.Events.Inline.{pieces_from, pieces, in_order, chunk_placed, are_lines, ends_whole}
use Rattle.md_events.specs.Events.Inline.{is_one_line, may_be_inside}
use Rattle.md_events.specs.Events.Tiles.{begins_at, is_part, parts, part_kind, part_of, part_at, part_end}
use Rattle.md_events.specs.Events.Tiles.{is_white_piece, is_data, links_kind, is_whole_part, are_whole_parts}
use Rattle.md_events.specs.Events.Tiles.{inside_part, chunks, IsBlockList, EachRead, Tiles}
use Rattle.md_events.proofs.HeldLemmas.{AreCalled, all-called, chunks-data}
use Rattle.md_events.proofs.NestedLemmas.{at_or_before-refl, at_or_before-trans}
use Rattle.md_events.proofs.SpelledLemmas.{Roles, QuietOrEnding}
use Rattle.md_events.proofs.FilledLemmas.{EachInline, inline-role, spelled-filled}

-- Parts of a block list may be read.

-- chunks after a point are after an earlier one
pub order-from : (p q : Point) (list : List Chunk) → IsTrue (at_or_before p q) → in_order q list ≡ true →
    in_order p list ≡ true
order-from p q [] h k = refl
order-from p q (chunk ∷ list) h k =
    let outer : (at_or_before q chunk.first && at_or_before chunk.first chunk.after ≡ true) ×
    (in_order chunk.after list ≡ true) = and_parts
    (at_or_before q chunk.first && at_or_before chunk.first chunk.after) (in_order chunk.after list) k in
    let inner : (at_or_before q chunk.first ≡ true) ×
    (at_or_before chunk.first chunk.after ≡ true) = and_parts (at_or_before q chunk.first)
    (at_or_before chunk.first chunk.after) outer.0 in
    and_from (at_or_before p chunk.first && at_or_before chunk.first chunk.after) (in_order chunk.after list)
    (and_from (at_or_before p chunk.first) (at_or_before chunk.first chunk.after)
    (at_or_before-trans p q chunk.first h inner.0) inner.1) outer.1

order-piece : (e f : Event) (k l : Kind) (rest : List Piece) → IsTrue (at_or_before e.point f.point) →
    in_order f.point (chunks rest) ≡ true → in_order e.point (chunks (piece_of e f k l ++ rest)) ≡ true
order-piece e f Enter Exit rest h order = go (is_linked e)
  where
    go : (x : Bool) →
        in_order e.point (cond x ((record { first = e.point; after = f.point }) ∷ chunks rest) (chunks rest)) ≡ true
    go true =
        and_from (at_or_before e.point e.point && at_or_before e.point f.point) (in_order f.point (chunks rest))
        (and_from (at_or_before e.point e.point) (at_or_before e.point f.point) (at_or_before-refl e.point) h) order
    go false = order-from e.point f.point (chunks rest) h order
order-piece e f Enter Enter rest h order = order-from e.point f.point (chunks rest) h order
order-piece e f Exit Enter rest h order = order-from e.point f.point (chunks rest) h order
order-piece e f Exit Exit rest h order = order-from e.point f.point (chunks rest) h order

order-pieces : (e : Event) (es : List Event) → Forward e.point es → in_order e.point (chunks (pieces_from e es)) ≡ true
order-pieces e [] forward = refl
order-pieces e (f ∷ es) forward =
    order-piece e f e.kind f.kind (pieces_from f es) forward.0 (order-pieces f es forward.1)

order-chunks : (p : Point) (es : List Event) → Forward p es → in_order p (chunks (pieces es)) ≡ true
order-chunks p [] forward = refl
order-chunks p (e ∷ es) forward =
    order-from p e.point (chunks (pieces_from e es)) forward.0 (order-pieces e es forward.1)

placed-piece : (bytes : List ℕ) (e f : Event) (k l : Kind) (rest : List Piece) → is_placed bytes e.point ≡ true →
    is_placed bytes f.point ≡ true → list_all (chunk_placed bytes) (chunks rest) ≡ true →
    list_all (chunk_placed bytes) (chunks (piece_of e f k l ++ rest)) ≡ true
placed-piece bytes e f Enter Exit rest h k placed = go (is_linked e)
  where
    go : (x : Bool) →
        list_all (chunk_placed bytes)
        (cond x ((record { first = e.point; after = f.point }) ∷ chunks rest) (chunks rest)) ≡
        true
    go true =
        and_from (is_placed bytes e.point && is_placed bytes f.point) (list_all (chunk_placed bytes) (chunks rest))
        (and_from (is_placed bytes e.point) (is_placed bytes f.point) h k) placed
    go false = placed
placed-piece bytes e f Enter Enter rest h k placed = placed
placed-piece bytes e f Exit Enter rest h k placed = placed
placed-piece bytes e f Exit Exit rest h k placed = placed

placed-pieces : (bytes : List ℕ) (e : Event) (es : List Event) → is_placed bytes e.point ≡ true →
    are_placed bytes es ≡ true → list_all (chunk_placed bytes) (chunks (pieces_from e es)) ≡ true
placed-pieces bytes e [] h placed = refl
placed-pieces bytes e (f ∷ es) h placed =
    let parts : (is_placed bytes f.point ≡ true) ×
    (are_placed bytes es ≡ true) = and_parts (is_placed bytes f.point) (are_placed bytes es) placed in
    placed-piece bytes e f e.kind f.kind (pieces_from f es) h parts.0 (placed-pieces bytes f es parts.0 parts.1)

placed-chunks : (bytes : List ℕ) (es : List Event) → are_placed bytes es ≡ true →
    list_all (chunk_placed bytes) (chunks (pieces es)) ≡ true
placed-chunks bytes [] placed = refl
placed-chunks bytes (e ∷ es) placed =
    let parts : (is_placed bytes e.point ≡ true) ×
    (are_placed bytes es ≡ true) = and_parts (is_placed bytes e.point) (are_placed bytes es) placed in
    placed-pieces bytes e es parts.0 parts.1

inside-forward : (p : Point) (es : List Event) → Forward p es → Forward p (inside_part es)
inside-forward p [] forward = tt
inside-forward p (e ∷ es) forward = go (is_part e.name && is_exit e.kind) (inside-forward e.point es forward.1)
  where
    go : (x : Bool) → (rest : Forward e.point (inside_part es)) → Forward p (cond x [] (e ∷ inside_part es))
    go true rest = tt
    go false rest = (forward.0, rest)

inside-placed : (bytes : List ℕ) (es : List Event) → are_placed bytes es ≡ true →
    are_placed bytes (inside_part es) ≡ true
inside-placed bytes [] placed = refl
inside-placed bytes (e ∷ es) placed =
    let parts : (is_placed bytes e.point ≡ true) ×
    (are_placed bytes es ≡ true) = and_parts (is_placed bytes e.point) (are_placed bytes es) placed in
    go (is_part e.name && is_exit e.kind) parts.0 (inside-placed bytes es parts.1)
  where
    go : (x : Bool) → is_placed bytes e.point ≡ true → are_placed bytes (inside_part es) ≡ true →
        are_placed bytes (cond x [] (e ∷ inside_part es)) ≡ true
    go true h rest = refl
    go false h rest = and_from (is_placed bytes e.point) (are_placed bytes (inside_part es)) h rest

-- Chunks end between two bytes.

-- whether a piece does, if it is not read yet
abbrev is_whole : Piece → Bool
is_whole piece = not piece.linked || (piece.after.vs == 0)

-- `Data` does not end within a tab
data-whole : (name : Name) → is_data name ≡ true → ends_in_tab name ≡ false
data-whole n.Data h = refl
data-whole name h = cc

whole-piece : (bytes : List ℕ) (piece : Piece) → is_valid_piece bytes piece ≡ true →
    (not piece.linked || is_data piece.name) ≡ true → is_whole piece ≡ true
whole-piece bytes piece valid data_link = go piece.linked data_link
  where
    text : List ℕ
    text = piece_text bytes piece

    ends : ((piece.after.vs == 0) || ends_in_tab piece.name) ≡ true
    ends =
        (and_parts (not (same_place piece.first piece.after) && ((piece.first.vs == 0) || begins_in_tab piece.name))
        ((piece.after.vs == 0) || ends_in_tab piece.name)
        (and_parts
        (not (same_place piece.first piece.after) && ((piece.first.vs == 0) || begins_in_tab piece.name)
        && ((piece.after.vs == 0) || ends_in_tab piece.name))
        (cond piece.linked (is_one_line (split_lines text) true) (may_cover piece.name text)) valid).0).1

    one : (x y : Bool) → (x || y) ≡ true → y ≡ false → x ≡ true
    one true y h k = refl
    one false y h k = cc

    go : (linked : Bool) → (not linked || is_data piece.name) ≡ true → (not linked || (piece.after.vs == 0)) ≡ true
    go true h = one (piece.after.vs == 0) (ends_in_tab piece.name) ends (data-whole piece.name h)
    go false h = refl

whole-pieces : (bytes : List ℕ) (list : List Piece) → are_valid_pieces bytes list ≡ true → AreCalled is_data list →
    list_all is_whole list ≡ true
whole-pieces bytes [] are_valid called = refl
whole-pieces bytes (piece ∷ list) are_valid called =
    let valid : (is_valid_piece bytes piece ≡ true) × (are_valid_pieces bytes list ≡ true) = and_parts
    (is_valid_piece bytes piece) (are_valid_pieces bytes list) are_valid in
    let names : ((not piece.linked || is_data piece.name) ≡ true) × AreCalled is_data list = and_parts
    (not piece.linked || is_data piece.name)
    (list_all (λ (piece : Piece). not piece.linked || is_data piece.name) list) called in
    and_from (is_whole piece) (list_all is_whole list) (whole-piece bytes piece valid.0 names.0)
    (whole-pieces bytes list valid.1 names.1)

-- after the first event
whole-following : (e : Event) (es : List Event) → list_all is_whole (pieces_from e es) ≡ true →
    list_all is_whole (pieces es) ≡ true
whole-following e [] whole = refl
whole-following e (f ∷ es) whole = go e.kind f.kind whole
  where
    go : (k l : Kind) → list_all is_whole (piece_of e f k l ++ pieces_from f es) ≡ true →
        list_all is_whole (pieces_from f es) ≡ true
    go Enter Exit h =
        (and_parts (not (is_linked e) || (f.point.vs == 0)) (list_all is_whole (pieces_from f es)) h).1
    go Enter Enter h = h
    go Exit l h = h

-- and inside of a part
whole-from : (e : Event) (es : List Event) → list_all is_whole (pieces_from e es) ≡ true →
    list_all is_whole (pieces_from e (inside_part es)) ≡ true
whole-from e [] whole = refl
whole-from e (f ∷ es) whole = go (is_part f.name && is_exit f.kind) (whole-from f es (whole-following e (f ∷ es) whole))
  where
    here : (k l : Kind) → list_all is_whole (piece_of e f k l ++ pieces_from f es) ≡ true →
        list_all is_whole (pieces_from f (inside_part es)) ≡ true →
        list_all is_whole (piece_of e f k l ++ pieces_from f (inside_part es)) ≡ true
    here Enter Exit h rest =
        and_from (not (is_linked e) || (f.point.vs == 0)) (list_all is_whole (pieces_from f (inside_part es)))
        (and_parts (not (is_linked e) || (f.point.vs == 0)) (list_all is_whole (pieces_from f es)) h).0 rest
    here Enter Enter h rest = rest
    here Exit l h rest = rest

    go : (x : Bool) → list_all is_whole (pieces_from f (inside_part es)) ≡ true →
        list_all is_whole (pieces_from e (cond x [] (f ∷ inside_part es))) ≡ true
    go true rest = refl
    go false rest = here e.kind f.kind whole rest

whole-inside : (es : List Event) → list_all is_whole (pieces es) ≡ true →
    list_all is_whole (pieces (inside_part es)) ≡ true
whole-inside [] whole = refl
whole-inside (e ∷ es) whole = go (is_part e.name && is_exit e.kind)
  where
    go : (x : Bool) → list_all is_whole (pieces (cond x [] (e ∷ inside_part es))) ≡ true
    go true = refl
    go false = whole-from e es whole

whole-chunks : (list : List Piece) → list_all is_whole list ≡ true → list_all ends_whole (chunks list) ≡ true
whole-chunks [] whole = refl
whole-chunks (piece ∷ list) whole =
    let both : (is_whole piece ≡ true) × (list_all is_whole list ≡ true) = and_parts (is_whole piece)
    (list_all is_whole list) whole in
    go piece.linked both.0 (whole-chunks list both.1)
  where
    go : (linked : Bool) → (not linked || (piece.after.vs == 0)) ≡ true → list_all ends_whole (chunks list) ≡ true →
        list_all ends_whole
        (cond linked ((record { first = piece.first; after = piece.after }) ∷ chunks list) (chunks list)) ≡
        true
    go true h rest = and_from (piece.after.vs == 0) (list_all ends_whole (chunks list)) h rest
    go false h rest = rest

-- what holds of each part
abbrev pub EachPart : (Part → Type 0) → List Part → Type 0
EachPart P [] = Unit {0}
EachPart P (part ∷ parts) = P part × EachPart P parts

each-part-append : (P : Part → Type 0) (xs ys : List Part) → EachPart P xs → EachPart P ys → EachPart P (xs ++ ys)
each-part-append P [] ys h k = k
each-part-append P (part ∷ xs) ys h k = (h.0, each-part-append P xs ys h.1 k)

part-is : (bytes : List ℕ) (kind : PartKind) (end : Point) (list : List Chunk) → are_lines bytes end list ≡ true →
    list_all ends_whole list ≡ true → in_order first_point list ≡ true → list_all (chunk_placed bytes) list ≡ true →
    EachPart (IsPart bytes) (part_of kind list)
part-is bytes kind end [] lines whole order placed = tt
part-is bytes kind end (chunk ∷ list) lines whole order placed =
    (record { end = end; lines = lines; whole = whole; some = omega arith; order = order; placed = placed }, tt)

parts-at : (bytes : List ℕ) (p : Point) (kind : Kind) (part : Option PartKind) (es : List Event) →
    is_whole_part bytes kind part p es ≡ true → list_all is_whole (pieces es) ≡ true → Forward p es →
    are_placed bytes es ≡ true → IsTrue (at_or_before first_point p) → EachPart (IsPart bytes) (part_at kind part es)
parts-at bytes p Enter (Some kind) es valid whole forward placed h =
    let list : List Chunk = chunks (pieces (inside_part es)) in
    let front : Bool = begins_at p list && list_all (is_white_piece bytes) (pieces (inside_part es)) in
    part-is bytes kind (part_end es) list
    (and_parts front (are_lines bytes (part_end es) list)
    (and_parts (front && are_lines bytes (part_end es) list) (list_all (links_kind kind) (inside_part es)) valid).0).1
    (whole-chunks (pieces (inside_part es)) (whole-inside es whole))
    (order-from first_point p (chunks (pieces (inside_part es))) h
    (order-chunks p (inside_part es) (inside-forward p es forward)))
    (placed-chunks bytes (inside_part es) (inside-placed bytes es placed))
parts-at bytes p Enter None es valid whole forward placed h = tt
parts-at bytes p Exit part es valid whole forward placed h = tt

parts-from : (bytes : List ℕ) (p : Point) (es : List Event) → are_whole_parts bytes es ≡ true →
    list_all is_whole (pieces es) ≡ true → Forward p es → are_placed bytes es ≡ true →
    IsTrue (at_or_before first_point p) → EachPart (IsPart bytes) (parts es)
parts-from bytes p [] valid whole forward placed h = tt
parts-from bytes p (e ∷ es) valid whole forward placed h =
    let lines : (is_whole_part bytes e.kind (part_kind e.name) e.point es ≡ true) ×
    (are_whole_parts bytes es ≡ true) = and_parts (is_whole_part bytes e.kind (part_kind e.name) e.point es)
    (are_whole_parts bytes es) valid in
    let points : (is_placed bytes e.point ≡ true) ×
    (are_placed bytes es ≡ true) = and_parts (is_placed bytes e.point) (are_placed bytes es) placed in
    let following : IsTrue (at_or_before first_point e.point) = at_or_before-trans first_point p e.point h forward.0 in
    each-part-append (IsPart bytes) (part_at e.kind (part_kind e.name) es) (parts es)
    (parts-at bytes e.point e.kind (part_kind e.name) es lines.0 (whole-following e es whole) forward.1
    points.1 following)
    (parts-from bytes e.point es lines.1 (whole-following e es whole) forward.1 points.1 following)

-- The text parts of a block list may be read.
pub parts-are : (bytes : List ℕ) (events : List Event) → IsBlockList bytes events →
    EachPart (IsPart bytes) (parts events)
parts-are bytes events list =
    parts-from bytes first_point events list.lines
    (whole-pieces bytes (pieces events) list.pieces_are
    (all-called is_data events (chunks-data 0 events list.chunks)))
    list.nested.forward list.placed (at_or_before-refl first_point)

-- Layers that keep the promise of all layers.

each-inline : (events : List Event) → list_all may_be_inside events ≡ true → Roles QuietOrEnding events
each-inline [] h = tt
each-inline (e ∷ es) h =
    let parts : (may_be_inside e ≡ true) ×
    (list_all may_be_inside es ≡ true) = and_parts (may_be_inside e) (list_all may_be_inside es) h in
    (inline-role e.name (and_parts (is_inline e.name) (not (is_linked e)) parts.0).0, each-inline es parts.1)

roles-parts : (P : Role → Type 0) (xs ys : List Event) → Roles P (xs ++ ys) → Roles P xs × Roles P ys
roles-parts P [] ys h = (tt, h)
roles-parts P (e ∷ xs) ys h = let parts : Roles P xs × Roles P ys = roles-parts P xs ys h.1 in ((h.0, parts.0), parts.1)

inline-parts : (lists : List (List Event)) → Roles QuietOrEnding (together lists) → EachInline lists
inline-parts [] h = tt
inline-parts (events ∷ lists) h =
    let parts : Roles QuietOrEnding events ×
    Roles QuietOrEnding (together lists) = roles-parts QuietOrEnding events (together lists) h in
    (parts.0, inline-parts lists parts.1)

pub inline-append : (xs ys : List (List Event)) → EachInline xs → EachInline ys → EachInline (xs ++ ys)
inline-append [] ys h k = k
inline-append (events ∷ xs) ys h k = (h.0, inline-append xs ys h.1 k)

-- what it gives in the places of chunks
pub read-inline_lists : (bytes : List ℕ) (reads : Part → List Event → Type 0) → KeepsFrame bytes reads →
    (parts : List Part) (lists : List (List (List Event))) → EachPart (IsPart bytes) parts →
    EachRead reads parts lists → EachInline (together lists)
read-inline_lists bytes reads frame [] [] are each = tt
read-inline_lists bytes reads frame [] (l ∷ lists) are each = absurd each
read-inline_lists bytes reads frame (part ∷ parts) [] are each = absurd each
read-inline_lists bytes reads frame (part ∷ parts) (l ∷ lists) are each =
    inline-append l (together lists)
    (inline-parts l (each-inline (together l) (frame part (together l) are.0 each.1).inline))
    (read-inline_lists bytes reads frame parts lists are.1 each.2)

-- The tree of a list that tiles is that of its block list, whatever the layer.
pub tiles-spelled : (bytes : List ℕ) (reads : Part → List Event → Type 0) (events : List Event) →
    KeepsFrame bytes reads → (tiles : Tiles reads bytes events) → spelled events bytes ≡ spelled tiles.blocks bytes
tiles-spelled bytes reads events frame tiles =
    ap (λ (es : List Event). spelled es bytes) tiles.read
    ∙ spelled-filled bytes tiles.blocks (together tiles.lists) tiles.block_list.chunks
    (read-inline_lists bytes reads frame (parts tiles.blocks) tiles.lists
    (parts-are bytes tiles.blocks tiles.block_list) tiles.each)
