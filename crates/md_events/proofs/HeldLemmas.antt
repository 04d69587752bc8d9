-- Every byte of a text is in a piece, where the pieces lie side by side from its first byte to its last.
use Rattle.std.proofs.Common.{◌≡◌, ℕ, zero, suc, ◌<◌, Bool, true, false, cond, not, ◌&&◌, ◌||◌, List, [], ◌∷◌, ◌++◌}
use Rattle.std.proofs.Common.{length, refl, ap, arith}
use Rattle.std.specs.Prelude.{◌==◌, Option, Some, None}
use Rattle.std.specs.List.{Contains, list_all}
use Rattle.std.proofs.lemmas.Bool.{and_from, and_parts, or_left}
use Rattle.std.proofs.lemmas.Bool.Decides.{nat_tests}
use Rattle.md_engine.specs.declared.event.Event.{Event}
use Rattle.md_engine.specs.declared.event.Kind.{Kind}
use Rattle.md_engine.specs.declared.event.Kind.TheVariants.{Enter, Exit}
use Rattle.md_engine.specs.declared.event.Name.{Name}
use Rattle.md_engine.specs.declared.event.Name.TheVariants as n
use Rattle.md_engine.specs.declared.event.Point.{Point}
use Rattle.md_events.specs.Events.Held.{Holds, byte_point}
use Rattle.md_events.specs.Events.Inline.{Covers, Piece, is_linked, is_one_line, piece_of, pieces, pieces_from}
use Rattle.md_events.specs.Events.Nested.{is_exit}
use Rattle.md_events.specs.Events.Pieces.{begins_in_tab, ends_in_tab, is_piece_name, piece_rule, is_valid_piece}
use Rattle.md_events.specs.Events.Pieces.{piece_text, are_valid_pieces, may_cover}
use Rattle.md_events.specs.Events.Places.{at_or_before, first_point, same_place}
use Rattle.md_meaning.specs.Texts.{split_lines}
use Rattle.md_events.specs.Events.Tiles.{chunks_in_parts, depth_following, end_point, is_chunk, is_data, is_part}
use Rattle.md_events.specs.Events.Tiles.{may_be_in_part}

-- The name of a piece.

-- chunks that are not read yet have such a name
abbrev pub AreCalled : (Name → Bool) → List Piece → Type 0
AreCalled test pieces = list_all (λ (piece : Piece). not piece.linked || test piece.name) pieces ≡ true

-- and it is that of a piece
abbrev AreNamed : List Piece → Type 0
AreNamed pieces = AreCalled is_piece_name pieces

-- a rule that holds of a text is one
over-named : (rule : Option (List ℕ → Bool)) (text : List ℕ) →
    elim rule [ None ↦ false | Some over ↦ over text ] ≡ true → elim rule [ None ↦ false | Some over ↦ true ] ≡ true
over-named None text h = h
over-named (Some over) text h = refl

-- so each piece that is has the name of one
piece-named : (bytes : List ℕ) (piece : Piece) → is_valid_piece bytes piece ≡ true →
    (not piece.linked || is_piece_name piece.name) ≡ true → is_piece_name piece.name ≡ true
piece-named bytes piece h k = go piece.linked last k
  where
    text : List ℕ
    text = piece_text bytes piece

    last : cond piece.linked (is_one_line (split_lines text) true) (may_cover piece.name text) ≡ true
    last =
        (and_parts (not (same_place piece.first piece.after) && ((piece.first.vs == 0) || begins_in_tab piece.name)
        && ((piece.after.vs == 0) || ends_in_tab piece.name))
        (cond piece.linked (is_one_line (split_lines text) true) (may_cover piece.name text)) h).1

    go : (linked : Bool) → cond linked (is_one_line (split_lines text) true) (may_cover piece.name text) ≡ true →
        (not linked || is_piece_name piece.name) ≡ true → is_piece_name piece.name ≡ true
    go true h k = k
    go false h k = over-named (piece_rule piece.name) text h

-- Where a byte is.

-- a piece among further ones
contains-next : (x y : Piece) (xs : List Piece) → Contains xs x → Contains (y ∷ xs) x
contains-next x y xs h = (suc h.0, omega (arith, h.1), h.2)

next-holds : (bytes : List ℕ) (first : Piece) (rest : List Piece) (index : ℕ) → Holds bytes rest index →
    Holds bytes (first ∷ rest) index
next-holds bytes first rest index h = record {
  piece = h.piece;
  among = contains-next h.piece first rest h.among;
  begins = h.begins;
  ends = h.ends;
  valid = h.valid;
  name = h.name;
}

-- a point at the place of another comes no later than what that one does
pub same-before : (p q r : Point) → same_place p q ≡ true → at_or_before p r ≡ true → at_or_before q r ≡ true
same-before p q r h k = grind (arith, nat_tests)

-- from a point at the byte or before, to one after its first column
pieces-hold : (bytes : List ℕ) (from to : Point) (list : List Piece) (index : ℕ) → Covers from list to →
    are_valid_pieces bytes list ≡ true → AreNamed list → at_or_before from (byte_point index) ≡ true →
    at_or_before to (byte_point index) ≡ false →
    Holds bytes list index
pieces-hold bytes from to [] index covers are_valid named h k =
    let late : at_or_before to (byte_point index) ≡ true = same-before from to (byte_point index) covers h in cc
pieces-hold bytes from to (piece ∷ list) index covers are_valid named h k =
    go (at_or_before piece.after (byte_point index)) refl
    (λ before. pieces-hold bytes piece.after to list index covers.1 valid.1 names.1 before k)
  where
    valid : (is_valid_piece bytes piece ≡ true) × (are_valid_pieces bytes list ≡ true)
    valid = and_parts (is_valid_piece bytes piece) (are_valid_pieces bytes list) are_valid

    names : ((not piece.linked || is_piece_name piece.name) ≡ true) × AreNamed list
    names =
        and_parts (not piece.linked || is_piece_name piece.name)
        (list_all (λ (piece : Piece). not piece.linked || is_piece_name piece.name) list) named

    go : (x : Bool) → at_or_before piece.after (byte_point index) ≡ x →
        (at_or_before piece.after (byte_point index) ≡ true → Holds bytes list index) → Holds bytes (piece ∷ list) index
    go true e rest = next-holds bytes piece list index (rest e)
    go false e rest = record {
      piece = piece;
      among = (0, omega arith, refl);
      begins = same-before from piece.first (byte_point index) covers.0 h;
      ends = ap not e;
      valid = valid.0;
      name = piece-named bytes piece valid.0 names.0;
    }

-- no byte begins before the first point, and none after the last
first-before : (index : ℕ) → at_or_before first_point (byte_point index) ≡ true
first-before index = grind (arith, nat_tests)

end-following : (bytes : List ℕ) (index : ℕ) → index < length bytes →
    at_or_before (end_point bytes) (byte_point index) ≡ false
end-following bytes index h = grind (arith, nat_tests)

-- Events.

-- whether an event has such a name, if it is read later
abbrev pub is_called : (Name → Bool) → Event → Bool
is_called test e = not (is_linked e) || test e.name

-- whether it has the name of a piece
abbrev pub is_named : Event → Bool
is_named e = is_called is_piece_name e

-- their pieces
pieces-called : (test : Name → Bool) (e : Event) (es : List Event) → list_all (is_called test) (e ∷ es) ≡ true →
    AreCalled test (pieces_from e es)
pieces-called test e [] h = refl
pieces-called test e (f ∷ es) h =
    let both : (is_called test e ≡ true) ×
    (list_all (is_called test) (f ∷ es) ≡ true) = and_parts (is_called test e) (list_all (is_called test) (f ∷ es)) h in
    go e.kind f.kind both.0 (pieces-called test f es both.1)
  where
    go : (k l : Kind) → is_called test e ≡ true → AreCalled test (pieces_from f es) →
        AreCalled test (piece_of e f k l ++ pieces_from f es)
    go Enter Exit one rest =
        and_from (is_called test e)
        (list_all (λ (piece : Piece). not piece.linked || test piece.name) (pieces_from f es)) one rest
    go Enter Enter one rest = rest
    go Exit l one rest = rest

pub all-called : (test : Name → Bool) (events : List Event) → list_all (is_called test) events ≡ true →
    AreCalled test (pieces events)
all-called test [] h = refl
all-called test (e ∷ es) h = pieces-called test e es h

-- Every byte of a text is in a piece of its events.
pub bytes-held : (bytes : List ℕ) (events : List Event) → Covers first_point (pieces events) (end_point bytes) →
    are_valid_pieces bytes (pieces events) ≡ true → list_all is_named events ≡ true →
    (index : ℕ) → index < length bytes →
    Holds bytes (pieces events) index
bytes-held bytes events covers are_valid named index h =
    pieces-hold bytes first_point (end_point bytes) (pieces events) index covers are_valid
    (all-called is_piece_name events named)
    (first-before index) (end-following bytes index h)

-- A block list, where each chunk is called `Data`.

-- `Data` is the name of a piece
data-named : (name : Name) → is_data name ≡ true → is_piece_name name ≡ true
data-named n.Data h = refl
data-named name h = cc

-- a chunk is called so
chunk-data : (e : Event) (es : List Event) → is_chunk e es ≡ true → is_data e.name ≡ true
chunk-data e [] h = cc
chunk-data e (f ∷ es) h =
    let begun : not (is_exit e.kind) && is_data e.name && is_exit f.kind ≡
    true = (and_parts (not (is_exit e.kind) && is_data e.name && is_exit f.kind) (is_data f.name) h).0 in
    let named : not (is_exit e.kind) && is_data e.name ≡
    true = (and_parts (not (is_exit e.kind) && is_data e.name) (is_exit f.kind) begun).0 in
    (and_parts (not (is_exit e.kind)) (is_data e.name) named).1

-- an event in a text part, where chunks are only in text parts, and what follows it
inside-data : (depth : ℕ) (e : Event) (es : List Event) → chunks_in_parts (suc depth) (e ∷ es) ≡ true →
    (is_called is_data e ≡ true) × ((following : ℕ) × (chunks_in_parts following es ≡ true))
inside-data depth e es h = go (is_part e.name) (is_linked e) h
  where
    following : ℕ
    following = depth_following e.kind (suc depth)

    go : (part linked : Bool) →
        cond part (is_exit e.kind && (depth == 0) && not linked && chunks_in_parts 0 es)
        ((cond linked ((depth == 0) && is_chunk e es) (may_be_in_part e.kind e.name)) && chunks_in_parts following es) ≡
        true →
        ((not linked || is_data e.name) ≡ true) × ((following : ℕ) × (chunks_in_parts following es ≡ true))
    go true linked h =
        let both : (is_exit e.kind && (depth == 0) && not linked ≡ true) ×
        (chunks_in_parts 0 es ≡ true) = and_parts (is_exit e.kind && (depth == 0) && not linked)
        (chunks_in_parts 0 es) h in (
          or_left (not linked) (is_data e.name)
              (and_parts (is_exit e.kind && (depth == 0)) (not linked) both.0).1,
          (0, both.1),
        )
    go false true h =
        let both : ((depth == 0) && is_chunk e es ≡ true) ×
        (chunks_in_parts following es ≡ true) = and_parts ((depth == 0) && is_chunk e es)
        (chunks_in_parts following es) h in
        (chunk-data e es (and_parts (depth == 0) (is_chunk e es) both.0).1, (following, both.1))
    go false false h =
        (refl, (following, (and_parts (may_be_in_part e.kind e.name) (chunks_in_parts following es) h).1))

-- all events that are read later are called `Data`
pub chunks-data : (depth : ℕ) (events : List Event) → chunks_in_parts depth events ≡ true →
    list_all (is_called is_data) events ≡ true
chunks-data depth [] h = refl
chunks-data zero (e ∷ es) h =
    let following : ℕ = cond (is_part e.name && not (is_exit e.kind)) 1 0 in
    let both : (not (is_linked e) ≡ true) ×
    (chunks_in_parts following es ≡ true) = and_parts (not (is_linked e)) (chunks_in_parts following es) h in
    and_from (is_called is_data e) (list_all (is_called is_data) es)
    (or_left (not (is_linked e)) (is_data e.name) both.0)
    (chunks-data following es both.1)
chunks-data (suc depth) (e ∷ es) h =
    let both : (is_called is_data e ≡ true) × ((following : ℕ) × (chunks_in_parts following es ≡ true)) =
    inside-data depth e es
    h in
    and_from (is_called is_data e) (list_all (is_called is_data) es) both.0 (chunks-data both.1.0 es both.1.1)

-- so they have the name of a piece
all-named : (events : List Event) → list_all (is_called is_data) events ≡ true → list_all is_named events ≡ true
all-named [] h = refl
all-named (e ∷ es) h =
    let both : (is_called is_data e ≡ true) × (list_all (is_called is_data) es ≡ true) = and_parts (is_called is_data e)
    (list_all (is_called is_data) es) h in
    and_from (is_named e) (list_all is_named es) (go (is_linked e) both.0) (all-named es both.1)
  where
    go : (linked : Bool) → (not linked || is_data e.name) ≡ true → (not linked || is_piece_name e.name) ≡ true
    go true h = data-named e.name h
    go false h = refl

pub chunks-named : (depth : ℕ) (events : List Event) → chunks_in_parts depth events ≡ true →
    list_all is_named events ≡ true
chunks-named depth events h = all-named events (chunks-data depth events h)

-- So every byte of a text is in a piece of its block list.
pub blocks-held : (bytes : List ℕ) (blocks : List Event) → Covers first_point (pieces blocks) (end_point bytes) →
    are_valid_pieces bytes (pieces blocks) ≡ true → chunks_in_parts 0 blocks ≡ true →
    (index : ℕ) → index < length bytes →
    Holds bytes (pieces blocks) index
blocks-held bytes blocks covers are_valid chunks = bytes-held bytes blocks covers are_valid
    (chunks-named 0 blocks chunks)
