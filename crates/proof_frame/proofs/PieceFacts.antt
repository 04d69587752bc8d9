-- Pieces that are over their bytes, and events all of whose pieces do.
use Rattle.std.proofs.Common.{◌≡◌, ℕ, ◌+◌, ◌<◌, Bool, true, false, cond, ◌&&◌, ◌||◌, List, [], ◌∷◌, ◌++◌, length, drop}
use Rattle.std.proofs.Common.{slice_range, refl, ap, ◌∙◌, arith}
use Rattle.std.specs.Prelude.{◌==◌, not}
use Rattle.std.proofs.lemmas.Bool.{and_from, or_right}
use Rattle.std.proofs.lemmas.List.Folds.{list_all-append}
use Rattle.md_engine.specs.declared.event.Event.{Event}
use Rattle.md_engine.specs.declared.event.Kind.TheVariants.{Enter, Exit}
use Rattle.md_engine.specs.declared.event.Name.{Name}
use Rattle.md_engine.specs.declared.event.Point.{Point}
use Rattle.md_events.specs.Events.Inline.{Piece, is_one_line, pair_unless_empty, pieces}
use Rattle.md_events.specs.Events.Nested.{around, exit, pair}
use Rattle.md_events.specs.Events.Pieces.{begins_in_tab, ends_in_tab, is_valid_piece, are_valid_pieces, may_cover}
use Rattle.md_events.specs.Events.Places.{past_byte, past_text, same_place}
use Rattle.md_meaning.specs.Texts.{split_lines}
use Rattle.md_events.proofs.FeedLines.{past_text-whole, slice-front}
use Rattle.md_events.proofs.InlineLemmas.{past-index}
use Rattle.md_events.proofs.PlacesLemmas.{apart-later}
use Rattle.proof_frame.proofs.PiecesLemmas.{Ends, ends-append, ends-exit, pieces-around, pieces-ended}

-- Bytes between two points.

-- these bytes are from a point to another one, and no tab is cut after them
pub record Over (bytes : List ℕ) (p q : Point) (text : List ℕ) : Type 0 where
  pub some : p.index < q.index
  pub whole : q.vs ≡ 0
  pub slice : slice_range bytes p.index q.index ≡ text

-- a tab that is cut at a point is the first of these bytes
abbrev pub CutsFirst : Point → List ℕ → Type 0
CutsFirst p [] = Unit {0}
CutsFirst p (b ∷ bs) = ((p.vs == 0) || (b == 9)) ≡ true

-- none is where a byte begins
pub whole-first : (p : Point) (bs : List ℕ) → p.vs ≡ 0 → CutsFirst p bs
whole-first p [] e = tt
whole-first p (b ∷ bs) e = ap (λ (x : ℕ). (x == 0) || (b == 9)) e

-- bytes of a line, after a point
pub over-front : (bytes : List ℕ) (p q : Point) (text rest : List ℕ) → drop p.index bytes ≡ text ++ rest →
    0 < length text → q ≡ past_text text p → Over bytes p q text
over-front bytes p q [] rest e some end = absurd (omega (arith, some))
over-front bytes p q (b ∷ text) rest e some end =
    let index : q.index ≡ p.index + length (b ∷ text) = ap (λ (r : Point). r.index) end ∙ past-index (b ∷ text) p in
    record {
      some = omega arith;
      whole = ap (λ (r : Point). r.vs) end ∙ past_text-whole text (past_byte b p) refl;
      slice = slice-front bytes p.index q.index (b ∷ text) rest e index;
    }

-- One piece.

-- a piece, and one that is read later
abbrev pub span : Name → Point → Point → Piece
span name p q = record { name = name; linked = false; first = p; after = q }

abbrev pub chunk_span : Name → Point → Point → Piece
chunk_span name p q = record { name = name; linked = true; first = p; after = q }

-- all four hold
all-four : (a b c d : Bool) → a ≡ true → b ≡ true → c ≡ true → d ≡ true → (a && b && c && d) ≡ true
all-four a b c d h i j k = and_from (a && b && c) d (and_from (a && b) c (and_from a b h i) j) k

-- a piece that is not empty, over what its name says
pub piece-valid : (bytes : List ℕ) (name : Name) (p q : Point) → same_place p q ≡ false →
    ((p.vs == 0) || begins_in_tab name) ≡ true → ((q.vs == 0) || ends_in_tab name) ≡ true →
    may_cover name (slice_range bytes p.index q.index) ≡ true → is_valid_piece bytes (span name p q) ≡ true
piece-valid bytes name p q apart begins ends over =
    all-four (not (same_place p q)) ((p.vs == 0) || begins_in_tab name) ((q.vs == 0) || ends_in_tab name)
    (may_cover name (slice_range bytes p.index q.index)) (ap not apart) begins ends over

-- what ends between two bytes
ends-whole : (name : Name) (q : Point) → q.vs ≡ 0 → ((q.vs == 0) || ends_in_tab name) ≡ true
ends-whole name q e = ap (λ (x : ℕ). (x == 0) || ends_in_tab name) e

-- what begins between two bytes
pub begins-whole : (name : Name) (p : Point) → p.vs ≡ 0 → ((p.vs == 0) || begins_in_tab name) ≡ true
begins-whole name p e = ap (λ (x : ℕ). (x == 0) || begins_in_tab name) e

-- what may begin within a tab
pub begins-cut : (name : Name) (p : Point) → begins_in_tab name ≡ true → ((p.vs == 0) || begins_in_tab name) ≡ true
begins-cut name p e = or_right (p.vs == 0) (begins_in_tab name) e

-- one between two bytes, or from within a tab
pub over-valid : (bytes : List ℕ) (name : Name) (p q : Point) (text : List ℕ) → Over bytes p q text →
    ((p.vs == 0) || begins_in_tab name) ≡ true → may_cover name text ≡ true →
    is_valid_piece bytes (span name p q) ≡ true
over-valid bytes name p q text over begins is =
    piece-valid bytes name p q (apart-later p q over.some) begins (ends-whole name q over.whole)
    (ap (may_cover name) over.slice ∙ is)

-- a chunk that is one line, with its ending or not
pub chunk-valid : (bytes : List ℕ) (name : Name) (p q : Point) (text : List ℕ) → Over bytes p q text →
    begins_in_tab name ≡ true → is_one_line (split_lines text) true ≡ true →
    is_valid_piece bytes (chunk_span name p q) ≡ true
chunk-valid bytes name p q text over begins is =
    all-four (not (same_place p q)) ((p.vs == 0) || begins_in_tab name) ((q.vs == 0) || ends_in_tab name)
    (is_one_line (split_lines (slice_range bytes p.index q.index)) true)
    (ap not (apart-later p q over.some)) (begins-cut name p begins) (ends-whole name q over.whole)
    (ap (λ (l : List ℕ). is_one_line (split_lines l) true) over.slice ∙ is)

-- Events.

-- events that begin with an enter
abbrev pub Starts : List Event → Type 0
Starts [] = ⊥
Starts (e ∷ es) = e.kind ≡ Enter

-- more may be after them
pub starts-append : (xs ys : List Event) → Starts xs → Starts (xs ++ ys)
starts-append [] ys h = absurd h
starts-append (e ∷ xs) ys h = h

-- pieces one after the other
pub pieces-both : (bytes : List ℕ) (xs ys : List Piece) → are_valid_pieces bytes xs ≡ true →
    are_valid_pieces bytes ys ≡ true →
    are_valid_pieces bytes (xs ++ ys) ≡ true
pieces-both bytes xs ys h k =
    list_all-append (is_valid_piece bytes) xs ys ∙ and_from (are_valid_pieces bytes xs) (are_valid_pieces bytes ys) h k

-- Events all of whose pieces are, and which make no pair with an event after them.
pub record PiecesValid (bytes : List ℕ) (es : List Event) : Type 0 where
  pub ends : Ends Exit es
  pub are_valid : are_valid_pieces bytes (pieces es) ≡ true

-- none
pub is_valid-none : (bytes : List ℕ) → PiecesValid bytes []
is_valid-none bytes = record { ends = refl; are_valid = refl }

-- some, and others after them
pub is_valid-append : (bytes : List ℕ) (xs ys : List Event) → PiecesValid bytes xs → PiecesValid bytes ys →
    PiecesValid bytes (xs ++ ys)
is_valid-append bytes xs ys h k = record {
  ends = ends-append Exit xs ys h.ends k.ends;
  are_valid =
      ap (are_valid_pieces bytes) (pieces-ended xs ys h.ends) ∙ pieces-both bytes (pieces xs)
      (pieces ys) h.are_valid k.are_valid;
}

-- a pair
pub is_valid-pair : (bytes : List ℕ) (name : Name) (p q : Point) → is_valid_piece bytes (span name p q) ≡ true →
    PiecesValid bytes (pair name p q)
is_valid-pair bytes name p q h = record {
  ends = refl;
  are_valid =
      and_from (is_valid_piece bytes (span name p q)) true h refl;
}

-- a pair that is left out if it is empty
pub is_valid-unless_empty : (bytes : List ℕ) (name : Name) (p q : Point) →
    (same_place p q ≡ false → is_valid_piece bytes (span name p q) ≡ true) →
    PiecesValid bytes (pair_unless_empty name p q)
is_valid-unless_empty bytes name p q h = go (same_place p q) refl
  where
    go : (none : Bool) → same_place p q ≡ none → PiecesValid bytes (cond none [] (pair name p q))
    go true e = is_valid-none bytes
    go false e = is_valid-pair bytes name p q (h e)

-- an exit alone
pub is_valid-exit : (bytes : List ℕ) (name : Name) (p : Point) → PiecesValid bytes (exit name p ∷ [])
is_valid-exit bytes name p = record { ends = refl; are_valid = refl }

-- a part around events that begin with an enter
pub is_valid-around : (bytes : List ℕ) (name : Name) (p q : Point) (es : List Event) → Starts es →
    PiecesValid bytes es →
    PiecesValid bytes (around name p q es)
is_valid-around bytes name p q [] starts h = absurd starts
is_valid-around bytes name p q (e ∷ es) starts h = record {
  ends = ends-exit Enter (e ∷ es) (exit name q) refl;
  are_valid = ap (are_valid_pieces bytes) (pieces-around name p q e es starts h.ends) ∙ h.are_valid;
}
