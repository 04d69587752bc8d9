-- A block list whose text parts are read as lines nests as it did, and its innermost pairs lie side by side where they
-- did.
use Rattle.std.proofs.Common.{◌≡◌, ◌⊎◌, inl, inr, ◌<◌, ℕ, Bool, true, false, cond, ◌&&◌, List, [], ◌∷◌, ◌++◌}
use Rattle.std.proofs.Common.{length, refl, ap, sym, ◌∙◌, subst, arith}
use Rattle.std.specs.Prelude.{not, ◌||◌, ◌==◌, IsTrue, Some}
use Rattle.std.proofs.lemmas.Bool.{and_parts, eqb-true, not-true}
use Rattle.md_engine.specs.declared.event.Content.{Content}
use Rattle.md_engine.specs.declared.event.Event.{Event}
use Rattle.md_engine.specs.declared.event.Kind.{Kind}
use Rattle.md_engine.specs.declared.event.Kind.TheVariants.{Enter, Exit}
use Rattle.md_engine.specs.declared.event.Name.{Name}
use Rattle.md_engine.specs.declared.event.Name.TheVariants as n
use Rattle.md_engine.specs.declared.event.Point.{Point}
use Rattle.md_events.specs.declared.inline.Chunk.{Chunk}
use Rattle.md_events.specs.Events.Inline.{Covers, Part, Piece, is_linked, is_one_line, line_end, piece_of, pieces}
use Rattle.md_events.specs.Events.Inline.{pieces_from, plain_chunk}
use Rattle.md_events.specs.Events.Nested.{Forward, Matches, enter, exit, last_point, open_after, open_following}
use Rattle.md_events.specs.Events.Nested.{pair}
use Rattle.md_events.specs.Events.Pieces.{are_valid_pieces, begins_in_tab, ends_in_tab, is_valid_piece, may_cover}
use Rattle.md_events.specs.Events.Pieces.{piece_text}
use Rattle.md_events.specs.Events.Places.{first_point, same_place}
use Rattle.md_events.specs.Events.Tiles.{IsBlockList, parts}
use Rattle.md_events.specs.Lined.{EachLine, lined}
use Rattle.md_events.specs.Parts.{ArePlaced}
use Rattle.md_events.specs.Substituted.{chunk_of, wanted}
use Rattle.md_events.specs.TextPart.{wants_text}
use Rattle.md_events.proofs.InlineLemmas.{same-refl, same-trans}
use Rattle.md_events.proofs.LinedLemmas.{lined-placed}
use Rattle.md_events.proofs.NestedLemmas.{forward-append, forward-from, matches-before, open_after-before}
use Rattle.md_events.proofs.PartWalks.{Begins, Ends, IsContinued, IsLinkedChunk, Stays, Walk, unlinked-unwanted}
use Rattle.md_events.proofs.PartWalks.{walk-blocks}
use Rattle.md_events.proofs.ReachedLemmas.{events-placed}
use Rattle.md_meaning.specs.Texts.{split_lines}
use Rattle.proof_frame.proofs.SpanLemmas.{Spans, chunk-balanced, chunk-forward, spans-from}
use Rattle.markdown_blocks.specs.PartRead.{AreLaid}
use Rattle.markdown_blocks.proofs.PartLined.{LinedBy, lined-one}

-- the lines of a chunk, and then what is after it
lined-chunk : (bytes : List ℕ) (e f : Event) (es : List Event) (held : Content) → wanted wants_text e ≡ Some held →
    lined wants_text bytes (e ∷ f ∷ es) ≡ plain_chunk bytes (chunk_of e f) ++ lined wants_text bytes es
lined-chunk bytes e f es held holds = ap (LinedBy wants_text bytes e f es) holds

lined-stays : (bytes : List ℕ) (e : Event) (es : List Event) → is_linked e ≡ false →
    lined wants_text bytes (e ∷ es) ≡ e ∷ lined wants_text bytes es
lined-stays bytes e es unlinked = lined-one wants_text bytes e es (unlinked-unwanted wants_text e unlinked)

-- Brackets.

-- an enter and an exit leave open what is open
pair-matches : (k l : Kind) (a b : Name) (names : List Name) (es : List Event) → k ≡ Enter → l ≡ Exit →
    Matches (open_following (open_following names k a) l b) es → Matches names es
pair-matches Enter Exit a b names es h j m = m
pair-matches Enter Enter a b names es h j m = absurd (cc)
pair-matches Exit l a b names es h j m = absurd (cc)

pair-open : (k l : Kind) (a b : Name) (names : List Name) (es : List Event) → k ≡ Enter → l ≡ Exit →
    open_after (open_following (open_following names k a) l b) es ≡ open_after names es
pair-open Enter Exit a b names es h j = refl
pair-open Enter Enter a b names es h j = absurd (cc)
pair-open Exit l a b names es h j = absurd (cc)

-- under open names, the events match as they did, and leave as many open
abbrev Nest : List ℕ → List Event → Type 0
Nest bytes es =
    (names : List Name) → Matches names es →
    Matches names (lined wants_text bytes es) × (open_after names (lined wants_text bytes es) ≡ open_after names es)

chunk-nests : (bytes : List ℕ) (e f : Event) (es : List Event) (left : List Chunk) (held : Content) →
    IsLinkedChunk e f es left held → Nest bytes es → Nest bytes (e ∷ f ∷ es)
chunk-nests bytes e f es left held is on names m =
    let chunk : Chunk = chunk_of e f in
    let below = on names (pair-matches e.kind f.kind e.name f.name names es is.enters is.exits m.1.1) in
    subst (λ (l : List Event). Matches names l × (open_after names l ≡ open_after names (e ∷ f ∷ es)))
    (sym (lined-chunk bytes e f es held is.holds)) (
      matches-before names (plain_chunk bytes chunk) (lined wants_text bytes es) (chunk-balanced bytes chunk) below.0,
      open_after-before names (plain_chunk bytes chunk) (lined wants_text bytes es) (chunk-balanced bytes chunk)
          ∙ below.1 ∙ sym (pair-open e.kind f.kind e.name f.name names es is.enters is.exits),
    )

nest-walk : (bytes : List ℕ) {left : List Chunk} {es : List Event} {parts : List Part} → Walk left es parts →
    Nest bytes es
nest-walk bytes Ends = λ names m. (tt, refl)
nest-walk bytes (Stays {e = e} {es = es} unlinked outer walk) =
    λ names m.
    let below = nest-walk bytes walk (open_following names e.kind e.name) m.1 in
    subst (λ (l : List Event). Matches names l × (open_after names l ≡ open_after names (e ∷ es)))
    (sym (lined-stays bytes e es unlinked)) ((m.0, below.0), below.1)
nest-walk bytes (Begins {e = e} {f = f} {es = es} {left = left} {held = held} is listed walk) =
    chunk-nests bytes e f es left held is (nest-walk bytes walk)
nest-walk bytes (IsContinued {e = e} {f = f} {es = es} {left = left} {held = held} is walk) =
    chunk-nests bytes e f es left held is (nest-walk bytes walk)

-- Points.

abbrev Goes : List ℕ → List Event → Type 0
Goes bytes es = (p : Point) → Forward p es → Forward p (lined wants_text bytes es)

chunk-goes : (bytes : List ℕ) (e f : Event) (es : List Event) (held : Content) → wanted wants_text e ≡ Some held →
    Goes bytes es → Goes bytes (e ∷ f ∷ es)
chunk-goes bytes e f es held holds on p forward =
    let chunk : Chunk = chunk_of e f in
    let spans : Spans p f.point (plain_chunk bytes chunk) = spans-from p e.point f.point (plain_chunk bytes chunk)
    forward.0 (chunk-forward bytes chunk forward.1.0) in
    subst (Forward p) (sym (lined-chunk bytes e f es held holds))
    (forward-append p (plain_chunk bytes chunk) (lined wants_text bytes es) spans.0
    (forward-from (last_point p (plain_chunk bytes chunk)) f.point (lined wants_text bytes es) spans.1
    (on f.point forward.1.1)))

go-walk : (bytes : List ℕ) {left : List Chunk} {es : List Event} {parts : List Part} → Walk left es parts →
    Goes bytes es
go-walk bytes Ends = λ p forward. tt
go-walk bytes (Stays {e = e} {es = es} unlinked outer walk) =
    λ p forward.
    subst (Forward p) (sym (lined-stays bytes e es unlinked)) (forward.0, go-walk bytes walk e.point forward.1)
go-walk bytes (Begins {e = e} {f = f} {es = es} {held = held} is listed walk) =
    chunk-goes bytes e f es held is.holds (go-walk bytes walk)
go-walk bytes (IsContinued {e = e} {f = f} {es = es} {held = held} is walk) =
    chunk-goes bytes e f es held is.holds (go-walk bytes walk)

-- Innermost pairs.

pub covers-from : (p q r : Point) (list : List Piece) → same_place p q ≡ true → Covers q list r → Covers p list r
covers-from p q r [] h covers = same-trans p q r h covers
covers-from p q r (piece ∷ list) h covers = (same-trans p q piece.first h covers.0, covers.1)

pub covers-to : (p q r : Point) (list : List Piece) → Covers p list q → same_place q r ≡ true → Covers p list r
covers-to p q r [] covers h = same-trans p q r covers h
covers-to p q r (piece ∷ list) covers h = (covers.0, covers-to piece.after q r list covers.1 h)

-- where they go from one byte to another, there are some
pub some-events : (p q : Point) (es : List Event) → Covers p (pieces es) q → p.index < q.index → 0 < length es
some-events p q [] covers before =
    let same = eqb-true p.index q.index (and_parts (p.index == q.index) (p.vs == q.vs) covers).0 in
    absurd (omega (arith, same, before))
some-events p q (e ∷ es) covers before = omega arith

-- after an event and what is in its place: they are the same, or both end something
abbrev At : Event → Event → Type 0
At b c = (b ≡ c) ⊎ ((b.kind ≡ Exit) × (c.kind ≡ Exit))

abbrev Cover : List ℕ → List Event → Type 0
Cover bytes es =
    (b c : Event) (from to : Point) → At b c → are_valid_pieces bytes (pieces_from b es) ≡ true →
    Covers from (pieces_from b es) to → Covers from (pieces_from c (lined wants_text bytes es)) to

-- what follows an event may change, where it is covered as before
piece-kept : (bytes : List ℕ) (b e : Event) (kind other : Kind) (from to : Point) (xs ys : List Piece) →
    are_valid_pieces bytes (piece_of b e kind other ++ xs) ≡ true → Covers from (piece_of b e kind other ++ xs) to →
    ((o : Point) → are_valid_pieces bytes xs ≡ true → Covers o xs to → Covers o ys to) →
    Covers from (piece_of b e kind other ++ ys) to
piece-kept bytes b e Enter Exit from to xs ys are_valid covers next = (
  covers.0,
  next e.point (and_parts (is_valid_piece bytes (record {
    name = b.name;
    linked = is_linked b;
    first = b.point;
    after = e.point;
  })) (are_valid_pieces bytes xs) are_valid).1 covers.1,
)
piece-kept bytes b e Enter Enter from to xs ys are_valid covers next = next from are_valid covers
piece-kept bytes b e Exit other from to xs ys are_valid covers next = next from are_valid covers

stays-cover : (bytes : List ℕ) (e : Event) (es : List Event) → is_linked e ≡ false → Cover bytes es →
    Cover bytes (e ∷ es)
stays-cover bytes e es unlinked cover b c from to at are_valid covers =
    subst (λ (l : List Event). Covers from (pieces_from c l) to) (sym (lined-stays bytes e es unlinked)) (go at)
  where
    rest : List Event
    rest = lined wants_text bytes es

    go : At b c → Covers from (piece_of c e c.kind e.kind ++ pieces_from e rest) to
    go (inl same) =
        subst (λ (d : Event). Covers from (piece_of d e d.kind e.kind ++ pieces_from e rest) to) same
        (piece-kept bytes b e b.kind e.kind from to (pieces_from e es) (pieces_from e rest) are_valid covers
        (λ o valid covers. cover e e o to (inl refl) valid covers))
    go (inr exits) =
        subst (λ (k : Kind). Covers from (piece_of c e k e.kind ++ pieces_from e rest) to) (sym exits.1)
        (cover e e from to (inl refl)
        (subst (λ (k : Kind). are_valid_pieces bytes (piece_of b e k e.kind ++ pieces_from e es) ≡ true) exits.0
        are_valid)
        (subst (λ (k : Kind). Covers from (piece_of b e k e.kind ++ pieces_from e es) to) exits.0 covers))

-- a chunk is a piece
chunk-piece : (b e f : Event) (es : List Event) → e.kind ≡ Enter → f.kind ≡ Exit →
    pieces_from b (e ∷ f ∷ es) ≡
    (record { name = e.name; linked = is_linked e; first = e.point; after = f.point }) ∷ pieces_from f es
chunk-piece b e f es enters exits =
    ap (λ (kind : Kind). piece_of b e b.kind kind ++ (piece_of e f kind f.kind ++ pieces_from f es)) enters
    ∙ ap (λ (kind : Kind). piece_of b e b.kind Enter ++ (piece_of e f Enter kind ++ pieces_from f es)) exits
    ∙ ap
    (λ (list : List Piece).
    list ++ (record { name = e.name; linked = is_linked e; first = e.point; after = f.point }) ∷ pieces_from f es)
    (none b.kind)
  where
    none : (kind : Kind) → piece_of b e kind Enter ≡ []
    none Enter = refl
    none Exit = refl

-- and it is not empty
piece-apart : (bytes : List ℕ) (piece : Piece) → is_valid_piece bytes piece ≡ true →
    same_place piece.first piece.after ≡ false
piece-apart bytes piece h =
    let kinds : (not (same_place piece.first piece.after) && ((piece.first.vs == 0) || begins_in_tab piece.name)
    && ((piece.after.vs == 0) || ends_in_tab piece.name) ≡
    true) ×
    (cond piece.linked (is_one_line (split_lines (piece_text bytes piece)) true)
    (may_cover piece.name (piece_text bytes piece)) ≡
    true) =
    and_parts (not (same_place piece.first piece.after) && ((piece.first.vs == 0) || begins_in_tab piece.name)
    && ((piece.after.vs == 0) || ends_in_tab piece.name))
    (cond piece.linked (is_one_line (split_lines (piece_text bytes piece)) true)
    (may_cover piece.name (piece_text bytes piece))) h in
    let points : (not (same_place piece.first piece.after) && ((piece.first.vs == 0) || begins_in_tab piece.name) ≡
    true) ×
    ((piece.after.vs == 0) || ends_in_tab piece.name ≡ true) =
    and_parts (not (same_place piece.first piece.after) && ((piece.first.vs == 0) || begins_in_tab piece.name))
    ((piece.after.vs == 0) || ends_in_tab piece.name) kinds.0 in
    not-true (same_place piece.first piece.after)
    (and_parts (not (same_place piece.first piece.after))
    ((piece.first.vs == 0) || begins_in_tab piece.name) points.0).0

-- a pair after an event
pair-pieces : (c : Event) (name : Name) (p q : Point) (es : List Event) →
    pieces_from c (enter name p ∷ exit name q ∷ es)
    ≡ (record { name = name; linked = false; first = p; after = q }) ∷ pieces_from (exit name q) es
pair-pieces c name p q es =
    chunk-piece c (enter name p) (exit name q) es refl refl

-- the line of a chunk and its ending, where one of them is not empty
lines-cover : (c : Event) (p m q from to : Point) (rest : List Event) (x y : Bool) → same_place p m ≡ x →
    same_place m q ≡ y → same_place p q ≡ false → same_place from p ≡ true →
    ((d : Event) (o : Point) → d.kind ≡ Exit → same_place o q ≡ true → Covers o (pieces_from d rest) to) →
    Covers from (pieces_from c ((cond x [] (pair n.Data p m) ++ cond y [] (pair n.LineEnding m q)) ++ rest)) to
lines-cover c p m q from to rest true true first last apart starts next =
    let no : false ≡ true = sym apart ∙ same-trans p m q first last in absurd (cc)
lines-cover c p m q from to rest true false first last apart starts next =
    subst (λ (l : List Piece). Covers from l to) (sym (pair-pieces c n.LineEnding m q rest))
    (same-trans from p m starts first, next (exit n.LineEnding q) q refl (same-refl q))
lines-cover c p m q from to rest false true first last apart starts next =
    subst (λ (l : List Piece). Covers from l to) (sym (pair-pieces c n.Data p m rest))
    (starts, next (exit n.Data m) m refl last)
lines-cover c p m q from to rest false false first last apart starts next =
    subst (λ (l : List Piece). Covers from l to)
    (sym
    (pair-pieces c n.Data p m (pair n.LineEnding m q ++ rest)
    ∙ ap
    (λ (l : List Piece). (record { name = n.Data; linked = false; first = p; after = m }) ∷ l)
    (pair-pieces (exit n.Data m) n.LineEnding m q rest)))
    (starts, (same-refl m, next (exit n.LineEnding q) q refl (same-refl q)))

chunk-cover : (bytes : List ℕ) (e f : Event) (es : List Event) (left : List Chunk) (held : Content) →
    IsLinkedChunk e f es left held → Cover bytes es → Cover bytes (e ∷ f ∷ es)
chunk-cover bytes e f es left held is cover b c from to at are_valid covers =
    subst (λ (l : List Event). Covers from (pieces_from c l) to) (sym (lined-chunk bytes e f es held is.holds))
    (lines-cover c e.point (line_end bytes (chunk_of e f)) f.point from to (lined wants_text bytes es)
    (same_place e.point (line_end bytes (chunk_of e f))) (same_place (line_end bytes (chunk_of e f)) f.point) refl refl
    (piece-apart bytes piece valid.0) covered.0
    (λ d o exits same.
    covers-from o f.point to (pieces_from d (lined wants_text bytes es)) same
    (cover f d f.point to (inr (is.exits, exits)) valid.1 covered.1)))
  where
    piece : Piece
    piece = record { name = e.name; linked = is_linked e; first = e.point; after = f.point }

    valid : (is_valid_piece bytes piece ≡ true) × (are_valid_pieces bytes (pieces_from f es) ≡ true)
    valid =
        and_parts (is_valid_piece bytes piece) (are_valid_pieces bytes (pieces_from f es))
        (subst (λ (list : List Piece). are_valid_pieces bytes list ≡ true)
        (chunk-piece b e f es is.enters is.exits) are_valid)

    covered : IsTrue (same_place from e.point) × Covers f.point (pieces_from f es) to
    covered = subst (λ (list : List Piece). Covers from list to) (chunk-piece b e f es is.enters is.exits) covers

cover-walk : (bytes : List ℕ) {left : List Chunk} {es : List Event} {parts : List Part} → Walk left es parts →
    Cover bytes es
cover-walk bytes Ends = λ b c from to at are_valid covers. covers
cover-walk bytes (Stays {e = e} {es = es} unlinked outer walk) =
    stays-cover bytes e es unlinked (cover-walk bytes walk)
cover-walk bytes (Begins {e = e} {f = f} {es = es} {left = left} {held = held} is listed walk) =
    chunk-cover bytes e f es left held is (cover-walk bytes walk)
cover-walk bytes (IsContinued {e = e} {f = f} {es = es} {left = left} {held = held} is walk) =
    chunk-cover bytes e f es left held is (cover-walk bytes walk)

-- Block lists.

-- an exit before events makes no pair with the first
pub pieces-following : (name : Name) (p : Point) (es : List Event) → pieces_from (exit name p) es ≡ pieces es
pieces-following name p [] = refl
pieces-following name p (e ∷ es) = refl

pub lined-laid : (bytes : List ℕ) (p q : Point) (blocks : List Event) → IsBlockList bytes blocks →
    Covers p (pieces blocks) q → ArePlaced bytes blocks → EachLine wants_text bytes blocks →
    AreLaid bytes p (lined wants_text bytes blocks) q
lined-laid bytes p q blocks list covers placed each =
    let nest = nest-walk bytes walk [] list.nested.balanced.matches in
    record {
      nested = record {
        balanced = record { matches = nest.0; closed = nest.1 ∙ list.nested.balanced.closed };
        forward = go-walk bytes walk first_point list.nested.forward;
      };
      placed =
          events-placed bytes (lined wants_text bytes blocks) (lined-placed wants_text bytes blocks placed each);
      covers =
          subst (λ (l : List Piece). Covers p l q) (pieces-following n.Data p (lined wants_text bytes blocks))
          (cover-walk bytes walk before before p q (inl refl)
          (subst (λ (l : List Piece). are_valid_pieces bytes l ≡ true) (sym (pieces-following n.Data p blocks))
          list.pieces_are)
          (subst (λ (l : List Piece). Covers p l q) (sym (pieces-following n.Data p blocks)) covers));
    }
  where
    walk : Walk [] blocks (parts blocks)
    walk = walk-blocks bytes blocks list

    before : Event
    before = exit n.Data p
