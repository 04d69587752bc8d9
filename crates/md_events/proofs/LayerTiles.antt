-- Documents whose text parts are read by any inline layer that keeps the promise of all layers: their events tile them.
--
-- What the layer answers for a part is cut into what is in the place of each chunk. Each of these lists covers its
-- chunk with its innermost pairs, and so the innermost pairs of all events lie side by side. Where a list ends with an
-- enter and the next begins with an exit, as where a link goes over a line's end, they are one more pair, of no width.
use Rattle.std.proofs.Common.{◌≡◌, ℕ, suc, Bool, true, false, cond, ◌&&◌, List, [], ◌∷◌, ◌++◌}
use Rattle.std.proofs.Common.{length, take, drop, refl, ap, sym, ◌∙◌, subst, arith}
use Rattle.std.specs.Prelude.{None, not, ◌||◌, ◌==◌, IsTrue}
use Rattle.std.proofs.lemmas.Bool.{and_parts, not-true}
use Rattle.std.proofs.lemmas.Bool.Decides.{nat_tests}
use Rattle.md_engine.specs.declared.event.Content.{Content}
use Rattle.md_engine.specs.declared.event.Event.{Event}
use Rattle.md_engine.specs.declared.event.Kind.{Kind}
use Rattle.md_engine.specs.declared.event.Kind.TheVariants.{Enter, Exit}
use Rattle.md_engine.specs.declared.event.Name.{Name}
use Rattle.md_engine.specs.declared.event.Name.TheVariants as n
use Rattle.md_engine.specs.declared.event.Point.{Point}
use Rattle.md_events.specs.declared.inline.Chunk.{Chunk}
use Rattle.md_meaning.specs.Texts.{split_lines}
use Rattle.md_events.specs.Substituted.{Substituted, chunk_of, share, wanted}
use Rattle.md_events.specs.TextPart.{text_kind, text_readings, wants_text}
use Rattle.md_events.specs.Events.Nested.{Balanced, Fits, Forward, exit, is_exit, last_point, open_after}
use Rattle.md_events.specs.Events.Nested.{open_following}
use Rattle.md_events.specs.Events.Places.{at_or_before, first_point, same_place}
use Rattle.md_events.specs.Events.Pieces.{begins_in_tab, ends_in_tab, is_valid_piece, piece_text, are_valid_pieces}
use Rattle.md_events.specs.Events.Pieces.{may_cover}
use Rattle.md_events.specs.Events.Inline.{Covers, Fills, IsPart, KeepsFrame, Part, Piece, cut_at, is_linked}
use Rattle.md_events.specs.Events.Inline.{is_one_line, piece_of, pieces, pieces_from, together}
use Rattle.md_events.specs.Events.Tiles.{EachRead, IsBlockList, Tiles, end_point, filled, filled_from, first_list}
use Rattle.md_events.specs.Events.Tiles.{further_lists, parts}
use Rattle.md_events.proofs.CutLemmas.{cut-together}
use Rattle.md_events.proofs.HeldLemmas.{same-before}
use Rattle.md_events.proofs.InlineLemmas.{same-trans}
use Rattle.md_events.proofs.NestedLemmas.{at_or_before-refl, at_or_before-trans}
use Rattle.md_events.proofs.NestsLemmas.{EachFills, fills-read, no_lists}
use Rattle.md_events.proofs.PartWalks.{IsLinkedChunk, Walk, Ends, Stays, Begins, IsContinued, starts_exit}
use Rattle.md_events.proofs.PartWalks.{starts_linked, unlinked-unwanted, walk-blocks}
use Rattle.md_events.proofs.PartsLemmas.{EachPart, parts-are}
use Rattle.md_events.proofs.SubstitutedLemmas.{SubstitutedBy}

-- What is in the places of chunks.

pub filled-unlinked : (e : Event) (es : List Event) (lists : List (List Event)) → is_linked e ≡ false →
    e ∷ filled_from false es lists ≡ filled_from false (e ∷ es) lists
filled-unlinked e es lists unlinked =
    ap
    (λ (x : Bool). cond x (first_list lists ++ filled_from true es (further_lists lists))
    (e ∷ filled_from false es lists))
    (sym unlinked)

pub filled-linked : (e f : Event) (es : List Event) (lists : List (List Event)) → is_linked e ≡ true →
    first_list lists ++ filled_from false es (further_lists lists) ≡ filled_from false (e ∷ f ∷ es) lists
filled-linked e f es lists linked =
    ap
    (λ (x : Bool).
    cond x (first_list lists ++ filled_from true (f ∷ es) (further_lists lists)) (e ∷ filled_from false (f ∷ es) lists))
    (sym linked)

-- An event that is last stays, and so does one that begins no chunk.
pub left-alone : (reads : Part → List Event → Type 0) (now : List Event) (chunks : ℕ) (e : Event)
    (es out : List Event) →
    wanted wants_text e ≡ None → Substituted wants_text (text_readings reads) now chunks (e ∷ es) out →
    (rest : List Event) × (is : out ≡ e ∷ rest) × Substituted wants_text (text_readings reads) now chunks es rest
left-alone reads now chunks e [] out none s = ([], s, refl)
left-alone reads now chunks e (f ∷ es) out none s =
    subst (SubstitutedBy wants_text (text_readings reads) now chunks e f es out) none s

-- The parts that are to come are read, part by part, and these lists are in the places of their chunks, after those of
-- the part that has begun.
abbrev Reads : (Part → List Event → Type 0) → List Part → List Chunk → List Event → List Event → List Event → Type 0
Reads reads parts left now es out =
    (lists : List (List (List Event))) × (each : EachRead reads parts lists)
    × (out ≡ filled_from false es (cut_at left now ++ together lists))

reads-walk : (bytes : List ℕ) (reads : Part → List Event → Type 0) → KeepsFrame bytes reads → {left : List Chunk}
    {es : List Event} {parts : List Part} → Walk left es parts → EachPart (IsPart bytes) parts →
    (now out : List Event) → Substituted wants_text (text_readings reads) now (length left) es out →
    Reads reads parts left now es out
reads-walk bytes reads frame Ends are now out s = ([], tt, s)
reads-walk bytes reads frame (Stays {e = e} {es = es} {left = left} {parts = parts} unlinked outer walk) are now out s =
    let next : (rest : List Event) × (is : out ≡ e ∷ rest) ×
    Substituted wants_text (text_readings reads) now (length left) es rest =
    left-alone reads now (length left) e es out (unlinked-unwanted wants_text e unlinked) s in
    let following : Reads reads parts left now es next.0 = reads-walk bytes reads frame walk are now next.0 next.2 in (
      following.0,
      following.1,
      next.1 ∙ ap (λ (list : List Event). e ∷ list) following.2
          ∙ filled-unlinked e es (cut_at left now ++ together following.0) unlinked,
    )
reads-walk bytes reads frame (Begins {e = e} {f = f} {es = es} {left = left} {parts = parts} {held = held} is
    listed walk) are now out s =
    let part : Part = record { kind = text_kind held; chunks = chunk_of e f ∷ left } in
    let next : (answer rest : List Event) × (read : reads part answer)
    × (is : out ≡ take (share (length left) answer f.point.index) answer ++ rest)
    × Substituted wants_text (text_readings reads) (drop (share (length left) answer f.point.index) answer)
    (length left) es rest =
    subst
    (λ (list : List Chunk).
    (answer rest : List Event) × (read : reads (record { kind = text_kind held; chunks = chunk_of e f ∷ list }) answer)
    × (is : out ≡ take (share (length list) answer f.point.index) answer ++ rest)
    × Substituted wants_text (text_readings reads) (drop (share (length list) answer f.point.index) answer)
    (length list) es rest) listed
    (subst (SubstitutedBy wants_text (text_readings reads) now 0 e f es out) is.holds s) in
    let answer : List Event = next.0 in
    let first : List Event = take (share (length left) answer f.point.index) answer in
    let now_on : List Event = drop (share (length left) answer f.point.index) answer in
    let following : Reads reads parts left now_on es next.1 =
    reads-walk bytes reads frame walk are.1 now_on next.1 next.4 in
    let lists : List (List Event) = cut_at part.chunks answer in (
      lists ∷ following.0,
      (
        (frame part answer are.0 next.2).fills,
        subst (reads part) (sym (cut-together part.chunks answer (omega arith))) next.2,
        following.1,
      ),
      next.3 ∙ ap (λ (list : List Event). first ++ list) following.2
          ∙ filled-linked e f es (lists ++ together following.0) is.linked,
    )
reads-walk bytes reads frame (IsContinued {e = e} {f = f} {es = es} {left = left} {parts = parts} {held = held} is
    walk) are now out s =
    let next : (rest : List Event) × (is : out ≡ take (share (length left) now f.point.index) now ++ rest)
    × Substituted wants_text (text_readings reads) (drop (share (length left) now f.point.index) now)
    (length left) es rest =
    subst (SubstitutedBy wants_text (text_readings reads) now (suc (length left)) e f es out) is.holds s in
    let first : List Event = take (share (length left) now f.point.index) now in
    let now_on : List Event = drop (share (length left) now f.point.index) now in
    let following : Reads reads parts left now_on es next.0 =
    reads-walk bytes reads frame walk are now_on next.0 next.2 in (
      following.0,
      following.1,
      next.1 ∙ ap (λ (list : List Event). first ++ list) following.2
          ∙ filled-linked e f es (cut_at (chunk_of e f ∷ left) now ++ together following.0) is.linked,
    )

-- A block list with what a layer reads in the places of the chunks of its text parts tiles the text.
pub substituted-tiles : (bytes : List ℕ) (reads : Part → List Event → Type 0) (blocks events : List Event) →
    KeepsFrame bytes reads → IsBlockList bytes blocks → Covers first_point (pieces blocks) (end_point bytes) →
    Substituted wants_text (text_readings reads) [] 0 blocks events → (bytes ≡ [] → events ≡ []) →
    (tiles : Tiles reads bytes events) × (tiles.blocks ≡ blocks)
substituted-tiles bytes reads blocks events frame list covers substituted empty =
    let read : Reads reads (parts blocks) [] [] blocks events =
    reads-walk bytes reads frame (walk-blocks bytes blocks list) (parts-are bytes blocks list) [] events
    substituted in (
      record {
        blocks = blocks;
        block_list = list;
        covers = covers;
        lists = read.0;
        each = read.1;
        read = read.2;
        empty = empty;
      },
      refl,
    )

-- Points.

place-before : (p q : Point) → same_place p q ≡ true → at_or_before q p ≡ true
place-before p q h = grind (arith, nat_tests)

both-before : (p q : Point) → at_or_before p q ≡ true → at_or_before q p ≡ true → same_place p q ≡ true
both-before p q h k = grind (arith, nat_tests)

-- Pieces that lie side by side.

covers-from : (p q r : Point) (list : List Piece) → same_place p q ≡ true → Covers q list r → Covers p list r
covers-from p q r [] h covers = same-trans p q r h covers
covers-from p q r (piece ∷ list) h covers = (same-trans p q piece.first h covers.0, covers.1)

-- the last of some events, the first of which is given
abbrev last_event : Event → List Event → Event
last_event e [] = e
last_event e (f ∷ es) = last_event f es

covers-append : (p q r : Point) (e : Event) (es more : List Event) → Covers p (pieces_from e es) q →
    Covers q (pieces_from (last_event e es) more) r → Covers p (pieces_from e (es ++ more)) r
covers-append p q r e [] more h k = covers-from p q r (pieces_from e more) h k
covers-append p q r e (f ∷ es) more h k = go p e.kind f.kind h (λ o h. covers-append o q r f es more h k)
  where
    go : (p : Point) (kind other : Kind) → Covers p (piece_of e f kind other ++ pieces_from f es) q →
        ((o : Point) → Covers o (pieces_from f es) q → Covers o (pieces_from f (es ++ more)) r) →
        Covers p (piece_of e f kind other ++ pieces_from f (es ++ more)) r
    go p Enter Exit h next = (h.0, next f.point h.1)
    go p Enter Enter h next = next p h
    go p Exit other h next = next p h

-- events that are covered to a point continue to it,
covers-last : (p q : Point) (e : Event) (es : List Event) → at_or_before p e.point ≡ true → Forward e.point es →
    Covers p (pieces_from e es) q → at_or_before q (last_point e.point es) ≡ true
covers-last p q e [] h forward covers = same-before p q e.point covers h
covers-last p q e (f ∷ es) h forward covers =
    go e.kind f.kind covers (λ o before covers. covers-last o q f es before forward.1 covers)
  where
    go : (kind other : Kind) → Covers p (piece_of e f kind other ++ pieces_from f es) q →
        ((o : Point) → at_or_before o f.point ≡ true → Covers o (pieces_from f es) q →
        at_or_before q (last_point f.point es) ≡ true) →
        at_or_before q (last_point f.point es) ≡ true
    go Enter Exit covers next = next f.point (at_or_before-refl f.point) covers.1
    go Enter Enter covers next = next p (at_or_before-trans p e.point f.point h forward.0) covers
    go Exit other covers next = next p (at_or_before-trans p e.point f.point h forward.0) covers

-- and begin where they are covered from, unless that is nothing
covers-first : (p q : Point) (e : Event) (es : List Event) → same_place p q ≡ false → Forward e.point es →
    Covers p (pieces_from e es) q → at_or_before e.point p ≡ true
covers-first p q e [] apart forward covers = let no : false ≡ true = sym apart ∙ covers in cc
covers-first p q e (f ∷ es) apart forward covers =
    go e.kind f.kind covers (λ covers. covers-first p q f es apart forward.1 covers)
  where
    go : (kind other : Kind) → Covers p (piece_of e f kind other ++ pieces_from f es) q →
        (Covers p (pieces_from f es) q → at_or_before f.point p ≡ true) → at_or_before e.point p ≡ true
    go Enter Exit covers next = place-before p e.point covers.0
    go Enter Enter covers next = at_or_before-trans e.point f.point p forward.0 (next covers)
    go Exit other covers next = at_or_before-trans e.point f.point p forward.0 (next covers)

last-point : (e : Event) (es : List Event) → (last_event e es).point ≡ last_point e.point es
last-point e [] = refl
last-point e (f ∷ es) = last-point f es

-- Where a part's events begin and end.

-- the kind of the last of some events, and this one of none
abbrev last_kind : Kind → List Event → Kind
last_kind kind [] = kind
last_kind kind (e ∷ es) = last_kind e.kind es

last_kind-append : (kind : Kind) (xs ys : List Event) → last_kind kind (xs ++ ys) ≡ last_kind (last_kind kind xs) ys
last_kind-append kind [] ys = refl
last_kind-append kind (e ∷ xs) ys = last_kind-append e.kind xs ys

last_kind-event : (e : Event) (es : List Event) → last_kind e.kind es ≡ (last_event e es).kind
last_kind-event e [] = refl
last_kind-event e (f ∷ es) = last_kind-event f es

last_kind-from : (kind : Kind) (es : List Event) → last_kind kind es ≡ Exit → last_kind Exit es ≡ Exit
last_kind-from kind [] h = refl
last_kind-from kind (e ∷ es) h = h

-- where nothing is open after some events, the last is an exit
closed-exit : (names : List Name) (es : List Event) → open_after names es ≡ [] → last_kind Exit es ≡ Exit
closed-exit names [] h = refl
closed-exit names (e ∷ es) h = go e.kind h (closed-exit (open_following names e.kind e.name) es h)
  where
    go : (kind : Kind) → open_after (open_following names kind e.name) es ≡ [] → last_kind Exit es ≡ Exit →
        last_kind kind es ≡ Exit
    go Exit h rest = rest
    go Enter h rest = by es h rest
      where
        by : (es : List Event) → open_after (e.name ∷ names) es ≡ [] → last_kind Exit es ≡ Exit →
            last_kind Enter es ≡ Exit
        by [] h rest = cc
        by (f ∷ es) h rest = rest

-- balanced events begin with an enter
balanced-enter : (e : Event) (es : List Event) → Balanced (e ∷ es) → e.kind ≡ Enter
balanced-enter e es balanced = go e.kind balanced.matches.0
  where
    go : (kind : Kind) → Fits [] kind e.name → kind ≡ Enter
    go Enter fits = refl
    go Exit fits = absurd fits

-- Event by event.

-- After an event of a block list, and after one of what is read, covered to a point: they are the same, or the first
-- ends a chunk. Where chunks are left, none is right inside of what begins there.
data At (b c : Event) (left : List Chunk) (es : List Event) (from : Point) : Type 0 where
  Same : b ≡ c → (c.kind ≡ Enter → starts_linked es ≡ true → left ≡ []) → At b c left es from
  Cut : b.kind ≡ Exit → same_place from c.point ≡ true → (starts_exit es ≡ true → c.kind ≡ Exit) → At b c left es from

abbrev Covering : List ℕ → List Chunk → List Event → List Part → Type 0
Covering bytes left es parts =
    (b c : Event) (from to : Point) (G : List (List Event)) (gs : List (List (List Event))) → Fills left G →
    last_kind Exit (together G) ≡ Exit → EachFills parts gs → are_valid_pieces bytes (pieces_from b es) ≡ true →
    Covers from (pieces_from b es) to → At b c left es from →
    Covers from (pieces_from c (filled_from false es (G ++ together gs))) to

-- what follows an event may change, where it is covered as before
piece-kept : (bytes : List ℕ) (b e : Event) (kind other : Kind) (from to : Point) (xs ys : List Piece) →
    are_valid_pieces bytes (piece_of b e kind other ++ xs) ≡ true → Covers from (piece_of b e kind other ++ xs) to →
    ((o : Point) → are_valid_pieces bytes xs ≡ true → Covers o xs to → Covers o ys to) →
    Covers from (piece_of b e kind other ++ ys) to
piece-kept bytes b e Enter Exit from to xs ys are_valid covers next = (
  covers.0,
  next e.point (and_parts (is_valid_piece bytes (record {
    name = b.name;
    linked = is_linked b;
    first = b.point;
    after = e.point;
  })) (are_valid_pieces bytes xs) are_valid).1 covers.1,
)
piece-kept bytes b e Enter Enter from to xs ys are_valid covers next = next from are_valid covers
piece-kept bytes b e Exit other from to xs ys are_valid covers next = next from are_valid covers

cover-stays : (bytes : List ℕ) (left : List Chunk) (e : Event) (es : List Event) (parts : List Part) →
    is_linked e ≡ false → (e.kind ≡ Enter → starts_linked es ≡ true → left ≡ []) → Covering bytes left es parts →
    Covering bytes left (e ∷ es) parts
cover-stays bytes left e es parts unlinked outer covering b c from to G gs fills last each are_valid covers at =
    subst (λ (list : List Event). Covers from (pieces_from c list) to)
    (filled-unlinked e es (G ++ together gs) unlinked) (go at)
  where
    rest : List Event
    rest = filled_from false es (G ++ together gs)

    next : (o : Point) → are_valid_pieces bytes (pieces_from e es) ≡ true → Covers o (pieces_from e es) to →
        Covers o (pieces_from e rest) to
    next o are_valid covers = covering e e o to G gs fills last each are_valid covers (Same refl outer)

    cut : (kind other : Kind) → (is_exit other ≡ true → kind ≡ Exit) → Covers from (pieces_from e rest) to →
        Covers from (piece_of c e kind other ++ pieces_from e rest) to
    cut Enter Exit ends covers = let no : Enter ≡ Exit = ends refl in cc
    cut Enter Enter ends covers = covers
    cut Exit other ends covers = covers

    go : At b c left (e ∷ es) from → Covers from (piece_of c e c.kind e.kind ++ pieces_from e rest) to
    go (Same same inner) =
        subst (λ (d : Event). Covers from (piece_of d e d.kind e.kind ++ pieces_from e rest) to) same
        (piece-kept bytes b e b.kind e.kind from to (pieces_from e es) (pieces_from e rest) are_valid covers next)
    go (Cut exits place ends) =
        cut c.kind e.kind ends
        (next from
        (subst
        (λ (kind : Kind). are_valid_pieces bytes (piece_of b e kind e.kind ++ pieces_from e es) ≡ true) exits are_valid)
        (subst (λ (kind : Kind). Covers from (piece_of b e kind e.kind ++ pieces_from e es) to) exits covers))

-- a chunk is a piece
chunk-piece : (b e f : Event) (es : List Event) → e.kind ≡ Enter → f.kind ≡ Exit →
    pieces_from b (e ∷ f ∷ es) ≡
    (record { name = e.name; linked = is_linked e; first = e.point; after = f.point }) ∷ pieces_from f es
chunk-piece b e f es enters exits =
    ap (λ (kind : Kind). piece_of b e b.kind kind ++ (piece_of e f kind f.kind ++ pieces_from f es)) enters
    ∙ ap (λ (kind : Kind). piece_of b e b.kind Enter ++ (piece_of e f Enter kind ++ pieces_from f es)) exits
    ∙ ap
    (λ (list : List Piece).
    list ++ (record { name = e.name; linked = is_linked e; first = e.point; after = f.point }) ∷ pieces_from f es)
    (none b.kind)
  where
    none : (kind : Kind) → piece_of b e kind Enter ≡ []
    none Enter = refl
    none Exit = refl

-- and it is not empty
piece-apart : (bytes : List ℕ) (piece : Piece) → is_valid_piece bytes piece ≡ true →
    same_place piece.first piece.after ≡ false
piece-apart bytes piece h =
    let kinds : (not (same_place piece.first piece.after) && ((piece.first.vs == 0) || begins_in_tab piece.name)
    && ((piece.after.vs == 0) || ends_in_tab piece.name) ≡
    true) ×
    (cond piece.linked (is_one_line (split_lines (piece_text bytes piece)) true)
    (may_cover piece.name (piece_text bytes piece)) ≡
    true) =
    and_parts (not (same_place piece.first piece.after) && ((piece.first.vs == 0) || begins_in_tab piece.name)
    && ((piece.after.vs == 0) || ends_in_tab piece.name))
    (cond piece.linked (is_one_line (split_lines (piece_text bytes piece)) true)
    (may_cover piece.name (piece_text bytes piece))) h in
    let points : (not (same_place piece.first piece.after) && ((piece.first.vs == 0) || begins_in_tab piece.name) ≡
    true) ×
    ((piece.after.vs == 0) || ends_in_tab piece.name ≡ true) =
    and_parts (not (same_place piece.first piece.after) && ((piece.first.vs == 0) || begins_in_tab piece.name))
    ((piece.after.vs == 0) || ends_in_tab piece.name) kinds.0 in
    not-true (same_place piece.first piece.after)
    (and_parts (not (same_place piece.first piece.after))
    ((piece.first.vs == 0) || begins_in_tab piece.name) points.0).0

-- Where a chunk was, something does that covers it, and begins with an exit only where what was before it is covered to
-- the same place.
cover-filled : (bytes : List ℕ) (left : List Chunk) (e f : Event) (es : List Event) (parts : List Part)
    (held : Content) (l : Event) (L : List Event) (G : List (List Event)) (gs : List (List (List Event)))
    (b c : Event) (from to : Point) →
    IsLinkedChunk e f es left held → Covering bytes left es parts → Fills (chunk_of e f ∷ left) ((l ∷ L) ∷ G) →
    last_kind l.kind (L ++ together G) ≡ Exit → EachFills parts gs →
    are_valid_pieces bytes (pieces_from b (e ∷ f ∷ es)) ≡ true → Covers from (pieces_from b (e ∷ f ∷ es)) to →
    (c.kind ≡ Enter → l.kind ≡ Exit → same_place from c.point ≡ true) →
    Covers from (pieces_from c (filled_from false (e ∷ f ∷ es) ((l ∷ L) ∷ (G ++ together gs)))) to
cover-filled bytes left e f es parts held l L G gs b c from to is covering fills last each are_valid covers joins =
    subst (λ (list : List Event). Covers from (pieces_from c list) to)
    (filled-linked e f es ((l ∷ L) ∷ (G ++ together gs)) is.linked) (go c.kind l.kind joins)
  where
    piece : Piece
    piece = record { name = e.name; linked = is_linked e; first = e.point; after = f.point }

    rest : List Event
    rest = filled_from false es (G ++ together gs)

    end : Event
    end = last_event l L

    valid : (is_valid_piece bytes piece ≡ true) × (are_valid_pieces bytes (pieces_from f es) ≡ true)
    valid =
        and_parts (is_valid_piece bytes piece) (are_valid_pieces bytes (pieces_from f es))
        (subst (λ (list : List Piece). are_valid_pieces bytes list ≡ true)
        (chunk-piece b e f es is.enters is.exits) are_valid)

    covered : IsTrue (same_place from e.point) × Covers f.point (pieces_from f es) to
    covered = subst (λ (list : List Piece). Covers from list to) (chunk-piece b e f es is.enters is.exits) covers

    starts : same_place l.point e.point ≡ true
    starts =
        both-before l.point e.point
        (covers-first e.point f.point l L (piece-apart bytes piece valid.0) fills.0.1 fills.2) fills.0.0

    place : same_place f.point end.point ≡ true
    place =
        subst (λ (p : Point). same_place f.point p ≡ true) (sym (last-point l L))
        (both-before f.point (last_point l.point L)
        (covers-last e.point f.point l L fills.0.0 fills.0.1 fills.2) fills.1)

    following : last_kind (last_kind l.kind L) (together G) ≡ Exit
    following = sym (last_kind-append l.kind L (together G)) ∙ last

    ends : starts_exit es ≡ true → end.kind ≡ Exit
    ends h =
        let none : G ≡ [] = no_lists G (subst (λ (list : List Chunk). Fills list G) (is.last h) fills.3) in
        sym (last_kind-event l L)
        ∙ subst (λ (G : List (List Event)). last_kind (last_kind l.kind L) (together G) ≡ Exit) none following

    whole : Covers e.point (pieces_from l (L ++ rest)) to
    whole =
        covers-append e.point f.point to l L rest fills.2
        (covering f end f.point to G gs fills.3
        (last_kind-from (last_kind l.kind L) (together G) following) each valid.1
        covered.1 (Cut is.exits place ends))

    go : (kind other : Kind) → (kind ≡ Enter → other ≡ Exit → same_place from c.point ≡ true) →
        Covers from (piece_of c l kind other ++ pieces_from l (L ++ rest)) to
    go Enter Exit joins = (joins refl refl, covers-from l.point e.point to (pieces_from l (L ++ rest)) starts whole)
    go Enter Enter joins = covers-from from e.point to (pieces_from l (L ++ rest)) covered.0 whole
    go Exit other joins = covers-from from e.point to (pieces_from l (L ++ rest)) covered.0 whole

-- something is there
cover-chunk : (bytes : List ℕ) (left : List Chunk) (e f : Event) (es : List Event) (parts : List Part)
    (held : Content) (events : List Event) (G : List (List Event)) (gs : List (List (List Event)))
    (b c : Event) (from to : Point) →
    IsLinkedChunk e f es left held → Covering bytes left es parts → Fills (chunk_of e f ∷ left) (events ∷ G) →
    last_kind Exit (events ++ together G) ≡ Exit → EachFills parts gs →
    are_valid_pieces bytes (pieces_from b (e ∷ f ∷ es)) ≡ true → Covers from (pieces_from b (e ∷ f ∷ es)) to →
    (c.kind ≡ Enter → starts_exit events ≡ true → same_place from c.point ≡ true) →
    Covers from (pieces_from c (filled_from false (e ∷ f ∷ es) (events ∷ (G ++ together gs)))) to
cover-chunk bytes left e f es parts held [] G gs b c from to is covering fills last each are_valid covers joins =
    let piece : Piece = record { name = e.name; linked = is_linked e; first = e.point; after = f.point } in
    let valid : is_valid_piece bytes piece ≡ true = (and_parts (is_valid_piece bytes piece)
    (are_valid_pieces bytes (pieces_from f es))
    (subst (λ (list : List Piece). are_valid_pieces bytes list ≡ true)
    (chunk-piece b e f es is.enters is.exits) are_valid)).0 in
    let no : false ≡ true = sym (piece-apart bytes piece valid) ∙ fills.2 in cc
cover-chunk bytes left e f es parts held (l ∷ L) G gs b c from to is covering fills last each are_valid covers joins =
    cover-filled bytes left e f es parts held l L G gs b c from to is covering fills last each are_valid covers
    (λ enters exits. joins enters (ap is_exit exits))

-- the first chunk of a part
cover-begins : (bytes : List ℕ) (left : List Chunk) (e f : Event) (es : List Event) (parts : List Part)
    (held : Content) →
    IsLinkedChunk e f es left held → Covering bytes left es parts →
    Covering bytes [] (e ∷ f ∷ es) ((record { kind = text_kind held; chunks = chunk_of e f ∷ left }) ∷ parts)
cover-begins bytes left e f es parts held is covering b c from to (events ∷ G) gs fills last each are_valid covers at =
    absurd fills
cover-begins bytes left e f es parts held is covering b c from to [] [] fills last each are_valid covers
    at = absurd each
cover-begins bytes left e f es parts held is covering b c from to [] ([] ∷ gs) fills last each are_valid covers at =
    absurd each.0
cover-begins bytes left e f es parts held is covering b c from to [] ((events ∷ G) ∷ gs) fills last each
    are_valid covers
    at =
    cover-chunk bytes left e f es parts held events G gs b c from to is covering each.0
    (closed-exit [] (events ++ together G) each.1.closed) each.2 are_valid covers
    (λ enters exits. first events each.1 exits)
  where
    first : (events : List Event) → Balanced (events ++ together G) → starts_exit events ≡ true →
        same_place from c.point ≡ true
    first [] balanced exits = cc
    first (l ∷ L) balanced exits =
        let no : true ≡ false = sym exits ∙ ap is_exit (balanced-enter l (L ++ together G) balanced) in cc

-- a further one
cover-is_continued : (bytes : List ℕ) (left : List Chunk) (e f : Event) (es : List Event) (parts : List Part)
    (held : Content) →
    IsLinkedChunk e f es left held → Covering bytes left es parts →
    Covering bytes (chunk_of e f ∷ left) (e ∷ f ∷ es) parts
cover-is_continued bytes left e f es parts held is covering b c from to [] gs fills last each are_valid covers at =
    absurd fills
cover-is_continued bytes left e f es parts held is covering b c from to (events ∷ G) gs fills last each
    are_valid covers at =
    cover-chunk bytes left e f es parts held events G gs b c from to is covering fills last each are_valid covers
    (joins at)
  where
    joins : At b c (chunk_of e f ∷ left) (e ∷ f ∷ es) from → c.kind ≡ Enter → starts_exit events ≡ true →
        same_place from c.point ≡ true
    joins (Same same inner) enters exits = let no : chunk_of e f ∷ left ≡ [] = inner enters is.linked in cc
    joins (Cut ends place inner) enters exits = place

cover-walk : (bytes : List ℕ) {left : List Chunk} {es : List Event} {parts : List Part} → Walk left es parts →
    Covering bytes left es parts
cover-walk bytes Ends = λ b c from to G gs fills last each are_valid covers at. covers
cover-walk bytes (Stays {e = e} {es = es} {left = left} {parts = parts} unlinked outer walk) =
    cover-stays bytes left e es parts unlinked outer (cover-walk bytes walk)
cover-walk bytes (Begins {e = e} {f = f} {es = es} {left = left} {parts = parts} {held = held} is listed walk) =
    cover-begins bytes left e f es parts held is (cover-walk bytes walk)
cover-walk bytes (IsContinued {e = e} {f = f} {es = es} {left = left} {parts = parts} {held = held} is walk) =
    cover-is_continued bytes left e f es parts held is (cover-walk bytes walk)

-- The innermost pairs of what tiles lie side by side from the first byte to the last, whatever the layer.
pub tiles-cover : (bytes : List ℕ) (reads : Part → List Event → Type 0) (events : List Event) →
    KeepsFrame bytes reads → Tiles reads bytes events → Covers first_point (pieces events) (end_point bytes)
tiles-cover bytes reads events frame tiles =
    let before : Event = exit n.Data first_point in
    subst (λ (list : List Event). Covers first_point (pieces list) (end_point bytes)) (sym tiles.read)
    (subst (λ (list : List Piece). Covers first_point list (end_point bytes))
    (sym (same (filled tiles.blocks (together tiles.lists))))
    (cover-walk bytes (walk-blocks bytes tiles.blocks tiles.block_list) before before first_point (end_point bytes) []
    tiles.lists tt refl
    (fills-read bytes reads frame (parts tiles.blocks) tiles.lists (parts-are bytes tiles.blocks tiles.block_list)
    tiles.each)
    (subst (λ (list : List Piece). are_valid_pieces bytes list ≡ true) (same tiles.blocks) tiles.block_list.pieces_are)
    (subst (λ (list : List Piece). Covers first_point list (end_point bytes)) (same tiles.blocks) tiles.covers)
    (Same refl (λ enters starts. refl))))
  where
    same : (es : List Event) → pieces es ≡ pieces_from (exit n.Data first_point) es
    same [] = refl
    same (e ∷ es) = refl
