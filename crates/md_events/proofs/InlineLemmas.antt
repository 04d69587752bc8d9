-- The plain layer keeps the promise of all inline layers.
use Rattle.std.proofs.Common.{◌≡◌, ℕ, suc, ◌+◌, ◌-◌, ◌<◌, ◌≤◌, Bool, true, false, cond, ◌&&◌, List, [], ◌∷◌, ◌++◌}
use Rattle.std.proofs.Common.{length, take, drop, refl, ap, sym, ◌∙◌, subst, append_assoc, arith}
use Rattle.std.specs.Prelude.{◌==◌, IsTrue, nat_le, nat_lt, not}
use Rattle.std.specs.List.{list_all, prefix_len}
use Rattle.std.proofs.lemmas.List.{append-nil, take-append-drop, length-take}
use Rattle.std.proofs.lemmas.List.Sums.{take_while-cons}
use Rattle.std.proofs.lemmas.Bool.{and_parts, and_from, eqb-true, eq-eqb}
use Rattle.std.proofs.lemmas.Bool.Decides.{nat_tests}
use Rattle.md_engine.specs.declared.event.Point.{Point}
use Rattle.md_engine.specs.declared.event.Event.{Event}
use Rattle.md_engine.specs.declared.event.Name.{Name}
use Rattle.md_engine.specs.declared.event.Name.TheVariants as n
use Rattle.md_events.specs.declared.inline.Chunk.{Chunk}
use Rattle.md_meaning.specs.Lines.{is_ending, without_ending}
use Rattle.md_events.specs.Events.Places.{first_point, is_placed, are_placed, same_place, at_or_before, past_byte}
use Rattle.md_events.specs.Events.Places.{past_text}
use Rattle.md_events.specs.Events.Nested.{exit, pair, Balanced, Forward, last_point}
use Rattle.md_events.specs.Events.Inline.{Part, pieces, Covers, in_order, chunk_placed, chunk_text, line_end}
use Rattle.md_events.specs.Events.Inline.{pair_unless_empty, endings_of, plain_chunk, plain_chunks, together}
use Rattle.md_events.specs.Events.Inline.{plain_events, is_inline, is_line_ending, line_endings, Fills, Framed, IsPart}
use Rattle.md_events.specs.Events.Inline.{KeepsFrame, cut_at, ends_whole, may_be_inside}
use Rattle.md_events.specs.Substituted.{belongs}
use Rattle.md_meaning.proofs.TextsLemmas.{NoEnding}
use Rattle.md_events.proofs.PlacesLemmas.{all-append, placed-facts, placed-from, placed-text}
use Rattle.md_events.proofs.CutLemmas.{cut-front, cut-last}
use Rattle.md_events.proofs.NestedLemmas.{balanced-none, balanced-append, at_or_before-refl, at_or_before-trans}
use Rattle.md_events.proofs.NestedLemmas.{forward-from}

-- Places.

pub same-refl : (p : Point) → same_place p p ≡ true
same-refl p = and_from _ _ (eq-eqb p.index p.index refl) (eq-eqb p.vs p.vs refl)

pub same-trans : (p q r : Point) → same_place p q ≡ true → same_place q r ≡ true → same_place p r ≡ true
same-trans p q r h k =
    let first : (p.index == q.index ≡ true) × (p.vs == q.vs ≡ true) = and_parts (p.index == q.index) (p.vs == q.vs) h in
    let next : (q.index == r.index ≡ true) × (q.vs == r.vs ≡ true) = and_parts (q.index == r.index) (q.vs == r.vs) k in
    and_from _ _ (eq-eqb p.index r.index (eqb-true _ _ first.0 ∙ eqb-true _ _ next.0))
    (eq-eqb p.vs r.vs (eqb-true _ _ first.1 ∙ eqb-true _ _ next.1))

pub past-index : (text : List ℕ) (p : Point) → (past_text text p).index ≡ p.index + length text
past-index [] p = omega arith
past-index (b ∷ text) p =
    let h : (past_text text (past_byte b p)).index ≡ (p.index + 1) + length text = past-index text (past_byte b p) in
    omega arith

pub past-vs : (b : ℕ) (text : List ℕ) (p : Point) → (past_text (b ∷ text) p).vs ≡ 0
past-vs b [] p = refl
past-vs b (c ∷ text) p = past-vs c text (past_byte b p)

pub past_text-append : (xs ys : List ℕ) (p : Point) → past_text (xs ++ ys) p ≡ past_text ys (past_text xs p)
past_text-append [] ys p = refl
past_text-append (b ∷ xs) ys p = past_text-append xs ys (past_byte b p)

-- a piece of a text ends no earlier than it begins
pub before-text : (text : List ℕ) (p : Point) → IsTrue (at_or_before p (past_text text p))
before-text [] p = at_or_before-refl p
before-text (b ∷ text) p = further (past_text (b ∷ text) p) (past-index (b ∷ text) p)
  where
    further : (q : Point) → q.index ≡ p.index + suc (length text) → IsTrue (at_or_before p q)
    further q e = grind (arith, nat_tests)

-- The line of a chunk.

pub line-no_ending : (text : List ℕ) → NoEnding (without_ending text)
line-no_ending [] = tt
line-no_ending (b ∷ text) =
    subst NoEnding (sym (take_while-cons (λ (b : ℕ). not (is_ending b)) b text))
    (go (is_ending b) refl (line-no_ending text))
  where
    go : (x : Bool) → is_ending b ≡ x → NoEnding (without_ending text) →
        NoEnding (cond (not x) (b ∷ without_ending text) [])
    go true e rest = tt
    go false e rest = (e, rest)

-- it is at the front of the chunk, and so in the text
line-next : (bytes : List ℕ) (chunk : Chunk) →
    (rest : List ℕ) × (drop chunk.first.index bytes ≡ without_ending (chunk_text bytes chunk) ++ rest)
line-next bytes chunk =
    let size : ℕ = chunk.after.index - chunk.first.index in
    let following : List ℕ = drop chunk.first.index bytes in
    let long : ℕ = prefix_len (λ (b : ℕ). not (is_ending b)) (take size following) in (
      drop long (take size following) ++ drop size following,
      sym (sym (append_assoc (take long (take size following)) (drop long (take size following)) (drop size following))
          ∙ ap (λ (l : List ℕ). l ++ drop size following) (take-append-drop long (take size following))
          ∙ take-append-drop size following),
    )

-- it is no longer than the chunk
pub line-length : (bytes : List ℕ) (chunk : Chunk) →
    length (without_ending (chunk_text bytes chunk)) ≤ chunk.after.index - chunk.first.index
line-length bytes chunk =
    let size : ℕ = chunk.after.index - chunk.first.index in
    let following : List ℕ = drop chunk.first.index bytes in
    let long : ℕ = prefix_len (λ (b : ℕ). not (is_ending b)) (take size following) in
    omega (arith, length-take long (take size following), length-take size following)

-- The end of its line lies in the chunk.

pub end-following : (bytes : List ℕ) (chunk : Chunk) → IsTrue (at_or_before chunk.first (line_end bytes chunk))
end-following bytes chunk = before-text (without_ending (chunk_text bytes chunk)) chunk.first

pub end-before : (bytes : List ℕ) (chunk : Chunk) → IsTrue (at_or_before chunk.first chunk.after) →
    IsTrue (at_or_before (line_end bytes chunk) chunk.after)
end-before bytes chunk h = go (without_ending (chunk_text bytes chunk)) (line-length bytes chunk)
  where
    index : (p q : Point) → IsTrue (at_or_before p q) → p.index ≤ q.index
    index p q h = grind (arith, nat_tests)

    before : (p q : Point) → p.index ≤ q.index → p.vs ≡ 0 → IsTrue (at_or_before p q)
    before p q h e = grind (arith, nat_tests)

    go : (line : List ℕ) → length line ≤ chunk.after.index - chunk.first.index →
        IsTrue (at_or_before (past_text line chunk.first) chunk.after)
    go [] small = h
    go (b ∷ line) small =
        let i : chunk.first.index ≤ chunk.after.index = index chunk.first chunk.after h in
        let e : (past_text (b ∷ line) chunk.first).index ≡
        chunk.first.index + length (b ∷ line) = past-index (b ∷ line) chunk.first in
        before (past_text (b ∷ line) chunk.first) chunk.after (omega (arith, small)) (past-vs b line chunk.first)

pub end-placed : (bytes : List ℕ) (chunk : Chunk) → is_placed bytes chunk.first ≡ true →
    is_placed bytes (line_end bytes chunk) ≡ true
end-placed bytes chunk h =
    let line : List ℕ = without_ending (chunk_text bytes chunk) in
    let next : (rest : List ℕ) × (drop chunk.first.index bytes ≡ line ++ rest) = line-next bytes chunk in
    placed-from bytes (line_end bytes chunk)
    (placed-text bytes chunk.first line next.0 (placed-facts bytes chunk.first h) next.1
    (line-no_ending (chunk_text bytes chunk)))

-- A pair, or nothing.

pub balanced-pair : (name : Name) (p q : Point) → Balanced (pair_unless_empty name p q)
balanced-pair name p q = go (same_place p q)
  where
    go : (x : Bool) → Balanced (cond x [] (pair name p q))
    go true = balanced-none
    go false = record { matches = (tt, (refl, tt)); closed = refl }

placed-pair : (bytes : List ℕ) (name : Name) (p q : Point) → is_placed bytes p ≡ true → is_placed bytes q ≡ true →
    are_placed bytes (pair_unless_empty name p q) ≡ true
placed-pair bytes name p q h k = go (same_place p q)
  where
    go : (x : Bool) → are_placed bytes (cond x [] (pair name p q)) ≡ true
    go true = refl
    go false = and_from (is_placed bytes p) (is_placed bytes q && true) h (and_from (is_placed bytes q) true k refl)

inline-pair : (name : Name) (p q : Point) → is_inline name ≡ true →
    list_all may_be_inside (pair_unless_empty name p q) ≡ true
inline-pair name p q h = go (same_place p q)
  where
    inside : (is_inline name && true) ≡ true
    inside = and_from (is_inline name) true h refl

    go : (x : Bool) → list_all may_be_inside (cond x [] (pair name p q)) ≡ true
    go true = refl
    go false =
        and_from (is_inline name && true) ((is_inline name && true) && true) inside
        (and_from (is_inline name && true) true inside refl)

forward-pair : (o : Point) (name : Name) (p q : Point) (es : List Event) → IsTrue (at_or_before o p) →
    IsTrue (at_or_before p q) → Forward q es → Forward o (pair_unless_empty name p q ++ es)
forward-pair o name p q es h k f = go (same_place p q)
  where
    go : (x : Bool) → Forward o (cond x [] (pair name p q) ++ es)
    go true = forward-from o q es (at_or_before-trans o p q h k) f
    go false = (h, (k, f))

pub endings-append : (xs ys : List Event) → line_endings (xs ++ ys) ≡ line_endings xs ++ line_endings ys
endings-append [] ys = refl
endings-append (e ∷ xs) ys = go (is_line_ending e.name) (endings-append xs ys)
  where
    go : (x : Bool) → line_endings (xs ++ ys) ≡ line_endings xs ++ line_endings ys →
        cond x (e ∷ line_endings (xs ++ ys)) (line_endings (xs ++ ys)) ≡
        cond x (e ∷ line_endings xs) (line_endings xs) ++ line_endings ys
    go true h = ap (λ (l : List Event). e ∷ l) h
    go false h = h

endings-data : (p q : Point) → line_endings (pair_unless_empty n.Data p q) ≡ []
endings-data p q = go (same_place p q)
  where
    go : (x : Bool) → line_endings (cond x [] (pair n.Data p q)) ≡ []
    go true = refl
    go false = refl

endings-ending : (p q : Point) → line_endings (pair_unless_empty n.LineEnding p q) ≡ pair_unless_empty n.LineEnding p q
endings-ending p q = go (same_place p q)
  where
    go : (x : Bool) → line_endings (cond x [] (pair n.LineEnding p q)) ≡ cond x [] (pair n.LineEnding p q)
    go true = refl
    go false = refl

-- Chunk by chunk.

plain-balanced : (bytes : List ℕ) (chunks : List Chunk) → Balanced (together (plain_chunks bytes chunks))
plain-balanced bytes [] = balanced-none
plain-balanced bytes (chunk ∷ chunks) =
    balanced-append (plain_chunk bytes chunk) (together (plain_chunks bytes chunks))
    (balanced-append (pair_unless_empty n.Data chunk.first (line_end bytes chunk))
    (pair_unless_empty n.LineEnding (line_end bytes chunk) chunk.after)
    (balanced-pair n.Data chunk.first (line_end bytes chunk))
    (balanced-pair n.LineEnding (line_end bytes chunk) chunk.after))
    (plain-balanced bytes chunks)

last-pair : (o : Point) (name : Name) (p q : Point) → IsTrue (at_or_before o p) → IsTrue (at_or_before p q) →
    (es : List Event) (r : Point) →
    ((o : Point) → IsTrue (at_or_before o q) → IsTrue (at_or_before (last_point o es) r)) →
    IsTrue (at_or_before (last_point o (pair_unless_empty name p q ++ es)) r)
last-pair o name p q h k es r rest = go (same_place p q)
  where
    go : (x : Bool) → IsTrue (at_or_before (last_point o (cond x [] (pair name p q) ++ es)) r)
    go true = rest o (at_or_before-trans o p q h k)
    go false = rest q (at_or_before-refl q)

plain-forward : (bytes : List ℕ) (chunk : Chunk) → IsTrue (at_or_before chunk.first chunk.after) →
    Forward chunk.first (plain_chunk bytes chunk)
plain-forward bytes chunk h =
    let end : Point = line_end bytes chunk in
    forward-pair chunk.first n.Data chunk.first end (pair_unless_empty n.LineEnding end chunk.after)
    (at_or_before-refl chunk.first) (end-following bytes chunk)
    (subst (Forward end) (append-nil (pair_unless_empty n.LineEnding end chunk.after))
    (forward-pair end n.LineEnding end chunk.after [] (at_or_before-refl end) (end-before bytes chunk h) tt))

plain-last : (bytes : List ℕ) (chunk : Chunk) → IsTrue (at_or_before chunk.first chunk.after) →
    IsTrue (at_or_before (last_point chunk.first (plain_chunk bytes chunk)) chunk.after)
plain-last bytes chunk h =
    let end : Point = line_end bytes chunk in
    last-pair chunk.first n.Data chunk.first end (at_or_before-refl chunk.first) (end-following bytes chunk)
    (pair_unless_empty n.LineEnding end chunk.after) chunk.after
    (λ o before. subst (λ (l : List Event). IsTrue (at_or_before (last_point o l) chunk.after))
    (append-nil (pair_unless_empty n.LineEnding end chunk.after))
    (last-pair o n.LineEnding end chunk.after before (end-before bytes chunk h) [] chunk.after (λ o h. h)))

pub plain-placed : (bytes : List ℕ) (chunks : List Chunk) → list_all (chunk_placed bytes) chunks ≡ true →
    are_placed bytes (together (plain_chunks bytes chunks)) ≡ true
plain-placed bytes [] h = refl
plain-placed bytes (chunk ∷ chunks) h =
    let outer : (chunk_placed bytes chunk ≡ true) ×
    (list_all (chunk_placed bytes) chunks ≡ true) = and_parts (chunk_placed bytes chunk)
    (list_all (chunk_placed bytes) chunks) h in
    let inner : (is_placed bytes chunk.first ≡ true) ×
    (is_placed bytes chunk.after ≡ true) = and_parts (is_placed bytes chunk.first)
    (is_placed bytes chunk.after) outer.0 in
    let ends : is_placed bytes (line_end bytes chunk) ≡ true = end-placed bytes chunk inner.0 in
    all-append (λ (e : Event). is_placed bytes e.point) (plain_chunk bytes chunk) (together (plain_chunks bytes chunks))
    (all-append (λ (e : Event). is_placed bytes e.point) (pair_unless_empty n.Data chunk.first (line_end bytes chunk))
    (pair_unless_empty n.LineEnding (line_end bytes chunk) chunk.after)
    (placed-pair bytes n.Data chunk.first (line_end bytes chunk) inner.0 ends)
    (placed-pair bytes n.LineEnding (line_end bytes chunk) chunk.after ends inner.1))
    (plain-placed bytes chunks outer.1)

plain-inline : (bytes : List ℕ) (chunks : List Chunk) →
    list_all may_be_inside (together (plain_chunks bytes chunks)) ≡ true
plain-inline bytes [] = refl
plain-inline bytes (chunk ∷ chunks) =
    all-append may_be_inside (plain_chunk bytes chunk) (together (plain_chunks bytes chunks))
    (all-append may_be_inside (pair_unless_empty n.Data chunk.first (line_end bytes chunk))
    (pair_unless_empty n.LineEnding (line_end bytes chunk) chunk.after)
    (inline-pair n.Data chunk.first (line_end bytes chunk) refl)
    (inline-pair n.LineEnding (line_end bytes chunk) chunk.after refl))
    (plain-inline bytes chunks)

plain-endings : (bytes : List ℕ) (chunks : List Chunk) →
    line_endings (together (plain_chunks bytes chunks)) ≡ endings_of bytes chunks
plain-endings bytes [] = refl
plain-endings bytes (chunk ∷ chunks) =
    let content : List Event = pair_unless_empty n.Data chunk.first (line_end bytes chunk) in
    let ending : List Event = pair_unless_empty n.LineEnding (line_end bytes chunk) chunk.after in
    endings-append (content ++ ending) (together (plain_chunks bytes chunks))
    ∙ ap (λ (l : List Event). l ++ line_endings (together (plain_chunks bytes chunks)))
    (endings-append content ending
    ∙ ap (λ (l : List Event). l ++ line_endings ending) (endings-data chunk.first (line_end bytes chunk))
    ∙ endings-ending (line_end bytes chunk) chunk.after)
    ∙ ap (λ (l : List Event). ending ++ l) (plain-endings bytes chunks)

plain-covers : (bytes : List ℕ) (chunk : Chunk) → Covers chunk.first (pieces (plain_chunk bytes chunk)) chunk.after
plain-covers bytes chunk =
    go (line_end bytes chunk) (same_place chunk.first (line_end bytes chunk)) refl
    (same_place (line_end bytes chunk) chunk.after) refl
  where
    go : (end : Point) (x : Bool) → same_place chunk.first end ≡ x → (y : Bool) → same_place end chunk.after ≡ y →
        Covers chunk.first
        (pieces (cond x [] (pair n.Data chunk.first end) ++ cond y [] (pair n.LineEnding end chunk.after))) chunk.after
    go end true h true k = same-trans chunk.first end chunk.after h k
    go end true h false k = (h, same-refl chunk.after)
    go end false h true k = (same-refl chunk.first, k)
    go end false h false k = (same-refl chunk.first, (same-refl end, same-refl chunk.after))

pub plain-fills : (bytes : List ℕ) (p : Point) (chunks : List Chunk) → in_order p chunks ≡ true →
    Fills chunks (plain_chunks bytes chunks)
plain-fills bytes p [] h = tt
plain-fills bytes p (chunk ∷ chunks) h =
    let outer : (at_or_before p chunk.first && at_or_before chunk.first chunk.after ≡ true) ×
    (in_order chunk.after chunks ≡ true) = and_parts
    (at_or_before p chunk.first && at_or_before chunk.first chunk.after) (in_order chunk.after chunks) h in
    let inner : (at_or_before p chunk.first ≡ true) ×
    (at_or_before chunk.first chunk.after ≡ true) = and_parts (at_or_before p chunk.first)
    (at_or_before chunk.first chunk.after) outer.0 in (
      plain-forward bytes chunk inner.1,
      plain-last bytes chunk inner.1,
      plain-covers bytes chunk,
      plain-fills bytes chunk.after chunks outer.1,
    )

-- What it gives for each chunk is what is cut out for it.

-- an event that is at a chunk's end, or before it
pair-belongs : (end : ℕ) (name : Name) (p q : Point) → (same_place p q ≡ false → p.index < end) → q.index ≤ end →
    list_all (belongs end) (pair_unless_empty name p q) ≡ true
pair-belongs end name p q h k = go (same_place p q) refl
  where
    first : p.index < end → nat_lt p.index end ≡ true
    first lt = grind (arith, nat_tests)

    last : nat_le q.index end ≡ true
    last = grind (arith, nat_tests)

    go : (x : Bool) → same_place p q ≡ x → list_all (belongs end) (cond x [] (pair name p q)) ≡ true
    go true e = refl
    go false e =
        and_from (nat_lt p.index end) (nat_le q.index end && true) (first (h e))
        (and_from (nat_le q.index end) true last refl)

index-before : (p q : Point) → IsTrue (at_or_before p q) → p.index ≤ q.index
index-before p q h = grind (arith, nat_tests)

-- a line that is not empty has bytes
line-bytes : (text : List ℕ) (p : Point) → same_place p (past_text text p) ≡ false → p.index < (past_text text p).index
line-bytes [] p h = let same : same_place p p ≡ true = same-refl p in cc
line-bytes (b ∷ text) p h = omega (arith, past-index (b ∷ text) p)

-- and so has an ending that does not end within a tab
ending-bytes : (p q : Point) → IsTrue (at_or_before p q) → (q.vs == 0) ≡ true → same_place p q ≡ false →
    p.index < q.index
ending-bytes p q h whole apart = grind (arith, nat_tests)

plain-belongs : (bytes : List ℕ) (chunk : Chunk) → IsTrue (at_or_before chunk.first chunk.after) →
    IsTrue (ends_whole chunk) → list_all (belongs chunk.after.index) (plain_chunk bytes chunk) ≡ true
plain-belongs bytes chunk h whole =
    let end : Point = line_end bytes chunk in
    let before : IsTrue (at_or_before end chunk.after) = end-before bytes chunk h in
    let index : end.index ≤ chunk.after.index = index-before end chunk.after before in
    all-append (belongs chunk.after.index) (pair_unless_empty n.Data chunk.first end)
    (pair_unless_empty n.LineEnding end chunk.after)
    (pair-belongs chunk.after.index n.Data chunk.first end
    (λ apart. omega (arith, index, line-bytes (without_ending (chunk_text bytes chunk)) chunk.first apart)) index)
    (pair-belongs chunk.after.index n.LineEnding end chunk.after (ending-bytes end chunk.after before whole)
    (omega arith))

-- what begins at a chunk's end, or after it
pair-following : (end : ℕ) (name : Name) (p q : Point) (rest : List Event) → end ≤ p.index →
    prefix_len (belongs end) rest ≡ 0 → prefix_len (belongs end) (pair_unless_empty name p q ++ rest) ≡ 0
pair-following end name p q rest h none = go (same_place p q)
  where
    late : nat_lt p.index end ≡ false
    late = grind (arith, nat_tests)

    go : (x : Bool) → prefix_len (belongs end) (cond x [] (pair name p q) ++ rest) ≡ 0
    go true = none
    go false = ap (λ (x : Bool). cond x (1 + prefix_len (belongs end) (exit name q ∷ rest)) 0) late

plain-following : (bytes : List ℕ) (end : ℕ) (p : Point) (chunks : List Chunk) → end ≤ p.index →
    in_order p chunks ≡ true → prefix_len (belongs end) (together (plain_chunks bytes chunks)) ≡ 0
plain-following bytes end p [] h order = refl
plain-following bytes end p (chunk ∷ chunks) h order =
    let outer : (at_or_before p chunk.first && at_or_before chunk.first chunk.after ≡ true) ×
    (in_order chunk.after chunks ≡ true) = and_parts
    (at_or_before p chunk.first && at_or_before chunk.first chunk.after) (in_order chunk.after chunks) order in
    let inner : (at_or_before p chunk.first ≡ true) ×
    (at_or_before chunk.first chunk.after ≡ true) = and_parts (at_or_before p chunk.first)
    (at_or_before chunk.first chunk.after) outer.0 in
    let to : Point = line_end bytes chunk in
    let first : p.index ≤ chunk.first.index = index-before p chunk.first inner.0 in
    let line : chunk.first.index ≤ to.index = index-before chunk.first to (end-following bytes chunk) in
    let after : chunk.first.index ≤ chunk.after.index = index-before chunk.first chunk.after inner.1 in
    let content : List Event = pair_unless_empty n.Data chunk.first to in
    let ending : List Event = pair_unless_empty n.LineEnding to chunk.after in
    let rest : List Event = together (plain_chunks bytes chunks) in
    ap (prefix_len (belongs end)) (append_assoc content ending rest)
    ∙ pair-following end n.Data chunk.first to (ending ++ rest) (omega (arith, h, first))
    (pair-following end n.LineEnding to chunk.after rest (omega (arith, h, first, line))
    (plain-following bytes end chunk.after chunks (omega (arith, h, first, after)) outer.1))

pub plain-cut : (bytes : List ℕ) (p : Point) (chunks : List Chunk) → in_order p chunks ≡ true →
    list_all ends_whole chunks ≡ true → cut_at chunks (together (plain_chunks bytes chunks)) ≡ plain_chunks bytes chunks
plain-cut bytes p [] order whole = refl
plain-cut bytes p (chunk ∷ []) order whole = cut-last chunk (plain_chunk bytes chunk)
plain-cut bytes p (chunk ∷ next ∷ chunks) order whole =
    let outer : (at_or_before p chunk.first && at_or_before chunk.first chunk.after ≡ true) ×
    (in_order chunk.after (next ∷ chunks) ≡ true) = and_parts
    (at_or_before p chunk.first && at_or_before chunk.first chunk.after) (in_order chunk.after (next ∷ chunks)) order in
    let inner : (at_or_before p chunk.first ≡ true) ×
    (at_or_before chunk.first chunk.after ≡ true) = and_parts (at_or_before p chunk.first)
    (at_or_before chunk.first chunk.after) outer.0 in
    let ends : (ends_whole chunk ≡ true) × (list_all ends_whole (next ∷ chunks) ≡ true) = and_parts (ends_whole chunk)
    (list_all ends_whole (next ∷ chunks)) whole in
    cut-front chunk next chunks (plain_chunk bytes chunk) (together (plain_chunks bytes (next ∷ chunks)))
    (plain-belongs bytes chunk inner.1 ends.0)
    (plain-following bytes chunk.after.index chunk.after (next ∷ chunks) (omega arith) outer.1)
    ∙ ap (λ (l : List (List Event)). plain_chunk bytes chunk ∷ l)
    (plain-cut bytes chunk.after (next ∷ chunks) outer.1 ends.1)

-- What the plain layer gives for a text part keeps the promise of every layer.
pub plain-framed : (bytes : List ℕ) (part : Part) → IsPart bytes part → Framed bytes part (plain_events bytes part)
plain-framed bytes part is = record {
  balanced = plain-balanced bytes part.chunks;
  placed = plain-placed bytes part.chunks is.placed;
  inline = plain-inline bytes part.chunks;
  endings = plain-endings bytes part.chunks;
  fills =
      subst (Fills part.chunks) (sym (plain-cut bytes first_point part.chunks is.order is.whole))
      (plain-fills bytes first_point part.chunks is.order);
}

pub plain-keeps : (bytes : List ℕ) → KeepsFrame bytes (λ part events. events ≡ plain_events bytes part)
plain-keeps bytes part events is read = subst (Framed bytes part) (sym read) (plain-framed bytes part is)
