-- A text part is once in a block list, so a part of a document has one place: its first chunk is not empty and begins where the part does, the points of
-- events never go back, and no text part is inside of another.
use Rattle.std.proofs.Common.{◌≡◌, ℕ, zero, suc, ◌-◌, ◌<◌, ◌⊎◌, inl, inr, Bool, true, false, cond, ◌&&◌, ◌||◌}
use Rattle.std.proofs.Common.{List, [], ◌∷◌, ◌++◌, take, drop, refl, ap, sym, ◌∙◌, subst, arith}
use Rattle.std.specs.Prelude.{◌==◌, not, IsTrue, Option, Some, None, slice_range}
use Rattle.std.specs.List.{list_all}
use Rattle.std.proofs.lemmas.Bool.{and_parts, cases_lt, eqb-true, or_parts}
use Rattle.std.proofs.lemmas.Grind.{common_steps}
use Rattle.md_engine.specs.declared.event.Event.{Event}
use Rattle.md_engine.specs.declared.event.Kind.{Kind}
use Rattle.md_engine.specs.declared.event.Kind.TheVariants.{Enter, Exit}
use Rattle.md_engine.specs.declared.event.Name.{Name}
use Rattle.md_engine.specs.declared.event.Point.{Point}
use Rattle.md_meaning.specs.Texts.{split_lines}
use Rattle.md_events.specs.declared.inline.Chunk.{Chunk}
use Rattle.md_events.specs.declared.inline.PartKind.{PartKind}
use Rattle.md_events.specs.declared.inline.PartPlace.{PartPlace}
use Rattle.md_events.specs.Events.Inline.{Part, Piece, are_lines, chunk_text, is_linked, is_none, is_one_line, piece_of}
use Rattle.md_events.specs.Events.Inline.{pieces, pieces_from}
use Rattle.md_events.specs.Events.Nested.{Fits, Forward, Matches, is_exit, last_point, open_after, open_following}
use Rattle.md_events.specs.Events.Places.{at_or_before, first_point, same_place}
use Rattle.md_events.specs.Events.Tiles.{IsBlockList, are_whole_parts, begins_at, chunks, chunks_in_parts}
use Rattle.md_events.specs.Events.Tiles.{depth_following, inside_part, is_chunk, is_part, is_white_piece, is_whole_part}
use Rattle.md_events.specs.Events.Tiles.{links_kind, may_be_in_part, part_at, part_end, part_kind, part_of}
use Rattle.md_events.specs.Exact.Blocks.{exact}
use Rattle.md_events.specs.TextPart.{Document, IsTextPartAt, place_of}
use Rattle.md_events.proofs.NestedLemmas.{at_or_before-trans, forward-last, matches-rest}
use Rattle.markdown_blocks.specs.PartPlaces.{IsPartAt}

-- What is known of a part where it begins.

part-enter : (at : Kind) (held : Option PartKind) (es : List Event) (part : Part) → part_at at held es ≡ part ∷ [] →
    at ≡ Enter
part-enter Enter held es part is = refl
part-enter Exit held es part is = cc

part-kind : (at : Kind) (held : Option PartKind) (es : List Event) (part : Part) → part_at at held es ≡ part ∷ [] →
    (elim held [ None ↦ false | Some kind ↦ true ]) ≡ true
part-kind Enter None es part is = cc
part-kind Enter (Some kind) es part is = refl
part-kind Exit held es part is = cc

part-list : (at : Kind) (held : Option PartKind) (es : List Event) (part : Part) → part_at at held es ≡ part ∷ [] →
    chunks (pieces (inside_part es)) ≡ part.chunks
part-list Enter None es part is = cc
part-list Enter (Some kind) es part is = go (chunks (pieces (inside_part es))) is
  where
    go : (list : List Chunk) → part_of kind list ≡ part ∷ [] → list ≡ part.chunks
    go [] h = cc
    go (chunk ∷ list) h =
        let same : (record { kind = kind; chunks = chunk ∷ list }) ≡ part = cc in ap (λ (p : Part). p.chunks) same
part-list Exit held es part is = cc

-- A chunk that begins at a point and is not empty.
record IsFirst (p : Point) (list : List Chunk) : Type 0 where
  chunk : Chunk
  more : List Chunk
  are : list ≡ chunk ∷ more
  begins : p.index ≡ chunk.first.index
  some : chunk.first.index < chunk.after.index

line-some : (bytes : List ℕ) (i j : ℕ) (ends : Bool) → is_one_line (split_lines (slice_range bytes i j)) ends ≡ true →
    i < j
line-some bytes i j ends h = elim (cases_lt i j) [
  | inl lt ↦ lt
  | inr ge ↦ let none : j - i ≡ zero = omega arith in
      absurd (go (j - i) none h)
]
  where
    go : (n : ℕ) → n ≡ zero → is_one_line (split_lines (take n (drop i bytes))) ends ≡ true → ⊥
    go zero e k = cc
    go (suc n) e k = absurd (omega arith)

first-of : (bytes : List ℕ) (p end : Point) (list : List Chunk) → begins_at p list ≡ true →
    are_lines bytes end list ≡ true → IsFirst p list
first-of bytes p end [] begins lines = cc
first-of bytes p end (chunk ∷ more) begins lines = record {
  chunk = chunk;
  more = more;
  are = refl;
  begins = eqb-true p.index chunk.first.index
      (and_parts (p.index == chunk.first.index) (p.vs == chunk.first.vs) begins).0;
  some = line-some bytes chunk.first.index chunk.after.index (is_none more && same_place chunk.after end)
      (and_parts
      (is_one_line (split_lines (chunk_text bytes chunk)) (is_none more && same_place chunk.after end))
      (are_lines bytes end more) lines).0;
}

part-first : (bytes : List ℕ) (at : Kind) (held : Option PartKind) (p : Point) (es : List Event) (part : Part) →
    part_at at held es ≡ part ∷ [] → is_whole_part bytes at held p es ≡ true →
    IsFirst p (chunks (pieces (inside_part es)))
part-first bytes Enter None p es part is whole = cc
part-first bytes Enter (Some kind) p es part is whole =
    let list : List Chunk = chunks (pieces (inside_part es)) in
    let front : Bool = begins_at p list && list_all (is_white_piece bytes) (pieces (inside_part es)) in
    let three : (front && are_lines bytes (part_end es) list) ≡ true =
    (and_parts (front && are_lines bytes (part_end es) list) (list_all (links_kind kind) (inside_part es)) whole).0 in
    let two : (front ≡ true) × (are_lines bytes (part_end es) list ≡ true) =
    and_parts front (are_lines bytes (part_end es) list) three in
    first-of bytes p (part_end es) list
    (and_parts (begins_at p list) (list_all (is_white_piece bytes) (pieces (inside_part es))) two.0).0 two.1
part-first bytes Exit held p es part is whole = cc

-- What is known of the last of some events.

whole-rest : (bytes : List ℕ) (xs ys : List Event) → are_whole_parts bytes (xs ++ ys) ≡ true →
    are_whole_parts bytes ys ≡ true
whole-rest bytes [] ys h = h
whole-rest bytes (e ∷ xs) ys h =
    whole-rest bytes xs ys
    (and_parts (is_whole_part bytes e.kind (part_kind e.name) e.point (xs ++ ys)) (are_whole_parts bytes (xs ++ ys))
    h).1

forward-rest : (p : Point) (xs : List Event) (e : Event) (ys : List Event) → Forward p (xs ++ e ∷ ys) →
    Forward e.point ys
forward-rest p [] e ys h = h.1
forward-rest p (x ∷ xs) e ys h = forward-rest x.point xs e ys h.1

forward-front : (p : Point) (xs : List Event) (e : Event) (ys : List Event) → Forward p (xs ++ e ∷ ys) →
    Forward p xs × IsTrue (at_or_before (last_point p xs) e.point)
forward-front p [] e ys h = (tt, h.0)
forward-front p (x ∷ xs) e ys h =
    let rest : Forward x.point xs × IsTrue (at_or_before (last_point x.point xs) e.point) =
    forward-front x.point xs e ys h.1 in
    ((h.0, rest.0), rest.1)

chunks-rest : (depth : ℕ) (xs ys : List Event) → chunks_in_parts depth (xs ++ ys) ≡ true →
    (d : ℕ) × (chunks_in_parts d ys ≡ true)
chunks-rest depth [] ys h = (depth, h)
chunks-rest zero (e ∷ xs) ys h =
    chunks-rest (cond (is_part e.name && not (is_exit e.kind)) 1 0) xs ys
    (and_parts (not (is_linked e))
    (chunks_in_parts (cond (is_part e.name && not (is_exit e.kind)) 1 0) (xs ++ ys)) h).1
chunks-rest (suc depth) (e ∷ xs) ys h = go (λ d k. chunks-rest d xs ys k) (is_part e.name) (is_linked e) h
  where
    go : ((d : ℕ) → chunks_in_parts d (xs ++ ys) ≡ true → (d : ℕ) × (chunks_in_parts d ys ≡ true)) → (x l : Bool) →
        cond x (is_exit e.kind && (depth == 0) && not l && chunks_in_parts 0 (xs ++ ys))
        (cond l ((depth == 0) && is_chunk e (xs ++ ys)) (may_be_in_part e.kind e.name)
        && chunks_in_parts (depth_following e.kind (suc depth)) (xs ++ ys)) ≡
        true →
        (d : ℕ) × (chunks_in_parts d ys ≡ true)
    go rest true l k =
        rest 0
        (and_parts (is_exit e.kind && (depth == 0) && not l) (chunks_in_parts 0 (xs ++ ys)) k).1
    go rest false l k =
        rest (depth_following e.kind (suc depth))
        (and_parts (cond l ((depth == 0) && is_chunk e (xs ++ ys)) (may_be_in_part e.kind e.name))
        (chunks_in_parts (depth_following e.kind (suc depth)) (xs ++ ys)) k).1

-- Where chunks have ended.

abbrev AllEnd : Point → List Chunk → Type 0
AllEnd q [] = Unit {0}
AllEnd q (chunk ∷ list) = IsTrue (at_or_before chunk.after q) × AllEnd q list

end-piece : (e f : Event) (k l : Kind) (rest : List Piece) (q : Point) → IsTrue (at_or_before f.point q) →
    AllEnd q (chunks rest) → AllEnd q (chunks (piece_of e f k l ++ rest))
end-piece e f Enter Exit rest q h ends = go (is_linked e)
  where
    go : (x : Bool) → AllEnd q (cond x ((record { first = e.point; after = f.point }) ∷ chunks rest) (chunks rest))
    go true = (h, ends)
    go false = ends
end-piece e f Enter Enter rest q h ends = ends
end-piece e f Exit Enter rest q h ends = ends
end-piece e f Exit Exit rest q h ends = ends

end-pieces : (e : Event) (es : List Event) (q : Point) → Forward e.point es →
    IsTrue (at_or_before (last_point e.point es) q) → AllEnd q (chunks (pieces_from e es))
end-pieces e [] q forward h = tt
end-pieces e (f ∷ es) q forward h =
    end-piece e f e.kind f.kind (pieces_from f es) q
    (at_or_before-trans f.point (last_point f.point es) q (forward-last f.point es forward.1) h)
    (end-pieces f es q forward.1 h)

end-chunks : (p : Point) (es : List Event) (q : Point) → Forward p es → IsTrue (at_or_before (last_point p es) q) →
    AllEnd q (chunks (pieces es))
end-chunks p [] q forward h = tt
end-chunks p (e ∷ es) q forward h = end-pieces e es q forward.1 h

inside-ends : (p q : Point) (es : List Event) → Forward p es → IsTrue (at_or_before (last_point p es) q) →
    Forward p (inside_part es) × IsTrue (at_or_before (last_point p (inside_part es)) q)
inside-ends p q [] forward h = (tt, h)
inside-ends p q (e ∷ es) forward h =
    go (is_part e.name && is_exit e.kind) (inside-ends e.point q es forward.1 h)
  where
    go : (x : Bool) →
        Forward e.point (inside_part es) × IsTrue (at_or_before (last_point e.point (inside_part es)) q) →
        Forward p (cond x [] (e ∷ inside_part es)) ×
        IsTrue (at_or_before (last_point p (cond x [] (e ∷ inside_part es))) q)
    go true rest = (tt, at_or_before-trans p (last_point p (e ∷ es)) q (forward-last p (e ∷ es) forward) h)
    go false rest = ((forward.0, rest.0), rest.1)

-- Whether a part ends among some events.

abbrev ends_part : List Event → Bool
ends_part [] = false
ends_part (e ∷ es) = (is_part e.name && is_exit e.kind) || ends_part es

inside-front : (xs ys : List Event) → ends_part xs ≡ true → inside_part (xs ++ ys) ≡ inside_part xs
inside-front [] ys h = cc
inside-front (e ∷ xs) ys h = go (λ k. inside-front xs ys k) (is_part e.name && is_exit e.kind) h
  where
    go : (ends_part xs ≡ true → inside_part (xs ++ ys) ≡ inside_part xs) → (x : Bool) → (x || ends_part xs) ≡ true →
        cond x [] (e ∷ inside_part (xs ++ ys)) ≡ cond x [] (e ∷ inside_part xs)
    go rest true k = refl
    go rest false k = ap (λ (l : List Event). e ∷ l) (rest k)

-- Where a part has ended, no other begins at the same byte.
never-later : (bytes : List ℕ) (p q : Point) (xs : List Event) (e : Event) (ys : List Event) (list : List Chunk) →
    Forward p (xs ++ e ∷ ys) → ends_part xs ≡ true → chunks (pieces (inside_part (xs ++ e ∷ ys))) ≡ list →
    IsFirst e.point list → ⊥
never-later bytes p q xs e ys list forward ends are first =
    let front : Forward p xs × IsTrue (at_or_before (last_point p xs) e.point) = forward-front p xs e ys forward in
    let inside : Forward p (inside_part xs) × IsTrue (at_or_before (last_point p (inside_part xs)) e.point) =
    inside-ends p e.point xs front.0 front.1 in
    let all : AllEnd e.point (chunks (pieces (inside_part xs))) =
    end-chunks p (inside_part xs) e.point inside.0 inside.1 in
    let same : chunks (pieces (inside_part xs)) ≡ first.chunk ∷ first.more =
    ap (λ (l : List Event). chunks (pieces l)) (sym (inside-front xs (e ∷ ys) ends)) ∙ are ∙ first.are in
    let one : AllEnd e.point (first.chunk ∷ first.more) = subst (AllEnd e.point) same all in
    go first.chunk.after e.point first.chunk.first one.0 first.begins first.some
  where
    go : (after here begins : Point) → IsTrue (at_or_before after here) → here.index ≡ begins.index →
        begins.index < after.index → ⊥
    go after here begins h same some = grind (arith, common_steps)

-- No part begins inside of another.

abbrev depth_of : List Name → ℕ
depth_of [] = zero
depth_of (name ∷ names) = suc (depth_of names)

barred : (x : Bool) (k : Kind) (a b c d : Bool) → x ≡ true → k ≡ Enter →
    cond x (is_exit k && a && b && c) d ≡ true → ⊥
barred true Enter a b c d h e k = cc
barred true Exit a b c d h e k = cc
barred false k a b c d h e l = cc

never-inside : (names : List Name) (own : Name) (outer : List Name) (xs : List Event) (e : Event) (ys : List Event) →
    is_part own ≡ true → Matches (names ++ own ∷ outer) (xs ++ e ∷ ys) →
    chunks_in_parts (suc (depth_of names)) (xs ++ e ∷ ys) ≡ true → ends_part xs ≡ false → e.kind ≡ Enter →
    is_part e.name ≡ true → ⊥
never-inside names own outer [] e ys is matches inside ends enters begins =
    barred (is_part e.name) e.kind (depth_of names == 0) (not (is_linked e)) (chunks_in_parts 0 ys)
    (cond (is_linked e) ((depth_of names == 0) && is_chunk e ys) (may_be_in_part e.kind e.name)
    && chunks_in_parts (depth_following e.kind (suc (depth_of names))) ys) begins enters inside
never-inside names own outer (x ∷ xs) e ys is matches inside ends enters begins =
    go (λ n m c h. never-inside n own outer xs e ys is m c h enters begins) x.kind (is_part x.name) names refl matches
    inside (or_parts (is_part x.name && is_exit x.kind) (ends_part xs) ends)
  where
    rest : List Event
    rest = xs ++ e ∷ ys

    go : ((n : List Name) → Matches (n ++ own ∷ outer) rest → chunks_in_parts (suc (depth_of n)) rest ≡ true →
        ends_part xs ≡ false → ⊥) → (k : Kind) (p : Bool) (names : List Name) → is_part x.name ≡ p →
        Fits (names ++ own ∷ outer) k x.name × Matches (open_following (names ++ own ∷ outer) k x.name) rest →
        cond p (is_exit k && (depth_of names == 0) && not (is_linked x) && chunks_in_parts 0 rest)
        (cond (is_linked x) ((depth_of names == 0) && is_chunk x rest) (may_be_in_part k x.name)
        && chunks_in_parts (depth_following k (suc (depth_of names))) rest) ≡
        true →
        ((p && is_exit k) ≡ false) × (ends_part xs ≡ false) → ⊥
    go deeper Enter true names named m c none = cc
    go deeper Exit true names named m c none = cc
    go deeper Enter false names named m c none =
        deeper (x.name ∷ names) m.1
        (and_parts (cond (is_linked x) ((depth_of names == 0) && is_chunk x rest) (may_be_in_part Enter x.name))
        (chunks_in_parts (suc (suc (depth_of names))) rest) c).1 none.1
    go deeper Exit false [] named m c none = cc
    go deeper Exit false (name ∷ names) named m c none =
        deeper names m.1
        (and_parts
        (cond (is_linked x) ((depth_of (name ∷ names) == 0) && is_chunk x rest) (may_be_in_part Exit x.name))
        (chunks_in_parts (suc (depth_of names)) rest) c).1 none.1

-- directly inside of a part
depth-inside : (d : ℕ) (e : Event) (ys : List Event) → e.kind ≡ Enter → is_part e.name ≡ true →
    chunks_in_parts d (e ∷ ys) ≡ true → chunks_in_parts 1 ys ≡ true
depth-inside zero e ys enters begins h = go (is_part e.name) e.kind begins enters (and_parts (not (is_linked e)) _ h).1
  where
    go : (x : Bool) (k : Kind) → x ≡ true → k ≡ Enter →
        chunks_in_parts (cond (x && not (is_exit k)) 1 0) ys ≡ true → chunks_in_parts 1 ys ≡ true
    go true Enter a b c = c
    go true Exit a b c = cc
    go false k a b c = cc
depth-inside (suc d) e ys enters begins h =
    absurd
    (barred (is_part e.name) e.kind (d == 0) (not (is_linked e)) (chunks_in_parts 0 ys)
    (cond (is_linked e) ((d == 0) && is_chunk e ys) (may_be_in_part e.kind e.name)
    && chunks_in_parts (depth_following e.kind (suc d)) ys) begins enters h)

-- So a part does not begin twice.
never-twice : (bytes : List ℕ) (before : List Event) (first : Event) (between : List Event) (second : Event)
    (following : List Event) (part : Part) →
    IsBlockList bytes (before ++ first ∷ (between ++ second ∷ following)) →
    part_at first.kind (part_kind first.name) (between ++ second ∷ following) ≡ part ∷ [] →
    part_at second.kind (part_kind second.name) following ≡ part ∷ [] → ⊥
never-twice bytes before first between second following part list one two =
    let rest : List Event = between ++ second ∷ following in
    let enters : first.kind ≡ Enter = part-enter first.kind (part_kind first.name) rest part one in
    let begins : is_part first.name ≡ true = part-kind first.kind (part_kind first.name) rest part one in
    let enters-second : second.kind ≡ Enter = part-enter second.kind (part_kind second.name) following part two in
    let begins-second : is_part second.name ≡ true = part-kind second.kind (part_kind second.name) following part two in
    let whole : are_whole_parts bytes rest ≡ true =
    (and_parts (is_whole_part bytes first.kind (part_kind first.name) first.point rest) (are_whole_parts bytes rest)
    (whole-rest bytes before (first ∷ rest) list.lines)).1 in
    let whole-second : is_whole_part bytes second.kind (part_kind second.name) second.point following ≡ true =
    (and_parts (is_whole_part bytes second.kind (part_kind second.name) second.point following)
    (are_whole_parts bytes following) (whole-rest bytes between (second ∷ following) whole)).0 in
    let chunk : IsFirst second.point (chunks (pieces (inside_part following))) =
    part-first bytes second.kind (part_kind second.name) second.point following part two whole-second in
    let same : chunks (pieces (inside_part rest)) ≡ chunks (pieces (inside_part following)) =
    part-list first.kind (part_kind first.name) rest part one
    ∙ sym (part-list second.kind (part_kind second.name) following part two) in
    let forward : Forward first.point rest = forward-rest first_point before first rest list.nested.forward in
    let matches : Matches (open_following (open_after [] before) first.kind first.name) rest =
    (matches-rest [] before (first ∷ rest) list.nested.balanced.matches).1 in
    let inside : Matches (first.name ∷ open_after [] before) rest =
    subst (λ (k : Kind). Matches (open_following (open_after [] before) k first.name) rest) enters matches in
    let deep : (d : ℕ) × (chunks_in_parts d (first ∷ rest) ≡ true) = chunks-rest 0 before (first ∷ rest) list.chunks in
    let one_deep : chunks_in_parts 1 rest ≡ true = depth-inside deep.0 first rest enters begins deep.1 in
    go (ends_part between) refl rest refl chunk same forward inside one_deep begins enters-second begins-second
  where
    go : (x : Bool) → ends_part between ≡ x → (rest : List Event) → rest ≡ between ++ second ∷ following →
        IsFirst second.point (chunks (pieces (inside_part following))) →
        chunks (pieces (inside_part rest)) ≡ chunks (pieces (inside_part following)) → Forward first.point rest →
        Matches (first.name ∷ open_after [] before) rest → chunks_in_parts 1 rest ≡ true → is_part first.name ≡ true →
        second.kind ≡ Enter → is_part second.name ≡ true → ⊥
    go true ends rest are chunk same forward inside deep begins enters begins-second =
        never-later bytes first.point first.point between second following
        (chunks (pieces (inside_part following))) (subst (Forward first.point) are forward) ends
        (ap (λ (l : List Event). chunks (pieces (inside_part l))) (sym are) ∙ same) chunk
    go false ends rest are chunk same forward inside deep begins enters begins-second =
        never-inside [] first.name (open_after [] before) between second following begins
        (subst (Matches (first.name ∷ open_after [] before)) are inside)
        (subst (λ (l : List Event). chunks_in_parts 1 l ≡ true) are deep) ends enters begins-second

-- Two events of a list: they are the same, or one is after the other.

record IsAfter (xs : List Event) (a : Event) (cs ys : List Event) (b : Event) (bs : List Event) : Type 0 where
  between : List Event
  front : ys ≡ xs ++ a ∷ between
  back : cs ≡ between ++ b ∷ bs

abbrev AreSame : List Event → Event → List Event → List Event → Event → List Event → Type 0
AreSame xs a cs ys b bs = (xs ≡ ys) × (a ≡ b)

two-of : (xs : List Event) (a : Event) (cs ys : List Event) (b : Event) (bs : List Event) →
    xs ++ a ∷ cs ≡ ys ++ b ∷ bs →
    AreSame xs a cs ys b bs ⊎ (IsAfter xs a cs ys b bs ⊎ IsAfter ys b bs xs a cs)
two-of [] a cs [] b bs is = inl (refl, cc)
two-of [] a cs (y ∷ ys) b bs is =
    let head : y ≡ a = cc in
    let tail : cs ≡ ys ++ b ∷ bs = cc in
    inr (inl (record { between = ys; front = ap (λ (e : Event). e ∷ ys) head; back = tail }))
two-of (x ∷ xs) a cs [] b bs is =
    let head : x ≡ b = cc in
    let tail : bs ≡ xs ++ a ∷ cs = cc in
    inr (inr (record { between = xs; front = ap (λ (e : Event). e ∷ xs) head; back = tail }))
two-of (x ∷ xs) a cs (y ∷ ys) b bs is =
    let head : x ≡ y = cc in
    let tail : xs ++ a ∷ cs ≡ ys ++ b ∷ bs = cc in
    elim (two-of xs a cs ys b bs tail) [
      | inl same ↦ inl (ap (λ (l : List Event). x ∷ l) same.0 ∙ ap (λ (e : Event). e ∷ ys) head, same.1)
      | inr other ↦ elim other [
        | inl r ↦ inr (inl (record {
          between = r.between;
          front = ap (λ (e : Event). e ∷ ys) (sym head) ∙ ap (λ (l : List Event). x ∷ l) r.front;
          back = r.back;
        }))
        | inr r ↦ inr (inr (record {
          between = r.between;
          front = ap (λ (e : Event). e ∷ xs) head ∙ ap (λ (l : List Event). y ∷ l) r.front;
          back = r.back;
        }))
      ]
    ]

after-twice : (bytes : List ℕ) (blocks xs : List Event) (a : Event) (cs ys : List Event) (b : Event)
    (bs : List Event) (part : Part) →
    IsBlockList bytes blocks → blocks ≡ xs ++ a ∷ cs → part_at a.kind (part_kind a.name) cs ≡ part ∷ [] →
    part_at b.kind (part_kind b.name) bs ≡ part ∷ [] → IsAfter xs a cs ys b bs → ⊥
after-twice bytes blocks xs a cs ys b bs part list are one two r =
    never-twice bytes xs a r.between b bs part
    (subst (IsBlockList bytes) (are ∙ ap (λ (l : List Event). xs ++ a ∷ l) r.back) list)
    (subst (λ (l : List Event). part_at a.kind (part_kind a.name) l ≡ part ∷ []) r.back one) two

-- A text part is at one place of a block list.
pub place-once : (bytes : List ℕ) (blocks : List Event) (part : Part) (one other : PartPlace) →
    IsBlockList bytes blocks → IsPartAt blocks part one → IsPartAt blocks part other → one ≡ other
place-once bytes blocks part one other list a b =
    elim (two-of a.before a.begin a.following b.before b.begin b.following (sym a.among ∙ b.among)) [
      | inl same ↦ a.place_is
          ∙ ap (λ (l : List Event). place_of l a.begin) same.0
          ∙ ap (place_of b.before) same.1
          ∙ sym b.place_is
      | inr apart ↦ absurd (elim apart [
        | inl r ↦ after-twice bytes blocks a.before a.begin a.following b.before b.begin b.following part list
            a.among a.begins b.begins r
        | inr r ↦ after-twice bytes blocks b.before b.begin b.following a.before a.begin a.following part list
            b.among b.begins a.begins r
      ])
    ]

-- A text part of a document has one place.

listed : (document : Document) (part : Part) (place : PartPlace) → IsTextPartAt document part place →
    IsPartAt (exact document.options document.bytes) part place
listed document part place is =
    subst (λ (l : List Event). IsPartAt l part place) is.are.exact_list
    (record {
      before = is.before;
      begin = is.begin;
      following = is.following;
      among = is.among;
      begins = is.begins;
      place_is = is.place_is;
    })

pub one-place : (document : Document) (part : Part) (one other : PartPlace) → IsTextPartAt document part one →
    IsTextPartAt document part other → one ≡ other
one-place document part one other a b =
    place-once document.bytes (exact document.options document.bytes) part one other
    (subst (IsBlockList document.bytes) a.are.exact_list a.are.list) (listed document part one a)
    (listed document part other b)
