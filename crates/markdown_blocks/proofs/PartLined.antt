-- Text parts that are read as lines, of two lists of events one after the other, and of a text that is longer.
use Rattle.std.proofs.Common.{◌≡◌, ◌^◌, ◌<◌, ◌≤◌, ◌+◌, ◌-◌, ℕ, zero, suc, Bool, true, false, cond, not, ◌&&◌, List, []}
use Rattle.std.proofs.Common.{◌∷◌, ◌++◌, length, take, drop, refl, ap, sym, ◌∙◌, subst, append_assoc, arith}
use Rattle.std.proofs.Math.ListN.{get_or-eq_default}
use Rattle.std.proofs.lemmas.Bool.Decides.{nat_tests}
use Rattle.std.specs.Prelude.{◌==◌, Option, Some, None, nat_le, nat_lt, slice_index, slice_range}
use Rattle.std.proofs.Math.Logic.{∥∥₁_map}
use Rattle.std.proofs.lemmas.Bool.{and_parts, not-true}
use Rattle.std.proofs.lemmas.List.{drop-take, get_or-take, length-take-le, take-take}
use Rattle.std.proofs.lemmas.List.Elements.{All-head, All-tail}
use Rattle.md_engine.specs.Place.{IsPlaced, is_pair, next_point, stepped, walked}
use Rattle.md_engine.specs.declared.event.Content.{Content}
use Rattle.md_engine.specs.declared.event.Event.{Event}
use Rattle.md_engine.specs.declared.event.Name.TheVariants as n
use Rattle.md_engine.specs.declared.event.Point.{Point}
use Rattle.md_events.specs.Events.Inline.{pair_unless_empty, plain_chunk}
use Rattle.md_events.specs.Events.Nested.{is_exit}
use Rattle.md_events.specs.Events.Places.{past_text, splits_pair}
use Rattle.md_events.specs.Events.Tiles.{chunks_in_parts, depth_following, is_chunk, is_part, may_be_in_part}
use Rattle.md_events.specs.Lined.{lined}
use Rattle.md_events.specs.Parts.{ArePlaced}
use Rattle.md_events.specs.Substituted.{chunk_of, wanted}
use Rattle.md_events.specs.TextPart.{wants_text}
use Rattle.md_events.specs.declared.inline.Chunk.{Chunk}
use Rattle.md_events.proofs.PartWalks.{unlinked-unwanted}
use Rattle.md_events.proofs.ReachedLemmas.{index-following, step-inside}
use Rattle.md_meaning.specs.Lines.{without_ending}
use Rattle.md_events.specs.Events.Inline.{is_linked}

-- One list after the other.

-- no chunk begins with the last of some events
abbrev pub NoneLast : (Content → Bool) → List Event → Type 0
NoneLast wants [] = Unit {0}
NoneLast wants (e ∷ []) = wanted wants e ≡ None
NoneLast wants (e ∷ f ∷ es) = NoneLast wants (f ∷ es)

-- the events from one on, by whether a chunk begins there
abbrev pub LinedBy : (Content → Bool) → List ℕ → Event → Event → List Event → Option Content → List Event
LinedBy wants bytes e f es o = elim o [
  | None ↦ e ∷ lined wants bytes (f ∷ es)
  | Some _ ↦ plain_chunk bytes (chunk_of e f) ++ lined wants bytes es
]

pub lined-one : (wants : Content → Bool) (bytes : List ℕ) (e : Event) (es : List Event) → wanted wants e ≡ None →
    lined wants bytes (e ∷ es) ≡ e ∷ lined wants bytes es
lined-one wants bytes e [] none = refl
lined-one wants bytes e (f ∷ es) none = ap (LinedBy wants bytes e f es) none

none-later : (wants : Content → Bool) (f : Event) (es : List Event) → NoneLast wants (f ∷ es) → NoneLast wants es
none-later wants f [] none = tt
none-later wants f (g ∷ es) none = none

pub lined-append : (wants : Content → Bool) (bytes : List ℕ) (xs ys : List Event) → NoneLast wants xs →
    lined wants bytes (xs ++ ys) ≡ lined wants bytes xs ++ lined wants bytes ys
lined-append wants bytes [] ys none = refl
lined-append wants bytes (e ∷ []) ys none = lined-one wants bytes e ys none
lined-append wants bytes (e ∷ f ∷ es) ys none =
    go (wanted wants e) (lined-append wants bytes (f ∷ es) ys none)
    (lined-append wants bytes es ys (none-later wants f es none))
  where
    go : (o : Option Content) →
        lined wants bytes (f ∷ (es ++ ys)) ≡ lined wants bytes (f ∷ es) ++ lined wants bytes ys →
        lined wants bytes (es ++ ys) ≡ lined wants bytes es ++ lined wants bytes ys →
        LinedBy wants bytes e f (es ++ ys) o ≡ LinedBy wants bytes e f es o ++ lined wants bytes ys
    go None next later = ap (λ (l : List Event). e ∷ l) next
    go (Some held) next later =
        ap (λ (l : List Event). plain_chunk bytes (chunk_of e f) ++ l) later
        ∙ sym (append_assoc (plain_chunk bytes (chunk_of e f)) (lined wants bytes es) (lined wants bytes ys))

-- where chunks are in text parts, none does
pub chunks-last : (depth : ℕ) (es : List Event) → chunks_in_parts depth es ≡ true → NoneLast wants_text es
chunks-last depth [] h = tt
chunks-last zero (e ∷ []) h =
    unlinked-unwanted wants_text e (not-true (is_linked e) (and_parts (not (is_linked e)) true h).0)
chunks-last (suc depth) (e ∷ []) h = unlinked-unwanted wants_text e (go (is_part e.name) (is_linked e) h)
  where
    go : (x y : Bool) →
        cond x (is_exit e.kind && (depth == 0) && not y && true)
        (cond y ((depth == 0) && false) (may_be_in_part e.kind e.name) && true) ≡ true → y ≡ false
    go x false h = refl
    go true true h =
        let no : false ≡ true = (and_parts (is_exit e.kind && (depth == 0)) false
        (and_parts (is_exit e.kind && (depth == 0) && false) true h).0).1 in cc
    go false true h =
        let no : false ≡ true = (and_parts (depth == 0) false (and_parts ((depth == 0) && false) true h).0).1 in cc
chunks-last zero (e ∷ f ∷ es) h =
    chunks-last (cond (is_part e.name && not (is_exit e.kind)) 1 0) (f ∷ es)
    (and_parts (not (is_linked e))
    (chunks_in_parts (cond (is_part e.name && not (is_exit e.kind)) 1 0) (f ∷ es)) h).1
chunks-last (suc depth) (e ∷ f ∷ es) h =
    go (is_part e.name) (cond (is_linked e) ((depth == 0) && is_chunk e (f ∷ es)) (may_be_in_part e.kind e.name)) h
    (λ k. chunks-last 0 (f ∷ es) k) (λ k. chunks-last (depth_following e.kind (suc depth)) (f ∷ es) k)
  where
    go : (x y : Bool) →
        cond x (is_exit e.kind && (depth == 0) && not (is_linked e) && chunks_in_parts 0 (f ∷ es))
        (y && chunks_in_parts (depth_following e.kind (suc depth)) (f ∷ es)) ≡ true →
        (chunks_in_parts 0 (f ∷ es) ≡ true → NoneLast wants_text (f ∷ es)) →
        (chunks_in_parts (depth_following e.kind (suc depth)) (f ∷ es) ≡ true → NoneLast wants_text (f ∷ es)) →
        NoneLast wants_text (f ∷ es)
    go true y h outside inside =
        outside (and_parts (is_exit e.kind && (depth == 0) && not (is_linked e)) (chunks_in_parts 0 (f ∷ es)) h).1
    go false y h outside inside =
        inside (and_parts y (chunks_in_parts (depth_following e.kind (suc depth)) (f ∷ es)) h).1

-- In a longer text.

-- what is before a place is the same where the text is cut there
range-within : (text : List ℕ) (to a b : ℕ) → b ≤ to → slice_range (take to text) a b ≡ slice_range text a b
range-within text to a b within = go (nat_le a to) refl
  where
    go : (x : Bool) → nat_le a to ≡ x → slice_range (take to text) a b ≡ slice_range text a b
    go true e =
        let before : a ≤ to = grind (arith, nat_tests) in
        let same : to ≡ a + (to - a) = omega (arith, before) in
        ap (λ (n : ℕ). take (b - a) (drop a (take n text))) same ∙ ap (take (b - a)) (drop-take a (to - a) text)
        ∙ take-take (b - a) (to - a) (drop a text) (omega (arith, within, before))
    go false e =
        let none : b - a ≡ 0 = let after : to < a = grind (arith, nat_tests) in omega (arith, within, after) in
        ap (λ (n : ℕ). take n (drop a (take to text))) none ∙ ap (λ (n : ℕ). take n (drop a text)) (sym none)

take-short : (n : ℕ) (l : List ℕ) → length (take n l) ≤ n
take-short zero l = omega arith
take-short (suc n) [] = omega arith
take-short (suc n) (b ∷ l) = let more = take-short n l in omega (arith, more)

chunk-within : (text : List ℕ) (to : ℕ) (chunk : Chunk) → chunk.after.index ≤ to →
    plain_chunk (take to text) chunk ≡ plain_chunk text chunk
chunk-within text to chunk within =
    ap (λ (l : List ℕ). of (past_text (without_ending l) chunk.first))
    (range-within text to chunk.first.index chunk.after.index within)
  where
    of : Point → List Event
    of end = pair_unless_empty n.Data chunk.first end ++ pair_unless_empty n.LineEnding end chunk.after

pub lined-within : (wants : Content → Bool) (text : List ℕ) (to : ℕ) (es : List Event) → ArePlaced (take to text) es →
    lined wants (take to text) es ≡ lined wants text es
lined-within wants text to [] placed = refl
lined-within wants text to (e ∷ []) placed = refl
lined-within wants text to (e ∷ f ∷ es) placed =
    go (wanted wants e) (lined-within wants text to (f ∷ es) next) (lined-within wants text to es later)
  where
    P : Event → Type 0
    P d = IsPlaced (take to text) d.point

    next : ArePlaced (take to text) (f ∷ es)
    next = All-tail P e (f ∷ es) placed

    later : ArePlaced (take to text) es
    later = All-tail P f es next

    within : f.point.index ≤ to
    within = let at = (All-head P f es next).index in omega (arith, at, take-short to text)

    go : (o : Option Content) → lined wants (take to text) (f ∷ es) ≡ lined wants text (f ∷ es) →
        lined wants (take to text) es ≡ lined wants text es →
        LinedBy wants (take to text) e f es o ≡ LinedBy wants text e f es o
    go None h k = ap (λ (l : List Event). e ∷ l) h
    go (Some held) h k =
        ap (λ (l : List Event). l ++ lined wants (take to text) es) (chunk-within text to (chunk_of e f) within)
        ∙ ap (λ (l : List Event). plain_chunk text (chunk_of e f) ++ l) k

-- So are its points, if no ending is cut there.

and-false : (x : Bool) → (x && false) ≡ false
and-false true = refl
and-false false = refl

pair-within : (text : List ℕ) (to i : ℕ) → splits_pair text to ≡ false → i < to →
    is_pair (take to text) i ≡ is_pair text i
pair-within text to i whole lt = go (nat_lt (i + 1) to) refl
  where
    first : slice_index (take to text) i ≡ slice_index text i
    first = get_or-take to text i 0 lt

    go : (x : Bool) → nat_lt (i + 1) to ≡ x → is_pair (take to text) i ≡ is_pair text i
    go true e =
        let more : i + 1 < to = grind (arith, nat_tests) in
        ap (λ (b : ℕ). (b == 13) && (slice_index (take to text) (i + 1) == 10)) first
        ∙ ap (λ (b : ℕ). (slice_index text i == 13) && (b == 10)) (get_or-take to text (i + 1) 0 more)
    go false e =
        let last : i + 1 ≡ to = let le : to ≤ i + 1 = grind (arith, nat_tests) in omega (arith, le, lt) in
        let past : slice_index (take to text) (i + 1) ≡ 0 =
        get_or-eq_default (take to text) 0 (omega (arith, last, take-short to text)) in
        let here : to - 1 ≡ i = omega (arith, last) in
        let some : nat_lt 0 to ≡ true = grind (arith, nat_tests) in
        ap (λ (b : ℕ). (slice_index (take to text) i == 13) && (b == 10)) past
        ∙ and-false (slice_index (take to text) i == 13)
        ∙ sym
        (ap (is_pair text) (sym here)
        ∙ ap (λ (t : Bool). t && is_pair text (to - 1)) (sym some) ∙ whole)

next-within : (text : List ℕ) (to : ℕ) (p : Point) → splits_pair text to ≡ false → p.index < to →
    next_point (take to text) p ≡ next_point text p
next-within text to p whole lt =
    ap (λ (b : ℕ). stepped b (is_pair (take to text) p.index) p) (get_or-take to text p.index 0 lt)
    ∙ ap (λ (x : Bool). stepped (slice_index text p.index) x p) (pair-within text to p.index whole lt)

walked-within : (text : List ℕ) (to : ℕ) → to ≤ length text → splits_pair text to ≡ false → (n : ℕ) →
    (walked (take to text) n).index ≤ to → walked (take to text) n ≡ walked text n
unfolding walked
walked-within text to le whole zero h = refl
walked-within text to le whole (suc n) h =
    let size : length (take to text) ≡ to = length-take-le to text le in
    let q : Point = walked (take to text) n in
    let lt : q.index < length (take to text) = step-inside (take to text) q (omega (arith, h, size)) in
    next-within text to q whole (omega (arith, lt, size))
    ∙ ap (next_point text) (walked-within text to le whole n (omega (arith, lt, size)))

pub placed-within : (text : List ℕ) (to : ℕ) (p : Point) → length text < 2 ^ 61 → to ≤ length text →
    splits_pair text to ≡ false → IsPlaced (take to text) p → IsPlaced text p
placed-within text to p small le whole h = record {
  sized = small;
  index = omega (arith, within, le);
  line = h.line;
  column = h.column;
  vs = h.vs;
  reached = ∥∥₁_map h.reached
      (λ r. (
        r.0,
        r.1
            ∙ walked-within text to le whole r.0
            (subst (λ (q : Point). q.index ≤ to) r.1 within),
      ));
}
  where
    within : p.index ≤ to
    within = let at = h.index in omega (arith, at, length-take-le to text le)

-- And a point before its end is one of the part.

walked-before : (text : List ℕ) (to : ℕ) → splits_pair text to ≡ false → (n : ℕ) → (walked text n).index < to →
    walked text n ≡ walked (take to text) n
unfolding walked
walked-before text to whole zero h = refl
walked-before text to whole (suc n) h =
    let q : Point = walked text n in
    let lt : q.index < to = let le = index-following text q in omega (arith, le, h) in
    sym (next-within text to q whole lt) ∙ ap (next_point (take to text)) (walked-before text to whole n lt)

pub placed-before : (text : List ℕ) (to : ℕ) (p : Point) → to ≤ length text → splits_pair text to ≡ false →
    p.index < to → IsPlaced text p → IsPlaced (take to text) p
placed-before text to p le whole lt h =
    let long = length-take-le to text le in
    record {
      sized = let most = h.sized in omega (arith, long, le, most);
      index = omega (arith, lt, long);
      line = h.line;
      column = h.column;
      vs = h.vs;
      reached = ∥∥₁_map h.reached
          (λ r. (r.0, r.1 ∙ walked-before text to whole r.0 (subst (λ (q : Point). q.index < to) r.1 lt)));
    }
