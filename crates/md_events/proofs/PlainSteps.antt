-- The steps of the plain layer: over a line byte by byte, and chunk by chunk.
use Rattle.std.proofs.Common.{◌≡◌, ℕ, suc, ◌+◌, ◌-◌, ◌<◌, ◌≤◌, ◌⊎◌, inl, inr, Bool, true, false, cond, ◌&&◌}
use Rattle.std.proofs.Common.{◌||◌, List, [], ◌∷◌, ◌++◌, length, min, get_or, take, drop, refl, ap, sym, ◌∙◌, subst}
use Rattle.std.proofs.Common.{append_assoc, length-drop, arith}
use Rattle.std.specs.Prelude.{◌==◌, IsTrue, not, slice_index, slice_range}
use Rattle.std.specs.List.{list_all, onto_first, prefix_len}
use Rattle.std.proofs.lemmas.Bool.{cases_lt, and_from, and_parts, eqb-true, eq-eqb}
use Rattle.std.proofs.lemmas.Bool.Decides.{nat_tests}
use Rattle.std.proofs.lemmas.List.{append-nil, drop_more, drop-drop, drop-take, length-take, take-append-drop}
use Rattle.std.proofs.lemmas.List.{take_more}
use Rattle.std.proofs.lemmas.List.Folds.{length-prefix_len}
use Rattle.std.proofs.lemmas.List.Sums.{take_while-cons}
use Rattle.md_engine.specs.declared.event.Point.{Point}
use Rattle.md_engine.specs.declared.event.Event.{Event}
use Rattle.md_meaning.specs.Lines.{is_ending, begins_with, ends_line, without_ending}
use Rattle.md_meaning.specs.Texts.{split_lines}
use Rattle.md_events.specs.Events.Places.{past_byte, past_text, same_place}
use Rattle.md_events.specs.declared.inline.Chunk.{Chunk}
use Rattle.md_events.specs.Parts.{IsChunk}
use Rattle.md_events.specs.Events.Inline.{are_lines, chunk_text, ends_whole, is_line, is_none, is_one_line}
use Rattle.md_events.specs.Events.Inline.{line_end, plain_chunk, plain_chunks, together}
use Rattle.md_events.proofs.InlineLemmas.{line-length, past-index, past-vs}
use Rattle.md_events.proofs.PlacesLemmas.{Some_line, some-split}
use Rattle.md_meaning.proofs.TextsLemmas.{NoEnding, Ending, LineFeed, Return, Both, ending_bytes, EndsBefore}
use Rattle.md_meaning.proofs.TextsLemmas.{split-next}

-- Over a line.

-- what is left of a line
abbrev pub line_left : List ℕ → Point → ℕ → List ℕ
line_left bytes p end = without_ending (slice_range bytes p.index end)

pub range-next : (bytes : List ℕ) (i end : ℕ) → i < end → i < length bytes →
    slice_range bytes i end ≡ slice_index bytes i ∷ slice_range bytes (i + 1) end
range-next bytes i end h k =
    let more : end - i ≡ suc (end - (i + 1)) = omega arith in
    ap (λ (l : List ℕ). take (end - i) l) (drop_more bytes i 0 k)
    ∙ ap (λ (n : ℕ). take n (slice_index bytes i ∷ drop (i + 1) bytes)) more

pub range-none : (bytes : List ℕ) (i end : ℕ) → end ≤ i → slice_range bytes i end ≡ []
range-none bytes i end h = let none : end - i ≡ 0 = omega arith in ap (λ (n : ℕ). take n (drop i bytes)) none

-- one byte more
pub line-more : (bytes : List ℕ) (p : Point) (end : ℕ) → p.index < end → end ≤ length bytes →
    is_ending (slice_index bytes p.index) ≡ false →
    line_left bytes p end ≡ slice_index bytes p.index ∷ without_ending (slice_range bytes (p.index + 1) end)
line-more bytes p end h k plain =
    ap without_ending (range-next bytes p.index end h (omega arith))
    ∙ take_while-cons (λ (b : ℕ). not (is_ending b)) (slice_index bytes p.index) (slice_range bytes (p.index + 1) end)
    ∙ ap
    (λ (x : Bool).
    cond (not x) (slice_index bytes p.index ∷ without_ending (slice_range bytes (p.index + 1) end)) []) plain

-- none at an ending
pub line-stop : (bytes : List ℕ) (p : Point) (end : ℕ) → p.index < end → end ≤ length bytes →
    is_ending (slice_index bytes p.index) ≡ true → line_left bytes p end ≡ []
line-stop bytes p end h k ends =
    ap without_ending (range-next bytes p.index end h (omega arith))
    ∙ take_while-cons (λ (b : ℕ). not (is_ending b)) (slice_index bytes p.index) (slice_range bytes (p.index + 1) end)
    ∙ ap
    (λ (x : Bool).
    cond (not x) (slice_index bytes p.index ∷ without_ending (slice_range bytes (p.index + 1) end)) []) ends

-- nor at the end
pub line-end : (bytes : List ℕ) (p : Point) (end : ℕ) → end ≤ p.index → line_left bytes p end ≡ []
line-end bytes p end h = ap without_ending (range-none bytes p.index end h)

-- after a byte of a line, what is left leads to the same end
pub line-step : (bytes : List ℕ) (p : Point) (end : ℕ) → p.index < end → end ≤ length bytes →
    is_ending (slice_index bytes p.index) ≡ false →
    past_text (line_left bytes (past_byte (slice_index bytes p.index) p) end)
    (past_byte (slice_index bytes p.index) p) ≡
    past_text (line_left bytes p end) p
line-step bytes p end h k plain = sym (ap (λ (l : List ℕ). past_text l p) (line-more bytes p end h k plain))

-- After the line of a chunk is its ending.

split-none : (text : List ℕ) → split_lines text ≡ [] ∷ [] → text ≡ []
split-none [] e = refl
split-none (b ∷ bs) e = absurd (go (ends_line b bs) refl (is_ending b) refl e)
  where
    not_none : split_lines bs ≡ [] → ⊥
    not_none k = subst Some_line k (some-split bs)

    onto : (lines : List (List ℕ)) → onto_first b lines ≡ [] ∷ [] → ⊥
    onto [] k = cc
    onto (line ∷ lines) k = cc

    feed : (bs : List ℕ) → begins_with 10 bs ≡ true → split_lines bs ≡ [] ∷ [] → ⊥
    feed [] h k = cc
    feed (c ∷ cs) h k =
        let is : c ≡ 10 = eqb-true c 10 h in
        let k : [] ∷ split_lines cs ≡ [] ∷ [] = subst (λ (c : ℕ). split_lines (c ∷ cs) ≡ [] ∷ []) is k in
        let none : split_lines cs ≡ [] = cc in
        subst Some_line none (some-split cs)

    inner : (x y : Bool) → ((b == 10) || ((b == 13) && not (begins_with 10 bs))) ≡ false →
        ((b == 10) || (b == 13)) ≡ true → begins_with 10 bs ≡ true
    inner x y h k = grind (arith, nat_tests)

    go : (x : Bool) → ends_line b bs ≡ x → (y : Bool) → is_ending b ≡ y →
        cond x ([] ∷ split_lines bs) (cond y (split_lines bs) (onto_first b (split_lines bs))) ≡ [] ∷ [] → ⊥
    go true h y k e = let none : split_lines bs ≡ [] = cc in not_none none
    go false h true k e = feed bs (inner true true h k) e
    go false h false k e = onto (split_lines bs) e

-- what follows a line that is the last, but for its ending
last-lines : (line : List ℕ) (text : List ℕ) → IsTrue (is_one_line (line ∷ split_lines text) true) → text ≡ []
last-lines line text h = go line (split_lines text) refl (some-split text) h
  where
    go : (line : List ℕ) (lines : List (List ℕ)) → split_lines text ≡ lines → Some_line lines →
        IsTrue (is_one_line (line ∷ lines) true) → text ≡ []
    go line [] e some h = absurd some
    go line ([] ∷ []) e some h = split-none text e
    go [] ((c ∷ cs) ∷ []) e some h = cc
    go (b ∷ bs) ((c ∷ cs) ∷ []) e some h = cc
    go [] ([] ∷ next ∷ lines) e some h = cc
    go (b ∷ bs) ([] ∷ next ∷ lines) e some h = cc
    go [] ((c ∷ cs) ∷ next ∷ lines) e some h = cc
    go (b ∷ bs) ((c ∷ cs) ∷ next ∷ lines) e some h = cc

-- an ending, of which no part is left
pub data Rests (b : ℕ) (rest : List ℕ) : Type 0 where
  One : rest ≡ [] → Rests b rest
  Two : b ≡ 13 → rest ≡ 10 ∷ [] → Rests b rest

pub rests-of : (line : List ℕ) (b : ℕ) (rest : List ℕ) → NoEnding line → is_ending b ≡ true →
    IsTrue (is_one_line (split_lines (line ++ b ∷ rest)) true) → Rests b rest
rests-of line b rest plain ends h = go (b == 10) refl (b == 13) refl (begins_with 10 rest) refl
  where
    next : (ending : Ending) (bs : List ℕ) → b ∷ rest ≡ ending_bytes ending ++ bs → EndsBefore ending bs → bs ≡ []
    next ending bs is before =
        let e : line ++ b ∷ rest ≡ line ++ ending_bytes ending ++ bs = ap (λ (l : List ℕ). line ++ l) is
        ∙ sym (append_assoc line (ending_bytes ending) bs) in
        last-lines line bs
        (subst (λ (ls : List (List ℕ)). IsTrue (is_one_line ls true))
        (ap split_lines e ∙ split-next line ending bs plain before) h)

    feed : (rest : List ℕ) → begins_with 10 rest ≡ true → (bs : List ℕ) × (rest ≡ 10 ∷ bs)
    feed [] h = cc
    feed (c ∷ cs) h = (cs, ap (λ (c : ℕ). c ∷ cs) (eqb-true c 10 h))

    go : (x : Bool) → (b == 10) ≡ x → (y : Bool) → (b == 13) ≡ y → (z : Bool) → begins_with 10 rest ≡ z → Rests b rest
    go true f y r z s = One (next LineFeed rest (ap (λ (b : ℕ). b ∷ rest) (eqb-true b 10 f)) tt)
    go false f true r false s = One (next Return rest (ap (λ (b : ℕ). b ∷ rest) (eqb-true b 13 r)) s)
    go false f true r true s =
        let more : (bs : List ℕ) × (rest ≡ 10 ∷ bs) = feed rest s in
        let is : b ∷ rest ≡ 13 ∷ 10 ∷ more.0 = ap (λ (b : ℕ). b ∷ rest) (eqb-true b 13 r)
        ∙ ap (λ (l : List ℕ). 13 ∷ l) more.1 in
        let none : more.0 ≡ [] = next Both more.0 is tt in
        Two (eqb-true b 13 r) (more.1 ∙ ap (λ (l : List ℕ). 10 ∷ l) none)
    go false f false r z s = let none : is_ending b ≡ false = rw (f, r) refl in cc

-- a text that is longer than its first line has an ending there
pub stops-at : (text : List ℕ) → length (without_ending text) < length text →
    (b : ℕ) × (rest : List ℕ) × (drop (length (without_ending text)) text ≡ b ∷ rest) × (is_ending b ≡ true)
stops-at [] h = absurd (omega arith)
stops-at (c ∷ text) h =
    let is : without_ending (c ∷ text) ≡
    cond (not (is_ending c)) (c ∷ without_ending text) [] = take_while-cons (λ (b : ℕ). not (is_ending b)) c text in
    go (is_ending c) refl is h (stops-at text)
  where
    go : (x : Bool) → is_ending c ≡ x → without_ending (c ∷ text) ≡ cond (not x) (c ∷ without_ending text) [] →
        length (without_ending (c ∷ text)) < length (c ∷ text) →
        (length (without_ending text) < length text →
        (b : ℕ) × (rest : List ℕ) × (drop (length (without_ending text)) text ≡ b ∷ rest) × (is_ending b ≡ true)) →
        (b : ℕ) × (rest : List ℕ) × (drop (length (without_ending (c ∷ text))) (c ∷ text) ≡ b ∷ rest) ×
        (is_ending b ≡ true)
    go true e is small further = (c, text, ap (λ (l : List ℕ). drop (length l) (c ∷ text)) is, e)
    go false e is small further =
        let size : length (without_ending (c ∷ text)) ≡ suc (length (without_ending text)) = ap length is in
        let found = further (omega arith) in
        (found.0, found.1, ap (λ (k : ℕ). drop k (c ∷ text)) size ∙ found.2, found.3)

-- a text is its first line and the rest
pub line-and-rest : (text : List ℕ) → without_ending text ++ drop (length (without_ending text)) text ≡ text
line-and-rest text =
    let long : ℕ = prefix_len (λ (b : ℕ). not (is_ending b)) text in
    ap (λ (k : ℕ). without_ending text ++ drop k text) (length-prefix_len (λ (b : ℕ). not (is_ending b)) text)
    ∙ take-append-drop long text

pub range-drop : (bytes : List ℕ) (i k end : ℕ) → i + k ≤ end →
    drop k (slice_range bytes i end) ≡ slice_range bytes (i + k) end
range-drop bytes i k end h =
    let split : end - i ≡ k + (end - (i + k)) = omega arith in
    ap (λ (n : ℕ). drop k (take n (drop i bytes))) split ∙ drop-take k (end - (i + k)) (drop i bytes)
    ∙ ap (take (end - (i + k))) (drop-drop k i bytes)

pub range-length : (bytes : List ℕ) (i end : ℕ) → end ≤ length bytes → length (slice_range bytes i end) ≡ end - i
range-length bytes i end h =
    length-take (end - i) (drop i bytes) ∙ ap (min (end - i)) (length-drop i bytes) ∙ omega arith

-- a chunk with no ending ends with its line
pub ending-none : (bytes : List ℕ) (chunk : Chunk) → IsChunk bytes chunk → IsTrue (is_line bytes chunk) →
    IsTrue (ends_whole chunk) → chunk.after.index ≤ (line_end bytes chunk).index →
    same_place (line_end bytes chunk) chunk.after ≡ true
ending-none bytes chunk is one whole h =
    and_from _ _ (eq-eqb to.index chunk.after.index (index (cases_lt chunk.first.index chunk.after.index)))
    (eq-eqb to.vs chunk.after.vs (vs line refl))
  where
    to : Point
    to = line_end bytes chunk

    text : List ℕ
    text = chunk_text bytes chunk

    line : List ℕ
    line = without_ending text

    at : to.index ≡ chunk.first.index + length line
    at = past-index line chunk.first

    some : 0 < length text
    some = go text refl one
      where
        go : (l : List ℕ) → text ≡ l → IsTrue (is_one_line (split_lines l) true) → 0 < length text
        go [] e one = cc
        go (b ∷ bs) e one = rw e (omega arith)

    size : length text ≡ chunk.after.index - chunk.first.index
    size = range-length bytes chunk.first.index chunk.after.index is.after.index

    short : length line ≤ chunk.after.index - chunk.first.index
    short = line-length bytes chunk

    index : (chunk.first.index < chunk.after.index) ⊎ (chunk.after.index ≤ chunk.first.index) →
        to.index ≡ chunk.after.index
    index (inl lt) = omega (arith, at, short, h)
    index (inr le) = absurd (omega (arith, some, size))

    vs : (l : List ℕ) → line ≡ l → to.vs ≡ chunk.after.vs
    vs [] e = let none : length line ≡ 0 = ap length e in absurd (omega (arith, at, h, some, size))
    vs (b ∷ bs) e =
        ap (λ (l : List ℕ). (past_text l chunk.first).vs) e ∙ past-vs b bs chunk.first
        ∙ sym (eqb-true chunk.after.vs 0 whole)

-- Chunk by chunk.

one-line : (lines : List (List ℕ)) (x : Bool) → IsTrue (is_one_line lines x) → IsTrue (is_one_line lines true)
one-line [] x h = h
one-line ([] ∷ []) x h = h
one-line ((b ∷ bs) ∷ []) x h = refl
one-line ([] ∷ [] ∷ []) x h = refl
one-line ((b ∷ bs) ∷ [] ∷ []) x h = refl
one-line ([] ∷ [] ∷ next ∷ lines) x h = h
one-line ((b ∷ bs) ∷ [] ∷ next ∷ lines) x h = h
one-line ([] ∷ (c ∷ cs) ∷ lines) x h = h
one-line ((b ∷ bs) ∷ (c ∷ cs) ∷ lines) x h = h

-- each chunk of a part is a line
pub lines-each : (bytes : List ℕ) (end : Point) (chunks : List Chunk) → IsTrue (are_lines bytes end chunks) →
    IsTrue (list_all (is_line bytes) chunks)
lines-each bytes end [] lines = refl
lines-each bytes end (chunk ∷ chunks) lines =
    let ends : Bool = is_none chunks && same_place chunk.after end in
    let both : (is_one_line (split_lines (chunk_text bytes chunk)) ends ≡ true) ×
    (are_lines bytes end chunks ≡ true) = and_parts (is_one_line (split_lines (chunk_text bytes chunk)) ends)
    (are_lines bytes end chunks) lines in
    and_from (is_line bytes chunk) (list_all (is_line bytes) chunks)
    (one-line (split_lines (chunk_text bytes chunk)) ends both.0) (lines-each bytes end chunks both.1)

plain-push : (bytes : List ℕ) (chunks : List Chunk) (chunk : Chunk) →
    together (plain_chunks bytes (chunks ++ chunk ∷ [])) ≡
    together (plain_chunks bytes chunks) ++ plain_chunk bytes chunk
plain-push bytes [] chunk = append-nil (plain_chunk bytes chunk)
plain-push bytes (c ∷ chunks) chunk =
    ap (λ (es : List Event). plain_chunk bytes c ++ es) (plain-push bytes chunks chunk)
    ∙ sym (append_assoc (plain_chunk bytes c) (together (plain_chunks bytes chunks)) (plain_chunk bytes chunk))

-- what the plain layer gives for so many of the chunks of a part
abbrev pub ReadChunks : List ℕ → List Chunk → ℕ → List Event → Type 0
ReadChunks bytes chunks many events = events ≡ together (plain_chunks bytes (take many chunks))

-- one chunk more
pub chunks-more : (bytes : List ℕ) (chunks : List Chunk) (i : ℕ) (d : Chunk) (events new : List Event) →
    i < length chunks → ReadChunks bytes chunks i events →
    new ≡ events ++ plain_chunk bytes (get_or chunks i d) → ReadChunks bytes chunks (i + 1) new
chunks-more bytes chunks i d events new h read next =
    let chunk : Chunk = get_or chunks i d in
    next
    ∙ ap (λ (es : List Event). es ++ plain_chunk bytes chunk) read
    ∙ sym (plain-push bytes (take i chunks) chunk)
    ∙ ap (λ (cs : List Chunk). together (plain_chunks bytes cs)) (sym (take_more chunks i d h))
