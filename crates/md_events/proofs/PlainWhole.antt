-- A chunk that is a line without an ending is `Data` as a whole.
use Rattle.std.proofs.Common.{◌≡◌, ℕ, ◌+◌, ◌-◌, ◌<◌, ◌≤◌, ◌⊎◌, inl, inr, true, false, cond, List, [], ◌∷◌, ◌++◌, length}
use Rattle.std.proofs.Common.{drop, ap, sym, ◌∙◌, subst, append_assoc, arith}
use Rattle.std.specs.Prelude.{◌==◌, IsTrue, slice_index, slice_range}
use Rattle.std.proofs.lemmas.Bool.{and_parts, cases_lt, eqb-true, true≢false}
use Rattle.std.proofs.lemmas.List.{take-append-drop}
use Rattle.md_engine.specs.declared.event.Name.TheVariants as n
use Rattle.md_engine.specs.declared.event.Point.{Point}
use Rattle.md_meaning.specs.Lines.{is_ending, without_ending}
use Rattle.md_meaning.specs.Texts.{split_lines}
use Rattle.md_events.specs.Events.Inline.{chunk_text, ends_whole, is_line, is_one_line, line_end, pair_unless_empty}
use Rattle.md_events.specs.Events.Inline.{plain_chunk}
use Rattle.md_events.specs.Events.Nested.{pair}
use Rattle.md_events.specs.Events.Places.{same_place}
use Rattle.md_events.specs.declared.inline.Chunk.{Chunk}
use Rattle.md_events.specs.Parts.{IsChunk}
use Rattle.md_events.proofs.InlineLemmas.{line-no_ending, past-index, same-refl}
use Rattle.md_events.proofs.PlacesLemmas.{Placed, apart-later, placed-facts, placed-text}
use Rattle.md_events.proofs.PlainSteps.{Rests, One, Two, ending-none, line-and-rest, range-drop, range-length}
use Rattle.md_events.proofs.PlainSteps.{range-next, rests-of, stops-at}
use Rattle.md_events.proofs.ReachedLemmas.{point-placed}
use Rattle.md_events.proofs.WalkedLemmas.{one-point}

-- the line of a chunk whose last byte ends no line is the whole chunk
whole-line : (bytes : List ℕ) (chunk : Chunk) → IsChunk bytes chunk → IsTrue (is_line bytes chunk) →
    chunk.first.index < chunk.after.index → is_ending (slice_index bytes (chunk.after.index - 1)) ≡ false →
    chunk.after.index ≤ (line_end bytes chunk).index
whole-line bytes chunk is one lt plain = go (cases_lt (length line) (length text))
  where
    text : List ℕ
    text = chunk_text bytes chunk

    line : List ℕ
    line = without_ending text

    at : (line_end bytes chunk).index ≡ chunk.first.index + length line
    at = past-index line chunk.first

    size : length text ≡ chunk.after.index - chunk.first.index
    size = range-length bytes chunk.first.index chunk.after.index is.after.index

    to : ℕ
    to = chunk.first.index + length line

    -- the last byte of an ending ends a line
    cut : (b : ℕ) (rest : List ℕ) → length line < length text → drop (length line) text ≡ b ∷ rest →
        is_ending b ≡ true → Rests b rest → ⊥
    cut b rest less following ends (One none) =
        let left : slice_range bytes to chunk.after.index ≡ b ∷ [] =
        sym (range-drop bytes chunk.first.index (length line) chunk.after.index (omega (arith, less, size)))
        ∙ following ∙ ap (λ (l : List ℕ). b ∷ l) none in
        let long : length (slice_range bytes to chunk.after.index) ≡ chunk.after.index - to =
        range-length bytes to chunk.after.index is.after.index in
        let one : length (slice_range bytes to chunk.after.index) ≡ 1 = ap length left in
        let first : slice_index bytes to ∷ slice_range bytes (to + 1) chunk.after.index ≡ b ∷ [] =
        sym (range-next bytes to chunk.after.index (omega (arith, long, one))
        (omega (arith, long, one, is.after.index)))
        ∙ left in
        let byte : slice_index bytes to ≡ b = cc in
        let last : chunk.after.index - 1 ≡ to = omega (arith, long, one) in
        true≢false
        (sym ends ∙ ap is_ending (sym byte) ∙ ap (λ (i : ℕ). is_ending (slice_index bytes i)) (sym last) ∙ plain)
    cut b rest less following ends (Two return feed) =
        let left : slice_range bytes to chunk.after.index ≡ b ∷ 10 ∷ [] =
        sym (range-drop bytes chunk.first.index (length line) chunk.after.index (omega (arith, less, size)))
        ∙ following ∙ ap (λ (l : List ℕ). b ∷ l) feed in
        let long : length (slice_range bytes to chunk.after.index) ≡ chunk.after.index - to =
        range-length bytes to chunk.after.index is.after.index in
        let two : length (slice_range bytes to chunk.after.index) ≡ 2 = ap length left in
        let first : slice_index bytes to ∷ slice_range bytes (to + 1) chunk.after.index ≡ b ∷ 10 ∷ [] =
        sym (range-next bytes to chunk.after.index (omega (arith, long, two))
        (omega (arith, long, two, is.after.index)))
        ∙ left in
        let rest_is : slice_range bytes (to + 1) chunk.after.index ≡ 10 ∷ [] = cc in
        let second : slice_index bytes (to + 1) ∷ slice_range bytes ((to + 1) + 1) chunk.after.index ≡ 10 ∷ [] =
        sym
        (range-next bytes (to + 1) chunk.after.index (omega (arith, long, two))
        (omega (arith, long, two, is.after.index)))
        ∙ rest_is in
        let byte : slice_index bytes (to + 1) ≡ 10 = cc in
        let last : chunk.after.index - 1 ≡ to + 1 = omega (arith, long, two) in
        let ends : is_ending (slice_index bytes (to + 1)) ≡ true = ap is_ending byte in
        true≢false (sym ends ∙ ap (λ (i : ℕ). is_ending (slice_index bytes i)) (sym last) ∙ plain)

    go : (length line < length text) ⊎ (length text ≤ length line) →
        chunk.after.index ≤ (line_end bytes chunk).index
    go (inl less) =
        let found = stops-at text less in
        let split : line ++ found.0 ∷ found.1 ≡ text =
        ap (λ (l : List ℕ). line ++ l) (sym found.2) ∙ line-and-rest text in
        absurd
        (cut found.0 found.1 less found.2 found.3
        (rests-of line found.0 found.1 (line-no_ending text) found.3
        (subst (λ (l : List ℕ). IsTrue (is_one_line (split_lines l) true)) (sym split) one)))
    go (inr le) = omega (arith, at, size, le)

-- so it is `Data` from its begin to its end
pub whole-chunk : (bytes : List ℕ) (chunk : Chunk) → IsChunk bytes chunk → chunk.first.index < chunk.after.index →
    is_ending (slice_index bytes (chunk.after.index - 1)) ≡ false → IsTrue (is_line bytes chunk) →
    IsTrue (ends_whole chunk) → plain_chunk bytes chunk ≡ pair n.Data chunk.first chunk.after
whole-chunk bytes chunk is lt plain one whole =
    ap (λ (q : Point). pair_unless_empty n.Data chunk.first q ++ pair_unless_empty n.LineEnding q chunk.after) end
    ∙ ap (λ x. cond x [] (pair n.Data chunk.first chunk.after)
    ++ pair_unless_empty n.LineEnding chunk.after chunk.after)
    (apart-later chunk.first chunk.after lt)
    ∙ ap (λ x. pair n.Data chunk.first chunk.after ++ cond x [] (pair n.LineEnding chunk.after chunk.after))
    (same-refl chunk.after)
  where
    to : Point
    to = line_end bytes chunk

    text : List ℕ
    text = chunk_text bytes chunk

    same : same_place to chunk.after ≡ true
    same = ending-none bytes chunk is one whole (whole-line bytes chunk is one lt plain)

    parts : ((to.index == chunk.after.index) ≡ true) × ((to.vs == chunk.after.vs) ≡ true)
    parts = and_parts (to.index == chunk.after.index) (to.vs == chunk.after.vs) same

    placed_to : Placed bytes to
    placed_to =
        placed-text bytes chunk.first (without_ending text)
        (drop (length (without_ending text)) text ++ drop (chunk.after.index - chunk.first.index)
        (drop chunk.first.index bytes))
        (placed-facts bytes chunk.first (point-placed bytes chunk.first is.first))
        (sym
        (sym
        (append_assoc (without_ending text) (drop (length (without_ending text)) text)
        (drop (chunk.after.index - chunk.first.index) (drop chunk.first.index bytes)))
        ∙ ap (λ l. l ++ drop (chunk.after.index - chunk.first.index) (drop chunk.first.index bytes))
        (line-and-rest text)
        ∙ take-append-drop (chunk.after.index - chunk.first.index) (drop chunk.first.index bytes)))
        (line-no_ending text)

    end : to ≡ chunk.after
    end =
        one-point bytes to chunk.after placed_to
        (placed-facts bytes chunk.after (point-placed bytes chunk.after is.after))
        (eqb-true to.index chunk.after.index parts.0) (eqb-true to.vs chunk.after.vs parts.1)
