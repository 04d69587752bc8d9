-- What the plain layer gives for a chunk: its pieces are, and it keeps the grammar of a text.
use Rattle.std.proofs.Common.{◌≡◌, ℕ, suc, ◌+◌, ◌<◌, Bool, true, false, cond, List, [], ◌∷◌, ◌++◌, length, drop}
use Rattle.std.proofs.Common.{slice_range, refl, ap, sym, ◌∙◌, subst, append_assoc, append-nil, arith}
use Rattle.std.specs.Prelude.{◌==◌, not, IsTrue}
use Rattle.std.proofs.lemmas.Bool.{and_from, and_parts}
use Rattle.std.proofs.lemmas.Bool.Decides.{nat_tests}
use Rattle.std.proofs.lemmas.List.{length-append}
use Rattle.md_engine.specs.declared.event.Event.{Event}
use Rattle.md_engine.specs.declared.event.Name.{Name}
use Rattle.md_engine.specs.declared.event.Name.TheVariants as n
use Rattle.md_engine.specs.declared.event.Point.{Point}
use Rattle.md_events.specs.declared.inline.Chunk.{Chunk}
use Rattle.md_events.specs.Events.Grammar.{Expression, following, may_end, plain_text}
use Rattle.md_events.specs.Events.Inline.{is_one_line, line_end, pair_unless_empty, plain_chunk}
use Rattle.md_events.specs.Events.Nested.{pair}
use Rattle.md_events.specs.Events.Pieces.{is_in_line, is_line_ending, is_valid_piece, may_cover}
use Rattle.md_events.specs.Events.Places.{at_or_before, past_text, same_place}
use Rattle.md_meaning.specs.Lines.{is_ending, without_ending}
use Rattle.md_meaning.specs.Texts.{split_lines}
use Rattle.md_events.proofs.FeedLines.{IsEnding, ending-some, slice-split}
use Rattle.md_events.proofs.GrammarLemmas.{IsWord, leads-append, leads-unless, maybe}
use Rattle.md_events.proofs.InlineLemmas.{past-index, past-vs}
use Rattle.md_meaning.proofs.TextsLemmas.{Both, Ending, LineFeed, NoEnding, Return, ending_bytes}
use Rattle.proof_frame.proofs.LineTexts.{one-last, one-next, past-whole, piece, without-none, without-one}
use Rattle.proof_frame.proofs.PieceFacts.{Over, Starts, PiecesValid, begins-cut, begins-whole, chunk-valid, chunk_span}
use Rattle.proof_frame.proofs.PieceFacts.{over-front, over-valid, span, is_valid-append, is_valid-unless_empty}
use Rattle.proof_frame.proofs.PiecesLemmas.{Covered}

-- Pieces.

-- events that cover some bytes begin with an enter
pub starts-tiled : (p q : Point) (es : List Event) → Covered p q es → p.index < q.index → Starts es
starts-tiled p q [] h lt = go (and_parts (p.index == q.index) (p.vs == q.vs) h.covers).0
  where
    go : (p.index == q.index) ≡ true → ⊥
    go e = absurd (grind (arith, nat_tests, lt))
starts-tiled p q (e ∷ es) h lt = h.begins

-- bytes without endings are of one line
pub in-line : (line : List ℕ) → NoEnding line → is_in_line line ≡ true
in-line [] h = refl
in-line (b ∷ line) h = and_from (not (is_ending b)) (is_in_line line) (ap not h.0) (in-line line h.1)

-- A chunk that is a line, with its ending or not: itself, and what the plain layer gives for it.
pub record Chunked (bytes : List ℕ) (p q : Point) : Type 0 where
  pub linked : is_valid_piece bytes (chunk_span n.Data p q) ≡ true
  pub read : PiecesValid bytes (plain_chunk bytes (record { first = p; after = q }))
  pub starts : Starts (plain_chunk bytes (record { first = p; after = q }))

-- the text of a line that is not empty comes first
starts-some : (p q : Point) (es : List Event) → p.index < q.index → Starts (pair_unless_empty n.Data p q ++ es)
starts-some p q es lt = subst (λ (x : Bool). Starts (cond x [] (pair n.Data p q) ++ es)) (sym apart) refl
  where
    apart : same_place p q ≡ false
    apart = grind (arith, nat_tests, lt)

-- by its line and what follows that
chunked-by : (bytes line tail : List ℕ) (p q : Point) → 0 < length line → NoEnding line → q.vs ≡ 0 →
    q.index ≡ p.index + length (line ++ tail) → slice_range bytes p.index q.index ≡ line ++ tail →
    without_ending (line ++ tail) ≡ line → is_one_line (split_lines (line ++ tail)) true ≡ true →
    PiecesValid bytes (pair_unless_empty n.LineEnding (past_text line p) q) → Chunked bytes p q
chunked-by bytes line tail p q some none whole size slice without one ending = record {
  linked =
      chunk-valid bytes n.Data p q (line ++ tail)
      (record { some = omega (arith, size, sizes); whole = whole; slice = slice }) refl one;
  read =
      subst BothValid (sym end)
      (is_valid-append bytes (pair_unless_empty n.Data p r) (pair_unless_empty n.LineEnding r q) text ending);
  starts =
      subst (λ (e : Point). Starts (pair_unless_empty n.Data p e ++ pair_unless_empty n.LineEnding e q)) (sym end)
      (starts-some p r (pair_unless_empty n.LineEnding r q) over.some);
}
  where
    r : Point
    r = past_text line p

    BothValid : Point → Type 0
    BothValid e = PiecesValid bytes (pair_unless_empty n.Data p e ++ pair_unless_empty n.LineEnding e q)

    sizes : length (line ++ tail) ≡ length line + length tail
    sizes = length-append line tail

    valid : drop p.index bytes ≡ line ++ (tail ++ drop q.index bytes)
    valid =
        piece bytes p.index q.index (omega (arith, size))
        ∙ ap (λ (l : List ℕ). l ++ drop q.index bytes) slice
        ∙ append_assoc line tail (drop q.index bytes)

    end : line_end bytes (record { first = p; after = q }) ≡ r
    end = ap (λ (l : List ℕ). past_text (without_ending l) p) slice ∙ ap (λ (l : List ℕ). past_text l p) without

    over : Over bytes p r line
    over = over-front bytes p r line (tail ++ drop q.index bytes) valid some refl

    text : PiecesValid bytes (pair_unless_empty n.Data p r)
    text =
        is_valid-unless_empty bytes n.Data p r
        (λ apart. over-valid bytes n.Data p r line over (begins-cut n.Data p refl) (in-line line none))

-- a line without its ending
pub chunked-alone : (bytes line : List ℕ) (p q : Point) → 0 < length line → NoEnding line → q.vs ≡ 0 →
    q.index ≡ p.index + length line → slice_range bytes p.index q.index ≡ line → Chunked bytes p q
chunked-alone bytes line p q some none whole size slice =
    let same : line ++ [] ≡ line = append-nil line in
    let long : length (line ++ []) ≡ length line = ap (λ (l : List ℕ). length l) same in
    chunked-by bytes line [] p q some none whole (omega (arith, size, long)) (slice ∙ sym same)
    (ap without_ending same ∙ without-none line none)
    (ap (λ (l : List ℕ). is_one_line (split_lines l) true) same ∙ one-last line some none true refl)
    (is_valid-unless_empty bytes n.LineEnding (past_text line p) q (λ apart. absurd (here line some size apart)))
  where
    meets : (r : Point) → r.index ≡ q.index → r.vs ≡ q.vs → same_place r q ≡ false → ⊥
    meets r i v apart = grind (arith, nat_tests)

    here : (line : List ℕ) → 0 < length line → q.index ≡ p.index + length line →
        same_place (past_text line p) q ≡ false → ⊥
    here [] some size apart = absurd (omega (arith, some))
    here (b ∷ line) some size apart = meets (past_text (b ∷ line) p) q-index (past-vs b line p ∙ sym whole) apart
      where
        q-index : (past_text (b ∷ line) p).index ≡ q.index
        q-index = past-index (b ∷ line) p ∙ sym size

-- an ending, between two points
pub ending-valid : (bytes : List ℕ) (name : Name) (p q : Point) →
    ((ending : Ending) → may_cover name (ending_bytes ending) ≡ true) → p.vs ≡ 0 → IsEnding bytes p q →
    is_valid_piece bytes (span name p q) ≡ true
ending-valid bytes name p q named whole is =
    over-valid bytes name p q (ending_bytes is.ending)
    (let some = ending-some is.ending in record { some = omega (arith, is.size); whole = is.whole; slice = is.text })
    (begins-whole name p whole) (named is.ending)

-- each ending is one
pub line-ending : (ending : Ending) → is_line_ending (ending_bytes ending) ≡ true
line-ending LineFeed = refl
line-ending Return = refl
line-ending Both = refl

-- a line with its ending
pub chunked-ended : (bytes line : List ℕ) (p q : Point) → 0 < length line → NoEnding line →
    slice_range bytes p.index (past_text line p).index ≡ line → (is : IsEnding bytes (past_text line p) q) →
    Chunked bytes p q
chunked-ended bytes line p q some none slice is =
    let index : (past_text line p).index ≡ p.index + length line = past-index line p in
    let long : length (line ++ ending_bytes is.ending) ≡
    length line + length (ending_bytes is.ending) = length-append line (ending_bytes is.ending) in
    let text : slice_range bytes p.index q.index ≡ line ++ ending_bytes is.ending =
    slice-split bytes p.index (past_text line p).index q.index (omega (arith, index)) (omega (arith, is.size))
    ∙ ap (λ (l : List ℕ). l ++ slice_range bytes (past_text line p).index q.index) slice
    ∙ ap (λ (l : List ℕ). line ++ l) is.text in
    chunked-by bytes line (ending_bytes is.ending) p q some none is.whole (omega (arith, is.size, index, long)) text
    (without-one line is.ending none) (one-next line is.ending none true)
    (is_valid-unless_empty bytes n.LineEnding (past_text line p) q
    (λ apart. ending-valid bytes n.LineEnding (past_text line p) q line-ending (past-whole line p some) is))

-- Its events are a word of a text.

-- what is left of a text at the begin of a line: of the first one, and after an ending
abbrev pub text_left : Bool → Expression
text_left true = plain_text
text_left false = following n.LineEnding plain_text

-- a chunk: its line and its ending, either of which may be empty
pub chunk-word : (bytes : List ℕ) (first : Bool) (chunk : Chunk) →
    IsWord plain_text (text_left first ∷ []) (plain_chunk bytes chunk)
chunk-word bytes first chunk =
    let end : Point = line_end bytes chunk in
    let line = leads-unless plain_text (text_left first) n.Data chunk.first end refl in
    let mid : Expression = maybe line.0 n.Data (text_left first) in
    let ending = leads-unless plain_text mid n.LineEnding end chunk.after refl in
    record {
      left = maybe ending.0 n.LineEnding mid;
      leads =
          leads-append plain_text (text_left first ∷ []) (mid ∷ []) (maybe ending.0 n.LineEnding mid ∷ [])
          (pair_unless_empty n.Data chunk.first end)
          (pair_unless_empty n.LineEnding end chunk.after) line.1 ending.1;
      ends = ends first line.0 ending.0;
    }
  where
    ends : (first line ending : Bool) → may_end (maybe ending n.LineEnding (maybe line n.Data (text_left first))) ≡ true
    ends true true true = refl
    ends true true false = refl
    ends true false true = refl
    ends true false false = refl
    ends false true true = refl
    ends false true false = refl
    ends false false true = refl
    ends false false false = refl

-- an ending has a byte at least
pub ending-order : (bytes : List ℕ) (p q : Point) → IsEnding bytes p q → IsTrue (at_or_before p q)
ending-order bytes p q is = go is.ending is.size
  where
    further : (size : ℕ) → q.index ≡ p.index + suc size → IsTrue (at_or_before p q)
    further size e = grind (arith, nat_tests)

    go : (ending : Ending) → q.index ≡ p.index + length (ending_bytes ending) → IsTrue (at_or_before p q)
    go LineFeed e = further 0 e
    go Return e = further 0 e
    go Both e = further 1 e
