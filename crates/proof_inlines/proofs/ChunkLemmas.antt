-- What holds of the events of a chunk, whatever the marks of its bytes are.
use Rattle.std.proofs.Common.{◌≡◌, ℕ, zero, suc, ◌+◌, ◌-◌, ◌<◌, ◌≤◌, ◌⊎◌, inl, inr, Bool, true, false, cond, ◌&&◌, List}
use Rattle.std.proofs.Common.{[], ◌∷◌, ◌++◌, length, take, drop, refl, ap, sym, ◌∙◌}
use Rattle.std.proofs.Common.{subst, append_assoc, add-one, arith}
use Rattle.std.specs.Prelude.{IsTrue, nat_le, nat_lt, None}
use Rattle.std.specs.List.{list_all}
use Rattle.std.proofs.lemmas.Bool.{and_parts, and_from, cases_lt, true≢false}
use Rattle.std.proofs.lemmas.Bool.Decides.{nat_tests}
use Rattle.std.proofs.lemmas.List.{append-nil, take-append-drop}
use Rattle.md_engine.specs.declared.event.Event.{Event}
use Rattle.md_engine.specs.declared.event.Kind.{Kind}
use Rattle.md_engine.specs.declared.event.Kind.TheVariants.{Enter, Exit}
use Rattle.md_engine.specs.declared.event.Name.{Name}
use Rattle.md_engine.specs.declared.event.Name.TheVariants as n
use Rattle.md_engine.specs.declared.event.Point.{Point}
use Rattle.md_meaning.specs.Lines.{without_ending}
use Rattle.md_meaning.specs.Texts.{split_lines}
use Rattle.md_meaning.proofs.TextsLemmas.{NoEnding, split-line}
use Rattle.md_events.specs.declared.inline.Chunk.{Chunk}
use Rattle.md_events.specs.Events.Inline.{Covers, chunk_text, ends_whole, is_inline, is_line, is_one_line}
use Rattle.md_events.specs.Events.Inline.{line_end, line_endings, may_be_inside, pair_unless_empty, pieces}
use Rattle.md_events.specs.Events.Nested.{enter, exit, pair}
use Rattle.md_events.specs.Events.Places.{are_placed, at_or_before, is_placed, past_byte, past_text, same_place}
use Rattle.md_events.specs.Substituted.{belongs}
use Rattle.md_events.proofs.InlineLemmas.{before-text, end-before, end-placed, endings-append, line-no_ending}
use Rattle.md_events.proofs.InlineLemmas.{past-index, past_text-append}
use Rattle.md_events.proofs.NestedLemmas.{at_or_before-refl, at_or_before-trans}
use Rattle.md_events.proofs.PlacesLemmas.{Placed, all-append, apart-later, drop-next}
use Rattle.md_events.proofs.PlacesLemmas.{placed-byte, placed-facts, placed-from}
use Rattle.md_events.proofs.PlainSteps.{line-and-rest, range-length}
use Rattle.md_inline_events.specs.Marks.{Mark, closes_in, entered, exited, is_part_name, line_events, opens_in}
use Rattle.md_inline_events.specs.Woven.{Sides, ending_events, side_events}
use Rattle.proof_inlines.proofs.Named.{is_named}
use Rattle.proof_inlines.proofs.FrontLemmas.{covers-side}
use Rattle.proof_inlines.proofs.LineLemmas.{Along, Proceeds, all-entered, all-exited, all-line, all-pair, along-first}
use Rattle.proof_inlines.proofs.LineLemmas.{along-unit, entered-no-endings, exited-no-endings, line-endings}
use Rattle.proof_inlines.proofs.LineLemmas.{named-closes, named-opened, part-inline, proceeds-append}
use Rattle.proof_inlines.proofs.LineLemmas.{proceeds-entered, proceeds-exited, proceeds-line, proceeds-pair}

-- A chunk of a part: one line of the text, between two of its points.
pub record Whole (bytes : List ℕ) (chunk : Chunk) : Type 0 where
  pub forward : IsTrue (at_or_before chunk.first chunk.after)
  pub first : is_placed bytes chunk.first ≡ true
  pub after : is_placed bytes chunk.after ≡ true
  pub line : IsTrue (is_line bytes chunk)
  pub ends : IsTrue (ends_whole chunk)

-- Its line and its ending are divided so.
pub record Divides (text : List ℕ) (side : Sides) : Type 0 where
  pub line : side.indent ++ (side.text ++ side.trail) ≡ without_ending text
  pub ending : side.ending ≡ drop (length (without_ending text)) text

abbrev pub text_begin : Chunk → Sides → Point
text_begin chunk side = past_text side.indent chunk.first

abbrev pub text_after : Chunk → Sides → Point
text_after chunk side = past_text side.text (text_begin chunk side)

abbrev pub trail_after : Chunk → Sides → Point
trail_after chunk side = past_text side.trail (text_after chunk side)

abbrev pub marks_after : Sides → List Mark → List Mark
marks_after side marks = drop (length side.text) marks

pub side-end : (bytes : List ℕ) (chunk : Chunk) (side : Sides) → Divides (chunk_text bytes chunk) side →
    trail_after chunk side ≡ line_end bytes chunk
side-end bytes chunk side is =
    sym (past_text-append side.text side.trail (text_begin chunk side))
    ∙ sym (past_text-append side.indent (side.text ++ side.trail) chunk.first)
    ∙ ap (λ (l : List ℕ). past_text l chunk.first) is.line

pair-all : (test : Event → Bool) (name : Name) (p q : Point) → test (enter name p) ≡ true →
    test (exit name q) ≡ true → (x : Bool) → list_all test (cond x [] (pair name p q)) ≡ true
pair-all test name p q h k true = refl
pair-all test name p q h k false =
    and_from (test (enter name p)) (test (exit name q) && true) h (and_from (test (exit name q)) true k refl)

-- Names.

pub named-take : (count : ℕ) (marks : List Mark) → list_all is_named marks ≡ true →
    list_all is_named (take count marks) ≡ true
named-take zero marks h = refl
named-take (suc count) [] h = refl
named-take (suc count) (mark ∷ marks) h =
    let parts : (is_named mark ≡ true) × (list_all is_named marks ≡ true) = and_parts (is_named mark)
    (list_all is_named marks) h in
    and_from (is_named mark) (list_all is_named (take count marks)) parts.0 (named-take count marks parts.1)

pub named-drop : (count : ℕ) (marks : List Mark) → list_all is_named marks ≡ true →
    list_all is_named (drop count marks) ≡ true
named-drop zero marks h = h
named-drop (suc count) [] h = refl
named-drop (suc count) (mark ∷ marks) h =
    let parts : (is_named mark ≡ true) × (list_all is_named marks ≡ true) = and_parts (is_named mark)
    (list_all is_named marks) h in
    named-drop count marks parts.1

-- Sizes.

text-length : (bytes : List ℕ) (chunk : Chunk) → Whole bytes chunk →
    length (chunk_text bytes chunk) ≡ chunk.after.index - chunk.first.index
text-length bytes chunk w =
    range-length bytes chunk.first.index chunk.after.index (placed-facts bytes chunk.after w.after).index

-- where the text has more than its line, the line ends before the chunk does
line-before : (bytes : List ℕ) (chunk : Chunk) → Whole bytes chunk →
    length (without_ending (chunk_text bytes chunk)) < length (chunk_text bytes chunk) →
    (line_end bytes chunk).index < chunk.after.index
line-before bytes chunk w lt =
    let size : length (chunk_text bytes chunk) ≡ chunk.after.index - chunk.first.index = text-length bytes chunk w in
    let at : (line_end bytes chunk).index ≡
    chunk.first.index + length (without_ending (chunk_text bytes chunk)) = past-index
    (without_ending (chunk_text bytes chunk)) chunk.first in
    omega arith

none-left : (count : ℕ) (bs : List ℕ) → length bs ≤ count → drop count bs ≡ []
none-left zero [] h = refl
none-left zero (b ∷ bs) h = absurd (omega arith)
none-left (suc count) [] h = refl
none-left (suc count) (b ∷ bs) h = none-left count bs (omega arith)

-- where the line ends with the chunk, no ending is left
pub ending-apart : (bytes : List ℕ) (chunk : Chunk) (side : Sides) → Whole bytes chunk →
    Divides (chunk_text bytes chunk) side → same_place (trail_after chunk side) chunk.after ≡ true → side.ending ≡ []
ending-apart bytes chunk side w is same = is.ending ∙ go (cases_lt (length line) (length text))
  where
    text : List ℕ
    text = chunk_text bytes chunk

    line : List ℕ
    line = without_ending text

    go : (length line < length text) ⊎ (length text ≤ length line) → drop (length line) text ≡ []
    go (inl lt) =
        let apart : same_place (line_end bytes chunk) chunk.after ≡ false = apart-later (line_end bytes chunk)
        chunk.after (line-before bytes chunk w lt) in
        let e : true ≡ false = sym same ∙ ap (λ (p : Point). same_place p chunk.after) (side-end bytes chunk side is)
        ∙ apart in
        cc
    go (inr le) = none-left (length line) text le

-- Points.

proceeds-ending : (end after : Point) (ending : List ℕ) (marks : List Mark) → IsTrue (at_or_before end after) →
    Proceeds end after (ending_events end after ending marks)
proceeds-ending end after [] marks h = proceeds-pair n.LineEnding end after h
proceeds-ending end after (b ∷ ending) [] h = proceeds-pair n.LineEnding end after h
proceeds-ending end after (b ∷ ending) (mark ∷ marks) h =
    proceeds-append end end after (entered (opens_in mark.front) end)
    (pair_unless_empty n.LineEnding end after ++ exited (closes_in mark.back) after) h
    (proceeds-entered (opens_in mark.front) end)
    (proceeds-append end after after (pair_unless_empty n.LineEnding end after) (exited (closes_in mark.back) after)
    (at_or_before-refl after) (proceeds-pair n.LineEnding end after h) (proceeds-exited (closes_in mark.back) after))

pub side-proceeds : (bytes : List ℕ) (chunk : Chunk) (side : Sides) (marks : List Mark) (piece : Name) →
    Whole bytes chunk → Divides (chunk_text bytes chunk) side →
    Proceeds chunk.first chunk.after (side_events chunk side marks piece)
side-proceeds bytes chunk side marks piece w is =
    let first : Point = text_begin chunk side in
    let after : Point = text_after chunk side in
    let end : Point = trail_after chunk side in
    let left : List Mark = marks_after side marks in
    let ending : List Event = ending_events end chunk.after side.ending left in
    let trail : List Event = pair_unless_empty n.SpaceOrTab after end ++ ending in
    let last : IsTrue (at_or_before end chunk.after) =
    subst (λ (p : Point). IsTrue (at_or_before p chunk.after)) (sym (side-end bytes chunk side is))
    (end-before bytes chunk w.forward) in
    let third : IsTrue (at_or_before after chunk.after) = at_or_before-trans after end chunk.after
    (before-text side.trail after) last in
    let second : IsTrue (at_or_before first chunk.after) = at_or_before-trans first after chunk.after
    (before-text side.text first) third in
    proceeds-append chunk.first first chunk.after (pair_unless_empty n.SpaceOrTab chunk.first first)
    (line_events side.text marks piece first first ++ trail) second
    (proceeds-pair n.SpaceOrTab chunk.first first (before-text side.indent chunk.first))
    (proceeds-append first after chunk.after (line_events side.text marks piece first first) trail third
    (proceeds-line side.text marks piece first first (at_or_before-refl first))
    (proceeds-append after end chunk.after (pair_unless_empty n.SpaceOrTab after end) ending last
    (proceeds-pair n.SpaceOrTab after end (before-text side.trail after))
    (proceeds-ending end chunk.after side.ending left last)))

pub side-covers : (bytes : List ℕ) (chunk : Chunk) (side : Sides) (marks : List Mark) (piece : Name) →
    Whole bytes chunk → Divides (chunk_text bytes chunk) side →
    Covers chunk.first (pieces (side_events chunk side marks piece)) chunk.after
side-covers bytes chunk side marks piece w is =
    covers-side chunk side marks piece (ending-apart bytes chunk side w is)

-- What holds of all points of a line holds of those of its pieces.

along-front : (P : Point → Type 0) (xs ys : List ℕ) (at : Point) → Along P (xs ++ ys) at → Along P xs at
along-front P [] ys at h = along-first P ys at h
along-front P (x ∷ xs) ys at h = (h.0, along-front P xs ys (past_byte x at) h.1)

along-rest : (P : Point → Type 0) (xs ys : List ℕ) (at : Point) → Along P (xs ++ ys) at →
    Along P ys (past_text xs at)
along-rest P [] ys at h = h
along-rest P (x ∷ xs) ys at h = along-rest P xs ys (past_byte x at) h.1

along-last : (P : Point → Type 0) (xs : List ℕ) (at : Point) → Along P xs at → P (past_text xs at)
along-last P [] at h = h
along-last P (x ∷ xs) at h = along-last P xs (past_byte x at) h.1

along-side : (P : Point → Type 0) (bytes : List ℕ) (chunk : Chunk) (side : Sides) →
    Divides (chunk_text bytes chunk) side → Along P (without_ending (chunk_text bytes chunk)) chunk.first →
    Along P (side.indent ++ (side.text ++ side.trail)) chunk.first
along-side P bytes chunk side is h = subst (λ (l : List ℕ). Along P l chunk.first) (sym is.line) h

-- A test that passes at each event with such a name, passes at all events of a chunk, if it does at those of its
-- ending.
module _ (test : Event → Bool) (P : Point → Type 0)
    (holds : (kind : Kind) (name : Name) (p : Point) → is_part_name name ≡ true → P p →
    test (record { kind = kind; name = name; point = p; link = None }) ≡ true) where
  all-side : (bytes : List ℕ) (chunk : Chunk) (side : Sides) (marks : List Mark) (piece : Name) →
      Divides (chunk_text bytes chunk) side → list_all is_named marks ≡ true → is_part_name piece ≡ true →
      Along P (without_ending (chunk_text bytes chunk)) chunk.first →
      list_all test (ending_events (trail_after chunk side) chunk.after side.ending (marks_after side marks)) ≡ true →
      list_all test (side_events chunk side marks piece) ≡ true
  all-side bytes chunk side marks piece is named part along rest =
      let first : Point = text_begin chunk side in
      let after : Point = text_after chunk side in
      let end : Point = trail_after chunk side in
      let all : Along P (side.indent ++ (side.text ++ side.trail)) chunk.first =
      along-side P bytes chunk side is along in
      let others : Along P (side.text ++ side.trail) first =
      along-rest P side.indent (side.text ++ side.trail) chunk.first all in
      let within : Along P side.text first = along-front P side.text side.trail first others in
      let later : Along P side.trail after = along-rest P side.text side.trail first others in
      let ending : List Event = ending_events end chunk.after side.ending (marks_after side marks) in
      let trail : List Event = pair_unless_empty n.SpaceOrTab after end ++ ending in
      all-append test (pair_unless_empty n.SpaceOrTab chunk.first first)
      (line_events side.text marks piece first first ++ trail)
      (all-pair test P holds n.SpaceOrTab chunk.first first refl (along-first P (side.indent ++ (side.text ++
      side.trail)) chunk.first all)
      (along-first P side.text first within))
      (all-append test (line_events side.text marks piece first first) trail
      (all-line test P holds side.text marks piece first first named part (along-first P side.text first within) within)
      (all-append test (pair_unless_empty n.SpaceOrTab after end) ending
      (all-pair test P holds n.SpaceOrTab after end refl (along-first P side.trail after later)
      (along-last P side.trail after later)) rest))

  all-ending : (end after : Point) (ending : List ℕ) (marks : List Mark) → list_all is_named marks ≡ true →
      test (enter n.LineEnding end) ≡ true → test (exit n.LineEnding after) ≡ true → P end →
      ((names : List Name) → list_all is_part_name names ≡ true → list_all test (exited names after) ≡ true) →
      list_all test (ending_events end after ending marks) ≡ true
  all-ending end after [] marks named first last at closing =
      pair-all test n.LineEnding end after first last (same_place end after)
  all-ending end after (b ∷ ending) [] named first last at closing =
      pair-all test n.LineEnding end after first last (same_place end after)
  all-ending end after (b ∷ ending) (mark ∷ marks) named first last at closing =
      let parts : (is_named mark ≡ true) × (list_all is_named marks ≡ true) = and_parts (is_named mark)
      (list_all is_named marks) named in
      all-append test (entered (opens_in mark.front) end)
      (pair_unless_empty n.LineEnding end after ++ exited (closes_in mark.back) after)
      (all-entered test P holds (opens_in mark.front) end (named-opened mark parts.0) at)
      (all-append test (pair_unless_empty n.LineEnding end after) (exited (closes_in mark.back) after)
      (pair-all test n.LineEnding end after first last (same_place end after))
      (closing (closes_in mark.back) (named-closes mark parts.0)))

along-placed : (bytes line rest : List ℕ) (at : Point) → Placed bytes at → drop at.index bytes ≡ line ++ rest →
    NoEnding line → Along (λ p. is_placed bytes p ≡ true) line at
along-placed bytes [] rest at placed next plain = placed-from bytes at placed
along-placed bytes (b ∷ line) rest at placed next plain = (
  placed-from bytes at placed,
  along-placed bytes line rest (past_byte b at) (placed-byte bytes at b (line ++ rest) placed next plain.0)
      (ap (λ (i : ℕ). drop i bytes) (add-one at.index) ∙ drop-next at.index bytes b (line ++ rest) next) plain.1,
)

placed-test : (bytes : List ℕ) (kind : Kind) (name : Name) (p : Point) → is_part_name name ≡ true →
    is_placed bytes p ≡ true → is_placed bytes p ≡ true
placed-test bytes kind name p m h = h

pub side-placed : (bytes : List ℕ) (chunk : Chunk) (side : Sides) (marks : List Mark) (piece : Name) →
    Whole bytes chunk → Divides (chunk_text bytes chunk) side → list_all is_named marks ≡ true →
    is_part_name piece ≡ true → are_placed bytes (side_events chunk side marks piece) ≡ true
side-placed bytes chunk side marks piece w is named part =
    let text : List ℕ = chunk_text bytes chunk in
    let line : List ℕ = without_ending text in
    let end : Point = trail_after chunk side in
    let size : ℕ = chunk.after.index - chunk.first.index in
    let following : List ℕ = drop size (drop chunk.first.index bytes) in
    let next : drop chunk.first.index bytes ≡ line ++ (drop (length line) text ++ following) = sym
    (sym (append_assoc line (drop (length line) text) following)
    ∙ ap (λ (l : List ℕ). l ++ following) (line-and-rest text)
    ∙ take-append-drop size (drop chunk.first.index bytes)) in
    let test : Event → Bool = λ e. is_placed bytes e.point in
    let P : Point → Type 0 = λ p. is_placed bytes p ≡ true in
    let last : is_placed bytes end ≡ true = subst P (sym (side-end bytes chunk side is)) (end-placed bytes chunk
    w.first) in
    all-side test P (placed-test bytes) bytes chunk side marks piece is named part
    (along-placed bytes line (drop (length line) text ++ following) chunk.first (placed-facts bytes chunk.first w.first)
    next (line-no_ending text))
    (all-ending test P (placed-test bytes) end chunk.after side.ending (marks_after side marks)
    (named-drop (length side.text) marks named) last w.after last
    (λ names m. all-exited test P (placed-test bytes) names chunk.after m w.after))

-- Names.

inline-test : (kind : Kind) (name : Name) (p : Point) → is_part_name name ≡ true → Unit {0} →
    (is_inline name && true) ≡ true
inline-test kind name p m u = and_from (is_inline name) true (part-inline name m) refl

pub side-inline : (bytes : List ℕ) (chunk : Chunk) (side : Sides) (marks : List Mark) (piece : Name) →
    Divides (chunk_text bytes chunk) side → list_all is_named marks ≡ true → is_part_name piece ≡ true →
    list_all may_be_inside (side_events chunk side marks piece) ≡ true
side-inline bytes chunk side marks piece is named part =
    all-side may_be_inside (λ p. Unit {0}) inline-test bytes chunk side marks piece is named part
    (along-unit (without_ending (chunk_text bytes chunk)) chunk.first)
    (all-ending may_be_inside (λ p. Unit {0}) inline-test (trail_after chunk side) chunk.after side.ending
    (marks_after side marks) (named-drop (length side.text) marks named) refl refl tt
    (λ names m. all-exited may_be_inside (λ p. Unit {0}) inline-test names chunk.after m tt))

-- One `LineEnding` is in it, over its ending.

ending-only : (end after : Point) →
    line_endings (pair_unless_empty n.LineEnding end after) ≡ pair_unless_empty n.LineEnding end after
ending-only end after = go (same_place end after)
  where
    go : (x : Bool) → line_endings (cond x [] (pair n.LineEnding end after)) ≡ cond x [] (pair n.LineEnding end after)
    go true = refl
    go false = refl

ending-endings : (end after : Point) (ending : List ℕ) (marks : List Mark) → list_all is_named marks ≡ true →
    line_endings (ending_events end after ending marks) ≡ pair_unless_empty n.LineEnding end after
ending-endings end after [] marks named = ending-only end after
ending-endings end after (b ∷ ending) [] named = ending-only end after
ending-endings end after (b ∷ ending) (mark ∷ marks) named =
    let parts : (is_named mark ≡ true) × (list_all is_named marks ≡ true) = and_parts (is_named mark)
    (list_all is_named marks) named in
    let over : List Event = pair_unless_empty n.LineEnding end after in
    let closing : List Event = exited (closes_in mark.back) after in
    endings-append (entered (opens_in mark.front) end) (over ++ closing)
    ∙ ap (λ (l : List Event). l ++ line_endings (over ++ closing))
    (entered-no-endings (opens_in mark.front) end (named-opened mark parts.0))
    ∙ endings-append over closing
    ∙ ap (λ (l : List Event). line_endings over ++ l)
    (exited-no-endings (closes_in mark.back) after (named-closes mark parts.0))
    ∙ append-nil (line_endings over)
    ∙ ending-only end after

white-endings : (p q : Point) → line_endings (pair_unless_empty n.SpaceOrTab p q) ≡ []
white-endings p q = go (same_place p q)
  where
    go : (x : Bool) → line_endings (cond x [] (pair n.SpaceOrTab p q)) ≡ []
    go true = refl
    go false = refl

pub side-endings : (bytes : List ℕ) (chunk : Chunk) (side : Sides) (marks : List Mark) (piece : Name) →
    Divides (chunk_text bytes chunk) side → list_all is_named marks ≡ true → is_part_name piece ≡ true →
    line_endings (side_events chunk side marks piece) ≡
    pair_unless_empty n.LineEnding (line_end bytes chunk) chunk.after
side-endings bytes chunk side marks piece is named part =
    let first : Point = text_begin chunk side in
    let after : Point = text_after chunk side in
    let end : Point = trail_after chunk side in
    let left : List Mark = marks_after side marks in
    let ending : List Event = ending_events end chunk.after side.ending left in
    let trail : List Event = pair_unless_empty n.SpaceOrTab after end ++ ending in
    let text : List Event = line_events side.text marks piece first first in
    endings-append (pair_unless_empty n.SpaceOrTab chunk.first first) (text ++ trail)
    ∙ ap (λ (l : List Event). l ++ line_endings (text ++ trail)) (white-endings chunk.first first)
    ∙ endings-append text trail
    ∙ ap (λ (l : List Event). l ++ line_endings trail) (line-endings side.text marks piece first first named part)
    ∙ endings-append (pair_unless_empty n.SpaceOrTab after end) ending
    ∙ ap (λ (l : List Event). l ++ line_endings ending) (white-endings after end)
    ∙ ending-endings end chunk.after side.ending left (named-drop (length side.text) marks named)
    ∙ ap (λ (p : Point). pair_unless_empty n.LineEnding p chunk.after) (side-end bytes chunk side is)

-- Where the chunk ends with an ending, all its events belong to it.

along-below : (end : ℕ) (line : List ℕ) (at : Point) → at.index + length line < end →
    Along (λ p. p.index < end) line at
along-below end [] at h = omega arith
along-below end (b ∷ line) at h = (omega arith, along-below end line (past_byte b at) (omega arith))

belongs-test : (end : ℕ) (kind : Kind) (name : Name) (p : Point) → is_part_name name ≡ true → p.index < end →
    belongs end (record { kind = kind; name = name; point = p; link = None }) ≡ true
belongs-test end Enter name p m h = let test : nat_lt p.index end ≡ true = grind (arith, nat_tests) in test
belongs-test end Exit name p m h = let test : nat_le p.index end ≡ true = grind (arith, nat_tests) in test

le-refl : (n : ℕ) → nat_le n n ≡ true
le-refl n = grind (arith, nat_tests)

lt-test : (m n : ℕ) → m < n → nat_lt m n ≡ true
lt-test m n h = grind (arith, nat_tests)

exited-belong : (names : List Name) (p : Point) → list_all (belongs p.index) (exited names p) ≡ true
exited-belong [] p = refl
exited-belong (name ∷ names) p =
    and_from (nat_le p.index p.index) (list_all (belongs p.index) (exited names p)) (le-refl p.index)
    (exited-belong names p)

pub side-belongs : (bytes : List ℕ) (chunk : Chunk) (side : Sides) (marks : List Mark) (piece : Name) →
    Whole bytes chunk → Divides (chunk_text bytes chunk) side → list_all is_named marks ≡ true →
    is_part_name piece ≡ true → length (without_ending (chunk_text bytes chunk)) < length (chunk_text bytes chunk) →
    list_all (belongs chunk.after.index) (side_events chunk side marks piece) ≡ true
side-belongs bytes chunk side marks piece w is named part lt =
    let line : List ℕ = without_ending (chunk_text bytes chunk) in
    let end : Point = trail_after chunk side in
    let test : Event → Bool = belongs chunk.after.index in
    let P : Point → Type 0 = λ p. p.index < chunk.after.index in
    let to : (line_end bytes chunk).index < chunk.after.index = line-before bytes chunk w lt in
    let before : end.index < chunk.after.index = subst P (sym (side-end bytes chunk side is)) to in
    let at : (line_end bytes chunk).index ≡ chunk.first.index + length line = past-index line chunk.first in
    let below : chunk.first.index + length line < chunk.after.index = omega (arith, to, at) in
    all-side test P (belongs-test chunk.after.index) bytes chunk side marks piece is named part
    (along-below chunk.after.index line chunk.first below)
    (all-ending test P (belongs-test chunk.after.index) end chunk.after side.ending (marks_after side marks)
    (named-drop (length side.text) marks named) (lt-test end.index chunk.after.index before)
    (le-refl chunk.after.index) before (λ names m. exited-belong names chunk.after))

-- A line that must have an ending has one.
pub proceeds-on : (text : List ℕ) → IsTrue (is_one_line (split_lines text) false) →
    length (without_ending text) < length text
proceeds-on text h = go (cases_lt (length (without_ending text)) (length text))
  where
    not-one : (line : List ℕ) → IsTrue (is_one_line (line ∷ []) false) → ⊥
    not-one [] h = true≢false (sym h)
    not-one (b ∷ bs) h = true≢false (sym h)

    go : (length (without_ending text) < length text) ⊎ (length text ≤ length (without_ending text)) →
        length (without_ending text) < length text
    go (inl lt) = lt
    go (inr le) =
        let whole : without_ending text ≡ text = sym (append-nil (without_ending text))
        ∙ ap (λ (l : List ℕ). without_ending text ++ l) (sym (none-left (length (without_ending text)) text le))
        ∙ line-and-rest text in
        let plain : NoEnding text = subst NoEnding whole (line-no_ending text) in
        absurd
        (not-one text
        (subst (λ (ls : List (List ℕ)). IsTrue (is_one_line ls false)) (split-line text plain) h))
