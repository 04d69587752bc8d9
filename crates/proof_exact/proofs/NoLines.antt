-- Where the exact list has no line after the front of a text, the front is all of it, and its rows have no events.
use Rattle.std.proofs.Common.{◌≡◌, ℕ, suc, ◌+◌, ◌-◌, ◌^◌, ◌<◌, ◌≤◌, Bool, cond, List, [], ◌∷◌, ◌++◌, length, map}
use Rattle.std.proofs.Common.{drop, Option, Some, None, refl, ap, sym, ◌∙◌, subst, arith}
use Rattle.std.proofs.lemmas.List.{length-drop, length-map}
use Rattle.md_engine.specs.declared.configuration.ParseOptions.{ParseOptions}
use Rattle.md_engine.specs.declared.event.Point.{Point}
use Rattle.md_engine.specs.declared.tokenizer.held_leaf.HeldLeaf.TheVariants as held_leaf
use Rattle.md_engine.specs.Meaning.{Cell}
use Rattle.md_meaning.specs.Bytes.{is_end}
use Rattle.md_meaning.specs.Lines.{full_lines_of, lines_of, without_ending}
use Rattle.md_meaning.specs.Preamble.{Front, Preamble, first_column, front_of, preamble_by, rests_at, without_mark}
use Rattle.md_meaning.proofs.TextsLemmas.{ending_bytes}
use Rattle.md_events.proofs.FeedLines.{feed-none}
use Rattle.proof_leaf_laws.specs.Front.{body_point}
use Rattle.proof_leaf_laws.proofs.FullLines.{IsLines, LastLine, NextLine, NoLines, ending-is, full-lines}
use Rattle.md_registry.specs.Registry.{asked_first, bars_containers}
use Rattle.md_events.specs.Exact.Blocks.{front_size, text_lines}
use Rattle.md_events.specs.Exact.Places.{TextLine, line_at, lines_from}
use Rattle.proof_rows.specs.BlockList.{tabled_groups}
use Rattle.proof_rows.specs.Rows.{groups, held_at, rows_at}
use Rattle.proof_rows.specs.TextRows.{text_cells, text_rows, text_setting}
use Rattle.proof_rows.proofs.Begun.{begun}
use Rattle.proof_exact.proofs.TextLines.{some-ending}

-- There are as many lines as the text has, and one at least.

lines-some : (number index column : ℕ) (fulls : List (List ℕ)) → 1 ≤ length (lines_from number index column fulls)
lines-some number index column [] = omega arith
lines-some number index column (full ∷ more) = omega arith

lines-many : (number index column : ℕ) (text : List ℕ) (fulls : List (List ℕ)) → IsLines text fulls →
    length fulls ≤ length (lines_from number index column fulls)
lines-many number index column text fulls NoLines = omega arith
lines-many number index column text fulls (LastLine b line h) = omega arith
lines-many number index column text fulls (NextLine line ending rest more h before is same) =
    let below = lines-many (number + 1) (index + length full) 0 rest more is in
    subst
    (λ (x : Bool).
    suc (length more) ≤
    length
    (line_at number index column full ∷ cond x [] (lines_from (number + 1) (index + length full) 0 more)))
    (sym (ap is_end (ending-is line ending h) ∙ some-ending ending)) (omega (arith, below))
  where
    full : List ℕ
    full = line ++ ending_bytes ending

drop-all : (k : ℕ) (lines : List TextLine) → drop k lines ≡ [] → length lines ≤ k
drop-all k lines none =
    let size : length lines - k ≡ 0 = sym (length-drop k lines) ∙ ap (λ (l : List TextLine). length l) none in
    omega (arith, size)

-- Where none is left, the front is all of the text.

full-none : (text : List ℕ) (fulls : List (List ℕ)) → IsLines text fulls → map without_ending fulls ≡ [] → text ≡ []
full-none text fulls NoLines e = refl
full-none text fulls (LastLine b line h) e = cc
full-none text fulls (NextLine line ending rest more h before is same) e = cc

rests-none : (column : ℕ) (lines : List (List ℕ)) → [] ≡ rests_at column lines → lines ≡ []
rests-none column [] e = refl
rests-none column (line ∷ lines) e = cc

nil-length : (lines : List (List ℕ)) → length lines ≡ 0 → lines ≡ []
nil-length [] e = refl
nil-length (line ∷ lines) e = absurd (omega (arith, e))

left-none : (options : ParseOptions) (text : List ℕ) → drop (front_size options text) (text_lines text) ≡ [] →
    lines_of (drop (body_point options text).index text) ≡ []
left-none options text none = go (front_of options lines) none (begun options text).preamble_is
  where
    lines : List (List ℕ)
    lines = lines_of (without_mark text)

    q : Point
    q = body_point options text

    size : ℕ
    size = first_column text

    one : 1 ≤ length (text_lines text)
    one = lines-some 1 size size (full_lines_of (without_mark text))

    many : length lines ≤ length (text_lines text)
    many =
        let fewer = lines-many 1 size size (without_mark text) (full_lines_of (without_mark text))
        (full-lines (without_mark text)) in
        let same : length lines ≡ length (full_lines_of (without_mark text)) =
        length-map (full_lines_of (without_mark text)) without_ending in
        omega (arith, fewer, same)

    go : (o : Option Front) →
        drop (elim o [ Some front ↦ length lines - length front.after | None ↦ 0 ]) (text_lines text) ≡ [] →
        preamble_by size lines o ≡
        record {
          front = (begun options text).block;
          body = rests_at (q.column - 1) (lines_of (drop q.index text));
        } →
        lines_of (drop q.index text) ≡ []
    go None left is =
        let few : length (text_lines text) ≤ 0 = drop-all 0 (text_lines text) left in absurd (omega (arith, few, one))
    go (Some front) left is =
        let few : length (text_lines text) ≤ length lines - length front.after =
        drop-all (length lines - length front.after) (text_lines text) left in
        let after : front.after ≡ [] = nil-length front.after (omega (arith, few, one, many)) in
        rests-none (q.column - 1) (lines_of (drop q.index text))
        (sym (ap (rests_at 0) after) ∙ ap (λ (p : Preamble). p.body) is)

pub body-none : (options : ParseOptions) (text : List ℕ) → drop (front_size options text) (text_lines text) ≡ [] →
    drop (body_point options text).index text ≡ []
body-none options text none =
    let left : List ℕ = drop (body_point options text).index text in
    full-none left (full_lines_of left) (full-lines left) (left-none options text none)

-- Then its rows have no events.

cells-none : (options : ParseOptions) (text : List ℕ) (p : Point) → length text < 2 ^ 61 →
    drop p.index text ≡ [] → text_cells text options p ≡ []
cells-none options text p small none =
    let size : length text - p.index ≡ 0 =
    sym (length-drop p.index text) ∙ ap (λ (l : List ℕ). length l) none in
    feed-none (text_setting text options p) p small (omega (arith, size))

empty-rows : (options : ParseOptions) (text : List ℕ) (p : Point) →
    tabled_groups options text (groups (rows_at options 1 [] held_leaf.None [] p)) ≡ []
unfolding held_at asked_first bars_containers
empty-rows options text p = refl

pub none-events : (options : ParseOptions) (text : List ℕ) → length text < 2 ^ 61 →
    drop (front_size options text) (text_lines text) ≡ [] →
    tabled_groups options text (groups (text_rows options text (body_point options text))) ≡ []
none-events options text small none =
    ap
    (λ (cells : List Cell).
    tabled_groups options text
    (groups (rows_at options (suc (length cells)) [] held_leaf.None cells (body_point options text))))
    (cells-none options text (body_point options text) small (body-none options text none))
    ∙ empty-rows options text (body_point options text)
