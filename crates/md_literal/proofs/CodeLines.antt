-- What indented code takes of a line is what the definition of lines takes, for any rest of a line.
use Rattle.std.proofs.Common.{◌≡◌, ℕ, zero, suc, ◌+◌, ◌-◌, ◌<◌, ◌≤◌, Bool, true, false, cond, List, [], ◌∷◌}
use Rattle.std.proofs.Common.{◌++◌, slice_range, refl, ap, ap₂, ◌∙◌, arith}
use Rattle.std.specs.Prelude.{◌==◌, nat_le}
use Rattle.std.proofs.lemmas.Bool.Decides.{nat_tests}
use Rattle.md_engine.specs.declared.event.Point.{Point}
use Rattle.md_engine.specs.declared.tokenizer.Line.{Line as Fed}
use Rattle.md_engine.specs.Meaning.{Cell}
use Rattle.md_meaning.specs.Leaves.{code_line}
use Rattle.md_meaning.specs.Rest.{Rest, indent, is_blank, line_of, lose, tab_columns, without_column}
use Rattle.md_meaning.specs.Tree.{Line}
use Rattle.md_literal.specs.CodeLine.{chunk_line}
use Rattle.md_literal.specs.CodeRule.{is_indented}
use Rattle.md_events.specs.Ahead.{white_size}
use Rattle.md_events.specs.Events.Places.{past_text}
use Rattle.md_events.specs.Events.Spelled.{byte_at, columns_left}
use Rattle.md_events.proofs.FeedLines.{Stops, past-next, slice-front, tab_end}
use Rattle.md_events.proofs.InlineLemmas.{past-index}
use Rattle.md_events.proofs.LostColumns.{lose-walk}
use Rattle.md_events.proofs.RestCells.{RestAt, past_cut, past_rest, rest_cells, without_first}

-- A chunk.

-- a chunk over a rest is read as its line
pub chunk-reads : (text past : List ℕ) (r : Rest) (p : Point) → RestAt text past r p →
    chunk_line text p (past_rest r p) ≡ line_of r
chunk-reads text past r p is = go r.spaces r.bytes is
  where
    Reads : ℕ → List ℕ → Type 0
    Reads spaces bytes =
        chunk_line text p (past_text bytes (past_cut spaces p)) ≡
        line_of (record { column = r.column; spaces = spaces; bytes = bytes })

    go : (spaces : ℕ) (bytes : List ℕ) →
        RestAt text past (record { column = r.column; spaces = spaces; bytes = bytes }) p → Reads spaces bytes
    go zero bytes h =
        let spaces : columns_left p ≡ 0 = ap (λ (v : ℕ). cond (v == 0) 0 (tab_columns (p.column - 1))) h.cut in
        let from : byte_at p ≡ p.index = ap (λ (v : ℕ). cond (v == 0) p.index (p.index + 1)) h.cut in
        ap₂ (λ (s : ℕ) (t : List ℕ). let l : Line = record { spaces = s; text = t } in l) spaces
        (ap (λ (i : ℕ). slice_range text i (past_text bytes p).index) from
        ∙ slice-front text p.index (past_text bytes p).index bytes past h.text_is (past-index bytes p))
    go (suc n) bytes h =
        let some : (p.vs == 0) ≡ false = let in_tab = h.cut.0 in grind (arith, nat_tests) in
        let spaces : columns_left p ≡ suc n = ap (λ (t : Bool). cond t 0 (tab_columns (p.column - 1))) some
        ∙ (let left = h.cut.1 in let at = h.column in omega arith) in
        let from : byte_at p ≡ p.index + 1 = ap (λ (t : Bool). cond t p.index (p.index + 1)) some in
        let end = past_text bytes (tab_end n p) in
        ap₂ (λ (s : ℕ) (t : List ℕ). let l : Line = record { spaces = s; text = t } in l) spaces
        (ap (λ (i : ℕ). slice_range text i end.index) from
        ∙ slice-front text (p.index + 1) end.index bytes past
        (past-next p.index text 9 (bytes ++ past) h.text_is) (past-index bytes (tab_end n p)))

-- A line that loses four columns.

-- it is indented by its cells where it is by its bytes
pub indented-same : (line : Fed) (text past : List ℕ) (r : Rest) (p : Point) (stop : List Cell) → RestAt text past r p →
    Stops stop → is_indented (rest_cells line r p ++ stop) ≡ nat_le 4 (indent r)
indented-same line text past r p stop is k =
    let lost = lose-walk line text past 4 r p stop is k in
    same (white_size 4 (rest_cells line r p ++ stop)) (indent r) lost.most lost.all
  where
    same : (size columns : ℕ) → size ≤ columns → (4 ≤ columns → size ≡ 4) → nat_le 4 size ≡ nat_le 4 columns
    same size columns most all = go (nat_le 4 columns) refl
      where
        go : (x : Bool) → nat_le 4 columns ≡ x → nat_le 4 size ≡ x
        go true e =
            let le : 4 ≤ columns = grind (arith, nat_tests) in
            let four = all le in
            let is : 4 ≤ size = omega (arith, four) in grind (arith, nat_tests)
        go false e =
            let lt : columns < 4 = grind (arith, nat_tests) in
            let less : size < 4 = omega (arith, lt, most) in grind (arith, nat_tests)

-- a line is blank where what is kept of it is
first-blank : (r : Rest) → is_blank (without_first r).bytes ≡ is_blank r.bytes
first-blank r = go r.spaces r.bytes
  where
    go : (spaces : ℕ) (bytes : List ℕ) → is_blank (without_column r.column spaces bytes).bytes ≡ is_blank bytes
    go (suc n) bytes = refl
    go zero [] = refl
    go zero (b ∷ bs) = by (b == 32) (b == 9) refl refl
      where
        by : (s t : Bool) → (b == 32) ≡ s → (b == 9) ≡ t →
            is_blank (without_column r.column zero (b ∷ bs)).bytes ≡ is_blank (b ∷ bs)
        by true true e f = rw (e, f) refl
        by false true e f = rw (e, f) refl
        by true false e f = rw (e, f) refl
        by false false e f = rw (e, f) (rw (e, f) refl)

lose-blank : (n : ℕ) (r : Rest) → is_blank (lose n r).bytes ≡ is_blank r.bytes
lose-blank zero r = refl
lose-blank (suc n) r = lose-blank n (without_first r) ∙ first-blank r

pub blank-line : (r : Rest) → is_blank (code_line r).text ≡ is_blank r.bytes
blank-line r = lose-blank 4 r
