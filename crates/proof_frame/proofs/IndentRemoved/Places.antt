-- A line that loses columns of whitespace, where it is: from the point where it begins to its end.
use Rattle.std.proofs.Common.{◌≡◌, ℕ, zero, suc, ◌+◌, ◌≤◌, Bool, true, false, cond, ◌&&◌, List, [], ◌∷◌, length}
use Rattle.std.proofs.Common.{◌++◌, drop, refl, sym, ◌∙◌, ap, arith, subst}
use Rattle.std.specs.Prelude.{◌==◌, nat_lt}
use Rattle.std.proofs.lemmas.Bool.{and_parts}
use Rattle.std.proofs.lemmas.Bool.Decides.{nat_tests}
use Rattle.std.proofs.lemmas.List.{drop_all}
use Rattle.md_engine.specs.declared.configuration.ParseOptions.{ParseOptions}
use Rattle.md_engine.specs.declared.event.Point.{Point}
use Rattle.md_engine.specs.declared.tokenizer.Line.{Line}
use Rattle.md_engine.specs.Meaning.{Cell}
use Rattle.md_meaning.specs.Rest.{Rest, cut_tab, indent, lose}
use Rattle.md_meaning.proofs.TextsLemmas.{NoEnding}
use Rattle.md_events.proofs.LostColumns.{HasLost, White, lose-walk}
use Rattle.md_events.specs.Ahead.{white_end}
use Rattle.md_events.specs.Events.Places.{past_text, same_place}
use Rattle.md_events.proofs.RestCells.{RestAt, rest_cells, without_first}
use Rattle.proof_frame.specs.RestLine.{rest_line}
use Rattle.proof_frame.specs.LineColumns.{next_point, past_columns}
use Rattle.proof_frame.specs.LineLeaf.{LineLeaf}
use Rattle.proof_frame.specs.Row.{Row}
use Rattle.proof_frame.proofs.LeafFacts.{LineAt}
use Rattle.proof_frame.proofs.LineTexts.{line-valid}
use Rattle.proof_frame.proofs.IndentRemoved.Columns.{columns-end, first-white, past-line}
use Rattle.proof_frame.proofs.SpanLaws.{IsLineOf}

-- A line that is known where it is, with the column where it begins.
pub record FurtherAt (bytes : List ℕ) (r : Rest) (p q : Point) : Type 0 where
  pub at : LineAt bytes r (rest_line r) p q
  pub column : p.column ≡ r.column + 1

-- so is a line of a leaf
pub further-at : (options : ParseOptions) (bytes : List ℕ) (l : LineLeaf) (row : Row) →
    (is : IsLineOf options bytes l row) → FurtherAt bytes is.rest row.first row.end
further-at options bytes l row is = record { at = is.at; column = is.column }

-- its rest
pub further-rest : (bytes : List ℕ) (r : Rest) (p q : Point) → FurtherAt bytes r p q →
    RestAt bytes (drop q.index bytes) r p
further-rest bytes r p q is = record {
  column = is.column;
  cut = is.at.cut;
  text_is = line-valid bytes r (rest_line r) p q is.at;
}

pub further-no_ending : (bytes : List ℕ) (r : Rest) (p q : Point) → FurtherAt bytes r p q → NoEnding r.bytes
further-no_ending bytes r p q is = go r.spaces is.at.no_ending
  where
    go : (spaces : ℕ) → NoEnding (cut_tab spaces ++ r.bytes) → NoEnding r.bytes
    go zero h = h
    go (suc k) h = h.1

-- where the text ends nothing is on it
pub line-over : (bytes : List ℕ) (r : Rest) (p q : Point) → FurtherAt bytes r p q → length bytes ≤ p.index →
    rest_line r ≡ []
line-over bytes r p q is over =
    go (rest_line r) (sym (line-valid bytes r (rest_line r) p q is.at) ∙ drop_all p.index bytes over)
  where
    go : (line : List ℕ) → line ++ drop q.index bytes ≡ [] → line ≡ []
    go [] h = refl
    go (b ∷ bs) h = absurd (cc)

-- After so many columns of whitespace.
pub record HasLeft (bytes : List ℕ) (room : ℕ) (r : Rest) (p q : Point) : Type 0 where
  pub white : White bytes p (past_columns room r p)
  pub apart : (nat_lt 0 room && nat_lt 0 (indent r)) ≡ true → same_place p (past_columns room r p) ≡ false
  pub none : (nat_lt 0 room && nat_lt 0 (indent r)) ≡ false → past_columns room r p ≡ p
  pub valid : RestAt bytes (drop q.index bytes) (lose room r) (past_columns room r p)
  pub ends : q ≡ past_text (rest_line (lose room r)) (past_columns room r p)

-- where none is taken
none-taken : (room : ℕ) (r : Rest) (p : Point) → (nat_lt 0 room && nat_lt 0 (indent r)) ≡ false →
    past_columns room r p ≡ p
none-taken zero r p e = refl
none-taken (suc room) r p e =
    let some : nat_lt 0 (suc room) ≡ true = grind (arith, nat_tests) in
    let white : nat_lt 0 (indent r) ≡ false = ap (λ (x : Bool). x && nat_lt 0 (indent r)) (sym some) ∙ e in
    let none : (indent r == 0) ≡ true = grind (arith, nat_tests) in
    let left = without_first r in
    ap (λ (x : Bool). cond x p (past_columns room left (next_point left p))) none

abbrev pub unsaid : Line
unsaid = record { start = 0; lazy = false }

pub has-left : (bytes : List ℕ) (room : ℕ) (r : Rest) (p q : Point) → FurtherAt bytes r p q →
    HasLeft bytes room r p q
has-left bytes room r p q is =
    let following = drop q.index bytes in
    let valid = further-rest bytes r p q is in
    let cells : List Cell = rest_cells unsaid r p ++ [] in
    let end : white_end room cells p ≡ past_columns room r p =
    columns-end unsaid bytes following room r p [] valid tt in
    let lost : HasLost unsaid bytes following room r p [] cells (past_columns room r p) =
    subst (HasLost unsaid bytes following room r p [] cells) end
    (lose-walk unsaid bytes following room r p [] valid tt) in
    record {
      white = lost.white;
      apart = λ some.
          let both = and_parts (nat_lt 0 room) (nat_lt 0 (indent r)) some in
          let one : 1 ≤ room = let lt = both.0 in grind (arith, nat_tests) in
          lost.apart one (first-white unsaid bytes following r p [] valid tt ∙ both.1);
      none = none-taken room r p;
      valid = lost.valid;
      ends = is.at.end ∙ sym (past-line bytes following r p valid) ∙ sym lost.ends
          ∙ past-line bytes following (lose room r) (past_columns room r p) lost.valid;
    }
