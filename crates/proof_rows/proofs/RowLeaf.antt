-- What is known of the leaf of a line of a text, by the laws of its construct.
use Rattle.std.proofs.Common.{◌≡◌, ◌≢◌, ℕ, Bool, true, false, List, [], ◌∷◌, ◌+◌, length, arith}
use Rattle.std.proofs.Common.{refl, sym, ap, ap₂, ◌∙◌, subst, subst₂}
use Rattle.std.proofs.lemmas.Bool.Decides.{nat_tests}
use Rattle.std.specs.Prelude.{◌&&◌, ◌||◌, ◌==◌, Option, Some, None, not}
use Rattle.md_engine.specs.declared.configuration.ParseOptions.{ParseOptions}
use Rattle.md_engine.specs.declared.event.Event.{Event}
use Rattle.md_meaning.specs.Rest.{Rest, is_blank}
use Rattle.md_meaning.specs.Tree.{Block}
use Rattle.proof_frame.specs.RestLine.{rest_line}
use Rattle.proof_frame.specs.LeafName.{LeafName}
use Rattle.md_registry.specs.Registry.{asked_first, leaf}
use Rattle.proof_frame.specs.Row.{BlankRow, LeafRow, Row, RowKind, TextRow}
use Rattle.proof_rows.specs.Rows.{leaf_done, leaf_unread, line_following, stays_blank}
use Rattle.proof_frame.specs.Row.{is_blank_by, is_blank_row, is_empty_row, row_line}
use Rattle.proof_frame.proofs.BlankLine.{blank-facts}
use Rattle.proof_rows.proofs.KindLemmas.{kind-blank, kind-filled, kind-starts}
use Rattle.md_registry.proofs.Registry.{insider-open, laws}
use Rattle.proof_frame.proofs.RestRows.{line-blank}
use Rattle.proof_frame.proofs.LeafFacts.{LeafFacts, LineAt}
use Rattle.proof_rows.proofs.RowFacts.{IsRow, line-at}
use Rattle.proof_frame.proofs.SpanLaws.{IsLineOf}

-- the block that a line of this kind shows; text is shown with the lines around it
abbrev pub block_of : RowKind → Rest → Option Block
block_of BlankRow r = None
block_of (LeafRow l) r = Some ((leaf l).block r)
block_of TextRow r = None

-- a leaf that takes such a line always ends on it
abbrev pub EndsOnLine : RowKind → Type 0
EndsOnLine kind = (l : LeafName) → kind ≡ LeafRow l → (leaf l).ends ≡ true

-- its bytes in the text are those of its rest
row-text : (options : ParseOptions) (bytes line : List ℕ) (row : Row) → (is : IsRow options bytes line row) →
    row_line bytes row ≡ rest_line is.rest
row-text options bytes line row is = is.text ∙ is.line_is

pub leaf-at : (options : ParseOptions) (bytes line : List ℕ) (row : Row) → (is : IsRow options bytes line row) →
    LineAt bytes is.rest (rest_line is.rest) row.first row.end
leaf-at options bytes line row is =
    subst (λ (l : List ℕ). LineAt bytes is.rest l row.first row.end) is.line_is (line-at options bytes line row is)

-- a line of a leaf that is not asked first is not blank, so its ending is not that of a blank line
pub leaf-filled : (options : ParseOptions) (bytes line : List ℕ) (row : Row) (l : LeafName) →
    IsRow options bytes line row → row.kind ≡ LeafRow l → (asked_first row.on ≡ Some l → ⊥) → row.empty ≡ false
leaf-filled options bytes line row l is e other =
    is.empty
    ∙ ap₂ (λ (blank ended : Bool). (stays_blank row.kind && blank) || (ended && (row.first.column == 1))) some
    (valid line (ap is_blank is.line_is ∙ line-blank is.rest ∙ some) is.size)
    ∙ none (stays_blank row.kind)
  where
    some : is_blank is.rest.bytes ≡ false
    some =
        kind-filled options row.on is.rest l (sym is.kind ∙ e) other

    valid : (line : List ℕ) → is_blank line ≡ false → row.end.index ≡ row.first.index + length line →
        is_empty_row row ≡ false
    valid [] some size = cc
    valid (b ∷ bs) some size = grind (arith, nat_tests)

    none : (x : Bool) → ((x && false) || false) ≡ false
    none true = refl
    none false = refl

-- A line that is no text, and no line of a leaf of several, by its kind.

abbrev Facts : List ℕ → Row → Rest → RowKind → Type 0
Facts bytes row r kind =
    LeafFacts bytes (block_of kind r) (not (is_blank_by kind row)) row.first row.end (leaf_unread bytes kind row)
    (leaf_done bytes kind row)

pub row-facts : (options : ParseOptions) (bytes line : List ℕ) (row : Row) → (is : IsRow options bytes line row) →
    row.kind ≢ TextRow → EndsOnLine row.kind →
    LeafFacts bytes (block_of row.kind is.rest) (not (is_blank_row row)) row.first row.end
    (leaf_unread bytes row.kind row) (leaf_done bytes row.kind row)
row-facts options bytes line row is other ends = go row.kind refl
  where
    go : (kind : RowKind) → row.kind ≡ kind → Facts bytes row is.rest row.kind
    go BlankRow e =
        subst (Facts bytes row is.rest) (sym e)
        (subst (λ (es : List Event). LeafFacts bytes None false row.first row.end es es) (sym (is.blank e))
        (blank-facts bytes line is.rest row.first row.end (kind-blank options row.on is.rest (sym is.kind ∙ e))
        (line-at options bytes line row is)))
    go (LeafRow l) e =
        let starts : (leaf l).starts options row.on is.rest ≡ true =
        kind-starts options row.on is.rest l (sym is.kind ∙ e) in
        let empty : row.empty ≡ false = leaf-filled options bytes line row l is e
        (λ i. let bad : true ≡ false = sym (ends l e) ∙ insider-open row.on l i in cc) in
        subst (Facts bytes row is.rest) (sym e)
        (subst₂
        (λ (own : List ℕ) (empty : Bool).
        LeafFacts bytes (Some ((leaf l).block is.rest)) (not empty) row.first row.end ((leaf l).unread own row.first)
        ((leaf l).done bytes own row.first))
        (sym (row-text options bytes line row is)) (sym empty)
        ((laws l).facts (ends l e) options row.on bytes is.rest row.first row.end starts
        (leaf-at options bytes line row is)))
    go TextRow e = absurd (other e)

-- a line of a leaf is one of this leaf
abbrev pub row-as : (options : ParseOptions) (bytes line : List ℕ) (row : Row) → IsRow options bytes line row →
    (l : LeafName) → row.kind ≡ LeafRow l → IsLineOf options bytes (leaf l) row
row-as options bytes line row is l kind = record {
  rest = is.rest;
  at = leaf-at options bytes line row is;
  column = is.column;
  starts = kind-starts options row.on is.rest l (sym is.kind ∙ kind);
  inside = is.leaf_is l kind ∙ ap (λ (own : List ℕ). (leaf l).added options row.on own row.first) is.line_is;
  following = is.following ∙ ap (line_following options row.on is.rest) kind;
  empty =
      is.empty
      ∙ ap
      (λ (k : RowKind). (stays_blank k && is_blank is.rest.bytes) || (is_empty_row row && (row.first.column == 1)))
      kind;
  ending = ap (λ (k : RowKind). is_blank_by k row) kind;
}
