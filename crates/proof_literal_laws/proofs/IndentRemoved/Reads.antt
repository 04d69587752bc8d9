-- How a line that loses columns of whitespace is read, in a leaf of several lines: as its last line.
use Rattle.std.proofs.Common.{◌≡◌, ℕ, zero, suc, List, [], ◌∷◌, ◌++◌, drop, sym, ◌∙◌, ap}
use Rattle.std.specs.Prelude.{Option, Some, None}
use Rattle.md_engine.specs.declared.event.Name.{Name}
use Rattle.md_engine.specs.declared.event.Point.{Point}
use Rattle.md_meaning.specs.Rest.{Rest, cut_tab, line_of, lose}
use Rattle.md_meaning.specs.Tree.{Line}
use Rattle.md_literal.specs.CodeLine as code
use Rattle.md_literal.proofs.CodeLines.{chunk-reads}
use Rattle.md_events.specs.Events.Nested.{pair}
use Rattle.md_events.specs.Events.Places.{past_text}
use Rattle.md_events.specs.Events.Spelled.{AsLine, OpenLeaf, Reading, Role, TextRole, empty_line, noted, on_leaf, read}
use Rattle.md_events.specs.Events.Spelled.{read_enter, read_exit, role}
use Rattle.md_events.proofs.RestCells.{RestAt}
use Rattle.md_events.proofs.SpelledLemmas.{read-from, read-quiet}
use Rattle.proof_frame.specs.RestLine.{rest_line}
use Rattle.proof_frame.specs.LineColumns.{columns_part, lost_line, part_over, past_columns}
use Rattle.proof_frame.proofs.IndentRemoved.Columns.{past-line}
use Rattle.proof_frame.proofs.IndentRemoved.Places.{FurtherAt, has-left}
use Rattle.proof_frame.proofs.IndentRemoved.Reads.{columns-quiet, leaf-recorded}

-- a part over a line
chunk-recorded : (bytes : List ℕ) (name : Name) (p q : Point) (rd : Reading) → role name ≡ TextRole AsLine →
    read bytes rd (pair name p q) ≡
    on_leaf (noted AsLine (code.chunk_line bytes p q)) (record rd { text = None })
chunk-recorded bytes name p q rd is = ap (λ (x : Role). read_exit bytes x q (read_enter bytes x p rd)) is

-- what is left of a line, if anything is: an empty line leaves the last one as it is
over-read : (bytes following : List ℕ) (name : Name) (left : Rest) (at q : Point) (rd : Reading) (leaf : OpenLeaf) →
    role name ≡ TextRole AsLine → RestAt bytes following left at → q ≡ past_text (rest_line left) at → rd.text ≡ None →
    rd.leaf ≡ Some leaf → noted AsLine empty_line leaf ≡ leaf →
    read bytes rd (part_over name (rest_line left) at q) ≡
    record rd { leaf = Some (noted AsLine (line_of left) leaf) }
over-read bytes following name left at q rd leaf named valid ends none is still = go left.spaces left.bytes recorded
  where
    with_line : Line → Reading
    with_line line = record rd { leaf = Some (noted AsLine line leaf) }

    recorded : read bytes rd (pair name at q) ≡ with_line (line_of left)
    recorded =
        chunk-recorded bytes name at q rd named
        ∙ leaf-recorded rd (noted AsLine (code.chunk_line bytes at q)) leaf none is
        ∙ ap with_line
        (ap (code.chunk_line bytes at) (ends ∙ sym (past-line bytes following left at valid))
        ∙ chunk-reads bytes following left at valid)

    empty : rd ≡ with_line empty_line
    empty =
        ap (λ (l : Option OpenLeaf). let x : Reading = record rd { leaf = l } in x)
        (is ∙ ap (λ (l : OpenLeaf). Some l) (sym still))

    go : (spaces : ℕ) (text : List ℕ) →
        read bytes rd (pair name at q) ≡ with_line (record { spaces = spaces; text = text }) →
        read bytes rd (part_over name (cut_tab spaces ++ text) at q) ≡
        with_line (record { spaces = spaces; text = text })
    go zero [] h = empty
    go zero (b ∷ bs) h = h
    go (suc k) text h = h

-- The line: what is left of it goes into the last one.
pub lost-read : (bytes : List ℕ) (name : Name) (lost : ℕ) (r : Rest) (p q : Point) → role name ≡ TextRole AsLine →
    FurtherAt bytes r p q → (rd : Reading) (leaf : OpenLeaf) → rd.text ≡ None → rd.leaf ≡ Some leaf →
    noted AsLine empty_line leaf ≡ leaf →
    read bytes rd (lost_line name lost r p q) ≡
    record rd { leaf = Some (noted AsLine (line_of (lose lost r)) leaf) }
lost-read bytes name lost r p q named is rd leaf none at still =
    let left = has-left bytes lost r p q is in
    read-from bytes rd rd (columns_part lost r p) (part_over name (rest_line (lose lost r)) (past_columns lost r p) q)
    (read-quiet bytes rd (columns_part lost r p) (columns-quiet lost r p))
    ∙ over-read bytes (drop q.index bytes) name (lose lost r) (past_columns lost r p) q rd leaf named left.valid
    left.ends none at still
