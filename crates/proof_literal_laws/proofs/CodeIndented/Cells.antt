-- Lines of indented code by their cells: the first one and further ones take the lines that the line definition says,
-- and add what it says of their bytes.
use Rattle.std.proofs.Common.{◌≡◌, ℕ, zero, suc, ◌^◌, ◌<◌, Bool, true, false, cond, ◌&&◌, ◌||◌, List, [], ◌∷◌, ◌++◌}
use Rattle.std.proofs.Common.{length, refl, sym, ◌∙◌, ap, ap₂, arith}
use Rattle.std.specs.Prelude.{nat_le, nat_lt, not, Some, None}
use Rattle.std.specs.Option.{is_some}
use Rattle.std.proofs.lemmas.Bool.{and_parts}
use Rattle.std.proofs.lemmas.Bool.Decides.{nat_tests}
use Rattle.md_engine.specs.declared.configuration.ParseOptions.{ParseOptions}
use Rattle.md_engine.specs.declared.event.Event.{Event}
use Rattle.md_engine.specs.declared.event.Name.{Name}
use Rattle.md_engine.specs.declared.event.Name.TheVariants as n
use Rattle.md_engine.specs.declared.event.Point.{Point}
use Rattle.md_engine.specs.declared.tokenizer.Line.{Line}
use Rattle.md_engine.specs.declared.tokenizer.held_leaf.HeldLeaf.{HeldLeaf}
use Rattle.md_engine.specs.declared.tokenizer.held_leaf.HeldLeaf.TheVariants as held_leaf
use Rattle.md_engine.specs.Meaning.{Cell}
use Rattle.md_meaning.specs.Bytes.{is_end}
use Rattle.md_meaning.specs.Rest.{Rest, cut_tab, indent, is_blank, lose}
use Rattle.md_meaning.proofs.TextsLemmas.{NoEnding}
use Rattle.md_literal.specs.Code.{may_open}
use Rattle.md_literal.specs.CodeRule.{blank_adds, code_continues, is_indented, line_adds}
use Rattle.md_leaves.specs.Further.{further_link}
use Rattle.md_literal.proofs.CodeLines.{blank-line, indented-same}
use Rattle.md_events.specs.Ahead.{line_bytes, line_end, white_end}
use Rattle.md_events.specs.Events.Nested.{enter, enter_link, exit, pair}
use Rattle.md_events.specs.Events.Places.{past_text}
use Rattle.md_events.proofs.FeedLines.{Stops}
use Rattle.md_events.proofs.LostColumns.{HasLost, lose-walk}
use Rattle.md_events.proofs.RestCells.{RestAt, lose-no_ending, rest_cells}
use Rattle.md_events.proofs.RestLines.{blank-cells, end-cells}
use Rattle.proof_frame.specs.RestLine.{rest_line}
use Rattle.proof_literal_laws.specs.Leaf.CodeIndented.{code_further, code_leaf, code_parts, further_parts}
use Rattle.proof_literal_laws.specs.Leaf.CodeIndented.{continues_code, is_code, line_parts, starts_code}
use Rattle.proof_frame.specs.LineColumns.{part_over, past_columns}
use Rattle.proof_literal_laws.proofs.CodeIndented.Trial.{is_code_line, kept-some}
use Rattle.proof_frame.proofs.IndentRemoved.Columns.{columns-end, first-white, rest-again}
use Rattle.proof_frame.proofs.LineEnds.{line-ends}

-- They take the lines that the line definition says.

pub code-fits : (options : ParseOptions) (on : HeldLeaf) (said : Line) (text following : List ℕ) (r : Rest) (p : Point)
    (stop : List Cell) →
    RestAt text following r p → NoEnding r.bytes → Stops stop → length (rest_cells said r p ++ stop) < 2 ^ 63 →
    code_leaf.takes options on (rest_cells said r p ++ stop) ≡ code_leaf.starts options on r
code-fits options on said text following r p stop is h k short =
    kept-some (is_code_line options on (rest_cells said r p ++ stop))
    ∙ ap₂ (λ (some blank : Bool). options.constructs.code_indented && may_open on && some && not blank)
    (indented-same said text following r p stop is k) (blank-cells said r p stop h k)

proceeds-some : (leaf : HeldLeaf) (cells : List Cell) →
    is_some (code_continues leaf cells) ≡ (is_blank (line_bytes cells) || is_indented cells)
proceeds-some leaf cells = go (is_blank (line_bytes cells)) (is_indented cells)
  where
    go : (blank indented : Bool) →
        is_some (cond blank (Some leaf) (cond indented (Some held_leaf.Code) None)) ≡ (blank || indented)
    go true indented = refl
    go false true = refl
    go false false = refl

pub code_further-fits : (options : ParseOptions) (on : HeldLeaf) (said : Line) (text following : List ℕ) (r : Rest)
    (p : Point) (stop : List Cell) →
    RestAt text following r p → NoEnding r.bytes → Stops stop → length (rest_cells said r p ++ stop) < 2 ^ 63 →
    code_further.takes options on (rest_cells said r p ++ stop) ≡ code_further.starts options on r
code_further-fits options on said text following r p stop is h k short =
    ap (λ (x : Bool). is_code on && x) (proceeds-some on (rest_cells said r p ++ stop))
    ∙ ap₂ (λ (blank some : Bool). is_code on && (blank || some)) (blank-cells said r p stop h k)
    (indented-same said text following r p stop is k)

-- What is known of the rest of a first line: an indent, and text after it.
pub record IsCodeRest (options : ParseOptions) (on : HeldLeaf) (r : Rest) : Type 0 where
  pub enabled : options.constructs.code_indented ≡ true
  pub indented : nat_le 4 (indent r) ≡ true
  pub dark : is_blank r.bytes ≡ false

pub code-rest : (options : ParseOptions) (on : HeldLeaf) (r : Rest) → starts_code options on r ≡ true →
    IsCodeRest options on r
code-rest options on r e =
    let both = and_parts (options.constructs.code_indented && may_open on && nat_le 4 (indent r))
    (not (is_blank r.bytes)) e in
    let more = and_parts (options.constructs.code_indented && may_open on) (nat_le 4 (indent r)) both.0 in
    let first = and_parts options.constructs.code_indented (may_open on) more.0 in
    record {
      enabled = first.0;
      indented = more.1;
      dark = no (is_blank r.bytes) both.1;
    }
  where
    no : (x : Bool) → not x ≡ true → x ≡ false
    no false h = refl
    no true h = cc

-- And the rest of a further line has an indent if it has text.
further-indented : (on : HeldLeaf) (r : Rest) → continues_code on r ≡ true → is_blank r.bytes ≡ false →
    nat_le 4 (indent r) ≡ true
further-indented on r e dark =
    ap (λ (x : Bool). x || nat_le 4 (indent r)) (sym dark)
    ∙ (and_parts (is_code on) (is_blank r.bytes || nat_le 4 (indent r)) e).1

-- By the bytes of the line.

-- a part over what is left of a line with text
pub over-some : (name : Name) (left : Rest) (p q : Point) → is_blank left.bytes ≡ false →
    part_over name (rest_line left) p q ≡ pair name p q
over-some name left p q e = go left.spaces left.bytes e
  where
    go : (spaces : ℕ) (bytes : List ℕ) → is_blank bytes ≡ false →
        part_over name (cut_tab spaces ++ bytes) p q ≡ pair name p q
    go zero [] h = cc
    go zero (b ∷ bs) h = refl
    go (suc k) bytes h = refl

-- a line of code has its four columns, and a chunk after them
pub code-parts : (r : Rest) (p q : Point) → nat_le 4 (indent r) ≡ true → is_blank r.bytes ≡ false →
    code_parts r p q ≡
    (pair n.SpaceOrTab p (past_columns 4 r p) ++ pair n.CodeFlowChunk (past_columns 4 r p) q)
code-parts r p q indented dark =
    let at = past_columns 4 r p in
    let some : nat_lt 0 (indent r) ≡ true = grind (arith, nat_tests) in
    ap (λ (x : Bool). cond x (pair n.SpaceOrTab p at) [] ++ part_over n.CodeFlowChunk (rest_line (lose 4 r)) at q) some
    ∙ ap (λ (es : List Event). pair n.SpaceOrTab p at ++ es)
    (over-some n.CodeFlowChunk (lose 4 r) at q (blank-line r ∙ dark))

-- A line with text adds what the line definition says of its bytes, whatever its begin.
line-adds : (begin : Event) (said : Line) (text following : List ℕ) (r : Rest) (p : Point) (stop : List Cell) →
    RestAt text following r p → NoEnding r.bytes → Stops stop → nat_le 4 (indent r) ≡ true → is_blank r.bytes ≡ false →
    line_adds begin (rest_cells said r p ++ stop) p ≡ line_parts begin r p (past_text (rest_line r) p)
line-adds begin said text following r p stop is h k indented dark =
    ap₂ (λ (x y : Point). begin ∷ pair n.SpaceOrTab p x ++ pair n.CodeFlowChunk x y ++ exit n.CodeIndented y ∷ [])
    (columns-end said text following 4 r p stop is k) (line-ends said text following r p stop is h k)
    ∙ ap (λ (es : List Event). begin ∷ es ++ exit n.CodeIndented (past_text (rest_line r) p) ∷ [])
    (sym (code-parts r p (past_text (rest_line r) p) indented dark))

pub code-adds : (options : ParseOptions) (on : HeldLeaf) (said : Line) (text following : List ℕ) (r : Rest) (p : Point)
    (stop : List Cell) →
    RestAt text following r p → NoEnding r.bytes → Stops stop → length (rest_cells said r p ++ stop) < 2 ^ 63 →
    code_leaf.starts options on r ≡ true →
    code_leaf.adds options on (rest_cells said r p ++ stop) p ≡ code_leaf.added options on (rest_line r) p
code-adds options on said text following r p stop is h k short e =
    let rest = code-rest options on r e in
    line-adds (enter n.CodeIndented p) said text following r p stop is h k rest.indented rest.dark
    ∙ sym
    (ap (λ (s : Rest). line_parts (enter n.CodeIndented p) s p (past_text (rest_line r) p))
    (rest-again text following r p is))

-- A blank line.

over-by : (name : Name) (line : List ℕ) (p q : Point) →
    cond (is_end line) [] (pair name p q) ≡ part_over name line p q
over-by name [] p q = refl
over-by name (b ∷ bs) p q = refl

-- It adds what is said of its bytes; so would any other line.
blank-adds : (said : Line) (text following : List ℕ) (r : Rest) (p : Point) (stop : List Cell) →
    RestAt text following r p → NoEnding r.bytes → Stops stop →
    blank_adds (rest_cells said r p ++ stop) p ≡ code_parts r p (past_text (rest_line r) p)
blank-adds said text following r p stop is h k =
    ap₂
    (λ (white empty : Bool).
    cond white (pair n.SpaceOrTab p (white_end 4 cells p)) []
    ++ cond empty [] (pair n.CodeFlowChunk (white_end 4 cells p) (line_end cells p)))
    (first-white said text following r p stop is k)
    (ap (λ (l : List Cell). is_end (line_bytes l)) lost.left
    ∙ end-cells said (lose 4 r) (white_end 4 cells p) stop (lose-no_ending 4 r h) k)
    ∙ ap₂
    (λ (x y : Point).
    cond (nat_lt 0 (indent r)) (pair n.SpaceOrTab p x) []
    ++ cond (is_end (rest_line (lose 4 r))) [] (pair n.CodeFlowChunk x y))
    (columns-end said text following 4 r p stop is k) (line-ends said text following r p stop is h k)
    ∙ ap (λ (es : List Event). cond (nat_lt 0 (indent r)) (pair n.SpaceOrTab p (past_columns 4 r p)) [] ++ es)
    (over-by n.CodeFlowChunk (rest_line (lose 4 r)) (past_columns 4 r p) q)
  where
    cells : List Cell
    cells = rest_cells said r p ++ stop

    q : Point
    q = past_text (rest_line r) p

    lost : HasLost said text following 4 r p stop cells (white_end 4 cells p)
    lost = lose-walk said text following 4 r p stop is k

-- So a further line adds what is said of its bytes, blank or not.
pub code_further-adds : (options : ParseOptions) (on : HeldLeaf) (said : Line) (text following : List ℕ) (r : Rest)
    (p : Point) (stop : List Cell) →
    RestAt text following r p → NoEnding r.bytes → Stops stop → length (rest_cells said r p ++ stop) < 2 ^ 63 →
    code_further.starts options on r ≡ true →
    code_further.adds options on (rest_cells said r p ++ stop) p ≡ code_further.added options on (rest_line r) p
code_further-adds options on said text following r p stop is h k short e =
    ap (λ (x : Bool). cond x (blank_adds cells p) (line_adds begin cells p)) (blank-cells said r p stop h k)
    ∙ go (is_blank r.bytes) refl
    ∙ sym (ap (λ (s : Rest). further_parts s p q) (rest-again text following r p is))
  where
    cells : List Cell
    cells = rest_cells said r p ++ stop

    q : Point
    q = past_text (rest_line r) p

    begin : Event
    begin = enter_link n.CodeIndented p further_link

    go : (x : Bool) → is_blank r.bytes ≡ x →
        cond x (blank_adds cells p) (line_adds begin cells p) ≡ cond x (code_parts r p q) (line_parts begin r p q)
    go true blank = blank-adds said text following r p stop is h k
    go false dark = line-adds begin said text following r p stop is h k (further-indented on r e dark) dark
