-- Where the line definition has a table, how it continues, and what is open after a line of it.
use Rattle.std.proofs.Common.{◌≡◌, ℕ, suc, ◌<◌, Bool, true, false, cond, ◌&&◌, ◌||◌, nat_eq, List, [], ◌∷◌, ◌++◌}
use Rattle.std.proofs.Common.{length, map, reverse, Option, Some, None, refl, ap, ap₂, sym, ◌∙◌, subst, arith}
use Rattle.std.specs.Prelude.{nat_lt}
use Rattle.std.specs.Option.{is_some}
use Rattle.std.proofs.lemmas.Bool.Decides.{nat_tests}
use Rattle.std.proofs.lemmas.List.{length-map, reverse-append, reverse-reverse}
use Rattle.md_engine.specs.declared.configuration.ParseOptions.{ParseOptions}
use Rattle.md_engine.specs.declared.tokenizer.held_leaf.HeldLeaf.{HeldLeaf}
use Rattle.md_engine.specs.declared.tokenizer.held_leaf.HeldLeaf.TheVariants as held_leaf
use Rattle.md_engine.specs.declared.tokenizer.held_leaf.OpenText.{OpenText}
use Rattle.md_meaning.specs.Leaves.{NoText, Opened, starts, table_at, table_by, table_continued}
use Rattle.md_meaning.specs.Rest.{Rest, has_small_indent, is_blank, is_small, trim}
use Rattle.md_meaning.specs.State.{ParagraphLine, Leaf, NoLeaf, OpenCode, OpenFence, OpenHtml, OpenParagraph}
use Rattle.md_meaning.specs.State.{OpenTable, Innermost, shut_paragraph, texts}
use Rattle.md_meaning.specs.Step.{became}
use Rattle.md_meaning.specs.Table.{delimiter_columns, is_head, pieces, row_cells}
use Rattle.md_meaning.specs.Bytes.{after_optional}
use Rattle.md_meaning.specs.Tree.{Blocks}
use Rattle.md_tables.specs.GfmTableLine.{are_columns}
use Rattle.md_link_definitions.proofs.Pieces.{Parted, pieces-parted}
use Rattle.proof_frame.specs.HeldLeaf.{kind_of_leaf, left_by, may_continue}
use Rattle.proof_leaf_laws.specs.Leaf.GfmTable.{first_cells, may_be_table, table_leaf}

-- It begins where its leaf says.

-- a row has a cell at least
row-some : (row : List ℕ) → nat_lt 0 (length (row_cells row)) ≡ true
unfolding row_cells
row-some row =
    let ps : List (List ℕ) = pieces false (after_optional 124 (trim row)) in
    let parted : Parted ps = pieces-parted false (after_optional 124 (trim row)) in
    let size : length (map trim ps) ≡ suc (length parted.others) = length-map ps trim ∙ ap length parted.is in
    let some : 0 < length (map trim ps) = omega (arith, size) in
    grind (arith, nat_tests)

same-either : (m n : ℕ) → nat_eq m n ≡ nat_eq n m
same-either m n = go (nat_eq m n) refl (nat_eq n m) refl
  where
    go : (x : Bool) → nat_eq m n ≡ x → (y : Bool) → nat_eq n m ≡ y → x ≡ y
    go true e true f = refl
    go true e false f = grind (arith, nat_tests)
    go false e true f = grind (arith, nat_tests)
    go false e false f = refl

-- What is held of an open text is right of its last line: how many cells that has as a head, 0 where it is none, and
-- its indent.
pub record KnowsHead (text : OpenText) (k : ParagraphLine) : Type 0 where
  pub columns : text.columns ≡ cond (is_head k.text) (length (row_cells k.text)) 0
  pub indent : text.indent ≡ k.indent

-- So it is by the lines of the text, the last one first.
found-following : (options : ParseOptions) (bs : Blocks) (lines : List ParagraphLine) (k : ParagraphLine)
    (before : List ParagraphLine)
    (text : OpenText) (r : Rest) →
    reverse lines ≡ k ∷ before → KnowsHead text k →
    table_at options bs lines r ≡
    cond (table_leaf.starts options (held_leaf.Text text) r)
    (Some
    (became (shut_paragraph options bs (texts (reverse before)))
    (table_leaf.becomes options (OpenParagraph lines) r))) None
unfolding table_at
found-following options bs lines k before text r last knows =
    subst Found (sym last)
    (ap (λ (o : Option Innermost). cond (on && small) o None) (as-head (delimiter_columns row))
    ∙ go on small (is_small options k.indent) (is_head k.text) (delimiter_columns row)
    ∙ ap₂ (by on small (delimiter_columns row)) (sym knows.columns) (sym (ap (is_small options) knows.indent)))
  where
    on : Bool
    on = options.constructs.gfm_table

    small : Bool
    small = has_small_indent options r

    row : List ℕ
    row = trim r.bytes

    shut_lines : Blocks
    shut_lines = shut_paragraph options bs (texts (reverse before))

    Found : List ParagraphLine → Type 0
    Found ks =
        cond (on && small) (table_by options bs ks row (delimiter_columns row)) None ≡
        cond (table_leaf.starts options (held_leaf.Text text) r)
        (Some (became shut_lines (Opened (OpenTable row (first_cells ks ∷ []))))) None

    here : Option Innermost
    here = Some (record { here = shut_lines; leaf = OpenTable row (row_cells k.text ∷ []) })

    size : ℕ
    size = length (row_cells k.text)

    headed : Bool → Bool → Option ℕ → Option Innermost
    headed near head None = None
    headed near head (Some m) = cond (near && head && nat_eq size m) here None

    as-head : (o : Option ℕ) →
        table_by options bs (k ∷ before) row o ≡ headed (is_small options k.indent) (is_head k.text) o
    as-head None = refl
    as-head (Some m) = refl

    by : Bool → Bool → Option ℕ → ℕ → Bool → Option Innermost
    by on small o columns near = cond ((on && nat_lt 0 columns && near) && small && are_columns o columns) here None

    some : nat_lt 0 size ≡ true
    some = row-some k.text

    go : (on small near head : Bool) (o : Option ℕ) →
        cond (on && small) (headed near head o) None ≡ by on small o (cond head size 0) near
    go false small near head o = refl
    go true false near false o = refl
    go true false true true o = rw some refl
    go true false false true o = rw some refl
    go true true true false None = refl
    go true true true false (Some m) = refl
    go true true false false None = refl
    go true true false false (Some m) = refl
    go true true false true None = rw some refl
    go true true false true (Some m) = rw some refl
    go true true true true None = rw some refl
    go true true true true (Some m) = rw some (ap (λ (x : Bool). cond x here None) (same-either size m))

-- Where a line meets text, that becomes a table where the leaf starts: its last line is the head, and the lines before
-- that are closed.
pub table-found : (options : ParseOptions) (bs : Blocks) (before : List ParagraphLine) (k : ParagraphLine)
    (text : OpenText) (r : Rest) → KnowsHead text k →
    table_at options bs (before ++ k ∷ []) r ≡
    cond (table_leaf.starts options (held_leaf.Text text) r)
    (Some
    (became (shut_paragraph options bs (texts before))
    (table_leaf.becomes options (OpenParagraph (before ++ k ∷ [])) r))) None
table-found options bs before k text r knows =
    found-following options bs (before ++ k ∷ []) k (reverse before) text r (reverse-append before (k ∷ [])) knows
    ∙ ap
    (λ (ks : List ParagraphLine).
    cond (table_leaf.starts options (held_leaf.Text text) r)
    (Some
    (became (shut_paragraph options bs (texts ks)) (table_leaf.becomes options (OpenParagraph (before ++ k ∷ [])) r)))
    None) (reverse-reverse before)

-- It starts on text only where tables are on.
pub table-enabled : (options : ParseOptions) (text : OpenText) (r : Rest) →
    table_leaf.starts options (held_leaf.Text text) r ≡ true → options.constructs.gfm_table ≡ true
table-enabled options text r e =
    go options.constructs.gfm_table (nat_lt 0 text.columns) (is_small options text.indent) (has_small_indent options r)
    (are_columns (delimiter_columns (trim r.bytes)) text.columns) e
  where
    go : (x a b c d : Bool) → (x && a && b) && c && d ≡ true → x ≡ true
    go true a b c d e = refl
    go false a b c d e = cc

-- A table continues, up to a blank line and to one that starts another leaf.
pub table-proceeds : (options : ParseOptions) (delimiter : List ℕ) (rows : List (List (List ℕ))) (r : Rest) →
    table_continued options delimiter rows r ≡
    cond (is_blank r.bytes || is_some (starts options NoText r)) None
    (Some (table_leaf.becomes options (OpenTable delimiter rows) r))
unfolding table_continued
table-proceeds options delimiter rows r = refl

-- What is known of a line of it.

-- a table is open after it
pub table-held : (options : ParseOptions) (leaf : Leaf) (r : Rest) →
    table_leaf.starts options (kind_of_leaf leaf) r ≡ true →
    kind_of_leaf (left_by (table_leaf.becomes options leaf r)) ≡ held_leaf.Table
table-held options NoLeaf r e = cc
table-held options (OpenParagraph lines) r e = refl
table-held options (OpenCode lines) r e = cc
table-held options (OpenFence o lines) r e = cc
table-held options (OpenHtml kind lines) r e = cc
table-held options (OpenTable delimiter rows) r e = refl

-- it continues what a line may continue
pub table-lines : (on : HeldLeaf) → may_be_table on ≡ true → may_continue on ≡ true
table-lines (held_leaf.Text text) e = refl
table-lines held_leaf.Table e = refl
table-lines _ e = cc
