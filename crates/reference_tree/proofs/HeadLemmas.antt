-- The last line of a paragraph as the head of a table.
use Rattle.std.proofs.Common.{◌≡◌, ℕ, Bool, true, false, cond, ◌&&◌, List, [], ◌∷◌, ◌++◌, reverse, length, Option, Some}
use Rattle.std.proofs.Common.{None, refl, ◌∙◌, ap, arith}
use Rattle.std.proofs.lemmas.List.{reverse-append, reverse-reverse}
use Rattle.md_engine.specs.declared.configuration.ParseOptions.{ParseOptions}
use Rattle.md_meaning.specs.Tree.{Blocks}
use Rattle.md_meaning.specs.Rest.{Rest, has_small_indent, trim}
use Rattle.md_meaning.specs.Table.{delimiter_columns, row_cells}
use Rattle.md_meaning.specs.State.{ParagraphLine, OpenTable, Innermost, shut_paragraph, texts}
use Rattle.md_meaning.specs.Leaves.{is_head_of, table_by, table_at}
use Rattle.reference_tree.specs.Paragraphs.{head_by, head_of, table_spot}

-- the table with this head, if it is one
abbrev pub spot_with : ParseOptions → Blocks → List ParagraphLine → Rest → Option (List (List ℕ)) → Option Innermost
spot_with options bs earlier r None = None
spot_with options bs earlier r (Some cells) = Some (table_spot options bs earlier cells r)

table_by-head : (options : ParseOptions) (bs : Blocks) (earlier : List ParagraphLine) (k : ParagraphLine) (r : Rest)
    (columns : Option ℕ) →
    table_by options bs (k ∷ reverse earlier) (trim r.bytes) columns ≡
    spot_with options bs earlier r (head_by options k columns)
table_by-head options bs earlier k r None = refl
table_by-head options bs earlier k r (Some columns) = by (is_head_of options k columns)
  where
    by : (v : Bool) →
        cond v
        (Some
        (record {
          here = shut_paragraph options bs (texts (reverse (reverse earlier)));
          leaf = OpenTable (trim r.bytes) (row_cells k.text ∷ []);
        })) None
        ≡ spot_with options bs earlier r (cond v (Some (row_cells k.text)) None)
    by true =
        ap
        (λ e.
        Some
        (record {
          here = shut_paragraph options bs (texts e);
          leaf = OpenTable (trim r.bytes) (row_cells k.text ∷ []);
        }))
        (reverse-reverse earlier)
    by false = refl

pub table_at-head : (options : ParseOptions) (bs : Blocks) (lines earlier : List ParagraphLine) (k : ParagraphLine)
    (r : Rest) → lines ≡ earlier ++ k ∷ [] →
    table_at options bs lines r ≡ spot_with options bs earlier r (head_of options k r)
unfolding table_at
table_at-head options bs lines earlier k r e =
    let turned : reverse lines ≡ k ∷ reverse earlier = ap reverse e ∙ reverse-append earlier (k ∷ []) in
    by (options.constructs.gfm_table && has_small_indent options r) turned
  where
    by : (v : Bool) → reverse lines ≡ k ∷ reverse earlier →
        cond v (table_by options bs (reverse lines) (trim r.bytes) (delimiter_columns (trim r.bytes))) None ≡
        spot_with options bs earlier r (cond v (head_by options k (delimiter_columns (trim r.bytes))) None)
    by false t = refl
    by true t =
        ap (λ ls. table_by options bs ls (trim r.bytes) (delimiter_columns (trim r.bytes))) t
        ∙ table_by-head options bs earlier k r (delimiter_columns (trim r.bytes))

table_at-none : (options : ParseOptions) (bs : Blocks) (r : Rest) → table_at options bs [] r ≡ None
unfolding table_at
table_at-none options bs r = by (options.constructs.gfm_table && has_small_indent options r)
  where
    by : (v : Bool) → cond v (table_by options bs [] (trim r.bytes) (delimiter_columns (trim r.bytes))) None ≡ None
    by true = refl
    by false = refl

-- a paragraph with no line has no head
pub table_at-empty : (options : ParseOptions) (bs : Blocks) (lines : List ParagraphLine) (r : Rest) → 0 ≡ length lines →
    table_at options bs lines r ≡ None
table_at-empty options bs [] r e = table_at-none options bs r
table_at-empty options bs (k ∷ lines) r e = absurd (omega (arith, e))
