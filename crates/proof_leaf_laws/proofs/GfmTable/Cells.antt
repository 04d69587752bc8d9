-- A line of a table by its cells: it is where the line definition says, and adds what its bytes say.
use Rattle.std.proofs.Common.{◌≡◌, ℕ, ◌<◌, ◌≤◌, ◌^◌, Bool, true, false, ◌&&◌, List, ◌++◌, length, refl, ap, ap₂}
use Rattle.std.proofs.Common.{◌∙◌, arith}
use Rattle.std.specs.Prelude.{nat_lt}
use Rattle.std.proofs.lemmas.Bool.{and_parts}
use Rattle.std.proofs.lemmas.Bool.Decides.{nat_tests}
use Rattle.md_engine.specs.declared.configuration.ParseOptions.{ParseOptions}
use Rattle.md_engine.specs.declared.event.Event.{Event}
use Rattle.md_engine.specs.declared.event.Point.{Point}
use Rattle.md_engine.specs.declared.tokenizer.Line.{Line}
use Rattle.md_engine.specs.declared.tokenizer.held_leaf.HeldLeaf.{HeldLeaf}
use Rattle.md_engine.specs.declared.tokenizer.held_leaf.HeldLeaf.TheVariants as held_leaf
use Rattle.md_engine.specs.declared.tokenizer.held_leaf.OpenText.{OpenText}
use Rattle.md_engine.specs.Meaning.{Cell}
use Rattle.md_meaning.specs.Rest.{Rest, has_small_indent, is_small, trim, trim_start}
use Rattle.md_meaning.specs.Table.{delimiter_columns}
use Rattle.md_meaning.proofs.TextsLemmas.{NoEnding}
use Rattle.md_events.specs.Ahead.{line_cells}
use Rattle.md_events.specs.Spaces.{small_indent}
use Rattle.md_events.proofs.FeedLines.{Stops}
use Rattle.md_events.proofs.RestCells.{RestAt, rest_cells}
use Rattle.md_events.proofs.RestLines.{spread-line}
use Rattle.md_tables.specs.DelimiterRule as delimiter
use Rattle.md_tables.specs.GfmTable.{may_head}
use Rattle.md_tables.specs.GfmTableLine.{are_columns, delimiter_adds, delimiter_line, is_row_of, row_adds, row_line}
use Rattle.md_tables.specs.RowRule as row
use Rattle.md_tables.specs.declared.row.Row.TheVariants.{Body}
use Rattle.md_tables.proofs.DelimiterBytes.{row_of-columns, row_of-spread, row_of-white}
use Rattle.md_tables.proofs.DelimiterSpread.{indent-runs}
use Rattle.md_tables.proofs.DelimiterSpread as by_delimiter
use Rattle.md_tables.proofs.RowSpread as by_row
use Rattle.proof_frame.specs.RestLine.{rest_line}
use Rattle.proof_leaf_laws.specs.Leaf.GfmTable.{table_leaf}
use Rattle.proof_frame.proofs.MarkRuns.Fits.{Reports, line-fits}
use Rattle.proof_frame.proofs.RestFacts.{rest-line_end, rest-no_ending, rest-same, small-indented}

-- Where it is.

-- text that may be a head has cells
pub head-some : (options : ParseOptions) (at : OpenText) → may_head options at ≡ true → 0 < at.columns
head-some options at e =
    let some : nat_lt 0 at.columns ≡ true =
    (and_parts options.constructs.gfm_table (nat_lt 0 at.columns)
    (and_parts (options.constructs.gfm_table && nat_lt 0 at.columns) (is_small options at.indent) e).0).1 in
    grind (arith, nat_tests)

row-records : (columns : ℕ) → Reports (is_row_of columns)
row-records columns = record { spread_same = row_of-spread columns; dark = row_of-white columns }

pub table-fits : (options : ParseOptions) (on : HeldLeaf) (said : Line) (text following : List ℕ) (r : Rest) (p : Point)
    (stop : List Cell) →
    RestAt text following r p → NoEnding r.bytes → Stops stop → length (rest_cells said r p ++ stop) < 2 ^ 63 →
    table_leaf.takes options on (rest_cells said r p ++ stop) ≡ table_leaf.starts options on r
table-fits options (held_leaf.Text at) said text following r p stop is h k short =
    line-fits (is_row_of at.columns) (row-records at.columns) (may_head options at) options said text
    following r p stop is h
    k short
    ∙ go (may_head options at) refl
  where
    go : (x : Bool) → may_head options at ≡ x →
        (x && has_small_indent options r && is_row_of at.columns (trim_start r.bytes)) ≡
        (x && has_small_indent options r && are_columns (delimiter_columns (trim r.bytes)) at.columns)
    go true e =
        ap (λ (y : Bool). true && has_small_indent options r && y)
        (row_of-columns at.columns r.bytes (head-some options at e))
    go false e = refl
table-fits options held_leaf.Table said text following r p stop is h k short = refl
table-fits options _ said text following r p stop is h k short = refl

-- What it adds.

-- a delimiter row after its indent
delimiter-adds : (options : ParseOptions) (said : Line) (text following : List ℕ) (r : Rest) (p : Point)
    (stop : List Cell) →
    RestAt text following r p → NoEnding r.bytes → Stops stop → length (rest_cells said r p ++ stop) < 2 ^ 63 →
    has_small_indent options r ≡ true →
    delimiter_adds options (rest_cells said r p ++ stop) p ≡ delimiter_line (rest_line r) p
delimiter-adds options said text following r p stop is h k short small =
    ap₂ (λ (es : List Event) (q : Point). delimiter.row_opens p ++ es ++ delimiter.row_closes q)
    (indent-runs (small_indent options) (rest_cells said r p ++ stop) p
    (small-indented options said text following r p stop is h k short small).none
    ∙ rest-same (List Event) (λ (l : List Cell). delimiter.runs delimiter.Apart (line_cells l) p) said
    (λ at cs. refl) r p stop one is.cut
    ∙ ap (λ (l : List Cell). delimiter.runs delimiter.Apart l p)
    (spread-line said (rest_line r) p stop (rest-no_ending r h) k)
    ∙ by_delimiter.spread-runs delimiter.Apart said (rest_line r) p one)
    (rest-line_end said r p stop h k one is.cut)
  where
    one : 1 ≤ p.column
    one = omega (arith, is.column)

-- a further row
row-adds : (said : Line) (text following : List ℕ) (r : Rest) (p : Point) (stop : List Cell) →
    RestAt text following r p →
    NoEnding r.bytes → Stops stop → row_adds (rest_cells said r p ++ stop) p ≡ row_line (rest_line r) p
row-adds said text following r p stop is h k =
    ap₂ (λ (es : List Event) (q : Point). row.row_opens Body p ++ es ++ row.row_closes Body q)
    (rest-same (List Event) (λ (l : List Cell). row.runs row.Apart (line_cells l) p) said (λ at cs. refl) r p stop one
    is.cut
    ∙ ap (λ (l : List Cell). row.runs row.Apart l p) (spread-line said (rest_line r) p stop (rest-no_ending r h) k)
    ∙ by_row.row-spread row.Apart said (rest_line r) p one)
    (rest-line_end said r p stop h k one is.cut)
  where
    one : 1 ≤ p.column
    one = omega (arith, is.column)

-- any line of it
pub table-adds : (options : ParseOptions) (on : HeldLeaf) (said : Line) (text following : List ℕ) (r : Rest) (p : Point)
    (stop : List Cell) →
    RestAt text following r p → NoEnding r.bytes → Stops stop → length (rest_cells said r p ++ stop) < 2 ^ 63 →
    table_leaf.starts options on r ≡ true →
    table_leaf.adds options on (rest_cells said r p ++ stop) p ≡ table_leaf.added options on (rest_line r) p
table-adds options (held_leaf.Text at) said text following r p stop is h k short starts =
    delimiter-adds options said text following r p stop is h k short
    (and_parts (may_head options at) (has_small_indent options r)
    (and_parts (may_head options at && has_small_indent options r)
    (are_columns (delimiter_columns (trim r.bytes)) at.columns) starts).0).1
table-adds options held_leaf.Table said text following r p stop is h k short starts =
    row-adds said text following r p stop is h k
table-adds options _ said text following r p stop is h k short starts = cc
