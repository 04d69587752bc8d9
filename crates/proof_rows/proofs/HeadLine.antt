-- A line of text that is the head of a table, read again: by its bytes.
use Rattle.std.proofs.Common.{◌≡◌, ◌^◌, ◌<◌, ℕ, List, [], ◌++◌, refl, ap, ap₂, sym, ◌∙◌, subst, arith}
use Rattle.md_engine.specs.declared.configuration.ParseOptions.{ParseOptions}
use Rattle.md_engine.specs.declared.event.Event.{Event}
use Rattle.md_engine.specs.declared.event.Name.TheVariants as n
use Rattle.md_engine.specs.declared.event.Point.{Point}
use Rattle.md_engine.specs.Meaning.{Cell}
use Rattle.md_engine.specs.World.{Setting, fresh, reads_to}
use Rattle.md_meaning.specs.Rest.{Rest}
use Rattle.md_meaning.proofs.TextsLemmas.{NoEnding}
use Rattle.md_events.specs.Ahead.{line_cells, line_end}
use Rattle.md_events.specs.Events.Nested.{around}
use Rattle.md_events.proofs.FeedLines.{feed-none}
use Rattle.md_events.proofs.RestCells.{rest_cells}
use Rattle.md_events.proofs.RestLines.{spread-line}
use Rattle.md_tables.specs.GfmTableLine.{head_line as line_head}
use Rattle.md_tables.specs.Heads.{cells_between, head_line, head_row}
use Rattle.md_tables.specs.RowRule as row_rule
use Rattle.md_tables.specs.declared.row.Row.TheVariants.{Head}
use Rattle.md_tables.proofs.RowSpread.{row-spread}
use Rattle.proof_frame.specs.RestLine.{rest_line}
use Rattle.proof_frame.specs.Row.{Row, TextRow, row_line}
use Rattle.proof_content_laws.proofs.Defined.Along.{no_line}
use Rattle.proof_rows.proofs.Defined.Cells.{row-feed, uncut-no_ending}
use Rattle.proof_rows.proofs.ParagraphReads.{row-within}
use Rattle.proof_frame.proofs.RestFacts.{rest-line_end, rest-no_ending, rest-same}
use Rattle.proof_rows.proofs.RowFacts.{IsRow}

-- the cells from the begin of a line up to its end are those of its rest
row-between : (options : ParseOptions) (bytes line : List ℕ) (row : Row) → (is : IsRow options bytes line row) →
    row.kind ≡ TextRow → cells_between bytes options row.first row.end ≡ rest_cells no_line is.rest row.first ++ []
row-between options bytes line row is text =
    row-feed options bytes line x row is small refl refl (omega arith)
    ∙ ap (λ (l : List Cell). rest_cells no_line is.rest row.first ++ l) (feed-none x row.end small (omega arith))
  where
    x : Setting
    x = (reads_to (fresh bytes options row.first) row.end.index).setting

    small : row.end.index < 2 ^ 61
    small = let within = row-within options bytes line row is text in omega (arith, is.small, within)

-- So the head by its cells is that by its bytes.
pub head-bytes : (options : ParseOptions) (bytes line : List ℕ) (row : Row) → IsRow options bytes line row →
    row.kind ≡ TextRow →
    head_line bytes options row.first row.end ≡ line_head (row_line bytes row) row.first
unfolding head_line
head-bytes options bytes line row is text =
    ap (λ (l : List Cell). around n.GfmTable p (line_end l p) (head_row l p))
    (row-between options bytes line row is text)
    ∙ ap₂
    (λ (es : List Event) (q : Point).
    around n.GfmTable p q (row_rule.row_opens Head p ++ es ++ row_rule.row_closes Head q))
    (rest-same (List Event) (λ (l : List Cell). row_rule.runs row_rule.Apart (line_cells l) p) no_line (λ at cs. refl)
    r p [] is.first_column is.cut
    ∙ ap (λ (l : List Cell). row_rule.runs row_rule.Apart l p)
    (spread-line no_line (rest_line r) p [] (rest-no_ending r none) tt)
    ∙ row-spread row_rule.Apart no_line (rest_line r) p is.first_column)
    (rest-line_end no_line r p [] none tt is.first_column is.cut)
    ∙ ap (λ (l : List ℕ). line_head l p) (sym (is.text ∙ is.line_is))
  where
    p : Point
    p = row.first

    r : Rest
    r = is.rest

    none : NoEnding r.bytes
    none = uncut-no_ending r.spaces r.bytes (subst NoEnding is.line_is is.no_ending)
