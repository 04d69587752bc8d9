-- The parts of what turns a paragraph.
use Rattle.std.specs.Prelude.{ℕ, ◌&&◌, if◌then◌else◌, List, [], ◌∷◌, map, Option, Some, None}
use Rattle.md_engine.specs.declared.configuration.ParseOptions.{ParseOptions}
use Rattle.md_meaning.specs.Tree.{Block, Definition, Blocks}
use Rattle.md_meaning.specs.Rest.{Rest, has_small_indent, trim}
use Rattle.md_meaning.specs.Table.{delimiter_columns, row_cells}
use Rattle.md_meaning.specs.Definition as d
use Rattle.md_meaning.specs.State.{ParagraphLine, OpenTable, Innermost, shut_paragraph, texts}
use Rattle.md_meaning.specs.Leaves.{is_head_of}
use Rattle.reference_tree.specs.declared.definition.Defined.{Defined}
use Rattle.reference_tree.specs.Definitions.{defined_meaning}

abbrev pub block_of : d.Defined → Block
block_of x = Definition x.label x.destination x.title

abbrev pub definitions_of : List Defined → List d.Defined
definitions_of ds = map defined_meaning ds

abbrev pub head_by : ParseOptions → ParagraphLine → Option ℕ → Option (List (List ℕ))
head_by options k None = None
head_by options k (Some columns) = if is_head_of options k columns then Some (row_cells k.text) else None

-- the cells of a head that is this line, if the rest is its delimiter row
abbrev pub head_of : ParseOptions → ParagraphLine → Rest → Option (List (List ℕ))
head_of options k r =
    if options.constructs.gfm_table && has_small_indent options r
    then head_by options k (delimiter_columns (trim r.bytes)) else None

-- the table after what is left of a paragraph
abbrev pub table_spot : ParseOptions → Blocks → List ParagraphLine → List (List ℕ) → Rest → Innermost
table_spot options bs earlier cells r = record {
  here = shut_paragraph options bs (texts earlier);
  leaf = OpenTable (trim r.bytes) (cells ∷ []);
}
