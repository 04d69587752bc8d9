-- What is kept of an open text from line to line: how far the definitions at its front have come, which an underline
-- asks (CommonMark 4.7), and its last line as the head of a table, which a delimiter row asks (GFM 4.10).
use Rattle.std.specs.Prelude.{ℕ, Bool, if◌then◌else◌, List}
use Rattle.md_meaning.specs.Rest.{Rest, tab_columns, trim_start}
use Rattle.md_meaning.specs.State.{ParagraphLine, kept}
use Rattle.md_engine.specs.declared.tokenizer.held_leaf.HeldLeaf.{HeldLeaf}
use Rattle.md_engine.specs.declared.tokenizer.held_leaf.HeldLeaf.TheVariants as held_leaf
use Rattle.md_engine.specs.declared.tokenizer.held_leaf.OpenText.{OpenText}
use Rattle.md_engine.specs.declared.tokenizer.held_leaf.Progress.{Progress}
use Rattle.md_link_definitions.specs.Head.{head_columns}
use Rattle.md_link_definitions.specs.Progress.{progress_of, step}

-- by how far its definitions have come, and by its last line
abbrev pub open_text : Progress → ParagraphLine → OpenText
open_text at k = record { progress = at; columns = head_columns k.text; indent = k.indent }

-- what is held of a text after one more line, where the line meets this leaf
abbrev pub text_following : HeldLeaf → Rest → HeldLeaf
text_following on r = held_leaf.Text (open_text (step (progress_of on) (trim_start r.bytes)) (kept r))

-- the rest of a line that begins at this column, from 0, perhaps within a tab, by the bytes that begin on it
abbrev pub begun_rest : ℕ → Bool → List ℕ → Rest
begun_rest column cut line = record { column = column; spaces = if cut then tab_columns column else 0; bytes = line }
