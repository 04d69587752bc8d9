-- Paragraphs (CommonMark 4.8), as a leaf of lines of text.
use Rattle.md_engine.specs.declared.event.Name.TheVariants as n
use Rattle.md_engine.specs.declared.tokenizer.held_leaf.HeldLeaf.{HeldLeaf}
use Rattle.md_engine.specs.declared.tokenizer.held_leaf.HeldLeaf.TheVariants as held_leaf
use Rattle.md_content.specs.Paragraph.{text_link}
use Rattle.std.specs.Prelude.{ℕ, List, [], ◌∷◌}
use Rattle.md_engine.specs.declared.configuration.ParseOptions.{ParseOptions}
use Rattle.md_meaning.specs.State.{ParagraphLine, Leaf, OpenParagraph, cut, shut_paragraph, texts}
use Rattle.md_meaning.specs.Tree.{Paragraph}
use Rattle.md_engine.specs.declared.tokenizer.held_leaf.OpenText.{OpenText}
use Rattle.md_link_definitions.specs.Head.{head_columns}
use Rattle.md_link_definitions.specs.Progress.{progress}
use Rattle.proof_frame.specs.TextLeaf.{TextLeaf}

abbrev pub paragraph_leaf : TextLeaf
paragraph_leaf = record {
  name = n.Paragraph;
  link = text_link;
  block = λ lines. Paragraph lines;
  held = λ lines. OpenParagraph lines;
  following = λ options bs lines. shut_paragraph options bs lines;
}

-- the lines of an open text
abbrev pub held_of : Leaf → List ParagraphLine
held_of (OpenParagraph lines) = lines
held_of _ = []

-- those that remain of it, where what is cut from its front is not counted
abbrev pub left_of : ParseOptions → Leaf → List (List ℕ)
left_of options leaf = (cut options (texts (held_of leaf))).1

-- a number of the last of these lines; 0 where there is none
abbrev pub of_last : (ParagraphLine → ℕ) → List ParagraphLine → ℕ
of_last number [] = 0
of_last number (k ∷ []) = number k
of_last number (k ∷ next ∷ ks) = of_last number (next ∷ ks)

-- what is kept of an open text of these lines: how far what is cut from its front has come, and what of its last line a
-- line after it may ask
abbrev pub open_lines : List ParagraphLine → OpenText
open_lines lines = record {
  progress = progress (texts lines);
  columns = of_last (λ k. head_columns k.text) lines;
  indent = of_last (λ k. k.indent) lines;
}

-- As what an open leaf is held, and whether it may be open: an open text is held with what is kept of its lines, and
-- has a line at least. Of any other leaf it is as this says.
abbrev pub held_or : (Leaf → HeldLeaf) → Leaf → HeldLeaf
held_or other (OpenParagraph lines) = held_leaf.Text (open_lines lines)
held_or other leaf = other leaf

abbrev pub IsTextOr : (Leaf → Type 0) → Leaf → Type 0
IsTextOr Other (OpenParagraph []) = ⊥
IsTextOr Other (OpenParagraph (k ∷ ks)) = Unit {0}
IsTextOr Other leaf = Other leaf
