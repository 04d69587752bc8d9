-- The block tree: what a text means, without positions.
use Rattle.std.specs.Prelude.{ℕ, Bool, List, Option}
use Rattle.md_meaning.specs.declared.alert.AlertKind.{AlertKind}
use Rattle.md_meaning.specs.declared.outline.Word.{Word}

-- a line of code, HTML or math: virtual spaces, then bytes
pub record Line : Type 0 where
  pub spaces : ℕ
  pub text : List ℕ

mutual
  -- A block. Texts are as written, without markers and container prefixes, and without their line endings.
  pub data Block : Type 0 where
    -- the byte of the fences, and the lines
    Frontmatter : ℕ → List (List ℕ) → Block
    -- the kind, if it is an alert
    Quote : Option AlertKind → Blocks → Block
    -- the byte of the markers, and the items
    ListOf : ℕ → Blocks → Block
    -- the marker byte, the digits before it (none for a bullet), and the blocks
    Item : ℕ → List ℕ → Blocks → Block
    -- the label, and the blocks
    Footnote : List ℕ → Blocks → Block
    -- the depth, and the lines
    Heading : ℕ → List (List ℕ) → Block
    -- a leaf block of which nothing is known but the word that shows it: a thematic break
    Bare : Word → Block
    Code : List Line → Block
    Html : List Line → Block
    -- the byte of the fences, `info`, `meta`, the lines, and whether there is a closing fence
    Fence : ℕ → Option (List ℕ) → Option (List ℕ) → List Line → Bool → Block
    -- `meta`, the lines, and whether there is a closing fence
    Math : Option (List ℕ) → List Line → Bool → Block
    -- the lines of the label, the destination, and the lines of the title
    Definition : List (List ℕ) → List ℕ → Option (List (List ℕ)) → Block
    Paragraph : List (List ℕ) → Block
    -- the delimiter row without outer whitespace, and the cells of each row, the head first
    Table : List ℕ → List (List (List ℕ)) → Block

  pub data Blocks : Type 0 where
    End : Blocks
    More : Block → Blocks → Blocks
