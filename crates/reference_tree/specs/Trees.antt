-- What the trees of the program mean.
use Rattle.std.specs.Prelude.{ℕ, List, [], ◌∷◌, map}
use Rattle.std.specs.Borrow.{Bor}
use Rattle.std.specs.Option.{option_copied, option_map}
use Rattle.md_meaning.specs.Tree as t
use Rattle.reference_tree.specs.declared.tree.Line.{Line}
use Rattle.reference_tree.specs.declared.tree.Block.{Block}
use Rattle.reference_tree.specs.declared.tree.Block.TheOpen.{Block-F}
use Rattle.reference_tree.specs.declared.tree.Block.TheOpen as layer
use Rattle.reference_tree.specs.declared.tree.Block.TheFolds.{fold-Block}

abbrev pub line_meaning : Line → t.Line
line_meaning l = record { spaces = l.spaces; text = l.text.now }

abbrev pub line_meanings : List Line → List t.Line
line_meanings lines = map line_meaning lines

abbrev pub slices : List (Bor (List ℕ)) → List (List ℕ)
slices xs = map (λ x. x.now) xs

abbrev pub blocks_of : List t.Block → t.Blocks
blocks_of [] = t.End
blocks_of (b ∷ bs) = t.More b (blocks_of bs)

-- One block, with the meaning of each inner block in its place.
abbrev pub block_step : Block-F t.Block → t.Block
block_step (layer.Frontmatter marker lines) = t.Frontmatter marker (map (λ l. l.now) lines.items)
block_step (layer.Quote kind inner) = t.Quote kind (blocks_of inner.items)
block_step (layer.ListOf marker inner) = t.ListOf marker (blocks_of inner.items)
block_step (layer.Item marker digits inner) = t.Item marker digits.now (blocks_of inner.items)
block_step (layer.Footnote label inner) = t.Footnote label.now (blocks_of inner.items)
block_step (layer.Heading depth lines) = t.Heading depth (map (λ l. l.now) lines.items)
block_step (layer.Bare word) = t.Bare word
block_step (layer.Code lines) = t.Code (line_meanings lines.items)
block_step (layer.Html lines) = t.Html (line_meanings lines.items)
block_step (layer.Fence marker info meta lines closed) =
    t.Fence marker (option_copied info) (option_copied meta) (line_meanings lines.items) closed
block_step (layer.Math meta lines closed) = t.Math (option_copied meta) (line_meanings lines.items) closed
block_step (layer.Definition label destination title) =
    t.Definition (map (λ l. l.now) label.items) destination.now (option_map (λ v. map (λ l. l.now) v.items) title)
block_step (layer.Paragraph lines) = t.Paragraph (map (λ l. l.now) lines.items)
block_step (layer.Table delimiter rows) = t.Table delimiter.now (map (λ row. map (λ l. l.now) row.items) rows.items)

abbrev pub meaning : Block → t.Block
meaning = fold-Block t.Block block_step

abbrev pub meanings : List Block → t.Blocks
meanings bs = blocks_of (map meaning bs)
