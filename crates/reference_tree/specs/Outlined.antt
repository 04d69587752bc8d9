-- What the lines of an outline say.
use Rattle.std.specs.Prelude.{ℕ, ◌+◌, List, [], ◌∷◌}
use Rattle.std.specs.List.{flat_map}
use Rattle.md_meaning.specs.Outline.{Entry, entry, entry_with, quote_word, block_entries}
use Rattle.md_meaning.specs.declared.outline.Word.{Word}
use Rattle.md_meaning.specs.declared.outline.Word.TheVariants as word
use Rattle.md_meaning.specs.Tree.{Block, Quote, ListOf, Item, Footnote}
use Rattle.reference_tree.specs.Placed.{Place}

-- a line with all of its parts
abbrev pub entry_as : ℕ → Word → ℕ → List ℕ → Entry
entry_as depth word spaces text = record { depth = depth; word = word; spaces = spaces; text = text }

-- the lines of a block without those of the blocks in it
abbrev pub own_entries : ℕ → Block → List Entry
own_entries depth (Quote kind bs) = entry depth (quote_word kind) ∷ []
own_entries depth (ListOf marker items) = entry depth (word.List marker) ∷ []
own_entries depth (Item marker digits bs) = entry depth word.Item ∷ []
own_entries depth (Footnote label bs) = entry depth word.Footnote ∷ entry_with (depth + 1) word.Label label ∷ []
own_entries depth b = block_entries depth b

abbrev pub own_lines : List Place → List Entry
own_lines ps = flat_map (λ p. own_entries p.depth p.block) ps
