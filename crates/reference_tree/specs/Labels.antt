-- What the lists of labels mean, and the labels of a block without those of the blocks in it.
use Rattle.std.specs.Prelude.{List, [], ◌∷◌, map, string_bytes}
use Rattle.md_meaning.specs.Label.{Labels, both, no_labels, normal_form}
use Rattle.md_meaning.specs.Tree.{Block, Footnote, Definition}
use Rattle.reference_tree.specs.Placed.{Place}
use Rattle.reference_tree.specs.declared.labels.Labels.{Labels as Lists}

abbrev pub labels_meaning : Lists → Labels
labels_meaning x = record {
  definitions = map string_bytes x.definitions.items;
  footnotes = map string_bytes x.footnotes.items;
}

abbrev pub own_labels : Block → Labels
own_labels (Footnote label bs) = record { definitions = []; footnotes = normal_form (label ∷ []) ∷ [] }
own_labels (Definition label destination title) = record { definitions = normal_form label ∷ []; footnotes = [] }
own_labels _ = no_labels

abbrev pub labels_at : List Place → Labels
labels_at [] = no_labels
labels_at (p ∷ ps) = both (own_labels p.block) (labels_at ps)
