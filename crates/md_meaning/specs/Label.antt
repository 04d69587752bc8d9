-- The normal forms of labels (CommonMark 6.3).
use Rattle.std.specs.Prelude.{ℕ, List, [], ◌∷◌, ◌++◌, flat_map, filter, not, chars, encode_utf8_all}
use Rattle.std.specs.List.{join_with_byte, slice_split}
use Rattle.caseless.specs.Caseless.{default_case_fold}
use Rattle.md_meaning.specs.Rest.{is_white}
use Rattle.md_meaning.specs.Bytes.{is_end}
use Rattle.md_meaning.specs.Tree as t
use Rattle.md_meaning.specs.Ascii.{space}

-- the words of a line
abbrev pub words : List ℕ → List (List ℕ)
words line = filter (λ piece. not (is_end piece)) (slice_split is_white line)

-- the lines as one, with a single space for each run of spaces, tabs and endings, and none at the ends
abbrev pub spaced : List (List ℕ) → List ℕ
spaced lines = join_with_byte space (flat_map words lines)

-- the normal form of a label, given its lines
unfoldable pub normal_form : List (List ℕ) → List ℕ
normal_form lines = encode_utf8_all (default_case_fold (chars (spaced lines)))

-- The normal forms of the labels of a tree, in source order, repeats kept.
pub record Labels : Type 0 where
  pub definitions : List (List ℕ)
  pub footnotes : List (List ℕ)

abbrev pub both : Labels → Labels → Labels
both a b = record { definitions = a.definitions ++ b.definitions; footnotes = a.footnotes ++ b.footnotes }

abbrev pub no_labels : Labels
no_labels = record { definitions = []; footnotes = [] }

abbrev mutual
  -- the labels of a block
  pub block_labels : t.Block → Labels
  block_labels (t.Quote kind blocks) = labels blocks
  block_labels (t.ListOf marker items) = labels items
  block_labels (t.Item marker digits blocks) = labels blocks
  block_labels (t.Footnote label blocks) =
      both (record { definitions = []; footnotes = normal_form (label ∷ []) ∷ [] }) (labels blocks)
  block_labels (t.Definition label destination title) = record { definitions = normal_form label ∷ []; footnotes = [] }
  block_labels _ = no_labels

  -- the labels of blocks
  pub labels : t.Blocks → Labels
  labels t.End = no_labels
  labels (t.More block blocks) = both (block_labels block) (labels blocks)
