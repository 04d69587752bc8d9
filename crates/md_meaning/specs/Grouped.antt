-- Lists: neighbouring items with the same marker byte (CommonMark 5.3).
use Rattle.std.specs.Prelude.{ℕ, ◌==◌, if◌then◌else◌}
use Rattle.md_meaning.specs.Tree.{Block, Quote, ListOf, Item, Footnote, Blocks, End, More}

-- this item before these blocks: in their first list if the marker is the same, else in a list of its own
abbrev pub with_item : ℕ → Block → Blocks → Blocks
with_item marker item (More (ListOf m items) bs) =
    if marker == m then More (ListOf m (More item items)) bs
    else More (ListOf marker (More item End)) (More (ListOf m items) bs)
with_item marker item bs = More (ListOf marker (More item End)) bs

-- this block before these
abbrev pub with_front : Block → Blocks → Blocks
with_front (Item marker digits inner) bs = with_item marker (Item marker digits inner) bs
with_front b bs = More b bs

-- every longest run of neighbouring items with one marker becomes a list, in all containers
abbrev mutual
  pub grouped_block : Block → Block
  grouped_block (Quote kind bs) = Quote kind (grouped bs)
  grouped_block (Item marker digits bs) = Item marker digits (grouped bs)
  grouped_block (Footnote label bs) = Footnote label (grouped bs)
  grouped_block b = b

  pub grouped : Blocks → Blocks
  grouped End = End
  grouped (More b bs) = with_front (grouped_block b) (grouped bs)
