-- The item that is last where a block may come: the list after it continues there, if that block is an item with its
-- marker.
use Rattle.std.specs.Prelude.{ℕ, zero, suc, Bool, false, ◌==◌, [], Option, Some, None}
use Rattle.md_meaning.specs.State.{At, Container, InFootnote, InItem, InQuote, Innermost, Leaf, NoLeaf, OpenParagraph}
use Rattle.md_meaning.specs.State.{Path, Within}
use Rattle.md_meaning.specs.Tree.{Block, Blocks, End, Item, More}

-- the marker of a block, if it is an item
abbrev pub item_of : Block → Option ℕ
item_of (Item marker digits bs) = Some marker
item_of b = None

-- and of a container
abbrev pub marker_in : Container → Option ℕ
marker_in (InQuote kind) = None
marker_in (InItem digits marker width starts_blank) = Some marker
marker_in (InFootnote label) = None

-- the marker of the last of these blocks, if that is an item
abbrev pub last_of : Blocks → Option ℕ
last_of End = None
last_of (More b End) = item_of b
last_of (More b (More next bs)) = last_of (More next bs)

-- an open leaf is the last block
abbrev pub last_after : Leaf → Blocks → Option ℕ
last_after NoLeaf bs = last_of bs
last_after leaf bs = None

abbrev pub last_in : Innermost → Option ℕ
last_in s = last_after s.leaf s.here

-- where so many of the open containers are left: the next of them is the last block there
abbrev pub last_at : ℕ → Path → Option ℕ
last_at depth (At s) = last_in s
last_at zero (Within before container p) = marker_in container
last_at (suc depth) (Within before container p) = last_at depth p

-- whether a list continues between an item that is last and one that is next
abbrev pub continues_between : Option ℕ → Option ℕ → Bool
continues_between (Some last) (Some next) = last == next
continues_between last next = false

-- an open paragraph has a line
abbrev pub HasLine : Leaf → Type 0
HasLine (OpenParagraph []) = ⊥
HasLine leaf = Unit {0}
