-- Forests, and the items of a level, as lists of nodes.
use Rattle.std.specs.Prelude.{ℕ, zero, suc, ◌+◌, if◌then◌else◌, List, [], ◌∷◌, ◌++◌}
use Rattle.std.specs.List.{flat_map}
use Rattle.md_engine.specs.declared.event.Name.{Name}
use Rattle.md_engine.specs.declared.event.Name.TheVariants as n
use Rattle.md_inline_events.specs.Forest.{Forest, nothing, part, piece}
use Rattle.md_inlines.specs.Task.{is_checked}
use Rattle.md_inlines.specs.Emphasis.{Item, read, run}
use Rattle.reference_inlines.specs.declared.node.Node.{Node}
use Rattle.reference_inlines.specs.declared.node.Node.TheVariants as node

-- the nodes of a forest, in the order of its text
abbrev pub nodes : Forest → List Node
nodes nothing = []
nodes (piece name more following) = node.Piece name (suc more) ∷ nodes following
nodes (part name inside following) = node.Begin name ∷ (nodes inside ++ node.End ∷ nodes following)

-- of items
abbrev pub item_nodes : Item → List Node
item_nodes (read forest) = nodes forest
item_nodes (run r) = node.Run r ∷ []

abbrev pub items_nodes : List Item → List Node
items_nodes items = flat_map item_nodes items

-- a piece, if it is over a byte
abbrev pub pieces : Name → ℕ → List Node
pieces name zero = []
pieces name (suc more) = node.Piece name (suc more) ∷ []

-- what is left of runs is text
abbrev pub text_of : Node → List Node
text_of (node.Run r) = pieces n.Data r.left
text_of (node.Begin name) = node.Begin name ∷ []
text_of node.End = node.End ∷ []
text_of (node.Piece name len) = node.Piece name len ∷ []

abbrev pub texts : List Node → List Node
texts list = flat_map text_of list

-- a piece over no byte is nothing
abbrev pub kept_of : Node → List Node
kept_of (node.Run r) = node.Run r ∷ []
kept_of (node.Begin name) = node.Begin name ∷ []
kept_of node.End = node.End ∷ []
kept_of (node.Piece name len) = pieces name len

abbrev pub kept : List Node → List Node
kept list = flat_map kept_of list

-- over how many bytes nodes are
abbrev pub len_of : Node → ℕ
len_of (node.Run r) = r.left
len_of (node.Begin name) = 0
len_of node.End = 0
len_of (node.Piece name len) = len

abbrev pub len_of_all : List Node → ℕ
len_of_all [] = 0
len_of_all (nd ∷ list) = len_of nd + len_of_all list

-- the check of a task item, with this byte between its brackets
abbrev pub check_nodes : ℕ → List Node
check_nodes b =
    node.Begin n.GfmTaskListItemCheck ∷ node.Piece n.GfmTaskListItemMarker 1
    ∷ node.Piece (if is_checked b then n.GfmTaskListItemValueChecked else n.GfmTaskListItemValueUnchecked) 1
    ∷ node.Piece n.GfmTaskListItemMarker 1 ∷ node.End ∷ []
