-- Text beside text as one piece, among nodes.
use Rattle.std.specs.Prelude.{ℕ, ◌+◌, List, [], ◌∷◌, Option, Some, None}
use Rattle.md_engine.specs.declared.event.Name.{Name}
use Rattle.md_engine.specs.declared.event.Name.TheVariants as n
use Rattle.reference_inlines.specs.declared.node.Node.{Node}
use Rattle.reference_inlines.specs.declared.node.Node.TheVariants as node

abbrev pub data_len_of : Name → ℕ → Option ℕ
data_len_of n.Data len = Some len
data_len_of _ len = None

-- how many bytes of text a node is; none of another
abbrev pub data_len : Node → Option ℕ
data_len (node.Piece name len) = data_len_of name len
data_len (node.Begin name) = None
data_len node.End = None
data_len (node.Run r) = None

abbrev pub sum_node : Option ℕ → Option ℕ → Option Node
sum_node (Some len) (Some more) = Some (node.Piece n.Data (len + more))
sum_node (Some len) None = None
sum_node None other = None

-- two nodes as one, if both are text
abbrev pub both : Node → Node → Option Node
both nd next = sum_node (data_len nd) (data_len next)

abbrev pub placed : Option Node → Node → Node → List Node → List Node
placed (Some whole) nd next list = whole ∷ list
placed None nd next list = nd ∷ next ∷ list

-- a node before nodes
abbrev pub joined_node : Node → List Node → List Node
joined_node nd [] = nd ∷ []
joined_node nd (next ∷ list) = placed (both nd next) nd next list

-- nodes before nodes of which no text is beside text
abbrev pub merged_onto : List Node → List Node → List Node
merged_onto [] list = list
merged_onto (nd ∷ before) list = joined_node nd (merged_onto before list)
