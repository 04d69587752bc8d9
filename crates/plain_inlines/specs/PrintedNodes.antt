-- The printed form of nodes, as the program makes it.
use Rattle.std.specs.Prelude.{ℕ, ◌+◌, ◌-◌, List, [], ◌∷◌, ◌++◌, take, drop}
use Rattle.reference_inlines.specs.Nodes.{len_of}
use Rattle.reference_inlines.specs.declared.node.Node.{Node}
use Rattle.reference_inlines.specs.declared.node.Node.TheVariants as node
use Rattle.plain_inlines.specs.PrintedForest.{part_line, piece_line}

abbrev pub node_lines : ℕ → List ℕ → Node → List ℕ
node_lines depth text (node.Begin name) = part_line depth name
node_lines depth text node.End = []
node_lines depth text (node.Piece name len) = piece_line depth name (take len text)
node_lines depth text (node.Run r) = []

-- how many parts are open after a node
abbrev pub depth_after : ℕ → Node → ℕ
depth_after depth (node.Begin name) = depth + 1
depth_after depth node.End = depth - 1
depth_after depth (node.Piece name len) = depth
depth_after depth (node.Run r) = depth

-- nodes at the front of a text, in so many parts
abbrev pub printed_nodes : ℕ → List ℕ → List Node → List ℕ
printed_nodes depth text [] = []
printed_nodes depth text (nd ∷ list) =
    node_lines depth text nd ++ printed_nodes (depth_after depth nd) (drop (len_of nd) text) list
