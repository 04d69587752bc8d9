-- E-mail addresses in the text of nodes: what is open is counted, so that nothing is as deep as the text is.
use Rattle.std.specs.Prelude.{ℕ, zero, suc, ◌+◌, if◌then◌else◌, List, [], ◌∷◌, ◌++◌, take, drop, Option, Some, None}
use Rattle.md_engine.specs.declared.event.Name.{Name}
use Rattle.md_inlines.specs.declared.InlineOptions.{InlineOptions}
use Rattle.md_inlines.specs.Emails.{emails_in, holds_text}
use Rattle.reference_inlines.specs.Merged.{data_len, merged_onto}
use Rattle.reference_inlines.specs.Nodes.{nodes}
use Rattle.reference_inlines.specs.declared.node.Node.{Node}
use Rattle.reference_inlines.specs.declared.node.Node.TheVariants as node

-- where a text is read after a node
abbrev pub at_after : ℕ → Node → ℕ
at_after at (node.Piece name len) = at + len
at_after at (node.Run r) = at + r.left
at_after at (node.Begin name) = at
at_after at node.End = at

-- how many parts are open of which the text is not searched, or that are in one: after one more begins, and after one
-- ends
abbrev pub begun : ℕ → Name → ℕ
begun zero name = if holds_text name then 0 else 1
begun (suc hidden) name = suc (suc hidden)

abbrev pub ended : ℕ → ℕ
ended zero = zero
ended (suc hidden) = hidden

abbrev pub hidden_after : ℕ → Node → ℕ
hidden_after hidden (node.Begin name) = begun hidden name
hidden_after hidden node.End = ended hidden
hidden_after hidden (node.Piece name len) = hidden
hidden_after hidden (node.Run r) = hidden

-- a node at a place of a text, if so many of its bytes are text
abbrev pub data_searched : List ℕ → ℕ → Node → Option ℕ → List Node
data_searched text at nd (Some len) =
    nodes (emails_in (take at (take (at + len) text)) (drop at (take (at + len) text)))
data_searched text at nd None = nd ∷ []

abbrev pub node_searched : List ℕ → ℕ → ℕ → Node → List Node
node_searched text zero at nd = data_searched text at nd (data_len nd)
node_searched text (suc hidden) at nd = nd ∷ []

-- nodes from a place of a text on, where so many such parts are open
abbrev pub searched : List ℕ → ℕ → ℕ → List Node → List Node
searched text hidden at [] = []
searched text hidden at (nd ∷ list) =
    node_searched text hidden at nd ++ searched text (hidden_after hidden nd) (at_after at nd) list

-- all of it, with text beside text as one piece, if addresses are searched
abbrev pub addressed : InlineOptions → List ℕ → ℕ → List Node → List Node
addressed options text start list =
    if options.constructs.gfm_autolink_literal then merged_onto (searched text 0 start list) [] else list
