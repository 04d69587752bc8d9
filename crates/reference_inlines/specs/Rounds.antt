-- Emphasis among nodes, as the plain program reads it: by the places of two runs that pair, round by round. What it has
-- to do with the definition is in `proofs/RoundLemmas.antt`.
use Rattle.std.specs.Prelude.{ℕ, zero, suc, ◌+◌, ◌-◌, Bool, ◌&&◌, ◌==◌, nat_le, nat_lt, if◌then◌else◌, List, [], ◌∷◌}
use Rattle.std.specs.Prelude.{◌++◌, length, take, drop, Option, Some, None}
use Rattle.md_engine.specs.declared.event.Name.{Name}
use Rattle.md_engine.specs.declared.event.Name.TheVariants as n
use Rattle.md_meaning.specs.Ascii.{tilde}
use Rattle.md_inlines.specs.declared.Run.{Run}
use Rattle.md_inlines.specs.Emphasis.{may_pair}
use Rattle.reference_inlines.specs.Nodes.{pieces, texts}
use Rattle.reference_inlines.specs.declared.emphasis.Opener.{Opener}
use Rattle.reference_inlines.specs.declared.emphasis.Pair.{Pair}
use Rattle.reference_inlines.specs.declared.node.Node.{Node}
use Rattle.reference_inlines.specs.declared.node.Node.TheVariants as node

-- the run that a node is, if this one may close it
abbrev pub opens_for : Bool → Run → Node → Option Run
opens_for single closer (node.Run opener) = if may_pair single opener closer then Some opener else None
opens_for single closer (node.Begin name) = None
opens_for single closer node.End = None
opens_for single closer (node.Piece name len) = None

abbrev pub opener_first : Option Run → Option Opener
opener_first (Some r) = Some (record { at = 0; run = r })
opener_first None = None

abbrev pub opener_later : Option Opener → Option Opener → Option Opener
opener_later (Some found) first = Some (record { at = suc found.at; run = found.run })
opener_later None first = first

-- the last such
abbrev pub last_opener : Bool → Run → List Node → Option Opener
last_opener single closer [] = None
last_opener single closer (nd ∷ list) =
    opener_later (last_opener single closer list) (opener_first (opens_for single closer nd))

abbrev pub opened : ℕ → Run → Option Opener → Option Pair
opened at closer (Some found) =
    Some (record { opener_at = found.at; opener = found.run; closer_at = at; closer = closer })
opened at closer None = None

-- the pair of a node with the last such before it
abbrev pub pair_at : Bool → List Node → Node → Option Pair
pair_at single before (node.Run closer) = opened (length before) closer (last_opener single closer before)
pair_at single before (node.Begin name) = None
pair_at single before node.End = None
pair_at single before (node.Piece name len) = None

abbrev pub either_pair : Option Pair → Option Pair → Option Pair
either_pair (Some pair) other = Some pair
either_pair None other = other

-- the first pair of nodes after others
abbrev pub pair_from : Bool → List Node → List Node → Option Pair
pair_from single before [] = None
pair_from single before (nd ∷ list) = either_pair (pair_at single before nd) (pair_from single (before ++ nd ∷ []) list)

abbrev pub used_of : Run → Run → ℕ
used_of opener closer =
    if closer.mark == tilde then closer.left
    else if nat_le 2 opener.left && nat_le 2 closer.left then 2
    else 1

abbrev pub shorter_nodes : ℕ → Run → List Node
shorter_nodes count r =
    if nat_lt count r.left
    then node.Run
    (record { mark = r.mark; size = r.size; left = r.left - count; opens = r.opens; closes = r.closes }) ∷ []
    else []

abbrev pub enclosed_nodes : Name → Name → Name → ℕ → List Node → List Node
enclosed_nodes whole sequence text count inside =
    node.Begin whole
    ∷ (pieces sequence count ++ node.Begin text ∷ (texts inside ++ node.End ∷ (pieces sequence count ++ node.End ∷ [])))

abbrev pub marked_nodes : ℕ → ℕ → List Node → List Node
marked_nodes mark count inside =
    if mark == tilde
    then enclosed_nodes n.GfmStrikethrough n.GfmStrikethroughSequence n.GfmStrikethroughText count inside
    else if count == 2 then enclosed_nodes n.Strong n.StrongSequence n.StrongText count inside
    else enclosed_nodes n.Emphasis n.EmphasisSequence n.EmphasisText count inside

-- the nodes once a pair is read
abbrev pub with_pair : List Node → Pair → List Node
with_pair list pair =
    let count : ℕ = used_of pair.opener pair.closer in
    take pair.opener_at list
    ++ (shorter_nodes count pair.opener
    ++ (marked_nodes pair.closer.mark count (drop 1 (drop pair.opener_at (take pair.closer_at list)))
    ++ (shorter_nodes count pair.closer ++ drop 1 (drop pair.closer_at list))))

-- with at most so many pairs
abbrev pub rounds : Bool → ℕ → List Node → List Node
rounds single zero list = texts list
rounds single (suc more) list = elim (pair_from single [] list) [
  | None ↦ texts list
  | Some pair ↦ rounds single more (with_pair list pair)
]

abbrev pub node_delimiters : Node → ℕ
node_delimiters (node.Run r) = r.left
node_delimiters (node.Begin name) = 0
node_delimiters node.End = 0
node_delimiters (node.Piece name len) = 0

-- how many bytes runs have
abbrev pub delimiters : List Node → ℕ
delimiters [] = 0
delimiters (nd ∷ list) = node_delimiters nd + delimiters list

abbrev pub emphasis_nodes : Bool → List Node → List Node
emphasis_nodes single list = rounds single (delimiters list) list
