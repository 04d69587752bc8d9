-- What a link or an image leads to, as nodes.
use Rattle.std.specs.Prelude.{ℕ, ◌-◌, Bool, true, false, ◌&&◌, ◌==◌, not, if◌then◌else◌, List, [], ◌∷◌, ◌++◌, length}
use Rattle.std.specs.Prelude.{take, drop, Option, Some, None, option_map}
use Rattle.md_engine.specs.declared.event.Name.TheVariants as n
use Rattle.md_meaning.specs.Ascii.{left_bracket, left_parenthesis, right_bracket}
use Rattle.md_meaning.specs.Lines.{begins_with}
use Rattle.md_inline_events.specs.Forest.{Forest}
use Rattle.md_inlines.specs.Target.{is_own_label, label_len, resource_at}
use Rattle.md_inlines.specs.declared.InlineOptions.{InlineOptions}
use Rattle.md_inlines.specs.declared.Resource.{Resource}
use Rattle.md_inlines.specs.Targets.{string_at_most}
use Rattle.reference_inlines.specs.Merged.{merged_onto}
use Rattle.reference_inlines.specs.Nodes.{kept, nodes}
use Rattle.reference_inlines.specs.declared.node.Node.{Node}
use Rattle.reference_inlines.specs.declared.node.Node.TheVariants as node

-- a string of which no text is joined yet
abbrev pub string_parts : InlineOptions → List ℕ → Forest
string_parts options text = string_at_most options (length text) text

abbrev pub string_nodes : InlineOptions → List ℕ → List Node
string_nodes options text = merged_onto (nodes (string_parts options text)) []

-- without the first and the last byte
abbrev pub inner : List ℕ → List ℕ
inner text = take (length text - 2) (drop 1 text)

abbrev pub destination_nodes : InlineOptions → Bool → List ℕ → List Node
destination_nodes options true text =
    node.Begin n.ResourceDestinationLiteral ∷ node.Piece n.ResourceDestinationLiteralMarker 1
    ∷ node.Begin n.ResourceDestinationString ∷ []
    ++ string_nodes options (inner text)
    ++ node.End ∷ node.Piece n.ResourceDestinationLiteralMarker 1 ∷ node.End ∷ []
destination_nodes options false text =
    node.Begin n.ResourceDestinationRaw ∷ node.Begin n.ResourceDestinationString ∷ []
    ++ string_nodes options text ++ node.End ∷ node.End ∷ []

abbrev pub marked_title : InlineOptions → List ℕ → List Node
marked_title options text =
    node.Piece n.ResourceTitleMarker 1 ∷ node.Begin n.ResourceTitleString ∷ []
    ++ string_nodes options (inner text) ++ node.End ∷ node.Piece n.ResourceTitleMarker 1 ∷ []

-- the title, where there is one, with the whitespace after it
abbrev pub title_nodes : InlineOptions → Resource → List ℕ → List Node
title_nodes options r text =
    if r.title == 0 then []
    else node.Begin n.ResourceTitle ∷ [] ++ marked_title options (take r.title text)
    ++ kept (node.End ∷ node.Piece n.SpaceOrTab r.after ∷ [])

abbrev pub resource_nodes : InlineOptions → List ℕ → Resource → List Node
resource_nodes options text r =
    let start : List ℕ = drop r.before (drop 1 text) in
    kept
    (node.Begin n.Resource ∷ node.Piece n.ResourceMarker 1 ∷ node.Piece n.SpaceOrTab r.before
    ∷ node.Begin n.ResourceDestination ∷ [])
    ++ destination_nodes options r.is_literal (take r.destination start)
    ++ kept (node.End ∷ node.Piece n.SpaceOrTab r.between ∷ [])
    ++ title_nodes options r (drop r.between (drop r.destination start))
    ++ node.Piece n.ResourceMarker 1 ∷ node.End ∷ []

-- how many bytes the label has whose `[` is first in a text
abbrev pub label_after : List ℕ → Option ℕ
label_after text = if begins_with left_bracket text then label_len (drop 1 text) else None

abbrev pub resource_found : InlineOptions → List ℕ → Option (List Node)
resource_found options text =
    if begins_with left_parenthesis text then option_map (resource_nodes options text) (resource_at (drop 1 text))
    else None

abbrev pub reference_nodes : InlineOptions → List ℕ → List Node
reference_nodes options label =
    node.Begin n.Reference ∷ node.Piece n.ReferenceMarker 1 ∷ node.Begin n.ReferenceString ∷ []
    ++ string_nodes options label ++ node.End ∷ node.Piece n.ReferenceMarker 1 ∷ node.End ∷ []

abbrev pub short : InlineOptions → (List ℕ → Bool) → List ℕ → List ℕ → Option (List Node)
short options is_definition inside after =
    if not (is_own_label inside && is_definition inside) then None
    else if begins_with left_bracket after && begins_with right_bracket (drop 1 after)
    then Some (reference_nodes options []) else Some []

abbrev pub defined : InlineOptions → (List ℕ → Bool) → List ℕ → Option (List Node)
defined options is_definition label = if is_definition label then Some (reference_nodes options label) else None

abbrev pub reference_after : InlineOptions → (List ℕ → Bool) → List ℕ → List ℕ → Option (List Node)
reference_after options is_definition inside after = elim (label_after after) [
  | None ↦ short options is_definition inside after
  | Some len ↦ defined options is_definition (take len (drop 1 after))
]

abbrev pub first_of_two : Option (List Node) → Option (List Node) → Option (List Node)
first_of_two (Some found) other = Some found
first_of_two None other = other

abbrev pub target : InlineOptions → (List ℕ → Bool) → List ℕ → List ℕ → Option (List Node)
target options is_definition inside after =
    first_of_two (resource_found options after) (reference_after options is_definition inside after)
