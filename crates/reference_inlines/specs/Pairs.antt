-- Pairs of brackets, as nodes.
use Rattle.std.specs.Prelude.{ℕ, ◌-◌, Bool, true, false, ◌&&◌, ◌||◌, ◌==◌, not, if◌then◌else◌, List, [], ◌∷◌, ◌++◌}
use Rattle.std.specs.Prelude.{length, Option, Some, None, option_map}
use Rattle.md_engine.specs.declared.event.Name.TheVariants as n
use Rattle.md_inlines.specs.declared.InlineOptions.{InlineOptions}
use Rattle.md_inlines.specs.Targets.{is_call}
use Rattle.reference_inlines.specs.Leading.{target}
use Rattle.reference_inlines.specs.Nodes.{kept, len_of_all}
use Rattle.reference_inlines.specs.Rounds.{emphasis_nodes}
use Rattle.reference_inlines.specs.declared.brackets.Made.{Made}
use Rattle.reference_inlines.specs.declared.node.Node.{Node}
use Rattle.reference_inlines.specs.declared.node.Node.TheVariants as node

-- a pair that is no text
pub record MadePair : Type 0 where
  pub list : List Node
  pub taken : ℕ
  pub is_link : Bool

abbrev pub made_of : Made → MadePair
made_of made = record { list = made.nodes.items; taken = made.taken; is_link = made.is_link }

abbrev pub link_front : List Node
link_front =
    node.Begin n.Link ∷ node.Begin n.Label ∷ node.Begin n.LabelLink ∷ node.Piece n.LabelMarker 1 ∷ node.End
    ∷ node.Begin n.LabelText ∷ []

abbrev pub image_front : List Node
image_front =
    node.Begin n.Image ∷ node.Begin n.Label ∷ node.Begin n.LabelImage ∷ node.Piece n.LabelImageMarker 1
    ∷ node.Piece n.LabelMarker 1 ∷ node.End ∷ node.Begin n.LabelText ∷ []

abbrev pub label_close : List Node
label_close = node.End ∷ node.Begin n.LabelEnd ∷ node.Piece n.LabelMarker 1 ∷ node.End ∷ node.End ∷ []

abbrev pub leading_nodes : Bool → List Node → List Node → List Node
leading_nodes is_link inside leads =
    (if is_link then link_front else image_front) ++ inside ++ label_close ++ leads ++ node.End ∷ []

abbrev pub leading : InlineOptions → Bool → List Node → List Node → MadePair
leading options is_link inner leads = record {
  list = leading_nodes is_link (emphasis_nodes options.gfm_strikethrough_single_tilde inner) leads;
  taken = len_of_all leads;
  is_link = is_link;
}

abbrev pub call_made : ℕ → MadePair
call_made len = record {
  list =
      kept
      (node.Begin n.GfmFootnoteCall ∷ node.Begin n.Label ∷ node.Begin n.GfmFootnoteCallLabel
      ∷ node.Piece n.LabelMarker 1 ∷ node.Piece n.GfmFootnoteCallMarker 1 ∷ node.End ∷ node.Begin n.LabelText
      ∷ node.Piece n.Data len ∷ node.End ∷ node.Begin n.LabelEnd ∷ node.Piece n.LabelMarker 1 ∷ node.End ∷ node.End
      ∷ node.End ∷ []);
  taken = 0;
  is_link = false;
}

abbrev pub leading_to : InlineOptions → (List ℕ → Bool) → Bool → List Node → List ℕ → List ℕ → Option MadePair
leading_to options is_definition is_link inner inside after =
    option_map (leading options is_link inner) (target options is_definition inside after)

abbrev pub pair : InlineOptions → (List ℕ → Bool) → (List ℕ → Bool) → ℕ → List Node → Bool → List ℕ → List ℕ →
    Option MadePair
pair options is_definition is_footnote len inner links inside after =
    if len == 2 then leading_to options is_definition false inner inside after
    else if options.constructs.gfm_footnote_call && is_call is_footnote inside
    then Some (call_made (length inside - 1))
    else if links || not options.constructs.label_start_link then None
    else leading_to options is_definition true inner inside after
