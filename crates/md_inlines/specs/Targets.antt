-- What a pair of brackets is, by what is in it and after it (CommonMark 6.3, 6.4): the forests of links and images.
use Rattle.std.specs.Prelude.{ℕ, zero, suc, ◌+◌, ◌-◌, Bool, true, false, ◌&&◌, ◌==◌, not, if◌then◌else◌, List, [], ◌∷◌}
use Rattle.std.specs.Prelude.{length, take, drop, Option, Some, None, option_map}
use Rattle.std.specs.List.{list_any}
use Rattle.md_engine.specs.declared.event.Name.TheVariants as n
use Rattle.md_meaning.specs.Ascii.{caret, left_bracket, left_parenthesis, right_bracket}
use Rattle.md_meaning.specs.Lines.{begins_with}
use Rattle.md_inline_events.specs.Forest.{Forest, nothing, over, part, size}
use Rattle.md_inlines.specs.Characters.{is_gap}
use Rattle.md_inlines.specs.Target.{is_own_label, label_len, resource_at}
use Rattle.md_inlines.specs.declared.InlineOptions.{InlineOptions}
use Rattle.md_inlines.specs.declared.Resource.{Resource}
use Rattle.md_inlines.specs.Atoms.{beside, byte, escape_at, merged, or_else, reference_forest, when}

-- A text with escapes and character references alone, as a destination, a title or a label (2.4, 2.5).

abbrev pub string_atom : InlineOptions → List ℕ → Option Forest
string_atom options text =
    or_else (when options.constructs.character_escape (escape_at text))
    (when options.constructs.character_reference (reference_forest text))

-- with at most so many atoms and other bytes
abbrev pub string_at_most : InlineOptions → ℕ → List ℕ → Forest
string_at_most options zero text = nothing
string_at_most options (suc more) [] = nothing
string_at_most options (suc more) (b ∷ text) = elim (string_atom options (b ∷ text)) [
  | Some found ↦ beside found (string_at_most options more (drop (size found) (b ∷ text)))
  | None ↦ byte n.Data (string_at_most options more text)
]

abbrev pub string : InlineOptions → List ℕ → Forest
string options text = merged (string_at_most options (length text) text)

-- Resources, whose `(` is first in a text.

abbrev pub destination : InlineOptions → Bool → List ℕ → Forest
destination options true text =
    part n.ResourceDestinationLiteral
    (byte n.ResourceDestinationLiteralMarker
    (part n.ResourceDestinationString (string options (take (length text - 2) (drop 1 text)))
    (byte n.ResourceDestinationLiteralMarker nothing)))
    nothing
destination options false text =
    part n.ResourceDestinationRaw (part n.ResourceDestinationString (string options text) nothing) nothing

abbrev pub title : InlineOptions → List ℕ → Forest
title options text =
    byte n.ResourceTitleMarker
    (part n.ResourceTitleString (string options (take (length text - 2) (drop 1 text)))
    (byte n.ResourceTitleMarker nothing))

-- the title, where there is one, with the whitespace after it
abbrev pub title_part : InlineOptions → Resource → List ℕ → Forest → Forest
title_part options r text following =
    if r.title == 0 then following
    else part n.ResourceTitle (title options (take r.title text)) (over n.SpaceOrTab r.after following)

abbrev pub resource : InlineOptions → List ℕ → Resource → Forest
resource options text r =
    let rest : List ℕ = drop (1 + r.before) text in
    part n.Resource
    (byte n.ResourceMarker
    (over n.SpaceOrTab r.before
    (part n.ResourceDestination (destination options r.is_literal (take r.destination rest))
    (over n.SpaceOrTab r.between
    (title_part options r (drop (r.destination + r.between) rest) (byte n.ResourceMarker nothing))))))
    nothing

abbrev pub resource_forest : InlineOptions → List ℕ → Option Forest
resource_forest options text =
    if begins_with left_parenthesis text then option_map (resource options text) (resource_at (drop 1 text)) else None

-- References: full and collapsed with brackets of their own, shortcut without.

abbrev pub reference : InlineOptions → List ℕ → Forest
reference options label =
    part n.Reference
    (byte n.ReferenceMarker (part n.ReferenceString (string options label) (byte n.ReferenceMarker nothing)))
    nothing

-- `is_definition` says which labels the document defines.
module _ (options : InlineOptions) (is_definition : List ℕ → Bool) where
  -- by the text between the brackets as the label
  abbrev pub short : List ℕ → List ℕ → Option Forest
  short inside after =
      if not (is_own_label inside && is_definition inside) then None
      else if begins_with left_bracket after && begins_with right_bracket (drop 1 after)
      then Some (reference options []) else Some nothing

  -- a label after the pair that is no definition's leaves no shortcut
  abbrev pub reference_after : List ℕ → List ℕ → Option Forest
  reference_after inside after =
      elim (if begins_with left_bracket after then label_len (drop 1 after) else None) [
        | None ↦ short inside after
        | Some len ↦
            (if is_definition (take len (drop 1 after)) then Some (reference options (take len (drop 1 after)))
            else None)
      ]

  -- what a link or an image with this text leads to, and so many bytes after it belong to it
  abbrev pub target : List ℕ → List ℕ → Option Forest
  target inside after = or_else (resource_forest options after) (reference_after inside after)

-- The whole of a link, an image and a footnote call.

abbrev pub label_end : Forest
label_end = part n.LabelEnd (byte n.LabelMarker nothing) nothing

abbrev pub link : Forest → Forest → Forest
link inside leads =
    part n.Link
    (part n.Label (part n.LabelLink (byte n.LabelMarker nothing) (part n.LabelText inside label_end)) leads) nothing

abbrev pub image : Forest → Forest → Forest
image inside leads =
    part n.Image
    (part n.Label
    (part n.LabelImage (byte n.LabelImageMarker (byte n.LabelMarker nothing)) (part n.LabelText inside label_end))
    leads)
    nothing

-- a call, whose label has so many bytes after its `^`
abbrev pub call : ℕ → Forest
call len =
    part n.GfmFootnoteCall
    (part n.Label
    (part n.GfmFootnoteCallLabel (byte n.LabelMarker (byte n.GfmFootnoteCallMarker nothing))
    (part n.LabelText (over n.Data len nothing) label_end))
    nothing)
    nothing

-- whether the text between two brackets calls a footnote: `^`, and a footnote's label without whitespace
abbrev pub is_call : (List ℕ → Bool) → List ℕ → Bool
is_call is_footnote [] = false
is_call is_footnote (b ∷ label) =
    (b == caret) && not (list_any is_gap label) && is_own_label label && is_footnote label
