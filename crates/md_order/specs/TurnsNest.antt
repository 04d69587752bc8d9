-- Where a paragraph and its underline may be a heading: the list stays nested.
--
-- No paragraph and no underline begins in the paragraph or in the underline, and between the two each part that ends
-- has begun there. That the list nests is not enough: the look for an underline takes the end of a line ending for its
-- begin, so a paragraph in an ending is turned, and the ending would end in the heading that began in it.
use Rattle.std.specs.Prelude.{◌≡◌, ℕ, zero, suc, Bool, false, ◌&&◌, if◌then◌else◌, List, [], ◌∷◌}
use Rattle.md_engine.specs.declared.event.Event.{Event}
use Rattle.md_engine.specs.declared.event.Kind.{Kind}
use Rattle.md_engine.specs.declared.event.Kind.TheVariants.{Enter, Exit}
use Rattle.md_leaves.specs.Turned.{is_paragraph, is_turned, is_underline}

-- Where one is: in no heading; in its text; between that and its underline, with so many parts open that began there;
-- or in the underline.
pub data Spot : Type 0 where
  Apart : Spot
  InText : Spot
  Between : ℕ → Spot
  InUnderline : Spot

-- neither a paragraph nor an underline
abbrev pub IsOther : Bool → Bool → Type 0
IsOther paragraph underline = (paragraph ≡ false) × (underline ≡ false)

-- what may be there, by whether it is of a paragraph or of an underline
abbrev pub MayBeAt : Spot → Kind → Bool → Bool → Type 0
MayBeAt Apart kind paragraph underline = Unit {0}
MayBeAt (Between zero) Enter paragraph underline = paragraph ≡ false
MayBeAt (Between zero) Exit paragraph underline = ⊥
MayBeAt spot Enter paragraph underline = IsOther paragraph underline
MayBeAt spot Exit paragraph underline = Unit {0}

-- where one is after it, by whether an underline follows the paragraph that begins here
abbrev pub spot_by : Spot → Kind → Bool → Bool → Bool → Spot
spot_by Apart Enter paragraph underline turned = if paragraph && turned then InText else Apart
spot_by Apart Exit paragraph underline turned = Apart
spot_by InText Enter paragraph underline turned = InText
spot_by InText Exit paragraph underline turned = if paragraph then Between 0 else InText
spot_by (Between zero) Enter paragraph underline turned = if underline then InUnderline else Between 1
spot_by (Between zero) Exit paragraph underline turned = Between 0
spot_by (Between (suc many)) Enter paragraph underline turned = Between (suc (suc many))
spot_by (Between (suc many)) Exit paragraph underline turned = Between many
spot_by InUnderline Enter paragraph underline turned = InUnderline
spot_by InUnderline Exit paragraph underline turned = if underline then Apart else InUnderline

-- and a heading that has begun ends
abbrev pub TurnsNestFrom : Spot → List Event → Type 0
TurnsNestFrom spot [] = spot ≡ Apart
TurnsNestFrom spot (e ∷ es) =
    MayBeAt spot e.kind (is_paragraph e.name) (is_underline e.name)
    × TurnsNestFrom (spot_by spot e.kind (is_paragraph e.name) (is_underline e.name) (is_turned es)) es

abbrev pub TurnsNest : List Event → Type 0
TurnsNest events = TurnsNestFrom Apart events
