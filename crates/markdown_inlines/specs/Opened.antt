-- The lists of a reader, with brackets that are open: the items of each level have their spans and runs, and each open
-- bracket has the places that it keeps.
use Rattle.std.specs.Prelude.{◌≡◌, ℕ, ◌+◌, List, [], ◌∷◌, ◌++◌, length}
use Rattle.md_inlines.specs.Emphasis.{Item}
use Rattle.proof_inlines.specs.Sized.{items_size}
use Rattle.markdown_inlines.specs.declared.attention.PlacedRun.{PlacedRun}
use Rattle.markdown_inlines.specs.declared.brackets.Bracket.{Bracket}
use Rattle.markdown_inlines.specs.declared.span.Span.{Span}
use Rattle.markdown_inlines.specs.Filled.{Filled}
use Rattle.markdown_inlines.specs.Reading.{Frame}
use Rattle.markdown_inlines.specs.Spans.{holes}

-- how many places a bracket keeps
abbrev pub bracket_room : ℕ
bracket_room = 6

-- where the reader of a text is that begins at a byte
abbrev pub reached : ℕ → List Frame → List Item → ℕ
reached start [] items = start + items_size items
reached start (frame ∷ frames) items = (frame.at + frame.len) + items_size items

-- a bracket, with the spans and the runs before it
abbrev pub bracket_of : Frame → List Span → List PlacedRun → Bracket
bracket_of frame front before =
    record { at = frame.at; len = frame.len; place = length front; runs = length before; links = frame.links }

abbrev pub Opened : ℕ → List Frame → List Item → List Bracket → List Span → List PlacedRun → Type 0
Opened start [] items brackets spans runs = (brackets ≡ []) × Filled start 0 items spans runs
Opened start (frame ∷ frames) items brackets spans runs =
    (front : List Span) × (rest : List Span) × (before : List PlacedRun) × (behind : List PlacedRun)
    × (others : List Bracket) × (spans ≡ front ++ (holes bracket_room ++ rest)) × (runs ≡ before ++ behind)
    × (brackets ≡ bracket_of frame front before ∷ others) × (frame.at ≡ reached start frames frame.items)
    × Opened start frames frame.items others front before
    × Filled (frame.at + frame.len) (length front + bracket_room) items rest behind
