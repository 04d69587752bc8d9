-- How far the definitions at the front of a text have come (CommonMark 4.7), line by line: what is kept of an open
-- text, so that no line of it is read again. Lines are given without leading spaces and tabs.
use Rattle.std.specs.Prelude.{ℕ, ◌+◌, Bool, true, false, ◌&&◌, ◌||◌, not, is_some, nat_le, if◌then◌else◌, List, [], ◌∷◌}
use Rattle.std.specs.Prelude.{length, Option, Some, None}
use Rattle.md_meaning.specs.Ascii.{colon, left_bracket, right_bracket}
use Rattle.md_meaning.specs.Bytes.{after_optional, begins}
use Rattle.md_meaning.specs.Definition.{Destination, destination_at, title_closer}
use Rattle.md_meaning.specs.Enclosed.{Closed, Open, Broken, Enclosed, enclosed}
use Rattle.md_meaning.specs.Lines.{begins_with}
use Rattle.md_meaning.specs.Rest.{is_blank, is_parted, trim_start}
use Rattle.md_engine.specs.declared.tokenizer.held_leaf.HeldLeaf.{HeldLeaf}
use Rattle.md_engine.specs.declared.tokenizer.held_leaf.HeldLeaf.TheVariants as held_leaf
use Rattle.md_engine.specs.declared.tokenizer.held_leaf.Progress.{Progress}
use Rattle.md_engine.specs.declared.tokenizer.held_leaf.Progress.TheVariants.{BeforeDestination, Fresh, InLabel}
use Rattle.md_engine.specs.declared.tokenizer.held_leaf.Progress.TheVariants.{InTitle, Left, Untitled}
pub use Rattle.md_engine.specs.Progress.{is_whole}

-- by how the text of a title continues
abbrev pub title_by : ℕ → ℕ → Enclosed → Progress
title_by opener closer (Closed text rest) = if is_blank rest then Fresh else Left
title_by opener closer Open = InTitle opener closer
title_by opener closer Broken = Left

-- in a title
abbrev pub in_title : ℕ → ℕ → List ℕ → Progress
in_title opener closer line = title_by opener closer (enclosed opener closer false line)

-- by the mark that closes a title which begins with this byte, if one does
abbrev pub title_with : ℕ → List ℕ → Option ℕ → Progress
title_with opener line None = Left
title_with opener line (Some closer) = in_title opener closer line

-- where a title is next
abbrev pub title_on : List ℕ → Progress
title_on [] = Left
title_on (b ∷ bs) = title_with b bs (title_closer b)

-- after a destination
abbrev pub after_destination : List ℕ → Progress
after_destination rest =
    if is_blank rest then Untitled else if is_parted rest then title_on (trim_start rest) else Left

-- by the destination that is next, if one is
abbrev pub destination_by : Option Destination → Progress
destination_by None = Left
destination_by (Some d) = after_destination d.rest

-- where a destination is next
abbrev pub destination_on : List ℕ → Progress
destination_on line = destination_by (destination_at line)

-- after the `:`
abbrev pub following_colon : List ℕ → Progress
following_colon rest = if is_blank rest then BeforeDestination else destination_on (trim_start rest)

-- after the `]`
abbrev pub after_label : List ℕ → Progress
after_label rest = if begins_with colon rest then following_colon (after_optional colon rest) else Left

-- whether this text of a label, or what was before it, is more than spaces and tabs
abbrev pub is_filled : Bool → List ℕ → Bool
is_filled filled text = filled || not (is_blank text)

-- whether a label has at most 999 bytes, so many and this text
abbrev pub has_room : ℕ → List ℕ → Bool
has_room size text = nat_le (size + length text) 999

-- by how the text of a label continues, with so many bytes before it
abbrev pub label_by : ℕ → Bool → List ℕ → Enclosed → Progress
label_by size filled line (Closed text rest) =
    if is_filled filled text && has_room size text then after_label rest else Left
label_by size filled line Open =
    if has_room size line then InLabel (size + length line) (is_filled filled line) else Left
label_by size filled line Broken = Left

-- in a label, with so many bytes before it
abbrev pub label_from : ℕ → Bool → List ℕ → Progress
label_from size filled line = label_by size filled line (enclosed left_bracket right_bracket false line)

-- where a definition is next
abbrev pub begin : List ℕ → Progress
begin line = if begins_with left_bracket line then label_from 0 false (after_optional left_bracket line) else Left

-- whether the mark of a title is next
abbrev pub begins_title : List ℕ → Bool
begins_title line = begins (λ b. is_some (title_closer b)) line

-- after one more line
unfoldable pub step : Progress → List ℕ → Progress
step Fresh line = begin line
step (InLabel size filled) line = label_from size filled line
step BeforeDestination line = destination_on line
step Untitled line = if begins_title line then title_on line else begin line
step (InTitle opener closer) line = in_title opener closer line
step Left line = Left

-- after these lines
unfoldable pub steps : Progress → List (List ℕ) → Progress
steps at [] = at
steps at (line ∷ lines) = steps (step at line) lines

-- how far the definitions at the front of these lines have come
abbrev pub progress : List (List ℕ) → Progress
progress lines = steps Fresh lines

-- whether no line is left
abbrev pub is_none_left : List (List ℕ) → Bool
is_none_left [] = true
is_none_left (line ∷ lines) = false

-- how far those of an open text have come; where none is open, one may begin
abbrev pub progress_of : HeldLeaf → Progress
progress_of (held_leaf.Text text) = text.progress
progress_of (held_leaf.LazyText text) = text.progress
progress_of _ = Fresh
