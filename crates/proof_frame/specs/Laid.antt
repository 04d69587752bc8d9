-- The events of lines that are read as one text, in the places of these lines.
--
-- What reads them goes from the ending of a line at once to where the next one begins. So a line ends where its chunk
-- does, and after it are the prefixes of the containers before the next.
use Rattle.std.specs.Prelude.{nat_le, ◌&&◌, if◌then◌else◌, List, [], ◌∷◌, ◌++◌}
use Rattle.md_engine.specs.declared.event.Event.{Event}
use Rattle.md_engine.specs.declared.event.Point.{Point}
use Rattle.md_content.specs.ContentReads.{is_piece_end}

-- between two lines: where the chunk of the first ends, and what is before the second
pub record LineBreak : Type 0 where
  pub after : Point
  pub front : List Event

-- events that are read over lines with these breaks
abbrev pub laid : List LineBreak → List Event → List Event
laid [] es = es
laid (b ∷ bs) [] = []
laid (b ∷ bs) (e ∷ es) =
    if is_piece_end e && nat_le b.after.index e.point.index
    then record e { point = b.after } ∷ b.front ++ laid bs es
    else e ∷ laid (b ∷ bs) es
