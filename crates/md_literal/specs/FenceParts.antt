-- What follows the sequence of an opening fence, by its bytes and by where its parts begin.
use Rattle.std.specs.Prelude.{ℕ, ◌-◌, ◌==◌, if◌then◌else◌, List, [], ◌++◌, Option, Some, None}
use Rattle.md_engine.specs.declared.event.Event.{Event}
use Rattle.md_engine.specs.declared.event.Name.{Name}
use Rattle.md_engine.specs.declared.event.Name.TheVariants as part
use Rattle.md_engine.specs.declared.event.Point.{Point}
use Rattle.md_meaning.specs.Leaves.{after_word, first_word, nonempty}
use Rattle.md_meaning.specs.Rest.{Rest}
use Rattle.md_literal.specs.Fence.{meta_name}
use Rattle.md_literal.specs.FenceLine.{later_part}
use Rattle.md_events.specs.Events.Places.{past_text}

-- these bytes, from a point on that cuts no tab
abbrev pub bytes_at : List ℕ → Point → Rest
bytes_at bytes p = record { column = p.column - 1; spaces = 0; bytes = bytes }

-- info or meta, if there is any: all of its text is one part
abbrev pub part_of : Name → Option (List ℕ) → Point → List Event
part_of name None p = []
part_of name (Some text) p = later_part name p (past_text text p)

-- Info and meta, by the text after the whitespace after the sequence: the whitespace between them, and where meta
-- begins.
abbrev pub parts_of : ℕ → List ℕ → Point → List Event → Point → List Event
parts_of m text p between q =
    if m == 36 then part_of (meta_name m) (nonempty text) p
    else part_of part.CodeFencedFenceInfo (nonempty (first_word text)) p ++ between
    ++ part_of (meta_name m) (nonempty (after_word text)) q
