-- What a part of content is read as, over the text of its chunks.
use Rattle.std.specs.Prelude.{◌≡◌, ℕ, Bool, true, false, ◌&&◌, ◌||◌, if◌then◌else◌, nat_le, List, [], ◌∷◌}
use Rattle.md_engine.specs.declared.configuration.ParseOptions.{ParseOptions}
use Rattle.md_engine.specs.declared.event.Content.{Content}
use Rattle.md_engine.specs.declared.event.Content.TheVariants as content
use Rattle.md_engine.specs.declared.event.Event.{Event}
use Rattle.md_engine.specs.declared.event.Point.{Point}
use Rattle.md_engine.specs.Place.{first_point}
use Rattle.md_engine.specs.TextFeed.{text_feed}
use Rattle.md_engine.specs.World.{World, fresh, reads_to, skipping}
use Rattle.md_content.specs.ContentRule.{content_over}
use Rattle.md_events.specs.declared.inline.Chunk.{Chunk}
use Rattle.md_events.specs.Events.Inline.{is_line_ending}
use Rattle.md_events.specs.Events.Nested.{is_exit}
use Rattle.md_events.specs.Substituted.{Readings}
use Rattle.md_events.specs.Events.Tiles.{is_data}

-- where the first chunk begins
abbrev pub first_of : List Chunk → Point
first_of [] = first_point
first_of (chunk ∷ chunks) = chunk.first

-- where the last chunk has ended
abbrev pub end_of : List Chunk → ℕ
end_of [] = 0
end_of (chunk ∷ []) = chunk.after.index
end_of (chunk ∷ next ∷ chunks) = end_of (next ∷ chunks)

-- each line begins at its chunk
abbrev pub skipping_all : World → List Chunk → World
skipping_all w [] = w
skipping_all w (chunk ∷ chunks) = skipping_all (skipping w chunk.first) chunks

-- how a part is read: from its first chunk on, to the end of its last
abbrev pub part_world : List ℕ → ParseOptions → List Chunk → World
part_world bytes options chunks = reads_to (skipping_all (fresh bytes options (first_of chunks)) chunks) (end_of chunks)

-- whether a piece of what was read ends here, with which a line may end: text, or an ending alone
abbrev pub is_piece_end : Event → Bool
is_piece_end e = is_exit e.kind && (is_data e.name || is_line_ending e.name)

-- Each line ends where its chunk does: the prefixes of containers before the next one belong to no line (CommonMark
-- 5.1). The piece that ends a line is the first that ends there or after it.
abbrev pub settled : List Chunk → List Event → List Event
settled chunks [] = []
settled [] (e ∷ es) = e ∷ es
settled (chunk ∷ chunks) (e ∷ es) =
    if is_piece_end e && nat_le chunk.after.index e.point.index
    then record e { point = chunk.after } ∷ settled chunks es
    else e ∷ settled (chunk ∷ chunks) es

-- the events of a part
unfoldable pub content_events : List ℕ → ParseOptions → List Chunk → List Event
content_events bytes options chunks =
    let w = part_world bytes options chunks in
    settled chunks (content_over options (text_feed w.setting w.point) w.point)

-- What the reader of content reads, and as what.

abbrev pub wants_content : Content → Bool
wants_content content.Content = true
wants_content _ = false

abbrev pub content_readings : List ℕ → ParseOptions → Readings
content_readings bytes options _ chunks events = events ≡ content_events bytes options chunks
