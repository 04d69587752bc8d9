-- Chunks that are whole lines, and the paragraph over them.
use Rattle.std.specs.Prelude.{◌-◌, ◌==◌, Bool, false, ◌&&◌, nat_le, nat_lt, List, [], ◌∷◌}
use Rattle.md_engine.specs.declared.event.Event.{Event}
use Rattle.md_engine.specs.declared.event.Name.TheVariants as parts
use Rattle.md_engine.specs.declared.event.Point.{Point}
use Rattle.md_engine.specs.Place.{first_point}
use Rattle.md_content.specs.ContentReads.{first_of}
use Rattle.md_content.specs.Paragraph.{text_link}
use Rattle.md_events.specs.declared.inline.Chunk.{Chunk}
use Rattle.md_events.specs.Events.Nested.{around, enter_link, exit}

-- A chunk that ends after the ending of its line, and one that begins on the next line.
abbrev pub is_followed : Chunk → Chunk → Bool
is_followed chunk next =
    ((((chunk.after.line - chunk.first.line) == 1) && (chunk.after.column == 1))
    && (next.first.line == chunk.after.line))
    && nat_le chunk.after.index next.first.index

-- A chunk that ends on the line on which it begins, and has a byte.
abbrev pub is_within_line : Chunk → Bool
is_within_line chunk =
    ((chunk.first.line == chunk.after.line) && nat_lt chunk.first.index chunk.after.index) && (chunk.after.vs == 0)

-- lines one after another, of which the last has no ending
abbrev pub are_lines : List Chunk → Bool
are_lines [] = false
are_lines (chunk ∷ []) = is_within_line chunk
are_lines (chunk ∷ next ∷ chunks) = is_followed chunk next && are_lines (next ∷ chunks)

-- where the last chunk has ended
abbrev pub after_of : List Chunk → Point
after_of [] = first_point
after_of (chunk ∷ []) = chunk.after
after_of (chunk ∷ next ∷ chunks) = after_of (next ∷ chunks)

-- each chunk as one part
abbrev pub lines_of : List Chunk → List Event
lines_of [] = []
lines_of (chunk ∷ chunks) = enter_link parts.Data chunk.first text_link ∷ exit parts.Data chunk.after ∷ lines_of chunks

-- a paragraph over all of them
abbrev pub paragraph_of : List Chunk → List Event
paragraph_of chunks = around parts.Paragraph (first_of chunks) (after_of chunks) (lines_of chunks)
