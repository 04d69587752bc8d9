-- Lines of content in a list in which they are not joined yet.
use Rattle.std.specs.Prelude.{Bool, false, ◌&&◌, not, List, ◌∷◌}
use Rattle.std.specs.Option.{is_some}
use Rattle.md_engine.specs.declared.event.Event.{Event}
use Rattle.md_content.specs.ContentReads.{wants_content}
use Rattle.md_content.specs.Joined.{ends_content, joined}
use Rattle.md_events.specs.declared.inline.Chunk.{Chunk}
use Rattle.md_events.specs.Substituted.{chunks_after, stays, wanted}

-- whether a chunk of content begins with the first of some events
abbrev pub begins_chunk : List Event → Bool
begins_chunk (e ∷ f ∷ es) = is_some (wanted wants_content e)
begins_chunk _ = false

-- whether an event stays as it is: no chunk of content begins there, and no line of content ends
abbrev pub is_passed : Event → Bool
is_passed e = stays wants_content e && not (ends_content e)

-- the chunks with which the part begins or continues that these events come first in
abbrev pub lines_from : List Event → List Chunk
lines_from events = chunks_after wants_content (joined events)
