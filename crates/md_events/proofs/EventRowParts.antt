-- What a small text with its events is tried by, and how its events are written.
use Rattle.std.proofs.Common.{◌≡◌, ℕ, List, [], ◌∷◌}
use Rattle.std.specs.Prelude.{Bool, ◌&&◌, false, Some, IsTrue}
use Rattle.md_engine.specs.declared.event.Point.{Point}
use Rattle.md_engine.specs.declared.event.Event.{Event}
use Rattle.md_engine.specs.declared.event.Kind.TheVariants.{Enter}
use Rattle.md_engine.specs.declared.event.Content.{Content}
use Rattle.md_engine.specs.declared.event.Content.TheVariants as c
use Rattle.md_engine.specs.declared.event.Name.TheVariants as n
use Rattle.md_meaning.specs.Tree as t
use Rattle.md_events.specs.Events.Spelled.{spelled}
use Rattle.md_events.specs.Events.Places.{first_point, are_placed}
use Rattle.md_events.specs.Events.Nested.{exit, Nested}
use Rattle.md_events.specs.Events.Inline.{Part, plain_events, plain_chunks, pieces, Covers, together}
use Rattle.md_events.specs.Events.Endings.{endings_are_right}
use Rattle.md_events.specs.Events.Grammar.{keeps_grammar, plain_text, unread_text}
use Rattle.md_events.specs.Events.Pieces.{are_valid_pieces}
use Rattle.md_events.specs.Events.Tiles.{EachRead, parts, are_whole_parts, chunks_in_parts, end_point, filled}

-- a point by its line, its column and its byte
abbrev pub at : ℕ → ℕ → ℕ → Point
at line column index = record { line = line; column = column; index = index; vs = 0 }

-- a point within a tab
abbrev pub within_tab : ℕ → ℕ → ℕ → ℕ → Point
within_tab line column index vs = record { line = line; column = column; index = index; vs = vs }

-- a chunk that is not read yet: of a text, and of a string
abbrev chunk_of : Content → Point → Point → List Event
chunk_of content p q =
    (record {
      kind = Enter;
      name = n.Data;
      point = p;
      link = Some (record { previous = false; next = false; content = content });
    })
    ∷ exit n.Data q ∷ []

abbrev pub chunk : Point → Point → List Event
chunk p q = chunk_of c.Text p q

abbrev pub string_chunk : Point → Point → List Event
string_chunk p q = chunk_of c.String p q

-- a line of code
abbrev pub line : ℕ → List ℕ → t.Line
line spaces text = record { spaces = spaces; text = text }

-- the chunks of each part as the plain layer reads them
abbrev pub plain_lists : List ℕ → List Part → List (List (List Event))
plain_lists bytes [] = []
plain_lists bytes (part ∷ parts) = plain_chunks bytes part.chunks ∷ plain_lists bytes parts

abbrev pub plain : List ℕ → List Event → List Event
plain bytes blocks = filled blocks (together (plain_lists bytes (parts blocks)))

-- What can be decided of the events of a text: they are at its points, keep the grammar, and each piece, chunk, part
-- and ending is what its name says, also once the plain layer has read the text parts.
abbrev pub is_valid_list : List ℕ → List Event → Bool
is_valid_list bytes blocks =
    let events = plain bytes blocks in
    are_placed bytes blocks && are_whole_parts bytes blocks && chunks_in_parts 0 blocks
    && keeps_grammar unread_text blocks && keeps_grammar plain_text events
    && are_valid_pieces bytes (pieces blocks) && are_valid_pieces bytes (pieces events)
    && endings_are_right blocks && endings_are_right events

-- What holds of each text: that, its events spell out its tree, before and after the plain layer, they nest and tile
-- the text, each part is read as it should be, and an empty text has none.
abbrev pub Row : List ℕ → List Event → t.Blocks → Type 0
Row bytes blocks tree =
    IsTrue (is_valid_list bytes blocks) × (spelled blocks bytes ≡ tree) × (spelled (plain bytes blocks) bytes ≡ tree)
    × Nested blocks × Covers first_point (pieces blocks) (end_point bytes)
    × EachRead (λ part events. events ≡ plain_events bytes part) (parts blocks) (plain_lists bytes (parts blocks))
    × (bytes ≡ [] → plain bytes blocks ≡ [])
