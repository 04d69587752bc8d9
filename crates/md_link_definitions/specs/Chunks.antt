-- A text that reaches up to a mark, over the lines of a paragraph: which cells it has, and its chunks, one a line.
use Rattle.std.specs.Prelude.{ℕ, Bool, true, false, ◌==◌, if◌then◌else◌, List, [], ◌∷◌}
use Rattle.md_meaning.specs.Ascii.{backslash}
use Rattle.md_engine.specs.declared.event.Content.TheVariants as content
use Rattle.md_engine.specs.declared.event.Event.{Event}
use Rattle.md_engine.specs.declared.event.Link.{Link}
use Rattle.md_engine.specs.declared.event.Name.TheVariants.{Data}
use Rattle.md_engine.specs.declared.event.Point.{Point}
use Rattle.md_engine.specs.Meaning.{Cell}
use Rattle.md_events.specs.Events.Nested.{enter_link, exit}

-- a chunk is read later, as text with escapes and references
abbrev pub string_link : Link
string_link = record { previous = false; next = false; content = content.String }

-- The cells before the first mark. `escaped` says that a backslash takes the cell that is next; pairs are taken from
-- left to right.
abbrev pub before_mark : (ℕ → Bool) → Bool → List Cell → List Cell
before_mark is_mark escaped [] = []
before_mark is_mark true (c ∷ cs) = c ∷ before_mark is_mark false cs
before_mark is_mark false (c ∷ cs) =
    if is_mark c.byte then [] else c ∷ before_mark is_mark (c.byte == backslash) cs

-- and those from it on
abbrev pub from_mark : (ℕ → Bool) → Bool → List Cell → List Cell
from_mark is_mark escaped [] = []
from_mark is_mark true (c ∷ cs) = from_mark is_mark false cs
from_mark is_mark false (c ∷ cs) =
    if is_mark c.byte then c ∷ cs else from_mark is_mark (c.byte == backslash) cs

-- The chunks of a text from a point on: each line with its ending, of which the first may have begun. Where nothing is
-- on the last line there is none.
abbrev pub chunks : Bool → List Cell → Point → List Event
chunks false [] p = []
chunks true [] p = exit Data p ∷ []
chunks false (c ∷ cs) p =
    enter_link Data p string_link
    ∷ (if c.byte == 10 then exit Data c.after ∷ chunks false cs c.after else chunks true cs c.after)
chunks true (c ∷ cs) p =
    if c.byte == 10 then exit Data c.after ∷ chunks false cs c.after else chunks true cs c.after
