-- What comes first among the cells of a line: a run that passes a test, or whitespace, as the rules of fences and of
-- frontmatter name them.
use Rattle.std.specs.Prelude.{ℕ, suc, Bool, true, false, ◌&&◌, ◌==◌, not, if◌then◌else◌, List, [], ◌∷◌, ◌++◌}
use Rattle.md_engine.specs.declared.event.Event.{Event}
use Rattle.md_engine.specs.declared.event.Name.TheVariants as part
use Rattle.md_engine.specs.declared.event.Point.{Point}
use Rattle.md_engine.specs.Meaning.{Cell, Here, Outcome}
use Rattle.md_meaning.specs.Rest.{is_white}
use Rattle.md_events.specs.Ahead.{begins_white, white_end, white_rest}
use Rattle.md_events.specs.Events.Nested.{pair}
use Rattle.md_events.specs.Look.{first_seen}
use Rattle.md_events.specs.Spaces.{calmed, ends_line}

-- The cells that come first and pass a test: how many there are, where they end, and what follows them.

abbrev pub run_size : (ℕ → Bool) → List Cell → ℕ
run_size t [] = 0
run_size t (c ∷ cs) = if t c.byte then suc (run_size t cs) else 0

abbrev pub run_end : (ℕ → Bool) → List Cell → Point → Point
run_end t [] p = p
run_end t (c ∷ cs) p = if t c.byte then run_end t cs c.after else p

abbrev pub run_rest : (ℕ → Bool) → List Cell → List Cell
run_rest t [] = []
run_rest t (c ∷ cs) = if t c.byte then run_rest t cs else c ∷ cs

-- whether one of them is such a byte
abbrev pub run_has : (ℕ → Bool) → (ℕ → Bool) → List Cell → Bool
run_has bad t [] = false
run_has bad t (c ∷ cs) = if t c.byte then (if bad c.byte then true else run_has bad t cs) else false

-- a byte of a word, and one of a line
abbrev pub is_word : ℕ → Bool
is_word b = not (is_white b) && not (b == 10)

abbrev pub is_line : ℕ → Bool
is_line b = not (b == 10)

-- whether the line ends here
abbrev pub is_end : List Cell → Bool
is_end cells = ends_line (first_seen cells)

-- with one more event
abbrev pub with_event : Here → Event → Here
with_event h e = record h { events = h.events ++ e ∷ [] }

-- after whitespace that comes first, up to so many columns
abbrev pub after_columns : ℕ → List Cell → Here → Here
after_columns room cells h = record h {
  events = h.events ++ pair part.SpaceOrTab h.point (white_end room cells h.point);
  point = white_end room cells h.point;
  scratch = calmed h.scratch;
}

-- what is left after whitespace, if some comes first
abbrev pub after_white_of : ℕ → (List Cell → Here → Outcome) → List Cell → Here → Outcome
after_white_of room following cells h =
    if begins_white cells then following (white_rest room cells) (after_columns room cells h) else following cells h
