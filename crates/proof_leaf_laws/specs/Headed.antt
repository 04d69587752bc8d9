-- A line of text as the head of a table (GFM 4.10), with the lines that continue it.
use Rattle.std.specs.Prelude.{ℕ, if◌then◌else◌, List, ◌∷◌}
use Rattle.md_engine.specs.declared.configuration.ParseOptions.{ParseOptions}
use Rattle.md_engine.specs.declared.event.Event.{Event}
use Rattle.md_events.specs.Events.Tiles.{plain_read}
use Rattle.md_tables.specs.GfmTableLine.{head_line}
use Rattle.md_tables.specs.Heads.{headed}
use Rattle.md_tables.specs.Tabled.{tabled}
use Rattle.proof_frame.specs.Row.{Row, row_line, span_by}

-- Before content, lines of text that are heads of tables are read again.
abbrev pub heads_read : ParseOptions → List ℕ → List Event → List Event
heads_read options bytes events = if options.constructs.gfm_table then headed bytes options events else events

-- A line of text as a head: what its states leave of it, in the place of its text.
abbrev pub headed_row : List ℕ → Row → Row
headed_row bytes row = record row { inside = head_line (row_line bytes row) row.first }

-- with the line that takes it as its head, and those that continue that: joined, with what the last resolver puts in
abbrev pub headed_unread : List ℕ → Row → Row → List Row → List Event
headed_unread bytes row next rows = tabled (span_by (λ (r : Row). r.inside) (headed_row bytes row) (next ∷ rows))

-- once their text parts are read
abbrev pub headed_done : List ℕ → Row → Row → List Row → List Event
headed_done bytes row next rows = plain_read bytes (headed_unread bytes row next rows)
