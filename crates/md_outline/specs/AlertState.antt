-- What an outline shows of a quote that a marker gives a kind: its line gets the kind. That is the last line as long as
-- nothing in the quote is shown.
use Rattle.std.specs.Prelude.{ℕ, ◌+◌, ◌==◌, if◌then◌else◌, List, Option, Some}
use Rattle.md_meaning.specs.declared.alert.AlertKind.{AlertKind}
use Rattle.md_meaning.specs.declared.outline.Word.{Word}
use Rattle.md_meaning.specs.declared.outline.Word.TheVariants as word
use Rattle.md_meaning.specs.Outline.{Entry}
use Rattle.md_events.specs.Events.Spelled.{on_last}

-- the word with this kind, if it is that of a quote without one
abbrev pub alert_word : Option AlertKind → Word → Word
alert_word (Some kind) word.Quote = word.Alert kind
alert_word kind w = w

-- a line with this kind, if it is that of a quote whose blocks have this depth
abbrev pub line_given : Option AlertKind → ℕ → Entry → Entry
line_given kind depth line =
    if line.depth + 1 == depth then record line { word = alert_word kind line.word } else line

-- lines, the last with this kind
abbrev pub kind_given : Option AlertKind → ℕ → List Entry → List Entry
kind_given kind depth lines = on_last (line_given kind depth) lines
