-- What an outline knows of a heading that is open, as the tree has it, and what it shows of it.
use Rattle.std.specs.Prelude.{ℕ, ◌+◌, List, [], ◌∷◌, length, Option, Some, None}
use Rattle.std.specs.Borrow.{Bor}
use Rattle.md_meaning.specs.declared.outline.Word.TheVariants as word
use Rattle.md_meaning.specs.Outline.{Entry, entries, entry}
use Rattle.md_meaning.specs.Texts.{split_lines, trim_each}
use Rattle.md_events.specs.Events.Spelled.{HeadingSoFar, first_recorded}
use Rattle.md_outline.specs.HeadingDepths.{byte_depth}
use Rattle.md_outline.specs.declared.outline.heading.Heading.{Heading}

-- its markers, and the lines of its text, as far as they are there
abbrev pub marker_run : Option (Bor (List ℕ)) → List ℕ
marker_run None = []
marker_run (Some run) = run.now

abbrev pub title_lines : Option (Bor (List ℕ)) → List (List ℕ)
title_lines None = []
title_lines (Some text) = trim_each (split_lines text.now)

abbrev pub heading_of : Heading → HeadingSoFar
heading_of heading = record { markers = marker_run heading.markers; text = title_lines heading.text }

-- a heading with these markers, if it has none yet
abbrev pub with_markers : List ℕ → HeadingSoFar → HeadingSoFar
with_markers run heading = record heading { markers = first_recorded heading.markers run }

-- its lines
abbrev pub heading_entries : ℕ → HeadingSoFar → List Entry
heading_entries depth heading =
    entry depth (word.Heading (byte_depth (length heading.markers))) ∷ entries (depth + 1) word.Line heading.text
