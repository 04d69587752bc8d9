-- The front of a text, as the exact list has it: its byte order mark, and its frontmatter with the ending after it.
use Rattle.std.specs.Prelude.{ℕ, List, ◌++◌, map, take}
use Rattle.md_engine.specs.declared.configuration.ParseOptions.{ParseOptions}
use Rattle.md_engine.specs.declared.event.Event.{Event}
use Rattle.md_engine.specs.declared.event.Name.TheVariants as n
use Rattle.md_events.specs.Exact.Blocks.{front_line, front_row, front_size, mark_events, tail, text_lines}
use Rattle.md_events.specs.Exact.Leaves.{leaf}
use Rattle.md_meaning.specs.Preamble.{without_mark}
use Rattle.md_meaning.specs.Texts.{first_byte}

abbrev pub exact_front : ParseOptions → List ℕ → List Event
exact_front options source =
    let rows = map front_row (take (front_size options source) (text_lines source)) in
    mark_events source ++ (leaf n.Frontmatter (front_line (first_byte (without_mark source))) rows ++ tail rows)
