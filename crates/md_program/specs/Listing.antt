-- What the program prints of a text.
use Rattle.std.specs.Prelude.{ℕ, List, map, string_bytes}
use Rattle.md_meaning.specs.Outline.{Entry, entries_of}
use Rattle.md_program.specs.declared.body.Outlined.{Outlined}

-- the lines of an outline, and the labels of definitions and footnotes
pub record Listing : Type 0 where
  pub lines : List Entry
  pub definitions : List (List ℕ)
  pub footnotes : List (List ℕ)

abbrev pub listing_of : Outlined → Listing
listing_of outlined =
    record {
      lines = entries_of outlined.lines.items;
      definitions = map string_bytes outlined.definitions.items;
      footnotes = map string_bytes outlined.footnotes.items;
    }
