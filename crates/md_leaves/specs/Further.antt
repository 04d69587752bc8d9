-- What shows a line of a leaf that continues.
use Rattle.std.specs.Prelude.{true, false}
use Rattle.md_engine.specs.declared.event.Content.TheVariants as content
use Rattle.md_engine.specs.declared.event.Link.{Link}

-- the link of the begin of a line that continues the leaf of the line before
abbrev pub further_link : Link
further_link = record { previous = true; next = false; content = content.Flow }
