-- Under which name the ending of a line is.
use Rattle.std.specs.Prelude.{Bool, true, false}
use Rattle.md_engine.specs.declared.event.Name.{Name}
use Rattle.md_engine.specs.declared.event.Name.TheVariants.{BlankLineEnding, LineEnding}

-- the ending of a line, by whether it is blank
abbrev pub ending_name : Bool → Name
ending_name true = BlankLineEnding
ending_name false = LineEnding
