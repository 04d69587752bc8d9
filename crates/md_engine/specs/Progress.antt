-- How far the definitions at the front of an open text have come (CommonMark 4.7).
use Rattle.std.specs.Prelude.{Bool, true, false}
use Rattle.md_engine.specs.declared.tokenizer.held_leaf.Progress.{Progress}
use Rattle.md_engine.specs.declared.tokenizer.held_leaf.Progress.TheVariants.{BeforeDestination, Fresh, InLabel}
use Rattle.md_engine.specs.declared.tokenizer.held_leaf.Progress.TheVariants.{InTitle, Left, Untitled}

-- whether all lines so far are whole definitions
abbrev pub is_whole : Progress → Bool
is_whole Fresh = true
is_whole Untitled = true
is_whole (InLabel size filled) = false
is_whole BeforeDestination = false
is_whole (InTitle opener closer) = false
is_whole Left = false
