-- The kinds of containers: the names of their events, and what else the engine shows by the kind.
use Rattle.std.specs.Prelude.{Bool, false, not, true}
use Rattle.md_engine.specs.declared.event.Name.{Name}
use Rattle.md_engine.specs.declared.event.Name.TheVariants as n
use Rattle.md_engine.specs.declared.tokenizer.container.name.ContainerKind.{ContainerKind}
use Rattle.md_engine.specs.declared.tokenizer.container.name.ContainerKind.TheVariants as kind

-- the name of a container's events
abbrev pub name_of : ContainerKind → Name
name_of kind.BlockQuote = n.BlockQuote
name_of kind.ListItem = n.ListItem
name_of kind.GfmFootnoteDefinition = n.GfmFootnoteDefinition

-- the first of them, of which is what no question is asked of yet
abbrev pub first_kind : ContainerKind
first_kind = kind.BlockQuote

-- whether a container of a kind continues over an empty line, by whether it started blank: a list item that did not
-- (CommonMark 5.2), and each footnote definition
abbrev pub kind_continues_over : ContainerKind → Bool → Bool
kind_continues_over kind.BlockQuote blank = false
kind_continues_over kind.ListItem blank = not blank
kind_continues_over kind.GfmFootnoteDefinition blank = true
