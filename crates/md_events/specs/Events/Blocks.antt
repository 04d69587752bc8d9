-- Which events are of blocks.
use Rattle.std.specs.Prelude.{Bool, true, false, Option, Some, None}
use Rattle.md_meaning.specs.declared.outline.Word.{Word}
use Rattle.md_events.specs.Events.Spelled.{AsParagraph, ContainerRole, LeafRole, OfBare, OfCode, OfDefinition, OfFence}
use Rattle.md_events.specs.Events.Spelled.{OfFrontmatter, OfHeadingAtx, OfHeadingSetext, OfHtml, OfMath, OfTable, Role}
use Rattle.md_events.specs.Events.Spelled.{TextRole}

-- whether a block begins or ends where an event has this role: a container, a leaf block or a paragraph
abbrev pub is_block : Role → Bool
is_block (ContainerRole shape) = true
is_block (LeafRole kind) = true
is_block (TextRole AsParagraph) = true
is_block _ = false

-- whether it is a container: a quote, an item, a footnote definition, or a list around items
abbrev pub is_container : Role → Bool
is_container (ContainerRole shape) = true
is_container _ = false

-- whether it is a leaf block whose lines are text as it is: code, math or HTML
abbrev pub is_literal : Role → Bool
is_literal (LeafRole OfCode) = true
is_literal (LeafRole OfFence) = true
is_literal (LeafRole OfMath) = true
is_literal (LeafRole OfHtml) = true
is_literal _ = false

-- the word of a leaf block of which nothing else is known
abbrev pub bare_word : Role → Option Word
bare_word (LeafRole (OfBare word)) = Some word
bare_word _ = None

-- whether it is a heading, or a leaf block of which nothing is known but its word
abbrev pub is_heading_or_bare : Role → Bool
is_heading_or_bare (LeafRole OfHeadingAtx) = true
is_heading_or_bare (LeafRole OfHeadingSetext) = true
is_heading_or_bare (LeafRole (OfBare word)) = true
is_heading_or_bare _ = false

-- whether it is any other leaf block with parts
abbrev pub has_other_parts : Role → Bool
has_other_parts (LeafRole OfFrontmatter) = true
has_other_parts (LeafRole OfDefinition) = true
has_other_parts (LeafRole OfTable) = true
has_other_parts _ = false
