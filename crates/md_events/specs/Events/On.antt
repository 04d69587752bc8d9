-- Which blocks may be in a tree under given options: those whose construct is on.
use Rattle.std.specs.Prelude.{ℕ, Bool, true, ◌&&◌, ◌||◌, ◌==◌, Option, Some, None}
use Rattle.md_engine.specs.declared.configuration.ParseOptions.{ParseOptions}
use Rattle.md_meaning.specs.declared.alert.AlertKind.{AlertKind}
use Rattle.md_meaning.specs.Leaves.{is_bare_on}
use Rattle.md_meaning.specs.Tree.{Block, Frontmatter, Quote, ListOf, Item, Footnote, Heading, Bare, Code, Html}
use Rattle.md_meaning.specs.Tree.{Fence, Math, Definition, Paragraph, Table, Blocks, End, More}

-- an underline makes a heading of depth 1 or 2 (CommonMark 4.3)
abbrev pub is_setext_depth : ℕ → Bool
is_setext_depth depth = (depth == 1) || (depth == 2)

-- whether a quote may have this kind
abbrev pub is_kind_on : ParseOptions → Option AlertKind → Bool
is_kind_on options None = true
is_kind_on options (Some kind) = options.constructs.alerts

-- whether the construct of a block is on, and those of all blocks in it; a paragraph is always allowed
abbrev mutual
  pub is_on : ParseOptions → Block → Bool
  is_on options (Frontmatter marker lines) = options.constructs.frontmatter
  is_on options (Quote kind blocks) =
      options.constructs.block_quote && is_kind_on options kind && are_on options blocks
  is_on options (ListOf marker items) = options.constructs.list_item && are_on options items
  is_on options (Item marker digits blocks) = options.constructs.list_item && are_on options blocks
  is_on options (Footnote label blocks) = options.constructs.gfm_footnote_definition && are_on options blocks
  is_on options (Heading depth lines) =
      options.constructs.heading_atx || (options.constructs.heading_setext && is_setext_depth depth)
  is_on options (Bare word) = is_bare_on options word
  is_on options (Code lines) = options.constructs.code_indented
  is_on options (Html lines) = options.constructs.html_flow
  is_on options (Fence marker info meta lines closed) = options.constructs.code_fenced
  is_on options (Math meta lines closed) = options.constructs.math_flow
  is_on options (Definition label destination title) = options.constructs.definition
  is_on options (Paragraph lines) = true
  is_on options (Table delimiter rows) = options.constructs.gfm_table

  pub are_on : ParseOptions → Blocks → Bool
  are_on options End = true
  are_on options (More block blocks) = is_on options block && are_on options blocks
