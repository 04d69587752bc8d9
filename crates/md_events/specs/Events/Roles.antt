-- What the events of a part mean for the tree, by its name.
use Rattle.std.specs.Prelude.{ℕ, List, Option}
use Rattle.md_meaning.specs.declared.alert.AlertKind.{AlertKind}
use Rattle.md_meaning.specs.declared.outline.Word.{Word}

-- What is known of an open container: which list it is, an item's marker and digits, the label of a footnote
-- definition. There is no marker yet where it is 0, and no digits or label where they are empty.
pub data Shape : Type 0 where
  QuoteShape : Option AlertKind → Shape
  OrderedShape : Shape
  UnorderedShape : Shape
  ItemShape : ℕ → List ℕ → Shape
  FootnoteShape : List ℕ → Shape

-- The kinds of leaf blocks that have parts; a paragraph is a text alone.
pub data LeafKind : Type 0 where
  OfFrontmatter : LeafKind
  OfHeadingAtx : LeafKind
  OfHeadingSetext : LeafKind
  -- one of which nothing is known but the word that shows it
  OfBare : Word → LeafKind
  OfCode : LeafKind
  OfFence : LeafKind
  OfMath : LeafKind
  OfHtml : LeafKind
  OfDefinition : LeafKind
  OfTable : LeafKind

-- What a text is read as.
pub data Purpose : Type 0 where
  AsParagraph : Purpose
  AsHeading : Purpose
  AsMarkers : Purpose
  AsLine : Purpose
  AsInfo : Purpose
  AsMeta : Purpose
  AsLabel : Purpose
  AsDestination : Purpose
  AsTitle : Purpose
  AsCell : Purpose
  AsDelimiter : Purpose
  AsFootnoteLabel : Purpose
  AsDigits : Purpose
  AsItemMarker : Purpose

-- What a pair of events means, by its name.
pub data Role : Type 0 where
  -- a container, as it begins
  ContainerRole : Shape → Role
  -- a leaf block
  LeafRole : LeafKind → Role
  -- the slice between the points
  TextRole : Purpose → Role
  -- a fence, or one of frontmatter
  IsFence : Role
  -- a title, also an empty one
  IsTitle : Role
  -- a row of a table
  IsRow : Role
  -- a cell of a row, also an empty one
  IsCell : Role
  -- a container prefix, which belongs to no text
  IsPrefix : Role
  -- a line ending, which may open a line
  IsEnding : Role
  -- a marker of a quote, which may show its kind
  IsQuoteMarker : Role
  -- what the tree does not show
  IsQuiet : Role
