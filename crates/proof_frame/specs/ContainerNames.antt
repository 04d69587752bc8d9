-- A table of the containers of the line definition, built or not: what the events show of one, and as which kind it is
-- held.
use Rattle.std.specs.Prelude.{◌≡◌, ℕ, zero, suc, Bool, Option, Some, None}
use Rattle.md_engine.specs.declared.event.Name.{Name}
use Rattle.md_engine.specs.declared.event.Name.TheVariants as n
use Rattle.md_engine.specs.declared.tokenizer.container.name.ContainerKind.{ContainerKind}
use Rattle.md_engine.specs.declared.tokenizer.container.name.ContainerKind.TheVariants as kind
use Rattle.md_containers.specs.ItemsAllowed.{is_item_shape}
use Rattle.md_events.specs.Events.Spelled.{FootnoteShape, ItemShape, OrderedShape, QuoteShape, Shape, UnorderedShape}
use Rattle.md_meaning.specs.State.{Container, InFootnote, InItem, InQuote}

-- the width of an item, and whether it started blank, they do not show
abbrev pub shape_of : Container → Shape
shape_of (InQuote alert) = QuoteShape alert
shape_of (InItem digits marker width starts_blank) = ItemShape marker digits
shape_of (InFootnote label) = FootnoteShape label

-- the name of the events of what has this shape
abbrev pub shape_name : Shape → Name
shape_name (QuoteShape alert) = n.BlockQuote
shape_name OrderedShape = n.ListOrdered
shape_name UnorderedShape = n.ListUnordered
shape_name (ItemShape marker digits) = n.ListItem
shape_name (FootnoteShape label) = n.GfmFootnoteDefinition

abbrev pub container_name : Container → Name
container_name c = shape_name (shape_of c)

-- whether it is one of those around which lists are put
abbrev pub is_listed : Container → Bool
is_listed c = is_item_shape (shape_of c)

-- an item that is held is a column wide at least
abbrev kind_of_item : ℕ → Option ContainerKind
kind_of_item zero = None
kind_of_item (suc more) = Some kind.ListItem

abbrev pub container_kind : Container → Option ContainerKind
container_kind (InQuote alert) = Some kind.BlockQuote
container_kind (InItem digits marker width starts_blank) = kind_of_item width
container_kind (InFootnote label) = Some kind.GfmFootnoteDefinition

-- a number by which each is known
abbrev pub kind_number : ContainerKind → ℕ
kind_number kind.BlockQuote = 0
kind_number kind.ListItem = 1
kind_number kind.GfmFootnoteDefinition = 2

-- a container of this kind
abbrev pub IsOf : ContainerKind → Container → Type 0
IsOf k c = container_kind c ≡ Some k
