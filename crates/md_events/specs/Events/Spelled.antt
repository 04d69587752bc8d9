-- The block tree that a list of events spells out.
--
-- A fold over the events. It continues from a half-read tree: the containers that are open, the blocks that are
-- finished in the innermost, the leaf block that is open, and the text that is being read.
use Rattle.std.specs.Prelude.{ℕ, ◌+◌, ◌-◌, Bool, true, false, ◌||◌, ◌==◌, nat_lt, if◌then◌else◌, List, [], ◌∷◌, ◌++◌}
use Rattle.std.specs.Prelude.{length, map, slice_range, Option, Some, None, option_map, drop}
use Rattle.md_engine.specs.declared.event.Point.{Point}
use Rattle.md_engine.specs.declared.event.Event.{Event}
use Rattle.md_engine.specs.declared.event.Kind.{Kind}
use Rattle.md_engine.specs.declared.event.Kind.TheVariants.{Enter, Exit}
use Rattle.md_engine.specs.declared.event.Name.{Name}
use Rattle.md_meaning.specs.Tree.{Line, Block, Blocks, Quote, ListOf, Item, Footnote, Heading, Bare, Code, Html}
use Rattle.md_meaning.specs.Tree.{Fence, Math, Definition, Paragraph, Table, End, More}
use Rattle.md_meaning.specs.Tree as t
use Rattle.md_meaning.specs.declared.alert.AlertKind.{AlertKind}
use Rattle.md_meaning.specs.declared.outline.Word.{Word}
use Rattle.md_meaning.specs.Alert.{first_kind, has_marker, kinds}
use Rattle.md_meaning.specs.Containers.{is_bullet}
use Rattle.md_meaning.specs.Rest.{trim, tab_columns}
use Rattle.md_meaning.specs.State.{then_block}
use Rattle.md_meaning.specs.Texts.{split_lines, trim_each, trim_further, first_byte}
use Rattle.md_events.specs.Events.Names.{facts}
pub use Rattle.md_events.specs.Events.Roles.{Shape, QuoteShape, OrderedShape, UnorderedShape, ItemShape, FootnoteShape}
pub use Rattle.md_events.specs.Events.Roles.{LeafKind, OfFrontmatter, OfHeadingAtx, OfHeadingSetext, OfBare, OfCode}
pub use Rattle.md_events.specs.Events.Roles.{OfFence, OfMath, OfHtml, OfDefinition, OfTable, Purpose, AsParagraph}
pub use Rattle.md_events.specs.Events.Roles.{AsHeading, AsMarkers, AsLine, AsInfo, AsMeta, AsLabel, AsDestination}
pub use Rattle.md_events.specs.Events.Roles.{AsTitle, AsCell, AsDelimiter, AsFootnoteLabel, AsDigits, AsItemMarker}
pub use Rattle.md_events.specs.Events.Roles.{Role, ContainerRole, LeafRole, TextRole, IsFence, IsTitle, IsRow, IsCell}
pub use Rattle.md_events.specs.Events.Roles.{IsPrefix, IsEnding, IsQuoteMarker, IsQuiet}

-- a list with its last item changed
abbrev pub on_last : {A : Type 0} → (A → A) → List A → List A
on_last f [] = []
on_last f (x ∷ []) = f x ∷ []
on_last f (x ∷ y ∷ ys) = x ∷ on_last f (y ∷ ys)

-- a list without its last item
abbrev pub without_last : {A : Type 0} → List A → List A
without_last [] = []
without_last (x ∷ []) = []
without_last (x ∷ y ∷ ys) = x ∷ without_last (y ∷ ys)

-- What was said first is: some items, or what is said now if there are none yet.
abbrev pub first_recorded : {A : Type 0} → List A → List A → List A
first_recorded [] now = now
first_recorded (x ∷ xs) now = x ∷ xs

-- the same of what may be there or not
abbrev pub first_some : {A : Type 0} → Option A → A → Option A
first_some None now = Some now
first_some (Some x) now = Some x

-- an open container, and the blocks that were finished before it
pub record OpenContainer : Type 0 where
  pub shape : Shape
  pub before : Blocks

-- What was found so far in a leaf block that is open. What is not there yet is an empty list or `None`.

-- in a block between fences
pub record Fenced : Type 0 where
  -- the markers of the first fence
  pub markers : List ℕ
  pub lines : List Line
  -- whether there is a closing fence
  pub closed : Bool

pub record HeadingSoFar : Type 0 where
  -- the first run of an ATX heading, or the underline of a setext heading
  pub markers : List ℕ
  -- the lines of its text
  pub text : List (List ℕ)

pub record DefinitionSoFar : Type 0 where
  -- the lines of the label
  pub label : List (List ℕ)
  pub destination : List ℕ
  -- the lines of the title; none where it has begun, before its text
  pub title : Option (List (List ℕ))

pub record TableSoFar : Type 0 where
  pub delimiter : List ℕ
  -- the cells of each row, the head first
  pub rows : List (List (List ℕ))

-- A leaf block that is open, by its kind.
pub data OpenLeaf : Type 0 where
  FrontmatterLeaf : Fenced → OpenLeaf
  HeadingAtxLeaf : HeadingSoFar → OpenLeaf
  HeadingSetextLeaf : HeadingSoFar → OpenLeaf
  BareLeaf : Word → OpenLeaf
  -- the lines
  CodeLeaf : List Line → OpenLeaf
  -- the fences, `info` and `meta`
  FenceLeaf : Fenced → Option (List ℕ) → Option (List ℕ) → OpenLeaf
  -- the fences and `meta`
  MathLeaf : Fenced → Option (List ℕ) → OpenLeaf
  -- the lines
  HtmlLeaf : List Line → OpenLeaf
  DefinitionLeaf : DefinitionSoFar → OpenLeaf
  TableLeaf : TableSoFar → OpenLeaf

-- A text that is being read: the virtual spaces before it, what is before the last container prefix in it, and the byte
-- where the rest begins.
pub record Text : Type 0 where
  pub spaces : ℕ
  pub front : List ℕ
  pub from : ℕ

-- A half-read tree.
pub record Reading : Type 0 where
  -- the open containers, the innermost first
  pub outer : List OpenContainer
  -- the finished blocks in the innermost
  pub here : Blocks
  pub leaf : Option OpenLeaf
  pub text : Option Text

-- What the events of a name are read as.
abbrev pub role : Name → Role
role name = (facts name).role

-- Texts.

-- the columns that are left of the tab at a point, where the point cuts one: virtual spaces (CommonMark 2.2)
abbrev pub columns_left : Point → ℕ
columns_left p = if p.vs == 0 then 0 else tab_columns (p.column - 1)

-- the first byte after the point: a tab that is cut counts as virtual spaces
abbrev pub byte_at : Point → ℕ
byte_at p = if p.vs == 0 then p.index else p.index + 1

abbrev pub begun : Point → Text
begun p = record { spaces = columns_left p; front = []; from = byte_at p }

-- what was read up to a byte
abbrev pub text_to : List ℕ → ℕ → Text → List ℕ
text_to bytes end text = text.front ++ slice_range bytes text.from end

-- a container prefix begins
abbrev pub before_prefix : List ℕ → Point → Text → Text
before_prefix bytes p text = record text { front = text_to bytes p.index text }

-- a container prefix ends
abbrev pub after_prefix : Point → Text → Text
after_prefix p text = record text { from = byte_at p }

-- Leaf blocks that are open.

abbrev pub empty_line : Line
empty_line = record { spaces = 0; text = [] }

abbrev pub no_fences : Fenced
no_fences = record { markers = []; lines = []; closed = false }

abbrev pub no_heading : HeadingSoFar
no_heading = record { markers = []; text = [] }

-- What a leaf block begins with: code and HTML have their first line, all others nothing.
abbrev pub fresh : LeafKind → OpenLeaf
fresh OfFrontmatter = FrontmatterLeaf no_fences
fresh OfHeadingAtx = HeadingAtxLeaf no_heading
fresh OfHeadingSetext = HeadingSetextLeaf no_heading
fresh (OfBare word) = BareLeaf word
fresh OfCode = CodeLeaf (empty_line ∷ [])
fresh OfFence = FenceLeaf no_fences None None
fresh OfMath = MathLeaf no_fences None
fresh OfHtml = HtmlLeaf (empty_line ∷ [])
fresh OfDefinition = DefinitionLeaf (record { label = []; destination = []; title = None })
fresh OfTable = TableLeaf (record { delimiter = []; rows = [] })

-- A leaf block with a part of it changed, if it is of a kind that has such a part.

abbrev pub on_fences : (Fenced → Fenced) → OpenLeaf → OpenLeaf
on_fences f (FrontmatterLeaf fences) = FrontmatterLeaf (f fences)
on_fences f (FenceLeaf fences info meta) = FenceLeaf (f fences) info meta
on_fences f (MathLeaf fences meta) = MathLeaf (f fences) meta
on_fences f leaf = leaf

abbrev pub on_lines : (List Line → List Line) → OpenLeaf → OpenLeaf
on_lines f (CodeLeaf lines) = CodeLeaf (f lines)
on_lines f (HtmlLeaf lines) = HtmlLeaf (f lines)
on_lines f leaf = on_fences (λ (fences : Fenced). record fences { lines = f fences.lines }) leaf

abbrev pub on_markers : (List ℕ → List ℕ) → OpenLeaf → OpenLeaf
on_markers f (HeadingAtxLeaf heading) = HeadingAtxLeaf (record heading { markers = f heading.markers })
on_markers f (HeadingSetextLeaf heading) = HeadingSetextLeaf (record heading { markers = f heading.markers })
on_markers f leaf = on_fences (λ (fences : Fenced). record fences { markers = f fences.markers }) leaf

-- What begins or ends in a leaf block.

-- a line
abbrev pub next_line : OpenLeaf → OpenLeaf
next_line leaf = on_lines (λ (lines : List Line). lines ++ empty_line ∷ []) leaf

-- a fence: the second is the closing one, and it is no line
abbrev pub with_fence : Fenced → Fenced
with_fence fences =
    if (length fences.markers == 0) || fences.closed then fences
    else record fences { lines = without_last fences.lines; closed = true }

abbrev pub at_fence : OpenLeaf → OpenLeaf
at_fence leaf = on_fences with_fence leaf

-- a title
abbrev pub at_title : OpenLeaf → OpenLeaf
at_title (DefinitionLeaf definition) = DefinitionLeaf (record definition { title = first_some definition.title [] })
at_title leaf = leaf

-- a title with these lines, if it has none yet
abbrev pub with_title : List (List ℕ) → DefinitionSoFar → DefinitionSoFar
with_title now definition =
    record definition { title = option_map (λ (lines : List (List ℕ)). first_recorded lines now) definition.title }

-- a title that ends without a text is an empty line
abbrev pub after_title : OpenLeaf → OpenLeaf
after_title (DefinitionLeaf definition) = DefinitionLeaf (with_title ([] ∷ []) definition)
after_title leaf = leaf

-- a row of a table
abbrev pub at_row : OpenLeaf → OpenLeaf
at_row (TableLeaf table) = TableLeaf (record table { rows = table.rows ++ [] ∷ [] })
at_row leaf = leaf

-- a cell of its last row
abbrev pub at_cell : OpenLeaf → OpenLeaf
at_cell (TableLeaf table) =
    TableLeaf (record table { rows = on_last (λ (row : List (List ℕ)). row ++ [] ∷ []) table.rows })
at_cell leaf = leaf

-- a line and the next piece of it
abbrev pub joined : Line → Line → Line
joined line piece = record { spaces = line.spaces + piece.spaces; text = line.text ++ piece.text }

-- `=` is of depth 1, `-` of depth 2 (CommonMark 4.3)
abbrev pub underline_depth : ℕ → ℕ
underline_depth marker = if marker == 61 then 1 else 2

-- the block that an open leaf block is, if it ends here
abbrev pub block_of : OpenLeaf → Block
block_of (FrontmatterLeaf fences) =
    t.Frontmatter (first_byte fences.markers) (map (λ (line : Line). line.text) fences.lines)
block_of (HeadingAtxLeaf heading) = Heading (length heading.markers) heading.text
block_of (HeadingSetextLeaf heading) = Heading (underline_depth (first_byte heading.markers)) heading.text
block_of (BareLeaf word) = Bare word
block_of (CodeLeaf lines) = Code lines
block_of (FenceLeaf fences info meta) = Fence (first_byte fences.markers) info meta fences.lines fences.closed
block_of (MathLeaf fences meta) = Math meta fences.lines fences.closed
block_of (HtmlLeaf lines) = Html lines
block_of (DefinitionLeaf definition) = Definition definition.label definition.destination definition.title
block_of (TableLeaf table) = Table table.delimiter table.rows

-- a heading with this text, if it has none yet
abbrev pub with_text : List ℕ → HeadingSoFar → HeadingSoFar
with_text now heading = record heading { text = first_recorded heading.text (trim_each (split_lines now)) }

-- What a text of a leaf block says of it. Pieces of a line are joined; of any other purpose the first text is.
abbrev pub noted : Purpose → Line → OpenLeaf → OpenLeaf
noted AsHeading line (HeadingAtxLeaf heading) = HeadingAtxLeaf (with_text line.text heading)
noted AsHeading line (HeadingSetextLeaf heading) = HeadingSetextLeaf (with_text line.text heading)
noted AsMarkers line leaf = on_markers (λ (markers : List ℕ). first_recorded markers line.text) leaf
noted AsLine line leaf = on_lines (on_last (λ (l : Line). joined l line)) leaf
noted AsInfo line (FenceLeaf fences info meta) = FenceLeaf fences (first_some info line.text) meta
noted AsMeta line (FenceLeaf fences info meta) = FenceLeaf fences info (first_some meta line.text)
noted AsMeta line (MathLeaf fences meta) = MathLeaf fences (first_some meta line.text)
noted AsLabel line (DefinitionLeaf definition) =
    DefinitionLeaf
    (record definition { label = first_recorded definition.label (trim_further (split_lines line.text)) })
noted AsDestination line (DefinitionLeaf definition) =
    DefinitionLeaf (record definition { destination = first_recorded definition.destination line.text })
noted AsTitle line (DefinitionLeaf definition) =
    DefinitionLeaf (with_title (trim_further (split_lines line.text)) definition)
noted AsCell line (TableLeaf table) =
    TableLeaf (record table { rows = on_last (on_last (λ (cell : List ℕ). first_recorded cell line.text)) table.rows })
noted AsDelimiter line (TableLeaf table) =
    TableLeaf (record table { delimiter = first_recorded table.delimiter (trim line.text) })
noted _ line leaf = leaf

-- Shapes.

-- `.` and `)` are markers of ordered lists (CommonMark 5.2)
abbrev pub is_ordered : ℕ → Bool
is_ordered b = (b == 46) || (b == 41)

-- the marker of the first item, if it is one of such a list, else 0
abbrev pub list_marker : (ℕ → Bool) → Blocks → ℕ
list_marker is_marker (More (Item marker digits blocks) items) = if is_marker marker then marker else 0
list_marker is_marker _ = 0

abbrev pub block_around : Shape → Blocks → Block
block_around (QuoteShape kind) blocks = Quote kind blocks
block_around OrderedShape items = ListOf (list_marker is_ordered items) items
block_around UnorderedShape items = ListOf (list_marker is_bullet items) items
block_around (ItemShape marker digits) blocks = Item marker digits blocks
block_around (FootnoteShape label) blocks = Footnote label blocks

-- What a text of an opening prefix says of its container. The first of each purpose is.
abbrev pub named : Purpose → List ℕ → Shape → Shape
named AsDigits text (ItemShape marker digits) = ItemShape marker (first_recorded digits text)
named AsItemMarker text (ItemShape marker digits) = ItemShape (if marker == 0 then first_byte text else marker) digits
named AsFootnoteLabel text (FootnoteShape label) = FootnoteShape (first_recorded label text)
named _ text shape = shape

-- the kind whose marker begins at an index of a text, if one does
unfoldable pub kind_at : List ℕ → ℕ → Option AlertKind
kind_at bytes index = first_kind (λ kind. has_marker kind (drop index bytes)) kinds

-- whether no block of the innermost container is read yet, nor a part of one
abbrev pub is_before_blocks : Option Text → Option OpenLeaf → Blocks → Bool
is_before_blocks None None End = true
is_before_blocks text leaf blocks = false

-- a quote is of the first kind that a marker before its blocks gives it
abbrev pub with_kind : Option AlertKind → Shape → Shape
with_kind (Some k) (QuoteShape None) = QuoteShape (Some k)
with_kind _ shape = shape

-- The step of one event.

abbrev pub on_leaf : (OpenLeaf → OpenLeaf) → Reading → Reading
on_leaf f r = record r { leaf = option_map f r.leaf }

abbrev pub on_text : (Text → Text) → Reading → Reading
on_text f r = record r { text = option_map f r.text }

abbrev pub on_shape : (Shape → Shape) → List OpenContainer → List OpenContainer
on_shape f [] = []
on_shape f (around ∷ outer) = record around { shape = f around.shape } ∷ outer

abbrev pub add_block : Block → Reading → Reading
add_block block r = record r { here = then_block r.here block }

-- a text ends
abbrev pub recorded : Purpose → Line → Reading → Reading
recorded AsParagraph line r = add_block (Paragraph (trim_each (split_lines line.text))) r
recorded AsDigits line r = record r { outer = on_shape (named AsDigits line.text) r.outer }
recorded AsItemMarker line r = record r { outer = on_shape (named AsItemMarker line.text) r.outer }
recorded AsFootnoteLabel line r = record r { outer = on_shape (named AsFootnoteLabel line.text) r.outer }
recorded purpose line r = on_leaf (noted purpose line) r

abbrev pub recorded_at : List ℕ → Purpose → Point → Option Text → Reading → Reading
recorded_at bytes purpose p None r = r
recorded_at bytes purpose p (Some text) r =
    recorded purpose (record { spaces = text.spaces; text = text_to bytes p.index text }) (record r { text = None })

abbrev pub finished : Option OpenLeaf → Reading → Reading
finished None r = r
finished (Some leaf) r = add_block (block_of leaf) (record r { leaf = None })

abbrev pub left : List OpenContainer → Reading → Reading
left [] r = r
left (around ∷ outer) r = record r { outer = outer; here = then_block around.before (block_around around.shape r.here) }

-- A line ending in a text is a part of that text. Any other opens a line of the leaf block, if the text of the document
-- continues after it.
abbrev pub at_ending : List ℕ → Point → Option Text → Reading → Reading
at_ending bytes p (Some text) r = r
at_ending bytes p None r = if nat_lt p.index (length bytes) then on_leaf next_line r else r

abbrev pub read_enter : List ℕ → Role → Point → Reading → Reading
read_enter bytes (ContainerRole shape) p r = record r {
  outer = (record { shape = shape; before = r.here }) ∷ r.outer;
  here = End;
}
read_enter bytes (LeafRole kind) p r = record r { leaf = Some (fresh kind) }
read_enter bytes (TextRole purpose) p r = record r { text = Some (begun p) }
read_enter bytes IsFence p r = on_leaf at_fence r
read_enter bytes IsTitle p r = on_leaf at_title r
read_enter bytes IsRow p r = on_leaf at_row r
read_enter bytes IsCell p r = on_leaf at_cell r
read_enter bytes IsPrefix p r = on_text (before_prefix bytes p) r
read_enter bytes IsEnding p r = r
read_enter bytes IsQuoteMarker p r =
    if is_before_blocks r.text r.leaf r.here
    then record r { outer = on_shape (with_kind (kind_at bytes p.index)) r.outer }
    else r
read_enter bytes IsQuiet p r = r

abbrev pub read_exit : List ℕ → Role → Point → Reading → Reading
read_exit bytes (ContainerRole shape) p r = left r.outer r
read_exit bytes (LeafRole kind) p r = finished r.leaf r
read_exit bytes (TextRole purpose) p r = recorded_at bytes purpose p r.text r
read_exit bytes IsTitle p r = on_leaf after_title r
read_exit bytes IsPrefix p r = on_text (after_prefix p) r
read_exit bytes IsEnding p r = at_ending bytes p r.text r
read_exit bytes _ p r = r

abbrev pub read_by : List ℕ → Kind → Role → Point → Reading → Reading
read_by bytes Enter role p r = read_enter bytes role p r
read_by bytes Exit role p r = read_exit bytes role p r

-- what is read after these events
abbrev pub read : List ℕ → Reading → List Event → Reading
read bytes r [] = r
read bytes r (e ∷ es) = read bytes (read_by bytes e.kind (role e.name) e.point r) es

-- before the first event
abbrev pub unread : Reading
unread = record { outer = []; here = End; leaf = None; text = None }

-- The tree that these events of a text spell out.
unfoldable pub spelled : List Event → List ℕ → Blocks
spelled events bytes = (read bytes unread events).here
