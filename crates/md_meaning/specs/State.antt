-- What is open between two lines: containers, and at most one leaf in the innermost (CommonMark, appendix).
use Rattle.std.specs.Prelude.{ℕ, ◌-◌, Bool, false, ◌==◌, if◌then◌else◌, List, [], ◌∷◌, map, length, take, Option}
use Rattle.std.specs.List.{suffix_len}
use Rattle.md_engine.specs.declared.configuration.ParseOptions.{ParseOptions}
use Rattle.md_meaning.specs.declared.alert.AlertKind.{AlertKind}
use Rattle.md_meaning.specs.Tree.{Line, Block, Quote, Item, Footnote, Code, Html, Fence, Math, Definition, Paragraph}
use Rattle.md_meaning.specs.Tree.{Table, Blocks, End, More}
use Rattle.md_meaning.specs.Rest.{Rest, is_blank, indent, trim_start}
use Rattle.md_meaning.specs.Html.{HtmlKind}
use Rattle.md_meaning.specs.Definition.{Defined, cut_definitions}
use Rattle.md_meaning.specs.Ascii.{dollar}

-- an open container
pub data Container : Type 0 where
  -- the kind, if it is an alert
  InQuote : Option AlertKind → Container
  -- the digits before the marker, the marker byte, the width in columns, and whether its first line was blank and no
  -- other line came yet
  InItem : List ℕ → ℕ → ℕ → Bool → Container
  InFootnote : List ℕ → Container

-- a line of an open paragraph: the columns of its indent, and the text after it
pub record ParagraphLine : Type 0 where
  pub indent : ℕ
  pub text : List ℕ

-- an opening fence: the marker byte, how many of it, the columns before them, and what follows them
pub record Opening : Type 0 where
  pub marker : ℕ
  pub size : ℕ
  pub indent : ℕ
  pub info : Option (List ℕ)
  pub meta : Option (List ℕ)

-- the open leaf
pub data Leaf : Type 0 where
  NoLeaf : Leaf
  OpenParagraph : List ParagraphLine → Leaf
  OpenCode : List Line → Leaf
  -- fenced code, or math
  OpenFence : Opening → List Line → Leaf
  OpenHtml : HtmlKind → List Line → Leaf
  -- the delimiter row, and the cells of each row, the head first
  OpenTable : List ℕ → List (List (List ℕ)) → Leaf

-- the finished blocks of a container, and the leaf after them
pub record Innermost : Type 0 where
  pub here : Blocks
  pub leaf : Leaf

-- The open containers, outermost first: each after the finished blocks of its parent.
pub data Path : Type 0 where
  At : Innermost → Path
  Within : Blocks → Container → Path → Path

-- the innermost container
abbrev pub spot : Path → Innermost
spot (At s) = s
spot (Within before container p) = spot p

-- with this in the place of the innermost
abbrev pub at_spot : Path → Innermost → Path
at_spot (At s) t = At t
at_spot (Within before container p) t = Within before container (at_spot p t)

-- with this block last
abbrev pub then_block : Blocks → Block → Blocks
then_block End b = More b End
then_block (More a bs) b = More a (then_block bs b)

abbrev pub then_definitions : Blocks → List Defined → Blocks
then_definitions bs [] = bs
then_definitions bs (d ∷ ds) = then_definitions (then_block bs (Definition d.label d.destination d.title)) ds

-- nothing remains of a paragraph that has no lines
abbrev pub then_paragraph : Blocks → List (List ℕ) → Blocks
then_paragraph bs [] = bs
then_paragraph bs (line ∷ lines) = then_block bs (Paragraph (line ∷ lines))

abbrev pub kept : Rest → ParagraphLine
kept r = record { indent = indent r; text = trim_start r.bytes }

abbrev pub texts : List ParagraphLine → List (List ℕ)
texts lines = map (λ k. k.text) lines

-- the definitions at the front of a paragraph, and the lines that remain (CommonMark 4.7)
abbrev pub cut : ParseOptions → List (List ℕ) → List Defined × List (List ℕ)
cut options lines = if options.constructs.definition then cut_definitions lines else ([], lines)

-- closing a paragraph: its definitions, and then what remains
unfoldable pub shut_paragraph : ParseOptions → Blocks → List (List ℕ) → Blocks
shut_paragraph options bs lines = let c = cut options lines in then_paragraph (then_definitions bs c.0) c.1

-- blank lines at the end do not belong to indented code (CommonMark 4.4)
abbrev pub without_trailing_blank : List Line → List Line
without_trailing_blank lines = take (length lines - suffix_len (λ l. is_blank l.text) lines) lines

-- fenced code or math, and whether it has a closing fence
abbrev pub fence_block : Opening → List Line → Bool → Block
fence_block o lines closed =
    if o.marker == dollar then Math o.meta lines closed else Fence o.marker o.info o.meta lines closed

-- with what the leaf becomes when it is closed
abbrev pub then_leaf : ParseOptions → Blocks → Leaf → Blocks
then_leaf options bs NoLeaf = bs
then_leaf options bs (OpenParagraph lines) = shut_paragraph options bs (texts lines)
then_leaf options bs (OpenCode lines) = then_block bs (Code (without_trailing_blank lines))
then_leaf options bs (OpenFence o lines) = then_block bs (fence_block o lines false)
then_leaf options bs (OpenHtml kind lines) = then_block bs (Html lines)
then_leaf options bs (OpenTable delimiter rows) = then_block bs (Table delimiter rows)

-- the blocks of the innermost container, with its leaf closed
abbrev pub shut : ParseOptions → Innermost → Blocks
shut options s = then_leaf options s.here s.leaf

abbrev pub container_block : Container → Blocks → Block
container_block (InQuote kind) bs = Quote kind bs
container_block (InItem digits marker width starts_blank) bs = Item marker digits bs
container_block (InFootnote label) bs = Footnote label bs

-- everything that is open is closed, from the inside out
abbrev pub closed : ParseOptions → Path → Blocks
closed options (At s) = shut options s
closed options (Within before container p) = then_block before (container_block container (closed options p))
