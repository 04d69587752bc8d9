-- The printed form of a listing.
use Rattle.std.specs.Prelude.{◌≡◌, ℕ, Bool, true, false, List, [], ◌∷◌, ◌++◌, length, codes, encode_utf8}
use Rattle.std.specs.List.{flat_map, repeat}
use Rattle.std.specs.Fmt.{decimal}
use Rattle.md_engine.specs.declared.configuration.ParseOptions.{ParseOptions}
use Rattle.md_meaning.specs.Outline.{Entry}
use Rattle.md_meaning.specs.declared.alert.AlertKind.{AlertKind}
use Rattle.md_meaning.specs.declared.alert.AlertKind.TheVariants.{Note, Tip, Important, Warning, Caution}
use Rattle.md_meaning.specs.declared.outline.Word.{Word}
use Rattle.md_meaning.specs.declared.outline.Word.TheVariants.{Frontmatter, Heading, Break, Code, Fence, Math, Html}
use Rattle.md_meaning.specs.declared.outline.Word.TheVariants.{Definition, Paragraph, Table, Row, Quote, Alert}
use Rattle.md_meaning.specs.declared.outline.Word.TheVariants.{List as ListOf, Item, Footnote, Line, Info, Meta}
use Rattle.md_meaning.specs.declared.outline.Word.TheVariants.{Label, Destination, Title, Delimiter, Cell}
use Rattle.md_program.specs.Listing.{Listing}

-- a line feed
abbrev pub line_end : List ℕ
line_end = 10 ∷ []

-- ` open`, where a fence that begins a block has no fence that closes it
abbrev pub open_mark : Bool → List ℕ
open_mark true = []
open_mark false = codes " open"

-- the word of an alert, by its kind
abbrev pub alert_head : AlertKind → List ℕ
alert_head Note = codes "alert note"
alert_head Tip = codes "alert tip"
alert_head Important = codes "alert important"
alert_head Warning = codes "alert warning"
alert_head Caution = codes "alert caution"

-- what represents a word, up to its text
abbrev pub head : Word → List ℕ
head (Frontmatter marker) = codes "frontmatter " ++ encode_utf8 marker
head (Heading depth) = codes "heading " ++ decimal depth
head Break = codes "break"
head Code = codes "code"
head (Fence marker closed) = codes "fence " ++ encode_utf8 marker ++ open_mark closed
head (Math closed) = codes "math" ++ open_mark closed
head Html = codes "html"
head Definition = codes "definition"
head Paragraph = codes "paragraph"
head (Table columns) = codes "table " ++ decimal columns
head Row = codes "row"
head Quote = codes "quote"
head (Alert kind) = alert_head kind
head (ListOf marker) = codes "list " ++ encode_utf8 marker
head Item = codes "item"
head Footnote = codes "footnote"
head Line = codes "| "
head Info = codes "info | "
head Meta = codes "meta | "
head Label = codes "label | "
head Destination = codes "destination | "
head Title = codes "title | "
head Delimiter = codes "delimiter | "
head Cell = codes "cell | "

-- two spaces a depth, the word, virtual spaces as spaces, and the text
unfoldable pub printed_line : Entry → List ℕ
printed_line line =
    repeat line.depth (codes "  ") ++ head line.word ++ repeat line.spaces (codes " ") ++ line.text ++ line_end

-- a label, on a line of its own
abbrev pub printed_label : List ℕ → List ℕ
printed_label label = codes "= " ++ label ++ line_end

-- how many labels there are, and each of them
unfoldable pub printed_labels : List ℕ → List (List ℕ) → List ℕ
printed_labels name labels = name ++ decimal (length labels) ++ line_end ++ flat_map printed_label labels

-- after the lines: an empty line, and the labels of definitions and footnotes
unfoldable pub printed_end : List (List ℕ) → List (List ℕ) → List ℕ
printed_end definitions footnotes =
    line_end ++ printed_labels (codes "definitions ") definitions ++ printed_labels (codes "footnotes ") footnotes

-- the lines, and what is after them
unfoldable pub printed : Listing → List ℕ
printed listing = flat_map printed_line listing.lines ++ printed_end listing.definitions listing.footnotes

-- what is printed of a text: the printed form of a listing that may be answered to it, under what represents the
-- options
pub record PrintsOutline (outlines : List ℕ → ParseOptions → Listing → Type 0) (built : ParseOptions → ParseOptions)
    (text : List ℕ) (options : ParseOptions) (bytes : List ℕ) : Type 0 where
  pub listing : Listing
  pub shown : outlines text (built options) listing
  pub printing : bytes ≡ printed listing
