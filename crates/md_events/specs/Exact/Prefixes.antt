-- The containers of a line: those that continue, those that open, and what they take of it.
use Rattle.std.specs.Prelude.{ℕ, zero, suc, Bool, false, ◌&&◌, ◌||◌, ◌==◌, if◌then◌else◌, List, [], ◌∷◌, ◌++◌, length}
use Rattle.std.specs.Prelude.{Option, Some, None}
use Rattle.md_engine.specs.declared.configuration.ParseOptions.{ParseOptions}
use Rattle.md_engine.specs.declared.event.Content.TheVariants.{String}
use Rattle.md_engine.specs.declared.event.Event.{Event}
use Rattle.md_engine.specs.declared.event.Name.{Name}
use Rattle.md_engine.specs.declared.event.Name.TheVariants as n
use Rattle.md_meaning.specs.declared.alert.AlertKind.{AlertKind}
use Rattle.md_meaning.specs.Alert.{marker_of}
use Rattle.md_meaning.specs.Ascii.{dot, right_parenthesis}
use Rattle.md_meaning.specs.Containers.{Taken, continues, opens}
use Rattle.md_meaning.specs.Rest.{Rest, after_indent, lose}
use Rattle.md_meaning.specs.State.{Container, InQuote, InItem, InFootnote, Path, At, Within, spot}
use Rattle.md_meaning.specs.Step.{is_concrete, is_open_text}
use Rattle.md_meaning.specs.Tree.{Block, Item, Blocks, End, More}
use Rattle.md_events.specs.Events.Nested.{enter}
use Rattle.md_events.specs.Exact.Places.{TextLine, part, past, piece, place, text_part, white}

-- the open containers, the outermost first
abbrev pub containers : Path → List Container
containers (At s) = []
containers (Within before container p) = container ∷ containers p

-- the open containers that continue, each with the rest after its prefix: each is asked, from the outermost in, until
-- one does not
abbrev pub taken_prefixes : ParseOptions → Path → Rest → List Taken
taken_prefixes options (At s) r = []
taken_prefixes options (Within before container p) r = elim (continues options container r) [
  | Some t ↦ t ∷ taken_prefixes options p t.rest
  | None ↦ []
]

-- the containers that open at a rest, one in the other, at most so many
abbrev pub opened : ParseOptions → Bool → ℕ → Rest → List Taken
opened options interrupting zero r = []
opened options interrupting (suc n) r = elim (opens options interrupting r) [
  | Some t ↦ t ∷ opened options false n t.rest
  | None ↦ []
]

-- The containers that open on a line after those that continued: none in fences, math and HTML where all did, and there
-- the first may interrupt a paragraph. Each takes a byte.
abbrev pub new_containers : ParseOptions → Path → Bool → Rest → List Taken
new_containers options p all r =
    if all && is_concrete (spot p).leaf then []
    else opened options (all && is_open_text (spot p).leaf) (length r.bytes) r

-- the rest after all of these
abbrev pub following_all : Rest → List Taken → Rest
following_all r [] = r
following_all r (t ∷ ts) = following_all t.rest ts

-- Prefixes, from a rest to the one after them.

-- of an alert, after the column of whitespace that belongs to the `>`: the marker of its kind between whitespace
abbrev pub alert_part : TextLine → Option AlertKind → Rest → Rest → List Event
alert_part line None r s = []
alert_part line (Some kind) r s =
    let bracket = after_indent r in
    let after = past (length (marker_of kind)) bracket in
    white line r bracket ++ piece line n.BlockQuoteMarker bracket after ++ white line after s

-- of a quote: `>` after its indent, and the column of whitespace after that; where it opens as an alert, also the
-- marker of its kind
abbrev pub quote_prefix : TextLine → Option AlertKind → Rest → Rest → List Event
quote_prefix line kind r s =
    let marker = after_indent r in
    let after = past 1 marker in
    let after_column = lose 1 after in
    white line r marker
    ++ part line n.BlockQuotePrefix marker s
    (piece line n.BlockQuoteMarker marker after
    ++ white line after after_column
    ++ alert_part line kind after_column s)

-- of an item that opens: the digits and the marker after its indent, and the whitespace that belongs to it
abbrev pub item_prefix : TextLine → List ℕ → Rest → Rest → List Event
item_prefix line digits r s =
    let value = after_indent r in
    let marker = past (length digits) value in
    let after = past 1 marker in
    white line r value
    ++ part line n.ListItemPrefix value s
    (piece line n.ListItemValue value marker ++ piece line n.ListItemMarker marker after ++ white line after s)

-- of a footnote definition that opens: `[^`, its label, `]:` and the whitespace after that
abbrev pub footnote_prefix : TextLine → List ℕ → Rest → Rest → List Event
footnote_prefix line label r s =
    let bracket = after_indent r in
    let hat = past 1 bracket in
    let text = past 1 hat in
    let close = past (length label) text in
    let colon = past 1 close in
    let after = past 1 colon in
    white line r bracket
    ++ part line n.GfmFootnoteDefinitionPrefix bracket s
    (part line n.GfmFootnoteDefinitionLabel bracket colon
    (piece line n.GfmFootnoteDefinitionLabelMarker bracket hat
    ++ piece line n.GfmFootnoteDefinitionMarker hat text
    ++ text_part line String n.GfmFootnoteDefinitionLabelString text close
    ++ piece line n.GfmFootnoteDefinitionLabelMarker close colon)
    ++ piece line n.DefinitionMarker colon after ++ white line after s)

-- of a container that continues: that of a quote, and of others the columns that they lose
abbrev pub further_prefix : TextLine → Container → Rest → Rest → List Event
further_prefix line (InQuote kind) r s = quote_prefix line None r s
further_prefix line container r s = white line r s

-- of all containers that continue
abbrev pub further_prefixes : TextLine → Rest → List Taken → List Event
further_prefixes line r [] = []
further_prefixes line r (t ∷ ts) = further_prefix line t.container r t.rest ++ further_prefixes line t.rest ts

-- Lists (CommonMark 5.3).

-- `.` and `)` are markers of ordered lists
abbrev pub list_name : ℕ → Name
list_name marker = if (marker == dot) || (marker == right_parenthesis) then n.ListOrdered else n.ListUnordered

-- whether a block is an item with this marker
abbrev pub is_item : ℕ → Block → Bool
is_item marker (Item m digits bs) = m == marker
is_item marker b = false

-- whether an item with this marker is the last of these blocks
abbrev pub end_in_item : ℕ → Blocks → Bool
end_in_item marker End = false
end_in_item marker (More b End) = is_item marker b
end_in_item marker (More b (More next bs)) = end_in_item marker (More next bs)

-- the blocks before the open container that has so many around it
abbrev pub blocks_before : ℕ → Path → Blocks
blocks_before depth (At s) = End
blocks_before zero (Within before container p) = before
blocks_before (suc depth) (Within before container p) = blocks_before depth p

-- Containers that open, where this is open after the line: an item begins a list, unless one with its marker is before
-- it.
abbrev pub begin : TextLine → Path → ℕ → Container → Rest → Rest → List Event
begin line after depth (InQuote kind) r s = enter n.BlockQuote (place line r) ∷ quote_prefix line kind r s
begin line after depth (InItem digits marker width starts_blank) r s =
    (if end_in_item marker (blocks_before depth after) then [] else enter (list_name marker) (place line r) ∷ [])
    ++ enter n.ListItem (place line r) ∷ item_prefix line digits r s
begin line after depth (InFootnote label) r s =
    enter n.GfmFootnoteDefinition (place line r) ∷ footnote_prefix line label r s

-- all containers that open; the first has so many around it
abbrev pub begins : TextLine → Path → ℕ → Rest → List Taken → List Event
begins line after depth r [] = []
begins line after depth r (t ∷ ts) =
    begin line after depth t.container r t.rest ++ begins line after (suc depth) t.rest ts
