-- What is before and after a line: the prefixes and the begins of its containers, and the ends of those that end. No
-- part in them must be filled; and the prefixes of containers that continue have no part at all.
use Rattle.std.proofs.Common.{◌≡◌, ℕ, suc, Bool, true, false, cond, List, [], ◌∷◌, ◌++◌, length, refl}
use Rattle.std.specs.Prelude.{◌==◌, ◌||◌, Option, Some, None}
use Rattle.md_engine.specs.declared.event.Content.TheVariants.{String}
use Rattle.md_engine.specs.declared.event.Event.{Event}
use Rattle.md_engine.specs.declared.event.Name.{Name}
use Rattle.md_engine.specs.declared.event.Name.TheVariants as n
use Rattle.md_engine.specs.declared.event.Point.{Point}
use Rattle.md_meaning.specs.declared.alert.AlertKind.{AlertKind}
use Rattle.md_meaning.specs.Alert.{marker_of}
use Rattle.md_meaning.specs.Ascii.{dot, right_parenthesis}
use Rattle.md_meaning.specs.Containers.{Taken}
use Rattle.md_meaning.specs.Rest.{Rest, after_indent, lose}
use Rattle.md_meaning.specs.State.{Container, InFootnote, InItem, InQuote, Path}
use Rattle.md_events.specs.Events.Nested.{enter, exit}
use Rattle.md_events.specs.Events.Tiles.{part_kind}
use Rattle.md_events.specs.Exact.Places.{TextLine, is_same, part, past, piece, place, text_part, white}
use Rattle.md_events.specs.Exact.Prefixes.{alert_part, begin, begins, blocks_before, end_in_item, footnote_prefix}
use Rattle.md_events.specs.Exact.Prefixes.{further_prefix, further_prefixes, item_prefix, list_name, quote_prefix}
use Rattle.md_events.specs.Exact.Rows.{Row, container_name, ends_from, list_continued, list_ends}
use Rattle.proof_frame.proofs.EachEvent.{each-append}
use Rattle.proof_exact.proofs.Filled.Parts.{Filled, filled-append, filled-event, filled-exit, filled-none, filled-part}
use Rattle.proof_exact.proofs.Filled.Parts.{filled-piece, filled-string, filled-white, is_plain, none-filled}
use Rattle.proof_exact.proofs.Filled.TextSpans.{Bare, IsBare, bare-none}

-- Without parts.

bare-append : (es fs : List Event) → Bare es → Bare fs → Bare (es ++ fs)
bare-append es fs h k = each-append IsBare es fs h k

bare-piece : (line : TextLine) (name : Name) (r s : Rest) → part_kind name ≡ None → Bare (piece line name r s)
bare-piece line name r s h = go (is_same r s)
  where
    go : (x : Bool) → Bare (cond x [] (part line name r s []))
    go true = tt
    go false = ((h, refl), ((h, refl), tt))

bare-white : (line : TextLine) (r s : Rest) → Bare (white line r s)
bare-white line r s = bare-piece line n.SpaceOrTab r s refl

bare-part : (line : TextLine) (name : Name) (r s : Rest) (inside : List Event) → part_kind name ≡ None → Bare inside →
    Bare (part line name r s inside)
bare-part line name r s inside h k = ((h, refl), bare-append inside (exit name (place line s) ∷ []) k ((h, refl), tt))

alert-bare : (line : TextLine) (kind : Option AlertKind) (r s : Rest) → Bare (alert_part line kind r s)
alert-bare line None r s = tt
alert-bare line (Some kind) r s =
    let bracket = after_indent r in
    let after = past (length (marker_of kind)) bracket in
    bare-append (white line r bracket ++ piece line n.BlockQuoteMarker bracket after) (white line after s)
    (bare-append (white line r bracket) (piece line n.BlockQuoteMarker bracket after)
    (bare-white line r bracket) (bare-piece line n.BlockQuoteMarker bracket after refl))
    (bare-white line after s)

quote-bare : (line : TextLine) (kind : Option AlertKind) (r s : Rest) → Bare (quote_prefix line kind r s)
quote-bare line kind r s =
    let marker = after_indent r in
    let after = past 1 marker in
    let column = lose 1 after in
    let mark = piece line n.BlockQuoteMarker marker after in
    bare-append (white line r marker)
    (part line n.BlockQuotePrefix marker s (mark ++ white line after column ++ alert_part line kind column s))
    (bare-white line r marker)
    (bare-part line n.BlockQuotePrefix marker s (mark ++ white line after column
    ++ alert_part line kind column s) refl
    (bare-append (mark ++ white line after column) (alert_part line kind column s)
    (bare-append mark (white line after column)
    (bare-piece line n.BlockQuoteMarker marker after refl) (bare-white line after column))
    (alert-bare line kind column s)))

item-bare : (line : TextLine) (digits : List ℕ) (r s : Rest) → Bare (item_prefix line digits r s)
item-bare line digits r s =
    let value = after_indent r in
    let marker = past (length digits) value in
    let after = past 1 marker in
    let number = piece line n.ListItemValue value marker in
    let mark = piece line n.ListItemMarker marker after in
    bare-append (white line r value)
    (part line n.ListItemPrefix value s (number ++ mark ++ white line after s)) (bare-white line r value)
    (bare-part line n.ListItemPrefix value s (number ++ mark ++ white line after s) refl
    (bare-append (number ++ mark) (white line after s)
    (bare-append number mark (bare-piece line n.ListItemValue value marker refl)
    (bare-piece line n.ListItemMarker marker after refl)) (bare-white line after s)))

-- of containers that continue
pub further-bare : (line : TextLine) (r : Rest) (ts : List Taken) → Bare (further_prefixes line r ts)
further-bare line r [] = tt
further-bare line r (t ∷ ts) =
    bare-append (further_prefix line t.container r t.rest) (further_prefixes line t.rest ts) (by t.container)
    (further-bare line t.rest ts)
  where
    by : (c : Container) → Bare (further_prefix line c r t.rest)
    by (InQuote kind) = quote-bare line None r t.rest
    by (InItem digits marker width starts_blank) = bare-white line r t.rest
    by (InFootnote label) = bare-white line r t.rest

pub bare-filled : {bytes : List ℕ} (es : List Event) → Bare es → Filled bytes es
bare-filled es h = none-filled es (bare-none es h)

-- Containers that open.

-- the label of a footnote is no text
footnote-filled : {bytes : List ℕ} (line : TextLine) (label : List ℕ) (r s : Rest) →
    Filled bytes (footnote_prefix line label r s)
footnote-filled line label r s =
    let bracket = after_indent r in
    let hat = past 1 bracket in
    let text = past 1 hat in
    let close = past (length label) text in
    let colon = past 1 close in
    let after = past 1 colon in
    let first = piece line n.GfmFootnoteDefinitionLabelMarker bracket hat in
    let second = piece line n.GfmFootnoteDefinitionMarker hat text in
    let string = text_part line String n.GfmFootnoteDefinitionLabelString text close in
    let last = piece line n.GfmFootnoteDefinitionLabelMarker close colon in
    let inside = first ++ second ++ string ++ last in
    let whole = part line n.GfmFootnoteDefinitionLabel bracket colon inside in
    let mark = piece line n.DefinitionMarker colon after in
    filled-append (white line r bracket)
    (part line n.GfmFootnoteDefinitionPrefix bracket s (whole ++ mark ++ white line after s))
    (filled-white line r bracket)
    (filled-part line n.GfmFootnoteDefinitionPrefix bracket s (whole ++ mark ++ white line after s) refl
    (filled-append (whole ++ mark) (white line after s)
    (filled-append whole mark
    (filled-part line n.GfmFootnoteDefinitionLabel bracket colon inside refl
    (filled-append (first ++ second ++ string) last
    (filled-append (first ++ second) string
    (filled-append first second
    (filled-piece line n.GfmFootnoteDefinitionLabelMarker bracket hat refl)
    (filled-piece line n.GfmFootnoteDefinitionMarker hat text refl))
    (filled-string line String n.GfmFootnoteDefinitionLabelString text close refl))
    (filled-piece line n.GfmFootnoteDefinitionLabelMarker close colon refl)))
    (filled-piece line n.DefinitionMarker colon after refl)) (filled-white line after s)))

list-plain : (marker : ℕ) → is_plain (list_name marker) ≡ true
list-plain marker = go ((marker == dot) || (marker == right_parenthesis))
  where
    go : (x : Bool) → is_plain (cond x n.ListOrdered n.ListUnordered) ≡ true
    go true = refl
    go false = refl

begin-filled : {bytes : List ℕ} (line : TextLine) (after : Path) (depth : ℕ) (c : Container) (r s : Rest) →
    Filled bytes (begin line after depth c r s)
begin-filled line after depth (InQuote kind) r s =
    filled-append (enter n.BlockQuote (place line r) ∷ []) (quote_prefix line kind r s)
    (filled-event (enter n.BlockQuote (place line r)) refl)
    (bare-filled (quote_prefix line kind r s) (quote-bare line kind r s))
begin-filled {bytes} line after depth (InItem digits marker width starts_blank) r s =
    filled-append (list has) (enter n.ListItem (place line r) ∷ item_prefix line digits r s) (list-filled has)
    (filled-append (enter n.ListItem (place line r) ∷ []) (item_prefix line digits r s)
    (filled-event (enter n.ListItem (place line r)) refl)
    (bare-filled (item_prefix line digits r s) (item-bare line digits r s)))
  where
    has : Bool
    has = end_in_item marker (blocks_before depth after)

    list : Bool → List Event
    list x = cond x [] (enter (list_name marker) (place line r) ∷ [])

    list-filled : (x : Bool) → Filled bytes (list x)
    list-filled true = filled-none
    list-filled false = filled-event (enter (list_name marker) (place line r)) (list-plain marker)
begin-filled line after depth (InFootnote label) r s =
    filled-append (enter n.GfmFootnoteDefinition (place line r) ∷ []) (footnote_prefix line label r s)
    (filled-event (enter n.GfmFootnoteDefinition (place line r)) refl) (footnote-filled line label r s)

pub begins-filled : {bytes : List ℕ} (line : TextLine) (after : Path) (depth : ℕ) (r : Rest) (ts : List Taken) →
    Filled bytes (begins line after depth r ts)
begins-filled line after depth r [] = filled-none
begins-filled line after depth r (t ∷ ts) =
    filled-append (begin line after depth t.container r t.rest) (begins line after (suc depth) t.rest ts)
    (begin-filled line after depth t.container r t.rest) (begins-filled line after (suc depth) t.rest ts)

-- Containers that end.

list-ends : {bytes : List ℕ} (depth : ℕ) (c : Container) (p : Point) (below : List Row) →
    Filled bytes (list_ends depth c p below)
list-ends depth (InQuote kind) p below = filled-none
list-ends {bytes} depth (InItem digits marker width starts_blank) p below = go (list_continued depth marker below)
  where
    go : (x : Bool) → Filled bytes (cond x [] (exit (list_name marker) p ∷ []))
    go true = filled-none
    go false = filled-exit (list_name marker) p
list-ends depth (InFootnote label) p below = filled-none

pub ends-filled : {bytes : List ℕ} (depth : ℕ) (cs : List Container) (p : Point) (below : List Row) →
    Filled bytes (ends_from depth cs p below)
ends-filled depth [] p below = filled-none
ends-filled depth (c ∷ cs) p below =
    filled-append (ends_from (suc depth) cs p below) (exit (container_name c) p ∷ list_ends depth c p below)
    (ends-filled (suc depth) cs p below)
    (filled-append (exit (container_name c) p ∷ []) (list_ends depth c p below) (filled-exit (container_name c) p)
    (list-ends depth c p below))
