-- The walk that puts lists around items, over the events of containers that open and end.
use Rattle.std.proofs.Common.{◌≡◌, ℕ, suc, ◌≤◌, Bool, true, false, cond, ◌&&◌, List, [], ◌∷◌, ◌++◌, length, refl, ap}
use Rattle.std.proofs.Common.{ap₂, sym, ◌∙◌, arith, append_assoc}
use Rattle.std.specs.Prelude.{◌||◌, get_or, Option, Some, None}
use Rattle.md_engine.specs.declared.event.Event.{Event}
use Rattle.md_engine.specs.declared.event.Kind.{Kind}
use Rattle.md_engine.specs.declared.event.Name.{Name}
use Rattle.md_engine.specs.declared.event.Name.TheVariants as n
use Rattle.md_engine.specs.declared.event.Point.{Point}
use Rattle.md_engine.specs.declared.event.Content.{Content}
use Rattle.md_engine.specs.declared.event.Content.TheVariants.{String}
use Rattle.md_meaning.specs.declared.alert.AlertKind.{AlertKind}
use Rattle.md_meaning.specs.Alert.{marker_of}
use Rattle.md_meaning.specs.Containers.{Taken}
use Rattle.md_meaning.specs.Rest.{Rest, after_indent, lose}
use Rattle.md_meaning.specs.State.{Container, InFootnote, InItem, InQuote, Path}
use Rattle.md_meaning.specs.Tree.{Blocks, End, Item, More}
use Rattle.md_events.specs.Events.Blocks.{is_block}
use Rattle.md_events.specs.Events.Nested.{enter, exit, is_enter}
use Rattle.md_events.specs.Events.Spelled.{ContainerRole, Role, role}
use Rattle.md_containers.specs.Listed.{Place, is_continued, is_item, is_marker, listed_from, marker_ahead}
use Rattle.md_containers.specs.Listed.{list_begin, list_name, marker_by, next_item}
use Rattle.md_containers.proofs.ListedLemmas.{passes-given}
use Rattle.md_events.specs.Exact.Places.{TextLine, chunk, is_same, part, past, piece, place, text_part, white}
use Rattle.md_events.specs.Exact.Prefixes.{alert_part, begin, begins, blocks_before, end_in_item, footnote_prefix}
use Rattle.md_events.specs.Exact.Prefixes.{further_prefix, further_prefixes, item_prefix, quote_prefix}
use Rattle.md_events.specs.Exact.Rows.{Row, container_name, ends_from, list_ends, list_continued}
use Rattle.proof_exact_lines.specs.Last.{continues_between, last_of, marker_in}
use Rattle.proof_exact_lines.specs.Unlisted.{MarkerAt, MarkerAllowed, MarkersAllowed, NoneIs, opening_prefix}
use Rattle.proof_exact_lines.specs.Unlisted.{plain_begin, plain_begins, plain_ends, pushed}
use Rattle.proof_exact_lines.proofs.StepLast.{held_in}

-- Events that no list turns on.

pub none-append : (f : Role → Bool) (es fs : List Event) → NoneIs f es → NoneIs f fs → NoneIs f (es ++ fs)
none-append f [] fs h k = k
none-append f (e ∷ es) fs h k = (h.0, none-append f es fs h.1 k)

pub none-piece : (f : Role → Bool) (line : TextLine) (name : Name) (r s : Rest) → f (role name) ≡ false →
    NoneIs f (piece line name r s)
none-piece f line name r s h = go (is_same r s)
  where
    go : (x : Bool) → NoneIs f (cond x [] (part line name r s []))
    go true = tt
    go false = (h, (h, tt))

pub none-part : (f : Role → Bool) (line : TextLine) (name : Name) (r s : Rest) (inside : List Event) →
    f (role name) ≡ false → NoneIs f inside → NoneIs f (part line name r s inside)
none-part f line name r s inside h k = (h, none-append f inside (exit name (place line s) ∷ []) k (h, tt))

block-item : (x : Role) → is_block x ≡ false → is_item x ≡ false
block-item (ContainerRole shape) h = absurd (cc)
block-item _ h = refl

pub none-items : (es : List Event) → NoneIs is_block es → NoneIs is_item es
none-items [] h = tt
none-items (e ∷ es) h = (block-item (role e.name) h.0, none-items es h.1)

-- they stay as they are
pub walk-passes : (bytes : List ℕ) (place : Place) (es rest : List Event) → NoneIs is_item es →
    listed_from bytes place (es ++ rest) ≡ es ++ listed_from bytes place rest
walk-passes bytes place [] rest h = refl
walk-passes bytes place (e ∷ es) rest h =
    passes-given bytes place e (es ++ rest) h.0
    ∙ ap (λ (l : List Event). e ∷ l) (walk-passes bytes place es rest h.1)

-- and say nothing of the next block, if they are of none
pub next-passes : (bytes : List ℕ) (es rest : List Event) → NoneIs is_block es →
    next_item bytes (es ++ rest) ≡ next_item bytes rest
next-passes bytes [] rest h = refl
next-passes bytes (e ∷ es) rest h =
    ap
    (λ (x : Bool).
    cond x (cond (is_enter e.kind && is_item (role e.name)) (Some (marker_ahead bytes (es ++ rest))) None)
    (next_item bytes (es ++ rest)))
    h.0
    ∙ next-passes bytes es rest h.1

-- The marker of an item.

-- what neither is of a block nor is a marker
abbrev is_ahead : Role → Bool
is_ahead x = is_block x || is_marker x

marker-skips : (kind : Kind) (x : Role) (byte following : ℕ) → is_ahead x ≡ false →
    marker_by kind x byte following ≡ following
marker-skips kind x byte following h = go (is_block x) (is_marker x) (is_enter kind) h
  where
    go : (a b c : Bool) → (a || b) ≡ false → cond a 0 (cond (c && b) byte following) ≡ following
    go true b c e = absurd (cc)
    go false true c e = absurd (cc)
    go false false true e = refl
    go false false false e = refl

marker-passes : (bytes : List ℕ) (es rest : List Event) → NoneIs is_ahead es →
    marker_ahead bytes (es ++ rest) ≡ marker_ahead bytes rest
marker-passes bytes [] rest h = refl
marker-passes bytes (e ∷ es) rest h =
    marker-skips e.kind (role e.name) (get_or bytes e.point.index 0) (marker_ahead bytes (es ++ rest)) h.0
    ∙ marker-passes bytes es rest h.1

pub item-marker : (bytes : List ℕ) (line : TextLine) (digits : List ℕ) (marker : ℕ) (r s : Rest) (rest : List Event) →
    MarkerAt bytes line digits marker r → marker_ahead bytes (item_prefix line digits r s ++ rest) ≡ marker
item-marker bytes line digits marker r s rest h =
    ap (marker_ahead bytes)
    (append_assoc front (enter n.ListItemPrefix (place line value) ∷ (inside ++ end)) rest
    ∙ ap (λ (l : List Event). front ++ enter n.ListItemPrefix (place line value) ∷ l)
    (append_assoc inside end rest
    ∙ ap (λ (l : List Event). l ++ (end ++ rest)) (append_assoc digit_events mark following)
    ∙ append_assoc digit_events (mark ++ following) (end ++ rest)
    ∙ ap (λ (l : List Event). digit_events ++ l) (append_assoc mark following (end ++ rest))))
    ∙ marker-passes bytes front _ (none-piece is_ahead line n.SpaceOrTab r value refl)
    ∙ marker-passes bytes digit_events _ (none-piece is_ahead line n.ListItemValue value at refl)
    ∙ by (is_same at after) h.one ∙ h.byte
  where
    value : Rest
    value = after_indent r

    at : Rest
    at = past (length digits) value

    after : Rest
    after = past 1 at

    front : List Event
    front = white line r value

    digit_events : List Event
    digit_events = piece line n.ListItemValue value at

    mark : List Event
    mark = piece line n.ListItemMarker at after

    following : List Event
    following = white line after s

    inside : List Event
    inside = digit_events ++ mark ++ following

    end : List Event
    end = exit n.ListItemPrefix (place line s) ∷ []

    by : (x : Bool) → x ≡ false →
        marker_ahead bytes
        (cond x [] (part line n.ListItemMarker at after []) ++ (following ++ (end ++ rest)))
        ≡ get_or bytes (place line at).index 0
    by true e = absurd (cc)
    by false e = refl

-- Prefixes are of no block.

white-none : (line : TextLine) (r s : Rest) → NoneIs is_block (white line r s)
white-none line r s = none-piece is_block line n.SpaceOrTab r s refl

alert-none : (line : TextLine) (kind : Option AlertKind) (r s : Rest) → NoneIs is_block (alert_part line kind r s)
alert-none line None r s = tt
alert-none line (Some kind) r s =
    let bracket = after_indent r in
    let after = past (length (marker_of kind)) bracket in
    none-append is_block (white line r bracket ++ piece line n.BlockQuoteMarker bracket after) (white line after s)
    (none-append is_block (white line r bracket) (piece line n.BlockQuoteMarker bracket after)
    (white-none line r bracket) (none-piece is_block line n.BlockQuoteMarker bracket after refl))
    (white-none line after s)

quote-none : (line : TextLine) (kind : Option AlertKind) (r s : Rest) → NoneIs is_block (quote_prefix line kind r s)
quote-none line kind r s =
    let marker = after_indent r in
    let after = past 1 marker in
    let column = lose 1 after in
    let mark = piece line n.BlockQuoteMarker marker after in
    none-append is_block (white line r marker)
    (part line n.BlockQuotePrefix marker s (mark ++ white line after column ++ alert_part line kind column s))
    (white-none line r marker)
    (none-part is_block line n.BlockQuotePrefix marker s (mark ++ white line after column
    ++ alert_part line kind column s) refl
    (none-append is_block (mark ++ white line after column) (alert_part line kind column s)
    (none-append is_block mark (white line after column)
    (none-piece is_block line n.BlockQuoteMarker marker after refl) (white-none line after column))
    (alert-none line kind column s)))

item-none : (line : TextLine) (digits : List ℕ) (r s : Rest) → NoneIs is_block (item_prefix line digits r s)
item-none line digits r s =
    let value = after_indent r in
    let marker = past (length digits) value in
    let after = past 1 marker in
    let number = piece line n.ListItemValue value marker in
    let mark = piece line n.ListItemMarker marker after in
    none-append is_block (white line r value)
    (part line n.ListItemPrefix value s (number ++ mark ++ white line after s)) (white-none line r value)
    (none-part is_block line n.ListItemPrefix value s (number ++ mark ++ white line after s) refl
    (none-append is_block (number ++ mark) (white line after s)
    (none-append is_block number mark (none-piece is_block line n.ListItemValue value marker refl)
    (none-piece is_block line n.ListItemMarker marker after refl)) (white-none line after s)))

text_part-none : (line : TextLine) (content : Content) (name : Name) (r s : Rest) → is_block (role name) ≡ false →
    NoneIs is_block (text_part line content name r s)
text_part-none line content name r s h = go (is_same r s)
  where
    go : (x : Bool) →
        NoneIs is_block (cond x [] (part line name r s (chunk content (place line r) (place line s))))
    go true = tt
    go false = (h, (refl, (refl, (h, tt))))

footnote-none : (line : TextLine) (label : List ℕ) (r s : Rest) → NoneIs is_block (footnote_prefix line label r s)
footnote-none line label r s =
    let bracket = after_indent r in
    let hat = past 1 bracket in
    let text = past 1 hat in
    let close = past (length label) text in
    let colon = past 1 close in
    let after = past 1 colon in
    let first = piece line n.GfmFootnoteDefinitionLabelMarker bracket hat in
    let second = piece line n.GfmFootnoteDefinitionMarker hat text in
    let string = text_part line String n.GfmFootnoteDefinitionLabelString text close in
    let last = piece line n.GfmFootnoteDefinitionLabelMarker close colon in
    let inside = first ++ second ++ string ++ last in
    let whole = part line n.GfmFootnoteDefinitionLabel bracket colon inside in
    let mark = piece line n.DefinitionMarker colon after in
    none-append is_block (white line r bracket)
    (part line n.GfmFootnoteDefinitionPrefix bracket s (whole ++ mark ++ white line after s))
    (white-none line r bracket)
    (none-part is_block line n.GfmFootnoteDefinitionPrefix bracket s (whole ++ mark ++ white line after s) refl
    (none-append is_block (whole ++ mark) (white line after s)
    (none-append is_block whole mark
    (none-part is_block line n.GfmFootnoteDefinitionLabel bracket colon inside refl
    (none-append is_block (first ++ second ++ string) last
    (none-append is_block (first ++ second) string
    (none-append is_block first second
    (none-piece is_block line n.GfmFootnoteDefinitionLabelMarker bracket hat refl)
    (none-piece is_block line n.GfmFootnoteDefinitionMarker hat text refl))
    (text_part-none line String n.GfmFootnoteDefinitionLabelString text close refl))
    (none-piece is_block line n.GfmFootnoteDefinitionLabelMarker close colon refl)))
    (none-piece is_block line n.DefinitionMarker colon after refl)) (white-none line after s)))

pub opening-none : (line : TextLine) (c : Container) (r s : Rest) → NoneIs is_block (opening_prefix line c r s)
opening-none line (InQuote kind) r s = quote-none line kind r s
opening-none line (InItem digits marker width starts_blank) r s = item-none line digits r s
opening-none line (InFootnote label) r s = footnote-none line label r s

pub further-none : (line : TextLine) (r : Rest) (ts : List Taken) → NoneIs is_block (further_prefixes line r ts)
further-none line r [] = tt
further-none line r (t ∷ ts) =
    none-append is_block (further_prefix line t.container r t.rest) (further_prefixes line t.rest ts)
    (by t.container) (further-none line t.rest ts)
  where
    by : (c : Container) → NoneIs is_block (further_prefix line c r t.rest)
    by (InQuote kind) = quote-none line None r t.rest
    by (InItem digits marker width starts_blank) = white-none line r t.rest
    by (InFootnote label) = white-none line r t.rest

-- Markers of open items.

-- the markers of the items among these containers, the innermost first, before others
abbrev pub markers_from : List ℕ → List Container → List ℕ
markers_from markers [] = markers
markers_from markers (c ∷ cs) = markers_from (pushed markers (marker_in c)) cs

pub markers-append : (ms : List ℕ) (cs ds : List Container) →
    markers_from ms (cs ++ ds) ≡ markers_from (markers_from ms cs) ds
markers-append ms [] ds = refl
markers-append ms (c ∷ cs) ds = markers-append (pushed ms (marker_in c)) cs ds

pub none-between : (last : Option ℕ) → continues_between last None ≡ false
none-between None = refl
none-between (Some m) = refl

-- Containers that open.

pub last-item : (m : ℕ) (bs : Blocks) → continues_between (last_of bs) (Some m) ≡ end_in_item m bs
last-item m End = refl
last-item m (More (Item k d x) End) = refl
last-item m (More _ End) = refl
last-item m (More b (More next bs)) = last-item m (More next bs)

-- an item that opens is known from its marker
pub begin-next : (bytes : List ℕ) (line : TextLine) (c : Container) (r s : Rest) (rest : List Event) →
    MarkerAllowed bytes line c r → next_item bytes (plain_begin line c r s ++ rest) ≡ marker_in c
begin-next bytes line (InQuote kind) r s rest h = refl
begin-next bytes line (InItem digits marker width starts_blank) r s rest h =
    ap (λ (m : ℕ). Some m) (item-marker bytes line digits marker r s rest h)
begin-next bytes line (InFootnote label) r s rest h = refl

-- where a list continues before it as the blocks there say
pub begin-walk : (bytes : List ℕ) (line : TextLine) (after : Path) (depth : ℕ) (c : Container) (r s : Rest)
    (within : Bool) (ms : List ℕ) (rest : List Event) → MarkerAllowed bytes line c r →
    within ≡ continues_between (last_of (blocks_before depth after)) (marker_in c) →
    listed_from bytes (record { within = within; markers = ms }) (plain_begin line c r s ++ rest)
    ≡ begin line after depth c r s
    ++ listed_from bytes (record { within = false; markers = pushed ms (marker_in c) }) rest
begin-walk bytes line after depth (InQuote kind) r s within ms rest h e =
    ap (λ (l : List Event). enter n.BlockQuote (place line r) ∷ l)
    (walk-passes bytes (record { within = within; markers = ms }) (quote_prefix line kind r s) rest
    (none-items (quote_prefix line kind r s) (opening-none line (InQuote kind) r s))
    ∙ ap (λ (w : Bool). quote_prefix line kind r s ++ listed_from bytes (record { within = w; markers = ms }) rest)
    (e ∙ none-between (last_of (blocks_before depth after))))
begin-walk bytes line after depth (InItem digits marker width starts_blank) r s within ms rest h e =
    ap₂
    (λ (w : Bool) (m : ℕ).
    (list_begin w m (place line r) ++ item ∷ [])
    ++ listed_from bytes (record { within = false; markers = m ∷ ms }) (prefix ++ rest))
    (e ∙ last-item marker (blocks_before depth after)) (item-marker bytes line digits marker r s rest h)
    ∙ append_assoc front (item ∷ []) _
    ∙ ap (λ (l : List Event). front ++ item ∷ l)
    (walk-passes bytes (record { within = false; markers = marker ∷ ms }) prefix rest
    (none-items prefix (opening-none line (InItem digits marker width starts_blank) r s)))
    ∙ sym (append_assoc front (item ∷ prefix) _)
  where
    item : Event
    item = enter n.ListItem (place line r)

    prefix : List Event
    prefix = item_prefix line digits r s

    front : List Event
    front = list_begin (end_in_item marker (blocks_before depth after)) marker (place line r)
begin-walk bytes line after depth (InFootnote label) r s within ms rest h e =
    ap (λ (l : List Event). enter n.GfmFootnoteDefinition (place line r) ∷ l)
    (walk-passes bytes (record { within = within; markers = ms }) (footnote_prefix line label r s) rest
    (none-items (footnote_prefix line label r s) (opening-none line (InFootnote label) r s))
    ∙ ap (λ (w : Bool). footnote_prefix line label r s ++ listed_from bytes (record { within = w; markers = ms }) rest)
    (e ∙ none-between (last_of (blocks_before depth after))))

-- those that open in one that opens: nothing is before them
inner-walk : (bytes : List ℕ) (line : TextLine) (after : Path) (depth : ℕ) (r : Rest) (ts : List Taken)
    (ms : List ℕ) (rest : List Event) → MarkersAllowed bytes line r ts →
    ((deep : ℕ) → depth ≤ deep → blocks_before deep after ≡ End) →
    listed_from bytes (record { within = false; markers = ms }) (plain_begins line r ts ++ rest)
    ≡ begins line after depth r ts
    ++ listed_from bytes (record { within = false; markers = markers_from ms (held_in ts) }) rest
inner-walk bytes line after depth r [] ms rest h deeper = refl
inner-walk bytes line after depth r (t ∷ ts) ms rest h deeper =
    let plain : List Event = plain_begin line t.container r t.rest in
    let first : List Event = begin line after depth t.container r t.rest in
    let markers : List ℕ = pushed ms (marker_in t.container) in
    ap (listed_from bytes (record { within = false; markers = ms }))
    (append_assoc plain (plain_begins line t.rest ts) rest)
    ∙ begin-walk bytes line after depth t.container r t.rest false ms (plain_begins line t.rest ts ++ rest) h.0
    (sym (ap (λ (bs : Blocks). continues_between (last_of bs) (marker_in t.container)) (deeper depth (omega arith))))
    ∙ ap (λ (l : List Event). first ++ l)
    (inner-walk bytes line after (suc depth) t.rest ts markers rest h.1 (λ deep le. deeper deep (omega arith)))
    ∙ sym (append_assoc first (begins line after (suc depth) t.rest ts) _)

-- all that open
pub begins-walk : (bytes : List ℕ) (line : TextLine) (after : Path) (depth : ℕ) (r : Rest) (t : Taken)
    (ts : List Taken) (within : Bool) (ms : List ℕ) (rest : List Event) → MarkersAllowed bytes line r (t ∷ ts) →
    within ≡ continues_between (last_of (blocks_before depth after)) (marker_in t.container) →
    ((deep : ℕ) → suc depth ≤ deep → blocks_before deep after ≡ End) →
    listed_from bytes (record { within = within; markers = ms }) (plain_begins line r (t ∷ ts) ++ rest)
    ≡ begins line after depth r (t ∷ ts)
    ++ listed_from bytes (record { within = false; markers = markers_from ms (held_in (t ∷ ts)) }) rest
begins-walk bytes line after depth r t ts within ms rest h e deeper =
    let plain : List Event = plain_begin line t.container r t.rest in
    let first : List Event = begin line after depth t.container r t.rest in
    ap (listed_from bytes (record { within = within; markers = ms }))
    (append_assoc plain (plain_begins line t.rest ts) rest)
    ∙ begin-walk bytes line after depth t.container r t.rest within ms (plain_begins line t.rest ts ++ rest) h.0 e
    ∙ ap (λ (l : List Event). first ++ l)
    (inner-walk bytes line after (suc depth) t.rest ts (pushed ms (marker_in t.container)) rest h.1 deeper)
    ∙ sym (append_assoc first (begins line after (suc depth) t.rest ts) _)

pub begins-next : (bytes : List ℕ) (line : TextLine) (r : Rest) (t : Taken) (ts : List Taken) (rest : List Event) →
    MarkersAllowed bytes line r (t ∷ ts) → next_item bytes (plain_begins line r (t ∷ ts) ++ rest) ≡
    marker_in t.container
begins-next bytes line r t ts rest h =
    ap (next_item bytes) (append_assoc (plain_begin line t.container r t.rest) (plain_begins line t.rest ts) rest)
    ∙ begin-next bytes line t.container r t.rest (plain_begins line t.rest ts ++ rest) h.0

-- Containers that end.

some-proceeds : (m : ℕ) (next : Option ℕ) → is_continued m next ≡ continues_between (Some m) next
some-proceeds m None = refl
some-proceeds m (Some k) = refl

-- one of them: where it is an item, its list continues as the lines below say
pub end-walk : (bytes : List ℕ) (depth : ℕ) (c : Container) (p : Point) (below : List Row) (ms : List ℕ)
    (rest : List Event) → ((m : ℕ) → list_continued depth m below ≡ is_continued m (next_item bytes rest)) →
    listed_from bytes (record { within = false; markers = pushed ms (marker_in c) })
    (exit (container_name c) p ∷ rest)
    ≡ (exit (container_name c) p ∷ list_ends depth c p below)
    ++ listed_from bytes (record { within = continues_between (marker_in c) (next_item bytes rest); markers = ms }) rest
end-walk bytes depth (InQuote kind) p below ms rest h = refl
end-walk bytes depth (InItem digits marker width starts_blank) p below ms rest h =
    ap₂
    (λ (x y : Bool).
    (exit n.ListItem p ∷ (cond x [] (exit (list_name marker) p ∷ [])))
    ++ listed_from bytes (record { within = y; markers = ms }) rest)
    (sym (h marker)) (some-proceeds marker (next_item bytes rest))
end-walk bytes depth (InFootnote label) p below ms rest h = refl

end-next : (bytes : List ℕ) (c : Container) (p : Point) (rest : List Event) →
    next_item bytes (exit (container_name c) p ∷ rest) ≡ None
end-next bytes (InQuote kind) p rest = refl
end-next bytes (InItem digits marker width starts_blank) p rest = refl
end-next bytes (InFootnote label) p rest = refl

pub ends-next : (bytes : List ℕ) (c : Container) (cs : List Container) (p : Point) (rest : List Event) →
    next_item bytes (plain_ends (c ∷ cs) p ++ rest) ≡ None
ends-next bytes c [] p rest = end-next bytes c p rest
ends-next bytes c (d ∷ cs) p rest =
    ap (next_item bytes) (append_assoc (plain_ends (d ∷ cs) p) (exit (container_name c) p ∷ []) rest)
    ∙ ends-next bytes d cs p (exit (container_name c) p ∷ rest)

-- Several of them, where the outermost has so many around it: one that ends within another is the last in its list.
inner-ends : (bytes : List ℕ) (depth : ℕ) (cs : List Container) (p : Point) (below : List Row) (ms : List ℕ)
    (rest : List Event) → next_item bytes rest ≡ None →
    ((deep m : ℕ) → depth ≤ deep → list_continued deep m below ≡ false) →
    listed_from bytes (record { within = false; markers = markers_from ms cs }) (plain_ends cs p ++ rest)
    ≡ ends_from depth cs p below ++ listed_from bytes (record { within = false; markers = ms }) rest
inner-ends bytes depth [] p below ms rest e deeper = refl
inner-ends bytes depth (c ∷ cs) p below ms rest e deeper =
    let end : List Event = exit (container_name c) p ∷ [] in
    let ends : List Event = ends_from (suc depth) cs p below in
    ap (listed_from bytes (record { within = false; markers = markers_from ms (c ∷ cs) }))
    (append_assoc (plain_ends cs p) end rest)
    ∙ inner-ends bytes (suc depth) cs p below (pushed ms (marker_in c)) (exit (container_name c) p ∷ rest)
    (end-next bytes c p rest) (λ deep m le. deeper deep m (omega arith))
    ∙ ap (λ (l : List Event). ends ++ l)
    (end-walk bytes depth c p below ms rest (λ m. deeper depth m (omega arith) ∙ ap (is_continued m) (sym e))
    ∙ ap
    (λ (x : Bool).
    (exit (container_name c) p ∷ list_ends depth c p below)
    ++ listed_from bytes (record { within = x; markers = ms }) rest)
    (ap (continues_between (marker_in c)) e ∙ none-between (marker_in c)))
    ∙ sym (append_assoc ends (exit (container_name c) p ∷ list_ends depth c p below) _)

-- all of them: only the list of the outermost may continue
pub ends-walk : (bytes : List ℕ) (depth : ℕ) (c : Container) (cs : List Container) (p : Point) (below : List Row)
    (ms : List ℕ) (rest : List Event) →
    ((m : ℕ) → list_continued depth m below ≡ is_continued m (next_item bytes rest)) →
    ((deep m : ℕ) → suc depth ≤ deep → list_continued deep m below ≡ false) →
    listed_from bytes (record { within = false; markers = markers_from ms (c ∷ cs) }) (plain_ends (c ∷ cs) p ++ rest)
    ≡ ends_from depth (c ∷ cs) p below
    ++ listed_from bytes (record { within = continues_between (marker_in c) (next_item bytes rest); markers = ms }) rest
ends-walk bytes depth c cs p below ms rest h deeper =
    let end : List Event = exit (container_name c) p ∷ [] in
    let ends : List Event = ends_from (suc depth) cs p below in
    ap (listed_from bytes (record { within = false; markers = markers_from ms (c ∷ cs) }))
    (append_assoc (plain_ends cs p) end rest)
    ∙ inner-ends bytes (suc depth) cs p below (pushed ms (marker_in c)) (exit (container_name c) p ∷ rest)
    (end-next bytes c p rest) deeper
    ∙ ap (λ (l : List Event). ends ++ l) (end-walk bytes depth c p below ms rest h)
    ∙ sym (append_assoc ends (exit (container_name c) p ∷ list_ends depth c p below) _)
