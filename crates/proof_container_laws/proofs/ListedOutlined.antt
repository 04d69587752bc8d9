-- Events with lists around their items may be outlined, where those without may.
use Rattle.std.proofs.Common.{◌≡◌, ℕ, ◌+◌, Bool, true, false, cond, ◌||◌, ◌&&◌, List, [], ◌∷◌, ◌++◌, refl, ap, sym}
use Rattle.std.proofs.Common.{◌∙◌, subst}
use Rattle.std.proofs.lemmas.Bool.{and_from, and_parts}
use Rattle.std.proofs.lemmas.List.Folds.{list_all-append}
use Rattle.std.specs.List.{list_all}
use Rattle.std.specs.Prelude.{Option, Some, None, get_or, if◌then◌else◌, not, slice_range}
use Rattle.md_engine.specs.declared.event.Event.{Event}
use Rattle.md_engine.specs.declared.event.Kind.{Kind}
use Rattle.md_engine.specs.declared.event.Kind.TheVariants.{Enter, Exit}
use Rattle.md_engine.specs.declared.event.Name.{Name}
use Rattle.md_engine.specs.declared.event.Name.TheVariants as n
use Rattle.md_engine.specs.declared.event.Point.{Point}
use Rattle.md_meaning.specs.Texts.{first_byte}
use Rattle.md_meaning.specs.Containers.{is_bullet}
use Rattle.md_events.specs.Events.Nested.{Nested, enter, exit}
use Rattle.md_events.specs.Events.Spelled.{AsDigits, AsFootnoteLabel, AsItemMarker, FootnoteShape, ContainerRole}
use Rattle.md_events.specs.Events.Spelled.{IsEnding, IsPrefix, IsQuiet, IsQuoteMarker, ItemShape, OrderedShape, Role}
use Rattle.md_events.specs.Events.Spelled.{Shape, TextRole, UnorderedShape, byte_at, is_ordered, role, spelled}
use Rattle.md_containers.specs.ItemsHeld.{ItemsHeld}
use Rattle.md_containers.specs.ItemsAllowed as are_valid
use Rattle.md_containers.specs.ItemsAllowed.{AmongBlocks, InFront, InLabel, Inner, IsMarkerAt, ItemsAllowed, MayBegin}
use Rattle.md_containers.specs.ItemsAllowed.{MayEnd, MayBeHere, Site, inner_after, inner_in, is_list_marker, root}
use Rattle.md_containers.specs.ItemsAllowed.{site_after}
use Rattle.md_containers.specs.Listed.{Begins, Ends, Place, Stays, Turn, given, given_by, is_continued, is_item}
use Rattle.md_containers.specs.Listed.{list_begin, list_end, list_name, listed, listed_from, marker_ahead, marker_by}
use Rattle.md_containers.specs.Listed.{next_item, outside, place_after, place_following, turn}
use Rattle.md_containers.proofs.ListedKept.{by-turn}
use Rattle.md_containers.proofs.ListedLemmas.{passes-given}
use Rattle.md_containers.proofs.ListedNests.{listed-nested}
use Rattle.md_containers.proofs.ListedOpen.{list_shape, role-list}
use Rattle.md_containers.proofs.ListedPartSteps.{marker-text}
use Rattle.md_containers.proofs.ListedReads.{listed-spelled}
use Rattle.md_outline.specs.Between.{is_between}
use Rattle.md_outline.specs.HeadingDepths.{are_shallow}
use Rattle.md_outline.specs.LinesAllowed as lined
use Rattle.md_outline.specs.LinesAllowed.{LinesAllowed, site_by}
use Rattle.md_outline.specs.ListsBegin.{AllRecorded, AtItem, AtLabel, AtMarker, InMarker, ListsBegin, MayFollow, Stage}
use Rattle.md_outline.specs.ListsBegin.{marks, stage_by}
use Rattle.md_outline.specs.Outlined.{IsOutlined, IsUnlisted, OpenTextSpan, are_parted, has_shown_name, is_unparted}
use Rattle.md_outline.specs.Outlined.{parts_by, span_by, text_begins_between}
use Rattle.md_outline.specs.Roles.{is_shown, is_recorded}
use Rattle.md_outline.proofs.OutlineLemmas.{all-between, names-shown}
use Rattle.proof_container_laws.proofs.GroupedDepths.{grouped-shallow}

-- What holds of all events.

-- what holds of the begin and the end of a list where it holds of an event at this point
abbrev OfLists : (Event → Bool) → Type 0
OfLists P =
    (m : ℕ) (e : Event) → P e ≡ true →
    (P (enter (list_name m) e.point) ≡ true) × (P (exit (list_name m) e.point) ≡ true)

given-holds : (P : Event → Bool) (t : Turn) (place : Place) (marker : ℕ) (next : Option ℕ) (e : Event) → OfLists P →
    P e ≡ true → list_all P (given_by t place marker next e) ≡ true
given-holds P Begins place marker next e of h = go place.within
  where
    go : (x : Bool) → list_all P (list_begin x marker e.point ++ e ∷ []) ≡ true
    go true = and_from (P e) true h refl
    go false =
        and_from (P (enter (list_name marker) e.point)) (P e && true) (of marker e h).0 (and_from (P e) true h refl)
given-holds P Ends place marker next e of h = go place.markers
  where
    go : (markers : List ℕ) → list_all P (e ∷ list_end markers next e.point) ≡ true
    go [] = and_from (P e) true h refl
    go (m ∷ markers) = by (is_continued m next)
      where
        by : (x : Bool) → list_all P (e ∷ (if x then [] else exit (list_name m) e.point ∷ [])) ≡ true
        by true = and_from (P e) true h refl
        by false =
            and_from (P e) (P (exit (list_name m) e.point) && true) h
            (and_from (P (exit (list_name m) e.point)) true (of m e h).1 refl)
given-holds P Stays place marker next e of h = and_from (P e) true h refl

listed-holds : (P : Event → Bool) (bytes : List ℕ) (place : Place) (es : List Event) → OfLists P →
    list_all P es ≡ true → list_all P (listed_from bytes place es) ≡ true
listed-holds P bytes place [] of h = refl
listed-holds P bytes place (e ∷ es) of h =
    let parts = and_parts (P e) (list_all P es) h in
    let now : List Event = given bytes place e es in
    let rest : List Event = listed_from bytes (place_after bytes place e es) es in
    list_all-append P now rest
    ∙ and_from (list_all P now) (list_all P rest)
    (given-holds P (turn e.kind (role e.name)) place (marker_ahead bytes es) (next_item bytes es) e of parts.0)
    (listed-holds P bytes (place_after bytes place e es) es of parts.1)

-- a list is shown, and no text
list-shown : (m : ℕ) → is_shown (role (list_name m)) ≡ true
list-shown m = go (is_ordered m)
  where
    go : (x : Bool) → is_shown (role (if x then n.ListOrdered else n.ListUnordered)) ≡ true
    go true = refl
    go false = refl

list-untold : (bytes : List ℕ) (m : ℕ) (p : Point) →
    (not (is_recorded (role (list_name m))) || is_between bytes (byte_at p)) ≡ true
list-untold bytes m p = go (is_ordered m)
  where
    go : (x : Bool) →
        (not (is_recorded (role (if x then n.ListOrdered else n.ListUnordered))) || is_between bytes (byte_at p)) ≡ true
    go true = refl
    go false = refl

-- Texts that are parted.

-- a container begins and ends in no such text
holds-parted : (bytes : List ℕ) (kind : Kind) (shape : Shape) (p : Point) (span : Option OpenTextSpan) →
    parts_by bytes kind (ContainerRole shape) p span ≡ is_unparted span
holds-parted bytes Enter shape p None = refl
holds-parted bytes Exit shape p None = refl
holds-parted bytes Enter shape p (Some span) = refl
holds-parted bytes Exit shape p (Some span) = refl

same-span : (kind : Kind) (shape : Shape) (p : Point) (span : Option OpenTextSpan) →
    span_by kind (ContainerRole shape) p span ≡ span
same-span Enter shape p span = refl
same-span Exit shape p span = refl

holder-parted : (bytes : List ℕ) (kind : Kind) (x : Role) (shape : Shape) (p : Point) (span : Option OpenTextSpan)
    (es : List Event) → x ≡ ContainerRole shape → is_unparted span ≡ true → are_parted bytes span es ≡ true →
    (parts_by bytes kind x p span && are_parted bytes (span_by kind x p span) es) ≡ true
holder-parted bytes kind x shape p span es is h k =
    ap (λ (x : Role). parts_by bytes kind x p span && are_parted bytes (span_by kind x p span) es) is
    ∙ and_from (parts_by bytes kind (ContainerRole shape) p span)
    (are_parted bytes (span_by kind (ContainerRole shape) p span) es)
    (holds-parted bytes kind shape p span ∙ h)
    (ap (λ (s : Option OpenTextSpan). are_parted bytes s es) (same-span kind shape p span) ∙ k)

parted-kept : (bytes : List ℕ) (span : Option OpenTextSpan) (place : Place) (es : List Event) →
    are_parted bytes span es ≡ true → are_parted bytes span (listed_from bytes place es) ≡ true
parted-kept bytes span place [] h = h
parted-kept bytes span place (e ∷ es) h =
    by-turn
    (λ (kind : Kind) (name : Name).
    are_parted bytes span (record e { kind = kind; name = name } ∷ es) ≡ true →
    are_parted bytes span (listed_from bytes place (record e { kind = kind; name = name } ∷ es)) ≡ true)
    (λ k.
    let parts = and_parts (parts_by bytes Enter item e.point span) (are_parted bytes span es) k in
    begins place.within (sym (holds-parted bytes Enter (ItemShape 0 []) e.point span) ∙ parts.0)
    (parted-kept bytes span (record { within = false; markers = marker_ahead bytes es ∷ place.markers }) es parts.1))
    (λ k.
    let parts = and_parts (parts_by bytes Exit item e.point span) (are_parted bytes span es) k in
    let none : is_unparted span ≡ true = sym (holds-parted bytes Exit (ItemShape 0 []) e.point span) ∙ parts.0 in
    let rest : List Event = listed_from bytes (place_following place (next_item bytes es)) es in
    holder-parted bytes Exit item (ItemShape 0 []) e.point span
    (list_end place.markers (next_item bytes es) e.point ++ rest)
    refl none
    (ends place.markers rest none (parted-kept bytes span (place_following place (next_item bytes es)) es parts.1)))
    (passed (λ s. parted-kept bytes s place es))
    e.kind e.name h
  where
    item : Role
    item = ContainerRole (ItemShape 0 [])

    begins : (within : Bool) → is_unparted span ≡ true →
        are_parted bytes span
        (listed_from bytes (record { within = false; markers = marker_ahead bytes es ∷ place.markers }) es)
        ≡ true →
        are_parted bytes span
        ((list_begin within (marker_ahead bytes es) e.point ++ record e { kind = Enter; name = n.ListItem } ∷ [])
        ++ listed_from bytes (record { within = false; markers = marker_ahead bytes es ∷ place.markers }) es)
        ≡ true
    begins true none k =
        holder-parted bytes Enter item (ItemShape 0 []) e.point span
        (listed_from bytes (record { within = false; markers = marker_ahead bytes es ∷ place.markers }) es) refl none k
    begins false none k =
        holder-parted bytes Enter (role (list_name (marker_ahead bytes es))) (list_shape (marker_ahead bytes es))
        e.point span
        (record e { kind = Enter; name = n.ListItem }
        ∷ listed_from bytes (record { within = false; markers = marker_ahead bytes es ∷ place.markers }) es)
        (role-list (marker_ahead bytes es)) none
        (holder-parted bytes Enter item (ItemShape 0 []) e.point span
        (listed_from bytes (record { within = false; markers = marker_ahead bytes es ∷ place.markers }) es) refl none k)

    ends : (markers : List ℕ) (rest : List Event) → is_unparted span ≡ true → are_parted bytes span rest ≡ true →
        are_parted bytes span (list_end markers (next_item bytes es) e.point ++ rest) ≡ true
    ends [] rest none k = k
    ends (m ∷ markers) rest none k = by (is_continued m (next_item bytes es))
      where
        by : (x : Bool) →
            are_parted bytes span ((if x then [] else exit (list_name m) e.point ∷ []) ++ rest) ≡ true
        by true = k
        by false =
            holder-parted bytes Exit (role (list_name m)) (list_shape m) e.point span rest (role-list m) none k

    passed :
        ((s : Option OpenTextSpan) → are_parted bytes s es ≡ true →
        are_parted bytes s (listed_from bytes place es) ≡ true) →
        (kind : Kind) (name : Name) → is_item (role name) ≡ false →
        are_parted bytes span (record e { kind = kind; name = name } ∷ es) ≡ true →
        are_parted bytes span (listed_from bytes place (record e { kind = kind; name = name } ∷ es)) ≡ true
    passed go kind name i k =
        let next : Option OpenTextSpan = span_by kind (role name) e.point span in
        let parts = and_parts (parts_by bytes kind (role name) e.point span) (are_parted bytes next es) k in
        ap (are_parted bytes span) (passes-given bytes place (record e { kind = kind; name = name }) es i)
        ∙ and_from (parts_by bytes kind (role name) e.point span) (are_parted bytes next (listed_from bytes place es))
        parts.0 (go next parts.1)

-- Leaf blocks of several lines.

-- an item begins and ends outside of them
item-outside : (bytes : List ℕ) (site : lined.Site) (kind : Kind) (p : Point) →
    lined.MayBeHere bytes site kind (ContainerRole (ItemShape 0 [])) p → site ≡ lined.Outside
item-outside bytes lined.Outside kind p may = refl
item-outside bytes _ Enter p may = absurd may
item-outside bytes _ Exit p may = absurd may

-- and so may a list
list-outside : (bytes : List ℕ) (kind : Kind) (m : ℕ) (p : Point) (es : List Event) →
    LinesAllowed bytes lined.Outside es →
    lined.MayBeHere bytes lined.Outside kind (role (list_name m)) p
    × LinesAllowed bytes (site_by bytes lined.Outside kind (role (list_name m)) p) es
list-outside bytes kind m p es h = go kind (is_ordered m)
  where
    go : (kind : Kind) (x : Bool) →
        lined.MayBeHere bytes lined.Outside kind (role (if x then n.ListOrdered else n.ListUnordered)) p
        × LinesAllowed bytes
        (site_by bytes lined.Outside kind (role (if x then n.ListOrdered else n.ListUnordered)) p) es
    go Enter true = (tt, h)
    go Enter false = (tt, h)
    go Exit true = (tt, h)
    go Exit false = (tt, h)

lines-kept : (bytes : List ℕ) (site : lined.Site) (place : Place) (es : List Event) → LinesAllowed bytes site es →
    LinesAllowed bytes site (listed_from bytes place es)
lines-kept bytes site place [] h = h
lines-kept bytes site place (e ∷ es) h =
    by-turn
    (λ (kind : Kind) (name : Name).
    LinesAllowed bytes site (record e { kind = kind; name = name } ∷ es) →
    LinesAllowed bytes site (listed_from bytes place (record e { kind = kind; name = name } ∷ es)))
    (λ k.
    let out : site ≡ lined.Outside = item-outside bytes site Enter e.point k.0 in
    subst
    (λ (s : lined.Site).
    LinesAllowed bytes s (listed_from bytes place (record e { kind = Enter; name = n.ListItem } ∷ es)))
    (sym out)
    (begins place.within
    (lines-kept bytes lined.Outside inside es
    (subst (λ (s : lined.Site). LinesAllowed bytes (site_by bytes s Enter item e.point) es) out k.1))))
    (λ k.
    let out : site ≡ lined.Outside = item-outside bytes site Exit e.point k.0 in
    let following : Place = place_following place (next_item bytes es) in
    subst
    (λ (s : lined.Site).
    LinesAllowed bytes s (listed_from bytes place (record e { kind = Exit; name = n.ListItem } ∷ es)))
    (sym out) (
      tt,
      ends place.markers (listed_from bytes following es)
          (lines-kept bytes lined.Outside following es
          (subst (λ (s : lined.Site). LinesAllowed bytes (site_by bytes s Exit item e.point) es) out k.1)),
    ))
    (λ kind name i k.
    subst (LinesAllowed bytes site) (sym (passes-given bytes place (record e { kind = kind; name = name }) es i))
    (k.0, lines-kept bytes (site_by bytes site kind (role name) e.point) place es k.1))
    e.kind e.name h
  where
    item : Role
    item = ContainerRole (ItemShape 0 [])

    inside : Place
    inside = record { within = false; markers = marker_ahead bytes es ∷ place.markers }

    begins : (within : Bool) → LinesAllowed bytes lined.Outside (listed_from bytes inside es) →
        LinesAllowed bytes lined.Outside
        ((list_begin within (marker_ahead bytes es) e.point ++ record e { kind = Enter; name = n.ListItem } ∷ [])
        ++ listed_from bytes inside es)
    begins true k = (tt, k)
    begins false k =
        list-outside bytes Enter (marker_ahead bytes es) e.point
        (record e { kind = Enter; name = n.ListItem } ∷ listed_from bytes inside es) (tt, k)

    ends : (markers : List ℕ) (rest : List Event) → LinesAllowed bytes lined.Outside rest →
        LinesAllowed bytes lined.Outside (list_end markers (next_item bytes es) e.point ++ rest)
    ends [] rest k = k
    ends (m ∷ markers) rest k = by (is_continued m (next_item bytes es))
      where
        by : (x : Bool) →
            LinesAllowed bytes lined.Outside ((if x then [] else exit (list_name m) e.point ∷ []) ++ rest)
        by true = k
        by false = list-outside bytes Exit m e.point rest k

-- Lists begin with an item that begins with its marker, and footnote definitions with their label.

-- what is to come of a list or a footnote definition, by what is innermost and the marker ahead
abbrev IsAt : List ℕ → Stage → Inner → ℕ → Type 0
IsAt bytes AllRecorded InLabel ahead = ⊥
IsAt bytes AllRecorded inner ahead = Unit {0}
IsAt bytes AtLabel InLabel ahead = Unit {0}
IsAt bytes (AtMarker shape) InFront ahead = shape ≡ list_shape ahead
IsAt bytes (InMarker shape p) (are_valid.InMarker q) ahead =
    (p ≡ q) × IsMarkerAt bytes q × (shape ≡ list_shape (get_or bytes q.index 0))
IsAt bytes _ _ ahead = ⊥

-- no event is of a list, and the label of a footnote definition is before its blocks alone
recorded-passed : (bytes : List ℕ) (held : List Bool) (inner : Inner) (kind : Kind) (x : Role) (p : Point)
    (ahead following : ℕ) → MayBeHere bytes (record { held = held; inner = inner }) kind x p →
    IsAt bytes AllRecorded inner ahead →
    MayFollow bytes AllRecorded kind x p
    × IsAt bytes (stage_by AllRecorded kind x p)
    (site_after (record { held = held; inner = inner }) kind x p).inner following
recorded-passed bytes held InLabel kind x p ahead following may at = absurd at
recorded-passed bytes held _ Enter (TextRole AsFootnoteLabel) p ahead following may at = absurd may
recorded-passed bytes held _ Exit (TextRole AsFootnoteLabel) p ahead following may at = absurd may
recorded-passed bytes held AmongBlocks Enter (ContainerRole (FootnoteShape label)) p ahead following may at = (tt, tt)
recorded-passed bytes held _ Enter (ContainerRole (FootnoteShape label)) p ahead following may at = absurd may
recorded-passed bytes held _ Enter (ContainerRole OrderedShape) p ahead following may at = absurd may
recorded-passed bytes held _ Enter (ContainerRole UnorderedShape) p ahead following may at = absurd may
recorded-passed bytes held _ Enter _ p ahead following may at = (tt, tt)
recorded-passed bytes held _ Exit _ p ahead following may at = (tt, tt)

-- the byte at a marker is one of the list that it names
marks-shape : (b : ℕ) → is_list_marker b ≡ true → marks (list_shape b) b ≡ true
marks-shape b h = go (is_ordered b) refl
  where
    go : (x : Bool) → is_ordered b ≡ x → marks (cond x OrderedShape UnorderedShape) b ≡ true
    go true e = e
    go false e = sym (ap (λ (x : Bool). x || is_bullet b) e) ∙ h

marker-marks : (bytes : List ℕ) (shape : Shape) (p from q : Point) → from ≡ q → IsMarkerAt bytes q →
    shape ≡ list_shape (get_or bytes q.index 0) → p.index ≡ q.index + 1 →
    marks shape (first_byte (slice_range bytes (byte_at from) p.index)) ≡ true
marker-marks bytes shape p from q same at is one =
    ap (λ (q : Point). marks shape (first_byte (slice_range bytes (byte_at q) p.index))) same
    ∙ ap (marks shape) (marker-text bytes p q at.whole one)
    ∙ ap (λ (s : Shape). marks s (get_or bytes q.index 0)) is ∙ marks-shape (get_or bytes q.index 0) at.marker

-- an event of no item
at-passed : (bytes : List ℕ) (stage : Stage) (held : List Bool) (inner : Inner) (kind : Kind) (x : Role) (p : Point)
    (following : ℕ) → MayBeHere bytes (record { held = held; inner = inner }) kind x p → is_item x ≡ false →
    IsAt bytes stage inner (marker_by kind x (get_or bytes p.index 0) following) →
    MayFollow bytes stage kind x p ×
    IsAt bytes (stage_by stage kind x p) (site_after (record { held = held; inner = inner }) kind x p).inner following
at-passed bytes AllRecorded held inner kind x p following may passes at =
    recorded-passed bytes held inner kind x p (marker_by kind x (get_or bytes p.index 0) following) following may at
at-passed bytes AtLabel held InLabel Enter IsPrefix p following may passes at = (tt, tt)
at-passed bytes AtLabel held InLabel Exit IsPrefix p following may passes at = (tt, tt)
at-passed bytes AtLabel held InLabel Enter IsQuoteMarker p following may passes at = (tt, tt)
at-passed bytes AtLabel held InLabel Exit IsQuoteMarker p following may passes at = (tt, tt)
at-passed bytes AtLabel held InLabel Enter IsEnding p following may passes at = (tt, tt)
at-passed bytes AtLabel held InLabel Exit IsEnding p following may passes at = (tt, tt)
at-passed bytes AtLabel held InLabel Enter IsQuiet p following may passes at = (tt, tt)
at-passed bytes AtLabel held InLabel Exit IsQuiet p following may passes at = (tt, tt)
at-passed bytes AtLabel held InLabel Enter (TextRole AsFootnoteLabel) p following may passes at = (tt, tt)
at-passed bytes AtLabel held InLabel Exit (TextRole AsFootnoteLabel) p following may passes at = (tt, tt)
at-passed bytes AtLabel held InLabel _ _ p following may passes at = absurd may
at-passed bytes (AtMarker shape) held InFront Enter IsQuiet p following may passes at = (tt, at)
at-passed bytes (AtMarker shape) held InFront Exit IsQuiet p following may passes at = (tt, at)
at-passed bytes (AtMarker shape) held InFront Enter (TextRole AsDigits) p following may passes at = (tt, at)
at-passed bytes (AtMarker shape) held InFront Exit (TextRole AsDigits) p following may passes at = (tt, at)
at-passed bytes (AtMarker shape) held InFront Enter (TextRole AsItemMarker) p following may passes at =
    (tt, (refl, may, at))
at-passed bytes (AtMarker shape) held InFront _ _ p following may passes at = absurd may
at-passed bytes (InMarker shape q) held (are_valid.InMarker r) Exit (TextRole AsItemMarker) p following may passes at =
    (marker-marks bytes shape p q r at.0 at.1 at.2 may, tt)
at-passed bytes (InMarker shape q) held (are_valid.InMarker r) _ _ p following may passes at = absurd may
at-passed bytes _ held _ kind x p following may passes at = absurd at

-- where an item begins or ends, no marker is to come
at-item : (bytes : List ℕ) (stage : Stage) (held : List Bool) (inner : Inner) (kind : Kind) (p : Point) (ahead : ℕ) →
    MayBeHere bytes (record { held = held; inner = inner }) kind (ContainerRole (ItemShape 0 [])) p →
    IsAt bytes stage inner ahead →
    AllRecorded ≡ stage
at-item bytes AllRecorded held inner kind p ahead may at = refl
at-item bytes AtLabel held InLabel Enter p ahead may at = absurd may
at-item bytes AtLabel held InLabel Exit p ahead may at = absurd may
at-item bytes (AtMarker shape) held InFront Enter p ahead may at = absurd may
at-item bytes (AtMarker shape) held InFront Exit p ahead may at = absurd may
at-item bytes (InMarker shape q) held (are_valid.InMarker r) Enter p ahead may at = absurd may
at-item bytes (InMarker shape q) held (are_valid.InMarker r) Exit p ahead may at = absurd may
at-item bytes _ held _ kind p ahead may at = absurd at

in-front : (bytes : List ℕ) (inner : Inner) (p : Point) → MayBegin bytes p inner (ContainerRole (ItemShape 0 [])) →
    InFront ≡ inner_in p inner (ContainerRole (ItemShape 0 []))
in-front bytes AmongBlocks p may = refl
in-front bytes _ p may = absurd may

item-ends : (bytes : List ℕ) (held : List Bool) (inner : Inner) (p : Point) (ahead : ℕ) →
    MayEnd held p inner (ContainerRole (ItemShape 0 [])) →
    IsAt bytes AllRecorded (inner_after inner (ContainerRole (ItemShape 0 []))) ahead
item-ends bytes held AmongBlocks p ahead may = tt
item-ends bytes held _ p ahead may = absurd may

-- the begin and the end of a list
list-follows : (bytes : List ℕ) (m : ℕ) (kind : Kind) (p : Point) →
    MayFollow bytes AllRecorded kind (role (list_name m)) p
list-follows bytes m kind p = go kind (is_ordered m)
  where
    go : (kind : Kind) (x : Bool) →
        MayFollow bytes AllRecorded kind (role (if x then n.ListOrdered else n.ListUnordered)) p
    go Enter true = tt
    go Enter false = tt
    go Exit true = tt
    go Exit false = tt

list-stage : (m : ℕ) (p : Point) → AtItem (list_shape m) ≡ stage_by AllRecorded Enter (role (list_name m)) p
list-stage m p = go (is_ordered m)
  where
    go : (x : Bool) → AtItem (if x then OrderedShape else UnorderedShape)
        ≡ stage_by AllRecorded Enter (role (if x then n.ListOrdered else n.ListUnordered)) p
    go true = refl
    go false = refl

lists-begun : (bytes : List ℕ) (stage : Stage) (site : Site) (place : Place) (es : List Event) →
    ItemsAllowed bytes site es → IsAt bytes stage site.inner (marker_ahead bytes es) →
    ListsBegin bytes stage (listed_from bytes place es)
lists-begun bytes stage site place [] valid at = tt
lists-begun bytes stage site place (e ∷ es) valid at =
    by-turn
    (λ (kind : Kind) (name : Name).
    ItemsAllowed bytes site (record e { kind = kind; name = name } ∷ es) →
    IsAt bytes stage site.inner (marker_ahead bytes (record e { kind = kind; name = name } ∷ es)) →
    ListsBegin bytes stage (listed_from bytes place (record e { kind = kind; name = name } ∷ es)))
    (λ valid at.
    subst
    (λ (s : Stage). ListsBegin bytes s (listed_from bytes place (record e { kind = Enter; name = n.ListItem } ∷ es)))
    (at-item bytes stage site.held site.inner Enter e.point 0 valid.0 at)
    (begins place.within valid.0
    (λ (s : Stage) (k : IsAt bytes s (inner_in e.point site.inner item) (marker_ahead bytes es)).
    lists-begun bytes s (site_after site Enter item e.point) inside es valid.1 k)))
    (λ valid at.
    subst
    (λ (s : Stage). ListsBegin bytes s (listed_from bytes place (record e { kind = Exit; name = n.ListItem } ∷ es)))
    (at-item bytes stage site.held site.inner Exit e.point 0 valid.0 at) (
      tt,
      ends place.markers (listed_from bytes (place_following place (next_item bytes es)) es)
          (lists-begun bytes AllRecorded (site_after site Exit item e.point)
          (place_following place (next_item bytes es)) es
          valid.1 (item-ends bytes site.held site.inner e.point (marker_ahead bytes es) valid.0)),
    ))
    (λ kind name i valid at.
    let now =
    at-passed bytes stage site.held site.inner kind (role name) e.point (marker_ahead bytes es) valid.0 i at in
    subst (ListsBegin bytes stage) (sym (passes-given bytes place (record e { kind = kind; name = name }) es i)) (
      now.0,
      lists-begun bytes (stage_by stage kind (role name) e.point) (site_after site kind (role name) e.point) place es
          valid.1 now.1,
    ))
    e.kind e.name valid at
  where
    item : Role
    item = ContainerRole (ItemShape 0 [])

    inside : Place
    inside = record { within = false; markers = marker_ahead bytes es ∷ place.markers }

    begins : (within : Bool) → MayBegin bytes e.point site.inner (ContainerRole (ItemShape 0 [])) →
        ((s : Stage) →
        IsAt bytes s (inner_in e.point site.inner (ContainerRole (ItemShape 0 []))) (marker_ahead bytes es) →
        ListsBegin bytes s (listed_from bytes inside es)) →
        ListsBegin bytes AllRecorded
        ((list_begin within (marker_ahead bytes es) e.point ++ record e { kind = Enter; name = n.ListItem } ∷ [])
        ++ listed_from bytes inside es)
    begins true may go = (
      tt,
      go AllRecorded
          (subst (λ (inner : Inner). IsAt bytes AllRecorded inner (marker_ahead bytes es))
          (in-front bytes site.inner e.point may) tt),
    )
    begins false may go = (
      list-follows bytes (marker_ahead bytes es) Enter e.point,
      subst
          (λ (s : Stage).
          ListsBegin bytes s (record e { kind = Enter; name = n.ListItem } ∷ listed_from bytes inside es))
          (list-stage (marker_ahead bytes es) e.point) (
            refl,
            go (AtMarker (list_shape (marker_ahead bytes es)))
                (subst
                (λ (inner : Inner).
                IsAt bytes (AtMarker (list_shape (marker_ahead bytes es))) inner (marker_ahead bytes es))
                (in-front bytes site.inner e.point may) refl),
          ),
    )

    ends : (markers : List ℕ) (rest : List Event) → ListsBegin bytes AllRecorded rest →
        ListsBegin bytes AllRecorded (list_end markers (next_item bytes es) e.point ++ rest)
    ends [] rest k = k
    ends (m ∷ markers) rest k = by (is_continued m (next_item bytes es))
      where
        by : (x : Bool) → ListsBegin bytes AllRecorded ((if x then [] else exit (list_name m) e.point ∷ []) ++ rest)
        by true = k
        by false = (list-follows bytes m Exit e.point, k)

-- All of it.

-- events with lists around their items may be outlined
pub listed-outlined : (bytes : List ℕ) (events : List Event) → IsUnlisted events bytes →
    ItemsAllowed bytes root events →
    Nested events → ItemsHeld [] events → are_shallow (spelled events bytes) ≡ true →
    IsOutlined (listed bytes events) bytes
listed-outlined bytes events is valid nested held depths = record {
  balanced = (listed-nested bytes events nested held).balanced;
  names =
      listed-holds has_shown_name bytes outside events (λ m e h. (list-shown m, list-shown m))
      (names-shown events is.names);
  text = is.text;
  between =
      all-between bytes (listed bytes events)
      (listed-holds (λ (e : Event). is_between bytes e.point.index) bytes outside events (λ m e h. (h, h)) is.between);
  texts =
      listed-holds (text_begins_between bytes) bytes outside events
      (λ m e h. (list-untold bytes m e.point, list-untold bytes m e.point)) is.texts;
  parted = parted-kept bytes None outside events is.parted;
  lists = lists-begun bytes AllRecorded root outside events valid tt;
  lines = lines-kept bytes lined.Outside outside events is.lines;
  depths =
      ap are_shallow (listed-spelled bytes events valid) ∙ grouped-shallow (spelled events bytes) depths;
}
