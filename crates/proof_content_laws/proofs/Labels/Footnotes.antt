-- The labels of footnote definitions among events that may be as blocks do (`ItemsAllowed`) are those of the tree that
-- these spell out: each footnote definition begins with its label, which no container prefix parts.
use Rattle.std.proofs.Common.{◌≡◌, ◌⊎◌, inl, inr, ℕ, Bool, true, false, cond, ◌&&◌, not, List, [], ◌∷◌, ◌++◌, refl, ap}
use Rattle.std.proofs.Common.{ap₂, sym, ◌∙◌, append_assoc, append-nil, subst, slice_range}
use Rattle.std.specs.Prelude.{nat_lt, length, Option, Some, None}
use Rattle.std.proofs.lemmas.Bool.{and_parts}
use Rattle.md_engine.specs.declared.event.Event.{Event}
use Rattle.md_engine.specs.declared.event.Kind.{Kind}
use Rattle.md_engine.specs.declared.event.Kind.TheVariants.{Enter, Exit}
use Rattle.md_engine.specs.declared.event.Name.{Name}
use Rattle.md_engine.specs.declared.event.Name.TheVariants as n
use Rattle.md_engine.specs.declared.event.Point.{Point}
use Rattle.md_containers.specs.ItemsAllowed.{AmongBlocks, InFront, InLabel, InLeaf, InMarker, InText, Inner, IsBetween}
use Rattle.md_containers.specs.ItemsAllowed.{IsOfLeaf, ItemsAllowed, MayBegin, MayEnd, MayBeHere, Site}
use Rattle.md_containers.specs.ItemsAllowed.{inner_after, inner_in, root, site_after}
use Rattle.md_content.specs.FootnoteLabels.{footnote_labels_from, footnote_labels_in, is_footnote_label}
use Rattle.md_meaning.specs.Label.{normal_form}
use Rattle.md_meaning.specs.Tree.{Blocks, End}
use Rattle.md_outline.specs.Outlined.{OpenTextSpan, are_parted, parts_by, span_by}
use Rattle.md_events.specs.Events.Nested.{Fits, Matches, is_enter, is_exit, open_following}
use Rattle.md_events.specs.Events.Spelled.{AsDigits, AsFootnoteLabel, AsItemMarker, AsParagraph, OpenContainer}
use Rattle.md_events.specs.Events.Spelled.{FootnoteShape, ContainerRole, IsEnding, IsPrefix, IsQuiet, IsQuoteMarker}
use Rattle.md_events.specs.Events.Spelled.{ItemShape, OpenLeaf, LeafRole, OrderedShape, Purpose, QuoteShape, Reading}
use Rattle.md_events.specs.Events.Spelled.{Role, Shape, TextRole, Text, UnorderedShape, at_ending, block_around}
use Rattle.md_events.specs.Events.Spelled.{block_of, byte_at, finished, left, named, on_leaf, on_shape, read, read_by}
use Rattle.md_events.specs.Events.Spelled.{role, spelled, text_to, recorded_at, BareLeaf, CodeLeaf, DefinitionLeaf}
use Rattle.md_events.specs.Events.Spelled.{FenceLeaf, FrontmatterLeaf, HeadingAtxLeaf, HeadingSetextLeaf, HtmlLeaf}
use Rattle.md_events.specs.Events.Spelled.{MathLeaf, TableLeaf, is_before_blocks, kind_at, next_line, unread, with_kind}
use Rattle.md_meaning.specs.declared.alert.AlertKind.{AlertKind}
use Rattle.proof_content_laws.proofs.Labels.Trees.{noted-then, noted_by, noted_in}

-- The labels of what was read so far, from the outermost container in; that of the innermost is before its blocks.

abbrev shape_notes : Shape → List (List ℕ)
shape_notes (FootnoteShape label) = normal_form (label ∷ []) ∷ []
shape_notes _ = []

abbrev outer_notes : List OpenContainer → List (List ℕ)
outer_notes [] = []
outer_notes (a ∷ outer) = (outer_notes outer ++ noted_in a.before) ++ shape_notes a.shape

abbrev read_notes : Reading → List (List ℕ)
read_notes r = outer_notes r.outer ++ noted_in r.here

-- without that of the innermost, which is not read yet
abbrev before_notes : List OpenContainer → List (List ℕ)
before_notes [] = []
before_notes (a ∷ outer) = outer_notes outer ++ noted_in a.before

abbrev notes : Inner → Reading → List (List ℕ)
notes InLabel r = before_notes r.outer
notes _ r = read_notes r

-- What the events of a label do.

abbrev own_by : List ℕ → Kind → Role → Point → ℕ → List (List ℕ)
own_by bytes Exit (TextRole AsFootnoteLabel) p from = normal_form (slice_range bytes from p.index ∷ []) ∷ []
own_by bytes _ _ p from = []

abbrev from_by : Kind → Role → Point → ℕ → ℕ
from_by Enter (TextRole AsFootnoteLabel) p from = byte_at p
from_by _ _ p from = from

abbrev is_label_role : Role → Bool
is_label_role (TextRole AsFootnoteLabel) = true
is_label_role _ = false

-- each name is tested
label-role : (name : Name) → is_footnote_label name ≡ is_label_role (role name)
label-role n.GfmFootnoteDefinitionLabelString = refl
label-role _ = refl

labels-step : (bytes : List ℕ) (from : ℕ) (e : Event) (es : List Event) →
    footnote_labels_from bytes from (e ∷ es) ≡
    own_by bytes e.kind (role e.name) e.point from
    ++ footnote_labels_from bytes (from_by e.kind (role e.name) e.point from) es
labels-step bytes from e es =
    ap
    (λ (x : Bool).
    cond (is_enter e.kind && x) (footnote_labels_from bytes (byte_at e.point) es)
    (cond (is_exit e.kind && x)
    (normal_form (slice_range bytes from e.point.index ∷ []) ∷ footnote_labels_from bytes from es)
    (footnote_labels_from bytes from es))) (label-role e.name)
    ∙ go e.kind (role e.name)
  where
    go : (kind : Kind) (x : Role) →
        cond (is_enter kind && is_label_role x) (footnote_labels_from bytes (byte_at e.point) es)
        (cond (is_exit kind && is_label_role x)
        (normal_form (slice_range bytes from e.point.index ∷ []) ∷ footnote_labels_from bytes from es)
        (footnote_labels_from bytes from es)) ≡
        own_by bytes kind x e.point from ++ footnote_labels_from bytes (from_by kind x e.point from) es
    go Enter (TextRole AsFootnoteLabel) = refl
    go Exit (TextRole AsFootnoteLabel) = refl
    go Enter _ = refl
    go Exit _ = refl

-- a footnote definition that begins has no label yet
fresh-label : (name : Name) (label : List ℕ) → role name ≡ ContainerRole (FootnoteShape label) → label ≡ []
fresh-label n.GfmFootnoteDefinition label e = cc
fresh-label _ label e = cc

-- Where a label is to come: what is open in its footnote definition is no label,
abbrev Above : Role → Type 0 → Type 0
Above (ContainerRole shape) T = Unit {0}
Above (TextRole purpose) T = ⊥
Above _ T = T

abbrev Unbegun : List Name → Type 0
Unbegun [] = ⊥
Unbegun (name ∷ names) = Above (role name) (Unbegun names)

-- or it has begun at this byte, and what is read of it is a text that a prefix parts, or begins there, with no prefix
-- open in it
abbrev Pure : Role → Type 0 → Type 0
Pure (TextRole purpose) T = Unit {0}
Pure IsEnding T = T
Pure IsQuiet T = T
Pure IsQuoteMarker T = T
Pure _ T = ⊥

abbrev Unparted : List Name → Type 0
Unparted [] = ⊥
Unparted (name ∷ names) = Pure (role name) (Unparted names)

abbrev BeginsAt : List Name → ℕ → Option Text → Type 0
BeginsAt names from text = Unparted names × (t : Text) × (text ≡ Some t) × (t.front ≡ []) × (t.from ≡ from)

abbrev IsBegun : List Name → Option OpenTextSpan → ℕ → Option Text → Type 0
IsBegun names span from text =
    (s : OpenTextSpan) × (span ≡ Some s) × ((s.is_parted ≡ true) ⊎ BeginsAt names from text)

abbrev IsAt : Inner → List Name → Option OpenTextSpan → ℕ → Reading → Type 0
IsAt InLabel names span from r =
    (before : Blocks) × (outer : List OpenContainer)
    × (r.outer ≡ record { shape = FootnoteShape []; before = before } ∷ outer) × (r.here ≡ End)
    × (Unbegun names ⊎ IsBegun names span from r.text)
IsAt _ names span from r = Unit {0}

-- What one event does.
abbrev Stepped : List ℕ → Kind → Name → Role → Point → Inner → Inner → List Name → Option OpenTextSpan → ℕ → Reading →
    Type 0
Stepped bytes kind name x p inner following names span from r =
    (recorded : notes inner r ++ own_by bytes kind x p from ≡ notes following (read_by bytes kind x p r))
    × IsAt following (open_following names kind name) (span_by kind x p span) (from_by kind x p from)
    (read_by bytes kind x p r)

-- nothing, where neither a container nor a block begins or ends
still : (bytes : List ℕ) (r s : Reading) → s.outer ≡ r.outer → s.here ≡ r.here → read_notes r ++ [] ≡ read_notes s
still bytes r s outer here =
    append-nil (read_notes r)
    ∙ ap₂ (λ (l : List OpenContainer) (bs : Blocks). outer_notes l ++ noted_in bs) (sym outer) (sym here)

ending-outer : (bytes : List ℕ) (p : Point) (text : Option Text) (r : Reading) →
    (outer : (at_ending bytes p text r).outer ≡ r.outer) × ((at_ending bytes p text r).here ≡ r.here)
ending-outer bytes p (Some text) r = (refl, refl)
ending-outer bytes p None r = go (nat_lt p.index (length bytes))
  where
    go : (x : Bool) →
        (outer : (cond x (on_leaf next_line r) r).outer ≡ r.outer)
        × ((cond x (on_leaf next_line r) r).here ≡ r.here)
    go true = (refl, refl)
    go false = (refl, refl)

-- a text of a leaf block ends
leaf-recorded : (bytes : List ℕ) (purpose : Purpose) (p : Point) (text : Option Text) (r : Reading) → IsOfLeaf purpose →
    (outer : (recorded_at bytes purpose p text r).outer ≡ r.outer)
    × ((recorded_at bytes purpose p text r).here ≡ r.here)
leaf-recorded bytes purpose p None r of = (refl, refl)
leaf-recorded bytes AsParagraph p (Some text) r of = absurd of
leaf-recorded bytes AsDigits p (Some text) r of = absurd of
leaf-recorded bytes AsItemMarker p (Some text) r of = absurd of
leaf-recorded bytes AsFootnoteLabel p (Some text) r of = absurd of
leaf-recorded bytes _ p (Some text) r of = (refl, refl)

-- and one of an item
named-notes : (purpose : Purpose) (text : List ℕ) (shape : Shape) →
    shape_notes (named purpose text shape) ≡ shape_notes shape ⊎ (purpose ≡ AsFootnoteLabel)
named-notes AsFootnoteLabel text shape = inr refl
named-notes AsDigits text (ItemShape marker digits) = inl refl
named-notes AsItemMarker text (ItemShape marker digits) = inl refl
named-notes _ text shape = inl refl

item-notes : (purpose : Purpose) (text : List ℕ) (outer : List OpenContainer) → (purpose ≡ AsFootnoteLabel → ⊥) →
    outer_notes (on_shape (named purpose text) outer) ≡ outer_notes outer
item-notes purpose text [] other = refl
item-notes purpose text (a ∷ outer) other = go (named-notes purpose text a.shape)
  where
    go : shape_notes (named purpose text a.shape) ≡ shape_notes a.shape ⊎ (purpose ≡ AsFootnoteLabel) →
        outer_notes (on_shape (named purpose text) (a ∷ outer)) ≡ outer_notes (a ∷ outer)
    go (inl same) = ap (λ (l : List (List ℕ)). (outer_notes outer ++ noted_in a.before) ++ l) same
    go (inr is) = absurd (other is)

digits-recorded : (bytes : List ℕ) (p : Point) (text : Option Text) (r : Reading) →
    read_notes r ++ [] ≡ read_notes (recorded_at bytes AsDigits p text r)
digits-recorded bytes p None r = append-nil (read_notes r)
digits-recorded bytes p (Some text) r =
    append-nil (read_notes r)
    ∙ ap (λ (l : List (List ℕ)). l ++ noted_in r.here)
    (sym (item-notes AsDigits (text_to bytes p.index text) r.outer (λ e. cc)))

marker-recorded : (bytes : List ℕ) (p : Point) (text : Option Text) (r : Reading) →
    read_notes r ++ [] ≡ read_notes (recorded_at bytes AsItemMarker p text r)
marker-recorded bytes p None r = append-nil (read_notes r)
marker-recorded bytes p (Some text) r =
    append-nil (read_notes r)
    ∙ ap (λ (l : List (List ℕ)). l ++ noted_in r.here)
    (sym (item-notes AsItemMarker (text_to bytes p.index text) r.outer (λ e. cc)))

-- a marker gives a quote its kind
kind-notes : (kind : Option AlertKind) (shape : Shape) → shape_notes (with_kind kind shape) ≡ shape_notes shape
kind-notes None shape = refl
kind-notes (Some kind) (QuoteShape None) = refl
kind-notes (Some kind) (QuoteShape (Some k)) = refl
kind-notes (Some kind) _ = refl

outer-kind : (kind : Option AlertKind) (outer : List OpenContainer) →
    outer_notes (on_shape (with_kind kind) outer) ≡ outer_notes outer
outer-kind kind [] = refl
outer-kind kind (a ∷ outer) =
    ap (λ (l : List (List ℕ)). (outer_notes outer ++ noted_in a.before) ++ l) (kind-notes kind a.shape)

abbrev marked : List ℕ → Point → Bool → Reading → Reading
marked bytes p x r = cond x (record r { outer = on_shape (with_kind (kind_at bytes p.index)) r.outer }) r

quote-recorded : (bytes : List ℕ) (p : Point) (r : Reading) →
    read_notes r ++ [] ≡ read_notes (read_by bytes Enter IsQuoteMarker p r)
quote-recorded bytes p r = append-nil (read_notes r) ∙ sym (go (is_before_blocks r.text r.leaf r.here))
  where
    go : (x : Bool) → read_notes (marked bytes p x r) ≡ read_notes r
    go true = ap (λ (l : List (List ℕ)). l ++ noted_in r.here) (outer-kind (kind_at bytes p.index) r.outer)
    go false = refl

-- and none to a footnote definition
footnote-kind : (kind : Option AlertKind) (a : OpenContainer) (label : List ℕ) (outer : List OpenContainer) →
    a.shape ≡ FootnoteShape label → on_shape (with_kind kind) (a ∷ outer) ≡ a ∷ outer
footnote-kind kind a label outer is =
    ap (λ (shape : Shape). record a { shape = shape } ∷ outer) (ap (with_kind kind) is ∙ go kind ∙ sym is)
  where
    go : (kind : Option AlertKind) → with_kind kind (FootnoteShape label) ≡ FootnoteShape label
    go None = refl
    go (Some k) = refl

quote-same : (bytes : List ℕ) (p : Point) (r : Reading) (label : List ℕ) (before : Blocks)
    (outer : List OpenContainer) →
    r.outer ≡ record { shape = FootnoteShape label; before = before } ∷ outer →
    read_by bytes Enter IsQuoteMarker p r ≡ r
quote-same bytes p r label before outer is = go (is_before_blocks r.text r.leaf r.here)
  where
    kind : Option AlertKind
    kind = kind_at bytes p.index

    go : (x : Bool) → marked bytes p x r ≡ r
    go true =
        ap (λ (l : List OpenContainer). record r { outer = l })
        (ap (on_shape (with_kind kind)) is
        ∙ footnote-kind kind (record { shape = FootnoteShape label; before = before }) label outer refl ∙ sym is)
    go false = refl

-- a paragraph ends
paragraph-recorded : (bytes : List ℕ) (p : Point) (text : Option Text) (r : Reading) →
    read_notes r ++ [] ≡ read_notes (recorded_at bytes AsParagraph p text r)
paragraph-recorded bytes p None r = append-nil (read_notes r)
paragraph-recorded bytes p (Some text) r =
    append-nil (read_notes r)
    ∙ ap (λ (l : List (List ℕ)). outer_notes r.outer ++ l) (sym (noted-then r.here _ ∙ append-nil (noted_in r.here)))

-- a leaf block ends
leaf-unnoted : (leaf : OpenLeaf) → noted_by (block_of leaf) ≡ []
leaf-unnoted (FrontmatterLeaf fences) = refl
leaf-unnoted (HeadingAtxLeaf heading) = refl
leaf-unnoted (HeadingSetextLeaf heading) = refl
leaf-unnoted (BareLeaf word) = refl
leaf-unnoted (CodeLeaf lines) = refl
leaf-unnoted (FenceLeaf fences info meta) = refl
leaf-unnoted (MathLeaf fences meta) = refl
leaf-unnoted (HtmlLeaf lines) = refl
leaf-unnoted (DefinitionLeaf definition) = refl
leaf-unnoted (TableLeaf table) = refl

leaf-finished : (leaf : Option OpenLeaf) (r : Reading) → read_notes r ++ [] ≡ read_notes (finished leaf r)
leaf-finished None r = append-nil (read_notes r)
leaf-finished (Some leaf) r =
    append-nil (read_notes r)
    ∙ ap (λ (l : List (List ℕ)). outer_notes r.outer ++ l)
    (sym
    (noted-then r.here (block_of leaf) ∙ ap (λ (l : List (List ℕ)). noted_in r.here ++ l) (leaf-unnoted leaf)
    ∙ append-nil (noted_in r.here)))

-- a container ends
around-notes : (shape : Shape) (bs : Blocks) → noted_by (block_around shape bs) ≡ shape_notes shape ++ noted_in bs
around-notes (QuoteShape alert) bs = refl
around-notes OrderedShape bs = refl
around-notes UnorderedShape bs = refl
around-notes (ItemShape marker digits) bs = refl
around-notes (FootnoteShape label) bs = refl

container-left : (outer : List OpenContainer) (r : Reading) → r.outer ≡ outer →
    read_notes r ++ [] ≡ read_notes (left outer r)
container-left [] r e = append-nil (read_notes r)
container-left (a ∷ outer) r e =
    append-nil (read_notes r)
    ∙ ap (λ (l : List OpenContainer). outer_notes l ++ noted_in r.here) e
    ∙ append_assoc (outer_notes outer ++ noted_in a.before) (shape_notes a.shape) (noted_in r.here)
    ∙ append_assoc (outer_notes outer) (noted_in a.before) (shape_notes a.shape ++ noted_in r.here)
    ∙ ap (λ (l : List (List ℕ)). outer_notes outer ++ (noted_in a.before ++ l)) (sym (around-notes a.shape r.here))
    ∙ ap (λ (l : List (List ℕ)). outer_notes outer ++ l) (sym (noted-then a.before (block_around a.shape r.here)))

-- Each place.

among-begins : (bytes : List ℕ) (name : Name) (x : Role) (p : Point) (names : List Name) (span : Option OpenTextSpan)
    (from : ℕ) (r : Reading) → role name ≡ x → MayBegin bytes p AmongBlocks x →
    Stepped bytes Enter name x p AmongBlocks (inner_in p AmongBlocks x) names span from r
among-begins bytes name (ContainerRole (QuoteShape alert)) p names span from r e may =
    (append-nil (read_notes r) ∙ sym (append-nil (read_notes r)) ∙ sym (append-nil (read_notes r ++ [])), tt)
among-begins bytes name (ContainerRole OrderedShape) p names span from r e may = absurd may
among-begins bytes name (ContainerRole UnorderedShape) p names span from r e may = absurd may
among-begins bytes name (ContainerRole (ItemShape marker digits)) p names span from r e may =
    (append-nil (read_notes r) ∙ sym (append-nil (read_notes r)) ∙ sym (append-nil (read_notes r ++ [])), tt)
among-begins bytes name (ContainerRole (FootnoteShape label)) p names span from r e may = (
  append-nil (read_notes r),
  (
    r.here,
    r.outer,
    ap (λ (l : List ℕ). record { shape = FootnoteShape l; before = r.here } ∷ r.outer) (fresh-label name label e),
    refl,
    inl (subst (λ (y : Role). Above y (Unbegun names)) (sym e) tt),
  ),
)
among-begins bytes name (LeafRole kind) p names span from r e may = (append-nil (read_notes r), tt)
among-begins bytes name (TextRole AsParagraph) p names span from r e may = (append-nil (read_notes r), tt)
among-begins bytes name (TextRole purpose) p names span from r e may = absurd may
among-begins bytes name IsPrefix p names span from r e may = (append-nil (read_notes r), tt)
among-begins bytes name IsQuoteMarker p names span from r e may = (quote-recorded bytes p r, tt)
among-begins bytes name IsEnding p names span from r e may = (append-nil (read_notes r), tt)
among-begins bytes name IsQuiet p names span from r e may = (append-nil (read_notes r), tt)
among-begins bytes name _ p names span from r e may = absurd may

among-ends : (bytes : List ℕ) (held : List Bool) (name : Name) (x : Role) (p : Point) (names : List Name)
    (span : Option OpenTextSpan) (from : ℕ) (r : Reading) → MayEnd held p AmongBlocks x →
    Stepped bytes Exit name x p AmongBlocks AmongBlocks names span from r
among-ends bytes held name (ContainerRole shape) p names span from r may = (container-left r.outer r refl, tt)
among-ends bytes held name IsPrefix p names span from r may = (append-nil (read_notes r), tt)
among-ends bytes held name IsQuoteMarker p names span from r may = (append-nil (read_notes r), tt)
among-ends bytes held name IsEnding p names span from r may =
    let same = ending-outer bytes p r.text r in (still bytes r (at_ending bytes p r.text r) same.0 same.1, tt)
among-ends bytes held name IsQuiet p names span from r may = (append-nil (read_notes r), tt)
among-ends bytes held name _ p names span from r may = absurd may

front-begins : (bytes : List ℕ) (name : Name) (x : Role) (p : Point) (names : List Name) (span : Option OpenTextSpan)
    (from : ℕ) (r : Reading) → MayBegin bytes p InFront x →
    Stepped bytes Enter name x p InFront (inner_in p InFront x) names span from r
front-begins bytes name IsQuiet p names span from r may = (append-nil (read_notes r), tt)
front-begins bytes name (TextRole AsDigits) p names span from r may = (append-nil (read_notes r), tt)
front-begins bytes name (TextRole AsItemMarker) p names span from r may = (append-nil (read_notes r), tt)
front-begins bytes name _ p names span from r may = absurd may

front-ends : (bytes : List ℕ) (held : List Bool) (name : Name) (x : Role) (p : Point) (names : List Name)
    (span : Option OpenTextSpan) (from : ℕ) (r : Reading) → MayEnd held p InFront x →
    Stepped bytes Exit name x p InFront (inner_after InFront x) names span from r
front-ends bytes held name IsQuiet p names span from r may = (append-nil (read_notes r), tt)
front-ends bytes held name (TextRole AsDigits) p names span from r may = (digits-recorded bytes p r.text r, tt)
front-ends bytes held name _ p names span from r may = absurd may

marker-ends : (bytes : List ℕ) (held : List Bool) (name : Name) (x : Role) (p q : Point) (names : List Name)
    (span : Option OpenTextSpan) (from : ℕ) (r : Reading) → MayEnd held p (InMarker q) x →
    Stepped bytes Exit name x p (InMarker q) (inner_after (InMarker q) x) names span from r
marker-ends bytes held name (TextRole AsItemMarker) p q names span from r may = (marker-recorded bytes p r.text r, tt)
marker-ends bytes held name _ p q names span from r may = absurd may

leaf-begins : (bytes : List ℕ) (name : Name) (x : Role) (p : Point) (names : List Name) (span : Option OpenTextSpan)
    (from : ℕ) (r : Reading) → MayBegin bytes p InLeaf x →
    Stepped bytes Enter name x p InLeaf (inner_in p InLeaf x) names span from r
leaf-begins bytes name (ContainerRole shape) p names span from r may = absurd may
leaf-begins bytes name (LeafRole kind) p names span from r may = absurd may
leaf-begins bytes name (TextRole purpose) p names span from r may = (append-nil (read_notes r), tt)
leaf-begins bytes name IsQuoteMarker p names span from r may = (quote-recorded bytes p r, tt)
leaf-begins bytes name _ p names span from r may = (append-nil (read_notes r), tt)

leaf-ends : (bytes : List ℕ) (held : List Bool) (name : Name) (x : Role) (p : Point) (names : List Name)
    (span : Option OpenTextSpan) (from : ℕ) (r : Reading) → MayEnd held p InLeaf x →
    Stepped bytes Exit name x p InLeaf (inner_after InLeaf x) names span from r
leaf-ends bytes held name (ContainerRole shape) p names span from r may = absurd may
leaf-ends bytes held name (LeafRole kind) p names span from r may = (leaf-finished r.leaf r, tt)
leaf-ends bytes held name (TextRole AsFootnoteLabel) p names span from r may = absurd may
leaf-ends bytes held name (TextRole purpose) p names span from r may =
    let same = leaf-recorded bytes purpose p r.text r may in
    (still bytes r (recorded_at bytes purpose p r.text r) same.0 same.1, tt)
leaf-ends bytes held name IsEnding p names span from r may =
    let same = ending-outer bytes p r.text r in (still bytes r (at_ending bytes p r.text r) same.0 same.1, tt)
leaf-ends bytes held name _ p names span from r may = (append-nil (read_notes r), tt)

text-begins : (bytes : List ℕ) (name : Name) (x : Role) (p : Point) (names : List Name) (span : Option OpenTextSpan)
    (from : ℕ) (r : Reading) → MayBegin bytes p InText x →
    Stepped bytes Enter name x p InText (inner_in p InText x) names span from r
text-begins bytes name IsPrefix p names span from r may = (append-nil (read_notes r), tt)
text-begins bytes name IsQuoteMarker p names span from r may = (quote-recorded bytes p r, tt)
text-begins bytes name IsEnding p names span from r may = (append-nil (read_notes r), tt)
text-begins bytes name IsQuiet p names span from r may = (append-nil (read_notes r), tt)
text-begins bytes name _ p names span from r may = absurd may

text-ends : (bytes : List ℕ) (held : List Bool) (name : Name) (x : Role) (p : Point) (names : List Name)
    (span : Option OpenTextSpan) (from : ℕ) (r : Reading) → MayEnd held p InText x →
    Stepped bytes Exit name x p InText (inner_after InText x) names span from r
text-ends bytes held name (TextRole AsParagraph) p names span from r may = (paragraph-recorded bytes p r.text r, tt)
text-ends bytes held name (TextRole purpose) p names span from r may = absurd may
text-ends bytes held name IsPrefix p names span from r may = (append-nil (read_notes r), tt)
text-ends bytes held name IsQuoteMarker p names span from r may = (append-nil (read_notes r), tt)
text-ends bytes held name IsEnding p names span from r may =
    let same = ending-outer bytes p r.text r in (still bytes r (at_ending bytes p r.text r) same.0 same.1, tt)
text-ends bytes held name IsQuiet p names span from r may = (append-nil (read_notes r), tt)
text-ends bytes held name _ p names span from r may = absurd may

-- In the label of a footnote definition.

-- what is in it changes neither what is open around it
above-begins : (name : Name) (x : Role) (names : List Name) → role name ≡ x → IsBetween x → Unbegun names →
    Unbegun (name ∷ names)
above-begins name IsPrefix names e may h = subst (λ (y : Role). Above y (Unbegun names)) (sym e) h
above-begins name IsQuoteMarker names e may h = subst (λ (y : Role). Above y (Unbegun names)) (sym e) h
above-begins name IsEnding names e may h = subst (λ (y : Role). Above y (Unbegun names)) (sym e) h
above-begins name IsQuiet names e may h = subst (λ (y : Role). Above y (Unbegun names)) (sym e) h
above-begins name _ names e may h = absurd may

above-ends : (name : Name) (x : Role) (names : List Name) → role name ≡ x → IsBetween x → Fits names Exit name →
    Unbegun names → Unbegun (open_following names Exit name)
above-ends name x [] e may fits h = absurd h
above-ends name x (innermost ∷ names) e may fits h = go x may (subst (λ (y : Role). Above y (Unbegun names)) same h)
  where
    same : role innermost ≡ x
    same = ap role fits ∙ e

    go : (x : Role) → IsBetween x → Above x (Unbegun names) → Unbegun names
    go IsPrefix may h = h
    go IsQuoteMarker may h = h
    go IsEnding may h = h
    go IsQuiet may h = h
    go _ may h = absurd may

-- its end is that of what is innermost
above-label : (name : Name) (names : List Name) → role name ≡ TextRole AsFootnoteLabel → Fits names Exit name →
    Unbegun names → ⊥
above-label name [] e fits h = h
above-label name (innermost ∷ names) e fits h =
    subst (λ (y : Role). Above y (Unbegun names)) (ap role fits ∙ e) h

-- nor what is read of its text, but that a prefix parts it
begun-by : (names following : List Name) (span after : Option OpenTextSpan) (from : ℕ) (text now : Option Text) →
    after ≡ span → now ≡ text → (Unparted names → Unparted following) → IsBegun names span from text →
    IsBegun following after from now
begun-by names following span after from text now same unchanged open_so h = (h.0, same ∙ h.1, go h.2)
  where
    go : (h.0.is_parted ≡ true) ⊎ BeginsAt names from text → (h.0.is_parted ≡ true) ⊎ BeginsAt following from now
    go (inl is) = inl is
    go (inr is) = inr (open_so is.0, is.1, unchanged ∙ is.2, is.3, is.4)

ending-text : (bytes : List ℕ) (p : Point) (text : Option Text) (r : Reading) → (at_ending bytes p text r).text ≡ r.text
ending-text bytes p (Some text) r = refl
ending-text bytes p None r = go (nat_lt p.index (length bytes))
  where
    go : (x : Bool) → (cond x (on_leaf next_line r) r).text ≡ r.text
    go true = refl
    go false = refl

pure-begins : (name : Name) (x : Role) (names : List Name) → role name ≡ x →
    ((T : Type 0) → T → Pure x T) → Unparted names → Unparted (name ∷ names)
pure-begins name x names e pure h = subst (λ (y : Role). Pure y (Unparted names)) (sym e) (pure (Unparted names) h)

pure-ends : (name : Name) (x : Role) (names : List Name) → role name ≡ x → Fits names Exit name →
    ((T : Type 0) → Pure x T → T) → Unparted names → Unparted (open_following names Exit name)
pure-ends name x [] e fits pure h = absurd h
pure-ends name x (innermost ∷ names) e fits pure h =
    pure (Unparted names) (subst (λ (y : Role). Pure y (Unparted names)) (ap role fits ∙ e) h)

-- a prefix that ends began there
prefix-open : (name : Name) (names : List Name) → role name ≡ IsPrefix → Fits names Exit name → Unparted names → ⊥
prefix-open name [] e fits h = h
prefix-open name (innermost ∷ names) e fits h =
    subst (λ (y : Role). Pure y (Unparted names)) (ap role fits ∙ e) h

begun-between : (bytes : List ℕ) (kind : Kind) (name : Name) (x : Role) (p : Point) (names : List Name)
    (span : Option OpenTextSpan) (from : ℕ) (r : Reading) → role name ≡ x → IsBetween x → Fits names kind name →
    (read_by bytes Enter IsQuoteMarker p r ≡ r) → IsBegun names span from r.text →
    IsBegun (open_following names kind name) (span_by kind x p span) (from_by kind x p from)
    (read_by bytes kind x p r).text
begun-between bytes Enter name IsPrefix p names span from r e may fits same h =
    (record h.0 { is_parted = true }, ap (λ (o : Option OpenTextSpan). span_by Enter IsPrefix p o) h.1, inl refl)
begun-between bytes Exit name IsPrefix p names span from r e may fits same h =
    (record h.0 { from = byte_at p }, ap (λ (o : Option OpenTextSpan). span_by Exit IsPrefix p o) h.1, go h.2)
  where
    go : (h.0.is_parted ≡ true) ⊎ BeginsAt names from r.text →
        (h.0.is_parted ≡ true)
        ⊎ BeginsAt (open_following names Exit name) from (read_by bytes Exit IsPrefix p r).text
    go (inl is) = inl is
    go (inr is) = absurd (prefix-open name names e fits is.0)
begun-between bytes Enter name IsQuoteMarker p names span from r e may fits same h =
    begun-by names (name ∷ names) span span from r.text _ refl (ap (λ (s : Reading). s.text) same)
    (pure-begins name IsQuoteMarker names e (λ T t. t)) h
begun-between bytes Exit name IsQuoteMarker p names span from r e may fits same h =
    begun-by names (open_following names Exit name) span span from r.text r.text refl refl
    (pure-ends name IsQuoteMarker names e fits (λ T t. t)) h
begun-between bytes Enter name IsEnding p names span from r e may fits same h =
    begun-by names (name ∷ names) span span from r.text r.text refl refl
    (pure-begins name IsEnding names e (λ T t. t)) h
begun-between bytes Exit name IsEnding p names span from r e may fits same h =
    begun-by names (open_following names Exit name) span span from r.text _ refl (ending-text bytes p r.text r)
    (pure-ends name IsEnding names e fits (λ T t. t)) h
begun-between bytes Enter name IsQuiet p names span from r e may fits same h =
    begun-by names (name ∷ names) span span from r.text r.text refl refl
    (pure-begins name IsQuiet names e (λ T t. t)) h
begun-between bytes Exit name IsQuiet p names span from r e may fits same h =
    begun-by names (open_following names Exit name) span span from r.text r.text refl refl
    (pure-ends name IsQuiet names e fits (λ T t. t)) h
begun-between bytes kind name _ p names span from r e may fits same h = absurd may

-- so the place is the same
label-same : (bytes : List ℕ) (kind : Kind) (x : Role) (p : Point) (r : Reading) → IsBetween x →
    read_by bytes Enter IsQuoteMarker p r ≡ r →
    (outer : (read_by bytes kind x p r).outer ≡ r.outer) × ((read_by bytes kind x p r).here ≡ r.here)
    × (own_by bytes kind x p 0 ≡ [])
label-same bytes Enter IsPrefix p r may same = (refl, refl, refl)
label-same bytes Exit IsPrefix p r may same = (refl, refl, refl)
label-same bytes Enter IsQuoteMarker p r may same =
    (ap (λ (s : Reading). s.outer) same, ap (λ (s : Reading). s.here) same, refl)
label-same bytes Exit IsQuoteMarker p r may same = (refl, refl, refl)
label-same bytes Enter IsEnding p r may same = (refl, refl, refl)
label-same bytes Exit IsEnding p r may none =
    let same = ending-outer bytes p r.text r in (same.0, same.1, refl)
label-same bytes Enter IsQuiet p r may same = (refl, refl, refl)
label-same bytes Exit IsQuiet p r may same = (refl, refl, refl)
label-same bytes kind _ p r may same = absurd may

own-none : (bytes : List ℕ) (kind : Kind) (x : Role) (p : Point) (from : ℕ) → IsBetween x →
    own_by bytes kind x p from ≡ []
own-none bytes Enter x p from may = refl
own-none bytes Exit IsPrefix p from may = refl
own-none bytes Exit IsQuoteMarker p from may = refl
own-none bytes Exit IsEnding p from may = refl
own-none bytes Exit IsQuiet p from may = refl
own-none bytes Exit _ p from may = absurd may

above-between : (kind : Kind) (name : Name) (x : Role) (names : List Name) → role name ≡ x → IsBetween x →
    Fits names kind name → Unbegun names → Unbegun (open_following names kind name)
above-between Enter name x names e may fits h = above-begins name x names e may h
above-between Exit name x names e may fits h = above-ends name x names e may fits h

label-between : (bytes : List ℕ) (kind : Kind) (name : Name) (x : Role) (p : Point) (names : List Name)
    (span : Option OpenTextSpan) (from : ℕ) (r : Reading) → role name ≡ x → IsBetween x → Fits names kind name →
    IsAt InLabel names span from r → Stepped bytes kind name x p InLabel InLabel names span from r
label-between bytes kind name x p names span from r e may fits at =
    let same = label-same bytes kind x p r may unchanged in (
      ap (λ (l : List (List ℕ)). before_notes r.outer ++ l) (own-none bytes kind x p from may)
          ∙ append-nil (before_notes r.outer) ∙ ap before_notes (sym same.0),
      (at.0, at.1, same.0 ∙ at.2, same.1 ∙ at.3, go at.4),
    )
  where
    unchanged : read_by bytes Enter IsQuoteMarker p r ≡ r
    unchanged = quote-same bytes p r [] at.0 at.1 at.2

    go : Unbegun names ⊎ IsBegun names span from r.text →
        Unbegun (open_following names kind name)
        ⊎ IsBegun (open_following names kind name) (span_by kind x p span) (from_by kind x p from)
        (read_by bytes kind x p r).text
    go (inl h) = inl (above-between kind name x names e may fits h)
    go (inr h) = inr (begun-between bytes kind name x p names span from r e may fits unchanged h)

label-begins : (bytes : List ℕ) (name : Name) (x : Role) (p : Point) (names : List Name) (span : Option OpenTextSpan)
    (from : ℕ) (r : Reading) → role name ≡ x → MayBegin bytes p InLabel x → IsAt InLabel names span from r →
    Stepped bytes Enter name x p InLabel (inner_in p InLabel x) names span from r
label-begins bytes name (TextRole AsFootnoteLabel) p names span from r e may at = (
  append-nil (before_notes r.outer),
  (
    at.0,
    at.1,
    at.2,
    at.3,
    inr (
      record { from = byte_at p; is_parted = false },
      refl,
      inr (subst (λ (y : Role). Pure y (Unparted names)) (sym e) tt, _, refl, refl, refl),
    ),
  ),
)
label-begins bytes name IsPrefix p names span from r e may at =
    label-between bytes Enter name IsPrefix p names span from r e tt tt at
label-begins bytes name IsQuoteMarker p names span from r e may at =
    label-between bytes Enter name IsQuoteMarker p names span from r e tt tt at
label-begins bytes name IsEnding p names span from r e may at =
    label-between bytes Enter name IsEnding p names span from r e tt tt at
label-begins bytes name IsQuiet p names span from r e may at =
    label-between bytes Enter name IsQuiet p names span from r e tt tt at
label-begins bytes name _ p names span from r e may at = absurd may

-- its end shows it
label-recorded : (bytes : List ℕ) (p : Point) (from : ℕ) (r : Reading) (before : Blocks) (outer : List OpenContainer)
    (t : Text) →
    r.outer ≡ record { shape = FootnoteShape []; before = before } ∷ outer → r.here ≡ End → r.text ≡ Some t →
    t.front ≡ [] → t.from ≡ from →
    before_notes r.outer ++ normal_form (slice_range bytes from p.index ∷ []) ∷ [] ≡
    read_notes (recorded_at bytes AsFootnoteLabel p r.text r)
label-recorded bytes p from r before outer t is empty text front begin =
    ap (λ (l : List OpenContainer). before_notes l ++ normal_form (slice_range bytes from p.index ∷ []) ∷ []) is
    ∙ ap (λ (l : List ℕ). (outer_notes outer ++ noted_in before) ++ normal_form (l ∷ []) ∷ []) same
    ∙ sym (append-nil ((outer_notes outer ++ noted_in before) ++ normal_form (text_to bytes p.index t ∷ []) ∷ []))
    ∙ ap₂
    (λ (l : List OpenContainer) (bs : Blocks).
    outer_notes (on_shape (named AsFootnoteLabel (text_to bytes p.index t)) l) ++ noted_in bs) (sym is) (sym empty)
    ∙ ap (λ (o : Option Text). read_notes (recorded_at bytes AsFootnoteLabel p o r)) (sym text)
  where
    same : slice_range bytes from p.index ≡ text_to bytes p.index t
    same = ap₂ (λ (l : List ℕ) (i : ℕ). l ++ slice_range bytes i p.index) (sym front) (sym begin)

label-ends : (bytes : List ℕ) (held : List Bool) (name : Name) (x : Role) (p : Point) (names : List Name)
    (span : Option OpenTextSpan) (from : ℕ) (r : Reading) → role name ≡ x → MayEnd held p InLabel x →
    Fits names Exit name → parts_by bytes Exit x p span ≡ true → IsAt InLabel names span from r →
    Stepped bytes Exit name x p InLabel (inner_after InLabel x) names span from r
label-ends bytes held name (TextRole AsFootnoteLabel) p names span from r e may fits parts at = (go at.4, tt)
  where
    parted : (s : OpenTextSpan) → span ≡ Some s → s.is_parted ≡ true → ⊥
    parted s is so =
        let bad : false ≡ true =
        ap not (sym so) ∙ ap (parts_by bytes Exit (TextRole AsFootnoteLabel) p) (sym is) ∙ parts in cc

    go : Unbegun names ⊎ IsBegun names span from r.text →
        before_notes r.outer ++ normal_form (slice_range bytes from p.index ∷ []) ∷ [] ≡
        read_notes (recorded_at bytes AsFootnoteLabel p r.text r)
    go (inl h) = absurd (above-label name names e fits h)
    go (inr h) = by h.2
      where
        by : (h.0.is_parted ≡ true) ⊎ BeginsAt names from r.text →
            before_notes r.outer ++ normal_form (slice_range bytes from p.index ∷ []) ∷ [] ≡
            read_notes (recorded_at bytes AsFootnoteLabel p r.text r)
        by (inl so) = absurd (parted h.0 h.1 so)
        by (inr is) = label-recorded bytes p from r at.0 at.1 is.1 at.2 at.3 is.2 is.3 is.4
label-ends bytes held name IsPrefix p names span from r e may fits parts at =
    label-between bytes Exit name IsPrefix p names span from r e tt fits at
label-ends bytes held name IsQuoteMarker p names span from r e may fits parts at =
    label-between bytes Exit name IsQuoteMarker p names span from r e tt fits at
label-ends bytes held name IsEnding p names span from r e may fits parts at =
    label-between bytes Exit name IsEnding p names span from r e tt fits at
label-ends bytes held name IsQuiet p names span from r e may fits parts at =
    label-between bytes Exit name IsQuiet p names span from r e tt fits at
label-ends bytes held name _ p names span from r e may fits parts at = absurd may

-- All events.

step : (bytes : List ℕ) (held : List Bool) (inner : Inner) (kind : Kind) (name : Name) (x : Role) (p : Point)
    (names : List Name) (span : Option OpenTextSpan) (from : ℕ) (r : Reading) → role name ≡ x →
    MayBeHere bytes (record { held = held; inner = inner }) kind x p → Fits names kind name →
    parts_by bytes kind x p span ≡ true → IsAt inner names span from r →
    Stepped bytes kind name x p inner (site_after (record { held = held; inner = inner }) kind x p).inner names span
    from r
step bytes held AmongBlocks Enter name x p names span from r e may fits parts at =
    among-begins bytes name x p names span from r e may
step bytes held AmongBlocks Exit name x p names span from r e may fits parts at =
    among-exits x may
  where
    among-exits : (x : Role) → MayEnd held p AmongBlocks x →
        Stepped bytes Exit name x p AmongBlocks (inner_after AmongBlocks x) names span from r
    among-exits x may = among-ends bytes held name x p names span from r may
step bytes held InFront Enter name x p names span from r e may fits parts at =
    front-begins bytes name x p names span from r may
step bytes held InFront Exit name x p names span from r e may fits parts at =
    front-ends bytes held name x p names span from r may
step bytes held (InMarker q) Enter name x p names span from r e may fits parts at = absurd may
step bytes held (InMarker q) Exit name x p names span from r e may fits parts at =
    marker-ends bytes held name x p q names span from r may
step bytes held InLabel Enter name x p names span from r e may fits parts at =
    label-begins bytes name x p names span from r e may at
step bytes held InLabel Exit name x p names span from r e may fits parts at =
    label-ends bytes held name x p names span from r e may fits parts at
step bytes held InLeaf Enter name x p names span from r e may fits parts at =
    leaf-begins bytes name x p names span from r may
step bytes held InLeaf Exit name x p names span from r e may fits parts at =
    leaf-ends bytes held name x p names span from r may
step bytes held InText Enter name x p names span from r e may fits parts at =
    text-begins bytes name x p names span from r may
step bytes held InText Exit name x p names span from r e may fits parts at =
    text-ends bytes held name x p names span from r may

closed : (r : Reading) → r.outer ≡ [] → read_notes r ++ [] ≡ noted_in r.here
closed r none =
    append-nil (read_notes r) ∙ ap (λ (l : List OpenContainer). outer_notes l ++ noted_in r.here) none

at-end : (inner : Inner) (names : List Name) (span : Option OpenTextSpan) (from : ℕ) (r : Reading) →
    IsAt inner names span from r → r.outer ≡ [] → notes inner r ++ [] ≡ noted_in r.here
at-end InLabel names span from r at none =
    let bad : record { shape = FootnoteShape []; before = at.0 } ∷ at.1 ≡ [] = sym at.2 ∙ none in cc
at-end AmongBlocks names span from r at none = closed r none
at-end InFront names span from r at none = closed r none
at-end (InMarker q) names span from r at none = closed r none
at-end InLeaf names span from r at none = closed r none
at-end InText names span from r at none = closed r none

all-recorded : (bytes : List ℕ) (site : Site) (names : List Name) (span : Option OpenTextSpan) (from : ℕ) (r : Reading)
    (es : List Event) → ItemsAllowed bytes site es → Matches names es → are_parted bytes span es ≡ true →
    IsAt site.inner names span from r → (read bytes r es).outer ≡ [] →
    notes site.inner r ++ footnote_labels_from bytes from es ≡ noted_in (read bytes r es).here
all-recorded bytes site names span from r [] are_valid match parted at none =
    at-end site.inner names span from r at none
all-recorded bytes site names span from r (e ∷ es) are_valid match parted at none =
    let parts = and_parts _ _ parted in
    let x : Role = role e.name in
    let following : Site = site_after site e.kind x e.point in
    let next = step bytes site.held site.inner e.kind e.name x e.point names span from r refl are_valid.0
    match.0 parts.0
    at in
    let more = all-recorded bytes following (open_following names e.kind e.name) (span_by e.kind x e.point span)
    (from_by e.kind x e.point from) (read_by bytes e.kind x e.point r) es are_valid.1 match.1 parts.1 next.1 none in
    let rest : List (List ℕ) = footnote_labels_from bytes (from_by e.kind x e.point from) es in
    ap (λ (l : List (List ℕ)). notes site.inner r ++ l) (labels-step bytes from e es)
    ∙ sym (append_assoc (notes site.inner r) (own_by bytes e.kind x e.point from) rest)
    ∙ ap (λ (l : List (List ℕ)). l ++ rest) next.0
    ∙ more

-- The labels among events of a whole text are those of its tree.
pub are_valid-labels : (bytes : List ℕ) (es : List Event) → ItemsAllowed bytes root es → Matches [] es →
    are_parted bytes None es ≡ true → (read bytes unread es).outer ≡ [] →
    footnote_labels_in bytes es ≡ noted_in (spelled es bytes)
unfolding spelled
are_valid-labels bytes es are_valid match parted none = all-recorded bytes root [] None 0 unread es are_valid match
    parted tt none
