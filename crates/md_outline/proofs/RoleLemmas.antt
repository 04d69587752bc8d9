-- What is needed of the blocks that an outline shows, by the kinds of their roles.
--
-- What is proved by these names no block.
use Rattle.std.proofs.Common.{◌≡◌, ℕ, Bool, true, List, [], refl, sym, subst, false, cond, length}
use Rattle.std.specs.Prelude.{Option, Some, None, nat_lt}
use Rattle.std.proofs.lemmas.Bool.{true≢false}
use Rattle.md_engine.specs.declared.event.Point.{Point}
use Rattle.md_engine.specs.declared.event.Name.{Name}
use Rattle.md_engine.specs.declared.event.Name.TheVariants as n
use Rattle.md_meaning.specs.declared.alert.AlertKind.{AlertKind}
use Rattle.md_meaning.specs.declared.outline.Word.{Word}
use Rattle.md_meaning.specs.declared.outline.Word.TheVariants as word
use Rattle.md_meaning.specs.Outline.{block_entries}
use Rattle.md_events.specs.Events.Spelled.{AsDigits, AsFootnoteLabel, AsHeading, AsItemMarker, AsMarkers, CodeLeaf}
use Rattle.md_events.specs.Events.Spelled.{FootnoteShape, ContainerRole, IsEnding, IsPrefix, IsQuiet, IsQuoteMarker}
use Rattle.md_events.specs.Events.Spelled.{LeafKind, OfCode, OfHeadingSetext, OfHtml, OpenLeaf, QuoteShape}
use Rattle.md_events.specs.Events.Spelled.{is_before_blocks, kind_at, read_enter, with_kind, LeafRole, OrderedShape}
use Rattle.md_events.specs.Events.Spelled.{Reading, Shape, TextRole, Text, UnorderedShape, add_block, at_ending}
use Rattle.md_events.specs.Events.Spelled.{block_around, fresh, named, next_line, on_leaf, on_shape, spelled, text_to}
use Rattle.md_events.specs.Events.Spelled as spelled
use Rattle.md_events.specs.Events.Recorded.{OfContainer, OfItself, OfLeaf, Recorded, block_recorded, recorded_in}
use Rattle.md_events.proofs.RecordedLemmas.{recorded-block, recorded-named, recorded-noted}
use Rattle.md_meaning.specs.Tree.{Block, End, Line}
use Rattle.md_outline.specs.FootnoteState.{container_lines}
use Rattle.md_outline.specs.Outlined.{begins_line, parts_exit, piece_to}
use Rattle.md_outline.specs.Roles.{is_known, is_plain, leaf_of, noted, shown_as, recorded_as}
use Rattle.md_outline.specs.declared.outline.role.Leaf.{Leaf}
use Rattle.md_outline.specs.declared.outline.role.Note.{Note}
use Rattle.md_outline.specs.declared.outline.role.Note.TheVariants as note
use Rattle.md_outline.specs.declared.outline.role.Purpose.TheVariants as purpose
use Rattle.md_outline.specs.declared.outline.role.Role.{Role}
use Rattle.md_outline.specs.declared.outline.role.Role.TheVariants as role
use Rattle.md_outline.specs.declared.outline.TextSpan.{TextSpan}
use Rattle.md_outline.proofs.ClosedTrees.{HasWord}

-- Leaf blocks.

-- those that an outline shows
abbrev pub Knows : OpenLeaf → Type 0
Knows leaf = is_known leaf ≡ true

-- they stay so, whatever they are said
pub knows-noted : (x : Note) (text : List ℕ) (leaf : OpenLeaf) → Knows leaf → Knows (noted x text leaf)
knows-noted note.Markers text (CodeLeaf lines) k = k
knows-noted note.Markers text _ k = k
knows-noted _ text (CodeLeaf lines) k = k
knows-noted _ text _ k = k

-- and a line ending opens no line of them
pub knows-line : (leaf : OpenLeaf) → Knows leaf → next_line leaf ≡ leaf
knows-line (CodeLeaf lines) k = absurd (cc)
knows-line _ k = cc

-- Roles.

-- A container that is shown by a word, as it begins, and shows no other.
pub record IsShownBy (shape : Shape) (w : Word) : Type 0 where
  pub line : (depth : ℕ) → block_entries depth (block_around shape End) ≡ container_lines depth w
  pub none : HasWord shape End

-- A leaf block, as it begins.
pub record IsBegun (kind : LeafKind) (l : Leaf) : Type 0 where
  pub same : leaf_of l ≡ fresh kind
  pub known : Knows (fresh kind)

-- A text that is a block of its own, and may be parted.
pub record IsBlock (x : spelled.Purpose) : Type 0 where
  pub tree : (line : Line) (r : Reading) → spelled.recorded x line r ≡ add_block (block_recorded line.text) r
  pub parted : (bytes : List ℕ) (p : Point) (text : TextSpan) →
      parts_exit bytes (TextRole x) p text ≡ begins_line text (piece_to bytes p text)

-- What is known of each role that an outline shows, but of lists, of leaf blocks of several lines and of the texts of
-- headings.
pub record ByRole (P : spelled.Role → Role → Type 0) : Type 0 where
  pub container : (shape : Shape) (w : Word) → IsShownBy shape w → P (ContainerRole shape) (role.Container w)
  pub footnote : (label : List ℕ) → P (ContainerRole (FootnoteShape label)) (role.Container word.Footnote)
  pub prefix : P IsPrefix role.Prefix
  pub begins : (kind : LeafKind) (l : Leaf) → IsBegun kind l → P (LeafRole kind) (role.Leaf l)
  pub block : (x : spelled.Purpose) → IsBlock x → P (TextRole x) (role.Text purpose.Block)
  pub markers : P (TextRole AsMarkers) (role.Text purpose.Markers)
  pub digits : P (TextRole AsDigits) (role.Text purpose.Digits)
  pub marker : P (TextRole AsItemMarker) (role.Text purpose.Marker)
  pub label : P (TextRole AsFootnoteLabel) (role.Text purpose.FootnoteLabel)
  pub ending : P IsEnding role.Ending
  pub quote_marker : P IsQuoteMarker role.QuoteMarker
  pub quiet : P IsQuiet role.Quiet

-- so it is known of all that are shown
pub by-role : (P : spelled.Role → Role → Type 0) (x : spelled.Role) → ByRole P → is_plain x ≡ true → P x (shown_as x)
by-role P (ContainerRole OrderedShape) by h = absurd (cc)
by-role P (ContainerRole UnorderedShape) by h = absurd (cc)
by-role P (ContainerRole (FootnoteShape label)) by h = by.footnote label
by-role P (ContainerRole (QuoteShape None)) by h = search (by.container)
by-role P (ContainerRole (QuoteShape (Some kind))) by h = search (by.container)
by-role P (ContainerRole _) by h = first_of (cc, search (by.container))
by-role P IsPrefix by h = by.prefix
by-role P (LeafRole OfCode) by h = absurd (cc)
by-role P (LeafRole OfHtml) by h = absurd (cc)
by-role P (LeafRole OfHeadingSetext) by h = absurd (cc)
by-role P (LeafRole _) by h = first_of (cc, search (by.begins))
by-role P (TextRole AsHeading) by h = absurd (cc)
by-role P (TextRole AsMarkers) by h = by.markers
by-role P (TextRole AsDigits) by h = by.digits
by-role P (TextRole AsItemMarker) by h = by.marker
by-role P (TextRole AsFootnoteLabel) by h = by.label
by-role P (TextRole _) by h = first_of (cc, search (by.block))
by-role P IsEnding by h = by.ending
by-role P IsQuoteMarker by h = by.quote_marker
by-role P IsQuiet by h = by.quiet
by-role P _ by h = absurd (true≢false (sym h))

-- A footnote definition as it begins has no label yet.
abbrev pub IsFresh : spelled.Role → Type 0
IsFresh (ContainerRole (FootnoteShape label)) = label ≡ []
IsFresh _ = Unit {0}

pub role-fresh : (name : Name) → IsFresh (spelled.role name)
role-fresh n.GfmFootnoteDefinition = refl
role-fresh _ = tt

-- Texts and line endings, of all roles.

-- what a text shows a leaf block is noted there
pub note-recorded : (x : Note) (line : Line) (r : Reading) →
    spelled.recorded (recorded_as x) line r ≡ on_leaf (noted x line.text) r
note-recorded note.Markers line r = refl
note-recorded note.Title line r = refl

-- What is known of a half-read tree when it has one block more, when its innermost container is named, and when its
-- leaf block is said something: so it is after each text.
pub record ByRecorded (P : Reading → Type 0) (r : Reading) : Type 0 where
  pub block : (b : Block) → P (add_block b r)
  pub named : (f : Shape → Shape) → P (record r { outer = on_shape f r.outer })
  pub noted : (f : OpenLeaf → OpenLeaf) → P (on_leaf f r)

by-recorded : (P : Reading → Type 0) (x : spelled.Purpose) (line : Line) (r : Reading) → ByRecorded P r →
    P (spelled.recorded x line r)
by-recorded P x line r by = go (recorded_in x) refl
  where
    go : (t : Recorded) → recorded_in x ≡ t → P (spelled.recorded x line r)
    go OfItself e = subst P (sym (recorded-block x e line r)) (by.block (block_recorded line.text))
    go OfContainer e = subst P (sym (recorded-named x e line r)) (by.named (named x line.text))
    go OfLeaf e = subst P (sym (recorded-noted x e line r)) (by.noted (spelled.noted x line))

pub by-recorded_at : (P : Reading → Type 0) (bytes : List ℕ) (x : spelled.Purpose) (p : Point) (text : Option Text)
    (r : Reading) → P r → ByRecorded P (record r { text = None }) → P (spelled.recorded_at bytes x p text r)
by-recorded_at P bytes x p None r none by = none
by-recorded_at P bytes x p (Some text) r none by =
    by-recorded P x (record { spaces = text.spaces; text = text_to bytes p.index text }) (record r { text = None }) by

-- and after a marker of a quote, which may give it a kind,
pub by-marker : (P : Reading → Type 0) (bytes : List ℕ) (p : Point) (r : Reading) → P r →
    ((kind : Option AlertKind) → P (record r { outer = on_shape (with_kind kind) r.outer })) →
    P (read_enter bytes IsQuoteMarker p r)
by-marker P bytes p r same given = go (is_before_blocks r.text r.leaf r.here)
  where
    go : (x : Bool) → P (cond x (record r { outer = on_shape (with_kind (kind_at bytes p.index)) r.outer }) r)
    go true = given (kind_at bytes p.index)
    go false = same

-- and after a line ending, which may open a line of the leaf block
pub by-ending : (P : Reading → Type 0) (bytes : List ℕ) (p : Point) (text : Option Text) (r : Reading) → P r →
    P (on_leaf next_line r) → P (at_ending bytes p text r)
by-ending P bytes p (Some text) r same next = same
by-ending P bytes p None r same next = go (nat_lt p.index (length bytes))
  where
    go : (x : Bool) → P (cond x (on_leaf next_line r) r)
    go true = next
    go false = same
