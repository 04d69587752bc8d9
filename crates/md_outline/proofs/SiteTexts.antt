-- The text that is read in a leaf block whose lines an outline shows as they come: none, or one that has begun there.
use Rattle.std.proofs.Common.{◌≡◌, ℕ, Bool, true, false, cond, not, ◌&&◌, List, slice_range, refl, sym, ◌∙◌, ap, subst}
use Rattle.std.specs.Prelude.{Option, Some, None, option_map}
use Rattle.std.proofs.lemmas.Bool.{true≢false}
use Rattle.md_engine.specs.declared.event.Kind.TheVariants.{Enter}
use Rattle.md_engine.specs.declared.event.Point.{Point}
use Rattle.md_meaning.specs.Outline.{Entry}
use Rattle.md_events.specs.Events.Spelled.{IsPrefix, IsQuoteMarker, LeafKind, LeafRole, OpenLeaf, Reading, Text}
use Rattle.md_events.specs.Events.Spelled.{after_prefix, at_ending, is_before_blocks, kind_at, on_shape, with_kind}
use Rattle.md_events.specs.Events.Spelled.{before_prefix, begun, byte_at, columns_left, read_enter, read_exit}
use Rattle.md_events.specs.Events.Spelled as spelled
use Rattle.md_outline.specs.Outlined.{parts_by}
use Rattle.md_outline.specs.OutlineSteps.{OutlineState, line_ended, marker_begun, parted_at, state_enter, state_exit}
use Rattle.md_outline.specs.OutlineSteps.{recorded, recorded_at}
use Rattle.md_outline.specs.Roles.{has_lines}
use Rattle.md_outline.specs.declared.outline.TextSpan.{TextSpan}
use Rattle.md_outline.specs.declared.outline.lined.Lined.{Lined}
use Rattle.md_outline.specs.declared.outline.role.Purpose.{Purpose}
use Rattle.md_outline.specs.declared.outline.role.Role.TheVariants as role
use Rattle.md_outline.proofs.ClosedTrees.{shown}
use Rattle.md_outline.proofs.OutlineAgrees.{Agrees, TextIs}

-- no text is read, or one that began here
abbrev pub NoText : OutlineState → Reading → Type 0
NoText s r = (s.text ≡ None) × (r.text ≡ None)

pub record TextFrom (q : Point) (s : OutlineState) (r : Reading) : Type 0 where
  pub span : s.text ≡ Some (record { from = byte_at q; is_parted = false })
  pub text : r.text ≡ Some (begun q)
  pub spaces : s.spaces ≡ columns_left q

pub from-here : (p : Point) (s : OutlineState) (r : Reading) →
    TextFrom p (record s { text = Some (record { from = byte_at p; is_parted = false }); spaces = columns_left p })
    (record r { text = Some (begun p) })
from-here p s r = record { span = refl; text = refl; spaces = refl }

-- such a leaf block begins in no text
pub no-span : (bytes : List ℕ) (kind : LeafKind) (p : Point) (span : Option TextSpan) → has_lines kind ≡ true →
    parts_by bytes Enter (LeafRole kind) p span ≡ true → span ≡ None
no-span bytes kind p None e k = refl
no-span bytes kind p (Some span) e k =
    absurd (true≢false (sym k ∙ ap (λ (x : Bool). not x && not span.is_parted) e))

text-none : (before : List Entry) (depth : ℕ) (lines : List Entry) (text : Option Text) →
    TextIs before depth lines None text → text ≡ None
text-none before depth lines None h = refl
text-none before depth lines (Some text) h = absurd h

pub begins-texts : (s : OutlineState) (r : Reading) → s.text ≡ None → Agrees s r → r.text ≡ None
begins-texts s r none is =
    text-none (shown r.outer r.here) s.depth s.lines r.text
    (subst (λ span. TextIs (shown r.outer r.here) s.depth s.lines span r.text) none is.text)

-- a text ends
pub text-ends : (P : OutlineState → Reading → Type 0) (bytes : List ℕ) (q p : Point) (x : spelled.Purpose)
    (y : Purpose) (s : OutlineState) (r : Reading) → TextFrom q s r →
    P (recorded y false (slice_range bytes (byte_at q) p.index) (record s { text = None }))
    (spelled.recorded x (record { spaces = columns_left q; text = slice_range bytes (byte_at q) p.index })
    (record r { text = None })) →
    P (recorded_at bytes y p.index s.text s) (spelled.recorded_at bytes x p r.text r)
text-ends P bytes q p x y s r from h =
    subst (λ span. P (recorded_at bytes y p.index span s) (spelled.recorded_at bytes x p r.text r)) (sym from.span)
    (subst
    (λ text.
    P (recorded_at bytes y p.index (Some (record { from = byte_at q; is_parted = false })) s)
    (spelled.recorded_at bytes x p text r))
    (sym from.text) h)

-- A line ending in a text is a part of it.

pub text-line : (bytes : List ℕ) (end : ℕ) (lined : Option Lined) (span : TextSpan) (s : OutlineState) →
    line_ended bytes end lined (Some span) s ≡ s
text-line bytes end None span s = refl
text-line bytes end (Some lined) span s = refl

pub text-ending : (P : OutlineState → Reading → Type 0) (bytes : List ℕ) (q p : Point) (s : OutlineState)
    (r : Reading) → TextFrom q s r → P s r →
    P (line_ended bytes p.index s.lined s.text s) (at_ending bytes p r.text r)
text-ending P bytes q p s r from h =
    let same : line_ended bytes p.index s.lined s.text s ≡ s =
    ap (λ (x : Option TextSpan). line_ended bytes p.index s.lined x s) from.span
    ∙ text-line bytes p.index s.lined (record { from = byte_at q; is_parted = false }) s in
    let tree : at_ending bytes p r.text r ≡ r = ap (λ (x : Option Text). at_ending bytes p x r) from.text in
    subst (λ (x : OutlineState). P x (at_ending bytes p r.text r)) (sym same)
    (subst (λ (y : Reading). P s y) (sym tree) h)

-- Prefixes where no text is read.

unparted : (bytes : List ℕ) (i : ℕ) (s : OutlineState) → s.text ≡ None → parted_at bytes i s.text s ≡ s
unparted bytes i s none = ap (λ span. parted_at bytes i span s) none

-- whatever text is read
abbrev pub Keeps : (OutlineState → Reading → Type 0) → Type 0
Keeps P =
    (s : OutlineState) (r : Reading) (span : Option TextSpan) (spaces : ℕ) (text : Option Text) → P s r →
    P (record s { text = span; spaces = spaces }) (record r { text = text })

pub prefix-enter : (P : OutlineState → Reading → Type 0) (bytes : List ℕ) (p : Point) (s : OutlineState)
    (r : Reading) → Keeps P → P s r × NoText s r →
    P (state_enter bytes role.Prefix p s) (read_enter bytes IsPrefix p r)
    × NoText (state_enter bytes role.Prefix p s) (read_enter bytes IsPrefix p r)
prefix-enter P bytes p s r keeps is =
    subst
    (λ (now : OutlineState).
    P now (read_enter bytes IsPrefix p r) × NoText now (read_enter bytes IsPrefix p r))
    (sym (unparted bytes p.index s is.1.0)) (
      keeps s r s.text s.spaces (option_map (before_prefix bytes p) r.text) is.0,
      (is.1.0, ap (option_map (before_prefix bytes p)) is.1.1),
    )

pub prefix-exit : (P : OutlineState → Reading → Type 0) (bytes : List ℕ) (p : Point) (s : OutlineState)
    (r : Reading) → Keeps P → P s r × NoText s r →
    P (state_exit bytes role.Prefix p s) (read_exit bytes IsPrefix p r)
    × NoText (state_exit bytes role.Prefix p s) (read_exit bytes IsPrefix p r)
prefix-exit P bytes p s r keeps is = (
  keeps s r (option_map (λ (t : TextSpan). record t { from = byte_at p }) s.text) s.spaces
      (option_map (after_prefix p) r.text) is.0,
  (ap (option_map (λ (t : TextSpan). record t { from = byte_at p })) is.1.0, ap (option_map (after_prefix p)) is.1.1),
)

-- Markers of quotes.

-- the text that is read stays
pub span-quoted : (bytes : List ℕ) (i : ℕ) (span : Option TextSpan) (leaf : Option OpenLeaf) (lined : Option Lined)
    (s : OutlineState) → (marker_begun bytes i span leaf lined s).text ≡ s.text
span-quoted bytes i None None None s = refl
span-quoted bytes i _ _ _ s = refl

-- a leaf block of several lines is open
pub record IsOpen (s : OutlineState) (r : Reading) : Type 0 where
  pub leaf : OpenLeaf
  pub lined : Lined
  pub read : r.leaf ≡ Some leaf
  pub shows : s.lined ≡ Some lined

-- in one they change nothing
lined-quoted : (bytes : List ℕ) (i : ℕ) (span : Option TextSpan) (leaf : Option OpenLeaf) (lined : Lined)
    (s : OutlineState) → marker_begun bytes i span leaf (Some lined) s ≡ s
lined-quoted bytes i None None lined s = refl
lined-quoted bytes i _ _ lined s = refl

leaf-quoted : (bytes : List ℕ) (i : ℕ) (text : Option Text) (leaf : OpenLeaf) (r : Reading) →
    cond (is_before_blocks text (Some leaf) r.here)
    (record r { outer = on_shape (with_kind (kind_at bytes i)) r.outer }) r
    ≡ r
leaf-quoted bytes i None leaf r = refl
leaf-quoted bytes i (Some text) leaf r = refl

pub marker-within : (P : OutlineState → Reading → Type 0) (bytes : List ℕ) (p : Point) (s : OutlineState)
    (r : Reading) → IsOpen s r → P s r → P (state_enter bytes role.QuoteMarker p s) (read_enter bytes IsQuoteMarker p r)
marker-within P bytes p s r inside h =
    let same : marker_begun bytes p.index s.text s.leaf s.lined s ≡ s =
    ap (λ (x : Option Lined). marker_begun bytes p.index s.text s.leaf x s) inside.shows
    ∙ lined-quoted bytes p.index s.text s.leaf inside.lined s in
    let tree : read_enter bytes IsQuoteMarker p r ≡ r =
    ap
    (λ (x : Option OpenLeaf).
    cond (is_before_blocks r.text x r.here) (record r { outer = on_shape (with_kind (kind_at bytes p.index)) r.outer })
    r)
    inside.read
    ∙ leaf-quoted bytes p.index r.text inside.leaf r in
    subst (λ (x : OutlineState). P x (read_enter bytes IsQuoteMarker p r)) (sym same)
    (subst (λ (y : Reading). P s y) (sym tree) h)
