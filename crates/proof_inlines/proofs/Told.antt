-- The texts that are told where text parts of events end, each from where it began.
use Rattle.std.proofs.Common.{◌≡◌, ℕ, Bool, true, false, cond, List, [], ◌∷◌, ◌++◌, length, nat_lt, refl}
use Rattle.std.specs.Prelude.{Option, Some, None, option_map}
use Rattle.md_engine.specs.declared.event.Event.{Event}
use Rattle.md_engine.specs.declared.event.Kind.{Kind}
use Rattle.md_engine.specs.declared.event.Kind.TheVariants.{Enter, Exit}
use Rattle.md_engine.specs.declared.event.Point.{Point}
use Rattle.md_meaning.specs.Texts.{split_lines, trim_each}
use Rattle.md_meaning.specs.Tree.{Line}
use Rattle.md_events.specs.Events.Spelled.{AsCell, AsHeading, AsParagraph, IsPrefix, OpenContainer, OpenLeaf, Purpose}
use Rattle.md_events.specs.Events.Spelled.{Reading, Role, Text, TextRole, after_prefix, at_ending, before_prefix, begun}
use Rattle.md_events.specs.Events.Spelled.{ContainerRole, IsEnding, IsQuoteMarker}
use Rattle.md_events.specs.Events.Spelled.{LeafRole, finished, is_before_blocks, kind_at, left, next_line}
use Rattle.md_events.specs.Events.Spelled.{on_leaf, on_shape, read_by, recorded, recorded_at, role, text_to, with_kind}
use Rattle.md_inline_events.specs.TreeTexts.{cell_text, lines_text}

-- what a text of a purpose tells
abbrev pub text_told : Purpose → List ℕ → List (List ℕ)
text_told AsParagraph text = lines_text (trim_each (split_lines text))
text_told AsHeading text = lines_text (trim_each (split_lines text))
text_told AsCell text = cell_text text
text_told purpose text = []

abbrev pub told_at : List ℕ → Purpose → Point → Option Text → List (List ℕ)
told_at bytes purpose p None = []
told_at bytes purpose p (Some text) = text_told purpose (text_to bytes p.index text)

-- what an event tells, where this text is being read
abbrev pub told_by : List ℕ → Kind → Role → Point → Option Text → List (List ℕ)
told_by bytes Exit (TextRole purpose) p text = told_at bytes purpose p text
told_by bytes kind x p text = []

-- the text that is being read after an event
abbrev pub text_following : List ℕ → Kind → Role → Point → Option Text → Option Text
text_following bytes Enter (TextRole purpose) p text = Some (begun p)
text_following bytes Enter IsPrefix p text = option_map (before_prefix bytes p) text
text_following bytes Exit (TextRole purpose) p text = None
text_following bytes Exit IsPrefix p text = option_map (after_prefix p) text
text_following bytes kind x p text = text

abbrev pub told : List ℕ → Option Text → List Event → List (List ℕ)
told bytes text [] = []
told bytes text (e ∷ es) =
    told_by bytes e.kind (role e.name) e.point text
    ++ told bytes (text_following bytes e.kind (role e.name) e.point text) es

-- It is the text of the reading.

if-text : (b : Bool) (r s : Reading) → r.text ≡ s.text → (cond b r s).text ≡ s.text
if-text true r s e = e
if-text false r s e = refl

left-text : (outer : List OpenContainer) (r : Reading) → (left outer r).text ≡ r.text
left-text [] r = refl
left-text (around ∷ outer) r = refl

finished-text : (leaf : Option OpenLeaf) (r : Reading) → (finished leaf r).text ≡ r.text
finished-text None r = refl
finished-text (Some leaf) r = refl

recorded-text : (purpose : Purpose) (line : Line) (r : Reading) → (recorded purpose line r).text ≡ r.text
recorded-text AsParagraph line r = refl
recorded-text _ line r = refl

recorded-none : (bytes : List ℕ) (purpose : Purpose) (p : Point) (text : Option Text) (r : Reading) → r.text ≡ text →
    (recorded_at bytes purpose p text r).text ≡ None
recorded-none bytes purpose p None r e = e
recorded-none bytes purpose p (Some text) r e =
    recorded-text purpose (record { spaces = text.spaces; text = text_to bytes p.index text })
    (record r { text = None })

ending-text : (bytes : List ℕ) (p : Point) (text : Option Text) (r : Reading) → (at_ending bytes p text r).text ≡ r.text
ending-text bytes p (Some text) r = refl
ending-text bytes p None r = if-text (nat_lt p.index (length bytes)) (on_leaf next_line r) r refl

pub text-step : (bytes : List ℕ) (kind : Kind) (x : Role) (p : Point) (r : Reading) →
    (read_by bytes kind x p r).text ≡ text_following bytes kind x p r.text
text-step bytes Exit (ContainerRole shape) p r = left-text r.outer r
text-step bytes Exit (LeafRole kind) p r = finished-text r.leaf r
text-step bytes Exit (TextRole purpose) p r = recorded-none bytes purpose p r.text r refl
text-step bytes Exit IsEnding p r = ending-text bytes p r.text r
text-step bytes Exit _ p r = refl
text-step bytes Enter IsQuoteMarker p r =
    if-text (is_before_blocks r.text r.leaf r.here)
    (record r { outer = on_shape (with_kind (kind_at bytes p.index)) r.outer }) r refl
text-step bytes Enter _ p r = refl
