-- What events are read as.
use Rattle.std.proofs.Common.{◌≡◌, ℕ, Bool, true, false, cond, List, [], ◌∷◌, ◌++◌, length, refl, ap, sym, ◌∙◌}
use Rattle.std.specs.Prelude.{Option, Some, None, option_map, nat_lt}
use Rattle.md_engine.specs.declared.event.Point.{Point}
use Rattle.md_engine.specs.declared.event.Event.{Event}
use Rattle.md_engine.specs.declared.event.Kind.{Kind}
use Rattle.md_engine.specs.declared.event.Kind.TheVariants.{Enter, Exit}
use Rattle.md_events.specs.Events.Spelled.{Reading, Text, OpenContainer, OpenLeaf, Role, IsPrefix, IsEnding, IsQuiet}
use Rattle.md_events.specs.Events.Spelled.{IsQuoteMarker, is_before_blocks, kind_at, on_shape, role, with_kind}
use Rattle.md_meaning.specs.declared.alert.AlertKind.{AlertKind}
use Rattle.md_events.specs.Events.Spelled.{before_prefix, after_prefix, at_ending, on_leaf, next_line, read_by, read}

-- a reader continues over what is appended
pub read-append : (bytes : List ℕ) (r : Reading) (xs ys : List Event) →
    read bytes r (xs ++ ys) ≡ read bytes (read bytes r xs) ys
read-append bytes r [] ys = refl
read-append bytes r (e ∷ xs) ys = read-append bytes (read_by bytes e.kind (role e.name) e.point r) xs ys

-- the events after some others are read from what those are read as
pub read-from : (bytes : List ℕ) (start r : Reading) (xs ys : List Event) → read bytes start xs ≡ r →
    read bytes start (xs ++ ys) ≡ read bytes r ys
read-from bytes start r xs ys e = read-append bytes start xs ys ∙ ap (λ (x : Reading). read bytes x ys) e

-- Events that leave what is read.

-- what holds of the role of each event
abbrev pub Roles : (Role → Type 0) → List Event → Type 0
Roles P [] = Unit {0}
Roles P (e ∷ es) = P (role e.name) × Roles P es

pub roles-append : (P : Role → Type 0) (xs ys : List Event) → Roles P xs → Roles P ys → Roles P (xs ++ ys)
roles-append P [] ys h k = k
roles-append P (e ∷ xs) ys h k = (h.0, roles-append P xs ys h.1 k)

-- a name that the tree does not show
abbrev pub Quiet : Role → Type 0
Quiet IsQuiet = Unit {0}
Quiet _ = ⊥

-- such a name, or one of a container prefix
abbrev pub QuietOrPrefix : Role → Type 0
QuietOrPrefix IsQuiet = Unit {0}
QuietOrPrefix IsPrefix = Unit {0}
QuietOrPrefix IsQuoteMarker = Unit {0}
QuietOrPrefix _ = ⊥

-- what may be between blocks: such a name, one of a container prefix, or a line ending
abbrev pub Between : Role → Type 0
Between IsQuiet = Unit {0}
Between IsPrefix = Unit {0}
Between IsQuoteMarker = Unit {0}
Between IsEnding = Unit {0}
Between _ = ⊥

-- what an inline layer gives: such a name or a line ending
abbrev pub QuietOrEnding : Role → Type 0
QuietOrEnding IsQuiet = Unit {0}
QuietOrEnding IsEnding = Unit {0}
QuietOrEnding _ = ⊥

-- a fact of roles under which an event leaves a reading, so that events do
pub read-kept : (bytes : List ℕ) (P : Role → Type 0) (r : Reading) (es : List Event) →
    ((kind : Kind) (x : Role) (p : Point) → P x → read_by bytes kind x p r ≡ r) → Roles P es → read bytes r es ≡ r
read-kept bytes P r [] kept h = refl
read-kept bytes P r (e ∷ es) kept h =
    ap (λ (x : Reading). read bytes x es) (kept e.kind (role e.name) e.point h.0) ∙ read-kept bytes P r es kept h.1

cond-same : (x : Bool) (a b : Reading) → a ≡ b → cond x a b ≡ b
cond-same true a b e = e
cond-same false a b e = refl

same-text : (r : Reading) (f : Text → Text) → r.text ≡ None → record r { text = option_map f r.text } ≡ r
same-text r f e =
    ap (λ (x : Option Text). record r { text = option_map f x }) e
    ∙ sym (ap (λ (x : Option Text). record r { text = x }) e)

same-leaf : (r : Reading) (f : OpenLeaf → OpenLeaf) → r.leaf ≡ None → record r { leaf = option_map f r.leaf } ≡ r
same-leaf r f e =
    ap (λ (x : Option OpenLeaf). record r { leaf = option_map f x }) e
    ∙ sym (ap (λ (x : Option OpenLeaf). record r { leaf = x }) e)

kept-quiet : (bytes : List ℕ) (r : Reading) (kind : Kind) (x : Role) (p : Point) → Quiet x →
    read_by bytes kind x p r ≡ r
kept-quiet bytes r Enter IsQuiet p h = refl
kept-quiet bytes r Exit IsQuiet p h = refl
kept-quiet bytes r kind _ p h = absurd h

-- what the tree does not show leaves what is read, wherever it is
pub read-quiet : (bytes : List ℕ) (r : Reading) (es : List Event) → Roles Quiet es → read bytes r es ≡ r
read-quiet bytes r es h = read-kept bytes Quiet r es (kept-quiet bytes r) h

-- Markers of quotes, none of which gives its quote a kind.

abbrev pub IsUnmarked : List ℕ → Kind → Role → Point → Type 0
IsUnmarked bytes Enter IsQuoteMarker p = kind_at bytes p.index ≡ None
IsUnmarked bytes kind x p = Unit {0}

abbrev pub Unmarked : List ℕ → List Event → Type 0
Unmarked bytes [] = Unit {0}
Unmarked bytes (e ∷ es) = IsUnmarked bytes e.kind (role e.name) e.point × Unmarked bytes es

pub unmarked-append : (bytes : List ℕ) (xs ys : List Event) → Unmarked bytes xs → Unmarked bytes ys →
    Unmarked bytes (xs ++ ys)
unmarked-append bytes [] ys h k = k
unmarked-append bytes (e ∷ xs) ys h k = (h.0, unmarked-append bytes xs ys h.1 k)

same-shape : (outer : List OpenContainer) → on_shape (with_kind None) outer ≡ outer
same-shape [] = refl
same-shape (around ∷ outer) = refl

kept-marker : (bytes : List ℕ) (r : Reading) (p : Point) → kind_at bytes p.index ≡ None →
    read_by bytes Enter IsQuoteMarker p r ≡ r
kept-marker bytes r p none =
    cond-same (is_before_blocks r.text r.leaf r.here)
    (record r { outer = on_shape (with_kind (kind_at bytes p.index)) r.outer }) r
    (ap (λ (o : Option AlertKind). record r { outer = on_shape (with_kind o) r.outer }) none
    ∙ ap (λ (outer : List OpenContainer). record r { outer = outer }) (same-shape r.outer))

-- a fact of roles under which an event without such a marker leaves a reading, so that events do
read-unmarked : (bytes : List ℕ) (P : Role → Type 0) (r : Reading) (es : List Event) →
    ((kind : Kind) (x : Role) (p : Point) → P x → IsUnmarked bytes kind x p → read_by bytes kind x p r ≡ r) →
    Roles P es → Unmarked bytes es → read bytes r es ≡ r
read-unmarked bytes P r [] kept h u = refl
read-unmarked bytes P r (e ∷ es) kept h u =
    ap (λ (x : Reading). read bytes x es) (kept e.kind (role e.name) e.point h.0 u.0)
    ∙ read-unmarked bytes P r es kept h.1 u.1

kept-prefix : (bytes : List ℕ) (r : Reading) → r.text ≡ None → (kind : Kind) (x : Role) (p : Point) → QuietOrPrefix x →
    IsUnmarked bytes kind x p → read_by bytes kind x p r ≡ r
kept-prefix bytes r e Enter IsQuiet p h u = refl
kept-prefix bytes r e Exit IsQuiet p h u = refl
kept-prefix bytes r e Enter IsPrefix p h u = same-text r (before_prefix bytes p) e
kept-prefix bytes r e Exit IsPrefix p h u = same-text r (after_prefix p) e
kept-prefix bytes r e Enter IsQuoteMarker p h u = kept-marker bytes r p u
kept-prefix bytes r e Exit IsQuoteMarker p h u = refl
kept-prefix bytes r e kind _ p h u = absurd h

-- container prefixes leave what is read where no text is, if no marker in them gives a quote a kind
pub read-prefixes : (bytes : List ℕ) (r : Reading) (es : List Event) → r.text ≡ None → Roles QuietOrPrefix es →
    Unmarked bytes es → read bytes r es ≡ r
read-prefixes bytes r es e h u = read-unmarked bytes QuietOrPrefix r es (kept-prefix bytes r e) h u

-- and in a leaf, as inside a fence, where none can
same-leaf_open : (bytes : List ℕ) (r : Reading) (p : Point) (text : Option Text) (leaf : Option OpenLeaf)
    (l : OpenLeaf) →
    leaf ≡ Some l →
    cond (is_before_blocks text leaf r.here)
    (record r { outer = on_shape (with_kind (kind_at bytes p.index)) r.outer }) r ≡
    r
same-leaf_open bytes r p None (Some k) l e = refl
same-leaf_open bytes r p (Some text) (Some k) l e = refl
same-leaf_open bytes r p text None l e = cc

kept-within : (bytes : List ℕ) (r : Reading) (leaf : OpenLeaf) → r.text ≡ None → r.leaf ≡ Some leaf → (kind : Kind)
    (x : Role) (p : Point) → QuietOrPrefix x → read_by bytes kind x p r ≡ r
kept-within bytes r leaf e l Enter IsQuiet p h = refl
kept-within bytes r leaf e l Exit IsQuiet p h = refl
kept-within bytes r leaf e l Enter IsPrefix p h = same-text r (before_prefix bytes p) e
kept-within bytes r leaf e l Exit IsPrefix p h = same-text r (after_prefix p) e
kept-within bytes r leaf e l Enter IsQuoteMarker p h = same-leaf_open bytes r p r.text r.leaf leaf l
kept-within bytes r leaf e l Exit IsQuoteMarker p h = refl
kept-within bytes r leaf e l kind _ p h = absurd h

pub read-within : (bytes : List ℕ) (r : Reading) (leaf : OpenLeaf) (es : List Event) → r.text ≡ None →
    r.leaf ≡ Some leaf → Roles QuietOrPrefix es → read bytes r es ≡ r
read-within bytes r leaf es e l h = read-kept bytes QuietOrPrefix r es (kept-within bytes r leaf e l) h

kept-ending : (bytes : List ℕ) (r : Reading) (p : Point) → r.leaf ≡ None → (text : Option Text) →
    at_ending bytes p text r ≡ r
kept-ending bytes r p e (Some text) = refl
kept-ending bytes r p e None =
    cond-same (nat_lt p.index (length bytes)) (on_leaf next_line r) r (same-leaf r next_line e)

kept-between : (bytes : List ℕ) (r : Reading) → r.text ≡ None → r.leaf ≡ None → (kind : Kind) (x : Role) (p : Point) →
    Between x → IsUnmarked bytes kind x p → read_by bytes kind x p r ≡ r
kept-between bytes r e l Enter IsQuiet p h u = refl
kept-between bytes r e l Exit IsQuiet p h u = refl
kept-between bytes r e l Enter IsPrefix p h u = same-text r (before_prefix bytes p) e
kept-between bytes r e l Exit IsPrefix p h u = same-text r (after_prefix p) e
kept-between bytes r e l Enter IsQuoteMarker p h u = kept-marker bytes r p u
kept-between bytes r e l Exit IsQuoteMarker p h u = refl
kept-between bytes r e l Enter IsEnding p h u = refl
kept-between bytes r e l Exit IsEnding p h u = kept-ending bytes r p l r.text
kept-between bytes r e l kind _ p h u = absurd h

-- what is between blocks leaves what is read, if no marker in it gives a quote a kind
pub read-between : (bytes : List ℕ) (r : Reading) (es : List Event) → r.text ≡ None → r.leaf ≡ None → Roles Between es →
    Unmarked bytes es → read bytes r es ≡ r
read-between bytes r es e l h u = read-unmarked bytes Between r es (kept-between bytes r e l) h u

kept-inline : (bytes : List ℕ) (r : Reading) (text : Text) → r.text ≡ Some text → (kind : Kind) (x : Role) (p : Point) →
    QuietOrEnding x → read_by bytes kind x p r ≡ r
kept-inline bytes r text e Enter IsQuiet p h = refl
kept-inline bytes r text e Exit IsQuiet p h = refl
kept-inline bytes r text e Enter IsEnding p h = refl
kept-inline bytes r text e Exit IsEnding p h = ap (λ (x : Option Text). at_ending bytes p x r) e
kept-inline bytes r text e kind _ p h = absurd h

-- what an inline layer gives leaves a text that is being read
pub read-inline : (bytes : List ℕ) (r : Reading) (text : Text) (es : List Event) → r.text ≡ Some text →
    Roles QuietOrEnding es → read bytes r es ≡ r
read-inline bytes r text es e h = read-kept bytes QuietOrEnding r es (kept-inline bytes r text e) h

-- Texts.

-- what an event does to a text that is being read
abbrev pub text_by : List ℕ → Kind → Role → Point → Text → Text
text_by bytes Enter IsPrefix p text = before_prefix bytes p text
text_by bytes Exit IsPrefix p text = after_prefix p text
text_by bytes kind _ p text = text

abbrev pub text_after : List ℕ → Text → List Event → Text
text_after bytes text [] = text
text_after bytes text (e ∷ es) = text_after bytes (text_by bytes e.kind (role e.name) e.point text) es

pub text_after-append : (bytes : List ℕ) (text : Text) (xs ys : List Event) →
    text_after bytes text (xs ++ ys) ≡ text_after bytes (text_after bytes text xs) ys
text_after-append bytes text [] ys = refl
text_after-append bytes text (e ∷ xs) ys =
    text_after-append bytes (text_by bytes e.kind (role e.name) e.point text) xs ys

-- in a text no marker of a quote gives it a kind
same-text_open : (bytes : List ℕ) (r : Reading) (p : Point) (text : Text) (o : Option Text) → o ≡ Some text →
    cond (is_before_blocks o r.leaf r.here)
    (record r { outer = on_shape (with_kind (kind_at bytes p.index)) r.outer }) r ≡
    r
same-text_open bytes r p text (Some t) e = refl
same-text_open bytes r p text None e = cc

step-text : (bytes : List ℕ) (r : Reading) (text : Text) → r.text ≡ Some text → (kind : Kind) (x : Role) (p : Point) →
    Between x → read_by bytes kind x p r ≡ record r { text = Some (text_by bytes kind x p text) }
step-text bytes r text e Enter IsQuiet p h = ap (λ (x : Option Text). record r { text = x }) e
step-text bytes r text e Exit IsQuiet p h = ap (λ (x : Option Text). record r { text = x }) e
step-text bytes r text e Enter IsPrefix p h =
    ap (λ (x : Option Text). record r { text = option_map (before_prefix bytes p) x }) e
step-text bytes r text e Exit IsPrefix p h =
    ap (λ (x : Option Text). record r { text = option_map (after_prefix p) x }) e
step-text bytes r text e Enter IsQuoteMarker p h =
    same-text_open bytes r p text r.text e ∙ ap (λ (x : Option Text). record r { text = x }) e
step-text bytes r text e Exit IsQuoteMarker p h = ap (λ (x : Option Text). record r { text = x }) e
step-text bytes r text e Enter IsEnding p h = ap (λ (x : Option Text). record r { text = x }) e
step-text bytes r text e Exit IsEnding p h =
    ap (λ (x : Option Text). at_ending bytes p x r) e ∙ ap (λ (x : Option Text). record r { text = x }) e
step-text bytes r text e kind _ p h = absurd h

-- inside a text nothing but container prefixes matters
pub read-text : (bytes : List ℕ) (r : Reading) (text : Text) (es : List Event) → r.text ≡ Some text → Roles Between es →
    read bytes r es ≡ record r { text = Some (text_after bytes text es) }
read-text bytes r text [] e h = ap (λ (x : Option Text). record r { text = x }) e
read-text bytes r text (f ∷ es) e h =
    let next : Text = text_by bytes f.kind (role f.name) f.point text in
    ap (λ (x : Reading). read bytes x es) (step-text bytes r text e f.kind (role f.name) f.point h.0)
    ∙ read-text bytes (record r { text = Some next }) next es refl h.1

-- what an inline layer gives moves no text
pub text-inline : (bytes : List ℕ) (text : Text) (es : List Event) → Roles QuietOrEnding es →
    text_after bytes text es ≡ text
text-inline bytes text [] h = refl
text-inline bytes text (e ∷ es) h =
    ap (λ (x : Text). text_after bytes x es) (go e.kind (role e.name) h.0) ∙ text-inline bytes text es h.1
  where
    go : (kind : Kind) (x : Role) → QuietOrEnding x → text_by bytes kind x e.point text ≡ text
    go Enter IsQuiet h = refl
    go Exit IsQuiet h = refl
    go Enter IsEnding h = refl
    go Exit IsEnding h = refl
    go kind _ h = absurd h
