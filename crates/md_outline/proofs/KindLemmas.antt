-- The kind whose marker begins at an index, and the line that gets it, as the code finds them.
use Rattle.std.proofs.Common.{◌≡◌, ◌≢◌, ℕ, zero, suc, ◌+◌, ◌-◌, Bool, true, false, cond, ◌==◌, nat_lt, List, [], ◌∷◌}
use Rattle.std.proofs.Common.{length, map, drop, get_or, slice_range, refl, sym, ◌∙◌, ap, arith, length-drop}
use Rattle.std.specs.Prelude.{Option, Some, None, set}
use Rattle.std.specs.Char.{to_ascii_lowercase}
use Rattle.std.proofs.lemmas.Bool.{eq-eqb}
use Rattle.std.proofs.lemmas.Bool.Decides.{nat_tests}
use Rattle.std.proofs.lemmas.List.{take_all}
use Rattle.md_meaning.specs.declared.alert.AlertKind.{AlertKind}
use Rattle.md_meaning.specs.declared.alert.AlertKind.TheVariants as kind
use Rattle.md_meaning.specs.declared.outline.OutlineLine.{OutlineLine}
use Rattle.md_meaning.specs.Alert.{first_kind, has_marker, kinds}
use Rattle.md_meaning.specs.Ascii.{left_bracket}
use Rattle.md_meaning.specs.Lines.{begins_with}
use Rattle.md_meaning.specs.Outline.{Entry, entry_of}
use Rattle.md_meaning.specs.Texts.{first_byte}
use Rattle.md_events.specs.Events.Spelled.{OpenLeaf, kind_at, on_last}
use Rattle.md_outline.specs.AlertState.{alert_word, kind_given, line_given}
use Rattle.md_outline.specs.OutlineSteps.{OutlineState, marker_begun}
use Rattle.md_outline.specs.declared.outline.lined.Lined.{Lined}
use Rattle.md_outline.specs.declared.outline.TextSpan.{TextSpan}
use Rattle.md_outline.proofs.AlertLemmas.{none-given}

-- Markers of kinds begin with a bracket.

no-bracket : (b : ℕ) → (b == left_bracket) ≡ false → (left_bracket == to_ascii_lowercase b) ≡ false
no-bracket b h = go (nat_lt b 65) (nat_lt b 91) refl refl
  where
    go : (x y : Bool) → nat_lt b 65 ≡ x → nat_lt b 91 ≡ y →
        (left_bracket == cond x b (cond y (b + 32) b)) ≡ false
    go true y ex ey = grind (arith, nat_tests)
    go false true ex ey = grind (arith, nat_tests)
    go false false ex ey = grind (arith, nat_tests)

has-bracket : (k : AlertKind) (bytes : List ℕ) → begins_with left_bracket bytes ≡ false → has_marker k bytes ≡ false
has-bracket kind.Note [] h = refl
has-bracket kind.Note (b ∷ bytes) h = rw (no-bracket b h) refl
has-bracket _ [] h = refl
has-bracket _ (b ∷ bytes) h = rw (no-bracket b h) refl

none-first : (test : AlertKind → Bool) → ((k : AlertKind) → test k ≡ false) → (ks : List AlertKind) →
    first_kind test ks ≡ None
none-first test none [] = refl
none-first test none (k ∷ ks) = rw (none k) (none-first test none ks)

pub kind-none : (bytes : List ℕ) (index : ℕ) → begins_with left_bracket (drop index bytes) ≡ false →
    kind_at bytes index ≡ None
unfolding kind_at
kind-none bytes index h =
    none-first (λ k. has_marker k (drop index bytes)) (λ k. has-bracket k (drop index bytes) h) kinds

-- what is from an index on
rest-from : (bytes : List ℕ) (index : ℕ) → slice_range bytes index (length bytes) ≡ drop index bytes
rest-from bytes index =
    let left = length-drop index bytes in
    take_all (length bytes - index) (drop index bytes) (omega (arith, left))

pub kind-in : (bytes rest : List ℕ) (index : ℕ) → rest ≡ slice_range bytes index (length bytes) →
    first_kind (λ k. has_marker k rest) kinds ≡ kind_at bytes index
unfolding kind_at
kind-in bytes rest index is = ap (λ r. first_kind (λ k. has_marker k r) kinds) (is ∙ rest-from bytes index)

first-other : (rest : List ℕ) → (first_byte rest == left_bracket) ≡ false → begins_with left_bracket rest ≡ false
first-other [] other = refl
first-other (b ∷ rest) other = other

pub kind-not_in : (bytes rest : List ℕ) (index : ℕ) → rest ≡ slice_range bytes index (length bytes) →
    (first_byte rest == left_bracket) ≡ false → kind_at bytes index ≡ None
kind-not_in bytes rest index is other =
    kind-none bytes index (ap (begins_with left_bracket) (sym (is ∙ rest-from bytes index)) ∙ first-other rest other)

-- The last line.

last-set : (f : Entry → Entry) (lines : List OutlineLine) (n : ℕ) (from to : OutlineLine) → length lines ≡ suc n →
    from ≡ get_or lines n from → entry_of to ≡ f (entry_of from) →
    map entry_of (set lines n to) ≡ on_last f (map entry_of lines)
last-set f [] n from to long is h = absurd (omega (arith, long))
last-set f (x ∷ []) zero from to long is h = ap (λ e. e ∷ []) (h ∙ ap (λ l. f (entry_of l)) is)
last-set f (x ∷ []) (suc n) from to long is h = absurd (omega (arith, long))
last-set f (x ∷ y ∷ xs) zero from to long is h = absurd (omega (arith, long))
last-set f (x ∷ y ∷ xs) (suc n) from to long is h =
    ap (λ es. entry_of x ∷ es) (last-set f (y ∷ xs) n from to (omega (arith, long)) is h)

pub last-given : (kind : AlertKind) (depth : ℕ) (lines : List OutlineLine) (n : ℕ) (from to : OutlineLine) →
    length lines ≡ suc n → from ≡ get_or lines n from →
    to ≡ record from { word = alert_word (Some kind) from.word } → depth - from.depth ≡ 1 →
    map entry_of (set lines n to) ≡ kind_given (Some kind) depth (map entry_of lines)
last-given kind depth lines n from to long is recorded deep =
    let at : (from.depth + 1 == depth) ≡ true = eq-eqb (from.depth + 1) depth (omega (arith, deep)) in
    last-set (line_given (Some kind) depth) lines n from to long is
    (ap entry_of recorded
    ∙ sym
    (ap
    (λ x. cond x (record (entry_of from) { word = alert_word (Some kind) from.word }) (entry_of from))
    at))

pub last-kept : (kind : AlertKind) (depth : ℕ) (lines : List OutlineLine) (n : ℕ) (from : OutlineLine) →
    length lines ≡ suc n → from ≡ get_or lines n from → depth - from.depth ≢ 1 →
    map entry_of (set lines n from) ≡ kind_given (Some kind) depth (map entry_of lines)
last-kept kind depth lines n from long is deep =
    let at : (from.depth + 1 == depth) ≡ false = grind (arith, nat_tests) in
    last-set (line_given (Some kind) depth) lines n from from long is
    (sym
    (ap
    (λ x. cond x (record (entry_of from) { word = alert_word (Some kind) from.word }) (entry_of from))
    at))

-- No marker of a kind begins.
pub marker-none : (bytes : List ℕ) (index : ℕ) (text : Option TextSpan) (leaf : Option OpenLeaf) (lined : Option Lined)
    (s : OutlineState) → kind_at bytes index ≡ None → marker_begun bytes index text leaf lined s ≡ s
marker-none bytes index None None None s none =
    ap (λ (k : Option AlertKind). record s { lines = kind_given k s.depth s.lines }) none
    ∙ ap (λ (lines : List Entry). record s { lines = lines }) (none-given s.depth s.lines)
marker-none bytes index _ _ _ s none = refl
