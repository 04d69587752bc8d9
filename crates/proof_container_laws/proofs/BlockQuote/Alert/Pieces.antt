-- The marker of an alert is over its bytes.
use Rattle.std.proofs.Common.{◌≡◌, ℕ, ◌+◌, ◌<◌, Bool, true, false, cond, List, [], ◌∷◌, ◌++◌, length, slice_range, Some}
use Rattle.std.proofs.Common.{refl, subst, arith}
use Rattle.std.specs.Prelude.{◌==◌, nat_lt}
use Rattle.std.specs.Char.{to_ascii_lowercase}
use Rattle.std.specs.List.{list_all}
use Rattle.std.specs.Option.{is_some}
use Rattle.std.specs.Str.{bytes_eq, str_eq_ignore_ascii_case, str_to_ascii_lowercase}
use Rattle.std.proofs.lemmas.Bool.{and_from, and_parts, eqb-true, or_right}
use Rattle.std.proofs.lemmas.Bool.Decides.{nat_tests}
use Rattle.md_engine.specs.declared.event.Event.{Event}
use Rattle.md_engine.specs.declared.event.Name.TheVariants as n
use Rattle.md_engine.specs.declared.event.Point.{Point}
use Rattle.md_containers.proofs.OpeningLines.{IsMarker}
use Rattle.md_meaning.specs.Alert.{first_kind, is_marker, kinds, marker_of}
use Rattle.md_meaning.specs.declared.alert.AlertKind.{AlertKind}
use Rattle.md_meaning.specs.declared.alert.AlertKind.TheVariants as its
use Rattle.md_events.specs.Events.Pieces.{is_one_of, is_valid_piece}
use Rattle.proof_frame.proofs.BetweenFacts.{is_low}
use Rattle.proof_frame.proofs.PieceFacts.{begins-whole, over-valid, span}

-- The bytes of a marker.

-- a kind passes a test, so some first one does
some-in : (test : AlertKind → Bool) (kind : AlertKind) → test kind ≡ true → (before after : List AlertKind) →
    is_some (first_kind test (before ++ kind ∷ after)) ≡ true
some-in test kind is [] after = rw is refl
some-in test kind is (k ∷ before) after = go (test k) (some-in test kind is before after)
  where
    go : (x : Bool) → is_some (first_kind test (before ++ kind ∷ after)) ≡ true →
        is_some (cond x (Some k) (first_kind test (before ++ kind ∷ after))) ≡ true
    go true h = refl
    go false h = h

some-kind : (test : AlertKind → Bool) (kind : AlertKind) → test kind ≡ true → is_some (first_kind test kinds) ≡ true
some-kind test its.Note is =
    some-in test its.Note is [] (its.Tip ∷ its.Important ∷ its.Warning ∷ its.Caution ∷ [])
some-kind test its.Tip is =
    some-in test its.Tip is (its.Note ∷ []) (its.Important ∷ its.Warning ∷ its.Caution ∷ [])
some-kind test its.Important is =
    some-in test its.Important is (its.Note ∷ its.Tip ∷ []) (its.Warning ∷ its.Caution ∷ [])
some-kind test its.Warning is =
    some-in test its.Warning is (its.Note ∷ its.Tip ∷ its.Important ∷ []) (its.Caution ∷ [])
some-kind test its.Caution is =
    some-in test its.Caution is (its.Note ∷ its.Tip ∷ its.Important ∷ its.Warning ∷ []) []

-- a byte of ASCII in lower case is one
low-case : (b : ℕ) → is_low (to_ascii_lowercase b) ≡ true → is_low b ≡ true
low-case b h = go (nat_lt b 65) refl (nat_lt b 91) refl h
  where
    go : (x : Bool) → nat_lt b 65 ≡ x → (y : Bool) → nat_lt b 91 ≡ y → is_low (cond x b (cond y (b + 32) b)) ≡ true →
        is_low b ≡ true
    go true e y f k = k
    go false e true f k = grind (arith, nat_tests)
    go false e false f k = k

-- bytes that are bytes of ASCII in any case
low-same : (xs ys : List ℕ) → bytes_eq xs (str_to_ascii_lowercase ys) ≡ true → list_all is_low xs ≡ true →
    (length xs ≡ length ys) × (list_all is_low ys ≡ true)
low-same [] [] e h = (refl, refl)
low-same [] (y ∷ ys) e h = cc
low-same (x ∷ xs) [] e h = cc
low-same (x ∷ xs) (y ∷ ys) e h =
    let same = and_parts (x == to_ascii_lowercase y) (bytes_eq xs (str_to_ascii_lowercase ys)) e in
    let low = and_parts (is_low x) (list_all is_low xs) h in
    let rest = low-same xs ys same.1 low.1 in
    let size = rest.0 in
    let byte : x ≡ to_ascii_lowercase y = eqb-true x (to_ascii_lowercase y) same.0 in (
      omega arith,
      and_from (is_low y) (list_all is_low ys) (low-case y (subst (λ (b : ℕ). is_low b ≡ true) byte low.0)) rest.1,
    )

-- so are those of a marker
low-kind : (kind : AlertKind) →
    (list_all is_low (str_to_ascii_lowercase (marker_of kind)) ≡ true)
    × (length (str_to_ascii_lowercase (marker_of kind)) ≡ length (marker_of kind)) × (0 < length (marker_of kind))
low-kind its.Note = (refl, refl, omega arith)
low-kind its.Tip = (refl, refl, omega arith)
low-kind its.Important = (refl, refl, omega arith)
low-kind its.Warning = (refl, refl, omega arith)
low-kind its.Caution = (refl, refl, omega arith)

-- What is over them.

-- there are so many, all of ASCII
pub marker-low : (bytes : List ℕ) (kind : AlertKind) (p q : Point) (es : List Event) →
    (m : IsMarker bytes kind p q es) →
    (m.closes.index ≡ m.opens.index + length (slice_range bytes m.opens.index m.closes.index))
    × (list_all is_low (slice_range bytes m.opens.index m.closes.index) ≡ true) × (m.opens.index < m.closes.index)
marker-low bytes kind p q es m =
    let line : List ℕ = slice_range bytes m.opens.index m.closes.index in
    let known = low-kind kind in
    let same = low-same (str_to_ascii_lowercase (marker_of kind)) line m.marker known.0 in
    let size = same.0 in
    let full = known.1 in
    let some = known.2 in
    let past = m.past in (omega arith, same.1, omega arith)

pub bytes-are_valid : (bytes : List ℕ) (kind : AlertKind) (p q : Point) (es : List Event) →
    (m : IsMarker bytes kind p q es) → is_valid_piece bytes (span n.BlockQuoteMarker m.opens m.closes) ≡ true
bytes-are_valid bytes kind p q es m =
    let line : List ℕ = slice_range bytes m.opens.index m.closes.index in
    let some = (marker-low bytes kind p q es m).2 in
    over-valid bytes n.BlockQuoteMarker m.opens m.closes line
    (record { some = some; whole = m.closes_whole; slice = refl })
    (begins-whole n.BlockQuoteMarker m.opens m.opens_whole)
    (or_right (is_one_of (62 ∷ []) line) (is_marker line)
    (some-kind (λ (k : AlertKind). str_eq_ignore_ascii_case (marker_of k) line) kind m.marker))
