-- Places between two characters of a text, and events that are there.
use Rattle.std.proofs.Common.{◌≡◌, ℕ, ◌+◌, ◌-◌, ◌<◌, ◌≤◌, Bool, true, false, cond, List, [], ◌∷◌, ◌++◌, length}
use Rattle.std.proofs.Common.{get_or, drop, slice_range, refl, ap, sym, ◌∙◌, subst, arith}
use Rattle.std.specs.Prelude.{◌==◌, nat_lt, slice_index}
use Rattle.std.specs.List.{list_all}
use Rattle.std.proofs.lemmas.Bool.{and_parts, and_from, eqb-true}
use Rattle.std.proofs.lemmas.Bool.Decides.{nat_tests}
use Rattle.std.proofs.lemmas.List.{get_or-drop, get_or_past, get_or-take}
use Rattle.std.proofs.lemmas.List.Sums.{AllPass-from_list_all}
use Rattle.std.proofs.lemmas.List.Elements.{All-get_or}
use Rattle.md_engine.specs.declared.event.Event.{Event}
use Rattle.md_engine.specs.declared.event.Name.{Name}
use Rattle.md_engine.specs.declared.event.Name.TheVariants as n
use Rattle.md_engine.specs.declared.event.Point.{Point}
use Rattle.md_events.specs.Events.Inline.{line_end, pair_unless_empty, plain_chunk}
use Rattle.md_events.specs.Events.Nested.{around, enter, exit, pair}
use Rattle.md_events.specs.Events.Places.{same_place}
use Rattle.md_meaning.specs.Rest.{is_blank, is_white}
use Rattle.md_events.proofs.PlacesLemmas.{all-append}
use Rattle.md_meaning.proofs.TextsLemmas.{Both, Ending, LineFeed, Return, ending_bytes}
use Rattle.md_outline.specs.Between.{is_between}
use Rattle.md_events.proofs.FeedLines.{IsEnding}

abbrev pub is_low : ℕ → Bool
is_low b = nat_lt b 128

pub all-more : (test next : ℕ → Bool) (xs : List ℕ) → ((x : ℕ) → test x ≡ true → next x ≡ true) →
    list_all test xs ≡ true → list_all next xs ≡ true
all-more test next [] more h = refl
all-more test next (x ∷ xs) more h =
    let parts : (test x ≡ true) × (list_all test xs ≡ true) = and_parts (test x) (list_all test xs) h in
    and_from (next x) (list_all next xs) (more x parts.0) (all-more test next xs more parts.1)

pub white-low : (b : ℕ) → is_white b ≡ true → is_low b ≡ true
white-low b h = grind (arith, nat_tests)

pub blank-low : (line : List ℕ) → is_blank line ≡ true → list_all is_low line ≡ true
blank-low line h = all-more is_white is_low line white-low h

-- a byte of a part of the text that is of ASCII
pub low-at : (bytes line : List ℕ) (a e i : ℕ) → slice_range bytes a e ≡ line → e ≡ a + length line →
    list_all is_low line ≡ true → a ≤ i → i < e → is_low (slice_index bytes i) ≡ true
low-at bytes line a e i text size low h k =
    let at : a + (i - a) ≡ i = omega arith in
    let reads : slice_index bytes i ≡ get_or line (i - a) 0 =
    ap (λ (j : ℕ). get_or bytes j 0) (sym at)
    ∙ sym (get_or-drop a bytes (i - a) 0)
    ∙ sym (get_or-take (e - a) (drop a bytes) (i - a) 0 (omega arith))
    ∙ ap (λ (l : List ℕ). get_or l (i - a) 0) text in
    subst (λ (b : ℕ). is_low b ≡ true) (sym reads)
    (All-get_or (λ (b : ℕ). is_low b ≡ true) line (i - a) 0 (omega arith) (AllPass-from_list_all is_low line low))

-- an end of the text is such a place
pub between-end : (bytes : List ℕ) (i : ℕ) → i ≡ length bytes → is_between bytes i ≡ true
between-end bytes i e = grind (arith, nat_tests)

-- so is one after a byte of ASCII
pub between-following : (bytes : List ℕ) (i : ℕ) → is_low (slice_index bytes (i - 1)) ≡ true → is_between bytes i ≡ true
between-following bytes i h = grind (arith, nat_tests)

-- and one before it
pub between-before : (bytes : List ℕ) (i : ℕ) → is_low (slice_index bytes i) ≡ true → is_between bytes i ≡ true
between-before bytes i h = grind (arith, nat_tests)

pub ending-low : (ending : Ending) → (list_all is_low (ending_bytes ending) ≡ true) × (0 < length (ending_bytes ending))
ending-low LineFeed = (refl, omega arith)
ending-low Return = (refl, omega arith)
ending-low Both = (refl, omega arith)

pub ending-before : (bytes : List ℕ) (p q : Point) → IsEnding bytes p q → is_between bytes p.index ≡ true
ending-before bytes p q is =
    let facts : (list_all is_low (ending_bytes is.ending) ≡ true) ×
    (0 < length (ending_bytes is.ending)) = ending-low is.ending in
    let size : q.index ≡ p.index + length (ending_bytes is.ending) = is.size in
    between-before bytes p.index
    (low-at bytes (ending_bytes is.ending) p.index q.index p.index is.text is.size facts.0 (omega arith)
    (omega arith))

pub ending-following : (bytes : List ℕ) (p q : Point) → IsEnding bytes p q → is_between bytes q.index ≡ true
ending-following bytes p q is =
    let facts : (list_all is_low (ending_bytes is.ending) ≡ true) ×
    (0 < length (ending_bytes is.ending)) = ending-low is.ending in
    let size : q.index ≡ p.index + length (ending_bytes is.ending) = is.size in
    between-following bytes q.index
    (low-at bytes (ending_bytes is.ending) p.index q.index (q.index - 1) is.text is.size facts.0 (omega arith)
    (omega arith))

-- all these events are between characters
abbrev pub AreBetween : List ℕ → List Event → Type 0
AreBetween bytes events = list_all (λ (e : Event). is_between bytes e.point.index) events ≡ true

pub between-append : (bytes : List ℕ) (xs ys : List Event) → AreBetween bytes xs → AreBetween bytes ys →
    AreBetween bytes (xs ++ ys)
between-append bytes xs ys h k = all-append (λ (e : Event). is_between bytes e.point.index) xs ys h k

pub between-more : (bytes : List ℕ) (e : Event) (es : List Event) → is_between bytes e.point.index ≡ true →
    AreBetween bytes es → AreBetween bytes (e ∷ es)
between-more bytes e es h k =
    and_from (is_between bytes e.point.index) (list_all (λ (e : Event). is_between bytes e.point.index) es) h k

pub between-pair : (bytes : List ℕ) (name : Name) (p q : Point) → is_between bytes p.index ≡ true →
    is_between bytes q.index ≡ true → AreBetween bytes (pair name p q)
between-pair bytes name p q h k =
    between-more bytes (enter name p) (exit name q ∷ []) h (between-more bytes (exit name q) [] k refl)

pub between-unless : (bytes : List ℕ) (name : Name) (p q : Point) → is_between bytes p.index ≡ true →
    is_between bytes q.index ≡ true → AreBetween bytes (pair_unless_empty name p q)
between-unless bytes name p q h k = go (same_place p q)
  where
    go : (x : Bool) → AreBetween bytes (cond x [] (pair name p q))
    go true = refl
    go false = between-pair bytes name p q h k

pub chunk-between : (bytes : List ℕ) (p e q : Point) → line_end bytes (record { first = p; after = q }) ≡ e →
    is_between bytes p.index ≡ true → is_between bytes e.index ≡ true → is_between bytes q.index ≡ true →
    AreBetween bytes (plain_chunk bytes (record { first = p; after = q }))
chunk-between bytes p e q is first end after =
    subst (λ (x : Point). AreBetween bytes (pair_unless_empty n.Data p x ++ pair_unless_empty n.LineEnding x q))
    (sym is)
    (between-append bytes (pair_unless_empty n.Data p e) (pair_unless_empty n.LineEnding e q)
    (between-unless bytes n.Data p e first end) (between-unless bytes n.LineEnding e q end after))

-- a block around events
pub around-between : (bytes : List ℕ) (name : Name) (p q : Point) (inside : List Event) →
    is_between bytes p.index ≡ true → is_between bytes q.index ≡ true → AreBetween bytes inside →
    AreBetween bytes (around name p q inside)
around-between bytes name p q inside h k i =
    between-more bytes (enter name p) (inside ++ exit name q ∷ []) h
    (between-append bytes inside (exit name q ∷ []) i (between-more bytes (exit name q) [] k refl))

-- a byte of whitespace in a part of the text, or after its end
pub white-at : (bytes : List ℕ) (a e i : ℕ) → is_blank (slice_range bytes a e) ≡ true → a ≤ i → i < e →
    is_low (slice_index bytes i) ≡ true
white-at bytes a e i h k l = go (nat_lt (i - a) (length line)) refl
  where
    line : List ℕ
    line = slice_range bytes a e

    reads : slice_index bytes i ≡ get_or line (i - a) 0
    reads =
        let at : a + (i - a) ≡ i = omega arith in
        ap (λ (j : ℕ). get_or bytes j 0) (sym at) ∙ sym (get_or-drop a bytes (i - a) 0)
        ∙ sym (get_or-take (e - a) (drop a bytes) (i - a) 0 (omega arith))

    go : (x : Bool) → nat_lt (i - a) (length line) ≡ x → is_low (slice_index bytes i) ≡ true
    go true y =
        let inside : i - a < length line = grind (arith, nat_tests) in
        subst (λ (b : ℕ). is_low b ≡ true) (sym reads)
        (All-get_or (λ (b : ℕ). is_low b ≡ true) line (i - a) 0 inside
        (AllPass-from_list_all is_low line (blank-low line h)))
    go false y =
        let outside : length line ≤ i - a = grind (arith, nat_tests) in
        subst (λ (b : ℕ). is_low b ≡ true) (sym (reads ∙ get_or_past line (i - a) 0 outside)) refl

-- where whitespace ends
pub white-between : (bytes : List ℕ) (a e : ℕ) → is_blank (slice_range bytes a e) ≡ true → a ≤ e →
    is_between bytes a ≡ true → is_between bytes e ≡ true
white-between bytes a e h k from = go (a == e) refl
  where
    go : (x : Bool) → (a == e) ≡ x → is_between bytes e ≡ true
    go true y = subst (λ (i : ℕ). is_between bytes i ≡ true) (eqb-true a e y) from
    go false y =
        let below : a < e = grind (arith, nat_tests) in
        between-following bytes e (white-at bytes a e (e - 1) h (omega (arith, below)) (omega (arith, below)))
