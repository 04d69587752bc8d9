-- What a text that is being read becomes, event by event.
use Rattle.std.proofs.Common.{◌≡◌, ℕ, ◌-◌, ◌≤◌, true, List, [], ◌∷◌, ◌++◌, take, drop, slice_range, ap, ◌∙◌}
use Rattle.std.proofs.Common.{append_assoc, arith}
use Rattle.std.proofs.lemmas.Bool.{and_from, and_parts}
use Rattle.md_engine.specs.declared.event.Event.{Event}
use Rattle.md_meaning.specs.Rest.{is_blank, is_white}
use Rattle.md_events.specs.Events.Spelled.{Text, text_to}
use Rattle.md_events.proofs.FeedLines.{slice-split}
use Rattle.md_events.proofs.SpelledLemmas.{QuietOrEnding, Roles, text-inline, text_after, text_after-append}

-- no bytes are between a place and itself
pub slice-none : (bytes : List ℕ) (i : ℕ) → slice_range bytes i i ≡ []
slice-none bytes i = let none : i - i ≡ 0 = omega arith in ap (λ (k : ℕ). take k (drop i bytes)) none

-- From a byte on, a text that is being read becomes these bytes with these events; what is before is kept.
abbrev pub Collects : List ℕ → List Event → ℕ → ℕ → List ℕ → Type 0
Collects bytes es from end all =
    (t : Text) → t.from ≤ from →
    text_to bytes end (text_after bytes t es) ≡ t.front ++ (slice_range bytes t.from from ++ all)

-- what an inline layer gives
pub collects-inline : (bytes : List ℕ) (es : List Event) (from end : ℕ) → Roles QuietOrEnding es → from ≤ end →
    Collects bytes es from end (slice_range bytes from end)
collects-inline bytes es from end inline le =
    λ t h. ap (text_to bytes end) (text-inline bytes t es inline)
    ∙ ap (λ (l : List ℕ). t.front ++ l) (slice-split bytes t.from from end h le)

-- and what comes after it
pub collects-following : (bytes : List ℕ) (xs ys : List Event) (from end : ℕ) (all : List ℕ) → Roles QuietOrEnding xs →
    Collects bytes ys from end all → Collects bytes (xs ++ ys) from end all
collects-following bytes xs ys from end all inline c =
    λ t h. ap (text_to bytes end)
    (text_after-append bytes t xs ys ∙ ap (λ (x : Text). text_after bytes x ys) (text-inline bytes t xs inline))
    ∙ c t h

-- from an earlier byte on
pub collects-back : (bytes : List ℕ) (es : List Event) (i from end : ℕ) (all : List ℕ) → i ≤ from →
    Collects bytes es from end all → Collects bytes es i end (slice_range bytes i from ++ all)
collects-back bytes es i from end all le c = λ t h.
    c t (omega arith)
    ∙ ap (λ (l : List ℕ). t.front ++ (l ++ all)) (slice-split bytes t.from i from h le)
    ∙ ap (λ (l : List ℕ). t.front ++ l) (append_assoc (slice_range bytes t.from i) (slice_range bytes i from) all)

-- Whitespace.

-- what is whitespace is so after some of it
pub blank-following : (xs ys : List ℕ) → is_blank (xs ++ ys) ≡ true → is_blank ys ≡ true
blank-following [] ys h = h
blank-following (b ∷ xs) ys h = blank-following xs ys (and_parts (is_white b) (is_blank (xs ++ ys)) h).1

-- whitespace after whitespace is whitespace
pub blank-append : (xs ys : List ℕ) → is_blank xs ≡ true → is_blank ys ≡ true → is_blank (xs ++ ys) ≡ true
blank-append [] ys h k = k
blank-append (b ∷ xs) ys h k =
    let parts = and_parts (is_white b) (is_blank xs) h in
    and_from (is_white b) (is_blank (xs ++ ys)) parts.0 (blank-append xs ys parts.1 k)
