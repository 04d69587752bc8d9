-- Events that part no text, and points that cut no tab of a character.
use Rattle.std.proofs.Common.{◌≡◌, ℕ, ◌+◌, ◌-◌, ◌≤◌, Bool, true, false, cond, ◌&&◌, ◌||◌, List, [], ◌∷◌, ◌++◌, refl, ap}
use Rattle.std.proofs.Common.{sym, ◌∙◌, subst, append_assoc, arith}
use Rattle.std.specs.Prelude.{◌==◌, slice_index, Option, Some, None}
use Rattle.md_engine.specs.declared.event.Event.{Event}
use Rattle.md_engine.specs.declared.event.Kind.{Kind}
use Rattle.md_engine.specs.declared.event.Kind.TheVariants.{Enter, Exit}
use Rattle.md_engine.specs.declared.event.Name.{Name}
use Rattle.md_engine.specs.declared.event.Point.{Point}
use Rattle.md_events.specs.declared.inline.Chunk.{Chunk}
use Rattle.md_events.specs.Events.Inline.{plain_chunk}
use Rattle.md_events.specs.Events.Nested.{around, enter, exit}
use Rattle.md_events.specs.Events.Spelled.{IsEnding as EndingRole, IsPrefix as PrefixRole, IsQuiet, Role, TextRole}
use Rattle.md_events.specs.Events.Spelled.{byte_at, role}
use Rattle.md_events.proofs.SpelledLemmas.{Quiet, QuietOrEnding, Roles}
use Rattle.md_outline.specs.Between.{is_between}
use Rattle.md_outline.specs.Outlined.{OpenTextSpan, are_parted, parts_by, span_by}
use Rattle.proof_frame.proofs.PlainRoles.{chunk-roles}
use Rattle.proof_frame.proofs.BetweenFacts.{between-following, is_low}

-- a point that cuts no tab, or one after whose tab is a place between characters
abbrev pub clear : List ℕ → Point → Bool
clear bytes p = (p.vs == 0) || is_between bytes (byte_at p)

pub clear-between : (bytes : List ℕ) (p : Point) → clear bytes p ≡ true → is_between bytes p.index ≡ true →
    is_between bytes (byte_at p) ≡ true
clear-between bytes p h k = go (p.vs == 0) h
  where
    go : (x : Bool) → (x || is_between bytes (cond x p.index (p.index + 1))) ≡ true →
        is_between bytes (cond x p.index (p.index + 1)) ≡ true
    go true h = k
    go false h = h

-- after a byte of ASCII
pub low-clear : (bytes : List ℕ) (p : Point) → ((p.vs == 0) ≡ false → is_low (slice_index bytes p.index) ≡ true) →
    clear bytes p ≡ true
low-clear bytes p h = go (p.vs == 0) refl
  where
    same : p.index + 1 - 1 ≡ p.index
    same = omega arith

    go : (x : Bool) → (p.vs == 0) ≡ x → (x || is_between bytes (cond x p.index (p.index + 1))) ≡ true
    go true e = refl
    go false e =
        between-following bytes (p.index + 1) (subst (λ (i : ℕ). is_low (slice_index bytes i) ≡ true) (sym same) (h e))

pub byte-from : (p : Point) → p.index ≤ byte_at p
byte-from p = go (p.vs == 0)
  where
    go : (x : Bool) → p.index ≤ cond x p.index (p.index + 1)
    go true = omega arith
    go false = omega arith

-- no text begins in them that does not end
abbrev pub PrefixesAtLineStart : List ℕ → List Event → Type 0
PrefixesAtLineStart bytes xs =
    (ys : List Event) → are_parted bytes None ys ≡ true → are_parted bytes None (xs ++ ys) ≡ true

pub sits-append : (bytes : List ℕ) (xs ys : List Event) → PrefixesAtLineStart bytes xs → PrefixesAtLineStart bytes ys →
    PrefixesAtLineStart bytes (xs ++ ys)
sits-append bytes xs ys h k zs z = ap (are_parted bytes None) (append_assoc xs ys zs) ∙ h (ys ++ zs) (k zs z)

-- what is no text
abbrev pub Still : Role → Type 0
Still (TextRole purpose) = ⊥
Still _ = Unit {0}

pub still-span : (kind : Kind) (x : Role) (p : Point) → Still x → span_by kind x p None ≡ None
still-span Enter (TextRole purpose) p h = absurd h
still-span Exit (TextRole purpose) p h = absurd h
still-span Enter PrefixRole p h = refl
still-span Exit PrefixRole p h = refl
still-span Enter _ p h = refl
still-span Exit _ p h = refl

pub sits-still : (bytes : List ℕ) (xs : List Event) → Roles Still xs → PrefixesAtLineStart bytes xs
sits-still bytes [] h ys k = k
sits-still bytes (e ∷ xs) h ys k =
    ap (λ (s : Option OpenTextSpan). are_parted bytes s (xs ++ ys)) (still-span e.kind (role e.name) e.point h.0)
    ∙ sits-still bytes xs h.1 ys k

pub quiet-still : (x : Role) → Quiet x → Still x
quiet-still IsQuiet h = tt
quiet-still _ h = absurd h

pub quiets-still : (es : List Event) → Roles Quiet es → Roles Still es
quiets-still [] h = tt
quiets-still (e ∷ es) h = (quiet-still (role e.name) h.0, quiets-still es h.1)

-- what is in a text and parts it not
pub parts-quiet : (bytes : List ℕ) (kind : Kind) (x : Role) (p : Point) (s : Option OpenTextSpan) → QuietOrEnding x →
    parts_by bytes kind x p s ≡ true
parts-quiet bytes kind x p None h = refl
parts-quiet bytes Enter IsQuiet p (Some span) h = refl
parts-quiet bytes Exit IsQuiet p (Some span) h = refl
parts-quiet bytes Enter EndingRole p (Some span) h = refl
parts-quiet bytes Exit EndingRole p (Some span) h = refl
parts-quiet bytes kind _ p (Some span) h = absurd h

pub span-quiet : (kind : Kind) (x : Role) (p : Point) (s : Option OpenTextSpan) → QuietOrEnding x →
    span_by kind x p s ≡ s
span-quiet Enter IsQuiet p s h = refl
span-quiet Exit IsQuiet p s h = refl
span-quiet Enter EndingRole p s h = refl
span-quiet Exit EndingRole p s h = refl
span-quiet kind _ p s h = absurd h

pub passes : (bytes : List ℕ) (s : Option OpenTextSpan) (xs ys : List Event) → Roles QuietOrEnding xs →
    are_parted bytes s (xs ++ ys) ≡ are_parted bytes s ys
passes bytes s [] ys h = refl
passes bytes s (e ∷ xs) ys h =
    ap (λ (x : Bool). x && are_parted bytes (span_by e.kind (role e.name) e.point s) (xs ++ ys))
    (parts-quiet bytes e.kind (role e.name) e.point s h.0)
    ∙ ap (λ (t : Option OpenTextSpan). are_parted bytes t (xs ++ ys)) (span-quiet e.kind (role e.name) e.point s h.0)
    ∙ passes bytes s xs ys h.1

pub passes-chunk : (bytes : List ℕ) (s : Option OpenTextSpan) (chunk : Chunk) (ys : List Event) →
    are_parted bytes s (plain_chunk bytes chunk ++ ys) ≡ are_parted bytes s ys
passes-chunk bytes s chunk ys =
    passes bytes s (plain_chunk bytes chunk) ys (chunk-roles QuietOrEnding bytes chunk tt tt)

pub around-sits : (bytes : List ℕ) (name : Name) (p q : Point) (inside : List Event) → Still (role name) →
    PrefixesAtLineStart bytes inside → PrefixesAtLineStart bytes (around name p q inside)
around-sits bytes name p q inside h k =
    sits-append bytes (enter name p ∷ []) (inside ++ exit name q ∷ []) (sits-still bytes (enter name p ∷ []) (h, tt))
    (sits-append bytes inside (exit name q ∷ []) k (sits-still bytes (exit name q ∷ []) (h, tt)))
