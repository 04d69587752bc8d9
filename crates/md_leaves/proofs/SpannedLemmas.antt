-- Blocks of several lines, event by event.
use Rattle.std.proofs.Common.{◌≡◌, ℕ, zero, suc, ◌+◌, ◌≤◌, Bool, true, false, cond, not, ◌&&◌, List, [], ◌∷◌, ◌++◌}
use Rattle.std.proofs.Common.{take, drop, length, refl, ap, sym, ◌∙◌, append_assoc, append-nil, arith}
use Rattle.std.specs.List.{All, prefix_len}
use Rattle.std.proofs.lemmas.Bool.{and_parts}
use Rattle.std.proofs.lemmas.List.{drop_all, take_all}
use Rattle.std.proofs.lemmas.List.Elements.{All-append, All-cons, All-head, All-nil, All-tail}
use Rattle.md_engine.specs.declared.event.Event.{Event}
use Rattle.md_engine.specs.declared.event.Name.{Name}
use Rattle.md_engine.specs.declared.event.Name.TheVariants as n
use Rattle.md_engine.specs.declared.event.Point.{Point}
use Rattle.md_engine.specs.Place.{IsPlaced}
use Rattle.md_leaves.specs.declared.spans.Place.{Place}
use Rattle.md_leaves.specs.declared.spans.Place.TheVariants.{Between, Inside, Outside}
use Rattle.md_leaves.specs.Spanned.{Begins, Ends, IsContinued, Stays, Turn, given, given_by, is_continued, has_lines}
use Rattle.md_leaves.specs.Spanned.{is_blank_ending, is_code_line, passes_on, is_renamed, links_back, name_at, passes}
use Rattle.md_leaves.specs.Spanned.{place_after, place_by, renamed, spanned, spanned_from, turn, turn_by}
use Rattle.md_leaves.specs.Turned.{HoldNoUnderline, is_no_underline, is_underline}
use Rattle.md_events.specs.Events.Spelled.{role}
use Rattle.md_events.specs.Parts.{ArePlaced}

-- Events that pass.

-- where no line begins or ends an event is given by its name there,
pub stays-given : (place : Place) (e : Event) (es : List Event) → has_lines (role e.name) ≡ false →
    spanned_from place (e ∷ es) ≡ renamed place e ∷ spanned_from place es
stays-given place e es h =
    ap
    (λ (x : Bool).
    given_by (turn_by e.kind x (links_back e.link)) place (is_continued es) e
    ++ spanned_from (place_by (turn_by e.kind x (links_back e.link)) place (is_continued es)) es)
    h

-- which is its own unless it is renamed
pub name-same : (place : Place) (name : Name) → is_renamed place name ≡ false → name_at place name ≡ name
name-same Outside name h = rw h refl
name-same Inside name h = refl
name-same Between name h = rw h refl

pub passes-given : (place : Place) (e : Event) (es : List Event) → passes place e ≡ true →
    spanned_from place (e ∷ es) ≡ e ∷ spanned_from place es
passes-given place e es h = go (has_lines (role e.name)) (is_renamed place e.name) refl refl h
  where
    go : (x y : Bool) → has_lines (role e.name) ≡ x → is_renamed place e.name ≡ y → (not x && not y) ≡ true →
        spanned_from place (e ∷ es) ≡ e ∷ spanned_from place es
    go true y k l m = absurd (let no : false ≡ true = m in cc)
    go false true k l m = absurd (let no : false ≡ true = m in cc)
    go false false k l m =
        stays-given place e es k
        ∙ ap (λ (name : Name). record e { name = name } ∷ spanned_from place es) (name-same place e.name l)

-- and so are some before the next that does not pass
pub spanned-some : (place : Place) (es : List Event) (many : ℕ) → many ≤ prefix_len (passes place) es →
    spanned_from place es ≡ take many es ++ spanned_from place (drop many es)
spanned-some place es zero le = refl
spanned-some place [] (suc many) le = refl
spanned-some place (e ∷ es) (suc many) le =
    go (passes place e) refl (λ less. spanned-some place es many less) le
  where
    go : (x : Bool) → passes place e ≡ x →
        (many ≤ prefix_len (passes place) es →
        spanned_from place es ≡ take many es ++ spanned_from place (drop many es)) →
        suc many ≤ cond x (1 + prefix_len (passes place) es) 0 →
        spanned_from place (e ∷ es) ≡ e ∷ (take many es ++ spanned_from place (drop many es))
    go true h more le = passes-given place e es h ∙ ap (λ (l : List Event). e ∷ l) (more (omega (arith, le)))
    go false h more le = absurd (omega (arith, le))

-- where all events pass, they stay as they are
pub spanned-none : (events : List Event) → prefix_len (passes Outside) events ≡ length events → spanned events ≡ events
spanned-none events all =
    spanned-some Outside events (length events) (omega (arith, all))
    ∙ ap (λ (l : List Event). take (length events) events ++ spanned_from Outside l)
    (drop_all (length events) events (let le : length events ≤ length events = omega arith in le))
    ∙ append-nil (take (length events) events) ∙ take_all (length events) events (omega arith)

-- what passes one test passes a weaker one
pub fewer : (p q : Event → Bool) → ((e : Event) → p e ≡ true → q e ≡ true) → (es : List Event) →
    prefix_len p es ≤ prefix_len q es
fewer p q gives [] = omega arith
fewer p q gives (e ∷ es) = go (p e) refl (fewer p q gives es)
  where
    go : (x : Bool) → p e ≡ x → prefix_len p es ≤ prefix_len q es →
        cond x (1 + prefix_len p es) 0 ≤ cond (q e) (1 + prefix_len q es) 0
    go true here le = rw (gives e here) (omega (arith, le))
    go false here le = omega arith

pub passing-on : (place : Place) (es : List Event) → prefix_len (passes_on place) es ≤ prefix_len (passes place) es
passing-on place es =
    fewer (passes_on place) (passes place) (λ e h. (and_parts (passes place e) (is_no_underline e) h).0) es

-- The walk passes some events,
pub walk-passed : (place now : Place) (given left new after all : List Event) (many : ℕ) →
    many ≤ prefix_len (passes place) left → new ≡ given ++ take many left → after ≡ drop many left → now ≡ place →
    given ++ spanned_from place left ≡ all → new ++ spanned_from now after ≡ all
walk-passed place now given left new after all many le is kept same so_far =
    rw (is, kept, same)
    (append_assoc given (take many left) (spanned_from place (drop many left))
    ∙ ap (λ (l : List Event). given ++ l) (sym (spanned-some place left many le)) ∙ so_far)

-- and takes the event after them.
pub walk-stepped : (place now : Place) (so_far left new after all : List Event) (e : Event) → left ≡ e ∷ drop 1 left →
    new ≡ so_far ++ given place e (drop 1 left) → after ≡ drop 1 left → now ≡ place_after place e (drop 1 left) →
    so_far ++ spanned_from place left ≡ all → new ++ spanned_from now after ≡ all
walk-stepped place now so_far left new after all e front is kept there whole =
    rw (is, kept, there)
    (append_assoc so_far (given place e (drop 1 left))
    (spanned_from (place_after place e (drop 1 left)) (drop 1 left))
    ∙ ap (λ (l : List Event). so_far ++ spanned_from place l) (sym front) ∙ whole)

-- At the end all is given.
pub walk-done : (place : Place) (given left all : List Event) → left ≡ [] → given ++ spanned_from place left ≡ all →
    given ≡ all
walk-done place given left all none so_far =
    sym (append-nil given) ∙ ap (λ (l : List Event). given ++ spanned_from place l) (sym none) ∙ so_far

-- Points.

-- Events are left out and renamed, so what holds of the points of events still does.
abbrev pub AtPoint : (Point → Type 0) → Event → Type 0
AtPoint P e = P e.point

-- of one event
pub one-point : (P : Point → Type 0) (e : Event) → P e.point → All (AtPoint P) (e ∷ [])
one-point P e h = All-cons (AtPoint P) e [] h (All-nil (AtPoint P))

given-points : (P : Point → Type 0) (t : Turn) (place : Place) (further : Bool) (e : Event) → P e.point →
    All (AtPoint P) (given_by t place further e)
given-points P Begins place further e h = one-point P e h
given-points P IsContinued Outside further e h = one-point P e h
given-points P IsContinued Inside further e h = one-point P e h
given-points P IsContinued Between further e h = All-nil (AtPoint P)
given-points P Ends place true e h = All-nil (AtPoint P)
given-points P Ends place false e h = one-point P e h
given-points P Stays place further e h = one-point P (renamed place e) h

spanned-points : (P : Point → Type 0) (place : Place) (es : List Event) → All (AtPoint P) es →
    All (AtPoint P) (spanned_from place es)
spanned-points P place [] h = All-nil (AtPoint P)
spanned-points P place (e ∷ es) h =
    All-append (AtPoint P) (given place e es) (spanned_from (place_after place e es) es)
    (given-points P (turn e) place (is_continued es) e (All-head (AtPoint P) e es h))
    (spanned-points P (place_after place e es) es (All-tail (AtPoint P) e es h))

-- placed events stay placed
pub spanned-placed : (text : List ℕ) (events : List Event) → ArePlaced text events → ArePlaced text (spanned events)
spanned-placed text events h = spanned-points (IsPlaced text) Outside events h

-- Underlines.

pub plain-append : (xs ys : List Event) → HoldNoUnderline xs → HoldNoUnderline ys → HoldNoUnderline (xs ++ ys)
plain-append [] ys h k = k
plain-append (e ∷ xs) ys h k = (h.0, plain-append xs ys h.1 k)

-- what passes is none,
pub plain-passed : (place : Place) (es : List Event) (many : ℕ) → many ≤ prefix_len (passes_on place) es →
    HoldNoUnderline (take many es)
plain-passed place es zero le = tt
plain-passed place [] (suc many) le = tt
plain-passed place (e ∷ es) (suc many) le =
    go (passes_on place e) refl (λ less. plain-passed place es many less) le
  where
    none : (x : Bool) → not x ≡ true → x ≡ false
    none false h = refl
    none true h = cc

    go : (x : Bool) → passes_on place e ≡ x →
        (many ≤ prefix_len (passes_on place) es → HoldNoUnderline (take many es)) →
        suc many ≤ cond x (1 + prefix_len (passes_on place) es) 0 → HoldNoUnderline (e ∷ take many es)
    go true h more le = (
      none (is_underline e.name) (and_parts (passes place e) (is_no_underline e) h).1,
      more (omega (arith, le)),
    )
    go false h more le = absurd (omega (arith, le))

-- nor is what is given for an event that is none
renamed-plain : (place : Place) (e : Event) → is_underline e.name ≡ false → is_underline (renamed place e).name ≡ false
renamed-plain Inside e h = h
renamed-plain Outside e h = go (is_code_line e.name)
  where
    go : (x : Bool) → is_underline (cond x n.SpaceOrTab e.name) ≡ false
    go true = refl
    go false = h
renamed-plain Between e h = go (is_blank_ending e.name)
  where
    go : (x : Bool) → is_underline (cond x n.LineEnding e.name) ≡ false
    go true = refl
    go false = h

pub plain-given : (t : Turn) (place : Place) (further : Bool) (e : Event) → is_underline e.name ≡ false →
    HoldNoUnderline (given_by t place further e)
plain-given Begins place further e h = (h, tt)
plain-given IsContinued Outside further e h = (h, tt)
plain-given IsContinued Inside further e h = (h, tt)
plain-given IsContinued Between further e h = tt
plain-given Ends place true e h = tt
plain-given Ends place false e h = (h, tt)
plain-given Stays place further e h = (renamed-plain place e h, tt)
