-- Setext headings, event by event.
use Rattle.std.proofs.Common.{◌≡◌, ℕ, ◌+◌, Bool, true, false, cond, not, ◌&&◌, List, [], ◌∷◌, ◌++◌}
use Rattle.std.proofs.Common.{length, refl, ap, sym, ◌∙◌, append_assoc, arith}
use Rattle.std.specs.List.{All, prefix_len}
use Rattle.std.proofs.lemmas.List.Elements.{All-append, All-cons, All-head, All-nil, All-tail}
use Rattle.md_engine.specs.declared.event.Event.{Event}
use Rattle.md_engine.specs.declared.event.Kind.{Kind}
use Rattle.md_engine.specs.declared.event.Kind.TheVariants.{Enter, Exit}
use Rattle.md_engine.specs.declared.event.Name.{Name}
use Rattle.md_engine.specs.declared.event.Name.TheVariants as n
use Rattle.md_engine.specs.declared.event.Point.{Point}
use Rattle.md_engine.specs.Place.{IsPlaced}
use Rattle.md_leaves.specs.Turned.{BeginsText, HoldNoUnderline, EndsText, EndsUnderline, Stays, Turn, given, given_by}
use Rattle.md_leaves.specs.Turned.{has_underline, is_no_underline, is_paragraph, is_turned, is_underline, on_after}
use Rattle.md_leaves.specs.Turned.{on_by, passes, turn, turn_by, turned, turned_from, underline_after}
use Rattle.md_leaves.proofs.SpannedLemmas.{AtPoint, one-point}
use Rattle.md_events.specs.Events.Inline.{is_line_ending}
use Rattle.md_events.specs.Events.Nested.{around, enter, exit, is_enter, is_exit, pair}
use Rattle.md_events.specs.Events.Prefix.{is_prefix}
use Rattle.md_events.specs.Parts.{ArePlaced}

-- Events that pass.

-- they are of no paragraph and of no underline
pub passes-parts : (e : Event) → passes e ≡ true → (is_paragraph e.name ≡ false) × (is_underline e.name ≡ false)
passes-parts e h = go (is_paragraph e.name) (is_underline e.name) refl refl h
  where
    go : (x y : Bool) → is_paragraph e.name ≡ x → is_underline e.name ≡ y →
        cond x false (cond y false true) ≡ true →
        (is_paragraph e.name ≡ false) × (is_underline e.name ≡ false)
    go true y k l m = absurd (let no : false ≡ true = m in cc)
    go false true k l m = absurd (let no : false ≡ true = m in cc)
    go false false k l m = (k, l)

-- they leave headings as they are
turn-stays : (kind : Kind) (name : Name) → is_paragraph name ≡ false → is_underline name ≡ false →
    turn_by kind name ≡ Stays
turn-stays Enter n.Paragraph h k = absurd (let no : true ≡ false = h in cc)
turn-stays Exit n.Paragraph h k = absurd (let no : true ≡ false = h in cc)
turn-stays Enter n.HeadingSetextUnderline h k = refl
turn-stays Exit n.HeadingSetextUnderline h k = absurd (let no : true ≡ false = k in cc)
turn-stays Enter _ h k = refl
turn-stays Exit _ h k = refl

-- what an event does to headings, and what is given from it on
by-turn : (on : Bool) (e : Event) (es : List Event) (t : Turn) → turn e ≡ t →
    turned_from on (e ∷ es) ≡ given_by t on (is_turned es) e ++ turned_from (on_by t on (is_turned es)) es
by-turn on e es t is =
    ap (λ (t : Turn). given_by t on (is_turned es) e ++ turned_from (on_by t on (is_turned es)) es) is

-- they are given as they are
pub passes-given : (on : Bool) (e : Event) (es : List Event) → passes e ≡ true →
    turned_from on (e ∷ es) ≡ e ∷ turned_from on es
passes-given on e es h =
    let parts : (is_paragraph e.name ≡ false) × (is_underline e.name ≡ false) = passes-parts e h in
    by-turn on e es Stays (turn-stays e.kind e.name parts.0 parts.1)

-- Events of which none is of an underline.

-- none is after prefixes,
none-following : (es : List Event) → HoldNoUnderline es → underline_after es ≡ false
none-following [] h = refl
none-following (e ∷ es) h = rw h.0 (go (is_prefix e.name) (is_enter e.kind) (none-following es h.1))
  where
    go : (x y : Bool) → underline_after es ≡ false → cond x (underline_after es) (y && false) ≡ false
    go true y k = k
    go false true k = refl
    go false false k = refl

-- nor after the end of a paragraph,
none-has : (es : List Event) → HoldNoUnderline es → has_underline es ≡ false
none-has [] h = refl
none-has (e ∷ []) h = refl
none-has (e ∷ f ∷ es) h = rw (none-following es h.1.1) (go (is_line_ending e.name))
  where
    go : (x : Bool) → (x && false) ≡ false
    go true = refl
    go false = refl

-- nor after the next paragraph
none-turned : (es : List Event) → HoldNoUnderline es → is_turned es ≡ false
none-turned [] h = refl
none-turned (e ∷ es) h = go (is_exit e.kind && is_paragraph e.name) (none-turned es h.1)
  where
    go : (x : Bool) → is_turned es ≡ false → cond x (has_underline es) (is_turned es) ≡ false
    go true k = none-has es h.1
    go false k = k

-- so they stay as they are
pub no_underlines-turned : (es : List Event) → HoldNoUnderline es → turned es ≡ es
no_underlines-turned [] h = refl
no_underlines-turned (e ∷ es) h =
    by-turn false e es (turn e) refl
    ∙ ap (λ (begins : Bool). given_by (turn e) false begins e ++ turned_from (on_by (turn e) false begins) es)
    (none-turned es h.1)
    ∙ go (turn e) ∙ ap (λ (l : List Event). e ∷ l) (no_underlines-turned es h.1)
  where
    go : (t : Turn) → given_by t false false e ++ turned_from (on_by t false false) es ≡ e ∷ turned es
    go BeginsText = refl
    go EndsText = refl
    go EndsUnderline = refl
    go Stays = refl

-- whether they are so, by a count
counted-none : (es : List Event) → prefix_len is_no_underline es ≡ length es → HoldNoUnderline es
counted-none [] all = tt
counted-none (e ∷ es) all = go (is_underline e.name) refl (λ rest. counted-none es rest) all
  where
    go : (x : Bool) → is_underline e.name ≡ x → (prefix_len is_no_underline es ≡ length es → HoldNoUnderline es) →
        cond (not x) (1 + prefix_len is_no_underline es) 0 ≡ length (e ∷ es) → HoldNoUnderline (e ∷ es)
    go true here more all = absurd (let no : 0 ≡ length (e ∷ es) = all in cc)
    go false here more all = (here, more (omega (arith, all)))

-- where no event is of an underline, all stay as they are
pub turned-none : (events : List Event) → prefix_len is_no_underline events ≡ length events → turned events ≡ events
turned-none events all = no_underlines-turned events (counted-none events all)

-- Points.

-- Headings and their texts begin and end where paragraphs and underlines do, so what holds of the points of events
-- still does:

-- of two events,
two-points : (P : Point → Type 0) (e f : Event) → P e.point → P f.point → All (AtPoint P) (e ∷ f ∷ [])
two-points P e f h k = All-cons (AtPoint P) e (f ∷ []) h (one-point P f k)

-- of what is given for an event,
given-points : (P : Point → Type 0) (t : Turn) (on begins : Bool) (e : Event) → P e.point →
    All (AtPoint P) (given_by t on begins e)
given-points P BeginsText on true e h = two-points P _ _ h h
given-points P BeginsText on false e h = one-point P e h
given-points P EndsText true begins e h = one-point P _ h
given-points P EndsText false begins e h = one-point P e h
given-points P EndsUnderline true begins e h = two-points P e _ h h
given-points P EndsUnderline false begins e h = one-point P e h
given-points P Stays on begins e h = one-point P e h

-- and of what is given for all
turned-points : (P : Point → Type 0) (on : Bool) (es : List Event) → All (AtPoint P) es →
    All (AtPoint P) (turned_from on es)
turned-points P on [] h = All-nil (AtPoint P)
turned-points P on (e ∷ es) h =
    All-append (AtPoint P) (given on e es) (turned_from (on_after on e es) es)
    (given-points P (turn e) on (is_turned es) e (All-head (AtPoint P) e es h))
    (turned-points P (on_after on e es) es (All-tail (AtPoint P) e es h))

-- placed events stay placed
pub turned-placed : (text : List ℕ) (events : List Event) → ArePlaced text events → ArePlaced text (turned events)
turned-placed text events h = turned-points (IsPlaced text) false events h

-- Texts and their underlines.

-- events that pass
abbrev pub AreUnturned : List Event → Type 0
AreUnturned [] = Unit {0}
AreUnturned (e ∷ es) = (passes e ≡ true) × AreUnturned es

-- they stay as they are, before any others
pub turned-passes : (on : Bool) (xs es : List Event) → AreUnturned xs →
    turned_from on (xs ++ es) ≡ xs ++ turned_from on es
turned-passes on [] es h = refl
turned-passes on (e ∷ xs) es h =
    passes-given on e (xs ++ es) h.0 ∙ ap (λ (l : List Event). e ∷ l) (turned-passes on xs es h.1)

-- a look ahead for the end of a paragraph passes them
turned-past : (xs es : List Event) → AreUnturned xs → is_turned (xs ++ es) ≡ is_turned es
turned-past [] es h = refl
turned-past (e ∷ xs) es h =
    rw (passes-parts e h.0).0 (go (is_exit e.kind) (turned-past xs es h.1))
  where
    go : (x : Bool) → is_turned (xs ++ es) ≡ is_turned es →
        cond (x && false) (has_underline (xs ++ es)) (is_turned (xs ++ es)) ≡ is_turned es
    go true k = k
    go false k = k

-- whether a paragraph is turned is known from what follows it
turned-ahead : (q : Point) (inside es : List Event) → AreUnturned inside →
    is_turned ((inside ++ exit n.Paragraph q ∷ []) ++ es) ≡ has_underline es
turned-ahead q inside es h =
    ap is_turned (append_assoc inside (exit n.Paragraph q ∷ []) es)
    ∙ turned-past inside (exit n.Paragraph q ∷ es) h

-- a part whose inside passes
turned-inside : (on : Bool) (inside : List Event) (e : Event) (es : List Event) → AreUnturned inside →
    turned_from on ((inside ++ e ∷ []) ++ es) ≡ inside ++ turned_from on (e ∷ es)
turned-inside on inside e es h =
    ap (turned_from on) (append_assoc inside (e ∷ []) es) ∙ turned-passes on inside (e ∷ es) h

-- A paragraph without an underline stays as it is.
pub turned-text : (p q : Point) (inside es : List Event) → AreUnturned inside → has_underline es ≡ false →
    turned (around n.Paragraph p q inside ++ es) ≡ around n.Paragraph p q inside ++ turned es
turned-text p q inside es h none =
    begun (turned-ahead q inside es h ∙ none)
    ∙ ap (λ (l : List Event). enter n.Paragraph p ∷ l)
    (turned-inside false inside (exit n.Paragraph q) es h
    ∙ sym (append_assoc inside (exit n.Paragraph q ∷ []) (turned es)))
  where
    rest : List Event
    rest = (inside ++ exit n.Paragraph q ∷ []) ++ es

    begun : is_turned rest ≡ false → turned (enter n.Paragraph p ∷ rest) ≡ enter n.Paragraph p ∷ turned_from false rest
    begun k =
        ap
        (λ (begins : Bool).
        given_by BeginsText false begins (enter n.Paragraph p) ++ turned_from (on_by BeginsText false begins) rest)
        k

-- the events of a heading, one after the other, and as parts
regrouped : (xs ys zs rest : List Event) (x y z w : Event) →
    xs ++ x ∷ (ys ++ y ∷ (zs ++ z ∷ w ∷ rest))
    ≡ (((xs ++ x ∷ []) ++ (ys ++ y ∷ (zs ++ z ∷ []))) ++ w ∷ []) ++ rest
regrouped xs ys zs rest x y z w = simp append_assoc

-- A paragraph with an underline is the text of a heading, which ends with the underline.
pub turned-heading : (p q a b : Point) (inside between under es : List Event) → AreUnturned inside →
    AreUnturned between → AreUnturned under →
    has_underline (between ++ (around n.HeadingSetextUnderline a b under ++ es)) ≡ true →
    turned (around n.Paragraph p q inside ++ (between ++ (around n.HeadingSetextUnderline a b under ++ es)))
    ≡ around n.HeadingSetext p b
    (around n.HeadingSetextText p q inside ++ (between ++ around n.HeadingSetextUnderline a b under))
    ++ turned es
turned-heading p q a b inside between under es h k l has =
    begun (turned-ahead q inside following h ∙ has)
    ∙ ap (λ (l : List Event). enter n.HeadingSetext p ∷ enter n.HeadingSetextText p ∷ l)
    (turned-inside true inside (exit n.Paragraph q) following h
    ∙ ap (λ (l : List Event). inside ++ exit n.HeadingSetextText q ∷ l)
    (turned-passes true between (around n.HeadingSetextUnderline a b under ++ es) k
    ∙ ap (λ (l : List Event). between ++ enter n.HeadingSetextUnderline a ∷ l)
    (turned-inside true under (exit n.HeadingSetextUnderline b) es l))
    ∙ regrouped inside between under (turned es) (exit n.HeadingSetextText q) (enter n.HeadingSetextUnderline a)
    (exit n.HeadingSetextUnderline b) (exit n.HeadingSetext b))
  where
    following : List Event
    following = between ++ (around n.HeadingSetextUnderline a b under ++ es)

    rest : List Event
    rest = (inside ++ exit n.Paragraph q ∷ []) ++ following

    begun : is_turned rest ≡ true →
        turned (enter n.Paragraph p ∷ rest)
        ≡ enter n.HeadingSetext p ∷ enter n.HeadingSetextText p ∷ turned_from true rest
    begun k =
        ap
        (λ (begins : Bool).
        given_by BeginsText false begins (enter n.Paragraph p) ++ turned_from (on_by BeginsText false begins) rest)
        k

-- What follows a paragraph.

-- events of container prefixes
abbrev pub ArePrefixes : List Event → Type 0
ArePrefixes [] = Unit {0}
ArePrefixes (e ∷ es) = (is_prefix e.name ≡ true) × ArePrefixes es

-- a prefix is of no paragraph and of no underline
prefix-passes : (e : Event) → is_prefix e.name ≡ true → passes e ≡ true
prefix-passes e h = go e.name h
  where
    go : (name : Name) → is_prefix name ≡ true →
        cond (is_paragraph name) false (cond (is_underline name) false true) ≡ true
    go n.Paragraph h = absurd (let no : false ≡ true = h in cc)
    go n.HeadingSetextUnderline h = absurd (let no : false ≡ true = h in cc)
    go _ h = refl

-- so they pass
pub prefixes-unturned : (front : List Event) → ArePrefixes front → AreUnturned front
prefixes-unturned [] h = tt
prefixes-unturned (e ∷ front) h = (prefix-passes e h.0, prefixes-unturned front h.1)

-- and a look ahead for an underline passes them
pub underline-past : (front es : List Event) → ArePrefixes front →
    underline_after (front ++ es) ≡ underline_after es
underline-past [] es h = refl
underline-past (e ∷ front) es h = rw h.0 (underline-past front es h.1)

-- after an ending and prefixes an underline is seen
pub ending-underline : (x y a : Point) (front more : List Event) → ArePrefixes front →
    has_underline ((pair n.LineEnding x y ++ front) ++ enter n.HeadingSetextUnderline a ∷ more) ≡ true
ending-underline x y a front more h = underline-past front (enter n.HeadingSetextUnderline a ∷ more) h

-- So a paragraph, an ending, prefixes and an underline are a heading.
pub turned-underlined : (p q x y a b : Point) (inside front under es : List Event) → AreUnturned inside →
    ArePrefixes front → AreUnturned under →
    turned
    (around n.Paragraph p q inside
    ++ ((pair n.LineEnding x y ++ front) ++ (around n.HeadingSetextUnderline a b under ++ es)))
    ≡ around n.HeadingSetext p b
    (around n.HeadingSetextText p q inside
    ++ ((pair n.LineEnding x y ++ front) ++ around n.HeadingSetextUnderline a b under))
    ++ turned es
turned-underlined p q x y a b inside front under es h k l =
    turned-heading p q a b inside (pair n.LineEnding x y ++ front) under es h
    (refl, (refl, prefixes-unturned front k)) l
    (ending-underline x y a front ((under ++ exit n.HeadingSetextUnderline b ∷ []) ++ es) k)

-- no underline begins after the prefixes before these
abbrev pub Unlined : List Event → Type 0
Unlined es = underline_after es ≡ false

-- nor one that ends before anything but an ending
pub no-ending : (e : Event) (es : List Event) → is_line_ending e.name ≡ false → has_underline (e ∷ es) ≡ false
no-ending e [] h = refl
no-ending e (f ∷ es) h = rw h refl
