-- Where no underline is, no setext heading is set.
use Rattle.std.proofs.Common.{◌≡◌, inl, inr, ℕ, Bool, true, false, cond, not, ◌&&◌, ◌||◌}
use Rattle.std.proofs.Common.{List, [], ◌∷◌, ◌++◌, refl, ap, sym}
use Rattle.std.specs.Prelude.{Option, Some, None}
use Rattle.md_engine.specs.declared.event.Event.{Event}
use Rattle.md_engine.specs.declared.event.Name.TheVariants as n
use Rattle.md_engine.specs.declared.event.Point.{Point}
use Rattle.md_containers.specs.Listed.{Begins, Ends, Place as ListPlace, Stays, Turn, given_by, is_continued}
use Rattle.md_containers.specs.Listed.{list_begin, list_end, list_name, listed, listed_from, marker_ahead, next_item}
use Rattle.md_containers.specs.Listed.{outside, place_after, turn}
use Rattle.md_leaves.specs.HeadingText.{Before, Opened, Outside, Place, Within, begins, ends, headings_resolved}
use Rattle.md_leaves.specs.HeadingText.{is_heading, is_run, is_sequence, resolved, text_between}
use Rattle.md_leaves.specs.Turned.{HoldNoUnderline, is_underline, turned}
use Rattle.md_leaves.proofs.TurnedLemmas.{no_underlines-turned}
use Rattle.md_order.specs.Alone.{MayPass, is_one}
use Rattle.md_order.specs.InOrder.{in_order, set_if}
use Rattle.md_order.specs.declared.wanted.Wanted.{Wanted}
use Rattle.md_events.specs.Events.Nested.{exit}
use Rattle.md_events.specs.Events.Spelled.{is_ordered, role}
use Rattle.md_events.specs.Events.Tiles.{is_data}
use Rattle.md_tables.specs.Tabled.{tabled}

-- events of no underline
abbrev Plain : List Event → Type 0
Plain es = HoldNoUnderline es

plain-append : (xs ys : List Event) → Plain xs → Plain ys → Plain (xs ++ ys)
plain-append [] ys h k = k
plain-append (e ∷ xs) ys h k = (h.0, plain-append xs ys h.1 k)

-- Lists are none.

list-plain : (marker : ℕ) → is_underline (list_name marker) ≡ false
list-plain marker = go (is_ordered marker)
  where
    go : (x : Bool) → is_underline (cond x n.ListOrdered n.ListUnordered) ≡ false
    go true = refl
    go false = refl

begin-plain : (within : Bool) (marker : ℕ) (p : Point) → Plain (list_begin within marker p)
begin-plain true marker p = tt
begin-plain false marker p = (list-plain marker, tt)

end-plain : (markers : List ℕ) (next : Option ℕ) (p : Point) → Plain (list_end markers next p)
end-plain [] next p = tt
end-plain (marker ∷ markers) next p = go (is_continued marker next)
  where
    go : (x : Bool) → Plain (cond x [] (exit (list_name marker) p ∷ []))
    go true = tt
    go false = (list-plain marker, tt)

given-plain : (t : Turn) (place : ListPlace) (marker : ℕ) (next : Option ℕ) (e : Event) →
    is_underline e.name ≡ false → Plain (given_by t place marker next e)
given-plain Begins place marker next e h =
    plain-append (list_begin place.within marker e.point) (e ∷ []) (begin-plain place.within marker e.point) (h, tt)
given-plain Ends place marker next e h = (h, end-plain place.markers next e.point)
given-plain Stays place marker next e h = (h, tt)

listed-plain : (bytes : List ℕ) (es : List Event) (place : ListPlace) → Plain es → Plain (listed_from bytes place es)
listed-plain bytes [] place h = tt
listed-plain bytes (e ∷ es) place h =
    plain-append (given_by (turn e.kind (role e.name)) place (marker_ahead bytes es) (next_item bytes es) e)
    (listed_from bytes (place_after bytes place e es) es)
    (given-plain (turn e.kind (role e.name)) place (marker_ahead bytes es) (next_item bytes es) e h.0)
    (listed-plain bytes es (place_after bytes place e es) h.1)

-- The texts of headings are none.

text-plain : (first : Point) (after : Option Point) → Plain (text_between first after)
text-plain first None = tt
text-plain first (Some after) = (refl, (refl, (refl, (refl, tt))))

abbrev Held : Place → Type 0
Held (Within first after last closing since) = Plain closing × Plain since
Held _ = Unit {0}

resolved-plain : (es : List Event) (place : Place) → Held place → Plain es → Plain (resolved place es)
resolved-plain [] Outside k h = tt
resolved-plain [] Before k h = tt
resolved-plain [] Opened k h = tt
resolved-plain [] (Within first after last closing since) k h =
    plain-append (text_between first after ++ closing) since
    (plain-append (text_between first after) closing (text-plain first after) k.0) k.1
resolved-plain (e ∷ es) Outside k h = (h.0, go (begins is_heading e) (resolved-plain es))
  where
    go : (x : Bool) → ((place : Place) → Held place → Plain es → Plain (resolved place es)) →
        Plain (resolved (cond x Before Outside) es)
    go true more = more Before tt h.1
    go false more = more Outside tt h.1
resolved-plain (e ∷ es) Before k h = (h.0, go (ends is_sequence e) (ends is_heading e) (resolved-plain es))
  where
    go : (x y : Bool) → ((place : Place) → Held place → Plain es → Plain (resolved place es)) →
        Plain (resolved (cond x Opened (cond y Outside Before)) es)
    go true y more = more Opened tt h.1
    go false true more = more Outside tt h.1
    go false false more = more Before tt h.1
resolved-plain (e ∷ es) Opened k h = go (begins is_run e) (ends is_heading e) (resolved-plain es)
  where
    go : (x y : Bool) → ((place : Place) → Held place → Plain es → Plain (resolved place es)) →
        Plain (cond x (resolved (Within e.point None None [] (e ∷ [])) es) (e ∷ resolved (cond y Outside Opened) es))
    go true y more = more (Within e.point None None [] (e ∷ [])) (tt, (h.0, tt)) h.1
    go false true more = (h.0, more Outside tt h.1)
    go false false more = (h.0, more Opened tt h.1)
resolved-plain (e ∷ es) (Within first after last closing since) k h =
    go (ends is_data e) (ends is_sequence e) (ends is_heading e) (resolved-plain es)
  where
    since_more : Plain (since ++ e ∷ [])
    since_more = plain-append since (e ∷ []) k.1 (h.0, tt)

    go : (x y z : Bool) → ((place : Place) → Held place → Plain es → Plain (resolved place es)) →
        Plain
        (cond x (resolved (Within first (Some e.point) (Some e.point) [] []) es)
        (cond y (resolved (Within first last (Some e.point) (since ++ e ∷ []) []) es)
        (cond z (text_between first after ++ closing ++ since ++ e ∷ resolved Outside es)
        (resolved (Within first after last closing (since ++ e ∷ [])) es))))
    go true y z more = more (Within first (Some e.point) (Some e.point) [] []) (tt, tt) h.1
    go false true z more = more (Within first last (Some e.point) (since ++ e ∷ []) []) (since_more, tt) h.1
    go false false true more =
        plain-append (text_between first after ++ closing ++ since) (e ∷ resolved Outside es)
        (plain-append (text_between first after ++ closing) since
        (plain-append (text_between first after) closing (text-plain first after) k.0) k.1)
        (h.0, more Outside tt h.1)
    go false false false more = more (Within first after last closing (since ++ e ∷ [])) (k.0, since_more) h.1

if-plain : (x : Bool) (f : List Event → List Event) → ((es : List Event) → Plain es → Plain (f es)) →
    (es : List Event) → Plain es → Plain (set_if x f es)
if-plain true f keeps es h = keeps es h
if-plain false f keeps es h = h

-- So it does not matter whether they are wanted.
abbrev pub without_setext : Wanted → Wanted
without_setext w = record w { setext = false }

pub setext-none : (w : Wanted) (bytes : List ℕ) (es : List Event) → HoldNoUnderline es →
    in_order (without_setext w) bytes es ≡ in_order w bytes es
setext-none w bytes es h = go w.setext
  where
    X : List Event
    X = set_if w.atx headings_resolved (set_if w.items (listed bytes) es)

    plain : Plain X
    plain =
        if-plain w.atx headings_resolved (λ l k. resolved-plain l Outside tt k) (set_if w.items (listed bytes) es)
        (if-plain w.items (listed bytes) (λ l k. listed-plain bytes l outside k) es h)

    go : (x : Bool) → set_if w.tables tabled X ≡ set_if w.tables tabled (set_if x turned X)
    go true = ap (set_if w.tables tabled) (sym (no_underlines-turned X plain))
    go false = refl

one-less : (w : Wanted) → is_one w ≡ true → is_one (without_setext w) ≡ true
one-less w h = go w.items w.atx w.setext w.tables h
  where
    go : (a b c d : Bool) →
        cond a (not (b || c || d)) (cond b (not (c || d)) (not (c && d))) ≡ true →
        cond a (not (b || false || d)) (cond b (not (false || d)) (not (false && d))) ≡ true
    go true true c d h = let bad : false ≡ true = h in absurd (cc)
    go true false false d h = h
    go true false true d h = let bad : false ≡ true = h in absurd (cc)
    go false true false d h = h
    go false true true d h = let bad : false ≡ true = h in absurd (cc)
    go false false c d h = refl

pub pass-less : (w : Wanted) (es : List Event) → MayPass w es → MayPass (without_setext w) es
pass-less w es (inl one) = inl (one-less w one)
pass-less w es (inr hold) = inr hold
