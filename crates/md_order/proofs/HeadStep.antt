-- An ATX heading: it is set whole, before its end.
use Rattle.std.proofs.Common.{◌≡◌, ℕ, suc, ◌+◌, Bool, true, false, cond, not, ◌&&◌, List, [], ◌∷◌, ◌++◌, Option, Some}
use Rattle.std.proofs.Common.{None, take, drop, refl, ap, sym, ◌∙◌, subst, append_assoc, append-nil, take-append-drop}
use Rattle.std.proofs.Common.{arith}
use Rattle.std.proofs.lemmas.Bool.{and_left, and_parts}
use Rattle.md_engine.specs.declared.event.Event.{Event}
use Rattle.md_engine.specs.declared.event.Kind.{Kind}
use Rattle.md_engine.specs.declared.event.Kind.TheVariants.{Enter, Exit}
use Rattle.md_engine.specs.declared.event.Name.{Name}
use Rattle.md_engine.specs.declared.event.Name.TheVariants as n
use Rattle.md_engine.specs.declared.event.Point.{Point}
use Rattle.md_containers.specs.Listed.{Place as ListPlace, listed_from}
use Rattle.md_leaves.specs.HeadingText.{Before, Opened, Outside, Place, Within, begins, ends, headings_resolved}
use Rattle.md_leaves.specs.HeadingText.{is_heading, is_run, is_sequence, resolved, text_between}
use Rattle.md_events.specs.Events.Nested.{is_enter, is_exit}
use Rattle.md_events.specs.Events.Tiles.{is_data}
use Rattle.md_order.specs.declared.wanted.Wanted.{Wanted}
use Rattle.md_order.specs.Alone.{InHeading, Open, is_set, opened_by}
use Rattle.md_order.specs.InOrder.{set_if}
use Rattle.md_order.specs.Left.{MayBeLeft, MayStay, Situation, heading_len, left_in}
use Rattle.md_order.proofs.Passed.{after_heads, heads-past, items-none, items-pass}
use Rattle.md_order.proofs.Stay.{IsQuiet, heading-on, heading-quiet, quiet-inside, stay-opens}

abbrev pub AreQuiet : Wanted → List Event → Type 0
AreQuiet w [] = Unit {0}
AreQuiet w (e ∷ es) = IsQuiet w e × AreQuiet w es

quiet-append : (w : Wanted) (xs ys : List Event) → AreQuiet w xs → AreQuiet w ys → AreQuiet w (xs ++ ys)
quiet-append w [] ys h k = k
quiet-append w (e ∷ xs) ys h k = (h.0, quiet-append w xs ys h.1 k)

-- Lists pass them, and so do the resolvers after that of headings.

quiet-items : (w : Wanted) (bytes : List ℕ) (place : ListPlace) (xs es : List Event) → AreQuiet w xs →
    set_if w.items (listed_from bytes place) (xs ++ es) ≡ xs ++ set_if w.items (listed_from bytes place) es
quiet-items w bytes place [] es h = refl
quiet-items w bytes place (e ∷ xs) es h =
    items-pass w.items bytes place e (xs ++ es) h.0.0
    ∙ ap (λ (l : List Event). e ∷ l) (quiet-items w bytes place xs es h.1)

quiet-past : (w : Wanted) (on : Bool) (xs ys : List Event) → AreQuiet w xs →
    after_heads w on (xs ++ ys) ≡ xs ++ after_heads w on ys
quiet-past w on [] ys h = refl
quiet-past w on (e ∷ xs) ys h =
    heads-past w on e (xs ++ ys) h.0.1 h.0.2 ∙ ap (λ (l : List Event). e ∷ l) (quiet-past w on xs ys h.1)

-- What is given for events that are quiet is so.

text-quiet : (w : Wanted) (first : Point) (after : Option Point) → AreQuiet w (text_between first after)
text-quiet w first None = tt
text-quiet w first (Some after) = (
  (λ k. refl, λ k. refl, λ k. refl),
  ((λ k. refl, λ k. refl, λ k. refl), ((λ k. refl, λ k. refl, λ k. refl), ((λ k. refl, λ k. refl, λ k. refl), tt))),
)

-- what is held within a text
abbrev HeldQuiet : Wanted → Place → Type 0
HeldQuiet w (Within first after last closing since) = AreQuiet w closing × AreQuiet w since
HeldQuiet w _ = Unit {0}

either : (w : Wanted) (x : Bool) (p q : Place) → HeldQuiet w p → HeldQuiet w q → HeldQuiet w (cond x p q)
either w true p q h k = h
either w false p q h k = k

held-quiet : (w : Wanted) (first : Point) (after : Option Point) (closing since : List Event) → AreQuiet w closing →
    AreQuiet w since → AreQuiet w (text_between first after ++ closing ++ since)
held-quiet w first after closing since h k =
    quiet-append w (text_between first after ++ closing) since
    (quiet-append w (text_between first after) closing (text-quiet w first after) h) k

resolved-quiet : (w : Wanted) (p : Place) (es : List Event) → HeldQuiet w p → AreQuiet w es → AreQuiet w (resolved p es)
resolved-quiet w Outside [] h k = tt
resolved-quiet w Before [] h k = tt
resolved-quiet w Opened [] h k = tt
resolved-quiet w (Within first after last closing since) [] h k = held-quiet w first after closing since h.0 h.1
resolved-quiet w Outside (e ∷ es) h k = (
  k.0,
  resolved-quiet w (cond (begins is_heading e) Before Outside) es
      (either w (begins is_heading e) Before Outside tt tt) k.1,
)
resolved-quiet w Before (e ∷ es) h k =
    let q : Place = cond (ends is_heading e) Outside Before in (
      k.0,
      resolved-quiet w (cond (ends is_sequence e) Opened q) es
          (either w (ends is_sequence e) Opened q tt (either w (ends is_heading e) Outside Before tt tt)) k.1,
    )
resolved-quiet w Opened (e ∷ es) h k =
    go (begins is_run e) (resolved-quiet w inner es (tt, (k.0, tt)) k.1)
    (resolved-quiet w q es (either w (ends is_heading e) Outside Opened tt tt) k.1)
  where
    inner : Place
    inner = Within e.point None None [] (e ∷ [])

    q : Place
    q = cond (ends is_heading e) Outside Opened

    go : (x : Bool) → AreQuiet w (resolved inner es) → AreQuiet w (resolved q es) →
        AreQuiet w (cond x (resolved inner es) (e ∷ resolved q es))
    go true a b = a
    go false a b = (k.0, b)
resolved-quiet w (Within first after last closing since) (e ∷ es) h k =
    go (ends is_data e) (ends is_sequence e) (ends is_heading e) (resolved-quiet w text es (tt, tt) k.1)
    (resolved-quiet w run es (more, tt) k.1) (resolved-quiet w Outside es tt k.1)
    (resolved-quiet w other es (h.0, more) k.1)
  where
    more : AreQuiet w (since ++ e ∷ [])
    more = quiet-append w since (e ∷ []) h.1 (k.0, tt)

    text : Place
    text = Within first (Some e.point) (Some e.point) [] []

    run : Place
    run = Within first last (Some e.point) (since ++ e ∷ []) []

    other : Place
    other = Within first after last closing (since ++ e ∷ [])

    held : List Event
    held = text_between first after ++ closing ++ since

    go : (x y z : Bool) → AreQuiet w (resolved text es) → AreQuiet w (resolved run es) →
        AreQuiet w (resolved Outside es) → AreQuiet w (resolved other es) →
        AreQuiet w
        (cond x (resolved text es)
        (cond y (resolved run es) (cond z (held ++ e ∷ resolved Outside es) (resolved other es))))
    go true y z a b c d = a
    go false true z a b c d = b
    go false false true a b c d =
        quiet-append w held (e ∷ resolved Outside es) (held-quiet w first after closing since h.0 h.1) (k.0, c)
    go false false false a b c d = d

-- What follows a heading that is cut before its end: nothing, or that end first.
abbrev MayFollow : List Event → Type 0
MayFollow [] = Unit {0}
MayFollow (d ∷ zs) = ends is_heading d ≡ true

at-end : (p : Place) (zs : List Event) → MayFollow zs → resolved p zs ≡ resolved p [] ++ resolved Outside zs
at-end p [] h = sym (append-nil (resolved p []))
at-end p (d ∷ zs) h = go d.kind d.name h
  where
    end : Event
    end = record d { kind = Exit; name = n.HeadingAtx }

    ended : (p : Place) → resolved p (end ∷ zs) ≡ resolved p [] ++ resolved Outside (end ∷ zs)
    ended Outside = refl
    ended Before = refl
    ended Opened = refl
    ended (Within first after last closing since) = refl

    go : (kind : Kind) (name : Name) → (is_exit kind && is_heading name) ≡ true →
        let f : Event = record d { kind = kind; name = name } in
        resolved p (f ∷ zs) ≡ resolved p [] ++ resolved Outside (f ∷ zs)
    go Exit n.HeadingAtx k = ended p
    go Exit _ k = absurd (let no : false ≡ true = k in cc)
    go Enter name k = absurd (let no : false ≡ true = k in cc)

-- The heading is set on its own.
resolved-cut : (zs : List Event) → MayFollow zs → (p : Place) (es : List Event) →
    resolved p (es ++ zs) ≡ resolved p es ++ resolved Outside zs
resolved-cut zs h p [] = at-end p zs h
resolved-cut zs h Outside (e ∷ es) =
    ap (λ (l : List Event). e ∷ l) (resolved-cut zs h (cond (begins is_heading e) Before Outside) es)
resolved-cut zs h Before (e ∷ es) =
    ap (λ (l : List Event). e ∷ l)
    (resolved-cut zs h (cond (ends is_sequence e) Opened (cond (ends is_heading e) Outside Before)) es)
resolved-cut zs h Opened (e ∷ es) = go (begins is_run e) (resolved-cut zs h inner es) (resolved-cut zs h q es)
  where
    inner : Place
    inner = Within e.point None None [] (e ∷ [])

    q : Place
    q = cond (ends is_heading e) Outside Opened

    Cut : Place → Type 0
    Cut r = resolved r (es ++ zs) ≡ resolved r es ++ resolved Outside zs

    go : (x : Bool) → Cut inner → Cut q →
        cond x (resolved inner (es ++ zs)) (e ∷ resolved q (es ++ zs))
        ≡ cond x (resolved inner es) (e ∷ resolved q es) ++ resolved Outside zs
    go true a b = a
    go false a b = ap (λ (l : List Event). e ∷ l) b
resolved-cut zs h (Within first after last closing since) (e ∷ es) =
    go (ends is_data e) (ends is_sequence e) (ends is_heading e) (resolved-cut zs h text es) (resolved-cut zs h run es)
    (resolved-cut zs h Outside es) (resolved-cut zs h other es)
  where
    text : Place
    text = Within first (Some e.point) (Some e.point) [] []

    run : Place
    run = Within first last (Some e.point) (since ++ e ∷ []) []

    other : Place
    other = Within first after last closing (since ++ e ∷ [])

    held : List Event
    held = text_between first after ++ closing ++ since

    Cut : Place → Type 0
    Cut r = resolved r (es ++ zs) ≡ resolved r es ++ resolved Outside zs

    go : (x y z : Bool) → Cut text → Cut run → Cut Outside → Cut other →
        cond x (resolved text (es ++ zs))
        (cond y (resolved run (es ++ zs))
        (cond z (held ++ e ∷ resolved Outside (es ++ zs)) (resolved other (es ++ zs))))
        ≡ cond x (resolved text es)
        (cond y (resolved run es) (cond z (held ++ e ∷ resolved Outside es) (resolved other es)))
        ++ resolved Outside zs
    go true y z a b c d = a
    go false true z a b c d = b
    go false false true a b c d =
        ap (λ (l : List Event). held ++ e ∷ l) c
        ∙ sym (append_assoc held (e ∷ resolved Outside es) (resolved Outside zs))
    go false false false a b c d = d

-- The events up to the end of the heading that is open.

-- so many and one
pub one-more : (n : ℕ) → suc n ≡ 1 + n
one-more n = omega arith

-- they are quiet
heading-run : (w : Wanted) (es : List Event) → w.atx ≡ true → MayBeLeft w InHeading es →
    AreQuiet w (take (heading_len es) es)
heading-run w [] on h = tt
heading-run w (e ∷ es) on h = go (ends is_heading e) refl (heading-run w es on)
  where
    go : (x : Bool) → ends is_heading e ≡ x → (MayBeLeft w InHeading es → AreQuiet w (take (heading_len es) es)) →
        AreQuiet w (take (cond (not x) (1 + heading_len es) 0) (e ∷ es))
    go true is more = tt
    go false is more =
        subst (λ (m : ℕ). AreQuiet w (take m (e ∷ es))) (one-more (heading_len es))
        (quiet-inside w e es on h, more (heading-on w e es h is))

-- and after lists, too, its end follows
heading-follows : (w : Wanted) (bytes : List ℕ) (place : ListPlace) (es : List Event) →
    MayFollow (set_if w.items (listed_from bytes place) (drop (heading_len es) es))
heading-follows w bytes place [] = subst MayFollow (sym (items-none w.items bytes place)) tt
heading-follows w bytes place (e ∷ es) = go (ends is_heading e) refl (heading-follows w bytes place es)
  where
    lists : List Event → List Event
    lists zs = set_if w.items (listed_from bytes place) zs

    go : (x : Bool) → ends is_heading e ≡ x → MayFollow (lists (drop (heading_len es) es)) →
        MayFollow (lists (drop (cond (not x) (1 + heading_len es) 0) (e ∷ es)))
    go true is more =
        subst MayFollow
        (sym
        (items-pass w.items bytes place e es
        (heading-quiet w e (and_parts (is_exit e.kind) (is_heading e.name) is).1).0)) is
    go false is more =
        subst (λ (m : ℕ). MayFollow (lists (drop m (e ∷ es)))) (one-more (heading_len es)) more

-- From the begin of a heading on.

begin-opens : (kind : Kind) (name : Name) → (is_enter kind && is_heading name) ≡ true →
    (is_enter kind ≡ true) × (is_set name ≡ true) × (opened_by name ≡ InHeading) × (is_exit kind ≡ false)
begin-opens Enter n.HeadingAtx h = (refl, refl, refl, refl)
begin-opens Enter _ h = absurd (let no : false ≡ true = h in cc)
begin-opens Exit _ h = absurd (let no : false ≡ true = h in cc)

-- that is no end
pub heading-more : (e : Event) (es : List Event) → begins is_heading e ≡ true →
    heading_len (e ∷ es) ≡ suc (heading_len es)
heading-more e es h =
    ap (λ (x : Bool). cond (not x) (1 + heading_len es) 0)
    (and_left (is_exit e.kind) (is_heading e.name) (begin-opens e.kind e.name h).3)
    ∙ sym (one-more (heading_len es))

pub heading-front : (w : Wanted) (e : Event) (es : List Event) → w.atx ≡ true → begins is_heading e ≡ true →
    MayStay w (e ∷ es) → AreQuiet w (e ∷ take (heading_len es) es)
heading-front w e es on h stay =
    let parts = begin-opens e.kind e.name h in (
      heading-quiet w e (and_parts (is_enter e.kind) (is_heading e.name) h).1,
      heading-run w es on
          (subst (λ (o : Open). MayBeLeft w o es) parts.2 (stay-opens w e es stay parts.0 parts.1)),
    )

-- what is given for it
pub heading-given : (w : Wanted) (e : Event) (es : List Event) → w.atx ≡ true → begins is_heading e ≡ true →
    MayStay w (e ∷ es) → AreQuiet w (headings_resolved (take (suc (heading_len es)) (e ∷ es)))
heading-given w e es on h stay =
    resolved-quiet w Outside (e ∷ take (heading_len es) es) tt (heading-front w e es on h stay)

pub heading-step : (w : Wanted) (bytes : List ℕ) (at : Situation) (e : Event) (es : List Event) → w.atx ≡ true →
    begins is_heading e ≡ true → MayStay w (e ∷ es) →
    left_in w bytes at (e ∷ es)
    ≡ headings_resolved (take (suc (heading_len es)) (e ∷ es))
    ++ left_in w bytes at (drop (suc (heading_len es)) (e ∷ es))
heading-step w bytes at e es on h stay =
    ap (λ (x : Bool). after_heads w at.on (set_if x headings_resolved (lists (e ∷ es)))) on
    ∙ ap (λ (l : List Event). after_heads w at.on (resolved Outside (lists (e ∷ l))))
    (sym (take-append-drop n es))
    ∙ ap (λ (l : List Event). after_heads w at.on (resolved Outside l))
    (quiet-items w bytes at.items front (drop n es) (heading-front w e es on h stay))
    ∙ ap (after_heads w at.on)
    (resolved-cut (lists (drop n es)) (heading-follows w bytes at.items es) Outside front)
    ∙ quiet-past w at.on (resolved Outside front) (resolved Outside (lists (drop n es)))
    (heading-given w e es on h stay)
    ∙ ap (λ (x : Bool). resolved Outside front ++ after_heads w at.on (set_if x headings_resolved (lists (drop n es))))
    (sym on)
  where
    n : ℕ
    n = heading_len es

    front : List Event
    front = e ∷ take n es

    lists : List Event → List Event
    lists zs = set_if w.items (listed_from bytes at.items) zs
