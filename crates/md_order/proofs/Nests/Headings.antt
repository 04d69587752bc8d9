-- Where the texts of ATX headings are set, the events nest as before.
use Rattle.std.proofs.Common.{◌≡◌, Bool, true, false, cond, ◌&&◌, List, [], ◌∷◌, ◌++◌, Option, Some, None, refl, ap}
use Rattle.std.proofs.Common.{sym, ◌∙◌, subst, append-nil}
use Rattle.md_engine.specs.declared.event.Event.{Event}
use Rattle.md_engine.specs.declared.event.Kind.{Kind}
use Rattle.md_engine.specs.declared.event.Kind.TheVariants.{Enter, Exit}
use Rattle.md_engine.specs.declared.event.Name.{Name}
use Rattle.md_engine.specs.declared.event.Name.TheVariants as n
use Rattle.md_engine.specs.declared.event.Point.{Point}
use Rattle.md_leaves.specs.HeadingText.{Opened, Outside, Place, Within, begins, ends, headings_resolved, is_heading}
use Rattle.md_leaves.specs.HeadingText.{is_run, is_sequence, resolved, text_between}
use Rattle.md_leaves.specs.HeadingText as text
use Rattle.md_events.specs.Events.Nested.{Fits, Nested, around, is_enter, is_exit, open_following, pair}
use Rattle.md_events.specs.Events.Places.{first_point}
use Rattle.md_events.specs.Events.Tiles.{is_data}
use Rattle.md_events.proofs.NestedLemmas.{at_or_before-refl, at_or_before-trans}
use Rattle.md_order.specs.HeadingsNest.{HeadingsNest, RunsAllowed}
use Rattle.md_order.proofs.Nests.Leads.{Before, Leads, Under, alone-begun, alone-ended, following-under, fits-inside}
use Rattle.md_order.proofs.Nests.Leads.{leads-append, leads-event, leads-from, leads-none, leads-order, leads-under}
use Rattle.md_order.proofs.Nests.Leads.{nested-under, under-event, under-from, under-leads, under-nested, under-rest}

-- Names.

-- the begin of a heading
record Begun (e : Event) : Type 0 where
  enters : e.kind ≡ Enter
  named : e.name ≡ n.HeadingAtx

heading-begun : (e : Event) → begins is_heading e ≡ true → Begun e
heading-begun e h = go e.kind e.name h
  where
    go : (kind : Kind) (name : Name) → (is_enter kind && is_heading name) ≡ true →
        Begun (record e { kind = kind; name = name })
    go Enter n.HeadingAtx h = record { enters = refl; named = refl }
    go Enter _ h = absurd (let no : false ≡ true = h in cc)
    go Exit _ h = absurd (let no : false ≡ true = h in cc)

run-begun : (e : Event) → begins is_run e ≡ true →
    (e.kind ≡ Enter) × (is_run e.name ≡ true) × (ends is_heading e ≡ false)
run-begun e h = go e.kind h
  where
    go : (kind : Kind) → (is_enter kind && is_run e.name) ≡ true →
        (kind ≡ Enter) × (is_run e.name ≡ true) × ((is_exit kind && is_heading e.name) ≡ false)
    go Enter h = (refl, h, refl)
    go Exit h = absurd (let no : false ≡ true = h in cc)

-- the end of a run
record Ended (e : Event) : Type 0 where
  exits : e.kind ≡ Exit
  run : is_run e.name ≡ true
  inside : ends is_heading e ≡ false

data-ended : (e : Event) → ends is_data e ≡ true → Ended e
data-ended e h = go e.kind e.name h
  where
    go : (kind : Kind) (name : Name) → (is_exit kind && is_data name) ≡ true →
        Ended (record e { kind = kind; name = name })
    go Exit n.Data h = record { exits = refl; run = refl; inside = refl }
    go Exit _ h = absurd (let no : false ≡ true = h in cc)
    go Enter _ h = absurd (let no : false ≡ true = h in cc)

sequence-ended : (e : Event) → ends is_sequence e ≡ true → Ended e
sequence-ended e h = go e.kind e.name h
  where
    go : (kind : Kind) (name : Name) → (is_exit kind && is_sequence name) ≡ true →
        Ended (record e { kind = kind; name = name })
    go Exit n.HeadingAtxSequence h = record { exits = refl; run = refl; inside = refl }
    go Exit _ h = absurd (let no : false ≡ true = h in cc)
    go Enter _ h = absurd (let no : false ≡ true = h in cc)

-- In a heading each event but its end fits what is open in it.
inside-fits : (names outer : List Name) (e : Event) → ends is_heading e ≡ false →
    Fits (names ++ n.HeadingAtx ∷ outer) e.kind e.name → Fits names e.kind e.name
inside-fits names outer e inside = fits-inside names n.HeadingAtx outer e (never e.kind inside)
  where
    never : (kind : Kind) → (is_exit kind && is_heading e.name) ≡ false → kind ≡ Exit → n.HeadingAtx ≡ e.name → ⊥
    never Exit h k named = absurd (let no : true ≡ false = ap is_heading named ∙ h in cc)
    never Enter h k named = absurd (let no : Enter ≡ Exit = k in cc)

-- What is held within a text.

abbrev or_at : Point → Option Point → Point
or_at p None = p
or_at p (Some q) = q

-- up to a point, where these names are open in the heading
record Held (first : Point) (after last : Option Point) (closing since : List Event) (names : List Name)
    (p : Point) : Type 0 where
  text : Before first (or_at first after)
  runs : Before first (or_at first last)
  closing_leads : Leads [] [] (or_at first after) (or_at first last) closing
  since_leads : Leads [] names (or_at first last) p since

text-leads : (first : Point) (after : Option Point) → Before first (or_at first after) →
    Leads [] [] first (or_at first after) (text_between first after)
text-leads first None h = leads-none [] first first h
text-leads first (Some after) h = record {
  matches = (tt, (tt, (refl, (refl, tt))));
  opened = refl;
  forward = (at_or_before-refl first, (at_or_before-refl first, (h, (at_or_before-refl after, tt))));
  ends = at_or_before-refl after;
}

held-leads : {first : Point} {after last : Option Point} {closing since : List Event} {names : List Name}
    {p : Point} → Held first after last closing since names p →
    Leads [] names first p (text_between first after ++ closing ++ since)
held-leads {first = first} {after = after} {closing = closing} {since = since} h =
    leads-append (text_between first after ++ closing) since
    (leads-append (text_between first after) closing (text-leads first after h.text) h.closing_leads) h.since_leads

-- What is held with one event more.
held-more : {first : Point} {after last : Option Point} {closing since : List Event} {names : List Name}
    {p : Point} (e : Event) → Held first after last closing since names p → Fits names e.kind e.name →
    Before p e.point → Held first after last closing (since ++ e ∷ []) (open_following names e.kind e.name) e.point
held-more {since = since} {names = names} {p = p} e h fits on = record {
  text = h.text;
  runs = h.runs;
  closing_leads = h.closing_leads;
  since_leads = leads-append since (e ∷ []) h.since_leads (leads-event names p e fits on);
}

-- at the end of text, after which nothing is open in the heading
held-text : {first : Point} {after last : Option Point} {closing since : List Event} {names : List Name}
    {p : Point} (q : Point) → Held first after last closing since names p → Before p q →
    Held first (Some q) (Some q) [] [] [] q
held-text {first = first} {last = last} {since = since} {p = p} q h on =
    let order = at_or_before-trans first (or_at first last) q h.runs
    (at_or_before-trans (or_at first last) p q (leads-order since h.since_leads) on) in
    record {
      text = order;
      runs = order;
      closing_leads = leads-none [] q q (at_or_before-refl q);
      since_leads = leads-none [] q q (at_or_before-refl q);
    }

-- at the end of a run of `#`
held-sequence : {first : Point} {after last : Option Point} {closing since : List Event} {names : List Name}
    {p : Point} (e : Event) → Held first after last closing since names p → Fits names e.kind e.name →
    Before p e.point → open_following names e.kind e.name ≡ [] →
    Held first last (Some e.point) (since ++ e ∷ []) [] [] e.point
held-sequence {first = first} {last = last} {since = since} {names = names} {p = p} e h fits on none =
    let closing : Leads [] [] (or_at first last) e.point (since ++ e ∷ []) =
    subst (λ (l : List Name). Leads [] l (or_at first last) e.point (since ++ e ∷ [])) none
    (leads-append since (e ∷ []) h.since_leads (leads-event names p e fits on)) in
    record {
      text = h.runs;
      runs = at_or_before-trans first (or_at first last) e.point h.runs (leads-order (since ++ e ∷ []) closing);
      closing_leads = closing;
      since_leads = leads-none [] e.point e.point (at_or_before-refl e.point);
    }

-- Where the walk is: what was given ends at a point `q`, and what it has read at a point `p`, where these names are
-- open in the heading.

abbrev Valid : Place → Point → List Name → Point → Type 0
Valid (Within first after last closing since) q names p = Before q first × Held first after last closing since names p
Valid _ q names p = Before q p

-- what is asked of the rest
abbrev asked : Place → List Name → Option (List Name)
asked Outside names = None
asked _ names = Some names

-- what is open where the rest begins, and after what was given
abbrev open_read : Place → List Name → List Name → List Name
open_read Outside names outer = outer
open_read _ names outer = names ++ n.HeadingAtx ∷ outer

abbrev open_given : Place → List Name → List Name → List Name
open_given (Within first after last closing since) names outer = n.HeadingAtx ∷ outer
open_given Outside names outer = outer
open_given _ names outer = names ++ n.HeadingAtx ∷ outer

-- what is held, before the rest
held-under : {first : Point} {after last : Option Point} {closing since : List Event} {names : List Name} {p : Point}
    (outer : List Name) (q : Point) (es : List Event) → Before q first →
    Held first after last closing since names p → Under (names ++ n.HeadingAtx ∷ outer) p es →
    Under (n.HeadingAtx ∷ outer) q (text_between first after ++ closing ++ since ++ es)
held-under {first = first} {after = after} {closing = closing} {since = since} outer q es on h rest =
    let xs : List Event = text_between first after ++ closing ++ since in
    under-leads xs es (leads-under (n.HeadingAtx ∷ outer) xs (leads-from q xs on (held-leads h))) rest

-- The names that are open after an event, and those that are in the heading.
following-inside : (names outer : List Name) (p : Point) (e : Event) (es : List Event) → ends is_heading e ≡ false →
    Under (names ++ n.HeadingAtx ∷ outer) p (e ∷ es) →
    Under (open_following names e.kind e.name ++ n.HeadingAtx ∷ outer) e.point es
following-inside names outer p e es inside h =
    subst (λ (l : List Name). Under l e.point es)
    (following-under names (n.HeadingAtx ∷ outer) e (inside-fits names outer e inside h.matches.0)) (under-rest e es h)

-- What is shown of a walk over some events, wherever it is.
abbrev Proceeds : List Event → List Name → Point → Place → List Name → Point → Type 0
Proceeds es outer q place names p =
    Valid place q names p → RunsAllowed (asked place names) es → Under (open_read place names outer) p es →
    Under (open_given place names outer) q (resolved place es)

abbrev IsContinued : List Event → Type 0
IsContinued es = (outer : List Name) (q : Point) (place : Place) (names : List Name) (p : Point) →
    Proceeds es outer q place names p

-- One event, outside of headings.
outside-step : (e : Event) (es : List Event) → IsContinued es → (outer : List Name) (q : Point) (names : List Name)
    (p : Point) → Proceeds (e ∷ es) outer q Outside names p
outside-step e es more outer q names p at runs h =
    under-event e (resolved (cond (begins is_heading e) text.Before Outside) es) h.matches.0
    (at_or_before-trans q p e.point at h.forward.0) (go (begins is_heading e) refl runs)
  where
    here : Before e.point e.point
    here = at_or_before-refl e.point

    following : List Name
    following = open_following outer e.kind e.name

    heading : begins is_heading e ≡ true → following ≡ n.HeadingAtx ∷ outer
    heading is =
        let begun = heading-begun e is in
        ap (λ (k : Kind). open_following outer k e.name) begun.enters ∙ ap (λ (m : Name). m ∷ outer) begun.named

    go : (x : Bool) → begins is_heading e ≡ x → RunsAllowed (cond x (Some []) None) es →
        Under following e.point (resolved (cond x text.Before Outside) es)
    go true is asks =
        subst (λ (l : List Name). Under l e.point (resolved text.Before es)) (sym (heading is))
        (more outer e.point text.Before [] e.point here asks
        (subst (λ (l : List Name). Under l e.point es) (heading is) (under-rest e es h)))
    go false is asks = more following e.point Outside [] e.point here asks (under-rest e es h)

-- In a heading: what is open after an event that does not end it.
inside-open : (names outer : List Name) (e : Event) → ends is_heading e ≡ false →
    Fits (names ++ n.HeadingAtx ∷ outer) e.kind e.name →
    open_following names e.kind e.name ++ n.HeadingAtx ∷ outer ≡
    open_following (names ++ n.HeadingAtx ∷ outer) e.kind e.name
inside-open names outer e inside fits =
    sym (following-under names (n.HeadingAtx ∷ outer) e (inside-fits names outer e inside fits))

before-step : (e : Event) (es : List Event) → IsContinued es → (outer : List Name) (q : Point) (names : List Name)
    (p : Point) → Proceeds (e ∷ es) outer q text.Before names p
before-step e es more outer q names p at runs h =
    under-event e (resolved (cond (ends is_sequence e) Opened (cond (ends is_heading e) Outside text.Before)) es)
    h.matches.0 (at_or_before-trans q p e.point at h.forward.0)
    (go (ends is_sequence e) (ends is_heading e) refl refl runs.1)
  where
    here : Before e.point e.point
    here = at_or_before-refl e.point

    following : List Name
    following = open_following names e.kind e.name

    full : List Name
    full = open_following (names ++ n.HeadingAtx ∷ outer) e.kind e.name

    same : ends is_heading e ≡ false → following ++ n.HeadingAtx ∷ outer ≡ full
    same is = inside-open names outer e is h.matches.0

    go : (x y : Bool) → ends is_sequence e ≡ x → ends is_heading e ≡ y → RunsAllowed (cond y None (Some following)) es →
        Under full e.point (resolved (cond x Opened (cond y Outside text.Before)) es)
    go true true run is asks = absurd (let no : true ≡ false = sym is ∙ (sequence-ended e run).inside in cc)
    go true false run is asks =
        subst (λ (l : List Name). Under l e.point (resolved Opened es)) (same is)
        (more outer e.point Opened following e.point here asks (following-inside names outer p e es is h))
    go false true run is asks = more full e.point Outside [] e.point here asks (under-rest e es h)
    go false false run is asks =
        subst (λ (l : List Name). Under l e.point (resolved text.Before es)) (same is)
        (more outer e.point text.Before following e.point here asks (following-inside names outer p e es is h))

-- what is held from the begin of a run on
begun-held : (e : Event) → e.kind ≡ Enter → Held e.point None None [] (e ∷ []) (e.name ∷ []) e.point
begun-held e enters =
    let here = at_or_before-refl e.point in
    record {
      text = here;
      runs = here;
      closing_leads = leads-none [] e.point e.point here;
      since_leads =
          subst (λ (l : List Name). Leads [] l e.point e.point (e ∷ []))
          (ap (λ (k : Kind). open_following [] k e.name) enters)
          (leads-event [] e.point e (subst (λ (k : Kind). Fits [] k e.name) (sym enters) tt) here);
    }

opened-step : (e : Event) (es : List Event) → IsContinued es → (outer : List Name) (q : Point) (names : List Name)
    (p : Point) → Proceeds (e ∷ es) outer q Opened names p
opened-step e es more outer q names p at runs h =
    go (begins is_run e) (ends is_heading e) refl refl runs.1
  where
    here : Before e.point e.point
    here = at_or_before-refl e.point

    on : Before q e.point
    on = at_or_before-trans q p e.point at h.forward.0

    inner : Place
    inner = Within e.point None None [] (e ∷ [])

    following : List Name
    following = open_following names e.kind e.name

    alone : e.kind ≡ Enter → is_run e.name ≡ true → names ≡ []
    alone enters run = alone-begun names e enters (runs.0 run)

    opened : e.kind ≡ Enter → is_run e.name ≡ true → following ≡ e.name ∷ []
    opened enters run =
        ap (λ (k : Kind). open_following names k e.name) enters ∙ ap (λ (l : List Name). e.name ∷ l) (alone enters run)

    go : (x y : Bool) → begins is_run e ≡ x → ends is_heading e ≡ y → RunsAllowed (cond y None (Some following)) es →
        Under (names ++ n.HeadingAtx ∷ outer) q
        (cond x (resolved inner es) (e ∷ resolved (cond y Outside Opened) es))
    go true true is end asks = absurd (let no : true ≡ false = sym end ∙ (run-begun e is).2 in cc)
    go true false is end asks =
        let begun = run-begun e is in
        let whole : following ≡ e.name ∷ [] = opened begun.0 begun.1 in
        subst (λ (l : List Name). Under (l ++ n.HeadingAtx ∷ outer) q (resolved inner es))
        (sym (alone begun.0 begun.1))
        (more outer q inner (e.name ∷ []) e.point (on, begun-held e begun.0)
        (subst (λ (l : List Name). RunsAllowed (Some l) es) whole asks)
        (subst (λ (l : List Name). Under (l ++ n.HeadingAtx ∷ outer) e.point es) whole
        (following-inside names outer p e es end h)))
    go false true is end asks =
        let full = open_following (names ++ n.HeadingAtx ∷ outer) e.kind e.name in
        under-event e (resolved Outside es) h.matches.0 on
        (more full e.point Outside [] e.point here asks (under-rest e es h))
    go false false is end asks =
        under-event e (resolved Opened es) h.matches.0 on
        (subst (λ (l : List Name). Under l e.point (resolved Opened es)) (inside-open names outer e end h.matches.0)
        (more outer e.point Opened following e.point here asks (following-inside names outer p e es end h)))

within-step : (e : Event) (es : List Event) → IsContinued es → (outer : List Name) (q : Point) (first : Point)
    (after last : Option Point) (closing since : List Event) (names : List Name) (p : Point) →
    Proceeds (e ∷ es) outer q (Within first after last closing since) names p
within-step e es more outer q first after last closing since names p at runs h =
    go (ends is_data e) (ends is_sequence e) (ends is_heading e) refl refl refl runs.1
  where
    on : Before p e.point
    on = h.forward.0

    text_place : Place
    text_place = Within first (Some e.point) (Some e.point) [] []

    run_place : Place
    run_place = Within first last (Some e.point) (since ++ e ∷ []) []

    other_place : Place
    other_place = Within first after last closing (since ++ e ∷ [])

    held : List Event
    held = text_between first after ++ closing ++ since

    following : List Name
    following = open_following names e.kind e.name

    fits : ends is_heading e ≡ false → Fits names e.kind e.name
    fits inside = inside-fits names outer e inside h.matches.0

    alone : Ended e → following ≡ []
    alone ended = alone-ended names e ended.exits (runs.0 ended.run)

    rest : ends is_heading e ≡ false → Under (following ++ n.HeadingAtx ∷ outer) e.point es
    rest inside = following-inside names outer p e es inside h

    cleared : Ended e → Under (n.HeadingAtx ∷ outer) e.point es
    cleared ended =
        subst (λ (l : List Name). Under (l ++ n.HeadingAtx ∷ outer) e.point es) (alone ended) (rest ended.inside)

    asks_none : (z : Bool) → ends is_heading e ≡ z → Ended e → RunsAllowed (cond z None (Some following)) es →
        RunsAllowed (Some []) es
    asks_none true is ended k = absurd (let no : true ≡ false = sym is ∙ ended.inside in cc)
    asks_none false is ended k = subst (λ (l : List Name). RunsAllowed (Some l) es) (alone ended) k

    go : (x y z : Bool) → ends is_data e ≡ x → ends is_sequence e ≡ y → ends is_heading e ≡ z →
        RunsAllowed (cond z None (Some following)) es →
        Under (n.HeadingAtx ∷ outer) q
        (cond x (resolved text_place es)
        (cond y (resolved run_place es) (cond z (held ++ e ∷ resolved Outside es) (resolved other_place es))))
    go true y z is run end asks =
        let ended = data-ended e is in
        more outer q text_place [] e.point (at.0, held-text e.point at.1 on) (asks_none z end ended asks)
        (cleared ended)
    go false true z is run end asks =
        let ended = sequence-ended e run in
        more outer q run_place [] e.point (at.0, held-sequence e at.1 (fits ended.inside) on (alone ended))
        (asks_none z end ended asks) (cleared ended)
    go false false true is run end asks =
        let full = open_following (names ++ n.HeadingAtx ∷ outer) e.kind e.name in
        held-under outer q (e ∷ resolved Outside es) at.0 at.1
        (under-event e (resolved Outside es) h.matches.0 on
        (more full e.point Outside [] e.point (at_or_before-refl e.point) asks (under-rest e es h)))
    go false false false is run end asks =
        more outer q other_place following e.point (at.0, held-more e at.1 (fits end) on) asks (rest end)

resolved-under : (es : List Event) → IsContinued es
resolved-under [] outer q Outside names p at runs h = under-from q [] at h
resolved-under [] outer q text.Before names p at runs h = under-from q [] at h
resolved-under [] outer q Opened names p at runs h = under-from q [] at h
resolved-under [] outer q (Within first after last closing since) names p at runs h =
    subst (Under (n.HeadingAtx ∷ outer) q) (append-nil (text_between first after ++ closing ++ since))
    (held-under outer q [] at.0 at.1 h)
resolved-under (e ∷ es) outer q Outside names p at runs h =
    outside-step e es (resolved-under es) outer q names p at runs h
resolved-under (e ∷ es) outer q text.Before names p at runs h =
    before-step e es (resolved-under es) outer q names p at runs h
resolved-under (e ∷ es) outer q Opened names p at runs h =
    opened-step e es (resolved-under es) outer q names p at runs h
resolved-under (e ∷ es) outer q (Within first after last closing since) names p at runs h =
    within-step e es (resolved-under es) outer q first after last closing since names p at runs h

-- Where the runs of each heading are by themselves, a nested list stays nested.
pub headings-nested : (es : List Event) → HeadingsNest es → Nested es → Nested (headings_resolved es)
headings-nested es runs h =
    under-nested (headings_resolved es)
    (resolved-under es [] first_point Outside [] first_point (at_or_before-refl first_point) runs (nested-under es h))

-- The runs of a heading as its states give it, `#` before text, are so.
sample : (p q : Point) →
    HeadingsNest
    (around n.HeadingAtx p q (pair n.HeadingAtxSequence p q ++ pair n.SpaceOrTab p q ++ pair n.Data p q))
sample p q = (λ k. refl, (λ k. refl, (λ k. refl, (λ k. refl, (λ k. refl, (λ k. refl, (λ k. refl, tt)))))))
