-- Where events fit all four resolvers, what each of them gets fits it.
--
-- The proof goes over the events a segment at a time, as `ListsFirst` does: what the resolvers in front give for a
-- segment leaves an automaton where the segment does.
use Rattle.std.proofs.Common.{◌≡◌, inr, ℕ, zero, suc, Bool, true, false, cond, List, [], ◌∷◌, ◌++◌, take, drop, Option}
use Rattle.std.proofs.Common.{Some, None, refl, ap, sym, subst, take-append-drop}
use Rattle.md_engine.specs.declared.event.Event.{Event}
use Rattle.md_engine.specs.declared.event.Kind.{Kind}
use Rattle.md_engine.specs.declared.event.Kind.TheVariants.{Enter, Exit}
use Rattle.md_engine.specs.declared.event.Name.{Name}
use Rattle.md_engine.specs.declared.event.Name.TheVariants as n
use Rattle.md_containers.specs.Listed.{Place as ListPlace, given, listed_from, outside, place_after}
use Rattle.md_containers.proofs.ListedLemmas.{passes-given}
use Rattle.md_leaves.specs.HeadingText.{begins, headings_resolved, is_heading}
use Rattle.md_leaves.specs.Turned.{given_by, is_paragraph, is_turned, is_underline, on_by, passes as is_unturned, turn}
use Rattle.md_events.specs.Events.Nested.{is_enter}
use Rattle.md_tables.specs.Tabled.{begins_table, bound_of}
use Rattle.md_order.specs.declared.wanted.Wanted.{Wanted}
use Rattle.md_order.specs.Alone.{InParagraph, Nothing, Open, is_set, opened_by}
use Rattle.md_order.specs.HeadingsNest.{RunsAllowed}
use Rattle.md_order.specs.InOrder.{every}
use Rattle.md_order.specs.Left.{MayBeLeft, MayStay, Situation, heading_len, left_in}
use Rattle.md_order.specs.Nests.{MayNest}
use Rattle.md_order.specs.TablesNest.{InRow, InTable, Outside, Place as TablePlace, RowsAllowed, place_following}
use Rattle.md_order.specs.TurnsNest.{Apart, Between, InText, InUnderline, Spot, TurnsNestFrom, spot_by}
use Rattle.md_order.proofs.HeadStep.{AreQuiet, heading-front, heading-given, heading-step}
use Rattle.md_order.proofs.Items.{AllPass, given-pass, item-step}
use Rattle.md_order.proofs.Names.{item-bare}
use Rattle.md_order.proofs.Passed.{Passes, bare-passes, passed-one}
use Rattle.md_order.proofs.Plain.{left-holds, of_item, with_items}
use Rattle.md_order.proofs.SetextLook.{turned-ahead}
use Rattle.md_order.proofs.SetextStep.{NoTables, given-tableless, setext-step, text-name}
use Rattle.md_order.proofs.Stay.{stay-drop, stay-opens}
use Rattle.md_order.proofs.Nests.Fits.{FitsAll, IsClear, RowsAlone, RunsAlone, TurnsAlone}

-- What of it is seen where the walk is.

abbrev all : Wanted
all = with_items true

-- all four are more than one, so it is so of any
stay-any : (w : Wanted) (es : List Event) → MayStay all es → MayStay w es
stay-any w es stay = (stay.0, inr (left-holds stay.0 es stay.1))

item-free : (e : Event) → of_item e ≡ true → Passes all e
item-free e item = bare-passes all e (item-bare e.name item)

-- ATX headings, where lists are put around items.

runs-past : (xs ys : List Event) → AllPass all xs → RunsAllowed None ys → RunsAllowed None (xs ++ ys)
runs-past [] ys h k = k
runs-past (e ∷ xs) ys h k =
    subst (λ (x : Bool). RunsAllowed (cond x (Some []) None) (xs ++ ys)) (sym (h.0.head refl)) (runs-past xs ys h.1 k)

runs-listed : (bytes : List ℕ) (place : ListPlace) (heading : Option (List Name)) (es : List Event) →
    RunsAlone heading es → RunsAllowed heading (listed_from bytes place es)
runs-listed bytes place heading [] h = tt
runs-listed bytes place None (e ∷ es) h =
    go (of_item e) refl (λ next at k. runs-listed bytes next at es k)
  where
    go : (x : Bool) → of_item e ≡ x →
        ((next : ListPlace) (at : Option (List Name)) → RunsAlone at es → RunsAllowed at (listed_from bytes next es)) →
        RunsAllowed None (listed_from bytes place (e ∷ es))
    go true item more =
        runs-past (given bytes place e es) (listed_from bytes (place_after bytes place e es) es)
        (given-pass all bytes place e es item)
        (more (place_after bytes place e es) None
        (subst (λ (x : Bool). RunsAlone (cond x (Some []) None) es) ((item-free e item).head refl) h))
    go false item more =
        subst (RunsAllowed None) (sym (passes-given bytes place e es item))
        (more place (cond (begins is_heading e) (Some []) None) h)
runs-listed bytes place (Some names) (e ∷ es) h =
    subst (RunsAllowed (Some names)) (sym (passes-given bytes place e es h.0)) (h.1, runs-listed bytes place _ es h.2)

-- Setext headings, where that is done and ATX headings are set.

abbrev heads : Wanted
heads = record { items = true; atx = true; setext = false; tables = false }

abbrev in_items : ListPlace → Situation
in_items place = record { items = place; on = false }

-- apart from them another event leaves one apart
pub apart-spot : (e : Event) (es : List Event) → is_unturned e ≡ true →
    spot_by Apart e.kind (is_paragraph e.name) (is_underline e.name) (is_turned es) ≡ Apart
apart-spot e es h = go e.kind (is_paragraph e.name) (is_underline e.name) h
  where
    go : (kind : Kind) (x y : Bool) → cond x false (cond y false true) ≡ true →
        spot_by Apart kind x y (is_turned es) ≡ Apart
    go Enter false y h = refl
    go Enter true y h = absurd (let no : false ≡ true = h in cc)
    go Exit x y h = refl

abbrev AreUnturned : List Event → Type 0
AreUnturned [] = Unit {0}
AreUnturned (e ∷ es) = (is_unturned e ≡ true) × AreUnturned es

-- as what is given for an item and for an ATX heading is
pass-unturned : (xs : List Event) → AllPass all xs → AreUnturned xs
pass-unturned [] h = tt
pass-unturned (e ∷ xs) h = (h.0.turn refl, pass-unturned xs h.1)

quiet-unturned : (xs : List Event) → AreQuiet all xs → AreUnturned xs
quiet-unturned [] h = tt
quiet-unturned (e ∷ xs) h = (h.0.1 refl, quiet-unturned xs h.1)

apart-past : (xs ys : List Event) → AreUnturned xs → TurnsNestFrom Apart ys → TurnsNestFrom Apart (xs ++ ys)
apart-past [] ys h k = k
apart-past (e ∷ xs) ys h k = (
  tt,
  subst (λ (spot : Spot). TurnsNestFrom spot (xs ++ ys)) (sym (apart-spot e (xs ++ ys) h.0)) (apart-past xs ys h.1 k),
)

apart-rest : (xs ys : List Event) → AreUnturned xs → TurnsAlone Apart (xs ++ ys) → TurnsAlone Apart ys
apart-rest [] ys h k = k
apart-rest (e ∷ xs) ys h k =
    apart-rest xs ys h.1 (subst (λ (spot : Spot). TurnsAlone spot (xs ++ ys)) (apart-spot e (xs ++ ys) h.0) k.2)

-- after a heading
heading-left : (P : List Event → Type 0) (es : List Event) (n : ℕ) → P es → P (take n es ++ drop n es)
heading-left P es n h = subst P (sym (take-append-drop n es)) h

-- where one is after an event depends on what is ahead at the begin of a paragraph alone
spot-same : (spot : Spot) (kind : Kind) (x y a b : Bool) → (kind ≡ Enter → x ≡ true → a ≡ b) →
    spot_by spot kind x y a ≡ spot_by spot kind x y b
spot-same Apart Enter true y a b h = ap (λ (t : Bool). cond t InText Apart) (h refl refl)
spot-same Apart Enter false y a b h = refl
spot-same Apart Exit x y a b h = refl
spot-same InText Enter x y a b h = refl
spot-same InText Exit x y a b h = refl
spot-same (Between zero) Enter x y a b h = refl
spot-same (Between zero) Exit x y a b h = refl
spot-same (Between (suc many)) Enter x y a b h = refl
spot-same (Between (suc many)) Exit x y a b h = refl
spot-same InUnderline Enter x y a b h = refl
spot-same InUnderline Exit x y a b h = refl

-- which is seen
paragraph-opens : (name : Name) → is_paragraph name ≡ true → (is_set name ≡ true) × (opened_by name ≡ InParagraph)
paragraph-opens n.Paragraph h = (refl, refl)
paragraph-opens _ h = absurd (let no : false ≡ true = h in cc)

ahead-same : (bytes : List ℕ) (place : ListPlace) (e : Event) (es : List Event) → MayStay all (e ∷ es) →
    e.kind ≡ Enter → is_paragraph e.name ≡ true → is_turned es ≡ is_turned (left_in heads bytes (in_items place) es)
ahead-same bytes place e es stay enters text =
    let opens = paragraph-opens e.name text in
    sym
    (turned-ahead true true bytes place es
    (left-holds InParagraph es
    (subst (λ (leaf : Open). MayBeLeft all leaf es) opens.1
    (stay-opens all e es stay (ap is_enter enters) opens.0))))

abbrev TurnsFit : List ℕ → List Event → Type 0
TurnsFit bytes es =
    (place : ListPlace) (spot : Spot) → MayStay all es → TurnsAlone spot es →
    TurnsNestFrom spot (left_in heads bytes (in_items place) es)

-- an event that passes
turn-passed : (bytes : List ℕ) (e : Event) (es : List Event) → TurnsFit bytes es → (place : ListPlace) (spot : Spot) →
    MayStay all (e ∷ es) → IsClear e → TurnsAlone spot (e ∷ es) →
    TurnsNestFrom spot (left_in heads bytes (in_items place) (e ∷ es))
turn-passed bytes e es fit place spot stay clear h =
    subst (TurnsNestFrom spot)
    (sym (passed-one heads bytes (in_items place) e es (rw (clear.item, clear.heading) refl))) (
      h.1,
      subst (λ (next : Spot). TurnsNestFrom next left)
          (spot-same spot e.kind (is_paragraph e.name) (is_underline e.name) (is_turned es) (is_turned left)
          (ahead-same bytes place e es stay))
          (fit place _ (stay-drop all (e ∷ es) stay 1) h.2),
    )
  where
    left : List Event
    left = left_in heads bytes (in_items place) es

turn-event : (bytes : List ℕ) (e : Event) (es : List Event) → ((k : ℕ) → TurnsFit bytes (drop k es)) →
    TurnsFit bytes (e ∷ es)
turn-event bytes e es fit place Apart stay h = go (of_item e) refl (begins is_heading e) refl
  where
    next : MayStay all es
    next = stay-drop all (e ∷ es) stay 1

    go : (x : Bool) → of_item e ≡ x → (y : Bool) → begins is_heading e ≡ y →
        TurnsNestFrom Apart (left_in heads bytes (in_items place) (e ∷ es))
    go true item y heading =
        subst (TurnsNestFrom Apart) (sym (item-step heads bytes (in_items place) e es refl item))
        (apart-past (given bytes place e es) _
        (pass-unturned (given bytes place e es) (given-pass all bytes place e es item))
        (fit 0 (place_after bytes place e es) Apart next
        (apart-rest (e ∷ []) es ((item-free e item).turn refl, tt) h)))
    go false item true heading =
        let many : ℕ = heading_len es in
        subst (TurnsNestFrom Apart)
        (sym (heading-step heads bytes (in_items place) e es refl heading (stay-any heads (e ∷ es) stay)))
        (apart-past (headings_resolved (take (suc many) (e ∷ es))) _
        (quiet-unturned (headings_resolved (take (suc many) (e ∷ es))) (heading-given all e es refl heading stay))
        (fit many place Apart (stay-drop all es next many)
        (apart-rest (e ∷ take many es) (drop many es)
        (quiet-unturned (e ∷ take many es) (heading-front all e es refl heading stay))
        (heading-left (λ (l : List Event). TurnsAlone Apart (e ∷ l)) es many h))))
    go false item false heading =
        turn-passed bytes e es (fit 0) place Apart stay (record { item = item; heading = heading }) h
turn-event bytes e es fit place InText stay h = turn-passed bytes e es (fit 0) place InText stay h.0 h
turn-event bytes e es fit place (Between many) stay h = turn-passed bytes e es (fit 0) place (Between many) stay h.0 h
turn-event bytes e es fit place InUnderline stay h = turn-passed bytes e es (fit 0) place InUnderline stay h.0 h

turns-fit : (bytes : List ℕ) (es : List Event) (n : ℕ) → TurnsFit bytes (drop n es)
turns-fit bytes [] zero = λ place spot stay h. h
turns-fit bytes [] (suc n) = λ place spot stay h. h
turns-fit bytes (e ∷ es) zero = turn-event bytes e es (λ k. turns-fit bytes es k)
turns-fit bytes (e ∷ es) (suc n) = turns-fit bytes es n

-- Tables, where setext headings are set too.

abbrev turns : Wanted
turns = record { items = true; atx = true; setext = true; tables = false }

abbrev in_turn : ListPlace → Bool → Situation
in_turn place on = record { items = place; on = on }

pass-tableless : (xs : List Event) → AllPass all xs → NoTables xs
pass-tableless [] h = tt
pass-tableless (e ∷ xs) h = (h.0.table refl, pass-tableless xs h.1)

quiet-tableless : (xs : List Event) → AreQuiet all xs → NoTables xs
quiet-tableless [] h = tt
quiet-tableless (e ∷ xs) h = (h.0.2 refl, quiet-tableless xs h.1)

-- outside of tables another event leaves one outside
outside-past : (xs ys : List Event) → NoTables xs → RowsAllowed Outside ys → RowsAllowed Outside (xs ++ ys)
outside-past [] ys h k = k
outside-past (e ∷ xs) ys h k = (
  tt,
  subst (λ (x : Bool). RowsAllowed (cond x (InTable false []) Outside) (xs ++ ys)) (sym h.0) (outside-past xs ys h.1 k),
)

outside-rest : (xs ys : List Event) → NoTables xs → RowsAlone Outside (xs ++ ys) → RowsAlone Outside ys
outside-rest [] ys h k = k
outside-rest (e ∷ xs) ys h k =
    outside-rest xs ys h.1 (subst (λ (x : Bool). RowsAlone (cond x (InTable false []) Outside) (xs ++ ys)) h.0 k.2)

abbrev TablesFit : List ℕ → List Event → Type 0
TablesFit bytes es =
    (place : ListPlace) (on : Bool) (at : TablePlace) → MayStay all es → RowsAlone at es →
    RowsAllowed at (left_in turns bytes (in_turn place on) es)

table-passed : (bytes : List ℕ) (e : Event) (es : List Event) → TablesFit bytes es → (place : ListPlace) (on : Bool)
    (at : TablePlace) → MayStay all (e ∷ es) → IsClear e → is_unturned e ≡ true → RowsAlone at (e ∷ es) →
    RowsAllowed at (left_in turns bytes (in_turn place on) (e ∷ es))
table-passed bytes e es fit place on at stay clear text h =
    subst (RowsAllowed at)
    (sym (passed-one turns bytes (in_turn place on) e es (rw (clear.item, clear.heading, text) refl)))
    (h.1, fit place on (place_following at e) (stay-drop all (e ∷ es) stay 1) h.2)

table-event : (bytes : List ℕ) (e : Event) (es : List Event) → ((k : ℕ) → TablesFit bytes (drop k es)) →
    TablesFit bytes (e ∷ es)
table-event bytes e es fit place on Outside stay h =
    go (of_item e) refl (begins is_heading e) refl (is_unturned e) refl
  where
    next : MayStay all es
    next = stay-drop all (e ∷ es) stay 1

    go : (x : Bool) → of_item e ≡ x → (y : Bool) → begins is_heading e ≡ y → (z : Bool) → is_unturned e ≡ z →
        RowsAllowed Outside (left_in turns bytes (in_turn place on) (e ∷ es))
    go true item y heading z text =
        subst (RowsAllowed Outside) (sym (item-step turns bytes (in_turn place on) e es refl item))
        (outside-past (given bytes place e es) _
        (pass-tableless (given bytes place e es) (given-pass all bytes place e es item))
        (fit 0 (place_after bytes place e es) on Outside next
        (outside-rest (e ∷ []) es ((item-free e item).table refl, tt) h)))
    go false item true heading z text =
        let many : ℕ = heading_len es in
        subst (RowsAllowed Outside)
        (sym (heading-step turns bytes (in_turn place on) e es refl heading (stay-any turns (e ∷ es) stay)))
        (outside-past (headings_resolved (take (suc many) (e ∷ es))) _
        (quiet-tableless (headings_resolved (take (suc many) (e ∷ es))) (heading-given all e es refl heading stay))
        (fit many place on Outside (stay-drop all es next many)
        (outside-rest (e ∷ take many es) (drop many es)
        (quiet-tableless (e ∷ take many es) (heading-front all e es refl heading stay))
        (heading-left (λ (l : List Event). RowsAlone Outside (e ∷ l)) es many h))))
    go false item false heading false text =
        let none : begins_table (bound_of e) ≡ false = (text-name e.name text).table e.kind in
        subst (RowsAllowed Outside)
        (sym (setext-step turns bytes (in_turn place on) e es refl text (stay-any turns (e ∷ es) stay)))
        (outside-past (given_by (turn e) on (is_turned es) e) _ (given-tableless (turn e) on (is_turned es) e none)
        (fit 0 place (on_by (turn e) on (is_turned es)) Outside next (outside-rest (e ∷ []) es (none, tt) h)))
    go false item false heading true text =
        table-passed bytes e es (fit 0) place on Outside stay (record { item = item; heading = heading }) text h
table-event bytes e es fit place on (InTable headed names) stay h =
    table-passed bytes e es (fit 0) place on (InTable headed names) stay h.0.0 h.0.1 h
table-event bytes e es fit place on (InRow headed k names) stay h =
    table-passed bytes e es (fit 0) place on (InRow headed k names) stay h.0.0 h.0.1 h

tables-fit : (bytes : List ℕ) (es : List Event) (n : ℕ) → TablesFit bytes (drop n es)
tables-fit bytes [] zero = λ place on at stay h. tt
tables-fit bytes [] (suc n) = λ place on at stay h. tt
tables-fit bytes (e ∷ es) zero = table-event bytes e es (λ k. tables-fit bytes es k)
tables-fit bytes (e ∷ es) (suc n) = tables-fit bytes es n

-- Events that fit all four resolvers fit each where it gets them.
pub fits-nest : (bytes : List ℕ) (es : List Event) → FitsAll es → MayNest every bytes es
fits-nest bytes es fits = record {
  lists = λ on. fits.lists;
  headings = λ on. runs-listed bytes outside None es fits.headings;
  turns = λ on. turns-fit bytes es 0 outside Apart stay fits.turns;
  tables = λ on. tables-fit bytes es 0 outside false Outside stay fits.tables;
}
  where
    stay : MayStay all es
    stay = (Nothing, inr fits.alone)
