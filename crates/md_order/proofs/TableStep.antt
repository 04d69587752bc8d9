-- A table, where one is outside of ATX headings: it is set whole.
use Rattle.std.proofs.Common.{◌≡◌, inl, inr, ℕ, suc, Bool, true, false, cond, ◌&&◌, List, [], ◌∷◌}
use Rattle.std.proofs.Common.{◌++◌, take, drop, refl, ap, sym, ◌∙◌, subst}
use Rattle.std.proofs.lemmas.Bool.{and_left, and_parts}
use Rattle.md_engine.specs.declared.event.Event.{Event}
use Rattle.md_engine.specs.declared.event.Kind.TheVariants.{Enter}
use Rattle.md_engine.specs.declared.event.Name.{Name}
use Rattle.md_engine.specs.declared.event.Name.TheVariants as n
use Rattle.md_containers.specs.Listed.{is_item}
use Rattle.md_leaves.specs.HeadingText.{is_heading}
use Rattle.md_leaves.specs.Turned.{passes as is_unturned, turned_from}
use Rattle.md_events.specs.Events.Nested.{is_enter, is_exit}
use Rattle.md_events.specs.Events.Spelled.{role}
use Rattle.md_tables.specs.Heads.{is_table}
use Rattle.md_tables.specs.Tabled.{begins_table, bound_of, tabled}
use Rattle.md_tables.specs.declared.cells.Stage.TheVariants as row
use Rattle.md_tables.specs.declared.tables.Section.TheVariants as in_table
use Rattle.md_order.specs.declared.wanted.Wanted.{Wanted}
use Rattle.md_order.specs.Alone.{HoldNoBlock, InTable, Nothing, Open, closes, is_set, opened_by}
use Rattle.md_order.specs.InOrder.{set_if}
use Rattle.md_order.specs.Left.{MayBeLeft, MayStay, Situation, ends_table, left_in, table_len}
use Rattle.md_order.proofs.Names.{bare-unturned, table-begin, unset-bare, unset-item}
use Rattle.md_order.proofs.Passed.{turns-none, turns-pass}
use Rattle.md_order.proofs.SetextLook.{ahead, ahead-none, ahead-pass}
use Rattle.md_order.proofs.Stay.{closed-table, one-table, stay-opens}
use Rattle.md_order.proofs.TableSlice.{rest, rest-follows, rest-is, slice, slice-is, tabled-slice}

-- The events as the three before tables leave them.
abbrev in_front : Wanted → List ℕ → Situation → List Event → List Event
in_front w bytes at es = set_if w.setext (turned_from at.on) (ahead w.atx w.items bytes at.items es)

front-none : (w : Wanted) (bytes : List ℕ) (at : Situation) → in_front w bytes at [] ≡ []
front-none w bytes at =
    ap (set_if w.setext (turned_from at.on)) (ahead-none w.atx w.items bytes at.items)
    ∙ turns-none w.setext at.on

-- an event that all of them pass
record IsOther (e : Event) : Type 0 where
  item : is_item (role e.name) ≡ false
  heading : is_heading e.name ≡ false
  text : is_unturned e ≡ true

front-pass : (w : Wanted) (bytes : List ℕ) (at : Situation) (e : Event) (es : List Event) → IsOther e →
    in_front w bytes at (e ∷ es) ≡ e ∷ in_front w bytes at es
front-pass w bytes at e es h =
    ap (set_if w.setext (turned_from at.on))
    (ahead-pass w.atx w.items bytes at.items e es h.item h.heading)
    ∙ turns-pass w.setext at.on e (ahead w.atx w.items bytes at.items es) (λ k. h.text)

table-other : (e : Event) → is_table e.name ≡ true → IsOther e
table-other e h = go e.name h
  where
    go : (name : Name) → is_table name ≡ true → IsOther (record e { name = name })
    go n.GfmTable h = record { item = refl; heading = refl; text = refl }
    go _ h = absurd (let no : false ≡ true = h in cc)

unset-other : (e : Event) → is_set e.name ≡ false → IsOther e
unset-other e h = record {
  item = unset-item e.name h;
  heading = (unset-bare e.name h).heading;
  text = bare-unturned e (unset-bare e.name h);
}

-- What is in a table passes them.
inside-passes : (w : Wanted) (bytes : List ℕ) (at : Situation) (es : List Event) → HoldNoBlock InTable es →
    in_front w bytes at es ≡ slice es ++ in_front w bytes at (rest es)
inside-passes w bytes at [] h = refl
inside-passes w bytes at (e ∷ es) h =
    go (ends_table e) refl (λ k. inside-passes w bytes at es k)
  where
    same : closes InTable e ≡ ends_table e
    same = ap (λ (x : Bool). is_exit e.kind && x) (closed-table e.name)

    go : (x : Bool) → ends_table e ≡ x →
        (HoldNoBlock InTable es → in_front w bytes at es ≡ slice es ++ in_front w bytes at (rest es)) →
        in_front w bytes at (e ∷ es) ≡ (e ∷ cond x [] (slice es)) ++ in_front w bytes at (cond x es (rest es))
    go true is more =
        front-pass w bytes at e es (table-other e (and_parts (is_exit e.kind) (is_table e.name) is).1)
    go false is more =
        front-pass w bytes at e es (unset-other e (h.0 (same ∙ is)))
        ∙ ap (λ (l : List Event). e ∷ l)
        (more (subst (λ (x : Bool). HoldNoBlock (cond x Nothing InTable) es) (same ∙ is) h.1))

-- if tables alone are set, all passes
alone-passes : (w : Wanted) (bytes : List ℕ) (at : Situation) → w.items ≡ false → w.atx ≡ false → w.setext ≡ false →
    (es : List Event) → in_front w bytes at es ≡ es
alone-passes w bytes at i a s es =
    ap (λ (x : Bool). set_if x (turned_from at.on) (ahead w.atx w.items bytes at.items es)) s
    ∙ ap (λ (x : Bool). ahead x w.items bytes at.items es) a
    ∙ ap (λ (x : Bool). ahead false x bytes at.items es) i

slice-rest : (es : List Event) → es ≡ slice es ++ rest es
slice-rest [] = refl
slice-rest (e ∷ es) = go (ends_table e) (slice-rest es)
  where
    go : (x : Bool) → es ≡ slice es ++ rest es → e ∷ es ≡ (e ∷ cond x [] (slice es)) ++ cond x es (rest es)
    go true h = refl
    go false h = ap (λ (l : List Event). e ∷ l) h

slice-passes : (w : Wanted) (bytes : List ℕ) (at : Situation) (es : List Event) → w.tables ≡ true →
    MayBeLeft w InTable es → in_front w bytes at es ≡ slice es ++ in_front w bytes at (rest es)
slice-passes w bytes at es on (inl one) =
    let others = one-table w one on in
    let same : (zs : List Event) → in_front w bytes at zs ≡ zs = alone-passes w bytes at others.0 others.1 others.2 in
    same es ∙ slice-rest es ∙ ap (λ (l : List Event). slice es ++ l) (sym (same (rest es)))
slice-passes w bytes at es on (inr hold) = inside-passes w bytes at es hold

-- the begin of one
begun-set : (name : Name) → name ≡ n.GfmTable → (is_set name ≡ true) × (opened_by name ≡ InTable)
begun-set name h = rw h (refl, refl)

pub table-step : (w : Wanted) (bytes : List ℕ) (at : Situation) (e : Event) (es : List Event) → w.tables ≡ true →
    begins_table (bound_of e) ≡ true → MayStay w (e ∷ es) →
    left_in w bytes at (e ∷ es)
    ≡ tabled (take (suc (table_len es)) (e ∷ es)) ++ left_in w bytes at (drop (suc (table_len es)) (e ∷ es))
table-step w bytes at e es on h stay =
    ap (set_if w.tables tabled)
    (front-pass w bytes at e es (table-other e (ap is_table begins.1))
    ∙ ap (λ (l : List Event). e ∷ l) (slice-passes w bytes at es on opened))
    ∙ ap (λ (x : Bool). set_if x tabled ((e ∷ slice es) ++ in_front w bytes at (rest es))) on
    ∙ set
    ∙ ap (λ (x : Bool). tabled (e ∷ slice es) ++ set_if x tabled (in_front w bytes at (rest es))) (sym on)
    ∙ ap (λ (l : List Event). tabled (e ∷ l) ++ left_in w bytes at (rest es)) (sym (slice-is es))
    ∙ ap (λ (l : List Event). tabled (e ∷ take (table_len es) es) ++ left_in w bytes at l)
    (sym (rest-is es))
  where
    begins : (e.kind ≡ Enter) × (e.name ≡ n.GfmTable)
    begins = table-begin e h

    opened : MayBeLeft w InTable es
    opened =
        let is = begun-set e.name begins.1 in
        subst (λ (o : Open). MayBeLeft w o es) is.1
        (stay-opens w e es stay (ap is_enter begins.0) is.0)

    no_end : ends_table e ≡ false
    no_end = and_left (is_exit e.kind) (is_table e.name) (ap is_exit begins.0)

    set : tabled ((e ∷ slice es) ++ in_front w bytes at (rest es))
        ≡ tabled (e ∷ slice es) ++ tabled (in_front w bytes at (rest es))
    set =
        subst
        (λ (x : Bool).
        tabled ((e ∷ cond x [] (slice es)) ++ in_front w bytes at (rest es))
        ≡ tabled (e ∷ cond x [] (slice es)) ++ tabled (in_front w bytes at (rest es))) no_end
        (tabled-slice (e ∷ es) (in_front w bytes at (rest es)) in_table.Outside row.Outside
        (λ k. rest-follows (in_front w bytes at) (front-none w bytes at) es))
