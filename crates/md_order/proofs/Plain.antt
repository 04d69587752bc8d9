-- What the resolvers of headings and tables give for events of no item is of no item, so it stays as it is where lists
-- are put around items.
use Rattle.std.proofs.Common.{◌≡◌, inl, inr, ℕ, suc, Bool, true, false, cond, ◌&&◌, List, [], ◌∷◌, ◌++◌, take, refl, ap}
use Rattle.std.proofs.Common.{sym, ◌∙◌, subst}
use Rattle.std.specs.List.{All}
use Rattle.std.proofs.lemmas.Bool.{and_parts}
use Rattle.std.proofs.lemmas.List.Elements.{All-cons, All-head, All-nil, All-tail}
use Rattle.md_engine.specs.declared.event.Event.{Event}
use Rattle.md_engine.specs.declared.event.Kind.TheVariants.{Enter}
use Rattle.md_engine.specs.declared.event.Name.{Name}
use Rattle.md_engine.specs.declared.event.Name.TheVariants as n
use Rattle.md_containers.specs.Listed.{Place as ListPlace, is_item, listed_from}
use Rattle.md_containers.proofs.ListedLemmas.{passes-given}
use Rattle.md_leaves.specs.HeadingText.{begins, headings_resolved, is_heading}
use Rattle.md_leaves.specs.Turned.{BeginsText, EndsText, EndsUnderline, Stays, Turn, given_by}
use Rattle.md_events.specs.Events.Nested.{is_enter, is_exit}
use Rattle.md_events.specs.Events.Spelled.{role}
use Rattle.md_tables.specs.Heads.{is_table}
use Rattle.md_tables.specs.Tabled.{begins_table, bound_of, tabled}
use Rattle.md_tables.proofs.CellsLemmas.{is_put}
use Rattle.md_tables.proofs.TabledWalk.{tabled-kept}
use Rattle.md_order.specs.declared.wanted.Wanted.{Wanted}
use Rattle.md_order.specs.Alone.{HoldNoBlock, InTable, Nothing, Open, closes, is_set, opened_by}
use Rattle.md_order.specs.Left.{MayBeLeft, MayStay, ends_table, heading_len, table_len}
use Rattle.md_order.proofs.HeadStep.{AreQuiet, heading-given}
use Rattle.md_order.proofs.Names.{table-begin, unset-item}
use Rattle.md_order.proofs.Stay.{closed-table, stay-opens}
use Rattle.md_order.proofs.TableSlice.{slice, slice-is}

-- headings and tables are set, and items too or not
abbrev pub with_items : Bool → Wanted
with_items i = record { items = i; atx = true; setext = true; tables = true }

-- These are more than one resolver, so leaves hold no block.
pub left-holds : (leaf : Open) (es : List Event) → MayBeLeft (with_items true) leaf es → HoldNoBlock leaf es
left-holds leaf es (inl one) = absurd (let no : false ≡ true = one in cc)
left-holds leaf es (inr hold) = hold

-- Events of no item.

abbrev pub of_item : Event → Bool
of_item e = is_item (role e.name)

abbrev pub IsPlain : Event → Type 0
IsPlain e = of_item e ≡ false

abbrev pub ArePlain : List Event → Type 0
ArePlain [] = Unit {0}
ArePlain (e ∷ es) = IsPlain e × ArePlain es

-- they stay as they are
pub plain-past : (bytes : List ℕ) (place : ListPlace) (xs ys : List Event) → ArePlain xs →
    listed_from bytes place (xs ++ ys) ≡ xs ++ listed_from bytes place ys
plain-past bytes place [] ys h = refl
plain-past bytes place (e ∷ xs) ys h =
    passes-given bytes place e (xs ++ ys) h.0 ∙ ap (λ (l : List Event). e ∷ l) (plain-past bytes place xs ys h.1)

-- What is given for an ATX heading, as what is in it is of no item.

quiet-plain : (xs : List Event) → AreQuiet (with_items true) xs → ArePlain xs
quiet-plain [] h = tt
quiet-plain (e ∷ xs) h = (h.0.0 refl, quiet-plain xs h.1)

-- what is given for one is so
pub heading-plain : (e : Event) (es : List Event) → begins is_heading e ≡ true → MayStay (with_items true) (e ∷ es) →
    ArePlain (headings_resolved (take (suc (heading_len es)) (e ∷ es)))
heading-plain e es begins stay =
    quiet-plain (headings_resolved (e ∷ take (heading_len es) es))
    (heading-given (with_items true) e es refl begins stay)

-- What is given for an event of a paragraph or an underline.
pub turn-plain : (t : Turn) (on begins : Bool) (e : Event) → IsPlain e → ArePlain (given_by t on begins e)
turn-plain BeginsText on true e h = (refl, (refl, tt))
turn-plain BeginsText on false e h = (h, tt)
turn-plain EndsText true begins e h = (refl, tt)
turn-plain EndsText false begins e h = (h, tt)
turn-plain EndsUnderline true begins e h = (h, (refl, tt))
turn-plain EndsUnderline false begins e h = (h, tt)
turn-plain Stays on begins e h = (h, tt)

-- What is given for a table, since its events are of no item.

table-item : (name : Name) → is_table name ≡ true → is_item (role name) ≡ false
table-item n.GfmTable h = refl
table-item _ h = absurd (let no : false ≡ true = h in cc)

slice-plain : (es : List Event) → HoldNoBlock InTable es → All IsPlain (slice es)
slice-plain [] h = All-nil IsPlain
slice-plain (e ∷ es) h = go (ends_table e) refl (λ k. slice-plain es k)
  where
    same : closes InTable e ≡ ends_table e
    same = ap (λ (x : Bool). is_exit e.kind && x) (closed-table e.name)

    go : (x : Bool) → ends_table e ≡ x → (HoldNoBlock InTable es → All IsPlain (slice es)) →
        All IsPlain (e ∷ cond x [] (slice es))
    go true is more =
        All-cons IsPlain e [] (table-item e.name (and_parts (is_exit e.kind) (is_table e.name) is).1) (All-nil IsPlain)
    go false is more =
        All-cons IsPlain e (slice es) (unset-item e.name (h.0 (same ∙ is)))
        (more (subst (λ (x : Bool). HoldNoBlock (cond x Nothing InTable) es) (same ∙ is) h.1))

put-plain : (name : Name) → is_put name ≡ true → is_item (role name) ≡ false
put-plain n.ListItem h = absurd (let no : false ≡ true = h in cc)
put-plain _ h = refl

each-plain : (es : List Event) → All IsPlain es → ArePlain es
each-plain [] h = tt
each-plain (e ∷ es) h = (All-head IsPlain e es h, each-plain es (All-tail IsPlain e es h))

begun-table : (name : Name) → name ≡ n.GfmTable →
    (is_item (role name) ≡ false) × (is_set name ≡ true) × (opened_by name ≡ InTable)
begun-table name h = rw h (refl, refl, refl)

pub table-plain : (e : Event) (es : List Event) → begins_table (bound_of e) ≡ true →
    MayStay (with_items true) (e ∷ es) → ArePlain (tabled (take (suc (table_len es)) (e ∷ es)))
table-plain e es begins stay =
    each-plain (tabled (e ∷ take (table_len es) es))
    (tabled-kept IsPlain (λ kind name f put k. put-plain name put) (e ∷ take (table_len es) es)
    (All-cons IsPlain e (take (table_len es) es) name.0
    (subst (All IsPlain) (sym (slice-is es)) (slice-plain es (left-holds InTable es inside)))))
  where
    parts : (e.kind ≡ Enter) × (e.name ≡ n.GfmTable)
    parts = table-begin e begins

    name : (is_item (role e.name) ≡ false) × (is_set e.name ≡ true) × (opened_by e.name ≡ InTable)
    name = begun-table e.name parts.1

    inside : MayBeLeft (with_items true) InTable es
    inside =
        subst (λ (o : Open). MayBeLeft (with_items true) o es) name.2
        (stay-opens (with_items true) e es stay (ap is_enter parts.0) name.1)
