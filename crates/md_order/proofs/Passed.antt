-- Events that pass outside of headings, for each resolver and for all of them.
use Rattle.std.proofs.Common.{◌≡◌, ℕ, suc, ◌+◌, Bool, true, false, cond, not, ◌&&◌, ◌||◌, List, [], ◌∷◌}
use Rattle.std.proofs.Common.{◌++◌, take, drop, refl, ap, sym, ◌∙◌, arith}
use Rattle.std.specs.List.{prefix_len}
use Rattle.std.proofs.lemmas.Bool.{and_right, or_parts}
use Rattle.md_engine.specs.declared.event.Event.{Event}
use Rattle.md_containers.specs.Listed.{Place as ListPlace, is_item, listed_from}
use Rattle.md_containers.proofs.ListedLemmas.{passes-given as listed-passes}
use Rattle.md_leaves.specs.HeadingText.{Before, Outside, begins, is_heading, resolved}
use Rattle.md_leaves.specs.Turned.{passes as is_unturned, turned_from}
use Rattle.md_leaves.proofs.TurnedLemmas.{passes-given as turned-passes}
use Rattle.md_events.specs.Events.Nested.{is_enter}
use Rattle.md_events.specs.Events.Spelled.{role}
use Rattle.md_tables.specs.Tabled.{begins_table, bound_of, tabled}
use Rattle.md_tables.proofs.TabledWalk.{passes-given as tabled-passes}
use Rattle.md_order.specs.declared.wanted.Wanted.{Wanted}
use Rattle.md_order.specs.InOrder.{set_if}
use Rattle.md_order.specs.Left.{Situation, is_passed, left_in}
use Rattle.md_order.proofs.Names.{IsBare, bare-unturned, tableless}

-- One resolver, if it is wanted, gives an event of none of its blocks as it is.

pub items-pass : (x : Bool) (bytes : List ℕ) (place : ListPlace) (e : Event) (es : List Event) →
    (x ≡ true → is_item (role e.name) ≡ false) →
    set_if x (listed_from bytes place) (e ∷ es) ≡ e ∷ set_if x (listed_from bytes place) es
items-pass true bytes place e es h = listed-passes bytes place e es (h refl)
items-pass false bytes place e es h = refl

pub heads-pass : (x : Bool) (e : Event) (es : List Event) → (x ≡ true → begins is_heading e ≡ false) →
    set_if x (resolved Outside) (e ∷ es) ≡ e ∷ set_if x (resolved Outside) es
heads-pass true e es h = ap (λ (y : Bool). e ∷ resolved (cond y Before Outside) es) (h refl)
heads-pass false e es h = refl

pub turns-pass : (x on : Bool) (e : Event) (es : List Event) → (x ≡ true → is_unturned e ≡ true) →
    set_if x (turned_from on) (e ∷ es) ≡ e ∷ set_if x (turned_from on) es
turns-pass true on e es h = turned-passes on e es (h refl)
turns-pass false on e es h = refl

pub tables-pass : (x : Bool) (e : Event) (es : List Event) → (x ≡ true → begins_table (bound_of e) ≡ false) →
    set_if x tabled (e ∷ es) ≡ e ∷ set_if x tabled es
tables-pass true e es h = tabled-passes e es (ap not (h refl))
tables-pass false e es h = refl

-- nothing stays nothing
pub items-none : (x : Bool) (bytes : List ℕ) (place : ListPlace) → set_if x (listed_from bytes place) [] ≡ []
items-none true bytes place = refl
items-none false bytes place = refl

pub heads-none : (x : Bool) → set_if x (resolved Outside) [] ≡ []
heads-none true = refl
heads-none false = refl

pub turns-none : (x on : Bool) → set_if x (turned_from on) [] ≡ []
turns-none true on = refl
turns-none false on = refl

pub tables-none : (x : Bool) → set_if x tabled [] ≡ []
tables-none true = refl
tables-none false = refl

-- The resolvers after that of headings, and after that of items.

abbrev pub after_heads : Wanted → Bool → List Event → List Event
after_heads w on es = set_if w.tables tabled (set_if w.setext (turned_from on) es)

abbrev pub after_items : Wanted → Bool → List Event → List Event
after_items w on es = after_heads w on (set_if w.atx (resolved Outside) es)

-- An event that passes them.
pub record Passes (w : Wanted) (e : Event) : Type 0 where
  pub head : w.atx ≡ true → begins is_heading e ≡ false
  pub turn : w.setext ≡ true → is_unturned e ≡ true
  pub table : w.tables ≡ true → begins_table (bound_of e) ≡ false

pub bare-passes : (w : Wanted) (e : Event) → IsBare e.name → Passes w e
bare-passes w e h = record {
  head = λ k. and_right (is_enter e.kind) (is_heading e.name) h.heading;
  turn = λ k. bare-unturned e h;
  table = λ k. tableless e.kind e.name h.table;
}

pub heads-past : (w : Wanted) (on : Bool) (e : Event) (es : List Event) → (w.setext ≡ true → is_unturned e ≡ true) →
    (w.tables ≡ true → begins_table (bound_of e) ≡ false) →
    after_heads w on (e ∷ es) ≡ e ∷ after_heads w on es
heads-past w on e es turn table =
    ap (set_if w.tables tabled) (turns-pass w.setext on e es turn)
    ∙ tables-pass w.tables e (set_if w.setext (turned_from on) es) table

pub items-past : (w : Wanted) (on : Bool) (e : Event) (es : List Event) → Passes w e →
    after_items w on (e ∷ es) ≡ e ∷ after_items w on es
items-past w on e es h =
    ap (after_heads w on) (heads-pass w.atx e es h.head)
    ∙ heads-past w on e (set_if w.atx (resolved Outside) es) h.turn h.table

-- An event of no block that is set passes all.

and-none : (x y : Bool) → (x && y) ≡ false → x ≡ true → y ≡ false
and-none true y h k = h
and-none false y h k = absurd (let no : false ≡ true = k in cc)

not-none : (x : Bool) → not x ≡ false → x ≡ true
not-none true h = refl
not-none false h = absurd (let no : true ≡ false = h in cc)

pub not-all : (x : Bool) → not x ≡ true → x ≡ false
not-all true h = absurd (let no : false ≡ true = h in cc)
not-all false h = refl

pub passed-one : (w : Wanted) (bytes : List ℕ) (at : Situation) (e : Event) (es : List Event) →
    is_passed w e ≡ true → left_in w bytes at (e ∷ es) ≡ e ∷ left_in w bytes at es
passed-one w bytes at e es h =
    ap (after_items w at.on)
    (items-pass w.items bytes at.items e es (and-none w.items (is_item (role e.name)) (first).0))
    ∙ items-past w at.on e (set_if w.items (listed_from bytes at.items) es)
    (record {
      head = and-none w.atx (begins is_heading e) first.1;
      turn = λ k. not-none (is_unturned e) (and-none w.setext (not (is_unturned e)) second.1 k);
      table = and-none w.tables (begins_table (bound_of e)) third.1;
    })
  where
    i : Bool
    i = w.items && is_item (role e.name)

    a : Bool
    a = w.atx && begins is_heading e

    s : Bool
    s = w.setext && not (is_unturned e)

    t : Bool
    t = w.tables && begins_table (bound_of e)

    third : (((i || a) || s) ≡ false) × (t ≡ false)
    third = or_parts ((i || a) || s) t (not-all (((i || a) || s) || t) h)

    second : ((i || a) ≡ false) × (s ≡ false)
    second = or_parts (i || a) s third.0

    first : (i ≡ false) × (a ≡ false)
    first = or_parts i a second.0

-- So do all before the next that does not.

passed-run : (w : Wanted) (bytes : List ℕ) (at : Situation) (es : List Event) →
    left_in w bytes at es
    ≡ take (prefix_len (is_passed w) es) es ++ left_in w bytes at (drop (prefix_len (is_passed w) es) es)
passed-run w bytes at [] = refl
passed-run w bytes at (e ∷ es) = go (is_passed w e) refl (passed-run w bytes at es)
  where
    n : ℕ
    n = prefix_len (is_passed w) es

    go : (x : Bool) → is_passed w e ≡ x →
        left_in w bytes at es ≡ take n es ++ left_in w bytes at (drop n es) →
        left_in w bytes at (e ∷ es)
        ≡ take (cond x (1 + n) 0) (e ∷ es) ++ left_in w bytes at (drop (cond x (1 + n) 0) (e ∷ es))
    go false h k = refl
    go true h k =
        passed-one w bytes at e es h ∙ ap (λ (l : List Event). e ∷ l) k
        ∙ ap (λ (m : ℕ). take m (e ∷ es) ++ left_in w bytes at (drop m (e ∷ es)))
        (let one : suc n ≡ 1 + n = omega arith in one)

pub passed-many : (w : Wanted) (bytes : List ℕ) (at : Situation) (es : List Event) (n : ℕ) →
    n ≡ prefix_len (is_passed w) es → left_in w bytes at es ≡ take n es ++ left_in w bytes at (drop n es)
passed-many w bytes at es n count =
    passed-run w bytes at es
    ∙ ap (λ (m : ℕ). take m es ++ left_in w bytes at (drop m es)) (sym count)
