-- The steps of one pass: what is given so far, and what is given for what is left, stay the same in all.
use Rattle.std.proofs.Common.{◌≡◌, ◌≤◌, ◌<◌, length-drop, ℕ, Bool, true, false, List, [], ◌∷◌, ◌++◌, drop, take, length}
use Rattle.std.proofs.Common.{refl, ap, sym, ◌∙◌}
use Rattle.std.proofs.Common.{subst, append_assoc, append-nil, ap₂, arith, cond, not, suc, ◌+◌, ◌&&◌, ◌⊎◌, inl, inr}
use Rattle.std.proofs.lemmas.List.{drop_all, take_all}
use Rattle.std.specs.List.{prefix_len}
use Rattle.md_engine.specs.declared.event.Event.{Event}
use Rattle.md_engine.specs.declared.event.Kind.{Kind}
use Rattle.md_engine.specs.declared.event.Kind.TheVariants.{Enter, Exit}
use Rattle.md_engine.specs.declared.event.Name.{Name}
use Rattle.md_engine.specs.declared.event.Name.TheVariants as n
use Rattle.md_containers.specs.Listed.{Place as ListPlace, given, is_item, place_after}
use Rattle.md_leaves.specs.HeadingText.{begins, headings_resolved, is_heading}
use Rattle.md_leaves.specs.Turned.{given_by, is_turned, on_by, turn, turned_from, passes as is_unturned}
use Rattle.md_order.specs.InOrder.{in_order, set_if}
use Rattle.md_order.specs.Left.{MayStay, Situation, ends_table, heading_len, is_passed, left_in, table_len}
use Rattle.md_order.specs.declared.wanted.Wanted.{Wanted}
use Rattle.md_order.proofs.Passed.{heads-none, items-none, passed-many, passed-one, tables-none, turns-none}
use Rattle.md_order.proofs.HeadStep.{heading-more, heading-step}
use Rattle.md_order.proofs.Items.{item-step}
use Rattle.md_order.proofs.SetextStep.{setext-step}
use Rattle.md_order.proofs.TableStep.{table-step}
use Rattle.md_events.specs.Events.Spelled.{role}
use Rattle.md_events.specs.Events.Nested.{is_exit}
use Rattle.md_tables.specs.Heads.{is_table}
use Rattle.md_tables.specs.Tabled.{begins_table, bound_by, bound_of, tabled}
use Rattle.md_resolve.specs.PassWalk as walk
use Rattle.md_events.specs.Rewritten.{IsFirst, given_of as given_at, held_of, left_of, written_of}
use Rattle.md_resolve.specs.declared.pass.Walk.{Walk}
use Rattle.md_events.specs.declared.rewriting.Rewriting.{Rewriting}

abbrev pub at : ListPlace → Bool → Situation
at p o = record { items = p; on = o }

-- The parts of a walk that count: its events, where it is among items, and whether a setext heading is open.
pub record Now : Type 0 where
  pub all : Rewriting
  pub items : ListPlace
  pub on : Bool

abbrev pub now_of : Walk → Now
now_of w = record { all = w.all; items = walk.items_of w; on = w.on }

abbrev pub given_of : Now → List Event
given_of n = given_at n.all

abbrev pub rest_of : Now → List Event
rest_of n = left_of n.all

abbrev pub whole_of : Wanted → List ℕ → Now → List Event
whole_of w bytes n = given_of n ++ left_in w bytes (at n.items n.on) (rest_of n)

-- all that is held is given
pub held-given : (old new : Now) (more : List Event) → written_of new.all ≡ written_of old.all →
    held_of new.all ≡ held_of old.all ++ more → given_of new ≡ given_of old ++ more
held-given old new more written held =
    ap₂ (λ (a b : List Event). a ++ b) written held ∙ sym (append_assoc (written_of old.all) (held_of old.all) more)

-- how many events are of a table, at most all
pub slice-many : (es : List Event) (end many : ℕ) → end ≡ prefix_len (λ (f : Event). not (ends_table f)) es →
    ((many ≡ end + 1) ⊎ ((length es ≤ end) × (many ≡ end))) →
    (take many es ≡ take (table_len es) es) × (drop many es ≡ drop (table_len es) es)
slice-many es end many is (inl more) =
    let same : many ≡ table_len es = more ∙ omega (arith, is) in
    (ap (λ (m : ℕ). take m es) same, ap (λ (m : ℕ). drop m es) same)
slice-many es end many is (inr all) =
    let long : length es ≤ many = omega (arith, all.0, all.1) in
    let longer : length es ≤ table_len es = omega (arith, all.0, is) in (
      take_all many es long ∙ sym (take_all (table_len es) es longer),
      drop_all many es long ∙ sym (drop_all (table_len es) es longer),
    )

-- Where what is given more is what the law of a step says, all is the same.
pub step-whole : (w : Wanted) (bytes : List ℕ) (old new : Now) (more left es : List Event) (items : ListPlace)
    (on : Bool) → rest_of old ≡ left → given_of new ≡ given_of old ++ more →
    new.items ≡ items → new.on ≡ on → rest_of new ≡ es →
    left_in w bytes (at old.items old.on) left ≡ more ++ left_in w bytes (at items on) es →
    whole_of w bytes new ≡ whole_of w bytes old
step-whole w bytes old new more left es items on left_is given_is items_is on_is rest_is law =
    ap (λ (x : List Event). x ++ left_in w bytes (at new.items new.on) (rest_of new)) given_is
    ∙ ap (λ (x : ListPlace). (given_of old ++ more) ++ left_in w bytes (at x new.on) (rest_of new)) items_is
    ∙ ap (λ (x : Bool). (given_of old ++ more) ++ left_in w bytes (at items x) (rest_of new)) on_is
    ∙ ap (λ (x : List Event). (given_of old ++ more) ++ left_in w bytes (at items on) x) rest_is
    ∙ append_assoc (given_of old) more (left_in w bytes (at items on) es)
    ∙ ap (λ (l : List Event). given_of old ++ l)
    (sym law ∙ ap (left_in w bytes (at old.items old.on)) (sym left_is))

pub item-whole : (w : Wanted) (bytes : List ℕ) (old new : Now) (e : Event) → w.items ≡ true →
    is_item (role e.name) ≡ true → IsFirst e (rest_of old) →
    given_of new ≡ given_of old ++ given bytes old.items e (drop 1 (rest_of old)) →
    new.items ≡ place_after bytes old.items e (drop 1 (rest_of old)) → new.on ≡ old.on →
    rest_of new ≡ drop 1 (rest_of old) → whole_of w bytes new ≡ whole_of w bytes old
item-whole w bytes old new e wanted item first given_is items_is on_is rest_is =
    let es : List Event = drop 1 (rest_of old) in
    step-whole w bytes old new (given bytes old.items e es) (e ∷ es) es (place_after bytes old.items e es)
    old.on first given_is items_is on_is rest_is
    (item-step w bytes (at old.items old.on) e es wanted item)

pub text-whole : (w : Wanted) (bytes : List ℕ) (old new : Now) (e : Event) → w.setext ≡ true →
    is_unturned e ≡ false → MayStay w (rest_of old) → IsFirst e (rest_of old) →
    given_of new ≡ given_of old ++ given_by (turn e) old.on (is_turned (drop 1 (rest_of old))) e →
    new.items ≡ old.items → new.on ≡ on_by (turn e) old.on (is_turned (drop 1 (rest_of old))) →
    rest_of new ≡ drop 1 (rest_of old) → whole_of w bytes new ≡ whole_of w bytes old
text-whole w bytes old new e wanted text stay first given_is items_is on_is rest_is =
    let es : List Event = drop 1 (rest_of old) in
    let begins : Bool = is_turned es in
    step-whole w bytes old new (given_by (turn e) old.on begins e) (e ∷ es) es old.items
    (on_by (turn e) old.on begins) first given_is items_is on_is rest_is
    (setext-step w bytes (at old.items old.on) e es wanted text (subst (MayStay w) first stay))

table-more : (e : Event) (es : List Event) → begins_table (bound_of e) ≡ true → table_len (e ∷ es) ≡ suc (table_len es)
table-more e es h = go e.kind e.name h
  where
    go : (kind : Kind) (name : Name) → begins_table (bound_by kind name) ≡ true →
        suc (cond (not (is_exit kind && is_table name)) (1 + prefix_len (λ (f : Event). not (ends_table f)) es) 0)
        ≡ suc (table_len es)
    go Enter name h = omega arith
    go Exit n.GfmTable h = absurd (let bad : false ≡ true = h in cc)
    go Exit n.GfmTableDelimiterRow h = absurd (let bad : false ≡ true = h in cc)
    go Exit _ h = absurd (let bad : false ≡ true = h in cc)

pub table-whole : (w : Wanted) (bytes : List ℕ) (old new : Now) (e : Event) → w.tables ≡ true →
    begins_table (bound_of e) ≡ true → MayStay w (rest_of old) → IsFirst e (rest_of old) →
    given_of new ≡ given_of old ++ tabled (take (table_len (rest_of old)) (rest_of old)) →
    new.items ≡ old.items → new.on ≡ old.on → rest_of new ≡ drop (table_len (rest_of old)) (rest_of old) →
    whole_of w bytes new ≡ whole_of w bytes old
table-whole w bytes old new e wanted begins stay first given_is items_is on_is rest_is =
    let es : List Event = drop 1 (rest_of old) in
    let n : ℕ = suc (table_len es) in
    let more : table_len (e ∷ es) ≡ n = table-more e es begins in
    step-whole w bytes old new (tabled (take n (e ∷ es))) (e ∷ es) (drop n (e ∷ es)) old.items old.on
    first
    (given_is ∙ ap (λ (l : List Event). given_of old ++ tabled (take (table_len l) l)) first
    ∙ ap (λ (m : ℕ). given_of old ++ tabled (take m (e ∷ es))) more)
    items_is on_is
    (rest_is ∙ ap (λ (l : List Event). drop (table_len l) l) first ∙ ap (λ (m : ℕ). drop m (e ∷ es)) more)
    (table-step w bytes (at old.items old.on) e es wanted begins (subst (MayStay w) first stay))

pub heading-whole : (w : Wanted) (bytes : List ℕ) (old new : Now) (e : Event) → w.atx ≡ true →
    begins is_heading e ≡ true → MayStay w (rest_of old) → IsFirst e (rest_of old) →
    given_of new ≡ given_of old ++ headings_resolved (take (heading_len (rest_of old)) (rest_of old)) →
    new.items ≡ old.items → new.on ≡ old.on → rest_of new ≡ drop (heading_len (rest_of old)) (rest_of old) →
    whole_of w bytes new ≡ whole_of w bytes old
heading-whole w bytes old new e wanted begins stay first given_is items_is on_is rest_is =
    let es : List Event = drop 1 (rest_of old) in
    let n : ℕ = suc (heading_len es) in
    let more : heading_len (e ∷ es) ≡ n = heading-more e es begins in
    step-whole w bytes old new (headings_resolved (take n (e ∷ es))) (e ∷ es) (drop n (e ∷ es)) old.items old.on
    first
    (given_is ∙ ap (λ (l : List Event). given_of old ++ headings_resolved (take (heading_len l) l)) first
    ∙ ap (λ (m : ℕ). given_of old ++ headings_resolved (take m (e ∷ es))) more)
    items_is on_is
    (rest_is ∙ ap (λ (l : List Event). drop (heading_len l) l) first ∙ ap (λ (m : ℕ). drop m (e ∷ es)) more)
    (heading-step w bytes (at old.items old.on) e es wanted begins (subst (MayStay w) first stay))

pub heading-fewer : (e : Event) (left : List Event) → IsFirst e left → begins is_heading e ≡ true →
    length (drop (heading_len left) left) < length left
heading-fewer e left first begins =
    let es : List Event = drop 1 left in
    subst (λ (l : List Event). length (drop (heading_len l) l) < length l) (sym first)
    (subst (λ (m : ℕ). length (drop m (e ∷ es)) < length (e ∷ es)) (sym (heading-more e es begins))
    (omega (arith, length-drop (heading_len es) es)))

pub passed-whole : (w : Wanted) (bytes : List ℕ) (old new : Now) (n : ℕ) →
    n ≡ prefix_len (is_passed w) (rest_of old) → given_of new ≡ given_of old ++ take n (rest_of old) →
    new.items ≡ old.items → new.on ≡ old.on → rest_of new ≡ drop n (rest_of old) →
    whole_of w bytes new ≡ whole_of w bytes old
passed-whole w bytes old new n n_is given_is items_is on_is rest_is =
    step-whole w bytes old new (take n (rest_of old)) (rest_of old) (drop n (rest_of old)) old.items old.on refl
    given_is items_is on_is rest_is
    (passed-many w bytes (at old.items old.on) (rest_of old) n n_is)

pub one-whole : (w : Wanted) (bytes : List ℕ) (old new : Now) (e : Event) →
    is_passed w e ≡ true → IsFirst e (rest_of old) → given_of new ≡ given_of old ++ e ∷ [] →
    new.items ≡ old.items → new.on ≡ old.on → rest_of new ≡ drop 1 (rest_of old) →
    whole_of w bytes new ≡ whole_of w bytes old
one-whole w bytes old new e passes first given_is items_is on_is rest_is =
    let es : List Event = drop 1 (rest_of old) in
    step-whole w bytes old new (e ∷ []) (e ∷ es) es old.items old.on first given_is items_is on_is rest_is
    (passed-one w bytes (at old.items old.on) e es passes)

-- The pass has come so far.
pub record HasPassed (w : Wanted) (bytes : List ℕ) (events : List Event) (now : Now) : Type 0 where
  pub whole : whole_of w bytes now ≡ in_order w bytes events
  pub stay : MayStay w (rest_of now)

left-none : (w : Wanted) (bytes : List ℕ) (p : ListPlace) (o : Bool) → left_in w bytes (at p o) [] ≡ []
left-none w bytes p o =
    ap (λ (l : List Event). set_if w.tables tabled (set_if w.setext (turned_from o) (set_if w.atx headings_resolved l)))
    (items-none w.items bytes p)
    ∙ ap (λ (l : List Event). set_if w.tables tabled (set_if w.setext (turned_from o) l)) (heads-none w.atx)
    ∙ ap (set_if w.tables tabled) (turns-none w.setext o) ∙ tables-none w.tables

-- and where nothing is left it is done
pub passed-done : (w : Wanted) (bytes : List ℕ) (events : List Event) (now : Now) → HasPassed w bytes events now →
    rest_of now ≡ [] → written_of now.all ++ held_of now.all ≡ in_order w bytes events
passed-done w bytes events now h none =
    sym (append-nil (given_of now))
    ∙ ap (λ (l : List Event). given_of now ++ l) (sym (left-none w bytes now.items now.on))
    ∙ ap (λ (l : List Event). given_of now ++ left_in w bytes (at now.items now.on) l) (sym none) ∙ h.whole
