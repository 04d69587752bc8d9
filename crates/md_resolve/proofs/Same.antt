-- Events that stay as they are, and where all events are.
use Rattle.std.proofs.Common.{◌≡◌, ℕ, Bool, true, false, not, ◌&&◌, ◌||◌, List, [], ◌∷◌}
use Rattle.std.proofs.Common.{length, refl, ap, sym, ◌∙◌, arith, suc, ◌+◌}
use Rattle.std.specs.List.{prefix_len}
use Rattle.md_engine.specs.declared.event.Event.{Event}
use Rattle.md_containers.specs.Listed.{is_item, listed, passes as is_no_item}
use Rattle.md_containers.proofs.ListedLemmas.{listed-are_placed, listed-none}
use Rattle.md_leaves.specs.HeadingText.{begins, headings_resolved, is_heading, is_outside}
use Rattle.md_leaves.proofs.HeadingsPlaced.{headings-placed}
use Rattle.md_leaves.specs.Turned.{is_no_underline, is_underline, turned}
use Rattle.md_leaves.proofs.TurnedLemmas.{turned-none, turned-placed}
use Rattle.md_order.specs.InOrder.{in_order, set_if}
use Rattle.md_order.specs.Left.{is_same}
use Rattle.md_order.specs.declared.wanted.Wanted.{Wanted}
use Rattle.md_events.specs.Events.Spelled.{role}
use Rattle.md_events.specs.Parts.{ArePlaced}
use Rattle.md_tables.specs.Tabled.{begins_table, bound_of, passes, tabled}
use Rattle.md_tables.specs.declared.tables.Section.TheVariants.{Outside as InNone}
use Rattle.md_tables.proofs.TabledWalk.{tabled-none, tabled-placed}

-- where all events pass a test they pass each that asks less
pub weaker : (p q : Event → Bool) → ((e : Event) → p e ≡ true → q e ≡ true) → (es : List Event) →
    prefix_len p es ≡ length es → prefix_len q es ≡ length es
weaker p q less [] h = refl
weaker p q less (e ∷ es) h = go (p e) refl (weaker p q less es)
  where
    go : (x : Bool) → p e ≡ x → (prefix_len p es ≡ length es → prefix_len q es ≡ length es) →
        prefix_len q (e ∷ es) ≡ length (e ∷ es)
    go true is more =
        let all : prefix_len p es ≡ length es =
        let front : prefix_len p (e ∷ es) ≡ 1 + prefix_len p es = rw is refl in omega (arith, h, front) in
        let other : prefix_len q (e ∷ es) ≡ 1 + prefix_len q es = rw (less e is) refl in omega (arith, other, more all)
    go false is more =
        let front : prefix_len p (e ∷ es) ≡ 0 = rw is refl in
        let bad : suc (length es) ≡ 0 = sym h ∙ front in absurd (cc)

-- of four things none is so
none-first : (a b c d : Bool) → not (a || b || c || d) ≡ true → a ≡ false
none-first true b c d h = let bad : false ≡ true = h in absurd (cc)
none-first false b c d h = refl

none-second : (a b c d : Bool) → not (a || b || c || d) ≡ true → b ≡ false
none-second a false c d h = refl
none-second false true c d h = let bad : false ≡ true = h in absurd (cc)
none-second true true c d h = let bad : false ≡ true = h in absurd (cc)

pub none-third : (a b c d : Bool) → not (a || b || c || d) ≡ true → c ≡ false
none-third a b false d h = refl
none-third false false true d h = let bad : false ≡ true = h in absurd (cc)
none-third true b true d h = let bad : false ≡ true = h in absurd (cc)
none-third false true true d h = let bad : false ≡ true = h in absurd (cc)

none-fourth : (a b c d : Bool) → not (a || b || c || d) ≡ true → d ≡ false
none-fourth a b c false h = refl
none-fourth false false false true h = let bad : false ≡ true = h in absurd (cc)
none-fourth true b c true h = let bad : false ≡ true = h in absurd (cc)
none-fourth false true c true h = let bad : false ≡ true = h in absurd (cc)
none-fourth false false true true h = let bad : false ≡ true = h in absurd (cc)

-- no heading begins
headings-none : (es : List Event) → prefix_len is_outside es ≡ length es → headings_resolved es ≡ es
headings-none [] h = refl
headings-none (e ∷ es) h = go (begins is_heading e) refl (headings-none es)
  where
    go : (x : Bool) → begins is_heading e ≡ x → (prefix_len is_outside es ≡ length es → headings_resolved es ≡ es) →
        headings_resolved (e ∷ es) ≡ e ∷ es
    go true is more =
        let front : prefix_len is_outside (e ∷ es) ≡ 0 = rw is refl in
        let bad : suc (length es) ≡ 0 = sym h ∙ front in absurd (cc)
    go false is more =
        let front : prefix_len is_outside (e ∷ es) ≡ 1 + prefix_len is_outside es = rw is refl in
        let all : prefix_len is_outside es ≡ length es = omega (arith, h, front) in
        rw is (ap (λ (l : List Event). e ∷ l) (more all))

if-same : (x : Bool) (f : List Event → List Event) (es : List Event) → (x ≡ true → f es ≡ es) → set_if x f es ≡ es
if-same true f es h = h refl
if-same false f es h = refl

-- So where all events are such, they stay.
pub in_order-same : (w : Wanted) (bytes : List ℕ) (es : List Event) → prefix_len (is_same w) es ≡ length es →
    in_order w bytes es ≡ es
in_order-same w bytes es h =
    ap (λ (l : List Event). set_if w.tables tabled (set_if w.setext turned (set_if w.atx headings_resolved l)))
    (if-same w.items (listed bytes) es
    (λ on. listed-none bytes es (weaker (is_same w) is_no_item (λ e k. item e on k) es h)))
    ∙ ap (λ (l : List Event). set_if w.tables tabled (set_if w.setext turned l))
    (if-same w.atx headings_resolved es
    (λ on. headings-none es (weaker (is_same w) is_outside (λ e k. heading e on k) es h)))
    ∙ ap (set_if w.tables tabled)
    (if-same w.setext turned es
    (λ on. turned-none es (weaker (is_same w) is_no_underline (λ e k. underline e on k) es h)))
    ∙ if-same w.tables tabled es
    (λ on. tabled-none es (weaker (is_same w) (passes InNone) (λ e k. table e on k) es h))
  where
    and-on : (x y : Bool) → x ≡ true → (x && y) ≡ false → not y ≡ true
    and-on true y on h = ap not h
    and-on false y on h = let bad : false ≡ true = on in absurd (cc)

    item : (e : Event) → w.items ≡ true → is_same w e ≡ true → is_no_item e ≡ true
    item e on k =
        and-on w.items (is_item (role e.name)) on
        (none-first (w.items && is_item (role e.name)) (w.atx && begins is_heading e) (w.setext && is_underline e.name)
        (w.tables && begins_table (bound_of e)) k)

    heading : (e : Event) → w.atx ≡ true → is_same w e ≡ true → is_outside e ≡ true
    heading e on k =
        and-on w.atx (begins is_heading e) on
        (none-second (w.items && is_item (role e.name)) (w.atx && begins is_heading e)
        (w.setext && is_underline e.name) (w.tables && begins_table (bound_of e)) k)

    underline : (e : Event) → w.setext ≡ true → is_same w e ≡ true → is_no_underline e ≡ true
    underline e on k =
        and-on w.setext (is_underline e.name) on
        (none-third (w.items && is_item (role e.name)) (w.atx && begins is_heading e)
        (w.setext && is_underline e.name) (w.tables && begins_table (bound_of e)) k)

    table : (e : Event) → w.tables ≡ true → is_same w e ≡ true → passes InNone e ≡ true
    table e on k =
        and-on w.tables (begins_table (bound_of e)) on
        (none-fourth (w.items && is_item (role e.name)) (w.atx && begins is_heading e)
        (w.setext && is_underline e.name) (w.tables && begins_table (bound_of e)) k)

if-placed : (text : List ℕ) (x : Bool) (f : List Event → List Event) →
    ((es : List Event) → ArePlaced text es → ArePlaced text (f es)) → (es : List Event) → ArePlaced text es →
    ArePlaced text (set_if x f es)
if-placed text true f keeps es h = keeps es h
if-placed text false f keeps es h = h

-- Events that are at places of the text still do.
pub in_order-placed : (text : List ℕ) (w : Wanted) (bytes : List ℕ) (es : List Event) → ArePlaced text es →
    ArePlaced text (in_order w bytes es)
in_order-placed text w bytes es h =
    let items : List Event = set_if w.items (listed bytes) es in
    let heads : List Event = set_if w.atx headings_resolved items in
    let texts : List Event = set_if w.setext turned heads in
    if-placed text w.tables tabled (λ l k. tabled-placed text l k) texts
    (if-placed text w.setext turned (λ l k. turned-placed text l k) heads
    (if-placed text w.atx headings_resolved (λ l k. headings-placed text l k) items
    (if-placed text w.items (listed bytes) (λ l k. listed-are_placed text bytes l k) es h)))
