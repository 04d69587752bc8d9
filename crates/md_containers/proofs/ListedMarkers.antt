-- A marker of a quote, in events with lists around their items and in events without: it gives the same quote its kind,
-- or none.
use Rattle.std.proofs.Common.{◌≡◌, ℕ, Bool, true, false, cond, List, [], ◌∷◌, refl, ap, sym, ◌∙◌, subst}
use Rattle.std.specs.Prelude.{◌==◌, Option, Some, None}
use Rattle.md_engine.specs.declared.event.Kind.TheVariants.{Enter}
use Rattle.md_engine.specs.declared.event.Point.{Point}
use Rattle.md_meaning.specs.declared.alert.AlertKind.{AlertKind}
use Rattle.md_meaning.specs.Grouped.{grouped, grouped_block, with_front}
use Rattle.md_meaning.specs.Tree.{Block, Blocks, End, Item, ListOf, More}
use Rattle.md_events.specs.Events.Spelled.{IsQuoteMarker, ItemShape, OpenContainer, OpenLeaf, OrderedShape, QuoteShape}
use Rattle.md_events.specs.Events.Spelled.{Reading, Shape, Text, UnorderedShape, is_before_blocks, is_ordered, kind_at}
use Rattle.md_events.specs.Events.Spelled.{on_shape, read_by, with_kind}
use Rattle.md_containers.specs.ItemsAllowed.{AmongBlocks, Inner}
use Rattle.md_containers.proofs.GroupedLemmas.{NoLists}
use Rattle.md_containers.proofs.ListedOpen.{Agree, AgreeAt, HasBlocks, IsItemOf, IsNoItem, Known, Knows, OpenList}
use Rattle.md_containers.proofs.ListedOpen.{Stepped, as_listed, list_shape, moved, outer_by}

-- What is said of the innermost container.

pub shape-listed : (f : Shape → Shape) (held : List Bool) (ls : List OpenList) (outer : List OpenContainer) →
    on_shape f (outer_by held ls outer) ≡ outer_by held ls (on_shape f outer)
shape-listed f [] ls [] = refl
shape-listed f (true ∷ held) [] [] = refl
shape-listed f (true ∷ held) (l ∷ ls) [] = refl
shape-listed f (false ∷ held) ls [] = refl
shape-listed f _ _ _ = refl

-- a kind makes no item of another container, nor another container of an item
item-kind : (kind : Option AlertKind) (m : ℕ) (shape : Shape) → IsItemOf m shape → IsItemOf m (with_kind kind shape)
item-kind None m shape h = h
item-kind (Some kind) m (ItemShape k d) h = h
item-kind (Some kind) m _ h = absurd h

no_item-kind : (kind : Option AlertKind) (shape : Shape) → IsNoItem shape → IsNoItem (with_kind kind shape)
no_item-kind None shape h = h
no_item-kind (Some kind) (QuoteShape None) h = tt
no_item-kind (Some kind) _ h = search

agree-kind : (kind : Option AlertKind) (held : List Bool) (ls : List OpenList) (outer : List OpenContainer) →
    Agree held ls outer → Agree held ls (on_shape (with_kind kind) outer)
agree-kind kind held ls [] h = h
agree-kind kind (true ∷ held) (l ∷ ls) (a ∷ arounds) h = (item-kind kind l.marker a.shape h.0, h.1, h.2, h.3)
agree-kind kind (false ∷ held) ls (a ∷ arounds) h = (no_item-kind kind a.shape h.0, h.1, h.2)
agree-kind kind [] [] (a ∷ arounds) h = absurd h
agree-kind kind _ _ _ h = absurd h

-- and none of a list
list-kind : (kind : Option AlertKind) (m : ℕ) → with_kind kind (list_shape m) ≡ list_shape m
list-kind None m = refl
list-kind (Some kind) m = go (is_ordered m)
  where
    go : (x : Bool) → with_kind (Some kind) (cond x OrderedShape UnorderedShape) ≡ cond x OrderedShape UnorderedShape
    go true = refl
    go false = refl

-- What is read of a marker.

abbrev marked : Bool → Option AlertKind → Reading → Reading
marked x kind r = cond x (record r { outer = on_shape (with_kind kind) r.outer }) r

marked-here : (x : Bool) (kind : Option AlertKind) (r : Reading) → (marked x kind r).here ≡ r.here
marked-here true kind r = refl
marked-here false kind r = refl

marked-agree : (x : Bool) (kind : Option AlertKind) (r : Reading) (held : List Bool) (ls : List OpenList) →
    Agree held ls r.outer → Agree held ls (marked x kind r).outer
marked-agree true kind r held ls h = agree-kind kind held ls r.outer h
marked-agree false kind r held ls h = h

-- where there are blocks it shows nothing
before-blocks : (text : Option Text) (leaf : Option OpenLeaf) (bs : Blocks) → HasBlocks bs →
    is_before_blocks text leaf bs ≡ false
before-blocks None None End h = absurd h
before-blocks None None (More b bs) h = refl
before-blocks None (Some leaf) bs h = refl
before-blocks (Some text) leaf bs h = refl

-- there are some once they are grouped, if there are before
front-some : (b : Block) (gs : Blocks) → HasBlocks (with_front b gs)
front-some (Item k d x) End = tt
front-some (Item k d x) (More (ListOf j items) gs) = go (k == j)
  where
    go : (t : Bool) →
        HasBlocks
        (cond t (More (ListOf j (More (Item k d x) items)) gs)
        (More (ListOf k (More (Item k d x) End)) (More (ListOf j items) gs)))
    go true = tt
    go false = tt
front-some (Item k d x) (More _ gs) = tt
front-some _ gs = tt

before-grouped : (text : Option Text) (leaf : Option OpenLeaf) (bs : Blocks) →
    is_before_blocks text leaf (grouped bs) ≡ is_before_blocks text leaf bs
before-grouped text leaf End = refl
before-grouped text leaf (More b bs) =
    before-blocks text leaf (grouped (More b bs)) (front-some (grouped_block b) (grouped bs))
    ∙ sym (before-blocks text leaf (More b bs) tt)

-- where no list continues
pub marker-listed : (bytes : List ℕ) (p : Point) (held : List Bool) (ls : List OpenList) (r : Reading) →
    read_by bytes Enter IsQuoteMarker p (as_listed None held ls r) ≡
    as_listed None held ls (read_by bytes Enter IsQuoteMarker p r)
marker-listed bytes p held ls r =
    ap (λ (x : Bool). marked x kind (as_listed None held ls r)) (before-grouped r.text r.leaf r.here)
    ∙ go (is_before_blocks r.text r.leaf r.here)
  where
    kind : Option AlertKind
    kind = kind_at bytes p.index

    go : (x : Bool) → marked x kind (as_listed None held ls r) ≡ as_listed None held ls (marked x kind r)
    go true =
        ap (λ (outer : List OpenContainer). moved r outer (grouped r.here))
        (shape-listed (with_kind kind) held ls r.outer)
    go false = refl

-- where one does, it shows nothing
pub marker-in_list : (bytes : List ℕ) (p : Point) (l : OpenList) (held : List Bool) (ls : List OpenList) (r : Reading) →
    read_by bytes Enter IsQuoteMarker p (as_listed (Some l) held ls r) ≡ as_listed (Some l) held ls r
marker-in_list bytes p l held ls r = go (is_before_blocks r.text r.leaf l.items)
  where
    kind : Option AlertKind
    kind = kind_at bytes p.index

    go : (x : Bool) → marked x kind (as_listed (Some l) held ls r) ≡ as_listed (Some l) held ls r
    go true =
        ap
        (λ (shape : Shape).
        moved r (record { shape = shape; before = l.before } ∷ outer_by held ls r.outer) l.items)
        (list-kind kind l.marker)
    go false = refl

pub marker-following : (bytes : List ℕ) (p : Point) (r : Reading) → HasBlocks r.here →
    read_by bytes Enter IsQuoteMarker p r ≡ r
marker-following bytes p r h =
    ap (λ (x : Bool). marked x (kind_at bytes p.index) r) (before-blocks r.text r.leaf r.here h)

-- in a leaf or a text, neither
pub marker-in_leaf : (bytes : List ℕ) (p : Point) (r : Reading) (leaf : OpenLeaf) → r.leaf ≡ Some leaf →
    read_by bytes Enter IsQuoteMarker p r ≡ r
marker-in_leaf bytes p r leaf e = go r.text r.leaf e
  where
    go : (text : Option Text) (o : Option OpenLeaf) → o ≡ Some leaf →
        marked (is_before_blocks text o r.here) (kind_at bytes p.index) r ≡ r
    go None (Some k) e = refl
    go (Some text) (Some k) e = refl
    go text None e = cc

pub marker-in_text : (bytes : List ℕ) (p : Point) (r : Reading) (text : Text) → r.text ≡ Some text →
    read_by bytes Enter IsQuoteMarker p r ≡ r
marker-in_text bytes p r text e = go r.text e
  where
    go : (o : Option Text) → o ≡ Some text → marked (is_before_blocks o r.leaf r.here) (kind_at bytes p.index) r ≡ r
    go (Some t) e = refl
    go None e = cc

-- The step of it.

pub marker-here : (bytes : List ℕ) (p : Point) (r : Reading) → (read_by bytes Enter IsQuoteMarker p r).here ≡ r.here
marker-here bytes p r = marked-here (is_before_blocks r.text r.leaf r.here) (kind_at bytes p.index) r

-- where no list continues
pub marker-begins : (bytes : List ℕ) (p : Point) (ls : List OpenList) (r : Reading) (ahead : ℕ) (next : Option ℕ)
    (held : List Bool) (inner : Inner) →
    ((outer : List OpenContainer) → Agree held ls outer → AgreeAt inner held ls outer) → Agree held ls r.outer →
    NoLists r.here → Knows bytes inner None ls (read_by bytes Enter IsQuoteMarker p r) ahead next →
    Stepped bytes Enter IsQuoteMarker p None ls r ahead next held (record { held = held; inner = inner })
marker-begins bytes p ls r ahead next held inner to agree lists known =
    let s : Reading = read_by bytes Enter IsQuoteMarker p r in
    record {
      lists = ls;
      within = None;
      place = refl;
      reads = marker-listed bytes p held ls r;
      known = record {
        agree =
            to s.outer
            (marked-agree (is_before_blocks r.text r.leaf r.here) (kind_at bytes p.index) r held ls agree);
        lists = subst NoLists (sym (marker-here bytes p r)) lists;
        inner = known;
      };
    }

-- where one does
pub marker-proceeds : (bytes : List ℕ) (p : Point) (l : OpenList) (ls : List OpenList) (r : Reading) (ahead : ℕ)
    (next : Option ℕ) (held : List Bool) → HasBlocks r.here →
    Known bytes (record { held = held; inner = AmongBlocks }) (Some l) ls r ahead next →
    Stepped bytes Enter IsQuoteMarker p (Some l) ls r ahead next held (record { held = held; inner = AmongBlocks })
marker-proceeds bytes p l ls r ahead next held some known =
    let same : read_by bytes Enter IsQuoteMarker p r ≡ r = marker-following bytes p r some in
    record {
      lists = ls;
      within = Some l;
      place = refl;
      reads = marker-in_list bytes p l held ls r ∙ sym (ap (as_listed (Some l) held ls) same);
      known =
          subst
          (λ (s : Reading). Known bytes (record { held = held; inner = AmongBlocks }) (Some l) ls s ahead next)
          (sym same) known;
    }

-- where it shows nothing
pub marker-stays : (bytes : List ℕ) (p : Point) (ls : List OpenList) (r : Reading) (ahead : ℕ) (next : Option ℕ)
    (held : List Bool) (inner : Inner) → read_by bytes Enter IsQuoteMarker p r ≡ r →
    Known bytes (record { held = held; inner = inner }) None ls r ahead next →
    Stepped bytes Enter IsQuoteMarker p None ls r ahead next held (record { held = held; inner = inner })
marker-stays bytes p ls r ahead next held inner same known = record {
  lists = ls;
  within = None;
  place = refl;
  reads = marker-listed bytes p held ls r;
  known =
      subst (λ (s : Reading). Known bytes (record { held = held; inner = inner }) None ls s ahead next) (sym same)
      known;
}
