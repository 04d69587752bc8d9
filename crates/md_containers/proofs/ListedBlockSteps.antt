-- Among the blocks of a container: each event keeps what is known of both readings.
use Rattle.std.proofs.Common.{◌≡◌, ℕ, Bool, true, false, cond, List, [], ◌∷◌, map, refl, ap, sym, subst, ◌∙◌}
use Rattle.std.specs.Prelude.{◌==◌, ◌||◌, if◌then◌else◌, Option, Some, None, get_or}
use Rattle.std.proofs.lemmas.Bool.{eqb-true}
use Rattle.md_engine.specs.declared.event.Kind.{Kind}
use Rattle.md_engine.specs.declared.event.Kind.TheVariants.{Enter, Exit}
use Rattle.md_engine.specs.declared.event.Point.{Point}
use Rattle.md_meaning.specs.Containers.{is_bullet}
use Rattle.md_meaning.specs.Grouped.{grouped, grouped_block}
use Rattle.md_meaning.specs.State.{then_block}
use Rattle.md_meaning.specs.Tree.{Block, Blocks, End, Item, ListOf, More}
use Rattle.md_events.specs.Events.Blocks.{is_block}
use Rattle.md_events.specs.Events.Spelled.{OpenContainer, AsDigits, FootnoteShape, ContainerRole, IsEnding, IsPrefix}
use Rattle.md_events.specs.Events.Spelled.{IsQuiet, IsQuoteMarker, ItemShape, OpenLeaf, LeafRole, OrderedShape, Purpose}
use Rattle.md_events.specs.Events.Spelled.{Reading, Role, Shape, TextRole, Text, UnorderedShape, begun, block_around}
use Rattle.md_events.specs.Events.Spelled.{fresh, is_ordered, left, read_by}
use Rattle.md_containers.specs.ItemsAllowed.{AmongBlocks, InFront, InLabel, InLeaf, InText, Inner, IsBetween}
use Rattle.md_containers.specs.ItemsAllowed.{IsOfItself, MayBegin, MayEnd, is_list_marker, site_after}
use Rattle.md_containers.specs.Listed.{is_continued, marker_by, next_by}
use Rattle.md_containers.proofs.GroupedLemmas.{IsOther, NoLists, grouped-item, grouped-other, last-apart, last-same}
use Rattle.md_containers.proofs.GroupedLemmas.{no-lists-then, other-is-no-list, other-no-list, with_last}
use Rattle.md_containers.proofs.ListedOpen.{Agree, AgreeAt, Apart, Fits, HasBlocks, Heads, IsItemOf, IsNoItem, Known}
use Rattle.md_containers.proofs.ListedOpen.{Knows, OpenList, Passes, Stepped, list_around, list_shape, outer_by, passed}
use Rattle.md_containers.proofs.ListedOpen.{passes-here, place_of}
use Rattle.md_containers.proofs.ListedMarkers.{marker-begins, marker-proceeds, marker-here}

-- what is between blocks says nothing of what comes next
pub between-next : (kind : Kind) (x : Role) → IsBetween x → (ahead : ℕ) (next : Option ℕ) →
    next_by kind x ahead next ≡ next
between-next kind IsPrefix h ahead next = refl
between-next kind IsQuoteMarker h ahead next = refl
between-next kind IsEnding h ahead next = refl
between-next kind IsQuiet h ahead next = refl
between-next kind _ h ahead next = absurd h

-- Among blocks.

pub know-same : (bytes : List ℕ) (w : Option OpenList) (ls : List OpenList) (r s : Reading) (ahead other : ℕ)
    (next now : Option ℕ) → s.here ≡ r.here → now ≡ next → Knows bytes AmongBlocks w ls r other now →
    Knows bytes AmongBlocks w ls s ahead next
know-same bytes None ls r s ahead other next now e n known = λ m h. subst (Apart m) (sym e) (known m (n ∙ h))
know-same bytes (Some l) ls r s ahead other next now e n known =
    (sym n ∙ known.0, subst (Fits l) (sym e) known.1, subst HasBlocks (sym e) known.2)

pub among-between : (bytes : List ℕ) (kind : Kind) (x : Role) (p : Point) (w : Option OpenList) (ls : List OpenList)
    (r : Reading) (ahead : ℕ) (next : Option ℕ) (held : List Bool) → IsBetween x → Passes kind x →
    Known bytes (record { held = held; inner = AmongBlocks }) w ls r
    (marker_by kind x (get_or bytes p.index 0) ahead) (next_by kind x ahead next) →
    Stepped bytes kind x p w ls r ahead next held (record { held = held; inner = AmongBlocks })
among-between bytes kind x p w ls r ahead next held h passes known =
    passed bytes kind x p w ls r ahead next held AmongBlocks passes known.agree known.lists
    (know-same bytes w ls r (read_by bytes kind x p r) ahead (marker_by kind x (get_or bytes p.index 0) ahead) next
    (next_by kind x ahead next) (passes-here bytes kind x p passes r) (between-next kind x h ahead next) known.inner)

pub none-some : {X : Type 0} (l : ℕ) → None ≡ Some l → X
none-some l e = absurd (cc)

-- a quote or a footnote definition begins
pub holder-begins : (bytes : List ℕ) (p : Point) (shape : Shape) (inner : Inner) (w : Option OpenList)
    (ls : List OpenList)
    (r : Reading) (ahead : ℕ) (next : Option ℕ) (held : List Bool) → IsNoItem shape →
    ((outer : List OpenContainer) → Agree (false ∷ held) ls outer → AgreeAt inner (false ∷ held) ls outer) →
    ((s : Reading) → s.here ≡ End → Knows bytes inner None ls s ahead next) →
    Agree held ls r.outer → NoLists r.here → Knows bytes AmongBlocks w ls r 0 None →
    Stepped bytes Enter (ContainerRole shape) p w ls r ahead next held (record { held = false ∷ held; inner = inner })
holder-begins bytes p shape inner (Some l) ls r ahead next held not_item to knows agree lists known =
    none-some l.marker known.0
holder-begins bytes p (ItemShape k d) inner None ls r ahead next held not_item to knows agree lists known =
    absurd not_item
holder-begins bytes p shape inner None ls r ahead next held not_item to knows agree lists known = record {
  lists = ls;
  within = None;
  place = refl;
  reads = refl;
  known = record {
    agree = to (record { shape = shape; before = r.here } ∷ r.outer) (not_item, lists, agree);
    lists = tt;
    inner = knows (read_by bytes Enter (ContainerRole shape) p r) refl;
  };
}

pub apart-end : (m : ℕ) → Apart m End
apart-end m d x = refl

-- an item begins
pub item-begins : (bytes : List ℕ) (p : Point) (k : ℕ) (d : List ℕ) (w : Option OpenList) (ls : List OpenList)
    (r : Reading) (ahead : ℕ) (next : Option ℕ) (held : List Bool) → k ≡ 0 → Agree held ls r.outer →
    NoLists r.here → Knows bytes AmongBlocks w ls r 0 (Some ahead) →
    Stepped bytes Enter (ContainerRole (ItemShape k d)) p w ls r ahead next held
    (record { held = true ∷ held; inner = InFront })
item-begins bytes p k d None ls r ahead next held e agree lists known =
    let l : OpenList = record { marker = ahead; before = grouped r.here; items = End } in
    record {
      lists = l ∷ ls;
      within = None;
      place = refl;
      reads = refl;
      known = record {
        agree = (e, record { heads = tt; more = known ahead refl }, lists, agree);
        lists = tt;
        inner = (refl, refl);
      };
    }
item-begins bytes p k d (Some l) ls r ahead next held e agree lists known =
    let same : ahead ≡ l.marker = (cc (known.0)) in
    record {
      lists = l ∷ ls;
      within = None;
      place = ap (λ (m : ℕ). place_of None (record l { marker = m } ∷ ls)) same;
      reads = refl;
      known = record { agree = (e, known.1, lists, agree); lists = tt; inner = (refl, same) };
    }

-- a text that is a block of its own comes next, and is no item
own-next : (purpose : Purpose) → IsOfItself purpose → (next : Option ℕ) →
    cond (is_block (TextRole purpose)) None next ≡ None
own-next AsDigits h next = absurd h
own-next _ h next = first_of (cc, search)

pub among-begin : (bytes : List ℕ) (x : Role) (p : Point) (w : Option OpenList) (ls : List OpenList) (r : Reading)
    (ahead : ℕ) (next : Option ℕ) (held : List Bool) → MayBegin bytes p AmongBlocks x →
    Known bytes (record { held = held; inner = AmongBlocks }) w ls r
    (marker_by Enter x (get_or bytes p.index 0) ahead) (next_by Enter x ahead next) →
    Stepped bytes Enter x p w ls r ahead next held
    (site_after (record { held = held; inner = AmongBlocks }) Enter x p)
among-begin bytes (ContainerRole (FootnoteShape label)) p w ls r ahead next held may known =
    holder-begins bytes p (FootnoteShape label) InLabel w ls r ahead next held tt (λ outer h. h) (λ s h. h)
    known.agree known.lists known.inner
among-begin bytes (ContainerRole (ItemShape k d)) p w ls r ahead next held may known =
    item-begins bytes p k d w ls r ahead next held may known.agree known.lists known.inner
among-begin bytes (ContainerRole OrderedShape) p w ls r ahead next held may known = absurd may
among-begin bytes (ContainerRole UnorderedShape) p w ls r ahead next held may known = absurd may
among-begin bytes (ContainerRole shape) p w ls r ahead next held may known =
    holder-begins bytes p shape AmongBlocks w ls r ahead next held tt (λ outer h. h)
    (λ s h. λ m e. subst (Apart m) (sym h) (apart-end m)) known.agree known.lists known.inner
among-begin bytes (LeafRole kind) p None ls r ahead next held may known =
    passed bytes Enter (LeafRole kind) p None ls r ahead next held InLeaf tt known.agree known.lists (fresh kind, refl)
among-begin bytes (LeafRole kind) p (Some l) ls r ahead next held may known = none-some l.marker known.inner.0
among-begin bytes (TextRole purpose) p None ls r ahead next held may known =
    passed bytes Enter (TextRole purpose) p None ls r ahead next held InText tt known.agree known.lists (begun p, refl)
among-begin bytes (TextRole purpose) p (Some l) ls r ahead next held may known =
    none-some l.marker (sym (own-next purpose may next) ∙ known.inner.0)
among-begin bytes IsQuoteMarker p None ls r ahead next held may known =
    marker-begins bytes p ls r ahead next held AmongBlocks (λ outer h. h) known.agree known.lists
    (know-same bytes None ls r (read_by bytes Enter IsQuoteMarker p r) ahead ahead next next (marker-here bytes p r)
    refl known.inner)
among-begin bytes IsQuoteMarker p (Some l) ls r ahead next held may known =
    marker-proceeds bytes p l ls r ahead next held known.inner.2 known
among-begin bytes x p w ls r ahead next held may known =
    among-between bytes Enter x p w ls r ahead next held may tt known

-- A block is added.

-- after a block that is neither a list nor an item, each item begins a list
pub other-apart : (bs : Blocks) (b : Block) → NoLists bs → IsOther b → (m : ℕ) → Apart m (then_block bs b)
other-apart bs b lists h m d x =
    grouped-item m d x (then_block bs b) (no-lists-then bs b lists (other-is-no-list b h))
    ∙ ap (with_last m d (grouped x)) (grouped-other bs b h)
    ∙ last-apart m d (grouped x) (grouped bs) (grouped_block b) (other-no-list m b h)
    ∙ ap (λ (gs : Blocks). then_block gs (ListOf m (More (Item m d (grouped x)) End))) (sym (grouped-other bs b h))

pub shape-other : (shape : Shape) → IsNoItem shape → (bs : Blocks) → IsOther (block_around shape bs)
shape-other OrderedShape h bs = absurd h
shape-other _ h bs = search

pub shape-grouped : (shape : Shape) → IsNoItem shape → (bs : Blocks) →
    grouped_block (block_around shape bs) ≡ block_around shape (grouped bs)
shape-grouped OrderedShape h bs = absurd h
shape-grouped _ h bs = search

-- a quote or a footnote definition ends
pub holder-ends : (bytes : List ℕ) (p : Point) (shape : Shape) (w : Option OpenList) (ls : List OpenList)
    (outer : List OpenContainer) (here : Blocks) (leaf : Option OpenLeaf) (text : Option Text)
    (ahead : ℕ) (next : Option ℕ) (held : List Bool) → IsNoItem shape → Agree (false ∷ held) ls outer →
    NoLists here →
    Knows bytes AmongBlocks w ls (record { outer = outer; here = here; leaf = leaf; text = text }) 0 None →
    Stepped bytes Exit (ContainerRole shape) p w ls
    (record { outer = outer; here = here; leaf = leaf; text = text }) ahead next
    (false ∷ held) (record { held = held; inner = AmongBlocks })
holder-ends bytes p shape (Some l) ls outer here leaf text ahead next held not_item agree lists known =
    none-some l.marker known.0
holder-ends bytes p (ItemShape k d) None ls outer here leaf text ahead next held not_item agree lists known =
    absurd not_item
holder-ends bytes p shape None ls [] here leaf text ahead next held not_item agree lists known = absurd agree
holder-ends bytes p shape None ls (a ∷ arounds) here leaf text ahead next held not_item agree lists known =
    let block : Block = block_around a.shape here in
    let other : IsOther block = shape-other a.shape agree.0 here in
    record {
      lists = ls;
      within = None;
      place = refl;
      reads =
          ap
          (λ (b : Block). record {
            outer = outer_by held ls arounds;
            here = then_block (grouped a.before) b;
            leaf = leaf;
            text = text;
          })
          (sym (shape-grouped a.shape agree.0 here))
          ∙ ap
          (λ (b : Blocks). record { outer = outer_by held ls arounds; here = b; leaf = leaf; text = text })
          (sym (grouped-other a.before block other));
      known = record {
        agree = agree.2;
        lists = no-lists-then a.before block agree.1 (other-is-no-list block other);
        inner = λ m e. other-apart a.before block agree.1 other m;
      };
    }

-- An item ends.

pub is_continued-some : (m : ℕ) (next : Option ℕ) → is_continued m next ≡ true → next ≡ Some m
is_continued-some m None h = absurd (cc)
is_continued-some m (Some k) h = ap (λ (j : ℕ). Some j) (sym (eqb-true m k h))

pub heads-then : (m : ℕ) (items : Blocks) (d : List ℕ) (x : Blocks) → Heads m items →
    Heads m (then_block items (Item m d x))
heads-then m End d x h = refl
heads-then m (More (Item k e y) items) d x h = h
heads-then m (More _ items) d x h = absurd h

-- a list with items has the marker of the first
pub headed : (m : ℕ) → is_list_marker m ≡ true → (e : List ℕ) (y items : Blocks) →
    block_around (list_shape m) (More (Item m e y) items) ≡ ListOf m (More (Item m e y) items)
headed m h e y items = go (is_ordered m) refl
  where
    go : (t : Bool) → is_ordered m ≡ t →
        block_around (if t then OrderedShape else UnorderedShape) (More (Item m e y) items)
        ≡ ListOf m (More (Item m e y) items)
    go true i = rw i refl
    go false i =
        let bullet : is_bullet m ≡ true = ap (λ (t : Bool). t || is_bullet m) (sym i) ∙ h in
        ap (λ (t : Bool). ListOf (if t then m else 0) (More (Item m e y) items)) bullet

pub list-around : (m : ℕ) → is_list_marker m ≡ true → (items : Blocks) (d : List ℕ) (x : Blocks) → Heads m items →
    block_around (list_shape m) (then_block items (Item m d x)) ≡ ListOf m (then_block items (Item m d x))
list-around m h End d x heads = headed m h d x End
list-around m h (More (Item k e y) items) d x heads =
    subst
    (λ (j : ℕ). block_around (list_shape m) (More (Item j e y) (then_block items (Item m d x)))
    ≡ ListOf m (More (Item j e y) (then_block items (Item m d x))))
    (sym heads) (headed m h e y (then_block items (Item m d x)))
list-around m h (More _ items) d x heads = absurd heads

-- the list continues: an item after this one is the next of it
pub fits-on : (l : OpenList) (b : Blocks) (d : List ℕ) (x : Blocks) → Fits l b → NoLists b →
    Fits (record l { items = then_block l.items (Item l.marker d (grouped x)) }) (then_block b (Item l.marker d x))
fits-on l b d x fits lists = record {
  heads = heads-then l.marker l.items d (grouped x) fits.heads;
  more = λ e y.
      grouped-item l.marker e y (then_block b (Item l.marker d x))
      (no-lists-then b (Item l.marker d x) lists tt)
      ∙ ap (with_last l.marker e (grouped y)) (fits.more d x)
      ∙ last-same l.marker e (grouped y) l.before (then_block l.items (Item l.marker d (grouped x)));
}

-- the list ends: an item with another marker after it begins one
pub apart-following : (l : OpenList) (b : Blocks) (d : List ℕ) (x : Blocks) → Fits l b → NoLists b → (m : ℕ) →
    (l.marker == m) ≡ false → Apart m (then_block b (Item l.marker d x))
apart-following l b d x fits lists m h e y =
    let items : Blocks = then_block l.items (Item l.marker d (grouped x)) in
    grouped-item m e y (then_block b (Item l.marker d x)) (no-lists-then b (Item l.marker d x) lists tt)
    ∙ ap (with_last m e (grouped y)) (fits.more d x)
    ∙ last-apart m e (grouped y) l.before (ListOf l.marker items) h
    ∙ ap (λ (gs : Blocks). then_block gs (ListOf m (More (Item m e (grouped y)) End))) (sym (fits.more d x))

blocks-then : (bs : Blocks) (b : Block) → HasBlocks (then_block bs b)
blocks-then End b = tt
blocks-then (More a bs) b = tt

pub item-ended : (bytes : List ℕ) (p : Point) (k : ℕ) (e : List ℕ) (l : OpenList) (ls : List OpenList) (d : List ℕ)
    (before : Blocks) (arounds : List OpenContainer) (here : Blocks) (leaf : Option OpenLeaf) (text : Option Text)
    (ahead : ℕ) (next : Option ℕ) (held : List Bool) → is_list_marker l.marker ≡ true → Fits l before →
    NoLists before → Agree held ls arounds →
    Stepped bytes Exit (ContainerRole (ItemShape k e)) p None (l ∷ ls)
    (record {
      outer = record { shape = ItemShape l.marker d; before = before } ∷ arounds;
      here = here;
      leaf = leaf;
      text = text;
    })
    ahead next (true ∷ held) (record { held = held; inner = AmongBlocks })
item-ended bytes p k e l ls d before arounds here leaf text ahead next held marker fits lists agree =
    go (is_continued l.marker next) refl
  where
    item : Block
    item = Item l.marker d here

    items : Blocks
    items = then_block l.items (Item l.marker d (grouped here))

    -- what is read after the item, in its list
    inside : Reading
    inside = record {
      outer = list_around l ∷ outer_by held ls arounds;
      here = items;
      leaf = leaf;
      text = text;
    }

    go : (t : Bool) → is_continued l.marker next ≡ t →
        Stepped bytes Exit (ContainerRole (ItemShape k e)) p None (l ∷ ls)
        (record {
          outer = record { shape = ItemShape l.marker d; before = before } ∷ arounds;
          here = here;
          leaf = leaf;
          text = text;
        })
        ahead next (true ∷ held) (record { held = held; inner = AmongBlocks })
    go true h = record {
      lists = ls;
      within = Some (record l { items = items });
      place = ap (λ (t : Bool). record { within = t; markers = map (λ (l : OpenList). l.marker) ls }) h;
      reads = ap (λ (t : Bool). if t then inside else left inside.outer inside) h;
      known = record {
        agree = agree;
        lists = no-lists-then before item lists tt;
        inner = (is_continued-some l.marker next h, fits-on l before d here fits lists, blocks-then before item);
      };
    }
    go false h = record {
      lists = ls;
      within = None;
      place = ap (λ (t : Bool). record { within = t; markers = map (λ (l : OpenList). l.marker) ls }) h;
      reads =
          ap (λ (t : Bool). if t then inside else left inside.outer inside) h
          ∙ ap
          (λ (b : Block). record {
            outer = outer_by held ls arounds;
            here = then_block l.before b;
            leaf = leaf;
            text = text;
          })
          (list-around l.marker marker l.items d (grouped here) fits.heads)
          ∙ ap
          (λ (b : Blocks). record { outer = outer_by held ls arounds; here = b; leaf = leaf; text = text })
          (sym (fits.more d here));
      known = record {
        agree = agree;
        lists = no-lists-then before item lists tt;
        inner = λ m i. apart-following l before d here fits lists m (ap (is_continued l.marker) (sym i) ∙ h);
      };
    }

pub item-ends : (bytes : List ℕ) (p : Point) (k : ℕ) (e : List ℕ) (w : Option OpenList) (ls : List OpenList)
    (outer : List OpenContainer) (here : Blocks) (leaf : Option OpenLeaf) (text : Option Text)
    (ahead : ℕ) (next : Option ℕ) (held : List Bool) → Agree (true ∷ held) ls outer →
    Knows bytes AmongBlocks w ls (record { outer = outer; here = here; leaf = leaf; text = text }) 0 None →
    Stepped bytes Exit (ContainerRole (ItemShape k e)) p w ls
    (record { outer = outer; here = here; leaf = leaf; text = text })
    ahead next (true ∷ held) (record { held = held; inner = AmongBlocks })
item-ends bytes p k e (Some l) ls outer here leaf text ahead next held agree known = none-some l.marker known.0
item-ends bytes p k e None [] outer here leaf text ahead next held agree known = absurd agree
item-ends bytes p k e None (l ∷ ls) [] here leaf text ahead next held agree known = absurd agree
item-ends bytes p k e None (l ∷ ls) (a ∷ arounds) here leaf text ahead next held agree known =
    go a.shape agree.0
  where
    Of : Shape → Type 0
    Of shape =
        Stepped bytes Exit (ContainerRole (ItemShape k e)) p None (l ∷ ls)
        (record {
          outer = record { shape = shape; before = a.before } ∷ arounds;
          here = here;
          leaf = leaf;
          text = text;
        })
        ahead next (true ∷ held) (record { held = held; inner = AmongBlocks })

    go : (shape : Shape) → IsItemOf l.marker shape → Of shape
    go (ItemShape j d) h =
        subst (λ (m : ℕ). Of (ItemShape m d)) (sym h.0)
        (item-ended bytes p k e l ls d a.before arounds here leaf text ahead next held h.1 agree.1 agree.2 agree.3)
    go _ h = absurd h

pub among-end : (bytes : List ℕ) (x : Role) (p : Point) (w : Option OpenList) (ls : List OpenList) (r : Reading)
    (ahead : ℕ) (next : Option ℕ) (held : List Bool) → MayEnd held p AmongBlocks x →
    Known bytes (record { held = held; inner = AmongBlocks }) w ls r
    (marker_by Exit x (get_or bytes p.index 0) ahead) (next_by Exit x ahead next) →
    Stepped bytes Exit x p w ls r ahead next held
    (site_after (record { held = held; inner = AmongBlocks }) Exit x p)
among-end bytes (ContainerRole shape) p w ls r ahead next [] may known = absurd may
among-end bytes (ContainerRole (ItemShape k d)) p w ls r ahead next (true ∷ held) may known =
    item-ends bytes p k d w ls r.outer r.here r.leaf r.text ahead next held known.agree known.inner
among-end bytes (ContainerRole (ItemShape k d)) p w ls r ahead next (false ∷ held) may known = absurd (cc)
among-end bytes (ContainerRole OrderedShape) p w ls r ahead next (is_item ∷ held) may known = absurd may
among-end bytes (ContainerRole UnorderedShape) p w ls r ahead next (is_item ∷ held) may known = absurd may
among-end bytes (ContainerRole shape) p w ls r ahead next (true ∷ held) may known = absurd (cc)
among-end bytes (ContainerRole shape) p w ls r ahead next (false ∷ held) may known =
    holder-ends bytes p shape w ls r.outer r.here r.leaf r.text ahead next held tt known.agree known.lists known.inner
among-end bytes (LeafRole kind) p w ls r ahead next held may known = absurd may
among-end bytes (TextRole purpose) p w ls r ahead next held may known = absurd may
among-end bytes x p w ls r ahead next held may known =
    among-between bytes Exit x p w ls r ahead next held may tt known
