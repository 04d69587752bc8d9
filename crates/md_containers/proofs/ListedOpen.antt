-- What is read of events with lists around their items, from what is read of the events.
--
-- Both are read side by side. What is read of the one follows from what is read of the other and from the lists that
-- are open (`as_listed`): for each open item, its list with the items so far; and the list whose next item is to come,
-- if one continues. `Stepped` says that an event keeps this.
use Rattle.std.proofs.Common.{◌≡◌, ℕ, Bool, true, false, List, [], ◌∷◌, ◌++◌, map, length, refl, ap, sym, subst, ◌∙◌}
use Rattle.std.specs.Prelude.{if◌then◌else◌, nat_lt, Option, Some, None, get_or}
use Rattle.std.specs.Option.{is_some}
use Rattle.md_engine.specs.declared.event.Event.{Event}
use Rattle.md_engine.specs.declared.event.Kind.{Kind}
use Rattle.md_engine.specs.declared.event.Kind.TheVariants.{Enter, Exit}
use Rattle.md_engine.specs.declared.event.Name.TheVariants as n
use Rattle.md_engine.specs.declared.event.Point.{Point}
use Rattle.md_meaning.specs.Grouped.{grouped}
use Rattle.md_meaning.specs.State.{then_block}
use Rattle.md_meaning.specs.Tree.{Blocks, End, Item, Line, ListOf, More}
use Rattle.md_events.specs.Events.Spelled.{OpenContainer, ContainerRole, IsEnding, IsQuoteMarker, ItemShape, OpenLeaf}
use Rattle.md_events.specs.Events.Spelled.{LeafRole, OrderedShape, Purpose, Reading, Role, Shape, TextRole, Text}
use Rattle.md_events.specs.Events.Spelled.{UnorderedShape, at_ending, begun, is_ordered, left, next_line, on_leaf, read}
use Rattle.md_events.specs.Events.Spelled.{read_by, role, text_to, recorded, recorded_at}
use Rattle.md_events.specs.Events.Recorded.{OfItself, OfLeaf, Recorded, recorded_in}
use Rattle.md_events.specs.Events.Nested.{exit}
use Rattle.md_events.proofs.RecordedLemmas.{recorded-noted}
use Rattle.md_containers.specs.ItemsAllowed.{AmongBlocks, InFront, InLabel, InLeaf, InMarker, InText, Inner}
use Rattle.md_containers.specs.ItemsAllowed.{IsForItself, IsForLeaf, IsMarkerAt, IsOfItself, IsOfLeaf, Site}
use Rattle.md_containers.specs.ItemsAllowed.{is_list_marker}
use Rattle.md_containers.specs.Listed.{Begins, Ends, Place, Stays, Turn, given_by, is_continued}
use Rattle.md_containers.specs.Listed.{list_begin, list_end, list_name, place_by, turn}
use Rattle.md_containers.proofs.GroupedLemmas.{NoLists}

-- Lists that are open.

-- A list: the byte of its markers, the blocks before it, and its items so far.
pub record OpenList : Type 0 where
  pub marker : ℕ
  pub before : Blocks
  pub items : Blocks

abbrev pub list_shape : ℕ → Shape
list_shape marker = if is_ordered marker then OrderedShape else UnorderedShape

abbrev pub list_around : OpenList → OpenContainer
list_around l = record { shape = list_shape l.marker; before = l.before }

-- what is open once lists are around items: each item in its list
abbrev pub outer_by : List Bool → List OpenList → List OpenContainer → List OpenContainer
outer_by (true ∷ held) (l ∷ ls) (a ∷ arounds) =
    record { shape = a.shape; before = l.items } ∷ list_around l ∷ outer_by held ls arounds
outer_by (false ∷ held) ls (a ∷ arounds) =
    record { shape = a.shape; before = grouped a.before } ∷ outer_by held ls arounds
outer_by _ _ _ = []

abbrev pub moved : Reading → List OpenContainer → Blocks → Reading
moved r outer here = record { outer = outer; here = here; leaf = r.leaf; text = r.text }

-- what is read once lists are around items, by the list that continues, if one does
abbrev pub as_listed : Option OpenList → List Bool → List OpenList → Reading → Reading
as_listed None held ls r = moved r (outer_by held ls r.outer) (grouped r.here)
as_listed (Some l) held ls r = moved r (list_around l ∷ outer_by held ls r.outer) l.items

abbrev pub place_of : Option OpenList → List OpenList → Place
place_of w ls = record { within = is_some w; markers = map (λ (l : OpenList). l.marker) ls }

-- What is known of them.

-- the first item of a list shows its marker
abbrev pub Heads : ℕ → Blocks → Type 0
Heads m End = Unit {0}
Heads m (More (Item k d x) items) = k ≡ m
Heads m (More _ items) = ⊥

-- an item after these blocks is the next of the list
pub record Fits (l : OpenList) (b : Blocks) : Type 0 where
  pub heads : Heads l.marker l.items
  pub more : (d : List ℕ) (x : Blocks) →
      grouped (then_block b (Item l.marker d x))
      ≡ then_block l.before (ListOf l.marker (then_block l.items (Item l.marker d (grouped x))))

-- an item with this marker after these blocks begins a list
abbrev pub Apart : ℕ → Blocks → Type 0
Apart m b =
    (d : List ℕ) (x : Blocks) →
    grouped (then_block b (Item m d x)) ≡ then_block (grouped b) (ListOf m (More (Item m d (grouped x)) End))

abbrev pub IsItemOf : ℕ → Shape → Type 0
IsItemOf m (ItemShape k d) = (k ≡ m) × (is_list_marker m ≡ true)
IsItemOf m _ = ⊥

-- an item whose marker is not read yet
abbrev pub IsBegun : Shape → Type 0
IsBegun (ItemShape k d) = k ≡ 0
IsBegun _ = ⊥

abbrev pub IsNoItem : Shape → Type 0
IsNoItem (ItemShape k d) = ⊥
IsNoItem OrderedShape = ⊥
IsNoItem UnorderedShape = ⊥
IsNoItem _ = Unit {0}

-- of each open container
abbrev pub Agree : List Bool → List OpenList → List OpenContainer → Type 0
Agree [] [] [] = Unit {0}
Agree (true ∷ held) (l ∷ ls) (a ∷ arounds) =
    IsItemOf l.marker a.shape × Fits l a.before × NoLists a.before × Agree held ls arounds
Agree (false ∷ held) ls (a ∷ arounds) = IsNoItem a.shape × NoLists a.before × Agree held ls arounds
Agree _ _ _ = ⊥

-- the same where the innermost is an item whose marker is not read yet
abbrev pub AgreeFront : List Bool → List OpenList → List OpenContainer → Type 0
AgreeFront (true ∷ held) (l ∷ ls) (a ∷ arounds) =
    IsBegun a.shape × Fits l a.before × NoLists a.before × Agree held ls arounds
AgreeFront _ _ _ = ⊥

abbrev pub AgreeAt : Inner → List Bool → List OpenList → List OpenContainer → Type 0
AgreeAt InFront held ls outer = AgreeFront held ls outer
AgreeAt (InMarker q) held ls outer = AgreeFront held ls outer
AgreeAt _ held ls outer = Agree held ls outer

-- there are some
abbrev pub HasBlocks : Blocks → Type 0
HasBlocks End = ⊥
HasBlocks (More b bs) = Unit {0}

abbrev pub first_marker : List OpenList → ℕ
first_marker [] = 0
first_marker (l ∷ ls) = l.marker

-- Of what is innermost, by what is ahead: the marker of the item that has begun, and the next block.
abbrev pub Knows : List ℕ → Inner → Option OpenList → List OpenList → Reading → ℕ → Option ℕ → Type 0
Knows bytes AmongBlocks None ls r ahead next = (m : ℕ) → next ≡ Some m → Apart m r.here
Knows bytes AmongBlocks (Some l) ls r ahead next = (next ≡ Some l.marker) × Fits l r.here × HasBlocks r.here
Knows bytes InFront None ls r ahead next = (r.here ≡ End) × (ahead ≡ first_marker ls)
Knows bytes (InMarker q) None ls r ahead next =
    (r.here ≡ End) × (get_or bytes q.index 0 ≡ first_marker ls) × IsMarkerAt bytes q × (r.text ≡ Some (begun q))
Knows bytes InLabel None ls r ahead next = r.here ≡ End
Knows bytes InLeaf None ls r ahead next = (leaf : OpenLeaf) × (r.leaf ≡ Some leaf)
Knows bytes InText None ls r ahead next = (text : Text) × (r.text ≡ Some text)
Knows bytes _ (Some l) ls r ahead next = ⊥

-- What is known of both readings at a site.
pub record Known (bytes : List ℕ) (site : Site) (w : Option OpenList) (ls : List OpenList) (r : Reading) (ahead : ℕ)
    (next : Option ℕ) : Type 0 where
  pub agree : AgreeAt site.inner site.held ls r.outer
  pub lists : NoLists r.here
  pub inner : Knows bytes site.inner w ls r ahead next

-- What is read of the begin and the end of a list.

abbrev pub entered_list : ℕ → Reading → Reading
entered_list marker r = moved r (record { shape = list_shape marker; before = r.here } ∷ r.outer) End

abbrev pub begun_list : Bool → ℕ → Reading → Reading
begun_list true marker r = r
begun_list false marker r = entered_list marker r

abbrev pub ended_list : List ℕ → Option ℕ → Reading → Reading
ended_list [] next r = r
ended_list (marker ∷ markers) next r = if is_continued marker next then r else left r.outer r

-- what is read of an event with the begins and ends of lists around it
abbrev pub read_turn : Turn → Place → ℕ → Option ℕ → (Reading → Reading) → Reading → Reading
read_turn Begins place ahead next f r = f (begun_list place.within ahead r)
read_turn Ends place ahead next f r = ended_list place.markers next (f r)
read_turn Stays place ahead next f r = f r

pub role-list : (m : ℕ) → role (list_name m) ≡ ContainerRole (list_shape m)
role-list m = go (is_ordered m)
  where
    go : (x : Bool) → role (if x then n.ListOrdered else n.ListUnordered)
        ≡ ContainerRole (if x then OrderedShape else UnorderedShape)
    go true = refl
    go false = refl

pub read-turn : (bytes : List ℕ) (t : Turn) (place : Place) (ahead : ℕ) (next : Option ℕ) (e : Event) (r : Reading) →
    read bytes r (given_by t place ahead next e)
    ≡ read_turn t place ahead next (read_by bytes e.kind (role e.name) e.point) r
read-turn bytes Begins place ahead next e r = go place.within
  where
    go : (x : Bool) → read bytes r (list_begin x ahead e.point ++ e ∷ [])
        ≡ read_by bytes e.kind (role e.name) e.point (begun_list x ahead r)
    go true = refl
    go false =
        ap (λ (x : Role). read_by bytes e.kind (role e.name) e.point (read_by bytes Enter x e.point r))
        (role-list ahead)
read-turn bytes Ends place ahead next e r = go place.markers
  where
    s : Reading
    s = read_by bytes e.kind (role e.name) e.point r

    go : (markers : List ℕ) → read bytes s (list_end markers next e.point) ≡ ended_list markers next s
    go [] = refl
    go (m ∷ markers) = by (is_continued m next)
      where
        by : (x : Bool) →
            read bytes s (if x then [] else exit (list_name m) e.point ∷ []) ≡ (if x then s else left s.outer s)
        by true = refl
        by false = ap (λ (x : Role). read_by bytes Exit x e.point s) (role-list m)
read-turn bytes Stays place ahead next e r = refl

-- Events that pass.

-- an event that leaves the containers that are open and the blocks that are finished
abbrev pub Passes : Kind → Role → Type 0
Passes Enter (ContainerRole shape) = ⊥
Passes Enter IsQuoteMarker = ⊥
Passes Enter _ = Unit {0}
Passes Exit (ContainerRole shape) = ⊥
Passes Exit (LeafRole kind) = ⊥
Passes Exit (TextRole purpose) = IsOfLeaf purpose
Passes Exit _ = Unit {0}

pub of-leaf : (purpose : Purpose) → IsOfLeaf purpose → recorded_in purpose ≡ OfLeaf
of-leaf purpose h = go (recorded_in purpose) h
  where
    go : (t : Recorded) → IsForLeaf t → t ≡ OfLeaf
    go OfLeaf h = refl
    go _ h = absurd h

pub of-itself : (purpose : Purpose) → IsOfItself purpose → recorded_in purpose ≡ OfItself
of-itself purpose h = go (recorded_in purpose) h
  where
    go : (t : Recorded) → IsForItself t → t ≡ OfItself
    go OfItself h = refl
    go _ h = absurd h

pub recorded-moved : (purpose : Purpose) → IsOfLeaf purpose →
    (line : Line) (r : Reading) (outer : List OpenContainer) (here : Blocks) →
    recorded purpose line (moved r outer here) ≡ moved (recorded purpose line r) outer here
recorded-moved purpose h line r outer here =
    recorded-noted purpose (of-leaf purpose h) line (moved r outer here)
    ∙ ap (λ (s : Reading). moved s outer here) (sym (recorded-noted purpose (of-leaf purpose h) line r))

pub recorded_at-moved : (bytes : List ℕ) (purpose : Purpose) → IsOfLeaf purpose →
    (p : Point) (text : Option Text) (r : Reading)
    (outer : List OpenContainer) (here : Blocks) →
    recorded_at bytes purpose p text (moved r outer here) ≡ moved (recorded_at bytes purpose p text r) outer here
recorded_at-moved bytes purpose h p None r outer here = refl
recorded_at-moved bytes purpose h p (Some text) r outer here =
    recorded-moved purpose h (record { spaces = text.spaces; text = text_to bytes p.index text })
    (record r { text = None }) outer here

pub ending-moved : (bytes : List ℕ) (p : Point) (text : Option Text) (r : Reading) (outer : List OpenContainer)
    (here : Blocks) → at_ending bytes p text (moved r outer here) ≡ moved (at_ending bytes p text r) outer here
ending-moved bytes p (Some text) r outer here = refl
ending-moved bytes p None r outer here = go (nat_lt p.index (length bytes))
  where
    go : (x : Bool) → (if x then on_leaf next_line (moved r outer here) else moved r outer here)
        ≡ moved (if x then on_leaf next_line r else r) outer here
    go true = refl
    go false = refl

pub passes-moved : (bytes : List ℕ) (kind : Kind) (x : Role) (p : Point) → Passes kind x → (r : Reading)
    (outer : List OpenContainer) (here : Blocks) →
    read_by bytes kind x p (moved r outer here) ≡ moved (read_by bytes kind x p r) outer here
passes-moved bytes Enter (ContainerRole shape) p h r outer here = absurd h
passes-moved bytes Enter IsQuoteMarker p h r outer here = absurd h
passes-moved bytes Enter _ p h r outer here = refl
passes-moved bytes Exit (ContainerRole shape) p h r outer here = absurd h
passes-moved bytes Exit (LeafRole kind) p h r outer here = absurd h
passes-moved bytes Exit (TextRole purpose) p h r outer here = recorded_at-moved bytes purpose h p r.text r outer here
passes-moved bytes Exit IsEnding p h r outer here = ending-moved bytes p r.text r outer here
passes-moved bytes Exit _ p h r outer here = refl

-- so it leaves them
pub passes-outer : (bytes : List ℕ) (kind : Kind) (x : Role) (p : Point) → Passes kind x → (r : Reading) →
    (read_by bytes kind x p r).outer ≡ r.outer
passes-outer bytes kind x p h r =
    ap (λ (s : Reading). s.outer) (passes-moved bytes kind x p h r r.outer r.here)

pub passes-here : (bytes : List ℕ) (kind : Kind) (x : Role) (p : Point) → Passes kind x → (r : Reading) →
    (read_by bytes kind x p r).here ≡ r.here
passes-here bytes kind x p h r = ap (λ (s : Reading). s.here) (passes-moved bytes kind x p h r r.outer r.here)

pub passes-listed : (bytes : List ℕ) (kind : Kind) (x : Role) (p : Point) → Passes kind x → (w : Option OpenList)
    (held : List Bool) (ls : List OpenList) (r : Reading) →
    read_by bytes kind x p (as_listed w held ls r) ≡ as_listed w held ls (read_by bytes kind x p r)
passes-listed bytes kind x p h None held ls r =
    passes-moved bytes kind x p h r (outer_by held ls r.outer) (grouped r.here)
    ∙ ap
    (λ (o : List OpenContainer). moved (read_by bytes kind x p r) (outer_by held ls o) (grouped r.here))
    (sym (passes-outer bytes kind x p h r))
    ∙ ap
    (λ (b : Blocks). moved (read_by bytes kind x p r) (outer_by held ls (read_by bytes kind x p r).outer) (grouped b))
    (sym (passes-here bytes kind x p h r))
passes-listed bytes kind x p h (Some l) held ls r =
    passes-moved bytes kind x p h r (list_around l ∷ outer_by held ls r.outer) l.items
    ∙ ap
    (λ (o : List OpenContainer). moved (read_by bytes kind x p r) (list_around l ∷ outer_by held ls o) l.items)
    (sym (passes-outer bytes kind x p h r))

pub passes-turn : (kind : Kind) (x : Role) → Passes kind x → turn kind x ≡ Stays
passes-turn Enter (ContainerRole shape) h = absurd h
passes-turn Enter IsQuoteMarker h = absurd h
passes-turn Enter _ h = refl
passes-turn Exit (ContainerRole shape) h = absurd h
passes-turn Exit _ h = refl

-- One event.

-- What an event becomes on both sides, where this is known after it.
pub record Stepped (bytes : List ℕ) (kind : Kind) (x : Role) (p : Point) (w : Option OpenList) (ls : List OpenList)
    (r : Reading) (ahead : ℕ) (next : Option ℕ) (held : List Bool) (site : Site) : Type 0 where
  pub lists : List OpenList
  pub within : Option OpenList
  pub place : place_by (turn kind x) (place_of w ls) ahead next ≡ place_of within lists
  pub reads : read_turn (turn kind x) (place_of w ls) ahead next (read_by bytes kind x p) (as_listed w held ls r)
      ≡ as_listed within site.held lists (read_by bytes kind x p r)
  pub known : Known bytes site within lists (read_by bytes kind x p r) ahead next

-- an event that passes, within a container
pub passed : (bytes : List ℕ) (kind : Kind) (x : Role) (p : Point) (w : Option OpenList) (ls : List OpenList)
    (r : Reading)
    (ahead : ℕ) (next : Option ℕ) (held : List Bool) (inner : Inner) → Passes kind x → AgreeAt inner held ls r.outer →
    NoLists r.here → Knows bytes inner w ls (read_by bytes kind x p r) ahead next →
    Stepped bytes kind x p w ls r ahead next held (record { held = held; inner = inner })
passed bytes kind x p w ls r ahead next held inner h agree lists known = record {
  lists = ls;
  within = w;
  place = ap (λ (t : Turn). place_by t (place_of w ls) ahead next) (passes-turn kind x h);
  reads =
      ap
      (λ (t : Turn). read_turn t (place_of w ls) ahead next (read_by bytes kind x p) (as_listed w held ls r))
      (passes-turn kind x h)
      ∙ passes-listed bytes kind x p h w held ls r;
  known = record {
    agree = subst (AgreeAt inner held ls) (sym (passes-outer bytes kind x p h r)) agree;
    lists = subst NoLists (sym (passes-here bytes kind x p h r)) lists;
    inner = known;
  };
}
