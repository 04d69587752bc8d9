-- Before an item's marker, in a footnote's label, in a leaf block and in a text that is a block of its own: each event
-- keeps what is known of both readings.
use Rattle.std.proofs.Common.{◌≡◌, ℕ, ◌+◌, ◌-◌, Bool, true, false, List, [], ◌∷◌, drop, take, length}
use Rattle.std.proofs.Common.{slice_range, refl, ap, sym, subst, ◌∙◌, arith}
use Rattle.std.specs.Prelude.{◌==◌, if◌then◌else◌, nat_lt, Option, Some, None, option_map, get_or}
use Rattle.std.proofs.lemmas.List.{get_or-drop}
use Rattle.md_engine.specs.declared.event.Kind.{Kind}
use Rattle.md_engine.specs.declared.event.Kind.TheVariants.{Enter, Exit}
use Rattle.md_engine.specs.declared.event.Point.{Point}
use Rattle.md_meaning.specs.Grouped.{grouped, grouped_block}
use Rattle.md_meaning.specs.State.{then_block}
use Rattle.md_meaning.specs.Texts.{first_byte}
use Rattle.md_meaning.specs.Tree.{Block, Blocks, End, Line}
use Rattle.md_events.specs.Events.Spelled.{OpenContainer, AsDigits, AsFootnoteLabel, AsItemMarker, BareLeaf}
use Rattle.md_events.specs.Events.Spelled.{ContainerRole, IsEnding, IsPrefix, IsQuiet, IsQuoteMarker, ItemShape}
use Rattle.md_events.specs.Events.Spelled.{OpenLeaf, LeafRole, Purpose, Reading, Role, Shape, TextRole, Text, at_ending}
use Rattle.md_events.specs.Events.Spelled.{begun, block_of, finished, named, next_line, on_leaf, on_shape, read_by}
use Rattle.md_events.specs.Events.Spelled.{text_to, recorded_at, after_prefix, before_prefix, noted}
use Rattle.md_events.specs.Events.Recorded.{block_recorded}
use Rattle.md_events.proofs.RecordedLemmas.{recorded-block, recorded-noted}
use Rattle.md_containers.specs.ItemsAllowed.{AmongBlocks, InFront, InLabel, InLeaf, InMarker, InText, Inner, IsBetween}
use Rattle.md_containers.specs.ItemsAllowed.{IsMarkerAt, IsOfLeaf, IsPart, MayBegin, MayEnd, is_list_marker, site_after}
use Rattle.md_containers.specs.Listed.{Stays, Turn, marker_by, next_by, place_by, turn}
use Rattle.md_containers.proofs.GroupedLemmas.{IsOther, NoLists, grouped-other, no-lists-then, other-is-no-list}
use Rattle.md_containers.proofs.ListedOpen.{Agree, AgreeFront, Apart, IsBegun, IsItemOf, IsNoItem, Known, OpenList}
use Rattle.md_containers.proofs.ListedOpen.{Passes, Stepped, as_listed, first_marker, moved, of-itself, of-leaf}
use Rattle.md_containers.proofs.ListedOpen.{outer_by, passed, passes-here, place_of, read_turn}
use Rattle.md_containers.proofs.ListedBlockSteps.{apart-end, other-apart}
use Rattle.md_containers.proofs.ListedMarkers.{marker-begins, marker-here, marker-in_leaf, marker-in_text}
use Rattle.md_containers.proofs.ListedMarkers.{marker-stays, shape-listed}

-- What shows something of a container.

abbrev pub IsOfHolder : Purpose → Type 0
IsOfHolder AsDigits = Unit {0}
IsOfHolder AsItemMarker = Unit {0}
IsOfHolder AsFootnoteLabel = Unit {0}
IsOfHolder _ = ⊥

abbrev pub fields : List OpenContainer → Blocks → Option OpenLeaf → Option Text → Reading
fields outer here leaf text = record { outer = outer; here = here; leaf = leaf; text = text }

pub holder-recorded : (bytes : List ℕ) (purpose : Purpose) → IsOfHolder purpose → (p : Point) (ls : List OpenList)
    (outer : List OpenContainer) (here : Blocks) (leaf : Option OpenLeaf) (text : Option Text) (held : List Bool) →
    read_by bytes Exit (TextRole purpose) p (as_listed None held ls (fields outer here leaf text))
    ≡ as_listed None held ls (read_by bytes Exit (TextRole purpose) p (fields outer here leaf text))
holder-recorded bytes purpose h p ls outer here leaf None held = refl
holder-recorded bytes AsDigits h p ls outer here leaf (Some text) held =
    ap (λ (o : List OpenContainer). fields o (grouped here) leaf None)
    (shape-listed (named AsDigits (text_to bytes p.index text)) held ls outer)
holder-recorded bytes AsItemMarker h p ls outer here leaf (Some text) held =
    ap (λ (o : List OpenContainer). fields o (grouped here) leaf None)
    (shape-listed (named AsItemMarker (text_to bytes p.index text)) held ls outer)
holder-recorded bytes AsFootnoteLabel h p ls outer here leaf (Some text) held =
    ap (λ (o : List OpenContainer). fields o (grouped here) leaf None)
    (shape-listed (named AsFootnoteLabel (text_to bytes p.index text)) held ls outer)
holder-recorded bytes _ h p ls outer here leaf (Some text) held = absurd h

-- such an end, and what is known after it
pub holder-records : (bytes : List ℕ) (purpose : Purpose) → IsOfHolder purpose → (p : Point) (ls : List OpenList)
    (r : Reading) (ahead : ℕ) (next : Option ℕ) (held : List Bool) (inner : Inner) →
    Known bytes (record { held = held; inner = inner }) None ls (read_by bytes Exit (TextRole purpose) p r) ahead next →
    Stepped bytes Exit (TextRole purpose) p None ls r ahead next held (record { held = held; inner = inner })
holder-records bytes purpose h p ls r ahead next held inner known = record {
  lists = ls;
  within = None;
  place = refl;
  reads = holder-recorded bytes purpose h p ls r.outer r.here r.leaf r.text held;
  known = known;
}

-- the end of an item's digits leaves it without a marker
pub begun-digits : (t : List ℕ) (shape : Shape) → IsBegun shape → IsBegun (named AsDigits t shape)
begun-digits t (ItemShape k d) h = h
begun-digits t _ h = absurd h

pub front-digits : (t : List ℕ) (held : List Bool) (ls : List OpenList) (outer : List OpenContainer) →
    AgreeFront held ls outer → AgreeFront held ls (on_shape (named AsDigits t) outer)
front-digits t (true ∷ held) (l ∷ ls) (a ∷ arounds) h = (begun-digits t a.shape h.0, h.1, h.2, h.3)
front-digits t _ _ _ h = absurd h

pub digits-known : (bytes : List ℕ) (p : Point) (ls : List OpenList) (outer : List OpenContainer) (here : Blocks)
    (leaf : Option OpenLeaf) (text : Option Text) (ahead : ℕ) (next : Option ℕ) (held : List Bool) →
    Known bytes (record { held = held; inner = InFront }) None ls (fields outer here leaf text) ahead next →
    Known bytes (record { held = held; inner = InFront }) None ls
    (read_by bytes Exit (TextRole AsDigits) p (fields outer here leaf text)) ahead next
digits-known bytes p ls outer here leaf None ahead next held known =
    record { agree = known.agree; lists = known.lists; inner = known.inner }
digits-known bytes p ls outer here leaf (Some text) ahead next held known = record {
  agree = front-digits (text_to bytes p.index text) held ls outer known.agree;
  lists = known.lists;
  inner = known.inner;
}

-- the end of a label leaves what is known
pub item-label : (t : List ℕ) (m : ℕ) (shape : Shape) → IsItemOf m shape → IsItemOf m (named AsFootnoteLabel t shape)
item-label t m (ItemShape k d) h = h
item-label t m _ h = absurd h

pub no-item-label : (t : List ℕ) (shape : Shape) → IsNoItem shape → IsNoItem (named AsFootnoteLabel t shape)
no-item-label t (ItemShape k d) h = absurd h
no-item-label t _ h = search

pub agree-label : (t : List ℕ) (held : List Bool) (ls : List OpenList) (outer : List OpenContainer) →
    Agree held ls outer → Agree held ls (on_shape (named AsFootnoteLabel t) outer)
agree-label t [] [] [] h = tt
agree-label t (true ∷ held) (l ∷ ls) (a ∷ arounds) h = (item-label t l.marker a.shape h.0, h.1, h.2, h.3)
agree-label t (false ∷ held) ls (a ∷ arounds) h = (no-item-label t a.shape h.0, h.1, h.2)
agree-label t _ _ _ h = absurd h

pub apart-of : (m : ℕ) (b : Blocks) → b ≡ End → Apart m b
apart-of m b e = subst (Apart m) (sym e) (apart-end m)

pub label-known : (bytes : List ℕ) (p : Point) (ls : List OpenList) (outer : List OpenContainer) (here : Blocks)
    (leaf : Option OpenLeaf) (text : Option Text) (ahead : ℕ) (next : Option ℕ) (held : List Bool) →
    Agree held ls outer → NoLists here → here ≡ End →
    Known bytes (record { held = held; inner = AmongBlocks }) None ls
    (read_by bytes Exit (TextRole AsFootnoteLabel) p (fields outer here leaf text)) ahead next
label-known bytes p ls outer here leaf None ahead next held agree lists e =
    record { agree = agree; lists = lists; inner = λ m i. apart-of m here e }
label-known bytes p ls outer here leaf (Some text) ahead next held agree lists e = record {
  agree = agree-label (text_to bytes p.index text) held ls outer agree;
  lists = lists;
  inner = λ m i. apart-of m here e;
}

-- The marker of an item.

pub first-taken : (xs : List ℕ) → first_byte (take 1 xs) ≡ get_or xs 0 0
first-taken [] = refl
first-taken (x ∷ xs) = refl

-- the byte of a marker that begins and ends here
pub marker-text : (bytes : List ℕ) (p q : Point) → q.vs ≡ 0 → p.index ≡ q.index + 1 →
    first_byte (text_to bytes p.index (begun q)) ≡ get_or bytes q.index 0
marker-text bytes p q whole e =
    ap (λ (v : ℕ). first_byte (slice_range bytes (if v == 0 then q.index else q.index + 1) p.index)) whole
    ∙ ap (λ (n : ℕ). first_byte (take n (drop q.index bytes))) (let one : p.index - q.index ≡ 1 = omega arith in one)
    ∙ first-taken (drop q.index bytes) ∙ get_or-drop q.index bytes 0 0
    ∙ ap (λ (n : ℕ). get_or bytes n 0) (let same : q.index + 0 ≡ q.index = omega arith in same)

pub item-marked : (t : List ℕ) (m : ℕ) (shape : Shape) → IsBegun shape → first_byte t ≡ m → is_list_marker m ≡ true →
    IsItemOf m (named AsItemMarker t shape)
item-marked t m (ItemShape k d) h e marker =
    (ap (λ (j : ℕ). if j == 0 then first_byte t else j) h ∙ e, marker)
item-marked t m _ h e marker = absurd h

pub front-marked : (t : List ℕ) (held : List Bool) (ls : List OpenList) (outer : List OpenContainer) →
    AgreeFront held ls outer → first_byte t ≡ first_marker ls → is_list_marker (first_marker ls) ≡ true →
    Agree held ls (on_shape (named AsItemMarker t) outer)
front-marked t (true ∷ held) (l ∷ ls) (a ∷ arounds) h e marker =
    (item-marked t l.marker a.shape h.0 e marker, h.1, h.2, h.3)
front-marked t _ _ _ h e marker = absurd h

pub marker-known : (bytes : List ℕ) (p q : Point) (ls : List OpenList) (outer : List OpenContainer) (here : Blocks)
    (leaf : Option OpenLeaf) (text : Option Text) (ahead : ℕ) (next : Option ℕ) (held : List Bool) →
    p.index ≡ q.index + 1 → AgreeFront held ls outer → NoLists here → here ≡ End →
    get_or bytes q.index 0 ≡ first_marker ls → IsMarkerAt bytes q → text ≡ Some (begun q) →
    Known bytes (record { held = held; inner = AmongBlocks }) None ls
    (read_by bytes Exit (TextRole AsItemMarker) p (fields outer here leaf text)) ahead next
marker-known bytes p q ls outer here leaf text ahead next held after agree lists e byte is is_text =
    subst
    (λ (t : Option Text). Known bytes (record { held = held; inner = AmongBlocks }) None ls
    (read_by bytes Exit (TextRole AsItemMarker) p (fields outer here leaf t)) ahead next)
    (sym is_text)
    (record {
      agree =
          front-marked (text_to bytes p.index (begun q)) held ls outer agree
          (marker-text bytes p q is.whole after ∙ byte)
          (ap is_list_marker (sym byte) ∙ is.marker);
      lists = lists;
      inner = λ m i. apart-of m here e;
    })

-- Before a marker, and in it.

pub front-begin : (bytes : List ℕ) (x : Role) (p : Point) (ls : List OpenList) (r : Reading) (ahead : ℕ)
    (next : Option ℕ) (held : List Bool) → MayBegin bytes p InFront x →
    Known bytes (record { held = held; inner = InFront }) None ls r
    (marker_by Enter x (get_or bytes p.index 0) ahead) (next_by Enter x ahead next) →
    Stepped bytes Enter x p None ls r ahead next held
    (site_after (record { held = held; inner = InFront }) Enter x p)
front-begin bytes IsQuiet p ls r ahead next held may known =
    passed bytes Enter IsQuiet p None ls r ahead next held InFront tt known.agree known.lists known.inner
front-begin bytes (TextRole AsDigits) p ls r ahead next held may known =
    passed bytes Enter (TextRole AsDigits) p None ls r ahead next held InFront tt known.agree known.lists known.inner
front-begin bytes (TextRole AsItemMarker) p ls r ahead next held may known =
    passed bytes Enter (TextRole AsItemMarker) p None ls r ahead next held (InMarker p) tt known.agree known.lists
    (known.inner.0, known.inner.1, may, refl)
front-begin bytes _ p ls r ahead next held may known = absurd may

pub front-end : (bytes : List ℕ) (x : Role) (p : Point) (ls : List OpenList) (r : Reading) (ahead : ℕ)
    (next : Option ℕ) (held : List Bool) → MayEnd held p InFront x →
    Known bytes (record { held = held; inner = InFront }) None ls r
    (marker_by Exit x (get_or bytes p.index 0) ahead) (next_by Exit x ahead next) →
    Stepped bytes Exit x p None ls r ahead next held
    (site_after (record { held = held; inner = InFront }) Exit x p)
front-end bytes IsQuiet p ls r ahead next held may known =
    passed bytes Exit IsQuiet p None ls r ahead next held InFront tt known.agree known.lists known.inner
front-end bytes (TextRole AsDigits) p ls r ahead next held may known =
    holder-records bytes AsDigits tt p ls r ahead next held InFront
    (digits-known bytes p ls r.outer r.here r.leaf r.text ahead next held known)
front-end bytes _ p ls r ahead next held may known = absurd may

pub marker-end : (bytes : List ℕ) (x : Role) (p q : Point) (ls : List OpenList) (r : Reading) (ahead other : ℕ)
    (next now : Option ℕ) (held : List Bool) → MayEnd held p (InMarker q) x →
    Known bytes (record { held = held; inner = InMarker q }) None ls r other now →
    Stepped bytes Exit x p None ls r ahead next held
    (site_after (record { held = held; inner = InMarker q }) Exit x p)
marker-end bytes (TextRole AsItemMarker) p q ls r ahead other next now held may known =
    holder-records bytes AsItemMarker tt p ls r ahead next held AmongBlocks
    (marker-known bytes p q ls r.outer r.here r.leaf r.text ahead next held may known.agree known.lists known.inner.0
    known.inner.1 known.inner.2 known.inner.3)
marker-end bytes _ p q ls r ahead other next now held may known = absurd may

-- In the label of a footnote definition.

pub label-between : (bytes : List ℕ) (kind : Kind) (x : Role) (p : Point) (ls : List OpenList) (r : Reading)
    (ahead other : ℕ) (next now : Option ℕ) (held : List Bool) → Passes kind x →
    Known bytes (record { held = held; inner = InLabel }) None ls r other now →
    Stepped bytes kind x p None ls r ahead next held (record { held = held; inner = InLabel })
label-between bytes kind x p ls r ahead other next now held h known =
    passed bytes kind x p None ls r ahead next held InLabel h known.agree known.lists
    (passes-here bytes kind x p h r ∙ known.inner)

pub label-begin : (bytes : List ℕ) (x : Role) (p : Point) (ls : List OpenList) (r : Reading) (ahead other : ℕ)
    (next now : Option ℕ) (held : List Bool) → MayBegin bytes p InLabel x →
    Known bytes (record { held = held; inner = InLabel }) None ls r other now →
    Stepped bytes Enter x p None ls r ahead next held
    (site_after (record { held = held; inner = InLabel }) Enter x p)
label-begin bytes (ContainerRole shape) p ls r ahead other next now held may known = absurd may
label-begin bytes IsQuoteMarker p ls r ahead other next now held may known =
    marker-begins bytes p ls r ahead next held InLabel (λ outer h. h) known.agree known.lists
    (marker-here bytes p r ∙ known.inner)
label-begin bytes x p ls r ahead other next now held may known =
    label-between bytes Enter x p ls r ahead other next now held tt known

pub label-end : (bytes : List ℕ) (x : Role) (p : Point) (ls : List OpenList) (r : Reading) (ahead other : ℕ)
    (next now : Option ℕ) (held : List Bool) → MayEnd held p InLabel x →
    Known bytes (record { held = held; inner = InLabel }) None ls r other now →
    Stepped bytes Exit x p None ls r ahead next held
    (site_after (record { held = held; inner = InLabel }) Exit x p)
label-end bytes (TextRole AsFootnoteLabel) p ls r ahead other next now held may known =
    holder-records bytes AsFootnoteLabel tt p ls r ahead next held AmongBlocks
    (label-known bytes p ls r.outer r.here r.leaf r.text ahead next held known.agree known.lists known.inner)
label-end bytes (ContainerRole shape) p ls r ahead other next now held may known = absurd may
label-end bytes (LeafRole kind) p ls r ahead other next now held may known = absurd may
label-end bytes (TextRole purpose) p ls r ahead other next now held may known = absurd may
label-end bytes x p ls r ahead other next now held may known =
    label-between bytes Exit x p ls r ahead other next now held tt known

-- In a leaf block.

part-passes : (x : Role) → IsPart x → Passes Exit x
part-passes (ContainerRole shape) h = absurd h
part-passes (LeafRole kind) h = absurd h
part-passes (TextRole purpose) h = h
part-passes _ h = tt

-- whether a leaf block is open
abbrev pub HasLeaf : Reading → Type 0
HasLeaf r = (leaf : OpenLeaf) × (r.leaf ≡ Some leaf)

pub changed-leaf : (f : OpenLeaf → OpenLeaf) (r : Reading) → HasLeaf r → HasLeaf (on_leaf f r)
changed-leaf f r h = (f h.0, ap (option_map f) h.1)

pub recorded-leaf : (bytes : List ℕ) (purpose : Purpose) → IsOfLeaf purpose →
    (p : Point) (text : Option Text) (r : Reading) → HasLeaf r → HasLeaf (recorded_at bytes purpose p text r)
recorded-leaf bytes purpose h p None r leaf = leaf
recorded-leaf bytes purpose h p (Some text) r leaf =
    let line : Line = record { spaces = text.spaces; text = text_to bytes p.index text } in
    subst HasLeaf (sym (recorded-noted purpose (of-leaf purpose h) line (record r { text = None })))
    (changed-leaf (noted purpose line) (record r { text = None }) leaf)

pub ending-leaf : (bytes : List ℕ) (p : Point) (text : Option Text) (r : Reading) → HasLeaf r →
    HasLeaf (at_ending bytes p text r)
ending-leaf bytes p (Some text) r leaf = leaf
ending-leaf bytes p None r leaf = go (nat_lt p.index (length bytes))
  where
    go : (x : Bool) → HasLeaf (if x then on_leaf next_line r else r)
    go true = changed-leaf next_line r leaf
    go false = leaf

-- the parts of a leaf block leave it open
pub part-leaf : (bytes : List ℕ) (kind : Kind) (x : Role) (p : Point) → IsPart x → (r : Reading) → HasLeaf r →
    HasLeaf (read_by bytes kind x p r)
part-leaf bytes kind (ContainerRole shape) p h r leaf = absurd h
part-leaf bytes kind (LeafRole k) p h r leaf = absurd h
part-leaf bytes Exit (TextRole purpose) p h r leaf = recorded-leaf bytes purpose h p r.text r leaf
part-leaf bytes Exit IsEnding p h r leaf = ending-leaf bytes p r.text r leaf
part-leaf bytes Enter IsQuoteMarker p h r leaf = subst HasLeaf (sym (marker-in_leaf bytes p r leaf.0 leaf.1)) leaf
part-leaf bytes Enter _ p h r leaf = first_of (search, search (changed-leaf))
part-leaf bytes Exit _ p h r leaf = first_of (search, search (changed-leaf))

pub leaf-part : (bytes : List ℕ) (kind : Kind) (x : Role) (p : Point) (ls : List OpenList) (r : Reading)
    (ahead other : ℕ) (next now : Option ℕ) (held : List Bool) → IsPart x → Passes kind x →
    Known bytes (record { held = held; inner = InLeaf }) None ls r other now →
    Stepped bytes kind x p None ls r ahead next held (record { held = held; inner = InLeaf })
leaf-part bytes kind x p ls r ahead other next now held h passes known =
    passed bytes kind x p None ls r ahead next held InLeaf passes known.agree known.lists
    (part-leaf bytes kind x p h r known.inner)

pub leaf-begin : (bytes : List ℕ) (x : Role) (p : Point) (ls : List OpenList) (r : Reading) (ahead other : ℕ)
    (next now : Option ℕ) (held : List Bool) → MayBegin bytes p InLeaf x →
    Known bytes (record { held = held; inner = InLeaf }) None ls r other now →
    Stepped bytes Enter x p None ls r ahead next held
    (site_after (record { held = held; inner = InLeaf }) Enter x p)
leaf-begin bytes (ContainerRole shape) p ls r ahead other next now held may known = absurd may
leaf-begin bytes IsQuoteMarker p ls r ahead other next now held may known =
    marker-stays bytes p ls r ahead next held InLeaf (marker-in_leaf bytes p r known.inner.0 known.inner.1)
    (record { agree = known.agree; lists = known.lists; inner = known.inner })
leaf-begin bytes x p ls r ahead other next now held may known =
    leaf-part bytes Enter x p ls r ahead other next now held may tt known

pub leaf-other : (leaf : OpenLeaf) → IsOther (block_of leaf)
leaf-other (BareLeaf word) = tt
leaf-other _ = tt

pub leaf-grouped : (leaf : OpenLeaf) → grouped_block (block_of leaf) ≡ block_of leaf
leaf-grouped (BareLeaf word) = refl
leaf-grouped _ = refl

-- a block is added that is neither a list nor an item, and holds none
pub added : (bytes : List ℕ) (x : Role) (p : Point) (ls : List OpenList) (r : Reading) (ahead : ℕ) (next : Option ℕ)
    (held : List Bool) (block : Block) (leaf : Option OpenLeaf) (text : Option Text) → turn Exit x ≡ Stays →
    IsOther block → grouped_block block ≡ block → Agree held ls r.outer → NoLists r.here →
    ((outer : List OpenContainer) (here : Blocks) →
    read_by bytes Exit x p (moved r outer here) ≡ fields outer (then_block here block) leaf text) →
    Stepped bytes Exit x p None ls r ahead next held (record { held = held; inner = AmongBlocks })
added bytes x p ls r ahead next held block leaf text stays other same agree lists reads =
    let there : read_by bytes Exit x p r ≡ fields r.outer (then_block r.here block) leaf text =
    reads r.outer r.here in
    record {
      lists = ls;
      within = None;
      place = ap (λ (t : Turn). place_by t (place_of None ls) ahead next) stays;
      reads =
          ap
          (λ (t : Turn).
          read_turn t (place_of None ls) ahead next (read_by bytes Exit x p) (as_listed None held ls r))
          stays
          ∙ reads (outer_by held ls r.outer) (grouped r.here)
          ∙ ap (λ (b : Block). fields (outer_by held ls r.outer) (then_block (grouped r.here) b) leaf text) (sym same)
          ∙ ap (λ (b : Blocks). fields (outer_by held ls r.outer) b leaf text)
          (sym (grouped-other r.here block other))
          ∙ ap (as_listed None held ls) (sym there);
      known =
          subst
          (λ (s : Reading). Known bytes (record { held = held; inner = AmongBlocks }) None ls s ahead next)
          (sym there)
          (record {
            agree = agree;
            lists = no-lists-then r.here block lists (other-is-no-list block other);
            inner = λ m e. other-apart r.here block lists other m;
          });
    }

pub leaf-end : (bytes : List ℕ) (x : Role) (p : Point) (ls : List OpenList) (r : Reading) (ahead other : ℕ)
    (next now : Option ℕ) (held : List Bool) → MayEnd held p InLeaf x →
    Known bytes (record { held = held; inner = InLeaf }) None ls r other now →
    Stepped bytes Exit x p None ls r ahead next held
    (site_after (record { held = held; inner = InLeaf }) Exit x p)
leaf-end bytes (ContainerRole shape) p ls r ahead other next now held may known = absurd may
leaf-end bytes (LeafRole kind) p ls r ahead other next now held may known =
    added bytes (LeafRole kind) p ls r ahead next held (block_of known.inner.0) None r.text refl
    (leaf-other known.inner.0) (leaf-grouped known.inner.0) known.agree known.lists
    (λ outer here. ap (λ (l : Option OpenLeaf). finished l (moved r outer here)) known.inner.1)
leaf-end bytes x p ls r ahead other next now held may known =
    leaf-part bytes Exit x p ls r ahead other next now held may (part-passes x may) known

-- In a text that is a block of its own.

abbrev pub HasText : Reading → Type 0
HasText r = (text : Text) × (r.text ≡ Some text)

pub ending-text : (bytes : List ℕ) (p : Point) (text : Option Text) (r : Reading) → r.text ≡ text → HasText r →
    HasText (at_ending bytes p text r)
ending-text bytes p (Some text) r e h = h
ending-text bytes p None r e h = absurd (let none : None ≡ Some h.0 = sym e ∙ h.1 in cc)

pub between-text : (bytes : List ℕ) (kind : Kind) (x : Role) (p : Point) → IsBetween x → (r : Reading) → HasText r →
    HasText (read_by bytes kind x p r)
between-text bytes Enter IsPrefix p h r text =
    (before_prefix bytes p text.0, ap (option_map (before_prefix bytes p)) text.1)
between-text bytes Exit IsPrefix p h r text = (after_prefix p text.0, ap (option_map (after_prefix p)) text.1)
between-text bytes Enter IsQuoteMarker p h r text = subst HasText (sym (marker-in_text bytes p r text.0 text.1)) text
between-text bytes Exit IsEnding p h r text = ending-text bytes p r.text r refl text
between-text bytes _ _ p h r text = search

pub text-between : (bytes : List ℕ) (kind : Kind) (x : Role) (p : Point) (ls : List OpenList) (r : Reading)
    (ahead other : ℕ) (next now : Option ℕ) (held : List Bool) → IsBetween x → Passes kind x →
    Known bytes (record { held = held; inner = InText }) None ls r other now →
    Stepped bytes kind x p None ls r ahead next held (record { held = held; inner = InText })
text-between bytes kind x p ls r ahead other next now held h passes known =
    passed bytes kind x p None ls r ahead next held InText passes known.agree known.lists
    (between-text bytes kind x p h r known.inner)

pub text-begin : (bytes : List ℕ) (x : Role) (p : Point) (ls : List OpenList) (r : Reading) (ahead other : ℕ)
    (next now : Option ℕ) (held : List Bool) → MayBegin bytes p InText x →
    Known bytes (record { held = held; inner = InText }) None ls r other now →
    Stepped bytes Enter x p None ls r ahead next held
    (site_after (record { held = held; inner = InText }) Enter x p)
text-begin bytes (ContainerRole shape) p ls r ahead other next now held may known = absurd may
text-begin bytes IsQuoteMarker p ls r ahead other next now held may known =
    marker-stays bytes p ls r ahead next held InText (marker-in_text bytes p r known.inner.0 known.inner.1)
    (record { agree = known.agree; lists = known.lists; inner = known.inner })
text-begin bytes x p ls r ahead other next now held may known =
    text-between bytes Enter x p ls r ahead other next now held may tt known

pub text-end : (bytes : List ℕ) (x : Role) (p : Point) (ls : List OpenList) (r : Reading) (ahead other : ℕ)
    (next now : Option ℕ) (held : List Bool) → MayEnd held p InText x →
    Known bytes (record { held = held; inner = InText }) None ls r other now →
    Stepped bytes Exit x p None ls r ahead next held
    (site_after (record { held = held; inner = InText }) Exit x p)
text-end bytes (TextRole purpose) p ls r ahead other next now held may known =
    added bytes (TextRole purpose) p ls r ahead next held
    (block_recorded (text_to bytes p.index known.inner.0)) r.leaf None refl tt refl known.agree known.lists
    (λ outer here.
    ap (λ (t : Option Text). recorded_at bytes purpose p t (moved r outer here)) known.inner.1
    ∙ recorded-block purpose (of-itself purpose may)
    (record { spaces = known.inner.0.spaces; text = text_to bytes p.index known.inner.0 })
    (record (moved r outer here) { text = None }))
text-end bytes (ContainerRole shape) p ls r ahead other next now held may known = absurd may
text-end bytes (LeafRole kind) p ls r ahead other next now held may known = absurd may
text-end bytes x p ls r ahead other next now held may known =
    text-between bytes Exit x p ls r ahead other next now held may tt known
