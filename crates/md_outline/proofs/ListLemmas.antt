-- Lists that have begun: an outline shows each the marker of its first item. And footnote definitions that have: of
-- these `FootnoteLemmas` has what is said.
use Rattle.std.proofs.Common.{◌≡◌, ℕ, ◌+◌, ◌<◌, Bool, true, false, List, [], ◌∷◌, ◌++◌, length, map, get_or}
use Rattle.std.proofs.Common.{slice_range, refl, sym, ◌∙◌, ap, subst, append_assoc, arith}
use Rattle.std.specs.Prelude.{Option, Some, None, set, ◌==◌}
use Rattle.std.proofs.lemmas.Bool.{eqb-true, true≢false}
use Rattle.std.proofs.lemmas.List.{get_or-map, get_or_at, map-set, set_at}
use Rattle.md_engine.specs.declared.event.Kind.{Kind}
use Rattle.md_engine.specs.declared.event.Kind.TheVariants.{Enter, Exit}
use Rattle.md_engine.specs.declared.event.Point.{Point}
use Rattle.md_meaning.specs.declared.outline.OutlineLine.{OutlineLine}
use Rattle.md_meaning.specs.declared.outline.Word.TheVariants as word
use Rattle.md_meaning.specs.Outline.{Entry, block_entries, entry, entry_of, outline}
use Rattle.md_meaning.specs.Texts.{first_byte}
use Rattle.md_meaning.specs.Tree.{Block, Blocks, End, Item, More}
use Rattle.md_events.specs.Events.Spelled.{OpenContainer, AsDigits, AsFootnoteLabel, AsItemMarker, FootnoteShape}
use Rattle.md_events.specs.Events.Spelled.{ContainerRole, IsEnding, IsPrefix, IsQuiet, IsQuoteMarker, ItemShape}
use Rattle.md_events.specs.Events.Spelled.{OrderedShape, Reading, Shape, TextRole, Text, UnorderedShape, begun}
use Rattle.md_events.specs.Events.Spelled.{block_around, byte_at, columns_left, first_recorded, read_by, read_enter}
use Rattle.md_events.specs.Events.Spelled.{text_to, OpenLeaf}
use Rattle.md_events.specs.Events.Spelled as spelled
use Rattle.md_outline.specs.HeadingDepths.{are_shallow}
use Rattle.md_outline.specs.ListsBegin.{AllRecorded, AtItem, AtLabel, AtMarker, InMarker, MayFollow, Stage, marks}
use Rattle.md_outline.specs.ListsBegin.{stage_by}
use Rattle.md_outline.specs.Outlined.{is_unparted, parts_by}
use Rattle.md_outline.specs.OutlineSteps.{OutlineState, state_by, state_enter, recorded_at, with_marker, marked_at}
use Rattle.md_outline.specs.Roles.{is_listed, shown_as}
use Rattle.md_outline.specs.declared.outline.role.Purpose.TheVariants as purpose
use Rattle.md_outline.specs.declared.outline.role.Role.TheVariants as role
use Rattle.md_outline.specs.declared.outline.TextSpan.{TextSpan}
use Rattle.md_outline.proofs.ClosedTrees.{HasWord, HaveWords, depth_of, shown, shown-then, words-then}
use Rattle.md_outline.proofs.FootnoteLemmas.{AwaitsLabel, awaits-given, awaits-label, label-ends}
use Rattle.md_outline.proofs.OutlineAgrees.{Agrees, KnowsOpen, TextIs, agrees-begun, agrees-left, agrees-step, apart}
use Rattle.md_outline.proofs.OutlineAgrees.{text-lines, text-stays}
use Rattle.md_outline.proofs.RoleLemmas.{IsFresh, by-ending, by-marker}
use Rattle.md_outline.specs.declared.outline.lined.Lined.{Lined}

-- The line of a list.

-- a line with a marker is shown as the entry with it
pub line-marked : (lines : List OutlineLine) (place : ℕ) (text : List ℕ) (line : OutlineLine) (b : ℕ) →
    place < length lines → b ≡ first_byte text → line ≡ get_or lines place line →
    map entry_of (set lines place (record line { word = word.List b })) ≡ with_marker place text (map entry_of lines)
line-marked lines place text line b within first is =
    let at : Entry → List Entry = λ e. set (map entry_of lines) place e in
    map-set entry_of lines place (record line { word = word.List b })
    ∙ ap (λ k. at (record (entry_of line) { word = word.List k })) first
    ∙ ap (λ (e : Entry). at (record e { word = word.List (first_byte text) }))
    (ap entry_of is ∙ sym (get_or-map entry_of lines place line (entry 0 word.Item) within))

-- after other entries, and before others
entry-marked : (before following : List Entry) (depth place : ℕ) (text : List ℕ) → place ≡ length before →
    with_marker place text (before ++ entry depth (word.List 0) ∷ following)
    ≡ before ++ entry depth (word.List (first_byte text)) ∷ following
entry-marked before following depth place text is =
    let old : Entry = entry depth (word.List 0) in
    ap
    (λ (e : Entry).
    set (before ++ old ∷ following) place (record e { word = word.List (first_byte text) }))
    (get_or_at before old following (entry 0 word.Item) place (sym is))
    ∙ set_at before old following (entry depth (word.List (first_byte text))) place (sym is)

-- Lists.

abbrev pub IsList : Shape → Type 0
IsList OrderedShape = Unit {0}
IsList UnorderedShape = Unit {0}
IsList _ = ⊥

-- one with an item that has a marker of such lists has that,
item-lines : (shape : Shape) (depth b : ℕ) (d : List ℕ) → IsList shape → marks shape b ≡ true →
    block_entries depth (block_around shape (More (Item b d End) End))
    ≡ entry depth (word.List b) ∷ entry (depth + 1) word.Item ∷ []
item-lines OrderedShape depth b d h m = rw m refl
item-lines UnorderedShape depth b d h m = rw m refl
item-lines _ depth b d h m = absurd h

-- which is not 0
no-zero : (f : ℕ → Bool) (b : ℕ) → f 0 ≡ false → f b ≡ true → (b == 0) ≡ false
no-zero f b none h = go (b == 0) refl
  where
    go : (x : Bool) → (b == 0) ≡ x → (b == 0) ≡ false
    go true e = absurd (true≢false (sym h ∙ ap f (eqb-true b 0 e) ∙ none))
    go false e = e

item-recorded : (shape : Shape) (b : ℕ) (d : List ℕ) → IsList shape → marks shape b ≡ true →
    HasWord shape (More (Item b d End) End)
item-recorded OrderedShape b d h m = rw m (no-zero (marks OrderedShape) b refl m)
item-recorded UnorderedShape b d h m = rw m (no-zero (marks UnorderedShape) b refl m)
item-recorded _ b d h m = absurd h

-- What agrees where a list has begun.

-- it is after these blocks, and its line is not said its marker
pub record ListWaits (shape : Shape) (untold : Option ℕ) (lined : Option Lined) (known read : Option OpenLeaf)
    : Type 0 where
  pub list : IsList shape
  pub outer : List OpenContainer
  pub before : Blocks
  pub words : HaveWords outer before
  pub marks : untold ≡ Some (length (shown outer before))
  pub none : lined ≡ None
  pub leaf : known ≡ read
  pub knows : KnowsOpen read

-- what is shown once its first item has begun
abbrev list_lines : List OpenContainer → Blocks → List Entry
list_lines outer before =
    shown outer before ++ entry (depth_of outer) (word.List 0) ∷ entry (depth_of outer + 1) word.Item ∷ []

-- its first item is to come
pub record AwaitsItem (shape : Shape) (s : OutlineState) (r : Reading) : Type 0 where
  pub waits : ListWaits shape s.untold s.lined s.leaf r.leaf
  pub open waits use *
  pub opened : r.outer ≡ record { shape = shape; before = waits.before } ∷ waits.outer
  pub empty : r.here ≡ End
  pub depth : s.depth ≡ depth_of waits.outer + 1
  pub text :
      TextIs (shown waits.outer waits.before ++ entry (depth_of waits.outer) (word.List 0) ∷ []) s.depth s.lines s.text
      r.text

-- the marker of that is to come
pub record AwaitsMarker (shape : Shape) (s : OutlineState) (r : Reading) : Type 0 where
  pub waits : ListWaits shape s.untold s.lined s.leaf r.leaf
  pub open waits use *
  pub digits : List ℕ
  pub opened : r.outer
      ≡ record { shape = ItemShape 0 digits; before = End } ∷ record { shape = shape; before = waits.before }
      ∷ waits.outer
  pub empty : r.here ≡ End
  pub depth : s.depth ≡ (depth_of waits.outer + 1) + 1
  pub text : TextIs (list_lines waits.outer waits.before) s.depth s.lines s.text r.text

abbrev pub AgreesAt : Stage → OutlineState → Reading → Type 0
AgreesAt AllRecorded s r = Agrees s r
AgreesAt (AtItem shape) s r = AwaitsItem shape s r
AgreesAt (AtMarker shape) s r = AwaitsMarker shape s r
AgreesAt (InMarker shape q) s r = AwaitsMarker shape s r × (r.text ≡ Some (begun q))
AgreesAt AtLabel s r = Agrees s r × AwaitsLabel r.outer r.here

-- a list begins
list-begins : (bytes : List ℕ) (shape : Shape) (p : Point) (s : OutlineState) (r : Reading) → IsList shape →
    is_unparted s.text ≡ true → Agrees s r →
    AwaitsItem shape (state_enter bytes role.List p s) (read_enter bytes (ContainerRole shape) p r)
list-begins bytes shape p s r h k is =
    let same : s.lines ≡ shown r.outer r.here =
    text-lines (shown r.outer r.here) s.depth s.lines s.text r.text k is.text in
    record {
      waits = record {
        list = h;
        outer = r.outer;
        before = r.here;
        words = is.words;
        marks = ap (λ (l : List Entry). Some (length l)) same;
        none = is.lined;
        leaf = is.leaf;
        knows = is.known;
      };
      opened = refl;
      empty = refl;
      depth = ap (λ d. d + 1) is.depth;
      text =
          text-stays (shown r.outer r.here) (shown r.outer r.here ++ entry (depth_of r.outer) (word.List 0) ∷ [])
          s.depth (s.depth + 1) s.lines (s.lines ++ entry s.depth (word.List 0) ∷ []) s.text r.text k
          (λ same.
          ap (λ es. es ++ entry s.depth (word.List 0) ∷ []) same
          ∙ ap (λ d. shown r.outer r.here ++ entry d (word.List 0) ∷ []) is.depth)
          is.text;
    }

-- its first item begins
item-begins : (bytes : List ℕ) (shape : Shape) (m : ℕ) (d : List ℕ) (p : Point) (s : OutlineState) (r : Reading) →
    m ≡ 0 → is_unparted s.text ≡ true → AwaitsItem shape s r →
    AwaitsMarker shape (state_enter bytes (role.Container word.Item) p s)
    (read_enter bytes (ContainerRole (ItemShape m d)) p r)
item-begins bytes shape m d p s r zero k is =
    let before : List Entry = shown is.outer is.before in
    let list : Entry = entry (depth_of is.outer) (word.List 0) in
    record {
      waits = is.waits;
      digits = d;
      opened =
          ap (λ (m : ℕ). record { shape = ItemShape m d; before = r.here } ∷ r.outer) zero
          ∙ ap (λ (b : Blocks). record { shape = ItemShape 0 d; before = b } ∷ r.outer) is.empty
          ∙ ap (λ (o : List OpenContainer). record { shape = ItemShape 0 d; before = End } ∷ o) is.opened;
      empty = refl;
      depth = ap (λ d. d + 1) is.depth;
      text =
          text-stays (before ++ list ∷ []) (before ++ list ∷ entry (depth_of is.outer + 1) word.Item ∷ []) s.depth
          (s.depth + 1) s.lines (s.lines ++ entry s.depth word.Item ∷ []) s.text r.text k
          (λ same.
          ap (λ es. es ++ entry s.depth word.Item ∷ []) same
          ∙ ap (λ d. (before ++ list ∷ []) ++ entry d word.Item ∷ []) is.depth
          ∙ append_assoc before (list ∷ []) (entry (depth_of is.outer + 1) word.Item ∷ []))
          is.text;
    }

-- a text begins before its marker
front-begins : (shape : Shape) (p : Point) (s : OutlineState) (r : Reading) → is_unparted s.text ≡ true →
    AwaitsMarker shape s r →
    AwaitsMarker shape
    (record s { text = Some (record { from = byte_at p; is_parted = false }); spaces = columns_left p })
    (record r { text = Some (begun p) })
front-begins shape p s r k is = record {
  waits = is.waits;
  digits = is.digits;
  opened = is.opened;
  empty = is.empty;
  depth = is.depth;
  text = (
    refl,
    (
      text-lines (list_lines is.outer is.before) s.depth s.lines s.text r.text k is.text,
      refl,
    ),
  );
}

-- digits end there
digits-end : (bytes : List ℕ) (shape : Shape) (p : Point) (s : OutlineState) (r : Reading) (span : Option TextSpan)
    (text : Option Text) (is : AwaitsMarker shape s r) →
    TextIs (list_lines is.outer is.before) s.depth s.lines span text →
    is_unparted span ≡ true →
    AwaitsMarker shape (recorded_at bytes purpose.Digits p.index span s) (spelled.recorded_at bytes AsDigits p text r)
digits-end bytes shape p s r None None is h k = is
digits-end bytes shape p s r (Some span) (Some text) is h k = record {
  waits = is.waits;
  digits = first_recorded is.digits (text_to bytes p.index text);
  opened = ap (spelled.on_shape (spelled.named AsDigits (text_to bytes p.index text))) is.opened;
  empty = is.empty;
  depth = is.depth;
  text = text-lines (list_lines is.outer is.before) s.depth s.lines (Some span) (Some text) k h;
}
digits-end bytes shape p s r _ _ is h k = absurd h

-- the marker ends: it is that of the list
abbrev text_or : Text → Option Text → Text
text_or t None = t
text_or t (Some text) = text

marked-agrees : (shape : Shape) (now : List ℕ) (s : OutlineState) (r : Reading) (is : AwaitsMarker shape s r) →
    s.lines ≡ list_lines is.outer is.before →
    marks shape (first_byte now) ≡ true →
    Agrees (marked_at (Some (length (shown is.outer is.before))) now (record s { text = None }))
    (record r {
      text = None;
      here = End;
      outer = record { shape = ItemShape (first_byte now) is.digits; before = End }
          ∷ record { shape = shape; before = is.before } ∷ is.outer;
    })
marked-agrees shape now s r is same m =
    let before : List Entry = shown is.outer is.before in
    let b : ℕ = first_byte now in
    let list : Block = block_around shape (More (Item b is.digits End) End) in
    record {
      depth = is.depth;
      words = (tt, (item-recorded shape b is.digits is.list m, words-then is.outer is.before list is.words));
      untold = refl;
      leaf = is.leaf;
      lined = is.none;
      known = is.knows;
      text =
          ap (with_marker (length before) now) same
          ∙ entry-marked before (entry (depth_of is.outer + 1) word.Item ∷ []) (depth_of is.outer) (length before) now
          refl
          ∙ ap (λ es. before ++ es) (sym (item-lines shape (depth_of is.outer) b is.digits is.list m))
          ∙ sym (shown-then is.outer is.before list is.words);
    }

marker-ends : (bytes : List ℕ) (shape : Shape) (p q : Point) (s : OutlineState) (r : Reading) (span : Option TextSpan)
    (text : Option Text) (is : AwaitsMarker shape s r) → text ≡ Some (begun q) →
    TextIs (list_lines is.outer is.before) s.depth s.lines span text →
    is_unparted span ≡ true → marks shape (first_byte (slice_range bytes (byte_at q) p.index)) ≡ true →
    Agrees (recorded_at bytes purpose.Marker p.index span s) (spelled.recorded_at bytes AsItemMarker p text r)
marker-ends bytes shape p q s r span None is e h k m = absurd (no-none (begun q) e)
  where
    no-none : (t : Text) → None ≡ Some t → ⊥
    no-none t e = subst (λ (x : Option Text). elim x as (λ _. Type 0) [ None ↦ Unit {0} | Some y ↦ ⊥ ]) e tt
marker-ends bytes shape p q s r None (Some text) is e h k m = absurd h
marker-ends bytes shape p q s r (Some span) (Some text) is e h k m =
    let now : List ℕ = slice_range bytes (byte_at q) p.index in
    let same : text ≡ begun q = ap (text_or text) e in
    let from : span.from ≡ byte_at q = sym h.0 ∙ ap (λ (t : Text). t.from) same in
    subst
    (λ untold.
    Agrees (marked_at untold (slice_range bytes span.from p.index) (record s { text = None }))
    (spelled.recorded_at bytes AsItemMarker p (Some text) r))
    (sym is.marks)
    (subst
    (λ i.
    Agrees
    (marked_at (Some (length (shown is.outer is.before))) (slice_range bytes i p.index) (record s { text = None }))
    (spelled.recorded_at bytes AsItemMarker p (Some text) r))
    (sym from)
    (subst
    (λ (t : Text).
    Agrees (marked_at (Some (length (shown is.outer is.before))) now (record s { text = None }))
    (spelled.recorded_at bytes AsItemMarker p (Some t) r))
    (sym same)
    (subst
    (λ (o : List OpenContainer).
    Agrees (marked_at (Some (length (shown is.outer is.before))) now (record s { text = None }))
    (record r { text = None; outer = spelled.on_shape (spelled.named AsItemMarker now) o }))
    (sym is.opened)
    (subst
    (λ (here : Blocks).
    Agrees (marked_at (Some (length (shown is.outer is.before))) now (record s { text = None }))
    (record r {
      text = None;
      here = here;
      outer = record { shape = ItemShape (first_byte now) is.digits; before = End }
          ∷ record { shape = shape; before = is.before } ∷ is.outer;
    }))
    (sym is.empty)
    (marked-agrees shape now s r is
    (text-lines (list_lines is.outer is.before) s.depth s.lines (Some span) (Some text) k h)
    m)))))

-- All events.

-- what agrees still does after an event
pub agrees-stage : (bytes : List ℕ) (stage : Stage) (kind : Kind) (x : spelled.Role) (p : Point) (s : OutlineState)
    (r : Reading) → is_listed x ≡ true → IsFresh x → parts_by bytes kind x p s.text ≡ true →
    are_shallow (read_by bytes kind x p r).here ≡ true → MayFollow bytes stage kind x p → AgreesAt stage s r →
    AgreesAt (stage_by stage kind x p) (state_by bytes kind (shown_as x) p s) (read_by bytes kind x p r)
agrees-stage bytes AllRecorded Enter (ContainerRole OrderedShape) p s r h fresh k d may is =
    list-begins bytes OrderedShape p s r tt (apart bytes Enter (ContainerRole OrderedShape) p s.text (λ t. refl) k) is
agrees-stage bytes AllRecorded Enter (ContainerRole UnorderedShape) p s r h fresh k d may is =
    list-begins bytes UnorderedShape p s r tt
    (apart bytes Enter (ContainerRole UnorderedShape) p s.text (λ t. refl) k) is
agrees-stage bytes AllRecorded Exit (ContainerRole OrderedShape) p s r h fresh k d may is =
    agrees-left s r r.outer refl (apart bytes Exit (ContainerRole OrderedShape) p s.text (λ t. refl) k) is
agrees-stage bytes AllRecorded Exit (ContainerRole UnorderedShape) p s r h fresh k d may is =
    agrees-left s r r.outer refl (apart bytes Exit (ContainerRole UnorderedShape) p s.text (λ t. refl) k) is
agrees-stage bytes AllRecorded Enter (ContainerRole (FootnoteShape label)) p s r h fresh k d may is = (
  agrees-step bytes Enter (ContainerRole (FootnoteShape label)) p s r h fresh k d tt is,
  awaits-label label r fresh is.words,
)
agrees-stage bytes AllRecorded Enter x p s r h fresh k d may is = agrees-step bytes Enter x p s r h fresh k d may is
agrees-stage bytes AllRecorded Exit x p s r h fresh k d may is = agrees-step bytes Exit x p s r h fresh k d may is
agrees-stage bytes (AtItem shape) Enter (ContainerRole (ItemShape m digits)) p s r h fresh k d may is =
    item-begins bytes shape m digits p s r may
    (apart bytes Enter (ContainerRole (ItemShape m digits)) p s.text (λ t. refl) k) is
agrees-stage bytes (AtItem shape) _ _ p s r h fresh k d may is = absurd may
agrees-stage bytes (AtMarker shape) Enter IsQuiet p s r h fresh k d may is = is
agrees-stage bytes (AtMarker shape) Exit IsQuiet p s r h fresh k d may is = is
agrees-stage bytes (AtMarker shape) Enter (TextRole AsDigits) p s r h fresh k d may is =
    front-begins shape p s r (apart bytes Enter (TextRole AsDigits) p s.text (λ t. refl) k) is
agrees-stage bytes (AtMarker shape) Exit (TextRole AsDigits) p s r h fresh k d may is =
    digits-end bytes shape p s r s.text r.text is is.text
    (apart bytes Exit (TextRole AsDigits) p s.text (λ t. refl) k)
agrees-stage bytes (AtMarker shape) Enter (TextRole AsItemMarker) p s r h fresh k d may is =
    (front-begins shape p s r (apart bytes Enter (TextRole AsItemMarker) p s.text (λ t. refl) k) is, refl)
agrees-stage bytes (AtMarker shape) _ _ p s r h fresh k d may is = absurd may
agrees-stage bytes (InMarker shape q) Exit (TextRole AsItemMarker) p s r h fresh k d may is =
    marker-ends bytes shape p q s r s.text r.text is.0 is.1 is.0.text
    (apart bytes Exit (TextRole AsItemMarker) p s.text (λ t. refl) k) may
agrees-stage bytes (InMarker shape q) _ _ p s r h fresh k d may is = absurd may
agrees-stage bytes AtLabel Enter IsPrefix p s r h fresh k d may is =
    (agrees-step bytes Enter IsPrefix p s r refl tt k d tt is.0, is.1)
agrees-stage bytes AtLabel Exit IsPrefix p s r h fresh k d may is =
    (agrees-step bytes Exit IsPrefix p s r refl tt k d tt is.0, is.1)
agrees-stage bytes AtLabel Enter IsEnding p s r h fresh k d may is = is
agrees-stage bytes AtLabel Exit IsEnding p s r h fresh k d may is = (
  agrees-step bytes Exit IsEnding p s r refl tt k d tt is.0,
  by-ending (λ now. AwaitsLabel now.outer now.here) bytes p r.text r is.1 is.1,
)
agrees-stage bytes AtLabel Enter IsQuoteMarker p s r h fresh k d may is = (
  agrees-step bytes Enter IsQuoteMarker p s r refl tt k d tt is.0,
  by-marker (λ now. AwaitsLabel now.outer now.here) bytes p r is.1
      (λ kind. awaits-given kind r.outer r.here is.1),
)
agrees-stage bytes AtLabel Exit IsQuoteMarker p s r h fresh k d may is = is
agrees-stage bytes AtLabel Enter IsQuiet p s r h fresh k d may is = is
agrees-stage bytes AtLabel Exit IsQuiet p s r h fresh k d may is = is
agrees-stage bytes AtLabel Enter (TextRole AsFootnoteLabel) p s r h fresh k d may is =
    (agrees-begun p s r (apart bytes Enter (TextRole AsFootnoteLabel) p s.text (λ t. refl) k) is.0, is.1)
agrees-stage bytes AtLabel Exit (TextRole AsFootnoteLabel) p s r h fresh k d may is =
    label-ends bytes p s r s.text r.text is.1 is.0.text
    (apart bytes Exit (TextRole AsFootnoteLabel) p s.text (λ t. refl) k) is.0
agrees-stage bytes AtLabel _ _ p s r h fresh k d may is = absurd may

-- where no container is open, the lines are those of the tree
none-opened : (outer : List OpenContainer) (a : OpenContainer) (arounds : List OpenContainer) → outer ≡ a ∷ arounds →
    outer ≡ [] → ⊥
none-opened outer a arounds h e =
    let same : depth_of arounds + 1 ≡ 0 = ap depth_of (sym h ∙ e) in
    omega (arith, same)

recorded-closed : (s : OutlineState) (r : Reading) → r.outer ≡ [] → is_unparted s.text ≡ true → Agrees s r →
    s.lines ≡ outline 0 r.here
recorded-closed s r e k is =
    text-lines (shown r.outer r.here) s.depth s.lines s.text r.text k is.text ∙ ap (λ outer. shown outer r.here) e

pub lines-closed : (stage : Stage) (s : OutlineState) (r : Reading) → r.outer ≡ [] → is_unparted s.text ≡ true →
    AgreesAt stage s r → s.lines ≡ outline 0 r.here
lines-closed AllRecorded s r e k is = recorded-closed s r e k is
lines-closed (AtItem shape) s r e k is =
    absurd (none-opened r.outer (record { shape = shape; before = is.before }) is.outer is.opened e)
lines-closed (AtMarker shape) s r e k is =
    absurd
    (none-opened r.outer (record { shape = ItemShape 0 is.digits; before = End })
    (record { shape = shape; before = is.before } ∷ is.outer) is.opened e)
lines-closed (InMarker shape q) s r e k is =
    absurd
    (none-opened r.outer (record { shape = ItemShape 0 is.0.digits; before = End })
    (record { shape = shape; before = is.0.before } ∷ is.0.outer) is.0.opened e)
lines-closed AtLabel s r e k is = recorded-closed s r e k is.0
