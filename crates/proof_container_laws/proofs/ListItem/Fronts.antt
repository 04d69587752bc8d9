-- A list item continues and opens by the cells of a line where it does by its bytes.
use Rattle.std.proofs.Common.{◌≡◌, ℕ, zero, suc, ◌+◌, ◌<◌, ◌≤◌, Bool, true, false, cond, List, [], ◌∷◌, ◌++◌}
use Rattle.std.proofs.Common.{Option, Some, None, drop, slice_range, refl, ap, sym, ◌∙◌, subst, arith}
use Rattle.std.specs.Prelude.{◌==◌, nat_le, not}
use Rattle.std.proofs.lemmas.Bool.{eq-eqb, ne_eqb}
use Rattle.md_engine.specs.declared.configuration.ParseOptions.{ParseOptions}
use Rattle.md_engine.specs.declared.event.Event.{Event}
use Rattle.md_engine.specs.declared.event.Name.TheVariants as n
use Rattle.md_engine.specs.declared.event.Point.{Point}
use Rattle.md_engine.specs.declared.tokenizer.Line.{Line}
use Rattle.md_engine.specs.declared.tokenizer.container.Container.{Container as Held}
use Rattle.md_engine.specs.declared.tokenizer.container.name.ContainerKind.TheVariants as kind
use Rattle.md_engine.specs.Meaning.{Cell}
use Rattle.md_engine.specs.World.{container_of}
use Rattle.md_containers.specs.ItemPrefix.{ItemPassed, held_as, item_further, item_new}
use Rattle.md_containers.proofs.ItemHeld.{IsHeld, further-held, new-held}
use Rattle.md_containers.proofs.ItemLines.{ContinuesFurther, ItemAgrees, LeavesRest, further-agrees}
use Rattle.md_containers.proofs.ItemOpens.{OpensItem, opens-agrees, prefix_of}
use Rattle.md_meaning.specs.Containers.{Taken, continues, item_continues, opens_item}
use Rattle.md_meaning.specs.Rest.{Rest, cut_tab, is_blank}
use Rattle.md_meaning.specs.State.{Container, InItem}
use Rattle.md_events.specs.Ahead.{begins_white, line_bytes, white_end, white_size}
use Rattle.md_events.specs.Events.Inline.{pair_unless_empty}
use Rattle.md_events.specs.Events.Nested.{around, enter}
use Rattle.md_events.specs.Events.Places.{past_byte, past_text, same_place}
use Rattle.md_events.specs.Look.{first_seen}
use Rattle.md_events.specs.Spaces.{ends_line}
use Rattle.md_events.proofs.AheadLemmas.{none-end}
use Rattle.md_events.proofs.FeedLines.{Stops, slice-front}
use Rattle.md_events.proofs.InlineLemmas.{same-refl}
use Rattle.md_events.proofs.LostColumns.{HasLost, lose-walk}
use Rattle.md_events.proofs.RestCells.{Cut, RestAt, past_rest, rest_cells}
use Rattle.proof_container_laws.specs.Containers.ListItem.{item_passed, item_passes, item_rules}
use Rattle.proof_frame.specs.ContainerNames.{IsOf, container_name}
use Rattle.proof_frame.proofs.ContainerLaws.{ByRest}
use Rattle.proof_container_laws.proofs.ListItem.Facts.{item-continues, item-opens_read}
use Rattle.proof_container_laws.proofs.ListItem.Prefix.{IsFront, TakesColumns, inside_by, no_digits}
use Rattle.proof_container_laws.proofs.ListItem.Trial.{each-held, each-item, wide-one}
use Rattle.proof_frame.proofs.PassedFacts.{Agree, HasFurther, HasOpening, HasPassed}
use Rattle.proof_frame.proofs.PrefixFacts.{OpensRead}
use Rattle.proof_frame.proofs.RegistryRead.{IsRead, of-read}

-- what is held of an item shows its kind
held-read : (held : Held) (o : ItemPassed) → IsHeld held (Some o) → IsRead o.container
held-read held o holds =
    of-read kind.ListItem o.container
    (each-held (held_as held o.container) (IsOf kind.ListItem)
    (λ digits marker width blank e f some. wide-one digits marker width blank some) o.container holds)

-- what an item leaves, where it opens or continues
item-leaves : (line : Line) (text past : List ℕ) (end : Point) (stop cells : List Cell) (held : Held) (o : ItemPassed)
    (t : Taken) → LeavesRest line text past end stop cells o t → IsHeld held (Some o) →
    HasPassed line text past end stop cells (item_passed o) t
item-leaves line text past end stop cells held o t leaves holds = record {
  container = leaves.container;
  read = held-read held o holds;
  fed = leaves.fed;
  valid = leaves.valid;
  ends = leaves.ends;
  no_ending = leaves.no_ending;
  shorter = leaves.shorter;
}

-- A further line.

-- where the rest of a line begins within a tab, the byte there is whitespace
pub rest-cut : (text past : List ℕ) (r : Rest) (q : Point) → RestAt text past r q → (q.vs == 0) ≡ false →
    is_blank (slice_range text q.index (q.index + 1)) ≡ true
rest-cut text past r q is = go r.spaces is.cut is.text_is
  where
    go : (spaces : ℕ) → Cut spaces q → drop q.index text ≡ cut_tab spaces ++ r.bytes ++ past → (q.vs == 0) ≡ false →
        is_blank (slice_range text q.index (q.index + 1)) ≡ true
    go zero whole e cut = let none : true ≡ false = sym (ap (λ (v : ℕ). v == 0) whole) ∙ cut in cc
    go (suc m) within e cut =
        ap is_blank (slice-front text q.index (q.index + 1) (9 ∷ []) (r.bytes ++ past) e (omega arith))

-- what it takes is whitespace, a column at least if there is any
abbrev pub HasColumns : Point → Option ItemPassed → Type 0
HasColumns p None = Unit {0}
HasColumns p (Some o) = TakesColumns p o.point

columns-if : (p : Point) (x : Bool) (a b : Option ItemPassed) → HasColumns p a → HasColumns p b →
    HasColumns p (cond x a b)
columns-if p true a b h k = h
columns-if p false a b h k = k

no-columns : (p : Point) → TakesColumns p p
no-columns p = record { onward = omega arith; same = same-refl p ∙ sym (eq-eqb p.column p.column refl) }

-- whitespace that comes first is a cell of it at least
white-some : (m : ℕ) (cells : List Cell) → 1 ≤ m → begins_white cells ≡ true → 1 ≤ white_size m cells
white-some zero cells some e = absurd (omega arith)
white-some (suc m) [] some e = cc
white-some (suc m) (c ∷ cs) some e = rw e (omega arith)

apart-columns : (p q : Point) → same_place p q ≡ false → p.column < q.column → TakesColumns p q
apart-columns p q e less =
    record { onward = omega arith; same = e ∙ sym (ne_eqb q.column p.column (λ same. omega (arith, same))) }

white-columns : (line : Line) (text past : List ℕ) (width : ℕ) (r : Rest) (p : Point) (stop : List Cell) →
    RestAt text past r p → Stops stop → 1 ≤ width →
    TakesColumns p (white_end width (rest_cells line r p ++ stop) p)
white-columns line text past width r p stop is k some = go (begins_white cells) refl
  where
    cells : List Cell
    cells = rest_cells line r p ++ stop

    q : Point
    q = white_end width cells p

    lost : HasLost line text past width r p stop cells q
    lost = lose-walk line text past width r p stop is k

    go : (x : Bool) → begins_white cells ≡ x → TakesColumns p q
    go true white =
        apart-columns p q (lost.apart some white)
        (omega (arith, is.column, lost.valid.column, lost.column, white-some width cells some white))
    go false dark = subst (TakesColumns p) (sym (none-end width cells p dark)) (no-columns p)

-- one that continues takes these
pub further-columns : (digits : List ℕ) (marker width : ℕ) (blank : Bool) (line : Line) (text past : List ℕ) (r : Rest)
    (p : Point) (stop : List Cell) →
    RestAt text past r p → Stops stop → 1 ≤ width →
    HasColumns p (item_further digits marker width blank (rest_cells line r p ++ stop) p)
further-columns digits marker width blank line text past r p stop is k some =
    columns-if p (ends_line (first_seen cells)) _ _ (columns-if p blank _ _ tt (no-columns p))
    (columns-if p (cond (is_blank (line_bytes cells)) (not blank) (nat_le width (white_size width cells))) _ _
    (white-columns line text past width r p stop is k some) tt)
  where
    cells : List Cell
    cells = rest_cells line r p ++ stop

-- an item continues
pub item-proceeds : (options : ParseOptions) (c : Container) → IsOf kind.ListItem c → ByRest (λ line text past r stop p.
    let cells = rest_cells line r p ++ stop in
    Agree (HasFurther line text past p (past_rest r p) stop cells) (item_rules.proceeds options c cells p)
    (continues options c r))
item-proceeds options c is = each-item (λ d. ByRest (λ line text past r stop p.
    let cells = rest_cells line r p ++ stop in
    Agree (HasFurther line text past p (past_rest r p) stop cells) (item_rules.proceeds options d cells p)
    (continues options d r))) each c is
  where
    each : (digits : List ℕ) (marker width : ℕ) (blank : Bool) → 1 ≤ width → ByRest (λ line text past r stop p.
        let cells = rest_cells line r p ++ stop in
        Agree (HasFurther line text past p (past_rest r p) stop cells)
        (item_passes (item_further digits marker width blank cells p)) (item_continues digits marker width blank r))
    each digits marker width blank some line text past r stop p is h k short =
        go (item_further digits marker width blank cells p) (item_continues digits marker width blank r)
        (further-agrees digits marker width blank some line text past r stop p is h k)
        (further-held held digits marker width blank cells p some)
        (further-columns digits marker width blank line text past r p stop is k some)
      where
        cells : List Cell
        cells = rest_cells line r p ++ stop

        held : Held
        held = container_of kind.ListItem

        go : (o : Option ItemPassed) (t : Option Taken) →
            ItemAgrees (ContinuesFurther line text past p (past_rest r p) stop cells) o t → IsHeld held o →
            HasColumns p o →
            Agree (HasFurther line text past p (past_rest r p) stop cells) (item_passes o) t
        go None None has holds columns = tt
        go None (Some t) has holds columns = absurd has
        go (Some o) None has holds columns = absurd has
        go (Some o) (Some t) has holds columns = record {
          passes = item-leaves line text past (past_rest r p) stop cells held o t has.leaves holds;
          further =
              item-continues text p o.point o.events
              (record {
                events = has.events;
                white = has.white;
                columns = columns;
                cut = rest-cut text past t.rest o.point has.leaves.valid;
              });
        }

-- Where one opens.

-- a prefix is around its value, its marker and what is after that
prefix-around : (digits : List ℕ) (byte : ℕ) (a q : Point) →
    let marker = past_text digits a in
    let following = past_byte byte marker in
    prefix_of digits byte a q ≡
    around n.ListItemPrefix a q (inside_by (no_digits digits) (same_place following q) a marker following q)
prefix-around [] byte a q = refl
prefix-around (d ∷ ds) byte a q = refl

-- after its begin an item has its prefix
item-front : (line : Line) (text past : List ℕ) (p end : Point) (stop cells : List Cell) (o : ItemPassed) (t : Taken) →
    (has : OpensItem line text past p end stop cells o t) →
    IsFront text has.digits has.byte p o.point
    (pair_unless_empty n.SpaceOrTab p has.value ++ prefix_of has.digits has.byte has.value o.point)
item-front line text past p end stop cells o t has = record {
  start = has.value;
  marker = past_text has.digits has.value;
  following = past_byte has.byte (past_text has.digits has.value);
  marker_is = refl;
  following_is = refl;
  more = has.more;
  text_is = has.text_is;
  whole = has.whole;
  marks = has.marker;
  events = ap (λ (l : List Event). pair_unless_empty n.SpaceOrTab p has.value ++ l)
      (prefix-around has.digits has.byte has.value o.point);
  white_before = has.white_before;
  white_after = has.white_after;
}

-- an item opens, if items are on
pub item-begins : (options : ParseOptions) (interrupting : Bool) → ByRest (λ line text past r stop p.
    let cells = rest_cells line r p ++ stop in
    Agree (HasOpening line text past p (past_rest r p) stop cells) (item_rules.opens options interrupting cells p)
    (opens_item options interrupting r))
item-begins options interrupting line text past r stop p is h k short =
    go (item_new options interrupting cells p) (opens_item options interrupting r)
    (opens-agrees options interrupting line text past r stop p is h k short)
    (new-held held options interrupting cells p)
  where
    cells : List Cell
    cells = rest_cells line r p ++ stop

    held : Held
    held = container_of kind.ListItem

    go : (o : Option ItemPassed) (t : Option Taken) →
        ItemAgrees (OpensItem line text past p (past_rest r p) stop cells) o t → IsHeld held o →
        Agree (HasOpening line text past p (past_rest r p) stop cells) (item_passes o) t
    go None None has holds = tt
    go None (Some t) has holds = absurd has
    go (Some o) None has holds = absurd has
    go (Some o) (Some t) has holds =
        let one : o.container ≡ InItem has.digits has.byte has.item.0 has.item.1 = has.item.2 in
        let inside : List Event =
        pair_unless_empty n.SpaceOrTab p has.value ++ prefix_of has.digits has.byte has.value o.point in
        record {
          passes = item-leaves line text past (past_rest r p) stop cells held o t has.leaves holds;
          inside = inside;
          events = has.events ∙ ap (λ (d : Container). enter (container_name d) p ∷ inside) (sym one);
          opening =
              subst (λ (d : Container). OpensRead text d p o.point inside) (sym one)
              (item-opens_read text has.digits has.byte has.item.0 has.item.1 p o.point inside
              (item-front line text past p (past_rest r p) stop cells o t has));
          fewer = has.fewer;
        }
