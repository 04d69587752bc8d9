-- A list item from its marker on, by the cells of a line and by the definition of lines.
use Rattle.std.proofs.Common.{◌≡◌, ℕ, suc, ◌+◌, ◌-◌, ◌<◌, ◌≤◌, Bool, true, false, cond, not, ◌&&◌, ◌||◌, List, []}
use Rattle.std.proofs.Common.{◌∷◌, ◌++◌, length, Option, Some, None, refl, sym, ap, ap₂, ◌∙◌, subst, arith}
use Rattle.std.proofs.Common.{append_assoc, nat_eq}
use Rattle.std.proofs.lemmas.Bool.Decides.{nat_tests}
use Rattle.md_engine.specs.declared.configuration.ParseOptions.{ParseOptions}
use Rattle.md_engine.specs.declared.event.Event.{Event}
use Rattle.md_engine.specs.declared.event.Name.TheVariants as n
use Rattle.md_engine.specs.declared.event.Point.{Point}
use Rattle.md_engine.specs.declared.tokenizer.Line.{Line}
use Rattle.md_engine.specs.Meaning.{Cell}
use Rattle.md_containers.specs.Item.{at_least_one, width_here}
use Rattle.md_containers.specs.ItemPrefix.{ItemPassed, Padded, item_marked, item_padded, padding}
use Rattle.md_containers.proofs.ItemDigits.{byte-following, spread-one}
use Rattle.md_containers.proofs.ItemLines.{HasPadding, ItemAgrees, LeavesRest, PaddingIs, padding-is}
use Rattle.md_events.proofs.LostColumns.{White}
use Rattle.md_meaning.specs.Containers.{Marker, Taken, item_padding, item_with, may_interrupt}
use Rattle.md_meaning.specs.Leaves.{is_rule}
use Rattle.md_meaning.specs.Rest.{Rest, following, is_blank, is_parted, is_white, lose}
use Rattle.md_meaning.specs.State.{InItem}
use Rattle.md_meaning.proofs.TextsLemmas.{NoEnding}
use Rattle.md_events.specs.Ahead.{white_end}
use Rattle.md_events.specs.Events.Inline.{pair_unless_empty}
use Rattle.md_events.specs.Events.Nested.{exit, pair}
use Rattle.md_events.specs.Events.Places.{past_byte, past_text}
use Rattle.md_events.proofs.FeedLines.{Stops, cell, spread}
use Rattle.md_events.proofs.RestCells.{RestAt, lose-no_ending, rest_cells}

abbrev rest : ℕ → List ℕ → Rest
rest column bytes = record { column = column; spaces = 0; bytes = bytes }

-- what is left of these bytes after the padding at their front, and where that is
pub record PaddedFrom (line : Line) (text past bytes : List ℕ) (p : Point) (stop : List Cell) (end : Point)
    (left : Rest) : Type 0 where
  pub column : ℕ
  pub valid : RestAt text past (rest column bytes) p
  pub end_is : end ≡ white_end (item_padding (rest column bytes)) (rest_cells line (rest column bytes) p ++ stop) p
  pub left_is : left ≡ lose (item_padding (rest column bytes)) (rest column bytes)

-- a marker, the padding after it, and what is left of the line
pub record HasItemMarker (line : Line) (text past digits : List ℕ) (byte : ℕ) (bytes : List ℕ) (p : Point)
    (stop : List Cell) (front : List Event) (passed : ItemPassed) (taken : Taken) : Type 0 where
  pub leaves :
      LeavesRest line text past (past_text (byte ∷ bytes) p) stop (spread line (byte ∷ bytes) p ++ stop) passed taken
  pub item : (width : ℕ) × (blank : Bool) × (passed.container ≡ InItem digits byte width blank)
  pub fewer : length passed.cells < length (spread line (byte ∷ bytes) p ++ stop)
  pub events : passed.events ≡
      front
      ++ (pair n.ListItemMarker p (past_byte byte p)
      ++ (pair_unless_empty n.SpaceOrTab (past_byte byte p) passed.point ++ exit n.ListItemPrefix passed.point ∷ []))
  pub white : White text (past_byte byte p) passed.point
  pub padded : PaddedFrom line text past bytes (past_byte byte p) stop passed.point taken.rest

one-least : (columns : ℕ) → 1 ≤ columns → at_least_one columns ≡ columns
one-least columns some =
    let e : nat_eq columns 0 ≡ false = grind (arith, nat_tests) in ap (λ (x : Bool). cond x 1 columns) e

-- What is known at a marker: it begins no break, and whether it may interrupt text shows its rest.
pub record MayMark (options : ParseOptions) (interrupting : Bool) (from : Rest) (digits : List ℕ) (byte column : ℕ)
    (bytes : List ℕ) : Type 0 where
  pub after : following (length digits + 1) from ≡ rest (column + 1) bytes
  pub no_break : options.constructs.thematic_break && is_rule from.bytes ≡ false
  pub interrupts :
      (not interrupting || may_interrupt (record { digits = digits; byte = byte }) (rest (column + 1) bytes)) ≡
      (not interrupting || not (is_blank bytes))

pub marked-agrees : (options : ParseOptions) (interrupting : Bool) (line : Line) (text past : List ℕ)
    (column byte : ℕ) (bytes : List ℕ) (q : Point) (stop : List Cell) (p : Point) (before : ℕ) (from : Rest)
    (digits : List ℕ) (front : List Event) →
    RestAt text past (rest column (byte ∷ bytes)) q → NoEnding bytes → Stops stop → is_white byte ≡ false →
    q.column ≡ p.column + before + length digits → MayMark options interrupting from digits byte column bytes →
    ItemAgrees (HasItemMarker line text past digits byte bytes q stop front)
    (item_marked interrupting p digits front (cell byte (past_byte byte q) line)
    (spread line bytes (past_byte byte q) ++ stop) q)
    (item_with options interrupting before from (following (length digits + 1) from)
    (record { digits = digits; byte = byte }))
marked-agrees options interrupting line text past column byte bytes q stop p before from digits front is h k dark at
    may =
    subst
    (λ (r : Rest).
    Agrees (item_marked interrupting p digits front (cell byte q' line) cells q)
    (item_with options interrupting before from r marker))
    (sym may.after)
    (subst (Agrees (item_marked interrupting p digits front (cell byte q' line) cells q)) (sym defined)
    (go (is_parted bytes) (padding cells q') (padding-is line text past (column + 1) bytes q' stop valid h k)))
  where
    marker : Marker
    marker = record { digits = digits; byte = byte }

    q' : Point
    q' = past_byte byte q

    r : Rest
    r = rest (column + 1) bytes

    cells : List Cell
    cells = spread line bytes q' ++ stop

    valid : RestAt text past r q'
    valid = byte-following text past column byte bytes q dark is

    Agrees : Option ItemPassed → Option Taken → Type 0
    Agrees o t = ItemAgrees (HasItemMarker line text past digits byte bytes q stop front) o t

    width : ℕ
    width = before + length digits + 1 + item_padding r + cond (is_blank bytes) 1 0

    left : Taken
    left = record { container = InItem digits byte width (is_blank bytes); rest = lose (item_padding r) r }

    speaks : Bool
    speaks = not interrupting || not (is_blank bytes)

    defined : item_with options interrupting before from r marker ≡
        cond (is_parted bytes && true && speaks) (Some left) None
    defined =
        ap
        (λ (x : Bool).
        cond (is_parted bytes && not x && (not interrupting || may_interrupt marker r)) (Some left) None)
        may.no_break
        ∙ ap (λ (x : Bool). cond (is_parted bytes && true && x) (Some left) None) may.interrupts

    events : List Event
    events = front ++ pair n.ListItemMarker q q'

    -- the item with this padding
    item : Padded → ItemPassed
    item t = record {
      container = InItem digits byte (width_here t.point.column p.column t.blank) t.blank;
      events = (events ++ t.events) ++ exit n.ListItemPrefix t.point ∷ [];
      cells = t.cells;
      point = t.point;
    }

    wide : (t : Padded) → HasPadding line text past (item_padding r) r q' stop cells t →
        width_here t.point.column p.column t.blank ≡ width
    wide t has =
        let point = has.valid.column in
        let lost = has.column in
        let start = is.column in
        let columns : t.point.column - p.column ≡
        before + length digits + 1 + item_padding r = omega (arith, point, lost, start, at) in
        ap₂ (λ (c : ℕ) (b : Bool). at_least_one (c + cond b 1 0)) columns has.blank
        ∙ one-least width (omega arith)

    found : (t : Padded) → HasPadding line text past (item_padding r) r q' stop cells t →
        HasItemMarker line text past digits byte bytes q stop front (item t) left
    found t has =
        let size : length (spread line (byte ∷ bytes) q ++ stop) ≡
        suc (length cells) = ap length (spread-one line byte bytes q stop dark) in
        record {
          leaves = record {
            container = ap₂ (λ (w : ℕ) (b : Bool). InItem digits byte w b) (wide t has) has.blank;
            fed = has.fed;
            valid = has.valid;
            ends = has.ends;
            no_ending = lose-no_ending (item_padding r) r h;
            shorter = omega (arith, size, has.shorter);
          };
          item = (width_here t.point.column p.column t.blank, t.blank, refl);
          fewer = omega (arith, size, has.shorter);
          events =
              ap (λ (es : List Event). (events ++ es) ++ exit n.ListItemPrefix t.point ∷ []) has.events
              ∙ append_assoc events (pair_unless_empty n.SpaceOrTab q' t.point) (exit n.ListItemPrefix t.point ∷ [])
              ∙ append_assoc front (pair n.ListItemMarker q q')
              (pair_unless_empty n.SpaceOrTab q' t.point ++ exit n.ListItemPrefix t.point ∷ []);
          white = has.white;
          padded = record { column = column + 1; valid = valid; end_is = has.point_is; left_is = refl };
        }

    -- by whether the rest is blank, and the item would interrupt text
    either : (t : Padded) → HasPadding line text past (item_padding r) r q' stop cells t → (b i : Bool) →
        Agrees (cond (b && i) None (Some (item t))) (cond (not i || not b) (Some left) None)
    either t has true true = tt
    either t has true false = found t has
    either t has false true = found t has
    either t has false false = found t has

    go : (parted : Bool) (o : Option Padded) → PaddingIs line text past r q' stop cells parted o →
        Agrees (item_padded interrupting p digits byte events o) (cond (parted && true && speaks) (Some left) None)
    go true (Some t) has =
        subst
        (λ (b : Bool). Agrees (cond (b && interrupting) None (Some (item t))) (cond speaks (Some left) None))
        (sym has.blank) (either t has (is_blank bytes) interrupting)
    go true None has = absurd has
    go false (Some t) has = absurd has
    go false None has = tt
