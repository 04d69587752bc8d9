-- The events before the content of a list item, by the cells of a line, have names of prefixes and of containers.
use Rattle.std.proofs.Common.{Bool, true, false, cond, not, ◌&&◌, ◌||◌, nat_lt, ℕ, List, [], ◌∷◌, ◌++◌, Option, Some}
use Rattle.std.proofs.Common.{None, refl}
use Rattle.std.specs.Prelude.{◌==◌, nat_le}
use Rattle.md_engine.specs.declared.configuration.ParseOptions.{ParseOptions}
use Rattle.md_engine.specs.declared.event.Event.{Event}
use Rattle.md_engine.specs.declared.event.Name.TheVariants as n
use Rattle.md_engine.specs.declared.event.Point.{Point}
use Rattle.md_engine.specs.Meaning.{Cell}
use Rattle.md_containers.specs.Item.{ends_value}
use Rattle.md_containers.specs.ItemPrefix.{ItemPassed, Padded, digits_of, item_after, item_further, item_marked}
use Rattle.md_containers.specs.ItemPrefix.{item_new, item_numbered, item_padded, item_valued, padding, padding_room}
use Rattle.md_containers.specs.ItemRule.{digits_end, digits_rest, digits_size}
use Rattle.md_containers.specs.QuoteRule.{indent_events}
use Rattle.md_meaning.specs.Containers.{is_bullet, is_digit}
use Rattle.md_meaning.specs.Leaves.{is_rule}
use Rattle.md_meaning.specs.Rest.{is_blank}
use Rattle.md_events.specs.Ahead.{begins_white, line_bytes, white_end, white_rest, white_size}
use Rattle.md_events.specs.Events.Nested.{enter, exit, pair}
use Rattle.md_events.specs.Look.{first_seen}
use Rattle.md_events.specs.Spaces.{ends_line, small_indent}
use Rattle.proof_container_laws.proofs.BlockQuote.Cells.{white-front}
use Rattle.proof_frame.proofs.EachEvent.{each-append}
use Rattle.proof_frame.proofs.PrefixNames.{AreFront, IsFrontEvent}

-- those of an item, if one opens or continues
abbrev pub HasFront : Option ItemPassed → Type 0
HasFront None = Unit {0}
HasFront (Some t) = AreFront t.events

pub front-if : (x : Bool) (a b : Option ItemPassed) → HasFront a → HasFront b → HasFront (cond x a b)
front-if true a b h k = h
front-if false a b h k = k

-- those of the columns after its marker, if it may be there
abbrev PaddingFront : Option Padded → Type 0
PaddingFront None = Unit {0}
PaddingFront (Some t) = AreFront t.events

padding-if : (x : Bool) (a b : Option Padded) → PaddingFront a → PaddingFront b → PaddingFront (cond x a b)
padding-if true a b h k = h
padding-if false a b h k = k

padding-front : (cells : List Cell) (p : Point) → PaddingFront (padding cells p)
padding-front cells p =
    padding-if (is_blank (line_bytes cells)) _ _ tt
    (padding-if (begins_white cells) _ _ (white-front true p (white_end (padding_room cells) cells p)) tt)

-- after its marker,
marked-front : (interrupting : Bool) (from : Point) (digits : List ℕ) (front : List Event) (c : Cell) (cs : List Cell)
    (p : Point) →
    AreFront front → HasFront (item_marked interrupting from digits front c cs p)
marked-front interrupting from digits front c cs p h = go (padding cs c.after) (padding-front cs c.after)
  where
    before : List Event
    before = front ++ pair n.ListItemMarker p c.after

    marked : AreFront before
    marked = each-append IsFrontEvent front (pair n.ListItemMarker p c.after) h ((refl, refl), ((refl, refl), tt))

    go : (o : Option Padded) → PaddingFront o → HasFront (item_padded interrupting from digits c.byte before o)
    go None k = tt
    go (Some t) k =
        front-if (t.blank && interrupting) _ _ tt
        (each-append IsFrontEvent (before ++ t.events) (exit n.ListItemPrefix t.point ∷ [])
        (each-append IsFrontEvent before t.events marked k) ((refl, refl), tt))

-- after its digits,
numbered-front : (interrupting : Bool) (from : Point) (digits : List ℕ) (size : ℕ) (front : List Event)
    (cells : List Cell) (p : Point) →
    AreFront front → HasFront (item_numbered interrupting from digits size front cells p)
numbered-front interrupting from digits size front [] p h = tt
numbered-front interrupting from digits size front (c ∷ cs) p h =
    front-if (ends_value c.byte && (not interrupting || nat_lt size 2)) _ _
    (marked-front interrupting from digits front c cs p h) tt

-- after its indent,
following-front : (options : ParseOptions) (interrupting : Bool) (from : Point) (front : List Event) (cells : List Cell)
    (p : Point) →
    AreFront front → HasFront (item_after options interrupting from front cells p)
following-front options interrupting from front [] p h = tt
following-front options interrupting from front (c ∷ cs) p h =
    front-if (is_bullet c.byte) _ _
    (front-if (options.constructs.thematic_break && is_rule (line_bytes (c ∷ cs))) _ _ tt
    (marked-front interrupting from [] (front ++ enter n.ListItemPrefix p ∷ []) c cs p
    (each-append IsFrontEvent front (enter n.ListItemPrefix p ∷ []) h ((refl, refl), tt))))
    (front-if (is_digit c.byte && (not interrupting || (c.byte == 49))) _ _ (valued (c ∷ cs)) tt)
  where
    valued : (cells : List Cell) → HasFront (item_valued interrupting from front cells p)
    valued cells =
        let q = digits_end 9 cells p in
        let es : List Event = enter n.ListItemPrefix p ∷ pair n.ListItemValue p q in
        numbered-front interrupting from (digits_of 9 cells) (digits_size 9 cells) (front ++ es) (digits_rest 9 cells) q
        (each-append IsFrontEvent front es h ((refl, refl), ((refl, refl), ((refl, refl), tt))))

-- and where it begins
pub new-front : (options : ParseOptions) (interrupting : Bool) (cells : List Cell) (p : Point) →
    HasFront (item_new options interrupting cells p)
new-front options interrupting cells p =
    front-if options.constructs.list_item _ _
    (following-front options interrupting p (enter n.ListItem p ∷ indent_events options cells p)
    (white_rest (small_indent options) cells) (white_end (small_indent options) cells p)
    ((refl, refl), white-front (begins_white cells) p (white_end (small_indent options) cells p)))
    tt

-- on a further line it adds no more than whitespace
pub further-front : (digits : List ℕ) (marker width : ℕ) (blank : Bool) (cells : List Cell) (p : Point) →
    HasFront (item_further digits marker width blank cells p)
further-front digits marker width blank cells p =
    front-if (ends_line (first_seen cells)) _ _ (front-if blank _ _ tt tt)
    (front-if (cond (is_blank (line_bytes cells)) (not blank) (nat_le width (white_size width cells))) _ _
    (white-front true p (white_end width cells p)) tt)
