-- How the tokenizer holds a list item, and where one is refused or continues at once.
use Rattle.std.proofs.Common.{◌≡◌, ℕ, ◌-◌, ◌+◌, ◌≤◌, Bool, true, false, cond, not, ◌&&◌, ◌||◌}
use Rattle.std.proofs.Common.{List, [], ◌∷◌, ◌++◌, Option, Some, None, refl, ◌∙◌, ap, arith, nat_eq, nat_lt}
use Rattle.std.specs.Prelude.{◌==◌, nat_le}
use Rattle.std.proofs.lemmas.Bool.{or_parts}
use Rattle.std.proofs.lemmas.Bool.Decides.{nat_tests}
use Rattle.md_engine.specs.declared.configuration.ParseOptions.{ParseOptions}
use Rattle.md_engine.specs.declared.event.Event.{Event}
use Rattle.md_engine.specs.declared.event.Name.TheVariants.{ListItem, ListItemMarker, ListItemPrefix, ListItemValue}
use Rattle.md_engine.specs.declared.event.Point.{Point}
use Rattle.md_engine.specs.declared.tokenizer.container.Container.{Container as Held}
use Rattle.md_engine.specs.Meaning.{Cell, Here, Refuses}
use Rattle.md_containers.specs.Item.{at_least_one, ends_value, may_begin}
use Rattle.md_containers.specs.ItemPrefix.{ItemPassed, Padded, digits_of, held_as, item_after, item_closed}
use Rattle.md_containers.specs.ItemPrefix.{item_further, item_holds, item_marked, item_new, item_numbered, item_padded}
use Rattle.md_containers.specs.ItemPrefix.{item_valued, padding}
use Rattle.md_containers.specs.ItemRule.{after_indent, digits_end, digits_rest, digits_size, item_at}
use Rattle.md_containers.specs.QuoteRule.{indent_events}
use Rattle.md_containers.proofs.StartLooked.{start-looked}
use Rattle.md_events.proofs.LostColumns.{lose-bare}
use Rattle.md_meaning.specs.Containers.{Taken, is_bullet, is_digit, item_continues}
use Rattle.md_meaning.specs.Leaves.{is_rule}
use Rattle.md_meaning.specs.Preamble.{rest_at}
use Rattle.md_meaning.specs.Rest.{is_blank, is_white}
use Rattle.md_meaning.specs.State.{InItem}
use Rattle.md_events.specs.Ahead.{line_bytes, white_end, white_rest, white_size}
use Rattle.md_events.specs.Events.Nested.{enter, pair}
use Rattle.md_events.specs.Look.{first_seen, seen_after}
use Rattle.md_events.specs.Spaces.{IsRest, ends_line, small_indent}

-- What is held.

-- the item, if one opens or continues, is held as it is
abbrev pub IsHeld : Held → Option ItemPassed → Type 0
IsHeld held None = Unit {0}
IsHeld held (Some t) = item_holds (held_as held t.container) t.container

wide : (columns : ℕ) → 1 ≤ at_least_one columns
wide columns = go (nat_eq columns 0) refl
  where
    go : (x : Bool) → nat_eq columns 0 ≡ x → 1 ≤ cond x 1 columns
    go true e = omega arith
    go false e = grind (arith, nat_tests)

held-if : (held : Held) (x : Bool) (a b : Option ItemPassed) → IsHeld held a → IsHeld held b → IsHeld held (cond x a b)
held-if held true a b h k = h
held-if held false a b h k = k

closed-held : (held : Held) (interrupting : Bool) (from : Point) (digits : List ℕ) (byte : ℕ) (front : List Event)
    (blank : Bool) (cells : List Cell) (p : Point) →
    IsHeld held (item_closed interrupting from digits byte front blank cells p)
closed-held held interrupting from digits byte front blank cells p =
    held-if held (blank && interrupting) _ _ tt
    (refl, refl, wide (p.column - from.column + cond blank 1 0))

marked-held : (held : Held) (interrupting : Bool) (from : Point) (digits : List ℕ) (front : List Event) (c : Cell)
    (cs : List Cell) (p : Point) →
    IsHeld held (item_marked interrupting from digits front c cs p)
marked-held held interrupting from digits front c cs p = go (padding cs c.after)
  where
    front' : List Event
    front' = front ++ pair ListItemMarker p c.after

    go : (o : Option Padded) → IsHeld held (item_padded interrupting from digits c.byte front' o)
    go None = tt
    go (Some t) = closed-held held interrupting from digits c.byte (front' ++ t.events) t.blank t.cells t.point

numbered-held : (held : Held) (interrupting : Bool) (from : Point) (digits : List ℕ) (size : ℕ) (front : List Event)
    (cells : List Cell) (p : Point) →
    IsHeld held (item_numbered interrupting from digits size front cells p)
numbered-held held interrupting from digits size front [] p = tt
numbered-held held interrupting from digits size front (c ∷ cs) p =
    held-if held (ends_value c.byte && (not interrupting || nat_lt size 2)) _ _
    (marked-held held interrupting from digits front c cs p) tt

following-held : (held : Held) (options : ParseOptions) (interrupting : Bool) (from : Point) (front : List Event)
    (cells : List Cell) (p : Point) →
    IsHeld held (item_after options interrupting from front cells p)
following-held held options interrupting from front [] p = tt
following-held held options interrupting from front (c ∷ cs) p =
    held-if held (is_bullet c.byte) _ _
    (held-if held (options.constructs.thematic_break && is_rule (line_bytes (c ∷ cs))) _ _ tt
    (marked-held held interrupting from [] _ c cs p))
    (held-if held (is_digit c.byte && (not interrupting || (c.byte == 49))) _ _
    (valued-held (c ∷ cs)) tt)
  where
    valued-held : (cells : List Cell) → IsHeld held (item_valued interrupting from front cells p)
    valued-held cells =
        numbered-held held interrupting from (digits_of 9 cells) (digits_size 9 cells)
        (front ++ enter ListItemPrefix p ∷ pair ListItemValue p (digits_end 9 cells p)) (digits_rest 9 cells)
        (digits_end 9 cells p)

pub new-held : (held : Held) (options : ParseOptions) (interrupting : Bool) (cells : List Cell) (p : Point) →
    IsHeld held (item_new options interrupting cells p)
new-held held options interrupting cells p =
    held-if held options.constructs.list_item _ _
    (following-held held options interrupting p (enter ListItem p ∷ indent_events options cells p)
    (white_rest (small_indent options) cells) (white_end (small_indent options) cells p))
    tt

pub further-held : (held : Held) (digits : List ℕ) (marker width : ℕ) (blank : Bool) (cells : List Cell) (p : Point) →
    1 ≤ width → IsHeld held (item_further digits marker width blank cells p)
further-held held digits marker width blank cells p some =
    held-if held (ends_line (first_seen cells)) _ _ (held-if held blank _ _ tt (refl, refl, some))
    (held-if held (cond (is_blank (line_bytes cells)) (not blank) (nat_le width (white_size width cells))) _ _
    (refl, refl, some) tt)

-- Where another byte than a marker or a digit is first after whitespace, no item opens, and all is left as it was.

dark-refused : (options : ParseOptions) (cells : List Cell) (h : Here) (b : ℕ) → first_seen cells ≡ Some b →
    may_begin b ≡ false → after_indent options cells h ≡ Refuses h.scratch h.flags
unfolding after_indent
dark-refused options [] h b e f = refl
dark-refused options (c ∷ cs) h b e f =
    let same : c.byte ≡ b = cc in
    let parts = or_parts (is_bullet b) (is_digit b) f in
    let bullet : is_bullet c.byte ≡ false = ap is_bullet same ∙ parts.0 in
    let digit : is_digit c.byte ≡ false = ap is_digit same ∙ parts.1 in
    rw (bullet, digit) refl

white-dark : (c : ℕ) → is_white c ≡ true → may_begin c ≡ false
white-dark c white = grind (arith, nat_tests)

pub item-looked : (options : ParseOptions) (cells : List Cell) (h : Here) (b : ℕ) → IsRest h.scratch →
    seen_after cells ≡ Some b → may_begin b ≡ false → item_at options cells h ≡ Refuses h.scratch h.flags
item-looked options cells h b is seen e =
    start-looked ListItem options.constructs.list_item (after_indent options) may_begin options cells h b
    (dark-refused options) white-dark is seen e

-- By the line definition an item continues over an empty line, and takes nothing, unless it started blank.
pub item-empty : (digits : List ℕ) (marker width : ℕ) (blank : Bool) (column : ℕ) →
    item_continues digits marker width blank (rest_at column []) ≡
    cond (not blank) (Some (record { container = InItem digits marker width blank; rest = rest_at column [] })) None
unfolding item_continues
item-empty digits marker width true column = refl
item-empty digits marker width false column =
    ap
    (λ r. let t : Taken = record { container = InItem digits marker width false; rest = r } in Some t)
    (lose-bare width (rest_at column []) refl)
