-- A list item is refused, or takes a cell at least; on a further line where that does not end.
use Rattle.std.proofs.Common.{◌≡◌, ℕ, zero, suc, ◌+◌, ◌-◌, ◌<◌, ◌≤◌, Bool, true, false, cond, not, ◌&&◌, ◌||◌, nat_eq}
use Rattle.std.proofs.Common.{nat_lt, List, [], ◌∷◌, ◌++◌, length, Option, Some, None, ap, arith, refl}
use Rattle.std.specs.Prelude.{nat_le}
use Rattle.std.proofs.lemmas.Bool.Decides.{nat_tests}
use Rattle.md_engine.specs.declared.configuration.ParseOptions.{ParseOptions}
use Rattle.md_engine.specs.declared.event.Event.{Event}
use Rattle.md_engine.specs.declared.event.Name.TheVariants.{ListItem, ListItemMarker, ListItemPrefix, ListItemValue}
use Rattle.md_engine.specs.declared.event.Point.{Point}
use Rattle.md_engine.specs.Meaning.{Cell, Here}
use Rattle.md_containers.specs.Interrupts.{interrupts}
use Rattle.md_containers.specs.Item.{ends_value, is_item_marker, least_width}
use Rattle.md_containers.specs.ItemPrefix.{ItemPassed, Padded, digits_of, item_after, item_further}
use Rattle.md_containers.specs.ItemPrefix.{item_indented, item_marked, item_new, item_numbered, item_padded}
use Rattle.md_containers.specs.ItemPrefix.{item_valued, padding, padding_room}
use Rattle.md_containers.specs.QuoteRule.{indent_events}
use Rattle.md_containers.specs.ItemRule.{digits_end, digits_size, at_bullet, at_marker, at_value, after_indent}
use Rattle.md_containers.specs.ItemRule.{after_marker, following_prefix, following_value, digits_rest, filled_at}
use Rattle.md_containers.specs.ItemRule.{in_value, indent_at, inside_indent, item_at, item_on, one_column}
use Rattle.md_containers.proofs.ItemFurther.{blank-white, size-white}
use Rattle.md_containers.proofs.Shorter.{Shortens, cond-shortens}
use Rattle.md_meaning.specs.Containers.{is_bullet, is_digit}
use Rattle.md_meaning.specs.Leaves.{is_rule}
use Rattle.md_meaning.specs.Rest.{is_blank, is_white}
use Rattle.md_leaves.specs.LeafStart.{start_at}
use Rattle.md_events.specs.Ahead.{begins_white, line_bytes, white_end, white_rest, white_size}
use Rattle.md_events.specs.Events.Nested.{enter, pair}
use Rattle.md_events.specs.Look.{first_seen}
use Rattle.md_events.specs.Spaces.{ends_line, small_indent}
use Rattle.md_events.proofs.RestCells.{white-length}

-- digits leave no more than there was
pub digits-length : (room : ℕ) (cells : List Cell) → length (digits_rest room cells) ≤ length cells
digits-length room [] = omega arith
digits-length zero (c ∷ cs) = omega arith
digits-length (suc room) (c ∷ cs) = go (is_digit c.byte) (digits-length room cs)
  where
    go : (t : Bool) → length (digits_rest room cs) ≤ length cs →
        length (cond t (digits_rest room cs) (c ∷ cs)) ≤ suc (length cs)
    go true le = omega (arith, le)
    go false le = omega arith

-- What opens an item.

prefix-shortens : (n : ℕ) (cells : List Cell) (h : Here) → length cells < n → Shortens n (following_prefix cells h)
unfolding following_prefix
prefix-shortens n cells h lt = cond-shortens n (not h.scratch.seen && interrupts h.flags) _ _ tt lt

column-shortens : (n : ℕ) (cells : List Cell) (h : Here) → length cells ≤ n → Shortens n (one_column cells h)
unfolding one_column
column-shortens n [] h le = tt
column-shortens n (c ∷ cs) h le =
    cond-shortens n (is_white c.byte) _ _ (prefix-shortens n cs _ (omega (arith, le))) tt

filled-shortens : (n : ℕ) (cells : List Cell) (h : Here) → length cells < n → Shortens n (filled_at cells h)
unfolding filled_at
filled-shortens n cells h lt =
    cond-shortens n (begins_white cells && not (begins_white (white_rest 4 cells))) _ _
    (prefix-shortens n (white_rest 4 cells) _ (omega (arith, lt, white-length 4 cells)))
    (column-shortens n cells _ (omega (arith, lt)))

following-shortens : (n : ℕ) (cells : List Cell) (h : Here) → length cells < n → Shortens n (after_marker cells h)
unfolding after_marker
following-shortens n cells h lt =
    cond-shortens n (is_blank (line_bytes cells)) _ _ (prefix-shortens n cells h lt) (filled-shortens n cells h lt)

marker-shortens : (n : ℕ) (cells : List Cell) (h : Here) → length cells ≤ n → Shortens n (at_marker cells h)
unfolding at_marker
marker-shortens n [] h le = tt
marker-shortens n (c ∷ cs) h le =
    cond-shortens n (is_item_marker c.byte) _ _ (following-shortens n cs _ (omega (arith, le))) tt

following_value-shortens : (n : ℕ) (cells : List Cell) (h : Here) → length cells ≤ n →
    Shortens n (following_value cells h)
unfolding following_value
following_value-shortens n [] h le = tt
following_value-shortens n (c ∷ cs) h le =
    cond-shortens n (ends_value c.byte && (not (interrupts h.flags) || nat_lt h.scratch.size 2)) _ _
    (marker-shortens n (c ∷ cs) _ le) tt

in_value-shortens : (n : ℕ) (cells : List Cell) (h : Here) → length cells ≤ n → Shortens n (in_value cells h)
unfolding in_value
in_value-shortens n cells h le =
    let room = 9 - h.scratch.size in
    following_value-shortens n (digits_rest room cells) _ (omega (arith, le, digits-length room cells))

value-shortens : (n : ℕ) (cells : List Cell) (h : Here) → length cells ≤ n → Shortens n (at_value cells h)
unfolding at_value
value-shortens n [] h le = tt
value-shortens n (c ∷ cs) h le = cond-shortens n (is_digit c.byte) _ _ (in_value-shortens n (c ∷ cs) _ le) tt

bullet-shortens : (n : ℕ) (cells : List Cell) (h : Here) → length cells ≤ n → Shortens n (at_bullet cells h)
unfolding at_bullet
bullet-shortens n cells h le = marker-shortens n cells _ le

indent-shortens : (options : ParseOptions) (n : ℕ) (cells : List Cell) (h : Here) → length cells ≤ n →
    Shortens n (after_indent options cells h)
unfolding after_indent
indent-shortens options n [] h le = tt
indent-shortens options n (c ∷ cs) h le =
    cond-shortens n (is_bullet c.byte) _ _
    (cond-shortens n (options.constructs.thematic_break && is_rule (line_bytes (c ∷ cs))) _ _ tt
    (bullet-shortens n (c ∷ cs) h le))
    (cond-shortens n (is_digit c.byte && (not (interrupts h.flags) || nat_eq c.byte 49)) _ _
    (value-shortens n (c ∷ cs) h le) tt)

pub item-shortens : (options : ParseOptions) (cells : List Cell) (h : Here) →
    Shortens (length cells) (item_at options cells h)
unfolding start_at
item-shortens options cells h =
    cond-shortens _ options.constructs.list_item _ _
    (cond-shortens _ (begins_white cells) _ _
    (indent-shortens options _ (white_rest (small_indent options) cells) _ (white-length (small_indent options) cells))
    (indent-shortens options _ cells _ (omega arith)))
    tt

-- What has an item continue.

inside-shortens : (n : ℕ) (cells : List Cell) (h : Here) → length cells < n → Shortens n (inside_indent cells h)
unfolding inside_indent
inside-shortens n cells h lt =
    let white = h.scratch.whitespace in
    let room = white.max - white.size in
    cond-shortens n (nat_le white.min (white.size + white_size room cells)) _ _
    (omega (arith, lt, white-length room cells)) tt

indent_at-shortens : (n min : ℕ) (cells : List Cell) (h : Here) → length cells ≤ n → Shortens n (indent_at min cells h)
unfolding indent_at
indent_at-shortens n min [] h le = tt
indent_at-shortens n min (c ∷ cs) h le =
    cond-shortens n (is_white c.byte) _ _ (inside-shortens n cs _ (omega (arith, le))) tt

pub further-shortens : (cells : List Cell) (h : Here) → ends_line (first_seen cells) ≡ false →
    Shortens (length cells) (item_on cells h)
unfolding item_on
further-shortens cells h e =
    rw e
    (cond-shortens _ (is_blank (line_bytes cells)) _ _
    (cond-shortens _ h.flags.asked.starts_blank _ _ tt (indent_at-shortens _ 1 cells h (omega arith)))
    (indent_at-shortens _ (least_width h.flags.asked) cells h (omega arith)))

-- The same by the cells of a line: what is left is shorter.

abbrev pub IsShorter : ℕ → Option ItemPassed → Type 0
IsShorter n None = Unit {0}
IsShorter n (Some t) = length t.cells < n

abbrev PaddingFits : ℕ → Option Padded → Type 0
PaddingFits n None = Unit {0}
PaddingFits n (Some t) = length t.cells < n

pub shorter-if : (n : ℕ) (x : Bool) (a b : Option ItemPassed) → IsShorter n a → IsShorter n b →
    IsShorter n (cond x a b)
shorter-if n true a b h k = h
shorter-if n false a b h k = k

fits-if : (n : ℕ) (x : Bool) (a b : Option Padded) → PaddingFits n a → PaddingFits n b → PaddingFits n (cond x a b)
fits-if n true a b h k = h
fits-if n false a b h k = k

padding-fits : (n : ℕ) (cells : List Cell) (p : Point) → length cells < n → PaddingFits n (padding cells p)
padding-fits n cells p lt =
    fits-if n (is_blank (line_bytes cells)) _ _ lt
    (fits-if n (begins_white cells) _ _ (omega (arith, lt, white-length (padding_room cells) cells)) tt)

marked-shorter : (n : ℕ) (interrupting : Bool) (from : Point) (digits : List ℕ) (front : List Event) (c : Cell)
    (cs : List Cell) (p : Point) →
    length (c ∷ cs) ≤ n → IsShorter n (item_marked interrupting from digits front c cs p)
marked-shorter n interrupting from digits front c cs p le =
    go (padding cs c.after) (padding-fits n cs c.after (omega (arith, le)))
  where
    front' : List Event
    front' = front ++ pair ListItemMarker p c.after

    go : (o : Option Padded) → PaddingFits n o → IsShorter n (item_padded interrupting from digits c.byte front' o)
    go None fits = tt
    go (Some t) fits = shorter-if n (t.blank && interrupting) _ _ tt fits

numbered-shorter : (n : ℕ) (interrupting : Bool) (from : Point) (digits : List ℕ) (size : ℕ) (front : List Event)
    (cells : List Cell) (p : Point) →
    length cells ≤ n → IsShorter n (item_numbered interrupting from digits size front cells p)
numbered-shorter n interrupting from digits size front [] p le = tt
numbered-shorter n interrupting from digits size front (c ∷ cs) p le =
    shorter-if n (ends_value c.byte && (not interrupting || nat_lt size 2)) _ _
    (marked-shorter n interrupting from digits front c cs p le) tt

following-shorter : (n : ℕ) (options : ParseOptions) (interrupting : Bool) (from : Point) (front : List Event)
    (cells : List Cell) (p : Point) →
    length cells ≤ n → IsShorter n (item_after options interrupting from front cells p)
following-shorter n options interrupting from front [] p le = tt
following-shorter n options interrupting from front (c ∷ cs) p le =
    shorter-if n (is_bullet c.byte) _ _
    (shorter-if n (options.constructs.thematic_break && is_rule (line_bytes (c ∷ cs))) _ _ tt
    (marked-shorter n interrupting from [] _ c cs p le))
    (shorter-if n (is_digit c.byte && (not interrupting || nat_eq c.byte 49)) _ _ (valued (c ∷ cs) le) tt)
  where
    valued : (cells : List Cell) → length cells ≤ n → IsShorter n (item_valued interrupting from front cells p)
    valued cells le =
        numbered-shorter n interrupting from (digits_of 9 cells) (digits_size 9 cells)
        (front ++ enter ListItemPrefix p ∷ pair ListItemValue p (digits_end 9 cells p)) (digits_rest 9 cells)
        (digits_end 9 cells p) (omega (arith, le, digits-length 9 cells))

-- an item that opens
pub new-shorter : (options : ParseOptions) (interrupting : Bool) (cells : List Cell) (p : Point) →
    IsShorter (length cells) (item_new options interrupting cells p)
new-shorter options interrupting cells p =
    shorter-if _ options.constructs.list_item _ _
    (following-shorter _ options interrupting p (enter ListItem p ∷ indent_events options cells p)
    (white_rest (small_indent options) cells) (white_end (small_indent options) cells p)
    (white-length (small_indent options) cells))
    tt

-- whitespace that is taken is a cell at least
white-shorter : (m : ℕ) (cells : List Cell) → begins_white cells ≡ true → 1 ≤ m →
    length (white_rest m cells) < length cells
white-shorter m [] e some = cc
white-shorter zero (c ∷ cs) e some = absurd (omega (arith, some))
white-shorter (suc m) (c ∷ cs) e some =
    let size = ap (λ (x : Bool). length (cond x (white_rest m cs) (c ∷ cs))) e in
    omega (arith, size, white-length m cs)

-- and one that continues, where the line does
pub further-shorter : (digits : List ℕ) (marker width : ℕ) (blank : Bool) (cells : List Cell) (p : Point) →
    1 ≤ width → ends_line (first_seen cells) ≡ false →
    IsShorter (length cells) (item_further digits marker width blank cells p)
further-shorter digits marker width blank cells p some e =
    rw e (go (is_blank (line_bytes cells)) blank (nat_le width (white_size width cells)) refl refl)
  where
    taken : Option ItemPassed
    taken = Some (item_indented digits marker width cells p)

    go : (y b z : Bool) → is_blank (line_bytes cells) ≡ y → nat_le width (white_size width cells) ≡ z →
        IsShorter (length cells) (cond (cond y (not b) z) taken None)
    go true b z f g = shorter-if _ (not b) taken None (white-shorter width cells (blank-white cells e f) some) tt
    go false b true f g =
        let le : width ≤ white_size width cells = grind (arith, nat_tests) in
        white-shorter width cells (size-white width cells (omega (arith, le, some))) some
    go false b false f g = tt
