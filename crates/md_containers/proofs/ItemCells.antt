-- What is left of a list item at rest is what it takes of a line by the cells.
use Rattle.std.proofs.Common.{◌≡◌, ℕ, ◌+◌, Bool, true, false, cond, not, ◌&&◌, ◌||◌, nat_eq, nat_lt, List, [], ◌∷◌}
use Rattle.std.proofs.Common.{◌++◌, Option, None, refl, sym, ◌∙◌, ap, ap₂, arith, append_assoc, append-nil, subst}
use Rattle.md_engine.specs.declared.configuration.ParseOptions.{ParseOptions}
use Rattle.md_engine.specs.declared.event.Event.{Event}
use Rattle.md_engine.specs.declared.event.Name.TheVariants.{ListItem, ListItemMarker, ListItemPrefix, ListItemValue}
use Rattle.md_engine.specs.declared.event.Name.TheVariants.{SpaceOrTab}
use Rattle.md_engine.specs.declared.event.Point.{Point}
use Rattle.md_engine.specs.declared.tokenizer.Scratch.{Scratch}
use Rattle.md_engine.specs.declared.tokenizer.TheConstants.Scratch.{REST}
use Rattle.md_engine.specs.Meaning.{Accepts, Cell, Here, Outcome, Refuses}
use Rattle.md_containers.specs.Interrupts.{interrupts}
use Rattle.md_containers.specs.Item.{ends_value, is_item_marker, width_here}
use Rattle.md_containers.specs.ItemPrefix.{ItemPassed, digits_of, item_after, item_by, item_closed, item_marked}
use Rattle.md_containers.specs.ItemPrefix.{item_new, item_numbered, item_padded, item_valued, padding, padding_room}
use Rattle.md_containers.specs.ItemRule.{at_bullet, at_marker, at_value, after_columns, after_indent, after_marker}
use Rattle.md_containers.specs.ItemRule.{following_prefix, following_value, digits_end, digits_rest, digits_size}
use Rattle.md_containers.specs.ItemRule.{filled_at, in_value, item_at, one_column}
use Rattle.md_meaning.specs.Containers.{is_bullet, is_digit}
use Rattle.md_meaning.specs.Leaves.{is_rule}
use Rattle.md_meaning.specs.Rest.{is_blank}
use Rattle.md_leaves.specs.LeafStart.{start_at}
use Rattle.md_events.specs.Ahead.{begins_white, line_bytes, white_end, white_rest}
use Rattle.md_events.specs.Events.Nested.{enter, exit, pair}
use Rattle.md_events.specs.Spaces.{IsRest, small_indent}
use Rattle.md_events.proofs.AheadLemmas.{none-end, none-rest}
use Rattle.md_events.proofs.LostColumns.{zero-end, zero-rest}

-- after these events, where an item is tried that began here
abbrev at : Here → List Event → Point → Scratch → Here
at h front p s = record h { events = h.events ++ front; point = p; scratch = s }

abbrev pub at_rest : Here → Here
at_rest h = record h { scratch = REST }

abbrev noted : Bool → Scratch
noted blank = record REST { seen = not blank }

-- where it begins is noted
abbrev Begun : Here → Type 0
Begun h = h.flags.asked_column ≡ h.point.column

-- After the padding.

closed-is : (h : Here) (digits : List ℕ) (byte : ℕ) (front : List Event) (blank : Bool) (cells : List Cell)
    (p : Point) →
    Begun h →
    following_prefix cells (at h front p (noted blank)) ≡
    item_by (item_closed (interrupts h.flags) h.point digits byte front blank cells p) (at_rest h)
unfolding following_prefix
closed-is h digits byte front true cells p e = go (interrupts h.flags)
  where
    taken : List Event → ℕ → Outcome
    taken es from =
        Accepts
        (record h {
          events = es;
          point = p;
          scratch = REST;
          flags = record h.flags {
            asked = record h.flags.asked { width = width_here p.column from true; starts_blank = true };
          };
        })
        cells

    go : (x : Bool) →
        cond x (Refuses REST h.flags)
        (taken ((h.events ++ front) ++ exit ListItemPrefix p ∷ []) h.flags.asked_column) ≡
        item_by (cond x None (item_closed false h.point digits byte front true cells p)) (at_rest h)
    go true = refl
    go false = ap₂ taken (append_assoc h.events front (exit ListItemPrefix p ∷ [])) e
closed-is h digits byte front false cells p e =
    ap₂
    (λ (es : List Event) (from : ℕ).
    Accepts
    (record h {
      events = es;
      point = p;
      scratch = REST;
      flags = record h.flags {
        asked = record h.flags.asked { width = width_here p.column from false; starts_blank = false };
      };
    })
    cells)
    (append_assoc h.events front (exit ListItemPrefix p ∷ [])) e

-- The padding.

-- whitespace that was taken here, with these events before it
taken-is : (h : Here) (digits : List ℕ) (byte : ℕ) (front : List Event) (room : ℕ) (cells : List Cell) (p : Point) →
    Begun h →
    following_prefix (white_rest room cells)
    (record (at h front p (noted false)) {
      events = (h.events ++ front) ++ pair SpaceOrTab p (white_end room cells p);
      point = white_end room cells p;
    }) ≡
    item_by
    (item_closed (interrupts h.flags) h.point digits byte (front ++ pair SpaceOrTab p (white_end room cells p)) false
    (white_rest room cells) (white_end room cells p))
    (at_rest h)
taken-is h digits byte front room cells p e =
    ap
    (λ (es : List Event).
    following_prefix (white_rest room cells)
    (record h { events = es; point = white_end room cells p; scratch = noted false }))
    (append_assoc h.events front (pair SpaceOrTab p (white_end room cells p)))
    ∙ closed-is h digits byte (front ++ pair SpaceOrTab p (white_end room cells p)) false (white_rest room cells)
    (white_end room cells p) e

column-white : (cells : List Cell) (k : Here) → begins_white cells ≡ true →
    one_column cells k ≡
    following_prefix (white_rest 1 cells)
    (record k {
      events = k.events ++ pair SpaceOrTab k.point (white_end 1 cells k.point);
      point = white_end 1 cells k.point;
    })
unfolding one_column
column-white [] k e = cc
column-white (c ∷ cs) k e = rw (e, zero-rest cs, zero-end cs c.after) refl

column-dark : (cells : List Cell) (h : Here) (front : List Event) (p : Point) → begins_white cells ≡ false →
    one_column cells (at h front p (noted false)) ≡ Refuses REST h.flags
unfolding one_column
column-dark [] h front p e = refl
column-dark (c ∷ cs) h front p e = rw e refl

filled-split : (cells : List Cell) (h : Here) (front : List Event) (p : Point) (x y : Bool) →
    begins_white cells ≡ x → begins_white (white_rest 4 cells) ≡ y →
    filled_at cells (at h front p REST) ≡
    cond (x && not y) (following_prefix (white_rest 4 cells) (after_columns 4 cells (at h front p (noted false))))
    (one_column cells (at h front p (noted false)))
unfolding filled_at
filled-split cells h front p x y e f = rw (e, f) refl

padded-is : (h : Here) (digits : List ℕ) (byte : ℕ) (front : List Event) (cells : List Cell) (p : Point) → Begun h →
    after_marker cells (at h front p REST) ≡
    item_by (item_padded (interrupts h.flags) h.point digits byte front (padding cells p)) (at_rest h)
unfolding after_marker
padded-is h digits byte front cells p e =
    go (is_blank (line_bytes cells)) (begins_white cells) (begins_white (white_rest 4 cells)) refl refl refl
  where
    interrupting : Bool
    interrupting = interrupts h.flags

    closed : ℕ → Option ItemPassed
    closed room =
        item_closed interrupting h.point digits byte (front ++ pair SpaceOrTab p (white_end room cells p)) false
        (white_rest room cells) (white_end room cells p)

    room-is : (y : Bool) → begins_white (white_rest 4 cells) ≡ y → padding_room cells ≡ cond y 1 4
    room-is y k = ap (λ (t : Bool). cond t 1 4) k

    go : (b x y : Bool) → is_blank (line_bytes cells) ≡ b → begins_white cells ≡ x →
        begins_white (white_rest 4 cells) ≡ y →
        after_marker cells (at h front p REST) ≡
        item_by (item_padded interrupting h.point digits byte front (padding cells p)) (at_rest h)
    go true x y k l m =
        rw k
        (closed-is h digits byte front true cells p e
        ∙ ap (λ (es : List Event). item_by (item_closed interrupting h.point digits byte es true cells p) (at_rest h))
        (sym (append-nil front)))
    go false true true k l m =
        rw (k, l)
        (filled-split cells h front p true true l m ∙ column-white cells (at h front p (noted false)) l
        ∙ taken-is h digits byte front 1 cells p e
        ∙ ap (λ (room : ℕ). item_by (closed room) (at_rest h)) (sym (room-is true m)))
    go false true false k l m =
        rw (k, l)
        (filled-split cells h front p true false l m ∙ taken-is h digits byte front 4 cells p e
        ∙ ap (λ (room : ℕ). item_by (closed room) (at_rest h)) (sym (room-is false m)))
    go false false y k l m =
        rw (k, l) (filled-split cells h front p false y l m ∙ column-dark cells h front p l)

-- The marker.

marked-is : (h : Here) (digits : List ℕ) (front : List Event) (c : Cell) (cs : List Cell) (p : Point) → Begun h →
    is_item_marker c.byte ≡ true →
    at_marker (c ∷ cs) (at h front p REST) ≡
    item_by (item_marked (interrupts h.flags) h.point digits front c cs p) (at_rest h)
unfolding at_marker
marked-is h digits front c cs p e is =
    rw is
    (ap
    (λ (es : List Event). after_marker cs (record h { events = es; point = c.after; scratch = REST }))
    (append_assoc h.events front (pair ListItemMarker p c.after))
    ∙ padded-is h digits c.byte (front ++ pair ListItemMarker p c.after) cs c.after e)

-- The digits.

numbered-is : (h : Here) (digits : List ℕ) (size : ℕ) (front : List Event) (cells : List Cell) (p q : Point) → Begun h →
    following_value cells (at h front q (record REST { size = size })) ≡
    item_by (item_numbered (interrupts h.flags) h.point digits size (front ++ exit ListItemValue q ∷ []) cells q)
    (at_rest h)
unfolding following_value
numbered-is h digits size front [] p q e = refl
numbered-is h digits size front (c ∷ cs) p q e =
    go (ends_value c.byte) (not (interrupts h.flags) || nat_lt size 2) refl
  where
    ends-marker : (b : ℕ) → ends_value b ≡ true → is_item_marker b ≡ true
    ends-marker b k = go (is_bullet b)
      where
        go : (x : Bool) → x || ends_value b ≡ true
        go true = refl
        go false = k

    go : (x y : Bool) → ends_value c.byte ≡ x →
        cond (x && y)
        (at_marker (c ∷ cs)
        (record (at h front q REST) { events = (h.events ++ front) ++ exit ListItemValue q ∷ [] }))
        (Refuses REST h.flags) ≡
        item_by
        (cond (x && y)
        (item_marked (interrupts h.flags) h.point digits (front ++ exit ListItemValue q ∷ []) c cs q) None)
        (at_rest h)
    go true true k =
        ap
        (λ (es : List Event). at_marker (c ∷ cs) (record h { events = es; point = q; scratch = REST }))
        (append_assoc h.events front (exit ListItemValue q ∷ []))
        ∙ marked-is h digits (front ++ exit ListItemValue q ∷ []) c cs q e (ends-marker c.byte k)
    go true false k = refl
    go false y k = refl

value-on : (c : Cell) (cs : List Cell) (k : Here) → is_digit c.byte ≡ true →
    at_value (c ∷ cs) k ≡
    in_value (c ∷ cs)
    (record k { events = k.events ++ enter ListItemPrefix k.point ∷ enter ListItemValue k.point ∷ [] })
unfolding at_value
value-on c cs k is = rw is refl

value-in : (cells : List Cell) (h : Here) (front : List Event) (p : Point) →
    in_value cells (at h front p REST) ≡
    following_value (digits_rest 9 cells)
    (at h front (digits_end 9 cells p) (record REST { size = digits_size 9 cells }))
unfolding in_value
value-in cells h front p =
    let sum : 0 + digits_size 9 cells ≡ digits_size 9 cells = omega arith in
    ap
    (λ (n : ℕ).
    following_value (digits_rest 9 cells) (at h front (digits_end 9 cells p) (record REST { size = n }))) sum

valued-is : (h : Here) (front : List Event) (c : Cell) (cs : List Cell) (p : Point) → Begun h →
    is_digit c.byte ≡ true →
    at_value (c ∷ cs) (at h front p REST) ≡
    item_by (item_valued (interrupts h.flags) h.point front (c ∷ cs) p) (at_rest h)
valued-is h front c cs p e is = value-on c cs (at h front p REST) is ∙ go (c ∷ cs)
  where
    more : List Event
    more = enter ListItemPrefix p ∷ enter ListItemValue p ∷ []

    go : (cells : List Cell) →
        in_value cells (record (at h front p REST) { events = (h.events ++ front) ++ more }) ≡
        item_by (item_valued (interrupts h.flags) h.point front cells p) (at_rest h)
    go cells =
        let q = digits_end 9 cells p in
        ap
        (λ (es : List Event). in_value cells (record h { events = es; point = p; scratch = REST }))
        (append_assoc h.events front more)
        ∙ value-in cells h (front ++ more) p
        ∙ numbered-is h (digits_of 9 cells) (digits_size 9 cells) (front ++ more) (digits_rest 9 cells) p q e
        ∙ ap
        (λ (es : List Event).
        item_by
        (item_numbered (interrupts h.flags) h.point (digits_of 9 cells) (digits_size 9 cells) es (digits_rest 9 cells)
        q)
        (at_rest h))
        (append_assoc front more (exit ListItemValue q ∷ []))

-- After the indent.

bullet-marker : (b : ℕ) → is_bullet b ≡ true → is_item_marker b ≡ true
bullet-marker b k = ap (λ (x : Bool). x || ends_value b) k

following-is : (options : ParseOptions) (h : Here) (front : List Event) (cells : List Cell) (p : Point) → Begun h →
    after_indent options cells (at h front p REST) ≡
    item_by (item_after options (interrupts h.flags) h.point front cells p) (at_rest h)
unfolding after_indent at_bullet
following-is options h front [] p e = refl
following-is options h front (c ∷ cs) p e =
    go (is_bullet c.byte) (options.constructs.thematic_break && is_rule (line_bytes (c ∷ cs))) (is_digit c.byte)
    (not (interrupts h.flags) || nat_eq c.byte 49) refl refl
  where
    interrupting : Bool
    interrupting = interrupts h.flags

    bullet : Option ItemPassed
    bullet = item_marked interrupting h.point [] (front ++ enter ListItemPrefix p ∷ []) c cs p

    go : (x y z t : Bool) → is_bullet c.byte ≡ x → is_digit c.byte ≡ z →
        cond x
        (cond y (Refuses REST h.flags)
        (at_marker (c ∷ cs)
        (record (at h front p REST) { events = (h.events ++ front) ++ enter ListItemPrefix p ∷ [] })))
        (cond (z && t) (at_value (c ∷ cs) (at h front p REST)) (Refuses REST h.flags)) ≡
        item_by
        (cond x (cond y None bullet)
        (cond (z && t) (item_valued interrupting h.point front (c ∷ cs) p) None))
        (at_rest h)
    go true true z t k l = refl
    go true false z t k l =
        ap
        (λ (es : List Event). at_marker (c ∷ cs) (record h { events = es; point = p; scratch = REST }))
        (append_assoc h.events front (enter ListItemPrefix p ∷ []))
        ∙ marked-is h [] (front ++ enter ListItemPrefix p ∷ []) c cs p e (bullet-marker c.byte k)
    go false y true true k l = valued-is h front c cs p e l
    go false y true false k l = refl
    go false y false t k l = refl

start-rest : (options : ParseOptions) (cells : List Cell) (h : Here) → Begun h →
    item_at options cells (at_rest h) ≡
    item_by (item_new options (interrupts h.flags) cells h.point) (at_rest h)
unfolding start_at
start-rest options cells h e = go options.constructs.list_item (begins_white cells) refl
  where
    room : ℕ
    room = small_indent options

    p : Point
    p = white_end room cells h.point

    left : List Cell
    left = white_rest room cells

    begun : List Event
    begun = enter ListItem h.point ∷ []

    new : List Event → List Cell → Point → Option ItemPassed
    new front cells q = item_after options (interrupts h.flags) h.point front cells q

    go : (x y : Bool) → begins_white cells ≡ y →
        cond x
        (cond y
        (after_indent options left
        (record h {
          events = (h.events ++ begun) ++ enter SpaceOrTab h.point ∷ exit SpaceOrTab p ∷ [];
          point = p;
          scratch = REST;
        }))
        (after_indent options cells (record h { events = h.events ++ begun; scratch = REST })))
        (Refuses REST h.flags) ≡
        item_by (cond x (new (enter ListItem h.point ∷ cond y (pair SpaceOrTab h.point p) []) left p) None) (at_rest h)
    go false y k = refl
    go true true k =
        ap
        (λ (es : List Event). after_indent options left (record h { events = es; point = p; scratch = REST }))
        (append_assoc h.events begun (pair SpaceOrTab h.point p))
        ∙ following-is options h (enter ListItem h.point ∷ pair SpaceOrTab h.point p) left p e
    go true false k =
        following-is options h begun cells h.point e
        ∙ ap₂ (λ (l : List Cell) (q : Point). item_by (new begun l q) (at_rest h)) (sym (none-rest room cells k))
        (sym (none-end room cells h.point k))

-- an item is taken where it opens, and refused elsewhere
pub item-is : (options : ParseOptions) (cells : List Cell) (h : Here) → IsRest h.scratch →
    h.flags.asked_column ≡ h.point.column →
    item_at options cells h ≡ item_by (item_new options (interrupts h.flags) cells h.point) h
item-is options cells h is e =
    subst
    (λ (s : Scratch).
    item_at options cells (record h { scratch = s }) ≡
    item_by (item_new options (interrupts h.flags) cells h.point) (record h { scratch = s }))
    (sym is) (start-rest options cells h e)
