-- What is left of a list item on a further line is what it takes of the line by the cells.
use Rattle.std.proofs.Common.{◌≡◌, ℕ, zero, suc, ◌+◌, ◌-◌, ◌≤◌, Bool, true, false, cond, not, ◌&&◌, nat_eq, List}
use Rattle.std.proofs.Common.{[], ◌∷◌, ◌++◌, refl, sym, ◌∙◌, ap, ap₂, arith}
use Rattle.std.proofs.Common.{append_assoc, append-nil, subst, Some, None}
use Rattle.std.specs.Prelude.{nat_le}
use Rattle.std.proofs.lemmas.Bool.{and_parts}
use Rattle.std.proofs.lemmas.Bool.Decides.{nat_tests}
use Rattle.md_engine.specs.declared.event.Event.{Event}
use Rattle.md_engine.specs.declared.event.Name.TheVariants.{SpaceOrTab}
use Rattle.md_engine.specs.declared.tokenizer.Scratch.{Scratch}
use Rattle.md_engine.specs.declared.tokenizer.TheConstants.Scratch.{REST}
use Rattle.md_engine.specs.declared.tokenizer.container.Container.{Container as Held}
use Rattle.md_engine.specs.Meaning.{Accepts, Cell, Here, Outcome, Refuses}
use Rattle.md_containers.specs.Item.{item_is_further, least_width}
use Rattle.md_containers.specs.ItemPrefix.{item_by, item_further, item_indented, item_same}
use Rattle.md_containers.specs.ItemRule.{indent_at, inside_indent, item_on}
use Rattle.md_containers.proofs.ItemCells.{at_rest}
use Rattle.md_events.proofs.AheadLemmas.{none-size}
use Rattle.md_meaning.specs.Rest.{is_blank, is_white}
use Rattle.md_events.specs.Ahead.{begins_white, line_bytes, white_end, white_rest, white_size}
use Rattle.md_events.specs.Events.Nested.{enter, exit, pair}
use Rattle.md_events.specs.Look.{first_seen}
use Rattle.md_events.specs.Spaces.{IsRest, asking, ends_line}

-- after so many columns of an indent
abbrev indented : ℕ → List Cell → Here → Outcome
indented width cells h =
    Accepts
    (record h {
      events = h.events ++ pair SpaceOrTab h.point (white_end width cells h.point);
      point = white_end width cells h.point;
      scratch = REST;
      flags = item_is_further h.flags;
    })
    (white_rest width cells)

-- an indent of at least so many columns
inside-is : (min w : ℕ) (c : Cell) (cs : List Cell) (h : Here) → is_white c.byte ≡ true →
    inside_indent cs
    (record h {
      events = h.events ++ enter SpaceOrTab h.point ∷ [];
      point = c.after;
      scratch = asking min (suc w) 1 REST;
    }) ≡
    cond (nat_le min (white_size (suc w) (c ∷ cs))) (indented (suc w) (c ∷ cs) h) (Refuses REST h.flags)
unfolding inside_indent
inside-is min w c cs h e =
    let room : suc w - 1 ≡ w = omega arith in
    let sum : 1 + white_size w cs ≡ suc (white_size w cs) = omega arith in
    rw (room, e, sum)
    (ap
    (λ (es : List Event).
    cond (nat_le min (suc (white_size w cs)))
    (Accepts
    (record h {
      events = es;
      point = white_end w cs c.after;
      scratch = REST;
      flags = item_is_further h.flags;
    })
    (white_rest w cs))
    (Refuses REST h.flags))
    (append_assoc h.events (enter SpaceOrTab h.point ∷ []) (exit SpaceOrTab (white_end w cs c.after) ∷ [])))

none-enough : (min : ℕ) → 1 ≤ min → nat_le min 0 ≡ false
none-enough min le = grind (arith, nat_tests)

indent-is : (min w : ℕ) (cells : List Cell) (h : Here) → least_width h.flags.asked ≡ suc w → 1 ≤ min →
    indent_at min cells (at_rest h) ≡
    cond (nat_le min (white_size (suc w) cells)) (indented (suc w) cells h) (Refuses REST h.flags)
unfolding indent_at
indent-is min w [] h e le =
    sym (ap (λ (x : Bool). cond x (indented (suc w) [] h) (Refuses REST h.flags)) (none-enough min le))
indent-is min w (c ∷ cs) h e le = go (is_white c.byte) refl
  where
    begun : ℕ → Here
    begun width = record h {
      events = h.events ++ enter SpaceOrTab h.point ∷ [];
      point = c.after;
      scratch = asking min width 1 REST;
    }

    done : Bool → Outcome
    done x = cond x (indented (suc w) (c ∷ cs) h) (Refuses REST h.flags)

    go : (x : Bool) → is_white c.byte ≡ x →
        cond x (inside_indent cs (begun (least_width h.flags.asked))) (Refuses REST h.flags) ≡
        done (nat_le min (white_size (suc w) (c ∷ cs)))
    go true k = ap (λ (width : ℕ). inside_indent cs (begun width)) e ∙ inside-is min w c cs h k
    go false k =
        let none : white_size (suc w) (c ∷ cs) ≡ 0 = ap (λ (x : Bool). cond x (suc (white_size w cs)) 0) k in
        sym (ap (λ (size : ℕ). done (nat_le min size)) none ∙ ap done (none-enough min le))

-- a blank line that does not end here begins with whitespace
pub blank-white : (cells : List Cell) → ends_line (first_seen cells) ≡ false → is_blank (line_bytes cells) ≡ true →
    begins_white cells ≡ true
blank-white [] e b = cc
blank-white (c ∷ cs) e b =
    let on : is_white c.byte && is_blank (line_bytes cs) ≡ true = rw e at b in
    (and_parts (is_white c.byte) (is_blank (line_bytes cs)) on).0

-- where columns are counted, whitespace comes first
pub size-white : (m : ℕ) (cells : List Cell) → 1 ≤ white_size m cells → begins_white cells ≡ true
size-white m cells some = go (begins_white cells) refl
  where
    go : (x : Bool) → begins_white cells ≡ x → x ≡ true
    go true e = refl
    go false e = let none = none-size m cells e in absurd (omega (arith, some, none))

white-some : (w : ℕ) (cells : List Cell) → begins_white cells ≡ true → nat_le 1 (white_size (suc w) cells) ≡ true
white-some w [] e = cc
white-some w (c ∷ cs) e =
    let size : white_size (suc w) (c ∷ cs) ≡ suc (white_size w cs) =
    ap (λ (x : Bool). cond x (suc (white_size w cs)) 0) e in
    let enough : nat_le 1 (suc (white_size w cs)) ≡ true = grind (arith, nat_tests) in
    ap (nat_le 1) size ∙ enough

further-rest : (w : ℕ) (blank : Bool) (digits : List ℕ) (marker : ℕ) (cells : List Cell) (h : Here) →
    h.flags.asked.width ≡ suc w → h.flags.asked.starts_blank ≡ blank →
    item_on cells (at_rest h) ≡ item_by (item_further digits marker (suc w) blank cells h.point) (at_rest h)
unfolding item_on
further-rest w blank digits marker cells h e f =
    go (ends_line (first_seen cells)) (is_blank (line_bytes cells)) blank refl refl f
  where
    least : least_width h.flags.asked ≡ suc w
    least =
        let some : nat_eq (suc w) 0 ≡ false = grind (arith, nat_tests) in
        ap (λ (width : ℕ). cond (nat_eq width 0) 1 width) e ∙ ap (λ (x : Bool). cond x 1 (suc w)) some

    -- as the tokenizer holds it
    held : ℕ → Held
    held width = record h.flags.asked { width = width; starts_blank = false }

    taken : Outcome
    taken = item_by (Some (item_indented digits marker (suc w) cells h.point)) (at_rest h)

    same : indented (suc w) cells h ≡ taken
    same =
        ap
        (λ (width : ℕ).
        Accepts
        (record h {
          events = h.events ++ pair SpaceOrTab h.point (white_end (suc w) cells h.point);
          point = white_end (suc w) cells h.point;
          scratch = REST;
          flags = record h.flags { asked = held width };
        })
        (white_rest (suc w) cells))
        e

    -- where it continues, as the line definition has it, and elsewhere
    either : (x : Bool) →
        cond x (indented (suc w) cells h) (Refuses REST h.flags) ≡
        item_by (cond x (Some (item_indented digits marker (suc w) cells h.point)) None) (at_rest h)
    either true = same
    either false = refl

    ended : (b : Bool) → h.flags.asked.starts_blank ≡ b →
        cond b (Refuses REST h.flags) (Accepts (at_rest h) cells) ≡
        item_by (cond b None (Some (item_same digits marker (suc w) cells h.point))) (at_rest h)
    ended true k = refl
    ended false k =
        ap₂
        (λ (es : List Event) (held : Held).
        Accepts (record h { events = es; scratch = REST; flags = record h.flags { asked = held } }) cells)
        (sym (append-nil h.events))
        (ap₂
        (λ (width : ℕ) (b : Bool). let c : Held = record h.flags.asked { width = width; starts_blank = b } in c)
        e k)

    blank-taken : (b : Bool) → begins_white cells ≡ true →
        cond b (Refuses REST h.flags) (indent_at 1 cells (at_rest h)) ≡
        item_by (cond (not b) (Some (item_indented digits marker (suc w) cells h.point)) None) (at_rest h)
    blank-taken true white = refl
    blank-taken false white =
        indent-is 1 w cells h least (omega arith)
        ∙ ap (λ (x : Bool). cond x (indented (suc w) cells h) (Refuses REST h.flags)) (white-some w cells white)
        ∙ same

    go : (x y b : Bool) → ends_line (first_seen cells) ≡ x → is_blank (line_bytes cells) ≡ y →
        h.flags.asked.starts_blank ≡ b →
        cond x (cond h.flags.asked.starts_blank (Refuses REST h.flags) (Accepts (at_rest h) cells))
        (cond y (cond h.flags.asked.starts_blank (Refuses REST h.flags) (indent_at 1 cells (at_rest h)))
        (indent_at (least_width h.flags.asked) cells (at_rest h))) ≡
        item_by
        (cond x (cond b None (Some (item_same digits marker (suc w) cells h.point)))
        (cond (cond y (not b) (nat_le (suc w) (white_size (suc w) cells)))
        (Some (item_indented digits marker (suc w) cells h.point)) None))
        (at_rest h)
    go true y b k l m =
        ap (λ (t : Bool). cond t (Refuses REST h.flags) (Accepts (at_rest h) cells)) m ∙ ended b m
    go false true b k l m =
        ap (λ (t : Bool). cond t (Refuses REST h.flags) (indent_at 1 cells (at_rest h))) m
        ∙ blank-taken b (blank-white cells k l)
    go false false b k l m =
        ap (λ (min : ℕ). indent_at min cells (at_rest h)) least
        ∙ indent-is (suc w) w cells h least (omega arith)
        ∙ either (nat_le (suc w) (white_size (suc w) cells))

-- an open item is taken where it continues, and refused elsewhere
pub further-is : (width : ℕ) (blank : Bool) (digits : List ℕ) (marker : ℕ) (cells : List Cell) (h : Here) →
    IsRest h.scratch → 1 ≤ width → h.flags.asked.width ≡ width → h.flags.asked.starts_blank ≡ blank →
    item_on cells h ≡ item_by (item_further digits marker width blank cells h.point) h
further-is zero blank digits marker cells h is some e f = absurd (omega (arith, some))
further-is (suc w) blank digits marker cells h is some e f =
    subst
    (λ (s : Scratch).
    item_on cells (record h { scratch = s }) ≡
    item_by (item_further digits marker (suc w) blank cells h.point) (record h { scratch = s }))
    (sym is) (further-rest w blank digits marker cells h e f)
