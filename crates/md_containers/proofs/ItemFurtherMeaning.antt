-- The states of a further line of a list item take one step of their rules: a blank line, or the indent.
use Rattle.std.proofs.Common.{◌≡◌, ℕ, zero, suc, ◌+◌, ◌-◌, ◌<◌, ◌≤◌, Bool, true, false, cond, ◌&&◌, nat_lt, List, []}
use Rattle.std.proofs.Common.{◌∷◌, ◌++◌, Option, Some, None, refl, sym, ◌∙◌, ap, ap₂, arith, add-zero}
use Rattle.std.specs.Prelude.{nat_le}
use Rattle.std.proofs.lemmas.Bool.{and_parts}
use Rattle.std.proofs.lemmas.Bool.Decides.{nat_tests}
use Rattle.md_engine.specs.declared.configuration.ParseOptions.{ParseOptions}
use Rattle.md_engine.specs.declared.event.Name.TheVariants as parts
use Rattle.md_engine.specs.declared.state.Name.TheVariants as n
use Rattle.md_engine.specs.declared.state.State.TheVariants.{Nok, Next}
use Rattle.md_engine.specs.declared.state.list_item.State.{State as ItemState}
use Rattle.md_engine.specs.declared.state.list_item.State.TheVariants as its
use Rattle.md_engine.specs.declared.tokenizer.Scratch.{Scratch}
use Rattle.md_engine.specs.Meaning.{Accepts, Behaviour, Cell, Feed, Here, Outcome, Refuses, Steps, here}
use Rattle.md_engine.specs.World.{World, after}
use Rattle.md_engine.specs.Sees.{Sees, ahead, cell_here}
use Rattle.md_engine.proofs.StepOf.{moves, passes}
use Rattle.md_containers.specs.Item.{cont_blank_code, cont_filled_code, cont_start_code, indent_code, inside_code}
use Rattle.md_containers.specs.Item.{item_is_further, least_width}
use Rattle.md_containers.specs.ItemRule.{HasItem, blank_behaves, filled_behaves, indent_at, indent_blank, indent_filled}
use Rattle.md_containers.specs.ItemRule.{inside_indent, item_on}
use Rattle.md_containers.proofs.ItemTermination.{least-some}
use Rattle.md_meaning.specs.Rest.{is_blank, is_white}
use Rattle.md_events.specs.Ahead.{begins_white, line_bytes, white_size}
use Rattle.md_events.specs.Events.Nested.{enter, exit}
use Rattle.md_events.specs.Look.{first_seen, looks_after}
use Rattle.md_events.specs.Spaces.{IsRest, asking, calmed, ends_line, sees_white}
use Rattle.md_events.proofs.AheadLemmas.{none-end, none-rest, none-size}
use Rattle.md_events.proofs.LookLemmas.{first-seen}
use Rattle.md_events.proofs.WhiteMeaning.{begins-seen}
use Rattle.md_containers.proofs.ItemPaddingMeaning.{choice_means}

-- at rest no indent was begun
rest-blank : (cells : List Cell) (h : Here) → IsRest h.scratch →
    blank_behaves h.scratch.whitespace.max cells h ≡ indent_blank cells h
rest-blank cells h is = ap (λ (s : Scratch). blank_behaves s.whitespace.max cells h) is

rest-filled : (cells : List Cell) (h : Here) → IsRest h.scratch →
    filled_behaves h.scratch.whitespace.max cells h ≡ indent_filled cells h
rest-filled cells h is = ap (λ (s : Scratch). filled_behaves s.whitespace.max cells h) is

on-ended : (cells : List Cell) (h : Here) (y : Bool) → ends_line (first_seen cells) ≡ true →
    h.flags.asked.starts_blank ≡ y →
    item_on cells h ≡ cond y (Refuses h.scratch h.flags) (Accepts h cells)
unfolding item_on
on-ended cells h y e f = rw e (ap (λ (x : Bool). cond x (Refuses h.scratch h.flags) (Accepts h cells)) f)

on-further : (cells : List Cell) (h : Here) → ends_line (first_seen cells) ≡ false →
    item_on cells h ≡ cond (is_blank (line_bytes cells)) (indent_blank cells h) (indent_filled cells h)
unfolding item_on
on-further cells h e = rw e refl

pub cont_start_means : (B : Behaviour) (options : ParseOptions) (feed : Feed) (w : World) (x y : Bool) →
    HasItem B options → Sees feed w → IsRest w.scratch → ends_line w.current ≡ x → w.flags.asked.starts_blank ≡ y →
    Steps B feed (Next (n.ListItem its.ContStart)) w (cont_start_code w x y).to (cont_start_code w x y).world
cont_start_means B options feed w true true has s is e f =
    passes B feed _ Nok w w refl refl
    (has.each its.ContStart _ _ ∙ on-ended (feed w.point) (here w) true (ap ends_line (first-seen feed w s) ∙ e) f)
cont_start_means B options feed w true false has s is e f =
    passes B feed _ _ w w refl refl
    (has.each its.ContStart _ _ ∙ on-ended (feed w.point) (here w) false (ap ends_line (first-seen feed w s) ∙ e) f)
cont_start_means B options feed w false y has s is e f =
    choice_means B options feed w its.ContStart its.ContBlank its.ContFilled (looks_after w) has s refl
    (has.each its.ContStart _ _ ∙ on-further (feed w.point) (here w) (ap ends_line (first-seen feed w s) ∙ e)
    ∙ ap₂ (λ (a b : Outcome). cond (is_blank (line_bytes (feed w.point))) a b)
    (sym (has.each its.ContBlank _ _ ∙ rest-blank (feed w.point) (here w) is))
    (sym (has.each its.ContFilled _ _ ∙ rest-filled (feed w.point) (here w) is)))

-- what is left at a state in an indent is the rest of the indent
record InIndent (B : Behaviour) (state : ItemState) : Type 0 where
  inside : (cells : List Cell) (h : Here) (more : ℕ) → h.scratch.whitespace.max ≡ suc more →
      B (n.ListItem state) cells h ≡ inside_indent cells h

indent-taken : (feed : Feed) (w : World) (min : ℕ) (h : Here) (o : Option ℕ) → sees_white o ≡ true →
    indent_at min (ahead feed w o) h ≡
    inside_indent (feed (after w.setting w.point))
    (record h {
      events = h.events ++ enter parts.SpaceOrTab h.point ∷ [];
      point = after w.setting w.point;
      scratch = asking min (least_width h.flags.asked) 1 h.scratch;
    })
unfolding indent_at
indent-taken feed w min h None e = cc
indent-taken feed w min h (Some b) e = rw e refl

indent-refused : (feed : Feed) (w : World) (min : ℕ) (h : Here) (o : Option ℕ) → sees_white o ≡ false →
    indent_at min (ahead feed w o) h ≡ Refuses h.scratch h.flags
unfolding indent_at
indent-refused feed w min h None e = refl
indent-refused feed w min h (Some b) e = rw e refl

indent_means : (B : Behaviour) (feed : Feed) (w : World) (state : ItemState) (min : ℕ) (x : Bool) → InIndent B state →
    Sees feed w → sees_white w.current ≡ x →
    B (n.ListItem state) (feed w.point) (here w) ≡ indent_at min (feed w.point) (here w) →
    Steps B feed (Next (n.ListItem state)) w (indent_code state min w x).to (indent_code state min w x).world
indent_means B feed w state min true at s e is =
    let some = least-some w.flags.asked in
    moves B feed _ _ w (indent_code state min w true).world (enter parts.SpaceOrTab w.point ∷ []) refl refl
    (is ∙ ap (λ (x : List Cell). indent_at min x (here w)) s.next ∙ indent-taken feed w min (here w) w.current e
    ∙ sym (at.inside _ _ some.0 some.1))
indent_means B feed w state min false at s e is =
    passes B feed _ Nok w w refl refl
    (is ∙ ap (λ (x : List Cell). indent_at min x (here w)) s.next ∙ indent-refused feed w min (here w) w.current e)

-- one column more of the indent
inside-more : (c : Cell) (cs : List Cell) (h : Here) → is_white c.byte ≡ true →
    h.scratch.whitespace.size < h.scratch.whitespace.max →
    inside_indent (c ∷ cs) h ≡
    inside_indent cs
    (record h {
      point = c.after;
      scratch = asking h.scratch.whitespace.min h.scratch.whitespace.max (h.scratch.whitespace.size + 1) h.scratch;
    })
unfolding inside_indent
inside-more c cs h e lt =
    let room : h.scratch.whitespace.max - h.scratch.whitespace.size ≡
    suc (h.scratch.whitespace.max - (h.scratch.whitespace.size + 1)) = omega arith in
    let m = white_size (h.scratch.whitespace.max - (h.scratch.whitespace.size + 1)) cs in
    let sum : h.scratch.whitespace.size + suc m ≡ h.scratch.whitespace.size + 1 + m = omega arith in
    rw (room, e, sum) refl

abbrev inside_ended : List Cell → Here → Outcome
inside_ended cells h =
    cond (nat_le h.scratch.whitespace.min h.scratch.whitespace.size)
    (Accepts
    (record {
      events = h.events ++ exit parts.SpaceOrTab h.point ∷ [];
      point = h.point;
      scratch = calmed h.scratch;
      flags = item_is_further h.flags;
    })
    cells)
    (Refuses (calmed h.scratch) h.flags)

-- where no more of it is taken
inside-none : (cells : List Cell) (h : Here) → begins_white cells ≡ false →
    inside_indent cells h ≡ inside_ended cells h
unfolding inside_indent
inside-none cells h e =
    let room = h.scratch.whitespace.max - h.scratch.whitespace.size in
    rw (none-end room cells h.point e, none-rest room cells e, none-size room cells e, add-zero) refl

inside-full : (cells : List Cell) (h : Here) → h.scratch.whitespace.max ≤ h.scratch.whitespace.size →
    inside_indent cells h ≡ inside_ended cells h
unfolding inside_indent
inside-full [] h le = rw add-zero refl
inside-full (c ∷ cs) h le =
    let room : h.scratch.whitespace.max - h.scratch.whitespace.size ≡ 0 = omega arith in rw (room, add-zero) refl

inside-stop : (feed : Feed) (w : World) → Sees feed w →
    sees_white w.current && nat_lt w.scratch.whitespace.size w.scratch.whitespace.max ≡ false →
    inside_indent (feed w.point) (here w) ≡ inside_ended (feed w.point) (here w)
inside-stop feed w s e = go (sees_white w.current) refl e
  where
    go : (x : Bool) → sees_white w.current ≡ x →
        x && nat_lt w.scratch.whitespace.size w.scratch.whitespace.max ≡ false →
        inside_indent (feed w.point) (here w) ≡ inside_ended (feed w.point) (here w)
    go true k f = inside-full (feed w.point) (here w) (grind (arith, nat_tests))
    go false k f = inside-none (feed w.point) (here w) (begins-seen feed w s ∙ k)

inside_means : (B : Behaviour) (feed : Feed) (w : World) (state : ItemState) (x y : Bool) (more : ℕ) →
    InIndent B state → Sees feed w → w.scratch.whitespace.max ≡ suc more →
    sees_white w.current && nat_lt w.scratch.whitespace.size w.scratch.whitespace.max ≡ x →
    nat_le w.scratch.whitespace.min w.scratch.whitespace.size ≡ y →
    Steps B feed (Next (n.ListItem state)) w (inside_code state w x y).to (inside_code state w x y).world
inside_means B feed w state true y more at s some e f = go w.current s.next e
  where
    go : (o : Option ℕ) → feed w.point ≡ ahead feed w o →
        sees_white o && nat_lt w.scratch.whitespace.size w.scratch.whitespace.max ≡ true →
        Steps B feed (Next (n.ListItem state)) w (inside_code state w true y).to (inside_code state w true y).world
    go None next k = cc
    go (Some b) next k =
        let both = and_parts (is_white b) (nat_lt w.scratch.whitespace.size w.scratch.whitespace.max) k in
        let lt : w.scratch.whitespace.size < w.scratch.whitespace.max = let less = both.1 in grind (arith, nat_tests) in
        passes B feed _ _ w (inside_code state w true y).world refl refl
        (at.inside _ _ more some ∙ ap (λ (x : List Cell). inside_indent x (here w)) next
        ∙ inside-more (cell_here feed w b) (feed (after w.setting w.point)) (here w) both.0 lt
        ∙ sym (at.inside _ _ more some))
inside_means B feed w state false true more at s some e f =
    moves B feed _ _ w (inside_code state w false true).world (exit parts.SpaceOrTab w.point ∷ []) refl refl
    (at.inside _ _ more some ∙ inside-stop feed w s e ∙ rw f refl)
inside_means B feed w state false false more at s some e f =
    passes B feed _ Nok w (inside_code state w false false).world refl refl
    (at.inside _ _ more some ∙ inside-stop feed w s e ∙ rw f refl)

in-blank : (B : Behaviour) (options : ParseOptions) → HasItem B options → InIndent B its.ContBlank
in-blank B options has = record {
  inside = λ cells h more e.
      has.each its.ContBlank _ _ ∙ ap (λ (max : ℕ). blank_behaves max cells h) e;
}

in-filled : (B : Behaviour) (options : ParseOptions) → HasItem B options → InIndent B its.ContFilled
in-filled B options has = record {
  inside = λ cells h more e.
      has.each its.ContFilled _ _ ∙ ap (λ (max : ℕ). filled_behaves max cells h) e;
}

pub cont_blank_means : (B : Behaviour) (options : ParseOptions) (feed : Feed) (w : World) (max : ℕ) →
    HasItem B options → Sees feed w → w.scratch.whitespace.max ≡ max →
    Steps B feed (Next (n.ListItem its.ContBlank)) w (cont_blank_code w max).to (cont_blank_code w max).world
cont_blank_means B options feed w (suc more) has s e =
    inside_means B feed w its.ContBlank _ _ more (in-blank B options has) s e refl refl
cont_blank_means B options feed w zero has s e =
    go w.flags.asked.starts_blank
    (has.each its.ContBlank _ _ ∙ ap (λ (max : ℕ). blank_behaves max (feed w.point) (here w)) e)
  where
    indent : Outcome
    indent = indent_at 1 (feed w.point) (here w)

    go : (x : Bool) →
        B (n.ListItem its.ContBlank) (feed w.point) (here w) ≡ cond x (Refuses w.scratch w.flags) indent →
        let a = cond x (record { to = Nok; world = w }) (indent_code its.ContBlank 1 w (sees_white w.current)) in
        Steps B feed (Next (n.ListItem its.ContBlank)) w a.to a.world
    go true is = passes B feed _ Nok w w refl refl is
    go false is =
        indent_means B feed w its.ContBlank 1 (sees_white w.current) (in-blank B options has) s refl is

pub cont_filled_means : (B : Behaviour) (options : ParseOptions) (feed : Feed) (w : World) (max : ℕ) →
    HasItem B options → Sees feed w → w.scratch.whitespace.max ≡ max →
    Steps B feed (Next (n.ListItem its.ContFilled)) w (cont_filled_code w max).to (cont_filled_code w max).world
cont_filled_means B options feed w (suc more) has s e =
    inside_means B feed w its.ContFilled _ _ more (in-filled B options has) s e refl refl
cont_filled_means B options feed w zero has s e =
    indent_means B feed w its.ContFilled (least_width w.flags.asked) (sees_white w.current) (in-filled B options has) s
    refl (has.each its.ContFilled _ _ ∙ ap (λ (max : ℕ). filled_behaves max (feed w.point) (here w)) e)
