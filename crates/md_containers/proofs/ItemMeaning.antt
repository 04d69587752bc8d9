-- Each state of a list item takes one step of its rule.
use Rattle.std.proofs.Common.{◌≡◌, ℕ, zero, suc, ◌+◌, ◌-◌, ◌<◌, ◌≤◌, Bool, true, false, cond, not, ◌&&◌, ◌||◌, nat_lt}
use Rattle.std.proofs.Common.{List, [], ◌∷◌, ◌++◌, Option, Some, None, refl, sym, ◌∙◌, ap, ap₂, arith, append_assoc}
use Rattle.std.proofs.Common.{add-zero}
use Rattle.std.proofs.lemmas.Bool.{and_parts}
use Rattle.std.proofs.lemmas.Bool.Decides.{nat_tests}
use Rattle.md_engine.specs.declared.configuration.ParseOptions.{ParseOptions}
use Rattle.md_engine.specs.declared.event.Event.{Event}
use Rattle.md_engine.specs.declared.event.Name.TheVariants as parts
use Rattle.md_engine.specs.declared.state.Name.TheVariants as n
use Rattle.md_engine.specs.declared.state.State.{State}
use Rattle.md_engine.specs.declared.state.State.TheVariants.{Nok, Next}
use Rattle.md_engine.specs.declared.state.list_item.State.{State as ItemState}
use Rattle.md_engine.specs.declared.state.list_item.State.TheVariants as its
use Rattle.md_engine.specs.Meaning.{Behaviour, Cell, Feed, Here, Refuses, Steps, here}
use Rattle.md_engine.specs.Scheme.{After, Position, position}
use Rattle.md_engine.specs.World.{World, after}
use Rattle.md_engine.specs.Sees.{Sees, ahead, cell_here}
use Rattle.md_engine.proofs.StepOf.{moves, passes, steps-as}
use Rattle.md_containers.specs.Interrupts.{interrupts}
use Rattle.md_containers.specs.Item.{ItemInvariant, before_ordered_code, ends_value, is_item_marker, item_ready}
use Rattle.md_containers.specs.Item.{item_transition, marker_code, sees, value_code, without_size}
use Rattle.md_containers.specs.ItemRule.{HasItem, ItemMeans, at_marker, at_value, after_indent, after_marker}
use Rattle.md_containers.specs.ItemRule.{following_value, digits_end, digits_rest, digits_size, in_value}
use Rattle.md_meaning.specs.Containers.{is_digit}
use Rattle.md_leaves.proofs.LeafStart.{HasStart, start-steps}
use Rattle.md_events.specs.Events.Nested.{enter, exit}
use Rattle.md_containers.proofs.ItemBeginMeaning.{before_means, unordered_means}
use Rattle.md_containers.proofs.ItemPaddingMeaning.{after_means, filled_means, marker_after_means, prefix_other_means}
use Rattle.md_containers.proofs.ItemPaddingMeaning.{whitespace_after_means, whitespace_means}
use Rattle.md_containers.proofs.ItemFurtherMeaning.{cont_blank_means, cont_filled_means, cont_start_means}

-- The value.

value-taken : (feed : Feed) (w : World) (h : Here) (o : Option ℕ) → sees is_digit o ≡ true →
    at_value (ahead feed w o) h ≡
    in_value (ahead feed w o)
    (record h { events = h.events ++ enter parts.ListItemPrefix h.point ∷ enter parts.ListItemValue h.point ∷ [] })
unfolding at_value
value-taken feed w h None e = cc
value-taken feed w h (Some b) e = rw e refl

value-none : (feed : Feed) (w : World) (h : Here) (o : Option ℕ) → sees is_digit o ≡ false →
    at_value (ahead feed w o) h ≡ Refuses h.scratch h.flags
unfolding at_value
value-none feed w h None e = refl
value-none feed w h (Some b) e = rw e refl

ordered_means : (B : Behaviour) (options : ParseOptions) (feed : Feed) (w : World) (x : Bool) → HasItem B options →
    Sees feed w → sees is_digit w.current ≡ x →
    Steps B feed (Next (n.ListItem its.BeforeOrdered)) w (before_ordered_code w x).to (before_ordered_code w x).world
ordered_means B options feed w true has s e =
    let a = enter parts.ListItemPrefix w.point in
    let b = enter parts.ListItemValue w.point in
    moves B feed _ _ w (before_ordered_code w true).world (a ∷ b ∷ []) refl (append_assoc w.events (a ∷ []) (b ∷ []))
    (has.each its.BeforeOrdered _ _ ∙ ap (λ (x : List Cell). at_value x (here w)) s.next
    ∙ value-taken feed w (here w) w.current e
    ∙ ap₂ (λ (cells : List Cell) (es : List Event). in_value cells (record (here w) { events = es })) (sym s.next)
    (sym (append_assoc w.events (a ∷ []) (b ∷ [])))
    ∙ sym (has.each its.Value _ _))
ordered_means B options feed w false has s e =
    passes B feed _ Nok w (before_ordered_code w false).world refl refl
    (has.each its.BeforeOrdered _ _ ∙ ap (λ (x : List Cell). at_value x (here w)) s.next
    ∙ value-none feed w (here w) w.current e)

-- one digit more
value-more : (c : Cell) (cs : List Cell) (h : Here) → is_digit c.byte ≡ true → h.scratch.size < 9 →
    in_value (c ∷ cs) h ≡
    in_value cs (record h { point = c.after; scratch = record h.scratch { size = h.scratch.size + 1 } })
unfolding in_value
value-more c cs h e lt =
    let room : 9 - h.scratch.size ≡ suc (9 - (h.scratch.size + 1)) = omega arith in
    let m = digits_size (9 - (h.scratch.size + 1)) cs in
    let sum : h.scratch.size + suc m ≡ h.scratch.size + 1 + m = omega arith in
    rw (room, e, sum) refl

-- where no digit is taken, the value ends
value-full : (cells : List Cell) (h : Here) → 9 ≤ h.scratch.size → in_value cells h ≡ following_value cells h
unfolding in_value
value-full [] h le = ap (λ (k : ℕ). following_value [] (record h { scratch = record h.scratch { size = k } }))
    (add-zero h.scratch.size)
value-full (c ∷ cs) h le =
    let room : 9 - h.scratch.size ≡ 0 = omega arith in rw (room, add-zero) refl

value-stop : (c : Cell) (cs : List Cell) (h : Here) (room : ℕ) → is_digit c.byte ≡ false →
    following_value (digits_rest room (c ∷ cs))
    (record h {
      point = digits_end room (c ∷ cs) h.point;
      scratch = record h.scratch { size = h.scratch.size + digits_size room (c ∷ cs) };
    }) ≡
    following_value (c ∷ cs) h
value-stop c cs h zero e = rw add-zero refl
value-stop c cs h (suc room) e = rw (e, add-zero) refl

value-ended : (feed : Feed) (w : World) (h : Here) (o : Option ℕ) → sees is_digit o && nat_lt h.scratch.size 9 ≡ false →
    in_value (ahead feed w o) h ≡ following_value (ahead feed w o) h
unfolding in_value
value-ended feed w h None e =
    ap (λ (k : ℕ). following_value [] (record h { scratch = record h.scratch { size = k } }))
    (add-zero h.scratch.size)
value-ended feed w h (Some b) e = go (is_digit b) refl e
  where
    go : (x : Bool) → is_digit b ≡ x → x && nat_lt h.scratch.size 9 ≡ false →
        in_value (ahead feed w (Some b)) h ≡ following_value (ahead feed w (Some b)) h
    go true k f = value-full (ahead feed w (Some b)) h (grind (arith, nat_tests))
    go false k f = value-stop (cell_here feed w b) (feed (after w.setting w.point)) h (9 - h.scratch.size) k

value-following : (feed : Feed) (w : World) (h : Here) (o : Option ℕ) (x : Bool) →
    sees ends_value o && (not (interrupts h.flags) || nat_lt h.scratch.size 2) ≡ x →
    following_value (ahead feed w o) h ≡
    cond x
    (at_marker (ahead feed w o)
    (record h { events = h.events ++ exit parts.ListItemValue h.point ∷ []; scratch = without_size h.scratch }))
    (Refuses (without_size h.scratch) h.flags)
unfolding following_value
value-following feed w h None true e = cc
value-following feed w h None false e = refl
value-following feed w h (Some b) x e = rw e refl

value_means : (B : Behaviour) (options : ParseOptions) (feed : Feed) (w : World) (x y : Bool) → HasItem B options →
    Sees feed w → sees is_digit w.current && nat_lt w.scratch.size 9 ≡ x →
    sees ends_value w.current && (not (interrupts w.flags) || nat_lt w.scratch.size 2) ≡ y →
    Steps B feed (Next (n.ListItem its.Value)) w (value_code w x y).to (value_code w x y).world
value_means B options feed w true y has s e f = go w.current s.next e
  where
    go : (o : Option ℕ) → feed w.point ≡ ahead feed w o → sees is_digit o && nat_lt w.scratch.size 9 ≡ true →
        Steps B feed (Next (n.ListItem its.Value)) w (value_code w true y).to (value_code w true y).world
    go None next k = cc
    go (Some b) next k =
        let both = and_parts (is_digit b) (nat_lt w.scratch.size 9) k in
        let lt : w.scratch.size < 9 = let less = both.1 in grind (arith, nat_tests) in
        passes B feed _ _ w (value_code w true y).world refl refl
        (has.each its.Value _ _ ∙ ap (λ (x : List Cell). in_value x (here w)) next
        ∙ value-more (cell_here feed w b) (feed (after w.setting w.point)) (here w) both.0 lt
        ∙ sym (has.each its.Value _ _))
value_means B options feed w false true has s e f =
    moves B feed _ _ w (value_code w false true).world (exit parts.ListItemValue w.point ∷ []) refl refl
    (has.each its.Value _ _ ∙ ap (λ (x : List Cell). in_value x (here w)) s.next
    ∙ value-ended feed w (here w) w.current e ∙ value-following feed w (here w) w.current true f
    ∙ ap
    (λ (x : List Cell).
    at_marker x
    (record (here w) {
      events = w.events ++ exit parts.ListItemValue w.point ∷ [];
      scratch = without_size w.scratch;
    }))
    (sym s.next)
    ∙ sym (has.each its.Marker _ _))
value_means B options feed w false false has s e f =
    passes B feed _ Nok w (value_code w false false).world refl refl
    (has.each its.Value _ _ ∙ ap (λ (x : List Cell). in_value x (here w)) s.next
    ∙ value-ended feed w (here w) w.current e ∙ value-following feed w (here w) w.current false f)

-- The marker.

marker-taken : (feed : Feed) (w : World) (h : Here) (o : Option ℕ) → sees is_item_marker o ≡ true →
    at_marker (ahead feed w o) h ≡
    after_marker (feed (after w.setting w.point))
    (record h {
      events =
          h.events ++ enter parts.ListItemMarker h.point ∷ exit parts.ListItemMarker (after w.setting w.point) ∷ [];
      point = after w.setting w.point;
    })
unfolding at_marker
marker-taken feed w h None e = cc
marker-taken feed w h (Some b) e = rw e refl

marker-none : (feed : Feed) (w : World) (h : Here) (o : Option ℕ) → sees is_item_marker o ≡ false →
    at_marker (ahead feed w o) h ≡ Refuses h.scratch h.flags
unfolding at_marker
marker-none feed w h None e = refl
marker-none feed w h (Some b) e = rw e refl

marker_means : (B : Behaviour) (options : ParseOptions) (feed : Feed) (w : World) (x : Bool) → HasItem B options →
    Sees feed w → sees is_item_marker w.current ≡ x →
    Steps B feed (Next (n.ListItem its.Marker)) w (marker_code w x).to (marker_code w x).world
marker_means B options feed w true has s e =
    let q = after w.setting w.point in
    let a = enter parts.ListItemMarker w.point in
    let b = exit parts.ListItemMarker q in
    moves B feed _ _ w (marker_code w true).world (a ∷ b ∷ []) refl (append_assoc w.events (a ∷ []) (b ∷ []))
    (has.each its.Marker _ _ ∙ ap (λ (x : List Cell). at_marker x (here w)) s.next
    ∙ marker-taken feed w (here w) w.current e
    ∙ ap (λ (es : List Event). after_marker (feed q) (record (here w) { events = es; point = q }))
    (sym (append_assoc w.events (a ∷ []) (b ∷ [])))
    ∙ sym (has.each its.MarkerAfter _ _))
marker_means B options feed w false has s e =
    passes B feed _ Nok w w refl refl
    (has.each its.Marker _ _ ∙ ap (λ (x : List Cell). at_marker x (here w)) s.next
    ∙ marker-none feed w (here w) w.current e)

-- All states.

-- the first state of an item is that of any construct
has_start : (B : Behaviour) (options : ParseOptions) → HasItem B options →
    HasStart B options parts.ListItem options.constructs.list_item (after_indent options) (n.ListItem its.Start)
    (n.ListItem its.Before)
has_start B options has = record { white = has.white; start_is = has.each its.Start; next_is = has.each its.Before }

-- each state of a list item takes one step of its rule
item_steps : (B : Behaviour) (feed : Feed) (state : ItemState) (w : World) → HasItem B w.setting.options → Sees feed w →
    ItemInvariant (n.ListItem state) (position w) →
    Steps B feed (Next (n.ListItem state)) w (item_transition state w).to (item_transition state w).world
item_steps B feed its.Start w has s at =
    start-steps B feed parts.ListItem _ (after_indent w.setting.options) _ _ w _ _ (has_start B _ has) s refl refl
item_steps B feed its.Before w has s at = before_means B feed w _ has s at s.next
item_steps B feed its.BeforeUnordered w has s at = unordered_means B _ feed w has
item_steps B feed its.BeforeOrdered w has s at = ordered_means B _ feed w _ has s refl
item_steps B feed its.Value w has s at = value_means B _ feed w _ _ has s refl refl
item_steps B feed its.Marker w has s at = marker_means B _ feed w _ has s refl
item_steps B feed its.MarkerAfter w has s at = marker_after_means B _ feed w has s
item_steps B feed its.MarkerAfterFilled w has s at = filled_means B _ feed w has at
item_steps B feed its.Whitespace w has s at = whitespace_means B _ feed w _ has refl
item_steps B feed its.WhitespaceAfter w has s at = whitespace_after_means B _ feed w _ has s refl
item_steps B feed its.PrefixOther w has s at = prefix_other_means B _ feed w _ has s refl
item_steps B feed its.After w has s at = after_means B _ feed w _ has refl
item_steps B feed its.ContStart w has s at = cont_start_means B _ feed w _ _ has s at refl refl
item_steps B feed its.ContBlank w has s at = cont_blank_means B _ feed w _ has s refl
item_steps B feed its.ContFilled w has s at = cont_filled_means B _ feed w _ has s refl

-- what a state that is ready has, its rule needs
ready-holds : (state : ItemState) (x : Position) (K : After) → item_ready (n.ListItem state) x K →
    ItemInvariant (n.ListItem state) x
ready-holds its.Before x K at = at.0
ready-holds its.MarkerAfterFilled x K at = at.0
ready-holds its.ContStart x K at = at.0.0
ready-holds _ x K at = tt

-- and so where its attempts end as they have to
pub item_means : (B : Behaviour) (feed : Feed) (state : ItemState) (w : World) (K : After) →
    HasItem B w.setting.options → Sees feed w → item_ready (n.ListItem state) (position w) K →
    Steps B feed (Next (n.ListItem state)) w (item_transition state w).to (item_transition state w).world
item_means B feed state w K has s at = item_steps B feed state w has s (ready-holds state (position w) K at)

-- what answers as the transition of a state does means what the state means
pub item_rule : (state : ItemState) (w new : World) (to : State) → to ≡ (item_transition state w).to →
    new ≡ (item_transition state w).world → ItemMeans state w to new
unfolding ItemMeans
item_rule state w new to e k at B feed has s = steps-as B feed _ _ to w _ new e k (item_steps B feed state w has s at)
