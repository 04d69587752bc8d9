-- The states of a list item are and end in any table that has them.
use Rattle.std.proofs.Common.{◌≡◌, ℕ, zero, suc, ◌+◌, ◌<◌, ◌≤◌, Bool, true, false, cond, not, ◌&&◌, ◌||◌, nat_eq}
use Rattle.std.proofs.Common.{Option, Some, None, length, refl, arith, ap, sym, subst, ◌∙◌}
use Rattle.std.proofs.lemmas.Bool.Decides.{nat_tests}
use Rattle.md_engine.specs.declared.event.Name.TheVariants as parts
use Rattle.md_engine.specs.declared.state.Name.TheVariants as n
use Rattle.md_engine.specs.declared.state.State.TheVariants.{Nok, Next}
use Rattle.md_engine.specs.declared.state.blank_line.State.TheVariants as blank_line
use Rattle.md_engine.specs.declared.state.list_item.State.{State as ItemState}
use Rattle.md_engine.specs.declared.state.list_item.State.TheVariants as its
use Rattle.md_engine.specs.declared.state.thematic_break.State.TheVariants as thematic_break
use Rattle.md_engine.specs.declared.tokenizer.Frame.{Frame}
use Rattle.md_engine.specs.declared.tokenizer.Scratch.{Scratch}
use Rattle.md_engine.specs.declared.tokenizer.container.Container.{Container}
use Rattle.md_engine.specs.Scheme.{After, EndsLater, Fits, Grown, Scheme, Position}
use Rattle.md_engine.specs.Scheme.{after_all, moved_to, seen, position, spot_at}
use Rattle.md_engine.specs.World.{Setting, World, after, looks}
use Rattle.md_engine.proofs.Falls.{later, later_at, passed, passing_at}
use Rattle.md_engine.proofs.Local.{accepts, begins_try, consumes, refuses, refuses_later, turns}
use Rattle.md_engine.proofs.Points.{grown-same, stays, takes, takes_past}
use Rattle.md_containers.specs.Interrupts.{interrupts}
use Rattle.md_containers.specs.Item.{IsFilled, after_code, before_code, before_ordered_code, blank_code}
use Rattle.md_containers.specs.Item.{bullet_code, cont_blank_code, cont_filled_code, cont_start_code, filled_transition}
use Rattle.md_containers.specs.Item.{indent_code, indent_ready, inside_code, is_item_marker, item_level, item_rank}
use Rattle.md_containers.specs.Item.{item_ready, item_scheme, item_transition, item_tries, least_width, marker_code}
use Rattle.md_containers.specs.Item.{may_break, refused, prefix_other_code, sees, unseen}
use Rattle.md_containers.specs.Item.{value_code, whitespace_after_code, without_size}
use Rattle.md_containers.proofs.LaterStart.{good-later_start}
use Rattle.md_meaning.specs.Containers.{is_bullet, is_digit}
use Rattle.md_leaves.specs.Blank.{blank_scheme}
use Rattle.md_leaves.specs.Break.{break_scheme}
use Rattle.md_leaves.specs.LeafStart as leaf
use Rattle.md_leaves.proofs.BlankTermination.{BlankFits}
use Rattle.md_leaves.proofs.BreakTermination.{BreakFits}
use Rattle.md_events.specs.Look.{looks_after}
use Rattle.md_events.specs.Spaces.{IsRest, asking, calmed, ends_line, later_ready, rest_ready, sees_white}
use Rattle.md_events.specs.Transition.{entered, exited}
use Rattle.md_events.proofs.SpacesTermination.{Does, WhiteFits, rest-calm, seen-in, white_try}

pub record ItemFits (T : Scheme) : Type 1 where
  pub white : WhiteFits T
  pub blank : BlankFits T
  pub breaks : BreakFits T
  pub each : (state : ItemState) → Fits T item_scheme (n.ListItem state)

-- The start.

start_ends : (T : Scheme) (w : World) (x y : Bool) → ItemFits T → later_ready (position w) (after_all T w.frames) →
    Does T (n.ListItem its.Start) w (leaf.start_code parts.ListItem (n.ListItem its.Before) w x y)
start_ends T w x y has r =
    good-later_start T item_scheme parts.ListItem (n.ListItem its.Start) (n.ListItem its.Before) w x y
    (record {
      white = has.white;
      start_fits = has.each its.Start;
      next_fits = has.each its.Before;
      ready = λ x K h. h;
      level = omega arith;
      some = omega arith;
      falls = λ x. omega arith;
      tries = λ x. omega arith;
    })
    r

-- The check for a break.

-- what is ready at the point where a trial began that was taken back
back_later : (w : World) (K : After) (s : Scratch) (t : Setting) → EndsLater IsRest IsRest (position w) K → IsRest s →
    Grown w.setting t →
    later_ready (spot_at t w.point s) K
back_later w K s t e is up = (is, passing_at IsRest IsRest (position w) K w.point t s up (stays t.limit w.point) e)

break_ends : (T : Scheme) (w : World) → ItemFits T → later_ready (position w) (after_all T w.frames) →
    Does T (n.ListItem its.Before) w (bullet_code w true)
break_ends T w has r =
    let K = after_all T w.frames in
    let f : Frame = record {
      ok = Nok;
      nok = Next (n.ListItem its.BeforeUnordered);
      is_check = true;
      events_len = length w.events;
      point = w.point;
    } in (
      begins_try T item_scheme break_scheme _ (n.ThematicBreak thematic_break.Start) w IsRest IsRest
          w.events w.scratch f
          (has.each its.Before) (has.breaks.each thematic_break.Start) tt (has.each its.BeforeUnordered) refl
          (record {
            ok = λ s q t is up way. r.1.nok s w.point t is up;
            ok_level = omega arith;
            ok_rank = λ s t is up. omega arith;
            nok = λ s t is up. back_later w K s t r.1 is up;
            nok_level = omega arith;
            nok_rank = λ s t is up. omega arith;
          })
          (λ K e. (r.0, e)) (omega arith) (omega arith) (omega arith),
      refl,
    )

bullet_ends : (T : Scheme) (w : World) (x : Bool) → ItemFits T → later_ready (position w) (after_all T w.frames) →
    Does T (n.ListItem its.Before) w (bullet_code w x)
bullet_ends T w true has r = break_ends T w has r
bullet_ends T w false has r = (
  turns T item_scheme _ _ w w.events w.scratch (has.each its.Before) (has.each its.BeforeUnordered) r (omega arith)
      (omega arith),
  refl,
)

before_ends : (T : Scheme) (w : World) (o : Option ℕ) → ItemFits T → later_ready (position w) (after_all T w.frames) →
    Does T (n.ListItem its.Before) w (before_code w o)
before_ends T w None has r = (refuses_later T _ w _ _ w.events w.scratch r.1 r.0, refl)
before_ends T w (Some b) has r =
    go (is_bullet b) (is_digit b && (not (interrupts w.flags) || nat_eq b 49)) refl refl
  where
    go : (x y : Bool) → is_bullet b ≡ x → is_digit b && (not (interrupts w.flags) || nat_eq b 49) ≡ y →
        Does T (n.ListItem its.Before) w (before_code w (Some b))
    go true y e f = rw e (bullet_ends T w (may_break w b) has r)
    go false true e f = rw (e, f) (
      turns T item_scheme _ (n.ListItem its.BeforeOrdered) w w.events w.scratch (has.each its.Before)
          (has.each its.BeforeOrdered) r (omega arith) (omega arith),
      refl,
    )
    go false false e f = rw (e, f) (refuses_later T _ w _ _ w.events w.scratch r.1 r.0, refl)

-- The value and the marker.

before_ordered_ends : (T : Scheme) (w : World) (x : Bool) → ItemFits T →
    later_ready (position w) (after_all T w.frames) → Does T (n.ListItem its.BeforeOrdered) w (before_ordered_code w x)
before_ordered_ends T w true has r = (
  turns T item_scheme _ (n.ListItem its.Value) w (before_ordered_code w true).world.events w.scratch
      (has.each its.BeforeOrdered) (has.each its.Value) (ap without_size r.0, r.1) (omega arith) (omega arith),
  refl,
)
before_ordered_ends T w false has r = (refuses_later T _ w _ _ w.events w.scratch r.1 r.0, refl)

value_ended : (w : World) (K : After) → item_ready (n.ListItem its.Value) (position w) K →
    later_ready (spot_at w.setting w.point (without_size w.scratch)) K
value_ended w K r = (
  r.0,
  passing_at IsRest IsRest (position w) K w.point w.setting (without_size w.scratch) (grown-same w.setting)
      (stays w.setting.limit w.point) r.1,
)

value_ends : (T : Scheme) (w : World) (x y z : Bool) → ItemFits T →
    item_ready (n.ListItem its.Value) (position w) (after_all T w.frames) → sees is_digit (seen (position w)) ≡ x →
    Does T (n.ListItem its.Value) w (value_code w (x && y) z)
value_ends T w true true z has r e =
    let inside = seen-in (position w) (sees is_digit) refl e in (
      consumes T item_scheme _ _ w w.events _ (has.each its.Value) (has.each its.Value) inside (
        r.0,
        passing_at IsRest IsRest (position w) _ (after w.setting w.point) w.setting _
            (grown-same w.setting) (takes w.setting w.point inside) r.1,
      )
          (omega arith),
      refl,
    )
value_ends T w true false true has r e = (
  turns T item_scheme _ (n.ListItem its.Marker) w (exited w parts.ListItemValue).events (without_size w.scratch)
      (has.each its.Value) (has.each its.Marker) (value_ended w _ r) (omega arith) (omega arith),
  refl,
)
value_ends T w true false false has r e =
    (refuses_later T _ w _ _ w.events (without_size w.scratch) r.1 r.0, refl)
value_ends T w false y true has r e = (
  turns T item_scheme _ (n.ListItem its.Marker) w (exited w parts.ListItemValue).events (without_size w.scratch)
      (has.each its.Value) (has.each its.Marker) (value_ended w _ r) (omega arith) (omega arith),
  refl,
)
value_ends T w false y false has r e =
    (refuses_later T _ w _ _ w.events (without_size w.scratch) r.1 r.0, refl)

marker_ends : (T : Scheme) (w : World) (x : Bool) → ItemFits T → later_ready (position w) (after_all T w.frames) →
    sees is_item_marker (seen (position w)) ≡ x → Does T (n.ListItem its.Marker) w (marker_code w x)
marker_ends T w true has r e =
    let inside = seen-in (position w) (sees is_item_marker) refl e in (
      consumes T item_scheme _ _ w (marker_code w true).world.events w.scratch (has.each its.Marker)
          (has.each its.MarkerAfter) inside
          (r.0, passed _ _ (position w) _ _ _ (takes_past w.setting w.point inside) r.1)
          (omega arith),
      refl,
    )
marker_ends T w false has r e = (refuses_later T _ w _ _ w.events w.scratch r.1 r.0, refl)

-- The choice between a blank rest and another one.

-- two states that are ready here, and rank below a third
record IsChoice (T : Scheme) (w : World) (name blank filled : ItemState) : Type 0 where
  blank_ready : (s : Scratch) (t : Setting) → IsRest s → Grown w.setting t →
      item_ready (n.ListItem blank) (spot_at t w.point s) (after_all T w.frames)
  filled_ready : (s : Scratch) (t : Setting) → IsRest s → Grown w.setting t →
      item_ready (n.ListItem filled) (spot_at t w.point s) (after_all T w.frames)
  blank_level : item_level (n.ListItem blank) ≤ item_level (n.ListItem filled)
  filled_level : item_level (n.ListItem filled) ≤ item_level (n.ListItem name)
  name_level : 1 < item_level (n.ListItem name)
  blank_rank : (x : Position) → (item_rank (n.ListItem blank) x).number < (item_tries (n.ListItem filled)).number
  filled_rank : (x : Position) → (item_rank (n.ListItem filled) x).number < (item_tries (n.ListItem filled)).number
  name_rank : (item_tries (n.ListItem filled)).number < (item_rank (n.ListItem name) (position w)).number

choice_ends : (T : Scheme) (w : World) (name blank filled : ItemState) (o : Option ℕ) → ItemFits T → IsRest w.scratch →
    IsChoice T w name blank filled →
    Does T (n.ListItem name) w (blank_code blank filled w o)
choice_ends T w name blank filled None has is c = (
  begins_try T item_scheme blank_scheme (n.ListItem name) (n.BlankLine blank_line.Start) w IsRest IsRest w.events
      w.scratch
      (record {
        ok = Next (n.ListItem blank);
        nok = Next (n.ListItem filled);
        is_check = true;
        events_len = length w.events;
        point = w.point;
      })
      (has.each name) (has.blank.each blank_line.Start) (has.each blank) (has.each filled) refl
      (record {
        ok = λ s q t rest up way. c.blank_ready s t rest up;
        ok_level = c.blank_level;
        ok_rank = λ s t rest up. let low = c.blank_rank (spot_at t w.point s) in omega (arith, low);
        nok = λ s t rest up. c.filled_ready s t rest up;
        nok_level = omega arith;
        nok_rank = λ s t rest up. let low = c.filled_rank (spot_at t w.point s) in omega (arith, low);
      })
      (λ K e. (is, e)) c.name_level c.filled_level c.name_rank,
  refl,
)
choice_ends T w name blank filled (Some b) has is c = go (nat_eq b 10) refl
  where
    go : (x : Bool) → nat_eq b 10 ≡ x → Does T (n.ListItem name) w (blank_code blank filled w (Some b))
    go true e = rw e (
      turns T item_scheme _ (n.ListItem blank) w w.events w.scratch (has.each name) (has.each blank)
          (c.blank_ready w.scratch w.setting is (grown-same w.setting)) (omega (arith, c.blank_level, c.filled_level))
          (let low = c.blank_rank (position w) in omega (arith, low, c.name_rank)),
      refl,
    )
    go false e = rw e (
      turns T item_scheme _ (n.ListItem filled) w w.events w.scratch (has.each name) (has.each filled)
          (c.filled_ready w.scratch w.setting is (grown-same w.setting)) c.filled_level
          (let low = c.filled_rank (position w) in omega (arith, low, c.name_rank)),
      refl,
    )

-- After the marker.

marker_after_ends : (T : Scheme) (w : World) (o : Option ℕ) → ItemFits T →
    rest_ready (position w) (after_all T w.frames) →
    Does T (n.ListItem its.MarkerAfter) w (blank_code its.After its.MarkerAfterFilled w o)
marker_after_ends T w o has r =
    choice_ends T w its.MarkerAfter its.After its.MarkerAfterFilled o has r.0 (record {
      blank_ready =
          λ s t is up. (ap unseen is, later_at IsRest IsRest (position w) _ w.point t s up (stays t.limit w.point) r.1);
      filled_ready =
          λ s t is up. (is, later_at IsRest IsRest (position w) _ w.point t s up (stays t.limit w.point) r.1);
      blank_level = omega arith;
      filled_level = omega arith;
      name_level = omega arith;
      blank_rank = λ x. omega arith;
      filled_rank = λ x. omega arith;
      name_rank = omega arith;
    })

filled_ends : (T : Scheme) (w : World) → ItemFits T → rest_ready (position w) (after_all T w.frames) →
    Does T (n.ListItem its.MarkerAfterFilled) w (filled_transition w)
filled_ends T w has r = (
  begins_try T item_scheme item_scheme _ (n.ListItem its.Whitespace) w IsFilled IsFilled w.events
      (record w.scratch { seen = true })
      (record {
        ok = Next (n.ListItem its.After);
        nok = Next (n.ListItem its.PrefixOther);
        is_check = false;
        events_len = length w.events;
        point = w.point;
      })
      (has.each its.MarkerAfterFilled) (has.each its.Whitespace) (has.each its.After) (has.each its.PrefixOther) refl
      (record {
        ok = λ s q t is up way. (ap unseen is, later_at IsRest IsRest (position w) _ q t s up way r.1);
        ok_level = omega arith;
        ok_rank = λ s t is up. omega arith;
        nok =
            λ s t is up.
            (ap unseen is, later_at IsRest IsRest (position w) _ w.point t s up (stays t.limit w.point) r.1);
        nok_level = omega arith;
        nok_rank = λ s t is up. omega arith;
      })
      (λ K e. (ap (λ (s : Scratch). record s { seen = true }) r.0, e)) (omega arith) (omega arith) (omega arith),
  refl,
)

whitespace_ends : (T : Scheme) (w : World) → ItemFits T →
    item_ready (n.ListItem its.Whitespace) (position w) (after_all T w.frames) →
    Does T (n.ListItem its.Whitespace) w (item_transition its.Whitespace w)
whitespace_ends T w has r =
    white_try T item_scheme _ (n.ListItem its.WhitespaceAfter) w w.events w.scratch 1 4 IsFilled IsFilled has.white
    (has.each its.Whitespace) (has.each its.WhitespaceAfter) (ap (λ (s : Scratch). s.whitespace.size) r.0)
    (λ some. ap calmed r.0) r.1
    (λ q t up way. (ap calmed r.0, later_at IsFilled IsFilled (position w) _ q t _ up way r.1)) (omega arith)
    (omega arith)
    (λ t up. omega arith) (omega arith)

whitespace_after_ends : (T : Scheme) (w : World) (x : Bool) → ItemFits T →
    item_ready (n.ListItem its.WhitespaceAfter) (position w) (after_all T w.frames) →
    Does T (n.ListItem its.WhitespaceAfter) w (whitespace_after_code w x)
whitespace_after_ends T w true has r = (refuses T _ w IsFilled IsFilled w.events w.scratch r.1 r.0, refl)
whitespace_after_ends T w false has r = (accepts T _ w IsFilled IsFilled w.events w.scratch r.1 r.0, refl)

prefix_other_ends : (T : Scheme) (w : World) (x : Bool) → ItemFits T →
    item_ready (n.ListItem its.PrefixOther) (position w) (after_all T w.frames) → sees_white (seen (position w)) ≡ x →
    Does T (n.ListItem its.PrefixOther) w (prefix_other_code w x)
prefix_other_ends T w true has r e =
    let inside = seen-in (position w) sees_white refl e in (
      consumes T item_scheme _ _ w (prefix_other_code w true).world.events w.scratch (has.each its.PrefixOther)
          (has.each its.After) inside (r.0, later IsRest IsRest (position w) _ _ _ (takes w.setting w.point inside) r.1)
          (omega arith),
      refl,
    )
prefix_other_ends T w false has r e = (refuses T _ w IsRest IsRest w.events (unseen w.scratch) r.1 r.0, refl)

after_ends : (T : Scheme) (w : World) (x y : Bool) → ItemFits T →
    item_ready (n.ListItem its.After) (position w) (after_all T w.frames) →
    Does T (n.ListItem its.After) w (after_code w x y)
after_ends T w true y has r = (refuses T _ w IsRest IsRest w.events (unseen w.scratch) r.1 r.0, refl)
after_ends T w false y has r =
    (accepts T _ w IsRest IsRest (exited w parts.ListItemPrefix).events (unseen w.scratch) r.1 r.0, refl)

-- Further lines.

-- at rest no indent was begun
indent-rest : (x : Position) (K : After) → later_ready x K → indent_ready x.scratch.whitespace.max x K
indent-rest x K r =
    subst (λ (max : ℕ). indent_ready max x K) (sym (ap (λ (s : Scratch). s.whitespace.max) r.0)) r

cont_start_ends : (T : Scheme) (w : World) (x y : Bool) → ItemFits T →
    item_ready (n.ListItem its.ContStart) (position w) (after_all T w.frames) → ends_line (seen (position w)) ≡ x →
    Does T (n.ListItem its.ContStart) w (cont_start_code w x y)
cont_start_ends T w true y has r e = let bad : true ≡ false = sym e ∙ r.1 in cc
cont_start_ends T w false y has r e =
    choice_ends T w its.ContStart its.ContBlank its.ContFilled (looks_after w) has r.0.0 (record {
      blank_ready = λ s t is up. indent-rest _ _ (back_later w (after_all T w.frames) s t r.0.1 is up);
      filled_ready = λ s t is up. indent-rest _ _ (back_later w (after_all T w.frames) s t r.0.1 is up);
      blank_level = omega arith;
      filled_level = omega arith;
      name_level = omega arith;
      blank_rank = λ x. omega arith;
      filled_rank = λ x. omega arith;
      name_rank = omega arith;
    })

-- a column is asked for at least
pub least-some : (c : Container) → (more : ℕ) × (least_width c ≡ suc more)
least-some c = go c.width
  where
    go : (width : ℕ) → (more : ℕ) × (cond (nat_eq width 0) 1 width ≡ suc more)
    go zero = (0, refl)
    go (suc more) =
        let some : nat_eq (suc more) 0 ≡ false = grind (arith, nat_tests) in
        (more, ap (λ (x : Bool). cond x 1 (suc more)) some)

-- the states in an indent
record IsIndent (T : Scheme) (state : ItemState) : Type 1 where
  fits : Fits T item_scheme (n.ListItem state)
  ready : (x : Position) (K : After) → indent_ready x.scratch.whitespace.max x K → item_ready (n.ListItem state) x K

indent_ends : (T : Scheme) (state : ItemState) (min : ℕ) (w : World) (x : Bool) → IsIndent T state →
    later_ready (position w) (after_all T w.frames) → sees_white (seen (position w)) ≡ x →
    Does T (n.ListItem state) w (indent_code state min w x)
indent_ends T state min w true has r e =
    let inside = seen-in (position w) sees_white refl e in
    let s : Scratch = asking min (least_width w.flags.asked) 1 w.scratch in
    let y : Position = moved_to (position w) (after w.setting w.point) s in
    let some = least-some w.flags.asked in (
      consumes T item_scheme _ (n.ListItem state) w (entered w parts.SpaceOrTab).events s has.fits has.fits inside
          (has.ready y _
          (rw some.1
          (rest-calm w.scratch r.0, passed IsRest IsRest (position w) _ _ _ (takes_past w.setting w.point inside) r.1)))
          (omega arith),
      refl,
    )
indent_ends T state min w false has r e = (refuses_later T _ w _ _ w.events w.scratch r.1 r.0, refl)

inside_ends : (T : Scheme) (state : ItemState) (w : World) (x y z : Bool) (more : ℕ) → IsIndent T state →
    w.scratch.whitespace.max ≡ suc more → indent_ready (suc more) (position w) (after_all T w.frames) →
    sees_white (seen (position w)) ≡ x →
    Does T (n.ListItem state) w (inside_code state w (x && y) z)
inside_ends T state w true true z more has some r e =
    let inside = seen-in (position w) sees_white refl e in
    let s : Scratch =
    asking w.scratch.whitespace.min w.scratch.whitespace.max (w.scratch.whitespace.size + 1) w.scratch in
    let y : Position = moved_to (position w) (after w.setting w.point) s in (
      consumes T item_scheme _ (n.ListItem state) w w.events s has.fits has.fits inside
          (has.ready y _ (rw some (r.0, later IsRest IsRest (position w) _ _ _ (takes w.setting w.point inside) r.1)))
          (omega arith),
      refl,
    )
inside_ends T state w true false true more has some r e =
    (accepts T _ w IsRest IsRest (exited w parts.SpaceOrTab).events (calmed w.scratch) r.1 r.0, refl)
inside_ends T state w true false false more has some r e =
    (refuses T _ w IsRest IsRest w.events (calmed w.scratch) r.1 r.0, refl)
inside_ends T state w false y true more has some r e =
    (accepts T _ w IsRest IsRest (exited w parts.SpaceOrTab).events (calmed w.scratch) r.1 r.0, refl)
inside_ends T state w false y false more has some r e =
    (refuses T _ w IsRest IsRest w.events (calmed w.scratch) r.1 r.0, refl)

cont_blank_ends : (T : Scheme) (w : World) (max : ℕ) → ItemFits T → w.current ≡ looks w →
    w.scratch.whitespace.max ≡ max → indent_ready max (position w) (after_all T w.frames) →
    Does T (n.ListItem its.ContBlank) w (cont_blank_code w max)
cont_blank_ends T w zero has c e r = go w.flags.asked.starts_blank
  where
    go : (x : Bool) →
        Does T (n.ListItem its.ContBlank) w
        (cond x (refused w) (indent_code its.ContBlank 1 w (sees_white w.current)))
    go true = (refuses_later T _ w _ _ w.events w.scratch r.1 r.0, refl)
    go false =
        indent_ends T its.ContBlank 1 w (sees_white w.current)
        (record { fits = has.each its.ContBlank; ready = λ x K h. h }) r (ap sees_white (sym c))
cont_blank_ends T w (suc more) has c e r =
    inside_ends T its.ContBlank w (sees_white w.current) _ _ more
    (record { fits = has.each its.ContBlank; ready = λ x K h. h }) e r (ap sees_white (sym c))

cont_filled_ends : (T : Scheme) (w : World) (max : ℕ) → ItemFits T → w.current ≡ looks w →
    w.scratch.whitespace.max ≡ max → indent_ready max (position w) (after_all T w.frames) →
    Does T (n.ListItem its.ContFilled) w (cont_filled_code w max)
cont_filled_ends T w zero has c e r =
    indent_ends T its.ContFilled (least_width w.flags.asked) w (sees_white w.current)
    (record { fits = has.each its.ContFilled; ready = λ x K h. h }) r (ap sees_white (sym c))
cont_filled_ends T w (suc more) has c e r =
    inside_ends T its.ContFilled w (sees_white w.current) _ _ more
    (record { fits = has.each its.ContFilled; ready = λ x K h. h }) e r (ap sees_white (sym c))

-- each state of a list item
pub item_terminates : (T : Scheme) (state : ItemState) (w : World) → ItemFits T →
    w.current ≡ looks w → item_ready (n.ListItem state) (position w) (after_all T w.frames) →
    Does T (n.ListItem state) w (item_transition state w)
item_terminates T its.Start w has c r = start_ends T w _ _ has r
item_terminates T its.Before w has c r = before_ends T w w.current has r
item_terminates T its.BeforeUnordered w has c r = (
  turns T item_scheme _ _ w (entered w parts.ListItemPrefix).events w.scratch (has.each its.BeforeUnordered)
      (has.each its.Marker) r (omega arith) (omega arith),
  refl,
)
item_terminates T its.BeforeOrdered w has c r = before_ordered_ends T w _ has r
item_terminates T its.Value w has c r = value_ends T w _ _ _ has r (ap (sees is_digit) (sym c))
item_terminates T its.Marker w has c r = marker_ends T w _ has r (ap (sees is_item_marker) (sym c))
item_terminates T its.MarkerAfter w has c r = marker_after_ends T w (looks_after w) has r
item_terminates T its.MarkerAfterFilled w has c r = filled_ends T w has r
item_terminates T its.Whitespace w has c r = whitespace_ends T w has r
item_terminates T its.WhitespaceAfter w has c r = whitespace_after_ends T w _ has r
item_terminates T its.PrefixOther w has c r = prefix_other_ends T w _ has r (ap sees_white (sym c))
item_terminates T its.After w has c r = after_ends T w _ _ has r
item_terminates T its.ContStart w has c r = cont_start_ends T w _ _ has r (ap ends_line (sym c))
item_terminates T its.ContBlank w has c r = cont_blank_ends T w _ has c refl r
item_terminates T its.ContFilled w has c r = cont_filled_ends T w _ has c refl r
