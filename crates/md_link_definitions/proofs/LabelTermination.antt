-- A label is and ends in any table that has it.
use Rattle.std.specs.Prelude.{nat_le}
use Rattle.std.proofs.lemmas.Bool.Decides.{nat_tests}
use Rattle.std.proofs.Common.{◌≤◌, ◌+◌, ◌&&◌, ◌≡◌, ℕ, ◌<◌, Bool, true, false, cond, nat_eq, List, Option, Some, None}
use Rattle.std.proofs.Common.{refl, arith, ap, sym}
use Rattle.md_engine.specs.declared.event.Event.{Event}
use Rattle.md_engine.specs.declared.event.Name.TheVariants.{Data}
use Rattle.md_engine.specs.declared.state.Name.{Name as StateName}
use Rattle.md_engine.specs.declared.state.Name.TheVariants as n
use Rattle.md_engine.specs.declared.state.label.State.{State as LabelState}
use Rattle.md_engine.specs.declared.state.label.State.TheVariants as its
use Rattle.md_engine.specs.declared.state.State.TheVariants.{Retry}
use Rattle.md_engine.specs.declared.tokenizer.Scratch.{Scratch}
use Rattle.md_engine.specs.Scheme.{After, Ends, Fits, Scheme, Position, after_all, moved_to, seen, position}
use Rattle.md_engine.specs.World.{World, after, looks}
use Rattle.md_engine.proofs.Falls.{later, passed}
use Rattle.md_engine.proofs.Local.{consumes, refuses, refuses_later, turns}
use Rattle.md_engine.proofs.Points.{takes, takes_past}
use Rattle.md_link_definitions.specs.Chunks.{string_link}
use Rattle.md_link_definitions.specs.Label.{IsInLabel, at_break_code, close_code, counted, eol_after_code, escape_code}
use Rattle.md_link_definitions.specs.Label.{inside_code, is_escaped, is_full, label_ready, label_scheme}
use Rattle.md_link_definitions.specs.Label.{label_transition, refused, start_code, taken_as, unlabelled}
use Rattle.md_events.specs.Spaces.{IsRest, is_current, sees_white}
use Rattle.md_events.specs.Transition.{entered_link, exited, taken}
use Rattle.md_events.proofs.SpacesTermination.{Does, accepts-following, rest-size, seen-in, seen-some}

-- a table that has the states of a label
pub record LabelFits (T : Scheme) : Type 1 where
  pub each : (state : LabelState) → Fits T label_scheme (n.Label state)

-- what each state after `[` is ready for
abbrev InText : Position → After → Type 0
InText x K = IsInLabel x × Ends IsRest IsRest x K

-- what it owes stays owed after what is here
moved : (w : World) (K : After) (s : Scratch) → w.point.index < w.setting.limit → Ends IsRest IsRest (position w) K →
    Ends IsRest IsRest (moved_to (position w) (after w.setting w.point) s) K
moved w K s inside e = later _ _ (position w) K _ s (takes w.setting w.point inside) e

-- at rest nothing has been counted
begun-in : (w : World) → IsRest w.scratch → IsInLabel (record (position w) { point = after w.setting w.point })
begun-in w r = record { size = omega (arith, rest-size w.scratch r); rest = ap unlabelled r }

-- before a label
start_ends : (T : Scheme) (w : World) (x : Bool) → LabelFits T →
    label_ready (n.Label its.Start) (position w) (after_all T w.frames) → is_current 91 (seen (position w)) ≡ x →
    Does T (n.Label its.Start) w (start_code w x)
start_ends T w true has r e =
    let inside = seen-in (position w) (is_current 91) refl e in (
      consumes T label_scheme _ _ w (start_code w true).world.events w.scratch (has.each its.Start)
          (has.each its.AtBreak) inside
          (begun-in w r.0, passed _ _ (position w) _ _ _ (takes_past w.setting w.point inside) r.1) (omega arith),
      refl,
    )
start_ends T w false has r e =
    (refuses_later T _ w _ _ w.events w.scratch r.1 r.0, refl)

-- one that is refused
refused_ends : (T : Scheme) (name : StateName) (w : World) → InText (position w) (after_all T w.frames) →
    Does T name w (refused w)
refused_ends T name w r = (refuses T name w _ _ w.events (unlabelled w.scratch) r.1 r.0.rest, refl)

-- a label that ends here, with these events
close_ends : (T : Scheme) (name : StateName) (w : World) (events : List Event) (x : Bool) →
    InText (position w) (after_all T w.frames) → w.point.index < w.setting.limit →
    Does T name w (close_code (record w { events = events }) x)
close_ends T name w events true r inside = (
  accepts-following T name w _ _ (close_code (record w { events = events }) true).world.events (unlabelled w.scratch)
      inside r.1 r.0.rest,
  refl,
)
close_ends T name w events false r inside =
    (refuses T name w _ _ events (unlabelled w.scratch) r.1 r.0.rest, refl)

-- with room for it not too much is counted
still-in : (w : World) (b : ℕ) → IsInLabel (position w) → is_full w ≡ false →
    IsInLabel (record (position w) { point = after w.setting w.point; scratch = counted w b })
still-in w b is e = record { size = go (nat_eq w.point.vs 0) (nat_le 999 w.scratch.size) refl e; rest = is.rest }
  where
    go : (x y : Bool) → nat_le 999 w.scratch.size ≡ y → x && y ≡ false →
        cond x (w.scratch.size + 1) w.scratch.size ≤ 999
    go true true k l = cc
    go true false k l = let low : w.scratch.size < 999 = grind (arith, nat_tests) in omega arith
    go false y k l = is.size

-- a byte of its text
taken_ends : (T : Scheme) (state next : LabelState) (w : World) (b : ℕ) → LabelFits T →
    InText (position w) (after_all T w.frames) → w.point.index < w.setting.limit →
    ((x : Position) (K : After) → InText x K → label_ready (n.Label next) x K) →
    Does T (n.Label state) w (taken_as w b next)
taken_ends T state next w b has r inside ready = go (is_full w) refl
  where
    go : (x : Bool) → is_full w ≡ x → Does T (n.Label state) w (taken_as w b next)
    go true e = rw e (refused_ends T (n.Label state) w r)
    go false e =
        rw e (
          consumes T label_scheme _ _ w w.events (counted w b) (has.each state) (has.each next) inside
              (ready _ _ (still-in w b r.0 e, moved w _ (counted w b) inside r.1)) (omega arith),
          refl,
        )

-- at the begin of a line,
at_break_ends : (T : Scheme) (w : World) (o : Option ℕ) → LabelFits T → InText (position w) (after_all T w.frames) →
    seen (position w) ≡ o → Does T (n.Label its.AtBreak) w (at_break_code w o)
at_break_ends T w None has r e = refused_ends T _ w r
at_break_ends T w (Some b) has r e = go (nat_eq b 93) (nat_eq b 91) refl refl
  where
    begun : (x : Bool) → w.scratch.connect ≡ x →
        Does T (n.Label its.AtBreak) w
        (record { to = Retry (n.Label (cond x its.EolAfter its.Inside)); world = entered_link w Data string_link })
    begun true k = (
      turns T label_scheme _ _ w (entered_link w Data string_link).events w.scratch (has.each its.AtBreak)
          (has.each its.EolAfter) r (omega arith) (omega arith),
      refl,
    )
    begun false k = (
      turns T label_scheme _ _ w (entered_link w Data string_link).events w.scratch (has.each its.AtBreak)
          (has.each its.Inside) r (omega arith) (omega arith),
      refl,
    )

    go : (x y : Bool) → nat_eq b 93 ≡ x → nat_eq b 91 ≡ y → Does T (n.Label its.AtBreak) w (at_break_code w (Some b))
    go true y k l = rw k (close_ends T _ w w.events w.scratch.seen r (seen-some (position w) b e))
    go false true k l = rw (k, l) (refused_ends T _ w r)
    go false false k l = rw (k, l) (begun w.scratch.connect refl)

-- in the whitespace before it,
eol_after_ends : (T : Scheme) (w : World) (x : Bool) → LabelFits T → InText (position w) (after_all T w.frames) →
    sees_white (seen (position w)) ≡ x → Does T (n.Label its.EolAfter) w (eol_after_code w x)
eol_after_ends T w true has r e =
    let inside = seen-in (position w) sees_white refl e in (
      consumes T label_scheme _ _ w w.events w.scratch (has.each its.EolAfter) (has.each its.EolAfter) inside
          (record { size = r.0.size; rest = r.0.rest }, moved w _ w.scratch inside r.1) (omega arith),
      refl,
    )
eol_after_ends T w false has r e = (
  turns T label_scheme _ _ w w.events w.scratch (has.each its.EolAfter) (has.each its.Inside) r (omega arith)
      (omega arith),
  refl,
)

-- in the line,
inside_ends : (T : Scheme) (w : World) (o : Option ℕ) → LabelFits T → InText (position w) (after_all T w.frames) →
    seen (position w) ≡ o → Does T (n.Label its.Inside) w (inside_code w o)
inside_ends T w None has r e = refused_ends T _ w r
inside_ends T w (Some b) has r e = go (nat_eq b 93) (nat_eq b 91) (nat_eq b 10) refl refl refl
  where
    inside : w.point.index < w.setting.limit
    inside = seen-some (position w) b e

    by : (z : Bool) → Does T (n.Label its.Inside) w (taken_as w b (cond z its.Escape its.Inside))
    by true = taken_ends T its.Inside its.Escape w b has r inside (λ x K at. at)
    by false = taken_ends T its.Inside its.Inside w b has r inside (λ x K at. at)

    go : (x y z : Bool) → nat_eq b 93 ≡ x → nat_eq b 91 ≡ y → nat_eq b 10 ≡ z →
        Does T (n.Label its.Inside) w (inside_code w (Some b))
    go true y z k l m = rw k (close_ends T _ w (exited w Data).events w.scratch.seen r inside)
    go false true z k l m = rw (k, l) (refused_ends T _ w r)
    go false false true k l m =
        let s : Scratch = record w.scratch { connect = true } in
        rw (k, l, m) (
          consumes T label_scheme _ _ w (exited (taken w) Data).events s (has.each its.Inside) (has.each its.AtBreak)
              inside (record { size = r.0.size; rest = r.0.rest }, moved w _ s inside r.1) (omega arith),
          refl,
        )
    go false false false k l m = rw (k, l, m) (by (nat_eq b 92))

-- and after a backslash
escape_ends : (T : Scheme) (w : World) (o : Option ℕ) → LabelFits T → InText (position w) (after_all T w.frames) →
    seen (position w) ≡ o → Does T (n.Label its.Escape) w (escape_code w o)
escape_ends T w None has r e = (
  turns T label_scheme _ _ w w.events w.scratch (has.each its.Escape) (has.each its.Inside) r (omega arith)
      (omega arith),
  refl,
)
escape_ends T w (Some b) has r e = go (is_escaped b) refl
  where
    go : (x : Bool) → is_escaped b ≡ x → Does T (n.Label its.Escape) w (escape_code w (Some b))
    go true k =
        rw k (taken_ends T its.Escape its.Inside w b has r (seen-some (position w) b e) (λ x K at. at))
    go false k =
        rw k (
          turns T label_scheme _ _ w w.events w.scratch (has.each its.Escape) (has.each its.Inside) r (omega arith)
              (omega arith),
          refl,
        )

-- each state of a label
pub label_terminates : (T : Scheme) (state : LabelState) (w : World) → LabelFits T → w.current ≡ looks w →
    label_ready (n.Label state) (position w) (after_all T w.frames) →
    Does T (n.Label state) w (label_transition state w)
label_terminates T its.Start w has c r = start_ends T w _ has r (ap (is_current 91) (sym c))
label_terminates T its.AtBreak w has c r = at_break_ends T w w.current has r (sym c)
label_terminates T its.EolAfter w has c r = eol_after_ends T w _ has r (ap sees_white (sym c))
label_terminates T its.Inside w has c r = inside_ends T w w.current has r (sym c)
label_terminates T its.Escape w has c r = escape_ends T w w.current has r (sym c)
label_terminates T its.Nok w has c r = (refuses_later T _ w _ _ w.events w.scratch r.1 r.0, refl)
