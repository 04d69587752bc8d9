-- The title of a definition is and ends in any table that has it.
use Rattle.std.proofs.Common.{◌≡◌, ℕ, ◌<◌, Bool, true, false, nat_eq, Option, Some, None, List, refl, arith, ap, sym}
use Rattle.md_meaning.specs.Ascii.{backslash}
use Rattle.md_meaning.specs.Definition.{title_closer}
use Rattle.md_engine.specs.declared.event.Event.{Event}
use Rattle.md_engine.specs.declared.event.Name.TheVariants.{Data, DefinitionTitleString}
use Rattle.md_engine.specs.declared.state.Name.TheVariants as n
use Rattle.md_engine.specs.declared.state.Name.{Name as StateName}
use Rattle.md_engine.specs.declared.state.title.State.{State as TitleState}
use Rattle.md_engine.specs.declared.state.title.State.TheVariants as its
use Rattle.md_engine.specs.declared.state.State.TheVariants.{Next}
use Rattle.md_engine.specs.declared.tokenizer.Scratch.{Scratch}
use Rattle.md_engine.specs.Scheme.{After, Fits, Scheme, after_all, seen, position}
use Rattle.md_engine.specs.World.{World, looks}
use Rattle.md_engine.proofs.Falls.{later, passed}
use Rattle.md_engine.proofs.Local.{consumes, refuses, refuses_later, turns}
use Rattle.md_engine.proofs.Points.{takes, takes_past}
use Rattle.md_link_definitions.specs.Chunks.{string_link}
use Rattle.md_link_definitions.specs.Title.{after_eol_transition, at_break_code, begin_code, closed, escape_code}
use Rattle.md_link_definitions.specs.Title.{inside_code, is_escaped, marked, opened, refused, start_code, title_ready}
use Rattle.md_link_definitions.specs.Title.{title_scheme, title_transition, unmarked}
use Rattle.md_events.specs.Spaces.{IsRest, is_current, later_ready}
use Rattle.md_events.specs.Transition.{entered, entered_link, exited, taken}
use Rattle.md_events.proofs.SpacesTermination.{Does, accepts-following, seen-in, seen-some}

-- a table that has the states of a title
pub record TitleFits (T : Scheme) : Type 1 where
  pub each : (state : TitleState) → Fits T title_scheme (n.Title state)

-- what each state after the opening mark is ready for
abbrev Between : World → After → Type 0
Between w K = title_ready (n.Title its.Inside) (position w) K

-- with the marks taken back a scratch at rest is at rest
pub marked-rest : (s : Scratch) (opener closer : ℕ) → IsRest s → IsRest (unmarked (marked opener closer s))
marked-rest s opener closer e = ap (λ (t : Scratch). unmarked (marked opener closer t)) e

-- the closing mark ends it
closes : (T : Scheme) (name : StateName) (w : World) (events : List Event) → Between w (after_all T w.frames) →
    w.point.index < w.setting.limit → Does T name w (closed (record w { events = events }))
closes T name w events r inside = (
  accepts-following T name w IsRest IsRest (closed (record w { events = events })).world.events
      (unmarked w.scratch) inside
      r.1 r.0.rest,
  refl,
)

-- and it may be refused everywhere
refused-here : (T : Scheme) (name : StateName) (w : World) → Between w (after_all T w.frames) →
    Does T name w (refused w)
refused-here T name w r = (refuses T name w _ _ w.events (unmarked w.scratch) r.1 r.0.rest, refl)

-- what is here is taken, and it continues
proceeds-following : (T : Scheme) (name next : TitleState) (w : World) → TitleFits T →
    Between w (after_all T w.frames) →
    w.point.index < w.setting.limit →
    (Between (taken w) (after_all T w.frames) →
    title_ready (n.Title next) (position (taken w)) (after_all T w.frames)) →
    Does T (n.Title name) w (record { to = Next (n.Title next); world = taken w })
proceeds-following T name next w has r inside ready = (
  consumes T title_scheme _ _ w w.events w.scratch (has.each name) (has.each next) inside
      (ready (r.0, later _ _ (position w) _ _ _ (takes w.setting w.point inside) r.1)) (omega arith),
  refl,
)

-- Each state.

-- before a title
start_ends : (T : Scheme) (w : World) (o : Option ℕ) → TitleFits T → later_ready (position w) (after_all T w.frames) →
    seen (position w) ≡ o → Does T (n.Title its.Start) w (start_code w o)
start_ends T w None has r e = (refuses_later T _ w _ _ w.events w.scratch r.1 r.0, refl)
start_ends T w (Some b) has r e = go (title_closer b) refl
  where
    inside : w.point.index < w.setting.limit
    inside = seen-some (position w) b e

    go : (x : Option ℕ) → title_closer b ≡ x → Does T (n.Title its.Start) w (opened w b x)
    go None k = (refuses_later T _ w _ _ w.events w.scratch r.1 r.0, refl)
    go (Some closer) k = (
      consumes T title_scheme _ _ w (opened w b (Some closer)).world.events (marked b closer w.scratch)
          (has.each its.Start) (has.each its.Begin) inside (
            record { marks = k; rest = marked-rest w.scratch b closer r.0 },
            passed _ _ (position w) _ _ _ (takes_past w.setting w.point inside) r.1,
          )
          (omega arith),
      refl,
    )

-- after the opening mark
begin_ends : (T : Scheme) (w : World) (x : Bool) → TitleFits T → Between w (after_all T w.frames) →
    is_current w.scratch.marker (seen (position w)) ≡ x → Does T (n.Title its.Begin) w (begin_code w x)
begin_ends T w true has r e =
    closes T _ w w.events r (seen-in (position w) (is_current w.scratch.marker) refl e)
begin_ends T w false has r e = (
  turns T title_scheme _ _ w (entered w DefinitionTitleString).events w.scratch (has.each its.Begin)
      (has.each its.AtBreak) r (omega arith) (omega arith),
  refl,
)

-- after the ending of a line
after_eol_ends : (T : Scheme) (w : World) → TitleFits T → Between w (after_all T w.frames) →
    Does T (n.Title its.AfterEol) w (after_eol_transition w)
after_eol_ends T w has r = (
  turns T title_scheme _ _ w (exited w Data).events w.scratch (has.each its.AfterEol) (has.each its.AtBreak) r
      (omega arith) (omega arith),
  refl,
)

-- before a line
at_break_ends : (T : Scheme) (w : World) (x : Bool) → TitleFits T → Between w (after_all T w.frames) →
    is_current w.scratch.marker (seen (position w)) ≡ x → Does T (n.Title its.AtBreak) w (at_break_code w x)
at_break_ends T w true has r e =
    closes T _ w (exited w DefinitionTitleString).events r (seen-in (position w) (is_current w.scratch.marker) refl e)
at_break_ends T w false has r e = (
  turns T title_scheme _ _ w (entered_link w Data string_link).events w.scratch (has.each its.AtBreak)
      (has.each its.Inside) r (omega arith) (omega arith),
  refl,
)

-- in a line
inside_ends : (T : Scheme) (w : World) (o : Option ℕ) → TitleFits T → Between w (after_all T w.frames) →
    seen (position w) ≡ o → Does T (n.Title its.Inside) w (inside_code w o)
inside_ends T w None has r e = refused-here T _ w r
inside_ends T w (Some b) has r e =
    go (nat_eq b w.scratch.marker) (nat_eq b w.scratch.marker_b) (nat_eq b 10) (nat_eq b backslash) refl refl refl refl
  where
    inside : w.point.index < w.setting.limit
    inside = seen-some (position w) b e

    go : (closer opener ending escape : Bool) → nat_eq b w.scratch.marker ≡ closer →
        nat_eq b w.scratch.marker_b ≡ opener → nat_eq b 10 ≡ ending → nat_eq b backslash ≡ escape →
        Does T (n.Title its.Inside) w (inside_code w (Some b))
    go true opener ending escape k l m i =
        rw k (closes T (n.Title its.Inside) w (exited (exited w Data) DefinitionTitleString).events r inside)
    go false true ending escape k l m i = rw (k, l) (refused-here T (n.Title its.Inside) w r)
    go false false true escape k l m i = rw (k, l, m)
        (proceeds-following T its.Inside its.AfterEol w has r inside (λ x. x))
    go false false false true k l m i = rw (k, l, m, i)
        (proceeds-following T its.Inside its.Escape w has r inside (λ x. x))
    go false false false false k l m i = rw (k, l, m, i)
        (proceeds-following T its.Inside its.Inside w has r inside (λ x. x))

-- after a backslash
escape_ends : (T : Scheme) (w : World) (x : Bool) → TitleFits T → Between w (after_all T w.frames) →
    is_escaped w.scratch (seen (position w)) ≡ x → Does T (n.Title its.Escape) w (escape_code w x)
escape_ends T w true has r e =
    proceeds-following T its.Escape its.Inside w has r (seen-in (position w) (is_escaped w.scratch) refl e) (λ x. x)
escape_ends T w false has r e = (
  turns T title_scheme _ _ w w.events w.scratch (has.each its.Escape) (has.each its.Inside) r (omega arith)
      (omega arith),
  refl,
)

-- all of them
pub title_terminates : (T : Scheme) (state : TitleState) (w : World) → TitleFits T → w.current ≡ looks w →
    title_ready (n.Title state) (position w) (after_all T w.frames) →
    Does T (n.Title state) w (title_transition state w)
title_terminates T its.Start w has c r = start_ends T w w.current has r (sym c)
title_terminates T its.Begin w has c r = begin_ends T w _ has r (ap (is_current w.scratch.marker) (sym c))
title_terminates T its.AfterEol w has c r = after_eol_ends T w has r
title_terminates T its.AtBreak w has c r = at_break_ends T w _ has r (ap (is_current w.scratch.marker) (sym c))
title_terminates T its.Inside w has c r = inside_ends T w w.current has r (sym c)
title_terminates T its.Escape w has c r = escape_ends T w _ has r (ap (is_escaped w.scratch) (sym c))
title_terminates T its.Nok w has c r = (refuses_later T _ w _ _ w.events w.scratch r.1 r.0, refl)
