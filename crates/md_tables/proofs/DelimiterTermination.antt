-- A delimiter row is and ends in any table that has it.
use Rattle.std.proofs.Common.{◌≡◌, ℕ, ◌+◌, ◌<◌, ◌≤◌, Bool, true, false, Option, List, refl, arith, ap, sym}
use Rattle.md_engine.specs.declared.event.Event.{Event}
use Rattle.md_engine.specs.declared.event.Name.{Name}
use Rattle.md_engine.specs.declared.event.Name.TheVariants as parts
use Rattle.md_engine.specs.declared.state.Name.TheVariants as n
use Rattle.md_engine.specs.declared.state.gfm_table.State.{State as TableState}
use Rattle.md_engine.specs.declared.state.gfm_table.State.TheVariants as its
use Rattle.md_engine.specs.declared.state.State.TheVariants.{Next, Retry}
use Rattle.md_engine.specs.declared.tokenizer.Scratch.{Scratch}
use Rattle.md_engine.specs.Scheme.{Ends, Fits, Scheme, Position, after_all, seen, position}
use Rattle.md_engine.specs.World.{World, looks}
use Rattle.md_engine.proofs.Falls.{later, later_at}
use Rattle.md_engine.proofs.Local.{accepts, consumes, refuses, turns}
use Rattle.md_engine.proofs.Points.{cells-grow, stays, takes}
use Rattle.md_events.specs.Spaces.{IsRest, any_size, calmed, small_indent}
use Rattle.md_events.specs.Transition.{entered, exited, taken}
use Rattle.md_events.proofs.SpacesTermination.{Does, WhiteFits, rest-none, seen-in, white_try}
use Rattle.md_tables.specs.Delimiter.{IsOfDelimiter}
use Rattle.md_tables.specs.Delimiter.IsOfDelimiter.{Before, CellAfter, CellBefore, Filler, LeftAfter}
use Rattle.md_tables.specs.Delimiter.IsOfDelimiter.{Refused, RightAfter, Start, ValueBefore}
use Rattle.md_tables.specs.Delimiter.{Aligns, Dash, Divides, IsCounting, Mark, Other, Stops, White, before_code}
use Rattle.md_tables.specs.Delimiter.{cell_after_code, delimiter_ready, delimiter_scheme, delimiter_transition}
use Rattle.md_tables.specs.Delimiter.{ends_code, filler_code, left_after_code, mark, marked, refused, row_entered}
use Rattle.md_tables.specs.Delimiter.{row_exited, uncounted, unfilled, value_before_code, white_on}

pub record DelimiterFits (T : Scheme) : Type 1 where
  pub white : WhiteFits T
  pub each : (state : TableState) → IsOfDelimiter state → Fits T delimiter_scheme (n.GfmTable state)

abbrev ready : World → Scheme → Type 0
ready w T = IsCounting (position w) × Ends IsRest IsRest (position w) (after_all T w.frames)

-- it refuses at rest
refused_ends : (T : Scheme) (state : TableState) (w : World) → ready w T → Does T (n.GfmTable state) w (refused w)
refused_ends T state w r = (refuses T _ w _ _ w.events (uncounted w.scratch) r.1 r.0.rest, refl)

-- it goes to another state
turned_ends : (T : Scheme) (state next : TableState) (w : World) (events : List Event) →
    IsOfDelimiter state → IsOfDelimiter next → DelimiterFits T → ready w T →
    (delimiter_scheme.rank (n.GfmTable next) (position w)).number <
    (delimiter_scheme.rank (n.GfmTable state) (position w)).number →
    Does T (n.GfmTable state) w
    (record { to = Retry (n.GfmTable next); world = record w { events = events } })
turned_ends T state next w events a b has r less = (
  turns T delimiter_scheme (n.GfmTable state) (n.GfmTable next) w events w.scratch
      (has.each state a) (has.each next b) (
        r.0,
        later IsRest IsRest (position w) (after_all T w.frames) w.point w.scratch (stays w.setting.limit w.point) r.1,
      )
      (omega arith) less,
  refl,
)

-- it takes what is here
taken_ends : (T : Scheme) (state next : TableState) (w : World) (events : List Event) (s : Scratch) →
    IsOfDelimiter state → IsOfDelimiter next → DelimiterFits T → ready w T → w.point.index < w.setting.limit →
    s.size ≤ w.scratch.size + 1 → uncounted s ≡ uncounted w.scratch →
    Does T (n.GfmTable state) w
    (record { to = Next (n.GfmTable next); world = record (taken w) { events = events; scratch = s } })
taken_ends T state next w events s a b has r inside le same = (
  consumes T delimiter_scheme _ _ w events s (has.each state a) (has.each next b) inside (
    record { size = omega (arith, r.0.size, le, cells-grow w.setting w.point); rest = rw same r.0.rest },
    later _ _ (position w) _ _ _ (takes w.setting w.point inside) r.1,
  )
      (omega arith),
  refl,
)

-- whitespace, from a state whose rank is above that of what follows
white_ends : (T : Scheme) (state next : TableState) (w : World) (events : List Event) (max : ℕ) (x : Bool) →
    IsOfDelimiter state → IsOfDelimiter next → DelimiterFits T → ready w T →
    ((y : Position) →
    (delimiter_scheme.rank (n.GfmTable next) y).number < (delimiter_scheme.tries (n.GfmTable next)).number) →
    (delimiter_scheme.tries (n.GfmTable next)).number < (delimiter_scheme.rank (n.GfmTable state) (position w)).number →
    Does T (n.GfmTable state) w (white_on (record w { events = events }) max next x)
white_ends T state next w events max true a b has r low less =
    white_try T delimiter_scheme (n.GfmTable state) (n.GfmTable next) w events w.scratch 0 max IsRest IsRest has.white
    (has.each state a) (has.each next b) (rest-none (uncounted w.scratch) r.0.rest) (λ some. absurd (omega arith)) r.1
    (λ q t up way. (
      record { size = omega (arith, r.0.size, way.before); rest = ap calmed r.0.rest },
      later_at _ _ (position w) _ q t _ up way r.1,
    ))
    (omega arith) (omega arith) (λ t up. low _) less
white_ends T state next w events max false a b has r low less =
    let under = low (position w) in
    turned_ends T state next w events a b has r (omega (arith, under, less))

-- where a mark is the text may be read
abbrev may_be_here : Mark → Bool
may_be_here Stops = false
may_be_here _ = true

here-in : (w : World) (x : Mark) → mark (seen (position w)) ≡ x → may_be_here x ≡ true → w.point.index < w.setting.limit
here-in w x e is =
    seen-in (position w) (λ (o : Option ℕ). may_be_here (mark o)) refl (rw e is)

-- a pipe or a colon is taken
marked_ends : (T : Scheme) (state next : TableState) (w : World) (events : List Event) (name : Name) →
    IsOfDelimiter state → IsOfDelimiter next → DelimiterFits T → ready w T → w.point.index < w.setting.limit →
    Does T (n.GfmTable state) w (marked (record w { events = events }) name next)
marked_ends T state next w events name a b has r inside =
    taken_ends T state next w (marked (record w { events = events }) name next).world.events
    (record w.scratch { seen = true }) a b has r inside (omega arith) refl

-- Each state.

before_ends : (T : Scheme) (w : World) (x : Mark) → DelimiterFits T → ready w T → mark (seen (position w)) ≡ x →
    Does T (n.GfmTable its.HeadDelimiterBefore) w (before_code w x)
before_ends T w Dash has r e =
    turned_ends T its.HeadDelimiterBefore its.HeadDelimiterValueBefore w w.events Before ValueBefore has r (omega arith)
before_ends T w Aligns has r e =
    turned_ends T its.HeadDelimiterBefore its.HeadDelimiterValueBefore w w.events Before ValueBefore has r (omega arith)
before_ends T w Divides has r e =
    marked_ends T its.HeadDelimiterBefore its.HeadDelimiterCellBefore w w.events parts.GfmTableCellDivider Before
    CellBefore has r
    (here-in w Divides e refl)
before_ends T w Stops has r e = refused_ends T its.HeadDelimiterBefore w r
before_ends T w White has r e = refused_ends T its.HeadDelimiterBefore w r
before_ends T w Other has r e = refused_ends T its.HeadDelimiterBefore w r

value_before_ends : (T : Scheme) (w : World) (x : Mark) → DelimiterFits T → ready w T → mark (seen (position w)) ≡ x →
    Does T (n.GfmTable its.HeadDelimiterValueBefore) w (value_before_code w x)
value_before_ends T w Stops has r e =
    turned_ends T its.HeadDelimiterValueBefore its.HeadDelimiterCellAfter w w.events ValueBefore CellAfter has r
    (omega arith)
value_before_ends T w Aligns has r e =
    marked_ends T its.HeadDelimiterValueBefore its.HeadDelimiterLeftAlignmentAfter w w.events
    parts.GfmTableDelimiterMarker ValueBefore LeftAfter has r (here-in w Aligns e refl)
value_before_ends T w Dash has r e =
    turned_ends T its.HeadDelimiterValueBefore its.HeadDelimiterLeftAlignmentAfter w w.events ValueBefore LeftAfter has
    r (omega arith)
value_before_ends T w White has r e = refused_ends T its.HeadDelimiterValueBefore w r
value_before_ends T w Divides has r e = refused_ends T its.HeadDelimiterValueBefore w r
value_before_ends T w Other has r e = refused_ends T its.HeadDelimiterValueBefore w r

left_after_ends : (T : Scheme) (w : World) (x : Mark) → DelimiterFits T → ready w T → mark (seen (position w)) ≡ x →
    Does T (n.GfmTable its.HeadDelimiterLeftAlignmentAfter) w (left_after_code w x)
left_after_ends T w Dash has r e =
    taken_ends T its.HeadDelimiterLeftAlignmentAfter its.HeadDelimiterFiller w
    (entered w parts.GfmTableDelimiterFiller).events (record w.scratch { size = w.scratch.size + 1 }) LeftAfter
    Filler has r
    (here-in w Dash e refl) (omega arith) refl
left_after_ends T w Stops has r e = refused_ends T its.HeadDelimiterLeftAlignmentAfter w r
left_after_ends T w White has r e = refused_ends T its.HeadDelimiterLeftAlignmentAfter w r
left_after_ends T w Divides has r e = refused_ends T its.HeadDelimiterLeftAlignmentAfter w r
left_after_ends T w Aligns has r e = refused_ends T its.HeadDelimiterLeftAlignmentAfter w r
left_after_ends T w Other has r e = refused_ends T its.HeadDelimiterLeftAlignmentAfter w r

unfilled_ends : (T : Scheme) (w : World) → DelimiterFits T → ready w T →
    Does T (n.GfmTable its.HeadDelimiterFiller) w (unfilled w)
unfilled_ends T w has r =
    turned_ends T its.HeadDelimiterFiller its.HeadDelimiterRightAlignmentAfter w
    (exited w parts.GfmTableDelimiterFiller).events Filler RightAfter has r (omega arith)

filler_ends : (T : Scheme) (w : World) (x : Mark) → DelimiterFits T → ready w T → mark (seen (position w)) ≡ x →
    Does T (n.GfmTable its.HeadDelimiterFiller) w (filler_code w x)
filler_ends T w Dash has r e =
    taken_ends T its.HeadDelimiterFiller its.HeadDelimiterFiller w w.events w.scratch Filler Filler has r
    (here-in w Dash e refl)
    (omega arith) refl
filler_ends T w Aligns has r e =
    marked_ends T its.HeadDelimiterFiller its.HeadDelimiterRightAlignmentAfter w
    (exited w parts.GfmTableDelimiterFiller).events parts.GfmTableDelimiterMarker Filler RightAfter has r
    (here-in w Aligns e refl)
filler_ends T w Stops has r e = unfilled_ends T w has r
filler_ends T w White has r e = unfilled_ends T w has r
filler_ends T w Divides has r e = unfilled_ends T w has r
filler_ends T w Other has r e = unfilled_ends T w has r

ends_ends : (T : Scheme) (w : World) (x : Bool) → ready w T →
    Does T (n.GfmTable its.HeadDelimiterCellAfter) w (ends_code w x)
ends_ends T w true r = (accepts T _ w _ _ (row_exited w).events (uncounted w.scratch) r.1 r.0.rest, refl)
ends_ends T w false r = refused_ends T its.HeadDelimiterCellAfter w r

cell_after_ends : (T : Scheme) (w : World) (x : Mark) → DelimiterFits T → ready w T → mark (seen (position w)) ≡ x →
    Does T (n.GfmTable its.HeadDelimiterCellAfter) w (cell_after_code w x)
cell_after_ends T w Stops has r e = ends_ends T w _ r
cell_after_ends T w Divides has r e =
    marked_ends T its.HeadDelimiterCellAfter its.HeadDelimiterCellBefore w w.events parts.GfmTableCellDivider CellAfter
    CellBefore has r
    (here-in w Divides e refl)
cell_after_ends T w White has r e = refused_ends T its.HeadDelimiterCellAfter w r
cell_after_ends T w Aligns has r e = refused_ends T its.HeadDelimiterCellAfter w r
cell_after_ends T w Dash has r e = refused_ends T its.HeadDelimiterCellAfter w r
cell_after_ends T w Other has r e = refused_ends T its.HeadDelimiterCellAfter w r

-- all of them
pub delimiter_terminates : (T : Scheme) (state : TableState) (w : World) → IsOfDelimiter state → DelimiterFits T →
    w.current ≡ looks w →
    delimiter_ready (n.GfmTable state) (position w) (after_all T w.frames) →
    Does T (n.GfmTable state) w (delimiter_transition state w)
delimiter_terminates T _ w Start has c r =
    white_ends T its.HeadDelimiterStart its.HeadDelimiterBefore w (row_entered w).events
    (small_indent w.setting.options) _ Start Before has r (λ y. omega arith) (omega arith)
delimiter_terminates T _ w Before has c r = before_ends T w _ has r (ap mark (sym c))
delimiter_terminates T _ w CellBefore has c r =
    white_ends T its.HeadDelimiterCellBefore its.HeadDelimiterValueBefore w w.events any_size _ CellBefore ValueBefore
    has r (λ y. omega arith)
    (omega arith)
delimiter_terminates T _ w ValueBefore has c r = value_before_ends T w _ has r (ap mark (sym c))
delimiter_terminates T _ w LeftAfter has c r = left_after_ends T w _ has r (ap mark (sym c))
delimiter_terminates T _ w Filler has c r = filler_ends T w _ has r (ap mark (sym c))
delimiter_terminates T _ w RightAfter has c r =
    white_ends T its.HeadDelimiterRightAlignmentAfter its.HeadDelimiterCellAfter w w.events any_size _ RightAfter
    CellAfter has r
    (λ y. omega arith) (omega arith)
delimiter_terminates T _ w CellAfter has c r = cell_after_ends T w _ has r (ap mark (sym c))
delimiter_terminates T _ w Refused has c r = refused_ends T its.HeadDelimiterNok w r
