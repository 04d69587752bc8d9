-- A destination is and ends in any table that has it.
use Rattle.std.proofs.Common.{◌≡◌, ℕ, ◌+◌, ◌-◌, ◌<◌, ◌≤◌, Bool, true, false, cond, nat_lt, Option, Some, None, refl}
use Rattle.std.proofs.Common.{arith, ap, sym, ◌∙◌}
use Rattle.std.proofs.lemmas.Bool.Decides.{nat_tests}
use Rattle.md_meaning.specs.Ascii.{greater_than}
use Rattle.md_engine.specs.declared.state.Name.TheVariants as n
use Rattle.md_engine.specs.declared.state.destination.State.{State as DestinationState}
use Rattle.md_engine.specs.declared.state.destination.State.TheVariants as its
use Rattle.md_engine.specs.declared.state.State.TheVariants.{Next}
use Rattle.md_engine.specs.declared.tokenizer.Scratch.{Scratch}
use Rattle.md_engine.specs.Scheme.{After, Ends, Fits, Good, Scheme, Position, after_all, ranked, seen, position}
use Rattle.md_engine.specs.World.{World, looks}
use Rattle.md_engine.proofs.Falls.{later}
use Rattle.md_engine.proofs.Local.{accepts, consumes, refuses, turns}
use Rattle.md_engine.proofs.Points.{cells-grow, takes}
use Rattle.md_link_definitions.specs.Destination.{Begin, Closes, Escapes, IsNested, Literal, Neither, Opens, Other}
use Rattle.md_link_definitions.specs.Destination.{Piece, Raw, Stops, begins, destination_ready, destination_scheme}
use Rattle.md_link_definitions.specs.Destination.{destination_transition, enclosed_before_code, enclosed_code}
use Rattle.md_link_definitions.specs.Destination.{enclosed_piece, escape_code, is_escaped, raw_code, raw_piece}
use Rattle.md_link_definitions.specs.Destination.{start_code, text_entered, text_exited, with_size, without_size}
use Rattle.md_link_definitions.proofs.DestinationLemmas.{enclosed-is}
use Rattle.md_events.specs.Spaces.{IsRest, is_current, rest_ready}
use Rattle.md_events.specs.Transition.{taken}
use Rattle.md_events.proofs.SpacesTermination.{Does, accepts-following, rest-size, seen-in}

-- a table that has the states of a destination
pub record DestinationFits (T : Scheme) : Type 1 where
  pub each : (state : DestinationState) → Fits T destination_scheme (n.Destination state)

-- What is here.

-- whether some of a destination does
abbrev some : Piece → Bool
some Opens = true
some Closes = true
some Escapes = true
some Other = true
some Stops = false

-- then it may be read,
inside-piece : (x : Position) (piece : Option ℕ → Piece) (p : Piece) → piece None ≡ Stops → piece (seen x) ≡ p →
    some p ≡ true → x.point.index < x.setting.limit
inside-piece x piece p none e is = seen-in x (λ (o : Option ℕ). some (piece o)) (ap some none) (ap some e ∙ is)

-- also where a backslash takes it
inside-escaped : (x : Position) (piece : Option ℕ → Piece) → piece None ≡ Stops → is_escaped (piece (seen x)) ≡ true →
    x.point.index < x.setting.limit
inside-escaped x piece none e = seen-in x (λ (o : Option ℕ). is_escaped (piece o)) (ap is_escaped none) e

-- and `<` may
abbrev literal : Begin → Bool
literal Literal = true
literal Raw = false
literal Neither = false

-- what closes the text between angle brackets is `>`
closes-marker : (o : Option ℕ) → enclosed_piece o ≡ Closes → is_current greater_than o ≡ true
closes-marker None e = cc
closes-marker (Some b) e = enclosed-is b Closes e

-- where no parenthesis is open the scratch is at rest
closed-rest : (s : Scratch) → nat_lt 0 s.size ≡ false → IsRest (without_size s) → IsRest s
closed-rest s e is =
    let none : s.size ≡ 0 = grind (arith, nat_tests) in ap (λ (k : ℕ). with_size k s) none ∙ is

-- A byte of it is taken: between angle brackets,
takes-literal : (T : Scheme) (w : World) (from to : DestinationState) → DestinationFits T →
    rest_ready (position w) (after_all T w.frames) → w.point.index < w.setting.limit →
    ((x : Position) (K : After) → rest_ready x K → destination_ready (n.Destination to) x K) →
    Good T (n.Destination from) w (Next (n.Destination to)) (taken w)
takes-literal T w from to has r inside ready =
    consumes T destination_scheme _ _ w w.events w.scratch (has.each from) (has.each to) inside
    (ready _ _ (r.0, later _ _ (position w) _ _ _ (takes w.setting w.point inside) r.1)) (omega arith)

-- and without them, where so many parentheses are open after it
takes-raw : (T : Scheme) (w : World) (from to : DestinationState) (size : ℕ) → DestinationFits T →
    IsNested (position w) × Ends IsRest IsRest (position w) (after_all T w.frames) → w.point.index < w.setting.limit →
    size ≤ w.scratch.size + 1 →
    ((x : Position) (K : After) → IsNested x × Ends IsRest IsRest x K → destination_ready (n.Destination to) x K) →
    Good T (n.Destination from) w (Next (n.Destination to)) (record (taken w) { scratch = with_size size w.scratch })
takes-raw T w from to size has r inside few ready =
    consumes T destination_scheme _ _ w w.events (with_size size w.scratch) (has.each from) (has.each to) inside
    (ready _ _ (
      record { size = omega (arith, few, r.0.size, cells-grow w.setting w.point); rest = r.0.rest },
      later _ _ (position w) _ _ _ (takes w.setting w.point inside) r.1,
    )) (omega arith)

-- Each state.

-- before a destination
start_ends : (T : Scheme) (w : World) (g : Begin) → DestinationFits T → rest_ready (position w) (after_all T w.frames) →
    begins (seen (position w)) ≡ g → Does T (n.Destination its.Start) w (start_code w g)
start_ends T w Literal has r e =
    let inside = seen-in (position w) (λ (o : Option ℕ). literal (begins o)) refl (ap literal e) in (
      consumes T destination_scheme _ (n.Destination its.EnclosedBefore) w (start_code w Literal).world.events w.scratch
          (has.each its.Start) (has.each its.EnclosedBefore) inside
          (r.0, later _ _ (position w) _ _ _ (takes w.setting w.point inside) r.1) (omega arith),
      refl,
    )
start_ends T w Raw has r e = (
  turns T destination_scheme _ (n.Destination its.Raw) w (start_code w Raw).world.events w.scratch (has.each its.Start)
      (has.each its.Raw)
      (record { size = omega (arith, rest-size w.scratch r.0); rest = ap without_size r.0 }, r.1) (omega arith)
      (omega arith),
  refl,
)
start_ends T w Neither has r e = (refuses T _ w _ _ w.events w.scratch r.1 r.0, refl)

-- after `<`, or at `>`
enclosed_before_ends : (T : Scheme) (w : World) (x : Bool) → DestinationFits T →
    rest_ready (position w) (after_all T w.frames) → is_current greater_than (seen (position w)) ≡ x →
    Does T (n.Destination its.EnclosedBefore) w (enclosed_before_code w x)
enclosed_before_ends T w true has r e = (
  accepts-following T (n.Destination its.EnclosedBefore) w _ _ (enclosed_before_code w true).world.events w.scratch
      (seen-in (position w) (is_current greater_than) refl e) r.1 r.0,
  refl,
)
enclosed_before_ends T w false has r e = (
  turns T destination_scheme _ (n.Destination its.Enclosed) w (text_entered w).events w.scratch
      (has.each its.EnclosedBefore) (has.each its.Enclosed) r (omega arith) (rw e (omega arith)),
  refl,
)

-- between angle brackets
enclosed_ends : (T : Scheme) (w : World) (p : Piece) → DestinationFits T →
    rest_ready (position w) (after_all T w.frames) →
    enclosed_piece (seen (position w)) ≡ p → Does T (n.Destination its.Enclosed) w (enclosed_code w p)
enclosed_ends T w Opens has r e = (refuses T _ w _ _ w.events w.scratch r.1 r.0, refl)
enclosed_ends T w Closes has r e = (
  turns T destination_scheme _ (n.Destination its.EnclosedBefore) w (text_exited w).events w.scratch
      (has.each its.Enclosed) (has.each its.EnclosedBefore) r (omega arith)
      (rw (closes-marker (seen (position w)) e) (omega arith)),
  refl,
)
enclosed_ends T w Escapes has r e = (
  takes-literal T w its.Enclosed its.EnclosedEscape has r (inside-piece (position w) enclosed_piece Escapes refl e refl)
      (λ x K a. a),
  refl,
)
enclosed_ends T w Other has r e = (
  takes-literal T w its.Enclosed its.Enclosed has r (inside-piece (position w) enclosed_piece Other refl e refl)
      (λ x K a. a),
  refl,
)
enclosed_ends T w Stops has r e = (refuses T _ w _ _ w.events w.scratch r.1 r.0, refl)

-- in the text, the rank is low
text-rank : (y : Bool) → (cond y (ranked 2 refl) (ranked 0 refl)).number < 3
text-rank true = omega arith
text-rank false = omega arith

-- after a backslash there
enclosed_escape_ends : (T : Scheme) (w : World) (x : Bool) → DestinationFits T →
    rest_ready (position w) (after_all T w.frames) → is_escaped (enclosed_piece (seen (position w))) ≡ x →
    Does T (n.Destination its.EnclosedEscape) w (escape_code its.Enclosed w x)
enclosed_escape_ends T w true has r e = (
  takes-literal T w its.EnclosedEscape its.Enclosed has r
      (inside-escaped (position w) enclosed_piece refl e) (λ x K a. a),
  refl,
)
enclosed_escape_ends T w false has r e = (
  turns T destination_scheme _ (n.Destination its.Enclosed) w w.events w.scratch (has.each its.EnclosedEscape)
      (has.each its.Enclosed) r (omega arith) (text-rank (is_current greater_than (seen (position w)))),
  refl,
)

-- without angle brackets
raw_ends : (T : Scheme) (w : World) (p : Piece) (x : Bool) → DestinationFits T →
    destination_ready (n.Destination its.Raw) (position w) (after_all T w.frames) → raw_piece (seen (position w)) ≡ p →
    nat_lt 0 w.scratch.size ≡ x → Does T (n.Destination its.Raw) w (raw_code w p x)
raw_ends T w Opens x has r e k = (
  takes-raw T w its.Raw its.Raw (w.scratch.size + 1) has r (inside-piece (position w) raw_piece Opens refl e refl)
      (omega arith) (λ y K a. a),
  refl,
)
raw_ends T w Closes true has r e k = (
  takes-raw T w its.Raw its.Raw (w.scratch.size - 1) has r (inside-piece (position w) raw_piece Closes refl e refl)
      (omega arith) (λ y K a. a),
  refl,
)
raw_ends T w Closes false has r e k =
    (refuses T _ w _ _ w.events w.scratch r.1 (closed-rest w.scratch k r.0.rest), refl)
raw_ends T w Escapes x has r e k = (
  takes-raw T w its.Raw its.RawEscape w.scratch.size has r (inside-piece (position w) raw_piece Escapes refl e refl)
      (omega arith) (λ y K a. a),
  refl,
)
raw_ends T w Other x has r e k = (
  takes-raw T w its.Raw its.Raw w.scratch.size has r (inside-piece (position w) raw_piece Other refl e refl)
      (omega arith) (λ y K a. a),
  refl,
)
raw_ends T w Stops true has r e k = (refuses T _ w _ _ w.events (without_size w.scratch) r.1 r.0.rest, refl)
raw_ends T w Stops false has r e k = (
  accepts T _ w _ _ (raw_code w Stops false).world.events w.scratch r.1 (closed-rest w.scratch k r.0.rest),
  refl,
)

-- after a backslash there
raw_escape_ends : (T : Scheme) (w : World) (x : Bool) → DestinationFits T →
    destination_ready (n.Destination its.RawEscape) (position w) (after_all T w.frames) →
    is_escaped (raw_piece (seen (position w))) ≡ x →
    Does T (n.Destination its.RawEscape) w (escape_code its.Raw w x)
raw_escape_ends T w true has r e = (
  takes-raw T w its.RawEscape its.Raw w.scratch.size has r (inside-escaped (position w) raw_piece refl e) (omega arith)
      (λ y K a. a),
  refl,
)
raw_escape_ends T w false has r e = (
  turns T destination_scheme _ (n.Destination its.Raw) w w.events w.scratch (has.each its.RawEscape) (has.each its.Raw)
      r (omega arith) (omega arith),
  refl,
)

-- all of them
pub destination_terminates : (T : Scheme) (state : DestinationState) (w : World) → DestinationFits T →
    w.current ≡ looks w →
    destination_ready (n.Destination state) (position w) (after_all T w.frames) →
    Does T (n.Destination state) w (destination_transition state w)
destination_terminates T its.Start w has c r = start_ends T w _ has r (ap begins (sym c))
destination_terminates T its.EnclosedBefore w has c r =
    enclosed_before_ends T w _ has r (ap (is_current greater_than) (sym c))
destination_terminates T its.Enclosed w has c r = enclosed_ends T w _ has r (ap enclosed_piece (sym c))
destination_terminates T its.EnclosedEscape w has c r =
    enclosed_escape_ends T w _ has r (ap (λ (o : Option ℕ). is_escaped (enclosed_piece o)) (sym c))
destination_terminates T its.Raw w has c r = raw_ends T w _ _ has r (ap raw_piece (sym c)) refl
destination_terminates T its.RawEscape w has c r =
    raw_escape_ends T w _ has r (ap (λ (o : Option ℕ). is_escaped (raw_piece o)) (sym c))
