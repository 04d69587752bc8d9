-- The prefix of a quote is and ends in any table that has it.
use Rattle.std.proofs.Common.{◌≡◌, ℕ, ◌+◌, Bool, true, false, nat_eq, length, Option, Some, None, refl, arith, ap, sym}
use Rattle.std.specs.Char.{to_ascii_lowercase}
use Rattle.md_engine.specs.declared.event.Name.TheVariants as parts
use Rattle.md_engine.specs.declared.state.Name.{Name as StateName}
use Rattle.md_engine.specs.declared.state.Name.TheVariants as n
use Rattle.md_engine.specs.declared.state.State.TheVariants.{Next}
use Rattle.md_engine.specs.declared.state.blank_line.State.TheVariants as blank_line
use Rattle.md_engine.specs.declared.state.block_quote.State.{State as QuoteState}
use Rattle.md_engine.specs.declared.state.block_quote.State.TheVariants as its
use Rattle.md_engine.specs.declared.tokenizer.Scratch.{Scratch}
use Rattle.md_engine.specs.Scheme.{Fits, Scheme, after_all, seen, position}
use Rattle.md_engine.specs.World.{World, looks}
use Rattle.md_engine.proofs.Falls.{later, later_at, passed, passing_at}
use Rattle.md_engine.proofs.Local.{accepts, begins_try, consumes, refuses, refuses_later, turns}
use Rattle.md_engine.proofs.Points.{stays, takes, takes_past}
use Rattle.md_containers.specs.Quote.{alert_before_code, alert_mark_code, column_code, cont_after_code}
use Rattle.md_containers.specs.Quote.{indent_code, letter_code, marker_code, name_code, name_of, naming}
use Rattle.md_containers.specs.Quote.{quote_ready, quote_scheme, quote_transition, start_code, try_code, unnamed}
use Rattle.md_leaves.specs.Blank.{blank_scheme}
use Rattle.md_leaves.proofs.BlankTermination.{BlankFits}
use Rattle.md_meaning.specs.Bytes.{is_end}
use Rattle.md_events.specs.Spaces.{IsRest, is_current, later_ready, rest_ready, sees_white, small_indent}
use Rattle.md_events.specs.Transition.{entered, exited}
use Rattle.md_events.proofs.SpacesTermination.{Does, WhiteFits, accepts-following, rest-calm, rest-none, seen-in}
use Rattle.md_events.proofs.SpacesTermination.{seen-some, white_try, white_try_later}

pub record QuoteFits (T : Scheme) : Type 1 where
  pub white : WhiteFits T
  pub blank : BlankFits T
  pub each : (state : QuoteState) → Fits T quote_scheme (n.BlockQuote state)

-- The start.

quote_start_ends : (T : Scheme) (w : World) (x y : Bool) → QuoteFits T →
    later_ready (position w) (after_all T w.frames) → Does T (n.BlockQuote its.Start) w (start_code w x y)
quote_start_ends T w true true has r = (
  turns T quote_scheme _ (n.BlockQuote its.OpenStart) w (entered w parts.BlockQuote).events w.scratch
      (has.each its.Start) (has.each its.OpenStart) r (omega arith) (omega arith),
  refl,
)
quote_start_ends T w true false has r = (
  turns T quote_scheme _ (n.BlockQuote its.ContStart) w (entered w parts.BlockQuote).events w.scratch
      (has.each its.Start) (has.each its.ContStart) r (omega arith) (omega arith),
  refl,
)
quote_start_ends T w false y has r = (refuses_later T _ w _ _ w.events w.scratch r.1 r.0, refl)

-- The states of a prefix.

open_start_ends : (T : Scheme) (w : World) (x : Bool) → QuoteFits T → later_ready (position w) (after_all T w.frames) →
    Does T (n.BlockQuote its.OpenStart) w (indent_code its.OpenBefore w x)
open_start_ends T w true has r =
    white_try_later T quote_scheme _ (n.BlockQuote its.OpenBefore) w w.events w.scratch 1
    (small_indent w.setting.options) IsRest IsRest has.white (has.each its.OpenStart) (has.each its.OpenBefore)
    (rest-none w.scratch r.0) (λ some. rest-calm w.scratch r.0) r.1
    (λ q t up way. (rest-calm w.scratch r.0, passing_at _ _ (position w) _ q t _ up way r.1)) (omega arith)
    (omega arith)
    (λ t up. omega arith) (omega arith)
open_start_ends T w false has r = (
  turns T quote_scheme _ (n.BlockQuote its.OpenBefore) w w.events w.scratch (has.each its.OpenStart)
      (has.each its.OpenBefore) r (omega arith) (omega arith),
  refl,
)

cont_start_ends : (T : Scheme) (w : World) (x : Bool) → QuoteFits T → later_ready (position w) (after_all T w.frames) →
    Does T (n.BlockQuote its.ContStart) w (indent_code its.ContBefore w x)
cont_start_ends T w true has r =
    white_try_later T quote_scheme _ (n.BlockQuote its.ContBefore) w w.events w.scratch 1
    (small_indent w.setting.options) IsRest IsRest has.white (has.each its.ContStart) (has.each its.ContBefore)
    (rest-none w.scratch r.0) (λ some. rest-calm w.scratch r.0) r.1
    (λ q t up way. (rest-calm w.scratch r.0, passing_at _ _ (position w) _ q t _ up way r.1)) (omega arith)
    (omega arith)
    (λ t up. omega arith) (omega arith)
cont_start_ends T w false has r = (
  turns T quote_scheme _ (n.BlockQuote its.ContBefore) w w.events w.scratch (has.each its.ContStart)
      (has.each its.ContBefore) r (omega arith) (omega arith),
  refl,
)

open_before_ends : (T : Scheme) (w : World) (x : Bool) → QuoteFits T → later_ready (position w) (after_all T w.frames) →
    is_current 62 (seen (position w)) ≡ x → Does T (n.BlockQuote its.OpenBefore) w (marker_code its.OpenAfter w x)
open_before_ends T w true has r e =
    let inside = seen-in (position w) (is_current 62) refl e in (
      consumes T quote_scheme _ (n.BlockQuote its.OpenAfter) w (marker_code its.OpenAfter w true).world.events w.scratch
          (has.each its.OpenBefore) (has.each its.OpenAfter) inside
          (r.0, passed _ _ (position w) _ _ _ (takes_past w.setting w.point inside) r.1) (omega arith),
      refl,
    )
open_before_ends T w false has r e = (refuses_later T _ w _ _ w.events w.scratch r.1 r.0, refl)

cont_before_ends : (T : Scheme) (w : World) (x : Bool) → QuoteFits T → later_ready (position w) (after_all T w.frames) →
    is_current 62 (seen (position w)) ≡ x → Does T (n.BlockQuote its.ContBefore) w (marker_code its.ContAfter w x)
cont_before_ends T w true has r e =
    let inside = seen-in (position w) (is_current 62) refl e in (
      consumes T quote_scheme _ (n.BlockQuote its.ContAfter) w (marker_code its.ContAfter w true).world.events w.scratch
          (has.each its.ContBefore) (has.each its.ContAfter) inside
          (r.0, passed _ _ (position w) _ _ _ (takes_past w.setting w.point inside) r.1) (omega arith),
      refl,
    )
cont_before_ends T w false has r e = (refuses_later T _ w _ _ w.events w.scratch r.1 r.0, refl)

open_after_ends : (T : Scheme) (w : World) (x : Bool) → QuoteFits T → rest_ready (position w) (after_all T w.frames) →
    sees_white (seen (position w)) ≡ x → Does T (n.BlockQuote its.OpenAfter) w (column_code its.AlertTry w x)
open_after_ends T w true has r e =
    let inside = seen-in (position w) sees_white refl e in (
      consumes T quote_scheme _ (n.BlockQuote its.AlertTry) w (column_code its.AlertTry w true).world.events w.scratch
          (has.each its.OpenAfter) (has.each its.AlertTry) inside
          (r.0, later IsRest IsRest (position w) _ _ _ (takes w.setting w.point inside) r.1) (omega arith),
      refl,
    )
open_after_ends T w false has r e = (
  turns T quote_scheme _ (n.BlockQuote its.AlertTry) w w.events w.scratch (has.each its.OpenAfter)
      (has.each its.AlertTry) r (omega arith) (omega arith),
  refl,
)

cont_after_ends : (T : Scheme) (w : World) (x : Bool) → QuoteFits T → rest_ready (position w) (after_all T w.frames) →
    sees_white (seen (position w)) ≡ x → Does T (n.BlockQuote its.ContAfter) w (cont_after_code w x)
cont_after_ends T w true has r e =
    let inside = seen-in (position w) sees_white refl e in (
      accepts-following T (n.BlockQuote its.ContAfter) w _ _
          (cont_after_code w true).world.events w.scratch inside r.1 r.0,
      refl,
    )
cont_after_ends T w false has r e = (accepts T _ w _ _ (exited w parts.BlockQuotePrefix).events w.scratch r.1 r.0, refl)

-- The marker of an alert.

try_ends : (T : Scheme) (w : World) → QuoteFits T → rest_ready (position w) (after_all T w.frames) →
    Does T (n.BlockQuote its.AlertTry) w (try_code w)
try_ends T w has r = (
  begins_try T quote_scheme quote_scheme _ (n.BlockQuote its.AlertStart) w IsRest IsRest w.events w.scratch
      (record {
        ok = Next (n.BlockQuote its.PrefixEnd);
        nok = Next (n.BlockQuote its.PrefixEnd);
        is_check = false;
        events_len = length w.events;
        point = w.point;
      })
      (has.each its.AlertTry) (has.each its.AlertStart) (has.each its.PrefixEnd) (has.each its.PrefixEnd) refl
      (record {
        ok = λ s q t is up way. (is, later_at IsRest IsRest (position w) _ q t s up way r.1);
        ok_level = omega arith;
        ok_rank = λ s t is up. omega arith;
        nok = λ s t is up. (is, later_at IsRest IsRest (position w) _ w.point t s up (stays t.limit w.point) r.1);
        nok_level = omega arith;
        nok_rank = λ s t is up. omega arith;
      })
      (λ K e. (r.0, e)) (omega arith) (omega arith) (omega arith),
  refl,
)

alert_start_ends : (T : Scheme) (w : World) (x : Bool) → QuoteFits T → rest_ready (position w) (after_all T w.frames) →
    Does T (n.BlockQuote its.AlertStart) w (indent_code its.AlertBefore w x)
alert_start_ends T w true has r =
    white_try T quote_scheme _ (n.BlockQuote its.AlertBefore) w w.events w.scratch 1
    (small_indent w.setting.options) IsRest IsRest has.white (has.each its.AlertStart) (has.each its.AlertBefore)
    (rest-none w.scratch r.0) (λ some. rest-calm w.scratch r.0) r.1
    (λ q t up way. (rest-calm w.scratch r.0, later_at _ _ (position w) _ q t _ up way r.1)) (omega arith) (omega arith)
    (λ t up. omega arith) (omega arith)
alert_start_ends T w false has r = (
  turns T quote_scheme _ (n.BlockQuote its.AlertBefore) w w.events w.scratch (has.each its.AlertStart)
      (has.each its.AlertBefore) r (omega arith) (omega arith),
  refl,
)

alert_before_ends : (T : Scheme) (w : World) (x : Bool) → QuoteFits T → rest_ready (position w) (after_all T w.frames) →
    is_current 91 (seen (position w)) ≡ x → Does T (n.BlockQuote its.AlertBefore) w (alert_before_code w x)
alert_before_ends T w true has r e =
    let inside = seen-in (position w) (is_current 91) refl e in (
      consumes T quote_scheme _ (n.BlockQuote its.AlertMark) w (alert_before_code w true).world.events w.scratch
          (has.each its.AlertBefore) (has.each its.AlertMark) inside
          (r.0, later IsRest IsRest (position w) _ _ _ (takes w.setting w.point inside) r.1) (omega arith),
      refl,
    )
alert_before_ends T w false has r e = (refuses T _ w IsRest IsRest w.events w.scratch r.1 r.0, refl)

alert_mark_ends : (T : Scheme) (w : World) (x : Bool) → QuoteFits T → rest_ready (position w) (after_all T w.frames) →
    is_current 33 (seen (position w)) ≡ x → Does T (n.BlockQuote its.AlertMark) w (alert_mark_code w x)
alert_mark_ends T w true has r e =
    let inside = seen-in (position w) (is_current 33) refl e in (
      consumes T quote_scheme _ (n.BlockQuote its.AlertLetter) w w.events w.scratch (has.each its.AlertMark)
          (has.each its.AlertLetter) inside
          (r.0, later IsRest IsRest (position w) _ _ _ (takes w.setting w.point inside) r.1) (omega arith),
      refl,
    )
alert_mark_ends T w false has r e = (refuses T _ w IsRest IsRest w.events w.scratch r.1 r.0, refl)

-- The name of its kind.

letter_ends : (T : Scheme) (w : World) (o : Option ℕ) → QuoteFits T → rest_ready (position w) (after_all T w.frames) →
    seen (position w) ≡ o → Does T (n.BlockQuote its.AlertLetter) w (letter_code w o)
letter_ends T w None has r e = (refuses T _ w IsRest IsRest w.events w.scratch r.1 r.0, refl)
letter_ends T w (Some b) has r e = go (is_end (name_of (to_ascii_lowercase b))) refl
  where
    go : (x : Bool) → is_end (name_of (to_ascii_lowercase b)) ≡ x →
        Does T (n.BlockQuote its.AlertLetter) w (letter_code w (Some b))
    go true k = rw k (refuses T _ w IsRest IsRest w.events w.scratch r.1 r.0, refl)
    go false k =
        let inside = seen-some (position w) b e in
        let s : Scratch = naming (to_ascii_lowercase b) 1 w.scratch in
        rw k (
          consumes T quote_scheme _ (n.BlockQuote its.AlertName) w w.events s (has.each its.AlertLetter)
              (has.each its.AlertName) inside
              (ap unnamed r.0, later IsRest IsRest (position w) _ _ s (takes w.setting w.point inside) r.1)
              (omega arith),
          refl,
        )

-- a state of a table fits it
itself : (T : Scheme) (name : StateName) → Fits T T name
itself T name = record { ready = λ x K h. h; level = refl; rank = λ x. refl; tries = refl }

name_ends : (T : Scheme) (w : World) (left o : Option ℕ) → QuoteFits T →
    quote_ready (n.BlockQuote its.AlertName) (position w) (after_all T w.frames) → seen (position w) ≡ o →
    Does T (n.BlockQuote its.AlertName) w (name_code w left o)
name_ends T w left o has r e = go left o e
  where
    refused : Does T (n.BlockQuote its.AlertName) w (name_code w None None)
    refused = (refuses T _ w IsRest IsRest w.events (unnamed w.scratch) r.1 r.0, refl)

    closes : (b : ℕ) (x : Bool) → seen (position w) ≡ Some b → nat_eq b 93 ≡ x →
        Does T (n.BlockQuote its.AlertName) w (name_code w None (Some b))
    closes b true e k =
        let inside = seen-some (position w) b e in
        let fits : Fits T blank_scheme (n.BlankLine blank_line.Start) = has.blank.each blank_line.Start in
        let own : Fits T quote_scheme (n.BlockQuote its.AlertName) = has.each its.AlertName in
        let there = fits.level in
        let here = own.level in
        rw k (
          consumes T T (n.BlockQuote its.AlertName) (n.BlankLine blank_line.Start) w
              (name_code w None (Some 93)).world.events (unnamed w.scratch) (itself T _) (itself T _) inside
              (fits.ready _ _ (
                r.0,
                later IsRest IsRest (position w) _ _ (unnamed w.scratch) (takes w.setting w.point inside) r.1,
              ))
              (omega (arith, there, here)),
          refl,
        )
    closes b false e k = rw k refused

    letter : (b c : ℕ) (x : Bool) → seen (position w) ≡ Some b → nat_eq (to_ascii_lowercase b) c ≡ x →
        Does T (n.BlockQuote its.AlertName) w (name_code w (Some c) (Some b))
    letter b c true e k =
        let inside = seen-some (position w) b e in
        let s : Scratch = naming w.scratch.marker (w.scratch.size + 1) w.scratch in
        rw k (
          consumes T quote_scheme _ (n.BlockQuote its.AlertName) w w.events s (has.each its.AlertName)
              (has.each its.AlertName) inside
              (r.0, later IsRest IsRest (position w) _ _ s (takes w.setting w.point inside) r.1) (omega arith),
          refl,
        )
    letter b c false e k = rw k refused

    go : (left o : Option ℕ) → seen (position w) ≡ o → Does T (n.BlockQuote its.AlertName) w (name_code w left o)
    go left None e = refused
    go None (Some b) e = closes b (nat_eq b 93) e refl
    go (Some c) (Some b) e = letter b c (nat_eq (to_ascii_lowercase b) c) e refl

-- each state of the prefix of a quote
pub quote_terminates : (T : Scheme) (state : QuoteState) (w : World) → QuoteFits T → w.current ≡ looks w →
    quote_ready (n.BlockQuote state) (position w) (after_all T w.frames) →
    Does T (n.BlockQuote state) w (quote_transition state w)
quote_terminates T its.Start w has c r = quote_start_ends T w _ _ has r
quote_terminates T its.OpenStart w has c r = open_start_ends T w _ has r
quote_terminates T its.OpenBefore w has c r = open_before_ends T w _ has r (ap (is_current 62) (sym c))
quote_terminates T its.OpenAfter w has c r = open_after_ends T w _ has r (ap sees_white (sym c))
quote_terminates T its.AlertTry w has c r = try_ends T w has r
quote_terminates T its.AlertStart w has c r = alert_start_ends T w _ has r
quote_terminates T its.AlertBefore w has c r = alert_before_ends T w _ has r (ap (is_current 91) (sym c))
quote_terminates T its.AlertMark w has c r = alert_mark_ends T w _ has r (ap (is_current 33) (sym c))
quote_terminates T its.AlertLetter w has c r = letter_ends T w w.current has r (sym c)
quote_terminates T its.AlertName w has c r = name_ends T w _ w.current has r (sym c)
quote_terminates T its.PrefixEnd w has c r =
    (accepts T _ w IsRest IsRest (exited w parts.BlockQuotePrefix).events w.scratch r.1 r.0, refl)
quote_terminates T its.ContStart w has c r = cont_start_ends T w _ has r
quote_terminates T its.ContBefore w has c r = cont_before_ends T w _ has r (ap (is_current 62) (sym c))
quote_terminates T its.ContAfter w has c r = cont_after_ends T w _ has r (ap sees_white (sym c))
