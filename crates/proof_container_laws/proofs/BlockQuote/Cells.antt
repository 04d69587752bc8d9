-- The events of the prefix of a block quote, by the cells of a line, have names of prefixes.
use Rattle.std.proofs.Common.{Bool, true, false, cond, List, [], ◌∷◌, ◌++◌, Option, Some, None, refl}
use Rattle.md_engine.specs.declared.configuration.ParseOptions.{ParseOptions}
use Rattle.md_engine.specs.declared.event.Event.{Event}
use Rattle.md_engine.specs.declared.event.Point.{Point}
use Rattle.md_engine.specs.Meaning.{Cell}
use Rattle.md_containers.specs.QuoteRule.{alert_close, alert_events, after_alert, after_events, front_events}
use Rattle.md_containers.specs.QuoteRule.{indent_events, marked_events, marker_events, opening_end, opening_events}
use Rattle.md_containers.specs.QuoteRule.{opening_kind, prefix_end, prefix_events, prefix_rest}
use Rattle.md_leaves.specs.BlankRule.{blank_events}
use Rattle.md_meaning.specs.declared.alert.AlertKind.{AlertKind}
use Rattle.md_events.specs.Ahead.{begins_white, line_end, white_end, white_rest}
use Rattle.md_events.specs.Events.Nested.{exit, pair}
use Rattle.md_meaning.specs.Rest.{is_white}
use Rattle.md_events.specs.Spaces.{small_indent}
use Rattle.proof_frame.proofs.EachEvent.{each-append}
use Rattle.proof_frame.proofs.PrefixNames.{AreFront, IsFrontEvent}
use Rattle.md_engine.specs.declared.event.Name.TheVariants as n

-- whitespace that may be there
pub white-front : (x : Bool) (p q : Point) → AreFront (cond x (pair n.SpaceOrTab p q) [])
white-front true p q = ((refl, refl), ((refl, refl), tt))
white-front false p q = tt

-- after the marker of a quote
following-front : (cells : List Cell) (p : Point) → AreFront (after_events cells p)
following-front [] p = tt
following-front (c ∷ cs) p = white-front (is_white c.byte) p c.after

-- from the marker on
marker-front : (cells : List Cell) (p : Point) → AreFront (marker_events cells p)
marker-front [] p = tt
marker-front (c ∷ cs) p = ((refl, refl), ((refl, refl), ((refl, refl), following-front cs c.after)))

-- all of a prefix but its end
front-front : (options : ParseOptions) (cells : List Cell) (p : Point) → AreFront (front_events options cells p)
front-front options cells p =
    let q : Point = white_end (small_indent options) cells p in
    let rest : List Cell = white_rest (small_indent options) cells in
    each-append IsFrontEvent (indent_events options cells p) (marker_events rest q)
    (white-front (begins_white cells) p q) (marker-front rest q)

-- the prefix of a further line
pub prefix-front : (options : ParseOptions) (cells : List Cell) (p : Point) → AreFront (prefix_events options cells p)
prefix-front options cells p =
    each-append IsFrontEvent (front_events options cells p)
    (exit n.BlockQuotePrefix (prefix_end options cells p) ∷ []) (front-front options cells p) ((refl, refl), tt)

-- the marker of an alert, from its first bracket on
marked-front : (kind : AlertKind) (cells : List Cell) (p : Point) → AreFront (marked_events kind cells p)
marked-front kind cells p =
    let q : Point = alert_close kind cells p in
    let rest : List Cell = after_alert kind cells in
    each-append IsFrontEvent (pair n.BlockQuoteMarker p q) (blank_events rest q)
    ((refl, refl), ((refl, refl), tt)) (white-front (begins_white rest) q (line_end rest q))

alert-front : (options : ParseOptions) (kind : Option AlertKind) (cells : List Cell) (p : Point) →
    AreFront (alert_events options kind cells p)
alert-front options None cells p = tt
alert-front options (Some kind) cells p =
    let q : Point = white_end (small_indent options) cells p in
    let rest : List Cell = white_rest (small_indent options) cells in
    each-append IsFrontEvent (indent_events options cells p) (marked_events kind rest q)
    (white-front (begins_white cells) p q) (marked-front kind rest q)

-- and the prefix of the line on which a quote opens
pub opening-front : (options : ParseOptions) (cells : List Cell) (p : Point) →
    AreFront (opening_events options cells p)
opening-front options cells p =
    let alert : List Event = alert_events options (opening_kind options cells) (prefix_rest options cells)
    (prefix_end options cells p) in
    let front : List Event = front_events options cells p in
    each-append IsFrontEvent (front ++ alert) (exit n.BlockQuotePrefix (opening_end options cells p) ∷ [])
    (each-append IsFrontEvent front alert (front-front options cells p)
    (alert-front options (opening_kind options cells) (prefix_rest options cells) (prefix_end options cells p)))
    ((refl, refl), tt)
