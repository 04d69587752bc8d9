-- The prefix of a quote by the cells of a line: whether one is there, what it adds, and what it leaves.
use Rattle.std.proofs.Common.{◌≡◌, ℕ, ◌<◌, ◌≤◌, Bool, true, false, cond, ◌&&◌, List, [], ◌∷◌, ◌++◌, length, refl, ap}
use Rattle.std.proofs.Common.{Option, Some, None, drop, sym, ◌∙◌, arith, append_assoc, append-nil, length-drop}
use Rattle.std.specs.Prelude.{◌==◌}
use Rattle.md_engine.specs.declared.configuration.ParseOptions.{ParseOptions}
use Rattle.md_engine.specs.declared.event.Event.{Event}
use Rattle.md_engine.specs.declared.event.Name.TheVariants.{BlockQuote, BlockQuoteMarker, BlockQuotePrefix, SpaceOrTab}
use Rattle.md_engine.specs.declared.event.Point.{Point}
use Rattle.md_engine.specs.declared.tokenizer.Scratch.{Scratch}
use Rattle.md_engine.specs.Meaning.{Accepts, Cell, Here, Outcome, Refuses}
use Rattle.md_containers.specs.QuoteRule.{alert_at, alert_end, alert_events, alert_marker, alert_of, alert_or_end}
use Rattle.md_containers.specs.QuoteRule.{alert_rest, at_marker, after_alert, after_end, after_events, after_marker}
use Rattle.md_containers.specs.QuoteRule.{after_rest, ended_by, front_events, has_marker, indent_at, indent_events}
use Rattle.md_containers.specs.QuoteRule.{marker_end, marker_events, marker_rest, opening_at, opening_end}
use Rattle.md_containers.specs.QuoteRule.{opening_events, opening_kind, opening_rest, prefix_at, prefix_end}
use Rattle.md_containers.specs.QuoteRule.{prefix_ended, prefix_events, prefix_rest, quote_at, takes_prefix}
use Rattle.md_containers.specs.QuoteRule.{marked_events, takes_marker}
use Rattle.md_containers.proofs.AlertCells.{marked_by, marked-is}
use Rattle.md_meaning.specs.Alert.{first_kind, kinds, marker_of}
use Rattle.md_meaning.specs.declared.alert.AlertKind.{AlertKind}
use Rattle.md_meaning.specs.Rest.{is_white}
use Rattle.md_events.specs.Ahead.{begins_white, from_ending, white_end, white_rest}
use Rattle.md_events.specs.Events.Nested.{enter, exit, pair}
use Rattle.md_events.specs.Spaces.{IsRest, small_indent}
use Rattle.md_events.proofs.AheadLemmas.{none-end, none-rest}
use Rattle.md_events.proofs.RestCells.{white-length}
use Rattle.md_events.proofs.SpacesTermination.{rest-calm}

-- What is left is shorter.

following-shorter : (cells : List Cell) → length (after_rest cells) ≤ length cells
following-shorter [] = omega arith
following-shorter (c ∷ cs) = go (is_white c.byte)
  where
    go : (x : Bool) → length (cond x cs (c ∷ cs)) ≤ length (c ∷ cs)
    go true = omega arith
    go false = omega arith

marker-shorter : (cells : List Cell) → has_marker cells ≡ true → length (marker_rest cells) < length cells
marker-shorter [] e = cc
marker-shorter (c ∷ cs) e = omega (arith, following-shorter cs)

-- a prefix takes a cell at least
pub prefix-shorter : (options : ParseOptions) (cells : List Cell) → takes_prefix options cells ≡ true →
    length (prefix_rest options cells) < length cells
prefix-shorter options cells e =
    omega (arith, marker-shorter (white_rest (small_indent options) cells) e, white-length (small_indent options) cells)

pub ending-shorter : (cells : List Cell) → length (from_ending cells) ≤ length cells
ending-shorter [] = omega arith
ending-shorter (c ∷ cs) = go (c.byte == 10) (ending-shorter cs)
  where
    go : (x : Bool) → length (from_ending cs) ≤ length cs →
        length (cond x (c ∷ cs) (from_ending cs)) ≤ length (c ∷ cs)
    go true le = omega arith
    go false le = omega arith

drop-shorter : (n : ℕ) (cells : List Cell) → length (drop n cells) ≤ length cells
drop-shorter n cells = omega (arith, length-drop n cells)

-- and with the marker of an alert no less
alert-shorter : (options : ParseOptions) (kind : Option AlertKind) (cells : List Cell) →
    length (alert_rest options kind cells) ≤ length cells
alert-shorter options None cells = omega arith
alert-shorter options (Some kind) cells =
    let marker : List Cell = white_rest (small_indent options) cells in
    omega (
      arith,
      ending-shorter (after_alert kind marker),
      drop-shorter (length (marker_of kind)) marker,
      white-length (small_indent options) cells,
    )

pub opening-shorter : (options : ParseOptions) (cells : List Cell) → takes_prefix options cells ≡ true →
    length (opening_rest options cells) < length cells
opening-shorter options cells e =
    omega (
      arith,
      prefix-shorter options cells e,
      alert-shorter options (opening_kind options cells) (prefix_rest options cells),
    )

-- A prefix, and what is left after it.

-- a column of whitespace, if there is one
pub following-is : (next : List Cell → Here → Outcome) (cells : List Cell) (h : Here) →
    after_marker next cells h ≡
    next (after_rest cells)
    (record h { events = h.events ++ after_events cells h.point; point = after_end cells h.point })
unfolding after_marker
following-is next [] h = ap (λ (es : List Event). next [] (record h { events = es })) (sym (append-nil h.events))
following-is next (c ∷ cs) h = go (is_white c.byte) refl
  where
    go : (x : Bool) → is_white c.byte ≡ x →
        after_marker next (c ∷ cs) h ≡
        next (after_rest (c ∷ cs))
        (record h { events = h.events ++ after_events (c ∷ cs) h.point; point = after_end (c ∷ cs) h.point })
    go true e = rw e refl
    go false e =
        rw e (ap (λ (es : List Event). next (c ∷ cs) (record h { events = es })) (sym (append-nil h.events)))

-- its marker
pub marker-is : (next : List Cell → Here → Outcome) (cells : List Cell) (h : Here) →
    at_marker next cells h ≡
    cond (has_marker cells)
    (next (marker_rest cells)
    (record h { events = h.events ++ marker_events cells h.point; point = marker_end cells h.point }))
    (Refuses h.scratch h.flags)
unfolding at_marker
marker-is next [] h = refl
marker-is next (c ∷ cs) h = go (c.byte == 62) refl
  where
    front : List Event
    front = enter BlockQuotePrefix h.point ∷ pair BlockQuoteMarker h.point c.after

    go : (x : Bool) → (c.byte == 62) ≡ x →
        at_marker next (c ∷ cs) h ≡
        cond (has_marker (c ∷ cs))
        (next (marker_rest (c ∷ cs))
        (record h { events = h.events ++ marker_events (c ∷ cs) h.point; point = marker_end (c ∷ cs) h.point }))
        (Refuses h.scratch h.flags)
    go true e =
        rw e
        (following-is next cs (record h { events = h.events ++ front; point = c.after })
        ∙ ap
        (λ (es : List Event). next (after_rest cs) (record h { events = es; point = after_end cs c.after }))
        (append_assoc h.events front (after_events cs c.after)))
    go false e = rw e refl

-- a small indent, if there is one
pub indent-is : (next : List Cell → Here → Outcome) (options : ParseOptions) (cells : List Cell) (h : Here) →
    IsRest h.scratch →
    indent_at next options cells h ≡
    next (white_rest (small_indent options) cells)
    (record h {
      events = h.events ++ indent_events options cells h.point;
      point = white_end (small_indent options) cells h.point;
    })
unfolding indent_at
indent-is next options cells h is = go (begins_white cells) refl
  where
    room : ℕ
    room = small_indent options

    go : (t : Bool) → begins_white cells ≡ t →
        indent_at next options cells h ≡
        next (white_rest room cells)
        (record h { events = h.events ++ indent_events options cells h.point; point = white_end room cells h.point })
    go true e =
        rw e
        (ap
        (λ (s : Scratch).
        next (white_rest room cells)
        (record h {
          events = h.events ++ pair SpaceOrTab h.point (white_end room cells h.point);
          point = white_end room cells h.point;
          scratch = s;
        }))
        (rest-calm h.scratch is ∙ sym is))
    go false e =
        rw e (ap (λ (l : List Cell). next l h) (sym (none-rest room cells e))
        ∙ ap (λ (q : Point). next (white_rest room cells) (record h { point = q }))
        (sym (none-end room cells h.point e))
        ∙ ap
        (λ (es : List Event).
        next (white_rest room cells) (record h { events = es; point = white_end room cells h.point }))
        (sym (append-nil h.events)))

-- all of it
pub front-is : (next : List Cell → Here → Outcome) (options : ParseOptions) (cells : List Cell) (h : Here) →
    IsRest h.scratch →
    indent_at (at_marker next) options cells h ≡
    cond (takes_prefix options cells)
    (next (prefix_rest options cells)
    (record h { events = h.events ++ front_events options cells h.point; point = prefix_end options cells h.point }))
    (Refuses h.scratch h.flags)
front-is next options cells h is =
    indent-is (at_marker next) options cells h is
    ∙ marker-is next left (record h { events = h.events ++ indent_events options cells h.point; point = q })
    ∙ ap
    (λ (es : List Event).
    cond (has_marker left) (next (marker_rest left) (record h { events = es; point = marker_end left q }))
    (Refuses h.scratch h.flags))
    (append_assoc h.events (indent_events options cells h.point) (marker_events left q))
  where
    left : List Cell
    left = white_rest (small_indent options) cells

    q : Point
    q = white_end (small_indent options) cells h.point

-- the prefix of a further line is taken where it is, and refused elsewhere
pub prefix-is : (options : ParseOptions) (cells : List Cell) (h : Here) → IsRest h.scratch →
    prefix_at options cells h ≡
    cond (takes_prefix options cells)
    (Accepts
    (record h { events = h.events ++ prefix_events options cells h.point; point = prefix_end options cells h.point })
    (prefix_rest options cells))
    (Refuses h.scratch h.flags)
prefix-is options cells h is =
    let q = prefix_end options cells h.point in
    front-is prefix_ended options cells h is
    ∙ ap
    (λ (es : List Event).
    cond (takes_prefix options cells) (Accepts (record h { events = es; point = q }) (prefix_rest options cells))
    (Refuses h.scratch h.flags))
    (append_assoc h.events (front_events options cells h.point) (exit BlockQuotePrefix q ∷ []))

-- The marker of an alert, where alerts are on.

-- what is tried after a prefix becomes, by the kind
abbrev tried_by : ParseOptions → Option AlertKind → List Cell → Here → Outcome
tried_by options None cells h = Refuses h.scratch h.flags
tried_by options (Some kind) cells h =
    Accepts
    (record h {
      events = h.events ++ alert_events options (Some kind) cells h.point;
      point = alert_end options (Some kind) cells h.point;
    })
    (alert_rest options (Some kind) cells)

alert-is : (options : ParseOptions) (cells : List Cell) (h : Here) → options.constructs.alerts ≡ true →
    IsRest h.scratch → alert_at options cells h ≡ tried_by options (alert_of options cells) cells h
alert-is options cells h on is =
    indent-is alert_marker options cells h is
    ∙ marked-is left (record h { events = h.events ++ indent_events options cells h.point; point = q }) is
    ∙ go (first_kind (λ kind. takes_marker kind left) kinds)
    ∙ ap (λ (kind : Option AlertKind). tried_by options kind cells h)
    (sym (ap (λ (t : Bool). cond t (first_kind (λ kind. takes_marker kind left) kinds) None) on))
  where
    left : List Cell
    left = white_rest (small_indent options) cells

    q : Point
    q = white_end (small_indent options) cells h.point

    go : (kind : Option AlertKind) →
        marked_by kind left (record h { events = h.events ++ indent_events options cells h.point; point = q }) ≡
        tried_by options kind cells h
    go None = refl
    go (Some kind) =
        ap
        (λ (es : List Event).
        Accepts (record h { events = es; point = alert_end options (Some kind) cells h.point })
        (alert_rest options (Some kind) cells))
        (append_assoc h.events (indent_events options cells h.point) (marked_events kind left q))

-- the prefix ends after it, or where it would begin
alert-ended : (options : ParseOptions) (cells : List Cell) (h : Here) → options.constructs.alerts ≡ true →
    IsRest h.scratch →
    let kind = alert_of options cells in
    alert_or_end options cells h ≡
    Accepts
    (record h {
      events =
          (h.events ++ alert_events options kind cells h.point)
          ++ exit BlockQuotePrefix (alert_end options kind cells h.point) ∷ [];
      point = alert_end options kind cells h.point;
    })
    (alert_rest options kind cells)
alert-ended options cells h on is =
    ap (ended_by cells h) (alert-is options cells h on is) ∙ go (alert_of options cells)
  where
    go : (kind : Option AlertKind) →
        ended_by cells h (tried_by options kind cells h) ≡
        Accepts
        (record h {
          events =
              (h.events ++ alert_events options kind cells h.point)
              ++ exit BlockQuotePrefix (alert_end options kind cells h.point) ∷ [];
          point = alert_end options kind cells h.point;
        })
        (alert_rest options kind cells)
    go None =
        ap
        (λ (es : List Event). Accepts (record h { events = es ++ exit BlockQuotePrefix h.point ∷ [] }) cells)
        (sym (append-nil h.events))
    go (Some kind) = refl

-- The line on which a quote opens.

abbrev Opens : ParseOptions → List Cell → Here → Outcome
Opens options cells h =
    cond (takes_prefix options cells)
    (Accepts
    (record h { events = h.events ++ opening_events options cells h.point; point = opening_end options cells h.point })
    (opening_rest options cells))
    (Refuses h.scratch h.flags)

opening-is : (options : ParseOptions) (cells : List Cell) (h : Here) → options.constructs.alerts ≡ true →
    IsRest h.scratch → opening_at options cells h ≡ Opens options cells h
opening-is options cells h on is =
    front-is (alert_or_end options) options cells h is
    ∙ ap (λ (o : Outcome). cond (takes_prefix options cells) o (Refuses h.scratch h.flags))
    (alert-ended options (prefix_rest options cells)
    (record h { events = h.events ++ front_events options cells h.point; point = prefix_end options cells h.point }) on
    is
    ∙ ap
    (λ (es : List Event).
    Accepts (record h { events = es; point = opening_end options cells h.point }) (opening_rest options cells))
    (regroup h.events (front_events options cells h.point)
    (alert_events options (opening_kind options cells) (prefix_rest options cells) (prefix_end options cells h.point))
    (exit BlockQuotePrefix (opening_end options cells h.point) ∷ [])))
  where
    regroup : (a b c d : List Event) → ((a ++ b) ++ c) ++ d ≡ a ++ ((b ++ c) ++ d)
    regroup a b c d = simp append_assoc

-- where alerts are off, there is none,
of-none : (options : ParseOptions) (cells : List Cell) → options.constructs.alerts ≡ false →
    alert_of options cells ≡ None
of-none options cells off =
    ap
    (λ (t : Bool).
    cond t (first_kind (λ kind. takes_marker kind (white_rest (small_indent options) cells)) kinds) None) off

-- and it is as on a further line
plain-is : (options : ParseOptions) (cells : List Cell) (h : Here) → options.constructs.alerts ≡ false →
    IsRest h.scratch → prefix_at options cells h ≡ Opens options cells h
plain-is options cells h off is =
    prefix-is options cells h is
    ∙ go (opening_kind options cells) (sym (of-none options (prefix_rest options cells) off))
  where
    go : (kind : Option AlertKind) → None ≡ kind →
        cond (takes_prefix options cells)
        (Accepts
        (record h {
          events = h.events ++ prefix_events options cells h.point;
          point = prefix_end options cells h.point;
        })
        (prefix_rest options cells))
        (Refuses h.scratch h.flags) ≡
        cond (takes_prefix options cells)
        (Accepts
        (record h {
          events =
              h.events
              ++ (front_events options cells h.point
              ++ alert_events options kind (prefix_rest options cells) (prefix_end options cells h.point)
              ++ exit BlockQuotePrefix
              (alert_end options kind (prefix_rest options cells) (prefix_end options cells h.point)) ∷ []);
          point = alert_end options kind (prefix_rest options cells) (prefix_end options cells h.point);
        })
        (alert_rest options kind (prefix_rest options cells)))
        (Refuses h.scratch h.flags)
    go None e =
        ap
        (λ (es : List Event).
        cond (takes_prefix options cells)
        (Accepts
        (record h {
          events = h.events ++ (es ++ exit BlockQuotePrefix (prefix_end options cells h.point) ∷ []);
          point = prefix_end options cells h.point;
        })
        (prefix_rest options cells))
        (Refuses h.scratch h.flags))
        (sym (append-nil (front_events options cells h.point)))
    go (Some kind) e = cc

-- the start, by whether quotes and alerts are on
start-by : (options : ParseOptions) (cells : List Cell) (h : Here) (x y : Bool) →
    options.constructs.block_quote ≡ x → options.constructs.alerts ≡ y →
    let k = record h { events = h.events ++ enter BlockQuote h.point ∷ [] } in
    quote_at options cells h ≡
    cond x (cond y (opening_at options cells k) (prefix_at options cells k)) (Refuses h.scratch h.flags)
unfolding quote_at
start-by options cells h true true e f = rw (e, f) refl
start-by options cells h true false e f = rw (e, f) refl
start-by options cells h false y e f = rw e refl

-- the whole of the rule, where quotes are on
pub quote-is : (options : ParseOptions) (cells : List Cell) (h : Here) → IsRest h.scratch →
    quote_at options cells h ≡
    cond (options.constructs.block_quote && takes_prefix options cells)
    (Accepts
    (record h {
      events = h.events ++ enter BlockQuote h.point ∷ opening_events options cells h.point;
      point = opening_end options cells h.point;
    })
    (opening_rest options cells))
    (Refuses h.scratch h.flags)
quote-is options cells h is = go options.constructs.block_quote options.constructs.alerts refl refl
  where
    k : Here
    k = record h { events = h.events ++ enter BlockQuote h.point ∷ [] }

    Done : Bool → Type 0
    Done x =
        quote_at options cells h ≡
        cond (x && takes_prefix options cells)
        (Accepts
        (record h {
          events = h.events ++ enter BlockQuote h.point ∷ opening_events options cells h.point;
          point = opening_end options cells h.point;
        })
        (opening_rest options cells))
        (Refuses h.scratch h.flags)

    more : quote_at options cells h ≡ Opens options cells k → Done true
    more e =
        e
        ∙ ap
        (λ (es : List Event).
        cond (takes_prefix options cells)
        (Accepts (record h { events = es; point = opening_end options cells h.point }) (opening_rest options cells))
        (Refuses h.scratch h.flags))
        (append_assoc h.events (enter BlockQuote h.point ∷ []) (opening_events options cells h.point))

    go : (x y : Bool) → options.constructs.block_quote ≡ x → options.constructs.alerts ≡ y → Done x
    go true true e f = more (start-by options cells h true true e f ∙ opening-is options cells k f is)
    go true false e f = more (start-by options cells h true false e f ∙ plain-is options cells k f is)
    go false y e f = start-by options cells h false y e f
