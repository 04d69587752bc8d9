-- The rule of the prefix of a block quote, as what is left of it at each state (CommonMark 5.1).
use Rattle.std.specs.Prelude.{◌≡◌, ℕ, ◌+◌, Bool, false, not, ◌&&◌, ◌==◌, if◌then◌else◌, List, [], ◌∷◌, ◌++◌, length}
use Rattle.std.specs.Prelude.{take, drop, Option, Some, None}
use Rattle.std.specs.Str.{str_to_ascii_lowercase}
use Rattle.std.specs.Char.{to_ascii_lowercase}
use Rattle.md_engine.specs.declared.configuration.ParseOptions.{ParseOptions}
use Rattle.md_engine.specs.declared.event.Event.{Event}
use Rattle.md_engine.specs.declared.event.Name.TheVariants.{BlockQuote, BlockQuoteMarker, BlockQuotePrefix, SpaceOrTab}
use Rattle.md_engine.specs.declared.event.Point.{Point}
use Rattle.md_engine.specs.declared.state.Name.TheVariants as n
use Rattle.md_engine.specs.declared.state.block_quote.State.{State as QuoteState}
use Rattle.md_engine.specs.declared.state.block_quote.State.TheVariants as its
use Rattle.md_engine.specs.declared.state.State.{State}
use Rattle.md_engine.specs.Meaning.{Accepts, Behaviour, Cell, Fails, Here, Outcome, Refuses}
use Rattle.md_engine.specs.Sees.{IsStep}
use Rattle.md_engine.specs.World.{World}
use Rattle.md_containers.specs.Quote.{name_of, naming, unnamed, quote_transition}
use Rattle.md_leaves.specs.BlankRule.{HasBlank, blank_at, blank_events}
use Rattle.md_meaning.specs.Alert.{first_kind, kinds, marker_of}
use Rattle.md_meaning.specs.declared.alert.AlertKind.{AlertKind}
use Rattle.md_meaning.specs.Bytes.{is_end}
use Rattle.md_events.specs.Ahead.{HasWhite, begins_white, from_ending, line_bytes, line_end, point_after, white_end}
use Rattle.md_events.specs.Ahead.{white_rest}
use Rattle.md_events.specs.Events.Nested.{enter, exit, pair}
use Rattle.md_meaning.specs.Rest.{is_blank, is_white}
use Rattle.md_events.specs.Spaces.{calmed, small_indent}
use Rattle.md_events.specs.States.{IsState}
use Rattle.md_engine.specs.declared.tokenizer.Tokenizer.{Tokenizer}
use Rattle.md_engine.specs.Full.{IsFull}

-- the end of the prefix
abbrev pub prefix_ended : List Cell → Here → Outcome
prefix_ended cells h = Accepts (record h { events = h.events ++ exit BlockQuotePrefix h.point ∷ [] }) cells

-- after `>`: one column of whitespace belongs to the prefix, and this is left after it
unfoldable pub after_marker : (List Cell → Here → Outcome) → List Cell → Here → Outcome
after_marker next [] h = next [] h
after_marker next (c ∷ cs) h =
    if is_white c.byte
    then next cs (record h { events = h.events ++ pair SpaceOrTab h.point c.after; point = c.after })
    else next (c ∷ cs) h

-- after the indent
unfoldable pub at_marker : (List Cell → Here → Outcome) → List Cell → Here → Outcome
at_marker next [] h = Refuses h.scratch h.flags
at_marker next (c ∷ cs) h =
    if c.byte == 62
    then after_marker next cs
    (record h {
      events = h.events ++ enter BlockQuotePrefix h.point ∷ pair BlockQuoteMarker h.point c.after;
      point = c.after;
    })
    else Refuses h.scratch h.flags

-- a small indent, and this is left after it
unfoldable pub indent_at : (List Cell → Here → Outcome) → ParseOptions → List Cell → Here → Outcome
indent_at next options cells h =
    let room = small_indent options in
    let p = white_end room cells h.point in
    if begins_white cells
    then next (white_rest room cells)
    (record h { events = h.events ++ pair SpaceOrTab h.point p; point = p; scratch = calmed h.scratch })
    else next cells h

-- the prefix of a further line: a small indent, `>`, and at most one column of whitespace
abbrev pub prefix_at : ParseOptions → List Cell → Here → Outcome
prefix_at options cells h = indent_at (at_marker prefix_ended) options cells h

-- The marker of an alert: a small indent, the marker, and nothing but whitespace up to the end of the line.

abbrev pub no_name : Here → Outcome
no_name h = Refuses (unnamed h.scratch) h.flags

-- inside the name of its kind, of which this is left: that in any ASCII case, `]`, and whitespace
unfoldable pub alert_name : List ℕ → List Cell → Here → Outcome
alert_name left [] h = no_name h
alert_name [] (c ∷ cs) h =
    if c.byte == 93
    then blank_at cs
    (record h {
      events = h.events ++ exit BlockQuoteMarker c.after ∷ [];
      point = c.after;
      scratch = unnamed h.scratch;
    })
    else no_name h
alert_name (b ∷ left) (c ∷ cs) h =
    if to_ascii_lowercase c.byte == b
    then alert_name left cs
    (record h { point = c.after; scratch = naming h.scratch.marker (h.scratch.size + 1) h.scratch })
    else no_name h

-- at the name: its first letter says which it is
unfoldable pub alert_letter : List Cell → Here → Outcome
alert_letter [] h = Refuses h.scratch h.flags
alert_letter (c ∷ cs) h =
    let letter = to_ascii_lowercase c.byte in
    if is_end (name_of letter)
    then Refuses h.scratch h.flags
    else alert_name (drop 1 (name_of letter)) cs
    (record h { point = c.after; scratch = naming letter 1 h.scratch })

-- after `[`
unfoldable pub alert_mark : List Cell → Here → Outcome
alert_mark [] h = Refuses h.scratch h.flags
alert_mark (c ∷ cs) h =
    if c.byte == 33 then alert_letter cs (record h { point = c.after }) else Refuses h.scratch h.flags

-- after the indent
unfoldable pub alert_marker : List Cell → Here → Outcome
alert_marker [] h = Refuses h.scratch h.flags
alert_marker (c ∷ cs) h =
    if c.byte == 91
    then alert_mark cs (record h { events = h.events ++ enter BlockQuoteMarker h.point ∷ []; point = c.after })
    else Refuses h.scratch h.flags

abbrev pub alert_at : ParseOptions → List Cell → Here → Outcome
alert_at options cells h = indent_at alert_marker options cells h

-- the prefix ends after what was tried, or where that began
abbrev pub ended_by : List Cell → Here → Outcome → Outcome
ended_by cells h (Accepts k rest) = prefix_ended rest k
ended_by cells h (Refuses s g) = prefix_ended cells (record h { scratch = s; flags = g })
ended_by cells h Fails = Fails

-- the end of the prefix where a quote opens: after the marker of an alert, if there is one
abbrev pub alert_or_end : ParseOptions → List Cell → Here → Outcome
alert_or_end options cells h = ended_by cells h (alert_at options cells h)

-- the prefix of the line on which a quote opens, where alerts are on
abbrev pub opening_at : ParseOptions → List Cell → Here → Outcome
opening_at options cells h = indent_at (at_marker (alert_or_end options)) options cells h

-- the whole rule, if quotes are on
unfoldable pub quote_at : ParseOptions → List Cell → Here → Outcome
quote_at options cells h =
    let k = record h { events = h.events ++ enter BlockQuote h.point ∷ [] } in
    if not options.constructs.block_quote then Refuses h.scratch h.flags
    else if options.constructs.alerts then opening_at options cells k
    else prefix_at options cells k

-- The events of a prefix.

abbrev pub indent_events : ParseOptions → List Cell → Point → List Event
indent_events options cells p =
    if begins_white cells then pair SpaceOrTab p (white_end (small_indent options) cells p) else []

-- after `>`, before what ends the prefix
abbrev pub after_events : List Cell → Point → List Event
after_events [] p = []
after_events (c ∷ cs) p = if is_white c.byte then pair SpaceOrTab p c.after else []

-- from `>` on
abbrev pub marker_events : List Cell → Point → List Event
marker_events [] p = []
marker_events (c ∷ cs) p = enter BlockQuotePrefix p ∷ pair BlockQuoteMarker p c.after ++ after_events cs c.after

-- What a prefix takes.

-- whether `>` is first
abbrev pub has_marker : List Cell → Bool
has_marker [] = false
has_marker (c ∷ cs) = c.byte == 62

-- whether a prefix is here
abbrev pub takes_prefix : ParseOptions → List Cell → Bool
takes_prefix options cells = has_marker (white_rest (small_indent options) cells)

-- what is left after `>` and one column of whitespace, and where that begins
abbrev pub after_rest : List Cell → List Cell
after_rest [] = []
after_rest (c ∷ cs) = if is_white c.byte then cs else c ∷ cs

abbrev pub after_end : List Cell → Point → Point
after_end [] p = p
after_end (c ∷ cs) p = if is_white c.byte then c.after else p

abbrev pub marker_rest : List Cell → List Cell
marker_rest [] = []
marker_rest (c ∷ cs) = after_rest cs

abbrev pub marker_end : List Cell → Point → Point
marker_end [] p = p
marker_end (c ∷ cs) p = after_end cs c.after

-- what is left after a prefix, and where that begins
abbrev pub prefix_rest : ParseOptions → List Cell → List Cell
prefix_rest options cells = marker_rest (white_rest (small_indent options) cells)

abbrev pub prefix_end : ParseOptions → List Cell → Point → Point
prefix_end options cells p =
    marker_end (white_rest (small_indent options) cells) (white_end (small_indent options) cells p)

-- The whole of a prefix.

-- all of them but the end
abbrev pub front_events : ParseOptions → List Cell → Point → List Event
front_events options cells p =
    indent_events options cells p
    ++ marker_events (white_rest (small_indent options) cells) (white_end (small_indent options) cells p)

abbrev pub prefix_events : ParseOptions → List Cell → Point → List Event
prefix_events options cells p =
    front_events options cells p ++ exit BlockQuotePrefix (prefix_end options cells p) ∷ []

-- The marker of an alert, by the cells after a prefix.

-- whether these bytes, in lower case, are next in any ASCII case, and nothing but whitespace after them
abbrev pub takes_bytes : List ℕ → List Cell → Bool
takes_bytes [] cells = is_blank (line_bytes cells)
takes_bytes (b ∷ left) [] = false
takes_bytes (b ∷ left) (c ∷ cs) = (to_ascii_lowercase c.byte == b) && takes_bytes left cs

abbrev pub takes_marker : AlertKind → List Cell → Bool
takes_marker kind cells = takes_bytes (str_to_ascii_lowercase (marker_of kind)) cells

-- the kind whose marker is after a small indent, where alerts are on
abbrev pub alert_of : ParseOptions → List Cell → Option AlertKind
alert_of options cells =
    if options.constructs.alerts
    then first_kind (λ kind. takes_marker kind (white_rest (small_indent options) cells)) kinds
    else None

-- the cells after a marker, and the point
abbrev pub after_alert : AlertKind → List Cell → List Cell
after_alert kind cells = drop (length (marker_of kind)) cells

abbrev pub alert_close : AlertKind → List Cell → Point → Point
alert_close kind cells p = point_after (take (length (marker_of kind)) cells) p

-- from the marker on
abbrev pub marked_events : AlertKind → List Cell → Point → List Event
marked_events kind cells p =
    let q = alert_close kind cells p in
    pair BlockQuoteMarker p q ++ blank_events (after_alert kind cells) q

-- what the marker of an alert adds to a prefix, if there is one, where it ends, and what it leaves
abbrev pub alert_events : ParseOptions → Option AlertKind → List Cell → Point → List Event
alert_events options None cells p = []
alert_events options (Some kind) cells p =
    let room = small_indent options in
    indent_events options cells p ++ marked_events kind (white_rest room cells) (white_end room cells p)

abbrev pub alert_end : ParseOptions → Option AlertKind → List Cell → Point → Point
alert_end options None cells p = p
alert_end options (Some kind) cells p =
    let room = small_indent options in
    let marker = white_rest room cells in
    line_end (after_alert kind marker) (alert_close kind marker (white_end room cells p))

abbrev pub alert_rest : ParseOptions → Option AlertKind → List Cell → List Cell
alert_rest options None cells = cells
alert_rest options (Some kind) cells = from_ending (after_alert kind (white_rest (small_indent options) cells))

-- The prefix of the line on which a quote opens: its kind, its events, where it ends, and what it leaves.

abbrev pub opening_kind : ParseOptions → List Cell → Option AlertKind
opening_kind options cells = alert_of options (prefix_rest options cells)

abbrev pub opening_end : ParseOptions → List Cell → Point → Point
opening_end options cells p =
    alert_end options (opening_kind options cells) (prefix_rest options cells) (prefix_end options cells p)

abbrev pub opening_rest : ParseOptions → List Cell → List Cell
opening_rest options cells = alert_rest options (opening_kind options cells) (prefix_rest options cells)

abbrev pub opening_events : ParseOptions → List Cell → Point → List Event
opening_events options cells p =
    front_events options cells p
    ++ alert_events options (opening_kind options cells) (prefix_rest options cells) (prefix_end options cells p)
    ++ exit BlockQuotePrefix (opening_end options cells p) ∷ []

-- what is left at each state
abbrev pub quote_behaves : ParseOptions → QuoteState → List Cell → Here → Outcome
quote_behaves options its.Start cells h = quote_at options cells h
quote_behaves options its.OpenStart cells h = opening_at options cells h
quote_behaves options its.OpenBefore cells h = at_marker (alert_or_end options) cells h
quote_behaves options its.OpenAfter cells h = after_marker (alert_or_end options) cells h
quote_behaves options its.AlertTry cells h = alert_or_end options cells h
quote_behaves options its.AlertStart cells h = alert_at options cells h
quote_behaves options its.AlertBefore cells h = alert_marker cells h
quote_behaves options its.AlertMark cells h = alert_mark cells h
quote_behaves options its.AlertLetter cells h = alert_letter cells h
quote_behaves options its.AlertName cells h = alert_name (drop h.scratch.size (name_of h.scratch.marker)) cells h
quote_behaves options its.PrefixEnd cells h = prefix_ended cells h
quote_behaves options its.ContStart cells h = prefix_at options cells h
quote_behaves options its.ContBefore cells h = at_marker prefix_ended cells h
quote_behaves options its.ContAfter cells h = after_marker prefix_ended cells h

pub record HasQuote (B : Behaviour) (options : ParseOptions) : Type 0 where
  pub white : HasWhite B
  pub blank : HasBlank B
  pub each : (state : QuoteState) (cells : List Cell) (h : Here) →
      B (n.BlockQuote state) cells h ≡ quote_behaves options state cells h

-- what a state of the prefix of a quote means: its call is one step of the rule
unfoldable pub QuoteMeans : QuoteState → World → State → World → Type 0
QuoteMeans state old to new = IsStep (λ B. HasQuote B old.setting.options) (n.BlockQuote state) to old new

-- what a state of a block quote promises
abbrev pub IsQuoteState : QuoteState → World → State → Tokenizer → Type 0
IsQuoteState state old answer new = IsState (quote_transition state old) (QuoteMeans state old) (IsFull new) answer new
