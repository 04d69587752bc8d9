-- The prefix of a quote that opens, with the marker of an alert if there is one: its events are those of its cells.
use Rattle.std.proofs.Common.{◌≡◌, ℕ, ◌^◌, ◌<◌, ◌≤◌, Bool, true, false, cond, ◌&&◌, List, [], ◌∷◌, ◌++◌, length, take}
use Rattle.std.proofs.Common.{drop, refl, sym, ap, ap₂, ◌∙◌, subst, append_assoc, arith}
use Rattle.std.specs.Prelude.{Option, Some, None}
use Rattle.std.proofs.lemmas.Bool.{and_parts}
use Rattle.std.proofs.lemmas.Bool.Decides.{nat_tests}
use Rattle.md_engine.specs.declared.configuration.ParseOptions.{ParseOptions}
use Rattle.md_engine.specs.declared.event.Event.{Event}
use Rattle.md_engine.specs.declared.event.Name.TheVariants as n
use Rattle.md_engine.specs.declared.event.Point.{Point}
use Rattle.md_engine.specs.declared.tokenizer.Line.{Line}
use Rattle.md_engine.specs.Meaning.{Cell}
use Rattle.md_leaves.specs.BlankRule.{blank_events}
use Rattle.md_containers.specs.QuoteRule.{alert_close, alert_end, alert_events, alert_of, after_alert, marked_events}
use Rattle.md_containers.specs.QuoteRule.{opening_end, opening_events, opening_kind, prefix_end, prefix_rest}
use Rattle.md_containers.proofs.AlertBytes.{Marked, first-passes, marked-cells}
use Rattle.md_containers.proofs.AlertLines.{HasBlankRest, alert-agrees, bare-spaces, after_alert_of, blank-rest}
use Rattle.md_containers.proofs.AlertLines.{empty-past, small-fits}
use Rattle.md_containers.proofs.QuoteLines.{HasPrefix, HasWhite, PrefixIs, prefix-agrees, quote-container}
use Rattle.md_containers.proofs.QuoteLines.{quote-no_ending, white-walk}
use Rattle.md_meaning.specs.declared.alert.AlertKind.{AlertKind}
use Rattle.md_meaning.specs.declared.alert.AlertKind.TheVariants as kind
use Rattle.md_meaning.specs.Alert.{alert_at, first_kind, has_marker, is_marked, kinds, marker_of}
use Rattle.md_meaning.specs.Containers.{Taken, opens_quote, quote_taken, taken_as, with_kind}
use Rattle.md_meaning.specs.Rest as rests
use Rattle.md_meaning.specs.Rest.{Rest, after_indent, has_small_indent, indent, is_blank}
use Rattle.md_meaning.specs.State.{InQuote}
use Rattle.md_meaning.proofs.TextsLemmas.{NoEnding}
use Rattle.md_events.specs.Ahead.{line_end, point_after, white_end, white_rest}
use Rattle.md_events.specs.Events.Inline.{pair_unless_empty}
use Rattle.md_events.specs.Events.Nested.{around, enter, exit, pair}
use Rattle.md_events.specs.Events.Places.{past_byte, past_text, same_place}
use Rattle.md_events.specs.Spaces.{small_indent}
use Rattle.md_events.proofs.FeedLines.{Stops, spread}
use Rattle.md_events.proofs.InlineLemmas.{past-index}
use Rattle.md_events.proofs.RestCells.{HasIndent, following-no_ending, indent-taken, lose-no_ending, past_rest}
use Rattle.md_events.proofs.RestCells.{rest_cells}
use Rattle.md_events.proofs.RestLines.{bare-spread}
use Rattle.md_events.specs.Exact.Places.{TextLine, past}
use Rattle.md_events.specs.Exact.Prefixes.{alert_part, quote_prefix}
use Rattle.proof_exact_pieces.proofs.OnLine.{LineIn, OnLine, indent-on, past-on}
use Rattle.proof_exact_pieces.proofs.PieceLemmas.{part-on, piece-on, white-on}
use Rattle.proof_exact_lines.proofs.Quotes.{HasFront, has-front}

abbrev rest : ℕ → ℕ → List ℕ → Rest
rest column spaces bytes = record { column = column; spaces = spaces; bytes = bytes }

marker-some : (k : AlertKind) → 1 ≤ length (marker_of k)
marker-some kind.Note = omega arith
marker-some kind.Tip = omega arith
marker-some kind.Important = omega arith
marker-some kind.Warning = omega arith
marker-some kind.Caution = omega arith

-- The marker of an alert, after the prefix.
record HasMarker (options : ParseOptions) (text following : List ℕ) (line : TextLine) (r : Rest) (cells : List Cell)
    (p : Point) (alert : AlertKind) : Type 0 where
  events : alert_part line (Some alert) r (after_alert_of alert r) ≡ alert_events options (Some alert) cells p
  on : OnLine text following line (after_alert_of alert r) (alert_end options (Some alert) cells p)

marked-same : (options : ParseOptions) (alert : AlertKind) (cell_line : Line) (text following : List ℕ)
    (line : TextLine)
    (r : Rest) (p : Point) (stop : List Cell) →
    LineIn text following line → OnLine text following line r p → NoEnding r.bytes → Stops stop →
    indent r ≤ small_indent options → is_marked alert (after_indent r).bytes ≡ true →
    HasMarker options text following line r (rest_cells cell_line r p ++ stop) p alert
marked-same options alert cell_line text following line r p stop is on plain k fits marked = record {
  events =
      ap₂ (λ (xs ys : List Event). xs ++ ys)
      (ap₂ (λ (xs ys : List Event). xs ++ ys) (white-on text following line r bracket p first is on on_first)
      (piece-on text following line n.BlockQuoteMarker bracket (past size bracket) first close is on_first on_close
      ∙ ap (λ (t : Bool). cond t [] (pair n.BlockQuoteMarker first close)) apart))
      (white-on text following line (past size bracket) left close end is on_close on_end)
      ∙ append_assoc (pair_unless_empty n.SpaceOrTab p first) (pair n.BlockQuoteMarker first close)
      (pair_unless_empty n.SpaceOrTab close end)
      ∙ sym (ap₂ (λ (xs ys : List Event). xs ++ ys) walked_white.events events_are);
  on = subst (OnLine text following line left) (sym end_is) on_end;
}
  where
    room : ℕ
    room = small_indent options

    cells : List Cell
    cells = rest_cells cell_line r p ++ stop

    marker : List Cell
    marker = white_rest room cells

    first : Point
    first = white_end room cells p

    bracket : Rest
    bracket = after_indent r

    bytes : List ℕ
    bytes = bracket.bytes

    size : ℕ
    size = length (marker_of alert)

    close : Point
    close = past_text (take size bytes) first

    after : Rest
    after = rests.following size bracket

    left : Rest
    left = after_indent after

    after_cells : List Cell
    after_cells = rest_cells cell_line after close ++ stop

    end : Point
    end = line_end after_cells close

    indented : HasIndent cell_line text following room r p stop bracket
    indented = indent-taken cell_line text following room r p stop on.valid k fits

    walked_white : HasWhite text cells p first
    walked_white = white-walk cell_line text following (indent r) room r p stop on.valid k refl fits

    on_first : OnLine text following line bracket first
    on_first = indent-on cell_line text following line (indent r) room r p stop on k refl fits

    spaces : bracket.spaces ≡ 0
    spaces = bare-spaces bracket indented.none

    parts : (has_marker alert bytes ≡ true) × (is_blank (drop size bytes) ≡ true)
    parts = and_parts (has_marker alert bytes) (is_blank (drop size bytes)) marked

    cells_are : marker ≡ spread cell_line bytes first ++ stop
    cells_are =
        indented.cells ∙ ap (λ (l : List Cell). l ++ stop) (bare-spread cell_line bracket first indented.none)

    walked : Marked cell_line bytes size first stop (spread cell_line bytes first ++ stop)
    walked = marked-cells alert cell_line bytes first stop parts.0 (omega (arith, on_first.valid.column))

    bare : NoEnding bytes
    bare = lose-no_ending (indent r) r plain

    on_close : OnLine text following line (past size bracket) close
    on_close = past-on text following line size bracket first on_first spaces bare

    after_is : past size bracket ≡ after
    after_is =
        ap (λ (c : ℕ). rest c 0 (drop size bytes))
        (omega (arith, on_close.valid.column, walked.column, on_first.valid.column))

    on_after : OnLine text following line after close
    on_after = subst (λ (s : Rest). OnLine text following line s close) after_is on_close

    blank : HasBlankRest cell_line text following after close stop after_cells left
    blank =
        blank-rest cell_line text following after close stop on_after.valid
        (following-no_ending size bracket bare) k parts.1

    on_end : OnLine text following line left end
    on_end =
        subst (OnLine text following line left) same
        (indent-on cell_line text following line (indent after) (indent after) after close stop on_after k refl
        (omega arith))
      where
        white_last : Point
        white_last = white_end (indent after) after_cells close

        taken : HasIndent cell_line text following (indent after) after close stop left
        taken =
            indent-taken cell_line text following (indent after) after close stop on_after.valid k (omega arith)

        same : white_last ≡ end
        same =
            sym (empty-past left white_last blank.empty) ∙ taken.ends ∙ sym blank.ends
            ∙ empty-past left end blank.empty

    following_is : after_alert alert marker ≡ after_cells
    following_is = ap (drop size) cells_are ∙ walked.left

    close_is : alert_close alert marker first ≡ close
    close_is = ap (λ (l : List Cell). point_after (take size l) first) cells_are ∙ walked.point

    end_is : alert_end options (Some alert) cells p ≡ end
    end_is = ap₂ (λ (l : List Cell) (x : Point). line_end l x) following_is close_is

    events_are : marked_events alert marker first ≡
        pair n.BlockQuoteMarker first close ++ pair_unless_empty n.SpaceOrTab close end
    events_are =
        ap₂ (λ (l : List Cell) (x : Point). pair n.BlockQuoteMarker first x ++ blank_events l x) following_is close_is
        ∙ ap (λ (es : List Event). pair n.BlockQuoteMarker first close ++ es) blank.events

    apart : same_place first close ≡ false
    apart =
        let index = past-index (take size bytes) first in
        let some = marker-some alert in
        let further : first.index < close.index = omega (arith, index, walked.size, some) in
        grind (arith, nat_tests)

-- what the definition has there
alert-marked : (options : ParseOptions) (r : Rest) (alert : AlertKind) → alert_at options r ≡ Some alert →
    (has_small_indent options r ≡ true) × (is_marked alert (after_indent r).bytes ≡ true)
unfolding alert_at
alert-marked options r alert e = go options.constructs.alerts (has_small_indent options r) refl e
  where
    found : Option AlertKind
    found = first_kind (λ k. is_marked k (after_indent r).bytes) kinds

    go : (x y : Bool) → has_small_indent options r ≡ y → cond (x && y) found None ≡ Some alert →
        (has_small_indent options r ≡ true) × (is_marked alert (after_indent r).bytes ≡ true)
    go true true e f = (e, first-passes (λ k. is_marked k (after_indent r).bytes) alert kinds f)
    go true false e f = absurd (cc)
    go false y e f = absurd (cc)

-- The whole prefix.

-- of an alert of this kind, or of a quote that is none
record HasAlertIf (options : ParseOptions) (text following : List ℕ) (line : TextLine) (t : Taken) (cells : List Cell)
    (p : Point) (alert : Option AlertKind) : Type 0 where
  events : alert_part line alert t.rest (taken_as t alert).rest ≡ alert_events options alert cells p
  on : OnLine text following line (taken_as t alert).rest (alert_end options alert cells p)
  container : t.container ≡ InQuote None → (taken_as t alert).container ≡ InQuote alert

alert-if : (options : ParseOptions) (cell_line : Line) (text following : List ℕ) (line : TextLine)
    (t : Taken) (p : Point)
    (stop : List Cell) (alert : Option AlertKind) →
    LineIn text following line → OnLine text following line t.rest p → NoEnding t.rest.bytes → Stops stop →
    length (rest_cells cell_line t.rest p ++ stop) < 2 ^ 63 → alert_at options t.rest ≡ alert →
    HasAlertIf options text following line t (rest_cells cell_line t.rest p ++ stop) p alert
alert-if options cell_line text following line t p stop None is on plain k short e =
    record { events = refl; on = on; container = λ h. h }
alert-if options cell_line text following line t p stop (Some alert) is on plain k short e =
    let parts = alert-marked options t.rest alert e in
    let has = marked-same options alert cell_line text following line t.rest p stop is on plain k
    (small-fits options cell_line text following t.rest stop p on.valid short parts.0) parts.1 in
    record { events = has.events; on = has.on; container = λ h. refl }

-- what a quote has on the line on which it opens
pub record HasOpening (options : ParseOptions) (text following : List ℕ) (line : TextLine) (r : Rest)
    (cells : List Cell)
    (p : Point) (t : Taken) : Type 0 where
  pub container : t.container ≡ InQuote (opening_kind options cells)
  pub events : quote_prefix line (opening_kind options cells) r t.rest ≡ opening_events options cells p
  pub on : OnLine text following line t.rest (opening_end options cells p)

-- the events before the end of the prefix, and those up to it
regrouped : (white_before inside alert end : List Event) (e : Event) →
    white_before ++ (e ∷ ((inside ++ alert) ++ end)) ≡ ((white_before ++ (e ∷ inside)) ++ alert) ++ end
regrouped white_before inside alert end e =
    ap (λ (es : List Event). white_before ++ (e ∷ es)) (append_assoc inside alert end)
    ∙ sym (append_assoc white_before (e ∷ inside) (alert ++ end))
    ∙ sym (append_assoc (white_before ++ (e ∷ inside)) alert end)

-- A quote that opens has the events of its prefix.
pub opening-same : (options : ParseOptions) (cell_line : Line) (text following : List ℕ) (line : TextLine) (r : Rest)
    (p : Point) (stop : List Cell) (t : Taken) →
    LineIn text following line → OnLine text following line r p → NoEnding r.bytes → Stops stop →
    length (rest_cells cell_line r p ++ stop) < 2 ^ 63 → opens_quote options r ≡ Some t →
    HasOpening options text following line r (rest_cells cell_line r p ++ stop) p t
unfolding opens_quote
opening-same options cell_line text following line r p stop t is on plain k short e =
    go options.constructs.block_quote (quote_taken options None r) refl e
    (prefix-agrees options None cell_line text following r stop p on.valid k short)
  where
    cells : List Cell
    cells = rest_cells cell_line r p ++ stop

    q : Point
    q = prefix_end options cells p

    own : Option AlertKind
    own = opening_kind options cells

    Goal : Taken → Type 0
    Goal u = HasOpening options text following line r cells p u

    -- after the prefix of any quote
    whole : (u : Taken) → quote_taken options None r ≡ Some u →
        HasPrefix options cell_line text following (past_rest r p) stop cells p u.rest →
        Goal (taken_as u (alert_at options u.rest))
    whole u f h = subst (λ (a : Option AlertKind). Goal (taken_as u a)) kind_is opening
      where
        front : HasFront options text following line r cells p u
        front = has-front options None cell_line text following line r p stop u is on plain k short f

        bare : NoEnding u.rest.bytes
        bare = quote-no_ending options None r u plain f

        left : List Cell
        left = rest_cells cell_line u.rest q ++ stop

        fits : length left < 2 ^ 63
        fits = let size = ap length h.fed in let less = h.shorter in omega (arith, size, less, short)

        kind_is : own ≡ alert_at options u.rest
        kind_is =
            ap (alert_of options) h.fed
            ∙ alert-agrees options cell_line text following u.rest stop q front.on_left.valid bare k fits

        has : HasAlertIf options text following line u (prefix_rest options cells) q own
        has =
            subst (λ (a : Option AlertKind). HasAlertIf options text following line u (prefix_rest options cells) q a)
            (sym kind_is)
            (subst
            (λ (l : List Cell). HasAlertIf options text following line u l q (alert_at options u.rest)) (sym h.fed)
            (alert-if options cell_line text following line u q stop (alert_at options u.rest) is
            front.on_left bare k fits
            refl))

        m : Rest
        m = after_indent r

        s : Rest
        s = (taken_as u own).rest

        end : Point
        end = opening_end options cells p

        inside : List Event
        inside =
            pair n.BlockQuoteMarker front.marker (past_byte 62 front.marker)
            ++ pair_unless_empty n.SpaceOrTab (past_byte 62 front.marker) q

        marked : List Event
        marked = alert_events options own (prefix_rest options cells) q

        opening : Goal (taken_as u own)
        opening = record {
          container = has.container (quote-container options None r u f);
          events =
              ap₂ (λ (xs ys : List Event). xs ++ ys) front.indent
              (part-on text following line n.BlockQuotePrefix m s front.marker end _ is front.on_marker has.on
              ∙ ap (λ (es : List Event). around n.BlockQuotePrefix front.marker end es)
              (ap₂ (λ (xs ys : List Event). xs ++ ys) front.inside
              (ap (λ (c : Rest). alert_part line own c s) front.rest_is ∙ has.events)))
              ∙ regrouped (pair_unless_empty n.SpaceOrTab p front.marker) inside marked
              (exit n.BlockQuotePrefix end ∷ [])
              (enter n.BlockQuotePrefix front.marker)
              ∙ ap (λ (es : List Event). (es ++ marked) ++ exit n.BlockQuotePrefix end ∷ []) (sym front.events);
          on = has.on;
        }

    go : (x : Bool) (o : Option Taken) → quote_taken options None r ≡ o → cond x (with_kind options o) None ≡ Some t →
        PrefixIs options cell_line text following (past_rest r p) stop cells p o → Goal t
    go false o f g h = absurd (cc)
    go true None f g h = absurd (cc)
    go true (Some u) f g h = subst Goal (ap (taken_of t) g) (whole u f h)
      where
        taken_of : Taken → Option Taken → Taken
        taken_of other None = other
        taken_of other (Some v) = v
