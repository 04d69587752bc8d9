-- What the prefix of the line on which a quote opens takes of that line is what the definition of lines takes: the
-- prefix of any line of a quote, and after it the marker of an alert, if there is one.
use Rattle.std.proofs.Common.{◌≡◌, ℕ, zero, suc, ◌+◌, ◌-◌, ◌^◌, ◌<◌, ◌≤◌, Bool, true, false, cond, List, [], ◌∷◌, ◌++◌}
use Rattle.std.proofs.Common.{length, Option, Some, None, refl, sym, ap, ◌∙◌, subst, arith}
use Rattle.std.specs.Prelude.{◌==◌}
use Rattle.md_engine.specs.declared.configuration.ParseOptions.{ParseOptions}
use Rattle.md_engine.specs.declared.event.Event.{Event}
use Rattle.md_engine.specs.declared.event.Name.TheVariants as n
use Rattle.md_engine.specs.declared.event.Point.{Point}
use Rattle.md_engine.specs.declared.tokenizer.Line.{Line}
use Rattle.md_engine.specs.Meaning.{Cell}
use Rattle.md_containers.proofs.AlertLines.{alert-agrees, alert-has, after_alert_of}
pub use Rattle.md_containers.proofs.AlertLines.{IsMarker, IsMarkerIf, marker-kind, marker-none}
use Rattle.md_containers.specs.QuoteRule.{alert_end, alert_events, alert_of, alert_rest, front_events, opening_end}
use Rattle.md_containers.specs.QuoteRule.{opening_events, opening_kind, opening_rest, prefix_end, prefix_rest}
use Rattle.md_containers.specs.QuoteRule.{takes_prefix}
use Rattle.md_containers.proofs.QuoteCells.{opening-shorter}
use Rattle.md_containers.proofs.QuoteLines.{HasPrefix, IsPrefix, PrefixIs, prefix-agrees, quote-container}
use Rattle.md_containers.proofs.QuoteLines.{quote-no_ending, taken-left}
use Rattle.md_meaning.specs.declared.alert.AlertKind.{AlertKind}
use Rattle.md_meaning.specs.Alert.{alert_at, marker_of}
use Rattle.md_meaning.specs.Containers.{Taken, quote_taken, taken_as, with_kind}
use Rattle.md_meaning.specs.Rest.{Rest, following, after_indent, indent, lose, tab_columns, without_column}
use Rattle.md_meaning.specs.State.{InQuote}
use Rattle.md_meaning.proofs.TextsLemmas.{NoEnding}
use Rattle.md_events.specs.Events.Nested.{exit}
use Rattle.md_events.proofs.FeedLines.{Stops}
use Rattle.md_events.proofs.RestCells.{RestAt, following-no_ending, lose-no_ending, past_rest, rest_cells}

-- The prefix of the line on which a quote of this kind opens, from a point to a point.
pub record IsOpening (bytes : List ℕ) (kind : Option AlertKind) (p q : Point) (es : List Event) : Type 0 where
  -- after `>` and its column of whitespace; the events before that, and those of the marker of an alert
  pub middle : Point
  pub front : List Event
  pub alert : List Event
  pub prefix : IsPrefix bytes p middle (front ++ exit n.BlockQuotePrefix middle ∷ [])
  pub marker : IsMarkerIf bytes kind middle q alert
  pub events : es ≡ front ++ alert ++ exit n.BlockQuotePrefix q ∷ []

-- so much is left of a line after such a prefix, and this is there
pub record HasOpeningPrefix (options : ParseOptions) (line : Line) (text past : List ℕ) (end : Point)
    (stop cells : List Cell) (p : Point) (taken : Taken) : Type 0
  where
    pub takes : takes_prefix options cells ≡ true
    pub kind : taken.container ≡ InQuote (opening_kind options cells)
    pub fed : opening_rest options cells ≡ rest_cells line taken.rest (opening_end options cells p) ++ stop
    pub valid : RestAt text past taken.rest (opening_end options cells p)
    pub ends : past_rest taken.rest (opening_end options cells p) ≡ end
    pub opening :
        IsOpening text (opening_kind options cells) p (opening_end options cells p) (opening_events options cells p)
    pub shorter : length (opening_rest options cells) < length cells

-- such a prefix is there, or none
abbrev pub OpeningIs : ParseOptions → Line → (text past : List ℕ) → Point → (stop cells : List Cell) → Point →
    Option Taken → Type 0
OpeningIs options line text past end stop cells p (Some taken) =
    HasOpeningPrefix options line text past end stop cells p taken
OpeningIs options line text past end stop cells p None = takes_prefix options cells ≡ false

-- The whole prefix.

-- of a quote of this kind: after the prefix that any line has
record HasOpened (options : ParseOptions) (line : Line) (text past : List ℕ) (end : Point) (stop cells : List Cell)
    (p : Point) (kind : Option AlertKind) (taken : Taken) : Type 0 where
  container : taken.container ≡ InQuote kind
  fed : alert_rest options kind cells ≡ rest_cells line taken.rest (alert_end options kind cells p) ++ stop
  valid : RestAt text past taken.rest (alert_end options kind cells p)
  ends : past_rest taken.rest (alert_end options kind cells p) ≡ end
  marker : IsMarkerIf text kind p (alert_end options kind cells p) (alert_events options kind cells p)

opened : (options : ParseOptions) (line : Line) (text past : List ℕ) (t : Taken) (stop : List Cell) (p : Point)
    (kind : Option AlertKind) →
    RestAt text past t.rest p → NoEnding t.rest.bytes → Stops stop →
    length (rest_cells line t.rest p ++ stop) < 2 ^ 63 → t.container ≡ InQuote None → alert_at options t.rest ≡ kind →
    HasOpened options line text past (past_rest t.rest p) stop (rest_cells line t.rest p ++ stop) p kind
    (taken_as t kind)
opened options line text past t stop p None is h k short quote e =
    record { container = quote; fed = refl; valid = is; ends = refl; marker = (refl, refl) }
opened options line text past t stop p (Some kind) is h k short quote e =
    let has = alert-has options line text past t.rest stop p kind is h k short e in
    record { container = refl; fed = has.fed; valid = has.valid; ends = has.ends; marker = has.marker }

-- such a prefix is on the cells of a line where it is on its bytes
pub opening-agrees : (options : ParseOptions) (line : Line) (text past : List ℕ) (r : Rest) (stop : List Cell)
    (p : Point) →
    RestAt text past r p → NoEnding r.bytes → Stops stop → length (rest_cells line r p ++ stop) < 2 ^ 63 →
    OpeningIs options line text past (past_rest r p) stop (rest_cells line r p ++ stop) p
    (with_kind options (quote_taken options None r))
opening-agrees options line text past r stop p is h k short =
    go (quote_taken options None r) refl (prefix-agrees options None line text past r stop p is k short)
  where
    cells : List Cell
    cells = rest_cells line r p ++ stop

    left : List Cell
    left = prefix_rest options cells

    q : Point
    q = prefix_end options cells p

    Opened : Taken → List Cell → Option AlertKind → Type 0
    Opened t from kind =
        HasOpened options line text past (past_rest r p) stop from q kind (taken_as t (alert_at options t.rest))

    whole : (t : Taken) → HasPrefix options line text past (past_rest r p) stop cells p t.rest →
        Opened t left (opening_kind options cells) →
        HasOpeningPrefix options line text past (past_rest r p) stop cells p (taken_as t (alert_at options t.rest))
    whole t has o = record {
      takes = has.takes;
      kind = o.container;
      fed = o.fed;
      valid = o.valid;
      ends = o.ends;
      opening = record {
        middle = q;
        front = front_events options cells p;
        alert = alert_events options (opening_kind options cells) left q;
        prefix = has.prefix;
        marker = o.marker;
        events = refl;
      };
      shorter = opening-shorter options cells has.takes;
    }

    Done : Option Taken → Type 0
    Done taken = OpeningIs options line text past (past_rest r p) stop cells p (with_kind options taken)

    go : (taken : Option Taken) → quote_taken options None r ≡ taken →
        PrefixIs options line text past (past_rest r p) stop cells p taken → Done taken
    go None e none = none
    go (Some t) e has =
        let from = rest_cells line t.rest q ++ stop in
        let less : length from < 2 ^ 63 = let size = ap length has.fed in let lt = has.shorter in omega arith in
        let no_ending = quote-no_ending options None r t h e in
        let kind : opening_kind options cells ≡ alert_at options t.rest =
        ap (alert_of options) has.fed
        ∙ alert-agrees options line text past t.rest stop q has.valid no_ending k less in
        let one : Opened t from (alert_at options t.rest) =
        subst
        (λ (end : Point).
        HasOpened options line text past end stop from q (alert_at options t.rest)
        (taken_as t (alert_at options t.rest))) has.ends
        (opened options line text past t stop q (alert_at options t.rest) has.valid no_ending k less
        (quote-container options None r t e) refl) in
        whole t has
        (subst (λ (l : List Cell). Opened t l (opening_kind options cells)) (sym has.fed)
        (subst (Opened t from) (sym kind) one))

-- What is left.

-- by the kind, it is that of any line, or what is after the marker of an alert
opening-left : (P : Rest → Type 0) (options : ParseOptions) (r : Rest) (taken : Taken) →
    let s = lose 1 (following 1 (after_indent r)) in
    P s → ((kind : AlertKind) → P (after_alert_of kind s)) →
    with_kind options (quote_taken options None r) ≡ Some taken → P taken.rest
opening-left P options r taken none some e = go (quote_taken options None r) refl e
  where
    s : Rest
    s = lose 1 (following 1 (after_indent r))

    by : (t : Taken) → t.rest ≡ s → (kind : Option AlertKind) → P (taken_as t kind).rest
    by t same None = subst P (sym same) none
    by t same (Some kind) = subst (λ (x : Rest). P (after_alert_of kind x)) (sym same) (some kind)

    go : (o : Option Taken) → quote_taken options None r ≡ o → with_kind options o ≡ Some taken → P taken.rest
    go None f e = cc
    go (Some t) f e =
        let same : taken_as t (alert_at options t.rest) ≡ taken = cc in
        subst (λ (x : Taken). P x.rest) same
        (by t (taken-left (λ x. x.rest ≡ s) options None r t refl f) (alert_at options t.rest))

-- a line without an ending is left without one
after_alert-no_ending : (kind : AlertKind) (r : Rest) → NoEnding r.bytes → NoEnding (after_alert_of kind r).bytes
after_alert-no_ending kind r h =
    let from = after_indent r in
    let after = following (length (marker_of kind)) from in
    lose-no_ending (indent after) after
    (following-no_ending (length (marker_of kind)) from (lose-no_ending (indent r) r h))

pub opening-no_ending : (options : ParseOptions) (r : Rest) (taken : Taken) → NoEnding r.bytes →
    with_kind options (quote_taken options None r) ≡ Some taken → NoEnding taken.rest.bytes
opening-no_ending options r taken h e =
    let from = after_indent r in
    let left = lose-no_ending 1 (following 1 from) (following-no_ending 1 from (lose-no_ending (indent r) r h)) in
    opening-left (λ s. NoEnding s.bytes) options r taken left
    (λ kind. after_alert-no_ending kind (lose 1 (following 1 from)) left) e

-- it is a column further at least
abbrev rest : ℕ → ℕ → List ℕ → Rest
rest column spaces bytes = record { column = column; spaces = spaces; bytes = bytes }

without-onward : (column spaces : ℕ) (bytes : List ℕ) → column ≤ (without_column column spaces bytes).column
without-onward column (suc spaces) bytes = omega arith
without-onward column zero [] = omega arith
without-onward column zero (b ∷ bs) = go (b == 9) (b == 32)
  where
    go : (x y : Bool) →
        column ≤
        (cond x (rest (column + 1) (tab_columns column - 1) bs)
        (cond y (rest (column + 1) 0 bs) (rest column 0 (b ∷ bs)))).column
    go true y = omega arith
    go false true = omega arith
    go false false = omega arith

pub lose-onward : (n : ℕ) (r : Rest) → r.column ≤ (lose n r).column
lose-onward zero r = omega arith
lose-onward (suc n) r =
    omega (
      arith,
      without-onward r.column r.spaces r.bytes,
      lose-onward n (without_column r.column r.spaces r.bytes),
    )

marked-onward : (r : Rest) → r.column < (lose 1 (following 1 (after_indent r))).column
marked-onward r = omega (arith, lose-onward (indent r) r, lose-onward 1 (following 1 (after_indent r)))

-- the prefix of a quote takes a column at least
pub quote-onward : (options : ParseOptions) (kind : Option AlertKind) (r : Rest) (taken : Taken) →
    quote_taken options kind r ≡ Some taken → r.column < taken.rest.column
quote-onward options kind r taken e =
    taken-left (λ t. r.column < t.rest.column) options kind r taken (marked-onward r) e
