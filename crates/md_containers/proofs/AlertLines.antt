-- What the marker of an alert takes of a line is what the definition of lines takes: a small indent, the marker in any
-- ASCII case, and whitespace up to the end of the line.
use Rattle.std.proofs.Common.{◌≡◌, ℕ, zero, suc, ◌+◌, ◌^◌, ◌<◌, ◌≤◌, Bool, true, false, cond, ◌&&◌, List, [], ◌∷◌}
use Rattle.std.proofs.Common.{◌++◌, length, take, drop, Option, Some, None, slice_range, refl, sym, ap, ap₂, ◌∙◌, subst}
use Rattle.std.proofs.Common.{arith, append_assoc}
use Rattle.std.specs.Prelude.{IsTrue, slice_get}
use Rattle.std.specs.Str.{str_eq_ignore_ascii_case}
use Rattle.std.proofs.lemmas.Bool.{and_parts}
use Rattle.std.proofs.lemmas.List.{take-append-drop, length-append}
use Rattle.md_engine.specs.declared.configuration.ParseOptions.{ParseOptions}
use Rattle.md_engine.specs.declared.event.Event.{Event}
use Rattle.md_engine.specs.declared.event.Name.TheVariants as n
use Rattle.md_engine.specs.declared.event.Point.{Point}
use Rattle.md_engine.specs.declared.tokenizer.Line.{Line}
use Rattle.md_engine.specs.Meaning.{Cell}
use Rattle.md_containers.specs.QuoteRule.{alert_close, alert_end, alert_events, alert_of, alert_rest, after_alert}
use Rattle.md_containers.specs.QuoteRule.{marked_events, takes_marker}
use Rattle.md_containers.proofs.AlertBytes.{Marked, first-none, first-passes, first-same, kind-alone, kind-quote}
use Rattle.md_containers.proofs.AlertBytes.{marked-cells, takes-marked, white-unmarked}
use Rattle.md_containers.proofs.QuoteLines.{HasWhite, white-walk}
use Rattle.md_leaves.specs.BlankRule.{blank_events}
use Rattle.md_meaning.specs.declared.alert.AlertKind.{AlertKind}
use Rattle.md_meaning.specs.Alert.{alert_at, first_kind, has_marker, is_marked, kinds, marker_of}
use Rattle.md_meaning.specs.Rest.{Rest, following, after_indent, cut_tab, has_small_indent, indent, is_blank, is_white}
use Rattle.md_meaning.specs.Rest.{trim_start}
use Rattle.md_meaning.proofs.TextsLemmas.{NoEnding}
use Rattle.md_events.specs.Ahead.{begins_white, from_ending, line_end, point_after, white_end, white_rest}
use Rattle.md_events.specs.Events.Inline.{pair_unless_empty}
use Rattle.md_events.specs.Events.Nested.{enter, exit, pair}
use Rattle.md_events.specs.Events.Spelled.{kind_at}
use Rattle.md_events.specs.Events.Places.{at_or_before, past_byte, past_text}
use Rattle.md_events.specs.Spaces.{small_indent}
use Rattle.md_events.proofs.FeedLines.{Stops, drop-past, past_text-whole, slice-front, spread}
use Rattle.md_events.proofs.InlineLemmas.{past-index, past_text-append}
use Rattle.md_events.proofs.LostColumns.{White}
use Rattle.md_events.proofs.RestCells.{Bare, Cut, HasIndent, RestAt, bare, following-no_ending, cells_by, indent-length}
use Rattle.md_events.proofs.RestCells.{indent-over, indent-taken, lose-no_ending, past_cut, past_rest, rest_cells}
use Rattle.md_events.proofs.RestLines.{bare-spread, indent-trims, large-room, rest-from, rest-past, small-room}
use Rattle.md_events.proofs.RestLines.{trim-white}

-- The marker of an alert of this kind, from a point after a prefix to the end of the line: whitespace, the marker, and
-- whitespace.
pub record IsMarker (bytes : List ℕ) (kind : AlertKind) (p q : Point) (es : List Event) : Type 0 where
  -- where its first bracket is, and the point after its last one
  pub opens : Point
  pub closes : Point
  pub events : es ≡
      pair_unless_empty n.SpaceOrTab p opens ++ enter n.BlockQuoteMarker opens ∷ exit n.BlockQuoteMarker closes
      ∷ pair_unless_empty n.SpaceOrTab closes q
  -- the points continue
  pub indent : IsTrue (at_or_before p opens)
  pub past : closes.index ≡ opens.index + length (marker_of kind)
  pub column : IsTrue (at_or_before closes q)
  -- its bytes, in any ASCII case, and no tab is cut around them
  pub marker : str_eq_ignore_ascii_case (marker_of kind) (slice_range bytes opens.index closes.index) ≡ true
  pub opens_whole : opens.vs ≡ 0
  pub closes_whole : closes.vs ≡ 0
  -- what is whitespace
  pub white_before : is_blank (slice_range bytes p.index opens.index) ≡ true
  pub white_after : is_blank (slice_range bytes closes.index q.index) ≡ true
  -- all on one line
  pub line : q.line ≡ p.line

-- The marker of an alert, if the quote is one.
abbrev pub IsMarkerIf : List ℕ → Option AlertKind → Point → Point → List Event → Type 0
IsMarkerIf bytes None p q es = (es ≡ []) × (q ≡ p)
IsMarkerIf bytes (Some kind) p q es = IsMarker bytes kind p q es

-- Nothing but whitespace.

blank-trims : (bytes : List ℕ) → is_blank bytes ≡ true → trim_start bytes ≡ []
blank-trims [] e = refl
blank-trims (b ∷ bs) e =
    let parts = and_parts (is_white b) (is_blank bs) e in trim-white b bs parts.0 ∙ blank-trims bs parts.1

-- after its whitespace nothing is left
pub record IsEmpty (r : Rest) : Type 0 where
  pub spaces : r.spaces ≡ 0
  pub bytes : r.bytes ≡ []

pub bare-spaces : (r : Rest) → indent r ≡ 0 → r.spaces ≡ 0
bare-spaces r e = go r.spaces r.bytes (bare r e)
  where
    go : (spaces : ℕ) (bytes : List ℕ) → Bare spaces bytes → spaces ≡ 0
    go zero bytes h = refl
    go (suc n) bytes h = absurd h

empty-cells : (line : Line) (r : Rest) (p : Point) → IsEmpty r → rest_cells line r p ≡ []
empty-cells line r p e = ap₂ (λ (n : ℕ) (bytes : List ℕ). cells_by line n bytes p) e.spaces e.bytes

pub empty-past : (r : Rest) (p : Point) → IsEmpty r → past_rest r p ≡ p
empty-past r p e = ap₂ (λ (n : ℕ) (bytes : List ℕ). past_text bytes (past_cut n p)) e.spaces e.bytes

-- the whitespace of a blank rest, up to the end of the line
pub record HasBlankRest (line : Line) (text past : List ℕ) (r : Rest) (p : Point) (stop cells : List Cell)
    (left : Rest) : Type 0 where
  pub empty : IsEmpty left
  pub fed : from_ending cells ≡ rest_cells line left (line_end cells p) ++ stop
  pub valid : RestAt text past left (line_end cells p)
  pub ends : past_rest left (line_end cells p) ≡ past_rest r p
  pub events : blank_events cells p ≡ pair_unless_empty n.SpaceOrTab p (line_end cells p)
  pub white : White text p (line_end cells p)

pub blank-rest : (line : Line) (text past : List ℕ) (r : Rest) (p : Point) (stop : List Cell) → RestAt text past r p →
    NoEnding r.bytes → Stops stop → is_blank r.bytes ≡ true →
    HasBlankRest line text past r p stop (rest_cells line r p ++ stop) (after_indent r)
blank-rest line text past r p stop is h k blank = record {
  empty = empty;
  fed = rest-from line r p stop h k ∙ ap (λ (l : List Cell). l ++ stop) (sym (empty-cells line left q empty));
  valid = subst (RestAt text past left) at taken.valid;
  ends = empty-past left q empty ∙ rest-past line r p stop h k (omega (arith, is.column));
  events = ap (λ (x : Point). cond (begins_white cells) (pair n.SpaceOrTab p x) []) (sym at) ∙ walked.events
      ∙ ap (pair_unless_empty n.SpaceOrTab p) at;
  white = subst (White text p) at walked.white;
}
  where
    cells : List Cell
    cells = rest_cells line r p ++ stop

    left : Rest
    left = after_indent r

    q : Point
    q = line_end cells p

    end : Point
    end = white_end (indent r) cells p

    taken : HasIndent line text past (indent r) r p stop left
    taken = indent-taken line text past (indent r) r p stop is k (omega arith)

    walked : HasWhite text cells p end
    walked = white-walk line text past (indent r) (indent r) r p stop is k refl (omega arith)

    empty : IsEmpty left
    empty = record {
      spaces = bare-spaces left taken.none;
      bytes = indent-trims r taken.none ∙ blank-trims r.bytes blank;
    }

    at : end ≡ q
    at = sym (empty-past left end empty) ∙ taken.ends ∙ sym (rest-past line r p stop h k (omega (arith, is.column)))

-- The marker of an alert.

past-line : (bytes : List ℕ) (p : Point) → (past_text bytes p).line ≡ p.line
past-line [] p = refl
past-line (b ∷ bs) p = past-line bs (past_byte b p)

-- it is on the cells of a rest, and so much is left after it
pub record HasAlert (options : ParseOptions) (line : Line) (text past : List ℕ) (end : Point) (stop cells : List Cell)
    (p : Point) (kind : AlertKind) (left : Rest) : Type 0 where
  pub fed : alert_rest options (Some kind) cells ≡ rest_cells line left (alert_end options (Some kind) cells p) ++ stop
  pub valid : RestAt text past left (alert_end options (Some kind) cells p)
  pub ends : past_rest left (alert_end options (Some kind) cells p) ≡ end
  pub marker : IsMarker text kind p (alert_end options (Some kind) cells p) (alert_events options (Some kind) cells p)

-- the rest after the marker of a kind
abbrev pub after_alert_of : AlertKind → Rest → Rest
after_alert_of kind r = after_indent (following (length (marker_of kind)) (after_indent r))

-- where its bytes are after a small indent
alert-taken : (options : ParseOptions) (kind : AlertKind) (line : Line) (text past : List ℕ) (r : Rest)
    (stop : List Cell) (p : Point) →
    RestAt text past r p → NoEnding r.bytes → Stops stop → indent r ≤ small_indent options →
    is_marked kind (after_indent r).bytes ≡ true →
    HasAlert options line text past (past_rest r p) stop (rest_cells line r p ++ stop) p kind (after_alert_of kind r)
alert-taken options kind line text past r stop p is h k fits marked = record {
  fed = ap from_ending following_is ∙ blank.fed ∙ ap (λ (x : Point). rest_cells line left x ++ stop) (sym end_is);
  valid = subst (RestAt text past left) (sym end_is) blank.valid;
  ends = ap (past_rest left) end_is ∙ blank.ends ∙ past_is ∙ indented.ends;
  marker =
      subst (λ (x : Point). IsMarker text kind p x (alert_events options (Some kind) cells p)) (sym end_is) (record {
        opens = first;
        closes = close;
        events =
            ap (λ (es : List Event). es ++ marked_events kind marker first) white.events
            ∙ ap (λ (es : List Event). pair_unless_empty n.SpaceOrTab p first ++ es) events_are;
        indent = white.white.onward;
        past = index;
        column = blank.white.onward;
        marker = ap (str_eq_ignore_ascii_case (marker_of kind))
            (slice-front text first.index close.index (take size bytes)
            (drop size bytes ++ past) text_is (past-index (take size bytes) first))
            ∙ parts.0;
        opens_whole = whole;
        closes_whole = past_text-whole (take size bytes) first whole;
        white_before = white.white.blank;
        white_after = blank.white.blank;
        line = blank.white.line ∙ past-line (take size bytes) first ∙ white.white.line;
      });
}
  where
    room : ℕ
    room = small_indent options

    cells : List Cell
    cells = rest_cells line r p ++ stop

    marker : List Cell
    marker = white_rest room cells

    first : Point
    first = white_end room cells p

    from : Rest
    from = after_indent r

    bytes : List ℕ
    bytes = from.bytes

    size : ℕ
    size = length (marker_of kind)

    close : Point
    close = past_text (take size bytes) first

    after : Rest
    after = following size from

    left : Rest
    left = after_indent after

    rest : List Cell
    rest = rest_cells line after close ++ stop

    indented : HasIndent line text past room r p stop from
    indented = indent-taken line text past room r p stop is k fits

    white : HasWhite text cells p first
    white = white-walk line text past (indent r) room r p stop is k refl fits

    spaces : from.spaces ≡ 0
    spaces = bare-spaces from indented.none

    parts : (has_marker kind bytes ≡ true) × (is_blank (drop size bytes) ≡ true)
    parts = and_parts (has_marker kind bytes) (is_blank (drop size bytes)) marked

    cells_are : marker ≡ spread line bytes first ++ stop
    cells_are = indented.cells ∙ ap (λ (l : List Cell). l ++ stop) (bare-spread line from first indented.none)

    walked : Marked line bytes size first stop (spread line bytes first ++ stop)
    walked = marked-cells kind line bytes first stop parts.0 (omega (arith, indented.valid.column))

    following_is : after_alert kind marker ≡ rest
    following_is = ap (drop size) cells_are ∙ walked.left

    close_is : alert_close kind marker first ≡ close
    close_is = ap (λ (l : List Cell). point_after (take size l) first) cells_are ∙ walked.point

    index : close.index ≡ first.index + size
    index = let i = past-index (take size bytes) first in omega (arith, i, walked.size)

    whole : first.vs ≡ 0
    whole = subst (λ (n : ℕ). Cut n first) spaces indented.valid.cut

    text_is : drop first.index text ≡ take size bytes ++ (drop size bytes ++ past)
    text_is =
        indented.valid.text_is
        ∙ ap (λ (n : ℕ). cut_tab n ++ bytes ++ past) spaces
        ∙ ap (λ (l : List ℕ). l ++ past) (sym (take-append-drop size bytes))
        ∙ append_assoc (take size bytes) (drop size bytes) past

    valid : RestAt text past after close
    valid = record {
      column = let c = walked.column in let o = indented.valid.column in omega (arith, c, o);
      cut = past_text-whole (take size bytes) first whole;
      text_is =
          ap (λ (i : ℕ). drop i text) (past-index (take size bytes) first)
          ∙ drop-past text first.index (take size bytes) (drop size bytes ++ past) text_is;
    }

    blank : HasBlankRest line text past after close stop rest left
    blank =
        blank-rest line text past after close stop valid
        (following-no_ending size from (lose-no_ending (indent r) r h)) k
        parts.1

    end_is : alert_end options (Some kind) cells p ≡ line_end rest close
    end_is = ap₂ (λ (l : List Cell) (x : Point). line_end l x) following_is close_is

    past_is : past_rest after close ≡ past_rest from first
    past_is =
        sym (past_text-append (take size bytes) (drop size bytes) first)
        ∙ ap (λ (l : List ℕ). past_text l first) (take-append-drop size bytes)
        ∙ ap (λ (n : ℕ). past_text bytes (past_cut n first)) (sym spaces)

    events_are : marked_events kind marker first ≡
        enter n.BlockQuoteMarker first ∷ exit n.BlockQuoteMarker close
        ∷ pair_unless_empty n.SpaceOrTab close (line_end rest close)
    events_are =
        ap₂ (λ (l : List Cell) (x : Point). pair n.BlockQuoteMarker first x ++ blank_events l x) following_is close_is
        ∙ ap (λ (es : List Event). enter n.BlockQuoteMarker first ∷ exit n.BlockQuoteMarker close ∷ es) blank.events

-- a small indent fits, as in any line
pub small-fits : (options : ParseOptions) (line : Line) (text past : List ℕ) (r : Rest) (stop : List Cell) (p : Point) →
    RestAt text past r p → length (rest_cells line r p ++ stop) < 2 ^ 63 → has_small_indent options r ≡ true →
    indent r ≤ small_indent options
small-fits options line text past r stop p is short e =
    let size = length-append (rest_cells line r p) stop in
    small-room options r (length (rest_cells line r p ++ stop)) e
    (let most = indent-length line text past r p is in omega arith) short

-- the definition, by whether alerts are on and the indent is small
alert-by : (options : ParseOptions) (r : Rest) (x y : Bool) → options.constructs.alerts ≡ x →
    has_small_indent options r ≡ y →
    alert_at options r ≡ cond (x && y) (first_kind (λ kind. is_marked kind (after_indent r).bytes) kinds) None
unfolding alert_at
alert-by options r x y e f = rw (e, f) refl

of-by : (options : ParseOptions) (cells : List Cell) (x : Bool) → options.constructs.alerts ≡ x →
    alert_of options cells ≡
    cond x (first_kind (λ kind. takes_marker kind (white_rest (small_indent options) cells)) kinds) None
of-by options cells x e =
    ap
    (λ (t : Bool).
    cond t (first_kind (λ kind. takes_marker kind (white_rest (small_indent options) cells)) kinds) None) e

-- the cells have the kind that the bytes have
pub alert-agrees : (options : ParseOptions) (line : Line) (text past : List ℕ) (r : Rest) (stop : List Cell)
    (p : Point) →
    RestAt text past r p → NoEnding r.bytes → Stops stop → length (rest_cells line r p ++ stop) < 2 ^ 63 →
    alert_of options (rest_cells line r p ++ stop) ≡ alert_at options r
alert-agrees options line text past r stop p is h k short =
    go options.constructs.alerts (has_small_indent options r) refl refl
  where
    room : ℕ
    room = small_indent options

    cells : List Cell
    cells = rest_cells line r p ++ stop

    bytes : List ℕ
    bytes = (after_indent r).bytes

    go : (x y : Bool) → options.constructs.alerts ≡ x → has_small_indent options r ≡ y →
        alert_of options cells ≡ alert_at options r
    go false y e f = of-by options cells false e ∙ sym (alert-by options r false y e f)
    go true false e f =
        of-by options cells true e
        ∙ first-none (λ kind. takes_marker kind (white_rest room cells))
        (λ kind. white-unmarked kind (white_rest room cells)
        (indent-over line text past room r p stop is (large-room options r f)))
        ∙ sym (alert-by options r true false e f)
    go true true e f =
        let fits = small-fits options line text past r stop p is short f in
        let indented = indent-taken line text past room r p stop is k fits in
        let q = white_end room cells p in
        let same : white_rest room cells ≡ spread line bytes q ++ stop = indented.cells
        ∙ ap (λ (l : List Cell). l ++ stop) (bare-spread line (after_indent r) q indented.none) in
        of-by options cells true e
        ∙ first-same (λ kind. takes_marker kind (white_rest room cells)) (λ kind. is_marked kind bytes)
        (λ kind. ap (takes_marker kind) same
        ∙ takes-marked kind line bytes q stop (lose-no_ending (indent r) r h) k)
        ∙ sym (alert-by options r true true e f)

-- and the marker of that kind is theirs
pub alert-has : (options : ParseOptions) (line : Line) (text past : List ℕ) (r : Rest) (stop : List Cell) (p : Point)
    (kind : AlertKind) →
    RestAt text past r p → NoEnding r.bytes → Stops stop → length (rest_cells line r p ++ stop) < 2 ^ 63 →
    alert_at options r ≡ Some kind →
    HasAlert options line text past (past_rest r p) stop (rest_cells line r p ++ stop) p kind (after_alert_of kind r)
alert-has options line text past r stop p kind is h k short some =
    go options.constructs.alerts (has_small_indent options r) refl refl
  where
    Done : Type 0
    Done =
        HasAlert options line text past (past_rest r p) stop (rest_cells line r p ++ stop) p kind
        (after_alert_of kind r)

    go : (x y : Bool) → options.constructs.alerts ≡ x → has_small_indent options r ≡ y → Done
    go false y e f = let bad = sym (alert-by options r false y e f) ∙ some in cc
    go true false e f = let bad = sym (alert-by options r true false e f) ∙ some in cc
    go true true e f =
        alert-taken options kind line text past r stop p is h k
        (small-fits options line text past r stop p is short f)
        (first-passes (λ j. is_marked j (after_indent r).bytes) kind kinds
        (sym (alert-by options r true true e f) ∙ some))

-- The kind of a marker.

-- that of an alert is the kind that is read there
pub marker-kind : {bytes : List ℕ} {kind : AlertKind} {p q : Point} {es : List Event} →
    (m : IsMarker bytes kind p q es) → kind_at bytes m.opens.index ≡ Some kind
unfolding kind_at
marker-kind {bytes} {kind} m =
    kind-alone kind (drop m.opens.index bytes)
    (ap (λ (n : ℕ). str_eq_ignore_ascii_case (marker_of kind) (take n (drop m.opens.index bytes)))
    (let past = m.past in omega arith) ∙ m.marker)

-- and `>` gives none
pub marker-none : (bytes : List ℕ) (index : ℕ) → slice_get bytes index ≡ Some 62 → kind_at bytes index ≡ None
unfolding kind_at
marker-none bytes index e = go index bytes e
  where
    go : (i : ℕ) (l : List ℕ) → slice_get l i ≡ Some 62 → first_kind (λ k. has_marker k (drop i l)) kinds ≡ None
    go i [] e = cc
    go zero (b ∷ l) e = let same : b ≡ 62 = cc in rw same (kind-quote l)
    go (suc i) (b ∷ l) e = go i l e
