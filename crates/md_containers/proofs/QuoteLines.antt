-- What the prefix of a quote takes of a line is what the definition of lines takes.
use Rattle.std.proofs.Common.{◌≡◌, ℕ, zero, suc, ◌+◌, ◌^◌, ◌<◌, ◌≤◌, Bool, true, false, cond, List, [], ◌∷◌, ◌++◌}
use Rattle.std.proofs.Common.{length, drop, slice_range, Option, Some, None, refl, sym, ap, ◌∙◌, subst, arith}
use Rattle.std.specs.Prelude.{IsTrue, ◌==◌, slice_get}
use Rattle.std.proofs.lemmas.Bool.{eqb-true}
use Rattle.std.proofs.lemmas.Bool.Decides.{nat_tests}
use Rattle.std.proofs.lemmas.List.{length-append}
use Rattle.md_engine.specs.declared.configuration.ParseOptions.{ParseOptions}
use Rattle.md_engine.specs.declared.event.Event.{Event}
use Rattle.md_engine.specs.declared.event.Name.TheVariants as n
use Rattle.md_engine.specs.declared.event.Point.{Point}
use Rattle.md_engine.specs.declared.tokenizer.Line.{Line}
use Rattle.md_engine.specs.Meaning.{Cell}
use Rattle.md_containers.specs.QuoteRule.{after_end, after_events, after_rest, has_marker, marker_end, marker_events}
use Rattle.md_containers.specs.QuoteRule.{marker_rest, prefix_end, prefix_events, prefix_rest, takes_prefix}
use Rattle.md_meaning.specs.declared.alert.AlertKind.{AlertKind}
use Rattle.md_events.specs.Ahead.{begins_white, white_end, white_rest}
use Rattle.md_meaning.specs.Containers.{Taken, quote_taken}
use Rattle.md_events.specs.Events.Inline.{pair_unless_empty}
use Rattle.md_meaning.specs.Lines.{begins_with}
use Rattle.md_events.specs.Events.Nested.{enter, exit, pair}
use Rattle.md_events.specs.Events.Places.{at_or_before, past_byte, past_text}
use Rattle.md_meaning.specs.Rest.{Rest, following, after_indent, has_small_indent, indent, is_blank, is_white, lose}
use Rattle.md_events.specs.Spaces.{small_indent}
use Rattle.md_meaning.specs.State.{InQuote}
use Rattle.md_events.proofs.AheadLemmas.{none-end}
use Rattle.md_events.proofs.FeedLines.{Stops, byte-one, cell, past-next, spread}
use Rattle.md_events.proofs.InlineLemmas.{same-refl}
use Rattle.md_events.proofs.LostColumns.{Step, White, column-step, step-append, white-none}
use Rattle.md_events.proofs.RestCells.{Bare, RestAt, bare, bare-cells, bare-same, following-no_ending, cells_by}
use Rattle.md_events.proofs.RestCells.{column-end, column-first, indent-length, indent-over, indent-taken}
use Rattle.md_events.proofs.RestCells.{lose-no_ending, past_cut, past_rest, rest_cells, white-length, without_first}
use Rattle.md_events.proofs.RestLines.{large-room, small-room}
use Rattle.md_meaning.proofs.TextsLemmas.{NoEnding}

-- The prefix of a quote, from a point to a point: whitespace, `>`, and at most one column of whitespace.
pub record IsPrefix (bytes : List ℕ) (p q : Point) (es : List Event) : Type 0 where
  -- where `>` is, and the point after it
  pub marker : Point
  pub following : Point
  pub events : es ≡
      pair_unless_empty n.SpaceOrTab p marker ++ enter n.BlockQuotePrefix marker ∷ enter n.BlockQuoteMarker marker
      ∷ exit n.BlockQuoteMarker following ∷ pair_unless_empty n.SpaceOrTab following q ++ exit n.BlockQuotePrefix q ∷ []
  -- the points continue
  pub indent : IsTrue (at_or_before p marker)
  pub past : following.index ≡ suc marker.index
  pub column : IsTrue (at_or_before following q)
  -- `>` is a byte, and no tab is cut around it
  pub byte : slice_get bytes marker.index ≡ Some 62
  pub marker_whole : marker.vs ≡ 0
  pub following_whole : following.vs ≡ 0
  -- what is whitespace
  pub white_before : is_blank (slice_range bytes p.index marker.index) ≡ true
  pub white_after : is_blank (slice_range bytes following.index q.index) ≡ true
  -- all on one line
  pub line : q.line ≡ p.line

-- these events, by whether there is no whitespace before `>`, and none after it
abbrev pub prefix_by : Bool → Bool → Point → Point → Point → Point → List Event
prefix_by none same p marker following q =
    cond none [] (pair n.SpaceOrTab p marker) ++ enter n.BlockQuotePrefix marker ∷ enter n.BlockQuoteMarker marker
    ∷ exit n.BlockQuoteMarker following ∷ cond same [] (pair n.SpaceOrTab following q) ++ exit n.BlockQuotePrefix q ∷ []

abbrev rest : ℕ → ℕ → List ℕ → Rest
rest column spaces bytes = record { column = column; spaces = spaces; bytes = bytes }

-- The indent.

-- it is whitespace, and a step if there is one
pub record HasWhite (text : List ℕ) (cells : List Cell) (p q : Point) : Type 0 where
  pub white : White text p q
  pub events : cond (begins_white cells) (pair n.SpaceOrTab p q) [] ≡ pair_unless_empty n.SpaceOrTab p q

white-step : (text : List ℕ) (cells : List Cell) (p q : Point) → begins_white cells ≡ true → Step text p q →
    HasWhite text cells p q
white-step text cells p q e step = record {
  white = step.white;
  events =
      ap (λ (t : Bool). cond t (pair n.SpaceOrTab p q) []) e
      ∙ sym (ap (λ (t : Bool). cond t [] (pair n.SpaceOrTab p q)) step.apart);
}

white-same : (text : List ℕ) (cells : List Cell) (p : Point) → begins_white cells ≡ false → HasWhite text cells p p
white-same text cells p e = record {
  white = white-none text p;
  events =
      ap (λ (t : Bool). cond t (pair n.SpaceOrTab p p) []) e
      ∙ sym (ap (λ (t : Bool). cond t [] (pair n.SpaceOrTab p p)) (same-refl p));
}

pub white-walk : (line : Line) (text following : List ℕ) (n room : ℕ) (r : Rest) (p : Point) (stop : List Cell) →
    RestAt text following r p → Stops stop → indent r ≡ n → n ≤ room →
    HasWhite text (rest_cells line r p ++ stop) p (white_end room (rest_cells line r p ++ stop) p)
white-walk line text following zero room r p stop is k e le =
    let white = bare-cells line r p stop e k in
    subst (HasWhite text (rest_cells line r p ++ stop) p) (sym (none-end room (rest_cells line r p ++ stop) p white))
    (white-same text (rest_cells line r p ++ stop) p white)
white-walk line text following (suc n) zero r p stop is k e le = absurd (omega (arith, le))
white-walk line text following (suc n) (suc room) r p stop is k e le =
    let first = column-first line text following r p is (omega (arith, e)) in
    let cs = rest_cells line (without_first r) first.at ++ stop in
    let further = white-walk line text following n room (without_first r) first.at stop first.valid k
    (omega (arith, e, first.columns)) (omega (arith, le)) in
    let cells : rest_cells line r p ++ stop ≡
    cell first.byte first.at line ∷ cs = ap (λ (l : List Cell). l ++ stop) first.cells in
    let end : white_end (suc room) (rest_cells line r p ++ stop) p ≡
    white_end room cs first.at = ap (λ (l : List Cell). white_end (suc room) l p) cells
    ∙ ap (λ (t : Bool). cond t (white_end room cs first.at) p) first.white in
    white-step text (rest_cells line r p ++ stop) p (white_end (suc room) (rest_cells line r p ++ stop) p)
    (ap begins_white cells ∙ first.white)
    (subst (Step text p) (sym end)
    (step-append text p first.at (white_end room cs first.at)
    (column-step line text following r p is (omega (arith, e)) first) further.white))

-- room for more columns than there are changes nothing
pub white_end-same : (line : Line) (text following : List ℕ) (n room : ℕ) (r : Rest) (p : Point) (stop : List Cell) →
    RestAt text following r p → Stops stop → indent r ≡ n → n ≤ room →
    white_end room (rest_cells line r p ++ stop) p ≡ white_end n (rest_cells line r p ++ stop) p
white_end-same line text following zero room r p stop is k e le =
    let white = bare-cells line r p stop e k in
    none-end room (rest_cells line r p ++ stop) p white ∙ sym (none-end 0 (rest_cells line r p ++ stop) p white)
white_end-same line text following (suc n) zero r p stop is k e le = absurd (omega (arith, le))
white_end-same line text following (suc n) (suc room) r p stop is k e le =
    let first = column-first line text following r p is (omega (arith, e)) in
    let cs : List Cell = rest_cells line (without_first r) first.at ++ stop in
    let cells : rest_cells line r p ++ stop ≡
    cell first.byte first.at line ∷ cs = ap (λ (l : List Cell). l ++ stop) first.cells in
    ap (λ (l : List Cell). white_end (suc room) l p) cells
    ∙ ap (λ (x : Point). cond (is_white first.byte) x p)
    (white_end-same line text following n room (without_first r) first.at stop first.valid k
    (omega (arith, e, first.columns)) (omega (arith, le)))
    ∙ sym (ap (λ (l : List Cell). white_end (suc n) l p) cells)

-- After the marker.

-- at most one column of whitespace is taken
record HasFollowing (line : Line) (text past : List ℕ) (end : Point) (stop cells : List Cell) (p : Point)
    (left : Rest) : Type 0 where
  fed : after_rest cells ≡ rest_cells line left (after_end cells p) ++ stop
  valid : RestAt text past left (after_end cells p)
  ends : past_rest left (after_end cells p) ≡ end
  events : after_events cells p ≡ pair_unless_empty n.SpaceOrTab p (after_end cells p)
  white : White text p (after_end cells p)
  shorter : length (after_rest cells) ≤ length cells

following-none : (cells : List Cell) (p : Point) → begins_white cells ≡ false →
    (after_rest cells ≡ cells) × (after_end cells p ≡ p) × (after_events cells p ≡ [])
following-none [] p e = (refl, refl, refl)
following-none (c ∷ cs) p e = (rw e refl, rw e refl, rw e refl)

following-one : (line : Line) (text past : List ℕ) (r : Rest) (stop : List Cell) (p : Point) → RestAt text past r p →
    Stops stop → HasFollowing line text past (past_rest r p) stop (rest_cells line r p ++ stop) p (lose 1 r)
following-one line text past r stop p is k = go (indent r) refl
  where
    cells : List Cell
    cells = rest_cells line r p ++ stop

    go : (n : ℕ) → indent r ≡ n → HasFollowing line text past (past_rest r p) stop cells p (lose 1 r)
    go zero e =
        let none = following-none cells p (bare-cells line r p stop e k) in
        let end : p ≡ after_end cells p = sym none.1 in
        subst (HasFollowing line text past (past_rest r p) stop cells p) (sym (bare-same r e)) (record {
          fed = none.0 ∙ ap (λ (q : Point). rest_cells line r q ++ stop) end;
          valid = subst (RestAt text past r) end is;
          ends = ap (past_rest r) none.1;
          events = none.2
              ∙ sym (ap (λ (t : Bool). cond t [] (pair n.SpaceOrTab p p)) (same-refl p))
              ∙ ap (pair_unless_empty n.SpaceOrTab p) end;
          white = subst (White text p) end (white-none text p);
          shorter = let same = ap length none.0 in omega arith;
        })
    go (suc m) e =
        let first = column-first line text past r p is (omega (arith, e)) in
        let left = rest_cells line (without_first r) first.at ++ stop in
        let same : cells ≡ cell first.byte first.at line ∷ left = ap (λ (l : List Cell). l ++ stop) first.cells in
        let end : first.at ≡
        after_end cells p = sym
        (ap (λ (l : List Cell). after_end l p) same ∙ ap (λ (t : Bool). cond t first.at p) first.white) in
        let further : after_rest cells ≡ left = ap after_rest same
        ∙ ap (λ (t : Bool). cond t left (cell first.byte first.at line ∷ left)) first.white in
        let step = column-step line text past r p is (omega (arith, e)) first in
        record {
          fed = further ∙ ap (λ (q : Point). rest_cells line (without_first r) q ++ stop) end;
          valid = subst (RestAt text past (without_first r)) end first.valid;
          ends = ap (past_rest (without_first r)) (sym end) ∙ column-end line text past r p is first;
          events = ap (λ (l : List Cell). after_events l p) same
              ∙ ap (λ (t : Bool). cond t (pair n.SpaceOrTab p first.at) []) first.white
              ∙ sym (ap (λ (t : Bool). cond t [] (pair n.SpaceOrTab p first.at)) step.apart)
              ∙ ap (pair_unless_empty n.SpaceOrTab p) end;
          white = subst (White text p) end step.white;
          shorter = let a = ap length further in let b = ap length same in omega arith;
        }

-- At the marker.

record HasMarker (line : Line) (text past : List ℕ) (end : Point) (stop cells : List Cell) (p : Point)
    (left : Rest) : Type 0 where
  takes : has_marker cells ≡ true
  fed : marker_rest cells ≡ rest_cells line left (marker_end cells p) ++ stop
  valid : RestAt text past left (marker_end cells p)
  ends : past_rest left (marker_end cells p) ≡ end
  following : Point
  events : marker_events cells p ≡
      enter n.BlockQuotePrefix p ∷ enter n.BlockQuoteMarker p ∷ exit n.BlockQuoteMarker following
      ∷ pair_unless_empty n.SpaceOrTab following (marker_end cells p)
  next : following.index ≡ suc p.index
  same_line : following.line ≡ p.line
  byte : slice_get text p.index ≡ Some 62
  whole : p.vs ≡ 0
  following_whole : following.vs ≡ 0
  white : White text following (marker_end cells p)
  shorter : length (marker_rest cells) < length cells

-- a marker is here, and so much is left after it, or there is none
abbrev MarkerIs : Line → (text past : List ℕ) → Point → (stop cells : List Cell) → Point → Option Taken → Type 0
MarkerIs line text past end stop cells p (Some taken) = HasMarker line text past end stop cells p taken.rest
MarkerIs line text past end stop cells p None = has_marker cells ≡ false

pub get-next : (index : ℕ) (bytes : List ℕ) (b : ℕ) (rest : List ℕ) → drop index bytes ≡ b ∷ rest →
    slice_get bytes index ≡ Some b
get-next zero [] b rest e = cc
get-next zero (c ∷ bytes) b rest e = cc
get-next (suc index) [] b rest e = cc
get-next (suc index) (c ∷ bytes) b rest e = get-next index bytes b rest e

stop-marker : (stop : List Cell) → Stops stop → has_marker stop ≡ false
stop-marker [] k = refl
stop-marker (c ∷ cs) k = ap (λ (b : ℕ). b == 62) (eqb-true c.byte 10 k)

-- where no indent is left
abbrev taken_at : Option AlertKind → Rest → Option Taken
taken_at kind r =
    cond (begins_with 62 r.bytes) (Some (record { container = InQuote kind; rest = lose 1 (following 1 r) })) None

marker-is : (kind : Option AlertKind) (line : Line) (text past : List ℕ) (r : Rest) (stop : List Cell) (p : Point) →
    RestAt text past r p → indent r ≡ 0 → Stops stop →
    MarkerIs line text past (past_rest r p) stop (rest_cells line r p ++ stop) p (taken_at kind r)
marker-is kind line text past r stop p is e k = go r.spaces r.bytes is (bare r e)
  where
    Done : ℕ → List ℕ → Type 0
    Done spaces bytes =
        MarkerIs line text past (past_text bytes (past_cut spaces p)) stop (cells_by line spaces bytes p ++ stop) p
        (taken_at kind (rest r.column spaces bytes))

    go : (spaces : ℕ) (bytes : List ℕ) → RestAt text past (rest r.column spaces bytes) p → Bare spaces bytes →
        Done spaces bytes
    go (suc n) bytes at b = absurd b
    go zero [] at b = stop-marker stop k
    go zero (b ∷ bs) at w = by (b == 62) refl
      where
        Marks : ℕ → Type 0
        Marks c = RestAt text past (rest r.column 0 (c ∷ bs)) p → Done 0 (c ∷ bs)

        marks : Marks 62
        marks here =
            let q = past_byte 62 p in
            let from : Rest = following 1 (rest r.column 0 (62 ∷ bs)) in
            let next : RestAt text past from q = record {
              column = omega (arith, here.column);
              cut = refl;
              text_is = past-next p.index text 62 (bs ++ past) here.text_is;
            } in
            let further = following-one line text past from stop q next k in
            record {
              takes = refl;
              fed = further.fed;
              valid = further.valid;
              ends = further.ends;
              following = q;
              events =
                  ap
                  (λ (es : List Event).
                  enter n.BlockQuotePrefix p ∷ enter n.BlockQuoteMarker p ∷ exit n.BlockQuoteMarker q ∷ es)
                  further.events;
              next = omega arith;
              same_line = refl;
              byte = get-next p.index text 62 (bs ++ past) here.text_is;
              whole = here.cut;
              following_whole = refl;
              white = further.white;
              shorter = let le = further.shorter in omega arith;
            }

        by : (t : Bool) → (b == 62) ≡ t → Done 0 (b ∷ bs)
        by true f = subst Marks (sym (eqb-true b 62 f)) marks at
        by false f =
            rw f
            (ap (λ (l : List Cell). has_marker (l ++ spread line bs (past_byte b p) ++ stop)) (byte-one line b p w) ∙ f)

-- whitespace is no marker
marker-white : (cells : List Cell) → begins_white cells ≡ true → has_marker cells ≡ false
marker-white [] e = cc
marker-white (c ∷ cs) e = go c.byte e
  where
    go : (b : ℕ) → is_white b ≡ true → (b == 62) ≡ false
    go b e = grind (arith, nat_tests)

-- The whole prefix.

-- so much is left of a line after it, and this is there
pub record HasPrefix (options : ParseOptions) (line : Line) (text past : List ℕ) (end : Point) (stop cells : List Cell)
    (p : Point) (left : Rest) : Type 0 where
  pub takes : takes_prefix options cells ≡ true
  pub fed : prefix_rest options cells ≡ rest_cells line left (prefix_end options cells p) ++ stop
  pub valid : RestAt text past left (prefix_end options cells p)
  pub ends : past_rest left (prefix_end options cells p) ≡ end
  pub prefix : IsPrefix text p (prefix_end options cells p) (prefix_events options cells p)
  pub shorter : length (prefix_rest options cells) < length cells

-- a prefix is here, and so much is left after it, or there is none
abbrev pub PrefixIs : ParseOptions → Line → (text past : List ℕ) → Point → (stop cells : List Cell) → Point →
    Option Taken → Type 0
PrefixIs options line text past end stop cells p (Some taken) =
    HasPrefix options line text past end stop cells p taken.rest
PrefixIs options line text past end stop cells p None = takes_prefix options cells ≡ false

-- the definition takes what follows the indent, if that is small
taken-small : (options : ParseOptions) (kind : Option AlertKind) (r : Rest) → has_small_indent options r ≡ true →
    quote_taken options kind r ≡ taken_at kind (after_indent r)
unfolding quote_taken
taken-small options kind r e = rw e refl

taken-large : (options : ParseOptions) (kind : Option AlertKind) (r : Rest) → has_small_indent options r ≡ false →
    quote_taken options kind r ≡ None
unfolding quote_taken
taken-large options kind r e = rw e refl

-- a prefix is on the cells of a line where it does on its bytes
pub prefix-agrees : (options : ParseOptions) (kind : Option AlertKind) (line : Line) (text past : List ℕ) (r : Rest)
    (stop : List Cell) (p : Point) →
    RestAt text past r p → Stops stop → length (rest_cells line r p ++ stop) < 2 ^ 63 →
    PrefixIs options line text past (past_rest r p) stop (rest_cells line r p ++ stop) p (quote_taken options kind r)
prefix-agrees options kind line text past r stop p is k short = go (has_small_indent options r) refl
  where
    room : ℕ
    room = small_indent options

    cells : List Cell
    cells = rest_cells line r p ++ stop

    left : List Cell
    left = white_rest room cells

    q : Point
    q = white_end room cells p

    whole : (taken : Option Taken) → HasWhite text cells p q →
        MarkerIs line text past (past_rest r p) stop left q taken →
        PrefixIs options line text past (past_rest r p) stop cells p taken
    whole None white m = m
    whole (Some taken) white m = record {
      takes = m.takes;
      fed = m.fed;
      valid = m.valid;
      ends = m.ends;
      prefix = record {
        marker = q;
        following = m.following;
        events =
            ap (λ (es : List Event). es ++ exit n.BlockQuotePrefix (marker_end left q) ∷ [])
            (ap (λ (es : List Event). es ++ marker_events left q) white.events
            ∙ ap (λ (es : List Event). pair_unless_empty n.SpaceOrTab p q ++ es) m.events);
        indent = white.white.onward;
        past = m.next;
        column = m.white.onward;
        byte = m.byte;
        marker_whole = m.whole;
        following_whole = m.following_whole;
        white_before = white.white.blank;
        white_after = m.white.blank;
        line = m.white.line ∙ m.same_line ∙ white.white.line;
      };
      shorter = let le = white-length room cells in let lt = m.shorter in omega arith;
    }

    Done : Option Taken → Type 0
    Done taken = PrefixIs options line text past (past_rest r p) stop cells p taken

    go : (t : Bool) → has_small_indent options r ≡ t → Done (quote_taken options kind r)
    go true e =
        let size : length cells ≡
        length (rest_cells line r p) + length stop = length-append (rest_cells line r p) stop in
        let fits = small-room options r (length cells) e
        (let most = indent-length line text past r p is in omega arith) short in
        let taken = indent-taken line text past room r p stop is k fits in
        let white = white-walk line text past (indent r) room r p stop is k refl fits in
        let marker : MarkerIs line text past (past_rest r p) stop left q (taken_at kind (after_indent r)) =
        subst (λ (l : List Cell). MarkerIs line text past (past_rest r p) stop l q (taken_at kind (after_indent r)))
        (sym taken.cells)
        (subst
        (λ (end : Point).
        MarkerIs line text past end stop (rest_cells line (after_indent r) q ++ stop) q
        (taken_at kind (after_indent r))) taken.ends
        (marker-is kind line text past (after_indent r) stop q taken.valid taken.none k)) in
        subst Done (sym (taken-small options kind r e)) (whole (taken_at kind (after_indent r)) white marker)
    go false e =
        subst Done (sym (taken-large options kind r e))
        (marker-white left (indent-over line text past room r p stop is (large-room options r e)))

-- What is left.

pub taken-left : (P : Taken → Type 0) (options : ParseOptions) (kind : Option AlertKind) (r : Rest) (taken : Taken) →
    P (record { container = InQuote kind; rest = lose 1 (following 1 (after_indent r)) }) →
    quote_taken options kind r ≡ Some taken → P taken
taken-left P options kind r taken h e = subst Of e (small (has_small_indent options r) refl)
  where
    Of : Option Taken → Type 0
    Of None = Unit {0}
    Of (Some t) = P t

    marked : (t : Bool) →
        Of (cond t (Some (record { container = InQuote kind; rest = lose 1 (following 1 (after_indent r)) })) None)
    marked true = h
    marked false = tt

    small : (t : Bool) → has_small_indent options r ≡ t → Of (quote_taken options kind r)
    small true f = subst Of (sym (taken-small options kind r f)) (marked (begins_with 62 (after_indent r).bytes))
    small false f = subst Of (sym (taken-large options kind r f)) tt

pub quote-container : (options : ParseOptions) (kind : Option AlertKind) (r : Rest) (taken : Taken) →
    quote_taken options kind r ≡ Some taken → taken.container ≡ InQuote kind
quote-container options kind r taken e = taken-left (λ t. t.container ≡ InQuote kind) options kind r taken refl e

-- a line without an ending is left without one
pub quote-no_ending : (options : ParseOptions) (kind : Option AlertKind) (r : Rest) (taken : Taken) → NoEnding r.bytes →
    quote_taken options kind r ≡ Some taken → NoEnding taken.rest.bytes
quote-no_ending options kind r taken h e =
    let marker = after_indent r in
    taken-left (λ t. NoEnding t.rest.bytes) options kind r taken
    (lose-no_ending 1 (following 1 marker) (following-no_ending 1 marker (lose-no_ending (indent r) r h))) e
