-- Whitespace, and a gap with at most one line ending in it, by the rows that they are in.
use Rattle.std.proofs.Common.{◌≡◌, ℕ, zero, suc, ◌+◌, ◌-◌, Bool, true, false, cond, List, [], ◌∷◌, ◌++◌, length, take}
use Rattle.std.proofs.Common.{drop, refl, sym, ap, ap₂, ◌∙◌, subst, arith, append_assoc, append-nil}
use Rattle.std.specs.Prelude.{◌==◌, ◌&&◌}
use Rattle.std.specs.List.{onto_first}
use Rattle.std.proofs.lemmas.Bool.{eq-eqb}
use Rattle.std.proofs.lemmas.Bool.Decides.{nat_tests}
use Rattle.std.proofs.lemmas.List.{drop_at, take_at}
use Rattle.md_engine.specs.declared.event.Event.{Event}
use Rattle.md_engine.specs.declared.event.Name.TheVariants as n
use Rattle.md_engine.specs.declared.event.Point.{Point}
use Rattle.md_engine.specs.Meaning.{Cell}
use Rattle.md_meaning.specs.Bytes.{is_end}
use Rattle.md_meaning.specs.Definition.{after_gap}
use Rattle.md_meaning.specs.Rest.{Rest, is_white}
use Rattle.md_meaning.specs.Texts.{first_byte}
use Rattle.md_link_definitions.specs.GapRule.{ending_end, ending_part, ending_rest, gap_end, gap_part, gap_rest}
use Rattle.md_link_definitions.specs.GapRule.{white_part}
use Rattle.md_link_definitions.specs.CellLines.{cell_lines}
use Rattle.md_link_definitions.specs.WholeCells.{whole_cells}
use Rattle.md_link_definitions.proofs.CellLineLemmas.{lines-byte, lines-some}
use Rattle.md_link_definitions.proofs.GapLines.{gap-lines, whole-first}
use Rattle.md_events.specs.Ahead.{begins_white, point_after, white_end, white_rest}
use Rattle.md_events.specs.Events.Inline.{pair_unless_empty}
use Rattle.md_events.specs.Events.Nested.{around, enter, exit, pair}
use Rattle.md_events.specs.Events.Places.{columns_from, past_text, same_place}
use Rattle.md_events.specs.Spaces.{any_size}
use Rattle.md_events.proofs.AheadLemmas.{white-no_ending}
use Rattle.md_events.proofs.FeedLines.{NoFeed, Stops, spread}
use Rattle.md_events.proofs.RestCells.{Cut, rest_cells}
use Rattle.md_events.proofs.WalkedLemmas.{one-point}
use Rattle.md_events.specs.Exact.Leaves.{first_end, onto_next, start}
use Rattle.md_events.specs.Exact.Places.{TextLine, line_end, next_line, part, past, place, white, whole}
use Rattle.md_events.specs.Exact.Rows.{Row}
use Rattle.md_events.specs.Exact.Texts.{following_gap, gap, lines_left}
use Rattle.proof_exact_pieces.proofs.OnLine.{LineIn, OnLine, past-on, place-on, whole-on}
use Rattle.proof_exact_pieces.proofs.PlaceLemmas.{before-is, cut_len, line_start}
use Rattle.proof_content_laws.proofs.Defined.Along.{Turn, no_line}
use Rattle.proof_content_laws.proofs.Defined.Gaps.{WhiteOf, white-of}
use Rattle.proof_content_laws.proofs.Defined.Takes as Line
use Rattle.proof_content_laws.proofs.Defined.Takes.{Takes, Walk, on-line, over-end, takes-none, takes-quiet, takes-then}
use Rattle.proof_content_laws.proofs.Defined.Takes.{walk-whole}
use Rattle.proof_exact_lines.proofs.Ahead.{Ahead, ahead-here, ahead-next, at, left-is}
use Rattle.proof_exact_lines.proofs.Along.{Along, Begins, begins-place, row-place, row-plain, rows-lines, rows-whole}
use Rattle.proof_exact_lines.proofs.Rests.{byte-some, first-none}
use Rattle.proof_exact_lines.proofs.Strands.{LineOn, NextOn, line-on, next-on}

-- The end of a line.

-- where nothing is left of a line its end is
pub end-place : (text following : List ℕ) (line : TextLine) (r : Rest) (q : Point) → LineIn text following line →
    OnLine text following line r q → r.bytes ≡ [] → r.spaces ≡ 0 → place line (line_end line) ≡ q
end-place text following line r q is on none uncut =
    ap (place line) (sym same) ∙ place-on text following line (past size (whole line)) e is at_end
    ∙ one-point text e q at_end.placed on.placed index vs
  where
    size : ℕ
    size = length line.bytes

    e : Point
    e = past_text (take size line.bytes) (line_start line)

    at_end : OnLine text following line (past size (whole line)) e
    at_end = past-on text following line size (whole line) (line_start line)
        (whole-on text following line is) refl is.plain

    taken : take size line.bytes ≡ line.bytes
    taken = ap (take size) (sym (append-nil line.bytes)) ∙ take_at line.bytes [] size refl

    left : drop size line.bytes ≡ []
    left = ap (drop size) (sym (append-nil line.bytes)) ∙ drop_at line.bytes [] size refl

    rest : ℕ → List ℕ → Rest
    rest column bytes = record { column = column; spaces = 0; bytes = bytes }

    same : past size (whole line) ≡ line_end line
    same =
        ap (λ (c : ℕ). rest (columns_from c (take size line.bytes)) (drop size line.bytes)) (plus line.column)
        ∙ ap (λ (l : List ℕ). rest (columns_from line.column l) (drop size line.bytes)) taken
        ∙ ap (rest (columns_from line.column line.bytes)) left
      where
        plus : (c : ℕ) → c + 0 ≡ c
        plus c = omega arith

    by : (i j a b c d : ℕ) → i ≡ line.index + (size - a - c) → j ≡ line.index + (size - b - d) → a ≡ 0 → b ≡ 0 →
        c ≡ 0 → d ≡ 0 → i ≡ j
    by i j a b c d e f g h k l = omega arith

    index : e.index ≡ q.index
    index =
        by e.index q.index (length (drop size line.bytes)) (length r.bytes) 0 (cut_len r.spaces)
        (before-is text following line (past size (whole line)) e is.valid at_end.valid at_end.onward
        at_end.placed.index)
        (before-is text following line r q is.valid on.valid on.onward on.placed.index)
        (ap (λ (l : List ℕ). length l) left) (ap (λ (l : List ℕ). length l) none) refl (ap cut_len uncut)

    vs : e.vs ≡ q.vs
    vs = at_end.valid.cut ∙ sym (subst (λ (k : ℕ). Cut k q) uncut on.valid.cut)

-- nothing is left where no cell or that of an ending comes next, and the end of the line is there
ending-bytes : (text : List ℕ) (row : Row) (r : Rest) (q : Point) (l stop : List Cell) → Begins text (at row r) q →
    r.spaces ≡ 0 → Stops l → l ≡ rest_cells no_line r q ++ stop → r.bytes ≡ []
ending-bytes text row r q l stop is uncut stops e = bytes r.bytes cells
  where
    none : (l xs : List Cell) → Stops l → NoFeed xs → l ≡ xs ++ stop → xs ≡ []
    none l [] stops plain e = refl
    none [] (x ∷ xs) stops plain e = cc
    none (c ∷ cs) (x ∷ xs) stops plain e =
        let same : x ≡ c = cc in
        let no : true ≡ false = sym stops ∙ ap (λ (d : Cell). d.byte == 10) (sym same) ∙ plain.0 in cc

    cells : spread no_line r.bytes q ≡ []
    cells =
        subst (λ (k : ℕ). rest_cells no_line (record r { spaces = k }) q ≡ []) uncut
        (none l (rest_cells no_line r q) stops (row-plain text (at row r) q is) e)

    bytes : (l : List ℕ) → spread no_line l q ≡ [] → l ≡ []
    bytes [] e = refl
    bytes (b ∷ bs) e = absurd (byte-some no_line b q (first-none _ _ e))

-- so whitespace up to there is whitespace up to the end of the line
record EndOn (row : Row) (r : Rest) (q : Point) : Type 0 where
  place_is : place row.line (line_end row.line) ≡ q
  white_is : white row.line row.rest (line_end row.line) ≡ white row.line row.rest r

end-on : (text : List ℕ) (row : Row) (r : Rest) (q : Point) (l stop : List Cell) → Begins text (at row r) q →
    r.spaces ≡ 0 → Stops l → l ≡ rest_cells no_line r q ++ stop → EndOn row r q
end-on text row r q l stop is uncut stops e = record {
  place_is = ends;
  white_is =
      ap₂
      (λ (size spaces : ℕ).
      cond ((length row.rest.bytes == size) && (row.rest.spaces == spaces)) []
      (part row.line n.SpaceOrTab row.rest (line_end row.line) []))
      (sym (ap (λ (l : List ℕ). length l) none)) (sym uncut)
      ∙ ap
      (λ (x : Point).
      cond ((length row.rest.bytes == length r.bytes) && (row.rest.spaces == r.spaces)) []
      (around n.SpaceOrTab (place row.line row.rest) x []))
      (ends ∙ sym (begins-place text (at row r) q is));
}
  where
    none : r.bytes ≡ []
    none = ending-bytes text row r q l stop is uncut stops e

    ends : place row.line (line_end row.line) ≡ q
    ends = end-place text is.following row.line r q is.line_in is.on none uncut

-- Whitespace.

record WhiteSplit (room : ℕ) (p : Point) (cells : List Cell) : Type 0 where
  front : List Cell
  split : cells ≡ front ++ white_rest room cells
  none : NoFeed front
  end : point_after front p ≡ white_end room cells p

white-split : (room : ℕ) (p : Point) (cells : List Cell) → WhiteSplit room p cells
white-split room p [] = record { front = []; split = refl; none = tt; end = refl }
white-split zero p (c ∷ cs) = record { front = []; split = refl; none = tt; end = refl }
white-split (suc room) p (c ∷ cs) = go (is_white c.byte) refl (white-split room c.after cs)
  where
    go : (x : Bool) → is_white c.byte ≡ x → WhiteSplit room c.after cs → WhiteSplit (suc room) p (c ∷ cs)
    go true e more = record {
      front = c ∷ more.front;
      split = rw e (ap (λ (l : List Cell). c ∷ l) more.split);
      none = (white-no_ending c.byte e, more.none);
      end = rw e more.end;
    }
    go false e more = record { front = []; split = rw e refl; none = tt; end = rw e refl }

pub record WhiteOn (text : List ℕ) (row : Row) (rows : List Row) (p : Point) (cells : List Cell) (turns : List Turn) :
    Type 0 where
  pub size : ℕ
  pub along : Along text (at row (past size row.rest) ∷ rows) (white_end any_size cells p) (white_rest any_size cells)
      turns
  pub ahead : Ahead (row ∷ rows) (at row (past size row.rest) ∷ rows)
  pub events : white row.line row.rest (past size row.rest) ≡
      pair_unless_empty n.SpaceOrTab p (white_end any_size cells p)

pub white-on : (text : List ℕ) (last : Point) (row : Row) (rows : List Row) (p : Point) (cells : List Cell)
    (turns : List Turn) → Walk text last p cells turns → Along text (row ∷ rows) p cells turns →
    WhiteOn text row rows p cells turns
white-on text last row rows p cells turns walk along = record {
  size = on.size;
  along =
      subst (λ (x : Point). Along text (at row (past on.size row.rest) ∷ rows) x rest turns) split.end on.along;
  ahead = ahead-here row rows on.size on.fits;
  events =
      ap (λ (t : Bool). cond t [] (part row.line n.SpaceOrTab row.rest (past on.size row.rest) [])) on.same
      ∙ ap₂ (λ (a b : Point). cond (same_place p e) [] (around n.SpaceOrTab a b []))
      (row-place text row rows p cells turns along) on.place
      ∙ ap (pair_unless_empty n.SpaceOrTab p) split.end;
}
  where
    rest : List Cell
    rest = white_rest any_size cells

    split : WhiteSplit any_size p cells
    split = white-split any_size p cells

    e : Point
    e = point_after split.front p

    known : WhiteOf text last p cells turns
    known = white-of text last p cells turns walk

    on : LineOn text row rows p e split.front rest turns
    on =
        line-on text row rows p split.front rest turns
        (subst (λ (l : List Cell). Along text (row ∷ rows) p l turns) split.split along) walk.valid
        (on-line text last p split.front rest turns split.none
        (subst (λ (l : List Cell). Walk text last p l turns) split.split walk)).steps
        (ap (λ (x : Point). x.vs) split.end
        ∙ walk-whole text last (white_end any_size cells p) rest turns known.takes.walk known.dark)

-- on the line
pub gap-here : (row : Row) (rows : List Row) (r : Rest) →
    gap (row ∷ rows) (at row r ∷ rows) ≡ white row.line row.rest r
gap-here row rows r =
    ap
    (λ (t : Bool).
    cond t (white row.line row.rest r)
    (white row.line row.rest (line_end row.line) ++ onto_next (row ∷ rows) ++ gap rows (at row r ∷ rows)))
    (eq-eqb (length rows) (length rows) refl)

-- up to the end of a line
pub record TailOn (row : Row) (rows : List Row) (p q : Point) : Type 0 where
  pub events : gap (row ∷ rows) (first_end (row ∷ rows)) ≡ pair_unless_empty n.SpaceOrTab p q
  pub end : start (first_end (row ∷ rows)) ≡ q

pub tail-on : (text : List ℕ) (last : Point) (row : Row) (rows : List Row) (p : Point) (cells : List Cell)
    (turns : List Turn) → Walk text last p cells turns → Along text (row ∷ rows) p cells turns →
    Stops (white_rest any_size cells) → TailOn row rows p (white_end any_size cells p)
tail-on text last row rows p cells turns walk along stops = go rows on.along
  where
    q : Point
    q = white_end any_size cells p

    rest : List Cell
    rest = white_rest any_size cells

    on : WhiteOn text row rows p cells turns
    on = white-on text last row rows p cells turns walk along

    r : Rest
    r = past on.size row.rest

    tail : EndOn row r q → TailOn row rows p q
    tail end = record {
      events = gap-here row rows (line_end row.line) ∙ end.white_is ∙ on.events;
      end = end.place_is;
    }

    go : (more : List Row) → Along text (at row r ∷ more) q rest turns → TailOn row rows p q
    go [] a = tail (end-on text row r q rest a.stop a.begins refl stops a.cells_are)
    go (next ∷ more) a = tail (end-on text row r q rest a.stop a.begins refl stops a.cells_are)

-- Gaps.

gap-over : (row next : Row) (rows : List Row) (r : Rest) (q b : Point) → is_end row.line.ending ≡ false →
    place row.line (line_end row.line) ≡ q → next_line row.line ≡ b →
    gap (row ∷ next ∷ rows) (at next r ∷ rows) ≡
    white row.line row.rest (line_end row.line) ++ (pair n.LineEnding q b ++ next.front) ++ white next.line next.rest r
gap-over row next rows r q b ends e k =
    ap
    (λ (t : Bool).
    cond t (white row.line row.rest r)
    (white row.line row.rest (line_end row.line) ++ onto_next (row ∷ next ∷ rows)
    ++ gap (next ∷ rows) (at next r ∷ rows))) other
    ∙ ap
    (λ (t : Bool).
    white row.line row.rest (line_end row.line)
    ++ (cond t [] (pair n.LineEnding (place row.line (line_end row.line)) (next_line row.line)) ++ next.front)
    ++ gap (next ∷ rows) (at next r ∷ rows)) ends
    ∙ ap₂
    (λ (x y : Point).
    white row.line row.rest (line_end row.line) ++ (pair n.LineEnding x y ++ next.front)
    ++ gap (next ∷ rows) (at next r ∷ rows)) e k
    ∙ ap
    (λ (l : List Event).
    white row.line row.rest (line_end row.line) ++ (pair n.LineEnding q b ++ next.front) ++ l) (gap-here next rows r)
  where
    other : (length (next ∷ rows) == length rows) ≡ false
    other = grind (arith, nat_tests)

pub record GapTo (text : List ℕ) (last p : Point) (turns : List Turn) (rows : List Row) (e : Point) (cells : List Cell)
    (es : List Event) : Type 0 where
  pub ends : List Row
  pub left : List Turn
  pub takes : Takes text last p turns e cells left es (gap rows ends)
  pub along : Along text ends e cells left
  pub ahead : Ahead rows ends

abbrev pub GapOn : (text : List ℕ) (last p : Point) (cells : List Cell) (turns : List Turn) (rows : List Row) → Type 0
GapOn text last p cells turns rows =
    GapTo text last p turns rows (gap_end cells p) (gap_rest cells) (gap_part cells p)

gap-as : (text : List ℕ) (last p : Point) (turns : List Turn) (rows : List Row) (e : Point) (l m : List Cell)
    (es fs : List Event) → l ≡ m → es ≡ fs → GapTo text last p turns rows e l es → GapTo text last p turns rows e m fs
gap-as text last p turns rows e l m es fs same events g =
    subst (λ (k : List Cell). GapTo text last p turns rows e k fs) same
    (subst (GapTo text last p turns rows e l) events g)

-- over the ending of a line
gap-next : (text : List ℕ) (last p q : Point) (cells : List Cell) (turns : List Turn) (row : Row) (rows : List Row)
    (size : ℕ) (c : Cell) (cs : List Cell) (first : List Event) → (c.byte == 10) ≡ true →
    Takes text last p turns q (c ∷ cs) turns first (pair_unless_empty n.SpaceOrTab p q) →
    Along text (at row (past size row.rest) ∷ rows) q (c ∷ cs) turns →
    white row.line row.rest (past size row.rest) ≡ pair_unless_empty n.SpaceOrTab p q →
    GapTo text last p turns (row ∷ rows) (white_end any_size cs c.after) (white_rest any_size cs)
    (first ++ (pair n.LineEnding q c.after ++ white_part cs c.after))
gap-next text last p q cells turns row rows size c cs first ten here along events = record {
  ends = ends;
  left = over.left;
  takes = subst (Takes text last p turns s rest over.left es) (sym all) taken;
  along = more.along;
  ahead =
      subst (λ (l : List Row). Ahead (row ∷ l) ends) (sym next.rows_are)
      (ahead-next row (next.next ∷ next.further) ends more.ahead);
}
  where
    over : Line.OverEnd text last q c cs turns n.LineEnding
    over = over-end text last q c cs turns n.LineEnding refl ten here.walk

    turn : Turn
    turn = over.turn.turn

    next : NextOn text (at row (past size row.rest)) rows c cs turn over.left
    next = next-on text (at row (past size row.rest)) rows q q [] c cs turns over.left tt ten along over.turn

    more : WhiteOn text next.next next.further c.after cs over.left
    more = white-on text last next.next next.further c.after cs over.left over.takes.walk next.along

    known : WhiteOf text last c.after cs over.left
    known = white-of text last c.after cs over.left over.takes.walk

    s : Point
    s = white_end any_size cs c.after

    rest : List Cell
    rest = white_rest any_size cs

    ends : List Row
    ends = at next.next (past more.size next.next.rest) ∷ next.further

    es : List Event
    es = first ++ (pair n.LineEnding q c.after ++ white_part cs c.after)

    b : Point
    b = turn.break.after

    w : List Event
    w = pair_unless_empty n.SpaceOrTab p q

    v : List Event
    v = pair_unless_empty n.SpaceOrTab c.after s

    begin : List Event
    begin = enter n.LineEnding q ∷ []

    taken : Takes text last p turns s rest over.left es (w ++ ((pair n.LineEnding q b ++ turn.break.front) ++ v))
    taken =
        takes-then text last p turns q (c ∷ cs) turns first w s rest over.left
        (pair n.LineEnding q c.after ++ white_part cs c.after) ((pair n.LineEnding q b ++ turn.break.front) ++ v) here
        (takes-then text last q turns c.after cs over.left (pair n.LineEnding q c.after)
        (pair n.LineEnding q b ++ turn.break.front) s rest over.left (white_part cs c.after) v
        (takes-then text last q turns q (c ∷ cs) turns begin begin c.after cs over.left
        (exit n.LineEnding c.after ∷ []) (exit n.LineEnding b ∷ turn.break.front)
        (takes-quiet text last q turns q (c ∷ cs) turns begin (refl, tt)
        (takes-none text last q (c ∷ cs) turns here.walk) refl (omega arith) (omega arith, tt)) over.takes) known.takes)

    end : EndOn row (past size row.rest) q
    end =
        let a : Along text (at row (past size row.rest) ∷ next.next ∷ next.further) q (c ∷ cs) turns =
        subst (λ (l : List Row). Along text (at row (past size row.rest) ∷ l) q (c ∷ cs) turns) next.rows_are along in
        end-on text row (past size row.rest) q (c ∷ cs) a.stop a.begins refl ten a.cells_are

    all : gap (row ∷ rows) ends ≡ w ++ ((pair n.LineEnding q b ++ turn.break.front) ++ v)
    all =
        ap (λ (l : List Row). gap (row ∷ l) ends) next.rows_are
        ∙ gap-over row next.next next.further (past more.size next.next.rest) q b next.ends end.place_is
        (sym next.after)
        ∙ ap₂
        (λ (x y : List Event). x ++ (pair n.LineEnding q b ++ next.next.front) ++ y) (end.white_is ∙ events) more.events
        ∙ ap (λ (l : List Event). w ++ (pair n.LineEnding q b ++ l) ++ v) (sym next.front)
        ∙ append_assoc w (pair n.LineEnding q b ++ turn.break.front) v

pub gap-on : (text : List ℕ) (last p : Point) (cells : List Cell) (turns : List Turn) (rows : List Row) →
    Walk text last p cells turns → Along text rows p cells turns → GapOn text last p cells turns rows
gap-on text last p cells turns [] walk along = absurd along
gap-on text last p cells turns (row ∷ rows) walk along = go (white_rest any_size cells) refl
  where
    q : Point
    q = white_end any_size cells p

    first : List Event
    first = white_part cells p

    known : WhiteOf text last p cells turns
    known = white-of text last p cells turns walk

    on : WhiteOn text row rows p cells turns
    on = white-on text last row rows p cells turns walk along

    stay : GapTo text last p turns (row ∷ rows) q (white_rest any_size cells) first
    stay = record {
      ends = at row (past on.size row.rest) ∷ rows;
      left = turns;
      takes =
          subst (Takes text last p turns q (white_rest any_size cells) turns first)
          (sym (gap-here row rows (past on.size row.rest) ∙ on.events)) known.takes;
      along = on.along;
      ahead = on.ahead;
    }

    go : (l : List Cell) → white_rest any_size cells ≡ l →
        GapTo text last p turns (row ∷ rows) (ending_end l q) (ending_rest l) (first ++ ending_part l q)
    go [] e =
        gap-as text last p turns (row ∷ rows) q (white_rest any_size cells) [] first (first ++ []) e
        (sym (append-nil first)) stay
    go (c ∷ cs) e = by (c.byte == 10) refl
      where
        by : (x : Bool) → (c.byte == 10) ≡ x →
            GapTo text last p turns (row ∷ rows) (ending_end (c ∷ cs) q) (ending_rest (c ∷ cs))
            (first ++ ending_part (c ∷ cs) q)
        by false k =
            rw k
            (gap-as text last p turns (row ∷ rows) q (white_rest any_size cells) (c ∷ cs) first (first ++ []) e
            (sym (append-nil first)) stay)
        by true k =
            rw k
            (gap-next text last p q cells turns row rows on.size c cs first k
            (subst
            (λ (l : List Cell). Takes text last p turns q l turns first (pair_unless_empty n.SpaceOrTab p q)) e
            known.takes)
            (subst (λ (l : List Cell). Along text (at row (past on.size row.rest) ∷ rows) q l turns) e on.along)
            on.events)

-- Where the exact definition finds it.

-- no line is as an empty one
abbrev norm : List (List ℕ) → List (List ℕ)
norm [] = []
norm ([] ∷ []) = []
norm ([] ∷ line ∷ lines) = [] ∷ line ∷ lines
norm ((b ∷ bs) ∷ lines) = (b ∷ bs) ∷ lines

norm-is : (x : List (List ℕ)) (b : ℕ) (bs : List ℕ) (lines : List (List ℕ)) → norm x ≡ (b ∷ bs) ∷ lines →
    x ≡ (b ∷ bs) ∷ lines
norm-is [] b bs lines e = cc
norm-is ([] ∷ []) b bs lines e = cc
norm-is ([] ∷ line ∷ more) b bs lines e = cc
norm-is ((c ∷ cs) ∷ more) b bs lines e = e

-- the lines of cells whose first is neither whitespace nor an ending
pub first-lines : (c : Cell) (cs : List Cell) (p : Point) → p.vs ≡ 0 → (c.byte == 10) ≡ false →
    (line : List ℕ) × (lines : List (List ℕ)) × (cell_lines false (whole_cells p (c ∷ cs)) ≡ (c.byte ∷ line) ∷ lines)
first-lines c cs p whole plain =
    let some = lines-some false (whole_cells c.after cs) in (
      some.0,
      some.1,
      ap (cell_lines false) (whole-first p c cs whole) ∙ lines-byte false c (whole_cells c.after cs) plain refl
          ∙ ap (onto_first c.byte) some.2,
    )

-- so with that cell the first of these rows begins
abbrev head_line : List (List ℕ) → List ℕ
head_line [] = []
head_line (line ∷ lines) = line

pub first-byte : (text : List ℕ) (row : Row) (rows : List Row) (p : Point) (c : Cell) (cs : List Cell)
    (turns : List Turn) → Along text (row ∷ rows) p (c ∷ cs) turns → p.vs ≡ 0 → (c.byte == 10) ≡ false →
    first_byte row.rest.bytes ≡ c.byte
first-byte text row rows p c cs turns along whole plain =
    ap (λ (l : List (List ℕ)). first_byte (head_line l))
    (sym (rows-lines text (row ∷ rows) p (c ∷ cs) turns along whole) ∙ (first-lines c cs p whole plain).2)

pub gap-found : (text : List ℕ) (last p : Point) (cells : List Cell) (turns : List Turn) (rows : List Row) →
    Walk text last p cells turns → Along text rows p cells turns → p.vs ≡ 0 → (c : Cell) (cs : List Cell) →
    gap_rest cells ≡ c ∷ cs → is_white c.byte ≡ false → (c.byte == 10) ≡ false →
    (g : GapOn text last p cells turns rows) → following_gap rows ≡ g.ends
gap-found text last p cells turns rows walk along whole c cs e dark plain g =
    left-is rows g.ends (after_gap (lines_left rows)) g.ahead
    (ap after_gap (sym (rows-lines text rows p cells turns along whole))
    ∙ norm-is (after_gap (cell_lines false (whole_cells p cells))) c.byte first.0 first.1
    (gap-lines norm p cells refl walk.small (rows-whole text rows p cells turns along)
    ∙ ap (λ (l : List Cell). norm (cell_lines false (whole_cells (gap_end cells p) l))) e ∙ ap norm first.2)
    ∙ sym first.2 ∙ ap (λ (l : List Cell). cell_lines false (whole_cells (gap_end cells p) l)) (sym e)
    ∙ rows-lines text g.ends (gap_end cells p) (gap_rest cells) g.left g.along ends)
  where
    ends : (gap_end cells p).vs ≡ 0
    ends =
        walk-whole text last (gap_end cells p) (gap_rest cells) g.left g.takes.walk
        (ap (λ (l : List Cell). begins_white l) e ∙ dark)

    first : (line : List ℕ) × (lines : List (List ℕ))
        × (cell_lines false (whole_cells (gap_end cells p) (c ∷ cs)) ≡ (c.byte ∷ line) ∷ lines)
    first = first-lines c cs (gap_end cells p) ends plain
