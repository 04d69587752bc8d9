-- A text over lines, by the rows that it is in: its chunks are those of these rows, up to where they are after it.
use Rattle.std.proofs.Common.{◌≡◌, ◌≢◌, ℕ, zero, suc, ◌+◌, ◌<◌, ◌≤◌, Bool, true, false, cond, ◌&&◌, List, [], ◌∷◌, ◌++◌}
use Rattle.std.proofs.Common.{length, take, refl, sym, ap, ap₂, ◌∙◌, subst, arith, append_assoc, append-nil}
use Rattle.std.specs.Prelude.{◌==◌}
use Rattle.std.proofs.lemmas.Bool.{and_from, eq-eqb}
use Rattle.std.proofs.lemmas.Bool.Decides.{nat_tests}
use Rattle.std.proofs.lemmas.List.{length-append, length-take-le}
use Rattle.md_engine.specs.declared.event.Content.TheVariants.{String}
use Rattle.md_engine.specs.declared.event.Event.{Event}
use Rattle.md_engine.specs.declared.event.Name.TheVariants as n
use Rattle.md_engine.specs.declared.event.Point.{Point}
use Rattle.md_engine.specs.Meaning.{Cell}
use Rattle.md_meaning.specs.Bytes.{is_end}
use Rattle.md_meaning.specs.Rest.{Rest, cut_tab}
use Rattle.md_meaning.proofs.TextsLemmas.{no_ending-drop}
use Rattle.md_link_definitions.specs.Chunks.{chunks, string_link}
use Rattle.md_link_definitions.proofs.LineCells.{line-no_feed, line-split, line-stops}
use Rattle.md_events.specs.Ahead.{from_ending, line_cells, point_after}
use Rattle.md_events.specs.Events.Nested.{enter_link, exit}
use Rattle.md_events.specs.Events.Places.{same_place}
use Rattle.md_events.proofs.FeedLines.{NoFeed, Stops, point_after-append}
use Rattle.md_events.proofs.RestCells.{Cut, rest_cells}
use Rattle.md_events.specs.Exact.Places.{chunk, is_same, next_line, past, place}
use Rattle.md_events.specs.Exact.Rows.{Row}
use Rattle.md_events.specs.Exact.Texts.{chunks as row_chunks}
use Rattle.proof_exact_pieces.proofs.PieceLemmas.{same-on}
use Rattle.proof_content_laws.proofs.Defined.Along.{IsTurn, Valid, Steps, Turn, no_line}
use Rattle.proof_content_laws.proofs.Defined.Takes as Line
use Rattle.proof_content_laws.proofs.Defined.Takes.{Takes, Walk, on-line, over-end, takes-end, takes-none}
use Rattle.proof_content_laws.proofs.Defined.Takes.{takes-quiet, takes-then}
use Rattle.proof_exact_lines.proofs.Ahead.{Ahead, ahead-fewer, ahead-here, ahead-next, at}
use Rattle.proof_exact_lines.proofs.Along.{Along, Begins, Over, begins-place, row-place, row-plain, same-split}
use Rattle.proof_exact_lines.proofs.Rests.{RestOn, rest-on}

-- After cells of a line.

over-at : (Next : Point → List Cell → List Turn → Type 0) (row next : Row) (r : Rest) (stop : List Cell)
    (turns : List Turn) → Over Next row next stop turns → Over Next (at row r) next stop turns
over-at Next row next r stop turns o = record {
  d = o.d;
  more = o.more;
  turn = o.turn;
  left = o.left;
  stop_is = o.stop_is;
  ten = o.ten;
  turns_are = o.turns_are;
  ends = o.ends;
  after = o.after;
  front = o.front;
  along = o.along;
}

-- a row is after them too
pub record Further (text : List ℕ) (row : Row) (p q : Point) (xs rest stop : List Cell) : Type 0 where
  pub size : ℕ
  pub fits : size ≤ length row.rest.bytes
  pub begins : Begins text (at row (past size row.rest)) q
  pub cells_are : rest ≡ rest_cells no_line (past size row.rest) q ++ stop
  pub same : is_same row.rest (past size row.rest) ≡ same_place p q
  pub some : xs ≢ [] → p.index < q.index
  pub bytes : p.vs ≡ 0 → q.index ≡ p.index + size

pub further-on : (text : List ℕ) (row : Row) (p : Point) (xs rest stop : List Cell) → Begins text row p →
    Valid text p → Steps text p xs → (point_after xs p).vs ≡ 0 → Stops stop →
    xs ++ rest ≡ rest_cells no_line row.rest p ++ stop → Further text row p (point_after xs p) xs rest stop
further-on text row p xs rest stop h valid steps whole stops e = record {
  size = on.size;
  fits = on.fits;
  begins = record {
    following = h.following;
    line_in = h.line_in;
    on = on.on;
    plain = no_ending-drop on.size row.rest.bytes h.plain;
  };
  cells_are = on.cells;
  same =
      same-on text h.following row.rest (past on.size row.rest) p (point_after xs p) h.on.valid on.on.valid h.on.placed
      on.on.placed;
  some = on.some;
  bytes = λ whole_here. uncut row.rest.spaces h.on.valid.cut whole_here on.index;
}
  where
    on : RestOn text h.following row.line row.rest p (point_after xs p) xs rest stop
    on = rest-on text h.following row.line row.rest p xs rest stop h.on valid steps whole stops e

    uncut : (spaces : ℕ) → Cut spaces p → p.vs ≡ 0 →
        (point_after xs p).index ≡ p.index + length (cut_tab spaces ++ take on.size row.rest.bytes) →
        (point_after xs p).index ≡ p.index + on.size
    uncut zero cut whole_here e =
        e ∙ ap (λ (n : ℕ). p.index + n) (length-take-le on.size row.rest.bytes on.fits)
    uncut (suc n) cut whole_here e = let some = cut.0 in absurd (omega (arith, some, whole_here))

-- where these rows are after them
pub record LineOn (text : List ℕ) (row : Row) (rows : List Row) (p q : Point) (xs rest : List Cell)
    (turns : List Turn) : Type 0 where
  pub size : ℕ
  pub fits : size ≤ length row.rest.bytes
  pub along : Along text (at row (past size row.rest) ∷ rows) q rest turns
  pub place : place row.line (past size row.rest) ≡ q
  pub same : is_same row.rest (past size row.rest) ≡ same_place p q
  pub some : xs ≢ [] → p.index < q.index
  pub bytes : p.vs ≡ 0 → q.index ≡ p.index + size

pub line-on : (text : List ℕ) (row : Row) (rows : List Row) (p : Point) (xs rest : List Cell) (turns : List Turn) →
    Along text (row ∷ rows) p (xs ++ rest) turns → Valid text p → Steps text p xs → (point_after xs p).vs ≡ 0 →
    LineOn text row rows p (point_after xs p) xs rest turns
line-on text row [] p xs rest turns h valid steps whole =
    let f = further-on text row p xs rest h.stop h.begins valid steps whole (subst Stops (sym h.following.0) tt)
    h.cells_are in
    record {
      size = f.size;
      fits = f.fits;
      along = record { begins = f.begins; stop = h.stop; cells_are = f.cells_are; following = h.following };
      place = begins-place text (at row (past f.size row.rest)) (point_after xs p) f.begins;
      same = f.same;
      some = f.some;
      bytes = f.bytes;
    }
line-on text row (next ∷ rows) p xs rest turns h valid steps whole =
    let o = h.following in
    let f = further-on text row p xs rest h.stop h.begins valid steps whole (subst Stops (sym o.stop_is) o.ten)
    h.cells_are in
    record {
      size = f.size;
      fits = f.fits;
      along = record {
        begins = f.begins;
        stop = h.stop;
        cells_are = f.cells_are;
        following = over-at (Along text (next ∷ rows)) row next (past f.size row.rest) h.stop turns o;
      };
      place = begins-place text (at row (past f.size row.rest)) (point_after xs p) f.begins;
      same = f.same;
      some = f.some;
      bytes = f.bytes;
    }

-- After the ending of a line.

pub record NextOn (text : List ℕ) (row : Row) (rows : List Row) (d : Cell) (more : List Cell) (turn : Turn)
    (left : List Turn) : Type 0 where
  pub next : Row
  pub further : List Row
  pub rows_are : rows ≡ next ∷ further
  pub along : Along text (next ∷ further) d.after more left
  pub ends : is_end row.line.ending ≡ false
  pub after : turn.break.after ≡ next_line row.line
  pub front : turn.break.front ≡ next.front

pub next-on : (text : List ℕ) (row : Row) (rows : List Row) (p e : Point) (line : List Cell) (d : Cell)
    (more : List Cell) (turns left : List Turn) →
    NoFeed line → (d.byte == 10) ≡ true → Along text (row ∷ rows) p (line ++ d ∷ more) turns →
    (turn : IsTurn text e d more turns left) → NextOn text row rows d more turn.turn left
next-on text row [] p e line d more turns left none ten h turn =
    let parts = same-split line (rest_cells no_line row.rest p) (d ∷ more) h.stop none
    (row-plain text row p h.begins) ten
    (subst Stops (sym h.following.0) tt) h.cells_are in
    absurd (no (parts.1 ∙ h.following.0))
  where
    no : d ∷ more ≡ [] → ⊥
    no e = cc
next-on text row (next ∷ rows) p e line d more turns left none ten h turn =
    let o = h.following in
    let parts = same-split line (rest_cells no_line row.rest p) (d ∷ more) h.stop none
    (row-plain text row p h.begins) ten
    (subst Stops (sym o.stop_is) o.ten) h.cells_are in
    by h.stop o (parts.1 ∙ o.stop_is) (sym turn.turns_are ∙ o.turns_are)
  where
    by : (stop : List Cell) (o : Over (Along text (next ∷ rows)) row next stop turns) → d ∷ more ≡ o.d ∷ o.more →
        turn.turn ∷ left ≡ o.turn ∷ o.left → NextOn text row (next ∷ rows) d more turn.turn left
    by stop o cells same_turns =
        let one : o.d ≡ d = cc in
        let rest : o.more ≡ more = cc in
        let same : o.turn ≡ turn.turn = cc in
        let tail : o.left ≡ left = cc in
        record {
          next = next;
          further = rows;
          rows_are = refl;
          along =
              subst (λ (l : List Turn). Along text (next ∷ rows) d.after more l) tail
              (subst (λ (l : List Cell). Along text (next ∷ rows) d.after l o.left) rest
              (subst (λ (c : Cell). Along text (next ∷ rows) c.after o.more o.left) one o.along));
          ends = o.ends;
          after = ap (λ (t : Turn). t.break.after) (sym same) ∙ o.after;
          front = ap (λ (t : Turn). t.break.front) (sym same) ∙ o.front;
        }

-- Chunks.

-- in a line, up to where all ends, and up to its ending
chunks-stop : (cells : List Cell) (p : Point) → NoFeed cells →
    chunks true cells p ≡ exit n.Data (point_after cells p) ∷ []
chunks-stop [] p none = refl
chunks-stop (c ∷ cs) p none = rw none.0 (chunks-stop cs c.after none.1)

chunks-ending : (cells : List Cell) (d : Cell) (ds : List Cell) (p : Point) → NoFeed cells → (d.byte == 10) ≡ true →
    chunks true (cells ++ d ∷ ds) p ≡ exit n.Data d.after ∷ chunks false ds d.after
chunks-ending [] d ds p none ten = rw ten refl
chunks-ending (c ∷ cs) d ds p none ten = rw none.0 (chunks-ending cs d ds c.after none.1 ten)

-- from its begin
pub chunks-one : (c : Cell) (cs : List Cell) (p : Point) → NoFeed (c ∷ cs) →
    chunks false (c ∷ cs) p ≡ chunk String p (point_after (c ∷ cs) p)
chunks-one c cs p none =
    rw none.0 (ap (λ (l : List Event). enter_link n.Data p string_link ∷ l) (chunks-stop cs c.after none.1))

chunks-over : (cells : List Cell) (d : Cell) (ds : List Cell) (p : Point) → NoFeed cells → (d.byte == 10) ≡ true →
    chunks false (cells ++ d ∷ ds) p ≡
    enter_link n.Data p string_link ∷ exit n.Data d.after ∷ chunks false ds d.after
chunks-over [] d ds p none ten = rw ten refl
chunks-over (c ∷ cs) d ds p none ten =
    rw none.0
    (ap (λ (l : List Event). enter_link n.Data p string_link ∷ l) (chunks-ending cs d ds c.after none.1 ten))

-- of rows
rows-here : (row : Row) (rows : List Row) (r : Rest) (p q : Point) → place row.line row.rest ≡ p →
    place row.line r ≡ q →
    row_chunks String (row ∷ rows) (at row r ∷ rows) ≡ cond (is_same row.rest r) [] (chunk String p q)
rows-here row rows r p q e k =
    ap (λ (t : Bool). cond t here there) (eq-eqb (length rows) (length rows) refl)
    ∙ ap₂ (λ (a b : Point). cond (is_same row.rest r) [] (chunk String a b)) e k
  where
    here : List Event
    here = cond (is_same row.rest r) [] (chunk String (place row.line row.rest) (place row.line r))

    front : List Row → List Event
    front [] = []
    front (next ∷ rows) = next.front

    there : List Event
    there =
        chunk String (place row.line row.rest) (next_line row.line) ++ front rows
        ++ row_chunks String rows (at row r ∷ rows)

rows-over : (row next : Row) (rows ends : List Row) (p q : Point) → Ahead (next ∷ rows) ends →
    place row.line row.rest ≡ p → next_line row.line ≡ q →
    row_chunks String (row ∷ next ∷ rows) ends ≡
    enter_link n.Data p string_link ∷ exit n.Data q ∷ next.front ++ row_chunks String (next ∷ rows) ends
rows-over row next rows [] p q h e k = let no : [] ≡ at h.row (past h.size h.row.rest) ∷ h.more = h.ends_are in cc
rows-over row next rows (end ∷ ends) p q h e k =
    ap (λ (t : Bool). cond t here there) other
    ∙ ap₂ (λ (a b : Point). chunk String a b ++ next.front ++ row_chunks String (next ∷ rows) (end ∷ ends)) e k
  where
    other : (length (next ∷ rows) == length ends) ≡ false
    other = let fewer = ahead-fewer (next ∷ rows) (end ∷ ends) h in grind (arith, nat_tests)

    here : List Event
    here = cond (is_same row.rest end.rest) [] (chunk String (place row.line row.rest) (place end.line end.rest))

    there : List Event
    there =
        chunk String (place row.line row.rest) (next_line row.line) ++ next.front
        ++ row_chunks String (next ∷ rows) (end ∷ ends)

-- The text.

-- what is taken of it from rows: their chunks up to where they are after it
pub record TextOn (text : List ℕ) (last p : Point) (cells : List Cell) (turns : List Turn) (rest : List Cell)
    (rows : List Row) : Type 0 where
  pub ends : List Row
  pub left : List Turn
  pub takes : Takes text last p turns (point_after cells p) rest left (chunks false cells p)
      (row_chunks String rows ends)
  pub along : Along text ends (point_after cells p) rest left
  pub ahead : Ahead rows ends

-- on one line
text-here : (text : List ℕ) (last p : Point) (cells : List Cell) (turns : List Turn) (rest : List Cell) (row : Row)
    (rows : List Row) →
    NoFeed cells → Walk text last p (cells ++ rest) turns → Along text (row ∷ rows) p (cells ++ rest) turns →
    (point_after cells p).vs ≡ 0 → TextOn text last p cells turns rest (row ∷ rows)
text-here text last p cells turns rest row rows none walk along whole = record {
  ends = at row (past on.size row.rest) ∷ rows;
  left = turns;
  takes =
      subst (Takes text last p turns q rest turns (chunks false cells p)) (sym events)
      (taken cells none walk line.takes whole on.some);
  along = on.along;
  ahead = ahead-here row rows on.size on.fits;
}
  where
    q : Point
    q = point_after cells p

    line : Line.OnLine text last p cells turns rest
    line = on-line text last p cells rest turns none walk

    on : LineOn text row rows p q cells rest turns
    on = line-on text row rows p cells rest turns along walk.valid line.steps whole

    events : row_chunks String (row ∷ rows) (at row (past on.size row.rest) ∷ rows) ≡
        cond (same_place p q) [] (chunk String p q)
    events =
        rows-here row rows (past on.size row.rest) p q (row-place text row rows p (cells ++ rest) turns along) on.place
        ∙ ap (λ (t : Bool). cond t [] (chunk String p q)) on.same

    taken : (cells : List Cell) → NoFeed cells → Walk text last p (cells ++ rest) turns →
        Takes text last p turns (point_after cells p) rest turns [] [] →
        (point_after cells p).vs ≡ 0 → (cells ≢ [] → p.index < (point_after cells p).index) →
        Takes text last p turns (point_after cells p) rest turns (chunks false cells p)
        (cond (same_place p (point_after cells p)) [] (chunk String p (point_after cells p)))
    taken [] none walk takes whole some =
        subst (λ (t : Bool). Takes text last p turns p rest turns [] (cond t [] (chunk String p p)))
        (sym (here p.index p.vs)) takes
      where
        here : (i v : ℕ) → ((i == i) && (v == v)) ≡ true
        here i v = and_from (i == i) (v == v) (eq-eqb i i refl) (eq-eqb v v refl)
    taken (c ∷ cs) none walk takes whole some =
        subst
        (λ (t : Bool).
        Takes text last p turns (point_after (c ∷ cs) p) rest turns (chunks false (c ∷ cs) p)
        (cond t [] (chunk String p (point_after (c ∷ cs) p)))) (sym (apart (some (λ e. cc))))
        (subst
        (λ (es : List Event).
        Takes text last p turns (point_after (c ∷ cs) p) rest turns es (chunk String p (point_after (c ∷ cs) p)))
        (sym (chunks-one c cs p none))
        (takes-then text last p turns p (c ∷ cs ++ rest) turns begin begin (point_after (c ∷ cs) p) rest turns
        (exit n.Data (point_after (c ∷ cs) p) ∷ []) (exit n.Data (point_after (c ∷ cs) p) ∷ [])
        (takes-quiet text last p turns p (c ∷ cs ++ rest) turns begin (refl, tt)
        (takes-none text last p (c ∷ cs ++ rest) turns walk) refl (omega arith) (omega arith, tt))
        (takes-end text last p turns (point_after (c ∷ cs) p) rest turns [] [] n.Data takes whole)))
      where
        begin : List Event
        begin = enter_link n.Data p string_link ∷ []

        apart : p.index < (point_after (c ∷ cs) p).index → same_place p (point_after (c ∷ cs) p) ≡ false
        apart lt = grind (arith, nat_tests)

-- a line, and a text after its ending
text-next : (text : List ℕ) (last p : Point) (line : List Cell) (d : Cell) (ds : List Cell) (turns : List Turn)
    (rest : List Cell) (row : Row) (rows : List Row) →
    NoFeed line → (d.byte == 10) ≡ true → Walk text last p ((line ++ d ∷ ds) ++ rest) turns →
    Along text (row ∷ rows) p ((line ++ d ∷ ds) ++ rest) turns → (point_after (line ++ d ∷ ds) p).vs ≡ 0 →
    ((further : List Row) (left : List Turn) → Walk text last d.after (ds ++ rest) left →
    Along text further d.after (ds ++ rest) left → (point_after ds d.after).vs ≡ 0 →
    TextOn text last d.after ds left rest further) → TextOn text last p (line ++ d ∷ ds) turns rest (row ∷ rows)
text-next text last p line d ds turns rest row rows none ten walk along whole more =
    go (next-on text row rows p e line d (ds ++ rest) turns over.left none ten here over.turn)
  where
    e : Point
    e = point_after line p

    q : Point
    q = point_after (line ++ d ∷ ds) p

    all : (line ++ d ∷ ds) ++ rest ≡ line ++ (d ∷ ds ++ rest)
    all = append_assoc line (d ∷ ds) rest

    walked : Walk text last p (line ++ (d ∷ ds ++ rest)) turns
    walked = subst (λ (l : List Cell). Walk text last p l turns) all walk

    here : Along text (row ∷ rows) p (line ++ (d ∷ ds ++ rest)) turns
    here = subst (λ (l : List Cell). Along text (row ∷ rows) p l turns) all along

    on : Line.OnLine text last p line turns (d ∷ ds ++ rest)
    on = on-line text last p line (d ∷ ds ++ rest) turns none walked

    over : Line.OverEnd text last e d (ds ++ rest) turns n.Data
    over = over-end text last e d (ds ++ rest) turns n.Data refl ten on.takes.walk

    turn : Turn
    turn = over.turn.turn

    ends : q ≡ point_after ds d.after
    ends = point_after-append line (d ∷ ds) p

    begin : List Event
    begin = enter_link n.Data p string_link ∷ []

    front : List Event
    front = exit n.Data turn.break.after ∷ turn.break.front

    begun : Takes text last p turns p (line ++ (d ∷ ds ++ rest)) turns begin begin
    begun =
        takes-quiet text last p turns p (line ++ (d ∷ ds ++ rest)) turns begin (refl, tt)
        (takes-none text last p (line ++ (d ∷ ds ++ rest)) turns walked) refl (omega arith) (omega arith, tt)

    onward : Takes text last p turns d.after (ds ++ rest) over.left (exit n.Data d.after ∷ []) front
    onward =
        takes-then text last p turns e (d ∷ ds ++ rest) turns [] [] d.after (ds ++ rest) over.left
        (exit n.Data d.after ∷ []) front on.takes over.takes

    -- with what follows
    both : (left : List Turn) (fs : List Event) →
        Takes text last d.after over.left (point_after ds d.after) rest left (chunks false ds d.after) fs →
        Takes text last p turns q rest left (chunks false (line ++ d ∷ ds) p) (begin ++ (front ++ fs))
    both left fs takes =
        subst (λ (es : List Event). Takes text last p turns q rest left es (begin ++ (front ++ fs)))
        (sym (chunks-over line d ds p none ten))
        (subst
        (λ (x : Point).
        Takes text last p turns x rest left (begin ++ (exit n.Data d.after ∷ chunks false ds d.after))
        (begin ++ (front ++ fs))) (sym ends)
        (takes-then text last p turns p (line ++ (d ∷ ds ++ rest)) turns begin begin (point_after ds d.after) rest left
        (exit n.Data d.after ∷ chunks false ds d.after) (front ++ fs) begun
        (takes-then text last p turns d.after (ds ++ rest) over.left (exit n.Data d.after ∷ []) front
        (point_after ds d.after) rest left (chunks false ds d.after) fs onward takes)))

    go : NextOn text row rows d (ds ++ rest) turn over.left →
        TextOn text last p (line ++ d ∷ ds) turns rest (row ∷ rows)
    go next = record {
      ends = t.ends;
      left = t.left;
      takes =
          subst (Takes text last p turns q rest t.left (chunks false (line ++ d ∷ ds) p)) (sym events)
          (both t.left (row_chunks String (next.next ∷ next.further) t.ends) t.takes);
      along = subst (λ (x : Point). Along text t.ends x rest t.left) (sym ends) t.along;
      ahead =
          subst (λ (l : List Row). Ahead (row ∷ l) t.ends) (sym next.rows_are)
          (ahead-next row (next.next ∷ next.further) t.ends t.ahead);
    }
      where
        t : TextOn text last d.after ds over.left rest (next.next ∷ next.further)
        t =
            more (next.next ∷ next.further) over.left over.takes.walk next.along
            (sym (ap (λ (x : Point). x.vs) ends) ∙ whole)

        events : row_chunks String (row ∷ rows) t.ends ≡
            begin ++ (front ++ row_chunks String (next.next ∷ next.further) t.ends)
        events =
            ap (λ (l : List Row). row_chunks String (row ∷ l) t.ends) next.rows_are
            ∙ rows-over row next.next next.further t.ends p turn.break.after t.ahead
            (row-place text row rows p (line ++ (d ∷ ds ++ rest)) turns here) (sym next.after)
            ∙ ap
            (λ (l : List Event).
            enter_link n.Data p string_link ∷ exit n.Data turn.break.after
            ∷ l ++ row_chunks String (next.next ∷ next.further) t.ends) (sym next.front)

-- any
text-by : (text : List ℕ) (last : Point) (rest : List Cell) (size : ℕ) (p : Point) (cells : List Cell)
    (turns : List Turn) (rows : List Row) →
    length cells ≤ size → Walk text last p (cells ++ rest) turns → Along text rows p (cells ++ rest) turns →
    (point_after cells p).vs ≡ 0 → TextOn text last p cells turns rest rows
text-by text last rest size p cells turns [] le walk along whole = absurd along
text-by text last rest size p [] turns (row ∷ rows) le walk along whole =
    text-here text last p [] turns rest row rows tt walk along whole
text-by text last rest zero p (c ∷ cs) turns (row ∷ rows) le walk along whole = absurd (omega (arith, le))
text-by text last rest (suc size) p (c ∷ cs) turns (row ∷ rows) le walk along whole =
    by (line_cells (c ∷ cs)) (from_ending (c ∷ cs)) (line-split (c ∷ cs)) (line-no_feed (c ∷ cs)) (line-stops (c ∷ cs))
    (λ q l left further small w a e. text-by text last rest size q l left further small w a e)
  where
    Of : List Cell → Type 0
    Of l = TextOn text last p l turns rest (row ∷ rows)

    by : (line tail : List Cell) → line ++ tail ≡ c ∷ cs → NoFeed line → Stops tail →
        ((q : Point) (l : List Cell) (left : List Turn) (further : List Row) → length l ≤ size →
        Walk text last q (l ++ rest) left → Along text further q (l ++ rest) left → (point_after l q).vs ≡ 0 →
        TextOn text last q l left rest further) →
        Of (c ∷ cs)
    by line [] e none stops more =
        let same : line ≡ c ∷ cs = sym (append-nil line) ∙ e in
        text-here text last p (c ∷ cs) turns rest row rows (subst NoFeed same none) walk along whole
    by line (d ∷ ds) e none stops more =
        let size = ap (λ (l : List Cell). length l) e in
        let parts = length-append line (d ∷ ds) in
        subst Of e
        (text-next text last p line d ds turns rest row rows none stops
        (subst (λ (l : List Cell). Walk text last p (l ++ rest) turns) (sym e) walk)
        (subst (λ (l : List Cell). Along text (row ∷ rows) p (l ++ rest) turns) (sym e) along)
        (ap (λ (l : List Cell). (point_after l p).vs) e ∙ whole)
        (λ further left w a k. more d.after ds left further (omega (arith, size, parts, le)) w a k))

pub text-of : (text : List ℕ) (last p : Point) (cells rest : List Cell) (turns : List Turn) (rows : List Row) →
    Walk text last p (cells ++ rest) turns → Along text rows p (cells ++ rest) turns → (point_after cells p).vs ≡ 0 →
    TextOn text last p cells turns rest rows
text-of text last p cells rest turns rows walk along whole =
    text-by text last rest (length cells) p cells turns rows (omega arith) walk along whole
