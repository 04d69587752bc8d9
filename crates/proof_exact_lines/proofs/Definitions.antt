-- A definition, by the rows that it is in: where its cells are before rows, the exact list finds it there and has its
-- events in the places of their lines.
use Rattle.std.proofs.Common.{◌≡◌, ℕ, ◌≤◌, Bool, true, false, cond, nat_eq, List, [], ◌∷◌, ◌++◌, length}
use Rattle.std.proofs.Common.{refl, sym, ap, ap₂, ◌∙◌, subst, arith, Option, Some, None}
use Rattle.std.specs.Prelude.{◌==◌}
use Rattle.std.specs.Option.{is_some}
use Rattle.std.proofs.lemmas.List.{append_cancel_left, append_cancel_right, length-append}
use Rattle.md_engine.specs.declared.event.Event.{Event}
use Rattle.md_engine.specs.declared.event.Name.{Name}
use Rattle.md_engine.specs.declared.event.Name.TheVariants as n
use Rattle.md_engine.specs.declared.event.Point.{Point}
use Rattle.md_engine.specs.Meaning.{Cell}
use Rattle.md_meaning.specs.Ascii.{colon}
use Rattle.md_meaning.specs.Definition as found
use Rattle.md_meaning.specs.Definition.{Destination}
use Rattle.md_meaning.specs.Rest.{Rest, after_indent, cut_tab, indent, is_white}
use Rattle.md_link_definitions.specs.DefinitionRule.{DefinitionParts, definition_end, definition_events}
use Rattle.md_link_definitions.specs.DefinitionRule.{definition_parts, definition_rest, destination_begin}
use Rattle.md_link_definitions.specs.DefinitionRule.{destination_end, destination_rest, ends_after, is_literal}
use Rattle.md_link_definitions.specs.DefinitionRule.{label_begin, parts_after, parts_end, parts_labelled}
use Rattle.md_link_definitions.specs.DefinitionRule.{parts_rest, parts_with, titled_part, title_following}
use Rattle.md_link_definitions.specs.DestinationRule.{destination_left, destination_part}
use Rattle.md_link_definitions.specs.GapRule.{gap_part, gap_rest, white_part}
use Rattle.md_link_definitions.specs.LabelRule.{LabelParts, label_events, label_parts}
use Rattle.md_link_definitions.proofs.DefinitionLines.{cut_of, definition-lines}
use Rattle.md_link_definitions.proofs.GapLines.{AreAt, lines-led}
use Rattle.md_events.specs.Ahead.{begins_white, line_bytes, white_end, white_rest}
use Rattle.md_events.specs.Events.Inline.{pair_unless_empty}
use Rattle.md_events.specs.Events.Nested.{around, enter, exit, pair}
use Rattle.md_events.specs.Look.{first_seen}
use Rattle.md_events.specs.Spaces.{any_size, ends_line}
use Rattle.md_events.proofs.FeedLines.{Stops}
use Rattle.md_events.proofs.RestCells.{indent-length, rest_cells}
use Rattle.md_events.specs.Exact.Leaves.{first_end, start}
use Rattle.md_events.specs.Exact.Places.{TextLine, line_end, past, place}
use Rattle.md_events.specs.Exact.Rows.{Row}
use Rattle.md_events.specs.Exact.Texts as Texts
use Rattle.md_events.specs.Exact.Texts.{after_destination, following_gap, after_label, enclosed_part, gap, lines_left, mark}
use Rattle.md_events.specs.Exact.Texts.{on_first}
use Rattle.proof_exact_pieces.proofs.OnLine.{LineIn, OnLine, indent-on}
use Rattle.proof_exact_pieces.proofs.PieceLemmas.{same-spaces}
use Rattle.proof_content_laws.proofs.Defined.Along.{Turn, no_line}
use Rattle.proof_content_laws.proofs.Defined.Gaps.{WhiteOf, white-of}
use Rattle.proof_content_laws.proofs.Defined.Parts.{DefinitionAre, definition-are}
use Rattle.proof_content_laws.proofs.Defined.Takes.{Takes, Walk, takes-around, takes-quiet, takes-then, walk-whole}
use Rattle.proof_content_laws.proofs.Defined.Targets.{ByteOf, byte-of}
use Rattle.proof_exact_lines.proofs.Ahead.{Onward, ahead-onward, at, onward-then}
use Rattle.proof_exact_lines.proofs.Along.{Along, Begins, rows-lines, rows-start, rows-whole}
use Rattle.proof_exact_lines.proofs.Destinations.{DestinationOn, FirstDark, destination-first, destination-on}
use Rattle.proof_exact_lines.proofs.Gaps.{WhiteOn, gap-here, tail-on, white-on}
use Rattle.proof_exact_lines.proofs.HasTitles.{GapAt, TitledOn, gap-at, title_end, title_tail, titled-on}
use Rattle.proof_exact_lines.proofs.Marks.{LabelOn, label-on, mark-on}

-- The indent.

-- two rests of a line that are at one point are the same
same-rest : (text following : List ℕ) (line : TextLine) (r s : Rest) (p : Point) → OnLine text following line r p →
    OnLine text following line s p → r ≡ s
same-rest text following line r s p h k =
    ap (λ (c : ℕ). rest c r.spaces r.bytes) (omega (arith, h.valid.column, k.valid.column))
    ∙ ap (λ (m : ℕ). rest s.column m r.bytes) spaces ∙ ap (rest s.column s.spaces) bytes
  where
    rest : ℕ → ℕ → List ℕ → Rest
    rest column spaces bytes = record { column = column; spaces = spaces; bytes = bytes }

    spaces : r.spaces ≡ s.spaces
    spaces = same-spaces r.spaces s.spaces p h.valid.cut k.valid.cut

    bytes : r.bytes ≡ s.bytes
    bytes =
        append_cancel_left (cut_tab s.spaces) r.bytes s.bytes
        (append_cancel_right (cut_tab s.spaces ++ r.bytes) (cut_tab s.spaces ++ s.bytes) following
        (ap (λ (m : ℕ). (cut_tab m ++ r.bytes) ++ following) (sym spaces) ∙ sym h.valid.text_is ∙ k.valid.text_is))

same-following : (text a b : List ℕ) (line : TextLine) → LineIn text a line → LineIn text b line → a ≡ b
same-following text a b line h k = append_cancel_left line.bytes a b (sym h.valid.text_is ∙ k.valid.text_is)

-- the first of some rows is in their cells
record FirstIn (text : List ℕ) (row : Row) (p : Point) (cells : List Cell) : Type 0 where
  begins : Begins text row p
  stop : List Cell
  cells_are : cells ≡ rest_cells no_line row.rest p ++ stop
  stops : Stops stop

first-in : (text : List ℕ) (row : Row) (rows : List Row) (p : Point) (cells : List Cell) (turns : List Turn) →
    Along text (row ∷ rows) p cells turns → FirstIn text row p cells
first-in text row [] p cells turns h =
    record { begins = h.begins; stop = h.stop; cells_are = h.cells_are; stops = subst Stops (sym h.following.0) tt }
first-in text row (next ∷ rows) p cells turns h =
    let o = h.following in
    record { begins = h.begins; stop = h.stop; cells_are = h.cells_are; stops = subst Stops (sym o.stop_is) o.ten }

-- after whitespace it is after its indent
indent-is : (text : List ℕ) (last : Point) (row : Row) (rows : List Row) (p : Point) (cells : List Cell)
    (turns : List Turn) → Walk text last p cells turns → Along text (row ∷ rows) p cells turns →
    (on : WhiteOn text row rows p cells turns) → after_indent row.rest ≡ past on.size row.rest
indent-is text last row rows p cells turns walk along on =
    same-rest text is.begins.following row.line (after_indent row.rest) (past on.size row.rest)
    (white_end any_size cells p) here
    (subst
    (λ (l : List ℕ). OnLine text l row.line (past on.size row.rest) (white_end any_size cells p)) following
    there.begins.on)
  where
    is : FirstIn text row p cells
    is = first-in text row rows p cells turns along

    there : FirstIn text (at row (past on.size row.rest)) (white_end any_size cells p) (white_rest any_size cells)
    there =
        first-in text (at row (past on.size row.rest)) rows (white_end any_size cells p) (white_rest any_size cells)
        turns on.along

    following : there.begins.following ≡ is.begins.following
    following =
        same-following text there.begins.following is.begins.following row.line there.begins.line_in is.begins.line_in

    few : indent row.rest ≤ any_size
    few =
        let some = indent-length no_line text is.begins.following row.rest p is.begins.on.valid in
        let parts = length-append (rest_cells no_line row.rest p) is.stop in
        let all = ap (λ (l : List Cell). length l) is.cells_are in
        let small = walk.small in
        omega (arith, some, parts, all, small)

    here : OnLine text is.begins.following row.line (after_indent row.rest) (white_end any_size cells p)
    here =
        subst
        (λ (l : List Cell).
        OnLine text is.begins.following row.line (after_indent row.rest) (white_end any_size l p)) (sym is.cells_are)
        (indent-on no_line text is.begins.following row.line (indent row.rest) any_size row.rest p is.stop is.begins.on
        is.stops refl few)

onward-first : (f : Rest → Rest) (rows : List Row) → Onward rows (on_first f rows)
onward-first f [] = record { passed = []; following = refl }
onward-first f (row ∷ rows) = record { passed = []; following = refl }

-- Whether one is found.

some-cut : (o : Option DefinitionParts) → is_some (cut_of o) ≡ is_some o
some-cut None = refl
some-cut (Some d) = refl

pub definition-found : (text : List ℕ) (last p : Point) (cells : List Cell) (turns : List Turn) (rows : List Row) →
    Walk text last p cells turns → Along text rows p cells turns →
    is_some (found.definition_at (lines_left (on_first after_indent rows))) ≡ is_some (definition_parts cells)
definition-found text last p cells turns [] walk along = absurd along
definition-found text last p cells turns (row ∷ rows) walk along =
    ap (λ (r : Rest). is_some (found.definition_at (lines_left (at row r ∷ rows))))
    (indent-is text last row rows p cells turns walk along on)
    ∙ ap (λ (l : List (List ℕ)). is_some (found.definition_at l))
    (sym
    (rows-lines text (at row (past on.size row.rest) ∷ rows) q (white_rest any_size cells) turns on.along whole)
    ∙ sym (lines-led any_size p cells walk.small (rows-whole text (row ∷ rows) p cells turns along)))
    ∙ ap is_some (definition-lines p cells walk.small (rows-whole text (row ∷ rows) p cells turns along))
    ∙ some-cut (definition_parts cells)
  where
    q : Point
    q = white_end any_size cells p

    on : WhiteOn text row rows p cells turns
    on = white-on text last row rows p cells turns walk along

    known : WhiteOf text last p cells turns
    known = white-of text last p cells turns walk

    whole : q.vs ≡ 0
    whole = walk-whole text last q (white_rest any_size cells) turns known.takes.walk known.dark

-- Its label, by the cells.

label-with : (cells : List Cell) (label : LabelParts) (c : Cell) (cs : List Cell) (o : Option Destination)
    (d : DefinitionParts) → parts_with cells label c cs o ≡ Some d → label ≡ d.label
label-with cells label c cs None d e = let bad : (let o : Option DefinitionParts = None in o) ≡ Some d = e in cc
label-with cells label c cs (Some t) d e = go (ends_after (parts_rest all)) e
  where
    all : DefinitionParts
    all = record {
      cells = cells;
      label = label;
      colon = c;
      more = cs;
      destination = t;
      title = title_following (destination_left t (gap_rest cs));
    }

    go : (x : Bool) → cond x (Some all) None ≡ Some d → label ≡ d.label
    go true e = let same : all ≡ d = cc in ap (λ (x : DefinitionParts). x.label) same
    go false e = let bad : (let o : Option DefinitionParts = None in o) ≡ Some d = e in cc

label-following : (cells : List Cell) (label : LabelParts) (left : List Cell) (d : DefinitionParts) →
    parts_after cells label left ≡ Some d → label ≡ d.label
label-following cells label [] d e = let bad : (let o : Option DefinitionParts = None in o) ≡ Some d = e in cc
label-following cells label (c ∷ cs) d e = go (nat_eq c.byte colon) e
  where
    go : (x : Bool) →
        cond x (parts_with cells label c cs (found.destination_at (line_bytes (gap_rest cs)))) None ≡ Some d →
        label ≡ d.label
    go true e = label-with cells label c cs (found.destination_at (line_bytes (gap_rest cs))) d e
    go false e = let bad : (let o : Option DefinitionParts = None in o) ≡ Some d = e in cc

definition-label : (cells : List Cell) (d : DefinitionParts) → definition_parts cells ≡ Some d →
    label_parts (white_rest any_size cells) ≡ Some d.label
unfolding definition_parts
definition-label cells d e = go (label_parts (white_rest any_size cells)) e
  where
    go : (o : Option LabelParts) → parts_labelled cells o ≡ Some d → o ≡ Some d.label
    go None e = let bad : (let o : Option DefinitionParts = None in o) ≡ Some d = e in cc
    go (Some label) e = ap Some (label-following cells label label.rest d e)

-- Marks and the end of a line, by any rows.

record MarkAt (text : List ℕ) (rows : List Row) (p : Point) (c : Cell) (cs : List Cell) (turns : List Turn) :
    Type 0 where
  along : Along text (on_first (past 1) rows) c.after cs turns
  marks : (name : Name) → mark name rows ≡ pair name p c.after

mark-at : (text : List ℕ) (last : Point) (rows : List Row) (p : Point) (c : Cell) (cs : List Cell)
    (turns : List Turn) → is_white c.byte ≡ false → (c.byte == 10) ≡ false → Walk text last p (c ∷ cs) turns →
    Along text rows p (c ∷ cs) turns → MarkAt text rows p c cs turns
mark-at text last [] p c cs turns dark plain walk along = absurd along
mark-at text last (row ∷ rows) p c cs turns dark plain walk along =
    let on = mark-on text last row rows p c cs turns dark plain walk along in
    record { along = on.along; marks = on.marks }

record EndAt (text : List ℕ) (rows : List Row) (p : Point) (cells : List Cell) (turns : List Turn) : Type 0 where
  end : Row
  more : List Row
  rows_are : rows ≡ end ∷ more
  size : ℕ
  along : Along text (at end (past size end.rest) ∷ more) (white_end any_size cells p) (white_rest any_size cells)
      turns
  events : gap rows (first_end rows) ≡ pair_unless_empty n.SpaceOrTab p (white_end any_size cells p)
  ends : start (first_end rows) ≡ white_end any_size cells p
  stops : place end.line (line_end end.line) ≡ white_end any_size cells p

ends-stop : (cells : List Cell) → ends_line (first_seen cells) ≡ true → Stops cells
ends-stop [] e = tt
ends-stop (c ∷ cs) e = e

end-at : (text : List ℕ) (last : Point) (rows : List Row) (p : Point) (cells : List Cell) (turns : List Turn) →
    ends_after cells ≡ true → Walk text last p cells turns → Along text rows p cells turns →
    EndAt text rows p cells turns
end-at text last [] p cells turns ends walk along = absurd along
end-at text last (row ∷ rows) p cells turns ends walk along =
    let on = white-on text last row rows p cells turns walk along in
    let tail = tail-on text last row rows p cells turns walk along (ends-stop (white_rest any_size cells) ends) in
    record {
      end = row;
      more = rows;
      rows_are = refl;
      size = on.size;
      along = on.along;
      events = tail.events;
      ends = tail.end;
      stops = tail.end;
    }

-- Up to the end of its destination.

-- where its value begins, after the colon, and its destination, after a gap
abbrev value_of : List Row → List Row
value_of rows = on_first (past 1) (after_label rows)

abbrev destination_of : List Row → List Row
destination_of rows = following_gap (value_of rows)

-- and where that ends
abbrev target_end : List Row → List Row
target_end rows = after_destination (destination_of rows)

-- its events so far, by its cells and by rows
abbrev head_events : DefinitionParts → Point → List Event
head_events d x =
    label_events d.label x ++ pair n.DefinitionMarker d.label.closer.after d.colon.after
    ++ gap_part d.more d.colon.after
    ++ destination_part (is_literal d) d.destination.text (gap_rest d.more) (destination_begin d)

abbrev head_unread : List Row → List Event
head_unread rows =
    enclosed_part n.DefinitionLabel n.DefinitionLabelMarker n.DefinitionLabelString rows (after_label rows)
    ++ mark n.DefinitionMarker (after_label rows) ++ gap (value_of rows) (destination_of rows)
    ++ Texts.destination_part (destination_of rows) (target_end rows)

record HeadOn (text : List ℕ) (last x : Point) (d : DefinitionParts) (turns : List Turn) (rows : List Row) :
    Type 0 where
  left : List Turn
  takes : Takes text last x turns (destination_end d) (destination_rest d) left (head_events d x) (head_unread rows)
  along : Along text (target_end rows) (destination_end d) (destination_rest d) left
  onward : Onward rows (target_end rows)
  whole : (destination_end d).vs ≡ 0
  at : AreAt (destination_end d) (destination_rest d)

head-on : (text : List ℕ) (last x : Point) (d : DefinitionParts) (turns : List Turn) (rows : List Row) →
    DefinitionAre d.cells d → label_parts (white_rest any_size d.cells) ≡ Some d.label →
    Walk text last x (white_rest any_size d.cells) turns → Along text rows x (white_rest any_size d.cells) turns →
    HeadOn text last x d turns rows
head-on text last x d turns rows are label_is walk along = record {
  left = target.left;
  takes =
      subst
      (λ (es : List Event).
      Takes text last x turns r (destination_rest d) target.left (head_events d x) (fs1 ++ es ++ fs2 ++ fs3))
      (sym (on_mark.marks n.DefinitionMarker)) three;
  along = target.along;
  onward =
      onward-then rows from (target_end rows)
      (onward-then rows value from
      (onward-then rows label value (ahead-onward rows label on_label.ahead) (onward-first (past 1) label))
      (ahead-onward value from gaps.ahead)) (ahead-onward from (target_end rows) target.ahead);
  whole = target.whole;
  at = target.at;
}
  where
    c : Point
    c = d.label.closer.after

    label : List Row
    label = after_label rows

    value : List Row
    value = value_of rows

    from : List Row
    from = destination_of rows

    on_label : LabelOn text last x d.label turns rows
    on_label = label-on text last x (white_rest any_size d.cells) d.label turns rows label_is walk along

    es1 : List Event
    es1 = label_events d.label x

    fs1 : List Event
    fs1 = enclosed_part n.DefinitionLabel n.DefinitionLabelMarker n.DefinitionLabelString rows label

    labels : Takes text last x turns c (d.colon ∷ d.more) on_label.left es1 fs1
    labels = subst (λ (l : List Cell). Takes text last x turns c l on_label.left es1 fs1) are.rest on_label.takes

    colon_is : d.colon.byte ≡ colon
    colon_is = are.colon_is

    byte : ByteOf text last c d.colon d.more on_label.left
    byte =
        byte-of text last c d.colon d.more on_label.left (rw colon_is refl) (rw colon_is refl) labels.walk

    on_mark : MarkAt text label c d.colon d.more on_label.left
    on_mark =
        mark-at text last label c d.colon d.more on_label.left (rw colon_is refl) (rw colon_is refl) labels.walk
        (subst (λ (l : List Cell). Along text label c l on_label.left) are.rest on_label.along)

    marker : List Event
    marker = pair n.DefinitionMarker c d.colon.after

    marks : Takes text last c on_label.left d.colon.after d.more on_label.left marker marker
    marks =
        takes-quiet text last c on_label.left d.colon.after d.more on_label.left marker (refl, (refl, tt)) byte.takes
        refl (omega arith) (byte.takes.index, (omega arith, tt))

    first : FirstDark (gap_rest d.more)
    first = destination-first (gap_rest d.more) d.destination are.destination

    gaps : GapAt text last d.colon.after d.more on_label.left value
    gaps =
        gap-at text last d.colon.after d.more on_label.left value byte.takes.walk on_mark.along byte.is.1.whole
        first.first first.others first.cells_are first.dark first.plain

    q : Point
    q = destination_begin d

    begins : q.vs ≡ 0
    begins =
        walk-whole text last q (gap_rest d.more) gaps.left gaps.takes.walk
        (ap (λ (l : List Cell). begins_white l) first.cells_are ∙ first.dark)

    target : DestinationOn text last q (gap_rest d.more) d.destination gaps.left from
    target =
        destination-on text last q (gap_rest d.more) d.destination gaps.left from are.destination gaps.takes.walk
        gaps.along begins

    r : Point
    r = destination_end d

    es2 : List Event
    es2 = gap_part d.more d.colon.after

    fs2 : List Event
    fs2 = gap value from

    es3 : List Event
    es3 = destination_part (is_literal d) d.destination.text (gap_rest d.more) q

    fs3 : List Event
    fs3 = Texts.destination_part from (target_end rows)

    one : Takes text last x turns d.colon.after d.more on_label.left (es1 ++ marker) (fs1 ++ marker)
    one =
        takes-then text last x turns c (d.colon ∷ d.more) on_label.left es1 fs1 d.colon.after d.more on_label.left
        marker marker labels marks

    two : Takes text last x turns q (gap_rest d.more) gaps.left (es1 ++ marker ++ es2) (fs1 ++ marker ++ fs2)
    two =
        takes-then text last x turns d.colon.after d.more on_label.left (es1 ++ marker) (fs1 ++ marker) q
        (gap_rest d.more) gaps.left es2 fs2 one gaps.takes

    three : Takes text last x turns r (destination_rest d) target.left (head_events d x)
        (fs1 ++ marker ++ fs2 ++ fs3)
    three =
        takes-then text last x turns q (gap_rest d.more) gaps.left (es1 ++ marker ++ es2) (fs1 ++ marker ++ fs2) r
        (destination_rest d) target.left es3 fs3 two target.takes

-- From its label on.

-- its events
abbrev inner_events : DefinitionParts → Point → List Event
inner_events d x =
    around n.Definition x (definition_end d)
    (head_events d x ++ titled_part d.title (destination_rest d) (destination_end d)
    ++ white_part (parts_rest d) (parts_end d))

record InnerOn (text : List ℕ) (last x : Point) (d : DefinitionParts) (turns : List Turn) (rows : List Row) :
    Type 0 where
  left : List Turn
  takes : Takes text last x turns (definition_end d) (definition_rest d) left (inner_events d x)
      (Texts.definition rows)
  end : Row
  more : List Row
  end_is : Texts.definition_end rows ≡ end ∷ more
  stops : place end.line (line_end end.line) ≡ definition_end d
  onward : Onward rows (end ∷ more)
  size : ℕ
  along : Along text (at end (past size end.rest) ∷ more) (definition_end d) (definition_rest d) left

inner-on : (text : List ℕ) (last x : Point) (d : DefinitionParts) (turns : List Turn) (rows : List Row) →
    DefinitionAre d.cells d → label_parts (white_rest any_size d.cells) ≡ Some d.label →
    Walk text last x (white_rest any_size d.cells) turns → Along text rows x (white_rest any_size d.cells) turns →
    InnerOn text last x d turns rows
inner-on text last x d turns rows are label_is walk along = record {
  left = tail.left;
  takes = subst (Takes text last x turns z (definition_rest d) tail.left (inner_events d x)) (sym events) taken;
  end = space.end;
  more = space.more;
  end_is = space.rows_are;
  stops = space.stops;
  onward = subst (Onward rows) space.rows_are (onward-then rows to (title_end to) head.onward tail.onward);
  size = space.size;
  along = space.along;
}
  where
    z : Point
    z = definition_end d

    to : List Row
    to = target_end rows

    head : HeadOn text last x d turns rows
    head = head-on text last x d turns rows are label_is walk along

    r : Point
    r = destination_end d

    tail : TitledOn text last r (destination_rest d) d.title head.left to
    tail =
        titled-on text last r (destination_rest d) d.title head.left to are.title head.takes.walk head.along
        head.whole head.at

    e : Point
    e = parts_end d

    known : WhiteOf text last e (parts_rest d) tail.left
    known = white-of text last e (parts_rest d) tail.left tail.takes.walk

    space : EndAt text (title_end to) e (parts_rest d) tail.left
    space = end-at text last (title_end to) e (parts_rest d) tail.left are.ends tail.takes.walk tail.along

    whole : z.vs ≡ 0
    whole = walk-whole text last z (definition_rest d) tail.left known.takes.walk known.dark

    es : List Event
    es = head_events d x

    fs : List Event
    fs = head_unread rows

    es1 : List Event
    es1 = titled_part d.title (destination_rest d) r

    fs1 : List Event
    fs1 = title_tail to

    es2 : List Event
    es2 = white_part (parts_rest d) e

    fs2 : List Event
    fs2 = pair_unless_empty n.SpaceOrTab e z

    one : Takes text last x turns e (parts_rest d) tail.left (es ++ es1) (fs ++ fs1)
    one =
        takes-then text last x turns r (destination_rest d) head.left es fs e (parts_rest d) tail.left es1 fs1
        head.takes tail.takes

    two : Takes text last x turns z (definition_rest d) tail.left (es ++ es1 ++ es2) (fs ++ fs1 ++ fs2)
    two =
        takes-then text last x turns e (parts_rest d) tail.left (es ++ es1) (fs ++ fs1) z (definition_rest d)
        tail.left es2 fs2 one known.takes

    taken : Takes text last x turns z (definition_rest d) tail.left (inner_events d x)
        (around n.Definition x z (fs ++ fs1 ++ fs2))
    taken =
        takes-around text last x turns z (definition_rest d) tail.left (es ++ es1 ++ es2) (fs ++ fs1 ++ fs2)
        (enter n.Definition x ∷ []) (exit n.Definition z ∷ []) (refl, tt) (refl, tt) two (omega arith)
        (omega arith, tt) (omega arith, λ same. whole) (omega arith, tt)

    events : Texts.definition rows ≡ around n.Definition x z (fs ++ fs1 ++ fs2)
    events =
        ap₂
        (λ (a b : Point).
        around n.Definition a b (fs ++ fs1 ++ gap (title_end to) (first_end (title_end to))))
        (rows-start text rows x (white_rest any_size d.cells) turns along) space.ends
        ∙ ap (λ (l : List Event). around n.Definition x z (fs ++ fs1 ++ l)) space.events

-- With its indent.

-- what a definition has of rows; after it these are, after whitespace, at the end of a line
pub record DefinitionOn (text : List ℕ) (last p : Point) (d : DefinitionParts) (turns : List Turn) (rows : List Row) :
    Type 0 where
  pub left : List Turn
  pub takes : Takes text last p turns (definition_end d) (definition_rest d) left (definition_events d p)
      (gap rows (on_first after_indent rows) ++ Texts.definition (on_first after_indent rows))
  pub end : Row
  pub more : List Row
  pub end_is : Texts.definition_end (on_first after_indent rows) ≡ end ∷ more
  pub stops : place end.line (line_end end.line) ≡ definition_end d
  pub onward : Onward rows (end ∷ more)
  pub size : ℕ
  pub along : Along text (at end (past size end.rest) ∷ more) (definition_end d) (definition_rest d) left

definition-by : (text : List ℕ) (last p : Point) (d : DefinitionParts) (turns : List Turn) (rows : List Row) →
    DefinitionAre d.cells d → label_parts (white_rest any_size d.cells) ≡ Some d.label →
    Walk text last p d.cells turns → Along text rows p d.cells turns → DefinitionOn text last p d turns rows
definition-by text last p d turns [] are label_is walk along = absurd along
definition-by text last p d turns (row ∷ rows) are label_is walk along = record {
  left = inner.left;
  takes =
      subst
      (λ (es : List Event).
      Takes text last p turns (definition_end d) (definition_rest d) inner.left (definition_events d p)
      (es ++ Texts.definition first)) (sym front)
      (takes-then text last p turns x (white_rest any_size d.cells) turns (white_part d.cells p)
      (pair_unless_empty n.SpaceOrTab p x) (definition_end d) (definition_rest d) inner.left (inner_events d x)
      (Texts.definition first) known.takes inner.takes);
  end = inner.end;
  more = inner.more;
  end_is = inner.end_is;
  stops = inner.stops;
  onward = record { passed = inner.onward.passed; following = inner.onward.following };
  size = inner.size;
  along = inner.along;
}
  where
    x : Point
    x = label_begin d p

    first : List Row
    first = at row (after_indent row.rest) ∷ rows

    known : WhiteOf text last p d.cells turns
    known = white-of text last p d.cells turns walk

    on : WhiteOn text row rows p d.cells turns
    on = white-on text last row rows p d.cells turns walk along

    same : after_indent row.rest ≡ past on.size row.rest
    same = indent-is text last row rows p d.cells turns walk along on

    inner : InnerOn text last x d turns first
    inner =
        inner-on text last x d turns first are label_is known.takes.walk
        (subst (λ (r : Rest). Along text (at row r ∷ rows) x (white_rest any_size d.cells) turns) (sym same) on.along)

    front : gap (row ∷ rows) first ≡ pair_unless_empty n.SpaceOrTab p x
    front =
        ap (λ (r : Rest). gap (row ∷ rows) (at row r ∷ rows)) same ∙ gap-here row rows (past on.size row.rest)
        ∙ on.events

pub definition-on : (text : List ℕ) (last p : Point) (cells : List Cell) (d : DefinitionParts) (turns : List Turn)
    (rows : List Row) → definition_parts cells ≡ Some d → Walk text last p cells turns →
    Along text rows p cells turns → DefinitionOn text last p d turns rows
definition-on text last p cells d turns rows e walk along =
    definition-by text last p d turns rows (subst (λ (l : List Cell). DefinitionAre l d) (sym are.cells_are) are)
    (ap (λ (l : List Cell). label_parts (white_rest any_size l)) are.cells_are ∙ definition-label cells d e)
    (subst (λ (l : List Cell). Walk text last p l turns) (sym are.cells_are) walk)
    (subst (λ (l : List Cell). Along text rows p l turns) (sym are.cells_are) along)
  where
    are : DefinitionAre cells d
    are = definition-are cells d e
