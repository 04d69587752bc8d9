-- Marks, and a text between two of them, by the rows that they are in: labels and titles.
use Rattle.std.proofs.Common.{◌≡◌, ◌≢◌, ℕ, ◌≤◌, Bool, true, false, cond, List, [], ◌∷◌, ◌++◌, length, refl, sym}
use Rattle.std.proofs.Common.{ap, ap₂, ◌∙◌, subst, arith, append_assoc}
use Rattle.std.specs.Prelude.{◌==◌, Option, Some, None}
use Rattle.std.proofs.lemmas.Bool.Decides.{nat_tests}
use Rattle.md_engine.specs.declared.event.Content.TheVariants.{String}
use Rattle.md_engine.specs.declared.event.Event.{Event}
use Rattle.md_engine.specs.declared.event.Name.{Name}
use Rattle.md_engine.specs.declared.event.Name.TheVariants as n
use Rattle.md_engine.specs.declared.event.Point.{Point}
use Rattle.md_engine.specs.Meaning.{Cell}
use Rattle.md_meaning.specs.Definition.{label_at}
use Rattle.md_meaning.specs.Enclosed.{Lines}
use Rattle.md_meaning.specs.Rest.{is_white}
use Rattle.md_link_definitions.specs.CellLines.{cell_lines}
use Rattle.md_link_definitions.specs.Chunks.{chunks, string_link}
use Rattle.md_link_definitions.specs.LabelRule.{LabelParts, label_events, label_parts}
use Rattle.md_link_definitions.specs.WholeCells.{whole_cells}
use Rattle.md_link_definitions.proofs.LabelLines.{label-lines, label_lines}
use Rattle.md_events.specs.Ahead.{point_after}
use Rattle.md_events.specs.Events.Nested.{around, enter, enter_link, exit, pair}
use Rattle.md_events.specs.Events.Places.{same_place}
use Rattle.md_events.specs.Exact.Leaves.{span}
use Rattle.md_events.specs.Exact.Places.{is_same, part, past, place}
use Rattle.md_events.specs.Exact.Rows.{Row}
use Rattle.md_events.specs.Exact.Texts as Texts
use Rattle.md_events.specs.Exact.Texts.{after_label, chunks as row_chunks, enclosed_part, left, mark}
use Rattle.md_events.specs.Exact.Texts.{text_span}
use Rattle.proof_frame.specs.Laid.{LineBreak, laid}
use Rattle.proof_content_laws.proofs.Defined.Along.{Turn, breaks}
use Rattle.proof_content_laws.proofs.Defined.Marked.{LabelAre, MarkedOf, label-are, marked-of}
use Rattle.proof_content_laws.proofs.Defined.Takes.{Takes, Walk, on-line, reaches, takes-around, takes-quiet}
use Rattle.proof_content_laws.proofs.Defined.Takes.{takes-then}
use Rattle.proof_content_laws.proofs.Defined.Targets.{ByteOf, byte-of}
use Rattle.proof_exact_lines.proofs.Ahead.{Ahead, ahead-from, ahead-to, at, back-is, left-is}
use Rattle.proof_exact_lines.proofs.Along.{Along, row-place, rows-lines, rows-start, rows-whole}
use Rattle.proof_exact_lines.proofs.Strands.{LineOn, TextOn, line-on, text-of}

-- A mark.

pub record MarkOn (text : List ℕ) (row : Row) (rows : List Row) (p : Point) (c : Cell) (cs : List Cell)
    (turns : List Turn) : Type 0 where
  pub some : 1 ≤ length row.rest.bytes
  pub along : Along text (at row (past 1 row.rest) ∷ rows) c.after cs turns
  pub marks : (name : Name) → mark name (row ∷ rows) ≡ pair name p c.after

pub mark-on : (text : List ℕ) (last : Point) (row : Row) (rows : List Row) (p : Point) (c : Cell) (cs : List Cell)
    (turns : List Turn) → is_white c.byte ≡ false → (c.byte == 10) ≡ false → Walk text last p (c ∷ cs) turns →
    Along text (row ∷ rows) p (c ∷ cs) turns → MarkOn text row rows p c cs turns
mark-on text last row rows p c cs turns dark plain walk along = by on.size one on.fits on.along on.place on.same
  where
    byte : ByteOf text last p c cs turns
    byte = byte-of text last p c cs turns dark plain walk

    on : LineOn text row rows p c.after (c ∷ []) cs turns
    on =
        line-on text row rows p (c ∷ []) cs turns along walk.valid
        (on-line text last p (c ∷ []) cs turns (plain, tt) walk).steps byte.is.1.whole

    one : on.size ≡ 1
    one = let index = on.bytes byte.is.0 in let size = byte.is.1.size in omega (arith, index, size)

    apart : same_place p c.after ≡ false
    apart = let size = byte.is.1.size in grind (arith, nat_tests)

    by : (size : ℕ) → size ≡ 1 → size ≤ length row.rest.bytes →
        Along text (at row (past size row.rest) ∷ rows) c.after cs turns →
        place row.line (past size row.rest) ≡ c.after →
        is_same row.rest (past size row.rest) ≡ same_place p c.after → MarkOn text row rows p c cs turns
    by size e fits along_there there same =
        let one_there : place row.line (past 1 row.rest) ≡ c.after =
        subst (λ (k : ℕ). place row.line (past k row.rest) ≡ c.after) e there in
        let one_same : is_same row.rest (past 1 row.rest) ≡ false =
        subst (λ (k : ℕ). is_same row.rest (past k row.rest) ≡ same_place p c.after) e same ∙ apart in
        record {
          some = omega (arith, e, fits);
          along = subst (λ (k : ℕ). Along text (at row (past k row.rest) ∷ rows) c.after cs turns) e along_there;
          marks = λ name.
              ap (λ (t : Bool). cond t [] (part row.line name row.rest (past 1 row.rest) [])) one_same
              ∙ ap₂ (λ (a b : Point). around name a b [])
              (row-place text row rows p (c ∷ cs) turns along) one_there;
        }

-- A text part, none if it would be empty.

abbrev pub strung : Name → List Cell → Point → List Event
strung name [] p = []
strung name (c ∷ cs) p = around name p (point_after (c ∷ cs) p) (chunks false (c ∷ cs) p)

none-laid : (bs : List LineBreak) → laid bs [] ≡ []
none-laid [] = refl
none-laid (b ∷ bs) = refl

-- what no events are laid as, and some
taken-none : (text : List ℕ) (last p : Point) (turns : List Turn) (q : Point) (rest : List Cell) (left : List Turn)
    (fs : List Event) → Takes text last p turns q rest left [] fs → fs ≡ []
taken-none text last p turns q rest left fs takes =
    go fs (sym (none-laid (breaks takes.took ++ [])) ∙ takes.lays [] tt [])
  where
    go : (fs : List Event) → [] ≡ fs ++ [] → fs ≡ []
    go [] e = refl
    go (f ∷ fs) e = cc

pub record SomeEvents (fs : List Event) : Type 0 where
  pub first : Event
  pub others : List Event
  pub are : fs ≡ first ∷ others

taken-some : (text : List ℕ) (last p : Point) (turns : List Turn) (q : Point) (rest : List Cell) (left : List Turn)
    (es fs : List Event) → Takes text last p turns q rest left (enter_link n.Data p string_link ∷ es) fs →
    SomeEvents fs
taken-some text last p turns q rest left es fs takes = go (breaks takes.took ++ []) fs (takes.lays [] tt [])
  where
    go : (bs : List LineBreak) (fs : List Event) →
        laid bs (enter_link n.Data p string_link ∷ (es ++ [])) ≡ fs ++ [] → SomeEvents fs
    go bs (f ∷ fs) e = record { first = f; others = fs; are = refl }
    go [] [] e = cc
    go (b ∷ bs) [] e = cc

spanned-none : (name : Name) (rows ends : List Row) → row_chunks String rows ends ≡ [] →
    text_span String name rows ends ≡ []
spanned-none name rows ends e = rw e refl

spanned-some : (name : Name) (rows ends : List Row) → SomeEvents (row_chunks String rows ends) →
    text_span String name rows ends ≡ span name rows ends (row_chunks String rows ends)
spanned-some name rows ends some =
    let e = some.are in rw e refl

pub string-on : (text : List ℕ) (last p : Point) (cells : List Cell) (turns : List Turn) (rest : List Cell)
    (rows : List Row) (name : Name) → reaches name ≡ false → (point_after cells p).vs ≡ 0 →
    Along text rows p (cells ++ rest) turns → (t : TextOn text last p cells turns rest rows) →
    Takes text last p turns (point_after cells p) rest t.left (strung name cells p) (text_span String name rows t.ends)
string-on text last p [] turns rest rows name plain whole along t =
    let none = taken-none text last p turns p rest t.left (row_chunks String rows t.ends) t.takes in
    subst (Takes text last p turns p rest t.left []) (none ∙ sym (spanned-none name rows t.ends none)) t.takes
string-on text last p (c ∷ cs) turns rest rows name plain whole along t =
    subst (Takes text last p turns q rest t.left (strung name (c ∷ cs) p))
    (ap₂ (λ (a b : Point). around name a b (row_chunks String rows t.ends))
    (sym (rows-start text rows p (c ∷ cs ++ rest) turns along))
    (sym (rows-start text t.ends q rest t.left t.along))
    ∙ sym
    (spanned-some name rows t.ends
    (taken-some text last p turns q rest t.left inner (row_chunks String rows t.ends) t.takes)))
    (takes-around text last p turns q rest t.left (chunks false (c ∷ cs) p) (row_chunks String rows t.ends)
    (enter name p ∷ []) (exit name q ∷ []) (refl, tt) (plain, tt) t.takes (omega arith) (omega arith, tt)
    (omega arith, λ same. whole) (omega arith, tt))
  where
    q : Point
    q = point_after (c ∷ cs) p

    inner : List Event
    inner = cond (c.byte == 10) (exit n.Data c.after ∷ chunks false cs c.after) (chunks true cs c.after)

-- A text between two marks.

abbrev pub marked_events : Name → Name → Name → Point → Point → List Cell → Point → List Event
marked_events name marker string p a cells c =
    around name p c
    (pair marker p a ++ strung string cells a ++ pair marker (point_after cells a) c)

-- the closing mark
record CloseOn (text : List ℕ) (front ends : List Row) (b : Point) (k : Cell) (rest : List Cell) (left : List Turn) :
    Type 0 where
  end : Row
  more : List Row
  ends_are : ends ≡ end ∷ more
  along : Along text (at end (past 1 end.rest) ∷ more) k.after rest left
  ahead : Ahead front (end ∷ more)
  some : 1 ≤ length end.rest.bytes
  marks : (name : Name) → mark name (end ∷ more) ≡ pair name b k.after

close-on : (text : List ℕ) (last : Point) (front ends : List Row) (b : Point) (k : Cell) (rest : List Cell)
    (left : List Turn) → is_white k.byte ≡ false → (k.byte == 10) ≡ false → Walk text last b (k ∷ rest) left →
    Along text ends b (k ∷ rest) left → Ahead front ends → CloseOn text front ends b k rest left
close-on text last front [] b k rest left dark plain walk along ahead = absurd along
close-on text last front (end ∷ more) b k rest left dark plain walk along ahead =
    let m = mark-on text last end more b k rest left dark plain walk along in
    record {
      end = end;
      more = more;
      ends_are = refl;
      along = m.along;
      ahead = ahead;
      some = m.some;
      marks = m.marks;
    }

-- what a text between marks has of rows
pub record EnclosedOn (text : List ℕ) (last p : Point) (name marker string : Name) (o : Cell) (cells : List Cell)
    (k : Cell) (rest : List Cell) (turns : List Turn) (rows : List Row) : Type 0 where
  pub ends : List Row
  pub left : List Turn
  pub takes : Takes text last p turns k.after rest left (marked_events name marker string p o.after cells k.after)
      (enclosed_part name marker string rows ends)
  pub along : Along text ends k.after rest left
  pub ahead : Ahead rows ends

pub enclosed-on : (text : List ℕ) (last p : Point) (name marker string : Name) (o : Cell) (cells : List Cell)
    (k : Cell) (rest : List Cell) (turns : List Turn) (row : Row) (rows : List Row) →
    reaches name ≡ false → reaches marker ≡ false → reaches string ≡ false →
    is_white o.byte ≡ false → (o.byte == 10) ≡ false → is_white k.byte ≡ false → (k.byte == 10) ≡ false →
    Walk text last p (o ∷ (cells ++ (k ∷ rest))) turns → Along text (row ∷ rows) p (o ∷ (cells ++ (k ∷ rest))) turns →
    EnclosedOn text last p name marker string o cells k rest turns (row ∷ rows)
enclosed-on text last p name marker string o cells k rest turns row rows whole_name whole_marker whole_string dark plain
    shut flat walk along = go (close-on text last from t.ends b k rest t.left shut flat t.takes.walk t.along t.ahead)
  where
    a : Point
    a = o.after

    b : Point
    b = point_after cells a

    from : List Row
    from = at row (past 1 row.rest) ∷ rows

    marked : MarkedOf text last p o cells k rest turns
    marked = marked-of text last p o cells k rest turns dark plain shut flat walk

    whole : b.vs ≡ 0
    whole = marked.closes.0

    opener : MarkOn text row rows p o (cells ++ (k ∷ rest)) turns
    opener = mark-on text last row rows p o (cells ++ (k ∷ rest)) turns dark plain walk along

    opens : Takes text last p turns a (cells ++ (k ∷ rest)) turns [] []
    opens = marked.opener

    t : TextOn text last a cells turns (k ∷ rest) from
    t = text-of text last a cells (k ∷ rest) turns from opens.walk opener.along whole

    closes : ByteOf text last b k rest t.left
    closes = byte-of text last b k rest t.left shut flat t.takes.walk

    front : List Event
    front = enter name p ∷ pair marker p a

    back_marks : List Event
    back_marks = pair marker b k.after ++ exit name k.after ∷ []

    order : (es : List Event) →
        (front ++ es) ++ back_marks ≡ around name p k.after (pair marker p a ++ es ++ pair marker b k.after)
    order es =
        ap (λ (l : List Event). enter name p ∷ l)
        (sym (append_assoc (pair marker p a ++ es) (pair marker b k.after) (exit name k.after ∷ [])))

    inner : List Event
    inner = text_span String string from t.ends

    taken : Takes text last p turns k.after rest t.left (marked_events name marker string p a cells k.after)
        (around name p k.after (pair marker p a ++ inner ++ pair marker b k.after))
    taken =
        subst (λ (es : List Event). Takes text last p turns k.after rest t.left es
        (around name p k.after (pair marker p a ++ inner ++ pair marker b k.after))) (order (strung string cells a))
        (subst (Takes text last p turns k.after rest t.left ((front ++ strung string cells a) ++ back_marks))
        (order inner)
        (takes-then text last p turns b (k ∷ rest) t.left (front ++ strung string cells a) (front ++ inner) k.after rest
        t.left back_marks back_marks
        (takes-then text last p turns a (cells ++ (k ∷ rest)) turns front front b (k ∷ rest) t.left
        (strung string cells a) inner
        (takes-quiet text last p turns a (cells ++ (k ∷ rest)) turns front (refl, (refl, (whole_marker, tt))) opens refl
        (omega arith) (opens.index, (opens.index, (omega arith, tt))))
        (string-on text last a cells turns (k ∷ rest) from string whole_string whole opener.along t))
        (takes-quiet text last b t.left k.after rest t.left back_marks (refl, (whole_marker, (whole_name, tt)))
        closes.takes refl (omega arith) (closes.takes.index, (omega arith, (omega arith, tt))))))

    go : CloseOn text from t.ends b k rest t.left →
        EnclosedOn text last p name marker string o cells k rest turns (row ∷ rows)
    go close = record {
      ends = ends;
      left = t.left;
      takes =
          subst (Takes text last p turns k.after rest t.left (marked_events name marker string p a cells k.after))
          (sym events) taken;
      along = close.along;
      ahead = ahead-to (row ∷ rows) close.end close.more 1 close.some ahead;
    }
      where
        ends : List Row
        ends = at close.end (past 1 close.end.rest) ∷ close.more

        ahead : Ahead (row ∷ rows) (close.end ∷ close.more)
        ahead = ahead-from row rows (close.end ∷ close.more) 1 opener.some close.ahead

        events : enclosed_part name marker string (row ∷ rows) ends ≡
            around name p k.after (pair marker p a ++ inner ++ pair marker b k.after)
        events =
            ap
            (λ (l : List Row).
            span name (row ∷ rows) ends
            (mark marker (row ∷ rows) ++ text_span String string from l ++ mark marker l))
            (back-is (row ∷ rows) close.end close.more ahead close.some)
            ∙ ap
            (λ (l : List Event).
            span name (row ∷ rows) ends (l ++ text_span String string from (close.end ∷ close.more)
            ++ mark marker (close.end ∷ close.more))) (opener.marks marker)
            ∙ ap
            (λ (l : List Event).
            span name (row ∷ rows) ends (pair marker p a ++ text_span String string from (close.end ∷ close.more) ++ l))
            (close.marks marker)
            ∙ ap
            (λ (l : List Row).
            span name (row ∷ rows) ends
            (pair marker p a ++ text_span String string from l ++ pair marker b k.after)) (sym close.ends_are)
            ∙ ap₂ (λ (x y : Point). around name x y (pair marker p a ++ inner ++ pair marker b k.after))
            (row-place text row rows p (o ∷ (cells ++ (k ∷ rest))) turns along)
            (row-place text (at close.end (past 1 close.end.rest)) close.more k.after rest t.left close.along)

-- Labels.

pub record LabelOn (text : List ℕ) (last p : Point) (t : LabelParts) (turns : List Turn) (rows : List Row) :
    Type 0 where
  pub left : List Turn
  pub takes : Takes text last p turns t.closer.after t.rest left (label_events t p)
      (enclosed_part n.DefinitionLabel n.DefinitionLabelMarker n.DefinitionLabelString rows (after_label rows))
  pub along : Along text (after_label rows) t.closer.after t.rest left
  pub ahead : Ahead rows (after_label rows)

-- a label is found in rows where their cells begin with one
label-found : (text : List ℕ) (rows : List Row) (p : Point) (cells : List Cell) (turns : List Turn) (t : LabelParts) →
    Along text rows p cells turns → p.vs ≡ 0 → label_parts cells ≡ Some t →
    (ends : List Row) (left : List Turn) → Along text ends t.closer.after t.rest left → t.closer.after.vs ≡ 0 →
    Ahead rows ends → after_label rows ≡ ends
label-found text rows p cells turns t along whole e ends left following end ahead =
    ap (λ (o : Option Lines). elim o [ Some label ↦ Texts.left rows label.rest | None ↦ [] ])
    (ap label_at (sym (rows-lines text rows p cells turns along whole))
    ∙ label-lines p cells whole (rows-whole text rows p cells turns along) ∙ ap label_lines e)
    ∙ left-is rows ends (cell_lines false (whole_cells t.closer.after t.rest)) ahead
    (rows-lines text ends t.closer.after t.rest left following end)

label-strung : (cells : List Cell) (p : Point) → cells ≢ [] →
    strung n.DefinitionLabelString cells p ≡
    around n.DefinitionLabelString p (point_after cells p) (chunks false cells p)
label-strung [] p some = absurd (some refl)
label-strung (c ∷ cs) p some = refl

pub label-on : (text : List ℕ) (last p : Point) (cells : List Cell) (t : LabelParts) (turns : List Turn)
    (rows : List Row) → label_parts cells ≡ Some t → Walk text last p cells turns → Along text rows p cells turns →
    LabelOn text last p t turns rows
label-on text last p cells t turns [] e walk along = absurd along
label-on text last p cells t turns (row ∷ rows) e walk along = record {
  left = on.left;
  takes =
      subst
      (λ (l : List Row).
      Takes text last p turns c t.rest on.left (label_events t p)
      (enclosed_part n.DefinitionLabel n.DefinitionLabelMarker n.DefinitionLabelString (row ∷ rows) l)) (sym found)
      (subst
      (λ (l : List Event).
      Takes text last p turns c t.rest on.left
      (around n.DefinitionLabel p c
      (pair n.DefinitionLabelMarker p t.opener.after ++ l
      ++ pair n.DefinitionLabelMarker (point_after t.text t.opener.after) c))
      (enclosed_part n.DefinitionLabel n.DefinitionLabelMarker n.DefinitionLabelString (row ∷ rows) on.ends))
      (label-strung t.text t.opener.after are.some) on.takes);
  along = subst (λ (l : List Row). Along text l c t.rest on.left) (sym found) on.along;
  ahead = subst (Ahead (row ∷ rows)) (sym found) on.ahead;
}
  where
    c : Point
    c = t.closer.after

    are : LabelAre cells t
    are = label-are cells t e

    opens : t.opener.byte ≡ 91
    opens = are.opens

    closes : t.closer.byte ≡ 93
    closes = are.closes

    walked : Walk text last p (t.opener ∷ (t.text ++ (t.closer ∷ t.rest))) turns
    walked = subst (λ (l : List Cell). Walk text last p l turns) are.cells_are walk

    here : Along text (row ∷ rows) p (t.opener ∷ (t.text ++ (t.closer ∷ t.rest))) turns
    here = subst (λ (l : List Cell). Along text (row ∷ rows) p l turns) are.cells_are along

    on : EnclosedOn text last p n.DefinitionLabel n.DefinitionLabelMarker n.DefinitionLabelString t.opener t.text
        t.closer t.rest turns (row ∷ rows)
    on =
        enclosed-on text last p n.DefinitionLabel n.DefinitionLabelMarker n.DefinitionLabelString t.opener t.text
        t.closer t.rest turns row rows refl refl refl (rw opens refl) (rw opens refl) (rw closes refl) (rw closes refl)
        walked here

    marked : MarkedOf text last p t.opener t.text t.closer t.rest turns
    marked =
        marked-of text last p t.opener t.text t.closer t.rest turns (rw opens refl) (rw opens refl) (rw closes refl)
        (rw closes refl) walked

    found : after_label (row ∷ rows) ≡ on.ends
    found =
        label-found text (row ∷ rows) p cells turns t along marked.opens.0 e on.ends on.left on.along
        marked.closes.1.whole on.ahead
