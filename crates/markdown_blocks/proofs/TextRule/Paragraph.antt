-- A paragraph: what is left at its first state of the lines of a text.
use Rattle.std.proofs.Common.{◌≡◌, ℕ, zero, suc, Bool, true, false, cond, ◌&&◌, List, [], ◌∷◌, ◌++◌, length, refl}
use Rattle.std.proofs.Common.{sym, ap, ap₂, ◌∙◌, subst, arith, append-nil, append_assoc}
use Rattle.std.specs.Prelude.{◌==◌}
use Rattle.std.proofs.lemmas.Bool.Decides.{nat_tests}
use Rattle.md_content.proofs.DefinitionsMeaning.{paragraph-whole}
use Rattle.md_content.specs.Paragraph.{text_link}
use Rattle.md_content.specs.ParagraphRule.{line_events, paragraph_at, paragraph_over}
use Rattle.md_engine.specs.declared.event.Content.TheVariants.{Text}
use Rattle.md_engine.specs.declared.event.Event.{Event}
use Rattle.md_engine.specs.declared.event.Name.TheVariants as n
use Rattle.md_engine.specs.declared.event.Point.{Point}
use Rattle.md_engine.specs.Meaning.{Cell, Here}
use Rattle.md_events.proofs.FeedLines.{NoFeed, point_after-append, tab_end, tab_end-stop}
use Rattle.md_events.proofs.RestCells.{Cut, past_cut, rest-end, rest_cells}
use Rattle.md_events.specs.Ahead.{point_after}
use Rattle.md_events.specs.Events.Nested.{around, enter, enter_link, exit}
use Rattle.md_events.specs.Events.Places.{past_text}
use Rattle.md_events.specs.Exact.Leaves.{start}
use Rattle.md_events.specs.Exact.Places.{chunk, is_same, line_end, next_line, place}
use Rattle.md_events.specs.Exact.Rows.{Row}
use Rattle.md_events.specs.Exact.Texts.{chunks, remaining, text_span}
use Rattle.md_meaning.specs.Rest.{cut_tab, is_blank}
use Rattle.markdown_blocks.specs.TextRule.{IsParagraphTaken, breaks_of, no_line}
use Rattle.markdown_blocks.proofs.TextRule.Lines.{AreFilled, AreNext, NextLine, breaks-are, lays-all, next-line}
use Rattle.proof_content_laws.proofs.Defined.Along.{Turn, breaks}
use Rattle.proof_content_laws.proofs.Defined.Takes.{Walk, laid-quiet}
use Rattle.proof_exact_lines.proofs.Along.{Along, Begins, row-place, row-plain}
use Rattle.proof_exact_lines.proofs.LeafLines.{ends-at}
use Rattle.proof_exact_lines.proofs.OnLine.{on-begins}
use Rattle.proof_exact_lines.proofs.TextLines.{at_end, last-end, last_of}
use Rattle.proof_frame.specs.Laid.{LineBreak, laid}

-- Where its last line ends.

line-end : (text : List ℕ) (row : Row) (p : Point) → Begins text row p →
    point_after (rest_cells no_line row.rest p) p ≡ place row.line (line_end row.line)
line-end text row p is =
    rest-end no_line row.rest p (let column = is.on.valid.column in omega arith)
    ∙ go row.rest.spaces is.on.valid.cut
    ∙ sym (ends-at row.line row.rest p (on-begins text is.following row.line row.rest p is.line_in is.on))
  where
    go : (n : ℕ) → Cut n p →
        past_text row.rest.bytes (past_cut n p) ≡ past_text (cut_tab n ++ row.rest.bytes) p
    go zero cut = refl
    go (suc n) cut =
        ap (past_text row.rest.bytes)
        (ap (λ (m : ℕ). tab_end m p) cut.1
        ∙ tab_end-stop p (let column = is.on.valid.column in omega arith))

text-end : (text : List ℕ) (row : Row) (rows : List Row) (p : Point) (cells : List Cell) (turns : List Turn) →
    Along text (row ∷ rows) p cells turns →
    let last = last_of row rows in point_after cells p ≡ place last.line (line_end last.line)
text-end text row [] p cells turns h =
    ap (λ (l : List Cell). point_after l p)
    (h.cells_are ∙ ap (λ (l : List Cell). rest_cells no_line row.rest p ++ l) h.following.0
    ∙ append-nil (rest_cells no_line row.rest p))
    ∙ line-end text row p h.begins
text-end text row (next ∷ rows) p cells turns h =
    let o = h.following in
    ap (λ (l : List Cell). point_after l p)
    (h.cells_are ∙ ap (λ (l : List Cell). rest_cells no_line row.rest p ++ l) o.stop_is)
    ∙ point_after-append (rest_cells no_line row.rest p) (o.d ∷ o.more) p
    ∙ text-end text next rows o.d.after o.more o.left o.along

-- Its lines, by cells.

line-stop : (cells : List Cell) (p : Point) → NoFeed cells →
    line_events cells p ≡ exit n.Data (point_after cells p) ∷ []
line-stop [] p none = refl
line-stop (c ∷ cs) p none = rw none.0 (line-stop cs c.after none.1)

line-ending : (cells : List Cell) (d : Cell) (ds : List Cell) (p : Point) → NoFeed cells → (d.byte == 10) ≡ true →
    line_events (cells ++ d ∷ ds) p ≡
    exit n.Data d.after ∷ enter_link n.Data d.after text_link ∷ line_events ds d.after
line-ending [] d ds p none ten = rw ten refl
line-ending (c ∷ cs) d ds p none ten = rw none.0 (line-ending cs d ds c.after none.1 ten)

-- its last line is not empty
last-some : (row : Row) → is_blank row.rest.bytes ≡ false → is_same row.rest (line_end row.line) ≡ false
last-some row filled = go row.rest.bytes filled
  where
    go : (bytes : List ℕ) → is_blank bytes ≡ false →
        ((length bytes == length {A = ℕ} []) && (row.rest.spaces == 0)) ≡ false
    go [] e = cc
    go (b ∷ bs) e =
        let some : (suc (length bs) == 0) ≡ false = grind (arith, nat_tests) in
        ap (λ (t : Bool). t && (row.rest.spaces == 0)) some

-- What is added, in the places of the lines.
paragraph-lines : (text : List ℕ) (last p : Point) (row : Row) (rows : List Row) (cells : List Cell)
    (turns : List Turn) (more : List Event) → Walk text last p cells turns → Along text (row ∷ rows) p cells turns →
    AreFilled (row ∷ rows) →
    laid (breaks turns) (enter_link n.Data p text_link ∷ line_events cells p ++ more) ≡
    chunks Text (row ∷ rows) (at_end (last_of row rows) ∷ []) ++ more
paragraph-lines text last p row [] cells turns more walk h filled =
    ap (λ (l : List Turn). laid (breaks l) (enter_link n.Data p text_link ∷ line_events cells p ++ more)) h.following.1
    ∙ ap (λ (l : List Cell). enter_link n.Data p text_link ∷ line_events l p ++ more) here
    ∙ ap (λ (l : List Event). enter_link n.Data p text_link ∷ l ++ more)
    (line-stop (rest_cells no_line row.rest p) p (row-plain text row p h.begins))
    ∙ ap₂ (λ (a b : Point). enter_link n.Data a text_link ∷ exit n.Data b ∷ more)
    (sym (row-place text row [] p cells turns h)) (line-end text row p h.begins)
    ∙ ap
    (λ (t : Bool).
    cond t [] (chunk Text (place row.line row.rest) (place row.line (line_end row.line))) ++ more)
    (sym (last-some row filled.0))
  where
    here : cells ≡ rest_cells no_line row.rest p
    here =
        h.cells_are ∙ ap (λ (l : List Cell). rest_cells no_line row.rest p ++ l) h.following.0
        ∙ append-nil (rest_cells no_line row.rest p)
paragraph-lines text last p row (next ∷ rows) cells turns more walk h filled =
    laid-quiet (breaks turns) (begin ∷ []) (line_events cells p ++ more) (refl, tt)
    ∙ ap (λ (l : List Event). begin ∷ laid (breaks turns) (l ++ more))
    (ap (λ (l : List Cell). line_events l p) on.here
    ∙ line-ending xs on.d on.ds p (row-plain text row p h.begins) on.ten)
    ∙ ap (λ (l : List Event). begin ∷ l)
    (lays-all text last p turns on.d.after on.ds on.left (exit n.Data on.d.after ∷ []) front rest on.takes)
    ∙ ap (λ (l : List Event). begin ∷ (front ++ l))
    (paragraph-lines text last on.d.after next rows on.ds on.left more on.takes.walk on.along filled.1)
    ∙ ap
    (λ (l : List Event).
    begin ∷ (l ++ (chunks Text (next ∷ rows) (at_end (last_of next rows) ∷ []) ++ more)))
    (ap₂ (λ (a : Point) (es : List Event). exit n.Data a ∷ es) on.after on.front)
    ∙ ap
    (λ (a : Point).
    enter_link n.Data a text_link
    ∷ exit n.Data (next_line row.line) ∷ (next.front ++ (chunks Text (next ∷ rows) (end ∷ []) ++ more)))
    (sym (row-place text row (next ∷ rows) p cells turns h))
    ∙ ap (λ (l : List Event). enter_link n.Data (place row.line row.rest) text_link ∷ exit n.Data (next_line row.line) ∷ l)
    (sym (append_assoc next.front (chunks Text (next ∷ rows) (end ∷ [])) more))
    ∙ ap
    (λ (t : Bool).
    cond t
    (cond (is_same row.rest end.rest) [] (chunk Text (place row.line row.rest) (place end.line end.rest)))
    (chunk Text (place row.line row.rest) (next_line row.line) ++ next.front
    ++ chunks Text (next ∷ rows) (end ∷ [])) ++ more)
    (sym several)
  where
    on : NextLine text last p row next rows cells turns
    on = next-line text last p row next rows cells turns walk h

    begin : Event
    begin = enter_link n.Data p text_link

    end : Row
    end = at_end (last_of next rows)

    xs : List Cell
    xs = rest_cells no_line row.rest p

    front : List Event
    front = exit n.Data on.turn.break.after ∷ on.turn.break.front

    rest : List Event
    rest = enter_link n.Data on.d.after text_link ∷ line_events on.ds on.d.after ++ more

    several : (suc (length rows) == 0) ≡ false
    several = grind (arith, nat_tests)

-- a text part that is not empty
span-some : (rows ends : List Row) (e : Event) (es : List Event) → chunks Text rows ends ≡ e ∷ es →
    text_span Text n.Paragraph rows ends ≡ around n.Paragraph (start rows) (start ends) (e ∷ es)
span-some rows ends e es h = rw h refl

-- the chunks of lines that are not blank begin with one
first-chunk : (row : Row) (rows : List Row) → AreFilled (row ∷ rows) →
    (e : Event) × (es : List Event) × (chunks Text (row ∷ rows) (at_end (last_of row rows) ∷ []) ≡ e ∷ es)
first-chunk row [] filled =
    let p = place row.line row.rest in let q = place row.line (line_end row.line) in (
      enter_link n.Data p text_link,
      exit n.Data q ∷ [],
      ap (λ (t : Bool). cond t [] (chunk Text p q)) (last-some row filled.0),
    )
first-chunk row (next ∷ rows) filled = (
  enter_link n.Data (place row.line row.rest) text_link,
  exit n.Data (next_line row.line) ∷ next.front ++ chunks Text (next ∷ rows) (at_end (last_of next rows) ∷ []),
  ap
      (λ (t : Bool).
      cond t
      (cond (is_same row.rest (line_end (last_of next rows).line)) []
      (chunk Text (place row.line row.rest) (place (last_of next rows).line (line_end (last_of next rows).line))))
      (chunk Text (place row.line row.rest) (next_line row.line) ++ next.front
      ++ chunks Text (next ∷ rows) (at_end (last_of next rows) ∷ [])))
      several,
)
  where
    several : (suc (length rows) == 0) ≡ false
    several = grind (arith, nat_tests)

paragraph-is : (text : List ℕ) (row : Row) (rows : List Row) (p : Point) (cells : List Cell) →
    (is : AreNext text (row ∷ rows) p cells) →
    laid (breaks_of (row ∷ rows)) (paragraph_over cells p) ≡ remaining [] (row ∷ rows)
paragraph-is text row rows p cells is =
    ap (λ (l : List LineBreak). laid l (paragraph_over cells p))
    (breaks-are text (row ∷ rows) p cells is.turns is.along)
    ∙ laid-quiet (breaks is.turns) (enter n.Paragraph p ∷ [])
    (enter_link n.Data p text_link ∷ line_events cells p ++ exit n.Paragraph (point_after cells p) ∷ []) (refl, tt)
    ∙ ap (λ (l : List Event). enter n.Paragraph p ∷ l)
    (paragraph-lines text is.last p row rows cells is.turns (exit n.Paragraph (point_after cells p) ∷ []) is.walk
    is.along is.filled)
    ∙ ap₂
    (λ (a b : Point). around n.Paragraph a b (chunks Text (row ∷ rows) ends))
    (sym (row-place text row rows p cells is.turns is.along))
    (text-end text row rows p cells is.turns is.along)
    ∙ ap (around n.Paragraph (place row.line row.rest) (start ends)) first.2
    ∙ sym (span-some (row ∷ rows) ends first.0 first.1 first.2)
    ∙ ap (text_span Text n.Paragraph (row ∷ rows)) (sym (last-end row rows))
  where
    ends : List Row
    ends = at_end (last_of row rows) ∷ []

    first : (e : Event) × (es : List Event) × (chunks Text (row ∷ rows) ends ≡ e ∷ es)
    first = first-chunk row rows is.filled

-- What is left at its first state.
pub paragraph-left : (text : List ℕ) (rows : List Row) (cells : List Cell) (h : Here) → AreNext text rows h.point cells →
    IsParagraphTaken rows h (paragraph_at cells h)
paragraph-left text [] cells h is = absurd is.along
paragraph-left text (row ∷ rows) cells h is =
    subst (IsParagraphTaken (row ∷ rows) h) (sym (paragraph-whole cells h))
    (record {
      events = paragraph_over cells h.point;
      are = paragraph-is text row rows h.point cells is;
      to = record h { events = h.events ++ paragraph_over cells h.point; point = point_after cells h.point };
      accepts = refl;
      added = refl;
      point =
          text-end text row rows h.point cells is.turns is.along
          ∙ sym (ap (λ (l : List Row). start l) (last-end row rows));
    })
