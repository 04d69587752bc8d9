-- The lines of a text: its definitions, and what remains, have by the exact list the events that they have by their
-- rows.
use Rattle.std.proofs.Common.{◌≡◌, ℕ, zero, suc, ◌+◌, ◌^◌, ◌<◌, Bool, true, false, cond, List, []}
use Rattle.std.proofs.Common.{◌∷◌, ◌++◌, length, take, drop, refl, sym, ap, ap₂, ◌∙◌, subst, arith, append_assoc}
use Rattle.std.proofs.Common.{append-nil, Option, Some, None}
use Rattle.std.specs.Prelude.{if◌then◌else◌}
use Rattle.std.specs.Option.{is_some}
use Rattle.std.proofs.lemmas.List.{length-append, length-take-le, take-append-drop, take_at}
use Rattle.md_engine.specs.declared.configuration.ParseOptions.{ParseOptions}
use Rattle.md_engine.specs.declared.event.Event.{Event}
use Rattle.md_engine.specs.declared.event.Name.TheVariants as n
use Rattle.md_engine.specs.declared.event.Point.{Point}
use Rattle.md_engine.specs.Meaning.{Cell}
use Rattle.md_meaning.specs.Bytes.{is_end}
use Rattle.md_meaning.specs.Definition.{Cut, definition_at}
use Rattle.md_meaning.specs.Rest.{Rest, after_indent}
use Rattle.md_meaning.proofs.TextsLemmas.{NoEnding}
use Rattle.md_link_definitions.specs.DefinitionRule.{DefinitionParts, definition_end, definition_events}
use Rattle.md_link_definitions.specs.DefinitionRule.{definition_parts, definition_rest}
use Rattle.md_events.specs.Events.Nested.{pair}
use Rattle.md_events.proofs.FeedLines.{cell}
use Rattle.md_events.proofs.InlineLemmas.{past-index}
use Rattle.md_events.proofs.RestCells.{rest_cells}
use Rattle.proof_frame.specs.Laid.{LineBreak, laid}
use Rattle.proof_frame.specs.LineColumns.{rest_of}
use Rattle.proof_frame.specs.RestLine.{rest_line}
use Rattle.proof_frame.specs.Row.{Row as FrameRow, after_row, ending_events, last_row}
use Rattle.proof_frame.proofs.IndentRemoved.Columns.{rest-again}
use Rattle.proof_frame.proofs.LeafLines.Cuts.{ending-is}
use Rattle.proof_content_laws.specs.Defined.{defined_unread}
use Rattle.proof_content_laws.proofs.Defined.Along.{Turn, breaks, no_line}
use Rattle.proof_content_laws.proofs.Defined.Takes.{Walk, over-end}
use Rattle.proof_content_laws.proofs.Defined.Takes as Line
use Rattle.proof_rows.specs.Rows.{after_cut, cut_at_most, cut_by, further_lines, lines_cells}
use Rattle.proof_rows.proofs.ContentCut.{lines-split}
use Rattle.proof_rows.proofs.Defined.Cells.{lines-are, lines-walk, lines_are, turns_of, uncut-no_ending}
use Rattle.proof_rows.proofs.Defined.Cut.{IsAfter, IsCut, Taken, lines-cut, taken}
use Rattle.proof_rows.proofs.GroupLemmas.{row-line}
use Rattle.proof_rows.proofs.GroupLines.{AreLines}
use Rattle.proof_rows.proofs.JoinedLemmas.{following-is}
use Rattle.proof_rows.proofs.RowFacts.{IsRow}
use Rattle.proof_rows.proofs.Text.Reads.{none-found}
use Rattle.md_events.specs.Exact.Leaves.{onto_next}
use Rattle.md_events.specs.Exact.Places.{ending, line_end, next_line, past, place}
use Rattle.md_events.specs.Exact.Rows.{Row}
use Rattle.md_events.specs.Exact.Texts as Texts
use Rattle.md_events.specs.Exact.Texts.{definition, gap, lines_left, on_first, text_events}
use Rattle.proof_exact_pieces.proofs.OnLine.{LineIn, OnLine}
use Rattle.proof_exact_lines.proofs.BeginsAt.{BeginsAt, rest_bytes}
use Rattle.proof_exact_lines.proofs.LeafLines.{end_at, ends-at}
use Rattle.proof_exact_lines.proofs.OnLine.{begins-again, on-begins}
use Rattle.proof_exact_lines.proofs.Spans.{SameLine}
use Rattle.proof_exact_lines.proofs.TextLines.{AreTexts, first-line}
use Rattle.proof_exact_lines.proofs.Ahead.{at}
use Rattle.proof_exact_lines.proofs.Along.{Along, Begins}
use Rattle.proof_exact_lines.proofs.Definitions.{DefinitionOn, definition-found, definition-on}
use Rattle.proof_exact_lines.proofs.Strands.{NextOn, next-on}

-- The same lines.

-- a line of a text is where its row does
pub record IsAt (text : List ℕ) (x : Row) (r : FrameRow) : Type 0 where
  pub following : List ℕ
  pub line_in : LineIn text following x.line
  pub on : OnLine text following x.line x.rest r.first

abbrev pub AreAt : List ℕ → Row → List Row → FrameRow → List FrameRow → Type 0
AreAt text x [] r [] = IsAt text x r
AreAt text x (y ∷ ys) r (next ∷ rs) = IsAt text x r × AreAt text y ys next rs
AreAt text x _ r _ = ⊥

-- where it ends there too its rest is that of the row
same-front : (a b c d : List ℕ) → length a ≡ length b → a ++ c ≡ b ++ d → a ≡ b
same-front a b c d size e =
    sym (take_at a c (length a) refl) ∙ ap (take (length a)) e ∙ take_at b d (length a) (sym size)

rest-is : (options : ParseOptions) (text line : List ℕ) (x : Row) (r : FrameRow) → (is : IsRow options text line r) →
    IsAt text x r → place x.line (line_end x.line) ≡ r.end → x.rest ≡ is.rest
rest-is options text line x r is here end =
    sym (begins-again x.line x.rest r.first begins) ∙ ap (rest_of r.first) bytes
    ∙ rest-again text (drop r.end.index text) is.rest r.first
    (record { column = is.column; cut = is.cut; text_is = own })
  where
    begins : BeginsAt x.line x.rest r.first
    begins = on-begins text here.following x.line x.rest r.first here.line_in here.on

    own : drop r.first.index text ≡ rest_line is.rest ++ drop r.end.index text
    own = row-line options text line r is ∙ ap (λ (l : List ℕ). l ++ drop r.end.index text) is.line_is

    size : length (rest_bytes x.rest) ≡ length (rest_line is.rest)
    size =
        let index : (end_at x.rest r.first).index ≡ r.end.index =
        ap (λ (q : Point). q.index) (sym (ends-at x.line x.rest r.first begins) ∙ end) in
        let first : (end_at x.rest r.first).index ≡ r.first.index + length (rest_bytes x.rest) =
        past-index (rest_bytes x.rest) r.first in
        let bytes : length line ≡ length (rest_line is.rest) = ap (λ (l : List ℕ). length l) is.line_is in
        let all = is.size in
        omega (arith, index, first, all, bytes)

    bytes : rest_bytes x.rest ≡ rest_line is.rest
    bytes =
        same-front (rest_bytes x.rest) (rest_line is.rest) here.following (drop r.end.index text) size
        (sym here.on.valid.text_is ∙ own)

begins-is : (options : ParseOptions) (text line : List ℕ) (x : Row) (r : FrameRow) → (is : IsRow options text line r) →
    IsAt text x r → x.rest ≡ is.rest → Begins text x r.first
begins-is options text line x r is here same = record {
  following = here.following;
  line_in = here.line_in;
  on = here.on;
  plain =
      subst (λ (s : Rest). NoEnding s.bytes) (sym same)
      (uncut-no_ending is.rest.spaces is.rest.bytes (subst NoEnding is.line_is is.no_ending));
}

-- it has an ending where its row has one
some-ending : (x : Row) (r : FrameRow) (q : Point) → SameLine x r → r.after ≡ Some q → is_end x.line.ending ≡ false
some-ending x r q line after = go (is_end x.line.ending) refl
  where
    recorded : ending n.LineEnding x.line ≡ pair n.LineEnding r.end q
    recorded = line.ending n.LineEnding ∙ ending-is n.LineEnding r q after

    go : (t : Bool) → is_end x.line.ending ≡ t → t ≡ false
    go true e =
        let none : ending n.LineEnding x.line ≡ [] =
        ap (λ (t : Bool). cond t [] (pair n.LineEnding (place x.line (line_end x.line)) (next_line x.line))) e in
        let no : [] ≡ pair n.LineEnding r.end q = sym none ∙ recorded in
        cc
    go false e = refl

-- So these lines are where the cells of the rows do.
pub along-are : (options : ParseOptions) (text : List ℕ) (x : Row) (xs : List Row) (r : FrameRow) (rs : List FrameRow) →
    (h : AreLines options text r rs) → AreAt text x xs r rs → AreTexts x xs r rs →
    Along text (x ∷ xs) r.first (lines_are options text r rs h) (turns_of options text r rs)
along-are options text x [] r [] h here are =
    let same = rest-is options text h.0 x r h.1 here are.end in
    record {
      begins = begins-is options text h.0 x r h.1 here same;
      stop = [];
      cells_are =
          ap (λ (s : Rest). rest_cells no_line s r.first) (sym same)
          ∙ sym (append-nil (rest_cells no_line x.rest r.first));
      following = (refl, refl);
    }
along-are options text x (y ∷ ys) r (next ∷ rs) h here are =
    let same = rest-is options text h.0 x r h.1 here.0 are.0.end in
    let c = cell 10 next.first no_line in
    let more = lines_are options text next rs h.7 in
    record {
      begins = begins-is options text h.0 x r h.1 here.0 same;
      stop = c ∷ more;
      cells_are = ap (λ (s : Rest). rest_cells no_line s r.first ++ c ∷ more) (sym same);
      following = record {
        d = c;
        more = more;
        turn = record {
          end = r.end;
          break = record { after = after_row r; front = next.front };
          first = next.first;
          cells = lines_cells options text next rs;
        };
        left = turns_of options text next rs;
        stop_is = refl;
        ten = refl;
        turns_are = refl;
        ends = some-ending x r h.3 are.0 h.4;
        after = sym are.1;
        front = sym (first-line y ys next rs are.2).front;
        along = along-are options text y ys next rs h.7 here.1 are.2;
      };
    }
along-are options text x [] r (next ∷ rs) h here are = absurd are
along-are options text x (y ∷ ys) r [] h here are = absurd are

-- after the first of them are as many as there are turns
along-length : (text : List ℕ) (x : Row) (xs : List Row) (p : Point) (cells : List Cell) (turns : List Turn) →
    Along text (x ∷ xs) p cells turns → length xs ≡ length turns
along-length text x [] p cells turns h = sym (ap (λ (l : List Turn). length l) h.following.1)
along-length text x (y ∷ ys) p cells turns h =
    let o = h.following in
    let more = along-length text y ys o.d.after o.more o.left o.along in
    let size = ap (λ (l : List Turn). length l) o.turns_are in
    omega (arith, more, size)

turns-length : (options : ParseOptions) (text : List ℕ) (r : FrameRow) (rs : List FrameRow) →
    length (turns_of options text r rs) ≡ length rs
turns-length options text r [] = refl
turns-length options text r (next ∷ rs) = let more = turns-length options text next rs in omega (arith, more)

-- The lines of a definition.

-- what holds of lines holds of those after so many
abbrev pub Relation : Type 1
Relation = Row → List Row → FrameRow → List FrameRow → Type 0

abbrev pub IsKept : Relation → Type 0
IsKept Agree =
    (x y : Row) (ys : List Row) (r next : FrameRow) (rs : List FrameRow) → Agree x (y ∷ ys) r (next ∷ rs) →
    Agree y ys next rs

agree-following : (Agree : Relation) → IsKept Agree → (x : Row) (passed : List Row) (y : Row) (ys : List Row)
    (r : FrameRow) (own : List FrameRow) (next : FrameRow) (rs : List FrameRow) → length passed ≡ length own →
    Agree x (passed ++ y ∷ ys) r (own ++ next ∷ rs) → Agree y ys next rs
agree-following Agree kept x [] y ys r [] next rs e h = kept x y ys r next rs h
agree-following Agree kept x (p ∷ ps) y ys r (o ∷ os) next rs e h =
    agree-following Agree kept p ps y ys o os next rs (omega (arith, e))
    (kept x p (ps ++ y ∷ ys) r o (os ++ next ∷ rs) h)
agree-following Agree kept x [] y ys r (o ∷ os) next rs e h = absurd (omega (arith, e))
agree-following Agree kept x (p ∷ ps) y ys r [] next rs e h = absurd (omega (arith, e))

-- Lines of the exact list and rows that may follow one another in a text.
record Valid (options : ParseOptions) (text : List ℕ) (Agree : Relation) (x : Row) (xs : List Row) (r : FrameRow)
    (rs : List FrameRow) : Type 0 where
  lines : AreLines options text r rs
  along : Along text (x ∷ xs) r.first (lines_cells options text r rs) (turns_of options text r rs)
  agree : Agree x xs r rs

-- what they have is the same
abbrev Same : ParseOptions → List ℕ → Relation → (List Row → List Event) → (FrameRow → List FrameRow → List Event) →
    Type 0
Same options text Agree before more =
    (x : Row) (xs : List Row) (r : FrameRow) (rs : List FrameRow) → Valid options text Agree x xs r rs →
    before (x ∷ xs) ≡ more r rs

-- After a definition: nothing, or the ending of its line and the other lines.
module _ (options : ParseOptions) (text : List ℕ) (Agree : Relation) (kept : IsKept Agree)
    (before : List Row → List Event) (none : before [] ≡ []) (more : FrameRow → List FrameRow → List Event)
    (same : Same options text Agree before more) where
  -- the lines after its last line, by the cells and turns after it
  following-step : (last : Point) (d : DefinitionParts) (x : Row) (passed : List Row) (end : Row) (others : List Row)
      (size : ℕ) (left : List Turn) (r : FrameRow) (own below : List FrameRow) →
      Walk text last (definition_end d) (definition_rest d) left →
      Along text (at end (past size end.rest) ∷ others) (definition_end d) (definition_rest d) left →
      place end.line (line_end end.line) ≡ definition_end d → definition_end d ≡ (last_row r own).end →
      left ≡ turns_of options text (last_row r own) below → IsAfter options text d below →
      AreLines options text r (own ++ below) → length passed ≡ length own →
      Agree x (passed ++ others) r (own ++ below) →
      onto_next (end ∷ others) ++ before others ≡ after_cut more (last_row r own) below
  following-step last d x passed end [] size left r own [] walk along at_end ends are rest lines few agree = none
  following-step last d x passed end (y ∷ ys) size left r own [] walk along at_end ends are rest lines few agree =
      let o = along.following in let bad : [] ≡ o.turn ∷ o.left = sym are ∙ o.turns_are in cc
  following-step last d x passed end others size left r own (next ∷ below) walk along at_end ends are rest lines few
      agree =
      by others
      (next-on text (at end (past size end.rest)) others z z [] c cs left over.left tt refl here over.turn) agree
    where
      z : Point
      z = definition_end d

      c : Cell
      c = cell 10 next.first rest.0

      cs : List Cell
      cs = lines_cells options text next below

      here : Along text (at end (past size end.rest) ∷ others) z (c ∷ cs) left
      here = subst (λ (l : List Cell). Along text (at end (past size end.rest) ∷ others) z l left) rest.1 along

      over : Line.OverEnd text last z c cs left n.LineEnding
      over =
          over-end text last z c cs left n.LineEnding refl refl
          (subst (λ (l : List Cell). Walk text last z l left) rest.1 walk)

      f : FrameRow
      f = last_row r own

      split : AreLines options text f (next ∷ below)
      split = lines-split options text r own next below lines

      t : Turn
      t = record {
        end = f.end;
        break = record { after = after_row f; front = next.front };
        first = next.first;
        cells = cs;
      }

      both : over.turn.turn ∷ over.left ≡ t ∷ turns_of options text next below
      both = sym over.turn.turns_are ∙ are

      turn_is : over.turn.turn ≡ t
      turn_is = head both
        where
          head : over.turn.turn ∷ over.left ≡ t ∷ turns_of options text next below → over.turn.turn ≡ t
          head e = cc

      left_is : over.left ≡ turns_of options text next below
      left_is = rest_of_turns both
        where
          rest_of_turns : over.turn.turn ∷ over.left ≡ t ∷ turns_of options text next below →
              over.left ≡ turns_of options text next below
          rest_of_turns e = cc

      by : (others : List Row) →
          NextOn text (at end (past size end.rest)) others c cs over.turn.turn over.left →
          Agree x (passed ++ others) r (own ++ next ∷ below) →
          onto_next (end ∷ others) ++ before others ≡ after_cut more f (next ∷ below)
      by others on agree =
          ap (λ (l : List Row). onto_next (end ∷ l) ++ before l) on.rows_are
          ∙ ap₂ (λ (es fs : List Event). es ++ fs) onto
          (same on.next on.further next below (record {
            lines = split.7;
            along = subst (Along text (on.next ∷ on.further) next.first cs) left_is on.along;
            agree =
                agree-following Agree kept x passed on.next on.further r own next below few
                (subst (λ (l : List Row). Agree x (passed ++ l) r (own ++ next ∷ below)) on.rows_are agree);
          }))
        where
          after : next_line end.line ≡ split.3
          after =
              sym on.after ∙ ap (λ (u : Turn). u.break.after) turn_is ∙ following-is f split.3 split.4

          front : on.next.front ≡ next.front
          front = sym on.front ∙ ap (λ (u : Turn). u.break.front) turn_is

          onto : onto_next (end ∷ on.next ∷ on.further) ≡ ending_events n.LineEnding f ++ next.front
          onto =
              ap₂ (λ (es fs : List Event). es ++ fs)
              (ap (λ (b : Bool). cond b []
              (pair n.LineEnding (place end.line (line_end end.line)) (next_line end.line)))
              on.ends
              ∙ ap₂ (λ (p q : Point). pair n.LineEnding p q) (at_end ∙ ends) after
              ∙ sym (ending-is n.LineEnding f split.3 split.4)) front

  -- a definition before lines
  definition-step : length text < 2 ^ 61 → (x : Row) (xs : List Row) (r : FrameRow) (rs : List FrameRow)
      (d : DefinitionParts) →
      Valid options text Agree x xs r rs → definition_parts (lines_cells options text r rs) ≡ Some d →
      let first = on_first after_indent (x ∷ xs) in
      let end = Texts.definition_end first in
      let k = further_lines d r in
      gap (x ∷ xs) first ++ definition first ++ onto_next end ++ before (drop 1 end) ≡
      defined_unread d r (take k rs) ++ after_cut more (last_row r (take k rs)) (drop k rs)
  definition-step small x xs r rs d valid e =
      ap (λ (l : List Row). (events ++ onto_next l) ++ before (drop 1 l)) on.end_is
      ∙ append_assoc events (onto_next (on.end ∷ on.more)) (before on.more)
      ∙ subst
      (λ (k : ℕ).
      events ++ (onto_next (on.end ∷ on.more) ++ before on.more) ≡
      defined_unread d r (take k rs) ++ after_cut more (last_row r (take k rs)) (drop k rs)) (sym count)
      (ap₂ (λ (es fs : List Event). es ++ fs) (sym unread) following)
    where
      cells : List Cell
      cells = lines_cells options text r rs

      last : Point
      last = (last_row r rs).end

      first : List Row
      first = on_first after_indent (x ∷ xs)

      events : List Event
      events = gap (x ∷ xs) first ++ definition first

      walk : Walk text last r.first cells (turns_of options text r rs)
      walk = lines-walk options text small r rs valid.lines

      on : DefinitionOn text last r.first d (turns_of options text r rs) (x ∷ xs)
      on = definition-on text last r.first cells d (turns_of options text r rs) (x ∷ xs) e walk valid.along

      cut : IsCut options text r rs d
      cut = lines-cut options text small r rs valid.lines d e

      took : List Turn
      took = on.takes.took

      m : ℕ
      m = length took

      known : Taken options text r rs took on.left
      known = taken options text r rs took on.left on.takes.turns_are

      count : further_lines d r ≡ m
      count = let line : (definition_end d).line ≡ r.first.line + m = on.takes.line in omega (arith, line)

      all : take m rs ++ drop m rs ≡ rs
      all = take-append-drop m rs

      given : List Event
      given = definition_events d r.first

      unread : defined_unread d r (take m rs) ≡ events
      unread =
          ap (λ (bs : List LineBreak). laid bs given) (sym known.breaks_are)
          ∙ ap (λ (bs : List LineBreak). laid bs given) (sym (append-nil (breaks took)))
          ∙ ap (laid (breaks took ++ [])) (sym (append-nil given))
          ∙ on.takes.lays [] tt [] ∙ append-nil events

      passed : length on.onward.passed ≡ length (take m rs)
      passed =
          let start = along-length text x xs r.first cells (turns_of options text r rs) valid.along in
          let end = along-length text (at on.end (past on.size on.end.rest)) on.more (definition_end d)
          (definition_rest d) on.left on.along in
          let turns = ap (λ (l : List Turn). length l) on.takes.turns_are in
          let parts = length-append took on.left in
          let rows : length xs ≡ length (on.onward.passed ++ on.more) =
          ap (λ (l : List Row). length l) on.onward.following in
          let sum = length-append on.onward.passed on.more in
          let size = length-take-le m rs known.many in
          omega (arith, start, end, turns, parts, rows, sum, size)

      following : onto_next (on.end ∷ on.more) ++ before on.more ≡ after_cut more (last_row r (take m rs)) (drop m rs)
      following =
          following-step last d x on.onward.passed on.end on.more on.size on.left r (take m rs)
          (drop m rs) on.takes.walk
          on.along on.stops (subst (λ (k : ℕ). definition_end d ≡ (last_row r (take k rs)).end) count cut.end)
          known.left_are (subst (λ (k : ℕ). IsAfter options text d (drop k rs)) count cut.rest)
          (subst (AreLines options text r) (sym all) valid.lines) passed
          (subst (λ (l : List Row). Agree x l r (take m rs ++ drop m rs)) on.onward.following
          (subst (Agree x xs r) (sym all) valid.agree))

-- Definitions one after the other.

-- where no line is left nothing is found
none-left : (remain : List Row → List Event) (size : ℕ) → remain [] ≡ [] → text_events remain size [] ≡ []
none-left remain zero none = none
none-left remain (suc size) none =
    ap (λ (b : Bool). cond b defined (remain [])) (ap (λ (c : Option Cut). is_some c) none-found) ∙ none
  where
    end : List Row
    end = Texts.definition_end []

    defined : List Event
    defined = gap [] [] ++ definition [] ++ onto_next end ++ text_events remain size (drop 1 end)

-- so many at most
module _ (options : ParseOptions) (text : List ℕ) (small : length text < 2 ^ 61) (Agree : Relation)
    (kept : IsKept Agree) (remain : List Row → List Event) (also : FrameRow → List FrameRow → List Event)
    (none : remain [] ≡ [])
    (same : (x : Row) (xs : List Row) (r : FrameRow) (rs : List FrameRow) → Agree x xs r rs →
    remain (x ∷ xs) ≡ also r rs) (on : options.constructs.definition ≡ true) where
  cut-same : (size : ℕ) (x : Row) (xs : List Row) (r : FrameRow) (rs : List FrameRow) →
      Valid options text Agree x xs r rs →
      text_events remain size (x ∷ xs) ≡ cut_at_most defined_unread also options text size r rs
  cut-same zero x xs r rs valid = same x xs r rs valid.agree
  cut-same (suc size) x xs r rs valid =
      go options.constructs.definition on (definition_parts cells) refl
      (λ y ys next below h. cut-same size y ys next below h)
    where
      cells : List Cell
      cells = lines_cells options text r rs

      first : List Row
      first = on_first after_indent (x ∷ xs)

      found : is_some (definition_at (lines_left first)) ≡ is_some (definition_parts cells)
      found =
          definition-found text (last_row r rs).end r.first cells (turns_of options text r rs) (x ∷ xs)
          (lines-walk options text small r rs valid.lines) valid.along

      more : FrameRow → List FrameRow → List Event
      more = cut_at_most defined_unread also options text size

      defined : List Event
      defined =
          gap (x ∷ xs) first ++ definition first ++ onto_next (Texts.definition_end first)
          ++ text_events remain size (drop 1 (Texts.definition_end first))

      by : (b : Bool) → is_some (definition_parts cells) ≡ b →
          text_events remain (suc size) (x ∷ xs) ≡ cond b defined (remain (x ∷ xs))
      by b e = ap (λ (t : Bool). cond t defined (remain (x ∷ xs))) (found ∙ e)

      go : (flag : Bool) → flag ≡ true → (o : Option DefinitionParts) → definition_parts cells ≡ o →
          Same options text Agree (text_events remain size) more →
          text_events remain (suc size) (x ∷ xs) ≡ cut_by defined_unread also more (cond flag o None) r rs
      go false off o e further = cc
      go true is None e further = by false (ap is_some e) ∙ same x xs r rs valid.agree
      go true is (Some d) e further =
          by true (ap is_some e)
          ∙ definition-step options text Agree kept (text_events remain size) (none-left remain size none) more further
          small x xs r rs d valid e

-- so many definitions at most
abbrev pub most : ParseOptions → List Row → ℕ
most options xs = if options.constructs.definition then length xs else 0

-- The lines of a text have the same events, where what remains has them.
pub texts-cut : (options : ParseOptions) (text : List ℕ) → length text < 2 ^ 61 → (remain : List Row → List Event)
    (also : FrameRow → List FrameRow → List Event) (Agree : Relation) → IsKept Agree → remain [] ≡ [] →
    ((x : Row) (xs : List Row) (r : FrameRow) (rs : List FrameRow) → Agree x xs r rs → remain (x ∷ xs) ≡ also r rs) →
    (x : Row) (xs : List Row) (r : FrameRow) (rs : List FrameRow) → AreLines options text r rs → AreAt text x xs r rs →
    AreTexts x xs r rs → Agree x xs r rs →
    text_events remain (most options (x ∷ xs)) (x ∷ xs) ≡
    cut_at_most defined_unread also options text (suc (length rs)) r rs
texts-cut options text small remain also Agree kept none same x xs r rs lines here are agree =
    go options.constructs.definition refl
  where
    cells : List Cell
    cells = lines_cells options text r rs

    along : Along text (x ∷ xs) r.first cells (turns_of options text r rs)
    along =
        subst (λ (l : List Cell). Along text (x ∷ xs) r.first l (turns_of options text r rs))
        (sym (lines-are options text small r rs lines)) (along-are options text x xs r rs lines here are)

    valid : Valid options text Agree x xs r rs
    valid = record { lines = lines; along = along; agree = agree }

    size : length xs ≡ length rs
    size =
        along-length text x xs r.first cells (turns_of options text r rs) along ∙ turns-length options text r rs

    more : FrameRow → List FrameRow → List Event
    more = cut_at_most defined_unread also options text (length rs)

    go : (flag : Bool) → options.constructs.definition ≡ flag →
        text_events remain (most options (x ∷ xs)) (x ∷ xs) ≡
        cut_at_most defined_unread also options text (suc (length rs)) r rs
    go true on =
        ap (λ (t : Bool). text_events remain (cond t (suc (length xs)) 0) (x ∷ xs)) on
        ∙ ap (λ (k : ℕ). text_events remain (suc k) (x ∷ xs)) size
        ∙ cut-same options text small Agree kept remain also none same on (suc (length rs)) x xs r rs valid
    go false off =
        ap (λ (t : Bool). text_events remain (cond t (suc (length xs)) 0) (x ∷ xs)) off
        ∙ same x xs r rs agree
        ∙ sym
        (ap (λ (t : Bool). cut_by defined_unread also more (cond t (definition_parts cells) None) r rs) off)
