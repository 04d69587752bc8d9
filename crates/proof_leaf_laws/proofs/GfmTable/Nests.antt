-- The lines of a table, joined, fit the resolvers: its rows are by themselves, and so are the parts of a row; it ends
-- after its delimiter row; and after it is open what was before.
use Rattle.std.proofs.Common.{◌≡◌, ℕ, Bool, true, false, cond, ◌||◌, List, [], ◌∷◌, ◌++◌, refl, ap, sym, ◌∙◌, subst}
use Rattle.std.proofs.Common.{append_assoc, append-nil}
use Rattle.std.specs.Prelude.{◌==◌, IsTrue, Option, Some, None}
use Rattle.std.proofs.lemmas.Bool.{and_right}
use Rattle.md_engine.specs.declared.event.Event.{Event}
use Rattle.md_engine.specs.declared.event.Kind.{Kind}
use Rattle.md_engine.specs.declared.event.Kind.TheVariants.{Enter, Exit}
use Rattle.md_engine.specs.declared.event.Name.{Name}
use Rattle.md_engine.specs.declared.event.Name.TheVariants as n
use Rattle.md_engine.specs.declared.event.Point.{Point}
use Rattle.md_meaning.specs.Ascii.{backslash}
use Rattle.md_events.specs.Events.Nested.{Balanced, Matches, around, enter, exit, is_enter, is_exit, open_after}
use Rattle.md_events.specs.Events.Nested.{open_following}
use Rattle.md_events.specs.Events.Places.{at_or_before, past_byte, past_text}
use Rattle.md_events.proofs.InlineLemmas.{before-text}
use Rattle.md_events.proofs.NestedLemmas.{at_or_before-refl, at_or_before-trans, balanced-append, balanced-open}
use Rattle.md_tables.specs.Cells.{begins_row, row_kind}
use Rattle.md_tables.specs.DelimiterRule as delimiter
use Rattle.md_tables.specs.GfmTableLine.{delimiter_runs, head_line, row_runs}
use Rattle.md_tables.specs.Heads.{is_table}
use Rattle.md_tables.specs.Row.{text_link}
use Rattle.md_tables.specs.RowRule as text
use Rattle.md_tables.specs.TableLines.{Table, TableRow, delimiter_row, lines_read, row_read, text_row}
use Rattle.md_tables.specs.declared.cells.RowKind.{RowKind}
use Rattle.md_tables.specs.declared.cells.RowKind.TheVariants.{Delimiter, Text}
use Rattle.md_tables.proofs.TabledLines.{AreFree, free-row, of_tables}
use Rattle.md_order.specs.Alone.{is_set}
use Rattle.md_order.specs.Left.{ends_table}
use Rattle.md_order.specs.TablesNest.{InRow, InTable, Outside, is_delimiter, within}
use Rattle.md_order.proofs.Names.{bare-unturned, unset-bare, unset-item}
use Rattle.md_order.proofs.Nests.Fits.{RowsAlone, unset-clear}
use Rattle.proof_frame.specs.Row.{Row, ending_events, row_line, span_by}
use Rattle.proof_leaf_laws.specs.Headed.{headed_row}
use Rattle.proof_frame.proofs.ClosedFacts.{IsUnset}
use Rattle.proof_frame.proofs.EachEvent.{Each, each-append, each-as}
use Rattle.proof_frame.proofs.FrontLemmas.{fronts-balanced}
use Rattle.proof_frame.proofs.LeafLines.Cuts.{ending-is}
use Rattle.proof_frame.proofs.NestFacts.{HeldIn, IsNoItem, Keeps, KeepsItems, OfPart, items-append, items-around}
use Rattle.proof_frame.proofs.NestFacts.{items-part, plain-items}
use Rattle.proof_frame.proofs.SpanLemmas.{Nested_in, Spans, around-nested, either, spans-append}
use Rattle.proof_leaf_laws.proofs.GfmTable.Alone.{gap-unset}
use Rattle.proof_leaf_laws.proofs.GfmTable.TableForm.{AreBodyRows, IsGap, IsTable, gap_events}
use Rattle.proof_leaf_laws.proofs.GfmTable.TableUnread.{body_lines, gap-free, table-joined, table_of}

-- What holds of each part of a row.
record OfParts (X : List Name → List Event → Type 0) : Type 0 where
  space : OfPart X n.SpaceOrTab
  divider : OfPart X n.GfmTableCellDivider
  word : OfPart X n.Data
  marker : OfPart X n.GfmTableDelimiterMarker
  filler : OfPart X n.GfmTableDelimiterFiller

-- Runs of a row of cells,

abbrev opened : text.Run → List Name
opened text.Apart = []
opened text.White = n.SpaceOrTab ∷ []
opened text.Pipe = n.GfmTableCellDivider ∷ []
opened text.Text = n.Data ∷ []
opened text.Escaped = n.Data ∷ []

row-begins : (X : List Name → List Event → Type 0) → OfParts X → (run : text.Run) (p : Point) (es : List Event) →
    X (opened run) es → X [] (text.opens run p ++ es)
row-begins X of text.Apart p es h = h
row-begins X of text.White p es h = of.space.begins p None es h
row-begins X of text.Pipe p es h = of.divider.begins p None es h
row-begins X of text.Text p es h = of.word.begins p (Some text_link) es h
row-begins X of text.Escaped p es h = of.word.begins p (Some text_link) es h

row-ends : (X : List Name → List Event → Type 0) → OfParts X → (run : text.Run) (p : Point) (es : List Event) →
    X [] es → X (opened run) (text.closes run p ++ es)
row-ends X of text.Apart p es h = h
row-ends X of text.White p es h = of.space.ends p es h
row-ends X of text.Pipe p es h = of.divider.ends p es h
row-ends X of text.Text p es h = of.word.ends p es h
row-ends X of text.Escaped p es h = of.word.ends p es h

opened-on : (run : text.Run) (b : ℕ) → opened (text.next run b) ≡ opened run
opened-on text.Apart b = refl
opened-on text.White b = refl
opened-on text.Pipe b = refl
opened-on text.Text b = go (b == backslash)
  where
    go : (x : Bool) → opened (cond x text.Escaped text.Text) ≡ n.Data ∷ []
    go true = refl
    go false = refl
opened-on text.Escaped b = refl

row-part : (X : List Name → List Event → Type 0) → OfParts X → (run : text.Run) (bs : List ℕ) (p : Point)
    (rest : List Event) → X [] rest → X (opened run) (row_runs run bs p ++ rest)
row-part X of run [] p rest h = row-ends X of run p rest h
row-part X of run (b ∷ bs) p rest h =
    either (λ (es : List Event). X (opened run) (es ++ rest)) (text.is_continued run b) _ _
    (subst (λ (names : List Name). X names (row_runs (text.next run b) bs (past_byte b p) ++ rest)) (opened-on run b)
    (row-part X of (text.next run b) bs (past_byte b p) rest h))
    (subst (X (opened run))
    (sym
    (append_assoc (text.closes run p ++ text.opens (text.begun b) p) next rest
    ∙ append_assoc (text.closes run p) (text.opens (text.begun b) p) (next ++ rest)))
    (row-ends X of run p (text.opens (text.begun b) p ++ (next ++ rest))
    (row-begins X of (text.begun b) p (next ++ rest) (row-part X of (text.begun b) bs (past_byte b p) rest h))))
  where
    next : List Event
    next = row_runs (text.begun b) bs (past_byte b p)

-- and of a delimiter row.

abbrev opened_in : delimiter.Run → List Name
opened_in delimiter.Apart = []
opened_in delimiter.Space = n.SpaceOrTab ∷ []
opened_in delimiter.Pipe = n.GfmTableCellDivider ∷ []
opened_in delimiter.Colon = n.GfmTableDelimiterMarker ∷ []
opened_in delimiter.Filler = n.GfmTableDelimiterFiller ∷ []

delimiter-begins : (X : List Name → List Event → Type 0) → OfParts X → (run : delimiter.Run) (p : Point)
    (es : List Event) → X (opened_in run) es → X [] (delimiter.opens run p ++ es)
delimiter-begins X of delimiter.Apart p es h = h
delimiter-begins X of delimiter.Space p es h = of.space.begins p None es h
delimiter-begins X of delimiter.Pipe p es h = of.divider.begins p None es h
delimiter-begins X of delimiter.Colon p es h = of.marker.begins p None es h
delimiter-begins X of delimiter.Filler p es h = of.filler.begins p None es h

delimiter-ends : (X : List Name → List Event → Type 0) → OfParts X → (run : delimiter.Run) (p : Point)
    (es : List Event) → X [] es → X (opened_in run) (delimiter.closes run p ++ es)
delimiter-ends X of delimiter.Apart p es h = h
delimiter-ends X of delimiter.Space p es h = of.space.ends p es h
delimiter-ends X of delimiter.Pipe p es h = of.divider.ends p es h
delimiter-ends X of delimiter.Colon p es h = of.marker.ends p es h
delimiter-ends X of delimiter.Filler p es h = of.filler.ends p es h

delimiter-part : (X : List Name → List Event → Type 0) → OfParts X → (run : delimiter.Run) (bs : List ℕ) (p : Point)
    (rest : List Event) → X [] rest → X (opened_in run) (delimiter_runs run bs p ++ rest)
delimiter-part X of run [] p rest h = delimiter-ends X of run p rest h
delimiter-part X of run (b ∷ bs) p rest h =
    either (λ (es : List Event). X (opened_in run) (es ++ rest)) (delimiter.is_continued run b) _ _
    (delimiter-part X of run bs (past_byte b p) rest h)
    (subst (X (opened_in run))
    (sym
    (append_assoc (delimiter.closes run p ++ delimiter.opens (delimiter.begun b) p) next rest
    ∙ append_assoc (delimiter.closes run p) (delimiter.opens (delimiter.begun b) p) (next ++ rest)))
    (delimiter-ends X of run p (delimiter.opens (delimiter.begun b) p ++ (next ++ rest))
    (delimiter-begins X of (delimiter.begun b) p (next ++ rest)
    (delimiter-part X of (delimiter.begun b) bs (past_byte b p) rest h))))
  where
    next : List Event
    next = delimiter_runs (delimiter.begun b) bs (past_byte b p)

-- Rows by themselves.

abbrev InRowOf : Bool → RowKind → List Name → List Event → Type 0
InRowOf headed k names es = RowsAlone (InRow headed k names) es

never : {A : Type 0} → false ≡ true → A
never h = absurd (let no : false ≡ true = h in cc)

parts-in : (headed : Bool) (k : RowKind) → OfParts (InRowOf headed k)
parts-in headed k = record {
  space = record {
    begins = λ p link es h. ((record { item = refl; heading = refl }, refl), (λ r. never r, refl, λ c. refl), h);
    ends = λ p es h. ((record { item = refl; heading = refl }, refl), (λ r. never r, refl, λ c. refl), h);
  };
  divider = record {
    begins = λ p link es h. ((record { item = refl; heading = refl }, refl), (λ r. never r, refl, λ c. refl), h);
    ends = λ p es h. ((record { item = refl; heading = refl }, refl), (λ r. never r, refl, λ c. refl), h);
  };
  word = record {
    begins = λ p link es h. ((record { item = refl; heading = refl }, refl), (λ r. never r, refl, λ c. refl), h);
    ends = λ p es h. ((record { item = refl; heading = refl }, refl), (λ r. never r, refl, λ c. refl), h);
  };
  marker = record {
    begins = λ p link es h. ((record { item = refl; heading = refl }, refl), (λ r. never r, refl, λ c. refl), h);
    ends = λ p es h. ((record { item = refl; heading = refl }, refl), (λ r. never r, refl, λ c. refl), h);
  };
  filler = record {
    begins = λ p link es h. ((record { item = refl; heading = refl }, refl), (λ r. never r, refl, λ c. refl), h);
    ends = λ p es h. ((record { item = refl; heading = refl }, refl), (λ r. never r, refl, λ c. refl), h);
  };
}

-- a row, where its inside is such
row-alone : (headed : Bool) (k : RowKind) (r : TableRow) (rest : List Event) →
    ((es : List Event) → RowsAlone (InRow headed k []) es → RowsAlone (InRow headed k []) (r.inside ++ es)) →
    RowsAlone (InTable (headed || is_delimiter k) []) rest → RowsAlone (InTable headed []) (row_read k r ++ rest)
row-alone headed Text r rest inside h = (
  (record { item = refl; heading = refl }, refl),
  (λ row. (refl, refl), λ table. never table),
  subst (RowsAlone (InRow headed Text [])) (sym (append_assoc r.inside (exit n.GfmTableRow r.ends ∷ []) rest))
      (inside (exit n.GfmTableRow r.ends ∷ rest)
      ((record { item = refl; heading = refl }, refl), (λ row. (refl, refl), refl, λ part. refl), h)),
)
row-alone headed Delimiter r rest inside h = (
  (record { item = refl; heading = refl }, refl),
  (λ row. (refl, refl), λ table. never table),
  subst (RowsAlone (InRow headed Delimiter []))
      (sym (append_assoc r.inside (exit n.GfmTableDelimiterRow r.ends ∷ []) rest))
      (inside (exit n.GfmTableDelimiterRow r.ends ∷ rest)
      ((record { item = refl; heading = refl }, refl), (λ row. (refl, refl), refl, λ part. refl), h)),
)

text-alone : (headed : Bool) (line : List ℕ) (p : Point) (rest : List Event) →
    RowsAlone (InTable (headed || false) []) rest →
    RowsAlone (InTable headed []) (row_read Text (text_row line p) ++ rest)
text-alone headed line p rest h =
    row-alone headed Text (text_row line p) rest
    (λ es k. row-part (InRowOf headed Text) (parts-in headed Text) text.Apart line p es k) h

delimiter-alone : (headed : Bool) (line : List ℕ) (p : Point) (rest : List Event) →
    RowsAlone (InTable (headed || true) []) rest →
    RowsAlone (InTable headed []) (row_read Delimiter (delimiter_row line p) ++ rest)
delimiter-alone headed line p rest h =
    row-alone headed Delimiter (delimiter_row line p) rest
    (λ es k. delimiter-part (InRowOf headed Delimiter) (parts-in headed Delimiter) delimiter.Apart line p es k) h

-- Between two rows.

no-kind : (o : Option RowKind) → elim o [ None ↦ false | Some k ↦ true ] ≡ false → o ≡ None
no-kind None h = refl
no-kind (Some k) h = absurd (let no : true ≡ false = h in cc)

-- no row begins there
free-begins : (e : Event) → of_tables e.name ≡ false → begins_row e ≡ None
free-begins e h = go e.kind (no-kind (row_kind e.name) (free-row e.name h))
  where
    go : (kind : Kind) → row_kind e.name ≡ None → cond (is_enter kind) (row_kind e.name) None ≡ None
    go Enter k = k
    go Exit k = refl

between-on : (headed : Bool) (names : List Name) (e : Event) (es : List Event) → is_set e.name ≡ false →
    of_tables e.name ≡ false → RowsAlone (InTable headed (open_following names e.kind e.name)) es →
    RowsAlone (InTable headed names) (e ∷ es)
between-on headed names e es unset free h = (
  (unset-clear e unset, bare-unturned e (unset-bare e.name unset)),
  (
    λ row. never (sym (free-row e.name free) ∙ row),
    λ table. never (sym no_end ∙ table),
  ),
  subst (λ (x : Bool). RowsAlone (cond x Outside (within headed names_after (begins_row e))) es) (sym no_end)
      (subst (λ (row : Option RowKind). RowsAlone (within headed names_after row) es) (sym (free-begins e free)) h),
)
  where
    no_end : ends_table e ≡ false
    no_end = and_right (is_exit e.kind) (is_table e.name) (unset-bare e.name unset).table

    names_after : List Name
    names_after = open_following names e.kind e.name

between-alone : (headed : Bool) (names : List Name) (es rest : List Event) → Each IsUnset es → AreFree es →
    RowsAlone (InTable headed (open_after names es)) rest → RowsAlone (InTable headed names) (es ++ rest)
between-alone headed names [] rest unset free h = h
between-alone headed names (e ∷ es) rest unset free h =
    between-on headed names e (es ++ rest) unset.0 free.0
    (between-alone headed (open_following names e.kind e.name) es rest unset.1 free.1 h)

gap-balanced : (bytes : List ℕ) (row next : Row) → IsGap bytes row next → Balanced (gap_events row next)
gap-balanced bytes row next gap =
    balanced-append (ending_events n.LineEnding row) next.front
    (subst Balanced (sym (ending-is n.LineEnding row gap.following gap.after))
    (record { matches = (tt, (refl, tt)); closed = refl }))
    (fronts-balanced bytes [] gap.following next.first next.front gap.front refl)

gap-alone : (headed : Bool) (bytes : List ℕ) (row next : Row) (rest : List Event) → IsGap bytes row next →
    RowsAlone (InTable headed []) rest → RowsAlone (InTable headed []) (gap_events row next ++ rest)
gap-alone headed bytes row next rest gap h =
    between-alone headed [] (gap_events row next) rest (gap-unset bytes row next gap) (gap-free bytes row next gap)
    (subst (λ (names : List Name). RowsAlone (InTable headed names) rest)
    (sym (balanced-open [] (gap_events row next) (gap-balanced bytes row next gap))) h)

-- All lines.

lines-alone : (bytes : List ℕ) (row : Row) (rows : List Row) (rest : List Event) → AreBodyRows bytes row rows →
    RowsAlone (InTable true []) rest → RowsAlone (InTable true []) (lines_read (body_lines bytes row rows) ++ rest)
lines-alone bytes row [] rest are h = h
lines-alone bytes row (next ∷ rows) rest are h =
    let own : List Event = row_read Text (text_row (row_line bytes next) next.first) in
    let more : List Event = lines_read (body_lines bytes next rows) in
    subst (RowsAlone (InTable true []))
    (sym (append_assoc (gap_events row next) (own ++ more) rest
    ∙ ap (λ (l : List Event). gap_events row next ++ l) (append_assoc own more rest)))
    (gap-alone true bytes row next (own ++ (more ++ rest)) are.0.gap
    (text-alone true (row_line bytes next) next.first (more ++ rest) (lines-alone bytes next rows rest are.1 h)))

one-by-one : (a b c d e rest : List Event) →
    (a ++ (b ++ (c ++ (d ++ e)))) ++ rest ≡ a ++ (b ++ (c ++ (d ++ (e ++ rest))))
one-by-one a b c d e rest = simp append_assoc

pub table-rows : (bytes : List ℕ) (row next : Row) (rows : List Row) → IsTable bytes row next rows →
    Keeps (RowsAlone Outside) (span_by (λ (r : Row). r.inside) (headed_row bytes row) (next ∷ rows))
table-rows bytes row next rows is = λ ys h.
    let t : Table = table_of bytes row next rows in
    let head : List Event = row_read Text t.head in
    let gap : List Event = gap_events row next in
    let under : List Event = row_read Delimiter t.delimiter.row in
    let body : List Event = lines_read t.body in
    let end : List Event = exit n.GfmTable t.ends ∷ [] in
    subst (λ (es : List Event). RowsAlone Outside (es ++ ys)) (sym (table-joined bytes row next rows is)) (
      tt,
      tt,
      subst (RowsAlone (InTable false [])) (sym (one-by-one head gap under body end ys))
          (text-alone false (row_line bytes row) row.first (gap ++ (under ++ (body ++ (end ++ ys))))
          (gap-alone false bytes row next (under ++ (body ++ (end ++ ys))) is.gap
          (delimiter-alone false (row_line bytes next) next.first (body ++ (end ++ ys))
          (lines-alone bytes next rows (end ++ ys) is.body (
            (record { item = refl; heading = refl }, refl),
            (λ r. never r, λ e. (refl, refl)),
            h,
          ))))),
    )

-- Items.

parts-held : (outer : List Name) → OfParts (HeldIn outer)
parts-held outer = record {
  space = items-part outer n.SpaceOrTab refl;
  divider = items-part outer n.GfmTableCellDivider refl;
  word = items-part outer n.Data refl;
  marker = items-part outer n.GfmTableDelimiterMarker refl;
  filler = items-part outer n.GfmTableDelimiterFiller refl;
}

text-items : (line : List ℕ) (p : Point) → KeepsItems (row_read Text (text_row line p))
text-items line p =
    items-around n.GfmTableRow p (past_text line p) (row_runs text.Apart line p) refl
    (λ names rest h. row-part (HeldIn names) (parts-held names) text.Apart line p rest h)

delimiter-items : (line : List ℕ) (p : Point) → KeepsItems (row_read Delimiter (delimiter_row line p))
delimiter-items line p =
    items-around n.GfmTableDelimiterRow p (past_text line p) (delimiter_runs delimiter.Apart line p) refl
    (λ names rest h. delimiter-part (HeldIn names) (parts-held names) delimiter.Apart line p rest h)

gap-items : (bytes : List ℕ) (row next : Row) → IsGap bytes row next → KeepsItems (gap_events row next)
gap-items bytes row next gap =
    plain-items (gap_events row next) (gap-balanced bytes row next gap)
    (each-as IsUnset IsNoItem (λ e h. unset-item e.name h) (gap_events row next) (gap-unset bytes row next gap))

lines-items : (bytes : List ℕ) (row : Row) (rows : List Row) → AreBodyRows bytes row rows →
    KeepsItems (lines_read (body_lines bytes row rows))
lines-items bytes row [] are = λ names ys h. h
lines-items bytes row (next ∷ rows) are =
    let own : List Event = row_read Text (text_row (row_line bytes next) next.first) in
    let more : List Event = lines_read (body_lines bytes next rows) in
    items-append (gap_events row next) (own ++ more) (gap-items bytes row next are.0.gap)
    (items-append own more (text-items (row_line bytes next) next.first) (lines-items bytes next rows are.1))

within-table : (a b c d e : List Event) → ((a ++ (b ++ (c ++ d))) ++ e) ≡ a ++ (b ++ (c ++ (d ++ e)))
within-table a b c d e = simp append_assoc

pub table-items : (bytes : List ℕ) (row next : Row) (rows : List Row) → IsTable bytes row next rows →
    KeepsItems (span_by (λ (r : Row). r.inside) (headed_row bytes row) (next ∷ rows))
table-items bytes row next rows is =
    let t : Table = table_of bytes row next rows in
    let head : List Event = row_read Text t.head in
    let gap : List Event = gap_events row next in
    let under : List Event = row_read Delimiter t.delimiter.row in
    let body : List Event = lines_read t.body in
    let end : List Event = exit n.GfmTable t.ends ∷ [] in
    subst KeepsItems (sym (table-joined bytes row next rows is))
    (subst (λ (es : List Event). KeepsItems (enter n.GfmTable t.begins ∷ es)) (within-table head gap under body end)
    (items-around n.GfmTable t.begins t.ends (head ++ (gap ++ (under ++ body))) refl
    (items-append head (gap ++ (under ++ body)) (text-items (row_line bytes row) row.first)
    (items-append gap (under ++ body) (gap-items bytes row next is.gap)
    (items-append under body (delimiter-items (row_line bytes next) next.first)
    (lines-items bytes next rows is.body))))))

-- The line of a head, as its states leave it, nests from its begin to its end.

abbrev Closes : List Name → List Event → Type 0
Closes names es = Matches names es × (open_after names es ≡ [])

closes-part : (name : Name) → OfPart Closes name
closes-part name = record {
  begins = λ p link es h. ((tt, h.0), h.1);
  ends = λ p es h. ((refl, h.0), h.1);
}

runs-balanced : (line : List ℕ) (p : Point) → Balanced (row_runs text.Apart line p)
runs-balanced line p =
    let closes : Closes [] (row_runs text.Apart line p ++ []) =
    row-part Closes
    (record {
      space = closes-part n.SpaceOrTab;
      divider = closes-part n.GfmTableCellDivider;
      word = closes-part n.Data;
      marker = closes-part n.GfmTableDelimiterMarker;
      filler = closes-part n.GfmTableDelimiterFiller;
    }) text.Apart line p [] (tt, refl) in
    subst Balanced (append-nil (row_runs text.Apart line p)) (record { matches = closes.0; closed = closes.1 })

-- events at a point
abbrev IsAt : Point → Event → Type 0
IsAt p e = e.point ≡ p

opens-at : (run : text.Run) (p : Point) → Each (IsAt p) (text.opens run p)
opens-at text.Apart p = tt
opens-at text.White p = (refl, tt)
opens-at text.Pipe p = (refl, tt)
opens-at text.Text p = (refl, tt)
opens-at text.Escaped p = (refl, tt)

closes-at : (run : text.Run) (p : Point) → Each (IsAt p) (text.closes run p)
closes-at text.Apart p = tt
closes-at text.White p = (refl, tt)
closes-at text.Pipe p = (refl, tt)
closes-at text.Text p = (refl, tt)
closes-at text.Escaped p = (refl, tt)

at-spans : (q p : Point) (es : List Event) → IsTrue (at_or_before q p) → Each (IsAt p) es → Spans q p es
at-spans q p [] h k = (tt, h)
at-spans q p (e ∷ es) h k =
    let rest : Spans e.point p es =
    subst (λ (r : Point). Spans r p es) (sym k.0) (at-spans p p es (at_or_before-refl p) k.1) in
    ((subst (λ (r : Point). IsTrue (at_or_before q r)) (sym k.0) h, rest.0), rest.1)

runs-spans : (run : text.Run) (bs : List ℕ) (p q : Point) → IsTrue (at_or_before q p) →
    Spans q (past_text bs p) (row_runs run bs p)
runs-spans run [] p q h = at-spans q p (text.closes run p) h (closes-at run p)
runs-spans run (b ∷ bs) p q h =
    let before : IsTrue (at_or_before p (past_byte b p)) = before-text (b ∷ []) p in
    let bounds : List Event = text.closes run p ++ text.opens (text.begun b) p in
    either (Spans q (past_text bs (past_byte b p))) (text.is_continued run b) _ _
    (runs-spans (text.next run b) bs (past_byte b p) q (at_or_before-trans q p (past_byte b p) h before))
    (spans-append q p (past_text bs (past_byte b p)) bounds (row_runs (text.begun b) bs (past_byte b p))
    (at-spans q p bounds h
    (each-append (IsAt p) (text.closes run p) (text.opens (text.begun b) p) (closes-at run p)
    (opens-at (text.begun b) p))) (runs-spans (text.begun b) bs (past_byte b p) p before))

pub head-nests : (line : List ℕ) (p : Point) → Nested_in p (past_text line p) (head_line line p)
head-nests line p =
    around-nested n.GfmTable p (past_text line p)
    (around n.GfmTableRow p (past_text line p) (row_runs text.Apart line p))
    (around-nested n.GfmTableRow p (past_text line p) (row_runs text.Apart line p)
    (runs-balanced line p, runs-spans text.Apart line p p (at_or_before-refl p)))
