-- Tables get their heads, bodies and cells, line by line.
--
-- What is given for a row is known from its own events, and what is between two rows passes.
use Rattle.std.proofs.Common.{◌≡◌, Bool, true, false, List, [], ◌∷◌, ◌++◌, refl, sym, ◌∙◌, ap, append_assoc, append-nil}
use Rattle.md_engine.specs.declared.event.Event.{Event}
use Rattle.md_engine.specs.declared.event.Kind.{Kind}
use Rattle.md_engine.specs.declared.event.Kind.TheVariants.{Enter, Exit}
use Rattle.md_engine.specs.declared.event.Name.{Name}
use Rattle.md_engine.specs.declared.event.Name.TheVariants as n
use Rattle.md_engine.specs.declared.event.Point.{Point}
use Rattle.md_events.specs.Events.Nested.{around, enter, exit}
use Rattle.md_tables.specs.Cells.{Step, celled, ends_row, ends_with, is_row, step}
use Rattle.md_tables.specs.TableLines.{Table, TableLine, TableRow, body_given, lines_celled, lines_read}
use Rattle.md_tables.specs.TableLines.{row_celled, row_read, row_name, table_begin, table_read, table_given}
use Rattle.md_tables.specs.Tabled.{following, bound_by, bound_of, next, passes, tabled, tabled_from}
use Rattle.md_tables.specs.declared.cells.RowKind.{RowKind}
use Rattle.md_tables.specs.declared.cells.RowKind.TheVariants.{Delimiter, Text}
use Rattle.md_tables.specs.declared.cells.Stage.{Stage}
use Rattle.md_tables.specs.declared.cells.Stage.TheVariants as row
use Rattle.md_tables.specs.declared.tables.Bound.{Bound}
use Rattle.md_tables.specs.declared.tables.Bound.TheVariants.{EndsDelimiter, Other}
use Rattle.md_tables.specs.declared.tables.Section.{Section}
use Rattle.md_tables.specs.declared.tables.Section.TheVariants.{Between, Body, Head, Outside}
use Rattle.md_tables.proofs.CellsLemmas.{last-looks, on-looks, outside-step, step-looks}
use Rattle.md_tables.proofs.TabledWalk.{passes-given}

-- Events outside of tables.

-- events with which no table begins
abbrev pub AreUntabled : List Event → Type 0
AreUntabled [] = Unit {0}
AreUntabled (e ∷ es) = (passes Outside e ≡ true) × AreUntabled es

pub untabled-append : (xs ys : List Event) → AreUntabled xs → AreUntabled ys → AreUntabled (xs ++ ys)
untabled-append [] ys h k = k
untabled-append (e ∷ xs) ys h k = (h.0, untabled-append xs ys h.1 k)

-- they stay as they are, before any others
pub tabled-passes : (xs es : List Event) → AreUntabled xs → tabled (xs ++ es) ≡ xs ++ tabled es
tabled-passes [] es h = refl
tabled-passes (e ∷ xs) es h =
    passes-given e (xs ++ es) h.0 ∙ ap (λ (l : List Event). e ∷ l) (tabled-passes xs es h.1)

-- Names.

-- whether events are of a table, or of a row of one
abbrev pub of_tables : Name → Bool
of_tables n.GfmTable = true
of_tables n.GfmTableRow = true
of_tables n.GfmTableDelimiterRow = true
of_tables _ = false

-- events of neither
abbrev pub AreFree : List Event → Type 0
AreFree [] = Unit {0}
AreFree (e ∷ es) = (of_tables e.name ≡ false) × AreFree es

pub free-append : (xs ys : List Event) → AreFree xs → AreFree ys → AreFree (xs ++ ys)
free-append [] ys h k = k
free-append (e ∷ xs) ys h k = (h.0, free-append xs ys h.1 k)

free-bound : (kind : Kind) (name : Name) → of_tables name ≡ false → bound_by kind name ≡ Other
free-bound Enter n.GfmTable h = absurd (let no : true ≡ false = h in cc)
free-bound Enter n.GfmTableRow h = absurd (let no : true ≡ false = h in cc)
free-bound Enter _ h = refl
free-bound Exit n.GfmTable h = absurd (let no : true ≡ false = h in cc)
free-bound Exit n.GfmTableDelimiterRow h = absurd (let no : true ≡ false = h in cc)
free-bound Exit _ h = refl

pub free-row : (name : Name) → of_tables name ≡ false → is_row name ≡ false
free-row n.GfmTableRow h = absurd (let no : true ≡ false = h in cc)
free-row n.GfmTableDelimiterRow h = absurd (let no : true ≡ false = h in cc)
free-row _ h = refl

-- no table begins with them
pub free-passes : (e : Event) → of_tables e.name ≡ false → passes Outside e ≡ true
free-passes e h = rw (free-bound e.kind e.name h) refl

pub free-untabled : (es : List Event) → AreFree es → AreUntabled es
free-untabled [] h = tt
free-untabled (e ∷ es) h = (free-passes e h.0, free-untabled es h.1)

-- In a table.

abbrev in_table : Section → Bool
in_table Outside = false
in_table Head = true
in_table Between = true
in_table Body = true

-- an event that bounds no part is given with the cells of its row
tabled-other : (section : Section) (stage : Stage) (e : Event) (es : List Event) → in_table section ≡ true →
    bound_of e ≡ Other →
    tabled_from section stage (e ∷ es)
    ≡ (step stage e es).given ++ tabled_from section (step stage e es).stage es
tabled-other section stage e es within other = go section within
  where
    go : (s : Section) → in_table s ≡ true →
        tabled_from s stage (e ∷ es) ≡ (step stage e es).given ++ tabled_from s (step stage e es).stage es
    go Outside k = absurd (let no : false ≡ true = k in cc)
    go Head k = rw (other, append-nil) refl
    go Between k = rw (other, append-nil) refl
    go Body k = rw (other, append-nil) refl

-- what is between two rows stays as it is
pub tabled-between : (section : Section) (xs es : List Event) → in_table section ≡ true → AreFree xs →
    tabled_from section row.Outside (xs ++ es) ≡ xs ++ tabled_from section row.Outside es
tabled-between section [] es within h = refl
tabled-between section (e ∷ xs) es within h =
    tabled-other section row.Outside e (xs ++ es) within (free-bound e.kind e.name h.0)
    ∙ ap (λ (s : Step). s.given ++ tabled_from section s.stage (xs ++ es))
    (outside-step e (xs ++ es) (free-row e.name h.0))
    ∙ ap (λ (l : List Event). e ∷ l) (tabled-between section xs es within h.1)

-- the end of a row of a kind
abbrev row_bound : RowKind → Bound
row_bound Text = Other
row_bound Delimiter = EndsDelimiter

row-ends : (k : RowKind) (q : Point) → ends_row (exit (row_name k) q) ≡ true
row-ends Text q = refl
row-ends Delimiter q = refl

tabled-end : (section : Section) (stage : Stage) (k : RowKind) (q : Point) (es : List Event) →
    in_table section ≡ true →
    tabled_from section stage (exit (row_name k) q ∷ es)
    ≡ celled stage (exit (row_name k) q ∷ [])
    ++ (following section (row_bound k) q ++ tabled_from (next section (row_bound k)) row.Outside es)
unfolding celled
tabled-end Outside stage k q es within = absurd (let no : false ≡ true = within in cc)
tabled-end Head stage Text q es within = rw append-nil refl
tabled-end Head stage Delimiter q es within =
    let itself : List Event = ends_with stage (exit n.GfmTableDelimiterRow q) in
    let close : Event = exit n.GfmTableHead q in
    let rest : List Event = tabled_from Between row.Outside es in
    append_assoc itself (close ∷ []) rest
    ∙ ap (λ (l : List Event). l ++ close ∷ rest) (sym (append-nil itself))
tabled-end Between stage Text q es within = rw append-nil refl
tabled-end Between stage Delimiter q es within = rw append-nil refl
tabled-end Body stage Text q es within = rw append-nil refl
tabled-end Body stage Delimiter q es within = rw append-nil refl

-- a row from somewhere in it on
tabled-inside : (section : Section) (stage : Stage) (k : RowKind) (q : Point) (xs es : List Event) →
    in_table section ≡ true → AreFree xs →
    tabled_from section stage (xs ++ exit (row_name k) q ∷ es)
    ≡ celled stage (xs ++ exit (row_name k) q ∷ [])
    ++ (following section (row_bound k) q ++ tabled_from (next section (row_bound k)) row.Outside es)
unfolding celled
tabled-inside section stage k q [] es within h = tabled-end section stage k q es within
tabled-inside section stage k q (x ∷ xs) es within h =
    let end : Event = exit (row_name k) q in
    let rest : List Event =
    following section (row_bound k) q ++ tabled_from (next section (row_bound k)) row.Outside es in
    let s : Step = step stage x (xs ++ end ∷ []) in
    let same : step stage x (xs ++ end ∷ es) ≡ step stage x (xs ++ end ∷ []) =
    step-looks stage x (xs ++ end ∷ es) (xs ++ end ∷ [])
    (record { last = last-looks xs es end (row-ends k q); on = λ kind. on-looks kind xs es end (row-ends k q) }) in
    tabled-other section stage x (xs ++ end ∷ es) within (free-bound x.kind x.name h.0)
    ∙ ap (λ (t : Step). t.given ++ tabled_from section t.stage (xs ++ end ∷ es)) same
    ∙ ap (λ (l : List Event). s.given ++ l) (tabled-inside section s.stage k q xs es within h.1)
    ∙ sym (append_assoc s.given (celled s.stage (xs ++ end ∷ [])) rest)

tabled-rest : (section : Section) (k : RowKind) (r : TableRow) (es : List Event) → in_table section ≡ true →
    AreFree r.inside →
    tabled_from section (row.Front k) ((r.inside ++ exit (row_name k) r.ends ∷ []) ++ es)
    ≡ celled (row.Front k) (r.inside ++ exit (row_name k) r.ends ∷ [])
    ++ (following section (row_bound k) r.ends ++ tabled_from (next section (row_bound k)) row.Outside es)
tabled-rest section k r es within h =
    ap (tabled_from section (row.Front k)) (append_assoc r.inside (exit (row_name k) r.ends ∷ []) es)
    ∙ tabled-inside section (row.Front k) k r.ends r.inside es within h

-- Rows: that of the head,
pub tabled-head_row : (r : TableRow) (es : List Event) → AreFree r.inside →
    tabled_from Head row.Outside (row_read Text r ++ es) ≡ row_celled Text r ++ tabled_from Head row.Outside es
tabled-head_row r es h =
    ap (λ (l : List Event). enter n.GfmTableRow r.begins ∷ l) (tabled-rest Head Text r es refl h)

-- the delimiter row, after which the head ends,
pub tabled-delimiter_row : (r : TableRow) (es : List Event) → AreFree r.inside →
    tabled_from Head row.Outside (row_read Delimiter r ++ es)
    ≡ row_celled Delimiter r ++ exit n.GfmTableHead r.ends ∷ tabled_from Between row.Outside es
tabled-delimiter_row r es h =
    ap (λ (l : List Event). enter n.GfmTableDelimiterRow r.begins ∷ l) (tabled-rest Head Delimiter r es refl h)

-- the first row of the body, before which that begins,
pub tabled-first_row : (r : TableRow) (es : List Event) → AreFree r.inside →
    tabled_from Between row.Outside (row_read Text r ++ es)
    ≡ enter n.GfmTableBody r.begins ∷ row_celled Text r ++ tabled_from Body row.Outside es
tabled-first_row r es h =
    ap (λ (l : List Event). enter n.GfmTableBody r.begins ∷ enter n.GfmTableRow r.begins ∷ l)
    (tabled-rest Body Text r es refl h)

-- and a further one.
pub tabled-further_row : (r : TableRow) (es : List Event) → AreFree r.inside →
    tabled_from Body row.Outside (row_read Text r ++ es) ≡ row_celled Text r ++ tabled_from Body row.Outside es
tabled-further_row r es h =
    ap (λ (l : List Event). enter n.GfmTableRow r.begins ∷ l) (tabled-rest Body Text r es refl h)

-- Whole tables.

-- of tables and rows nothing is in a row, or between two
abbrev pub IsFreeLine : TableLine → Type 0
IsFreeLine l = AreFree l.between × AreFree l.row.inside

abbrev pub AreFreeLines : List TableLine → Type 0
AreFreeLines [] = Unit {0}
AreFreeLines (l ∷ ls) = IsFreeLine l × AreFreeLines ls

pub record IsFreeTable (t : Table) : Type 0 where
  pub head : AreFree t.head.inside
  pub delimiter : IsFreeLine t.delimiter
  pub body : AreFreeLines t.body

line-split : (k : RowKind) (l : TableLine) (xs es : List Event) →
    (l.between ++ (row_read k l.row ++ xs)) ++ es ≡ l.between ++ (row_read k l.row ++ (xs ++ es))
line-split k l xs es =
    append_assoc l.between (row_read k l.row ++ xs) es
    ∙ ap (λ (m : List Event). l.between ++ m) (append_assoc (row_read k l.row) xs es)

-- further lines of a body
pub tabled-lines : (ls : List TableLine) (es : List Event) → AreFreeLines ls →
    tabled_from Body row.Outside (lines_read ls ++ es) ≡ lines_celled ls ++ tabled_from Body row.Outside es
tabled-lines [] es h = refl
tabled-lines (l ∷ ls) es h =
    let rest : List Event = tabled_from Body row.Outside es in
    ap (tabled_from Body row.Outside) (line-split Text l (lines_read ls) es)
    ∙ tabled-between Body l.between (row_read Text l.row ++ (lines_read ls ++ es)) refl h.0.0
    ∙ ap (λ (m : List Event). l.between ++ m)
    (tabled-further_row l.row (lines_read ls ++ es) h.0.1
    ∙ ap (λ (m : List Event). row_celled Text l.row ++ m) (tabled-lines ls es h.1)
    ∙ sym (append_assoc (row_celled Text l.row) (lines_celled ls) rest))
    ∙ sym (append_assoc l.between (row_celled Text l.row ++ lines_celled ls) rest)

-- what follows the head, to the end of the table
pub tabled-body : (ls : List TableLine) (q : Point) (es : List Event) → AreFreeLines ls →
    tabled_from Between row.Outside (lines_read ls ++ exit n.GfmTable q ∷ es)
    ≡ body_given ls q ++ exit n.GfmTable q ∷ tabled es
tabled-body [] q es h = refl
tabled-body (l ∷ ls) q es h =
    let end : Event = exit n.GfmTable q in
    let close : Event = exit n.GfmTableBody q in
    let inside : List Event = row_celled Text l.row ++ lines_celled ls in
    ap (tabled_from Between row.Outside) (line-split Text l (lines_read ls) (end ∷ es))
    ∙ tabled-between Between l.between (row_read Text l.row ++ (lines_read ls ++ end ∷ es)) refl h.0.0
    ∙ ap (λ (m : List Event). l.between ++ m)
    (tabled-first_row l.row (lines_read ls ++ end ∷ es) h.0.1
    ∙ ap (λ (m : List Event). enter n.GfmTableBody l.row.begins ∷ row_celled Text l.row ++ m)
    (tabled-lines ls (end ∷ es) h.1)
    ∙ ap (λ (m : List Event). enter n.GfmTableBody l.row.begins ∷ m)
    (sym (append_assoc (row_celled Text l.row) (lines_celled ls) (close ∷ end ∷ tabled es))
    ∙ sym (append_assoc inside (close ∷ []) (end ∷ tabled es))))
    ∙ sym (append_assoc l.between (around n.GfmTableBody l.row.begins q inside) (end ∷ tabled es))

given-split : (a b c y rest : List Event) (x e : Event) →
    (((a ++ (b ++ c)) ++ x ∷ []) ++ (y ++ e ∷ [])) ++ rest ≡ a ++ (b ++ (c ++ (x ∷ y ++ e ∷ rest)))
given-split a b c y rest x e =
    append_assoc ((a ++ (b ++ c)) ++ x ∷ []) (y ++ e ∷ []) rest
    ∙ append_assoc (a ++ (b ++ c)) (x ∷ []) ((y ++ e ∷ []) ++ rest)
    ∙ append_assoc a (b ++ c) (x ∷ (y ++ e ∷ []) ++ rest)
    ∙ ap (λ (l : List Event). a ++ l)
    (append_assoc b c (x ∷ (y ++ e ∷ []) ++ rest)
    ∙ ap (λ (l : List Event). b ++ (c ++ (x ∷ l))) (append_assoc y (e ∷ []) rest))

-- A table, before any events.
pub tabled-table : (t : Table) (es : List Event) → IsFreeTable t →
    tabled (table_read t ++ es) ≡ table_given t ++ tabled es
tabled-table t es h =
    let end : Event = exit n.GfmTable t.ends in
    let lines : List Event = lines_read t.body in
    let after_head : List Event = body_given t.body t.ends ++ end ∷ tabled es in
    let d : TableRow = t.delimiter.row in
    ap (λ (l : List Event). table_begin t ∷ enter n.GfmTableHead t.begins ∷ l)
    (ap (tabled_from Head row.Outside)
    (append_assoc (row_read Text t.head)
    (t.delimiter.between ++ (row_read Delimiter d ++ (lines ++ end ∷ []))) es
    ∙ ap (λ (l : List Event). row_read Text t.head ++ l)
    (line-split Delimiter t.delimiter (lines ++ end ∷ []) es
    ∙ ap (λ (l : List Event). t.delimiter.between ++ (row_read Delimiter d ++ l))
    (append_assoc lines (end ∷ []) es)))
    ∙ tabled-head_row t.head (t.delimiter.between ++ (row_read Delimiter d ++ (lines ++ end ∷ es))) h.head
    ∙ ap (λ (l : List Event). row_celled Text t.head ++ l)
    (tabled-between Head t.delimiter.between (row_read Delimiter d ++ (lines ++ end ∷ es)) refl h.delimiter.0
    ∙ ap (λ (l : List Event). t.delimiter.between ++ l)
    (tabled-delimiter_row d (lines ++ end ∷ es) h.delimiter.1
    ∙ ap (λ (l : List Event). row_celled Delimiter d ++ exit n.GfmTableHead d.ends ∷ l)
    (tabled-body t.body t.ends es h.body)))
    ∙ sym
    (given-split (row_celled Text t.head) t.delimiter.between (row_celled Delimiter d) (body_given t.body t.ends)
    (tabled es) (exit n.GfmTableHead d.ends) end))
