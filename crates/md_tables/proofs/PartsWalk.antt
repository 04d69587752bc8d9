-- The walk over a table continues with parts of rows.
use Rattle.std.proofs.Common.{◌≡◌, ◌≤◌, Bool, true, false, cond, ◌&&◌, None, Some, List, [], ◌∷◌, ◌++◌, drop, get_or}
use Rattle.std.proofs.Common.{length, refl, subst, sym, ◌∙◌, ap, append-nil, append_assoc, arith}
use Rattle.std.proofs.lemmas.Bool.{and_parts}
use Rattle.md_engine.specs.declared.event.Event.{Event}
use Rattle.md_engine.specs.declared.event.Kind.{Kind}
use Rattle.md_engine.specs.declared.event.Kind.TheVariants.{Enter, Exit}
use Rattle.md_engine.specs.declared.event.Name.{Name}
use Rattle.md_engine.specs.declared.event.Name.TheVariants as n
use Rattle.md_events.specs.Events.Nested.{enter, exit, is_enter, is_exit}
use Rattle.md_tables.specs.Cells.{begins_inner, begins_row, cell_name, ends_inner, is_continued, inner_name}
use Rattle.md_tables.specs.Cells.{is_divider, is_inner, is_white, row_ends, row_kind, step}
use Rattle.md_tables.specs.Proceeds.{begins_body, ends_head, ends_text_row, in_table, is_between, is_delimiter_row}
use Rattle.md_tables.specs.Proceeds.{is_ending, is_pair, is_text_row}
use Rattle.md_tables.specs.Tabled.{bound_of, tabled_from}
use Rattle.md_tables.specs.declared.cells.RowKind.{RowKind}
use Rattle.md_tables.specs.declared.cells.RowKind.TheVariants.{Delimiter, Text}
use Rattle.md_tables.specs.declared.cells.Stage.{Stage}
use Rattle.md_tables.specs.declared.cells.Stage.TheVariants as row
use Rattle.md_tables.specs.declared.cells.Stage.TheVariants.{Following, Front, Inner, Within}
use Rattle.md_tables.specs.declared.tables.Bound.TheVariants.{Other}
use Rattle.md_tables.specs.declared.tables.Section.{Section}
use Rattle.md_tables.specs.declared.tables.Section.TheVariants.{Between, Body, Head, Outside}

-- In a table an event that is nothing to its head and its body is one of a row.
one : (section : Section) (stage : Stage) (e : Event) (es : List Event) → in_table section ≡ true → bound_of e ≡ Other →
    tabled_from section stage (e ∷ es) ≡ (step stage e es).given ++ tabled_from section (step stage e es).stage es
one Outside stage e es at other = absurd (cc)
one Head stage e es at other =
    rw other
    (ap (λ (l : List Event). l ++ tabled_from Head (step stage e es).stage es) (append-nil (step stage e es).given))
one Between stage e es at other =
    rw other
    (ap (λ (l : List Event). l ++ tabled_from Between (step stage e es).stage es) (append-nil (step stage e es).given))
one Body stage e es at other =
    rw other
    (ap (λ (l : List Event). l ++ tabled_from Body (step stage e es).stage es) (append-nil (step stage e es).given))

-- The begin and the end of a part.

abbrev is : Kind → Name → Event → Event
is kind name e = record { kind = kind; name = name; point = e.point; link = e.link }

begins : (P : Event → Type 0) (test : Name → Bool) (e : Event) → is_enter e.kind && test e.name ≡ true →
    ((name : Name) → test name ≡ true → P (is Enter name e)) → P e
begins P test e h all =
    let both = and_parts (is_enter e.kind) (test e.name) h in go e.kind both.0 (all e.name both.1)
  where
    go : (k : Kind) → is_enter k ≡ true → P (is Enter e.name e) → P (is k e.name e)
    go Enter i put = put
    go Exit i put = absurd (cc)

ends : (P : Event → Type 0) (test : Name → Bool) (e : Event) → is_exit e.kind && test e.name ≡ true →
    ((name : Name) → test name ≡ true → P (is Exit name e)) → P e
ends P test e h all =
    let both = and_parts (is_exit e.kind) (test e.name) h in go e.kind both.0 (all e.name both.1)
  where
    go : (k : Kind) → is_exit k ≡ true → P (is Exit e.name e) → P (is k e.name e)
    go Exit i put = put
    go Enter i put = absurd (cc)

-- Names.

white-name : (P : Name → Type 0) → P n.SpaceOrTab → (name : Name) → is_white name ≡ true → P name
white-name P h n.SpaceOrTab is = h
white-name P h _ is = absurd (cc)

ending-name : (P : Name → Type 0) → P n.LineEnding → (name : Name) → is_ending name ≡ true → P name
ending-name P h n.LineEnding is = h
ending-name P h _ is = absurd (cc)

pipe-name : (P : Name → Type 0) → P n.GfmTableCellDivider → (name : Name) → is_divider name ≡ true → P name
pipe-name P h n.GfmTableCellDivider is = h
pipe-name P h _ is = absurd (cc)

text-name : (P : Name → Type 0) → P n.Data → (name : Name) → is_inner Text name ≡ true → P name
text-name P h n.Data is = h
text-name P h _ is = absurd (cc)

mark-name : (P : Name → Type 0) → P n.GfmTableDelimiterMarker → P n.GfmTableDelimiterFiller → (name : Name) →
    is_inner Delimiter name ≡ true → P name
mark-name P h g n.GfmTableDelimiterMarker is = h
mark-name P h g n.GfmTableDelimiterFiller is = g
mark-name P h g _ is = absurd (cc)

-- A pair of events, by what is given for the one and the other.
by-pair : (P : Event → Event → Type 0) (test : Name → Bool) (name : Name) →
    ((Q : Name → Type 0) → Q name → (m : Name) → test m ≡ true → Q m) → (a b : Event) → is_pair test a b ≡ true →
    P (is Enter name a) (is Exit name b) → P a b
by-pair P test name only a b h put =
    let both = and_parts (is_enter a.kind && test a.name) (is_exit b.kind && test b.name) h in
    begins (λ (x : Event). P x b) test a both.0
    (only (λ (m : Name). P (is Enter m a) b)
    (ends (λ (y : Event). P (is Enter name a) y) test b both.1
    (only (λ (m : Name). P (is Enter name a) (is Exit m b)) put)))

-- Whitespace in a cell.
pub white-proceeds : (section : Section) (k : RowKind) (a b : Event) (es : List Event) → in_table section ≡ true →
    is_pair is_white a b ≡ true →
    tabled_from section (Within k) (a ∷ b ∷ es) ≡ a ∷ b ∷ tabled_from section (Within k) es
white-proceeds section k a b es at h = go k
  where
    Proceeds : RowKind → Event → Event → Type 0
    Proceeds kind x y = tabled_from section (Within kind) (x ∷ y ∷ es) ≡ x ∷ y ∷ tabled_from section (Within kind) es

    go : (kind : RowKind) → Proceeds kind a b
    go Text =
        by-pair (Proceeds Text) is_white n.SpaceOrTab white-name a b h
        (one section (Within Text) (is Enter n.SpaceOrTab a) (is Exit n.SpaceOrTab b ∷ es) at refl
        ∙ ap (λ (l : List Event). is Enter n.SpaceOrTab a ∷ l)
        (one section (Within Text) (is Exit n.SpaceOrTab b) es at refl))
    go Delimiter =
        by-pair (Proceeds Delimiter) is_white n.SpaceOrTab white-name a b h
        (one section (Within Delimiter) (is Enter n.SpaceOrTab a) (is Exit n.SpaceOrTab b ∷ es) at refl
        ∙ ap (λ (l : List Event). is Enter n.SpaceOrTab a ∷ l)
        (one section (Within Delimiter) (is Exit n.SpaceOrTab b) es at refl))

-- A line ending between two rows.
pub ending-proceeds : (section : Section) (a b : Event) (es : List Event) → in_table section ≡ true →
    is_pair is_ending a b ≡ true →
    tabled_from section row.Outside (a ∷ b ∷ es) ≡ a ∷ b ∷ tabled_from section row.Outside es
ending-proceeds section a b es at h =
    by-pair
    (λ (x y : Event). tabled_from section row.Outside (x ∷ y ∷ es) ≡ x ∷ y ∷ tabled_from section row.Outside es)
    is_ending n.LineEnding ending-name a b h
    (one section row.Outside (is Enter n.LineEnding a) (is Exit n.LineEnding b ∷ es) at refl
    ∙ ap (λ (l : List Event). is Enter n.LineEnding a ∷ l)
    (one section row.Outside (is Exit n.LineEnding b) es at refl))

-- A row that begins, where no body begins with it.
row-name : (P : Name → RowKind → Type 0) → P n.GfmTableRow Text → P n.GfmTableDelimiterRow Delimiter → (name : Name)
    (k : RowKind) → row_kind name ≡ Some k → P name k
row-name P text marks n.GfmTableRow k h = let same : Text ≡ k = cc in subst (P n.GfmTableRow) same text
row-name P text marks n.GfmTableDelimiterRow k h =
    let same : Delimiter ≡ k = cc in subst (P n.GfmTableDelimiterRow) same marks
row-name P text marks _ k h = absurd (cc)

pub row-proceeds : (section : Section) (k : RowKind) (e : Event) (es : List Event) → in_table section ≡ true →
    is_between section ≡ false → begins_row e ≡ Some k →
    tabled_from section row.Outside (e ∷ es) ≡ e ∷ tabled_from section (Front k) es
row-proceeds section k e es at other h = go e.kind h
  where
    Proceeds : Section → Name → RowKind → Type 0
    Proceeds here name kind =
        tabled_from here row.Outside (is Enter name e ∷ es) ≡ is Enter name e ∷ tabled_from here (Front kind) es

    by : (here : Section) → in_table here ≡ true → is_between here ≡ false → (name : Name) → row_kind name ≡ Some k →
        Proceeds here name k
    by Outside t b name i = absurd (cc)
    by Between t b name i = absurd (cc)
    by Head t b name i = row-name (Proceeds Head) refl refl name k i
    by Body t b name i = row-name (Proceeds Body) refl refl name k i

    go : (kind : Kind) → cond (is_enter kind) (row_kind e.name) None ≡ Some k →
        tabled_from section row.Outside (is kind e.name e ∷ es) ≡ is kind e.name e ∷ tabled_from section (Front k) es
    go Enter i = by section at other e.name i
    go Exit i = absurd (cc)

-- A row of text that ends.
text-row : (P : Name → Type 0) → P n.GfmTableRow → (name : Name) → is_text_row name ≡ true → P name
text-row P h n.GfmTableRow is = h
text-row P h _ is = absurd (cc)

pub row-ends : (section : Section) (e : Event) (es : List Event) → in_table section ≡ true → ends_text_row e ≡ true →
    tabled_from section Following (e ∷ es) ≡ e ∷ tabled_from section row.Outside es
row-ends section e es at h =
    ends (λ (x : Event). tabled_from section Following (x ∷ es) ≡ x ∷ tabled_from section row.Outside es)
    is_text_row e h
    (text-row
    (λ (m : Name).
    tabled_from section Following (is Exit m e ∷ es) ≡ is Exit m e ∷ tabled_from section row.Outside es)
    (one section Following (is Exit n.GfmTableRow e) es at refl))

-- The end of the head,
delimiter-row : (P : Name → Type 0) → P n.GfmTableDelimiterRow → (name : Name) → is_delimiter_row name ≡ true → P name
delimiter-row P h n.GfmTableDelimiterRow is = h
delimiter-row P h _ is = absurd (cc)

pub head-ends : (section : Section) (e : Event) (es : List Event) → ends_head section e ≡ true →
    tabled_from section Following (e ∷ es) ≡ e ∷ exit n.GfmTableHead e.point ∷ tabled_from Between row.Outside es
head-ends Head e es h =
    ends
    (λ (x : Event).
    tabled_from Head Following (x ∷ es) ≡ x ∷ exit n.GfmTableHead x.point ∷ tabled_from Between row.Outside es)
    is_delimiter_row e h
    (delimiter-row
    (λ (m : Name).
    tabled_from Head Following (is Exit m e ∷ es)
    ≡ is Exit m e ∷ exit n.GfmTableHead e.point ∷ tabled_from Between row.Outside es)
    refl)
head-ends _ e es h = absurd (cc)

-- and the begin of the body.
pub body-begins : (section : Section) (e : Event) (es : List Event) → begins_body section e ≡ true →
    tabled_from section row.Outside (e ∷ es)
    ≡ enter n.GfmTableBody e.point ∷ e ∷ tabled_from Body (Front Text) es
body-begins Between e es h =
    begins
    (λ (x : Event).
    tabled_from Between row.Outside (x ∷ es)
    ≡ enter n.GfmTableBody x.point ∷ x ∷ tabled_from Body (Front Text) es)
    is_text_row e h
    (text-row
    (λ (m : Name).
    tabled_from Between row.Outside (is Enter m e ∷ es)
    ≡ enter n.GfmTableBody e.point ∷ is Enter m e ∷ tabled_from Body (Front Text) es)
    refl)
body-begins _ e es h = absurd (cc)

-- A pipe: before the first cell of a row,
pub front-proceeds : (section : Section) (k : RowKind) (a b : Event) (es : List Event) → in_table section ≡ true →
    is_pair is_divider a b ≡ true →
    tabled_from section (Front k) (a ∷ b ∷ es)
    ≡ enter (cell_name k) a.point ∷ a ∷ b ∷ tabled_from section (Within k) es
front-proceeds section k a b es at h = go k
  where
    Proceeds : RowKind → Event → Event → Type 0
    Proceeds kind x y =
        tabled_from section (Front kind) (x ∷ y ∷ es)
        ≡ enter (cell_name kind) x.point ∷ x ∷ y ∷ tabled_from section (Within kind) es

    first : Event
    first = is Enter n.GfmTableCellDivider a

    second : Event
    second = is Exit n.GfmTableCellDivider b

    go : (kind : RowKind) → Proceeds kind a b
    go Text =
        by-pair (Proceeds Text) is_divider n.GfmTableCellDivider pipe-name a b h
        (one section (Front Text) first (second ∷ es) at refl
        ∙ ap (λ (l : List Event). enter n.GfmTableCell a.point ∷ first ∷ l)
        (one section (Within Text) second es at refl))
    go Delimiter =
        by-pair (Proceeds Delimiter) is_divider n.GfmTableCellDivider pipe-name a b h
        (one section (Front Delimiter) first (second ∷ es) at refl
        ∙ ap (λ (l : List Event). enter n.GfmTableDelimiterCell a.point ∷ first ∷ l)
        (one section (Within Delimiter) second es at refl))

-- between two cells,
pub pipe-proceeds : (section : Section) (k : RowKind) (a b : Event) (es : List Event) → in_table section ≡ true →
    is_pair is_divider a b ≡ true → row_ends es ≡ false →
    tabled_from section (Within k) (a ∷ b ∷ es)
    ≡ exit (cell_name k) a.point ∷ enter (cell_name k) a.point ∷ a ∷ b ∷ tabled_from section (Within k) es
pipe-proceeds section k a b es at h more = go k
  where
    Proceeds : RowKind → Event → Event → Type 0
    Proceeds kind x y =
        tabled_from section (Within kind) (x ∷ y ∷ es)
        ≡ exit (cell_name kind) x.point ∷ enter (cell_name kind) x.point ∷ x ∷ y ∷ tabled_from section (Within kind) es

    first : Event
    first = is Enter n.GfmTableCellDivider a

    second : Event
    second = is Exit n.GfmTableCellDivider b

    first-proceeds : (kind : RowKind) →
        tabled_from section (Within kind) (first ∷ second ∷ es)
        ≡ exit (cell_name kind) a.point ∷ enter (cell_name kind) a.point ∷ first
        ∷ tabled_from section (Within kind) (second ∷ es)
    first-proceeds kind = one section (Within kind) first (second ∷ es) at refl ∙ rw more refl

    go : (kind : RowKind) → Proceeds kind a b
    go Text =
        by-pair (Proceeds Text) is_divider n.GfmTableCellDivider pipe-name a b h
        (first-proceeds Text
        ∙ ap (λ (l : List Event). exit n.GfmTableCell a.point ∷ enter n.GfmTableCell a.point ∷ first ∷ l)
        (one section (Within Text) second es at refl))
    go Delimiter =
        by-pair (Proceeds Delimiter) is_divider n.GfmTableCellDivider pipe-name a b h
        (first-proceeds Delimiter
        ∙ ap
        (λ (l : List Event). exit n.GfmTableDelimiterCell a.point ∷ enter n.GfmTableDelimiterCell a.point ∷ first ∷ l)
        (one section (Within Delimiter) second es at refl))

-- and the last of its row.
pub last-proceeds : (section : Section) (k : RowKind) (a b : Event) (es : List Event) → in_table section ≡ true →
    is_pair is_divider a b ≡ true → row_ends es ≡ true →
    tabled_from section (Within k) (a ∷ b ∷ es)
    ≡ a ∷ b ∷ exit (cell_name k) b.point ∷ tabled_from section Following es
last-proceeds section k a b es at h last =
    by-pair
    (λ (x y : Event).
    tabled_from section (Within k) (x ∷ y ∷ es)
    ≡ x ∷ y ∷ exit (cell_name k) y.point ∷ tabled_from section Following es)
    is_divider n.GfmTableCellDivider pipe-name a b h
    ((one section (Within k) first (second ∷ es) at refl ∙ rw last refl)
    ∙ ap (λ (l : List Event). first ∷ l) (one section (row.Last k) second es at refl))
  where
    first : Event
    first = is Enter n.GfmTableCellDivider a

    second : Event
    second = is Exit n.GfmTableCellDivider b

-- What a cell holds: its begin,
pub inner-begins : (section : Section) (k : RowKind) (e : Event) (es : List Event) → in_table section ≡ true →
    begins_inner k e ≡ true →
    tabled_from section (Within k) (e ∷ es) ≡ enter (inner_name k) e.point ∷ e ∷ tabled_from section (Inner k) es
inner-begins section k e es at h = go k h
  where
    Proceeds : RowKind → Event → Type 0
    Proceeds kind x =
        tabled_from section (Within kind) (x ∷ es)
        ≡ enter (inner_name kind) x.point ∷ x ∷ tabled_from section (Inner kind) es

    go : (kind : RowKind) → begins_inner kind e ≡ true → Proceeds kind e
    go Text i =
        begins (Proceeds Text) (is_inner Text) e i
        (text-name (λ (m : Name). Proceeds Text (is Enter m e))
        (one section (Within Text) (is Enter n.Data e) es at refl))
    go Delimiter i =
        begins (Proceeds Delimiter) (is_inner Delimiter) e i
        (mark-name (λ (m : Name). Proceeds Delimiter (is Enter m e))
        (one section (Within Delimiter) (is Enter n.GfmTableDelimiterMarker e) es at refl)
        (one section (Within Delimiter) (is Enter n.GfmTableDelimiterFiller e) es at refl))

-- its end,
pub inner-ends : (section : Section) (k : RowKind) (e : Event) (es : List Event) → in_table section ≡ true →
    ends_inner k e ≡ true → is_continued k es ≡ false →
    tabled_from section (Inner k) (e ∷ es) ≡ e ∷ exit (inner_name k) e.point ∷ tabled_from section (Within k) es
inner-ends section k e es at h whole = go k h whole
  where
    Proceeds : RowKind → Event → Type 0
    Proceeds kind x =
        tabled_from section (Inner kind) (x ∷ es)
        ≡ x ∷ exit (inner_name kind) x.point ∷ tabled_from section (Within kind) es

    go : (kind : RowKind) → ends_inner kind e ≡ true → is_continued kind es ≡ false → Proceeds kind e
    go Text i none =
        ends (Proceeds Text) (is_inner Text) e i
        (text-name (λ (m : Name). Proceeds Text (is Exit m e))
        (one section (Inner Text) (is Exit n.Data e) es at refl ∙ rw none refl))
    go Delimiter i none =
        ends (Proceeds Delimiter) (is_inner Delimiter) e i
        (mark-name (λ (m : Name). Proceeds Delimiter (is Exit m e))
        (one section (Inner Delimiter) (is Exit n.GfmTableDelimiterMarker e) es at refl ∙ rw none refl)
        (one section (Inner Delimiter) (is Exit n.GfmTableDelimiterFiller e) es at refl ∙ rw none refl))

-- whitespace and a further word after it: nothing is written until that has begun
inner-continues : (section : Section) (e : Event) (es : List Event) → in_table section ≡ true →
    ends_inner Text e ≡ true → is_continued Text es ≡ true →
    tabled_from section (Inner Text) (e ∷ es) ≡ tabled_from section (Inner Text) (drop 3 es)
inner-continues section e [] at h more = absurd (cc)
inner-continues section e (a ∷ []) at h more = absurd (cc)
inner-continues section e (a ∷ b ∷ []) at h more =
    let none : false ≡ true = (and_parts (is_white a.name && is_white b.name) false more).1 in
    absurd (cc)
inner-continues section e (a ∷ b ∷ x ∷ es) at h more =
    let both = and_parts (is_white a.name && is_white b.name) (begins_inner Text x) more in
    let white = and_parts (is_white a.name) (is_white b.name) both.0 in
    first ∙ gap a (b ∷ x ∷ es) white.0 ∙ gap b (x ∷ es) white.1
    ∙ begins (λ (y : Event). tabled_from section row.Gap (y ∷ es) ≡ tabled_from section (Inner Text) es)
    (is_inner Text) x both.1
    (text-name
    (λ (m : Name). tabled_from section row.Gap (is Enter m x ∷ es) ≡ tabled_from section (Inner Text) es)
    (one section row.Gap (is Enter n.Data x) es at refl))
  where
    rest : List Event
    rest = a ∷ b ∷ x ∷ es

    first : tabled_from section (Inner Text) (e ∷ rest) ≡ tabled_from section row.Gap rest
    first =
        ends (λ (y : Event). tabled_from section (Inner Text) (y ∷ rest) ≡ tabled_from section row.Gap rest)
        (is_inner Text) e h
        (text-name
        (λ (m : Name). tabled_from section (Inner Text) (is Exit m e ∷ rest) ≡ tabled_from section row.Gap rest)
        (one section (Inner Text) (is Exit n.Data e) rest at refl ∙ rw more refl))

    gap : (y : Event) (ys : List Event) → is_white y.name ≡ true →
        tabled_from section row.Gap (y ∷ ys) ≡ tabled_from section row.Gap ys
    gap y ys is_one =
        white-name (λ (m : Name). tabled_from section row.Gap (is y.kind m y ∷ ys) ≡ tabled_from section row.Gap ys)
        (by-kind y.kind) y.name is_one
      where
        by-kind : (kind : Kind) →
            tabled_from section row.Gap (is kind n.SpaceOrTab y ∷ ys) ≡ tabled_from section row.Gap ys
        by-kind Enter = one section row.Gap (is Enter n.SpaceOrTab y) ys at refl
        by-kind Exit = one section row.Gap (is Exit n.SpaceOrTab y) ys at refl

pub inner-joins : (section : Section) (k : RowKind) (events : List Event) (d : Event) → k ≡ Text →
    in_table section ≡ true → 1 ≤ length events → ends_inner k (get_or events 0 d) ≡ true →
    is_continued k (drop 1 events) ≡ true →
    tabled_from section (Inner k) (drop 4 events) ≡ tabled_from section (Inner k) events
inner-joins section Delimiter events d is_text at some h more = absurd (cc)
inner-joins section Text [] d is_text at some h more = absurd (omega arith)
inner-joins section Text (e ∷ es) d is_text at some h more = sym (inner-continues section e es at h more)

-- and both at once.
pub inner-whole : (section : Section) (k : RowKind) (a b : Event) (es : List Event) → in_table section ≡ true →
    is_pair (is_inner k) a b ≡ true → is_continued k es ≡ false →
    tabled_from section (Within k) (a ∷ b ∷ es)
    ≡ enter (inner_name k) a.point ∷ a ∷ b ∷ exit (inner_name k) b.point ∷ tabled_from section (Within k) es
inner-whole section k a b es at h whole =
    let both = and_parts (begins_inner k a) (ends_inner k b) h in
    inner-begins section k a (b ∷ es) at both.0
    ∙ ap (λ (l : List Event). enter (inner_name k) a.point ∷ a ∷ l) (inner-ends section k b es at both.1 whole)

-- What is given so is what the walk gives in all.
pub gives : (old new given before after : List Event) → new ≡ old ++ given → before ≡ given ++ after →
    new ++ after ≡ old ++ before
gives old new given before after put proceeds = rw (put, proceeds) (append_assoc old given after)

-- The first two of some events.
pub two-first : (events : List Event) (d : Event) → 2 ≤ length events →
    get_or events 0 d ∷ get_or events 1 d ∷ drop 2 events ≡ events
two-first [] d long = absurd (omega arith)
two-first (a ∷ []) d long = absurd (omega arith)
two-first (a ∷ b ∷ es) d long = refl

-- The first of some.
pub one-first : (events : List Event) (d : Event) → 1 ≤ length events → get_or events 0 d ∷ drop 1 events ≡ events
one-first [] d long = absurd (omega arith)
one-first (a ∷ es) d long = refl
