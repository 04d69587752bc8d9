-- What cells in rows keep of the events, and what is outside of rows. Each row is known from its own events.
use Rattle.std.proofs.Common.{◌≡◌, Bool, true, false, cond, ◌&&◌, List, [], ◌∷◌, ◌++◌, drop}
use Rattle.std.proofs.Common.{Option, Some, None, refl, sym, ◌∙◌, ap}
use Rattle.std.specs.List.{All}
use Rattle.std.proofs.lemmas.Bool.{and_parts}
use Rattle.std.proofs.lemmas.List.Elements.{All-cons, All-nil}
use Rattle.md_engine.specs.declared.event.Event.{Event}
use Rattle.md_engine.specs.declared.event.Kind.{Kind}
use Rattle.md_engine.specs.declared.event.Kind.TheVariants.{Enter, Exit}
use Rattle.md_engine.specs.declared.event.Name.{Name}
use Rattle.md_engine.specs.declared.event.Name.TheVariants as n
use Rattle.md_events.specs.Events.Nested.{enter, exit, is_enter, is_exit}
use Rattle.md_tables.specs.Cells.{Step, begins_divider, begins_inner, begins_row, cell_name, divider_step}
use Rattle.md_tables.specs.Cells.{ends_divider, ends_inner, ends_row, ends_with, first_is, front_step, is_continued}
use Rattle.md_tables.specs.Cells.{has_white, inner_name, inner_step, inside_step, is_divider, is_last, is_row, is_white}
use Rattle.md_tables.specs.Cells.{last_step, outside_step, passed, piece_step, row_ends, row_kind, step, within_step}
use Rattle.md_tables.specs.declared.cells.RowKind.{RowKind}
use Rattle.md_tables.specs.declared.cells.RowKind.TheVariants.{Delimiter, Text}
use Rattle.md_tables.specs.declared.cells.Stage.{Stage}
use Rattle.md_tables.specs.declared.cells.Stage.TheVariants.{Following, Front, Gap, Inner, Last, Outside, Within}

-- What is put around events.

-- the names of the parts of a table that are put around others
abbrev pub is_put : Name → Bool
is_put n.GfmTableHead = true
is_put n.GfmTableBody = true
is_put n.GfmTableCell = true
is_put n.GfmTableCellText = true
is_put n.GfmTableDelimiterCell = true
is_put n.GfmTableDelimiterCellValue = true
is_put _ = false

-- what holds of an event continues to hold of one of these that is put where it is
abbrev pub KeptOver : (Event → Type 0) → Type 0
KeptOver P = (kind : Kind) (name : Name) (e : Event) → is_put name ≡ true → P e →
    P (record { kind = kind; name = name; point = e.point; link = None })

put-cell : (P : Event → Type 0) → KeptOver P → (k : RowKind) (kind : Kind) (e : Event) → P e →
    P (record { kind = kind; name = cell_name k; point = e.point; link = None })
put-cell P over Text kind e h = over kind n.GfmTableCell e refl h
put-cell P over Delimiter kind e h = over kind n.GfmTableDelimiterCell e refl h

put-inner : (P : Event → Type 0) → KeptOver P → (k : RowKind) (kind : Kind) (e : Event) → P e →
    P (record { kind = kind; name = inner_name k; point = e.point; link = None })
put-inner P over Text kind e h = over kind n.GfmTableCellText e refl h
put-inner P over Delimiter kind e h = over kind n.GfmTableDelimiterCellValue e refl h

pub one-kept : (P : Event → Type 0) (e : Event) → P e → All P (e ∷ [])
one-kept P e h = All-cons P e [] h (All-nil P)

two-kept : (P : Event → Type 0) (e f : Event) → P e → P f → All P (e ∷ f ∷ [])
two-kept P e f h k = All-cons P e (f ∷ []) h (one-kept P f k)

three-kept : (P : Event → Type 0) (e f g : Event) → P e → P f → P g → All P (e ∷ f ∷ g ∷ [])
three-kept P e f g h k m = All-cons P e (f ∷ g ∷ []) h (two-kept P f g k m)

-- so it holds of all that is given for an event
ends-kept : (P : Event → Type 0) (over : KeptOver P) (stage : Stage) (e : Event) → P e → All P (ends_with stage e)
ends-kept P over Outside e h = one-kept P e h
ends-kept P over (Front k) e h = one-kept P e h
ends-kept P over (Within k) e h = two-kept P (exit (cell_name k) e.point) e (put-cell P over k Exit e h) h
ends-kept P over (Inner k) e h = one-kept P e h
ends-kept P over Gap e h = one-kept P e h
ends-kept P over (Last k) e h = one-kept P e h
ends-kept P over Following e h = one-kept P e h

front-kept : (P : Event → Type 0) (over : KeptOver P) (k : RowKind) (e : Event) → P e → All P (front_step k e).given
front-kept P over k e h = go (begins_divider e) (begins_inner k e)
  where
    go : (x y : Bool) →
        All P
        (cond x (record { given = enter (cell_name k) e.point ∷ e ∷ []; stage = Within k })
        (cond y
        (record { given = enter (cell_name k) e.point ∷ enter (inner_name k) e.point ∷ e ∷ []; stage = Inner k })
        (passed e (Front k)))).given
    go true y = two-kept P (enter (cell_name k) e.point) e (put-cell P over k Enter e h) h
    go false true =
        three-kept P (enter (cell_name k) e.point) (enter (inner_name k) e.point) e (put-cell P over k Enter e h)
        (put-inner P over k Enter e h) h
    go false false = one-kept P e h

divider-kept : (P : Event → Type 0) (over : KeptOver P) (k : RowKind) (e : Event) (x : Bool) → P e →
    All P (divider_step k e x).given
divider-kept P over k e true h = one-kept P e h
divider-kept P over k e false h =
    three-kept P (exit (cell_name k) e.point) (enter (cell_name k) e.point) e (put-cell P over k Exit e h)
    (put-cell P over k Enter e h) h

within-kept : (P : Event → Type 0) (over : KeptOver P) (k : RowKind) (e : Event) (es : List Event) → P e →
    All P (within_step k e es).given
within-kept P over k e es h = go (begins_divider e) (begins_inner k e)
  where
    go : (x y : Bool) →
        All P
        (cond x (divider_step k e (is_last es))
        (cond y (record { given = enter (inner_name k) e.point ∷ e ∷ []; stage = Inner k })
        (passed e (Within k)))).given
    go true y = divider-kept P over k e (is_last es) h
    go false true = two-kept P (enter (inner_name k) e.point) e (put-inner P over k Enter e h) h
    go false false = one-kept P e h

piece-kept : (P : Event → Type 0) (over : KeptOver P) (k : RowKind) (e : Event) (x : Bool) → P e →
    All P (piece_step k e x).given
piece-kept P over Text e true h = All-nil P
piece-kept P over Delimiter e true h = one-kept P e h
piece-kept P over Text e false h = two-kept P e (exit (inner_name Text) e.point) h (put-inner P over Text Exit e h)
piece-kept P over Delimiter e false h =
    two-kept P e (exit (inner_name Delimiter) e.point) h (put-inner P over Delimiter Exit e h)

inner-kept : (P : Event → Type 0) (over : KeptOver P) (k : RowKind) (e : Event) (es : List Event) → P e →
    All P (inner_step k e es).given
inner-kept P over k e es h = go (ends_inner k e)
  where
    go : (x : Bool) → All P (cond x (piece_step k e (is_continued k es)) (passed e (Inner k))).given
    go true = piece-kept P over k e (is_continued k es) h
    go false = one-kept P e h

last-kept : (P : Event → Type 0) (over : KeptOver P) (k : RowKind) (e : Event) → P e → All P (last_step k e).given
last-kept P over k e h = go (ends_divider e)
  where
    go : (x : Bool) →
        All P
        (cond x (record { given = e ∷ exit (cell_name k) e.point ∷ []; stage = Following }) (passed e (Last k))).given
    go true = two-kept P e (exit (cell_name k) e.point) h (put-cell P over k Exit e h)
    go false = one-kept P e h

outside-kept : (P : Event → Type 0) (over : KeptOver P) (e : Event) (o : Option RowKind) → P e →
    All P (outside_step e o).given
outside-kept P over e None h = one-kept P e h
outside-kept P over e (Some k) h = one-kept P e h

inside-kept : (P : Event → Type 0) (over : KeptOver P) (stage : Stage) (e : Event) (es : List Event) → P e →
    All P (inside_step stage e es).given
inside-kept P over Outside e es h = outside-kept P over e (begins_row e) h
inside-kept P over (Front k) e es h = front-kept P over k e h
inside-kept P over (Within k) e es h = within-kept P over k e es h
inside-kept P over (Inner k) e es h = inner-kept P over k e es h
inside-kept P over Gap e es h = All-nil P
inside-kept P over (Last k) e es h = last-kept P over k e h
inside-kept P over Following e es h = one-kept P e h

pub step-kept : (P : Event → Type 0) (over : KeptOver P) (stage : Stage) (e : Event) (es : List Event) → P e →
    All P (step stage e es).given
step-kept P over stage e es h = go (ends_row e)
  where
    go : (x : Bool) →
        All P (cond x (record { given = ends_with stage e; stage = Outside }) (inside_step stage e es)).given
    go true = ends-kept P over stage e h
    go false = inside-kept P over stage e es h

-- Outside of rows.

outside-kind : (name : Name) → is_row name ≡ false → row_kind name ≡ None
outside-kind name h = go (row_kind name) h
  where
    go : (o : Option RowKind) → (elim o [ None ↦ false | Some k ↦ true ]) ≡ false → o ≡ None
    go None h = refl
    go (Some k) h = cc

-- an event of no row stays as it is
pub outside-step : (e : Event) (es : List Event) → is_row e.name ≡ false → step Outside e es ≡ passed e Outside
outside-step e es h = by e.kind
  where
    none : row_kind e.name ≡ None
    none = outside-kind e.name h

    by : (k : Kind) →
        cond (is_exit k && is_row e.name) (record { given = ends_with Outside e; stage = Outside })
        (outside_step e (cond (is_enter k) (row_kind e.name) None)) ≡
        passed e Outside
    by Enter = rw none refl
    by Exit = rw h refl

-- Row by row.

-- the end of a row is no whitespace, no pipe, and nothing that a cell holds
row-dark : (name : Name) → is_row name ≡ true → is_white name ≡ false
row-dark n.SpaceOrTab h = let no : false ≡ true = h in cc
row-dark _ h = refl

row-whole : (name : Name) → is_row name ≡ true → is_divider name ≡ false
row-whole n.GfmTableCellDivider h = let no : false ≡ true = h in cc
row-whole _ h = refl

row-end : (e : Event) → ends_row e ≡ true → is_row e.name ≡ true
row-end e h = (and_parts (is_exit e.kind) (is_row e.name) h).1

-- looks ahead do not go beyond it
pub record Looks (xs ys : List Event) : Type 0 where
  pub last : is_last xs ≡ is_last ys
  pub on : (k : RowKind) → is_continued k xs ≡ is_continued k ys

white-looks : (es rest : List Event) (e : Event) → ends_row e ≡ true →
    has_white (es ++ e ∷ rest) ≡ has_white (es ++ e ∷ [])
white-looks [] [] e h = refl
white-looks [] (f ∷ rest) e h = rw (row-dark e.name (row-end e h)) refl
white-looks (a ∷ []) rest e h = refl
white-looks (a ∷ b ∷ es) rest e h = refl

first-looks : (test : Event → Bool) (es rest : List Event) (e : Event) →
    first_is test (es ++ e ∷ rest) ≡ first_is test (es ++ e ∷ [])
first-looks test [] rest e = refl
first-looks test (a ∷ es) rest e = refl

-- what follows whitespace there
following-looks : (test : Event → Bool) (es rest : List Event) (e : Event) → ends_row e ≡ true →
    has_white (es ++ e ∷ []) ≡ true →
    first_is test (drop 2 (es ++ e ∷ rest)) ≡ first_is test (drop 2 (es ++ e ∷ []))
following-looks test [] rest e h white = cc
following-looks test (a ∷ []) rest e h white =
    let dark = row-dark e.name (row-end e h) in
    let light = (and_parts (is_white a.name) (is_white e.name) white).1 in
    let no : false ≡ true = sym dark ∙ light in cc
following-looks test (a ∷ b ∷ es) rest e h white = first-looks test es rest e

row-looks : (es rest : List Event) (e : Event) → ends_row e ≡ true →
    row_ends (es ++ e ∷ rest) ≡ row_ends (es ++ e ∷ [])
row-looks es rest e h = rw (white-looks es rest e h) (go (has_white (es ++ e ∷ [])) refl)
  where
    go : (x : Bool) → has_white (es ++ e ∷ []) ≡ x →
        first_is ends_row (cond x (drop 2 (es ++ e ∷ rest)) (es ++ e ∷ rest)) ≡
        first_is ends_row (cond x (drop 2 (es ++ e ∷ [])) (es ++ e ∷ []))
    go true white = following-looks ends_row es rest e h white
    go false white = first-looks ends_row es rest e

pub last-looks : (es rest : List Event) (e : Event) → ends_row e ≡ true →
    is_last (es ++ e ∷ rest) ≡ is_last (es ++ e ∷ [])
last-looks [] rest e h =
    let no_pipe : ends_divider e ≡ false = rw (row-whole e.name (row-end e h)) (no-and (is_exit e.kind)) in
    rw no_pipe refl
  where
    no-and : (x : Bool) → x && false ≡ false
    no-and true = refl
    no-and false = refl
last-looks (a ∷ es) rest e h = ap (λ (x : Bool). ends_divider a && x) (row-looks es rest e h)

pub on-looks : (k : RowKind) (es rest : List Event) (e : Event) → ends_row e ≡ true →
    is_continued k (es ++ e ∷ rest) ≡ is_continued k (es ++ e ∷ [])
on-looks Text es rest e h = rw (white-looks es rest e h) (go (has_white (es ++ e ∷ [])) refl)
  where
    go : (x : Bool) → has_white (es ++ e ∷ []) ≡ x →
        x && first_is (begins_inner Text) (drop 2 (es ++ e ∷ rest)) ≡
        x && first_is (begins_inner Text) (drop 2 (es ++ e ∷ []))
    go true white = following-looks (begins_inner Text) es rest e h white
    go false white = refl
on-looks Delimiter es rest e h = first-looks (begins_inner Delimiter) es rest e

-- so a step does not either
pub step-looks : (stage : Stage) (x : Event) (es fs : List Event) → Looks es fs → step stage x es ≡ step stage x fs
step-looks stage x es fs looks =
    ap (λ (s : Step). cond (ends_row x) (record { given = ends_with stage x; stage = Outside }) s) (go stage)
  where
    go : (t : Stage) → inside_step t x es ≡ inside_step t x fs
    go Outside = refl
    go (Front k) = refl
    go (Within k) = rw looks.last refl
    go (Inner k) = rw (looks.on k) refl
    go Gap = refl
    go (Last k) = refl
    go Following = refl
