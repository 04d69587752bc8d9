-- Where heads, bodies and cells are put into tables, the events nest as before.
use Rattle.std.proofs.Common.{◌≡◌, Bool, true, false, cond, ◌&&◌, ◌||◌, List, [], ◌∷◌, ◌++◌, Option, None, refl, ap}
use Rattle.std.proofs.Common.{sym, ◌∙◌, subst, append-nil}
use Rattle.std.proofs.lemmas.Bool.{and_right}
use Rattle.md_engine.specs.declared.event.Event.{Event}
use Rattle.md_engine.specs.declared.event.Kind.{Kind}
use Rattle.md_engine.specs.declared.event.Kind.TheVariants.{Enter, Exit}
use Rattle.md_engine.specs.declared.event.Name.{Name}
use Rattle.md_engine.specs.declared.event.Name.TheVariants as n
use Rattle.md_engine.specs.declared.event.Point.{Point}
use Rattle.md_events.specs.Events.Nested.{Fits, Nested, around, enter, exit, is_enter, is_exit, open_following, pair}
use Rattle.md_events.specs.Events.Places.{first_point}
use Rattle.md_events.proofs.NestedLemmas.{at_or_before-refl}
use Rattle.md_tables.specs.Cells.{Step, begins_row, ends_row, ends_with, inside_step, is_row, row_kind, step}
use Rattle.md_tables.specs.Heads.{is_table}
use Rattle.md_tables.specs.TableLines.{row_name}
use Rattle.md_tables.specs.Tabled.{begins_table, following, bound_by, bound_of, in_front, next, tabled, tabled_from}
use Rattle.md_tables.specs.Tabled.{with_cells}
use Rattle.md_tables.specs.declared.cells.RowKind.{RowKind}
use Rattle.md_tables.specs.declared.cells.RowKind.TheVariants.{Delimiter, Text}
use Rattle.md_tables.specs.declared.cells.Stage.{Stage}
use Rattle.md_tables.specs.declared.cells.Stage.TheVariants as row
use Rattle.md_tables.specs.declared.tables.Bound.{Bound}
use Rattle.md_tables.specs.declared.tables.Bound.TheVariants.{BeginsTable, Other}
use Rattle.md_tables.specs.declared.tables.Section.{Section}
use Rattle.md_tables.specs.declared.tables.Section.TheVariants as part
use Rattle.md_tables.proofs.CellsLemmas.{outside-step}
use Rattle.md_order.specs.Left.{ends_table}
use Rattle.md_order.specs.TablesNest.{InRow, InTable, MayOccur, Outside, Place, RowsAllowed, TablesNest, is_delimiter}
use Rattle.md_order.specs.TablesNest.{place_following, within}
use Rattle.md_order.proofs.Names.{table-begin}
use Rattle.md_order.proofs.Nests.Cells.{Proceeds as CellContinues, IsIn, cell-proceeds, opened, row-ends}
use Rattle.md_order.proofs.Nests.Leads.{Before, Under, following-under, fits-inside, leads-append, leads-event}
use Rattle.md_order.proofs.Nests.Leads.{leads-under, nested-under, under-event, under-leads, under-nested, under-rest}

-- Where the walk is.

-- what the section of a table has open
abbrev has_open : Section → List Name
has_open part.Outside = []
has_open part.Head = n.GfmTableHead ∷ []
has_open part.Between = []
has_open part.Body = n.GfmTableBody ∷ []

-- the head ends with the delimiter row
abbrev IsSection : Bool → Section → Type 0
IsSection false part.Head = Unit {0}
IsSection true part.Between = Unit {0}
IsSection true part.Body = Unit {0}
IsSection _ _ = ⊥

abbrev Valid : Place → Section → Stage → List Event → Type 0
Valid Outside part.Outside stage es = Unit {0}
Valid (InTable headed names) s row.Outside es = IsSection headed s
Valid (InRow headed k names) s stage es = IsSection headed s × IsIn k stage names es
Valid _ _ _ _ = ⊥

-- what is open where the rest begins, and after what was given
abbrev open_read : Place → List Name → List Name
open_read Outside outer = outer
open_read (InTable headed names) outer = names ++ n.GfmTable ∷ outer
open_read (InRow headed k names) outer = names ++ row_name k ∷ n.GfmTable ∷ outer

abbrev open_given : Place → Section → Stage → List Name → List Name
open_given Outside s stage outer = outer
open_given (InTable headed names) s stage outer = names ++ (has_open s ++ n.GfmTable ∷ outer)
open_given (InRow headed k names) s stage outer =
    opened stage names ++ row_name k ∷ (has_open s ++ n.GfmTable ∷ outer)

-- What is shown of a walk over some events, wherever it is.
abbrev Proceeds : List Event → List Name → Place → Section → Stage → Point → Type 0
Proceeds es outer place s stage p =
    Valid place s stage es → RowsAllowed place es → Under (open_read place outer) p es →
    Under (open_given place s stage outer) p (tabled_from s stage es)

abbrev IsContinued : List Event → Type 0
IsContinued es =
    (outer : List Name) (place : Place) (s : Section) (stage : Stage) (p : Point) → Proceeds es outer place s stage p

-- Events that bound no part of a table.

abbrev is_quiet : Bound → Bool
is_quiet Other = true
is_quiet BeginsTable = true
is_quiet _ = false

quiet-bound : (e : Event) → is_row e.name ≡ false → ends_table e ≡ false → is_quiet (bound_of e) ≡ true
quiet-bound e no_row on = go e.kind e.name no_row on
  where
    go : (kind : Kind) (name : Name) → is_row name ≡ false → (is_exit kind && is_table name) ≡ false →
        is_quiet (bound_by kind name) ≡ true
    go Enter n.GfmTable h k = refl
    go Enter n.GfmTableRow h k = absurd (let no : true ≡ false = h in cc)
    go Enter _ h k = refl
    go Exit n.GfmTable h k = absurd (let no : true ≡ false = k in cc)
    go Exit n.GfmTableDelimiterRow h k = absurd (let no : true ≡ false = h in cc)
    go Exit _ h k = refl

no-section : (headed : Bool) → IsSection headed part.Outside → ⊥
no-section true h = h
no-section false h = h

-- what is given for one is known from its row
quiet-given : (headed : Bool) (s : Section) (stage : Stage) (e : Event) (es : List Event) → IsSection headed s →
    is_quiet (bound_of e) ≡ true →
    tabled_from s stage (e ∷ es) ≡ (step stage e es).given ++ tabled_from s (step stage e es).stage es
quiet-given headed s stage e es is quiet = go s (bound_of e) is quiet
  where
    itself : Step
    itself = step stage e es

    given : (s : Section) →
        (itself.given ++ []) ++ tabled_from s itself.stage es ≡ itself.given ++ tabled_from s itself.stage es
    given s = ap (λ (l : List Event). l ++ tabled_from s itself.stage es) (append-nil itself.given)

    go : (s : Section) (b : Bound) → IsSection headed s → is_quiet b ≡ true →
        (in_front s b e.point ++ (with_cells s stage e es).given ++ following s b e.point)
        ++ tabled_from (next s b) (with_cells s stage e es).stage es
        ≡ itself.given ++ tabled_from s itself.stage es
    go part.Outside b h k = absurd (no-section headed h)
    go part.Head Other h k = given part.Head
    go part.Head BeginsTable h k = given part.Head
    go part.Head _ h k = absurd (let no : false ≡ true = k in cc)
    go part.Between Other h k = given part.Between
    go part.Between BeginsTable h k = given part.Between
    go part.Between _ h k = absurd (let no : false ≡ true = k in cc)
    go part.Body Other h k = given part.Body
    go part.Body BeginsTable h k = given part.Body
    go part.Body _ h k = absurd (let no : false ≡ true = k in cc)

-- Outside of tables.
outer-step : (e : Event) (es : List Event) → IsContinued es → (outer : List Name) (stage : Stage) (p : Point) →
    Proceeds (e ∷ es) outer Outside part.Outside stage p
outer-step e es more outer stage p valid asks h = go (bound_of e) refl asks.1
  where
    here : Before e.point e.point
    here = at_or_before-refl e.point

    names : List Name
    names = open_following outer e.kind e.name

    rest : Under names e.point es
    rest = under-rest e es h

    head : Event
    head = enter n.GfmTableHead e.point

    begun : begins_table (bound_of e) ≡ true → names ≡ n.GfmTable ∷ outer
    begun is =
        let begins = table-begin e is in
        ap (λ (k : Kind). open_following outer k e.name) begins.0 ∙ ap (λ (m : Name). m ∷ outer) begins.1

    passes : RowsAllowed Outside es → Under outer p (e ∷ tabled_from part.Outside row.Outside es)
    passes k =
        under-event e (tabled_from part.Outside row.Outside es) h.matches.0 h.forward.0
        (more names Outside part.Outside row.Outside e.point tt k rest)

    go : (b : Bound) → bound_of e ≡ b → RowsAllowed (cond (begins_table b) (InTable false []) Outside) es →
        Under outer p
        ((in_front part.Outside b e.point ++ (e ∷ []) ++ following part.Outside b e.point)
        ++ tabled_from (next part.Outside b) row.Outside es)
    go BeginsTable is k =
        let same : names ≡ n.GfmTable ∷ outer = begun (ap begins_table is) in
        let inside : List Event = tabled_from part.Head row.Outside es in
        under-event e (head ∷ inside) h.matches.0 h.forward.0
        (under-event head inside tt here
        (subst (λ (l : List Name). Under (n.GfmTableHead ∷ l) e.point inside) (sym same)
        (more outer (InTable false []) part.Head row.Outside e.point tt k
        (subst (λ (l : List Name). Under l e.point es) same rest))))
    go _ is k = passes k

-- In a table: a row begins.

abbrev Begins : List Event → List Name → Bool → Section → Point → List Name → Event → Type 0
Begins es outer headed s p names e =
    RowsAllowed (place_following (InTable headed names) e) es → Under (names ++ n.GfmTable ∷ outer) p (e ∷ es) →
    Under (names ++ (has_open s ++ n.GfmTable ∷ outer)) p (tabled_from s row.Outside (e ∷ es))

begins-at : (k : RowKind) (e : Event) (es : List Event) → IsContinued es →
    (outer : List Name) (headed : Bool) (s : Section)
    (p : Point) → IsSection headed s → Begins es outer headed s p [] (record e { kind = Enter; name = row_name k })
begins-at Text e es more outer false part.Head p is asks h =
    let f : Event = record e { kind = Enter; name = n.GfmTableRow } in
    under-event f (tabled_from part.Head (row.Front Text) es) tt h.forward.0
    (more outer (InRow false Text []) part.Head (row.Front Text) e.point (tt, refl) asks (under-rest f es h))
begins-at Text e es more outer true part.Between p is asks h =
    let f : Event = record e { kind = Enter; name = n.GfmTableRow } in
    let inside : List Event = tabled_from part.Body (row.Front Text) es in
    under-event (enter n.GfmTableBody e.point) (f ∷ inside) tt h.forward.0
    (under-event f inside tt (at_or_before-refl e.point)
    (more outer (InRow true Text []) part.Body (row.Front Text) e.point (tt, refl) asks (under-rest f es h)))
begins-at Text e es more outer true part.Body p is asks h =
    let f : Event = record e { kind = Enter; name = n.GfmTableRow } in
    under-event f (tabled_from part.Body (row.Front Text) es) tt h.forward.0
    (more outer (InRow true Text []) part.Body (row.Front Text) e.point (tt, refl) asks (under-rest f es h))
begins-at Delimiter e es more outer false part.Head p is asks h =
    let f : Event = record e { kind = Enter; name = n.GfmTableDelimiterRow } in
    under-event f (tabled_from part.Head (row.Front Delimiter) es) tt h.forward.0
    (more outer (InRow false Delimiter []) part.Head (row.Front Delimiter) e.point (tt, refl) asks (under-rest f es h))
begins-at Delimiter e es more outer true part.Between p is asks h =
    let f : Event = record e { kind = Enter; name = n.GfmTableDelimiterRow } in
    under-event f (tabled_from part.Between (row.Front Delimiter) es) tt h.forward.0
    (more outer (InRow true Delimiter []) part.Between (row.Front Delimiter) e.point (tt, refl) asks
    (under-rest f es h))
begins-at Delimiter e es more outer true part.Body p is asks h =
    let f : Event = record e { kind = Enter; name = n.GfmTableDelimiterRow } in
    under-event f (tabled_from part.Body (row.Front Delimiter) es) tt h.forward.0
    (more outer (InRow true Delimiter []) part.Body (row.Front Delimiter) e.point (tt, refl) asks (under-rest f es h))
begins-at k e es more outer headed s p is asks h = absurd is

row-of : (name : Name) → is_row name ≡ true → (k : RowKind) × (name ≡ row_name k)
row-of n.GfmTableRow h = (Text, refl)
row-of n.GfmTableDelimiterRow h = (Delimiter, refl)
row-of _ h = absurd (let no : false ≡ true = h in cc)

begins-proceeds : (e : Event) (es : List Event) → IsContinued es → (outer : List Name) (headed : Bool) (s : Section)
    (p : Point) → IsSection headed s → (names : List Name) → is_row e.name ≡ true → e.kind ≡ Enter → names ≡ [] →
    Begins es outer headed s p names e
begins-proceeds e es more outer headed s p is names row_is enters none =
    let k = row-of e.name row_is in
    subst (λ (l : List Name). Begins es outer headed s p l e) (sym none)
    (subst (λ (kind : Kind). Begins es outer headed s p [] (record e { kind = kind })) (sym enters)
    (subst (λ (name : Name). Begins es outer headed s p [] (record e { kind = Enter; name = name })) (sym k.1)
    (begins-at k.0 e es more outer headed s p is)))

-- The table ends.

ends-at : (e : Event) (es : List Event) → IsContinued es → (outer : List Name) (s : Section) (p : Point) →
    IsSection true s → Begins es outer true s p [] (record e { kind = Exit; name = n.GfmTable })
ends-at e es more outer part.Between p is asks h =
    let f : Event = record e { kind = Exit; name = n.GfmTable } in
    under-event f (tabled es) refl h.forward.0
    (more outer Outside part.Outside row.Outside e.point tt asks (under-rest f es h))
ends-at e es more outer part.Body p is asks h =
    let f : Event = record e { kind = Exit; name = n.GfmTable } in
    under-event (exit n.GfmTableBody e.point) (f ∷ tabled es) refl h.forward.0
    (under-event f (tabled es) refl (at_or_before-refl e.point)
    (more outer Outside part.Outside row.Outside e.point tt asks (under-rest f es h)))
ends-at e es more outer s p is asks h = absurd is

table-ended : (e : Event) → ends_table e ≡ true → (e.kind ≡ Exit) × (e.name ≡ n.GfmTable)
table-ended e h = go e.kind e.name h
  where
    go : (kind : Kind) (name : Name) → (is_exit kind && is_table name) ≡ true → (kind ≡ Exit) × (name ≡ n.GfmTable)
    go Exit n.GfmTable h = (refl, refl)
    go Exit _ h = absurd (let no : false ≡ true = h in cc)
    go Enter _ h = absurd (let no : false ≡ true = h in cc)

ends-proceeds : (e : Event) (es : List Event) → IsContinued es →
    (outer : List Name) (headed : Bool) (s : Section) (p : Point) →
    IsSection headed s → (names : List Name) → ends_table e ≡ true → headed ≡ true → names ≡ [] →
    Begins es outer headed s p names e
ends-proceeds e es more outer headed s p is names ends after_head none =
    let ended = table-ended e ends in
    subst (λ (l : List Name). Begins es outer headed s p l e) (sym none)
    (subst (λ (kind : Kind). Begins es outer headed s p [] (record e { kind = kind })) (sym ended.0)
    (subst (λ (name : Name). Begins es outer headed s p [] (record e { kind = Exit; name = name })) (sym ended.1)
    (subst
    (λ (x : Bool). IsSection x s → Begins es outer x s p [] (record e { kind = Exit; name = n.GfmTable }))
    (sym after_head) (ends-at e es more outer s p) is)))

-- Any other event of a table stays as it is.

no-kind : (name : Name) → is_row name ≡ false → row_kind name ≡ None
no-kind n.GfmTableRow h = absurd (let no : true ≡ false = h in cc)
no-kind n.GfmTableDelimiterRow h = absurd (let no : true ≡ false = h in cc)
no-kind _ h = refl

no-row : (e : Event) → is_row e.name ≡ false → begins_row e ≡ None
no-row e h = go e.kind
  where
    go : (kind : Kind) → cond (is_enter kind) (row_kind e.name) None ≡ None
    go Enter = no-kind e.name h
    go Exit = refl

-- it does not end the table
no-end : (e : Event) → ends_table e ≡ false → e.kind ≡ Exit → n.GfmTable ≡ e.name → ⊥
no-end e on exits named =
    absurd (let no : true ≡ false = sym (ap is_exit exits) ∙ whole ∙ on in cc)
  where
    and-one : (x : Bool) → x ≡ (x && true)
    and-one true = refl
    and-one false = refl

    whole : is_exit e.kind ≡ ends_table e
    whole = and-one (is_exit e.kind) ∙ ap (λ (m : Name). is_exit e.kind && is_table m) named

other-proceeds : (e : Event) (es : List Event) → IsContinued es → (outer : List Name) (headed : Bool) (s : Section)
    (p : Point) → IsSection headed s → (names : List Name) → is_row e.name ≡ false → ends_table e ≡ false →
    Begins es outer headed s p names e
other-proceeds e es more outer headed s p is names no_row on asks h =
    subst (Under (names ++ given) p)
    (sym
    (quiet-given headed s row.Outside e es is (quiet-bound e no_row on)
    ∙ ap (λ (t : Step). t.given ++ tabled_from s t.stage es) (outside-step e es no_row)))
    (under-leads (e ∷ []) (tabled_from s row.Outside es)
    (leads-under given (e ∷ []) (leads-event names p e fits h.forward.0))
    (more outer (InTable headed following_names) s row.Outside e.point is
    (subst (λ (x : Bool). RowsAllowed (cond x Outside (InTable headed following_names)) es) on
    (subst (λ (o : Option RowKind). RowsAllowed (cond (ends_table e) Outside (within headed following_names o)) es)
    (no-row e no_row) asks))
    (subst (λ (l : List Name). Under l e.point es) (following-under names (n.GfmTable ∷ outer) e fits)
    (under-rest e es h))))
  where
    given : List Name
    given = has_open s ++ n.GfmTable ∷ outer

    following_names : List Name
    following_names = open_following names e.kind e.name

    fits : Fits names e.kind e.name
    fits = fits-inside names n.GfmTable outer e (no-end e on) h.matches.0

table-step : (e : Event) (es : List Event) → IsContinued es → (outer : List Name) (headed : Bool) (names : List Name)
    (s : Section) (p : Point) → Proceeds (e ∷ es) outer (InTable headed names) s row.Outside p
table-step e es more outer headed names s p is asks h =
    go (is_row e.name) (ends_table e) refl refl
  where
    go : (x y : Bool) → is_row e.name ≡ x → ends_table e ≡ y →
        Under (names ++ (has_open s ++ n.GfmTable ∷ outer)) p (tabled_from s row.Outside (e ∷ es))
    go true y row_is ends =
        let at = asks.0.0 row_is in
        begins-proceeds e es more outer headed s p is names row_is at.0 at.1 asks.1 h
    go false true row_is ends =
        let at = asks.0.1 ends in
        ends-proceeds e es more outer headed s p is names ends at.0 at.1 asks.1 h
    go false false row_is ends = other-proceeds e es more outer headed s p is names row_is ends asks.1 h

-- In a row: its end.

abbrev Ends : List Event → List Name → Bool → RowKind → Section → Stage → Point → List Name → Event → Type 0
Ends es outer headed k s stage p names e =
    IsIn k stage names (e ∷ es) → RowsAllowed (place_following (InRow headed k names) e) es →
    Under (names ++ row_name k ∷ n.GfmTable ∷ outer) p (e ∷ es) →
    Under (opened stage names ++ row_name k ∷ (has_open s ++ n.GfmTable ∷ outer)) p (tabled_from s stage (e ∷ es))

-- the events of the row end there
row-under : (k : RowKind) (e : Event) (es : List Event) → IsContinued es →
    (outer : List Name) (headed : Bool) (s : Section)
    (stage : Stage) (p : Point) → IsSection headed s →
    let f : Event = record e { kind = Exit; name = row_name k } in
    IsIn k stage [] (f ∷ es) → RowsAllowed (InTable headed []) es →
    Under (row_name k ∷ n.GfmTable ∷ outer) p (f ∷ es) →
    Under (opened stage [] ++ row_name k ∷ (has_open s ++ n.GfmTable ∷ outer)) p
    (ends_with stage f ++ tabled_from s row.Outside es)
row-under k e es more outer headed s stage p is at asks h =
    let f : Event = record e { kind = Exit; name = row_name k } in
    under-leads (ends_with stage f) (tabled_from s row.Outside es)
    (row-ends k stage (has_open s ++ n.GfmTable ∷ outer) p f es refl refl at h.forward.0)
    (more outer (InTable headed []) s row.Outside e.point is asks (under-rest f es h))

text-ends : (e : Event) (es : List Event) → IsContinued es → (outer : List Name) (headed : Bool) (s : Section)
    (stage : Stage) (p : Point) → IsSection headed s →
    Ends es outer headed Text s stage p [] (record e { kind = Exit; name = n.GfmTableRow })
text-ends e es more outer headed s stage p is at asks h =
    let f : Event = record e { kind = Exit; name = n.GfmTableRow } in
    subst (Under (opened stage [] ++ n.GfmTableRow ∷ (has_open s ++ n.GfmTable ∷ outer)) p)
    (sym (quiet-given headed s stage f es is refl))
    (row-under Text e es more outer headed s stage p is at (same headed asks) h)
  where
    same : (x : Bool) → RowsAllowed (InTable (x || false) []) es → RowsAllowed (InTable x []) es
    same true k = k
    same false k = k

delimiter-ends : (e : Event) (es : List Event) → IsContinued es → (outer : List Name) (headed : Bool) (s : Section)
    (stage : Stage) (p : Point) → IsSection headed s →
    Ends es outer headed Delimiter s stage p [] (record e { kind = Exit; name = n.GfmTableDelimiterRow })
delimiter-ends e es more outer false part.Head stage p is at asks h =
    let f : Event = record e { kind = Exit; name = n.GfmTableDelimiterRow } in
    let end : Event = exit n.GfmTableHead e.point in
    let xs : List Event = ends_with stage f in
    let inside : List Name = n.GfmTableHead ∷ n.GfmTable ∷ outer in
    under-leads (xs ++ end ∷ []) (tabled_from part.Between row.Outside es)
    (leads-append xs (end ∷ []) (row-ends Delimiter stage inside p f es refl refl at h.forward.0)
    (leads-event inside e.point end refl (at_or_before-refl e.point)))
    (more outer (InTable true []) part.Between row.Outside e.point tt asks (under-rest f es h))
delimiter-ends e es more outer true part.Between stage p is at asks h =
    let f : Event = record e { kind = Exit; name = n.GfmTableDelimiterRow } in
    let given : List Name = opened stage [] ++ n.GfmTableDelimiterRow ∷ n.GfmTable ∷ outer in
    subst (λ (l : List Event). Under given p (l ++ tabled_from part.Between row.Outside es))
    (sym (append-nil (ends_with stage f)))
    (row-under Delimiter e es more outer true part.Between stage p tt at asks h)
delimiter-ends e es more outer true part.Body stage p is at asks h =
    let f : Event = record e { kind = Exit; name = n.GfmTableDelimiterRow } in
    let given : List Name = opened stage [] ++ n.GfmTableDelimiterRow ∷ n.GfmTableBody ∷ n.GfmTable ∷ outer in
    subst (λ (l : List Event). Under given p (l ++ tabled_from part.Body row.Outside es))
    (sym (append-nil (ends_with stage f)))
    (row-under Delimiter e es more outer true part.Body stage p tt at asks h)
delimiter-ends e es more outer headed s stage p is at asks h = absurd is

ends-row : (k : RowKind) (e : Event) (es : List Event) → IsContinued es →
    (outer : List Name) (headed : Bool) (s : Section)
    (stage : Stage) (p : Point) → IsSection headed s →
    Ends es outer headed k s stage p [] (record e { kind = Exit; name = row_name k })
ends-row Text e es more outer headed s stage p is = text-ends e es more outer headed s stage p is
ends-row Delimiter e es more outer headed s stage p is = delimiter-ends e es more outer headed s stage p is

-- what ends is the row
row-is : (k : RowKind) (outer : List Name) (e : Event) (names : List Name) → e.kind ≡ Exit → names ≡ [] →
    Fits (names ++ row_name k ∷ outer) e.kind e.name → row_name k ≡ e.name
row-is k outer e names exits none fits =
    subst (λ (kind : Kind). Fits (row_name k ∷ outer) kind e.name) exits
    (subst (λ (l : List Name). Fits (l ++ row_name k ∷ outer) e.kind e.name) none fits)

row-ended : (k : RowKind) (e : Event) (es : List Event) → IsContinued es →
    (outer : List Name) (headed : Bool) (s : Section)
    (stage : Stage) (p : Point) → IsSection headed s → (names : List Name) → e.kind ≡ Exit → names ≡ [] →
    row_name k ≡ e.name → Ends es outer headed k s stage p names e
row-ended k e es more outer headed s stage p is names exits none named =
    subst (λ (l : List Name). Ends es outer headed k s stage p l e) (sym none)
    (subst (λ (kind : Kind). Ends es outer headed k s stage p [] (record e { kind = kind })) (sym exits)
    (subst (λ (name : Name). Ends es outer headed k s stage p [] (record e { kind = Exit; name = name })) named
    (ends-row k e es more outer headed s stage p is)))

-- Any other event of a row.

no-row-end : (k : RowKind) (e : Event) → is_row e.name ≡ false → e.kind ≡ Exit → row_name k ≡ e.name → ⊥
no-row-end k e no_row exits named =
    absurd (let no : true ≡ false = sym (rows k) ∙ ap is_row named ∙ no_row in cc)
  where
    rows : (k : RowKind) → is_row (row_name k) ≡ true
    rows Text = refl
    rows Delimiter = refl

inside-proceeds : (k : RowKind) (e : Event) (es : List Event) → IsContinued es → (outer : List Name) (headed : Bool)
    (s : Section) (stage : Stage) (p : Point) → IsSection headed s → (names : List Name) →
    MayOccur (InRow headed k names) e → is_row e.name ≡ false → Ends es outer headed k s stage p names e
inside-proceeds k e es more outer headed s stage p is names may no_row at asks h =
    subst (Under (opened stage names ++ given) p)
    (sym
    (quiet-given headed s stage e es is (quiet-bound e no_row may.1)
    ∙ ap (λ (t : Step). t.given ++ tabled_from s t.stage es) no_end_step))
    (under-leads t.given (tabled_from s t.stage es) (leads-under given t.given proceeds.leads)
    (more outer (InRow headed k following_names) s t.stage e.point (is, proceeds.is_in)
    (subst
    (λ (x : Bool). RowsAllowed (cond x (InTable (headed || is_delimiter k) []) (InRow headed k following_names)) es)
    no_end asks)
    (subst (λ (l : List Name). Under l e.point es)
    (following-under names (row_name k ∷ n.GfmTable ∷ outer) e fits) (under-rest e es h))))
  where
    given : List Name
    given = row_name k ∷ (has_open s ++ n.GfmTable ∷ outer)

    following_names : List Name
    following_names = open_following names e.kind e.name

    t : Step
    t = inside_step stage e es

    fits : Fits names e.kind e.name
    fits = fits-inside names (row_name k) (n.GfmTable ∷ outer) e (no-row-end k e no_row) h.matches.0

    no_end : ends_row e ≡ false
    no_end = and_right (is_exit e.kind) (is_row e.name) no_row

    no_end_step : step stage e es ≡ t
    no_end_step =
        ap (λ (x : Bool). cond x (record { given = ends_with stage e; stage = row.Outside }) t) no_end

    proceeds : CellContinues k stage names p e es t
    proceeds = cell-proceeds k stage names p e es (record { fits = fits; on = h.forward.0; alone = may.2 }) at

row-step : (e : Event) (es : List Event) → IsContinued es → (outer : List Name) (headed : Bool) (k : RowKind)
    (names : List Name) (s : Section) (stage : Stage) (p : Point) →
    Proceeds (e ∷ es) outer (InRow headed k names) s stage p
row-step e es more outer headed k names s stage p at asks h = go (is_row e.name) refl
  where
    go : (x : Bool) → is_row e.name ≡ x →
        Under (opened stage names ++ row_name k ∷ (has_open s ++ n.GfmTable ∷ outer)) p
        (tabled_from s stage (e ∷ es))
    go true row_is =
        let ends = asks.0.0 row_is in
        row-ended k e es more outer headed s stage p at.0 names ends.0 ends.1
        (row-is k (n.GfmTable ∷ outer) e names ends.0 ends.1 h.matches.0) at.1 asks.1 h
    go false row_is = inside-proceeds k e es more outer headed s stage p at.0 names asks.0 row_is at.1 asks.1 h

-- All events.

not-none : (names : List Name) (name : Name) (outer : List Name) → names ++ name ∷ outer ≡ [] → ⊥
not-none [] name outer h = absurd (let no : name ∷ outer ≡ [] = h in cc)
not-none (m ∷ names) name outer h = absurd (let no : m ∷ (names ++ name ∷ outer) ≡ [] = h in cc)

tabled-under : (es : List Event) → IsContinued es
tabled-under [] outer Outside s stage p at asks h = h
tabled-under [] outer (InTable headed names) s stage p at asks h = absurd (not-none names n.GfmTable outer h.closed)
tabled-under [] outer (InRow headed k names) s stage p at asks h =
    absurd (not-none names (row_name k) (n.GfmTable ∷ outer) h.closed)
tabled-under (e ∷ es) outer Outside part.Outside stage p at asks h =
    outer-step e es (tabled-under es) outer stage p at asks h
tabled-under (e ∷ es) outer (InTable headed names) s row.Outside p at asks h =
    table-step e es (tabled-under es) outer headed names s p at asks h
tabled-under (e ∷ es) outer (InRow headed k names) s stage p at asks h =
    row-step e es (tabled-under es) outer headed k names s stage p at asks h
tabled-under (e ∷ es) outer place s stage p at asks h = absurd at

-- Where the rows of each table are by themselves, a nested list stays nested.
pub tables-nested : (es : List Event) → TablesNest es → Nested es → Nested (tabled es)
tables-nested es rows h =
    under-nested (tabled es)
    (tabled-under es [] Outside part.Outside row.Outside first_point tt rows (nested-under es h))

-- The rows of a table as its states give it, of one cell, are so.

never : {A : Type 0} → false ≡ true → A
never h = absurd (let no : false ≡ true = h in cc)

sample : (p q : Point) →
    TablesNest
    (around n.GfmTable p q
    (around n.GfmTableRow p q (pair n.Data p q)
    ++ around n.GfmTableDelimiterRow p q (pair n.GfmTableDelimiterFiller p q)))
sample p q = (
  tt,
  (
    (λ k. (refl, refl), never),
    (
      (never, refl, λ k. refl),
      (
        (never, refl, λ k. refl),
        (
          (λ k. (refl, refl), refl, λ k. refl),
          (
            (λ k. (refl, refl), never),
            (
              (never, refl, λ k. refl),
              ((never, refl, λ k. refl), ((λ k. (refl, refl), refl, λ k. refl), ((never, λ k. (refl, refl)), tt))),
            ),
          ),
        ),
      ),
    ),
  ),
)
