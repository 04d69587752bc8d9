-- A line of a table is taken as a whole, or refused.
use Rattle.std.proofs.Common.{◌≡◌, ℕ, Bool, true, false, ◌&&◌, List, ◌++◌, refl, sym, ◌∙◌, ap, append_assoc}
use Rattle.md_engine.specs.declared.configuration.ParseOptions.{ParseOptions}
use Rattle.md_engine.specs.declared.event.Event.{Event}
use Rattle.md_engine.specs.declared.tokenizer.Scratch.{Scratch}
use Rattle.md_engine.specs.declared.tokenizer.held_leaf.HeldLeaf.{HeldLeaf}
use Rattle.md_engine.specs.declared.tokenizer.held_leaf.HeldLeaf.TheVariants as held_leaf
use Rattle.md_engine.specs.declared.tokenizer.held_leaf.OpenText.{OpenText}
use Rattle.md_engine.specs.Meaning.{Accepts, Cell, Here, Outcome, Refuses}
use Rattle.md_engine.specs.World.{Flags}
use Rattle.md_events.specs.Ahead.{begins_white, from_ending, line_bytes, line_cells, line_end, white_rest}
use Rattle.md_events.specs.Spaces.{IsRest, calmed, small_indent}
use Rattle.md_events.proofs.AheadLemmas.{none-end, none-rest, white-ending, white-line_end}
use Rattle.md_tables.specs.Delimiter.{uncounted}
use Rattle.md_tables.specs.DelimiterRule.{Apart, Front, Place, Run, delimiter_at, fits, in_row, row_closes, runs}
use Rattle.md_tables.specs.GfmTable.{asking_columns, may_head}
use Rattle.md_tables.specs.GfmTableLine.{delimiter_adds, delimiter_fits, is_row_of, row_adds, table_adds, table_takes}
use Rattle.md_tables.specs.GfmTableRule.{head_at, table_at, table_by}
use Rattle.md_tables.specs.RowRule as row
use Rattle.md_tables.specs.declared.row.Row.TheVariants.{Body}

-- a line that ends with these events, with a table open after it
abbrev pub line_taken : List Event → List Cell → Here → Outcome
line_taken added cells h =
    Accepts
    (record h {
      events = h.events ++ added;
      point = line_end cells h.point;
      flags = record h.flags { leaf = held_leaf.Table };
    })
    (from_ending cells)

-- Delimiter rows.

-- what is left of one after its indent
row-taken : (run : Run) (place : Place) (cells : List Cell) (h : Here) →
    fits place h.scratch (line_bytes cells) ≡ true →
    in_row run place cells h ≡
    Accepts
    (record h {
      events = h.events ++ runs run (line_cells cells) h.point ++ row_closes (line_end cells h.point);
      point = line_end cells h.point;
      scratch = uncounted h.scratch;
      flags = record h.flags { leaf = held_leaf.Table };
    })
    (from_ending cells)
unfolding in_row
row-taken run place cells h e = rw e refl

row-refused : (run : Run) (place : Place) (cells : List Cell) (h : Here) →
    fits place h.scratch (line_bytes cells) ≡ false → in_row run place cells h ≡ Refuses (uncounted h.scratch) h.flags
unfolding in_row
row-refused run place cells h e = rw e refl

-- how many cells it is asked for does not outlast it
uncount : (columns : ℕ) (s : Scratch) → IsRest s → uncounted (calmed (asking_columns columns s)) ≡ s
uncount columns s is = ap (λ (t : Scratch). uncounted (calmed (asking_columns columns t))) is ∙ sym is

unask : (columns : ℕ) (s : Scratch) → IsRest s → uncounted (asking_columns columns s) ≡ s
unask columns s is = ap (λ (t : Scratch). uncounted (asking_columns columns t)) is ∙ sym is

-- whether it fits hangs on that alone, after whitespace and where there is none
asked-white : (columns : ℕ) (s : Scratch) (bytes : List ℕ) (x : Bool) → IsRest s → is_row_of columns bytes ≡ x →
    fits Front (calmed (asking_columns columns s)) bytes ≡ x
asked-white columns s bytes x is e = ap (λ (t : Scratch). fits Front (calmed (asking_columns columns t)) bytes) is ∙ e

asked-none : (columns : ℕ) (s : Scratch) (bytes : List ℕ) (x : Bool) → IsRest s → is_row_of columns bytes ≡ x →
    fits Front (asking_columns columns s) bytes ≡ x
asked-none columns s bytes x is e = ap (λ (t : Scratch). fits Front (asking_columns columns t) bytes) is ∙ e

-- the line without an indent
unindented : (options : ParseOptions) (columns : ℕ) (cells : List Cell) (x : Bool) → begins_white cells ≡ false →
    delimiter_fits options columns cells ≡ x → is_row_of columns (line_bytes cells) ≡ x
unindented options columns cells x none e =
    sym (ap (λ (left : List Cell). is_row_of columns (line_bytes left)) (none-rest (small_indent options) cells none))
    ∙ e

-- A delimiter row that fits is taken,
delimiter-took : (options : ParseOptions) (columns : ℕ) (cells : List Cell) (h : Here) → IsRest h.scratch →
    delimiter_fits options columns cells ≡ true →
    delimiter_at options cells (record h { scratch = asking_columns columns h.scratch }) ≡
    line_taken (delimiter_adds options cells h.point) cells h
unfolding delimiter_at
delimiter-took options columns cells h is e = go (begins_white cells) refl
  where
    room : ℕ
    room = small_indent options

    go : (x : Bool) → begins_white cells ≡ x →
        delimiter_at options cells (record h { scratch = asking_columns columns h.scratch }) ≡
        line_taken (delimiter_adds options cells h.point) cells h
    go true white =
        rw white
        (row-taken Apart Front (white_rest room cells) _
        (asked-white columns h.scratch (line_bytes (white_rest room cells)) true is e)
        ∙ rw (white-ending room cells, white-line_end room cells h.point, uncount columns h.scratch is)
        (simp append_assoc))
    go false none =
        rw (none, none-rest room cells none, none-end room cells h.point none)
        (row-taken Apart Front cells _
        (asked-none columns h.scratch (line_bytes cells) true is (unindented options columns cells true none e))
        ∙ rw (unask columns h.scratch is) (simp append_assoc))

-- and any other line is refused.
delimiter-refused : (options : ParseOptions) (columns : ℕ) (cells : List Cell) (h : Here) → IsRest h.scratch →
    delimiter_fits options columns cells ≡ false →
    delimiter_at options cells (record h { scratch = asking_columns columns h.scratch }) ≡ Refuses h.scratch h.flags
unfolding delimiter_at
delimiter-refused options columns cells h is e = go (begins_white cells) refl
  where
    room : ℕ
    room = small_indent options

    go : (x : Bool) → begins_white cells ≡ x →
        delimiter_at options cells (record h { scratch = asking_columns columns h.scratch }) ≡
        Refuses h.scratch h.flags
    go true white =
        rw white
        (row-refused Apart Front (white_rest room cells) _
        (asked-white columns h.scratch (line_bytes (white_rest room cells)) false is e)
        ∙ ap (λ (s : Scratch). Refuses s h.flags) (uncount columns h.scratch is))
    go false none =
        rw none
        (row-refused Apart Front cells _
        (asked-none columns h.scratch (line_bytes cells) false is (unindented options columns cells false none e))
        ∙ ap (λ (s : Scratch). Refuses s h.flags) (unask columns h.scratch is))

-- Rows of the body.

-- where a table is open, it is open after the line
row-took : (cells : List Cell) (h : Here) → h.flags.leaf ≡ held_leaf.Table →
    row.in_row Body row.Apart cells (record h { events = h.events ++ row.row_opens Body h.point }) ≡
    line_taken (row_adds cells h.point) cells h
unfolding row.in_row
row-took cells h on = taken ∙ ap (λ (g : Flags). left g) same
  where
    left : Flags → Outcome
    left g =
        Accepts
        (record h { events = h.events ++ row_adds cells h.point; point = line_end cells h.point; flags = g })
        (from_ending cells)

    taken :
        row.in_row Body row.Apart cells (record h { events = h.events ++ row.row_opens Body h.point }) ≡ left h.flags
    taken = simp append_assoc

    same : h.flags ≡ record h.flags { leaf = held_leaf.Table }
    same = ap (λ (leaf : HeldLeaf). record h.flags { leaf = leaf }) on

-- Any line.

pub table-took : (options : ParseOptions) (cells : List Cell) (h : Here) → IsRest h.scratch →
    table_takes options h.flags.leaf cells ≡ true →
    table_at options cells h ≡ line_taken (table_adds options h.flags.leaf cells h.point) cells h
unfolding table_at
table-took options cells h is e = go h.flags.leaf refl e
  where
    head : (text : OpenText) (x : Bool) → x && delimiter_fits options text.columns cells ≡ true →
        head_at options text x cells h ≡ line_taken (delimiter_adds options cells h.point) cells h
    head text true e = delimiter-took options text.columns cells h is e
    head text false e = cc

    go : (on : HeldLeaf) → h.flags.leaf ≡ on → table_takes options on cells ≡ true →
        table_by options on cells h ≡ line_taken (table_adds options on cells h.point) cells h
    go (held_leaf.Text text) met e = head text (may_head options text) e
    go held_leaf.Table met e = row-took cells h met
    go _ met e = cc

pub table-refused : (options : ParseOptions) (cells : List Cell) (h : Here) → IsRest h.scratch →
    table_takes options h.flags.leaf cells ≡ false → table_at options cells h ≡ Refuses h.scratch h.flags
unfolding table_at
table-refused options cells h is e = go h.flags.leaf e
  where
    head : (text : OpenText) (x : Bool) → x && delimiter_fits options text.columns cells ≡ false →
        head_at options text x cells h ≡ Refuses h.scratch h.flags
    head text true e = delimiter-refused options text.columns cells h is e
    head text false e = refl

    go : (on : HeldLeaf) → table_takes options on cells ≡ false →
        table_by options on cells h ≡ Refuses h.scratch h.flags
    go (held_leaf.Text text) e = head text (may_head options text) e
    go held_leaf.Table e = cc
    go _ e = refl
