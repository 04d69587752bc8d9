-- The rule of a delimiter row, as what is left of it at each state (GFM 4.10).
use Rattle.std.specs.Prelude.{◌≡◌, ℕ, ◌+◌, Bool, true, false, ◌==◌, if◌then◌else◌, List, [], ◌∷◌, ◌++◌}
use Rattle.md_engine.specs.declared.configuration.ParseOptions.{ParseOptions}
use Rattle.md_engine.specs.declared.event.Event.{Event}
use Rattle.md_engine.specs.declared.event.Name.TheVariants.{GfmTable, GfmTableCellDivider, GfmTableDelimiterFiller}
use Rattle.md_engine.specs.declared.event.Name.TheVariants.{GfmTableDelimiterMarker, GfmTableDelimiterRow, SpaceOrTab}
use Rattle.md_engine.specs.declared.event.Point.{Point}
use Rattle.md_engine.specs.declared.state.Name.TheVariants as n
use Rattle.md_engine.specs.declared.state.gfm_table.State.{State as TableState}
use Rattle.md_engine.specs.declared.state.gfm_table.State.TheVariants as its
use Rattle.md_engine.specs.declared.tokenizer.Scratch.{Scratch}
use Rattle.md_engine.specs.declared.tokenizer.held_leaf.HeldLeaf.TheVariants as held_leaf
use Rattle.md_engine.specs.Meaning.{Accepts, Behaviour, Cell, Here, Outcome, Refuses}
use Rattle.md_meaning.specs.Ascii.{colon, hyphen, pipe}
use Rattle.md_meaning.specs.Rest.{is_white}
use Rattle.md_leaves.specs.Further.{further_link}
use Rattle.md_events.specs.Ahead.{HasWhite, begins_white, from_ending, line_bytes, line_cells, line_end, white_end}
use Rattle.md_events.specs.Ahead.{white_rest}
use Rattle.md_events.specs.Events.Nested.{enter, enter_link, exit}
use Rattle.md_events.specs.Spaces.{calmed, small_indent}
use Rattle.md_tables.specs.Delimiter.{Aligns, Dash, Divides, IsOfDelimiter, Mark, White, is_counted, mark_of, uncounted}

-- where in a row a place lies
pub data Place : Type 0 where
  -- before the first cell
  Front : Place
  -- after a pipe, where a cell may begin
  Open : Place
  -- after the colon at the front of a cell
  Left : Place
  -- in its dashes
  Dashes : Place
  -- after a cell
  Following : Place

-- what a byte does there
pub data Move : Type 0 where
  Proceeds : Place → Move
  -- it begins the dashes of a cell
  Counts : Move
  -- it is a colon or a pipe
  Marks : Place → Move
  -- it may not be there
  Fails : Move

abbrev pub move : Place → Mark → Move
move Front Divides = Marks Open
move Front Aligns = Marks Left
move Front Dash = Counts
move Open White = Proceeds Open
move Open Aligns = Marks Left
move Open Dash = Counts
move Left Dash = Counts
move Dashes White = Proceeds Following
move Dashes Divides = Marks Open
move Dashes Aligns = Marks Following
move Dashes Dash = Proceeds Dashes
move Following White = Proceeds Following
move Following Divides = Marks Open
move _ _ = Fails

-- whether a row may end there
abbrev pub may_end : Place → Bool
may_end Front = false
may_end Open = true
may_end Left = false
may_end Dashes = true
may_end Following = true

abbrev pub counted : Scratch → Scratch
counted s = record s { size = s.size + 1 }

abbrev pub met : Scratch → Scratch
met s = record s { seen = true }

-- what a byte leads to
abbrev pub led : Move → Scratch → (Place → Scratch → Bool) → Bool
led (Proceeds q) s on = on q s
led Counts s on = on Dashes (counted s)
led (Marks q) s on = on q (met s)
led Fails s on = false

-- whether what is left of a row ends it, with as many cells as the head has
abbrev pub fits : Place → Scratch → List ℕ → Bool
fits p s [] = if may_end p then is_counted s else false
fits p s (b ∷ bs) = led (move p (mark_of b)) s (λ q t. fits q t bs)

-- in which run of a line a place lies
pub data Run : Type 0 where
  -- between two runs
  Apart : Run
  Space : Run
  -- after a pipe, and after a colon
  Pipe : Run
  Colon : Run
  Filler : Run

-- the run that begins with this byte
abbrev pub begun : ℕ → Run
begun b = if is_white b then Space else if b == pipe then Pipe else if b == colon then Colon else Filler

abbrev pub is_continued : Run → ℕ → Bool
is_continued Apart b = false
is_continued Space b = is_white b
is_continued Pipe b = false
is_continued Colon b = false
is_continued Filler b = b == hyphen

-- the events at the begin and at the end of a run
abbrev pub opens : Run → Point → List Event
opens Apart p = []
opens Space p = enter SpaceOrTab p ∷ []
opens Pipe p = enter GfmTableCellDivider p ∷ []
opens Colon p = enter GfmTableDelimiterMarker p ∷ []
opens Filler p = enter GfmTableDelimiterFiller p ∷ []

abbrev pub closes : Run → Point → List Event
closes Apart p = []
closes Space p = exit SpaceOrTab p ∷ []
closes Pipe p = exit GfmTableCellDivider p ∷ []
closes Colon p = exit GfmTableDelimiterMarker p ∷ []
closes Filler p = exit GfmTableDelimiterFiller p ∷ []

-- the runs that are left of a line: each is one part, as long as it can be
abbrev pub runs : Run → List Cell → Point → List Event
runs run [] p = closes run p
runs run (c ∷ cs) p =
    if is_continued run c.byte then runs run cs c.after
    else closes run p ++ opens (begun c.byte) p ++ runs (begun c.byte) cs c.after

abbrev pub row_opens : Point → List Event
row_opens p = enter_link GfmTable p further_link ∷ enter GfmTableDelimiterRow p ∷ []

abbrev pub row_closes : Point → List Event
row_closes p = exit GfmTableDelimiterRow p ∷ exit GfmTable p ∷ []

-- a row to the end of the line, if it fits: a table is open after it
unfoldable pub in_row : Run → Place → List Cell → Here → Outcome
in_row run place cells h =
    let p = line_end cells h.point in
    if fits place h.scratch (line_bytes cells)
    then Accepts
    (record h {
      events = h.events ++ runs run (line_cells cells) h.point ++ row_closes p;
      point = p;
      scratch = uncounted h.scratch;
      flags = record h.flags { leaf = held_leaf.Table };
    })
    (from_ending cells)
    else Refuses (uncounted h.scratch) h.flags

-- after whitespace that is passed at once, where there was some
unfoldable pub following_white : Place → List Cell → Here → Outcome
following_white place cells h =
    if begins_white cells then Refuses (uncounted h.scratch) h.flags else in_row Apart place cells h

-- the whole rule: a small indent, and a row after it
unfoldable pub delimiter_at : ParseOptions → List Cell → Here → Outcome
delimiter_at options cells h =
    let begun_here = record h { events = h.events ++ row_opens h.point } in
    let room = small_indent options in
    let p = white_end room cells h.point in
    if begins_white cells
    then in_row Apart Front (white_rest room cells) (record begun_here {
      events = begun_here.events ++ enter SpaceOrTab h.point ∷ exit SpaceOrTab p ∷ [];
      point = p;
      scratch = calmed h.scratch;
    })
    else in_row Apart Front cells begun_here

-- what is left at each state
abbrev pub delimiter_behaves : ParseOptions → TableState → List Cell → Here → Outcome
delimiter_behaves options its.HeadDelimiterStart cells h = delimiter_at options cells h
delimiter_behaves options its.HeadDelimiterBefore cells h = in_row Apart Front cells h
delimiter_behaves options its.HeadDelimiterCellBefore cells h = in_row Apart Open cells h
delimiter_behaves options its.HeadDelimiterValueBefore cells h = following_white Open cells h
delimiter_behaves options its.HeadDelimiterLeftAlignmentAfter cells h = in_row Apart Left cells h
delimiter_behaves options its.HeadDelimiterFiller cells h = in_row Filler Dashes cells h
delimiter_behaves options its.HeadDelimiterRightAlignmentAfter cells h = in_row Apart Following cells h
delimiter_behaves options its.HeadDelimiterCellAfter cells h = following_white Following cells h
delimiter_behaves options _ cells h = Refuses (uncounted h.scratch) h.flags

pub record HasDelimiter (B : Behaviour) (options : ParseOptions) : Type 0 where
  pub white : HasWhite B
  pub each : (state : TableState) → IsOfDelimiter state → (cells : List Cell) (h : Here) →
      B (n.GfmTable state) cells h ≡ delimiter_behaves options state cells h
