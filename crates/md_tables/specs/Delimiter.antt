-- The delimiter row of a table (GFM 4.10): what its states do.
use Rattle.std.specs.Prelude.{refl, ℕ, ◌+◌, ◌≤◌, Bool, true, false, ◌&&◌, ◌==◌, if◌then◌else◌, Option, Some, None}
use Rattle.md_engine.specs.declared.event.Name.{Name}
use Rattle.md_engine.specs.declared.event.Name.TheVariants.{GfmTable, GfmTableCellDivider, GfmTableDelimiterFiller}
use Rattle.md_engine.specs.declared.event.Name.TheVariants.{GfmTableDelimiterMarker, GfmTableDelimiterRow}
use Rattle.md_engine.specs.declared.state.Name.{Name as StateName}
use Rattle.md_engine.specs.declared.state.Name.TheVariants as n
use Rattle.md_engine.specs.declared.state.gfm_table.State.{State as TableState}
use Rattle.md_engine.specs.declared.state.gfm_table.State.TheVariants as its
use Rattle.md_engine.specs.declared.state.State.TheVariants.{Ok, Nok, Next, Retry}
use Rattle.md_engine.specs.declared.tokenizer.Scratch.{Scratch}
use Rattle.md_engine.specs.declared.tokenizer.held_leaf.HeldLeaf.TheVariants as held_leaf
use Rattle.md_engine.specs.Scheme.{After, Ends, Rank, Scheme, Position, cells_before, ranked}
use Rattle.md_engine.specs.World.{World}
use Rattle.md_meaning.specs.Ascii.{colon, hyphen, line_feed, pipe}
use Rattle.md_meaning.specs.Rest.{is_white}
use Rattle.md_leaves.specs.Further.{further_link}
use Rattle.md_events.specs.Spaces.{IsRest, any_size, sees_white, small_indent, white_then}
use Rattle.md_events.specs.Transition.{Transition, entered, entered_link, exited, taken}

-- without what it keeps
abbrev pub uncounted : Scratch → Scratch
uncounted s = record s { size = 0; columns_wanted = 0; seen = false }

-- What is in a delimiter row.
pub data Mark : Type 0 where
  Stops : Mark
  White : Mark
  Divides : Mark
  Aligns : Mark
  Dash : Mark
  Other : Mark

abbrev pub mark_of : ℕ → Mark
mark_of b =
    if b == line_feed then Stops
    else if is_white b then White
    else if b == pipe then Divides
    else if b == colon then Aligns
    else if b == hyphen then Dash
    else Other

abbrev pub mark : Option ℕ → Mark
mark None = Stops
mark (Some b) = mark_of b

abbrev pub refused : World → Transition
refused w = record { to = Nok; world = record w { scratch = uncounted w.scratch } }

-- whitespace, if some is here, and then this state
abbrev pub white_on : World → ℕ → TableState → Bool → Transition
white_on w max next true = white_then w 0 max (Next (n.GfmTable next)) Nok
white_on w max next false = record { to = Retry (n.GfmTable next); world = w }

-- a pipe or a colon is taken
abbrev pub marked : World → Name → TableState → Transition
marked w name next = record {
  to = Next (n.GfmTable next);
  world = exited (record (taken (entered w name)) { scratch = record w.scratch { seen = true } }) name;
}

-- where a row begins, and ends
abbrev pub row_entered : World → World
row_entered w = entered (entered_link w GfmTable further_link) GfmTableDelimiterRow

abbrev pub row_exited : World → World
row_exited w = exited (exited w GfmTableDelimiterRow) GfmTable

-- by what is here
abbrev pub before_code : World → Mark → Transition
before_code w Dash = record { to = Retry (n.GfmTable its.HeadDelimiterValueBefore); world = w }
before_code w Aligns = record { to = Retry (n.GfmTable its.HeadDelimiterValueBefore); world = w }
before_code w Divides = marked w GfmTableCellDivider its.HeadDelimiterCellBefore
before_code w Stops = refused w
before_code w White = refused w
before_code w Other = refused w

abbrev pub value_before_code : World → Mark → Transition
value_before_code w Stops = record { to = Retry (n.GfmTable its.HeadDelimiterCellAfter); world = w }
value_before_code w Aligns = marked w GfmTableDelimiterMarker its.HeadDelimiterLeftAlignmentAfter
value_before_code w Dash = record { to = Retry (n.GfmTable its.HeadDelimiterLeftAlignmentAfter); world = w }
value_before_code w White = refused w
value_before_code w Divides = refused w
value_before_code w Other = refused w

-- a dash begins the filler of a cell, and counts it
abbrev pub filled : World → Transition
filled w = record {
  to = Next (n.GfmTable its.HeadDelimiterFiller);
  world = record (taken (entered w GfmTableDelimiterFiller)) {
    scratch = record w.scratch { size = w.scratch.size + 1 };
  };
}

abbrev pub left_after_code : World → Mark → Transition
left_after_code w Dash = filled w
left_after_code w Stops = refused w
left_after_code w White = refused w
left_after_code w Divides = refused w
left_after_code w Aligns = refused w
left_after_code w Other = refused w

-- after the filler
abbrev pub unfilled : World → Transition
unfilled w = record {
  to = Retry (n.GfmTable its.HeadDelimiterRightAlignmentAfter);
  world = exited w GfmTableDelimiterFiller;
}

abbrev pub filler_code : World → Mark → Transition
filler_code w Dash = record { to = Next (n.GfmTable its.HeadDelimiterFiller); world = taken w }
filler_code w Aligns =
    marked (exited w GfmTableDelimiterFiller) GfmTableDelimiterMarker its.HeadDelimiterRightAlignmentAfter
filler_code w Stops = unfilled w
filler_code w White = unfilled w
filler_code w Divides = unfilled w
filler_code w Other = unfilled w

-- by whether the cells are as many as those of the head, and a colon or a pipe was met: a table is open after it
abbrev pub ends_code : World → Bool → Transition
ends_code w true = record {
  to = Ok;
  world = record (row_exited w) {
    scratch = uncounted w.scratch;
    flags = record w.flags { leaf = held_leaf.Table };
  };
}
ends_code w false = refused w

abbrev pub is_counted : Scratch → Bool
is_counted s = s.seen && (s.size == s.columns_wanted)

abbrev pub cell_after_code : World → Mark → Transition
cell_after_code w Stops = ends_code w (is_counted w.scratch)
cell_after_code w Divides = marked w GfmTableCellDivider its.HeadDelimiterCellBefore
cell_after_code w White = refused w
cell_after_code w Aligns = refused w
cell_after_code w Dash = refused w
cell_after_code w Other = refused w

-- each state with what it does, where there is memory
abbrev pub start_transition : World → Transition
start_transition w =
    white_on (row_entered w) (small_indent w.setting.options) its.HeadDelimiterBefore (sees_white w.current)

abbrev pub before_transition : World → Transition
before_transition w = before_code w (mark w.current)

abbrev pub cell_before_transition : World → Transition
cell_before_transition w = white_on w any_size its.HeadDelimiterValueBefore (sees_white w.current)

abbrev pub value_before_transition : World → Transition
value_before_transition w = value_before_code w (mark w.current)

abbrev pub left_after_transition : World → Transition
left_after_transition w = left_after_code w (mark w.current)

abbrev pub filler_transition : World → Transition
filler_transition w = filler_code w (mark w.current)

abbrev pub right_after_transition : World → Transition
right_after_transition w = white_on w any_size its.HeadDelimiterCellAfter (sees_white w.current)

abbrev pub cell_after_transition : World → Transition
cell_after_transition w = cell_after_code w (mark w.current)

-- all of them
abbrev pub delimiter_transition : TableState → World → Transition
delimiter_transition its.HeadDelimiterStart w = start_transition w
delimiter_transition its.HeadDelimiterBefore w = before_transition w
delimiter_transition its.HeadDelimiterCellBefore w = cell_before_transition w
delimiter_transition its.HeadDelimiterValueBefore w = value_before_transition w
delimiter_transition its.HeadDelimiterLeftAlignmentAfter w = left_after_transition w
delimiter_transition its.HeadDelimiterFiller w = filler_transition w
delimiter_transition its.HeadDelimiterRightAlignmentAfter w = right_after_transition w
delimiter_transition its.HeadDelimiterCellAfter w = cell_after_transition w
delimiter_transition _ w = refused w

-- Each cell that was counted lies before the point.
pub record IsCounting (x : Position) : Type 0 where
  pub size : x.scratch.size ≤ cells_before x.point
  pub rest : IsRest (uncounted x.scratch)

abbrev pub DelimiterNeeds : StateName → World → Type 0
DelimiterNeeds (n.GfmTable its.HeadDelimiterLeftAlignmentAfter) w = w.scratch.size ≤ cells_before w.point
DelimiterNeeds _ w = Unit {0}

abbrev pub delimiter_ready : StateName → Position → After → Type 0
delimiter_ready name x K = IsCounting x × Ends IsRest IsRest x K

abbrev pub delimiter_rank : StateName → Position → Rank
delimiter_rank (n.GfmTable its.HeadDelimiterStart) x = ranked 5 refl
delimiter_rank (n.GfmTable its.HeadDelimiterBefore) x = ranked 3 refl
delimiter_rank (n.GfmTable its.HeadDelimiterCellBefore) x = ranked 4 refl
delimiter_rank (n.GfmTable its.HeadDelimiterValueBefore) x = ranked 2 refl
delimiter_rank (n.GfmTable its.HeadDelimiterFiller) x = ranked 4 refl
delimiter_rank (n.GfmTable its.HeadDelimiterRightAlignmentAfter) x = ranked 3 refl
delimiter_rank _ x = ranked 1 refl

abbrev pub delimiter_tries : StateName → Rank
delimiter_tries (n.GfmTable its.HeadDelimiterBefore) = ranked 4 refl
delimiter_tries (n.GfmTable its.HeadDelimiterValueBefore) = ranked 3 refl
delimiter_tries _ = ranked 2 refl

abbrev pub delimiter_scheme : Scheme
delimiter_scheme =
    record { ready = delimiter_ready; level = λ name. 1; rank = delimiter_rank; tries = delimiter_tries }

-- The states of a delimiter row.
pub data IsOfDelimiter : TableState → Type 0 where
  Start : IsOfDelimiter its.HeadDelimiterStart
  Before : IsOfDelimiter its.HeadDelimiterBefore
  CellBefore : IsOfDelimiter its.HeadDelimiterCellBefore
  ValueBefore : IsOfDelimiter its.HeadDelimiterValueBefore
  LeftAfter : IsOfDelimiter its.HeadDelimiterLeftAlignmentAfter
  Filler : IsOfDelimiter its.HeadDelimiterFiller
  RightAfter : IsOfDelimiter its.HeadDelimiterRightAlignmentAfter
  CellAfter : IsOfDelimiter its.HeadDelimiterCellAfter
  Refused : IsOfDelimiter its.HeadDelimiterNok
