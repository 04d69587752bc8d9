-- The rule of a list item, as what is left of it at each state (CommonMark 5.2).
use Rattle.std.specs.Prelude.{◌≡◌, ℕ, zero, suc, ◌+◌, ◌-◌, true, ◌&&◌, ◌||◌, ◌==◌, not, nat_le, nat_lt}
use Rattle.std.specs.Prelude.{if◌then◌else◌, List, [], ◌∷◌, ◌++◌}
use Rattle.md_engine.specs.declared.configuration.ParseOptions.{ParseOptions}
use Rattle.md_engine.specs.declared.event.Name.TheVariants.{ListItem, ListItemMarker, ListItemPrefix, ListItemValue}
use Rattle.md_engine.specs.declared.event.Name.TheVariants.{SpaceOrTab}
use Rattle.md_engine.specs.declared.event.Point.{Point}
use Rattle.md_engine.specs.declared.state.Name.TheVariants as n
use Rattle.md_engine.specs.declared.state.State.{State}
use Rattle.md_engine.specs.declared.state.list_item.State.{State as ItemState}
use Rattle.md_engine.specs.declared.state.list_item.State.TheVariants as its
use Rattle.md_engine.specs.Meaning.{Accepts, Behaviour, Cell, Here, Outcome, Refuses}
use Rattle.md_engine.specs.Scheme.{position}
use Rattle.md_engine.specs.Sees.{IsStep}
use Rattle.md_engine.specs.World.{World}
use Rattle.md_containers.specs.Interrupts.{interrupts}
use Rattle.md_containers.specs.Item.{ItemInvariant, ends_value, is_item_marker, item_is_further, item_held, least_width}
use Rattle.md_containers.specs.Item.{unseen, without_size, item_transition}
use Rattle.md_meaning.specs.Containers.{is_bullet, is_digit}
use Rattle.md_meaning.specs.Leaves.{is_rule}
use Rattle.md_meaning.specs.Rest.{is_blank, is_white}
use Rattle.md_leaves.specs.BlankRule.{HasBlank}
use Rattle.md_leaves.specs.BreakRule.{HasBreak}
use Rattle.md_leaves.specs.LeafStart.{start_at}
use Rattle.md_events.specs.Ahead.{HasWhite, begins_white, line_bytes, white_end, white_rest, white_size}
use Rattle.md_events.specs.Events.Nested.{enter, exit, pair}
use Rattle.md_events.specs.Look.{first_seen}
use Rattle.md_events.specs.Spaces.{asking, calmed, ends_line}
use Rattle.md_events.specs.States.{IsState, IsSureState}
use Rattle.md_engine.specs.declared.tokenizer.Tokenizer.{Tokenizer}
use Rattle.md_engine.specs.Full.{IsFull}

-- The digits that come first, at most so many: how many there are, where they end, and what follows them.

abbrev pub digits_size : ℕ → List Cell → ℕ
digits_size room [] = 0
digits_size zero (c ∷ cs) = 0
digits_size (suc room) (c ∷ cs) = if is_digit c.byte then suc (digits_size room cs) else 0

abbrev pub digits_end : ℕ → List Cell → Point → Point
digits_end room [] p = p
digits_end zero (c ∷ cs) p = p
digits_end (suc room) (c ∷ cs) p = if is_digit c.byte then digits_end room cs c.after else p

abbrev pub digits_rest : ℕ → List Cell → List Cell
digits_rest room [] = []
digits_rest zero (c ∷ cs) = c ∷ cs
digits_rest (suc room) (c ∷ cs) = if is_digit c.byte then digits_rest room cs else c ∷ cs

-- What opens an item.

-- after the prefix: the item opens, unless it is blank and would interrupt text
unfoldable pub following_prefix : List Cell → Here → Outcome
following_prefix cells h =
    let blank = not h.scratch.seen in
    if blank && interrupts h.flags then Refuses (unseen h.scratch) h.flags
    else Accepts
    (record h {
      events = h.events ++ exit ListItemPrefix h.point ∷ [];
      scratch = unseen h.scratch;
      flags = item_held h.flags h.point.column blank;
    })
    cells

-- one column of whitespace
unfoldable pub one_column : List Cell → Here → Outcome
one_column [] h = Refuses (unseen h.scratch) h.flags
one_column (c ∷ cs) h =
    if is_white c.byte
    then following_prefix cs (record h { events = h.events ++ pair SpaceOrTab h.point c.after; point = c.after })
    else Refuses (unseen h.scratch) h.flags

-- no more whitespace
unfoldable pub following_padding : List Cell → Here → Outcome
following_padding cells h = if begins_white cells then Refuses h.scratch h.flags else Accepts h cells

-- after whitespace that comes first, up to so many columns
abbrev pub after_columns : ℕ → List Cell → Here → Here
after_columns room cells h = record h {
  events = h.events ++ pair SpaceOrTab h.point (white_end room cells h.point);
  point = white_end room cells h.point;
  scratch = calmed h.scratch;
}

-- 1 to 4 columns of whitespace
unfoldable pub padding_at : List Cell → Here → Outcome
padding_at cells h =
    if begins_white cells then following_padding (white_rest 4 cells) (after_columns 4 cells h)
    else Refuses (calmed h.scratch) h.flags

-- after a marker that something else follows: 1 to 4 columns of whitespace, or one of more
unfoldable pub filled_at : List Cell → Here → Outcome
filled_at cells h =
    let k = record h { scratch = record h.scratch { seen = true } } in
    if begins_white cells && not (begins_white (white_rest 4 cells))
    then following_prefix (white_rest 4 cells) (after_columns 4 cells k)
    else one_column cells k

-- after the marker: none where the rest of the line is blank
unfoldable pub after_marker : List Cell → Here → Outcome
after_marker cells h = if is_blank (line_bytes cells) then following_prefix cells h else filled_at cells h

-- the marker
unfoldable pub at_marker : List Cell → Here → Outcome
at_marker [] h = Refuses h.scratch h.flags
at_marker (c ∷ cs) h =
    if is_item_marker c.byte
    then after_marker cs (record h { events = h.events ++ pair ListItemMarker h.point c.after; point = c.after })
    else Refuses h.scratch h.flags

-- after the digits; text is interrupted by one alone
unfoldable pub following_value : List Cell → Here → Outcome
following_value [] h = Refuses (without_size h.scratch) h.flags
following_value (c ∷ cs) h =
    if ends_value c.byte && (not (interrupts h.flags) || nat_lt h.scratch.size 2)
    then at_marker (c ∷ cs)
    (record h { events = h.events ++ exit ListItemValue h.point ∷ []; scratch = without_size h.scratch })
    else Refuses (without_size h.scratch) h.flags

-- in the digits: at most nine in all
unfoldable pub in_value : List Cell → Here → Outcome
in_value cells h =
    let room = 9 - h.scratch.size in
    following_value (digits_rest room cells)
    (record h {
      point = digits_end room cells h.point;
      scratch = record h.scratch { size = h.scratch.size + digits_size room cells };
    })

-- at the digits
unfoldable pub at_value : List Cell → Here → Outcome
at_value [] h = Refuses h.scratch h.flags
at_value (c ∷ cs) h =
    if is_digit c.byte
    then in_value (c ∷ cs)
    (record h { events = h.events ++ enter ListItemPrefix h.point ∷ enter ListItemValue h.point ∷ [] })
    else Refuses h.scratch h.flags

-- at a bullet
unfoldable pub at_bullet : List Cell → Here → Outcome
at_bullet cells h = at_marker cells (record h { events = h.events ++ enter ListItemPrefix h.point ∷ [] })

-- after the indent: a bullet, where no thematic break is, or digits; text is interrupted by the number 1 alone
unfoldable pub after_indent : ParseOptions → List Cell → Here → Outcome
after_indent options [] h = Refuses h.scratch h.flags
after_indent options (c ∷ cs) h =
    if is_bullet c.byte
    then if options.constructs.thematic_break && is_rule (line_bytes (c ∷ cs)) then Refuses h.scratch h.flags
    else at_bullet (c ∷ cs) h
    else if is_digit c.byte && (not (interrupts h.flags) || (c.byte == 49)) then at_value (c ∷ cs) h
    else Refuses h.scratch h.flags

-- the whole rule, if items are on: a small indent, and a prefix after it
abbrev pub item_at : ParseOptions → List Cell → Here → Outcome
item_at options cells h = start_at ListItem options.constructs.list_item (after_indent options) options cells h

-- What has an item continue.

-- in an indent, of which some columns were taken: as many as are there, up to a limit; it holds if those are enough
unfoldable pub inside_indent : List Cell → Here → Outcome
inside_indent cells h =
    let white = h.scratch.whitespace in
    let room = white.max - white.size in
    let p = white_end room cells h.point in
    if nat_le white.min (white.size + white_size room cells)
    then Accepts
    (record {
      events = h.events ++ exit SpaceOrTab p ∷ [];
      point = p;
      scratch = calmed h.scratch;
      flags = item_is_further h.flags;
    })
    (white_rest room cells)
    else Refuses (calmed h.scratch) h.flags

-- an indent of at least so many columns, of which at most the width is taken
unfoldable pub indent_at : ℕ → List Cell → Here → Outcome
indent_at min [] h = Refuses h.scratch h.flags
indent_at min (c ∷ cs) h =
    if is_white c.byte
    then inside_indent cs
    (record h {
      events = h.events ++ enter SpaceOrTab h.point ∷ [];
      point = c.after;
      scratch = asking min (least_width h.flags.asked) 1 h.scratch;
    })
    else Refuses h.scratch h.flags

-- the indent of a line that is blank: at most the width, unless the item started blank
abbrev pub indent_blank : List Cell → Here → Outcome
indent_blank cells h = if h.flags.asked.starts_blank then Refuses h.scratch h.flags else indent_at 1 cells h

-- and of one that is not: exactly the width
abbrev pub indent_filled : List Cell → Here → Outcome
indent_filled cells h = indent_at (least_width h.flags.asked) cells h

-- the whole rule of a further line
unfoldable pub item_on : List Cell → Here → Outcome
item_on cells h =
    if ends_line (first_seen cells)
    then if h.flags.asked.starts_blank then Refuses h.scratch h.flags else Accepts h cells
    else if is_blank (line_bytes cells) then indent_blank cells h
    else indent_filled cells h

-- by how many columns are asked for at most, none before the first
abbrev pub blank_behaves : ℕ → List Cell → Here → Outcome
blank_behaves zero cells h = indent_blank cells h
blank_behaves (suc more) cells h = inside_indent cells h

abbrev pub filled_behaves : ℕ → List Cell → Here → Outcome
filled_behaves zero cells h = indent_filled cells h
filled_behaves (suc more) cells h = inside_indent cells h

-- what is left at each state
abbrev pub item_behaves : ParseOptions → ItemState → List Cell → Here → Outcome
item_behaves options its.Start cells h = item_at options cells h
item_behaves options its.Before cells h = after_indent options cells h
item_behaves options its.BeforeUnordered cells h = at_bullet cells h
item_behaves options its.BeforeOrdered cells h = at_value cells h
item_behaves options its.Value cells h = in_value cells h
item_behaves options its.Marker cells h = at_marker cells h
item_behaves options its.MarkerAfter cells h = after_marker cells h
item_behaves options its.MarkerAfterFilled cells h = filled_at cells h
item_behaves options its.Whitespace cells h = padding_at cells h
item_behaves options its.WhitespaceAfter cells h = following_padding cells h
item_behaves options its.PrefixOther cells h = one_column cells h
item_behaves options its.After cells h = following_prefix cells h
item_behaves options its.ContStart cells h = item_on cells h
item_behaves options its.ContBlank cells h = blank_behaves h.scratch.whitespace.max cells h
item_behaves options its.ContFilled cells h = filled_behaves h.scratch.whitespace.max cells h

pub record HasItem (B : Behaviour) (options : ParseOptions) : Type 0 where
  pub white : HasWhite B
  pub blank : HasBlank B
  pub breaks : HasBreak B options
  pub each : (state : ItemState) (cells : List Cell) (h : Here) →
      B (n.ListItem state) cells h ≡ item_behaves options state cells h

-- what a state of an item means: where what it needs holds, its call is one step of the rule
unfoldable pub ItemMeans : ItemState → World → State → World → Type 0
ItemMeans state old to new =
    ItemInvariant (n.ListItem state) (position old) →
    IsStep (λ B. HasItem B old.setting.options) (n.ListItem state) to old new

-- what a state of a list item promises
abbrev pub IsItemState : ItemState → World → State → Tokenizer → Type 0
IsItemState state old answer new = IsState (item_transition state old) (ItemMeans state old) (IsFull new) answer new

-- the same of a state that wants no memory
abbrev pub IsSureItemState : ItemState → World → State → Tokenizer → Type 0
IsSureItemState state old answer new = IsSureState (item_transition state old) (ItemMeans state old) answer new
