-- Fenced code and math on a line as a whole, by the cells of the line: one that opens, and a further one.
use Rattle.std.specs.Prelude.{ℕ, ◌-◌, Bool, ◌&&◌, ◌==◌, not, nat_lt, if◌then◌else◌, List, [], ◌∷◌, ◌++◌}
use Rattle.std.specs.Prelude.{Option, Some, None}
use Rattle.md_engine.specs.declared.configuration.ParseOptions.{ParseOptions}
use Rattle.md_engine.specs.declared.event.Event.{Event}
use Rattle.md_engine.specs.declared.event.Name.{Name}
use Rattle.md_engine.specs.declared.event.Name.TheVariants as part
use Rattle.md_engine.specs.declared.event.Point.{Point}
use Rattle.md_engine.specs.declared.tokenizer.held_leaf.HeldLeaf.{HeldLeaf}
use Rattle.md_engine.specs.declared.tokenizer.held_leaf.HeldLeaf.TheVariants as held_leaf
use Rattle.md_engine.specs.Meaning.{Accepts, Cell, Here, Outcome, Refuses}
use Rattle.md_meaning.specs.Leaves.{is_fence_marker, least_size}
use Rattle.md_literal.specs.Fence.{block_name, chunk_name, fence_name, held_indent, held_marker, held_size, is_on}
use Rattle.md_literal.specs.Fence.{is_refused, meta_name, sequence_name, string_link}
use Rattle.md_leaves.specs.CellRuns.{is_end, is_line, is_word, run_end, run_has, run_rest, run_size}
use Rattle.md_leaves.specs.Further.{further_link}
use Rattle.md_events.specs.Ahead.{begins_white, from_ending, line_end, white_end, white_rest}
use Rattle.md_events.specs.Events.Nested.{enter, enter_link, exit, pair}
use Rattle.md_events.specs.Look.{first_seen}
use Rattle.md_events.specs.Spaces.{any_size, is_current, small_indent}

-- the whitespace that comes first, up to so many columns
abbrev pub spaces : ℕ → List Cell → Point → List Event
spaces room cells p =
    if nat_lt 0 room && begins_white cells then pair part.SpaceOrTab p (white_end room cells p) else []

-- The opening line.

-- a part that is read later
abbrev pub later_part : Name → Point → Point → List Event
later_part name p q =
    enter name p ∷ enter_link part.Data p string_link ∷ exit part.Data q ∷ exit name q ∷ []

-- what is from here on: meta, which goes to the end of the line,
abbrev pub meta_events : ℕ → List Cell → Point → List Event
meta_events m cells p = if is_end cells then [] else later_part (meta_name m) p (run_end is_line cells p)

-- or info, which is a word, and meta after it
abbrev pub info_events : ℕ → List Cell → Point → List Event
info_events m cells p =
    let q = run_end is_word cells p in
    let rest = run_rest is_word cells in
    if is_end cells then []
    else later_part part.CodeFencedFenceInfo p q
    ++ spaces any_size rest q
    ++ meta_events m (white_rest any_size rest) (white_end any_size rest q)

-- after the sequence
abbrev pub after_events : ℕ → List Cell → Point → List Event
after_events m cells p =
    let q = white_end any_size cells p in
    let rest = white_rest any_size cells in
    spaces any_size cells p ++ (if m == 36 then meta_events m rest q else info_events m rest q)

-- the opening line of a block, after its indent
abbrev pub open_events : ℕ → List Cell → Point → List Event
open_events m cells p =
    let q = run_end (λ b. b == m) cells p in
    enter (block_name m) p ∷ enter (fence_name m) p ∷ pair (sequence_name m) p q
    ++ after_events m (run_rest (λ b. b == m) cells) q
    ++ exit (fence_name m) (line_end cells p) ∷ exit (block_name m) (line_end cells p) ∷ []

-- whether a fence of this marker is here: enough of it, and after it none that is refused
abbrev pub is_opening : ℕ → List Cell → Bool
is_opening m cells =
    not (nat_lt (run_size (λ b. b == m) cells) (least_size m))
    && not (run_has (is_refused m) is_line (run_rest (λ b. b == m) cells))

-- the marker that is here, if one of a block that is on does
abbrev pub marker_at : ParseOptions → List Cell → Option ℕ
marker_at options [] = None
marker_at options (c ∷ cs) = if is_fence_marker options c.byte then Some c.byte else None

-- A further line.

-- whether a closing fence is here, after its indent: the marker, at least as often, and then whitespace alone
abbrev pub is_closing : ℕ → ℕ → List Cell → Bool
is_closing m size cells =
    is_current m (first_seen cells) && not (nat_lt (run_size (λ b. b == m) cells) size)
    && is_end (white_rest any_size (run_rest (λ b. b == m) cells))

abbrev pub closes_here : ParseOptions → HeldLeaf → List Cell → Bool
closes_here options leaf cells =
    is_closing (held_marker leaf) (held_size leaf) (white_rest (small_indent options) cells)

-- where it ends, and its events
abbrev pub closing_end : ℕ → List Cell → Point → Point
closing_end m cells p =
    white_end any_size (run_rest (λ b. b == m) cells) (run_end (λ b. b == m) cells p)

abbrev pub closing_events : ℕ → List Cell → Point → List Event
closing_events m cells p =
    let q = run_end (λ b. b == m) cells p in
    enter (fence_name m) p ∷ pair (sequence_name m) p q
    ++ spaces any_size (run_rest (λ b. b == m) cells) q ++ exit (fence_name m) (closing_end m cells p) ∷ []

-- what is left of a line
abbrev pub chunk_events : ℕ → List Cell → Point → List Event
chunk_events m cells p = if is_end cells then [] else pair (chunk_name m) p (run_end is_line cells p)

-- What is kept of the block after the line, and where the line ends.

abbrev pub fence_continues : ParseOptions → HeldLeaf → List Cell → HeldLeaf
fence_continues options leaf cells = if closes_here options leaf cells then held_leaf.None else leaf

abbrev pub further_end : ParseOptions → HeldLeaf → List Cell → Point → Point
further_end options leaf cells p =
    let room = small_indent options in
    let lost = held_indent leaf in
    if closes_here options leaf cells
    then closing_end (held_marker leaf) (white_rest room cells) (white_end room cells p)
    else run_end is_line (white_rest lost cells) (white_end lost cells p)

-- What the line adds: a linked pair, from its begin to its end.

abbrev pub further_inside : ParseOptions → HeldLeaf → List Cell → Point → List Event
further_inside options leaf cells p =
    let room = small_indent options in
    let lost = held_indent leaf in
    if closes_here options leaf cells
    then spaces room cells p
    ++ closing_events (held_marker leaf) (white_rest room cells) (white_end room cells p)
    else spaces lost cells p ++ chunk_events (held_marker leaf) (white_rest lost cells) (white_end lost cells p)

abbrev pub further_events : ParseOptions → HeldLeaf → List Cell → Point → List Event
further_events options leaf cells p =
    let name = block_name (held_marker leaf) in
    enter_link name p further_link ∷ further_inside options leaf cells p
    ++ exit name (further_end options leaf cells p) ∷ []

abbrev pub further_rest : ParseOptions → HeldLeaf → List Cell → List Cell
further_rest options leaf cells =
    if closes_here options leaf cells
    then white_rest any_size (run_rest (λ b. b == held_marker leaf) (white_rest (small_indent options) cells))
    else run_rest is_line (white_rest (held_indent leaf) cells)

-- the line is taken
abbrev pub further_taken : ParseOptions → List Cell → Here → Outcome
further_taken options cells h =
    let leaf = h.flags.leaf in
    Accepts
    (record h {
      events = h.events ++ further_events options leaf cells h.point;
      point = further_end options leaf cells h.point;
      flags = record h.flags { leaf = fence_continues options leaf cells };
    })
    (further_rest options leaf cells)

-- What is kept of a block that opens, if one does: the columns of its indent are those between two points.
abbrev pub fence_opened : ParseOptions → List Cell → Point → Option ℕ → Option HeldLeaf
fence_opened options cells p None = None
fence_opened options cells p (Some m) =
    let room = small_indent options in
    if is_opening m (white_rest room cells)
    then Some (held_leaf.Fence m (run_size (λ b. b == m) (white_rest room cells))
    ((white_end room cells p).column - p.column))
    else None

abbrev pub fence_begins : ParseOptions → List Cell → Point → Option HeldLeaf
fence_begins options cells p =
    if is_on options then fence_opened options cells p (marker_at options (white_rest (small_indent options) cells))
    else None

-- its events
abbrev pub fence_adds : ParseOptions → HeldLeaf → List Cell → Point → List Event
fence_adds options leaf cells p =
    let room = small_indent options in
    spaces room cells p ++ open_events (held_marker leaf) (white_rest room cells) (white_end room cells p)

-- the line is taken or refused
abbrev pub fence_by : ParseOptions → Option HeldLeaf → List Cell → Here → Outcome
fence_by options None cells h = Refuses h.scratch h.flags
fence_by options (Some leaf) cells h =
    Accepts
    (record h {
      events = h.events ++ fence_adds options leaf cells h.point;
      point = line_end cells h.point;
      flags = record h.flags { leaf = leaf };
    })
    (from_ending cells)
