-- What reading content makes of the lines of a text, in words of the exact list: of each leaf, what its lines were
-- before and what they are after. Lists are put around items later.
use Rattle.std.specs.Prelude.{◌≡◌, ◌⊎◌, ℕ, ◌-◌, ◌<◌, ◌≤◌, false, List, [], ◌∷◌, ◌++◌, drop, flat_map, length}
use Rattle.md_engine.specs.declared.configuration.ParseOptions.{ParseOptions}
use Rattle.md_engine.specs.declared.event.Event.{Event}
use Rattle.md_engine.specs.declared.event.Name.TheVariants as n
use Rattle.md_engine.specs.declared.event.Point.{Point}
use Rattle.md_engine.specs.Place.{IsPlaced}
use Rattle.md_content.specs.Chunks.{content_link}
use Rattle.md_events.specs.Events.Nested.{enter_link, exit}
use Rattle.md_events.specs.Exact.Blocks.{grouped, tail}
use Rattle.md_events.specs.Exact.Leaves.{leaf, runs_line}
use Rattle.md_events.specs.Exact.Places.{line_end, lines_from, place}
use Rattle.md_events.specs.Exact.Rows.{Head, Row, Underline, rows_of}
use Rattle.md_meaning.specs.Lines.{full_lines_of}
use Rattle.md_meaning.specs.State.{At}
use Rattle.md_meaning.specs.Step.{spot_of}
use Rattle.md_meaning.specs.Tree.{End}
use Rattle.markdown_blocks.specs.ContentRead.{holds_content}
use Rattle.proof_exact_lines.specs.Unlisted.{unlisted_group, without_lists}

-- these events, with what is before a line and after it
abbrev pub on_line : Row → List Event → List Event
on_line row inside = without_lists row.front ++ inside ++ without_lists (tail (row ∷ []))

-- a line of text that is not read yet, and one that underlines a text
abbrev pub unread_line : Row → List Event
unread_line row =
    on_line row
    (enter_link n.Content (place row.line row.rest) content_link
    ∷ exit n.Content (place row.line (line_end row.line)) ∷ [])

abbrev pub underline : Row → List Event
underline row = on_line row (leaf n.HeadingSetextUnderline (runs_line n.HeadingSetextUnderlineSequence) (row ∷ []))

-- at most one line, which underlines a text
abbrev pub IsUnderline : List Row → Type 0
IsUnderline [] = Unit {0}
IsUnderline (row ∷ []) = row.role ≡ Underline
IsUnderline (row ∷ next ∷ rows) = ⊥

-- The lines of a text become the definitions and the paragraph that the exact list has for them; a line that underlines
-- them stays, and turns the paragraph later.
pub record AreTextRead (options : ParseOptions) (rows : List Row) (old new : List Event) : Type 0 where
  pub lines : List Row
  pub under : List Row
  pub are : rows ≡ lines ++ under
  pub underlines : IsUnderline under
  pub before : old ≡ flat_map unread_line lines ++ flat_map underline under
  pub after : new ≡ unlisted_group options lines ++ flat_map underline under

-- A line of text that is the head of a table becomes one, whose cells are made later; the lines after it stay.
pub record AreHeadRead (rows : List Row) (old new : List Event) : Type 0 where
  pub head : Row
  pub others : List Row
  pub are : rows ≡ head ∷ others
  pub is_head : head.role ≡ Head
  pub inside : List Event
  pub no_text : holds_content inside ≡ false
  pub further : List Event
  pub none : holds_content further ≡ false
  pub before : old ≡ unread_line head ++ further
  pub after : new ≡ on_line head inside ++ further

-- all others stay, and no line of text is among their events
pub record AreSame (old new : List Event) : Type 0 where
  pub none : holds_content old ≡ false
  pub same : new ≡ old

-- the lines of a leaf
abbrev pub IsGroupRead : ParseOptions → List Row → List Event → List Event → Type 0
IsGroupRead options rows old new = AreSame old new ⊎ (AreTextRead options rows old new ⊎ AreHeadRead rows old new)

-- those of a leaf, and then those of others
pub record FirstRead (options : ParseOptions) (rows : List Row) (More : List Event → List Event → Type 0)
    (old new : List Event) : Type 0 where
  pub own : List Event
  pub read : List Event
  pub following : List Event
  pub rest : List Event
  pub before : old ≡ own ++ following
  pub after : new ≡ read ++ rest
  pub group : IsGroupRead options rows own read
  pub more : More following rest

-- all of them
abbrev pub AreGroupsRead : ParseOptions → List (List Row) → List Event → List Event → Type 0
AreGroupsRead options [] old new = (old ≡ []) × (new ≡ [])
AreGroupsRead options (rows ∷ groups) old new = FirstRead options rows (AreGroupsRead options groups) old new

-- A part may begin at this point of a text: a line does there, and no tab is cut.
pub record BeginsPart (text : List ℕ) (p : Point) : Type 0 where
  pub placed : IsPlaced text p
  pub inside : p.index < length text
  pub whole : p.vs ≡ 0
  pub column : 1 ≤ p.column

-- the lines of a text from such a point on, before which nothing is open
abbrev pub groups_from : ParseOptions → List ℕ → Point → List (List Row)
groups_from options source p =
    grouped
    (rows_of options (At (spot_of End)) (lines_from p.line p.index (p.column - 1) (full_lines_of (drop p.index source))))

unfoldable pub AreTextsRead : ParseOptions → List ℕ → Point → List Event → List Event → Type 0
AreTextsRead options source p old new = AreGroupsRead options (groups_from options source p) old new
