-- What the first state of a line of text does with a line, and those of a definition and of a paragraph with the lines
-- of a text that are left, in words of the line definition and of the exact list: whether they take them, and which
-- events they add.
--
-- The latter two see a text without the prefixes of containers: after the ending of a line comes what is left of the next.
-- `laid` puts what they add into its places: there a line ends before the prefixes of the next, and these are between.
use Rattle.std.specs.Prelude.{◌≡◌, ◌<◌, ◌≤◌, ◌^◌, ℕ, Bool, true, false, ◌&&◌, List, [], ◌∷◌, ◌++◌, length, Some}
use Rattle.std.specs.List.{list_all}
use Rattle.std.specs.Option.{is_some}
use Rattle.md_engine.specs.declared.configuration.ParseOptions.{ParseOptions}
use Rattle.md_engine.specs.declared.event.Event.{Event}
use Rattle.md_engine.specs.declared.event.Point.{Point}
use Rattle.md_engine.specs.declared.state.State.{State}
use Rattle.md_engine.specs.declared.tokenizer.Line.{Line}
use Rattle.md_engine.specs.Meaning.{Accepts, Behaviour, Cell, Feed, Here, Outcome, Refuses, here}
use Rattle.md_engine.specs.Sees.{Sees}
use Rattle.md_engine.specs.World.{World}
use Rattle.md_events.proofs.RestCells.{rest_cells}
use Rattle.md_events.specs.Spaces.{IsRest}
use Rattle.md_events.specs.Events.Places.{is_placed}
use Rattle.md_events.specs.Exact.Leaves.{last_end, start}
use Rattle.md_events.specs.Exact.Places.{TextLine, line_end, next_line, place}
use Rattle.md_events.specs.Exact.Rows.{FirstText, FurtherText, Role, Row}
use Rattle.md_events.specs.Exact.Texts.{definition, definition_end, gap, lines_left, on_first, remaining}
use Rattle.md_meaning.specs.Definition.{definition_at}
use Rattle.md_meaning.specs.Rest.{Rest, after_indent}
use Rattle.md_flow.specs.LineRule.{IsNext, IsTaken, Leaves}
use Rattle.markdown_blocks.specs.TextsRead.{IsUnderline, groups_from}
use Rattle.proof_frame.specs.Laid.{LineBreak, laid}
use Rattle.proof_rows.specs.WithoutMdx.{IsWithoutMdx}

-- A line of text.

-- The first state of one takes the rest of any line. It is read later.
abbrev pub IsChunkCall : Behaviour → World → State → World → Type 0
IsChunkCall B old answer new =
    (feed : Feed) (line : TextLine) (r : Rest) (stop : List Cell) → Sees feed old → IsRest old.scratch →
    IsNext old.setting.bytes line r old.point (feed old.point) stop →
    Leaves B feed old answer new (λ o. IsTaken old.setting.options line r stop (here old) o (Some FirstText))

-- The lines of a text.

abbrev pub is_text : Role → Bool
is_text FirstText = true
is_text FurtherText = true
is_text role = false

-- These are left of the lines of a text in a document that is read from a point on, where no tab is cut: all after
-- some, but for the line that underlines them, if one does.
pub record AreLeft (options : ParseOptions) (source : List ℕ) (rows : List Row) : Type 0 where
  pub from : Point
  pub placed : is_placed source from ≡ true
  pub whole : from.vs ≡ 0
  pub column : 1 ≤ from.column
  pub front : List (List Row)
  pub back : List (List Row)
  pub passed : List Row
  pub under : List Row
  pub groups : groups_from options source from ≡ front ++ (passed ++ (rows ++ under)) ∷ back
  pub lines : list_all (λ (row : Row). is_text row.role) (passed ++ rows) ≡ true
  pub underlines : IsUnderline under

-- what a parent says of such lines
abbrev pub no_line : Line
no_line = record { start = 0; lazy = false }

-- an ending before these lines, if there are some
abbrev pub ending_before : List Row → List Cell → List Cell
ending_before [] cells = cells
ending_before (row ∷ rows) cells =
    (record { byte = 10; after = place row.line row.rest; line = no_line }) ∷ cells

-- what is left of each, with its ending
abbrev pub cells_of : List Row → List Cell
cells_of [] = []
cells_of (row ∷ rows) = rest_cells no_line row.rest (place row.line row.rest) ++ ending_before rows (cells_of rows)

-- between two of them: where the first has ended, and the prefixes before the second
abbrev pub breaks_of : List Row → List LineBreak
breaks_of [] = []
breaks_of (row ∷ []) = []
breaks_of (row ∷ next ∷ rows) = (record { after = next_line row.line; front = next.front }) ∷ breaks_of (next ∷ rows)

-- Definitions.

-- whether one is at the front of these lines
abbrev pub is_defined : ParseOptions → List Row → Bool
is_defined options rows =
    options.constructs.definition && is_some (definition_at (lines_left (on_first after_indent rows)))

-- its events, with those of its indent
abbrev pub defined : List Row → List Event
defined rows = let first = on_first after_indent rows in gap rows first ++ definition first

-- It is taken to the end of its last line.
pub record IsDefinitionTaken (rows : List Row) (h : Here) (o : Outcome) : Type 0 where
  pub events : List Event
  pub are : laid (breaks_of rows) events ≡ defined rows
  pub to : Here
  pub cells : List Cell
  pub accepts : o ≡ Accepts to cells
  pub added : to.events ≡ h.events ++ events
  -- its last line, and those after it, which are left
  pub end : Row
  pub further : List Row
  pub ends : definition_end (on_first after_indent rows) ≡ end ∷ further
  pub point : to.point ≡ place end.line (line_end end.line)
  pub own : List Row
  pub parts : rows ≡ own ++ further
  pub left : cells ≡ ending_before further (cells_of further)

-- lines that begin with none are refused, which leaves all as it was
abbrev pub IsDefined : List Row → Here → Outcome → Bool → Type 0
IsDefined rows h o false = o ≡ Refuses h.scratch h.flags
IsDefined rows h o true = IsDefinitionTaken rows h o

-- A paragraph takes all lines.
pub record IsParagraphTaken (rows : List Row) (h : Here) (o : Outcome) : Type 0 where
  pub events : List Event
  pub are : laid (breaks_of rows) events ≡ remaining [] rows
  pub to : Here
  pub accepts : o ≡ Accepts to []
  pub added : to.events ≡ h.events ++ events
  pub point : to.point ≡ start (last_end rows)

-- What is left after a call before these lines.

-- These lines of a text are ahead: the tokenizer is at rest where the first begins, and they are what is still to come.
pub record AreAhead (feed : Feed) (w : World) (row : Row) (rows : List Row) : Type 0 where
  pub built : IsWithoutMdx w.setting.options
  pub small : length w.setting.bytes < 2 ^ 61
  pub left : AreLeft w.setting.options w.setting.bytes (row ∷ rows)
  pub sees : Sees feed w
  pub rest : IsRest w.scratch
  pub at : w.point ≡ place row.line row.rest
  pub cells : feed w.point ≡ cells_of (row ∷ rows)

abbrev pub IsTextCall : Behaviour → World → State → World → (List Row → Here → Outcome → Type 0) → Type 0
IsTextCall B old answer new Is =
    (feed : Feed) (row : Row) (rows : List Row) → AreAhead feed old row rows →
    Leaves B feed old answer new (Is (row ∷ rows) (here old))

-- The first state of a definition takes these lines where the line definition has a definition at their front; else it
-- refuses.
abbrev pub IsDefinitionCall : Behaviour → World → State → World → Type 0
IsDefinitionCall B old answer new =
    IsTextCall B old answer new (λ rows h o. IsDefined rows h o (is_defined old.setting.options rows))

-- The first state of a paragraph takes all.
abbrev pub IsParagraphCall : Behaviour → World → State → World → Type 0
IsParagraphCall B old answer new = IsTextCall B old answer new IsParagraphTaken
