-- Where the first states of text are called, what their clause `line` requires holds: of a line of text, that the rest of
-- a line is next (`IsChunkCall`); of definitions and paragraphs, that lines that are left of a text are (`IsTextCall`).
use Rattle.std.specs.Prelude.{◌≡◌, ℕ, Bool, true, false, List, [], ◌∷◌, ◌++◌, length}
use Rattle.md_engine.specs.declared.configuration.ParseOptions.{ParseOptions}
use Rattle.md_engine.specs.declared.state.Name.{Name as StateName}
use Rattle.md_engine.specs.declared.state.Name.TheVariants as s
use Rattle.md_engine.specs.declared.state.definition.State.TheVariants as definition
use Rattle.md_engine.specs.declared.state.paragraph.State.TheVariants as paragraph
use Rattle.md_engine.specs.declared.state.State.{State}
use Rattle.md_engine.specs.declared.state.State.TheVariants.{Next}
use Rattle.md_engine.specs.Meaning.{Cell, Feed}
use Rattle.md_engine.specs.Run.{Calls, Runs, reading}
use Rattle.md_engine.specs.TextFeed.{text_feed}
use Rattle.md_engine.specs.World.{World}
use Rattle.md_content.specs.ContentReads.{part_world}
use Rattle.md_content.specs.States.{ContentStep, content_start}
use Rattle.md_events.specs.declared.inline.Chunk.{Chunk}
use Rattle.md_events.specs.Exact.Places.{TextLine, line_end, next_line, place}
use Rattle.md_events.specs.Exact.Rows.{Row}
use Rattle.md_flow.specs.LineRule.{IsNext}
use Rattle.md_meaning.specs.Rest.{Rest}
use Rattle.markdown_blocks.specs.TextRule.{AreAhead, AreLeft}

-- A line of text.

-- the rest of a line is next
pub record IsOnLine (w : World) : Type 0 where
  pub line : TextLine
  pub rest : Rest
  pub stop : List Cell
  pub next : IsNext w.setting.bytes line rest w.point (text_feed w.setting w.point) stop

-- so it is wherever the text may be read to its end
unfoldable pub LineMet : World → Type 0
LineMet w = w.setting.limit ≡ length w.setting.bytes → IsOnLine w

-- The lines of a text.

-- whether this is the first state of a definition or of a paragraph
abbrev pub begins_block : StateName → Bool
begins_block (s.Definition definition.Start) = true
begins_block (s.Paragraph paragraph.Start) = true
begins_block name = false

-- each of these lines: all but the last with their endings
abbrev pub chunks_of : List Row → List Chunk
chunks_of [] = []
chunks_of (row ∷ []) =
    (record { first = place row.line row.rest; after = place row.line (line_end row.line) }) ∷ []
chunks_of (row ∷ next ∷ rows) =
    (record { first = place row.line row.rest; after = next_line row.line }) ∷ chunks_of (next ∷ rows)

-- a tokenizer that reads these lines of a text, and has read none
abbrev pub lines_begin : ParseOptions → List ℕ → List Row → World
lines_begin options source rows = part_world source options (chunks_of rows)

-- the last of these lines are ahead, or all of them
pub record AreMet (all : List Row) (feed : Feed) (w : World) : Type 0 where
  pub row : Row
  pub rows : List Row
  pub passed : List Row
  pub are : all ≡ passed ++ row ∷ rows
  pub ahead : AreAhead feed w row rows

-- so they are wherever the table of content calls one of these states
unfoldable pub TextsMet : ParseOptions → List ℕ → Type 0
TextsMet options source =
    (row : Row) (rows : List Row) → AreLeft options source (row ∷ rows) →
    (t : State) (v : World) (t' : State) (v' : World) →
    Runs ContentStep true (Next content_start) (lines_begin options source (row ∷ rows)) t v →
    (call : Calls ContentStep true t v t' v') → begins_block call.name ≡ true →
    AreMet (row ∷ rows) (text_feed (lines_begin options source (row ∷ rows)).setting) (reading v)
