-- A line of HTML as a whole, by its cells: whether it is taken, what it adds, and what is open after it.
use Rattle.std.specs.Prelude.{ℕ, Bool, ◌&&◌, not, if◌then◌else◌, List, [], ◌∷◌, ◌++◌, Option, Some, None}
use Rattle.md_engine.specs.declared.configuration.ParseOptions.{ParseOptions}
use Rattle.md_engine.specs.declared.event.Event.{Event}
use Rattle.md_engine.specs.declared.event.Name.TheVariants.{HtmlFlow, HtmlFlowData}
use Rattle.md_engine.specs.declared.event.Point.{Point}
use Rattle.md_engine.specs.declared.tokenizer.held_leaf.HeldLeaf.{HeldLeaf}
use Rattle.md_engine.specs.declared.tokenizer.held_leaf.HeldLeaf.TheVariants as held_leaf
use Rattle.md_engine.specs.Meaning.{Cell}
use Rattle.md_meaning.specs.Bytes.{is_end}
use Rattle.md_meaning.specs.Html.{HtmlKind, html_kind}
use Rattle.md_meaning.specs.Rest.{is_blank}
use Rattle.md_leaves.specs.Further.{further_link}
use Rattle.md_literal.specs.Html.{ends_in_front}
use Rattle.md_literal.specs.HtmlRule.{allowed, left}
use Rattle.md_events.specs.Ahead.{line_bytes, line_end, white_rest}
use Rattle.md_events.specs.Events.Nested.{around, enter_link, exit, pair}
use Rattle.md_events.specs.Spaces.{small_indent}

-- The first line.

-- what follows the indent
abbrev pub after_indent : ParseOptions → List Cell → List ℕ
after_indent options cells = line_bytes (white_rest (small_indent options) cells)

-- the kind that begins here, where the line meets this leaf
abbrev pub kind_at : ParseOptions → HeldLeaf → List Cell → Option HtmlKind
kind_at options on cells =
    if options.constructs.html_flow then allowed on (html_kind (after_indent options cells)) else None

-- what is open after the line
abbrev pub left_by : Option HtmlKind → List ℕ → HeldLeaf
left_by None line = held_leaf.None
left_by (Some kind) line = left kind line

abbrev pub html_keeps : ParseOptions → HeldLeaf → List Cell → HeldLeaf
html_keeps options on cells = left_by (kind_at options on cells) (after_indent options cells)

-- what it adds
abbrev pub html_adds : List Cell → Point → List Event
html_adds cells p = around HtmlFlow p (line_end cells p) (pair HtmlFlowData p (line_end cells p))

-- A further line.

-- whether it continues this leaf
abbrev pub html_continues : HeldLeaf → List Cell → Bool
html_continues on cells = not (ends_in_front on && is_blank (line_bytes cells))

-- what is open after it
abbrev pub left_of : HeldLeaf → List ℕ → HeldLeaf
left_of (held_leaf.Html kind) line = left kind line
left_of _ line = held_leaf.None

abbrev pub html_keeps_on : HeldLeaf → List Cell → HeldLeaf
html_keeps_on on cells = left_of on (line_bytes cells)

-- what it adds: an empty line has no text
abbrev pub data_at : List Cell → Point → List Event
data_at cells p = if is_end (line_bytes cells) then [] else pair HtmlFlowData p (line_end cells p)

abbrev pub html_adds_on : List Cell → Point → List Event
html_adds_on cells p =
    enter_link HtmlFlow p further_link ∷ data_at cells p ++ exit HtmlFlow (line_end cells p) ∷ []
