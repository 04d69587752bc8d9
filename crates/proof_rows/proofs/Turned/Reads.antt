-- A text and the underline that turns it are read as a heading.
use Rattle.std.proofs.Common.{◌≡◌, ℕ, List, [], ◌++◌, refl, ap, ◌∙◌}
use Rattle.std.specs.Prelude.{Some, None}
use Rattle.md_engine.specs.declared.configuration.ParseOptions.{ParseOptions}
use Rattle.md_engine.specs.declared.event.Event.{Event}
use Rattle.md_meaning.specs.State.{ParagraphLine, texts}
use Rattle.md_meaning.specs.Tree.{Heading}
use Rattle.md_events.specs.Events.Spelled.{OfHeadingSetext, Reading, add_block, fresh, read, underline_depth}
use Rattle.md_events.specs.Events.Nested.{around}
use Rattle.md_events.proofs.BlocksLemmas.{read-leaf}
use Rattle.md_events.proofs.SetextReads.{read-setext_gap}
use Rattle.md_events.proofs.SpelledLemmas.{read-from}
use Rattle.md_registry.specs.Registry.{turn_leaf}
use Rattle.proof_frame.specs.Row.{Row, last_row, read_lines}
use Rattle.proof_rows.specs.Rows.{heading_done}
use Rattle.proof_frame.proofs.ParagraphLines.{IsRead}
use Rattle.proof_rows.proofs.Turned.Events.{gap_events, inside_events, so_far, text_events, turned-is}
use Rattle.proof_rows.proofs.Turned.Gap.{front-quiet}
use Rattle.proof_rows.proofs.Turned.Line.{LineInside, line-inside}
use Rattle.proof_rows.proofs.Turned.TextReads.{text-reads}
use Rattle.proof_rows.proofs.Turned.Turns.{Turns}

-- Its text, what follows that, and the underline are read in turn.
pub read-inside : (options : ParseOptions) (bytes : List ℕ) (row : Row) (rows : List Row) (under : Row)
    (lines : List ParagraphLine) (r : Reading) →
    IsRead bytes row rows lines → (turns : Turns options bytes (last_row row rows) under) → r.text ≡ None →
    r.leaf ≡ None →
    read bytes r
    (around turn_leaf.name row.first under.end
    (inside_events row rows under turns.after (read_lines bytes row rows))) ≡
    add_block (turn_leaf.block (texts lines) turns.is.rest) r
read-inside options bytes row rows under lines r is turns none shut =
    read-leaf bytes r turn_leaf.name OfHeadingSetext row.first under.end
    (inside_events row rows under turns.after (read_lines bytes row rows)) (so_far line.markers (texts lines)) refl shut
    (read-from bytes begun titled (text ++ gap) under.inside
    (read-from bytes begun titled text gap (text-reads bytes row rows lines begun is none refl)
    ∙ read-setext_gap bytes titled last.end turns.after under.front (record { markers = []; text = texts lines }) none
    refl (front-quiet bytes turns.after under.first under.front turns.front))
    ∙ (line.facts (texts lines)).parts.reads titled none refl)
    ∙ ap (λ (m : ℕ). add_block (Heading (underline_depth m) (texts lines)) r) line.marker
  where
    last : Row
    last = last_row row rows

    line : LineInside bytes under.first under.end turns.is.rest under.inside
    line = line-inside options bytes under turns.is

    text : List Event
    text = text_events row.first last.end (read_lines bytes row rows)

    gap : List Event
    gap = gap_events last.end turns.after under.front

    begun : Reading
    begun = record r { leaf = Some (fresh OfHeadingSetext) }

    titled : Reading
    titled = record r { leaf = Some (so_far [] (texts lines)) }

-- The lines of the text are those of the heading, and its depth is known from the first of the markers.
pub read-turned : (options : ParseOptions) (bytes : List ℕ) (row : Row) (rows : List Row) (under : Row)
    (lines : List ParagraphLine) (r : Reading) →
    IsRead bytes row rows lines → (turns : Turns options bytes (last_row row rows) under) → r.text ≡ None →
    r.leaf ≡ None →
    read bytes r (heading_done bytes under row rows) ≡ add_block (turn_leaf.block (texts lines) turns.is.rest) r
read-turned options bytes row rows under lines r is turns none shut =
    ap (read bytes r) (turned-is row rows under turns.after (read_lines bytes row rows) turns.after_is)
    ∙ read-inside options bytes row rows under lines r is turns none shut
