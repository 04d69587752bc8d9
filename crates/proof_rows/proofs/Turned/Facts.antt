-- What is known of a text and the underline that turns it: once the heading is set, and once its text is read.
use Rattle.std.proofs.Common.{ℕ, true, List, [], ◌++◌, refl, subst₂, sym}
use Rattle.std.specs.Prelude.{Some}
use Rattle.md_engine.specs.declared.configuration.ParseOptions.{ParseOptions}
use Rattle.md_engine.specs.declared.event.Event.{Event}
use Rattle.md_meaning.specs.State.{texts}
use Rattle.md_meaning.specs.Tree.{Block}
use Rattle.md_outline.specs.LinesAllowed.{AtTitle, AfterTitle, AfterUnderline}
use Rattle.md_outline.proofs.LinesPass.{passes-heading}
use Rattle.md_events.specs.Events.Grammar.{Nothing}
use Rattle.md_events.specs.Events.Nested.{around}
use Rattle.md_events.specs.Events.Spelled.{OfHeadingSetext, fresh}
use Rattle.md_events.proofs.EndingsLemmas.{filling-append}
use Rattle.proof_rows.specs.BlockList.{heading_unread, unread_lines}
use Rattle.md_registry.specs.Registry.{turn_leaf}
use Rattle.proof_frame.specs.Row.{Row, last_row, read_lines}
use Rattle.proof_rows.specs.Rows.{heading_done}
use Rattle.proof_frame.proofs.BetweenFacts.{ending-before, ending-following}
use Rattle.proof_frame.proofs.FrontValid.{fronts-between}
use Rattle.proof_rows.proofs.GroupLines.{AreLines, IsUnder, kept-of}
use Rattle.proof_frame.proofs.LeafFacts.{LeafFacts}
use Rattle.proof_frame.proofs.PlainFacts.{known-around}
use Rattle.proof_frame.proofs.LeafLines.Inside.{InsideFacts, inside-append}
use Rattle.proof_rows.proofs.Text.Facts.{end-clear, lines-read}
use Rattle.proof_rows.proofs.Turned.Events.{gap_events, heading_left, inside_events, line_left, so_far}
use Rattle.proof_rows.proofs.Turned.Events.{text_events, turned-is}
use Rattle.proof_rows.proofs.Turned.Gap.{gap-inside}
use Rattle.proof_rows.proofs.Turned.Line.{LineInside, line-clear, line-inside}
use Rattle.proof_rows.proofs.Turned.Reads.{read-inside}
use Rattle.proof_rows.proofs.Turned.Text.{text-inside}
use Rattle.proof_rows.proofs.Turned.Turns.{Turns}
use Rattle.proof_rows.proofs.Turned.Under.{text-whole, under-turns}
use Rattle.proof_frame.proofs.LeafLines.Leaf.{leaf-around}

-- the block that they show
abbrev pub turned-block : (options : ParseOptions) (bytes : List ℕ) (row : Row) (rows : List Row) (under : Row) →
    AreLines options bytes row rows → IsUnder options bytes (last_row row rows) under → Block
turned-block options bytes row rows under h is =
    turn_leaf.block (texts (kept-of options bytes row rows h)) is.is.rest

-- All that the frame asks of the heading, where the underline turns the text.
turns-facts : (options : ParseOptions) (bytes : List ℕ) (row : Row) (rows : List Row) (under : Row) →
    (h : AreLines options bytes row rows) → (turns : Turns options bytes (last_row row rows) under) →
    LeafFacts bytes (Some (turn_leaf.block (texts (kept-of options bytes row rows h)) turns.is.rest)) true row.first
    under.end (heading_unread under row rows) (heading_done bytes under row rows)
turns-facts options bytes row rows under h turns =
    subst₂
    (λ (es fs : List Event).
    LeafFacts bytes (Some (turn_leaf.block (texts (kept-of options bytes row rows h)) turns.is.rest)) true row.first
    under.end es fs)
    (sym (turned-is row rows under turns.after (unread_lines row rows) turns.after_is))
    (sym (turned-is row rows under turns.after (read_lines bytes row rows) turns.after_is)) facts
  where
    last : Row
    last = last_row row rows

    gap : List Event
    gap = gap_events last.end turns.after under.front

    unread_title : List Event
    unread_title = text_events row.first last.end (unread_lines row rows)

    title : List Event
    title = text_events row.first last.end (read_lines bytes row rows)

    unread : List Event
    unread = inside_events row rows under turns.after (unread_lines row rows)

    done : List Event
    done = inside_events row rows under turns.after (read_lines bytes row rows)

    line : LineInside bytes under.first under.end turns.is.rest under.inside
    line = line-inside options bytes under turns.is

    kept : List (List ℕ)
    kept = texts (kept-of options bytes row rows h)

    front :
        InsideFacts bytes row.first under.first heading_left line_left (fresh OfHeadingSetext) (so_far [] kept) AtTitle
        AfterTitle (unread_title ++ gap) (title ++ gap)
    front =
        inside-append (text-inside options bytes row rows h)
        (gap-inside bytes last.end turns.after under.first under.front [] kept (text-whole options bytes row rows h)
        turns.ending turns.front)
        (record {
          between = λ end. ending-before bytes last.end turns.after turns.ending;
          clear = end-clear options bytes row rows h;
        })

    inside :
        InsideFacts bytes row.first under.end heading_left Nothing (fresh OfHeadingSetext) (so_far line.markers kept)
        AtTitle AfterUnderline unread done
    inside =
        inside-append front (line.facts kept)
        (record {
          between = λ end. (fronts-between bytes [] turns.after under.first under.front
              (ending-following bytes last.end turns.after turns.ending) turns.front).1;
          clear = line-clear options bytes under turns.is;
        })

    facts :
        LeafFacts bytes (Some (turn_leaf.block kept turns.is.rest)) true row.first under.end
        (around turn_leaf.name row.first under.end unread) (around turn_leaf.name row.first under.end done)
    facts =
        leaf-around turn_leaf.name OfHeadingSetext (record { is = refl; leaf = refl; no_part = refl; block = refl })
        (record {
          unread_starts = refl;
          starts = refl;
          stretch = inside.parts.stretch;
          unread_word = record { left = Nothing; leads = inside.parts.unread_word; ends = refl };
          word = record { left = Nothing; leads = inside.parts.word; ends = refl };
          unread_ending =
              filling-append (unread_title ++ gap) under.inside front.parts.unread_stays line.fills true;
          ending = filling-append (title ++ gap) under.inside front.parts.stays line.fills true;
          plain = λ first. record {
            known =
                known-around bytes turn_leaf.name row.first under.end done refl refl refl (inside.plain first).known;
            lines = passes-heading bytes turn_leaf.name row.first under.end done refl (inside.plain first).lines;
          };
          reads =
              λ r none shut. read-inside options bytes row rows under (kept-of options bytes row rows h) r
              (lines-read options bytes row rows h) turns none shut;
        })

pub turned-facts : (options : ParseOptions) (bytes : List ℕ) (row : Row) (rows : List Row) (under : Row) →
    (h : AreLines options bytes row rows) → (is : IsUnder options bytes (last_row row rows) under) →
    LeafFacts bytes (Some (turned-block options bytes row rows under h is)) true row.first under.end
    (heading_unread under row rows) (heading_done bytes under row rows)
turned-facts options bytes row rows under h is =
    turns-facts options bytes row rows under h (under-turns options bytes row rows under h is)
