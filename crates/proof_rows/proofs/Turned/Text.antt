-- The lines of a text as that of a heading.
use Rattle.std.proofs.Common.{ℕ, true, List, [], ◌∷◌, ◌++◌, refl}
use Rattle.md_engine.specs.declared.configuration.ParseOptions.{ParseOptions}
use Rattle.md_engine.specs.declared.event.Event.{Event}
use Rattle.md_engine.specs.declared.event.Point.{Point}
use Rattle.md_containers.specs.ItemsAllowed.{IsPart}
use Rattle.md_meaning.specs.State.{texts}
use Rattle.md_outline.specs.LinesAllowed.{AtTitle, AfterTitle}
use Rattle.md_outline.proofs.LinesPass.{passes-title}
use Rattle.md_events.specs.Events.Grammar.{plain_text, unread_text}
use Rattle.md_events.specs.Events.Nested.{enter, exit}
use Rattle.md_events.specs.Events.Spelled.{AsHeading, OfHeadingSetext, fresh}
use Rattle.md_events.proofs.EndingsLemmas.{Filling, Stays, stays-append, stays-others}
use Rattle.md_events.proofs.GrammarLemmas.{leads-around}
use Rattle.md_registry.specs.Registry.{turn_leaf}
use Rattle.proof_frame.specs.Row.{Row, last_row, read_lines}
use Rattle.proof_rows.specs.BlockList.{unread_lines}
use Rattle.proof_rows.proofs.GroupLines.{AreLines, kept-of}
use Rattle.proof_frame.proofs.PlainFacts.{known-around}
use Rattle.proof_frame.proofs.LeafLines.Inside.{InsideFacts}
use Rattle.proof_frame.proofs.ParagraphLines.{IsRead}
use Rattle.proof_rows.proofs.Text.Endings.{linked-filling, read-filling}
use Rattle.proof_rows.proofs.Text.Facts.{end-clear, lines-read, lines-stretch}
use Rattle.proof_rows.proofs.Text.Parted.{text-sits}
use Rattle.proof_rows.proofs.Text.Parts.{lines-inside}
use Rattle.proof_rows.proofs.Text.Words.{linked-word, read-word}
use Rattle.proof_rows.proofs.Turned.Events.{heading_left, so_far, text_events, under_left}
use Rattle.proof_rows.proofs.Turned.TextReads.{text-reads}
use Rattle.proof_frame.proofs.LeafAllowed.{between-part}

-- it fills the line on which it ends
text-stays : (p q : Point) (text : List Event) → Filling text → Stays (text_events p q text)
text-stays p q text h =
    stays-append (enter turn_leaf.text p ∷ []) (text ++ exit turn_leaf.text q ∷ [])
    (stays-others (enter turn_leaf.text p ∷ []) refl)
    (stays-append text (exit turn_leaf.text q ∷ []) (λ from. (true, h from))
    (stays-others (exit turn_leaf.text q ∷ []) refl))

pub text-inside : (options : ParseOptions) (bytes : List ℕ) (row : Row) (rows : List Row) →
    (h : AreLines options bytes row rows) →
    InsideFacts bytes row.first (last_row row rows).end heading_left under_left (fresh OfHeadingSetext)
    (so_far [] (texts (kept-of options bytes row rows h))) AtTitle AfterTitle
    (text_events row.first (last_row row rows).end (unread_lines row rows))
    (text_events row.first (last_row row rows).end (read_lines bytes row rows))
text-inside options bytes row rows h = record {
  parts = record {
    stretch =
        lines-stretch IsPart options bytes turn_leaf.text row rows tt between-part refl
        (text-sits options bytes turn_leaf.text AsHeading row rows refl (λ p span. refl) h) h;
    unread_word =
        leads-around unread_text heading_left turn_leaf.text row.first end unread
        (linked-word options bytes unread_text row rows refl h);
    word =
        leads-around plain_text heading_left turn_leaf.text row.first end done
        (read-word options bytes true row rows h);
    unread_stays = text-stays row.first end unread (linked-filling options bytes row rows h);
    stays = text-stays row.first end done (read-filling options bytes row rows h);
    reads = λ r none opened. text-reads bytes row rows (kept-of options bytes row rows h) r read none opened;
  };
  plain = λ first. record {
    known =
        known-around bytes turn_leaf.text row.first end done refl first (end-clear options bytes row rows h)
        (lines-inside options bytes row rows h).plain.known;
    lines = passes-title bytes turn_leaf.text row.first end done refl read.between;
  };
}
  where
    end : Point
    end = (last_row row rows).end

    unread : List Event
    unread = unread_lines row rows

    done : List Event
    done = read_lines bytes row rows

    read : IsRead bytes row rows (kept-of options bytes row rows h)
    read = lines-read options bytes row rows h
