-- All that the frame asks of the events of lines of text that follow one another, as one leaf.
use Rattle.std.proofs.Common.{◌≡◌, ℕ, true, List, [], ◌∷◌, refl, ap}
use Rattle.std.specs.Prelude.{◌==◌, ◌||◌, Some}
use Rattle.md_engine.specs.declared.configuration.ParseOptions.{ParseOptions}
use Rattle.md_engine.specs.declared.event.Event.{Event}
use Rattle.md_engine.specs.declared.event.Point.{Point}
use Rattle.md_events.specs.declared.inline.PartKind.TheVariants.{Text}
use Rattle.md_events.specs.Events.Grammar.{blocks, plain_text, unread_text}
use Rattle.md_events.specs.Events.Spelled.{AsParagraph, byte_at, Role, role}
use Rattle.md_meaning.specs.State.{texts}
use Rattle.md_events.proofs.EndingsLemmas.{leaf-leads}
use Rattle.md_events.proofs.GrammarLemmas.{leads-around}
use Rattle.md_events.proofs.SpelledLemmas.{Between}
use Rattle.md_outline.specs.Between.{is_between}
use Rattle.proof_frame.specs.TextLines.{text_leaf}
use Rattle.proof_rows.specs.BlockList.{lines_unread, unread_lines}
use Rattle.proof_frame.specs.Row.{Row, last_row, read_lines}
use Rattle.proof_rows.specs.Rows.{lines_done}
use Rattle.proof_rows.proofs.GroupLines.{AreLines, kept-of}
use Rattle.proof_rows.proofs.GroupLemmas.{chunks-lines}
use Rattle.proof_frame.proofs.LeafFacts.{LeafFacts}
use Rattle.proof_frame.proofs.PartedFacts.{clear, PrefixesAtLineStart}
use Rattle.proof_frame.proofs.PlainFacts.{plain-around}
use Rattle.md_registry.proofs.Registry.{text-laws}
use Rattle.proof_frame.proofs.ParagraphLines.{IsRead}
use Rattle.proof_rows.proofs.SpelledParagraphs.{read-lines, read-more, read-one}
use Rattle.proof_rows.proofs.Text.Endings.{linked-filling, read-filling}
use Rattle.proof_rows.proofs.Text.Order.{chunks-order}
use Rattle.proof_rows.proofs.Text.Parted.{text-sits}
use Rattle.proof_rows.proofs.Text.Parts.{chunks-begin, lines-inside}
use Rattle.proof_rows.proofs.Text.Pieces.{linked-starts, read-starts}
use Rattle.proof_rows.proofs.Text.Words.{linked-word, read-word}
use Rattle.md_engine.specs.declared.event.Name.{Name}
use Rattle.md_events.specs.Events.Nested.{around}
use Rattle.md_events.specs.Events.Tiles.{part_kind}
use Rattle.proof_frame.proofs.EventNames.{NoContainer, part-no_container}
use Rattle.proof_frame.proofs.LeafAllowed.{between-part}
use Rattle.proof_frame.proofs.Stretch.{Stretch}
use Rattle.proof_frame.proofs.TextInside.{stretch-part}

-- they are read as these
pub lines-read : (options : ParseOptions) (bytes : List ℕ) (row : Row) (rows : List Row) →
    (h : AreLines options bytes row rows) →
    IsRead bytes row rows (kept-of options bytes row rows h)
lines-read options bytes row [] h = read-one options bytes h.0 row h.1 h.2
lines-read options bytes row (next ∷ rows) h =
    read-more options bytes h.0 row next rows h.3 (kept-of options bytes next rows h.7) h.1 h.2 h.5 h.6
    (lines-read options bytes next rows h.7)

-- the last one ends in no tab
pub end-clear : (options : ParseOptions) (bytes : List ℕ) (row : Row) (rows : List Row) →
    AreLines options bytes row rows → clear bytes (last_row row rows).end ≡ true
end-clear options bytes row [] h = ap (λ (v : ℕ). (v == 0) || is_between bytes (byte_at row.end)) h.1.end_whole
end-clear options bytes row (next ∷ rows) h = end-clear options bytes next rows h.7

-- The lines, with a text part of this name around them, are a stretch, where that parts no text.
pub lines-stretch : (R : Role → Type 0) (options : ParseOptions) (bytes : List ℕ) (name : Name) (row : Row)
    (rows : List Row) →
    R (role name) → ((x : Role) → Between x → R x) → part_kind name ≡ Some Text →
    PrefixesAtLineStart bytes (around name row.first (last_row row rows).end (read_lines bytes row rows)) →
    AreLines options bytes row rows →
    Stretch R bytes row.first (last_row row rows).end
    (around name row.first (last_row row rows).end (unread_lines row rows))
    (around name row.first (last_row row rows).end (read_lines bytes row rows))
lines-stretch R options bytes name row rows named apart kind parted h =
    stretch-part R name named apart kind (linked-starts row rows) (read-starts options bytes row rows h)
    (chunks-begin row rows) (chunks-lines options bytes row rows h) (chunks-order options bytes row rows h) parted
    (lines-inside options bytes row rows h)

pub text-facts : (options : ParseOptions) (bytes : List ℕ) (row : Row) (rows : List Row) →
    (h : AreLines options bytes row rows) →
    LeafFacts bytes (Some (text_leaf.block (texts (kept-of options bytes row rows h)))) true row.first
    (last_row row rows).end (lines_unread row rows) (lines_done bytes row rows)
text-facts options bytes row rows h = record {
  are_valid = record {
    stretch =
        lines-stretch NoContainer options bytes text_leaf.name row rows tt
        (λ x between. part-no_container x (between-part x between)) refl
        (text-sits options bytes text_leaf.name AsParagraph row rows refl (λ p span. refl) h) h;
    following = true;
    unread_word =
        leads-around unread_text blocks text_leaf.name row.first end unread
        (linked-word options bytes unread_text row rows refl h);
    word =
        leads-around plain_text blocks text_leaf.name row.first end done (read-word options bytes true row rows h);
    unread_ending =
        leaf-leads text_leaf.name row.first end unread refl (linked-filling options bytes row rows h true);
    ending = leaf-leads text_leaf.name row.first end done refl (read-filling options bytes row rows h true);
    valid = λ held. text-laws.valid bytes held row.first end done (lines-read options bytes row rows h).between;
    plain =
        λ first. plain-around bytes text_leaf.name row.first end done refl first
        (end-clear options bytes row rows h) (lines-inside options bytes row rows h).plain;
  };
  reads =
      λ r text leaf. read-lines bytes row rows (kept-of options bytes row rows h) r
      (lines-read options bytes row rows h) text;
}
  where
    end : Point
    end = (last_row row rows).end

    unread : List Event
    unread = unread_lines row rows

    done : List Event
    done = read_lines bytes row rows
