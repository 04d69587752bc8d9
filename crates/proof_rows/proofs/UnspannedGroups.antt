-- Groups of lines that are no leaf of several: the walk that joins the lines of such leaves passes them.
use Rattle.std.proofs.Common.{ℕ, List, [], ◌∷◌, ◌++◌, refl}
use Rattle.md_engine.specs.declared.configuration.ParseOptions.{ParseOptions}
use Rattle.md_engine.specs.declared.event.Event.{Event}
use Rattle.md_engine.specs.declared.event.Link.{Link}
use Rattle.md_engine.specs.declared.event.Name.TheVariants as n
use Rattle.md_events.specs.Events.Nested.{around, exit}
use Rattle.proof_rows.specs.BlockList.{heading_unread, lines_unread, turned_unread, tabled_group, tabled_row_by}
use Rattle.proof_rows.specs.BlockList.{text_unread, unread_lines}
use Rattle.proof_frame.specs.TextLines.{text_leaf}
use Rattle.md_registry.specs.Registry.{turn_leaf}
use Rattle.proof_frame.specs.Row.{Row, TextRow, ending_events, is_blank_by, last_row}
use Rattle.proof_rows.specs.Rows.{Lines, Turned, row_events, turned_done}
use Rattle.proof_content_laws.specs.Defined.{defined_unread}
use Rattle.proof_rows.specs.Unread.{unread_group}
use Rattle.proof_frame.specs.UnreadText.{linked_lines}
use Rattle.proof_frame.proofs.EachEvent.{each-append}
use Rattle.proof_frame.proofs.FrontNames.{HasFront, fronts-prefixes}
use Rattle.proof_frame.proofs.SpannedFacts.{AreUnspanned, IsUnspanned, fronts-unspanned}
use Rattle.proof_frame.proofs.SubstitutedLemmas.{EachPrefixed}
use Rattle.md_registry.proofs.Registry.{laws}
use Rattle.proof_rows.proofs.GroupLemmas.{lines-prefixed}
use Rattle.proof_rows.proofs.GroupLines.{AreLines, IsLeft, IsSingle, IsUnder}
use Rattle.proof_rows.proofs.RowHolds.{OfRows, around-holds, each-linked, set-holds, single-holds, text-holds}
use Rattle.proof_rows.proofs.RowHolds.{turned-holds}
use Rattle.proof_rows.proofs.SpanJoined.{ending-name, ending-unspanned, prefixes-unspanned}
use Rattle.proof_rows.proofs.Text.Cut.{between}
use Rattle.proof_rows.proofs.Text.Names.{between-of, defined-of, unspanned-of}
use Rattle.proof_rows.proofs.Turned.Cut.{IsCutHeading, heading-cut, left-remains, IsCutHeading as cut_heading}
use Rattle.proof_leaf_laws.proofs.HeadingSetext.Line.{underline-unspanned}
use Rattle.proof_rows.proofs.Underlines.{under-holds}

-- Lines that are no text, as their states leave them, and once they are set.

unspanned-rows : OfRows AreUnspanned
unspanned-rows = record {
  append = each-append IsUnspanned;
  fronts = fronts-unspanned;
  ending = λ p q. (refl, (refl, tt));
  blank_ending = λ p q. (refl, (refl, tt));
  white = λ p q. (refl, (refl, tt));
}

pub row-unspanned : (options : ParseOptions) (bytes : List ℕ) (row : Row) → IsSingle options bytes row →
    AreUnspanned (row_events row)
row-unspanned = single-holds AreUnspanned unspanned-rows (λ l. (laws l).unjoined)

pub single-unspanned : (options : ParseOptions) (bytes : List ℕ) (row : Row) → IsSingle options bytes row →
    AreUnspanned (tabled_row_by bytes row.kind row)
single-unspanned = set-holds AreUnspanned unspanned-rows (λ l. (laws l).unspanned)

-- Texts.

linked-unspanned : (link : Link) (row : Row) (rows : List Row) → EachPrefixed rows →
    AreUnspanned (linked_lines n.Data link row rows)
linked-unspanned = each-linked IsUnspanned (λ p link. refl) (λ q. refl) prefixes-unspanned

-- lines of a text that is not read yet, and a text from which definitions are cut
lines-unspanned : (options : ParseOptions) (bytes : List ℕ) (row : Row) (rows : List Row) →
    AreLines options bytes row rows → AreUnspanned (lines_unread row rows)
lines-unspanned options bytes row rows are = (
  refl,
  each-append IsUnspanned (unread_lines row rows) (exit text_leaf.name (last_row row rows).end ∷ [])
      (linked-unspanned text_leaf.link row rows (lines-prefixed options bytes row rows are)) (refl, tt),
)

pub text-unspanned : (options : ParseOptions) (bytes : List ℕ) (row : Row) (rows : List Row) →
    AreLines options bytes row rows → HasFront bytes row → AreUnspanned (tabled_group options bytes (Lines row rows))
text-unspanned options bytes =
    text-holds AreUnspanned unspanned-rows unspanned-of options bytes (lines-unspanned options bytes)

-- with the line that turns it, before it is turned
pub underlined-unspanned : (options : ParseOptions) (bytes : List ℕ) (row : Row) (rows : List Row) (under : Row) →
    AreLines options bytes row rows → IsUnder options bytes (last_row row rows) under → HasFront bytes row →
    AreUnspanned (unread_group options bytes (Turned row rows under))
underlined-unspanned options bytes row rows under are is front =
    turned-holds AreUnspanned unspanned-rows options bytes row rows under is
    (text-unspanned options bytes row rows are front)
    (under-holds AreUnspanned underline-unspanned options bytes row rows under are is)

-- the lines that an underline turns, with it
heading-unspanned : (options : ParseOptions) (bytes : List ℕ) (row : Row) (rows : List Row) (under : Row) →
    AreLines options bytes row rows → IsUnder options bytes (last_row row rows) under →
    AreUnspanned (heading_unread under row rows)
heading-unspanned options bytes row rows under are is = (
  refl,
  each-append IsUnspanned (begun ++ under.inside) (exit turn_leaf.name under.end ∷ [])
      (each-append IsUnspanned begun under.inside
      (each-append IsUnspanned (text ++ ending_events n.LineEnding last) under.front
      (each-append IsUnspanned text (ending_events n.LineEnding last) (
        refl,
        each-append IsUnspanned (unread_lines row rows) (exit turn_leaf.text last.end ∷ [])
            (linked-unspanned text_leaf.link row rows (lines-prefixed options bytes row rows are)) (refl, tt),
      )
      (ending-unspanned n.LineEnding last (ending-name TextRow last)))
      (prefixes-unspanned under.front (fronts-prefixes bytes [] is.after under.first under.front refl is.front)))
      (under-holds AreUnspanned underline-unspanned options bytes row rows under are is))
      (refl, tt),
)
  where
    last : Row
    last = last_row row rows

    text : List Event
    text = around turn_leaf.text row.first last.end (unread_lines row rows)

    begun : List Event
    begun = text ++ ending_events n.LineEnding last ++ under.front

-- and the text with them, definitions and all
headed-unspanned : (options : ParseOptions) (bytes : List ℕ) (under row : Row) (rows : List Row)
    (before following done : List Event) → IsCutHeading options bytes under row rows before following done →
    AreUnspanned following
headed-unspanned options bytes under row rows before following done (cut_heading.Turned first below are is) =
    heading-unspanned options bytes first below under are is
headed-unspanned options bytes under row rows before following done
    (cut_heading.Follows d first own next below q left turns read are is after ending front rest) =
    let own_events : List Event = defined_unread d first own in
    let gap : List Event = between (last_row first own).end q next.front in
    each-append IsUnspanned (own_events ++ gap) turns
    (each-append IsUnspanned own_events gap (defined-of AreUnspanned unspanned-of bytes d first own is)
    (between-of AreUnspanned unspanned-of bytes (last_row first own).end q next.first next.front front))
    (headed-unspanned options bytes under next below left turns read rest)

-- with what is before it, and after it
pub turned-unspanned : (options : ParseOptions) (bytes : List ℕ) (row : Row) (rows : List Row) (under : Row) →
    (are : AreLines options bytes row rows) → IsUnder options bytes (last_row row rows) under →
    IsLeft options bytes row rows are → HasFront bytes row →
    AreUnspanned (tabled_group options bytes (Turned row rows under))
turned-unspanned options bytes row rows under are is left front =
    let heading : List Event = turned_unread options bytes row rows under in
    around-holds AreUnspanned unspanned-rows bytes row under (is_blank_by under.kind under) heading front
    (headed-unspanned options bytes under row rows (text_unread options bytes row rows) heading
    (turned_done options bytes row rows under)
    (heading-cut options bytes row rows under are is (left-remains options bytes row rows are left)))
