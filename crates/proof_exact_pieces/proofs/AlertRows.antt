-- Small texts of alerts, each with its exact list.
use Rattle.std.proofs.Common.{◌≡◌, ℕ, List, [], ◌∷◌, ◌++◌, codes, refl}
use Rattle.md_engine.specs.declared.configuration.TheConstants.ParseOptions as given
use Rattle.md_engine.specs.declared.event.Event.{Event}
use Rattle.md_engine.specs.declared.event.Name.TheVariants as n
use Rattle.md_meaning.specs.Html.{begins_raw, begins_basic, after_value, after_assignment, after_attribute}
use Rattle.md_meaning.specs.Html.{ends_opening, begins_complete, kind_after, html_kind, html_ends, is_raw_name}
use Rattle.md_meaning.specs.Html.{is_basic_name, is_raw_end}
use Rattle.md_meaning.specs.Enclosed.{enclosed, enclosed_lines}
use Rattle.md_meaning.specs.Definition.{label_at, balanced, destination_at, title_at, definition_at, cut_at_most}
use Rattle.md_meaning.specs.Definition.{cut_definitions}
use Rattle.md_meaning.specs.Table.{pieces, row_cells, delimiter_columns, is_head}
use Rattle.md_meaning.specs.State.{shut_paragraph}
use Rattle.md_meaning.specs.Preamble.{front_of}
use Rattle.md_meaning.specs.Alert.{alert_at}
use Rattle.md_meaning.specs.Containers.{quote_taken, item_continues, footnote_continues, opens_quote, opens_item}
use Rattle.md_meaning.specs.Containers.{opens_footnote}
use Rattle.md_meaning.specs.Leaves.{break_at, heading_at, code_at, code_continued, fence_at, fence_continued, html_at}
use Rattle.md_meaning.specs.Leaves.{html_continued, starts, table_continued, underline_depth, underlined, table_at}
use Rattle.md_meaning.specs.Step.{fresh_line, text_line, all_continued, stopped}
use Rattle.md_events.specs.Events.Nested.{around, pair}
use Rattle.md_events.specs.Exact.Blocks.{exact}
use Rattle.md_events.proofs.EventRowParts.{at, within_tab, chunk}

-- "> [!tip] \n> a"
abbrev alert_text : List ℕ
alert_text = codes "> [!tip] " ++ 10 ∷ codes "> a"

abbrev alert_events : List Event
alert_events =
    around n.BlockQuote (at 1 1 0) (at 2 4 13)
    (around n.BlockQuotePrefix (at 1 1 0) (at 1 10 9)
    (pair n.BlockQuoteMarker (at 1 1 0) (at 1 2 1)
    ++ pair n.SpaceOrTab (at 1 2 1) (at 1 3 2)
    ++ pair n.BlockQuoteMarker (at 1 3 2) (at 1 9 8)
    ++ pair n.SpaceOrTab (at 1 9 8) (at 1 10 9))
    ++ pair n.BlankLineEnding (at 1 10 9) (at 2 1 10)
    ++ around n.BlockQuotePrefix (at 2 1 10) (at 2 3 12)
    (pair n.BlockQuoteMarker (at 2 1 10) (at 2 2 11)
    ++ pair n.SpaceOrTab (at 2 2 11) (at 2 3 12))
    ++ around n.Paragraph (at 2 3 12) (at 2 4 13)
    (chunk (at 2 3 12) (at 2 4 13)))

-- ">    [!NOTE]\n"
abbrev indented_alert_text : List ℕ
indented_alert_text = codes ">    [!NOTE]" ++ 10 ∷ []

abbrev indented_alert_events : List Event
indented_alert_events =
    around n.BlockQuote (at 1 1 0) (at 1 13 12)
    (around n.BlockQuotePrefix (at 1 1 0) (at 1 13 12)
    (pair n.BlockQuoteMarker (at 1 1 0) (at 1 2 1)
    ++ pair n.SpaceOrTab (at 1 2 1) (at 1 3 2)
    ++ pair n.SpaceOrTab (at 1 3 2) (at 1 6 5)
    ++ pair n.BlockQuoteMarker (at 1 6 5) (at 1 13 12)))
    ++ pair n.BlankLineEnding (at 1 13 12) (at 2 1 13)

-- ">     [!NOTE]"
abbrev code_for_alert_text : List ℕ
code_for_alert_text = codes ">     [!NOTE]"

abbrev code_for_alert_events : List Event
code_for_alert_events =
    around n.BlockQuote (at 1 1 0) (at 1 14 13)
    (around n.BlockQuotePrefix (at 1 1 0) (at 1 3 2)
    (pair n.BlockQuoteMarker (at 1 1 0) (at 1 2 1)
    ++ pair n.SpaceOrTab (at 1 2 1) (at 1 3 2))
    ++ around n.CodeIndented (at 1 3 2) (at 1 14 13)
    (pair n.SpaceOrTab (at 1 3 2) (at 1 7 6)
    ++ pair n.CodeFlowChunk (at 1 7 6) (at 1 14 13)))

-- ">\t[!WARNING]\t\n>\tb\n"
abbrev tab_alert_text : List ℕ
tab_alert_text = codes ">" ++ 9 ∷ codes "[!WARNING]" ++ 9 ∷ 10 ∷ codes ">" ++ 9 ∷ codes "b" ++ 10 ∷ []

abbrev tab_alert_events : List Event
tab_alert_events =
    around n.BlockQuote (at 1 1 0) (at 2 6 17)
    (around n.BlockQuotePrefix (at 1 1 0) (at 1 17 13)
    (pair n.BlockQuoteMarker (at 1 1 0) (at 1 2 1)
    ++ pair n.SpaceOrTab (at 1 2 1) (within_tab 1 3 1 1)
    ++ pair n.SpaceOrTab (within_tab 1 3 1 1) (at 1 5 2)
    ++ pair n.BlockQuoteMarker (at 1 5 2) (at 1 15 12)
    ++ pair n.SpaceOrTab (at 1 15 12) (at 1 17 13))
    ++ pair n.BlankLineEnding (at 1 17 13) (at 2 1 14)
    ++ around n.BlockQuotePrefix (at 2 1 14) (within_tab 2 3 15 1)
    (pair n.BlockQuoteMarker (at 2 1 14) (at 2 2 15)
    ++ pair n.SpaceOrTab (at 2 2 15) (within_tab 2 3 15 1))
    ++ around n.Paragraph (within_tab 2 3 15 1) (at 2 6 17)
    (chunk (within_tab 2 3 15 1) (at 2 6 17)))
    ++ pair n.LineEnding (at 2 6 17) (at 3 1 18)

-- "- > [!tip]\n  > b\nc"
abbrev alert_in_item_text : List ℕ
alert_in_item_text = codes "- > [!tip]" ++ 10 ∷ codes "  > b" ++ 10 ∷ codes "c"

abbrev alert_in_item_events : List Event
alert_in_item_events =
    around n.ListUnordered (at 1 1 0) (at 3 2 18)
    (around n.ListItem (at 1 1 0) (at 3 2 18)
    (around n.ListItemPrefix (at 1 1 0) (at 1 3 2)
    (pair n.ListItemMarker (at 1 1 0) (at 1 2 1)
    ++ pair n.SpaceOrTab (at 1 2 1) (at 1 3 2))
    ++ around n.BlockQuote (at 1 3 2) (at 3 2 18)
    (around n.BlockQuotePrefix (at 1 3 2) (at 1 11 10)
    (pair n.BlockQuoteMarker (at 1 3 2) (at 1 4 3)
    ++ pair n.SpaceOrTab (at 1 4 3) (at 1 5 4)
    ++ pair n.BlockQuoteMarker (at 1 5 4) (at 1 11 10))
    ++ pair n.BlankLineEnding (at 1 11 10) (at 2 1 11)
    ++ pair n.SpaceOrTab (at 2 1 11) (at 2 3 13)
    ++ around n.BlockQuotePrefix (at 2 3 13) (at 2 5 15)
    (pair n.BlockQuoteMarker (at 2 3 13) (at 2 4 14)
    ++ pair n.SpaceOrTab (at 2 4 14) (at 2 5 15))
    ++ around n.Paragraph (at 2 5 15) (at 3 2 18)
    (chunk (at 2 5 15) (at 3 1 17)
    ++ chunk (at 3 1 17) (at 3 2 18)))))

-- "> > [!Important]\n> > a"
abbrev alert_in_quote_text : List ℕ
alert_in_quote_text = codes "> > [!Important]" ++ 10 ∷ codes "> > a"

abbrev alert_in_quote_events : List Event
alert_in_quote_events =
    around n.BlockQuote (at 1 1 0) (at 2 6 22)
    (around n.BlockQuotePrefix (at 1 1 0) (at 1 3 2)
    (pair n.BlockQuoteMarker (at 1 1 0) (at 1 2 1)
    ++ pair n.SpaceOrTab (at 1 2 1) (at 1 3 2))
    ++ around n.BlockQuote (at 1 3 2) (at 2 6 22)
    (around n.BlockQuotePrefix (at 1 3 2) (at 1 17 16)
    (pair n.BlockQuoteMarker (at 1 3 2) (at 1 4 3)
    ++ pair n.SpaceOrTab (at 1 4 3) (at 1 5 4)
    ++ pair n.BlockQuoteMarker (at 1 5 4) (at 1 17 16))
    ++ pair n.BlankLineEnding (at 1 17 16) (at 2 1 17)
    ++ around n.BlockQuotePrefix (at 2 1 17) (at 2 3 19)
    (pair n.BlockQuoteMarker (at 2 1 17) (at 2 2 18)
    ++ pair n.SpaceOrTab (at 2 2 18) (at 2 3 19))
    ++ around n.BlockQuotePrefix (at 2 3 19) (at 2 5 21)
    (pair n.BlockQuoteMarker (at 2 3 19) (at 2 4 20)
    ++ pair n.SpaceOrTab (at 2 4 20) (at 2 5 21))
    ++ around n.Paragraph (at 2 5 21) (at 2 6 22)
    (chunk (at 2 5 21) (at 2 6 22))))

-- "> a\n> [!TIP]"
abbrev late_alert_text : List ℕ
late_alert_text = codes "> a" ++ 10 ∷ codes "> [!TIP]"

abbrev late_alert_events : List Event
late_alert_events =
    around n.BlockQuote (at 1 1 0) (at 2 9 12)
    (around n.BlockQuotePrefix (at 1 1 0) (at 1 3 2)
    (pair n.BlockQuoteMarker (at 1 1 0) (at 1 2 1)
    ++ pair n.SpaceOrTab (at 1 2 1) (at 1 3 2))
    ++ around n.Paragraph (at 1 3 2) (at 2 9 12)
    (chunk (at 1 3 2) (at 2 1 4)
    ++ around n.BlockQuotePrefix (at 2 1 4) (at 2 3 6)
    (pair n.BlockQuoteMarker (at 2 1 4) (at 2 2 5)
    ++ pair n.SpaceOrTab (at 2 2 5) (at 2 3 6))
    ++ chunk (at 2 3 6) (at 2 9 12)))

-- "> [!CAUTION]\n="
abbrev alert_underline_text : List ℕ
alert_underline_text = codes "> [!CAUTION]" ++ 10 ∷ codes "="

abbrev alert_underline_events : List Event
alert_underline_events =
    around n.BlockQuote (at 1 1 0) (at 1 13 12)
    (around n.BlockQuotePrefix (at 1 1 0) (at 1 13 12)
    (pair n.BlockQuoteMarker (at 1 1 0) (at 1 2 1)
    ++ pair n.SpaceOrTab (at 1 2 1) (at 1 3 2)
    ++ pair n.BlockQuoteMarker (at 1 3 2) (at 1 13 12)))
    ++ pair n.BlankLineEnding (at 1 13 12) (at 2 1 13)
    ++ around n.Paragraph (at 2 1 13) (at 2 2 14)
    (chunk (at 2 1 13) (at 2 2 14))

-- "> [!note] x\n"
abbrev text_after_alert_text : List ℕ
text_after_alert_text = codes "> [!note] x" ++ 10 ∷ []

abbrev text_after_alert_events : List Event
text_after_alert_events =
    around n.BlockQuote (at 1 1 0) (at 1 12 11)
    (around n.BlockQuotePrefix (at 1 1 0) (at 1 3 2)
    (pair n.BlockQuoteMarker (at 1 1 0) (at 1 2 1)
    ++ pair n.SpaceOrTab (at 1 2 1) (at 1 3 2))
    ++ around n.Paragraph (at 1 3 2) (at 1 12 11)
    (chunk (at 1 3 2) (at 1 12 11)))
    ++ pair n.LineEnding (at 1 12 11) (at 2 1 12)

-- "> [!note]\n> [!note]\n\n>[!note]"
abbrev alert_again_text : List ℕ
alert_again_text = codes "> [!note]" ++ 10 ∷ codes "> [!note]" ++ 10 ∷ 10 ∷ codes ">[!note]"

abbrev alert_again_events : List Event
alert_again_events =
    around n.BlockQuote (at 1 1 0) (at 2 10 19)
    (around n.BlockQuotePrefix (at 1 1 0) (at 1 10 9)
    (pair n.BlockQuoteMarker (at 1 1 0) (at 1 2 1)
    ++ pair n.SpaceOrTab (at 1 2 1) (at 1 3 2)
    ++ pair n.BlockQuoteMarker (at 1 3 2) (at 1 10 9))
    ++ pair n.BlankLineEnding (at 1 10 9) (at 2 1 10)
    ++ around n.BlockQuotePrefix (at 2 1 10) (at 2 3 12)
    (pair n.BlockQuoteMarker (at 2 1 10) (at 2 2 11)
    ++ pair n.SpaceOrTab (at 2 2 11) (at 2 3 12))
    ++ around n.Paragraph (at 2 3 12) (at 2 10 19)
    (chunk (at 2 3 12) (at 2 10 19)))
    ++ pair n.LineEnding (at 2 10 19) (at 3 1 20)
    ++ pair n.BlankLineEnding (at 3 1 20) (at 4 1 21)
    ++ around n.BlockQuote (at 4 1 21) (at 4 9 29)
    (around n.BlockQuotePrefix (at 4 1 21) (at 4 9 29)
    (pair n.BlockQuoteMarker (at 4 1 21) (at 4 2 22)
    ++ pair n.BlockQuoteMarker (at 4 2 22) (at 4 9 29)))

-- "> [!NOTE]\n> a"
abbrev alert_off_text : List ℕ
alert_off_text = codes "> [!NOTE]" ++ 10 ∷ codes "> a"

abbrev alert_off_events : List Event
alert_off_events =
    around n.BlockQuote (at 1 1 0) (at 2 4 13)
    (around n.BlockQuotePrefix (at 1 1 0) (at 1 3 2)
    (pair n.BlockQuoteMarker (at 1 1 0) (at 1 2 1)
    ++ pair n.SpaceOrTab (at 1 2 1) (at 1 3 2))
    ++ around n.Paragraph (at 1 3 2) (at 2 4 13)
    (chunk (at 1 3 2) (at 2 1 10)
    ++ around n.BlockQuotePrefix (at 2 1 10) (at 2 3 12)
    (pair n.BlockQuoteMarker (at 2 1 10) (at 2 2 11)
    ++ pair n.SpaceOrTab (at 2 2 11) (at 2 3 12))
    ++ chunk (at 2 3 12) (at 2 4 13)))

record AreAlerts : Type 0 where
  alert : exact given.ALERTS alert_text ≡ alert_events
  indented_alert : exact given.ALERTS indented_alert_text ≡ indented_alert_events
  code_for_alert : exact given.ALERTS code_for_alert_text ≡ code_for_alert_events
  tab_alert : exact given.ALERTS tab_alert_text ≡ tab_alert_events
  alert_in_item : exact given.ALERTS alert_in_item_text ≡ alert_in_item_events
  alert_in_quote : exact given.ALERTS alert_in_quote_text ≡ alert_in_quote_events
  late_alert : exact given.ALERTS late_alert_text ≡ late_alert_events
  alert_underline : exact given.ALERTS alert_underline_text ≡ alert_underline_events
  text_after_alert : exact given.ALERTS text_after_alert_text ≡ text_after_alert_events
  alert_again : exact given.ALERTS alert_again_text ≡ alert_again_events
  alert_off : exact given.ALL alert_off_text ≡ alert_off_events

are-exact : AreAlerts
unfolding begins_raw begins_basic after_value after_assignment after_attribute ends_opening begins_complete kind_after
    html_kind html_ends is_raw_name is_basic_name is_raw_end enclosed enclosed_lines label_at balanced destination_at
    title_at definition_at cut_at_most cut_definitions pieces row_cells delimiter_columns is_head shut_paragraph
    front_of alert_at quote_taken item_continues footnote_continues opens_quote opens_item opens_footnote break_at
    heading_at code_at code_continued fence_at fence_continued html_at html_continued starts table_continued
    underline_depth
    underlined table_at fresh_line text_line all_continued stopped
are-exact = record {
  alert = refl;
  indented_alert = refl;
  code_for_alert = refl;
  tab_alert = refl;
  alert_in_item = refl;
  alert_in_quote = refl;
  late_alert = refl;
  alert_underline = refl;
  text_after_alert = refl;
  alert_again = refl;
  alert_off = refl;
}
