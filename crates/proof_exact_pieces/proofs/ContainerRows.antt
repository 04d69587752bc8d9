-- Small texts of containers, each with its exact list.
use Rattle.std.proofs.Common.{◌≡◌, List, ◌++◌, refl}
use Rattle.md_engine.specs.declared.configuration.TheConstants.ParseOptions as given
use Rattle.md_engine.specs.declared.event.Event.{Event}
use Rattle.md_engine.specs.declared.event.Name.TheVariants as n
use Rattle.md_meaning.specs.Html.{begins_raw, begins_basic, after_value, after_assignment, after_attribute}
use Rattle.md_meaning.specs.Html.{ends_opening, begins_complete, kind_after, html_kind, html_ends, is_raw_name}
use Rattle.md_meaning.specs.Html.{is_basic_name, is_raw_end}
use Rattle.md_meaning.specs.Enclosed.{enclosed, enclosed_lines}
use Rattle.md_meaning.specs.Definition.{label_at, balanced, destination_at, title_at, definition_at, cut_at_most}
use Rattle.md_meaning.specs.Definition.{cut_definitions}
use Rattle.md_meaning.specs.Table.{pieces, row_cells, delimiter_columns, is_head}
use Rattle.md_meaning.specs.State.{shut_paragraph}
use Rattle.md_meaning.specs.Preamble.{front_of}
use Rattle.md_meaning.specs.Alert.{alert_at}
use Rattle.md_meaning.specs.Containers.{quote_taken, item_continues, footnote_continues, opens_quote, opens_item}
use Rattle.md_meaning.specs.Containers.{opens_footnote}
use Rattle.md_meaning.specs.Leaves.{break_at, heading_at, code_at, code_continued, fence_at, fence_continued, html_at}
use Rattle.md_meaning.specs.Leaves.{html_continued, starts, table_continued, underline_depth, underlined, table_at}
use Rattle.md_meaning.specs.Step.{fresh_line, text_line, all_continued, stopped}
use Rattle.md_events.specs.Events.Nested.{around, pair}
use Rattle.md_events.specs.Exact.Blocks.{exact}
use Rattle.md_events.proofs.EventRowParts.{at, chunk}
use Rattle.md_events.proofs.ContainerRows.{lazy_text, lazy_events, prefix_text, prefix_events, ordered_text}
use Rattle.md_events.proofs.ContainerRows.{ordered_events, items_text, nested_text, nested_events, left_fence_text}
use Rattle.md_events.proofs.ContainerRows.{left_fence_events, shared_tab_text, shared_tab_events, tabs_text}
use Rattle.md_events.proofs.ContainerRows.{tabs_events, definition_text, definition_events, footnote_text}
use Rattle.md_events.proofs.ContainerRows.{footnote_events, cut_chunk_text, cut_chunk_events, after_definition_text}
use Rattle.md_events.proofs.ContainerRows.{after_definition_events, lazy_head_text, lazy_head_events}

-- "- a\n+ b"
abbrev items_events : List Event
items_events =
    around n.ListUnordered (at 1 1 0) (at 1 4 3)
    (around n.ListItem (at 1 1 0) (at 1 4 3)
    (around n.ListItemPrefix (at 1 1 0) (at 1 3 2)
    (pair n.ListItemMarker (at 1 1 0) (at 1 2 1)
    ++ pair n.SpaceOrTab (at 1 2 1) (at 1 3 2))
    ++ around n.Paragraph (at 1 3 2) (at 1 4 3)
    (chunk (at 1 3 2) (at 1 4 3))))
    ++ pair n.LineEnding (at 1 4 3) (at 2 1 4)
    ++ around n.ListUnordered (at 2 1 4) (at 2 4 7)
    (around n.ListItem (at 2 1 4) (at 2 4 7)
    (around n.ListItemPrefix (at 2 1 4) (at 2 3 6)
    (pair n.ListItemMarker (at 2 1 4) (at 2 2 5)
    ++ pair n.SpaceOrTab (at 2 2 5) (at 2 3 6))
    ++ around n.Paragraph (at 2 3 6) (at 2 4 7)
    (chunk (at 2 3 6) (at 2 4 7))))

record AreContainers : Type 0 where
  lazy : exact given.ALL lazy_text ≡ lazy_events
  prefix : exact given.ALL prefix_text ≡ prefix_events
  ordered : exact given.ALL ordered_text ≡ ordered_events
  items : exact given.ALL items_text ≡ items_events
  nested : exact given.ALL nested_text ≡ nested_events
  left_fence : exact given.ALL left_fence_text ≡ left_fence_events
  shared_tab : exact given.ALL shared_tab_text ≡ shared_tab_events
  tabs : exact given.ALL tabs_text ≡ tabs_events
  definition : exact given.ALL definition_text ≡ definition_events
  footnote : exact given.ALL footnote_text ≡ footnote_events
  cut_chunk : exact given.ALL cut_chunk_text ≡ cut_chunk_events
  after_definition : exact given.ALL after_definition_text ≡ after_definition_events
  lazy_head : exact given.ALL lazy_head_text ≡ lazy_head_events

are-exact : AreContainers
unfolding begins_raw begins_basic after_value after_assignment after_attribute ends_opening begins_complete kind_after
    html_kind html_ends is_raw_name is_basic_name is_raw_end enclosed enclosed_lines label_at balanced destination_at
    title_at definition_at cut_at_most cut_definitions pieces row_cells delimiter_columns is_head shut_paragraph
    front_of alert_at quote_taken item_continues footnote_continues opens_quote opens_item opens_footnote break_at
    heading_at code_at code_continued fence_at fence_continued html_at html_continued starts table_continued
    underline_depth
    underlined table_at fresh_line text_line all_continued stopped
are-exact = record {
  lazy = refl;
  prefix = refl;
  ordered = refl;
  items = refl;
  nested = refl;
  left_fence = refl;
  shared_tab = refl;
  tabs = refl;
  definition = refl;
  footnote = refl;
  cut_chunk = refl;
  after_definition = refl;
  lazy_head = refl;
}
