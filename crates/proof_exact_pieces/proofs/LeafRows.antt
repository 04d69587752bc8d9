-- Small texts of leaf blocks, each with its exact list.
use Rattle.std.proofs.Common.{◌≡◌, refl}
use Rattle.md_engine.specs.declared.configuration.TheConstants.ParseOptions as given
use Rattle.md_meaning.specs.Html.{begins_raw, begins_basic, after_value, after_assignment, after_attribute}
use Rattle.md_meaning.specs.Html.{ends_opening, begins_complete, kind_after, html_kind, html_ends, is_raw_name}
use Rattle.md_meaning.specs.Html.{is_basic_name, is_raw_end}
use Rattle.md_meaning.specs.Enclosed.{enclosed, enclosed_lines}
use Rattle.md_meaning.specs.Definition.{label_at, balanced, destination_at, title_at, definition_at, cut_at_most}
use Rattle.md_meaning.specs.Definition.{cut_definitions}
use Rattle.md_meaning.specs.Table.{pieces, row_cells, delimiter_columns, is_head}
use Rattle.md_meaning.specs.State.{shut_paragraph}
use Rattle.md_meaning.specs.Preamble.{front_of}
use Rattle.md_meaning.specs.Alert.{alert_at}
use Rattle.md_meaning.specs.Containers.{quote_taken, item_continues, footnote_continues, opens_quote, opens_item}
use Rattle.md_meaning.specs.Containers.{opens_footnote}
use Rattle.md_meaning.specs.Leaves.{break_at, heading_at, code_at, code_continued, fence_at, fence_continued, html_at}
use Rattle.md_meaning.specs.Leaves.{html_continued, starts, table_continued, underline_depth, underlined, table_at}
use Rattle.md_meaning.specs.Step.{fresh_line, text_line, all_continued, stopped}
use Rattle.md_events.specs.Exact.Blocks.{exact}
use Rattle.md_events.proofs.EventRows.{empty_text, empty_events, blank_text, blank_events, mark_text, mark_events}
use Rattle.md_events.proofs.EventRows.{paragraph_text, paragraph_events, break_text, break_events, heading_text}
use Rattle.md_events.proofs.EventRows.{heading_events, empty_heading_text, empty_heading_events, underlined_text}
use Rattle.md_events.proofs.EventRows.{underlined_events, fence_text, fence_events, open_fence_text, open_fence_events}
use Rattle.md_events.proofs.EventRows.{code_text, code_events, html_text, html_events, math_text, math_events}
use Rattle.md_events.proofs.EventRows.{frontmatter_text, frontmatter_events, empty_parts_text, empty_parts_events}
use Rattle.md_events.proofs.EventRows.{empty_lines_text, empty_lines_events, table_text, table_events}

record AreLeaves : Type 0 where
  empty : exact given.ALL empty_text ≡ empty_events
  blank : exact given.ALL blank_text ≡ blank_events
  mark : exact given.ALL mark_text ≡ mark_events
  paragraph : exact given.ALL paragraph_text ≡ paragraph_events
  break : exact given.ALL break_text ≡ break_events
  heading : exact given.ALL heading_text ≡ heading_events
  empty_heading : exact given.ALL empty_heading_text ≡ empty_heading_events
  underlined : exact given.ALL underlined_text ≡ underlined_events
  fence : exact given.ALL fence_text ≡ fence_events
  open_fence : exact given.ALL open_fence_text ≡ open_fence_events
  code : exact given.ALL code_text ≡ code_events
  html : exact given.ALL html_text ≡ html_events
  math : exact given.ALL math_text ≡ math_events
  frontmatter : exact given.ALL frontmatter_text ≡ frontmatter_events
  empty_parts : exact given.ALL empty_parts_text ≡ empty_parts_events
  empty_lines : exact given.ALL empty_lines_text ≡ empty_lines_events
  table : exact given.ALL table_text ≡ table_events

are-exact : AreLeaves
unfolding begins_raw begins_basic after_value after_assignment after_attribute ends_opening begins_complete kind_after
    html_kind html_ends is_raw_name is_basic_name is_raw_end enclosed enclosed_lines label_at balanced destination_at
    title_at definition_at cut_at_most cut_definitions pieces row_cells delimiter_columns is_head shut_paragraph
    front_of alert_at quote_taken item_continues footnote_continues opens_quote opens_item opens_footnote break_at
    heading_at code_at code_continued fence_at fence_continued html_at html_continued starts table_continued
    underline_depth
    underlined table_at fresh_line text_line all_continued stopped
are-exact = record {
  empty = refl;
  blank = refl;
  mark = refl;
  paragraph = refl;
  break = refl;
  heading = refl;
  empty_heading = refl;
  underlined = refl;
  fence = refl;
  open_fence = refl;
  code = refl;
  html = refl;
  math = refl;
  frontmatter = refl;
  empty_parts = refl;
  empty_lines = refl;
  table = refl;
}
