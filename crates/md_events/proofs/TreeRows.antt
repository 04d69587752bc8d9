-- The trees of these texts by the line definition.
use Rattle.std.proofs.Common.{◌≡◌, true, refl}
use Rattle.md_engine.specs.declared.configuration.ParseOptions.{ParseOptions}
use Rattle.md_engine.specs.declared.configuration.TheConstants.ParseOptions as given
use Rattle.md_meaning.specs.Alert.{alert_at}
use Rattle.md_meaning.specs.Html.{begins_raw, begins_basic, after_value, after_assignment, after_attribute}
use Rattle.md_meaning.specs.Html.{ends_opening, begins_complete, kind_after, html_kind, html_ends, is_raw_name}
use Rattle.md_meaning.specs.Html.{is_basic_name}
use Rattle.md_meaning.specs.Enclosed.{enclosed, enclosed_lines}
use Rattle.md_meaning.specs.Definition.{label_at, balanced, destination_at, title_at, definition_at, cut_at_most}
use Rattle.md_meaning.specs.Definition.{cut_definitions}
use Rattle.md_meaning.specs.Table.{pieces, row_cells, delimiter_columns, is_head}
use Rattle.md_meaning.specs.State.{shut_paragraph}
use Rattle.md_meaning.specs.Preamble.{front_of}
use Rattle.md_meaning.specs.Containers.{quote_taken, item_continues, footnote_continues, opens_quote, opens_item}
use Rattle.md_meaning.specs.Containers.{opens_footnote}
use Rattle.md_meaning.specs.Leaves.{break_at, heading_at, code_at, code_continued, fence_at, fence_continued, html_at}
use Rattle.md_meaning.specs.Leaves.{html_continued, starts, table_continued, underline_depth, underlined, table_at}
use Rattle.md_meaning.specs.Step.{fresh_line, text_line, all_continued, stopped}
use Rattle.md_meaning.specs.Meaning.{tree}
use Rattle.md_events.proofs.EventRows.{empty_text, empty_tree, blank_text, blank_tree, mark_text, mark_tree}
use Rattle.md_events.proofs.EventRows.{paragraph_text, paragraph_tree, break_text, break_tree, heading_text}
use Rattle.md_events.proofs.EventRows.{heading_tree, empty_heading_text, empty_heading_tree, underlined_text}
use Rattle.md_events.proofs.EventRows.{underlined_tree, fence_text, fence_tree, open_fence_text, open_fence_tree}
use Rattle.md_events.proofs.EventRows.{code_text, code_tree, html_text, html_tree, math_text, math_tree}
use Rattle.md_events.proofs.EventRows.{frontmatter_text, frontmatter_tree, empty_parts_text, empty_parts_tree}
use Rattle.md_events.proofs.EventRows.{empty_lines_text, empty_lines_tree, table_text, table_tree}
use Rattle.md_events.proofs.ContainerRows.{lazy_text, lazy_tree, prefix_text, prefix_tree, ordered_text, ordered_tree}
use Rattle.md_events.proofs.ContainerRows.{nested_text, nested_tree, left_fence_text, left_fence_tree, shared_tab_text}
use Rattle.md_events.proofs.ContainerRows.{shared_tab_tree, tabs_text, tabs_tree, definition_text, definition_tree}
use Rattle.md_events.proofs.ContainerRows.{footnote_text, footnote_tree, cut_chunk_text, cut_chunk_tree}
use Rattle.md_events.proofs.ContainerRows.{after_definition_text, after_definition_tree, lazy_head_text, lazy_head_tree}
use Rattle.md_events.proofs.ContainerRows.{blank_code_text, blank_code_tree, cut_html_text, cut_html_tree}

-- with every extension
abbrev extended : ParseOptions
extended = record {
  constructs = record given.COMMONMARK.constructs {
    frontmatter = true;
    gfm_footnote_definition = true;
    gfm_table = true;
    math_flow = true;
  };
}

record Meant : Type 0 where
  empty_means : tree extended empty_text ≡ empty_tree
  blank_means : tree extended blank_text ≡ blank_tree
  mark_means : tree extended mark_text ≡ mark_tree
  paragraph_means : tree extended paragraph_text ≡ paragraph_tree
  break_means : tree extended break_text ≡ break_tree
  heading_means : tree extended heading_text ≡ heading_tree
  empty_heading_means : tree extended empty_heading_text ≡ empty_heading_tree
  underlined_means : tree extended underlined_text ≡ underlined_tree
  lazy_means : tree extended lazy_text ≡ lazy_tree
  prefix_means : tree extended prefix_text ≡ prefix_tree
  ordered_means : tree extended ordered_text ≡ ordered_tree
  nested_means : tree extended nested_text ≡ nested_tree
  fence_means : tree extended fence_text ≡ fence_tree
  open_fence_means : tree extended open_fence_text ≡ open_fence_tree
  left_fence_means : tree extended left_fence_text ≡ left_fence_tree
  shared_tab_means : tree extended shared_tab_text ≡ shared_tab_tree
  code_means : tree extended code_text ≡ code_tree
  tabs_means : tree extended tabs_text ≡ tabs_tree
  html_means : tree extended html_text ≡ html_tree
  math_means : tree extended math_text ≡ math_tree
  frontmatter_means : tree extended frontmatter_text ≡ frontmatter_tree
  definition_means : tree extended definition_text ≡ definition_tree
  empty_parts_means : tree extended empty_parts_text ≡ empty_parts_tree
  empty_lines_means : tree extended empty_lines_text ≡ empty_lines_tree
  table_means : tree extended table_text ≡ table_tree
  footnote_means : tree extended footnote_text ≡ footnote_tree
  cut_chunk_means : tree extended cut_chunk_text ≡ cut_chunk_tree
  after_definition_means : tree extended after_definition_text ≡ after_definition_tree
  lazy_head_means : tree extended lazy_head_text ≡ lazy_head_tree
  blank_code_means : tree extended blank_code_text ≡ blank_code_tree
  cut_html_means : tree extended cut_html_text ≡ cut_html_tree

meant : Meant
unfolding alert_at begins_raw begins_basic after_value after_assignment after_attribute ends_opening begins_complete
    kind_after html_kind html_ends enclosed enclosed_lines label_at balanced destination_at title_at definition_at
    cut_at_most cut_definitions pieces row_cells is_head delimiter_columns shut_paragraph front_of quote_taken
    item_continues footnote_continues opens_quote opens_item opens_footnote break_at heading_at code_at code_continued
    fence_at fence_continued html_at html_continued starts table_continued underline_depth underlined
    table_at fresh_line
    text_line all_continued stopped is_raw_name is_basic_name
meant = record {
  empty_means = refl;
  blank_means = refl;
  mark_means = refl;
  paragraph_means = refl;
  break_means = refl;
  heading_means = refl;
  empty_heading_means = refl;
  underlined_means = refl;
  lazy_means = refl;
  prefix_means = refl;
  ordered_means = refl;
  nested_means = refl;
  fence_means = refl;
  open_fence_means = refl;
  left_fence_means = refl;
  shared_tab_means = refl;
  code_means = refl;
  tabs_means = refl;
  html_means = refl;
  math_means = refl;
  frontmatter_means = refl;
  definition_means = refl;
  empty_parts_means = refl;
  empty_lines_means = refl;
  table_means = refl;
  footnote_means = refl;
  cut_chunk_means = refl;
  after_definition_means = refl;
  lazy_head_means = refl;
  blank_code_means = refl;
  cut_html_means = refl;
}
