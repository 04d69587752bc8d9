-- Worked texts: the definitions compute.
use Rattle.std.proofs.Common.{◌≡◌, ℕ, true, false, List, [], ◌∷◌, ◌++◌, Some, None, refl, codes}
use Rattle.md_engine.specs.declared.configuration.ParseOptions.{ParseOptions}
use Rattle.md_engine.specs.declared.configuration.TheConstants.ParseOptions as given
use Rattle.md_meaning.specs.declared.alert.AlertKind.{AlertKind}
use Rattle.md_meaning.specs.declared.alert.AlertKind.TheVariants as kind
use Rattle.md_meaning.specs.Alert.{alert_at}
use Rattle.md_meaning.specs.declared.outline.Word.TheVariants.{Break}
use Rattle.md_meaning.specs.Tree.{Line, Block, Frontmatter, Quote, ListOf, Item, Footnote, Heading, Bare, Code}
use Rattle.md_meaning.specs.Tree.{Html, Fence, Math, Definition, Paragraph, Table, Blocks, End, More}
use Rattle.md_meaning.specs.Html.{is_raw_name, is_basic_name, begins_raw, begins_basic, after_value}
use Rattle.md_meaning.specs.Html.{after_assignment, after_attribute, ends_opening, begins_complete, kind_after}
use Rattle.md_meaning.specs.Html.{html_kind, is_raw_end, html_ends}
use Rattle.md_meaning.specs.Enclosed.{enclosed, enclosed_lines}
use Rattle.md_meaning.specs.Definition.{label_at, balanced, destination_at, title_at, definition_at, cut_at_most}
use Rattle.md_meaning.specs.Definition.{cut_definitions}
use Rattle.md_meaning.specs.Table.{pieces, row_cells, delimiter_columns, is_head}
use Rattle.md_meaning.specs.State.{shut_paragraph}
use Rattle.md_meaning.specs.Preamble.{front_of}
use Rattle.md_meaning.specs.Containers.{quote_taken, item_continues, footnote_continues, opens_quote, opens_item}
use Rattle.md_meaning.specs.Containers.{opens_footnote}
use Rattle.md_meaning.specs.Leaves.{break_at, heading_at, code_at, code_continued, fence_at, fence_continued, html_at}
use Rattle.md_meaning.specs.Leaves.{html_continued, starts, table_continued, underline_depth, underlined, table_at}
use Rattle.md_meaning.specs.Step.{fresh_line, text_line, all_continued, stopped}
use Rattle.md_meaning.specs.Meaning.{tree}

-- CommonMark
abbrev plain : ParseOptions
plain = given.COMMONMARK

-- with every extension
abbrev extended : ParseOptions
extended = record {
  constructs = record plain.constructs {
    frontmatter = true;
    gfm_footnote_definition = true;
    gfm_table = true;
    math_flow = true;
  };
}

-- lines, each with a line feed but the last
abbrev text_of : List (List ℕ) → List ℕ
text_of [] = []
text_of (l ∷ []) = l
text_of (l ∷ m ∷ ls) = l ++ 10 ∷ text_of (m ∷ ls)

abbrev blocks : List Block → Blocks
blocks [] = End
blocks (b ∷ bs) = More b (blocks bs)

abbrev paragraph : List ℕ → Block
paragraph line = Paragraph (line ∷ [])

abbrev paragraph_2 : List ℕ → List ℕ → Block
paragraph_2 line next = Paragraph (line ∷ next ∷ [])

abbrev line : List ℕ → Line
line text = record { spaces = 0; text = text }

abbrev quote : List Block → Block
quote bs = Quote None (blocks bs)

-- with alerts too
abbrev alerting : ParseOptions
alerting = record { constructs = record extended.constructs { alerts = true } }

abbrev alert : AlertKind → List Block → Block
alert kind bs = Quote (Some kind) (blocks bs)

abbrev bullet : List Block → Block
bullet bs = Item 45 [] (blocks bs)

abbrev bullets : List Block → Block
bullets items = ListOf 45 (blocks items)

abbrev a : List ℕ
a = codes "a"

abbrev b : List ℕ
b = codes "b"

abbrev c : List ℕ
c = codes "c"

abbrev tab : List ℕ
tab = 9 ∷ []

record Rows : Type 0 where
  -- quotes and lazy lines
  lazy : tree plain (text_of (codes "> a" ∷ b ∷ [])) ≡ blocks (quote (paragraph_2 a b ∷ []) ∷ [])
  lazy_in_two : tree plain (text_of (codes "> > a" ∷ codes "> b" ∷ [])) ≡
      blocks (quote (quote (paragraph_2 a b ∷ []) ∷ []) ∷ [])
  not_lazy : tree plain (text_of (codes "> # a" ∷ b ∷ [])) ≡ blocks (quote (Heading 1 (a ∷ []) ∷ []) ∷ paragraph b ∷ [])
  lazy_break : tree plain (text_of (codes "> a" ∷ codes "***" ∷ [])) ≡
      blocks (quote (paragraph a ∷ []) ∷ Bare Break ∷ [])
  blank_in_quote : tree plain (text_of (codes ">a" ∷ codes ">" ∷ codes ">b" ∷ [])) ≡
      blocks (quote (paragraph a ∷ paragraph b ∷ []) ∷ [])
  -- alerts
  alert_note : tree alerting (text_of (codes "> [!note]  " ∷ codes "> a" ∷ [])) ≡
      blocks (alert kind.Note (paragraph a ∷ []) ∷ [])
  alert_not_lazy : tree alerting (text_of (codes "> [!NOTE]" ∷ b ∷ [])) ≡ blocks (alert kind.Note [] ∷ paragraph b ∷ [])
  alert_no_text_after : tree alerting (codes "> [!NOTE] a") ≡ blocks (quote (paragraph (codes "[!NOTE] a") ∷ []) ∷ [])
  alert_first_line_alone : tree alerting (text_of (codes "> a" ∷ codes "> [!TIP]" ∷ [])) ≡
      blocks (quote (paragraph_2 a (codes "[!TIP]") ∷ []) ∷ [])
  alert_one_marker : tree alerting (text_of (codes "> [!NOTE]" ∷ codes "> [!TIP]" ∷ [])) ≡
      blocks (alert kind.Note (paragraph (codes "[!TIP]") ∷ []) ∷ [])
  alert_small_indent : tree alerting (codes ">    [!NOTE]") ≡ blocks (alert kind.Note [] ∷ [])
  alert_large_indent : tree alerting (codes ">     [!NOTE]") ≡
      blocks (quote (Code (line (codes "[!NOTE]") ∷ []) ∷ []) ∷ [])
  alert_in_item : tree alerting (text_of (codes "- > [!tip]" ∷ codes "  > b" ∷ [])) ≡
      blocks (bullets (bullet (alert kind.Tip (paragraph b ∷ []) ∷ []) ∷ []) ∷ [])
  alert_then_underline : tree alerting (text_of (codes "> [!CAUTION]" ∷ codes "=" ∷ [])) ≡
      blocks (alert kind.Caution [] ∷ paragraph (codes "=") ∷ [])
  alert_off : tree extended (text_of (codes "> [!NOTE]" ∷ codes "> a" ∷ [])) ≡
      blocks (quote (paragraph_2 (codes "[!NOTE]") a ∷ []) ∷ [])
  -- lists
  other_marker : tree plain (text_of (codes "- a" ∷ codes "+ b" ∷ [])) ≡
      blocks
      (bullets (bullet (paragraph a ∷ []) ∷ []) ∷ ListOf 43 (blocks (Item 43 [] (blocks (paragraph b ∷ [])) ∷ [])) ∷ [])
  one_list : tree plain (text_of (codes "- a" ∷ codes "- b" ∷ [] ∷ codes "- c" ∷ [])) ≡
      blocks (bullets (bullet (paragraph a ∷ []) ∷ bullet (paragraph b ∷ []) ∷ bullet (paragraph c ∷ []) ∷ []) ∷ [])
  nested_items : tree plain (text_of (codes "- a" ∷ codes "  - b" ∷ c ∷ [])) ≡
      blocks (bullets (bullet (paragraph a ∷ bullets (bullet (paragraph_2 b c ∷ []) ∷ []) ∷ []) ∷ []) ∷ [])
  blank_item : tree plain (text_of (codes "-" ∷ [] ∷ codes "  a" ∷ [])) ≡
      blocks (bullets (bullet [] ∷ []) ∷ paragraph a ∷ [])
  number_two : tree plain (text_of (a ∷ codes "2. b" ∷ [])) ≡ blocks (paragraph_2 a (codes "2. b") ∷ [])
  number_after_quote : tree plain (text_of (codes "> a" ∷ codes "2. b" ∷ [])) ≡
      blocks (quote (paragraph a ∷ []) ∷ ListOf 46 (blocks (Item 46 (50 ∷ []) (blocks (paragraph b ∷ [])) ∷ [])) ∷ [])
  break_no_item : tree plain (codes "* * *") ≡ blocks (Bare Break ∷ [])
  -- tabs
  cut_tab : tree plain (codes ">" ++ tab ++ tab ++ a) ≡
      blocks (quote (Code (record { spaces = 2; text = a } ∷ []) ∷ []) ∷ [])
  tab_in_item : tree plain (text_of ((codes "-" ++ tab ++ a) ∷ [] ∷ codes "  b" ∷ [])) ≡
      blocks (bullets (bullet (paragraph a ∷ []) ∷ []) ∷ paragraph b ∷ [])
  mark_before_tab : tree plain (239 ∷ 187 ∷ 191 ∷ tab ++ a) ≡ blocks (paragraph a ∷ [])
  -- headings
  underline : tree plain (text_of (a ∷ codes "=" ∷ codes "---" ∷ [])) ≡ blocks (Heading 1 (a ∷ []) ∷ Bare Break ∷ [])
  hashes : tree plain (text_of (codes "# # #" ∷ codes "## a#" ∷ codes "### ###" ∷ [])) ≡
      blocks (Heading 1 (codes "#" ∷ []) ∷ Heading 2 (codes "a#" ∷ []) ∷ Heading 3 [] ∷ [])
  -- code
  code : tree plain (text_of (codes "    a" ∷ codes "      " ∷ codes "    b" ∷ codes "    " ∷ [])) ≡
      blocks (Code (line a ∷ line (codes "  ") ∷ line b ∷ []) ∷ [])
  code_in_quote : tree plain (text_of (a ∷ codes ">     b" ∷ codes ">     c" ∷ [])) ≡
      blocks (paragraph a ∷ quote (Code (line b ∷ line c ∷ []) ∷ []) ∷ [])
  -- fences and math
  fence : tree plain (text_of (codes "~~~ a  b ~ " ∷ codes "> c" ∷ codes "~~~~" ∷ [])) ≡
      blocks (Fence 126 (Some a) (Some (codes "b ~ ")) (line (codes "> c") ∷ []) true ∷ [])
  fence_cut_off : tree plain (text_of (codes "> ```" ∷ codes "> a" ∷ b ∷ [])) ≡
      blocks (quote (Fence 96 None None (line a ∷ []) false ∷ []) ∷ paragraph b ∷ [])
  fence_indent : tree plain (text_of (codes "  ```" ∷ codes "   a" ∷ codes " ```" ∷ [])) ≡
      blocks (Fence 96 None None (line (codes " a") ∷ []) true ∷ [])
  math : tree extended (text_of (codes "$$a b" ∷ codes "$" ∷ codes "$$$" ∷ [])) ≡
      blocks (Math (Some (codes "a b")) (line (codes "$") ∷ []) true ∷ [])
  -- frontmatter and footnotes
  frontmatter : tree extended (text_of (codes "---" ∷ codes "+++" ∷ codes "---" ∷ a ∷ [])) ≡
      blocks (Frontmatter 45 (codes "+++" ∷ []) ∷ paragraph a ∷ [])
  no_frontmatter : tree extended (text_of (codes "---" ∷ a ∷ [])) ≡ blocks (Bare Break ∷ paragraph a ∷ [])
  footnote : tree extended (text_of (codes "[^a]: b" ∷ [] ∷ codes "    c" ∷ [])) ≡
      blocks (Footnote a (blocks (paragraph b ∷ paragraph c ∷ [])) ∷ [])
  -- HTML
  html : tree plain (text_of (codes "<!--x" ∷ [] ∷ codes "> a --> b" ∷ c ∷ [])) ≡
      blocks (Html (line (codes "<!--x") ∷ line [] ∷ line (codes "> a --> b") ∷ []) ∷ paragraph c ∷ [])
  tag_no_interrupt : tree plain (text_of (a ∷ codes "<x>" ∷ [])) ≡ blocks (paragraph_2 a (codes "<x>") ∷ [])
  tag_lazy : tree plain (text_of (codes "> a" ∷ codes "<x>" ∷ [])) ≡
      blocks (quote (paragraph a ∷ []) ∷ Html (line (codes "<x>") ∷ []) ∷ [])
  -- definitions
  definition : tree plain (text_of (codes "> [a" ∷ codes "> b]: c" ∷ [])) ≡
      blocks (quote (Definition (a ∷ b ∷ []) c None ∷ []) ∷ [])
  underline_as_line : tree plain (text_of (codes "[a]: b" ∷ codes "=" ∷ c ∷ codes "=" ∷ [])) ≡
      blocks (Definition (a ∷ []) b None ∷ Heading 1 (codes "=" ∷ c ∷ []) ∷ [])
  -- tables
  table_after_text : tree extended (text_of (a ∷ codes "b | c" ∷ codes "-|-" ∷ codes "| a" ∷ [])) ≡
      blocks (paragraph a ∷ Table (codes "-|-") ((b ∷ c ∷ []) ∷ (a ∷ []) ∷ []) ∷ [])
  head_before_definition : tree extended (text_of (codes "[a]:b" ∷ codes ":-" ∷ [])) ≡
      blocks (Table (codes ":-") ((codes "[a]:b" ∷ []) ∷ []) ∷ [])
  lazy_head : tree extended (text_of (codes "> a" ∷ codes "b | c" ∷ codes "> --|--" ∷ [])) ≡
      blocks (quote (paragraph a ∷ Table (codes "--|--") ((b ∷ c ∷ []) ∷ []) ∷ []) ∷ [])
  -- endings
  endings : tree plain (codes "a" ++ 13 ∷ 10 ∷ 13 ∷ b) ≡ blocks (paragraph a ∷ paragraph b ∷ [])

rows : Rows
unfolding is_raw_name is_basic_name begins_raw begins_basic after_value after_assignment after_attribute ends_opening
    begins_complete kind_after html_kind is_raw_end html_ends enclosed enclosed_lines label_at balanced destination_at
    title_at definition_at cut_at_most cut_definitions pieces row_cells is_head delimiter_columns shut_paragraph
    front_of alert_at quote_taken item_continues footnote_continues opens_quote opens_item opens_footnote break_at
    heading_at code_at code_continued fence_at fence_continued html_at html_continued starts table_continued
    underline_depth
    underlined table_at fresh_line text_line all_continued stopped
rows = record {
  lazy = refl;
  lazy_in_two = refl;
  not_lazy = refl;
  lazy_break = refl;
  blank_in_quote = refl;
  alert_note = refl;
  alert_not_lazy = refl;
  alert_no_text_after = refl;
  alert_first_line_alone = refl;
  alert_one_marker = refl;
  alert_small_indent = refl;
  alert_large_indent = refl;
  alert_in_item = refl;
  alert_then_underline = refl;
  alert_off = refl;
  other_marker = refl;
  one_list = refl;
  nested_items = refl;
  blank_item = refl;
  number_two = refl;
  number_after_quote = refl;
  break_no_item = refl;
  cut_tab = refl;
  tab_in_item = refl;
  mark_before_tab = refl;
  underline = refl;
  hashes = refl;
  code = refl;
  code_in_quote = refl;
  fence = refl;
  fence_cut_off = refl;
  fence_indent = refl;
  math = refl;
  frontmatter = refl;
  no_frontmatter = refl;
  footnote = refl;
  html = refl;
  tag_no_interrupt = refl;
  tag_lazy = refl;
  definition = refl;
  underline_as_line = refl;
  table_after_text = refl;
  head_before_definition = refl;
  lazy_head = refl;
  endings = refl;
}
