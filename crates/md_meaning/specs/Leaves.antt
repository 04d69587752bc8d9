-- Leaf blocks: where they start, and how they continue.
use Rattle.std.specs.Prelude.{ℕ, ◌-◌, Bool, true, false, ◌&&◌, ◌||◌, ◌==◌, not, nat_le, if◌then◌else◌, List, [], ◌∷◌}
use Rattle.std.specs.Prelude.{◌++◌, length, take, drop, reverse, count_by, Option, Some, None}
use Rattle.std.specs.List.{list_all, list_any, suffix_len, take_while}
use Rattle.std.specs.Option.{option_or, is_some}
use Rattle.md_engine.specs.declared.configuration.ParseOptions.{ParseOptions}
use Rattle.md_meaning.specs.declared.outline.Word.{Word}
use Rattle.md_meaning.specs.declared.outline.Word.TheVariants.{Break}
use Rattle.md_meaning.specs.Tree.{Line, Block, Bare, Heading, Html, Blocks}
use Rattle.md_meaning.specs.Rest.{Rest, is_white, is_blank, is_parted, run_len, trim_start, trim_end, trim, indent}
use Rattle.md_meaning.specs.Rest.{has_small_indent, is_small, lose, line_of}
use Rattle.md_meaning.specs.Html.{HtmlKind, Basic, Complete, html_kind, html_ends}
use Rattle.md_meaning.specs.Table.{delimiter_columns, row_cells, is_head}
use Rattle.md_meaning.specs.State.{ParagraphLine, Opening, Leaf, NoLeaf, OpenParagraph, OpenCode, OpenFence, OpenHtml}
use Rattle.md_meaning.specs.State.{OpenTable, Innermost, then_block, then_definitions, shut_paragraph, kept, texts, cut}
use Rattle.md_meaning.specs.State.{fence_block}
use Rattle.md_meaning.specs.Ascii.{asterisk, backtick, dollar, equals_sign, hash, hyphen, tilde, underscore}

-- what a leaf has become with a line: it is open, or finished
pub data LeafResult : Type 0 where
  Opened : Leaf → LeafResult
  Finished : Block → LeafResult

-- what a line that may start a leaf is against: no open paragraph, one of its own containers, or one that it is lazy
-- for
pub data ParagraphContext : Type 0 where
  NoText : ParagraphContext
  Text : ParagraphContext
  LazyText : ParagraphContext

abbrev pub is_text : ParagraphContext → Bool
is_text NoText = false
is_text Text = true
is_text LazyText = false

abbrev pub is_free : ParagraphContext → Bool
is_free NoText = true
is_free Text = false
is_free LazyText = false

-- Thematic break (CommonMark 4.1).

abbrev pub is_rule_marker : ℕ → Bool
is_rule_marker b = (b == asterisk) || (b == hyphen) || (b == underscore)

-- three or more of one of `*`, `-` and `_`, with spaces and tabs between and after
abbrev pub is_rule : List ℕ → Bool
is_rule [] = false
is_rule (m ∷ bytes) =
    is_rule_marker m && list_all (λ b. (b == m) || is_white b) bytes && nat_le 2 (count_by (λ b. b == m) bytes)

-- whether the construct of a leaf block is on of which nothing is known but its word
abbrev pub is_bare_on : ParseOptions → Word → Bool
is_bare_on options Break = options.constructs.thematic_break
is_bare_on options word = false

unfoldable pub break_at : ParseOptions → Rest → Option LeafResult
break_at options r =
    if options.constructs.thematic_break && has_small_indent options r && is_rule (trim_start r.bytes)
    then Some (Finished (Bare Break))
    else None

-- ATX heading (CommonMark 4.2).

-- without the `#` at the end
abbrev pub without_closing : List ℕ → List ℕ
without_closing text = take (length text - suffix_len (λ b. b == hash) text) text

-- what follows the opening run, without a closing run that is all of it or is after whitespace
abbrev pub heading_text : List ℕ → List ℕ
heading_text after =
    let text = trim after in
    let front = without_closing text in
    if is_parted (reverse front) then trim_end front else text

-- an empty text gives no line
abbrev pub heading_lines : List ℕ → List (List ℕ)
heading_lines [] = []
heading_lines (b ∷ text) = (b ∷ text) ∷ []

-- a small indent, 1 to 6 `#`, and then whitespace or the end of the line
unfoldable pub heading_at : ParseOptions → Rest → Option LeafResult
heading_at options r =
    let text = trim_start r.bytes in
    let depth = run_len hash text in
    if options.constructs.heading_atx && has_small_indent options r && nat_le 1 depth && nat_le depth 6
    && is_parted (drop depth text)
    then Some (Finished (Heading depth (heading_lines (heading_text (drop depth text)))))
    else None

-- Indented code (CommonMark 4.4).

abbrev pub code_line : Rest → Line
code_line r = line_of (lose 4 r)

-- an indent of 4 columns, and no open paragraph
unfoldable pub code_at : ParseOptions → ParagraphContext → Rest → Option LeafResult
code_at options against r =
    if options.constructs.code_indented && is_free against && nat_le 4 (indent r)
    then Some (Opened (OpenCode (code_line r ∷ [])))
    else None

-- a line that is neither blank nor indented by 4 columns ends it
unfoldable pub code_continued : List Line → Rest → Option LeafResult
code_continued lines r =
    if is_blank r.bytes || nat_le 4 (indent r) then Some (Opened (OpenCode (lines ++ code_line r ∷ []))) else None

-- Fenced code (CommonMark 4.5) and math (own choice, as on GitHub).

-- backticks and tildes fence code, dollars fence math
abbrev pub is_fence_marker : ParseOptions → ℕ → Bool
is_fence_marker options m =
    if m == dollar then options.constructs.math_flow
    else options.constructs.code_fenced && ((m == backtick) || (m == tilde))

abbrev pub least_size : ℕ → ℕ
least_size m = if m == dollar then 2 else 3

-- the rest of an opening fence holds none of its markers, unless these are tildes
abbrev pub allows : ℕ → List ℕ → Bool
allows m after = (m == tilde) || not (list_any (λ b. b == m) after)

abbrev pub nonempty : List ℕ → Option (List ℕ)
nonempty [] = None
nonempty (b ∷ bytes) = Some (b ∷ bytes)

abbrev pub first_word : List ℕ → List ℕ
first_word text = take_while (λ b. not (is_white b)) text

abbrev pub after_word : List ℕ → List ℕ
after_word text = trim_start (drop (length (first_word text)) text)

-- an opening fence; math has no info, and its meta is the whole rest
abbrev pub opening : ℕ → ℕ → ℕ → List ℕ → Opening
opening m size columns text = record {
  marker = m;
  size = size;
  indent = columns;
  info = if m == dollar then None else nonempty (first_word text);
  meta = nonempty (if m == dollar then text else after_word text);
}

abbrev pub fence_from : ParseOptions → ℕ → List ℕ → Option LeafResult
fence_from options columns [] = None
fence_from options columns (m ∷ bytes) =
    let size = run_len m (m ∷ bytes) in
    let after = drop size (m ∷ bytes) in
    if is_fence_marker options m && nat_le (least_size m) size && allows m after
    then Some (Opened (OpenFence (opening m size columns (trim_start after)) []))
    else None

-- a small indent, a run of markers, and what may follow it
unfoldable pub fence_at : ParseOptions → Rest → Option LeafResult
fence_at options r = if has_small_indent options r then fence_from options (indent r) (trim_start r.bytes) else None

-- a small indent, at least as many of the same marker, and nothing else
abbrev pub closes : ParseOptions → Opening → Rest → Bool
closes options o r =
    let text = trim_start r.bytes in
    let size = run_len o.marker text in
    has_small_indent options r && nat_le o.size size && is_blank (drop size text)

-- other lines lose at most the indent of the opening fence
unfoldable pub fence_continued : ParseOptions → Opening → List Line → Rest → LeafResult
fence_continued options o lines r =
    if closes options o r then Finished (fence_block o lines true)
    else Opened (OpenFence o (lines ++ line_of (lose o.indent r) ∷ []))

-- HTML (CommonMark 4.6).

-- whether the next blank line ends it
abbrev pub ends_at_blank : HtmlKind → Bool
ends_at_blank Basic = true
ends_at_blank Complete = true
ends_at_blank _ = false

-- one complete tag is the only kind that cannot interrupt a paragraph
abbrev pub may_start : ParagraphContext → HtmlKind → Bool
may_start against Complete = not (is_text against)
may_start against _ = true

-- a line of it, which may hold its end
abbrev pub html_line : HtmlKind → List Line → Rest → LeafResult
html_line kind lines r =
    let all = lines ++ line_of r ∷ [] in
    if html_ends kind r.bytes then Finished (Html all) else Opened (OpenHtml kind all)

abbrev pub html_by : ParagraphContext → Rest → Option HtmlKind → Option LeafResult
html_by against r None = None
html_by against r (Some kind) = if may_start against kind then Some (html_line kind [] r) else None

-- a small indent, and then one of the seven beginnings
unfoldable pub html_at : ParseOptions → ParagraphContext → Rest → Option LeafResult
html_at options against r =
    if options.constructs.html_flow && has_small_indent options r
    then html_by against r (html_kind (trim_start r.bytes)) else None

unfoldable pub html_continued : HtmlKind → List Line → Rest → Option LeafResult
html_continued kind lines r = if ends_at_blank kind && is_blank r.bytes then None else Some (html_line kind lines r)

-- The order of the trials.

-- the first leaf, other than a paragraph, that starts at this rest
unfoldable pub starts : ParseOptions → ParagraphContext → Rest → Option LeafResult
starts options against r =
    option_or (code_at options against r)
    (option_or (fence_at options r)
    (option_or (html_at options against r) (option_or (heading_at options r) (break_at options r))))

-- Table (GFM 4.10).

-- a blank line ends it, and so does a line that starts another leaf; any other line is a row
unfoldable pub table_continued : ParseOptions → List ℕ → List (List (List ℕ)) → Rest → Option LeafResult
table_continued options delimiter rows r =
    if is_blank r.bytes || is_some (starts options NoText r) then None
    else Some (Opened (OpenTable delimiter (rows ++ row_cells r.bytes ∷ [])))

-- what an open leaf becomes with this line; none if it ends before it
abbrev pub is_continued : ParseOptions → Leaf → Rest → Option LeafResult
is_continued options NoLeaf r = None
is_continued options (OpenParagraph lines) r = None
is_continued options (OpenCode lines) r = code_continued lines r
is_continued options (OpenFence o lines) r = Some (fence_continued options o lines r)
is_continued options (OpenHtml kind lines) r = html_continued kind lines r
is_continued options (OpenTable delimiter rows) r = table_continued options delimiter rows r

-- A paragraph that a line turns into something else.

abbrev pub is_run : ℕ → List ℕ → Bool
is_run m [] = false
is_run m (b ∷ bytes) = list_all (λ c. c == m) (b ∷ bytes)

-- the depth of the heading that this line underlines: a run of `=` or of `-` with a small indent (CommonMark 4.3)
unfoldable pub underline_depth : ParseOptions → Rest → Option ℕ
underline_depth options r =
    let text = trim r.bytes in
    if options.constructs.heading_setext && has_small_indent options r
    then if is_run equals_sign text then Some 1 else if is_run hyphen text then Some 2 else None
    else None

-- with one line more
abbrev pub with_line : Blocks → List ParagraphLine → Rest → Innermost
with_line bs lines r = record { here = bs; leaf = OpenParagraph (lines ++ kept r ∷ []) }

-- what remains after the definitions at the front becomes a heading; an underline with nothing to underline is an
-- ordinary line
abbrev pub underlined_by : Blocks → List ParagraphLine → Rest → ℕ → Blocks → List (List ℕ) → Innermost
underlined_by bs lines r depth defined [] = with_line bs lines r
underlined_by bs lines r depth defined (line ∷ remaining) = record {
  here = then_block defined (Heading depth (line ∷ remaining));
  leaf = NoLeaf;
}

unfoldable pub underlined : ParseOptions → Blocks → List ParagraphLine → Rest → ℕ → Innermost
underlined options bs lines r depth =
    let c = cut options (texts lines) in underlined_by bs lines r depth (then_definitions bs c.0) c.1

-- a small indent, and as many cells as the delimiter row; a single pipe is no head
abbrev pub is_head_of : ParseOptions → ParagraphLine → ℕ → Bool
is_head_of options k columns = is_small options k.indent && is_head k.text && (length (row_cells k.text) == columns)

-- the last line is the head, whatever it would be to a definition, and the lines before it are closed as a paragraph
abbrev pub table_by : ParseOptions → Blocks → List ParagraphLine → List ℕ → Option ℕ → Option Innermost
table_by options bs [] delimiter columns = None
table_by options bs (k ∷ before) delimiter None = None
table_by options bs (k ∷ before) delimiter (Some columns) =
    if is_head_of options k columns
    then Some
    (record {
      here = shut_paragraph options bs (texts (reverse before));
      leaf = OpenTable delimiter (row_cells k.text ∷ []);
    })
    else None

-- a delimiter row with a small indent
unfoldable pub table_at : ParseOptions → Blocks → List ParagraphLine → Rest → Option Innermost
table_at options bs lines r =
    if options.constructs.gfm_table && has_small_indent options r
    then table_by options bs (reverse lines) (trim r.bytes) (delimiter_columns (trim r.bytes))
    else None
