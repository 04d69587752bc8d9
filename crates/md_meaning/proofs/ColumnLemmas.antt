-- A line without tabs means the same from whichever column on.
use Rattle.std.proofs.Common.{◌≡◌, ℕ, zero, suc, ◌+◌, Bool, true, false, cond, not, ◌==◌, ◌&&◌, ◌||◌, if◌then◌else◌}
use Rattle.std.proofs.Common.{List, [], ◌∷◌, ◌++◌, length, drop, reverse, Option, Some, None, refl, ap, ◌∙◌, subst}
use Rattle.std.specs.Prelude.{nat_le, nat_eq}
use Rattle.std.specs.List.{starts_with}
use Rattle.std.specs.Option.{option_or, is_some}
use Rattle.md_engine.specs.declared.configuration.ParseOptions.{ParseOptions}
use Rattle.md_meaning.specs.declared.alert.AlertKind.{AlertKind}
use Rattle.md_meaning.specs.Alert.{alert_at, first_kind, is_marked, kinds, marker_of}
use Rattle.md_meaning.specs.Containers.{Labelled, Marker, Taken, continues, footnote_by, footnote_continues, taken_as}
use Rattle.md_meaning.specs.Containers.{with_kind, footnote_label, item_by, item_continues, item_padding, list_marker}
use Rattle.md_meaning.specs.Containers.{may_interrupt, opens, opens_footnote, opens_item, opens_quote, quote_taken}
use Rattle.md_meaning.specs.Html.{HtmlKind, html_kind}
use Rattle.md_meaning.specs.Leaves.{ParagraphContext, LeafResult, Finished, LazyText, NoText, Opened, Text, break_at}
use Rattle.md_meaning.specs.Leaves.{code_at, code_continued, code_line, fence_at, fence_from, fence_continued}
use Rattle.md_meaning.specs.Leaves.{is_continued, heading_at, heading_lines, heading_text, html_at, html_by}
use Rattle.md_meaning.specs.Leaves.{html_continued, is_free, is_rule, is_run, starts, table_at, table_by}
use Rattle.md_meaning.specs.Leaves.{table_continued, underline_depth, underlined, underlined_by, with_line}
use Rattle.md_meaning.specs.Lines.{begins_with}
use Rattle.md_meaning.specs.Preamble.{rest_at}
use Rattle.md_meaning.specs.Rest.{Rest, following, after_indent, indent, is_blank, is_parted, is_small, line_of, lose}
use Rattle.md_meaning.specs.Rest.{run_len, trim, trim_start, white_columns}
use Rattle.md_meaning.specs.State.{At, Container, InFootnote, InItem, InQuote, ParagraphLine, Leaf, NoLeaf, OpenCode}
use Rattle.md_meaning.specs.State.{OpenFence, OpenHtml, OpenParagraph, OpenTable, Opening, Path, Innermost, Within}
use Rattle.md_meaning.specs.State.{closed, container_block, cut, fence_block, kept, shut, spot, texts, then_block}
use Rattle.md_meaning.specs.State.{then_definitions, then_leaf}
use Rattle.md_meaning.specs.Step.{all_continued, all_continued_by, fresh_by, fresh_line, is_concrete, is_open_text}
use Rattle.md_meaning.specs.Step.{lazy_by, leaf_line_by, on_or_fresh, opened, row_or_text, spot_of, step, stopped}
use Rattle.md_meaning.specs.Step.{stopped_by, text_by, text_line, underline_or_text, with_lazy}
use Rattle.md_meaning.specs.Table.{delimiter_columns, row_cells}
use Rattle.md_meaning.specs.declared.outline.Word.TheVariants.{Break}
use Rattle.md_meaning.specs.Tree.{Bare, Blocks, End, Heading, Line}

-- no byte is a tab
abbrev pub NoTab : List ℕ → Type 0
NoTab [] = Unit {0}
NoTab (b ∷ bytes) = ((b == 9) ≡ false) × NoTab bytes

pub no_tab-drop : (n : ℕ) (bytes : List ℕ) → NoTab bytes → NoTab (drop n bytes)
no_tab-drop zero bytes h = h
no_tab-drop (suc n) [] h = tt
no_tab-drop (suc n) (b ∷ bytes) h = no_tab-drop n bytes h.1

-- two rests with the same bytes without tabs, at any two columns
data Alike : Rest → Rest → Type 0 where
  alike : (c d : ℕ) (bytes : List ℕ) → NoTab bytes → Alike (rest_at c bytes) (rest_at d bytes)

-- the same container is taken with such rests, or none
data BothTaken : Option Taken → Option Taken → Type 0 where
  neither : BothTaken None None
  taken : (container : Container) (c d : ℕ) (bytes : List ℕ) → NoTab bytes →
      BothTaken (Some (record { container = container; rest = rest_at c bytes }))
      (Some (record { container = container; rest = rest_at d bytes }))

-- Indents, and rests after them.

white_columns-any : (c d : ℕ) (bytes : List ℕ) → NoTab bytes → white_columns c bytes ≡ white_columns d bytes
white_columns-any c d [] h = refl
white_columns-any c d (b ∷ bytes) h =
    rw (h.0) (ap (λ (k : ℕ). cond (b == 32) (1 + k) 0) (white_columns-any (c + 1) (d + 1) bytes h.1))

indent-any : (c d : ℕ) (bytes : List ℕ) → NoTab bytes → indent (rest_at c bytes) ≡ indent (rest_at d bytes)
indent-any c d bytes h = ap (λ (k : ℕ). 0 + k) (white_columns-any (c + 0) (d + 0) bytes h)

lose-alike : (n c d : ℕ) (bytes : List ℕ) → NoTab bytes → Alike (lose n (rest_at c bytes)) (lose n (rest_at d bytes))
lose-alike zero c d bytes h = alike c d bytes h
lose-alike (suc n) c d [] h = lose-alike n c d [] h
lose-alike (suc n) c d (b ∷ bytes) h =
    rw (h.0) (go (b == 32) (lose-alike n (c + 1) (d + 1) bytes h.1) (lose-alike n c d (b ∷ bytes) h))
  where
    go : (t : Bool) → Alike (lose n (rest_at (c + 1) bytes)) (lose n (rest_at (d + 1) bytes)) →
        Alike (lose n (rest_at c (b ∷ bytes))) (lose n (rest_at d (b ∷ bytes))) →
        Alike (lose n (cond t (rest_at (c + 1) bytes) (rest_at c (b ∷ bytes))))
        (lose n (cond t (rest_at (d + 1) bytes) (rest_at d (b ∷ bytes))))
    go true space other = space
    go false space other = other

after_indent-alike : (c d : ℕ) (bytes : List ℕ) → NoTab bytes →
    Alike (after_indent (rest_at c bytes)) (after_indent (rest_at d bytes))
after_indent-alike c d bytes h =
    subst (λ (j : ℕ). Alike (after_indent (rest_at c bytes)) (lose j (rest_at d bytes))) (indent-any c d bytes h)
    (lose-alike (indent (rest_at c bytes)) c d bytes h)

line_of-alike : (r s : Rest) → Alike r s → line_of r ≡ line_of s
line_of-alike r s (alike c d bytes h) = refl

lost-any : (n c d : ℕ) (bytes : List ℕ) → NoTab bytes →
    line_of (lose n (rest_at c bytes)) ≡ line_of (lose n (rest_at d bytes))
lost-any n c d bytes h = line_of-alike (lose n (rest_at c bytes)) (lose n (rest_at d bytes)) (lose-alike n c d bytes h)

-- Containers.

taken-alike : (container : Container) (r s : Rest) → Alike r s →
    BothTaken (Some (record { container = container; rest = r })) (Some (record { container = container; rest = s }))
taken-alike container r s (alike c d bytes h) = taken container c d bytes h

when : (t : Bool) (o p : Option Taken) → BothTaken o p → BothTaken (cond t o None) (cond t p None)
when true o p h = h
when false o p h = neither

unless : (t : Bool) (o p : Option Taken) → BothTaken o p → BothTaken (cond t None o) (cond t None p)
unless true o p h = neither
unless false o p h = h

first-alike : (o p q s : Option Taken) → BothTaken o p → BothTaken q s → BothTaken (option_or o q) (option_or p s)
first-alike o p q s neither k = k
first-alike o p q s (taken container c d bytes h) k = taken container c d bytes h

-- what is taken by the indent and by the rest after it
at_indent : (F : ℕ → Rest → Option Taken) → ((k : ℕ) (r s : Rest) → Alike r s → BothTaken (F k r) (F k s)) →
    (c d : ℕ) (bytes : List ℕ) → NoTab bytes →
    BothTaken (F (indent (rest_at c bytes)) (after_indent (rest_at c bytes)))
    (F (indent (rest_at d bytes)) (after_indent (rest_at d bytes)))
at_indent F f c d bytes h =
    subst
    (λ (j : ℕ).
    BothTaken (F (indent (rest_at c bytes)) (after_indent (rest_at c bytes))) (F j (lose j (rest_at d bytes))))
    (indent-any c d bytes h)
    (f (indent (rest_at c bytes)) (after_indent (rest_at c bytes)) (lose (indent (rest_at c bytes)) (rest_at d bytes))
    (lose-alike (indent (rest_at c bytes)) c d bytes h))

abbrev pub quote_from : ParseOptions → Option AlertKind → ℕ → Rest → Option Taken
quote_from options kind columns marker =
    if is_small options columns && begins_with 62 marker.bytes
    then Some
    (record {
      container = InQuote kind;
      rest = lose 1 (record { column = marker.column + 1; spaces = 0; bytes = drop 1 marker.bytes });
    })
    else None

quote_from-alike : (options : ParseOptions) (kind : Option AlertKind) (k : ℕ) (r s : Rest) → Alike r s →
    BothTaken (quote_from options kind k r) (quote_from options kind k s)
quote_from-alike options kind k r s (alike c d bytes h) =
    when (is_small options k && begins_with 62 bytes) _ _
    (taken-alike (InQuote kind) _ _ (lose-alike 1 (c + 1) (d + 1) (drop 1 bytes) (no_tab-drop 1 bytes h)))

quote_taken-alike : (options : ParseOptions) (kind : Option AlertKind) (c d : ℕ) (bytes : List ℕ) → NoTab bytes →
    BothTaken (quote_taken options kind (rest_at c bytes)) (quote_taken options kind (rest_at d bytes))
unfolding quote_taken
quote_taken-alike options kind c d bytes h =
    at_indent (quote_from options kind) (quote_from-alike options kind) c d bytes h

abbrev alert_from : ParseOptions → ℕ → List ℕ → Option AlertKind
alert_from options columns bytes =
    if options.constructs.alerts && is_small options columns then first_kind (λ kind. is_marked kind bytes) kinds
    else None

bytes-alike : (r s : Rest) → Alike r s → r.bytes ≡ s.bytes
bytes-alike r s (alike c d bytes h) = refl

pub alert-any : (options : ParseOptions) (c d : ℕ) (bytes : List ℕ) → NoTab bytes →
    alert_at options (rest_at c bytes) ≡ alert_at options (rest_at d bytes)
unfolding alert_at
alert-any options c d bytes h =
    ap (λ (k : ℕ). alert_from options k (after_indent (rest_at c bytes)).bytes) (indent-any c d bytes h)
    ∙ ap (alert_from options (indent (rest_at d bytes)))
    (bytes-alike (after_indent (rest_at c bytes)) (after_indent (rest_at d bytes)) (after_indent-alike c d bytes h))

following-alike : (n : ℕ) (r s : Rest) → Alike r s → Alike (after_indent (following n r)) (after_indent (following n s))
following-alike n r s (alike c d bytes h) =
    after_indent-alike (c + n) (d + n) (drop n bytes) (no_tab-drop n bytes h)

with_kind-alike : (options : ParseOptions) (o p : Option Taken) → BothTaken o p →
    BothTaken (with_kind options o) (with_kind options p)
with_kind-alike options o p neither = neither
with_kind-alike options o p (taken container c d bytes h) =
    subst
    (λ (a : Option AlertKind).
    BothTaken (with_kind options (Some (record { container = container; rest = rest_at c bytes })))
    (Some (taken_as (record { container = container; rest = rest_at d bytes }) a)))
    (alert-any options c d bytes h) (go (alert_at options (rest_at c bytes)))
  where
    go : (a : Option AlertKind) →
        BothTaken (Some (taken_as (record { container = container; rest = rest_at c bytes }) a))
        (Some (taken_as (record { container = container; rest = rest_at d bytes }) a))
    go None = taken container c d bytes h
    go (Some kind) =
        taken-alike (InQuote (Some kind)) _ _
        (following-alike (length (marker_of kind)) _ _ (after_indent-alike c d bytes h))

item_continues-alike : (digits : List ℕ) (marker width : ℕ) (starts_blank : Bool) (c d : ℕ) (bytes : List ℕ) →
    NoTab bytes →
    BothTaken (item_continues digits marker width starts_blank (rest_at c bytes))
    (item_continues digits marker width starts_blank (rest_at d bytes))
unfolding item_continues
item_continues-alike digits marker width starts_blank c d bytes h =
    subst
    (λ (j : ℕ).
    BothTaken (item_continues digits marker width starts_blank (rest_at c bytes))
    (cond (cond (is_blank bytes) (not starts_blank) (nat_le width j))
    (Some (record { container = InItem digits marker width false; rest = lose width (rest_at d bytes) })) None))
    (indent-any c d bytes h)
    (when (cond (is_blank bytes) (not starts_blank) (nat_le width (indent (rest_at c bytes)))) _ _
    (taken-alike (InItem digits marker width false) _ _ (lose-alike width c d bytes h)))

footnote_continues-alike : (label : List ℕ) (c d : ℕ) (bytes : List ℕ) → NoTab bytes →
    BothTaken (footnote_continues label (rest_at c bytes)) (footnote_continues label (rest_at d bytes))
unfolding footnote_continues
footnote_continues-alike label c d bytes h =
    subst
    (λ (j : ℕ).
    BothTaken (footnote_continues label (rest_at c bytes))
    (cond (is_blank bytes || nat_le 4 j)
    (Some (record { container = InFootnote label; rest = lose 4 (rest_at d bytes) })) None))
    (indent-any c d bytes h)
    (when (is_blank bytes || nat_le 4 (indent (rest_at c bytes))) _ _
    (taken-alike (InFootnote label) _ _ (lose-alike 4 c d bytes h)))

continues-alike : (options : ParseOptions) (container : Container) (c d : ℕ) (bytes : List ℕ) → NoTab bytes →
    BothTaken (continues options container (rest_at c bytes)) (continues options container (rest_at d bytes))
continues-alike options (InQuote kind) c d bytes h = quote_taken-alike options kind c d bytes h
continues-alike options (InItem digits marker width starts_blank) c d bytes h =
    item_continues-alike digits marker width starts_blank c d bytes h
continues-alike options (InFootnote label) c d bytes h = footnote_continues-alike label c d bytes h

opens_quote-alike : (options : ParseOptions) (c d : ℕ) (bytes : List ℕ) → NoTab bytes →
    BothTaken (opens_quote options (rest_at c bytes)) (opens_quote options (rest_at d bytes))
unfolding opens_quote
opens_quote-alike options c d bytes h =
    when options.constructs.block_quote _ _ (with_kind-alike options _ _ (quote_taken-alike options None c d bytes h))

item_padding-any : (c d : ℕ) (bytes : List ℕ) → NoTab bytes →
    item_padding (rest_at c bytes) ≡ item_padding (rest_at d bytes)
item_padding-any c d bytes h = ap (λ (k : ℕ). cond (is_blank bytes) 0 (cond (nat_le 5 k) 1 k)) (indent-any c d bytes h)

-- an item with so much padding
abbrev item_padded : ParseOptions → Bool → ℕ → List ℕ → Marker → Rest → ℕ → Option Taken
item_padded options interrupting before bytes marker after padding =
    if is_parted after.bytes && not (options.constructs.thematic_break && is_rule bytes)
    && (not interrupting || may_interrupt marker after)
    then Some
    (record {
      container =
          InItem marker.digits marker.byte
          (before + length marker.digits + 1 + padding + (if is_blank after.bytes then 1 else 0))
          (is_blank after.bytes);
      rest = lose padding after;
    })
    else None

item_by-alike : (options : ParseOptions) (interrupting : Bool) (k : ℕ) (marker : Option Marker) (c d : ℕ)
    (bytes : List ℕ) →
    NoTab bytes →
    BothTaken (item_by options interrupting k (rest_at c bytes) marker)
    (item_by options interrupting k (rest_at d bytes) marker)
item_by-alike options interrupting k None c d bytes h = neither
item_by-alike options interrupting k (Some marker) c d bytes h = go (length marker.digits + 1)
  where
    go : (n : ℕ) →
        BothTaken
        (item_padded options interrupting k bytes marker (rest_at (c + n) (drop n bytes))
        (item_padding (rest_at (c + n) (drop n bytes))))
        (item_padded options interrupting k bytes marker (rest_at (d + n) (drop n bytes))
        (item_padding (rest_at (d + n) (drop n bytes))))
    go n =
        subst
        (λ (p : ℕ).
        BothTaken
        (item_padded options interrupting k bytes marker (rest_at (c + n) (drop n bytes))
        (item_padding (rest_at (c + n) (drop n bytes))))
        (item_padded options interrupting k bytes marker (rest_at (d + n) (drop n bytes)) p))
        (item_padding-any (c + n) (d + n) (drop n bytes) (no_tab-drop n bytes h))
        (when _ _ _
        (taken-alike _ _ _
        (lose-alike (item_padding (rest_at (c + n) (drop n bytes))) (c + n) (d + n) (drop n bytes)
        (no_tab-drop n bytes h))))

abbrev pub item_from : ParseOptions → Bool → ℕ → Rest → Option Taken
item_from options interrupting columns from =
    if options.constructs.list_item && is_small options columns
    then item_by options interrupting columns from (list_marker from.bytes) else None

item_from-alike : (options : ParseOptions) (interrupting : Bool) (k : ℕ) (r s : Rest) → Alike r s →
    BothTaken (item_from options interrupting k r) (item_from options interrupting k s)
item_from-alike options interrupting k r s (alike c d bytes h) =
    when (options.constructs.list_item && is_small options k) _ _
    (item_by-alike options interrupting k (list_marker bytes) c d bytes h)

opens_item-alike : (options : ParseOptions) (interrupting : Bool) (c d : ℕ) (bytes : List ℕ) → NoTab bytes →
    BothTaken (opens_item options interrupting (rest_at c bytes)) (opens_item options interrupting (rest_at d bytes))
unfolding opens_item
opens_item-alike options interrupting c d bytes h =
    at_indent (item_from options interrupting) (item_from-alike options interrupting) c d bytes h

footnote_by-alike : (label : Option Labelled) (c d : ℕ) (bytes : List ℕ) → NoTab bytes →
    BothTaken (footnote_by (rest_at c bytes) label) (footnote_by (rest_at d bytes) label)
footnote_by-alike None c d bytes h = neither
footnote_by-alike (Some l) c d bytes h =
    let n : ℕ = length l.label + 4 in
    when (nat_le 1 (length l.label) && nat_le (length l.label) 999 && begins_with 58 l.after) _ _
    (taken-alike (InFootnote l.label) _ _
    (after_indent-alike (c + n) (d + n) (drop n bytes) (no_tab-drop n bytes h)))

abbrev pub footnote_from : ParseOptions → ℕ → Rest → Option Taken
footnote_from options columns from =
    if options.constructs.gfm_footnote_definition && is_small options columns
    && starts_with nat_eq from.bytes (91 ∷ 94 ∷ [])
    then footnote_by from (footnote_label false (drop 2 from.bytes))
    else None

footnote_from-alike : (options : ParseOptions) (k : ℕ) (r s : Rest) → Alike r s →
    BothTaken (footnote_from options k r) (footnote_from options k s)
footnote_from-alike options k r s (alike c d bytes h) =
    when
    (options.constructs.gfm_footnote_definition && is_small options k && starts_with nat_eq bytes (91 ∷ 94 ∷ [])) _ _
    (footnote_by-alike (footnote_label false (drop 2 bytes)) c d bytes h)

opens_footnote-alike : (options : ParseOptions) (c d : ℕ) (bytes : List ℕ) → NoTab bytes →
    BothTaken (opens_footnote options (rest_at c bytes)) (opens_footnote options (rest_at d bytes))
unfolding opens_footnote
opens_footnote-alike options c d bytes h = at_indent (footnote_from options) (footnote_from-alike options) c d bytes h

opens-alike : (options : ParseOptions) (interrupting : Bool) (c d : ℕ) (bytes : List ℕ) → NoTab bytes →
    BothTaken (opens options interrupting (rest_at c bytes)) (opens options interrupting (rest_at d bytes))
opens-alike options interrupting c d bytes h =
    first-alike _ _ _ _ (opens_quote-alike options c d bytes h)
    (first-alike _ _ _ _ (opens_item-alike options interrupting c d bytes h)
    (opens_footnote-alike options c d bytes h))

-- Leaves.

break_at-any : (options : ParseOptions) (c d : ℕ) (bytes : List ℕ) → NoTab bytes →
    break_at options (rest_at c bytes) ≡ break_at options (rest_at d bytes)
unfolding break_at
break_at-any options c d bytes h =
    ap
    (λ (k : ℕ).
    if options.constructs.thematic_break && is_small options k && is_rule (trim_start bytes)
    then Some (Finished (Bare Break)) else None)
    (indent-any c d bytes h)

heading_at-any : (options : ParseOptions) (c d : ℕ) (bytes : List ℕ) → NoTab bytes →
    heading_at options (rest_at c bytes) ≡ heading_at options (rest_at d bytes)
unfolding heading_at
heading_at-any options c d bytes h =
    let text : List ℕ = trim_start bytes in
    let depth : ℕ = run_len 35 text in
    ap (λ (k : ℕ).
    if options.constructs.heading_atx && is_small options k && nat_le 1 depth && nat_le depth 6
    && is_parted (drop depth text)
    then Some (Finished (Heading depth (heading_lines (heading_text (drop depth text)))))
    else None) (indent-any c d bytes h)

abbrev code_from : ParseOptions → ParagraphContext → ℕ → Line → Option LeafResult
code_from options against k line =
    if options.constructs.code_indented && is_free against && nat_le 4 k then Some (Opened (OpenCode (line ∷ [])))
    else None

code_at-any : (options : ParseOptions) (against : ParagraphContext) (c d : ℕ) (bytes : List ℕ) → NoTab bytes →
    code_at options against (rest_at c bytes) ≡ code_at options against (rest_at d bytes)
unfolding code_at
code_at-any options against c d bytes h =
    ap (λ (k : ℕ). code_from options against k (code_line (rest_at c bytes))) (indent-any c d bytes h)
    ∙ ap (code_from options against (indent (rest_at d bytes))) (lost-any 4 c d bytes h)

fence_at-any : (options : ParseOptions) (c d : ℕ) (bytes : List ℕ) → NoTab bytes →
    fence_at options (rest_at c bytes) ≡ fence_at options (rest_at d bytes)
unfolding fence_at
fence_at-any options c d bytes h =
    ap (λ (k : ℕ). if is_small options k then fence_from options k (trim_start bytes) else None)
    (indent-any c d bytes h)

html_by-any : (against : ParagraphContext) (kind : Option HtmlKind) (c d : ℕ) (bytes : List ℕ) →
    html_by against (rest_at c bytes) kind ≡ html_by against (rest_at d bytes) kind
html_by-any against None c d bytes = refl
html_by-any against (Some kind) c d bytes = refl

html_at-any : (options : ParseOptions) (against : ParagraphContext) (c d : ℕ) (bytes : List ℕ) → NoTab bytes →
    html_at options against (rest_at c bytes) ≡ html_at options against (rest_at d bytes)
unfolding html_at
html_at-any options against c d bytes h =
    ap
    (λ (k : ℕ).
    if options.constructs.html_flow && is_small options k
    then html_by against (rest_at c bytes) (html_kind (trim_start bytes)) else None)
    (indent-any c d bytes h)
    ∙ ap
    (λ (o : Option LeafResult).
    if options.constructs.html_flow && is_small options (indent (rest_at d bytes)) then o else None)
    (html_by-any against (html_kind (trim_start bytes)) c d bytes)

starts-any : (options : ParseOptions) (against : ParagraphContext) (c d : ℕ) (bytes : List ℕ) → NoTab bytes →
    starts options against (rest_at c bytes) ≡ starts options against (rest_at d bytes)
unfolding starts
starts-any options against c d bytes h =
    rw (
      code_at-any options against c d bytes h,
      fence_at-any options c d bytes h,
      html_at-any options against c d bytes h,
      heading_at-any options c d bytes h,
      break_at-any options c d bytes h,
    ) refl

abbrev code_on : List Line → List ℕ → ℕ → Line → Option LeafResult
code_on lines bytes k line =
    if is_blank bytes || nat_le 4 k then Some (Opened (OpenCode (lines ++ line ∷ []))) else None

code_continued-any : (lines : List Line) (c d : ℕ) (bytes : List ℕ) → NoTab bytes →
    code_continued lines (rest_at c bytes) ≡ code_continued lines (rest_at d bytes)
unfolding code_continued
code_continued-any lines c d bytes h =
    ap (λ (k : ℕ). code_on lines bytes k (code_line (rest_at c bytes))) (indent-any c d bytes h)
    ∙ ap (code_on lines bytes (indent (rest_at d bytes))) (lost-any 4 c d bytes h)

abbrev fence_on : ParseOptions → Opening → List Line → List ℕ → ℕ → Line → LeafResult
fence_on options o lines bytes k line =
    if is_small options k && nat_le o.size (run_len o.marker (trim_start bytes))
    && is_blank (drop (run_len o.marker (trim_start bytes)) (trim_start bytes))
    then Finished (fence_block o lines true)
    else Opened (OpenFence o (lines ++ line ∷ []))

fence_continued-any : (options : ParseOptions) (o : Opening) (lines : List Line) (c d : ℕ) (bytes : List ℕ) →
    NoTab bytes → fence_continued options o lines (rest_at c bytes) ≡ fence_continued options o lines (rest_at d bytes)
unfolding fence_continued
fence_continued-any options o lines c d bytes h =
    ap (λ (k : ℕ). fence_on options o lines bytes k (line_of (lose o.indent (rest_at c bytes))))
    (indent-any c d bytes h)
    ∙ ap (fence_on options o lines bytes (indent (rest_at d bytes))) (lost-any o.indent c d bytes h)

html_continued-any : (kind : HtmlKind) (lines : List Line) (c d : ℕ) (bytes : List ℕ) →
    html_continued kind lines (rest_at c bytes) ≡ html_continued kind lines (rest_at d bytes)
unfolding html_continued
html_continued-any kind lines c d bytes = refl

table_continued-any : (options : ParseOptions) (delimiter : List ℕ) (rows : List (List (List ℕ))) (c d : ℕ)
    (bytes : List ℕ) →
    NoTab bytes →
    table_continued options delimiter rows (rest_at c bytes) ≡ table_continued options delimiter rows (rest_at d bytes)
unfolding table_continued
table_continued-any options delimiter rows c d bytes h =
    ap
    (λ (o : Option LeafResult).
    if is_blank bytes || is_some o then None else Some (Opened (OpenTable delimiter (rows ++ row_cells bytes ∷ []))))
    (starts-any options NoText c d bytes h)

is_continued-any : (options : ParseOptions) (leaf : Leaf) (c d : ℕ) (bytes : List ℕ) → NoTab bytes →
    is_continued options leaf (rest_at c bytes) ≡ is_continued options leaf (rest_at d bytes)
is_continued-any options NoLeaf c d bytes h = refl
is_continued-any options (OpenParagraph lines) c d bytes h = refl
is_continued-any options (OpenCode lines) c d bytes h = code_continued-any lines c d bytes h
is_continued-any options (OpenFence o lines) c d bytes h =
    ap (λ (x : LeafResult). Some x) (fence_continued-any options o lines c d bytes h)
is_continued-any options (OpenHtml kind lines) c d bytes h = html_continued-any kind lines c d bytes
is_continued-any options (OpenTable delimiter rows) c d bytes h = table_continued-any options delimiter rows c d bytes h

underline_depth-any : (options : ParseOptions) (c d : ℕ) (bytes : List ℕ) → NoTab bytes →
    underline_depth options (rest_at c bytes) ≡ underline_depth options (rest_at d bytes)
unfolding underline_depth
underline_depth-any options c d bytes h =
    ap (λ (k : ℕ).
    if options.constructs.heading_setext && is_small options k
    then if is_run 61 (trim bytes) then Some 1 else if is_run 45 (trim bytes) then Some 2 else None
    else None) (indent-any c d bytes h)

kept-any : (c d : ℕ) (bytes : List ℕ) → NoTab bytes → kept (rest_at c bytes) ≡ kept (rest_at d bytes)
kept-any c d bytes h = ap (λ (k : ℕ). record { indent = k; text = trim_start bytes }) (indent-any c d bytes h)

with_line-any : (bs : Blocks) (lines : List ParagraphLine) (c d : ℕ) (bytes : List ℕ) → NoTab bytes →
    with_line bs lines (rest_at c bytes) ≡ with_line bs lines (rest_at d bytes)
with_line-any bs lines c d bytes h =
    ap (λ (k : ParagraphLine). record { here = bs; leaf = OpenParagraph (lines ++ k ∷ []) }) (kept-any c d bytes h)

underlined_by-any : (bs : Blocks) (lines : List ParagraphLine) (depth : ℕ) (defined : Blocks)
    (remaining : List (List ℕ))
    (c d : ℕ) (bytes : List ℕ) →
    NoTab bytes →
    underlined_by bs lines (rest_at c bytes) depth defined remaining ≡
    underlined_by bs lines (rest_at d bytes) depth defined remaining
underlined_by-any bs lines depth defined [] c d bytes h = with_line-any bs lines c d bytes h
underlined_by-any bs lines depth defined (line ∷ remaining) c d bytes h = refl

underlined-any : (options : ParseOptions) (bs : Blocks) (lines : List ParagraphLine) (depth : ℕ) (c d : ℕ)
    (bytes : List ℕ) → NoTab bytes →
    underlined options bs lines (rest_at c bytes) depth ≡ underlined options bs lines (rest_at d bytes) depth
unfolding underlined
underlined-any options bs lines depth c d bytes h =
    underlined_by-any bs lines depth (then_definitions bs (cut options (texts lines)).0)
    (cut options (texts lines)).1 c d bytes h

table_at-any : (options : ParseOptions) (bs : Blocks) (lines : List ParagraphLine) (c d : ℕ) (bytes : List ℕ) →
    NoTab bytes → table_at options bs lines (rest_at c bytes) ≡ table_at options bs lines (rest_at d bytes)
unfolding table_at
table_at-any options bs lines c d bytes h =
    ap
    (λ (k : ℕ).
    if options.constructs.gfm_table && is_small options k
    then table_by options bs (reverse lines) (trim bytes) (delimiter_columns (trim bytes)) else None)
    (indent-any c d bytes h)

-- A line where no container takes it.

fresh_by-any : (bs : Blocks) (o : Option LeafResult) (c d : ℕ) (bytes : List ℕ) → NoTab bytes →
    fresh_by bs (rest_at c bytes) o ≡ fresh_by bs (rest_at d bytes) o
fresh_by-any bs (Some x) c d bytes h = refl
fresh_by-any bs None c d bytes h = with_line-any bs [] c d bytes h

fresh_line-any : (options : ParseOptions) (bs : Blocks) (c d : ℕ) (bytes : List ℕ) → NoTab bytes →
    fresh_line options bs (rest_at c bytes) ≡ fresh_line options bs (rest_at d bytes)
unfolding fresh_line
fresh_line-any options bs c d bytes h =
    ap (λ (s : Innermost). if is_blank bytes then spot_of bs else s)
    (ap (fresh_by bs (rest_at c bytes)) (starts-any options NoText c d bytes h)
    ∙ fresh_by-any bs (starts options NoText (rest_at d bytes)) c d bytes h)

row_or_text-any : (bs : Blocks) (lines : List ParagraphLine) (o : Option Innermost) (c d : ℕ) (bytes : List ℕ) →
    NoTab bytes → row_or_text bs lines (rest_at c bytes) o ≡ row_or_text bs lines (rest_at d bytes) o
row_or_text-any bs lines (Some s) c d bytes h = refl
row_or_text-any bs lines None c d bytes h = with_line-any bs lines c d bytes h

text_by-any : (options : ParseOptions) (bs : Blocks) (lines : List ParagraphLine) (o : Option LeafResult) (c d : ℕ)
    (bytes : List ℕ) → NoTab bytes →
    text_by options bs lines (rest_at c bytes) o ≡ text_by options bs lines (rest_at d bytes) o
text_by-any options bs lines (Some x) c d bytes h = refl
text_by-any options bs lines None c d bytes h =
    ap (row_or_text bs lines (rest_at c bytes)) (table_at-any options bs lines c d bytes h)
    ∙ row_or_text-any bs lines (table_at options bs lines (rest_at d bytes)) c d bytes h

underline_or_text-any : (options : ParseOptions) (bs : Blocks) (lines : List ParagraphLine) (o : Option ℕ) (c d : ℕ)
    (bytes : List ℕ) →
    NoTab bytes →
    underline_or_text options bs lines (rest_at c bytes) o ≡ underline_or_text options bs lines (rest_at d bytes) o
underline_or_text-any options bs lines (Some depth) c d bytes h = underlined-any options bs lines depth c d bytes h
underline_or_text-any options bs lines None c d bytes h =
    ap (text_by options bs lines (rest_at c bytes)) (starts-any options Text c d bytes h)
    ∙ text_by-any options bs lines (starts options Text (rest_at d bytes)) c d bytes h

text_line-any : (options : ParseOptions) (bs : Blocks) (lines : List ParagraphLine) (c d : ℕ) (bytes : List ℕ) →
    NoTab bytes → text_line options bs lines (rest_at c bytes) ≡ text_line options bs lines (rest_at d bytes)
unfolding text_line
text_line-any options bs lines c d bytes h =
    ap (λ (s : Innermost). if is_blank bytes then spot_of (then_leaf options bs (OpenParagraph lines)) else s)
    (ap (underline_or_text options bs lines (rest_at c bytes)) (underline_depth-any options c d bytes h)
    ∙ underline_or_text-any options bs lines (underline_depth options (rest_at d bytes)) c d bytes h)

on_or_fresh-any : (options : ParseOptions) (s : Innermost) (o : Option LeafResult) (c d : ℕ) (bytes : List ℕ) →
    NoTab bytes → on_or_fresh options s (rest_at c bytes) o ≡ on_or_fresh options s (rest_at d bytes) o
on_or_fresh-any options s (Some x) c d bytes h = refl
on_or_fresh-any options s None c d bytes h = fresh_line-any options (shut options s) c d bytes h

-- with what an open leaf that is no paragraph becomes
leaf_on-any : (options : ParseOptions) (s : Innermost) (leaf : Leaf) (c d : ℕ) (bytes : List ℕ) → NoTab bytes →
    on_or_fresh options s (rest_at c bytes) (is_continued options leaf (rest_at c bytes)) ≡
    on_or_fresh options s (rest_at d bytes) (is_continued options leaf (rest_at d bytes))
leaf_on-any options s leaf c d bytes h =
    ap (on_or_fresh options s (rest_at c bytes)) (is_continued-any options leaf c d bytes h)
    ∙ on_or_fresh-any options s (is_continued options leaf (rest_at d bytes)) c d bytes h

leaf_line_by-any : (options : ParseOptions) (s : Innermost) (leaf : Leaf) (c d : ℕ) (bytes : List ℕ) → NoTab bytes →
    leaf_line_by options s (rest_at c bytes) leaf ≡ leaf_line_by options s (rest_at d bytes) leaf
leaf_line_by-any options s NoLeaf c d bytes h = fresh_line-any options s.here c d bytes h
leaf_line_by-any options s (OpenParagraph lines) c d bytes h = text_line-any options s.here lines c d bytes h
leaf_line_by-any options s (OpenCode lines) c d bytes h = leaf_on-any options s (OpenCode lines) c d bytes h
leaf_line_by-any options s (OpenFence o lines) c d bytes h = leaf_on-any options s (OpenFence o lines) c d bytes h
leaf_line_by-any options s (OpenHtml kind lines) c d bytes h = leaf_on-any options s (OpenHtml kind lines) c d bytes h
leaf_line_by-any options s (OpenTable delimiter rows) c d bytes h =
    leaf_on-any options s (OpenTable delimiter rows) c d bytes h

-- The step of a line.

abbrev pub opened_by : ParseOptions → ℕ → Rest → Option Taken → Path
opened_by options n r o = elim o as
    (λ _. Path) [ Some t ↦ Within End t.container (opened options n t.rest) | None ↦ At (fresh_line options End r) ]

opened-any : (options : ParseOptions) (n c d : ℕ) (bytes : List ℕ) → NoTab bytes →
    opened options n (rest_at c bytes) ≡ opened options n (rest_at d bytes)
opened-any options zero c d bytes h = ap (λ (s : Innermost). At s) (fresh_line-any options End c d bytes h)
opened-any options (suc n) c d bytes h =
    go (opened-any options n) (opens options false (rest_at c bytes)) (opens options false (rest_at d bytes))
    (opens-alike options false c d bytes h)
  where
    go : ((e f : ℕ) (more : List ℕ) → NoTab more →
        opened options n (rest_at e more) ≡ opened options n (rest_at f more)) → (o p : Option Taken) → BothTaken o p →
        opened_by options n (rest_at c bytes) o ≡ opened_by options n (rest_at d bytes) p
    go below o p neither = ap (λ (s : Innermost). At s) (fresh_line-any options End c d bytes h)
    go below o p (taken container e f more k) = ap (Within End container) (below e f more k)

all_continued_by-any : (options : ParseOptions) (s : Innermost) (o p : Option Taken) (c d : ℕ) (bytes : List ℕ) →
    NoTab bytes → BothTaken o p →
    all_continued_by options s (rest_at c bytes) o ≡ all_continued_by options s (rest_at d bytes) p
all_continued_by-any options s o p c d bytes h neither =
    ap (λ (x : Innermost). At x) (leaf_line_by-any options s s.leaf c d bytes h)
all_continued_by-any options s o p c d bytes h (taken container e f more k) =
    ap (Within (shut options s) container) (opened-any options (length more) e f more k)

all_continued-any : (options : ParseOptions) (s : Innermost) (c d : ℕ) (bytes : List ℕ) → NoTab bytes →
    all_continued options s (rest_at c bytes) ≡ all_continued options s (rest_at d bytes)
unfolding all_continued
all_continued-any options s c d bytes h =
    all_continued_by-any options s _ _ c d bytes h
    (unless (is_concrete s.leaf) _ _ (opens-alike options (is_open_text s.leaf) c d bytes h))

with_lazy-any : (options : ParseOptions) (leaf : Leaf) (c d : ℕ) (bytes : List ℕ) → NoTab bytes →
    with_lazy options leaf (rest_at c bytes) ≡ with_lazy options leaf (rest_at d bytes)
with_lazy-any options NoLeaf c d bytes h = refl
with_lazy-any options (OpenParagraph lines) c d bytes h =
    ap
    (λ (o : Option LeafResult).
    if is_blank bytes || is_some o then None else Some (OpenParagraph (lines ++ kept (rest_at c bytes) ∷ [])))
    (starts-any options LazyText c d bytes h)
    ∙ ap
    (λ (k : ParagraphLine).
    if is_blank bytes || is_some (starts options LazyText (rest_at d bytes)) then None
    else Some (OpenParagraph (lines ++ k ∷ [])))
    (kept-any c d bytes h)
with_lazy-any options (OpenCode lines) c d bytes h = refl
with_lazy-any options (OpenFence o lines) c d bytes h = refl
with_lazy-any options (OpenHtml kind lines) c d bytes h = refl
with_lazy-any options (OpenTable delimiter rows) c d bytes h = refl

lazy_by-any : (options : ParseOptions) (before : Blocks) (container : Container) (p : Path) (o : Option Leaf) (c d : ℕ)
    (bytes : List ℕ) →
    NoTab bytes →
    lazy_by options before container p (rest_at c bytes) o ≡ lazy_by options before container p (rest_at d bytes) o
lazy_by-any options before container p (Some leaf) c d bytes h = refl
lazy_by-any options before container p None c d bytes h =
    ap (λ (s : Innermost). At s)
    (fresh_line-any options (then_block before (container_block container (closed options p))) c d bytes h)

stopped_by-any : (options : ParseOptions) (before : Blocks) (container : Container) (p : Path) (o q : Option Taken)
    (c d : ℕ) (bytes : List ℕ) →
    NoTab bytes → BothTaken o q →
    stopped_by options before container p (rest_at c bytes) o ≡
    stopped_by options before container p (rest_at d bytes) q
stopped_by-any options before container p o q c d bytes h neither =
    ap (lazy_by options before container p (rest_at c bytes)) (with_lazy-any options (spot p).leaf c d bytes h)
    ∙ lazy_by-any options before container p (with_lazy options (spot p).leaf (rest_at d bytes)) c d bytes h
stopped_by-any options before container p o q c d bytes h (taken inner e f more k) =
    ap (Within (then_block before (container_block container (closed options p))) inner)
    (opened-any options (length more) e f more k)

stopped-any : (options : ParseOptions) (before : Blocks) (container : Container) (p : Path) (c d : ℕ) (bytes : List ℕ) →
    NoTab bytes →
    stopped options before container p (rest_at c bytes) ≡ stopped options before container p (rest_at d bytes)
unfolding stopped
stopped-any options before container p c d bytes h =
    stopped_by-any options before container p _ _ c d bytes h (opens-alike options false c d bytes h)

abbrev pub step_by : ParseOptions → Blocks → Container → Path → Rest → Option Taken → Path
step_by options before container p r o = elim o as
    (λ _. Path) [
      | Some t ↦ Within before t.container (step options p t.rest)
      | None ↦ stopped options before container p r
    ]

-- a line without tabs does the same from any column on
pub step-any : (options : ParseOptions) (p : Path) (c d : ℕ) (bytes : List ℕ) → NoTab bytes →
    step options p (rest_at c bytes) ≡ step options p (rest_at d bytes)
step-any options (At s) c d bytes h = all_continued-any options s c d bytes h
step-any options (Within before container p) c d bytes h =
    go (step-any options p) (continues options container (rest_at c bytes))
    (continues options container (rest_at d bytes)) (continues-alike options container c d bytes h)
  where
    go : ((e f : ℕ) (more : List ℕ) → NoTab more → step options p (rest_at e more) ≡ step options p (rest_at f more)) →
        (o q : Option Taken) → BothTaken o q →
        step_by options before container p (rest_at c bytes) o ≡ step_by options before container p (rest_at d bytes) q
    go below o q neither = stopped-any options before container p c d bytes h
    go below o q (taken inner e f more k) = ap (Within before inner) (below e f more k)
