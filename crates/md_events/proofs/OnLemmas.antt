-- A construct that is off occurs nowhere in the tree of a text.
use Rattle.std.proofs.Common.{◌≡◌, ℕ, zero, suc, Bool, true, false, cond, arith, ◌==◌, ◌&&◌, List, [], ◌∷◌, ◌++◌}
use Rattle.std.proofs.Common.{length, Option, Some, None, refl, ◌∙◌}
use Rattle.std.proofs.lemmas.Bool.{and_from, and_parts, or_right}
use Rattle.md_engine.specs.declared.configuration.ParseOptions.{ParseOptions}
use Rattle.md_meaning.specs.declared.alert.AlertKind.{AlertKind}
use Rattle.md_meaning.specs.Alert.{alert_at}
use Rattle.md_meaning.specs.Containers.{taken_as, with_kind, Labelled, Marker, Taken, continues, footnote_by}
use Rattle.md_meaning.specs.Containers.{footnote_continues, item_by, item_continues, opens, opens_footnote, opens_item}
use Rattle.md_meaning.specs.Containers.{opens_quote, quote_taken}
use Rattle.md_meaning.specs.Definition.{Defined, cut_definitions}
use Rattle.md_meaning.specs.Grouped.{grouped, grouped_block, with_front, with_item}
use Rattle.md_meaning.specs.Html.{HtmlKind}
use Rattle.md_meaning.specs.Leaves.{LeafResult, Finished, NoText, Opened, Text, closes, code_continued, fence_continued}
use Rattle.md_meaning.specs.Leaves.{is_continued, html_continued, starts, table_at, table_by, table_continued}
use Rattle.md_meaning.specs.Leaves.{underline_depth, underlined, underlined_by}
use Rattle.md_meaning.specs.Lines.{lines_of}
use Rattle.md_meaning.specs.Meaning.{tree}
use Rattle.md_events.specs.Events.On.{are_on, is_kind_on, is_on, is_setext_depth}
use Rattle.md_meaning.specs.Preamble.{Front, front_by, first_column, front_of, preamble_by, rests_at, without_mark}
use Rattle.md_meaning.specs.Rest.{Rest, has_small_indent, is_blank, line_of, lose}
use Rattle.md_meaning.specs.State.{At, Container, InFootnote, InItem, InQuote, ParagraphLine, Leaf, NoLeaf, OpenCode}
use Rattle.md_meaning.specs.State.{OpenFence, OpenHtml, OpenParagraph, OpenTable, Opening, Path, Innermost, Within}
use Rattle.md_meaning.specs.State.{at_spot, closed, container_block, cut, fence_block, shut, shut_paragraph, spot}
use Rattle.md_meaning.specs.State.{texts, then_block, then_definitions, then_leaf, then_paragraph}
use Rattle.md_meaning.specs.Step.{all_continued, all_continued_by, became, leaf_line_by, on_or_fresh, row_or_text}
use Rattle.md_meaning.specs.Step.{entered, fresh_by, fresh_line, is_concrete, is_open_text, stopped_by, leaf_line}
use Rattle.md_meaning.specs.Step.{lazy_by, opened, spot_of, step, steps, stopped, text_by, text_line, underline_or_text}
use Rattle.md_meaning.specs.Step.{with_lazy}
use Rattle.md_meaning.specs.Tree.{Block, Blocks, Definition, End, Footnote, Heading, Html, Item, Line, ListOf, More}
use Rattle.md_meaning.specs.Tree.{Paragraph, Quote, Table}
use Rattle.md_meaning.proofs.ColumnLemmas.{opened_by, step_by}
use Rattle.md_meaning.proofs.FindsLemmas.{Finds, first-found, none-found, some-found, unless-found, when-found}
use Rattle.md_meaning.proofs.TreeLemmas.{tree_by}
use Rattle.md_events.proofs.LeafBecomes.{BecameOn, first_of_two, first_of_three, is_leaf_on, is_marker_on}
use Rattle.md_events.proofs.LeafBecomes.{fence_block-on, html_line-on, starts-on}

-- Blocks.

-- one more block
then-on : (options : ParseOptions) (bs : Blocks) (b : Block) → are_on options bs ≡ true → is_on options b ≡ true →
    are_on options (then_block bs b) ≡ true
then-on options End b h k = and_from (is_on options b) true k refl
then-on options (More a bs) b h k =
    let parts = and_parts (is_on options a) (are_on options bs) h in
    and_from (is_on options a) (are_on options (then_block bs b)) parts.0 (then-on options bs b parts.1 k)

-- definitions after blocks
definitions-on : (options : ParseOptions) (bs : Blocks) (ds : List Defined) → options.constructs.definition ≡ true →
    are_on options bs ≡ true → are_on options (then_definitions bs ds) ≡ true
definitions-on options bs [] on h = h
definitions-on options bs (d ∷ ds) on h =
    definitions-on options (then_block bs (Definition d.label d.destination d.title)) ds on
    (then-on options bs (Definition d.label d.destination d.title) h on)

-- the definitions that are cut from the front of a paragraph
cut-on : (options : ParseOptions) (bs : Blocks) (lines : List (List ℕ)) → are_on options bs ≡ true →
    are_on options (then_definitions bs (cut options lines).0) ≡ true
cut-on options bs lines h = go options.constructs.definition refl
  where
    go : (x : Bool) → options.constructs.definition ≡ x →
        are_on options (then_definitions bs (cond x (cut_definitions lines) ([], lines)).0) ≡ true
    go true e = definitions-on options bs (cut_definitions lines).0 e h
    go false e = h

-- what remains of a paragraph
paragraph-on : (options : ParseOptions) (bs : Blocks) (lines : List (List ℕ)) → are_on options bs ≡ true →
    are_on options (then_paragraph bs lines) ≡ true
paragraph-on options bs [] h = h
paragraph-on options bs (line ∷ lines) h = then-on options bs (Paragraph (line ∷ lines)) h refl

-- a paragraph that is closed
shut_paragraph-on : (options : ParseOptions) (bs : Blocks) (lines : List (List ℕ)) → are_on options bs ≡ true →
    are_on options (shut_paragraph options bs lines) ≡ true
unfolding shut_paragraph
shut_paragraph-on options bs lines h =
    paragraph-on options (then_definitions bs (cut options lines).0) (cut options lines).1 (cut-on options bs lines h)

-- Open leaves.

-- what a leaf becomes when it is closed
then_leaf-on : (options : ParseOptions) (bs : Blocks) (leaf : Leaf) → are_on options bs ≡ true →
    is_leaf_on options leaf ≡ true → are_on options (then_leaf options bs leaf) ≡ true
then_leaf-on options bs NoLeaf h k = h
then_leaf-on options bs (OpenParagraph lines) h k = shut_paragraph-on options bs (texts lines) h
then_leaf-on options bs (OpenCode lines) h k = then-on options bs _ h k
then_leaf-on options bs (OpenFence o lines) h k =
    then-on options bs (fence_block o lines false) h (fence_block-on options o lines false ∙ k)
then_leaf-on options bs (OpenHtml kind lines) h k = then-on options bs (Html lines) h k
then_leaf-on options bs (OpenTable delimiter rows) h k = then-on options bs (Table delimiter rows) h k

-- indented code that continues
code_continues-on : (options : ParseOptions) (lines : List Line) (r : Rest) → options.constructs.code_indented ≡ true →
    Finds (code_continued lines r) (BecameOn options)
unfolding code_continued
code_continues-on options lines r on = search (when-found, some-found)

-- fenced code or math that continues
fence_continues-on : (options : ParseOptions) (o : Opening) (lines : List Line) (r : Rest) →
    is_marker_on options o.marker ≡ true → BecameOn options (fence_continued options o lines r)
unfolding fence_continued
fence_continues-on options o lines r h = go (closes options o r)
  where
    go : (x : Bool) →
        BecameOn options
        (cond x (Finished (fence_block o lines true))
        (Opened (OpenFence o (lines ++ line_of (lose o.indent r) ∷ []))))
    go true = fence_block-on options o lines true ∙ h
    go false = h

-- HTML that continues
html_continues-on : (options : ParseOptions) (kind : HtmlKind) (lines : List Line) (r : Rest) →
    options.constructs.html_flow ≡ true → Finds (html_continued kind lines r) (BecameOn options)
unfolding html_continued
html_continues-on options kind lines r h = search (unless-found, some-found, html_line-on)

-- a table that continues
table_continues-on : (options : ParseOptions) (delimiter : List ℕ) (rows : List (List (List ℕ))) (r : Rest) →
    options.constructs.gfm_table ≡ true → Finds (table_continued options delimiter rows r) (BecameOn options)
unfolding table_continued
table_continues-on options delimiter rows r h = search (unless-found, some-found)

-- an open leaf that continues
proceeds-on : (options : ParseOptions) (leaf : Leaf) (r : Rest) → is_leaf_on options leaf ≡ true →
    Finds (is_continued options leaf r) (BecameOn options)
proceeds-on options NoLeaf r h = none-found (BecameOn options)
proceeds-on options (OpenParagraph lines) r h = none-found (BecameOn options)
proceeds-on options (OpenCode lines) r h = code_continues-on options lines r h
proceeds-on options (OpenFence o lines) r h =
    some-found (BecameOn options) (fence_continued options o lines r) (fence_continues-on options o lines r h)
proceeds-on options (OpenHtml kind lines) r h = html_continues-on options kind lines r h
proceeds-on options (OpenTable delimiter rows) r h = table_continues-on options delimiter rows r h

-- Spots.

-- finished blocks and a leaf after them
abbrev SpotOn : ParseOptions → Innermost → Type 0
SpotOn options s = (are_on options s.here ≡ true) × (is_leaf_on options s.leaf ≡ true)

-- what a leaf became, after blocks
became-on : (options : ParseOptions) (bs : Blocks) (c : LeafResult) → are_on options bs ≡ true → BecameOn options c →
    SpotOn options (became bs c)
became-on options bs (Opened leaf) h k = (h, k)
became-on options bs (Finished block) h k = (then-on options bs block h k, refl)

-- a rest where no leaf is open
fresh-on : (options : ParseOptions) (bs : Blocks) (r : Rest) → are_on options bs ≡ true →
    SpotOn options (fresh_line options bs r)
unfolding fresh_line
fresh-on options bs r h = by (is_blank r.bytes)
  where
    found : (o : Option LeafResult) → Finds o (BecameOn options) → SpotOn options (fresh_by bs r o)
    found (Some c) on = became-on options bs c h (on c refl)
    found None on = (h, refl)

    by : (x : Bool) → SpotOn options (cond x (spot_of bs) (fresh_by bs r (starts options NoText r)))
    by true = (h, refl)
    by false = found (starts options NoText r) (starts-on options NoText r)

-- the head of a table
table_by-on : (options : ParseOptions) (bs : Blocks) (lines : List ParagraphLine) (delimiter : List ℕ)
    (columns : Option ℕ) →
    are_on options bs ≡ true → options.constructs.gfm_table ≡ true →
    Finds (table_by options bs lines delimiter columns) (SpotOn options)
table_by-on options bs [] delimiter columns h k = none-found (SpotOn options)
table_by-on options bs (line ∷ before) delimiter None h k = none-found (SpotOn options)
table_by-on options bs (line ∷ before) delimiter (Some columns) h k = search (when-found, some-found, shut_paragraph-on)

-- a delimiter row makes a table, where tables are on
table-on : (options : ParseOptions) (bs : Blocks) (lines : List ParagraphLine) (r : Rest) → are_on options bs ≡ true →
    Finds (table_at options bs lines r) (SpotOn options)
unfolding table_at
table-on options bs lines r h = search (when-found, table_by-on, first_of_two)

-- an underline
underline-on : (options : ParseOptions) (r : Rest) →
    Finds (underline_depth options r) (λ depth. (options.constructs.heading_setext && is_setext_depth depth) ≡ true)
unfolding underline_depth
underline-on options r = λ d e. grind (arith)

-- an underlined paragraph
underlined-on : (options : ParseOptions) (bs : Blocks) (lines : List ParagraphLine) (r : Rest) (depth : ℕ) →
    are_on options bs ≡ true → (options.constructs.heading_setext && is_setext_depth depth) ≡ true →
    SpotOn options (underlined options bs lines r depth)
unfolding underlined
underlined-on options bs lines r depth h k = go (cut options (texts lines)).1
  where
    defined : Blocks
    defined = then_definitions bs (cut options (texts lines)).0

    go : (remaining : List (List ℕ)) → SpotOn options (underlined_by bs lines r depth defined remaining)
    go [] = (h, refl)
    go (line ∷ remaining) = (
      then-on options defined (Heading depth (line ∷ remaining)) (cut-on options bs (texts lines) h)
          (or_right options.constructs.heading_atx (options.constructs.heading_setext && is_setext_depth depth) k),
      refl,
    )

-- a line where a paragraph is open
text-on : (options : ParseOptions) (bs : Blocks) (lines : List ParagraphLine) (r : Rest) → are_on options bs ≡ true →
    SpotOn options (text_line options bs lines r)
unfolding text_line
text-on options bs lines r h = by (is_blank r.bytes)
  where
    shut_on : are_on options (then_leaf options bs (OpenParagraph lines)) ≡ true
    shut_on = shut_paragraph-on options bs (texts lines) h

    row : (o : Option Innermost) → Finds o (SpotOn options) → SpotOn options (row_or_text bs lines r o)
    row (Some s) on = on s refl
    row None on = (h, refl)

    leaf : (o : Option LeafResult) → Finds o (BecameOn options) → SpotOn options (text_by options bs lines r o)
    leaf (Some c) on = became-on options (then_leaf options bs (OpenParagraph lines)) c shut_on (on c refl)
    leaf None on = row (table_at options bs lines r) (table-on options bs lines r h)

    line : (o : Option ℕ) → Finds o (λ depth. (options.constructs.heading_setext && is_setext_depth depth) ≡ true) →
        SpotOn options (underline_or_text options bs lines r o)
    line (Some depth) on = underlined-on options bs lines r depth h (on depth refl)
    line None on = leaf (starts options Text r) (starts-on options Text r)

    by : (x : Bool) →
        SpotOn options
        (cond x (spot_of (then_leaf options bs (OpenParagraph lines)))
        (underline_or_text options bs lines r (underline_depth options r)))
    by true = (shut_on, refl)
    by false = line (underline_depth options r) (underline-on options r)

-- a line where no container opens
leaf_line-on : (options : ParseOptions) (s : Innermost) (r : Rest) → SpotOn options s →
    SpotOn options (leaf_line options s r)
leaf_line-on options s r h = go s.leaf h.1
  where
    other : (o : Option LeafResult) → Finds o (BecameOn options) → SpotOn options (on_or_fresh options s r o)
    other (Some c) on = became-on options s.here c h.0 (on c refl)
    other None on = fresh-on options (shut options s) r (then_leaf-on options s.here s.leaf h.0 h.1)

    go : (leaf : Leaf) → is_leaf_on options leaf ≡ true → SpotOn options (leaf_line_by options s r leaf)
    go NoLeaf k = fresh-on options s.here r h.0
    go (OpenParagraph lines) k = text-on options s.here lines r h.0
    go leaf k = other (is_continued options leaf r) (proceeds-on options leaf r k)

-- Containers.

-- whether the construct of an open container is on
abbrev is_container_on : ParseOptions → Container → Bool
is_container_on options (InQuote kind) = options.constructs.block_quote && is_kind_on options kind
is_container_on options (InItem digits marker width starts_blank) = options.constructs.list_item
is_container_on options (InFootnote label) = options.constructs.gfm_footnote_definition

-- whether the construct of a container that is taken is on
abbrev TakenOn : ParseOptions → Taken → Type 0
TakenOn options t = is_container_on options t.container ≡ true

-- a closed container
container-on : (options : ParseOptions) (container : Container) (bs : Blocks) →
    is_container_on options container ≡ true → are_on options bs ≡ true →
    is_on options (container_block container bs) ≡ true
container-on options (InQuote kind) bs h k =
    and_from (options.constructs.block_quote && is_kind_on options kind) (are_on options bs) h k
container-on options (InItem digits marker width starts_blank) bs h k =
    and_from options.constructs.list_item (are_on options bs) h k
container-on options (InFootnote label) bs h k =
    and_from options.constructs.gfm_footnote_definition (are_on options bs) h k

-- a quote
quote_taken-on : (options : ParseOptions) (kind : Option AlertKind) (r : Rest) →
    is_container_on options (InQuote kind) ≡ true → Finds (quote_taken options kind r) (TakenOn options)
unfolding quote_taken
quote_taken-on options kind r h = search (when-found, some-found)

-- a kind is found only where alerts are on
alert_at-on : (options : ParseOptions) (r : Rest) →
    Finds (alert_at options r) (λ kind. options.constructs.alerts ≡ true)
unfolding alert_at
alert_at-on options r =
    when-found _ (options.constructs.alerts && has_small_indent options r) _
    (λ e kind found. first_of_two options.constructs.alerts (has_small_indent options r) e)

-- a quote, and its kind
with_kind-on : (options : ParseOptions) (o : Option Taken) → options.constructs.block_quote ≡ true →
    Finds o (TakenOn options) → Finds (with_kind options o) (TakenOn options)
with_kind-on options None on h = none-found (TakenOn options)
with_kind-on options (Some t) on h = go (alert_at options t.rest) (alert_at-on options t.rest)
  where
    go : (a : Option AlertKind) → Finds a (λ kind. options.constructs.alerts ≡ true) →
        Finds (Some (taken_as t a)) (TakenOn options)
    go None found = h
    go (Some kind) found =
        some-found (TakenOn options) _
        (and_from options.constructs.block_quote options.constructs.alerts on (found kind refl))

opens_quote-on : (options : ParseOptions) (r : Rest) → Finds (opens_quote options r) (TakenOn options)
unfolding opens_quote
opens_quote-on options r =
    when-found (TakenOn options) options.constructs.block_quote _
    (λ on.
    with_kind-on options (quote_taken options None r) on
    (quote_taken-on options None r (and_from options.constructs.block_quote true on refl)))

-- an item with a marker
item_by-on : (options : ParseOptions) (interrupting : Bool) (before : ℕ) (from : Rest) (marker : Option Marker) →
    options.constructs.list_item ≡ true → Finds (item_by options interrupting before from marker) (TakenOn options)
item_by-on options interrupting before from None h = none-found (TakenOn options)
item_by-on options interrupting before from (Some marker) h = search (when-found, some-found)

-- a footnote definition with a label
footnote_by-on : (options : ParseOptions) (from : Rest) (label : Option Labelled) →
    options.constructs.gfm_footnote_definition ≡ true → Finds (footnote_by from label) (TakenOn options)
footnote_by-on options from None h = none-found (TakenOn options)
footnote_by-on options from (Some l) h = search (when-found, some-found)

-- the first container that opens
opens-on : (options : ParseOptions) (interrupting : Bool) (r : Rest) →
    Finds (opens options interrupting r) (TakenOn options)
unfolding opens_item opens_footnote
opens-on options interrupting r =
    search (first-found, when-found, opens_quote-on, item_by-on, footnote_by-on, first_of_two, first_of_three)

-- an open container that continues
continues-on : (options : ParseOptions) (container : Container) (r : Rest) →
    is_container_on options container ≡ true → Finds (continues options container r) (TakenOn options)
unfolding item_continues footnote_continues
continues-on options (InQuote kind) r h = quote_taken-on options kind r h
continues-on options (InItem digits marker width starts_blank) r h = search (when-found, some-found)
continues-on options (InFootnote label) r h = search (when-found, some-found)

-- Paths.

-- every open container is on, every finished block, and the open leaf
abbrev PathOn : ParseOptions → Path → Type 0
PathOn options (At s) = SpotOn options s
PathOn options (Within before container p) =
    (are_on options before ≡ true) × (is_container_on options container ≡ true) × PathOn options p

-- everything closed
closed-on : (options : ParseOptions) (p : Path) → PathOn options p → are_on options (closed options p) ≡ true
closed-on options (At s) h = then_leaf-on options s.here s.leaf h.0 h.1
closed-on options (Within before container p) h =
    then-on options before (container_block container (closed options p)) h.0
    (container-on options container (closed options p) h.1 (closed-on options p h.2))

-- containers that open, and a leaf in them
opened-on : (options : ParseOptions) (n : ℕ) (r : Rest) → PathOn options (opened options n r)
opened-on options zero r = fresh-on options End r refl
opened-on options (suc n) r = go (opened-on options n) (opens options false r) (opens-on options false r)
  where
    go : ((s : Rest) → PathOn options (opened options n s)) → (o : Option Taken) → Finds o (TakenOn options) →
        PathOn options (opened_by options n r o)
    go below None on = fresh-on options End r refl
    go below (Some t) on = (refl, on t refl, below t.rest)

-- a container that a line opens
entered-on : (options : ParseOptions) (bs : Blocks) (t : Taken) → are_on options bs ≡ true → TakenOn options t →
    PathOn options (entered options bs t)
entered-on options bs t h k = (h, k, opened-on options (length t.rest.bytes) t.rest)

-- a line where all containers continued
all_continued-on : (options : ParseOptions) (s : Innermost) (r : Rest) → SpotOn options s →
    PathOn options (all_continued options s r)
unfolding all_continued
all_continued-on options s r h = by (is_concrete s.leaf)
  where
    go : (o : Option Taken) → Finds o (TakenOn options) → PathOn options (all_continued_by options s r o)
    go (Some t) on = entered-on options (shut options s) t (then_leaf-on options s.here s.leaf h.0 h.1) (on t refl)
    go None on = leaf_line-on options s r h

    by : (x : Bool) →
        PathOn options (all_continued_by options s r (cond x None (opens options (is_open_text s.leaf) r)))
    by true = go None (none-found (TakenOn options))
    by false = go (opens options (is_open_text s.leaf) r) (opens-on options (is_open_text s.leaf) r)

-- the innermost container
spot-on : (options : ParseOptions) (p : Path) → PathOn options p → SpotOn options (spot p)
spot-on options (At s) h = h
spot-on options (Within before container p) h = spot-on options p h.2

-- another spot in its place
at_spot-on : (options : ParseOptions) (p : Path) (s : Innermost) → PathOn options p → SpotOn options s →
    PathOn options (at_spot p s)
at_spot-on options (At t) s h k = k
at_spot-on options (Within before container p) s h k = (h.0, h.1, at_spot-on options p s h.2 k)

-- a paragraph with a lazy line
lazy-on : (options : ParseOptions) (leaf : Leaf) (r : Rest) →
    Finds (with_lazy options leaf r) (λ l. is_leaf_on options l ≡ true)
lazy-on options (OpenParagraph lines) r = search (unless-found, some-found)
lazy-on options leaf r = none-found (λ l. is_leaf_on options l ≡ true)

-- a container that does not continue
stopped-on : (options : ParseOptions) (before : Blocks) (container : Container) (p : Path) (r : Rest) →
    PathOn options (Within before container p) → PathOn options (stopped options before container p r)
unfolding stopped
stopped-on options before container p r h = go (opens options false r) (opens-on options false r)
  where
    following : Blocks
    following = then_block before (container_block container (closed options p))

    following_on : are_on options following ≡ true
    following_on = closed-on options (Within before container p) h

    lazy : (o : Option Leaf) → Finds o (λ l. is_leaf_on options l ≡ true) →
        PathOn options (lazy_by options before container p r o)
    lazy (Some leaf) on = (
      h.0,
      h.1,
      at_spot-on options p (record { here = (spot p).here; leaf = leaf }) h.2
          ((spot-on options p h.2).0, on leaf refl),
    )
    lazy None on = fresh-on options following r following_on

    go : (o : Option Taken) → Finds o (TakenOn options) → PathOn options (stopped_by options before container p r o)
    go (Some t) on = entered-on options following t following_on (on t refl)
    go None on = lazy (with_lazy options (spot p).leaf r) (lazy-on options (spot p).leaf r)

-- a line
step-on : (options : ParseOptions) (p : Path) (r : Rest) → PathOn options p → PathOn options (step options p r)
step-on options (At s) r h = all_continued-on options s r h
step-on options (Within before container p) r h =
    go (λ s. step-on options p s h.2) (continues options container r) (continues-on options container r h.1)
  where
    go : ((s : Rest) → PathOn options (step options p s)) → (o : Option Taken) → Finds o (TakenOn options) →
        PathOn options (step_by options before container p r o)
    go below (Some t) on = (h.0, on t refl, below t.rest)
    go below None on = stopped-on options before container p r h

-- all lines
steps-on : (options : ParseOptions) (p : Path) (rs : List Rest) → PathOn options p → PathOn options (steps options p rs)
steps-on options p [] h = h
steps-on options p (r ∷ rs) h = steps-on options (step options p r) rs (step-on options p r h)

-- Lists.

-- an item in a list of its own
list-on : (options : ParseOptions) (marker : ℕ) (item : Block) (bs : Blocks) →
    options.constructs.list_item ≡ true → is_on options item ≡ true → are_on options bs ≡ true →
    are_on options (More (ListOf marker (More item End)) bs) ≡ true
list-on options marker item bs on h k = search (and_from)

-- an item before these blocks
item-on : (options : ParseOptions) (marker : ℕ) (item : Block) (bs : Blocks) →
    options.constructs.list_item ≡ true → is_on options item ≡ true → are_on options bs ≡ true →
    are_on options (with_item marker item bs) ≡ true
item-on options marker item (More (ListOf m items) bs) on h k = go (marker == m)
  where
    go : (x : Bool) →
        are_on options
        (cond x (More (ListOf m (More item items)) bs)
        (More (ListOf marker (More item End)) (More (ListOf m items) bs))) ≡
        true
    go true = rw h k
    go false = list-on options marker item (More (ListOf m items) bs) on h k
item-on options marker item bs on h k = list-on options marker item bs on h k

-- a block before these
front-on : (options : ParseOptions) (b : Block) (bs : Blocks) → is_on options b ≡ true → are_on options bs ≡ true →
    are_on options (with_front b bs) ≡ true
front-on options (Item marker digits inner) bs h k =
    item-on options marker (Item marker digits inner) bs
    (first_of_two options.constructs.list_item (are_on options inner) h) h k
front-on options b bs h k = and_from (is_on options b) (are_on options bs) h k

mutual
  grouped_block-on : (options : ParseOptions) (b : Block) → is_on options b ≡ true →
      is_on options (grouped_block b) ≡ true
  grouped_block-on options (Quote kind bs) h =
      let x : Bool = options.constructs.block_quote && is_kind_on options kind in
      let parts = and_parts x (are_on options bs) h in
      and_from x (are_on options (grouped bs)) parts.0 (grouped-on options bs parts.1)
  grouped_block-on options (Item marker digits bs) h =
      let parts = and_parts options.constructs.list_item (are_on options bs) h in
      and_from options.constructs.list_item (are_on options (grouped bs)) parts.0 (grouped-on options bs parts.1)
  grouped_block-on options (Footnote label bs) h =
      let parts = and_parts options.constructs.gfm_footnote_definition (are_on options bs) h in
      and_from options.constructs.gfm_footnote_definition (are_on options (grouped bs)) parts.0
      (grouped-on options bs parts.1)
  grouped_block-on options b h = h

  grouped-on : (options : ParseOptions) (bs : Blocks) → are_on options bs ≡ true → are_on options (grouped bs) ≡ true
  grouped-on options End h = h
  grouped-on options (More b bs) h =
      let parts = and_parts (is_on options b) (are_on options bs) h in
      front-on options (grouped_block b) (grouped bs) (grouped_block-on options b parts.0)
      (grouped-on options bs parts.1)

-- The tree of a text.

-- frontmatter between fences
front_by-on : (options : ParseOptions) (marker : Option ℕ) (lines : List (List ℕ)) →
    options.constructs.frontmatter ≡ true → Finds (front_by marker lines) (λ f. is_on options f.block ≡ true)
front_by-on options None lines h = none-found _
front_by-on options (Some m) lines h = search (when-found, some-found)

-- frontmatter
front_of-on : (options : ParseOptions) (lines : List (List ℕ)) →
    Finds (front_of options lines) (λ f. is_on options f.block ≡ true)
unfolding front_of
front_of-on options [] = none-found _
front_of-on options (line ∷ lines) = search (when-found, front_by-on)

-- A construct that is off occurs nowhere in the tree of a text.
pub tree-on : (options : ParseOptions) (text : List ℕ) → are_on options (tree options text) ≡ true
tree-on options text = go (front_of options lines) (front_of-on options lines)
  where
    lines : List (List ℕ)
    lines = lines_of (without_mark text)

    body : (rs : List Rest) → are_on options (grouped (closed options (steps options (At (spot_of End)) rs))) ≡ true
    body rs =
        let p = steps options (At (spot_of End)) rs in
        grouped-on options (closed options p)
        (closed-on options p (steps-on options (At (spot_of End)) rs (refl, refl)))

    go : (o : Option Front) → Finds o (λ f. is_on options f.block ≡ true) →
        are_on options (tree_by options (preamble_by (first_column text) lines o)) ≡ true
    go None on = body (rests_at (first_column text) lines)
    go (Some f) on = and_from (is_on options f.block) _ (on f refl) (body (rests_at 0 f.after))
