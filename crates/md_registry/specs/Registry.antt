-- The constructs that are built, and their order: the one place of the frame's definitions that names them.
use Rattle.std.specs.Prelude.{◌≡◌, refl, Bool, ℕ, suc, ◌+◌, ◌*◌, nat_lt, true, ◌==◌, if◌then◌else◌, ◌||◌, List, [], ◌∷◌}
use Rattle.std.specs.Prelude.{length, Option, Some, None, false, not}
use Rattle.md_engine.specs.declared.tokenizer.held_leaf.HeldLeaf.{HeldLeaf}
use Rattle.std.specs.Option.{option_or}
use Rattle.md_engine.specs.declared.configuration.ParseOptions.{ParseOptions}
use Rattle.md_engine.specs.declared.event.Point.{Point}
use Rattle.md_engine.specs.declared.state.Name.{Name as StateName}
use Rattle.md_engine.specs.declared.state.Name.TheVariants as s
use Rattle.md_engine.specs.declared.state.document.State.{State as DocumentState}
use Rattle.md_engine.specs.declared.state.document.State.TheVariants as document
use Rattle.md_engine.specs.declared.state.flow.State.{State as FlowState}
use Rattle.md_engine.specs.declared.state.flow.State.TheVariants as flow
use Rattle.md_engine.specs.declared.state.State.TheVariants.{Nok}
use Rattle.md_engine.specs.declared.tokenizer.container.Container.{Container as Held}
use Rattle.md_engine.specs.declared.tokenizer.container.name.ContainerKind.{ContainerKind}
use Rattle.md_engine.specs.declared.tokenizer.container.name.ContainerKind.TheVariants as kind
use Rattle.md_engine.specs.Meaning.{Behaviour, Cell, Here, Outcome, Refuses}
use Rattle.md_engine.specs.Scheme.{Rank, Scheme, nowhere, ranked}
use Rattle.md_engine.specs.World.{World}
use Rattle.md_containers.specs.Footnote.{footnote_scheme, footnote_transition}
use Rattle.md_containers.specs.FootnoteRule.{footnote_behaves}
use Rattle.md_containers.specs.Item.{item_scheme, item_transition}
use Rattle.md_containers.specs.ItemRule.{item_behaves}
use Rattle.md_containers.specs.Quote.{quote_scheme, quote_transition}
use Rattle.md_containers.specs.QuoteRule.{quote_behaves}
use Rattle.md_leaves.specs.Break.{break_scheme, break_transition}
use Rattle.md_leaves.specs.BreakRule.{break_behaves}
use Rattle.md_leaves.specs.Heading.{heading_scheme, heading_transition}
use Rattle.md_leaves.specs.HeadingRule.{heading_behaves}
use Rattle.md_leaves.specs.HeadingSetext.{setext_scheme, setext_transition}
use Rattle.md_leaves.specs.HeadingSetextRule.{setext_behaves}
use Rattle.md_meaning.specs.Ascii.{asterisk, backtick, dollar, equals_sign, hash, hyphen, less_than, tilde, underscore}
use Rattle.md_meaning.specs.State.{Container}
use Rattle.md_literal.specs.Code.{code_scheme, code_transition}
use Rattle.md_literal.specs.CodeRule.{code_behaves}
use Rattle.md_literal.specs.Fence.{fence_scheme, fence_transition, is_open as is_fence}
use Rattle.md_literal.specs.FenceRule.{fence_behaves}
use Rattle.md_literal.specs.Html.{html_scheme, html_transition, is_html}
use Rattle.md_literal.specs.HtmlRule.{html_behaves}
use Rattle.md_events.specs.Transition.{Transition}
use Rattle.md_tables.specs.GfmTable.{table_scheme, table_transition}
use Rattle.md_tables.specs.GfmTableRule.{table_behaves}
use Rattle.proof_frame.specs.ContainerRules.{ContainerRules}
use Rattle.proof_container_laws.specs.Containers.BlockQuote.{quote_rules}
use Rattle.proof_container_laws.specs.Containers.GfmFootnoteDefinition.{footnote_rules}
use Rattle.proof_container_laws.specs.Containers.ListItem.{item_rules}
use Rattle.proof_literal_laws.specs.Leaf.CodeIndented.{code_further, code_leaf, is_code}
use Rattle.proof_literal_laws.specs.Leaf.Fence.{fence_leaf}
use Rattle.proof_literal_laws.specs.Leaf.FenceFurther.{fence_further}
use Rattle.proof_leaf_laws.specs.Leaf.GfmTable.{table_leaf}
use Rattle.proof_leaf_laws.specs.Leaf.HeadingAtx.{heading_leaf}
use Rattle.proof_leaf_laws.specs.Leaf.HeadingSetext.{setext_leaf, setext_turn}
use Rattle.proof_literal_laws.specs.Leaf.HtmlFlow.{html_further, html_leaf}
use Rattle.proof_leaf_laws.specs.Leaf.ThematicBreak.{break_leaf}
use Rattle.proof_frame.specs.LineLeaf.{LineLeaf}
use Rattle.proof_frame.specs.Passed.{Passed}
use Rattle.proof_frame.specs.TurnLeaf.{TurnLeaf}
use Rattle.proof_frame.specs.LeafName.{CodeFurther, CodeIndented, Fence, FenceFurther, GfmTable, HeadingAtx}
use Rattle.proof_frame.specs.LeafName.{HeadingSetext, HtmlFlow, HtmlFurther, LeafName, ThematicBreak, after_in, number}
use Rattle.proof_frame.specs.ContainerNames.{IsOf, container_kind, kind_number}
use Rattle.std.specs.List.{list_any}
use Rattle.md_meaning.specs.Leaves.{ParagraphContext, break_at, code_at, fence_at, heading_at, html_at, underline_depth}
use Rattle.md_meaning.specs.Rest.{Rest}

-- Leaves that take a line: of indented code, of fenced code and math, and of HTML, one takes the first line, and one
-- each further line. The underline of a setext heading takes a line that turns the text before it; one more leaf takes
-- the delimiter row of a table, which makes the line of text before it a head, and the rows of its body.

abbrev pub leaf : LeafName → LineLeaf
leaf CodeIndented = code_leaf
leaf CodeFurther = code_further
leaf Fence = fence_leaf
leaf FenceFurther = fence_further
leaf HtmlFlow = html_leaf
leaf HtmlFurther = html_further
leaf HeadingAtx = heading_leaf
leaf HeadingSetext = setext_leaf
leaf ThematicBreak = break_leaf
leaf GfmTable = table_leaf

-- the order in which they are tried, after blank lines and before content
abbrev pub trials : List LeafName
trials = CodeIndented ∷ Fence ∷ HtmlFlow ∷ HeadingAtx ∷ HeadingSetext ∷ ThematicBreak ∷ GfmTable ∷ []

-- The row of a byte that is neither whitespace nor an ending: the leaves that are tried, in order, where it comes first
-- on the rest of a line, and after them content. Where whitespace comes first all of them are tried.
unfoldable pub row : ℕ → List LeafName
row b =
    if b == hash then HeadingAtx ∷ GfmTable ∷ []
    else if b == dollar || b == backtick || b == tilde then Fence ∷ GfmTable ∷ []
    else if b == asterisk || b == underscore then ThematicBreak ∷ GfmTable ∷ []
    else if b == hyphen then HeadingSetext ∷ ThematicBreak ∷ GfmTable ∷ []
    else if b == equals_sign then HeadingSetext ∷ GfmTable ∷ []
    else if b == less_than then HtmlFlow ∷ GfmTable ∷ []
    else GfmTable ∷ []

-- whether the row of a byte has no leaf but the table
abbrev pub is_common : ℕ → Bool
is_common b =
    not
    (b == hash || b == dollar || b == backtick || b == tilde || b == asterisk || b == underscore || b == hyphen
    || b == equals_sign || b == less_than)

-- The leaf that is asked, before blank lines and all others, whether a line continues the one that it meets.
unfoldable pub asked_first : HeldLeaf → Option LeafName
asked_first on =
    if is_fence on then Some FenceFurther
    else if is_html on then Some HtmlFurther
    else if is_code on then Some CodeFurther
    else None

-- Whether no container opens in this leaf, where all containers continued: in fences, math and HTML none does.
unfoldable pub bars_containers : HeldLeaf → Bool
bars_containers on = is_fence on || is_html on

-- the one that takes the further lines of a leaf whose first line this takes
abbrev pub further_of : LeafName → LeafName
further_of CodeIndented = CodeFurther
further_of Fence = FenceFurther
further_of HtmlFlow = HtmlFurther
further_of l = l

-- the leaf that is tried at a state of flow; at no other is one
abbrev pub tried_at : FlowState → Option LeafName
tried_at flow.BeforeCodeIndented = Some CodeIndented
tried_at flow.BeforeRaw = Some Fence
tried_at flow.BeforeHtml = Some HtmlFlow
tried_at flow.BeforeHeadingAtx = Some HeadingAtx
tried_at flow.BeforeHeadingSetext = Some HeadingSetext
tried_at flow.BeforeThematicBreak = Some ThematicBreak
tried_at flow.BeforeGfmTable = Some GfmTable
tried_at _ = None

abbrev pub following : LeafName → List LeafName
following l = after_in (number l) trials

-- the state before the first of these, and before content where none is left
abbrev pub front_of : List LeafName → FlowState
front_of [] = flow.BeforeContent
front_of (l ∷ ls) = (leaf l).before

abbrev pub next_of : LeafName → FlowState
next_of l = front_of (following l)

-- how far it is from the next byte: by how many are tried after it
abbrev pub weight : LeafName → ℕ
weight l = 6 + 2 * length (following l)

abbrev pub low_weight : (l : LeafName) → (nat_lt (weight l) 64 ≡ true) × (nat_lt (suc (weight l)) 64 ≡ true)
low_weight CodeIndented = (refl, refl)
low_weight _ = (refl, refl)

abbrev pub rank_of : LeafName → Rank
rank_of l = ranked (weight l) (low_weight l).0

abbrev pub tries_of : LeafName → Rank
tries_of l = ranked (suc (weight l)) (low_weight l).1

-- What a line turns lines of text into.
abbrev pub turn_leaf : TurnLeaf
turn_leaf = setext_turn

-- Containers that are built, by the kind as which the tokenizer holds them.

abbrev pub container_rules : ContainerKind → ContainerRules
container_rules kind.BlockQuote = quote_rules
container_rules kind.ListItem = item_rules
container_rules kind.GfmFootnoteDefinition = footnote_rules

-- the order in which they are tried where one may open
abbrev pub openers : List ContainerKind
openers = kind.BlockQuote ∷ kind.ListItem ∷ kind.GfmFootnoteDefinition ∷ []

-- the one that is tried at a state of the document; at no other is one
abbrev pub opener_at : DocumentState → Option ContainerKind
opener_at document.ContainerNewBefore = Some kind.BlockQuote
opener_at document.ContainerNewBeforeNotBlockQuote = Some kind.ListItem
opener_at document.ContainerNewBeforeNotList = Some kind.GfmFootnoteDefinition
opener_at _ = None

-- those that are tried after one, where it does not open
abbrev pub openers_from : ℕ → List ContainerKind → List ContainerKind
openers_from n [] = []
openers_from n (k ∷ ks) = if kind_number k == n then ks else openers_from n ks

abbrev pub openers_after : ContainerKind → List ContainerKind
openers_after k = openers_from (kind_number k) openers

-- the state before the first of these, and after all containers where none is left
abbrev pub opener_front : List ContainerKind → DocumentState
opener_front [] = document.ContainersAfter
opener_front (k ∷ ks) = (container_rules k).before

abbrev pub next_opener : ContainerKind → DocumentState
next_opener k = opener_front (openers_after k)

-- how far it is from the next byte: by how many are tried after it, and by the leaves
abbrev pub opener_weight : ContainerKind → ℕ
opener_weight k = 12 + 2 * length trials + 2 * length (openers_after k)

abbrev pub low_opener : (k : ContainerKind) →
    (nat_lt (opener_weight k) 64 ≡ true) × (nat_lt (suc (opener_weight k)) 64 ≡ true)
low_opener kind.BlockQuote = (refl, refl)
low_opener kind.ListItem = (refl, refl)
low_opener kind.GfmFootnoteDefinition = (refl, refl)

abbrev pub opener_rank : Option ContainerKind → Rank
opener_rank None = ranked 0 refl
opener_rank (Some k) = ranked (opener_weight k) (low_opener k).0

abbrev pub opener_tries : Option ContainerKind → Rank
opener_tries None = ranked 2 refl
opener_tries (Some k) = ranked (suc (opener_weight k)) (low_opener k).1

-- A container that the tokenizer holds is this one: it is of its kind, and holds what the events do not show.
abbrev pub MatchesContainer : Held → Container → Type 0
MatchesContainer held c = IsOf held.kind c × (container_rules held.kind).holds held c

-- the first state of one that may open, and what is left there,
abbrev pub opens_with : ContainerKind → StateName
opens_with k = (container_rules k).start

abbrev pub begins_at : ParseOptions → ContainerKind → List Cell → Here → Outcome
begins_at options k cells h = (container_rules k).begins options cells h

-- and the same of the state before the prefix of one on a further line
abbrev pub continues_with : ContainerKind → StateName
continues_with k = (container_rules k).further

abbrev pub continues_at : ParseOptions → ContainerKind → List Cell → Here → Outcome
continues_at options k cells h = (container_rules k).continues options cells h

-- what may be first after whitespace where one opens, and where the prefix of one on a further line begins
abbrev pub may_open : ContainerKind → ℕ → Bool
may_open k b = (container_rules k).may_open b

abbrev pub may_continue : ContainerKind → ℕ → Bool
may_continue k b = (container_rules k).may_continue b

-- by the cells of a line, the container that opens, if one does: the first of these
abbrev pub opens_by : ParseOptions → Bool → List Cell → Point → List ContainerKind → Option Passed
opens_by options interrupting cells p [] = None
opens_by options interrupting cells p (k ∷ ks) =
    option_or ((container_rules k).opens options interrupting cells p) (opens_by options interrupting cells p ks)

abbrev pub opens_at : ParseOptions → Bool → List Cell → Point → Option Passed
opens_at options interrupting cells p = opens_by options interrupting cells p openers

-- and an open one, if it continues
abbrev pub continues_by : ParseOptions → Container → List Cell → Point → Option ContainerKind → Option Passed
continues_by options c cells p None = None
continues_by options c cells p (Some k) = (container_rules k).proceeds options c cells p

abbrev pub proceeds_at : ParseOptions → Container → List Cell → Point → Option Passed
proceeds_at options c cells p = continues_by options c cells p (container_kind c)

-- whether an open one, which is held so, continues where the line ends
abbrev pub continues_over : Held → Bool
continues_over held = (container_rules held.kind).over_empty held

-- States: which construct has each, what each does, and what is left at it, where this is the text.

abbrev pub construct_owner : StateName → Scheme
construct_owner (s.BlockQuote state) = quote_scheme
construct_owner (s.CodeIndented state) = code_scheme
construct_owner (s.GfmFootnoteDefinition state) = footnote_scheme
construct_owner (s.GfmTable state) = table_scheme
construct_owner (s.HeadingAtx state) = heading_scheme
construct_owner (s.HeadingSetext state) = setext_scheme
construct_owner (s.HtmlFlow state) = html_scheme
construct_owner (s.ListItem state) = item_scheme
construct_owner (s.RawFlow state) = fence_scheme
construct_owner (s.ThematicBreak state) = break_scheme
construct_owner _ = nowhere

abbrev pub construct_transition : StateName → World → Transition
construct_transition (s.BlockQuote state) w = quote_transition state w
construct_transition (s.CodeIndented state) w = code_transition state w
construct_transition (s.GfmFootnoteDefinition state) w = footnote_transition state w
construct_transition (s.GfmTable state) w = table_transition state w
construct_transition (s.HeadingAtx state) w = heading_transition state w
construct_transition (s.HeadingSetext state) w = setext_transition state w
construct_transition (s.HtmlFlow state) w = html_transition state w
construct_transition (s.ListItem state) w = item_transition state w
construct_transition (s.RawFlow state) w = fence_transition state w
construct_transition (s.ThematicBreak state) w = break_transition state w
construct_transition _ w = record { to = Nok; world = w }

abbrev pub construct_behaves : List ℕ → ParseOptions → Behaviour
construct_behaves bytes options (s.BlockQuote state) cells h = quote_behaves options state cells h
construct_behaves bytes options (s.CodeIndented state) cells h = code_behaves options state cells h
construct_behaves bytes options (s.GfmFootnoteDefinition state) cells h = footnote_behaves options state cells h
construct_behaves bytes options (s.GfmTable state) cells h = table_behaves options state cells h
construct_behaves bytes options (s.HeadingAtx state) cells h = heading_behaves bytes options state cells h
construct_behaves bytes options (s.HeadingSetext state) cells h = setext_behaves options state cells h
construct_behaves bytes options (s.HtmlFlow state) cells h = html_behaves bytes options state cells h
construct_behaves bytes options (s.ListItem state) cells h = item_behaves options state cells h
construct_behaves bytes options (s.RawFlow state) cells h = fence_behaves options state cells h
construct_behaves bytes options (s.ThematicBreak state) cells h = break_behaves options state cells h
construct_behaves bytes options _ cells h = Refuses h.scratch h.flags

-- The dispatch law: no rule of the line definition outside of the row of the first byte accepts the rest of a line, the
-- paragraph and the table apart. The table is in each row. Where nothing is left of a line, none of them does.

-- whether the row of a byte has this leaf
abbrev pub in_row : LeafName → ℕ → Bool
in_row l b = list_any (λ k. number k == number l) (row b)

-- a rest that begins with this byte at a column, without a virtual space in front
abbrev pub begun : ℕ → ℕ → List ℕ → Rest
begun column b bytes = record { column = column; spaces = 0; bytes = b ∷ bytes }

pub record IsOutsideRow (options : ParseOptions) (column b : ℕ) (bytes : List ℕ) : Type 0 where
  pub code : (against : ParagraphContext) → code_at options against (begun column b bytes) ≡ None
  pub fence : in_row Fence b ≡ false → fence_at options (begun column b bytes) ≡ None
  pub html : in_row HtmlFlow b ≡ false → (against : ParagraphContext) →
      html_at options against (begun column b bytes) ≡ None
  pub heading : in_row HeadingAtx b ≡ false → heading_at options (begun column b bytes) ≡ None
  pub break : in_row ThematicBreak b ≡ false → break_at options (begun column b bytes) ≡ None
  pub underline : in_row HeadingSetext b ≡ false → underline_depth options (begun column b bytes) ≡ None

-- nothing is left of a line, at a column
abbrev pub ended : ℕ → Rest
ended column = record { column = column; spaces = 0; bytes = [] }

pub record IsOutsideEnd (options : ParseOptions) (column : ℕ) : Type 0 where
  pub code : (against : ParagraphContext) → code_at options against (ended column) ≡ None
  pub fence : fence_at options (ended column) ≡ None
  pub html : (against : ParagraphContext) → html_at options against (ended column) ≡ None
  pub heading : heading_at options (ended column) ≡ None
  pub break : break_at options (ended column) ≡ None
  pub underline : underline_depth options (ended column) ≡ None
