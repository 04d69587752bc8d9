-- The laws of the constructs that are built, and their states. With `Dispatch` and `SpanLeaves` this is the only place
-- in the proofs of the frame that names them.
use Rattle.std.proofs.Common.{◌≡◌, Bool, true, false, cond, List, [], ◌∷◌, ◌++◌, refl, ap, ◌<◌, ◌∙◌, ℕ, arith}
use Rattle.md_engine.specs.declared.tokenizer.held_leaf.HeldLeaf.TheVariants as held_leaf
use Rattle.md_registry.specs.Registry.{asked_first, bars_containers, container_rules, leaf, openers, trials, tried_at}
use Rattle.md_registry.specs.Registry.{following, construct_owner, construct_transition, opener_at, openers_after}
use Rattle.md_engine.specs.declared.tokenizer.held_leaf.HeldLeaf.{HeldLeaf}
use Rattle.std.specs.Option.{option_or}
use Rattle.std.specs.Prelude.{Option, Some, None}
use Rattle.md_engine.specs.declared.configuration.ParseOptions.{ParseOptions}
use Rattle.md_engine.specs.declared.event.Event.{Event}
use Rattle.md_engine.specs.declared.event.Name.{Name}
use Rattle.md_engine.specs.declared.state.flow.State.{State as FlowState}
use Rattle.md_engine.specs.declared.state.flow.State.TheVariants as flow
use Rattle.md_engine.specs.declared.tokenizer.container.name.ContainerKind.{ContainerKind}
use Rattle.md_engine.specs.declared.tokenizer.container.name.ContainerKind.TheVariants as kind
use Rattle.md_meaning.specs.Containers.{Taken, opens, opens_footnote, opens_item, opens_quote}
use Rattle.md_meaning.specs.Rest.{Rest}
use Rattle.proof_frame.specs.HeldLeaf.{has_lines}
use Rattle.proof_literal_laws.specs.Leaf.CodeIndented.{is_code}
use Rattle.md_literal.specs.Fence.{is_open as is_fence}
use Rattle.proof_frame.specs.LeafName.{CodeFurther, CodeIndented, Fence, FenceFurther, HeadingAtx, HeadingSetext}
use Rattle.proof_frame.specs.LeafName.{GfmTable, HtmlFlow, HtmlFurther, LeafName, ThematicBreak}
use Rattle.md_registry.specs.Resolving.{resolved}
use Rattle.proof_frame.proofs.EventNames.{is_own, is_front}
use Rattle.proof_frame.specs.TextLines.{text_leaf}
use Rattle.proof_container_laws.proofs.BlockQuote.Laws.{quote-laws}
use Rattle.md_registry.proofs.BlockQuote.Plain.{quote-plain}
use Rattle.proof_frame.proofs.ContainerLaws.{ContainerLaws}
use Rattle.proof_literal_laws.proofs.CodeIndented.Laws.{code-laws, code_further-laws}
use Rattle.proof_literal_laws.proofs.Fence.Laws.{fence-laws}
use Rattle.proof_literal_laws.proofs.FenceFurther.Laws.{fence_further-laws}
use Rattle.proof_container_laws.proofs.GfmFootnoteDefinition.Laws.{footnote-laws}
use Rattle.md_registry.proofs.GfmFootnoteDefinition.Plain.{footnote-plain}
use Rattle.proof_leaf_laws.proofs.GfmTable.Laws.{table-laws}
use Rattle.proof_literal_laws.proofs.HtmlFlow.Laws.{html-laws, html_further-laws}
use Rattle.md_literal.specs.Html.{is_html}
use Rattle.proof_leaf_laws.proofs.HeadingAtx.Laws.{heading-laws}
use Rattle.proof_leaf_laws.proofs.HeadingAtx.Outside.{front-heading, heading_resolver}
use Rattle.proof_leaf_laws.proofs.HeadingSetext.Laws.{setext-laws}
use Rattle.proof_frame.proofs.LeafLaws.{LeafLaws}
use Rattle.proof_container_laws.proofs.ListItem.Laws.{item-laws}
use Rattle.md_registry.proofs.ListItem.Plain.{item-plain}
use Rattle.proof_frame.proofs.OutsideFacts.{AreOutside}
use Rattle.proof_content_laws.proofs.Paragraph.Laws.{paragraph-laws}
use Rattle.md_registry.proofs.PlainLaws.{PlainLaws}
use Rattle.proof_frame.proofs.TextLaws.{TextLaws}
use Rattle.proof_frame.proofs.BareLine.{BareLine}
use Rattle.proof_leaf_laws.proofs.ThematicBreak.Laws.{break-bare, break-laws}
use Rattle.md_outline.specs.HeadingDepths.{is_shallow}
use Rattle.proof_leaf_laws.proofs.HeadingAtx.Found.{heading-shallow}
use Rattle.md_engine.specs.declared.state.Name.{Name as StateName}
use Rattle.md_engine.specs.declared.state.Name.TheVariants as n
use Rattle.md_engine.specs.declared.state.document.State.{State as DocumentState}
use Rattle.md_engine.specs.declared.state.document.State.TheVariants as document
use Rattle.md_engine.specs.declared.state.State.TheVariants.{Next}
use Rattle.md_engine.specs.Meaning.{Cell, Feed, Here, Steps}
use Rattle.md_engine.specs.Scheme.{After, EndsLater, Position, after_all, position}
use Rattle.md_engine.specs.World.{World, looks}
use Rattle.md_engine.proofs.Local.{fits}
use Rattle.md_engine.specs.Sees.{Sees}
use Rattle.proof_container_laws.specs.Containers.BlockQuote.{quote_rules}
use Rattle.proof_container_laws.specs.Containers.GfmFootnoteDefinition.{footnote_rules}
use Rattle.proof_container_laws.specs.Containers.ListItem.{item_rules}
use Rattle.md_containers.proofs.FootnoteTermination.{FootnoteFits, footnote_terminates}
use Rattle.md_containers.proofs.FootnoteMeaning.{footnote_means}
use Rattle.md_containers.proofs.ItemTermination.{ItemFits, item_terminates}
use Rattle.md_containers.proofs.ItemMeaning.{item_means}
use Rattle.md_containers.proofs.QuoteTermination.{QuoteFits, quote_terminates}
use Rattle.md_containers.proofs.QuoteMeaning.{quote_means}
use Rattle.md_leaves.proofs.BlankTermination.{BlankFits}
use Rattle.md_leaves.proofs.BreakTermination.{BreakFits, break_terminates}
use Rattle.md_leaves.proofs.BreakMeaning.{break_means}
use Rattle.md_leaves.proofs.HeadingTermination.{HeadingFits, heading_terminates}
use Rattle.md_leaves.proofs.HeadingMeaning.{heading_means}
use Rattle.md_leaves.proofs.SetextTermination.{SetextFits, setext_terminates}
use Rattle.md_leaves.proofs.SetextMeaning.{setext_means}
use Rattle.md_events.specs.Ahead.{HasWhite}
use Rattle.md_events.specs.Spaces.{IsRest, rest_ready}
use Rattle.md_literal.proofs.CodeTermination.{CodeFits, code_terminates}
use Rattle.md_literal.proofs.CodeMeaning.{code_means}
use Rattle.md_literal.proofs.FenceTermination.{FenceFits, fence_terminates}
use Rattle.md_literal.proofs.FenceMeaning.{fence_means}
use Rattle.md_events.proofs.SpacesTermination.{Does, WhiteFits}
use Rattle.proof_frame.specs.Rule.{Rule}
use Rattle.md_registry.specs.States.{flow_behaves_by, flow_owner, flow_table_scheme}
use Rattle.md_registry.proofs.Termination.{Anywhere, ContainerFits, IsWithin}
use Rattle.md_tables.proofs.GfmTableTermination.{TableFits, table_terminates}
use Rattle.md_tables.proofs.GfmTableMeaning.{table_means}
use Rattle.md_literal.proofs.HtmlTermination.{HtmlFits, html_terminates}
use Rattle.md_literal.proofs.HtmlMeaning.{html_means}

-- Leaves.

pub laws : (l : LeafName) → LeafLaws heading_resolver (leaf l)
laws CodeIndented = code-laws heading_resolver
laws CodeFurther = code_further-laws heading_resolver
laws Fence = fence-laws heading_resolver
laws FenceFurther = fence_further-laws heading_resolver
laws HtmlFlow = html-laws heading_resolver
laws HtmlFurther = html_further-laws heading_resolver
laws HeadingAtx = heading-laws
laws HeadingSetext = setext-laws heading_resolver
laws ThematicBreak = break-laws heading_resolver
laws GfmTable = table-laws heading_resolver

-- A leaf that always ends on its line is an ATX heading, or one of which nothing is known but its word.
pub data EndsOnLine : LeafName → Type 0 where
  IsHeading : EndsOnLine HeadingAtx
  IsBare : (l : LeafName) → BareLine (leaf l) → EndsOnLine l

pub ends-on_line : (l : LeafName) → (leaf l).ends ≡ true → EndsOnLine l
ends-on_line HeadingAtx ends = IsHeading
ends-on_line ThematicBreak ends = IsBare ThematicBreak break-bare
ends-on_line _ ends = absurd (cc)

-- An outline can show the block of a leaf that always ends on its line.
pub block-shallow : (l : LeafName) → (leaf l).ends ≡ true → (options : ParseOptions) (on : HeldLeaf) (r : Rest) →
    (leaf l).starts options on r ≡ true → is_shallow ((leaf l).block r) ≡ true
block-shallow HeadingAtx ends options on r starts = heading-shallow options r starts
block-shallow ThematicBreak ends options on r starts = refl
block-shallow _ ends options on r starts = absurd (cc)

-- A leaf that is tried after others is asked whichever leaf is open.

abbrev pub AreAsked : List LeafName → Type 0
AreAsked [] = Unit {0}
AreAsked (l ∷ ls) = ((on : HeldLeaf) → (leaf l).asked on ≡ true) × AreAsked ls

pub trials-asked : AreAsked trials
trials-asked = (
  λ on. refl,
  (λ on. refl, (λ on. refl, (λ on. refl, (λ on. refl, (λ on. refl, (λ on. refl, tt)))))),
)

pub trial-asked : (state : FlowState) (l : LeafName) → tried_at state ≡ Some l → (on : HeldLeaf) →
    (leaf l).asked on ≡ true
trial-asked flow.BeforeCodeIndented CodeIndented e on = refl
trial-asked flow.BeforeRaw Fence e on = refl
trial-asked flow.BeforeHtml HtmlFlow e on = refl
trial-asked flow.BeforeHeadingAtx HeadingAtx e on = refl
trial-asked flow.BeforeHeadingSetext HeadingSetext e on = refl
trial-asked flow.BeforeThematicBreak ThematicBreak e on = refl
trial-asked flow.BeforeGfmTable GfmTable e on = refl
trial-asked _ _ e on = cc

-- The leaf that is asked first.

-- none is asked first where no leaf of several lines is open
pub insider-none : (on : HeldLeaf) → has_lines on ≡ false → asked_first on ≡ None
unfolding asked_first
insider-none held_leaf.None e = refl
insider-none _ e = cc

-- and no container is barred there
pub bars_containers-none : (on : HeldLeaf) → has_lines on ≡ false → bars_containers on ≡ false
unfolding bars_containers
bars_containers-none held_leaf.None e = refl
bars_containers-none _ e = cc

-- A leaf that is asked first may have several lines, is asked of the leaf that is open, and takes a further line of
-- it.
record IsInsider (on : HeldLeaf) (l : LeafName) : Type 0 where
  ends : (leaf l).ends ≡ false
  asked : (leaf l).asked on ≡ true
  further : (leaf l).further on ≡ true

insider-is : (on : HeldLeaf) (l : LeafName) → asked_first on ≡ Some l → IsInsider on l
unfolding asked_first
insider-is on l e = go (is_fence on) (is_html on) (is_code on) refl refl refl l e
  where
    go : (x y z : Bool) → is_fence on ≡ x → is_html on ≡ y → is_code on ≡ z → (l : LeafName) →
        cond x (Some FenceFurther) (cond y (Some HtmlFurther) (cond z (Some CodeFurther) None)) ≡ Some l →
        IsInsider on l
    go true y z f h k FenceFurther e = record { ends = refl; asked = f; further = f }
    go false true z f h k HtmlFurther e = record { ends = refl; asked = h; further = h }
    go false false true f h k CodeFurther e = record { ends = refl; asked = k; further = k }
    go _ _ _ f h k _ e = absurd (cc)

pub insider-open : (on : HeldLeaf) (l : LeafName) → asked_first on ≡ Some l → (leaf l).ends ≡ false
insider-open on l e = (insider-is on l e).ends

pub insider-asked : (on : HeldLeaf) (l : LeafName) → asked_first on ≡ Some l → (leaf l).asked on ≡ true
insider-asked on l e = (insider-is on l e).asked

-- Lines of text.

pub text-laws : TextLaws text_leaf
text-laws = paragraph-laws

-- Resolvers.

-- it passes events in which no event of its own begins
pub outside-passes : (xs ys : List Event) → AreOutside xs → resolved (xs ++ ys) ≡ xs ++ resolved ys
outside-passes xs ys h = heading_resolver.passes xs ys h

-- no such event is among the prefixes of a line
pub front-own : (name : Name) → is_front name ≡ true → is_own name ≡ false
front-own name h = front-heading name h

-- Containers.

pub container-laws : (k : ContainerKind) → ContainerLaws k (container_rules k)
container-laws kind.BlockQuote = quote-laws
container-laws kind.ListItem = item-laws
container-laws kind.GfmFootnoteDefinition = footnote-laws

pub plain-laws : (k : ContainerKind) → PlainLaws (container_rules k)
plain-laws kind.BlockQuote = quote-plain
plain-laws kind.ListItem = item-plain
plain-laws kind.GfmFootnoteDefinition = footnote-plain

-- The line definition opens what the first of these kinds finds.

abbrev pub found_by : ParseOptions → Bool → Rest → List ContainerKind → Option Taken
found_by options interrupting r [] = None
found_by options interrupting r (k ∷ ks) =
    option_or ((container_rules k).found options interrupting r) (found_by options interrupting r ks)

or-none : (o : Option Taken) → o ≡ option_or o None
or-none None = refl
or-none (Some t) = refl

pub opens-found : (options : ParseOptions) (interrupting : Bool) (r : Rest) →
    opens options interrupting r ≡ found_by options interrupting r openers
opens-found options interrupting r =
    ap (λ (o : Option Taken). option_or (opens_quote options r) (option_or (opens_item options interrupting r) o))
    (or-none (opens_footnote options r))

-- States, in the table of flow: where each leaf and container is tried, and that each state ends and means its rule.

-- a leaf is tried only at the state before it
pub tried-before : (state : FlowState) (l : LeafName) → tried_at state ≡ Some l → (leaf l).before ≡ state
tried-before flow.BeforeCodeIndented CodeIndented e = refl
tried-before flow.BeforeRaw Fence e = refl
tried-before flow.BeforeHtml HtmlFlow e = refl
tried-before flow.BeforeHeadingAtx HeadingAtx e = refl
tried-before flow.BeforeHeadingSetext HeadingSetext e = refl
tried-before flow.BeforeThematicBreak ThematicBreak e = refl
tried-before flow.BeforeGfmTable GfmTable e = refl
tried-before _ _ e = cc

-- whether a leaf is tried at the state before it: one that only takes further lines is not
abbrev pub HasTrial : LeafName → Type 0
HasTrial l = tried_at (leaf l).before ≡ Some l

pub is-tried : (state : FlowState) (l : LeafName) → tried_at state ≡ Some l → HasTrial l
is-tried state l e = ap tried_at (tried-before state l e) ∙ e

-- the first of these leaves is tried, and the others are those that are tried after it
abbrev pub NextIs : List LeafName → Type 0
NextIs [] = Unit {0}
NextIs (m ∷ ms) = HasTrial m × (following m ≡ ms)

pub leaf-next : (l : LeafName) → HasTrial l → NextIs (following l)
leaf-next CodeFurther is = absurd (cc)
leaf-next FenceFurther is = absurd (cc)
leaf-next HtmlFurther is = absurd (cc)
leaf-next GfmTable is = tt
leaf-next _ is = (refl, refl)

-- what the table has of a leaf: its first state is ready at rest, and of a lower level than flow; and what is left
-- there is the trial of the leaf, whatever the text is
pub record LeafStates (l : LeafName) : Type 1 where
  pub level : (flow_owner (leaf l).start).level (leaf l).start < 3
  pub ready : (x : Position) (K : After) → rest_ready x K → (flow_owner (leaf l).start).ready (leaf l).start x K
  pub starts : (bytes : List ℕ) (options : ParseOptions) (next : Rule) (cells : List Cell) (h : Here) →
      flow_behaves_by bytes options next (leaf l).start cells h ≡ (leaf l).trial options cells h

pub leaf-states : (l : LeafName) → LeafStates l
leaf-states CodeIndented =
    record { level = omega arith; ready = λ x K is. is; starts = λ bytes options next cells h. refl }
leaf-states _ = record { level = omega arith; ready = λ x K is. is; starts = λ bytes options next cells h. refl }

-- a container is tried only at the state before it
pub opener-before : (state : DocumentState) (k : ContainerKind) → opener_at state ≡ Some k →
    (container_rules k).before ≡ state
opener-before document.ContainerNewBefore kind.BlockQuote e = refl
opener-before document.ContainerNewBeforeNotBlockQuote kind.ListItem e = refl
opener-before document.ContainerNewBeforeNotList kind.GfmFootnoteDefinition e = refl
opener-before _ _ e = cc

-- the other kinds are those that are tried after the first
abbrev pub NextOpener : List ContainerKind → Type 0
NextOpener [] = Unit {0}
NextOpener (k ∷ ks) = openers_after k ≡ ks

-- what the table has of a container: its states have their place in it, and what is left at them is what the
-- container says
pub record ContainerStates (k : ContainerKind) : Type 1 where
  -- which is tried next
  pub next : NextOpener (openers_after k)
  pub begins : ContainerFits flow_table_scheme Anywhere (container_rules k).start
  pub begins_is : (bytes : List ℕ) (options : ParseOptions) (next : Rule) (cells : List Cell) (h : Here) →
      flow_behaves_by bytes options next (container_rules k).start cells h ≡ (container_rules k).begins options cells h
  pub is_continued : ContainerFits flow_table_scheme IsWithin (container_rules k).further
  pub continued_is : (bytes : List ℕ) (options : ParseOptions) (next : Rule) (cells : List Cell) (h : Here) →
      flow_behaves_by bytes options next (container_rules k).further cells h ≡
      (container_rules k).continues options cells h

-- a state of one is in it as its construct has it
placed : (Where : Position → Type 0) (start : StateName) → (flow_owner start).level start < 3 →
    ((x : Position) (K : After) → IsRest x.scratch → Where x → EndsLater IsRest IsRest x K →
    (flow_owner start).ready start x K) →
    ContainerFits flow_table_scheme Where start
placed Where start level ready =
    record { own = flow_owner start; starts = fits flow_owner start; level = level; ready = ready }

pub container-states : (k : ContainerKind) → ContainerStates k
container-states kind.BlockQuote = record {
  next = refl;
  begins = placed Anywhere quote_rules.start (omega arith) (λ x K rest here ends. (rest, ends));
  begins_is = λ bytes options next cells h. refl;
  is_continued = placed IsWithin quote_rules.further (omega arith) (λ x K rest here ends. (rest, ends));
  continued_is = λ bytes options next cells h. refl;
}
container-states kind.ListItem = record {
  next = refl;
  begins = placed Anywhere item_rules.start (omega arith) (λ x K rest here ends. (rest, ends));
  begins_is = λ bytes options next cells h. refl;
  is_continued = placed IsWithin item_rules.further (omega arith) (λ x K rest here ends. ((rest, ends), here));
  continued_is = λ bytes options next cells h. refl;
}
container-states kind.GfmFootnoteDefinition = record {
  next = tt;
  begins = placed Anywhere footnote_rules.start (omega arith) (λ x K rest here ends. (rest, ends));
  begins_is = λ bytes options next cells h. refl;
  is_continued = placed IsWithin footnote_rules.further (omega arith) (λ x K rest here ends. ((rest, ends), here));
  continued_is = λ bytes options next cells h. refl;
}

pub white_fits : WhiteFits flow_table_scheme
white_fits = record { each = λ state. fits flow_owner (n.SpaceOrTab state) }

pub blank_fits : BlankFits flow_table_scheme
blank_fits = record { white = white_fits; each = λ state. fits flow_owner (n.BlankLine state) }

break_fits : BreakFits flow_table_scheme
break_fits = record { white = white_fits; each = λ state. fits flow_owner (n.ThematicBreak state) }

heading_fits : HeadingFits flow_table_scheme
heading_fits = record { white = white_fits; each = λ state. fits flow_owner (n.HeadingAtx state) }

setext_fits : SetextFits flow_table_scheme
setext_fits = record { white = white_fits; each = λ state. fits flow_owner (n.HeadingSetext state) }

code_fits : CodeFits flow_table_scheme
code_fits = record { white = white_fits; each = λ state. fits flow_owner (n.CodeIndented state) }

fence_fits : FenceFits flow_table_scheme
fence_fits = record { white = white_fits; each = λ state. fits flow_owner (n.RawFlow state) }

table_fits : TableFits flow_table_scheme
table_fits = record { white = white_fits; each = λ state. fits flow_owner (n.GfmTable state) }

html_fits : HtmlFits flow_table_scheme
html_fits = record { each = λ state. fits flow_owner (n.HtmlFlow state) }

quote_fits : QuoteFits flow_table_scheme
quote_fits = record { white = white_fits; blank = blank_fits; each = λ state. fits flow_owner (n.BlockQuote state) }

item_fits : ItemFits flow_table_scheme
item_fits = record {
  white = white_fits;
  blank = blank_fits;
  breaks = break_fits;
  each = λ state. fits flow_owner (n.ListItem state);
}

footnote_fits : FootnoteFits flow_table_scheme
footnote_fits = record { white = white_fits; each = λ state. fits flow_owner (n.GfmFootnoteDefinition state) }

pub white_has : (bytes : List ℕ) (options : ParseOptions) (next : Rule) → HasWhite (flow_behaves_by bytes options next)
white_has bytes options next = record { each = λ _ _ _. refl }

-- each state ends,
pub construct-does : (name : StateName) (w : World) →
    w.current ≡ looks w → (construct_owner name).ready name (position w) (after_all flow_table_scheme w.frames) →
    Does flow_table_scheme name w (construct_transition name w)
construct-does (n.BlockQuote state) w c at = quote_terminates flow_table_scheme state w quote_fits c at
construct-does (n.CodeIndented state) w c at = code_terminates flow_table_scheme state w code_fits c at
construct-does (n.GfmFootnoteDefinition state) w c at =
    footnote_terminates flow_table_scheme state w footnote_fits c at
construct-does (n.GfmTable state) w c at = table_terminates flow_table_scheme state w table_fits c at
construct-does (n.HeadingAtx state) w c at =
    heading_terminates flow_table_scheme state w heading_fits c at
construct-does (n.HeadingSetext state) w c at = setext_terminates flow_table_scheme state w setext_fits c at
construct-does (n.HtmlFlow state) w c at = html_terminates flow_table_scheme state w html_fits c at
construct-does (n.ListItem state) w c at = item_terminates flow_table_scheme state w item_fits c at
construct-does (n.RawFlow state) w c at = fence_terminates flow_table_scheme state w fence_fits c at
construct-does (n.ThematicBreak state) w c at = break_terminates flow_table_scheme state w break_fits c at
construct-does name w c at = absurd at

-- takes one step of its rule,
pub construct-steps : (feed : Feed) (next : Rule) (name : StateName)
    (w : World) →
    Sees feed w → w.current ≡ looks w →
    (construct_owner name).ready name (position w) (after_all flow_table_scheme w.frames) →
    Steps (flow_behaves_by w.setting.bytes w.setting.options next) feed (Next name) w
    (construct_transition name w).to
    (construct_transition name w).world
construct-steps feed next (n.BlockQuote state) w s c at =
    quote_means _ feed state w
    (record {
      white = white_has _ _ _;
      blank = record { white = white_has _ _ _; each = λ _ _ _. refl };
      each = λ _ _ _. refl;
    }) s
construct-steps feed next (n.CodeIndented state) w s c at =
    code_means _ feed state w
    (record { white = white_has _ _ _; each = λ _ _ _. refl }) s at.0
construct-steps feed next (n.GfmFootnoteDefinition state) w s c at =
    footnote_means _ feed state w _
    (record { white = white_has _ _ _; each = λ _ _ _. refl }) s at
construct-steps feed next (n.GfmTable state) w s c at =
    table_means _ feed state w _
    (record { white = white_has _ _ _; each = λ _ _ _. refl }) s at
construct-steps feed next (n.HeadingAtx state) w s c at =
    heading_means _ feed state w _
    (record { white = white_has _ _ _; each = λ _ _ _. refl }) s c at
construct-steps feed next (n.HeadingSetext state) w s c at =
    setext_means _ feed state w _
    (record { white = white_has _ _ _; each = λ _ _ _. refl }) s at
construct-steps feed next (n.HtmlFlow state) w s c at =
    html_means _ feed state w _ (record { each = λ _ _ _. refl }) s c at
construct-steps feed next (n.ListItem state) w s c at =
    item_means _ feed state w _
    (record {
      white = white_has _ _ _;
      blank = record { white = white_has _ _ _; each = λ _ _ _. refl };
      breaks = record { white = white_has _ _ _; each = λ _ _ _. refl };
      each = λ _ _ _. refl;
    }) s at
construct-steps feed next (n.RawFlow state) w s c at =
    fence_means _ feed state w _
    (record { white = white_has _ _ _; each = λ _ _ _. refl }) s at
construct-steps feed next (n.ThematicBreak state) w s c at =
    break_means _ feed state w _
    (record { white = white_has _ _ _; each = λ _ _ _. refl }) s at
construct-steps feed next name w s c at = absurd at
