-- What the first states of constructs do with the whole rest of a line, in words of the line definition and of the
-- exact list: whether they take it, and which events they add.
--
-- `rule` of a state says that each call keeps what is left of the rule: at the end of a construct `Ok` accepts and
-- `Nok` refuses. So what is said here of what is left after the first call says how the run of its states ends.
use Rattle.std.specs.Prelude.{◌≡◌, ℕ, ◌^◌, ◌<◌, Bool, true, false, ◌&&◌, not, nat_lt, if◌then◌else◌, List, []}
use Rattle.std.specs.Prelude.{◌∷◌, ◌++◌, length, Option, Some, None}
use Rattle.std.specs.Option.{is_some}
use Rattle.md_engine.specs.declared.configuration.ParseOptions.{ParseOptions}
use Rattle.md_engine.specs.declared.event.Event.{Event}
use Rattle.md_engine.specs.declared.event.Name.{Name}
use Rattle.md_engine.specs.declared.event.Name.TheVariants as n
use Rattle.md_engine.specs.declared.event.Point.{Point}
use Rattle.md_engine.specs.declared.state.Name.{Name as StateName}
use Rattle.md_engine.specs.declared.state.Name.TheVariants as s
use Rattle.md_engine.specs.declared.state.State.{State}
use Rattle.md_engine.specs.declared.state.State.TheVariants.{Next}
use Rattle.md_engine.specs.declared.state.block_quote.State.TheVariants as quote
use Rattle.md_engine.specs.declared.state.code_indented.State.TheVariants as code
use Rattle.md_engine.specs.declared.state.document.State.TheVariants as document
use Rattle.md_engine.specs.declared.state.gfm_footnote_definition.State.TheVariants as footnote
use Rattle.md_engine.specs.declared.state.gfm_table.State.TheVariants as gfm_table
use Rattle.md_engine.specs.declared.state.heading_atx.State.TheVariants as heading_atx
use Rattle.md_engine.specs.declared.state.heading_setext.State.TheVariants as heading_setext
use Rattle.md_engine.specs.declared.state.html_flow.State.TheVariants as html
use Rattle.md_engine.specs.declared.state.list_item.State.TheVariants as item
use Rattle.md_engine.specs.declared.state.raw_flow.State.TheVariants as raw
use Rattle.md_engine.specs.declared.state.thematic_break.State.TheVariants as thematic_break
use Rattle.md_engine.specs.declared.tokenizer.Frame.{Frame}
use Rattle.md_engine.specs.declared.tokenizer.Line.{Line}
use Rattle.md_engine.specs.declared.tokenizer.container.Container.{Container as Held}
use Rattle.md_engine.specs.declared.tokenizer.container.name.ContainerKind.{ContainerKind}
use Rattle.md_engine.specs.declared.tokenizer.container.name.ContainerKind.TheVariants as kind
use Rattle.md_engine.specs.Meaning.{Accepts, Behaviour, Cell, Feed, Here, Outcome, Refuses, Steps, here, proceeds}
use Rattle.md_engine.specs.Meaning.{resume_all}
use Rattle.md_engine.specs.Sees.{Sees}
use Rattle.md_engine.specs.World.{World, container_of}
use Rattle.md_containers.specs.FootnotePrefix.{footnote_holds}
use Rattle.md_containers.specs.Interrupts.{interrupts}
use Rattle.md_containers.specs.ItemPrefix.{item_holds}
use Rattle.md_content.specs.Chunks.{content_link}
use Rattle.md_events.proofs.FeedLines.{Stops}
use Rattle.md_events.proofs.RestCells.{rest_cells}
use Rattle.md_events.specs.Events.Nested.{enter_link, exit}
use Rattle.md_events.specs.Spaces.{IsRest}
use Rattle.proof_exact_pieces.proofs.OnLine.{LineIn, OnLine}
use Rattle.md_events.specs.Exact.Blocks.{leaf_events}
use Rattle.md_events.specs.Exact.Leaves.{content_line, fenced_line, for_marker, leaf, runs_line}
use Rattle.md_events.specs.Exact.Places.{TextLine, line_end, place}
use Rattle.md_events.specs.Exact.Prefixes.{further_prefix}
use Rattle.md_events.specs.Exact.Rows.{Blank, Delimiter, First, FirstText, Further, FurtherText, Role, Row, Underline, role_on}
use Rattle.md_leaves.specs.Further.{further_link}
use Rattle.md_leaves.specs.HeadingText.{headings_resolved}
use Rattle.md_meaning.specs.Containers.{Taken, continues, opens_footnote, opens_item, opens_quote}
use Rattle.md_meaning.specs.Leaves.{LeafResult, Finished, LazyText, NoText, ParagraphContext, Text, break_at, code_at}
use Rattle.md_meaning.specs.Leaves.{fence_at, heading_at, html_at, is_continued, table_at, underline_depth}
use Rattle.md_meaning.specs.Rest.{Rest, is_blank}
use Rattle.md_meaning.specs.State.{Container, InFootnote, InItem, InQuote, Leaf, NoLeaf, OpenCode, OpenFence, OpenHtml}
use Rattle.md_meaning.specs.State.{OpenParagraph, OpenTable, ParagraphLine, cut, texts}
use Rattle.md_meaning.specs.Step.{with_lazy}
use Rattle.md_meaning.specs.Tree.{End, Heading}
use Rattle.md_meaning.proofs.TextsLemmas.{NoEnding}
use Rattle.md_registry.specs.OpenSpan.{IsBuiltLeaf}
use Rattle.proof_exact_lines.specs.Unlisted.{plain_begin}
use Rattle.proof_frame.specs.HeldLeaf.{kind_of_leaf, met_by}
use Rattle.proof_frame.specs.LeafName.{CodeFurther, CodeIndented, Fence, FenceFurther, GfmTable, HeadingAtx}
use Rattle.proof_frame.specs.LeafName.{HeadingSetext, HtmlFlow, HtmlFurther, LeafName, ThematicBreak}

-- The rest of a line.

-- It is a rest of a line of the text, it begins at this point, and these cells are next: its own, and then an ending or
-- nothing.
pub record IsNext (text : List ℕ) (line : TextLine) (r : Rest) (p : Point) (cells stop : List Cell) : Type 0 where
  pub said : Line
  pub following : List ℕ
  pub within : LineIn text following line
  pub on : OnLine text following line r p
  pub plain : NoEnding r.bytes
  pub are : cells ≡ rest_cells said r p ++ stop
  pub stops : Stops stop
  pub short : length cells < 2 ^ 63

-- The events of a line.

-- the rest of a line by itself
abbrev pub alone : TextLine → Rest → List Row
alone line r = record { line = line; stays = 0; held = []; front = []; rest = r; role = FirstText; ends = [] } ∷ []

-- the line that continues a leaf has a pair of events of its own, whose begin is linked to the line before
abbrev pub linked_line : Name → TextLine → Rest → List Event → List Event
linked_line name line r inside =
    enter_link name (place line r) further_link ∷ inside ++ exit name (place line (line_end line)) ∷ []

-- Of the first line of a leaf they are those of the exact list; the text of a heading is put into its part by the
-- resolver of headings.
abbrev pub AreFirst : ParseOptions → LeafResult → TextLine → Rest → List Event → Type 0
AreFirst options (Finished (Heading depth lines)) line r es =
    headings_resolved es ≡ leaf_events options (Finished (Heading depth lines)) (alone line r)
AreFirst options became line r es = es ≡ leaf_events options became (alone line r)

-- Of a further one they are what the exact list has in that line. Cells are put into the rows of a table by the
-- resolver of tables: of rows nothing is said here.
abbrev pub AreFurther : ParseOptions → Leaf → TextLine → Rest → List Event → Type 0
AreFurther options (OpenCode lines) line r es =
    let inside = content_line n.CodeFlowChunk 4 line r in
    es ≡ (if is_blank r.bytes then inside else linked_line n.CodeIndented line r inside)
AreFurther options (OpenFence o lines) line r es =
    es ≡ linked_line (for_marker o.marker n.CodeFenced n.MathFlow) line r (fenced_line options o line r)
AreFurther options (OpenHtml how lines) line r es =
    es ≡ linked_line n.HtmlFlow line r (content_line n.HtmlFlowData 0 line r)
AreFurther options open_leaf line r es = Unit {0}

-- By what the line is. A line of text is read later.
abbrev pub AreOf : ParseOptions → Role → TextLine → Rest → List Event → Type 0
AreOf options Blank line r es = es ≡ content_line n.SpaceOrTab 0 line r
AreOf options (First became) line r es = AreFirst options became line r es
AreOf options (Further open_leaf) line r es = AreFurther options open_leaf line r es
AreOf options Underline line r es =
    es ≡ leaf n.HeadingSetextUnderline (runs_line n.HeadingSetextUnderlineSequence) (alone line r)
AreOf options Delimiter line r es = Unit {0}
AreOf options role line r es =
    es ≡ enter_link n.Content (place line r) content_link ∷ exit n.Content (place line (line_end line)) ∷ []

-- What a line is to a leaf, where this leaf was open before it and all containers continued, or not all.

abbrev pub context : Bool → Leaf → ParagraphContext
context true (OpenParagraph lines) = Text
context false (OpenParagraph lines) = LazyText
context all open_leaf = NoText

-- whether something is left of open text after the definitions at its front
abbrev pub leaves_text : ParseOptions → List ParagraphLine → Bool
leaves_text options lines = nat_lt 0 (length (cut options (texts lines)).1)

-- an underline of open text: of what is left, or of nothing; then it is a line of the text
abbrev pub turns : ParseOptions → Bool → Leaf → Rest → Bool
turns options true (OpenParagraph lines) r = is_some (underline_depth options r) && leaves_text options lines
turns options all open_leaf r = false

abbrev pub turns_nothing : ParseOptions → Bool → Leaf → Rest → Bool
turns_nothing options true (OpenParagraph lines) r =
    is_some (underline_depth options r) && not (leaves_text options lines)
turns_nothing options all open_leaf r = false

abbrev pub as_first : Option LeafResult → Option Role
as_first None = None
as_first (Some became) = Some (First became)

-- a delimiter row after text, and any line where a table is open: no other leaf takes it
abbrev pub row_role : ParseOptions → Bool → Leaf → Rest → Option Role
row_role options true (OpenParagraph lines) r =
    if is_some (table_at options End lines r) then Some Delimiter else None
row_role options true (OpenTable delimiter rows) r = Some (Further (OpenTable delimiter rows))
row_role options all open_leaf r = None

-- none, where the leaf does not take it
abbrev pub role_at : ParseOptions → LeafName → Bool → Leaf → Rest → Option Role
role_at options CodeIndented all open_leaf r =
    if is_blank r.bytes then None else as_first (code_at options (context all open_leaf) r)
role_at options Fence all open_leaf r = as_first (fence_at options r)
role_at options HtmlFlow all open_leaf r = as_first (html_at options (context all open_leaf) r)
role_at options HeadingAtx all open_leaf r = as_first (heading_at options r)
role_at options HeadingSetext all open_leaf r = if turns options all open_leaf r then Some Underline else None
role_at options ThematicBreak all open_leaf r =
    if turns_nothing options all open_leaf r then None else as_first (break_at options r)
role_at options GfmTable all open_leaf r = row_role options all open_leaf r
role_at options further all open_leaf r =
    if is_some (is_continued options open_leaf r) then Some (Further open_leaf) else None

-- the states of further lines are called where their leaf is open
abbrev pub IsAsked : LeafName → Bool → Leaf → Type 0
IsAsked CodeFurther true (OpenCode lines) = Unit {0}
IsAsked CodeFurther all open_leaf = ⊥
IsAsked FenceFurther true (OpenFence o lines) = Unit {0}
IsAsked FenceFurther all open_leaf = ⊥
IsAsked HtmlFurther true (OpenHtml how lines) = Unit {0}
IsAsked HtmlFurther all open_leaf = ⊥
IsAsked l all open_leaf = Unit {0}

-- What is left of a line.

-- It is taken to its end, and such events are added.
pub record IsLineTaken (Are : List Event → Type 0) (end : Point) (stop : List Cell) (h : Here) (o : Outcome) : Type 0
  where
    pub events : List Event
    pub are : Are events
    pub to : Here
    pub accepts : o ≡ Accepts to stop
    pub added : to.events ≡ h.events ++ events
    pub point : to.point ≡ end

-- by what it is; a line that is refused leaves all as it was
abbrev pub IsTaken : ParseOptions → TextLine → Rest → List Cell → Here → Outcome → Option Role → Type 0
IsTaken options line r stop h o None = o ≡ Refuses h.scratch h.flags
IsTaken options line r stop h o (Some role) =
    IsLineTaken (AreOf options role line r) (place line (line_end line)) stop h o

-- What is left after a call, with the attempts that it has begun, is such.
pub record Leaves (B : Behaviour) (feed : Feed) (old : World) (answer : State) (new : World) (Is : Outcome → Type 0) :
    Type 0 where
  pub begun : List Frame
  pub frames : new.frames ≡ begun ++ old.frames
  pub is : Is (resume_all B feed new.events begun (proceeds B answer (feed new.point) (here new)))

-- Leaves.

abbrev pub first_state : LeafName → StateName
first_state CodeIndented = s.CodeIndented code.Start
first_state CodeFurther = s.CodeIndented code.FurtherStart
first_state Fence = s.RawFlow raw.Start
first_state FenceFurther = s.RawFlow raw.AtNonLazyBreak
first_state HtmlFlow = s.HtmlFlow html.Start
first_state HtmlFurther = s.HtmlFlow html.ContinuationStart
first_state HeadingAtx = s.HeadingAtx heading_atx.Start
first_state HeadingSetext = s.HeadingSetext heading_setext.Start
first_state ThematicBreak = s.ThematicBreak thematic_break.Start
first_state GfmTable = s.GfmTable gfm_table.Start

-- The first state of a leaf takes the rest of a line where the line definition has a line of this leaf, and adds its
-- events; else it refuses.
abbrev pub IsLeafCall : Behaviour → StateName → World → State → World → Type 0
IsLeafCall B name old answer new =
    (l : LeafName) (feed : Feed) (line : TextLine) (r : Rest) (stop : List Cell) (all : Bool) (open_leaf : Leaf) →
    name ≡ first_state l → Sees feed old → IsRest old.scratch →
    IsNext old.setting.bytes line r old.point (feed old.point) stop → IsBuiltLeaf open_leaf →
    old.flags.leaf ≡ met_by all (kind_of_leaf open_leaf) → IsAsked l all open_leaf →
    Leaves B feed old answer new
    (λ o.
    IsTaken old.setting.options line r stop (here old) o (role_at old.setting.options l all open_leaf r))

-- Containers.

abbrev pub opener_state : ContainerKind → StateName
opener_state kind.BlockQuote = s.BlockQuote quote.Start
opener_state kind.ListItem = s.ListItem item.Start
opener_state kind.GfmFootnoteDefinition = s.GfmFootnoteDefinition footnote.Start

-- the one of a kind that opens, if one does
abbrev pub opens_of : ContainerKind → ParseOptions → Bool → Rest → Option Taken
opens_of kind.BlockQuote options interrupting r = opens_quote options r
opens_of kind.ListItem options interrupting r = opens_item options interrupting r
opens_of kind.GfmFootnoteDefinition options interrupting r = opens_footnote options r

-- the state before the prefix on a further line
abbrev pub further_state : Container → StateName
further_state (InQuote alert) = s.BlockQuote quote.ContStart
further_state container = s.ListItem item.ContStart

-- what is held of an open one
abbrev pub IsHeldAs : Container → Held → Type 0
IsHeldAs (InQuote alert) held = held ≡ container_of kind.BlockQuote
IsHeldAs (InItem digits marker width blank) held =
    (held.kind ≡ kind.ListItem) × item_holds held (InItem digits marker width blank)
IsHeldAs (InFootnote label) held =
    (held.kind ≡ kind.GfmFootnoteDefinition) × footnote_holds held (InFootnote label)

-- A prefix is taken: its events are added, and the rest after it is next.
pub record IsPrefixTaken (text : List ℕ) (line : TextLine) (events : List Event) (t : Taken) (stop : List Cell)
    (h : Here) (o : Outcome) : Type 0 where
  pub to : Here
  pub cells : List Cell
  pub accepts : o ≡ Accepts to cells
  pub added : to.events ≡ h.events ++ events
  pub next : IsNext text line t.rest to.point cells stop
  pub held : IsHeldAs t.container to.flags.asked

abbrev pub IsPassed : List ℕ → TextLine → (Taken → List Event) → List Cell → Here → Outcome → Option Taken → Type 0
IsPassed text line events stop h o None = o ≡ Refuses h.scratch h.flags
IsPassed text line events stop h o (Some t) = IsPrefixTaken text line (events t) t stop h o

-- The first state of a container takes its prefix where the line definition opens it, with the begin of the container;
-- lists are put around items later.
abbrev pub IsOpenerCall : Behaviour → StateName → World → State → World → Type 0
IsOpenerCall B name old answer new =
    (k : ContainerKind) (feed : Feed) (line : TextLine) (r : Rest) (stop : List Cell) →
    name ≡ opener_state k → Sees feed old → IsRest old.scratch → old.flags.asked ≡ container_of k →
    old.flags.asked_column ≡ old.point.column →
    IsNext old.setting.bytes line r old.point (feed old.point) stop →
    Leaves B feed old answer new
    (λ o.
    IsPassed old.setting.bytes line (λ t. plain_begin line t.container r t.rest) stop (here old) o
    (opens_of k old.setting.options (interrupts old.flags) r))

-- The state before a further prefix takes it where the line definition continues the container.
abbrev pub IsFurtherCall : Behaviour → StateName → World → State → World → Type 0
IsFurtherCall B name old answer new =
    (c : Container) (feed : Feed) (line : TextLine) (r : Rest) (stop : List Cell) →
    name ≡ further_state c → Sees feed old → IsRest old.scratch → IsHeldAs c old.flags.asked →
    old.flags.asked_column ≡ old.point.column →
    IsNext old.setting.bytes line r old.point (feed old.point) stop →
    Leaves B feed old answer new
    (λ o.
    IsPassed old.setting.bytes line (λ t. further_prefix line t.container r t.rest) stop (here old) o
    (continues old.setting.options c r))

-- states that several constructs have, and those of flow and of the document
abbrev pub is_shared : StateName → Bool
is_shared (s.BlankLine state) = true
is_shared (s.Content state) = true
is_shared (s.Document state) = true
is_shared (s.Flow state) = true
is_shared (s.SpaceOrTab state) = true
is_shared name = false

-- Each state of a construct keeps what is left, and the first states of all constructs leave this of a line.
pub record IsFirstCall (B : Behaviour) (name : StateName) (old : World) (answer : State) (new : World) : Type 0 where
  pub keeps : is_shared name ≡ false → (feed : Feed) → Sees feed old → Steps B feed (Next name) old answer new
  pub leaves : IsLeafCall B name old answer new
  pub opens : IsOpenerCall B name old answer new
  pub further : IsFurtherCall B name old answer new

-- The leaf of a line.

-- what a line is, where no container opens on it
abbrev pub role_met : ParseOptions → Bool → Leaf → Rest → Role
role_met options all open_leaf r =
    if not all && is_some (with_lazy options open_leaf r) then FurtherText
    else role_on options (if all then open_leaf else NoLeaf) r

-- such events are added, and the line ends
pub record IsLineEnded (B : Behaviour) (Are : List Event → Type 0) (end : Point) (stop : List Cell) (h : Here)
    (o : Outcome) : Type 0 where
  pub events : List Event
  pub are : Are events
  pub to : Here
  pub ends : o ≡ B (s.Document document.FlowEnd) stop to
  pub added : to.events ≡ h.events ++ events
  pub point : to.point ≡ end

-- whether the leaf that is open is asked first whether the line continues it
abbrev pub is_asked_first : Leaf → Bool
is_asked_first (OpenCode lines) = true
is_asked_first (OpenFence o lines) = true
is_asked_first (OpenHtml how lines) = true
is_asked_first open_leaf = false

-- Flow takes the rest of a line as what it is by the line definition: all leaves were tried in order.
abbrev pub IsLineCall : Behaviour → World → State → World → (Rest → Bool → Leaf → Type 0) → Type 0
IsLineCall B old answer new Meets =
    (feed : Feed) (line : TextLine) (r : Rest) (stop : List Cell) (all : Bool) (open_leaf : Leaf) →
    Sees feed old → IsRest old.scratch → IsNext old.setting.bytes line r old.point (feed old.point) stop →
    IsBuiltLeaf open_leaf → Meets r all open_leaf →
    Leaves B feed old answer new
    (IsLineEnded B (AreOf old.setting.options (role_met old.setting.options all open_leaf r) line r)
    (place line (line_end line)) stop (here old))

-- after the containers of the line, where this leaf is open before it and all continued or not
abbrev pub IsOpen : World → Rest → Bool → Leaf → Type 0
IsOpen w r all open_leaf =
    (w.flags.leaf ≡ kind_of_leaf open_leaf) × (all ≡ not (nat_lt w.flags.continued (length w.flags.containers)))
    × (w.flags.blank ≡ false)

-- where a leaf may be asked first: the line has met this one
abbrev pub IsMetFirst : World → Rest → Bool → Leaf → Type 0
IsMetFirst w r all open_leaf = (w.flags.leaf ≡ met_by all (kind_of_leaf open_leaf)) × (w.flags.blank ≡ false)

-- where leaves are tried: the line has met this one; if it is asked first, it was, and the line does not continue it
pub record IsMet (w : World) (r : Rest) (all : Bool) (open_leaf : Leaf) : Type 0 where
  pub holds : w.flags.leaf ≡ met_by all (kind_of_leaf open_leaf)
  pub refused : all ≡ true → is_asked_first open_leaf ≡ true → is_continued w.setting.options open_leaf r ≡ None
  -- the ending of a blank line may be known as such
  pub blank : is_blank r.bytes ≡ false → w.flags.blank ≡ false
