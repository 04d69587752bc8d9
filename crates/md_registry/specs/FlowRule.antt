-- What is left at each state of the lines of a text: the lines that are still to come, each by its containers and the
-- block that takes the rest of it.
use Rattle.std.specs.Prelude.{◌≡◌, ℕ, zero, suc, Bool, true, false, ◌==◌, Option, Some, None, if◌then◌else◌, List, []}
use Rattle.std.specs.Prelude.{◌∷◌, ◌++◌, ◌<◌, ◌⊎◌, length}
use Rattle.md_engine.specs.declared.configuration.ParseOptions.{ParseOptions}
use Rattle.md_engine.specs.declared.state.Name.{Name as StateName}
use Rattle.md_engine.specs.declared.state.Name.TheVariants as s
use Rattle.md_engine.specs.declared.state.State.{State}
use Rattle.md_engine.specs.declared.state.State.TheVariants.{Next}
use Rattle.md_engine.specs.declared.state.content.State.TheVariants as content
use Rattle.md_engine.specs.declared.state.document.State.{State as DocumentState}
use Rattle.md_engine.specs.declared.state.document.State.TheVariants as document
use Rattle.md_engine.specs.declared.state.flow.State.{State as FlowState}
use Rattle.md_engine.specs.declared.state.flow.State.TheVariants as flow
use Rattle.md_engine.specs.declared.tokenizer.container.Container.{Container}
use Rattle.md_engine.specs.declared.tokenizer.container.name.ContainerKind.{ContainerKind}
use Rattle.md_engine.specs.Meaning.{Accepts, Behaviour, Cell, Feed, Here, Refuses, Steps}
use Rattle.md_engine.specs.Sees.{IsStep, Sees}
use Rattle.md_engine.specs.World.{World, closed_events, container_of, kept}
use Rattle.md_content.specs.ChunkRule.{chunk_at}
use Rattle.md_leaves.specs.BlankRule.{HasBlank, blank_at}
use Rattle.md_events.specs.Events.Nested.{pair}
use Rattle.md_events.specs.Look.{first_seen}
use Rattle.md_events.specs.Spaces.{IsRest, ends_line}
use Rattle.proof_leaf_laws.specs.DocumentRule.{document_behaves}
use Rattle.proof_frame.specs.LeafName.{LeafName}
use Rattle.md_registry.specs.Registry.{begins_at, following, continues_at, continues_with, asked_first, leaf, opener_at}
use Rattle.md_registry.specs.Registry.{openers, openers_after, opens_with, bars_containers, trials, tried_at}
use Rattle.proof_frame.specs.EndingName.{ending_name}
use Rattle.md_registry.specs.LineFlags.{asks, begun_line, blanked, next_container, next_line, kept_containers}
use Rattle.md_registry.specs.LineFlags.{blank_here, ended_on, nothing_is_here, shut_leaf, was_continued, with_container}
use Rattle.proof_frame.specs.Rule.{Rule, tried}
use Rattle.md_registry.specs.Document.{document_own_transition}
use Rattle.md_events.specs.States.{IsState, IsSureState}
use Rattle.md_engine.specs.declared.tokenizer.Tokenizer.{Tokenizer}
use Rattle.md_engine.specs.Full.{IsFull, IsFullList}
use Rattle.md_engine.specs.Full.Grown.{Containers}
use Rattle.md_registry.specs.Flow.{flow_own_transition}

-- the containers after so many end, before the event at an index
abbrev pub ended_to : ℕ → ℕ → Here → Here
ended_to keep at h = record h {
  events = closed_events keep at h.flags.containers h.events h.point;
  flags = kept keep h.flags;
}

-- the ending of a line, and what follows it: all containers end where the text does
abbrev pub ended : Rule → Rule
ended next [] h = Accepts (ended_to 0 (length h.events) h) []
ended next (c ∷ cs) h =
    if c.byte == 10
    then next cs
    (record h {
      events = h.events ++ pair (ending_name h.flags.blank) h.point c.after;
      point = c.after;
      flags = next_line (length h.events) h.flags;
    })
    else Refuses h.scratch h.flags

-- after the leaf of a line: containers that did not continue end before it, unless it continues the open paragraph
abbrev pub line_ended : Rule → Rule
line_ended next cells h = ended next cells (ended_to (kept_containers h.flags) h.flags.line_end h)

-- after a leaf on one line none is open
abbrev pub leaf_ended : Rule → Rule
leaf_ended next cells h = line_ended next cells (record h { flags = shut_leaf h.flags })

-- after a leaf, by whether it always ends on its line
abbrev pub following_leaf : Bool → Rule → Rule
following_leaf true next cells h = leaf_ended next cells h
following_leaf false next cells h = line_ended next cells h

-- after a blank line no paragraph is open
abbrev pub blank_ended : Rule → Rule
blank_ended next cells h = line_ended next cells (record h { flags = blanked h.flags })

-- a line that no leaf takes is content
abbrev pub content_of : Rule → Rule
content_of next cells h = tried (chunk_at cells h) (line_ended next) Refuses

-- leaves are tried one after another
abbrev pub leaves_of : ParseOptions → Rule → List LeafName → Rule
leaves_of options next [] cells h = content_of next cells h
leaves_of options next (l ∷ ls) cells h =
    tried ((leaf l).trial options cells h) (following_leaf (leaf l).ends next)
    (λ s g. leaves_of options next ls cells (record h { scratch = s; flags = g }))

abbrev pub nonblank_of : ParseOptions → Rule → Rule
nonblank_of options next cells h = leaves_of options next trials cells h

-- the rest of a line after its containers
abbrev pub leaf_of : ParseOptions → Rule → Rule
leaf_of options next cells h =
    tried (blank_at cells h) (blank_ended next)
    (λ s g. nonblank_of options next cells (record h { scratch = s; flags = g }))

-- where nothing is on the line, its ending is that of a blank line, also where a leaf continues over it
abbrev pub blank_at_end : List Cell → Here → Here
blank_at_end cells h = record h { flags = blank_here (nothing_is_here (first_seen cells) h.point) h.flags }

-- by the leaf that is asked first whether the line continues it
abbrev pub inside_by : ParseOptions → Rule → Option LeafName → Rule
inside_by options next None cells h = leaf_of options next cells h
inside_by options next (Some l) cells h =
    tried ((leaf l).trial options cells (blank_at_end cells h)) (line_ended next)
    (λ s g. leaf_of options next cells (record h { scratch = s; flags = g }))

abbrev pub inside_of : ParseOptions → Rule → Rule
inside_of options next cells h = inside_by options next (asked_first h.flags.leaf) cells h

-- Containers. Each takes a cell at least, so there are no more of them than cells.

-- after all containers
abbrev pub after_containers : ParseOptions → Rule → Rule
after_containers options next cells h = inside_of options next cells (record h { flags = begun_line h.flags })

-- this one is asked whether it continues, or tried
abbrev pub asking_here : Container → Here → Here
asking_here c h = record h { flags = asks c h.point.column h.flags }

-- a container opens, and those that did not continue end
abbrev pub opened : Here → Here
opened h = let k = ended_to h.flags.continued h.flags.line_end h in record k { flags = with_container k.flags }

-- these are tried one after another: the first that opens continues in one way, and where none does the line in another
abbrev pub opens_of : ParseOptions → Rule → Rule → List ContainerKind → Rule
opens_of options onward otherwise [] cells h = otherwise cells h
opens_of options onward otherwise (k ∷ ks) cells h =
    tried (begins_at options k cells (asking_here (container_of k) h)) onward
    (λ s g. opens_of options onward otherwise ks cells (record h { scratch = s; flags = g }))

-- containers open as often as they do
unfoldable pub new_from : ParseOptions → Rule → ℕ → Rule
new_from options next zero cells h = after_containers options next cells h
new_from options next (suc n) cells h =
    opens_of options (λ rest k. new_from options next n rest (opened k)) (after_containers options next) openers
    cells h

unfoldable pub new_of : ParseOptions → Rule → Rule
new_of options next cells h = new_from options next (suc (length cells)) cells h

-- what is left before these
abbrev pub openers_of : ParseOptions → Rule → List ContainerKind → Rule
openers_of options next ks cells h =
    opens_of options (λ rest k. new_of options next rest (opened k)) (after_containers options next) ks cells h

-- where all containers continued, by whether a leaf is open in which none opens
abbrev pub all_on : ParseOptions → Rule → Bool → Rule
all_on options next true cells h = after_containers options next cells h
all_on options next false cells h = new_of options next cells h

-- each container is asked whether it continues, from the outermost in, until one does not
abbrev pub existing_by : ParseOptions → Rule → Rule → Option Container → Rule
existing_by options next further None cells h = all_on options next (bars_containers h.flags.leaf) cells h
existing_by options next further (Some c) cells h =
    tried (continues_at options c.kind cells (asking_here c h))
    (λ rest k. further rest (record k { flags = was_continued k.flags }))
    (λ s g. new_of options next cells (record h { scratch = s; flags = g }))

-- by whether the line ends here: then none is asked, and none opens
abbrev pub existing_at : ParseOptions → Rule → Rule → Bool → Rule
existing_at options next further true cells h =
    after_containers options next cells (record h { flags = ended_on h.flags })
existing_at options next further false cells h =
    existing_by options next further (next_container h.flags) cells h

unfoldable pub existing_from : ParseOptions → Rule → ℕ → Rule
existing_from options next zero cells h = new_of options next cells h
existing_from options next (suc n) cells h =
    existing_at options next (existing_from options next n) (ends_line (first_seen cells)) cells h

unfoldable pub line_then : ParseOptions → Rule → Rule
line_then options next cells h = existing_from options next (suc (length cells)) cells h

-- at most so many lines
unfoldable pub flow_lines : ParseOptions → ℕ → Rule
flow_lines options zero cells h = Accepts h cells
flow_lines options (suc n) cells h = line_then options (flow_lines options n) cells h

-- all of them: there are no more endings than cells, and a last line
unfoldable pub flow_at : ParseOptions → Rule
flow_at options cells h = flow_lines options (suc (length cells)) cells h

-- what is left by a rule for what follows after the line: at each state before a container that may open, by the one
-- that is tried there,
abbrev pub opener_behaves : ParseOptions → Rule → Option ContainerKind → Rule
opener_behaves options next None cells h = Refuses h.scratch h.flags
opener_behaves options next (Some k) cells h = openers_of options next (k ∷ openers_after k) cells h

-- at each other between the containers of a line,
abbrev pub containers_behave : ParseOptions → Rule → DocumentState → Rule
containers_behave options next document.ContainerExistingBefore cells h = line_then options next cells h
containers_behave options next document.ContainerExistingAfter cells h =
    line_then options next cells (record h { flags = was_continued h.flags })
containers_behave options next document.ContainerNewAfter cells h = new_of options next cells (opened h)
containers_behave options next document.ContainersAfter cells h = after_containers options next cells h
containers_behave options next document.FlowInside cells h = inside_of options next cells h
containers_behave options next document.FlowEnd cells h = line_ended next cells h
containers_behave options next document.ContainerNewBeforeNotFootnoteDefinition cells h =
    after_containers options next cells h
containers_behave options next state cells h = opener_behaves options next (opener_at state) cells h

-- at each state before a leaf, by the leaf that is tried there,
abbrev pub leaf_behaves : ParseOptions → Rule → Option LeafName → Rule
leaf_behaves options next None cells h = Refuses h.scratch h.flags
leaf_behaves options next (Some l) cells h = leaves_of options next (l ∷ following l) cells h

-- and at each that is before none, or after it,
abbrev pub leaves_behave : ParseOptions → Rule → FlowState → Rule
leaves_behave options next flow.Start cells h = leaf_of options next cells h
leaves_behave options next flow.BlankLineBefore cells h = leaf_of options next cells h
leaves_behave options next flow.BeforeContent cells h = content_of next cells h
leaves_behave options next flow.BlankLineAfter cells h = blank_ended next cells h
leaves_behave options next flow.LeafAfter cells h = leaf_ended next cells h
leaves_behave options next flow.After cells h = line_ended next cells h
leaves_behave options next state cells h = leaf_behaves options next (tried_at state) cells h

pub record HasFlow (B : Behaviour) (options : ParseOptions) (next : Rule) : Type 0 where
  pub blank : HasBlank B
  pub chunk : (cells : List Cell) (h : Here) → B (s.Content content.ChunkStart) cells h ≡ chunk_at cells h
  pub starts : (l : LeafName) (cells : List Cell) (h : Here) → B (leaf l).start cells h ≡ (leaf l).trial options cells h
  pub opens : (k : ContainerKind) (cells : List Cell) (h : Here) →
      B (opens_with k) cells h ≡ begins_at options k cells h
  pub is_continued : (k : ContainerKind) (cells : List Cell) (h : Here) →
      B (continues_with k) cells h ≡ continues_at options k cells h
  pub containers : (state : DocumentState) (cells : List Cell) (h : Here) →
      B (s.Document state) cells h ≡ containers_behave options next state cells h
  pub leaves : (state : FlowState) (cells : List Cell) (h : Here) →
      B (s.Flow state) cells h ≡ leaves_behave options next state cells h

-- What a state means.

-- how many lines a call of a state feeds: one where it takes the ending of a line
abbrev pub feeds : StateName → Option ℕ → ℕ
feeds (s.Document document.FlowEnd) (Some b) = if b == 10 then 1 else 0
feeds name current = 0

-- either no ending is taken, or the rule for what follows is what is left at the begin of a line
abbrev pub IsContinued : Behaviour → Rule → ℕ → Type 0
IsContinued B next size =
    (size ≡ 0) ⊎
    ((cells : List Cell) (h : Here) → next cells h ≡ B (s.Document document.ContainerExistingBefore) cells h)

-- what a state of flow needs: one that tries a leaf is called at rest
abbrev pub FlowInvariant : FlowState → World → Type 0
FlowInvariant flow.BlankLineBefore w = Unit {0}
FlowInvariant flow.BeforeContent w = Unit {0}
FlowInvariant flow.BlankLineAfter w = Unit {0}
FlowInvariant flow.LeafAfter w = Unit {0}
FlowInvariant flow.After w = Unit {0}
FlowInvariant _ w = IsRest w.scratch

-- a state of flow means: its call is one step of the rule of a line, whatever follows after the line
unfoldable pub FlowMeans : FlowState → World → State → World → Type 0
FlowMeans state old to new = FlowInvariant state old → (next : Rule) →
    IsStep (λ B. HasFlow B old.setting.options next) (s.Flow state) to old new

-- what a state between the containers of a line needs: one that asks or tries a container is called at rest, and one
-- that ends containers with no attempt around it
abbrev pub ContainersInvariant : DocumentState → World → Type 0
ContainersInvariant document.ContainerExistingBefore w = IsRest w.scratch
ContainersInvariant document.ContainerExistingAfter w = Unit {0}
ContainersInvariant document.ContainerNewAfter w = w.frames ≡ []
ContainersInvariant document.ContainersAfter w = Unit {0}
ContainersInvariant document.FlowInside w = Unit {0}
ContainersInvariant document.FlowEnd w = w.frames ≡ []
ContainersInvariant document.ContainerNewBeforeNotFootnoteDefinition w = Unit {0}
ContainersInvariant _ w = IsRest w.scratch

-- such a state means: its call is one step of the rule of a line, and after the ending of a line of the next line's
unfoldable pub ContainersMean : DocumentState → World → State → World → Type 0
ContainersMean state old to new = ContainersInvariant state old → (next : Rule) (B : Behaviour) (feed : Feed) →
    HasFlow B old.setting.options next → Sees feed old →
    IsContinued B next (feeds (s.Document state) old.current) → Steps B feed (Next (s.Document state)) old to new

-- a state before the lines means: its call is one step of what is left of the document
unfoldable pub FrontMeans : DocumentState → World → State → World → Type 0
FrontMeans state old to new = (feed : Feed) →
    Steps (document_behaves old.setting.options) feed (Next (s.Document state)) old to new

-- each state of the document, before the lines or between the containers of one
abbrev pub DocumentMeans : DocumentState → World → State → World → Type 0
DocumentMeans document.Start old to new = FrontMeans document.Start old to new
DocumentMeans document.BeforeFrontmatter old to new = FrontMeans document.BeforeFrontmatter old to new
DocumentMeans state old to new = ContainersMean state old to new

-- containers are open, whose ends are put in a list of their own before they are events
abbrev pub HasOpen : World → Type 0
HasOpen w = 0 < length w.flags.containers

-- what a state of the document promises
abbrev pub IsDocumentState : DocumentState → World → State → Tokenizer → Type 0
IsDocumentState state old answer new =
    IsState (document_own_transition state old) (DocumentMeans state old) (IsFull new) answer new

-- the same of a state by which containers may end or open
abbrev pub IsContainersState : DocumentState → World → State → Tokenizer → Type 0
IsContainersState state old answer new =
    IsState (document_own_transition state old) (DocumentMeans state old)
    ((IsFull new ⊎ HasOpen old) ⊎ IsFullList Containers new) answer new

-- the same of a state that wants no memory
abbrev pub IsSureDocumentState : DocumentState → World → State → Tokenizer → Type 0
IsSureDocumentState state old answer new =
    IsSureState (document_own_transition state old) (DocumentMeans state old) answer new

-- what a state of flow promises
abbrev pub IsFlowState : FlowState → World → State → Tokenizer → Type 0
IsFlowState state old answer new = IsState (flow_own_transition state old) (FlowMeans state old) (IsFull new) answer new

-- the same of a state that wants no memory
abbrev pub IsSureFlowState : FlowState → World → State → Tokenizer → Type 0
IsSureFlowState state old answer new = IsSureState (flow_own_transition state old) (FlowMeans state old) answer new
