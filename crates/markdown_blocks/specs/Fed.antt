-- What is between two lines while flow reads a text: whenever a line has been fed, what the tokenizer holds represents
-- what is open by the line definition.
use Rattle.std.specs.Prelude.{◌≡◌, ◌⊎◌, ℕ, suc, ◌+◌, ◌<◌, ◌≤◌, Bool, true, false, List, [], ◌∷◌, length, map, take, drop}
use Rattle.md_engine.specs.declared.configuration.ParseOptions.{ParseOptions}
use Rattle.md_engine.specs.declared.event.Point.{Point}
use Rattle.md_engine.specs.declared.state.Name.{Name as StateName}
use Rattle.md_engine.specs.declared.state.Name.TheVariants as s
use Rattle.md_engine.specs.declared.state.content.State.TheVariants as content
use Rattle.md_engine.specs.declared.state.document.State.TheVariants as document
use Rattle.md_engine.specs.declared.state.flow.State.TheVariants as flow
use Rattle.md_engine.specs.declared.state.State.{State}
use Rattle.md_engine.specs.declared.state.State.TheVariants.{Next, Retry}
use Rattle.md_engine.specs.declared.tokenizer.container.name.ContainerKind.{ContainerKind}
use Rattle.md_engine.specs.declared.tokenizer.container.name.ContainerKind.TheVariants as kind
use Rattle.md_engine.specs.Meaning.{Cell}
use Rattle.md_engine.specs.Run.{Calls, Runs, Step}
use Rattle.md_engine.specs.Run.Runs.{Stays, ThenCalls, ThenLeaves}
use Rattle.md_engine.specs.TextFeed.{text_feed}
use Rattle.md_engine.specs.World.{World, container_of, fresh, looks, reads_to}
use Rattle.md_events.specs.Exact.Places.{TextLine}
use Rattle.md_meaning.specs.Preamble.{rest_at}
use Rattle.md_meaning.specs.Rest.{Rest}
use Rattle.md_events.specs.Events.Spelled.{Reading, read, unread}
use Rattle.md_events.specs.Spaces.{IsRest}
use Rattle.md_flow.specs.LineRule.{IsAsked, IsHeldAs, IsMet, IsMetFirst, IsNext, IsOpen, first_state, further_state}
use Rattle.md_flow.specs.LineRule.{opener_state}
use Rattle.md_meaning.specs.State.{At, Container, Leaf, NoLeaf, Path, spot}
use Rattle.md_meaning.specs.Step.{spot_of, steps}
use Rattle.md_meaning.specs.Texts.{split_lines}
use Rattle.md_meaning.specs.Tree.{End}
use Rattle.proof_rows.specs.Fronted.{rest_from}
use Rattle.proof_rows.specs.WithoutMdx.{IsWithoutMdx}
use Rattle.proof_frame.specs.HeldLeaf.{kind_of_leaf, met_by}
use Rattle.proof_frame.specs.LeafName.{LeafName}
use Rattle.proof_frame.specs.Row.{Row, after_row}
use Rattle.proof_rows.specs.Rows.{groups, groups_events, rows_events}
use Rattle.proof_rows.specs.Valid.{Represents}
use Rattle.md_registry.specs.FlowRule.{feeds}
use Rattle.md_registry.specs.OpenSpan.{IsBuiltLeaf}
use Rattle.md_registry.specs.States.{FlowStep}
use Rattle.proof_rows.specs.TextRows.{text_rows, text_setting}
use Rattle.proof_frame.specs.Closed.{close_containers}

-- how many lines a run has fed
abbrev pub fed : (T : Step) (is_end : Bool) (s : State) (w : World) (t : State) (v : World) → Runs T is_end s w t v → ℕ
fed T is_end s w t v Stays = 0
fed T is_end s w t v (ThenLeaves from old to new run leaves) = fed T is_end s w from old run
fed T is_end s w t v (ThenCalls from old to new run calls) =
    feeds calls.name (looks old) + fed T is_end s w from old run

-- what is left of each line, of which the first begins at this point
abbrev pub rests_from : Point → List (List ℕ) → List Rest
rests_from p [] = []
rests_from p (line ∷ lines) = rest_from p line ∷ map (rest_at 0) lines

-- what is open after so many lines of a text, from a point on
abbrev pub path_after : ParseOptions → List ℕ → Point → ℕ → Path
path_after options bytes p n =
    steps options (At (spot_of End)) (take n (rests_from p (split_lines (drop p.index bytes))))

-- the containers that end after the last of these lines
abbrev pub last_leaves : List Row → List Container
last_leaves [] = []
last_leaves (row ∷ []) = row.closed_after
last_leaves (row ∷ next ∷ rows) = last_leaves (next ∷ rows)

-- the lines while it is not known what ends after the last
abbrev pub not_left : List Row → List Row
not_left [] = []
not_left (row ∷ []) = record row { closed_after = [] } ∷ []
not_left (row ∷ next ∷ rows) = row ∷ not_left (next ∷ rows)

-- where the line after these begins, of which the first began at this point
abbrev pub place_following : Point → List Row → Point
place_following p [] = p
place_following p (row ∷ rows) = place_following (after_row row) rows

-- So many lines of a text were fed, from a point on, and a further one begins.
pub record AfterLines (bytes : List ℕ) (options : ParseOptions) (p : Point) (n : ℕ) (w : World) : Type 0 where
  -- no attempt is around
  pub frames : w.frames ≡ []
  -- the tokenizer is after the last ending, where there is a further line, perhaps an empty one
  pub further : n < length (text_rows options bytes p)
  pub point : w.point ≡ place_following p (take n (text_rows options bytes p))
  -- the events of these lines were added, but for the ends of the containers that the next line closes
  pub events : w.events ≡ rows_events (not_left (take n (text_rows options bytes p)))
  -- these, with their parts read, are read as a tree that is not closed yet,
  pub reading : Reading
  pub reads : read bytes unread (groups_events options bytes (groups (take n (text_rows options bytes p)))) ≡
      close_containers (length (last_leaves (take n (text_rows options bytes p)))) reading
  -- and with the flags it represents what these lines become
  pub valid : Represents options w.flags reading (path_after options bytes p n)

-- where flow begins to read all of a text, from a point on
abbrev pub flow_begins : List ℕ → ParseOptions → Point → World
flow_begins bytes options p = reads_to (fresh bytes options p) (length bytes)

-- at the begin of a line
abbrev pub line_begins : State
line_begins = Next (s.Document document.ContainerExistingBefore)

-- After the containers of a line, before which so many were fed, what calls of this state require is met: the tokenizer
-- holds the leaf that was open before the line, or none where a container has opened on it.
pub record IsLineMet (bytes : List ℕ) (options : ParseOptions) (p : Point) (n : ℕ) (w : World) : Type 0 where
  pub rest : IsRest w.scratch
  pub whole : w.setting.limit ≡ length w.setting.bytes
  pub all : Bool
  pub open_leaf : Leaf
  pub is : (open_leaf ≡ (spot (path_after options bytes p n)).leaf) ⊎ (open_leaf ≡ NoLeaf)
  pub built : IsBuiltLeaf open_leaf
  pub holds : (r : Rest) → IsOpen w r all open_leaf

-- Where attempts begin.

-- the tokenizer is at rest, where the text may be read to its end
pub record IsAtRest (w : World) : Type 0 where
  pub rest : IsRest w.scratch
  pub whole : w.setting.limit ≡ length w.setting.bytes

-- the states that try a leaf
abbrev pub tries_leaf : StateName → Bool
tries_leaf (s.Flow state) = true
tries_leaf (s.Document document.FlowInside) = true
tries_leaf name = false

-- Where a leaf is tried on a line, before which so many were fed, what its first state requires is met: the line meets
-- the leaf that was open before it, or none where a container has opened on it, and this leaf may be asked there.
pub record IsLeafMet (bytes : List ℕ) (options : ParseOptions) (p : Point) (n : ℕ) (l : LeafName) (w : World) : Type 0
  where
    pub ready : IsAtRest w
    pub all : Bool
    pub open_leaf : Leaf
    pub is : (open_leaf ≡ (spot (path_after options bytes p n)).leaf) ⊎ (open_leaf ≡ NoLeaf)
    pub built : IsBuiltLeaf open_leaf
    pub holds : w.flags.leaf ≡ met_by all (kind_of_leaf open_leaf)
    pub asked : IsAsked l all open_leaf

-- the state before a container that may open
abbrev pub before_opener : ContainerKind → StateName
before_opener kind.BlockQuote = s.Document document.ContainerNewBefore
before_opener kind.ListItem = s.Document document.ContainerNewBeforeNotBlockQuote
before_opener kind.GfmFootnoteDefinition = s.Document document.ContainerNewBeforeNotList

-- what the first state of one requires
pub record IsOpenerMet (k : ContainerKind) (w : World) : Type 0 where
  pub ready : IsAtRest w
  pub asked : w.flags.asked ≡ container_of k
  pub column : w.flags.asked_column ≡ w.point.column

-- what the state before a further prefix requires, where it is that of such a container
pub record IsFurtherMet (c : Container) (w : World) : Type 0 where
  pub ready : IsAtRest w
  pub container : Container
  pub state : further_state container ≡ further_state c
  pub held : IsHeldAs container w.flags.asked
  pub column : w.flags.asked_column ≡ w.point.column

-- Where the leaf of a line begins.

-- The tokenizer has what the calls there require: the line, before which so many were fed, has met a leaf of which this
-- holds, whatever rest of the line is next. It is that which was open before the line, or none where a container has
-- opened.
pub record IsFrontMet (bytes : List ℕ) (options : ParseOptions) (p : Point) (n : ℕ) (w : World)
    (Holds : Rest → Bool → Leaf → Type 0) : Type 0 where
  pub ready : IsAtRest w
  pub all : Bool
  pub open_leaf : Leaf
  pub is : (open_leaf ≡ (spot (path_after options bytes p n)).leaf) ⊎ (open_leaf ≡ NoLeaf)
  pub built : IsBuiltLeaf open_leaf
  pub holds : (line : TextLine) (r : Rest) (stop : List Cell) →
      IsNext bytes line r w.point (text_feed (text_setting bytes options p) w.point) stop → Holds r all open_leaf

-- Flow has read a text, from a point on, and has become this.
pub record FlowRan (bytes : List ℕ) (options : ParseOptions) (p : Point) (end : State) (at : World) : Type 0 where
  pub run : Runs FlowStep true line_begins (flow_begins bytes options p) end at
  -- all lines were fed but the last, which ends where the text does,
  pub lines : suc (fed FlowStep true line_begins (flow_begins bytes options p) end at run) ≡
      length (text_rows options bytes p)
  -- and whenever one had been fed, what the tokenizer held represented what is open after the lines so far
  pub valid : IsWithoutMdx options → p.index ≤ length bytes → p.vs ≡ 0 → 1 ≤ p.column →
      (t : State) (v : World) (t' : State) (v' : World)
      (before : Runs FlowStep true line_begins (flow_begins bytes options p) t v)
      (call : Calls FlowStep true t v t' v') →
      feeds call.name (looks v) ≡ 1 →
      AfterLines bytes options p
      (suc (fed FlowStep true line_begins (flow_begins bytes options p) t v before)) v'
  -- each call of the first state of a line of text is at rest, where the text may be read to its end
  pub texts_begin : (t : State) (v : World) (t' : State) (v' : World) →
      Runs FlowStep true line_begins (flow_begins bytes options p) t v → (call : Calls FlowStep true t v t' v') →
      call.name ≡ s.Content content.ChunkStart → IsRest v.scratch × (v.setting.limit ≡ length v.setting.bytes)
  -- and each call after the containers of a line is made where what it requires is met
  pub lines_met : IsWithoutMdx options → p.index ≤ length bytes → p.vs ≡ 0 → 1 ≤ p.column →
      (t : State) (v : World) (t' : State) (v' : World)
      (before : Runs FlowStep true line_begins (flow_begins bytes options p) t v)
      (call : Calls FlowStep true t v t' v') → call.name ≡ s.Document document.ContainersAfter →
      IsLineMet bytes options p (fed FlowStep true line_begins (flow_begins bytes options p) t v before) v
  -- where flow tries a leaf, what the first state of the leaf requires is met,
  pub leaves_met : IsWithoutMdx options → p.index ≤ length bytes → p.vs ≡ 0 → 1 ≤ p.column →
      (t : State) (v : World) (t' : State) (v' : World)
      (before : Runs FlowStep true line_begins (flow_begins bytes options p) t v)
      (call : Calls FlowStep true t v t' v') → tries_leaf call.name ≡ true → (l : LeafName) →
      t' ≡ Retry (first_state l) →
      IsLeafMet bytes options p (fed FlowStep true line_begins (flow_begins bytes options p) t v before) l v'
  -- where a container is tried, what its first state requires is,
  pub openers_met : (t : State) (v : World) (t' : State) (v' : World) →
      Runs FlowStep true line_begins (flow_begins bytes options p) t v → (call : Calls FlowStep true t v t' v') →
      (k : ContainerKind) → call.name ≡ before_opener k → t' ≡ Retry (opener_state k) → IsOpenerMet k v'
  -- and where an open one is asked, what the state before its further prefix requires
  pub further_met : (t : State) (v : World) (t' : State) (v' : World) →
      Runs FlowStep true line_begins (flow_begins bytes options p) t v → (call : Calls FlowStep true t v t' v') →
      call.name ≡ s.Document document.ContainerExistingBefore → (c : Container) → t' ≡ Retry (further_state c) →
      IsFurtherMet c v'
  -- All calls of first states are made where what they require is met, by whatever state: those of leaves,
  pub leaves_called : IsWithoutMdx options → p.index ≤ length bytes → p.vs ≡ 0 → 1 ≤ p.column →
      (t : State) (v : World) (t' : State) (v' : World)
      (before : Runs FlowStep true line_begins (flow_begins bytes options p) t v)
      (call : Calls FlowStep true t v t' v') → (l : LeafName) → call.name ≡ first_state l →
      IsLeafMet bytes options p (fed FlowStep true line_begins (flow_begins bytes options p) t v before) l v
  -- those of containers,
  pub openers_called : (t : State) (v : World) (t' : State) (v' : World) →
      Runs FlowStep true line_begins (flow_begins bytes options p) t v → (call : Calls FlowStep true t v t' v') →
      (k : ContainerKind) → call.name ≡ opener_state k → IsOpenerMet k v
  -- and those of the states before a further prefix
  pub further_called : (t : State) (v : World) (t' : State) (v' : World) →
      Runs FlowStep true line_begins (flow_begins bytes options p) t v → (call : Calls FlowStep true t v t' v') →
      (c : Container) → call.name ≡ further_state c → IsFurtherMet c v
  -- So are those where a leaf is asked first,
  pub asked_met : IsWithoutMdx options → p.index ≤ length bytes → p.vs ≡ 0 → 1 ≤ p.column →
      (t : State) (v : World) (t' : State) (v' : World)
      (before : Runs FlowStep true line_begins (flow_begins bytes options p) t v)
      (call : Calls FlowStep true t v t' v') → call.name ≡ s.Document document.FlowInside →
      IsFrontMet bytes options p (fed FlowStep true line_begins (flow_begins bytes options p) t v before) v
      (IsMetFirst v)
  -- and those where leaves are tried in order, also after one that was asked first and has refused the line
  pub tried_met : IsWithoutMdx options → p.index ≤ length bytes → p.vs ≡ 0 → 1 ≤ p.column →
      (t : State) (v : World) (t' : State) (v' : World)
      (before : Runs FlowStep true line_begins (flow_begins bytes options p) t v)
      (call : Calls FlowStep true t v t' v') → call.name ≡ s.Flow flow.Start →
      IsFrontMet bytes options p (fed FlowStep true line_begins (flow_begins bytes options p) t v before) v (IsMet v)
