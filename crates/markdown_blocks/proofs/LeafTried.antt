-- States of flow: another follows, or a leaf is tried. Where one is, the line meets the leaf that was open before it, or
-- none where a container has opened; and a leaf that refuses the line leaves that as it was.
use Rattle.std.proofs.Common.{◌≡◌, ◌⊎◌, inl, inr, ℕ, ◌≤◌, Bool, true, false, cond, List, [], ◌∷◌, ◌++◌, length}
use Rattle.std.proofs.Common.{Option, Some, None, refl, sym, ap, ◌∙◌, subst, arith}
use Rattle.std.specs.Prelude.{◌==◌, ◌||◌}
use Rattle.std.specs.Option.{is_some}
use Rattle.md_engine.specs.declared.configuration.ParseOptions.{ParseOptions}
use Rattle.md_engine.specs.declared.state.Name.{Name as StateName}
use Rattle.md_engine.specs.declared.state.Name.TheVariants as s
use Rattle.md_engine.specs.declared.state.blank_line.State.TheVariants as blank_line
use Rattle.md_engine.specs.declared.state.code_indented.State.TheVariants as code
use Rattle.md_engine.specs.declared.state.content.State.TheVariants as content
use Rattle.md_engine.specs.declared.state.document.State.TheVariants as document
use Rattle.md_engine.specs.declared.state.flow.State.{State as FlowState}
use Rattle.md_engine.specs.declared.state.flow.State.TheVariants as flow
use Rattle.md_engine.specs.declared.state.html_flow.State.TheVariants as html
use Rattle.md_engine.specs.declared.state.raw_flow.State.TheVariants as raw
use Rattle.md_engine.specs.declared.state.State.{State}
use Rattle.md_engine.specs.declared.state.State.TheVariants.{Error, Ok, Nok, Next, Retry}
use Rattle.md_engine.specs.declared.tokenizer.Frame.{Frame}
use Rattle.md_engine.specs.declared.tokenizer.held_leaf.HeldLeaf.{HeldLeaf}
use Rattle.md_engine.specs.declared.tokenizer.held_leaf.HeldLeaf.TheVariants as held_leaf
use Rattle.md_engine.specs.Meaning.{Accepts, Cell, Fails, Feed, Here, Outcome, Refuses, here, whole_outcome}
use Rattle.md_engine.specs.Run.{plain}
use Rattle.md_engine.specs.Scheme.{valid}
use Rattle.md_engine.specs.Sees.{Sees, ahead}
use Rattle.md_engine.specs.World.{Flags, Setting, World, closed}
use Rattle.md_events.specs.Ahead.{from_ending, line_bytes, line_end}
use Rattle.md_events.specs.Look.{first_seen}
use Rattle.md_events.specs.Spaces.{IsRest, any_size}
use Rattle.md_events.specs.Transition.{Transition}
use Rattle.md_flow.proofs.LineRule.Refused.{something-is}
use Rattle.md_flow.specs.LineRule.{IsAsked, first_state, is_shared}
use Rattle.md_leaves.specs.BlankRule.{blank_at, blank_events}
use Rattle.md_meaning.specs.State.{Leaf, NoLeaf, OpenCode, OpenFence, OpenHtml, OpenParagraph, OpenTable}
use Rattle.md_meaning.specs.Rest.{is_blank}
use Rattle.md_registry.proofs.Registry.{insider-asked, insider-none, laws, leaf-states}
use Rattle.md_registry.specs.Flow.{blank_line_code, flow_end_code, inside_code, leaf_end, leaf_front, leaf_transition}
use Rattle.md_registry.specs.Flow.{row_transition, start_by, start_code, trial_code}
use Rattle.md_registry.specs.FlowRule.{feeds}
use Rattle.md_registry.specs.LineFlags.{kept_containers, nothing_is_here}
use Rattle.md_registry.specs.Registry.{asked_first, front_of, leaf, next_of, row, tried_at}
use Rattle.md_registry.specs.States.{flow_table_scheme, flow_transition}
use Rattle.proof_frame.specs.HeldLeaf.{has_lines, kind_of_leaf, lazy_of, met_by}
use Rattle.proof_frame.specs.LeafName.{CodeFurther, CodeIndented, Fence, FenceFurther, GfmTable, HeadingAtx}
use Rattle.proof_frame.specs.LeafName.{HeadingSetext, HtmlFlow, HtmlFurther, LeafName, ThematicBreak}
use Rattle.markdown_blocks.proofs.LinesFed.{line_behaves, line_stop}

-- States.

-- those of flow, from its leaf to the end of the line
abbrev pub is_flow : StateName → Bool
is_flow (s.Flow state) = true
is_flow (s.Document document.FlowInside) = true
is_flow (s.Document document.FlowEnd) = true
is_flow name = false

abbrev pub IsFlow : State → Type 0
IsFlow (Next name) = is_flow name ≡ true
IsFlow (Retry name) = is_flow name ≡ true
IsFlow t = Unit {0}

-- those after a leaf was taken
abbrev pub is_past : StateName → Bool
is_past (s.Flow flow.BlankLineAfter) = true
is_past (s.Flow flow.LeafAfter) = true
is_past (s.Flow flow.After) = true
is_past (s.Document document.FlowEnd) = true
is_past name = false

abbrev pub IsPast : State → Type 0
IsPast (Next name) = is_past name ≡ true
IsPast (Retry name) = is_past name ≡ true
IsPast t = Unit {0}

pub called-flow : (t : State) (name : StateName) → plain t ≡ Next name → IsFlow t → is_flow name ≡ true
called-flow Ok name e is = cc
called-flow Nok name e is = cc
called-flow Error name e is = cc
called-flow (Next m) name e is = let same : m ≡ name = cc in ap is_flow (sym same) ∙ is
called-flow (Retry m) name e is = let same : m ≡ name = cc in ap is_flow (sym same) ∙ is

-- What the line meets, by what was open before it: that leaf, where all containers continued or not, or none where one
-- has opened.
abbrev pub HasMet : HeldLeaf → HeldLeaf → Type 0
HasMet on still = ((all : Bool) × (on ≡ met_by all still)) ⊎ (on ≡ held_leaf.None)

-- Before the leaf of a line.

-- where a leaf is asked first, and where all are tried
abbrev pub is_front : StateName → Bool
is_front (s.Flow flow.Start) = true
is_front (s.Document document.FlowInside) = true
is_front name = false

-- The leaf that is asked first, if one is, does not take the line of these cells.
abbrev pub IsRefused : ParseOptions → List Cell → HeldLeaf → Type 0
IsRefused options cells on = (l : LeafName) → asked_first on ≡ Some l → (leaf l).takes options on cells ≡ false

-- There no line is taken to be blank but a blank one; and where all are tried, that leaf has refused the line.
abbrev pub FrontAt : ParseOptions → List Cell → StateName → Flags → Type 0
FrontAt options cells (s.Flow flow.Start) g =
    (is_blank (line_bytes cells) ≡ false → g.blank ≡ false) × IsRefused options cells g.leaf
FrontAt options cells (s.Document document.FlowInside) g = g.blank ≡ false
FrontAt options cells name g = Unit {0}

abbrev pub IsFront : ParseOptions → List Cell → State → Flags → Type 0
IsFront options cells (Next name) g = FrontAt options cells name g
IsFront options cells (Retry name) g = FrontAt options cells name g
IsFront options cells t g = Unit {0}

pub other-front : (options : ParseOptions) (cells : List Cell) (name : StateName) (g : Flags) →
    is_front name ≡ false → FrontAt options cells name g
other-front options cells (s.Flow flow.Start) g e = cc
other-front options cells (s.Document document.FlowInside) g e = cc
other-front options cells name g e = tt

-- by the leaf that the line meets
pub front-met : (options : ParseOptions) (cells : List Cell) (g : Flags) → g.blank ≡ false →
    FrontAt options cells (leaf_front (is_some (asked_first g.leaf))) g
front-met options cells g blank = go (asked_first g.leaf) refl
  where
    go : (o : Option LeafName) → asked_first g.leaf ≡ o → FrontAt options cells (leaf_front (is_some o)) g
    go None e = (λ some. blank, λ l asked. let bad = sym e ∙ asked in cc)
    go (Some l) e = blank

-- The line has met this, until a leaf was taken.
abbrev pub HasMetAt : ParseOptions → List Cell → StateName → Flags → HeldLeaf → Type 0
HasMetAt options cells name g still = HasMet g.leaf still × FrontAt options cells name g

abbrev pub MeetsAt : ParseOptions → List Cell → State → Flags → HeldLeaf → Type 0
MeetsAt options cells t g still = IsPast t ⊎ (HasMet g.leaf still × IsFront options cells t g)

pub met-named : (options : ParseOptions) (cells : List Cell) (t : State) (name : StateName) (g : Flags)
    (still : HeldLeaf) → plain t ≡ Next name → MeetsAt options cells t g still →
    (is_past name ≡ true) ⊎ HasMetAt options cells name g still
met-named options cells Ok name g still e meets = cc
met-named options cells Nok name g still e meets = cc
met-named options cells Error name g still e meets = cc
met-named options cells (Next m) name g still e (inl past) =
    let same : m ≡ name = cc in inl (ap is_past (sym same) ∙ past)
met-named options cells (Next m) name g still e (inr met) =
    let same : m ≡ name = cc in inr (met.0, subst (λ (x : StateName). FrontAt options cells x g) same met.1)
met-named options cells (Retry m) name g still e (inl past) =
    let same : m ≡ name = cc in inl (ap is_past (sym same) ∙ past)
met-named options cells (Retry m) name g still e (inr met) =
    let same : m ≡ name = cc in inr (met.0, subst (λ (x : StateName). FrontAt options cells x g) same met.1)

pub met-before : (options : ParseOptions) (cells : List Cell) (name : StateName) (g : Flags) (still : HeldLeaf) →
    is_past name ≡ false → (is_past name ≡ true) ⊎ HasMetAt options cells name g still →
    HasMetAt options cells name g still
met-before options cells name g still before (inl past) = let bad = sym before ∙ past in cc
met-before options cells name g still before (inr met) = met

-- Leaves.

-- the first state of a leaf that is asked first is called where this leaf is
abbrev pub IsAskedAt : StateName → HeldLeaf → Type 0
IsAskedAt (s.CodeIndented code.FurtherStart) on = asked_first on ≡ Some CodeFurther
IsAskedAt (s.RawFlow raw.AtNonLazyBreak) on = asked_first on ≡ Some FenceFurther
IsAskedAt (s.HtmlFlow html.ContinuationStart) on = asked_first on ≡ Some HtmlFurther
IsAskedAt name on = Unit {0}

asked-at : (l : LeafName) (on : HeldLeaf) → asked_first on ≡ Some l → IsAskedAt (leaf l).start on
asked-at CodeFurther on e = e
asked-at FenceFurther on e = e
asked-at HtmlFurther on e = e
asked-at CodeIndented on e = tt
asked-at Fence on e = tt
asked-at HtmlFlow on e = tt
asked-at HeadingAtx on e = tt
asked-at HeadingSetext on e = tt
asked-at ThematicBreak on e = tt
asked-at GfmTable on e = tt

-- any other leaf may be tried on any, and none is asked first after it
record IsTried (l : LeafName) : Type 0 where
  asked : (on : HeldLeaf) → (leaf l).asked on ≡ true
  at : (on : HeldLeaf) → IsAskedAt (leaf l).start on
  next : is_front (s.Flow (next_of l)) ≡ false

abbrev FirstTried : List LeafName → Type 0
FirstTried [] = Unit {0}
FirstTried (l ∷ ls) = IsTried l × (is_front (s.Flow (front_of ls)) ≡ false)

row-tried : (b : ℕ) → FirstTried (row b)
unfolding row
row-tried b =
    go (b == 35) (b == 36 || b == 96 || b == 126) (b == 42 || b == 95) (b == 45) (b == 61) (b == 60)
  where
    go : (h f m u e t : Bool) →
        FirstTried
        (cond h (HeadingAtx ∷ GfmTable ∷ [])
        (cond f (Fence ∷ GfmTable ∷ [])
        (cond m (ThematicBreak ∷ GfmTable ∷ [])
        (cond u (HeadingSetext ∷ ThematicBreak ∷ GfmTable ∷ [])
        (cond e (HeadingSetext ∷ GfmTable ∷ []) (cond t (HtmlFlow ∷ GfmTable ∷ []) (GfmTable ∷ [])))))))
    go true f m u e t = (record { asked = λ on. refl; at = λ on. tt; next = refl }, refl)
    go false true m u e t = (record { asked = λ on. refl; at = λ on. tt; next = refl }, refl)
    go false false true u e t = (record { asked = λ on. refl; at = λ on. tt; next = refl }, refl)
    go false false false true e t = (record { asked = λ on. refl; at = λ on. tt; next = refl }, refl)
    go false false false false true t = (record { asked = λ on. refl; at = λ on. tt; next = refl }, refl)
    go false false false false false true = (record { asked = λ on. refl; at = λ on. tt; next = refl }, refl)
    go false false false false false false = (record { asked = λ on. refl; at = λ on. tt; next = refl }, refl)

state-tried : (state : FlowState) (l : LeafName) → tried_at state ≡ Some l → IsTried l
state-tried flow.BeforeCodeIndented CodeIndented e = record { asked = λ on. refl; at = λ on. tt; next = refl }
state-tried flow.BeforeRaw Fence e = record { asked = λ on. refl; at = λ on. tt; next = refl }
state-tried flow.BeforeHtml HtmlFlow e = record { asked = λ on. refl; at = λ on. tt; next = refl }
state-tried flow.BeforeHeadingAtx HeadingAtx e = record { asked = λ on. refl; at = λ on. tt; next = refl }
state-tried flow.BeforeHeadingSetext HeadingSetext e = record { asked = λ on. refl; at = λ on. tt; next = refl }
state-tried flow.BeforeThematicBreak ThematicBreak e = record { asked = λ on. refl; at = λ on. tt; next = refl }
state-tried flow.BeforeGfmTable GfmTable e = record { asked = λ on. refl; at = λ on. tt; next = refl }
state-tried _ _ e = cc

leaf-low : (l : LeafName) → flow_table_scheme.level (leaf l).start ≤ 2
leaf-low CodeIndented = omega arith
leaf-low CodeFurther = omega arith
leaf-low Fence = omega arith
leaf-low FenceFurther = omega arith
leaf-low HtmlFlow = omega arith
leaf-low HtmlFurther = omega arith
leaf-low HeadingAtx = omega arith
leaf-low HeadingSetext = omega arith
leaf-low ThematicBreak = omega arith
leaf-low GfmTable = omega arith

past-end : (ends : Bool) → is_past (s.Flow (leaf_end ends)) ≡ true
past-end true = refl
past-end false = refl

-- Attempts.

-- What is tried: a leaf, a blank line or a line of text.
pub data Tried (options : ParseOptions) (cells : List Cell) (start : StateName) (nok : State) (g : Flags)
    (still : HeldLeaf) : Type 0 where
  AtLeaf : (l : LeafName) → start ≡ (leaf l).start → (leaf l).asked g.leaf ≡ true → IsAskedAt start g.leaf →
      HasMet g.leaf still → ((leaf l).takes options g.leaf cells ≡ false → IsFront options cells nok g) →
      Tried options cells start nok g still
  AtBlank : start ≡ s.BlankLine blank_line.Start → HasMet g.leaf still → IsFront options cells nok g →
      Tried options cells start nok g still
  AtText : start ≡ s.Content content.ChunkStart → nok ≡ Nok → Tried options cells start nok g still

-- where it refuses the line, this is met there
abbrev pub MeetsAfter : ParseOptions → List Cell → State → HeldLeaf → Outcome → Type 0
MeetsAfter options cells nok still (Accepts h rest) = Unit {0}
MeetsAfter options cells nok still (Refuses scratch g) = MeetsAt options cells nok g still
MeetsAfter options cells nok still Fails = Unit {0}

leaf-after : (options : ParseOptions) (l : LeafName) (cells : List Cell) (h : Here) (nok : State) (still : HeldLeaf) →
    IsRest h.scratch → length cells ≤ any_size → (leaf l).asked h.flags.leaf ≡ true → HasMet h.flags.leaf still →
    ((leaf l).takes options h.flags.leaf cells ≡ false → IsFront options cells nok h.flags) →
    MeetsAfter options cells nok still ((leaf l).trial options cells h)
leaf-after options l cells h nok still rest few asked met front = go ((leaf l).takes options h.flags.leaf cells) refl
  where
    go : (x : Bool) → (leaf l).takes options h.flags.leaf cells ≡ x →
        MeetsAfter options cells nok still ((leaf l).trial options cells h)
    go true e = subst (MeetsAfter options cells nok still) (sym ((laws l).took options cells h rest few e)) tt
    go false e =
        subst (MeetsAfter options cells nok still) (sym ((laws l).refused options cells h asked rest e))
        (inr (met, front e))

blank-after : (options : ParseOptions) (cells : List Cell) (h : Here) (nok : State) (still : HeldLeaf) →
    HasMet h.flags.leaf still → IsFront options cells nok h.flags →
    MeetsAfter options cells nok still (blank_at cells h)
unfolding blank_at
blank-after options cells h nok still met front = go (is_blank (line_bytes cells))
  where
    after : Here
    after = record h { events = h.events ++ blank_events cells h.point; point = line_end cells h.point }

    go : (x : Bool) →
        MeetsAfter options cells nok still
        (cond x (Accepts after (from_ending cells)) (Refuses h.scratch h.flags))
    go true = tt
    go false = inr (met, front)

text-after : (options : ParseOptions) (cells : List Cell) (still : HeldLeaf) (o : Outcome) →
    MeetsAfter options cells Nok still o
text-after options cells still (Accepts h rest) = tt
text-after options cells still (Refuses scratch g) = inl tt
text-after options cells still Fails = tt

pub tried-after : (under : Setting) (feed : Feed) (w : World) (start : StateName) (nok : State) (still : HeldLeaf) →
    IsRest w.scratch → length (feed w.point) ≤ any_size →
    Tried under.options (feed w.point) start nok w.flags still →
    MeetsAfter under.options (feed w.point) nok still
    (whole_outcome (line_behaves under) feed (Retry start) (record w { frames = [] }))
tried-after under feed w start nok still rest few (AtLeaf l is asked at met front) =
    subst (MeetsAfter under.options (feed w.point) nok still)
    (sym
    (ap (λ (m : StateName). line_behaves under m (feed w.point) (here w)) is
    ∙ (leaf-states l).starts under.bytes under.options line_stop (feed w.point) (here w)))
    (leaf-after under.options l (feed w.point) (here w) nok still rest few asked met front)
tried-after under feed w start nok still rest few (AtBlank is met front) =
    subst (MeetsAfter under.options (feed w.point) nok still)
    (sym (ap (λ (m : StateName). line_behaves under m (feed w.point) (here w)) is))
    (blank-after under.options (feed w.point) (here w) nok still met front)
tried-after under feed w start nok still rest few (AtText is none) =
    subst
    (λ (to : State).
    MeetsAfter under.options (feed w.point) to still
    (whole_outcome (line_behaves under) feed (Retry start) (record w { frames = [] })))
    (sym none) (text-after under.options (feed w.point) still _)

-- Calls.

-- a state sees the byte of the first cell
pub first-seen : (feed : Feed) (w : World) → Sees feed w → w.current ≡ first_seen (feed w.point)
first-seen feed w sees = go w.current sees.next
  where
    go : (o : Option ℕ) → feed w.point ≡ ahead feed w o → o ≡ first_seen (feed w.point)
    go None next = sym (ap first_seen next)
    go (Some b) next = sym (ap first_seen next)

abbrev pub frame_of : World → StateName → StateName → Frame
frame_of w ok nok = record { ok = Next ok; nok = Next nok; is_check = false; events_len = length w.events; point = w.point }

-- another state follows, or a leaf is tried
pub data FlowLeads (options : ParseOptions) (feed : Feed) (still : HeldLeaf) (w : World) (x : Transition) : Type 0 where
  Follows_on : IsFlow x.to → x.world.frames ≡ w.frames →
      MeetsAt options (feed x.world.point) x.to x.world.flags still → FlowLeads options feed still w x
  Tries_leaf : (start : StateName) (f : Frame) → IsFlow f.ok → IsFlow f.nok → IsPast f.ok →
      x.world.frames ≡ f ∷ w.frames → flow_table_scheme.level start ≤ 2 → x.to ≡ Retry start →
      x.world.scratch ≡ w.scratch → f.point ≡ x.world.point →
      Tried options (feed x.world.point) start f.nok x.world.flags still → FlowLeads options feed still w x

module _ (options : ParseOptions) (feed : Feed) (still : HeldLeaf) where
  trial : (w v : World) (start ok nok : StateName) (may : Bool) → v.frames ≡ w.frames → v.scratch ≡ w.scratch →
      flow_table_scheme.level start ≤ 2 → is_flow ok ≡ true → is_flow nok ≡ true → is_past ok ≡ true →
      HasMet v.flags.leaf still → (may ≡ false → FrontAt options (feed v.point) nok v.flags) →
      Tried options (feed v.point) start (Next nok) v.flags still →
      FlowLeads options feed still w (trial_code start ok nok v may)
  trial w v start ok nok true same kept low on otherwise past met front tried =
      Tries_leaf start (frame_of v ok nok) on otherwise past (ap (λ (fs : List Frame). frame_of v ok nok ∷ fs) same) low
      refl kept refl tried
  trial w v start ok nok false same kept low on otherwise past met front tried =
      Follows_on otherwise same (inr (met, front refl))

  leaf-leads : (w v : World) (l : LeafName) (nok : StateName) (may : Bool) → v.frames ≡ w.frames →
      v.scratch ≡ w.scratch → is_flow nok ≡ true → is_front nok ≡ false → IsTried l → HasMet v.flags.leaf still →
      FlowLeads options feed still w (trial_code (leaf l).start (s.Flow (leaf_end (leaf l).ends)) nok v may)
  leaf-leads w v l nok may same kept otherwise other is met =
      trial w v (leaf l).start _ nok may same kept (leaf-low l) refl otherwise (past-end (leaf l).ends) met
      (λ e. other-front options (feed v.point) nok v.flags other)
      (AtLeaf l refl (is.asked v.flags.leaf) (is.at v.flags.leaf) met
      (λ e. other-front options (feed v.point) nok v.flags other))

  row-leads : (w : World) (ls : List LeafName) → FirstTried ls → HasMet w.flags.leaf still →
      FlowLeads options feed still w (row_transition ls w)
  row-leads w [] is met = Follows_on refl refl (inr (met, tt))
  row-leads w (l ∷ ls) is met = leaf-leads w w l (s.Flow (front_of ls)) true refl refl refl is.1 is.0 met

  start-leads : (w : World) (o : Option ℕ) → HasMet w.flags.leaf still →
      FlowLeads options feed still w (start_code w o)
  start-leads w None met = Follows_on refl refl (inr (met, tt))
  start-leads w (Some b) met = go _
    where
      go : (x : Bool) → FlowLeads options feed still w (start_by w b x)
      go true = Follows_on refl refl (inr (met, tt))
      go false = row-leads w (row b) (row-tried b) met

  blank-leads : (w : World) (ends may : Bool) → HasMet w.flags.leaf still →
      FlowLeads options feed still w (blank_line_code w ends may)
  blank-leads w true may met = Follows_on refl refl (inl refl)
  blank-leads w false may met =
      trial w w (s.BlankLine blank_line.Start) _ _ may refl refl (omega arith) refl refl refl met (λ e. tt)
      (AtBlank refl met tt)

  state-leads : (w : World) (o : Option LeafName) → ((l : LeafName) → o ≡ Some l → IsTried l) →
      HasMet w.flags.leaf still → FlowLeads options feed still w (leaf_transition o w)
  state-leads w None is met = Follows_on tt refl (inl tt)
  state-leads w (Some l) is met =
      let tried = is l refl in leaf-leads w w l (s.Flow (next_of l)) _ refl refl refl tried.next tried met

  inside-leads : (w : World) (o : Option LeafName) → asked_first w.flags.leaf ≡ o → HasMet w.flags.leaf still →
      w.flags.blank ≡ false → w.current ≡ first_seen (feed w.point) → FlowLeads options feed still w (inside_code w o)
  inside-leads w None e met blank seen =
      Follows_on refl refl (inr (met, (λ some. blank, λ l asked. let bad = sym e ∙ asked in cc)))
  inside-leads w (Some l) e met blank seen =
      trial w _ (leaf l).start _ _ true refl refl (leaf-low l) refl refl refl met (λ no. cc)
      (AtLeaf l refl (insider-asked w.flags.leaf l e) (asked-at l w.flags.leaf e) met
      (λ no. (something, λ k asked. same k (sym e ∙ asked) no)))
    where
      something : is_blank (line_bytes (feed w.point)) ≡ false → nothing_is_here w.current w.point ≡ false
      something some =
          ap (λ (o : Option ℕ). nothing_is_here o w.point) seen ∙ something-is (feed w.point) w.point some

      same : (k : LeafName) → Some l ≡ Some k → (leaf l).takes options w.flags.leaf (feed w.point) ≡ false →
          (leaf k).takes options w.flags.leaf (feed w.point) ≡ false
      same k one refused =
          let name : k ≡ l = cc in
          ap (λ (m : LeafName). (leaf m).takes options w.flags.leaf (feed w.point)) name ∙ refused

  own-leads : (w : World) (state : FlowState) →
      (is_past (s.Flow state) ≡ true) ⊎ HasMetAt options (feed w.point) (s.Flow state) w.flags still →
      FlowLeads options feed still w (flow_transition (s.Flow state) w)
  own-leads w flow.Start met =
      start-leads w w.current (met-before options (feed w.point) (s.Flow flow.Start) w.flags still refl met).0
  own-leads w flow.BlankLineBefore met =
      blank-leads w _ _ (met-before options (feed w.point) (s.Flow flow.BlankLineBefore) w.flags still refl met).0
  own-leads w flow.BeforeContent met =
      Tries_leaf (s.Content content.ChunkStart)
      (record {
        ok = Next (s.Flow flow.After);
        nok = Nok;
        is_check = false;
        events_len = length w.events;
        point = w.point;
      }) refl tt refl refl (omega arith) refl refl refl (AtText refl refl)
  own-leads w flow.BlankLineAfter met = Follows_on refl refl (inl refl)
  own-leads w flow.LeafAfter met = Follows_on refl refl (inl refl)
  own-leads w flow.After met = Follows_on refl refl (inl refl)
  own-leads w state met =
      state-leads w (tried_at state) (state-tried state)
      (met-before options (feed w.point) (s.Flow state) w.flags still refl met).0

  end-leads : (w v : World) (o : Option ℕ) → v.frames ≡ w.frames → feeds (s.Document document.FlowEnd) o ≡ 0 →
      FlowLeads options feed still w (flow_end_code v o)
  end-leads w v None same none = Follows_on tt same (inl tt)
  end-leads w v (Some b) same none = go (b == 10) refl none
    where
      over : Transition
      over = flow_end_code v (Some 10)

      refused : Transition
      refused = record { to = Nok; world = v }

      go : (x : Bool) → (b == 10) ≡ x → (let lines : ℕ = cond x 1 0 in lines ≡ 0) →
          FlowLeads options feed still w (flow_end_code v (Some b))
      go true e none = cc
      go false e none = rw e (by same)
        where
          by : v.frames ≡ w.frames → FlowLeads options feed still w refused
          by same = Follows_on tt same (inl tt)

  pub flow-leads : (name : StateName) (w : World) → is_flow name ≡ true → feeds name w.current ≡ 0 →
      w.current ≡ first_seen (feed w.point) →
      (is_past name ≡ true) ⊎ HasMetAt options (feed w.point) name w.flags still →
      FlowLeads options feed still w (flow_transition name w)
  flow-leads (s.Flow state) w is none seen met = own-leads w state met
  flow-leads (s.Document document.FlowInside) w is none seen met =
      let at = met-before options (feed w.point) (s.Document document.FlowInside) w.flags still refl met in
      inside-leads w (asked_first w.flags.leaf) refl at.0 at.1 seen
  flow-leads (s.Document document.FlowEnd) w is none seen met =
      end-leads w (closed w (kept_containers w.flags) w.flags.line_end) w.current refl none
  flow-leads (s.Document state) w is none seen met = cc
  flow-leads name w is none seen met = cc

-- the tokenizer is at rest at each of them
pub flow-rest : (name : StateName) (v : World) → is_flow name ≡ true → valid flow_table_scheme v (Next name) →
    IsRest v.scratch
flow-rest (s.Flow flow.Start) v is at = at.0.0
flow-rest (s.Flow flow.BlankLineBefore) v is at = at.0.0
flow-rest (s.Flow flow.BeforeContent) v is at = at.0.0
flow-rest (s.Flow flow.BlankLineAfter) v is at = at.0.0
flow-rest (s.Flow flow.LeafAfter) v is at = at.0.0
flow-rest (s.Flow flow.After) v is at = at.0.0
flow-rest (s.Flow state) v is at = at.0.0
flow-rest (s.Document document.FlowInside) v is at = at.0.0
flow-rest (s.Document document.FlowEnd) v is at = at.0.0
flow-rest (s.Document state) v is at = cc
flow-rest name v is at = cc

-- First states.

-- Where a call tries a leaf, at rest, this is met.
pub record IsTriedAt (l : LeafName) (w new : World) (still : HeldLeaf) : Type 0 where
  pub scratch : new.scratch ≡ w.scratch
  pub met : HasMet new.flags.leaf still
  pub asked : IsAskedAt (first_state l) new.flags.leaf

not-flow : (l : LeafName) → is_flow (first_state l) ≡ true → ⊥
not-flow CodeIndented e = cc
not-flow CodeFurther e = cc
not-flow Fence e = cc
not-flow FenceFurther e = cc
not-flow HtmlFlow e = cc
not-flow HtmlFurther e = cc
not-flow HeadingAtx e = cc
not-flow HeadingSetext e = cc
not-flow ThematicBreak e = cc
not-flow GfmTable e = cc

not-shared : (l : LeafName) → is_shared (first_state l) ≡ true → ⊥
not-shared CodeIndented e = cc
not-shared CodeFurther e = cc
not-shared Fence e = cc
not-shared FenceFurther e = cc
not-shared HtmlFlow e = cc
not-shared HtmlFurther e = cc
not-shared HeadingAtx e = cc
not-shared HeadingSetext e = cc
not-shared ThematicBreak e = cc
not-shared GfmTable e = cc

pub leads-tried : (options : ParseOptions) (feed : Feed) (still : HeldLeaf) (w : World) (x : Transition)
    (l : LeafName) → FlowLeads options feed still w x → x.to ≡ Retry (first_state l) → IsTriedAt l w x.world still
leads-tried options feed still w x l (Follows_on to frames met) e = absurd (not-flow l (subst IsFlow e to))
leads-tried options feed still w x l
    (Tries_leaf start f ok nok past frames low to kept point (AtLeaf k is asked at met front)) e =
    let same : start ≡ first_state l = let both = sym to ∙ e in cc in
    record { scratch = kept; met = met; asked = subst (λ (m : StateName). IsAskedAt m x.world.flags.leaf) same at }
leads-tried options feed still w x l
    (Tries_leaf start f ok nok past frames low to kept point (AtBlank is met front)) e =
    let same : start ≡ first_state l = let both = sym to ∙ e in cc in
    absurd (not-shared l (ap is_shared (sym same ∙ is)))
leads-tried options feed still w x l (Tries_leaf start f ok nok past frames low to kept point (AtText is none)) e =
    let same : start ≡ first_state l = let both = sym to ∙ e in cc in
    absurd (not-shared l (ap is_shared (sym same ∙ is)))

-- Which leaf is open where one is asked first.

-- as a lazy line meets it, none is asked
lazy-lines : (on : HeldLeaf) → has_lines (lazy_of on) ≡ false
lazy-lines (held_leaf.Text at) = refl
lazy-lines (held_leaf.LazyText at) = refl
lazy-lines _ = refl

pub lazy-other : (open_leaf : Leaf) (l : LeafName) → asked_first (met_by false (kind_of_leaf open_leaf)) ≡ Some l → ⊥
lazy-other open_leaf l e =
    let none = insider-none (lazy_of (kind_of_leaf open_leaf)) (lazy-lines (kind_of_leaf open_leaf)) in
    let bad : None ≡ Some l = sym none ∙ e in cc

fence-code : (x : Bool) → cond x (Some FenceFurther) None ≡ Some CodeFurther → ⊥
fence-code true e = cc
fence-code false e = cc

fence-html : (x : Bool) → cond x (Some FenceFurther) None ≡ Some HtmlFurther → ⊥
fence-html true e = cc
fence-html false e = cc

pub asked-leaf : (l : LeafName) (all : Bool) (open_leaf : Leaf) →
    IsAskedAt (first_state l) (met_by all (kind_of_leaf open_leaf)) → IsAsked l all open_leaf
unfolding asked_first
asked-leaf CodeIndented all open_leaf e = tt
asked-leaf Fence all open_leaf e = tt
asked-leaf HtmlFlow all open_leaf e = tt
asked-leaf HeadingAtx all open_leaf e = tt
asked-leaf HeadingSetext all open_leaf e = tt
asked-leaf ThematicBreak all open_leaf e = tt
asked-leaf GfmTable all open_leaf e = tt
asked-leaf CodeFurther false open_leaf e = absurd (lazy-other open_leaf CodeFurther e)
asked-leaf CodeFurther true (OpenCode lines) e = tt
asked-leaf CodeFurther true (OpenFence o lines) e = absurd (fence-code _ e)
asked-leaf CodeFurther true NoLeaf e = cc
asked-leaf CodeFurther true (OpenParagraph lines) e = cc
asked-leaf CodeFurther true (OpenTable delimiter rows) e = cc
asked-leaf CodeFurther true (OpenHtml how lines) e = cc
asked-leaf FenceFurther false open_leaf e = absurd (lazy-other open_leaf FenceFurther e)
asked-leaf FenceFurther true (OpenFence o lines) e = tt
asked-leaf FenceFurther true NoLeaf e = cc
asked-leaf FenceFurther true (OpenParagraph lines) e = cc
asked-leaf FenceFurther true (OpenTable delimiter rows) e = cc
asked-leaf FenceFurther true (OpenHtml how lines) e = cc
asked-leaf FenceFurther true (OpenCode lines) e = cc
asked-leaf HtmlFurther false open_leaf e = absurd (lazy-other open_leaf HtmlFurther e)
asked-leaf HtmlFurther true (OpenHtml how lines) e = tt
asked-leaf HtmlFurther true (OpenFence o lines) e = absurd (fence-html _ e)
asked-leaf HtmlFurther true NoLeaf e = cc
asked-leaf HtmlFurther true (OpenParagraph lines) e = cc
asked-leaf HtmlFurther true (OpenTable delimiter rows) e = cc
asked-leaf HtmlFurther true (OpenCode lines) e = cc
