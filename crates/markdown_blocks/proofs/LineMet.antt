-- Where the containers of a line are all there, the tokenizer holds the leaf that was open before the line, or none
-- where a container has opened.
--
-- A run of flow is followed over each line: between attempts it is at a state of the document or of flow, and an attempt
-- ends as the cells of the line say (`Passed`).
use Rattle.std.proofs.Common.{◌≡◌, ◌⊎◌, inl, inr, ℕ, suc, ◌+◌, ◌^◌, ◌<◌, ◌≤◌, Bool, true, false, cond, List, [], ◌∷◌, ◌++◌}
use Rattle.std.proofs.Common.{length, take, Option, Some, None, refl, sym, ap, ◌∙◌, subst, subst₂, append-nil, append_assoc}
use Rattle.std.proofs.Common.{arith}
use Rattle.std.specs.Prelude.{nat_lt, not, slice_get, slice_set}
use Rattle.std.specs.Option.{is_some}
use Rattle.std.proofs.lemmas.Bool.{lt-ltb}
use Rattle.std.proofs.lemmas.List.{length-append}
use Rattle.std.proofs.lemmas.Option.{slice_get_past}
use Rattle.md_engine.specs.declared.configuration.ParseOptions.{ParseOptions}
use Rattle.md_engine.specs.declared.event.Point.{Point}
use Rattle.md_engine.specs.declared.state.Name.{Name as StateName}
use Rattle.md_engine.specs.declared.state.Name.TheVariants as s
use Rattle.md_engine.specs.declared.state.document.State.{State as DocumentState}
use Rattle.md_engine.specs.declared.state.document.State.TheVariants as document
use Rattle.md_engine.specs.declared.state.State.{State}
use Rattle.md_engine.specs.declared.state.State.TheVariants.{Error, Ok, Nok, Next, Retry}
use Rattle.md_engine.specs.declared.tokenizer.Frame.{Frame}
use Rattle.md_engine.specs.declared.tokenizer.container.Container.{Container as Held}
use Rattle.md_engine.specs.declared.tokenizer.container.name.ContainerKind.{ContainerKind}
use Rattle.md_engine.specs.declared.tokenizer.container.name.ContainerKind.TheVariants as kind
use Rattle.md_engine.specs.declared.tokenizer.held_leaf.HeldLeaf.{HeldLeaf}
use Rattle.md_engine.specs.declared.tokenizer.held_leaf.HeldLeaf.TheVariants as held_leaf
use Rattle.md_engine.specs.Meaning.{Feed, Follows, Here, Outcome, here, proceeds}
use Rattle.md_engine.specs.Meaning.{whole_outcome}
use Rattle.md_engine.specs.Run.{Calls, IsEnd, Leaves, Runs, leads_back, left, next_of, plain, reading}
use Rattle.md_engine.specs.Run.Runs.{Stays, ThenCalls, ThenLeaves}
use Rattle.md_engine.specs.Scheme.{state_level, valid}
use Rattle.md_engine.specs.World.{Flags, Setting, World, closed, container_of, looks}
use Rattle.md_engine.proofs.Keeps.{runs-setting}
use Rattle.md_engine.proofs.StepOf.{sees}
use Rattle.md_containers.specs.Interrupts.{interrupts}
use Rattle.md_events.specs.Look.{looks_after, may_with}
use Rattle.md_events.specs.Spaces.{IsRest, any_size, ends_line}
use Rattle.md_events.specs.Transition.{Transition}
use Rattle.md_meaning.specs.State.{Container}
use Rattle.md_registry.proofs.Registry.{container-laws, container-states}
use Rattle.md_registry.proofs.RegistryContainers.{further-is, proceeds-same}
use Rattle.md_registry.specs.Flow.{existing_before_code, flow_end_code, following_all, leaf_front, trial_code}
use Rattle.md_registry.specs.FlowRule.{feeds}
use Rattle.md_registry.specs.LineFlags.{asking, begun_line, kept_containers, next_container, was_continued}
use Rattle.md_registry.specs.Registry.{MatchesContainer, asked_first, bars_containers, container_rules, continues_with}
use Rattle.md_registry.specs.Registry.{may_continue, next_opener, opener_front, openers}
use Rattle.md_registry.specs.Registry.{opens_with, proceeds_at}
use Rattle.md_registry.specs.States.{FlowStep, flow_table_scheme, flow_transition}
use Rattle.proof_frame.specs.HeldLeaf.{met_by}
use Rattle.proof_frame.specs.Passed.{Passed, passed_by, passed_here}
use Rattle.proof_rows.proofs.FlowHeld.{IsNext, open-length, open-next}
use Rattle.proof_rows.specs.TextRows.{text_rows, text_setting}
use Rattle.proof_rows.specs.Valid.{AreOpen}
use Rattle.markdown_blocks.specs.Fed.{fed, flow_begins, line_begins}
use Rattle.markdown_blocks.proofs.Attempts.{not-ended}
use Rattle.markdown_blocks.proofs.FlowTries.{Continues, Ended, Tries, TriesLeft, called-low, tries-calls, tries-leaves}
use Rattle.markdown_blocks.proofs.LeafTried.{FlowLeads, Follows_on, HasMet, IsFlow, IsPast, MeetsAfter, MeetsAt}
use Rattle.markdown_blocks.proofs.LeafTried.{Tries_leaf, called-flow, first-seen, flow-leads, flow-rest, frame_of}
use Rattle.markdown_blocks.proofs.LeafTried.{front-met, is_flow, met-named, tried-after}
use Rattle.markdown_blocks.proofs.LinesFed.{LineFed, leaf_after, line-fed, line_behaves, line_stop, none-or-ending}
use Rattle.markdown_blocks.proofs.LinesFed.{open_after, text-within}

-- What is held.

-- this leaf, before any container has opened on the line
abbrev pub Keeps : Flags → HeldLeaf → Type 0
Keeps g still = (g.leaf ≡ still) × (g.blank ≡ false)

-- it, or none where one has
abbrev pub Meets : Flags → HeldLeaf → Type 0
Meets g still = ((g.leaf ≡ still) ⊎ (g.leaf ≡ held_leaf.None)) × (g.blank ≡ false)

keeps-meets : (g : Flags) (still : HeldLeaf) → Keeps g still → Meets g still
keeps-meets g still keeps = (inl keeps.0, keeps.1)

-- States.

-- those before a container that may open, and after all
abbrev pub is_between : DocumentState → Bool
is_between document.ContainersAfter = true
is_between document.ContainerNewBefore = true
is_between document.ContainerNewBeforeNotBlockQuote = true
is_between document.ContainerNewBeforeNotList = true
is_between state = false

between-all : (x : Bool) → is_between (following_all x) ≡ true
between-all true = refl
between-all false = refl

between-next : (k : ContainerKind) → is_between (next_opener k) ≡ true
between-next kind.BlockQuote = refl
between-next kind.ListItem = refl
between-next kind.GfmFootnoteDefinition = refl

container-low : (k : ContainerKind) →
    (flow_table_scheme.level (continues_with k) ≤ 2) × (flow_table_scheme.level (opens_with k) ≤ 2)
container-low kind.BlockQuote = (omega arith, omega arith)
container-low kind.ListItem = (omega arith, omega arith)
container-low kind.GfmFootnoteDefinition = (omega arith, omega arith)

-- Attempts, each begun at a point, and continued at these states.
pub record IsTrial (f : Frame) (ok nok : StateName) : Type 0 where
  pub ok_is : f.ok ≡ Next ok
  pub nok_is : f.nok ≡ Next nok
  pub moves_on : f.is_check ≡ false

-- An open container is asked.
pub record Asking (under : Setting) (feed : Feed) (still : HeldLeaf) (t : State) (v : World) : Type 0 where
  pub done : List Container
  pub c : Container
  pub cs : List Container
  pub begin : Here
  pub is : MatchesContainer begin.flags.asked c
  pub put_back : (k : Held) (d : Container) → MatchesContainer k d →
      AreOpen (slice_set begin.flags.containers (length done) k) (done ++ (d ∷ cs))
  pub inside : length done < length begin.flags.containers
  pub continued : begin.flags.continued ≡ length done
  pub keeps : Keeps begin.flags still
  pub f : Frame
  pub trial : IsTrial f (s.Document document.ContainerExistingAfter) (s.Document (opener_front openers))
  pub tries : Tries under feed f (passed_by (proceeds_at under.options c (feed begin.point) begin.point) begin) t v

-- One that may open is tried.
pub record Opening (under : Setting) (feed : Feed) (still : HeldLeaf) (t : State) (v : World) : Type 0 where
  pub k : ContainerKind
  pub begin : Here
  pub meets : Meets begin.flags still
  pub f : Frame
  pub trial : IsTrial f (s.Document document.ContainerNewAfter) (s.Document (next_opener k))
  pub tries : Tries under feed f
      (passed_by
      ((container_rules k).opens under.options (interrupts begin.flags) (feed begin.point) begin.point) begin) t v

-- A leaf is tried.
pub record InLeaf (under : Setting) (feed : Feed) (still : HeldLeaf) (t : State) (v : World) : Type 0 where
  pub f : Frame
  pub ok : IsFlow f.ok
  pub nok : IsFlow f.nok
  pub past : IsPast f.ok
  pub o : Outcome
  pub after : MeetsAfter under.options (feed f.point) f.nok still o
  pub tries : Tries under feed f o t v

-- Where a run is on a line.
pub data OnLine (under : Setting) (feed : Feed) (still : HeldLeaf) (t : State) (v : World) : Type 0 where
  Asks : (done cs : List Container) → plain t ≡ Next (s.Document document.ContainerExistingBefore) → v.frames ≡ [] →
      AreOpen v.flags.containers (done ++ cs) → v.flags.continued ≡ length done → Keeps v.flags still →
      OnLine under feed still t v
  IsAsking : Asking under feed still t v → OnLine under feed still t v
  HasAsked : (done cs : List Container) → plain t ≡ Next (s.Document document.ContainerExistingAfter) → v.frames ≡ [] →
      AreOpen (was_continued v.flags).containers (done ++ cs) →
      (was_continued v.flags).continued ≡ length done → Keeps v.flags still → OnLine under feed still t v
  Between : (d : DocumentState) → plain t ≡ Next (s.Document d) → is_between d ≡ true → v.frames ≡ [] →
      Meets v.flags still → OnLine under feed still t v
  IsOpening : Opening under feed still t v → OnLine under feed still t v
  HasOpened : plain t ≡ Next (s.Document document.ContainerNewAfter) → v.frames ≡ [] → v.flags.blank ≡ false →
      OnLine under feed still t v
  IsInLeaf : InLeaf under feed still t v → OnLine under feed still t v
  InFlow : IsFlow t → v.frames ≡ [] → MeetsAt under.options (feed v.point) t v.flags still →
      OnLine under feed still t v

-- Calls.

-- an open container
ask : (under : Setting) (feed : Feed) (still : HeldLeaf) (v : World) → v.setting ≡ under → IsRest v.scratch →
    v.frames ≡ [] → (done cs : List Container) → AreOpen v.flags.containers (done ++ cs) →
    v.flags.continued ≡ length done → Keeps v.flags still → (k : Held) → next_container v.flags ≡ Some k → (may : Bool) →
    let x = trial_code (continues_with k.kind) (s.Document document.ContainerExistingAfter)
    (s.Document (opener_front openers)) (asking k (reading v)) may in
    OnLine under feed still x.to x.world
ask under feed still v kept rest none done cs are at keeps k found false =
    Between (opener_front openers) refl refl none (keeps-meets v.flags still keeps)
ask under feed still v kept rest none done [] are at keeps k found true =
    let all = open-length v.flags.containers (done ++ []) are in
    let same : length (done ++ []) ≡ length done = ap length (append-nil done) in
    let past : slice_get v.flags.containers v.flags.continued ≡
    None = slice_get_past v.flags.containers v.flags.continued (omega (arith, all, same, at)) in
    let bad : Some k ≡ None = sym found ∙ past in cc
ask under feed still v kept rest none done (c ∷ cs) are at keeps k found true =
    IsAsking (record {
      done = done;
      c = c;
      cs = cs;
      begin = begin;
      is = is;
      put_back = first.put_back;
      inside = first.inside;
      continued = at;
      keeps = keeps;
      f = f;
      trial = record { ok_is = refl; nok_is = refl; moves_on = refl };
      tries = record {
        fs = [];
        frames = ap (λ (fs : List Frame). f ∷ fs) none;
        low = (container-low k.kind).0;
        lows = tt;
        becomes =
            (container-states k.kind).continued_is under.bytes under.options line_stop (feed v.point) begin
            ∙ further-is under.options k c (feed v.point) begin rest refl refl is;
      };
    })
  where
    first : IsNext v.flags.containers done c cs
    first = open-next v.flags.containers done c cs are

    is : MatchesContainer k c
    is =
        let one : Some k ≡ Some first.held =
        sym found ∙ ap (λ (n : ℕ). slice_get v.flags.containers n) at ∙ first.found in
        let same : first.held ≡ k = cc in
        subst (λ (h : Held). MatchesContainer h c) same first.is

    begin : Here
    begin = here (asking k (reading v))

    f : Frame
    f = frame_of v (s.Document document.ContainerExistingAfter) (s.Document (opener_front openers))

asks-call : (under : Setting) (feed : Feed) (still : HeldLeaf) (v : World) → v.setting ≡ under → IsRest v.scratch →
    v.frames ≡ [] → (done cs : List Container) → AreOpen v.flags.containers (done ++ cs) →
    v.flags.continued ≡ length done → Keeps v.flags still → (ends : Bool) (o : Option Held) → next_container v.flags ≡ o →
    let x = existing_before_code (reading v) ends o in OnLine under feed still x.to x.world
asks-call under feed still v kept rest none done cs are at keeps true o found =
    Between document.ContainersAfter refl refl none (keeps-meets v.flags still keeps)
asks-call under feed still v kept rest none done cs are at keeps false None found =
    Between (following_all (bars_containers v.flags.leaf)) refl (between-all (bars_containers v.flags.leaf)) none
    (keeps-meets v.flags still keeps)
asks-call under feed still v kept rest none done cs are at keeps false (Some k) found =
    ask under feed still v kept rest none done cs are at keeps k found
    (may_with (may_continue k.kind) (looks_after (reading v)))

-- one that may open
opens-call : (under : Setting) (feed : Feed) (still : HeldLeaf) (v : World) → v.setting ≡ under → IsRest v.scratch →
    v.frames ≡ [] → Meets v.flags still → (k : ContainerKind) (may : Bool) →
    let x = trial_code (opens_with k) (s.Document document.ContainerNewAfter) (s.Document (next_opener k))
    (asking (container_of k) (reading v)) may in
    OnLine under feed still x.to x.world
opens-call under feed still v kept rest none meets k false =
    Between (next_opener k) refl (between-next k) none meets
opens-call under feed still v kept rest none meets k true =
    IsOpening (record {
      k = k;
      begin = begin;
      meets = meets;
      f = f;
      trial = record { ok_is = refl; nok_is = refl; moves_on = refl };
      tries = record {
        fs = [];
        frames = ap (λ (fs : List Frame). f ∷ fs) none;
        low = (container-low k).1;
        lows = tt;
        becomes =
            (container-states k).begins_is under.bytes under.options line_stop (feed v.point) begin
            ∙ (container-laws k).begins_is under.options (interrupts begin.flags) (feed v.point) begin rest refl refl
            refl;
      };
    })
  where
    begin : Here
    begin = here (asking (container_of k) (reading v))

    f : Frame
    f = frame_of v (s.Document document.ContainerNewAfter) (s.Document (next_opener k))

flow-front : (x : Bool) → is_flow (leaf_front x) ≡ true
flow-front true = refl
flow-front false = refl

-- after the containers of a line, the line meets what they leave open
begun-met : (all : Bool) (held still : HeldLeaf) → (held ≡ still) ⊎ (held ≡ held_leaf.None) →
    HasMet (met_by all held) still
begun-met all held still (inl same) = inl (all, ap (met_by all) same)
begun-met true held still (inr none) = inr none
begun-met false held still (inr none) = inr (ap (met_by false) none)

-- any state before the leaf
between-call : (under : Setting) (feed : Feed) (still : HeldLeaf) (v : World) → v.setting ≡ under → IsRest v.scratch →
    v.frames ≡ [] → Meets v.flags still → (d : DocumentState) → is_between d ≡ true →
    let x = flow_transition (s.Document d) (reading v) in OnLine under feed still x.to x.world
between-call under feed still v kept rest none meets document.ContainersAfter is =
    InFlow (flow-front (is_some (asked_first (begun_line v.flags).leaf))) none
    (inr (
      begun-met (not (nat_lt v.flags.continued (length v.flags.containers))) v.flags.leaf still meets.0,
      front-met under.options (feed v.point) (begun_line v.flags) meets.1,
    ))
between-call under feed still v kept rest none meets document.ContainerNewBefore is =
    opens-call under feed still v kept rest none meets kind.BlockQuote _
between-call under feed still v kept rest none meets document.ContainerNewBeforeNotBlockQuote is =
    opens-call under feed still v kept rest none meets kind.ListItem _
between-call under feed still v kept rest none meets document.ContainerNewBeforeNotList is =
    opens-call under feed still v kept rest none meets kind.GfmFootnoteDefinition _
between-call under feed still v kept rest none meets d is = cc

-- a state of flow
flow-call : (under : Setting) (feed : Feed) (still : HeldLeaf) (v : World) → v.frames ≡ [] → IsRest v.scratch →
    ((w : World) → length (feed w.point) ≤ any_size) → (x : Transition) →
    FlowLeads under.options feed still (reading v) x → OnLine under feed still x.to x.world
flow-call under feed still v none rest few x (Follows_on to frames meets) = InFlow to (frames ∙ none) meets
flow-call under feed still v none rest few x (Tries_leaf start f ok nok past frames low to kept point tried) =
    IsInLeaf (record {
      f = f;
      ok = ok;
      nok = nok;
      past = past;
      o = whole_outcome (line_behaves under) feed x.to (record x.world { frames = [] });
      after =
          subst
          (λ (p : Point).
          MeetsAfter under.options (feed p) f.nok still
          (whole_outcome (line_behaves under) feed x.to (record x.world { frames = [] }))) (sym point)
          (subst
          (λ (t : State).
          MeetsAfter under.options (feed x.world.point) f.nok still
          (whole_outcome (line_behaves under) feed t (record x.world { frames = [] }))) (sym to)
          (tried-after under feed x.world start f.nok still (subst IsRest (sym kept) rest) (few x.world) tried));
      tries = record {
        fs = [];
        frames = frames ∙ ap (λ (fs : List Frame). f ∷ fs) none;
        low = subst (λ (t : State). state_level flow_table_scheme t ≤ 2) (sym to) low;
        lows = tt;
        becomes = refl;
      };
    })

-- any call that takes no ending
line-calls : (under : Setting) (feed : Feed) (still : HeldLeaf) (t : State) (v : World) (t' : State) (v' : World) →
    Follows feed under true → v.setting ≡ under → valid flow_table_scheme v (plain t) → OnLine under feed still t v →
    (c : Calls FlowStep true t v t' v') → feeds c.name (looks v) ≡ 0 → OnLine under feed still t' v'
line-calls under feed still t v t' v' follows kept at on c none = go on
  where
    P : State → World → Type 0
    P x w = OnLine under feed still x w

    Q : State → Type 0
    Q x = valid flow_table_scheme v x

    F : Setting → Type 0
    F x = Follows feed x true

    -- so few cells are left
    few : (w : World) → length (feed w.point) ≤ any_size
    few w = let short = follows.short w.point in omega (arith, short)

    -- what the transition of this name leads to
    by : (name : StateName) → c.name ≡ name →
        (let x = flow_transition name (reading v) in OnLine under feed still x.to x.world) → OnLine under feed still t' v'
    by name e is =
        let R : StateName → Type 0 = λ m. (let x = flow_transition m (reading v) in OnLine under feed still x.to x.world) in
        subst₂ P (sym c.step.to_is) (sym c.step.new_is) (subst R (sym e) is)

    named : (name : StateName) → plain t ≡ Next name → c.name ≡ name
    named name to = let e = c.names in cc

    go : OnLine under feed still t v → OnLine under feed still t' v'
    go (Asks done cs to frames are continued keeps) =
        by (s.Document document.ContainerExistingBefore) (named _ to)
        (asks-call under feed still v kept (subst Q to at).0.0 frames done cs are continued keeps (ends_line (looks v))
        (next_container v.flags) refl)
    go (IsAsking a) =
        IsAsking (record {
          done = a.done;
          c = a.c;
          cs = a.cs;
          begin = a.begin;
          is = a.is;
          put_back = a.put_back;
          inside = a.inside;
          continued = a.continued;
          keeps = a.keeps;
          f = a.f;
          trial = a.trial;
          tries = tries-calls under feed a.f _ t v t' v' (subst F (sym kept) follows) kept at a.tries c;
        })
    go (HasAsked done cs to frames are continued keeps) =
        by (s.Document document.ContainerExistingAfter) (named _ to) (Asks done cs refl frames are continued keeps)
    go (Between d to is frames meets) =
        by (s.Document d) (named _ to)
        (between-call under feed still v kept (rest-between d is (subst Q to at)) frames meets d is)
      where
        rest-between : (d : DocumentState) → is_between d ≡ true →
            valid flow_table_scheme v (Next (s.Document d)) → IsRest v.scratch
        rest-between document.ContainersAfter is at = at.0.0
        rest-between document.ContainerNewBefore is at = at.0.0
        rest-between document.ContainerNewBeforeNotBlockQuote is at = at.0.0
        rest-between document.ContainerNewBeforeNotList is at = at.0.0
        rest-between d is at = cc
    go (IsOpening a) =
        IsOpening (record {
          k = a.k;
          begin = a.begin;
          meets = a.meets;
          f = a.f;
          trial = a.trial;
          tries = tries-calls under feed a.f _ t v t' v' (subst F (sym kept) follows) kept at a.tries c;
        })
    go (HasOpened to frames blank) =
        by (s.Document document.ContainerNewAfter) (named _ to)
        (Between (opener_front openers) refl refl frames (inr refl, blank))
    go (IsInLeaf a) =
        IsInLeaf (record {
          f = a.f;
          ok = a.ok;
          nok = a.nok;
          past = a.past;
          o = a.o;
          after = a.after;
          tries = tries-calls under feed a.f a.o t v t' v' (subst F (sym kept) follows) kept at a.tries c;
        })
    go (InFlow is frames meets) =
        let flow : is_flow c.name ≡ true = called-flow t c.name c.names is in
        by c.name refl
        (flow-call under feed still v frames (flow-rest c.name v flow (subst Q c.names at)) few
        (flow_transition c.name (reading v))
        (flow-leads under.options feed still c.name (reading v) flow none
        (first-seen feed (reading v) (sees feed v true (subst F (sym kept) follows) c.may))
        (met-named under.options (feed v.point) t c.name v.flags still c.names meets)))

-- Ends of attempts.

-- one that was asked: it continues, or does not
asked-ends : (under : Setting) (feed : Feed) (still : HeldLeaf) (t : State) (v : World) (t' : State) (v' : World) →
    (a : Asking under feed still t v) → IsEnd t → t' ≡ next_of a.f t → v' ≡ left v [] a.f (leads_back a.f t) →
    proceeds (line_behaves under) t (feed v.point) (here v) ≡
    passed_by (proceeds_at under.options a.c (feed a.begin.point) a.begin.point) a.begin → OnLine under feed still t' v'
asked-ends under feed still t v t' v' a end next new is =
    go t end next new (proceeds_at under.options a.c (feed a.begin.point) a.begin.point) refl is
  where
    go : (x : State) → IsEnd x → t' ≡ next_of a.f x → v' ≡ left v [] a.f (leads_back a.f x) → (o : Option Passed) →
        proceeds_at under.options a.c (feed a.begin.point) a.begin.point ≡ o →
        proceeds (line_behaves under) x (feed v.point) (here v) ≡ passed_by o a.begin → OnLine under feed still t' v'
    go Ok end next new None found is = cc
    go Ok end next new (Some passed) found is =
        let on : v' ≡ left v [] a.f false = new ∙ ap (left v [] a.f) a.trial.moves_on in
        let same : here v ≡ passed_here passed a.begin = cc in
        let flags : v'.flags ≡ (passed_here passed a.begin).flags =
        ap (λ (w : World). w.flags) on ∙ ap (λ (h : Here). h.flags) same in
        let fits : nat_lt a.begin.flags.continued (length a.begin.flags.containers) ≡ true =
        let lt = a.inside in
        let at = a.continued in
        lt-ltb a.begin.flags.continued (length a.begin.flags.containers) (omega (arith, at, lt)) in
        let longer : length (a.done ++ passed.container ∷ []) ≡ suc (length a.done) =
        length-append a.done (passed.container ∷ []) ∙ omega arith in
        let are : AreOpen (was_continued (passed_here passed a.begin).flags).containers
        ((a.done ++ passed.container ∷ []) ++ a.cs) =
        subst
        (λ (cs : List Container). AreOpen (slice_set a.begin.flags.containers a.begin.flags.continued passed.held) cs)
        (sym (append_assoc a.done (passed.container ∷ []) a.cs))
        (subst
        (λ (n : ℕ). AreOpen (slice_set a.begin.flags.containers n passed.held) (a.done ++ (passed.container ∷ a.cs)))
        (sym a.continued)
        (a.put_back passed.held passed.container
        (proceeds-same under.options a.begin.flags.asked a.c (feed a.begin.point) a.begin.point passed a.is found))) in
        let count : (was_continued (passed_here passed a.begin).flags).continued ≡
        length (a.done ++ passed.container ∷ []) =
        ap (λ (x : Bool). cond x (suc a.begin.flags.continued) a.begin.flags.continued) fits ∙ ap suc a.continued
        ∙ sym longer in
        HasAsked (a.done ++ passed.container ∷ []) a.cs (ap plain (next ∙ a.trial.ok_is))
        (ap (λ (w : World). w.frames) on)
        (subst
        (λ (g : Flags). AreOpen (was_continued g).containers ((a.done ++ passed.container ∷ []) ++ a.cs)) (sym flags)
        are)
        (subst (λ (g : Flags). (was_continued g).continued ≡ length (a.done ++ passed.container ∷ [])) (sym flags) count)
        (subst (λ (g : Flags). Keeps g still) (sym flags) a.keeps)
    go Nok end next new (Some passed) found is = cc
    go Nok end next new None found is =
        let same : v.flags ≡ a.begin.flags = cc in
        let flags : v'.flags ≡ a.begin.flags = ap (λ (w : World). w.flags) new ∙ same in
        Between (opener_front openers) (ap plain (next ∙ a.trial.nok_is)) refl (ap (λ (w : World). w.frames) new)
        (subst (λ (g : Flags). Meets g still) (sym flags) (keeps-meets a.begin.flags still a.keeps))
    go Error end next new o found is = absurd end
    go (Next m) end next new o found is = absurd end
    go (Retry m) end next new o found is = absurd end

-- one that was tried: it opens, or does not
opening-ends : (under : Setting) (feed : Feed) (still : HeldLeaf) (t : State) (v : World) (t' : State) (v' : World) →
    (a : Opening under feed still t v) → IsEnd t → t' ≡ next_of a.f t → v' ≡ left v [] a.f (leads_back a.f t) →
    proceeds (line_behaves under) t (feed v.point) (here v) ≡
    passed_by
    ((container_rules a.k).opens under.options (interrupts a.begin.flags) (feed a.begin.point) a.begin.point) a.begin →
    OnLine under feed still t' v'
opening-ends under feed still t v t' v' a end next new is =
    go t end next new
    ((container_rules a.k).opens under.options (interrupts a.begin.flags) (feed a.begin.point) a.begin.point) is
  where
    go : (x : State) → IsEnd x → t' ≡ next_of a.f x → v' ≡ left v [] a.f (leads_back a.f x) → (o : Option Passed) →
        proceeds (line_behaves under) x (feed v.point) (here v) ≡ passed_by o a.begin → OnLine under feed still t' v'
    go Ok end next new None is = cc
    go Ok end next new (Some passed) is =
        let on : v' ≡ left v [] a.f false = new ∙ ap (left v [] a.f) a.trial.moves_on in
        let same : here v ≡ passed_here passed a.begin = cc in
        HasOpened (ap plain (next ∙ a.trial.ok_is)) (ap (λ (w : World). w.frames) on)
        (ap (λ (w : World). w.flags.blank) on ∙ ap (λ (h : Here). h.flags.blank) same ∙ a.meets.1)
    go Nok end next new (Some passed) is = cc
    go Nok end next new None is =
        let same : v.flags ≡ a.begin.flags = cc in
        let flags : v'.flags ≡ a.begin.flags = ap (λ (w : World). w.flags) new ∙ same in
        Between (next_opener a.k) (ap plain (next ∙ a.trial.nok_is)) (between-next a.k)
        (ap (λ (w : World). w.frames) new) (subst (λ (g : Flags). Meets g still) (sym flags) a.meets)
    go Error end next new o is = absurd end
    go (Next m) end next new o is = absurd end
    go (Retry m) end next new o is = absurd end

-- a leaf
flow-next : (f : Frame) (t : State) → IsFlow f.ok → IsFlow f.nok → IsFlow (next_of f t)
flow-next f Ok ok nok = ok
flow-next f Nok ok nok = nok
flow-next f Error ok nok = nok
flow-next f (Next m) ok nok = nok
flow-next f (Retry m) ok nok = nok

left-none : (v : World) (f : Frame) (back : Bool) → (left v [] f back).frames ≡ []
left-none v f true = refl
left-none v f false = refl

pub left-flags : (v : World) (outer : List Frame) (f : Frame) (back : Bool) → (left v outer f back).flags ≡ v.flags
left-flags v outer f true = refl
left-flags v outer f false = refl

-- where a leaf has refused the line, it is met as before
leaf-next : (under : Setting) (feed : Feed) (still : HeldLeaf) (f : Frame) (t : State) (v : World) (o : Outcome) →
    IsEnd t → proceeds (line_behaves under) t (feed v.point) (here v) ≡ o → IsPast f.ok →
    MeetsAfter under.options (feed f.point) f.nok still o →
    MeetsAt under.options (feed (left v [] f (leads_back f t)).point) (next_of f t) v.flags still
leaf-next under feed still f Ok v o end is past after = inl past
leaf-next under feed still f Nok v o end is past after =
    subst (MeetsAfter under.options (feed f.point) f.nok still) (sym is) after
leaf-next under feed still f Error v o end is past after = absurd end
leaf-next under feed still f (Next m) v o end is past after = absurd end
leaf-next under feed still f (Retry m) v o end is past after = absurd end

line-leaves : (under : Setting) (feed : Feed) (still : HeldLeaf) (t : State) (v : World) (t' : State) (v' : World) →
    valid flow_table_scheme v (plain t) → OnLine under feed still t v → Leaves t v t' v' → OnLine under feed still t' v'
line-leaves under feed still t v t' v' at on l = go on
  where
    go : OnLine under feed still t v → OnLine under feed still t' v'
    go (Asks done cs to frames are continued keeps) = absurd (not-ended t _ to l.end)
    go (HasAsked done cs to frames are continued keeps) = absurd (not-ended t _ to l.end)
    go (Between d to is frames meets) = absurd (not-ended t _ to l.end)
    go (HasOpened to frames blank) = absurd (not-ended t _ to l.end)
    go (InFlow is frames meets) = let bad = sym frames ∙ l.frames in cc
    go (IsAsking a) = by (tries-leaves under feed a.f _ t v t' v' at a.tries l)
      where
        by : TriesLeft under feed a.f
            (passed_by (proceeds_at under.options a.c (feed a.begin.point) a.begin.point) a.begin) t v t' v' →
            OnLine under feed still t' v'
        by (Continues tries) =
            IsAsking (record {
              done = a.done;
              c = a.c;
              cs = a.cs;
              begin = a.begin;
              is = a.is;
              put_back = a.put_back;
              inside = a.inside;
              continued = a.continued;
              keeps = a.keeps;
              f = a.f;
              trial = a.trial;
              tries = tries;
            })
        by (Ended end next new is) = asked-ends under feed still t v t' v' a end next new is
    go (IsOpening a) = by (tries-leaves under feed a.f _ t v t' v' at a.tries l)
      where
        by : TriesLeft under feed a.f
            (passed_by
            ((container_rules a.k).opens under.options (interrupts a.begin.flags) (feed a.begin.point) a.begin.point)
            a.begin) t v t' v' →
            OnLine under feed still t' v'
        by (Continues tries) =
            IsOpening (record {
              k = a.k;
              begin = a.begin;
              meets = a.meets;
              f = a.f;
              trial = a.trial;
              tries = tries;
            })
        by (Ended end next new is) = opening-ends under feed still t v t' v' a end next new is
    go (IsInLeaf a) = by (tries-leaves under feed a.f a.o t v t' v' at a.tries l)
      where
        by : TriesLeft under feed a.f a.o t v t' v' → OnLine under feed still t' v'
        by (Continues tries) =
            IsInLeaf (record {
              f = a.f;
              ok = a.ok;
              nok = a.nok;
              past = a.past;
              o = a.o;
              after = a.after;
              tries = tries;
            })
        by (Ended end next new is) =
            InFlow (subst IsFlow (sym next) (flow-next a.f t a.ok a.nok))
            (ap (λ (w : World). w.frames) new ∙ left-none v a.f (leads_back a.f t))
            (subst (λ (w : World). MeetsAt under.options (feed w.point) t' w.flags still) (sym new)
            (subst (λ (m : State). MeetsAt under.options (feed before.point) m before.flags still) (sym next)
            (subst (λ (g : Flags). MeetsAt under.options (feed before.point) (next_of a.f t) g still)
            (sym (left-flags v [] a.f (leads_back a.f t)))
            (leaf-next under feed still a.f t v a.o end is a.past a.after))))
          where
            before : World
            before = left v [] a.f (leads_back a.f t)

-- Lines.

-- the leaf that is open after so many
abbrev pub still_after : ParseOptions → List ℕ → Point → ℕ → HeldLeaf
still_after options bytes p n = leaf_after held_leaf.None (take n (text_rows options bytes p))

-- the next begins
pub next-line : (t : State) (v : World) (t' : State) (v' : World) → (c : Calls FlowStep true t v t' v') →
    c.name ≡ s.Document document.FlowEnd → looks v ≡ Some 10 → t' ≡ Next (s.Document document.ContainerExistingBefore)
next-line t v t' v' c name ten = step.to_is ∙ ap (λ (o : Option ℕ). (flow_end_code over o).to) ten
  where
    over : World
    over = closed (reading v) (kept_containers v.flags) v.flags.line_end

    P : StateName → Type 0
    P m = FlowStep m (reading v) t' v'

    step : FlowStep (s.Document document.FlowEnd) (reading v) t' v'
    step = subst P name c.step

line-begins : (options : ParseOptions) (bytes : List ℕ) (p : Point) (n : ℕ) (feed : Feed) (t : State) (v : World)
    (t' : State) (v' : World) → (c : Calls FlowStep true t v t' v') → c.name ≡ s.Document document.FlowEnd →
    looks v ≡ Some 10 → LineFed bytes options p (suc n) v' →
    OnLine (text_setting bytes options p) feed (still_after options bytes p (suc n)) t' v'
line-begins options bytes p n feed t v t' v' c name ten is =
    Asks [] (open_after [] (take (suc n) (text_rows options bytes p))) (ap plain to) is.frames is.containers
    (ap (λ (w : World). w.flags.continued) new) (is.leaf, ap (λ (w : World). w.flags.blank) new)
  where
    over : World
    over = closed (reading v) (kept_containers v.flags) v.flags.line_end

    P : StateName → Type 0
    P m = FlowStep m (reading v) t' v'

    step : FlowStep (s.Document document.FlowEnd) (reading v) t' v'
    step = subst P name c.step

    to : t' ≡ Next (s.Document document.ContainerExistingBefore)
    to = next-line t v t' v' c name ten

    new : v' ≡ (flow_end_code over (Some 10)).world
    new = step.new_is ∙ ap (λ (o : Option ℕ). (flow_end_code over o).world) ten

-- All of a run is on its lines.
pub run-on : (options : ParseOptions) (bytes : List ℕ) (p : Point) → length bytes < 2 ^ 61 → (feed : Feed) →
    Follows feed (text_setting bytes options p) true → (t : State) (v : World) →
    (run : Runs FlowStep true line_begins (flow_begins bytes options p) t v) →
    OnLine (text_setting bytes options p) feed
    (still_after options bytes p (fed FlowStep true line_begins (flow_begins bytes options p) t v run)) t v
run-on options bytes p small feed follows t v Stays = Asks [] [] refl refl tt refl (refl, refl)
run-on options bytes p small feed follows to new (ThenLeaves t v t' v' run l) =
    line-leaves (text_setting bytes options p) feed _ t v t' v' (text-within bytes options p small t v run).at
    (run-on options bytes p small feed follows t v run) l
run-on options bytes p small feed follows to new (ThenCalls t v t' v' run c) =
    go (none-or-ending c.name (looks v)) (run-on options bytes p small feed follows t v run)
  where
    n : ℕ
    n = fed FlowStep true line_begins (flow_begins bytes options p) t v run

    under : Setting
    under = text_setting bytes options p

    kept : v.setting ≡ under
    kept = runs-setting FlowStep true line_begins (flow_begins bytes options p) t v run

    P : ℕ → Type 0
    P k = OnLine under feed (still_after options bytes p k) t' v'

    go : (feeds c.name (looks v) ≡ 0) ⊎ ((c.name ≡ s.Document document.FlowEnd) × (looks v ≡ Some 10)) →
        OnLine under feed (still_after options bytes p n) t v →
        OnLine under feed (still_after options bytes p (feeds c.name (looks v) + n)) t' v'
    go (inl none) on =
        let same : n ≡ feeds c.name (looks v) + n = omega (arith, none) in
        subst P same
        (line-calls under feed (still_after options bytes p n) t v t' v' follows kept
        (text-within bytes options p small t v run).at on c none)
    go (inr ending) on =
        let one : feeds c.name (looks v) ≡ 1 =
        ap (λ (m : StateName). feeds m (looks v)) ending.0
        ∙ ap (λ (o : Option ℕ). feeds (s.Document document.FlowEnd) o) ending.1 in
        let same : suc n ≡ feeds c.name (looks v) + n = omega (arith, one) in
        subst P same
        (line-begins options bytes p n feed t v t' v' c ending.0 ending.1
        (line-fed bytes options p small t v t' v' run c one))

-- Before a container that may open, and after the containers of a line.
between-high : (d : DocumentState) → is_between d ≡ true → flow_table_scheme.level (s.Document d) ≤ 2 → ⊥
between-high document.ContainersAfter is low = absurd (omega (arith, low))
between-high document.ContainerNewBefore is low = absurd (omega (arith, low))
between-high document.ContainerNewBeforeNotBlockQuote is low = absurd (omega (arith, low))
between-high document.ContainerNewBeforeNotList is low = absurd (omega (arith, low))
between-high d is low = cc

between-flow : (d : DocumentState) → is_between d ≡ true → is_flow (s.Document d) ≡ true → ⊥
between-flow document.ContainersAfter is e = cc
between-flow document.ContainerNewBefore is e = cc
between-flow document.ContainerNewBeforeNotBlockQuote is e = cc
between-flow document.ContainerNewBeforeNotList is e = cc
between-flow d is e = cc

pub between-met : (under : Setting) (feed : Feed) (still : HeldLeaf) (t : State) (v : World) →
    OnLine under feed still t v → (d : DocumentState) → is_between d ≡ true → plain t ≡ Next (s.Document d) →
    Meets v.flags still
between-met under feed still t v on d may to = go on
  where
    high : state_level flow_table_scheme t ≤ 2 → ⊥
    high low = between-high d may (called-low t (s.Document d) to low)

    go : OnLine under feed still t v → Meets v.flags still
    go (Asks done cs other frames are continued keeps) = keeps-meets v.flags still keeps
    go (HasAsked done cs other frames are continued keeps) = keeps-meets v.flags still keeps
    go (Between d other is frames meets) = meets
    go (HasOpened other frames blank) =
        let same : d ≡ document.ContainerNewAfter = let bad = sym to ∙ other in cc in
        let bad : false ≡ true = ap is_between (sym same) ∙ may in cc
    go (IsAsking a) = absurd (high a.tries.low)
    go (IsOpening a) = absurd (high a.tries.low)
    go (IsInLeaf a) = absurd (high a.tries.low)
    go (InFlow is frames meets) = absurd (between-flow d may (called-flow t (s.Document d) to is))
