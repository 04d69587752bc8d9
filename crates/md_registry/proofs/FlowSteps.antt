-- Each state of flow, and of the document, takes one step of its rule.
use Rattle.md_registry.proofs.DocumentMeans.{IsFront, own_means}
use Rattle.proof_leaf_laws.specs.DocumentRule.{document_behaves}
use Rattle.std.proofs.Common.{◌≢◌, ◌≡◌, inl, inr, ℕ, Bool, true, false, ◌||◌, cond, nat_eq, List, [], ◌∷◌, ◌++◌, length}
use Rattle.std.proofs.Common.{take, Option, Some, None, refl, sym, ◌∙◌, ap, subst, arith, append_assoc}
use Rattle.md_registry.specs.FlowRule.{leaf_of, all_on, inside_by, inside_of, following_leaf, ContainersInvariant}
use Rattle.md_registry.specs.FlowRule.{ContainersMean, DocumentMeans, FlowInvariant, FlowMeans, FrontMeans, IsContinued}
use Rattle.md_registry.specs.FlowRule.{feeds, HasFlow, blank_ended, ended, ended_to, existing_at, existing_by}
use Rattle.md_registry.specs.FlowRule.{leaves_of, line_ended, line_then, new_of, nonblank_of, opened, openers_of}
use Rattle.md_registry.specs.Flow.{following_all, inside_code, leaf_front, leaf_end}
use Rattle.md_registry.specs.Flow.{before_content_transition, before_transition, blank_line_after_transition}
use Rattle.md_registry.specs.Flow.{blank_line_code, containers_after_transition, existing_after_transition}
use Rattle.md_registry.specs.Flow.{existing_before_code, flow_end_code, flow_end_transition, flow_own_transition}
use Rattle.md_registry.specs.Flow.{leaf_after_transition, new_after_transition, new_before_transition, row_transition}
use Rattle.md_registry.specs.Flow.{start_by, start_code, trial_code}
use Rattle.md_registry.specs.Registry.{asked_first, bars_containers, following, container_rules, front_of, leaf}
use Rattle.md_registry.specs.Registry.{may_continue, may_open, next_of, next_opener, opener_at, opener_front, openers}
use Rattle.md_registry.specs.Registry.{openers_after, trials, row, tried_at}
use Rattle.std.specs.Option.{is_some}
use Rattle.std.proofs.lemmas.List.{take_all}
use Rattle.md_engine.specs.declared.configuration.ParseOptions.{ParseOptions}
use Rattle.md_engine.specs.declared.event.Event.{Event}
use Rattle.md_engine.specs.declared.state.Name.{Name as StateName}
use Rattle.md_engine.specs.declared.state.Name.TheVariants as n
use Rattle.md_engine.specs.declared.state.document.State.{State as DocumentState}
use Rattle.md_engine.specs.declared.state.document.State.TheVariants as document
use Rattle.md_engine.specs.declared.state.flow.State.{State as FlowState}
use Rattle.md_engine.specs.declared.state.flow.State.TheVariants as flow
use Rattle.md_engine.specs.declared.state.blank_line.State.TheVariants as blank_line
use Rattle.md_engine.specs.declared.state.State.{State}
use Rattle.md_engine.specs.declared.state.State.TheVariants.{Nok, Next}
use Rattle.md_engine.specs.declared.tokenizer.container.Container.{Container}
use Rattle.md_engine.specs.declared.tokenizer.Frame.{Frame}
use Rattle.md_engine.specs.declared.tokenizer.Scratch.{Scratch}
use Rattle.md_engine.specs.Meaning.{Accepts, Behaviour, Cell, Fails, Feed, Here, Outcome, Refuses, Steps, proceeds}
use Rattle.md_engine.specs.Meaning.{here, resume}
use Rattle.md_engine.specs.declared.tokenizer.container.name.ContainerKind.{ContainerKind}
use Rattle.md_engine.specs.World.{Flags, World, after, closed, container_of}
use Rattle.md_engine.specs.Sees.{Sees, ahead}
use Rattle.md_engine.proofs.StepOf.{begins_only, changes, passes, sees, steps-as}
use Rattle.md_content.specs.ChunkRule.{chunk_at}
use Rattle.md_leaves.specs.Blank as blank
use Rattle.md_leaves.proofs.BlankLook.{blank-ended, blank-refused}
use Rattle.md_events.specs.Ahead.{begins_white}
use Rattle.md_events.specs.Events.Nested.{enter, exit, pair}
use Rattle.md_events.specs.Look.{looks_after, may_with}
use Rattle.md_events.specs.Spaces.{IsRest, ends_line, sees_white}
use Rattle.md_events.specs.Transition.{entered, exited, taken}
use Rattle.md_events.proofs.LookLemmas.{first-seen, refused-first, seen-first}
use Rattle.md_events.proofs.WhiteMeaning.{begins-seen}
use Rattle.md_registry.specs.Document.{document_own_transition}
use Rattle.proof_frame.specs.Rule.{Rule, tried}
use Rattle.md_registry.specs.LineFlags as flags
use Rattle.proof_frame.specs.EndingName.{ending_name}
use Rattle.md_registry.specs.LineFlags.{asking, blank_here, next_container, next_line, nothing_is_here, was_continued}
use Rattle.proof_frame.specs.LeafName.{LeafName}
use Rattle.md_registry.proofs.FlowLemmas.{line_by_container, new_by_container}
use Rattle.md_registry.proofs.Openers.{at-opener, left-front}
use Rattle.md_registry.proofs.Trials.{at-trial, left-list}
use Rattle.md_registry.proofs.Dispatch.{AreNext, row-left, row-next}
use Rattle.md_registry.proofs.LinesAtOnce.{looks-dark}
use Rattle.md_meaning.specs.Rest.{is_white}
use Rattle.std.proofs.lemmas.Bool.{or_parts}
use Rattle.md_registry.proofs.Registry.{HasTrial, container-states, is-tried, leaf-next, opener-before}
use Rattle.md_registry.proofs.Registry.{tried-before}
use Rattle.md_registry.proofs.Registry.{container-laws, laws, trial-asked}

-- an attempt that was begun here
abbrev frame_here : State → State → World → Frame
frame_here ok nok w = record { ok = ok; nok = nok; is_check = false; events_len = length w.events; point = w.point }

-- what it becomes
resumed : (B : Behaviour) (feed : Feed) (w : World) (ok nok : State) (o : Outcome) (onward : Rule)
    (otherwise : Scratch → Flags → Outcome) →
    ((cells : List Cell) (h : Here) → proceeds B ok cells h ≡ onward cells h) →
    ((s : Scratch) (g : Flags) →
    proceeds B nok (feed w.point) (record { events = w.events; point = w.point; scratch = s; flags = g }) ≡
    otherwise s g) →
    tried o onward otherwise ≡ resume B feed w.events (frame_here ok nok w) o
resumed B feed w ok nok (Accepts h rest) y z a b = sym (a rest h)
resumed B feed w ok nok (Refuses s g) y z a b =
    let back : take (length w.events) w.events ≡ w.events = take_all (length w.events) w.events (omega arith) in
    sym
    (ap
    (λ (x : List Event).
    proceeds B nok (feed w.point) (record { events = x; point = w.point; scratch = s; flags = g })) back
    ∙ b s g)
resumed B feed w ok nok Fails y z a b = refl

-- What is left at a state where a construct is tried, at the construct's first state, where these flags are set, and at
-- those after it; where it may not begin it is refused.
record IsTried (B : Behaviour) (feed : Feed) (w : World) (g : Flags) (from start ok nok : StateName)
    (may : Bool) : Type 0 where
  onward : Rule
  otherwise : Scratch → Flags → Outcome
  from_is : B from (feed w.point) (here w) ≡
      tried (B start (feed w.point) (record (here w) { flags = g })) onward otherwise
  ok_is : (cells : List Cell) (h : Here) → B ok cells h ≡ onward cells h
  nok_is : (s : Scratch) (x : Flags) → B nok (feed w.point) (record (here w) { scratch = s; flags = x }) ≡ otherwise s x
  looked : may ≡ false → B start (feed w.point) (record (here w) { flags = g }) ≡ Refuses w.scratch g

trial_means : (B : Behaviour) (feed : Feed) (w : World) (g : Flags) (from start ok nok : StateName) (may : Bool) →
    IsTried B feed w g from start ok nok may →
    Steps B feed (Next from) w (trial_code start ok nok (record w { flags = g }) may).to
    (trial_code start ok nok (record w { flags = g }) may).world
trial_means B feed w g from start ok nok true t =
    begins_only B feed _ _ w (trial_code start ok nok (record w { flags = g }) true).world
    (frame_here (Next ok) (Next nok) w) refl refl
    (t.from_is
    ∙ resumed B feed w (Next ok) (Next nok) (B start (feed w.point) (record (here w) { flags = g })) t.onward
    t.otherwise t.ok_is t.nok_is)
trial_means B feed w g from start ok nok false t =
    passes B feed _ _ w (record w { flags = g }) refl refl
    (t.from_is ∙ ap (λ (o : Outcome). tried o t.onward t.otherwise) (t.looked refl) ∙ sym (t.nok_is w.scratch g))

-- Containers.

-- before the first container that may open, as often as one does
opening_left : (B : Behaviour) (options : ParseOptions) (next : Rule) → HasFlow B options next → (cells : List Cell)
    (h : Here) →
    B (n.Document (opener_front openers)) cells h ≡ new_of options next cells h
opening_left B options next has cells h =
    has.containers (opener_front openers) cells h ∙ left-front options next openers cells h refl
    ∙ sym (new_by_container options next cells h)

-- by whether the line ends here, and by the container that is asked
existing_left : (B : Behaviour) (feed : Feed) (w : World) (options : ParseOptions) (next : Rule) (ends : Bool) →
    HasFlow B options next → Sees feed w → ends_line w.current ≡ ends →
    B (n.Document document.ContainerExistingBefore) (feed w.point) (here w) ≡
    existing_at options next (line_then options next) ends (feed w.point) (here w)
existing_left B feed w options next ends has s e =
    has.containers document.ContainerExistingBefore _ _ ∙ line_by_container options next (feed w.point) (here w)
    ∙ ap (λ (x : Bool). existing_at options next (line_then options next) x (feed w.point) (here w))
    (ap ends_line (first-seen feed w s) ∙ e)

-- where all containers continued
all_left : (B : Behaviour) (options : ParseOptions) (next : Rule) → HasFlow B options next → (x : Bool)
    (cells : List Cell) (h : Here) →
    B (n.Document (following_all x)) cells h ≡ all_on options next x cells h
all_left B options next has true cells h = has.containers document.ContainersAfter cells h
all_left B options next has false cells h = opening_left B options next has cells h

existing_before_means : (B : Behaviour) (feed : Feed) (w : World) (options : ParseOptions) (next : Rule) (ends : Bool)
    (o : Option Container) →
    HasFlow B options next → Sees feed w → IsRest w.scratch → ends_line w.current ≡ ends → next_container w.flags ≡ o →
    Steps B feed (Next (n.Document document.ContainerExistingBefore)) w (existing_before_code w ends o).to
    (existing_before_code w ends o).world
existing_before_means B feed w options next true o has s is e k =
    passes B feed _ _ w (existing_before_code w true o).world refl refl
    (existing_left B feed w options next true has s e ∙ sym (has.containers document.ContainersAfter _ _))
existing_before_means B feed w options next false None has s is e k =
    passes B feed _ _ w w refl refl
    (existing_left B feed w options next false has s e
    ∙ ap (λ (o : Option Container). existing_by options next (line_then options next) o (feed w.point) (here w)) k
    ∙ sym (all_left B options next has (bars_containers w.flags.leaf) (feed w.point) (here w)))
existing_before_means B feed w options next false (Some c) has s is e k =
    let onward : Rule = λ rest k. line_then options next rest (record k { flags = was_continued k.flags }) in
    let otherwise : Scratch → Flags → Outcome =
    λ s g. new_of options next (feed w.point) (record (here w) { scratch = s; flags = g }) in
    trial_means B feed w (asking c w).flags _ _ _ _ (may_with (may_continue c.kind) (looks_after w)) (record {
      onward = onward;
      otherwise = otherwise;
      from_is =
          existing_left B feed w options next false has s e
          ∙ ap (λ (o : Option Container). existing_by options next (line_then options next) o (feed w.point) (here w)) k
          ∙ ap (λ (o : Outcome). tried o onward otherwise) (sym (has.is_continued c.kind _ _));
      ok_is = has.containers document.ContainerExistingAfter;
      nok_is = λ s g. opening_left B options next has _ _;
      looked = λ no.
          let first = refused-first (may_continue c.kind) feed w s no in
          has.is_continued c.kind _ _
          ∙ (container-laws c.kind).continues_looked options _ _ first.0 is first.1 first.2;
    })

new_before_means : (k : ContainerKind) (B : Behaviour) (feed : Feed) (w : World) (options : ParseOptions)
    (next : Rule) →
    HasFlow B options next → Sees feed w → IsRest w.scratch →
    Steps B feed (Next (n.Document (container_rules k).before)) w (new_before_transition k w).to
    (new_before_transition k w).world
new_before_means k B feed w options next has s is =
    let onward : Rule = λ rest x. new_of options next rest (opened x) in
    let otherwise : Scratch → Flags → Outcome =
    λ s g. openers_of options next (openers_after k) (feed w.point) (record (here w) { scratch = s; flags = g }) in
    trial_means B feed w (asking (container_of k) w).flags _ _ _ _ (may_with (may_open k) (looks_after w)) (record {
      onward = onward;
      otherwise = otherwise;
      from_is =
          has.containers (container_rules k).before _ _ ∙ (at-opener k).left options next (feed w.point) (here w)
          ∙ ap (λ (o : Outcome). tried o onward otherwise) (sym (has.opens k _ _));
      ok_is = has.containers document.ContainerNewAfter;
      nok_is =
          λ s g. has.containers (next_opener k) _ _
          ∙ left-front options next (openers_after k) _ _ (container-states k).next;
      looked = λ no.
          let first = refused-first (may_open k) feed w s no in
          has.opens k _ _ ∙ (container-laws k).begins_looked options _ _ first.0 is first.1 first.2;
    })

-- where a leaf may be asked first
front_left : (B : Behaviour) (options : ParseOptions) (next : Rule) → HasFlow B options next → (cells : List Cell)
    (h : Here) →
    B (leaf_front (is_some (asked_first h.flags.leaf))) cells h ≡ inside_of options next cells h
front_left B options next has cells h = go (asked_first h.flags.leaf) refl
  where
    go : (o : Option LeafName) → asked_first h.flags.leaf ≡ o →
        B (leaf_front (is_some o)) cells h ≡ inside_by options next o cells h
    go None e = has.leaves flow.Start cells h
    go (Some l) e =
        has.containers document.FlowInside cells h ∙ ap (λ (o : Option LeafName). inside_by options next o cells h) e

inside_means : (B : Behaviour) (feed : Feed) (w : World) (options : ParseOptions) (next : Rule) (o : Option LeafName) →
    HasFlow B options next → Sees feed w → asked_first w.flags.leaf ≡ o →
    Steps B feed (Next (n.Document document.FlowInside)) w (inside_code w o).to (inside_code w o).world
inside_means B feed w options next None has s e =
    passes B feed _ _ w w refl refl
    (has.containers document.FlowInside _ _
    ∙ ap (λ (o : Option LeafName). inside_by options next o (feed w.point) (here w)) e
    ∙ sym (has.leaves flow.Start _ _))
inside_means B feed w options next (Some l) has s e =
    let otherwise : Scratch → Flags → Outcome =
    λ s g. leaf_of options next (feed w.point) (record (here w) { scratch = s; flags = g }) in
    trial_means B feed w (blank_here (nothing_is_here w.current w.point) w.flags) _ _ _ _ true (record {
      onward = line_ended next;
      otherwise = otherwise;
      from_is =
          has.containers document.FlowInside _ _
          ∙ ap (λ (o : Option LeafName). inside_by options next o (feed w.point) (here w)) e
          ∙ ap
          (λ (first : Option ℕ).
          tried
          ((leaf l).trial options (feed w.point)
          (record (here w) { flags = blank_here (nothing_is_here first w.point) w.flags })) (line_ended next) otherwise)
          (first-seen feed w s)
          ∙ ap (λ (o : Outcome). tried o (line_ended next) otherwise) (sym (has.starts l _ _));
      ok_is = has.leaves flow.After;
      nok_is = λ s g. has.leaves flow.Start _ _;
      looked = λ no. cc;
    })

-- The leaf of a line.

blank_line_before_means : (B : Behaviour) (feed : Feed) (w : World) (options : ParseOptions) (next : Rule) (x : Bool) →
    HasFlow B options next → Sees feed w → ends_line w.current ≡ x →
    Steps B feed (Next (n.Flow flow.BlankLineBefore)) w
    (blank_line_code w x (may_with blank.may_begin (looks_after w))).to
    (blank_line_code w x (may_with blank.may_begin (looks_after w))).world
blank_line_before_means B feed w options next true has s e =
    let otherwise : Scratch → Flags → Outcome =
    λ s g. nonblank_of options next (feed w.point) (record (here w) { scratch = s; flags = g }) in
    passes B feed _ _ w w refl refl
    (has.leaves flow.BlankLineBefore _ _
    ∙ ap (λ (o : Outcome). tried o (blank_ended next) otherwise)
    (blank-ended _ (here w) (ap ends_line (first-seen feed w s) ∙ e))
    ∙ sym (has.leaves flow.BlankLineAfter _ _))
blank_line_before_means B feed w options next false has s e =
    let otherwise : Scratch → Flags → Outcome =
    λ s g. nonblank_of options next (feed w.point) (record (here w) { scratch = s; flags = g }) in
    trial_means B feed w w.flags _ _ _ _ (may_with blank.may_begin (looks_after w)) (record {
      onward = blank_ended next;
      otherwise = otherwise;
      from_is =
          has.leaves flow.BlankLineBefore _ _
          ∙ ap (λ (o : Outcome). tried o (blank_ended next) otherwise) (sym (has.blank.each blank_line.Start _ _));
      ok_is = has.leaves flow.BlankLineAfter;
      nok_is = λ s g. has.leaves (front_of trials) _ _;
      looked = λ no.
          let first = refused-first blank.may_begin feed w s no in
          has.blank.each blank_line.Start _ _ ∙ blank-refused _ (here w) first.0 first.1 first.2;
    })

-- after a leaf, whether it always ends on its line or not
flow-ends : (B : Behaviour) (options : ParseOptions) (next : Rule) → HasFlow B options next → (ends : Bool)
    (cells : List Cell) (h : Here) →
    B (n.Flow (leaf_end ends)) cells h ≡ following_leaf ends next cells h
flow-ends B options next has true cells h = has.leaves flow.LeafAfter cells h
flow-ends B options next has false cells h = has.leaves flow.After cells h

before_means : (l : LeafName) (B : Behaviour) (feed : Feed) (w : World) (options : ParseOptions) (next : Rule) →
    HasTrial l → HasFlow B options next → Sees feed w → IsRest w.scratch → (leaf l).asked w.flags.leaf ≡ true →
    Steps B feed (Next (n.Flow (leaf l).before)) w (before_transition l w).to (before_transition l w).world
before_means l B feed w options next tried_is has s is asked =
    let otherwise : Scratch → Flags → Outcome =
    λ s g. leaves_of options next (following l) (feed w.point) (record (here w) { scratch = s; flags = g }) in
    let begins : ℕ → Bool = (leaf l).may_begin w.flags.leaf (sees_white w.current) in
    trial_means B feed w w.flags _ _ _ _ (may_with begins (looks_after w)) (record {
      onward = following_leaf (leaf l).ends next;
      otherwise = otherwise;
      from_is =
          has.leaves (leaf l).before _ _ ∙ (at-trial l tried_is).left options next _ _
          ∙ ap (λ (o : Outcome). tried o (following_leaf (leaf l).ends next) otherwise) (sym (has.starts l _ _));
      ok_is = flow-ends B options next has (leaf l).ends;
      nok_is =
          λ s g. has.leaves (next_of l) _ _ ∙ left-list options next (following l) _ _ (leaf-next l tried_is);
      looked = λ no.
          let first = refused-first begins feed w s no in
          let none : (leaf l).may_begin w.flags.leaf (begins_white (feed w.point)) first.0 ≡ false =
          ap (λ (white : Bool). (leaf l).may_begin w.flags.leaf white first.0) (begins-seen feed w s) ∙ first.2 in
          has.starts l _ _
          ∙ (laws l).refused options _ (here w) asked is ((laws l).looked options _ _ first.0 first.1 none);
    })

-- where the rest of a line is what these leaves and content make of it, the first of them is tried
row_means : (B : Behaviour) (feed : Feed) (w : World) (options : ParseOptions) (next : Rule) (ls : List LeafName) →
    HasFlow B options next → AreNext ls →
    B (n.Flow flow.Start) (feed w.point) (here w) ≡ leaves_of options next ls (feed w.point) (here w) →
    Steps B feed (Next (n.Flow flow.Start)) w (row_transition ls w).to (row_transition ls w).world
row_means B feed w options next [] has are e =
    passes B feed _ _ w w refl refl (e ∙ sym (has.leaves flow.BeforeContent _ _))
row_means B feed w options next (l ∷ ls) has are e =
    let otherwise : Scratch → Flags → Outcome =
    λ s g. leaves_of options next ls (feed w.point) (record (here w) { scratch = s; flags = g }) in
    trial_means B feed w w.flags _ _ _ _ true (record {
      onward = following_leaf (leaf l).ends next;
      otherwise = otherwise;
      from_is = e ∙ ap (λ (o : Outcome). tried o (following_leaf (leaf l).ends next) otherwise)
          (sym (has.starts l _ _));
      ok_is = flow-ends B options next has (leaf l).ends;
      nok_is = λ s g. has.leaves (front_of ls) _ _ ∙ left-list options next ls _ _ are.0;
      looked = λ no. cc;
    })

-- by what is here: a line is not blank where a byte does that is no whitespace and does not end it
start_means : (B : Behaviour) (feed : Feed) (w : World) (options : ParseOptions) (next : Rule) (o : Option ℕ) →
    HasFlow B options next → Sees feed w → IsRest w.scratch → w.current ≡ o →
    Steps B feed (Next (n.Flow flow.Start)) w (start_code w o).to (start_code w o).world
start_means B feed w options next None has s is e =
    passes B feed _ _ w w refl refl (has.leaves flow.Start _ _ ∙ sym (has.leaves flow.BlankLineBefore _ _))
start_means B feed w options next (Some b) has s is e = go (is_white b || nat_eq b 10) refl
  where
    go : (x : Bool) → (is_white b || nat_eq b 10) ≡ x →
        Steps B feed (Next (n.Flow flow.Start)) w (start_by w b x).to (start_by w b x).world
    go true k = passes B feed _ _ w w refl refl (has.leaves flow.Start _ _ ∙ sym (has.leaves flow.BlankLineBefore _ _))
    go false k =
        let dark = or_parts (is_white b) (nat_eq b 10) k in
        let seen = seen-first feed w b s (looks-dark w b e dark.0) in
        let otherwise : Scratch → Flags → Outcome =
        λ s g. nonblank_of options next (feed w.point) (record (here w) { scratch = s; flags = g }) in
        row_means B feed w options next (row b) has (row-next b)
        (has.leaves flow.Start _ _
        ∙ ap (λ (o : Outcome). tried o (blank_ended next) otherwise) (blank-refused _ (here w) b seen dark.1)
        ∙ row-left options next b (feed w.point) (here w) seen (begins-seen feed w s ∙ ap sees_white e ∙ dark.0) is)

before_content_means : (B : Behaviour) (feed : Feed) (w : World) (options : ParseOptions) (next : Rule) →
    HasFlow B options next →
    Steps B feed (Next (n.Flow flow.BeforeContent)) w (before_content_transition w).to
    (before_content_transition w).world
before_content_means B feed w options next has =
    let f : Frame = frame_here (Next (n.Flow flow.After)) Nok w in
    begins_only B feed _ _ w (before_content_transition w).world f refl refl
    (has.leaves flow.BeforeContent _ _
    ∙ resumed B feed w (Next (n.Flow flow.After)) Nok (chunk_at (feed w.point) (here w)) (line_ended next) Refuses
    (has.leaves flow.After) (λ s g. refl)
    ∙ ap (resume B feed w.events f) (sym (has.chunk _ _)))

-- The end of a line.

-- after an ending that is taken here
abbrev pub following_ending : World → World
following_ending v =
    record (exited (taken (entered v (ending_name v.flags.blank))) (ending_name v.flags.blank)) {
      flags = next_line (length v.events) v.flags;
    }

-- and what is left after it is what the rule makes of the rest
pub ending_left : (feed : Feed) (v : World) (next : Rule) (b : ℕ) → nat_eq b 10 ≡ true →
    ended next (ahead feed v (Some b)) (here v) ≡ next (feed (following_ending v).point) (here (following_ending v))
ending_left feed v next b e =
    let q = after v.setting v.point in
    let name = ending_name v.flags.blank in
    let split : v.events ++ enter name v.point ∷ [] ++ exit name q ∷ [] ≡
    v.events ++ pair name v.point q = append_assoc v.events (enter name v.point ∷ []) (exit name q ∷ []) in
    rw e
    (ap
    (λ (x : List Event).
    next (feed q)
    (record { events = x; point = q; scratch = v.scratch; flags = next_line (length v.events) v.flags }))
    (sym split))

-- where containers ended that did not continue
flow_end_code_means : (B : Behaviour) (feed : Feed) (w v : World) (options : ParseOptions) (next : Rule)
    (o : Option ℕ) →
    HasFlow B options next → w.frames ≡ [] → v.frames ≡ [] → feed v.point ≡ ahead feed v o →
    IsContinued B next (feeds (n.Document document.FlowEnd) o) →
    proceeds B (Next (n.Document document.FlowEnd)) (feed w.point) (here w) ≡ ended next (ahead feed v o) (here v) →
    Steps B feed (Next (n.Document document.FlowEnd)) w (flow_end_code v o).to (flow_end_code v o).world
flow_end_code_means B feed w v options next None has none also sees on is =
    changes B feed _ _ w (flow_end_code v None).world none also
    (is ∙ ap (Accepts (ended_to 0 (length v.events) (here v))) (sym sees))
flow_end_code_means B feed w v options next (Some b) has none also sees on is = go (nat_eq b 10) refl on
  where
    go : (x : Bool) → nat_eq b 10 ≡ x → IsContinued B next (cond x 1 0) →
        Steps B feed (Next (n.Document document.FlowEnd)) w (flow_end_code v (Some b)).to
        (flow_end_code v (Some b)).world
    go true e (inl none_fed) = absurd (omega (arith, none_fed))
    go true e (inr meets) =
        rw e
        (changes B feed _ (Next (n.Document document.ContainerExistingBefore)) w (following_ending v) none also
        (is ∙ ending_left feed v next b e ∙ meets _ _))
    go false e on = rw e (changes B feed _ Nok w v none also (is ∙ rw e refl))

flow_end_means : (B : Behaviour) (feed : Feed) (w : World) (options : ParseOptions) (next : Rule) →
    HasFlow B options next → Sees feed w → w.frames ≡ [] →
    IsContinued B next (feeds (n.Document document.FlowEnd) w.current) →
    Steps B feed (Next (n.Document document.FlowEnd)) w (flow_end_transition w).to (flow_end_transition w).world
flow_end_means B feed w options next has s none on =
    flow_end_code_means B feed w
    (closed w (flags.kept_containers w.flags) w.flags.line_end) options next w.current has none none s.next on
    (has.containers document.FlowEnd _ _ ∙ ap (λ (x : List Cell). line_ended next x (here w)) s.next)

-- All of them.

opener_means : (B : Behaviour) (feed : Feed) (next : Rule) (state : DocumentState) (k : ContainerKind) →
    opener_at state ≡ Some k → (w : World) → HasFlow B w.setting.options next → Sees feed w → IsRest w.scratch →
    Steps B feed (Next (n.Document state)) w (new_before_transition k w).to (new_before_transition k w).world
opener_means B feed next state k e w has s is =
    let P : DocumentState → Type 0 =
    λ x. Steps B feed (Next (n.Document x)) w (new_before_transition k w).to (new_before_transition k w).world in
    subst P (opener-before state k e) (new_before_means k B feed w _ _ has s is)

-- the states between the containers of a line
pub containers_means : (B : Behaviour) (feed : Feed) (next : Rule) (state : DocumentState) (w : World) →
    HasFlow B w.setting.options next → Sees feed w → ContainersInvariant state w →
    IsContinued B next (feeds (n.Document state) w.current) →
    state ≢ document.Start → state ≢ document.BeforeFrontmatter →
    Steps B feed (Next (n.Document state)) w (document_own_transition state w).to
    (document_own_transition state w).world
containers_means B feed next document.Start w has s at on a b = absurd (a refl)
containers_means B feed next document.BeforeFrontmatter w has s at on a b = absurd (b refl)
containers_means B feed next document.ContainerExistingBefore w has s at on a b =
    existing_before_means B feed w _ _ _ _ has s at refl refl
containers_means B feed next document.ContainerExistingAfter w has s at on a b =
    passes B feed _ _ w (existing_after_transition w).world refl refl
    (has.containers document.ContainerExistingAfter _ _ ∙ sym (has.containers document.ContainerExistingBefore _ _))
containers_means B feed next document.ContainerNewBeforeNotFootnoteDefinition w has s at on a b =
    passes B feed _ _ w w refl refl
    (has.containers document.ContainerNewBeforeNotFootnoteDefinition _ _
    ∙ sym (has.containers document.ContainersAfter _ _))
containers_means B feed next document.ContainerNewAfter w has s at on a b =
    -- where containers end no attempt is around, so none goes back to events before these ends
    changes B feed _ _ w (new_after_transition w).world at at
    (has.containers document.ContainerNewAfter _ _ ∙ sym (opening_left B _ next has _ _))
containers_means B feed next document.ContainersAfter w has s at on a b =
    passes B feed _ _ w (containers_after_transition w).world refl refl
    (has.containers document.ContainersAfter _ _ ∙ sym (front_left B _ next has _ _))
containers_means B feed next document.FlowInside w has s at on a b = inside_means B feed w _ _ _ has s refl
containers_means B feed next document.FlowEnd w has s at on a b = flow_end_means B feed w _ _ has s at on
containers_means B feed next state w has s at on a b = opener_means B feed next state _ refl w has s at

leaf_means : (B : Behaviour) (feed : Feed) (next : Rule) (state : FlowState) (l : LeafName) → tried_at state ≡ Some l →
    (w : World) → HasFlow B w.setting.options next → Sees feed w → IsRest w.scratch →
    Steps B feed (Next (n.Flow state)) w (before_transition l w).to (before_transition l w).world
leaf_means B feed next state l e w has s is =
    let P : FlowState →
    Type 0 = λ x. Steps B feed (Next (n.Flow x)) w (before_transition l w).to (before_transition l w).world in
    subst P (tried-before state l e)
    (before_means l B feed w _ _ (is-tried state l e) has s is (trial-asked state l e w.flags.leaf))

-- the states of flow
pub leaves_means : (B : Behaviour) (feed : Feed) (next : Rule) (state : FlowState) (w : World) →
    HasFlow B w.setting.options next → Sees feed w → FlowInvariant state w →
    Steps B feed (Next (n.Flow state)) w (flow_own_transition state w).to (flow_own_transition state w).world
leaves_means B feed next flow.Start w has s at = start_means B feed w _ _ _ has s at refl
leaves_means B feed next flow.BlankLineBefore w has s at = blank_line_before_means B feed w _ _ _ has s refl
leaves_means B feed next flow.BeforeContent w has s at = before_content_means B feed w _ _ has
leaves_means B feed next flow.BlankLineAfter w has s at =
    passes B feed _ _ w (blank_line_after_transition w).world refl refl
    (has.leaves flow.BlankLineAfter _ _ ∙ sym (has.containers document.FlowEnd _ _))
leaves_means B feed next flow.LeafAfter w has s at =
    passes B feed _ _ w (leaf_after_transition w).world refl refl
    (has.leaves flow.LeafAfter _ _ ∙ sym (has.containers document.FlowEnd _ _))
leaves_means B feed next flow.After w has s at =
    passes B feed _ _ w w refl refl (has.leaves flow.After _ _ ∙ sym (has.containers document.FlowEnd _ _))
leaves_means B feed next state w has s at = leaf_means B feed next state _ refl w has s at

-- what answers as the transition of a state does means what the state means
pub flow_rule : (state : FlowState) (w new : World) (to : State) → to ≡ (flow_own_transition state w).to →
    new ≡ (flow_own_transition state w).world → FlowMeans state w to new
unfolding FlowMeans
flow_rule state w new to e k at next B feed has s =
    steps-as B feed _ _ to w _ new e k (leaves_means B feed next state w has s at)

containers_mean : (state : DocumentState) (w new : World) (to : State) → state ≢ document.Start →
    state ≢ document.BeforeFrontmatter → to ≡ (document_own_transition state w).to →
    new ≡ (document_own_transition state w).world → ContainersMean state w to new
unfolding ContainersMean
containers_mean state w new to a b e k at next B feed has s on =
    steps-as B feed _ _ to w _ new e k (containers_means B feed next state w has s at on a b)

front_means : (state : DocumentState) (w new : World) (to : State) → IsFront state →
    to ≡ (document_own_transition state w).to →
    new ≡ (document_own_transition state w).world → FrontMeans state w to new
unfolding FrontMeans
front_means state w new to at e k feed =
    steps-as (document_behaves w.setting.options) feed _ _ to w _ new e k (own_means w.setting.options feed state w at)

pub document_rule : (state : DocumentState) (w new : World) (to : State) → to ≡ (document_own_transition state w).to →
    new ≡ (document_own_transition state w).world → DocumentMeans state w to new
document_rule document.Start w new to e k = front_means document.Start w new to tt e k
document_rule document.BeforeFrontmatter w new to e k = front_means document.BeforeFrontmatter w new to tt e k
document_rule state w new to e k = containers_mean state w new to (λ x. cc) (λ x. cc) e k
