-- Lines on which one look shows that no container opens and no leaf begins: what is passed at once is what the states
-- refuse one after another.
use Rattle.std.proofs.Common.{◌≡◌, ◌≢◌, ℕ, Bool, true, false, cond, ◌||◌, nat_eq, List, [], ◌∷◌, ◌++◌, Option, Some}
use Rattle.std.proofs.Common.{None, ◌<◌, ◌⊎◌, inl, length, refl, sym, ◌∙◌, ap, subst, ◌≤◌, ◌&&◌, not, take, arith}
use Rattle.md_registry.specs.Flow.{inside_code, inside_transition, leaf_front, leaf_end, blank_line_before_transition}
use Rattle.md_registry.specs.Flow.{blank_line_code, flow_end_code, flow_end_transition, new_before_transition}
use Rattle.md_registry.specs.Flow.{opener_transition, row_transition, start_by, start_code, start_transition}
use Rattle.md_registry.specs.Flow.{trial_code}
use Rattle.md_registry.specs.Registry.{asked_first, container_rules, front_of, is_common, leaf, may_open, next_opener}
use Rattle.md_registry.specs.Registry.{opener_front, openers, opens_with, row, trials}
use Rattle.std.specs.Option.{is_some}
use Rattle.std.specs.List.{list_any, All}
use Rattle.std.specs.Prelude.{slice_range}
use Rattle.std.proofs.lemmas.Bool.{and_parts, not-true, or_parts}
use Rattle.md_meaning.specs.Rest.{is_white}
use Rattle.md_engine.specs.declared.state.Name.{Name as StateName}
use Rattle.md_engine.specs.declared.state.Name.TheVariants as n
use Rattle.md_engine.specs.declared.state.document.State.{State as DocumentState}
use Rattle.md_engine.specs.declared.state.document.State.TheVariants as document
use Rattle.md_engine.specs.declared.state.blank_line.State.TheVariants as blank_line
use Rattle.md_engine.specs.declared.state.flow.State.TheVariants as flow
use Rattle.md_engine.specs.declared.state.State.{State}
use Rattle.md_engine.specs.declared.state.State.TheVariants.{Error, Next, Nok, Retry}
use Rattle.md_engine.specs.declared.tokenizer.container.name.ContainerKind.{ContainerKind}
use Rattle.md_engine.specs.Going.{SeesOn}
use Rattle.md_engine.specs.Run.{Remains, RunsHere, Step, reading}
use Rattle.md_engine.specs.World.{World, closed, container_of, looks}
use Rattle.md_engine.proofs.Keeps.{runs-setting}
use Rattle.md_engine.proofs.Loops.{ArrivedHere, ArrivedAt, call-sees, arrived-calls, arrived-first, arrived-runs}
use Rattle.md_engine.proofs.Loops.{arrived-stays, not_error, reading-same}
use Rattle.md_engine.proofs.Walks.{Within, then-stays, then-run, within-one}
use Rattle.md_leaves.specs.Blank as blank
use Rattle.md_leaves.proofs.HeadingCalls.{remains-of, sees-from}
use Rattle.md_events.specs.Look.{following_code, first_following, looks_after, may_with}
use Rattle.md_events.specs.Spaces.{ends_line}
use Rattle.md_events.specs.Transition.{Transition, entered, exited, taken, tried}
use Rattle.md_registry.specs.AtOnce.{all_asked, content_alone, opens_none, openers_passed}
use Rattle.md_registry.specs.Document.{document_own_transition}
use Rattle.proof_frame.specs.EndingName.{ending_name}
use Rattle.md_registry.specs.LineFlags.{asking, begun_line, blank_here, blanked, next_line}
use Rattle.md_registry.specs.LineFlags.{nothing_is_here, kept_containers}
use Rattle.proof_frame.specs.LeafName.{GfmTable, LeafName}
use Rattle.md_registry.specs.States.{FlowStep, flow_transition}
use Rattle.md_registry.proofs.Registry.{NextOpener, container-states}
use Rattle.md_registry.proofs.Openers.{at-opener}
use Rattle.md_registry.proofs.Dispatch.{common-row}
use Rattle.md_tables.specs.GfmTable.{begins_code as table_begins, may_begin as may_table}
use Rattle.md_tables.specs.GfmTable.{start_transition as table_start}
use Rattle.std.proofs.Math.Bool.{or-true}
use Rattle.std.proofs.lemmas.List.{take_all}
use Rattle.md_engine.specs.Run.Runs.{ThenLeaves}
use Rattle.md_engine.specs.declared.event.Event.{Event}
use Rattle.md_engine.specs.declared.tokenizer.Frame.{Frame}
use Rattle.md_engine.specs.declared.tokenizer.held_leaf.HeldLeaf.{HeldLeaf}

-- a byte that is no whitespace is first after whitespace
pub looks-dark : (w : World) (b : ℕ) → w.current ≡ Some b → is_white b ≡ false → looks_after w ≡ Some b
unfolding looks_after
looks-dark w b e dark =
    let found : Option ℕ = first_following (slice_range w.setting.bytes w.point.index w.setting.limit) in
    ap (λ (o : Option ℕ). following_code o found) e ∙ ap (λ (x : Bool). cond x found (Some b)) dark

-- such a byte is here, with which none of these may begin
pub record Refused {K : Type 0} (may : K → ℕ → Bool) (ks : List K) (w : World) : Type 0 where
  pub byte : ℕ
  pub here : looks_after w ≡ Some byte
  pub none : list_any (λ (k : K). may k byte) ks ≡ false

-- the first of these
refused-first : {K : Type 0} → (may : K → ℕ → Bool) (k : K) (ks : List K) (w : World) → Refused may (k ∷ ks) w →
    may_with (may k) (looks_after w) ≡ false
refused-first may k ks w r =
    ap (may_with (may k)) r.here ∙ (or_parts (may k r.byte) (list_any (λ x. may x r.byte) ks) r.none).0

-- and those after it, wherever the same byte is first
refused-rest : {K : Type 0} → (may : K → ℕ → Bool) (k : K) (ks : List K) (w v : World) →
    looks_after v ≡ looks_after w → Refused may (k ∷ ks) w → Refused may ks v
refused-rest may k ks w v same r = record {
  byte = r.byte;
  here = same ∙ r.here;
  none = (or_parts (may k r.byte) (list_any (λ x. may x r.byte) ks) r.none).1;
}

-- Containers that may open.

-- none of these opens, so that one reaches those after them
pub openers-refuse : (is_end : Bool) (s : State) (v : World)
    (ks js : List ContainerKind) (w : World) →
    NextOpener (ks ++ js) → Refused may_open ks w → w.current ≡ looks w → Within w →
    ArrivedAt FlowStep is_end s v (n.Document (opener_front (ks ++ js))) w →
    ArrivedAt FlowStep is_end s v (n.Document (opener_front js)) (all_asked ks w)
unfolding looks_after
openers-refuse is_end s v [] js w next none seen within arrived = arrived
openers-refuse is_end s v (k ∷ ks) js w next none seen within arrived =
    let a : World = asking (container_of k) w in
    let x : DocumentState = (container_rules k).before in
    let is : document_own_transition x w ≡ record { to = Retry (n.Document (opener_front (ks ++ js))); world = a } =
    (at-opener k).does w
    ∙ ap
    (trial_code (opens_with k) (n.Document document.ContainerNewAfter) (n.Document (next_opener k)) a)
    (refused-first may_open k ks w none)
    ∙ ap (λ (ls : List ContainerKind). record { to = Retry (n.Document (opener_front ls)); world = a }) next in
    openers-refuse is_end s v ks js a (subst NextOpener next (container-states k).next)
    (refused-rest may_open k ks w a refl none) seen within
    (then-stays FlowStep is_end s v (n.Document x) (n.Document (opener_front (ks ++ js))) w a arrived
    (record { to_is = sym (ap (λ (y : Transition). y.to) is); new_is = sym (ap (λ (y : Transition). y.world) is) }) refl
    within refl seen)

-- What one look shows.

-- what is here opens no container
opens-none : (w : World) → opens_none w.current ≡ true → Refused may_open openers w
opens-none w e = go w.current refl e
  where
    go : (o : Option ℕ) → w.current ≡ o → opens_none o ≡ true → Refused may_open openers w
    go None here is = cc
    go (Some b) here is =
        let any : Bool = list_any (λ (k : ContainerKind). may_open k b) openers in
        let parts = or_parts (is_white b || nat_eq b 10) any (not-true (is_white b || nat_eq b 10 || any) is) in
        let dark = or_parts (is_white b) (nat_eq b 10) parts.0 in
        record { byte = b; here = looks-dark w b here dark.0; none = parts.1 }

-- After all containers a leaf that is open may be asked first,
pub line-front : (is_end : Bool) (s : State) (v w : World) →
    w.current ≡ looks w → Within w → ArrivedAt FlowStep is_end s v (n.Document document.ContainersAfter) w →
    ArrivedAt FlowStep is_end s v (leaf_front (is_some (asked_first (begun_line w.flags).leaf)))
    (record w { flags = begun_line w.flags })
line-front is_end s v w seen within arrived =
    then-stays FlowStep is_end s v (n.Document document.ContainersAfter)
    (leaf_front (is_some (asked_first (begun_line w.flags).leaf))) w (record w { flags = begun_line w.flags }) arrived
    (record { to_is = refl; new_is = refl }) refl within refl seen

-- and else its rest, which may be blank where whitespace is here, or nothing,
pub line-blank : (is_end : Bool) (s : State) (v w : World) →
    start_transition w ≡ record { to = Retry (n.Flow flow.BlankLineBefore); world = w } → w.current ≡ looks w →
    Within w → ArrivedAt FlowStep is_end s v (n.Flow flow.Start) w →
    ArrivedAt FlowStep is_end s v (n.Flow flow.BlankLineBefore) w
line-blank is_end s v w is seen within arrived =
    then-stays FlowStep is_end s v (n.Flow flow.Start) (n.Flow flow.BlankLineBefore) w w arrived
    (record { to_is = sym (ap (λ (y : Transition). y.to) is); new_is = sym (ap (λ (y : Transition). y.world) is) }) refl
    within refl seen

-- as where the line ends
pub starts-blank : (w : World) → ends_line w.current ≡ true →
    start_transition w ≡ record { to = Retry (n.Flow flow.BlankLineBefore); world = w }
starts-blank w e = go w.current e
  where
    go : (o : Option ℕ) → ends_line o ≡ true →
        start_code w o ≡ record { to = Retry (n.Flow flow.BlankLineBefore); world = w }
    go None e = refl
    go (Some b) e =
        ap (start_by w b) (ap (λ (x : Bool). is_white b || x) e ∙ or-true (is_white b))

-- and it is, and ends, where nothing is left of it
pub line-over : (is_end : Bool) (s : State) (v w : World) →
    ends_line w.current ≡ true → w.current ≡ looks w → Within w →
    ArrivedAt FlowStep is_end s v (n.Flow flow.BlankLineBefore) w →
    ArrivedAt FlowStep is_end s v (n.Document document.FlowEnd) (record w { flags = blanked w.flags })
line-over is_end s v w ends seen within arrived =
    let T = FlowStep in
    let is : blank_line_before_transition w ≡ record { to = Retry (n.Flow flow.BlankLineAfter); world = w } =
    ap (λ (x : Bool). blank_line_code w x (may_with blank.may_begin (looks_after w))) ends in
    let blank = then-stays T is_end s v (n.Flow flow.BlankLineBefore) (n.Flow flow.BlankLineAfter) w w arrived
    (record { to_is = sym (ap (λ (y : Transition). y.to) is); new_is = sym (ap (λ (y : Transition). y.world) is) }) refl
    within refl seen in
    then-stays T is_end s v (n.Flow flow.BlankLineAfter) (n.Document document.FlowEnd) w
    (record w { flags = blanked w.flags }) blank (record { to_is = refl; new_is = refl }) refl within refl seen

-- So one reaches the leaf that is asked first,
pub passes-front : (is_end : Bool) (s : State) (v w : World) →
    opens_none w.current ≡ true → w.current ≡ looks w → Within w →
    ArrivedAt FlowStep is_end s v (n.Document (opener_front openers)) w →
    ArrivedAt FlowStep is_end s v (leaf_front (is_some (asked_first (openers_passed w).flags.leaf))) (openers_passed w)
unfolding looks_after
passes-front is_end s v w e seen within arrived =
    line-front is_end s v (all_asked openers w) seen within
    (openers-refuse is_end s v openers [] w refl (opens-none w e) seen within arrived)

-- The rest of the line is content where its row has the table alone, and a look refuses that.

-- a state refuses, and the attempt around it is left
then-fails : (T : Step) (is_end : Bool) (s : State) (v : World) (name next : StateName) (w u : World) (f : Frame)
    (fs : List Frame) →
    ArrivedAt T is_end s v name w → T name w Nok u → u.setting ≡ w.setting → u.point ≡ w.point → Within w →
    u.frames ≡ f ∷ fs → f.nok ≡ Next next → f.point ≡ w.point →
    All (λ (g : Frame). g.events_len ≤ f.events_len) fs →
    ArrivedAt T is_end s v next
    (reading (record u { frames = fs; events = take f.events_len u.events; point = f.point }))
then-fails T is_end s v name next w u f fs h step same there within e nok at below =
    let fine : Nok ≢ Error = λ k. cc in
    let back : World = record u { frames = fs; events = take f.events_len u.events; point = f.point } in
    let from : back.point ≡ h.at.point = at ∙ sym (ap (λ (x : World). x.point) h.sees) in
    let text : back.setting ≡ h.at.setting = same ∙ sym (ap (λ (x : World). x.setting) h.sees) in
    record {
      state = Next next;
      at = back;
      names = refl;
      sees = refl;
      may = rw (from, text) h.may;
      runs =
          ThenLeaves Nok u (Next next) back (then-run T is_end s v name w Nok u h step fine same within)
          (record { outer = fs; frame = f; end = tt; frames = e; next = sym nok; new = refl; below = below });
    }

-- content follows at once
pub content-follows : (is_end : Bool) (s : State) (v w : World) →
    content_alone w.flags.leaf w.current ≡ true → w.current ≡ looks w → Within w →
    ArrivedAt FlowStep is_end s v (n.Flow flow.Start) w → ArrivedAt FlowStep is_end s v (n.Flow flow.BeforeContent) w
content-follows is_end s v w e seen within arrived = go w.current refl e
  where
    T : Step
    T = FlowStep

    f : Frame
    f = record {
      ok = Next (n.Flow flow.After);
      nok = Next (n.Flow flow.BeforeContent);
      is_check = false;
      events_len = length w.events;
      point = w.point;
    }

    begun : World
    begun = tried w (Next (n.Flow flow.After)) (Next (n.Flow flow.BeforeContent))

    go : (o : Option ℕ) → w.current ≡ o → content_alone w.flags.leaf o ≡ true →
        ArrivedAt T is_end s v (n.Flow flow.BeforeContent) w
    go None here e = cc
    go (Some b) here e =
        let on : HeldLeaf = w.flags.leaf in
        let may : Bool = (leaf GfmTable).may_begin on false b in
        let parts = and_parts (not (is_white b || nat_eq b 10) && is_common b) (not may) e in
        let more = and_parts (not (is_white b || nat_eq b 10)) (is_common b) parts.0 in
        let plain : (is_white b || nat_eq b 10) ≡ false = not-true (is_white b || nat_eq b 10) more.0 in
        let none : (leaf GfmTable).may_begin on false b ≡ false = not-true may parts.1 in
        let dark = or_parts (is_white b) (nat_eq b 10) plain in
        let is : start_transition w ≡ record { to = Retry (leaf GfmTable).start; world = begun } =
        ap (start_code w) here ∙ ap (start_by w b) plain
        ∙ ap (λ (ls : List LeafName). row_transition ls w) (common-row b more.1) in
        let trial = then-stays T is_end s v (n.Flow flow.Start) (leaf GfmTable).start w begun arrived
        (record { to_is = sym (ap (λ (y : Transition). y.to) is); new_is = sym (ap (λ (y : Transition). y.world) is) })
        refl within refl seen in
        let first : looks_after begun ≡ Some b = looks-dark begun b here dark.0 in
        let refuses : table_start begun ≡ record { to = Nok; world = begun } =
        ap (table_begins begun) (ap (may_with (may_table on)) first ∙ none) in
        let back =
        then-fails T is_end s v (leaf GfmTable).start (n.Flow flow.BeforeContent) begun begun f w.frames trial
        (record {
          to_is = sym (ap (λ (y : Transition). y.to) refuses);
          new_is = sym (ap (λ (y : Transition). y.world) refuses);
        })
        refl refl (within-one f w.frames (length w.events) (omega arith) within) refl refl refl within in
        subst (λ (x : World). ArrivedAt T is_end s v (n.Flow flow.BeforeContent) x)
        (reading-same w seen) (subst (λ (es : List Event). ArrivedAt T is_end s v (n.Flow flow.BeforeContent)
        (reading (record w { events = es })))
        (take_all (length w.events) w.events (omega arith)) back)

-- What a call leaves: where it kept_containers, it has gone nowhere, and the text is the same.
abbrev pub Leaves : Transition → World → Type 0
Leaves a w = Remains a.to w a.world × (a.world.setting ≡ w.setting)

trial-leaves : (start ok nok : StateName) (w u : World) (x : Bool) → u.point ≡ w.point → u.current ≡ w.current →
    u.setting ≡ w.setting → Leaves (trial_code start ok nok u x) w
trial-leaves start ok nok w u true there same text = ((there, same), text)
trial-leaves start ok nok w u false there same text = ((there, same), text)

opener-leaves : (k : ContainerKind) (w : World) → Leaves (new_before_transition k w) w
opener-leaves k w =
    trial-leaves (opens_with k) (n.Document document.ContainerNewAfter) (n.Document (next_opener k)) w
    (asking (container_of k) w) (may_with (may_open k) (looks_after w)) refl refl refl

-- so does the one that is tried at a state, if one is
pub tried-opener-leaves : (o : Option ContainerKind) (w : World) → Leaves (opener_transition o w) w
tried-opener-leaves None w = (tt, refl)
tried-opener-leaves (Some k) w = opener-leaves k w

pub blank-leaves : (w : World) → Leaves (blank_line_before_transition w) w
blank-leaves w = go (ends_line w.current)
  where
    go : (x : Bool) → Leaves (blank_line_code w x (may_with blank.may_begin (looks_after w))) w
    go true = ((refl, refl), refl)
    go false =
        trial-leaves (n.BlankLine blank_line.Start) (n.Flow flow.BlankLineAfter) (n.Flow (front_of trials)) w w
        (may_with blank.may_begin (looks_after w)) refl refl refl

pub start-leaves : (w : World) → Leaves (start_transition w) w
start-leaves w = at w.current
  where
    of-row : (ls : List LeafName) → Leaves (row_transition ls w) w
    of-row [] = ((refl, refl), refl)
    of-row (l ∷ ls) =
        trial-leaves (leaf l).start (n.Flow (leaf_end (leaf l).ends)) (n.Flow (front_of ls)) w w true refl refl refl

    by : (b : ℕ) (x : Bool) → Leaves (start_by w b x) w
    by b true = ((refl, refl), refl)
    by b false = of-row (row b)

    at : (o : Option ℕ) → Leaves (start_code w o) w
    at None = ((refl, refl), refl)
    at (Some b) = by b (is_white b || nat_eq b 10)

pub inside-leaves : (w : World) → Leaves (inside_transition w) w
inside-leaves w = go (asked_first w.flags.leaf)
  where
    go : (o : Option LeafName) → Leaves (inside_code w o) w
    go None = ((refl, refl), refl)
    go (Some l) =
        trial-leaves (leaf l).start (n.Flow flow.After) (n.Flow flow.Start)
        (record w { flags = blank_here (nothing_is_here w.current w.point) w.flags }) w true refl refl refl

-- at the end of a line no state kept_containers
ends-anywhere : (u w : World) (o : Option ℕ) → u.setting ≡ w.setting → Leaves (flow_end_code u o) w
ends-anywhere u w None same = (tt, same)
ends-anywhere u w (Some b) same = go (nat_eq b 10)
  where
    a : Bool → Transition
    a x = cond x
        (record {
          to = Next (n.Document document.ContainerExistingBefore);
          world =
              record (exited (taken (entered u (ending_name u.flags.blank))) (ending_name u.flags.blank)) {
                flags = next_line (length u.events) u.flags;
              };
        })
        (record { to = Nok; world = u })

    go : (x : Bool) → Leaves (a x) w
    go true = (tt, same)
    go false = (tt, same)

pub line-leaves : (w : World) → Leaves (flow_end_transition w) w
line-leaves w = ends-anywhere (closed w (kept_containers w.flags) w.flags.line_end) w w.current refl

-- One has reached a state, where one was or something may be read, and it is called last.
pub ends-following : (first name : StateName) (old w : World) (to : State)
    (new : World) →
    ArrivedHere FlowStep first old name w → Leaves (flow_transition name w) w →
    to ≡ (flow_transition name w).to → new ≡ (flow_transition name w).world → to ≢ Error →
    w.current ≡ looks w → Within w → (w.point ≡ old.point) ⊎ (w.point.index < w.setting.limit) →
    RunsHere FlowStep first old to new × SeesOn to old new
ends-following first name old w to new arrived leaves to_is new_is fine seen within there =
    let same : new.setting ≡ w.setting = ap (λ (x : World). x.setting) new_is ∙ leaves.1 in
    let remains = remains-of (flow_transition name w) to w new to_is new_is leaves.0 in (
      arrived-calls FlowStep first name old w to new arrived (record { to_is = to_is; new_is = new_is }) fine same
          within,
      sees-from to old w new (call-sees to w new remains same seen) same there,
    )

-- One has reached a state, where one was, and it is called last.
pub ends-with : (first name : StateName) (old w : World) (to : State)
    (new : World) →
    ArrivedHere FlowStep first old name w → Leaves (flow_transition name w) w →
    to ≡ (flow_transition name w).to → new ≡ (flow_transition name w).world → to ≢ Error →
    w.current ≡ looks w → Within w → w.point ≡ old.point →
    RunsHere FlowStep first old to new × SeesOn to old new
ends-with first name old w to new arrived leaves to_is new_is fine seen within there =
    ends-following first name old w to new arrived leaves to_is new_is fine seen within (inl there)

-- One call of a state, where one is.
pub leaves-once : (name : StateName) (w : World) (to : State)
    (new : World) →
    Leaves (flow_transition name w) w → to ≡ (flow_transition name w).to →
    new ≡ (flow_transition name w).world → to ≢ Error → w.current ≡ looks w → Within w →
    RunsHere FlowStep name w to new × SeesOn to w new
leaves-once name w to new leaves to_is new_is fine seen within =
    ends-with name name w w to new (arrived-first FlowStep name w) leaves to_is new_is fine seen within
    refl

-- One has reached a state, where one was, and more runs from there.
pub runs-on : (first name : StateName) (old w : World) (to : State)
    (new : World) →
    ArrivedHere FlowStep first old name w → RunsHere FlowStep name w to new → SeesOn to w new →
    w.current ≡ looks w → (w.point ≡ old.point) ⊎ (w.point.index < w.setting.limit) →
    RunsHere FlowStep first old to new × SeesOn to old new
runs-on first name old w to new arrived runs sees seen there =
    let T = FlowStep in
    let same : new.setting ≡ w.setting =
    runs-setting T true (Next name) w to new (runs true (Next name) w refl (reading-same w seen) (inl refl)) in (
      λ is_end. arrived-runs T is_end first name old w to new (arrived is_end) (runs is_end),
      sees-from to old w new sees same there,
    )

-- A run has reached a state that kept_containers, and more runs from there.
pub stays-runs : (first next : StateName) (old w : World) (s to : State)
    (new : World) →
    old.current ≡ looks old → s ≡ Retry next → RunsHere FlowStep first old s w → SeesOn s old w →
    RunsHere FlowStep next w to new → SeesOn to w new →
    RunsHere FlowStep first old to new × SeesOn to old new
stays-runs first next old w s to new seen is before saw runs sees =
    let T = FlowStep in
    let become : RunsHere T first old (Retry next) w = subst (λ (x : State). RunsHere T first old x w) is before in
    let here : SeesOn (Retry next) old w = subst (λ (x : State). SeesOn x old w) is saw in
    let same : w.setting ≡ old.setting =
    runs-setting T true (Next first) old (Retry next) w
    (become true (Next first) old refl (reading-same old seen) (inl refl)) in
    runs-on first next old w to new
    (arrived-stays T first first next old old w (arrived-first T first old) become here same) runs sees here.0 here.1

-- A run from a state to an answer, and what it leaves;
abbrev pub Proceeds : StateName → World → State → World → Type 0
Proceeds name w to new = RunsHere FlowStep name w to new × SeesOn to w new

-- where it answers another state that stays, more may run from there.
pub proceeds-through : (first next : StateName) (w u : World) (s to : State) (new : World) → w.current ≡ looks w →
    s ≡ Retry next → (s ≢ Error → Proceeds first w s u) → (u.current ≡ looks u → Proceeds next u to new) →
    Proceeds first w to new
proceeds-through first next w u s to new seen is become go =
    let before = become (λ e. not_error (Retry next) next refl (sym is ∙ e)) in
    let after = go (subst (λ (x : State). SeesOn x w u) is before.1).0 in
    stays-runs first next w u s to new seen is before.0 before.1 after.0 after.1
