-- Each state of flow keeps what its table needs.
use Rattle.std.proofs.Common.{◌≡◌, ◌<◌, ◌||◌, ℕ, Bool, true, false, nat_eq, List, [], ◌∷◌, length, Option, Some, None}
use Rattle.std.proofs.Common.{refl}
use Rattle.std.proofs.Common.{ap, sym, subst, arith}
use Rattle.std.specs.Option.{is_some}
use Rattle.md_engine.specs.declared.event.Event.{Event}
use Rattle.md_engine.specs.declared.state.Name.{Name as StateName}
use Rattle.md_engine.specs.declared.state.Name.TheVariants as n
use Rattle.md_engine.specs.declared.state.blank_line.State.TheVariants as blank_line
use Rattle.md_engine.specs.declared.state.content.State.TheVariants as content
use Rattle.md_engine.specs.declared.state.document.State.{State as DocumentState}
use Rattle.md_engine.specs.declared.state.document.State.TheVariants as document
use Rattle.md_engine.specs.declared.state.flow.State.{State as FlowState}
use Rattle.md_engine.specs.declared.state.flow.State.TheVariants as flow
use Rattle.md_engine.specs.declared.state.State.TheVariants.{Next, Nok, Retry}
use Rattle.md_engine.specs.declared.tokenizer.container.Container.{Container}
use Rattle.md_engine.specs.declared.tokenizer.container.name.ContainerKind.{ContainerKind}
use Rattle.md_engine.specs.Scheme.{Fits, Scheme, after_all, position, seen, valid}
use Rattle.md_engine.specs.World.{Flags, World, closed, container_of, looks}
use Rattle.md_engine.proofs.Falls.{later, later_at}
use Rattle.md_engine.proofs.Local.{accepts, begins_try, consumes, fits, refuses}
use Rattle.md_engine.proofs.Points.{takes}
use Rattle.md_content.specs.Chunks.{chunk_scheme}
use Rattle.md_content.proofs.Termination.{ChunkFits, chunk_terminates}
use Rattle.md_leaves.specs.Blank.{blank_scheme, may_begin}
use Rattle.md_leaves.proofs.BlankTermination.{blank_terminates}
use Rattle.md_meaning.specs.Rest.{is_white}
use Rattle.md_events.specs.Look.{looks_after, may_with}
use Rattle.md_events.specs.Spaces.{IsRest, ends_line, sees_white}
use Rattle.md_events.proofs.SpacesTermination.{Does, seen-some, white_terminates}
use Rattle.proof_frame.specs.LeafName.{LeafName}
use Rattle.md_registry.specs.Document.{document_own_transition}
use Rattle.md_registry.specs.Flow.{before_content_transition, before_transition, following_all, blank_line_code}
use Rattle.md_registry.specs.Flow.{containers_after_transition, existing_before_code, flow_end_code}
use Rattle.md_registry.specs.Flow.{flow_own_transition}
use Rattle.md_registry.specs.Flow.{flow_rank, flow_ready, flow_scheme, inside_code, leaf_end, leaf_front}
use Rattle.md_registry.specs.Flow.{leaf_transition}
use Rattle.md_registry.specs.Flow.{new_before_transition, opener_transition, row_transition, start_by, start_code}
use Rattle.md_registry.specs.Flow.{trial_code}
use Rattle.md_registry.specs.LineFlags.{asking, begun_line, blank_here, blanked, ended_on, kept_containers}
use Rattle.md_registry.specs.LineFlags.{nothing_is_here, shut_leaf, was_continued, with_container}
use Rattle.md_registry.specs.Registry.{asked_first, bars_containers, following, container_rules, front_of}
use Rattle.md_registry.specs.Registry.{continues_with, leaf, may_continue, may_open, next_opener, opener_at}
use Rattle.md_registry.specs.Registry.{opener_front, openers, opens_with, row, trials, tried_at}
use Rattle.md_registry.specs.States.{flow_owner, flow_table_scheme, flow_transition, leaf_owner, opener_owner}
use Rattle.md_registry.proofs.Termination.{Anywhere, IsWithin, TrialFits, inside-tried, prefix-tried, turned}
use Rattle.md_registry.proofs.Dispatch.{AreNext, row-next}
use Rattle.md_registry.proofs.Openers as opening
use Rattle.md_registry.proofs.Trials as trying
use Rattle.md_registry.proofs.Trials.{inside_fits, leaf-fits}
use Rattle.md_registry.proofs.Registry.{blank_fits, construct-does, container-states, opener-before}
use Rattle.md_registry.proofs.Registry.{tried-before, is-tried, white_fits}

chunk_fits : ChunkFits flow_table_scheme
chunk_fits = record { each = λ state. fits flow_owner (n.Content state) }

-- flow continues here with a state of its own that ranks below
is_continued : (from next : StateName) (w : World) (events : List Event) (g : Flags) → flow_owner from ≡ flow_scheme →
    flow_owner next ≡ flow_scheme → flow_ready (position w) (after_all flow_table_scheme w.frames) →
    (flow_rank next).number < (flow_rank from).number →
    Does flow_table_scheme from w (record { to = Retry next; world = record w { events = events; flags = g } })
is_continued from next w events g here there r lt =
    let Own : StateName → Scheme → Type 1 = λ name S. Fits flow_table_scheme S name in
    turned flow_table_scheme from next w events g (subst (Own from) here (fits flow_owner from))
    (subst (Own next) there (fits flow_owner next)) r lt

-- Between the containers of a line.

existing_before : (w : World) (ends : Bool) (o : Option Container) →
    flow_ready (position w) (after_all flow_table_scheme w.frames) → ends_line (seen (position w)) ≡ ends →
    Does flow_table_scheme (n.Document document.ContainerExistingBefore) w (existing_before_code w ends o)
existing_before w true o r is =
    is_continued (n.Document document.ContainerExistingBefore) (n.Document document.ContainersAfter) w w.events
    (ended_on w.flags) refl refl r (omega arith)
existing_before w false None r is = go (bars_containers w.flags.leaf)
  where
    go : (x : Bool) →
        Does flow_table_scheme (n.Document document.ContainerExistingBefore) w
        (record { to = Retry (n.Document (following_all x)); world = w })
    go true =
        is_continued (n.Document document.ContainerExistingBefore) (n.Document document.ContainersAfter) w
        w.events w.flags
        refl refl r (omega arith)
    go false =
        is_continued (n.Document document.ContainerExistingBefore) (n.Document (opener_front openers)) w
        w.events w.flags
        refl refl r (omega arith)
existing_before w false (Some c) r is =
    prefix-tried flow_table_scheme IsWithin (n.Document document.ContainerExistingBefore) (continues_with c.kind)
    (n.Document document.ContainerExistingAfter) (n.Document (opener_front openers)) w (asking c w).flags
    (may_with (may_continue c.kind) (looks_after w))
    (opening.front-fits (n.Document document.ContainerExistingBefore) openers
    (fits flow_owner (n.Document document.ContainerExistingBefore)) refl (omega arith))
    (container-states c.kind).is_continued is
    (fits flow_owner (n.Document document.ContainerExistingAfter)) r

new_before : (k : ContainerKind) (w : World) → flow_ready (position w) (after_all flow_table_scheme w.frames) →
    Does flow_table_scheme (n.Document (container_rules k).before) w (new_before_transition k w)
new_before k w r =
    prefix-tried flow_table_scheme Anywhere (n.Document (container_rules k).before) (opens_with k)
    (n.Document document.ContainerNewAfter) (n.Document (next_opener k)) w (asking (container_of k) w).flags
    (may_with (may_open k) (looks_after w)) (opening.opener-fits k) (container-states k).begins tt
    (fits flow_owner (n.Document document.ContainerNewAfter)) r

containers_after : (w : World) → flow_ready (position w) (after_all flow_table_scheme w.frames) →
    Does flow_table_scheme (n.Document document.ContainersAfter) w (containers_after_transition w)
containers_after w r = go (is_some (asked_first (begun_line w.flags).leaf))
  where
    go : (x : Bool) →
        Does flow_table_scheme (n.Document document.ContainersAfter) w
        (record { to = Retry (leaf_front x); world = record w { flags = begun_line w.flags } })
    go true =
        is_continued (n.Document document.ContainersAfter) (n.Document document.FlowInside) w w.events
        (begun_line w.flags)
        refl refl r (omega arith)
    go false =
        is_continued (n.Document document.ContainersAfter) (n.Flow flow.Start) w w.events
        (begun_line w.flags) refl refl r
        (omega arith)

inside : (w : World) (o : Option LeafName) → flow_ready (position w) (after_all flow_table_scheme w.frames) →
    Does flow_table_scheme (n.Document document.FlowInside) w (inside_code w o)
inside w None r = is_continued (n.Document document.FlowInside) (n.Flow flow.Start) w w.events w.flags refl refl r
    (omega arith)
inside w (Some l) r =
    inside-tried flow_table_scheme (n.Document document.FlowInside) (leaf l).start (n.Flow flow.After)
    (n.Flow flow.Start) w (blank_here (nothing_is_here w.current w.point) w.flags) true
    (record {
      front = fits flow_owner (n.Document document.FlowInside);
      next = fits flow_owner (n.Flow flow.Start);
      falls = omega arith;
      next_low = omega arith;
      after_low = omega arith;
    }) (inside_fits l) (fits flow_owner (n.Flow flow.After)) (omega arith) r

flow_end : (w : World) (o : Option ℕ) → flow_ready (position w) (after_all flow_table_scheme w.frames) →
    seen (position w) ≡ o →
    Does flow_table_scheme (n.Document document.FlowEnd) w
    (flow_end_code (closed w (kept_containers w.flags) w.flags.line_end) o)
flow_end w None r e = (
  accepts flow_table_scheme (n.Document document.FlowEnd) w IsRest IsRest
      (flow_end_code (closed w (kept_containers w.flags) w.flags.line_end) None).world.events w.scratch r.0.1 r.0.0,
  refl,
)
flow_end w (Some b) r e = go (nat_eq b 10) refl
  where
    inside : w.point.index < w.setting.limit
    inside = seen-some (position w) b e

    v : World
    v = closed w (kept_containers w.flags) w.flags.line_end

    go : (x : Bool) → nat_eq b 10 ≡ x →
        Does flow_table_scheme (n.Document document.FlowEnd) w (flow_end_code v (Some b))
    go true k =
        rw k (
          consumes flow_table_scheme flow_scheme _ _ w (flow_end_code v (Some 10)).world.events w.scratch
              (fits flow_owner (n.Document document.FlowEnd))
              (fits flow_owner (n.Document document.ContainerExistingBefore)) inside
              ((r.0.0, later _ _ (position w) _ _ _ (takes w.setting w.point inside) r.0.1), r.1) (omega arith),
          refl,
        )
    go false k =
        rw k (
          refuses flow_table_scheme (n.Document document.FlowEnd) w IsRest IsRest v.events w.scratch r.0.1 r.0.0,
          refl,
        )

-- the states before a container that may open,
opener_terminates : (state : DocumentState) (o : Option ContainerKind) → opener_at state ≡ o → (w : World) →
    (opener_owner o).ready (n.Document state) (position w) (after_all flow_table_scheme w.frames) →
    Does flow_table_scheme (n.Document state) w (opener_transition o w)
opener_terminates state None e w at = absurd at
opener_terminates state (Some k) e w at =
    let P : DocumentState → Type 0 = λ x. Does flow_table_scheme (n.Document x) w (new_before_transition k w) in
    subst P (opener-before state k e) (new_before k w at)

-- and the others between the containers of a line
containers_do : (state : DocumentState) (w : World) → w.current ≡ looks w →
    valid flow_table_scheme w (Next (n.Document state)) →
    Does flow_table_scheme (n.Document state) w (document_own_transition state w)
containers_do document.ContainerExistingBefore w c at = existing_before w _ _ at (ap ends_line (sym c))
containers_do document.ContainerExistingAfter w c at =
    is_continued (n.Document document.ContainerExistingAfter) (n.Document document.ContainerExistingBefore) w w.events
    (was_continued w.flags) refl refl at (omega arith)
containers_do document.ContainerNewAfter w c at =
    let v = closed w w.flags.continued w.flags.line_end in
    is_continued (n.Document document.ContainerNewAfter) (n.Document (opener_front openers)) w v.events
    (with_container v.flags) refl refl at (omega arith)
containers_do document.ContainersAfter w c at = containers_after w at
containers_do document.FlowInside w c at = inside w (asked_first w.flags.leaf) at
containers_do document.FlowEnd w c at = flow_end w w.current at (sym c)
containers_do document.Start w c at = absurd at
containers_do document.BeforeFrontmatter w c at = absurd at
containers_do document.ContainerNewBeforeNotFootnoteDefinition w c at = absurd at
containers_do state w c at = opener_terminates state (opener_at state) refl w at

-- The leaf of a line.

-- where one continues after a leaf
ends-fit : (ends : Bool) → Fits flow_table_scheme flow_scheme (n.Flow (leaf_end ends))
ends-fit true = fits flow_owner (n.Flow flow.LeafAfter)
ends-fit false = fits flow_owner (n.Flow flow.After)

ends-low : {size : ℕ} (ends : Bool) → 1 < size → (flow_rank (n.Flow (leaf_end ends))).number < size
ends-low true low = low
ends-low false low = low

-- a leaf is tried before these
leaf_tried : (from : StateName) (l : LeafName) (ls : List LeafName) (w : World) (may : Bool) →
    TrialFits flow_table_scheme from (n.Flow (front_of ls)) → flow_ready (position w)
    (after_all flow_table_scheme w.frames) →
    Does flow_table_scheme from w
    (trial_code (leaf l).start (n.Flow (leaf_end (leaf l).ends)) (n.Flow (front_of ls)) w may)
leaf_tried from l ls w may fit r =
    inside-tried flow_table_scheme from (leaf l).start (n.Flow (leaf_end (leaf l).ends)) (n.Flow (front_of ls)) w
    w.flags
    may fit (inside_fits l) (ends-fit (leaf l).ends) (ends-low (leaf l).ends fit.after_low) r

-- at the state before it,
leaf_terminates : (state : FlowState) (o : Option LeafName) → tried_at state ≡ o → (w : World) →
    (leaf_owner o).ready (n.Flow state) (position w) (after_all flow_table_scheme w.frames) →
    Does flow_table_scheme (n.Flow state) w (leaf_transition o w)
leaf_terminates state None e w at = absurd at
leaf_terminates state (Some l) e w at =
    let P : FlowState → Type 0 = λ x. Does flow_table_scheme (n.Flow x) w (before_transition l w) in
    subst P (tried-before state l e)
    (leaf_tried (n.Flow (leaf l).before) l (following l) w
    (may_with ((leaf l).may_begin w.flags.leaf (sees_white w.current)) (looks_after w))
    (leaf-fits l (is-tried state l e)) at)

-- and by the row of the byte that is here
row_terminates : (w : World) (ls : List LeafName) → AreNext ls →
    flow_ready (position w) (after_all flow_table_scheme w.frames) →
    Does flow_table_scheme (n.Flow flow.Start) w (row_transition ls w)
row_terminates w [] next r =
    is_continued (n.Flow flow.Start) (n.Flow flow.BeforeContent) w w.events w.flags refl refl r (omega arith)
row_terminates w (l ∷ ls) next r =
    leaf_tried (n.Flow flow.Start) l ls w true
    (trying.front-fits (n.Flow flow.Start) ls (fits flow_owner (n.Flow flow.Start)) next.0 next.1) r

start_terminates : (w : World) (o : Option ℕ) → flow_ready (position w) (after_all flow_table_scheme w.frames) →
    Does flow_table_scheme (n.Flow flow.Start) w (start_code w o)
start_terminates w None r =
    is_continued (n.Flow flow.Start) (n.Flow flow.BlankLineBefore) w w.events w.flags refl refl r (omega arith)
start_terminates w (Some b) r = go (is_white b || nat_eq b 10)
  where
    go : (x : Bool) → Does flow_table_scheme (n.Flow flow.Start) w (start_by w b x)
    go true = is_continued (n.Flow flow.Start) (n.Flow flow.BlankLineBefore) w w.events w.flags refl refl
        r (omega arith)
    go false = row_terminates w (row b) (row-next b) r

blank_terminates_before : (w : World) (ends : Bool) → flow_ready (position w) (after_all flow_table_scheme w.frames) →
    Does flow_table_scheme (n.Flow flow.BlankLineBefore) w
    (blank_line_code w ends (may_with may_begin (looks_after w)))
blank_terminates_before w true r =
    is_continued (n.Flow flow.BlankLineBefore) (n.Flow flow.BlankLineAfter) w w.events w.flags refl refl r (omega arith)
blank_terminates_before w false r =
    inside-tried flow_table_scheme (n.Flow flow.BlankLineBefore) (n.BlankLine blank_line.Start)
    (n.Flow flow.BlankLineAfter) (n.Flow (front_of trials)) w w.flags (may_with may_begin (looks_after w))
    (trying.front-fits (n.Flow flow.BlankLineBefore) trials (fits flow_owner (n.Flow flow.BlankLineBefore)) (refl, refl)
    (omega arith))
    (record {
      own = blank_scheme;
      starts = fits flow_owner (n.BlankLine blank_line.Start);
      level = omega arith;
      ready = λ x K rest. rest;
    }) (fits flow_owner (n.Flow flow.BlankLineAfter)) (omega arith) r

content_terminates : (w : World) → flow_ready (position w) (after_all flow_table_scheme w.frames) →
    Does flow_table_scheme (n.Flow flow.BeforeContent) w (before_content_transition w)
content_terminates w r = (
  begins_try flow_table_scheme flow_scheme chunk_scheme (n.Flow flow.BeforeContent)
      (n.Content content.ChunkStart) w IsRest IsRest w.events w.scratch
      (record {
        ok = Next (n.Flow flow.After);
        nok = Nok;
        is_check = false;
        events_len = length w.events;
        point = w.point;
      }) (fits flow_owner (n.Flow flow.BeforeContent)) (fits flow_owner (n.Content content.ChunkStart))
      (fits flow_owner (n.Flow flow.After)) tt refl
      (record {
        ok =
            λ s q t is up way. (
              (is, later_at _ _ (position w) (after_all flow_table_scheme w.frames) q t s up way r.0.1),
              r.1,
            );
        ok_level = omega arith;
        ok_rank = λ s t is up. omega arith;
        nok = λ s t is up. r.0.1.nok s w.point t is up;
        nok_level = omega arith;
        nok_rank = λ s t is up. omega arith;
      }) (λ K e. (r.0.0, e)) (omega arith) (omega arith) (omega arith),
  refl,
)

leaves_do : (state : FlowState) (w : World) → valid flow_table_scheme w (Next (n.Flow state)) →
    Does flow_table_scheme (n.Flow state) w (flow_own_transition state w)
leaves_do flow.Start w at = start_terminates w w.current at
leaves_do flow.BlankLineBefore w at = blank_terminates_before w _ at
leaves_do flow.BeforeContent w at = content_terminates w at
leaves_do flow.BlankLineAfter w at =
    is_continued (n.Flow flow.BlankLineAfter) (n.Document document.FlowEnd) w w.events (blanked w.flags) refl refl at
    (omega arith)
leaves_do flow.LeafAfter w at =
    is_continued (n.Flow flow.LeafAfter) (n.Document document.FlowEnd) w w.events (shut_leaf w.flags) refl refl at
    (omega arith)
leaves_do flow.After w at =
    is_continued (n.Flow flow.After) (n.Document document.FlowEnd) w w.events w.flags refl refl at (omega arith)
leaves_do state w at = leaf_terminates state (tried_at state) refl w at

pub flow_terminates : (name : StateName) (w : World) → w.current ≡ looks w →
    valid flow_table_scheme w (Next name) → Does flow_table_scheme name w (flow_transition name w)
flow_terminates (n.BlankLine state) w c at = blank_terminates flow_table_scheme state w blank_fits at
flow_terminates (n.Content state) w c at = chunk_terminates flow_table_scheme state w chunk_fits c at
flow_terminates (n.Document state) w c at = containers_do state w c at
flow_terminates (n.Flow state) w c at = leaves_do state w at
flow_terminates (n.SpaceOrTab state) w c at = white_terminates flow_table_scheme state w white_fits c at
flow_terminates name w c at = construct-does name w c at
