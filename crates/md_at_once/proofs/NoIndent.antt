-- A container that continues by an indent ends where none is: an attempt at its indent refuses what is here.
use Rattle.std.proofs.Common.{◌≡◌, ◌≢◌, ◌+◌, ◌<◌, Bool, true, false, cond, ℕ, suc, List, length, nat_lt, take}
use Rattle.std.proofs.Common.{Option, None, Some, refl, sym, ◌∙◌, ap, arith, subst}
use Rattle.std.proofs.lemmas.Bool.Decides.{nat_tests}
use Rattle.std.proofs.lemmas.List.{set-get_or, take_all}
use Rattle.std.proofs.lemmas.Option.{get_or_from_slice_get, slice_get_within}
use Rattle.std.specs.Prelude.{slice_set}
use Rattle.md_engine.specs.declared.event.Event.{Event}
use Rattle.md_engine.specs.declared.state.Name.{Name as StateName}
use Rattle.md_engine.specs.declared.state.Name.TheVariants as n
use Rattle.md_engine.specs.declared.state.document.State.TheVariants as document
use Rattle.md_engine.specs.declared.state.list_item.State.TheVariants as its
use Rattle.md_engine.specs.declared.state.State.{State}
use Rattle.md_engine.specs.declared.state.State.TheVariants.{Error, Next, Nok, Retry}
use Rattle.md_engine.specs.declared.tokenizer.Frame.{Frame}
use Rattle.md_engine.specs.declared.tokenizer.container.Container.{Container}
use Rattle.md_engine.specs.declared.tokenizer.container.name.ContainerKind.{ContainerKind}
use Rattle.md_engine.specs.declared.tokenizer.container.name.ContainerKind.TheVariants as kind
use Rattle.md_engine.specs.Place.{seen_at}
use Rattle.md_engine.specs.Run.{Runs}
use Rattle.md_engine.specs.Run.Runs.{ThenLeaves}
use Rattle.md_engine.specs.World.{Flags, World, looks}
use Rattle.md_engine.proofs.Loops.{ArrivedAt}
use Rattle.md_engine.proofs.Walks.{Within, then-run, then-stays, within-one}
use Rattle.md_containers.specs.Item.{blank_code, cont_filled_code, cont_start_code, proceeds_to, indent_code}
use Rattle.md_containers.specs.Item.{least_width}
use Rattle.md_events.specs.Look.{looks_after, may_with}
use Rattle.md_events.specs.Spaces.{ends_line, sees_white}
use Rattle.md_events.specs.Transition.{Transition, tried}
use Rattle.md_registry.specs.AtOnce.{ContinuesAtOnce, asking_by, asking_next, prefix_taken}
use Rattle.md_registry.specs.Flow.{existing_before_code, existing_before_transition, trial_code}
use Rattle.md_registry.specs.LineFlags.{asking, next_container, was_continued}
use Rattle.md_registry.specs.Registry.{continues_with, may_continue, opener_front, openers}
use Rattle.md_registry.specs.States.{FlowStep}
use Rattle.md_registry.proofs.LinesAtOnce.{looks-dark}
use Rattle.md_registry.proofs.PlainLaws.{after-it, others}
use Rattle.md_registry.proofs.AtOnce.{asked, asked_taken}
use Rattle.md_at_once.specs.AtOnce.{EndsAtOnce, SeesAhead}
use Rattle.md_at_once.proofs.TakenBack.{stepped-as}

-- such a container is tried, whatever is here
always-tried : (k : ContainerKind) → continues_with k ≡ n.ListItem its.ContStart → (o : Option ℕ) →
    may_with (may_continue k) o ≡ true
always-tried kind.BlockQuote e o = cc
always-tried kind.ListItem e None = refl
always-tried kind.ListItem e (Some b) = refl
always-tried kind.GfmFootnoteDefinition e None = refl
always-tried kind.GfmFootnoteDefinition e (Some b) = refl

-- So it is asked, and the first container that may open is next.
pub container-ends : (is_end : Bool) (s : State) (v w : World) → EndsAtOnce w → w.current ≡ looks w → Within w →
    ArrivedAt FlowStep is_end s v (n.Document document.ContainerExistingBefore) w →
    Runs FlowStep is_end s v (Next (n.Document (opener_front openers))) (asking_next w)
container-ends is_end s v w ends seen within arrived =
    subst (λ (x : World). Runs FlowStep is_end s v others x) (sym asked)
    (ThenLeaves Nok begun others a
    (then-run FlowStep is_end s v (n.ListItem its.ContFilled) begun Nok begun at_filled
    (stepped-as (n.ListItem its.ContFilled) begun (record { to = Nok; world = begun }) refused) fine refl in-begun)
    (record { outer = w.frames; frame = f; end = tt; frames = refl; next = refl; new = new; below = within }))
  where
    c : Container
    c = ends.held

    a : World
    a = asking c w

    begun : World
    begun = tried a after-it others

    f : Frame
    f = record { ok = after-it; nok = others; is_check = false; events_len = length w.events; point = w.point }

    fine : Nok ≢ Error
    fine = λ k. cc

    asked : asking_next w ≡ a
    asked = ap (λ (o : Option Container). asking_by o w) ends.next

    in-begun : Within begun
    in-begun = within-one f w.frames (length w.events) (omega arith) within

    new : a ≡ record a { events = take (length w.events) w.events }
    new = ap (λ (l : List Event). record a { events = l }) (sym (take_all (length w.events) w.events (omega arith)))

    not_end : ends_line w.current ≡ false
    not_end = ap ends_line ends.out.here ∙ ends.out.filled

    tries : existing_before_transition w ≡ record { to = Retry (continues_with c.kind); world = begun }
    tries =
        ap (λ (x : Bool). existing_before_code w x (next_container w.flags)) not_end
        ∙ ap (existing_before_code w false) ends.next
        ∙ ap
        (trial_code (continues_with c.kind) (n.Document document.ContainerExistingAfter)
        (n.Document (opener_front openers)) a) (always-tried c.kind ends.indented (looks_after w))

    at_start : ArrivedAt FlowStep is_end s v (n.ListItem its.ContStart) begun
    at_start =
        subst (λ (x : StateName). ArrivedAt FlowStep is_end s v x begun) ends.indented
        (then-stays FlowStep is_end s v (n.Document document.ContainerExistingBefore) (continues_with c.kind)
        w begun arrived
        (stepped-as (n.Document document.ContainerExistingBefore) w _ tries) refl within refl seen)

    following : looks_after begun ≡ Some ends.out.byte
    following = looks-dark begun ends.out.byte ends.out.here ends.out.dark

    at_filled : ArrivedAt FlowStep is_end s v (n.ListItem its.ContFilled) begun
    at_filled =
        then-stays FlowStep is_end s v (n.ListItem its.ContStart) (n.ListItem its.ContFilled) begun begun at_start
        (stepped-as (n.ListItem its.ContStart) begun (proceeds_to its.ContFilled begun)
        (ap (λ (x : Bool). cont_start_code begun x c.starts_blank) not_end
        ∙ ap (blank_code its.ContBlank its.ContFilled begun) following
        ∙ ap (λ (x : Bool). cond x (proceeds_to its.ContBlank begun) (proceeds_to its.ContFilled begun))
        ends.out.filled)) refl
        in-begun refl seen

    refused : cont_filled_code begun begun.scratch.whitespace.max ≡ record { to = Nok; world = begun }
    refused =
        ap (cont_filled_code begun) ends.rest
        ∙ ap (λ (o : Option ℕ). indent_code its.ContFilled (least_width c) begun (sees_white o)) ends.out.here
        ∙ ap (indent_code its.ContFilled (least_width c) begun) ends.out.dark

-- What is here may be read.
pub ends-ahead : (w : World) → EndsAtOnce w → w.current ≡ looks w → SeesAhead (asking_next w)
ends-ahead w ends seen =
    subst SeesAhead (sym (ap (λ (o : Option Container). asking_by o w) ends.next)) (seen, inside)
  where
    go : (x : Bool) → nat_lt w.point.index w.setting.limit ≡ x →
        cond x (Some (seen_at w.setting.bytes w.point)) None ≡ Some ends.out.byte →
        w.point.index < w.setting.limit
    go true e is = grind (arith, nat_tests)
    go false e is = cc

    inside : w.point.index < w.setting.limit
    inside = go (nat_lt w.point.index w.setting.limit) refl (sym seen ∙ ends.out.here)

-- A container that continues is held as it was, unless it started blank,
held-by : (k : ContainerKind) (c : Container) (w : World) → c.starts_blank ≡ false →
    ((prefix_taken c k (asking c w)).flags.asked ≡ c) ×
    (next_container (prefix_taken c k (asking c w)).flags ≡ next_container w.flags)
held-by kind.BlockQuote c w filled = (refl, refl)
held-by kind.ListItem c w filled = (ap (λ (b : Bool). record c { starts_blank = b }) (sym filled), refl)
held-by kind.GfmFootnoteDefinition c w filled = (ap (λ (b : Bool). record c { starts_blank = b }) (sym filled), refl)

pub taken-held : (w : World) → ContinuesAtOnce w → (asking_next w).flags.asked.starts_blank ≡ false →
    next_container (asked_taken (asking_next w)).flags ≡ Some (asked_taken (asking_next w)).flags.asked
taken-held w at_once filled = subst P (sym (asked w at_once)) one filled
  where
    c : Container
    c = at_once.held

    P : World → Type 0
    P x = x.flags.asked.starts_blank ≡ false → next_container (asked_taken x).flags ≡ Some (asked_taken x).flags.asked

    one : P (asking c w)
    one e = let kept = held-by c.kind c w e in kept.1 ∙ at_once.next ∙ ap Some (sym kept.0)

-- and then only one more has continued.
pub held_on : (w : World) → next_container w.flags ≡ Some w.flags.asked →
    record w { flags = record w.flags { continued = w.flags.continued + 1 } } ≡
    record w { flags = was_continued w.flags }
held_on w next = ap (λ (g : Flags). record w { flags = g }) (same w.flags next)
  where
    same : (g : Flags) → next_container g ≡ Some g.asked → record g { continued = g.continued + 1 } ≡ was_continued g
    same g e =
        let lt : g.continued < length g.containers = slice_get_within g.containers g.continued g.asked e in
        let inside : nat_lt g.continued (length g.containers) ≡ true = grind (arith, nat_tests) in
        let one : g.continued + 1 ≡ suc g.continued = omega arith in
        let kept : slice_set g.containers g.continued g.asked ≡ g.containers =
        ap (λ (x : Container). slice_set g.containers g.continued x)
        (sym (get_or_from_slice_get g.containers g.continued g.asked g.asked e))
        ∙ set-get_or g.containers g.continued g.asked in
        ap (λ (m : ℕ). record g { continued = m }) one
        ∙ ap (λ (l : List Container). record g { containers = l; continued = suc g.continued }) (sym kept)
        ∙ ap
        (λ (x : Bool).
        record g {
          containers = slice_set g.containers g.continued g.asked;
          continued = cond x (suc g.continued) g.continued;
        }) (sym inside)

-- What is answered before a container stays.
code-stays : (w : World) (ends : Bool) (o : Option Container) (name : StateName) →
    (existing_before_code w ends o).to ≢ Next name
code-stays w true o name = λ e. cc
code-stays w false None name = λ e. cc
code-stays w false (Some c) name = go (may_with (may_continue c.kind) (looks_after w))
  where
    a : Bool → Transition
    a x = trial_code (continues_with c.kind) (n.Document document.ContainerExistingAfter)
        (n.Document (opener_front openers)) (asking c w) x

    go : (x : Bool) → (a x).to ≢ Next name
    go true = λ e. cc
    go false = λ e. cc

pub existing-stays : (w : World) (name : StateName) → (existing_before_transition w).to ≢ Next name
existing-stays w name = code-stays w (ends_line w.current) (next_container w.flags) name
