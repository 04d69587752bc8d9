-- Lines that are taken and end in one call.
use Rattle.std.proofs.Common.{◌≡◌, ◌-◌, ◌<◌, ◌≤◌, ◌∙◌, ℕ, suc, Bool, true, false, List, [], ◌∷◌, ◌++◌, length}
use Rattle.std.proofs.Common.{Option, Some, None, IfSome, reverse, slice_get, ap, arith, cond, inr, nat_eq}
use Rattle.std.proofs.Common.{subst, sym}
use Rattle.std.proofs.lemmas.List.{reverse-append}
use Rattle.md_engine.specs.Going.{SeesOn}
use Rattle.md_engine.specs.Run.{Leaves, Runs, RunsHere, plain, reading}
use Rattle.md_engine.specs.Run.Runs.{Stays, ThenLeaves}
use Rattle.md_engine.specs.Staying.{SeesAll}
use Rattle.md_engine.specs.World.{World, closed, looks, world}
use Rattle.md_engine.specs.declared.state.Name.{Name as StateName}
use Rattle.md_engine.specs.declared.state.Name.TheVariants as n
use Rattle.md_engine.specs.declared.state.document.State.TheVariants as document
use Rattle.md_engine.specs.declared.state.State.{State}
use Rattle.md_engine.specs.declared.state.State.TheVariants.{Next, Nok, Ok}
use Rattle.md_engine.specs.declared.stay.Stay.TheVariants.{Line}
use Rattle.md_engine.specs.declared.tokenizer.Frame.{Frame}
use Rattle.md_engine.specs.declared.tokenizer.Tokenizer.{Tokenizer}
use Rattle.md_engine.proofs.Keeps.{runs-append}
use Rattle.md_engine.proofs.Loops.{ArrivedHere, arrived-first, runs-then}
use Rattle.md_engine.proofs.Walks.{TakesSo, Within, then-seen, then-waits}
use Rattle.md_events.specs.Stays.{TakesEach}
use Rattle.md_events.specs.Transition.{Transition, entered, exited, taken}
use Rattle.proof_frame.specs.EndingName.{ending_name}
use Rattle.md_registry.specs.Flow.{flow_end_code, flow_end_transition, leaf_end}
use Rattle.md_registry.specs.LineFlags.{kept_containers, next_line}
use Rattle.md_registry.specs.States.{FlowStep, flow_transition}
use Rattle.md_at_once.specs.AtOnce.{IsContinued, IsTried}

-- After a leaf.

-- the last of the frames is the innermost attempt,
last-first : (fs : List Frame) (f : Frame) → slice_get fs (length fs - 1) ≡ Some f →
    (outer : List Frame) × (reverse fs ≡ f ∷ outer)
last-first [] f e = cc
last-first (x ∷ []) f e = let same : x ≡ f = cc in ([], ap (λ (g : Frame). g ∷ []) same)
last-first (x ∷ y ∷ fs) f e =
    let small : length (y ∷ fs) - 1 ≡ length fs = omega arith in
    let big : length (x ∷ y ∷ fs) - 1 ≡ suc (length fs) = omega arith in
    let more = last-first (y ∷ fs) f (ap (slice_get (y ∷ fs)) small ∙ sym (ap (slice_get (x ∷ y ∷ fs)) big) ∙ e) in
    (more.0 ++ x ∷ [], reverse-append (x ∷ []) (y ∷ fs) ∙ ap (λ (l : List Frame). l ++ x ∷ []) more.1)

-- and may be one at a leaf
pub innermost-tried : (t : Tokenizer) (f : Frame) (o : Option Bool) →
    slice_get t.frames.items (length t.frames.items - 1) ≡ Some f → f.is_check ≡ false →
    IfSome o (λ shuts. f.ok ≡ Next (n.Flow (leaf_end shuts))) → IfSome o (λ shuts. IsTried shuts (world t))
innermost-tried t f None got check ok = tt
innermost-tried t f (Some shuts) got check ok =
    let is = last-first t.frames.items f got in
    record { frame = f; outer = is.0; frames = is.1; moves_on = check; ok = ok }

-- where the attempt at it holds it is left
pub left-after : (shuts : Bool) (w u : World) (next : State) → IsTried shuts w → Leaves Ok w next u →
    next ≡ Next (n.Flow (leaf_end shuts))
left-after shuts w u next h l =
    let e : l.frame ∷ l.outer ≡ h.frame ∷ h.outer = sym l.frames ∙ h.frames in
    let same : l.frame ≡ h.frame = cc in l.next ∙ ap (λ (f : Frame). f.ok) same ∙ h.ok

-- and the line ends
pub end-runs : (shuts : Bool) (w u v : World) (next to : State) (new : World) → IsTried shuts w → Leaves Ok w next u →
    v ≡ reading u → u.point.index < u.setting.limit → RunsHere FlowStep (n.Flow (leaf_end shuts)) v to new →
    (is_end : Bool) → Runs FlowStep is_end Ok w to new
end-runs shuts w u v next to new h l seen lt runs is_end =
    runs-append FlowStep is_end Ok w next u to new (ThenLeaves Ok w next u Stays l)
    (runs is_end next u (ap plain (left-after shuts w u next h l)) (sym seen) (inr lt))

-- whose end stays nowhere
pub end-sees : (w : World) (to : State) → to ≡ (flow_end_transition w).to → (from new : World) → SeesOn to from new
end-sees w to is from new =
    subst (λ (s : State). SeesOn s from new) (sym is)
    (by (closed w (kept_containers w.flags) w.flags.line_end) w.current)
  where
    a : World → Bool → Transition
    a u x = cond x
        (record {
          to = Next (n.Document document.ContainerExistingBefore);
          world =
              record (exited (taken (entered u (ending_name u.flags.blank))) (ending_name u.flags.blank)) {
                flags = next_line (length u.events) u.flags;
              };
        })
        (record { to = Nok; world = u })

    at : (u : World) (x : Bool) → SeesOn (a u x).to from new
    at u true = tt
    at u false = tt

    by : (u : World) (o : Option ℕ) → SeesOn (flow_end_code u o).to from new
    by u None = tt
    by u (Some b) = at u (nat_eq b 10)

-- The rest of a line.

-- a state that takes it byte after byte
pub takes-so : (name : StateName) → TakesEach Line name (flow_transition name) → TakesSo FlowStep name Line
takes-so name each w b e h =
    let is = each (reading w) b e h in
    record { to_is = sym (ap (λ (a : Transition). a.to) is); new_is = sym (ap (λ (a : Transition). a.world) is) }

-- waits for more of it, where the text that may be read ends before,
pub line-waits : (name : StateName) (w u : World) → TakesEach Line name (flow_transition name) → w.current ≡ looks w →
    Within w → SeesAll Line w u → w.point.index < w.setting.limit → u.setting.limit ≤ u.point.index →
    RunsHere FlowStep name w (Next name) u
line-waits name w u each seen within all lt le is_end s v named from may =
    then-waits FlowStep is_end s v name Line w u (takes-so name each)
    (arrived-first FlowStep name w is_end s v named from may) seen within all.some lt le

-- or one reaches it again at the end
pub line-taken : (name : StateName) (w u : World) → TakesEach Line name (flow_transition name) → w.current ≡ looks w →
    Within w → SeesAll Line w u → u.point.index < u.setting.limit → ArrivedHere FlowStep name w name (reading u)
line-taken name w u each seen within all lt is_end s v named from may =
    then-seen FlowStep is_end s v name Line w u (takes-so name each)
    (arrived-first FlowStep name w is_end s v named from may) seen within all.some lt

-- an answer that accepts continues with what runs from there
pub accepts-on : (w : World) (to : State) (new : World) → ((is_end : Bool) → Runs FlowStep is_end Ok w to new) →
    ((from : World) → SeesOn to from new) → IsContinued Ok w to new
accepts-on w to new runs sees first old seen proceeds =
    (λ is_end. runs-then FlowStep is_end first old Ok w to new (proceeds.0 is_end) (runs is_end), sees old)
