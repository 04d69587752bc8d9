-- Why a call that takes several states at once wants memory: by what is known of the state in it that does.
use Rattle.std.proofs.Common.{◌≡◌, ◌≢◌, ◌∙◌, ◌<◌, ◌≤◌, ◌⊎◌, Bool, true, [], ◌∷◌, ap, arith, inl, inr, refl, subst, sym}
use Rattle.std.specs.Vec.{vec_capacity, vec_len}
use Rattle.md_engine.specs.declared.state.Name.{Name as StateName}
use Rattle.md_engine.specs.declared.state.Name.TheVariants as n
use Rattle.md_engine.specs.declared.state.State.{State}
use Rattle.md_engine.specs.declared.state.State.TheVariants.{Error, Next, Nok, Ok, Retry}
use Rattle.md_engine.specs.declared.tokenizer.Tokenizer.{Tokenizer}
use Rattle.md_engine.specs.Full.{IsFull, IsFullList, IsFullOf, OnError}
use Rattle.md_engine.specs.Full.Grown.{Containers, Events, Frames, Resolvers}
use Rattle.md_engine.specs.Going.{SeesOn}
use Rattle.md_engine.specs.Run.{Leaves, Runs, RunsHere, plain, reading}
use Rattle.md_engine.specs.Run.Runs.{Stays, ThenLeaves}
use Rattle.md_engine.specs.World.{World, looks, world}
use Rattle.md_engine.proofs.Keeps.{runs-append, runs-setting}
use Rattle.md_engine.proofs.Loops.{ArrivedHere, arrived-first, arrived-stays, not_error, reading-same}
use Rattle.md_registry.specs.Flow.{leaf_end}
use Rattle.md_registry.specs.FlowRule.{HasOpen}
use Rattle.md_registry.specs.States.{FlowStep}
use Rattle.md_at_once.specs.AtOnce.{EndFull, FlowFull, GetsToOpen, IsShort, IsTried, LineFull, MeetsOpen, Proceeds}
use Rattle.md_at_once.proofs.LineEnds.{left-after}

-- Of an answer.

-- what follows from why it wants memory
pub weaker : (s : State) (X Y : Type 0) → (X → Y) → OnError s X → OnError s Y
weaker Error X Y f h = f h
weaker Ok X Y f h = tt
weaker Nok X Y f h = tt
weaker (Next name) X Y f h = tt
weaker (Retry name) X Y f h = tt

-- one that does not want it
pub wants-none : (s : State) (X : Type 0) → s ≢ Error → OnError s X
wants-none Error X fine = absurd (fine refl)
wants-none Ok X fine = tt
wants-none Nok X fine = tt
wants-none (Next name) X fine = tt
wants-none (Retry name) X fine = tt

-- one after which nothing was done
pub wants-kept : (to : State) (F : Tokenizer → Type 0) (old new : Tokenizer) → (to ≡ Error → new ≡ old) →
    OnError to (F old) → OnError to (F new)
wants-kept Error F old new same h = subst F (sym (same refl)) h
wants-kept Ok F old new same h = tt
wants-kept Nok F old new same h = tt
wants-kept (Next name) F old new same h = tt
wants-kept (Retry name) F old new same h = tt

pub end-kept : (to : State) (t : Tokenizer) → OnError to (EndFull to t t)
end-kept Error t = inl (refl, refl)
end-kept Ok t = tt
end-kept Nok t = tt
end-kept (Next name) t = tt
end-kept (Retry name) t = tt

-- of one that wants memory, why it does
pub wanted : (s : State) (X : Type 0) → s ≡ Error → OnError s X → X
wanted s X is h = subst (λ (t : State). OnError t X) is h

-- Of a list.

pub events-short : (t : Tokenizer) → IsFullList Events t → IsShort t
unfolding IsFullList
events-short t full = let le : vec_capacity t.events ≤ vec_len t.events = full in inl (omega arith)

pub state-short : (t : Tokenizer) → IsFull t → IsShort t
state-short t (inl full) = events-short t full
state-short t (inr (inl full)) = inr (inl full)
state-short t (inr (inr none)) = absurd none

pub chunk-short : (t : Tokenizer) → IsFullOf (Resolvers ∷ Events ∷ Frames ∷ []) t → IsShort t
chunk-short t (inl full) = inr (inr (inl full))
chunk-short t (inr (inl full)) = events-short t full
chunk-short t (inr (inr (inl full))) = inr (inl full)
chunk-short t (inr (inr (inr none))) = absurd none

-- Of a state.

pub state-wants : (name : StateName) (old : World) (s : State) (new : Tokenizer) → OnError s (IsFull new) →
    OnError s (FlowFull name old new)
state-wants name old s new h =
    weaker s (IsFull new) (FlowFull name old new) (λ full. inl (state-short new full)) h

-- where containers are open nothing is to be gone through
pub open-met : (name : StateName) (old : World) → HasOpen old → MeetsOpen name old
open-met name old opened is_end s w named from may = record {
  to = s;
  at = w;
  runs = Stays;
  opened = subst (λ (x : World). HasOpen x) (sym from) opened;
}

pub containers-want : (name : StateName) (old : World) (s : State) (new : Tokenizer) →
    OnError s ((IsFull new ⊎ HasOpen old) ⊎ IsFullList Containers new) → OnError s (FlowFull name old new)
containers-want name old s new h =
    weaker s ((IsFull new ⊎ HasOpen old) ⊎ IsFullList Containers new) (FlowFull name old new) by h
  where
    by : (IsFull new ⊎ HasOpen old) ⊎ IsFullList Containers new → FlowFull name old new
    by (inl (inl full)) = inl (state-short new full)
    by (inl (inr opened)) = inr (open-met name old opened)
    by (inr full) = inl (inr (inr (inr (inl full))))

-- Of a call after others.

-- a run gets to where it gets from a state that it has reached
pub met-following : (first next : StateName) (old w : World) → ArrivedHere FlowStep first old next w →
    MeetsOpen next w → MeetsOpen first old
met-following first next old w arrived meets is_end s v named from may =
    let h = arrived is_end s v named from may in
    let m = meets is_end h.state h.at h.names h.sees h.may in
    record {
      to = m.to;
      at = m.at;
      runs = runs-append FlowStep is_end s v h.state h.at m.to m.at h.runs m.runs;
      opened = m.opened;
    }

pub wants-following : (first next : StateName) (old w : World) (s : State) (new : Tokenizer) →
    ArrivedHere FlowStep first old next w → OnError s (FlowFull next w new) → OnError s (FlowFull first old new)
wants-following first next old w s new arrived h = weaker s (FlowFull next w new) (FlowFull first old new) by h
  where
    by : FlowFull next w new → FlowFull first old new
    by (inl short) = inl short
    by (inr meets) = inr (met-following first next old w arrived meets)

-- a run that answers another state that stays has reached that state
arrived-through : (first next : StateName) (w u : World) (s : State) → w.current ≡ looks w → s ≡ Retry next →
    (s ≢ Error → Proceeds first w s u) → ArrivedHere FlowStep first w next u
arrived-through first next w u s seen is become =
    let before = become (λ e. not_error (Retry next) next refl (sym is ∙ e)) in
    let runs : RunsHere FlowStep first w (Retry next) u =
    subst (λ (x : State). RunsHere FlowStep first w x u) is before.0 in
    let here : SeesOn (Retry next) w u = subst (λ (x : State). SeesOn x w u) is before.1 in
    let same : u.setting ≡ w.setting =
    runs-setting FlowStep true (Next first) w (Retry next) u
    (runs true (Next first) w refl (reading-same w seen) (inl refl)) in
    arrived-stays FlowStep first first next w w u (arrived-first FlowStep first w) runs here same

pub wants-through : (first next : StateName) (w u : World) (s to : State) (new : Tokenizer) → w.current ≡ looks w →
    s ≡ Retry next → (s ≢ Error → Proceeds first w s u) → OnError to (FlowFull next u new) →
    OnError to (FlowFull first w new)
wants-through first next w u s to new seen is become h =
    wants-following first next w u to new (arrived-through first next w u s seen is become) h

-- Of the end of a line.

-- the attempt at its leaf was left
pub accepted-wants : (shuts : Bool) (w u v : World) (next s : State) (new : Tokenizer) → IsTried shuts w →
    Leaves Ok w next u → v ≡ reading u → u.point.index < u.setting.limit →
    OnError s (FlowFull (n.Flow (leaf_end shuts)) v new) → OnError s (LineFull w new)
accepted-wants shuts w u v next s new h l seen lt full =
    weaker s (FlowFull (n.Flow (leaf_end shuts)) v new) (LineFull w new) by full
  where
    met : MeetsOpen (n.Flow (leaf_end shuts)) v → (is_end : Bool) → GetsToOpen is_end Ok w
    met meets is_end =
        let m = meets is_end next u (ap plain (left-after shuts w u next h l)) (sym seen) (inr lt) in
        record {
          to = m.to;
          at = m.at;
          runs = runs-append FlowStep is_end Ok w next u m.to m.at (ThenLeaves Ok w next u Stays l) m.runs;
          opened = m.opened;
        }

    by : FlowFull (n.Flow (leaf_end shuts)) v new → LineFull w new
    by (inl short) = inl short
    by (inr meets) = inr (met meets)

-- a run has become the answer after which the line ends
pub end-wants : (first : StateName) (w : World) (to : State) (mid : Tokenizer) (s : State) (new : Tokenizer) →
    (to ≢ Error → RunsHere FlowStep first w to (world mid)) → OnError to (FlowFull first w mid) →
    OnError s (EndFull to mid new) → OnError s (FlowFull first w new)
end-wants first w to mid s new runs before h = weaker s (EndFull to mid new) (FlowFull first w new) by h
  where
    met : to ≡ Ok → ((is_end : Bool) → GetsToOpen is_end Ok (world mid)) → MeetsOpen first w
    met ok gets is_end s v named from may =
        let fine : to ≢ Error = λ e. let k : Ok ≡ Error = sym ok ∙ e in cc in
        let ran : Runs FlowStep is_end s v Ok (world mid) =
        subst (λ (x : State). Runs FlowStep is_end s v x (world mid)) ok (runs fine is_end s v named from may) in
        let m = gets is_end in
        record {
          to = m.to;
          at = m.at;
          runs = runs-append FlowStep is_end s v Ok (world mid) m.to m.at ran m.runs;
          opened = m.opened;
        }

    after : to ≡ Ok → LineFull (world mid) new → FlowFull first w new
    after ok (inl short) = inl short
    after ok (inr gets) = inr (met ok gets)

    by : EndFull to mid new → FlowFull first w new
    by (inl is) =
        subst (λ (t : Tokenizer). FlowFull first w t) (sym is.1)
        (subst (λ (x : State). OnError x (FlowFull first w mid)) is.0 before)
    by (inr is) = after is.0 is.1
