-- Calls that take several states at once, one after another.
use Rattle.std.proofs.Common.{◌≡◌, ◌≢◌, ◌<◌, ◌⊎◌, inl, refl}
use Rattle.md_engine.specs.declared.state.Name.{Name as StateName}
use Rattle.md_engine.specs.declared.state.State.{State}
use Rattle.md_engine.specs.declared.state.State.TheVariants.{Error, Retry}
use Rattle.md_engine.specs.declared.tokenizer.Tokenizer.{Tokenizer}
use Rattle.md_engine.specs.Full.{OnError}
use Rattle.md_engine.specs.World.{World, looks, world}
use Rattle.md_engine.proofs.Loops.{ArrivedHere}
use Rattle.md_registry.specs.States.{FlowStep}
use Rattle.md_registry.proofs.LinesAtOnce.{proceeds-through, runs-on}
use Rattle.md_at_once.specs.AtOnce.{FlowFull, IsEnded, IsFlowRun, IsLineEnd, IsShort, Proceeds}
use Rattle.md_at_once.proofs.WantOfMemory.{end-wants, wants-following, wants-through}

-- one that answers want of memory, since a list has no room
pub run-short : (name : StateName) (old : World) (new : Tokenizer) → IsShort new → IsFlowRun name old Error new
run-short name old new short = record {
  runs = λ fine. absurd (fine refl);
  sees = λ fine. absurd (fine refl);
  full = inl short;
}

-- one has reached a state, where one was or something may be read, and a call takes it with those after it
pub run-on : (first next : StateName) (w u : World) (to : State) (new : Tokenizer) →
    ArrivedHere FlowStep first w next u → u.current ≡ looks u →
    (u.point ≡ w.point) ⊎ (u.point.index < u.setting.limit) → IsFlowRun next u to new → IsFlowRun first w to new
run-on first next w u to new arrived seen there run =
    let all = λ (fine : to ≢ Error).
    runs-on first next w u to (world new) arrived (run.runs fine) (run.sees fine) seen there in
    record {
      runs = λ fine. (all fine).0;
      sees = λ fine. (all fine).1;
      full = wants-following first next w u to new arrived run.full;
    }

-- a run has answered another state that stays, and a call takes that with those after it
pub run-through : (first next : StateName) (w u : World) (s to : State) (new : Tokenizer) → w.current ≡ looks w →
    s ≡ Retry next → (s ≢ Error → Proceeds first w s u) → IsFlowRun next u to new → IsFlowRun first w to new
run-through first next w u s to new seen is become run =
    let all = λ (fine : to ≢ Error).
    proceeds-through first next w u s to (world new) seen is become (λ saw. (run.runs fine, run.sees fine)) in
    record {
      runs = λ fine. (all fine).0;
      sees = λ fine. (all fine).1;
      full = wants-through first next w u s to new seen is become run.full;
    }

-- a run has answered, and a call ends the line after that
pub run-ends : (first : StateName) (w : World) (to : State) (mid : Tokenizer) (s : State) (new : Tokenizer) →
    w.current ≡ looks w → (to ≢ Error → Proceeds first w to (world mid)) → OnError to (FlowFull first w mid) →
    IsEnded to mid s new → IsFlowRun first w s new
run-ends first w to mid s new seen become wants ended =
    let all = λ (fine : s ≢ Error). ended.is_continued fine first w seen (become (ended.fine fine)) in
    record {
      runs = λ fine. (all fine).0;
      sees = λ fine. (all fine).1;
      full = end-wants first w to mid s new (λ begins. (become begins).0) wants ended.full;
    }

-- one that only ends a line is a run
pub line-run : (name : StateName) (old : World) (answer : State) (new : Tokenizer) → IsLineEnd name old answer new →
    IsFlowRun name old answer new
line-run name old answer new h = record { runs = h.runs; sees = λ fine. h.sees fine old; full = h.full }
