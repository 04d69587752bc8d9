-- A tokenizer within attempts, and where one of them ends.
use Rattle.std.proofs.Common.{◌≡◌, Bool, true, false, List, [], ◌∷◌, ◌++◌, length, refl, subst}
use Rattle.std.specs.List.{All}
use Rattle.std.proofs.Math.Seq.{take-append_seam}
use Rattle.std.proofs.lemmas.List.Elements.{All-take}
use Rattle.md_engine.specs.declared.state.Name.{Name as StateName}
use Rattle.md_engine.specs.declared.state.State.{State}
use Rattle.md_engine.specs.declared.state.State.TheVariants.{Error, Ok, Nok, Next, Retry}
use Rattle.md_engine.specs.declared.tokenizer.Frame.{Frame}
use Rattle.md_engine.specs.Run.{IsEnd, left, plain}
use Rattle.md_engine.specs.World.{World}

-- the tokenizer, as if no more than these attempts were around
abbrev pub inner : World → List Frame → World
inner v fs = record v { frames = fs }

pub left-inner : (v : World) (fs outer gs : List Frame) (f : Frame) (back : Bool) →
    inner (left v outer f back) gs ≡ left (inner v fs) gs f back
left-inner v fs outer gs f true = refl
left-inner v fs outer gs f false = refl

pub left-outer : (v : World) (outer : List Frame) (f : Frame) (back : Bool) → (left v outer f back).frames ≡ outer
left-outer v outer f true = refl
left-outer v outer f false = refl

pub not-empty : (fs : List Frame) (f : Frame) → [] ≡ fs ++ f ∷ [] → ⊥
not-empty [] f e = cc
not-empty (g ∷ fs) f e = cc

pub all-front : (P : Frame → Type 0) (fs gs : List Frame) → All P (fs ++ gs) → All P fs
all-front P fs gs are = subst (All P) (take-append_seam fs gs) (All-take P (length fs) (fs ++ gs) are)

-- a state that is called has not ended
pub not-ended : (t : State) (name : StateName) → plain t ≡ Next name → IsEnd t → ⊥
not-ended Ok name e end = cc
not-ended Nok name e end = cc
not-ended Error name e end = absurd end
not-ended (Next m) name e end = absurd end
not-ended (Retry m) name e end = absurd end
