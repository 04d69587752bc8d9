-- A call leads to no state of a higher level, and begins no attempt at one: a number at a higher level weighs more than
-- all that there is below, and the number of a tokenizer falls.
use Rattle.std.proofs.Common.{◌≡◌, ℕ, ◌+◌, ◌*◌, ◌<◌, ◌≤◌, Bool, true, false, List, [], ◌∷◌, ◌++◌, refl, ap, ◌∙◌, subst}
use Rattle.std.proofs.Common.{arith, nat_lt}
use Rattle.std.proofs.Math.Nat.{mul-le-mul_right}
use Rattle.std.proofs.lemmas.Bool.Decides.{nat_tests}
use Rattle.md_engine.specs.declared.state.Name.{Name as StateName}
use Rattle.md_engine.specs.declared.state.State.{State}
use Rattle.md_engine.specs.declared.state.State.TheVariants.{Error, Ok, Nok, Next, Retry}
use Rattle.md_engine.specs.declared.tokenizer.Frame.{Frame}
use Rattle.md_engine.specs.Run.{plain}
use Rattle.md_engine.specs.Scheme.{Scheme, base, frame_level, frame_number, frames_work, position, raised}
use Rattle.md_engine.specs.Scheme.{state_level, state_number, state_work, work}
use Rattle.md_engine.specs.World.{Setting, World}
use Rattle.md_engine.proofs.Points.{rank-low}
use Rattle.md_engine.proofs.Powers.{weighs_with}

-- no attempt of these is at a higher level
abbrev pub AreLow : Scheme → ℕ → List Frame → Type 0
AreLow T l [] = Unit {0}
AreLow T l (f ∷ fs) = (frame_level T f ≤ l) × AreLow T l fs

-- a number at a higher level weighs more
heavier : (limit n k m l : ℕ) → n < base limit → k < l → 1 ≤ m → n * raised (base limit) k < m * raised (base limit) l
heavier limit n k m l small lt some =
    let low = weighs_with limit n 0 1 k 0 l (omega arith) (omega arith) small lt in
    let more = mul-le-mul_right (raised (base limit) l) some in
    omega (arith, low, more)

frames-append : (T : Scheme) (limit : ℕ) (fs gs : List Frame) →
    frames_work T limit (fs ++ gs) ≡ frames_work T limit fs + frames_work T limit gs
frames-append T limit [] gs = omega arith
frames-append T limit (f ∷ fs) gs = let more = frames-append T limit fs gs in omega (arith, more)

-- all attempts weigh less than a number that is not too large at this level
low-frames : (T : Scheme) (limit n l : ℕ) (fs : List Frame) → n < base limit →
    frames_work T limit fs < n * raised (base limit) l → AreLow T l fs
low-frames T limit n l [] small lt = tt
low-frames T limit n l (f ∷ fs) small lt =
    (go (nat_lt l (frame_level T f)) refl, low-frames T limit n l fs small (omega (arith, lt)))
  where
    go : (t : Bool) → nat_lt l (frame_level T f) ≡ t → frame_level T f ≤ l
    go false e = grind (arith, nat_tests)
    go true e =
        let above : l < frame_level T f = grind (arith, nat_tests) in
        let more = heavier limit n l (frame_number T limit f) (frame_level T f) small above (omega arith) in
        absurd (omega (arith, lt, more))

low-name : (T : Scheme) (limit n l : ℕ) (m : StateName) (w : World) → w.setting.limit ≡ limit → n < base limit →
    state_work T (Next m) (position w) < n * raised (base limit) l → T.level m ≤ l
low-name T limit n l m w at small lt = go (nat_lt l (T.level m)) refl
  where
    go : (t : Bool) → nat_lt l (T.level m) ≡ t → T.level m ≤ l
    go false e = grind (arith, nat_tests)
    go true e =
        let above : l < T.level m = grind (arith, nat_tests) in
        let more = heavier limit n l (state_number T (Next m) (position w)) (T.level m) small above (omega arith) in
        let here : state_number T (Next m) (position w) * raised (base limit) (T.level m) <
        n * raised (base limit) l = subst
        (λ (k : ℕ). state_number T (Next m) (position w) * raised (base k) (T.level m) < n * raised (base limit) l)
        at lt in
        absurd (omega (arith, here, more))

low-state : (T : Scheme) (limit n l : ℕ) (to : State) (w : World) → w.setting.limit ≡ limit → n < base limit →
    state_work T (plain to) (position w) < n * raised (base limit) l → state_level T to ≤ l
low-state T limit n l Ok w at small lt = omega arith
low-state T limit n l Nok w at small lt = omega arith
low-state T limit n l Error w at small lt = omega arith
low-state T limit n l (Next m) w at small lt = low-name T limit n l m w at small lt
low-state T limit n l (Retry m) w at small lt = low-name T limit n l m w at small lt

-- So a call leads no higher.
pub record CallsLow (T : Scheme) (l : ℕ) (to : State) (begun : List Frame) : Type 0 where
  pub state : state_level T to ≤ l
  pub frames : AreLow T l begun

pub calls-low : (T : Scheme) (name : StateName) (w : World) (to : State) (new : World) (begun : List Frame) →
    new.frames ≡ begun ++ w.frames → new.setting ≡ w.setting → work T new (plain to) < work T w (Next name) →
    CallsLow T (T.level name) to begun
calls-low T name w to new begun frames same falls = record {
  state = low-state T limit size l to new at small (omega (arith, lighter));
  frames = low-frames T limit size l begun small (omega (arith, lighter));
}
  where
    limit : ℕ
    limit = w.setting.limit

    l : ℕ
    l = T.level name

    size : ℕ
    size = state_number T (Next name) (position w)

    small : size < base limit
    small = let low = rank-low (T.rank name (position w)) in omega (arith, low)

    at : new.setting.limit ≡ limit
    at = ap (λ (x : Setting). x.limit) same

    lighter : state_work T (plain to) (position new) + frames_work T limit begun < size * raised (base limit) l
    lighter =
        let all : frames_work T new.setting.limit new.frames ≡ frames_work T limit (begun ++ w.frames) =
        ap (λ (k : ℕ). frames_work T k new.frames) at ∙ ap (frames_work T limit) frames in
        let parts = frames-append T limit begun w.frames in
        omega (arith, falls, all, parts)
