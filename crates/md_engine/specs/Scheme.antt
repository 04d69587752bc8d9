-- When a tokenizer is at a state, and why going from state to state ends.
--
-- A construct says what each of its states needs, and how far it is from taking what is here. What follows an attempt
-- is given to it as an `After`: what is asked where it ends. So no construct looks at the attempts around it.
use Rattle.std.specs.Prelude.{◌≡◌, refl, ℕ, zero, suc, ◌+◌, ◌-◌, ◌*◌, ◌%◌, ◌<◌, ◌≤◌, nat_lt, ◌⊎◌, true, false}
use Rattle.std.specs.Prelude.{if◌then◌else◌, List, [], ◌∷◌, Option}
use Rattle.md_engine.specs.declared.event.Point.{Point}
use Rattle.md_engine.specs.declared.state.Name.{Name as StateName}
use Rattle.md_engine.specs.declared.state.State.{State}
use Rattle.md_engine.specs.declared.state.State.TheVariants.{Error, Ok, Nok, Next, Retry}
use Rattle.md_engine.specs.declared.tokenizer.Frame.{Frame}
use Rattle.md_engine.specs.declared.tokenizer.Scratch.{Scratch}
use Rattle.md_engine.specs.Run.{Remains, plain}
use Rattle.md_engine.specs.World.{Setting, World, looks_at}

-- where a construct is
pub record Position : Type 0 where
  pub setting : Setting
  pub point : Point
  pub scratch : Scratch

abbrev pub position : World → Position
position w = record { setting = w.setting; point = w.point; scratch = w.scratch }

abbrev pub moved_to : Position → Point → Scratch → Position
moved_to x p s = record x { point = p; scratch = s }

abbrev pub spot_at : Setting → Point → Scratch → Position
spot_at t p s = record { setting = t; point = p; scratch = s }

-- the same text and options, where more may be read and more lines are begun
pub record Grown (old new : Setting) : Type 0 where
  pub bytes : new.bytes ≡ old.bytes
  pub options : new.options ≡ old.options
  pub limit : old.limit ≤ new.limit

-- what is here
abbrev pub seen : Position → Option ℕ
seen x = looks_at x.setting x.point

-- what is asked of the position where a construct ends
pub record After : Type 1 where
  pub ok : Position → Type 0
  pub nok : Position → Type 0
  -- no attempt is around it
  pub outermost : Type 0

-- how far a state is from the next byte: a number below 64, so that one byte fewer counts for more than all ranks
pub record Rank : Type 0 where
  pub number : ℕ
  pub low : nat_lt number 64 ≡ true

-- a rank that is written down; no number from 64 on can be
abbrev pub ranked : (number : ℕ) → nat_lt number 64 ≡ true → Rank
ranked number low = record { number = number; low = low }

-- what the states of a table need, and how far each is from the next byte among the states of its level; a frame that
-- continues with a state counts as many as it has tries
pub record Scheme : Type 1 where
  pub ready : StateName → Position → After → Type 0
  pub level : StateName → ℕ
  pub rank : StateName → Position → Rank
  pub tries : StateName → Rank

-- at most so many bytes and columns are left, and one fewer after each
abbrev pub cells_left : ℕ → Point → ℕ
cells_left limit p = 4 * (limit - p.index) + (3 - (p.column + 3) % 4)

-- it grows with each that is taken
abbrev pub cells_before : Point → ℕ
cells_before p = 4 * p.index + (p.column + 3) % 4

abbrev pub state_level : Scheme → State → ℕ
state_level T (Next n) = T.level n
state_level T (Retry n) = T.level n
state_level T _ = 0

abbrev pub state_rank : Scheme → State → Position → ℕ
state_rank T (Next n) x = (T.rank n x).number + 1
state_rank T (Retry n) x = (T.rank n x).number + 1
state_rank T _ x = 0

abbrev pub state_number : Scheme → State → Position → ℕ
state_number T (Next n) x = 64 * cells_left x.setting.limit x.point + (T.rank n x).number + 1
state_number T (Retry n) x = 64 * cells_left x.setting.limit x.point + (T.rank n x).number + 1
state_number T _ x = 0

-- an attempt is known by what it continues with
abbrev pub keyed : (StateName → ℕ) → State → State → ℕ
keyed g (Next n) _ = g n
keyed g (Retry n) _ = g n
keyed g _ (Next n) = g n
keyed g _ (Retry n) = g n
keyed g _ _ = 0

abbrev pub frame_level : Scheme → Frame → ℕ
frame_level T f = keyed T.level f.nok f.ok

abbrev pub frame_rank : Scheme → Frame → ℕ
frame_rank T f = keyed (λ n. (T.tries n).number) f.nok f.ok

abbrev pub frame_number : Scheme → ℕ → Frame → ℕ
frame_number T limit f = 64 * cells_left limit f.point + frame_rank T f + 1

abbrev pub base : ℕ → ℕ
base limit = 256 * limit + 300

-- a power
unfoldable pub raised : ℕ → ℕ → ℕ
raised b zero = 1
raised b (suc l) = b * raised b l

abbrev pub frames_work : Scheme → ℕ → List Frame → ℕ
frames_work T limit [] = 0
frames_work T limit (f ∷ fs) = frame_number T limit f * raised (base limit) (frame_level T f) + frames_work T limit fs

abbrev pub state_work : Scheme → State → Position → ℕ
state_work T st x = state_number T st x * raised (base x.setting.limit) (state_level T st)

-- it falls with every call, and with every attempt that is left
abbrev pub work : Scheme → World → State → ℕ
work T w st = state_work T st (position w) + frames_work T w.setting.limit w.frames

abbrev pub holds : Scheme → State → Position → After → Type 0
holds T (Next n) x K = T.ready n x K
holds T (Retry n) x K = T.ready n x K
holds T Ok x K = K.ok x
holds T Nok x K = K.nok x
holds T Error x K = Unit {0}

-- an attempt may continue here, below what it set aside
pub record Resumes (T : Scheme) (f : Frame) (st : State) (x : Position) (K : After) : Type 0 where
  pub valid : holds T st x K
  pub level : state_level T st ≤ frame_level T f
  pub falls : state_number T st x < frame_number T x.setting.limit f

abbrev pub top : After
top = record { ok = λ x. Unit {0}; nok = λ x. Unit {0}; outermost = Unit {0} }

abbrev pub after_frame : Scheme → Frame → After → After
after_frame T f K = record {
  ok = λ x. Resumes T f f.ok (if f.is_check then record x { point = f.point } else x) K;
  nok = λ x. Resumes T f f.nok (record x { point = f.point }) K;
  outermost = ⊥;
}

-- what is asked where the innermost attempt ends
abbrev pub after_all : Scheme → List Frame → After
after_all T [] = top
after_all T (f ∷ fs) = after_frame T f (after_all T fs)

-- the tokenizer is at a state
abbrev pub valid : Scheme → World → State → Type 0
valid T w st = holds T st (position w) (after_all T w.frames)

-- a later point, or the same
pub record Reaches (limit : ℕ) (p q : Point) : Type 0 where
  pub cells : (p ≡ q) ⊎ ((cells_before p < cells_before q) × (p.index < limit))
  pub before : cells_before p ≤ cells_before q

-- a later point
pub record Passes (limit : ℕ) (p q : Point) : Type 0 where
  pub cells : cells_before p < cells_before q
  pub inside : p.index < limit

-- wherever a construct ends with such scratch, one may continue
pub record Ends (P Q : Scratch → Type 0) (x : Position) (K : After) : Type 0 where
  pub ok : (s : Scratch) (q : Point) (t : Setting) → P s → Grown x.setting t → Reaches t.limit x.point q →
      K.ok (spot_at t q s)
  pub nok : (s : Scratch) (q : Point) (t : Setting) → Q s → Grown x.setting t → K.nok (spot_at t q s)

-- the same of a construct that accepts only after the point where it begins
pub record EndsLater (P Q : Scratch → Type 0) (x : Position) (K : After) : Type 0 where
  pub ok : (s : Scratch) (q : Point) (t : Setting) → P s → Grown x.setting t → Passes t.limit x.point q →
      K.ok (spot_at t q s)
  pub nok : (s : Scratch) (q : Point) (t : Setting) → Q s → Grown x.setting t → K.nok (spot_at t q s)

-- what an attempt owes when it begins: what it continues with is ready, and below what it sets aside
pub record Tries (T : Scheme) (f : Frame) (P Q : Scratch → Type 0) (x : Position) (K : After) : Type 0 where
  pub ok : (s : Scratch) (q : Point) (t : Setting) → P s → Grown x.setting t → Reaches t.limit x.point q →
      holds T f.ok (if f.is_check then spot_at t x.point s else spot_at t q s) K
  pub ok_level : state_level T f.ok ≤ frame_level T f
  pub ok_rank : (s : Scratch) (t : Setting) → P s → Grown x.setting t →
      state_rank T f.ok (spot_at t x.point s) < frame_rank T f + 1
  pub nok : (s : Scratch) (t : Setting) → Q s → Grown x.setting t → holds T f.nok (spot_at t x.point s) K
  pub nok_level : state_level T f.nok ≤ frame_level T f
  pub nok_rank : (s : Scratch) (t : Setting) → Q s → Grown x.setting t →
      state_rank T f.nok (spot_at t x.point s) < frame_rank T f + 1

-- what an attempt that is no check owes, where what it tries accepts only after the point where it begins: there so
-- much less is left that what it continues with may have any rank
pub record TriesLater (T : Scheme) (f : Frame) (P Q : Scratch → Type 0) (x : Position) (K : After) : Type 0 where
  pub moves_on : f.is_check ≡ false
  pub ok : (s : Scratch) (q : Point) (t : Setting) → P s → Grown x.setting t → Passes t.limit x.point q →
      holds T f.ok (spot_at t q s) K
  pub ok_level : state_level T f.ok ≤ frame_level T f
  pub nok : (s : Scratch) (t : Setting) → Q s → Grown x.setting t → holds T f.nok (spot_at t x.point s) K
  pub nok_level : state_level T f.nok ≤ frame_level T f
  pub nok_rank : (s : Scratch) (t : Setting) → Q s → Grown x.setting t →
      state_rank T f.nok (spot_at t x.point s) < frame_rank T f + 1

-- a state's call keeps what the table needs, falls, and goes nowhere where it stays
abbrev pub Good : Scheme → StateName → World → State → World → Type 0
Good T n w to new = valid T new (plain to) × (work T new (plain to) < work T w (Next n)) × Remains to w new

-- a table has a state as its construct has it
pub record Fits (T own : Scheme) (n : StateName) : Type 1 where
  pub ready : (x : Position) (K : After) → own.ready n x K → T.ready n x K
  pub level : T.level n ≡ own.level n
  pub rank : (x : Position) → T.rank n x ≡ own.rank n x
  pub tries : T.tries n ≡ own.tries n

abbrev pub FitsState : Scheme → Scheme → State → Type 1
FitsState T own (Next n) = Fits T own n
FitsState T own (Retry n) = Fits T own n
FitsState T own _ = Unit {1}

-- the scheme of a table, by the construct that owns each state
abbrev pub of_owners : (StateName → Scheme) → Scheme
of_owners owner = record {
  ready = λ n x K. (owner n).ready n x K;
  level = λ n. (owner n).level n;
  rank = λ n x. (owner n).rank n x;
  tries = λ n. (owner n).tries n;
}

-- states that a table does not have
abbrev pub nowhere : Scheme
nowhere = record { ready = λ n x K. ⊥; level = λ n. 0; rank = λ n x. ranked 0 refl; tries = λ n. ranked 0 refl }
