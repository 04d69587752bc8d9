-- What states take and count one after another, to stay where they are, and what all of it becomes.
use Rattle.std.specs.Prelude.{◌≡◌, ℕ, zero, suc, ◌+◌, ◌-◌, ◌^◌, ◌<◌, ◌≤◌, nat_lt, Bool, true, ◌&&◌, ◌==◌, not}
use Rattle.std.specs.Prelude.{List, slice_index, Some}
use Rattle.md_engine.specs.declared.class.Class.{Class}
use Rattle.md_engine.specs.declared.class.Class.TheVariants as class
use Rattle.md_engine.specs.declared.event.Point.{Point}
use Rattle.md_engine.specs.declared.state.Name.{Name as StateName}
use Rattle.md_engine.specs.declared.state.State.TheVariants.{Next}
use Rattle.md_engine.specs.declared.stay.Stay.{Stay}
use Rattle.md_engine.specs.declared.stay.Stay.TheVariants as stay
use Rattle.md_engine.specs.declared.tokenizer.Scratch.{Scratch}
use Rattle.md_engine.specs.Classes.{has, is_white}
use Rattle.md_engine.specs.Run.{Step, reading}
use Rattle.md_engine.specs.Scheme.{Scheme, valid}
use Rattle.md_engine.specs.World.{Setting, World, after, looks}

-- a byte of a class is at a point, before the index `end`
abbrev pub IsOf : Class → List ℕ → ℕ → Point → Type 0
IsOf c bytes end p = (p.index < end) × (has c (slice_index bytes p.index) ≡ true)

-- the point that one reaches by so many steps
unfoldable pub along : Setting → ℕ → Point → Point
along x zero p = p
along x (suc n) p = after x (along x n p)

-- all bytes of a class that are here are taken, one after another, up to the index `end` at most
pub record TakesAll (c : Class) (end : ℕ) (w w' : World) : Type 0 where
  pub count : ℕ
  pub new : w' ≡ record w { point = along w.setting count w.point }
  pub each : (k : ℕ) → k < count → IsOf c w.setting.bytes end (along w.setting k w.point)
  pub ends : ¬ IsOf c w.setting.bytes end w'.point

-- what is at the point is seen and taken,
abbrev pub took : World → World
took w = record w { current = looks w; point = after w.setting w.point }

-- so many times
unfoldable pub took_all : ℕ → World → World
took_all zero w = w
took_all (suc n) w = took (took_all n w)

-- all bytes of a class that are here are seen and taken, one after another, as far as the text may be read
abbrev pub IsSeen : Class → World → Type 0
IsSeen c w = IsOf c w.setting.bytes w.setting.limit w.point

pub record SeesSpan (c : Class) (w w' : World) : Type 0 where
  pub count : ℕ
  pub new : w' ≡ took_all count w
  pub each : (k : ℕ) → k < count → IsSeen c (took_all k w)
  pub ends : ¬ IsSeen c w'

-- so many spaces and columns of tabs that are here are seen and taken, one after another,
abbrev pub SeesWhite : World → Type 0
SeesWhite w = (w.point.index < w.setting.limit) × (is_white (slice_index w.setting.bytes w.point.index) ≡ true)

pub data TookColumns (w : World) : ℕ → World → Type 0 where
  NoColumn : TookColumns w zero w
  OneColumn : (n : ℕ) (v : World) → TookColumns w n v → SeesWhite v → TookColumns w (suc n) (took v)

-- and all of them, up to a limit
pub record SeesColumns (most : ℕ) (w : World) (count : ℕ) (w' : World) : Type 0 where
  pub some : TookColumns w count w'
  pub within : count ≤ most
  pub ends : count < most → ¬ SeesWhite w'

-- what a state takes that stays, after what was counted
abbrev pub takes : Stay → Scratch → ℕ → Bool
takes stay.Line s b = not (b == 10)
takes stay.Word s b = has class.Word b
takes stay.Plain s b = has class.Plain b
takes stay.White s b = is_white b && nat_lt s.whitespace.size s.whitespace.max
takes (stay.Byte one) s b = b == one
takes (stay.UpTo one most) s b = (b == one) && nat_lt s.size most
takes stay.Markers s b = (b == s.marker) && nat_lt s.size (2 ^ 64 - 1)
takes stay.ToMarker s b = not (b == 10) && not (b == s.marker)

abbrev pub counted : Stay → Scratch → Scratch
counted stay.White s = record s { whitespace = record s.whitespace { size = s.whitespace.size + 1 } }
counted (stay.UpTo one most) s = record s { size = s.size + 1 }
counted stay.Markers s = record s { size = s.size + 1 }
counted _ s = s

abbrev pub Sees : Stay → World → Type 0
Sees k w = (b : ℕ) × (looks w ≡ Some b) × (takes k w.scratch b ≡ true)

-- it is seen, taken and counted,
abbrev pub stayed : Stay → World → World
stayed k w = record (took w) { scratch = counted k w.scratch }

-- some times,
pub data SeesSome (k : Stay) (w : World) : World → Type 0 where
  Nothing : SeesSome k w w
  OneMore : (v : World) → SeesSome k w v → Sees k v → SeesSome k w (stayed k v)

-- and as often as it is here, as far as the text may be read
pub record SeesAll (k : Stay) (w w' : World) : Type 0 where
  pub some : SeesSome k w w'
  pub ends : ¬ Sees k w'

-- a state takes and counts this, does nothing else, and stays
pub record StaysOn (T : Step) (S : Scheme) (n : StateName) (k : Stay) : Type 0 where
  pub step : (w : World) (b : ℕ) → looks w ≡ Some b → takes k w.scratch b ≡ true →
      T n (reading w) (Next n) (stayed k w)
  pub ready : (w : World) (b : ℕ) → looks w ≡ Some b → takes k w.scratch b ≡ true → valid S w (Next n) →
      valid S (stayed k w) (Next n)
