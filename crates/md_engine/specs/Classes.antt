-- Classes of bytes, of which a state takes many at once.
use Rattle.std.specs.Prelude.{◌≡◌, ℕ, ◌<◌, ◌≤◌, nat_lt, Bool, true, false, ◌&&◌, ◌||◌, ◌==◌, not}
use Rattle.std.specs.Prelude.{List, length, slice_index}
use Rattle.md_engine.specs.declared.class.Class.{Class}
use Rattle.md_engine.specs.declared.class.Class.TheVariants.{Plain, Text, Word}
use Rattle.md_engine.specs.Place.{is_ending}

-- after such a byte the line continues, one column further
abbrev pub is_continued : ℕ → Bool
is_continued b = not (is_ending b || (b == 9))

-- a byte that a construct may give a meaning: one of `"'()<>[\]|`, or U+007F
abbrev pub is_mark : ℕ → Bool
is_mark b =
    (b == 34) || (b == 39) || (b == 40) || (b == 41) || (b == 60) || (b == 62) || (b == 91) || (b == 92) || (b == 93)
    || (b == 124) || (b == 127)

-- which of these a class has
abbrev pub admits : Class → ℕ → Bool
admits Text b = true
admits Word b = not (b == 32)
admits Plain b = nat_lt 32 b && not (is_mark b)

abbrev pub has : Class → ℕ → Bool
has c b = is_continued b && admits c b

-- a space or a tab; in a tab a state sees spaces
abbrev pub is_white : ℕ → Bool
is_white b = (b == 32) || (b == 9)

-- so many bytes of a class are in front, and no more
pub record IsSpan (c : Class) (bytes : List ℕ) (n : ℕ) : Type 0 where
  pub within : n ≤ length bytes
  pub each : (k : ℕ) → k < n → has c (slice_index bytes k) ≡ true
  pub ends : n < length bytes → has c (slice_index bytes n) ≡ false
