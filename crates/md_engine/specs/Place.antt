-- Points of a text.
use Rattle.std.specs.Prelude.{◌≡◌, ℕ, zero, suc, ◌+◌, ◌*◌, ◌^◌, ◌%◌, ◌<◌, ◌≤◌, Bool, ◌&&◌, ◌||◌, ◌==◌, not}
use Rattle.std.specs.Prelude.{if◌then◌else◌, List, length, slice_index, nat_lt, nat_le, Option, Some, None}
use Rattle.md_engine.specs.declared.event.Point.{Point}

-- LF and CR; CR LF is one line ending
abbrev pub is_ending : ℕ → Bool
is_ending b = (b == 10) || (b == 13)

abbrev pub is_pair : List ℕ → ℕ → Bool
is_pair bytes i = (slice_index bytes i == 13) && (slice_index bytes (i + 1) == 10)

-- what a state sees at a point: each line ending as LF, and the columns of a tab after its first as spaces
abbrev pub seen_at : List ℕ → Point → ℕ
seen_at bytes p =
    if is_ending (slice_index bytes p.index) then 10
    else if (slice_index bytes p.index == 9) && nat_lt 0 p.vs then 32
    else slice_index bytes p.index

-- the point after a line ending, a column of a tab, or another byte
abbrev pub stepped : ℕ → Bool → Point → Point
stepped byte pair p =
    if is_ending byte
    then record { line = p.line + 1; column = 1; index = if pair then p.index + 2 else p.index + 1; vs = 0 }
    else if (byte == 9) && not (p.column % 4 == 0) then record p { column = p.column + 1; vs = p.vs + 1 }
    else record p { column = p.column + 1; index = p.index + 1; vs = 0 }

-- the point after what is seen at a point
abbrev pub next_point : List ℕ → Point → Point
next_point bytes p = stepped (slice_index bytes p.index) (is_pair bytes p.index) p

abbrev pub first_point : Point
first_point = record { line = 1; column = 1; index = 0; vs = 0 }

-- the point that one reaches from the first by so many steps
unfoldable pub walked : List ℕ → ℕ → Point
walked bytes zero = first_point
walked bytes (suc n) = next_point bytes (walked bytes n)

-- one of the points of a text: one reaches it, so its line is 1 plus the endings before it, and its column 1 plus the
-- columns before it on its line
abbrev pub IsReached : List ℕ → Point → Type 0
IsReached bytes p = (n : ℕ) × (p ≡ walked bytes n)

-- a point within a text, with numbers that leave room to continue
pub record IsPlaced (bytes : List ℕ) (p : Point) : Type 0 where
  pub sized : length bytes < 2 ^ 61
  pub index : p.index ≤ length bytes
  pub line : p.line ≤ p.index + 1
  pub column : p.column ≤ 4 * p.index + p.vs + 1
  pub vs : p.vs ≤ (p.column + 3) % 4
  pub reached : ∥ IsReached bytes p ∥₁

-- where a line begins, if that is known: never before its first byte
abbrev pub begun_at : Option Point → Point → Point
begun_at None p = p
begun_at (Some s) p = if nat_le p.index s.index then s else p
