-- Where a text may be cut so that its parts stay texts.
use Rattle.std.specs.Prelude.{ℕ, ◌-◌, Bool, ◌||◌, ◌&&◌, ◌==◌, nat_lt, List, length, slice_index}
use Rattle.md_meaning.specs.Preamble.{has_mark}

-- whether a place is an end of the text, is beside a byte of ASCII, or after a byte order mark
abbrev pub is_between : List ℕ → ℕ → Bool
is_between bytes i =
    (i == 0) || (i == length bytes) || nat_lt (slice_index bytes (i - 1)) 128 || nat_lt (slice_index bytes i) 128
    || ((i == 3) && has_mark bytes)
