-- Code spans (CommonMark 6.1), and math, which is read as they are.
use Rattle.std.specs.Prelude.{ℕ, suc, Bool, false, ◌&&◌, ◌==◌, not, if◌then◌else◌, List, [], ◌∷◌, drop, Option, Some}
use Rattle.std.specs.Prelude.{None}
use Rattle.std.specs.Prelude.{option_map}
use Rattle.md_meaning.specs.Rest.{run_len}
use Rattle.md_inlines.specs.declared.Raw.{Raw}

-- How many bytes are before the next run of exactly so many of a byte. `within` says that the byte before is one too,
-- so that no run begins here.
abbrev pub before_run : ℕ → ℕ → Bool → List ℕ → Option ℕ
before_run mark size within [] = None
before_run mark size within (b ∷ text) =
    if (b == mark) && not within && (run_len mark (b ∷ text) == size) then Some 0
    else option_map suc (before_run mark size (b == mark) text)

-- a run that comes first, and what is between it and the next of its size
unfoldable pub raw_at : ℕ → List ℕ → Option Raw
raw_at mark text =
    let size : ℕ = run_len mark text in
    option_map (λ (len : ℕ). record { size = size; inside = len }) (before_run mark size false (drop size text))
