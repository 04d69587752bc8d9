-- Delimiter runs (CommonMark 6.2).
use Rattle.std.specs.Prelude.{ℕ, Bool, true, false, ◌&&◌, ◌||◌, ◌==◌, not, List, drop}
use Rattle.md_meaning.specs.Ascii.{underscore}
use Rattle.md_meaning.specs.Rest.{run_len}
use Rattle.md_inlines.specs.Characters.{first_bytes, last_bytes, side}
use Rattle.md_inlines.specs.declared.Run.{Run}
use Rattle.md_inlines.specs.declared.Side.{Side}
use Rattle.md_inlines.specs.declared.Side.TheVariants as beside

abbrev pub is_white_side : Side → Bool
is_white_side beside.White = true
is_white_side beside.Punctuation = false
is_white_side beside.Other = false

abbrev pub is_punctuation_side : Side → Bool
is_punctuation_side beside.White = false
is_punctuation_side beside.Punctuation = true
is_punctuation_side beside.Other = false

-- A run is left-flanking if it is not followed by whitespace, and either not followed by punctuation, or preceded by
-- whitespace or punctuation. With its sides exchanged this is right-flanking.
abbrev pub flanks : Side → Side → Bool
flanks before after =
    not (is_white_side after)
    && (not (is_punctuation_side after) || is_white_side before || is_punctuation_side before)

-- whether a run opens, and whether it closes (rules 1 to 8; `_` has a further condition)
abbrev pub opens : ℕ → Side → Side → Bool
opens mark before after =
    flanks before after && (not (mark == underscore) || not (flanks after before) || is_punctuation_side before)

abbrev pub closes : ℕ → Side → Side → Bool
closes mark before after =
    flanks after before && (not (mark == underscore) || not (flanks before after) || is_punctuation_side after)

abbrev pub run_beside : ℕ → ℕ → Side → Side → Run
run_beside mark size before after = record {
  mark = mark;
  size = size;
  left = size;
  opens = opens mark before after;
  closes = closes mark before after;
}

-- the run of this byte that comes first in a text, after another
unfoldable pub run_at : ℕ → List ℕ → List ℕ → Run
run_at mark before text =
    let size : ℕ = run_len mark text in
    run_beside mark size (side (last_bytes before)) (side (first_bytes (drop size text)))
