-- The cells of a text, as far as it may be read.
use Rattle.std.specs.Prelude.{ℕ, zero, suc, nat_lt, if◌then◌else◌, List, [], ◌∷◌}
use Rattle.md_engine.specs.declared.event.Point.{Point}
use Rattle.md_engine.specs.Meaning.{Cell, Feed}
use Rattle.md_engine.specs.Place.{seen_at}
use Rattle.md_engine.specs.Scheme.{cells_left}
use Rattle.md_engine.specs.World.{Setting, after}

-- at most so many cells from a point on
abbrev pub cells_from : Setting → ℕ → Point → List Cell
cells_from x zero p = []
cells_from x (suc n) p =
    if nat_lt p.index x.limit
    then record { byte = seen_at x.bytes p; after = after x p; line = x.line } ∷ cells_from x n (after x p) else []

-- all of them
unfoldable pub text_feed : Setting → Feed
text_feed x p = cells_from x (cells_left x.limit p) p
