-- The rest of a line as it is in the text.
use Rattle.std.specs.Prelude.{ℕ, List, ◌++◌}
pub use Rattle.md_meaning.specs.Rest.{cut_tab}
use Rattle.md_meaning.specs.Rest.{Rest}

-- its bytes: a tab that is cut is counted among them
abbrev pub rest_line : Rest → List ℕ
rest_line r = cut_tab r.spaces ++ r.bytes
