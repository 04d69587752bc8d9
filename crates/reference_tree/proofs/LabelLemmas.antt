-- The label of a footnote, read byte by byte.
use Rattle.std.proofs.Common.{ℕ, List, ◌++◌, Option, Some, None}
use Rattle.md_meaning.specs.Containers.{Labelled}

-- with these bytes before it
abbrev pub label_following : List ℕ → Option Labelled → Option Labelled
label_following before None = None
label_following before (Some l) = Some (record { label = before ++ l.label; after = l.after })
