-- How the entries of an outline grow.
use Rattle.std.proofs.Common.{◌≡◌, List, [], ◌∷◌, ◌++◌}
use Rattle.std.proofs.lemmas.List.{map_push}
use Rattle.md_meaning.specs.declared.outline.OutlineLine.{OutlineLine}
use Rattle.md_meaning.specs.Outline.{entry_of, entries_of}

-- a line that is added is the last
pub entries_push : (lines : List OutlineLine) (line : OutlineLine) →
    entries_of (lines ++ line ∷ []) ≡ entries_of lines ++ entry_of line ∷ []
entries_push lines line = map_push entry_of lines line
