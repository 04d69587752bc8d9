-- The lines of cells, as a definition is read: further lines without leading spaces and tabs.
use Rattle.std.specs.Prelude.{ℕ, Bool, true, false, ◌&&◌, ◌==◌, if◌then◌else◌, List, [], ◌∷◌, Option, Some, None}
use Rattle.std.specs.List.{onto_first}
use Rattle.md_meaning.specs.Enclosed.{Lines}
use Rattle.md_meaning.specs.Rest.{is_white}
use Rattle.md_engine.specs.Meaning.{Cell}

-- What is left of them. `led` says that whitespace before a further line may come first.
unfoldable pub cell_lines : Bool → List Cell → List (List ℕ)
cell_lines led [] = [] ∷ []
cell_lines led (c ∷ cs) =
    if c.byte == 10 then [] ∷ cell_lines true cs
    else if led && is_white c.byte then cell_lines true cs
    else onto_first c.byte (cell_lines false cs)

-- the text before a mark and what follows that, if it is the one that closes
unfoldable pub lines_closed : ℕ → Bool → List Cell → List Cell → Option Lines
lines_closed closer led text [] = None
lines_closed closer led text (c ∷ cs) =
    if c.byte == closer then Some (record { text = cell_lines led text; rest = cell_lines false cs }) else None
