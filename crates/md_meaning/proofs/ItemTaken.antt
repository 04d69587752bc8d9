-- What an item leaves of a line is shorter than the line.
use Rattle.std.proofs.Common.{ℕ, ◌+◌, Bool, List, [], ◌∷◌, length, Option, Some, None, arith}
use Rattle.std.proofs.lemmas.List.{length-drop}
use Rattle.md_engine.specs.declared.configuration.ParseOptions.{ParseOptions}
use Rattle.md_meaning.specs.Containers.{Marker, item_by, item_padding, list_marker}
use Rattle.md_meaning.specs.Rest.{Rest, following}
use Rattle.md_meaning.proofs.ColumnLemmas.{item_from}
use Rattle.md_meaning.proofs.TakenLemmas.{Leaves, LeavesFewer, length-lose}
use Rattle.md_meaning.proofs.FindsLemmas.{none-found, some-found, when-found}

pub item-leaves : (options : ParseOptions) (interrupting : Bool) (k column spaces : ℕ) (bytes : List ℕ) →
    LeavesFewer (item_from options interrupting k (record { column = column; spaces = spaces; bytes = bytes }))
    (length bytes)
item-leaves options interrupting k column spaces [] = when-found (Leaves 0) _ _ (λ e. none-found (Leaves 0))
item-leaves options interrupting k column spaces (b ∷ bytes) =
    when-found (Leaves _) _ _ (λ e. go (list_marker (b ∷ bytes)))
  where
    go : (marker : Option Marker) →
        LeavesFewer
        (item_by options interrupting k (record { column = column; spaces = spaces; bytes = b ∷ bytes }) marker)
        (length (b ∷ bytes))
    go None = none-found (Leaves _)
    go (Some marker) =
        let n : ℕ = length marker.digits + 1 in
        let after : Rest = following n (record { column = column; spaces = spaces; bytes = b ∷ bytes }) in
        when-found (Leaves _) _ _
        (λ e.
        some-found (Leaves _) _ (omega (arith, length-lose (item_padding after) after, length-drop n (b ∷ bytes))))
