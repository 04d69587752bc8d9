-- What a footnote definition leaves of a line is shorter than the line.
use Rattle.std.proofs.Common.{ℕ, ◌+◌, false, List, [], ◌∷◌, length, drop, Option, Some, None, arith}
use Rattle.std.proofs.lemmas.List.{length-drop}
use Rattle.md_engine.specs.declared.configuration.ParseOptions.{ParseOptions}
use Rattle.md_meaning.specs.Containers.{Labelled, footnote_by, footnote_label}
use Rattle.md_meaning.specs.Rest.{Rest, following, indent}
use Rattle.md_meaning.proofs.ColumnLemmas.{footnote_from}
use Rattle.md_meaning.proofs.TakenLemmas.{Leaves, LeavesFewer, length-lose}
use Rattle.md_meaning.proofs.FindsLemmas.{none-found, some-found, when-found}

pub footnote-leaves : (options : ParseOptions) (k column spaces : ℕ) (bytes : List ℕ) →
    LeavesFewer (footnote_from options k (record { column = column; spaces = spaces; bytes = bytes })) (length bytes)
footnote-leaves options k column spaces [] = when-found (Leaves 0) _ _ (λ e. none-found (Leaves 0))
footnote-leaves options k column spaces (b ∷ bytes) =
    when-found (Leaves _) _ _ (λ e. go (footnote_label false (drop 2 (b ∷ bytes))))
  where
    go : (label : Option Labelled) →
        LeavesFewer (footnote_by (record { column = column; spaces = spaces; bytes = b ∷ bytes }) label)
        (length (b ∷ bytes))
    go None = none-found (Leaves _)
    go (Some l) =
        let n : ℕ = length l.label + 4 in
        let from : Rest = following n (record { column = column; spaces = spaces; bytes = b ∷ bytes }) in
        when-found (Leaves _) _ _
        (λ e. some-found (Leaves _) _ (omega (arith, length-lose (indent from) from, length-drop n (b ∷ bytes))))
