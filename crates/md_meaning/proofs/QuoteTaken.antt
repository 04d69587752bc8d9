-- What a quote leaves of a line is shorter than the line.
use Rattle.std.proofs.Common.{ℕ, ◌+◌, Bool, true, false, cond, ◌&&◌, List, [], ◌∷◌, length, Option, Some, None, refl}
use Rattle.std.proofs.Common.{arith}
use Rattle.std.proofs.lemmas.List.{length-drop}
use Rattle.md_engine.specs.declared.configuration.ParseOptions.{ParseOptions}
use Rattle.md_meaning.specs.declared.alert.AlertKind.{AlertKind}
use Rattle.md_meaning.specs.Alert.{alert_at, marker_of}
use Rattle.md_meaning.specs.Containers.{Taken, taken_as, with_kind}
use Rattle.md_meaning.specs.Preamble.{rest_at}
use Rattle.md_meaning.specs.Rest.{Rest, following, after_indent, indent, lose}
use Rattle.md_meaning.specs.State.{InQuote}
use Rattle.md_meaning.proofs.ColumnLemmas.{quote_from}
use Rattle.md_meaning.proofs.TakenLemmas.{Leaves, LeavesFewer, length-lose}
use Rattle.md_meaning.proofs.FindsLemmas.{none-found, some-found, when-found}

pub quote-leaves : (options : ParseOptions) (kind : Option AlertKind) (k column spaces : ℕ) (bytes : List ℕ) →
    LeavesFewer (quote_from options kind k (record { column = column; spaces = spaces; bytes = bytes })) (length bytes)
quote-leaves options kind k column spaces [] = go _
  where
    go : (x : Bool) →
        LeavesFewer
        (cond (x && false) (Some (record { container = InQuote kind; rest = lose 1 (rest_at (column + 1) []) })) None) 0
    go true = none-found (Leaves 0)
    go false = none-found (Leaves 0)
quote-leaves options kind k column spaces (b ∷ bytes) =
    when-found (Leaves _) _ _ (λ e. some-found (Leaves _) _ (omega (arith, length-lose 1 (rest_at (column + 1) bytes))))

-- so does the kind
pub kind-leaves : (options : ParseOptions) (o : Option Taken) (n : ℕ) → LeavesFewer o n →
    LeavesFewer (with_kind options o) n
kind-leaves options None n h = none-found (Leaves n)
kind-leaves options (Some t) n h = go (alert_at options t.rest)
  where
    go : (a : Option AlertKind) → LeavesFewer (Some (taken_as t a)) n
    go None = h
    go (Some kind) =
        let marker : Rest = after_indent t.rest in
        let after : Rest = following (length (marker_of kind)) marker in
        some-found (Leaves n) _
        (omega (
          arith,
          h t refl,
          length-lose (indent t.rest) t.rest,
          length-drop (length (marker_of kind)) marker.bytes,
          length-lose (indent after) after,
        ))
